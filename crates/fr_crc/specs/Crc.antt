-- The cyclic redundancy checks of a frame: remainders of a division without carry.
use Rattle.std.specs.Prelude.{◌≡◌, ℕ, ◌<◌, ◌^◌, Bool, true, List, ◌∷◌, ◌++◌, length}
use Rattle.fr_base.specs.declared.channel.Channel.{Channel}
use Rattle.fr_base.specs.declared.channel.Channel.TheVariants.{A, B}
use Rattle.fr_crc.specs.Bits.{xor, zeros, mul, bits, message_of}

-- The remainder of a message. The generator stands without its first bit, which is 1. With n bits of
-- message and W bits of remainder, start * x^n + message * x^W is the quotient times the generator, and
-- the remainder.
pub record IsCrc (generator start message remainder : List Bool) : Type 0 where
  pub start_width : length start ≡ length generator
  pub width : length remainder ≡ length generator
  pub quotient : List Bool
  pub quotient_length : length quotient ≡ length message
  pub division : xor (start ++ zeros (length message)) (message ++ zeros (length generator)) ≡ xor (mul quotient (true ∷ generator)) (zeros (length message) ++ remainder)

-- x^11 + x^9 + x^8 + x^7 + x^2 + 1, without its first term
abbrev pub header_generator : List Bool
header_generator = bits 11 0x385

-- the start value of the header CRC on both channels
abbrev pub header_start : List Bool
header_start = bits 11 0x01A

-- the twenty bits of the header that its CRC covers: sync and startup indicator, frame ID, payload length
abbrev pub header_message : Bool → Bool → ℕ → ℕ → List Bool
header_message sync startup id words = sync ∷ startup ∷ (bits 11 id ++ bits 7 words)

-- the header CRC of these fields
pub record IsHeaderCrc (sync startup : Bool) (id words crc : ℕ) : Type 0 where
  pub fits : crc < 2 ^ 11
  pub remainder : IsCrc header_generator header_start (header_message sync startup id words) (bits 11 crc)

-- the generator of the frame CRC, without its first term x^24
abbrev pub frame_generator : List Bool
frame_generator = bits 24 0x5D6DCB

-- the start value of the frame CRC, by channel
abbrev pub frame_start : Channel → ℕ
frame_start A = 0xFEDCBA
frame_start B = 0xABCDEF

-- the frame CRC of the bytes of header and payload on a channel
pub record IsFrameCrc (channel : Channel) (body : List ℕ) (crc : ℕ) : Type 0 where
  pub fits : crc < 2 ^ 24
  pub remainder : IsCrc frame_generator (bits 24 (frame_start channel)) (message_of body) (bits 24 crc)
