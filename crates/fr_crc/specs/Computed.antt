-- The two CRCs as numbers: what the register holds after the message.
use Rattle.std.specs.Prelude.{ℕ, Bool, List}
use Rattle.fr_base.specs.declared.channel.Channel.{Channel}
use Rattle.fr_crc.specs.Bits.{bits, message_of, number_of_bits}
use Rattle.fr_crc.specs.Crc.{header_generator, header_start, header_message, frame_generator, frame_start}
use Rattle.fr_crc.specs.Register.{after}

-- the header CRC of sync and startup indicator, frame ID and payload length
unfoldable pub header_crc_of : Bool → Bool → ℕ → ℕ → ℕ
header_crc_of sync startup id words =
    number_of_bits (after header_generator header_start (header_message sync startup id words))

-- the frame CRC of the bytes of header and payload on a channel
unfoldable pub frame_crc_of : Channel → List ℕ → ℕ
frame_crc_of channel body =
    number_of_bits (after frame_generator (bits 24 (frame_start channel)) (message_of body))
