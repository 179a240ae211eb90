-- The frames of a recording: the longest list whose bytes, one frame after the other, are a front of the bytes.
use Rattle.std.specs.Prelude.{◌≡◌, ℕ, ◌+◌, ◌≤◌, List, [], ◌∷◌, ◌++◌, length}
use Rattle.fr_base.specs.declared.channel.Channel.{Channel}
use Rattle.fr_frame.specs.declared.header.Header.{Header}
use Rattle.fr_frame.specs.Frame.{IsFrame}

-- a frame of a recording: the place of its first byte, its header and its payload
pub record Found : Type 0 where
  pub place : ℕ
  pub header : Header
  pub payload : List ℕ

-- these bytes are the frame on the channel, at this place, and they stand before those
pub record StandsFirst (channel : Channel) (place : ℕ) (found : Found) (bytes front behind : List ℕ) : Type 0 where
  pub placed : found.place ≡ place
  pub frame : IsFrame channel found.header found.payload front
  pub cut : bytes ≡ front ++ behind

-- the frames stand one after the other at the front of the bytes, the first of them at this place, and a rest behind them
abbrev pub AreFrom : Channel → ℕ → List Found → List ℕ → List ℕ → Type 0
AreFrom channel place [] bytes rest = bytes ≡ rest
AreFrom channel place (found ∷ frames) bytes rest =
    (front : List ℕ) × ((behind : List ℕ) × (StandsFirst channel place found bytes front behind × AreFrom channel (place + length front) frames behind rest))

-- they are the frames of the bytes: no longer list stands there
pub record AreFrames (channel : Channel) (bytes : List ℕ) (frames : List Found) (rest : List ℕ) : Type 0 where
  pub stand : AreFrom channel 0 frames bytes rest
  pub longest : (others : List Found) (behind : List ℕ) → AreFrom channel 0 others bytes behind → length others ≤ length frames
