-- What is written as a frame, and the first reason not to write one.
use Rattle.std.specs.Prelude.{◌≡◌, ◌≢◌, ℕ, ◌+◌, ◌*◌, ◌<◌, ◌≤◌, ◌⊎◌, false, List, length, take, drop, IsTrue}
use Rattle.fr_base.specs.declared.channel.Channel.{Channel}
use Rattle.fr_frame.specs.declared.header.Header.{Header}
use Rattle.fr_frame.specs.declared.fault.EncodeFault.{EncodeFault}
use Rattle.fr_frame.specs.declared.fault.EncodeFault.TheVariants.{BadId, BadCycle, BadPayload, StartupNotSync, Room}
use Rattle.fr_frame.specs.Frame.{IsFrame}

-- a frame ID that a frame may have
pub record HasGoodId (header : Header) : Type 0 where
  pub id_some : 1 ≤ header.id
  pub id_fits : header.id ≤ 2047

-- besides, such a cycle count
pub record HasGoodCycle (header : Header) : Type 0 where
  pub good_id : HasGoodId header
  pub cycle_fits : header.cycle ≤ 63

-- besides, such a payload length, and as many bytes of payload
pub record HasGoodPayload (header : Header) (given : ℕ) : Type 0 where
  pub good_cycle : HasGoodCycle header
  pub words_fit : header.words ≤ 127
  pub payload_length : given ≡ 2 * header.words

-- besides, the startup indicator only beside the sync indicator
pub record HasGoodFlags (header : Header) (given : ℕ) : Type 0 where
  pub good_payload : HasGoodPayload header given
  pub startup_in_sync : IsTrue header.startup → IsTrue header.sync

-- besides, room for the frame: nothing stands against writing it
pub record IsAccepted (header : Header) (given room : ℕ) : Type 0 where
  pub good_flags : HasGoodFlags header given
  pub enough : 8 + given ≤ room

-- a cycle count that is too great
pub record IsBadCycle (header : Header) : Type 0 where
  pub good_id : HasGoodId header
  pub great : 63 < header.cycle

-- the payload length is too great, or the payload has another
pub record IsBadPayload (header : Header) (payload given words : ℕ) : Type 0 where
  pub good_cycle : HasGoodCycle header
  pub bad : (127 < header.words) ⊎ (payload ≢ 2 * header.words)
  pub counted : given ≡ payload
  pub stated : words ≡ header.words

-- a startup frame that is no sync frame
pub record IsStartupAlone (header : Header) (payload : ℕ) : Type 0 where
  pub good_payload : HasGoodPayload header payload
  pub startup : IsTrue header.startup
  pub no_sync : header.sync ≡ false

-- the frame does not fit
pub record IsTooNarrow (header : Header) (payload room needed given : ℕ) : Type 0 where
  pub good_flags : HasGoodFlags header payload
  pub needs : needed ≡ 8 + payload
  pub counted : given ≡ room
  pub few : given < needed

-- the first reason not to write this header with so many bytes of payload into so many bytes
abbrev pub IsFirstRefusal : Header → ℕ → ℕ → EncodeFault → Type 0
IsFirstRefusal header payload room BadId = (header.id ≡ 0) ⊎ (2047 < header.id)
IsFirstRefusal header payload room BadCycle = IsBadCycle header
IsFirstRefusal header payload room (BadPayload given words) = IsBadPayload header payload given words
IsFirstRefusal header payload room StartupNotSync = IsStartupAlone header payload
IsFirstRefusal header payload room (Room needed given) = IsTooNarrow header payload room needed given

-- so many bytes at the start are the frame now, and the rest is as it was
pub record IsEncoded (channel : Channel) (header : Header) (payload before now : List ℕ) (count : ℕ) : Type 0 where
  pub counted : count ≡ 8 + length payload
  pub within : count ≤ length before
  pub frame : IsFrame channel header payload (take count now)
  pub rest : drop count now ≡ drop count before
