-- What a sink has that keeps all.
use Rattle.std.specs.Prelude.{ℕ, List, Some, None}
use Rattle.fr_base.specs.Device.{Sunk}
use Rattle.flexray_c.specs.declared.kept.KeptText.{KeptText}

-- a sink that tells these bytes and not its puts, and has counted no fault
abbrev pub kept : List ℕ → Sunk
kept text = record { written = Some text; faults = 0; puts = None }

-- the bytes put so far
abbrev pub kept_bytes : KeptText → List ℕ
kept_bytes sink = sink.bytes.items

-- how many faults were counted
abbrev pub kept_faults : KeptText → ℕ
kept_faults sink = sink.faults

-- its bytes, which it tells, and its count of faults; it does not tell its puts
abbrev pub kept_state : KeptText → Sunk
kept_state sink = record { written = Some (kept_bytes sink); faults = kept_faults sink; puts = None }
