-- What is written into a cell of a message memory.
use Rattle.std.proofs.Common.{◌≡◌, ℕ, ◌+◌, ◌≤◌, List, ◌++◌, length, drop, ap, arith, length-append}
use Rattle.std.proofs.lemmas.Int.{ints}
use Rattle.std.proofs.lemmas.List.{length-drop}
use Rattle.fr_cluster.specs.Sane.{IsSane}
use Rattle.fr_reception.specs.Regular.{payload_bytes}
use Rattle.fr_cluster.specs.Values.{Values}
use Rattle.fr_cluster.specs.declared.names.ParamName.TheVariants as name
use Rattle.fr_air.proofs.Staying.{few-bytes}
use Rattle.fr_air.specs.Memory.{Held, MemoryView}

-- a frame has at most 262 bytes
pub short : (p : Values) → IsSane p → 8 + payload_bytes p ≤ 262
short p sane = let words = sane.ranges name.gPayloadLengthStatic in omega (arith, ints, words)

-- it has room in a cell
pub in-cell : (p : Values) → IsSane p → (cell : List ℕ) → length cell ≡ 264 → 8 + payload_bytes p ≤ length cell
in-cell p sane cell whole = few-bytes (8 + payload_bytes p) cell (short p sane) whole

-- a frame that is written at the front of bytes is as long as what it took of them
pub written-long : (frame old out : List ℕ) (count : ℕ) → out ≡ frame ++ drop count old → length out ≡ length old → count ≤ length old → length frame ≡ count
written-long frame old out count is same le = omega (arith, ap length is, length-append frame (drop count old), length-drop count old, same, le)

abbrev pub holding : MemoryView → List Held → MemoryView
holding memory held = record memory { held = held }
