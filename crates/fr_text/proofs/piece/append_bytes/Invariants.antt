use Rattle.std.proofs.Common.{◌≡◌, ◌+◌, ◌*◌, ◌++◌, length, take}
use Rattle.std.specs.List.{flat_map}
use Rattle.fr_text.specs.Numerals.{hexadecimal}
use Rattle.fr_text.proofs.piece.append_bytes.Given as goal

abbrev pub invariant-loop-byte : goal.invariant-loop-byte
invariant-loop-byte l = (l.line ≡ l.initial.line ++ flat_map (hexadecimal 2) (take l.byte-index l.bytes)) × (length l.line ≡ length l.initial.line + 2 * l.byte-index)
