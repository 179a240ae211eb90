use Rattle.std.proofs.Common.{◌≡◌, ◌<◌, ℕ, pos, Some, length, get_or}
use Rattle.fr_params.specs.Names.{place}
use Rattle.fr_params.specs.Draft.{entry}
use Rattle.fr_params.specs.Versions.{name_at, row_name}
use Rattle.fr_params.proofs.reading.all_numbers.Given as goal

-- the numbers so far are those of their rows
abbrev pub invariant-loop-place : goal.invariant-loop-place
invariant-loop-place l = record {
  long : length l.numbers ≡ 20;
  taken : (k : ℕ) → k < l.place → entry l.values (place (row_name l.version (name_at k))) ≡ Some (get_or l.numbers k (pos 0));
}
