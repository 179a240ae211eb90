use Rattle.std.proofs.Common.{take, All}
use Rattle.fr_skew.specs.Alike.{HasTerms}
use Rattle.fr_skew.proofs.alike.have_terms.Given as goal

-- the rows so far have these terms
abbrev pub invariant-loop-row : goal.invariant-loop-row
invariant-loop-row l = All (HasTerms l.rate l.offset) (take l.row-index l.rows)
