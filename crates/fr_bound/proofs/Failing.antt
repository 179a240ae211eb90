-- The first check that fails.
use Rattle.std.proofs.Common.{◌≡◌, ℕ, inl, inr, true, false}
use Rattle.std.proofs.lemmas.Bool.{cases_order}
use Rattle.fr_cluster.specs.Values.{Values}
use Rattle.fr_bound.specs.Checks.{holds_of, FirstFailing, FirstFailingToJoin, AllChecksHold, AllJoinChecksHold}

both : (p : Values) (k : ℕ) → holds_of k p ≡ false → holds_of k p ≡ true → ⊥
both p k fails holds = cc

pub none_lem : (p : Values) (number : ℕ) → FirstFailing number p → AllChecksHold p → ⊥
none_lem p number first all = both p number first.fails (all number first.from first.to)

pub one_lem : (p : Values) (number other : ℕ) → FirstFailing number p → FirstFailing other p → number ≡ other
one_lem p number other first second = elim (cases_order number other) [
  | inl same ↦ same
  | inr (inl less) ↦ absurd (both p number first.fails (second.earlier number first.from less))
  | inr (inr more) ↦ absurd (both p other second.fails (first.earlier other second.from more))
]

-- and of those of nodes that join
pub none_to_join : (p : Values) (number : ℕ) → FirstFailingToJoin number p → AllJoinChecksHold p → ⊥
none_to_join p number first all = both p number first.fails (all number first.from first.to)

pub one_to_join : (p : Values) (number other : ℕ) → FirstFailingToJoin number p → FirstFailingToJoin other p → number ≡ other
one_to_join p number other first second = elim (cases_order number other) [
  | inl same ↦ same
  | inr (inl less) ↦ absurd (both p number first.fails (second.earlier number first.from less))
  | inr (inr more) ↦ absurd (both p other second.fails (first.earlier other second.from more))
]
