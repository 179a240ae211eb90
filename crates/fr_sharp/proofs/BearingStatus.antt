-- How operation control bears double cycles in which terms are missing.
use Rattle.std.proofs.Common.{◌≡◌, ℕ, suc, ◌+◌, ◌<◌, ◌≤◌, ◌&&◌, Bool, true, false, sym, refl, subst, arith}
use Rattle.std.specs.Prelude.{min, nat_le}
use Rattle.std.proofs.lemmas.Bool.Decides.{nat_tests}
use Rattle.fr_base.specs.States.{cut_of}
use Rattle.fr_base.specs.declared.state.Outcome.{Outcome}
use Rattle.fr_base.specs.declared.state.Outcome.TheVariants.{Within, Missing, Exceeded}
use Rattle.fr_base.specs.declared.state.State.{State}
use Rattle.fr_base.specs.declared.state.State.TheVariants.{Active}
use Rattle.fr_cluster.specs.Sane.{IsSane}
use Rattle.fr_cluster.specs.Values.{Values}
use Rattle.fr_poc.specs.Control.{Status, status_after, step_of}
use Rattle.fr_poc.specs.Limits.{limits_of}
use Rattle.fr_poc.specs.declared.control.PocLimits.{PocLimits}
use Rattle.fr_sharp.specs.Bearing.{borne_outcome}

-- what is borne is not outside its limit
pub calm_outcome : (o : Outcome) → borne_outcome o ≡ Within → cut_of o ≡ 0
calm_outcome Within is = refl
calm_outcome Missing is = refl
calm_outcome Exceeded is = absurd (cc)

-- a node is active, and has had terms missing in no more double cycles in a row than so
abbrev pub StandsBy : Status → ℕ → Type 0
StandsBy status missed = (status.state ≡ Active) × (status.bad ≤ missed)

-- one more with both within, and one more with one missing
after_within : (limits : PocLimits) (status : Status) (missed : ℕ) → status.state ≡ Active → StandsBy (step_of limits status Within Within) missed
after_within limits status missed active =
    let By : State → Type 0 = λ s. StandsBy (status_after limits status s Within) missed in
    subst By (sym active) (refl, omega arith)

limits_suffice : (halts : Bool) (passive fatal bad missed : ℕ) → bad ≤ missed → suc missed < passive → passive ≤ fatal → (halts && nat_le fatal (min (bad + 1) 15) ≡ false) × (nat_le passive (min (bad + 1) 15) ≡ false)
limits_suffice halts passive fatal bad missed few less order = (by halts, grind (arith, nat_tests))
  where
    fails : nat_le fatal (min (bad + 1) 15) ≡ false
    fails = grind (arith, nat_tests)

    by : (halts : Bool) → (halts && nat_le fatal (min (bad + 1) 15)) ≡ false
    by true = fails
    by false = refl

after_missing : (limits : PocLimits) (status : Status) (missed : ℕ) → status.state ≡ Active → status.bad ≤ missed → suc missed < limits.passive → limits.passive ≤ limits.fatal
    → StandsBy (status_after limits status status.state Missing) (suc missed)
after_missing limits status missed active few less order =
    let By : State → Type 0 = λ s. StandsBy (status_after limits status s Missing) (suc missed) in
    let never = limits_suffice limits.halt_allowed limits.passive limits.fatal status.bad missed few less order in
    subst By (sym active) (rw (never.0, never.1) active, at_most status.bad missed few)
  where
    at_most : (bad missed : ℕ) → bad ≤ missed → min (bad + 1) 15 ≤ suc missed
    at_most bad missed few = grind arith

pub limits_in_order : (p : Values) → IsSane p → (limits_of p).passive ≤ (limits_of p).fatal
limits_in_order p sane = sane.constraints.passive_first

-- where no term is missing but in so many double cycles in a row
pub stands_on : (limits : PocLimits) (status : Status) (offset rate : Outcome) (missed : ℕ) → limits.passive ≤ limits.fatal → status.state ≡ Active → status.bad ≤ missed → suc missed < limits.passive
    → borne_outcome offset ≡ Within → borne_outcome rate ≡ Within → StandsBy (step_of limits status offset rate) (suc missed)
stands_on limits status Within Within missed order active few less one other = after_within limits status (suc missed) active
stands_on limits status Within Missing missed order active few less one other = after_missing limits status missed active few less order
stands_on limits status Missing Within missed order active few less one other = after_missing limits status missed active few less order
stands_on limits status Missing Missing missed order active few less one other = after_missing limits status missed active few less order
stands_on limits status Exceeded rate missed order active few less one other = absurd (cc)
stands_on limits status Within Exceeded missed order active few less one other = absurd (cc)
stands_on limits status Missing Exceeded missed order active few less one other = absurd (cc)

pub stands_within : (limits : PocLimits) (status : Status) (offset rate : Outcome) (missed : ℕ) → status.state ≡ Active → offset ≡ Within → rate ≡ Within → StandsBy (step_of limits status offset rate) missed
stands_within limits status offset rate missed active one other =
    let First : Outcome → Type 0 = λ o. StandsBy (step_of limits status o rate) missed in
    let Second : Outcome → Type 0 = λ o. StandsBy (step_of limits status Within o) missed in
    subst First (sym one) (subst Second (sym other) (after_within limits status missed active))
