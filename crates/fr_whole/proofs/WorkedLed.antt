-- The worked files of a run that a node leads are as is asked.
use Rattle.std.proofs.Common.{◌≡◌, ℕ, Bool, false, ℤ, pos, None, List, [], ◌∷◌, refl, ap, sym, subst, inl, inr, arith}
use Rattle.std.specs.Prelude.{◌≢◌, ◌≤ℤ◌, ◌+ℤ◌, Contains}
use Rattle.std.proofs.lemmas.Int.{ints}
use Rattle.fr_bound.specs.SharpBounds.{last_of}
use Rattle.fr_cluster.specs.Setting.{correct_nodes}
use Rattle.fr_cluster.specs.declared.nodes.NodeSpec.{NodeSpec}
use Rattle.fr_cluster.proofs.Elements.{Contains-here, Contains-none}
use Rattle.fr_cluster.proofs.KeyNodes.{Contains-cons_cases}
use Rattle.fr_coverage.specs.Coverage.{gap_of_run}
use Rattle.fr_coverage.specs.Decided.{setting_of}
use Rattle.fr_coverage.specs.First.{first_below, first_in}
use Rattle.fr_coverage.specs.Flutter.{flutter_from, flutter_of, greatest_below, greatest_in}
use Rattle.fr_coverage.proofs.GapParts.{found-of-run}
use Rattle.fr_drift.specs.Held.{held}
use Rattle.fr_drift.specs.Questions.{delay_of, doubles_of, length_of, rate_of, start_of}
use Rattle.fr_history.specs.Worked.{on_a}
use Rattle.fr_script.specs.Deeds.{deed_in}
use Rattle.fr_script.specs.Events.{event_of}
use Rattle.fr_script.specs.View.{deed_of, is_arbitrary, join_of}
use Rattle.fr_promise.specs.SharpJoining.{SharpJoinChecksHold}
use Rattle.fr_sharp.specs.SharpStatement.{has_arbitrary}
use Rattle.fr_sharp.specs.WorkedRun.{steady_cluster}
use Rattle.fr_promise.proofs.SharpWorked.{is_sane}
use Rattle.fr_whole.specs.PowerOn.{JoinsLeader}
use Rattle.fr_whole.specs.WorkedPowerOn.{led_drift, led_script, WorkedRunIsLed}
use Rattle.fr_whole.proofs.PowerOnTexts.{hold_all}

no_gap : gap_of_run steady_cluster led_drift led_script ≡ None
unfolding first_below first_in doubles_of length_of delay_of held is_arbitrary join_of deed_of deed_in event_of
no_gap = refl

flutter_is : flutter_of steady_cluster led_drift led_script ≡ 250
unfolding flutter_from greatest_below greatest_in doubles_of delay_of held is_arbitrary
flutter_is = refl

kind_is : has_arbitrary steady_cluster led_script ≡ false
unfolding is_arbitrary
kind_is = refl

checks_hold : SharpJoinChecksHold false 250 steady_cluster
unfolding last_of
checks_hold = hold_all steady_cluster 250 refl refl refl refl

-- ---- its nodes

correct : correct_nodes (setting_of steady_cluster led_drift led_script) ≡ on_a 1 ∷ on_a 2 ∷ on_a 3 ∷ on_a 4 ∷ []
unfolding is_arbitrary
correct = refl

joins_second : JoinsLeader (join_of led_script 2) 1
unfolding join_of
joins_second = refl

joins_third : JoinsLeader (join_of led_script 3) 1
unfolding join_of
joins_third = refl

joins_last : JoinsLeader (join_of led_script 4) 1
unfolding join_of
joins_last = refl

none_joined : join_of led_script 1 ≡ None
unfolding join_of
none_joined = refl

no_rate : rate_of led_drift 1 ≡ pos 0
unfolding rate_of
no_rate = refl

no_start : start_of led_drift 1 ≡ pos 0
unfolding start_of
no_start = refl

abbrev Joins : NodeSpec → Type 0
Joins node = JoinsLeader (join_of led_script node.id) 1

others : (other : NodeSpec) → Contains (on_a 1 ∷ on_a 2 ∷ on_a 3 ∷ on_a 4 ∷ []) other → other.id ≢ 1 → JoinsLeader (join_of led_script other.id) 1
others other among differs = elim (Contains-cons_cases (on_a 1) (on_a 2 ∷ on_a 3 ∷ on_a 4 ∷ []) other among) [
  | inl first ↦ let e : 1 ≡ other.id = ap (λ (n : NodeSpec). n.id) first in absurd (differs (sym e))
  | inr more ↦ elim (Contains-cons_cases (on_a 2) (on_a 3 ∷ on_a 4 ∷ []) other more) [
    | inl second ↦ subst Joins second joins_second
    | inr rest ↦ elim (Contains-cons_cases (on_a 3) (on_a 4 ∷ []) other rest) [
      | inl third ↦ subst Joins third joins_third
      | inr last ↦ elim (Contains-cons_cases (on_a 4) [] other last) [
        | inl fourth ↦ subst Joins fourth joins_last
        | inr none ↦ absurd (Contains-none other none)
      ]
    ]
  ]
]

at_once : (start : ℤ) (n : ℕ) → start ≡ pos 0 → start ≤ℤ (pos 0 +ℤ pos n)
at_once start n is = omega (arith, ints, is)

pub worked_run_is_led : WorkedRunIsLed
worked_run_is_led =
    let Hold : Bool → Type 0 = λ b. SharpJoinChecksHold b 250 steady_cluster in
    let Nodes : List NodeSpec → NodeSpec → Type 0 = λ nodes node. Contains nodes node in
    record {
      covered = record {
        checks = subst Hold (sym kind_is) checks_hold;
        none = λ g gap behind. (found-of-run steady_cluster led_drift led_script is_sane).0 no_gap g gap;
        flutters = omega (arith, flutter_is);
      };
      first = refl;
      led = record {
        node = on_a 1;
        there = (let Has : List NodeSpec → Type 0 = λ nodes. Nodes nodes (on_a 1) in subst Has (sym correct) (Contains-here (on_a 1) (on_a 2 ∷ on_a 3 ∷ on_a 4 ∷ [])));
        number = refl;
        stays = none_joined;
        uncorrected = no_rate;
        others = λ other among differs. (let Has : List NodeSpec → Type 0 = λ nodes. Nodes nodes other in others other (subst Has correct among) differs);
      };
      starts = λ switches at begin leads. at_once (start_of led_drift 1) _ no_start;
    }
