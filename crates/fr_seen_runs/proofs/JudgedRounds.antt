-- The values of the nodes with rows of a double cycle that is judged, and the midpoints that they apply.
use Rattle.std.proofs.Common.{◌≡◌, ℕ, suc, ◌*◌, ◌<◌, ℤ, pos, List, ◌∷◌, length, ap, sym, ◌∙◌, subst, arith}
use Rattle.std.specs.Prelude.{Contains}
use Rattle.fr_base.specs.States.{cut_of}
use Rattle.fr_base.specs.declared.state.Outcome.TheVariants.{Within}
use Rattle.fr_base.specs.declared.state.State.TheVariants.{Active}
use Rattle.fr_cluster.specs.Questions.{own_index}
use Rattle.fr_cluster.specs.Setting.{Setting, correct_nodes}
use Rattle.fr_cluster.specs.Values.{Values}
use Rattle.fr_cluster.specs.declared.nodes.NodeSpec.{NodeSpec}
use Rattle.fr_cluster.proofs.Elements.{kept_filtered}
use Rattle.fr_correct.specs.Terms.{rate_term_of}
use Rattle.fr_measure.specs.Deviations.{rate_values_by}
use Rattle.fr_bound.specs.SharpSpreads.{sharply_near_in}
use Rattle.fr_bound.specs.declared.judging.Heard.{Heard}
use Rattle.fr_bound.specs.declared.judging.Known.{Known}
use Rattle.fr_precision.specs.Step.{Member}
use Rattle.fr_history.specs.Cycles.{Cycle, Cycles, told_of}
use Rattle.fr_history.specs.History.{row_for}
use Rattle.fr_history.specs.Standing.{has_row, row_nodes}
use Rattle.fr_history.specs.Terms.{status_in}
use Rattle.fr_runs.specs.Gathered.{row_hearer}
use Rattle.fr_runs.specs.Numbers.{HasDouble, HasRowIn}
use Rattle.fr_runs.specs.Rounds.{IsDoubleOf}
use Rattle.fr_runs.proofs.Courses.{is_correct_row}
use Rattle.fr_runs.proofs.Parts.{cycle_within}
use Rattle.fr_runs.proofs.Rows.{has_row as row_there}
use Rattle.fr_runs.proofs.Standing.{told_has}
use Rattle.fr_runs.proofs.Whole.{prior_of}
use Rattle.fr_sharp.specs.JudgedSteps.{AppliesMidpoints, GoesOnJudged}
use Rattle.fr_runs.specs.SharpHistories.{EndsWell}
use Rattle.fr_precision.specs.SharpRound.{as_member}
use Rattle.fr_runs.specs.SteadyRuns.{AreRowsInReach}
use Rattle.fr_sharp.proofs.JudgedLaws.{unfollowed_goes_on_lem}
use Rattle.fr_runs.proofs.RowsSupplied.{LawfulRows}
use Rattle.fr_promise.proofs.RunDoubles.{goes_on, member_among, members_found, IsCalm}
use Rattle.fr_promise.proofs.TimedRuns.{have_rows, rows_of}
use Rattle.fr_seen_runs.specs.ComputedValues.{ComputesOffset, ComputesRate, OffsetsAreMidpoints, RatesGrowByMidpoints}
use Rattle.fr_seen_runs.specs.JudgedTerms.{IsJudgedRun}
use Rattle.fr_runs.proofs.RowsNumbers.{here, next_here}
use Rattle.fr_seen_runs.proofs.ComputedRounds.{computes_offset, computes_rate, AreApplying}

module _ (what : Heard) (x : Setting) (flutter : ℕ) (h : Cycles) (double : ℕ) (known : Known) (j : IsJudgedRun what x flutter h double known) where
  abbrev reach : ℤ
  reach = pos (sharply_near_in x.params known.spread)

  short : double < x.doubles
  short =
      let below : 2 * double < length h = cycle_within h (2 * double) j.is.even j.is.has_even in
      let whole : length h ≡ 2 * x.doubles = j.run.whole in
      omega (arith, below, whole)

  goes : GoesOnJudged what x flutter h double known
  goes = (unfollowed_goes_on_lem what x 0 flutter h double known j.run (omega arith) short j.hears j.each j.is j.judged).0

  -- ---- behind the cycles before it

  module _ (earlier : Cycles) (even odd : Cycle) (d : IsDoubleOf h double earlier even odd) where
    rows : LawfulRows x flutter earlier even odd double
    rows = rows_of x 0 flutter h j.run double (omega arith) earlier even odd d

    among : (node : NodeSpec) → HasRowIn x even node → Contains (row_nodes x earlier) node
    among node has =
        kept_filtered (λ (n : NodeSpec). has_row x earlier n.id) (correct_nodes x) node has.correct
        (sym (told_has x earlier even node rows.even_runs has.correct) ∙ has.row)

    applies : (node : NodeSpec) → Contains (row_nodes x earlier) node → AppliesMidpoints x.params (as_member x.params (row_hearer x even odd node.id))
    applies node here =
        let Has : List Member → Type 0 = λ some. Contains some (as_member x.params (row_hearer x even odd node.id)) in
        goes.applies (as_member x.params (row_hearer x even odd node.id))
        (subst Has (sym (members_found x h double earlier even odd d)) (member_among x flutter earlier even odd double rows node here))

    abbrev next_rate : NodeSpec → ℤ
    next_rate node = (as_member x.params (row_hearer x even odd node.id)).rate_term.value

    pub are_applying : AreApplying x earlier even odd next_rate
    are_applying = record {
      among = among;
      offset = λ node here. (applies node here).offset;
      grows = λ node here. let own = applies node here in record { middle = own.middle; is = own.is_middle; near = own.grown };
    }

    reached : AreRowsInReach x earlier even odd reach
    reached = goes.reached earlier even odd d

    pub offset_computed : (node : NodeSpec) → HasRowIn x even node → ComputesOffset x double even odd node
    offset_computed = computes_offset x flutter earlier even odd double reach next_rate rows reached are_applying

    pub rate_computed : (node : NodeSpec) → HasRowIn x even node
        → ((next_even next_odd : Cycle) → HasDouble h (suc double) next_even next_odd → (row_for next_even.told.rows node.id).rate ≡ next_rate node)
        → ComputesRate x flutter h double even odd node
    rate_computed = computes_rate x flutter earlier even odd double reach next_rate rows reached are_applying h

    -- ---- and in the next one

    uncut_at : (node : NodeSpec) → Contains (row_nodes x earlier) node
        → ((as_member x.params (row_hearer x even odd node.id)).offset_term.outcome ≡ Within) × ((as_member x.params (row_hearer x even odd node.id)).rate_term.outcome ≡ Within)
    uncut_at node here =
        let p : Values = x.params in
        let ends : EndsWell x earlier even odd = goes.keeps.ends earlier even odd d in
        let correct = is_correct_row x earlier node here in (
          ends.offset_within node correct,
          sym
              (
              ap (λ (id : ℕ). (rate_term_of (row_for odd.told.rows node.id).rate p.damping p.rate_limit (rate_values_by p even.told.devs odd.told.devs id (own_index p node.id))).outcome)
              (row_there (row_nodes x earlier) odd.told.rows node rows.two.odd_rows.nodes here).number
              )
              ∙ ends.rate_within node correct,
        )

    calm : (node : NodeSpec) → Contains (row_nodes x earlier) node → IsCalm (as_member x.params (row_hearer x even odd node.id))
    calm node here = let both = uncut_at node here in (ap cut_of both.0, ap cut_of both.1)

    stays : (node : NodeSpec) → Contains (row_nodes x earlier) node → (status_in x.params (told_of (odd ∷ even ∷ earlier)) node.id).state ≡ Active
    stays node here =
        let ends : EndsWell x earlier even odd = goes.keeps.ends earlier even odd d in
        ends.active node (is_correct_row x earlier node here)

    rate_next : (even2 odd2 : Cycle) → IsDoubleOf h (suc double) (odd ∷ even ∷ earlier) even2 odd2 → (node : NodeSpec) → Contains (row_nodes x earlier) node
        → (row_for even2.told.rows node.id).rate ≡ (as_member x.params (row_hearer x even odd node.id)).rate_term.value
    rate_next even2 odd2 next node here =
        let reached = goes.reached earlier even odd d in
        (goes_on x flutter earlier even odd double rows reached.active_even reached.active_odd calm stays even2 odd2 (rows_of x 0 flutter h j.run (suc double) (omega arith) (odd ∷ even ∷ earlier) even2 odd2 next)
        (have_rows x 0 flutter h j.run double j.each earlier even odd d) node here).next.even_rate

-- ---- the laws

pub offsets_are_midpoints : OffsetsAreMidpoints
offsets_are_midpoints what x flutter h double known even odd node j two has =
    let at = here h double even odd two in
    offset_computed what x flutter h double known j at.earlier even odd at.is node has

pub rates_grow_by_midpoints : RatesGrowByMidpoints
rates_grow_by_midpoints what x flutter h double known even odd node j two has =
    let at = here h double even odd two in
    rate_computed what x flutter h double known j at.earlier even odd at.is node has
    (λ even2 odd2 next.
    let there = next_here h double even odd even2 odd2 two next in
    let before = prior_of h double there.earlier even odd even2 odd2 there.is in
    rate_next what x flutter h double known j there.earlier even odd before even2 odd2 there.is node (among what x flutter h double known j there.earlier even odd before node has))
