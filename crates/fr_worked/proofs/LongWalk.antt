-- The long run of three perfect clocks: each node hears both others alike, so in each double cycle the rates of all are 8
-- microticks greater, until the limit cuts them.
use Rattle.std.proofs.Common.{◌≡◌, ℕ, zero, suc, ◌*◌, ◌%◌, ◌<◌, ◌≤◌, ◌==◌, true, false, ℤ, pos, negsuc, Option, None, Some, List, [], ◌∷◌, All, length, refl, ap, sym, ◌∙◌, lit≤, lit<, arith, ap₂, ◌++◌}
use Rattle.std.specs.Prelude.{◌+ℤ◌, ◌-ℤ◌, ◌*ℤ◌, ◌≤ℤ◌, Contains, int_lt}
use Rattle.std.proofs.lemmas.Int.{ints}
use Rattle.std.proofs.lemmas.List.Elements.{All-contains}
use Rattle.fr_base.specs.Rows.{dev_in}
use Rattle.fr_base.specs.declared.channel.Channel.TheVariants.{A, B}
use Rattle.fr_base.specs.declared.dev.Dev.{Dev}
use Rattle.fr_base.specs.declared.state.Outcome.TheVariants.{Exceeded, Within}
use Rattle.fr_base.specs.States.{cut_of}
use Rattle.fr_base.specs.declared.state.State.TheVariants.{Active, Halt}
use Rattle.fr_cluster.specs.Questions.{own_index}
use Rattle.fr_cluster.specs.Setting.{IsSetting, Setting, correct_nodes}
use Rattle.fr_cluster.specs.declared.nodes.NodeSpec.{NodeSpec}
use Rattle.fr_midpoint.specs.Midpoint.{midpoint_by_ranks, midpoint_of}
use Rattle.fr_time.specs.Position.{even_position, grid_for}
use Rattle.fr_time.specs.Slots.{action_point_of}
use Rattle.fr_correct.specs.Terms.{damped, offset_term_at, rate_term_at, rate_term_of, term_of}
use Rattle.fr_correct.specs.declared.term.Term.{Term}
use Rattle.fr_measure.specs.Deviations.{deviations_of, rate_values_by}
use Rattle.fr_measure.specs.Values.{offset_at, rate_at, values_of}
use Rattle.fr_precision.specs.Round.{offsets_of, rates_of}
use Rattle.fr_precision.specs.Rows.{corrected_end_of}
use Rattle.fr_precision.specs.Step.{Member}
use Rattle.fr_history.specs.Cycles.{Cycle, Cycles, told_of}
use Rattle.fr_history.specs.History.{row_for, row_of}
use Rattle.fr_history.specs.Laws.{row_laws}
use Rattle.fr_history.specs.Lawful.{IsLawful}
use Rattle.fr_history.specs.Next.{cycles_of}
use Rattle.fr_history.specs.Rows.{offset_after}
use Rattle.fr_history.specs.Standing.{row_nodes}
use Rattle.fr_history.specs.Worked.{on_a}
use Rattle.fr_runs.specs.Gathered.{row_hearer}
use Rattle.fr_runs.specs.Links.{Share}
use Rattle.fr_runs.specs.Numbers.{rate_term_told}
use Rattle.fr_runs.specs.Rounds.{IsDoubleOf}
use Rattle.fr_runs.specs.Stated.{all_cycles}
use Rattle.fr_runs.proofs.Going.{rows_ascend}
use Rattle.fr_runs.proofs.Rows.{all_rows, has_row, row_runs_by, each_row}
use Rattle.fr_runs.proofs.RowsHeard.{RowLink}
use Rattle.fr_runs.proofs.Whole.{prior_of}
use Rattle.fr_worked.specs.LongRun.{long_cluster, long_run, LongRunIsCut, LongRunWalks, LongRunHalts, LongRunBegins}
use Rattle.fr_bound.specs.SharpBounds.{last_action, sharp_near, last_of, sharp_lambda, sharp_pi}
use Rattle.fr_runs.specs.SharpHistories.{IsSteadyRun}
use Rattle.fr_precision.specs.SharpRound.{as_member}
use Rattle.fr_precision.specs.SharpRun.{AllUncut}
use Rattle.fr_runs.specs.SteadyRuns.{row_members}
use Rattle.fr_worked.proofs.LongRows.{covered, early_at, even_long, from_none, from_some, is_sane, last_acts, late_at, late_start, odd_long, odd_rates, odd_starts, on_channel, reach, setting, there_1, there_2, there_3, whole_12, whole_2, AlikeAt, other_checks}
use Rattle.fr_runs.proofs.RowsSupplied.{acts_early, counted_in, frames_stored, supplied_at, LawfulRows}
use Rattle.fr_promise.proofs.RunCycles.{stated_runs_are_steady}
use Rattle.fr_promise.proofs.RunDoubles.{all_have, ends_well, goes_on, IsCalm}
use Rattle.fr_sharp.proofs.RunSettles.{histories_begin_active}
use Rattle.fr_promise.proofs.RunSync.{found_at, rows_at}
use Rattle.fr_promise.proofs.SharpWorked.{three}
use Rattle.fr_base.specs.declared.Outcome.{Outcome}
use Rattle.fr_base.specs.declared.node_row.NodeRow.{NodeRow}
use Rattle.fr_poc.specs.Control.{Status, control_of, first_status, status_after, step_of}
use Rattle.fr_poc.specs.Limits.{limits_of}
use Rattle.fr_history.specs.Terms.{offset_term_in, outcomes_in, rate_term_in, status_in}
use Rattle.fr_runs.proofs.Courses.{is_correct_row, row_term_is}
use Rattle.fr_runs.proofs.Outcomes.{outcomes_some}
use Rattle.std.proofs.lemmas.List.{length-append}
use Rattle.std.proofs.lemmas.List.Sums.{fold-append}
use Rattle.fr_sharp.specs.SettlingHistories.{AreStatedNear}
use Rattle.fr_sharp.proofs.RunStated.{stated_runs_begin_in_sharp_sync}

-- ---- what a node hears of another: 5 microticks early in the even cycle and as much late in the odd one

record HeardFrom (evens odds : List Dev) (receiver slot : ℕ) : Type 0 where
  even_a : dev_in evens receiver slot A ≡ Some (negsuc 4)
  odd_a : dev_in odds receiver slot A ≡ Some (pos 5)
  even_b : dev_in evens receiver slot B ≡ None
  odd_b : dev_in odds receiver slot B ≡ None

-- the midpoints of its rate and its offset values
pub record AreTens (rates offsets : List ℤ) : Type 0 where
  pub rate : midpoint_of rates ≡ Some (pos 10)
  pub offset : midpoint_of offsets ≡ Some (pos 5)

values_1 : (evens odds : List Dev) → HeardFrom evens odds 1 2 → HeardFrom evens odds 1 3 → AreTens (values_of (rate_at (deviations_of long_cluster evens odds 1) (own_index long_cluster 1))) (values_of (offset_at (deviations_of long_cluster evens odds 1) (own_index long_cluster 1)))
unfolding values_of midpoint_by_ranks
values_1 evens odds one other =
    let rates : values_of (rate_at (deviations_of long_cluster evens odds 1) (own_index long_cluster 1)) ≡ pos 0 ∷ pos 10 ∷ pos 10 ∷ [] =
    Prim.rw (one.even_a, one.even_b, one.odd_a, other.even_a, other.even_b, other.odd_a) refl in
    let offsets : values_of (offset_at (deviations_of long_cluster evens odds 1) (own_index long_cluster 1)) ≡ pos 0 ∷ pos 5 ∷ pos 5 ∷ [] =
    Prim.rw (one.odd_a, one.odd_b, other.odd_a, other.odd_b) refl in
    record { rate = ap midpoint_of rates ∙ refl; offset = ap midpoint_of offsets ∙ refl }

values_2 : (evens odds : List Dev) → HeardFrom evens odds 2 1 → HeardFrom evens odds 2 3 → AreTens (values_of (rate_at (deviations_of long_cluster evens odds 2) (own_index long_cluster 2))) (values_of (offset_at (deviations_of long_cluster evens odds 2) (own_index long_cluster 2)))
unfolding values_of midpoint_by_ranks
values_2 evens odds one other =
    let rates : values_of (rate_at (deviations_of long_cluster evens odds 2) (own_index long_cluster 2)) ≡ pos 10 ∷ pos 0 ∷ pos 10 ∷ [] =
    Prim.rw (one.even_a, one.even_b, one.odd_a, other.even_a, other.even_b, other.odd_a) refl in
    let offsets : values_of (offset_at (deviations_of long_cluster evens odds 2) (own_index long_cluster 2)) ≡ pos 5 ∷ pos 0 ∷ pos 5 ∷ [] =
    Prim.rw (one.odd_a, one.odd_b, other.odd_a, other.odd_b) refl in
    record { rate = ap midpoint_of rates ∙ refl; offset = ap midpoint_of offsets ∙ refl }

values_3 : (evens odds : List Dev) → HeardFrom evens odds 3 1 → HeardFrom evens odds 3 2 → AreTens (values_of (rate_at (deviations_of long_cluster evens odds 3) (own_index long_cluster 3))) (values_of (offset_at (deviations_of long_cluster evens odds 3) (own_index long_cluster 3)))
unfolding values_of midpoint_by_ranks
values_3 evens odds one other =
    let rates : values_of (rate_at (deviations_of long_cluster evens odds 3) (own_index long_cluster 3)) ≡ pos 10 ∷ pos 10 ∷ pos 0 ∷ [] =
    Prim.rw (one.even_a, one.even_b, one.odd_a, other.even_a, other.even_b, other.odd_a) refl in
    let offsets : values_of (offset_at (deviations_of long_cluster evens odds 3) (own_index long_cluster 3)) ≡ pos 5 ∷ pos 5 ∷ pos 0 ∷ [] =
    Prim.rw (one.odd_a, one.odd_b, other.odd_a, other.odd_b) refl in
    record { rate = ap midpoint_of rates ∙ refl; offset = ap midpoint_of offsets ∙ refl }

-- damping takes 2 of the 10 microticks; and a number within the limit is not cut
damps : (double : ℕ) → damped (pos 2) (pos (8 * double) +ℤ pos 10) ≡ pos (8 * suc double)
damps double =
    let above : int_lt (pos 2) (pos (8 * double) +ℤ pos 10) ≡ true = grind (arith, ints) in
    let less : (pos (8 * double) +ℤ pos 10) -ℤ pos 2 ≡ pos (8 * suc double) = omega (arith, ints) in
    Prim.rw (above) less

uncut_term : (double : ℕ) → 8 * double ≤ 601 → ((term_of (pos 601) (pos (8 * double))).outcome ≡ Within) × ((term_of (pos 601) (pos (8 * double))).value ≡ pos (8 * double))
uncut_term double most =
    let below : int_lt (pos 601) (pos (8 * double)) ≡ false = grind (arith, ints) in
    (Prim.rw (below) refl, Prim.rw (below) refl)

-- an active node whose rate term was cut halts
halts_by : (status : Status) → status.state ≡ Active → (step_of (limits_of long_cluster) status Within Exceeded).state ≡ Halt
halts_by status active = ap (λ s. (status_after (limits_of long_cluster) status s Exceeded).state) active

halts_after : (earlier : Cycles) (even odd : Cycle) (double node : ℕ) (row : NodeRow) → length earlier ≡ 2 * double → row_of odd.told.rows node ≡ Some row
    → (status_in long_cluster (told_of earlier) node).state ≡ Active
    → (offset_term_in long_cluster (told_of (even ∷ earlier)) odd.told.devs row.node).outcome ≡ Within
    → (rate_term_in long_cluster (told_of (even ∷ earlier)) odd.told.devs row).outcome ≡ Exceeded
    → (status_in long_cluster (told_of (odd ∷ even ∷ earlier)) node).state ≡ Halt
halts_after earlier even odd double node row counted some active offset rate =
    let limits = limits_of long_cluster in
    let before = outcomes_in long_cluster (told_of earlier) node in
    let step : Status → Outcome × Outcome → Status = λ status pair. step_of limits status pair.0 pair.1 in
    let pair : Outcome × Outcome =
    ((offset_term_in long_cluster (told_of (even ∷ earlier)) odd.told.devs row.node).outcome, (rate_term_in long_cluster (told_of (even ∷ earlier)) odd.told.devs row).outcome) in
    let both : pair ≡ (Within, Exceeded) = ap₂ (λ (a : Outcome) (b : Outcome). (a, b)) offset rate in
    ap (λ outcomes. (control_of limits outcomes).state) (outcomes_some long_run earlier even odd double node row counted some)
    ∙ ap (λ (status : Status). status.state) (fold-append step first_status before (pair ∷ []))
    ∙ ap (λ pair. (step (status_in long_cluster (told_of earlier) node) pair).state) both
    ∙ halts_by (status_in long_cluster (told_of earlier) node) active

-- cycles that are no more than those that they end with
ends_with : (h later rest : Cycles) → h ≡ later ++ rest → length h ≡ length rest → h ≡ rest
ends_with h [] rest is long = is
ends_with h (c ∷ later) rest is long =
    let more = length-append later rest in
    let whole : length h ≡ suc (length (later ++ rest)) = ap length is in
    absurd (omega (arith, more, whole, long))

module _ (double : ℕ) (start : ℤ) (earlier : Cycles) (even odd : Cycle) (s : LawfulRows long_run 10_000_000 earlier even odd double) (a : AlikeAt double start earlier even odd) (most : 8 * double ≤ 601) where
  abbrev near : ℤ
  near = pos (sharp_near false long_cluster 10_000_000)

  even_turn : (length earlier % 2 == 0) ≡ true
  even_turn = let counted = s.counted in let e : length earlier % 2 ≡ 0 = omega (arith, counted) in ap (λ (n : ℕ). n == 0) e

  odd_turn : (suc (length earlier) % 2 == 0) ≡ false
  odd_turn = let counted = s.counted in let e : suc (length earlier) % 2 ≡ 1 = omega (arith, counted) in ap (λ (n : ℕ). n == 0) e

  heard : (sender receiver : NodeSpec) (slot : ℕ) → RowLink long_run earlier sender receiver slot → ((sender.on_b ≡ true) → ⊥) → HeardFrom even.told.devs odd.told.devs receiver.id slot
  heard sender receiver slot link not_b =
      let r = reach double start earlier even odd s a most in
      let action : ℤ = pos (action_point_of long_cluster slot) in
      let acts : action ≤ℤ pos 3_536 = along action (pos (last_action long_cluster)) (pos 3_536) (acts_early long_run earlier s.covered.sane sender slot link.sends link.key) last_acts in
      let share : Share sender receiver A = record { by_sender = on_channel sender link.sends; by_receiver = on_channel receiver link.hears } in
      record {
        even_a =
            from_some (dev_in even.told.devs receiver.id slot A) (negsuc 4) (frames_stored long_run 10_000_000 earlier even odd double near s r false sender receiver slot A link share refl)
            (λ v is.
            (counted_in long_run 10_000_000 earlier even odd double near s r false sender receiver slot A v link is).counted
            ∙ Prim.rw (
              early_at double start earlier even odd s a most sender link.sends action,
              a.starts receiver link.hears,
              a.rates receiver link.hears,
              even_long double start earlier even odd s a most receiver link.hears,
              even_turn,
            ) (whole_2 start (even_position (grid_for long_cluster) (pos (8 * double)) action)));
        odd_a =
            from_some (dev_in odd.told.devs receiver.id slot A) (pos 5) (frames_stored long_run 10_000_000 earlier even odd double near s r true sender receiver slot A link share refl)
            (λ v is.
            (counted_in long_run 10_000_000 earlier even odd double near s r true sender receiver slot A v link is).counted
            ∙ Prim.rw (
              late_at double start earlier even odd s a most sender link.sends action acts,
              odd_starts double start earlier even odd s a most receiver link.hears,
              odd_rates double start earlier even odd s a most receiver link.hears,
              odd_long double start earlier even odd s a most receiver link.hears,
              odd_turn,
            ) (whole_12 (late_start double start) (even_position (grid_for long_cluster) (pos (8 * double)) action)));
        even_b = from_none (dev_in even.told.devs receiver.id slot B) (λ v is. not_b (counted_in long_run 10_000_000 earlier even odd double near s r false sender receiver slot B v link is).share.by_sender);
        odd_b = from_none (dev_in odd.told.devs receiver.id slot B) (λ v is. not_b (counted_in long_run 10_000_000 earlier even odd double near s r true sender receiver slot B v link is).share.by_sender);
      }
    where
      along : (a b c : ℤ) → a ≤ℤ b → b ≤ℤ c → a ≤ℤ c
      along a b c h k = omega (arith, ints, h, k)

  tens : (node : NodeSpec) → Contains (row_nodes long_run earlier) node → AreTens (rates_of (row_hearer long_run even odd node.id)) (offsets_of (row_hearer long_run even odd node.id))
  tens node among =
      let from = λ (sender receiver : NodeSpec) (here : Contains (row_nodes long_run earlier) sender) (there : Contains (row_nodes long_run earlier) receiver) (slot : ℕ) (key : sender.key ≡ Some slot) (other : (sender.id ≡ receiver.id) → ⊥) (not_b : (sender.on_b ≡ true) → ⊥).
      heard sender receiver slot (record { sends = here; hears = there; key = key; other = other }) not_b in
      All-contains (λ (n : NodeSpec). AreTens (rates_of (row_hearer long_run even odd n.id)) (offsets_of (row_hearer long_run even odd n.id))) (row_nodes long_run earlier) node
      (
      three (λ (n : NodeSpec). AreTens (rates_of (row_hearer long_run even odd n.id)) (offsets_of (row_hearer long_run even odd n.id))) (on_a 1) (on_a 2) (on_a 3)
      (values_1 even.told.devs odd.told.devs (from (on_a 2) (on_a 1) there_2 there_1 2 refl (λ e. omega (arith, e)) (λ e. absurd (cc))) (from (on_a 3) (on_a 1) there_3 there_1 3 refl (λ e. omega (arith, e)) (λ e. absurd (cc))))
      (values_2 even.told.devs odd.told.devs (from (on_a 1) (on_a 2) there_1 there_2 1 refl (λ e. omega (arith, e)) (λ e. absurd (cc))) (from (on_a 3) (on_a 2) there_3 there_2 3 refl (λ e. omega (arith, e)) (λ e. absurd (cc))))
      (values_3 even.told.devs odd.told.devs (from (on_a 1) (on_a 3) there_1 there_3 1 refl (λ e. omega (arith, e)) (λ e. absurd (cc))) (from (on_a 2) (on_a 3) there_2 there_3 2 refl (λ e. omega (arith, e)) (λ e. absurd (cc))))
      )
      among

  -- ---- the terms of a node

  rate_term_is : (node : NodeSpec) → Contains (row_nodes long_run earlier) node
      → (as_member long_cluster (row_hearer long_run even odd node.id)).rate_term ≡ term_of (pos 601) (pos (8 * suc double))
  rate_term_is node among =
      ap (λ (m : Option ℤ). rate_term_at (row_for odd.told.rows node.id).rate (pos 2) (pos 601) m) (tens node among).rate
      ∙ ap (λ (r : ℤ). term_of (pos 601) (damped (pos 2) (r +ℤ pos 10))) (odd_rates double start earlier even odd s a most node among)
      ∙ ap (λ (z : ℤ). term_of (pos 601) z) (damps double)

  offset_term_is : (node : NodeSpec) → Contains (row_nodes long_run earlier) node
      → (as_member long_cluster (row_hearer long_run even odd node.id)).offset_term ≡ term_of (pos 127) (pos 5)
  offset_term_is node among = ap (λ (m : Option ℤ). offset_term_at (pos 127) m) (tens node among).offset

  odd_offset : (node : NodeSpec) → Contains (row_nodes long_run earlier) node → (row_for odd.told.rows node.id).offset ≡ pos 5
  odd_offset node among =
      (supplied_at long_run 10_000_000 earlier even odd double near s (reach double start earlier even odd s a most) (covered.links double (omega arith) s.within) node among).applied
      ∙ ap (λ (t : Term). t.value) (offset_term_is node among)

  abbrev next_start : ℤ
  next_start = late_start double start +ℤ (((pos 200_000 +ℤ pos (8 * double)) +ℤ pos 5) *ℤ pos 1_000_000)

  ends : (node : NodeSpec) → Contains (row_nodes long_run earlier) node → corrected_end_of long_cluster (row_for odd.told.rows node.id) ≡ next_start
  ends node among =
      Prim.rw (
        odd_starts double start earlier even odd s a most node among,
        odd_rates double start earlier even odd s a most node among,
        odd_offset node among,
        odd_long double start earlier even odd s a most node among,
      ) refl

  uncut : 8 * suc double ≤ 601 → AllUncut (row_members long_run earlier even odd)
  uncut more =
      let at : NodeSpec → Member = λ n. as_member long_cluster (row_hearer long_run even odd n.id) in
      let Uncut : Member → Type 0 = λ m. (m.offset_term.outcome ≡ Within) × (m.rate_term.outcome ≡ Within) in
      let own : (n : NodeSpec) → Contains (row_nodes long_run earlier) n → Uncut (at n) = λ n among.
      (ap (λ (t : Term). t.outcome) (offset_term_is n among), ap (λ (t : Term). t.outcome) (rate_term_is n among) ∙ (uncut_term (suc double) more).0) in
      three Uncut (at (on_a 1)) (at (on_a 2)) (at (on_a 3)) (own (on_a 1) there_1) (own (on_a 2) there_2) (own (on_a 3) there_3)

  calm : 8 * suc double ≤ 601 → (node : NodeSpec) → Contains (row_nodes long_run earlier) node → IsCalm (as_member long_cluster (row_hearer long_run even odd node.id))
  calm more node among =
      (ap (λ (t : Term). cut_of t.outcome) (offset_term_is node among), ap (λ (t : Term). cut_of t.outcome) (rate_term_is node among) ∙ ap cut_of (uncut_term (suc double) more).0)

  stays : 8 * suc double ≤ 601 → (node : NodeSpec) → Contains (row_nodes long_run earlier) node → (status_in long_cluster (told_of (odd ∷ even ∷ earlier)) node.id).state ≡ Active
  stays more node among =
      let well = ends_well long_run 10_000_000 earlier even odd double s a.active_even a.active_odd (uncut more) (all_have long_run earlier refl) in
      well.active node (is_correct_row long_run earlier node among)

  next_alike : 8 * suc double ≤ 601 → (even2 odd2 : Cycle) → LawfulRows long_run 10_000_000 (odd ∷ even ∷ earlier) even2 odd2 (suc double) → AlikeAt (suc double) next_start (odd ∷ even ∷ earlier) even2 odd2
  next_alike more even2 odd2 t =
      let follows = λ (n : NodeSpec) (among : Contains (row_nodes long_run earlier) n). goes_on long_run 10_000_000 earlier even odd double s a.active_even a.active_odd (calm more) (stays more) even2 odd2 t (all_have long_run earlier refl) n among in
      record {
        starts = λ n among. (follows n among).start ∙ ends n among;
        rates = λ n among. (follows n among).next.even_rate ∙ ap (λ (r : Term). r.value) (rate_term_is n among) ∙ (uncut_term (suc double) more).1;
        active_even = all_rows (row_nodes long_run earlier) even2.told.rows (λ row. row.state ≡ Active) (rows_ascend long_run earlier is_sane) t.two.even_rows.nodes (λ n among. (follows n among).active_even);
        active_odd = all_rows (row_nodes long_run earlier) odd2.told.rows (λ row. row.state ≡ Active) (rows_ascend long_run earlier is_sane) t.two.odd_rows.nodes (λ n among. (follows n among).active_odd);
      }

module _ (h : Cycles) (w : IsSteadyRun false long_run 10_000_000 h) where
  alike : (double : ℕ) → double < 76 → (earlier : Cycles) (even odd : Cycle) → IsDoubleOf h double earlier even odd → (start : ℤ) × AlikeAt double start earlier even odd
  alike zero within [] even odd d =
      let s = rows_at false long_run 0 10_000_000 h w 0 (omega arith) [] even odd d in
      let active = histories_begin_active false long_run 10_000_000 h w [] even odd d in
      let runs = λ (node : NodeSpec) (among : Contains (row_nodes long_run []) node). row_runs_by (row_laws long_run []) (offset_after long_cluster (told_of []) even.told) (row_nodes long_run []) even.told.rows node s.two.even_rows among in
      (pos 0, record { starts = λ node among. (runs node among).start; rates = λ node among. (runs node among).rate; active_even = active.0; active_odd = active.1 })
  alike zero within (c ∷ earlier) even odd d =
      let counted : suc (length earlier) ≡ 2 * 0 = d.counted in
      absurd (omega (arith, counted))
  alike (suc double) within [] even odd d = let counted : 0 ≡ 2 * suc double = d.counted in absurd (omega (arith, counted))
  alike (suc double) within (o ∷ []) even odd d = let counted : 1 ≡ 2 * suc double = d.counted in absurd (omega (arith, counted))
  alike (suc double) within (o ∷ e ∷ earlier) even odd d =
      let before = prior_of h double earlier e o even odd d in
      let at = alike double (omega (arith, within)) earlier e o before in
      let s = rows_at false long_run 0 10_000_000 h w double (omega arith) earlier e o before in
      let t = rows_at false long_run 0 10_000_000 h w (suc double) (omega arith) (o ∷ e ∷ earlier) even odd d in
      (next_start double at.0 earlier e o s at.1 (omega (arith, within)), next_alike double at.0 earlier e o s at.1 (omega (arith, within)) (omega (arith, within)) even odd t)

  walks : (double : ℕ) (earlier : Cycles) (even odd : Cycle) → double < 76 → IsDoubleOf h double earlier even odd
      → All (λ row. row.rate ≡ pos (8 * double)) even.told.rows × All (λ row. row.state ≡ Active) even.told.rows × All (λ row. row.state ≡ Active) odd.told.rows
  walks double earlier even odd within d =
      let at = (alike double within earlier even odd d).1 in
      let s = rows_at false long_run 0 10_000_000 h w double (omega arith) earlier even odd d in
      (all_rows (row_nodes long_run earlier) even.told.rows (λ row. row.rate ≡ pos (8 * double)) (rows_ascend long_run earlier is_sane) s.two.even_rows.nodes at.rates, at.active_even, at.active_odd)

  is_cut : (earlier : Cycles) (even odd : Cycle) (node : NodeSpec) → IsDoubleOf h 75 earlier even odd → Contains (correct_nodes long_run) node → (rate_term_told long_run even odd node).outcome ≡ Exceeded
  is_cut earlier even odd node d among =
      let at = alike 75 (lit< tt) earlier even odd d in
      let s = rows_at false long_run 0 10_000_000 h w 75 (omega arith) earlier even odd d in
      let number = (has_row (row_nodes long_run earlier) odd.told.rows node s.two.odd_rows.nodes among).number in
      ap (λ (id : ℕ). (rate_term_of (row_for odd.told.rows node.id).rate (pos 2) (pos 601) (rate_values_by long_cluster even.told.devs odd.told.devs id (own_index long_cluster node.id))).outcome) number
      ∙ ap (λ (t : Term). t.outcome) (rate_term_is 75 at.0 earlier even odd s at.1 (lit≤ tt) node among)

  halts_at : (earlier : Cycles) (even odd : Cycle) → IsDoubleOf h 75 earlier even odd → (node : NodeSpec) → Contains (correct_nodes long_run) node
      → (status_in long_cluster (told_of h) node.id).state ≡ Halt
  halts_at earlier even odd d node among =
      let at = alike 75 (lit< tt) earlier even odd d in
      let s = rows_at false long_run 0 10_000_000 h w 75 (omega arith) earlier even odd d in
      let even_has = row_runs_by (row_laws long_run earlier) (offset_after long_cluster (told_of earlier) even.told) (row_nodes long_run earlier) even.told.rows node s.two.even_rows among in
      let odd_has = has_row (row_nodes long_run earlier) odd.told.rows node s.two.odd_rows.nodes among in
      let number = odd_has.number in
      let active : (status_in long_cluster (told_of earlier) node.id).state ≡ Active =
      sym even_has.state ∙ each_row (row_nodes long_run earlier) even.told.rows (λ row. row.state ≡ Active) node s.two.even_rows.nodes among at.1.active_even in
      let offset =
      ap (λ (n : ℕ). (offset_term_in long_cluster (told_of (even ∷ earlier)) odd.told.devs n).outcome) number
      ∙ ap (λ (t : Term). t.outcome) (offset_term_is 75 at.0 earlier even odd s at.1 (lit≤ tt) node among) in
      let rate =
      ap (λ (t : Term). t.outcome) (row_term_is long_run earlier even odd node.id number)
      ∙ ap (λ (t : Term). t.outcome) (rate_term_is 75 at.0 earlier even odd s at.1 (lit≤ tt) node among) in
      let counted = d.counted in
      let whole = w.whole in
      let all : h ≡ odd ∷ even ∷ earlier = ends_with h d.later (odd ∷ even ∷ earlier) d.parted (omega (arith, counted, whole)) in
      ap (λ (c : Cycles). (status_in long_cluster (told_of c) node.id).state) all
      ∙ halts_after earlier even odd 75 node.id (row_for odd.told.rows node.id) s.counted odd_has.is active offset rate

stated_near : AreStatedNear long_run (sharp_pi false long_cluster 10_000_000) (sharp_lambda false long_cluster 10_000_000)
stated_near = record {
  starts = λ one other here there. record { low = record { le = tt }; high = record { le = tt } };
  lengths = λ one other here there. record { low = record { le = tt }; high = record { le = tt } };
  about = λ some there. record { low = record { le = tt }; high = record { le = tt } };
}

module _ (lawful : (x : Setting) (n : ℕ) → IsSetting x → IsLawful x (cycles_of x n)) (long : (x : Setting) (n : ℕ) → length (cycles_of x n) ≡ n) where
  steady : IsSteadyRun false long_run 10_000_000 (all_cycles long_run)
  steady = stated_runs_are_steady lawful long false long_run 0 10_000_000 setting covered refl refl

  pub long_run_begins : LongRunBegins
  unfolding last_of
  long_run_begins = (refl, other_checks, refl, steady, stated_runs_begin_in_sharp_sync false long_run 10_000_000 (all_cycles long_run) steady stated_near (lit≤ tt))

  pub long_run_walks : LongRunWalks
  long_run_walks double earlier even odd within d = walks (all_cycles long_run) steady double earlier even odd within d

  pub long_run_is_cut : LongRunIsCut
  long_run_is_cut earlier even odd node d among = is_cut (all_cycles long_run) steady earlier even odd node d among

  pub long_run_halts : LongRunHalts
  long_run_halts node among =
      let d = found_at false long_run 0 10_000_000 (all_cycles long_run) steady 75 (lit< tt) in
      halts_at (all_cycles long_run) steady d.earlier d.even d.odd d.is node among
