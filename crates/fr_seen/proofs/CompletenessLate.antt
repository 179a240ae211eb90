-- The rows of odd cycles in which a macrotick of sharp senders comes far apart, or those of the cycles behind, say over.
use Rattle.std.proofs.Common.{◌≡◌, ◌⊎◌, ℕ, suc, ◌+◌, true, Some, ℤ, pos, ap, sym, ◌∙◌, subst, inl, inr, arith}
use Rattle.std.specs.Prelude.{◌+ℤ◌, ◌-ℤ◌, ◌*ℤ◌, ◌≤ℤ◌, ◌<ℤ◌}
use Rattle.std.specs.Int.{int_max}
use Rattle.std.proofs.lemmas.Int.{ints, by_lt_z}
use Rattle.std.proofs.lemmas.List.Elements.{All-contains}
use Rattle.fr_base.specs.declared.channel.Channel.{Channel}
use Rattle.fr_base.specs.declared.node_row.NodeRow.{NodeRow}
use Rattle.fr_bound.specs.Bounds.{longest_micro}
use Rattle.fr_cluster.specs.Sane.{IsSane}
use Rattle.fr_cluster.specs.Setting.{Setting}
use Rattle.fr_cluster.specs.Values.{Values}
use Rattle.fr_time.specs.Instant.{instant_of}
use Rattle.fr_time.specs.Position.{corrected_micros, grid_for}
use Rattle.fr_time.proofs.Placing.{is_grid_lem}
use Rattle.fr_history.specs.Cycles.{Cycle, Cycles}
use Rattle.fr_history.specs.History.{row_for, row_of}
use Rattle.fr_precision.specs.Rows.{Lasts, corrected_end_of}
use Rattle.fr_precision.proofs.InstantLaws.{late_on_line as late_line}
use Rattle.fr_runs.specs.Numbers.{HasDouble}
use Rattle.fr_log.specs.View.{LogView}
use Rattle.fr_course.specs.Readings.{reading_scale}
use Rattle.fr_course.specs.declared.stamps.Delays.{Delays}
use Rattle.fr_sightings.specs.declared.sender.Sender.{Sender}
use Rattle.fr_seen.specs.Clocks.{reading_at, reading_of, StraightClock}
use Rattle.fr_seen.specs.LogSeen.{IsSenderOn, log_senders, run_double}
use Rattle.fr_seen.proofs.CornerLaws.{lasts_of, line_reads, HasLine}
use Rattle.fr_seen.proofs.Doubles.{numbers_of}
use Rattle.fr_seen.proofs.Pairs.{max_left, max_right}
use Rattle.fr_seen.proofs.RunLaws.{nodes_go_on}
use Rattle.fr_seen.proofs.SenderLaws.{next_run, some_row}
use Rattle.fr_seen.proofs.SkewLaws.{at_end, lines_apart}
use Rattle.fr_seen.specs.Completeness.{FarOddMacroticksAreTold, behind_by, starting_in, turn_in}
use Rattle.fr_seen.specs.Contradictions.{IsObservedRun}
use Rattle.fr_seen.proofs.CompletenessMacroticks.{beyond_more, counting, either, far_macroticks_are_told}
use Rattle.fr_seen.proofs.CompletenessOver.{all_on, drifts, far_senders_are_told}
use Rattle.fr_seen.proofs.CompletenessTicks.{slow_some}
use Rattle.fr_seen.proofs.OddLaws.{late_end}

no_less : (a : ℤ) → pos 0 <ℤ a → pos 0 ≤ℤ a
no_less a h = omega (arith, ints)

natural : (n : ℕ) → pos 0 ≤ℤ pos n
natural n = omega (arith, ints)

itself : (a : ℤ) → a ≤ℤ a
itself a = omega (arith, ints)

-- ---- behind the start of an offset correction

module _ (p : Values) (sane : IsSane p) (macrotick : ℤ) (from : p.correction <ℤ macrotick) (to : macrotick ≤ℤ p.macros) where
  abbrev one : StraightClock
  one = counting (pos 1)

  abbrev turn : NodeRow → ℤ
  turn row = instant_of (grid_for p) row true p.correction

  abbrev rest : NodeRow → ℤ
  rest row = corrected_micros (grid_for p) row.rate row.offset *ℤ row.length

  abbrev at : NodeRow → ℤ
  at row = instant_of (grid_for p) row true macrotick

  left_some : pos 0 <ℤ (p.macros -ℤ p.correction)
  left_some = apart p.correction p.macros (is_grid_lem p sane).correction_to
    where
      apart : (o g : ℤ) → o <ℤ g → pos 0 <ℤ (g -ℤ o)
      apart o g less = omega (arith, ints)

  counted : (row : NodeRow) → Lasts p row
      → HasLine (counting (pos 1)) (p.macros -ℤ p.correction) (pos 1 *ℤ pos (longest_micro p)) (macrotick -ℤ p.correction) (reading_at (counting (pos 1)) (instant_of (grid_for p) row true p.correction))
      (reading_of (counting (pos 1)) (corrected_micros (grid_for p) row.rate row.offset *ℤ row.length)) (reading_at (counting (pos 1)) (instant_of (grid_for p) row true macrotick))
  counted row lasts =
      line_reads one (p.macros -ℤ p.correction) (pos 1 *ℤ pos (longest_micro p)) (macrotick -ℤ p.correction) (turn row) (rest row) row.length (pos (longest_micro p)) (at row)
      (no_less (p.macros -ℤ p.correction) left_some) (natural 1) (natural (longest_micro p)) (once (pos 1 *ℤ pos (longest_micro p))) (late_line p row macrotick sane lasts from)
    where
      once : (a : ℤ) → a ≤ℤ (pos 1 *ℤ a)
      once a = omega (arith, ints)

  pub late_between : (a b next_a next_b : NodeRow) → Lasts p a → Lasts p b → next_a.start ≡ corrected_end_of p a → next_b.start ≡ corrected_end_of p b
      → (((instant_of (grid_for p) a true macrotick -ℤ instant_of (grid_for p) b true macrotick) -ℤ pos (longest_micro p)) ≤ℤ (instant_of (grid_for p) a true p.correction -ℤ instant_of (grid_for p) b true p.correction))
      ⊎ (((instant_of (grid_for p) a true macrotick -ℤ instant_of (grid_for p) b true macrotick) -ℤ pos (longest_micro p)) ≤ℤ (next_a.start -ℤ next_b.start))
  late_between a b next_a next_b a_lasts b_lasts a_ends b_ends =
      let g = p.macros -ℤ p.correction in
      let early = turn a -ℤ turn b in
      let late = next_a.start -ℤ next_b.start in
      let bound = int_max early late in
      either early late ((at a -ℤ at b) -ℤ pos (longest_micro p))
      (less (at a) (at b) bound (pos (longest_micro p))
      (lines_apart one g (pos 1 *ℤ pos (longest_micro p)) g (macrotick -ℤ p.correction) bound (reading_at one (turn a)) (reading_of one (rest a)) (reading_at one (at a)) (reading_at one (turn b))
      (reading_of one (rest b)) (reading_at one (at b)) left_some left_some (behind p.correction macrotick from) (no_more macrotick p.correction p.macros to) (counted a a_lasts) (counted b b_lasts)
      (read (turn a) (turn b) bound (max_left early late))
      (at_end g (reading_at one (turn a)) (reading_of one (rest a)) (reading_at one next_a.start) (reading_at one (turn b)) (reading_of one (rest b)) (reading_at one next_b.start) bound (pos 1) (no_less g left_some)
      (follows (turn a) (rest a) next_a.start (a_ends ∙ late_end p a)) (follows (turn b) (rest b) next_b.start (b_ends ∙ late_end p b)) (read next_a.start next_b.start bound (max_right early late)))))
    where
      behind : (o m : ℤ) → o <ℤ m → pos 0 ≤ℤ (m -ℤ o)
      behind o m less = omega (arith, ints)

      no_more : (m o g : ℤ) → m ≤ℤ g → (m -ℤ o) ≤ℤ (g -ℤ o)
      no_more m o g le = omega (arith, ints)

      read : (a b m : ℤ) → (a -ℤ b) ≤ℤ m → (((pos 1 *ℤ a) +ℤ pos 0) -ℤ ((pos 1 *ℤ b) +ℤ pos 0)) ≤ℤ (pos 1 *ℤ m)
      read a b m h = omega (arith, ints)

      follows : (s l t : ℤ) → t ≡ s +ℤ l → (pos 1 *ℤ t) +ℤ pos 0 ≡ ((pos 1 *ℤ s) +ℤ pos 0) +ℤ (pos 1 *ℤ l)
      follows s l t h = omega (arith, ints)

      less : (a b m u : ℤ) → (((pos 1 *ℤ a) +ℤ pos 0) -ℤ ((pos 1 *ℤ b) +ℤ pos 0)) ≤ℤ (pos 1 *ℤ (m +ℤ (pos 1 *ℤ u))) → ((a -ℤ b) -ℤ u) ≤ℤ m
      less a b m u h = omega (arith, ints)

-- ---- senders

-- the next cycle of a sender starts where its odd one ends
next_begins : (x : Setting) (h : Cycles) (base : ℕ) (delays : ℕ → Channel → Delays) (clock : ℕ → StraightClock) (l : LogView) (double : ℕ) (even odd next_even next_odd : Cycle) (s next : Sender)
    → IsObservedRun x h base delays clock l → HasDouble h (run_double base double) even odd → HasDouble h (suc (run_double base double)) next_even next_odd
    → IsSenderOn x l.drift (clock (run_double base double)) even odd s → IsSenderOn x l.drift (clock (run_double base (double + 1))) next_even next_odd next → next.node ≡ s.node
    → (row_for next_even.told.rows next.node).start ≡ corrected_end_of x.params (row_for odd.told.rows s.node)
next_begins x h base delays clock l double even odd next_even next_odd s next run has next_has on next_on same =
    let begins : (row_for next_even.told.rows next.node).start ≡ corrected_end_of x.params (row_for odd.told.rows next.node) =
    (nodes_go_on x h (run_double base double) even odd next_even next_odd next.node (row_for odd.told.rows next.node) (row_for next_even.told.rows next.node) run.timed has next_has
    (subst (λ n. row_of odd.told.rows n ≡ Some (row_for odd.told.rows n)) (sym same) (some_row odd.told.rows s.node on.rows.in_odd)) (some_row next_even.told.rows next.node next_on.rows.in_even)).0 in
    begins ∙ ap (λ n. corrected_end_of x.params (row_for odd.told.rows n)) same

pub far_odd_macroticks_are_told : FarOddMacroticksAreTold
far_odd_macroticks_are_told x h base delays clock l double even odd next_even next_odd width precision macrotick early late next_early next_late run has next_has two next_two early_same late_same from macrotick_from macrotick_to beyond =
    let scale = reading_scale l.drift x.params in
    let sane = run.timed.sane in
    let y = behind_by x true odd macrotick early late in
    let there : HasDouble h (run_double base (double + 1)) next_even next_odd =
    subst (λ d. HasDouble h d next_even next_odd) (next_run x h base delays clock l sane run.log run.seen double) next_has in
    let told = far_senders_are_told x h base delays clock l double even odd width precision early late run has two from in
    let next_told = far_senders_are_told x h base delays clock l (double + 1) next_even next_odd width precision next_early next_late run there next_two from in
    let On : Sender → Type 0 = IsSenderOn x l.drift (clock (run_double base double)) even odd in
    let NextOn : Sender → Type 0 = IsSenderOn x l.drift (clock (run_double base (double + 1))) next_even next_odd in
    let all = all_on x h base delays clock l run double even odd has in
    let next_all = all_on x h base delays clock l run (double + 1) next_even next_odd there in
    let early_on = All-contains On (log_senders x l double) early all two.early_there in
    let late_on = All-contains On (log_senders x l double) late all two.late_there in
    let next_early_on = All-contains NextOn (log_senders x l (double + 1)) next_early next_all next_two.early_there in
    let next_late_on = All-contains NextOn (log_senders x l (double + 1)) next_late next_all next_two.late_there in
    let slowest = slow_some l.drift (drifts x h base delays clock l run double even odd has).drift_to in
    let last = row_for odd.told.rows late.node in
    let first = row_for odd.told.rows early.node in
    by_lt_z x.params.correction macrotick
    (λ behind.
    elim (late_between x.params sane macrotick behind macrotick_to last first (row_for next_even.told.rows next_late.node) (row_for next_even.told.rows next_early.node)
    (lasts_of x.params last (numbers_of x.params sane).shortest_from late_on.on.seen.regular.odd_micro) (lasts_of x.params first (numbers_of x.params sane).shortest_from early_on.on.seen.regular.odd_micro)
    (next_begins x h base delays clock l double even odd next_even next_odd late next_late run has next_has late_on next_late_on late_same)
    (next_begins x h base delays clock l double even odd next_even next_odd early next_early run has next_has early_on next_early_on early_same)) [
      | inl le ↦ inl (told.odd_turns (beyond_more scale width precision y (turn_in x true odd late -ℤ turn_in x true odd early) slowest beyond le))
      | inr le ↦ inr (next_told.even_starts (beyond_more scale width precision y (starting_in next_even next_late -ℤ starting_in next_even next_early) slowest beyond le))
    ])
    (λ before. inl ((far_macroticks_are_told x h base delays clock l double even odd width precision early late run has two from).in_odd macrotick macrotick_from before beyond))
