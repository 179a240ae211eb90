-- What is stated of cycle 0 is so of its rows.
use Rattle.std.proofs.Common.{◌≡◌, ℕ, suc, ◌*◌, ℤ, pos, Some, List, All, [], ◌∷◌, length, map, ap, sym, ◌∙◌, subst, arith}
use Rattle.std.specs.Prelude.{◌+ℤ◌, ◌-ℤ◌, ◌*ℤ◌, ◌≤ℤ◌, Contains}
use Rattle.std.proofs.lemmas.List.Elements.{All-map}
use Rattle.fr_base.specs.Within.{IsWithin, LieWithin}
use Rattle.fr_base.specs.declared.node_row.NodeRow.{NodeRow}
use Rattle.fr_cluster.specs.Setting.{Setting}
use Rattle.fr_cluster.specs.Values.{Values}
use Rattle.fr_cluster.specs.declared.nodes.NodeSpec.{NodeSpec}
use Rattle.fr_bound.specs.Sync.{cycle_length_of}
use Rattle.fr_history.specs.Cycles.{Cycle, Cycles, cycle_at, told_of}
use Rattle.fr_history.specs.History.{AreRowsOf, row_for}
use Rattle.fr_history.specs.Laws.{row_laws}
use Rattle.fr_history.specs.Rows.{offset_after}
use Rattle.fr_history.specs.Standing.{row_nodes}
use Rattle.fr_runs.specs.Rounds.{IsDoubleOf}
use Rattle.fr_runs.proofs.Courses.{is_correct_row}
use Rattle.fr_runs.proofs.Going.{rows_ascend}
use Rattle.fr_runs.proofs.Parts.{cycle_within, even_is, odd_is}
use Rattle.fr_runs.proofs.Rows.{Ascend, all_rows, row_runs_by}
use Rattle.fr_precision.specs.Lengths.{IsAboutCycle}
use Rattle.fr_sharp.specs.SettlingHistories.{first_length, AreStatedNear, StatedRunsBeginInSharpSync, StatedStartsAreSharp, TimedRunsBeginInSharpSync}
use Rattle.fr_bound.specs.SharpBounds.{sharp_lambda, sharp_pi}
use Rattle.fr_runs.specs.SharpHistories.{IsStatedRun}
use Rattle.fr_precision.specs.SharpStep.{AreSharp}
use Rattle.fr_sharp.proofs.RunSettles.{none_before, timed_begin_active}
use Rattle.fr_promise.proofs.RunSync.{timed}
use Rattle.fr_promise.proofs.TimedRuns.{found_of, lawful_run, rows_of}

-- rows lie as near as any two of the nodes that have them
pub pairs_lie : (nodes : List NodeSpec) (f : NodeRow → ℤ) (bound : ℤ) (rows : List NodeRow) → Ascend nodes → AreRowsOf nodes rows
    → ((one other : NodeSpec) → Contains nodes one → Contains nodes other → IsWithin bound (f (row_for rows one.id) -ℤ f (row_for rows other.id))) → LieWithin bound (map f rows)
pairs_lie nodes f bound rows ascend are near =
    let From : ℤ → Type 0 = λ a. All (λ b. (a -ℤ b) ≤ℤ bound) (map f rows) in
    All-map From f rows
    (
    all_rows nodes rows (λ one. From (f one)) ascend are
    (λ one here.
    let first : ℤ = f (row_for rows one.id) in
    All-map (λ b. (first -ℤ b) ≤ℤ bound) f rows (all_rows nodes rows (λ other. (first -ℤ f other) ≤ℤ bound) ascend are (λ other there. (near one other here there).high)))
    )

module _ (x : Setting) (flutter : ℕ) (h : Cycles) (w : IsStatedRun x flutter h) (start rate : ℕ) (near : AreStatedNear x start rate) where
  first_rows : (earlier : Cycles) (even odd : Cycle) → IsDoubleOf h 0 earlier even odd → AreSharp x.params start rate (pos 0) even.told.rows
  first_rows [] even odd d =
      let p : Values = x.params in
      let nodes = row_nodes x [] in
      let rows : List NodeRow = even.told.rows in
      let s = rows_of x 0 flutter h (lawful_run x 0 flutter h w) 0 (none_before 0) [] even odd d in
      let ascend = rows_ascend x [] s.covered.sane in
      let are = s.two.even_rows.nodes in
      let runs = λ (node : NodeSpec) (among : Contains nodes node). row_runs_by (row_laws x []) (offset_after p (told_of []) even.told) nodes rows node s.two.even_rows among in
      let correct = λ (node : NodeSpec) (among : Contains nodes node). is_correct_row x [] node among in
      let own_start = λ (node : NodeSpec) (among : Contains nodes node). let is : (row_for rows node.id).start ≡ x.start node.id = (runs node among).start in is in
      let own_length = λ (node : NodeSpec) (among : Contains nodes node).
      (
      let is : cycle_length_of p (row_for rows node.id) ≡ first_length x node.id =
      ap (λ (r : ℤ). (p.micros +ℤ r) *ℤ (row_for rows node.id).length) (runs node among).rate ∙ ap (λ (t : ℤ). (p.micros +ℤ x.rate node.id) *ℤ t) (runs node among).length_is in
      is
      ) in
      record {
        starts_lie =
            pairs_lie nodes (λ row. row.start) (pos start) rows ascend are
            (λ one other here there. apart (pos start) _ _ _ _ (own_start one here) (own_start other there) (near.starts one other (correct one here) (correct other there)));
        lengths_lie =
            pairs_lie nodes (cycle_length_of p) (pos rate) rows ascend are
            (λ one other here there. apart (pos rate) _ _ _ _ (own_length one here) (own_length other there) (near.lengths one other (correct one here) (correct other there)));
        about =
            all_rows nodes rows (λ row. IsAboutCycle p (pos 0) (cycle_length_of p row)) ascend are
            (λ node among. subst (IsAboutCycle p (pos 0)) (sym (own_length node among)) (near.about node (correct node among)));
      }
    where
      apart : (bound a b c e : ℤ) → a ≡ c → b ≡ e → IsWithin bound (c -ℤ e) → IsWithin bound (a -ℤ b)
      apart bound a b c e first second within =
          let Left : ℤ → Type 0 = λ z. IsWithin bound (z -ℤ b) in
          let Right : ℤ → Type 0 = λ z. IsWithin bound (c -ℤ z) in
          subst Left (sym first) (subst Right (sym second) within)
  first_rows (c ∷ earlier) even odd d =
      let counted : suc (length earlier) ≡ 2 * 0 = d.counted in
      absurd (omega (arith, counted))

  pub first_sharp : (even : Cycle) → cycle_at h 0 ≡ Some even → AreSharp x.params start rate (pos 0) even.told.rows
  first_sharp even is =
      let whole : length h ≡ 2 * x.doubles = w.whole in
      let below = cycle_within h 0 even is in
      let f = found_of x 0 flutter h (lawful_run x 0 flutter h w) 0 (omega (arith, whole, below)) in
      let found : Some f.even ≡ Some even = sym (even_is h 0 f.earlier f.even f.odd f.is) ∙ is in
      let same : f.even ≡ even = cc in
      let At : Cycle → Type 0 = λ c. AreSharp x.params start rate (pos 0) c.told.rows in
      subst At same (first_rows f.earlier f.even f.odd f.is)

pub stated_starts_are_sharp : StatedStartsAreSharp
stated_starts_are_sharp beside x flutter start rate h even w near is = first_sharp x flutter h (timed beside x 0 flutter h w) start rate near even is

pub timed_runs_begin_in_sharp_sync : TimedRunsBeginInSharpSync
timed_runs_begin_in_sharp_sync beside x flutter h w near some =
    let f = found_of x 0 flutter h (lawful_run x 0 flutter h w) 0 some in
    let active = timed_begin_active x flutter h w f.earlier f.even f.odd f.is in
    record {
      even = f.even;
      odd = f.odd;
      has_even = even_is h 0 f.earlier f.even f.odd f.is;
      has_odd = odd_is h 0 f.earlier f.even f.odd f.is;
      in_sync = record {
        active_even = active.0;
        active_odd = active.1;
        rows = first_rows x flutter h w (sharp_pi beside x.params flutter) (sharp_lambda beside x.params flutter) near f.earlier f.even f.odd f.is;
      };
    }

pub stated_runs_begin_in_sharp_sync : StatedRunsBeginInSharpSync
stated_runs_begin_in_sharp_sync beside x flutter h w near some = timed_runs_begin_in_sharp_sync beside x flutter h (timed beside x 0 flutter h w) near some
