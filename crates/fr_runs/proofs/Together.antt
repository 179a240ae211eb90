-- From a double cycle in sync on in which none follows a run keeps together, to its end.
use Rattle.std.proofs.Common.{◌≡◌, ℕ, suc, ◌+◌, ◌*◌, ◌-◌, ◌<◌, ◌≤◌, true, [], ◌∷◌, length, ap, sym, ◌∙◌, inl, arith}
use Rattle.std.specs.Prelude.{Contains, IsSome}
use Rattle.fr_base.specs.declared.state.State.TheVariants.{Active}
use Rattle.fr_cluster.specs.Setting.{Setting, correct_nodes}
use Rattle.fr_cluster.specs.Values.{Values}
use Rattle.fr_cluster.specs.declared.nodes.NodeSpec.{NodeSpec}
use Rattle.fr_correct.specs.declared.term.Term.{Term}
use Rattle.fr_history.specs.History.{row_for, row_of}
use Rattle.fr_history.specs.Rows.{offset_after}
use Rattle.fr_history.specs.Terms.{offset_term_in, status_in}
use Rattle.fr_history.specs.Cycles.{Cycle, Cycles, cycle_at, told_of}
use Rattle.fr_history.specs.Laws.{row_laws}
use Rattle.fr_history.specs.Lawful.{IsLawful}
use Rattle.fr_history.specs.Standing.{has_row, row_nodes}
use Rattle.fr_history.specs.Unfollowed.{RowsAreInSyncAt}
use Rattle.fr_precision.specs.Round.{Hearer}
use Rattle.fr_cluster.proofs.Elements.{kept_filtered}
use Rattle.fr_precision.proofs.RoundLemmas.{contains_map}
use Rattle.fr_runs.proofs.Rows.{each_row, row_runs_by}
use Rattle.fr_runs.specs.Gathered.{IsDoubleInSync, IsHeardByAll, row_hearer}
use Rattle.fr_runs.specs.Hearers.{member_from}
use Rattle.fr_runs.specs.Precision.{AllCutsRun}
use Rattle.fr_runs.specs.Rounds.{IsDoubleOf}
use Rattle.fr_runs.proofs.Courses.{row_term_is, run_two}
use Rattle.fr_runs.proofs.Joined.{double_kept}
use Rattle.fr_runs.proofs.Outcomes.{active_after}
use Rattle.fr_runs.proofs.Parts.{cycle_within, double_at, even_is, odd_is}
use Rattle.fr_runs.proofs.Precision.{unfollowed_runs_keep_precision_lem}
use Rattle.fr_runs.proofs.Standing.{has_stays, told_has}
use Rattle.fr_runs.proofs.Succeeding.{followers_stay, rows_stay}
use Rattle.fr_runs.specs.Whole.{IsUnfollowedRun, UnfollowedRunsKeepTogether}
use Rattle.fr_runs.proofs.Joining.{is_fed, is_run, later_at}

-- the cuts of lawful cycles are told by their laws
cuts_run : (x : Setting) (h : Cycles) → IsLawful x h → AllCutsRun x h
cuts_run x [] lawful = tt
cuts_run x (c ∷ h) lawful = (lawful.0.told.cuts, lawful.0.followers.cuts, cuts_run x h lawful.1)

-- a node with a row in a double cycle is active behind it
active_behind : (x : Setting) (h : Cycles) (even odd : Cycle) (double : ℕ) (node : NodeSpec) → IsDoubleInSync x h even odd double → IsHeardByAll x h even odd double
    → Contains (row_nodes x h) node → (status_in x.params (told_of (odd ∷ even ∷ h)) node.id).state ≡ Active
active_behind x h even odd double node g fed among =
    let p : Values = x.params in
    let nodes = row_nodes x h in
    let at : NodeSpec → Hearer = λ n. row_hearer x even odd n.id in
    let two = run_two x h even odd g.even_runs g.odd_runs (rows_stay x h even double g.counted g.even_runs) (followers_stay x h even double g.counted g.even_runs) in
    let early = row_runs_by (row_laws x h) (offset_after p (told_of h) even.told) nodes even.told.rows node two.even_rows among in
    let late = row_runs_by (row_laws x (even ∷ h)) (offset_after p (told_of (even ∷ h)) odd.told) nodes odd.told.rows node two.odd_rows among in
    let active = each_row nodes even.told.rows (λ row. row.state ≡ Active) node two.even_rows.nodes among g.in_sync.active_even in
    let all = double_kept x h even odd double g fed in
    let member = contains_map (member_from p) _ (at node) (contains_map at nodes node among) in
    active_after x h even odd double node.id (row_for odd.told.rows node.id) g.counted late.has.is (sym early.state ∙ active)
    (ap (λ n. (offset_term_in p (told_of (even ∷ h)) odd.told.devs n).outcome) late.has.number ∙ all.uncut (member_from p (at node)) (inl (inl member)))
    (ap (λ (t : Term). t.outcome) (row_term_is x h even odd node.id late.has.number) ∙ (all.range (member_from p (at node)) (inl (inl member))).uncut)

-- so is one with a row in the last cycle
active_last : (x : Setting) (h : Cycles) (double : ℕ) (last : Cycle) (before : Cycles) (node : NodeSpec) → IsUnfollowedRun x h double → h ≡ last ∷ before
    → Contains (correct_nodes x) node → IsSome (row_of last.told.rows node.id) → (status_in x.params (told_of h) node.id).state ≡ Active
active_last x h double last [] node s is there has =
    let one : length h ≡ 1 = ap (λ (t : Cycles). length t) is in
    let whole = s.whole in
    absurd (omega (arith, one, whole))
active_last x h double odd (even ∷ earlier) node s is there has =
    let whole : length h ≡ 2 * x.doubles = s.whole in
    let long : length h ≡ suc (suc (length earlier)) = ap (λ (t : Cycles). length t) is in
    let below : 2 * double + 1 < length h = cycle_within h (2 * double + 1) s.unfollowed.synced.odd s.unfollowed.synced.has_odd in
    let k : ℕ = x.doubles - 1 in
    let d : IsDoubleOf h k earlier even odd = record { later = []; parted = is; counted = omega (arith, whole, long) } in
    let later = later_at x h double k earlier even odd s (omega (arith, whole, below)) (omega (arith, whole, below)) d in
    let g = later.up.gathered in
    let own : has_row x earlier node.id ≡ true =
    sym (has_stays x earlier even k node g.counted g.even_runs there) ∙ sym (told_has x (even ∷ earlier) odd node g.odd_runs there) ∙ has in
    let among = kept_filtered (λ (n : NodeSpec). has_row x earlier n.id) (correct_nodes x) node there own in
    ap (λ (t : Cycles). (status_in x.params (told_of t) node.id).state) is ∙ active_behind x earlier even odd k node g later.fed among

-- the nodes with rows are in sync in each later double cycle
synced_at : (x : Setting) (h : Cycles) (double m : ℕ) → IsUnfollowedRun x h double → double ≤ m → m < x.doubles → RowsAreInSyncAt x.params h m
synced_at x h double m s from within =
    let whole : length h ≡ 2 * x.doubles = s.whole in
    let at = double_at h m (omega (arith, within, whole)) in
    let late : 2 * m + 1 ≡ suc (2 * m) = omega arith in
    record {
      even = at.even;
      odd = at.odd;
      has_even = even_is h m at.earlier at.even at.odd at.is;
      has_odd = ap (cycle_at h) late ∙ odd_is h m at.earlier at.even at.odd at.is;
      in_sync = (later_at x h double m at.earlier at.even at.odd s from within at.is).up.gathered.in_sync;
    }

pub unfollowed_runs_keep_together : UnfollowedRunsKeepTogether
unfollowed_runs_keep_together x h double s = record {
  synced = λ m from within. synced_at x h double m s from within;
  keeps_up = λ k earlier even odd from within d. (later_at x h double k earlier even odd s from within d).up;
  precise = unfollowed_runs_keep_precision_lem x h double (is_run x h double s) s.rates (cuts_run x h s.lawful) (is_fed x h double s) s.unfollowed;
  after = λ last before node is there has. active_last x h double last before node s is there has;
}
