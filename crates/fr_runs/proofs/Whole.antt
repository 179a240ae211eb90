-- A whole run: from a double cycle in sync on in which none follows each is in sync, with its followers near.
use Rattle.std.proofs.Common.{◌≡◌, ℕ, zero, suc, ◌+◌, ◌*◌, ◌-◌, ◌<◌, ◌≤◌, Bool, true, false, if◌then◌else◌, pos, Option, Some, None, List, [], ◌∷◌, ◌++◌, All, length, map, refl, ap, sym, ◌∙◌, subst, arith}
use Rattle.std.specs.Prelude.{AllPairs, Contains}
use Rattle.std.proofs.lemmas.List.{append_assoc}
use Rattle.std.proofs.lemmas.List.Kept.{AllPairs-filter}
use Rattle.fr_base.specs.Within.{IsWithin}
use Rattle.fr_base.specs.declared.node_row.NodeRow.{NodeRow}
use Rattle.fr_cluster.specs.Setting.{Setting, correct_nodes}
use Rattle.fr_cluster.specs.Values.{Values, amount}
use Rattle.fr_cluster.specs.declared.names.ParamName.TheVariants as name
use Rattle.fr_cluster.specs.declared.nodes.NodeSpec.{NodeSpec}
use Rattle.fr_time.specs.Cycles.{is_odd}
use Rattle.fr_bound.specs.Bounds.{precision_of}
use Rattle.fr_precision.specs.Instants.{gap_of}
use Rattle.fr_history.specs.History.{AreRowsOf, History, Record, row_for, row_of}
use Rattle.fr_history.specs.Terms.{outcomes_by, outcomes_in}
use Rattle.fr_cluster.specs.declared.join.Join.{Join}
use Rattle.fr_history.specs.Cycles.{Cycle, Cycles, told_of}
use Rattle.fr_history.specs.Standing.{following_nodes, has_row, has_row_by, row_nodes}
use Rattle.fr_precision.specs.Round.{Hearer}
use Rattle.fr_cluster.proofs.Elements.{Contains-none, filtered}
use Rattle.fr_runs.proofs.Doubles.{even_length, odd_length}
use Rattle.fr_runs.proofs.Receivers.{no_less}
use Rattle.fr_precision.proofs.RoundLemmas.{contains_map, map_contains}
use Rattle.fr_runs.proofs.Rows.{all_rows, correct_ascend}
use Rattle.fr_runs.proofs.Spread.{RowsLie, macrotick_within, spread_within}
use Rattle.fr_runs.specs.Gathered.{CycleRuns, IsDoubleInSync, IsHeardByAll, SyncGoesOn, follower_hearer, followers_since, listened_by, row_hearer}
use Rattle.fr_runs.specs.Hearers.{member_from}
use Rattle.fr_runs.specs.Rounds.{AllClocksRun, IsDoubleOf, IsFedFrom, IsRun, IsUnfollowedSync, KeepsUp, RunsKeepUp}
use Rattle.fr_runs.proofs.Joined.{double_kept, is_of}
use Rattle.fr_runs.proofs.Onward.{succeeding_goes_on_lem}
use Rattle.fr_runs.proofs.Standing.{had_none, is_none, told_has}
use Rattle.fr_runs.proofs.Succeeding.{followers_stay, gathered_nodes_succeed, rows_stay}

-- ---- one double cycle more

pub gatherings_go_on : SyncGoesOn
gatherings_go_on x h even odd even2 odd2 double g fed more early late =
    let counted : length h ≡ 2 * double = g.counted in
    let two : suc (suc (length h)) ≡ 2 * suc double = omega (arith, counted) in
    succeeding_goes_on_lem x h even odd even2 odd2 double g fed more (gathered_nodes_succeed x h even odd even2 double g early)
    (rows_stay x (odd ∷ even ∷ h) even2 (suc double) two early)
    (followers_stay x (odd ∷ even ∷ h) even2 (suc double) two early)
    early late

-- ---- a node that had no row yet has no outcomes yet

nothing_if : {X : Type 0} (b : Bool) (none : List X) → (if b then none else none) ≡ none
nothing_if true none = refl
nothing_if false none = refl

none_more : (p : Values) (h : History) (r : Record) (node : ℕ) → row_of r.rows node ≡ None → outcomes_in p h node ≡ [] → outcomes_in p (r ∷ h) node ≡ []
unfolding outcomes_in
none_more p h r node none before =
    ap (λ outcomes. outcomes ++ (if is_odd (length h) then outcomes_by p h r.devs (row_of r.rows node) else [])) before
    ∙ ap (λ o. if is_odd (length h) then outcomes_by p h r.devs o else []) none
    ∙ nothing_if (is_odd (length h)) []

pub no_outcomes : (x : Setting) (node : ℕ) → outcomes_in x.params [] node ≡ []
unfolding outcomes_in
no_outcomes x node = refl

pub fresh_at : (x : Setting) (h : Cycles) (node : NodeSpec) → AllClocksRun x h → Contains (correct_nodes x) node → has_row x h node.id ≡ false
    → outcomes_in x.params (told_of h) node.id ≡ []
fresh_at x [] node run there fresh = no_outcomes x node.id
fresh_at x (c ∷ h) node run there fresh = by_join (x.join node.id) refl (fresh_at x h node run.1 there)
  where
    by_join : (join : Option Join) → x.join node.id ≡ join → (has_row x h node.id ≡ false → outcomes_in x.params (told_of h) node.id ≡ [])
        → outcomes_in x.params (told_of (c ∷ h)) node.id ≡ []
    by_join None at rest =
        let e : true ≡ false = sym (ap (has_row_by x (c ∷ h) node.id) at) ∙ fresh in
        absurd (cc)
    by_join (Some join) at rest =
        let none = had_none x h c node.id join at fresh in
        none_more x.params (told_of h) c.told node.id (is_none (row_of c.told.rows node.id) none) (rest (sym (told_has x h c node run.0 there) ∙ none))

-- ---- a double cycle in sync in which none follows

clocks_of : (x : Setting) (later t : Cycles) → AllClocksRun x (later ++ t) → AllClocksRun x t
clocks_of x [] t run = run
clocks_of x (c ∷ later) t run = clocks_of x later t run.1

pub double_runs : (x : Setting) (h : Cycles) (k : ℕ) (earlier : Cycles) (even odd : Cycle) → IsDoubleOf h k earlier even odd → AllClocksRun x h → AllClocksRun x (odd ∷ even ∷ earlier)
double_runs x h k earlier even odd d run = clocks_of x d.later (odd ∷ even ∷ earlier) (subst (AllClocksRun x) d.parted run)

pub no_nodes : (nodes : List NodeSpec) → [] ≡ map (λ (node : NodeSpec). node.id) nodes → nodes ≡ []
no_nodes [] e = refl
no_nodes (node ∷ nodes) e = absurd (cc)

pub none_follows : (x : Setting) (h : Cycles) (c : Cycle) (node : NodeSpec) → CycleRuns x h c → c.followers ≡ [] → Contains (following_nodes x h) node → ⊥
none_follows x h c node runs none among =
    let empty : following_nodes x h ≡ [] = no_nodes (following_nodes x h) (ap (map (λ (row : NodeRow). row.node)) (sym none) ∙ runs.followers.nodes) in
    let Has : List NodeSpec → Type 0 = λ nodes. Contains nodes node in
    Contains-none node (subst Has empty among)

none_hears : (x : Setting) (h : Cycles) (even odd : Cycle) (ago double : ℕ) (n : Hearer) → CycleRuns x h even → even.followers ≡ []
    → Contains (map (λ (node : NodeSpec). follower_hearer x even odd node.id) (followers_since x h ago double)) n → ⊥
none_hears x h even odd ago double n runs none among =
    let node = map_contains (λ (node : NodeSpec). follower_hearer x even odd node.id) (followers_since x h ago double) n among in
    none_follows x h even node.0 runs none (filtered (λ (s : NodeSpec). listened_by (x.join s.id) ago double) (following_nodes x h) node.0 node.1).0

unfollowed_gathered : (x : Setting) (h : Cycles) (k : ℕ) (earlier : Cycles) (even odd : Cycle) → IsRun x h → k < x.doubles → IsDoubleOf h k earlier even odd → IsUnfollowedSync x earlier even odd
    → IsDoubleInSync x earlier even odd k
unfollowed_gathered x h k earlier even odd run within d unfollowed =
    let runs = double_runs x h k earlier even odd d run.run in
    record {
      covered = run.covered;
      counted = d.counted;
      within = within;
      even_runs = runs.1.0;
      odd_runs = runs.0;
      rates = unfollowed.rates;
      follower_rates = λ node among. absurd (none_follows x earlier even node runs.1.0 unfollowed.none among);
      in_sync = unfollowed.in_sync;
      seconds_near = λ n among. absurd (none_hears x earlier even odd 2 k n runs.1.0 unfollowed.none among);
      firsts_near = λ n among. absurd (none_hears x earlier even odd 1 k n runs.1.0 unfollowed.none among);
      fresh = λ node there fresh. fresh_at x earlier node runs.1.1 there fresh;
    }

-- ---- and each one after it

pub prior_of : (h : Cycles) (m : ℕ) (earlier : Cycles) (e o even odd : Cycle) → IsDoubleOf h (suc m) (o ∷ e ∷ earlier) even odd → IsDoubleOf h m earlier e o
prior_of h m earlier e o even odd d =
    let counted : suc (suc (length earlier)) ≡ 2 * suc m = d.counted in
    record {
      later = d.later ++ odd ∷ even ∷ [];
      parted = d.parted ∙ sym (append_assoc d.later (odd ∷ even ∷ []) (o ∷ e ∷ earlier));
      counted = omega (arith, counted);
    }

next_gathered : (x : Setting) (h : Cycles) (double m : ℕ) (earlier : Cycles) (e o even odd : Cycle) → IsRun x h → IsFedFrom x h double → double ≤ m
    → suc m < x.doubles → IsDoubleOf h (suc m) (o ∷ e ∷ earlier) even odd → IsDoubleInSync x earlier e o m → IsDoubleInSync x (o ∷ e ∷ earlier) even odd (suc m)
next_gathered x h double m earlier e o even odd run fed from within d g =
    let runs = double_runs x h (suc m) (o ∷ e ∷ earlier) even odd d run.run in
    let heard = fed m earlier e o from (prior_of h m earlier e o even odd d) g in
    gatherings_go_on x earlier e o even odd m g heard within runs.1.0 runs.0

-- the double cycle in question is in sync, and none follows in it
abbrev pub UnfollowedSyncAt : Setting → Cycles → ℕ → Type 0
UnfollowedSyncAt x h double = (earlier : Cycles) (even odd : Cycle) → IsDoubleOf h double earlier even odd → IsUnfollowedSync x earlier even odd

gathered_from : (x : Setting) (h : Cycles) (double : ℕ) → IsRun x h → IsFedFrom x h double → UnfollowedSyncAt x h double
    → (n k : ℕ) (earlier : Cycles) (even odd : Cycle) → k ≡ n + double → k < x.doubles → IsDoubleOf h k earlier even odd → IsDoubleInSync x earlier even odd k
gathered_from x h double run fed unfollowed zero k earlier even odd is within d =
    let At : ℕ → Type 0 = λ j. IsDoubleOf h j earlier even odd in
    let same : k ≡ double = omega (arith, is) in
    unfollowed_gathered x h k earlier even odd run within d (unfollowed earlier even odd (subst At same d))
gathered_from x h double run fed unfollowed (suc n) k [] even odd is within d =
    let counted : 0 ≡ 2 * k = d.counted in
    absurd (omega (arith, counted, is))
gathered_from x h double run fed unfollowed (suc n) k (o ∷ []) even odd is within d =
    let counted : 1 ≡ 2 * k = d.counted in
    absurd (omega (arith, counted))
gathered_from x h double run fed unfollowed (suc n) k (o ∷ e ∷ earlier) even odd is within d =
    let m : ℕ = n + double in
    let next : k ≡ suc m = omega (arith, is) in
    let At : ℕ → Type 0 = λ j. IsDoubleOf h j (o ∷ e ∷ earlier) even odd in
    let Gathered : ℕ → Type 0 = λ j. IsDoubleInSync x (o ∷ e ∷ earlier) even odd j in
    let there : IsDoubleOf h (suc m) (o ∷ e ∷ earlier) even odd = subst At next d in
    let before = gathered_from x h double run fed unfollowed n m earlier e o refl (omega (arith, is, within)) (prior_of h m earlier e o even odd there) in
    subst Gathered (sym next) (next_gathered x h double m earlier e o even odd run fed (omega arith) (omega (arith, is, within)) there before)

-- ---- what each of them comes to

row_ascend : (x : Setting) (h : Cycles) (double : ℕ) (even odd : Cycle) → IsDoubleInSync x h even odd double → AllPairs (λ (a : NodeSpec) (b : NodeSpec). a.id < b.id) (row_nodes x h)
row_ascend x h double even odd g =
    AllPairs-filter (λ (a : NodeSpec) (b : NodeSpec). a.id < b.id) (λ (node : NodeSpec). has_row x h node.id) (correct_nodes x) (correct_ascend x g.covered.sane)

-- rows of both cycles, any two of them
rows_lie : (x : Setting) (h : Cycles) (even odd : Cycle) (double macrotick : ℕ) → IsDoubleInSync x h even odd double → IsHeardByAll x h even odd double
    → macrotick < amount x.params name.gMacroPerCycle
    → RowsLie x.params false (pos (precision_of x.params)) even.told.rows macrotick × RowsLie x.params true (pos (precision_of x.params)) odd.told.rows macrotick
rows_lie x h even odd double macrotick g fed less =
    let p : Values = x.params in
    let k = pos (precision_of p) in
    let m = pos macrotick in
    let nodes : List NodeSpec = row_nodes x h in
    let ascend = row_ascend x h double even odd g in
    let to = macrotick_within p macrotick g.covered.sane less in
    let whole = double_kept x h even odd double g fed in
    let at : NodeSpec → Hearer = λ node. row_hearer x even odd node.id in
    let member = λ (node : NodeSpec) (here : Contains nodes node). contains_map (member_from p) (map at nodes) (at node) (contains_map at nodes node here) in
    let Odd : List NodeSpec → Type 0 = λ specs. AreRowsOf specs odd.told.rows in
    let odd_rows : AreRowsOf nodes odd.told.rows = subst Odd (rows_stay x h even double g.counted g.even_runs) g.odd_runs.rows.nodes in (
      all_rows nodes even.told.rows (λ one. All (λ other. IsWithin k (gap_of p false m one other)) even.told.rows) ascend g.even_runs.rows.nodes
          (λ one here.
          all_rows nodes even.told.rows (λ other. IsWithin k (gap_of p false m (row_for even.told.rows one.id) other)) ascend g.even_runs.rows.nodes
          (λ other there. whole.precise (member_from p (at one)) (member_from p (at other)) m false (member one here) (member other there) (no_less macrotick) to)),
      all_rows nodes odd.told.rows (λ one. All (λ other. IsWithin k (gap_of p true m one other)) odd.told.rows) ascend odd_rows
          (λ one here.
          all_rows nodes odd.told.rows (λ other. IsWithin k (gap_of p true m (row_for odd.told.rows one.id) other)) ascend odd_rows
          (λ other there. whole.precise (member_from p (at one)) (member_from p (at other)) m true (member one here) (member other there) (no_less macrotick) to)),
    )

keeps_up : (x : Setting) (h : Cycles) (even odd : Cycle) (double : ℕ) → IsDoubleInSync x h even odd double → IsHeardByAll x h even odd double → KeepsUp x h even odd double
keeps_up x h even odd double g fed =
    let p : Values = x.params in
    let k : ℕ = precision_of p in
    let whole = double_kept x h even odd double g fed in
    record {
      gathered = g;
      even_skew =
          λ macrotick less.
          spread_within p (length h) (pos k) even.told.rows macrotick false (even_length (length h) double g.counted) (no_less k) (rows_lie x h even odd double macrotick g fed less).0;
      odd_skew =
          λ macrotick less.
          spread_within p (suc (length h)) (pos k) odd.told.rows macrotick true (odd_length (length h) double g.counted) (no_less k) (rows_lie x h even odd double macrotick g fed less).1;
      offset_within = λ n one. whole.uncut (member_from p n) (is_of x h even odd double n one);
      rate_within = λ n one. (whole.range (member_from p n) (is_of x h even odd double n one)).uncut;
    }

pub runs_keep_up : RunsKeepUp
runs_keep_up x h double run fed unfollowed k earlier even odd from within d =
    let is : k ≡ (k - double) + double = omega (arith, from) in
    let g = gathered_from x h double run fed unfollowed (k - double) k earlier even odd is within d in
    keeps_up x earlier even odd k g (fed k earlier even odd from d g)
