-- A run that nodes join: from a double cycle whose nodes with rows lie so near, and those that follow near them, it goes on by the bounds to
-- which each double cycle comes, whatever is heard in it, while first rates last.
use Rattle.std.proofs.Common.{◌≡◌, ℕ, zero, suc, ◌+◌, ◌*◌, ◌<◌, ◌≤◌, Bool, true, false, if◌then◌else◌, ℤ, pos, Option, Some, All, [], ◌∷◌, length, refl, ap, sym, ◌∙◌, subst, inl, arith}
use Rattle.std.specs.Prelude.{◌+ℤ◌, ◌*ℤ◌, ◌≤ℤ◌, Contains, int_le, is_some}
use Rattle.std.specs.Option.{option_map, option_map_or}
use Rattle.std.proofs.lemmas.Int.{ints}
use Rattle.fr_base.specs.Within.{IsWithin}
use Rattle.fr_base.specs.declared.state.Outcome.TheVariants.{Within}
use Rattle.fr_base.specs.declared.state.State.TheVariants.{Active}
use Rattle.fr_cluster.specs.Sane.{IsSane}
use Rattle.fr_cluster.specs.Setting.{Setting, correct_nodes}
use Rattle.fr_cluster.specs.Values.{Values, amount}
use Rattle.fr_cluster.specs.declared.names.ParamName.TheVariants as name
use Rattle.fr_cluster.specs.declared.nodes.NodeSpec.{NodeSpec}
use Rattle.fr_cluster.proofs.Elements.{kept_filtered}
use Rattle.fr_time.specs.Position.{grid_for}
use Rattle.fr_midpoint.proofs.Products.{addz-mulz}
use Rattle.fr_correct.specs.declared.term.Term.{Term}
use Rattle.fr_bound.specs.Checks.{holds_of, left_of, right_of}
use Rattle.fr_precision.specs.Instants.{gap_of}
use Rattle.fr_precision.specs.Round.{Hearer}
use Rattle.fr_precision.proofs.Figures.{nat_le-true}
use Rattle.fr_skew.specs.Spreads.{spread_at}
use Rattle.fr_history.specs.Cycles.{Cycle, Cycles, told_of}
use Rattle.fr_history.specs.History.{row_for, row_of, Record, record_at}
use Rattle.fr_history.specs.Laws.{row_laws}
use Rattle.fr_history.specs.Rows.{offset_after}
use Rattle.fr_history.specs.Skew.{skew_at}
use Rattle.fr_history.specs.Standing.{has_row, row_nodes}
use Rattle.fr_history.specs.Terms.{offset_term_in, status_in}
use Rattle.fr_runs.specs.Gathered.{hearers_of, row_hearer}
use Rattle.fr_runs.specs.Hearers.{member_from, IsOneOf}
use Rattle.fr_runs.specs.Links.{cycle_in}
use Rattle.fr_runs.specs.Rounds.{IsDoubleOf}
use Rattle.fr_runs.proofs.Courses.{row_term_is}
use Rattle.fr_runs.proofs.Doubles.{even_length, odd_length}
use Rattle.fr_runs.proofs.Joined.{is_of}
use Rattle.fr_runs.proofs.Outcomes.{active_after, begun_active, outcomes_none}
use Rattle.fr_runs.proofs.Parts.{double_at, even_is, odd_is, told_at}
use Rattle.fr_runs.proofs.Receivers.{no_less}
use Rattle.fr_precision.proofs.RoundLemmas.{contains_map}
use Rattle.fr_runs.proofs.Rows.{each_row, row_runs_by}
use Rattle.fr_runs.proofs.Spread.{macrotick_within, spread_within}
use Rattle.fr_runs.proofs.Standing.{has_stays, is_none, told_has}
use Rattle.fr_runs.proofs.Whole.{prior_of}
use Rattle.fr_precision.specs.Lengths.{walked_after}
use Rattle.fr_runs.specs.SteadyRuns.{IsTimedPartFrom}
use Rattle.fr_bound.specs.SharpBounds.{rate_walk}
use Rattle.fr_bound.specs.SharpChecks.{RateSuffices}
use Rattle.fr_promise.specs.SharpJoining.{GroupSpread}
use Rattle.fr_precision.specs.SharpRun.{WalkLastsAfter}
use Rattle.fr_precision.proofs.BoundLemmas.{walk_is_held}
use Rattle.fr_promise.proofs.JoinedUncut.{even_uncut, odd_uncut, terms_within}
use Rattle.fr_runs.proofs.RowsSupplied.{timed_rows_from, LawfulRows}
use Rattle.fr_promise.proofs.RunDoubles.{rows_lie}
use Rattle.fr_runs.specs.References.{HaveReferences}
use Rattle.fr_promise.specs.SharpJoined.{IsFollowedDouble, IsFollowedKept, NoneIsLeftBehind}
use Rattle.fr_promise.specs.JoinedHistories.{FirstRatesLast, KeepsJoined, NoneIsCut}
use Rattle.fr_promise.proofs.JoinedFollowers.{steady_followers_join}
use Rattle.fr_promise.proofs.JoinedNext.{followed_doubles_go_on}

-- ---- numbers

-- behind a double cycle in which the walk lasts, the rate limit still follows as far as the lengths have walked
pub next_suffices : (p : Values) (flutter passed : ℕ) → IsSane p → holds_of 2 p ≡ true → WalkLastsAfter p flutter passed → RateSuffices p (walked_after p flutter (suc passed))
next_suffices p flutter passed sane second before = by (int_le (rate_walk p flutter) (pos 0)) (walk_is_held p flutter passed sane second before).0.suffices
  where
    still : (a b : ℕ) → a ≤ b → (pos a +ℤ pos 0) ≤ℤ pos b
    still a b le = omega (arith, ints, le)

    once : (t : ℤ) → pos 1 *ℤ t ≡ t
    once t = omega (arith, ints)

    more : (w : ℤ) → pos (passed + 1) *ℤ w ≡ (pos passed *ℤ w) +ℤ w
    more w = addz-mulz (pos passed) (pos 1) w ∙ ap (λ x. (pos passed *ℤ w) +ℤ x) (once w)

    by : (stops : Bool) → RateSuffices p ((if stops then pos 0 else pos passed *ℤ rate_walk p flutter) +ℤ rate_walk p flutter)
        → RateSuffices p (if stops then pos 0 else pos (suc passed) *ℤ rate_walk p flutter)
    by true suffices = still (right_of 2 p) (left_of 2 p) (nat_le-true (right_of 2 p) (left_of 2 p) second)
    by false suffices =
        let next : passed + 1 ≡ suc passed = omega arith in
        let At : ℤ → Type 0 = λ z. RateSuffices p z in
        subst At (sym (more (rate_walk p flutter)) ∙ ap (λ (n : ℕ). pos n *ℤ rate_walk p flutter) next) suffices

-- ---- what a double cycle comes to, from any numbers

module _
    (x : Setting) (from flutter : ℕ) (h : Cycles) (part : IsTimedPartFrom x from flutter h) (k : ℕ) (behind : from ≤ k) (now to : GroupSpread) (apart : ℕ) (reach beyond next : ℤ)
    (earlier : Cycles) (even odd : Cycle) (d : IsDoubleOf h k earlier even odd) (g : IsFollowedDouble x now beyond earlier even odd k)
    (kept : IsFollowedKept x flutter to apart reach beyond next earlier even odd k) where
  lawful : LawfulRows x flutter earlier even odd k
  lawful = timed_rows_from x from flutter h part k behind earlier even odd d

  offset_within : (m : Hearer) → IsOneOf (hearers_of x earlier even odd k) m → (member_from x.params m).offset_term.outcome ≡ Within
  offset_within m one = kept.uncut (member_from x.params m) (is_of x earlier even odd k m one)

  rate_within : (m : Hearer) → IsOneOf (hearers_of x earlier even odd k) m → (member_from x.params m).rate_term.outcome ≡ Within
  rate_within m one = (kept.range (member_from x.params m) (is_of x earlier even odd k m one)).uncut

  row_active : (node : NodeSpec) → Contains (row_nodes x earlier) node → (status_in x.params (told_of (odd ∷ even ∷ earlier)) node.id).state ≡ Active
  row_active node among =
      let p = x.params in
      let s = lawful in
      let at : NodeSpec → Hearer = λ m. row_hearer x even odd m.id in
      let early = row_runs_by (row_laws x earlier) (offset_after p (told_of earlier) even.told) (row_nodes x earlier) even.told.rows node s.two.even_rows among in
      let late = row_runs_by (row_laws x (even ∷ earlier)) (offset_after p (told_of (even ∷ earlier)) odd.told) (row_nodes x earlier) odd.told.rows node s.two.odd_rows among in
      let active = each_row (row_nodes x earlier) even.told.rows (λ row. row.state ≡ Active) node s.two.even_rows.nodes among g.active_even in
      let one : IsOneOf (hearers_of x earlier even odd k) (at node) = inl (inl (contains_map at (row_nodes x earlier) node among)) in
      active_after x earlier even odd k node.id (row_for odd.told.rows node.id) s.counted late.has.is (sym early.state ∙ active)
      (ap (λ m. (offset_term_in p (told_of (even ∷ earlier)) odd.told.devs m).outcome) late.has.number ∙ offset_within (at node) one)
      (ap (λ (t : Term). t.outcome) (row_term_is x earlier even odd node.id late.has.number) ∙ rate_within (at node) one)

  -- of a node without a row no term was told, so it stands as it begins
  all_active : (node : NodeSpec) → Contains (correct_nodes x) node → (status_in x.params (told_of (odd ∷ even ∷ earlier)) node.id).state ≡ Active
  all_active node there = by_kind (has_row x earlier node.id) refl
    where
      by_kind : (b : Bool) → has_row x earlier node.id ≡ b → (status_in x.params (told_of (odd ∷ even ∷ earlier)) node.id).state ≡ Active
      by_kind true has = row_active node (kept_filtered (λ (n : NodeSpec). has_row x earlier n.id) (correct_nodes x) node there has)
      by_kind false has =
          let s = lawful in
          let untold : is_some (row_of odd.told.rows node.id) ≡ false =
          told_has x (even ∷ earlier) odd node s.odd_runs there ∙ has_stays x earlier even k node s.counted s.even_runs there ∙ has in
          let none = is_none (row_of odd.told.rows node.id) untold in
          begun_active x (odd ∷ even ∷ earlier) node.id (outcomes_none x earlier even odd k node.id s.counted none ∙ g.fresh node there has)

  pub followed_ends : NoneIsCut x earlier even odd
  followed_ends = record {
    within = terms_within x flutter earlier even odd k lawful g.active_odd offset_within rate_within;
    uncut_even = even_uncut x flutter earlier even odd k lawful g.active_odd offset_within rate_within;
    uncut_odd = odd_uncut x flutter earlier even odd k lawful g.active_odd offset_within rate_within;
    active = all_active;
  }

  pub followed_skew : (macrotick : ℕ) (is_odd : Bool) → macrotick < amount x.params name.gMacroPerCycle
      → skew_at x.params (told_of h) (cycle_in is_odd k) macrotick ≤ℤ pos apart
  followed_skew macrotick is_odd less =
      let p = x.params in
      let s = lawful in
      let lie =
      rows_lie x flutter earlier even odd k s (pos apart) macrotick
      (λ is_odd one other here there. kept.precise one other (pos macrotick) is_odd here there (no_less macrotick) (macrotick_within p macrotick s.covered.sane less)) in
      by is_odd lie.0 lie.1
    where
      Most : ℕ → Option Record → Type 0
      Most cycle o = option_map_or (λ r. spread_at (grid_for x.params) cycle r.rows macrotick) o (pos 0) ≤ℤ pos apart

      by : (is_odd : Bool)
          → All (λ one. All (λ other. IsWithin (pos apart) (gap_of x.params false (pos macrotick) one other)) even.told.rows) even.told.rows
          → All (λ one. All (λ other. IsWithin (pos apart) (gap_of x.params true (pos macrotick) one other)) odd.told.rows) odd.told.rows
          → skew_at x.params (told_of h) (cycle_in is_odd k) macrotick ≤ℤ pos apart
      by false early late =
          let told : record_at (told_of h) (2 * k) ≡ Some even.told = told_at h (2 * k) ∙ ap (option_map (λ (c : Cycle). c.told)) (even_is h k earlier even odd d) in
          subst (Most (2 * k)) (sym told)
          (spread_within x.params (2 * k) (pos apart) even.told.rows macrotick false (even_length (2 * k) k refl) (no_less apart) early)
      by true early late =
          let told : record_at (told_of h) (suc (2 * k)) ≡ Some odd.told = told_at h (suc (2 * k)) ∙ ap (option_map (λ (c : Cycle). c.told)) (odd_is h k earlier even odd d) in
          subst (Most (suc (2 * k))) (sym told)
          (spread_within x.params (suc (2 * k)) (pos apart) odd.told.rows macrotick true (odd_length (2 * k) k refl) (no_less apart) late)

-- ---- a run, while first rates last

-- a lawful run that nodes join, from a double cycle on whose nodes lie within the first of some bounds, each of which comes to the next
-- one, whatever is heard in it
pub record IsFollowedRun (x : Setting) (from flutter : ℕ) (h : Cycles) (double : ℕ) (spread : ℕ → GroupSpread) (apart : ℕ → ℕ) (reach : ℤ) : Type 0 where
  pub part : IsTimedPartFrom x from flutter h
  pub whole : length h ≡ 2 * x.doubles
  pub referenced : HaveReferences x
  pub late : from ≤ double
  pub second : holds_of 2 x.params ≡ true
  pub first : (earlier : Cycles) (even odd : Cycle) → IsDoubleOf h double earlier even odd → IsFollowedDouble x (spread 0) (walked_after x.params flutter 0) earlier even odd double
  pub kept :
      (k : ℕ) → double + k < x.doubles → FirstRatesLast x.params flutter k → (earlier : Cycles) (even odd : Cycle) → IsDoubleOf h (double + k) earlier even odd
      → IsFollowedDouble x (spread k) (walked_after x.params flutter k) earlier even odd (double + k)
      → IsFollowedKept x flutter (spread (suc k)) (apart k) reach (walked_after x.params flutter k) (walked_after x.params flutter (suc k)) earlier even odd (double + k)

module _
    (x : Setting) (from flutter : ℕ) (h : Cycles) (double : ℕ) (spread : ℕ → GroupSpread) (apart : ℕ → ℕ) (reach : ℤ)
    (r : IsFollowedRun x from flutter h double spread apart reach) where
  followed_from : (n k : ℕ) (earlier : Cycles) (even odd : Cycle) → k ≡ double + n → k < x.doubles → ((m : ℕ) → m < n → FirstRatesLast x.params flutter m) → IsDoubleOf h k earlier even odd
      → IsFollowedDouble x (spread n) (walked_after x.params flutter n) earlier even odd k
  followed_from zero k earlier even odd is within lasting d =
      let same : k ≡ double = omega (arith, is) in
      let Of : ℕ → Type 0 = λ j. IsDoubleOf h j earlier even odd in
      let At : ℕ → Type 0 = λ j. IsFollowedDouble x (spread 0) (walked_after x.params flutter 0) earlier even odd j in
      subst At (sym same) (r.first earlier even odd (subst Of same d))
  followed_from (suc n) k [] even odd is within lasting d =
      let counted : 0 ≡ 2 * k = d.counted in
      absurd (omega (arith, counted, is))
  followed_from (suc n) k (o ∷ []) even odd is within lasting d =
      let counted : 1 ≡ 2 * k = d.counted in
      absurd (omega (arith, counted))
  followed_from (suc n) k (o ∷ e ∷ earlier) even odd is within lasting d =
      let next : k ≡ suc (double + n) = omega (arith, is) in
      let Of : ℕ → Type 0 = λ j. IsDoubleOf h j (o ∷ e ∷ earlier) even odd in
      let At : ℕ → Type 0 = λ j. IsFollowedDouble x (spread (suc n)) (walked_after x.params flutter (suc n)) (o ∷ e ∷ earlier) even odd j in
      let there : IsDoubleOf h (suc (double + n)) (o ∷ e ∷ earlier) even odd = subst Of next d in
      let last = lasting n (omega arith) in
      let inside : double + n < x.doubles = omega (arith, is, within) in
      let late = r.late in
      let prior = prior_of h (double + n) earlier e o even odd there in
      let before = followed_from n (double + n) earlier e o refl inside (λ j less. lasting j (omega (arith, less))) prior in
      subst At (sym next)
      (
      followed_doubles_go_on x from flutter h (double + n) earlier e o even odd (spread n) (spread (suc n)) (apart n) reach (walked_after x.params flutter n) (walked_after x.params flutter (suc n)) r.part r.referenced
      (omega (arith, late)) there last.1 (next_suffices x.params flutter n r.part.covered.sane r.second last.0) before (r.kept n inside last earlier e o prior before)
      )

  module _ (passed : ℕ) (within : double + passed < x.doubles) (lasting : (m : ℕ) → m < passed → FirstRatesLast x.params flutter m) where
    pub followed : (earlier : Cycles) (even odd : Cycle) → IsDoubleOf h (double + passed) earlier even odd
        → IsFollowedDouble x (spread passed) (walked_after x.params flutter passed) earlier even odd (double + passed)
    followed earlier even odd d = followed_from passed (double + passed) earlier even odd refl within lasting d

    behind : from ≤ double + passed
    behind = let late = r.late in omega (arith, late)

    module _ (last : FirstRatesLast x.params flutter passed) where
      kept_at : (earlier : Cycles) (even odd : Cycle) → IsDoubleOf h (double + passed) earlier even odd
          → IsFollowedKept x flutter (spread (suc passed)) (apart passed) reach (walked_after x.params flutter passed) (walked_after x.params flutter (suc passed)) earlier even odd (double + passed)
      kept_at earlier even odd d = r.kept passed within last earlier even odd d (followed earlier even odd d)

      pub followed_keeps : KeepsJoined x h (double + passed) (apart passed)
      followed_keeps =
          let k = double + passed in
          let f = double_at h k (let whole = r.whole in omega (arith, whole, within)) in
          let beyond = walked_after x.params flutter passed in
          let next = walked_after x.params flutter (suc passed) in
          record {
            skew =
                followed_skew x from flutter h r.part k behind (spread passed) (spread (suc passed)) (apart passed) reach beyond next f.earlier f.even f.odd f.is (followed f.earlier f.even f.odd f.is)
                (kept_at f.earlier f.even f.odd f.is);
            ends = λ earlier even odd d.
                followed_ends x from flutter h r.part k behind (spread passed) (spread (suc passed)) (apart passed) reach beyond next earlier even odd d (followed earlier even odd d) (kept_at earlier even odd d);
          }

      pub followed_joins : (earlier : Cycles) (even odd : Cycle) → IsDoubleOf h (double + passed) earlier even odd → NoneIsLeftBehind x (double + passed) earlier even odd
      followed_joins earlier even odd d =
          steady_followers_join x from flutter h (double + passed) earlier even odd (spread (suc passed)) (apart passed) reach (walked_after x.params flutter passed) (walked_after x.params flutter (suc passed)) r.part behind d
          (kept_at earlier even odd d)
