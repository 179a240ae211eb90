-- The nodes with rows of a double cycle draw near, whoever follows in it: no term of theirs is cut, they stay active, and in the
-- next double cycle they lie half as far apart, and some.
use Rattle.std.proofs.Common.{◌≡◌, ℕ, suc, ◌<◌, ℤ, List, ◌∷◌, All, length, map, refl, ap, sym, ◌∙◌, subst}
use Rattle.std.specs.Prelude.{◌≤ℤ◌, ◌-ℤ◌, Contains}
use Rattle.std.proofs.lemmas.List.Elements.{All-map}
use Rattle.fr_base.specs.Within.{IsWithin, LieWithin}
use Rattle.fr_base.specs.declared.node_row.NodeRow.{NodeRow}
use Rattle.fr_base.specs.declared.state.Outcome.TheVariants.{Within}
use Rattle.fr_base.specs.declared.state.State.TheVariants.{Active}
use Rattle.fr_cluster.specs.Setting.{Setting}
use Rattle.fr_cluster.specs.Values.{Values}
use Rattle.fr_cluster.specs.declared.nodes.NodeSpec.{NodeSpec}
use Rattle.fr_correct.specs.declared.term.Term.{Term}
use Rattle.fr_bound.specs.Sync.{cycle_length_of, IsCycleLength}
use Rattle.fr_precision.specs.Instants.{LieNear}
use Rattle.fr_precision.specs.Step.{AreSpread, DrawNear, Member, Shrinks}
use Rattle.fr_precision.proofs.ReceiverLaws.{comes_near}
use Rattle.fr_precision.proofs.StepLaws.{same_apart}
use Rattle.fr_history.specs.History.{AreRowsOf, row_for}
use Rattle.fr_history.specs.Rows.{offset_after}
use Rattle.fr_history.specs.Terms.{offset_term_in, status_in}
use Rattle.fr_history.proofs.Lists.{map-map}
use Rattle.fr_history.specs.Cycles.{Cycle, Cycles, told_of}
use Rattle.fr_history.specs.Laws.{row_laws}
use Rattle.fr_history.specs.Standing.{row_nodes}
use Rattle.fr_precision.specs.Round.{Hearer}
use Rattle.fr_runs.proofs.Doubles.{even_length, odd_length, status_even}
use Rattle.fr_precision.proofs.RoundLemmas.{contains_map, map_contains}
use Rattle.fr_runs.proofs.Rows.{Ascend, all_rows, each_row, row_runs_by, rows_are}
use Rattle.fr_runs.specs.Drawn.{IsRoundSpread}
use Rattle.fr_runs.specs.Gathered.{round_at, row_hearer}
use Rattle.fr_runs.specs.Hearers.{IsSupplied, member_from}
use Rattle.fr_runs.proofs.Courses.{RunTwo, is_correct_row, rate_told_odd, row_applied, row_term_is, row_two, start_told}
use Rattle.fr_runs.proofs.Drawing.{rounds_draw_near_lem}
use Rattle.fr_runs.proofs.Going.{is_row_node, rows_ascend}
use Rattle.fr_runs.proofs.Moved.{Moves, covered_micros, moves_by, two_on}
use Rattle.fr_runs.proofs.Outcomes.{active_after, told_counted}
use Rattle.fr_runs.proofs.RowsHeard.{SpreadRows, row_regular, rows_hear}

abbrev pub hearer_at : Setting → Cycle → Cycle → NodeSpec → Hearer
hearer_at x even odd node = row_hearer x even odd node.id

abbrev pub member_at : Setting → Cycle → Cycle → NodeSpec → Member
member_at x even odd node = member_from x.params (hearer_at x even odd node)

-- the clocks of the next double cycle run by their laws, and these nodes have rows in it
pub record NextRows (x : Setting) (h : Cycles) (even odd even2 odd2 : Cycle) (double : ℕ) : Type 0 where
  pub more : suc double < x.doubles
  pub two : RunTwo x (odd ∷ even ∷ h) even2 odd2
  pub stay : (node : NodeSpec) → Contains (row_nodes x h) node → Contains (row_nodes x (odd ∷ even ∷ h)) node

-- ---- rows lie as near as any two of the nodes that have them

module _ (nodes : List NodeSpec) (ascend : Ascend nodes) where
  pairs_lie : (f : NodeRow → ℤ) (bound : ℤ) (rows : List NodeRow) → AreRowsOf nodes rows
      → ((one other : NodeSpec) → Contains nodes one → Contains nodes other → IsWithin bound (f (row_for rows one.id) -ℤ f (row_for rows other.id))) → LieWithin bound (map f rows)
  pairs_lie f bound rows are near =
      let From : ℤ → Type 0 = λ a. All (λ b. (a -ℤ b) ≤ℤ bound) (map f rows) in
      All-map From f rows
      (all_rows nodes rows (λ one. From (f one)) ascend are
      (λ one here.
      let first : ℤ = f (row_for rows one.id) in
      All-map (λ b. (first -ℤ b) ≤ℤ bound) f rows
      (all_rows nodes rows (λ other. (first -ℤ f other) ≤ℤ bound) ascend are (λ other there. (near one other here there).high))))

  rows_spread : (p : Values) (starts lengths : ℤ) (evens odds : List NodeRow) → AreRowsOf nodes evens → AreRowsOf nodes odds
      → ((one other : NodeSpec) → Contains nodes one → Contains nodes other
      → LieNear p starts lengths lengths (row_for evens one.id) (row_for odds one.id) (row_for evens other.id) (row_for odds other.id))
      → ((node : NodeSpec) → Contains nodes node → IsCycleLength p (cycle_length_of p (row_for evens node.id)) × IsCycleLength p (cycle_length_of p (row_for odds node.id)))
      → AreSpread p starts lengths evens odds
  rows_spread p starts lengths evens odds early late near proper = record {
    starts_lie = pairs_lie (λ row. row.start) starts evens early (λ one other here there. (near one other here there).by_start);
    even_lengths = pairs_lie (cycle_length_of p) lengths evens early (λ one other here there. (near one other here there).by_even);
    odd_lengths = pairs_lie (cycle_length_of p) lengths odds late (λ one other here there. (near one other here there).by_odd);
    even_proper = all_rows nodes evens (λ row. IsCycleLength p (cycle_length_of p row)) ascend early (λ node among. (proper node among).0);
    odd_proper = all_rows nodes odds (λ row. IsCycleLength p (cycle_length_of p row)) ascend late (λ node among. (proper node among).1);
  }

module _ (x : Setting) (h : Cycles) (even odd : Cycle) (double : ℕ) (starts lengths reach : ℤ) (s : SpreadRows x h even odd double starts lengths reach) where
  -- ---- the round of these nodes alone

  abbrev hearers : List Hearer
  hearers = map (hearer_at x even odd) (row_nodes x h)

  odd_active : (node : NodeSpec) → Contains (row_nodes x h) node → (row_for odd.told.rows node.id).state ≡ Active
  odd_active node among = each_row (row_nodes x h) odd.told.rows (λ row. row.state ≡ Active) node s.two.odd_rows.nodes among s.active_odd

  supplied : (n : Hearer) → Contains hearers n → IsSupplied (round_at x h even odd) n
  supplied n here =
      let found = map_contains (hearer_at x even odd) (row_nodes x h) n here in
      let own : IsSupplied (round_at x h even odd) (hearer_at x even odd found.0) = record {
        regular = row_regular x h even odd double starts lengths reach s found.0 found.1;
        applied = row_applied x h even odd found.0 s.two (odd_length (length h) double s.counted) found.1 (odd_active found.0 found.1);
        hears = rows_hear x h even odd double starts lengths reach s found.0 found.1;
      } in
      subst (IsSupplied (round_at x h even odd)) found.2 own

  hearers_spread : AreSpread x.params starts lengths (map (λ (n : Hearer). n.even) hearers) (map (λ (n : Hearer). n.odd) hearers)
  hearers_spread =
      let nodes = row_nodes x h in
      let at : NodeSpec → Hearer = hearer_at x even odd in
      let ascend = rows_ascend x h s.covered.clocks.sane in
      let evens = map-map (λ (n : Hearer). n.even) at nodes ∙ rows_are nodes even.told.rows ascend s.two.even_rows.nodes in
      let odds = map-map (λ (n : Hearer). n.odd) at nodes ∙ rows_are nodes odd.told.rows ascend s.two.odd_rows.nodes in
      let Even : List NodeRow → Type 0 = λ rows. AreSpread x.params starts lengths rows odd.told.rows in
      let Odd : List NodeRow → Type 0 = λ rows. AreSpread x.params starts lengths (map (λ (n : Hearer). n.even) (map at nodes)) rows in
      subst Odd (sym odds) (subst Even (sym evens) s.spread)

  round_spread : IsRoundSpread (round_at x h even odd) hearers starts lengths reach
  round_spread =
      let covered = s.covered.clocks in
      record {
        round = record {
          sane = covered.sane;
          few = covered.few h;
          regular = λ node there has. row_regular x h even odd double starts lengths reach s node (is_row_node x h node there has);
        };
        first = covered.first;
        second = covered.second;
        limit = s.limit;
        fits = s.fits;
        supplied = λ n is. supplied n is;
        among = λ node slot sender.
            (hearer_at x even odd node, contains_map (hearer_at x even odd) (row_nodes x h) node (is_row_node x h node sender.there sender.rows), refl, refl);
        spread = hearers_spread;
      }

  -- so any two of them draw near, and neither of a node's terms is cut or missing
  pub two_draw_near : (one other : NodeSpec) → Contains (row_nodes x h) one → Contains (row_nodes x h) other → DrawNear x.params starts lengths (member_at x even odd one) (member_at x even odd other)
  two_draw_near one other here there =
      let at = hearer_at x even odd in
      rounds_draw_near_lem (round_at x h even odd) hearers starts lengths reach (at one) (at other) round_spread
      (contains_map at (row_nodes x h) one here) (contains_map at (row_nodes x h) other there)

  pub rates_uncut : (node : NodeSpec) → Contains (row_nodes x h) node → (member_at x even odd node).rate_term.outcome ≡ Within
  rates_uncut node among = (two_draw_near node node among among).range.uncut

  pub offsets_uncut : (node : NodeSpec) → Contains (row_nodes x h) node → (member_at x even odd node).offset_term.outcome ≡ Within
  offsets_uncut node among = (two_draw_near node node among among).uncut

  -- they stay active
  pub stays_active : (node : NodeSpec) → Contains (row_nodes x h) node → (status_in x.params (told_of (odd ∷ even ∷ h)) node.id).state ≡ Active
  stays_active node among =
      let p : Values = x.params in
      let nodes = row_nodes x h in
      let early = row_runs_by (row_laws x h) (offset_after p (told_of h) even.told) nodes even.told.rows node s.two.even_rows among in
      let late = row_runs_by (row_laws x (even ∷ h)) (offset_after p (told_of (even ∷ h)) odd.told) nodes odd.told.rows node s.two.odd_rows among in
      let active = each_row nodes even.told.rows (λ row. row.state ≡ Active) node s.two.even_rows.nodes among s.active_even in
      active_after x h even odd double node.id (row_for odd.told.rows node.id) s.counted late.has.is (sym early.state ∙ active)
      (ap (λ n. (offset_term_in p (told_of (even ∷ h)) odd.told.devs n).outcome) late.has.number ∙ offsets_uncut node among)
      (ap (λ (t : Term). t.outcome) (row_term_is x h even odd node.id late.has.number) ∙ rates_uncut node among)

  -- ---- the next double cycle

  module _ (even2 odd2 : Cycle) (n : NextRows x h even odd even2 odd2 double) where
    pub row_moves : (node : NodeSpec) → Contains (row_nodes x h) node → Moves x.params (hearer_at x even odd node) (row_for even2.told.rows node.id) (row_for odd2.told.rows node.id)
    row_moves node among =
        let p : Values = x.params in
        let after = odd ∷ even ∷ h in
        let row = row_for odd.told.rows node.id in
        let late = row_runs_by (row_laws x (even ∷ h)) (offset_after p (told_of (even ∷ h)) odd.told) (row_nodes x h) odd.told.rows node s.two.odd_rows among in
        let first = row_runs_by (row_laws x after) (offset_after p (told_of after) even2.told) (row_nodes x after) even2.told.rows node n.two.even_rows (n.stay node among) in
        let rate =
        rate_told_odd x (even ∷ h) odd node.id row (odd_length (length h) double s.counted) (odd_active node among) late.has.is
        ∙ ap (λ (t : Term). t.value) (row_term_is x h even odd node.id late.has.number) in
        moves_by x h even odd double node (hearer_at x even odd node) (row_for even2.told.rows node.id) (row_for odd2.told.rows node.id) (covered_micros x double s.covered.clocks n.more) s.counted
        (is_correct_row x h node among) late.length_is (first.start ∙ start_told x (even ∷ h) odd node.id row late.has.is) (first.rate ∙ rate)
        (row_two x after even2 odd2 node n.two (even_length (length after) (suc double) (two_on h even odd double s.counted)) (n.stay node among))

    -- they are active in it
    pub next_active : (node : NodeSpec) → Contains (row_nodes x h) node → ((row_for even2.told.rows node.id).state ≡ Active) × ((row_for odd2.told.rows node.id).state ≡ Active)
    next_active node among =
        let p : Values = x.params in
        let after = odd ∷ even ∷ h in
        let nodes = row_nodes x after in
        let active = stays_active node among in
        let early = row_runs_by (row_laws x after) (offset_after p (told_of after) even2.told) nodes even2.told.rows node n.two.even_rows (n.stay node among) in
        let late = row_runs_by (row_laws x (even2 ∷ after)) (offset_after p (told_of (even2 ∷ after)) odd2.told) nodes odd2.told.rows node n.two.odd_rows (n.stay node among) in
        let parity = even_length (length (told_of after)) (suc double) (told_counted after (suc double) (two_on h even odd double s.counted)) in
        (early.state ∙ active, late.state ∙ status_even x (told_of after) even2.told node.id parity ∙ active)

    -- any two of them lie there as near as the numbers shrink to
    pub next_rows_lie : (next_starts next_lengths : ℤ) (one other : NodeSpec) → Shrinks x.params starts lengths next_starts next_lengths → Contains (row_nodes x h) one → Contains (row_nodes x h) other
        → LieNear x.params next_starts next_lengths next_lengths (row_for even2.told.rows one.id) (row_for odd2.told.rows one.id) (row_for even2.told.rows other.id) (row_for odd2.told.rows other.id)
    next_rows_lie next_starts next_lengths one other shrinks here there =
        let p : Values = x.params in
        let come = comes_near p starts lengths next_starts next_lengths (member_at x even odd one) (member_at x even odd other) shrinks (two_draw_near one other here there) in
        let first = row_moves one here in
        let second = row_moves other there in
        let lengths_lie = come.lengths (row_for even2.told.rows one.id) (row_for odd2.told.rows one.id) (row_for even2.told.rows other.id) (row_for odd2.told.rows other.id) first.next second.next in
        record {
          by_start = same_apart next_starts (row_for even2.told.rows one.id).start (row_for even2.told.rows other.id).start _ _ first.start second.start come.starts;
          by_even = lengths_lie.0;
          by_odd = lengths_lie.1;
        }

    pub next_proper : (node : NodeSpec) → Contains (row_nodes x h) node
        → IsCycleLength x.params (cycle_length_of x.params (row_for even2.told.rows node.id)) × IsCycleLength x.params (cycle_length_of x.params (row_for odd2.told.rows node.id))
    next_proper node among = (two_draw_near node node among among).proper (row_for even2.told.rows node.id) (row_for odd2.told.rows node.id) (row_moves node among).next

    -- so all rows of it do, where no further node has one
    pub next_spread_is : (next_starts next_lengths : ℤ) → row_nodes x (odd ∷ even ∷ h) ≡ row_nodes x h → Shrinks x.params starts lengths next_starts next_lengths
        → All (λ row. row.state ≡ Active) even2.told.rows × All (λ row. row.state ≡ Active) odd2.told.rows × AreSpread x.params next_starts next_lengths even2.told.rows odd2.told.rows
    next_spread_is next_starts next_lengths same shrinks =
        let nodes = row_nodes x h in
        let ascend = rows_ascend x h s.covered.clocks.sane in
        let Evens : List NodeSpec → Type 0 = λ some. AreRowsOf some even2.told.rows in
        let Odds : List NodeSpec → Type 0 = λ some. AreRowsOf some odd2.told.rows in
        let early = subst Evens same n.two.even_rows.nodes in
        let late = subst Odds same n.two.odd_rows.nodes in (
          all_rows nodes even2.told.rows (λ row. row.state ≡ Active) ascend early (λ node among. (next_active node among).0),
          all_rows nodes odd2.told.rows (λ row. row.state ≡ Active) ascend late (λ node among. (next_active node among).1),
          rows_spread nodes ascend x.params next_starts next_lengths even2.told.rows odd2.told.rows early late
              (λ one other here there. next_rows_lie next_starts next_lengths one other shrinks here there) (λ node among. next_proper node among),
        )
