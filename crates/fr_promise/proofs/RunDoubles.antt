-- The double cycles of a lawful history in which each correct node has a row, as in a run that no node joins: what its nodes do
-- behind each of them, and how they are found by their number.
use Rattle.std.proofs.Common.{◌≡◌, ℕ, suc, ◌+◌, ◌*◌, ◌<◌, Bool, true, false, ℤ, pos, Option, Some, None, List, All, [], ◌∷◌, ◌++◌, length, map, refl, ap, sym, ◌∙◌, subst, arith, if◌then◌else◌}
use Rattle.std.specs.Prelude.{Contains, nat_le}
use Rattle.std.proofs.lemmas.List.{length-append}
use Rattle.std.proofs.lemmas.List.Elements.{All-contains, All-contains_itself}
use Rattle.fr_base.specs.States.{cut_of}
use Rattle.fr_base.specs.Within.{IsWithin}
use Rattle.fr_base.specs.declared.node_row.NodeRow.{NodeRow}
use Rattle.fr_base.specs.declared.state.Outcome.TheVariants.{Within}
use Rattle.fr_base.specs.declared.state.State.TheVariants.{Active}
use Rattle.fr_cluster.specs.Sane.{IsSane}
use Rattle.fr_cluster.specs.Setting.{Setting, correct_nodes}
use Rattle.fr_cluster.specs.Values.{Values}
use Rattle.fr_cluster.specs.declared.join.Join.{Join}
use Rattle.fr_cluster.specs.declared.nodes.NodeSpec.{NodeSpec}
use Rattle.fr_cluster.proofs.Elements.{kept_filtered}
use Rattle.fr_correct.specs.Terms.{rate_term_of}
use Rattle.fr_correct.specs.declared.term.Term.{Term}
use Rattle.fr_precision.specs.Instants.{gap_of, row_in}
use Rattle.fr_precision.specs.Round.{senders_of, Hearer}
use Rattle.fr_precision.specs.Step.{IsFollowed, Member}
use Rattle.fr_precision.proofs.Senders.{All-along}
use Rattle.fr_measure.specs.Deviations.{rate_values_by}
use Rattle.fr_cluster.specs.Questions.{own_index}
use Rattle.fr_history.specs.Cycles.{Cycle, Cycles, some_joins, told_of}
use Rattle.fr_history.specs.History.{AreRowsOf, row_for}
use Rattle.fr_history.specs.Lawful.{Obeys}
use Rattle.fr_history.specs.Laws.{row_laws}
use Rattle.fr_history.specs.Rows.{cut_after, offset_after}
use Rattle.fr_history.specs.Standing.{has_row, has_row_by, row_nodes}
use Rattle.fr_history.specs.Terms.{cuts_in, offset_term_in, rate_term_in, status_in}
use Rattle.fr_history.proofs.Lists.{map-map}
use Rattle.fr_history.proofs.Standing.{rows_stay}
use Rattle.fr_runs.specs.Gathered.{round_at, row_hearer}
use Rattle.fr_runs.specs.Numbers.{rate_term_told}
use Rattle.fr_runs.specs.Rounds.{IsDoubleOf}
use Rattle.fr_runs.proofs.Courses.{is_correct_row, rate_told_odd, row_term_is, row_two, start_told, told_parity}
use Rattle.fr_runs.proofs.Doubles.{even_length, even_stands, odd_is_corrected, odd_length, status_even}
use Rattle.fr_runs.proofs.Going.{rows_ascend}
use Rattle.fr_runs.proofs.Moved.{two_on}
use Rattle.fr_runs.proofs.Outcomes.{active_after, told_counted}
use Rattle.fr_runs.proofs.Reach.{some_joins_by}
use Rattle.fr_runs.proofs.Receivers.{same_mapped}
use Rattle.fr_precision.proofs.RoundLemmas.{contains_map, map_contains}
use Rattle.fr_runs.proofs.Rows.{all_rows, each_row, has_row as row_there, row_runs_by, rows_are}
use Rattle.fr_runs.proofs.Spread.{RowsLie}
use Rattle.fr_runs.proofs.Standing.{filter_same}
use Rattle.fr_runs.specs.SharpHistories.{first_cycles, last_members, last_senders, members_at, senders_at, EndsWell}
use Rattle.fr_precision.specs.SharpRound.{as_member}
use Rattle.fr_precision.specs.SharpRun.{AllUncut, IsNextDouble}
use Rattle.fr_runs.specs.SteadyRuns.{row_hearers, row_members}
use Rattle.fr_runs.proofs.RowsSupplied.{proper_in, steady_in, LawfulRows}

-- ---- a double cycle by its number

within_own : (n m : ℕ) → n ≡ m → nat_le n m ≡ true
within_own n m same = grind arith

beyond : (n m : ℕ) → m < n → nat_le n m ≡ false
beyond n m less = grind arith

first_whole : (t : Cycles) (count : ℕ) → length t ≡ count → first_cycles t count ≡ t
unfolding first_cycles
first_whole [] count is = refl
first_whole (c ∷ h) count is = rw (within_own (length (c ∷ h)) count is) refl

first_of : (later t : Cycles) (count : ℕ) → length t ≡ count → first_cycles (later ++ t) count ≡ t
unfolding first_cycles
first_of [] t count is = first_whole t count is
first_of (c ∷ later) t count is =
    let long = length-append later t in
    let more : count < length (c ∷ later ++ t) = omega (arith, is, long) in
    let moved : first_cycles (c ∷ later ++ t) count ≡ first_cycles (later ++ t) count = rw (beyond (length (c ∷ later ++ t)) count more) refl in
    moved ∙ first_of later t count is

double_found : (h : Cycles) (double : ℕ) (earlier : Cycles) (even odd : Cycle) → IsDoubleOf h double earlier even odd → first_cycles h (2 * double + 2) ≡ odd ∷ even ∷ earlier
double_found h double earlier even odd d =
    let counted : length earlier ≡ 2 * double = d.counted in
    let two : length (odd ∷ even ∷ earlier) ≡ 2 * double + 2 = omega (arith, counted) in
    ap (λ (t : Cycles). first_cycles t (2 * double + 2)) d.parted ∙ first_of d.later (odd ∷ even ∷ earlier) (2 * double + 2) two

pub members_found : (x : Setting) (h : Cycles) (double : ℕ) (earlier : Cycles) (even odd : Cycle) → IsDoubleOf h double earlier even odd → members_at x h double ≡ row_members x earlier even odd
members_found x h double earlier even odd d = ap (last_members x) (double_found h double earlier even odd d)

pub senders_found : (x : Setting) (h : Cycles) (double : ℕ) (earlier : Cycles) (even odd : Cycle) → IsDoubleOf h double earlier even odd
    → senders_at x h double ≡ senders_of (round_at x earlier even odd)
senders_found x h double earlier even odd d = ap (last_senders x) (double_found h double earlier even odd d)

-- ---- each correct node has a row in the cycle behind some cycles

abbrev pub AllHave : Setting → Cycles → Type 0
AllHave x h = (node : NodeSpec) → Contains (correct_nodes x) node → has_row x h node.id ≡ true

-- where none joins they have
pub all_have : (x : Setting) (h : Cycles) → some_joins x ≡ false → AllHave x h
all_have x h none node there = by_join (x.join node.id) refl
  where
    by_join : (join : Option Join) → x.join node.id ≡ join → has_row x h node.id ≡ true
    by_join None at = ap (has_row_by x h node.id) at
    by_join (Some join) at = let e : true ≡ false = sym (some_joins_by x node join there at) ∙ none in absurd (cc)

pub all_among : (x : Setting) (h : Cycles) (node : NodeSpec) → AllHave x h → Contains (correct_nodes x) node → Contains (row_nodes x h) node
all_among x h node all there = kept_filtered (λ (n : NodeSpec). has_row x h n.id) (correct_nodes x) node there (all node there)

pub same_rows : (x : Setting) (h other : Cycles) → AllHave x h → AllHave x other → row_nodes x h ≡ row_nodes x other
same_rows x h other all also =
    filter_same (λ (n : NodeSpec). has_row x h n.id) (λ (n : NodeSpec). has_row x other n.id) (correct_nodes x)
    (λ node there. all node there ∙ sym (also node there))

-- and they have one still behind a double cycle
pub all_stay : (x : Setting) (h : Cycles) (even odd : Cycle) → Obeys x h even → Obeys x (even ∷ h) odd → AllHave x h → AllHave x (odd ∷ even ∷ h)
all_stay x h even odd early late all node there = rows_stay x (even ∷ h) odd node late there (rows_stay x h even node early there (all node there))

-- ---- the rows of a double cycle

-- the row that follows a node of the step, by the number of its own
abbrev pub next_row : Cycle → Member → NodeRow
next_row c node = row_for c.told.rows node.even.node

-- no term of a node is outside its limit
abbrev pub IsCalm : Member → Type 0
IsCalm node = (cut_of node.offset_term.outcome ≡ 0) × (cut_of node.rate_term.outcome ≡ 0)

hearer_at : Setting → Cycle → Cycle → NodeSpec → Hearer
hearer_at x even odd node = row_hearer x even odd node.id

-- those of the nodes of the step are those of the cycles
module _ (x : Setting) (h : Cycles) (even odd : Cycle) (sane : IsSane x.params) where
  pub evens_by : AreRowsOf (row_nodes x h) even.told.rows → map (λ (node : Member). node.even) (row_members x h even odd) ≡ even.told.rows
  evens_by are =
      map-map (λ (node : Member). node.even) (as_member x.params) (row_hearers x h even odd)
      ∙ map-map (λ (n : Hearer). n.even) (λ (node : NodeSpec). row_hearer x even odd node.id) (row_nodes x h)
      ∙ rows_are (row_nodes x h) even.told.rows (rows_ascend x h sane) are

  pub odds_by : AreRowsOf (row_nodes x h) odd.told.rows → map (λ (node : Member). node.odd) (row_members x h even odd) ≡ odd.told.rows
  odds_by are =
      map-map (λ (node : Member). node.odd) (as_member x.params) (row_hearers x h even odd)
      ∙ map-map (λ (n : Hearer). n.odd) (λ (node : NodeSpec). row_hearer x even odd node.id) (row_nodes x h)
      ∙ rows_are (row_nodes x h) odd.told.rows (rows_ascend x h sane) are

module _ (x : Setting) (flutter : ℕ) (h : Cycles) (even odd : Cycle) (double : ℕ) (s : LawfulRows x flutter h even odd double) where
  nodes : List NodeSpec
  nodes = row_nodes x h

  pub evens_are : map (λ (node : Member). node.even) (row_members x h even odd) ≡ even.told.rows
  evens_are = evens_by x h even odd s.covered.sane s.two.even_rows.nodes

  pub odds_are : map (λ (node : Member). node.odd) (row_members x h even odd) ≡ odd.told.rows
  odds_are = odds_by x h even odd s.covered.sane s.two.odd_rows.nodes

  pub member_among : (node : NodeSpec) → Contains (row_nodes x h) node → Contains (row_members x h even odd) (as_member x.params (row_hearer x even odd node.id))
  member_among node among =
      let at : NodeSpec → Hearer = λ n. row_hearer x even odd n.id in
      contains_map (as_member x.params) (map at (row_nodes x h)) (at node) (contains_map at (row_nodes x h) node among)

  -- ---- how far they lie apart

  pub rows_lie : (apart : ℤ) (macrotick : ℕ)
      → ((is_odd : Bool) (one other : Member) → Contains (row_members x h even odd) one → Contains (row_members x h even odd) other
      → IsWithin apart (gap_of x.params is_odd (pos macrotick) (row_in is_odd one.even one.odd) (row_in is_odd other.even other.odd)))
      → RowsLie x.params false apart even.told.rows macrotick × RowsLie x.params true apart odd.told.rows macrotick
  rows_lie apart macrotick near =
      let p : Values = x.params in
      let m = pos macrotick in
      let ascend = rows_ascend x h s.covered.sane in
      let at : NodeSpec → Member = λ node. as_member p (row_hearer x even odd node.id) in (
        all_rows (row_nodes x h) even.told.rows (λ one. All (λ other. IsWithin apart (gap_of p false m one other)) even.told.rows) ascend s.two.even_rows.nodes
            (λ one here.
            all_rows (row_nodes x h) even.told.rows (λ other. IsWithin apart (gap_of p false m (row_for even.told.rows one.id) other)) ascend s.two.even_rows.nodes
            (λ other there. near false (at one) (at other) (member_among one here) (member_among other there))),
        all_rows (row_nodes x h) odd.told.rows (λ one. All (λ other. IsWithin apart (gap_of p true m one other)) odd.told.rows) ascend s.two.odd_rows.nodes
            (λ one here.
            all_rows (row_nodes x h) odd.told.rows (λ other. IsWithin apart (gap_of p true m (row_for odd.told.rows one.id) other)) ascend s.two.odd_rows.nodes
            (λ other there. near true (at one) (at other) (member_among one here) (member_among other there))),
      )

  -- ---- behind it, where all are active in it and no term is cut

  module _ (active_even : All (λ row. row.state ≡ Active) even.told.rows) (active_odd : All (λ row. row.state ≡ Active) odd.told.rows) where
    late_active : (node : NodeSpec) → Contains (row_nodes x h) node → (row_for odd.told.rows node.id).state ≡ Active
    late_active node among = each_row (row_nodes x h) odd.told.rows (λ row. row.state ≡ Active) node s.two.odd_rows.nodes among active_odd

    -- no term is outside its limit, and each is active behind it
    module _ (calm : (node : NodeSpec) → Contains (row_nodes x h) node → IsCalm (as_member x.params (row_hearer x even odd node.id)))
        (stays : (node : NodeSpec) → Contains (row_nodes x h) node → (status_in x.params (told_of (odd ∷ even ∷ h)) node.id).state ≡ Active) where
      -- no row tells a cut
      pub none_early : All (λ row. row.cut ≡ 0) even.told.rows
      none_early =
          All-along (λ row. row.cut ≡ cut_after x.params (told_of h) even.told row) (λ row. row.cut ≡ 0) even.told.rows
          (λ row is. is ∙ ap (λ b. if b then cuts_in x.params (told_of h) even.told.devs row else 0) (even_stands (told_of h) row (told_parity h false (even_length (length h) double s.counted))))
          s.even_obeys.told.cuts

      none_late_at : (node : NodeSpec) → Contains (row_nodes x h) node → (row_for odd.told.rows node.id).cut ≡ 0
      none_late_at node among =
          let p : Values = x.params in
          let after = told_of (even ∷ h) in
          let row = row_for odd.told.rows node.id in
          let number = (row_there (row_nodes x h) odd.told.rows node s.two.odd_rows.nodes among).number in
          let first : cut_of (offset_term_in p after odd.told.devs row.node).outcome ≡ 0 = ap (λ n. cut_of (offset_term_in p after odd.told.devs n).outcome) number ∙ (calm node among).0 in
          let second : cut_of (rate_term_in p after odd.told.devs row).outcome ≡ 0 = ap (λ (t : Term). cut_of t.outcome) (row_term_is x h even odd node.id number) ∙ (calm node among).1 in
          let none : cuts_in p after odd.told.devs row ≡ 0 = omega (arith, first, second) in
          let corrected = odd_is_corrected after row (told_parity (even ∷ h) true (odd_length (length h) double s.counted)) (late_active node among) in
          each_row (row_nodes x h) odd.told.rows (λ r. r.cut ≡ cut_after p after odd.told r) node s.two.odd_rows.nodes among s.odd_obeys.told.cuts
          ∙ ap (λ b. if b then cuts_in p after odd.told.devs row else 0) corrected
          ∙ none

      pub none_late : All (λ row. row.cut ≡ 0) odd.told.rows
      none_late = all_rows (row_nodes x h) odd.told.rows (λ row. row.cut ≡ 0) (rows_ascend x h s.covered.sane) s.two.odd_rows.nodes none_late_at

      -- ---- the next double cycle

      module _ (even2 odd2 : Cycle) (t : LawfulRows x flutter (odd ∷ even ∷ h) even2 odd2 (suc double)) (all : AllHave x h) where
        all_later : AllHave x (odd ∷ even ∷ h)
        all_later = all_stay x h even odd s.even_obeys s.odd_obeys all

        stay : (node : NodeSpec) → Contains (row_nodes x h) node → Contains (row_nodes x (odd ∷ even ∷ h)) node
        stay node among = all_among x (odd ∷ even ∷ h) node all_later (is_correct_row x h node among)

        pub goes_on : (node : NodeSpec) → Contains (row_nodes x h) node
            → IsFollowed x.params (as_member x.params (row_hearer x even odd node.id)) (row_for even2.told.rows node.id) (row_for odd2.told.rows node.id)
        goes_on node among =
            let p : Values = x.params in
            let after = odd ∷ even ∷ h in
            let counted = s.counted in
            let more = t.within in
            let less : suc (suc (suc (length h))) < 2 * x.doubles = omega (arith, counted, more) in
            let correct = is_correct_row x h node among in
            let row = row_for odd.told.rows node.id in
            let next = row_for even2.told.rows node.id in
            let later = row_for odd2.told.rows node.id in
            let late = row_runs_by (row_laws x (even ∷ h)) (offset_after p (told_of (even ∷ h)) odd.told) (row_nodes x h) odd.told.rows node s.two.odd_rows among in
            let first = row_runs_by (row_laws x after) (offset_after p (told_of after) even2.told) (row_nodes x after) even2.told.rows node t.two.even_rows (stay node among) in
            let second = row_runs_by (row_laws x (even2 ∷ after)) (offset_after p (told_of (even2 ∷ after)) odd2.told) (row_nodes x after) odd2.told.rows node t.two.odd_rows (stay node among) in
            let two = two_on h even odd double s.counted in
            let at = row_two x after even2 odd2 node t.two (even_length (length after) (suc double) two) (stay node among) in
            let rate : next.rate ≡ (as_member p (row_hearer x even odd node.id)).rate_term.value =
            first.rate
            ∙ rate_told_odd x (even ∷ h) odd node.id row (odd_length (length h) double s.counted) (late_active node among) late.has.is
            ∙ ap (λ (term : Term). term.value) (row_term_is x h even odd node.id late.has.number) in
            let early_micro = proper_in x double flutter node (length after) next.length s.covered correct (omega (arith, counted)) (omega (arith, less)) at.even_length in
            let late_micro = proper_in x double flutter node (suc (length after)) later.length s.covered correct (omega (arith, counted)) less at.odd_length in
            let active = stays node among in
            let parity = even_length (length (told_of after)) (suc double) (told_counted after (suc double) two) in
            record {
              start = first.start ∙ start_told x (even ∷ h) odd node.id row late.has.is;
              next = record {
                even_rate = rate;
                odd_rate = at.double.same_rate ∙ rate;
                even_micro = record { least = early_micro.0; most = early_micro.1 };
                odd_micro = record { least = late_micro.0; most = late_micro.1 };
                even_steady = steady_in x double flutter node (suc (length h)) row.length next.length s.covered correct (omega (arith, counted)) (omega (arith, less)) late.length_is at.even_length;
                odd_steady = steady_in x double flutter node (length after) next.length later.length s.covered correct (omega (arith, counted)) less at.even_length at.odd_length;
              };
              active_even = first.state ∙ active;
              active_odd = second.state ∙ status_even x (told_of after) even2.told node.id parity ∙ active;
            }

        number_is : (node : NodeSpec) → Contains (row_nodes x h) node → (row_for even.told.rows node.id).node ≡ node.id
        number_is node among = (row_there (row_nodes x h) even.told.rows node s.two.even_rows.nodes among).number

        pub next_rows_are : (c : Cycle) → AreRowsOf (row_nodes x (odd ∷ even ∷ h)) c.told.rows → map (next_row c) (row_members x h even odd) ≡ c.told.rows
        next_rows_are c are =
            let after = odd ∷ even ∷ h in
            let Are : List NodeSpec → Type 0 = λ some. AreRowsOf some c.told.rows in
            let own : AreRowsOf (row_nodes x h) c.told.rows = subst Are (same_rows x after h all_later all) are in
            map-map (λ (node : Member). row_for c.told.rows node.even.node) (as_member x.params) (row_hearers x h even odd)
            ∙ map-map (λ (n : Hearer). row_for c.told.rows n.even.node) (λ (node : NodeSpec). row_hearer x even odd node.id) (row_nodes x h)
            ∙ same_mapped (λ (node : NodeSpec). row_for c.told.rows (row_for even.told.rows node.id).node) (λ (node : NodeSpec). row_for c.told.rows node.id) (row_nodes x h)
            (λ node among. ap (row_for c.told.rows) (number_is node among))
            ∙ rows_are (row_nodes x h) c.told.rows (rows_ascend x h s.covered.sane) own

        pub followed_at : (node : Member) → Contains (row_members x h even odd) node → IsFollowed x.params node (next_row even2 node) (next_row odd2 node)
        followed_at node here =
            let p : Values = x.params in
            let n = map_contains (as_member p) (row_hearers x h even odd) node here in
            let own = map_contains (λ (spec : NodeSpec). row_hearer x even odd spec.id) (row_nodes x h) n.0 n.1 in
            let Of : Member → Type 0 = λ m. IsFollowed p m (row_for even2.told.rows m.even.node) (row_for odd2.told.rows m.even.node) in
            let By : Hearer → Type 0 = λ m. Of (as_member p m) in
            let At : ℕ → Type 0 = λ id. IsFollowed p (as_member p (row_hearer x even odd own.0.id)) (row_for even2.told.rows id) (row_for odd2.told.rows id) in
            subst Of n.2 (subst By own.2 (subst At (sym (number_is own.0 own.1)) (goes_on own.0 own.1)))

    module _ (uncut : AllUncut (row_members x h even odd)) where
      uncut_at : (node : NodeSpec) → Contains (row_nodes x h) node
          → ((as_member x.params (row_hearer x even odd node.id)).offset_term.outcome ≡ Within) × ((as_member x.params (row_hearer x even odd node.id)).rate_term.outcome ≡ Within)
      uncut_at node among =
          All-contains (λ (m : Member). (m.offset_term.outcome ≡ Within) × (m.rate_term.outcome ≡ Within)) (row_members x h even odd) (as_member x.params (row_hearer x even odd node.id)) uncut
          (member_among node among)

      -- the terms by the row's own number
      offset_told : (node : NodeSpec) → Contains (row_nodes x h) node → (offset_term_in x.params (told_of (even ∷ h)) odd.told.devs (row_for odd.told.rows node.id).node).outcome ≡ Within
      offset_told node among =
          ap (λ n. (offset_term_in x.params (told_of (even ∷ h)) odd.told.devs n).outcome) (row_there (row_nodes x h) odd.told.rows node s.two.odd_rows.nodes among).number
          ∙ (uncut_at node among).0

      rate_told : (node : NodeSpec) → Contains (row_nodes x h) node → (rate_term_in x.params (told_of (even ∷ h)) odd.told.devs (row_for odd.told.rows node.id)).outcome ≡ Within
      rate_told node among =
          ap (λ (t : Term). t.outcome) (row_term_is x h even odd node.id (row_there (row_nodes x h) odd.told.rows node s.two.odd_rows.nodes among).number)
          ∙ (uncut_at node among).1

      rate_of_told : (node : NodeSpec) → Contains (row_nodes x h) node → (rate_term_told x even odd node).outcome ≡ Within
      rate_of_told node among =
          let p : Values = x.params in
          ap (λ (id : ℕ). (rate_term_of (row_for odd.told.rows node.id).rate p.damping p.rate_limit (rate_values_by p even.told.devs odd.told.devs id (own_index p node.id))).outcome)
          (row_there (row_nodes x h) odd.told.rows node s.two.odd_rows.nodes among).number
          ∙ (uncut_at node among).1

      stays_active : (node : NodeSpec) → Contains (row_nodes x h) node → (status_in x.params (told_of (odd ∷ even ∷ h)) node.id).state ≡ Active
      stays_active node among =
          let p : Values = x.params in
          let early = row_runs_by (row_laws x h) (offset_after p (told_of h) even.told) (row_nodes x h) even.told.rows node s.two.even_rows among in
          let late = row_runs_by (row_laws x (even ∷ h)) (offset_after p (told_of (even ∷ h)) odd.told) (row_nodes x h) odd.told.rows node s.two.odd_rows among in
          let active = each_row (row_nodes x h) even.told.rows (λ row. row.state ≡ Active) node s.two.even_rows.nodes among active_even in
          active_after x h even odd double node.id (row_for odd.told.rows node.id) s.counted late.has.is (sym early.state ∙ active) (offset_told node among) (rate_told node among)

      calm_of : (node : NodeSpec) → Contains (row_nodes x h) node → IsCalm (as_member x.params (row_hearer x even odd node.id))
      calm_of node among = let both = uncut_at node among in (ap cut_of both.0, ap cut_of both.1)

      pub ends_well : AllHave x h → EndsWell x h even odd
      ends_well all = record {
        offset_within = λ node there. (uncut_at node (all_among x h node all there)).0;
        rate_within = λ node there. rate_of_told node (all_among x h node all there);
        uncut_even = none_early calm_of stays_active;
        uncut_odd = none_late calm_of stays_active;
        active = λ node there. stays_active node (all_among x h node all there);
      }

  -- ---- together

  pub next_double_of : (even2 odd2 : Cycle) → LawfulRows x flutter (odd ∷ even ∷ h) even2 odd2 (suc double) → AllHave x h → (active_even : All (λ row. row.state ≡ Active) even.told.rows)
      → (active_odd : All (λ row. row.state ≡ Active) odd.told.rows)
      → ((node : NodeSpec) → Contains (row_nodes x h) node → IsCalm (as_member x.params (row_hearer x even odd node.id)))
      → ((node : NodeSpec) → Contains (row_nodes x h) node → (status_in x.params (told_of (odd ∷ even ∷ h)) node.id).state ≡ Active)
      → map (λ (node : Member). node.even) (row_members x (odd ∷ even ∷ h) even2 odd2) ≡ even2.told.rows
      → map (λ (node : Member). node.odd) (row_members x (odd ∷ even ∷ h) even2 odd2) ≡ odd2.told.rows
      → IsNextDouble x.params (row_members x h even odd) (row_members x (odd ∷ even ∷ h) even2 odd2)
  next_double_of even2 odd2 t all active_even active_odd calm stays evens odds = record {
    next_even = next_row even2;
    next_odd = next_row odd2;
    followed =
        All-along (Contains (row_members x h even odd))
        (λ (node : Member).
        IsFollowed x.params node (next_row even2 node) (next_row odd2 node))
        (row_members x h even odd) (followed_at active_even active_odd calm stays even2 odd2 t all) (All-contains_itself (row_members x h even odd));
    evens = evens ∙ sym (next_rows_are active_even active_odd calm stays even2 odd2 t all even2 t.two.even_rows.nodes);
    odds = odds ∙ sym (next_rows_are active_even active_odd calm stays even2 odd2 t all odd2 t.two.odd_rows.nodes);
  }

  pub next_double : (even2 odd2 : Cycle) → LawfulRows x flutter (odd ∷ even ∷ h) even2 odd2 (suc double) → AllHave x h → All (λ row. row.state ≡ Active) even.told.rows
      → All (λ row. row.state ≡ Active) odd.told.rows → AllUncut (row_members x h even odd)
      → map (λ (node : Member). node.even) (row_members x (odd ∷ even ∷ h) even2 odd2) ≡ even2.told.rows
      → map (λ (node : Member). node.odd) (row_members x (odd ∷ even ∷ h) even2 odd2) ≡ odd2.told.rows
      → IsNextDouble x.params (row_members x h even odd) (row_members x (odd ∷ even ∷ h) even2 odd2)
  next_double even2 odd2 t all active_even active_odd uncut evens odds =
      next_double_of even2 odd2 t all active_even active_odd (calm_of active_even active_odd uncut) (stays_active active_even active_odd uncut) evens odds
