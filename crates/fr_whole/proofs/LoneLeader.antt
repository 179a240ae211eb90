-- The leader of a run in the cycles in which no other node has a row yet: its values are 0 and so are its terms, and its cycles last no
-- longer than those without corrections.
use Rattle.std.proofs.Common.{◌≡◌, ◌⊎◌, ℕ, zero, suc, ◌+◌, ◌*◌, ◌<◌, ◌==◌, Bool, true, false, ◌&&◌, ◌||◌, ℤ, pos, Option, Some, None, List, [], ◌∷◌, All, length, refl, ap, sym, ◌∙◌, subst, inl, inr, arith}
use Rattle.std.specs.Prelude.{◌+ℤ◌, ◌-ℤ◌, ◌*ℤ◌, ◌≤ℤ◌, Contains, count_by, is_some}
use Rattle.std.specs.List.{range_with_len}
use Rattle.std.proofs.lemmas.Bool.{and_parts, cases_eq}
use Rattle.std.proofs.lemmas.Int.{ints}
use Rattle.fr_base.specs.Within.{IsWithin}
use Rattle.fr_base.specs.declared.channel.Channel.{Channel}
use Rattle.fr_base.specs.declared.channel.Channel.TheVariants.{A, B}
use Rattle.fr_base.specs.declared.node_row.NodeRow.{NodeRow}
use Rattle.fr_base.specs.declared.state.State.TheVariants.{Active}
use Rattle.fr_bound.specs.Bounds.{longest_micro}
use Rattle.fr_cluster.specs.Questions.{key_slot_of}
use Rattle.fr_cluster.specs.Sane.{IsSane}
use Rattle.fr_cluster.specs.Setting.{Setting, correct_nodes, is_correct}
use Rattle.fr_cluster.specs.Values.{Values}
use Rattle.fr_cluster.specs.declared.join.Join.{Join}
use Rattle.fr_cluster.specs.declared.names.ParamName.TheVariants as name
use Rattle.fr_cluster.specs.declared.nodes.NodeSpec.{NodeSpec}
use Rattle.fr_cluster.proofs.Elements.{Contains-none, filtered, kept_filtered}
use Rattle.fr_cluster.proofs.KeyNodes.{Contains-cons_cases}
use Rattle.fr_history.specs.Cycles.{Cycle, Cycles, told_of}
use Rattle.fr_history.specs.History.{row_for, row_of}
use Rattle.fr_history.specs.Laws.{row_laws}
use Rattle.fr_history.specs.Rows.{offset_after}
use Rattle.fr_correct.specs.Terms.{rate_term_of}
use Rattle.fr_history.specs.Standing.{followed_well, has_joined_after, has_row, has_row_by, row_nodes}
use Rattle.fr_measure.specs.Values.{change_at, is_own, least_of, mean_of, offset_at, rate_at, values_of}
use Rattle.fr_midpoint.proofs.Products.{mulz-lez_left}
use Rattle.fr_precision.specs.Instants.{gap_of, row_in}
use Rattle.fr_precision.specs.Offsets.{LimitSuffices}
use Rattle.fr_precision.specs.Reception.{LeavesRoom}
use Rattle.fr_precision.specs.Round.{IsHeardAt, offsets_of, rates_of, sync_count}
use Rattle.fr_precision.specs.Rows.{corrected_end_of, longest_cycle}
use Rattle.fr_precision.specs.Step.{Member}
use Rattle.fr_precision.proofs.Counting.{count_cons, count_yes}
use Rattle.fr_precision.proofs.Figures.{longest_is}
use Rattle.fr_precision.proofs.Values.{change_from, other_value, own_value}
use Rattle.fr_runs.specs.Gathered.{round_at, row_hearer}
use Rattle.fr_runs.specs.Hearers.{member_from}
use Rattle.fr_runs.specs.Rounds.{AllClocksRun, IsDoubleOf}
use Rattle.fr_runs.proofs.Courses.{rate_told_odd, row_term_is, start_told}
use Rattle.fr_runs.proofs.Doubles.{odd_length}
use Rattle.fr_runs.proofs.Fed.{row_other}
use Rattle.fr_runs.proofs.Going.{rows_ascend}
use Rattle.fr_runs.proofs.Lawful.{lawful_cycles_run}
use Rattle.fr_runs.proofs.Receivers.{is_correct_node}
use Rattle.fr_runs.proofs.Rows.{all_rows, each_row, row_runs_by}
use Rattle.fr_runs.proofs.Standing.{differs, told_has}
use Rattle.fr_runs.proofs.Whole.{double_runs, prior_of}
use Rattle.fr_precision.specs.SharpRound.{as_member, IsSteadilySupplied}
use Rattle.fr_runs.specs.SteadyRuns.{row_hearers, row_members, AreRowsInReach, IsSteadyPart}
use Rattle.fr_precision.proofs.RoundLemmas.{all_given, map_contains}
use Rattle.fr_runs.proofs.RowsSupplied.{lawful_rows, rows_hear_steadily}
use Rattle.fr_time.proofs.Keys.{key_node_has}
use Rattle.fr_time.specs.Instant.{instant_of}
use Rattle.fr_time.specs.Position.{grid_for}
use Rattle.fr_time.specs.Senders.{key_node_of}
use Rattle.fr_whole.specs.PowerOn.{IsLedRun, JoinsLeader}
use Rattle.fr_whole.proofs.ZeroTerms.{no_offset, no_rate, IsZero}

-- ---- who has a row

joined : (o : Option Join) (leader : ℕ) → JoinsLeader o leader → (join : Join) × (o ≡ Some join)
joined None leader is = absurd is
joined (Some join) leader is = (join, refl)

-- no node that joins has a row before cycle 6
none_yet : (x : Setting) (h : Cycles) (node : NodeSpec) (join : Join) → AllClocksRun x h → length h < 6 → Contains (correct_nodes x) node → x.join node.id ≡ Some join
    → has_joined_after x h node.id join ≡ false
none_yet x [] node join run few there at = refl
none_yet x (c ∷ h) node join run few there at =
    let before = none_yet x h node join run.1 (omega (arith, few)) there at in
    let row : is_some (row_of c.told.rows node.id) ≡ false = told_has x h c node run.0 there ∙ ap (has_row_by x h node.id) at ∙ before in
    let now = differs (suc (length h)) (2 * join.double + 6) (λ is. omega (arith, few, is)) in
    ap (λ b. b || ((suc (length h) == 2 * join.double + 6) && followed_well x.params c h (row_of c.followers node.id))) row
    ∙ ap (λ b. b && followed_well x.params c h (row_of c.followers node.id)) now

module _ (x : Setting) (leader : ℕ) (l : IsLedRun x leader) where
  -- so there it is the leader alone
  alone : (h : Cycles) (node : NodeSpec) → AllClocksRun x h → length h < 6 → Contains (correct_nodes x) node → has_row x h node.id ≡ true → node.id ≡ leader
  alone h node run few there has = elim (cases_eq node.id leader) [
    | inl same ↦ same
    | inr other ↦
        let joins = joined (x.join node.id) leader (l.others node there other) in
        let e : true ≡ false = sym has ∙ ap (has_row_by x h node.id) joins.1 ∙ none_yet x h node joins.0 run few there joins.1 in
        absurd (cc)
  ]

  pub alone_among : (h : Cycles) (node : NodeSpec) → AllClocksRun x h → length h < 6 → Contains (row_nodes x h) node → node.id ≡ leader
  alone_among h node run few among =
      let parts = filtered (λ (n : NodeSpec). has_row x h n.id) (correct_nodes x) node among in
      alone h node run few parts.0 parts.1

  pub leader_stays : (h : Cycles) → has_row x h l.node.id ≡ true
  leader_stays h = ap (has_row_by x h l.node.id) (ap x.join l.number ∙ l.stays)

  -- which has a row in each cycle
  pub leader_among : (h : Cycles) → Contains (row_nodes x h) l.node
  leader_among h = kept_filtered (λ (n : NodeSpec). has_row x h n.id) (correct_nodes x) l.node l.there (leader_stays h)

-- ---- its values

-- what nothing passes none of a list passes
none_counts : {X : Type 0} (test : X → Bool) (xs : List X) (x : X) → count_by test xs ≡ 0 → Contains xs x → test x ≡ true → ⊥
none_counts test [] x none among passes = Contains-none x among
none_counts test (y ∷ xs) x none among passes = elim (Contains-cons_cases y xs x among) [
  | inl same ↦ let e = count_yes test y xs (ap test same ∙ passes) in omega (arith, e, none)
  | inr more ↦ let e = count_cons test y xs in none_counts test xs x (omega (arith, e, none)) more passes
]

-- where there is a least or a mean, some channel has one
least_there : (a b : Option ℤ) (v : ℤ) → least_of a b ≡ Some v → ((w : ℤ) × (a ≡ Some w)) ⊎ ((w : ℤ) × (b ≡ Some w))
least_there None b v is = inr (v, is)
least_there (Some a) b v is = inl (a, refl)

mean_there : (a b : Option ℤ) (v : ℤ) → mean_of a b ≡ Some v → ((w : ℤ) × (a ≡ Some w)) ⊎ ((w : ℤ) × (b ≡ Some w))
mean_there None b v is = inr (v, is)
mean_there (Some a) b v is = inl (a, refl)

module _ (x : Setting) (leader : ℕ) (l : IsLedRun x leader) (h : Cycles) (even odd : Cycle) (sane : IsSane x.params) (run : AllClocksRun x h) (few : length h < 6)
    (none : sync_count x.params x.is_arbitrary ≡ 0) (hears : IsHeardAt (round_at x h even odd) (row_hearer x even odd l.node.id)) where
  -- each deviation is of its own index
  own_alone : (index : ℕ) (is_odd : Bool) (channel : Channel) (value : ℤ) → (row_hearer x even odd l.node.id).look index is_odd channel ≡ Some value
      → is_own (row_hearer x even odd l.node.id).own index ≡ false → ⊥
  own_alone index is_odd channel value there other =
      let only = hears.only index is_odd channel value there in
      by_kind only.0 only.1.0 only.1.1 only.1.2 only.1.3
    where
      by_kind : (slot : ℕ) (node : NodeSpec) → key_slot_of x.params index ≡ Some slot → key_node_of x.params slot ≡ Some node
          → ((is_correct x node.id && has_row x h node.id) ≡ true) ⊎ (x.is_arbitrary node.id ≡ true) → ⊥
      by_kind slot node slot_is node_is (inl rows) =
          let has = key_node_has x.params node slot node_is in
          let parts = and_parts (is_correct x node.id) (has_row x h node.id) rows in
          let same = alone x leader l h node run few (is_correct_node x node has.0 parts.0) parts.1 in
          row_other x h even odd l.node node index slot sane
          (record { sender = record { there = has.0; rows = rows; key = has.1 }; slot_is = slot_is; other = other }) (same ∙ sym l.number)
      by_kind slot node slot_is node_is (inr arbitrary) =
          let has = key_node_has x.params node slot node_is in
          none_counts (λ (one : NodeSpec). is_some one.key && x.is_arbitrary one.id) x.params.nodes node none has.0 (rw (has.1, arbitrary) refl)

  offset_is : (index : ℕ) (v : ℤ) (own : Bool) → is_own (row_hearer x even odd l.node.id).own index ≡ own
      → offset_at (row_hearer x even odd l.node.id).look (row_hearer x even odd l.node.id).own index ≡ Some v → v ≡ pos 0
  offset_is index v true is some =
      let n = row_hearer x even odd l.node.id in
      let e : Some (pos 0) ≡ Some v = sym (own_value n.own index (least_of (n.look index true A) (n.look index true B)) is) ∙ some in
      cc
  offset_is index v false is some =
      let n = row_hearer x even odd l.node.id in
      let least = sym (other_value n.own index (least_of (n.look index true A) (n.look index true B)) is) ∙ some in
      elim (least_there (n.look index true A) (n.look index true B) v least) [
        | inl there ↦ absurd (own_alone index true A there.0 there.1 is)
        | inr there ↦ absurd (own_alone index true B there.0 there.1 is)
      ]

  rate_is : (index : ℕ) (v : ℤ) (own : Bool) → is_own (row_hearer x even odd l.node.id).own index ≡ own
      → rate_at (row_hearer x even odd l.node.id).look (row_hearer x even odd l.node.id).own index ≡ Some v → v ≡ pos 0
  rate_is index v true is some =
      let n = row_hearer x even odd l.node.id in
      let e : Some (pos 0) ≡ Some v = sym (own_value n.own index (mean_of (change_at n.look index A) (change_at n.look index B)) is) ∙ some in
      cc
  rate_is index v false is some =
      let n = row_hearer x even odd l.node.id in
      let mean = sym (other_value n.own index (mean_of (change_at n.look index A) (change_at n.look index B)) is) ∙ some in
      elim (mean_there (change_at n.look index A) (change_at n.look index B) v mean) [
        | inl there ↦
            let from = change_from (n.look index false A) (n.look index true A) there.0 there.1 in
            absurd (own_alone index true A from.1.0 from.1.2 is)
        | inr there ↦
            let from = change_from (n.look index false B) (n.look index true B) there.0 there.1 in
            absurd (own_alone index true B from.1.0 from.1.2 is)
      ]

  pub offsets_are_zero : All IsZero (offsets_of (row_hearer x even odd l.node.id))
  unfolding values_of
  offsets_are_zero =
      let n = row_hearer x even odd l.node.id in
      all_given (offset_at n.look n.own) IsZero (range_with_len 0 15) (λ index v some. offset_is index v (is_own n.own index) refl some)

  pub rates_are_zero : All IsZero (rates_of (row_hearer x even odd l.node.id))
  unfolding values_of
  rates_are_zero =
      let n = row_hearer x even odd l.node.id in
      all_given (rate_at n.look n.own) IsZero (range_with_len 0 15) (λ index v some. rate_is index v (is_own n.own index) refl some)

-- ---- its rows

-- with no rate and no offset a cycle lasts no longer than its microticks may
plain_end : (p : Values) (row : NodeRow) → IsSane p → row.rate ≡ pos 0 → row.offset ≡ pos 0 → row.length ≤ℤ pos (longest_micro p)
    → corrected_end_of p row ≤ℤ (row.start +ℤ pos (longest_cycle p))
plain_end p row sane rate offset most =
    let ranges = sane.ranges name.pMicroPerCycle in
    let micros : pos 0 ≤ℤ p.micros = natural_by p.micros ranges.0 in
    let product = mulz-lez_left row.length (pos (longest_micro p)) p.micros most micros in
    let End : ℤ → Type 0 = λ m. (row.start +ℤ (m *ℤ row.length)) ≤ℤ (row.start +ℤ pos (longest_cycle p)) in
    subst End (sym (nothing p.micros row.rate row.offset rate offset))
    (below row.start (p.micros *ℤ row.length) (p.micros *ℤ pos (longest_micro p)) (pos (longest_cycle p)) product (longest_is p sane))
  where
    natural_by : (z : ℤ) → pos 10 ≤ℤ z → pos 0 ≤ℤ z
    natural_by z from = omega (arith, ints, from)

    nothing : (m r o : ℤ) → r ≡ pos 0 → o ≡ pos 0 → m +ℤ r +ℤ o ≡ m
    nothing m r o no_r no_o = omega (arith, ints, no_r, no_o)

    below : (start a b c : ℤ) → a ≤ℤ b → c ≡ b → (start +ℤ a) ≤ℤ (start +ℤ c)
    below start a b c le is = omega (arith, ints, le, is)

-- so many double cycles without corrections last no longer than this
pub longest_doubles : ℕ → ℕ → ℕ
longest_doubles zero long = 0
longest_doubles (suc k) long = long + long + longest_doubles k long

-- in a double cycle the leader has no rate, and its start lies no later
pub record IsOnCourse (x : Setting) (node k : ℕ) (even : Cycle) : Type 0 where
  pub rate : (row_for even.told.rows node).rate ≡ pos 0
  pub start : (row_for even.told.rows node).start ≤ℤ (x.start node +ℤ pos (longest_doubles k (longest_cycle x.params)))

abbrev pub AllActive : Cycle → Type 0
AllActive c = All (λ (row : NodeRow). row.state ≡ Active) c.told.rows

module _
    (x : Setting) (flutter : ℕ) (h : Cycles) (w : IsSteadyPart x flutter h) (leader : ℕ) (l : IsLedRun x leader) (none : sync_count x.params x.is_arbitrary ≡ 0)
    (reach : ℕ) (limit : LimitSuffices x.params (pos reach)) (room : LeavesRoom x.params (pos reach))
    (active : (k : ℕ) (earlier : Cycles) (even odd : Cycle) → IsDoubleOf h k earlier even odd → AllActive even × AllActive odd) where
  sane : IsSane x.params
  sane = w.covered.timed.sane

  clocks : (k : ℕ) (earlier : Cycles) (even odd : Cycle) → IsDoubleOf h k earlier even odd → AllClocksRun x (odd ∷ even ∷ earlier)
  clocks k earlier even odd d = double_runs x h k earlier even odd d (lawful_cycles_run x h w.lawful)

  -- whoever has a row is the leader
  sole : (k : ℕ) (earlier : Cycles) (even odd : Cycle) (node : NodeSpec) → k < 3 → IsDoubleOf h k earlier even odd → Contains (row_nodes x earlier) node → node.id ≡ l.node.id
  sole k earlier even odd node less d among =
      let counted : length earlier ≡ 2 * k = d.counted in
      alone_among x leader l earlier node (clocks k earlier even odd d).1.1 (omega (arith, counted, less)) among ∙ sym l.number

  sole_member : (k : ℕ) (earlier : Cycles) (even odd : Cycle) (m : Member) → k < 3 → IsDoubleOf h k earlier even odd → Contains (row_members x earlier even odd) m
      → as_member x.params (row_hearer x even odd l.node.id) ≡ m
  sole_member k earlier even odd m less d here =
      let n = map_contains (as_member x.params) (row_hearers x earlier even odd) m here in
      let from = map_contains (λ (node : NodeSpec). row_hearer x even odd node.id) (row_nodes x earlier) n.0 n.1 in
      ap (as_member x.params) (ap (row_hearer x even odd) (sym (sole k earlier even odd from.0 less d from.1)) ∙ from.2) ∙ n.2

  no_gap : (z : ℤ) → IsWithin (pos reach) (z -ℤ z)
  no_gap z = record { low = omega (arith, ints); high = omega (arith, ints) }

  zero_within : (bound z : ℤ) → pos 1 ≤ℤ bound → z ≡ pos 0 → IsWithin bound z
  zero_within bound z from is = record { low = omega (arith, ints, from, is); high = omega (arith, ints, from, is) }

  in_reach : (k : ℕ) (earlier : Cycles) (even odd : Cycle) → k < 3 → IsDoubleOf h k earlier even odd → (row_for even.told.rows l.node.id).rate ≡ pos 0
      → AreRowsInReach x earlier even odd (pos reach)
  in_reach k earlier even odd less d rate =
      let p = x.params in
      let s = lawful_rows x flutter h w k earlier even odd d in
      let ranges = sane.ranges name.pRateCorrectionOut in
      let Rate : ℕ → Type 0 = λ id. IsWithin p.rate_limit (row_for even.told.rows id).rate in
      record {
        active_even = (active k earlier even odd d).0;
        active_odd = (active k earlier even odd d).1;
        rates =
            all_rows (row_nodes x earlier) even.told.rows (λ row. IsWithin p.rate_limit row.rate) (rows_ascend x earlier sane) s.two.even_rows.nodes
            (λ node among. subst Rate (sym (sole k earlier even odd node less d among)) (zero_within p.rate_limit (row_for even.told.rows l.node.id).rate ranges.0 rate));
        limit = limit;
        room = room;
        acts =
            λ is_odd one other action here there from to.
            let m = as_member p (row_hearer x even odd l.node.id) in
            let One : Member → Type 0 = λ a. IsWithin (pos reach) (gap_of p is_odd action (row_in is_odd a.even a.odd) (row_in is_odd m.even m.odd)) in
            let Other : Member → Type 0 = λ b. IsWithin (pos reach) (gap_of p is_odd action (row_in is_odd one.even one.odd) (row_in is_odd b.even b.odd)) in
            subst Other (sole_member k earlier even odd other less d there) (subst One (sole_member k earlier even odd one less d here) (no_gap (instant_of (grid_for p) (row_in is_odd m.even m.odd) is_odd action)));
      }

  supplied : (k : ℕ) (earlier : Cycles) (even odd : Cycle) → k < 3 → IsDoubleOf h k earlier even odd → (row_for even.told.rows l.node.id).rate ≡ pos 0
      → IsSteadilySupplied (round_at x earlier even odd) flutter (row_hearer x even odd l.node.id)
  supplied k earlier even odd less d rate =
      rows_hear_steadily x 0 flutter h earlier even odd k (pos reach) l.node w (omega arith) d (in_reach k earlier even odd less d rate) (leader_among x leader l earlier)

  course : (k : ℕ) (earlier : Cycles) (even odd : Cycle) → k < 4 → IsDoubleOf h k earlier even odd → IsOnCourse x l.node.id k even
  unfolding longest_doubles
  course zero [] even odd less d =
      let s = lawful_rows x flutter h w 0 [] even odd d in
      let row = row_runs_by (row_laws x []) (offset_after x.params (told_of []) even.told) (row_nodes x []) even.told.rows l.node s.two.even_rows (leader_among x leader l []) in
      record { rate = row.rate ∙ ap x.rate l.number ∙ l.uncorrected; start = at_first (row_for even.told.rows l.node.id).start (x.start l.node.id) row.start }
    where
      at_first : (a b : ℤ) → a ≡ b → a ≤ℤ (b +ℤ pos 0)
      at_first a b is = omega (arith, ints, is)
  course zero (c ∷ earlier) even odd less d = let counted : suc (length earlier) ≡ 2 * 0 = d.counted in absurd (omega (arith, counted))
  course (suc k) [] even odd less d = let counted : 0 ≡ 2 * suc k = d.counted in absurd (omega (arith, counted))
  course (suc k) (o ∷ []) even odd less d = let counted : 1 ≡ 2 * suc k = d.counted in absurd (omega (arith, counted))
  course (suc k) (o ∷ e ∷ earlier) even odd less d =
      let p = x.params in
      let id = l.node.id in
      let long = longest_cycle p in
      let prior = prior_of h k earlier e o even odd d in
      let low : k < 3 = omega (arith, less) in
      let before = course k earlier e o (omega (arith, less)) prior in
      let s = lawful_rows x flutter h w k earlier e o prior in
      let next = lawful_rows x flutter h w (suc k) (o ∷ e ∷ earlier) even odd d in
      let sup = supplied k earlier e o low prior before.rate in
      let few : length earlier < 6 = (let counted = s.counted in omega (arith, counted, low)) in
      let runs = (clocks k earlier e o prior).1.1 in
      let last = row_for o.told.rows id in
      let first = row_for e.told.rows id in
      let among = leader_among x leader l earlier in
      let late = row_runs_by (row_laws x (e ∷ earlier)) (offset_after p (told_of (e ∷ earlier)) o.told) (row_nodes x earlier) o.told.rows l.node s.two.odd_rows among in
      let here =
      row_runs_by (row_laws x (o ∷ e ∷ earlier)) (offset_after p (told_of (o ∷ e ∷ earlier)) even.told) (row_nodes x (o ∷ e ∷ earlier)) even.told.rows l.node next.two.even_rows
      (leader_among x leader l (o ∷ e ∷ earlier)) in
      let stands = each_row (row_nodes x earlier) o.told.rows (λ row. row.state ≡ Active) l.node s.two.odd_rows.nodes among (active k earlier e o prior).1 in
      let damping = sane.ranges name.pClusterDriftDamping in
      let rate_limit = sane.ranges name.pRateCorrectionOut in
      let offset_limit = sane.ranges name.pOffsetCorrectionOut in
      let no_last : last.rate ≡ pos 0 = sup.regular.double.same_rate ∙ before.rate in
      let uncorrected : last.offset ≡ pos 0 =
      sup.applied ∙ no_offset p.offset_limit (offsets_of (row_hearer x e o id)) (natural_by p.offset_limit offset_limit.0) (offsets_are_zero x leader l earlier e o sane runs few none sup.hears) in
      let term : (member_from p (row_hearer x e o id)).rate_term.value ≡ pos 0 =
      ap (λ (r : ℤ). (rate_term_of r p.damping p.rate_limit (rates_of (row_hearer x e o id))).value) no_last
      ∙ no_rate p.damping p.rate_limit (rates_of (row_hearer x e o id)) damping.0 (natural_by p.rate_limit rate_limit.0) (rates_are_zero x leader l earlier e o sane runs few none sup.hears) in
      let ends_first = plain_end p first sane before.rate sup.regular.double.no_offset sup.regular.even_micro.most in
      let ends_last = plain_end p last sane no_last uncorrected sup.regular.odd_micro.most in
      let starts : (row_for even.told.rows id).start ≡ corrected_end_of p last = here.start ∙ start_told x (e ∷ earlier) o id last late.has.is in
      record {
        rate =
            here.rate
            ∙ rate_told_odd x (e ∷ earlier) o id last (odd_length (length earlier) k s.counted) stands late.has.is
            ∙ ap (λ t. t.value) (row_term_is x earlier e o id late.has.number)
            ∙ term;
        start =
            chain (x.start id) first.start last.start (row_for even.told.rows id).start (corrected_end_of p first) (corrected_end_of p last) (longest_doubles k long) long
            before.start sup.regular.double.follows ends_first starts ends_last;
      }
    where
      natural_by : (z : ℤ) → pos 1 ≤ℤ z → pos 0 ≤ℤ z
      natural_by z from = omega (arith, ints, from)

      chain : (begin first last next end_first end_last : ℤ) (k long : ℕ) → first ≤ℤ (begin +ℤ pos k) → last ≡ end_first → end_first ≤ℤ (first +ℤ pos long)
          → next ≡ end_last → end_last ≤ℤ (last +ℤ pos long) → next ≤ℤ (begin +ℤ pos (long + long + k))
      chain begin first last next end_first end_last k long from follows one starts other = omega (arith, ints, from, follows, one, starts, other)

  -- so its cycle 6 starts no later than six such cycles behind its cycle 0
  pub six_cycles : (earlier : Cycles) (even odd : Cycle) → IsDoubleOf h 3 earlier even odd
      → (row_for even.told.rows l.node.id).start ≤ℤ (x.start l.node.id +ℤ pos (6 * longest_cycle x.params))
  unfolding longest_doubles
  six_cycles earlier even odd d =
      let long = longest_cycle x.params in
      let six : longest_doubles 3 long ≡ 6 * long = omega arith in
      let At : ℕ → Type 0 = λ n. (row_for even.told.rows l.node.id).start ≤ℤ (x.start l.node.id +ℤ pos n) in
      subst At six (course 3 earlier even odd (omega arith) d).start
