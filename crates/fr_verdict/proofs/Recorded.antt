-- What the laws and the gaps of a trace that passes say of the rows of a double cycle, node by node.
use Rattle.std.proofs.Common.{◌≡◌, ℕ, suc, ◌*◌, Bool, true, false, not, ◌||◌, ℤ, pos, Some, None, List, [], ◌∷◌, ◌++◌, length, append_assoc, refl, ap, ap₂, sym, ◌∙◌, subst, arith, if◌then◌else◌}
use Rattle.std.specs.Prelude.{◌≤ℤ◌, ◌-ℤ◌, ◌+ℤ◌, Contains, int_lt, neg_ℤ, option_and_then}
use Rattle.std.proofs.lemmas.Bool.{or_parts}
use Rattle.std.proofs.lemmas.Int.{ints}
use Rattle.std.proofs.lemmas.List.Sums.{fold-append}
use Rattle.fr_base.specs.Event.Event.{Regular}
use Rattle.fr_base.specs.Within.{IsWithin}
use Rattle.fr_base.specs.declared.node_row.NodeRow.{NodeRow}
use Rattle.fr_base.specs.declared.state.Outcome.{Outcome}
use Rattle.fr_base.specs.declared.state.Outcome.TheVariants.{Within}
use Rattle.fr_base.specs.declared.state.State.TheVariants.{Active}
use Rattle.fr_bound.specs.Bounds.{longest_micro, shortest_micro}
use Rattle.fr_cluster.specs.Sane.{IsSane}
use Rattle.fr_cluster.specs.Setting.{Setting}
use Rattle.fr_cluster.specs.Values.{Values, amount}
use Rattle.fr_cluster.specs.declared.names.ParamName.TheVariants as name
use Rattle.fr_cluster.specs.declared.nodes.NodeSpec.{NodeSpec}
use Rattle.fr_history.specs.History.{AreRowsOf, History, Record, record_at, row_for, row_of}
use Rattle.fr_runs.proofs.Doubles.{even_length, even_stands, odd_length, outcomes_even, stays}
use Rattle.fr_runs.proofs.Rows.{HasRow, each_row, has_row as row_there}
use Rattle.fr_coverage.specs.Coverage.{has_jumped, is_off}
use Rattle.fr_coverage.specs.declared.gap.Gap.{Gap}
use Rattle.fr_coverage.specs.declared.gap.Gap.TheVariants as gap
use Rattle.fr_history.specs.Rows.{is_corrected}
use Rattle.fr_history.specs.Terms.{offset_term_in, outcomes_by, outcomes_in, rate_term_in, status_in}
use Rattle.fr_history.proofs.Synced.{record_of_cut}
use Rattle.fr_poc.specs.Control.{Status, control_of, first_status, step_of}
use Rattle.fr_poc.specs.Limits.{limits_of}
use Rattle.fr_precision.specs.Placement.{IsRegular}
use Rattle.fr_precision.specs.Rows.{HasProperMicro, IsDoubleCycle, IsSteady, corrected_end_of}
use Rattle.fr_cluster.proofs.Elements.{filtered}
use Rattle.fr_trace.specs.Fits.{TraceFits}
use Rattle.fr_trace.specs.Lasting.{IsTrace}
use Rattle.fr_trace.specs.Trace.{TraceView, row_at}
use Rattle.fr_verdict.specs.Breach.{IsLawfulTrace, rate_from, start_from}
use Rattle.fr_verdict.specs.Gaps.{IsTracedChangeGap, IsTracedLengthGap}
use Rattle.fr_verdict.proofs.Lawful.{IsRow, lawful_row, record_fits}
use Rattle.fr_verdict.proofs.Standing.{AreTwo, nodes_in, nodes_stay, rows_of_nodes, has_row}

-- a lawful trace whose recorded microticks, and how they change, lie within their bounds
pub record Passes (p : Values) (t : TraceView) : Type 0 where
  pub sane : IsSane p
  pub trace : IsTrace t
  pub fits : TraceFits p t
  pub lawful : IsLawfulTrace p t
  pub lengths : (g : Gap) → IsTracedLengthGap p t g → ⊥
  pub changes : (g : Gap) → IsTracedChangeGap p t g → ⊥

-- two records are a double cycle of this number behind earlier ones
pub record IsDouble (t : TraceView) (h : History) (even odd : Record) (double : ℕ) : Type 0 where
  pub later : History
  pub parted : t.history ≡ later ++ odd ∷ even ∷ h
  pub counted : length h ≡ 2 * double

-- the one before it
pub prior_of : (t : TraceView) (h : History) (e o even odd : Record) (k : ℕ) → IsDouble t (o ∷ e ∷ h) even odd (suc k) → IsDouble t h e o k
prior_of t h e o even odd k d =
    let counted : suc (suc (length h)) ≡ 2 * suc k = d.counted in
    record {
      later = d.later ++ odd ∷ even ∷ [];
      parted = d.parted ∙ sym (append_assoc d.later (odd ∷ even ∷ []) (o ∷ e ∷ h));
      counted = omega (arith, counted);
    }

-- ---- records

pub even_parted : (t : TraceView) (h : History) (even odd : Record) (double : ℕ) (d : IsDouble t h even odd double) → t.history ≡ (d.later ++ odd ∷ []) ++ even ∷ h
even_parted t h even odd double d = d.parted ∙ sym (append_assoc d.later (odd ∷ []) (even ∷ h))

pub even_at : (t : TraceView) (h : History) (even odd : Record) (double : ℕ) → IsDouble t h even odd double → record_at t.history (2 * double) ≡ Some even
even_at t h even odd double d =
    ap₂ record_at (even_parted t h even odd double d) (sym d.counted) ∙ record_of_cut (d.later ++ odd ∷ []) h even

pub odd_at : (t : TraceView) (h : History) (even odd : Record) (double : ℕ) → IsDouble t h even odd double → record_at t.history (suc (2 * double)) ≡ Some odd
odd_at t h even odd double d = ap₂ record_at d.parted (ap suc (sym d.counted)) ∙ record_of_cut d.later (even ∷ h) odd

-- the records of a double cycle, with the rows of the same nodes
pub record Rows (p : Values) (t : TraceView) (h : History) (even odd : Record) : Type 0 where
  pub two : AreTwo p t h even odd
  pub even_rows : AreRowsOf (nodes_in p even) even.rows
  pub odd_rows : AreRowsOf (nodes_in p even) odd.rows
  pub even_is : (node : NodeSpec) → Contains (nodes_in p even) node → IsRow p h even (row_for even.rows node.id)
  pub odd_is : (node : NodeSpec) → Contains (nodes_in p even) node → IsRow p (even ∷ h) odd (row_for odd.rows node.id)

pub rows_in : (p : Values) (t : TraceView) (h : History) (even odd : Record) (double : ℕ) → Passes p t → IsDouble t h even odd double → Rows p t h even odd
rows_in p t h even odd double w d =
    let before = even_parted t h even odd double d in
    let two : AreTwo p t h even odd = record {
      early = record_fits p t (d.later ++ odd ∷ []) h even w.fits before;
      late = record_fits p t d.later (even ∷ h) odd w.fits d.parted;
    } in
    let early : AreRowsOf (nodes_in p even) even.rows = rows_of_nodes p t h even two.early in
    let late : AreRowsOf (nodes_in p even) odd.rows =
    subst (λ (nodes : List NodeSpec). AreRowsOf nodes odd.rows) (nodes_stay p t h even odd double two d.counted) (rows_of_nodes p t (even ∷ h) odd two.late) in
    record {
      two = two;
      even_rows = early;
      odd_rows = late;
      even_is = λ node among. lawful_row p t (d.later ++ odd ∷ []) h even (row_for even.rows node.id) w.lawful before (row_there (nodes_in p even) even.rows node early among).there;
      odd_is = λ node among. lawful_row p t d.later (even ∷ h) odd (row_for odd.rows node.id) w.lawful d.parted (row_there (nodes_in p even) odd.rows node late among).there;
    }

pub known : (p : Values) (r : Record) (node : NodeSpec) → Contains (nodes_in p r) node → Contains p.nodes node × (has_row r node.id ≡ true)
known p r node among = filtered (λ (n : NodeSpec). has_row r n.id) p.nodes node among

-- ---- microticks

no_less : (a b : ℤ) → int_lt a b ≡ false → b ≤ℤ a
no_less a b told = grind (arith, ints)

pub row_is_at : (t : TraceView) (cycle node : ℕ) (r : Record) → record_at t.history cycle ≡ Some r → HasRow r.rows node → row_at t.history cycle node ≡ Some (row_for r.rows node)
unfolding row_at
row_is_at t cycle node r at has = ap (option_and_then (λ (s : Record). row_of s.rows node)) at ∙ has.is

pub proper_micro : (p : Values) (t : TraceView) (node : NodeSpec) (cycle : ℕ) (r : Record) → ((g : Gap) → IsTracedLengthGap p t g → ⊥) → Contains p.nodes node → record_at t.history cycle ≡ Some r → HasRow r.rows node.id
    → HasProperMicro p (row_for r.rows node.id)
proper_micro p t node cycle r lengths there at has = by_test (is_off p row.length) refl
  where
    row : NodeRow
    row = row_for r.rows node.id

    by_test : (b : Bool) → is_off p row.length ≡ b → HasProperMicro p row
    by_test true off =
        absurd (lengths (gap.Length node.id cycle row.length) (record { node = node; known = there; cycle = cycle; row = row; there = row_is_at t cycle node.id r at has; off = off; told = refl }))
    by_test false is =
        let parts : (int_lt row.length (pos (shortest_micro p)) ≡ false) × (int_lt (pos (longest_micro p)) row.length ≡ false) = or_parts (int_lt row.length (pos (shortest_micro p))) (int_lt (pos (longest_micro p)) row.length) is in
        record { least = no_less row.length (pos (shortest_micro p)) parts.0; most = no_less (pos (longest_micro p)) row.length parts.1 }

near : (bound one other : ℤ) → (int_lt (one +ℤ bound) other || int_lt (other +ℤ bound) one) ≡ false → IsWithin bound (other -ℤ one)
near bound one other is =
    let parts : (int_lt (one +ℤ bound) other ≡ false) × (int_lt (other +ℤ bound) one ≡ false) = or_parts (int_lt (one +ℤ bound) other) (int_lt (other +ℤ bound) one) is in
    record { low = low_is (no_less (other +ℤ bound) one parts.1); high = high_is (no_less (one +ℤ bound) other parts.0) }
  where
    low_is : one ≤ℤ (other +ℤ bound) → neg_ℤ bound ≤ℤ (other -ℤ one)
    low_is le = omega (arith, ints)

    high_is : other ≤ℤ (one +ℤ bound) → (other -ℤ one) ≤ℤ bound
    high_is le = omega (arith, ints)

pub steady : (p : Values) (t : TraceView) (node : NodeSpec) (cycle : ℕ) (r next : Record) → ((g : Gap) → IsTracedChangeGap p t g → ⊥) → Contains p.nodes node
    → record_at t.history cycle ≡ Some r → record_at t.history (suc cycle) ≡ Some next → HasRow r.rows node.id → HasRow next.rows node.id
    → IsSteady p (row_for r.rows node.id) (row_for next.rows node.id)
steady p t node cycle r next changes there at next_at has next_has = by_test (has_jumped p one.length other.length) refl
  where
    one : NodeRow
    one = row_for r.rows node.id

    other : NodeRow
    other = row_for next.rows node.id

    by_test : (b : Bool) → has_jumped p one.length other.length ≡ b → IsSteady p one other
    by_test true jumped =
        absurd (changes (gap.Change node.id (suc cycle) (other.length -ℤ one.length))
        (record { node = node; known = there; cycle = cycle; before = one; row = other; earlier = row_is_at t cycle node.id r at has; there = row_is_at t (suc cycle) node.id next next_at next_has; jumped = jumped; told = refl }))
    by_test false is = near (pos (amount p name.xChangeBound)) one.length other.length is

-- ---- the clock of a node over a double cycle

-- a row by the one of the cycle before
pub start_follows : (p : Values) (h : History) (s r : Record) (node : ℕ) → HasRow s.rows node → HasRow r.rows node → IsRow p (s ∷ h) r (row_for r.rows node)
    → (row_for r.rows node).start ≡ corrected_end_of p (row_for s.rows node)
start_follows p h s r node before here is = is.start ∙ ap (start_from p (row_for r.rows node)) (ap (row_of s.rows) here.number ∙ before.is)

pub rate_follows : (p : Values) (h : History) (s r : Record) (node : ℕ) (corrected : Bool) → HasRow s.rows node → HasRow r.rows node → IsRow p (s ∷ h) r (row_for r.rows node)
    → is_corrected h (row_for s.rows node) ≡ corrected
    → (row_for r.rows node).rate ≡ (if corrected then (rate_term_in p h s.devs (row_for s.rows node)).value else (row_for s.rows node).rate)
rate_follows p h s r node corrected before here is parity =
    is.rate ∙ ap (rate_from p h s (row_for r.rows node)) (ap (row_of s.rows) here.number ∙ before.is)
    ∙ ap (λ b. if b then (rate_term_in p h s.devs (row_for s.rows node)).value else (row_for s.rows node).rate) parity

pub state_is : (p : Values) (h : History) (r : Record) (node : ℕ) → HasRow r.rows node → IsRow p h r (row_for r.rows node) → (row_for r.rows node).state ≡ (status_in p h node).state
state_is p h r node here is = is.state ∙ ap (λ n. (status_in p h n).state) here.number

-- what is known of a node in a double cycle
pub record NodeTwo (p : Values) (t : TraceView) (h : History) (even odd : Record) (node : NodeSpec) : Type 0 where
  pub there : Contains p.nodes node
  pub has_even : HasRow even.rows node.id
  pub has_odd : HasRow odd.rows node.id
  pub double : IsDoubleCycle p (row_for even.rows node.id) (row_for odd.rows node.id)
  pub even_micro : HasProperMicro p (row_for even.rows node.id)
  pub odd_micro : HasProperMicro p (row_for odd.rows node.id)
  pub steady : IsSteady p (row_for even.rows node.id) (row_for odd.rows node.id)
  pub rate_within : IsWithin p.rate_limit (row_for even.rows node.id).rate

pub node_two : (p : Values) (t : TraceView) (h : History) (even odd : Record) (double : ℕ) (node : NodeSpec) → Passes p t → IsDouble t h even odd double → Contains (nodes_in p even) node
    → NodeTwo p t h even odd node
node_two p t h even odd double node w d among =
    let rows = rows_in p t h even odd double w d in
    let nodes : List NodeSpec = nodes_in p even in
    let here = row_there nodes even.rows node rows.even_rows among in
    let late = row_there nodes odd.rows node rows.odd_rows among in
    let there = (known p even node among).0 in
    let row = row_for even.rows node.id in
    let stands = even_stands h row (even_length (length h) double d.counted) in
    let even_is = rows.even_is node among in
    let odd_is = rows.odd_is node among in
    record {
      there = there;
      has_even = here;
      has_odd = late;
      double = record {
        follows = start_follows p h even odd node.id here late odd_is;
        same_rate = rate_follows p h even odd node.id false here late odd_is stands;
        no_offset = even_is.offset ∙ ap (λ b. if b then (offset_term_in p h even.devs row.node).value else pos 0) stands;
      };
      even_micro = proper_micro p t node (2 * double) even w.lengths there (even_at t h even odd double d) here;
      odd_micro = proper_micro p t node (suc (2 * double)) odd w.lengths there (odd_at t h even odd double d) late;
      steady = steady p t node (2 * double) even odd w.changes there (even_at t h even odd double d) (odd_at t h even odd double d) here late;
      rate_within = each_row nodes even.rows (λ r. IsWithin p.rate_limit r.rate) node rows.even_rows among rows.two.early.rates;
    }

pub regular_in : (p : Values) (t : TraceView) (h : History) (even odd : Record) (node : NodeSpec) → NodeTwo p t h even odd node → IsRegular p (row_for even.rows node.id) (row_for odd.rows node.id)
regular_in p t h even odd node n = record { double = n.double; rate_within = n.rate_within; even_micro = n.even_micro; odd_micro = n.odd_micro; steady = n.steady }

-- ---- the terms of a double cycle

abbrev pub numbered : NodeRow → ℕ → NodeRow
numbered row n = record row { node = n }

-- the rate term of its row is that of its number
pub rate_term_is : (p : Values) (h : History) (odd : Record) (node : ℕ) → HasRow odd.rows node
    → rate_term_in p h odd.devs (row_for odd.rows node) ≡ rate_term_in p h odd.devs (numbered (row_for odd.rows node) node)
rate_term_is p h odd node here = ap (λ n. rate_term_in p h odd.devs (numbered (row_for odd.rows node) n)) here.number

-- ---- operation control

-- both outcomes of a row
abbrev pub outcomes_at : Values → History → Record → NodeRow → Outcome × Outcome
outcomes_at p h odd row = ((offset_term_in p h odd.devs row.node).outcome, (rate_term_in p h odd.devs row).outcome)

-- a setting with these parameters in which the nodes without a row count as arbitrary; nothing else of it is asked
abbrev pub window : Values → TraceView → Record → Setting
window p t even = record {
  params = p;
  doubles = t.doubles;
  start = λ _. pos 0;
  rate = λ _. pos 0;
  microtick = λ _ _. pos 0;
  delay = λ _ _ _ _. pos 0;
  is_arbitrary = λ node. not (has_row even node);
  event = λ _ _ _ _. Regular;
  join = λ _. None;
}

outcomes_two : (p : Values) (t : TraceView) (h : History) (even odd : Record) (double node : ℕ) (row : NodeRow) → length h ≡ 2 * double → row_of odd.rows node ≡ Some row
    → outcomes_in p (odd ∷ even ∷ h) node ≡ outcomes_in p h node ++ outcomes_at p (even ∷ h) odd row ∷ []
unfolding outcomes_in
outcomes_two p t h even odd double node row counted some =
    let before = outcomes_in p (even ∷ h) node in
    ap (λ b. before ++ (if b then outcomes_by p (even ∷ h) odd.devs (row_of odd.rows node) else [])) (odd_length (length h) double counted)
    ∙ ap (λ o. before ++ outcomes_by p (even ∷ h) odd.devs o) some
    ∙ ap (λ outcomes. outcomes ++ outcomes_at p (even ∷ h) odd row ∷ []) (outcomes_even (window p t even) h even node (even_length (length h) double counted))

-- an active node whose terms were not cut stays active
pub stays_active : (p : Values) (t : TraceView) (h : History) (even odd : Record) (double node : ℕ) (row : NodeRow) → length h ≡ 2 * double → row_of odd.rows node ≡ Some row
    → (status_in p h node).state ≡ Active → outcomes_at p (even ∷ h) odd row ≡ (Within, Within) → (status_in p (odd ∷ even ∷ h) node).state ≡ Active
stays_active p t h even odd double node row counted some active within =
    let limits = limits_of p in
    let step : Status → Outcome × Outcome → Status = λ status pair. step_of limits status pair.0 pair.1 in
    let before = outcomes_in p h node in
    ap (λ outcomes. (control_of limits outcomes).state) (outcomes_two p t h even odd double node row counted some)
    ∙ ap (λ (status : Status). status.state) (fold-append step first_status before (outcomes_at p (even ∷ h) odd row ∷ []))
    ∙ ap (λ pair. (step (status_in p h node) pair).state) within
    ∙ stays (window p t even) (status_in p h node) active
