-- The clocks of a lawful trace run by their laws.
use Rattle.std.proofs.Common.{◌≡◌, ℕ, zero, suc, ◌<◌, ◌==◌, ℤ, Bool, true, false, List, [], ◌∷◌, ◌++◌, length, All, Option, None, refl, ap, sym, ◌∙◌, subst, ◌⊎◌, inl, inr, arith}
use Rattle.std.specs.Prelude.{Contains, unwrap_or, slice_index_or}
use Rattle.std.specs.Option.{option_map_or}
use Rattle.std.proofs.lemmas.Int.{ints}
use Rattle.fr_base.specs.Rows.{AreAscendingRows}
use Rattle.fr_base.specs.declared.node_row.NodeRow.{NodeRow}
use Rattle.fr_base.specs.declared.state.State.{State}
use Rattle.fr_base.specs.declared.state.State.TheVariants.{Active, Halt, Passive}
use Rattle.fr_cluster.specs.Values.{Values}
use Rattle.fr_cluster.proofs.KeyNodes.{AllPairs-first, AllPairs-rest, Contains-cons_cases}
use Rattle.fr_cluster.proofs.Elements.{Contains-none, sole_found}
use Rattle.fr_history.specs.History.{History, Record, blank_row, record_at, row_for}
use Rattle.fr_history.specs.Rows.{offset_after}
use Rattle.fr_history.specs.Terms.{status_in}
use Rattle.fr_history.proofs.Synced.{record_of_cut}
use Rattle.fr_trace.specs.Fits.{FitsRecord, HistoryFits, TraceFits}
use Rattle.fr_trace.specs.Items.Item.{Clock}
use Rattle.fr_trace.specs.Lasting.{IsTracedRecord}
use Rattle.fr_trace.specs.Trace.{TraceView, rows_at}
use Rattle.fr_verdict.specs.Breach.{IsLawfulTrace, traced_rate, traced_start}
use Rattle.fr_verdict.specs.Precision.{LawfulTracesRun, recorded_row}
use Rattle.fr_verdict.specs.Search.{breach_by, is_same_number, state_number, unless}
use Rattle.fr_verdict.specs.declared.unlawful.Unlawful.{Unlawful}
use Rattle.fr_verdict.specs.declared.unlawful.Unlawful.TheVariants as unlawful
use Rattle.fr_verdict.proofs.Items.{Unbroken, row_there, unbroken}

-- ---- what no breach says

passed_by : (test : Bool) (u : Unlawful) → unless test u ≡ None → test ≡ true
passed_by true u e = refl
passed_by false u e = cc e

same_by : (a b : ℤ) → is_same_number a b ≡ true → a ≡ b
same_by a b e = grind (arith, ints)

same_states : (a b : State) → (state_number a == state_number b) ≡ true → a ≡ b
same_states Active Active e = refl
same_states Active Passive e = cc e
same_states Active Halt e = cc e
same_states Passive Active e = cc e
same_states Passive Passive e = refl
same_states Passive Halt e = cc e
same_states Halt Active e = cc e
same_states Halt Passive e = cc e
same_states Halt Halt e = refl

-- a row that breaks no law
pub record IsRow (p : Values) (h : History) (r : Record) (row : NodeRow) : Type 0 where
  pub start : row.start ≡ traced_start p h row
  pub rate : row.rate ≡ traced_rate p h row
  pub state : row.state ≡ (status_in p h row.node).state
  pub offset : row.offset ≡ offset_after p h r row

is_row : (p : Values) (t : TraceView) (h : History) (r : Record) (row : NodeRow) → Unbroken p t (Clock h r row) → IsRow p h r row
unfolding breach_by
is_row p t h r row w = record {
  start = same_by row.start (traced_start p h row) (passed_by (is_same_number row.start (traced_start p h row)) (unlawful.Start w.number row.start (traced_start p h row)) (w.none 0 (omega arith)));
  rate = same_by row.rate (traced_rate p h row) (passed_by (is_same_number row.rate (traced_rate p h row)) (unlawful.Rate w.number row.rate (traced_rate p h row)) (w.none 1 (omega arith)));
  state =
      same_states row.state (status_in p h row.node).state
      (passed_by (state_number row.state == state_number (status_in p h row.node).state) (unlawful.Turn w.number row.state (status_in p h row.node).state) (w.none 2 (omega arith)));
  offset = same_by row.offset (offset_after p h r row) (passed_by (is_same_number row.offset (offset_after p h r row)) (unlawful.Offset w.number row.offset (offset_after p h r row)) (w.none 3 (omega arith)));
}

-- ---- a row is that of its number

sole : (rows : List NodeRow) (one other : NodeRow) → AreAscendingRows rows → Contains rows one → Contains rows other → other.node ≡ one.node → other ≡ one
sole [] one other pairs here there is = absurd (Contains-none one here)
sole (row ∷ rows) one other pairs here there is =
    by_both (Contains-cons_cases row rows one here) (Contains-cons_cases row rows other there)
    (λ a b. sole rows one other (AllPairs-rest (λ (x y : NodeRow). x.node < y.node) row rows pairs) a b is)
  where
    by_both : (row ≡ one) ⊎ Contains rows one → (row ≡ other) ⊎ Contains rows other → (Contains rows one → Contains rows other → other ≡ one) → other ≡ one
    by_both (inl a) (inl b) rest = sym b ∙ a
    by_both (inl a) (inr b) rest =
        let below : row.node < other.node = AllPairs-first (λ (x y : NodeRow). x.node < y.node) row rows other pairs b in
        let own : row.node ≡ one.node = ap (λ (x : NodeRow). x.node) a in
        absurd (omega (arith, below, own, is))
    by_both (inr a) (inl b) rest =
        let below : row.node < one.node = AllPairs-first (λ (x y : NodeRow). x.node < y.node) row rows one pairs a in
        let own : row.node ≡ other.node = ap (λ (x : NodeRow). x.node) b in
        absurd (omega (arith, below, own, is))
    by_both (inr a) (inr b) rest = rest a b

same_number : (a b : ℕ) → (a == b) ≡ true → a ≡ b
same_number a b e = grind arith

itself : (a : ℕ) → (a == a) ≡ true
itself a = grind arith

pub own_row : (rows : List NodeRow) (row : NodeRow) → AreAscendingRows rows → Contains rows row → row_for rows row.node ≡ row
unfolding row_for
own_row rows row pairs among =
    ap (λ (o : Option NodeRow). unwrap_or o blank_row)
    (sole_found (λ (r : NodeRow). r.node == row.node) rows row among (itself row.node)
    (λ other there passes. sole rows row other pairs among there (same_number other.node row.node passes)))

-- ---- the records of a trace

all_at : {X : Type 0} (P : X → Type 0) (xs ys : List X) (x : X) → All P (xs ++ x ∷ ys) → P x
all_at P [] ys x all = all 0 x (omega arith)
all_at P (y ∷ xs) ys x all = all_at P xs ys x (λ k d lt. all (suc k) d (omega arith))

pub record_part : (P : Record → Type 0) (t : TraceView) (later h : History) (r : Record) → t.history ≡ later ++ r ∷ h → All P t.history → P r
record_part P t later h r parted all = all_at P later h r (subst (All P) parted all)

pub rows_are : (t : TraceView) (later h : History) (r : Record) → t.history ≡ later ++ r ∷ h → rows_at t.history (length h) ≡ r.rows
unfolding rows_at
rows_are t later h r parted =
    ap (λ (g : History). option_map_or (λ s. s.rows) (record_at g (length h)) []) parted
    ∙ ap (λ (o : Option Record). option_map_or (λ s. s.rows) o []) (record_of_cut later h r)

each_of : (P : NodeRow → Type 0) (rows : List NodeRow) → ((row : NodeRow) → Contains rows row → P row) → All P rows
each_of P rows each = λ k d lt. each (slice_index_or rows k d) (k, lt, contained rows k d lt)
  where
    contained : (rows : List NodeRow) (k : ℕ) (d : NodeRow) → k < length rows → slice_index_or rows k (slice_index_or rows k d) ≡ slice_index_or rows k d
    contained [] k d lt = absurd (omega arith)
    contained (row ∷ rows) zero d lt = refl
    contained (row ∷ rows) (suc k) d lt = contained rows k d (omega arith)

-- each record of a trace fits behind the records before it
fits_part : (p : Values) (t : TraceView) (later h : History) (r : Record) → HistoryFits p t (later ++ r ∷ h) → FitsRecord p t h r
unfolding HistoryFits
fits_part p t [] h r fits = fits.0
fits_part p t (s ∷ later) h r fits = fits_part p t later h r fits.1

pub record_fits : (p : Values) (t : TraceView) (later h : History) (r : Record) → TraceFits p t → t.history ≡ later ++ r ∷ h → FitsRecord p t h r
record_fits p t later h r fits parted = fits_part p t later h r (subst (HistoryFits p t) parted fits.records)

-- each of its rows breaks no law
pub lawful_row : (p : Values) (t : TraceView) (later h : History) (r : Record) (row : NodeRow) → IsLawfulTrace p t → t.history ≡ later ++ r ∷ h → Contains r.rows row → IsRow p h r row
lawful_row p t later h r row lawful parted among = is_row p t h r row (unbroken p t later h r (Clock h r row) lawful parted (row_there h r r.rows row among))

pub lawful_traces_run : LawfulTracesRun
lawful_traces_run p t trace fits lawful later h r parted = record {
  nodes = (record_fits p t later h r fits parted).nodes;
  starts = each_of (λ row. row.start ≡ traced_start p h (recorded_row t h row.node)) r.rows (λ row among. (own row among).start ∙ ap (traced_start p h) (sym (kept row among)));
  lengths = each_of (λ row. row.length ≡ (recorded_row t h row.node).length) r.rows (λ row among. sym (ap (λ (x : NodeRow). x.length) (kept row among)));
  rates = each_of (λ row. row.rate ≡ traced_rate p h (recorded_row t h row.node)) r.rows (λ row among. (own row among).rate ∙ ap (traced_rate p h) (sym (kept row among)));
  states = each_of (λ row. row.state ≡ (status_in p h row.node).state) r.rows (λ row among. (own row among).state);
  offsets = each_of (λ row. row.offset ≡ offset_after p h r row) r.rows (λ row among. (own row among).offset);
}
  where
    is : IsTracedRecord r
    is = record_part IsTracedRecord t later h r parted trace.records

    kept : (row : NodeRow) → Contains r.rows row → recorded_row t h row.node ≡ row
    kept row among = ap (λ (rows : List NodeRow). row_for rows row.node) (rows_are t later h r parted) ∙ own_row r.rows row is.rows_ascend among

    own : (row : NodeRow) → Contains r.rows row → IsRow p h r row
    own row among = lawful_row p t later h r row lawful parted among
