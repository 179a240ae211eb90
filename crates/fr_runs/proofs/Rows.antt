-- The rows of a record are those of its nodes.
use Rattle.std.proofs.Common.{◌≡◌, ℕ, ℤ, ◌<◌, ◌==◌, true, false, Option, Some, None, List, [], ◌∷◌, All, map, refl, ap, ap₂, sym, ◌∙◌, subst, inl, inr, arith}
use Rattle.std.specs.Prelude.{AllPairs, Contains, find, unwrap_or}
use Rattle.std.proofs.lemmas.List.Elements.{All-contains, All-contains_itself, All-map}
use Rattle.std.proofs.lemmas.List.Kept.{AllPairs-cons, AllPairs-filter}
use Rattle.fr_base.specs.declared.node_row.NodeRow.{NodeRow}
use Rattle.fr_cluster.specs.Sane.{IsSane}
use Rattle.fr_cluster.specs.declared.nodes.NodeSpec.{NodeSpec}
use Rattle.fr_precision.proofs.Senders.{All-along}
use Rattle.fr_history.specs.History.{AreRowsOf, blank_row, row_for, row_of}
use Rattle.fr_history.specs.Rows.{ClockLaws, RowsRun}
use Rattle.fr_cluster.specs.Setting.{Setting, correct_nodes, is_correct}
use Rattle.fr_history.proofs.Lists.{map-map}
use Rattle.fr_cluster.proofs.Elements.{Contains-here, Contains-none, Contains-there, found, not_found, sole_found}
use Rattle.fr_cluster.proofs.KeyNodes.{AllPairs-first, AllPairs-rest, Contains-cons_cases}
use Rattle.fr_precision.proofs.RoundLemmas.{contains_map, map_contains}

-- ---- elements of mapped lists

-- ---- rows and nodes

number_of : NodeRow → ℕ
number_of row = row.node

id_of : NodeSpec → ℕ
id_of node = node.id

-- a node's row is found
pub record HasRow (rows : List NodeRow) (node : ℕ) : Type 0 where
  pub is : row_of rows node ≡ Some (row_for rows node)
  pub there : Contains rows (row_for rows node)
  pub number : (row_for rows node).node ≡ node

equal : (a b : ℕ) → a ≡ b → (a == b) ≡ true
equal a b is = grind arith

same : (a b : ℕ) → (a == b) ≡ true → a ≡ b
same a b is = grind arith

has_by : (rows : List NodeRow) (node : ℕ) (row : NodeRow) (o : Option NodeRow) → Contains rows row → row.node ≡ node → find (λ (r : NodeRow). r.node == node) rows ≡ o
    → HasRow rows node
unfolding row_for
has_by rows node row None among number none =
    let fails : (row.node == node) ≡ false = not_found (λ (r : NodeRow). r.node == node) rows row none among in
    let passes : (row.node == node) ≡ true = equal row.node node number in
    absurd (let e : true ≡ false = sym passes ∙ fails in cc)
has_by rows node row (Some r) among number is =
    let here = found (λ (r : NodeRow). r.node == node) rows r is in
    let at : row_for rows node ≡ r = ap (λ o. unwrap_or o blank_row) is in
    let Number : NodeRow → Type 0 = λ s. s.node ≡ node in
    record {
      is = is ∙ ap (λ (s : NodeRow). Some s) (sym at);
      there = subst (Contains rows) (sym at) here.1;
      number = subst Number (sym at) (same r.node node here.0);
    }

pub has_row : (nodes : List NodeSpec) (rows : List NodeRow) (node : NodeSpec) → AreRowsOf nodes rows → Contains nodes node → HasRow rows node.id
unfolding number_of id_of
has_row nodes rows node are among =
    let Has : List ℕ → Type 0 = λ ids. Contains ids node.id in
    let there : Contains (map (λ (row : NodeRow). row.node) rows) node.id = subst Has (sym are) (contains_map id_of nodes node among) in
    let row = map_contains number_of rows node.id there in
    has_by rows node.id row.0 (find (λ (r : NodeRow). r.node == node.id) rows) row.1 row.2 refl

-- what holds of all rows holds of a node's row
pub each_row : (nodes : List NodeSpec) (rows : List NodeRow) (P : NodeRow → Type 0) (node : NodeSpec) → AreRowsOf nodes rows → Contains nodes node → All P rows
    → P (row_for rows node.id)
each_row nodes rows P node are among all = All-contains P rows (row_for rows node.id) all (has_row nodes rows node are among).there

-- the laws of some nodes' rows, at one node's row
pub record RowRuns (laws : ClockLaws) (offset_by : NodeRow → ℤ) (rows : List NodeRow) (node : ℕ) : Type 0 where
  pub has : HasRow rows node
  pub start : (row_for rows node).start ≡ laws.start node
  pub length_is : (row_for rows node).length ≡ laws.microtick node
  pub rate : (row_for rows node).rate ≡ laws.rate node
  pub state : (row_for rows node).state ≡ laws.state node
  pub offset : (row_for rows node).offset ≡ offset_by (row_for rows node)

pub row_runs_by : (laws : ClockLaws) (offset : NodeRow → ℤ) (nodes : List NodeSpec) (rows : List NodeRow) (node : NodeSpec) → RowsRun laws offset nodes rows → Contains nodes node
    → RowRuns laws offset rows node.id
row_runs_by laws offset nodes rows node runs among =
    let has = has_row nodes rows node runs.nodes among in
    let own = has.number in
    record {
      has = has;
      start = each_row nodes rows (λ row. row.start ≡ laws.start row.node) node runs.nodes among runs.starts ∙ ap laws.start own;
      length_is = each_row nodes rows (λ row. row.length ≡ laws.microtick row.node) node runs.nodes among runs.lengths ∙ ap laws.microtick own;
      rate = each_row nodes rows (λ row. row.rate ≡ laws.rate row.node) node runs.nodes among runs.rates ∙ ap laws.rate own;
      state = each_row nodes rows (λ row. row.state ≡ laws.state row.node) node runs.nodes among runs.states ∙ ap laws.state own;
      offset = each_row nodes rows (λ row. row.offset ≡ offset row) node runs.nodes among runs.offsets;
    }

-- ---- each row is that of its node

abbrev pub Ascend : List NodeSpec → Type 0
Ascend nodes = AllPairs (λ (a : NodeSpec) (b : NodeSpec). a.id < b.id) nodes

ids_ascend : (nodes : List NodeSpec) → Ascend nodes → AllPairs (λ (a : ℕ) (b : ℕ). a < b) (map (λ (node : NodeSpec). node.id) nodes)
ids_ascend [] pairs = λ i j d before within. absurd (omega (arith, within))
ids_ascend (node ∷ nodes) pairs =
    let Below : NodeSpec → Type 0 = λ other. node.id < other.id in
    let first : All Below nodes =
    All-along (Contains nodes) Below nodes (λ other among. AllPairs-first (λ (a : NodeSpec) (b : NodeSpec). a.id < b.id) node nodes other pairs among) (All-contains_itself nodes) in
    AllPairs-cons (λ (a : ℕ) (b : ℕ). a < b) node.id (map (λ (node : NodeSpec). node.id) nodes)
    (All-map (λ (b : ℕ). node.id < b) (λ (node : NodeSpec). node.id) nodes first)
    (ids_ascend nodes (AllPairs-rest (λ (a : NodeSpec) (b : NodeSpec). a.id < b.id) node nodes pairs))

sole_row : (rows : List NodeRow) (one other : NodeRow) → AllPairs (λ (a : ℕ) (b : ℕ). a < b) (map (λ (row : NodeRow). row.node) rows) → Contains rows one → Contains rows other
    → other.node ≡ one.node → other ≡ one
unfolding number_of
sole_row [] one other pairs here there is = absurd (Contains-none one here)
sole_row (row ∷ rows) one other pairs here there is = elim (Contains-cons_cases row rows one here) [
  | inl first ↦ elim (Contains-cons_cases row rows other there) [
    | inl first_too ↦ sym first_too ∙ first
    | inr later ↦
        let below : row.node < other.node = AllPairs-first (λ (a : ℕ) (b : ℕ). a < b) row.node (map number_of rows) other.node pairs (contains_map number_of rows other later) in
        let own : row.node ≡ one.node = ap number_of first in
        absurd (omega (arith, below, own, is))
  ]
  | inr later ↦ elim (Contains-cons_cases row rows other there) [
    | inl first ↦
        let below : row.node < one.node = AllPairs-first (λ (a : ℕ) (b : ℕ). a < b) row.node (map number_of rows) one.node pairs (contains_map number_of rows one later) in
        let own : row.node ≡ other.node = ap number_of first in
        absurd (omega (arith, below, own, is))
    | inr later_too ↦ sole_row rows one other (AllPairs-rest (λ (a : ℕ) (b : ℕ). a < b) row.node (map number_of rows) pairs) later later_too is
  ]
]

-- a row is that of its own number
own_row : (rows : List NodeRow) (row : NodeRow) → AllPairs (λ (a : ℕ) (b : ℕ). a < b) (map (λ (row : NodeRow). row.node) rows) → Contains rows row → row_for rows row.node ≡ row
unfolding row_for
own_row rows row pairs among =
    ap (λ o. unwrap_or o blank_row)
    (
    sole_found (λ (r : NodeRow). r.node == row.node) rows row among (equal row.node row.node refl)
    (λ other there passes. sole_row rows row other pairs among there (same other.node row.node passes))
    )

all_same : (f : NodeRow → NodeRow) (rows : List NodeRow) → ((row : NodeRow) → Contains rows row → f row ≡ row) → map f rows ≡ rows
all_same f [] is = refl
all_same f (row ∷ rows) is = ap₂ (λ (r : NodeRow) (rs : List NodeRow). r ∷ rs) (is row (Contains-here row rows)) (all_same f rows (λ r among. is r (Contains-there row rows r among)))

pub rows_are : (nodes : List NodeSpec) (rows : List NodeRow) → Ascend nodes → AreRowsOf nodes rows → map (λ (node : NodeSpec). row_for rows node.id) nodes ≡ rows
rows_are nodes rows ascend are =
    let Below : List ℕ → Type 0 = AllPairs (λ (a : ℕ) (b : ℕ). a < b) in
    let pairs : Below (map (λ (row : NodeRow). row.node) rows) = subst Below (sym are) (ids_ascend nodes ascend) in
    let by_id = map-map (row_for rows) (λ (node : NodeSpec). node.id) nodes in
    let by_row = map-map (row_for rows) (λ (row : NodeRow). row.node) rows in
    sym by_id ∙ ap (map (row_for rows)) (sym are) ∙ by_row ∙ all_same (λ (row : NodeRow). row_for rows row.node) rows (λ row among. own_row rows row pairs among)

-- what holds of each node's row holds of all rows
pub all_rows : (nodes : List NodeSpec) (rows : List NodeRow) (P : NodeRow → Type 0) → Ascend nodes → AreRowsOf nodes rows
    → ((node : NodeSpec) → Contains nodes node → P (row_for rows node.id)) → All P rows
all_rows nodes rows P ascend are each =
    let at : NodeSpec → NodeRow = λ node. row_for rows node.id in
    let mapped : All P (map at nodes) = All-map P at nodes (All-along (Contains nodes) (λ node. P (at node)) nodes each (All-contains_itself nodes)) in
    subst (All P) (rows_are nodes rows ascend are) mapped

-- the correct nodes ascend
pub correct_ascend : (x : Setting) → IsSane x.params → Ascend (correct_nodes x)
correct_ascend x sane =
    AllPairs-filter (λ (a : NodeSpec) (b : NodeSpec). a.id < b.id) (λ (node : NodeSpec). is_correct x node.id) x.params.nodes sane.lists.nodes_ascend
