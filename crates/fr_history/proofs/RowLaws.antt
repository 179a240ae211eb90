-- Rows that run by laws are those that the laws give, and the other way round.
use Rattle.std.proofs.Common.{◌≡◌, ℕ, ℤ, pos, List, All, map, refl, ap, sym, ◌∙◌}
use Rattle.std.proofs.lemmas.List.Elements.{All-map, All-weaker}
use Rattle.fr_base.specs.declared.node_row.NodeRow.{NodeRow}
use Rattle.fr_base.specs.declared.state.State.{State}
use Rattle.fr_cluster.specs.declared.nodes.NodeSpec.{NodeSpec}
use Rattle.fr_history.specs.History.{AreRowsOf}
use Rattle.fr_history.specs.Rows.{ClockLaws, RowsRun, uncorrected}
use Rattle.fr_history.specs.Records.{row_by}
use Rattle.fr_history.proofs.Lists.{All-both, All-every, map-map, map_left, map_same}

-- a row with the corrections that laws of offsets and of cuts give
abbrev pub ended_with : (NodeRow → ℤ) → (NodeRow → ℕ) → NodeRow → NodeRow
ended_with offset cut row = record row { offset = offset row; cut = cut row }

-- the rows of some nodes before their corrections, and with them
abbrev pub rows_by : ClockLaws → List NodeSpec → List NodeRow
rows_by laws nodes = map (λ (node : NodeSpec). row_by laws node.id) nodes

abbrev pub ended_by : ClockLaws → (NodeRow → ℤ) → (NodeRow → ℕ) → List NodeSpec → List NodeRow
ended_by laws offset cut nodes = map (ended_with offset cut) (rows_by laws nodes)

-- ---- the rows that laws give

-- a fact of each of them
pub each_by : (laws : ClockLaws) (offset : NodeRow → ℤ) (cut : NodeRow → ℕ) (nodes : List NodeSpec) (P : NodeRow → Type 0) → ((node : ℕ) → P (ended_with offset cut (row_by laws node)))
    → All P (ended_by laws offset cut nodes)
each_by laws offset cut nodes P each =
    All-map P (ended_with offset cut) (rows_by laws nodes)
    (All-map (λ row. P (ended_with offset cut row)) (λ (node : NodeSpec). row_by laws node.id) nodes
    (All-every (λ (node : NodeSpec). P (ended_with offset cut (row_by laws node.id))) (λ node. each node.id) nodes))

numbers_by : (laws : ClockLaws) (offset : NodeRow → ℤ) (cut : NodeRow → ℕ) (nodes : List NodeSpec) → AreRowsOf nodes (ended_by laws offset cut nodes)
numbers_by laws offset cut nodes =
    map-map (λ (row : NodeRow). row.node) (ended_with offset cut) (rows_by laws nodes)
    ∙ map-map (λ (row : NodeRow). row.node) (λ (node : NodeSpec). row_by laws node.id) nodes

-- a law of offsets, or of cuts, asks nothing of the corrections
pub record AsksNoCorrection {X : Type 0} (law : NodeRow → X) : Type 0 where
  pub same : (row : NodeRow) (offset : ℤ) (cut : ℕ) → law (record row { offset = offset; cut = cut }) ≡ law row

pub rows_run_by : (laws : ClockLaws) (offset : NodeRow → ℤ) (cut : NodeRow → ℕ) (nodes : List NodeSpec) → AsksNoCorrection offset → RowsRun laws offset nodes (ended_by laws offset cut nodes)
rows_run_by laws offset cut nodes no_offset = record {
  nodes = numbers_by laws offset cut nodes;
  starts = each_by laws offset cut nodes (λ row. row.start ≡ laws.start row.node) (λ node. refl);
  lengths = each_by laws offset cut nodes (λ row. row.length ≡ laws.microtick row.node) (λ node. refl);
  rates = each_by laws offset cut nodes (λ row. row.rate ≡ laws.rate row.node) (λ node. refl);
  states = each_by laws offset cut nodes (λ row. row.state ≡ laws.state row.node) (λ node. refl);
  offsets = each_by laws offset cut nodes (λ row. row.offset ≡ offset row)
      (λ node. let row : NodeRow = row_by laws node in sym (no_offset.same row (offset row) (cut row)));
}

pub cuts_run_by : (laws : ClockLaws) (offset : NodeRow → ℤ) (cut : NodeRow → ℕ) (nodes : List NodeSpec) → AsksNoCorrection cut → All (λ row. row.cut ≡ cut row) (ended_by laws offset cut nodes)
cuts_run_by laws offset cut nodes no_cut =
    each_by laws offset cut nodes (λ row. row.cut ≡ cut row) (λ node. let row : NodeRow = row_by laws node in sym (no_cut.same row (offset row) (cut row)))

pub uncorrected_by : (laws : ClockLaws) (offset : NodeRow → ℤ) (cut : NodeRow → ℕ) (nodes : List NodeSpec) → map uncorrected (ended_by laws offset cut nodes) ≡ rows_by laws nodes
uncorrected_by laws offset cut nodes =
    map-map uncorrected (ended_with offset cut) (rows_by laws nodes)
    ∙ map-map (λ row. uncorrected (ended_with offset cut row)) (λ (node : NodeSpec). row_by laws node.id) nodes

-- ---- the rows that run by laws

-- what the laws say of a row
record IsRowBy (laws : ClockLaws) (offset_by : NodeRow → ℤ) (cut_by : NodeRow → ℕ) (row : NodeRow) : Type 0 where
  start : row.start ≡ laws.start row.node
  long : row.length ≡ laws.microtick row.node
  rate : row.rate ≡ laws.rate row.node
  state : row.state ≡ laws.state row.node
  offset : row.offset ≡ offset_by row
  cut : row.cut ≡ cut_by row

each_is_by : (laws : ClockLaws) (offset : NodeRow → ℤ) (cut : NodeRow → ℕ) (nodes : List NodeSpec) (rows : List NodeRow) → RowsRun laws offset nodes rows → All (λ row. row.cut ≡ cut row) rows
    → All (IsRowBy laws offset cut) rows
each_is_by laws offset cut nodes rows runs cuts =
    let Starts : NodeRow → Type 0 = λ row. row.start ≡ laws.start row.node in
    let Lengths : NodeRow → Type 0 = λ row. row.length ≡ laws.microtick row.node in
    let Rates : NodeRow → Type 0 = λ row. row.rate ≡ laws.rate row.node in
    let States : NodeRow → Type 0 = λ row. row.state ≡ laws.state row.node in
    let Offsets : NodeRow → Type 0 = λ row. row.offset ≡ offset row in
    let Cuts : NodeRow → Type 0 = λ row. row.cut ≡ cut row in
    let Two : NodeRow → Type 0 = λ row. Starts row × Lengths row in
    let Four : NodeRow → Type 0 = λ row. Rates row × States row in
    let Six : NodeRow → Type 0 = λ row. Offsets row × Cuts row in
    let Half : NodeRow → Type 0 = λ row. Two row × Four row in
    let two : All Two rows = All-both Starts Lengths Two (λ row a b. (a, b)) rows runs.starts runs.lengths in
    let four : All Four rows = All-both Rates States Four (λ row a b. (a, b)) rows runs.rates runs.states in
    let six : All Six rows = All-both Offsets Cuts Six (λ row a b. (a, b)) rows runs.offsets cuts in
    let half : All Half rows = All-both Two Four Half (λ row a b. (a, b)) rows two four in
    All-both Half Six (IsRowBy laws offset cut)
    (λ row a b. record { start = a.0.0; long = a.0.1; rate = a.1.0; state = a.1.1; offset = b.0; cut = b.1 })
    rows half six

-- a row by its fields
row_with : ℕ → ℤ → ℤ → ℤ → ℤ → State → ℕ → NodeRow
row_with node start length rate offset state cut = record { node = node; start = start; length = length; rate = rate; offset = offset; state = state; cut = cut }

row_same : (node : ℕ) (s t l k r q o v : ℤ) (state other : State) (c d : ℕ) → s ≡ t → l ≡ k → r ≡ q → o ≡ v → state ≡ other → c ≡ d → row_with node s l r o state c ≡ row_with node t k q v other d
row_same node s t l k r q o v state other c d starts lengths rates offsets states cuts = cc

early_by : (laws : ClockLaws) (offset : NodeRow → ℤ) (cut : NodeRow → ℕ) (row : NodeRow) → IsRowBy laws offset cut row → uncorrected row ≡ row_by laws row.node
unfolding row_with
early_by laws offset cut row is =
    row_same row.node row.start (laws.start row.node) row.length (laws.microtick row.node) row.rate (laws.rate row.node)
    (pos 0) (pos 0) row.state (laws.state row.node) 0 0 is.start is.long is.rate refl is.state refl

pub early_rows_by : (laws : ClockLaws) (offset : NodeRow → ℤ) (cut : NodeRow → ℕ) (nodes : List NodeSpec) (rows : List NodeRow) → RowsRun laws offset nodes rows → All (λ row. row.cut ≡ cut row) rows
    → map uncorrected rows ≡ rows_by laws nodes
early_rows_by laws offset cut nodes rows runs cuts =
    map_same uncorrected (λ row. row_by laws row.node) rows
    (All-weaker (IsRowBy laws offset cut) (λ row. uncorrected row ≡ row_by laws row.node) (early_by laws offset cut) rows (each_is_by laws offset cut nodes rows runs cuts))
    ∙ sym (map-map (row_by laws) (λ (row : NodeRow). row.node) rows)
    ∙ ap (map (row_by laws)) runs.nodes
    ∙ map-map (row_by laws) (λ (node : NodeSpec). node.id) nodes

-- a row with its corrections is itself
ended_is : (laws : ClockLaws) (offset : NodeRow → ℤ) (cut : NodeRow → ℕ) (row : NodeRow) → AsksNoCorrection offset → AsksNoCorrection cut → IsRowBy laws offset cut row
    → ended_with offset cut (uncorrected row) ≡ row
unfolding row_with
ended_is laws offset cut row no_offset no_cut is =
    row_same row.node row.start row.start row.length row.length row.rate row.rate
    (offset (uncorrected row)) row.offset row.state row.state (cut (uncorrected row)) row.cut
    refl refl refl (no_offset.same row (pos 0) 0 ∙ sym is.offset) refl (no_cut.same row (pos 0) 0 ∙ sym is.cut)

pub ended_rows_by : (laws : ClockLaws) (offset : NodeRow → ℤ) (cut : NodeRow → ℕ) (nodes : List NodeSpec) (rows : List NodeRow) → AsksNoCorrection offset → AsksNoCorrection cut
    → RowsRun laws offset nodes rows → All (λ row. row.cut ≡ cut row) rows → rows ≡ ended_by laws offset cut nodes
ended_rows_by laws offset cut nodes rows no_offset no_cut runs cuts =
    let again : NodeRow → NodeRow = λ row. ended_with offset cut (uncorrected row) in
    sym (map_left again rows
    (All-weaker (IsRowBy laws offset cut) (λ row. again row ≡ row) (λ row is. ended_is laws offset cut row no_offset no_cut is) rows (each_is_by laws offset cut nodes rows runs cuts)))
    ∙ sym (map-map (ended_with offset cut) uncorrected rows)
    ∙ ap (map (ended_with offset cut)) (early_rows_by laws offset cut nodes rows runs cuts)
