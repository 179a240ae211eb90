-- A node that joins nobody starts its cycles early: none of them takes a trillion ticks.
use Rattle.std.proofs.Common.{◌≡◌, ℕ, ◌+◌, ◌*◌, ℤ, pos, Bool, true, false, None, List, [], ◌∷◌, map, refl, ap, sym, ◌∙◌, subst, arith, if◌then◌else◌}
use Rattle.std.specs.Prelude.{All, Contains, ◌+ℤ◌, ◌*ℤ◌, ◌≤ℤ◌}
use Rattle.std.proofs.lemmas.Int.{ints}
use Rattle.std.proofs.lemmas.List.Elements.{All-contains, All-cons, All-head, All-nil, All-tail, All-weaker}
use Rattle.fr_base.specs.Within.{IsBetween}
use Rattle.fr_base.specs.declared.node_row.NodeRow.{NodeRow}
use Rattle.fr_base.proofs.Products.{below_longest}
use Rattle.fr_cluster.specs.Setting.{Setting, correct_nodes}
use Rattle.fr_cluster.specs.Values.{Values}
use Rattle.fr_cluster.specs.declared.nodes.NodeSpec.{NodeSpec}
use Rattle.fr_cluster.proofs.Elements.{kept_filtered}
use Rattle.fr_time.specs.Instant.{next_start_of}
use Rattle.fr_time.specs.Placed.{IsPlacedRow}
use Rattle.fr_time.specs.Position.{grid_for}
use Rattle.fr_time.proofs.Shortest.{cycle_from}
use Rattle.fr_node.specs.Cycle.{corrected_row, corrects, ended, ended_row_of_node}
use Rattle.fr_node.specs.View.{NodeView, node_row_of}
use Rattle.fr_history.proofs.Lists.{All-both}
use Rattle.fr_history.specs.Cycles.{Cycles}
use Rattle.fr_history.specs.Standing.{has_row, has_row_by, kept_row_nodes, row_nodes}
use Rattle.fr_air.specs.Views.{node_of_next}
use Rattle.fr_air.specs.Cycling.{HaveEnded}
use Rattle.fr_air.specs.Files.{setting_in}
use Rattle.fr_air.specs.Listening.{StartsEarly}
use Rattle.fr_world.specs.Standing.{nodes_kept}
use Rattle.fr_air.specs.declared.files.RunInputs.{RunInputs}
use Rattle.fr_script.specs.View.{join_of}
use Rattle.fr_air.proofs.Members.{has_it}
use Rattle.fr_air.proofs.Step.{begun_node, heard_node}
use Rattle.fr_air.proofs.OneCycle.{All-map, all_behind, all_begun, all_heard}

-- a node starts early where its row does
abbrev pub IsEarly : RunInputs → ℕ → NodeView → Type 0
IsEarly f cycle node = StartsEarly f cycle (node_row_of node)

-- ---- one cycle takes less than that

later : (start ticks : ℤ) (cycle : ℕ) → IsBetween (pos 0) (pos 990_000_000_000) ticks → IsBetween (pos 0) (pos (1_000_000_000_000 * (cycle + 1))) start
    → IsBetween (pos 0) (pos (1_000_000_000_000 * (cycle + 1 + 1))) (start +ℤ ticks)
later start ticks cycle few early =
    let low = few.low in
    let high = few.high in
    let from = early.low in
    let to = early.high in
    record { low = omega (arith, ints, low, from); high = omega (arith, ints, high, to) }

pub next-early : (p : Values) (row : NodeRow) (cycle : ℕ) → IsPlacedRow (grid_for p) row → IsBetween (pos 0) (pos (1_000_000_000_000 * (cycle + 1))) row.start
    → IsBetween (pos 0) (pos (1_000_000_000_000 * (cycle + 1 + 1))) (next_start_of (grid_for p) row)
next-early p row cycle placed early =
    let grid = placed.placeable.is_grid in
    let rate = placed.placeable.rate_to in
    let offset = placed.placeable.offset_to in
    let micros : ℤ = p.micros +ℤ row.rate +ℤ row.offset in
    let from : pos 0 ≤ℤ micros = cycle_from p row.rate row.offset placed.placeable in
    let to = grid.micros_to in
    let few : IsBetween (pos 0) (pos 660_000) micros = record { low = from; high = omega (arith, ints, to, rate, offset) } in
    later row.start (micros *ℤ row.length) cycle (below_longest micros row.length placed.timed.length 660_000 few) early

-- ---- nodes at the end of their cycle

kept_start : (b : Bool) (r s : NodeRow) → r.start ≡ s.start → (if b then r else s).start ≡ s.start
kept_start true r s is = is
kept_start false r s is = refl

ended_start : (p : Values) (node : NodeView) → (ended_row_of_node p node).start ≡ node.start
ended_start p node = kept_start (corrects node) (corrected_row p node) (node_row_of node) refl

one_ended : (f : RunInputs) (cycle : ℕ) (node : NodeView) → IsEarly f cycle node → IsPlacedRow (grid_for f.params) (ended_row_of_node f.params node) → IsEarly f (cycle + 1) (ended f.params node)
one_ended f cycle node early placed none =
    let P : ℤ → Type 0 = λ start. IsBetween (pos 0) (pos (1_000_000_000_000 * (cycle + 1))) start in
    next-early f.params (ended_row_of_node f.params node) cycle placed (subst P (sym (ended_start f.params node)) (early none))

All-along : {X Y : Type 0} (P : Y → Type 0) (g : X → Y) (xs : List X) → All P (map g xs) → All (λ x. P (g x)) xs
All-along P g [] all = All-nil (λ x. P (g x))
All-along P g (x ∷ xs) all = All-cons (λ y. P (g y)) x xs (All-head P (g x) (map g xs) all) (All-along P g xs (All-tail P (g x) (map g xs) all))

All-onto : {X Y : Type 0} (P : Y → Type 0) (g : X → Y) (xs : List X) → All (λ x. P (g x)) xs → All P (map g xs)
All-onto P g [] all = All-nil P
All-onto P g (x ∷ xs) all = All-cons P (g x) (map g xs) (All-head (λ y. P (g y)) x xs all) (All-onto P g xs (All-tail (λ y. P (g y)) x xs all))

pub all-ended : (f : RunInputs) (cycle : ℕ) (before after : List NodeView) (rows : List NodeRow) → HaveEnded f before after rows → All (IsEarly f cycle) before → All (IsEarly f (cycle + 1)) after
all-ended f cycle before after rows ended_all early =
    let Placed : NodeRow → Type 0 = IsPlacedRow (grid_for f.params) in
    let row : NodeView → NodeRow = ended_row_of_node f.params in
    let P : List NodeRow → Type 0 = λ rs. All Placed rs in
    let Q : List NodeView → Type 0 = λ ns. All (IsEarly f (cycle + 1)) ns in
    let placed : All (λ (n : NodeView). Placed (row n)) before = All-along Placed row before (subst P ended_all.rows_are ended_all.placed) in
    subst Q (sym ended_all.nodes_are)
    (All-onto (IsEarly f (cycle + 1)) (ended f.params) before
    (All-both (IsEarly f cycle) (λ (n : NodeView). Placed (row n)) (λ (n : NodeView). IsEarly f (cycle + 1) (ended f.params n)) (λ n is at. one_ended f cycle n is at) before early placed))

-- ---- as a cycle begins, and as it goes on

-- of nodes that have a row there those that join nobody had one in the cycle before
had_one : (x : Setting) (h : Cycles) (node : NodeSpec) → Contains (correct_nodes x) node → x.join node.id ≡ None → Contains (kept_row_nodes x h) node
had_one x [] node there none = kept_filtered (λ (n : NodeSpec). has_row x [] n.id) (correct_nodes x) node there (ap (has_row_by x [] node.id) none)
had_one x (c ∷ h) node there none = kept_filtered (λ (n : NodeSpec). has_row x h n.id) (correct_nodes x) node there (ap (has_row_by x h node.id) none)

pub early-behind : (f : RunInputs) (h : Cycles) (cycle : ℕ) (kept : List NodeView) → kept ≡ nodes_kept (setting_in f) h → All (IsEarly f cycle) kept → All (IsEarly f cycle) (all_behind (setting_in f) h false)
early-behind f h cycle kept are early =
    let x : Setting = setting_in f in
    let node_at : NodeSpec → NodeView = λ node. node_of_next x h false node.id in
    let P : List NodeView → Type 0 = λ ns. All (IsEarly f cycle) ns in
    let each : All (λ (node : NodeSpec). IsEarly f cycle (node_at node)) (kept_row_nodes x h) = All-along (IsEarly f cycle) node_at (kept_row_nodes x h) (subst P are early) in
    All-map (IsEarly f cycle) node_at (row_nodes x h)
    (λ node is none.
    All-contains (λ (n : NodeSpec). IsEarly f cycle (node_at n)) (kept_row_nodes x h) node each (had_one x h node (has_it x h node is).0 none) none)

-- nodes whose cycle is under way start where they did before it
pub early-begun : (f : RunInputs) (h : Cycles) (cycle : ℕ) (nodes : List NodeView) → nodes ≡ all_begun (setting_in f) h false → All (IsEarly f cycle) (all_behind (setting_in f) h false) → All (StartsEarly f cycle) (map node_row_of nodes)
early-begun f h cycle nodes are early =
    let x : Setting = setting_in f in
    let P : List NodeView → Type 0 = λ ns. All (StartsEarly f cycle) (map node_row_of ns) in
    subst P (sym are)
    (All-onto (StartsEarly f cycle) node_row_of (all_begun x h false)
    (All-onto (IsEarly f cycle) (λ (node : NodeSpec). begun_node x h false node.id) (row_nodes x h)
    (All-along (IsEarly f cycle) (λ (node : NodeSpec). node_of_next x h false node.id) (row_nodes x h) early)))

pub early-heard : (f : RunInputs) (h : Cycles) (cycle : ℕ) (nodes : List NodeView) → nodes ≡ all_heard (setting_in f) h false → All (IsEarly f cycle) (all_behind (setting_in f) h false) → All (IsEarly f cycle) nodes
early-heard f h cycle nodes are early =
    let x : Setting = setting_in f in
    let P : List NodeView → Type 0 = λ ns. All (IsEarly f cycle) ns in
    subst P (sym are)
    (All-onto (IsEarly f cycle) (λ (node : NodeSpec). heard_node x h false node.id) (row_nodes x h)
    (All-along (IsEarly f cycle) (λ (node : NodeSpec). node_of_next x h false node.id) (row_nodes x h) early))

-- ---- and so do their rows

kept_node : (b : Bool) (r s : NodeRow) → r.node ≡ s.node → (if b then r else s).node ≡ s.node
kept_node true r s is = is
kept_node false r s is = refl

early_row : (f : RunInputs) (cycle : ℕ) (node : NodeView) → IsEarly f cycle node → StartsEarly f cycle (ended_row_of_node f.params node)
early_row f cycle node early none =
    let same : (ended_row_of_node f.params node).node ≡ node.id = kept_node (corrects node) (corrected_row f.params node) (node_row_of node) refl in
    let P : ℤ → Type 0 = λ start. IsBetween (pos 0) (pos (1_000_000_000_000 * (cycle + 1))) start in
    subst P (sym (ended_start f.params node)) (early (sym (ap (join_of f.script) same) ∙ none))

pub early-rows : (f : RunInputs) (cycle : ℕ) (before after : List NodeView) (rows : List NodeRow) → HaveEnded f before after rows → All (IsEarly f cycle) before → All (StartsEarly f cycle) rows
early-rows f cycle before after rows ended_all early =
    let row : NodeView → NodeRow = ended_row_of_node f.params in
    subst (λ (rs : List NodeRow). All (StartsEarly f cycle) rs) (sym ended_all.rows_are)
    (All-onto (StartsEarly f cycle) row before
    (All-weaker (IsEarly f cycle) (λ (n : NodeView). StartsEarly f cycle (row n)) (λ n is. early_row f cycle n is) before early))
