-- The text of a cycle by its rows and their deviations, and that of the nodes that are arbitrary.
use Rattle.std.proofs.Math.Seq.{drop-cons}
use Rattle.std.proofs.Common.{◌≡◌, ℕ, zero, suc, ◌+◌, ◌<◌, ◌≤◌, arith, drop, get_or, Bool, true, false, List, [], ◌∷◌, ◌++◌, length, map, refl, ap, sym, ◌∙◌, append_assoc, inl, inr}
use Rattle.std.specs.Prelude.{All, None, Option, Some, filter, ◌==◌, if◌then◌else◌, slice_get}
use Rattle.std.proofs.lemmas.List.{append-nil, drop_all}
use Rattle.std.proofs.lemmas.Option.{get_or_from_slice_get}
use Rattle.std.specs.List.{flat_map}
use Rattle.std.proofs.lemmas.List.Concat.{flat_map-append}
use Rattle.std.proofs.lemmas.List.Folds.{flat_map-map}
use Rattle.fr_base.specs.Rows.{AreAscendingDevs, IsEarlierDev}
use Rattle.fr_base.specs.declared.dev.Dev.{Dev}
use Rattle.fr_base.specs.declared.node_row.NodeRow.{NodeRow}
use Rattle.fr_cluster.specs.declared.join.Join.{Join}
use Rattle.fr_cluster.specs.declared.nodes.NodeSpec.{NodeSpec}
use Rattle.fr_history.specs.History.{History, Record}
use Rattle.fr_text.specs.Pieces.{line}
use Rattle.fr_trace.specs.Items.{Item, items_by, line_of}
use Rattle.fr_trace.specs.Text.{arbitrary_text, clock_text, dev_after, dev_front, dev_text, devs_text, items_text, join_line, join_text, joined_by, joins_text, line_text, named_text, clock_rows_text}
use Rattle.fr_trace.specs.declared.trace.TracedJoin.{TracedJoin}

-- what a filter keeps, written out
filtered : {X : Type 0} (p : X → Bool) (f : X → List ℕ) (xs : List X) → flat_map f (filter p xs) ≡ flat_map (λ x. if p x then f x else []) xs
filtered p f [] = refl
filtered {X} p f (x ∷ xs) = by (p x) (filtered p f xs)
  where
    by : (b : Bool) → flat_map f (filter p xs) ≡ flat_map (λ y. if p y then f y else []) xs
        → flat_map f (if b then x ∷ filter p xs else filter p xs) ≡ (if b then f x else []) ++ flat_map (λ y. if p y then f y else []) xs
    by true e = ap (λ (l : List ℕ). f x ++ l) e
    by false e = e

-- the deviations of a node
heard_text : (h : History) (r : Record) (node : ℕ) (devs : List Dev)
    → items_text (map (Item.Heard h r) (filter (λ dev. dev.receiver == node) devs)) ≡ devs_text (length h) node devs
unfolding items_text
heard_text h r node devs =
    flat_map-map (λ (item : Item). line_text (line_of item)) (Item.Heard h r) (filter (λ dev. dev.receiver == node) devs)
    ∙ filtered (λ dev. dev.receiver == node) (λ dev. line (dev_text (length h) dev)) devs

pub items_text-append : (a b : List Item) → items_text (a ++ b) ≡ items_text a ++ items_text b
unfolding items_text
items_text-append a b = flat_map-append (λ item. line_text (line_of item)) a b

-- the rows of a record
pub cycle_by_rows : (h : History) (r : Record) (rows : List NodeRow) → items_text (items_by h r rows) ≡ clock_rows_text (length h) r.devs rows
unfolding items_text items_by
cycle_by_rows h r [] = refl
cycle_by_rows h r (row ∷ rows) =
    let rest = cycle_by_rows h r rows in
    let heard = heard_text h r row.node r.devs in
    let cut = items_text-append (map (Item.Heard h r) (filter (λ dev. dev.receiver == row.node) r.devs)) (items_by h r rows) in
    ap (λ (l : List ℕ). line (clock_text (length h) row) ++ l) (cut ∙ (λ i. heard i ++ rest i))
    ∙ sym (append_assoc (line (clock_text (length h) row)) (devs_text (length h) row.node r.devs) (clock_rows_text (length h) r.devs rows))

-- the arbitrary nodes
pub named-filter : (is_arbitrary : ℕ → Bool) (nodes : List NodeSpec)
    → flat_map (λ node. line (arbitrary_text node)) (map (λ node. node.id) (filter (λ node. is_arbitrary node.id) nodes)) ≡ named_text is_arbitrary nodes
named-filter is_arbitrary nodes =
    flat_map-map (λ (node : ℕ). line (arbitrary_text node)) (λ (node : NodeSpec). node.id) (filter (λ node. is_arbitrary node.id) nodes)
    ∙ filtered (λ node. is_arbitrary node.id) (λ node. line (arbitrary_text node.id)) nodes

-- one more in front
pub named-first : (is_arbitrary : ℕ → Bool) (node : NodeSpec) (nodes : List NodeSpec)
    → (if is_arbitrary node.id then line (arbitrary_text node.id) else []) ++ named_text is_arbitrary nodes ≡ named_text is_arbitrary (node ∷ nodes)
named-first is_arbitrary node nodes = refl

pub devs-first : (cycle node : ℕ) (dev : Dev) (devs : List Dev)
    → (if dev.receiver == node then line (dev_text cycle dev) else []) ++ devs_text cycle node devs ≡ devs_text cycle node (dev ∷ devs)
devs-first cycle node dev devs = refl

pub rows-first : (cycle : ℕ) (devs : List Dev) (row : NodeRow) (rows : List NodeRow)
    → (line (clock_text cycle row) ++ devs_text cycle row.node devs) ++ clock_rows_text cycle devs rows ≡ clock_rows_text cycle devs (row ∷ rows)
rows-first cycle devs row rows = refl

-- deviations of other nodes
unlike : (a b : ℕ) → a < b → (a == b) ≡ false
unlike a b less = grind arith

unlike-above : (a b : ℕ) → b < a → (a == b) ≡ false
unlike-above a b less = grind arith

-- one of an earlier node in front adds nothing
pub devs-earlier : (cycle node : ℕ) (dev : Dev) (devs : List Dev) → dev.receiver < node → devs_text cycle node devs ≡ devs_text cycle node (dev ∷ devs)
devs-earlier cycle node dev devs less = rw (unlike dev.receiver node less) refl

-- and those of later nodes are none
pub devs-later : (cycle node : ℕ) (devs : List Dev) → All (λ dev. node < dev.receiver) devs → devs_text cycle node devs ≡ []
devs-later cycle node [] later = refl
devs-later cycle node (dev ∷ devs) later =
    rw (unlike-above dev.receiver node (later 0 dev (omega arith))) (devs-later cycle node devs (λ k d less. later (suc k) d (omega arith)))

-- where they ascend and the first is of a later node, all are
pub all-later : (node : ℕ) (dev : Dev) (devs : List Dev) → AreAscendingDevs (dev ∷ devs) → node < dev.receiver → All (λ other. node < other.receiver) (dev ∷ devs)
all-later node dev devs ascend less = λ k d within. by k d within
  where
    above : (other : Dev) → IsEarlierDev dev other → node < other.receiver
    above other earlier = elim earlier [
      | inl receiver ↦ omega (arith, receiver, less)
      | inr (same, place) ↦ omega (arith, same, less)
    ]

    by : (k : ℕ) (d : Dev) → k < length (dev ∷ devs) → node < (get_or (dev ∷ devs) k d).receiver
    by zero d within = less
    by (suc k) d within = above (get_or devs k d) (ascend 0 (suc k) d (omega arith) within)

-- one of the node itself, by what is in front of it
pub dev-own : (cycle node : ℕ) (front : List ℕ) (dev : Dev) → front ≡ dev_front cycle node
    → (if dev.receiver == node then line (dev_after front dev) else []) ≡ (if dev.receiver == node then line (dev_text cycle dev) else [])
dev-own cycle node front dev is = by (dev.receiver == node) refl
  where
    by : (own : Bool) → (dev.receiver == node) ≡ own
        → (if own then line (dev_after front dev) else []) ≡ (if own then line (dev_text cycle dev) else [])
    by true own =
        let same : dev.receiver ≡ node = grind arith in
        ap (λ (text : List ℕ). line (dev_after text dev)) (is ∙ ap (dev_front cycle) (sym same))
    by false other = refl

-- rows of later nodes are alike with deviations that are alike for later nodes
pub rows-later : (cycle node : ℕ) (fewer devs : List Dev) → ((other : ℕ) → node < other → devs_text cycle other fewer ≡ devs_text cycle other devs)
    → (rows : List NodeRow) → All (λ row. node < row.node) rows → clock_rows_text cycle fewer rows ≡ clock_rows_text cycle devs rows
rows-later cycle node fewer devs alike [] later = refl
rows-later cycle node fewer devs alike (row ∷ rows) later =
    let first : devs_text cycle row.node fewer ≡ devs_text cycle row.node devs = alike row.node (later 0 row (omega arith)) in
    let rest : clock_rows_text cycle fewer rows ≡ clock_rows_text cycle devs rows = rows-later cycle node fewer devs alike rows (λ k r less. later (suc k) r (omega arith)) in
    λ i. (line (clock_text cycle row) ++ first i) ++ rest i

-- the nodes that join
joins-filter-one : (node : ℕ) (o : Option Join) → flat_map (λ j. line (join_text j)) (joined_by node o) ≡ join_line node o
joins-filter-one node None = refl
joins-filter-one node (Some join) = append-nil (line (join_text (record { node = node; join = join })))

pub joins-filter : (join : ℕ → Option Join) (nodes : List NodeSpec)
    → flat_map (λ j. line (join_text j)) (flat_map (λ node. joined_by node.id (join node.id)) nodes) ≡ joins_text join nodes
joins-filter join [] = refl
joins-filter join (node ∷ nodes) =
    flat_map-append (λ (j : TracedJoin). line (join_text j)) (joined_by node.id (join node.id)) (flat_map (λ (other : NodeSpec). joined_by other.id (join other.id)) nodes)
    ∙ (λ i. joins-filter-one node.id (join node.id) i ++ joins-filter join nodes i)

pub joins-from : (join : ℕ → Option Join) (nodes : List NodeSpec) (place : ℕ) (node : NodeSpec) → place < length nodes → slice_get nodes place ≡ Some node
    → join_line node.id (join node.id) ++ joins_text join (drop (place + 1) nodes) ≡ joins_text join (drop place nodes)
joins-from join nodes place node lt is =
    let at : get_or nodes place node ≡ node = get_or_from_slice_get nodes place node node is in
    let one : place + 1 ≡ suc place = omega arith in
    let cut : drop place nodes ≡ node ∷ drop (place + 1) nodes = drop-cons nodes place node lt ∙ (λ i. at i ∷ drop (sym one i) nodes) in
    ap (joins_text join) (sym cut)

-- those from a place on
pub named-from : (is_arbitrary : ℕ → Bool) (nodes : List NodeSpec) (place : ℕ) (node : NodeSpec) → place < length nodes → slice_get nodes place ≡ Some node
    → (if is_arbitrary node.id then line (arbitrary_text node.id) else []) ++ named_text is_arbitrary (drop (place + 1) nodes) ≡ named_text is_arbitrary (drop place nodes)
named-from is_arbitrary nodes place node lt is =
    let at : get_or nodes place node ≡ node = get_or_from_slice_get nodes place node node is in
    let one : place + 1 ≡ suc place = omega arith in
    let cut : drop place nodes ≡ node ∷ drop (place + 1) nodes = drop-cons nodes place node lt ∙ (λ i. at i ∷ drop (sym one i) nodes) in
    ap (named_text is_arbitrary) (sym cut)

pub named-past : (is_arbitrary : ℕ → Bool) (nodes : List NodeSpec) (place : ℕ) → length nodes ≤ place → named_text is_arbitrary (drop place nodes) ≡ []
named-past is_arbitrary nodes place past = ap (named_text is_arbitrary) (drop_all place nodes past)
