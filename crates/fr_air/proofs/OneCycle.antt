-- A cycle of all nodes and all followers behind some cycles is the one that follows them.
use Rattle.std.proofs.Common.{◌≡◌, ℕ, zero, suc, ◌+◌, ◌<◌, ◌≤◌, Bool, true, false, not, List, [], ◌∷◌, length, map, get_or, refl, ap, sym, subst, ◌∙◌, arith, add-one}
use Rattle.std.specs.Prelude.{All, AllPairs, Contains, IsNone, filter, is_some}
use Rattle.std.specs.List.{range_with_len}
use Rattle.std.proofs.lemmas.Bool.{cond_both}
use Rattle.std.proofs.lemmas.List.{get_or-map, length-map}
use Rattle.std.proofs.lemmas.List.Elements.{All-cons, All-nil}
use Rattle.std.proofs.lemmas.List.FromFn.{get_or-range_with_len, length-range_with_len}
use Rattle.std.proofs.lemmas.List.Kept.{AllPairs-filter}
use Rattle.fr_base.specs.declared.cycle_row.Counts.{Counts}
use Rattle.fr_base.specs.declared.dev.Dev.{Dev}
use Rattle.fr_base.specs.declared.node_row.NodeRow.{NodeRow}
use Rattle.fr_cluster.specs.Questions.{key_index_of}
use Rattle.fr_cluster.specs.Sane.{IsSane}
use Rattle.fr_cluster.specs.Values.{amount}
use Rattle.fr_cluster.specs.declared.names.ParamName.TheVariants as name
use Rattle.fr_cluster.specs.declared.nodes.NodeSpec.{NodeSpec}
use Rattle.fr_drift.specs.Questions.{length_of}
use Rattle.fr_script.specs.View.{is_arbitrary}
use Rattle.fr_time.specs.Cycles.{is_odd}
use Rattle.fr_node.specs.Cycle.{in_cycle, ended, ended_row_of_node}
use Rattle.fr_node.specs.Fits.{NodeFits}
use Rattle.fr_node.specs.View.{NodeView, node_row_of}
use Rattle.fr_cluster.proofs.Elements.{filtered}
use Rattle.fr_cluster.specs.Setting.{Setting, correct_nodes, is_correct}
use Rattle.fr_history.specs.History.{Record}
use Rattle.fr_history.specs.Records.{counts_over}
use Rattle.fr_history.specs.Offers.{static_slots_of}
use Rattle.fr_history.proofs.Flat.{Among, among_here, among_there, map_same_among}
use Rattle.fr_history.proofs.Lists.{All-both, map-map}
use Rattle.fr_history.specs.Cycles.{Cycles}
use Rattle.fr_history.specs.Lawful.{IsLawful}
use Rattle.fr_history.specs.Next.{cycles_of, early_row, early_rows, early_told, next_cycle}
use Rattle.fr_history.specs.Standing.{has_row, row_nodes}
use Rattle.fr_history.proofs.RunsExist.{length-cycles_of}
use Rattle.fr_air.specs.Views.{node_of_next}
use Rattle.fr_air.specs.Counting.{counts_after}
use Rattle.fr_base.specs.Counts.{no_counts}
use Rattle.fr_air.specs.Cycling.{begun_in, NodesAscend, IsWaiting, AreListable}
use Rattle.fr_air.specs.Hearing.{after_slots}
use Rattle.fr_air.specs.Listing.{listed_among, ordered_keys}
use Rattle.fr_air.specs.Files.{setting_in}
use Rattle.fr_air.specs.declared.files.RunInputs.{RunInputs}
use Rattle.fr_air.proofs.Counts.{all_counted}
use Rattle.fr_air.proofs.Listed.{all_listed}
use Rattle.fr_air.proofs.Members.{IsNext, IsRun, follows_it, has_it, members, next_row, next_rows}
use Rattle.fr_air.proofs.Step.{begun_node, begun_row, ended_is, ended_told, heard_all, heard_node}

-- ---- the run

pub next-one : (x : Setting) (n : ℕ) → IsNext x (cycles_of x n)
unfolding cycles_of
next-one x zero = tt
next-one x (suc n) = refl

more-lawful : (x : Setting) (n : ℕ) → IsLawful x (cycles_of x (suc n)) → IsLawful x (next_cycle x (cycles_of x n) ∷ cycles_of x n)
unfolding cycles_of
more-lawful x n lawful = lawful

pub run-of : (x : Setting) → IsSane x.params → ((n : ℕ) → IsLawful x (cycles_of x n)) → (n : ℕ) → IsRun x (cycles_of x n)
run-of x sane lawful n = record { sane = sane; lawful = more-lawful x n (lawful (suc n)); next = next-one x n }

-- ---- receivers, as they stand before a cycle

abbrev pub all_behind : Setting → Cycles → Bool → List NodeView
all_behind x h follows = map (λ node. node_of_next x h follows node.id) (members x h follows)

-- and with it begun, and after its slots
abbrev pub all_begun : Setting → Cycles → Bool → List NodeView
all_begun x h follows = map (λ node. begun_node x h follows node.id) (members x h follows)

abbrev pub all_heard : Setting → Cycles → Bool → List NodeView
all_heard x h follows = map (λ node. heard_node x h follows node.id) (members x h follows)

-- ---- before the cycle

pub All-map : {X Y : Type 0} (P : Y → Type 0) (f : X → Y) (xs : List X) → ((x : X) → Among x xs → P (f x)) → All P (map f xs)
All-map P f [] each = All-nil P
All-map P f (x ∷ xs) each = All-cons P (f x) (map f xs) (each x (among_here x xs)) (All-map P f xs (λ y there. each y (among_there y x xs there)))

-- a receiver is a correct node
pub correct-member : (x : Setting) (h : Cycles) (follows : Bool) (node : NodeSpec) → Among node (members x h follows) → Contains (correct_nodes x) node
correct-member x h false node is = (has_it x h node is).0
correct-member x h true node is = (follows_it x h node is).0

not-false : (b : Bool) → not b ≡ true → b ≡ false
not-false true is = cc
not-false false is = refl

pub not-arbitrary : (x : Setting) (node : NodeSpec) → Contains (correct_nodes x) node → x.is_arbitrary node.id ≡ false
not-arbitrary x node is = not-false (x.is_arbitrary node.id) (filtered (λ (n : NodeSpec). is_correct x n.id) x.params.nodes node is).1

-- what a node stands for, but for its numbers
record StandsBetween (f : RunInputs) (cycle : ℕ) (node : NodeView) : Type 0 where
  pub between : IsNone node.length
  pub correct : is_arbitrary f.script node.id ≡ false
  pub in_cycle : node.cycle ≡ cycle

stands : (f : RunInputs) (cycle : ℕ) (follows : Bool) → All (StandsBetween f cycle) (all_behind (setting_in f) (cycles_of (setting_in f) cycle) follows)
stands f cycle follows =
    let x : Setting = setting_in f in
    let h : Cycles = cycles_of x cycle in
    All-map (StandsBetween f cycle) (λ (node : NodeSpec). node_of_next x h follows node.id) (members x h follows)
    (λ node is. record { between = refl; correct = not-arbitrary x node (correct-member x h follows node is); in_cycle = length-cycles_of x cycle })

pub all-wait : (f : RunInputs) (cycle : ℕ) (follows : Bool) (nodes : List NodeView) → cycle < 200_000 → nodes ≡ all_behind (setting_in f) (cycles_of (setting_in f) cycle) follows → All (NodeFits f.params) nodes → All (IsWaiting f cycle) nodes
all-wait f cycle follows nodes in_run are fits =
    All-both (NodeFits f.params) (StandsBetween f cycle) (IsWaiting f cycle)
    (λ node fit stand. record { in_run = in_run; fits = fit; between = stand.between; correct = stand.correct; in_cycle = stand.in_cycle }) nodes fits
    (subst (All (StandsBetween f cycle)) (sym are) (stands f cycle follows))

-- ---- the steps of the cycle

pub all-begun : (f : RunInputs) (cycle : ℕ) (follows : Bool) (before after : List NodeView) → before ≡ all_behind (setting_in f) (cycles_of (setting_in f) cycle) follows → after ≡ map (begun_in f cycle) before
    → after ≡ all_begun (setting_in f) (cycles_of (setting_in f) cycle) follows
all-begun f cycle follows before after are now =
    let x : Setting = setting_in f in
    let h : Cycles = cycles_of x cycle in
    now ∙ ap (map (begun_in f cycle)) are
    ∙ map-map (begun_in f cycle) (λ (node : NodeSpec). node_of_next x h follows node.id) (members x h follows)
    ∙ map_same_among (λ (node : NodeSpec). begun_in f cycle (node_of_next x h follows node.id)) (λ (node : NodeSpec). begun_node x h follows node.id) (members x h follows)
    (λ node among. ap (λ (c : ℕ). in_cycle (node_of_next x h follows node.id) (length_of f.drift node.id c)) (sym (length-cycles_of x cycle)))

pub begun-rows : (x : Setting) (h : Cycles) → map node_row_of (all_begun x h false) ≡ early_rows x h
begun-rows x h =
    map-map node_row_of (λ (node : NodeSpec). begun_node x h false node.id) (row_nodes x h)
    ∙ map_same_among (λ (node : NodeSpec). node_row_of (begun_node x h false node.id)) (λ (node : NodeSpec). early_row x h node.id) (row_nodes x h) (λ node among. begun_row x h false node.id)

-- the rows that the nodes have as a cycle has begun
pub rows-begun : (x : Setting) (h : Cycles) (nodes : List NodeView) → nodes ≡ all_begun x h false → map node_row_of nodes ≡ early_rows x h
rows-begun x h nodes are = ap (map node_row_of) are ∙ begun-rows x h

pub all-heard : (x : Setting) (cycle : ℕ) → IsRun x (cycles_of x cycle) → (follows : Bool) (rows : List NodeRow) (before after : List NodeView) → before ≡ all_begun x (cycles_of x cycle) follows
    → rows ≡ early_rows x (cycles_of x cycle) → after ≡ map (after_slots x cycle rows (amount x.params name.gNumberOfStaticSlots)) before
    → after ≡ all_heard x (cycles_of x cycle) follows
all-heard x cycle run follows rows before after in_cycle listed now =
    let h : Cycles = cycles_of x cycle in
    let s : ℕ = amount x.params name.gNumberOfStaticSlots in
    now
    ∙ ap (λ (rs : List NodeRow). map (after_slots x cycle rs s) before) listed
    ∙ ap (map (after_slots x cycle (early_rows x h) s)) in_cycle
    ∙ ap (λ (c : ℕ). map (after_slots x c (early_rows x h) s) (all_begun x h follows)) (sym (length-cycles_of x cycle))
    ∙ map-map (after_slots x (length h) (early_rows x h) s) (λ (node : NodeSpec). begun_node x h follows node.id) (members x h follows)
    ∙ map_same_among (λ (node : NodeSpec). after_slots x (length h) (early_rows x h) s (begun_node x h follows node.id)) (λ (node : NodeSpec). heard_node x h follows node.id) (members x h follows)
    (λ node among. heard_all x h run follows node among)

counts-told : (x : Setting) (h : Cycles) → counts_over x (length h) (early_rows x h) ≡ (next_cycle x h).told.counts
unfolding next_cycle early_told
counts-told x h = refl

pub counts-are : (x : Setting) (cycle : ℕ) (rows : List NodeRow) (old counts : Counts) → rows ≡ early_rows x (cycles_of x cycle) → old ≡ no_counts
    → counts ≡ counts_after x cycle rows (amount x.params name.gNumberOfStaticSlots) old → counts ≡ (next_cycle x (cycles_of x cycle)).told.counts
counts-are x cycle rows old counts listed fresh now =
    let h : Cycles = cycles_of x cycle in
    let s : ℕ = amount x.params name.gNumberOfStaticSlots in
    now
    ∙ ap (counts_after x cycle rows s) fresh
    ∙ ap (λ (rs : List NodeRow). counts_after x cycle rs s no_counts) listed
    ∙ ap (λ (c : ℕ). counts_after x c (early_rows x h) s no_counts) (sym (length-cycles_of x cycle))
    ∙ all_counted x (length h) (early_rows x h)
    ∙ counts-told x h

pub devs-are : (x : Setting) (cycle : ℕ) → IsRun x (cycles_of x cycle) → (keys : List ℕ) (nodes : List NodeView) (devs : List Dev) → keys ≡ ordered_keys x.params → nodes ≡ all_heard x (cycles_of x cycle) false
    → devs ≡ listed_among x.params (is_odd cycle) keys nodes → devs ≡ (next_cycle x (cycles_of x cycle)).told.devs
devs-are x cycle run keys nodes devs ordered heard now =
    let h : Cycles = cycles_of x cycle in
    now
    ∙ ap (λ (ks : List ℕ). listed_among x.params (is_odd cycle) ks nodes) ordered
    ∙ ap (listed_among x.params (is_odd cycle) (ordered_keys x.params)) heard
    ∙ ap (λ (c : ℕ). listed_among x.params (is_odd c) (ordered_keys x.params) (all_heard x h false)) (sym (length-cycles_of x cycle))
    ∙ all_listed x h run

pub cycles-more : (x : Setting) (cycle : ℕ) → next_cycle x (cycles_of x cycle) ∷ cycles_of x cycle ≡ cycles_of x (cycle + 1)
unfolding cycles_of
cycles-more x cycle =
    let P : ℕ → Type 0 = λ n. next_cycle x (cycles_of x cycle) ∷ cycles_of x cycle ≡ cycles_of x n in
    subst P (sym (add-one cycle)) refl

-- the receivers of a cycle behind it
abbrev pub all_ended : Setting → Cycles → Bool → List NodeView
all_ended x h follows = map (λ node. node_of_next x (next_cycle x h ∷ h) follows node.id) (members x h follows)

pub nodes-ended : (x : Setting) (cycle : ℕ) → IsRun x (cycles_of x cycle) → (follows : Bool) (before after : List NodeView) → before ≡ all_heard x (cycles_of x cycle) follows → after ≡ map (ended x.params) before
    → after ≡ all_ended x (cycles_of x cycle) follows
nodes-ended x cycle run follows before after heard now =
    let h : Cycles = cycles_of x cycle in
    now ∙ ap (map (ended x.params)) heard
    ∙ map-map (ended x.params) (λ (node : NodeSpec). heard_node x h follows node.id) (members x h follows)
    ∙ map_same_among (λ (node : NodeSpec). ended x.params (heard_node x h follows node.id)) (λ (node : NodeSpec). node_of_next x (next_cycle x h ∷ h) follows node.id) (members x h follows)
    (λ node among. ended_is x h run follows node among)

pub rows-are : (x : Setting) (cycle : ℕ) → IsRun x (cycles_of x cycle) → (nodes : List NodeView) (rows : List NodeRow) → nodes ≡ all_heard x (cycles_of x cycle) false → rows ≡ map (ended_row_of_node x.params) nodes
    → rows ≡ (next_cycle x (cycles_of x cycle)).told.rows
rows-are x cycle run nodes rows heard now =
    let h : Cycles = cycles_of x cycle in
    now ∙ ap (map (ended_row_of_node x.params)) heard
    ∙ map-map (ended_row_of_node x.params) (λ (node : NodeSpec). heard_node x h false node.id) (row_nodes x h)
    ∙ map_same_among (λ (node : NodeSpec). ended_row_of_node x.params (heard_node x h false node.id)) (λ (node : NodeSpec). next_row x h node.id) (row_nodes x h) (λ node among. ended_told x h run node among)
    ∙ sym (next_rows x h)

pub record-is : (r s : Record) → r.rows ≡ s.rows → r.devs ≡ s.devs → r.counts ≡ s.counts → r ≡ s
record-is r s rows devs counts =
    ap (λ (rs : List NodeRow). let t : Record = record r { rows = rs } in t) rows
    ∙ ap (λ (ds : List Dev). let t : Record = record { rows = s.rows; devs = ds; counts = r.counts } in t) devs
    ∙ ap (λ (c : Counts). let t : Record = record { rows = s.rows; devs = s.devs; counts = c } in t) counts

-- ---- orders and lengths

pub keys-ascend : (x : Setting) (keys : List ℕ) → keys ≡ ordered_keys x.params → AllPairs (λ a b. a < b) keys
keys-ascend x keys are =
    let R : ℕ → ℕ → Type 0 = λ a b. a < b in
    let P : List ℕ → Type 0 = λ ks. AllPairs R ks in
    subst P (sym are) (AllPairs-filter R (λ slot. is_some (key_index_of x.params slot)) (static_slots_of x) (range (amount x.params name.gNumberOfStaticSlots)))
  where
    range : (n : ℕ) → AllPairs (λ a b. a < b) (range_with_len 1 n)
    range n i j d less short =
        let long = length-range_with_len 1 n in
        let within : j < n = omega arith in
        let a = get_or-range_with_len 1 n i d (omega arith) in
        let b = get_or-range_with_len 1 n j d within in
        omega (arith, a, b)

pub length-kept : {X : Type 0} (p : X → Bool) (xs : List X) → length (filter p xs) ≤ length xs
length-kept p [] = omega arith
length-kept p (x ∷ xs) =
    cond_both (p x) (x ∷ filter p xs) (filter p xs) (λ ys. length ys ≤ length (x ∷ xs))
    (λ kept. omega (arith, length-kept p xs)) (λ dropped. omega (arith, length-kept p xs))

-- some of the correct nodes are at most as many as a cluster has, and in ascending order
pub few-correct : (x : Setting) → IsSane x.params → (test : NodeSpec → Bool) → length (filter test (correct_nodes x)) ≤ 64
few-correct x sane test =
    omega (arith, length-kept test (correct_nodes x), length-kept (λ (node : NodeSpec). is_correct x node.id) x.params.nodes, sane.lists.few_nodes)

pub correct-ascend : (x : Setting) → IsSane x.params → (test : NodeSpec → Bool) → AllPairs (λ (a : NodeSpec) (b : NodeSpec). a.id < b.id) (filter test (correct_nodes x))
correct-ascend x sane test =
    let R : NodeSpec → NodeSpec → Type 0 = λ a b. a.id < b.id in
    AllPairs-filter R test (correct_nodes x) (AllPairs-filter R (λ (node : NodeSpec). is_correct x node.id) x.params.nodes sane.lists.nodes_ascend)

-- nodes of such numbers are too
mapped : (e : ℕ → NodeView) → ((id : ℕ) → (e id).id ≡ id) → (specs : List NodeSpec) → AllPairs (λ (a : NodeSpec) (b : NodeSpec). a.id < b.id) specs → NodesAscend (map (λ node. e node.id) specs)
mapped e named [] pairs i j d less short = absurd (omega arith)
mapped e named (s ∷ ss) pairs i j d less short =
    let f : NodeSpec → NodeView = λ node. e node.id in
    let long = length-map (s ∷ ss) f in
    let a : get_or (map f (s ∷ ss)) i d ≡ f (get_or (s ∷ ss) i s) = get_or-map f (s ∷ ss) i s d (omega arith) in
    let b : get_or (map f (s ∷ ss)) j d ≡ f (get_or (s ∷ ss) j s) = get_or-map f (s ∷ ss) j s d (omega arith) in
    let first : (get_or (map f (s ∷ ss)) i d).id ≡ (get_or (s ∷ ss) i s).id = ap (λ (n : NodeView). n.id) a ∙ named (get_or (s ∷ ss) i s).id in
    let second : (get_or (map f (s ∷ ss)) j d).id ≡ (get_or (s ∷ ss) j s).id = ap (λ (n : NodeView). n.id) b ∙ named (get_or (s ∷ ss) j s).id in
    let lt : (get_or (s ∷ ss) i s).id < (get_or (s ∷ ss) j s).id = pairs i j s less (omega arith) in
    omega (arith, first, second, lt)

pub listable : (x : Setting) → IsSane x.params → (e : ℕ → NodeView) → ((id : ℕ) → (e id).id ≡ id) → (test : NodeSpec → Bool) (nodes : List NodeView)
    → nodes ≡ map (λ node. e node.id) (filter test (correct_nodes x)) → AreListable nodes
listable x sane e named test nodes are =
    let P : List NodeView → Type 0 = λ ns. NodesAscend ns in
    let specs : List NodeSpec = filter test (correct_nodes x) in
    let long : length nodes ≡ length specs = ap length are ∙ length-map specs (λ (node : NodeSpec). e node.id) in record {
      ascending = subst P (sym are) (mapped e named specs (correct-ascend x sane test));
      few = omega (arith, long, few-correct x sane test);
    }

pub waiting-listable : (x : Setting) → IsSane x.params → (h : Cycles) (nodes : List NodeView) → nodes ≡ all_behind x h false → AreListable nodes
waiting-listable x sane h nodes are = listable x sane (node_of_next x h false) (λ id. refl) (λ (node : NodeSpec). has_row x h node.id) nodes are

pub are-listable : (x : Setting) → IsSane x.params → (h : Cycles) (nodes : List NodeView) → nodes ≡ all_heard x h false → AreListable nodes
are-listable x sane h nodes are = listable x sane (heard_node x h false) (λ id. refl) (λ (node : NodeSpec). has_row x h node.id) nodes are

-- nodes whose cycle has begun have the same numbers
pub begun-listable : (f : RunInputs) (cycle : ℕ) (nodes : List NodeView) → AreListable nodes → AreListable (map (begun_in f cycle) nodes)
begun-listable f cycle nodes is =
    let g : NodeView → NodeView = begun_in f cycle in
    let long : length (map g nodes) ≡ length nodes = length-map nodes g in record {
      ascending = λ i j d less short.
          let within : j < length nodes = omega (arith, long, short) in
          let first : (get_or (map g nodes) i d).id ≡ (get_or nodes i d).id = ap (λ (n : NodeView). n.id) (get_or-map g nodes i d d (omega arith)) in
          let second : (get_or (map g nodes) j d).id ≡ (get_or nodes j d).id = ap (λ (n : NodeView). n.id) (get_or-map g nodes j d d within) in
          let lt : (get_or nodes i d).id < (get_or nodes j d).id = is.ascending i j d less within in
          omega (arith, first, second, lt);
      few = omega (arith, long, is.few);
    }
