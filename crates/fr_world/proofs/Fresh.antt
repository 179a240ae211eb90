-- Key slots and nodes as they are gathered before a run.
use Rattle.std.proofs.Common.{◌≡◌, ℕ, zero, suc, ◌+◌, ◌<◌, ◌≤◌, ◌==◌, Bool, true, false, cond, List, [], ◌∷◌, ◌++◌, Some, map, take, get_or, refl, ap, sym, ◌∙◌, arith}
use Rattle.std.specs.Prelude.{All, IsSome, filter, find, length}
use Rattle.std.specs.List.{range_with_len}
use Rattle.std.proofs.lemmas.Bool.{cond_both, eq-eqb}
use Rattle.std.proofs.lemmas.List.{map-append, take_more, append-nil}
use Rattle.std.proofs.lemmas.List.Elements.{filter-append}
use Rattle.std.proofs.lemmas.List.FromFn.{map-range_with_len_more}
use Rattle.fr_cluster.specs.declared.nodes.NodeSpec.{NodeSpec}
use Rattle.fr_node.specs.Fits.{NodeFits}
use Rattle.fr_node.specs.View.{NodeView, node_row_of}
use Rattle.fr_air.specs.Listening.{StartsEarly}
use Rattle.fr_air.specs.declared.files.RunInputs.{RunInputs}

-- nodes that are gathered before a run, with room for all nodes of a cluster
pub record AreGathered (f : RunInputs) (fresh nodes : List NodeView) (capacity : ℕ) : Type 0 where
  pub nodes_are : nodes ≡ fresh
  pub fit : All (NodeFits f.params) nodes
  pub early : All (λ node. StartsEarly f 0 (node_row_of node)) nodes
  pub room : 64 ≤ capacity

same : (xs : List ℕ) → map (λ x. x) xs ≡ xs
same [] = refl
same (x ∷ xs) = ap (λ (ys : List ℕ). x ∷ ys) (same xs)

range-more : (k : ℕ) → range_with_len 1 (k + 1) ≡ range_with_len 1 k ++ (k + 1) ∷ []
range-more k =
    sym (same (range_with_len 1 (k + 1)))
    ∙ map-range_with_len_more (λ (x : ℕ). x) 1 k (k + 1) (omega arith)
    ∙ ap (λ (xs : List ℕ). xs ++ (k + 1) ∷ []) (same (range_with_len 1 k))

-- one more number that passes, or does not
pub kept-more : (test : ℕ → Bool) (k : ℕ) (before after : List ℕ) → before ≡ filter test (range_with_len 1 k) → after ≡ before ++ (k + 1) ∷ [] → test (k + 1) ≡ true → after ≡ filter test (range_with_len 1 (k + 1))
kept-more test k before after so_far now passes =
    now ∙ ap (λ (xs : List ℕ). xs ++ (k + 1) ∷ []) so_far
    ∙ sym (ap (filter test) (range-more k) ∙ filter-append test (range_with_len 1 k) ((k + 1) ∷ [])
    ∙ ap (λ (b : Bool). filter test (range_with_len 1 k) ++ cond b ((k + 1) ∷ []) []) passes)

pub dropped-more : (test : ℕ → Bool) (k : ℕ) (before after : List ℕ) → before ≡ filter test (range_with_len 1 k) → after ≡ before → test (k + 1) ≡ false → after ≡ filter test (range_with_len 1 (k + 1))
dropped-more test k before after so_far now fails =
    now ∙ so_far
    ∙ sym (ap (filter test) (range-more k) ∙ filter-append test (range_with_len 1 k) ((k + 1) ∷ [])
    ∙ ap (λ (b : Bool). filter test (range_with_len 1 k) ++ cond b ((k + 1) ∷ []) []) fails
    ∙ append-nil (filter test (range_with_len 1 k)))

-- one more element of a list that is made of those that pass
pub made-more : {X Y : Type 0} (test : X → Bool) (f : X → Y) (xs : List X) (i : ℕ) (x : X) (before after : List Y) → i < length xs → x ≡ get_or xs i x → before ≡ map f (filter test (take i xs)) → after ≡ before ++ f x ∷ [] → test x ≡ true →
    after ≡ map f (filter test (take (i + 1) xs))
made-more {X = X} {Y = Y} test f xs i x before after lt at so_far now passes =
    let more : take (i + 1) xs ≡ take i xs ++ x ∷ [] = take_more xs i x lt ∙ ap (λ (y : X). take i xs ++ y ∷ []) (sym at) in
    now ∙ ap (λ (ys : List Y). ys ++ f x ∷ []) so_far
    ∙ sym (ap (λ (zs : List X). map f (filter test zs)) more
    ∙ ap (map f) (filter-append test (take i xs) (x ∷ []) ∙ ap (λ (b : Bool). filter test (take i xs) ++ cond b (x ∷ []) []) passes)
    ∙ map-append f (filter test (take i xs)) (x ∷ []))

pub left-more : {X Y : Type 0} (test : X → Bool) (f : X → Y) (xs : List X) (i : ℕ) (x : X) (before after : List Y) → i < length xs → x ≡ get_or xs i x → before ≡ map f (filter test (take i xs)) → after ≡ before → test x ≡ false →
    after ≡ map f (filter test (take (i + 1) xs))
left-more {X = X} test f xs i x before after lt at so_far now fails =
    let more : take (i + 1) xs ≡ take i xs ++ x ∷ [] = take_more xs i x lt ∙ ap (λ (y : X). take i xs ++ y ∷ []) (sym at) in
    now ∙ so_far
    ∙ sym (ap (λ (zs : List X). map f (filter test zs)) more
    ∙ ap (map f) (filter-append test (take i xs) (x ∷ []) ∙ ap (λ (b : Bool). filter test (take i xs) ++ cond b (x ∷ []) []) fails ∙ append-nil (filter test (take i xs))))

-- a node of the list is known
pub among-known : (nodes : List NodeSpec) (i : ℕ) (node d : NodeSpec) → i < length nodes → node ≡ get_or nodes i d → IsSome (find (λ n. n.id == node.id) nodes)
among-known [] i node d lt at = absurd (omega arith)
among-known (n ∷ ns) i node d lt at =
    cond_both (n.id == node.id) (Some n) (find (λ m. m.id == node.id) ns) IsSome
    (λ same. refl)
    (λ other. by i lt at other (λ k short is. among-known ns k node d short is))
  where
    by : (i : ℕ) → i < length (n ∷ ns) → node ≡ get_or (n ∷ ns) i d → (n.id == node.id) ≡ false → ((k : ℕ) → k < length ns → node ≡ get_or ns k d → IsSome (find (λ m. m.id == node.id) ns)) → IsSome (find (λ m. m.id == node.id) ns)
    by zero lt at other rest =
        let e : n.id ≡ node.id = ap (λ (m : NodeSpec). m.id) (sym at) in
        let equal : (n.id == node.id) ≡ true = eq-eqb n.id node.id e in
        cc
    by (suc i) lt at other rest = rest i (omega arith) at

-- one more element, if it passes
pub made-step : {X Y : Type 0} (test : X → Bool) (f : X → Y) (xs : List X) (i : ℕ) (x : X) (before after : List Y) → i < length xs → x ≡ get_or xs i x → before ≡ map f (filter test (take i xs)) → after ≡ before ++ cond (test x) (f x ∷ []) [] →
    after ≡ map f (filter test (take (i + 1) xs))
made-step test f xs i x before after lt at so_far now = by (test x) refl
  where
    by : (b : Bool) → test x ≡ b → after ≡ map f (filter test (take (i + 1) xs))
    by true passes = made-more test f xs i x before after lt at so_far (now ∙ ap (λ (b : Bool). before ++ cond b (f x ∷ []) []) passes) passes
    by false fails = left-more test f xs i x before after lt at so_far (now ∙ ap (λ (b : Bool). before ++ cond b (f x ∷ []) []) fails ∙ append-nil before) fails
