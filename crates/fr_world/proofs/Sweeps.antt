-- Cycles begin and end, and deviations are listed, in ascending order.
use Rattle.std.proofs.Common.{◌≡◌, ℕ, ◌+◌, ◌<◌, ℤ, pos, Bool, true, false, cond, List, [], ◌∷◌, ◌++◌, length, map, take, get_or, set, Option, Some, None, inl, inr, refl, ap, sym, subst, ◌∙◌, arith}
use Rattle.std.specs.Prelude.{All, AllPairs, option_and_then}
use Rattle.std.specs.List.{flat_map}
use Rattle.std.specs.Option.{option_map, option_to_list}
use Rattle.std.proofs.lemmas.List.{append-nil, flat_map_more, take_more, get_or-take, get_or_default, length-take, take_more_set}
use Rattle.std.proofs.lemmas.List.Concat.{flat_map-cons}
use Rattle.std.proofs.lemmas.List.Elements.{All-append, All-head, All-map, All-nil, All-push, All-tail, All-weaker, All-cons}
use Rattle.fr_base.specs.Rows.{IsEarlierDev}
use Rattle.fr_base.specs.declared.channel.Channel.{Channel}
use Rattle.fr_base.specs.declared.channel.Channel.TheVariants.{A, B}
use Rattle.fr_base.specs.declared.dev.Dev.{Dev}
use Rattle.fr_cluster.specs.Questions.{key_index_of}
use Rattle.fr_cluster.specs.Values.{Values}
use Rattle.fr_measure.specs.Readings.{reading}
use Rattle.fr_node.specs.Cycle.{corrected_row, corrects, ended_row_of_node}
use Rattle.fr_node.specs.View.{NodeView, node_row_of}
use Rattle.fr_history.specs.Offers.{channels}
use Rattle.fr_air.specs.Cycling.{NodesAscend}
use Rattle.fr_base.specs.Rows.{dev_with}
use Rattle.fr_air.specs.Listing.{listed_among, listed_at, listed_of}

-- a fact of the elements so far, and of one more
pub all-more : {X : Type 0} (P : X → Type 0) (xs : List X) (i : ℕ) (new : X) → i < length xs → P new → All P (take i xs) → All P (take (i + 1) (set xs i new))
all-more P xs i new lt now so_far = rw (take_more_set xs i new lt) (All-push P (take i xs) new so_far now)

-- a fact of all is one of the element at a place
pub All-at : {X : Type 0} (P : X → Type 0) (xs : List X) (i : ℕ) (x : X) → i < length xs → x ≡ get_or xs i x → All P xs → P x
All-at P xs i x lt at all = subst P (sym at) (all i x lt)

-- earlier elements are below
pub below : {X : Type 0} (R : X → X → Type 0) (xs : List X) (i : ℕ) (x : X) → AllPairs R xs → i < length xs → x ≡ get_or xs i x → All (λ y. R y x) (take i xs)
below {X = X} R xs i x pairs lt at k d short =
    let few = length-take i xs in
    let before : k < i = omega arith in
    let P : X → Type 0 = R (get_or (take i xs) k d) in
    subst P (get_or_default xs i d x lt ∙ sym at)
    (let Q : X → Type 0 = λ y. R y (get_or xs i d) in subst Q (sym (get_or-take i xs k d before)) (pairs k i d before lt))

ended-node : (p : Values) (node : NodeView) → (ended_row_of_node p node).node ≡ node.id
ended-node p node = by (corrects node)
  where
    by : (b : Bool) → (cond b (corrected_row p node) (node_row_of node)).node ≡ node.id
    by true = refl
    by false = refl

pub rows-below : (p : Values) (nodes : List NodeView) (i : ℕ) (node : NodeView) → NodesAscend nodes → i < length nodes → node ≡ get_or nodes i node → All (λ row. row.node < (ended_row_of_node p node).node) (map (ended_row_of_node p) (take i nodes))
rows-below p nodes i node ascending lt at =
    All-map (λ row. row.node < (ended_row_of_node p node).node) (ended_row_of_node p) (take i nodes)
    (All-weaker (λ n. n.id < node.id) (λ n. (ended_row_of_node p n).node < (ended_row_of_node p node).node)
    (λ n less. let a = ended-node p n in let b = ended-node p node in omega (arith, a, b))
    (take i nodes) (below (λ a b. a.id < b.id) nodes i node ascending lt at))

-- ---- listed deviations

-- what is listed of a node in a slot on a channel is of them
pub listed-of : (p : Values) (odd : Bool) (node : NodeView) (slot : ℕ) (channel : Channel) (P : Dev → Type 0) → ((value : ℤ) → P (dev_with node.id slot channel value)) → All P (listed_at p odd node slot channel)
listed-of p odd node slot channel P each = by (option_and_then (λ index. reading node.table index odd channel) (key_index_of p slot))
  where
    by : (o : Option ℤ) → All P (option_to_list (option_map (dev_with node.id slot channel) o))
    by None = All-nil P
    by (Some value) = All-cons P (dev_with node.id slot channel value) [] (each value) (All-nil P)

-- on both channels
pub slot-of : (p : Values) (odd : Bool) (node : NodeView) (slot : ℕ) (P : Dev → Type 0) → ((channel : Channel) (value : ℤ) → P (dev_with node.id slot channel value)) → All P (flat_map (listed_at p odd node slot) channels)
slot-of p odd node slot P each =
    rw (flat_map-cons (listed_at p odd node slot) A (B ∷ []))
    (All-append P (listed_at p odd node slot A) (flat_map (listed_at p odd node slot) (B ∷ [])) (listed-of p odd node slot A P (each A))
    (rw (flat_map-cons (listed_at p odd node slot) B [])
    (All-append P (listed_at p odd node slot B) [] (listed-of p odd node slot B P (each B)) (All-nil P))))

flat-all : {X : Type 0} (Q : X → Type 0) (P : Dev → Type 0) (f : X → List Dev) → ((x : X) → Q x → All P (f x)) → (xs : List X) → All Q xs → All P (flat_map f xs)
flat-all Q P f each [] all = All-nil P
flat-all Q P f each (x ∷ xs) all = rw (flat_map-cons f x xs) (All-append P (f x) (flat_map f xs) (each x (All-head Q x xs all)) (flat-all Q P f each xs (All-tail Q x xs all)))

-- those on channel B come after those on A
pub later-b : (p : Values) (odd : Bool) (node : NodeView) (slot : ℕ) (entries : List Dev) → All (λ earlier. IsEarlierDev earlier (dev_with node.id slot A (pos 0))) entries →
    All (λ earlier. IsEarlierDev earlier (dev_with node.id slot B (pos 0))) (entries ++ listed_at p odd node slot A)
later-b p odd node slot entries before =
    let P : Dev → Type 0 = λ earlier. IsEarlierDev earlier (dev_with node.id slot B (pos 0)) in
    All-append P entries (listed_at p odd node slot A)
    (All-weaker (λ earlier. IsEarlierDev earlier (dev_with node.id slot A (pos 0))) P (λ earlier is. still earlier is) entries before)
    (listed-of p odd node slot A P (λ value. inr (refl, inr (refl, omega arith))))
  where
    still : (e : Dev) → IsEarlierDev e (dev_with node.id slot A (pos 0)) → IsEarlierDev e (dev_with node.id slot B (pos 0))
    still e (inl less) = inl less
    still e (inr (same, inl less)) = inr (same, inl less)
    still e (inr (same, inr (here, on))) = inr (same, inr (here, omega arith))

-- those of a key slot come after those of the earlier ones
pub later-slot : (p : Values) (odd : Bool) (keys : List ℕ) (node : NodeView) (i slot : ℕ) (base entries : List Dev) → AllPairs (λ a b. a < b) keys → i < length keys → slot ≡ get_or keys i slot →
    All (λ earlier. earlier.receiver < node.id) base → entries ≡ base ++ flat_map (λ key. flat_map (listed_at p odd node key) channels) (take i keys) → All (λ earlier. IsEarlierDev earlier (dev_with node.id slot A (pos 0))) entries
later-slot p odd keys node i slot base entries ascending lt at before is =
    let P : Dev → Type 0 = λ earlier. IsEarlierDev earlier (dev_with node.id slot A (pos 0)) in
    let f : ℕ → List Dev = λ key. flat_map (listed_at p odd node key) channels in
    subst (All P) (sym is)
    (All-append P base (flat_map f (take i keys))
    (All-weaker (λ earlier. earlier.receiver < node.id) P (λ earlier less. inl less) base before)
    (flat-all (λ key. key < slot) P f (λ key less. slot-of p odd node key P (λ channel value. inr (refl, inl less))) (take i keys)
    (below (λ a b. a < b) keys i slot ascending lt at)))

-- those of a node come after those of the earlier ones
pub later-node : (p : Values) (odd : Bool) (keys : List ℕ) (nodes : List NodeView) (i : ℕ) (node : NodeView) (entries : List Dev) → NodesAscend nodes → i < length nodes → node ≡ get_or nodes i node →
    entries ≡ listed_among p odd keys (take i nodes) → All (λ earlier. earlier.receiver < node.id) entries
later-node p odd keys nodes i node entries ascending lt at is =
    let P : Dev → Type 0 = λ earlier. earlier.receiver < node.id in
    subst (All P) (sym is)
    (flat-all (λ n. n.id < node.id) P (listed_of p odd keys)
    (λ n less. flat-all (λ key. Unit {0}) P (λ key. flat_map (listed_at p odd n key) channels) (λ key any. slot-of p odd n key P (λ channel value. less)) keys (λ k d short. tt))
    (take i nodes) (below (λ a b. a.id < b.id) nodes i node ascending lt at))

-- both channels, one after the other
pub both-channels : (f : Channel → List Dev) (base : List Dev) → (base ++ f A) ++ f B ≡ base ++ flat_map f channels
both-channels f base =
    ap (λ (devs : List Dev). devs ++ f B) (ap (λ (devs : List Dev). devs ++ f A) (sym (append-nil base)) ∙ flat_map_more f base [] A)
    ∙ flat_map_more f base (A ∷ []) B

-- one more element's list
pub flat-more : {X : Type 0} (f : X → List Dev) (xs : List X) (i : ℕ) (x : X) (base before after : List Dev) → i < length xs → x ≡ get_or xs i x → before ≡ base ++ flat_map f (take i xs) → after ≡ before ++ f x →
    after ≡ base ++ flat_map f (take (i + 1) xs)
flat-more {X = X} f xs i x base before after lt at so_far now =
    now
    ∙ ap (λ (devs : List Dev). devs ++ f x) so_far
    ∙ flat_map_more f base (take i xs) x
    ∙ ap (λ (ys : List X). base ++ flat_map f ys) (ap (λ (y : X). take i xs ++ y ∷ []) at ∙ sym (take_more xs i x lt))
