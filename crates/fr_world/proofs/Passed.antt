-- Nodes go from one ascending list to another: followers join or go on, and listeners begin to follow.
use Rattle.std.proofs.Common.{◌≡◌, ◌∙◌, ℕ, zero, suc, ◌+◌, ◌<◌, ◌≤◌, ◌==◌, nat_lt, ◌&&◌, Bool, true, false, cond, List, [], ◌∷◌, ◌++◌, length, map, filter, take, drop, get_or, Option, Some, None, refl, ap, sym, arith, length-append}
use Rattle.std.specs.Prelude.{All}
use Rattle.std.specs.List.{insert}
use Rattle.std.proofs.lemmas.Bool.{and_parts, cond_both, eqb-true}
use Rattle.std.proofs.lemmas.List.{append-nil, append_assoc, drop_at, drop_more, length-drop, length-take-le, take_all, take_at, take_more}
use Rattle.std.proofs.lemmas.List.Elements.{All-append, All-cons, All-drop, All-head, All-tail, All-take}
use Rattle.fr_cluster.specs.declared.join.Join.{Join}
use Rattle.fr_node.specs.Cycle.{as_joined}
use Rattle.fr_correct.specs.Terms.{are_uncut}
use Rattle.fr_node.specs.View.{NodeView}
use Rattle.fr_script.specs.View.{join_of}
use Rattle.fr_air.specs.Placing.{put, put_all}
use Rattle.fr_world.specs.Succeeding.{followers_without, goes_in, goes_now, joins_in, joins_now, nodes_with, Passes}
use Rattle.fr_air.specs.declared.files.RunInputs.{RunInputs}

-- ---- what is put into a list

pub length-put : {X : Type 0} (number : X → ℕ) (x : X) (ys : List X) → length (put number x ys) ≡ suc (length ys)
length-put number x [] = refl
length-put number x (y ∷ ys) =
    cond_both (nat_lt (number x) (number y)) (x ∷ y ∷ ys) (y ∷ put number x ys) (λ zs. length zs ≡ suc (suc (length ys)))
    (λ less. refl) (λ more. ap suc (length-put number x ys))

pub length-put_all : {X : Type 0} (number : X → ℕ) (xs ys : List X) → length (put_all number xs ys) ≡ length xs + length ys
length-put_all number [] ys = omega arith
length-put_all number (x ∷ xs) ys = let rest = length-put_all number xs (put number x ys) in let one = length-put number x ys in omega (arith, rest, one)

pub All-put : {X : Type 0} (P : X → Type 0) (number : X → ℕ) (x : X) (ys : List X) → P x → All P ys → All P (put number x ys)
All-put P number x [] now all = All-cons P x [] now all
All-put P number x (y ∷ ys) now all =
    cond_both (nat_lt (number x) (number y)) (x ∷ y ∷ ys) (y ∷ put number x ys) (All P)
    (λ less. All-cons P x (y ∷ ys) now all)
    (λ more. All-cons P y (put number x ys) (All-head P y ys all) (All-put P number x ys now (All-tail P y ys all)))

-- it stands before the first element of a greater number
pub put-inserts : {X : Type 0} (number : X → ℕ) (x : X) (ys : List X) (i : ℕ) → i ≤ length ys → ((k : ℕ) (d : X) → k < i → nat_lt (number x) (number (get_or ys k d)) ≡ false) →
    (i < length ys → nat_lt (number x) (number (get_or ys i x)) ≡ true) → put number x ys ≡ insert ys i x
put-inserts number x [] zero le below at = refl
put-inserts number x [] (suc i) le below at = absurd (omega (arith, le))
put-inserts number x (y ∷ ys) zero le below at = let less : nat_lt (number x) (number y) ≡ true = at (omega arith) in rw less refl
put-inserts {X = X} number x (y ∷ ys) (suc i) le below at =
    let more : nat_lt (number x) (number y) ≡ false = below 0 x (omega arith) in
    let rest : put number x ys ≡ insert ys i x = put-inserts number x ys i (omega (arith, le)) (λ k d lt. below (suc k) d (omega (arith, lt))) (λ lt. at (omega (arith, lt))) in
    ap (λ (b : Bool). cond b (x ∷ y ∷ ys) (y ∷ put number x ys)) more ∙ ap (λ (zs : List X). y ∷ zs) rest

-- ---- the list but for one element

pub all-but : {X : Type 0} (P : X → Type 0) (xs : List X) (i : ℕ) → All P xs → All P (take i xs ++ drop (i + 1) xs)
all-but P xs i all = All-append P (take i xs) (drop (i + 1) xs) (All-take P i xs all) (All-drop P (i + 1) xs all)

-- what stands at a place, and behind it
here : {X : Type 0} (xs : List X) (i : ℕ) (x : X) → i < length xs → x ≡ get_or xs i x → drop i xs ≡ x ∷ drop (i + 1) xs
here {X = X} xs i x lt at = drop_more xs i x lt ∙ ap (λ (y : X). y ∷ drop (i + 1) xs) (sym at)

passing : {X : Type 0} (test : X → Bool) (x : X) (xs : List X) → test x ≡ true → filter test (x ∷ xs) ≡ x ∷ filter test xs
passing test x xs passes = rw passes refl

failing : {X : Type 0} (test : X → Bool) (x : X) (xs : List X) → test x ≡ false → filter test (x ∷ xs) ≡ filter test xs
failing test x xs fails = rw fails refl

-- ---- a follower that joins does not go on

only_one : (a b : ℕ) → (a == b + 3) ≡ true → (a == b + 2) ≡ false
only_one a b is = by (a == b + 2) refl
  where
    by : (c : Bool) → (a == b + 2) ≡ c → (a == b + 2) ≡ false
    by true same = let one = eqb-true a (b + 2) same in let other = eqb-true a (b + 3) is in absurd (omega (arith, one, other))
    by false differs = differs

joins-stops : (double : ℕ) (node : NodeView) (join : Option Join) → joins_in double node join ≡ true → goes_in double node join ≡ false
joins-stops double node None is = absurd (cc)
joins-stops double node (Some join) is =
    ap (λ (b : Bool). b && are_uncut node.outcomes) (only_one double join.double (and_parts (double == join.double + 3) (are_uncut node.outcomes) is).0)

-- ---- a follower is passed

pub passed-joins : (f : RunInputs) (double place : ℕ) (followers nodes : List NodeView) (node : NodeView) → place < length followers → node ≡ get_or followers place node → joins_now f double node ≡ true →
    Passes f double place place followers nodes (take place followers ++ drop (place + 1) followers) (put (λ n. n.id) (as_joined node) nodes)
passed-joins f double place followers nodes node lt at joins =
    let rest : List NodeView = drop (place + 1) followers in
    let le : place ≤ length followers = omega (arith, lt) in
    let front : length (take place followers) ≡ place = length-take-le place followers le in
    let behind : drop place (take place followers ++ rest) ≡ rest = drop_at (take place followers) rest place front in
    let before : take place (take place followers ++ rest) ≡ take place followers = take_at (take place followers) rest place front in
    let stands : drop place followers ≡ node ∷ rest = here followers place node lt at in
    let stops : goes_now f double node ≡ false = joins-stops double node (join_of f.script node.id) joins in
    let long = length-append (take place followers) rest in
    let left = length-drop (place + 1) followers in
    record {
      nodes_same = ap (λ (ns : List NodeView). put_all (λ n. n.id) (map as_joined (filter (joins_now f double) ns)) (put (λ n. n.id) (as_joined node) nodes)) behind
          ∙ sym (ap (λ (ns : List NodeView). put_all (λ n. n.id) (map as_joined ns) nodes) (ap (filter (joins_now f double)) stands ∙ passing (joins_now f double) node rest joins));
      followers_same = ap (λ (ns : List NodeView). ns ++ filter (goes_now f double) (drop place (take place followers ++ rest))) before
          ∙ ap (λ (ns : List NodeView). take place followers ++ filter (goes_now f double) ns) behind
          ∙ sym (ap (λ (ns : List NodeView). take place followers ++ ns) (ap (filter (goes_now f double)) stands ∙ failing (goes_now f double) node rest stops));
      within = omega (arith, long, front, left, lt);
      nearer = omega (arith, long, front, left, lt);
    }

pub passed-goes : (f : RunInputs) (double place : ℕ) (followers nodes : List NodeView) (node : NodeView) → place < length followers → node ≡ get_or followers place node → joins_now f double node ≡ false → goes_now f double node ≡ true →
    Passes f double place (place + 1) followers nodes followers nodes
passed-goes f double place followers nodes node lt at stays goes =
    let rest : List NodeView = drop (place + 1) followers in
    let stands : drop place followers ≡ node ∷ rest = here followers place node lt at in
    let more : take (place + 1) followers ≡ take place followers ++ node ∷ [] = take_more followers place node lt ∙ ap (λ (n : NodeView). take place followers ++ n ∷ []) (sym at) in
    record {
      nodes_same = sym (ap (λ (ns : List NodeView). put_all (λ n. n.id) (map as_joined ns) nodes) (ap (filter (joins_now f double)) stands ∙ failing (joins_now f double) node rest stays));
      followers_same = ap (λ (ns : List NodeView). ns ++ filter (goes_now f double) rest) more
          ∙ append_assoc (take place followers) (node ∷ []) (filter (goes_now f double) rest)
          ∙ sym (ap (λ (ns : List NodeView). take place followers ++ ns) (ap (filter (goes_now f double)) stands ∙ passing (goes_now f double) node rest goes));
      within = omega (arith, lt);
      nearer = omega arith;
    }

pub passed-gone : (f : RunInputs) (double place : ℕ) (followers nodes : List NodeView) (node : NodeView) → place < length followers → node ≡ get_or followers place node → joins_now f double node ≡ false → goes_now f double node ≡ false →
    Passes f double place place followers nodes (take place followers ++ drop (place + 1) followers) nodes
passed-gone f double place followers nodes node lt at stays stops =
    let rest : List NodeView = drop (place + 1) followers in
    let le : place ≤ length followers = omega (arith, lt) in
    let front : length (take place followers) ≡ place = length-take-le place followers le in
    let behind : drop place (take place followers ++ rest) ≡ rest = drop_at (take place followers) rest place front in
    let before : take place (take place followers ++ rest) ≡ take place followers = take_at (take place followers) rest place front in
    let stands : drop place followers ≡ node ∷ rest = here followers place node lt at in
    let long = length-append (take place followers) rest in
    let left = length-drop (place + 1) followers in
    record {
      nodes_same = ap (λ (ns : List NodeView). put_all (λ n. n.id) (map as_joined (filter (joins_now f double) ns)) nodes) behind
          ∙ sym (ap (λ (ns : List NodeView). put_all (λ n. n.id) (map as_joined ns) nodes) (ap (filter (joins_now f double)) stands ∙ failing (joins_now f double) node rest stays));
      followers_same = ap (λ (ns : List NodeView). ns ++ filter (goes_now f double) (drop place (take place followers ++ rest))) before
          ∙ ap (λ (ns : List NodeView). take place followers ++ filter (goes_now f double) ns) behind
          ∙ sym (ap (λ (ns : List NodeView). take place followers ++ ns) (ap (filter (goes_now f double)) stands ∙ failing (goes_now f double) node rest stops));
      within = omega (arith, long, front, left, lt);
      nearer = omega (arith, long, front, left, lt);
    }

-- there is room for one that joins
pub joins-fits : (f : RunInputs) (double place : ℕ) (followers nodes : List NodeView) (node : NodeView) → place < length followers → node ≡ get_or followers place node → joins_now f double node ≡ true →
    length (nodes_with f double place followers nodes) ≤ 64 → length nodes < 64
joins-fits f double place followers nodes node lt at joins few =
    let rest : List NodeView = drop (place + 1) followers in
    let put_in : List NodeView = map as_joined (filter (joins_now f double) (drop place followers)) in
    let whole = length-put_all (λ (n : NodeView). n.id) put_in nodes in
    let some : length put_in ≡ suc (length (map as_joined (filter (joins_now f double) rest))) =
    ap (λ (ns : List NodeView). length (map as_joined ns)) (ap (filter (joins_now f double)) (here followers place node lt at) ∙ passing (joins_now f double) node rest joins) in
    omega (arith, whole, some, few)

-- nothing stands behind the last place
empty : {X : Type 0} (xs : List X) → length xs ≡ 0 → xs ≡ []
empty [] is = refl
empty (x ∷ xs) is = absurd (omega (arith, is))

pub nothing-behind : {X : Type 0} (n : ℕ) (xs : List X) → length xs ≤ n → drop n xs ≡ []
nothing-behind n xs le = empty (drop n xs) (let left = length-drop n xs in omega (arith, left, le))

-- so there all followers were passed
pub passed-nodes : (f : RunInputs) (double place : ℕ) (followers nodes : List NodeView) → length followers ≤ place → nodes ≡ nodes_with f double place followers nodes
passed-nodes f double place followers nodes done =
    let none : drop place followers ≡ [] = nothing-behind place followers done in
    sym (ap (λ (ns : List NodeView). put_all (λ n. n.id) (map as_joined (filter (joins_now f double) ns)) nodes) none)

pub passed-followers : (f : RunInputs) (double place : ℕ) (followers : List NodeView) → length followers ≤ place → followers ≡ followers_without f double place followers
passed-followers f double place followers done =
    let none : drop place followers ≡ [] = nothing-behind place followers done in
    sym (ap (λ (ns : List NodeView). take place followers ++ filter (goes_now f double) ns) none ∙ append-nil (take place followers) ∙ take_all place followers done)
