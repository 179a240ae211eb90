-- The nodes of a cluster and the rows of a cycle, each in ascending order.
use Rattle.std.proofs.Common.{◌≡◌, ◌≢◌, ◌⊎◌, inl, inr, ℕ, suc, ◌+◌, ◌<◌, ◌≤◌, Bool, true, false, List, [], ◌∷◌, ◌++◌, length, map, drop, get_or, Option, Some, None, refl, ap, sym, ◌∙◌, subst, arith}
use Rattle.std.specs.Prelude.{◌==◌, ◌&&◌, ◌||◌, All, AllPairs, filter, find, is_some, slice_get}
use Rattle.std.specs.Option.{option_map}
use Rattle.std.proofs.Math.Seq.{drop-cons}
use Rattle.std.proofs.lemmas.Bool.{cases_lt}
use Rattle.std.proofs.lemmas.Bool.Decides.{nat_tests}
use Rattle.std.proofs.lemmas.List.{drop_all}
use Rattle.std.proofs.lemmas.List.Elements.{All-head, All-tail}
use Rattle.std.proofs.lemmas.Option.{get_or_from_slice_get}
use Rattle.fr_base.specs.declared.node_row.NodeRow.{NodeRow}
use Rattle.fr_cluster.specs.Searches.{node_in}
use Rattle.fr_cluster.specs.declared.nodes.NodeSpec.{NodeSpec}
use Rattle.fr_history.specs.History.{row_of}
use Rattle.fr_trace.specs.Order.{is_due_after, next_due_in}
use Rattle.fr_trace.specs.declared.trace.TracedJoin.{TracedJoin}

filter-yes : {X : Type 0} (p : X → Bool) (x : X) (xs : List X) → p x ≡ true → filter p (x ∷ xs) ≡ x ∷ filter p xs
filter-yes p x xs e = rw e refl

filter-no : {X : Type 0} (p : X → Bool) (x : X) (xs : List X) → p x ≡ false → filter p (x ∷ xs) ≡ filter p xs
filter-no p x xs e = rw e refl

find-yes : {X : Type 0} (p : X → Bool) (x : X) (xs : List X) → p x ≡ true → find p (x ∷ xs) ≡ Some x
find-yes p x xs e = rw e refl

find-no : {X : Type 0} (p : X → Bool) (x : X) (xs : List X) → p x ≡ false → find p (x ∷ xs) ≡ find p xs
find-no p x xs e = rw e refl

and-yes : (a b : Bool) → a ≡ true → b ≡ true → (a && b) ≡ true
and-yes a b e f = rw (e, f) refl

and-first : (a b : Bool) → a ≡ false → (a && b) ≡ false
and-first a b e = rw e refl

and-second : (a b : Bool) → b ≡ false → (a && b) ≡ false
and-second true b e = e
and-second false b e = refl

pub some-same : {A : Type 0} (x y : A) → Some x ≡ Some y → x ≡ y
some-same x y e = cc e

-- ---- what the search from a place on finds

cut-at : (nodes : List NodeSpec) (place : ℕ) (spec : NodeSpec) → place < length nodes → slice_get nodes place ≡ Some spec → drop place nodes ≡ spec ∷ drop (place + 1) nodes
cut-at nodes place spec lt is =
    let at : get_or nodes place spec ≡ spec = get_or_from_slice_get nodes place spec spec is in
    let one : place + 1 ≡ suc place = omega arith in
    drop-cons nodes place spec lt ∙ (λ i. at i ∷ drop (sym one i) nodes)

module _ (named : List ℕ) (joins : List TracedJoin) (cycle : ℕ) (before : List NodeRow) where
  pub next-here : (nodes : List NodeSpec) (node place : ℕ) (spec : NodeSpec) → place < length nodes → slice_get nodes place ≡ Some spec
      → is_due_after named joins cycle before node spec ≡ true → Some spec.id ≡ next_due_in (drop place nodes) named joins cycle before node
  next-here nodes node place spec lt is e =
      sym (ap (λ (l : List NodeSpec). next_due_in l named joins cycle before node) (cut-at nodes place spec lt is)
      ∙ ap (λ (o : Option NodeSpec). option_map (λ s. s.id) o) (find-yes (is_due_after named joins cycle before node) spec (drop (place + 1) nodes) e))

  pub next-there : (nodes : List NodeSpec) (node place : ℕ) (spec : NodeSpec) → place < length nodes → slice_get nodes place ≡ Some spec
      → is_due_after named joins cycle before node spec ≡ false
      → next_due_in (drop (place + 1) nodes) named joins cycle before node ≡ next_due_in (drop place nodes) named joins cycle before node
  next-there nodes node place spec lt is e =
      sym (ap (λ (l : List NodeSpec). next_due_in l named joins cycle before node) (cut-at nodes place spec lt is)
      ∙ ap (λ (o : Option NodeSpec). option_map (λ s. s.id) o) (find-no (is_due_after named joins cycle before node) spec (drop (place + 1) nodes) e))

  pub next-none : (nodes : List NodeSpec) (node place : ℕ) → length nodes ≤ place → None ≡ next_due_in (drop place nodes) named joins cycle before node
  next-none nodes node place past = sym (ap (λ (l : List NodeSpec). next_due_in l named joins cycle before node) (drop_all place nodes past))

-- ---- lists in ascending order

pub pairs-first : {X : Type 0} (R : X → X → Type 0) (x : X) (xs : List X) → AllPairs R (x ∷ xs) → All (R x) xs
pairs-first R x xs asc = λ k d lt. asc 0 (suc k) d (omega arith) (omega arith)

pub pairs-rest : {X : Type 0} (R : X → X → Type 0) (x : X) (xs : List X) → AllPairs R (x ∷ xs) → AllPairs R xs
pairs-rest R x xs asc = λ i j d lt le. asc (suc i) (suc j) d (omega arith) (omega arith)

eq-yes : (a b : ℕ) → a ≡ b → (a == b) ≡ true
eq-yes a b e = grind (arith, nat_tests, e)

eq-no : (a b : ℕ) → a ≢ b → (a == b) ≡ false
eq-no a b ne = grind (arith, nat_tests, ne)

eq-is : (a b : ℕ) → (a == b) ≡ true → a ≡ b
eq-is a b e = grind (arith, nat_tests, e)

-- what is found by a number, of a list with one more in front
pub found-first : {X : Type 0} (key : X → ℕ) (n : ℕ) (x : X) (xs : List X) → key x ≡ n → is_some (find (λ y. key y == n) (x ∷ xs)) ≡ true
found-first key n x xs e = ap (λ (o : Option _). is_some o) (find-yes (λ y. key y == n) x xs (eq-yes (key x) n e))

pub found-behind : {X : Type 0} (key : X → ℕ) (n : ℕ) (x : X) (xs : List X) → key x ≢ n → is_some (find (λ y. key y == n) (x ∷ xs)) ≡ is_some (find (λ y. key y == n) xs)
found-behind key n x xs ne = ap (λ (o : Option _). is_some o) (find-no (λ y. key y == n) x xs (eq-no (key x) n ne))

-- of numbers that are all greater or less none is found
pub none-found : {X : Type 0} (key : X → ℕ) (n : ℕ) (xs : List X) → All (λ y. key y ≢ n) xs → is_some (find (λ y. key y == n) xs) ≡ false
none-found key n [] other = refl
none-found {X} key n (x ∷ xs) other =
    found-behind key n x xs (All-head (λ (y : X). key y ≢ n) x xs other) ∙ none-found key n xs (All-tail (λ (y : X). key y ≢ n) x xs other)

-- the same of all elements where one of the numbers is found
pub all-found : {X : Type 0} (key : X → ℕ) (P : ℕ → Type 0) (xs : List X) (n : ℕ) → All (λ y. P (key y)) xs → is_some (find (λ y. key y == n) xs) ≡ true → P n
all-found key P [] n all e = absurd (cc e)
all-found {X} key P (x ∷ xs) n all e = by (key x == n) refl (λ rest. all-found key P xs n (All-tail (λ (y : X). P (key y)) x xs all) rest)
  where
    by : (b : Bool) → (key x == n) ≡ b → (is_some (find (λ y. key y == n) xs) ≡ true → P n) → P n
    by true is more = subst P (eq-is (key x) n is) (All-head (λ (y : X). P (key y)) x xs all)
    by false is more = more (sym (ap (λ (o : Option X). is_some o) (find-no (λ y. key y == n) x xs is)) ∙ e)

-- one more behind the others
pub found-last : {X : Type 0} (key : X → ℕ) (n : ℕ) (xs : List X) (x : X) → is_some (find (λ y. key y == n) (xs ++ x ∷ [])) ≡ (is_some (find (λ y. key y == n) xs) || (key x == n))
found-last key n [] x = by (key x == n) refl
  where
    by : (b : Bool) → (key x == n) ≡ b → is_some (find (λ y. key y == n) (x ∷ [])) ≡ (false || (key x == n))
    by true e = ap (λ (o : Option _). is_some o) (find-yes (λ y. key y == n) x [] e) ∙ sym e
    by false e = ap (λ (o : Option _). is_some o) (find-no (λ y. key y == n) x [] e) ∙ sym e
found-last {X} key n (y ∷ ys) x = by (key y == n) refl (found-last key n ys x)
  where
    by : (b : Bool) → (key y == n) ≡ b → is_some (find (λ z. key z == n) (ys ++ x ∷ [])) ≡ (is_some (find (λ z. key z == n) ys) || (key x == n))
        → is_some (find (λ z. key z == n) (y ∷ ys ++ x ∷ [])) ≡ (is_some (find (λ z. key z == n) (y ∷ ys)) || (key x == n))
    by true e rest =
        ap (λ (o : Option X). is_some o) (find-yes (λ z. key z == n) y (ys ++ x ∷ []) e)
        ∙ sym (ap (λ (o : Option X). is_some o || (key x == n)) (find-yes (λ z. key z == n) y ys e))
    by false e rest =
        ap (λ (o : Option X). is_some o) (find-no (λ z. key z == n) y (ys ++ x ∷ []) e)
        ∙ rest
        ∙ sym (ap (λ (o : Option X). is_some o || (key x == n)) (find-no (λ z. key z == n) y ys e))

-- ---- the nodes of a cluster

-- the first of the nodes that pass a test lies no higher than any of them
abbrev pub IsFoundUpTo : ℕ → Option NodeSpec → Type 0
IsFoundUpTo n None = ⊥
IsFoundUpTo n (Some s) = s.id ≤ n

pub found-up-to : (F : ℕ → Bool) (nodes : List NodeSpec) (n : ℕ) → AllPairs (λ a b. a.id < b.id) nodes → is_some (node_in nodes n) ≡ true → F n ≡ true
    → IsFoundUpTo n (find (λ s. F s.id) nodes)
found-up-to F [] n asc known e = absurd (cc known)
found-up-to F (x ∷ xs) n asc known e = by (F x.id) refl (λ rest. found-up-to F xs n (pairs-rest (λ a b. a.id < b.id) x xs asc) rest e)
  where
    later : All (λ s. x.id < s.id) xs
    later = pairs-first (λ a b. a.id < b.id) x xs asc

    low : (b : Bool) → (x.id == n) ≡ b → x.id ≤ n
    low true is = let same = eq-is x.id n is in omega (arith, same)
    low false is =
        let there : is_some (node_in xs n) ≡ true = sym (ap (λ (o : Option NodeSpec). is_some o) (find-no (λ s. s.id == n) x xs is)) ∙ known in
        let lt : x.id < n = all-found (λ (s : NodeSpec). s.id) (λ (k : ℕ). x.id < k) xs n later there in
        omega (arith, lt)

    other : F x.id ≡ false → x.id ≢ n
    other fails same = absurd (let passes : F x.id ≡ true = ap F same ∙ e in cc (fails, passes))

    by : (b : Bool) → F x.id ≡ b → (is_some (node_in xs n) ≡ true → IsFoundUpTo n (find (λ s. F s.id) xs)) → IsFoundUpTo n (find (λ s. F s.id) (x ∷ xs))
    by true is more = subst (IsFoundUpTo n) (sym (find-yes (λ s. F s.id) x xs is)) (low (x.id == n) refl)
    by false is more =
        subst (IsFoundUpTo n) (sym (find-no (λ s. F s.id) x xs is)) (more (sym (found-behind (λ (s : NodeSpec). s.id) n x xs (other is)) ∙ known))

-- rows that stand in the order of the nodes, one for each node that is to have one
module _ (q : ℕ → Bool) where
  abbrev pub Stands : List NodeRow → List NodeSpec → Type 0
  Stands rows nodes = (n : ℕ) → is_some (row_of rows n) ≡ (q n && is_some (node_in nodes n))

  above : {X : Type 0} (key : X → ℕ) (n m : ℕ) (xs : List X) → n < m → All (λ y. m < key y) xs → is_some (find (λ y. key y == n) xs) ≡ false
  above key n m xs lt all = none-found key n xs (λ k d in'. let gt = all k d in' in λ same. absurd (omega (arith, gt, lt, same)))

  here-above : {X : Type 0} (key : X → ℕ) (n : ℕ) (xs : List X) → All (λ y. n < key y) xs → is_some (find (λ y. key y == n) xs) ≡ false
  here-above key n xs all = none-found key n xs (λ k d in'. let gt = all k d in' in λ same. absurd (omega (arith, gt, same)))

  clash : {P : Type 0} (a : Bool) → a ≡ true → a ≡ false → P
  clash a e f = absurd (cc (e, f))

  pub rows-are : (nodes : List NodeSpec) (rows : List NodeRow) → AllPairs (λ a b. a.id < b.id) nodes → AllPairs (λ a b. a.node < b.node) rows → Stands rows nodes
      → map (λ row. row.node) rows ≡ map (λ node. node.id) (filter (λ node. q node.id) nodes)
  rows-are [] [] up along stands = refl
  rows-are [] (r ∷ rows) up along stands =
      clash (is_some (row_of (r ∷ rows) r.node)) (found-first (λ (x : NodeRow). x.node) r.node r rows refl) (stands r.node ∙ and-second (q r.node) false refl)
  rows-are (s ∷ nodes) rows up along stands =
      by (q s.id) refl rows along stands (λ rest. rows-are nodes rows (pairs-rest (λ a b. a.id < b.id) s nodes up) along rest)
      (λ fewer fewer_along rest. rows-are nodes fewer (pairs-rest (λ a b. a.id < b.id) s nodes up) fewer_along rest)
    where
      later : All (λ node. s.id < node.id) nodes
      later = pairs-first (λ a b. a.id < b.id) s nodes up

      Id : NodeSpec → ℕ
      Id node = node.id

      Own : NodeRow → ℕ
      Own row = row.node

      skip : (b : Bool) (n : ℕ) → (s.id == n) ≡ b → q s.id ≡ false → (q n && is_some (node_in (s ∷ nodes) n)) ≡ (q n && is_some (node_in nodes n))
      skip true n e fails =
          let none : q n ≡ false = ap q (sym (eq-is s.id n e)) ∙ fails in
          and-first (q n) (is_some (node_in (s ∷ nodes) n)) none ∙ sym (and-first (q n) (is_some (node_in nodes n)) none)
      skip false n e fails = ap (λ (o : Option NodeSpec). q n && is_some o) (find-no (λ node. node.id == n) s nodes e)

      Rest : List NodeRow → Type 0
      Rest fewer = AllPairs (λ a b. a.node < b.node) fewer → Stands fewer nodes → map (λ row. row.node) fewer ≡ map (λ node. node.id) (filter (λ node. q node.id) nodes)

      first : (r : NodeRow) (rs : List NodeRow) → q s.id ≡ true → AllPairs (λ a b. a.node < b.node) (r ∷ rs) → Stands (r ∷ rs) (s ∷ nodes) → Rest rs
          → (r.node < s.id) ⊎ (s.id ≤ r.node) → map (λ row. row.node) (r ∷ rs) ≡ map (λ node. node.id) (s ∷ filter (λ node. q node.id) nodes)
      first r rs passes asc st more (inl lt) =
          clash (is_some (row_of (r ∷ rs) r.node)) (found-first Own r.node r rs refl)
          (st r.node ∙ and-second (q r.node) (is_some (node_in (s ∷ nodes) r.node))
          (found-behind Id r.node s nodes (λ same. absurd (omega (arith, lt, same))) ∙ above Id r.node s.id nodes lt later))
      first r rs passes asc st more (inr ge) = same-or (cases_lt s.id r.node)
        where
          behind : All (λ x. r.node < x.node) rs
          behind = pairs-first (λ a b. a.node < b.node) r rs asc

          known : (q s.id && is_some (node_in (s ∷ nodes) s.id)) ≡ true
          known = and-yes (q s.id) (is_some (node_in (s ∷ nodes) s.id)) passes (found-first Id s.id s nodes refl)

          tail : (is : r.node ≡ s.id) (n : ℕ) (b : Bool) → (s.id == n) ≡ b → is_some (row_of rs n) ≡ (q n && is_some (node_in nodes n))
          tail is n true e =
              let at : s.id ≡ n = eq-is s.id n e in
              subst (λ (m : ℕ). is_some (row_of rs m) ≡ (q m && is_some (node_in nodes m))) at
              (subst (λ (m : ℕ). is_some (row_of rs m) ≡ false) is (here-above Own r.node rs behind) ∙ sym (and-second (q s.id) (is_some (node_in nodes s.id)) (here-above Id s.id nodes later)))
          tail is n false e =
              sym (found-behind Own n r rs (λ same. absurd (let no : (s.id == n) ≡ true = eq-yes s.id n (sym is ∙ same) in cc (no, e))))
              ∙ st n
              ∙ ap (λ (o : Option NodeSpec). q n && is_some o) (find-no (λ node. node.id == n) s nodes e)

          same-or : (s.id < r.node) ⊎ (r.node ≤ s.id) → map (λ row. row.node) (r ∷ rs) ≡ map (λ node. node.id) (s ∷ filter (λ node. q node.id) nodes)
          same-or (inl lt) =
              clash (is_some (row_of (r ∷ rs) s.id)) (st s.id ∙ known)
              (found-behind Own s.id r rs (λ same. absurd (omega (arith, lt, same))) ∙ above Own s.id r.node rs lt behind)
          same-or (inr le) =
              let is : r.node ≡ s.id = omega (arith, ge, le) in
              let rest = more (pairs-rest (λ a b. a.node < b.node) r rs asc) (λ n. tail is n (s.id == n) refl) in
              λ i. is i ∷ rest i

      by : (b : Bool) → q s.id ≡ b → (own : List NodeRow) → AllPairs (λ a b. a.node < b.node) own → Stands own (s ∷ nodes)
          → (Stands own nodes → map (λ row. row.node) own ≡ map (λ node. node.id) (filter (λ node. q node.id) nodes))
          → ((fewer : List NodeRow) → Rest fewer)
          → map (λ row. row.node) own ≡ map (λ node. node.id) (filter (λ node. q node.id) (s ∷ nodes))
      by false e own asc st skipped more =
          skipped (λ n. st n ∙ skip (s.id == n) n refl e) ∙ sym (ap (λ (l : List NodeSpec). map (λ node. node.id) l) (filter-no (λ node. q node.id) s nodes e))
      by true e [] asc st skipped more =
          clash (q s.id && is_some (node_in (s ∷ nodes) s.id)) (and-yes (q s.id) (is_some (node_in (s ∷ nodes) s.id)) e (found-first Id s.id s nodes refl)) (sym (st s.id))
      by true e (r ∷ rs) asc st skipped more =
          first r rs e asc st (more rs) (cases_lt r.node s.id) ∙ sym (ap (λ (l : List NodeSpec). map (λ node. node.id) l) (filter-yes (λ node. q node.id) s nodes e))
