-- When a node that joins has a row, and when it follows.
use Rattle.std.proofs.Common.{◌≡◌, ◌⊎◌, ℕ, suc, ◌+◌, ◌*◌, ◌%◌, ◌≤◌, ◌==◌, Bool, true, false, ◌&&◌, ◌||◌, Option, Some, None, List, [], ◌∷◌, filter, map, length, refl, ap, sym, ◌∙◌, inl, inr, arith}
use Rattle.std.specs.Prelude.{Contains, is_some}
use Rattle.std.proofs.lemmas.Bool.{and_parts, or_left, or_right}
use Rattle.fr_base.specs.declared.node_row.NodeRow.{NodeRow}
use Rattle.fr_cluster.specs.Setting.{Setting, correct_nodes}
use Rattle.fr_cluster.specs.declared.nodes.NodeSpec.{NodeSpec}
use Rattle.fr_cluster.proofs.KeyNodes.{Contains-cons_cases}
use Rattle.fr_time.specs.Cycles.{is_odd}
use Rattle.fr_history.specs.History.{AreRowsOf, row_of}
use Rattle.fr_history.specs.Catching.{begins_with}
use Rattle.fr_cluster.specs.declared.join.Join.{Join}
use Rattle.fr_history.specs.Cycles.{Cycle, Cycles}
use Rattle.fr_history.specs.Joining.{FollowersHaveNoRow, JoiningNodesStandInTime, RowsStay}
use Rattle.fr_history.specs.Lawful.{IsLawful, Obeys}
use Rattle.fr_history.specs.Standing.{followed_well, follows, follows_by, goes_on, has_joined_after, has_row, has_row_by}

-- ---- tests

pub either : (a b : Bool) → (a || b) ≡ true → (a ≡ true) ⊎ (b ≡ true)
either true b is = inl refl
either false b is = inr is

pub equal : (a b : ℕ) → a ≡ b → (a == b) ≡ true
equal a b is = grind arith

pub same : (a b : ℕ) → (a == b) ≡ true → a ≡ b
same a b is = grind arith

-- ---- the rows of the nodes that pass a test are those of nodes that pass it

-- a number is one of some numbers
is_among : ℕ → List ℕ → Bool
is_among node [] = false
is_among node (id ∷ ids) = (id == node) || is_among node ids

has_among : (rows : List NodeRow) (node : ℕ) → is_some (row_of rows node) ≡ is_among node (map (λ (row : NodeRow). row.node) rows)
unfolding is_among
has_among [] node = refl
has_among (row ∷ rows) node = by_test (row.node == node) refl (has_among rows node)
  where
    by_test : (b : Bool) → (row.node == node) ≡ b → is_some (row_of rows node) ≡ is_among node (map (λ (r : NodeRow). r.node) rows)
        → is_some (row_of (row ∷ rows) node) ≡ is_among node (map (λ (r : NodeRow). r.node) (row ∷ rows))
    by_test true is rest = rw is refl
    by_test false is rest = rw is rest

ids_of : List NodeSpec → List ℕ
ids_of nodes = map (λ (node : NodeSpec). node.id) nodes

unfoldable pub keeps : (ℕ → Bool) → NodeSpec → Bool
keeps test node = test node.id

passes_among : (test : ℕ → Bool) (nodes : List NodeSpec) (node : ℕ) → is_among node (ids_of (filter (keeps test) nodes)) ≡ true → test node ≡ true
unfolding is_among ids_of keeps
passes_among test [] node is = absurd (cc)
passes_among test (spec ∷ nodes) node is = by_test (test spec.id) refl (passes_among test nodes node)
  where
    by_test : (b : Bool) → test spec.id ≡ b → (is_among node (ids_of (filter (keeps test) nodes)) ≡ true → test node ≡ true) → test node ≡ true
    by_test true passes rest =
        let all : filter (keeps test) (spec ∷ nodes) ≡ spec ∷ filter (keeps test) nodes = rw passes refl in
        let found : is_among node (spec.id ∷ ids_of (filter (keeps test) nodes)) ≡ true = sym (ap (λ specs. is_among node (ids_of specs)) all) ∙ is in
        elim (either (spec.id == node) (is_among node (ids_of (filter (keeps test) nodes))) found) [
          | inl one ↦ ap test (sym (same spec.id node one)) ∙ passes
          | inr more ↦ rest more
        ]
    by_test false fails rest =
        let all : filter (keeps test) (spec ∷ nodes) ≡ filter (keeps test) nodes = rw fails refl in
        rest (sym (ap (λ specs. is_among node (ids_of specs)) all) ∙ is)

among_later : (node n : ℕ) (ids : List ℕ) → is_among node ids ≡ true → is_among node (n ∷ ids) ≡ true
unfolding is_among
among_later node n ids is = or_right (n == node) (is_among node ids) is

among_passes : (test : ℕ → Bool) (nodes : List NodeSpec) (node : NodeSpec) → Contains nodes node → test node.id ≡ true → is_among node.id (ids_of (filter (keeps test) nodes)) ≡ true
unfolding is_among ids_of keeps
among_passes test [] node there passes = absurd (omega (arith, there.1))
among_passes test (spec ∷ nodes) node there passes = by_test (test spec.id) refl (λ more. among_passes test nodes node more passes)
  where
    by_test : (b : Bool) → test spec.id ≡ b → (Contains nodes node → is_among node.id (ids_of (filter (keeps test) nodes)) ≡ true)
        → is_among node.id (ids_of (filter (keeps test) (spec ∷ nodes))) ≡ true
    by_test true own rest =
        let all : filter (keeps test) (spec ∷ nodes) ≡ spec ∷ filter (keeps test) nodes = rw own refl in
        ap (λ specs. is_among node.id (ids_of specs)) all
        ∙ elim (Contains-cons_cases spec nodes node there) [
          | inl first ↦ or_left (spec.id == node.id) (is_among node.id (ids_of (filter (keeps test) nodes))) (equal spec.id node.id (ap (λ (n : NodeSpec). n.id) first))
          | inr more ↦ among_later node.id spec.id (ids_of (filter (keeps test) nodes)) (rest more)
        ]
    by_test false fails rest =
        let all : filter (keeps test) (spec ∷ nodes) ≡ filter (keeps test) nodes = rw fails refl in
        ap (λ specs. is_among node.id (ids_of specs)) all
        ∙ elim (Contains-cons_cases spec nodes node there) [
          | inl first ↦
              let own : test spec.id ≡ true = ap (λ (n : NodeSpec). test n.id) first ∙ passes in
              let e : false ≡ true = sym fails ∙ own in
              absurd (cc)
          | inr more ↦ rest more
        ]

-- a node whose row is there passes the test, and the other way round
pub passes_by_row : (test : ℕ → Bool) (nodes : List NodeSpec) (rows : List NodeRow) (node : ℕ) → AreRowsOf (filter (keeps test) nodes) rows → is_some (row_of rows node) ≡ true → test node ≡ true
unfolding ids_of
passes_by_row test nodes rows node are is =
    passes_among test nodes node (sym (ap (is_among node) are) ∙ sym (has_among rows node) ∙ is)

pub row_by_passing : (test : ℕ → Bool) (nodes : List NodeSpec) (rows : List NodeRow) (node : NodeSpec) → AreRowsOf (filter (keeps test) nodes) rows → Contains nodes node → test node.id ≡ true
    → is_some (row_of rows node.id) ≡ true
unfolding ids_of
row_by_passing test nodes rows node are there passes =
    has_among rows node.id ∙ ap (is_among node.id) are ∙ among_passes test nodes node there passes

-- ---- whoever has a row, or follows, in a lawful cycle

pub had_row : (x : Setting) (h : Cycles) (c : Cycle) (node : ℕ) → Obeys x h c → is_some (row_of c.told.rows node) ≡ true → has_row x h node ≡ true
unfolding keeps
had_row x h c node laws is = passes_by_row (has_row x h) (correct_nodes x) c.told.rows node laws.told.clocks.nodes is

pub did_follow : (x : Setting) (h : Cycles) (c : Cycle) (node : ℕ) → Obeys x h c → is_some (row_of c.followers node) ≡ true → follows x h node ≡ true
unfolding keeps
did_follow x h c node laws is = passes_by_row (follows x h) (correct_nodes x) c.followers node laws.followers.clocks.nodes is

-- ---- when

rows_from : (x : Setting) (h : Cycles) (node : ℕ) (join : Join) → IsLawful x h → x.join node ≡ Some join → has_joined_after x h node join ≡ true → 2 * join.double + 6 ≤ length h
rows_from x [] node join lawful at is = absurd (cc)
rows_from x (c ∷ h) node join lawful at is =
    let now : Bool = suc (length h) == 2 * join.double + 6 in
    let well : Bool = followed_well x.params c h (row_of c.followers node) in
    elim (either (is_some (row_of c.told.rows node)) (now && well) is) [
      | inl had ↦
          let before : has_joined_after x h node join ≡ true = sym (ap (has_row_by x h node) at) ∙ had_row x h c node lawful.0 had in
          let from = rows_from x h node join lawful.1 at before in
          omega (arith, from)
      | inr begins ↦
          let here : suc (length h) ≡ 2 * join.double + 6 = same (suc (length h)) (2 * join.double + 6) (and_parts now well begins).0 in
          omega (arith, here)
    ]

-- the numbers of the cycles in which a node may follow
record IsBetween (double n : ℕ) : Type 0 where
  from : 2 * double + 2 ≤ n
  to : n ≤ 2 * double + 5

begins_at : (x : Setting) (h : Cycles) (node : ℕ) (join : Join) → is_some (begins_with x h node join) ≡ true → IsBetween join.double (length h)
unfolding begins_with
begins_at x [] node join is = absurd (cc)
begins_at x (c ∷ []) node join is = absurd (cc)
begins_at x (odd ∷ even ∷ h) node join is = by_test (length h == 2 * join.double) refl
  where
    by_test : (b : Bool) → (length h == 2 * join.double) ≡ b → IsBetween join.double (suc (suc (length h)))
    by_test true there =
        let two : length h ≡ 2 * join.double = same (length h) (2 * join.double) there in
        record { from = omega (arith, two); to = omega (arith, two) }
    by_test false fails =
        let none : is_some (begins_with x (odd ∷ even ∷ h) node join) ≡ false = rw fails refl in
        let e : false ≡ true = sym none ∙ is in
        absurd (cc)

-- one cycle later, within a double cycle or at the start of the second one
one_later : (double n : ℕ) → IsBetween double n → (is_odd (suc n) ≡ true) ⊎ (suc n ≡ 2 * double + 4) → IsBetween double (suc n)
one_later double n between (inl odd) =
    let from = between.from in
    let to = between.to in
    let rest : suc n % 2 ≡ 1 = same (suc n % 2) 1 odd in
    record { from = omega (arith, from); to = omega (arith, to, rest) }
one_later double n between (inr here) = record { from = omega (arith, here); to = omega (arith, here) }

follows_between : (x : Setting) (h : Cycles) (node : ℕ) (join : Join) → IsLawful x h → x.join node ≡ Some join → follows_by x h node (Some join) ≡ true → IsBetween join.double (length h)
follows_between x [] node join lawful at is = elim (either (is_some (begins_with x [] node join)) (goes_on x [] node join) is) [
  | inl begins ↦ begins_at x [] node join begins
  | inr goes ↦ absurd (cc)
]
follows_between x (c ∷ h) node join lawful at is = elim (either (is_some (begins_with x (c ∷ h) node join)) (goes_on x (c ∷ h) node join) is) [
  | inl begins ↦ begins_at x (c ∷ h) node join begins
  | inr goes ↦
      let well : Bool = followed_well x.params c h (row_of c.followers node) in
      let now : Bool = suc (length h) == 2 * join.double + 4 in
      let both = and_parts (is_some (row_of c.followers node)) (is_odd (suc (length h)) || (now && well)) goes in
      let before : follows_by x h node (Some join) ≡ true = sym (ap (follows_by x h node) at) ∙ did_follow x h c node lawful.0 both.0 in
      one_later join.double (length h) (follows_between x h node join lawful.1 at before)
      (
      elim (either (is_odd (suc (length h))) (now && well) both.1) [
        | inl odd ↦ inl odd
        | inr second ↦ inr (same (suc (length h)) (2 * join.double + 4) (and_parts now well second).0)
      ]
      )
]

pub stand_in_time : JoiningNodesStandInTime
stand_in_time x h node join lawful at =
    let following = λ (is : follows x h node ≡ true). follows_between x h node join lawful at (sym (ap (follows_by x h node) at) ∙ is) in
    record {
      row_from = λ is. rows_from x h node join lawful at (sym (ap (has_row_by x h node) at) ∙ is);
      follows_from = λ is. (following is).from;
      follows_to = λ is. (following is).to;
    }

-- ---- what follows

pub followers_have_no_row : FollowersHaveNoRow
followers_have_no_row x h node lawful has follow = by_join (x.join node) refl
  where
    by_join : (join : Option Join) → x.join node ≡ join → ⊥
    by_join None at =
        let none : follows x h node ≡ false = ap (follows_by x h node) at in
        let e : false ≡ true = sym none ∙ follow in
        cc
    by_join (Some join) at =
        let stands = stand_in_time x h node join lawful at in
        let from = stands.row_from has in
        let to = stands.follows_to follow in
        omega (arith, from, to)

pub rows_stay : RowsStay
unfolding keeps
rows_stay x h c node laws there has = by_join (x.join node.id) refl
  where
    by_join : (join : Option Join) → x.join node.id ≡ join → has_row x (c ∷ h) node.id ≡ true
    by_join None at = ap (has_row_by x (c ∷ h) node.id) at
    by_join (Some join) at =
        let row : is_some (row_of c.told.rows node.id) ≡ true = row_by_passing (has_row x h) (correct_nodes x) c.told.rows node laws.told.clocks.nodes there has in
        ap (has_row_by x (c ∷ h) node.id) at
        ∙ or_left (is_some (row_of c.told.rows node.id)) ((suc (length h) == 2 * join.double + 6) && followed_well x.params c h (row_of c.followers node.id)) row
