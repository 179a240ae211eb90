-- Who has a row and who follows behind some cycles, by the rules of standing.
use Rattle.std.proofs.Common.{◌≡◌, ◌⊎◌, ℕ, suc, ◌+◌, ◌*◌, ◌%◌, ◌==◌, Bool, true, false, ◌&&◌, ◌||◌, if◌then◌else◌, Option, Some, None, List, [], ◌∷◌, filter, length, refl, ap, sym, ◌∙◌, inl, inr, arith}
use Rattle.std.specs.Prelude.{Contains, is_some}
use Rattle.std.proofs.lemmas.Bool.{and_parts}
use Rattle.fr_base.specs.declared.node_row.NodeRow.{NodeRow}
use Rattle.fr_cluster.specs.Setting.{Setting, correct_nodes}
use Rattle.fr_cluster.specs.Values.{Values}
use Rattle.fr_cluster.specs.declared.nodes.NodeSpec.{NodeSpec}
use Rattle.fr_time.specs.Cycles.{is_odd}
use Rattle.fr_history.specs.History.{AreRowsOf, row_of}
use Rattle.fr_history.specs.Catching.{begins_with}
use Rattle.fr_cluster.specs.declared.join.Join.{Join}
use Rattle.fr_history.specs.Cycles.{Cycle, Cycles}
use Rattle.fr_history.specs.Standing.{followed_well, following_nodes, follows, follows_by, goes_on, has_row, has_row_by}
use Rattle.fr_history.proofs.Standing.{either, equal, keeps, passes_by_row, row_by_passing, same}
use Rattle.fr_cluster.proofs.Elements.{Contains-here, Contains-there, filtered, kept_filtered}
use Rattle.fr_runs.proofs.Rows.{each_row, has_row as row_there}
use Rattle.fr_runs.specs.Gathered.{CycleRuns, followers_since, listened_by}

-- ---- tests

same_tests : (a b : Bool) → (a ≡ true → b ≡ true) → (b ≡ true → a ≡ true) → a ≡ b
same_tests true true up down = refl
same_tests true false up down = sym (up refl)
same_tests false true up down = down refl
same_tests false false up down = refl

pub not_so : (b : Bool) → (b ≡ true → ⊥) → b ≡ false
not_so true never = absurd (never refl)
not_so false never = refl

pub differs : (a b : ℕ) → (a ≡ b → ⊥) → (a == b) ≡ false
differs a b apart = not_so (a == b) (λ is. apart (same a b is))

pub neither : (a b : Bool) → (a || b) ≡ false → a ≡ false
neither true b is = is
neither false b is = refl

-- a row that is there, and a second way to it that is not open
no_more : (a now well : Bool) → now ≡ false → (a || (now && well)) ≡ a
no_more true now well is = refl
no_more false now well is = ap (λ b. b && well) is

and_true : (a : Bool) → (a && true) ≡ a
and_true true = refl
and_true false = refl

-- nothing begins, and what is there goes on
goes_by : (begins a odd more : Bool) → begins ≡ false → odd ≡ true → (begins || (a && (odd || more))) ≡ a
goes_by begins a odd more none is = ap (λ b. b || (a && (odd || more))) none ∙ ap (λ o. a && (o || more)) is ∙ and_true a

pub is_there : {X : Type 0} (o : Option X) → is_some o ≡ true → (y : X) × (o ≡ Some y)
is_there None is = absurd (cc)
is_there (Some y) is = (y, refl)

pub is_none : {X : Type 0} (o : Option X) → is_some o ≡ false → o ≡ None
is_none None is = refl
is_none (Some y) is = absurd (cc)

-- tests that agree on the elements of a list keep the same ones
pub filter_same : {X : Type 0} (f g : X → Bool) (xs : List X) → ((x : X) → Contains xs x → f x ≡ g x) → filter f xs ≡ filter g xs
filter_same f g [] agree = refl
filter_same f g (x ∷ xs) agree =
    ap (λ b. if b then x ∷ filter f xs else filter f xs) (agree x (Contains-here x xs))
    ∙ ap (λ ys. if g x then x ∷ ys else ys) (filter_same f g xs (λ y among. agree y (Contains-there x xs y among)))

-- ---- the rows of a cycle are those of the nodes that have one, and its followers those that follow

row_tells : (test : ℕ → Bool) (nodes : List NodeSpec) (rows : List NodeRow) (node : NodeSpec) → AreRowsOf (filter (λ (n : NodeSpec). test n.id) nodes) rows → Contains nodes node
    → is_some (row_of rows node.id) ≡ test node.id
unfolding keeps
row_tells test nodes rows node are there =
    same_tests (is_some (row_of rows node.id)) (test node.id) (passes_by_row test nodes rows node.id are) (row_by_passing test nodes rows node are there)

pub told_has : (x : Setting) (h : Cycles) (c : Cycle) (node : NodeSpec) → CycleRuns x h c → Contains (correct_nodes x) node → is_some (row_of c.told.rows node.id) ≡ has_row x h node.id
told_has x h c node runs there = row_tells (has_row x h) (correct_nodes x) c.told.rows node runs.rows.nodes there

pub told_follows : (x : Setting) (h : Cycles) (c : Cycle) (node : NodeSpec) → CycleRuns x h c → Contains (correct_nodes x) node → is_some (row_of c.followers node.id) ≡ follows x h node.id
told_follows x h c node runs there = row_tells (follows x h) (correct_nodes x) c.followers node runs.followers.nodes there

-- ---- when a node begins to follow, and when it goes on

begins_in : (x : Setting) (h : Cycles) (node : ℕ) (join : Join) → is_some (begins_with x h node join) ≡ true → length h ≡ 2 * join.double + 2
unfolding begins_with
begins_in x [] node join is = absurd (cc)
begins_in x (c ∷ []) node join is = absurd (cc)
begins_in x (odd ∷ even ∷ h) node join is = by_test (length h == 2 * join.double) refl
  where
    by_test : (b : Bool) → (length h == 2 * join.double) ≡ b → suc (suc (length h)) ≡ 2 * join.double + 2
    by_test true there = let two : length h ≡ 2 * join.double = same (length h) (2 * join.double) there in omega (arith, two)
    by_test false fails =
        let none : is_some (begins_with x (odd ∷ even ∷ h) node join) ≡ false = rw fails refl in
        let e : false ≡ true = sym none ∙ is in
        absurd (cc)

-- behind whole double cycles a node goes on only into its second one
second_in : (x : Setting) (h : Cycles) (node : ℕ) (join : Join) (k : ℕ) → length h ≡ 2 * k → goes_on x h node join ≡ true → k ≡ join.double + 2
second_in x [] node join k counted goes = absurd (cc)
second_in x (c ∷ h) node join k counted goes =
    let now : Bool = suc (length h) == 2 * join.double + 4 in
    let well : Bool = followed_well x.params c h (row_of c.followers node) in
    let both = and_parts (is_some (row_of c.followers node)) (is_odd (suc (length h)) || (now && well)) goes in
    elim (either (is_odd (suc (length h))) (now && well) both.1) [
      | inl odd ↦
          let rest : suc (length h) % 2 ≡ 1 = same (suc (length h) % 2) 1 odd in
          absurd (omega (arith, counted, rest))
      | inr second ↦
          let here : suc (length h) ≡ 2 * join.double + 4 = same (suc (length h)) (2 * join.double + 4) (and_parts now well second).0 in
          omega (arith, counted, here)
    ]

-- so behind whole double cycles it follows for the first or for the second time
pub how_follows : (x : Setting) (h : Cycles) (node : ℕ) (join : Join) (k : ℕ) → length h ≡ 2 * k → follows_by x h node (Some join) ≡ true
    → ((is_some (begins_with x h node join) ≡ true) × (k ≡ join.double + 1)) ⊎ ((goes_on x h node join ≡ true) × (k ≡ join.double + 2))
how_follows x h node join k counted is = elim (either (is_some (begins_with x h node join)) (goes_on x h node join) is) [
  | inl begins ↦ let at = begins_in x h node join begins in inl (begins, omega (arith, counted, at))
  | inr goes ↦ inr (goes, second_in x h node join k counted goes)
]

-- whoever followed well did follow
pub well_follows : (p : Values) (c : Cycle) (h : Cycles) (o : Option NodeRow) → followed_well p c h o ≡ true → is_some o ≡ true
well_follows p c h None well = absurd (cc)
well_follows p c h (Some row) well = refl

-- whoever goes on followed
pub goes_from : (x : Setting) (c : Cycle) (h : Cycles) (node : ℕ) (join : Join) → goes_on x (c ∷ h) node join ≡ true → is_some (row_of c.followers node) ≡ true
goes_from x c h node join goes =
    let further : Bool = is_odd (suc (length h)) || ((suc (length h) == 2 * join.double + 4) && followed_well x.params c h (row_of c.followers node)) in
    (and_parts (is_some (row_of c.followers node)) further goes).0

-- whoever has no row had none
pub had_none : (x : Setting) (h : Cycles) (c : Cycle) (node : ℕ) (join : Join) → x.join node ≡ Some join → has_row x (c ∷ h) node ≡ false → is_some (row_of c.told.rows node) ≡ false
had_none x h c node join at none =
    neither (is_some (row_of c.told.rows node)) ((suc (length h) == 2 * join.double + 6) && followed_well x.params c h (row_of c.followers node))
    (sym (ap (has_row_by x (c ∷ h) node) at) ∙ none)

-- ---- within a double cycle all stays

pub has_stays : (x : Setting) (h : Cycles) (c : Cycle) (double : ℕ) (node : NodeSpec) → length h ≡ 2 * double → CycleRuns x h c → Contains (correct_nodes x) node
    → has_row x (c ∷ h) node.id ≡ has_row x h node.id
has_stays x h c double node counted runs there = by_join (x.join node.id) refl
  where
    by_join : (join : Option Join) → x.join node.id ≡ join → has_row x (c ∷ h) node.id ≡ has_row x h node.id
    by_join None at = ap (has_row_by x (c ∷ h) node.id) at ∙ sym (ap (has_row_by x h node.id) at)
    by_join (Some join) at =
        let never : suc (length h) ≡ 2 * join.double + 6 → ⊥ = λ is. omega (arith, counted, is) in
        ap (has_row_by x (c ∷ h) node.id) at
        ∙ no_more (is_some (row_of c.told.rows node.id)) (suc (length h) == 2 * join.double + 6) (followed_well x.params c h (row_of c.followers node.id))
        (differs (suc (length h)) (2 * join.double + 6) never)
        ∙ told_has x h c node runs there

pub follows_stays : (x : Setting) (h : Cycles) (c : Cycle) (double : ℕ) (node : NodeSpec) → length h ≡ 2 * double → CycleRuns x h c → Contains (correct_nodes x) node
    → follows x (c ∷ h) node.id ≡ follows x h node.id
follows_stays x h c double node counted runs there = by_join (x.join node.id) refl
  where
    by_join : (join : Option Join) → x.join node.id ≡ join → follows x (c ∷ h) node.id ≡ follows x h node.id
    by_join None at = ap (follows_by x (c ∷ h) node.id) at ∙ sym (ap (follows_by x h node.id) at)
    by_join (Some join) at =
        let never : is_some (begins_with x (c ∷ h) node.id join) ≡ true → ⊥ = λ is. (let in_ = begins_in x (c ∷ h) node.id join is in omega (arith, counted, in_)) in
        let rest : suc (length h) % 2 ≡ 1 = omega (arith, counted) in
        ap (follows_by x (c ∷ h) node.id) at
        ∙ goes_by (is_some (begins_with x (c ∷ h) node.id join)) (is_some (row_of c.followers node.id)) (is_odd (suc (length h)))
        ((suc (length h) == 2 * join.double + 4) && followed_well x.params c h (row_of c.followers node.id))
        (not_so (is_some (begins_with x (c ∷ h) node.id join)) never) (equal (suc (length h) % 2) 1 rest)
        ∙ told_follows x h c node runs there

-- ---- the followers of a double cycle

-- a node follows in a double cycle, and listened so many double cycles before
pub record Follower (x : Setting) (h : Cycles) (ago double : ℕ) (node : NodeSpec) : Type 0 where
  pub join : Join
  pub joins : x.join node.id ≡ Some join
  pub correct : Contains (correct_nodes x) node
  pub does : follows_by x h node.id (Some join) ≡ true
  pub since : join.double + ago ≡ double

pub follower_of : (x : Setting) (h : Cycles) (ago double : ℕ) (node : NodeSpec) → Contains (followers_since x h ago double) node → Follower x h ago double node
follower_of x h ago double node among =
    let parts = filtered (λ (n : NodeSpec). listened_by (x.join n.id) ago double) (following_nodes x h) node among in
    let own = filtered (λ (n : NodeSpec). follows x h n.id) (correct_nodes x) node parts.0 in
    by_join own.0 own.1 parts.1 (x.join node.id) refl
  where
    by_join : Contains (correct_nodes x) node → follows x h node.id ≡ true → listened_by (x.join node.id) ago double ≡ true
        → (join : Option Join) → x.join node.id ≡ join → Follower x h ago double node
    by_join there does listened None at =
        let e : false ≡ true = sym (ap (λ j. listened_by j ago double) at) ∙ listened in
        absurd (cc)
    by_join there does listened (Some join) at = record {
      join = join;
      joins = at;
      correct = there;
      does = sym (ap (follows_by x h node.id) at) ∙ does;
      since = same (join.double + ago) double (sym (ap (λ j. listened_by j ago double) at) ∙ listened);
    }

pub is_follower : (x : Setting) (h : Cycles) (ago double : ℕ) (node : NodeSpec) (join : Join) → x.join node.id ≡ Some join → Contains (correct_nodes x) node → follows x h node.id ≡ true
    → join.double + ago ≡ double → Contains (followers_since x h ago double) node
is_follower x h ago double node join at there does since =
    kept_filtered (λ (n : NodeSpec). listened_by (x.join n.id) ago double) (following_nodes x h) node
    (kept_filtered (λ (n : NodeSpec). follows x h n.id) (correct_nodes x) node there does)
    (ap (λ j. listened_by j ago double) at ∙ equal (join.double + ago) double since)

-- a node that follows has no row
pub apart_at : (x : Setting) (h : Cycles) (c : Cycle) (node : NodeSpec) → CycleRuns x h c → Contains (correct_nodes x) node → follows x h node.id ≡ true → has_row x h node.id ≡ false
apart_at x h c node runs there does =
    let among = kept_filtered (λ (n : NodeSpec). follows x h n.id) (correct_nodes x) node there does in
    let row = row_there (following_nodes x h) c.followers node runs.followers.nodes among in
    let none : row_of c.told.rows node.id ≡ None =
    ap (row_of c.told.rows) (sym row.number) ∙ each_row (following_nodes x h) c.followers (λ (r : NodeRow). row_of c.told.rows r.node ≡ None) node runs.followers.nodes among runs.apart in
    sym (told_has x h c node runs there) ∙ ap (λ (o : Option NodeRow). is_some o) none
