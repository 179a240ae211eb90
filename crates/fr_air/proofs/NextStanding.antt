-- Who has a row and who follows behind a lawful cycle.
use Rattle.std.proofs.Common.{◌≡◌, ℕ, suc, ◌+◌, ◌*◌, ◌<◌, ◌≤◌, ◌==◌, Bool, true, false, ◌&&◌, ◌||◌, Option, Some, None, [], ◌∷◌, length, refl, ap, sym, ◌∙◌, arith}
use Rattle.std.specs.Prelude.{AllPairs, Contains, is_some}
use Rattle.std.proofs.lemmas.Bool.{and_parts}
use Rattle.std.proofs.lemmas.List.Kept.{AllPairs-filter}
use Rattle.fr_base.specs.declared.node_row.NodeRow.{NodeRow}
use Rattle.fr_cluster.specs.Sane.{IsSane}
use Rattle.fr_cluster.specs.Setting.{Setting, correct_nodes, is_correct}
use Rattle.fr_cluster.specs.Values.{Values}
use Rattle.fr_cluster.specs.declared.join.Join.{Join}
use Rattle.fr_cluster.specs.declared.nodes.NodeSpec.{NodeSpec}
use Rattle.fr_time.specs.Cycles.{is_odd}
use Rattle.fr_history.specs.History.{row_of}
use Rattle.fr_history.specs.Catching.{begins_with}
use Rattle.fr_history.specs.Cycles.{Cycle, Cycles}
use Rattle.fr_history.specs.Lawful.{IsLawful, Obeys}
use Rattle.fr_history.specs.Standing.{followed_well, follows, follows_by, has_row, has_row_by}
use Rattle.fr_history.proofs.Standing.{did_follow, followers_have_no_row, had_row, keeps, row_by_passing, same, stand_in_time}
use Rattle.fr_cluster.proofs.Elements.{filtered, kept_filtered}
use Rattle.fr_air.specs.NextStanding.{EvenCyclesStay, FollowersSucceed, JoiningNodesFollowed, RowsSucceed, beginning_nodes, begins_next, joins_next, stays_next}
use Rattle.fr_air.specs.Placing.{put_all}
use Rattle.fr_air.proofs.Placing.{filter_both, filter_same, parted}

-- ---- tests

same_tests : (a b : Bool) → (a ≡ true → b ≡ true) → (b ≡ true → a ≡ true) → a ≡ b
same_tests true true up down = refl
same_tests true false up down = sym (up refl)
same_tests false true up down = down refl
same_tests false false up down = refl

pub not_so : (b : Bool) → (b ≡ true → ⊥) → b ≡ false
not_so true never = absurd (never refl)
not_so false never = refl

or_swap : (a b : Bool) → (a || b) ≡ (b || a)
or_swap true true = refl
or_swap true false = refl
or_swap false true = refl
or_swap false false = refl

or_none : (a b : Bool) → b ≡ false → (a || b) ≡ a
or_none true b none = refl
or_none false b none = none

and_some : (a b : Bool) → b ≡ true → (a && b) ≡ a
and_some true b some = some
and_some false b some = refl

correct_ascend : (x : Setting) → IsSane x.params → AllPairs (λ (a : NodeSpec) (b : NodeSpec). a.id < b.id) (correct_nodes x)
correct_ascend x sane =
    AllPairs-filter (λ (a : NodeSpec) (b : NodeSpec). a.id < b.id) (λ (node : NodeSpec). is_correct x node.id) x.params.nodes sane.lists.nodes_ascend

-- ---- what a lawful cycle tells

pub told_has : (x : Setting) (h : Cycles) (c : Cycle) (node : NodeSpec) → Obeys x h c → Contains (correct_nodes x) node
    → is_some (row_of c.told.rows node.id) ≡ has_row x h node.id
unfolding keeps
told_has x h c node laws there =
    same_tests (is_some (row_of c.told.rows node.id)) (has_row x h node.id) (had_row x h c node.id laws)
    (row_by_passing (has_row x h) (correct_nodes x) c.told.rows node laws.told.clocks.nodes there)

pub told_follows : (x : Setting) (h : Cycles) (c : Cycle) (node : NodeSpec) → Obeys x h c → Contains (correct_nodes x) node
    → is_some (row_of c.followers node.id) ≡ follows x h node.id
unfolding keeps
told_follows x h c node laws there =
    same_tests (is_some (row_of c.followers node.id)) (follows x h node.id) (did_follow x h c node.id laws)
    (row_by_passing (follows x h) (correct_nodes x) c.followers node laws.followers.clocks.nodes there)

well_there : (p : Values) (c : Cycle) (h : Cycles) (o : Option NodeRow) → followed_well p c h o ≡ true → is_some o ≡ true
well_there p c h None is = absurd (cc)
well_there p c h (Some row) is = refl

-- what begins does so behind the double cycle in which it listened
pub begins_in : (x : Setting) (h : Cycles) (node : ℕ) (join : Join) → is_some (begins_with x h node join) ≡ true → length h ≡ 2 * join.double + 2
unfolding begins_with
begins_in x [] node join is = absurd (cc)
begins_in x (c ∷ []) node join is = absurd (cc)
begins_in x (odd ∷ even ∷ h) node join is = by_test (length h == 2 * join.double) refl
  where
    by_test : (b : Bool) → (length h == 2 * join.double) ≡ b → suc (suc (length h)) ≡ 2 * join.double + 2
    by_test true there = let two : length h ≡ 2 * join.double = same (length h) (2 * join.double) there in omega (arith, two)
    by_test false fails =
        let none : is_some (begins_with x (odd ∷ even ∷ h) node join) ≡ false = rw fails refl in
        let e : false ≡ true = sym none ∙ is in
        absurd (cc)

-- ---- whoever joins

-- a node that joins, with its row of the script
pub record Joins (x : Setting) (h : Cycles) (c : Cycle) (node : NodeSpec) : Type 0 where
  pub join : Join
  pub at : x.join node.id ≡ Some join
  pub now : suc (length h) ≡ 2 * join.double + 6
  pub followed : follows x h node.id ≡ true

pub joins_is : (x : Setting) (h : Cycles) (c : Cycle) (node : NodeSpec) → Obeys x h c → joins_next x (c ∷ h) node.id (x.join node.id) ≡ true → Joins x h c node
joins_is x h c node laws is = by_join (x.join node.id) refl
  where
    by_join : (join : Option Join) → x.join node.id ≡ join → Joins x h c node
    by_join None at =
        let e : false ≡ true = sym (ap (joins_next x (c ∷ h) node.id) at) ∙ is in
        absurd (cc)
    by_join (Some join) at =
        let both =
        and_parts (suc (length h) == 2 * join.double + 6) (followed_well x.params c h (row_of c.followers node.id)) (sym (ap (joins_next x (c ∷ h) node.id) at) ∙ is) in
        record {
          join = join;
          at = at;
          now = same (suc (length h)) (2 * join.double + 6) both.0;
          followed = did_follow x h c node.id laws (well_there x.params c h (row_of c.followers node.id) both.1);
        }

pub has_by : (x : Setting) (h : Cycles) (c : Cycle) (node : NodeSpec) → Obeys x h c → Contains (correct_nodes x) node → (join : Option Join) → x.join node.id ≡ join
    → has_row x (c ∷ h) node.id ≡ (has_row x h node.id || joins_next x (c ∷ h) node.id (x.join node.id))
has_by x h c node laws there None at =
    ap (has_row_by x (c ∷ h) node.id) at ∙ sym (ap (λ b. b || joins_next x (c ∷ h) node.id (x.join node.id)) (ap (has_row_by x h node.id) at))
has_by x h c node laws there (Some join) at =
    ap (has_row_by x (c ∷ h) node.id) at
    ∙ ap (λ b. b || joins_next x (c ∷ h) node.id (Some join)) (told_has x h c node laws there)
    ∙ sym (ap (λ j. has_row x h node.id || joins_next x (c ∷ h) node.id j) at)

pub rows_succeed : RowsSucceed
rows_succeed x h c sane lawful =
    parted (λ (node : NodeSpec). node.id) (λ (node : NodeSpec). has_row x (c ∷ h) node.id) (λ (node : NodeSpec). has_row x h node.id)
    (λ (node : NodeSpec). joins_next x (c ∷ h) node.id (x.join node.id)) (correct_nodes x) (correct_ascend x sane)
    (λ node there. has_by x h c node lawful.0 there (x.join node.id) refl)
    (λ node there had joins. followers_have_no_row x h node.id lawful.1 had (joins_is x h c node lawful.0 joins).followed)

pub joining_nodes_followed : JoiningNodesFollowed
joining_nodes_followed x h c node lawful among =
    let own = filtered (λ (n : NodeSpec). joins_next x (c ∷ h) n.id (x.join n.id)) (correct_nodes x) node among in
    let joins = joins_is x h c node lawful.0 own.1 in
    let now = joins.now in (
      kept_filtered (λ (n : NodeSpec). follows x h n.id) (correct_nodes x) node own.0 joins.followed,
      λ still.
          let does = (filtered (λ (n : NodeSpec). follows x (c ∷ h) n.id) (correct_nodes x) node still).1 in
          let to : suc (length h) ≤ 2 * joins.join.double + 5 = (stand_in_time x (c ∷ h) node.id joins.join lawful joins.at).follows_to does in
          omega (arith, now, to),
    )

-- ---- whoever follows

follows_as : (x : Setting) (h : Cycles) (c : Cycle) (node : NodeSpec) → Obeys x h c → Contains (correct_nodes x) node → (join : Option Join) → x.join node.id ≡ join
    → follows x (c ∷ h) node.id ≡ ((follows x h node.id && stays_next x (c ∷ h) node.id (x.join node.id)) || begins_next x (c ∷ h) node.id (x.join node.id))
follows_as x h c node laws there None at =
    ap (follows_by x (c ∷ h) node.id) at
    ∙ sym
    (
    ap (λ b. (b && stays_next x (c ∷ h) node.id (x.join node.id)) || begins_next x (c ∷ h) node.id (x.join node.id)) (ap (follows_by x h node.id) at)
    ∙ ap (begins_next x (c ∷ h) node.id) at
    )
follows_as x h c node laws there (Some join) at =
    let begins : Bool = is_some (begins_with x (c ∷ h) node.id join) in
    let stays : Bool = stays_next x (c ∷ h) node.id (Some join) in
    ap (follows_by x (c ∷ h) node.id) at
    ∙ or_swap begins (is_some (row_of c.followers node.id) && stays)
    ∙ ap (λ b. (b && stays) || begins) (told_follows x h c node laws there)
    ∙ sym (ap (λ j. (follows x h node.id && stays_next x (c ∷ h) node.id j) || begins_next x (c ∷ h) node.id j) at)

-- whoever begins did not follow before
begins_apart : (x : Setting) (h : Cycles) (c : Cycle) (node : NodeSpec) → IsLawful x h → follows x h node.id ≡ true → begins_next x (c ∷ h) node.id (x.join node.id) ≡ true → ⊥
begins_apart x h c node lawful does begins = by_join (x.join node.id) refl
  where
    by_join : (join : Option Join) → x.join node.id ≡ join → ⊥
    by_join None at =
        let e : false ≡ true = sym (ap (begins_next x (c ∷ h) node.id) at) ∙ begins in
        cc
    by_join (Some join) at =
        let at_end : suc (length h) ≡ 2 * join.double + 2 = begins_in x (c ∷ h) node.id join (sym (ap (begins_next x (c ∷ h) node.id) at) ∙ begins) in
        let from = (stand_in_time x h node.id join lawful at).follows_from does in
        omega (arith, at_end, from)

pub followers_succeed : FollowersSucceed
followers_succeed x h c sane lawful =
    let stays : NodeSpec → Bool = λ node. stays_next x (c ∷ h) node.id (x.join node.id) in
    let before : NodeSpec → Bool = λ node. follows x h node.id in
    parted (λ (node : NodeSpec). node.id) (λ (node : NodeSpec). follows x (c ∷ h) node.id) (λ node. before node && stays node)
    (λ (node : NodeSpec). begins_next x (c ∷ h) node.id (x.join node.id)) (correct_nodes x) (correct_ascend x sane)
    (λ node there. follows_as x h c node lawful.0 there (x.join node.id) refl)
    (λ node there went begins. begins_apart x h c node lawful.1 (and_parts (before node) (stays node) went).0 begins)
    ∙ ap (put_all (λ (node : NodeSpec). node.id) (beginning_nodes x (c ∷ h))) (filter_both before stays (correct_nodes x))

-- ---- behind an even cycle

odd_next : (n : ℕ) → is_odd n ≡ false → is_odd (suc n) ≡ true
odd_next n even = grind arith

not_even : (n d : ℕ) → is_odd n ≡ false → suc n ≡ 2 * d → ⊥
not_even n d even is = absurd (grind arith)

even_has : (x : Setting) (h : Cycles) (c : Cycle) (node : NodeSpec) → Obeys x h c → is_odd (length h) ≡ false → Contains (correct_nodes x) node → has_row x (c ∷ h) node.id ≡ has_row x h node.id
even_has x h c node laws even there =
    has_by x h c node laws there (x.join node.id) refl
    ∙ or_none (has_row x h node.id) (joins_next x (c ∷ h) node.id (x.join node.id))
    (
    not_so (joins_next x (c ∷ h) node.id (x.join node.id))
    (λ joins.
    let j = joins_is x h c node laws joins in
    let now = j.now in
    not_even (length h) (j.join.double + 3) even (omega (arith, now)))
    )

even_follows : (x : Setting) (h : Cycles) (c : Cycle) (node : NodeSpec) → Obeys x h c → is_odd (length h) ≡ false → Contains (correct_nodes x) node → (join : Option Join)
    → x.join node.id ≡ join → follows x (c ∷ h) node.id ≡ follows x h node.id
even_follows x h c node laws even there None at = ap (follows_by x (c ∷ h) node.id) at ∙ sym (ap (follows_by x h node.id) at)
even_follows x h c node laws even there (Some join) at =
    let begins : Bool = begins_next x (c ∷ h) node.id (x.join node.id) in
    let stays : Bool = stays_next x (c ∷ h) node.id (x.join node.id) in
    let goes : stays ≡ true =
    ap (stays_next x (c ∷ h) node.id) at ∙ ap (λ b. b || ((suc (length h) == 2 * join.double + 4) && followed_well x.params c h (row_of c.followers node.id))) (odd_next (length h) even) in
    let none : begins ≡ false =
    not_so begins
    (λ is.
    let at_end : suc (length h) ≡ 2 * join.double + 2 = begins_in x (c ∷ h) node.id join (sym (ap (begins_next x (c ∷ h) node.id) at) ∙ is) in
    not_even (length h) (join.double + 1) even (omega (arith, at_end))) in
    follows_as x h c node laws there (Some join) at ∙ or_none (follows x h node.id && stays) begins none ∙ and_some (follows x h node.id) stays goes

pub even_cycles_stay : EvenCyclesStay
even_cycles_stay x h c lawful even = (
  filter_same (λ (node : NodeSpec). has_row x (c ∷ h) node.id) (λ (node : NodeSpec). has_row x h node.id) (correct_nodes x)
      (λ node there. even_has x h c node lawful.0 even there),
  filter_same (λ (node : NodeSpec). follows x (c ∷ h) node.id) (λ (node : NodeSpec). follows x h node.id) (correct_nodes x)
      (λ node there. even_follows x h c node lawful.0 even there (x.join node.id) refl),
)
