-- Who has a row, who follows and who listens as an even cycle begins are those of the run, by who did in the cycle before.
use Rattle.std.proofs.Common.{◌≡◌, ℕ, suc, ◌+◌, ◌-◌, ◌*◌, ◌/◌, ◌==◌, nat_lt, Bool, true, false, cond, ◌&&◌, ◌||◌, Option, Some, None, List, [], ◌∷◌, filter, map, length, refl, ap, ap₂, sym, ◌∙◌, arith, if◌then◌else◌}
use Rattle.std.specs.Prelude.{Contains, is_some, option_and_then}
use Rattle.std.specs.List.{cons_option, filter_map}
use Rattle.std.specs.Option.{option_map}
use Rattle.fr_base.specs.declared.node_row.NodeRow.{NodeRow}
use Rattle.fr_cluster.specs.Questions.{own_key}
use Rattle.fr_cluster.specs.Sane.{IsSane}
use Rattle.fr_cluster.specs.Setting.{Setting, correct_nodes}
use Rattle.fr_cluster.specs.declared.join.Join.{Join}
use Rattle.fr_cluster.specs.declared.nodes.NodeSpec.{NodeSpec}
use Rattle.fr_cluster.proofs.Elements.{Contains-here, Contains-there, filtered}
use Rattle.fr_time.specs.Cycles.{is_odd}
use Rattle.fr_node.specs.Cycle.{as_joined}
use Rattle.fr_node.specs.Listening.{ListenerView, first_of, follower_by, listening}
use Rattle.fr_node.specs.View.{NodeView}
use Rattle.fr_reception.specs.Listening.{Caught}
use Rattle.fr_history.specs.History.{row_of}
use Rattle.fr_history.proofs.Lists.{map-map}
use Rattle.fr_history.specs.Catching.{begins_with, caught_by_slot}
use Rattle.fr_history.specs.Cycles.{Cycle, Cycles}
use Rattle.fr_history.specs.Lawful.{IsLawful}
use Rattle.fr_history.specs.Standing.{followed_well, following_nodes, follows, has_row, row_nodes}
use Rattle.fr_correct.specs.Terms.{are_uncut}
use Rattle.fr_history.proofs.Standing.{followers_have_no_row}
use Rattle.fr_air.specs.Listeners.{Caughts, catches_after, catches_of, listening_nodes, listens_in, no_catches}
use Rattle.fr_air.specs.Nodes.{outcomes_after}
use Rattle.fr_air.specs.Placing.{put, put_all}
use Rattle.fr_air.specs.NextStanding.{beginning_nodes, begins_next, joining_nodes, joins_next, staying_nodes, stays_next}
use Rattle.fr_air.specs.Views.{followers_of_next, listener_of_next, listener_with, listeners_of_next, node_of_next, nodes_of_next, reference_slot}
use Rattle.fr_air.proofs.Nodes.{followers_are_steady, is_none}
use Rattle.fr_air.proofs.Placing.{filter_same}
use Rattle.fr_air.proofs.NextStanding.{followers_succeed, not_so, rows_succeed, told_follows, told_has}
use Rattle.fr_air.proofs.Views.{followers_begin, joining_nodes_are_joined, listeners_come_first}
use Rattle.fr_world.specs.Standing.{followers_kept, listener_kept, nodes_kept}
use Rattle.fr_world.specs.Succeeding.{goes_in, joins_in, listener_by}

-- ---- lists

map_same_in : {X Y : Type 0} (f g : X → Y) (xs : List X) → ((x : X) → Contains xs x → f x ≡ g x) → map f xs ≡ map g xs
map_same_in f g [] same = refl
map_same_in f g (x ∷ xs) same = ap₂ (λ y ys. y ∷ ys) (same x (Contains-here x xs)) (map_same_in f g xs (λ y is. same y (Contains-there x xs y is)))

pub filter_map_same : {X Y : Type 0} (f g : X → Option Y) (xs : List X) → ((x : X) → Contains xs x → f x ≡ g x) → filter_map f xs ≡ filter_map g xs
filter_map_same f g [] same = refl
filter_map_same f g (x ∷ xs) same = ap₂ cons_option (same x (Contains-here x xs)) (filter_map_same f g xs (λ y is. same y (Contains-there x xs y is)))

-- what passes of mapped elements
filter-map : {X Y : Type 0} (p : Y → Bool) (f : X → Y) (xs : List X) → filter p (map f xs) ≡ map f (filter (λ x. p (f x)) xs)
filter-map p f [] = refl
filter-map p f (x ∷ xs) = by (p (f x)) (filter-map p f xs)
  where
    by : (b : Bool) → filter p (map f xs) ≡ map f (filter (λ y. p (f y)) xs) → cond b (f x ∷ filter p (map f xs)) (filter p (map f xs)) ≡ map f (cond b (x ∷ filter (λ y. p (f y)) xs) (filter (λ y. p (f y)) xs))
    by true rest = ap (λ ys. f x ∷ ys) rest
    by false rest = rest

-- what is put among mapped elements
put-map : {X Y : Type 0} (number : Y → ℕ) (f : X → Y) (x : X) (xs : List X) → put number (f x) (map f xs) ≡ map f (put (λ y. number (f y)) x xs)
put-map number f x [] = refl
put-map number f x (y ∷ ys) = by (nat_lt (number (f x)) (number (f y))) (put-map number f x ys)
  where
    by : (b : Bool) → put number (f x) (map f ys) ≡ map f (put (λ z. number (f z)) x ys)
        → cond b (f x ∷ f y ∷ map f ys) (f y ∷ put number (f x) (map f ys)) ≡ map f (cond b (x ∷ y ∷ ys) (y ∷ put (λ z. number (f z)) x ys))
    by true rest = refl
    by false rest = ap (λ zs. f y ∷ zs) rest

put_all-map : {X Y : Type 0} (number : Y → ℕ) (f : X → Y) (xs ys : List X) → put_all number (map f xs) (map f ys) ≡ map f (put_all (λ y. number (f y)) xs ys)
put_all-map number f [] ys = refl
put_all-map number f (x ∷ xs) ys = ap (put_all number (map f xs)) (put-map number f x ys) ∙ put_all-map number f xs (put (λ y. number (f y)) x ys)

-- one after the other, or both at once
filter_map-twice : {X Y Z : Type 0} (f : Y → Option Z) (g : X → Option Y) (xs : List X) → filter_map f (filter_map g xs) ≡ filter_map (λ x. option_and_then f (g x)) xs
filter_map-twice f g [] = refl
filter_map-twice f g (x ∷ xs) = by (g x) (filter_map-twice f g xs)
  where
    by : (o : Option _) → filter_map f (filter_map g xs) ≡ filter_map (λ y. option_and_then f (g y)) xs → filter_map f (cons_option o (filter_map g xs)) ≡ cons_option (option_and_then f o) (filter_map (λ y. option_and_then f (g y)) xs)
    by None rest = rest
    by (Some y) rest = ap (cons_option (f y)) rest

filter_map-filter : {X Y : Type 0} (f : X → Option Y) (p : X → Bool) (xs : List X) → filter_map f (filter p xs) ≡ filter_map (λ x. if p x then f x else None) xs
filter_map-filter f p [] = refl
filter_map-filter f p (x ∷ xs) = by (p x) (filter_map-filter f p xs)
  where
    by : (b : Bool) → filter_map f (filter p xs) ≡ filter_map (λ y. if p y then f y else None) xs → filter_map f (cond b (x ∷ filter p xs) (filter p xs)) ≡ cons_option (if b then f x else None) (filter_map (λ y. if p y then f y else None) xs)
    by true rest = ap (cons_option (f x)) rest
    by false rest = rest

map-filter : {X Y : Type 0} (f : X → Y) (p : X → Bool) (xs : List X) → map f (filter p xs) ≡ filter_map (λ x. if p x then Some (f x) else None) xs
map-filter f p [] = refl
map-filter f p (x ∷ xs) = by (p x) (map-filter f p xs)
  where
    by : (b : Bool) → map f (filter p xs) ≡ filter_map (λ y. if p y then Some (f y) else None) xs → map f (cond b (x ∷ filter p xs) (filter p xs)) ≡ cons_option (if b then Some (f x) else None) (filter_map (λ y. if p y then Some (f y) else None) xs)
    by true rest = ap (λ ys. f x ∷ ys) rest
    by false rest = rest

filter-twice : {X : Type 0} (p q : X → Bool) (xs : List X) → filter p (filter q xs) ≡ filter (λ x. q x && p x) xs
filter-twice p q [] = refl
filter-twice p q (x ∷ xs) = by (q x) (filter-twice p q xs)
  where
    by : (b : Bool) → filter p (filter q xs) ≡ filter (λ y. q y && p y) xs → filter p (cond b (x ∷ filter q xs) (filter q xs)) ≡ cond (b && p x) (x ∷ filter (λ y. q y && p y) xs) (filter (λ y. q y && p y) xs)
    by true rest = ap (λ ys. if p x then x ∷ ys else ys) rest
    by false rest = rest

pub none_pass : {X : Type 0} (p : X → Bool) (xs : List X) → ((x : X) → Contains xs x → p x ≡ false) → filter p xs ≡ []
none_pass p [] fails = refl
none_pass p (x ∷ xs) fails =
    let here : p x ≡ false = fails x (Contains-here x xs) in
    let left : filter p (x ∷ xs) ≡ filter p xs = rw here refl in
    left ∙ none_pass p xs (λ y is. fails y (Contains-there x xs y is))

-- ---- numbers

even_twice : (n : ℕ) → is_odd n ≡ false → n ≡ 2 * (n / 2)
even_twice n even = grind arith

odd_less : (n : ℕ) → is_odd (suc n) ≡ false → is_odd n ≡ true
odd_less n even = grind arith

even_less : (n : ℕ) → is_odd (suc (suc n)) ≡ false → is_odd n ≡ false
even_less n even = grind arith

third : (n d : ℕ) → is_odd n ≡ false → (n / 2 == d + 3) ≡ (n == 2 * d + 6)
third n d even = same_test (n / 2 == d + 3) (n == 2 * d + 6) (λ e. grind arith) (λ e. grind arith)
  where
    same_test : (a b : Bool) → (a ≡ true → b ≡ true) → (b ≡ true → a ≡ true) → a ≡ b
    same_test true true up down = refl
    same_test true false up down = sym (up refl)
    same_test false true up down = down refl
    same_test false false up down = refl

second : (n d : ℕ) → is_odd n ≡ false → (n / 2 == d + 2) ≡ (n == 2 * d + 4)
second n d even = same_test (n / 2 == d + 2) (n == 2 * d + 4) (λ e. grind arith) (λ e. grind arith)
  where
    same_test : (a b : Bool) → (a ≡ true → b ≡ true) → (b ≡ true → a ≡ true) → a ≡ b
    same_test true true up down = refl
    same_test true false up down = sym (up refl)
    same_test false true up down = down refl
    same_test false false up down = refl

-- ---- whoever joins, and whoever goes on

-- a follower of an odd cycle followed well where its outcomes tell it
well_told : (x : Setting) (h : Cycles) (c : Cycle) (node : NodeSpec) → IsLawful x (c ∷ h) → is_odd (length h) ≡ true → Contains (correct_nodes x) node → follows x h node.id ≡ true
    → followed_well x.params c h (row_of c.followers node.id) ≡ are_uncut (outcomes_after x (c ∷ h) node.id)
well_told x h c node lawful odd there does = by (row_of c.followers node.id) refl
  where
    untold : row_of c.told.rows node.id ≡ None
    untold =
        is_none (row_of c.told.rows node.id)
        (told_has x h c node lawful.0 there ∙ not_so (has_row x h node.id) (λ has. followers_have_no_row x h node.id lawful.1 has does))

    by : (o : Option NodeRow) → row_of c.followers node.id ≡ o → followed_well x.params c h (row_of c.followers node.id) ≡ are_uncut (outcomes_after x (c ∷ h) node.id)
    by None none =
        let e : false ≡ true = sym (ap (λ (p : Option NodeRow). is_some p) none) ∙ told_follows x h c node lawful.0 there ∙ does in
        absurd (cc)
    by (Some row) some = followers_are_steady x h c node.id row odd untold some

not_well : (x : Setting) (h : Cycles) (c : Cycle) (node : NodeSpec) → IsLawful x (c ∷ h) → Contains (correct_nodes x) node → follows x h node.id ≡ false
    → followed_well x.params c h (row_of c.followers node.id) ≡ false
not_well x h c node lawful there does = by (row_of c.followers node.id) (told_follows x h c node lawful.0 there ∙ does)
  where
    by : (o : Option NodeRow) → is_some o ≡ false → followed_well x.params c h o ≡ false
    by None none = refl
    by (Some row) none = absurd (cc)

-- a node that joins does so by its outcomes as a follower
joins_told : (x : Setting) (h : Cycles) (c : Cycle) (node : NodeSpec) → IsLawful x (c ∷ h) → is_odd (suc (length h)) ≡ false → Contains (correct_nodes x) node
    → (follows x h node.id && joins_in (suc (length h) / 2) (node_of_next x (c ∷ h) true node.id) (x.join node.id)) ≡ joins_next x (c ∷ h) node.id (x.join node.id)
joins_told x h c node lawful even there = by (follows x h node.id) refl (x.join node.id)
  where
    and_false : (b : Bool) → false ≡ (b && false)
    and_false true = refl
    and_false false = refl

    by : (b : Bool) → follows x h node.id ≡ b → (join : Option Join)
        → (b && joins_in (suc (length h) / 2) (node_of_next x (c ∷ h) true node.id) join) ≡ joins_next x (c ∷ h) node.id join
    by true does None = refl
    by false does None = refl
    by true does (Some join) =
        ap₂ (λ p q. p && q) (third (suc (length h)) join.double even) (sym (well_told x h c node lawful (odd_less (length h) even) there does))
    by false does (Some join) =
        and_false (suc (length h) == 2 * join.double + 6)
        ∙ ap (λ q. (suc (length h) == 2 * join.double + 6) && q) (sym (not_well x h c node lawful there does))

-- a follower goes on by its outcomes
goes_told : (x : Setting) (h : Cycles) (c : Cycle) (node : NodeSpec) → IsLawful x (c ∷ h) → is_odd (suc (length h)) ≡ false → Contains (following_nodes x h) node
    → goes_in (suc (length h) / 2) (node_of_next x (c ∷ h) true node.id) (x.join node.id) ≡ stays_next x (c ∷ h) node.id (x.join node.id)
goes_told x h c node lawful even among = by (x.join node.id)
  where
    by : (join : Option Join) → goes_in (suc (length h) / 2) (node_of_next x (c ∷ h) true node.id) join ≡ stays_next x (c ∷ h) node.id join
    by None = refl
    by (Some join) =
        let own = filtered (λ (n : NodeSpec). follows x h n.id) (correct_nodes x) node among in
        let well : Bool = followed_well x.params c h (row_of c.followers node.id) in
        ap₂ (λ p q. p && q) (second (suc (length h)) join.double even) (sym (well_told x h c node lawful (odd_less (length h) even) own.0 own.1))
        ∙ ap (λ b. b || ((suc (length h) == 2 * join.double + 4) && well)) (sym even)

-- ---- whoever begins

-- a listener that begins, as the follower that it becomes
began : (x : Setting) (h : Cycles) (even odd : Cycle) (node : NodeSpec) (join : Join) (slot : ℕ) → IsLawful x (odd ∷ even ∷ h) → Contains (correct_nodes x) node → x.join node.id ≡ Some join
    → length h ≡ 2 * join.double → own_key x.params join.reference ≡ Some slot
    → first_of x.params (listener_with node.id slot (catches_of x h even odd node.id slot)) (suc (suc (length h))) (x.microtick node.id (length h)) (x.microtick node.id (suc (length h)))
    ≡ (if is_some (begins_with x (odd ∷ even ∷ h) node.id join) then Some (node_of_next x (odd ∷ even ∷ h) true node.id) else None)
began x h even odd node join slot lawful there at twice key = listeners_come_first x h even odd node.id join slot twice key ∙ by (begins_with x (odd ∷ even ∷ h) node.id join) refl
  where
    by : (o : Option Caught) → begins_with x (odd ∷ even ∷ h) node.id join ≡ o
        → option_map (follower_by x.params node.id (suc (suc (length h)))) o ≡ (if is_some o then Some (node_of_next x (odd ∷ even ∷ h) true node.id) else None)
    by None is = refl
    by (Some c) is = ap (λ (n : NodeView). let o : Option NodeView = Some n in o) (sym (followers_begin x h even odd node join c lawful there at is))

-- nobody begins whose double cycle it was not, and none without a key slot of its reference
not_begun : (x : Setting) (h : Cycles) (even odd : Cycle) (node : ℕ) (join : Join) → (length h == 2 * join.double) ≡ false → begins_with x (odd ∷ even ∷ h) node join ≡ None
unfolding begins_with
not_begun x h even odd node join other = rw other refl

keyless : (x : Setting) (h : Cycles) (even odd : Cycle) (node : ℕ) (join : Join) → own_key x.params join.reference ≡ None → begins_with x (odd ∷ even ∷ h) node join ≡ None
unfolding begins_with
keyless x h even odd node join none = ap (λ o. if length h == 2 * join.double then option_and_then (caught_by_slot x (length h) even odd node) o else None) none ∙ either (length h == 2 * join.double)
  where
    nothing : Option Caught
    nothing = None

    either : (b : Bool) → (if b then nothing else nothing) ≡ nothing
    either true = refl
    either false = refl

-- the follower that a listener begins as before a cycle, by the run
abbrev pub first_in : Setting → ℕ → ListenerView → Option NodeView
first_in x cycle l = first_of x.params l cycle (x.microtick l.id (cycle - 2)) (x.microtick l.id (cycle - 1))

first_lengths : (x : Setting) (n : ℕ) (l : ListenerView) → first_in x (suc (suc n)) l ≡ first_of x.params l (suc (suc n)) (x.microtick l.id n) (x.microtick l.id (suc n))
first_lengths x n l =
    let two : suc (suc n) - 2 ≡ n = omega arith in
    let one : suc (suc n) - 1 ≡ suc n = omega arith in
    ap₂ (λ a b. first_of x.params l (suc (suc n)) (x.microtick l.id a) (x.microtick l.id b)) two one

nobody : (o : Option Caught) (n : NodeView) → o ≡ None → (let before : Option NodeView = None in before) ≡ (if is_some o then Some n else None)
nobody None n is = refl
nobody (Some c) n is = absurd (cc)

double_is : (n d : ℕ) → is_odd n ≡ false → (d == n / 2) ≡ true → n ≡ 2 * d
double_is n d even is = grind arith

double_other : (n d : ℕ) → (d == n / 2) ≡ false → (n == 2 * d) ≡ false
double_other n d is = grind arith

begins_told : (x : Setting) (h : Cycles) (even odd : Cycle) (node : NodeSpec) → IsLawful x (odd ∷ even ∷ h) → is_odd (length h) ≡ false → Contains (correct_nodes x) node
    → (if listens_in (length h / 2) (x.join node.id) then option_and_then (first_in x (suc (suc (length h)))) (listener_kept x h even odd node) else None)
    ≡ (if begins_next x (odd ∷ even ∷ h) node.id (x.join node.id) then Some (node_of_next x (odd ∷ even ∷ h) true node.id) else None)
begins_told x h even odd node lawful twice there = by (x.join node.id) refl
  where
    follower : NodeView
    follower = node_of_next x (odd ∷ even ∷ h) true node.id

    first : ListenerView → Option NodeView
    first l = first_in x (suc (suc (length h))) l

    with_slot : Option ℕ → Option ListenerView
    with_slot o = option_map (λ slot. listener_with node.id slot (catches_of x h even odd node.id slot)) o

    by_slot : (join : Join) → x.join node.id ≡ Some join → length h ≡ 2 * join.double → (o : Option ℕ) → own_key x.params join.reference ≡ o
        → option_and_then first (with_slot o) ≡ (if is_some (begins_with x (odd ∷ even ∷ h) node.id join) then Some follower else None)
    by_slot join at now None key = nobody (begins_with x (odd ∷ even ∷ h) node.id join) follower (keyless x h even odd node.id join key)
    by_slot join at now (Some slot) key =
        first_lengths x (length h) (listener_with node.id slot (catches_of x h even odd node.id slot))
        ∙ began x h even odd node join slot lawful there at now key

    by_double : (join : Join) → x.join node.id ≡ Some join → (b : Bool) → (join.double == length h / 2) ≡ b
        → (if b then option_and_then first (with_slot (own_key x.params join.reference)) else None) ≡ (if is_some (begins_with x (odd ∷ even ∷ h) node.id join) then Some follower else None)
    by_double join at true is = by_slot join at (double_is (length h) join.double twice is) (own_key x.params join.reference) refl
    by_double join at false is =
        nobody (begins_with x (odd ∷ even ∷ h) node.id join) follower (not_begun x h even odd node.id join (double_other (length h) join.double is))

    by : (join : Option Join) → x.join node.id ≡ join
        → (if listens_in (length h / 2) join then option_and_then first (with_slot (reference_slot x join)) else None)
        ≡ (if begins_next x (odd ∷ even ∷ h) node.id join then Some follower else None)
    by None at = refl
    by (Some join) at = by_double join at (join.double == length h / 2) refl

-- ---- the lists behind a double cycle

abbrev pub joins_in_run : Setting → ℕ → NodeView → Bool
joins_in_run x double node = joins_in double node (x.join node.id)

abbrev pub goes_in_run : Setting → ℕ → NodeView → Bool
goes_in_run x double node = goes_in double node (x.join node.id)

-- the followers that join
joiners : (x : Setting) (h : Cycles) (c : Cycle) → IsLawful x (c ∷ h) → is_odd (suc (length h)) ≡ false
    → map as_joined (filter (joins_in_run x (suc (length h) / 2)) (followers_kept x (c ∷ h))) ≡ map (λ (node : NodeSpec). node_of_next x (c ∷ h) false node.id) (joining_nodes x (c ∷ h))
joiners x h c lawful even =
    let all : Cycles = c ∷ h in
    let follower : NodeSpec → NodeView = λ node. node_of_next x all true node.id in
    let test : NodeView → Bool = joins_in_run x (suc (length h) / 2) in
    let joins : NodeSpec → Bool = λ node. test (follower node) in
    let followed : NodeSpec → Bool = λ node. follows x h node.id in
    let by_run : NodeSpec → Bool = λ node. joins_next x all node.id (x.join node.id) in
    let who : filter joins (following_nodes x h) ≡ joining_nodes x all =
    filter-twice joins followed (correct_nodes x)
    ∙ filter_same (λ node. followed node && joins node) by_run (correct_nodes x) (λ node there. joins_told x h c node lawful even there) in
    ap (map as_joined) (filter-map test follower (following_nodes x h) ∙ ap (map follower) who)
    ∙ map-map as_joined follower (joining_nodes x all)
    ∙ map_same_in (λ node. as_joined (follower node)) (λ (node : NodeSpec). node_of_next x all false node.id) (joining_nodes x all)
    (λ node there. sym (joining_nodes_are_joined x all node lawful there))

pub nodes_succeed : (x : Setting) (h : Cycles) (c : Cycle) → IsSane x.params → IsLawful x (c ∷ h) → is_odd (suc (length h)) ≡ false
    → put_all (λ n. n.id) (map as_joined (filter (joins_in_run x (suc (length h) / 2)) (followers_kept x (c ∷ h)))) (nodes_kept x (c ∷ h)) ≡ nodes_of_next x (c ∷ h)
nodes_succeed x h c sane lawful even =
    let node_at : NodeSpec → NodeView = λ node. node_of_next x (c ∷ h) false node.id in
    ap (λ (joiners : List NodeView). put_all (λ n. n.id) joiners (nodes_kept x (c ∷ h))) (joiners x h c lawful even)
    ∙ put_all-map (λ (n : NodeView). n.id) node_at (joining_nodes x (c ∷ h)) (row_nodes x h)
    ∙ sym (ap (map node_at) (rows_succeed x h c sane lawful))

-- the followers that go on
goers : (x : Setting) (h : Cycles) (c : Cycle) → IsLawful x (c ∷ h) → is_odd (suc (length h)) ≡ false
    → filter (goes_in_run x (suc (length h) / 2)) (followers_kept x (c ∷ h)) ≡ map (λ (node : NodeSpec). node_of_next x (c ∷ h) true node.id) (staying_nodes x (c ∷ h) (following_nodes x h))
goers x h c lawful even =
    let all : Cycles = c ∷ h in
    let follower : NodeSpec → NodeView = λ node. node_of_next x all true node.id in
    let test : NodeView → Bool = goes_in_run x (suc (length h) / 2) in
    filter-map test follower (following_nodes x h)
    ∙ ap (map follower)
    (filter_same (λ (node : NodeSpec). test (follower node)) (λ (node : NodeSpec). stays_next x all node.id (x.join node.id)) (following_nodes x h)
    (λ node there. goes_told x h c node lawful even there))

-- the listeners that begin
beginners : (x : Setting) (h : Cycles) (even odd : Cycle) → IsLawful x (odd ∷ even ∷ h) → is_odd (length h) ≡ false
    → filter_map (first_in x (suc (suc (length h)))) (filter_map (listener_kept x h even odd) (listening_nodes x h))
    ≡ map (λ (node : NodeSpec). node_of_next x (odd ∷ even ∷ h) true node.id) (beginning_nodes x (odd ∷ even ∷ h))
beginners x h even odd lawful twice =
    let all : Cycles = odd ∷ even ∷ h in
    let follower : NodeSpec → NodeView = λ node. node_of_next x all true node.id in
    let first : ListenerView → Option NodeView = first_in x (suc (suc (length h))) in
    let listens : NodeSpec → Bool = λ node. listens_in (length h / 2) (x.join node.id) in
    let begins : NodeSpec → Bool = λ node. begins_next x all node.id (x.join node.id) in
    let once : NodeSpec → Option NodeView = λ node. option_and_then first (listener_kept x h even odd node) in
    filter_map-twice first (listener_kept x h even odd) (listening_nodes x h)
    ∙ filter_map-filter once listens (correct_nodes x)
    ∙ filter_map_same (λ node. if listens node then once node else None) (λ node. if begins node then Some (follower node) else None) (correct_nodes x)
    (λ node there. begins_told x h even odd node lawful twice there)
    ∙ sym (map-filter follower begins (correct_nodes x))

pub followers_succeed_in : (x : Setting) (h : Cycles) (even odd : Cycle) → IsSane x.params → IsLawful x (odd ∷ even ∷ h) → is_odd (length h) ≡ false
    → put_all (λ n. n.id) (filter_map (first_in x (suc (suc (length h)))) (filter_map (listener_kept x h even odd) (listening_nodes x h)))
    (filter (goes_in_run x (suc (suc (length h)) / 2)) (followers_kept x (odd ∷ even ∷ h))) ≡ followers_of_next x (odd ∷ even ∷ h)
followers_succeed_in x h even odd sane lawful twice =
    let all : Cycles = odd ∷ even ∷ h in
    let follower : NodeSpec → NodeView = λ node. node_of_next x all true node.id in
    let again : is_odd (suc (suc (length h))) ≡ false = even_more (length h) twice in
    let gone : List NodeView = filter (goes_in_run x (suc (suc (length h)) / 2)) (followers_kept x all) in
    ap (λ (first : List NodeView). put_all (λ n. n.id) first gone) (beginners x h even odd lawful twice)
    ∙ ap (put_all (λ (n : NodeView). n.id) (map follower (beginning_nodes x all))) (goers x (even ∷ h) odd lawful again)
    ∙ put_all-map (λ (n : NodeView). n.id) follower (beginning_nodes x all) (staying_nodes x all (following_nodes x (even ∷ h)))
    ∙ sym (ap (map follower) (followers_succeed x (even ∷ h) odd sane lawful))
  where
    even_more : (n : ℕ) → is_odd n ≡ false → is_odd (suc (suc n)) ≡ false
    even_more n e = grind arith

-- the listeners that come
abbrev pub listener_in : Setting → ℕ → NodeSpec → Option ListenerView
listener_in x double node = listener_by x.params double node.id (x.join node.id)

no_catches_yet : (x : Setting) (h : Cycles) (node slot : ℕ) → is_odd (length h) ≡ false → catches_after x h node slot ≡ no_catches
no_catches_yet x [] node slot even = refl
no_catches_yet x (c ∷ h) node slot even = let odd : is_odd (length h) ≡ true = odd_less (length h) even in rw odd refl

pub listeners_come : (x : Setting) (h : Cycles) → is_odd (length h) ≡ false → filter_map (listener_in x (length h / 2)) (correct_nodes x) ≡ listeners_of_next x h
listeners_come x h even =
    filter_map_same (listener_in x (length h / 2)) (λ (node : NodeSpec). if listens_in (length h / 2) (x.join node.id) then listener_of_next x h node else None) (correct_nodes x)
    (λ node there. by node (x.join node.id))
    ∙ sym (filter_map-filter (listener_of_next x h) (λ (node : NodeSpec). listens_in (length h / 2) (x.join node.id)) (correct_nodes x))
  where
    fresh : (node : NodeSpec) (o : Option ℕ) → option_map (listening node.id) o ≡ option_map (λ slot. listener_with node.id slot (catches_after x h node.id slot)) o
    fresh node None = refl
    fresh node (Some slot) = ap (λ (c : Caughts). Some (listener_with node.id slot c)) (sym (no_catches_yet x h node.id slot even))

    by : (node : NodeSpec) (join : Option Join)
        → listener_by x.params (length h / 2) node.id join
        ≡ (if listens_in (length h / 2) join then option_map (λ slot. listener_with node.id slot (catches_after x h node.id slot)) (reference_slot x join) else None)
    by node None = refl
    by node (Some join) = ap (λ (o : Option ListenerView). if join.double == length h / 2 then o else None) (fresh node (own_key x.params join.reference))
