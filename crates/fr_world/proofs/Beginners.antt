-- Listeners begin to follow, and others begin to listen.
use Rattle.std.proofs.Common.{◌≡◌, ◌∙◌, ℕ, suc, ◌+◌, ◌<◌, ◌≤◌, ◌==◌, not, Bool, true, false, cond, List, [], ◌∷◌, ◌++◌, length, filter, take, drop, get_or, Option, Some, None, refl, ap, sym, subst, arith}
use Rattle.std.specs.Prelude.{All, filter_map}
use Rattle.std.specs.List.{cons_option}
use Rattle.std.specs.Option.{option_map, option_to_list}
use Rattle.std.proofs.lemmas.Bool.{cond_both}
use Rattle.std.proofs.lemmas.List.{drop_more, length-take-le, take_more}
use Rattle.std.proofs.lemmas.List.Elements.{All-cons, All-nil, filter_map-append}
use Rattle.fr_cluster.specs.Questions.{own_key}
use Rattle.fr_cluster.specs.Setting.{is_correct}
use Rattle.fr_cluster.specs.declared.join.Join.{Join}
use Rattle.fr_cluster.specs.declared.nodes.NodeSpec.{NodeSpec}
use Rattle.fr_node.specs.Listening.{ListenerView, listening}
use Rattle.fr_node.specs.View.{NodeView}
use Rattle.fr_script.specs.Promises.{JoinsProperly, NodesJoinProperly}
use Rattle.fr_script.specs.View.{is_arbitrary, join_of}
use Rattle.fr_air.specs.Placing.{put_all}
use Rattle.fr_world.proofs.Passed.{length-put, length-put_all, nothing-behind}
use Rattle.fr_air.specs.Files.{setting_in}
use Rattle.fr_air.specs.Listening.{IsListener}
use Rattle.fr_world.specs.Succeeding.{listener_by, listener_now, listeners_now, put_some}
use Rattle.fr_air.specs.declared.files.RunInputs.{RunInputs}

-- ---- listeners begin to follow

-- one listener more
begun-more : {X : Type 0} (first : X → Option NodeView) (x : X) (xs : List X) (ys : List NodeView) →
    put_all (λ n. n.id) (filter_map first (x ∷ xs)) ys ≡ put_all (λ n. n.id) (filter_map first xs) (put_some (first x) ys)
begun-more first x xs ys = by (first x)
  where
    by : (o : Option NodeView) → put_all (λ n. n.id) (cons_option o (filter_map first xs)) ys ≡ put_all (λ n. n.id) (filter_map first xs) (put_some o ys)
    by None = refl
    by (Some node) = refl

-- with those that are still to come the list becomes what it is to be
pub begun-next : {X : Type 0} (first : X → Option NodeView) (xs : List X) (i : ℕ) (x : X) (ys target : List NodeView) → i < length xs → x ≡ get_or xs i x → put_all (λ n. n.id) (filter_map first (drop i xs)) ys ≡ target →
    put_all (λ n. n.id) (filter_map first (drop (i + 1) xs)) (put_some (first x) ys) ≡ target
begun-next {X = X} first xs i x ys target lt at so_far =
    let here : drop i xs ≡ x ∷ drop (i + 1) xs = drop_more xs i x lt ∙ ap (λ (y : X). y ∷ drop (i + 1) xs) (sym at) in
    sym (begun-more first x (drop (i + 1) xs) ys) ∙ sym (ap (λ (zs : List X). put_all (λ n. n.id) (filter_map first zs) ys) here) ∙ so_far

pub begun-fits : {X : Type 0} (first : X → Option NodeView) (xs : List X) (i : ℕ) (x : X) (ys target : List NodeView) → i < length xs → x ≡ get_or xs i x → put_all (λ n. n.id) (filter_map first (drop i xs)) ys ≡ target →
    length target ≤ 64 → length (put_some (first x) ys) ≤ 64
begun-fits first xs i x ys target lt at so_far few =
    let rest : List NodeView = filter_map first (drop (i + 1) xs) in
    let whole = length-put_all (λ (n : NodeView). n.id) rest (put_some (first x) ys) in
    let same = ap length (begun-next first xs i x ys target lt at so_far) in
    omega (arith, whole, same, few)

pub begun-all : {X : Type 0} (first : X → Option NodeView) (xs : List X) (i : ℕ) (ys target : List NodeView) → length xs ≤ i → put_all (λ n. n.id) (filter_map first (drop i xs)) ys ≡ target → ys ≡ target
begun-all {X = X} first xs i ys target done so_far =
    sym (ap (λ (zs : List X). put_all (λ n. n.id) (filter_map first zs) ys) (nothing-behind i xs done)) ∙ so_far

-- there is room for one that begins
pub begun-room : (node : NodeView) (o : Option NodeView) (ys : List NodeView) → o ≡ Some node → length (put_some o ys) ≤ 64 → length ys < 64
begun-room node o ys is few =
    let room : length (put_some (Some node) ys) ≤ 64 = subst (λ some. length (put_some some ys) ≤ 64) is few in
    omega (arith, room, length-put (λ (n : NodeView). n.id) node ys)

-- ---- others begin to listen

cons-is : {X : Type 0} (o : Option X) → cons_option o [] ≡ option_to_list o
cons-is None = refl
cons-is (Some x) = refl

-- one more element of what a list gives
pub given-more : {X Y : Type 0} (h : X → Option Y) (xs : List X) (i : ℕ) (x : X) (before after : List Y) → i < length xs → x ≡ get_or xs i x → before ≡ filter_map h (take i xs) → after ≡ before ++ option_to_list (h x) →
    after ≡ filter_map h (take (i + 1) xs)
given-more {X = X} {Y = Y} h xs i x before after lt at so_far now =
    let more : take (i + 1) xs ≡ take i xs ++ x ∷ [] = take_more xs i x lt ∙ ap (λ (y : X). take i xs ++ y ∷ []) (sym at) in
    now
    ∙ ap (λ (ys : List Y). ys ++ option_to_list (h x)) so_far
    ∙ ap (λ (ys : List Y). filter_map h (take i xs) ++ ys) (sym (cons-is (h x)))
    ∙ sym (ap (filter_map h) more ∙ filter_map-append h (take i xs) (x ∷ []))

length-given : {X Y : Type 0} (h : X → Option Y) (xs : List X) → length (filter_map h xs) ≤ length xs
length-given h [] = omega arith
length-given {Y = Y} h (x ∷ xs) = by (h x) (length-given h xs)
  where
    by : (o : Option Y) → length (filter_map h xs) ≤ length xs → length (cons_option o (filter_map h xs)) ≤ suc (length xs)
    by None le = omega (arith, le)
    by (Some y) le = omega (arith, le)

-- it gives at most one for each
pub given-few : {X Y : Type 0} (h : X → Option Y) (xs : List X) (i : ℕ) (ys : List Y) → i ≤ length xs → ys ≡ filter_map h (take i xs) → length ys ≤ i
given-few h xs i ys le is = let few = length-given h (take i xs) in let long = length-take-le i xs le in omega (arith, ap length is, few, long)

-- a node that does not take part gives nothing
pub given-filtered : {X Y : Type 0} (test : X → Bool) (h : X → Option Y) (xs : List X) → ((x : X) → test x ≡ false → h x ≡ None) → filter_map h (filter test xs) ≡ filter_map h xs
given-filtered test h [] none = refl
given-filtered {X = X} {Y = Y} test h (x ∷ xs) none = by (test x) refl (given-filtered test h xs none)
  where
    by : (b : Bool) → test x ≡ b → filter_map h (filter test xs) ≡ filter_map h xs → filter_map h (cond b (x ∷ filter test xs) (filter test xs)) ≡ cons_option (h x) (filter_map h xs)
    by true passes rest = ap (cons_option (h x)) rest
    by false fails rest = rest ∙ sym (ap (λ (o : Option Y). cons_option o (filter_map h xs)) (none x fails))

-- an arbitrary node does not join
arbitrary-none : (f : RunInputs) (double : ℕ) (node : NodeSpec) → NodesJoinProperly f.params f.script → is_correct (setting_in f) node.id ≡ false → listener_now f double node ≡ None
arbitrary-none f double node proper arbitrary = by (join_of f.script node.id) refl
  where
    by : (o : Option Join) → join_of f.script node.id ≡ o → listener_by f.params double node.id o ≡ None
    by None is = refl
    by (Some join) is =
        let correct : is_arbitrary f.script node.id ≡ false = (proper node.id join is).correct in
        let passes : is_correct (setting_in f) node.id ≡ true = ap not correct in
        absurd (cc)

-- so the listeners are given by all nodes
pub listeners-given : (f : RunInputs) (double : ℕ) → NodesJoinProperly f.params f.script → listeners_now f double ≡ filter_map (listener_now f double) f.params.nodes
listeners-given f double proper =
    given-filtered (λ (node : NodeSpec). is_correct (setting_in f) node.id) (listener_now f double) f.params.nodes (λ node arbitrary. arbitrary-none f double node proper arbitrary)

-- and each is a listener
is-listener : (f : RunInputs) (double : ℕ) (node : NodeSpec) (l : ListenerView) → NodesJoinProperly f.params f.script → listener_now f double node ≡ Some l → IsListener f l
is-listener f double node l proper is = by (join_of f.script node.id) refl is
  where
    listens : (join : Join) → JoinsProperly f.params f.script node.id join → (key : Option ℕ) → own_key f.params join.reference ≡ key → option_map (listening node.id) key ≡ Some l → IsListener f l
    listens join joins None own nothing = absurd (cc)
    listens join joins (Some slot) own same =
        let e : listening node.id slot ≡ l = cc in
        subst (IsListener f) e (record {
          known = joins.known;
          correct = joins.correct;
          node = join.reference;
          key = own;
          correct_reference = joins.correct_reference;
          other = joins.other;
          stays = joins.stays;
        })

    by : (o : Option Join) → join_of f.script node.id ≡ o → listener_by f.params double node.id o ≡ Some l → IsListener f l
    by None join nothing = absurd (cc)
    by (Some join) joins same =
        cond_both (join.double == double) (option_map (listening node.id) (own_key f.params join.reference)) None (λ o. o ≡ Some l → IsListener f l)
        (λ now given. listens join (proper node.id join joins) (own_key f.params join.reference) refl given)
        (λ other nothing. absurd (cc))
        same

pub all-listen : (f : RunInputs) (double : ℕ) (nodes : List NodeSpec) → NodesJoinProperly f.params f.script → All (IsListener f) (filter_map (listener_now f double) nodes)
all-listen f double [] proper = All-nil (IsListener f)
all-listen f double (node ∷ nodes) proper = by (listener_now f double node) refl (all-listen f double nodes proper)
  where
    by : (o : Option ListenerView) → listener_now f double node ≡ o → All (IsListener f) (filter_map (listener_now f double) nodes) → All (IsListener f) (cons_option o (filter_map (listener_now f double) nodes))
    by None is rest = rest
    by (Some l) is rest = All-cons (IsListener f) l (filter_map (listener_now f double) nodes) (is-listener f double node l proper is) rest
