-- The senders of a double cycle, node by node.
use Rattle.std.proofs.Common.{◌≡◌, ℕ, zero, suc, ◌+◌, ◌<◌, ◌≤◌, ℤ, List, [], ◌∷◌, ◌++◌, take, length, length-append, get_or, slice_get, All, IfSome, Option, Some, None, filter_map, option_to_list, refl, sym, ap, ◌∙◌, subst, arith}
use Rattle.std.specs.List.{cons_option}
use Rattle.std.proofs.lemmas.List.{take_more}
use Rattle.std.proofs.lemmas.List.Elements.{All-append, All-cons, All-head, All-nil, All-tail, filter_map-append}
use Rattle.std.proofs.lemmas.Option.{get_or_from_slice_get}
use Rattle.fr_cluster.specs.Constraints.{key_slots}
use Rattle.fr_cluster.specs.Sane.{IsSane}
use Rattle.fr_cluster.specs.Values.{Values, amount}
use Rattle.fr_cluster.specs.declared.names.ParamName.TheVariants as name
use Rattle.fr_cluster.specs.declared.nodes.NodeSpec.{NodeSpec}
use Rattle.fr_course.specs.Course.{course_from}
use Rattle.fr_course.specs.Near.{IsNearCourse}
use Rattle.fr_course.specs.declared.courses.Course.{Course}
use Rattle.fr_course.specs.declared.intervals.Interval.{Interval}
use Rattle.fr_course.specs.Scales.{Scale}
use Rattle.fr_sightings.specs.Ranges.{HasStaticKey, IsCourseAt}

-- ---- key slots

some-same : (x y : NodeSpec) → Some x ≡ Some y → x ≡ y
some-same x y e = cc e

key-first : (limit : ℕ) (key : Option ℕ) (keys : List ℕ) → All (λ slot. slot ≤ limit) (cons_option key keys) → IfSome key (λ slot. slot ≤ limit)
key-first limit None keys all = tt
key-first limit (Some slot) keys all = All-head (λ s. s ≤ limit) slot keys all

key-rest : (limit : ℕ) (key : Option ℕ) (keys : List ℕ) → All (λ slot. slot ≤ limit) (cons_option key keys) → All (λ slot. slot ≤ limit) keys
key-rest limit None keys all = all
key-rest limit (Some slot) keys all = All-tail (λ s. s ≤ limit) slot keys all

key-at : (limit : ℕ) (nodes : List NodeSpec) (place : ℕ) (node : NodeSpec) → slice_get nodes place ≡ Some node
    → All (λ slot. slot ≤ limit) (key_slots nodes) → IfSome node.key (λ slot. slot ≤ limit)
key-at limit [] place node is all = absurd cc
key-at limit (first ∷ nodes) zero node is all =
    subst (λ (n : NodeSpec). IfSome n.key (λ slot. slot ≤ limit)) (some-same first node is) (key-first limit first.key (key_slots nodes) all)
key-at limit (first ∷ nodes) (suc place) node is all = key-at limit nodes place node is (key-rest limit first.key (key_slots nodes) all)

pub static-key : (p : Values) (place : ℕ) (node : NodeSpec) → IsSane p → slice_get p.nodes place ≡ Some node → HasStaticKey p node
static-key p place node sane is = key-at (amount p name.gNumberOfStaticSlots) p.nodes place node is sane.constraints.own_slots.0

-- ---- one node more

module _ {X Y : Type 0} (h : X → Option Y) where
  one-mapped : (x : X) → filter_map h (x ∷ []) ≡ option_to_list (h x)
  one-mapped x = by (h x)
    where
      by : (o : Option Y) → cons_option o [] ≡ option_to_list o
      by None = refl
      by (Some y) = refl

  pub mapped-more : (xs : List X) (place : ℕ) (x : X) → place < length xs → slice_get xs place ≡ Some x
      → filter_map h (take (place + 1) xs) ≡ filter_map h (take place xs) ++ option_to_list (h x)
  mapped-more xs place x lt is =
      let at : get_or xs place x ≡ x = get_or_from_slice_get xs place x x is in
      ap (filter_map h) (take_more xs place x lt)
      ∙ filter_map-append h (take place xs) (get_or xs place x ∷ [])
      ∙ ap (λ (l : List Y). filter_map h (take place xs) ++ l) (one-mapped (get_or xs place x) ∙ ap (λ (y : X). option_to_list (h y)) at)

pub all-more : {X : Type 0} (P : X → Type 0) (xs : List X) (o : Option X) → All P xs → IfSome o P → All P (xs ++ option_to_list o)
all-more P xs None all none = All-append P xs [] all (All-nil P)
all-more P xs (Some x) all is = All-append P xs (x ∷ []) all (All-cons P x [] is (All-nil P))

pub kept-few : {X : Type 0} (xs : List X) (o : Option X) (n : ℕ) → length xs ≤ n → length (xs ++ option_to_list o) ≤ n + 1
kept-few xs None n few = omega (arith, length-append xs (option_to_list None), few)
kept-few xs (Some x) n few = omega (arith, length-append xs (option_to_list (Some x)), few)

-- ---- courses

acts : (scale : Scale) (action : ℤ) (even odd span : Option Interval) → IfSome (course_from scale action even odd span) (λ course. course.action ≡ action)
acts scale action None None span = tt
acts scale action (Some even) None span = refl
acts scale action None (Some odd) span = refl
acts scale action (Some even) (Some odd) span = refl

both-hold : (scale : Scale) (action : ℤ) (found : Option Course) → IfSome found (λ course. course.action ≡ action) → IfSome found (IsNearCourse scale) → IfSome found (IsCourseAt scale action)
both-hold scale action None at near = tt
both-hold scale action (Some course) at near = record { near = near; acts = at }

pub course-at : (scale : Scale) (action : ℤ) (even odd span : Option Interval) (found : Option Course) → found ≡ course_from scale action even odd span
    → IfSome found (IsNearCourse scale) → IfSome found (IsCourseAt scale action)
course-at scale action even odd span found is near =
    both-hold scale action found
    (subst (λ (o : Option Course). IfSome o (λ course. course.action ≡ action)) (sym is) (acts scale action even odd span)) near
