-- The courses of senders in the next double cycle, sender by sender.
use Rattle.std.proofs.Math.Seq.{drop-cons}
use Rattle.std.proofs.Common.{◌≡◌, ℕ, suc, ◌+◌, ◌<◌, List, [], ◌∷◌, ◌++◌, map, take, drop, take-append-drop, length, get_or, All, IfSome, Option, Some, None, refl, sym, ap, ◌∙◌, subst}
use Rattle.std.specs.Option.{option_map, unwrap_or}
use Rattle.std.proofs.lemmas.List.{map-append, take_more}
use Rattle.std.proofs.lemmas.List.Elements.{All-append, All-cons, All-get_or, All-nil}
use Rattle.fr_course.specs.Near.{IsNearCourse}
use Rattle.fr_course.specs.declared.courses.Course.{Course}
use Rattle.fr_course.specs.Scales.{Scale}
use Rattle.fr_sightings.specs.Ranges.{IsCourseAt, IsProperSender}
use Rattle.fr_sightings.specs.declared.sender.Sender.{Sender}
use Rattle.fr_observe.specs.Observing.{all_there, next_courses}

same-courses : (a b : List Course) → Some a ≡ Some b → a ≡ b
same-courses a b e = ap (λ (o : Option (List Course)). unwrap_or o a) e

push-there : (found : List (Option Course)) (courses : List Course) (next : Course) → all_there found ≡ Some courses
    → all_there (found ++ Some next ∷ []) ≡ Some (courses ++ next ∷ [])
push-there [] courses next is = ap (λ (l : List Course). Some (l ++ next ∷ [])) (same-courses [] courses is)
push-there (None ∷ found) courses next is = absurd (let none : None ≡ Some courses = is in cc none)
push-there (Some first ∷ found) courses next is = by (all_there found) refl is (λ rest e. push-there found rest next e)
  where
    by : (rest : Option (List Course)) → all_there found ≡ rest → option_map (λ others. first ∷ others) rest ≡ Some courses
        → ((rest : List Course) → all_there found ≡ Some rest → all_there (found ++ Some next ∷ []) ≡ Some (rest ++ next ∷ []))
        → option_map (λ others. first ∷ others) (all_there (found ++ Some next ∷ [])) ≡ Some (courses ++ next ∷ [])
    by None e whole again = absurd (let none : None ≡ Some courses = whole in cc none)
    by (Some rest) e whole again =
        ap (option_map (λ others. first ∷ others)) (again rest e)
        ∙ ap (λ (l : List Course). Some (l ++ next ∷ [])) (same-courses (first ∷ rest) courses whole)

none-there : (before after : List (Option Course)) → all_there (before ++ None ∷ after) ≡ None
none-there [] after = refl
none-there (None ∷ before) after = refl
none-there (Some first ∷ before) after = ap (option_map (λ others. first ∷ others)) (none-there before after)

next-of : Sender → Option Course
next-of s = s.next

pub next-none : (senders : List Sender) (place : ℕ) (s : Sender) → place < length senders → s ≡ get_or senders place s → s.next ≡ None → next_courses senders ≡ None
unfolding next-of
next-none senders place s lt is none =
    let all : senders ≡ take place senders ++ (s ∷ drop (suc place) senders) =
    sym (take-append-drop place senders) ∙ ap (λ (l : List Sender). take place senders ++ l) (drop-cons senders place s lt ∙ (λ i. sym is i ∷ drop (suc place) senders)) in
    ap next_courses all
    ∙ ap all_there (map-append next-of (take place senders) (s ∷ drop (suc place) senders))
    ∙ ap (λ (o : Option Course). all_there (map next-of (take place senders) ++ o ∷ map next-of (drop (suc place) senders))) none
    ∙ none-there (map next-of (take place senders)) (map next-of (drop (suc place) senders))

pub next-more : (senders : List Sender) (place : ℕ) (s : Sender) (courses : List Course) (next : Course) → place < length senders → s ≡ get_or senders place s → s.next ≡ Some next
    → all_there (map (λ s. s.next) (take place senders)) ≡ Some courses → all_there (map (λ s. s.next) (take (place + 1) senders)) ≡ Some (courses ++ next ∷ [])
unfolding next-of
next-more senders place s courses next lt is there so_far =
    ap (λ (l : List Sender). all_there (map next-of l)) (take_more senders place s lt)
    ∙ ap all_there (map-append next-of (take place senders) (get_or senders place s ∷ []))
    ∙ ap (λ (o : Option Course). all_there (map next-of (take place senders) ++ o ∷ [])) (ap next-of (sym is) ∙ there)
    ∙ push-there (map next-of (take place senders)) courses next so_far

pub next-near : (scale : Scale) (senders : List Sender) (place : ℕ) (s : Sender) (next : Course) → place < length senders → s ≡ get_or senders place s → s.next ≡ Some next
    → All (IsProperSender scale) senders → IsNearCourse scale next
next-near scale senders place s next lt is there all =
    let proper : IsProperSender scale s = subst (IsProperSender scale) (sym is) (All-get_or (IsProperSender scale) senders place s lt all) in
    (subst (λ (o : Option Course). IfSome o (IsCourseAt scale s.course.action)) there proper.next).near

pub all-push : {X : Type 0} (P : X → Type 0) (xs : List X) (x : X) → All P xs → P x → All P (xs ++ x ∷ [])
all-push P xs x all is = All-append P xs (x ∷ []) all (All-cons P x [] is (All-nil P))
