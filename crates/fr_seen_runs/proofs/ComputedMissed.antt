-- The least number of senders that a node must have missed: it is the first one that nothing contradicts, and none beyond all others
-- tells more.
use Rattle.std.proofs.Common.{◌≡◌, ℕ, zero, suc, ◌+◌, ◌-◌, ◌<◌, ◌≤◌, ◌==◌, min, Bool, true, false, not, cond, Option, Some, None, List, ◌∷◌, length, map, refl, ap, sym, ◌∙◌, inl, inr, arith}
use Rattle.std.specs.Prelude.{◌*◌, Contains, find}
use Rattle.std.specs.List.{filter, range_with_len}
use Rattle.std.specs.Option.{option_map}
use Rattle.std.proofs.lemmas.Bool.{cases_lt, eqb-true}
use Rattle.std.proofs.lemmas.List.{length-map}
use Rattle.std.proofs.lemmas.List.Sums.{length-filter}
use Rattle.fr_cluster.specs.Values.{Values}
use Rattle.fr_precision.proofs.Counting.{count_less}
use Rattle.fr_log.specs.View.{LogView}
use Rattle.fr_course.specs.Computed.{deviation_seen, further_by, measuring_of, own_value, rate_value_seen}
use Rattle.fr_course.specs.Middles.{middle}
use Rattle.fr_course.specs.Terms.{rate_step_seen}
use Rattle.fr_course.specs.declared.courses.Course.{Course}
use Rattle.fr_course.specs.declared.intervals.Interval.{Interval}
use Rattle.fr_course.specs.Scales.{Scale}
use Rattle.fr_course.proofs.Middling.{middle-least}
use Rattle.fr_sightings.specs.declared.sender.Sender.{Sender}
use Rattle.fr_observe.specs.Faults.{further_of, other_courses, stated_flutter, unlike_fault}
use Rattle.fr_observe.specs.Observing.{terms_of}
use Rattle.fr_judging.specs.Missing.{unlike_term}
use Rattle.fr_observe.specs.declared.term.Term.{Term}
use Rattle.fr_observe.specs.declared.term.Term.TheVariants.{Offset, Rate}
use Rattle.fr_seen_runs.specs.Standings.{IsNoLess}
use Rattle.fr_seen_runs.proofs.ComputedLists.{all_pass}

-- ---- the first number that passes a test

-- none before it passes, and none at all where there is none
before_found : (test : ℕ → Bool) (a n least : ℕ) → find test (range_with_len a n) ≡ Some least → (k : ℕ) → a ≤ k → k < least → test k ≡ false
before_found test a zero least is k from less = absurd (cc is)
before_found test a (suc n) least is k from less = by (test a) refl is (λ rest later. before_found test (a + 1) n least rest k later less)
  where
    same : (a b : ℕ) → Some a ≡ Some b → a ≡ b
    same a b e = cc e

    at : (b : Bool) → (a == k) ≡ b → test a ≡ false → (a + 1 ≤ k → test k ≡ false) → test k ≡ false
    at true here fails later = let e : a ≡ k = eqb-true a k here in ap test (sym e) ∙ fails
    at false there fails later = later (grind arith)

    by : (b : Bool) → test a ≡ b → cond b (Some a) (find test (range_with_len (a + 1) n)) ≡ Some least
        → (find test (range_with_len (a + 1) n) ≡ Some least → a + 1 ≤ k → test k ≡ false) → test k ≡ false
    by true passes first later = let e = same a least first in absurd (omega (arith, e, from, less))
    by false fails rest later = at (a == k) refl fails (later rest)

none_found : (test : ℕ → Bool) (a n : ℕ) → find test (range_with_len a n) ≡ None → (k : ℕ) → a ≤ k → k < a + n → test k ≡ false
none_found test a zero is k from less = absurd (omega (arith, from, less))
none_found test a (suc n) is k from less = by (test a) refl is (λ rest later. none_found test (a + 1) n rest k later (omega (arith, less)))
  where
    at : (b : Bool) → (a == k) ≡ b → test a ≡ false → (a + 1 ≤ k → test k ≡ false) → test k ≡ false
    at true here fails later = let e : a ≡ k = eqb-true a k here in ap test (sym e) ∙ fails
    at false there fails later = later (grind arith)

    by : (b : Bool) → test a ≡ b → cond b (Some a) (find test (range_with_len (a + 1) n)) ≡ None
        → (find test (range_with_len (a + 1) n) ≡ None → a + 1 ≤ k → test k ≡ false) → test k ≡ false
    by true passes first later = absurd (cc first)
    by false fails rest later = at (a == k) refl fails (later rest)

-- a number that passes is no less than the first one; where it counts no more than so many, there is a first one
pub least_no_less : (test : ℕ → Bool) (n most lost : ℕ) → most < n → test (min lost most) ≡ test lost → test lost ≡ true → (least : Option ℕ) → find test (range_with_len 0 n) ≡ least → IsNoLess least lost
least_no_less test n most lost less same passes None is =
    let below : min lost most < 0 + n = omega (arith, less) in
    let fails = none_found test 0 n is (min lost most) (omega arith) below in
    let e : true ≡ false = sym passes ∙ sym same ∙ fails in
    cc e
least_no_less test n most lost less same passes (Some least) is = elim (cases_lt lost least) [
  | inl before ↦ (let e : true ≡ false = sym passes ∙ before_found test 0 n least is lost (omega arith) before in absurd (cc e))
  | inr le ↦ le
]

-- ---- a node misses no more than all others

module _ (p : Values) (l : LogView) (scale : Scale) (double : ℕ) (senders : List Sender) (s : Sender) where
  abbrev others : List Course
  others = other_courses senders s.node

  abbrev least_of_both : ℕ → ℕ
  least_of_both lost = min lost (length others)

  same_middle : (lost : ℕ) (known : List Interval) → length known ≡ suc (length others) → middle (further_of p senders) (least_of_both lost) known ≡ middle (further_of p senders) lost known
  same_middle lost known long =
      let all : min lost (length known - 1) ≡ min lost (length others) = ap (λ n. min lost (n - 1)) long ∙ less (length others) in
      ap (λ n. middle (further_of p senders) n known) (sym all) ∙ middle-least (further_of p senders) lost known
    where
      less : (n : ℕ) → min lost (suc n - 1) ≡ min lost n
      less n = omega arith

  long_with : (box : Course → Interval) → length (own_value ∷ map box others) ≡ suc (length others)
  long_with box = ap suc (length-map others box)

  -- so nothing changes beyond that
  pub same_term : (kind : Term) (lost : ℕ) → unlike_term kind p l scale double senders s (least_of_both lost) ≡ unlike_term kind p l scale double senders s lost
  same_term Offset lost =
      let box = deviation_seen scale (measuring_of p (stated_flutter p l)) s.course in
      ap (unlike_fault Offset (2 * double + 1) s.node (terms_of scale s)) (same_middle lost (own_value ∷ map box others) (long_with box))
  same_term Rate lost =
      let box = rate_value_seen scale (measuring_of p (stated_flutter p l)) s.course in
      ap (λ o. unlike_fault Rate (2 * double + 1) s.node (option_map (rate_step_seen scale s.course) s.next) (option_map (further_by (measuring_of p (stated_flutter p l)).damping) o))
      (same_middle lost (own_value ∷ map box others) (long_with box))

  -- and the others are fewer than all
  pub fewer_others : Contains senders s → length others < length senders
  fewer_others among =
      let test : Sender → Bool = λ t. not (t.node == s.node) in
      let less = count_less test (λ (t : Sender). true) senders s (λ t passes. refl) among (ap not (equal s.node)) refl in
      let long = length-filter test senders in
      let whole = all_pass senders in
      let courses = length-map (filter test senders) (λ (t : Sender). t.course) in
      omega (arith, less, long, whole, courses)
    where
      equal : (a : ℕ) → (a == a) ≡ true
      equal a = grind arith
