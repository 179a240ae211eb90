-- Where more may have been missed the middle is at least as wide at both ends, whether or not a number lies in it: so what lies beside it
-- lies beside that of fewer.
use Rattle.std.proofs.Common.{map, ◌≡◌, ◌∙◌, ℕ, zero, suc, ◌+◌, ◌*◌, [], ◌∷◌, ◌<◌, ◌≤◌, Bool, true, false, cond, ℤ, List, length, Option, Some, None, is_none, is_some, refl, sym, ap, subst, arith}
use Rattle.std.specs.Prelude.{◌==◌, not, filter, Contains, ◌≤ℤ◌, ◌||◌, int_lt, nat_le, nat_lt, if◌then◌else◌}
use Rattle.std.specs.List.{find, range_with_len}
use Rattle.std.specs.Option.{option_map}
use Rattle.std.proofs.lemmas.Bool.Decides.{nat_tests}
use Rattle.std.proofs.lemmas.Int.{ints, clamps}
use Rattle.std.proofs.lemmas.List.Sums.{count_by-le-length, length-filter}
use Rattle.fr_cluster.specs.Values.{Values}
use Rattle.fr_log.specs.View.{LogView}
use Rattle.fr_course.specs.Computed.{further_by, measuring_of, own_value, rate_value_seen}
use Rattle.fr_course.specs.Middles.{hull, middle, middle_missing}
use Rattle.fr_course.specs.Terms.{rate_step_seen}
use Rattle.fr_course.specs.declared.courses.Course.{Course}
use Rattle.fr_course.specs.declared.intervals.Interval.{Interval}
use Rattle.fr_course.specs.Scales.{Scale}
use Rattle.fr_sightings.specs.declared.sender.Sender.{Sender}
use Rattle.fr_observe.specs.Observing.{terms_of}
use Rattle.fr_observe.specs.Faults.{other_courses, offset_due, rate_due, stated_flutter, unlike_fault, unlike_with}
use Rattle.fr_observe.specs.declared.fault.Fault.{Fault}
use Rattle.fr_observe.specs.declared.term.Term.{Term}
use Rattle.fr_observe.specs.declared.term.Term.TheVariants as term
use Rattle.fr_judging.specs.LeastMissed.{FewerMissedContradict, MissedIsLeast, NoneMissedSuffices, WhateverMissedContradicts}
use Rattle.fr_judging.specs.Missing.{unlike_term}

-- ---- wider

-- at both ends; without limits it is widest
abbrev IsWider : Option Interval → Option Interval → Type 0
IsWider less None = Unit {0}
IsWider None (Some wide) = ⊥
IsWider (Some less) (Some wide) = (wide.low ≤ℤ less.low) × (less.high ≤ℤ wide.high)

as_wide : (o : Option Interval) → IsWider o o
as_wide None = tt
as_wide (Some i) = (omega (arith, ints), omega (arith, ints))

hull_wider : (one other : Option Interval) → IsWider one (hull one other)
hull_wider None other = tt
hull_wider (Some one) None = tt
hull_wider (Some one) (Some other) = (omega (arith, ints, clamps), omega (arith, ints, clamps))

wider_on : (a b c : Option Interval) → IsWider a b → IsWider b c → IsWider a c
wider_on a b None one other = tt
wider_on a None (Some c) one other = absurd other
wider_on None (Some b) (Some c) one other = absurd one
wider_on (Some a) (Some b) (Some c) one other = (omega (arith, ints, one.0, other.0), omega (arith, ints, one.1, other.1))

wider_by : (b : Bool) (one other : Option Interval) → IsWider one (if b then hull one other else one)
wider_by true one other = hull_wider one other
wider_by false one other = as_wide one

wider_one : (further lost : ℕ) (known : List Interval) → IsWider (middle further lost known) (middle further (suc lost) known)
unfolding middle
wider_one further lost known =
    wider_by (nat_lt (suc lost) (length known)) (middle further lost known) (middle_missing further (suc lost) known)

no_less : (m : ℕ) → m ≤ 0 → m ≡ 0
no_less m le = omega (arith, le)

last_of : (m more : ℕ) → m ≤ suc more → more < m → m ≡ suc more
last_of m more le lt = omega (arith, le, lt)

module _ (further : ℕ) (known : List Interval) where
  wider_of : (lost more : ℕ) (b : Bool) → nat_le lost more ≡ b → lost ≤ suc more
      → (lost ≤ more → IsWider (middle further lost known) (middle further more known))
      → IsWider (middle further lost known) (middle further (suc more) known)
  wider_of lost more true fewer le rest =
      wider_on (middle further lost known) (middle further more known) (middle further (suc more) known) (rest (grind (arith, nat_tests)))
      (wider_one further more known)
  wider_of lost more false not_fewer le rest =
      let last : lost ≡ suc more = last_of lost more le (grind (arith, nat_tests)) in
      subst (λ n. IsWider (middle further lost known) (middle further n known)) last (as_wide (middle further lost known))

  wider : (lost more : ℕ) → lost ≤ more → IsWider (middle further lost known) (middle further more known)
  wider lost zero le =
      subst (λ n. IsWider (middle further lost known) (middle further n known)) (no_less lost le) (as_wide (middle further lost known))
  wider lost (suc more) le = wider_of lost more (nat_le lost more) refl le (λ fewer. wider lost more fewer)

wider_further : (more : ℤ) (a b : Option Interval) → IsWider a b → IsWider (option_map (further_by more) a) (option_map (further_by more) b)
wider_further more a None is = tt
wider_further more None (Some b) is = absurd is
wider_further more (Some a) (Some b) is = (omega (arith, ints, is.0), omega (arith, ints, is.1))

-- ---- what lies beside it

told_where : (b : Bool) (fault : Fault) → is_some (if b then Some fault else None) ≡ b
told_where true fault = refl
told_where false fault = refl

beside : (seen_low seen_high less_low less_high wide_low wide_high : ℤ) → wide_low ≤ℤ less_low → less_high ≤ℤ wide_high
    → (int_lt seen_high wide_low || int_lt wide_high seen_low) ≡ true → (int_lt seen_high less_low || int_lt less_high seen_low) ≡ true
beside seen_low seen_high less_low less_high wide_low wide_high low high is = grind (arith, ints)

unlike_fewer : (what : Term) (cycle node : ℕ) (seen less wide : Option Interval) → IsWider less wide
    → is_some (unlike_fault what cycle node seen wide) ≡ true → is_some (unlike_fault what cycle node seen less) ≡ true
unlike_fewer what cycle node None less wide wider is = absurd (cc is)
unlike_fewer what cycle node (Some seen) less None wider is = absurd (cc is)
unlike_fewer what cycle node (Some seen) None (Some wide) wider is = absurd wider
unlike_fewer what cycle node (Some seen) (Some less) (Some wide) wider is =
    told_where (int_lt seen.high less.low || int_lt less.high seen.low) (unlike_with what cycle node seen less)
    ∙ beside seen.low seen.high less.low less.high wide.low wide.high wider.0 wider.1
    (sym (told_where (int_lt seen.high wide.low || int_lt wide.high seen.low) (unlike_with what cycle node seen wide)) ∙ is)

module _ (p : Values) (l : LogView) (scale : Scale) (double : ℕ) (senders : List Sender) (s : Sender) where
  fewer_missed : (what : Term) (fewer lost : ℕ) → fewer ≤ lost → is_some (unlike_term what p l scale double senders s lost) ≡ true
      → is_some (unlike_term what p l scale double senders s fewer) ≡ true
  fewer_missed term.Offset fewer lost le is =
      unlike_fewer term.Offset _ _ _ (offset_due p l scale senders fewer s) (offset_due p l scale senders lost s) (wider _ _ fewer lost le) is
  fewer_missed term.Rate fewer lost le is =
      unlike_fewer term.Rate _ _ _ (rate_due p l scale senders fewer s) (rate_due p l scale senders lost s)
      (wider_further (measuring_of p (stated_flutter p l)).damping _ _ (wider _ _ fewer lost le)) is

-- ---- the least

some_or_none : {X : Type 0} (o : Option X) → is_none o ≡ false → is_some o ≡ true
some_or_none None is = absurd (cc is)
some_or_none (Some x) is = refl

none_or_some : {X : Type 0} (o : Option X) → is_none o ≡ true → is_some o ≡ true → ⊥
none_or_some None none some = cc some
none_or_some (Some x) none some = cc none

not_true : (b : Bool) → (b ≡ true → ⊥) → b ≡ false
not_true true not = absurd (not refl)
not_true false not = refl

some_is : (n m : ℕ) → Some n ≡ Some m → n ≡ m
some_is n m is = cc is

module _ (test : ℕ → Bool) where
  -- it passes, and none before it does
  record IsFirstOf (first least : ℕ) : Type 0 where
    passes : test least ≡ true
    before : (k : ℕ) → first ≤ k → k < least → test k ≡ false

  later : (first least : ℕ) → test first ≡ false → IsFirstOf (first + 1) least → IsFirstOf first least
  later first least fails is =
      record {
        passes = is.passes;
        before = λ k from to. by k from to (nat_lt first k) refl;
      }
    where
      by : (k : ℕ) → first ≤ k → k < least → (b : Bool) → nat_lt first k ≡ b → test k ≡ false
      by k from to true lt = is.before k (grind (arith, nat_tests)) to
      by k from to false lt =
          let same : first ≡ k = grind (arith, nat_tests) in
          subst (λ n. test n ≡ false) same fails

  found_by : (first n least : ℕ) (b : Bool) → test first ≡ b → cond b (Some first) (find test (range_with_len (first + 1) n)) ≡ Some least
      → (find test (range_with_len (first + 1) n) ≡ Some least → IsFirstOf (first + 1) least) → IsFirstOf first least
  found_by first n least true passes is rest =
      let same : first ≡ least = some_is first least is in
      record {
        passes = subst (λ n. test n ≡ true) same passes;
        before = λ k from to. absurd (omega (arith, from, to, same));
      }
  found_by first n least false fails is rest = later first least fails (rest is)

  found : (first n least : ℕ) → find test (range_with_len first n) ≡ Some least → IsFirstOf first least
  found first zero least is = absurd (cc is)
  found first (suc n) least is = found_by first n least (test first) refl is (found (first + 1) n least)

  -- none of them passes
  abbrev AreNone : ℕ → ℕ → Type 0
  AreNone first n = (k : ℕ) → first ≤ k → k < first + n → test k ≡ false

  none_by : (first n : ℕ) (b : Bool) → test first ≡ b → cond b (Some first) (find test (range_with_len (first + 1) n)) ≡ None
      → (find test (range_with_len (first + 1) n) ≡ None → AreNone (first + 1) n) → AreNone first (suc n)
  none_by first n true passes is rest = absurd (cc is)
  none_by first n false fails is rest = λ k from to. at k from to (nat_lt first k) refl
    where
      at : (k : ℕ) → first ≤ k → k < first + suc n → (b : Bool) → nat_lt first k ≡ b → test k ≡ false
      at k from to true lt = rest is k (grind (arith, nat_tests)) (omega (arith, to))
      at k from to false lt =
          let same : first ≡ k = grind (arith, nat_tests) in
          subst (λ n. test n ≡ false) same fails

  none : (first n : ℕ) → find test (range_with_len first n) ≡ None → AreNone first n
  none first zero is = λ k from to. absurd (omega (arith, from, to))
  none first (suc n) is = none_by first n (test first) refl is (none (first + 1) n)

  none_back_by : (first n : ℕ) (b : Bool) → test first ≡ b → test first ≡ false → find test (range_with_len (first + 1) n) ≡ None
      → cond b (Some first) (find test (range_with_len (first + 1) n)) ≡ None
  none_back_by first n true passes fails rest = absurd (cc (passes, fails))
  none_back_by first n false passes fails rest = rest

  none_back : (first n : ℕ) → AreNone first n → find test (range_with_len first n) ≡ None
  none_back first zero are = refl
  none_back first (suc n) are =
      none_back_by first n (test first) refl (are first (omega arith) (omega arith))
      (none_back (first + 1) n (λ k from to. are k (omega (arith, from)) (omega (arith, to))))

-- ---- the laws

pub fewer_missed_contradict_lem : FewerMissedContradict
fewer_missed_contradict_lem what p l scale double senders s fewer lost le is =
    fewer_missed p l scale double senders s what fewer lost le is

module _ (what : Term) (p : Values) (l : LogView) (scale : Scale) (double : ℕ) (senders : List Sender) (s : Sender) where
  abbrev passes_at : ℕ → Bool
  passes_at lost = is_none (unlike_term what p l scale double senders s lost)

  least_or_more : (least lost : ℕ) → IsFirstOf passes_at 0 least → passes_at lost ≡ true → (b : Bool) → nat_le least lost ≡ b → least ≤ lost
  least_or_more least lost is none true le = grind (arith, nat_tests)
  least_or_more least lost is none false more =
      let less : lost < least = grind (arith, nat_tests) in
      absurd (cc (none, is.before lost (omega arith) less))

  more_is_none : (least lost : ℕ) → IsFirstOf passes_at 0 least → least ≤ lost → (b : Bool) → passes_at lost ≡ b → passes_at lost ≡ true
  more_is_none least lost is le true none = none
  more_is_none least lost is le false some =
      absurd (
      none_or_some (unlike_term what p l scale double senders s least) is.passes
      (
      fewer_missed p l scale double senders s what least lost le (some_or_none (unlike_term what p l scale double senders s lost) some)
      )
      )

pub missed_is_least_lem : MissedIsLeast
missed_is_least_lem what p l scale double senders s least lost is =
    let test : ℕ → Bool = passes_at what p l scale double senders s in
    let first : IsFirstOf test 0 least = found test 0 (length senders) least is in (
      (λ none. least_or_more what p l scale double senders s least lost first none (nat_le least lost) refl),
      (λ le. more_is_none what p l scale double senders s least lost first le (test lost) refl),
    )

pub none_missed_suffices_lem : NoneMissedSuffices
none_missed_suffices_lem what p l scale double senders s =
    let test : ℕ → Bool = passes_at what p l scale double senders s in (
      (λ is lost few. some_or_none (unlike_term what p l scale double senders s lost) (none test 0 (length senders) is lost (omega arith) (omega (arith, few)))),
      (λ all. none_back test 0 (length senders) (λ lost from to. not_true (test lost) (λ passes. none_or_some (unlike_term what p l scale double senders s lost) passes (all lost (omega (arith, to)))))),
    )

-- ---- more than all others

module _ (further : ℕ) (known : List Interval) (most : ℕ) (few : length known ≤ suc most) where
  stays_by : (lost : ℕ) (b : Bool) → nat_lt (suc lost) (length known) ≡ b → most ≤ lost
      → (if b then hull (middle further lost known) (middle_missing further (suc lost) known) else middle further lost known) ≡ middle further lost known
  stays_by lost true more le =
      let less : suc lost < length known = grind (arith, nat_tests) in
      absurd (omega (arith, less, few, le))
  stays_by lost false more le = refl

  one_more : (lost : ℕ) → most ≤ lost → middle further (suc lost) known ≡ middle further lost known
  unfolding middle
  one_more lost le = stays_by lost (nat_lt (suc lost) (length known)) refl le

  stays_on : (lost : ℕ) (b : Bool) → nat_le most lost ≡ b → most ≤ suc lost → (most ≤ lost → middle further lost known ≡ middle further most known)
      → middle further (suc lost) known ≡ middle further most known
  stays_on lost true fewer le rest =
      let at : most ≤ lost = grind (arith, nat_tests) in
      one_more lost at ∙ rest at
  stays_on lost false not_fewer le rest =
      let last : most ≡ suc lost = last_of most lost le (grind (arith, nat_tests)) in
      sym (ap (λ (n : ℕ). middle further n known) last)

  stays : (lost : ℕ) → most ≤ lost → middle further lost known ≡ middle further most known
  stays zero le = sym (ap (λ (n : ℕ). middle further n known) (no_less most le))
  stays (suc lost) le = stays_on lost (nat_le most lost) refl le (λ fewer. stays lost fewer)

long_map : {X Y : Type 0} (f : X → Y) (xs : List X) → length (map f xs) ≡ length xs
long_map f [] = refl
long_map f (x ∷ xs) = ap suc (long_map f xs)

same_number : (n : ℕ) → (n == n) ≡ true
same_number n = grind (arith, nat_tests)

-- one of the senders is none of the others
module _ (s : Sender) where
  abbrev is_other : Sender → Bool
  is_other other = not (other.node == s.node)

  fewer_by : (b : Bool) (other : Sender) (others : List Sender) → is_other other ≡ b
      → suc (length (filter is_other others)) ≤ length others → suc (length (if b then other ∷ filter is_other others else filter is_other others)) ≤ suc (length others)
  fewer_by true other others is rest = omega (arith, rest)
  fewer_by false other others is rest = omega (arith, rest)

  no_more : (others : List Sender) → length (filter is_other others) ≤ length others
  no_more others = subst (λ n. n ≤ length others) (sym (length-filter is_other others)) (count_by-le-length is_other others)

  none_here : (other : Sender) (others : List Sender) (b : Bool) → is_other other ≡ b → b ≡ false
      → suc (length (if b then other ∷ filter is_other others else filter is_other others)) ≤ suc (length others)
  none_here other others true is not = absurd (cc not)
  none_here other others false is not = omega (arith, no_more others)

  fewer_others : (senders : List Sender) → Contains senders s → suc (length (filter is_other senders)) ≤ length senders
  fewer_others [] among = absurd (omega (arith, among.1))
  fewer_others (other ∷ others) (zero, lt, is) =
      let node : (other.node == s.node) ≡ true = ap (λ (x : Sender). x.node == s.node) is ∙ same_number s.node in
      none_here other others (is_other other) refl (ap not node)
  fewer_others (other ∷ others) (suc k, lt, is) =
      fewer_by (is_other other) other others refl (fewer_others others (k, omega (arith, lt), is))

module _ (p : Values) (l : LogView) (scale : Scale) (double : ℕ) (senders : List Sender) (s : Sender) (most : ℕ) (is_most : length senders ≡ suc most)
    (among : Contains senders s) where
  few_known : (f : Course → Interval) → length (own_value ∷ map f (other_courses senders s.node)) ≤ suc most
  few_known f =
      let one : length (map f (other_courses senders s.node)) ≡ length (other_courses senders s.node) = long_map f (other_courses senders s.node) in
      let two : length (other_courses senders s.node) ≡ length (filter (is_other s) senders) = long_map (λ (x : Sender). x.course) (filter (is_other s) senders) in
      omega (arith, one, two, is_most, fewer_others s senders among)

  whatever : (what : Term) (lost : ℕ) → most ≤ lost → is_some (unlike_term what p l scale double senders s most) ≡ true
      → is_some (unlike_term what p l scale double senders s lost) ≡ true
  whatever term.Offset lost le is =
      let same : offset_due p l scale senders lost s ≡ offset_due p l scale senders most s = stays _ _ most (few_known _) lost le in
      ap (λ (o : Option Interval). is_some (unlike_fault term.Offset (2 * double + 1) s.node (terms_of scale s) o)) same ∙ is
  whatever term.Rate lost le is =
      let m = measuring_of p (stated_flutter p l) in
      let same : rate_due p l scale senders lost s ≡ rate_due p l scale senders most s =
      ap (option_map (further_by m.damping)) (stays _ _ most (few_known (rate_value_seen scale m s.course)) lost le) in
      ap (λ (o : Option Interval). is_some (unlike_fault term.Rate (2 * double + 1) s.node (option_map (rate_step_seen scale s.course) s.next) o)) same ∙ is

pub whatever_missed_contradicts_lem : WhateverMissedContradicts
whatever_missed_contradicts_lem what p l scale double senders s lost among is = by (length senders) refl (nat_lt lost (length senders)) refl
  where
    all : (k : ℕ) → k < length senders → is_some (unlike_term what p l scale double senders s k) ≡ true
    all k lt = (none_missed_suffices_lem what p l scale double senders s).0 is k lt

    by : (n : ℕ) → length senders ≡ n → (b : Bool) → nat_lt lost (length senders) ≡ b → is_some (unlike_term what p l scale double senders s lost) ≡ true
    by n long true fewer = all lost (grind (arith, nat_tests))
    by zero long false more = absurd (omega (arith, long, fewer_others s senders among))
    by (suc most) long false more =
        let few : length senders ≤ lost = grind (arith, nat_tests) in
        whatever p l scale double senders s most long among what lost (omega (arith, long, few)) (all most (omega (arith, long)))
