-- Sightings in the order of their double cycles: of those from a double cycle on, the first ones are of it.
use Rattle.std.proofs.Common.{◌≡◌, ℕ, ◌+◌, ◌*◌, ◌<◌, ◌≤◌, ◌==◌, zero, suc, Bool, true, false, List, [], ◌∷◌, ◌++◌, cond, take, drop, length, get_or, slice_get, ◌-◌, All, Option, Some, None, refl, sym, ap, ◌∙◌, subst, arith, take-append-drop}
use Rattle.std.specs.Prelude.{nat_lt}
use Rattle.std.specs.List.{prefix_len}
use Rattle.std.specs.Option.{unwrap_or}
use Rattle.std.proofs.lemmas.Option.{get_or_from_slice_get}
use Rattle.std.proofs.lemmas.Bool.Decides.{nat_tests}
use Rattle.std.proofs.lemmas.List.Elements.{All-cons, All-drop, All-head, All-tail, All-take, All-weaker, filter-append, filter_passes}
use Rattle.fr_log.specs.Rows.{last_stamp}
use Rattle.fr_log.specs.View.{LogView}
use Rattle.fr_sightings.specs.Ranges.{AreSeenFrom, AreLogStamps, DoublesAscend}
use Rattle.fr_sightings.specs.Senders.{double_of, is_in, is_of_earlier, sightings_in}
use Rattle.fr_sightings.specs.declared.sighting.Sighting.{Sighting}

-- what lies behind a sighting
ascend-first : (s : Sighting) (seen : List Sighting) → DoublesAscend (s ∷ seen) → AreSeenFrom (double_of s) seen
ascend-first s seen ascend k d lt = ascend 0 (suc k) d (omega arith) (omega arith)

ascend-rest : (s : Sighting) (seen : List Sighting) → DoublesAscend (s ∷ seen) → DoublesAscend seen
ascend-rest s seen ascend i j d le lt = ascend (suc i) (suc j) d (omega arith) (omega arith)

pub ascend-drop : (n : ℕ) (seen : List Sighting) → DoublesAscend seen → DoublesAscend (drop n seen)
ascend-drop zero seen ascend = ascend
ascend-drop (suc n) [] ascend = ascend
ascend-drop (suc n) (s ∷ seen) ascend = ascend-drop n seen (ascend-rest s seen ascend)

-- none is of a double cycle that is that of none
none-are : (double : ℕ) (seen : List Sighting) → All (λ s. is_in double s ≡ false) seen → sightings_in seen double ≡ []
none-are double [] none = refl
none-are double (s ∷ seen) none =
    let P : Sighting → Type 0 = λ t. is_in double t ≡ false in
    ap (λ (b : Bool). cond b (s ∷ sightings_in seen double) (sightings_in seen double)) (All-head P s seen none)
    ∙ none-are double seen (All-tail P s seen none)

unlike : (a b : ℕ) → a < b → (b == a) ≡ false
unlike a b less = grind (arith, nat_tests)

unlike-two : (a b n : ℕ) → (n == a) ≡ true → a < b → (n == b) ≡ false
unlike-two a b n is less = grind (arith, nat_tests, is)

is-same : (a b : ℕ) → (a == b) ≡ true → a ≡ b
is-same a b is = grind (arith, nat_tests, is)

not-same : (a b : ℕ) → (a == b) ≡ false → b ≤ a → b + 1 ≤ a
not-same a b unlike le = grind (arith, nat_tests, unlike, le)

pub none-later : (double : ℕ) (seen : List Sighting) → AreSeenFrom (double + 1) seen → sightings_in seen double ≡ []
none-later double seen from =
    none-are double seen (All-weaker (λ s. double + 1 ≤ double_of s) (λ s. is_in double s ≡ false) (λ s more. unlike double (double_of s) (omega (arith, more))) seen from)

-- those of the double cycle come first
pub record IsCut (double n : ℕ) (seen : List Sighting) : Type 0 where
  pub here : take n seen ≡ sightings_in seen double
  pub behind : AreSeenFrom (double + 1) (drop n seen)

pub first-cut : (double : ℕ) (seen : List Sighting) → DoublesAscend seen → AreSeenFrom double seen → IsCut double (prefix_len (is_in double) seen) seen
first-cut double [] ascend from = record { here = refl; behind = λ k d lt. absurd (omega (arith, lt)) }
first-cut double (s ∷ seen) ascend from =
    by (is_in double s) refl (first-cut double seen (ascend-rest s seen ascend) (All-tail (λ t. double ≤ double_of t) s seen from))
  where
    low : double ≤ double_of s
    low = All-head (λ t. double ≤ double_of t) s seen from

    Cut : ℕ → List Sighting → Type 0
    Cut n kept = (take n (s ∷ seen) ≡ kept) × AreSeenFrom (double + 1) (drop n (s ∷ seen))

    by : (b : Bool) → is_in double s ≡ b → IsCut double (prefix_len (is_in double) seen) seen → IsCut double (prefix_len (is_in double) (s ∷ seen)) (s ∷ seen)
    by true is rest =
        let n = prefix_len (is_in double) seen in
        let one : suc n ≡ 1 + n = omega arith in
        let cut : Cut (suc n) (s ∷ sightings_in seen double) = (ap (λ (l : List Sighting). s ∷ l) rest.here, rest.behind) in
        let whole : Cut (cond (is_in double s) (1 + n) 0) (cond (is_in double s) (s ∷ sightings_in seen double) (sightings_in seen double)) =
        subst (λ (b : Bool). Cut (cond b (1 + n) 0) (cond b (s ∷ sightings_in seen double) (sightings_in seen double))) (sym is)
        (subst (λ (m : ℕ). Cut m (s ∷ sightings_in seen double)) one cut) in
        record { here = whole.0; behind = whole.1 }
    by false is rest =
        let n = prefix_len (is_in double) seen in
        let more : double + 1 ≤ double_of s = not-same (double_of s) double is low in
        let later : AreSeenFrom (double + 1) (s ∷ seen) = λ k d lt. at k d lt more in
        let none : sightings_in seen double ≡ [] = none-later double seen (All-tail (λ t. double + 1 ≤ double_of t) s seen later) in
        let whole : Cut (cond (is_in double s) (1 + n) 0) (cond (is_in double s) (s ∷ sightings_in seen double) (sightings_in seen double)) =
        subst (λ (b : Bool). Cut (cond b (1 + n) 0) (cond b (s ∷ sightings_in seen double) (sightings_in seen double))) (sym is)
        (sym none, later) in
        record { here = whole.0; behind = whole.1 }
      where
        at : (k : ℕ) (d : Sighting) → k < length (s ∷ seen) → double + 1 ≤ double_of s → double + 1 ≤ double_of (get_or (s ∷ seen) k d)
        at k d lt more = let le : double_of s ≤ double_of (get_or (s ∷ seen) k d) = ascend 0 k d (omega arith) lt in omega (arith, more, le)

-- the others are those behind them
pub later-cut : (double n later : ℕ) (seen : List Sighting) → double < later → take n seen ≡ sightings_in seen double → sightings_in (drop n seen) later ≡ sightings_in seen later
later-cut double n later seen less here =
    let none : sightings_in (take n seen) later ≡ [] =
    none-are later (take n seen)
    (subst (All (λ s. is_in later s ≡ false)) (sym here)
    (All-weaker (λ s. is_in double s ≡ true) (λ s. is_in later s ≡ false) (λ s is. unlike-two double later (double_of s) is less) (sightings_in seen double) (filter_passes (is_in double) seen))) in
    sym (
    ap (λ (l : List Sighting). sightings_in l later) (sym (take-append-drop n seen))
    ∙ filter-append (is_in later) (take n seen) (drop n seen)
    ∙ ap (λ (l : List Sighting). l ++ sightings_in (drop n seen) later) none
    )

-- what is looked at
pub timed-take : (l : LogView) (n : ℕ) (seen : List Sighting) → AreLogStamps l seen → AreLogStamps l (take n seen)
timed-take l n seen timed = All-take (λ s. l.unit * s.stamp ≤ last_stamp) n seen timed

pub timed-drop : (l : LogView) (n : ℕ) (seen : List Sighting) → AreLogStamps l seen → AreLogStamps l (drop n seen)
timed-drop l n seen timed = All-drop (λ s. l.unit * s.stamp ≤ last_stamp) n seen timed

-- what is looked at of sightings: those of a double cycle, all behind them, and those of the next one
pub record IsLooked (double : ℕ) (seen here behind next : List Sighting) : Type 0 where
  pub here_is : here ≡ sightings_in seen double
  pub next_is : next ≡ sightings_in seen (double + 1)
  pub later : (later : ℕ) → double < later → sightings_in behind later ≡ sightings_in seen later
  pub ascend : DoublesAscend behind
  pub from : AreSeenFrom (double + 1) behind
  pub timed : (l : LogView) → AreLogStamps l seen → AreLogStamps l here × AreLogStamps l next × AreLogStamps l behind

pub looked : (double : ℕ) (seen : List Sighting) (n m : ℕ) (here behind next : List Sighting) → DoublesAscend seen → AreSeenFrom double seen
    → n ≡ prefix_len (is_in double) seen → m ≡ prefix_len (is_in (double + 1)) behind
    → here ≡ take n seen → behind ≡ drop n seen → next ≡ take m behind → IsLooked double seen here behind next
looked double seen n m here behind next ascend from n_is m_is here_is behind_is next_is =
    let cut : IsCut double n seen = subst (λ (k : ℕ). IsCut double k seen) (sym n_is) (first-cut double seen ascend from) in
    let rise : DoublesAscend behind = subst DoublesAscend (sym behind_is) (ascend-drop n seen ascend) in
    let start : AreSeenFrom (double + 1) behind = subst (AreSeenFrom (double + 1)) (sym behind_is) cut.behind in
    let second : IsCut (double + 1) m behind = subst (λ (k : ℕ). IsCut (double + 1) k behind) (sym m_is) (first-cut (double + 1) behind rise start) in
    let later : (k : ℕ) → double < k → sightings_in behind k ≡ sightings_in seen k = λ k less.
    ap (λ (l : List Sighting). sightings_in l k) behind_is ∙ later-cut double n k seen less cut.here in
    record {
      here_is = here_is ∙ cut.here;
      next_is = next_is ∙ second.here ∙ later (double + 1) (omega arith);
      later = later;
      ascend = rise;
      from = start;
      timed = λ l timed.
          let all : AreLogStamps l behind = subst (AreLogStamps l) (sym behind_is) (timed-drop l n seen timed) in
          (subst (AreLogStamps l) (sym here_is) (timed-take l n seen timed), subst (AreLogStamps l) (sym next_is) (timed-take l m behind all), all);
    }

-- ---- from a double cycle on

unlike-up : (a b : ℕ) → a < b → (a == b) ≡ false
unlike-up a b less = grind (arith, nat_tests)

is-less : (a b : ℕ) → nat_lt a b ≡ true → a < b
is-less a b is = grind (arith, nat_tests, is)

not-less : (a b : ℕ) → nat_lt a b ≡ false → b ≤ a
not-less a b is = grind (arith, nat_tests, is)

-- those that are left behind are of double cycles before it
pub record IsBehind (double : ℕ) (seen behind : List Sighting) : Type 0 where
  pub from : AreSeenFrom double behind
  pub same : (later : ℕ) → double ≤ later → sightings_in behind later ≡ sightings_in seen later

pub behind-all : (double : ℕ) (seen : List Sighting) → DoublesAscend seen → IsBehind double seen (drop (prefix_len (is_of_earlier double) seen) seen)
behind-all double [] ascend = record { from = λ k d lt. absurd (omega (arith, lt)); same = λ later le. refl }
behind-all double (s ∷ seen) ascend = by (is_of_earlier double s) refl (behind-all double seen (ascend-rest s seen ascend))
  where
    n : ℕ
    n = prefix_len (is_of_earlier double) seen

    by : (b : Bool) → is_of_earlier double s ≡ b → IsBehind double seen (drop n seen) → IsBehind double (s ∷ seen) (drop (cond b (1 + n) 0) (s ∷ seen))
    by true is rest =
        let one : suc n ≡ 1 + n = omega arith in
        let less : double_of s < double = is-less (double_of s) double is in
        let skipped : (later : ℕ) → double ≤ later → sightings_in seen later ≡ sightings_in (s ∷ seen) later = λ later le.
        sym (ap (λ (b : Bool). cond b (s ∷ sightings_in seen later) (sightings_in seen later)) (unlike-up (double_of s) later (omega (arith, less, le)))) in
        let passed : IsBehind double (s ∷ seen) (drop (suc n) (s ∷ seen)) = record { from = rest.from; same = λ later le. rest.same later le ∙ skipped later le } in
        subst (λ (m : ℕ). IsBehind double (s ∷ seen) (drop m (s ∷ seen))) one passed
    by false is rest = record {
      from =
          All-cons (λ t. double ≤ double_of t) s seen (not-less (double_of s) double is)
          (All-weaker (λ t. double_of s ≤ double_of t) (λ t. double ≤ double_of t) (λ t le. omega (arith, le, not-less (double_of s) double is)) seen (ascend-first s seen ascend));
      same = λ later le. refl;
    }

-- ---- the first and the last sighting

same-sighting : (a b : Sighting) → Some a ≡ Some b → a ≡ b
same-sighting a b e = ap (λ (o : Option Sighting). unwrap_or o a) e

pub from-first : (seen : List Sighting) (first : Sighting) → slice_get seen 0 ≡ Some first → DoublesAscend seen → AreSeenFrom (double_of first) seen
from-first [] first is ascend k d lt = absurd (omega (arith, lt))
from-first (s ∷ seen) first is ascend k d lt =
    let same : s ≡ first = same-sighting s first is in
    let le : double_of s ≤ double_of (get_or (s ∷ seen) k d) = ascend 0 k d (omega arith) lt in
    subst (λ (t : Sighting). double_of t ≤ double_of (get_or (s ∷ seen) k d)) same le

some-there : (seen : List Sighting) (first : Sighting) → slice_get seen 0 ≡ Some first → 0 < length seen
some-there [] first is = absurd (let none : None ≡ Some first = is in cc none)
some-there (s ∷ seen) first is = omega arith

pub first-last : (seen : List Sighting) (first last : Sighting) → slice_get seen 0 ≡ Some first → slice_get seen (length seen - 1) ≡ Some last → DoublesAscend seen
    → double_of first ≤ double_of last
first-last seen first last is_first is_last ascend =
    let some : 0 < length seen = some-there seen first is_first in
    let at : get_or seen (length seen - 1) last ≡ last = get_or_from_slice_get seen (length seen - 1) last last is_last in
    subst (λ (t : Sighting). double_of first ≤ double_of t) at (from-first seen first is_first ascend (length seen - 1) last (omega (arith, some)))
