-- Levels are there. Sum a sender's quotients over as many successive whole numbers as the shortest microtick has
-- ticks. One number further that sum is greater by no more than 1. So the multiples of microticks that a walk meets
-- are too few for all these numbers.
use Rattle.std.proofs.Common.{◌≡◌, ℕ, zero, suc, ◌+◌, ◌-◌, ◌*◌, ◌<◌, ◌≤◌, Bool, true, false, ℤ, pos, negsuc, List, [], ◌∷◌, All, length, refl, ap, subst, arith}
use Rattle.std.specs.Prelude.{◌+ℤ◌, ◌-ℤ◌, ◌*ℤ◌, ◌≤ℤ◌, ◌<ℤ◌, int_le, int_lt}
use Rattle.std.specs.List.{count_by}
use Rattle.std.proofs.lemmas.Bool.{and_parts}
use Rattle.std.proofs.lemmas.Int.{ints, by_lt_z}
use Rattle.std.proofs.lemmas.List.Elements.{All-head, All-tail}
use Rattle.std.proofs.Math.Nat.{mul-le-mul_left}
use Rattle.fr_midpoint.proofs.Counts.{count_by-cons_no, count_by-cons_yes}
use Rattle.fr_midpoint.proofs.Products.{addz-mulz, mulz-lez}
use Rattle.fr_time.specs.Position.{floor_of}
use Rattle.fr_time.proofs.Lines.{rest_of}
use Rattle.fr_bound.specs.Bounds.{shortest_micro}
use Rattle.fr_bound.specs.SharpBounds.{rate_walk}
use Rattle.fr_precision.specs.Rows.{longest_cycle, shortest_cycle}
use Rattle.fr_promise.specs.HeldWalks.{is_clear_above, is_clear_below, IsHighLevel, IsLowLevel, LevelsAreThere}
use Rattle.fr_precision.proofs.Signed.{signed_of}

-- ---- quotients rounded down

-- the quotient of a number less than one more than so many divisors is no more than they are
floor_le : (n d k : ℤ) → pos 0 <ℤ d → n <ℤ ((k *ℤ d) +ℤ d) → floor_of n d ≤ℤ k
floor_le n d k some under =
    let f : ℤ = floor_of n d in
    by_lt_z
    k
    f
    (λ less.
    absurd (apart n (f *ℤ d) ((k +ℤ pos 1) *ℤ d) (k *ℤ d) (pos 1 *ℤ d) d under
    (mulz-lez (k +ℤ pos 1) f d (next k f less) (weak d some)) (addz-mulz k (pos 1) d) (once d) (rest_of n d some).from))
    (λ h. h)
  where
    next : (k f : ℤ) → k <ℤ f → (k +ℤ pos 1) ≤ℤ f
    next k f h = omega (arith, ints)

    weak : (d : ℤ) → pos 0 <ℤ d → pos 0 ≤ℤ d
    weak d h = omega (arith, ints)

    once : (d : ℤ) → pos 1 *ℤ d ≡ d
    once d = omega (arith, ints)

    apart : (n fd more kd one d : ℤ) → n <ℤ (kd +ℤ d) → more ≤ℤ fd → more ≡ kd +ℤ one → one ≡ d → pos 0 ≤ℤ (n -ℤ fd) → ⊥
    apart n fd more kd one d a b c e g = omega (arith, ints)

-- quotients do not fall where the numbers rise
floors_rise : (a b d : ℤ) → pos 0 <ℤ d → a ≤ℤ b → floor_of a d ≤ℤ floor_of b d
floors_rise a b d some le = floor_le a d (floor_of b d) some (under a b (floor_of b d *ℤ d) d le (rest_of b d some).to)
  where
    under : (a b fd d : ℤ) → a ≤ℤ b → ((b -ℤ fd) +ℤ pos 1) ≤ℤ d → a <ℤ (fd +ℤ d)
    under a b fd d le to = omega (arith, ints)

-- along a divisor they rise by no more than one
floors_step : (a b d : ℤ) → pos 0 <ℤ d → b ≤ℤ (a +ℤ d) → floor_of b d ≤ℤ (floor_of a d +ℤ pos 1)
floors_step a b d some near =
    let f : ℤ = floor_of a d in
    floor_le b d (f +ℤ pos 1) some
    (under a b (f *ℤ d) ((f +ℤ pos 1) *ℤ d) (pos 1 *ℤ d) d near (rest_of a d some).to (addz-mulz f (pos 1) d) (once d))
  where
    once : (d : ℤ) → pos 1 *ℤ d ≡ d
    once d = omega (arith, ints)

    under : (a b fd more one d : ℤ) → b ≤ℤ (a +ℤ d) → ((a -ℤ fd) +ℤ pos 1) ≤ℤ d → more ≡ fd +ℤ one → one ≡ d → b <ℤ (more +ℤ d)
    under a b fd more one d near to is same = omega (arith, ints)

-- ---- sums over successive numbers

abbrev sum_over : (ℤ → ℤ) → ℤ → ℕ → ℤ
sum_over f from zero = pos 0
sum_over f from (suc n) = sum_over f from n +ℤ f (from +ℤ pos n)

-- over numbers one further: the first goes, the next comes
sum_further : (f : ℤ → ℤ) (from : ℤ) (n : ℕ)
    → sum_over f (from +ℤ pos 1) n ≡ (sum_over f from n +ℤ f (from +ℤ pos n)) -ℤ f from
sum_further f from zero = nothing (f (from +ℤ pos 0)) (f from) (ap f (none from))
  where
    none : (a : ℤ) → a +ℤ pos 0 ≡ a
    none a = omega (arith, ints)

    nothing : (x y : ℤ) → x ≡ y → pos 0 ≡ (pos 0 +ℤ x) -ℤ y
    nothing x y is = omega (arith, ints)
sum_further f from (suc n) =
    onward (sum_over f (from +ℤ pos 1) n) (sum_over f from n) (f (from +ℤ pos n)) (f from)
    (f ((from +ℤ pos 1) +ℤ pos n)) (f (from +ℤ pos (suc n)))
    (sum_further f from n) (ap f (also from n))
  where
    also : (a : ℤ) (n : ℕ) → (a +ℤ pos 1) +ℤ pos n ≡ a +ℤ pos (suc n)
    also a n = omega (arith, ints)

    onward : (s t last first x y : ℤ) → s ≡ (t +ℤ last) -ℤ first → x ≡ y → s +ℤ x ≡ ((t +ℤ last) +ℤ y) -ℤ first
    onward s t last first x y is same = omega (arith, ints)

-- over numbers a walk further, where the function rises by no more than so much along as many as they are
sum_rises : (f : ℤ → ℤ) (n most : ℕ) → ((x : ℤ) → f (x +ℤ pos n) ≤ℤ (f x +ℤ pos most)) → (from : ℤ) (walk : ℕ)
    → sum_over f (from +ℤ pos walk) n ≤ℤ (sum_over f from n +ℤ pos (most * walk))
sum_rises f n most rises from zero =
    still (sum_over f (from +ℤ pos 0) n) (sum_over f from n) (most * 0) (ap (λ (a : ℤ). sum_over f a n) (none from))
  where
    none : (a : ℤ) → a +ℤ pos 0 ≡ a
    none a = omega (arith, ints)

    still : (s t : ℤ) (m : ℕ) → s ≡ t → s ≤ℤ (t +ℤ pos m)
    still s t m is = omega (arith, ints)
sum_rises f n most rises from (suc walk) =
    let at : ℤ = from +ℤ pos walk in
    onward (sum_over f (from +ℤ pos (suc walk)) n) (sum_over f (at +ℤ pos 1) n) (sum_over f at n) (sum_over f from n)
    (f at) (f (at +ℤ pos n)) most (most * walk) (most * suc walk)
    (ap (λ (a : ℤ). sum_over f a n) (one from walk)) (sum_further f at n) (rises at) (sum_rises f n most rises from walk) (omega arith)
  where
    one : (a : ℤ) (k : ℕ) → a +ℤ pos (suc k) ≡ (a +ℤ pos k) +ℤ pos 1
    one a k = omega (arith, ints)

    onward : (s u t first x y : ℤ) (most before after : ℕ) → s ≡ u → u ≡ (t +ℤ y) -ℤ x → y ≤ℤ (x +ℤ pos most)
        → t ≤ℤ (first +ℤ pos before) → after ≡ before + most → s ≤ℤ (first +ℤ pos after)
    onward s u t first x y most before after a b c e g = omega (arith, ints)

-- a number among so many, from a place on: from it the function rises by less than so much on a walk
record RisesLittle (f : ℤ → ℤ) (k : ℕ) (walk from : ℤ) (n : ℕ) : Type 0 where
  at : ℤ
  reached : from ≤ℤ at
  before : at <ℤ (from +ℤ pos n)
  little : f (at +ℤ walk) <ℤ (f at +ℤ pos k)

-- there is one where its sum over all of them rises by less than so much for each
some_rises_little : (f : ℤ → ℤ) (k : ℕ) (walk from : ℤ) (n : ℕ)
    → sum_over f (from +ℤ walk) n <ℤ (sum_over f from n +ℤ pos (n * k)) → RisesLittle f k walk from n
some_rises_little f k walk from zero less = absurd (none (0 * k) (omega arith) less)
  where
    none : (m : ℕ) → m ≡ 0 → pos 0 <ℤ (pos 0 +ℤ pos m) → ⊥
    none m is less = omega (arith, ints)
some_rises_little f k walk from (suc n) less =
    let last : ℤ = from +ℤ pos n in
    by_lt_z (f (last +ℤ walk)) (f last +ℤ pos k)
    (λ little. record { at = last; reached = begins from n; before = ends from n; little = little })
    (λ much.
    let fewer : sum_over f (from +ℤ walk) n <ℤ (sum_over f from n +ℤ pos (n * k)) =
    rest (sum_over f (from +ℤ walk) n) (f ((from +ℤ walk) +ℤ pos n)) (sum_over f from n) (f last) (f (last +ℤ walk)) k (n * k) (suc n * k)
    less (ap f (turned from walk n)) much (omega arith) in
    let earlier = some_rises_little f k walk from n fewer in
    record { at = earlier.at; reached = earlier.reached; before = later earlier.at from n earlier.before; little = earlier.little })
  where
    begins : (a : ℤ) (n : ℕ) → a ≤ℤ (a +ℤ pos n)
    begins a n = omega (arith, ints)

    ends : (a : ℤ) (n : ℕ) → (a +ℤ pos n) <ℤ (a +ℤ pos (suc n))
    ends a n = omega (arith, ints)

    later : (x a : ℤ) (n : ℕ) → x <ℤ (a +ℤ pos n) → x <ℤ (a +ℤ pos (suc n))
    later x a n h = omega (arith, ints)

    turned : (a w : ℤ) (n : ℕ) → (a +ℤ w) +ℤ pos n ≡ (a +ℤ pos n) +ℤ w
    turned a w n = omega (arith, ints)

    rest : (s x t y z : ℤ) (k before all : ℕ) → (s +ℤ x) <ℤ ((t +ℤ y) +ℤ pos all) → x ≡ z
        → (y +ℤ pos k) ≤ℤ z → all ≡ before + k → s <ℤ (t +ℤ pos before)
    rest s x t y z k before all a b c e = omega (arith, ints)

-- ---- the microticks of many

abbrev floors_of : List ℤ → ℤ → ℤ
floors_of [] x = pos 0
floors_of (t ∷ ts) x = floor_of x t +ℤ floors_of ts x

abbrev AreNoShorter : ℕ → List ℤ → Type 0
AreNoShorter width ts = All (λ t. pos width ≤ℤ t) ts

lasts : (t : ℤ) (width : ℕ) → 0 < width → pos width ≤ℤ t → pos 0 <ℤ t
lasts t width some long = omega (arith, ints)

-- along the shortest their quotients' sum rises by no more than one for each
floors_of_step : (ts : List ℤ) (width : ℕ) → 0 < width → AreNoShorter width ts → (x : ℤ)
    → floors_of ts (x +ℤ pos width) ≤ℤ (floors_of ts x +ℤ pos (length ts))
floors_of_step [] width some long x = omega (arith, ints)
floors_of_step (t ∷ ts) width some long x =
    let own : pos width ≤ℤ t = All-head (λ u. pos width ≤ℤ u) t ts long in
    sum (floor_of (x +ℤ pos width) t) (floor_of x t) (floors_of ts (x +ℤ pos width)) (floors_of ts x) (length ts)
    (floors_step x (x +ℤ pos width) t (lasts t width some own) (near x t width own))
    (floors_of_step ts width some (All-tail (λ u. pos width ≤ℤ u) t ts long) x)
  where
    near : (x t : ℤ) (width : ℕ) → pos width ≤ℤ t → (x +ℤ pos width) ≤ℤ (x +ℤ t)
    near x t width h = omega (arith, ints)

    sum : (a b c d : ℤ) (n : ℕ) → a ≤ℤ (b +ℤ pos 1) → c ≤ℤ (d +ℤ pos n) → (a +ℤ c) ≤ℤ ((b +ℤ d) +ℤ pos (suc n))
    sum a b c d n h k = omega (arith, ints)

-- on a walk it rises by at least one for each that has a multiple there
floors_of_rise : (ts : List ℤ) (width : ℕ) → 0 < width → AreNoShorter width ts → (walk x : ℤ) → pos 0 ≤ℤ walk
    → (floors_of ts x +ℤ pos (length ts)) ≤ℤ (floors_of ts (x +ℤ walk) +ℤ pos (count_by (is_clear_above walk x) ts))
floors_of_rise [] width some long walk x from = omega (arith, ints)
floors_of_rise (t ∷ ts) width some long walk x from =
    by (is_clear_above walk x t) refl
    (floors_of_rise ts width some (All-tail (λ u. pos width ≤ℤ u) t ts long) walk x from)
    (floors_rise x (x +ℤ walk) t (lasts t width some (All-head (λ u. pos width ≤ℤ u) t ts long)) (further x walk from))
  where
    further : (x walk : ℤ) → pos 0 ≤ℤ walk → x ≤ℤ (x +ℤ walk)
    further x walk h = omega (arith, ints)

    clear : (a b c d : ℤ) (n count all : ℕ) → a ≤ℤ b → (c +ℤ pos n) ≤ℤ (d +ℤ pos count) → all ≡ suc count
        → ((a +ℤ c) +ℤ pos (suc n)) ≤ℤ ((b +ℤ d) +ℤ pos all)
    clear a b c d n count all h k e = omega (arith, ints)

    hit : (a b c d : ℤ) (n count all : ℕ) → int_le b a ≡ false → (c +ℤ pos n) ≤ℤ (d +ℤ pos count) → all ≡ count
        → ((a +ℤ c) +ℤ pos (suc n)) ≤ℤ ((b +ℤ d) +ℤ pos all)
    hit a b c d n count all h k e = omega (arith, ints)

    by : (b : Bool) → is_clear_above walk x t ≡ b
        → (floors_of ts x +ℤ pos (length ts)) ≤ℤ (floors_of ts (x +ℤ walk) +ℤ pos (count_by (is_clear_above walk x) ts))
        → floor_of x t ≤ℤ floor_of (x +ℤ walk) t
        → (floors_of (t ∷ ts) x +ℤ pos (length (t ∷ ts))) ≤ℤ (floors_of (t ∷ ts) (x +ℤ walk) +ℤ pos (count_by (is_clear_above walk x) (t ∷ ts)))
    by true e rest rise =
        clear (floor_of x t) (floor_of (x +ℤ walk) t) (floors_of ts x) (floors_of ts (x +ℤ walk)) (length ts)
        (count_by (is_clear_above walk x) ts) (count_by (is_clear_above walk x) (t ∷ ts))
        rise rest (count_by-cons_yes (is_clear_above walk x) t ts e)
    by false e rest rise =
        hit (floor_of x t) (floor_of (x +ℤ walk) t) (floors_of ts x) (floors_of ts (x +ℤ walk)) (length ts)
        (count_by (is_clear_above walk x) ts) (count_by (is_clear_above walk x) (t ∷ ts))
        e rest (count_by-cons_no (is_clear_above walk x) t ts e)

-- a walk's multiples of all microticks are fewer than one for each number and each sender beyond a crowd
room_lem : (count crowd walk width : ℕ)
    → 1 ≤ count → 3 * crowd ≤ count → 3 * walk < 2 * width → count * walk < width * (count - crowd)
room_lem count crowd walk width some few less =
    let left : ℕ = count - crowd in
    let all : left + crowd ≡ count = omega arith in
    let walks : count * (3 * walk + 1) ≤ count * (2 * width) = mul-le-mul_left count (omega arith) in
    let crowds : width * (3 * crowd) ≤ width * count = mul-le-mul_left width few in
    let whole : width * (left + crowd) ≡ width * count = ap (λ (k : ℕ). width * k) all in
    last (count * walk) (width * left) (width * crowd) (width * count) count
    (omega (arith, walks)) (omega (arith, crowds)) (omega (arith, whole)) some
  where
    last : (a b c d n : ℕ) → 3 * a + n ≤ 2 * d → 3 * c ≤ d → b + c ≡ d → 1 ≤ n → a < b
    last a b c d n g h k l = omega arith

-- a number among so many, from a place on: for more senders than a crowd no multiple follows it on a walk
record IsClearOf (walk from : ℤ) (width crowd : ℕ) (ts : List ℤ) : Type 0 where
  at : ℤ
  reached : from ≤ℤ at
  before : at <ℤ (from +ℤ pos width)
  clear : crowd < count_by (is_clear_above walk at) ts

some_is_clear : (walk : ℤ) (width crowd : ℕ) (ts : List ℤ)
    → pos 0 ≤ℤ walk → (pos 3 *ℤ walk) <ℤ pos (2 * width) → 0 < width → 1 ≤ length ts → 3 * crowd ≤ length ts
    → AreNoShorter width ts → (from : ℤ) → IsClearOf walk from width crowd ts
some_is_clear (negsuc walk) width crowd ts whole less lasting some few long from = absurd (omega (arith, ints))
some_is_clear (pos walk) width crowd ts whole less lasting some few long from =
    let k : ℕ = length ts - crowd in
    let sum = sum_rises (floors_of ts) width (length ts) (floors_of_step ts width lasting long) from walk in
    let room = room_lem (length ts) crowd walk width some few (omega (arith, ints, less)) in
    let fewer = under (sum_over (floors_of ts) (from +ℤ pos walk) width) (sum_over (floors_of ts) from width) (length ts * walk) (width * k) sum room in
    let one = some_rises_little (floors_of ts) k (pos walk) from width fewer in
    record {
      at = one.at;
      reached = one.reached;
      before = one.before;
      clear = more (floors_of ts one.at) (floors_of ts (one.at +ℤ pos walk)) (length ts) crowd
          (count_by (is_clear_above (pos walk) one.at) ts)
          (floors_of_rise ts width lasting long (pos walk) one.at (omega (arith, ints))) one.little few;
    }
  where
    under : (s t : ℤ) (a b : ℕ) → s ≤ℤ (t +ℤ pos a) → a < b → s <ℤ (t +ℤ pos b)
    under s t a b h k = omega (arith, ints)

    more : (s t : ℤ) (n crowd count : ℕ)
        → (s +ℤ pos n) ≤ℤ (t +ℤ pos count) → t <ℤ (s +ℤ pos (n - crowd)) → 3 * crowd ≤ n → crowd < count
    more s t n crowd count h k few = omega (arith, ints)

-- ---- levels

is_less : (a b : ℤ) → int_lt a b ≡ true → a <ℤ b
is_less a b e = omega (arith, ints)

-- where no multiple follows a number on a walk, none lies just below the number a walk and one further
clear_below : (walk at : ℤ) (crowd : ℕ) (ts : List ℤ) → crowd < count_by (is_clear_above walk at) ts
    → crowd < count_by (is_clear_below walk ((at +ℤ walk) +ℤ pos 1)) ts
clear_below walk at crowd ts clear =
    let end : ℤ = ((at +ℤ walk) +ℤ pos 1) -ℤ pos 1 in
    let High : ℤ → Type 0 = λ a. crowd < count_by (λ t. int_le (floor_of a t) (floor_of at t)) ts in
    let Low : ℤ → Type 0 = λ b. crowd < count_by (λ t. int_le (floor_of end t) (floor_of b t)) ts in
    subst Low (begins at walk) (subst High (ends at walk) clear)
  where
    ends : (x w : ℤ) → x +ℤ w ≡ ((x +ℤ w) +ℤ pos 1) -ℤ pos 1
    ends x w = omega (arith, ints)

    begins : (x w : ℤ) → x ≡ (((x +ℤ w) +ℤ pos 1) -ℤ pos 1) -ℤ w
    begins x w = omega (arith, ints)

pub levels_are_there_lem : LevelsAreThere
levels_are_there_lem p flutter crowd micros sane held some few long =
    let walk : ℤ = rate_walk p flutter in
    let width : ℕ = shortest_micro p in
    let least : ℤ = pos (shortest_cycle p) in
    let most : ℤ = pos (longest_cycle p) in
    let little = (and_parts _ _ held).0 in
    let walks : pos 0 <ℤ walk = is_less (pos 0) walk (and_parts _ _ (and_parts _ _ little).0).1 in
    let less : (pos 3 *ℤ walk) <ℤ pos (2 * width) = is_less (pos 3 *ℤ walk) (pos (2 * width)) (and_parts _ _ little).1 in
    let clear =
    some_is_clear walk width crowd micros (weak walk walks) less (there width (signed_of p sane).qm_from) some few long in
    let under = clear (least -ℤ pos width) in
    let over = clear (most -ℤ walk) in
    let level : ℤ = (over.at +ℤ walk) +ℤ pos 1 in
    let low : IsLowLevel p flutter crowd micros under.at = record {
      below = ends under.at least (pos width) under.before;
      near = under.reached;
      clear = under.clear;
    } in
    let high : IsHighLevel p flutter crowd micros level = record {
      above = begins over.at most walk over.reached;
      near = within over.at most walk (pos width) over.before;
      clear = clear_below walk over.at crowd micros over.clear;
    } in
    ((under.at, low), (level, high))
  where
    weak : (w : ℤ) → pos 0 <ℤ w → pos 0 ≤ℤ w
    weak w h = omega (arith, ints)

    there : (width : ℕ) → pos 1 ≤ℤ pos width → 0 < width
    there width h = omega (arith, ints)

    ends : (x s q : ℤ) → x <ℤ ((s -ℤ q) +ℤ q) → x <ℤ s
    ends x s q h = omega (arith, ints)

    begins : (x l w : ℤ) → (l -ℤ w) ≤ℤ x → l <ℤ ((x +ℤ w) +ℤ pos 1)
    begins x l w h = omega (arith, ints)

    within : (x l w q : ℤ) → x <ℤ ((l -ℤ w) +ℤ q) → ((x +ℤ w) +ℤ pos 1) ≤ℤ (l +ℤ q)
    within x l w q h = omega (arith, ints)
