-- What lies beyond the range where some nodes keep their rates.
use Rattle.std.proofs.Common.{◌≡◌, ℕ, zero, suc, ◌+◌, ◌-◌, ◌*◌, ◌≤◌, Bool, true, false, ℤ, pos, refl, ap, sym, ◌∙◌, subst, arith}
use Rattle.std.specs.Prelude.{◌+ℤ◌, ◌*ℤ◌, ◌≤ℤ◌, int_le, nat_abs, if◌then◌else◌}
use Rattle.std.proofs.lemmas.Int.{ints}
use Rattle.fr_cluster.specs.Values.{Values}
use Rattle.fr_bound.specs.Bounds.{cycle_change}
use Rattle.fr_bound.specs.SharpBounds.{rate_walk}
use Rattle.fr_bound.specs.SharpChecks.{RateSuffices}
use Rattle.fr_bound.specs.Checks.{holds_of, left_of, right_of}
use Rattle.fr_midpoint.proofs.Products.{addz-mulz, mulz_from}
use Rattle.fr_precision.specs.Lengths.{strayed_after, walk_back, walk_on, walked_after, walked_through, LaterStraysLess, NoneStrays, WalkIsHeldThrough}
use Rattle.fr_precision.proofs.BoundLemmas.{walk_is_bounded, walked_none}
use Rattle.fr_precision.proofs.Figures.{nat_le-true}

-- ---- one double cycle

-- by how far it strays in one, and not less than the walk takes it back
abbrev next_stray : Bool → ℕ → ℕ → ℕ → ℕ
next_stray keeps strayed adds back = if keeps then strayed + adds else strayed - back

stray_is : (p : Values) (flutter : ℕ) (keeps : ℕ → Bool) (k : ℕ) → strayed_after p flutter keeps (suc k) ≡ next_stray (keeps k) (strayed_after p flutter keeps k) (2 * cycle_change p - walk_on p flutter) (walk_back p flutter)
unfolding strayed_after
stray_is p flutter keeps k = refl

-- what is walked beside
abbrev Walked : ℤ → Bool → ℕ → ℤ
Walked walk stops passed = if stops then pos 0 else pos passed *ℤ walk

one_on : (walk : ℤ) (passed : ℕ) → pos (suc passed) *ℤ walk ≡ (pos passed *ℤ walk) +ℤ walk
one_on walk passed =
    let next : pos (suc passed) ≡ pos passed +ℤ pos 1 = omega (arith, ints) in
    ap (λ (x : ℤ). x *ℤ walk) next ∙ addz-mulz (pos passed) (pos 1) walk ∙ ap (λ (x : ℤ). (pos passed *ℤ walk) +ℤ x) (once walk)
  where
    once : (t : ℤ) → pos 1 *ℤ t ≡ t
    once t = omega (arith, ints)

-- the numbers of the next double cycle take in the walk, and two changes where a node keeps its rate
abbrev Takes : ℤ → Bool → Bool → ℕ → ℕ → ℕ → Type 0
Takes walk stops keeps passed strayed twice =
    (pos 0 ≤ℤ (Walked walk stops (suc passed) +ℤ pos (next_stray keeps strayed (twice - (if stops then 0 else nat_abs walk)) (if stops then nat_abs walk else 0))))
    × (((Walked walk stops passed +ℤ pos strayed) +ℤ walk) ≤ℤ (Walked walk stops (suc passed) +ℤ pos (next_stray keeps strayed (twice - (if stops then 0 else nat_abs walk)) (if stops then nat_abs walk else 0))))
    × (keeps ≡ true → ((Walked walk stops passed +ℤ pos strayed) +ℤ pos twice) ≤ℤ (Walked walk stops (suc passed) +ℤ pos (next_stray keeps strayed (twice - (if stops then 0 else nat_abs walk)) (if stops then nat_abs walk else 0))))

takes_by : (walk : ℤ) (stops keeps : Bool) (passed strayed twice : ℕ) → int_le walk (pos 0) ≡ stops → Takes walk stops keeps passed strayed twice
takes_by walk true true passed strayed twice is =
    let none : twice - 0 ≡ twice = omega arith in
    (omega (arith, ints), let to : walk ≤ℤ pos 0 = omega (arith, ints, is) in omega (arith, ints, to, none), λ keeps. omega (arith, ints, none))
takes_by walk true false passed strayed twice is =
    let k = nat_abs walk in
    (from (strayed - k), falls walk strayed k (magnitude walk is), λ keeps. absurd (cc))
  where
    from : (n : ℕ) → pos 0 ≤ℤ (pos 0 +ℤ pos n)
    from n = omega (arith, ints)

    magnitude : (w : ℤ) → int_le w (pos 0) ≡ true → w +ℤ pos (nat_abs w) ≡ pos 0
    magnitude w is = grind (arith, ints)

    falls : (w : ℤ) (s k : ℕ) → w +ℤ pos k ≡ pos 0 → ((pos 0 +ℤ pos s) +ℤ w) ≤ℤ (pos 0 +ℤ pos (s - k))
    falls w s k is = omega (arith, ints)
takes_by walk false keeps passed strayed twice is =
    let k = nat_abs walk in
    let up : pos 0 ≤ℤ walk = omega (arith, ints, is) in
    by keeps (pos passed *ℤ walk) (pos (suc passed) *ℤ walk) k (one_on walk passed) (mulz_from (pos passed) walk (no_less passed) up) (magnitude walk up)
  where
    no_less : (n : ℕ) → pos 0 ≤ℤ pos n
    no_less n = omega (arith, ints)

    magnitude : (w : ℤ) → pos 0 ≤ℤ w → w ≡ pos (nat_abs w)
    magnitude w up = grind (arith, ints)

    by : (keeps : Bool) (now later : ℤ) (k : ℕ) → later ≡ now +ℤ walk → pos 0 ≤ℤ now → walk ≡ pos k
        → (pos 0 ≤ℤ (later +ℤ pos (next_stray keeps strayed (twice - k) 0)))
        × (((now +ℤ pos strayed) +ℤ walk) ≤ℤ (later +ℤ pos (next_stray keeps strayed (twice - k) 0)))
        × (keeps ≡ true → ((now +ℤ pos strayed) +ℤ pos twice) ≤ℤ (later +ℤ pos (next_stray keeps strayed (twice - k) 0)))
    by true now later k later_is from walk_is = (omega (arith, ints), omega (arith, ints), λ keeps. omega (arith, ints))
    by false now later k later_is from walk_is = (omega (arith, ints), omega (arith, ints), λ keeps. absurd (cc))

takes : (p : Values) (flutter : ℕ) (keeps : ℕ → Bool) (passed : ℕ)
    → (pos 0 ≤ℤ walked_through p flutter keeps (suc passed))
    × ((walked_through p flutter keeps passed +ℤ rate_walk p flutter) ≤ℤ walked_through p flutter keeps (suc passed))
    × (keeps passed ≡ true → (walked_through p flutter keeps passed +ℤ pos (2 * cycle_change p)) ≤ℤ walked_through p flutter keeps (suc passed))
takes p flutter keeps passed =
    let walked = walked_after p flutter in
    let At : ℕ → Type 0 = λ n.
    (pos 0 ≤ℤ (walked (suc passed) +ℤ pos n)) × (((walked passed +ℤ pos (strayed_after p flutter keeps passed)) +ℤ rate_walk p flutter) ≤ℤ (walked (suc passed) +ℤ pos n))
    × (keeps passed ≡ true → ((walked passed +ℤ pos (strayed_after p flutter keeps passed)) +ℤ pos (2 * cycle_change p)) ≤ℤ (walked (suc passed) +ℤ pos n)) in
    subst At (sym (stray_is p flutter keeps passed)) (takes_by (rate_walk p flutter) (int_le (rate_walk p flutter) (pos 0)) (keeps passed) passed (strayed_after p flutter keeps passed) (2 * cycle_change p) refl)

pub walk_is_held_through : WalkIsHeldThrough
walk_is_held_through p flutter keeps passed sane suffices =
    let next = takes p flutter keeps passed in (
      record {
        bounds = walk_is_bounded p flutter sane;
        suffices = less (right_of 2 p) (left_of 2 p) (walked_through p flutter keeps passed +ℤ rate_walk p flutter) (walked_through p flutter keeps (suc passed)) next.1 suffices;
      },
      next.0,
      next.1,
      next.2,
    )
  where
    less : (a b : ℕ) (x y : ℤ) → x ≤ℤ y → (pos a +ℤ y) ≤ℤ pos b → (pos a +ℤ x) ≤ℤ pos b
    less a b x y le fits = omega (arith, ints, le, fits)

-- ---- the first

pub none_strayed : (p : Values) (flutter : ℕ) (keeps : ℕ → Bool) → walked_through p flutter keeps 0 ≡ pos 0
unfolding strayed_after
none_strayed p flutter keeps = nothing (walked_after p flutter 0) (walked_none p flutter)
  where
    nothing : (x : ℤ) → x ≡ pos 0 → x +ℤ pos 0 ≡ pos 0
    nothing x is = omega (arith, ints)

-- under the second check the rate limit suffices for the range
pub in_range : (p : Values) → holds_of 2 p ≡ true → RateSuffices p (pos 0)
in_range p second = still (right_of 2 p) (left_of 2 p) (nat_le-true (right_of 2 p) (left_of 2 p) second)
  where
    still : (a b : ℕ) → a ≤ b → (pos a +ℤ pos 0) ≤ℤ pos b
    still a b le = omega (arith, ints)

-- ---- many

next_grows : (keeps : Bool) (a b adds back : ℕ) → a ≤ b → next_stray keeps a adds back ≤ next_stray keeps b adds back
next_grows true a b adds back le = omega (arith, le)
next_grows false a b adds back le = omega (arith, le)

pub later_strays_less : LaterStraysLess
unfolding strayed_after
later_strays_less p flutter keeps later double zero same = omega arith
later_strays_less p flutter keeps later double (suc k) same =
    let adds = 2 * cycle_change p - walk_on p flutter in
    let back = walk_back p flutter in
    let less = later_strays_less p flutter keeps later double k same in
    let one : suc (double + k) ≡ double + suc k = omega arith in
    let At : ℕ → Type 0 = λ n. strayed_after p flutter later (suc k) ≤ strayed_after p flutter keeps n in
    let By : Bool → Type 0 = λ b. next_stray b (strayed_after p flutter later k) adds back ≤ next_stray (keeps (double + k)) (strayed_after p flutter keeps (double + k)) adds back in
    subst At one (subst By (sym (same k)) (next_grows (keeps (double + k)) (strayed_after p flutter later k) (strayed_after p flutter keeps (double + k)) adds back less))

none_next : (keeps : Bool) (strayed change on back : ℕ) → strayed ≡ 0 → (keeps ≡ true → change ≡ 0) → next_stray keeps strayed (2 * change - on) back ≡ 0
none_next true strayed change on back none still = let zero : change ≡ 0 = still refl in omega (arith, none, zero)
none_next false strayed change on back none still = omega (arith, none)

pub none_strays : NoneStrays
unfolding strayed_after
none_strays p flutter keeps zero still = refl
none_strays p flutter keeps (suc k) still =
    none_next (keeps k) (strayed_after p flutter keeps k) (cycle_change p) (walk_on p flutter) (walk_back p flutter) (none_strays p flutter keeps k (λ j less keeps_it. still j (omega (arith, less)) keeps_it))
    (λ keeps_it. still k (omega arith) keeps_it)
