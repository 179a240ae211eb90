-- The figures of some cycles and of one more double cycle: by a scale and a test, and those of a cluster.
use Rattle.std.proofs.Common.{◌≡◌, ◌∙◌, ℕ, suc, ◌+◌, ◌*◌, ◌/◌, ◌<◌, ◌≤◌, Bool, true, false, not, ◌&&◌, ◌||◌, [], ◌∷◌, length, Option, Some, None, refl, ap, sym, arith}
use Rattle.std.specs.Prelude.{nat_abs, nat_lt, IfSome}
use Rattle.std.specs.Option.{option_or}
use Rattle.fr_bound.specs.Sync.{is_in_sync}
use Rattle.fr_cluster.specs.Values.{Values}
use Rattle.fr_time.specs.Cycles.{even_cycle, is_odd}
use Rattle.fr_time.specs.declared.grid.Grid.{Grid}
use Rattle.fr_skew.specs.Gauge.{next_sync}
use Rattle.fr_skew.specs.Sweep.{greatest_within}
use Rattle.fr_skew.specs.Sync.{are_in_sync, sync_bounds_of}
use Rattle.fr_skew.specs.declared.peak.Peak.{Peak}
use Rattle.fr_skew.proofs.Closeness.{in_sync_is}
use Rattle.fr_history.specs.Gauged.{first_free_sync_of, last_even_followed, last_even_of}
use Rattle.fr_history.specs.History.{History, Record}
use Rattle.fr_history.specs.Cycles.{Cycle, Cycles, told_of}
use Rattle.fr_history.specs.Unfollowed.{IsFirstUnfollowedSync, first_unfollowed_sync_of, followed_of, is_none}
use Rattle.fr_history.proofs.Told.{told_length}
use Rattle.fr_history.proofs.FollowedSync.{first_unfollowed-next, followed_length}
use Rattle.fr_history.proofs.UnfollowedSync.{first_unfollowed_sync_is, unfollowed_sync_within}
use Rattle.fr_series.specs.Figures.{DoubleTest, above_from, above_since, figures_by, figures_of, greatest_from, greatest_since, lost_by}
use Rattle.fr_series.specs.Scale.{above_in, first_above, followed, next_above, next_figures, next_greatest, next_lost, next_synced, scale_of}
use Rattle.fr_series.specs.declared.scale.Scale.{Scale}

option_or-none : {A : Type 0} (o : Option A) → option_or o None ≡ o
option_or-none None = refl
option_or-none (Some x) = refl

option_or-or : {A : Type 0} (a b c : Option A) → option_or (option_or a b) c ≡ option_or a (option_or b c)
option_or-or None b c = refl
option_or-or (Some x) b c = refl

-- ---- from when on none passes

lost-next : (test : DoubleTest) (h : History) (even odd : Record) (double : ℕ) → length h ≡ 2 * double
    → lost_by test (odd ∷ even ∷ h) ≡ next_lost double (test even.rows odd.rows) (lost_by test h)
unfolding lost_by
lost-next test h even odd double long =
    let half : length h / 2 ≡ double = omega (arith, long) in
    rw half refl

-- ---- the greatest skew since the first double cycle that counts

not_less : (a b : ℕ) → b ≤ a → nat_lt a b ≡ false
not_less a b le = grind arith

is_less : (a b : ℕ) → a < b → nat_lt a b ≡ true
is_less a b less = grind arith

greatest_none : (grid : Grid) (from : ℕ) (h : History) → length h ≤ from → greatest_from grid from h ≡ None
unfolding greatest_from
greatest_none grid from [] few = refl
greatest_none grid from (r ∷ h) few = rw (is_less (length h) from (omega (arith, few))) refl

greatest_two : (grid : Grid) (from : ℕ) (h : History) (even odd : Record) (double : ℕ) → length h ≡ 2 * double → from ≤ 2 * double
    → greatest_from grid from (odd ∷ even ∷ h)
    ≡ greatest_within grid (2 * double + 1) odd.rows (greatest_within grid (2 * double) even.rows (greatest_from grid from h) (nat_abs grid.macros)) (nat_abs grid.macros)
unfolding greatest_from
greatest_two grid from h even odd double long low =
    let next : suc (length h) ≡ 2 * double + 1 = omega (arith, long) in
    rw (not_less (suc (length h)) from (omega (arith, long, low)), not_less (length h) from (omega (arith, long, low)), next, long) refl

above_none : (scale : Scale) (from : ℕ) (h : History) → length h ≤ from → above_from scale from h ≡ None
unfolding above_from
above_none scale from [] few = refl
above_none scale from (r ∷ h) few = rw (is_less (length h) from (omega (arith, few))) refl

above_two : (scale : Scale) (from : ℕ) (h : History) (even odd : Record) (double : ℕ) → length h ≡ 2 * double → from ≤ 2 * double
    → above_from scale from (odd ∷ even ∷ h) ≡ option_or (above_from scale from h) (above_in scale double even.rows odd.rows)
unfolding above_from
above_two scale from h even odd double long low =
    let next : suc (length h) ≡ 2 * double + 1 = omega (arith, long) in
    let first = first_above scale.grid (2 * double) even.rows scale.precision (nat_abs scale.grid.macros) in
    let last = first_above scale.grid (2 * double + 1) odd.rows scale.precision (nat_abs scale.grid.macros) in
    rw (not_less (suc (length h)) from (omega (arith, long, low)), not_less (length h) from (omega (arith, long, low)), next, long)
    (option_or-or (above_from scale from h) first last)

-- the first double cycle that counts begins no later than one
abbrev pub IsNoLater : ℕ → Option ℕ → Type 0
IsNoLater double first = IfSome first (λ k. even_cycle k ≤ 2 * double)

greatest-next : (scale : Scale) (h : Cycles) (even odd : Cycle) (double : ℕ) (free : Bool) (first : Option ℕ) → length h ≡ 2 * double → IsNoLater double first
    → greatest_since scale.grid (told_of (odd ∷ even ∷ h)) (next_synced double free first)
    ≡ next_greatest scale double even.told.rows odd.told.rows (next_synced double free first) (greatest_since scale.grid (told_of h) first)
greatest-next scale h even odd double free (Some first) long low = greatest_two scale.grid (even_cycle first) (told_of h) even.told odd.told double (told_length h ∙ long) low
greatest-next scale h even odd double false None long low = refl
greatest-next scale h even odd double true None long low =
    let M : ℕ = nat_abs scale.grid.macros in
    let same : 2 * double ≤ 2 * double = omega arith in
    let told : length (told_of h) ≡ 2 * double = told_length h ∙ long in
    let all : length (told_of h) ≤ 2 * double = omega (arith, told) in
    greatest_two scale.grid (2 * double) (told_of h) even.told odd.told double told same
    ∙ ap (λ (o : Option Peak). greatest_within scale.grid (2 * double + 1) odd.told.rows (greatest_within scale.grid (2 * double) even.told.rows o M) M) (greatest_none scale.grid (2 * double) (told_of h) all)

above-next : (scale : Scale) (h : Cycles) (even odd : Cycle) (double : ℕ) (free : Bool) (first : Option ℕ) → length h ≡ 2 * double → IsNoLater double first
    → above_since scale (told_of (odd ∷ even ∷ h)) (next_synced double free first)
    ≡ next_above scale double even.told.rows odd.told.rows (next_synced double free first) (above_since scale (told_of h) first)
above-next scale h even odd double free (Some first) long low = above_two scale (even_cycle first) (told_of h) even.told odd.told double (told_length h ∙ long) low
above-next scale h even odd double false None long low = refl
above-next scale h even odd double true None long low =
    let same : 2 * double ≤ 2 * double = omega arith in
    let told : length (told_of h) ≡ 2 * double = told_length h ∙ long in
    let all : length (told_of h) ≤ 2 * double = omega (arith, told) in
    above_two scale (2 * double) (told_of h) even.told odd.told double told same
    ∙ ap (λ (o : Option Peak). option_or o (above_in scale double even.told.rows odd.told.rows)) (above_none scale (2 * double) (told_of h) all)

-- ---- all of them

pub figures_by-next : (scale : Scale) (test : DoubleTest) (h : Cycles) (even odd : Cycle) (double : ℕ) (passes following : Bool) (first after : Option ℕ)
    → length h ≡ 2 * double → IsNoLater double first → test even.told.rows odd.told.rows ≡ passes → after ≡ next_synced double (passes && not following) first
    → figures_by scale test after (odd ∷ even ∷ h) ≡ next_figures scale double even.told.rows odd.told.rows passes following (figures_by scale test first h)
figures_by-next scale test h even odd double passes following first after long low is next =
    rw (
      next,
      lost-next test (told_of h) even.told odd.told double (told_length h ∙ long),
      is,
      greatest-next scale h even odd double (passes && not following) first long low,
      above-next scale h even odd double (passes && not following) first long low,
    ) refl

-- ---- the first double cycle in sync

even_is : (n double : ℕ) → n ≡ 2 * double → is_odd n ≡ false
even_is n double is = grind arith

odd_is : (n double : ℕ) → n ≡ 2 * double → is_odd (suc n) ≡ true
odd_is n double is = grind arith

double_is : (n double : ℕ) → n ≡ 2 * double → suc n / 2 ≡ double
double_is n double is = omega (arith, is)

-- neither of two
neither : (b f g : Bool) → (b && not f && not g) ≡ (b && not (f || g))
neither true true g = refl
neither true false g = refl
neither false f g = refl

is_followed : Cycle → Bool
is_followed c = not (is_none c.followers)

synced-next : (p : Values) (h : Cycles) (even odd : Cycle) (double : ℕ) → length h ≡ 2 * double
    → first_unfollowed_sync_of p (odd ∷ even ∷ h)
    ≡ next_synced double (are_in_sync (sync_bounds_of p) even.told.rows odd.told.rows && not (is_followed even || is_followed odd)) (first_unfollowed_sync_of p h)
unfolding last_even_of last_even_followed is_followed
synced-next p h even odd double long =
    let bounds = sync_bounds_of p in
    let other : is_odd (length (followed_of h)) ≡ false = even_is (length (followed_of h)) double (followed_length h ∙ long) in
    let first : first_unfollowed_sync_of p (even ∷ h) ≡ first_unfollowed_sync_of p h =
    first_unfollowed-next p even h ∙ rw (even_is (length h) double long) (option_or-none (first_unfollowed_sync_of p h)) in
    first_unfollowed-next p odd (even ∷ h)
    ∙ ap (λ (o : Option ℕ). next_sync bounds (suc (length h)) (last_even_of (followed_of (even ∷ h))) (last_even_followed (followed_of (even ∷ h))) odd.told.rows (is_followed odd) o) first
    ∙ rw (other, odd_is (length h) double long, double_is (length h) double long)
    (ap (λ (b : Bool). next_synced double b (first_unfollowed_sync_of p h)) (neither (are_in_sync bounds even.told.rows odd.told.rows) (is_followed even) (is_followed odd)))

-- a first double cycle in sync is one of the run
first_low : (p : Values) (h : Cycles) (double : ℕ) (first : Option ℕ) → length h ≡ 2 * double → first_unfollowed_sync_of p h ≡ first → IsNoLater double first
first_low p h double None long is = tt
first_low p h double (Some first) long is =
    let synced : IsFirstUnfollowedSync p h first = first_unfollowed_sync_is p h first is in
    let less = unfollowed_sync_within p h first synced.unfollowed in
    omega (arith, less, long)

-- ---- the figures of a cluster

pub figures-none : (p : Values) → figures_of p [] ≡ record { synced = None; greatest = None; lost = None; above = None }
unfolding figures_of first_unfollowed_sync_of first_free_sync_of lost_by
figures-none p = refl

pub figures-next : (p : Values) (h : Cycles) (even odd : Cycle) (double : ℕ) → length h ≡ 2 * double
    → figures_of p (odd ∷ even ∷ h) ≡ followed (scale_of p) double even.told.rows odd.told.rows (not (is_none even.followers) || not (is_none odd.followers)) (figures_of p h)
unfolding figures_of is_followed
figures-next p h even odd double long =
    let passes : Bool = are_in_sync (sync_bounds_of p) even.told.rows odd.told.rows in
    let first : Option ℕ = first_unfollowed_sync_of p h in
    figures_by-next (scale_of p) (is_in_sync p) h even odd double passes (is_followed even || is_followed odd) first (first_unfollowed_sync_of p (odd ∷ even ∷ h))
    long (first_low p h double first long refl) (sym (in_sync_is p even.told.rows odd.told.rows)) (synced-next p h even odd double long)
