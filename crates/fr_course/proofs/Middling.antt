-- Middles, step by step.
use Rattle.std.proofs.Common.{◌≡◌, ℕ, zero, suc, ◌+◌, ◌-◌, ◌<◌, ◌≤◌, min, Bool, true, false, Some, None, List, length, arith, ap, refl, sym, subst, ◌∙◌}
use Rattle.std.specs.Prelude.{nat_lt, if◌then◌else◌}
use Rattle.std.proofs.lemmas.Bool.Decides.{nat_tests}
use Rattle.fr_course.specs.Readings.{Interval}
use Rattle.fr_course.specs.Middles.{greatest_middle, hull, least_middle, middle, middle_missing, middle_where, middle_with}

-- ---- with one further value more

pub middle_missing-none : (missed : ℕ) (known : List Interval) → middle_missing 0 missed known ≡ middle_with 0 missed known
unfolding middle_missing
middle_missing-none missed known = refl

pub middle_missing-suc : (further missed : ℕ) (known : List Interval)
    → middle_missing (suc further) missed known ≡ hull (middle_missing further missed known) (middle_with (suc further) missed known)
unfolding middle_missing
middle_missing-suc further missed known = refl

pub middle_missing-more : (further missed : ℕ) (known : List Interval)
    → middle_missing (further + 1) missed known ≡ hull (middle_missing further missed known) (middle_with (further + 1) missed known)
middle_missing-more further missed known =
    let one : suc further ≡ further + 1 = omega arith in
    subst (λ n. middle_missing n missed known ≡ hull (middle_missing further missed known) (middle_with n missed known)) one (middle_missing-suc further missed known)

-- ---- with one more that is missed

pub middle-none : (further : ℕ) (known : List Interval) → middle further 0 known ≡ middle_missing further 0 known
unfolding middle
middle-none further known = refl

middle-suc : (further lost : ℕ) (known : List Interval)
    → middle further (suc lost) known
    ≡ if nat_lt (suc lost) (length known) then hull (middle further lost known) (middle_missing further (suc lost) known) else middle further lost known
unfolding middle
middle-suc further lost known = refl

middle-by : (further lost : ℕ) (known : List Interval) (b : Bool) → nat_lt (suc lost) (length known) ≡ b
    → middle further (suc lost) known ≡ if b then hull (middle further lost known) (middle_missing further (suc lost) known) else middle further lost known
middle-by further lost known b is =
    middle-suc further lost known
    ∙ ap (λ (some : Bool). if some then hull (middle further lost known) (middle_missing further (suc lost) known) else middle further lost known) is

pub middle-wide : (further lost : ℕ) (known : List Interval) → suc lost < length known
    → middle further (suc lost) known ≡ hull (middle further lost known) (middle_missing further (suc lost) known)
middle-wide further lost known some = middle-by further lost known true (grind (arith, nat_tests))

pub middle-more : (further lost : ℕ) (known : List Interval) → lost + 1 < length known
    → middle further (lost + 1) known ≡ hull (middle further lost known) (middle_missing further (lost + 1) known)
middle-more further lost known some =
    let one : suc lost ≡ lost + 1 = omega arith in
    subst (λ n. middle further n known ≡ hull (middle further lost known) (middle_missing further n known)) one (middle-wide further lost known (omega (arith, some)))

-- where all but one are missed, no more can be
pub middle-same : (further lost : ℕ) (known : List Interval) → length known ≤ suc lost → middle further (suc lost) known ≡ middle further lost known
middle-same further lost known all = middle-by further lost known false (grind (arith, nat_tests))

least-few : (lost n : ℕ) → suc lost < n → min (suc lost) (n - 1) ≡ suc lost
least-few lost n h = omega (arith, h)

least-many : (lost n : ℕ) → n ≤ suc lost → min (suc lost) (n - 1) ≡ min lost (n - 1)
least-many lost n h = omega (arith, h)

least-by : (further lost : ℕ) (known : List Interval) (b : Bool) → nat_lt (suc lost) (length known) ≡ b
    → middle further (min lost (length known - 1)) known ≡ middle further lost known
    → middle further (min (suc lost) (length known - 1)) known ≡ middle further (suc lost) known
least-by further lost known true is before = ap (λ n. middle further n known) (least-few lost (length known) (grind (arith, nat_tests)))
least-by further lost known false is before =
    let all : length known ≤ suc lost = grind (arith, nat_tests) in
    ap (λ n. middle further n known) (least-many lost (length known) all) ∙ before ∙ sym (middle-same further lost known all)

pub middle-least : (further lost : ℕ) (known : List Interval) → middle further (min lost (length known - 1)) known ≡ middle further lost known
middle-least further zero known = ap (λ n. middle further n known) (none (length known - 1))
  where
    none : (n : ℕ) → min 0 n ≡ 0
    none n = omega arith
middle-least further (suc lost) known =
    least-by further lost known (nat_lt (suc lost) (length known)) refl (middle-least further lost known)

-- ---- where at least as many are discarded

pub middle_where-some : (further missed ends : ℕ) (known : List Interval) → nat_lt ends further ≡ false
    → middle_where further missed ends known
    ≡ Some (record { low = least_middle further missed ends known; high = greatest_middle further missed ends known })
middle_where-some further missed ends known few =
    ap (λ (many : Bool). if many then None else Some (record { low = least_middle further missed ends known; high = greatest_middle further missed ends known })) few

pub middle_where-none : (further missed ends : ℕ) (known : List Interval) → nat_lt ends further ≡ true → middle_where further missed ends known ≡ None
middle_where-none further missed ends known many =
    ap (λ (many : Bool). if many then None else Some (record { low = least_middle further missed ends known; high = greatest_middle further missed ends known })) many
