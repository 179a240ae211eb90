-- Between which numbers the midpoint of some values lies, where each of a number of values that are known to be there lies in
-- an interval, some of these may have been missed, and a number of further values, of any size, may be there too.
use Rattle.std.specs.Prelude.{ℕ, zero, suc, ◌+◌, ◌-◌, ◌≤◌, nat_lt, ℤ, pos, List, ◌++◌, length, map, find, filter_map, count_by, Option, Some, None, is_none, unwrap_or, IfSome, IsPermutation, if◌then◌else◌}
use Rattle.std.specs.Int.{int_max, int_min}
use Rattle.std.specs.List.{AllZip}
use Rattle.fr_base.specs.Within.{IsBetween}
use Rattle.fr_midpoint.specs.Midpoint.{discarded, half_of_sum, is_high, is_low, IsMidpoint}
use Rattle.fr_course.specs.Readings.{Interval}

-- the least and the greatest of some values that remain where so many are discarded at each end
abbrev pub least_left : ℕ → List ℤ → ℤ
least_left ends values = unwrap_or (find (is_low ends values) values) (pos 0)

abbrev pub greatest_left : ℕ → List ℤ → ℤ
greatest_left ends values = unwrap_or (find (is_high ends values) values) (pos 0)

-- the least and the greatest values that are known to be there
abbrev pub lows_of : List Interval → List ℤ
lows_of known = map (λ interval. interval.low) known

abbrev pub highs_of : List Interval → List ℤ
highs_of known = map (λ interval. interval.high) known

-- where so many are discarded at each end: further values lie below all others, and so many of the greatest of the others were
-- missed; the midpoint is no less, and mirrored no greater
abbrev pub least_middle : ℕ → ℕ → ℕ → List Interval → ℤ
least_middle further missed ends known =
    half_of_sum (least_left (ends - further) (lows_of known)) (greatest_left (ends + missed) (lows_of known))

abbrev pub greatest_middle : ℕ → ℕ → ℕ → List Interval → ℤ
greatest_middle further missed ends known =
    half_of_sum (least_left (ends + missed) (highs_of known)) (greatest_left (ends - further) (highs_of known))

-- with so many further values; where they are more than are discarded at an end, one of them may be left, and nothing limits
-- the midpoint
abbrev pub middle_where : ℕ → ℕ → ℕ → List Interval → Option Interval
middle_where further missed ends known =
    if nat_lt ends further
    then None
    else Some (record { low = least_middle further missed ends known; high = greatest_middle further missed ends known })

abbrev pub middle_with : ℕ → ℕ → List Interval → Option Interval
middle_with further missed known = middle_where further missed (discarded ((length known - missed) + further)) known

-- what lies in one interval, in the other, or between both; no limits where one has none
abbrev pub joined : Interval → Interval → Interval
joined one other = record { low = int_min one.low other.low; high = int_max one.high other.high }

abbrev pub hull : Option Interval → Option Interval → Option Interval
hull None other = None
hull (Some one) None = None
hull (Some one) (Some other) = Some (joined one other)

-- so many of the known ones are missed, and at most so many further ones are there
unfoldable pub middle_missing : ℕ → ℕ → List Interval → Option Interval
middle_missing zero missed known = middle_with zero missed known
middle_missing (suc further) missed known =
    hull (middle_missing further missed known) (middle_with (suc further) missed known)

-- at most so many are missed, and never all of them
unfoldable pub middle : ℕ → ℕ → List Interval → Option Interval
middle further zero known = middle_missing further 0 known
middle further (suc lost) known =
    if nat_lt (suc lost) (length known)
    then hull (middle further lost known) (middle_missing further (suc lost) known)
    else middle further lost known

-- the midpoint of values of which one lies in each of the intervals, but for at most so many that were missed, and of which at
-- most so many are further ones
abbrev pub MiddlesHold : Type 0
MiddlesHold =
    (further lost : ℕ) (known : List Interval) (said : List (Option ℤ)) (extra values : List ℤ) (mid : ℤ)
    → IsPermutation (filter_map (λ value. value) said ++ extra) values
    → AllZip (λ interval value. IfSome value (λ v. IsBetween interval.low interval.high v)) known said
    → count_by is_none said ≤ lost → length extra ≤ further → 1 ≤ length (filter_map (λ value. value) said)
    → IsMidpoint values mid → IfSome (middle further lost known) (λ middle. IsBetween middle.low middle.high mid)

-- where more may have been missed, a midpoint that was limited still lies there
abbrev pub MissingMiddlesWiden : Type 0
MissingMiddlesWiden =
    (further lost more : ℕ) (known : List Interval) (mid : ℤ) → lost ≤ more
    → IfSome (middle further lost known) (λ less. IsBetween less.low less.high mid)
    → IfSome (middle further more known) (λ wide. IsBetween wide.low wide.high mid)
