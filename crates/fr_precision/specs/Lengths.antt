-- The sharper laws of rates: what rate correction makes of the lengths of the next even cycles.
use Rattle.std.specs.Prelude.{ℕ, zero, suc, ◌≡◌, ◌+◌, ◌-◌, ◌*◌, ◌<◌, ◌≤◌, int_le, nat_abs, if◌then◌else◌, IfSome, Bool, true, false, ℤ, pos, ◌+ℤ◌, ◌-ℤ◌, ◌*ℤ◌, ◌≤ℤ◌, List, length, All}
use Rattle.fr_base.specs.declared.node_row.NodeRow.{NodeRow}
use Rattle.fr_base.specs.declared.Outcome.TheVariants.{Within}
use Rattle.fr_base.specs.Within.{IsBetween, IsWithin}
use Rattle.fr_cluster.specs.Values.{Values, amount}
use Rattle.fr_cluster.specs.Sane.{IsSane}
use Rattle.fr_cluster.specs.declared.names.ParamName.TheVariants as name
use Rattle.fr_midpoint.specs.Receivers.{Hears}
use Rattle.fr_correct.specs.declared.term.Term.{Term}
use Rattle.fr_correct.specs.Terms.{IsRateTerm}
use Rattle.fr_bound.specs.Bounds.{cycle_change, longest_micro}
use Rattle.fr_bound.specs.Checks.{holds_of}
use Rattle.fr_bound.specs.Sync.{cycle_length_of}
use Rattle.fr_precision.specs.Rows.{longest_cycle, shortest_cycle, AreNear, HasProperMicro, IsSteady, KeepOne, Sender}
use Rattle.fr_bound.specs.SharpBounds.{rate_walk, sharp_lambda, steady_error, walk_lasts}
use Rattle.fr_bound.specs.SharpChecks.{BoundsWalk, RateSuffices}
use Rattle.fr_precision.specs.Steady.{PlacesEven}

-- a length lies in the range of lengths at no rate correction, or at most so far beyond it
abbrev pub IsAboutCycle : Values → ℤ → ℤ → Type 0
IsAboutCycle p beyond = IsBetween (pos (shortest_cycle p) -ℤ beyond) (pos (longest_cycle p) +ℤ beyond)

-- the lengths of the senders' even cycles do
abbrev pub EvensAreAbout : Values → ℤ → List Sender → Type 0
EvensAreAbout p beyond senders = All (λ sender. IsAboutCycle p beyond (cycle_length_of p sender.even)) senders

-- they lie at most so far apart
abbrev pub EvensWithin : Values → ℤ → List Sender → Type 0
EvensWithin p spread senders = AreNear (λ sender. cycle_length_of p sender.even) spread senders

-- a receiver's odd row, its rate values, and the rate term that it computes from them
pub record IsSteadyRound (p : Values) (flutter : ℕ) (senders : List Sender) (row : NodeRow) (values : List ℤ) (term : Term) : Type 0 where
  pub micro : HasProperMicro p row
  pub hears : Hears Sender (λ sender value. PlacesEven p flutter sender row value) senders values
  pub is_term : IsRateTerm row.rate p.damping p.rate_limit values term

-- the even cycle after an odd row with a rate term
pub record IsNextEven (p : Values) (row : NodeRow) (term : Term) (even : NodeRow) : Type 0 where
  pub rate : even.rate ≡ term.value
  pub micro : HasProperMicro p even
  pub steady : IsSteady p row even

-- no rate term is cut, and the next even length lies no further beyond the range than this
pub record WalksOn (p : Values) (next : ℤ) (row : NodeRow) (term : Term) : Type 0 where
  pub uncut : term.outcome ≡ Within
  pub limit : IsWithin p.rate_limit term.value
  pub range : (even : NodeRow) → IsNextEven p row term even → IsAboutCycle p next (cycle_length_of p even)

-- what is asked of the numbers of a walk: lengths lie so far beyond their range, and by the walk further in the next double
-- cycle, for which the rate limit suffices
pub record CanWalk (p : Values) (flutter : ℕ) (beyond walk : ℤ) : Type 0 where
  pub bounds : BoundsWalk p flutter walk
  pub suffices : RateSuffices p (beyond +ℤ walk)

-- how far beyond their range the lengths may lie after so many double cycles, from the first in which they lie in it on
abbrev pub walked_after : Values → ℕ → ℕ → ℤ
walked_after p flutter passed = if int_le (rate_walk p flutter) (pos 0) then pos 0 else pos passed *ℤ rate_walk p flutter

-- for as many double cycles as the walk lasts, and for ever where it stops, the rate limit suffices, and the next number takes
-- the walk in
abbrev pub WalkIsHeld : Type 0
WalkIsHeld =
    (p : Values) (flutter passed : ℕ)
    → IsSane p → holds_of 2 p ≡ true → IfSome (walk_lasts p flutter) (λ lasts. passed < lasts)
    → CanWalk p flutter (walked_after p flutter passed) (rate_walk p flutter)
    × (pos 0 ≤ℤ walked_after p flutter (suc passed))
    × ((walked_after p flutter passed +ℤ rate_walk p flutter) ≤ℤ walked_after p flutter (suc passed))

-- ---- where a node keeps its rate

-- the walk of a double cycle where it is above 0, and by how much lengths come back in one where it is not
abbrev pub walk_on : Values → ℕ → ℕ
walk_on p flutter = if int_le (rate_walk p flutter) (pos 0) then 0 else nat_abs (rate_walk p flutter)

abbrev pub walk_back : Values → ℕ → ℕ
walk_back p flutter = if int_le (rate_walk p flutter) (pos 0) then nat_abs (rate_walk p flutter) else 0

-- in a double cycle in which some node has no rate value and keeps its rate, oscillators alone take its length further: by two changes of
-- a cycle, where that is more than the walk. By so much more than by the walk may lengths lie beyond their range after so many double
-- cycles, in some of which a node keeps its rate; in the others they come back where the walk is below 0
unfoldable pub strayed_after : Values → ℕ → (ℕ → Bool) → ℕ → ℕ
strayed_after p flutter keeps zero = 0
strayed_after p flutter keeps (suc k) =
    if keeps k then strayed_after p flutter keeps k + (2 * cycle_change p - walk_on p flutter)
    else strayed_after p flutter keeps k - walk_back p flutter

-- and so far in all
abbrev pub walked_through : Values → ℕ → (ℕ → Bool) → ℕ → ℤ
walked_through p flutter keeps passed = walked_after p flutter passed +ℤ pos (strayed_after p flutter keeps passed)

-- while the walk lasts, and where the rate limit suffices for what lies beyond in the next double cycle, that takes in the walk, and two
-- changes of a cycle where a node keeps its rate
abbrev pub WalkIsHeldThrough : Type 0
WalkIsHeldThrough =
    (p : Values) (flutter : ℕ) (keeps : ℕ → Bool) (passed : ℕ)
    → IsSane p → RateSuffices p (walked_through p flutter keeps (suc passed))
    → CanWalk p flutter (walked_through p flutter keeps passed) (rate_walk p flutter)
    × (pos 0 ≤ℤ walked_through p flutter keeps (suc passed))
    × ((walked_through p flutter keeps passed +ℤ rate_walk p flutter) ≤ℤ walked_through p flutter keeps (suc passed))
    × (keeps passed ≡ true → (walked_through p flutter keeps passed +ℤ pos (2 * cycle_change p)) ≤ℤ walked_through p flutter keeps (suc passed))

-- from a later double cycle on they stray no further than from an earlier one on
abbrev pub LaterStraysLess : Type 0
LaterStraysLess =
    (p : Values) (flutter : ℕ) (keeps later : ℕ → Bool) (double passed : ℕ)
    → ((m : ℕ) → later m ≡ keeps (double + m)) → strayed_after p flutter later passed ≤ strayed_after p flutter keeps (double + passed)

-- and not at all where no node keeps its rate, or oscillators do not change
abbrev pub NoneStrays : Type 0
NoneStrays =
    (p : Values) (flutter : ℕ) (keeps : ℕ → Bool) (passed : ℕ)
    → ((k : ℕ) → k < passed → keeps k ≡ true → cycle_change p ≡ 0) → strayed_after p flutter keeps passed ≡ 0

-- ---- receivers

-- the lengths walk by no more, and come back into the range where the walk is below 0
abbrev pub RangeWalks : Type 0
RangeWalks =
    (p : Values) (flutter : ℕ) (senders : List Sender) (beyond walk next : ℤ) (row : NodeRow) (values : List ℤ) (term : Term)
    → IsSane p → CanWalk p flutter beyond walk → 1 ≤ length senders → EvensAreAbout p beyond senders
    → IsSteadyRound p flutter senders row values term
    → pos 0 ≤ℤ next → (beyond +ℤ walk) ≤ℤ next → WalksOn p next row term

-- what may be further values: beside arbitrary nodes, no more than leave one sender's value to both lists, whatever each of
-- them discards; else none
abbrev pub KeepSenders : Bool → List Sender → List ℤ → List ℤ → Type 0
KeepSenders false senders one other = (1 ≤ length senders) × (length one ≡ length senders) × (length other ≡ length senders)
KeepSenders true senders one other = KeepOne one other senders

-- how near lengths come: half as near as those of the senders, and half of lambda; without arbitrary nodes within lambda,
-- whatever those of the senders are
abbrev pub LengthsCome : Bool → Values → ℕ → ℤ → ℤ → Type 0
LengthsCome false p flutter spread apart = IsWithin (pos (sharp_lambda false p flutter)) apart
LengthsCome true p flutter spread apart = IsWithin (spread +ℤ pos (sharp_lambda true p flutter)) (pos 2 *ℤ apart)

abbrev pub LengthsComeNear : Type 0
LengthsComeNear =
    (beside : Bool) (p : Values) (flutter : ℕ) (senders : List Sender) (spread beyond walk : ℤ) (row other_row : NodeRow)
    (values other_values : List ℤ) (term other_term : Term) (even other_even : NodeRow)
    → IsSane p → CanWalk p flutter beyond walk → EvensAreAbout p beyond senders → EvensWithin p spread senders
    → IsSteadyRound p flutter senders row values term → IsSteadyRound p flutter senders other_row other_values other_term
    → KeepSenders beside senders values other_values
    → IsNextEven p row term even → IsNextEven p other_row other_term other_even
    → LengthsCome beside p flutter spread (cycle_length_of p even -ℤ cycle_length_of p other_even)

-- how far beyond the senders' spread a receiver's next even length may lie from a sender's
abbrev pub next_length_error : Values → ℕ → ℕ
next_length_error p flutter =
    steady_error p flutter + amount p name.pClusterDriftDamping * longest_micro p + cycle_change p

-- the length of one receiver's next even cycle lies near each sender's even one
abbrev pub NextLengthIsNear : Type 0
NextLengthIsNear =
    (p : Values) (flutter : ℕ) (senders : List Sender) (spread beyond walk : ℤ) (row : NodeRow) (values : List ℤ) (term : Term) (even : NodeRow)
    → IsSane p → CanWalk p flutter beyond walk → 1 ≤ length senders → EvensAreAbout p beyond senders → EvensWithin p spread senders
    → IsSteadyRound p flutter senders row values term → IsNextEven p row term even
    → All (λ sender. IsWithin (spread +ℤ pos (next_length_error p flutter)) (cycle_length_of p even -ℤ cycle_length_of p sender.even)) senders
