-- Nodes that join, by the sharper bounds: how far a node that follows may lie from the others, in ticks, and the checks under
-- which it does, with the same two sets of numbers.
use Rattle.std.specs.Prelude.{ℕ, suc, zero, ◌+◌, ◌-◌, ◌*◌, ◌/◌, ◌<◌, ◌≤◌, ◌≡◌, max, pos, ◌+ℤ◌, Bool, true, false, nat_le}
use Rattle.fr_cluster.specs.Values.{Values, amount}
use Rattle.fr_cluster.specs.Sane.{IsSane}
use Rattle.fr_cluster.specs.declared.names.ParamName.TheVariants as name
use Rattle.fr_bound.specs.Bounds.{arrival_error, cycle_change, longest_micro}
use Rattle.fr_bound.specs.Checks.{holds_of, left_of, right_of}
use Rattle.fr_bound.specs.Settling.{settle_holds_of, settle_right_of}
use Rattle.fr_bound.specs.declared.checking.CheckSides.{CheckSides}
use Rattle.fr_bound.specs.declared.judging.Heard.{Heard}
use Rattle.fr_bound.specs.declared.judging.Heard.TheVariants as heard
use Rattle.fr_bound.specs.declared.settling.Spread.{Spread}
use Rattle.fr_precision.specs.Offsets.{LimitSuffices}
use Rattle.fr_precision.specs.Reception.{LeavesRoom}
use Rattle.fr_bound.specs.SharpBounds.{near_by, odd_spread, sharp_lambda, sharp_near, sharp_pi, steady_error}
use Rattle.fr_bound.specs.SharpChecks.{RateSuffices, SharpChecksHold}
use Rattle.fr_bound.specs.SharpSpreads.{sharp_spread}
use Rattle.fr_precision.specs.Among.{both, kinds_spread, spread_through_losses, GoesTo}
use Rattle.fr_precision.specs.declared.kinds.Kinds.{Kinds}

-- how far the length that a listener counts between two frames of its reference, in its own even microticks, may lie from
-- that of the reference's even cycle: flutter, a change, and a microtick that it rounds by
abbrev pub counted_error : Values → ℕ → ℕ
counted_error p flutter = flutter + cycle_change p + longest_micro p

-- how far the lengths of its first even cycle may lie from that of the reference's: the microtick has changed twice
abbrev pub first_error : Values → ℕ → ℕ
first_error p flutter = flutter + (longest_micro p - 1) + 3 * cycle_change p

-- how far the length of its first even cycle may lie from those of the others, where these lie so far apart
abbrev pub first_lengths_by : Values → ℕ → ℕ → ℕ
first_lengths_by p flutter lengths =
    lengths + 2 * steady_error p flutter + amount p name.pClusterDriftDamping * longest_micro p + 4 * cycle_change p

-- how far its first start may lie from those of the others, where these lie so far apart and their even lengths too
abbrev pub first_apart_by : Values → ℕ → ℕ → ℕ → ℕ
first_apart_by p flutter starts lengths =
    starts + 2 * lengths + 4 * cycle_change p + 2 * arrival_error p + flutter + 4 * longest_micro p

-- how far its second start may, by what was heard of offsets in its first double cycle, where its first lengths may lie so far from those of
-- the others: where all is heard by these alone; where lists meet half as far as the others' starts and these; and else as far as
-- both. Its second lengths lie as near as all
abbrev pub second_apart_by : Heard → Values → ℕ → ℕ → ℕ → ℕ
second_apart_by heard.Clean p starts lengths first = odd_spread p first + 2 * arrival_error p + 3 * longest_micro p
second_apart_by heard.Meeting p starts lengths first =
    (starts + lengths + 2 * odd_spread p first + 4 * arrival_error p + 7 * longest_micro p) / 2
second_apart_by heard.Poor p starts lengths first =
    starts + lengths + odd_spread p first + 2 * arrival_error p + 3 * longest_micro p

-- where all is heard of all: beside arbitrary nodes that counts as lists that meet
abbrev pub all_heard : Bool → Heard
all_heard false = heard.Clean
all_heard true = heard.Meeting

-- the same from nodes in sharp sync
abbrev pub sharp_first_lengths : Bool → Values → ℕ → ℕ
sharp_first_lengths beside p flutter = first_lengths_by p flutter (sharp_lambda beside p flutter)

abbrev pub sharp_first_apart : Bool → Values → ℕ → ℕ
sharp_first_apart beside p flutter = first_apart_by p flutter (sharp_pi beside p flutter) (sharp_lambda beside p flutter)

abbrev pub sharp_second_apart : Bool → Values → ℕ → ℕ
sharp_second_apart beside p flutter =
    second_apart_by (all_heard beside) p (sharp_pi beside p flutter) (sharp_lambda beside p flutter) (sharp_first_lengths beside p flutter)

-- the sharper reach: how far action points of a node that follows may lie from those of the others
abbrev pub sharp_reach : Bool → Values → ℕ → ℕ
sharp_reach beside p flutter = near_by p (sharp_first_apart beside p flutter) (sharp_first_lengths beside p flutter)

-- the bounds of a double cycle: how far starts and even lengths of the nodes with rows may lie apart, how far from theirs the
-- starts of those that follow for the second time, whose lengths lie as near as all, and how far starts and even lengths of
-- those that follow for the first time
pub record GroupSpread : Type 0 where
  pub rows : Spread
  pub seconds : ℕ
  pub firsts : Spread

-- in sharp sync
abbrev pub sharp_group_spread : Bool → Values → ℕ → GroupSpread
sharp_group_spread beside p flutter = record {
  rows = sharp_spread beside p flutter;
  seconds = sharp_second_apart beside p flutter;
  firsts = record { starts = sharp_first_apart beside p flutter; lengths = sharp_first_lengths beside p flutter };
}

-- in the double cycle after one, by what is heard in this one; first lengths are taken no nearer than those of the nodes with rows,
-- which may have lain nearer when the node listened
abbrev pub next_group_spread : Kinds → Values → ℕ → GroupSpread → GroupSpread
next_group_spread what p flutter s = record {
  rows = kinds_spread what p flutter s.rows;
  seconds = second_apart_by what.offsets p s.rows.starts s.rows.lengths s.firsts.lengths;
  firsts = record {
    starts = first_apart_by p flutter s.rows.starts s.rows.lengths;
    lengths = max (first_lengths_by p flutter s.rows.lengths) (kinds_spread what p flutter s.rows).lengths;
  };
}

-- bounds of a double cycle and of the next one to which they go, by what is heard; first lengths lie no nearer than those of the
-- nodes with rows
pub record GroupGoesTo (what : Kinds) (p : Values) (flutter : ℕ) (s to : GroupSpread) : Type 0 where
  pub rows : GoesTo what p flutter s.rows.starts s.rows.lengths to.rows.starts to.rows.lengths
  pub wide : s.rows.lengths ≤ s.firsts.lengths
  pub seconds : second_apart_by what.offsets p s.rows.starts s.rows.lengths s.firsts.lengths ≤ to.seconds
  pub first_starts : first_apart_by p flutter s.rows.starts s.rows.lengths ≤ to.firsts.starts
  pub first_lengths : first_lengths_by p flutter s.rows.lengths ≤ to.firsts.lengths

-- they go to those of the next double cycle, and so on from there; and those of sharp sync stay where all is heard
abbrev pub NextGroupSpreadGoes : Type 0
NextGroupSpreadGoes =
    (what : Kinds) (p : Values) (flutter : ℕ) (s : GroupSpread) → s.rows.lengths ≤ s.firsts.lengths
    → GroupGoesTo what p flutter s (next_group_spread what p flutter s)
    × ((next_group_spread what p flutter s).rows.lengths ≤ (next_group_spread what p flutter s).firsts.lengths)

abbrev pub SharpGroupSpreadGoes : Type 0
SharpGroupSpreadGoes =
    (beside : Bool) (p : Values) (flutter : ℕ)
    → GroupGoesTo (both (all_heard beside)) p flutter (sharp_group_spread beside p flutter) (sharp_group_spread beside p flutter)

-- from sharp sync on they go so by what is heard in each double cycle, for ever; those of the nodes with rows are then the ones of a
-- run that no node joins
unfoldable pub group_spread_through : Bool → Values → ℕ → (ℕ → Kinds) → ℕ → GroupSpread
group_spread_through beside p flutter what zero = sharp_group_spread beside p flutter
group_spread_through beside p flutter what (suc k) =
    next_group_spread (what k) p flutter (group_spread_through beside p flutter what k)

abbrev pub GroupSpreadsGo : Type 0
GroupSpreadsGo =
    (beside : Bool) (p : Values) (flutter : ℕ) (what : ℕ → Kinds) (k : ℕ)
    → GroupGoesTo (what k) p flutter (group_spread_through beside p flutter what k) (group_spread_through beside p flutter what (suc k))
    × ((group_spread_through beside p flutter what k).rows ≡ spread_through_losses beside p flutter what k)

-- a node that follows comes nearer: no second number is above the first, and the reach takes in its second double cycle and
-- that of nodes in sharp sync
abbrev pub FollowersComeNearer : Type 0
FollowersComeNearer =
    (beside : Bool) (p : Values) (flutter : ℕ) → IsSane p
    → (sharp_lambda beside p flutter ≤ sharp_first_lengths beside p flutter)
    × (sharp_second_apart beside p flutter ≤ sharp_first_apart beside p flutter)
    × (near_by p (sharp_second_apart beside p flutter) (sharp_lambda beside p flutter) ≤ sharp_reach beside p flutter)
    × (sharp_near beside p flutter ≤ sharp_reach beside p flutter)

-- ---- the checks, by their numbers from 6 to 9; their left sides are those of the older ones

-- the right side; from the seventh on it is that of the older checks, with the sharper reach
abbrev pub sharp_join_right_of : ℕ → Bool → ℕ → Values → ℕ
sharp_join_right_of (suc (suc (suc (suc (suc (suc zero)))))) beside flutter p = right_of 2 p + counted_error p flutter
sharp_join_right_of (suc (suc (suc (suc (suc (suc (suc zero))))))) beside flutter p =
    settle_right_of 3 (sharp_reach beside p flutter) p
sharp_join_right_of (suc (suc (suc (suc (suc (suc (suc (suc zero)))))))) beside flutter p =
    settle_right_of 4 (sharp_reach beside p flutter) p
sharp_join_right_of (suc (suc (suc (suc (suc (suc (suc (suc (suc zero))))))))) beside flutter p =
    settle_right_of 5 (sharp_reach beside p flutter) p
sharp_join_right_of other beside flutter p = 0

-- the check holds
abbrev pub sharp_join_holds_of : ℕ → Bool → ℕ → Values → Bool
sharp_join_holds_of (suc (suc (suc (suc (suc (suc zero)))))) beside flutter p =
    nat_le (sharp_join_right_of 6 beside flutter p) (left_of 6 p)
sharp_join_holds_of (suc (suc (suc (suc (suc (suc (suc zero))))))) beside flutter p =
    settle_holds_of 3 (sharp_reach beside p flutter) p
sharp_join_holds_of (suc (suc (suc (suc (suc (suc (suc (suc zero)))))))) beside flutter p =
    settle_holds_of 4 (sharp_reach beside p flutter) p
sharp_join_holds_of (suc (suc (suc (suc (suc (suc (suc (suc (suc zero))))))))) beside flutter p =
    settle_holds_of 5 (sharp_reach beside p flutter) p
sharp_join_holds_of other beside flutter p = true

-- both sides of a check, and whether it holds
pub record IsSharpJoinCheckOf (number : ℕ) (beside : Bool) (flutter : ℕ) (p : Values) (sides : CheckSides) : Type 0 where
  pub left : sides.left ≡ pos (left_of number p)
  pub right : sides.right ≡ pos (sharp_join_right_of number beside flutter p)
  pub holds : sides.holds ≡ sharp_join_holds_of number beside flutter p

-- the one of this number fails, and those of lesser numbers hold
pub record FirstSharpJoinFailing (number : ℕ) (beside : Bool) (flutter : ℕ) (p : Values) : Type 0 where
  pub from : 6 ≤ number
  pub to : number ≤ 9
  pub fails : sharp_join_holds_of number beside flutter p ≡ false
  pub earlier : (k : ℕ) → 6 ≤ k → k < number → sharp_join_holds_of k beside flutter p ≡ true

-- every one of the four holds
abbrev pub SharpJoinChecksHold : Bool → ℕ → Values → Type 0
SharpJoinChecksHold beside flutter p = (k : ℕ) → 6 ≤ k → k ≤ 9 → sharp_join_holds_of k beside flutter p ≡ true

-- then the offset limit suffices for the reach, and slots leave room for it; the rate limit suffices for a first rate; and of
-- the five checks those from the second on hold, with action points no further apart than in reach and no further than in sharp
-- sync
abbrev pub SharpJoinChecksSuffice : Type 0
SharpJoinChecksSuffice =
    (beside : Bool) (p : Values) (flutter : ℕ) → IsSane p → SharpJoinChecksHold beside flutter p
    → LimitSuffices p (pos (sharp_reach beside p flutter)) × LeavesRoom p (pos (sharp_reach beside p flutter))
    × RateSuffices p (pos 0 +ℤ pos (counted_error p flutter))
    × SharpChecksHold flutter (sharp_reach beside p flutter) p × SharpChecksHold flutter (sharp_near beside p flutter) p

-- where the older checks hold of nodes that join, so do these, if delays flutter by no more than twice the error of an arrival
abbrev pub OlderJoinChecksSuffice : Type 0
OlderJoinChecksSuffice =
    (beside : Bool) (p : Values) (flutter number : ℕ) → IsSane p → flutter ≤ 2 * arrival_error p
    → 6 ≤ number → number ≤ 9 → holds_of number p ≡ true → sharp_join_holds_of number beside flutter p ≡ true
