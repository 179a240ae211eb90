-- A walk that is held: where oscillators do not change, lengths that walk by less than two thirds of a microtick in a double cycle
-- come less than a microtick beyond their range in all, since each is a whole number of microticks.
use Rattle.std.specs.Prelude.{ℕ, ◌≡◌, ◌*◌, ◌<◌, ◌≤◌, int_le, int_lt, nat_abs, nat_eq, if◌then◌else◌, IfSome, ◌&&◌, Bool, true, Option, None, ℤ, pos, ◌+ℤ◌, ◌-ℤ◌, ◌*ℤ◌, ◌≤ℤ◌, ◌<ℤ◌, List, length, map, count_by, All}
use Rattle.fr_base.specs.declared.node_row.NodeRow.{NodeRow}
use Rattle.fr_base.specs.declared.Outcome.TheVariants.{Within}
use Rattle.fr_cluster.specs.Values.{Values}
use Rattle.fr_cluster.specs.Sane.{IsSane}
use Rattle.fr_midpoint.specs.Midpoint.{discarded}
use Rattle.fr_time.specs.Position.{floor_of}
use Rattle.fr_correct.specs.declared.term.Term.{Term}
use Rattle.fr_bound.specs.Bounds.{shortest_micro}
use Rattle.fr_bound.specs.SharpBounds.{rate_room, rate_walk, walk_lasts}
use Rattle.fr_bound.specs.Sync.{cycle_length_of}
use Rattle.fr_precision.specs.Rows.{longest_cycle, shortest_cycle, Sender}
use Rattle.fr_precision.specs.Lengths.{walked_after, IsNextEven, IsSteadyRound}

-- oscillators do not change
abbrev pub oscillators_stay : Values → Bool
oscillators_stay p = nat_eq (nat_abs p.change_bound) 0

-- they do not; lengths walk, by less than two thirds of the shortest microtick in a double cycle; and the rate limit suffices
-- for lengths not quite a microtick beyond their range, and one such walk further
abbrev pub walk_is_held : Values → ℕ → Bool
walk_is_held p flutter =
    oscillators_stay p && int_lt (pos 0) (rate_walk p flutter)
    && int_lt (pos 3 *ℤ rate_walk p flutter) (pos (2 * shortest_micro p))
    && int_le ((pos (shortest_micro p) -ℤ pos 1) +ℤ rate_walk p flutter) (pos (rate_room p))

-- how far beyond their range lengths may lie for ever, in ticks: less than a microtick where the walk is held, else not at all
abbrev pub beyond_for_ever : Values → ℕ → ℤ
beyond_for_ever p flutter = if walk_is_held p flutter then pos (shortest_micro p) -ℤ pos 1 else pos 0

-- for how many double cycles sharp sync lasts, under the second check: on and on, without a number, where lengths do not walk or
-- the walk is held, else for as many as the rate limit holds it
abbrev pub sync_lasts : Values → ℕ → Option ℕ
sync_lasts p flutter = if walk_is_held p flutter then None else walk_lasts p flutter

-- the same where all is heard, and else by the walk alone
abbrev pub lasts_by : Bool → Values → ℕ → Option ℕ
lasts_by heard p flutter = if heard then sync_lasts p flutter else walk_lasts p flutter

-- how far beyond their range lengths may lie after so many of them
abbrev pub beyond_after : Values → ℕ → ℕ → ℤ
beyond_after p flutter passed = if walk_is_held p flutter then beyond_for_ever p flutter else walked_after p flutter passed

-- before it has lasted so long, and up to when it has
abbrev pub SyncLastsAfter : Values → ℕ → ℕ → Type 0
SyncLastsAfter p flutter passed = IfSome (sync_lasts p flutter) (λ lasts. passed < lasts)

abbrev pub SyncLastsUpTo : Values → ℕ → ℕ → Type 0
SyncLastsUpTo p flutter passed = IfSome (sync_lasts p flutter) (λ lasts. passed ≤ lasts)

-- ---- levels: lengths that no list of values leads over

-- no multiple of a microtick lies among so many whole numbers just below a level, or just above it
abbrev pub is_clear_below : ℤ → ℤ → ℤ → Bool
is_clear_below walk level micro = int_le (floor_of (level -ℤ pos 1) micro) (floor_of ((level -ℤ pos 1) -ℤ walk) micro)

abbrev pub is_clear_above : ℤ → ℤ → ℤ → Bool
is_clear_above walk level micro = int_le (floor_of (level +ℤ walk) micro) (floor_of level micro)

-- a level no more than a microtick above the range of lengths: more than a crowd of senders, by their microticks, have no length
-- less than a walk below it
pub record IsHighLevel (p : Values) (flutter crowd : ℕ) (micros : List ℤ) (level : ℤ) : Type 0 where
  pub above : pos (longest_cycle p) <ℤ level
  pub near : level ≤ℤ (pos (longest_cycle p) +ℤ pos (shortest_micro p))
  pub clear : crowd < count_by (is_clear_below (rate_walk p flutter) level) micros

-- and one no more than a microtick below it
pub record IsLowLevel (p : Values) (flutter crowd : ℕ) (micros : List ℤ) (level : ℤ) : Type 0 where
  pub below : level <ℤ pos (shortest_cycle p)
  pub near : (pos (shortest_cycle p) -ℤ pos (shortest_micro p)) ≤ℤ level
  pub clear : crowd < count_by (is_clear_above (rate_walk p flutter) level) micros

-- where the walk is held there are both, for a crowd of no more than a third of the senders
abbrev pub LevelsAreThere : Type 0
LevelsAreThere =
    (p : Values) (flutter crowd : ℕ) (micros : List ℤ)
    → IsSane p → walk_is_held p flutter ≡ true → 1 ≤ length micros → 3 * crowd ≤ length micros
    → All (λ micro. pos (shortest_micro p) ≤ℤ micro) micros
    → ((low : ℤ) × IsLowLevel p flutter crowd micros low) × ((high : ℤ) × IsHighLevel p flutter crowd micros high)

-- the microticks of some senders
abbrev pub micros_of : List Sender → List ℤ
micros_of senders = map (λ sender. sender.even.length) senders

-- the lengths of some cycles lie between two numbers
abbrev pub LieBetween : Values → ℤ → ℤ → List NodeRow → Type 0
LieBetween p low high rows = All (λ row. (low <ℤ cycle_length_of p row) × (cycle_length_of p row <ℤ high)) rows

-- a receiver whose list discards no more than the crowd, and whose own length lies between two levels as those of all senders do,
-- stays between them; the senders' microticks are no shorter than the shortest, as where there are levels
abbrev pub LevelsHold : Type 0
LevelsHold =
    (p : Values) (flutter crowd : ℕ) (senders : List Sender) (low high : ℤ) (row : NodeRow) (values : List ℤ) (term : Term) (even : NodeRow)
    → IsSane p → walk_is_held p flutter ≡ true → All (λ micro. pos (shortest_micro p) ≤ℤ micro) (micros_of senders)
    → IsLowLevel p flutter crowd (micros_of senders) low → IsHighLevel p flutter crowd (micros_of senders) high
    → LieBetween p low high (map (λ sender. sender.even) senders) → low <ℤ cycle_length_of p row → cycle_length_of p row <ℤ high
    → discarded (length values) ≤ crowd → IsSteadyRound p flutter senders row values term → term.outcome ≡ Within
    → IsNextEven p row term even → (low <ℤ cycle_length_of p even) × (cycle_length_of p even <ℤ high)
