-- What is counted of each receiver by itself, and which receivers meet by that.
use Rattle.std.specs.Prelude.{ℕ, ◌+◌, ◌*◌, ◌==◌, ◌&&◌, ◌||◌, nat_le, nat_lt, Bool, true, false, not, if◌then◌else◌, List, fold, bit_and, count_ones}
use Rattle.std.specs.List.{list_all}
use Rattle.fr_cluster.specs.declared.nodes.NodeSpec.{NodeSpec}
use Rattle.fr_midpoint.specs.Midpoint.{discarded}
use Rattle.fr_traffic.specs.Traffic.{has_value, is_correct_sender, may_receive, most_count, stays, sure_count, Traffic}
use Rattle.fr_traffic.specs.declared.meeting.Receiver.{Receiver}

-- a number with a bit for each of some nodes, the last the lowest: set where a node passes a test
abbrev pub with_bit : Bool → ℕ → ℕ
with_bit set bits = if set then 2 * bits + 1 else 2 * bits

abbrev pub node_bits : (NodeSpec → Bool) → List NodeSpec → ℕ
node_bits test nodes = fold (λ bits a. with_bit (test a) bits) 0 nodes

-- a sender that stays on, of whom a receiver surely has a value
abbrev pub is_sure : Bool → Traffic → ℕ → NodeSpec → NodeSpec → Bool
is_sure rate t double b a = is_correct_sender t a && (stays t a && has_value rate true t double b a)

abbrev pub sure_bits : Bool → Traffic → ℕ → NodeSpec → ℕ
sure_bits rate t double b = node_bits (is_sure rate t double b) t.nodes

-- what is known of a receiver that has begun, and of one that has not
abbrev pub receiver_of : Bool → Traffic → ℕ → NodeSpec → Receiver
receiver_of rate t double b =
    if may_receive t double b then record { id = b.id; begun = true; sure = sure_bits rate t double b; discards = discarded (most_count rate t double b) }
    else record { id = b.id; begun = false; sure = 0; discards = 0 }

-- it has a value, or has not begun
abbrev pub has_some : Bool → ℕ → Bool
has_some begun sure = not begun || nat_le 1 (count_ones sure)

-- so it is of a node
abbrev pub has_own : Bool → Traffic → ℕ → NodeSpec → Bool
has_own rate t double b = not (may_receive t double b) || nat_le 1 (sure_count rate t double b)

-- another has not begun, or is the same, or both have enough in common
abbrev pub meets : Receiver → Receiver → Bool
meets one other =
    not other.begun || (one.id == other.id || nat_lt (one.discards + other.discards) (count_ones (bit_and one.sure other.sure)))

-- one has not begun, or meets each of some; and each does
abbrev pub meets_all : List Receiver → Receiver → Bool
meets_all others one = not one.begun || list_all (meets one) others

abbrev pub all_meet : List Receiver → Bool
all_meet receivers = list_all (meets_all receivers) receivers
