-- What receivers make of the values that they have of common senders, of which some others may have said anything.
use Rattle.std.specs.Prelude.{◌≡◌, ◌⊎◌, ℕ, ◌+◌, ◌≤◌, ℤ, pos, ◌+ℤ◌, ◌-ℤ◌, ◌*ℤ◌, ◌≤ℤ◌, ◌<ℤ◌, List, ◌++◌, length, All, IsPermutation}
use Rattle.std.specs.List.{AllZip}
use Rattle.fr_base.specs.Within.{IsWithin, LieWithin}
use Rattle.fr_midpoint.specs.Midpoint.{discarded, IsMidpoint}

-- where a value lies: so many units from a base
abbrev pub measured_place : ℤ → ℤ → ℤ → ℤ
measured_place base unit value = base +ℤ (value *ℤ unit)

-- a value places a position: it lies at most so far before it and at most so far after it
pub record IsPlaced (base unit before after position value : ℤ) : Type 0 where
  pub low : (position -ℤ before) ≤ℤ measured_place base unit value
  pub high : measured_place base unit value ≤ℤ (position +ℤ after)

-- a list has one value of each sender, at a place of its own, and at most as many further values as are discarded at
-- each end
pub record Hears (X : Type 0) (Says : X → ℤ → Type 0) (senders : List X) (values : List ℤ) : Type 0 where
  pub said : List ℤ
  pub further : List ℤ
  pub parts : IsPermutation (said ++ further) values
  pub few : length further ≤ discarded (length values)
  pub each : AllZip Says senders said

-- a receiver: its base, the unit of its values, and their list
pub record Receiver : Type 0 where
  pub base : ℤ
  pub unit : ℤ
  pub values : List ℤ

-- a number of units from a receiver's base
abbrev pub place_at : Receiver → ℤ → ℤ
place_at receiver value = measured_place receiver.base receiver.unit value

-- a receiver has a value of each position, and at most as many further values as are discarded at each end
pub record Receives (before after : ℤ) (positions : List ℤ) (receiver : Receiver) : Type 0 where
  pub lasts : pos 0 <ℤ receiver.unit
  pub hears : Hears ℤ (IsPlaced receiver.base receiver.unit before after) positions receiver.values

-- one position remains for both receivers, whatever each of them discards
abbrev pub ShareOne : Receiver → Receiver → List ℤ → Type 0
ShareOne one other positions =
    discarded (length one.values) + discarded (length other.values) + 1 ≤ length positions

-- the midpoints of two receivers lie half as far apart as the positions, but for how well the values place them and for
-- the microtick that halving toward zero may take from each
abbrev pub TwoReceivers : Type 0
TwoReceivers =
    (positions : List ℤ) (spread before after longest : ℤ) (one other : Receiver) (mid other_mid : ℤ)
    → LieWithin spread positions → Receives before after positions one → Receives before after positions other
    → one.unit ≤ℤ longest → other.unit ≤ℤ longest → ShareOne one other positions
    → IsMidpoint one.values mid → IsMidpoint other.values other_mid
    → IsWithin
    (spread +ℤ (pos 2 *ℤ (before +ℤ after)) +ℤ (pos 2 *ℤ longest))
    (pos 2 *ℤ (place_at one mid -ℤ place_at other other_mid))

-- the midpoint of one receiver lies among the positions, but for how well the values place them
abbrev pub OneReceiver : Type 0
OneReceiver =
    (positions : List ℤ) (least greatest before after : ℤ) (receiver : Receiver) (mid : ℤ)
    → All (λ x. least ≤ℤ x) positions → All (λ x. x ≤ℤ greatest) positions → Receives before after positions receiver
    → IsMidpoint receiver.values mid
    → ((least -ℤ before) ≤ℤ place_at receiver mid) × (place_at receiver mid ≤ℤ (greatest +ℤ after))

-- so many arbitrary sync nodes beside so many correct ones are few
abbrev pub AreFew : ℕ → ℕ → Type 0
AreFew correct arbitrary =
    ((arbitrary ≡ 0) × (1 ≤ correct)) ⊎ ((arbitrary ≡ 1) × (3 ≤ correct)) ⊎ ((arbitrary ≡ 2) × (6 ≤ correct))

-- where the arbitrary sync nodes are few, and a list has a value of each correct one and of some arbitrary ones, at each
-- end at least as many values are discarded as it has of arbitrary ones; and one correct value remains for two receivers
abbrev pub FewAreDiscarded : Type 0
FewAreDiscarded =
    (correct arbitrary heard other_heard : ℕ)
    → AreFew correct arbitrary → heard ≤ arbitrary → other_heard ≤ arbitrary
    → (heard ≤ discarded (correct + heard)) × (discarded (correct + heard) + discarded (correct + other_heard) + 1 ≤ correct)
