-- The midpoints of two receivers that have values of the same senders, compared value by value: how near the two values of
-- one sender lie counts apart from how near values of different senders do.
use Rattle.std.specs.Prelude.{◌≡◌, ◌+◌, ◌≤◌, ℤ, pos, ◌+ℤ◌, ◌-ℤ◌, ◌*ℤ◌, ◌≤ℤ◌, ◌<ℤ◌, List, ◌++◌, length, All, IsPermutation}
use Rattle.std.specs.List.{AllZip}
use Rattle.fr_base.specs.Within.{IsBetween, IsWithin}
use Rattle.fr_midpoint.specs.Midpoint.{discarded, IsMidpoint}
use Rattle.fr_midpoint.specs.Receivers.{place_at, Receiver}

-- a receiver has these values, of the senders in their order, and at most as many further ones as are discarded at each
-- end; its unit lasts
pub record KeepsSaid (said : List ℤ) (receiver : Receiver) : Type 0 where
  pub lasts : pos 0 <ℤ receiver.unit
  pub further : List ℤ
  pub parts : IsPermutation (said ++ further) receiver.values
  pub few : length further ≤ discarded (length receiver.values)

-- how far a value of one receiver lies after a value of another
abbrev pub lies_after : Receiver → Receiver → ℤ → ℤ → ℤ
lies_after one other value other_value = place_at one value -ℤ place_at other other_value

-- the two values of each sender lie at most so far apart
abbrev pub SameLieNear : Receiver → Receiver → ℤ → List ℤ → List ℤ → Type 0
SameLieNear one other same = AllZip (λ v u. IsWithin same (lies_after one other v u))

-- any value that one receiver has of a sender lies at most so far from any that another has of one
abbrev pub AllLieNear : Receiver → Receiver → ℤ → List ℤ → List ℤ → Type 0
AllLieNear one other cross said other_said = All (λ v. All (λ u. IsWithin cross (lies_after one other v u)) other_said) said

-- the midpoints of two receivers lie at most half of both numbers apart, and the unit that halving toward zero may take from
-- each: where one sender's values remain for both, whatever each of them discards
abbrev pub TwoReceiversApart : Type 0
TwoReceiversApart =
    (said other_said : List ℤ) (same cross longest : ℤ) (one other : Receiver) (mid other_mid : ℤ)
    → KeepsSaid said one → KeepsSaid other_said other → one.unit ≤ℤ longest → other.unit ≤ℤ longest
    → SameLieNear one other same said other_said → AllLieNear one other cross said other_said
    → discarded (length one.values) + discarded (length other.values) + 1 ≤ length said
    → IsMidpoint one.values mid → IsMidpoint other.values other_mid
    → IsWithin (same +ℤ cross +ℤ (pos 2 *ℤ longest)) (pos 2 *ℤ lies_after one other mid other_mid)

-- without further values they lie no further apart than the two values of each sender do, and that unit
abbrev pub TwoReceiversAlone : Type 0
TwoReceiversAlone =
    (said other_said : List ℤ) (same longest : ℤ) (one other : Receiver) (mid other_mid : ℤ)
    → KeepsSaid said one → KeepsSaid other_said other → one.unit ≤ℤ longest → other.unit ≤ℤ longest
    → SameLieNear one other same said other_said
    → length one.values ≡ length said → length other.values ≡ length said
    → IsMidpoint one.values mid → IsMidpoint other.values other_mid
    → IsWithin (same +ℤ longest) (lies_after one other mid other_mid)

-- the midpoint of a receiver lies among the values that senders have said
abbrev pub OneBetween : Type 0
OneBetween =
    (said : List ℤ) (least greatest : ℤ) (receiver : Receiver) (mid : ℤ)
    → KeepsSaid said receiver → All (λ v. IsBetween least greatest (place_at receiver v)) said
    → IsMidpoint receiver.values mid → IsBetween least greatest (place_at receiver mid)
