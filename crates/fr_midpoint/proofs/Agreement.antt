-- The midpoints of receivers that have a value of each of some common positions: what they have in common value by value
-- says how near they lie.
use Rattle.std.proofs.Common.{◌≡◌, ℕ, ◌+◌, ◌≤◌, ℤ, pos, List, get_or, refl, inl, inr, arith}
use Rattle.std.specs.Prelude.{◌+ℤ◌, ◌-ℤ◌, ◌*ℤ◌, ◌≤ℤ◌}
use Rattle.std.proofs.lemmas.Int.{ints}
use Rattle.std.proofs.lemmas.Slice.Zip.{AllZip-long}
use Rattle.fr_base.specs.Within.{IsBetween, IsWithin, LieWithin}
use Rattle.fr_midpoint.specs.Midpoint.{discarded}
use Rattle.fr_midpoint.specs.Receivers.{place_at, FewAreDiscarded, IsPlaced, OneReceiver, Receiver, Receives, TwoReceivers}
use Rattle.fr_midpoint.specs.Said.{lies_after, AllLieNear, KeepsSaid, SameLieNear}
use Rattle.fr_midpoint.proofs.SaidLemmas.{one_between_lem, two_apart_lem, within_both}
use Rattle.fr_midpoint.proofs.Zips.{zip_all, zip_both, zip_said}

module _ (before after : ℤ) (positions : List ℤ) where
  -- a receiver of positions keeps what their senders said
  keeps : (receiver : Receiver) (receives : Receives before after positions receiver) → KeepsSaid receives.hears.said receiver
  keeps receiver receives = record {
    lasts = receives.lasts;
    further = receives.hears.further;
    parts = receives.hears.parts;
    few = receives.hears.few;
  }

  -- values that place positions lie no further apart than these, but for how well they place them
  placed_near :
      (spread x y a b : ℤ) → IsWithin spread (x -ℤ y) → (x -ℤ before) ≤ℤ a → a ≤ℤ (x +ℤ after) → (y -ℤ before) ≤ℤ b
      → b ≤ℤ (y +ℤ after) → IsWithin (spread +ℤ before +ℤ after) (a -ℤ b)
  placed_near spread x y a b near from to also_from also_to = record {
    low = omega (arith, ints, near.low);
    high = omega (arith, ints, near.high);
  }

  module _ (one other : Receiver) (receives : Receives before after positions one) (also : Receives before after positions other) where
    -- its value and another's of one position
    same_near : SameLieNear one other (pos 0 +ℤ before +ℤ after) receives.hears.said also.hears.said
    same_near =
        zip_both (λ x. IsWithin (pos 0) (x -ℤ x)) (IsPlaced one.base one.unit before after) (IsPlaced other.base other.unit before after)
        (λ v u. IsWithin (pos 0 +ℤ before +ℤ after) (lies_after one other v u)) positions receives.hears.said also.hears.said
        (λ x v u near at also_at. placed_near (pos 0) x x (place_at one v) (place_at other u) near at.low at.high also_at.low also_at.high)
        (λ i d short. none_apart (get_or positions i d)) receives.hears.each also.hears.each
      where
        none_apart : (x : ℤ) → IsWithin (pos 0) (x -ℤ x)
        none_apart x = record { low = omega (arith, ints); high = omega (arith, ints) }

    -- and of any two
    all_near :
        (spread : ℤ) → LieWithin spread positions
        → AllLieNear one other (spread +ℤ before +ℤ after) receives.hears.said also.hears.said
    all_near spread near =
        zip_all (λ x y. IsWithin spread (x -ℤ y)) (IsPlaced one.base one.unit before after) (IsPlaced other.base other.unit before after)
        (λ v u. IsWithin (spread +ℤ before +ℤ after) (lies_after one other v u)) positions receives.hears.said also.hears.said
        (λ x y v u apart at also_at. placed_near spread x y (place_at one v) (place_at other u) apart at.low at.high also_at.low also_at.high)
        (λ i d short j e within. within_both (get_or positions i d) (get_or positions j e) spread (near i d short j e within) (near j e within i d short))
        receives.hears.each also.hears.each

-- the midpoint of one receiver lies among the positions
pub one_receiver_lem : OneReceiver
one_receiver_lem positions least greatest before after r mid from to receives is =
    let among =
    one_between_lem receives.hears.said (least -ℤ before) (greatest +ℤ after) r mid (keeps before after positions r receives)
    (
    zip_said (IsBetween least greatest) (IsPlaced r.base r.unit before after) (λ v. IsBetween (least -ℤ before) (greatest +ℤ after) (place_at r v))
    positions receives.hears.said
    (λ x v between at. placed_between x (place_at r v) between.low between.high at.low at.high)
    (λ i d short. record { low = from i d short; high = to i d short }) receives.hears.each
    ) is in
    (among.low, among.high)
  where
    placed_between : (x a : ℤ) → least ≤ℤ x → x ≤ℤ greatest → (x -ℤ before) ≤ℤ a → a ≤ℤ (x +ℤ after) → IsBetween (least -ℤ before) (greatest +ℤ after) a
    placed_between x a low high at_low at_high = record { low = omega (arith, ints); high = omega (arith, ints) }

-- the midpoints of two receivers lie about half as far apart as the positions
pub two_receivers_lem : TwoReceivers
two_receivers_lem positions spread before after longest one other mid other_mid near receives also_receives short also_short share is also =
    let long = AllZip-long (IsPlaced one.base one.unit before after) positions receives.hears.said receives.hears.each in
    regrouped (pos 2 *ℤ lies_after one other mid other_mid)
    (
    two_apart_lem receives.hears.said also_receives.hears.said (pos 0 +ℤ before +ℤ after) (spread +ℤ before +ℤ after) longest one other mid other_mid
    (keeps before after positions one receives) (keeps before after positions other also_receives) short also_short
    (same_near before after positions one other receives also_receives)
    (all_near before after positions one other receives also_receives spread near)
    (omega (arith, share, long)) is also
    )
  where
    regrouped :
        (x : ℤ) → IsWithin ((pos 0 +ℤ before +ℤ after) +ℤ (spread +ℤ before +ℤ after) +ℤ (pos 2 *ℤ longest)) x
        → IsWithin (spread +ℤ (pos 2 *ℤ (before +ℤ after)) +ℤ (pos 2 *ℤ longest)) x
    regrouped x apart = record { low = omega (arith, ints, apart.low); high = omega (arith, ints, apart.high) }

-- where the arbitrary nodes are few, enough is discarded
few_none : (correct : ℕ) → 1 ≤ correct → discarded correct + discarded correct + 1 ≤ correct
few_none correct some = grind arith

few_one : (correct heard other : ℕ) → 3 ≤ correct → heard ≤ 1 → other ≤ 1 → (heard ≤ discarded (correct + heard)) × (discarded (correct + heard) + discarded (correct + other) + 1 ≤ correct)
few_one correct heard other some one also = (grind arith, grind arith)

few_two : (correct heard other : ℕ) → 6 ≤ correct → heard ≤ 2 → other ≤ 2 → (heard ≤ discarded (correct + heard)) × (discarded (correct + heard) + discarded (correct + other) + 1 ≤ correct)
few_two correct heard other some two also = (grind arith, grind arith)

pub few_are_discarded_lem : FewAreDiscarded
few_are_discarded_lem correct arbitrary heard other (inl (is, some)) within also =
    let none : heard ≡ 0 = omega arith in
    let neither : other ≡ 0 = omega arith in
    let all : (n : ℕ) → n ≡ 0 → correct + n ≡ correct = λ n e. omega arith in
    rw (none, neither, all 0 refl) (omega arith, few_none correct some)
few_are_discarded_lem correct arbitrary heard other (inr (inl (is, some))) within also =
    few_one correct heard other some (omega arith) (omega arith)
few_are_discarded_lem correct arbitrary heard other (inr (inr (is, some))) within also =
    few_two correct heard other some (omega arith) (omega arith)
