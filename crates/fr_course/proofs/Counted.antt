-- Numbers of macroticks of a cycle.
use Rattle.std.proofs.Common.{ℤ, pos, arith}
use Rattle.std.specs.Prelude.{◌-ℤ◌, ◌≤ℤ◌, neg_ℤ}
use Rattle.std.proofs.lemmas.Int.{ints}
use Rattle.fr_base.specs.Within.{IsBetween, IsWithin}
use Rattle.fr_course.specs.Course.{Course}
use Rattle.fr_course.specs.Readings.{Scale}
use Rattle.fr_course.specs.Near.{IsNearCourse, IsReadingScale}

pub counted_near : {macros x : ℤ} → IsBetween (pos 0) macros x → macros ≤ℤ pos 16_000 → IsWithin (pos 16_000) x
counted_near between to = record { low = omega (arith, ints, between.low); high = omega (arith, ints, between.high, to) }

pub macros_between : {scale : Scale} → IsReadingScale scale → IsBetween (pos 1) (pos 16_000) scale.macros
macros_between is = record { low = is.macros_from; high = is.macros_to }

pub correction_between : {scale : Scale} → IsReadingScale scale → IsBetween (pos 0) scale.macros scale.correction
correction_between is = record { low = is.correction_from; high = is.correction_to }

up_to : {a b c : ℤ} → a ≤ℤ b → b ≤ℤ c → a ≤ℤ c
up_to h k = omega (arith, ints, h, k)

left : {whole part : ℤ} → IsBetween (pos 0) whole part → IsBetween (pos 0) whole (whole -ℤ part)
left between = record { low = omega (arith, ints, between.high); high = omega (arith, ints, between.low) }

within : {whole most part : ℤ} → IsBetween (pos 0) most part → most ≤ℤ whole → IsBetween (pos 0) whole part
within between le = record { low = between.low; high = up_to between.high le }

pub action_between : (scale : Scale) (course : Course) → IsReadingScale scale → IsNearCourse scale course → IsBetween (pos 0) scale.macros course.action
action_between scale course is near = within (record { low = near.action_from; high = near.action_to }) is.correction_to

pub rest_between : (scale : Scale) (course : Course) → IsReadingScale scale → IsNearCourse scale course
    → IsBetween (pos 0) scale.macros (scale.macros -ℤ course.action)
rest_between scale course is near = left (action_between scale course is near)

pub ahead_between : (scale : Scale) (course : Course) → IsReadingScale scale → IsNearCourse scale course
    → IsBetween (pos 0) scale.macros (scale.correction -ℤ course.action)
ahead_between scale course is near = within (left (record { low = near.action_from; high = near.action_to })) is.correction_to

pub before_between : (scale : Scale) (course : Course) → IsReadingScale scale → IsNearCourse scale course
    → IsBetween (pos 0) scale.macros (scale.macros -ℤ (scale.correction -ℤ course.action))
before_between scale course is near = left (ahead_between scale course is near)

-- ---- so many before another one: a number below 0

pub counted_before : {macros x : ℤ} → IsBetween (neg_ℤ macros) (pos 0) x → macros ≤ℤ pos 16_000 → IsWithin (pos 16_000) x
counted_before between to = record { low = omega (arith, ints, between.low, to); high = omega (arith, ints, between.high) }

pub turned_near : {bound x : ℤ} → IsWithin bound x → IsWithin bound (neg_ℤ x)
turned_near near = record { low = omega (arith, ints, near.high); high = omega (arith, ints, near.low) }

pub none_less : {bound x : ℤ} → IsWithin bound x → IsWithin bound (pos 0 -ℤ x)
none_less near = record { low = omega (arith, ints, near.high); high = omega (arith, ints, near.low) }

pub before_none : {macros x : ℤ} → IsBetween (neg_ℤ macros) (pos 0) x → IsBetween (pos 0) macros (pos 0 -ℤ x)
before_none between = record { low = omega (arith, ints, between.high); high = omega (arith, ints, between.low) }
