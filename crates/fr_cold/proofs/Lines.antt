-- Switches of the macroticks before the first that is found.
use Rattle.std.proofs.Common.{◌≡◌, ℕ, ◌<◌, ◌≤◌, false, Option, Some, None, refl, arith}
use Rattle.std.specs.Prelude.{IsSome}
use Rattle.std.specs.declared.cmp.Ordering.{Ordering}
use Rattle.std.specs.declared.cmp.Ordering.TheVariants.{Less, Equal, Greater}
use Rattle.std.specs.Ordering.{nat_cmp, ordering_then, is_gt}
use Rattle.std.specs.BTreeMap.{BTreeMap, get}
use Rattle.std.proofs.lemmas.Bool.Decides.{nat_tests}
use Rattle.fr_cold.specs.StartupLaws.{IsNumber}
use Rattle.fr_cold.specs.declared.state.Switch.{Switch}
use Rattle.fr_cold.specs.Keys.{power_cmp, power_key}
use Rattle.fr_cold.specs.Spans.{IsFromTo, IsFirstRow}
use Rattle.fr_cold.specs.declared.keys.PowerKey.{PowerKey}

then-first : (x y : Ordering) → is_gt (ordering_then x y) ≡ false → is_gt x ≡ false
then-first Less y e = refl
then-first Equal y e = refl
then-first Greater y e = e

then-both : (x y : Ordering) → is_gt x ≡ false → is_gt y ≡ false → is_gt (ordering_then x y) ≡ false
then-both Less y e f = refl
then-both Equal y e f = f
then-both Greater y e f = e

up-to : (a b : ℕ) → is_gt (nat_cmp a b) ≡ false → a ≤ b
up-to a b e = grind (arith, nat_tests)

not-later : (a b : ℕ) → a ≤ b → is_gt (nat_cmp a b) ≡ false
not-later a b e = grind (arith, nat_tests)

inside : (tick end t node : ℕ) → tick ≤ t → t ≤ end → IsNumber node → IsFromTo power_cmp (power_key tick 1) (power_key end 64) (power_key t node)
inside tick end t node from to number = record {
  from = then-both (nat_cmp tick t) (nat_cmp 1 node) (not-later tick t from) (not-later 1 node number.from);
  to = then-both (nat_cmp t end) (nat_cmp node 64) (not-later t end to) (not-later node 64 number.to);
}

none-or-some : {A : Type 0} (o : Option A) → (IsSome o → ⊥) → o ≡ None
none-or-some None never = refl
none-or-some (Some x) never = absurd (never refl)

pub first-quiet : (rows : BTreeMap PowerKey Switch) (tick end : ℕ) (key : PowerKey) → IsFirstRow power_cmp (get power_cmp rows) (power_key tick 1) (power_key end 64) key
    → (t node : ℕ) → tick ≤ t → t < key.at → IsNumber node → get power_cmp rows (power_key t node) ≡ None
first-quiet rows tick end key first t node from below number =
    let within = up-to key.at end (then-first (nat_cmp key.at end) (nat_cmp key.node 64) first.inside.to) in
    none-or-some (get power_cmp rows (power_key t node))
    (λ some.
    let ahead = up-to key.at t (then-first (nat_cmp key.at t) (nat_cmp key.node node) (first.before (power_key t node) (inside tick end t node from (omega arith) number) some)) in
    absurd (omega arith))

pub none-quiet : (rows : BTreeMap PowerKey Switch) (tick end : ℕ) → ((key : PowerKey) → IsFromTo power_cmp (power_key tick 1) (power_key end 64) key → get power_cmp rows key ≡ None)
    → (t node : ℕ) → tick ≤ t → t < end → IsNumber node → get power_cmp rows (power_key t node) ≡ None
none-quiet rows tick end none t node from below number = none (power_key t node) (inside tick end t node from (omega arith) number)
