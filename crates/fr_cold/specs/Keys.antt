-- The order of the keys under which switches stand.
use Rattle.std.specs.Prelude.{ℕ, refl}
use Rattle.std.specs.declared.cmp.Ordering.{Ordering}
use Rattle.std.specs.Ordering.{nat_cmp, ordering_then}
use Rattle.std.specs.Coded.{Coded, code_by, coded×, coded_ℕ}
use Rattle.fr_cold.specs.declared.keys.PowerKey.{PowerKey}

-- the switch of a node at a macrotick
abbrev pub power_key : ℕ → ℕ → PowerKey
power_key at node = record { at = at; node = node }

-- by macrotick, and then by node
abbrev pub power_cmp : PowerKey → PowerKey → Ordering
power_cmp a b = ordering_then (nat_cmp a.at b.at) (nat_cmp a.node b.node)

-- a key as a pair of numbers
abbrev pub coded_key : Coded PowerKey
coded_key = code_by (ℕ × ℕ) (coded× coded_ℕ coded_ℕ) (λ k. (k.at, k.node)) (λ p. record { at = p.0; node = p.1 }) (λ _. refl)
