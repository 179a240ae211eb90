-- The order of the keys under which rows stand.
use Rattle.std.specs.Prelude.{ℕ, refl}
use Rattle.std.specs.declared.cmp.Ordering.{Ordering}
use Rattle.std.specs.Ordering.{nat_cmp, ordering_then}
use Rattle.std.specs.Coded.{Coded, code_by, coded×, coded_ℕ}
use Rattle.fr_drift.specs.declared.keys.LengthKey.{LengthKey}
use Rattle.fr_drift.specs.declared.keys.DelayKey.{DelayKey}

-- the row of a node from a cycle on
abbrev pub length_key : ℕ → ℕ → LengthKey
length_key node from = record { node = node; from = from }

-- the row of a link from a cycle on
abbrev pub delay_key : ℕ → ℕ → ℕ → DelayKey
delay_key sender receiver from = record { sender = sender; receiver = receiver; from = from }

-- by node, and then by cycle
abbrev pub length_cmp : LengthKey → LengthKey → Ordering
length_cmp a b = ordering_then (nat_cmp a.node b.node) (nat_cmp a.from b.from)

-- by sender, by receiver, and then by cycle
abbrev pub delay_cmp : DelayKey → DelayKey → Ordering
delay_cmp a b = ordering_then (nat_cmp a.sender b.sender) (ordering_then (nat_cmp a.receiver b.receiver) (nat_cmp a.from b.from))

-- a key as a tuple of numbers
abbrev pub coded_length_key : Coded LengthKey
coded_length_key = code_by (ℕ × ℕ) (coded× coded_ℕ coded_ℕ) (λ k. (k.node, k.from)) (λ p. record { node = p.0; from = p.1 }) (λ _. refl)

abbrev pub coded_delay_key : Coded DelayKey
coded_delay_key =
    code_by (ℕ × (ℕ × ℕ)) (coded× coded_ℕ (coded× coded_ℕ coded_ℕ)) (λ k. (k.sender, (k.receiver, k.from)))
    (λ p. record { sender = p.0; receiver = p.1.0; from = p.1.1 }) (λ _. refl)
