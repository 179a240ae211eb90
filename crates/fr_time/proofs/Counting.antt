-- Shares of a length, counted by a whole step and a running remainder.
use Rattle.std.proofs.Common.{◌≡◌, ℕ, ◌+◌, ◌-◌, ◌*◌, ◌/◌, ◌%◌, ◌<◌, ◌≤◌, ap, ◌∙◌, arith}
use Rattle.std.proofs.Math.Nat.{div-add-mod', div-le_of_le-mul, mod-lt, mul-le-mul_right}
use Rattle.std.proofs.lemmas.Nat.{div-mul-add, mod-mul-add}

-- the quotient and the remainder of a number that is so many parts and a rest
apart : (n parts whole rest : ℕ) → rest < parts → n ≡ whole * parts + rest → (n / parts ≡ whole) × (n % parts ≡ rest)
apart n parts whole rest less is =
    (ap (λ (x : ℕ). x / parts) is ∙ div-mul-add whole parts rest less, ap (λ (x : ℕ). x % parts) is ∙ mod-mul-add whole parts rest less)

-- one part more
sum_of : (m c parts : ℕ) → (m + 1) * c ≡ (m * c / parts + c / parts) * parts + (m * c % parts + c % parts)
sum_of m c parts =
    let before : m * c / parts * parts + m * c % parts ≡ m * c = div-add-mod' (m * c) parts in
    let step : c / parts * parts + c % parts ≡ c = div-add-mod' c parts in
    let split : (m + 1) * c ≡ m * c + c = omega arith in
    let joined : (m * c / parts + c / parts) * parts ≡ m * c / parts * parts + c / parts * parts = omega arith in
    omega (arith, before, step, split, joined)

step-within : (m c parts : ℕ) → m * c % parts + c % parts < parts →
    ((m + 1) * c / parts ≡ m * c / parts + c / parts) × ((m + 1) * c % parts ≡ m * c % parts + c % parts)
step-within m c parts less = apart ((m + 1) * c) parts (m * c / parts + c / parts) (m * c % parts + c % parts) less (sum_of m c parts)

step-over : (m c parts : ℕ) → 0 < parts → parts ≤ m * c % parts + c % parts →
    ((m + 1) * c / parts ≡ m * c / parts + c / parts + 1) × ((m + 1) * c % parts ≡ m * c % parts + c % parts - parts)
step-over m c parts some over =
    let rest : ℕ = m * c % parts + c % parts - parts in
    let one : m * c % parts < parts = mod-lt (m * c) some in
    let two : c % parts < parts = mod-lt c some in
    let less : rest < parts = omega (arith, one, two) in
    let more : (m * c / parts + c / parts + 1) * parts ≡ (m * c / parts + c / parts) * parts + parts = omega arith in
    let is : (m + 1) * c ≡ (m * c / parts + c / parts + 1) * parts + rest = omega (arith, sum_of m c parts, more, over) in
    apart ((m + 1) * c) parts (m * c / parts + c / parts + 1) rest less is

-- the same of numbers that are these
pub within_next : (m c parts whole part at rest sum : ℕ) → 0 < parts → whole ≡ c / parts → part ≡ c % parts → at ≡ m * c / parts → rest ≡ m * c % parts → sum ≡ rest + part → sum < parts →
    (at + whole ≡ (m + 1) * c / parts) × (sum ≡ (m + 1) * c % parts)
within_next m c parts whole part at rest sum some whole_is part_is at_is rest_is sum_is less =
    let next = step-within m c parts (omega (arith, part_is, rest_is, sum_is, less)) in
    (omega (arith, next.0, whole_is, at_is), omega (arith, next.1, part_is, rest_is, sum_is))

pub over_next : (m c parts whole part at rest sum : ℕ) → 0 < parts → whole ≡ c / parts → part ≡ c % parts → at ≡ m * c / parts → rest ≡ m * c % parts → sum ≡ rest + part → parts ≤ sum →
    (at + whole + 1 ≡ (m + 1) * c / parts) × (sum - parts ≡ (m + 1) * c % parts)
over_next m c parts whole part at rest sum some whole_is part_is at_is rest_is sum_is over =
    let next = step-over m c parts some (omega (arith, part_is, rest_is, sum_is, over)) in
    (omega (arith, next.0, whole_is, at_is), omega (arith, next.1, part_is, rest_is, sum_is))

pub share-le : (m c parts : ℕ) → m ≤ parts → m * c / parts ≤ c
share-le m c parts within = div-le_of_le-mul parts (mul-le-mul_right c within)
