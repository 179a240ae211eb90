-- Quotients rounded down.
use Rattle.std.proofs.Common.{◌≡◌, FitsSigned, ℕ, ℤ, pos, negsuc, w64, ◌+◌, ◌-◌, ◌*◌, ◌/◌, ◌<◌, ◌≤◌, refl, ap, sym, subst, arith}
use Rattle.std.specs.Prelude.{◌≤ℤ◌, ◌<ℤ◌, ◌+ℤ◌, ◌*ℤ◌, nat_abs}
use Rattle.std.proofs.lemmas.Int.{ints}
use Rattle.std.proofs.Math.Nat.{add-mul-div_left, div-le_of_le-mul, mul-add, mul_comm, mul-div_cancel_left, mul-le-mul_right}
use Rattle.fr_time.specs.Position.{floor_of}

-- a number from 0 on is that of a natural
pub natural : (z : ℤ) → pos 0 ≤ℤ z → z ≡ pos (nat_abs z)
natural (pos n) from = refl
natural (negsuc n) from = absurd (omega (arith, ints))

naturals_share : (count length parts : ℕ) → count ≤ parts → count * length / parts ≤ length
naturals_share count length parts within = div-le_of_le-mul parts (mul-le-mul_right length within)

-- so many of the parts of a length are no more than the length
pub share_le : (count length parts : ℤ) → pos 0 ≤ℤ count → count ≤ℤ parts → pos 0 ≤ℤ length → floor_of (count *ℤ length) parts ≤ℤ length
share_le (pos count) (pos length) (pos parts) count_from within from =
    let below : count * length / parts ≤ length = naturals_share count length parts (omega (arith, ints)) in omega (arith, ints)
share_le (negsuc count) length parts count_from within from = absurd (omega (arith, ints))
share_le (pos count) (negsuc length) parts count_from within from = absurd (omega (arith, ints))
share_le (pos count) (pos length) (negsuc parts) count_from within from = absurd (omega (arith, ints))

-- all of the parts of a length are the length
pub share_of_all : (length parts : ℤ) → pos 1 ≤ℤ parts → pos 0 ≤ℤ length → floor_of (parts *ℤ length) parts ≡ length
share_of_all (pos length) (pos parts) some from = ap pos (mul-div_cancel_left length (omega (arith, ints)))
share_of_all (negsuc length) parts some from = absurd (omega (arith, ints))
share_of_all (pos length) (negsuc parts) some from = absurd (omega (arith, ints))

-- none of the parts is nothing
pub share_of_none : (count length parts : ℤ) → count ≡ pos 0 → pos 1 ≤ℤ parts → pos 0 ≤ℤ length → floor_of (count *ℤ length) parts ≡ pos 0
share_of_none count (pos length) (pos parts) none some from = rw none (grind arith)
share_of_none count (negsuc length) parts none some from = absurd (omega (arith, ints))
share_of_none count (pos length) (negsuc parts) none some from = absurd (omega (arith, ints))

-- where the parts that are left leave so much of a length, the others' share and that are no more than it
naturals_leave : (count rest length spare : ℕ) → 0 < count + rest → (count + rest) * spare ≤ length * rest → count * length / (count + rest) + spare ≤ length
naturals_leave count rest length spare some leaves =
    let parts = count + rest in
    let apart : parts * length ≡ count * length + rest * length = omega (arith, mul_comm parts length, mul_comm count length, mul_comm rest length, mul-add length count rest) in
    let turned : length * rest ≡ rest * length = mul_comm length rest in
    let within : count * length + parts * spare ≤ parts * length = omega (arith, apart, turned, leaves) in
    let whole : (count * length + parts * spare) / parts ≤ length = div-le_of_le-mul parts within in
    omega (arith, add-mul-div_left (count * length) spare some, whole)

pub share_leaves : (count length parts spare : ℤ) → pos 0 ≤ℤ count → count <ℤ parts → pos 0 ≤ℤ length → pos 0 ≤ℤ spare
    → nat_abs parts * nat_abs spare ≤ nat_abs length * (nat_abs parts - nat_abs count) → (floor_of (count *ℤ length) parts +ℤ spare) ≤ℤ length
share_leaves (pos count) (pos length) (pos parts) (pos spare) count_from within from spare_from leaves =
    let rest = parts - count in
    let both : parts ≡ count + rest = omega (arith, ints) in
    let Fits : ℕ → Type 0 = λ n. n * spare ≤ length * rest in
    let Left : ℕ → Type 0 = λ n. count * length / n + spare ≤ length in
    let left : count * length / parts + spare ≤ length = subst Left (sym both) (naturals_leave count rest length spare (omega (arith, ints)) (subst Fits both leaves)) in
    omega (arith, ints)
share_leaves (negsuc count) length parts spare count_from within from spare_from leaves = absurd (omega (arith, ints))
share_leaves (pos count) (negsuc length) parts spare count_from within from spare_from leaves = absurd (omega (arith, ints))
share_leaves (pos count) (pos length) (negsuc parts) spare count_from within from spare_from leaves = absurd (omega (arith, ints))
share_leaves (pos count) (pos length) (pos parts) (negsuc spare) count_from within from spare_from leaves = absurd (omega (arith, ints))

-- so many parts of a cycle times its length are a number of the machine
pub product_fits : (count length : ℤ) → pos 0 ≤ℤ count → count ≤ℤ pos 16_000 → pos 0 ≤ℤ length → length ≤ℤ pos 660_000 → FitsSigned w64 (count *ℤ length)
product_fits (pos count) (pos length) count_from count_to from to =
    let few : count ≤ 16_000 = omega (arith, ints) in
    let within : count * length ≤ 16_000 * length = mul-le-mul_right length few in
    omega (arith, ints, within)
product_fits (negsuc count) length count_from count_to from to = absurd (omega (arith, ints))
product_fits (pos count) (negsuc length) count_from count_to from to = absurd (omega (arith, ints))
