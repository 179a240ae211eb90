-- The register of the header CRC after twenty bits, by the entries of their two halves.
use Rattle.std.proofs.Common.{◌≡◌, ℕ, ◌/◌, ◌%◌, ◌^◌, ◌<◌, Bool, List, ◌++◌, get_or, refl, ap, sym, ◌∙◌, arith}
use Rattle.std.specs.Prelude.{bit_xor}
use Rattle.std.proofs.lemmas.Nat.{xor_lt}
use Rattle.std.proofs.lemmas.List.FromFn.{get_or-map-range_with_len}
use Rattle.fr_crc.specs.Bits.{bits, xor, zeros, number_of_bits}
use Rattle.fr_crc.specs.Crc.{header_generator, header_start}
use Rattle.fr_crc.specs.Entries.{header_firsts, header_lasts}
use Rattle.fr_crc.specs.Register.{after}
use Rattle.fr_crc.proofs.Sums.{length-zeros}
use Rattle.fr_crc.proofs.Division.{after-append}
use Rattle.fr_crc.proofs.Remainders.{bits-mod, bits-xor, length-bits}
use Rattle.fr_crc.proofs.Entering.{bits-split, bits_of_zero, number_of_register}
use Rattle.fr_crc.proofs.Eights.{after-front_from}

header_first_is : (i : ℕ) → i < 1024 → get_or header_firsts i 0 ≡ number_of_bits (after header_generator header_start (bits 10 i ++ zeros 10))
unfolding header_firsts
header_first_is i below =
    get_or-map-range_with_len (λ (j : ℕ). number_of_bits (after header_generator header_start (bits 10 j ++ zeros 10))) 0 1024 i i 0 below (omega arith)

header_last_is : (i : ℕ) → i < 1024 → get_or header_lasts i 0 ≡ number_of_bits (after header_generator (zeros 11) (bits 10 i))
unfolding header_lasts
header_last_is i below =
    get_or-map-range_with_len (λ (j : ℕ). number_of_bits (after header_generator (zeros 11) (bits 10 j))) 0 1024 i i 0 below (omega arith)

header_last : (index entry : ℕ) → index < 1024 → entry ≡ get_or header_lasts index 0 →
    (entry < 2 ^ 11) × (bits 11 entry ≡ after header_generator (zeros 11) (bits 10 index))
header_last index entry below is =
    number_of_register 11 entry header_generator (zeros 11) (bits 10 index) (length-bits 11 0x385) (length-zeros 11) (is ∙ header_last_is index below)

-- the register after both halves
pub halves : (number first last : ℕ) → first ≡ get_or header_firsts (number / 1024 % 1024) 0 → last ≡ get_or header_lasts (number % 1024) 0 →
    (bit_xor first last < 2 ^ 11) × (bits 11 (bit_xor first last) ≡ after header_generator header_start (bits 20 number))
halves number first last first_is last_is =
    let g : List Bool = header_generator in
    let start : List Bool = header_start in
    let none : List Bool = zeros 11 in
    let high : ℕ = number / 1024 in
    let one : (first < 2 ^ 11) × (bits 11 first ≡ after header_generator header_start (bits 10 (number / 1024 % 1024) ++ zeros 10)) =
    number_of_register 11 first header_generator header_start (bits 10 (number / 1024 % 1024) ++ zeros 10) (length-bits 11 0x385) (length-bits 11 0x01A)
    (first_is ∙ header_first_is (number / 1024 % 1024) (omega arith))
    in
    let two : (last < 2 ^ 11) × (bits 11 last ≡ after header_generator (zeros 11) (bits 10 (number % 1024))) =
    header_last (number % 1024) last (omega arith) last_is
    in (
      xor_lt 11 first last one.0 two.0,
      bits-xor 11 first last
          ∙ ap (λ (xs : List Bool). xor xs (bits 11 last)) one.1
          ∙ ap (xor (after g start (bits 10 (number / 1024 % 1024) ++ zeros 10))) two.1
          ∙ ap (λ (xs : List Bool). xor (after g start (xs ++ zeros 10)) (after g none (bits 10 (number % 1024)))) (bits-mod 10 high)
          ∙ ap (λ (xs : List Bool). xor (after g start (bits 10 high ++ zeros 10)) (after g none xs)) (bits-mod 10 number)
          ∙ sym (after-front_from 11 g start (bits 10 high) (bits 10 number) 10 (length-bits 11 0x385) (length-bits 11 0x01A) (length-bits 10 number))
          ∙ ap (after g start) (sym (bits-split 10 10 number)),
    )

-- six zeros in front of four bits leave the register as it is
zeros_first : after header_generator (zeros 11) (zeros 6) ≡ zeros 11
unfolding bits
zeros_first = refl

pub four_bits : (index entry : ℕ) → index < 16 → entry ≡ get_or header_lasts index 0 →
    (entry < 2 ^ 11) × (bits 11 entry ≡ after header_generator (zeros 11) (bits 4 index))
four_bits index entry below is =
    let g : List Bool = header_generator in
    let none : List Bool = zeros 11 in
    let high : index / 16 ≡ 0 = omega arith in
    let front : bits 6 (index / 16) ≡ zeros 6 = ap (bits 6) high ∙ bits_of_zero 6 in
    let found : (entry < 2 ^ 11) × (bits 11 entry ≡ after header_generator (zeros 11) (bits 10 index)) = header_last index entry (omega arith) is in (
      found.0,
      found.1
          ∙ ap (after g none) (bits-split 6 4 index)
          ∙ ap (λ (xs : List Bool). after g none (xs ++ bits 4 index)) front
          ∙ after-append g none (zeros 6) (bits 4 index)
          ∙ ap (λ (s : List Bool). after g s (bits 4 index)) zeros_first,
    )
