-- The frame CRC that a frame carries.
use Rattle.std.proofs.Common.{◌≡◌, ℕ, ◌+◌, ◌-◌, ◌*◌, ◌/◌, ◌%◌, ◌<◌, ◌^◌, List, [], ◌∷◌, ◌++◌, length, drop, ap, ◌∙◌, arith, add-one}
use Rattle.std.specs.Prelude.{fold}
use Rattle.std.proofs.lemmas.List.{length-append}
use Rattle.fr_base.specs.declared.channel.Channel.{Channel}
use Rattle.fr_frame.specs.Frame.{IsFrameWith, header_bytes, trailer_bytes}
use Rattle.fr_frame.specs.declared.header.Header.{Header}
use Rattle.fr_reception.specs.Regular.{carried_crc}

-- what stands after a front
drop-front : (xs ys : List ℕ) → drop (length (xs ++ ys) - length ys) (xs ++ ys) ≡ ys
drop-front [] ys = let e : length ys - length ys ≡ 0 = omega arith in ap (λ (n : ℕ). drop n ys) e
drop-front (x ∷ xs) ys =
    let long : length (xs ++ ys) ≡ length xs + length ys = length-append xs ys in
    let e : length (x ∷ xs ++ ys) - length ys ≡ (length (xs ++ ys) - length ys) + 1 = omega (arith, long) in
    ap (λ (n : ℕ). drop n (x ∷ xs ++ ys)) e ∙ drop-more (length (xs ++ ys) - length ys) ∙ drop-front xs ys
  where
    drop-more : (n : ℕ) → drop (n + 1) (x ∷ xs ++ ys) ≡ drop n (xs ++ ys)
    drop-more n = ap (λ (k : ℕ). drop k (x ∷ xs ++ ys)) (add-one n)

number : (crc : ℕ) → crc < 2 ^ 24 → 256 * (256 * (256 * 0 + crc / 65536) + crc / 256 % 256) + crc % 256 ≡ crc
number crc small = omega arith

pub carried_is : (channel : Channel) (header : Header) (payload bytes : List ℕ) (header_crc frame_crc : ℕ) → IsFrameWith channel header payload header_crc frame_crc bytes → carried_crc bytes ≡ frame_crc
unfolding carried_crc
carried_is channel header payload bytes header_crc frame_crc is =
    let front : List ℕ = header_bytes header header_crc ++ payload in
    let whole : bytes ≡ front ++ trailer_bytes frame_crc = is.spelled in
    let last : drop (length bytes - 3) bytes ≡ trailer_bytes frame_crc = ap (λ (xs : List ℕ). drop (length xs - 3) xs) whole ∙ drop-front front (trailer_bytes frame_crc) in
    ap (fold (λ (n byte : ℕ). 256 * n + byte) 0) last ∙ number frame_crc is.frame_right.fits
