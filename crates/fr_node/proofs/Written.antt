-- The regular frame of a slot in a buffer.
use Rattle.std.proofs.Common.{◌≡◌, ℕ, zero, suc, ◌+◌, ◌-◌, ◌*◌, ◌%◌, ◌≤◌, true, List, [], ◌∷◌, ◌++◌, map, length, take, drop, get_or, refl, ap, sym, ◌∙◌, arith, length-drop}
use Rattle.std.specs.List.{range_with_len}
use Rattle.std.proofs.Math.Nat.{mod-add-mod, add-zero}
use Rattle.std.proofs.lemmas.List.{take-append-drop, take_more, get_or-drop, drop-take, drop_at, length-take-le}
use Rattle.std.proofs.lemmas.List.FromFn.{map-range_with_len_more, length-map-range_with_len, get_or-map-range_with_len}
use Rattle.std.proofs.lemmas.Slice.{take-put_mid, drop-put_mid}
use borrow.Rule.Slice.PartMut.{mid_of, put_mid, mid_len}
use Rattle.fr_base.specs.declared.channel.Channel.{Channel}
use Rattle.fr_frame.specs.declared.header.Header.{Header}
use Rattle.fr_frame.specs.Refusal.{IsEncoded}
use Rattle.fr_frame.specs.Reading.{frame_of, payload_in}
use Rattle.fr_frame.proofs.Exact.{frame_spelled}
use Rattle.fr_time.specs.Cycles.{cycle_count}
use Rattle.fr_reception.specs.Regular.{payload_byte, payload_of}
use Rattle.fr_reception.proofs.Frames.{length-payload_of}

-- for each place its lowest byte
abbrev pub ramp : List ℕ
ramp = map (λ (place : ℕ). place % 256) (range_with_len 0 510)

-- a part of them goes on from its first place
ramp_part : (first n : ℕ) → first + n ≤ 510 → take n (drop first ramp) ≡ map (λ (place : ℕ). (first + place) % 256) (range_with_len 0 n)
ramp_part first zero within = refl
ramp_part first (suc n) within =
    let long : length ramp ≡ 510 = length-map-range_with_len (λ (place : ℕ). place % 256) 0 510 in
    let rest : length (drop first ramp) ≡ length ramp - first = length-drop first ramp in
    let more : suc n ≡ n + 1 = omega arith in
    let byte : get_or (drop first ramp) n 0 ≡ (first + n) % 256 =
    get_or-drop first ramp n 0 ∙ get_or-map-range_with_len (λ (place : ℕ). place % 256) 0 510 (first + n) (first + n) 0 (omega arith) (omega arith) in
    ap (λ (k : ℕ). take k (drop first ramp)) more
    ∙ take_more (drop first ramp) n 0 (omega arith)
    ∙ ap (λ (xs : List ℕ). xs ++ get_or (drop first ramp) n 0 ∷ []) (ramp_part first n (omega arith))
    ∙ ap (λ (b : ℕ). map (λ (place : ℕ). (first + place) % 256) (range_with_len 0 n) ++ b ∷ []) byte
    ∙ sym (map-range_with_len_more (λ (place : ℕ). (first + place) % 256) 0 n n (omega arith))
    ∙ ap (λ (k : ℕ). map (λ (place : ℕ). (first + place) % 256) (range_with_len 0 k)) (sym more)

-- the one that begins with the first byte of a valid payload is the payload
pub ramp_payload : (slot cycle first n : ℕ) → first ≡ payload_byte slot cycle 0 → first ≤ 255 → n ≤ 254 → take n (drop first ramp) ≡ payload_of true n slot cycle
ramp_payload slot cycle first n is small short =
    let base : ℕ = 7 * slot + 3 * cycle_count cycle in
    let start : first ≡ base % 256 = is ∙ ap (λ (k : ℕ). k % 256) (add-zero base) in
    let same : (λ (place : ℕ). (first + place) % 256) ≡ payload_byte slot cycle =
    λ i place. (ap (λ (k : ℕ). (k + place) % 256) start ∙ mod-add-mod base 256 place) i in
    ramp_part first n (omega arith) ∙ ap (λ (f : ℕ → ℕ). map f (range_with_len 0 n)) same

-- what is written is the frame, and after it what was there
pub encoded : (channel : Channel) (h g : Header) (payload own before now : List ℕ) (count : ℕ) → IsEncoded channel h payload before now count → h ≡ g → payload ≡ own →
    now ≡ frame_of channel g own ++ drop count before
encoded channel h g payload own before now count is same whole =
    sym (take-append-drop count now)
    ∙ ap (λ (xs : List ℕ). xs ++ drop count now) (frame_spelled channel h payload (take count now) is.frame)
    ∙ ap (λ (xs : List ℕ). frame_of channel h payload ++ xs) is.rest
    ∙ ap (λ (x : Header). frame_of channel x payload ++ drop count before) same
    ∙ ap (λ (xs : List ℕ). frame_of channel g xs ++ drop count before) whole

-- so it is where the payload was put in its place before
pub placed : (channel : Channel) (h g : Header) (slot cycle words count : ℕ) (out ys now : List ℕ) → words ≡ h.words → h ≡ g → 8 + 2 * g.words ≤ length out →
    ys ≡ payload_of h.null_bit (length (mid_of 5 (5 + 2 * words - 5) out)) slot cycle →
    IsEncoded channel h (payload_in h (put_mid 5 (5 + 2 * words - 5) out ys)) (put_mid 5 (5 + 2 * words - 5) out ys) now count →
    now ≡ frame_of channel g (payload_of g.null_bit (2 * g.words) slot cycle) ++ drop count out
placed channel h g slot cycle words count out ys now stated same room filled is =
    let k : ℕ = 5 + 2 * words - 5 in
    let mid : List ℕ = put_mid 5 k out ys in
    let w : h.words ≡ g.words = ap (λ (x : Header). x.words) same in
    let part : length (mid_of 5 k out) ≡ k = mid_len 5 (5 + 2 * words) out (omega arith) in
    let own : ys ≡ payload_of g.null_bit (2 * g.words) slot cycle = filled ∙ ap (λ (x : Header). payload_of x.null_bit (length (mid_of 5 k out)) slot cycle) same ∙ ap (λ (n : ℕ). payload_of g.null_bit n slot cycle) (part ∙ omega arith) in
    let long : length ys ≡ 2 * g.words = ap length own ∙ length-payload_of g.null_bit (2 * g.words) slot cycle in
    let five : length (take 5 out) ≡ 5 = length-take-le 5 out (omega arith) in
    let there : payload_in h mid ≡ payload_of g.null_bit (2 * g.words) slot cycle =
    sym (drop-take 5 (2 * h.words) mid)
    ∙ ap (drop 5) (take-put_mid 5 k out ys (5 + 2 * h.words) (omega arith) (omega arith))
    ∙ drop_at (take 5 out) ys 5 five
    ∙ own in
    let counted : count ≡ 8 + length (payload_in h mid) = is.counted in
    let payload_long : length (payload_in h mid) ≡ 2 * g.words = ap length there ∙ length-payload_of g.null_bit (2 * g.words) slot cycle in
    encoded channel h g (payload_in h mid) (payload_of g.null_bit (2 * g.words) slot cycle) mid now count is same there
    ∙ ap (λ (xs : List ℕ). frame_of channel g (payload_of g.null_bit (2 * g.words) slot cycle) ++ xs) (drop-put_mid 5 k out ys count (omega arith) (omega arith) (omega arith))
