-- A frame is made around a payload that stands in its place.
use Rattle.std.proofs.Common.{◌≡◌, ℕ, ◌+◌, ◌-◌, ◌*◌, ◌≤◌, List, ◌++◌, length, take, drop, ap, sym, ◌∙◌, subst, arith, length-drop}
use Rattle.std.proofs.lemmas.List.{drop-take, drop_at, length-take-le}
use Rattle.std.proofs.Math.Seq.{take-add}
use Rattle.fr_base.specs.declared.channel.Channel.{Channel}
use Rattle.fr_crc.specs.Crc.{IsHeaderCrc, IsFrameCrc}
use Rattle.fr_frame.specs.declared.header.Header.{Header}
use Rattle.fr_frame.specs.Frame.{header_bytes, trailer_bytes}
use Rattle.fr_frame.specs.Reading.{payload_in}
use Rattle.fr_frame.specs.Refusal.{HasGoodPayload, IsAccepted, IsEncoded}

-- header and payload, once the header stands before it
in_place : (n : ℕ) (front before now : List ℕ) → take 5 now ≡ front → drop 5 now ≡ drop 5 before → take (5 + n) now ≡ front ++ take n (drop 5 before)
in_place n front before now head rest =
    take-add 5 n now
    ∙ ap (λ (xs : List ℕ). xs ++ take n (drop 5 now)) head
    ∙ ap (λ (xs : List ℕ). front ++ take n xs) rest

-- a header before a payload, and the CRC of both behind it, are a frame
pub closed : (channel : Channel) (h : Header) (crc whole words : ℕ) (front back before first now : List ℕ) → IsAccepted h (2 * h.words) (length before) → words ≡ h.words → IsHeaderCrc h.sync h.startup h.id h.words crc →
    front ≡ header_bytes h crc → take (0 + length front) first ≡ take 0 before ++ front → ((n : ℕ) → 0 + length front ≤ n → drop n first ≡ drop n before) →
    IsFrameCrc channel (take (5 + 2 * words) first) whole → back ≡ trailer_bytes whole →
    take (5 + 2 * words + length back) now ≡ take (5 + 2 * words) first ++ back → ((n : ℕ) → 5 + 2 * words + length back ≤ n → drop n now ≡ drop n first) →
    IsEncoded channel h (payload_in h before) before now (5 + 2 * words + 3)
closed channel h crc whole words front back before first now is same header_right head start rest frame_right tail end after =
    let good : HasGoodPayload h (2 * h.words) = is.good_flags.good_payload in
    let long_front : length front ≡ 5 = ap length head in
    let five : 0 + length front ≡ 5 = omega arith in
    let three : length back ≡ 3 = ap length tail in
    let put : take 5 first ≡ header_bytes h crc = ap (λ (k : ℕ). take k first) (sym five) ∙ start ∙ head in
    let kept : drop 5 first ≡ drop 5 before = rest 5 (omega arith) in
    let body : take (5 + 2 * words) first ≡ header_bytes h crc ++ payload_in h before =
    ap (λ (k : ℕ). take (5 + 2 * k) first) same ∙ in_place (2 * h.words) (header_bytes h crc) before first put kept in
    let behind : length (drop 5 before) ≡ length before - 5 = length-drop 5 before in
    let enough : 8 + 2 * h.words ≤ length before = is.enough in
    let long : length (payload_in h before) ≡ 2 * h.words = length-take-le (2 * h.words) (drop 5 before) (omega arith) in
    let P : List ℕ → Type 0 = λ (xs : List ℕ). IsFrameCrc channel xs whole in
    record {
      counted = omega arith;
      within = omega arith;
      frame = (
        crc,
        (
          whole,
          record {
            id_some = good.good_cycle.good_id.id_some;
            id_fits = good.good_cycle.good_id.id_fits;
            words_fit = good.words_fit;
            cycle_fits = good.good_cycle.cycle_fits;
            startup_in_sync = is.good_flags.startup_in_sync;
            payload_length = long;
            header_right = header_right;
            frame_right = subst P body frame_right;
            spelled =
                ap (λ (k : ℕ). take (5 + 2 * words + k) now) (sym three)
                ∙ end
                ∙ ap (λ (xs : List ℕ). xs ++ back) body
                ∙ ap (λ (xs : List ℕ). header_bytes h crc ++ payload_in h before ++ xs) tail;
          },
        ),
      );
      rest = after (5 + 2 * words + 3) (omega arith) ∙ rest (5 + 2 * words + 3) (omega arith);
    }

-- so they are where the payload was put in its place before
pub around : (channel : Channel) (h : Header) (payload before first now : List ℕ) (count : ℕ) → IsAccepted h (length payload) (length before) →
    take (5 + length payload) first ≡ take 5 before ++ payload → ((n : ℕ) → 5 + length payload ≤ n → drop n first ≡ drop n before) →
    IsEncoded channel h (payload_in h first) first now count → IsEncoded channel h payload before now count
around channel h payload before first now count is put rest made =
    let enough : 8 + length payload ≤ length before = is.enough in
    let stated : length payload ≡ 2 * h.words = is.good_flags.good_payload.payload_length in
    let five : length (take 5 before) ≡ 5 = length-take-le 5 before (omega arith) in
    let there : payload_in h first ≡ payload =
    ap (λ (k : ℕ). take k (drop 5 first)) (sym stated)
    ∙ sym (drop-take 5 (length payload) first)
    ∙ ap (drop 5) put
    ∙ drop_at (take 5 before) payload 5 five in
    let P : List ℕ → Type 0 = λ (xs : List ℕ). IsEncoded channel h xs first now count in
    let is_made : IsEncoded channel h payload first now count = subst P there made in
    let long : count ≡ 8 + length payload = is_made.counted in
    record {
      counted = long;
      within = omega arith;
      frame = is_made.frame;
      rest = is_made.rest ∙ rest count (omega arith);
    }
