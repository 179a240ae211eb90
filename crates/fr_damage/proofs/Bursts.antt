-- Frames damaged in a window of few bits.
use Rattle.std.proofs.Common.{◌≡◌, ◌≢◌, ℕ, ◌+◌, ◌-◌, ◌^◌, ◌<◌, ◌≤◌, zero, suc, min, Bool, false, List, [], ◌∷◌, ◌++◌, length, take, drop, refl, ap, sym, ◌∙◌, arith, length-drop}
use Rattle.std.specs.Prelude.{All}
use Rattle.std.proofs.lemmas.List.{length-take}
use Rattle.fr_base.specs.declared.channel.Channel.{Channel}
use Rattle.fr_crc.specs.Bits.{differ, xor, zeros, message_of}
use Rattle.fr_crc.specs.Crc.{header_generator, frame_generator}
use Rattle.fr_crc.proofs.Remainders.{length-bits}
use Rattle.fr_crc.proofs.Sums.{xor-nil, length-xor, length-zeros}
use Rattle.fr_frame.specs.declared.header.Header.{Header}
use Rattle.fr_frame.specs.Frame.{IsFrame, IsNoFrame}
use Rattle.fr_damage.specs.Damage.{DifferWithin, header_code, FailsHeaderCrc, FailsFrameCrc}
use Rattle.fr_damage.proofs.Registers.{xor_none, zeros_join}
use Rattle.fr_damage.proofs.Patterns.{Unseen, IsBurst, burst_is_seen, burst_difference, burst_long}
use Rattle.fr_damage.proofs.Periods.{header_ends, frame_ends}
use Rattle.fr_damage.proofs.Codes.{seen_is_no_frame, seen_in_header, seen_in_frame}
use Rattle.fr_damage.proofs.Inverted.{as_long}

-- zeros, a window of at most so many bits, zeros
record IsWindow (width : ℕ) (e : List Bool) : Type 0 where
  pub skipped : ℕ
  pub window : List Bool
  pub left : ℕ
  pub is : e ≡ zeros skipped ++ (window ++ zeros left)
  pub narrow : length window ≤ width

-- ---- a window in a part of a list
drop_zeros : (n c : ℕ) → (k : ℕ) × (drop n (zeros c) ≡ zeros k)
drop_zeros zero c = (c, refl)
drop_zeros (suc n) zero = (0, refl)
drop_zeros (suc n) (suc c) = drop_zeros n c

take_zeros : (n c : ℕ) → (k : ℕ) × (take n (zeros c) ≡ zeros k)
take_zeros zero c = (0, refl)
take_zeros (suc n) zero = (0, refl)
take_zeros (suc n) (suc c) =
    let found : (k : ℕ) × (take n (zeros c) ≡ zeros k) = take_zeros n c in
    (suc found.0, ap (λ (xs : List Bool). false ∷ xs) found.1)

drop_window : (n a c w : ℕ) (b : List Bool) → length b ≤ w → IsWindow w (drop n (zeros a ++ (b ++ zeros c)))
drop_window zero a c w b narrow = record { skipped = a; window = b; left = c; is = refl; narrow = narrow }
drop_window (suc n) (suc a) c w b narrow = drop_window n a c w b narrow
drop_window (suc n) zero c w (x ∷ b) narrow = drop_window n zero c w b (omega arith)
drop_window (suc n) zero c w [] narrow =
    let found : (k : ℕ) × (drop (suc n) (zeros c) ≡ zeros k) = drop_zeros (suc n) c in
    record { skipped = 0; window = []; left = found.0; is = found.1; narrow = omega arith }

-- a window at the start
take_front : (n c : ℕ) (b : List Bool) → (k : ℕ) × ((front : List Bool) × ((take n (b ++ zeros c) ≡ front ++ zeros k) × (length front ≤ length b)))
take_front zero c b = (0, ([], (refl, omega arith)))
take_front (suc n) c [] =
    let found : (k : ℕ) × (take (suc n) (zeros c) ≡ zeros k) = take_zeros (suc n) c in
    (found.0, ([], (found.1, omega arith)))
take_front (suc n) c (x ∷ b) =
    let found : (k : ℕ) × ((front : List Bool) × ((take n (b ++ zeros c) ≡ front ++ zeros k) × (length front ≤ length b))) = take_front n c b in
    (found.0, (x ∷ found.1.0, (ap (λ (xs : List Bool). x ∷ xs) found.1.1.0, omega (arith, found.1.1.1))))

take_window : (n a c w : ℕ) (b : List Bool) → length b ≤ w → IsWindow w (take n (zeros a ++ (b ++ zeros c)))
take_window zero a c w b narrow = record { skipped = 0; window = []; left = 0; is = refl; narrow = omega arith }
take_window (suc n) zero c w b narrow =
    let found : (k : ℕ) × ((front : List Bool) × ((take (suc n) (b ++ zeros c) ≡ front ++ zeros k) × (length front ≤ length b))) = take_front (suc n) c b in
    record { skipped = 0; window = found.1.0; left = found.0; is = found.1.1.0; narrow = omega (arith, found.1.1.1) }
take_window (suc n) (suc a) c w b narrow =
    let rest : IsWindow w (take n (zeros a ++ (b ++ zeros c))) = take_window n a c w b narrow in
    record { skipped = suc rest.skipped; window = rest.window; left = rest.left; is = ap (λ (xs : List Bool). false ∷ xs) rest.is; narrow = rest.narrow }

-- ---- sums in parts of lists
drop-xor : (n : ℕ) (xs ys : List Bool) → drop n (xor xs ys) ≡ xor (drop n xs) (drop n ys)
drop-xor zero xs ys = refl
drop-xor (suc n) [] ys = refl
drop-xor (suc n) (x ∷ xs) [] = sym (xor-nil (drop n xs))
drop-xor (suc n) (x ∷ xs) (y ∷ ys) = drop-xor n xs ys

take-xor : (n : ℕ) (xs ys : List Bool) → take n (xor xs ys) ≡ xor (take n xs) (take n ys)
take-xor zero xs ys = refl
take-xor (suc n) [] ys = refl
take-xor (suc n) (x ∷ xs) [] = refl
take-xor (suc n) (x ∷ xs) (y ∷ ys) = ap (λ (zs : List Bool). differ x y ∷ zs) (take-xor n xs ys)

code-xor : (m n : List Bool) → header_code (xor m n) ≡ xor (header_code m) (header_code n)
code-xor m n = ap (take 31) (drop-xor 3 m n) ∙ take-xor 31 (drop 3 m) (drop 3 n)

-- a burst in the whole is one in the header's covered bits and its CRC, where these differ
code_burst : (w : ℕ) (m n : List Bool) → length (header_code m) ≡ length (header_code n) → header_code n ≢ header_code m → IsBurst w (xor m n) → IsBurst w (xor (header_code m) (header_code n))
code_burst w m n same differs burst =
    let dropped : IsWindow w (drop 3 (zeros burst.skipped ++ (burst.window ++ zeros burst.left))) = drop_window 3 burst.skipped burst.left w burst.window burst.narrow in
    let taken : IsWindow w (take 31 (zeros dropped.skipped ++ (dropped.window ++ zeros dropped.left))) = take_window 31 dropped.skipped dropped.left w dropped.window dropped.narrow in
    let e : List Bool = xor (header_code m) (header_code n) in
    let whole : e ≡ zeros taken.skipped ++ (taken.window ++ zeros taken.left) =
    sym (code-xor m n) ∙ ap header_code burst.is ∙ ap (take 31) dropped.is ∙ taken.is in
    record {
      skipped = taken.skipped;
      window = taken.window;
      left = taken.left;
      is = whole;
      narrow = taken.narrow;
      some = λ (none : taken.window ≡ zeros (length taken.window)).
          differs (sym (nothing (header_code m) (header_code n) taken.skipped (length taken.window) taken.left same (whole ∙ ap (λ (xs : List Bool). zeros taken.skipped ++ (xs ++ zeros taken.left)) none)));
    }
  where
    all_zeros : (xs : List Bool) (a b c : ℕ) → xs ≡ zeros a ++ (zeros b ++ zeros c) → xs ≡ zeros (length xs)
    all_zeros xs a b c is =
        let whole : xs ≡ zeros (a + (b + c)) = is ∙ ap (λ (ys : List Bool). zeros a ++ ys) (zeros_join b c) ∙ zeros_join a (b + c) in
        whole ∙ ap zeros (sym (ap length whole ∙ length-zeros (a + (b + c))))

    nothing : (xs ys : List Bool) (a b c : ℕ) → length xs ≡ length ys → xor xs ys ≡ zeros a ++ (zeros b ++ zeros c) → xs ≡ ys
    nothing xs ys a b c same is = xor_none xs ys same (all_zeros (xor xs ys) a b c is ∙ ap zeros (length-xor xs ys same))

-- ---- frames
burst_in_frame : (m n : List Bool) → DifferWithin 24 m n → Unseen frame_generator (xor m n) → ⊥
burst_in_frame m n d unseen = burst_is_seen frame_generator (xor m n) frame_ends (wide (burst_difference 24 m n d)) unseen
  where
    wide : IsBurst 24 (xor m n) → IsBurst (length frame_generator) (xor m n)
    wide is = record { skipped = is.skipped; window = is.window; left = is.left; is = is.is; narrow = omega (arith, is.narrow, length-bits 24 0x5D6DCB); some = is.some }

pub burst_no_frame : (channel : Channel) (h : Header) (payload bytes damaged : List ℕ) → IsFrame channel h payload bytes →
    DifferWithin 24 (message_of bytes) (message_of damaged) → IsNoFrame channel damaged
burst_no_frame channel h payload bytes damaged frame d =
    seen_is_no_frame channel h payload bytes damaged frame (as_long bytes damaged (sym (burst_long 24 (message_of bytes) (message_of damaged) d))) (burst_in_frame (message_of bytes) (message_of damaged) d)

pub burst_outside : (channel : Channel) (h : Header) (payload bytes damaged : List ℕ) → IsFrame channel h payload bytes → All (λ b. b < 2 ^ 8) damaged →
    DifferWithin 24 (message_of bytes) (message_of damaged) → header_code (message_of damaged) ≡ header_code (message_of bytes) → FailsFrameCrc channel damaged
burst_outside channel h payload bytes damaged frame small d same =
    seen_in_frame channel h payload bytes damaged frame (as_long bytes damaged (sym (burst_long 24 (message_of bytes) (message_of damaged) d))) small same (burst_in_frame (message_of bytes) (message_of damaged) d)

pub length-code : (m n : List Bool) → length m ≡ length n → length (header_code m) ≡ length (header_code n)
length-code m n same =
    length-take 31 (drop 3 m) ∙ ap (λ (k : ℕ). min 31 k) (length-drop 3 m ∙ ap (λ (k : ℕ). k - 3) same ∙ sym (length-drop 3 n)) ∙ sym (length-take 31 (drop 3 n))

pub burst_in_header_code : (channel : Channel) (h : Header) (payload bytes damaged : List ℕ) → IsFrame channel h payload bytes → All (λ b. b < 2 ^ 8) damaged →
    DifferWithin 11 (message_of bytes) (message_of damaged) → header_code (message_of damaged) ≢ header_code (message_of bytes) → FailsHeaderCrc channel damaged
burst_in_header_code channel h payload bytes damaged frame small d differs =
    let m : List Bool = message_of bytes in
    let n : List Bool = message_of damaged in
    let long : length m ≡ length n = burst_long 11 m n d in
    let burst : IsBurst 11 (xor (header_code m) (header_code n)) = code_burst 11 m n (length-code m n long) differs (burst_difference 11 m n d) in
    let wide : IsBurst (length header_generator) (xor (header_code m) (header_code n)) =
    record { skipped = burst.skipped; window = burst.window; left = burst.left; is = burst.is; narrow = omega (arith, burst.narrow, length-bits 11 0x385); some = burst.some } in
    seen_in_header channel h payload bytes damaged frame (as_long bytes damaged (sym long)) small
    (burst_is_seen header_generator (xor (header_code m) (header_code n)) header_ends wide)
