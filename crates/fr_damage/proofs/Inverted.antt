-- Frames with inverted bits: what they are, and which of the two CRCs tells it.
use Rattle.std.proofs.Common.{◌≡◌, ◌⊎◌, ℕ, ◌+◌, ◌-◌, ◌*◌, ◌^◌, ◌<◌, ◌≤◌, zero, suc, Bool, true, false, List, [], ◌∷◌, ◌++◌, length, take, drop, refl, ap, sym, ◌∙◌, inl, inr, arith}
use Rattle.std.specs.Prelude.{All}
use Rattle.std.proofs.lemmas.Bool.{cases_lt}
use Rattle.fr_base.specs.declared.channel.Channel.{Channel}
use Rattle.fr_crc.specs.Bits.{xor, zeros, message_of}
use Rattle.fr_crc.specs.Crc.{header_generator, frame_generator}
use Rattle.fr_crc.specs.Register.{register_stepped, after}
use Rattle.fr_frame.specs.declared.header.Header.{Header}
use Rattle.fr_frame.specs.Frame.{IsFrame, IsNoFrame}
use Rattle.fr_frame.proofs.Exact.{lengths_fit}
use Rattle.fr_frame.proofs.Parts.{frame_checks}
use Rattle.fr_damage.specs.Damage.{inverted, has_odd_ones, EndsInOne, header_code, IsInHeaderCode, IsOutsideHeaderCode, FailsHeaderCrc, FailsFrameCrc}
use Rattle.fr_damage.proofs.Patterns.{Unseen, length-inverted, one_difference, one_is_seen, two_difference, two_are_seen, odd_is_seen, stays_away}
use Rattle.fr_damage.proofs.Periods.{header_ends, frame_ends, header_odd, frame_odd, header_stays_away, frame_stays_away}
use Rattle.fr_damage.proofs.Spelling.{length-message}
use Rattle.fr_damage.proofs.Codes.{header_long, seen_is_no_frame, seen_in_header, seen_in_frame}

-- ---- inverted bits in a part of a list
inverted-nil : (p : ℕ) → inverted p [] ≡ []
inverted-nil zero = refl
inverted-nil (suc p) = refl

drop_inverted : (n q p : ℕ) (m : List Bool) → p ≡ n + q → drop n (inverted p m) ≡ inverted q (drop n m)
drop_inverted zero q p m is = let e : p ≡ q = omega arith in ap (λ (x : ℕ). inverted x m) e
drop_inverted (suc n) q zero m is = absurd (omega arith)
drop_inverted (suc n) q (suc p) [] is = sym (inverted-nil q)
drop_inverted (suc n) q (suc p) (x ∷ m) is = drop_inverted n q p m (omega arith)

drop_past : (n p : ℕ) (m : List Bool) → p < n → drop n (inverted p m) ≡ drop n m
drop_past zero p m below = absurd (omega arith)
drop_past (suc n) zero [] below = refl
drop_past (suc n) zero (x ∷ m) below = refl
drop_past (suc n) (suc p) [] below = refl
drop_past (suc n) (suc p) (x ∷ m) below = drop_past n p m (omega arith)

take_inverted : (n p : ℕ) (m : List Bool) → take n (inverted p m) ≡ inverted p (take n m)
take_inverted zero p m = sym (inverted-nil p)
take_inverted (suc n) zero [] = refl
take_inverted (suc n) zero (x ∷ m) = refl
take_inverted (suc n) (suc p) [] = refl
take_inverted (suc n) (suc p) (x ∷ m) = ap (λ (xs : List Bool). x ∷ xs) (take_inverted n p m)

take_short : (n p : ℕ) (m : List Bool) → n ≤ p → take n (inverted p m) ≡ take n m
take_short zero p m within = refl
take_short (suc n) zero m within = absurd (omega arith)
take_short (suc n) (suc p) [] within = refl
take_short (suc n) (suc p) (x ∷ m) within = ap (λ (xs : List Bool). x ∷ xs) (take_short n p m (omega arith))

pub inverted-front : (j : ℕ) (xs ys : List Bool) → j < length xs → inverted j (xs ++ ys) ≡ inverted j xs ++ ys
inverted-front j [] ys below = absurd (omega arith)
inverted-front zero (x ∷ xs) ys below = refl
inverted-front (suc j) (x ∷ xs) ys below = ap (λ (zs : List Bool). x ∷ zs) (inverted-front j xs ys (omega arith))

pub inverted-behind : (j k : ℕ) (xs ys : List Bool) → k ≡ length xs + j → inverted k (xs ++ ys) ≡ xs ++ inverted j ys
inverted-behind j k [] ys is = let e : k ≡ j = omega arith in ap (λ (n : ℕ). inverted n ys) e
inverted-behind j zero (x ∷ xs) ys is = absurd (omega arith)
inverted-behind j (suc k) (x ∷ xs) ys is = ap (λ (zs : List Bool). x ∷ zs) (inverted-behind j k xs ys (omega arith))

pub code_inverted : (p : ℕ) (m : List Bool) → IsInHeaderCode p → header_code (inverted p m) ≡ inverted (p - 3) (header_code m)
code_inverted p m (from, to) = ap (take 31) (drop_inverted 3 (p - 3) p m (omega arith)) ∙ take_inverted 31 (p - 3) (drop 3 m)

code_left : (p : ℕ) (m : List Bool) → IsOutsideHeaderCode p → header_code (inverted p m) ≡ header_code m
code_left p m (inl before) = ap (take 31) (drop_past 3 p m before)
code_left p m (inr behind) = ap (take 31) (drop_inverted 3 (p - 3) p m (omega arith)) ∙ take_short 31 (p - 3) (drop 3 m) (omega arith)

-- ---- inverted bits are seen
one_seen : (g m n : List Bool) (p : ℕ) → EndsInOne g → p < length m → n ≡ inverted p m → Unseen g (xor m n) → ⊥
one_seen g m n p ends below is unseen =
    one_is_seen g p (length m) ends below (sym (ap (after g (zeros (length g))) (ap (xor m) is ∙ one_difference p m)) ∙ unseen)

two_seen : (g m n : List Bool) (most i d : ℕ) → EndsInOne g → stays_away most g (register_stepped g g false) ≡ true → 1 ≤ d → d ≤ most → i + d < length m →
    n ≡ inverted i (inverted (i + d) m) → Unseen g (xor m n) → ⊥
two_seen g m n most i d ends is some near below same unseen =
    two_are_seen g most i d (length m) ends is some near below (sym (ap (after g (zeros (length g))) (ap (xor m) same ∙ two_difference i (i + d) m)) ∙ unseen)

-- ---- the bytes of a frame and damaged ones
pub as_long : (bytes damaged : List ℕ) → length (message_of damaged) ≡ length (message_of bytes) → length bytes ≡ length damaged
as_long bytes damaged same = omega (arith, same, length-message bytes, length-message damaged)

pub code_long : (channel : Channel) (h : Header) (payload bytes : List ℕ) → IsFrame channel h payload bytes → length (header_code (message_of bytes)) ≡ 31
code_long channel h payload bytes (a, (b, is)) = header_long bytes h a (frame_checks channel h payload a b bytes is).length_right.header_right.holds

-- ---- one inverted bit
abbrev pub OneInverted : ℕ → List ℕ → List ℕ → Type 0
OneInverted place bytes damaged = message_of damaged ≡ inverted place (message_of bytes)

pub one_long : (place : ℕ) (bytes damaged : List ℕ) → OneInverted place bytes damaged → length bytes ≡ length damaged
one_long place bytes damaged one = as_long bytes damaged (ap length one ∙ length-inverted place (message_of bytes))

one_in_frame : (place : ℕ) (bytes damaged : List ℕ) → place < 8 * length bytes → OneInverted place bytes damaged → Unseen frame_generator (xor (message_of bytes) (message_of damaged)) → ⊥
one_in_frame place bytes damaged below one =
    one_seen frame_generator (message_of bytes) (message_of damaged) place frame_ends (omega (arith, below, length-message bytes)) one

pub one_no_frame : (channel : Channel) (h : Header) (payload bytes damaged : List ℕ) (place : ℕ) → IsFrame channel h payload bytes →
    place < 8 * length bytes → OneInverted place bytes damaged → IsNoFrame channel damaged
one_no_frame channel h payload bytes damaged place frame below one =
    seen_is_no_frame channel h payload bytes damaged frame (one_long place bytes damaged one) (one_in_frame place bytes damaged below one)

pub one_in_header_code : (channel : Channel) (h : Header) (payload bytes damaged : List ℕ) (place : ℕ) → IsFrame channel h payload bytes →
    All (λ b. b < 2 ^ 8) damaged → IsInHeaderCode place → OneInverted place bytes damaged → FailsHeaderCrc channel damaged
one_in_header_code channel h payload bytes damaged place frame small within one =
    let code : List Bool = header_code (message_of bytes) in
    let below : place - 3 < length code = omega (arith, code_long channel h payload bytes frame, within.0, within.1) in
    let is : header_code (message_of damaged) ≡ inverted (place - 3) code = ap header_code one ∙ code_inverted place (message_of bytes) within in
    seen_in_header channel h payload bytes damaged frame (one_long place bytes damaged one) small
    (one_seen header_generator code (header_code (message_of damaged)) (place - 3) header_ends below is)

pub one_outside : (channel : Channel) (h : Header) (payload bytes damaged : List ℕ) (place : ℕ) → IsFrame channel h payload bytes →
    All (λ b. b < 2 ^ 8) damaged → IsOutsideHeaderCode place → place < 8 * length bytes → OneInverted place bytes damaged → FailsFrameCrc channel damaged
one_outside channel h payload bytes damaged place frame small outside below one =
    seen_in_frame channel h payload bytes damaged frame (one_long place bytes damaged one) small
    (ap header_code one ∙ code_left place (message_of bytes) outside) (one_in_frame place bytes damaged below one)

-- ---- two inverted bits
abbrev pub TwoInverted : ℕ → ℕ → List ℕ → List ℕ → Type 0
TwoInverted place distance bytes damaged = message_of damaged ≡ inverted place (inverted (place + distance) (message_of bytes))

two_long : (place distance : ℕ) (bytes damaged : List ℕ) → TwoInverted place distance bytes damaged → length bytes ≡ length damaged
two_long place distance bytes damaged two =
    as_long bytes damaged (ap length two ∙ length-inverted place (inverted (place + distance) (message_of bytes)) ∙ length-inverted (place + distance) (message_of bytes))

two_in_frame : (place distance : ℕ) (bytes damaged : List ℕ) → length bytes ≤ 262 → 1 ≤ distance → place + distance < 8 * length bytes → TwoInverted place distance bytes damaged →
    Unseen frame_generator (xor (message_of bytes) (message_of damaged)) → ⊥
two_in_frame place distance bytes damaged short some below two =
    two_seen frame_generator (message_of bytes) (message_of damaged) 4093 place distance frame_ends frame_stays_away some (omega arith) (omega (arith, below, length-message bytes)) two

pub two_no_frame : (channel : Channel) (h : Header) (payload bytes damaged : List ℕ) (place distance : ℕ) → IsFrame channel h payload bytes →
    1 ≤ distance → place + distance < 8 * length bytes → TwoInverted place distance bytes damaged → IsNoFrame channel damaged
two_no_frame channel h payload bytes damaged place distance frame some below two =
    seen_is_no_frame channel h payload bytes damaged frame (two_long place distance bytes damaged two) (two_in_frame place distance bytes damaged (lengths_fit channel h payload bytes frame).1 some below two)

-- what of two inverted bits stands in the header's covered bits and its CRC
two_in_code : (place distance : ℕ) (m : List Bool) → length (header_code m) ≡ 31 → 1 ≤ distance → IsInHeaderCode place ⊎ IsInHeaderCode (place + distance) →
    Unseen header_generator (xor (header_code m) (header_code (inverted place (inverted (place + distance) m)))) → ⊥
two_in_code place distance m long some (inl (from, to)) =
    let further : List Bool = inverted (place + distance) m in
    let first : header_code (inverted place further) ≡ inverted (place - 3) (header_code further) = code_inverted place further (from, to) in
    elim (cases_lt 33 (place + distance)) [
      | inl beyond ↦
          let is : header_code (inverted place further) ≡ inverted (place - 3) (header_code m) = first ∙ ap (inverted (place - 3)) (code_left (place + distance) m (inr beyond)) in
          one_seen header_generator (header_code m) (header_code (inverted place further)) (place - 3) header_ends (omega arith) is
      | inr within ↦
          let next : place + distance - 3 ≡ place - 3 + distance = omega arith in
          let second : header_code further ≡ inverted (place - 3 + distance) (header_code m) =
          code_inverted (place + distance) m (omega arith, within) ∙ ap (λ (x : ℕ). inverted x (header_code m)) next in
          let is : header_code (inverted place further) ≡ inverted (place - 3) (inverted (place - 3 + distance) (header_code m)) = first ∙ ap (inverted (place - 3)) second in
          two_seen header_generator (header_code m) (header_code (inverted place further)) 30 (place - 3) distance header_ends header_stays_away some (omega arith) (omega arith) is
    ]
two_in_code place distance m long some (inr (from, to)) =
    let further : List Bool = inverted (place + distance) m in
    let second : header_code further ≡ inverted (place + distance - 3) (header_code m) = code_inverted (place + distance) m (from, to) in
    elim (cases_lt place 3) [
      | inl before ↦
          let is : header_code (inverted place further) ≡ inverted (place + distance - 3) (header_code m) = code_left place further (inl before) ∙ second in
          one_seen header_generator (header_code m) (header_code (inverted place further)) (place + distance - 3) header_ends (omega arith) is
      | inr within ↦
          let next : place + distance - 3 ≡ place - 3 + distance = omega arith in
          let first : header_code (inverted place further) ≡ inverted (place - 3) (header_code further) = code_inverted place further (within, omega arith) in
          let is : header_code (inverted place further) ≡ inverted (place - 3) (inverted (place - 3 + distance) (header_code m)) =
          first ∙ ap (inverted (place - 3)) (second ∙ ap (λ (x : ℕ). inverted x (header_code m)) next) in
          two_seen header_generator (header_code m) (header_code (inverted place further)) 30 (place - 3) distance header_ends header_stays_away some (omega arith) (omega arith) is
    ]

pub two_in_header_code : (channel : Channel) (h : Header) (payload bytes damaged : List ℕ) (place distance : ℕ) → IsFrame channel h payload bytes →
    All (λ b. b < 2 ^ 8) damaged → 1 ≤ distance → IsInHeaderCode place ⊎ IsInHeaderCode (place + distance) → TwoInverted place distance bytes damaged → FailsHeaderCrc channel damaged
two_in_header_code channel h payload bytes damaged place distance frame small some within two =
    let m : List Bool = message_of bytes in
    let long : length (header_code m) ≡ 31 = code_long channel h payload bytes frame in
    seen_in_header channel h payload bytes damaged frame (two_long place distance bytes damaged two) small
    (λ unseen. two_in_code place distance m long some within (sym (ap (after header_generator (zeros (length header_generator))) (ap (xor (header_code m)) (ap header_code two))) ∙ unseen))

pub two_outside : (channel : Channel) (h : Header) (payload bytes damaged : List ℕ) (place distance : ℕ) → IsFrame channel h payload bytes →
    All (λ b. b < 2 ^ 8) damaged → IsOutsideHeaderCode place → IsOutsideHeaderCode (place + distance) → 1 ≤ distance → place + distance < 8 * length bytes →
    TwoInverted place distance bytes damaged → FailsFrameCrc channel damaged
two_outside channel h payload bytes damaged place distance frame small near far some below two =
    seen_in_frame channel h payload bytes damaged frame (two_long place distance bytes damaged two) small
    (ap header_code two ∙ code_left place (inverted (place + distance) (message_of bytes)) near ∙ code_left (place + distance) (message_of bytes) far)
    (two_in_frame place distance bytes damaged (lengths_fit channel h payload bytes frame).1 some below two)

-- ---- an odd number of inverted bits
pub odd_no_frame : (channel : Channel) (h : Header) (payload bytes damaged : List ℕ) → IsFrame channel h payload bytes → length damaged ≡ length bytes →
    has_odd_ones (xor (message_of bytes) (message_of damaged)) ≡ true → IsNoFrame channel damaged
odd_no_frame channel h payload bytes damaged frame long odd =
    seen_is_no_frame channel h payload bytes damaged frame (sym long) (odd_is_seen frame_generator (xor (message_of bytes) (message_of damaged)) frame_odd odd)

pub odd_in_header_code : (channel : Channel) (h : Header) (payload bytes damaged : List ℕ) → IsFrame channel h payload bytes → All (λ b. b < 2 ^ 8) damaged → length damaged ≡ length bytes →
    has_odd_ones (xor (header_code (message_of bytes)) (header_code (message_of damaged))) ≡ true → FailsHeaderCrc channel damaged
odd_in_header_code channel h payload bytes damaged frame small long odd =
    seen_in_header channel h payload bytes damaged frame (sym long) small (odd_is_seen header_generator (xor (header_code (message_of bytes)) (header_code (message_of damaged))) header_odd odd)

pub odd_outside : (channel : Channel) (h : Header) (payload bytes damaged : List ℕ) → IsFrame channel h payload bytes → All (λ b. b < 2 ^ 8) damaged → length damaged ≡ length bytes →
    header_code (message_of damaged) ≡ header_code (message_of bytes) → has_odd_ones (xor (message_of bytes) (message_of damaged)) ≡ true → FailsFrameCrc channel damaged
odd_outside channel h payload bytes damaged frame small long same odd =
    seen_in_frame channel h payload bytes damaged frame (sym long) small same (odd_is_seen frame_generator (xor (message_of bytes) (message_of damaged)) frame_odd odd)
