-- The vector of a record is there where the record counts.
use Rattle.std.proofs.Common.{◌≡◌, ℕ, ◌*◌, ◌%◌, ◌^◌, ◌<◌, ◌≤◌, List, length, Bool, true, false, ◌==◌, Option, Some, None, Result, Ok, Err, refl, ap, sym, ◌∙◌, arith}
use Rattle.std.specs.Prelude.{All, IsTrue, ◌&&◌, is_some, nat_le, if◌then◌else◌}
use Rattle.std.proofs.lemmas.Bool.Decides.{nat_tests}
use Rattle.fr_base.specs.declared.channel.Channel.{Channel}
use Rattle.fr_frame.specs.declared.header.Header.{Header}
use Rattle.fr_frame.specs.declared.fault.FrameFault.{FrameFault}
use Rattle.fr_frame.specs.Frame.{IsFrame, IsFrameWith}
use Rattle.fr_frame.specs.Fault.{IsFirstFault}
use Rattle.fr_frame.specs.Reading.{payload_in, read_as}
use Rattle.fr_frame.proofs.Exact.{frame_payload, read_frame}
use Rattle.fr_frame.proofs.Found.{fault_read, frame_read}
use Rattle.fr_nm.specs.Vectors.{Counts, HasVector, Recorded, has_vector, placed, vector_in, vector_read, vector_record}

pub vector-fault : (width cycle : ℕ) (channel : Channel) (bytes : List ℕ) (fault : FrameFault) → IsFirstFault channel bytes fault → vector_in width (vector_record cycle channel bytes) ≡ None
unfolding vector_in
vector-fault width cycle channel bytes fault is = ap (vector_read width cycle bytes) (fault_read channel bytes fault is)

pub vector-frame : (width cycle : ℕ) (channel : Channel) (h : Header) (payload bytes : List ℕ) (a b : ℕ) → IsFrameWith channel h payload a b bytes
    → vector_in width (vector_record cycle channel bytes) ≡ (if has_vector width cycle h then Some (placed width payload) else None)
unfolding vector_in
vector-frame width cycle channel h payload bytes a b is =
    ap (vector_read width cycle bytes) (frame_read channel h payload bytes (a, (b, is)))
    ∙ ap (λ (p : List ℕ). if has_vector width cycle h then Some (placed width p) else None) (sym (frame_payload channel h payload a b bytes is))

parts : (p q r s : Bool) → (p && q && r && s) ≡ true → (p ≡ true) × (q ≡ true) × (r ≡ true) × (s ≡ true)
parts true true true true e = (refl, refl, refl, refl)
parts true true true false e = absurd cc
parts true true false s e = absurd cc
parts true false r s e = absurd cc
parts false q r s e = absurd cc

whole : (p q r s : Bool) → p ≡ true → q ≡ true → r ≡ true → s ≡ true → (p && q && r && s) ≡ true
whole p q r s a b c d = rw (a, b, c, d) refl

same : (a b : ℕ) → (a == b) ≡ true → a ≡ b
same a b e = grind (arith, nat_tests)

tie : (a b : ℕ) → a ≡ b → (a == b) ≡ true
tie a b e = grind (arith, nat_tests)

within : (a b : ℕ) → nat_le a b ≡ true → a ≤ b
within a b e = grind (arith, nat_tests)

no-more : (a b : ℕ) → a ≤ b → nat_le a b ≡ true
no-more a b e = grind (arith, nat_tests)

pub vector-enough : (width cycle : ℕ) (h : Header) → has_vector width cycle h ≡ true → width ≤ 2 * h.words
vector-enough width cycle h e = within width (2 * h.words) (parts h.preamble h.null_bit (h.cycle == cycle % 64) (nat_le width (2 * h.words)) e).3

counts-found : (width : ℕ) (r : Recorded) (x : Result Header FrameFault) → read_as r.channel r.bytes ≡ x → All (λ b. b < 2 ^ 8) r.bytes → is_some (vector_read width r.cycle r.bytes x) ≡ true → Counts width r
counts-found width r (Err why) e small is = absurd cc
counts-found width r (Ok h) e small is =
    by (has_vector width r.cycle h) refl is
  where
    by : (b : Bool) → has_vector width r.cycle h ≡ b → is_some (if b then Some (placed width (payload_in h r.bytes)) else None) ≡ true → Counts width r
    by false f never = absurd cc
    by true f there =
        let p = parts h.preamble h.null_bit (h.cycle == r.cycle % 64) (nat_le width (2 * h.words)) f in
        let frame : IsFrame r.channel h (payload_in h r.bytes) r.bytes = read_frame r.channel r.bytes h small e in
        let long : length (payload_in h r.bytes) ≡ 2 * h.words = frame.1.1.payload_length in
        let enough : width ≤ 2 * h.words = within width (2 * h.words) p.3 in
        record { header = h; payload = payload_in h r.bytes; frame = frame; preamble = p.0; null_bit = p.1; cycle = same h.cycle (r.cycle % 64) p.2; enough = omega (arith, long, enough) }

-- where a record has a vector it counts
pub vector-counts : (width : ℕ) (r : Recorded) → All (λ b. b < 2 ^ 8) r.bytes → is_some (vector_in width r) ≡ true → Counts width r
unfolding vector_in
vector-counts width r small is = counts-found width r (read_as r.channel r.bytes) refl small is

-- and where it counts it has the first bytes of its payload
pub vector-is : (width : ℕ) (r : Recorded) → (c : Counts width r) → vector_in width r ≡ Some (placed width c.payload)
vector-is width r c =
    let h = c.header in
    let f : IsFrameWith r.channel h c.payload c.frame.0 c.frame.1.0 r.bytes = c.frame.1.1 in
    let long : length c.payload ≡ 2 * h.words = f.payload_length in
    let enough : width ≤ 2 * h.words = omega (arith, long, c.enough) in
    let all : has_vector width r.cycle h ≡ true =
    whole h.preamble h.null_bit (h.cycle == r.cycle % 64) (nat_le width (2 * h.words)) c.preamble c.null_bit (tie h.cycle (r.cycle % 64) c.cycle) (no-more width (2 * h.words) enough)
    in
    vector-frame width r.cycle r.channel h c.payload r.bytes c.frame.0 c.frame.1.0 f ∙ ap (λ (b : Bool). if b then Some (placed width c.payload) else None) all

pub counts-vector : (width : ℕ) (r : Recorded) → Counts width r → is_some (vector_in width r) ≡ true
counts-vector width r c = ap is_some (vector-is width r c)

-- what it has is that
pub has-vector : (width : ℕ) (r : Recorded) (vector : List ℕ) → All (λ b. b < 2 ^ 8) r.bytes → vector_in width r ≡ Some vector → HasVector width r vector
has-vector width r vector small some =
    let c = vector-counts width r small (ap is_some some) in
    record { counts = c; value = same-some vector (placed width c.payload) (sym some ∙ vector-is width r c) }
  where
    same-some : (a b : List ℕ) → Some a ≡ Some b → a ≡ b
    same-some a b e = cc e

pub has-none : (width : ℕ) (r : Recorded) → All (λ b. b < 2 ^ 8) r.bytes → (vector_in width r ≡ None → Counts width r → ⊥) × ((Counts width r → ⊥) → vector_in width r ≡ None)
has-none width r small = (λ none c. absurd (let is = sym (ap is_some none) ∙ counts-vector width r c in cc is), λ never. by (vector_in width r) refl never)
  where
    by : (o : Option (List ℕ)) → vector_in width r ≡ o → (Counts width r → ⊥) → o ≡ None
    by None e never = refl
    by (Some vector) e never = absurd (never (vector-counts width r small (ap is_some e)))

-- so a record without a vector does not count
pub counts-none : (width : ℕ) (r : Recorded) → vector_in width r ≡ None → (IsTrue false → Counts width r) × (Counts width r → IsTrue false)
counts-none width r none = (λ never. absurd (cc never), λ c. sym (ap is_some none) ∙ counts-vector width r c)

pub counts-some : (width : ℕ) (r : Recorded) (vector : List ℕ) → All (λ b. b < 2 ^ 8) r.bytes → vector_in width r ≡ Some vector → (IsTrue true → Counts width r) × (Counts width r → IsTrue true)
counts-some width r vector small some = (λ always. vector-counts width r small (ap is_some some), λ c. refl)
