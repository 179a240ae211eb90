-- Each fact about which the kind of a deed is asked, for one kind after the other.
use Rattle.std.proofs.Common.{◌≡◌, ℕ, ℤ, pos, negsuc, ◌-◌, ◌≤◌, ◌≤ℤ◌, Bool, true, false, List, [], ◌∷◌, length, Option, Some, None, Result, Ok, Err, arith, refl, sym, ◌∙◌}
use Rattle.std.specs.Prelude.{neg_ℤ, nat_lt, nat_le, not, ◌||◌, codes, is_none, is_some, IfOk, IfSome, if◌then◌else◌}
use Rattle.std.specs.Str.{bytes_eq}
use Rattle.std.proofs.lemmas.Bool.Decides.{nat_tests}
use Rattle.hex.specs.Hex.{decode_of}
use Rattle.hex.specs.declared.error.FromHexError.{FromHexError}
use Rattle.fr_base.specs.Channels.{channel_of}
use Rattle.fr_base.specs.Event as event
use Rattle.fr_base.specs.Number.{number_of}
use Rattle.fr_base.specs.declared.channel.Channel.{Channel}
use Rattle.fr_base.specs.declared.numbers.NumberFault.{NumberFault}
use Rattle.fr_base.specs.declared.numbers.NumberFault.TheVariants as fault
use Rattle.fr_base.specs.declared.reason.Reason.{Reason}
use Rattle.fr_base.specs.declared.reason.Reason.TheVariants as reason
use Rattle.fr_text.specs.Records.{FileRecord}
use Rattle.fr_text.specs.Fields.{both_of, field_of, hex_digits_in, is_blank, natural_of, natural_within, or_reason}
use Rattle.fr_text.specs.Forms.{Form, NumberField, number_field}
use Rattle.fr_text.proofs.FormFacts.{IsFault, IsFormedBy, IsRead, formed-if, formed-one, formed-read, formed-two, natural-read, never, read-both, within-read}
use Rattle.fr_text.proofs.RowsRead.{both_read, digits_read, natural_read, of_either, of_read, within_read}
use Rattle.fr_cluster.specs.Values.{Values}
use Rattle.fr_script.specs.Columns.{deed_row, passage_in, passage_of_numbers}
use Rattle.fr_script.specs.Deed.{IsProperDeed, bits_of, deed_file_row, farthest, flip_row, is_after_frame, is_channel_last, lose_row, said_bytes, said_in, say_deed, say_row, shift_in}
use Rattle.fr_script.specs.Events.{IsProperEvent, event_by}
use Rattle.fr_script.specs.Holding.{flip_form, lose_form, passage_fields, say_form}
use Rattle.fr_script.specs.Said.{AreSaidBytes}
use Rattle.fr_script.specs.declared.deed.Deed.{Deed}
use Rattle.fr_script.specs.declared.deed.Deed.TheVariants as deed
use Rattle.fr_script.specs.declared.deeds.Passage.{Passage}
use Rattle.fr_script.specs.declared.rows.DeedRow.{DeedRow}
use Rattle.fr_script.specs.declared.rows.Row.{Row}
use Rattle.fr_script.specs.declared.rows.Row.TheVariants as row
use Rattle.fr_script.proofs.Said.{decoded-said}

-- ---- what is made of frames

-- what is made of the frames of a sender is in range where the deed is
pub by-proper : (b : Bool) (o : Option Deed) → IfSome o IsProperDeed → IsProperEvent (event_by b o)
by-proper true None h = tt
by-proper true (Some deed.Lose) h = tt
by-proper true (Some (deed.Flip bit)) h = tt
by-proper true (Some (deed.Say shift bytes)) h = h
by-proper false None h = tt
by-proper false (Some deed.Lose) h = tt
by-proper false (Some (deed.Flip bit)) h = h
by-proper false (Some (deed.Say shift bytes)) h = tt

-- only a deed that inverts a bit inverts one
pub flip-deed : (b : Bool) (o : Option Deed) (bit : ℕ) → event_by b o ≡ event.Flip bit → o ≡ Some (deed.Flip bit)
flip-deed true None bit h = cc h
flip-deed true (Some deed.Lose) bit h = cc h
flip-deed true (Some (deed.Flip other)) bit h = cc h
flip-deed true (Some (deed.Say shift bytes)) bit h = cc h
flip-deed false None bit h = cc h
flip-deed false (Some deed.Lose) bit h = cc h
flip-deed false (Some (deed.Flip other)) bit h = cc h
flip-deed false (Some (deed.Say shift bytes)) bit h = cc h

-- ---- what a row says whose word is that of a deed is a deed, and proper

abbrev IsProperDeedRow : Row → Type 0
IsProperDeedRow (row.Arbitrary node) = ⊥
IsProperDeedRow (row.Deed d) = IfSome d.deed IsProperDeed
IsProperDeedRow (row.Join j) = ⊥

said_proper : (text : List ℕ) → length text ≤ 524 → IfSome (said_in text) (λ o. IfSome o AreSaidBytes)
said_proper text few = by_blank (is_blank text)
  where
    by_bytes : (r : Result (List ℕ) FromHexError) → decode_of text ≡ r → IfSome (said_bytes r) (λ o. IfSome o AreSaidBytes)
    by_bytes (Ok bytes) e = decoded-said text bytes e few
    by_bytes (Err why) e = tt

    by_blank : (b : Bool) → IfSome (if b then Some None else said_bytes (decode_of text)) (λ o. IfSome o AreSaidBytes)
    by_blank true = tt
    by_blank false = by_bytes (decode_of text) refl

proper_say : (r : FileRecord) → IfOk (say_row r) IsProperDeedRow
proper_say r =
    of_read IsProperDeedRow (λ numbers. Ok (deed_row r numbers.0 (say_deed numbers.1.0 (said_in (field_of r 6)))))
    (both_of (passage_in r) (both_of (shift_in r) (hex_digits_in (field_of r 6))))
    (λ x e.
    let parts = both_read (passage_in r) (both_of (shift_in r) (hex_digits_in (field_of r 6))) x e in
    let more = both_read (shift_in r) (hex_digits_in (field_of r 6)) x.1 parts.1 in
    by x.1.0 (within_read _ farthest (number_of (field_of r 5)) x.1.0 more.0) (said_in (field_of r 6)) (said_proper (field_of r 6) (digits_read (field_of r 6) x.1.1 more.1)))
  where
    by : (shift : ℤ) → (neg_ℤ farthest ≤ℤ shift) × (shift ≤ℤ farthest) → (o : Option (Option (List ℕ))) → IfSome o (λ said. IfSome said AreSaidBytes) → IfSome (say_deed shift o) IsProperDeed
    by shift near None said = tt
    by shift near (Some bytes) said = record { from = near.0; to = near.1; said = said }

proper_flip : (r : FileRecord) → IfOk (flip_row r) IsProperDeedRow
proper_flip r =
    of_either IsProperDeedRow (is_blank (field_of r 6)) _ (Err reason.Shape)
    (of_read IsProperDeedRow (λ numbers. Ok (deed_row r numbers.0 (Some (deed.Flip numbers.1)))) (both_of (passage_in r) (natural_of 0 2095 (field_of r 5)))
    (λ x e.
    let parts = both_read (passage_in r) (natural_of 0 2095 (field_of r 5)) x e in
    let most = (natural_read 0 2095 (field_of r 5) x.1 parts.1).1 in
    omega (arith, most)))
    tt

proper_lose : (r : FileRecord) → IfOk (lose_row r) IsProperDeedRow
proper_lose r = of_either IsProperDeedRow (is_channel_last r) _ (Err reason.Shape) (of_read IsProperDeedRow (λ passage. Ok (deed_row r passage (Some deed.Lose))) (passage_in r) (λ x e. tt)) tt

-- what holds of each refusal, of each proper deed, and of what a row of another word says, holds of what a row says
pub of-deeds : (P : Result Row Reason → Type 0) → ((why : Reason) → P (Err why)) → ((d : DeedRow) → IfSome d.deed IsProperDeed → P (Ok (row.Deed d))) → (r : FileRecord) (other : Result Row Reason) → P other
    → P (deed_file_row r other)
of-deeds P refused taken r other rest =
    either (bytes_eq (field_of r 0) (codes "say")) (say_row r) _ (of_deed (say_row r) (proper_say r))
    (either (bytes_eq (field_of r 0) (codes "lose")) (lose_row r) _ (of_deed (lose_row r) (proper_lose r))
    (either (bytes_eq (field_of r 0) (codes "flip")) (flip_row r) other (of_deed (flip_row r) (proper_flip r)) rest))
  where
    of_deed : (x : Result Row Reason) → IfOk x IsProperDeedRow → P x
    of_deed (Err why) h = refused why
    of_deed (Ok (row.Arbitrary node)) h = absurd h
    of_deed (Ok (row.Deed d)) h = taken d h
    of_deed (Ok (row.Join j)) h = absurd h

    either : (b : Bool) (x y : Result Row Reason) → P x → P y → P (if b then x else y)
    either true x y one two = one
    either false x y one two = two

-- ---- what a row says against its form

-- what of a row is left to ask: a bit against the end of the frame, and its channel
unfoldable pub far : Values → Row → Bool
far p (row.Arbitrary node) = false
far p (row.Deed d) = is_after_frame p d.deed
far p (row.Join j) = false

unfoldable pub astray : Row → Bool
astray (row.Arbitrary node) = false
astray (row.Deed d) = is_none d.channel
astray (row.Join j) = false

spelt : (o : Option Channel) → not (is_some o) ≡ is_none o
spelt None = refl
spelt (Some ch) = refl

-- a passage
numbers-read : (d o : Bool) (x : Result (ℕ × (ℕ × ℕ)) NumberFault) → IsFault (λ (q : ℕ × (ℕ × ℕ)). never q.0 || (never q.1.0 || never q.1.1)) d o x → IsFault never d o (passage_of_numbers x)
numbers-read d o (Ok q) f = f
numbers-read d o (Err fault.NotDigits) f = f
numbers-read d o (Err fault.OutOfRange) f = f

passage-read : (r : FileRecord) → IsRead never (passage_fields r) true (passage_in r)
passage-read r =
    let rest =
    read-both never never (number_field (field_of r 2) 1 64 ∷ []) (number_field (field_of r 3) 1 64 ∷ []) true true (natural_of 1 64 (field_of r 2)) (natural_of 1 64 (field_of r 3))
    (natural-read 1 64 (field_of r 2)) (natural-read 1 64 (field_of r 3))
    in
    let all =
    read-both never (λ (q : ℕ × ℕ). never q.0 || never q.1) (number_field (field_of r 1) 0 199_999 ∷ []) (number_field (field_of r 2) 1 64 ∷ number_field (field_of r 3) 1 64 ∷ []) true true
    (natural_of 0 199_999 (field_of r 1)) (both_of (natural_of 1 64 (field_of r 2)) (natural_of 1 64 (field_of r 3))) (natural-read 0 199_999 (field_of r 1)) rest
    in
    numbers-read _ _ (both_of (natural_of 0 199_999 (field_of r 1)) (both_of (natural_of 1 64 (field_of r 2)) (natural_of 1 64 (field_of r 3)))) all

-- what is said
few : (n : ℕ) → nat_le n 524 ≡ not (nat_lt 524 n)
few n = grind (arith, nat_tests)

digits-if : (b : Bool) (n : ℕ) → IsFault never false (false || not (not b)) (if b then Err fault.OutOfRange else Ok n)
digits-if true n = (refl, refl)
digits-if false n = (refl, refl)

digits-read : (text : List ℕ) → IsRead never [] (nat_le (length text) 524) (hex_digits_in text)
digits-read text = rw (few (length text)) (digits-if (nat_lt 524 (length text)) (length text))

say-before : (p : Values) (shift : ℤ) (o : Option (Option (List ℕ))) → is_after_frame p (say_deed shift o) ≡ false
say-before p shift None = refl
say-before p shift (Some bytes) = refl

say-formed : (p : Values) (r : FileRecord) → IsFormedBy (far p) astray (Some (say_form r)) (say_row r)
unfolding far astray
say-formed p r =
    let shift_field : NumberField = record { text = field_of r 5; low = neg_ℤ farthest; high = farthest } in
    let short = nat_le (length (field_of r 6)) 524 in
    let rest = read-both never never (shift_field ∷ []) [] true short (shift_in r) (hex_digits_in (field_of r 6)) (within-read (neg_ℤ farthest) farthest (field_of r 5)) (digits-read (field_of r 6)) in
    let all =
    read-both never (λ (q : ℤ × ℕ). never q.0 || never q.1) (passage_fields r) (shift_field ∷ []) true short (passage_in r) (both_of (shift_in r) (hex_digits_in (field_of r 6))) (passage-read r) rest
    in
    formed-read (far p) astray (λ (q : Passage × (ℤ × ℕ)). never q.0 || (never q.1.0 || never q.1.1)) _ _ _ (λ numbers. Ok (deed_row r numbers.0 (say_deed numbers.1.0 (said_in (field_of r 6)))))
    (both_of (passage_in r) (both_of (shift_in r) (hex_digits_in (field_of r 6)))) all
    (λ a d o e f. (refl, refl, e, f ∙ sym (say-before p a.1.0 (said_in (field_of r 6))), spelt (channel_of (field_of r 4))))

-- what is lost
lose-formed : (p : Values) (r : FileRecord) → IsFormedBy (far p) astray (Some (lose_form r)) (lose_row r)
unfolding far astray
lose-formed p r =
    formed-two (far p) astray (is_blank (field_of r 5)) (is_blank (field_of r 6)) _ _ _ _ (or_reason (λ passage. Ok (deed_row r passage (Some deed.Lose))) (passage_in r))
    (formed-read (far p) astray never _ _ _ (λ passage. Ok (deed_row r passage (Some deed.Lose))) (passage_in r) (passage-read r)
    (λ a d o e f. (refl, refl, e, f, spelt (channel_of (field_of r 4)))))

-- a bit that is inverted
bit-after : (bits n : ℕ) → 1 ≤ bits → bits ≤ 2096 → (nat_lt n 0 || nat_lt 2095 n) ≡ true → (((nat_lt n 0 || nat_lt (bits - 1) n) || false) || false) ≡ true
bit-after bits n from to h = grind (arith, nat_tests)

bit-within : (bits n : ℕ) → 1 ≤ bits → (((nat_lt n 0 || nat_lt (bits - 1) n) || false) || false) ≡ nat_le bits n
bit-within bits n from = grind (arith, nat_tests)

bit-if : (bits n : ℕ) (b : Bool) → 1 ≤ bits → bits ≤ 2096 → (nat_lt n 0 || nat_lt 2095 n) ≡ b
    → IsFault (λ bit. nat_le bits bit) false (((nat_lt n 0 || nat_lt (bits - 1) n) || false) || false) (if b then Err fault.OutOfRange else Ok n)
bit-if bits n true from to e = (refl, bit-after bits n from to e)
bit-if bits n false from to e = (refl, bit-within bits n from)

bit-of : (bits : ℕ) (o : Option ℤ) (text : List ℕ) → 1 ≤ bits → bits ≤ 2096 → number_of text ≡ o → IsRead (λ bit. nat_le bits bit) (number_field text 0 (bits - 1) ∷ []) true (natural_within 0 2095 o)
bit-of bits None text from to e = rw e refl
bit-of bits (Some (pos n)) text from to e = rw e (bit-if bits n (nat_lt n 0 || nat_lt 2095 n) from to refl)
bit-of bits (Some (negsuc n)) text from to e = rw e (refl, refl)

flip-formed : (p : Values) (r : FileRecord) → 1 ≤ bits_of p → bits_of p ≤ 2096 → IsFormedBy (far p) astray (Some (flip_form p r)) (flip_row r)
unfolding far astray
flip-formed p r from to =
    let all =
    read-both never (λ bit. nat_le (bits_of p) bit) (passage_fields r) (number_field (field_of r 5) 0 (bits_of p - 1) ∷ []) true true (passage_in r) (natural_of 0 2095 (field_of r 5)) (passage-read r)
    (bit-of (bits_of p) (number_of (field_of r 5)) (field_of r 5) from to refl)
    in
    formed-one (far p) astray (is_blank (field_of r 6)) _ _ _ _ (or_reason (λ numbers. Ok (deed_row r numbers.0 (Some (deed.Flip numbers.1)))) (both_of (passage_in r) (natural_of 0 2095 (field_of r 5))))
    (formed-read (far p) astray (λ (q : Passage × ℕ). never q.0 || nat_le (bits_of p) q.1) _ _ _ (λ numbers. Ok (deed_row r numbers.0 (Some (deed.Flip numbers.1))))
    (both_of (passage_in r) (natural_of 0 2095 (field_of r 5))) all (λ a d o e f. (refl, refl, e, f, spelt (channel_of (field_of r 4)))))

-- a row of a deed; what a row of another word says has its own form
pub deeds-formed : (p : Values) (r : FileRecord) (form : Option Form) (other : Result Row Reason) → 1 ≤ bits_of p → bits_of p ≤ 2096 → IsFormedBy (far p) astray form other
    → IsFormedBy (far p) astray
    (if bytes_eq (field_of r 0) (codes "say") then Some (say_form r) else if bytes_eq (field_of r 0) (codes "lose") then Some (lose_form r) else if bytes_eq (field_of r 0) (codes "flip") then Some (flip_form p r) else form)
    (deed_file_row r other)
deeds-formed p r form other from to rest =
    formed-if (far p) astray (bytes_eq (field_of r 0) (codes "say")) (Some (say_form r)) _ _ _ (say-formed p r)
    (formed-if (far p) astray (bytes_eq (field_of r 0) (codes "lose")) (Some (lose_form r)) _ _ _ (lose-formed p r)
    (formed-if (far p) astray (bytes_eq (field_of r 0) (codes "flip")) (Some (flip_form p r)) form _ other (flip-formed p r from to) rest))
