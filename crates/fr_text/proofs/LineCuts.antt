-- A line that is cut at its commas, read as csv reads it.
use Rattle.std.proofs.Common.{◌≡◌, ◌≢◌, ◌≤◌, ◌<◌, inl, inr, ℕ, suc, ◌+◌, ◌-◌, true, false, List, length, length-drop, drop, get_or, take, [], ◌∷◌, ◌++◌, Option, Some, None, refl, ap, sym, ◌∙◌, arith, append_assoc, append-nil}
use Rattle.std.specs.Prelude.{◌==◌, is_some, slice_index_or}
use Rattle.std.specs.List.{flat_map, list_all}
use Rattle.std.proofs.lemmas.List.{drop-drop, flat_map_more, get_or-drop}
use Rattle.std.proofs.Math.Seq.{drop-cons, split_at, take-suc}
use Rattle.std.proofs.lemmas.List.Folds.{list_all-append}
use Rattle.csv.specs.Machine.{Read, next_record}
use Rattle.csv.specs.Reading.{default_config, records_from, strip_bom}
use Rattle.csv.specs.declared.parser.State.TheVariants as st
use Rattle.fr_text.specs.Plain.{IsBehindFeed, IsCut, records_left}
use Rattle.fr_text.specs.Reader.{rest_of}
use Rattle.fr_text.specs.Records.{FileRecord, records_of}
use Rattle.fr_text.specs.Texts.{after_commas, first_byte, is_plain_byte, is_plain_field, is_plain_record, line_of_record, shows_bytes, with_commas}
use Rattle.fr_text.proofs.Left.{rest-end, rest-more}
use Rattle.fr_text.proofs.RecordLines.{line-read, no-mark}

-- fields, each before a comma
abbrev pub ended : FileRecord → List ℕ
ended fields = flat_map (λ (field : List ℕ). field ++ 44 ∷ []) fields

after_commas-some : (fields : FileRecord) (last : List ℕ) → after_commas (fields ++ last ∷ []) ≡ 44 ∷ with_commas (fields ++ last ∷ [])
after_commas-some [] last = refl
after_commas-some (field ∷ fields) last = refl

-- fields with commas between them
with_commas-ended : (fields : FileRecord) (last : List ℕ) → with_commas (fields ++ last ∷ []) ≡ ended fields ++ last
with_commas-ended [] last = append-nil last
with_commas-ended (field ∷ fields) last =
    ap (λ (t : List ℕ). field ++ t) (after_commas-some fields last ∙ ap (λ (t : List ℕ). 44 ∷ t) (with_commas-ended fields last))
    ∙ sym (append_assoc field (44 ∷ []) (ended fields ++ last))
    ∙ sym (append_assoc (field ++ 44 ∷ []) (ended fields) last)

-- one more field before a comma
pub cut-more : (text rest front more : List ℕ) (fields : FileRecord) → text ≡ ended fields ++ rest → rest ≡ front ++ 44 ∷ more → text ≡ ended (fields ++ front ∷ []) ++ more
cut-more text rest front more fields e f =
    e
    ∙ ap (λ (t : List ℕ). ended fields ++ t) (f ∙ sym (append_assoc front (44 ∷ []) more))
    ∙ sym (append_assoc (ended fields) (front ++ 44 ∷ []) more)
    ∙ ap (λ (t : List ℕ). t ++ more) (flat_map_more (λ (field : List ℕ). field ++ 44 ∷ []) [] fields front)

-- and the last one
pub cut-last : (text rest front behind : List ℕ) (fields : FileRecord) → text ≡ ended fields ++ rest → rest ≡ front ++ behind → text ≡ with_commas (fields ++ front ∷ []) ++ behind
cut-last text rest front behind fields e f =
    e
    ∙ ap (λ (t : List ℕ). ended fields ++ t) f
    ∙ sym (append_assoc (ended fields) front behind)
    ∙ ap (λ (t : List ℕ). t ++ behind) (sym (with_commas-ended fields front))

pub plain-more : (fields : FileRecord) (front : List ℕ) → list_all is_plain_field fields ≡ true → is_plain_field front ≡ true → list_all is_plain_field (fields ++ front ∷ []) ≡ true
plain-more fields front h g = list_all-append is_plain_field fields (front ∷ []) ∙ rw (h, g) refl

-- ---- a line that is read byte by byte
plain_above : (byte : ℕ) → 44 < byte → is_plain_byte byte ≡ true
plain_above byte above = grind arith

-- the bytes from the start of a field on, up to a place, and the one there
pub byte-at : (text : List ℕ) (start place : ℕ) → start ≤ place → place < length text →
    drop start text ≡ take (place - start) (drop start text) ++ get_or text place 0 ∷ drop (place + 1) text
byte-at text start place begun within =
    let d : List ℕ = drop start text in
    let j : ℕ = place - start in
    let there : start + j ≡ place = omega arith in
    let behind : start + suc j ≡ place + 1 = omega arith in
    let long : j < length d = omega (arith, length-drop start text) in
    split_at d j 0 long
    ∙ ap (λ (b : ℕ). take j d ++ b ∷ drop (suc j) d) (get_or-drop start text j 0 ∙ ap (λ (k : ℕ). get_or text k 0) there)
    ∙ ap (λ (xs : List ℕ). take j d ++ get_or text place 0 ∷ xs) (drop-drop (suc j) start text ∙ ap (λ (k : ℕ). drop k text) behind)

pub field-more : (text : List ℕ) (start place : ℕ) → start ≤ place → place < length text → 44 < get_or text place 0 → is_plain_field (take (place - start) (drop start text)) ≡ true →
    is_plain_field (take (place + 1 - start) (drop start text)) ≡ true
field-more text start place begun within above plain =
    let d : List ℕ = drop start text in
    let j : ℕ = place - start in
    let there : start + j ≡ place = omega arith in
    let next : place + 1 - start ≡ suc j = omega arith in
    let long : j < length d = omega (arith, length-drop start text) in
    let byte : get_or d j 0 ≡ get_or text place 0 = get_or-drop start text j 0 ∙ ap (λ (k : ℕ). get_or text k 0) there in
    let own : is_plain_byte (get_or d j 0) ≡ true = rw byte (plain_above (get_or text place 0) above) in
    ap (λ (k : ℕ). is_plain_field (take k d)) next
    ∙ ap is_plain_field (take-suc d j 0 long)
    ∙ list_all-append is_plain_byte (take j d) (get_or d j 0 ∷ [])
    ∙ rw (plain, own) refl

pub no-field : (text : List ℕ) (place : ℕ) → is_plain_field (take (place - place) (drop place text)) ≡ true
no-field text place = let none : place - place ≡ 0 = omega arith in ap (λ (k : ℕ). is_plain_field (take k (drop place text))) none

-- the end of the line
pub end-at : (text : List ℕ) (place : ℕ) → place < length text → get_or text place 0 ≡ 10 → drop place text ≡ 10 ∷ drop (place + 1) text
end-at text place within is =
    let next : suc place ≡ place + 1 = omega arith in
    drop-cons text place 0 within ∙ ap (λ (b : ℕ). b ∷ drop (suc place) text) is ∙ ap (λ (k : ℕ). 10 ∷ drop k text) next

-- the record of a line that has a byte before its end
shown-record : (text rest tail : List ℕ) (fields : FileRecord) → text ≡ with_commas fields ++ rest → rest ≡ 10 ∷ tail → first_byte text ≢ 10 → shows_bytes fields ≡ true
shown-record text rest tail [] e f n = absurd (n (ap first_byte (e ∙ f)))
shown-record text rest tail ([] ∷ []) e f n = absurd (n (ap first_byte (e ∙ f)))
shown-record text rest tail ((b ∷ bs) ∷ []) e f n = refl
shown-record text rest tail ([] ∷ y ∷ ys) e f n = refl
shown-record text rest tail ((b ∷ bs) ∷ y ∷ ys) e f n = refl

-- a line feed before a record is passed over
feed-first : (text : List ℕ) → next_record default_config st.StartRecord [] [] (10 ∷ text) ≡ next_record default_config st.StartRecord [] [] text
unfolding next_record
feed-first text = refl

feed-passed : (text : List ℕ) → rest_of st.StartRecord (10 ∷ text) ≡ rest_of st.StartRecord text
feed-passed text = by (next_record default_config st.StartRecord [] [] text) refl
  where
    by : (o : Option Read) → next_record default_config st.StartRecord [] [] text ≡ o → rest_of st.StartRecord (10 ∷ text) ≡ rest_of st.StartRecord text
    by None e = rest-end st.StartRecord (10 ∷ text) (feed-first text ∙ e) ∙ sym (rest-end st.StartRecord text e)
    by (Some p) e = rest-more st.StartRecord (10 ∷ text) p refl (feed-first text ∙ e) ∙ sym (rest-more st.StartRecord text p refl e)

unmarked : (text : List ℕ) → first_byte text ≢ 0xEF → records_of text ≡ rest_of st.StartRecord text
unfolding records_of rest_of
unmarked text n = ap (λ (t : List ℕ). records_from default_config (length t + 1) st.StartRecord t) (no-mark text n)

feed-unmarked : (text : List ℕ) → records_of (10 ∷ text) ≡ rest_of st.StartRecord text
feed-unmarked text = unmarked (10 ∷ text) (λ e. omega arith) ∙ feed-passed text

-- the records of a text whose first line was cut
pub cut-read : (text line rest : List ℕ) (fields : FileRecord) → IsBehindFeed text line → IsCut line fields rest → first_byte line ≢ 10 → first_byte line ≢ 0xEF
    → records_of text ≡ fields ∷ records_of rest
cut-read text line rest fields behind cut some no_mark =
    let shows : shows_bytes fields ≡ true = shown-record line rest cut.tail fields cut.line cut.end some in
    let plain : is_plain_record fields ≡ true = rw (cut.plain, shows) refl in
    let whole : line ≡ line_of_record fields ++ cut.tail =
    cut.line ∙ ap (λ (t : List ℕ). with_commas fields ++ t) cut.end ∙ sym (append_assoc (with_commas fields) (10 ∷ []) cut.tail)
    in
    let read : next_record default_config st.StartRecord [] [] line ≡ Some (fields, st.StartRecord, cut.tail) =
    ap (next_record default_config st.StartRecord [] []) whole ∙ line-read fields cut.tail plain
    in
    let first : records_of text ≡ rest_of st.StartRecord line = elim behind [
      | inl e ↦ ap records_of e ∙ unmarked line no_mark
      | inr e ↦ ap records_of e ∙ feed-unmarked line
    ]
    in
    let others : rest_of st.StartRecord cut.tail ≡ records_of rest = sym (feed-unmarked cut.tail) ∙ ap records_of (sym cut.end) in
    first ∙ rest-more st.StartRecord line (fields, st.StartRecord, cut.tail) refl read ∙ ap (λ (rs : List FileRecord). fields ∷ rs) others

-- of a text of nothing but a line feed, if that
none-left : records_of [] ≡ []
unfolding records_of records_from next_record strip_bom
none-left = refl

none-behind : records_of (10 ∷ []) ≡ []
unfolding records_of records_from next_record strip_bom
none-behind = refl

pub over-read : (text line : List ℕ) → IsBehindFeed text line → line ≡ [] → records_of text ≡ []
over-read text line behind e = elim behind [
  | inl f ↦ ap records_of (f ∙ e) ∙ none-left
  | inr f ↦ ap records_of (f ∙ ap (λ (t : List ℕ). 10 ∷ t) e) ∙ none-behind
]

-- a reader that has not begun has the records of the bytes that are left
pub left-plain : (other : Option (List FileRecord)) (rest : List ℕ) → is_some other ≡ false → records_left other rest ≡ records_of rest
left-plain None rest e = refl
left-plain (Some records) rest e = cc e

pub over-text : (text : List ℕ) → (length text == 0) ≡ true → text ≡ []
over-text [] e = refl
over-text (b ∷ bs) e = let no : false ≡ true = sym (no-zero (length bs)) ∙ e in cc no
  where
    no-zero : (n : ℕ) → (suc n == 0) ≡ false
    no-zero n = grind arith

-- a text that begins with a line feed
pub first-byte : (text : List ℕ) → 1 ≤ length text → slice_index_or text 0 0 ≡ 10 → text ≡ 10 ∷ drop 1 text
first-byte [] some e = absurd (omega arith)
first-byte (b ∷ bs) some e = ap (λ (x : ℕ). x ∷ bs) e
