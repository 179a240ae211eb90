-- The text of records, read as csv reads it.
use Rattle.std.proofs.Common.{◌≡◌, ◌≢◌, ◌≤◌, ◌<◌, ◌+◌, ℕ, suc, zero, Bool, true, false, List, [], ◌∷◌, ◌++◌, Some, map, length, refl, ap, sym, ◌∙◌, arith, append_assoc, append-nil, length-append}
use Rattle.std.specs.Prelude.{◌==◌, ◌&&◌}
use Rattle.std.specs.List.{list_all, list_any}
use Rattle.csv.proofs.RoundTrip.{read-write}
use Rattle.csv.specs.Machine.{next_record}
use Rattle.csv.specs.Reading.{default_config, records_from, records_next, strip_bom}
use Rattle.csv.specs.Writing.{default_writer, field_text, fields_text, is_blank, needs_byte, read_back, row_text}
use Rattle.csv.specs.declared.parser.State.TheVariants as st
use Rattle.fr_text.specs.Pieces.{fields_after, line, spelling}
use Rattle.fr_text.specs.declared.piece.Piece.{Piece}
use Rattle.fr_text.specs.Records.{FileRecord, records_of}
use Rattle.fr_text.specs.ReadBack.{RecordsAreReadBack, RowsAreRecords}
use Rattle.fr_text.specs.Texts.{after_commas, first_byte, is_plain_byte, is_plain_field, is_plain_record, line_of_record, shows_bytes, text_of_records, with_commas}

pub and-left : (a b : Bool) → (a && b) ≡ true → a ≡ true
and-left true b e = refl
and-left false b e = cc e

pub and-right : (a b : Bool) → (a && b) ≡ true → b ≡ true
and-right true b e = e
and-right false b e = cc e

not-true : (x : Bool) → (x ≡ true → ⊥) → x ≡ false
not-true true n = absurd (n refl)
not-true false n = refl

-- a plain byte calls for no quotes
byte-unquoted : (b : ℕ) → is_plain_byte b ≡ true → needs_byte default_writer b ≡ false
byte-unquoted b e =
    let comma = not-true (b == 44) (λ t. cc (rw t at e)) in
    let quote = not-true (b == 34) (λ t. cc (rw (comma, t) at e)) in
    let return = not-true (b == 13) (λ t. cc (rw (comma, quote, t) at e)) in
    let feed = not-true (b == 10) (λ t. cc (rw (comma, quote, return, t) at e)) in
    rw (comma, quote, return, feed) refl

unquoted : (x : List ℕ) → is_plain_field x ≡ true → list_any (needs_byte default_writer) x ≡ false
unquoted [] e = refl
unquoted (b ∷ bs) e =
    let first : is_plain_byte b ≡ true = and-left _ _ e in
    let others : is_plain_field bs ≡ true = and-right _ _ e in
    rw (byte-unquoted b first, unquoted bs others) refl

field-plain : (x : List ℕ) → is_plain_field x ≡ true → field_text default_writer x ≡ x
field-plain x e = rw (unquoted x e) refl

fields-plain : (fields : List (List ℕ)) → list_all is_plain_field fields ≡ true → fields_text default_writer fields ≡ after_commas fields
unfolding fields_text
fields-plain [] e = refl
fields-plain (x ∷ xs) e =
    let first : is_plain_field x ≡ true = and-left _ _ e in
    let others : list_all is_plain_field xs ≡ true = and-right _ _ e in
    rw (field-plain x first, fields-plain xs others) refl

-- a plain record is written as its line
row-plain : (fields : FileRecord) → list_all is_plain_field fields ≡ true → shows_bytes fields ≡ true → row_text default_writer fields ≡ line_of_record fields
unfolding is_blank fields_text
row-plain [] plain shows = cc shows
row-plain ([] ∷ []) plain shows = cc shows
row-plain ((b ∷ bs) ∷ []) plain shows =
    let first : is_plain_field (b ∷ bs) ≡ true = and-left _ _ plain in
    rw (field-plain (b ∷ bs) first, no-zero (length bs)) refl
  where
    no-zero : (n : ℕ) → (suc n == 0) ≡ false
    no-zero n = grind arith
row-plain (x ∷ y ∷ ys) plain shows =
    let first : is_plain_field x ≡ true = and-left _ _ plain in
    let others : list_all is_plain_field (y ∷ ys) ≡ true = and-right _ _ plain in
    rw (field-plain x first, fields-plain (y ∷ ys) others) refl

same-back : (fields : FileRecord) → shows_bytes fields ≡ true → read_back fields ≡ fields
same-back [] shows = cc shows
same-back (x ∷ xs) shows = refl

-- and its line is read as this record
pub line-read : (fields : FileRecord) (tail : List ℕ) → is_plain_record fields ≡ true
    → next_record default_config st.StartRecord [] [] (line_of_record fields ++ tail) ≡ Some (fields, st.StartRecord, tail)
line-read fields tail e =
    let plain = and-left _ _ e in
    let shows = and-right _ _ e in
    ap (λ (text : List ℕ). next_record default_config st.StartRecord [] [] (text ++ tail)) (sym (row-plain fields plain shows))
    ∙ read-write fields tail
    ∙ ap (λ (r : FileRecord). Some (r, st.StartRecord, tail)) (same-back fields shows)

-- record by record
lines-read : (records : List FileRecord) (n : ℕ) → length records < n → list_all is_plain_record records ≡ true
    → records_from default_config n st.StartRecord (text_of_records records) ≡ records
unfolding records_from next_record
lines-read records zero less e = absurd (omega arith)
lines-read [] (suc n) less e = refl
lines-read (r ∷ rs) (suc n) less e =
    let fewer : length rs < n = omega (arith, less) in
    let first : is_plain_record r ≡ true = and-left _ _ e in
    let others : list_all is_plain_record rs ≡ true = and-right _ _ e in
    ap (records_next (records_from default_config n)) (line-read r (text_of_records rs) first)
    ∙ ap (λ (more : List FileRecord). r ∷ more) (lines-read rs n fewer others)

-- a text has no fewer bytes than records
long-enough : (records : List FileRecord) → length records ≤ length (text_of_records records)
long-enough [] = omega arith
long-enough (r ∷ rs) =
    let more = long-enough rs in
    let first = length-append (line_of_record r) (text_of_records rs) in
    let end = length-append (with_commas r) (10 ∷ []) in
    omega (arith, more, first, end)

pub no-mark : (text : List ℕ) → first_byte text ≢ 0xEF → strip_bom text ≡ text
unfolding strip_bom
no-mark [] n = refl
no-mark (a ∷ []) n = refl
no-mark (a ∷ b ∷ []) n = refl
no-mark (a ∷ b ∷ c ∷ rest) n = let other : (a == 0xEF) ≡ false = not-equal a 0xEF n in rw other refl
  where
    not-equal : (x y : ℕ) → x ≢ y → (x == y) ≡ false
    not-equal x y ne = grind arith

pub records-read-back : RecordsAreReadBack
unfolding records_of
records-read-back records plain unmarked =
    let fits = long-enough records in
    rw (no-mark (text_of_records records) unmarked) (lines-read records (length (text_of_records records) + 1) (omega arith) plain)

-- fields behind a text
fields-behind : (text : List ℕ) (fields : List Piece) → fields_after text fields ≡ text ++ after_commas (map spelling fields)
fields-behind text [] = sym (append-nil text)
fields-behind text (field ∷ fields) =
    fields-behind (text ++ (44 ∷ []) ++ spelling field) fields
    ∙ ap (λ (t : List ℕ). t ++ after_commas (map spelling fields)) (append_assoc text (44 ∷ []) (spelling field))
    ∙ append_assoc text (44 ∷ spelling field) (after_commas (map spelling fields))

pub rows-records : RowsAreRecords
rows-records word fields = ap line (fields-behind word fields)
