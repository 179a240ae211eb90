-- What reading one record does to the records that are left.
use Rattle.std.proofs.Common.{◌≡◌, ℕ, zero, suc, ◌+◌, ◌<◌, ◌≤◌, Bool, true, false, List, [], ◌∷◌, ◌++◌, length, Option, Some, None, ap, sym, ◌∙◌, refl, arith, subst, add-one}
use Rattle.std.specs.Prelude.{if◌then◌else◌, ◌==◌}
use Rattle.csv.specs.Machine.{Read, next_record, step, in_field, start_field, start_record, after_end, ends_with, is_end, ends_at_end, fields_after, field_after}
use Rattle.csv.specs.Reading.{records_from, records_next, default_config, strip_bom, is_bom, Reached, ReadRecord, ReadsOn, source_of, has_failed, is_flexible, reader_state}
use Rattle.csv.proofs.ReadFacts.{rows-more, rows-end}
use Rattle.csv.specs.declared.parser.State.{State}
use Rattle.csv.specs.declared.parser.State.TheVariants as st
use Rattle.csv.specs.declared.parser.Action.{Action}
use Rattle.csv.specs.declared.parser.Action.TheVariants as act
use Rattle.csv.specs.declared.parser.Terminator.TheVariants as term
use Rattle.csv.specs.declared.reader.Reader.{Reader}
use Rattle.fr_text.specs.Records.{FileRecord, records_of}
use Rattle.fr_text.specs.Reader.{rest_of, left_by, IsReading}

-- a step that ends a record leaves a state between records
abbrev EndsBetween : State × Action → Type 0
EndsBetween p = is_end p.1 ≡ true → ends_at_end p.0 ≡ false

choice : (b : Bool) (p q : State × Action) → EndsBetween p → EndsBetween q → EndsBetween (if b then p else q)
choice true p q f g = f
choice false p q f g = g

-- what follows a record's end
after_end-between : (c : ℕ) → ends_at_end (after_end term.CRLF c) ≡ false
after_end-between c = by (c == 13)
  where
    by : (b : Bool) → ends_at_end (if b then st.AfterCr else st.StartRecord) ≡ false
    by true = refl
    by false = refl

in_field-between : (c : ℕ) → EndsBetween (in_field default_config c)
in_field-between c =
    choice (c == 44) (st.StartField, act.EndField) _ (λ e. cc e)
    (choice (ends_with term.CRLF c) (after_end term.CRLF c, act.EndRecord) (st.InField, act.Copy) (λ e. after_end-between c) (λ e. cc e))

start_field-between : (c : ℕ) → EndsBetween (start_field default_config c)
start_field-between c = choice (c == 34) (st.InQuoted, act.Skip) (in_field default_config c) (λ e. cc e) (in_field-between c)

start_record-between : (c : ℕ) → EndsBetween (start_record default_config c)
start_record-between c = choice (ends_with term.CRLF c) (st.StartRecord, act.Skip) (start_field default_config c) (λ e. refl) (start_field-between c)

step-between : (s : State) (c : ℕ) → EndsBetween (step default_config s c)
step-between st.StartRecord c = start_record-between c
step-between st.StartField c = start_field-between c
step-between st.InField c = in_field-between c
step-between st.InQuoted c = choice (c == 34) (st.AfterQuote, act.Skip) (st.InQuoted, act.Copy) (λ e. cc e) (λ e. cc e)
step-between st.InEscape c = λ e. cc e
step-between st.AfterQuote c = choice (c == 34) (st.InQuoted, act.Copy) (in_field default_config c) (λ e. cc e) (in_field-between c)
step-between st.InComment c = choice (c == 10) (st.StartRecord, act.Skip) (st.InComment, act.Skip) (λ e. cc e) (λ e. cc e)
step-between st.AfterCr c = choice (c == 10) (st.StartRecord, act.Skip) (start_record default_config c) (λ e. cc e) (start_record-between c)

-- a record leaves a state between records and no more bytes; one that is begun between records takes a byte
record Shrinks (s : State) (text : List ℕ) (q : Read) : Type 0 where
  between : ends_at_end q.1 ≡ false
  fewer : length q.2 ≤ length text
  less : ends_at_end s ≡ false → length q.2 < length text

shrinks-same : (s : State) (text : List ℕ) (p q : Read) → Some p ≡ Some q → Shrinks s text p → Shrinks s text q
shrinks-same s text p q e h = let same : p ≡ q = cc e in let P : Read → Type 0 = λ r. Shrinks s text r in subst P same h

next-shrinks : (s : State) (fields : List (List ℕ)) (field text : List ℕ) (q : Read) → next_record default_config s fields field text ≡ Some q → Shrinks s text q
unfolding next_record
next-shrinks s fields field [] q e = by (ends_at_end s) refl
  where
    by : (b : Bool) → ends_at_end s ≡ b → Shrinks s [] q
    by true h =
        shrinks-same s [] (fields ++ (field ∷ []), st.StartRecord, []) q (rw h at e)
        (record { between = refl; fewer = omega arith; less = λ f. let no : true ≡ false = sym h ∙ f in cc no })
    by false h = cc (rw h at e)
next-shrinks s fields field (c ∷ rest) q e =
    by (is_end (step default_config s c).1) refl
    (next-shrinks (step default_config s c).0 (fields_after (step default_config s c).1 fields field) (field_after (step default_config s c).1 c field) rest q)
  where
    by : (b : Bool) → is_end (step default_config s c).1 ≡ b
        → (next_record default_config (step default_config s c).0 (fields_after (step default_config s c).1 fields field) (field_after (step default_config s c).1 c field) rest ≡ Some q → Shrinks (step default_config s c).0 rest q)
        → Shrinks s (c ∷ rest) q
    by true h more =
        shrinks-same s (c ∷ rest) (fields_after (step default_config s c).1 fields field, (step default_config s c).0, rest) q (rw h at e)
        (record { between = step-between s c h; fewer = omega arith; less = λ f. omega arith })
    by false h more =
        let k = more (rw h at e) in
        let fewer : length q.2 ≤ length rest = k.fewer in
        record { between = k.between; fewer = omega arith; less = λ f. omega arith }

-- fuel above the number of bytes makes no difference
records_from-fuel : (n m : ℕ) (s : State) (text : List ℕ) → ends_at_end s ≡ false → length text < n → length text < m
    → records_from default_config n s text ≡ records_from default_config m s text
unfolding records_from
records_from-fuel zero m s text b h g = absurd (omega arith)
records_from-fuel (suc n) zero s text b h g = absurd (omega arith)
records_from-fuel (suc n) (suc m) s text b h g = by (next_record default_config s [] [] text) refl (records_from-fuel n m)
  where
    by : (o : Option Read) → next_record default_config s [] [] text ≡ o
        → ((t : State) (rest : List ℕ) → ends_at_end t ≡ false → length rest < n → length rest < m → records_from default_config n t rest ≡ records_from default_config m t rest)
        → records_next (records_from default_config n) (next_record default_config s [] [] text) ≡ records_next (records_from default_config m) (next_record default_config s [] [] text)
    by None e more = rw e refl
    by (Some p) e more =
        let k = next-shrinks s [] [] text p e in
        let less : length p.2 < length text = k.less b in
        rw e (ap (λ (rs : List FileRecord). p.0 ∷ rs) (more p.1 p.2 k.between (omega arith) (omega arith)))

rest_of-step : (s : State) (text : List ℕ) → rest_of s text ≡ records_next (records_from default_config (length text)) (next_record default_config s [] [] text)
unfolding rest_of records_from
rest_of-step s text = rw add-one refl

-- a record, and then the rest
pub rest-more : (s : State) (text : List ℕ) (p : Read) → ends_at_end s ≡ false → next_record default_config s [] [] text ≡ Some p
    → rest_of s text ≡ p.0 ∷ rest_of p.1 p.2
unfolding rest_of
rest-more s text p b e =
    let k = next-shrinks s [] [] text p e in
    let less : length p.2 < length text = k.less b in
    rest_of-step s text ∙ rw e (ap (λ (rs : List FileRecord). p.0 ∷ rs) (records_from-fuel (length text) (length p.2 + 1) p.1 p.2 k.between (omega arith) (omega arith)))

-- the same, with the parts of what was read by name
rest-read : (s t : State) (text rest : List ℕ) (p : Read) (fields : FileRecord) → ends_at_end s ≡ false → next_record default_config s [] [] text ≡ Some p
    → fields ≡ p.0 → p.1 ≡ t → p.2 ≡ rest → rest_of s text ≡ fields ∷ rest_of t rest
rest-read s t text rest p fields b e f g h = rest-more s text p b e ∙ rw (f, ← g, ← h) refl

pub rest-end : (s : State) (text : List ℕ) → next_record default_config s [] [] text ≡ None → rest_of s text ≡ []
rest-end s text e = rest_of-step s text ∙ rw e refl

-- a text has no more records than bytes
records_from-few : (n : ℕ) (s : State) (text : List ℕ) → ends_at_end s ≡ false → length (records_from default_config n s text) ≤ length text
unfolding records_from
records_from-few zero s text b = omega arith
records_from-few (suc n) s text b = by (next_record default_config s [] [] text) refl (records_from-few n)
  where
    by : (o : Option Read) → next_record default_config s [] [] text ≡ o
        → ((t : State) (rest : List ℕ) → ends_at_end t ≡ false → length (records_from default_config n t rest) ≤ length rest)
        → length (records_next (records_from default_config n) (next_record default_config s [] [] text)) ≤ length text
    by None e more = rw e (omega arith)
    by (Some p) e more =
        let k = next-shrinks s [] [] text p e in
        let less : length p.2 < length text = k.less b in
        let few = more p.1 p.2 k.between in
        rw e (omega arith)

strip_bom-few : (bytes : List ℕ) → length (strip_bom bytes) ≤ length bytes
unfolding strip_bom
strip_bom-few [] = omega arith
strip_bom-few (a ∷ []) = omega arith
strip_bom-few (a ∷ b ∷ []) = omega arith
strip_bom-few (a ∷ b ∷ c ∷ rest) = by (is_bom a b c)
  where
    by : (t : Bool) → length (if t then rest else a ∷ b ∷ c ∷ rest) ≤ length (a ∷ b ∷ c ∷ rest)
    by true = omega arith
    by false = omega arith

-- a file has no more records than bytes
pub records_of-few : (bytes : List ℕ) → length (records_of bytes) ≤ length bytes
unfolding records_of
records_of-few bytes =
    let few = records_from-few (length (strip_bom bytes) + 1) st.StartRecord (strip_bom bytes) refl in
    let fewer = strip_bom-few bytes in
    omega arith

-- what is left at the start of a file, where the bytes are told
pub left_by-start : (done : Bool) (s : State) (source : Option (List ℕ)) (bytes : List ℕ) → done ≡ false → s ≡ st.StartRecord → source ≡ Some (strip_bom bytes)
    → left_by done s source ≡ records_of bytes
unfolding left_by records_of rest_of
left_by-start done s source bytes d e h = rw (d, e, h) refl

-- nothing is left once a reader is done
pub left_by-done : (done : Bool) (s : State) (source : Option (List ℕ)) → done ≡ true → left_by done s source ≡ []
unfolding left_by
left_by-done done s source d = rw d refl

left_by-told : (done : Bool) (s : State) (source : Option (List ℕ)) (text : List ℕ) → done ≡ false → source ≡ Some text → left_by done s source ≡ rest_of s text
unfolding left_by
left_by-told done s source text d e = rw (d, e) refl

-- what a read that found a record leaves
pub record Found {R : Type 0} (rem : R → Option (List ℕ)) (a b : Reader R) (fields : FileRecord) : Type 0 where
  pub left : (done : Bool) → done ≡ false → left_by done (reader_state a) (source_of rem a) ≡ fields ∷ left_by done (reader_state b) (source_of rem b)
  pub reading : IsReading rem b

pub read-found : {R : Type 0} (rem : R → Option (List ℕ)) (a b : Reader R) (fields : FileRecord) → IsReading rem a → ReadRecord rem a b true fields
    → has_failed b ≡ has_failed a → is_flexible b ≡ is_flexible a → ReadsOn a b → Found rem a b fields
unfolding Reached
read-found rem a b fields h r goes flexible on =
    let g = rows-more rem a b fields default_config (reader_state a) h.told.0 h.told.0 [] h.commas h.told.1 (refl, refl) r in
    let p = g.2.0 in
    let k = next-shrinks (reader_state a) [] [] h.told.0 p g.2.1 in
    let state : p.1 ≡ reader_state b = g.2.3.0 in
    record {
      left = λ done d.
          left_by-told done (reader_state a) (source_of rem a) h.told.0 d h.told.1
          ∙ rest-read (reader_state a) (reader_state b) h.told.0 g.0 p fields h.between g.2.1 g.2.2 g.2.3.0 g.2.3.1
          ∙ ap (λ (rs : List FileRecord). fields ∷ rs) (sym (left_by-told done (reader_state b) (source_of rem b) g.0 d g.1));
      reading = record {
        going = goes ∙ h.going;
        commas = on.0 ∙ h.commas;
        untrimmed = on.1 ∙ h.untrimmed;
        any_length = flexible ∙ h.any_length;
        ready = (on.4 h.ready).0;
        between = rw state at k.between;
        told = (g.0, g.1);
      };
    }

-- what a read that found none says
pub read-none : {R : Type 0} (rem : R → Option (List ℕ)) (a b : Reader R) (fields : FileRecord) → IsReading rem a → ReadRecord rem a b false fields
    → (done : Bool) → done ≡ false → left_by done (reader_state a) (source_of rem a) ≡ []
read-none rem a b fields h r done d =
    left_by-told done (reader_state a) (source_of rem a) h.told.0 d h.told.1
    ∙ rest-end (reader_state a) h.told.0 (rows-end rem a b fields default_config h.told.0 h.commas h.told.1 r)
