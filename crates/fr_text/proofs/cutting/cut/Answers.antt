use Rattle.std.proofs.Common.{◌≡◌, ◌∙◌, ◌+◌, ◌-◌, ap, sym, ℕ, List, [], ◌∷◌, ◌++◌, Bor, arith, drop, length, take}
use Rattle.std.specs.List.{list_all}
use Rattle.std.proofs.lemmas.List.{map-append, take_rest}
use Rattle.fr_text.specs.Plain.{bytes_of}
use Rattle.fr_text.specs.Texts.{is_plain_field, with_commas}
use Rattle.fr_text.proofs.LineCuts.{byte-at, cut-last, cut-more, end-at, ended, field-more, no-field, plain-more}
use Rattle.fr_text.proofs.cutting.cut.Goals as goal

pub bytes-preserved-then-byte-gt44 : goal.bytes-preserved-then-byte-gt44
bytes-preserved-then-byte-gt44 c = record {
  begun = omega (arith, c.bytes.invariant.begun);
  within = omega (arith, c.bytes-test.true);
  front = c.bytes.invariant.front;
  plain = c.bytes.invariant.plain;
  field = field-more c.args.text.now c.bytes.start c.bytes.place c.bytes.invariant.begun c.bytes-test.true c.if-byte-gt44.true c.bytes.invariant.field;
}

pub bytes-preserved : goal.bytes-preserved
bytes-preserved c =
    let text : List ℕ = c.args.text.now in
    let start : ℕ = c.bytes.start in
    let place : ℕ = c.bytes.place in
    let front : List ℕ = take (place - start) (drop start text) in
    let behind : List ℕ = drop (place + 1) text in
    let old : List (List ℕ) = bytes_of c.bytes.fields.items in
    let now : bytes_of c.push.new.self.items ≡ old ++ front ∷ [] =
    ap bytes_of c.in_ok-push.ensures.items ∙ map-append (λ (field : Bor (List ℕ)). field.now) c.bytes.fields.items _
    in
    let parts : drop start text ≡ front ++ 44 ∷ behind =
    byte-at text start place c.bytes.invariant.begun c.bytes-test.true ∙ ap (λ (b : ℕ). front ++ b ∷ behind) c.if-byte-ne44.false
    in record {
      begun = omega arith;
      within = omega (arith, c.bytes-test.true);
      front = cut-more text (drop start text) front behind old c.bytes.invariant.front parts ∙ ap (λ (fields : List (List ℕ)). ended fields ++ behind) (sym now);
      plain = ap (list_all is_plain_field) now ∙ plain-more old front c.bytes.invariant.plain c.bytes.invariant.field;
      field = no-field text (place + 1);
    }

pub returns-then-byte-eq10 : goal.returns-then-byte-eq10
returns-then-byte-eq10 c =
    let text : List ℕ = c.args.text.now in
    let start : ℕ = c.bytes.start in
    let place : ℕ = c.bytes.place in
    let front : List ℕ = take (place - start) (drop start text) in
    let behind : List ℕ = drop (place + 1) text in
    let rest : List ℕ = take (length text - place) (drop place text) in
    let old : List (List ℕ) = bytes_of c.bytes.fields.items in
    let now : bytes_of c.push.new.self.items ≡ old ++ front ∷ [] =
    ap bytes_of c.in_ok-push.ensures.items ∙ map-append (λ (field : Bor (List ℕ)). field.now) c.bytes.fields.items _
    in
    let end : rest ≡ 10 ∷ behind = take_rest text place ∙ end-at text place c.bytes-test.true c.if-byte-eq10.true in
    let parts : drop start text ≡ front ++ rest =
    byte-at text start place c.bytes.invariant.begun c.bytes-test.true
    ∙ ap (λ (b : ℕ). front ++ b ∷ behind) c.if-byte-eq10.true
    ∙ ap (λ (xs : List ℕ). front ++ xs) (sym end)
    in record {
      tail = behind;
      end = end;
      line = cut-last text (drop start text) front rest old c.bytes.invariant.front parts ∙ ap (λ (fields : List (List ℕ)). with_commas fields ++ rest) (sym now);
      plain = ap (list_all is_plain_field) now ∙ plain-more old front c.bytes.invariant.plain c.bytes.invariant.field;
    }
