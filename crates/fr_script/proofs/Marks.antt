-- The senders that have a deed are marked.
use Rattle.std.proofs.Common.{◌≡◌, ℕ, ◌<◌, ◌≤◌, Bool, true, false, List, [], length, replicate, Some, None, Result, Ok, Err, inl, inr, ◌⊎◌, refl, ap, sym, ◌∙◌, arith}
use Rattle.std.specs.Prelude.{if◌then◌else◌, slice_index_or, slice_set, OnOk, OnErr}
use Rattle.std.specs.BTreeMap.{is_at}
use Rattle.std.proofs.lemmas.Bool.{cases_Bool, cases_eq}
use Rattle.std.proofs.lemmas.List.{get_or_default, length-replicate, get_or-set_same, get_or-set_other, length-set}
use Rattle.fr_script.specs.Deeds.{deed_in, passage_cmp, MarksSenders}
use Rattle.fr_script.specs.declared.deeds.Passage.{Passage}
use Rattle.fr_script.specs.declared.deed.Deed.{Deed}
use Rattle.fr_script.proofs.Tables.{same-passage}

-- no sender of an empty table has a deed
pub marks-none : MarksSenders (replicate 65 false) []
unfolding deed_in
marks-none = record { long = length-replicate 65 false; silent = λ q unmarked. refl }

-- one of two things holds of an answer
pub ok_or_err : {X Y P Q : Type 0} (r : Result X Y) → OnOk r P → OnErr r Q → P ⊎ Q
ok_or_err (Ok x) here other = inl here
ok_or_err (Err y) here other = inr other

-- a sender is marked, and a deed of it is put
marks-put : (marks : List Bool) (old new : List (Passage × Deed)) (passage : Passage) (deed : Deed) → passage.sender ≤ 64 → MarksSenders marks old
    → ((q : Passage) → deed_in new q ≡ (if is_at (passage_cmp passage) q then Some deed else deed_in old q)) → MarksSenders (slice_set marks passage.sender true) new
marks-put marks old new passage deed low was put = record {
  long = length-set marks passage.sender true ∙ was.long;
  silent = λ q unmarked. put q ∙ by q unmarked (cases_eq q.sender passage.sender);
} where
  room : passage.sender < length marks
  room = omega (arith, was.long)

  other : (q : Passage) → (q.sender ≡ passage.sender → ⊥) → is_at (passage_cmp passage) q ≡ false
  other q differs = elim (cases_Bool (is_at (passage_cmp passage) q)) [
    | inl here ↦ absurd (differs (sym (ap (λ (p : Passage). p.sender) (same-passage passage q here))))
    | inr elsewhere ↦ elsewhere
  ]

  by : (q : Passage) → slice_index_or (slice_set marks passage.sender true) q.sender true ≡ false → (q.sender ≡ passage.sender) ⊎ (q.sender ≡ passage.sender → ⊥)
      → (if is_at (passage_cmp passage) q then Some deed else deed_in old q) ≡ None
  by q unmarked (inl same) =
      let set : slice_index_or (slice_set marks passage.sender true) q.sender true ≡ true = rw same (get_or-set_same marks passage.sender true true room) in
      cc
  by q unmarked (inr differs) =
      rw (other q differs) (was.silent q (sym (get_or-set_other marks passage.sender q.sender true true differs) ∙ unmarked))

-- a sender is marked, and no deed is put
marks-kept : (marks : List Bool) (old new : List (Passage × Deed)) (sender : ℕ) → sender ≤ 64 → MarksSenders marks old → new ≡ old → MarksSenders (slice_set marks sender true) new
marks-kept marks old new sender low was same = record {
  long = length-set marks sender true ∙ was.long;
  silent = λ q unmarked. rw same (by q unmarked (cases_eq q.sender sender));
} where
  room : sender < length marks
  room = omega (arith, was.long)

  by : (q : Passage) → slice_index_or (slice_set marks sender true) q.sender true ≡ false → (q.sender ≡ sender) ⊎ (q.sender ≡ sender → ⊥) → deed_in old q ≡ None
  by q unmarked (inl is) =
      let set : slice_index_or (slice_set marks sender true) q.sender true ≡ true = rw is (get_or-set_same marks sender true true room) in
      cc
  by q unmarked (inr differs) = was.silent q (sym (get_or-set_other marks sender q.sender true true differs) ∙ unmarked)

pub marks-after : (marks : List Bool) (old new : List (Passage × Deed)) (passage : Passage) (deed : Deed) → passage.sender ≤ 64 → MarksSenders marks old
    → ((q : Passage) → deed_in new q ≡ (if is_at (passage_cmp passage) q then Some deed else deed_in old q)) ⊎ (new ≡ old) → MarksSenders (slice_set marks passage.sender true) new
marks-after marks old new passage deed low was (inl put) = marks-put marks old new passage deed low was put
marks-after marks old new passage deed low was (inr same) = marks-kept marks old new passage.sender low was same

-- a sender that is not marked has no deed
pub unmarked : (marks : List Bool) (deeds : List (Passage × Deed)) (q : Passage) (place : ℕ) → MarksSenders marks deeds → place ≡ q.sender → place ≤ 64 → slice_index_or marks place false ≡ false → deed_in deeds q ≡ None
unmarked marks deeds q place h is low none =
    let room : q.sender < length marks = omega (arith, is, low, h.long) in
    h.silent q (get_or_default marks q.sender true false room ∙ ap (λ (k : ℕ). slice_index_or marks k false) (sym is) ∙ none)
