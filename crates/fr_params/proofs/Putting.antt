-- The text of records, part by part.
use Rattle.std.proofs.Common.{◌≡◌, ◌+◌, ◌<◌, ◌≤◌, ℕ, List, [], ◌∷◌, ◌++◌, map, length, drop, Some, refl, ap, sym, ◌∙◌, append_assoc}
use Rattle.std.specs.Prelude.{get_or, slice_get}
use Rattle.std.proofs.lemmas.List.{drop_all, drop_more}
use Rattle.std.proofs.lemmas.Option.{get_or_from_slice_get}
use Rattle.fr_text.specs.Records.{FileRecord}
use Rattle.fr_cluster.specs.Values.{Values}
use Rattle.fr_params.specs.declared.names.TheConstants.{NAMES_OF_TWO}
use Rattle.fr_text.specs.Texts.{line_of_record, text_of_records}
use Rattle.fr_params.specs.Texts.{node_record, param_record, slot_record, upgraded_text, version_record}

text-append : (xs ys : List FileRecord) → text_of_records (xs ++ ys) ≡ text_of_records xs ++ text_of_records ys
text-append [] ys = refl
text-append (x ∷ xs) ys =
    ap (λ (text : List ℕ). line_of_record x ++ text) (text-append xs ys) ∙ sym (append_assoc (line_of_record x) (text_of_records xs) (text_of_records ys))

-- the version, the values, the nodes, the further slots
pub whole-text : (p : Values)
    → line_of_record version_record ++ (text_of_records (map (param_record p) NAMES_OF_TWO) ++ (text_of_records (map node_record p.nodes) ++ text_of_records (map slot_record p.slots))) ≡ upgraded_text p
unfolding upgraded_text
whole-text p =
    let values = map (param_record p) NAMES_OF_TWO in
    let nodes = map node_record p.nodes in
    let slots = map slot_record p.slots in
    sym (ap (λ (text : List ℕ). line_of_record version_record ++ text)
    (text-append values (nodes ++ slots) ∙ ap (λ (text : List ℕ). text_of_records values ++ text) (text-append nodes slots)))

-- one more of them, from a place on
pub text-from : {X : Type 0} (record_of : X → FileRecord) (xs : List X) (place : ℕ) (x : X) → place < length xs → slice_get xs place ≡ Some x
    → line_of_record (record_of x) ++ text_of_records (map record_of (drop (place + 1) xs)) ≡ text_of_records (map record_of (drop place xs))
text-from {X} record_of xs place x lt is =
    let at : get_or xs place x ≡ x = get_or_from_slice_get xs place x x is in
    ap (λ (ys : List X). text_of_records (map record_of ys)) (sym (drop_more xs place x lt ∙ (λ i. at i ∷ drop (place + 1) xs)))

-- and none past the end
pub text-past : {X : Type 0} (record_of : X → FileRecord) (xs : List X) (place : ℕ) → length xs ≤ place → text_of_records (map record_of (drop place xs)) ≡ []
text-past {X} record_of xs place past = ap (λ (ys : List X). text_of_records (map record_of ys)) (drop_all place xs past)
