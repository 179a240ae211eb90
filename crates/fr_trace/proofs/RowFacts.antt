-- What a record of eight fields says.
use Rattle.std.proofs.Common.{◌≡◌, ℕ, List, ◌∷◌, [], length, true, codes, refl, ap, sym, arith}
use Rattle.std.specs.Str.{bytes_eq}
use Rattle.std.proofs.lemmas.Slice.Eq.{bytes_eq-Decides}
use Rattle.fr_text.specs.Fields.{field_of}
use Rattle.fr_text.specs.Records.{FileRecord}
use Rattle.fr_trace.specs.Rows.{heard_fields, trace_row_of}

-- it is the list of what stands at each of its places
pub eight-fields : (r : FileRecord) → length r ≡ 8 → r ≡ field_of r 0 ∷ field_of r 1 ∷ field_of r 2 ∷ field_of r 3 ∷ field_of r 4 ∷ field_of r 5 ∷ field_of r 6 ∷ field_of r 7 ∷ []
eight-fields [] is = absurd (omega arith)
eight-fields (a ∷ []) is = absurd (omega arith)
eight-fields (a ∷ b ∷ []) is = absurd (omega arith)
eight-fields (a ∷ b ∷ c ∷ []) is = absurd (omega arith)
eight-fields (a ∷ b ∷ c ∷ d ∷ []) is = absurd (omega arith)
eight-fields (a ∷ b ∷ c ∷ d ∷ e ∷ []) is = absurd (omega arith)
eight-fields (a ∷ b ∷ c ∷ d ∷ e ∷ f ∷ []) is = absurd (omega arith)
eight-fields (a ∷ b ∷ c ∷ d ∷ e ∷ f ∷ g ∷ []) is = absurd (omega arith)
eight-fields (a ∷ b ∷ c ∷ d ∷ e ∷ f ∷ g ∷ h ∷ []) is = refl
eight-fields (a ∷ b ∷ c ∷ d ∷ e ∷ f ∷ g ∷ h ∷ i ∷ rest) is = absurd (omega arith)

-- one of the form of a deviation
pub row_of-heard : (k a b c d e f g : List ℕ) → bytes_eq k (codes "dev") ≡ true → heard_fields a b c d e f g ≡ trace_row_of (k ∷ a ∷ b ∷ c ∷ d ∷ e ∷ f ∷ g ∷ [])
unfolding trace_row_of
row_of-heard k a b c d e f g is =
    let dev : k ≡ codes "dev" = (bytes_eq-Decides k (codes "dev")).0 is in
    ap (λ (kind : List ℕ). trace_row_of (kind ∷ a ∷ b ∷ c ∷ d ∷ e ∷ f ∷ g ∷ [])) (sym dev)
