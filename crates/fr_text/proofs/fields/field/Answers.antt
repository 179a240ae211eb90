use Rattle.std.proofs.Common.{◌≡◌, List, ℕ, Option, Some, None, sym, refl, Bor, length, ◌<◌}
use Rattle.std.specs.Prelude.{IsSome, option_map}
use Rattle.csv.specs.Records.{fields_of, field_at}
use Rattle.csv.proofs.RecordFacts.{field-there, field-get}
use Rattle.fr_text.proofs.fields.field.Goals as goal

-- a field that is there
there : (fields : List (List ℕ)) (i : ℕ) (o : Option (Bor (List ℕ))) → i < length fields → option_map (λ (s : Bor (List ℕ)). s.now) o ≡ field_at fields i → IsSome o
there fields i None lt e = absurd (field-there fields i lt (sym e))
there fields i (Some x) lt e = refl

pub unwrap-requires : goal.unwrap-requires
unwrap-requires c = there (fields_of c.args.row.now) c.args.place _ c.requires c.get.ensures.value

pub returns : goal.returns
returns c =
    let found : field_at (fields_of c.args.row.now) c.args.place ≡ Some c.unwrap.result.now = sym (rw c.unwrap.ensures at c.get.ensures.value) in
    sym (field-get (fields_of c.args.row.now) c.args.place c.unwrap.result.now found)
