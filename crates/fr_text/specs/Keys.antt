-- What a table that lists its entries has under a key.
use Rattle.std.specs.Prelude.{List, Option}
use Rattle.std.specs.declared.cmp.Ordering.{Ordering}
use Rattle.std.specs.BTreeMap.{is_at}
use Rattle.std.specs.Map.{lookup}

-- what stands under a key
abbrev pub found_at : {K V : Type 0} → (K → K → Ordering) → List (K × V) → K → Option V
found_at cmp rows key = lookup (is_at (cmp key)) rows
