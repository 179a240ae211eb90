-- What the rows of a script do to frames, looked up by passage.
use Rattle.std.specs.Prelude.{ℕ, ◌≡◌, ◌<◌, ◌≤◌, Bool, true, false, List, length, slice_index_or, Option, Some, None, if◌then◌else◌}
use Rattle.std.specs.declared.cmp.Ordering.{Ordering}
use Rattle.std.specs.Ordering.{nat_cmp, ordering_then}
use Rattle.std.specs.BTreeMap.{is_at}
use Rattle.std.specs.FinMap as map
use Rattle.std.specs.Map.{lookup, keys_of}
use Rattle.std.specs.List.Sorted.{IsStrictlySortedBy}
use Rattle.fr_script.specs.declared.deeds.Passage.{Passage}
use Rattle.fr_script.specs.declared.deed.Deed.{Deed}

-- passages in the order in which contracts see them: by sender, then by receiver, then by cycle; it is not that of the
-- type `Passage` itself
abbrev pub passage_cmp : Passage → Passage → Ordering
passage_cmp a b = ordering_then (nat_cmp a.sender b.sender) (ordering_then (nat_cmp a.receiver b.receiver) (nat_cmp a.cycle b.cycle))

-- passages in the order of the type `Passage`, that of its fields, in which the map of a table has them: by sender, then
-- by cycle, then by receiver
abbrev pub asked_cmp : Passage → Passage → Ordering
asked_cmp a b = ordering_then (nat_cmp a.sender b.sender) (ordering_then (nat_cmp a.cycle b.cycle) (nat_cmp a.receiver b.receiver))

-- deeds that stand in any order, in the order of their passages
unfoldable pub in_order : List (Passage × Deed) → List (Passage × Deed)
in_order deeds = map.entries (map.from_entries {R = passage_cmp} deeds)

abbrev pub passage_of : ℕ → ℕ → ℕ → Passage
passage_of sender receiver cycle = record { sender = sender; receiver = receiver; cycle = cycle }

-- what a table of deeds has at a passage
unfoldable pub deed_in : List (Passage × Deed) → Passage → Option Deed
deed_in deeds passage = lookup (is_at (passage_cmp passage)) deeds

-- the passages stand in order, none of them twice
unfoldable pub DeedsAscend : List (Passage × Deed) → Type 0
DeedsAscend deeds = IsStrictlySortedBy passage_cmp (keys_of deeds)

-- a sender whose number is not marked has no deed
pub record MarksSenders (marks : List Bool) (deeds : List (Passage × Deed)) : Type 0 where
  pub long : length marks ≡ 65
  pub silent : (passage : Passage) → slice_index_or marks passage.sender true ≡ false → deed_in deeds passage ≡ None

-- a sender has no deed
abbrev pub HasNoDeed : List (Passage × Deed) → ℕ → Type 0
HasNoDeed deeds sender = (receiver cycle : ℕ) → deed_in deeds (passage_of sender receiver cycle) ≡ None

-- no deed of a pair of nodes lies from one cycle on and before another
abbrev pub IsQuiet : List (Passage × Deed) → ℕ → ℕ → ℕ → ℕ → Type 0
IsQuiet deeds sender receiver from to = (cycle : ℕ) → from ≤ cycle → cycle < to → deed_in deeds (passage_of sender receiver cycle) ≡ None

-- a deed is put under its passage, and all else stays
abbrev pub IsDeedPut : List (Passage × Deed) → List (Passage × Deed) → Passage → Deed → Type 0
IsDeedPut old new passage deed = (q : Passage) → deed_in new q ≡ (if is_at (passage_cmp passage) q then Some deed else deed_in old q)

-- the first cycle from one cycle on and before an end that has something, or the end
pub record IsNextCycle (IsQuietIn StandsIn : ℕ → Type 0) (cycle end found : ℕ) : Type 0 where
  pub from : cycle ≤ found
  pub to : found ≤ end
  pub quiet : (c : ℕ) → cycle ≤ c → c < found → IsQuietIn c
  pub stands : found < end → StandsIn found
