-- What contracts see of a script.
use Rattle.std.specs.Prelude.{ℕ, ◌≡◌, ◌⊎◌, Bool, false, List, length, Option, None, IsSome, IfSome, slice_index_or}
use Rattle.fr_base.specs.declared.channel.Channel.{Channel}
use Rattle.fr_base.specs.declared.channel.Channel.TheVariants as channel
use Rattle.fr_cluster.specs.declared.join.Join.{Join}
use Rattle.fr_script.specs.Deeds.{deed_in, passage_of, DeedsAscend, IsNextCycle}
use Rattle.fr_script.specs.Deed.{IsProperDeed}
use Rattle.fr_script.specs.declared.deeds.Passage.{Passage}
use Rattle.fr_script.specs.declared.deed.Deed.{Deed}

-- whether the node of each number is arbitrary, how it joins the running cluster, and the deeds of each channel in ascending
-- order
pub record ScriptView : Type 0 where
  pub arbitrary : List Bool
  pub joins : List (Option Join)
  pub on_a : List (Passage × Deed)
  pub on_b : List (Passage × Deed)

-- whether the script names a node arbitrary
unfoldable pub is_arbitrary : ScriptView → ℕ → Bool
is_arbitrary s node = slice_index_or s.arbitrary node false

-- how a node joins the running cluster, if the script says so
unfoldable pub join_of : ScriptView → ℕ → Option Join
join_of s node = slice_index_or s.joins node None

-- the deeds of a channel
abbrev pub deeds_on : ScriptView → Channel → List (Passage × Deed)
deeds_on s channel.A = s.on_a
deeds_on s channel.B = s.on_b

-- what the script does to the frames of a passage on a channel
unfoldable pub deed_of : ScriptView → ℕ → ℕ → ℕ → Channel → Option Deed
deed_of s cycle sender receiver ch = deed_in (deeds_on s ch) (passage_of sender receiver cycle)

-- the first cycle from one cycle on and before an end in which anything is done to the frames of a pair of nodes, or the end
abbrev pub IsNextAct : ScriptView → ℕ → ℕ → ℕ → ℕ → ℕ → Type 0
IsNextAct s sender receiver =
    IsNextCycle (λ c. (ch : Channel) → deed_of s c sender receiver ch ≡ None)
    (λ c. IsSome (deed_of s c sender receiver channel.A) ⊎ IsSome (deed_of s c sender receiver channel.B))

-- the deeds of a channel stand in order, and their numbers lie in their ranges
pub record AreDeeds (deeds : List (Passage × Deed)) : Type 0 where
  pub ascending : DeedsAscend deeds
  pub proper : (passage : Passage) → IfSome (deed_in deeds passage) IsProperDeed

-- what holds of every script
pub record IsScript (s : ScriptView) : Type 0 where
  pub long : length s.arbitrary ≡ 65
  pub joins_long : length s.joins ≡ 65
  pub deeds_a : AreDeeds s.on_a
  pub deeds_b : AreDeeds s.on_b
