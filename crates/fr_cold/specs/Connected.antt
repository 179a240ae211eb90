-- Which coldstart nodes share no channel.
use Rattle.std.specs.Prelude.{ℕ, ◌≡◌, ◌<◌, ◌≤◌, ◌⊎◌, true, false, Option, Some, None}
use Rattle.fr_cluster.specs.Values.{Values}
use Rattle.fr_cluster.specs.Questions.{is_coldstart}
use Rattle.fr_cold.specs.Cluster.{is_sharing}
use Rattle.fr_cold.specs.StartupLaws.{AreConnected, IsNumber}

-- two coldstart nodes that share no channel, the one with the lesser number first
pub record AreApart (p : Values) (a b : ℕ) : Type 0 where
  pub first : IsNumber a
  pub second : IsNumber b
  pub order : a < b
  pub first_starts : is_coldstart p a ≡ true
  pub second_starts : is_coldstart p b ≡ true
  pub none_shared : is_sharing p a b ≡ false

-- the least such two: no others have a lesser first node, or the same one and a lesser second
pub record AreLeastApart (p : Values) (a b : ℕ) : Type 0 where
  pub apart : AreApart p a b
  pub least : (c d : ℕ) → AreApart p c d → (a < c) ⊎ ((a ≡ c) × (b ≤ d))

-- what is said where two nodes are named, and where none are: then every two coldstart nodes share a channel
abbrev pub IsPairFound : Values → Option (ℕ × ℕ) → Type 0
IsPairFound p None = AreConnected p
IsPairFound p (Some pair) = AreLeastApart p pair.0 pair.1
