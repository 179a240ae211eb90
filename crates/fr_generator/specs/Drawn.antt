-- What the words of a seed draw.
use Rattle.std.specs.Prelude.{ℕ, zero, suc, List, [], ◌∷◌}
use Rattle.rand_pcg.specs.Lcg.{Lcg, increment_of, started}
use Rattle.rand_pcg.specs.Pcg.{multiplier_64, pcg32}
use Rattle.fr_text.specs.Records.{FileRecord}

-- the words of a seed: those of PCG's generator of 32-bit words at that state, on the stream 0
abbrev pub first_words : ℕ → Lcg
first_words seed = started 64 multiplier_64 seed (increment_of 64 0)

-- a draw is the next of the words, and behind it come the rest
abbrev pub draw : Lcg → ℕ
draw words = (pcg32 words).0

abbrev pub rest : Lcg → Lcg
rest words = (pcg32 words).1

-- the first draws of some words
unfoldable pub draws : ℕ → Lcg → List ℕ
draws zero words = []
draws (suc n) words = draw words ∷ draws n (rest words)

-- the records that were made so far, and the words that are left
pub record Drawn : Type 0 where
  pub records : List FileRecord
  pub words : Lcg

abbrev pub drawn_from : List FileRecord → Lcg → Drawn
drawn_from records words = record { records = records; words = words }

-- the first steps of some, one after the other, each by its place from 0
unfoldable pub in_turn : (ℕ → Drawn → Drawn) → ℕ → Drawn → Drawn
in_turn step zero drawn = drawn
in_turn step (suc place) drawn = step place (in_turn step place drawn)
