-- How many cycles of a log say what, and what became of its entries.
use Rattle.std.specs.Prelude.{ℕ, ◌+◌, ◌-◌, ◌*◌, ◌≤◌, Bool, true, false, List, [], ◌∷◌, codes, length, Option, slice_get}
use Rattle.std.specs.Fmt.{decimal}
use Rattle.std.specs.List.{count_by}
use Rattle.std.specs.Option.{option_map}
use Rattle.fr_findings.specs.declared.counts.Counts.{Counts}
use Rattle.fr_observe.specs.Observing.{known_count, row}
use Rattle.fr_observe.specs.declared.says.Says.{Says}
use Rattle.fr_observe.specs.declared.says.Says.TheVariants.{Over, Within, Open}
use Rattle.fr_sightings.specs.Senders.{double_of}
use Rattle.fr_sightings.specs.declared.sighting.Sighting.{Sighting}
use Rattle.fr_sightings.specs.declared.sighting.Tally.{Tally}

-- ---- what cycles say

abbrev pub is_within : Says → Bool
is_within Within = true
is_within Over = false
is_within Open = false

abbrev pub is_over : Says → Bool
is_over Over = true
is_over Within = false
is_over Open = false

abbrev pub is_open : Says → Bool
is_open Open = true
is_open Within = false
is_open Over = false

-- how many there are of each, beside others
abbrev pub counted : Counts → List Says → Counts
counted counts said =
    record {
      within = counts.within + count_by is_within said;
      over = counts.over + count_by is_over said;
      neither = counts.neither + count_by is_open said;
    }

abbrev pub no_cycles_told : Counts
no_cycles_told = record { within = 0; over = 0; neither = 0 }

-- so many cycles are counted at most where one more is
abbrev pub most_counted : ℕ
most_counted = 1_000_000

-- no count passes a number
pub record AreFewCycles (most : ℕ) (counts : Counts) : Type 0 where
  pub within : counts.within ≤ most
  pub over : counts.over ≤ most
  pub neither : counts.neither ≤ most

-- ---- as records

-- what became of its entries
abbrev pub log_row : Tally → List ℕ
log_row t =
    row (codes "log")
    (
    decimal t.judged ∷ decimal t.damaged ∷ decimal t.arbitrary ∷ decimal t.other ∷ decimal t.stray ∷ decimal t.behind ∷ [] ∷ []
    )

-- the first and the last of its cycles that have rows, and how many of them say what
abbrev pub first_row_cycle : List Sighting → Option ℕ
first_row_cycle seen = option_map (λ s. 2 * double_of s) (slice_get seen 0)

abbrev pub last_row_cycle : List Sighting → Option ℕ
last_row_cycle seen = option_map (λ s. 2 * double_of s + 1) (slice_get seen (length seen - 1))

abbrev pub cycles_told : List Sighting → Counts → List ℕ
cycles_told seen counts =
    row (codes "cycles")
    (
    known_count (first_row_cycle seen) ∷ known_count (last_row_cycle seen)
    ∷ decimal counts.within ∷ decimal counts.over ∷ decimal counts.neither ∷ [] ∷ [] ∷ []
    )
