-- The numbers that the head of a log says, each in one record.
use Rattle.std.specs.Prelude.{ℕ, ◌≤◌, List, Option, Some, None, codes, if◌then◌else◌}
use Rattle.std.specs.Str.{bytes_eq}
use Rattle.fr_log.specs.declared.rows.HeadNumber.{HeadNumber}
use Rattle.fr_log.specs.declared.rows.HeadNumber.TheVariants as head

-- the number that a kind of record says, if it is one of these
abbrev pub head_number_of : List ℕ → Option HeadNumber
head_number_of kind =
    if bytes_eq kind (codes "unit") then Some head.Unit
    else if bytes_eq kind (codes "drift") then Some head.Drift
    else if bytes_eq kind (codes "error") then Some head.Error
    else if bytes_eq kind (codes "jitter") then Some head.Jitter
    else if bytes_eq kind (codes "since") then Some head.Since
    else if bytes_eq kind (codes "flutter") then Some head.Flutter
    else if bytes_eq kind (codes "lost") then Some head.Lost
    else None

-- the greatest number of ticks that one of them says
abbrev pub most_head_ticks : ℕ
most_head_ticks = 1_000_000_000

-- the least and the greatest that it may be
abbrev pub least_number : HeadNumber → ℕ
least_number head.Unit = 1
least_number head.Drift = 0
least_number head.Error = 0
least_number head.Jitter = 0
least_number head.Since = 0
least_number head.Flutter = 0
least_number head.Lost = 0

abbrev pub greatest_number : HeadNumber → ℕ
greatest_number head.Unit = most_head_ticks
greatest_number head.Drift = 1000
greatest_number head.Error = most_head_ticks
greatest_number head.Jitter = most_head_ticks
greatest_number head.Since = 199_998
greatest_number head.Flutter = most_head_ticks
greatest_number head.Lost = 14

pub record IsHeadNumber (name : HeadNumber) (number : ℕ) : Type 0 where
  pub from : least_number name ≤ number
  pub to : number ≤ greatest_number name

-- its place in a table of these numbers
abbrev pub head_place : HeadNumber → ℕ
head_place head.Unit = 0
head_place head.Drift = 1
head_place head.Error = 2
head_place head.Jitter = 3
head_place head.Since = 4
head_place head.Flutter = 5
head_place head.Lost = 6
