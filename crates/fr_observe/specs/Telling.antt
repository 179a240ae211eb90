-- Contradictions as they are told, one after the other.
use Rattle.std.specs.Prelude.{◌≡◌, ◌≤◌, ℕ, ◌+◌, ◌*◌, ℤ, List, ◌++◌, Option, Result, OnOk}
use Rattle.std.specs.List.{flat_map}
use Rattle.std.specs.Option.{option_or, option_to_list}
use Rattle.fr_base.specs.Device.{Puts, Sunk}
use Rattle.fr_base.specs.declared.sink.PutFault.{PutFault}
use Rattle.fr_cluster.specs.Values.{Values}
use Rattle.fr_log.specs.View.{LogView}
use Rattle.fr_course.specs.Spread.{lengths_apart, starts_apart}
use Rattle.fr_course.specs.Scales.{Scale}
use Rattle.fr_sightings.specs.declared.sender.Sender.{Sender}
use Rattle.fr_observe.specs.Faults.{beyond_fault, correction_fault, fault_row, first_of_faults, length_beyond, offset_fault, rate_fault, skew_fault}
use Rattle.fr_observe.specs.Observing.{courses_of, even_high, even_low, odd_high, odd_low}
use Rattle.fr_observe.specs.declared.fault.Fault.{Fault}
use Rattle.fr_observe.specs.declared.apart_faults.Apart.TheVariants.{Lengths, Starts}
use Rattle.fr_observe.specs.declared.sender_faults.Asked.{Asked}
use Rattle.fr_observe.specs.declared.sender_faults.Asked.TheVariants as asked
use Rattle.fr_observe.specs.declared.term.Term.TheVariants as term

-- the rows of some were put, and the first one of all that were told is kept
pub record TellsFaults (result : Result (Unit {0}) PutFault) (before now : Sunk) (earlier kept : Option Fault) (faults : List Fault) : Type 0 where
  pub puts : Puts result before now (flat_map fault_row faults)
  pub first : OnOk result (kept ≡ option_or earlier (first_of_faults faults))

-- what is asked of a sender
abbrev pub sender_fault : Asked → Values → LogView → Scale → ℕ → List Sender → Sender → Option Fault
sender_fault asked.Correction p l scale double senders s = correction_fault p scale double s
sender_fault (asked.Length beyond) p l scale double senders s = length_beyond p scale beyond double s
sender_fault (asked.Term term.Offset lost) p l scale double senders s = offset_fault p l scale double senders lost s
sender_fault (asked.Term term.Rate lost) p l scale double senders s = rate_fault p l scale double senders lost s

-- so many senders may have been missed at most
abbrev pub IsFewAsked : Asked → Type 0
IsFewAsked asked.Correction = Unit {0}
IsFewAsked (asked.Length beyond) = Unit {0}
IsFewAsked (asked.Term what lost) = lost ≤ 64

-- both skews of a double cycle were certainly greater than a bound
abbrev pub skew_faults : ℤ → Scale → ℕ → List Sender → List Fault
skew_faults bound scale double senders =
    option_to_list (skew_fault bound (2 * double) (even_low scale senders) (even_high scale senders))
    ++ option_to_list (skew_fault bound (2 * double + 1) (odd_low scale senders) (odd_high scale senders))

-- its starts, or its lengths, lay further apart than a bound
abbrev pub apart_faults : ℤ → ℤ → Scale → ℕ → List Sender → List Fault
apart_faults starts lengths scale double senders =
    option_to_list (beyond_fault Starts (2 * double) starts (starts_apart scale (courses_of senders)))
    ++ option_to_list (beyond_fault Lengths (2 * double) lengths (lengths_apart scale (courses_of senders)))
