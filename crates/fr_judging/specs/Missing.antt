-- How many senders a node must have missed in a double cycle to have computed what was seen of its terms.
use Rattle.std.specs.Prelude.{ℕ, ◌+◌, ◌*◌, List, [], ◌∷◌, ◌++◌, codes, filter_map, length, Option, Some, None, is_none, if◌then◌else◌, ◌==◌}
use Rattle.std.specs.Fmt.{decimal}
use Rattle.std.specs.List.{find, flat_map, range_with_len}
use Rattle.fr_bound.specs.declared.judging.Known.{Known}
use Rattle.fr_cluster.specs.Values.{Values}
use Rattle.fr_log.specs.View.{LogView}
use Rattle.fr_course.specs.Scales.{Scale}
use Rattle.fr_sightings.specs.declared.sender.Sender.{Sender}
use Rattle.fr_observe.specs.Faults.{term_word}
use Rattle.fr_observe.specs.Observing.{known_count, row}
use Rattle.fr_observe.specs.Telling.{sender_fault}
use Rattle.fr_observe.specs.declared.fault.Fault.{Fault}
use Rattle.fr_observe.specs.declared.sender_faults.Asked.TheVariants as asked
use Rattle.fr_observe.specs.declared.term.Term.{Term}
use Rattle.fr_observe.specs.declared.term.Term.TheVariants as term
use Rattle.fr_judging.specs.Knowing.{judged_met}
use Rattle.fr_judging.specs.declared.knowing.Standing.{Standing}
use Rattle.fr_judging.specs.declared.missed.Missed.{Missed}

-- what contradicts a term of a sender that missed at most so many of the others
abbrev pub unlike_term : Term → Values → LogView → Scale → ℕ → List Sender → Sender → ℕ → Option Fault
unlike_term what p l scale double senders s lost = sender_fault (asked.Term what lost) p l scale double senders s

-- the least number that nothing contradicts, none where each is contradicted: it can't have missed more than all others
abbrev pub least_missed : Term → Values → LogView → Scale → ℕ → List Sender → Sender → Option ℕ
least_missed what p l scale double senders s =
    find (λ lost. is_none (unlike_term what p l scale double senders s lost)) (range_with_len 0 (length senders))

abbrev pub missed_with : Term → ℕ → ℕ → Option ℕ → Missed
missed_with what double node least = record { cycle = 2 * double + 1; node = node; term = what; least = least }

-- told where it must have missed one at least
abbrev pub missed_if_any : Term → ℕ → ℕ → Option ℕ → Option Missed
missed_if_any what double node None = Some (missed_with what double node None)
missed_if_any what double node (Some least) = if least == 0 then None else Some (missed_with what double node (Some least))

abbrev pub missed_where : Term → Values → LogView → Scale → ℕ → List Sender → Sender → Option Missed
missed_where what p l scale double senders s = missed_if_any what double s.node (least_missed what p l scale double senders s)

-- of all senders of a double cycle that is judged
abbrev pub missed_of_term : Term → Values → LogView → Scale → ℕ → List Sender → List Missed
missed_of_term what p l scale double senders = filter_map (missed_where what p l scale double senders) senders

abbrev pub all_missed : Values → LogView → Scale → ℕ → List Sender → Option Known → List Missed
all_missed p l scale double senders None = []
all_missed p l scale double senders (Some met) =
    missed_of_term term.Offset p l scale double senders ++ missed_of_term term.Rate p l scale double senders

-- as records
unfoldable pub missed_row : Missed → List ℕ
missed_row m =
    row (codes "missed")
    (decimal m.cycle ∷ decimal m.node ∷ term_word m.term ∷ known_count m.least ∷ [] ∷ [] ∷ [] ∷ [])

unfoldable pub missed_told : Values → LogView → Scale → ℕ → List Sender → Standing → List ℕ
missed_told p l scale double senders st = flat_map missed_row (all_missed p l scale double senders (judged_met st))
