-- The whole program answers as the core does, or as a log, a report or a check by the sharper bounds or a power-on is told, or a page.
use Rattle.std.proofs.Common.{◌≡◌, ℕ, List, inl, refl, subst, sym}
use Rattle.fr_program.proofs.Endings.{loads}
use Rattle.fr_program.specs.Around.{Around, Ending}
use Rattle.fr_program.specs.Command.{AreLoads, CommandEnds}
use Rattle.fr_program.specs.Program.{IsNoRequest, WordsEnd}
use Rattle.fr_report.specs.Files.{run_files}
use Rattle.fr_report.specs.Names.{RunNames}
use Rattle.fr_text.proofs.Defining.{one_status, some_status}
use Rattle.fr_text.specs.Defined.{DefinesOneStatus}
use Rattle.fr_answer.specs.Answer.{core_program}
use Rattle.fr_answer.specs.Statuses.{HasOneStatusEach}
use Rattle.fr_whole.specs.ObserveAnswer.{observe_command, observe_files}
use Rattle.fr_whole.specs.Pages.{AsksPage, page_command, page_text}
use Rattle.fr_whole.specs.PowerOnAnswer.{power_on_command, power_on_files}
use Rattle.fr_whole.specs.SharpCheckAnswer.{sharp_check_command, sharp_check_files}
use Rattle.fr_whole.specs.SharpReportAnswer.{IsSharpReportText, sharp_report_command}
use Rattle.fr_whole.specs.Whole.{AsksPowerOn, AsksWhole, HasOneStatusOfAll, IsOfCore, WholeAsked, core, flexray_program, observe, observe_words, page, power_on, sharp_check, sharp_check_words, sharp_report, sharp_report_words, whole_command}
use Rattle.fr_whole.specs.declared.pages.Page.{Page}
use Rattle.fr_whole.proofs.Words.{only_log, only_page, only_power_on, only_sharp_check, only_sharp_report}

-- ---- words of the core

pub none_of_core : (words : List (List ℕ)) → IsOfCore words → IsNoRequest core_program words → IsNoRequest flexray_program words
none_of_core words of none (core asked) asks = none asked asks
none_of_core words of none (observe params log) asks = of.no_log params log asks
none_of_core words of none (sharp_report names) asks = of.no_report names asks
none_of_core words of none (sharp_check params trace) asks = of.no_check params trace asks
none_of_core words of none (power_on params flutter) asks = of.no_power_on params flutter asks
none_of_core words of none (page asked) asks = of.no_page asked asks

core_ends : (words : List (List ℕ)) (around : Around) (ending : Ending) → IsOfCore words → WordsEnd core_program words around ending
    → (asked : WholeAsked) → AsksWhole words asked → CommandEnds (whole_command asked) around ending
core_ends words around ending of ends (core asked) asks = ends.ends asked asks
core_ends words around ending of ends (observe params log) asks = absurd (of.no_log params log asks)
core_ends words around ending of ends (sharp_report names) asks = absurd (of.no_report names asks)
core_ends words around ending of ends (sharp_check params trace) asks = absurd (of.no_check params trace asks)
core_ends words around ending of ends (power_on params flutter) asks = absurd (of.no_power_on params flutter asks)
core_ends words around ending of ends (page asked) asks = absurd (of.no_page asked asks)

core_loads : (words : List (List ℕ)) (around : Around) (ending : Ending) → IsOfCore words → WordsEnd core_program words around ending
    → (asked : WholeAsked) → AsksWhole words asked → AreLoads (whole_command asked).names around.shelf_before around.shelf_after
core_loads words around ending of ends (core asked) asks = ends.loads asked asks
core_loads words around ending of ends (observe params log) asks = absurd (of.no_log params log asks)
core_loads words around ending of ends (sharp_report names) asks = absurd (of.no_report names asks)
core_loads words around ending of ends (sharp_check params trace) asks = absurd (of.no_check params trace asks)
core_loads words around ending of ends (power_on params flutter) asks = absurd (of.no_power_on params flutter asks)
core_loads words around ending of ends (page asked) asks = absurd (of.no_page asked asks)

pub by_core : (words : List (List ℕ)) (around : Around) (ending : Ending) → IsOfCore words → WordsEnd core_program words around ending → WordsEnd flexray_program words around ending
by_core words around ending of ends = record {
  ends = core_ends words around ending of ends;
  loads = core_loads words around ending of ends;
  none = λ none. ends.none (λ asked asks. none (core asked) asks);
}

-- ---- words of its own

-- words that ask for this alone
by_own : (words : List (List ℕ)) (own : WholeAsked) (around : Around) (ending : Ending) → AsksWhole words own → ((asked : WholeAsked) → AsksWhole words asked → asked ≡ own) → CommandEnds (whole_command own) around ending
    → AreLoads (whole_command own).names around.shelf_before around.shelf_after → WordsEnd flexray_program words around ending
by_own words own around ending asks only ends are_loads = record {
  ends = λ asked more. subst (λ (same : WholeAsked). CommandEnds (whole_command same) around ending) (sym (only asked more)) ends;
  loads = λ asked more. subst (λ (same : WholeAsked). AreLoads (whole_command same).names around.shelf_before around.shelf_after) (sym (only asked more)) are_loads;
  none = λ none. absurd (none own asks);
}

-- words that ask for what a log tells
pub by_log : (words : List (List ℕ)) (params log : List ℕ) (around : Around) (ending : Ending) → words ≡ observe_words params log → CommandEnds (observe_command params log) around ending
    → WordsEnd flexray_program words around ending
by_log words params log around ending is ends =
    by_own words (observe params log) around ending is (only_log words params log is) ends (loads (observe_command params log) around ending ends (λ none. absurd (cc none)))

-- words that ask for a report by the sharper bounds
pub by_sharp_report : (words : List (List ℕ)) (names : RunNames) (around : Around) (ending : Ending) → words ≡ sharp_report_words names → CommandEnds (sharp_report_command names) around ending
    → WordsEnd flexray_program words around ending
by_sharp_report words names around ending is ends =
    by_own words (sharp_report names) around ending is (only_sharp_report words names is) ends (loads (sharp_report_command names) around ending ends (λ none. absurd (cc none)))

-- words that ask for a check by the sharper bounds
pub by_sharp_check : (words : List (List ℕ)) (params trace : List ℕ) (around : Around) (ending : Ending) → words ≡ sharp_check_words params trace → CommandEnds (sharp_check_command params trace) around ending
    → WordsEnd flexray_program words around ending
by_sharp_check words params trace around ending is ends =
    by_own words (sharp_check params trace) around ending is (only_sharp_check words params trace is) ends (loads (sharp_check_command params trace) around ending ends (λ none. absurd (cc none)))

-- words that ask for how long from power-on
pub by_power_on : (words : List (List ℕ)) (params : List ℕ) (flutter : ℕ) (around : Around) (ending : Ending) → AsksPowerOn words params flutter → CommandEnds (power_on_command params flutter) around ending
    → WordsEnd flexray_program words around ending
by_power_on words params flutter around ending is ends =
    by_own words (power_on params flutter) around ending is (only_power_on words params flutter is) ends (loads (power_on_command params flutter) around ending ends (λ none. absurd (cc none)))

-- words that ask for a page, which ask for no file
pub by_page : (words : List (List ℕ)) (asked : Page) (around : Around) (ending : Ending) → AsksPage words asked → around.shelf_after ≡ around.shelf_before → CommandEnds (page_command asked) around ending
    → WordsEnd flexray_program words around ending
by_page words asked around ending is stays ends =
    by_own words (page asked) around ending is (only_page words asked is) ends (loads (page_command asked) around ending ends (λ none. stays))

-- ---- statuses

page_status : (asked : Page) → DefinesOneStatus (page_command asked).files 0
page_status asked = record { one = one_status (page_command asked).files (λ written said is never. never); some = some_status (page_command asked).files 0 (refl, inl (page_text asked, refl)) }

pub one_status_of_all : HasOneStatusEach → DefinesOneStatus observe_files 2 → DefinesOneStatus (run_files IsSharpReportText) 3 → DefinesOneStatus sharp_check_files 2 → ((flutter : ℕ) → DefinesOneStatus (power_on_files flutter) 1)
    → HasOneStatusOfAll
one_status_of_all each observed reported checked powered words (core asked) asks = each words asked asks
one_status_of_all each observed reported checked powered words (observe params log) asks = observed
one_status_of_all each observed reported checked powered words (sharp_report names) asks = reported
one_status_of_all each observed reported checked powered words (sharp_check params trace) asks = checked
one_status_of_all each observed reported checked powered words (power_on params flutter) asks = powered flutter
one_status_of_all each observed reported checked powered words (page asked) asks = page_status asked
