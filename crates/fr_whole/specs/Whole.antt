-- What all words of `flexray` ask for, and the program.
use Rattle.std.specs.Prelude.{◌≡◌, ℕ, List, [], ◌∷◌, codes, length, Option, Some, None, Ok}
use Rattle.fr_program.specs.Command.{Command}
use Rattle.fr_program.specs.Program.{Program}
use Rattle.fr_text.specs.Defined.{DefinesOneStatus}
use Rattle.fr_text.specs.Fields.{natural_of}
use Rattle.fr_answer.specs.Answer.{command_of}
use Rattle.fr_answer.specs.Request.{most_stated_flutter, Asked, AsksFor}
use Rattle.fr_report.specs.Names.{RunNames, run_names_of}
use Rattle.fr_report.specs.declared.files.RunFiles.{RunFiles}
use Rattle.fr_check.specs.declared.files.CheckFiles.{CheckFiles}
use Rattle.fr_whole.specs.ObserveAnswer.{observe_command}
use Rattle.fr_whole.specs.Pages.{AsksPage, IsNoPage, page_command}
use Rattle.fr_whole.specs.PowerOnAnswer.{power_on_command}
use Rattle.fr_whole.specs.SharpCheckAnswer.{sharp_check_command}
use Rattle.fr_whole.specs.SharpReportAnswer.{sharp_report_command}
use Rattle.fr_whole.specs.declared.observe.ObserveFiles.{ObserveFiles}
use Rattle.fr_whole.specs.declared.pages.Page.{Page}
use Rattle.fr_whole.specs.declared.request.PowerOnRequest.{PowerOnRequest}
use Rattle.fr_whole.specs.declared.request.WholeRequest.{WholeRequest}
use Rattle.fr_whole.specs.declared.request.WholeRequest.TheVariants.{Log, SharpReport, OnePage, SharpCheck, PowerOn, Core}

-- what the words of the core ask for; print what the log of a bus analyzer tells of the cluster's clocks; run the cluster that the
-- files decide, and print what the sharper bounds say of the run and behind it the report; print what they say of a recorded trace;
-- print how long it takes from the first power-on until all are in sharp sync, where delays flutter by no more than so many ticks; or
-- print what the program says of itself
pub data WholeAsked : Type 0 where
  core : (asked : Asked) → WholeAsked
  observe : (params log : List ℕ) → WholeAsked
  sharp_report : (names : RunNames) → WholeAsked
  sharp_check : (params trace : List ℕ) → WholeAsked
  power_on : (params : List ℕ) (flutter : ℕ) → WholeAsked
  page : (asked : Page) → WholeAsked

-- the words `observe PARAMS LOG`, `run PARAMS DRIFT SCRIPT sharp`, and `check PARAMS TRACE sharp`
abbrev pub observe_words : List ℕ → List ℕ → List (List ℕ)
observe_words params log = codes "observe" ∷ params ∷ log ∷ []

abbrev pub sharp_report_words : RunNames → List (List ℕ)
sharp_report_words names = codes "run" ∷ names.params ∷ names.drift ∷ names.script ∷ codes "sharp" ∷ []

abbrev pub sharp_check_words : List ℕ → List ℕ → List (List ℕ)
sharp_check_words params trace = codes "check" ∷ params ∷ trace ∷ codes "sharp" ∷ []

-- the words `settle PARAMS power FLUTTER`, with a number of ticks
pub record AsksPowerOn (words : List (List ℕ)) (params : List ℕ) (flutter : ℕ) : Type 0 where
  pub flutter_text : List ℕ
  pub spelt : words ≡ codes "settle" ∷ params ∷ codes "power" ∷ flutter_text ∷ []
  pub flutter_is : natural_of 0 most_stated_flutter flutter_text ≡ Ok flutter

-- the words ask for this: those of the core; these four; those of a page
abbrev pub AsksWhole : List (List ℕ) → WholeAsked → Type 0
AsksWhole words (core asked) = AsksFor words asked
AsksWhole words (observe params log) = words ≡ observe_words params log
AsksWhole words (sharp_report names) = words ≡ sharp_report_words names
AsksWhole words (sharp_check params trace) = words ≡ sharp_check_words params trace
AsksWhole words (power_on params flutter) = AsksPowerOn words params flutter
AsksWhole words (page asked) = AsksPage words asked

-- the words ask for no log, for no report by the sharper bounds, and for no check by them
abbrev pub IsNoLog : List (List ℕ) → Type 0
IsNoLog words = (params log : List ℕ) → words ≡ observe_words params log → ⊥

abbrev pub IsNoSharpReport : List (List ℕ) → Type 0
IsNoSharpReport words = (names : RunNames) → words ≡ sharp_report_words names → ⊥

abbrev pub IsNoSharpCheck : List (List ℕ) → Type 0
IsNoSharpCheck words = (params trace : List ℕ) → words ≡ sharp_check_words params trace → ⊥

-- what words are read as: the files of a log's request, or no such request
abbrev pub IsLogRequest : List (List ℕ) → Option ObserveFiles → Type 0
IsLogRequest words None = IsNoLog words
IsLogRequest words (Some files) = words ≡ observe_words files.params.now files.log.now

-- the files of a request for a report by the sharper bounds, or no such request
abbrev pub IsSharpReportRequest : List (List ℕ) → Option RunFiles → Type 0
IsSharpReportRequest words None = IsNoSharpReport words
IsSharpReportRequest words (Some files) = words ≡ sharp_report_words (run_names_of files)

-- those of a request for a check by them, or no such request
abbrev pub IsSharpCheckRequest : List (List ℕ) → Option CheckFiles → Type 0
IsSharpCheckRequest words None = IsNoSharpCheck words
IsSharpCheckRequest words (Some files) = words ≡ sharp_check_words files.params.now files.trace.now

-- what a request for how long from power-on states, or no such request
abbrev pub IsPowerOnRequest : List (List ℕ) → Option PowerOnRequest → Type 0
IsPowerOnRequest words None = (params : List ℕ) (flutter : ℕ) → AsksPowerOn words params flutter → ⊥
IsPowerOnRequest words (Some request) = AsksPowerOn words request.params.now request.flutter

-- the words ask for nothing but what the core has
pub record IsOfCore (words : List (List ℕ)) : Type 0 where
  pub no_log : IsNoLog words
  pub no_report : IsNoSharpReport words
  pub no_page : IsNoPage words
  pub no_check : IsNoSharpCheck words
  pub no_power_on : IsPowerOnRequest words None

-- what the words of the whole program are read as: what they ask for, or words of the core
abbrev pub IsWholeRequest : List (List ℕ) → WholeRequest → Type 0
IsWholeRequest words (Log files) = AsksWhole words (observe files.params.now files.log.now)
IsWholeRequest words (SharpReport files) = AsksWhole words (sharp_report (run_names_of files))
IsWholeRequest words (OnePage asked) = AsksWhole words (page asked)
IsWholeRequest words (SharpCheck files) = AsksWhole words (sharp_check files.params.now files.trace.now)
IsWholeRequest words (PowerOn request) = AsksWhole words (power_on request.params.now request.flutter)
IsWholeRequest words Core = IsOfCore words

-- the files of what was asked for, and what may be written of them
abbrev pub whole_command : WholeAsked → Command
whole_command (core asked) = command_of asked
whole_command (observe params log) = observe_command params log
whole_command (sharp_report names) = sharp_report_command names
whole_command (sharp_check params trace) = sharp_check_command params trace
whole_command (power_on params flutter) = power_on_command params flutter
whole_command (page asked) = page_command asked

-- the program
abbrev pub flexray_program : Program WholeAsked
flexray_program = record { asks_for = AsksWhole; command_of = whole_command; usage = codes "usage: flexray COMMAND WORDS" }

-- where words ask for something, the bytes of as many files as it names define one status
abbrev pub HasOneStatusOfAll : Type 0
HasOneStatusOfAll =
    (words : List (List ℕ)) (asked : WholeAsked) → AsksWhole words asked
    → DefinesOneStatus (whole_command asked).files (length (whole_command asked).names)
