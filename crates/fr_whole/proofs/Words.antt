-- Which words ask for what: three for what a log tells, of which the first is no word of the core; five for a report by the
-- sharper bounds, which the core has not; four for how long from power-on, of which the third is no number, and for a check by them; and one for a page.
use Rattle.std.proofs.Common.{◌≡◌, ◌∙◌, ◌<◌, ℕ, length, arith, List, [], ◌∷◌, Option, Some, None, Result, Ok, Err, ap, refl, subst, sym}
use Rattle.std.specs.Prelude.{String, codes, if◌then◌else◌, unwrap_or}
use Rattle.std.specs.Str.{bytes_eq}
use Rattle.std.specs.String.{string_bytes}
use Rattle.std.specs.declared.alloc.Global.{Global}
use Rattle.std.proofs.lemmas.List.{length-map}
use Rattle.fr_program.specs.Program.{texts}
use Rattle.fr_report.specs.Names.{RunNames}
use Rattle.fr_base.specs.declared.numbers.NumberFault.{NumberFault}
use Rattle.fr_text.specs.Fields.{natural_of}
use Rattle.fr_answer.specs.Request.{most_stated_flutter, Asked, AsksFor}
use Rattle.fr_answer.proofs.Requests.{asks_nothing}
use Rattle.fr_whole.specs.Pages.{AsksPage}
use Rattle.fr_whole.specs.Whole.{AsksPowerOn, AsksWhole, WholeAsked, core, observe, observe_words, page, power_on, sharp_check, sharp_check_words, sharp_report, sharp_report_words}
use Rattle.fr_whole.specs.declared.pages.Page.{Page}
use Rattle.fr_whole.specs.declared.pages.Page.TheVariants.{Help, Version}

-- ---- how many they are

as_many : (words : List (String Global)) (given : List (List ℕ)) → texts words ≡ given → length words ≡ length given
as_many words given asks =
    let same : length (texts words) ≡ length words = length-map words string_bytes in
    sym same ∙ ap length asks

pub not_short : (words : List (String Global)) (params log : List ℕ) → texts words ≡ observe_words params log → length words < 3 → ⊥
not_short words params log asks short = let long = as_many words (observe_words params log) asks in absurd (omega (arith, long, short))

pub not_long : (words : List (String Global)) (params log : List ℕ) → texts words ≡ observe_words params log → 3 < length words → ⊥
not_long words params log asks more = let long = as_many words (observe_words params log) asks in absurd (omega (arith, long, more))

pub not_shorter : (words : List (String Global)) (names : RunNames) → texts words ≡ sharp_report_words names → length words < 5 → ⊥
not_shorter words names asks short = let long = as_many words (sharp_report_words names) asks in absurd (omega (arith, long, short))

pub not_longer : (words : List (String Global)) (names : RunNames) → texts words ≡ sharp_report_words names → 5 < length words → ⊥
not_longer words names asks more = let long = as_many words (sharp_report_words names) asks in absurd (omega (arith, long, more))

abbrev power_on_words : List ℕ → List ℕ → List (List ℕ)
power_on_words params flutter = codes "settle" ∷ params ∷ codes "power" ∷ flutter ∷ []

pub not_fewer : (words : List (String Global)) (params : List ℕ) (flutter : ℕ) → AsksPowerOn (texts words) params flutter → length words < 4 → ⊥
not_fewer words params flutter asks short =
    let long = as_many words (power_on_words params asks.flutter_text) asks.spelt in
    absurd (omega (arith, long, short))

pub not_more : (words : List (String Global)) (params : List ℕ) (flutter : ℕ) → AsksPowerOn (texts words) params flutter → 4 < length words → ⊥
not_more words params flutter asks more =
    let long = as_many words (power_on_words params asks.flutter_text) asks.spelt in
    absurd (omega (arith, long, more))

pub not_so_few : (words : List (String Global)) (params trace : List ℕ) → texts words ≡ sharp_check_words params trace → length words < 4 → ⊥
not_so_few words params trace asks short = let long = as_many words (sharp_check_words params trace) asks in absurd (omega (arith, long, short))

pub not_so_many : (words : List (String Global)) (params trace : List ℕ) → texts words ≡ sharp_check_words params trace → 4 < length words → ⊥
not_so_many words params trace asks more = let long = as_many words (sharp_check_words params trace) asks in absurd (omega (arith, long, more))

-- ---- they ask for one thing

not_both : (words one other : List (List ℕ)) → words ≡ one → words ≡ other → length one ≡ length other
not_both words one other is also = sym (ap length is) ∙ ap length also

-- a page is asked for by one word
one_word : (words : List (List ℕ)) (asked : Page) → AsksPage words asked → length words ≡ 1
one_word words Help asks = ap length asks
one_word words Version asks = ap length asks

pub page_not_short : (words : List (String Global)) (asked : Page) → AsksPage (texts words) asked → length words < 1 → ⊥
page_not_short words asked asks short =
    let one = one_word (texts words) asked asks in
    let same : length (texts words) ≡ length words = length-map words string_bytes in
    absurd (omega (arith, one, same, short))

pub page_not_long : (words : List (String Global)) (asked : Page) → AsksPage (texts words) asked → 1 < length words → ⊥
page_not_long words asked asks more =
    let one = one_word (texts words) asked asks in
    let same : length (texts words) ≡ length words = length-map words string_bytes in
    absurd (omega (arith, one, same, more))

no_page_of : (words : List (List ℕ)) (asked : Page) (count : ℕ) → 1 < count → length words ≡ count → AsksPage words asked → ⊥
no_page_of words asked count more many asks = let one = one_word words asked asks in absurd (omega (arith, more, one, many))

abbrev page_in : List (List ℕ) → Option Page
page_in (word ∷ []) = if bytes_eq word (codes "help") then Some Help else (if bytes_eq word (codes "version") then Some Version else None)
page_in others = None

page_again : (words : List (List ℕ)) (asked : Page) → AsksPage words asked → page_in words ≡ Some asked
page_again words Help asks = ap page_in asks
page_again words Version asks = ap page_in asks

no_core : (words : List (List ℕ)) (which : Page) (asked : Asked) → AsksPage words which → AsksFor words asked → ⊥
no_core words Help asked is asks = asks_nothing (codes "help" ∷ []) refl asked (subst (λ (given : List (List ℕ)). AsksFor given asked) is asks)
no_core words Version asked is asks = asks_nothing (codes "version" ∷ []) refl asked (subst (λ (given : List (List ℕ)). AsksFor given asked) is asks)

files_of_log : List (List ℕ) → WholeAsked
files_of_log (command ∷ params ∷ log ∷ []) = observe params log
files_of_log others = observe [] []

names_of_run : List (List ℕ) → WholeAsked
names_of_run (command ∷ params ∷ drift ∷ script ∷ last ∷ []) = sharp_report (record { params = params; drift = drift; script = script })
names_of_run others = sharp_report (record { params = []; drift = []; script = [] })

files_of_check : List (List ℕ) → WholeAsked
files_of_check (command ∷ params ∷ trace ∷ last ∷ []) = sharp_check params trace
files_of_check others = sharp_check [] []

-- the first of some words
first_word : List (List ℕ) → List ℕ
first_word [] = []
first_word (word ∷ words) = word

other_word : (words : List (List ℕ)) (params trace again flutter : List ℕ) → words ≡ sharp_check_words params trace → words ≡ power_on_words again flutter → ⊥
unfolding first_word
other_word words params trace again flutter is also =
    let e : codes "check" ≡ codes "settle" = sym (ap first_word is) ∙ ap first_word also in
    absurd (cc e)

stated_with : List ℕ → Result ℕ NumberFault → WholeAsked
stated_with params (Ok flutter) = power_on params flutter
stated_with params (Err why) = power_on params 0

stated_in : List (List ℕ) → WholeAsked
stated_in (command ∷ params ∷ word ∷ flutter ∷ []) = stated_with params (natural_of 0 most_stated_flutter flutter)
stated_in others = power_on [] 0

stated : (words : List (List ℕ)) (params : List ℕ) (flutter : ℕ) → AsksPowerOn words params flutter → stated_in words ≡ power_on params flutter
unfolding stated_in stated_with
stated words params flutter asks = ap stated_in asks.spelt ∙ ap (stated_with params) asks.flutter_is

pub only_log : (words : List (List ℕ)) (params log : List ℕ) → words ≡ observe_words params log → (asked : WholeAsked) → AsksWhole words asked → asked ≡ observe params log
unfolding files_of_log
only_log words params log is (core asked) asks = absurd (asks_nothing (observe_words params log) refl asked (subst (λ (given : List (List ℕ)). AsksFor given asked) is asks))
only_log words params log is (observe more again) asks = ap files_of_log (sym asks ∙ is)
only_log words params log is (sharp_report names) asks = let e : 3 ≡ 5 = not_both words (observe_words params log) (sharp_report_words names) is asks in absurd (omega (arith, e))
only_log words params log is (sharp_check more trace) asks = let e : 3 ≡ 4 = not_both words (observe_words params log) (sharp_check_words more trace) is asks in absurd (omega (arith, e))
only_log words params log is (power_on more flutter) asks =
    let e : 3 ≡ 4 = not_both words (observe_words params log) (power_on_words more asks.flutter_text) is asks.spelt in
    absurd (omega (arith, e))
only_log words params log is (page asked) asks = absurd (no_page_of words asked 3 (omega arith) (ap length is) asks)

pub only_sharp_report : (words : List (List ℕ)) (names : RunNames) → words ≡ sharp_report_words names → (asked : WholeAsked) → AsksWhole words asked → asked ≡ sharp_report names
unfolding names_of_run
only_sharp_report words names is (core asked) asks = absurd (asks_nothing (sharp_report_words names) refl asked (subst (λ (given : List (List ℕ)). AsksFor given asked) is asks))
only_sharp_report words names is (observe params log) asks = let e : 5 ≡ 3 = not_both words (sharp_report_words names) (observe_words params log) is asks in absurd (omega (arith, e))
only_sharp_report words names is (sharp_report more) asks = ap names_of_run (sym asks ∙ is)
only_sharp_report words names is (sharp_check params trace) asks = let e : 5 ≡ 4 = not_both words (sharp_report_words names) (sharp_check_words params trace) is asks in absurd (omega (arith, e))
only_sharp_report words names is (power_on params flutter) asks =
    let e : 5 ≡ 4 = not_both words (sharp_report_words names) (power_on_words params asks.flutter_text) is asks.spelt in
    absurd (omega (arith, e))
only_sharp_report words names is (page asked) asks = absurd (no_page_of words asked 5 (omega arith) (ap length is) asks)

pub only_sharp_check : (words : List (List ℕ)) (params trace : List ℕ) → words ≡ sharp_check_words params trace → (asked : WholeAsked) → AsksWhole words asked → asked ≡ sharp_check params trace
unfolding files_of_check
only_sharp_check words params trace is (core asked) asks = absurd (asks_nothing (sharp_check_words params trace) refl asked (subst (λ (given : List (List ℕ)). AsksFor given asked) is asks))
only_sharp_check words params trace is (observe more log) asks = let e : 4 ≡ 3 = not_both words (sharp_check_words params trace) (observe_words more log) is asks in absurd (omega (arith, e))
only_sharp_check words params trace is (sharp_report names) asks = let e : 4 ≡ 5 = not_both words (sharp_check_words params trace) (sharp_report_words names) is asks in absurd (omega (arith, e))
only_sharp_check words params trace is (sharp_check more again) asks = ap files_of_check (sym asks ∙ is)
only_sharp_check words params trace is (power_on more flutter) asks = absurd (other_word words params trace more asks.flutter_text is asks.spelt)
only_sharp_check words params trace is (page asked) asks = absurd (no_page_of words asked 4 (omega arith) (ap length is) asks)

pub only_power_on : (words : List (List ℕ)) (params : List ℕ) (flutter : ℕ) → AsksPowerOn words params flutter → (asked : WholeAsked) → AsksWhole words asked → asked ≡ power_on params flutter
only_power_on words params flutter is (core asked) asks =
    absurd (asks_nothing (power_on_words params is.flutter_text) refl asked (subst (λ (given : List (List ℕ)). AsksFor given asked) is.spelt asks))
only_power_on words params flutter is (observe more log) asks =
    let e : 4 ≡ 3 = not_both words (power_on_words params is.flutter_text) (observe_words more log) is.spelt asks in
    absurd (omega (arith, e))
only_power_on words params flutter is (sharp_report names) asks =
    let e : 4 ≡ 5 = not_both words (power_on_words params is.flutter_text) (sharp_report_words names) is.spelt asks in
    absurd (omega (arith, e))
only_power_on words params flutter is (sharp_check more trace) asks = absurd (other_word words more trace params is.flutter_text asks is.spelt)
only_power_on words params flutter is (power_on more again) asks = sym (stated words more again asks) ∙ stated words params flutter is
only_power_on words params flutter is (page asked) asks = absurd (no_page_of words asked 4 (omega arith) (ap length is.spelt) asks)

pub only_page : (words : List (List ℕ)) (asked : Page) → AsksPage words asked → (other : WholeAsked) → AsksWhole words other → other ≡ page asked
only_page words asked is (core other) asks = absurd (no_core words asked other is asks)
only_page words asked is (observe params log) asks = absurd (no_page_of words asked 3 (omega arith) (ap length asks) is)
only_page words asked is (sharp_report names) asks = absurd (no_page_of words asked 5 (omega arith) (ap length asks) is)
only_page words asked is (sharp_check params trace) asks = absurd (no_page_of words asked 4 (omega arith) (ap length asks) is)
only_page words asked is (power_on params flutter) asks = absurd (no_page_of words asked 4 (omega arith) (ap length asks.spelt) is)
only_page words asked is (page other) asks =
    ap (λ (found : Option Page). page (unwrap_or found asked)) (sym (page_again words other asks) ∙ page_again words asked is)
