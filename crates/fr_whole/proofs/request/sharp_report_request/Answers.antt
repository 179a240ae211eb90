use Rattle.std.proofs.Common.{◌≡◌, ℕ, List, [], ◌∷◌, subst}
use Rattle.fr_program.specs.Program.{texts}
use Rattle.fr_answer.proofs.Requests.{five_texts}
use Rattle.fr_whole.specs.Whole.{IsSharpReportRequest}
use Rattle.fr_whole.proofs.request.sharp_report_request.Goals as goal

pub returns-in-len5 : goal.returns-in-len5
returns-in-len5 c =
    let words : c.as_str.result.now ∷ c.as_str-in-len5.result.now ∷ c.as_str-in-len5-2.result.now ∷ c.as_str-in-len5-3.result.now ∷ c.as_str-in-len5-4.result.now ∷ [] ≡ texts c.args.words.now =
    five_texts c.args.words.now _ _ _ _ _ _ _ _ _ _ c.in-len5.len_at_least c.in-len5.len_below c.command-item.is c.params-item.is c.drift-item.is c.script-item.is c.last-item.is
    c.as_str.ensures.value c.as_str-in-len5.ensures.value c.as_str-in-len5-2.ensures.value c.as_str-in-len5-3.ensures.value c.as_str-in-len5-4.ensures.value in
    subst (λ (texts : List (List ℕ)). IsSharpReportRequest texts c.sharp_report_request_of.result) words c.sharp_report_request_of.ensures
