use Rattle.std.proofs.Common.{◌≡◌, ℕ, List, [], ◌∷◌, subst}
use Rattle.fr_program.specs.Program.{texts}
use Rattle.fr_answer.proofs.Requests.{four_texts}
use Rattle.fr_whole.specs.Whole.{IsSharpCheckRequest}
use Rattle.fr_whole.proofs.request.sharp_check_request.Goals as goal

pub returns-in-len4 : goal.returns-in-len4
returns-in-len4 c =
    let words : c.as_str.result.now ∷ c.as_str-in-len4.result.now ∷ c.as_str-in-len4-2.result.now ∷ c.as_str-in-len4-3.result.now ∷ [] ≡ texts c.args.words.now =
    four_texts c.args.words.now _ _ _ _ _ _ _ _ c.in-len4.len_at_least c.in-len4.len_below c.command-item.is c.params-item.is c.trace-item.is c.last-item.is
    c.as_str.ensures.value c.as_str-in-len4.ensures.value c.as_str-in-len4-2.ensures.value c.as_str-in-len4-3.ensures.value in
    subst (λ (texts : List (List ℕ)). IsSharpCheckRequest texts c.sharp_check_request_of.result) words c.sharp_check_request_of.ensures
