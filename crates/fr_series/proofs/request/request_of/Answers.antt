use Rattle.std.proofs.Common.{◌≡◌, ℕ, List, [], ◌∷◌, subst}
use Rattle.fr_program.specs.Program.{texts}
use Rattle.fr_series.specs.Request.{IsSeriesRequest}
use Rattle.fr_series.proofs.Requests.{four_texts, three_texts}
use Rattle.fr_series.proofs.request.request_of.Goals as goal

pub returns-in-len3 : goal.returns-in-len3
returns-in-len3 c =
    let words : c.as_str.result.now ∷ c.as_str-in-len3.result.now ∷ c.as_str-in-len3-2.result.now ∷ [] ≡ texts c.args.words.now =
    three_texts c.args.words.now _ _ _ _ _ _ c.in-len3.len_at_least c.in-len3.len_below c.params-item.is c.drift-item.is c.script-item.is
    c.as_str.ensures.value c.as_str-in-len3.ensures.value c.as_str-in-len3-2.ensures.value in
    subst (λ (texts : List (List ℕ)). IsSeriesRequest texts c.request_of_three.result) words c.request_of_three.ensures

pub returns-in-len4 : goal.returns-in-len4
returns-in-len4 c =
    let words : c.as_str-in-len4.result.now ∷ c.as_str-in-len4-2.result.now ∷ c.as_str-in-len4-3.result.now ∷ c.as_str-in-len4-4.result.now ∷ [] ≡ texts c.args.words.now =
    four_texts c.args.words.now _ _ _ _ _ _ _ _ c.in-len4.len_at_least c.in-len4.len_below c.params-item-then-words-lt5.is c.drift-item-then-words-lt5.is c.script-item-then-words-lt5.is c.word-item.is
    c.as_str-in-len4.ensures.value c.as_str-in-len4-2.ensures.value c.as_str-in-len4-3.ensures.value c.as_str-in-len4-4.ensures.value in
    subst (λ (texts : List (List ℕ)). IsSeriesRequest texts c.request_of_four.result) words c.request_of_four.ensures
