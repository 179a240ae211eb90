use Rattle.std.proofs.Common.{◌≡◌, ℕ, List, [], ◌∷◌, subst}
use Rattle.fr_program.specs.Program.{texts}
use Rattle.fr_answer.specs.Request.{IsRequestOf}
use Rattle.fr_answer.proofs.Requests.{five_texts, four_texts, six_texts}
use Rattle.fr_answer.proofs.request.request_of.Goals as goal

pub returns-in-len4-clause-asks : goal.returns-in-len4-clause-asks
returns-in-len4-clause-asks c =
    let words : c.as_str-in-len4.result.now ∷ c.as_str-in-len4-2.result.now ∷ c.as_str-in-len4-3.result.now ∷ c.as_str-in-len4-4.result.now ∷ [] ≡ texts c.args.words.now =
    four_texts c.args.words.now _ _ _ _ _ _ _ _ c.in-len4.len_at_least c.in-len4.len_below c.command-item-then-words-lt5.is c.first-item.is c.second-item.is c.third-item.is
    c.as_str-in-len4.ensures.value c.as_str-in-len4-2.ensures.value c.as_str-in-len4-3.ensures.value c.as_str-in-len4-4.ensures.value in
    subst (λ (texts : List (List ℕ)). IsRequestOf texts c.request_of_four.result) words c.request_of_four.ensures.asks

pub returns-in-len5-clause-asks : goal.returns-in-len5-clause-asks
returns-in-len5-clause-asks c =
    let words : c.as_str-in-len5.result.now ∷ c.as_str-in-len5-2.result.now ∷ c.as_str-in-len5-3.result.now ∷ c.as_str-in-len5-4.result.now ∷ c.as_str-in-len5-5.result.now ∷ [] ≡ texts c.args.words.now =
    five_texts c.args.words.now _ _ _ _ _ _ _ _ _ _ c.in-len5.len_at_least c.in-len5.len_below c.command-item-then-words-lt6.is c.first-item-then-words-lt6.is c.second-item-then-words-lt6.is
    c.third-item-then-words-lt6.is c.fourth-item.is
    c.as_str-in-len5.ensures.value c.as_str-in-len5-2.ensures.value c.as_str-in-len5-3.ensures.value c.as_str-in-len5-4.ensures.value c.as_str-in-len5-5.ensures.value in
    subst (λ (texts : List (List ℕ)). IsRequestOf texts c.request_of_five.result) words c.request_of_five.ensures.asks

pub returns-in-len6-clause-asks : goal.returns-in-len6-clause-asks
returns-in-len6-clause-asks c =
    let words : c.as_str-in-len6.result.now ∷ c.as_str-in-len6-2.result.now ∷ c.as_str-in-len6-3.result.now ∷ c.as_str-in-len6-4.result.now ∷ c.as_str-in-len6-5.result.now ∷ c.as_str-in-len6-6.result.now ∷ [] ≡ texts c.args.words.now =
    six_texts c.args.words.now _ _ _ _ _ _ _ _ _ _ _ _ c.in-len6.len_at_least c.in-len6.len_below c.command-item-then-words-lt7.is c.first-item-then-words-lt7.is c.second-item-then-words-lt7.is
    c.third-item-then-words-lt7.is c.fourth-item-then-words-lt7.is c.fifth-item.is
    c.as_str-in-len6.ensures.value c.as_str-in-len6-2.ensures.value c.as_str-in-len6-3.ensures.value c.as_str-in-len6-4.ensures.value c.as_str-in-len6-5.ensures.value c.as_str-in-len6-6.ensures.value in
    subst (λ (texts : List (List ℕ)). IsRequestOf texts c.request_of_six.result) words c.request_of_six.ensures.asks
