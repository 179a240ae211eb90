use Rattle.std.proofs.Common.{◌≡◌, ℕ, List, [], ◌∷◌, ◌++◌, codes, ap, ◌∙◌, rules}
use Rattle.std.specs.Fmt.{decimal, signed_decimal}
use Rattle.fr_base.specs.Channels.{letter}
use Rattle.fr_trace.proofs.Spelt.{dev_spelt}
use Rattle.fr_trace.proofs.writing.spell_dev.Goals as goal

pub returns : goal.returns
returns c =
    let dev = c.args.dev.now in
    let value : c.signed.new.self ≡ signed_decimal dev.value ++ c.word.new.self = search rules in
    let slot : c.signed-2.new.self ≡ decimal dev.slot ++ c.byte-3.new.self = search rules in
    let is : letter dev.channel ≡ c.letter_byte.result ∷ [] = search rules in
    c.word-2.ensures.bytes
    ∙ ap (λ (l : List ℕ). c.args.front.now ++ l) (c.byte-4.ensures.bytes ∙ ap (λ (l : List ℕ). 44 ∷ l) (slot
    ∙ ap (λ (l : List ℕ). decimal dev.slot ++ l) (c.byte-3.ensures.bytes ∙ ap (λ (l : List ℕ). 44 ∷ l) (c.byte-2.ensures.bytes ∙ ap (λ (l : List ℕ). c.letter_byte.result ∷ l) (c.byte.ensures.bytes ∙ ap (λ (l : List ℕ). 44 ∷ l) (value
    ∙ ap (λ (l : List ℕ). signed_decimal dev.value ++ l) (c.word.ensures.bytes ∙ ap (λ (l : List ℕ). codes ",,\n" ++ l) c.clear.ensures)))))))
    ∙ dev_spelt c.args.front.now (decimal dev.slot) (letter dev.channel) (signed_decimal dev.value) c.letter_byte.result is
