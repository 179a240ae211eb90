use Rattle.std.proofs.Common.{ℕ, ap, ◌∙◌, ◌++◌, ◌∷◌, [], ◌%◌, List, arith}
use Rattle.fr_text.specs.Numerals.{digit_of}
use Rattle.fr_text.proofs.Hexadecimals.{append_last, append_none}
use Rattle.fr_text.proofs.draft.Draft.+hex.Goals as goal

pub returns-then-digits-gt0-clause-bytes : goal.returns-then-digits-gt0-clause-bytes
returns-then-digits-gt0-clause-bytes t c =
    c.byte.ensures.bytes
    ∙ ap (λ (d : ℕ). c.hex.new.self ++ d ∷ []) c.hex_digit.ensures
    ∙ ap (λ (l : List ℕ). l ++ digit_of (c.args.value % 16) ∷ []) c.hex.ensures.bytes
    ∙ append_last c.args.self.now c.args.digits c.args.value (omega (arith, c.if-digits-gt0.true))

pub returns-else-digits-gt0-clause-bytes : goal.returns-else-digits-gt0-clause-bytes
returns-else-digits-gt0-clause-bytes t c = append_none c.args.self.now c.args.digits c.args.value (omega (arith, c.if-digits-gt0.false))
