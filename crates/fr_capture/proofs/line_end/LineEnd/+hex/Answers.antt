use Rattle.std.proofs.Common.{ℕ, ◌-◌, ◌/◌, ◌%◌, List, [], ◌∷◌, ◌++◌, ap, sym, ◌∙◌, append_assoc, arith}
use Rattle.fr_text.specs.Numerals.{digit_of, hexadecimal}
use Rattle.fr_text.proofs.Hexadecimals.{append_last, append_none}
use Rattle.fr_capture.proofs.line_end.LineEnd.+hex.Goals as goal

pub returns-then-digits-gt0-clause-bytes : goal.returns-then-digits-gt0-clause-bytes
returns-then-digits-gt0-clause-bytes t c =
    c.hex.ensures.bytes
    ∙ ap (λ (xs : List ℕ). hexadecimal (c.args.digits - 1) (c.args.value / 16) ++ xs) (c.byte.ensures.bytes ∙ ap (λ (d : ℕ). d ∷ c.args.self.now) c.hex_digit.ensures)
    ∙ sym (append_assoc (hexadecimal (c.args.digits - 1) (c.args.value / 16)) (digit_of (c.args.value % 16) ∷ []) c.args.self.now)
    ∙ ap (λ (xs : List ℕ). xs ++ c.args.self.now) (append_last [] c.args.digits c.args.value (omega (arith, c.if-digits-gt0.true)))

pub returns-else-digits-gt0-clause-bytes : goal.returns-else-digits-gt0-clause-bytes
returns-else-digits-gt0-clause-bytes t c = ap (λ (xs : List ℕ). xs ++ c.args.self.now) (append_none [] c.args.digits c.args.value (omega (arith, c.if-digits-gt0.false)))
