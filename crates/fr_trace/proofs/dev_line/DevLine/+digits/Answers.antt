use Rattle.std.proofs.Common.{◌≡◌, ℕ, ◌+◌, ◌<◌, ◌≤◌, ◌^◌, ◌/◌, ◌%◌, List, [], ◌∷◌, ◌++◌, length, ap, sym, ◌∙◌, append_assoc, length-append, arith, rules}
use Rattle.std.specs.Fmt.{decimal}
use Rattle.std.proofs.lemmas.Fmt.{decimal_digit, decimal_nonempty, decimal_step}
use Rattle.fr_trace.proofs.dev_line.DevLine.+digits.Goals as goal

length-decimal_step : (n : ℕ) → 10 ≤ n → n < 2 ^ 64 → length (decimal n) ≡ length (decimal (n / 10)) + 1
length-decimal_step n more fits = ap length (decimal_step n more fits) ∙ length-append (decimal (n / 10)) ((48 + n % 10) ∷ [])

pub digits-requires : goal.digits-requires
digits-requires t c =
    let step = length-decimal_step c.args.value c.if-value-ge10.true (search rules) in
    (omega arith, omega (arith, step))

pub returns-then-value-ge10 : goal.returns-then-value-ge10
returns-then-value-ge10 t c =
    c.digits.ensures
    ∙ ap (λ (xs : List ℕ). decimal (c.args.value / 10) ++ xs) c.byte.ensures.bytes
    ∙ sym (append_assoc (decimal (c.args.value / 10)) ((48 + c.args.value % 10) ∷ []) c.args.self.now)
    ∙ ap (λ (xs : List ℕ). xs ++ c.args.self.now) (sym (decimal_step c.args.value c.if-value-ge10.true (search rules)))

pub returns-else-value-ge10 : goal.returns-else-value-ge10
returns-else-value-ge10 t c =
    let same : c.args.value % 10 ≡ c.args.value = omega (arith, c.if-value-ge10.false) in
    c.byte.ensures.bytes
    ∙ ap (λ (k : ℕ). (48 + k) ∷ c.args.self.now) same
    ∙ ap (λ (xs : List ℕ). xs ++ c.args.self.now) (sym (decimal_digit c.args.value c.if-value-ge10.false))

pub byte-requires : goal.byte-requires
byte-requires t c = omega (arith, decimal_nonempty c.args.value (search rules), c.requires)
