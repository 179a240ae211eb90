use Rattle.std.proofs.Common.{◌≡◌, ◌+◌, ◌/◌, ◌%◌, length, ap, ◌∙◌, arith, ◌++◌, List, ℕ, rules}
use Rattle.std.specs.Fmt.{decimal}
use Rattle.fr_text.proofs.Decimals.{append_both, append_digit, append_two, length_digit, length_two_more, length_two_only, two_digits}
use Rattle.fr_text.proofs.draft.Draft.+natural.Goals as goal

pub natural-requires : goal.natural-requires
natural-requires t c =
    let more = length_two_more c.args.value c.if-value-ge100.true (search rules) in
    (omega arith, omega (arith, more))

pub two_digits-requires-clause-room : goal.two_digits-requires-clause-room
two_digits-requires-clause-room t c =
    let more = length_two_more c.args.value c.if-value-ge100.true (search rules) in
    let before : length c.natural.new.self ≡ length c.args.self.now + length (decimal (c.args.value / 100)) = c.natural.ensures.long in
    omega (arith, more, before)

pub two_digits-requires-then-value-ge10-clause-room : goal.two_digits-requires-then-value-ge10-clause-room
two_digits-requires-then-value-ge10-clause-room t c = omega (arith, length_two_only c.args.value c.if-value-ge10.true (omega arith))

pub byte-requires : goal.byte-requires
byte-requires t c = omega (arith, length_digit c.args.value (omega arith))

pub returns-then-value-ge100-clause-bytes : goal.returns-then-value-ge100-clause-bytes
returns-then-value-ge100-clause-bytes t c =
    c.two_digits.ensures.bytes
    ∙ ap (λ (text : List ℕ). text ++ two_digits (c.args.value % 100)) c.natural.ensures.bytes
    ∙ append_two c.args.self.now c.args.value c.if-value-ge100.true (search rules)

pub returns-then-value-ge100-clause-long : goal.returns-then-value-ge100-clause-long
returns-then-value-ge100-clause-long t c =
    let more = length_two_more c.args.value c.if-value-ge100.true (search rules) in
    let before : length c.natural.new.self ≡ length c.args.self.now + length (decimal (c.args.value / 100)) = c.natural.ensures.long in
    let after : length c.two_digits.new.self ≡ length c.natural.new.self + 2 = c.two_digits.ensures.long in
    omega (arith, more, before, after)

pub returns-then-value-ge10-clause-bytes : goal.returns-then-value-ge10-clause-bytes
returns-then-value-ge10-clause-bytes t c = c.two_digits-then-value-ge10.ensures.bytes ∙ append_both c.args.self.now c.args.value c.if-value-ge10.true (omega arith)

pub returns-then-value-ge10-clause-long : goal.returns-then-value-ge10-clause-long
returns-then-value-ge10-clause-long t c =
    let after : length c.two_digits-then-value-ge10.new.self ≡ length c.args.self.now + 2 = c.two_digits-then-value-ge10.ensures.long in
    omega (arith, length_two_only c.args.value c.if-value-ge10.true (omega arith), after)

pub returns-else-value-ge10-clause-bytes : goal.returns-else-value-ge10-clause-bytes
returns-else-value-ge10-clause-bytes t c = c.byte.ensures.bytes ∙ append_digit c.args.self.now c.args.value (omega arith)

pub returns-else-value-ge10-clause-long : goal.returns-else-value-ge10-clause-long
returns-else-value-ge10-clause-long t c =
    let after : length c.byte.new.self ≡ length c.args.self.now + 1 = c.byte.ensures.long in
    omega (arith, length_digit c.args.value (omega arith), after)
