use Rattle.std.proofs.Common.{◌≡◌, ◌+◌, ◌/◌, ◌%◌, length, ap, ◌∙◌, arith, [], ◌∷◌, ◌++◌, List, ℕ, rules}
use Rattle.std.specs.Fmt.{decimal}
use Rattle.fr_sharp.proofs.DigitTexts.{append_last, append_only, length_more, length_one}
use Rattle.fr_sharp.proofs.digits.Digits.+append.Goals as goal

pub append-requires : goal.append-requires
append-requires t c =
    let more = length_more c.args.value c.if-value-ge10.true (search rules) in
    (omega arith, omega (arith, more))

pub digit-requires-clause-room : goal.digit-requires-clause-room
digit-requires-clause-room t c =
    let more = length_more c.args.value c.if-value-ge10.true (search rules) in
    let before : length c.append.new.self ≡ length c.args.self.now + length (decimal (c.args.value / 10)) = c.append.ensures.long in
    omega (arith, more, before)

pub digit-requires-else-value-ge10-clause-room : goal.digit-requires-else-value-ge10-clause-room
digit-requires-else-value-ge10-clause-room t c = omega (arith, length_one c.args.value (omega arith))

pub returns-then-value-ge10-clause-bytes : goal.returns-then-value-ge10-clause-bytes
returns-then-value-ge10-clause-bytes t c =
    c.digit.ensures.bytes
    ∙ ap (λ (text : List ℕ). text ++ (48 + c.args.value % 10) ∷ []) c.append.ensures.bytes
    ∙ append_last c.args.self.now c.args.value c.if-value-ge10.true (search rules)

pub returns-then-value-ge10-clause-long : goal.returns-then-value-ge10-clause-long
returns-then-value-ge10-clause-long t c =
    let more = length_more c.args.value c.if-value-ge10.true (search rules) in
    let before : length c.append.new.self ≡ length c.args.self.now + length (decimal (c.args.value / 10)) = c.append.ensures.long in
    let after : length c.digit.new.self ≡ length c.append.new.self + 1 = c.digit.ensures.long in
    omega (arith, more, before, after)

pub returns-else-value-ge10-clause-bytes : goal.returns-else-value-ge10-clause-bytes
returns-else-value-ge10-clause-bytes t c = c.digit-else-value-ge10.ensures.bytes ∙ append_only c.args.self.now c.args.value (omega arith)

pub returns-else-value-ge10-clause-long : goal.returns-else-value-ge10-clause-long
returns-else-value-ge10-clause-long t c =
    let after : length c.digit-else-value-ge10.new.self ≡ length c.args.self.now + 1 = c.digit-else-value-ge10.ensures.long in
    omega (arith, length_one c.args.value (omega arith), after)
