-- Numbers that are halved, rounded down, come to 0 soon.
use Rattle.std.proofs.Common.{◌≡◌, ℕ, zero, suc, ◌+◌, ◌*◌, ◌<◌, ◌≤◌, refl, ap, sym, ◌∙◌, subst, arith}
use Rattle.std.specs.Prelude.{◌/◌, ◌^◌}
use Rattle.std.proofs.Math.Nat.{pow-suc}

-- halved so often
unfoldable pub halved : ℕ → ℕ → ℕ
halved number zero = number
halved number (suc times) = halved number times / 2

-- once more at the beginning is once more at the end
halved_first : (number times : ℕ) → halved (number / 2) times ≡ halved number (suc times)
unfolding halved
halved_first number zero = refl
halved_first number (suc times) = ap (λ (n : ℕ). n / 2) (halved_first number times)

half_below : (number power : ℕ) → number < power * 2 → number / 2 < power
half_below number power less = omega (arith, less)

halved_not : (number : ℕ) → number ≡ halved number 0
unfolding halved
halved_not number = refl

none_below_one : (number : ℕ) → number < 2 ^ 0 → number ≡ 0
none_below_one number less = omega (arith, less)

pub halved_to_none : (number times : ℕ) → number < 2 ^ times → halved number times ≡ 0
halved_to_none number zero less = sym (halved_not number) ∙ none_below_one number less
halved_to_none number (suc times) less =
    sym (halved_first number times) ∙ halved_to_none (number / 2) times (half_below number (2 ^ times) (subst (λ (n : ℕ). number < n) (pow-suc 2 times) less))

pub halved_no_more : (number times : ℕ) → halved number times ≤ number
unfolding halved
halved_no_more number zero = omega arith
halved_no_more number (suc times) = let before = halved_no_more number times in omega (arith, before)

-- a number that gains six times another one, and both are halved
unfoldable pub gaining : ℕ → ℕ → ℕ → ℕ
gaining number other zero = number
gaining number other (suc times) = (gaining number other times + 6 * halved other times) / 2

pub gaining_no_more : (number other most times : ℕ) → number ≤ 6 * most → other ≤ most → gaining number other times ≤ 6 * most
unfolding gaining
gaining_no_more number other most zero from to = from
gaining_no_more number other most (suc times) from to =
    let before = gaining_no_more number other most times from to in
    let gain = halved_no_more other times in
    omega (arith, before, gain, to)

-- once the other one has come to 0
none_next : (other times : ℕ) → halved other times ≡ 0 → halved other (suc times) ≡ 0
unfolding halved
none_next other times none = omega (arith, none)

none_stays : (other times more : ℕ) → halved other times ≡ 0 → halved other (times + more) ≡ 0
none_stays other times zero none = let same : times ≡ times + 0 = omega arith in subst (λ (n : ℕ). halved other n ≡ 0) same none
none_stays other times (suc more) none =
    let same : suc (times + more) ≡ times + suc more = omega arith in
    subst (λ (n : ℕ). halved other n ≡ 0) same (none_next other (times + more) (none_stays other times more none))

gaining_step : (number other times begin more : ℕ) → halved other times ≡ 0 → gaining number other times ≡ halved begin more → gaining number other (suc times) ≡ halved begin (suc more)
unfolding gaining halved
gaining_step number other times begin more none same =
    let sum : gaining number other times + 6 * halved other times ≡ halved begin more = omega (arith, none, same) in
    ap (λ (n : ℕ). n / 2) sum

gaining_no_longer : (number other times more : ℕ) → halved other times ≡ 0 → gaining number other (times + more) ≡ halved (gaining number other times) more
gaining_no_longer number other times zero none =
    let same : times + 0 ≡ times = omega arith in
    ap (gaining number other) same ∙ halved_not (gaining number other times)
gaining_no_longer number other times (suc more) none =
    let same : times + suc more ≡ suc (times + more) = omega arith in
    ap (gaining number other) same
    ∙ gaining_step number other (times + more) (gaining number other times) more (none_stays other times more none) (gaining_no_longer number other times more none)

-- numbers of at most 10 ^ 12 have all come to 0 after 83 steps
pub none_after : (number other : ℕ) → number ≤ 1_000_000_000_000 → other ≤ 1_000_000_000_000 → (halved other 83 ≡ 0) × (gaining number other 83 ≡ 0)
none_after number other from to =
    let first : halved other 40 ≡ 0 = halved_to_none other 40 (below other to) in
    let bound : gaining number other 40 ≤ 6 * 1_000_000_000_000 = gaining_no_more number other 1_000_000_000_000 40 (omega (arith, from)) to in
    let second : halved (gaining number other 40) 43 ≡ 0 = halved_to_none (gaining number other 40) 43 (below_later (gaining number other 40) bound) in
    (none_stays other 40 43 first, gaining_no_longer number other 40 43 first ∙ second)
  where
    below : (n : ℕ) → n ≤ 1_000_000_000_000 → n < 2 ^ 40
    below n le = let power : 2 ^ 40 ≡ 1_099_511_627_776 = refl in omega (arith, le, power)

    below_later : (n : ℕ) → n ≤ 6 * 1_000_000_000_000 → n < 2 ^ 43
    below_later n le = let power : 2 ^ 43 ≡ 8_796_093_022_208 = refl in omega (arith, le, power)
