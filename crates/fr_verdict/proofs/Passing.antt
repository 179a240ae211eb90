-- The search goes on behind a part of the items.
use Rattle.std.proofs.Common.{◌≡◌, ℕ, suc, ◌+◌, [], ◌∷◌, length, Option, Some, None, refl, ap, ◌∙◌, arith}
use Rattle.std.specs.Option.{option_or}
use Rattle.fr_verdict.specs.Search.{PassesInParts, breach_at, first_from}
use Rattle.fr_verdict.specs.declared.unlawful.Unlawful.{Unlawful}

or_along : (a b c : Option Unlawful) → option_or a (option_or b c) ≡ option_or (option_or a b) c
or_along None b c = refl
or_along (Some u) b c = refl

pub passes_in_parts : PassesInParts
unfolding first_from
passes_in_parts p t n [] ys = let e : n ≡ n + 0 = omega arith in ap (λ (m : ℕ). first_from p t m ys) e
passes_in_parts p t n (item ∷ xs) ys =
    let e : suc n + length xs ≡ n + suc (length xs) = omega arith in
    ap (option_or (breach_at p t n item)) (passes_in_parts p t (suc n) xs ys)
    ∙ or_along (breach_at p t n item) (first_from p t (suc n) xs) (first_from p t (suc n + length xs) ys)
    ∙ ap (λ (m : ℕ). option_or (option_or (breach_at p t n item) (first_from p t (suc n) xs)) (first_from p t m ys)) e
