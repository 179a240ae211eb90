-- The least number that passes a test: looked for in ascending order.
use Rattle.std.proofs.Common.{◌≡◌, ◌∙◌, ℕ, suc, ◌+◌, ◌-◌, ◌<◌, ◌≤◌, Bool, true, false, cond, Option, Some, None, sym, ap, arith}
use Rattle.std.specs.List.{find, range_with_len}

module _ (test : ℕ → Bool) where
  -- that of those from one on
  abbrev pub least_from : ℕ → ℕ → Option ℕ
  least_from place most = find test (range_with_len place (most - place))

  first : (place most : ℕ) → place < most → least_from place most ≡ cond (test place) (Some place) (least_from (place + 1) most)
  first place most lt =
      let more : most - place ≡ suc (most - (place + 1)) = omega (arith, lt) in
      ap (λ (n : ℕ). find test (range_with_len place n)) more

  pub least-later : (place most : ℕ) → place < most → test place ≡ false → least_from (place + 1) most ≡ least_from place most
  least-later place most lt fails =
      sym (first place most lt ∙ ap (λ (b : Bool). cond b (Some place) (least_from (place + 1) most)) fails)

  pub least-here : (place most : ℕ) → place < most → test place ≡ true → Some place ≡ least_from place most
  least-here place most lt passes =
      sym (first place most lt ∙ ap (λ (b : Bool). cond b (Some place) (least_from (place + 1) most)) passes)

  pub least-none : (place most : ℕ) → most ≤ place → None ≡ least_from place most
  least-none place most le =
      let none : most - place ≡ 0 = omega (arith, le) in
      sym (ap (λ (n : ℕ). find test (range_with_len place n)) none)
