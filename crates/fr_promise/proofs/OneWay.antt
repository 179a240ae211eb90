-- What is told of the way to sharp sync is one answer.
use Rattle.std.proofs.Common.{◌≡◌, ◌∙◌, ℕ, ◌≤◌, inl, inr, Bool, true, false, ℤ, pos, Option, Some, None, refl, ap, sym, subst, arith}
use Rattle.std.proofs.lemmas.Bool.{cases_order}
use Rattle.fr_cluster.specs.Values.{Values}
use Rattle.fr_promise.specs.declared.way.SharpWay.{SharpWay}
use Rattle.fr_bound.specs.SharpChecks.{sharp_left_of, sharp_right_of}
use Rattle.fr_promise.specs.SharpWay.{apart_after, near_after, way_holds_of, FailsOnTheWay, IsGreatestTo, IsWayVerdict, OneSharpWay, SettlesSharplyAt}

one_double : (beside : Bool) (p : Values) (flutter start rate double other : ℕ) → SettlesSharplyAt beside p flutter start rate double → SettlesSharplyAt beside p flutter start rate other → double ≡ other
one_double beside p flutter start rate double other one two = elim (cases_order double other) [
  | inl same ↦ same
  | inr (inl less) ↦ absurd (two.first double less one.settled)
  | inr (inr more) ↦ absurd (one.first other more two.settled)
]

one_greatest : (f : ℕ → ℕ) (double most other : ℕ) → IsGreatestTo f double most → IsGreatestTo f double other → most ≡ other
one_greatest f double most other one two =
    let below : most ≤ other = subst (λ (n : ℕ). n ≤ other) one.reached (two.greatest one.place one.up_to) in
    let above : other ≤ most = subst (λ (n : ℕ). n ≤ most) two.reached (one.greatest two.place two.up_to) in
    omega (arith, below, above)

against : (p : Values) (flutter doubles reach k : ℕ) → way_holds_of k flutter doubles reach p ≡ false → way_holds_of k flutter doubles reach p ≡ true → ⊥
against p flutter doubles reach k fails holds = cc

one_number : (p : Values) (flutter doubles reach number other : ℕ) (left right left_too right_too : ℤ) → FailsOnTheWay p flutter doubles reach number left right → FailsOnTheWay p flutter doubles reach other left_too right_too → number ≡ other
one_number p flutter doubles reach number other left right left_too right_too one two = elim (cases_order number other) [
  | inl same ↦ same
  | inr (inl less) ↦ absurd (against p flutter doubles reach number one.fails (two.earlier number one.from less))
  | inr (inr more) ↦ absurd (against p flutter doubles reach other two.fails (one.earlier other two.from more))
]

same_triple : (one other : ℕ × ℤ × ℤ) → one.0 ≡ other.0 → one.1 ≡ other.1 → one.2 ≡ other.2 → one ≡ other
same_triple one other first second third =
    let made : ℕ → ℤ → ℤ → ℕ × ℤ × ℤ = λ a b c. (a, b, c) in
    ap (λ (a : ℕ). made a one.1 one.2) first ∙ ap (λ (b : ℤ). made other.0 b one.2) second ∙ ap (λ (c : ℤ). made other.0 other.1 c) third

one_verdict : (p : Values) (flutter doubles reach : ℕ) (one other : Option (ℕ × ℤ × ℤ)) → IsWayVerdict p flutter doubles reach one → IsWayVerdict p flutter doubles reach other → one ≡ other
one_verdict p flutter doubles reach None None one two = refl
one_verdict p flutter doubles reach None (Some failed) one two = absurd (against p flutter doubles reach failed.0 two.fails (one failed.0 two.from two.to))
one_verdict p flutter doubles reach (Some failed) None one two = absurd (against p flutter doubles reach failed.0 one.fails (two failed.0 one.from one.to))
one_verdict p flutter doubles reach (Some failed) (Some other) one two =
    let same = one_number p flutter doubles reach failed.0 other.0 failed.1 failed.2 other.1 other.2 one two in
    let left : failed.1 ≡ other.1 = one.left_is ∙ ap (λ (n : ℕ). pos (sharp_left_of n p)) same ∙ sym two.left_is in
    let right : failed.2 ≡ other.2 = one.right_is ∙ ap (λ (n : ℕ). pos (sharp_right_of n flutter reach p)) same ∙ sym two.right_is in
    ap (λ (found : ℕ × ℤ × ℤ). Some found) (same_triple failed other same left right)

same_way : (one other : SharpWay) → one.doubles ≡ other.doubles → one.peak ≡ other.peak → one.reach ≡ other.reach → one.failed ≡ other.failed → one ≡ other
same_way one other doubles peak reach failed =
    let made : ℕ → ℕ → ℕ → Option (ℕ × ℤ × ℤ) → SharpWay = λ a b c d. record { doubles = a; peak = b; reach = c; failed = d } in
    ap (λ (a : ℕ). made a one.peak one.reach one.failed) doubles
    ∙ ap (λ (b : ℕ). made other.doubles b one.reach one.failed) peak
    ∙ ap (λ (c : ℕ). made other.doubles other.peak c one.failed) reach
    ∙ ap (made other.doubles other.peak other.reach) failed

pub one_sharp_way : OneSharpWay
one_sharp_way beside p flutter start rate one other here there =
    let doubles : one.doubles ≡ other.doubles = one_double beside p flutter start rate one.doubles other.doubles here.leads.settles there.leads.settles in
    let peak_too : IsGreatestTo (apart_after beside p flutter start rate) one.doubles other.peak = subst (λ (n : ℕ). IsGreatestTo (apart_after beside p flutter start rate) n other.peak) (sym doubles) there.leads.peak_is in
    let reach_too : IsGreatestTo (near_after beside p flutter start rate) one.doubles other.reach = subst (λ (n : ℕ). IsGreatestTo (near_after beside p flutter start rate) n other.reach) (sym doubles) there.leads.reach_is in
    let peak : one.peak ≡ other.peak = one_greatest (apart_after beside p flutter start rate) one.doubles one.peak other.peak here.leads.peak_is peak_too in
    let reach : one.reach ≡ other.reach = one_greatest (near_after beside p flutter start rate) one.doubles one.reach other.reach here.leads.reach_is reach_too in
    let in_doubles : IsWayVerdict p flutter one.doubles other.reach other.failed = subst (λ (n : ℕ). IsWayVerdict p flutter n other.reach other.failed) (sym doubles) there.verdict in
    let verdict : IsWayVerdict p flutter one.doubles one.reach other.failed = subst (λ (n : ℕ). IsWayVerdict p flutter one.doubles n other.failed) (sym reach) in_doubles in
    same_way one other doubles peak reach (one_verdict p flutter one.doubles one.reach one.failed other.failed here.verdict verdict)
