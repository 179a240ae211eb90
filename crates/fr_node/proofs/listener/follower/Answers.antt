use Rattle.std.proofs.Common.{◌≡◌, ℤ, pos, true, false, Some, ap, ap₂, sym, ◌∙◌, FitsSigned, w32, w64, rules, arith}
use Rattle.std.specs.Prelude.{int_le, int_lt}
use Rattle.std.proofs.lemmas.Int.{ints, to_z-of_z}
use Rattle.fr_node.specs.Listening.{caught_in, follower_by, follower_of, is_in_limit}
use Rattle.fr_node.proofs.Beginning.{no_start, not_low, one_begins}
use Rattle.fr_node.proofs.listener.follower.Goals as goal

pub returns-then-start-lt0-clause-value : goal.returns-then-start-lt0-clause-value
returns-then-start-lt0-clause-value c =
    let start : FitsSigned w64 c.first_start-start.result = omega (arith, ints, c.first_start-start.ensures.within.low, c.first_start-start.ensures.within.high) in
    let low = simp to_z-of_z at c.if-start-lt0.true in
    let fails : int_le (pos 0) c.first_start-start.result ≡ false = grind (arith, ints, low) in
    sym (no_start c.args.params.now c.args.id c.args.cycle (caught_in c.args.caught.now) (ap (int_le (pos 0)) (sym c.first_start-start.ensures.value) ∙ fails))

pub returns-clause-value : goal.returns-clause-value
returns-clause-value c =
    let p = c.args.params.now in
    let id = c.args.id in
    let cycle = c.args.cycle in
    let k = caught_in c.args.caught.now in
    let start : FitsSigned w64 c.first_start-start.result = omega (arith, ints, c.first_start-start.ensures.within.low, c.first_start-start.ensures.within.high) in
    let rate : FitsSigned w32 c.in-Some.rate = search rules in
    let high : int_lt c.first_start-start.result (pos 0) ≡ false = simp to_z-of_z at c.if-start-lt0.false in
    let there : int_le (pos 0) c.first_start-start.result ≡ true = not_low c.first_start-start.result high in
    let made : c.following.result ≡ follower_of p id cycle c.first_start-start.result c.in-Some.rate = simp to_z-of_z at c.following.ensures.value in
    let whole : c.following.result ≡ follower_by p id cycle k =
    made ∙ ap₂ (λ (s : ℤ) (r : ℤ). follower_of p id cycle s r) c.first_start-start.ensures.value c.in-Some.ensures.value in
    ap Some whole
    ∙ sym (one_begins p id cycle k (ap (is_in_limit p.rate_limit) (sym c.in-Some.ensures.value) ∙ c.in-Some.ensures.some) (ap (int_le (pos 0)) (sym c.first_start-start.ensures.value) ∙ there))
