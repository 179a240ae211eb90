use Rattle.std.proofs.Common.{◌≡◌, ◌∙◌, ◌+◌, ◌++◌, [], ◌∷◌, Bool, ℕ, true, false, length, ap, arith}
use Rattle.std.specs.List.{range_with_len}
use Rattle.std.proofs.lemmas.List.FromFn.{length-range_with_len}
use Rattle.std.specs.Prelude.{is_some}
use Rattle.fr_cluster.specs.Questions.{key_index_of}
use Rattle.fr_air.proofs.OneCycle.{length-kept}
use Rattle.fr_world.proofs.Fresh.{dropped-more, kept-more}
use Rattle.fr_world.proofs.building.key_slots_of.Goals as goal
use Rattle.fr_world.proofs.building.key_slots_of.Goals.{then-is_some+in_ok-push, else-is_some}

pub loop-earlier-preserved : goal.loop-earlier-preserved
loop-earlier-preserved c =
    let k = c.loop-earlier.earlier in
    let test : ℕ → Bool = λ slot. is_some (key_index_of c.args.params.now slot) in
    elim c.if-is_some.branch [
      | then-is_some+in_ok-push w ↦
          let passes : test (k + 1) ≡ true = cc in
          let pushed : c.if-is_some.keys.items ≡ c.loop-earlier.keys.items ++ (k + 1) ∷ [] = ap (λ v. v.items) w.keys-is ∙ w.in_ok-push.ensures.items in
          kept-more test k c.loop-earlier.keys.items c.if-is_some.keys.items c.loop-earlier.invariant pushed passes
      | else-is_some w ↦
          let fails : test (k + 1) ≡ false = cc in
          dropped-more test k c.loop-earlier.keys.items c.if-is_some.keys.items c.loop-earlier.invariant (ap (λ v. v.items) w.keys-is) fails
    ]

pub returns-clause-few : goal.returns-clause-few
returns-clause-few c =
    let test : ℕ → Bool = λ slot. is_some (key_index_of c.args.params.now slot) in
    let k = c.loop-earlier.earlier in
    omega (arith, ap length c.loop-earlier.invariant, length-kept test (range_with_len 1 k), length-range_with_len 1 k)
