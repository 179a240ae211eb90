use Rattle.std.proofs.Common.{◌≡◌, ◌∙◌, ℕ, List, Some, length, refl, ap, sym, arith}
use Rattle.std.specs.Prelude.{slice_get}
use Rattle.std.proofs.lemmas.Grind.{common_steps}
use Rattle.std.proofs.lemmas.Option.{gets, same_Some}
use Rattle.fr_pool.specs.Pool.{PoolView, written_in}
use Rattle.fr_pool.proofs.pool.Pool.write.Goals as goal

pub returns : goal.returns
returns c =
    let place : ℕ = c.cell.inside.place in
    let bytes : slice_get c.args.self.now.bytes c.args.cell.now ≡ Some c.as_mut_slice.result.now = grind (arith, common_steps, gets) in
    let read : slice_get c.args.self.now.bytes c.args.cell.now ≡ Some c.read-whole.result.now = ap (λ (p : PoolView). slice_get p.bytes c.args.cell.now) (sym c.self.view_is) ∙ c.read-whole.ensures.bytes in
    let whole : (w : List ℕ) → written_in place w c.args.self.now ≡ written_in c.args.cell.now w c.args.self.now = λ w. ap (λ (k : ℕ). written_in k w c.args.self.now) c.cell.view_is in
    ((refl, λ w. ap (written_in place w) c.self.view_is ∙ whole w), record { writes_back = tt; bytes = bytes; whole = ap length (same_Some _ _ (sym bytes ∙ read)) ∙ c.read-whole.ensures.whole })
