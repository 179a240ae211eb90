use Rattle.std.proofs.Common.{◌∙◌, Option, sym, subst}
use Rattle.std.specs.Prelude.{All, IfSome}
use Rattle.fr_node.specs.Fits.{NodeFits}
use Rattle.fr_node.specs.View.{NodeView}
use Rattle.fr_world.proofs.Beginners.{begun-room}
use Rattle.fr_world.proofs.Passed.{All-put}
use Rattle.fr_world.specs.Succeeding.{first_now}
use Rattle.fr_world.proofs.beginning.begin_one.Goals as goal

pub put-requires-clause-few : goal.put-requires-clause-few
put-requires-clause-few c =
    let a = c.args in
    begun-room c.in-Some.node (first_now a.files.now a.cycle a.listener.now) a.followers.now.items (sym c.first.ensures.value ∙ c.in-Some.is) c.requires.few

pub returns-in-Some-clause-fit : goal.returns-in-Some-clause-fit
returns-in-Some-clause-fit c =
    let a = c.args in
    let P : NodeView → Type 0 = NodeFits a.files.now.params in
    let fits : P c.in-Some.node = subst (λ (o : Option NodeView). IfSome o P) c.in-Some.is c.first.ensures.fits in
    subst (All P) (sym c.put.ensures.placed) (All-put P (λ (n : NodeView). n.id) c.in-Some.node a.followers.now.items fits c.requires.fit)
