use Rattle.std.proofs.Common.{◌≡◌, subst}
use Rattle.fr_history.specs.Next.{cycles_of}
use Rattle.fr_world.proofs.NodeIn.{followed-kept}
use Rattle.fr_air.proofs.OneCycle.{next-one}
use Rattle.fr_air.specs.Files.{setting_in}
use Rattle.fr_world.specs.World.{followed_last, world_cycles, WorldView}
use Rattle.fr_world.proofs.world.World.following.Goals as goal

pub returns : goal.returns
returns c =
    let x = setting_in c.self.inside.files in
    let n = c.self.inside.next in
    let P : WorldView → Type 0 = λ w. c.following.result ≡ followed_last (world_cycles w) in
    subst P c.self.view_is
    (followed-kept x (cycles_of x n) c.self.inside.stage.followers (next-one x n) c.self.invariant.stands.followers_are c.following.result c.following.ensures.0 c.following.ensures.1)
