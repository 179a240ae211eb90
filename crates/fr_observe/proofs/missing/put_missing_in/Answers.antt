use Rattle.std.proofs.Common.{◌≡◌, rules}
use Rattle.fr_base.specs.declared.channel.Channel.TheVariants.{A, B}
use Rattle.fr_observe.specs.Faults.{missing_by}
use Rattle.fr_observe.proofs.Told.{told_cut, told_is, told_then}
use Rattle.fr_observe.proofs.missing.put_missing_in.Goals as goal

pub returns-in_err-tell : goal.returns-in_err-tell
returns-in_err-tell g c =
    let one : c.missing_by.result ≡ missing_by c.args.scene.now.span c.args.scene.now.here.now c.args.cycle c.args.node.now A = search rules in
    told_cut _ _ (told_is one c.in_err-tell.ensures) c.from_residual.ensures.0

pub returns : goal.returns
returns g c =
    let one : c.missing_by.result ≡ missing_by c.args.scene.now.span c.args.scene.now.here.now c.args.cycle c.args.node.now A = search rules in
    let two : c.missing_by-2.result ≡ missing_by c.args.scene.now.span c.args.scene.now.here.now c.args.cycle c.args.node.now B = search rules in
    told_then _ (told_is one c.in_ok-tell.ensures) (told_is two c.tell-2.ensures)
