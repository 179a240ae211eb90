use Rattle.fr_observe.specs.Faults.{slot_faults}
use Rattle.fr_observe.proofs.Told.{told_all, told_cut, told_then}
use Rattle.fr_findings.specs.Ground.{basis_in, double_in}
use Rattle.fr_findings.specs.Verdict.{own_told}
use Rattle.fr_findings.proofs.Printing.{own-is}
use Rattle.fr_findings.proofs.contradicting.put_own.Goals as goal

pub returns-in_err-put_own_faults : goal.returns-in_err-put_own_faults
unfolding own_told
returns-in_err-put_own_faults g c =
    let b = basis_in c.args.ground.now in
    let d = double_in c.args.double.now in
    let own = own-is c.args.ground.now c.args.double.now c.scene_of.result d.offending.untimely c.scene_of.ensures.value in
    told_cut _ (slot_faults b.params d.offending.irregular) (told_all own c.in_err-put_own_faults.ensures) c.from_residual.ensures.0

pub returns : goal.returns
unfolding own_told
returns g c =
    let d = double_in c.args.double.now in
    let own = own-is c.args.ground.now c.args.double.now c.scene_of.result d.offending.untimely c.scene_of.ensures.value in
    told_then _ (told_all own c.in_ok-put_own_faults.ensures) c.put_slot_faults.ensures
