-- What flutter stated delays have.
use Rattle.std.proofs.Common.{suc, ◌*◌, arith}
use Rattle.fr_runs.specs.Flutter.{StatedDelaysFlutter}
use Rattle.fr_precision.proofs.SteadyLemmas.{delays_flutter_little}

pub stated_delays_flutter_lem : StatedDelaysFlutter
stated_delays_flutter_lem x from stated sender receiver slot channel double linked share late within =
    let early = stated sender receiver slot channel (2 * double) linked share (omega (arith, late)) (omega (arith, within)) in
    let late = stated sender receiver slot channel (suc (2 * double)) linked share (omega (arith, late)) (omega (arith, within)) in
    (delays_flutter_little x.params channel (x.delay sender.id receiver.id channel (2 * double)) (x.delay sender.id receiver.id channel (suc (2 * double))) early late).0
