use Rattle.std.proofs.Common.{◌≡◌, ◌+◌, ◌*◌, rules}
use Rattle.fr_observe.specs.Faults.{skew_fault}
use Rattle.fr_observe.specs.Observing.{even_high, even_low, odd_high, odd_low}
use Rattle.fr_observe.proofs.Told.{told_cut, told_is, told_then}
use Rattle.fr_observe.proofs.apart_faults.put_skews.Goals as goal

pub returns-in_err-tell : goal.returns-in_err-tell
returns-in_err-tell g c =
    let s = c.args.scene.now in
    let skews = c.requires.scene.skews in
    let even : c.skew_fault.result ≡ skew_fault c.args.bound (2 * s.number) (even_low s.scale.now s.senders.now) (even_high s.scale.now s.senders.now) = search rules in
    told_cut _ _ (told_is even c.in_err-tell.ensures) c.from_residual.ensures.0

pub returns : goal.returns
returns g c =
    let s = c.args.scene.now in
    let skews = c.requires.scene.skews in
    let even : c.skew_fault.result ≡ skew_fault c.args.bound (2 * s.number) (even_low s.scale.now s.senders.now) (even_high s.scale.now s.senders.now) = search rules in
    let odd : c.skew_fault-2.result ≡ skew_fault c.args.bound (2 * s.number + 1) (odd_low s.scale.now s.senders.now) (odd_high s.scale.now s.senders.now) = search rules in
    told_then _ (told_is even c.in_ok-tell.ensures) (told_is odd c.tell-2.ensures)
