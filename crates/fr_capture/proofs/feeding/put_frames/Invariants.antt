use Rattle.std.proofs.Common.{◌-◌, length}
use Rattle.fr_capture.proofs.Going.{Going}
use Rattle.fr_capture.proofs.feeding.put_frames.Given as goal

-- the lines of the frames of what was fed so far were put, or wait
abbrev pub invariant-loop-done : goal.invariant-loop-done
invariant-loop-done g l = Going l.initial.capture.channel l.capture l.bytes l.waiting.bytes l.done l.count (g.O.Sink.state l.initial.out) (g.O.Sink.state l.out)

abbrev pub decreases-loop-done : goal.decreases-loop-done
decreases-loop-done g l = length l.bytes - l.done
