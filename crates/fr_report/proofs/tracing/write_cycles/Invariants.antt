use Rattle.std.proofs.Common.{◌≡◌}
use Rattle.fr_program.specs.Gathered.{PutsOn}
use Rattle.fr_world.specs.World.{setting_after}
use Rattle.fr_report.proofs.Texts.{text_of_cycles}
use Rattle.fr_report.proofs.tracing.write_cycles.Given as goal

-- the lines of the cycles so far are put, or wait
abbrev pub invariant-loop-done : goal.invariant-loop-done
invariant-loop-done g l = record {
  ran : l.world ≡ record l.fn.world { cycles = l._done };
  text : PutsOn l.fn.waiting.bytes l.waiting.bytes (g.O.Sink.state l.fn.out) (g.O.Sink.state l.out) (text_of_cycles (setting_after l.fn.world) l._done);
}
