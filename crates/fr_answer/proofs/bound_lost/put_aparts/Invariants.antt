use Rattle.std.proofs.Common.{◌≡◌, ◌-◌}
use Rattle.std.specs.Prelude.{Result}
use Rattle.fr_base.specs.Device.{Puts, Sunk}
use Rattle.fr_base.specs.declared.sink.PutFault.{PutFault}
use Rattle.fr_precision.specs.Among.{lost_spread}
use Rattle.fr_sharp.specs.LossCosts.{heard_behind}
use Rattle.fr_answer.specs.LossText.{loss_apart_lines}
use Rattle.fr_answer.proofs.bound_lost.put_aparts.Given as goal

-- the spread of this double cycle; and what puts the lines that are left puts all of them
abbrev pub invariant-loop-double : goal.invariant-loop-double
invariant-loop-double g l = record {
  spread : l.spread.spread ≡ lost_spread l.params l.flutter (heard_behind l.count) l.double;
  passed : l.spread.passed ≡ l.double;
  puts :
      (result : Result (Unit {0}) PutFault) (after : Sunk)
      → Puts result (g.O.Sink.state l.out) after (loss_apart_lines l.params l.flutter l.count l.double (l.doubles - l.double))
      → Puts result (g.O.Sink.state l.fn.out) after (loss_apart_lines l.params l.flutter l.count 0 l.doubles);
}
