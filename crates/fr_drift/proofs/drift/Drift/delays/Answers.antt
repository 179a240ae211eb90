use Rattle.std.proofs.Common.{refl}
use Rattle.fr_base.specs.declared.channel.Channel.TheVariants as channel
use Rattle.fr_drift.proofs.drift.Drift.delays.Goals as goal

pub returns-in-A : goal.returns-in-A
returns-in-A c = record {
  same = λ sender receiver from. rw (← c.self.view_is, c.in-A.is) refl;
  proper = c.self.invariant.delays channel.A;
}

pub returns-in-B : goal.returns-in-B
returns-in-B c = record {
  same = λ sender receiver from. rw (← c.self.view_is, c.in-B.is) refl;
  proper = c.self.invariant.delays channel.B;
}
