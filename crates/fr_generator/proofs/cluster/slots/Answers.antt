use Rattle.std.proofs.Common.{refl}
use Rattle.fr_generator.specs.Cluster.{slots_to}
use Rattle.fr_generator.proofs.cluster.slots.Goals as goal

pub returns : goal.returns
unfolding slots_to
returns c =
    rw (c.slot.ensures, c.slot-2.ensures, c.slot-3.ensures, c.slot-4.ensures, c.slot-5.ensures, c.slot-6.ensures, c.slot-7.ensures, c.slot-8.ensures, c.slot-9.ensures, c.slot-10.ensures, c.slot-11.ensures, c.slot-12.ensures, c.slot-13.ensures, c.slot-14.ensures, c.slot-15.ensures, c.slot-16.ensures) refl
