use Rattle.std.proofs.Common.{refl, rules}
use Rattle.fr_world.proofs.cycling.begin_one.Goals as goal

pub returns : goal.returns
returns c = record {
  node_is = search rules;
  ready = record {
    fits = c.begin.ensures.fits c.args.files.now.params c.requires.waiting.fits;
    under_way = rw c.begin.ensures.value refl;
    correct = rw c.begin.ensures.value c.requires.waiting.correct;
    in_cycle = rw c.begin.ensures.value c.requires.waiting.in_cycle;
  };
}
