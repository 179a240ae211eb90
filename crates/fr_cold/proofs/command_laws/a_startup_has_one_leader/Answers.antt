use Rattle.std.proofs.Common.{refl}
use Rattle.fr_cold.specs.Questions.{switches_of}
use Rattle.fr_cold.proofs.command_laws.a_startup_has_one_leader.Goals as goal

pub returns : goal.returns
returns c = λ p v sane fits. record {
  shown = refl;
  one_leader = λ joined. c.at_most_one_leads.ensures p (switches_of p v) sane (c.switched_on_once.ensures.starters p v) joined;
  first_leads = λ joined never at node first.
      c.the_first_leads.ensures p (switches_of p v) at node sane (c.switched_on_once.ensures.starters p v) joined (c.switched_on_once.ensures.once p v fits never) first;
}
