use Rattle.std.proofs.Common.{refl, sym, ◌∙◌}
use Rattle.std.specs.Prelude.{codes}
use Rattle.fr_cold.specs.Cold.{state_in}
use Rattle.fr_cold.proofs.Texts.{leading-none, leading-some}
use Rattle.fr_cold.proofs.printing.put_leading.Goals as goal

pub put_text-requires : goal.put_text-requires
put_text-requires g c = record { front = codes "leading none"; ended = refl }

pub returns-then-does_any_lead : goal.returns-then-does_any_lead
returns-then-does_any_lead g c = rw (leading-some (state_in c.args.cold.now.states) (sym c.does_any_lead.ensures ∙ c.if-does_any_lead.true)) c.put_each_leading.ensures

pub returns-else-does_any_lead : goal.returns-else-does_any_lead
returns-else-does_any_lead g c = rw (leading-none (state_in c.args.cold.now.states) (sym c.does_any_lead.ensures ∙ c.if-does_any_lead.false)) c.put_text.ensures
