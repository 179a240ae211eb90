use Rattle.std.proofs.Common.{subst, sym}
use Rattle.fr_base.specs.Device.{IsEnded}
use Rattle.fr_program.proofs.Endings.{cut_short, whole}
use Rattle.fr_text.proofs.Commands.{Asks-none}
use Rattle.fr_whole.proofs.PageEnds.{page_is_ended}
use Rattle.fr_whole.proofs.pages.answer_page.Goals as goal

pub put_text-requires : goal.put_text-requires
put_text-requires g c = subst IsEnded (sym c.text_of.ensures) (page_is_ended c.args.page)

pub returns-in-Ok-clause-ends : goal.returns-in-Ok-clause-ends
returns-in-Ok-clause-ends g c = λ shelf.
    whole _ _ _ _ (record { is_text = c.text_of.ensures; asked = Asks-none shelf.asked }) c.in-Ok.ensures

pub returns-in-Err-clause-ends : goal.returns-in-Err-clause-ends
returns-in-Err-clause-ends g c = λ shelf.
    cut_short _ _ _ _ (record { is_text = c.text_of.ensures; asked = Asks-none shelf.asked }) c.in-Err.ensures
