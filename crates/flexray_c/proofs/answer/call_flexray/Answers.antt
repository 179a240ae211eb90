use Rattle.fr_whole.specs.Whole.{flexray_program}
use Rattle.fr_program.specs.Program.{texts}
use Rattle.flexray_c.proofs.Calls.{answered}
use Rattle.flexray_c.specs.Lent.{lent_state}
use Rattle.flexray_c.proofs.answer.call_flexray.Goals as goal

pub returns : goal.returns
returns c = answered flexray_program (texts c.args.words.now) (lent_state c.args.files) c.flexray-status.new.shelf c.new-text.result c.new-line.result c.flexray-status.new.out c.flexray-status.new.err c.flexray-status.result _ _ c.new-text.ensures c.new-line.ensures c.flexray-status.ensures.ends c.flexray-status.ensures.complete c.flexray-status.ensures.unwritten c.flexray-status.ensures.untold c.hand_over.ensures
