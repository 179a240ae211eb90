use Rattle.fr_series.specs.Request.{series_program}
use Rattle.fr_program.specs.Program.{texts}
use Rattle.flexray_c.proofs.Calls.{answered}
use Rattle.flexray_c.specs.Lent.{lent_state}
use Rattle.flexray_c.proofs.answer.call_series.Goals as goal

pub returns : goal.returns
returns c = answered series_program (texts c.args.words.now) (lent_state c.args.files) c.flexray_series-status.new.shelf c.new-text.result c.new-line.result c.flexray_series-status.new.out c.flexray_series-status.new.err c.flexray_series-status.result _ _ c.new-text.ensures c.new-line.ensures c.flexray_series-status.ensures.ends c.flexray_series-status.ensures.complete c.flexray_series-status.ensures.unwritten c.flexray_series-status.ensures.untold c.hand_over.ensures
