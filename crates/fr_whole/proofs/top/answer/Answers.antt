use Rattle.std.proofs.Common.{refl}
use Rattle.fr_program.specs.Around.{Around, around_of}
use Rattle.fr_program.specs.Program.{texts}
use Rattle.fr_program.proofs.Endings.{apart}
use Rattle.fr_answer.proofs.Undone.{undone}
use Rattle.fr_report.specs.Names.{run_names_of}
use Rattle.fr_whole.specs.ObserveAnswer.{observe_command}
use Rattle.fr_whole.specs.Pages.{page_command}
use Rattle.fr_whole.specs.PowerOnAnswer.{power_on_command}
use Rattle.fr_whole.specs.SharpCheckAnswer.{sharp_check_command}
use Rattle.fr_whole.specs.SharpReportAnswer.{sharp_report_command}
use Rattle.fr_whole.proofs.Wholes.{by_core, by_log, by_page, by_power_on, by_sharp_check, by_sharp_report, none_of_core}
use Rattle.fr_whole.proofs.top.answer.Goals as goal

pub returns-in-Log-clause-ends : goal.returns-in-Log-clause-ends
returns-in-Log-clause-ends g c =
    let around : Around = around_of (g.S.Shelf.state c.args.shelf.now) (g.S.Shelf.state c.answer_observe.new.shelf) (g.O.Sink.state c.args.out.now) (g.O.Sink.state c.answer_observe.new.out) in
    by_log (texts c.args.words.now) c.in-Log.files.params.now c.in-Log.files.log.now around c.answer_observe.result c.in-Log.ensures c.answer_observe.ensures.ends

pub returns-in-Log-clause-usage : goal.returns-in-Log-clause-usage
returns-in-Log-clause-usage g c = λ e. absurd (apart (observe_command c.in-Log.files.params.now c.in-Log.files.log.now) _ c.answer_observe.result c.answer_observe.ensures.ends e)

pub returns-in-Log-clause-unread : goal.returns-in-Log-clause-unread
returns-in-Log-clause-unread g c = λ e. absurd (apart (observe_command c.in-Log.files.params.now c.in-Log.files.log.now) _ c.answer_observe.result c.answer_observe.ensures.ends e)

pub returns-in-Log-clause-undone : goal.returns-in-Log-clause-undone
returns-in-Log-clause-undone g c =
    let around : Around = around_of (g.S.Shelf.state c.args.shelf.now) (g.S.Shelf.state c.answer_observe.new.shelf) (g.O.Sink.state c.args.out.now) (g.O.Sink.state c.answer_observe.new.out) in
    undone (observe_command c.in-Log.files.params.now c.in-Log.files.log.now) around c.answer_observe.result c.answer_observe.ensures.ends

pub returns-in-SharpReport-clause-ends : goal.returns-in-SharpReport-clause-ends
returns-in-SharpReport-clause-ends g c =
    let around : Around = around_of (g.S.Shelf.state c.args.shelf.now) (g.S.Shelf.state c.answer_sharp_run.new.shelf) (g.O.Sink.state c.args.out.now) (g.O.Sink.state c.answer_sharp_run.new.out) in
    by_sharp_report (texts c.args.words.now) (run_names_of c.in-SharpReport.files) around c.answer_sharp_run.result c.in-SharpReport.ensures c.answer_sharp_run.ensures.ends

pub returns-in-SharpReport-clause-usage : goal.returns-in-SharpReport-clause-usage
returns-in-SharpReport-clause-usage g c = λ e. absurd (apart (sharp_report_command (run_names_of c.in-SharpReport.files)) _ c.answer_sharp_run.result c.answer_sharp_run.ensures.ends e)

pub returns-in-SharpReport-clause-unread : goal.returns-in-SharpReport-clause-unread
returns-in-SharpReport-clause-unread g c = λ e. absurd (apart (sharp_report_command (run_names_of c.in-SharpReport.files)) _ c.answer_sharp_run.result c.answer_sharp_run.ensures.ends e)

pub returns-in-SharpReport-clause-undone : goal.returns-in-SharpReport-clause-undone
returns-in-SharpReport-clause-undone g c =
    let around : Around = around_of (g.S.Shelf.state c.args.shelf.now) (g.S.Shelf.state c.answer_sharp_run.new.shelf) (g.O.Sink.state c.args.out.now) (g.O.Sink.state c.answer_sharp_run.new.out) in
    undone (sharp_report_command (run_names_of c.in-SharpReport.files)) around c.answer_sharp_run.result c.answer_sharp_run.ensures.ends

pub returns-in-SharpCheck-clause-ends : goal.returns-in-SharpCheck-clause-ends
returns-in-SharpCheck-clause-ends g c =
    let around : Around = around_of (g.S.Shelf.state c.args.shelf.now) (g.S.Shelf.state c.answer_sharp_check.new.shelf) (g.O.Sink.state c.args.out.now) (g.O.Sink.state c.answer_sharp_check.new.out) in
    by_sharp_check (texts c.args.words.now) c.in-SharpCheck.files.params.now c.in-SharpCheck.files.trace.now around c.answer_sharp_check.result c.in-SharpCheck.ensures c.answer_sharp_check.ensures.ends

pub returns-in-SharpCheck-clause-usage : goal.returns-in-SharpCheck-clause-usage
returns-in-SharpCheck-clause-usage g c = λ e. absurd (apart (sharp_check_command c.in-SharpCheck.files.params.now c.in-SharpCheck.files.trace.now) _ c.answer_sharp_check.result c.answer_sharp_check.ensures.ends e)

pub returns-in-SharpCheck-clause-unread : goal.returns-in-SharpCheck-clause-unread
returns-in-SharpCheck-clause-unread g c = λ e. absurd (apart (sharp_check_command c.in-SharpCheck.files.params.now c.in-SharpCheck.files.trace.now) _ c.answer_sharp_check.result c.answer_sharp_check.ensures.ends e)

pub returns-in-SharpCheck-clause-undone : goal.returns-in-SharpCheck-clause-undone
returns-in-SharpCheck-clause-undone g c =
    let around : Around = around_of (g.S.Shelf.state c.args.shelf.now) (g.S.Shelf.state c.answer_sharp_check.new.shelf) (g.O.Sink.state c.args.out.now) (g.O.Sink.state c.answer_sharp_check.new.out) in
    undone (sharp_check_command c.in-SharpCheck.files.params.now c.in-SharpCheck.files.trace.now) around c.answer_sharp_check.result c.answer_sharp_check.ensures.ends

pub returns-in-PowerOn-clause-ends : goal.returns-in-PowerOn-clause-ends
returns-in-PowerOn-clause-ends g c =
    let around : Around = around_of (g.S.Shelf.state c.args.shelf.now) (g.S.Shelf.state c.answer_power_on.new.shelf) (g.O.Sink.state c.args.out.now) (g.O.Sink.state c.answer_power_on.new.out) in
    by_power_on (texts c.args.words.now) c.in-PowerOn.asked.params.now c.in-PowerOn.asked.flutter around c.answer_power_on.result c.in-PowerOn.ensures c.answer_power_on.ensures.ends

pub returns-in-PowerOn-clause-usage : goal.returns-in-PowerOn-clause-usage
returns-in-PowerOn-clause-usage g c = λ e. absurd (apart (power_on_command c.in-PowerOn.asked.params.now c.in-PowerOn.asked.flutter) _ c.answer_power_on.result c.answer_power_on.ensures.ends e)

pub returns-in-PowerOn-clause-unread : goal.returns-in-PowerOn-clause-unread
returns-in-PowerOn-clause-unread g c = λ e. absurd (apart (power_on_command c.in-PowerOn.asked.params.now c.in-PowerOn.asked.flutter) _ c.answer_power_on.result c.answer_power_on.ensures.ends e)

pub returns-in-PowerOn-clause-undone : goal.returns-in-PowerOn-clause-undone
returns-in-PowerOn-clause-undone g c =
    let around : Around = around_of (g.S.Shelf.state c.args.shelf.now) (g.S.Shelf.state c.answer_power_on.new.shelf) (g.O.Sink.state c.args.out.now) (g.O.Sink.state c.answer_power_on.new.out) in
    undone (power_on_command c.in-PowerOn.asked.params.now c.in-PowerOn.asked.flutter) around c.answer_power_on.result c.answer_power_on.ensures.ends

pub returns-in-OnePage-clause-ends : goal.returns-in-OnePage-clause-ends
returns-in-OnePage-clause-ends g c =
    let around : Around = around_of (g.S.Shelf.state c.args.shelf.now) (g.S.Shelf.state c.args.shelf.now) (g.O.Sink.state c.args.out.now) (g.O.Sink.state c.answer_page.new.out) in
    by_page (texts c.args.words.now) c.in-OnePage.page around c.answer_page.result c.in-OnePage.ensures refl (c.answer_page.ensures.ends (g.S.Shelf.state c.args.shelf.now))

pub returns-in-OnePage-clause-usage : goal.returns-in-OnePage-clause-usage
returns-in-OnePage-clause-usage g c = λ e. absurd (apart (page_command c.in-OnePage.page) _ c.answer_page.result (c.answer_page.ensures.ends (g.S.Shelf.state c.args.shelf.now)) e)

pub returns-in-OnePage-clause-undone : goal.returns-in-OnePage-clause-undone
returns-in-OnePage-clause-undone g c =
    let around : Around = around_of (g.S.Shelf.state c.args.shelf.now) (g.S.Shelf.state c.args.shelf.now) (g.O.Sink.state c.args.out.now) (g.O.Sink.state c.answer_page.new.out) in
    undone (page_command c.in-OnePage.page) around c.answer_page.result (c.answer_page.ensures.ends (g.S.Shelf.state c.args.shelf.now))

pub returns-in-Core-clause-ends : goal.returns-in-Core-clause-ends
returns-in-Core-clause-ends g c =
    let around : Around = around_of (g.S.Shelf.state c.args.shelf.now) (g.S.Shelf.state c.answer_core.new.shelf) (g.O.Sink.state c.args.out.now) (g.O.Sink.state c.answer_core.new.out) in
    by_core (texts c.args.words.now) around c.answer_core.result c.in-Core.ensures c.answer_core.ensures.ends

pub returns-in-Core-clause-usage : goal.returns-in-Core-clause-usage
returns-in-Core-clause-usage g c = λ e. none_of_core (texts c.args.words.now) c.in-Core.ensures (c.answer_core.ensures.usage e)
