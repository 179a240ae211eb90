use Rattle.std.proofs.Common.{subst}
use Rattle.fr_program.proofs.Endings.{apart, loads}
use Rattle.fr_program.specs.Around.{Around, around_of}
use Rattle.fr_program.specs.Command.{AreLoads, CommandEnds}
use Rattle.fr_program.specs.Program.{texts}
use Rattle.fr_series.specs.Request.{SeriesAsked, series_asked, series_command}
use Rattle.fr_series.proofs.Requests.{one_asked}
use Rattle.fr_series.proofs.top.answer.Goals as goal

pub returns-in-Some-clause-ends : goal.returns-in-Some-clause-ends
returns-in-Some-clause-ends g c =
    let around : Around = around_of (g.S.Shelf.state c.args.shelf.now) (g.S.Shelf.state c.carry_out.new.shelf) (g.O.Sink.state c.args.out.now) (g.O.Sink.state c.carry_out.new.out) in
    let P : SeriesAsked → Type 0 = λ asked. CommandEnds (series_command asked) around c.carry_out.result in
    let Q : SeriesAsked → Type 0 = λ asked. AreLoads (series_command asked).names around.shelf_before around.shelf_after in record {
      ends = λ asked asks. subst P (one_asked (texts c.args.words.now) (series_asked c.in-Some.request) asked c.in-Some.ensures asks) c.carry_out.ensures.ends;
      loads = λ asked asks. subst Q (one_asked (texts c.args.words.now) (series_asked c.in-Some.request) asked c.in-Some.ensures asks) (loads (series_command (series_asked c.in-Some.request)) around c.carry_out.result c.carry_out.ensures.ends c.carry_out.ensures.stays);
      none = λ none. absurd (none (series_asked c.in-Some.request) c.in-Some.ensures);
    }

pub returns-in-Some-clause-usage : goal.returns-in-Some-clause-usage
returns-in-Some-clause-usage g c = λ e. absurd (apart (series_command (series_asked c.in-Some.request)) _ c.carry_out.result c.carry_out.ensures.ends e)

pub returns-in-Some-clause-unread : goal.returns-in-Some-clause-unread
returns-in-Some-clause-unread g c = λ e. absurd (apart (series_command (series_asked c.in-Some.request)) _ c.carry_out.result c.carry_out.ensures.ends e)
