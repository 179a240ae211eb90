use Rattle.std.proofs.Common.{subst}
use Rattle.fr_program.proofs.Endings.{apart, loads}
use Rattle.fr_program.specs.Around.{Around, around_of}
use Rattle.fr_program.specs.Command.{AreLoads, CommandEnds}
use Rattle.fr_program.specs.Program.{texts}
use Rattle.fr_answer.specs.Answer.{command_of}
use Rattle.fr_answer.specs.Request.{Asked, asked_of}
use Rattle.fr_answer.proofs.Requests.{one_asked}
use Rattle.fr_answer.proofs.Undone.{undone}
use Rattle.fr_answer.proofs.top.answer_core.Goals as goal

pub returns-in-Some-clause-ends : goal.returns-in-Some-clause-ends
returns-in-Some-clause-ends g c =
    let around : Around = around_of (g.S.Shelf.state c.args.shelf.now) (g.S.Shelf.state c.carry_out.new.shelf) (g.O.Sink.state c.args.out.now) (g.O.Sink.state c.carry_out.new.out) in
    let P : Asked → Type 0 = λ asked. CommandEnds (command_of asked) around c.carry_out.result in
    let Q : Asked → Type 0 = λ asked. AreLoads (command_of asked).names around.shelf_before around.shelf_after in record {
      ends = λ asked asks. subst P (one_asked (texts c.args.words.now) (asked_of c.in-Some.request) asked c.in-Some.ensures.asks asks) c.carry_out.ensures.ends;
      loads = λ asked asks. subst Q (one_asked (texts c.args.words.now) (asked_of c.in-Some.request) asked c.in-Some.ensures.asks asks) (loads (command_of (asked_of c.in-Some.request)) around c.carry_out.result c.carry_out.ensures.ends c.carry_out.ensures.stays);
      none = λ none. absurd (none (asked_of c.in-Some.request) c.in-Some.ensures.asks);
    }

pub returns-in-Some-clause-usage : goal.returns-in-Some-clause-usage
returns-in-Some-clause-usage g c = λ e. absurd (apart (command_of (asked_of c.in-Some.request)) _ c.carry_out.result c.carry_out.ensures.ends e)

pub returns-in-Some-clause-unread : goal.returns-in-Some-clause-unread
returns-in-Some-clause-unread g c = λ e. absurd (apart (command_of (asked_of c.in-Some.request)) _ c.carry_out.result c.carry_out.ensures.ends e)

pub returns-in-Some-clause-undone : goal.returns-in-Some-clause-undone
returns-in-Some-clause-undone g c =
    let around : Around = around_of (g.S.Shelf.state c.args.shelf.now) (g.S.Shelf.state c.carry_out.new.shelf) (g.O.Sink.state c.args.out.now) (g.O.Sink.state c.carry_out.new.out) in
    undone (command_of (asked_of c.in-Some.request)) around c.carry_out.result c.carry_out.ensures.ends
