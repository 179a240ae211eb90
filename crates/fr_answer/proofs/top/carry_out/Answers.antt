use Rattle.std.proofs.Common.{subst, sym}
use Rattle.fr_program.specs.Around.{Around, around_of}
use Rattle.fr_program.specs.Command.{CommandEnds}
use Rattle.fr_answer.specs.Answer.{command_of}
use Rattle.fr_answer.specs.Request.{asked_of}
use Rattle.fr_answer.specs.declared.request.Request.{Request}
use Rattle.fr_answer.proofs.top.carry_out.Goals as goal

pub returns-in-Make-clause-ends : goal.returns-in-Make-clause-ends
returns-in-Make-clause-ends g c =
    let around : Around = around_of (g.S.Shelf.state c.args.shelf.now) (g.S.Shelf.state c.args.shelf.now) (g.O.Sink.state c.args.out.now) (g.O.Sink.state c.answer_made.new.out) in
    let P : Request → Type 0 = λ request. CommandEnds (command_of (asked_of request)) around c.answer_made.result in
    subst P (sym c.in-Make.is) (c.answer_made.ensures.ends (g.S.Shelf.state c.args.shelf.now))
