use Rattle.std.proofs.Common.{◌∙◌, Ok, Err, ap, subst, sym}
use Rattle.fr_program.proofs.Endings.{complete}
use Rattle.fr_program.specs.Around.{Around, around_of}
use Rattle.fr_program.specs.Command.{IsComplete}
use Rattle.fr_program.specs.Failure.{ending_status}
use Rattle.fr_text.specs.declared.status.Status.{Status}
use Rattle.fr_whole.specs.Whole.{whole_command}
use Rattle.fr_whole.proofs.top.flexray.Goals as goal

pub returns-in-Ok-clause-complete : goal.returns-in-Ok-clause-complete
returns-in-Ok-clause-complete g c = λ asked asks.
    let around : Around = around_of (g.S.Shelf.state c.args.shelf.now) (g.S.Shelf.state c.answer.new.shelf) (g.O.Sink.state c.args.out.now) (g.O.Sink.state c.answer.new.out) in
    complete (whole_command asked) around (Ok tt) (c.in-Ok.ensures.ends.ends asked asks)

pub returns-in-Err-clause-complete : goal.returns-in-Err-clause-complete
returns-in-Err-clause-complete g c = λ asked asks.
    let around : Around = around_of (g.S.Shelf.state c.args.shelf.now) (g.S.Shelf.state c.answer.new.shelf) (g.O.Sink.state c.args.out.now) (g.O.Sink.state c.answer.new.out) in
    let P : Status → Type 0 = IsComplete (whole_command asked) around in
    subst P (sym c.told.ensures.status) (complete (whole_command asked) around (Err c.in-Err.failure) (c.in-Err.ensures.ends.ends asked asks))

pub returns-in-Err-clause-usage : goal.returns-in-Err-clause-usage
returns-in-Err-clause-usage g c = ((λ e. c.in-Err.ensures.usage (sym c.told.ensures.status ∙ e)), (λ none. c.told.ensures.status ∙ ap ending_status (c.in-Err.ensures.ends.none none)))
