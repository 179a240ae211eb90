use Rattle.fr_program.specs.Around.{Around, around_of}
use Rattle.fr_report.specs.Names.{run_names_of}
use Rattle.fr_report.specs.RunText.{IsRunText, run_text}
use Rattle.fr_report.proofs.Written.{ends_behind}
use Rattle.fr_report.proofs.run.answer_run.Goals as goal

pub returns-clause-ends : goal.returns-clause-ends
returns-clause-ends g c =
    let around : Around = around_of (g.S.Shelf.state c.args.shelf.now) (g.S.Shelf.state c.world_of.new.shelf) (g.O.Sink.state c.args.out.now) (g.O.Sink.state c.answer_world.new.out) in
    ends_behind IsRunText run_text (run_names_of c.args.files) around c.world_of.result c.answer_world.result
    (λ params drift script files. c.a_run_is_lawful.ensures.text params drift script files.has_params.sound files.has_drift.sound files.has_script.sound.fits files.has_script.sound.proper)
    c.world_of.ensures.files c.world_of.ensures.stops c.world_of.ensures.asked c.answer_world.ensures.stopped c.answer_world.ensures.written
