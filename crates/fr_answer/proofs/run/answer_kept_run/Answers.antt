use Rattle.fr_program.specs.Around.{Around, around_of}
use Rattle.fr_report.specs.Names.{run_names_of}
use Rattle.fr_answer.proofs.KeptRuns.{kept_run_ends}
use Rattle.fr_answer.proofs.run.answer_kept_run.Goals as goal

pub returns-clause-ends : goal.returns-clause-ends
returns-clause-ends g c =
    let around : Around = around_of (g.S.Shelf.state c.args.shelf.now) (g.S.Shelf.state c.answer_run.new.shelf) (g.O.Sink.state c.args.out.now) (g.O.Sink.state c.answer_run.new.out) in
    kept_run_ends (record { sharply = c.covered_files_keep_sharply.ensures.keep; joined = c.covered_files_keep_sharply_joined.ensures; lost = c.lossy_files_give_runs.ensures.keep; joined_lost = c.joined_files_keep_through_losses.ensures.covered }) (run_names_of c.args.files) around c.answer_run.result c.answer_run.ensures.ends
