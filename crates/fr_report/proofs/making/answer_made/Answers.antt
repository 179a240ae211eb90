use Rattle.std.proofs.Common.{◌≡◌, [], ℕ, Result, Ok, Err, IfErr, IfOk, subst, sym}
use Rattle.fr_base.specs.Device.{Shelved, Sunk}
use Rattle.fr_generator.specs.Generated.{IsGenerated}
use Rattle.fr_program.proofs.Endings.{ends_stopped}
use Rattle.fr_program.specs.Around.{Ending, around_of}
use Rattle.fr_program.specs.Command.{CommandEnds}
use Rattle.fr_program.specs.declared.failure.Failure.TheVariants.{Usage, Stopped, WriteFault}
use Rattle.fr_text.proofs.Commands.{Asks-none, stops_behind}
use Rattle.fr_text.specs.Files.{IsNeverSaid, StopsIn}
use Rattle.fr_text.specs.Told.{no_memory}
use Rattle.fr_text.specs.declared.told.Told.{Told}
use Rattle.fr_world.specs.World.{WorldView}
use Rattle.fr_report.specs.MakeAnswer.{IsMadeReport, make_command}
use Rattle.fr_report.specs.RunText.{IsRunText, run_text}
use Rattle.fr_report.specs.Worlds.{IsPutOnly}
use Rattle.fr_report.proofs.making.answer_made.Goals as goal

ends_made : (seed doubles : ℕ) (shelf : Shelved) (before after : Sunk) (world : WorldView) (ending : Ending) → IsMadeReport seed doubles (run_text world.params world.drift world.script)
    → IsPutOnly (run_text world.params world.drift world.script) before after ending → CommandEnds (make_command seed doubles) (around_of shelf shelf before after) ending
ends_made seed doubles shelf before after world (Ok done) made put =
    record { text = put.text; defined = record { is_text = subst (IsMadeReport seed doubles) (sym put.defined) made; asked = Asks-none shelf.asked }; put = put.put }
ends_made seed doubles shelf before after world (Err WriteFault) made put =
    record { text = put.text; defined = record { is_text = subst (IsMadeReport seed doubles) (sym put.defined) made; asked = Asks-none shelf.asked }; put = put.put }
ends_made seed doubles shelf before after world (Err (Stopped why)) made put = absurd put
ends_made seed doubles shelf before after world (Err Usage) made put = absurd put

ends_behind : (seed doubles : ℕ) (shelf : Shelved) (before after : Sunk) (world : Result WorldView Told) (ending : Ending)
    → IfOk world (λ w. IsGenerated seed doubles (record { params = w.params; drift = w.drift; script = w.script }))
    → IfOk world (λ w. IsRunText w.params w.drift w.script (run_text w.params w.drift w.script))
    → IfErr world (λ why. why ≡ no_memory)
    → IfErr world (λ why. ending ≡ Err (Stopped why))
    → IfOk world (λ w. IsPutOnly (run_text w.params w.drift w.script) before after ending)
    → CommandEnds (make_command seed doubles) (around_of shelf shelf before after) ending
ends_behind seed doubles shelf before after (Ok w) ending made shown failed stopped written =
    ends_made seed doubles shelf before after w ending (record { params = w.params; drift = w.drift; script = w.script; made = made; shown = shown }) written
ends_behind seed doubles shelf before after (Err why) ending made shown failed stopped written =
    let P : Told → Type 0 = StopsIn (make_command seed doubles).files [] [] shelf shelf in
    ends_stopped _ _ before after ending why stopped (subst P (sym failed) (stops_behind (IsMadeReport seed doubles) IsNeverSaid [] shelf))

pub returns-clause-ends : goal.returns-clause-ends
returns-clause-ends g c = λ shelf.
    ends_behind c.args.seed c.args.doubles shelf (g.O.Sink.state c.args.out.now) (g.O.Sink.state c.answer_world.new.out) c.made_world.result c.answer_world.result c.made_world.ensures.made
    c.made_world.ensures.shown c.made_world.ensures.failed c.answer_world.ensures.stopped c.answer_world.ensures.written
