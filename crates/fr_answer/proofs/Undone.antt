-- No ending of a command that is a failure is called done.
use Rattle.std.proofs.Common.{◌≡◌, ◌∙◌, ℕ, List, [], ◌∷◌, ◌++◌, Ok, Err, inl, inr, ap, sym, arith}
use Rattle.std.specs.Prelude.{IfErr, ◌≢◌}
use Rattle.fr_base.specs.Device.{Shelved}
use Rattle.fr_text.specs.Files.{Files, StopsIn, file, text}
use Rattle.fr_text.specs.Status.{code_of}
use Rattle.fr_text.specs.Told.{stop_status}
use Rattle.fr_text.specs.declared.kind.Stop.{Stop}
use Rattle.fr_text.specs.declared.kind.Stop.TheVariants as stop
use Rattle.fr_text.specs.declared.status.Status.TheVariants as status
use Rattle.fr_text.specs.declared.told.Told.{Told}
use Rattle.fr_program.specs.declared.failure.Failure.TheVariants.{Usage, Stopped, WriteFault}
use Rattle.fr_program.specs.Around.{Around, Ending}
use Rattle.fr_program.specs.Command.{Command, CommandEnds}
use Rattle.fr_program.specs.Failure.{status_of}

stop_undone : {Fault : Type 0} (why : Stop Fault) → code_of (stop_status why) ≡ 0 → ⊥
stop_undone stop.ReadFault e = absurd (omega (arith, e))
stop_undone stop.TooLong e = absurd (omega (arith, e))
stop_undone stop.NoMemory e = absurd (omega (arith, e))
stop_undone (stop.Refused fault) e = absurd (omega (arith, e))

never_done : (files : Files) (front names : List (List ℕ)) (before after : Shelved) (why : Told) → StopsIn files front names before after why → why.status ≡ status.Done → ⊥
never_done (text IsText IsSaid) front names before after why stops e =
    elim stops.told [
      | inl is ↦ let six : 6 ≡ 0 = sym (ap (λ (t : Told). code_of t.status) is) ∙ ap code_of e in absurd (omega (arith, six))
      | inr refused ↦ let one : 1 ≡ 0 = sym (ap (λ (t : Told). code_of t.status) refused.2) ∙ ap code_of e in absurd (omega (arith, one))
    ]
never_done (file kind says rest) front [] before after why stops e = absurd stops
never_done (file kind says rest) front (name ∷ names) before after why stops e =
    elim stops [
      | inl here ↦ stop_undone here.stop (sym (ap (λ (t : Told). code_of t.status) here.told) ∙ ap code_of e)
      | inr behind ↦ never_done (rest behind.0) (front ++ name ∷ []) names before after why behind.2 e
    ]

pub undone : (command : Command) (around : Around) (ending : Ending) → CommandEnds command around ending → IfErr ending (λ why. status_of why ≢ status.Done)
undone command around (Ok done) ends = tt
undone command around (Err Usage) ends = λ e. let two : 2 ≡ 0 = ap code_of e in absurd (omega (arith, two))
undone command around (Err (Stopped why)) ends = λ e. never_done command.files [] command.names around.shelf_before around.shelf_after why ends e
undone command around (Err WriteFault) ends = λ e. let four : 4 ≡ 0 = ap code_of e in absurd (omega (arith, four))
