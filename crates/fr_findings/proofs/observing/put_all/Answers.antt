use Rattle.std.proofs.Common.{◌≡◌, ◌∙◌, ◌-◌, None, Some, Ok, length, slice_get, ap, sym, subst}
use Rattle.std.specs.Option.{option_copied}
use Rattle.fr_base.specs.Device.{Puts}
use Rattle.fr_base.proofs.Putting.{puts_none}
use Rattle.fr_findings.specs.Ground.{basis_in, offending_given}
use Rattle.fr_findings.specs.Verdict.{no_progress}
use Rattle.fr_findings.proofs.Printing.{none-known, none-told}
use Rattle.fr_sightings.proofs.Windows.{first-last, from-first}
use Rattle.fr_findings.proofs.observing.put_all.Goals as goal

pub put_doubles-requires-clause-seen : goal.put_doubles-requires-clause-seen
put_doubles-requires-clause-seen g c =
    let first : slice_get c.args.frames.now.seen.now 0 ≡ Some c.in-Some.first.now = sym c.first.ensures.value ∙ ap option_copied c.in-Some.is in
    record {
      timed = c.requires.seen.timed;
      ascend = c.requires.seen.ascend;
      from = from-first c.args.frames.now.seen.now c.in-Some.first.now first c.requires.seen.ascend;
    }

pub put_doubles-requires-clause-first : goal.put_doubles-requires-clause-first
put_doubles-requires-clause-first g c =
    let first : slice_get c.args.frames.now.seen.now 0 ≡ Some c.in-Some.first.now = sym c.first.ensures.value ∙ ap option_copied c.in-Some.is in
    let last : slice_get c.args.frames.now.seen.now (length c.args.frames.now.seen.now - 1) ≡ Some c.in-Some-last.last.now = sym c.last.ensures.value ∙ ap option_copied c.in-Some-last.is in
    first-last c.args.frames.now.seen.now c.in-Some.first.now c.in-Some-last.last.now first last c.requires.seen.ascend

pub returns-in-None-clause-puts : goal.returns-in-None-clause-puts
returns-in-None-clause-puts g c =
    let none : slice_get c.args.frames.now.seen.now 0 ≡ None = sym c.first.ensures.value ∙ ap option_copied c.in-None.is in
    let a = g.O.Sink.state c.args.out.now in
    subst (Puts (Ok tt) a a) (sym (none-told (basis_in c.args.ground.now) c.args.frames.now.seen.now (offending_given c.args.frames.now.offending) no_progress none)) (puts_none a)

pub returns-in-None-clause-progress : goal.returns-in-None-clause-progress
returns-in-None-clause-progress g c =
    let none : slice_get c.args.frames.now.seen.now 0 ≡ None = sym c.first.ensures.value ∙ ap option_copied c.in-None.is in
    c.requires.progress ∙ sym (none-known (basis_in c.args.ground.now) c.args.frames.now.seen.now (offending_given c.args.frames.now.offending) no_progress none)
