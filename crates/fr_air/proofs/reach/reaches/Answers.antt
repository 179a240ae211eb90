use Rattle.std.proofs.Common.{rules, ◌≡◌, ◌∙◌, ℤ, FitsSigned, w64, to_z, of_z, subst}
use Rattle.std.proofs.lemmas.Int.{to_z-of_z}
use Rattle.fr_air.specs.Files.{setting_in}
use Rattle.fr_air.specs.Lines.{ComesInside, LiesIn}
use Rattle.fr_air.proofs.reach.reaches.Goals as goal

pub returns : goal.returns
returns c fits awake =
    let f = c.args.files.now in
    let s = c.args.sender.now in
    let r = c.args.receiver.now in
    let hears : LiesIn f.params c.args.sight.now.spread r = c.requires.receiver awake in
    let delay_fits : FitsSigned w64 c.delay.result = search rules in
    let same : to_z w64 (of_z w64 c.delay.result) ≡ (setting_in f).delay s.node r.node c.args.channel c.args.cycle =
    to_z-of_z w64 c.delay.result delay_fits ∙ c.delay.ensures.value in
    let Comes : ℤ → Type 0 = λ (delay : ℤ). ComesInside f.params s r delay in
    record {
      regular = search rules;
      inside = subst Comes same (c.comes_inside.ensures f.params s r fits c.requires.sight c.requires.sender hears);
    }
