use Rattle.std.proofs.Common.{rules, ◌≡◌, sym, ap, ◌∙◌}
use mir.Val.{to_z, of_z}
use mir.Syntax.{w64}
use Rattle.std.proofs.lemmas.Int.{to_z-of_z}
use Rattle.fr_generator.specs.Drawn.{rest}
use Rattle.fr_generator.specs.Steps.{shift_drawn}
use Rattle.fr_generator.proofs.Turns.{chance-added}
use Rattle.fr_generator.proofs.script.take_chance.Goals as goal

pub returns : goal.returns
returns c =
    let taken = sym c.draw_pass.ensures.value ∙ c.if-draw_pass.false in
    let shift : to_z w64 (of_z w64 c.draw_shift-shift.result) ≡ shift_drawn (rest c.args.words.now) =
    to_z-of_z w64 c.draw_shift-shift.result (search rules) ∙ c.draw_shift-shift.ensures.value ∙ ap shift_drawn c.draw_pass.ensures.rest
    in
    chance-added c.args.params.now c.args.script.now c.add_say.new.self c.args.words.now c.draw_shift-shift.new.words c.args.place c.add_say.result taken
    (c.draw_shift-shift.ensures.rest ∙ ap rest c.draw_pass.ensures.rest) (rw (c.chance_at-chance.ensures, shift) at c.add_say.ensures)
