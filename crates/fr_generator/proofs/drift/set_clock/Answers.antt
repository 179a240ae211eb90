use Rattle.std.proofs.Common.{rules, ◌≡◌, ◌+◌, [], ◌∷◌, ◌++◌, ap, ◌∙◌}
use mir.Val.{to_z, of_z}
use mir.Syntax.{w64}
use Rattle.std.proofs.lemmas.Int.{to_z-of_z}
use Rattle.fr_drift.specs.Adding.{HasDriftRecord}
use Rattle.fr_drift.specs.Written.{length_record}
use Rattle.fr_generator.specs.Drawn.{rest}
use Rattle.fr_generator.specs.Steps.{length_drawn, start_drawn}
use Rattle.fr_generator.proofs.Turns.{clock-added}
use Rattle.fr_generator.proofs.drift.set_clock.Goals as goal

pub set_start-requires-clause-taken : goal.set_start-requires-clause-taken
set_start-requires-clause-taken c =
    let node : c.node_of-node.result ≡ c.args.place + 1 = c.node_of-node.ensures in
    let ticks : to_z w64 (of_z w64 c.draw_length-ticks.result) ≡ length_drawn c.args.words.now =
    to_z-of_z w64 c.draw_length-ticks.result (search rules) ∙ c.draw_length-ticks.ensures.value
    in
    let start : to_z w64 (of_z w64 c.draw_start-start.result) ≡ start_drawn (rest c.args.words.now) =
    to_z-of_z w64 c.draw_start-start.result (search rules) ∙ c.draw_start-start.ensures.value ∙ ap start_drawn c.draw_length-ticks.ensures.rest
    in
    let has : HasDriftRecord c.args.params.now c.args.drift.now c.set_length.new.self (length_record (c.args.place + 1) 0 (length_drawn c.args.words.now)) =
    rw (node, ticks) at c.in_ok-set_length.ensures
    in
    rw (node, start) (record {
      records = c.requires.taken.records ++ length_record (c.args.place + 1) 0 (length_drawn c.args.words.now) ∷ [];
      stands = has.stands c.requires.taken.records c.requires.taken.stands;
      accepted = c.requires.taken.accepted;
    })

pub returns : goal.returns
returns c =
    let node : c.node_of-node.result ≡ c.args.place + 1 = c.node_of-node.ensures in
    let ticks : to_z w64 (of_z w64 c.draw_length-ticks.result) ≡ length_drawn c.args.words.now =
    to_z-of_z w64 c.draw_length-ticks.result (search rules) ∙ c.draw_length-ticks.ensures.value
    in
    let start : to_z w64 (of_z w64 c.draw_start-start.result) ≡ start_drawn (rest c.args.words.now) =
    to_z-of_z w64 c.draw_start-start.result (search rules) ∙ c.draw_start-start.ensures.value ∙ ap start_drawn c.draw_length-ticks.ensures.rest
    in
    let has : HasDriftRecord c.args.params.now c.args.drift.now c.set_length.new.self (length_record (c.args.place + 1) 0 (length_drawn c.args.words.now)) =
    rw (node, ticks) at c.in_ok-set_length.ensures
    in
    clock-added c.args.params.now c.args.drift.now c.set_length.new.self c.set_start.new.self c.args.words.now c.draw_start-start.new.words c.args.place c.set_start.result
    (c.draw_start-start.ensures.rest ∙ ap rest c.draw_length-ticks.ensures.rest) has (rw (node, start) at c.set_start.ensures)
