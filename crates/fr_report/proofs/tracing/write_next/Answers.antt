use Rattle.std.proofs.Common.{◌≡◌, length, subst, sym, ◌∙◌}
use Rattle.fr_history.specs.History.{Record}
use Rattle.fr_history.specs.Cycles.{told_of}
use Rattle.fr_history.specs.Next.{cycles_of}
use Rattle.fr_history.proofs.Told.{told_length}
use Rattle.fr_program.specs.Gathered.{Gathers}
use Rattle.fr_trace.specs.Text.{cycle_text}
use Rattle.fr_world.specs.World.{setting_after}
use Rattle.fr_report.proofs.tracing.write_next.Goals as goal

pub returns-clause-text : goal.returns-clause-text
returns-clause-text g c =
    let w = c.args.world.now in
    let h = cycles_of (setting_after w) w.cycles in
    let row = c.in-Some.ensures.row in
    let long : length (told_of h) ≡ c.in-Some.row.now.cycle = told_length h ∙ c.one_lawful_run.ensures.long (setting_after w) w.cycles ∙ sym row.numbered in
    let P : Record → Type 0 = λ r. Gathers c.gather_cycle.result c.args.waiting.now.bytes c.gather_cycle.new.waiting.bytes (g.O.Sink.state c.args.out.now) (g.O.Sink.state c.gather_cycle.new.out) (cycle_text (told_of h) r) in
    subst P row.told (c.gather_cycle.ensures (told_of h) long)
