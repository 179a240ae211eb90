use Rattle.std.proofs.Common.{◌≡◌, ◌+◌, ◌∷◌, ◌∙◌, ap, subst, sym, arith}
use Rattle.fr_drift.specs.Questions.{doubles_of}
use Rattle.fr_history.specs.Next.{next_cycle}
use Rattle.fr_world.specs.World.{followed_last, setting_after, world_cycles, WorldView}
use Rattle.fr_lines.specs.Held.{ReportHolds}
use Rattle.fr_report.specs.Worlds.{IsReportOf}
use Rattle.fr_report.proofs.Adding.{last_row, next_told, row-held, row_is_next}
use Rattle.fr_report.proofs.gathering.add_next.Goals as goal

pub add-requires : goal.add-requires
add-requires c =
    let w = c.args.world.now in
    let doubles : c.doubles-doubles.result ≡ doubles_of w.drift = c.doubles-doubles.ensures.value ∙ ap doubles_of c.drift.ensures.value in
    row_is_next (setting_after w) c.args.report.now w.cycles c.in-Some.row.now (omega (arith, doubles, c.requires.more, c.doubles-doubles.ensures.to))
    (last_row w c.run_next.new.world c.in-Some.row.now c.run_next.ensures c.in-Some.ensures.row) c.requires.held

pub returns-clause-held : goal.returns-clause-held
returns-clause-held c =
    let w = c.args.world.now in
    let x = setting_after w in
    let after = c.run_next.ensures in
    let following : c.following-following.result ≡ followed_last (world_cycles (record w { cycles = w.cycles + 1 })) =
    c.following-following.ensures ∙ ap (λ (v : WorldView). followed_last (world_cycles v)) after in
    let tells = next_told x w.cycles c.in-Some.row.now c.following-following.result (last_row w c.run_next.new.world c.in-Some.row.now after c.in-Some.ensures.row) following in
    let held : ReportHolds w.params c.add.new.self (next_cycle x (world_cycles w) ∷ world_cycles w) = c.add.ensures w.params (world_cycles w) (next_cycle x (world_cycles w)) tells c.requires.held in
    let P : WorldView → Type 0 = λ v. IsReportOf v c.add.new.self in
    subst P (sym after) (row-held x c.add.new.self w.cycles held)
