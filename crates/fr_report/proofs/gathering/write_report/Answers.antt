use Rattle.std.proofs.Common.{◌≡◌, ap, subst, ◌∙◌}
use Rattle.std.specs.Result.{result_err}
use Rattle.fr_base.specs.Device.{Puts}
use Rattle.fr_history.specs.Cycles.{Cycles}
use Rattle.fr_cluster.specs.Setting.{Setting}
use Rattle.fr_coverage.specs.declared.gap.Gap.{Gap}
use Rattle.std.proofs.Common.{Option}
use Rattle.fr_lines.specs.Text.{report_of, told_text}
use Rattle.fr_lines.specs.Told.{run_told}
use Rattle.fr_lines.specs.declared.told.Told.{Told}
use Rattle.fr_world.specs.World.{setting_after, world_cycles}
use Rattle.fr_report.proofs.gathering.write_report.Goals as goal

report_is : (x : Setting) (gap : Option Gap) (h : Cycles) (told : Told) → told ≡ run_told x gap h → told_text told ≡ report_of x gap h
unfolding report_of
report_is x gap h told is = ap told_text is

pub returns-clause-any : goal.returns-clause-any
returns-clause-any g c =
    let w = c.args.world.now in
    subst (Puts c.write.result (g.O.Sink.state c.args.out.now) (g.O.Sink.state c.write.new.out))
    (report_is (setting_after w) (result_err c.args.gap) (world_cycles w) c.told_of.result c.told_of.ensures) c.write.ensures

pub returns-clause-first : goal.returns-clause-first
returns-clause-first g c = λ first.
    let w = c.args.world.now in
    subst (Puts c.write.result (g.O.Sink.state c.args.out.now) (g.O.Sink.state c.write.new.out))
    (report_is (setting_after w) (result_err c.args.gap) (world_cycles w) c.told_of.result c.told_of.ensures ∙ ap (λ (gap : Option Gap). report_of (setting_after w) gap (world_cycles w)) first) c.write.ensures
