use Rattle.std.proofs.Common.{subst}
use Rattle.fr_cluster.specs.Sane.{IsSane}
use Rattle.fr_drift.specs.Files.{DriftFits}
use Rattle.fr_script.specs.Files.{ScriptFits}
use Rattle.fr_script.specs.View.{IsScript}
use Rattle.fr_world.specs.World.{WorldView}
use Rattle.fr_report.proofs.playing.play.Goals as goal

pub returns-clause-precise : goal.returns-clause-precise
returns-clause-precise g c =
    let ran = c.run_all-report.ensures.ran in
    let world : WorldView = c.args.world.now in
    let sane : IsSane world.params = subst (λ (w : WorldView). IsSane w.params) ran c.params.ensures.sane in
    let fits : DriftFits world.params world.drift = subst (λ (w : WorldView). DriftFits w.params w.drift) ran c.drift.ensures.fits in
    let proper : IsScript world.script = subst (λ (w : WorldView). IsScript w.script) ran c.script.ensures.proper in
    let script : ScriptFits world.params world.script = subst (λ (w : WorldView). ScriptFits w.params w.script) ran c.script.ensures.fits in
    c.a_run_is_lawful.ensures.precise world.params world.drift world.script sane fits script proper

pub returns-clause-means : goal.returns-clause-means
returns-clause-means g c =
    let ran = c.run_all-report.ensures.ran in
    let world : WorldView = c.args.world.now in
    let sane : IsSane world.params = subst (λ (w : WorldView). IsSane w.params) ran c.params.ensures.sane in
    let fits : DriftFits world.params world.drift = subst (λ (w : WorldView). DriftFits w.params w.drift) ran c.drift.ensures.fits in
    let proper : IsScript world.script = subst (λ (w : WorldView). IsScript w.script) ran c.script.ensures.proper in
    let script : ScriptFits world.params world.script = subst (λ (w : WorldView). ScriptFits w.params w.script) ran c.script.ensures.fits in
    c.a_run_is_lawful.ensures.text world.params world.drift world.script sane fits script proper
