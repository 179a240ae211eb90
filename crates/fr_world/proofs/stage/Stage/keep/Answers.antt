use Rattle.std.proofs.Common.{◌≡◌, ◌∙◌, List, ℕ, Some, length, ap, ap₂, sym, subst, arith}
use Rattle.fr_base.specs.Counts.{AreAtMost}
use Rattle.fr_air.proofs.Loops.{at_most-more}
use Rattle.fr_world.proofs.Stages.{before-ready, made_stage}
use Rattle.fr_air.specs.Counting.{counted_sent}
use Rattle.fr_air.specs.Memory.{memory_with}
use Rattle.fr_world.specs.Stage.{StageView, sent_on}
use Rattle.fr_air.specs.Turns.{frame_of_turn}
use Rattle.fr_world.proofs.stage.Stage.keep.Goals as goal

pub keep-cell-requires-clause-memory : goal.keep-cell-requires-clause-memory
keep-cell-requires-clause-memory c = subst (λ (s : StageView). s.memory ≡ memory_with c.args.files.now.params s.memory.held) (sym c.self.view_is) c.requires.before.is_stage.memory_is

pub count-requires-clause-long : goal.count-requires-clause-long
count-requires-clause-long c = omega (arith, ap length c.keep-cell.ensures.frame, c.keep-cell.ensures.long)

pub count-requires-clause-few : goal.count-requires-clause-few
count-requires-clause-few c =
    let ready = before-ready c.args.files.now c.args.turn.now c.args.self.now c.sane.ensures c.requires.before in
    at_most-more 1000000 2000000 c.self.inside.counts (omega arith) (subst (λ (s : StageView). AreAtMost 1000000 s.counts) (sym c.self.view_is) ready.ready.few)

pub returns-clause-sent : goal.returns-clause-sent
returns-clause-sent c =
    let a = c.args in
    let m = c.self.inside in
    let t = a.turn.now in
    let frame : List ℕ = frame_of_turn a.files.now t a.sending.now in
    let counted : c.count.new.counts ≡ counted_sent t.channel frame m.counts = c.count.ensures ∙ ap (λ (f : List ℕ). counted_sent t.channel f m.counts) c.keep-cell.ensures.frame in
    ap₂ (made_stage m.rows m.nodes.items m.followers.items m.listeners.items) counted c.keep-cell.ensures.kept
    ∙ ap (sent_on t.slot t.channel (Some frame)) c.self.view_is
