use Rattle.std.proofs.Common.{◌≡◌, ◌<◌, ◌∙◌, length, ap, sym, arith}
use Rattle.std.proofs.lemmas.List.Elements.{All-set}
use Rattle.fr_node.specs.Listening.{ListenerView}
use Rattle.fr_air.proofs.Loops.{swept-more}
use Rattle.fr_air.specs.Files.{setting_in}
use Rattle.fr_air.specs.Listening.{after_listening, IsListener}
use Rattle.fr_air.proofs.catching.listen_all.Goals as goal

pub loop-listener-preserved : goal.loop-listener-preserved
loop-listener-preserved c =
    let a = c.args in
    let i = c.loop-listener.listener-index in
    let listener = c.listener-item.result in
    let f : ListenerView → ListenerView = after_listening (setting_in a.files.now) a.cycle a.rows.now in
    let lt : i < length a.listeners.now = omega arith in
    let stepped : c.listen.new.listener ≡ f listener = c.listen.ensures.caught.listener_is ∙ ap f (sym c.listener-item.is) in (
      swept-more f a.listeners.now c.loop-listener.listeners i listener c.listen.new.listener lt c.loop-listener.invariant.0 c.listener-item.is stepped,
      All-set (IsListener a.files.now) c.loop-listener.listeners i c.listen.new.listener c.listen.ensures.caught.listens c.loop-listener.invariant.1,
      c.listen.ensures.stays ∙ c.loop-listener.invariant.2,
    )
