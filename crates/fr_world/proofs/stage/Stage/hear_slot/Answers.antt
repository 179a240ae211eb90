use Rattle.std.proofs.Common.{◌≡◌, ◌∙◌, ◌-◌, ◌*◌, None, ap, sym, arith}
use Rattle.fr_base.specs.declared.channel.Channel.{Channel}
use Rattle.fr_base.specs.declared.channel.Channel.TheVariants.{A, B}
use Rattle.fr_cluster.specs.Setting.{Setting}
use Rattle.fr_time.specs.Senders.{sender_of}
use Rattle.fr_world.proofs.Channels.{unused-frame, unused-offer}
use Rattle.fr_world.proofs.Stages.{silent-same, stage-more}
use Rattle.fr_air.specs.Files.{setting_in}
use Rattle.fr_world.specs.Stage.{after_turn}
use Rattle.fr_world.proofs.stage.Stage.hear_slot.Goals as goal

pub returns-in_default : goal.returns-in_default
returns-in_default c =
    let a = c.args in
    let s = a.self.now in
    let x : Setting = setting_in a.files.now in
    let none : sender_of a.files.now.params a.slot a.cycle ≡ None = sym c.sender.ensures.value ∙ c.in_default.is in
    let silent : (channel : Channel) → s ≡ after_turn x a.cycle a.slot channel s = λ channel.
    silent-same x a.cycle a.slot channel s (λ r. unused-offer x a.cycle s.rows r a.slot channel none) (unused-frame x a.cycle s.rows a.slot channel none) in
    record {
      heard = silent B ∙ ap (after_turn x a.cycle a.slot B) (silent A);
      stage = stage-more a.files.now a.cycle (130 * (a.slot - 1)) (130 * a.slot) s (omega arith) c.requires.stage;
    }
