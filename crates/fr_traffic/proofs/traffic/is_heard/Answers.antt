use Rattle.std.proofs.Common.{◌∙◌, ◌&&◌, Bool, ap, ap₂, sym}
use Rattle.fr_traffic.specs.Traffic.{has_value, traffic_with}
use Rattle.fr_traffic.proofs.traffic.is_heard.Goals as goal

pub returns-then-is_correct_sender : goal.returns-then-is_correct_sender
returns-then-is_correct_sender c = λ nodes. sym (ap₂ (λ (a b : Bool). a && b) (sym c.is_correct_sender.ensures ∙ c.if-is_correct_sender.true) (sym (c.has_value.ensures nodes)))

pub returns-else-is_correct_sender : goal.returns-else-is_correct_sender
returns-else-is_correct_sender c =
    λ nodes.
    c.if-is_correct_sender.false
    ∙ sym
    (
    ap
    (λ (a : Bool). a && has_value c.args.asked.now.rate c.args.asked.now.surely (traffic_with nodes c.args.script.now) c.args.asked.now.double c.args.receiver.now c.args.sender.now)
    (sym c.is_correct_sender.ensures ∙ c.if-is_correct_sender.false)
    )
