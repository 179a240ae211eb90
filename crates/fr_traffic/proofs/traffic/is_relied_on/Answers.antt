use Rattle.std.proofs.Common.{◌∙◌, ◌&&◌, Bool, ap, sym}
use Rattle.std.proofs.Math.Bool.{and_assoc}
use Rattle.fr_traffic.specs.Traffic.{has_value, is_correct_sender, stays, traffic_with}
use Rattle.fr_traffic.proofs.traffic.is_relied_on.Goals as goal

pub returns-then-is_staying_sender : goal.returns-then-is_staying_sender
returns-then-is_staying_sender c = λ nodes.
    let t = traffic_with nodes c.args.script.now in
    let value = has_value c.args.asked.now.rate c.args.asked.now.surely t c.args.asked.now.double c.args.receiver.now c.args.sender.now in
    c.has_value.ensures nodes ∙ ap (λ (b : Bool). b && value) (sym c.if-is_staying_sender.true ∙ c.is_staying_sender.ensures nodes)
    ∙ and_assoc (is_correct_sender t c.args.sender.now) (stays t c.args.sender.now) value

pub returns-else-is_staying_sender : goal.returns-else-is_staying_sender
returns-else-is_staying_sender c = λ nodes.
    let t = traffic_with nodes c.args.script.now in
    let value = has_value c.args.asked.now.rate c.args.asked.now.surely t c.args.asked.now.double c.args.receiver.now c.args.sender.now in
    c.if-is_staying_sender.false ∙ ap (λ (b : Bool). b && value) (sym c.if-is_staying_sender.false ∙ c.is_staying_sender.ensures nodes)
    ∙ and_assoc (is_correct_sender t c.args.sender.now) (stays t c.args.sender.now) value
