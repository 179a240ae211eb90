use Rattle.std.proofs.Common.{◌≡◌, Option, Some, ap, subst, sym, arith}
use Rattle.std.specs.Prelude.{IsNone, ◌↔◌}
use Rattle.std.specs.Option.{option_map, option_or}
use Rattle.std.proofs.lemmas.Grind.{common_steps}
use Rattle.fr_time.specs.declared.senders.Sending.{Sending}
use Rattle.fr_time.specs.Senders.{further_sending, further_slot_of, sender_of, sync_sending, IsUnused}
use Rattle.fr_time.proofs.Unused.{sender_of-none}
use Rattle.fr_time.proofs.senders.sender.Goals as goal

pub returns-in-None-clause-none : goal.returns-in-None-clause-none
returns-in-None-clause-none c =
    let value : c.further.result ≡ sender_of c.args.params.now c.args.slot c.args.cycle = grind (arith, common_steps) in
    let NoneSends : Option Sending → Type 0 = λ sending. IsNone sending ↔ IsUnused c.args.params.now c.args.slot in
    subst NoneSends (sym value) (sender_of-none c.args.params.now c.args.slot c.args.cycle)

pub returns-in-Some-clause-none : goal.returns-in-Some-clause-none
returns-in-Some-clause-none c =
    let further : Option Sending = option_map (further_sending c.args.cycle) (further_slot_of c.args.params.now c.args.slot) in
    let value : Some (sync_sending c.in-Some.node.now) ≡ sender_of c.args.params.now c.args.slot c.args.cycle =
    ap (λ found. option_or (option_map sync_sending found) further) c.in-Some.ensures in
    let NoneSends : Option Sending → Type 0 = λ sending. IsNone sending ↔ IsUnused c.args.params.now c.args.slot in
    subst NoneSends (sym value) (sender_of-none c.args.params.now c.args.slot c.args.cycle)
