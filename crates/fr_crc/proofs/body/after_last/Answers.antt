use Rattle.std.proofs.Common.{ℕ, List, Bool, drop, ap, sym, ◌∙◌}
use Rattle.std.proofs.lemmas.List.{take_rest}
use Rattle.fr_crc.specs.Bits.{bits, message_of}
use Rattle.fr_crc.specs.Crc.{frame_generator}
use Rattle.fr_crc.specs.Register.{after}
use Rattle.fr_crc.proofs.Eights.{after-behind}
use Rattle.fr_crc.proofs.body.after_last.Goals as goal

pub returns-clause-after : goal.returns-clause-after
returns-clause-after c =
    c.after_each-2.ensures.after
    ∙ ap (λ (xs : List ℕ). after frame_generator (bits 24 c.after_four_bytes-register.result) (message_of xs)) (take_rest c.args.bytes.now 4)
    ∙ ap (λ (s : List Bool). after frame_generator s (message_of (drop 4 c.args.bytes.now))) c.after_four_bytes-register.ensures.next
    ∙ sym (after-behind frame_generator (bits 24 c.args.register) c.args.bytes.now 4)
