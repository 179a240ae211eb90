use Rattle.std.proofs.Common.{◌≡◌, ◌≤◌, Ok, Some, ap, sym, subst, refl, rules}
use mir.Val.{to_z, of_z}
use mir.Syntax.{w64}
use Rattle.std.proofs.lemmas.Int.{to_z-of_z}
use Rattle.fr_base.specs.declared.channel.Channel.{Channel}
use Rattle.fr_base.specs.declared.channel.Channel.TheVariants as channel
use Rattle.fr_text.specs.Records.{FileRecord}
use Rattle.fr_drift.specs.Keys.{delay_key}
use Rattle.fr_drift.specs.Rows.{drift_row_of}
use Rattle.fr_drift.specs.View.{DriftView}
use Rattle.fr_drift.specs.Inside.{view_of}
use Rattle.fr_drift.specs.Written.{delay_record}
use Rattle.fr_drift.specs.Adding.{AddsDriftRecord, TakesDriftRecord}
use Rattle.fr_drift.specs.declared.rows.Row.TheVariants as row
use Rattle.fr_drift.proofs.Adding.{adds-delay_a, adds-delay_b, delay_a-free, delay_b-free, sane-delay_a, sane-delay_b, says-delay}
use Rattle.fr_drift.proofs.drift.Drift.set_delay.Goals as goal

pub enter-requires : goal.enter-requires
enter-requires c =
    let low : 1 ≤ c.args.sender = rw c.sender.view_is at c.sender.invariant.0 in
    let high : c.args.sender ≤ 64 = rw c.sender.view_is at c.sender.invariant.1 in
    let from : 1 ≤ c.args.receiver = rw c.receiver.view_is at c.receiver.invariant.0 in
    let to : c.args.receiver ≤ 64 = rw c.receiver.view_is at c.receiver.invariant.1 in
    let says : drift_row_of (delay_record c.args.sender c.args.receiver channel.A c.args.from c.args.ticks) ≡ Ok (row.Delay (record { sender = c.args.sender; receiver = c.args.receiver; channel = Some channel.A; from = c.args.from; ticks = c.args.ticks })) =
    says-delay c.args.sender c.args.receiver channel.A c.args.from c.args.ticks low high from to c.requires.limited c.requires.proper
    in
    let same : ◌≡◌ {A = FileRecord} (delay_record c.args.sender c.args.receiver c.args.channel c.args.from c.args.ticks) (delay_record c.args.sender c.args.receiver channel.A c.args.from c.args.ticks) = ap (λ (ch : Channel). delay_record c.args.sender c.args.receiver ch c.args.from c.args.ticks) c.in-A.is in
    let there : TakesDriftRecord c.args.params.now c.args.self.now (delay_record c.args.sender c.args.receiver channel.A c.args.from c.args.ticks) =
    subst (λ (r : FileRecord). TakesDriftRecord c.args.params.now c.args.self.now r) same c.requires.taken
    in
    let taken : TakesDriftRecord c.args.params.now (view_of c.self.inside) (delay_record c.args.sender c.args.receiver channel.A c.args.from c.args.ticks) =
    subst (λ (d : DriftView). TakesDriftRecord c.args.params.now d (delay_record c.args.sender c.args.receiver channel.A c.args.from c.args.ticks)) (sym c.self.view_is) there
    in
    delay_a-free c.args.params.now c.self.inside (delay_record c.args.sender c.args.receiver channel.A c.args.from c.args.ticks) c.args.sender c.args.receiver c.args.from c.args.ticks says taken

pub invariant_of-self : goal.invariant_of-self
invariant_of-self c =
    let ticks : to_z w64 (of_z w64 c.args.ticks) ≡ c.args.ticks = to_z-of_z w64 c.args.ticks (search rules) in
    sane-delay_a c.self.inside c.enter.new.rows (delay_key c.args.sender c.args.receiver c.args.from) c.args.ticks c.enter.result c.self.invariant c.requires.proper
    (rw ticks at c.enter.ensures)

pub returns-in-A : goal.returns-in-A
returns-in-A c =
    let ticks : to_z w64 (of_z w64 c.args.ticks) ≡ c.args.ticks = to_z-of_z w64 c.args.ticks (search rules) in
    let low : 1 ≤ c.args.sender = rw c.sender.view_is at c.sender.invariant.0 in
    let high : c.args.sender ≤ 64 = rw c.sender.view_is at c.sender.invariant.1 in
    let from : 1 ≤ c.args.receiver = rw c.receiver.view_is at c.receiver.invariant.0 in
    let to : c.args.receiver ≤ 64 = rw c.receiver.view_is at c.receiver.invariant.1 in
    let says : drift_row_of (delay_record c.args.sender c.args.receiver channel.A c.args.from c.args.ticks) ≡ Ok (row.Delay (record { sender = c.args.sender; receiver = c.args.receiver; channel = Some channel.A; from = c.args.from; ticks = c.args.ticks })) =
    says-delay c.args.sender c.args.receiver channel.A c.args.from c.args.ticks low high from to c.requires.limited c.requires.proper
    in
    let same : ◌≡◌ {A = FileRecord} (delay_record c.args.sender c.args.receiver c.args.channel c.args.from c.args.ticks) (delay_record c.args.sender c.args.receiver channel.A c.args.from c.args.ticks) = ap (λ (ch : Channel). delay_record c.args.sender c.args.receiver ch c.args.from c.args.ticks) c.in-A.is in
    let there : TakesDriftRecord c.args.params.now c.args.self.now (delay_record c.args.sender c.args.receiver channel.A c.args.from c.args.ticks) =
    subst (λ (r : FileRecord). TakesDriftRecord c.args.params.now c.args.self.now r) same c.requires.taken
    in
    let taken : TakesDriftRecord c.args.params.now (view_of c.self.inside) (delay_record c.args.sender c.args.receiver channel.A c.args.from c.args.ticks) =
    subst (λ (d : DriftView). TakesDriftRecord c.args.params.now d (delay_record c.args.sender c.args.receiver channel.A c.args.from c.args.ticks)) (sym c.self.view_is) there
    in
    let after : DriftView = view_of (record c.self.inside { delays_a = c.enter.new.rows }) in
    subst (λ (r : FileRecord). AddsDriftRecord c.args.params.now c.args.self.now after r c.enter.result) (sym same)
    (subst (λ (d : DriftView). AddsDriftRecord c.args.params.now d after (delay_record c.args.sender c.args.receiver channel.A c.args.from c.args.ticks) c.enter.result) c.self.view_is
    (adds-delay_a c.args.params.now c.self.inside c.enter.new.rows (delay_record c.args.sender c.args.receiver channel.A c.args.from c.args.ticks) (record { sender = c.args.sender; receiver = c.args.receiver; channel = Some channel.A; from = c.args.from; ticks = c.args.ticks })
    c.enter.result c.self.invariant c.requires.proper says refl taken (rw ticks at c.enter.ensures)))

pub enter-requires-in-B : goal.enter-requires-in-B
enter-requires-in-B c =
    let low : 1 ≤ c.args.sender = rw c.sender.view_is at c.sender.invariant.0 in
    let high : c.args.sender ≤ 64 = rw c.sender.view_is at c.sender.invariant.1 in
    let from : 1 ≤ c.args.receiver = rw c.receiver.view_is at c.receiver.invariant.0 in
    let to : c.args.receiver ≤ 64 = rw c.receiver.view_is at c.receiver.invariant.1 in
    let says : drift_row_of (delay_record c.args.sender c.args.receiver channel.B c.args.from c.args.ticks) ≡ Ok (row.Delay (record { sender = c.args.sender; receiver = c.args.receiver; channel = Some channel.B; from = c.args.from; ticks = c.args.ticks })) =
    says-delay c.args.sender c.args.receiver channel.B c.args.from c.args.ticks low high from to c.requires.limited c.requires.proper
    in
    let same : ◌≡◌ {A = FileRecord} (delay_record c.args.sender c.args.receiver c.args.channel c.args.from c.args.ticks) (delay_record c.args.sender c.args.receiver channel.B c.args.from c.args.ticks) = ap (λ (ch : Channel). delay_record c.args.sender c.args.receiver ch c.args.from c.args.ticks) c.in-B.is in
    let there : TakesDriftRecord c.args.params.now c.args.self.now (delay_record c.args.sender c.args.receiver channel.B c.args.from c.args.ticks) =
    subst (λ (r : FileRecord). TakesDriftRecord c.args.params.now c.args.self.now r) same c.requires.taken
    in
    let taken : TakesDriftRecord c.args.params.now (view_of c.self.inside) (delay_record c.args.sender c.args.receiver channel.B c.args.from c.args.ticks) =
    subst (λ (d : DriftView). TakesDriftRecord c.args.params.now d (delay_record c.args.sender c.args.receiver channel.B c.args.from c.args.ticks)) (sym c.self.view_is) there
    in
    delay_b-free c.args.params.now c.self.inside (delay_record c.args.sender c.args.receiver channel.B c.args.from c.args.ticks) c.args.sender c.args.receiver c.args.from c.args.ticks says taken

pub invariant_of-self-in-B : goal.invariant_of-self-in-B
invariant_of-self-in-B c =
    let ticks : to_z w64 (of_z w64 c.args.ticks) ≡ c.args.ticks = to_z-of_z w64 c.args.ticks (search rules) in
    sane-delay_b c.self.inside c.enter-in-B.new.rows (delay_key c.args.sender c.args.receiver c.args.from) c.args.ticks c.enter-in-B.result c.self.invariant c.requires.proper
    (rw ticks at c.enter-in-B.ensures)

pub returns-in-B : goal.returns-in-B
returns-in-B c =
    let ticks : to_z w64 (of_z w64 c.args.ticks) ≡ c.args.ticks = to_z-of_z w64 c.args.ticks (search rules) in
    let low : 1 ≤ c.args.sender = rw c.sender.view_is at c.sender.invariant.0 in
    let high : c.args.sender ≤ 64 = rw c.sender.view_is at c.sender.invariant.1 in
    let from : 1 ≤ c.args.receiver = rw c.receiver.view_is at c.receiver.invariant.0 in
    let to : c.args.receiver ≤ 64 = rw c.receiver.view_is at c.receiver.invariant.1 in
    let says : drift_row_of (delay_record c.args.sender c.args.receiver channel.B c.args.from c.args.ticks) ≡ Ok (row.Delay (record { sender = c.args.sender; receiver = c.args.receiver; channel = Some channel.B; from = c.args.from; ticks = c.args.ticks })) =
    says-delay c.args.sender c.args.receiver channel.B c.args.from c.args.ticks low high from to c.requires.limited c.requires.proper
    in
    let same : ◌≡◌ {A = FileRecord} (delay_record c.args.sender c.args.receiver c.args.channel c.args.from c.args.ticks) (delay_record c.args.sender c.args.receiver channel.B c.args.from c.args.ticks) = ap (λ (ch : Channel). delay_record c.args.sender c.args.receiver ch c.args.from c.args.ticks) c.in-B.is in
    let there : TakesDriftRecord c.args.params.now c.args.self.now (delay_record c.args.sender c.args.receiver channel.B c.args.from c.args.ticks) =
    subst (λ (r : FileRecord). TakesDriftRecord c.args.params.now c.args.self.now r) same c.requires.taken
    in
    let taken : TakesDriftRecord c.args.params.now (view_of c.self.inside) (delay_record c.args.sender c.args.receiver channel.B c.args.from c.args.ticks) =
    subst (λ (d : DriftView). TakesDriftRecord c.args.params.now d (delay_record c.args.sender c.args.receiver channel.B c.args.from c.args.ticks)) (sym c.self.view_is) there
    in
    let after : DriftView = view_of (record c.self.inside { delays_b = c.enter-in-B.new.rows }) in
    subst (λ (r : FileRecord). AddsDriftRecord c.args.params.now c.args.self.now after r c.enter-in-B.result) (sym same)
    (subst (λ (d : DriftView). AddsDriftRecord c.args.params.now d after (delay_record c.args.sender c.args.receiver channel.B c.args.from c.args.ticks) c.enter-in-B.result) c.self.view_is
    (adds-delay_b c.args.params.now c.self.inside c.enter-in-B.new.rows (delay_record c.args.sender c.args.receiver channel.B c.args.from c.args.ticks) (record { sender = c.args.sender; receiver = c.args.receiver; channel = Some channel.B; from = c.args.from; ticks = c.args.ticks })
    c.enter-in-B.result c.self.invariant c.requires.proper says refl taken (rw ticks at c.enter-in-B.ensures)))
