use Rattle.std.proofs.Common.{◌≡◌, ◌≤◌, Ok, ap, sym, subst, rules}
use mir.Val.{to_z, of_z}
use mir.Syntax.{w64}
use Rattle.std.proofs.lemmas.Int.{to_z-of_z}
use Rattle.fr_base.specs.declared.channel.Channel.{Channel}
use Rattle.fr_base.specs.declared.channel.Channel.TheVariants as channel
use Rattle.fr_text.specs.Records.{FileRecord}
use Rattle.fr_script.specs.Rows.{script_row_of}
use Rattle.fr_script.specs.View.{ScriptView}
use Rattle.fr_script.specs.Fields.{seen_of}
use Rattle.fr_script.specs.Written.{say_record}
use Rattle.fr_script.specs.Adding.{AddsScriptRecord, TakesScriptRecord}
use Rattle.fr_script.specs.declared.rows.Row.TheVariants as row
use Rattle.fr_script.proofs.Adding.{adds-say_a, adds-say_b, said_row, says-say}
use Rattle.fr_script.proofs.script.Script.add_say.Goals as goal

pub returns-in-A : goal.returns-in-A
returns-in-A c =
    let shift : to_z w64 (of_z w64 c.args.shift) ≡ c.args.shift = to_z-of_z w64 c.args.shift (search rules) in
    let low : 1 ≤ c.args.sender = rw c.sender.view_is at c.sender.invariant.0 in
    let high : c.args.sender ≤ 64 = rw c.sender.view_is at c.sender.invariant.1 in
    let from : 1 ≤ c.args.receiver = rw c.receiver.view_is at c.receiver.invariant.0 in
    let to : c.args.receiver ≤ 64 = rw c.receiver.view_is at c.receiver.invariant.1 in
    let says : script_row_of (say_record c.args.cycle c.args.sender c.args.receiver channel.A c.args.shift) ≡ Ok (row.Deed (said_row c.args.cycle c.args.sender c.args.receiver channel.A c.args.shift)) =
    says-say c.args.cycle c.args.sender c.args.receiver channel.A c.args.shift c.requires.limited low high from to c.requires.proper
    in
    let same : ◌≡◌ {A = FileRecord} (say_record c.args.cycle c.args.sender c.args.receiver c.args.channel c.args.shift) (say_record c.args.cycle c.args.sender c.args.receiver channel.A c.args.shift) = ap (λ (ch : Channel). say_record c.args.cycle c.args.sender c.args.receiver ch c.args.shift) c.in-A.is in
    let there : TakesScriptRecord c.args.params.now c.args.self.now (say_record c.args.cycle c.args.sender c.args.receiver channel.A c.args.shift) =
    subst (λ (r : FileRecord). TakesScriptRecord c.args.params.now c.args.self.now r) same c.requires.taken
    in
    let taken : TakesScriptRecord c.args.params.now (seen_of c.self.inside) (say_record c.args.cycle c.args.sender c.args.receiver channel.A c.args.shift) =
    subst (λ (s : ScriptView). TakesScriptRecord c.args.params.now s (say_record c.args.cycle c.args.sender c.args.receiver channel.A c.args.shift)) (sym c.self.view_is) there
    in
    let after : ScriptView = record (seen_of c.self.inside) { on_a = c.enter.new.table } in
    subst (λ (r : FileRecord). AddsScriptRecord c.args.params.now c.args.self.now after r c.enter.result) (sym same)
    (subst (λ (s : ScriptView). AddsScriptRecord c.args.params.now s after (say_record c.args.cycle c.args.sender c.args.receiver channel.A c.args.shift) c.enter.result) c.self.view_is
    (adds-say_a c.args.params.now (seen_of c.self.inside) c.enter.new.table (say_record c.args.cycle c.args.sender c.args.receiver channel.A c.args.shift) c.args.cycle c.args.sender c.args.receiver c.args.shift c.enter.result says taken (rw shift at c.enter.ensures)))

pub returns-in-B : goal.returns-in-B
returns-in-B c =
    let shift : to_z w64 (of_z w64 c.args.shift) ≡ c.args.shift = to_z-of_z w64 c.args.shift (search rules) in
    let low : 1 ≤ c.args.sender = rw c.sender.view_is at c.sender.invariant.0 in
    let high : c.args.sender ≤ 64 = rw c.sender.view_is at c.sender.invariant.1 in
    let from : 1 ≤ c.args.receiver = rw c.receiver.view_is at c.receiver.invariant.0 in
    let to : c.args.receiver ≤ 64 = rw c.receiver.view_is at c.receiver.invariant.1 in
    let says : script_row_of (say_record c.args.cycle c.args.sender c.args.receiver channel.B c.args.shift) ≡ Ok (row.Deed (said_row c.args.cycle c.args.sender c.args.receiver channel.B c.args.shift)) =
    says-say c.args.cycle c.args.sender c.args.receiver channel.B c.args.shift c.requires.limited low high from to c.requires.proper
    in
    let same : ◌≡◌ {A = FileRecord} (say_record c.args.cycle c.args.sender c.args.receiver c.args.channel c.args.shift) (say_record c.args.cycle c.args.sender c.args.receiver channel.B c.args.shift) = ap (λ (ch : Channel). say_record c.args.cycle c.args.sender c.args.receiver ch c.args.shift) c.in-B.is in
    let there : TakesScriptRecord c.args.params.now c.args.self.now (say_record c.args.cycle c.args.sender c.args.receiver channel.B c.args.shift) =
    subst (λ (r : FileRecord). TakesScriptRecord c.args.params.now c.args.self.now r) same c.requires.taken
    in
    let taken : TakesScriptRecord c.args.params.now (seen_of c.self.inside) (say_record c.args.cycle c.args.sender c.args.receiver channel.B c.args.shift) =
    subst (λ (s : ScriptView). TakesScriptRecord c.args.params.now s (say_record c.args.cycle c.args.sender c.args.receiver channel.B c.args.shift)) (sym c.self.view_is) there
    in
    let after : ScriptView = record (seen_of c.self.inside) { on_b = c.enter-in-B.new.table } in
    subst (λ (r : FileRecord). AddsScriptRecord c.args.params.now c.args.self.now after r c.enter-in-B.result) (sym same)
    (subst (λ (s : ScriptView). AddsScriptRecord c.args.params.now s after (say_record c.args.cycle c.args.sender c.args.receiver channel.B c.args.shift) c.enter-in-B.result) c.self.view_is
    (adds-say_b c.args.params.now (seen_of c.self.inside) c.enter-in-B.new.table (say_record c.args.cycle c.args.sender c.args.receiver channel.B c.args.shift) c.args.cycle c.args.sender c.args.receiver c.args.shift c.enter-in-B.result says taken (rw shift at c.enter-in-B.ensures)))
