use Rattle.std.proofs.Common.{◌≡◌, FitsSigned, List, ℕ, rules, pos, w64, sym, subst, arith}
use Rattle.std.proofs.lemmas.Int.{ints, to_z-of_z}
use Rattle.std.specs.Borrow.{Bor}
use Rattle.std.specs.Option.{option_map}
use Rattle.fr_base.specs.Event.Event.{Say}
use Rattle.fr_base.specs.Within.{IsWithin}
use Rattle.fr_script.specs.Events.{IsProperEvent}
use Rattle.fr_cluster.specs.Setting.{Setting}
use Rattle.fr_air.proofs.Listening.{said_comes}
use Rattle.fr_air.specs.Files.{setting_in}
use Rattle.fr_air.specs.Sending.{said_instant}
use Rattle.fr_air.proofs.offering.said_to.Goals as goal

pub returns-in-Say : goal.returns-in-Say
returns-in-Say c frame =
    let a = c.args in
    let x : Setting = setting_in a.files.now in
    let within : IsWithin (pos 4000000000000000000) c.said_at.result = record {
      low = omega (arith, ints, c.said_at.ensures.within.low);
      high = omega (arith, ints, c.said_at.ensures.within.high);
    } in
    let proper : IsProperEvent (Say c.in-Say.shift (option_map (λ (b : Bor (List ℕ)). b.now) c.in-Say.bytes)) = subst IsProperEvent (sym c.in-Say.ensures.value) c.in-Say.ensures.proper in
    let fits : FitsSigned w64 c.in-Say.shift = omega (arith, ints, proper.from, proper.to) in
    let at : c.said_at.result ≡ said_instant x a.turn.now a.receiver.now c.in-Say.shift = simp to_z-of_z at c.said_at.ensures.value in
    rw (to_z-of_z w64 c.said_at.result (search rules), c.said_by.ensures)
    (said_comes x a.turn.now a.sender frame a.receiver.now c.in-Say.shift c.said_at.result c.in-Say.bytes c.in-Say.ensures.value proper at within)
