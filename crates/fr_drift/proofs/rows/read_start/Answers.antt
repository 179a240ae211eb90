use Rattle.std.proofs.Common.{◌≡◌, ◌∙◌, sym, rules, Ok}
use mir.Syntax.{w32, w64}
use Rattle.std.proofs.lemmas.Int.{to_z-of_z}
use Rattle.fr_drift.proofs.RowFacts.{both-first, both-second}
use Rattle.fr_drift.proofs.rows.read_start.Goals as goal

pub returns-in-Ok-clause-proper : goal.returns-in-Ok-clause-proper
returns-in-Ok-clause-proper c =
    let inner : c.both.result ≡ Ok (c.in-Ok.ticks, c.in-Ok.rate) = both-second c.natural.result c.both.result c.in-Ok.node (c.in-Ok.ticks, c.in-Ok.rate) (sym c.in-Ok.ensures) in
    let t : c.number.result ≡ Ok c.in-Ok.ticks = both-first c.number.result c.read_rate.result c.in-Ok.ticks c.in-Ok.rate (sym c.both.ensures ∙ inner) in
    let r : c.read_rate.result ≡ Ok c.in-Ok.rate = both-second c.number.result c.read_rate.result c.in-Ok.ticks c.in-Ok.rate (sym c.both.ensures ∙ inner) in
    let ticks = rw t at c.number.ensures.range in
    let rate = rw r at c.read_rate.ensures.range in
    rw (to_z-of_z w64 c.in-Ok.ticks (search rules), to_z-of_z w32 c.in-Ok.rate (search rules)) (record { from = ticks.0; to = ticks.1; rate_from = rate.0; rate_to = rate.1 })
