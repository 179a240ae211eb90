use Rattle.std.proofs.Common.{◌≡◌, ◌++◌, ◌∙◌, ap, ℕ, refl}
use Rattle.fr_base.proofs.Putting.{cut, then}
use Rattle.fr_text.specs.Lines.{joined_lines}
use Rattle.fr_cold.specs.Cluster.{states_at}
use Rattle.fr_cold.specs.Cold.{leads_left, state_in}
use Rattle.fr_cold.specs.Leads.{leads_of}
use Rattle.fr_cold.specs.Questions.{macroticks_of_run, switches_of}
use Rattle.fr_cold.specs.ColdText.{cold_text, lead_text, leading_text}
use Rattle.fr_cold.proofs.Texts.{whole-text}
use Rattle.fr_cold.proofs.printing.print.Goals as goal

pub returns-in_err-put_lines : goal.returns-in_err-put_lines
returns-in_err-put_lines g c =
    let p = c.args.params.now in
    let v = c.args.power.now in
    rw (← whole-text p v (joined_lines c.head.result) (leads_of p v) (states_at p (switches_of p v) (macroticks_of_run p v)) c.head.ensures refl (λ j number. refl))
    (cut _ _ c.in_err-put_lines.ensures c.from_residual.ensures.0)

pub put_leads-requires : goal.put_leads-requires
put_leads-requires g c = c.new-cold.ensures.stands c.args.power.now

pub returns-in_err-put_leads : goal.returns-in_err-put_leads
returns-in_err-put_leads g c =
    let p = c.args.params.now in
    let v = c.args.power.now in
    rw (← whole-text p v (joined_lines c.head.result) (leads_left p v c.new-cold.result) (states_at p (switches_of p v) (macroticks_of_run p v)) c.head.ensures (c.new-cold.ensures.rest v) (λ j number. refl))
    (then _ c.in_ok-put_lines.ensures (cut _ _ c.in_err-put_leads.ensures.puts c.from_residual-in_err-put_leads.ensures.0))

pub returns : goal.returns
returns g c =
    let p = c.args.params.now in
    let v = c.args.power.now in
    let over = c.in_ok-put_leads.ensures.over in
    rw (← whole-text p v (joined_lines c.head.result) (leads_left p v c.new-cold.result) (state_in c.put_leads.new.cold.states) c.head.ensures (c.new-cold.ensures.rest v)
    (λ j number. over.stands.states j number ∙ ap (λ (t : ℕ). states_at p (switches_of p v) t j) over.ended))
    (then _ c.in_ok-put_lines.ensures (then _ c.in_ok-put_leads.ensures.puts c.put_leading.ensures))
