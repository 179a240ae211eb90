use Rattle.std.proofs.Common.{◌≡◌, ◌++◌, [], ap, sym, ◌∙◌, rules}
use Rattle.fr_base.proofs.Putting.{cut, puts_none, then}
use Rattle.fr_cold.specs.Cold.{leads_left}
use Rattle.fr_cold.specs.ColdText.{lead_line, lead_text}
use Rattle.fr_cold.proofs.Texts.{lead-more, lead-none}
use Rattle.fr_cold.proofs.printing.+put_leads.Goals as goal

pub returns-in_err-put_lead-in-Some-clause-puts : goal.returns-in_err-put_lead-in-Some-clause-puts
returns-in_err-put_lead-in-Some-clause-puts g t c =
    let text : lead_line c.in-Some.lead ++ lead_text (leads_left c.args.params.now c.args.power.now c.next.new.self) ≡ lead_text (leads_left c.args.params.now c.args.power.now c.args.cold.now) =
    sym (ap lead_text c.in-Some.ensures.tells ∙ lead-more c.in-Some.lead (leads_left c.args.params.now c.args.power.now c.next.new.self)) in
    rw (← text) (cut _ _ c.in_err-put_lead-in-Some.ensures c.from_residual.ensures.0)

pub returns-in-None-clause-puts : goal.returns-in-None-clause-puts
returns-in-None-clause-puts g t c =
    let text : lead_text (leads_left c.args.params.now c.args.power.now c.args.cold.now) ≡ [] = ap lead_text c.in-None.ensures.tells.none ∙ lead-none in
    rw text (puts_none (g.O.Sink.state c.args.out.now))

pub returns-in_ok-put_lead-in-Some-clause-puts : goal.returns-in_ok-put_lead-in-Some-clause-puts
returns-in_ok-put_lead-in-Some-clause-puts g t c =
    let text : lead_line c.in-Some.lead ++ lead_text (leads_left c.args.params.now c.args.power.now c.next.new.self) ≡ lead_text (leads_left c.args.params.now c.args.power.now c.args.cold.now) =
    sym (ap lead_text c.in-Some.ensures.tells ∙ lead-more c.in-Some.lead (leads_left c.args.params.now c.args.power.now c.next.new.self)) in
    rw (← text) (then _ c.in_ok-put_lead-in-Some.ensures c.put_leads.ensures.puts)
