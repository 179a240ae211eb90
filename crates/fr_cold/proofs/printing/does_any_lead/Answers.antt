use Rattle.std.proofs.Common.{◌≡◌, ◌≤◌, ◌-◌, ◌∙◌, ap, sym, arith, ℕ, Bool}
use Rattle.std.specs.Prelude.{◌||◌}
use Rattle.fr_cold.specs.Cold.{state_in}
use Rattle.fr_cold.specs.ColdText.{does_any_lead}
use Rattle.fr_cold.proofs.Texts.{any-more, any-none}
use Rattle.fr_cold.proofs.printing.does_any_lead.Goals as goal

pub loop-number-init : goal.loop-number-init
loop-number-init c = record { from = omega arith; any = sym (any-none (state_in c.args.cold.now.states)) }

pub loop-number-preserved : goal.loop-number-preserved
loop-number-preserved c =
    let from = c.loop-number.invariant.from in record {
      from = omega arith;
      any =
          c.either-any.ensures
          ∙ ap (λ (b : Bool). c.loop-number.any || b) c.leads.ensures
          ∙ any-more (state_in c.args.cold.now.states) c.loop-number.number c.loop-number.any from c.loop-number.invariant.any;
    }

pub returns : goal.returns
returns c =
    let all : c.loop-number.number - 1 ≡ 64 = omega arith in
    c.loop-number.invariant.any ∙ ap (λ (n : ℕ). does_any_lead (state_in c.args.cold.now.states) n) all
