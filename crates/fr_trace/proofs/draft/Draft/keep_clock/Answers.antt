use Rattle.std.proofs.Common.{◌≡◌, ◌≢◌, ap, length, sym, ◌∙◌}
use Rattle.fr_trace.proofs.Keeping.{kept-clock, kept-next, on_ok-map}
use Rattle.fr_trace.proofs.draft.Draft.keep_clock.Goals as goal

pub returns-then-cycle-as_slice : goal.returns-then-cycle-as_slice
returns-then-cycle-as_slice c =
    let at : c.args.cycle ≡ length c.args.self.now.cycles.items = c.if-cycle-as_slice.true ∙ ap length c.as_slice.ensures.value in
    on_ok-map c.push_clock.result _ _ (λ put. kept-clock c.args.self.now c.push_clock.new.self c.args.cycle c.args.clock at put) c.push_clock.ensures

pub returns-in_ok-end_cycle : goal.returns-in_ok-end_cycle
returns-in_ok-end_cycle c =
    let at : c.args.cycle ≢ length c.args.self.now.cycles.items = λ same. c.if-cycle-as_slice.false (same ∙ sym (ap length c.as_slice.ensures.value)) in
    on_ok-map c.push_clock-else-cycle-as_slice.result _ _ (λ put. kept-next c.args.self.now c.end_cycle.new.self c.push_clock-else-cycle-as_slice.new.self c.args.cycle c.args.clock at c.in_ok-end_cycle.ensures put) c.push_clock-else-cycle-as_slice.ensures
