use Rattle.std.proofs.Common.{◌∷◌, ap, ◌∙◌, refl}
use Rattle.fr_base.specs.Counts.{no_counts}
use Rattle.fr_trace.proofs.Keeping.{history-more}
use Rattle.fr_trace.specs.Cycles.{history_by}
use Rattle.fr_trace.specs.declared.trace.TracedCycle.{TracedCycle}
use Rattle.fr_trace.proofs.draft.Draft.end_cycle.Goals as goal

pub returns : goal.returns
returns c =
    let before = c.args.self.now in
    let ended : TracedCycle = record { rows = c.replace-rows.result; devs = c.replace-devs.result } in
    record {
      head = record { doubles = refl; named = refl; joins = refl; last = refl; count = refl };
      over = ap history_by c.in_ok-push.ensures.items ∙ history-more before.cycles.items ended
          ∙ (λ i. record { rows = (c.replace-rows.ensures.value i).items; devs = (c.replace-devs.ensures.value i).items; counts = no_counts } ∷ history_by before.cycles.items);
      part = λ i. record {
        rows = (ap (λ (v : _). v.items) c.replace-rows.ensures.after ∙ c.in_ok-no_rows.ensures) i;
        devs = (ap (λ (v : _). v.items) c.replace-devs.ensures.after ∙ c.in_ok-no_devs.ensures) i;
        counts = no_counts;
      };
    }
