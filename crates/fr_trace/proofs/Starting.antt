-- A trace under construction before any record.
use Rattle.std.proofs.Common.{◌≡◌, ℕ, [], length, refl, ap, sym, ◌∙◌, arith, None, List, subst}
use Rattle.fr_base.specs.Counts.{no_counts}
use Rattle.fr_cluster.specs.Values.{Values}
use Rattle.fr_history.specs.History.{History}
use Rattle.fr_text.proofs.Lookups.{looked_up-nil}
use Rattle.fr_trace.specs.Cycles.{history_by}
use Rattle.fr_trace.specs.Draft.{AreOver, IsTraceDraft, over_of, part_of}
use Rattle.fr_trace.specs.Said.{history_said, joins_at, last_row_at, named_at, no_record, record_said, traced_doubles_in}
use Rattle.fr_trace.specs.Rows.{trace_row_of}
use Rattle.fr_trace.specs.declared.draft.Draft.{Draft}
use Rattle.fr_trace.specs.declared.trace.TracedCycle.{TracedCycle}
use Rattle.fr_trace.specs.declared.trace.TracedJoin.{TracedJoin}

none-by : (cycles : List TracedCycle) → cycles ≡ [] → history_by cycles ≡ []
unfolding history_by
none-by cycles e = ap history_by e

pub none-said : (p : Values) (d : Draft) → d.arbitrary.items ≡ [] → d.joins.items ≡ [] → d.cycles.items ≡ [] → d.rows.items ≡ [] → d.devs.items ≡ [] → d.doubles ≡ None → d.last ≡ None → d.count ≡ 0
    → IsTraceDraft p d []
unfolding named_at joins_at last_row_at history_said record_said AreOver
none-said p d arbitrary joins cycles rows devs doubles last count =
    let over : over_of d ≡ [] = none-by d.cycles.items cycles in
    let part : part_of d ≡ no_record = λ i. record { rows = rows i; devs = devs i; counts = no_counts } in
    record {
      doubles = doubles ∙ sym (looked_up-nil (λ r. traced_doubles_in (trace_row_of r)));
      named = arbitrary;
      joins = joins;
      last = last;
      count = count;
      over = over ∙ ap (λ (h : History). history_said [] (length h)) (sym over);
      part = part;
      none_later = λ cycle lt. refl;
      sound = record {
        head = record {
          count = λ n e. absurd (let no_doubles = sym doubles ∙ e in cc no_doubles);
          keyed = λ k x lt. let none = ap (λ (l : List ℕ). length l) arbitrary in absurd (omega (arith, none));
          ascend = λ i j x lt le. let none = ap (λ (l : List ℕ). length l) arbitrary in absurd (omega (arith, none));
          numbers = λ k x lt. let none = ap (λ (l : List ℕ). length l) arbitrary in absurd (omega (arith, none));
          joins_ascend = λ i j x lt le. let none = ap (λ (l : List TracedJoin). length l) joins in absurd (omega (arith, none));
          joins_numbers = λ k x lt. let none = ap (λ (l : List TracedJoin). length l) joins in absurd (omega (arith, none));
          joins_proper = λ k x lt. let none = ap (λ (l : List TracedJoin). length l) joins in absurd (omega (arith, none));
        };
        over = subst (AreOver p d.arbitrary.items d.joins.items) (sym over) tt;
        at = rw last (record { none = doubles; unnamed = arbitrary; unjoined = joins; before = record { none = over; blank = part } });
      };
    }
