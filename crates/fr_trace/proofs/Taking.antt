-- A row that is taken is held after the records so far.
use Rattle.std.proofs.Common.{◌≡◌, ℕ, ◌+◌, ◌-◌, ◌^◌, ◌≤◌, Bool, List, [], ◌∷◌, ◌++◌, length, Option, Some, None, Ok, ap, sym, ◌∙◌, subst, arith, length-append}
use Rattle.std.specs.Prelude.{min}
use Rattle.std.proofs.lemmas.List.Elements.{All-weaker}
use Rattle.fr_base.specs.declared.reason.Reason.{Reason}
use Rattle.fr_cluster.specs.Sane.{IsSane, IsSaneNode}
use Rattle.fr_cluster.specs.Values.{Values}
use Rattle.fr_history.specs.History.{History, Record}
use Rattle.fr_text.specs.Fields.{or_else}
use Rattle.fr_text.specs.Records.{FileRecord}
use Rattle.fr_trace.specs.Draft.{AreSaid, HasPut, IsAtLast, IsDraftSound, IsTraceDraft, over_of, over_with, part_of}
use Rattle.fr_trace.specs.Joins.{latest_rows}
use Rattle.fr_trace.specs.Order.{before_at, cycle_of, doubles_or_0, here_at, may_come, may_come_next}
use Rattle.fr_trace.specs.Reasons.{row_reason, trace_reason_after, trace_row_reason}
use Rattle.fr_trace.specs.Rows.{IsProperTraceRow, trace_row_of}
use Rattle.fr_trace.specs.Said.{history_said, last_row_at, named_in, record_said, traced_doubles_in, traced_joins_in}
use Rattle.fr_trace.specs.declared.draft.Draft.{Draft}
use Rattle.fr_trace.specs.declared.rows.Row.{Row}
use Rattle.fr_trace.specs.declared.rows.Row.TheVariants as row
use Rattle.fr_trace.specs.declared.trace.TracedJoin.{TracedJoin}
use Rattle.fr_trace.proofs.Saying.{doubles-more, joins-more, last-more, named-more, put-said}
use Rattle.fr_trace.proofs.Sounding.{stays-sound}
use Rattle.fr_trace.proofs.Standing.{AreNodes}

pub sane-nodes : (p : Values) → IsSane p → AreNodes p
sane-nodes p sane = record {
  ascend = sane.lists.nodes_ascend;
  numbered = All-weaker IsSaneNode (λ s. 1 ≤ s.id) (λ s is. is.proper.from) p.nodes sane.lists.nodes_sane;
}

-- the cycle of the last row is that under way
cycle-is : (p : Values) (doubles : Option ℕ) (named : List ℕ) (joins : List TracedJoin) (last : Option Row) (h : History) (r : Record) → IsAtLast p doubles named joins last h r → cycle_of last ≡ length h
cycle-is p doubles named joins None h r at = sym (ap (λ (g : History). length g) at.before.none)
cycle-is p doubles named joins (Some (row.Run n)) h r at = sym (ap (λ (g : History). length g) at.before.none)
cycle-is p doubles named joins (Some (row.Arbitrary node)) h r at = sym (ap (λ (g : History). length g) at.before.none)
cycle-is p doubles named joins (Some (row.Join j)) h r at = sym (ap (λ (g : History). length g) at.before.none)
cycle-is p doubles named joins (Some (row.Clock cycle clock)) h r at = at.numbered
cycle-is p doubles named joins (Some (row.Heard heard)) h r at = at.numbered

-- the rows of the cycle before, and of this one, are those that are held
module _ (p : Values) (d : Draft) (done : List FileRecord) (h : IsTraceDraft p d done) where
  cycle-at : length (over_of d) ≡ cycle_of (last_row_at done)
  cycle-at = sym (cycle-is p d.doubles d.arbitrary.items d.joins.items d.last (over_of d) (part_of d) h.sound.at) ∙ ap cycle_of h.last

  pub before-is : latest_rows (over_of d) ≡ before_at done
  before-is = ap latest_rows (h.over ∙ ap (history_said done) cycle-at)

  pub here-is : d.rows.items ≡ here_at done
  here-is = ap (λ (r : Record). r.rows) (h.part ∙ ap (record_said done) cycle-at)

-- whether a row may come next, by what is held
abbrev pub may_next : Values → Draft → Row → Bool
may_next p d said = may_come_next p (doubles_or_0 d.doubles) d.arbitrary.items d.joins.items (latest_rows (over_of d)) d.rows.items d.last said

pub comes-same : (p : Values) (d : Draft) (done : List FileRecord) (said : Row) → IsTraceDraft p d done → may_next p d said ≡ may_come p done said
comes-same p d done said h = λ i. may_come_next p (doubles_or_0 (h.doubles i)) (h.named i) (h.joins i) (before-is p d done h i) (here-is p d done h i) (h.last i) said

-- why it is refused, if it is
abbrev pub why_next : Values → Draft → Row → Option Reason
why_next p d said = row_reason p d.arbitrary.items d.joins.items said (may_next p d said)

pub why-same : (p : Values) (d : Draft) (done : List FileRecord) (said : Row) → IsTraceDraft p d done → why_next p d said ≡ trace_row_reason p done (Ok said)
why-same p d done said h = λ i. row_reason p (h.named i) (h.joins i) said (comes-same p d done said h i)

sound-along : (p : Values) (a b : Option ℕ) (n m : List ℕ) (s t : List TracedJoin) (l k : Option Row) (h g : History) (r q : Record) → a ≡ b → n ≡ m → s ≡ t → l ≡ k → h ≡ g → r ≡ q
    → IsDraftSound p a n s l h r → IsDraftSound p b m t k g q
sound-along p a b n m s t l k h g r q e1 e2 e3 e4 e5 e6 sound =
    subst (λ (x : Option ℕ). IsDraftSound p x m t k g q) e1
    (subst (λ (x : List ℕ). IsDraftSound p a x t k g q) e2
    (subst (λ (x : List TracedJoin). IsDraftSound p a n x k g q) e3
    (subst (λ (x : Option Row). IsDraftSound p a n s x g q) e4 (subst (λ (x : History). IsDraftSound p a n s l x q) e5 (subst (λ (x : Record). IsDraftSound p a n s l h x) e6 sound)))))

more-counted : (count n m : ℕ) → count ≡ min n (2 ^ 64 - 1) → m ≡ n + 1 → min (count + 1) (2 ^ 64 - 1) ≡ min m (2 ^ 64 - 1)
more-counted count n m e f = omega (arith, e, f)

pub row-taken : (p : Values) (d e : Draft) (done : List FileRecord) (r : FileRecord) (said : Row) → IsSane p → IsTraceDraft p d done → trace_row_of r ≡ Ok said
    → why_next p d said ≡ None → IsProperTraceRow said → HasPut d e said → IsTraceDraft p e (done ++ r ∷ [])
row-taken p d e done r said sane h says fine proper put =
    let nodes = sane-nodes p sane in
    let after = stays-sound p nodes d.doubles d.arbitrary.items d.joins.items (over_of d) (part_of d) d.last said h.sound fine proper in
    let are : AreSaid (over_of d) (part_of d) done = record { over = h.over; part = h.part; none_later = h.none_later } in
    let next = put-said (over_of d) (part_of d) done r said says after.placed are in
    let kept : AreSaid (over_of e) (part_of e) (done ++ r ∷ []) =
    subst (λ (x : History). AreSaid x (part_of e) (done ++ r ∷ [])) (sym put.over)
    (subst (λ (x : Record). AreSaid (over_with (over_of d) (part_of d) said) x (done ++ r ∷ [])) (sym put.part) next)
    in
    record {
      doubles = put.doubles ∙ sym after.told ∙ ap (λ (o : Option ℕ). or_else o (traced_doubles_in (Ok said))) h.doubles ∙ sym (doubles-more done r (Ok said) says);
      named = put.named ∙ ap (λ (l : List ℕ). l ++ named_in (Ok said)) h.named ∙ sym (named-more done r (Ok said) says);
      joins = put.joins ∙ ap (λ (l : List TracedJoin). l ++ traced_joins_in (Ok said)) h.joins ∙ sym (joins-more done r (Ok said) says);
      last = put.last ∙ sym (last-more done r said says);
      count = put.count ∙ more-counted d.count (length done) (length (done ++ r ∷ [])) h.count (length-append done (r ∷ []));
      over = kept.over;
      part = kept.part;
      none_later = kept.none_later;
      sound = sound-along p _ _ _ _ _ _ _ _ _ _ _ _ (sym put.doubles) (sym put.named) (sym put.joins) (sym put.last) (sym put.over) (sym put.part) after.sound;
    }

-- what is taken against parameters is taken against others that refuse the same records
pub fine-for : (p q : Values) (d : Draft) (done : List FileRecord) (r : FileRecord) (said : Row) → IsTraceDraft p d done → IsTraceDraft q d done → trace_reason_after q ≡ trace_reason_after p → trace_row_of r ≡ Ok said
    → why_next p d said ≡ None → why_next q d said ≡ None
fine-for p q d done r said hp hq same says fine =
    why-same q d done said hq
    ∙ ap (trace_row_reason q done) (sym says)
    ∙ (λ i. same i done r)
    ∙ ap (trace_row_reason p done) says
    ∙ sym (why-same p d done said hp)
    ∙ fine
