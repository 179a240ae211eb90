-- The trace of records that are those of a whole one.
use Rattle.std.proofs.Common.{◌≡◌, inl, inr, ℕ, zero, suc, ◌+◌, ◌*◌, ◌<◌, ◌≤◌, Bool, true, false, List, [], ◌∷◌, length, get_or, Option, Some, None, refl, ap, sym, ◌∙◌, subst, arith}
use Rattle.std.specs.Prelude.{◌==◌, All, AllPairs, filter, is_none}
use Rattle.std.proofs.lemmas.Bool.{cases_lt}
use Rattle.std.proofs.lemmas.List.{length-map}
use Rattle.std.proofs.lemmas.List.Elements.{All-cons, All-nil}
use Rattle.fr_base.specs.declared.node_row.NodeRow.{NodeRow}
use Rattle.fr_cluster.specs.Sane.{IsSane}
use Rattle.fr_cluster.specs.Values.{Values}
use Rattle.fr_cluster.specs.declared.nodes.NodeSpec.{NodeSpec}
use Rattle.fr_history.specs.History.{History, Record}
use Rattle.fr_text.specs.Records.{FileRecord}
use Rattle.fr_trace.specs.Draft.{AreOver, AreSaid, CanEnd, HasEnded, HasFilled, IsAtLast, IsAtTurn, IsBeforeCycles, IsNodeNumber, IsOver, IsProperHead, IsTraceDraft, IsWholeDraft, over_of, part_of}
use Rattle.fr_trace.specs.Files.{is_whole, is_whole_by}
use Rattle.fr_trace.specs.Fits.{HistoryFits, TraceFits}
use Rattle.fr_trace.specs.Joins.{has_traced_row, latest_rows}
use Rattle.fr_trace.specs.Lasting.{IsTrace, IsTracedRecord}
use Rattle.fr_trace.specs.Order.{clock_turn, ends_at, ends_with, heard_turn, next_due}
use Rattle.fr_trace.specs.Rows.{IsProperTracedCount}
use Rattle.fr_trace.specs.Said.{history_said, no_record}
use Rattle.fr_trace.specs.Trace.{TraceView}
use Rattle.fr_trace.specs.declared.draft.Draft.{Draft}
use Rattle.fr_trace.specs.declared.order.Turn.{Turn}
use Rattle.fr_trace.specs.declared.rows.Row.{Row}
use Rattle.fr_trace.specs.declared.rows.Row.TheVariants as row
use Rattle.fr_trace.specs.declared.trace.TracedJoin.{TracedJoin}
use Rattle.fr_trace.proofs.Passing.{both-true, eq-is}
use Rattle.fr_trace.proofs.Standing.{AreNodes, all-named, over-at, over-blank}
use Rattle.fr_trace.proofs.Taking.{before-is, sane-nodes}

-- there are no more cycles over than may be, and one is left
few-at : (p : Values) (n : ℕ) (named : List ℕ) (joins : List TracedJoin) (last : Option Row) (h : History) (r : Record) → IsProperTracedCount n → IsAtLast p (Some n) named joins last h r → length h + 1 ≤ 2 * n
few-at p n named joins None h r proper at = absurd (let none = at.none in cc none)
few-at p n named joins (Some (row.Run m)) h r proper at = let none = ap (λ (g : History). length g) at.before.none in let low = proper.from in omega (arith, none, low)
few-at p n named joins (Some (row.Arbitrary node)) h r proper at = let none = ap (λ (g : History). length g) at.before.none in let low = proper.from in omega (arith, none, low)
few-at p n named joins (Some (row.Join j)) h r proper at = let none = ap (λ (g : History). length g) at.before.none in let low = proper.from in omega (arith, none, low)
few-at p n named joins (Some (row.Clock cycle clock)) h r proper at = let numbered = at.numbered in let inside = at.inside in omega (arith, numbered, inside)
few-at p n named joins (Some (row.Heard heard)) h r proper at = let numbered = at.numbered in let inside = at.inside in omega (arith, numbered, inside)

pub few-over : (p : Values) (d : Draft) (records : List FileRecord) (n : ℕ) → IsTraceDraft p d records → d.doubles ≡ Some n → length (over_of d) + 1 ≤ 2 * n
few-over p d records n h told =
    few-at p n d.arbitrary.items d.joins.items d.last (over_of d) (part_of d) (h.sound.head.count n told)
    (subst (λ (o : Option ℕ). IsAtLast p o d.arbitrary.items d.joins.items d.last (over_of d) (part_of d)) told h.sound.at)

-- whether the records are those of a whole trace, by what is held
pub whole-is : (p : Values) (d : Draft) (records : List FileRecord) (n : ℕ) → IsTraceDraft p d records → d.doubles ≡ Some n
    → ends_with p n d.arbitrary.items d.joins.items (latest_rows (over_of d)) d.last ≡ is_whole p records
whole-is p d records n h told =
    (λ i. ends_with p n (h.named i) (h.joins i) (before-is p d records h i) (h.last i)) ∙ sym (ap (is_whole_by p records) (sym h.doubles ∙ told))

-- ---- ending the cycles

-- the cycles up to so many may be ended where the last row is that of a whole trace
end-with : (p : Values) (nodes : AreNodes p) (n : ℕ) (named : List ℕ) (joins : List TracedJoin) (last : Option Row) (h : History) (r : Record)
    → IsProperHead p (Some n) named joins → AreOver p named joins h → IsAtLast p (Some n) named joins last h r → ends_with p n named joins (latest_rows h) last ≡ true
    → CanEnd p named joins (2 * n) h r
end-with p nodes n named joins last h r head over at ends = by last at ends
  where
    blank : IsBeforeCycles h r → is_none (next_due p named joins 0 [] 0) ≡ true → CanEnd p named joins (2 * n) h r
    blank before none =
        let all = all-named p nodes named joins head.joins_proper none in
        let P : Record → Type 0 = λ q. IsOver p named joins h q in
        record {
          over = over;
          part = λ lt. subst P (sym before.blank) (over-blank p nodes named joins h all);
          blank = λ lt. all;
        }

    going : (cycle : ℕ) (turn : Turn) → IsAtTurn p (Some n) named joins cycle turn h r → ends_at p n named joins (latest_rows h) cycle turn.node ≡ true → CanEnd p named joins (2 * n) h r
    going cycle turn at ends =
        let both = both-true (cycle + 1 == 2 * n) (is_none (next_due p named joins cycle (latest_rows h) turn.node)) ends in
        let last_one : cycle + 1 ≡ 2 * n = eq-is (cycle + 1) (2 * n) both.0 in
        let numbered = at.numbered in
        record {
          over = over;
          part = λ lt. over-at p nodes named joins h r turn.node at.under_way.begun (ap (λ (c : ℕ). is_none (next_due p named joins c (latest_rows h) turn.node)) (sym numbered) ∙ both.1);
          blank = λ lt. absurd (omega (arith, lt, last_one, numbered));
        }

    by : (last : Option Row) → IsAtLast p (Some n) named joins last h r → ends_with p n named joins (latest_rows h) last ≡ true → CanEnd p named joins (2 * n) h r
    by None at ends = absurd (cc ends)
    by (Some (row.Run m)) at ends = blank at.before ends
    by (Some (row.Arbitrary node)) at ends = blank at.before ends
    by (Some (row.Join j)) at ends = blank at.before ends
    by (Some (row.Clock cycle clock)) at ends = going cycle (clock_turn clock) at ends
    by (Some (row.Heard heard)) at ends = going heard.cycle (heard_turn heard) at ends

pub can-end : (p : Values) (d : Draft) (records : List FileRecord) (n : ℕ) → IsSane p → IsWholeDraft p d n records → CanEnd p d.arbitrary.items d.joins.items (2 * n) (over_of d) (part_of d)
can-end p d records n sane w =
    let sound = w.holds.sound in
    let P : Option ℕ → Type 0 = λ o. IsProperHead p o d.arbitrary.items d.joins.items × IsAtLast p o d.arbitrary.items d.joins.items d.last (over_of d) (part_of d) in
    let both : P (Some n) = subst P w.told (sound.head, sound.at) in
    end-with p (sane-nodes p sane) n d.arbitrary.items d.joins.items d.last (over_of d) (part_of d) both.0 sound.over both.1 (whole-is p d records n w.holds w.told ∙ w.whole)

-- one cycle more is ended
pub said-ended : (h : History) (r : Record) (records : List FileRecord) → AreSaid h r records → AreSaid (r ∷ h) no_record records
unfolding history_said
said-ended h r records said = record {
  over = λ i. said.part i ∷ said.over i;
  part = sym (said.none_later (suc (length h)) (omega arith));
  none_later = λ cycle lt. said.none_later cycle (omega (arith, lt));
}

pub end-more : (p : Values) (named : List ℕ) (joins : List TracedJoin) (cycles : ℕ) (h : History) (r : Record) → AreNodes p → length h < cycles → CanEnd p named joins cycles h r
    → CanEnd p named joins cycles (r ∷ h) no_record
unfolding AreOver
end-more p named joins cycles h r nodes lt can = record {
  over = (can.part lt, can.over);
  part = λ further. over-blank p nodes named joins (r ∷ h) (can.blank further);
  blank = λ further. can.blank (omega (arith, further));
}

pub filled-none : (d : Draft) (cycles : ℕ) → length (over_of d) ≤ cycles → HasFilled d d cycles
filled-none d cycles few = record {
  head = record { doubles = refl; named = refl; joins = refl; last = refl; count = refl };
  few = few;
  said = λ records h. h;
  sound = λ p named joins sane h. h;
}

pub filled-more : (a b c : Draft) (cycles : ℕ) → HasFilled a b cycles → length (over_of b) < cycles → HasEnded b c → HasFilled a c cycles
filled-more a b c cycles f lt end = record {
  head = record {
    doubles = end.head.doubles ∙ f.head.doubles;
    named = end.head.named ∙ f.head.named;
    joins = end.head.joins ∙ f.head.joins;
    last = end.head.last ∙ f.head.last;
    count = end.head.count ∙ f.head.count;
  };
  few = let long = ap (λ (h : History). length h) end.over in omega (arith, long, lt);
  said = λ records h.
      subst (λ (g : History). AreSaid g (part_of c) records) (sym end.over)
      (subst (λ (q : Record). AreSaid (part_of b ∷ over_of b) q records) (sym end.part) (said-ended (over_of b) (part_of b) records (f.said records h)));
  sound = λ p named joins sane h.
      subst (λ (g : History). CanEnd p named joins cycles g (part_of c)) (sym end.over)
      (subst (λ (q : Record). CanEnd p named joins cycles (part_of b ∷ over_of b) q) (sym end.part)
      (end-more p named joins cycles (over_of b) (part_of b) (sane-nodes p sane) lt (f.sound p named joins sane h)));
}

-- ---- the trace

count-le : (q : NodeSpec → Bool) (nodes : List NodeSpec) → length (filter q nodes) ≤ length nodes
count-le q [] = omega arith
count-le q (node ∷ nodes) = by (q node) refl (count-le q nodes)
  where
    by : (b : Bool) → q node ≡ b → length (filter q nodes) ≤ length nodes → length (filter q (node ∷ nodes)) ≤ suc (length nodes)
    by true e le = rw e (omega (arith, le))
    by false e le = rw e (omega (arith, le))

traced : (p : Values) (named : List ℕ) (joins : List TracedJoin) (h : History) (r : Record) → IsSane p → IsOver p named joins h r → IsTracedRecord r
traced p named joins h r sane over =
    let rows = length-map r.rows (λ (row : NodeRow). row.node) in
    let ids = length-map (filter (λ node. has_traced_row named joins h r node.id) p.nodes) (λ (node : NodeSpec). node.id) in
    let same = ap (λ (l : List ℕ). length l) over.nodes in
    let le = count-le (λ node. has_traced_row named joins h r node.id) p.nodes in
    let few = sane.lists.few_nodes in
    record {
      few = omega (arith, rows, ids, same, le, few);
      rows_ascend = over.kept.rows_ascend;
      rows_proper = over.kept.rows_proper;
      devs_ascend = over.kept.devs_ascend;
      devs_proper = over.kept.devs_proper;
      devs_heard = over.kept.devs_heard;
      uncounted = over.kept.uncounted;
    }

all-traced : (p : Values) (named : List ℕ) (joins : List TracedJoin) (h : History) → IsSane p → AreOver p named joins h → All IsTracedRecord h
unfolding AreOver
all-traced p named joins [] sane over = All-nil IsTracedRecord
all-traced p named joins (r ∷ h) sane over = All-cons IsTracedRecord r h (traced p named joins h r sane over.0) (all-traced p named joins h sane over.1)

-- ascending numbers from 1 to 64 are no more than 64
ascending-at : {X : Type 0} (key : X → ℕ) (xs : List X) (k : ℕ) (d : X) → AllPairs (λ a b. key a < key b) xs → All (λ x. IsNodeNumber (key x)) xs → k < length xs → k + 1 ≤ key (get_or xs k d)
ascending-at key xs zero d asc numbers lt = let one = (numbers 0 d lt).0 in omega (arith, one)
ascending-at key xs (suc k) d asc numbers lt =
    let before = ascending-at key xs k d asc numbers (omega (arith, lt)) in
    let next = asc k (suc k) d (omega arith) lt in
    omega (arith, before, next)

few-numbers : {X : Type 0} (key : X → ℕ) (xs : List X) → AllPairs (λ a b. key a < key b) xs → All (λ x. IsNodeNumber (key x)) xs → length xs ≤ 64
few-numbers key [] asc numbers = omega arith
few-numbers key (x ∷ xs) asc numbers = elim (cases_lt 64 (length (x ∷ xs))) [
  | inl lt ↦ let low = ascending-at key (x ∷ xs) 64 x asc numbers lt in let high = (numbers 64 x lt).1 in absurd (omega (arith, low, high))
  | inr le ↦ le
]

pub is-trace : (p : Values) (n : ℕ) (named : List ℕ) (joins : List TracedJoin) (h : History) → IsSane p → IsProperHead p (Some n) named joins → length h ≡ 2 * n
    → AreOver p named joins h → IsTrace (record { doubles = n; arbitrary = named; joins = joins; history = h })
is-trace p n named joins h sane head whole over = record {
  doubles_from = (head.count n refl).from;
  doubles_to = (head.count n refl).to;
  whole = whole;
  arbitrary_few = few-numbers (λ (node : ℕ). node) named head.ascend head.numbers;
  arbitrary_ascend = head.ascend;
  joins_few = few-numbers (λ (j : TracedJoin). j.node) joins head.joins_ascend head.joins_numbers;
  joins_ascend = head.joins_ascend;
  records = all-traced p named joins h sane over;
}

over-fits : (p : Values) (t : TraceView) (h : History) → AreOver p t.arbitrary t.joins h → HistoryFits p t h
unfolding HistoryFits AreOver
over-fits p t [] over = tt
over-fits p t (r ∷ h) over =
    let o : IsOver p t.arbitrary t.joins h r = over.0 in
    (record { nodes = o.nodes; rates = o.kept.rates; offsets = o.kept.offsets; devs = o.kept.devs }, over-fits p t h over.1)

pub trace-fits : (p : Values) (n : ℕ) (named : List ℕ) (joins : List TracedJoin) (h : History) → IsProperHead p (Some n) named joins → AreOver p named joins h
    → TraceFits p (record { doubles = n; arbitrary = named; joins = joins; history = h })
trace-fits p n named joins h head over = record {
  arbitrary = head.keyed;
  joins = head.joins_proper;
  joins_ascend = head.joins_ascend;
  records = over-fits p (record { doubles = n; arbitrary = named; joins = joins; history = h }) h over;
}
