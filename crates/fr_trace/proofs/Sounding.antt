-- A trace under construction stays sound with each row that is taken.
use Rattle.std.proofs.Common.{◌≡◌, inl, inr, ℕ, suc, ◌+◌, ◌*◌, ◌<◌, ◌≤◌, Bool, true, false, List, [], ◌∷◌, ◌++◌, length, Option, Some, None, Ok, refl, ap, sym, ◌∙◌, subst, arith}
use Rattle.std.specs.Prelude.{nat_lt, ◌==◌, ◌&&◌, All, IsSome, is_none, if◌then◌else◌}
use Rattle.std.proofs.lemmas.Bool.Decides.{nat_tests}
use Rattle.std.proofs.lemmas.List.{append-nil}
use Rattle.std.proofs.lemmas.List.Elements.{All-nil, All-push, All-weaker}
use Rattle.std.proofs.lemmas.List.Quantifiers.{all_pairs_push}
use Rattle.fr_base.specs.declared.node_row.NodeRow.{NodeRow}
use Rattle.fr_cluster.specs.Questions.{is_known, own_key}
use Rattle.fr_cluster.specs.Searches.{key_node_in}
use Rattle.fr_cluster.specs.Values.{Values}
use Rattle.fr_history.specs.History.{History, Record}
use Rattle.fr_text.specs.Fields.{or_else}
use Rattle.fr_text.proofs.Lookups.{or_else-none}
use Rattle.fr_trace.specs.Draft.{AreOver, IsAtLast, IsAtTurn, IsBeforeCycles, IsCycleUnderWay, IsDraftSound, IsNodeNumber, IsOver, IsProperHead, JoinsUpTo, NamesUpTo, doubles_with, over_with, part_with}
use Rattle.fr_trace.specs.Fits.{TracedJoinIsProper}
use Rattle.fr_trace.specs.Joins.{latest_rows}
use Rattle.fr_trace.specs.Lasting.{IsTracedRow}
use Rattle.fr_trace.specs.Order.{clock_turn, doubles_or_0, heard_turn, may_begin, may_come_next, may_go_on, may_join, may_open, may_stand_after, may_turn, next_due, stands_after}
use Rattle.fr_trace.specs.Reasons.{have_common, is_beyond, joins_wrongly, knows_node_and_reference, row_reason}
use Rattle.fr_trace.specs.Rows.{IsProperClock, IsProperHeard, IsProperJoinRow, IsProperTraceRow, IsProperTracedCount}
use Rattle.fr_trace.specs.Said.{dev_on, named_in, no_record, traced_doubles_in, traced_joins_in}
use Rattle.fr_trace.specs.declared.order.Turn.{Turn}
use Rattle.fr_trace.specs.declared.rows.HeardRow.{HeardRow}
use Rattle.fr_trace.specs.declared.rows.Row.{Row}
use Rattle.fr_trace.specs.declared.rows.Row.TheVariants as row
use Rattle.fr_trace.specs.declared.trace.TracedJoin.{TracedJoin}
use Rattle.fr_trace.proofs.Joining.{join-pushed}
use Rattle.fr_trace.proofs.Passing.{IsTaken, about-other, arbitrary-taken, both-true, clock-taken, eq-is, heard-taken, join-taken, lt-is, terms-within}
use Rattle.fr_trace.proofs.Saying.{IsPlaced}
use Rattle.fr_trace.proofs.Standing.{AreNodes, blank-begun, dev-put, known-low, over-at, row-put, way-low}

proper-row : (cycle : ℕ) (clock : NodeRow) → IsProperClock cycle clock → IsTracedRow clock
proper-row cycle clock proper = (proper.timed, proper.uncut, proper.early)

-- a number of double cycles that is said is not 0
some-double : (doubles : Option ℕ) → IsSome doubles → ((n : ℕ) → doubles ≡ Some n → IsProperTracedCount n) → 0 < 2 * doubles_or_0 doubles
some-double None is count = absurd (cc is)
some-double (Some n) is count = let proper = (count n refl).from in omega (arith, proper)

none-over : (p : Values) (named : List ℕ) (joins : List TracedJoin) (h : History) → h ≡ [] → AreOver p named joins h
unfolding AreOver
none-over p named joins h e = subst (AreOver p named joins) (sym e) tt

cons-over : (p : Values) (named : List ℕ) (joins : List TracedJoin) (r : Record) (h : History) → IsOver p named joins h r → AreOver p named joins h → AreOver p named joins (r ∷ h)
unfolding AreOver
cons-over p named joins r h one over = (one, over)

module _ (p : Values) (nodes : AreNodes p) (doubles : Option ℕ) (named : List ℕ) (joins : List TracedJoin) (h : History) (part : Record) where
  -- what is there before the row, but for the place of the last one
  pub record IsBase : Type 0 where
    pub head : IsProperHead p doubles named joins
    pub over : AreOver p named joins h

  -- where a row stands, and that what is there stays sound behind it
  pub record IsAfter (said : Row) : Type 0 where
    pub placed : IsPlaced h said
    pub told : or_else doubles (traced_doubles_in (Ok said)) ≡ doubles_with doubles said
    pub sound : IsDraftSound p (doubles_with doubles said) (named ++ named_in (Ok said)) (joins ++ traced_joins_in (Ok said)) (Some said) (over_with h part said) (part_with h part said)

  -- a row that says nothing of the head
  at-same : (said : Row) (g : History) (q : Record) → IsBase → named_in (Ok said) ≡ [] → traced_joins_in (Ok said) ≡ [] → doubles_with doubles said ≡ doubles → AreOver p named joins g
      → IsAtLast p doubles named joins (Some said) g q → IsDraftSound p (doubles_with doubles said) (named ++ named_in (Ok said)) (joins ++ traced_joins_in (Ok said)) (Some said) g q
  at-same said g q base none unjoined kept over at =
      let same : named ++ named_in (Ok said) ≡ named = ap (λ (l : List ℕ). named ++ l) none ∙ append-nil named in
      let alike : joins ++ traced_joins_in (Ok said) ≡ joins = ap (λ (l : List TracedJoin). joins ++ l) unjoined ∙ append-nil joins in
      let P : Option ℕ → List ℕ → List TracedJoin → Type 0 = λ d l k. IsDraftSound p d l k (Some said) g q in
      subst (λ d. P d (named ++ named_in (Ok said)) (joins ++ traced_joins_in (Ok said))) (sym kept)
      (subst (λ l. P doubles l (joins ++ traced_joins_in (Ok said))) (sym same) (subst (λ k. P doubles named k) (sym alike) (record { head = base.head; over = over; at = at })))

  -- the first row
  run-first : (n : ℕ) → doubles ≡ None → named ≡ [] → joins ≡ [] → IsBeforeCycles h part → IsProperTracedCount n → IsAfter (row.Run n)
  run-first n no_doubles none unjoined before proper =
      let same : named ++ [] ≡ [] = append-nil named ∙ none in
      let alike : joins ++ [] ≡ [] = append-nil joins ∙ unjoined in
      let P : List ℕ → List TracedJoin → Type 0 = λ l k. IsDraftSound p (Some n) l k (Some (row.Run n)) h part in
      let one : P [] [] = record {
        head = record {
          count = λ m e. let is : n ≡ m = cc e in subst IsProperTracedCount is proper;
          keyed = All-nil (λ node. IsSome (own_key p node));
          ascend = λ i j d lt le. absurd (omega (arith, le));
          numbers = All-nil IsNodeNumber;
          joins_ascend = λ i j d lt le. absurd (omega (arith, le));
          joins_numbers = All-nil (λ j. IsNodeNumber j.node);
          joins_proper = All-nil (TracedJoinIsProper p [] []);
        };
        over = none-over p [] [] h before.none;
        at = record { told = refl; upto = All-nil (λ other. other ≤ 0); none = refl; before = before };
      }
      in
      record {
        placed = tt;
        told = ap (λ (o : Option ℕ). or_else o (Some n)) no_doubles;
        sound = subst (λ l. P l (joins ++ [])) (sym same) (subst (λ k. P [] k) (sym alike) one);
      }

  -- a node that is named behind others
  name-more : (node above : ℕ) → IsBase → NamesUpTo doubles named joins above h part → nat_lt above node ≡ true → is_none (own_key p node) ≡ false → node ≤ 64 → IsAfter (row.Arbitrary node)
  name-more node above base at gt key most =
      let lt = lt-is above node gt in
      let alike : joins ++ [] ≡ [] = append-nil joins ∙ at.none in
      let P : List TracedJoin → Type 0 = λ k. IsDraftSound p doubles (named ++ node ∷ []) k (Some (row.Arbitrary node)) h part in
      let to = All-push (λ other. other ≤ node) named node (All-weaker (λ other. other ≤ above) (λ other. other ≤ node) (λ other le. omega (arith, le, lt)) named at.upto) (omega arith) in
      let one : P [] = record {
        head = record {
          count = base.head.count;
          keyed = All-push (λ node. IsSome (own_key p node)) named node base.head.keyed (has (own_key p node) key);
          ascend = all_pairs_push (λ a b. a < b) named node base.head.ascend (λ k d in'. let le = at.upto k d in' in omega (arith, le, lt));
          numbers = All-push IsNodeNumber named node base.head.numbers (omega (arith, lt), most);
          joins_ascend = λ i j d lt le. absurd (omega (arith, le));
          joins_numbers = All-nil (λ j. IsNodeNumber j.node);
          joins_proper = All-nil (TracedJoinIsProper p (named ++ node ∷ []) []);
        };
        over = none-over p (named ++ node ∷ []) [] h at.before.none;
        at = record { told = at.told; upto = to; none = refl; before = at.before };
      }
      in
      record { placed = tt; told = or_else-none doubles; sound = subst P (sym alike) one }
    where
      has : (o : Option ℕ) → is_none o ≡ false → IsSome o
      has None e = absurd (cc e)
      has (Some key) e = refl

  -- a node that joins behind others
  join-more : (j : TracedJoin) → IsBase → IsSome doubles → IsBeforeCycles h part → All (λ k. k.node < j.node) joins → knows_node_and_reference p j ≡ true → joins_wrongly p named joins j ≡ false → have_common p j ≡ true
      → IsProperJoinRow j → IsAfter (row.Join j)
  join-more j base some before below known right common proper =
      let same : named ++ [] ≡ named = append-nil named in
      let P : List ℕ → Type 0 = λ l. IsDraftSound p doubles l (joins ++ j ∷ []) (Some (row.Join j)) h part in
      let known_node = (both-true (is_known p j.node) (is_known p j.join.reference) known).0 in
      let one : P named = record {
        head = record {
          count = base.head.count;
          keyed = base.head.keyed;
          ascend = base.head.ascend;
          numbers = base.head.numbers;
          joins_ascend = all_pairs_push (λ a b. a.node < b.node) joins j base.head.joins_ascend below;
          joins_numbers = All-push (λ k. IsNodeNumber k.node) joins j base.head.joins_numbers (known-low p nodes j.node known_node, proper.node_to);
          joins_proper = join-pushed p named joins j base.head.joins_proper known right common proper;
        };
        over = none-over p named (joins ++ j ∷ []) h before.none;
        at = record { told = some; upto = All-push (λ k. k.node ≤ j.node) joins j (All-weaker (λ k. k.node < j.node) (λ k. k.node ≤ j.node) (λ k lt. omega (arith, lt)) joins below) (omega arith); before = before };
      }
      in
      record { placed = tt; told = or_else-none doubles; sound = subst P (sym same) one }

  -- the first row of the first cycle
  begin : (cycle : ℕ) (clock : NodeRow) → IsBase → IsSome doubles → IsBeforeCycles h part → may_open p named joins cycle clock.node ≡ true → is_beyond p clock ≡ false → is_known p clock.node ≡ true
      → IsProperClock cycle clock → IsAfter (row.Clock cycle clock)
  begin cycle clock base some before opens beyond known proper =
      let both = both-true (cycle == 0) (may_stand_after p named joins 0 [] 0 clock.node) opens in
      let zero_is : cycle ≡ 0 = eq-is cycle 0 both.0 in
      let terms = terms-within p clock beyond in
      let at : cycle ≡ length h = zero_is ∙ sym (ap (λ (g : History). length g) before.none) in
      let way : IsCycleUnderWay p named joins [] (clock_turn clock) (record no_record { rows = [] ++ clock ∷ [] }) =
      row-put p nodes named joins [] 0 no_record clock (blank-begun p nodes named joins []) both.1 known (All-nil (λ dev. dev.receiver ≤ 0)) (proper-row cycle clock proper) terms.0 terms.1
      in
      let Q : History → Record → Type 0 = λ g r. IsCycleUnderWay p named joins g (clock_turn clock) (record r { rows = r.rows ++ clock ∷ [] }) in
      let way2 : Q h part = subst (λ g. Q g part) (sym before.none) (subst (λ r. Q [] r) (sym before.blank) way) in
      let b : (cycle == length h) ≡ true = grind (arith, nat_tests, at) in
      let R : Bool → Type 0 = λ c. IsDraftSound p doubles (named ++ []) (joins ++ []) (Some (row.Clock cycle clock)) (if c then h else part ∷ h) (if c then record part { rows = part.rows ++ clock ∷ [] } else record no_record { rows = clock ∷ [] }) in
      record {
        placed = inl at;
        told = or_else-none doubles;
        sound = subst R (sym b) (at-same (row.Clock cycle clock) h (record part { rows = part.rows ++ clock ∷ [] }) base refl refl refl base.over
            (record { numbered = at; inside = let two = some-double doubles some base.head.count in omega (arith, zero_is, two); under_way = way2 }));
      }

  -- the next row of the same cycle, or of the next one
  module _ (cycle : ℕ) (turn : Turn) (base : IsBase) (at : IsAtTurn p doubles named joins cycle turn h part) where
    go-on : (next : ℕ) (clock : NodeRow) (b : Bool) → (next == cycle) ≡ b → may_turn p (doubles_or_0 doubles) named joins (latest_rows h) part.rows cycle turn.node next clock.node ≡ true
        → is_beyond p clock ≡ false → is_known p clock.node ≡ true → IsProperClock next clock → IsAfter (row.Clock next clock)
    go-on next clock true e may beyond known proper =
        let same : next ≡ cycle = eq-is next cycle e in
        let Choice : Bool → Bool = λ b. if b then may_stand_after p named joins cycle (latest_rows h) turn.node clock.node
        else ((next == cycle + 1) && nat_lt next (2 * doubles_or_0 doubles) && is_none (next_due p named joins cycle (latest_rows h) turn.node) && may_stand_after p named joins next part.rows 0 clock.node)
        in
        let comes : may_stand_after p named joins (length h) (latest_rows h) turn.node clock.node ≡ true =
        ap (λ (c : ℕ). may_stand_after p named joins c (latest_rows h) turn.node clock.node) (sym at.numbered) ∙ sym (ap Choice e) ∙ may
        in
        let terms = terms-within p clock beyond in
        let here : next ≡ length h = same ∙ at.numbered in
        let way = row-put p nodes named joins h turn.node part clock at.under_way.begun comes known (way-low p nodes named joins h turn part at.under_way) (proper-row next clock proper) terms.0 terms.1 in
        let b : (next == length h) ≡ true = grind (arith, nat_tests, here) in
        let R : Bool → Type 0 = λ c. IsDraftSound p doubles (named ++ []) (joins ++ []) (Some (row.Clock next clock)) (if c then h else part ∷ h) (if c then record part { rows = part.rows ++ clock ∷ [] } else record no_record { rows = clock ∷ [] }) in
        record {
          placed = inl here;
          told = or_else-none doubles;
          sound = subst R (sym b) (at-same (row.Clock next clock) h (record part { rows = part.rows ++ clock ∷ [] }) base refl refl refl base.over
              (record { numbered = here; inside = let inside = at.inside in omega (arith, same, inside); under_way = way }));
        }
    go-on next clock false e may beyond known proper =
        let Choice : Bool → Bool = λ b. if b then may_stand_after p named joins cycle (latest_rows h) turn.node clock.node
        else ((next == cycle + 1) && nat_lt next (2 * doubles_or_0 doubles) && is_none (next_due p named joins cycle (latest_rows h) turn.node) && may_stand_after p named joins next part.rows 0 clock.node)
        in
        let all =
        both-true ((next == cycle + 1) && nat_lt next (2 * doubles_or_0 doubles) && is_none (next_due p named joins cycle (latest_rows h) turn.node)) (may_stand_after p named joins next part.rows 0 clock.node)
        (sym (ap Choice e) ∙ may)
        in
        let three = both-true ((next == cycle + 1) && nat_lt next (2 * doubles_or_0 doubles)) (is_none (next_due p named joins cycle (latest_rows h) turn.node)) all.0 in
        let two = both-true (next == cycle + 1) (nat_lt next (2 * doubles_or_0 doubles)) three.0 in
        let same : next ≡ cycle + 1 = eq-is next (cycle + 1) two.0 in
        let inside : next < 2 * doubles_or_0 doubles = lt-is next (2 * doubles_or_0 doubles) two.1 in
        let terms = terms-within p clock beyond in
        let numbered = at.numbered in
        let here : next ≡ suc (length h) = omega (arith, same, numbered) in
        let comes : may_stand_after p named joins (suc (length h)) part.rows 0 clock.node ≡ true = ap (λ (c : ℕ). may_stand_after p named joins c part.rows 0 clock.node) (sym here) ∙ all.1 in
        let way =
        row-put p nodes named joins (part ∷ h) 0 no_record clock (blank-begun p nodes named joins (part ∷ h)) comes known (All-nil (λ dev. dev.receiver ≤ 0)) (proper-row next clock proper) terms.0 terms.1
        in
        let over : IsOver p named joins h part =
        over-at p nodes named joins h part turn.node at.under_way.begun (ap (λ (c : ℕ). is_none (next_due p named joins c (latest_rows h) turn.node)) (sym numbered) ∙ three.1)
        in
        let b : (next == length h) ≡ false = grind (arith, nat_tests, here) in
        let R : Bool → Type 0 = λ c. IsDraftSound p doubles (named ++ []) (joins ++ []) (Some (row.Clock next clock)) (if c then h else part ∷ h) (if c then record part { rows = part.rows ++ clock ∷ [] } else record no_record { rows = clock ∷ [] }) in
        record {
          placed = inr here;
          told = or_else-none doubles;
          sound = subst R (sym b) (at-same (row.Clock next clock) (part ∷ h) (record no_record { rows = clock ∷ [] }) base refl refl refl (cons-over p named joins part h over base.over)
              (record { numbered = here; inside = inside; under_way = way }));
        }

    hear : (heard : HeardRow) → IsTaken p heard (may_go_on p (doubles_or_0 doubles) named joins (latest_rows h) part.rows cycle turn (row.Heard heard)) → IsProperHeard heard → IsAfter (row.Heard heard)
    hear heard taken proper =
        let all = both-true ((heard.cycle == cycle) && (heard.receiver == turn.node)) (stands_after turn heard) taken.follows in
        let two = both-true (heard.cycle == cycle) (heard.receiver == turn.node) all.0 in
        let same : heard.cycle ≡ cycle = eq-is heard.cycle cycle two.0 in
        let receiver : heard.receiver ≡ turn.node = eq-is heard.receiver turn.node two.1 in
        let about = about-other p heard taken.channel (key_node_in p.nodes heard.slot) refl taken.other taken.linked in
        let way = dev-put p nodes named joins h turn heard taken.channel taken.named receiver all.1 part at.under_way about proper in
        let here : heard.cycle ≡ length h = same ∙ at.numbered in
        record {
          placed = here;
          told = or_else-none doubles;
          sound = at-same (row.Heard heard) h (record part { devs = part.devs ++ dev_on heard heard.channel }) base refl refl refl base.over
              (record { numbered = here; inside = let inside = at.inside in omega (arith, same, inside); under_way = way });
        }

-- ---- any row that is taken

module _ (p : Values) (nodes : AreNodes p) (doubles : Option ℕ) (named : List ℕ) (joins : List TracedJoin) (h : History) (part : Record) where
  abbrev Base : Type 0
  Base = IsBase p nodes doubles named joins h part

  abbrev After : Row → Type 0
  After said = IsAfter p nodes doubles named joins h part said

  no-join : (j : TracedJoin) → joins ≡ [] → All (λ k. k.node < j.node) joins
  no-join j none = subst (λ (l : List TracedJoin). All (λ k. k.node < j.node) l) (sym none) (All-nil (λ k. k.node < j.node))

  begin-with : (above : ℕ) (said : Row) → Base → NamesUpTo doubles named joins above h part → row_reason p named joins said (may_begin p named joins above said) ≡ None → IsProperTraceRow said → After said
  begin-with above (row.Run n) base at fine proper = absurd (cc fine)
  begin-with above (row.Arbitrary node) base at fine proper =
      let taken = arbitrary-taken _ (is_none (own_key p node)) (nat_lt above node) fine in
      name-more p nodes doubles named joins h part node above base at taken.1 taken.0 proper
  begin-with above (row.Join j) base at fine proper =
      let taken = join-taken (knows_node_and_reference p j) (joins_wrongly p named joins j) true (have_common p j) fine in
      join-more p nodes doubles named joins h part j base at.told at.before (no-join j at.none) taken.0 taken.1 taken.3 proper
  begin-with above (row.Clock cycle clock) base at fine proper =
      let taken = clock-taken (is_beyond p clock) (is_known p clock.node) (may_open p named joins cycle clock.node) fine in
      begin p nodes doubles named joins h part cycle clock base at.told at.before taken.2 taken.0 taken.1 proper
  begin-with above (row.Heard heard) base at fine proper =
      let taken = heard-taken p heard.cycle heard.receiver heard.slot heard.value heard.channel false fine in absurd (let no = taken.follows in cc no)

  join-with : (above : ℕ) (said : Row) → Base → JoinsUpTo doubles joins above h part → row_reason p named joins said (may_join p named joins above said) ≡ None → IsProperTraceRow said → After said
  join-with above (row.Run n) base at fine proper = absurd (cc fine)
  join-with above (row.Arbitrary node) base at fine proper =
      let taken = arbitrary-taken _ (is_none (own_key p node)) false fine in absurd (let no = taken.1 in cc no)
  join-with above (row.Join j) base at fine proper =
      let taken = join-taken (knows_node_and_reference p j) (joins_wrongly p named joins j) (nat_lt above j.node) (have_common p j) fine in
      let lt = lt-is above j.node taken.2 in
      join-more p nodes doubles named joins h part j base at.told at.before (All-weaker (λ k. k.node ≤ above) (λ k. k.node < j.node) (λ k le. omega (arith, le, lt)) joins at.upto) taken.0 taken.1 taken.3 proper
  join-with above (row.Clock cycle clock) base at fine proper =
      let taken = clock-taken (is_beyond p clock) (is_known p clock.node) (may_open p named joins cycle clock.node) fine in
      begin p nodes doubles named joins h part cycle clock base at.told at.before taken.2 taken.0 taken.1 proper
  join-with above (row.Heard heard) base at fine proper =
      let taken = heard-taken p heard.cycle heard.receiver heard.slot heard.value heard.channel false fine in absurd (let no = taken.follows in cc no)

  go-with : (cycle : ℕ) (turn : Turn) (said : Row) → Base → IsAtTurn p doubles named joins cycle turn h part
      → row_reason p named joins said (may_go_on p (doubles_or_0 doubles) named joins (latest_rows h) part.rows cycle turn said) ≡ None → IsProperTraceRow said → After said
  go-with cycle turn (row.Run n) base at fine proper = absurd (cc fine)
  go-with cycle turn (row.Arbitrary node) base at fine proper =
      let taken = arbitrary-taken _ (is_none (own_key p node)) false fine in absurd (let no = taken.1 in cc no)
  go-with cycle turn (row.Join j) base at fine proper =
      let taken = join-taken (knows_node_and_reference p j) (joins_wrongly p named joins j) false (have_common p j) fine in absurd (let no = taken.2 in cc no)
  go-with cycle turn (row.Clock next clock) base at fine proper =
      let taken = clock-taken (is_beyond p clock) (is_known p clock.node) (may_turn p (doubles_or_0 doubles) named joins (latest_rows h) part.rows cycle turn.node next clock.node) fine in
      go-on p nodes doubles named joins h part cycle turn base at next clock (next == cycle) refl taken.2 taken.0 taken.1 proper
  go-with cycle turn (row.Heard heard) base at fine proper =
      let taken =
      heard-taken p heard.cycle heard.receiver heard.slot heard.value heard.channel (may_go_on p (doubles_or_0 doubles) named joins (latest_rows h) part.rows cycle turn (row.Heard heard)) fine
      in
      hear p nodes doubles named joins h part cycle turn base at heard taken proper

  start-with : (said : Row) → doubles ≡ None → named ≡ [] → joins ≡ [] → IsBeforeCycles h part
      → row_reason p named joins said (may_come_next p (doubles_or_0 doubles) named joins (latest_rows h) part.rows None said) ≡ None → IsProperTraceRow said → After said
  start-with (row.Run n) no_doubles none unjoined before fine proper = run-first p nodes doubles named joins h part n no_doubles none unjoined before proper
  start-with (row.Arbitrary node) no_doubles none unjoined before fine proper = let taken = arbitrary-taken _ (is_none (own_key p node)) false fine in absurd (let no = taken.1 in cc no)
  start-with (row.Join j) no_doubles none unjoined before fine proper =
      let taken = join-taken (knows_node_and_reference p j) (joins_wrongly p named joins j) false (have_common p j) fine in absurd (let no = taken.2 in cc no)
  start-with (row.Clock cycle clock) no_doubles none unjoined before fine proper = let taken = clock-taken (is_beyond p clock) _ false fine in absurd (let no = taken.2 in cc no)
  start-with (row.Heard heard) no_doubles none unjoined before fine proper =
      let taken = heard-taken p heard.cycle heard.receiver heard.slot heard.value heard.channel false fine in absurd (let no = taken.follows in cc no)

  pub stays-sound : (last : Option Row) (said : Row) → IsDraftSound p doubles named joins last h part
      → row_reason p named joins said (may_come_next p (doubles_or_0 doubles) named joins (latest_rows h) part.rows last said) ≡ None → IsProperTraceRow said → After said
  stays-sound last said sound fine proper = by last sound.at fine
    where
      base : Base
      base = record { head = sound.head; over = sound.over }

      by : (last : Option Row) → IsAtLast p doubles named joins last h part → row_reason p named joins said (may_come_next p (doubles_or_0 doubles) named joins (latest_rows h) part.rows last said) ≡ None → After said
      by None at fine = start-with said at.none at.unnamed at.unjoined at.before fine proper
      by (Some (row.Run n)) at fine = begin-with 0 said base at fine proper
      by (Some (row.Arbitrary other)) at fine = begin-with other said base at fine proper
      by (Some (row.Join other)) at fine = join-with other.node said base at fine proper
      by (Some (row.Clock cycle clock)) at fine = go-with cycle (clock_turn clock) said base at fine proper
      by (Some (row.Heard heard)) at fine = go-with heard.cycle (heard_turn heard) said base at fine proper
