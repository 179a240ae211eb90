-- The records of a trace's file say its rows, in their order.
use Rattle.std.proofs.Common.{◌≡◌, ◌≢◌, inl, inr, ℕ, zero, suc, ◌+◌, ◌*◌, ◌<◌, ◌≤◌, Bool, true, false, List, [], ◌∷◌, ◌++◌, length, map, Option, Some, None, Result, Ok, Err, refl, ap, sym, ◌∙◌, subst, arith, append_assoc}
use Rattle.std.specs.Prelude.{nat_lt, not, ◌==◌, ◌&&◌, ◌||◌, All, if◌then◌else◌, is_none}
use Rattle.std.proofs.lemmas.Bool.{cases_lt}
use Rattle.std.proofs.lemmas.Bool.Decides.{nat_tests}
use Rattle.std.proofs.lemmas.List.{append-nil, map-append}
use Rattle.std.proofs.lemmas.List.Elements.{All-nil, All-push, All-weaker}
use Rattle.fr_base.specs.Rows.{dev_with}
use Rattle.fr_base.specs.declared.channel.Channel.{Channel}
use Rattle.fr_base.specs.declared.dev.Dev.{Dev}
use Rattle.fr_base.specs.declared.node_row.NodeRow.{NodeRow}
use Rattle.fr_base.specs.declared.reason.Reason.{Reason}
use Rattle.fr_base.specs.declared.reason.Reason.TheVariants as reason
use Rattle.fr_cluster.specs.Values.{Values}
use Rattle.fr_history.specs.History.{History, Record}
use Rattle.fr_text.specs.Fields.{or_else}
use Rattle.fr_text.proofs.Lookups.{looked_up-nil, or_else-none}
use Rattle.fr_text.specs.Records.{FileRecord, records_of}
use Rattle.fr_text.specs.Refusal.{NoneRefused}
use Rattle.fr_trace.specs.Draft.{AreSaid, over_with, part_with}
use Rattle.fr_trace.specs.Items.{items_in}
use Rattle.fr_trace.specs.Order.{before_at, clock_turn, doubles_or_0, heard_turn, here_at, stands_after, may_begin, may_come_next, may_go_on, may_join, may_open, may_stand, may_stand_after, may_turn, next_due, is_up_to}
use Rattle.fr_trace.specs.Reasons.{row_reason, trace_reason_after, trace_row_reason}
use Rattle.fr_trace.specs.Rows.{trace_row_of}
use Rattle.fr_trace.specs.Said.{dev_on, history_said, joins_at, last_row_at, named_at, named_in, no_record, record_said, traced_doubles_at, traced_doubles_in, traced_joins_in}
use Rattle.fr_trace.specs.declared.order.Turn.{Turn}
use Rattle.fr_trace.specs.declared.rows.HeardRow.{HeardRow}
use Rattle.fr_trace.specs.declared.rows.Row.{Row}
use Rattle.fr_trace.specs.declared.rows.Row.TheVariants as row
use Rattle.fr_trace.specs.declared.trace.TracedJoin.{TracedJoin}
use Rattle.fr_trace.proofs.Saying.{IsPlaced, doubles-more, joins-more, last-more, named-more, put-said}
use Rattle.fr_trace.specs.Numbered.{ReadsInOrder, as_read, row_of_item}
use Rattle.fr_trace.proofs.Behind.{clock-last, cycle_rows, dev-last, heard_in, over-rows}
use Rattle.fr_trace.proofs.Counts.{IsCounted, counted}

-- ---- the tests

both-true : (a b : Bool) → (a && b) ≡ true → (a ≡ true) × (b ≡ true)
both-true true b e = (refl, e)
both-true false b e = absurd (cc e)

eq-is : (a b : ℕ) → (a == b) ≡ true → a ≡ b
eq-is a b e = grind (arith, nat_tests)

lt-is : (a b : ℕ) → nat_lt a b ≡ true → a < b
lt-is a b e = grind (arith, nat_tests)

eq-no : (a b : ℕ) → a ≢ b → (a == b) ≡ false
eq-no a b ne = grind (arith, nat_tests, ne)

eq-yes : (a b : ℕ) → a ≡ b → (a == b) ≡ true
eq-yes a b e = grind (arith, nat_tests, e)

-- a row that is not refused may come next
run-comes : (c : Bool) → (if not c then Some reason.Role else None) ≡ None → c ≡ true
run-comes true e = refl
run-comes false e = absurd (cc e)

arbitrary-comes : (a b c : Bool) → (if not a then Some reason.UnknownNode else if b || not c then Some reason.Role else None) ≡ None → c ≡ true
arbitrary-comes true false true e = refl
arbitrary-comes true false false e = absurd (cc e)
arbitrary-comes true true c e = absurd (cc e)
arbitrary-comes false b c e = absurd (cc e)

join-comes : (a b c d : Bool) → (if not a then Some reason.UnknownNode else if b || not c then Some reason.Role else if not d then Some reason.Link else None) ≡ None → c ≡ true
join-comes true false true true e = refl
join-comes true false true false e = absurd (cc e)
join-comes true false false d e = absurd (cc e)
join-comes true true c d e = absurd (cc e)
join-comes false b c d e = absurd (cc e)

clock-comes : (a b c : Bool) → (if a then Some reason.OutOfRange else if not b then Some reason.UnknownNode else if not c then Some reason.Role else None) ≡ None → c ≡ true
clock-comes false true true e = refl
clock-comes false true false e = absurd (cc e)
clock-comes false false c e = absurd (cc e)
clock-comes true b c e = absurd (cc e)

four-comes : (a b c d : Bool) → (if not a then Some reason.UnknownNode else if not b || not c then Some reason.Role else if not d then Some reason.Link else None) ≡ None → c ≡ true
four-comes true true true true e = refl
four-comes true true true false e = absurd (cc e)
four-comes true true false d e = absurd (cc e)
four-comes true false c d e = absurd (cc e)
four-comes false b c d e = absurd (cc e)

two-refused : (a : Bool) → (if not a then Some reason.UnknownNode else Some reason.BadChannel) ≡ None → ⊥
two-refused true e = cc e
two-refused false e = cc e

-- a deviation that is not refused has a channel
record HasCome (o : Option Channel) (comes : Bool) : Type 0 where
  channel : Channel
  named : o ≡ Some channel
  comes_next : comes ≡ true

heard-comes : (p : Values) (named : List ℕ) (joins : List TracedJoin) (cycle receiver slot : ℕ) (value : _) (o : Option Channel) (comes : Bool)
    → row_reason p named joins (row.Heard (record { cycle = cycle; receiver = receiver; slot = slot; channel = o; value = value })) comes ≡ None → HasCome o comes
heard-comes p named joins cycle receiver slot value None comes e = absurd (two-refused _ e)
heard-comes p named joins cycle receiver slot value (Some ch) comes e = record { channel = ch; named = refl; comes_next = four-comes _ _ comes _ e }

-- ---- where the last row stands

-- no cycle is begun
record IsBlank (h : History) (part : Record) : Type 0 where
  none : h ≡ []
  blank : part ≡ no_record

-- a cycle is under way, and the last row in it is that of a node, or one of its deviations
record IsTurn (doubles : Option ℕ) (cycle node : ℕ) (h : History) (part : Record) : Type 0 where
  numbered : cycle ≡ length h
  inside : cycle < 2 * doubles_or_0 doubles
  front : List NodeRow
  clock : NodeRow
  rows : part.rows ≡ front ++ clock ∷ []
  is_node : clock.node ≡ node
  below : All (λ other. other.node < node) front
  heard : All (λ dev. dev.receiver ≤ node) part.devs

-- no cycle is begun behind the number of double cycles, and no node joins yet
record IsHead (doubles : Option ℕ) (joins : List TracedJoin) (h : History) (part : Record) : Type 0 where
  counted : 1 ≤ doubles_or_0 doubles
  none : joins ≡ []
  blank : IsBlank h part

-- or some do
record IsJoined (doubles : Option ℕ) (h : History) (part : Record) : Type 0 where
  counted : 1 ≤ doubles_or_0 doubles
  blank : IsBlank h part

record IsUnsaid (doubles : Option ℕ) (named : List ℕ) (joins : List TracedJoin) (h : History) (part : Record) : Type 0 where
  none : doubles ≡ None
  unnamed : named ≡ []
  unjoined : joins ≡ []
  blank : IsBlank h part

abbrev IsLast : Option ℕ → List ℕ → List TracedJoin → Option Row → History → Record → Type 0
IsLast doubles named joins None h part = IsUnsaid doubles named joins h part
IsLast doubles named joins (Some (row.Run n)) h part = IsHead doubles joins h part
IsLast doubles named joins (Some (row.Arbitrary node)) h part = IsHead doubles joins h part
IsLast doubles named joins (Some (row.Join j)) h part = IsJoined doubles h part
IsLast doubles named joins (Some (row.Clock cycle clock)) h part = IsTurn doubles cycle clock.node h part
IsLast doubles named joins (Some (row.Heard heard)) h part = IsTurn doubles heard.cycle heard.receiver h part

-- the row of the number of double cycles, where it is said
abbrev run_rows : Option ℕ → List Row
run_rows None = []
run_rows (Some n) = row.Run n ∷ []

abbrev named_rows : List ℕ → List Row
named_rows named = map (λ node. row.Arbitrary node) named

abbrev join_rows : List TracedJoin → List Row
join_rows joins = map (λ j. row.Join j) joins

abbrev head_rows : Option ℕ → List ℕ → List TracedJoin → List Row
head_rows doubles named joins = (run_rows doubles ++ named_rows named) ++ join_rows joins

abbrev rows_so_far : Option ℕ → List ℕ → List TracedJoin → History → Record → List Row
rows_so_far doubles named joins h part = head_rows doubles named joins ++ (map row_of_item (items_in h) ++ cycle_rows (length h) part.devs part.rows)

-- ---- one row more

-- a row behind all others
push-last : (head items cycle : List Row) (said : Row) → head ++ (items ++ (cycle ++ said ∷ [])) ≡ (head ++ (items ++ cycle)) ++ said ∷ []
push-last head items cycle said =
    ap (λ (l : List Row). head ++ l) (sym (append_assoc items cycle (said ∷ []))) ∙ sym (append_assoc head (items ++ cycle) (said ∷ []))

-- a row that may come in a cycle is of a node above
comes-above : (p : Values) (named : List ℕ) (joins : List TracedJoin) (cycle : ℕ) (before : List NodeRow) (other node : ℕ) → may_stand_after p named joins cycle before other node ≡ true → other < node
comes-above p named joins cycle before other node may =
    let two = both-true (nat_lt other node && may_stand named joins cycle before node) (is_up_to node (next_due p named joins cycle before other)) may in
    lt-is other node (both-true (nat_lt other node) (may_stand named joins cycle before node) two.0).0

module _ (p : Values) (doubles : Option ℕ) (named : List ℕ) (joins : List TracedJoin) (h : History) (part : Record) where
  -- where a row stands, and that it is the last behind all others
  record IsAfter (said : Row) : Type 0 where
    placed : IsPlaced h said
    rows : rows_so_far (or_else doubles (traced_doubles_in (Ok said))) (named ++ named_in (Ok said)) (joins ++ traced_joins_in (Ok said)) (over_with h part said) (part_with h part said)
        ≡ rows_so_far doubles named joins h part ++ said ∷ []
    at : IsLast (or_else doubles (traced_doubles_in (Ok said))) (named ++ named_in (Ok said)) (joins ++ traced_joins_in (Ok said)) (Some said) (over_with h part said) (part_with h part said)

  run-first : (n : ℕ) → 1 ≤ n → doubles ≡ None → named ≡ [] → joins ≡ [] → IsBlank h part → IsAfter (row.Run n)
  unfolding items_in cycle_rows
  run-first n counted no_doubles none unjoined blank =
      let count : doubles_or_0 (or_else doubles (Some n)) ≡ n = ap (λ (o : Option ℕ). doubles_or_0 (or_else o (Some n))) no_doubles in
      record {
        placed = tt;
        rows = (λ i. rows_so_far (or_else (no_doubles i) (Some n)) (none i ++ []) (unjoined i ++ []) (blank.none i) (blank.blank i))
            ∙ sym (λ i. rows_so_far (no_doubles i) (none i) (unjoined i) (blank.none i) (blank.blank i) ++ row.Run n ∷ []);
        at = record { counted = omega (arith, counted, count); none = append-nil joins ∙ unjoined; blank = blank };
      }

  name-more : (node : ℕ) → IsHead doubles joins h part → IsAfter (row.Arbitrary node)
  unfolding items_in cycle_rows
  name-more node head =
      let same = or_else-none doubles in
      let blank = head.blank in
      let front : List Row = run_rows doubles ++ named_rows named in
      let more : run_rows doubles ++ named_rows (named ++ node ∷ []) ≡ front ++ row.Arbitrary node ∷ [] =
      ap (λ (l : List Row). run_rows doubles ++ l) (map-append (λ (n : ℕ). row.Arbitrary n) named (node ∷ [])) ∙ sym (append_assoc (run_rows doubles) (named_rows named) (row.Arbitrary node ∷ []))
      in
      record {
        placed = tt;
        rows = (λ i. rows_so_far (same i) (named ++ node ∷ []) ((append-nil joins ∙ head.none) i) (blank.none i) (blank.blank i))
            ∙ append-nil ((run_rows doubles ++ named_rows (named ++ node ∷ [])) ++ [])
            ∙ append-nil (run_rows doubles ++ named_rows (named ++ node ∷ []))
            ∙ more
            ∙ ap (λ (l : List Row). l ++ row.Arbitrary node ∷ []) (sym (append-nil front) ∙ sym (append-nil (front ++ [])))
            ∙ sym (λ i. rows_so_far doubles named (head.none i) (blank.none i) (blank.blank i) ++ row.Arbitrary node ∷ []);
        at = record { counted = let count = ap doubles_or_0 same in let least = head.counted in omega (arith, least, count); none = append-nil joins ∙ head.none; blank = blank };
      }

  join-more : (j : TracedJoin) → 1 ≤ doubles_or_0 doubles → IsBlank h part → IsAfter (row.Join j)
  unfolding items_in cycle_rows
  join-more j counted blank =
      let same = or_else-none doubles in
      let front : List Row = run_rows doubles ++ named_rows named in
      let more : front ++ join_rows (joins ++ j ∷ []) ≡ head_rows doubles named joins ++ row.Join j ∷ [] =
      ap (λ (l : List Row). front ++ l) (map-append (λ (k : TracedJoin). row.Join k) joins (j ∷ [])) ∙ sym (append_assoc front (join_rows joins) (row.Join j ∷ []))
      in
      record {
        placed = tt;
        rows = (λ i. rows_so_far (same i) (append-nil named i) (joins ++ j ∷ []) (blank.none i) (blank.blank i))
            ∙ append-nil (front ++ join_rows (joins ++ j ∷ []))
            ∙ more
            ∙ ap (λ (l : List Row). l ++ row.Join j ∷ []) (sym (append-nil (head_rows doubles named joins)))
            ∙ sym (λ i. rows_so_far doubles named joins (blank.none i) (blank.blank i) ++ row.Join j ∷ []);
        at = record { counted = let count = ap doubles_or_0 same in omega (arith, counted, count); blank = blank };
      }

  -- a row of the cycle under way
  clock-on : (cycle : ℕ) (clock : NodeRow) → cycle ≡ length h → cycle < 2 * doubles_or_0 doubles → All (λ other. other.node < clock.node) part.rows → All (λ dev. dev.receiver < clock.node) part.devs
      → IsAfter (row.Clock cycle clock)
  clock-on cycle clock here inside below heard =
      let same = or_else-none doubles in
      let e = eq-yes cycle (length h) here in
      let head : List Row = head_rows doubles named joins in
      let items : List Row = map row_of_item (items_in h) in
      let one : Record = record part { rows = part.rows ++ clock ∷ [] } in
      let next : Record = record no_record { rows = clock ∷ [] } in
      let last = clock-last (length h) part.devs part.rows clock heard in
      let turn : IsTurn doubles cycle clock.node h one = record {
        numbered = here;
        inside = inside;
        front = part.rows;
        clock = clock;
        rows = refl;
        is_node = refl;
        below = below;
        heard = All-weaker (λ dev. dev.receiver < clock.node) (λ dev. dev.receiver ≤ clock.node) (λ dev lt. omega (arith, lt)) part.devs heard;
      }
      in
      record {
        placed = inl here;
        rows = (λ i. rows_so_far (same i) (append-nil named i) (append-nil joins i) (if e i then h else part ∷ h) (if e i then one else next))
            ∙ ap (λ (l : List Row). head ++ (items ++ l)) last
            ∙ push-last head items (cycle_rows (length h) part.devs part.rows) (row.Clock (length h) clock)
            ∙ ap (λ (c : ℕ). rows_so_far doubles named joins h part ++ row.Clock c clock ∷ []) (sym here);
        at = subst (λ (b : Bool). IsTurn (or_else doubles None) cycle clock.node (if b then h else part ∷ h) (if b then one else next)) (sym e)
            (subst (λ (d : Option ℕ). IsTurn d cycle clock.node h one) (sym same) turn);
      }

  -- the first row of the next one
  clock-next : (cycle : ℕ) (clock : NodeRow) → cycle ≡ suc (length h) → cycle < 2 * doubles_or_0 doubles → IsAfter (row.Clock cycle clock)
  unfolding cycle_rows
  clock-next cycle clock here inside =
      let same = or_else-none doubles in
      let e = eq-no cycle (length h) (λ is. absurd (omega (arith, here, is))) in
      let head : List Row = head_rows doubles named joins in
      let one : Record = record part { rows = part.rows ++ clock ∷ [] } in
      let next : Record = record no_record { rows = clock ∷ [] } in
      let said : Row = row.Clock (suc (length h)) clock in
      let turn : IsTurn doubles cycle clock.node (part ∷ h) next = record {
        numbered = here;
        inside = inside;
        front = [];
        clock = clock;
        rows = refl;
        is_node = refl;
        below = All-nil (λ other. other.node < clock.node);
        heard = All-nil (λ dev. dev.receiver ≤ clock.node);
      }
      in
      record {
        placed = inr here;
        rows = (λ i. rows_so_far (same i) (append-nil named i) (append-nil joins i) (if e i then h else part ∷ h) (if e i then one else next))
            ∙ ap (λ (l : List Row). head ++ (l ++ said ∷ [])) (over-rows h part)
            ∙ sym (append_assoc head (map row_of_item (items_in h) ++ cycle_rows (length h) part.devs part.rows) (said ∷ []))
            ∙ ap (λ (c : ℕ). rows_so_far doubles named joins h part ++ row.Clock c clock ∷ []) (sym here);
        at = subst (λ (b : Bool). IsTurn (or_else doubles None) cycle clock.node (if b then h else part ∷ h) (if b then one else next)) (sym e)
            (subst (λ (d : Option ℕ). IsTurn d cycle clock.node (part ∷ h) next) (sym same) turn);
      }

  -- a deviation of the node whose row is the last
  heard-on : (cycle node : ℕ) (heard : HeardRow) (ch : Channel) → heard.channel ≡ Some ch → heard.cycle ≡ cycle → heard.receiver ≡ node → IsTurn doubles cycle node h part → IsAfter (row.Heard heard)
  heard-on cycle node heard ch is at mine turn =
      let same = or_else-none doubles in
      let here : heard.cycle ≡ length h = at ∙ turn.numbered in
      let dev : Dev = dev_with heard.receiver heard.slot ch heard.value in
      let one : dev_on heard heard.channel ≡ dev ∷ [] = ap (dev_on heard) is in
      let head : List Row = head_rows doubles named joins in
      let items : List Row = map row_of_item (items_in h) in
      let told : heard_in (length h) dev ≡ row.Heard heard =
      λ i. row.Heard (record { cycle = sym here i; receiver = heard.receiver; slot = heard.slot; channel = sym is i; value = heard.value })
      in
      let below : All (λ other. other.node < heard.receiver) turn.front =
      subst (λ (n : ℕ). All (λ other. other.node < n) turn.front) (sym mine) turn.below
      in
      let last = dev-last (length h) part.devs dev turn.front turn.clock below (turn.is_node ∙ sym mine) in
      record {
        placed = here;
        rows = (λ i. rows_so_far (same i) (append-nil named i) (append-nil joins i) h (record part { devs = part.devs ++ one i }))
            ∙ ap (λ (l : List NodeRow). head ++ (items ++ cycle_rows (length h) (part.devs ++ dev ∷ []) l)) turn.rows
            ∙ ap (λ (l : List Row). head ++ (items ++ l)) last
            ∙ ap (λ (l : List NodeRow). head ++ (items ++ (cycle_rows (length h) part.devs l ++ heard_in (length h) dev ∷ []))) (sym turn.rows)
            ∙ push-last head items (cycle_rows (length h) part.devs part.rows) (heard_in (length h) dev)
            ∙ ap (λ (r : Row). rows_so_far doubles named joins h part ++ r ∷ []) told;
        at = subst (λ (d : Option ℕ). IsTurn d heard.cycle heard.receiver h (record part { devs = part.devs ++ dev_on heard heard.channel })) (sym same)
            (subst (λ (l : List Dev). IsTurn doubles heard.cycle heard.receiver h (record part { devs = part.devs ++ l })) (sym one) (record {
              numbered = here;
              inside = let inside = turn.inside in omega (arith, at, inside);
              front = turn.front;
              clock = turn.clock;
              rows = turn.rows;
              is_node = turn.is_node ∙ sym mine;
              below = below;
              heard = All-push (λ d. d.receiver ≤ heard.receiver) part.devs dev (subst (λ (n : ℕ). All (λ d. d.receiver ≤ n) part.devs) (sym mine) turn.heard) (omega arith);
            }));
      }

  -- ---- any row that may come

  opens : (cycle : ℕ) (clock : NodeRow) → 1 ≤ doubles_or_0 doubles → IsBlank h part → may_open p named joins cycle clock.node ≡ true → IsAfter (row.Clock cycle clock)
  opens cycle clock counted blank may =
      let comes = both-true (cycle == 0) (may_stand_after p named joins 0 [] 0 clock.node) may in
      let zero_is : cycle ≡ 0 = eq-is cycle 0 comes.0 in
      let none = ap (λ (g : History). length g) blank.none in
      clock-on cycle clock (omega (arith, zero_is, none)) (omega (arith, zero_is, counted))
      (subst (λ (l : List NodeRow). All (λ other. other.node < clock.node) l) (sym (ap (λ (r : Record). r.rows) blank.blank)) (All-nil (λ other. other.node < clock.node)))
      (subst (λ (l : List Dev). All (λ dev. dev.receiver < clock.node) l) (sym (ap (λ (r : Record). r.devs) blank.blank)) (All-nil (λ dev. dev.receiver < clock.node)))

  begins : (above : ℕ) (said : Row) → IsHead doubles joins h part → row_reason p named joins said (may_begin p named joins above said) ≡ None → IsAfter said
  begins above (row.Run n) head fine = absurd (cc fine)
  begins above (row.Arbitrary node) head fine = name-more node head
  begins above (row.Join j) head fine = join-more j head.counted head.blank
  begins above (row.Clock cycle clock) head fine = opens cycle clock head.counted head.blank (clock-comes _ _ _ fine)
  begins above (row.Heard heard) head fine =
      let comes = heard-comes p named joins heard.cycle heard.receiver heard.slot heard.value heard.channel false fine in absurd (let no = comes.comes_next in cc no)

  joins-on : (above : ℕ) (said : Row) → IsJoined doubles h part → row_reason p named joins said (may_join p named joins above said) ≡ None → IsAfter said
  joins-on above (row.Run n) head fine = absurd (cc fine)
  joins-on above (row.Arbitrary node) head fine = absurd (let no = arbitrary-comes _ _ false fine in cc no)
  joins-on above (row.Join j) head fine = join-more j head.counted head.blank
  joins-on above (row.Clock cycle clock) head fine = opens cycle clock head.counted head.blank (clock-comes _ _ _ fine)
  joins-on above (row.Heard heard) head fine =
      let comes = heard-comes p named joins heard.cycle heard.receiver heard.slot heard.value heard.channel false fine in absurd (let no = comes.comes_next in cc no)

  turns-on : (before here : List NodeRow) (cycle node next : ℕ) (clock : NodeRow) (b : Bool) → (next == cycle) ≡ b → IsTurn doubles cycle node h part
      → may_turn p (doubles_or_0 doubles) named joins before here cycle node next clock.node ≡ true → IsAfter (row.Clock next clock)
  turns-on before here cycle node next clock true e turn may =
      let Choice : Bool → Bool = λ b. if b then may_stand_after p named joins cycle before node clock.node
      else ((next == cycle + 1) && nat_lt next (2 * doubles_or_0 doubles) && is_none (next_due p named joins cycle before node) && may_stand_after p named joins next here 0 clock.node)
      in
      let same : next ≡ cycle = eq-is next cycle e in
      let above : node < clock.node = comes-above p named joins cycle before node clock.node (sym (ap Choice e) ∙ may) in
      let inside = turn.inside in
      let own = turn.is_node in
      clock-on next clock (same ∙ turn.numbered) (omega (arith, inside, same))
      (subst (λ (l : List NodeRow). All (λ other. other.node < clock.node) l) (sym turn.rows)
      (All-push (λ other. other.node < clock.node) turn.front turn.clock
      (All-weaker (λ other. other.node < node) (λ other. other.node < clock.node) (λ other lt. omega (arith, lt, above)) turn.front turn.below) (omega (arith, own, above))))
      (All-weaker (λ dev. dev.receiver ≤ node) (λ dev. dev.receiver < clock.node) (λ dev le. omega (arith, le, above)) part.devs turn.heard)
  turns-on before here cycle node next clock false e turn may =
      let Choice : Bool → Bool = λ b. if b then may_stand_after p named joins cycle before node clock.node
      else ((next == cycle + 1) && nat_lt next (2 * doubles_or_0 doubles) && is_none (next_due p named joins cycle before node) && may_stand_after p named joins next here 0 clock.node)
      in
      let all =
      both-true ((next == cycle + 1) && nat_lt next (2 * doubles_or_0 doubles) && is_none (next_due p named joins cycle before node)) (may_stand_after p named joins next here 0 clock.node)
      (sym (ap Choice e) ∙ may)
      in
      let three = both-true ((next == cycle + 1) && nat_lt next (2 * doubles_or_0 doubles)) (is_none (next_due p named joins cycle before node)) all.0 in
      let two = both-true (next == cycle + 1) (nat_lt next (2 * doubles_or_0 doubles)) three.0 in
      let same : next ≡ cycle + 1 = eq-is next (cycle + 1) two.0 in
      let numbered = turn.numbered in
      clock-next next clock (omega (arith, same, numbered)) (lt-is next (2 * doubles_or_0 doubles) two.1)

  goes-on : (before here : List NodeRow) (cycle : ℕ) (turn : Turn) (said : Row) → IsTurn doubles cycle turn.node h part
      → row_reason p named joins said (may_go_on p (doubles_or_0 doubles) named joins before here cycle turn said) ≡ None → IsAfter said
  goes-on before here cycle turn (row.Run n) at fine = absurd (cc fine)
  goes-on before here cycle turn (row.Arbitrary other) at fine = absurd (let no = arbitrary-comes _ _ false fine in cc no)
  goes-on before here cycle turn (row.Join j) at fine = absurd (let no = join-comes _ _ false _ fine in cc no)
  goes-on before here cycle turn (row.Clock next clock) at fine = turns-on before here cycle turn.node next clock (next == cycle) refl at (clock-comes _ _ _ fine)
  goes-on before here cycle turn (row.Heard heard) at fine =
      let comes =
      heard-comes p named joins heard.cycle heard.receiver heard.slot heard.value heard.channel (may_go_on p (doubles_or_0 doubles) named joins before here cycle turn (row.Heard heard)) fine
      in
      let all = both-true ((heard.cycle == cycle) && (heard.receiver == turn.node)) (stands_after turn heard) comes.comes_next in
      let two = both-true (heard.cycle == cycle) (heard.receiver == turn.node) all.0 in
      heard-on cycle turn.node heard comes.channel comes.named (eq-is heard.cycle cycle two.0) (eq-is heard.receiver turn.node two.1) at

  starts : (before here : List NodeRow) (said : Row) → IsUnsaid doubles named joins h part → IsCounted (Ok said)
      → row_reason p named joins said (may_come_next p (doubles_or_0 doubles) named joins before here None said) ≡ None → IsAfter said
  starts before here (row.Run n) at counted fine = run-first n counted at.none at.unnamed at.unjoined at.blank
  starts before here (row.Arbitrary node) at counted fine = absurd (let no = arbitrary-comes _ _ false fine in cc no)
  starts before here (row.Join j) at counted fine = absurd (let no = join-comes _ _ false _ fine in cc no)
  starts before here (row.Clock cycle clock) at counted fine = absurd (let no = clock-comes _ _ false fine in cc no)
  starts before here (row.Heard heard) at counted fine =
      let comes = heard-comes p named joins heard.cycle heard.receiver heard.slot heard.value heard.channel false fine in absurd (let no = comes.comes_next in cc no)

  comes-after : (before here : List NodeRow) (last : Option Row) (said : Row) → IsLast doubles named joins last h part → IsCounted (Ok said)
      → row_reason p named joins said (may_come_next p (doubles_or_0 doubles) named joins before here last said) ≡ None → IsAfter said
  comes-after before here None said at counted fine = starts before here said at counted fine
  comes-after before here (Some (row.Run n)) said at counted fine = begins 0 said at fine
  comes-after before here (Some (row.Arbitrary other)) said at counted fine = begins other said at fine
  comes-after before here (Some (row.Join other)) said at counted fine = joins-on other.node said at fine
  comes-after before here (Some (row.Clock cycle clock)) said at counted fine = goes-on before here cycle (clock_turn clock) said at fine
  comes-after before here (Some (row.Heard heard)) said at counted fine = goes-on before here heard.cycle (heard_turn heard) said at fine

-- ---- all records

record IsRead (records : List FileRecord) : Type 0 where
  over : History
  part : Record
  said : AreSaid over part records
  rows : map trace_row_of records ≡ map as_read (rows_so_far (traced_doubles_at records) (named_at records) (joins_at records) over part)
  at : IsLast (traced_doubles_at records) (named_at records) (joins_at records) (last_row_at records) over part

last-along : (a b : Option ℕ) (n m : List ℕ) (s t : List TracedJoin) (k l : Option Row) (h : History) (r : Record) → a ≡ b → n ≡ m → s ≡ t → k ≡ l → IsLast a n s k h r → IsLast b m t l h r
last-along a b n m s t k l h r e1 e2 e3 e4 at =
    subst (λ (x : Option ℕ). IsLast x m t l h r) e1
    (subst (λ (x : List ℕ). IsLast a x t l h r) e2 (subst (λ (x : List TracedJoin). IsLast a n x l h r) e3 (subst (λ (x : Option Row). IsLast a n s x h r) e4 at)))

read-more : (p : Values) (done : List FileRecord) (r : FileRecord) (said : Row) → IsRead done → trace_row_of r ≡ Ok said → trace_row_reason p done (Ok said) ≡ None → IsCounted (Ok said)
    → IsRead (done ++ r ∷ [])
read-more p done r said rd e fine counted =
    let after = comes-after p (traced_doubles_at done) (named_at done) (joins_at done) rd.over rd.part (before_at done) (here_at done) (last_row_at done) said rd.at counted fine in
    let doubles = doubles-more done r (Ok said) e in
    let named = named-more done r (Ok said) e in
    let joins = joins-more done r (Ok said) e in
    let over = over_with rd.over rd.part said in
    let part = part_with rd.over rd.part said in
    record {
      over = over;
      part = part;
      said = put-said rd.over rd.part done r said e after.placed rd.said;
      rows = map-append trace_row_of done (r ∷ [])
          ∙ (λ i. rd.rows i ++ e i ∷ [])
          ∙ sym (map-append as_read (rows_so_far (traced_doubles_at done) (named_at done) (joins_at done) rd.over rd.part) (said ∷ []))
          ∙ ap (λ (l : List Row). map as_read l) (sym after.rows)
          ∙ sym (λ i. map as_read (rows_so_far (doubles i) (named i) (joins i) over part));
      at = last-along _ _ _ _ _ _ _ _ over part (sym doubles) (sym named) (sym joins) (sym (last-more done r said e)) after.at;
    }

read-none : IsRead []
unfolding items_in cycle_rows named_at joins_at last_row_at history_said record_said
read-none = record {
  over = [];
  part = no_record;
  said = record { over = refl; part = refl; none_later = λ cycle lt. refl };
  rows = sym (λ i. map as_read (rows_so_far (looked_up-nil (λ r. traced_doubles_in (trace_row_of r)) i) [] [] [] no_record));
  at = record { none = looked_up-nil (λ r. traced_doubles_in (trace_row_of r)); unnamed = refl; unjoined = refl; blank = record { none = refl; blank = refl } };
}

read-rest : (p : Values) (done rest : List FileRecord) → NoneRefused (trace_reason_after p) (done ++ rest) → IsRead done → IsRead (done ++ rest)
read-rest p done [] none rd = subst IsRead (sym (append-nil done)) rd
read-rest p done (r ∷ rest) none rd =
    let all : (done ++ r ∷ []) ++ rest ≡ done ++ r ∷ rest = append_assoc done (r ∷ []) rest in
    by (trace_row_of r) refl
    (λ more. subst IsRead all (read-rest p (done ++ r ∷ []) rest (subst (λ (l : List FileRecord). NoneRefused (trace_reason_after p) l) (sym all) none) more))
  where
    by : (x : Result Row Reason) → trace_row_of r ≡ x → (IsRead (done ++ r ∷ []) → IsRead (done ++ r ∷ rest)) → IsRead (done ++ r ∷ rest)
    by (Err why) e on = absurd (let no = sym (ap (trace_row_reason p done) e) ∙ none done r rest refl in cc no)
    by (Ok said) e on =
        on (read-more p done r said rd e (sym (ap (trace_row_reason p done) e) ∙ none done r rest refl) (subst IsCounted e (counted r)))

-- ---- the trace

-- the cycle under way is one of the trace
reached : (n : ℕ) (named : List ℕ) (joins : List TracedJoin) (last : Option Row) (h : History) (part : Record) → IsLast (Some n) named joins last h part → suc (length h) ≤ 2 * n
reached n named joins None h part at = absurd (let no = at.none in cc no)
reached n named joins (Some (row.Run m)) h part at = let one = at.counted in let none = ap (λ (g : History). length g) at.blank.none in omega (arith, one, none)
reached n named joins (Some (row.Arbitrary node)) h part at = let one = at.counted in let none = ap (λ (g : History). length g) at.blank.none in omega (arith, one, none)
reached n named joins (Some (row.Join j)) h part at = let one = at.counted in let none = ap (λ (g : History). length g) at.blank.none in omega (arith, one, none)
reached n named joins (Some (row.Clock cycle clock)) h part at = let numbered = at.numbered in let inside = at.inside in omega (arith, numbered, inside)
reached n named joins (Some (row.Heard heard)) h part at = let numbered = at.numbered in let inside = at.inside in omega (arith, numbered, inside)

-- later cycles are blank and have no items
blank-rows : (g : History) (r : Record) → r ≡ no_record → map row_of_item (items_in (r ∷ g)) ≡ map row_of_item (items_in g)
unfolding cycle_rows
blank-rows g r e = over-rows g r ∙ (λ i. map row_of_item (items_in g) ++ cycle_rows (length g) (e i).devs (e i).rows) ∙ append-nil (map row_of_item (items_in g))

said-rows : (records : List FileRecord) (h : History) (part : Record) (k : ℕ) → AreSaid h part records → suc (length h) ≤ k → map row_of_item (items_in (history_said records k)) ≡ map row_of_item (items_in (part ∷ h))
unfolding history_said
said-rows records h part zero said le = absurd (omega (arith, le))
said-rows records h part (suc k) said le = elim (cases_lt (length h) k) [
  | inl lt ↦ blank-rows (history_said records k) (record_said records k) (said.none_later k lt) ∙ said-rows records h part k said (omega (arith, lt))
  | inr ge ↦ let same : k ≡ length h = omega (arith, le, ge) in
      (λ i. map row_of_item (items_in (record_said records (same i) ∷ history_said records (same i)))) ∙ (λ i. map row_of_item (items_in (sym said.part i ∷ sym said.over i)))
]

pub reads_in_order : ReadsInOrder
reads_in_order p t bytes file =
    let records = records_of bytes in
    let rd = read-rest p [] records file.none_refused read-none in
    let stands = file.stands in
    let at = subst (λ (d : Option ℕ). IsLast d (named_at records) (joins_at records) (last_row_at records) rd.over rd.part) stands.doubles rd.at in
    let le = reached t.doubles (named_at records) (joins_at records) (last_row_at records) rd.over rd.part at in
    let items : map row_of_item (items_in rd.over) ++ cycle_rows (length rd.over) rd.part.devs rd.part.rows ≡ map row_of_item (items_in t.history) =
    sym (over-rows rd.over rd.part) ∙ sym (said-rows records rd.over rd.part (2 * t.doubles) rd.said le) ∙ ap (λ (g : History). map row_of_item (items_in g)) (sym stands.history)
    in
    rd.rows ∙ (λ i. map as_read (head_rows (stands.doubles i) (sym stands.arbitrary i) (sym stands.joins i) ++ items i))
