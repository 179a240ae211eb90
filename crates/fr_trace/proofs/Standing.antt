-- A cycle of a trace under construction, with one row or one deviation more, and at its end.
use Rattle.std.proofs.Common.{◌≡◌, ◌⊎◌, inl, inr, ℕ, pos, ◌<◌, ◌≤◌, Bool, true, false, List, [], ◌∷◌, ◌++◌, length, map, get_or, Option, Some, None, refl, ap, sym, ◌∙◌, subst, arith}
use Rattle.std.specs.Prelude.{nat_lt, nat_le, not, ◌==◌, ◌&&◌, ◌||◌, All, AllPairs, Contains, find, is_none, is_some, if◌then◌else◌}
use Rattle.std.specs.Option.{option_map}
use Rattle.std.proofs.lemmas.Bool.{cases_lt}
use Rattle.std.proofs.lemmas.Bool.Decides.{nat_tests}
use Rattle.std.proofs.lemmas.List.{map-append}
use Rattle.std.proofs.lemmas.List.Elements.{All-head, All-nil, All-push, All-tail, All-weaker, Contains-append_left, Contains-push}
use Rattle.std.proofs.lemmas.List.Quantifiers.{all_pairs_push}
use Rattle.fr_base.specs.Rows.{IsEarlierDev, channel_rank, dev_with}
use Rattle.fr_base.specs.Within.{IsWithin}
use Rattle.fr_base.specs.declared.channel.Channel.{Channel}
use Rattle.fr_base.specs.declared.dev.Dev.{Dev}
use Rattle.fr_base.specs.declared.node_row.NodeRow.{NodeRow}
use Rattle.fr_cluster.specs.Values.{Values}
use Rattle.fr_cluster.specs.declared.join.Join.{Join}
use Rattle.fr_cluster.specs.declared.nodes.NodeSpec.{NodeSpec}
use Rattle.fr_history.specs.History.{History, Record, row_of}
use Rattle.fr_trace.specs.Draft.{AreAllNamed, AreHeld, IsBegun, IsCycleUnderWay, IsOver, IsUpTo}
use Rattle.fr_trace.specs.Fits.{IsAboutOther, TracedJoinIsProper}
use Rattle.fr_trace.specs.Joins.{first_cycle, has_traced_row, is_among, join_among, latest_rows, stands_in}
use Rattle.fr_trace.specs.Lasting.{IsTracedRow}
use Rattle.fr_trace.specs.Order.{begins_by, clock_turn, heard_turn, is_due_after, is_up_to, may_stand, may_stand_after, must_stand, next_due, rank_of, stands_after, stays_by}
use Rattle.fr_cluster.specs.Questions.{is_known}
use Rattle.fr_trace.specs.Rows.{IsProperHeard}
use Rattle.fr_trace.specs.Said.{dev_on, no_record}
use Rattle.fr_trace.specs.declared.order.Turn.{Turn}
use Rattle.fr_trace.specs.declared.rows.HeardRow.{HeardRow}
use Rattle.fr_trace.specs.declared.trace.TracedJoin.{TracedJoin}
use Rattle.fr_trace.proofs.Nodes.{IsFoundUpTo, all-found, found-last, found-up-to, rows-are}
use Rattle.fr_trace.proofs.Passing.{both-true, eq-is, lt-is, one-true}

-- the nodes of a cluster, in ascending order and numbered from 1
pub record AreNodes (p : Values) : Type 0 where
  pub ascend : AllPairs (λ a b. a.id < b.id) p.nodes
  pub numbered : All (λ s. 1 ≤ s.id) p.nodes

lt-yes : (a b : ℕ) → a < b → nat_lt a b ≡ true
lt-yes a b lt = grind (arith, nat_tests)

le-is : (a b : ℕ) → nat_le a b ≡ true → a ≤ b
le-is a b e = grind (arith, nat_tests)

eq-yes : (a b : ℕ) → a ≡ b → (a == b) ≡ true
eq-yes a b e = grind (arith, nat_tests, e)

and-yes : (a b : Bool) → a ≡ true → b ≡ true → (a && b) ≡ true
and-yes a b e f = rw (e, f) refl

or-left : (a b : Bool) → a ≡ true → (a || b) ≡ true
or-left a b e = rw e refl

or-right : (a b : Bool) → b ≡ true → (a || b) ≡ true
or-right true b e = refl
or-right false b e = e

clash : {P : Type 0} (a : Bool) → a ≡ true → a ≡ false → P
clash a e f = absurd (cc (e, f))

-- ---- rows and deviations of a cycle

module _ (p : Values) where
  pub blank-kept : AreHeld p no_record
  blank-kept = record {
    rows_ascend = λ i j d lt le. absurd (omega (arith, le));
    rows_proper = All-nil IsTracedRow;
    rates = All-nil (λ row. IsWithin p.rate_limit row.rate);
    offsets = All-nil (λ row. IsWithin p.offset_limit row.offset);
    devs_ascend = λ i j d lt le. absurd (omega (arith, le));
    devs_proper = All-nil (λ dev. IsWithin (pos 1_000_000) dev.value);
    devs_heard = All-nil (λ dev. Contains [] dev.receiver);
    devs = All-nil (IsAboutOther p);
    uncounted = refl;
  }

  pub low : (turn : Turn) (dev : Dev) → IsUpTo turn dev → dev.receiver ≤ turn.node
  low turn dev (inl lt) = omega arith
  low turn dev (inr same) = let e = same.0 in omega arith

  pub known-low : AreNodes p → (n : ℕ) → is_known p n ≡ true → 1 ≤ n
  known-low nodes n known = all-found (λ (s : NodeSpec). s.id) (λ (k : ℕ). 1 ≤ k) p.nodes n nodes.numbered known

module _ (p : Values) (nodes : AreNodes p) (named : List ℕ) (joins : List TracedJoin) (h : History) where
  pub blank-begun : IsBegun p named joins h 0 no_record
  blank-begun = record {
    known = λ n e. absurd (cc e);
    may = λ n e. absurd (cc e);
    must = λ n le known must. absurd (let low = known-low p nodes n known in omega (arith, le, low));
    kept = blank-kept p;
    rows_to = All-nil (λ row. row.node ≤ 0);
  }

  -- no node between one that is found and another must have a row
  between : (n other k : ℕ) → n < k → k < other → is_known p k ≡ true → must_stand named joins (length h) (latest_rows h) k ≡ true
      → is_up_to other (next_due p named joins (length h) (latest_rows h) n) ≡ true → ⊥
  between n other k above below known must upto = by (find (is_due_after named joins (length h) (latest_rows h) n) p.nodes) first upto
    where
      first : IsFoundUpTo k (find (is_due_after named joins (length h) (latest_rows h) n) p.nodes)
      first =
          found-up-to (λ m. nat_lt n m && must_stand named joins (length h) (latest_rows h) m) p.nodes k nodes.ascend known
          (and-yes (nat_lt n k) (must_stand named joins (length h) (latest_rows h) k) (lt-yes n k above) must)

      by : (o : Option NodeSpec) → IsFoundUpTo k o → is_up_to other (option_map (λ s. s.id) o) ≡ true → ⊥
      by None found le = found
      by (Some s) found le = let up = le-is other s.id le in omega (arith, up, found, below)

  -- the row of a node is put behind that of another
  module _ (n : ℕ) (r : Record) (clock : NodeRow) (begun : IsBegun p named joins h n r) (comes : may_stand_after p named joins (length h) (latest_rows h) n clock.node ≡ true)
      (known : is_known p clock.node ≡ true) where
    parts : ((nat_lt n clock.node && may_stand named joins (length h) (latest_rows h) clock.node) ≡ true) × (is_up_to clock.node (next_due p named joins (length h) (latest_rows h) n) ≡ true)
    parts =
        both-true (nat_lt n clock.node && may_stand named joins (length h) (latest_rows h) clock.node)
        (is_up_to clock.node (next_due p named joins (length h) (latest_rows h) n)) comes

    pub comes-above : n < clock.node
    comes-above = lt-is n clock.node (both-true (nat_lt n clock.node) (may_stand named joins (length h) (latest_rows h) clock.node) parts.0).0

    may : may_stand named joins (length h) (latest_rows h) clock.node ≡ true
    may = (both-true (nat_lt n clock.node) (may_stand named joins (length h) (latest_rows h) clock.node) parts.0).1

    last : (k : ℕ) → is_some (row_of (r.rows ++ clock ∷ []) k) ≡ (is_some (row_of r.rows k) || (clock.node == k))
    last k = found-last (λ (row : NodeRow). row.node) k r.rows clock

    of-one : (P : ℕ → Type 0) → ((k : ℕ) → is_some (row_of r.rows k) ≡ true → P k) → P clock.node → (k : ℕ) → is_some (row_of (r.rows ++ clock ∷ []) k) ≡ true → P k
    of-one P old new k e = elim (one-true (is_some (row_of r.rows k)) (clock.node == k) (sym (last k) ∙ e)) [
      | inl there ↦ old k there
      | inr here ↦ subst P (eq-is clock.node k here) new
    ]

    must : (k : ℕ) → k ≤ clock.node → is_known p k ≡ true → must_stand named joins (length h) (latest_rows h) k ≡ true → is_some (row_of (r.rows ++ clock ∷ []) k) ≡ true
    must k le known_k must_k = last k ∙ by (cases_lt n k) (cases_lt k clock.node)
      where
        by : (n < k) ⊎ (k ≤ n) → (k < clock.node) ⊎ (clock.node ≤ k) → (is_some (row_of r.rows k) || (clock.node == k)) ≡ true
        by (inr old) c = or-left (is_some (row_of r.rows k)) (clock.node == k) (begun.must k old known_k must_k)
        by (inl above) (inl below) = absurd (between n clock.node k above below known_k must_k parts.1)
        by (inl above) (inr ge) = or-right (is_some (row_of r.rows k)) (clock.node == k) (eq-yes clock.node k (omega (arith, le, ge)))

    pub row-put : All (λ dev. dev.receiver ≤ n) r.devs → IsTracedRow clock → IsWithin p.rate_limit clock.rate → IsWithin p.offset_limit clock.offset
        → IsCycleUnderWay p named joins h (clock_turn clock) (record r { rows = r.rows ++ clock ∷ [] })
    row-put devs_to proper rate offset =
        let above = comes-above in
        let split : map (λ row. row.node) (r.rows ++ clock ∷ []) ≡ map (λ row. row.node) r.rows ++ clock.node ∷ [] = map-append (λ (row : NodeRow). row.node) r.rows (clock ∷ []) in
        record {
          begun = record {
            known = of-one (λ k. is_known p k ≡ true) begun.known known;
            may = of-one (λ k. may_stand named joins (length h) (latest_rows h) k ≡ true) begun.may may;
            must = must;
            kept = record {
              rows_ascend = all_pairs_push (λ a b. a.node < b.node) r.rows clock begun.kept.rows_ascend (λ k d lt. let le = begun.rows_to k d lt in omega (arith, le, above));
              rows_proper = All-push IsTracedRow r.rows clock begun.kept.rows_proper proper;
              rates = All-push (λ row. IsWithin p.rate_limit row.rate) r.rows clock begun.kept.rates rate;
              offsets = All-push (λ row. IsWithin p.offset_limit row.offset) r.rows clock begun.kept.offsets offset;
              devs_ascend = begun.kept.devs_ascend;
              devs_proper = begun.kept.devs_proper;
              devs_heard = All-weaker (λ dev. Contains (map (λ row. row.node) r.rows) dev.receiver) (λ dev. Contains (map (λ row. row.node) (r.rows ++ clock ∷ [])) dev.receiver)
                  (λ dev there. subst (λ (l : List ℕ). Contains l dev.receiver) (sym split) (Contains-append_left (map (λ row. row.node) r.rows) (clock.node ∷ []) dev.receiver there)) r.devs begun.kept.devs_heard;
              devs = begun.kept.devs;
              uncounted = begun.kept.uncounted;
            };
            rows_to = All-push (λ row. row.node ≤ clock.node) r.rows clock (All-weaker (λ row. row.node ≤ n) (λ row. row.node ≤ clock.node) (λ row le. omega (arith, le, above)) r.rows begun.rows_to) (omega arith);
          };
          here = subst (λ (l : List ℕ). Contains l clock.node) (sym split) (Contains-push (map (λ row. row.node) r.rows) clock.node);
          devs_to = All-weaker (λ dev. dev.receiver ≤ n) (IsUpTo (clock_turn clock)) (λ dev le. inl (omega (arith, le, above))) r.devs devs_to;
        }

  pub way-low : (turn : Turn) (r : Record) → IsCycleUnderWay p named joins h turn r → All (λ dev. dev.receiver ≤ turn.node) r.devs
  way-low turn r way = All-weaker (IsUpTo turn) (λ dev. dev.receiver ≤ turn.node) (low p turn) r.devs way.devs_to

  -- a deviation behind a place comes after each one up to there
  module _ (turn : Turn) (heard : HeardRow) (ch : Channel) (is : heard.channel ≡ Some ch) (same : heard.receiver ≡ turn.node) (behind : stands_after turn heard ≡ true) where
    rank : rank_of heard.channel ≡ channel_rank ch
    rank = ap rank_of is

    later : (turn.slot < heard.slot) ⊎ ((turn.slot ≡ heard.slot) × (turn.rank < channel_rank ch))
    later = elim (one-true _ _ behind) [
      | inl lt ↦ inl (lt-is turn.slot heard.slot lt)
      | inr both ↦ inr (
        eq-is turn.slot heard.slot (both-true _ _ both).0,
        let lt = lt-is turn.rank (rank_of heard.channel) (both-true _ _ both).1 in let r = rank in omega (arith, lt, r),
      )
    ]

    earlier : (x : Dev) → IsUpTo turn x → IsEarlierDev x (dev_with heard.receiver heard.slot ch heard.value)
    earlier x (inl lt) = inl (omega (arith, lt, same))
    earlier x (inr up) = inr (up.0 ∙ sym same, by up.1 later)
      where
        by : ((x.slot < turn.slot) ⊎ ((x.slot ≡ turn.slot) × (channel_rank x.channel ≤ turn.rank))) → (turn.slot < heard.slot) ⊎ ((turn.slot ≡ heard.slot) × (turn.rank < channel_rank ch))
            → (x.slot < heard.slot) ⊎ ((x.slot ≡ heard.slot) × (channel_rank x.channel < channel_rank ch))
        by (inl a) (inl b) = inl (omega (arith, a, b))
        by (inl a) (inr b) = let e = b.0 in inl (omega (arith, a, e))
        by (inr a) (inl b) = let e = a.0 in inl (omega (arith, e, b))
        by (inr a) (inr b) = let u = a.1 in let v = b.1 in inr (a.0 ∙ b.0, omega (arith, u, v))

    up : (x : Dev) → IsEarlierDev x (dev_with heard.receiver heard.slot ch heard.value) → IsUpTo (heard_turn heard) x
    up x (inl lt) = inl lt
    up x (inr s) = inr (s.0, by s.1)
      where
        by : (x.slot < heard.slot) ⊎ ((x.slot ≡ heard.slot) × (channel_rank x.channel < channel_rank ch)) → (x.slot < heard.slot) ⊎ ((x.slot ≡ heard.slot) × (channel_rank x.channel ≤ rank_of heard.channel))
        by (inl a) = inl a
        by (inr a) = let u = a.1 in let r = rank in inr (a.0, omega (arith, u, r))

    itself : IsUpTo (heard_turn heard) (dev_with heard.receiver heard.slot ch heard.value)
    itself = let r = rank in inr (refl, inr (refl, omega (arith, r)))

    pub dev-put : (r : Record) → IsCycleUnderWay p named joins h turn r → IsAboutOther p (dev_with heard.receiver heard.slot ch heard.value) → IsProperHeard heard
        → IsCycleUnderWay p named joins h (heard_turn heard) (record r { devs = r.devs ++ dev_on heard heard.channel })
    dev-put r way about proper =
        let dev = dev_with heard.receiver heard.slot ch heard.value in
        let one : dev_on heard heard.channel ≡ dev ∷ [] = ap (dev_on heard) is in
        let P : List Dev → Type 0 = λ l. IsCycleUnderWay p named joins h (heard_turn heard) (record r { devs = r.devs ++ l }) in
        let begun = way.begun in
        subst P (sym one) (record {
          begun = record {
            known = begun.known;
            may = begun.may;
            must = λ k le known must. begun.must k (omega (arith, le, same)) known must;
            kept = record {
              rows_ascend = begun.kept.rows_ascend;
              rows_proper = begun.kept.rows_proper;
              rates = begun.kept.rates;
              offsets = begun.kept.offsets;
              devs_ascend = all_pairs_push IsEarlierDev r.devs dev begun.kept.devs_ascend (λ k d lt. earlier (get_or r.devs k d) (way.devs_to k d lt));
              devs_proper = All-push (λ dev. IsWithin (pos 1_000_000) dev.value) r.devs dev begun.kept.devs_proper (record { low = proper.from; high = proper.to });
              devs_heard = All-push (λ dev. Contains (map (λ row. row.node) r.rows) dev.receiver) r.devs dev begun.kept.devs_heard
                  (subst (λ (n : ℕ). Contains (map (λ row. row.node) r.rows) n) (sym same) way.here);
              devs = All-push (IsAboutOther p) r.devs dev begun.kept.devs about;
              uncounted = begun.kept.uncounted;
            };
            rows_to = All-weaker (λ row. row.node ≤ turn.node) (λ row. row.node ≤ heard.receiver) (λ row le. omega (arith, le, same)) r.rows begun.rows_to;
          };
          here = subst (λ (n : ℕ). Contains (map (λ row. row.node) r.rows) n) (sym same) way.here;
          devs_to = All-push (IsUpTo (heard_turn heard)) r.devs dev (All-weaker (IsUpTo turn) (IsUpTo (heard_turn heard)) (λ x to. up x (earlier x to)) r.devs way.devs_to) itself;
        })

-- ---- the end of a cycle

-- a node that may have a row and has one is to have one
has-of-may : (o : Option Join) (h : History) (r : Record) (k : ℕ) → (begins_by o (length h) || stays_by o (length h) (latest_rows h) k) ≡ true → is_some (row_of r.rows k) ≡ true
    → stands_in o h r k ≡ true
has-of-may None h r k begins has = refl
has-of-may (Some join) h r k begins has = by (length h == first_cycle join) refl
  where
    Other : Bool
    Other = nat_lt (first_cycle join) (length h) && is_some (row_of (latest_rows h) k)

    by : (b : Bool) → (length h == first_cycle join) ≡ b → (if length h == first_cycle join then is_some (row_of r.rows k) else Other) ≡ true
    by true e = ap (λ (b : Bool). if b then is_some (row_of r.rows k) else Other) e ∙ has
    by false e = ap (λ (b : Bool). if b then is_some (row_of r.rows k) else Other) e ∙ sym (ap (λ (b : Bool). b || Other) e) ∙ begins

-- and one that is to have one and has none must have one
must-of-has : (o : Option Join) (h : History) (r : Record) (k : ℕ) → is_some (row_of r.rows k) ≡ false → stands_in o h r k ≡ true → stays_by o (length h) (latest_rows h) k ≡ true
must-of-has None h r k none has = refl
must-of-has (Some join) h r k none has = by (length h == first_cycle join) refl
  where
    Other : Bool
    Other = nat_lt (first_cycle join) (length h) && is_some (row_of (latest_rows h) k)

    by : (b : Bool) → (length h == first_cycle join) ≡ b → Other ≡ true
    by true e = clash (is_some (row_of r.rows k)) (sym (ap (λ (b : Bool). if b then is_some (row_of r.rows k) else Other) e) ∙ has) none
    by false e = sym (ap (λ (b : Bool). if b then is_some (row_of r.rows k) else Other) e) ∙ has

module _ (p : Values) (nodes : AreNodes p) (named : List ℕ) (joins : List TracedJoin) (h : History) (r : Record) where
  abbrev Has : ℕ → Bool
  Has k = has_traced_row named joins h r k

  -- where no node must have a row any more, each that is to have one has it
  pub over-at : (n : ℕ) → IsBegun p named joins h n r → is_none (next_due p named joins (length h) (latest_rows h) n) ≡ true → IsOver p named joins h r
  over-at n begun none = record { nodes = rows-are Has p.nodes r.rows nodes.ascend begun.kept.rows_ascend (λ k. by k (is_some (row_of r.rows k)) refl); kept = begun.kept }
    where
      left-out : (k : ℕ) → is_some (row_of r.rows k) ≡ false → is_known p k ≡ true → Has k ≡ true → ⊥
      left-out k row known has =
          let both = both-true (not (is_among named k)) (stands_in (join_among joins k) h r k) has in
          let must : must_stand named joins (length h) (latest_rows h) k ≡ true =
          and-yes (not (is_among named k)) (stays_by (join_among joins k) (length h) (latest_rows h) k) both.0 (must-of-has (join_among joins k) h r k row both.1)
          in
          elim (cases_lt n k) [
            | inl above ↦ nowhere (find (is_due_after named joins (length h) (latest_rows h) n) p.nodes)
                (found-up-to (λ m. nat_lt n m && must_stand named joins (length h) (latest_rows h) m) p.nodes k nodes.ascend known
                (and-yes (nat_lt n k) (must_stand named joins (length h) (latest_rows h) k) (lt-yes n k above) must)) none
            | inr le ↦ clash (is_some (row_of r.rows k)) (begun.must k le known must) row
          ]
        where
          nowhere : (o : Option NodeSpec) → IsFoundUpTo k o → is_none (option_map (λ s. s.id) o) ≡ true → ⊥
          nowhere None found e = found
          nowhere (Some s) found e = cc e

      by : (k : ℕ) (b : Bool) → is_some (row_of r.rows k) ≡ b → is_some (row_of r.rows k) ≡ (Has k && is_known p k)
      by k true row =
          let may = both-true (not (is_among named k)) (begins_by (join_among joins k) (length h) || stays_by (join_among joins k) (length h) (latest_rows h) k) (begun.may k row) in
          let has : Has k ≡ true = and-yes (not (is_among named k)) (stands_in (join_among joins k) h r k) may.0 (has-of-may (join_among joins k) h r k may.1 row) in
          row ∙ sym (and-yes (Has k) (is_known p k) has (begun.known k row))
      by k false row = row ∙ sym (neither (Has k) (is_known p k) refl refl)
        where
          neither : (a b : Bool) → Has k ≡ a → is_known p k ≡ b → (Has k && is_known p k) ≡ false
          neither true true has known = absurd (left-out k row known has)
          neither false b has known = ap (λ (a : Bool). a && is_known p k) has
          neither true false has known = ap (λ (a : Bool). a && is_known p k) has ∙ known

module _ (p : Values) (nodes : AreNodes p) (named : List ℕ) where
  -- where each node is arbitrary, no cycle has a row
  pub over-blank : (joins : List TracedJoin) (h : History) → AreAllNamed p named → IsOver p named joins h no_record
  over-blank joins h all = record {
    nodes = rows-are (λ k. has_traced_row named joins h no_record k) p.nodes [] nodes.ascend (λ i j d lt le. absurd (omega (arith, le))) (λ k. by k (is_known p k) refl);
    kept = blank-kept p;
  }
    where
      Has : ℕ → Bool
      Has k = has_traced_row named joins h no_record k

      by : (k : ℕ) (b : Bool) → is_known p k ≡ b → false ≡ (Has k && is_known p k)
      by k true known =
          let no_row : Has k ≡ false = ap (λ (a : Bool). not a && stands_in (join_among joins k) h no_record k) (all k known) in
          sym (ap (λ (a : Bool). a && is_known p k) no_row)
      by k false known = sym (second (Has k) (is_known p k) known)
        where
          second : (a b : Bool) → b ≡ false → (a && b) ≡ false
          second true b e = e
          second false b e = refl

  -- what holds of all that join holds of one that is found
  of-found : (P : TracedJoin → Type 0) (k : ℕ) (joins : List TracedJoin) (join : Join) → All P joins → join_among joins k ≡ Some join
      → (j : TracedJoin) × P j × (j.join ≡ join)
  of-found P k [] join all e = absurd (cc e)
  of-found P k (x ∷ xs) join all e = by (x.node == k) refl (λ rest. of-found P k xs join (All-tail P x xs all) rest)
    where
      by : (b : Bool) → (x.node == k) ≡ b → (join_among xs k ≡ Some join → (j : TracedJoin) × P j × (j.join ≡ join)) → (j : TracedJoin) × P j × (j.join ≡ join)
      by true is more = (x, All-head P x xs all, some-same (sym (ap (λ (b : Bool). option_map (λ j. j.join) (if b then Some x else find (λ j. j.node == k) xs)) is) ∙ e))
        where
          some-same : Some x.join ≡ Some join → x.join ≡ join
          some-same f = cc f
      by false is more = more (sym (ap (λ (b : Bool). option_map (λ j. j.join) (if b then Some x else find (λ j. j.node == k) xs)) is) ∙ e)

  -- where no node must have a row in the first cycle, each is arbitrary: one that joins has a reference that must have one
  pub all-named : (joins : List TracedJoin) → All (TracedJoinIsProper p named joins) joins → is_none (next_due p named joins 0 [] 0) ≡ true → AreAllNamed p named
  all-named joins proper none k known = by (is_among named k) refl (join_among joins k) refl
    where
      due : (m : ℕ) → is_known p m ≡ true → is_among named m ≡ false → join_among joins m ≡ None → ⊥
      due m known_m unnamed stays =
          let low = known-low p nodes m known_m in
          let must : must_stand named joins 0 [] m ≡ true = (λ i. not (unnamed i) && stays_by (stays i) 0 [] m) in
          nowhere (find (is_due_after named joins 0 [] 0) p.nodes)
          (found-up-to (λ n. nat_lt 0 n && must_stand named joins 0 [] n) p.nodes m nodes.ascend known_m (and-yes (nat_lt 0 m) (must_stand named joins 0 [] m) (lt-yes 0 m (omega (arith, low))) must)) none
        where
          nowhere : (o : Option NodeSpec) → IsFoundUpTo m o → is_none (option_map (λ s. s.id) o) ≡ true → ⊥
          nowhere None found e = found
          nowhere (Some s) found e = cc e

      by : (b : Bool) → is_among named k ≡ b → (o : Option Join) → join_among joins k ≡ o → is_among named k ≡ true
      by true e o is = e
      by false e None is = absurd (due k known e is)
      by false e (Some join) is =
          let found = of-found (TracedJoinIsProper p named joins) k joins join proper is in
          absurd (due found.0.join.reference found.1.known_reference found.1.correct_reference found.1.stays)
