-- Records that say rows one after the other, of which none is refused.
use Rattle.std.proofs.Common.{◌≡◌, ◌≢◌, ℕ, ◌<◌, Bool, true, false, List, [], ◌∷◌, ◌++◌, length, map, Option, Some, None, Ok, refl, ap, sym, ◌∙◌, subst, arith, append_assoc, append-nil}
use Rattle.std.specs.Prelude.{nat_lt, not, ◌==◌, ◌&&◌, ◌||◌, All, AllPairs, IsSome, find, is_none, is_some, if◌then◌else◌}
use Rattle.std.specs.List.{list_all, list_any}
use Rattle.std.specs.Option.{option_map}
use Rattle.std.proofs.lemmas.Bool.Decides.{nat_tests}
use Rattle.std.proofs.lemmas.List.{map-append}
use Rattle.std.proofs.lemmas.List.Elements.{All-head, All-nil, All-push, All-tail, All-weaker}
use Rattle.std.proofs.lemmas.List.Folds.{list_all-append}
use Rattle.fr_base.specs.declared.channel.Channel.{Channel}
use Rattle.fr_base.specs.declared.channel.Channel.TheVariants as channel
use Rattle.fr_base.specs.declared.node_row.NodeRow.{NodeRow}
use Rattle.fr_base.specs.declared.reason.Reason.TheVariants as reason
use Rattle.fr_cluster.specs.Questions.{is_common, is_known, key_in, node_of, own_key}
use Rattle.fr_cluster.specs.Sane.{IsSane, IsSaneNode}
use Rattle.fr_cluster.specs.Values.{Values}
use Rattle.fr_cluster.specs.declared.nodes.NodeSpec.{NodeSpec}
use Rattle.fr_history.specs.History.{History, Record}
use Rattle.fr_text.proofs.Cuts.{none-empty, none-more}
use Rattle.fr_text.proofs.Lookups.{looked_up-nil}
use Rattle.fr_text.specs.Fields.{or_else}
use Rattle.fr_text.specs.Records.{FileRecord}
use Rattle.fr_text.specs.Refusal.{NoneRefused}
use Rattle.fr_text.specs.Texts.{is_plain_record}
use Rattle.fr_trace.proofs.Nodes.{all-found, pairs-first, pairs-rest}
use Rattle.fr_trace.proofs.Saying.{IsPlaced, doubles-more, joins-more, last-more, named-more, put-said}
use Rattle.fr_trace.proofs.Spelling.{IsNumber, IsWritten, plain, record_of_row, says}
use Rattle.fr_trace.specs.Draft.{AreSaid, over_with, part_with}
use Rattle.fr_trace.specs.Fits.{TracedJoinIsProper}
use Rattle.fr_trace.specs.Joins.{join_among, latest_rows}
use Rattle.fr_trace.specs.Order.{before_at, cycle_of, doubles_or_0, ends_with, here_at, may_begin, may_come_next, may_open, next_due}
use Rattle.fr_trace.specs.Reasons.{have_common, joins_wrongly, knows_node_and_reference, row_reason, trace_reason_after, trace_row_reason}
use Rattle.fr_trace.specs.Rows.{IsProperTracedCount, trace_row_of}
use Rattle.fr_trace.specs.Said.{history_said, joins_at, last_row_at, named_at, named_in, no_record, record_said, traced_doubles_at, traced_doubles_in, traced_joins_in}
use Rattle.fr_trace.specs.declared.rows.Row.{Row}
use Rattle.fr_trace.specs.declared.rows.Row.TheVariants as row
use Rattle.fr_trace.specs.declared.trace.TracedJoin.{TracedJoin}

-- ---- tests

pub lt-yes : (a b : ℕ) → a < b → nat_lt a b ≡ true
lt-yes a b lt = grind (arith, nat_tests)

eq-no : (a b : ℕ) → a ≢ b → (a == b) ≡ false
eq-no a b ne = grind (arith, nat_tests, ne)

eq-is : (a b : ℕ) → (a == b) ≡ true → a ≡ b
eq-is a b e = grind (arith, nat_tests)

pub and-both : (a b : Bool) → a ≡ true → b ≡ true → (a && b) ≡ true
and-both a b e f = λ i. e i && f i

-- a row that passes is not refused
arbitrary-fine : (a b c : Bool) → a ≡ true → b ≡ false → c ≡ true → (if not a then Some reason.UnknownNode else if b || not c then Some reason.Role else None) ≡ None
arbitrary-fine a b c e f g = λ i. if not (e i) then Some reason.UnknownNode else if f i || not (g i) then Some reason.Role else None

join-fine : (a b c d : Bool) → a ≡ true → b ≡ false → c ≡ true → d ≡ true
    → (if not a then Some reason.UnknownNode else if b || not c then Some reason.Role else if not d then Some reason.Link else None) ≡ None
join-fine a b c d e f g h = λ i. if not (e i) then Some reason.UnknownNode else if f i || not (g i) then Some reason.Role else if not (h i) then Some reason.Link else None

none-of : (o : Option ℕ) → IsSome o → is_none o ≡ false
none-of None e = absurd (cc e)
none-of (Some k) e = refl

key-known : (o : Option NodeSpec) → IsSome (key_in o) → is_some o ≡ true
key-known None e = absurd (cc e)
key-known (Some node) e = refl

-- ---- what the records so far say

module _ (p : Values) where
  -- none of them is refused, and they say so much
  pub record IsTold (done : List FileRecord) (doubles : Option ℕ) (named : List ℕ) (joins : List TracedJoin) (last : Option Row) (h : History) (part : Record) : Type 0 where
    pub none_refused : NoneRefused (trace_reason_after p) done
    pub unquoted : list_all is_plain_record done ≡ true
    pub told : traced_doubles_at done ≡ doubles
    pub names : named_at done ≡ named
    pub joiners : joins_at done ≡ joins
    pub latest : last_row_at done ≡ last
    pub at : cycle_of last ≡ length h
    pub says_so : AreSaid h part done

  reason-of : (done : List FileRecord) (doubles : Option ℕ) (named : List ℕ) (joins : List TracedJoin) (last : Option Row) (h : History) (part : Record) (said : Row)
      → IsTold done doubles named joins last h part
      → trace_row_reason p done (Ok said) ≡ row_reason p named joins said (may_come_next p (doubles_or_0 doubles) named joins (latest_rows h) part.rows last said)
  reason-of done doubles named joins last h part said t =
      let cycle : cycle_of (last_row_at done) ≡ length h = ap cycle_of t.latest ∙ t.at in
      let before : before_at done ≡ latest_rows h = ap (λ (n : ℕ). latest_rows (history_said done n)) cycle ∙ ap latest_rows (sym t.says_so.over) in
      let here : here_at done ≡ part.rows = ap (λ (n : ℕ). (record_said done n).rows) cycle ∙ ap (λ (r : Record). r.rows) (sym t.says_so.part) in
      λ i. row_reason p (t.names i) (t.joiners i) said (may_come_next p (doubles_or_0 (t.told i)) (t.names i) (t.joiners i) (before i) (here i) (t.latest i) said)

  -- one more
  pub told-more : (done : List FileRecord) (doubles d2 : Option ℕ) (named n2 : List ℕ) (joins j2 : List TracedJoin) (last : Option Row) (h h2 : History) (part q2 : Record) (said : Row)
      → IsTold done doubles named joins last h part → IsWritten said → IsPlaced h said
      → or_else doubles (traced_doubles_in (Ok said)) ≡ d2 → named ++ named_in (Ok said) ≡ n2 → joins ++ traced_joins_in (Ok said) ≡ j2
      → over_with h part said ≡ h2 → part_with h part said ≡ q2 → cycle_of (Some said) ≡ length h2
      → row_reason p named joins said (may_come_next p (doubles_or_0 doubles) named joins (latest_rows h) part.rows last said) ≡ None
      → IsTold (done ++ record_of_row said ∷ []) d2 n2 j2 (Some said) h2 q2
  told-more done doubles d2 named n2 joins j2 last h h2 part q2 said t written placed e1 e2 e3 e4 e5 at fine =
      let r : FileRecord = record_of_row said in
      let is = says said written in
      record {
        none_refused = none-more (trace_reason_after p) done r t.none_refused (ap (trace_row_reason p done) is ∙ reason-of done doubles named joins last h part said t ∙ fine);
        unquoted = list_all-append is_plain_record done (r ∷ []) ∙ (λ i. t.unquoted i && (plain said written i && true));
        told = doubles-more done r (Ok said) is ∙ ap (λ (o : Option ℕ). or_else o (traced_doubles_in (Ok said))) t.told ∙ e1;
        names = named-more done r (Ok said) is ∙ ap (λ (l : List ℕ). l ++ named_in (Ok said)) t.names ∙ e2;
        joiners = joins-more done r (Ok said) is ∙ ap (λ (l : List TracedJoin). l ++ traced_joins_in (Ok said)) t.joiners ∙ e3;
        latest = last-more done r said is;
        at = at;
        says_so = subst (λ (g : History). AreSaid g q2 (done ++ r ∷ [])) e4
            (subst (λ (q : Record). AreSaid (over_with h part said) q (done ++ r ∷ [])) e5 (put-said h part done r said is placed t.says_so));
      }

  pub told-none : IsTold [] None [] [] None [] no_record
  unfolding named_at joins_at last_row_at history_said record_said
  told-none = record {
    none_refused = none-empty (trace_reason_after p);
    unquoted = refl;
    told = looked_up-nil (λ r. traced_doubles_in (trace_row_of r));
    names = refl;
    joiners = refl;
    latest = refl;
    at = refl;
    says_so = record { over = refl; part = refl; none_later = λ cycle lt. refl };
  }

  -- records that are the same say the same
  pub told-same : (done other : List FileRecord) (doubles : Option ℕ) (named n2 : List ℕ) (joins j2 : List TracedJoin) (last : Option Row) (h : History) (part : Record)
      → done ≡ other → named ≡ n2 → joins ≡ j2 → IsTold done doubles named joins last h part → IsTold other doubles n2 j2 last h part
  told-same done other doubles named n2 joins j2 last h part e1 e2 e3 t =
      subst (λ (l : List FileRecord). IsTold l doubles n2 j2 last h part) e1
      (subst (λ (l : List ℕ). IsTold done doubles l j2 last h part) e2 (subst (λ (l : List TracedJoin). IsTold done doubles named l last h part) e3 t))

-- the last row before the cycles: that of the number of double cycles, or of an arbitrary node
named_last : ℕ → Option ℕ → Row
named_last n None = row.Run n
named_last n (Some node) = row.Arbitrary node

above_of : Option ℕ → ℕ
above_of None = 0
above_of (Some node) = node

-- a row behind which the cycles begin
pub record IsOpen (p : Values) (said : Row) : Type 0 where
  pub begins : (d : ℕ) (named : List ℕ) (joins : List TracedJoin) (before here : List NodeRow) (cycle : ℕ) (clock : NodeRow)
      → may_come_next p d named joins before here (Some said) (row.Clock cycle clock) ≡ may_open p named joins cycle clock.node
  pub ends : (d : ℕ) (named : List ℕ) (joins : List TracedJoin) (before : List NodeRow) → ends_with p d named joins before (Some said) ≡ is_none (next_due p named joins 0 [] 0)

module _ (p : Values) (sane : IsSane p) (n : ℕ) (count : IsProperTracedCount n) where
  -- the numbers of known nodes
  pub numbered : (k : ℕ) → is_known p k ≡ true → IsNumber k
  numbered k known =
      all-found (λ (s : NodeSpec). s.id) IsNumber p.nodes k
      (All-weaker IsSaneNode (λ s. IsNumber s.id) (λ s is. record { from = is.proper.from; to = is.proper.to }) p.nodes sane.lists.nodes_sane) known

  abbrev pub IsHeadTold : List FileRecord → List ℕ → List TracedJoin → Row → Type 0
  IsHeadTold done named joins last = IsTold p done (Some n) named joins (Some last) [] no_record

  -- ---- the number of double cycles

  told-run : IsHeadTold (record_of_row (row.Run n) ∷ []) [] [] (named_last n None)
  unfolding named_last
  told-run = told-more p [] None (Some n) [] [] [] [] None [] [] no_record no_record (row.Run n) (told-none p) count tt refl refl refl refl refl refl refl

  -- ---- the arbitrary nodes

  begin-next : (o : Option ℕ) (d : ℕ) (named : List ℕ) (joins : List TracedJoin) (before here : List NodeRow) (next : Row)
      → may_come_next p d named joins before here (Some (named_last n o)) next ≡ may_begin p named joins (above_of o) next
  unfolding named_last above_of
  begin-next None d named joins before here next = refl
  begin-next (Some node) d named joins before here next = refl

  named-open : (o : Option ℕ) → IsOpen p (named_last n o)
  unfolding named_last
  named-open None = record { begins = λ d named joins before here cycle clock. refl; ends = λ d named joins before. refl }
  named-open (Some node) = record { begins = λ d named joins before here cycle clock. refl; ends = λ d named joins before. refl }

  -- some nodes are named arbitrary behind others
  abbrev AreNamed : List FileRecord → List ℕ → Type 0
  AreNamed done named = (o : Option ℕ) × IsHeadTold done named [] (named_last n o)

  name-one : (done : List FileRecord) (seen : List ℕ) (o : Option ℕ) (node : ℕ) → IsHeadTold done seen [] (named_last n o) → above_of o < node → IsSome (own_key p node)
      → IsHeadTold (done ++ record_of_row (row.Arbitrary node) ∷ []) (seen ++ node ∷ []) [] (named_last n (Some node))
  unfolding named_last
  name-one done seen o node t above keyed =
      let known : is_known p node ≡ true = key-known (node_of p node) keyed in
      told-more p done (Some n) (Some n) seen (seen ++ node ∷ []) [] [] (Some (named_last n o)) [] [] no_record no_record (row.Arbitrary node) t (numbered node known) tt refl refl refl refl refl refl
      (arbitrary-fine (is_known p node) (is_none (own_key p node)) (may_come_next p n seen [] [] [] (Some (named_last n o)) (row.Arbitrary node)) known (none-of (own_key p node) keyed)
      (begin-next o n seen [] [] [] (row.Arbitrary node) ∙ lt-yes (above_of o) node above))

  name-all : (done : List FileRecord) (seen : List ℕ) (o : Option ℕ) (rest : List ℕ) → IsHeadTold done seen [] (named_last n o) → All (λ node. above_of o < node) rest
      → AllPairs (λ a b. a < b) rest → All (λ node. IsSome (own_key p node)) rest → AreNamed (done ++ map record_of_row (map (λ node. row.Arbitrary node) rest)) (seen ++ rest)
  unfolding above_of
  name-all done seen o [] t above ascend keyed = (o, told-same p done (done ++ []) (Some n) seen (seen ++ []) [] [] _ [] no_record (sym (append-nil done)) (sym (append-nil seen)) refl t)
  name-all done seen o (node ∷ rest) t above ascend keyed =
      let r : FileRecord = record_of_row (row.Arbitrary node) in
      let one = name-one done seen o node t (All-head (λ (m : ℕ). above_of o < m) node rest above) (All-head (λ (m : ℕ). IsSome (own_key p m)) node rest keyed) in
      let more =
      name-all (done ++ r ∷ []) (seen ++ node ∷ []) (Some node) rest one (pairs-first (λ (a b : ℕ). a < b) node rest ascend) (pairs-rest (λ (a b : ℕ). a < b) node rest ascend)
      (All-tail (λ (m : ℕ). IsSome (own_key p m)) node rest keyed)
      in (
        more.0,
        told-same p ((done ++ r ∷ []) ++ map record_of_row (map (λ (m : ℕ). row.Arbitrary m) rest)) (done ++ map record_of_row (map (λ (m : ℕ). row.Arbitrary m) (node ∷ rest))) (Some n)
            ((seen ++ node ∷ []) ++ rest) (seen ++ node ∷ rest) [] [] (Some (named_last n more.0)) [] no_record
            (append_assoc done (r ∷ []) (map record_of_row (map (λ (m : ℕ). row.Arbitrary m) rest))) (append_assoc seen (node ∷ []) rest) refl more.1,
      )

  -- ---- those that join

  -- the first of some may come
  abbrev IsNext : Row → List TracedJoin → Type 0
  IsNext last [] = Unit {0}
  IsNext last (j ∷ rest) = (d : ℕ) (named : List ℕ) (joins : List TracedJoin) (before here : List NodeRow) → may_come_next p d named joins before here (Some last) (row.Join j) ≡ true

  next-named : (o : Option ℕ) (joins : List TracedJoin) → IsNext (named_last n o) joins
  next-named o [] = tt
  next-named o (j ∷ rest) = λ d named joins before here. begin-next o d named joins before here (row.Join j)

  next-joined : (j : TracedJoin) (joins : List TracedJoin) → All (λ k. j.node < k.node) joins → IsNext (row.Join j) joins
  next-joined j [] above = tt
  next-joined j (k ∷ rest) above = let lt = All-head (λ (x : TracedJoin). j.node < x.node) k rest above in λ d named joins before here. lt-yes j.node k.node lt

  -- one that joins is found among all, and none is found in front of others where none is found at all
  join-there : (front : List TracedJoin) (j : TracedJoin) (back : List TracedJoin) → join_among (front ++ j ∷ back) j.node ≡ None → ⊥
  join-there [] j back e = by (j.node == j.node) refl e
    where
      by : (b : Bool) → (j.node == j.node) ≡ b → option_map (λ k. k.join) (if b then Some j else find (λ k. k.node == j.node) back) ≡ None → ⊥
      by true is f = cc f
      by false is f = let no : (j.node == j.node) ≡ true = grind (arith, nat_tests) in cc (no, is)
  join-there (x ∷ front) j back e = by (x.node == j.node) e (join-there front j back)
    where
      by : (b : Bool) → option_map (λ k. k.join) (if b then Some x else find (λ k. k.node == j.node) (front ++ j ∷ back)) ≡ None → (join_among (front ++ j ∷ back) j.node ≡ None → ⊥) → ⊥
      by true f rest = cc f
      by false f rest = rest f

  none-front : (front back : List TracedJoin) (k : ℕ) → join_among (front ++ back) k ≡ None → is_some (join_among front k) ≡ false
  none-front [] back k e = refl
  none-front (x ∷ front) back k e = by (x.node == k) e (none-front front back k)
    where
      by : (b : Bool) → option_map (λ j. j.join) (if b then Some x else find (λ j. j.node == k) (front ++ back)) ≡ None
          → (join_among (front ++ back) k ≡ None → is_some (join_among front k) ≡ false)
          → is_some (option_map (λ j. j.join) (if b then Some x else find (λ j. j.node == k) front)) ≡ false
      by true f rest = absurd (cc f)
      by false f rest = rest f

  -- no other has a node that joins as its reference
  none-refers : (named : List ℕ) (all : List TracedJoin) (m : ℕ) → (join_among all m ≡ None → ⊥) → (some : List TracedJoin) → All (TracedJoinIsProper p named all) some
      → list_any (λ other. other.join.reference == m) some ≡ false
  none-refers named all m there [] proper = refl
  none-refers named all m there (x ∷ some) proper =
      let stays = (All-head (TracedJoinIsProper p named all) x some proper).stays in
      let other : (x.join.reference == m) ≡ false = eq-no x.join.reference m (λ same. there (subst (λ (k : ℕ). join_among all k ≡ None) same stays)) in
      let rest = none-refers named all m there some (All-tail (TracedJoinIsProper p named all) x some proper) in
      λ i. other i || rest i

  common-yes : (a b : ℕ) (ch : Channel) → is_common p a b ch ≡ true → (is_common p a b channel.A || is_common p a b channel.B) ≡ true
  common-yes a b channel.A e = ap (λ (c : Bool). c || is_common p a b channel.B) e
  common-yes a b channel.B e = by (is_common p a b channel.A) e
    where
      by : (c : Bool) → is_common p a b channel.B ≡ true → (c || is_common p a b channel.B) ≡ true
      by true f = refl
      by false f = f

  join-one : (done : List FileRecord) (named : List ℕ) (seen : List TracedJoin) (last : Row) (j : TracedJoin) (rest : List TracedJoin) → IsHeadTold done named seen last → IsNext last (j ∷ rest)
      → TracedJoinIsProper p named (seen ++ j ∷ rest) j → All (TracedJoinIsProper p named (seen ++ j ∷ rest)) seen
      → IsHeadTold (done ++ record_of_row (row.Join j) ∷ []) named (seen ++ j ∷ []) (row.Join j)
  join-one done named seen last j rest t next proper before =
      let low = proper.double in
      let known : knows_node_and_reference p j ≡ true = and-both (is_known p j.node) (is_known p j.join.reference) proper.known proper.known_reference in
      let a : (j.join.reference == j.node) ≡ false = eq-no j.join.reference j.node proper.other in
      let d = none-of (own_key p j.join.reference) proper.key in
      let e = none-front seen (j ∷ rest) j.join.reference proper.stays in
      let f = none-refers named (seen ++ j ∷ rest) j.node (join-there seen j rest) seen before in
      let right : joins_wrongly p named seen j ≡ false = λ i. a i || proper.correct i || proper.correct_reference i || d i || e i || f i in
      told-more p done (Some n) (Some n) named named seen (seen ++ j ∷ []) (Some last) [] [] no_record no_record (row.Join j) t
      (record { node = numbered j.node proper.known; reference = numbered j.join.reference proper.known_reference; double = omega (arith, low) })
      tt refl (append-nil named) refl refl refl refl
      (join-fine (knows_node_and_reference p j) (joins_wrongly p named seen j) (may_come_next p n named seen [] [] (Some last) (row.Join j)) (have_common p j) known right (next n named seen [] [])
      (common-yes j.node j.join.reference proper.channel proper.common))

  -- the lines before the cycles are told, with a last one behind which these may begin
  pub record IsHeadOver (done : List FileRecord) (named : List ℕ) (joins : List TracedJoin) : Type 0 where
    pub last : Row
    pub opens : IsOpen p last
    pub told : IsHeadTold done named joins last

  join-all : (done : List FileRecord) (named : List ℕ) (seen : List TracedJoin) (last : Row) (rest : List TracedJoin) → IsOpen p last → IsHeadTold done named seen last → IsNext last rest
      → AllPairs (λ a b. a.node < b.node) rest → All (TracedJoinIsProper p named (seen ++ rest)) seen → All (TracedJoinIsProper p named (seen ++ rest)) rest
      → IsHeadOver (done ++ map record_of_row (map (λ j. row.Join j) rest)) named (seen ++ rest)
  join-all done named seen last [] opens t next ascend before proper = record {
    last = last;
    opens = opens;
    told = told-same p done (done ++ []) (Some n) named named seen (seen ++ []) (Some last) [] no_record (sym (append-nil done)) refl (sym (append-nil seen)) t;
  }
  join-all done named seen last (j ∷ rest) opens t next ascend before proper =
      let r : FileRecord = record_of_row (row.Join j) in
      let own = All-head (TracedJoinIsProper p named (seen ++ j ∷ rest)) j rest proper in
      let one = join-one done named seen last j rest t next own before in
      let same : (seen ++ j ∷ []) ++ rest ≡ seen ++ j ∷ rest = append_assoc seen (j ∷ []) rest in
      let P : List TracedJoin → List TracedJoin → Type 0 = λ all some. All (TracedJoinIsProper p named all) some in
      let more =
      join-all (done ++ r ∷ []) named (seen ++ j ∷ []) (row.Join j) rest
      (record { begins = λ d names joins early here cycle clock. refl; ends = λ d names joins early. refl })
      one (next-joined j rest (pairs-first (λ (a b : TracedJoin). a.node < b.node) j rest ascend)) (pairs-rest (λ (a b : TracedJoin). a.node < b.node) j rest ascend)
      (subst (λ (all : List TracedJoin). P all (seen ++ j ∷ [])) (sym same) (All-push (TracedJoinIsProper p named (seen ++ j ∷ rest)) seen j before own))
      (subst (λ (all : List TracedJoin). P all rest) (sym same) (All-tail (TracedJoinIsProper p named (seen ++ j ∷ rest)) j rest proper))
      in
      record {
        last = more.last;
        opens = more.opens;
        told = told-same p ((done ++ r ∷ []) ++ map record_of_row (map (λ (k : TracedJoin). row.Join k) rest)) (done ++ map record_of_row (map (λ (k : TracedJoin). row.Join k) (j ∷ rest))) (Some n) named named
            ((seen ++ j ∷ []) ++ rest) (seen ++ j ∷ rest) (Some more.last) [] no_record (append_assoc done (r ∷ []) (map record_of_row (map (λ (k : TracedJoin). row.Join k) rest))) refl same more.told;
      }

  -- ---- all of them

  pub head-over : (named : List ℕ) (joins : List TracedJoin) → AllPairs (λ a b. a < b) named → All (λ node. IsSome (own_key p node)) named → AllPairs (λ a b. a.node < b.node) joins
      → All (TracedJoinIsProper p named joins) joins → IsHeadOver (map record_of_row ((row.Run n ∷ map (λ node. row.Arbitrary node) named) ++ map (λ j. row.Join j) joins)) named joins
  unfolding above_of
  head-over named joins ascend keyed joins_ascend proper =
      let low : All (λ node. 0 < node) named = All-weaker (λ (node : ℕ). IsSome (own_key p node)) (λ (node : ℕ). 0 < node)
      (λ node key. let number = numbered node (key-known (node_of p node) key) in let from = number.from in omega (arith, from)) named keyed
      in
      let start : List FileRecord = record_of_row (row.Run n) ∷ [] in
      let names = name-all start [] None named told-run low ascend keyed in
      let front : List FileRecord = start ++ map record_of_row (map (λ node. row.Arbitrary node) named) in
      let over = join-all front named [] (named_last n names.0) joins (named-open names.0) names.1 (next-named names.0 joins) joins_ascend (All-nil (TracedJoinIsProper p named joins)) proper in
      subst (λ (l : List FileRecord). IsHeadOver l named joins) (sym (map-append record_of_row (row.Run n ∷ map (λ node. row.Arbitrary node) named) (map (λ j. row.Join j) joins))) over
