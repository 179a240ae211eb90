-- The records of the cycles of a trace, of which none is refused, and the whole text.
use Rattle.std.proofs.Common.{◌≡◌, ◌≢◌, ◌⊎◌, inl, inr, ℕ, ℤ, pos, ◌≤ℤ◌, zero, suc, ◌+◌, ◌*◌, ◌<◌, ◌≤◌, Bool, true, false, List, [], ◌∷◌, ◌++◌, length, map, get_or, Option, Some, None, refl, ap, sym, ◌∙◌, subst, arith, append_assoc, append-nil}
use Rattle.std.specs.Prelude.{nat_le, nat_lt, neg_ℤ, not, ◌==◌, ◌&&◌, ◌||◌, All, AllPairs, Contains, IfSome, filter, find, is_none, is_some, if◌then◌else◌}
use Rattle.std.specs.List.{list_all, list_any}
use Rattle.std.specs.Option.{option_map, option_map_or}
use Rattle.std.proofs.lemmas.Bool.{cases_lt}
use Rattle.std.proofs.lemmas.Bool.Decides.{nat_tests}
use Rattle.std.proofs.lemmas.Int.{ints}
use Rattle.std.proofs.lemmas.List.{map-append}
use Rattle.std.proofs.lemmas.List.Elements.{All-append, All-cons, All-contains, All-filter, All-head, All-map, All-nil, All-push, All-tail, All-weaker}
use Rattle.std.proofs.lemmas.List.Kept.{AllPairs-filter}
use Rattle.fr_base.specs.Counts.{no_counts}
use Rattle.fr_base.specs.Rows.{AreAscendingDevs, AreAscendingRows, IsEarlierDev, channel_rank}
use Rattle.fr_base.specs.Within.{IsWithin, lies_within}
use Rattle.fr_base.specs.declared.dev.Dev.{Dev}
use Rattle.fr_base.specs.declared.node_row.NodeRow.{NodeRow}
use Rattle.fr_base.specs.declared.reason.Reason.TheVariants as reason
use Rattle.fr_cluster.proofs.KeyNodes.{Contains-cons_cases}
use Rattle.fr_cluster.specs.Questions.{is_common, is_known}
use Rattle.fr_cluster.specs.Sane.{IsSane, IsSaneNode}
use Rattle.fr_cluster.specs.Searches.{is_key, key_node_in, node_in}
use Rattle.fr_cluster.specs.Values.{Values}
use Rattle.fr_cluster.specs.declared.join.Join.{Join}
use Rattle.fr_cluster.specs.declared.names.ParamName.TheVariants as name
use Rattle.fr_cluster.specs.declared.nodes.NodeSpec.{NodeSpec}
use Rattle.fr_history.specs.History.{History, Record, row_of}
use Rattle.fr_text.specs.Records.{FileRecord, records_of}
use Rattle.fr_text.specs.Refusal.{NoneRefused}
use Rattle.fr_text.specs.Texts.{is_plain_record}
use Rattle.fr_trace.proofs.Behind.{cycle_rows, heard_by, heard_in, over-rows}
use Rattle.fr_trace.proofs.Lines.{all-later}
use Rattle.fr_trace.proofs.Nodes.{all-found, found-behind, found-first, pairs-first, pairs-rest}
use Rattle.fr_trace.proofs.Answering.{stands-same}
use Rattle.fr_trace.proofs.Spelling.{IsWrittenClock, record_of_row, records-back}
use Rattle.fr_trace.proofs.Standing.{all-named}
use Rattle.fr_trace.proofs.Taking.{sane-nodes}
use Rattle.fr_trace.proofs.Telling.{IsHeadOver, IsTold, and-both, head-over, lt-yes, numbered, told-more, told-same}
use Rattle.fr_trace.specs.Draft.{AreAllNamed, AreSaid, over_with, part_with}
use Rattle.fr_trace.specs.Files.{IsTraceFile, TraceStandsFor, is_whole, is_whole_by}
use Rattle.fr_trace.specs.Fits.{FitsRecord, HistoryFits, IsAboutOther, TraceFits}
use Rattle.fr_trace.specs.Items.{items_by, items_in}
use Rattle.fr_trace.specs.Joins.{first_cycle, has_traced_row, is_among, join_among, latest_rows, stands_in}
use Rattle.fr_trace.specs.Lasting.{IsTrace, IsTracedRecord, IsTracedRow}
use Rattle.fr_trace.specs.Numbered.{row_of_item, rows_of_trace}
use Rattle.fr_trace.specs.Order.{before_at, begins_by, clock_turn, cycle_of, ends_at, ends_with, heard_turn, is_due_after, is_up_to, may_come_next, may_go_on, may_stand, may_stand_after, must_stand, next_due, stands_after, stays_by}
use Rattle.fr_trace.specs.Reasons.{is_beyond, is_linked, is_of_other, trace_reason_after}
use Rattle.fr_trace.specs.Rows.{IsProperTracedCount}
use Rattle.fr_trace.specs.Said.{history_said, last_row_at, no_record, record_said}
use Rattle.fr_trace.specs.ReadBack.{TextsAreReadBack}
use Rattle.fr_trace.specs.Text.{text_of}
use Rattle.fr_trace.specs.Trace.{TraceView}
use Rattle.fr_trace.specs.declared.order.Turn.{Turn}
use Rattle.fr_trace.specs.declared.rows.HeardRow.{HeardRow}
use Rattle.fr_trace.specs.declared.rows.Row.{Row}
use Rattle.fr_trace.specs.declared.rows.Row.TheVariants as row
use Rattle.fr_trace.specs.declared.trace.TracedJoin.{TracedJoin}

-- ---- tests

eq-yes : (a b : ℕ) → a ≡ b → (a == b) ≡ true
eq-yes a b e = grind (arith, nat_tests, e)

eq-no : (a b : ℕ) → a ≢ b → (a == b) ≡ false
eq-no a b ne = grind (arith, nat_tests, ne)

eq-is : (a b : ℕ) → (a == b) ≡ true → a ≡ b
eq-is a b e = grind (arith, nat_tests)

le-yes : (a b : ℕ) → a ≤ b → nat_le a b ≡ true
le-yes a b le = grind (arith, nat_tests)

lt-is : (a b : ℕ) → nat_lt a b ≡ true → a < b
lt-is a b e = grind (arith, nat_tests)

both-true : (a b : Bool) → (a && b) ≡ true → (a ≡ true) × (b ≡ true)
both-true true b e = (refl, e)
both-true false b e = absurd (cc e)

or-left : (a b : Bool) → a ≡ true → (a || b) ≡ true
or-left a b e = ap (λ (c : Bool). c || b) e

or-right : (a b : Bool) → b ≡ true → (a || b) ≡ true
or-right true b e = refl
or-right false b e = e

clash : {P : Type 0} (a : Bool) → a ≡ true → a ≡ false → P
clash a e f = absurd (cc (e, f))

clock-fine : (a b c : Bool) → a ≡ false → b ≡ true → c ≡ true → (if a then Some reason.OutOfRange else if not b then Some reason.UnknownNode else if not c then Some reason.Role else None) ≡ None
clock-fine a b c e f g = λ i. if e i then Some reason.OutOfRange else if not (f i) then Some reason.UnknownNode else if not (g i) then Some reason.Role else None

heard-fine : (a b c d : Bool) → a ≡ true → b ≡ true → c ≡ true → d ≡ true
    → (if not a then Some reason.UnknownNode else if not b || not c then Some reason.Role else if not d then Some reason.Link else None) ≡ None
heard-fine a b c d e f g h = λ i. if not (e i) then Some reason.UnknownNode else if not (f i) || not (g i) then Some reason.Role else if not (h i) then Some reason.Link else None

-- ---- what a search finds

found-passes : {X : Type 0} (q : X → Bool) (xs : List X) (x : X) → find q xs ≡ Some x → q x ≡ true
found-passes q [] x e = absurd (cc e)
found-passes {X} q (y ∷ ys) x e = by (q y) refl e (found-passes q ys x)
  where
    by : (b : Bool) → q y ≡ b → (if b then Some y else find q ys) ≡ Some x → (find q ys ≡ Some x → q x ≡ true) → q x ≡ true
    by true is f rest = let same : y ≡ x = cc f in subst (λ (z : X). q z ≡ true) same is
    by false is f rest = rest f

found-known : (q : NodeSpec → Bool) (nodes : List NodeSpec) (s : NodeSpec) → find q nodes ≡ Some s → is_some (node_in nodes s.id) ≡ true
found-known q [] s e = absurd (cc e)
found-known q (x ∷ xs) s e = by (q x) e (found-known q xs s)
  where
    Here : NodeSpec → Type 0
    Here z = is_some (node_in (x ∷ xs) z.id) ≡ true

    here : (b : Bool) → (x.id == s.id) ≡ b → is_some (node_in xs s.id) ≡ true → Here s
    here true is there = found-first (λ (n : NodeSpec). n.id) s.id x xs (eq-is x.id s.id is)
    here false is there = found-behind (λ (n : NodeSpec). n.id) s.id x xs (λ same. clash (x.id == s.id) (eq-yes x.id s.id same) is) ∙ there

    by : (b : Bool) → (if b then Some x else find q xs) ≡ Some s → (find q xs ≡ Some s → is_some (node_in xs s.id) ≡ true) → Here s
    by true f rest = let same : x ≡ s = cc f in subst Here same (found-first (λ (n : NodeSpec). n.id) x.id x xs refl)
    by false f rest = here (x.id == s.id) refl (rest f)

-- the key slot that a search finds lies in its range
key-range : (nodes : List NodeSpec) (slot : ℕ) (s : NodeSpec) → All IsSaneNode nodes → key_node_in nodes slot ≡ Some s → (1 ≤ slot) × (slot ≤ 1023)
key-range [] slot s sane e = absurd (cc e)
key-range (x ∷ xs) slot s sane e = by (is_key x.key slot) refl e (key-range xs slot s (All-tail IsSaneNode x xs sane))
  where
    own : (o : Option ℕ) → IfSome o (λ k. (1 ≤ k) × (k ≤ 1023)) → is_key o slot ≡ true → (1 ≤ slot) × (slot ≤ 1023)
    own None range is = absurd (cc is)
    own (Some k) range is = let same = eq-is k slot is in subst (λ (m : ℕ). (1 ≤ m) × (m ≤ 1023)) same range

    by : (b : Bool) → is_key x.key slot ≡ b → (if b then Some x else key_node_in xs slot) ≡ Some s → (key_node_in xs slot ≡ Some s → (1 ≤ slot) × (slot ≤ 1023)) → (1 ≤ slot) × (slot ≤ 1023)
    by true is f rest = own x.key (All-head IsSaneNode x xs sane).proper.key is
    by false is f rest = rest f

-- a row of some is found, by the numbers of their nodes alone
any-row : (rows : List NodeRow) (n : ℕ) → is_some (row_of rows n) ≡ list_any (λ m. m == n) (map (λ row. row.node) rows)
any-row [] n = refl
any-row (r ∷ rows) n = by (r.node == n) (any-row rows n)
  where
    by : (b : Bool) → is_some (row_of rows n) ≡ list_any (λ m. m == n) (map (λ row. row.node) rows)
        → is_some (if b then Some r else row_of rows n) ≡ (b || list_any (λ m. m == n) (map (λ row. row.node) rows))
    by true e = refl
    by false e = e

pub any-node : (q : ℕ → Bool) (nodes : List NodeSpec) (n : ℕ) → list_any (λ m. m == n) (map (λ node. node.id) (filter (λ node. q node.id) nodes)) ≡ (q n && is_some (node_in nodes n))
any-node q [] n = by (q n)
  where
    by : (b : Bool) → false ≡ (b && false)
    by true = refl
    by false = refl
any-node q (x ∷ xs) n = by (q x.id) refl (x.id == n) refl (any-node q xs n)
  where
    Rest : Bool
    Rest = list_any (λ m. m == n) (map (λ node. node.id) (filter (λ node. q node.id) xs))

    Found : Bool → Bool
    Found c = is_some (if c then Some x else node_in xs n)

    second : (a : Bool) → a ≡ false → (c d : Bool) → (a && c) ≡ (a && d)
    second a e c d = (λ i. e i && c) ∙ sym (λ i. e i && d)

    by : (b : Bool) → q x.id ≡ b → (c : Bool) → (x.id == n) ≡ c → Rest ≡ (q n && is_some (node_in xs n))
        → list_any (λ m. m == n) (map (λ node. node.id) (if b then x ∷ filter (λ node. q node.id) xs else filter (λ node. q node.id) xs)) ≡ (q n && is_some (if x.id == n then Some x else node_in xs n))
    by true is true at rest =
        let yes : q n ≡ true = ap q (sym (eq-is x.id n at)) ∙ is in
        ap (λ (c : Bool). c || Rest) at ∙ sym (λ i. yes i && Found (at i))
    by true is false at rest = ap (λ (c : Bool). c || Rest) at ∙ rest ∙ sym (ap (λ (c : Bool). q n && Found c) at)
    by false is true at rest =
        let no : q n ≡ false = ap q (sym (eq-is x.id n at)) ∙ is in
        rest ∙ second (q n) no (is_some (node_in xs n)) (Found (x.id == n))
    by false is false at rest = rest ∙ sym (ap (λ (c : Bool). q n && Found c) at)

-- one that is found is found behind those of other nodes
skip-front : (front back : List NodeRow) (m : ℕ) → All (λ row. row.node ≢ m) front → is_some (row_of (front ++ back) m) ≡ true → is_some (row_of back m) ≡ true
skip-front [] back m other e = e
skip-front (r ∷ front) back m other e =
    skip-front front back m (All-tail (λ (x : NodeRow). x.node ≢ m) r front other)
    (sym (found-behind (λ (x : NodeRow). x.node) m r (front ++ back) (All-head (λ (x : NodeRow). x.node ≢ m) r front other)) ∙ e)

-- and so is one that stands there
found-there : (front : List NodeRow) (r : NodeRow) (back : List NodeRow) → is_some (row_of (front ++ r ∷ back) r.node) ≡ true
found-there [] r back = found-first (λ (x : NodeRow). x.node) r.node r back refl
found-there (x ∷ front) r back = by (x.node == r.node) (found-there front r back)
  where
    by : (b : Bool) → is_some (row_of (front ++ r ∷ back) r.node) ≡ true → is_some (if b then Some x else row_of (front ++ r ∷ back) r.node) ≡ true
    by true e = refl
    by false e = e

-- ---- the deviations of a node, in front of those of later ones

pairs-back : {X : Type 0} (R : X → X → Type 0) (a b : List X) → AllPairs R (a ++ b) → AllPairs R b
pairs-back R [] b asc = asc
pairs-back R (x ∷ a) b asc = pairs-back R a b (pairs-rest R x (a ++ b) asc)

record IsCut (node : ℕ) (devs : List Dev) : Type 0 where
  own : List Dev
  later : List Dev
  cut : devs ≡ own ++ later
  mine : All (λ dev. dev.receiver ≡ node) own
  above : All (λ dev. node < dev.receiver) later

cut-devs : (node : ℕ) (devs : List Dev) → AreAscendingDevs devs → All (λ dev. node ≤ dev.receiver) devs → IsCut node devs
cut-devs node [] asc from = record { own = []; later = []; cut = refl; mine = All-nil (λ dev. dev.receiver ≡ node); above = All-nil (λ dev. node < dev.receiver) }
cut-devs node (dev ∷ devs) asc from =
    by (cases_lt node dev.receiver) (cut-devs node devs (pairs-rest IsEarlierDev dev devs asc) (All-tail (λ (d : Dev). node ≤ d.receiver) dev devs from))
  where
    by : (node < dev.receiver) ⊎ (dev.receiver ≤ node) → IsCut node devs → IsCut node (dev ∷ devs)
    by (inl lt) rest = record { own = []; later = dev ∷ devs; cut = refl; mine = All-nil (λ d. d.receiver ≡ node); above = all-later node dev devs asc lt }
    by (inr le) rest =
        let ge = All-head (λ (d : Dev). node ≤ d.receiver) dev devs from in
        record {
          own = dev ∷ rest.own;
          later = rest.later;
          cut = ap (λ (l : List Dev). dev ∷ l) rest.cut;
          mine = All-cons (λ (d : Dev). d.receiver ≡ node) dev rest.own (omega (arith, le, ge)) rest.mine;
          above = rest.above;
        }

filter-skip : (node : ℕ) (a b : List Dev) → All (λ dev. dev.receiver ≢ node) a → filter (λ dev. dev.receiver == node) (a ++ b) ≡ filter (λ dev. dev.receiver == node) b
filter-skip node [] b other = refl
filter-skip node (dev ∷ a) b other =
    let no = eq-no dev.receiver node (All-head (λ (d : Dev). d.receiver ≢ node) dev a other) in
    let Rest : List Dev = filter (λ d. d.receiver == node) (a ++ b) in
    ap (λ (c : Bool). if c then dev ∷ Rest else Rest) no ∙ filter-skip node a b (All-tail (λ (d : Dev). d.receiver ≢ node) dev a other)

filter-keep : (node : ℕ) (a b : List Dev) → All (λ dev. dev.receiver ≡ node) a → filter (λ dev. dev.receiver == node) (a ++ b) ≡ a ++ filter (λ dev. dev.receiver == node) b
filter-keep node [] b same = refl
filter-keep node (dev ∷ a) b same =
    let yes = eq-yes dev.receiver node (All-head (λ (d : Dev). d.receiver ≡ node) dev a same) in
    let Rest : List Dev = filter (λ d. d.receiver == node) (a ++ b) in
    ap (λ (c : Bool). if c then dev ∷ Rest else Rest) yes ∙ ap (λ (l : List Dev). dev ∷ l) (filter-keep node a b (All-tail (λ (d : Dev). d.receiver ≡ node) dev a same))

filter-own : (node : ℕ) (front own later : List Dev) → All (λ dev. dev.receiver < node) front → All (λ dev. dev.receiver ≡ node) own → All (λ dev. node < dev.receiver) later
    → filter (λ dev. dev.receiver == node) (front ++ (own ++ later)) ≡ own
filter-own node front own later below mine above =
    let none : filter (λ dev. dev.receiver == node) later ≡ [] =
    ap (λ (l : List Dev). filter (λ dev. dev.receiver == node) l) (sym (append-nil later))
    ∙ filter-skip node later [] (All-weaker (λ (dev : Dev). node < dev.receiver) (λ (dev : Dev). dev.receiver ≢ node) (λ dev lt same. absurd (omega (arith, lt, same))) later above)
    in
    filter-skip node front (own ++ later) (All-weaker (λ (dev : Dev). dev.receiver < node) (λ (dev : Dev). dev.receiver ≢ node) (λ dev lt same. absurd (omega (arith, lt, same))) front below)
    ∙ filter-keep node own later mine
    ∙ ap (λ (l : List Dev). own ++ l) none
    ∙ append-nil own

all-back : {X : Type 0} (P : X → Type 0) (a b : List X) → All P (a ++ b) → All P b
all-back P [] b all = all
all-back P (x ∷ a) b all = all-back P a b (All-tail P x (a ++ b) all)

none-left : (devs : List Dev) → All (λ dev. Contains [] dev.receiver) devs → devs ≡ []
none-left [] there = refl
none-left (dev ∷ devs) there = let none = All-head (λ (d : Dev). Contains [] d.receiver) dev devs there in absurd (omega (arith, none.1))

contains-later : (a : ℕ) (xs : List ℕ) (x : ℕ) → a < x → Contains (a ∷ xs) x → Contains xs x
contains-later a xs x lt there = elim (Contains-cons_cases a xs x there) [
  | inl same ↦ absurd (omega (arith, same, lt))
  | inr rest ↦ rest
]

from-contained : (clock : NodeRow) (rows : List NodeRow) → All (λ row. clock.node < row.node) rows → (x : ℕ) → Contains (map (λ row. row.node) (clock ∷ rows)) x → clock.node ≤ x
from-contained clock rows above x there = elim (Contains-cons_cases clock.node (map (λ row. row.node) rows) x there) [
  | inl same ↦ omega (arith, same)
  | inr later ↦
      let lt : clock.node < x =
      All-contains (λ (m : ℕ). clock.node < m) (map (λ row. row.node) rows) x (All-map (λ (m : ℕ). clock.node < m) (λ (row : NodeRow). row.node) rows above) later
      in
      omega (arith, lt)
]

-- one that comes behind a place, and one behind another of the same receiver
heard_of : ℕ → Dev → HeardRow
heard_of cycle dev = record { cycle = cycle; receiver = dev.receiver; slot = dev.slot; channel = Some dev.channel; value = dev.value }

after-clock : (cycle : ℕ) (clock : NodeRow) (dev : Dev) → 1 ≤ dev.slot → stands_after (clock_turn clock) (heard_of cycle dev) ≡ true
unfolding heard_of
after-clock cycle clock dev from = or-left (nat_lt 0 dev.slot) _ (lt-yes 0 dev.slot (omega (arith, from)))

after-dev : (cycle : ℕ) (a b : Dev) → a.receiver ≡ b.receiver → IsEarlierDev a b → stands_after (heard_turn (heard_of cycle a)) (heard_of cycle b) ≡ true
unfolding heard_of
after-dev cycle a b same (inl lt) = absurd (omega (arith, same, lt))
after-dev cycle a b same (inr place) = by place.1
  where
    by : (a.slot < b.slot) ⊎ ((a.slot ≡ b.slot) × (channel_rank a.channel < channel_rank b.channel))
        → (nat_lt a.slot b.slot || ((a.slot == b.slot) && nat_lt (channel_rank a.channel) (channel_rank b.channel))) ≡ true
    by (inl lt) = or-left (nat_lt a.slot b.slot) _ (lt-yes a.slot b.slot lt)
    by (inr both) =
        or-right (nat_lt a.slot b.slot) _
        (and-both (a.slot == b.slot) (nat_lt (channel_rank a.channel) (channel_rank b.channel)) (eq-yes a.slot b.slot both.0) (lt-yes (channel_rank a.channel) (channel_rank b.channel) both.1))

-- ---- terms within their limits

lies-yes : (limit z : ℤ) → IsWithin limit z → lies_within limit z ≡ true
lies-yes limit z w = let low = w.low in let high = w.high in grind (arith, ints, low, high)

low-of : (limit : ℤ) (most : ℕ) (z : ℤ) → limit ≤ℤ pos most → IsWithin limit z → neg_ℤ (pos most) ≤ℤ z
low-of limit most z h w = let low = w.low in omega (arith, ints, h, low)

high-of : (limit : ℤ) (most : ℕ) (z : ℤ) → limit ≤ℤ pos most → IsWithin limit z → z ≤ℤ pos most
high-of limit most z h w = let high = w.high in omega (arith, ints, h, high)

-- ---- a node that has a row may have one, and one that must has one

may-of-has : (o : Option Join) (h : History) (r : Record) (k : ℕ) → stands_in o h r k ≡ true → (begins_by o (length h) || stays_by o (length h) (latest_rows h) k) ≡ true
may-of-has None h r k has = refl
may-of-has (Some join) h r k has = by (length h == first_cycle join) refl
  where
    Other : Bool
    Other = nat_lt (first_cycle join) (length h) && is_some (row_of (latest_rows h) k)

    by : (b : Bool) → (length h == first_cycle join) ≡ b → ((length h == first_cycle join) || Other) ≡ true
    by true e = or-left (length h == first_cycle join) Other e
    by false e = or-right (length h == first_cycle join) Other (sym (ap (λ (b : Bool). if b then is_some (row_of r.rows k) else Other) e) ∙ has)

has-of-must : (o : Option Join) (h : History) (r : Record) (k : ℕ) → stays_by o (length h) (latest_rows h) k ≡ true → stands_in o h r k ≡ true
has-of-must None h r k must = refl
has-of-must (Some join) h r k must =
    let two = both-true (nat_lt (first_cycle join) (length h)) (is_some (row_of (latest_rows h) k)) must in
    let lt = lt-is (first_cycle join) (length h) two.0 in
    let no : (length h == first_cycle join) ≡ false = eq-no (length h) (first_cycle join) (λ same. absurd (omega (arith, lt, same))) in
    let Other : Bool = nat_lt (first_cycle join) (length h) && is_some (row_of (latest_rows h) k) in
    ap (λ (b : Bool). if b then is_some (row_of r.rows k) else Other) no ∙ must

-- ---- the rows of a cycle

module _ (p : Values) (sane : IsSane p) (n : ℕ) (count : IsProperTracedCount n) (named : List ℕ) (joins : List TracedJoin) where
  -- the place of a row in its cycle
  record IsTurnOf (last : Row) (cycle : ℕ) (turn : Turn) : Type 0 where
    comes : (d : ℕ) (before here : List NodeRow) (next : Row) → may_come_next p d named joins before here (Some last) next ≡ may_go_on p d named joins before here cycle turn next
    ends : (d : ℕ) (before : List NodeRow) → ends_with p d named joins before (Some last) ≡ ends_at p d named joins before cycle turn.node

  clock-is : (cycle : ℕ) (clock : NodeRow) → IsTurnOf (row.Clock cycle clock) cycle (clock_turn clock)
  clock-is cycle clock = record { comes = λ d before here next. refl; ends = λ d before. refl }

  dev-is : (cycle : ℕ) (dev : Dev) → IsTurnOf (row.Heard (heard_of cycle dev)) cycle (heard_turn (heard_of cycle dev))
  unfolding heard_of
  dev-is cycle dev = record { comes = λ d before here next. refl; ends = λ d before. refl }

  -- the cycles of a history are told
  record IsTurnOver (done : List FileRecord) (h : History) (r : Record) : Type 0 where
    last : Row
    turn : Turn
    place : IsTurnOf last (length h) turn
    told : IsTold p done (Some n) named joins (Some last) h r
    none_due : is_none (next_due p named joins (length h) (latest_rows h) turn.node) ≡ true

  abbrev IsDone : List FileRecord → History → Type 0
  IsDone done [] = IsHeadOver p sane n count done named joins
  IsDone done (r ∷ h) = IsTurnOver done h r

  -- the first row of the next cycle may come
  record IsReady (done : List FileRecord) (h : History) : Type 0 where
    last : Row
    over : History
    part : Record
    told : IsTold p done (Some n) named joins (Some last) over part
    comes : (clock : NodeRow) → may_stand_after p named joins (length h) (latest_rows h) 0 clock.node ≡ true
        → may_come_next p n named joins (latest_rows over) part.rows (Some last) (row.Clock (length h) clock) ≡ true
    placed : (length h ≡ length over) ⊎ (length h ≡ suc (length over))
    over_is : (clock : NodeRow) → over_with over part (row.Clock (length h) clock) ≡ h
    part_is : (clock : NodeRow) → part_with over part (row.Clock (length h) clock) ≡ record no_record { rows = clock ∷ [] }

  ready : (done : List FileRecord) (h : History) → length h < 2 * n → IsDone done h → IsReady done h
  ready done [] few d = record {
    last = d.last;
    over = [];
    part = no_record;
    told = d.told;
    comes = λ clock may. d.opens.begins n named joins [] [] 0 clock ∙ may;
    placed = inl refl;
    over_is = λ clock. refl;
    part_is = λ clock. refl;
  }
  ready done (r ∷ h) few d =
      let no : (suc (length h) == length h) ≡ false = eq-no (suc (length h)) (length h) (λ same. absurd (omega (arith, same))) in
      let one : (suc (length h) == length h + 1) ≡ true = eq-yes (suc (length h)) (length h + 1) (omega arith) in
      record {
        last = d.last;
        over = h;
        part = r;
        told = d.told;
        comes = λ clock may.
            let Rest : Bool = (suc (length h) == length h + 1) && nat_lt (suc (length h)) (2 * n) && is_none (next_due p named joins (length h) (latest_rows h) d.turn.node)
            && may_stand_after p named joins (suc (length h)) r.rows 0 clock.node
            in
            d.place.comes n (latest_rows h) r.rows (row.Clock (suc (length h)) clock)
            ∙ ap (λ (b : Bool). if b then may_stand_after p named joins (length h) (latest_rows h) d.turn.node clock.node else Rest) no
            ∙ and-both ((suc (length h) == length h + 1) && nat_lt (suc (length h)) (2 * n) && is_none (next_due p named joins (length h) (latest_rows h) d.turn.node))
            (may_stand_after p named joins (suc (length h)) r.rows 0 clock.node)
            (and-both ((suc (length h) == length h + 1) && nat_lt (suc (length h)) (2 * n)) (is_none (next_due p named joins (length h) (latest_rows h) d.turn.node))
            (and-both (suc (length h) == length h + 1) (nat_lt (suc (length h)) (2 * n)) one (lt-yes (suc (length h)) (2 * n) few)) d.none_due) may;
        placed = inr refl;
        over_is = λ clock. ap (λ (b : Bool). if b then h else r ∷ h) no;
        part_is = λ clock. ap (λ (b : Bool). if b then record r { rows = r.rows ++ clock ∷ [] } else record no_record { rows = clock ∷ [] }) no;
      }

  -- a cycle under way: these rows and deviations are told, and the last of them is at this place
  module _ (h : History) where
    record IsGoing (done : List FileRecord) (front : List NodeRow) (heard : List Dev) (turn : Turn) : Type 0 where
      last : Row
      place : IsTurnOf last (length h) turn
      told : IsTold p done (Some n) named joins (Some last) h (record { rows = front; devs = heard; counts = no_counts })

    module _ (few : length h < 2 * n) where
      cycle-low : length h ≤ 199_999
      cycle-low = let most = count.to in omega (arith, few, most)

      written-clock : (clock : NodeRow) → is_known p clock.node ≡ true → IsTracedRow clock → IsWithin p.rate_limit clock.rate → IsWithin p.offset_limit clock.offset → IsWrittenClock (length h) clock
      written-clock clock known traced rate offset =
          let rate_most : p.rate_limit ≤ℤ pos 2000 = (sane.ranges name.pRateCorrectionOut).1 in
          let offset_most : p.offset_limit ≤ℤ pos 16_000 = (sane.ranges name.pOffsetCorrectionOut).1 in
          record {
            cycle_to = cycle-low;
            node = numbered p sane n count clock.node known;
            traced = traced;
            rate_from = low-of p.rate_limit 2000 clock.rate rate_most rate;
            rate_to = high-of p.rate_limit 2000 clock.rate rate_most rate;
            offset_from = low-of p.offset_limit 16_000 clock.offset offset_most offset;
            offset_to = high-of p.offset_limit 16_000 clock.offset offset_most offset;
          }

      in-limits : (clock : NodeRow) → IsWithin p.rate_limit clock.rate → IsWithin p.offset_limit clock.offset → is_beyond p clock ≡ false
      in-limits clock rate offset =
          let a = lies-yes p.rate_limit clock.rate rate in
          let b = lies-yes p.offset_limit clock.offset offset in
          λ i. not (a i) || not (b i)

      -- ---- a deviation more

      about-fine : (dev : Dev) (about : IsAboutOther p dev) → (is_of_other p (heard_of (length h) dev) ≡ true) × (is_linked p (heard_of (length h) dev) dev.channel ≡ true)
      unfolding heard_of
      about-fine dev about =
          let no : (about.sender.id == dev.receiver) ≡ false = eq-no about.sender.id dev.receiver about.other in (
            ap (λ (o : Option NodeSpec). option_map_or (λ sender. not (sender == dev.receiver)) (option_map (λ spec. spec.id) o) false) about.key ∙ ap (λ (b : Bool). not b) no,
            ap (λ (o : Option NodeSpec). option_map_or (λ sender. is_common p sender dev.receiver dev.channel) (option_map (λ spec. spec.id) o) false) about.key ∙ about.common,
          )

      hear-one : (done : List FileRecord) (front : List NodeRow) (heard : List Dev) (turn : Turn) (dev : Dev) → IsGoing done front heard turn → dev.receiver ≡ turn.node → is_known p dev.receiver ≡ true
          → stands_after turn (heard_of (length h) dev) ≡ true → IsAboutOther p dev → IsWithin (pos 1_000_000) dev.value
          → IsGoing (done ++ record_of_row (row.Heard (heard_of (length h) dev)) ∷ []) front (heard ++ dev ∷ []) (heard_turn (heard_of (length h) dev))
      unfolding heard_of
      hear-one done front heard turn dev g mine known after about value =
          let fine = about-fine dev about in
          let range = key-range p.nodes dev.slot about.sender sane.lists.nodes_sane about.key in
          let low = value.low in
          let high = value.high in
          let part : Record = record { rows = front; devs = heard; counts = no_counts } in
          let said : Row = row.Heard (heard_of (length h) dev) in
          let may : may_come_next p n named joins (latest_rows h) front (Some g.last) said ≡ true =
          g.place.comes n (latest_rows h) front said
          ∙ and-both ((length h == length h) && (dev.receiver == turn.node)) (stands_after turn (heard_of (length h) dev))
          (and-both (length h == length h) (dev.receiver == turn.node) (eq-yes (length h) (length h) refl) (eq-yes dev.receiver turn.node mine)) after
          in
          record {
            last = said;
            place = dev-is (length h) dev;
            told = told-more p done (Some n) (Some n) named named joins joins (Some g.last) h h part (record part { devs = heard ++ dev ∷ [] }) said g.told
                (record {
                  cycle_to = cycle-low;
                  receiver = numbered p sane n count dev.receiver known;
                  slot_from = range.0;
                  slot_to = range.1;
                  channel = dev.channel;
                  named = refl;
                  from = omega (arith, ints, low);
                  to = high;
                })
                refl refl (append-nil named) (append-nil joins) refl refl refl
                (heard-fine (is_known p dev.receiver) (is_of_other p (heard_of (length h) dev)) (may_come_next p n named joins (latest_rows h) front (Some g.last) said)
                (is_linked p (heard_of (length h) dev) dev.channel) known fine.0 may fine.1);
          }

      -- the same place, told by other records that are the same
      going-same : (done other : List FileRecord) (front : List NodeRow) (heard more : List Dev) (turn : Turn) → done ≡ other → heard ≡ more → IsGoing done front heard turn → IsGoing other front more turn
      going-same done other front heard more turn e f g = subst (λ (l : List FileRecord). IsGoing l front more turn) e (subst (λ (l : List Dev). IsGoing done front l turn) f g)

      -- the deviations of a node
      record IsHeardOut (done : List FileRecord) (front : List NodeRow) (heard : List Dev) (node : ℕ) : Type 0 where
        turn : Turn
        is_node : turn.node ≡ node
        going : IsGoing done front heard turn

      hear-all : (done : List FileRecord) (front : List NodeRow) (heard own : List Dev) (turn : Turn) (node : ℕ) → IsGoing done front heard turn → turn.node ≡ node → is_known p node ≡ true
          → All (λ dev. dev.receiver ≡ node) own → AreAscendingDevs own → All (λ dev. stands_after turn (heard_of (length h) dev) ≡ true) own → All (IsAboutOther p) own
          → All (λ dev. IsWithin (pos 1_000_000) dev.value) own → IsHeardOut (done ++ map record_of_row (map (heard_in (length h)) own)) front (heard ++ own) node
      unfolding heard_of
      hear-all done front heard [] turn node g is known mine asc after about value =
          record { turn = turn; is_node = is; going = going-same done (done ++ []) front heard (heard ++ []) turn (sym (append-nil done)) (sym (append-nil heard)) g }
      hear-all done front heard (dev ∷ own) turn node g is known mine asc after about value =
          let r : FileRecord = record_of_row (row.Heard (heard_of (length h) dev)) in
          let here : dev.receiver ≡ node = All-head (λ (d : Dev). d.receiver ≡ node) dev own mine in
          let rest = All-tail (λ (d : Dev). d.receiver ≡ node) dev own mine in
          let one =
          hear-one done front heard turn dev g (here ∙ sym is) (subst (λ (k : ℕ). is_known p k ≡ true) (sym here) known) (All-head (λ (d : Dev). stands_after turn (heard_of (length h) d) ≡ true) dev own after)
          (All-head (IsAboutOther p) dev own about) (All-head (λ (d : Dev). IsWithin (pos 1_000_000) d.value) dev own value)
          in
          let later = pairs-first IsEarlierDev dev own asc in
          let more =
          hear-all (done ++ r ∷ []) front (heard ++ dev ∷ []) own (heard_turn (heard_of (length h) dev)) node one here known rest (pairs-rest IsEarlierDev dev own asc)
          (λ k d lt. after-dev (length h) dev (get_or own k d) (here ∙ sym (rest k d lt)) (later k d lt)) (All-tail (IsAboutOther p) dev own about)
          (All-tail (λ (d : Dev). IsWithin (pos 1_000_000) d.value) dev own value)
          in
          record {
            turn = more.turn;
            is_node = more.is_node;
            going = going-same ((done ++ r ∷ []) ++ map record_of_row (map (heard_in (length h)) own)) (done ++ map record_of_row (map (heard_in (length h)) (dev ∷ own))) front
                ((heard ++ dev ∷ []) ++ own) (heard ++ dev ∷ own) more.turn (append_assoc done (r ∷ []) (map record_of_row (map (heard_in (length h)) own))) (append_assoc heard (dev ∷ []) own) more.going;
          }

      -- ---- all rows of a cycle

      module _ (r : Record) (traced : IsTracedRecord r) (rates : All (λ row. IsWithin p.rate_limit row.rate) r.rows) (offsets : All (λ row. IsWithin p.offset_limit row.offset) r.rows)
          (abouts : All (IsAboutOther p) r.devs)
          (stand : (k : ℕ) → is_some (row_of r.rows k) ≡ (has_traced_row named joins h r k && is_known p k))
        where
          -- a node with a row is known, and may have one
          row-known : (k : ℕ) → is_some (row_of r.rows k) ≡ true → is_known p k ≡ true
          row-known k row = (both-true (has_traced_row named joins h r k) (is_known p k) (sym (stand k) ∙ row)).1

          row-may : (k : ℕ) → is_some (row_of r.rows k) ≡ true → may_stand named joins (length h) (latest_rows h) k ≡ true
          row-may k row =
              let has = (both-true (has_traced_row named joins h r k) (is_known p k) (sym (stand k) ∙ row)).0 in
              let two = both-true (not (is_among named k)) (stands_in (join_among joins k) h r k) has in
              and-both (not (is_among named k)) (begins_by (join_among joins k) (length h) || stays_by (join_among joins k) (length h) (latest_rows h) k) two.0 (may-of-has (join_among joins k) h r k two.1)

          -- one that is next to have a row has one
          due-row : (other : ℕ) (s : NodeSpec) → find (is_due_after named joins (length h) (latest_rows h) other) p.nodes ≡ Some s → (other < s.id) × (is_some (row_of r.rows s.id) ≡ true)
          due-row other s e =
              let two = both-true (nat_lt other s.id) (must_stand named joins (length h) (latest_rows h) s.id) (found-passes (is_due_after named joins (length h) (latest_rows h) other) p.nodes s e) in
              let must = both-true (not (is_among named s.id)) (stays_by (join_among joins s.id) (length h) (latest_rows h) s.id) two.1 in
              let has : has_traced_row named joins h r s.id ≡ true =
              and-both (not (is_among named s.id)) (stands_in (join_among joins s.id) h r s.id) must.0 (has-of-must (join_among joins s.id) h r s.id must.1)
              in (
                lt-is other s.id two.0,
                stand s.id ∙ and-both (has_traced_row named joins h r s.id) (is_known p s.id) has (found-known (is_due_after named joins (length h) (latest_rows h) other) p.nodes s e),
              )

          -- the row of a node comes next behind that of another
          comes-next : (other : ℕ) (front : List NodeRow) (clock : NodeRow) (rest : List NodeRow) → r.rows ≡ front ++ clock ∷ rest → All (λ row. row.node ≤ other) front → other < clock.node
              → All (λ row. clock.node < row.node) rest → may_stand_after p named joins (length h) (latest_rows h) other clock.node ≡ true
          comes-next other front clock rest cut below lt above =
              let row : is_some (row_of r.rows clock.node) ≡ true = ap (λ (l : List NodeRow). is_some (row_of l clock.node)) cut ∙ found-there front clock rest in
              and-both (nat_lt other clock.node && may_stand named joins (length h) (latest_rows h) clock.node) (is_up_to clock.node (next_due p named joins (length h) (latest_rows h) other))
              (and-both (nat_lt other clock.node) (may_stand named joins (length h) (latest_rows h) clock.node) (lt-yes other clock.node lt) (row-may clock.node row))
              (upto (find (is_due_after named joins (length h) (latest_rows h) other) p.nodes) refl)
            where
              upto : (o : Option NodeSpec) → find (is_due_after named joins (length h) (latest_rows h) other) p.nodes ≡ o → is_up_to clock.node (option_map (λ spec. spec.id) o) ≡ true
              upto None e = refl
              upto (Some s) e =
                  let due = due-row other s e in
                  let gt = due.0 in
                  let there : is_some (row_of (front ++ clock ∷ rest) s.id) ≡ true = ap (λ (l : List NodeRow). is_some (row_of l s.id)) (sym cut) ∙ due.1 in
                  let behind = skip-front front (clock ∷ rest) s.id (All-weaker (λ (x : NodeRow). x.node ≤ other) (λ (x : NodeRow). x.node ≢ s.id) (λ x le same. absurd (omega (arith, le, same, gt))) front below) there in
                  le-yes clock.node s.id
                  (all-found (λ (x : NodeRow). x.node) (λ (k : ℕ). clock.node ≤ k) (clock ∷ rest) s.id
                  (All-cons (λ (x : NodeRow). clock.node ≤ x.node) clock rest (omega arith) (All-weaker (λ (x : NodeRow). clock.node < x.node) (λ (x : NodeRow). clock.node ≤ x.node) (λ x less. omega (arith, less)) rest above)) behind)

          -- and behind the last one none must
          none-next : (other : ℕ) → All (λ row. row.node ≤ other) r.rows → is_none (next_due p named joins (length h) (latest_rows h) other) ≡ true
          none-next other below = by (find (is_due_after named joins (length h) (latest_rows h) other) p.nodes) refl
            where
              by : (o : Option NodeSpec) → find (is_due_after named joins (length h) (latest_rows h) other) p.nodes ≡ o → is_none (option_map (λ spec. spec.id) o) ≡ true
              by None e = refl
              by (Some s) e =
                  let due = due-row other s e in
                  let gt = due.0 in
                  let there : is_some (row_of (r.rows ++ []) s.id) ≡ true = ap (λ (l : List NodeRow). is_some (row_of l s.id)) (append-nil r.rows) ∙ due.1 in
                  absurd (let no = skip-front r.rows [] s.id (All-weaker (λ (x : NodeRow). x.node ≤ other) (λ (x : NodeRow). x.node ≢ s.id) (λ x le same. absurd (omega (arith, le, same, gt))) r.rows below) there in cc no)

          -- what holds of all rows holds of one of them
          of-all : (P : NodeRow → Type 0) (front : List NodeRow) (clock : NodeRow) (rest : List NodeRow) → r.rows ≡ front ++ clock ∷ rest → All P r.rows → P clock
          of-all P front clock rest cut all = middle front (subst (λ (l : List NodeRow). All P l) cut all)
            where
              middle : (front : List NodeRow) → All P (front ++ clock ∷ rest) → P clock
              middle [] a = All-head P clock rest a
              middle (x ∷ xs) a = middle xs (All-tail P x (xs ++ clock ∷ rest) a)

          clock-reason : (comes : Bool) (front : List NodeRow) (clock : NodeRow) (rest : List NodeRow) → r.rows ≡ front ++ clock ∷ rest → comes ≡ true
              → (if is_beyond p clock then Some reason.OutOfRange else if not (is_known p clock.node) then Some reason.UnknownNode else if not comes then Some reason.Role else None) ≡ None
          clock-reason comes front clock rest cut may =
              clock-fine (is_beyond p clock) (is_known p clock.node) comes
              (in-limits clock (of-all (λ (x : NodeRow). IsWithin p.rate_limit x.rate) front clock rest cut rates) (of-all (λ (x : NodeRow). IsWithin p.offset_limit x.offset) front clock rest cut offsets))
              (row-known clock.node (ap (λ (l : List NodeRow). is_some (row_of l clock.node)) cut ∙ found-there front clock rest)) may

          clock-written : (front : List NodeRow) (clock : NodeRow) (rest : List NodeRow) → r.rows ≡ front ++ clock ∷ rest → IsWrittenClock (length h) clock
          clock-written front clock rest cut =
              written-clock clock (row-known clock.node (ap (λ (l : List NodeRow). is_some (row_of l clock.node)) cut ∙ found-there front clock rest)) (of-all IsTracedRow front clock rest cut traced.rows_proper)
              (of-all (λ (x : NodeRow). IsWithin p.rate_limit x.rate) front clock rest cut rates) (of-all (λ (x : NodeRow). IsWithin p.offset_limit x.offset) front clock rest cut offsets)

          -- a row more in the cycle under way
          row-one : (done : List FileRecord) (front : List NodeRow) (heard : List Dev) (turn : Turn) (clock : NodeRow) (rest : List NodeRow) → IsGoing done front heard turn → r.rows ≡ front ++ clock ∷ rest
              → All (λ row. row.node ≤ turn.node) front → turn.node < clock.node → All (λ row. clock.node < row.node) rest
              → IsGoing (done ++ record_of_row (row.Clock (length h) clock) ∷ []) (front ++ clock ∷ []) heard (clock_turn clock)
          row-one done front heard turn clock rest g cut below lt above =
              let part : Record = record { rows = front; devs = heard; counts = no_counts } in
              let said : Row = row.Clock (length h) clock in
              let same = eq-yes (length h) (length h) refl in
              let Choice : Bool → Bool = λ b. if b then may_stand_after p named joins (length h) (latest_rows h) turn.node clock.node
              else ((length h == length h + 1) && nat_lt (length h) (2 * n) && is_none (next_due p named joins (length h) (latest_rows h) turn.node) && may_stand_after p named joins (length h) front 0 clock.node)
              in
              let may : may_come_next p n named joins (latest_rows h) front (Some g.last) said ≡ true =
              g.place.comes n (latest_rows h) front said ∙ ap Choice same ∙ comes-next turn.node front clock rest cut below lt above
              in
              record {
                last = said;
                place = clock-is (length h) clock;
                told = told-more p done (Some n) (Some n) named named joins joins (Some g.last) h h part (record part { rows = front ++ clock ∷ [] }) said g.told (clock-written front clock rest cut) (inl refl) refl
                    (append-nil named) (append-nil joins) (ap (λ (b : Bool). if b then h else part ∷ h) same)
                    (ap (λ (b : Bool). if b then record part { rows = front ++ clock ∷ [] } else record no_record { rows = clock ∷ [] }) same) refl
                    (clock-reason (may_come_next p n named joins (latest_rows h) front (Some g.last) said) front clock rest cut may);
              }

          -- the deviations of a node's row, and those of later nodes behind them
          record IsRowOut (done : List FileRecord) (rows : List NodeRow) (node : ℕ) (rest : List NodeRow) : Type 0 where
            turn : Turn
            is_node : turn.node ≡ node
            told_devs : List Dev
            later : List Dev
            going : IsGoing done rows told_devs turn
            parted : r.devs ≡ told_devs ++ later
            early : All (λ dev. dev.receiver ≤ node) told_devs
            late : All (λ dev. node < dev.receiver) later
            ascend : AreAscendingDevs later
            there : All (λ dev. Contains (map (λ row. row.node) rest) dev.receiver) later

          row-out : (done : List FileRecord) (front : List NodeRow) (clock : NodeRow) (rest : List NodeRow) (heard left : List Dev)
              → IsGoing done (front ++ clock ∷ []) heard (clock_turn clock) → r.rows ≡ front ++ clock ∷ rest → r.devs ≡ heard ++ left
              → AreAscendingDevs left → All (λ dev. dev.receiver < clock.node) heard → All (λ dev. clock.node ≤ dev.receiver) left
              → All (λ dev. Contains (map (λ row. row.node) (clock ∷ rest)) dev.receiver) left
              → IsRowOut (done ++ map record_of_row (heard_by (length h) clock.node r.devs)) (front ++ clock ∷ []) clock.node rest
          row-out done front clock rest heard left g cut parted devs_asc early late there =
              let node = clock.node in
              let at = cut-devs node left devs_asc late in
              let all : r.devs ≡ heard ++ (at.own ++ at.later) = parted ∙ ap (λ (l : List Dev). heard ++ l) at.cut in
              let mine : List Dev = filter (λ dev. dev.receiver == node) r.devs in
              let own : mine ≡ at.own = ap (λ (l : List Dev). filter (λ dev. dev.receiver == node) l) all ∙ filter-own node heard at.own at.later early at.mine at.above in
              let known : is_known p node ≡ true = row-known node (ap (λ (l : List NodeRow). is_some (row_of l node)) cut ∙ found-there front clock rest) in
              let passes : All (λ dev. dev.receiver ≡ node) mine = subst (λ (l : List Dev). All (λ dev. dev.receiver ≡ node) l) (sym own) at.mine in
              let about = All-filter (λ (dev : Dev). dev.receiver == node) (IsAboutOther p) r.devs abouts in
              let out =
              hear-all done (front ++ clock ∷ []) heard mine (clock_turn clock) node g refl known passes (AllPairs-filter IsEarlierDev (λ (dev : Dev). dev.receiver == node) r.devs traced.devs_ascend)
              (λ k d lt. let a = about k d lt in after-clock (length h) clock (get_or mine k d) (key-range p.nodes (get_or mine k d).slot a.sender sane.lists.nodes_sane a.key).0) about
              (All-filter (λ (dev : Dev). dev.receiver == node) (λ dev. IsWithin (pos 1_000_000) dev.value) r.devs traced.devs_proper)
              in
              let parts : List Dev → Type 0 = λ l. All (λ dev. Contains (node ∷ map (λ row. row.node) rest) dev.receiver) l in
              let behind = all-back (λ (dev : Dev). Contains (node ∷ map (λ row. row.node) rest) dev.receiver) at.own at.later (subst parts at.cut there) in
              record {
                turn = out.turn;
                is_node = out.is_node;
                told_devs = heard ++ mine;
                later = at.later;
                going = out.going;
                parted = all ∙ sym (append_assoc heard at.own at.later) ∙ ap (λ (l : List Dev). (heard ++ l) ++ at.later) (sym own);
                early = All-append (λ (dev : Dev). dev.receiver ≤ node) heard mine
                    (All-weaker (λ (dev : Dev). dev.receiver < node) (λ (dev : Dev). dev.receiver ≤ node) (λ dev lt. omega (arith, lt)) heard early)
                    (All-weaker (λ (dev : Dev). dev.receiver ≡ node) (λ (dev : Dev). dev.receiver ≤ node) (λ dev e. omega (arith, e)) mine passes);
                late = at.above;
                ascend = pairs-back IsEarlierDev at.own at.later (subst (λ (l : List Dev). AreAscendingDevs l) at.cut devs_asc);
                there = λ k d lt. contains-later node (map (λ row. row.node) rest) (get_or at.later k d).receiver (at.above k d lt) (behind k d lt);
              }

          -- behind a row all others, each with its deviations
          rows-from : (rest : List NodeRow) (done : List FileRecord) (front : List NodeRow) (clock : NodeRow) (heard left : List Dev)
              → IsGoing done (front ++ clock ∷ []) heard (clock_turn clock) → r.rows ≡ front ++ clock ∷ rest → r.devs ≡ heard ++ left
              → All (λ row. row.node < clock.node) front → AreAscendingRows (clock ∷ rest) → AreAscendingDevs left → All (λ dev. dev.receiver < clock.node) heard → All (λ dev. clock.node ≤ dev.receiver) left
              → All (λ dev. Contains (map (λ row. row.node) (clock ∷ rest)) dev.receiver) left
              → IsTurnOver (done ++ map record_of_row (heard_by (length h) clock.node r.devs ++ cycle_rows (length h) r.devs rest)) h r
          unfolding cycle_rows
          rows-from [] done front clock heard left g cut parted below asc devs_asc early late there =
              let out = row-out done front clock [] heard left g cut parted devs_asc early late there in
              let none : out.later ≡ [] = none-left out.later out.there in
              let devs : r.devs ≡ out.told_devs = out.parted ∙ ap (λ (l : List Dev). out.told_devs ++ l) none ∙ append-nil out.told_devs in
              let records : List FileRecord = done ++ map record_of_row (heard_by (length h) clock.node r.devs) in
              let same : records ≡ done ++ map record_of_row (heard_by (length h) clock.node r.devs ++ []) =
              ap (λ (l : List Row). done ++ map record_of_row l) (sym (append-nil (heard_by (length h) clock.node r.devs)))
              in
              let whole : record { rows = front ++ clock ∷ []; devs = out.told_devs; counts = no_counts } ≡ r = λ i. record { rows = sym cut i; devs = sym devs i; counts = sym traced.uncounted i } in
              let is = out.is_node in
              let upto : All (λ row. row.node ≤ out.turn.node) r.rows =
              subst (λ (l : List NodeRow). All (λ row. row.node ≤ out.turn.node) l) (sym cut)
              (All-push (λ (row : NodeRow). row.node ≤ out.turn.node) front clock
              (All-weaker (λ (row : NodeRow). row.node < clock.node) (λ (row : NodeRow). row.node ≤ out.turn.node) (λ row lt. omega (arith, lt, is)) front below) (omega (arith, is)))
              in
              record {
                last = out.going.last;
                turn = out.turn;
                place = out.going.place;
                told = subst (λ (q : Record). IsTold p (done ++ map record_of_row (heard_by (length h) clock.node r.devs ++ [])) (Some n) named joins (Some out.going.last) h q) whole
                    (told-same p records (done ++ map record_of_row (heard_by (length h) clock.node r.devs ++ [])) (Some n) named named joins joins (Some out.going.last) h
                    (record { rows = front ++ clock ∷ []; devs = out.told_devs; counts = no_counts }) same refl refl out.going.told);
                none_due = none-next out.turn.node upto;
              }
          rows-from (next ∷ rest) done front clock heard left g cut parted below asc devs_asc early late there =
              let out = row-out done front clock (next ∷ rest) heard left g cut parted devs_asc early late there in
              let is = out.is_node in
              let above : All (λ row. clock.node < row.node) (next ∷ rest) = pairs-first (λ (a b : NodeRow). a.node < b.node) clock (next ∷ rest) asc in
              let asc_next = pairs-rest (λ (a b : NodeRow). a.node < b.node) clock (next ∷ rest) asc in
              let lt : clock.node < next.node = All-head (λ (row : NodeRow). clock.node < row.node) next rest above in
              let own : List Row = heard_by (length h) clock.node r.devs in
              let records : List FileRecord = done ++ map record_of_row own in
              let one : List FileRecord = record_of_row (row.Clock (length h) next) ∷ [] in
              let cut_next : r.rows ≡ (front ++ clock ∷ []) ++ next ∷ rest = cut ∙ sym (append_assoc front (clock ∷ []) (next ∷ rest)) in
              let upto : All (λ row. row.node ≤ out.turn.node) (front ++ clock ∷ []) =
              All-push (λ (row : NodeRow). row.node ≤ out.turn.node) front clock
              (All-weaker (λ (row : NodeRow). row.node < clock.node) (λ (row : NodeRow). row.node ≤ out.turn.node) (λ row less. omega (arith, less, is)) front below) (omega (arith, is))
              in
              let g2 =
              row-one records (front ++ clock ∷ []) out.told_devs out.turn next rest out.going cut_next upto (omega (arith, is, lt)) (pairs-first (λ (a b : NodeRow). a.node < b.node) next rest asc_next)
              in
              let more =
              rows-from rest (records ++ one) (front ++ clock ∷ []) next out.told_devs out.later g2 cut_next out.parted
              (All-push (λ (row : NodeRow). row.node < next.node) front clock
              (All-weaker (λ (row : NodeRow). row.node < clock.node) (λ (row : NodeRow). row.node < next.node) (λ row less. omega (arith, less, lt)) front below) lt)
              asc_next out.ascend
              (All-weaker (λ (dev : Dev). dev.receiver ≤ clock.node) (λ (dev : Dev). dev.receiver < next.node) (λ dev le. omega (arith, le, lt)) out.told_devs out.early)
              (λ k d less. from-contained next rest (pairs-first (λ (a b : NodeRow). a.node < b.node) next rest asc_next) (get_or out.later k d).receiver (out.there k d less))
              out.there
              in
              let behind : List Row = heard_by (length h) next.node r.devs ++ cycle_rows (length h) r.devs rest in
              let same : (records ++ one) ++ map record_of_row behind ≡ done ++ map record_of_row (own ++ row.Clock (length h) next ∷ behind) =
              append_assoc records one (map record_of_row behind)
              ∙ append_assoc done (map record_of_row own) (map record_of_row (row.Clock (length h) next ∷ behind))
              ∙ ap (λ (l : List FileRecord). done ++ l) (sym (map-append record_of_row own (row.Clock (length h) next ∷ behind)))
              in
              subst (λ (l : List FileRecord). IsTurnOver l h r) same more

          -- ---- a whole cycle, by its first row

          first-may : (done : List FileRecord) (clock : NodeRow) (rest : List NodeRow) → IsReady done h → r.rows ≡ clock ∷ rest → AreAscendingRows (clock ∷ rest)
              → IsGoing (done ++ record_of_row (row.Clock (length h) clock) ∷ []) (clock ∷ []) [] (clock_turn clock)
          first-may done clock rest before cut asc =
              let low = numbered p sane n count clock.node (row-known clock.node (ap (λ (l : List NodeRow). is_some (row_of l clock.node)) cut ∙ found-there [] clock rest)) in
              let from = low.from in
              let comes = comes-next 0 [] clock rest cut (All-nil (λ (row : NodeRow). row.node ≤ 0)) (omega (arith, from)) (pairs-first (λ (a b : NodeRow). a.node < b.node) clock rest asc) in
              let said : Row = row.Clock (length h) clock in
              record {
                last = said;
                place = clock-is (length h) clock;
                told = told-more p done (Some n) (Some n) named named joins joins (Some before.last) before.over h before.part (record no_record { rows = clock ∷ [] }) said before.told (clock-written [] clock rest cut)
                    before.placed refl (append-nil named) (append-nil joins) (before.over_is clock) (before.part_is clock) refl
                    (clock-reason (may_come_next p n named joins (latest_rows before.over) before.part.rows (Some before.last) said) [] clock rest cut (before.comes clock comes));
              }

          cycle-over : (rows : List NodeRow) (done : List FileRecord) → IsDone done h → r.rows ≡ rows → (rows ≡ [] → ⊥)
              → IsTurnOver (done ++ map record_of_row (cycle_rows (length h) r.devs rows)) h r
          unfolding cycle_rows
          cycle-over [] done before cut some = absurd (some refl)
          cycle-over (clock ∷ rest) done before cut some =
              let asc : AreAscendingRows (clock ∷ rest) = subst AreAscendingRows cut traced.rows_ascend in
              let above = pairs-first (λ (a b : NodeRow). a.node < b.node) clock rest asc in
              let there : All (λ dev. Contains (map (λ row. row.node) (clock ∷ rest)) dev.receiver) r.devs =
              subst (λ (l : List NodeRow). All (λ dev. Contains (map (λ row. row.node) l) dev.receiver) r.devs) cut traced.devs_heard
              in
              let one : List FileRecord = record_of_row (row.Clock (length h) clock) ∷ [] in
              let behind : List Row = heard_by (length h) clock.node r.devs ++ cycle_rows (length h) r.devs rest in
              let over =
              rows-from rest (done ++ one) [] clock [] r.devs (first-may done clock rest (ready done h few before) cut asc) cut refl (All-nil (λ (row : NodeRow). row.node < clock.node)) asc traced.devs_ascend
              (All-nil (λ (dev : Dev). dev.receiver < clock.node)) (λ k d lt. from-contained clock rest above (get_or r.devs k d).receiver (there k d lt)) there
              in
              subst (λ (l : List FileRecord). IsTurnOver l h r) (append_assoc done one (map record_of_row behind)) over

  -- ---- all cycles

  -- the record behind a history is one of a trace, and fits
  record IsFit (h : History) (r : Record) : Type 0 where
    traced : IsTracedRecord r
    nodes : map (λ row. row.node) r.rows ≡ map (λ node. node.id) (filter (λ node. has_traced_row named joins h r node.id) p.nodes)
    rates : All (λ row. IsWithin p.rate_limit row.rate) r.rows
    offsets : All (λ row. IsWithin p.offset_limit row.offset) r.rows
    abouts : All (IsAboutOther p) r.devs

  AreFit : History → Type 0
  AreFit [] = Unit {0}
  AreFit (r ∷ h) = IsFit h r × AreFit h

  stand-of : (h : History) (r : Record) → IsFit h r → (k : ℕ) → is_some (row_of r.rows k) ≡ (has_traced_row named joins h r k && is_known p k)
  stand-of h r fit k =
      any-row r.rows k ∙ ap (λ (l : List ℕ). list_any (λ m. m == k) l) fit.nodes ∙ any-node (λ m. has_traced_row named joins h r m) p.nodes k

  -- where a node that does not join is none of the arbitrary ones, each cycle has a row
  some-row : (m : ℕ) → is_known p m ≡ true → is_among named m ≡ false → join_among joins m ≡ None → (h : History) (r : Record) → IsFit h r → r.rows ≡ [] → ⊥
  some-row m known unnamed stays h r fit none =
      let has : has_traced_row named joins h r m ≡ true = λ i. not (unnamed i) && stands_in (stays i) h r m in
      let row : is_some (row_of r.rows m) ≡ true = stand-of h r fit m ∙ and-both (has_traced_row named joins h r m) (is_known p m) has known in
      let no : is_some (row_of [] m) ≡ true = ap (λ (l : List NodeRow). is_some (row_of l m)) (sym none) ∙ row in
      cc no

  walk : (done : List FileRecord) → IsHeadOver p sane n count done named joins → ((h : History) (r : Record) → IsFit h r → r.rows ≡ [] → ⊥)
      → (h : History) → length h ≤ 2 * n → AreFit h → IsDone (done ++ map record_of_row (map row_of_item (items_in h))) h
  unfolding AreFit items_in
  walk done head some [] few fit = subst (λ (l : List FileRecord). IsHeadOver p sane n count l named joins) (sym (append-nil done)) head
  walk done head some (r ∷ h) few fit =
      let own : IsFit h r = fit.0 in
      let less : length h < 2 * n = omega (arith, few) in
      let before = walk done head some h (omega (arith, few)) fit.1 in
      let items : List Row = map row_of_item (items_in h) in
      let cycle : List Row = cycle_rows (length h) r.devs r.rows in
      let over = cycle-over h less r own.traced own.rates own.offsets own.abouts (stand-of h r own) r.rows (done ++ map record_of_row items) before refl (some h r own) in
      let same : (done ++ map record_of_row items) ++ map record_of_row cycle ≡ done ++ map record_of_row (map row_of_item (items_in (r ∷ h))) =
      append_assoc done (map record_of_row items) (map record_of_row cycle)
      ∙ ap (λ (l : List FileRecord). done ++ l) (sym (map-append record_of_row items cycle))
      ∙ ap (λ (l : List Row). done ++ map record_of_row l) (sym (over-rows h r))
      in
      subst (λ (l : List FileRecord). IsTurnOver l h r) same over

  -- ---- the records are those of the trace

  -- the records of a trace of these cycles are accepted, and say it
  record IsAccepted (records : List FileRecord) (h : History) : Type 0 where
    none_refused : NoneRefused (trace_reason_after p) records
    unquoted : list_all is_plain_record records ≡ true
    whole : is_whole p records ≡ true
    stands : TraceStandsFor (record { doubles = n; arbitrary = named; joins = joins; history = h }) records

  whole-by : (records : List FileRecord) (last : Option Row) (h g : History) (part : Record) → IsTold p records (Some n) named joins last g part → ends_with p n named joins (latest_rows g) last ≡ true → is_whole p records ≡ true
  whole-by records last h g part t ends =
      let cycle : cycle_of (last_row_at records) ≡ length g = ap cycle_of t.latest ∙ t.at in
      let before : before_at records ≡ latest_rows g = ap (λ (k : ℕ). latest_rows (history_said records k)) cycle ∙ ap latest_rows (sym t.says_so.over) in
      ap (is_whole_by p records) t.told ∙ (λ i. ends_with p n (t.names i) (t.joiners i) (before i) (t.latest i)) ∙ ends

  accepted-going : (records : List FileRecord) (h : History) (r : Record) → IsTurnOver records h r → length (r ∷ h) ≡ 2 * n → IsAccepted records (r ∷ h)
  unfolding history_said
  accepted-going records h r o long =
      let t = o.told in
      let count_is : (length h + 1 == 2 * n) ≡ true = eq-yes (length h + 1) (2 * n) (omega (arith, long)) in
      record {
        none_refused = t.none_refused;
        unquoted = t.unquoted;
        whole = whole-by records (Some o.last) (r ∷ h) h r t
            (o.place.ends n (latest_rows h) ∙ and-both (length h + 1 == 2 * n) (is_none (next_due p named joins (length h) (latest_rows h) o.turn.node)) count_is o.none_due);
        stands = record {
          doubles = t.told;
          arbitrary = sym t.names;
          joins = sym t.joiners;
          history = (λ i. t.says_so.part i ∷ t.says_so.over i) ∙ ap (history_said records) long;
        };
      }

  -- a history of blank records is what records say of which none is of a cycle
  blank-said : (records : List FileRecord) (h : History) → AreSaid [] no_record records → All (λ r. r ≡ no_record) h → h ≡ history_said records (length h)
  unfolding history_said
  blank-said records [] said blank = refl
  blank-said records (r ∷ h) said blank =
      let here : r ≡ record_said records (length h) = All-head (λ (q : Record). q ≡ no_record) r h blank ∙ by (length h) in
      let rest = blank-said records h said (All-tail (λ (q : Record). q ≡ no_record) r h blank) in
      λ i. here i ∷ rest i
    where
      by : (k : ℕ) → no_record ≡ record_said records k
      by zero = said.part
      by (suc k) = sym (said.none_later (suc k) (omega arith))

  accepted-blank : (records : List FileRecord) (h : History) → IsHeadOver p sane n count records named joins → is_none (next_due p named joins 0 [] 0) ≡ true → length h ≡ 2 * n → All (λ r. r ≡ no_record) h
      → IsAccepted records h
  accepted-blank records h head none long blank =
      let t = head.told in
      record {
        none_refused = t.none_refused;
        unquoted = t.unquoted;
        whole = whole-by records (Some head.last) h [] no_record t (head.opens.ends n named joins [] ∙ none);
        stands = record {
          doubles = t.told;
          arbitrary = sym t.names;
          joins = sym t.joiners;
          history = blank-said records h t.says_so blank ∙ ap (history_said records) long;
        };
      }

  -- where each node is arbitrary, all cycles are blank and have no items
  no-rows : AreAllNamed p named → (h : History) (r : Record) → IsFit h r → r.rows ≡ []
  no-rows all h r fit = by r.rows refl
    where
      by : (rows : List NodeRow) → r.rows ≡ rows → r.rows ≡ []
      by [] e = e
      by (x ∷ rows) e =
          let row : is_some (row_of r.rows x.node) ≡ true = ap (λ (l : List NodeRow). is_some (row_of l x.node)) e ∙ found-there [] x rows in
          let two = both-true (has_traced_row named joins h r x.node) (is_known p x.node) (sym (stand-of h r fit x.node) ∙ row) in
          let named_x = all x.node two.1 in
          clash (has_traced_row named joins h r x.node) two.0 (ap (λ (b : Bool). not b && stands_in (join_among joins x.node) h r x.node) named_x)

  blank-of : AreAllNamed p named → (h : History) (r : Record) → IsFit h r → r ≡ no_record
  blank-of all h r fit =
      let rows = no-rows all h r fit in
      let devs : r.devs ≡ [] = none-left r.devs (subst (λ (l : List NodeRow). All (λ dev. Contains (map (λ row. row.node) l) dev.receiver) r.devs) rows fit.traced.devs_heard) in
      λ i. record { rows = rows i; devs = devs i; counts = fit.traced.uncounted i }

  all-blank : AreAllNamed p named → (h : History) → AreFit h → All (λ r. r ≡ no_record) h
  unfolding AreFit
  all-blank all [] fit = All-nil (λ (r : Record). r ≡ no_record)
  all-blank all (r ∷ h) fit = All-cons (λ (q : Record). q ≡ no_record) r h (blank-of all h r fit.0) (all-blank all h fit.1)

  no-items : AreAllNamed p named → (h : History) → AreFit h → items_in h ≡ []
  unfolding AreFit items_in items_by
  no-items all [] fit = refl
  no-items all (r ∷ h) fit = (λ i. no-items all h fit.1 i ++ items_by h r (no-rows all h r fit.0 i))

-- ---- the text of a trace

module _ (p : Values) (t : TraceView) (sane : IsSane p) (is : IsTrace t) (fits : TraceFits p t) where
  count_of : IsProperTracedCount t.doubles
  count_of = record { from = is.doubles_from; to = is.doubles_to }

  abbrev Accepted : List FileRecord → History → Type 0
  Accepted records h = IsAccepted p sane t.doubles count_of t.arbitrary t.joins records h

  abbrev Fit : History → Type 0
  Fit h = AreFit p sane t.doubles count_of t.arbitrary t.joins h

  all-fit : (h : History) → HistoryFits p t h → All IsTracedRecord h → Fit h
  unfolding AreFit HistoryFits
  all-fit [] fit traced = tt
  all-fit (r ∷ h) fit traced =
      let own : FitsRecord p t h r = fit.0 in (
        record { traced = All-head IsTracedRecord r h traced; nodes = own.nodes; rates = own.rates; offsets = own.offsets; abouts = own.devs },
        all-fit h fit.1 (All-tail IsTracedRecord r h traced),
      )

  head_rows : List Row
  head_rows = (row.Run t.doubles ∷ map (λ node. row.Arbitrary node) t.arbitrary) ++ map (λ j. row.Join j) t.joins

  head : IsHeadOver p sane t.doubles count_of (map record_of_row head_rows) t.arbitrary t.joins
  unfolding head_rows
  head = head-over p sane t.doubles count_of t.arbitrary t.joins is.arbitrary_ascend fits.arbitrary fits.joins_ascend fits.joins

  fit_all : Fit t.history
  fit_all = all-fit t.history fits.records is.records

  -- a cycle is the last one
  ended : (h : History) → length h ≡ 2 * t.doubles → (records : List FileRecord) → IsDone p sane t.doubles count_of t.arbitrary t.joins records h → Accepted records h
  ended [] long records done = let from = is.doubles_from in absurd (omega (arith, long, from))
  ended (r ∷ h) long records done = accepted-going p sane t.doubles count_of t.arbitrary t.joins records h r done long

  trace_records : List FileRecord
  trace_records = map record_of_row (rows_of_trace t)

  parts : trace_records ≡ map record_of_row head_rows ++ map record_of_row (map row_of_item (items_in t.history))
  unfolding trace_records head_rows
  parts = map-append record_of_row ((row.Run t.doubles ∷ map (λ node. row.Arbitrary node) t.arbitrary) ++ map (λ j. row.Join j) t.joins) (map row_of_item (items_in t.history))

  accepted : Accepted trace_records t.history
  accepted = by (find (is_due_after t.arbitrary t.joins 0 [] 0) p.nodes) refl
    where
      Records : List Row → List FileRecord
      Records items = map record_of_row head_rows ++ map record_of_row items

      stays : (o : Option Join) → (k : ℕ) → stays_by o 0 [] k ≡ true → o ≡ None
      stays None k e = refl
      stays (Some join) k e = let lt = lt-is (first_cycle join) 0 (both-true (nat_lt (first_cycle join) 0) false e).0 in absurd (omega (arith, lt))

      by : (o : Option NodeSpec) → find (is_due_after t.arbitrary t.joins 0 [] 0) p.nodes ≡ o → Accepted trace_records t.history
      by None e =
          let none : is_none (next_due p t.arbitrary t.joins 0 [] 0) ≡ true = ap (λ (o : Option NodeSpec). is_none (option_map (λ spec. spec.id) o)) e in
          let all = all-named p (sane-nodes p sane) t.arbitrary t.joins fits.joins none in
          let items = no-items p sane t.doubles count_of t.arbitrary t.joins all t.history fit_all in
          let same : trace_records ≡ map record_of_row head_rows = parts ∙ ap (λ (l : List _). Records (map row_of_item l)) items ∙ append-nil (map record_of_row head_rows) in
          subst (λ (l : List FileRecord). Accepted l t.history) (sym same)
          (accepted-blank p sane t.doubles count_of t.arbitrary t.joins (map record_of_row head_rows) t.history head none is.whole
          (all-blank p sane t.doubles count_of t.arbitrary t.joins all t.history fit_all))
      by (Some s) e =
          let two = both-true (nat_lt 0 s.id) (must_stand t.arbitrary t.joins 0 [] s.id) (found-passes (is_due_after t.arbitrary t.joins 0 [] 0) p.nodes s e) in
          let must = both-true (not (is_among t.arbitrary s.id)) (stays_by (join_among t.joins s.id) 0 [] s.id) two.1 in
          let some = some-row p sane t.doubles count_of t.arbitrary t.joins s.id (found-known (is_due_after t.arbitrary t.joins 0 [] 0) p.nodes s e) (not-is (is_among t.arbitrary s.id) must.0)
          (stays (join_among t.joins s.id) s.id must.1)
          in
          let whole = is.whole in
          let done = walk p sane t.doubles count_of t.arbitrary t.joins (map record_of_row head_rows) head some t.history (omega (arith, whole)) fit_all in
          subst (λ (l : List FileRecord). Accepted l t.history) (sym parts) (ended t.history is.whole (map record_of_row head_rows ++ map record_of_row (map row_of_item (items_in t.history))) done)
        where
          not-is : (b : Bool) → not b ≡ true → b ≡ false
          not-is true f = absurd (cc f)
          not-is false f = refl

  pub text-accepted : IsTraceFile p t (text_of t)
  unfolding trace_records
  text-accepted =
      let a = accepted in
      let back : records_of (text_of t) ≡ map record_of_row (rows_of_trace t) = records-back t a.unquoted in
      record {
        none_refused = subst (λ (l : List FileRecord). NoneRefused (trace_reason_after p) l) (sym back) a.none_refused;
        whole = ap (is_whole p) back ∙ a.whole;
        stands = subst (λ (l : List FileRecord). TraceStandsFor t l) (sym back) a.stands;
      }

pub texts-read-back : TextsAreReadBack
texts-read-back p t sane is fits =
    let accepted = text-accepted p t sane is fits in
    record { accepted = accepted; alone = λ u other. stands-same u t (records_of (text_of t)) other.stands accepted.stands }
