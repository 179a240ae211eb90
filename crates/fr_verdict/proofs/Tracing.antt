-- The trace of a lawful run breaks none of the laws 1 to 5, nor the sixth where delays and microticks are proper.
use Rattle.std.proofs.Common.{◌≡◌, ◌≢◌, ◌⊎◌, inl, inr, ℕ, zero, suc, ◌<◌, ◌==◌, ℤ, pos, Bool, true, false, not, ◌&&◌, List, [], ◌∷◌, ◌++◌, length, map, get_or, Option, Some, None, refl, ap, sym, ◌∙◌, subst, arith}
use Rattle.std.specs.Prelude.{All, AllPairs, Contains, filter, is_some, option_and_then, if◌then◌else◌}
use Rattle.std.specs.Option.{option_map, option_map_or}
use Rattle.std.proofs.lemmas.Bool.Decides.{nat_tests}
use Rattle.std.proofs.lemmas.List.{length-map}
use Rattle.std.proofs.lemmas.List.Elements.{All-append, All-cons, All-filter, All-head, All-map, All-nil, All-tail, All-weaker, All-contains_itself}
use Rattle.std.proofs.lemmas.List.Kept.{AllPairs-cons, AllPairs-filter}
use Rattle.fr_base.specs.Rows.{AreAscendingRows}
use Rattle.fr_base.specs.States.{is_active, is_halted}
use Rattle.fr_base.specs.declared.dev.Dev.{Dev}
use Rattle.fr_base.specs.declared.node_row.NodeRow.{NodeRow}
use Rattle.fr_cluster.proofs.Elements.{Contains-none, filtered}
use Rattle.fr_cluster.proofs.KeyNodes.{AllPairs-first, AllPairs-rest, Contains-cons_cases}
use Rattle.fr_cluster.specs.Sane.{IsSane}
use Rattle.fr_cluster.specs.Setting.{Setting, correct_nodes, is_correct}
use Rattle.fr_cluster.specs.Values.{Values}
use Rattle.fr_cluster.specs.declared.nodes.NodeSpec.{NodeSpec}
use Rattle.fr_time.specs.Cycles.{is_odd}
use Rattle.fr_history.specs.Cycles.{Cycle, Cycles, told_of}
use Rattle.fr_history.specs.History.{AreRowsOf, History, Record, row_of}
use Rattle.fr_history.specs.Lawful.{IsLawful, ToldObeys}
use Rattle.fr_history.specs.Laws.{rate_by_rows, rate_of_next, start_by_rows, start_of_next}
use Rattle.fr_history.specs.Rows.{offset_after, rate_by, uncorrected}
use Rattle.fr_history.specs.Standing.{row_nodes}
use Rattle.fr_history.specs.Terms.{latest_devs, offset_term_by, outcomes_by, outcomes_in, rate_term_by, status_in}
use Rattle.fr_cluster.specs.Questions.{own_index}
use Rattle.fr_poc.specs.Control.{control_of}
use Rattle.fr_poc.specs.Limits.{limits_of}
use Rattle.fr_runs.proofs.Nodes.{node_there}
use Rattle.fr_trace.proofs.Walking.{any-node}
use Rattle.fr_trace.specs.Bare.{bare_history, bare_record, bare_row}
use Rattle.fr_trace.specs.Items.{IsAt, Item, item_in, items_by, items_in}
use Rattle.fr_trace.specs.Items.Item.{Clock, Heard}
use Rattle.fr_trace.specs.Trace.{TraceView, is_named}
use Rattle.fr_verdict.proofs.Lawful.{IsRow}
use Rattle.fr_verdict.proofs.Stored.{IsSaidBy, IsSent, IsSentBy, IsStoredBy, all-stored, sent-of}
use Rattle.fr_verdict.specs.Breach.{Breaks, IsApartRow, IsDeviationOutside, halted_state, is_away, rate_from, record_of_breach, sender_is_away, sender_row, silent_in, silent_state, start_from, traced_rate, traced_start}
use Rattle.fr_verdict.specs.Runs.{IsFirstRowApart, IsToldOutside, RunsBreakNoOther, trace_of_run}
use Rattle.fr_verdict.specs.declared.unlawful.Unlawful.{Unlawful}
use Rattle.fr_verdict.specs.declared.unlawful.Unlawful.TheVariants as unlawful

-- ---- without counts and cuts the records say the same

pub bare_row-of : (rows : List NodeRow) (node : ℕ) → row_of (map bare_row rows) node ≡ option_map bare_row (row_of rows node)
bare_row-of [] node = refl
bare_row-of (row ∷ rows) node = by (row.node == node) (bare_row-of rows node)
  where
    by : (b : Bool) → row_of (map bare_row rows) node ≡ option_map bare_row (row_of rows node)
        → (if b then Some (bare_row row) else row_of (map bare_row rows) node) ≡ option_map bare_row (if b then Some row else row_of rows node)
    by true e = refl
    by false e = e

pub long : (h : History) → length (bare_history h) ≡ length h
long h = length-map h bare_record

latest : (h : History) → latest_devs (bare_history h) ≡ latest_devs h
latest [] = refl
latest (r ∷ h) = refl

outcomes-bare : (p : Values) (h : History) (node : ℕ) → outcomes_in p (bare_history h) node ≡ outcomes_in p h node
unfolding outcomes_in
outcomes-bare p [] node = refl
outcomes-bare p (r ∷ h) node =
    let here : (o : Option NodeRow) → outcomes_by p (bare_history h) r.devs (option_map bare_row o) ≡ outcomes_by p h r.devs o = λ o. by o in
    let own : outcomes_by p (bare_history h) r.devs (row_of (map bare_row r.rows) node) ≡ outcomes_by p h r.devs (row_of r.rows node) =
    ap (outcomes_by p (bare_history h) r.devs) (bare_row-of r.rows node) ∙ here (row_of r.rows node)
    in
    λ i. outcomes-bare p h node i ++ (if is_odd (long h i) then own i else [])
  where
    by : (o : Option NodeRow) → outcomes_by p (bare_history h) r.devs (option_map bare_row o) ≡ outcomes_by p h r.devs o
    by None = refl
    by (Some row) =
        ap (λ (devs : List Dev). ((offset_term_by p devs r.devs row.node (own_index p row.node)).outcome, (rate_term_by p devs r.devs row (own_index p row.node)).outcome) ∷ []) (latest h)

status-bare : (p : Values) (h : History) (node : ℕ) → status_in p (bare_history h) node ≡ status_in p h node
status-bare p h node = ap (control_of (limits_of p)) (outcomes-bare p h node)

offset-bare : (p : Values) (h : History) (r : Record) (row : NodeRow) → offset_after p (bare_history h) (bare_record r) (bare_row row) ≡ offset_after p h r row
offset-bare p h r row = λ i. if is_odd (long h i) && not (is_halted row.state) then (offset_term_by p (latest h i) r.devs row.node (own_index p row.node)).value else pos 0

rate-bare : (p : Values) (h : History) (r : Record) (before : NodeRow) → rate_by p (bare_history h) (bare_record r) (Some (bare_row before)) ≡ rate_by p h r (Some before)
rate-bare p h r before = λ i. if is_odd (long h i) && not (is_halted before.state) then (rate_term_by p (latest h i) r.devs before (own_index p before.node)).value else before.rate

-- ---- rows of nodes in ascending order

along : (m : ℕ) (nodes : List NodeSpec) (rows : List NodeRow) → AreRowsOf nodes rows → All (λ node. m < node.id) nodes → All (λ row. m < row.node) rows
along m nodes [] are above = All-nil (λ (row : NodeRow). m < row.node)
along m [] (row ∷ rows) are above = absurd (cc are)
along m (node ∷ nodes) (row ∷ rows) are above =
    let head : row.node ≡ node.id = cc are in
    let tail : AreRowsOf nodes rows = cc are in
    let lt = All-head (λ (n : NodeSpec). m < n.id) node nodes above in
    All-cons (λ (r : NodeRow). m < r.node) row rows (omega (arith, head, lt)) (along m nodes rows tail (All-tail (λ (n : NodeSpec). m < n.id) node nodes above))

pub rows-ascend : (nodes : List NodeSpec) (rows : List NodeRow) → AllPairs (λ a b. a.id < b.id) nodes → AreRowsOf nodes rows → AreAscendingRows rows
rows-ascend nodes [] ascend are = λ i j d lt le. absurd (omega (arith, le))
rows-ascend [] (row ∷ rows) ascend are = absurd (cc are)
rows-ascend (node ∷ nodes) (row ∷ rows) ascend are =
    let head : row.node ≡ node.id = cc are in
    let tail : AreRowsOf nodes rows = cc are in
    let later : All (λ n. node.id < n.id) nodes = λ k d lt. ascend 0 (suc k) d (omega arith) (omega (arith, lt)) in
    let above : All (λ r. row.node < r.node) rows = along row.node nodes rows tail (All-weaker (λ (n : NodeSpec). node.id < n.id) (λ (n : NodeSpec). row.node < n.id) (λ n lt. omega (arith, lt, head)) nodes later) in
    AllPairs-cons (λ (a b : NodeRow). a.node < b.node) row rows above (rows-ascend nodes rows (AllPairs-rest (λ (a b : NodeSpec). a.id < b.id) node nodes ascend) tail)

pub eq-yes : (a b : ℕ) → a ≡ b → (a == b) ≡ true
eq-yes a b e = grind (arith, nat_tests, e)

eq-no : (a b : ℕ) → a ≢ b → (a == b) ≡ false
eq-no a b ne = grind (arith, nat_tests, ne)

pub eq-is : (a b : ℕ) → (a == b) ≡ true → a ≡ b
eq-is a b e = grind (arith, nat_tests)

-- a row among others is found by its node
pub row-found : (rows : List NodeRow) (row : NodeRow) → AreAscendingRows rows → Contains rows row → row_of rows row.node ≡ Some row
row-found [] row ascend there = absurd (Contains-none row there)
row-found (r ∷ rows) row ascend there = by (Contains-cons_cases r rows row there) (row-found rows row (AllPairs-rest (λ (a b : NodeRow). a.node < b.node) r rows ascend))
  where
    by : (r ≡ row) ⊎ Contains rows row → (Contains rows row → row_of rows row.node ≡ Some row) → (if r.node == row.node then Some r else row_of rows row.node) ≡ Some row
    by (inl same) rest = ap (λ (b : Bool). if b then Some r else row_of rows row.node) (eq-yes r.node row.node (ap (λ (x : NodeRow). x.node) same)) ∙ ap Some same
    by (inr later) rest =
        let lt = AllPairs-first (λ (a b : NodeRow). a.node < b.node) r rows row ascend later in
        ap (λ (b : Bool). if b then Some r else row_of rows row.node) (eq-no r.node row.node (λ same. absurd (omega (arith, same, lt)))) ∙ rest later

-- a node without a row among those of others
row-none : (nodes : List NodeSpec) (rows : List NodeRow) (node : ℕ) → AreRowsOf nodes rows → All (λ n. n.id ≢ node) nodes → row_of rows node ≡ None
row-none nodes [] node are other = refl
row-none [] (row ∷ rows) node are other = absurd (cc are)
row-none (n ∷ nodes) (row ∷ rows) node are other =
    let head : row.node ≡ n.id = cc are in
    let tail : AreRowsOf nodes rows = cc are in
    let ne = All-head (λ (m : NodeSpec). m.id ≢ node) n nodes other in
    ap (λ (b : Bool). if b then Some row else row_of rows node) (eq-no row.node node (λ same. ne (sym head ∙ same))) ∙ row-none nodes rows node tail (All-tail (λ (m : NodeSpec). m.id ≢ node) n nodes other)

uncorrected-of : (rows : List NodeRow) (node : ℕ) → row_of (map uncorrected rows) node ≡ option_map uncorrected (row_of rows node)
uncorrected-of [] node = refl
uncorrected-of (row ∷ rows) node = by (row.node == node) (uncorrected-of rows node)
  where
    by : (b : Bool) → row_of (map uncorrected rows) node ≡ option_map uncorrected (row_of rows node)
        → (if b then Some (uncorrected row) else row_of (map uncorrected rows) node) ≡ option_map uncorrected (if b then Some row else row_of rows node)
    by true e = refl
    by false e = e

-- the row that a row without its corrections is of
pub record Sends (from : NodeRow) (o : Option NodeRow) : Type 0 where
  pub row : NodeRow
  pub is : o ≡ Some row
  pub same : uncorrected row ≡ from

pub some-same : {A : Type 0} (a b : A) → Some a ≡ Some b → a ≡ b
some-same a b e = cc e

-- what holds of all rows and of all deviations of a cycle holds of its items
pub items-all : (P : Item → Type 0) (h : History) (r : Record) (rows : List NodeRow) → All (λ row. P (Clock h r row)) rows → All (λ dev. P (Heard h r dev)) r.devs → All P (items_by h r rows)
unfolding items_by
items-all P h r [] all devs = All-nil P
items-all P h r (row ∷ rows) all devs =
    let mine : List Dev = filter (λ dev. dev.receiver == row.node) r.devs in
    All-cons P (Clock h r row) (map (Heard h r) mine ++ items_by h r rows) (All-head (λ (q : NodeRow). P (Clock h r q)) row rows all)
    (All-append P (map (Heard h r) mine) (items_by h r rows) (All-map P (Heard h r) mine (All-filter (λ (dev : Dev). dev.receiver == row.node) (λ dev. P (Heard h r dev)) r.devs devs))
    (items-all P h r rows (All-tail (λ (q : NodeRow). P (Clock h r q)) row rows all) devs))

-- and of the item at a place
pub item-of : (P : Item → Type 0) (items : List Item) (place : ℕ) (item : Item) → item_in items place ≡ Some item → All P items → P item
unfolding item_in
item-of P [] place item e all = absurd (cc e)
item-of P (i ∷ items) zero item e all = let same : i ≡ item = some-same i item e in subst P same (All-head P i items all)
item-of P (i ∷ items) (suc place) item e all = item-of P items place item e (All-tail P i items all)

-- ---- the rows of a cycle obey the laws of a trace

module _ (x : Setting) where
  start-is : (g : Cycles) (row : NodeRow) → row.start ≡ start_of_next x g row.node → row.start ≡ traced_start x.params (bare_history (told_of g)) (bare_row row)
  start-is [] row e = refl
  start-is (c ∷ g) row e = by (row_of c.told.rows row.node) refl
    where
      p : Values
      p = x.params

      by : (o : Option NodeRow) → row_of c.told.rows row.node ≡ o → row.start ≡ start_from x.params (bare_row row) (row_of (map bare_row c.told.rows) row.node)
      by None is = sym (ap (start_from x.params (bare_row row)) (bare_row-of c.told.rows row.node ∙ ap (option_map bare_row) is))
      by (Some before) is =
          e
          ∙ ap (λ (o : Option NodeRow). start_by_rows x (c ∷ g) row.node o (row_of c.followers row.node)) is
          ∙ sym (ap (start_from x.params (bare_row row)) (bare_row-of c.told.rows row.node ∙ ap (option_map bare_row) is))

  rate-is : (g : Cycles) (row : NodeRow) → row.rate ≡ rate_of_next x g row.node → row.rate ≡ traced_rate x.params (bare_history (told_of g)) (bare_row row)
  rate-is [] row e = refl
  rate-is (c ∷ g) row e = by (row_of c.told.rows row.node) refl
    where
      by : (o : Option NodeRow) → row_of c.told.rows row.node ≡ o
          → row.rate ≡ rate_from x.params (bare_history (told_of g)) (bare_record c.told) (bare_row row) (row_of (map bare_row c.told.rows) row.node)
      by None is = sym (ap (rate_from x.params (bare_history (told_of g)) (bare_record c.told) (bare_row row)) (bare_row-of c.told.rows row.node ∙ ap (option_map bare_row) is))
      by (Some before) is =
          e
          ∙ ap (λ (o : Option NodeRow). rate_by_rows x c g row.node o (row_of c.followers row.node)) is
          ∙ sym (rate-bare x.params (told_of g) c.told before)
          ∙ sym (ap (rate_from x.params (bare_history (told_of g)) (bare_record c.told) (bare_row row)) (bare_row-of c.told.rows row.node ∙ ap (option_map bare_row) is))

  rows-are : (g : Cycles) (c : Cycle) → ToldObeys x g c → All (IsRow x.params (bare_history (told_of g)) (bare_record c.told)) (map bare_row c.told.rows)
  rows-are g c obeys =
      All-map (IsRow x.params (bare_history (told_of g)) (bare_record c.told)) bare_row c.told.rows
      (λ k d lt. record {
        start = start-is g (get_or c.told.rows k d) (obeys.clocks.starts k d lt);
        rate = rate-is g (get_or c.told.rows k d) (obeys.clocks.rates k d lt);
        state = obeys.clocks.states k d lt ∙ ap (λ (s : _). s.state) (sym (status-bare x.params (told_of g) (get_or c.told.rows k d).node));
        offset = obeys.clocks.offsets k d lt ∙ sym (offset-bare x.params (told_of g) c.told (get_or c.told.rows k d));
      })

  -- ---- its deviations come of senders that send

  module _ (sane : IsSane x.params) (g : Cycles) (c : Cycle) (obeys : ToldObeys x g c) where
    pub ascending : AreAscendingRows c.told.rows
    ascending =
        rows-ascend (row_nodes x g) c.told.rows
        (AllPairs-filter (λ (a b : NodeSpec). a.id < b.id) _ (correct_nodes x) (AllPairs-filter (λ (a b : NodeSpec). a.id < b.id) _ x.params.nodes sane.lists.nodes_ascend)) obeys.clocks.nodes

    -- an arbitrary node has no row
    pub no-row : (node : ℕ) → x.is_arbitrary node ≡ true → row_of c.told.rows node ≡ None
    no-row node arbitrary =
        row-none (row_nodes x g) c.told.rows node obeys.clocks.nodes
        (All-weaker (Contains (row_nodes x g)) (λ n. n.id ≢ node)
        (λ n there same.
        let among = filtered (λ (m : NodeSpec). is_correct x m.id) x.params.nodes n (filtered _ (correct_nodes x) n there).0 in
        absurd (let no : not (x.is_arbitrary node) ≡ true = ap (λ (k : ℕ). not (x.is_arbitrary k)) (sym same) ∙ among.1 in cc (no, arbitrary)))
        (row_nodes x g) (All-contains_itself (row_nodes x g)))

    -- a deviation, with the row that measured it
    pub record IsHeard (dev : Dev) : Type 0 where
      pub row : NodeRow
      pub among : Contains c.told.rows row
      pub receiver : dev.receiver ≡ row.node
      pub sent : IsSent x (length g) (map uncorrected c.told.rows) (uncorrected row) dev

    pub all-heard : All IsHeard c.told.devs
    all-heard =
        All-weaker (IsStoredBy x (length g) (map uncorrected c.told.rows) c.told.rows) IsHeard
        (λ dev s. record { row = s.row; among = s.among; receiver = s.receiver; sent = sent-of x (length g) (map uncorrected c.told.rows) (uncorrected s.row) dev s.stored }) c.told.devs
        (all-stored x (length g) c.told.rows obeys.receptions c.told.devs obeys.received obeys.devs)

    -- whether its sender has a row, in the record as it is traced
    pub receiver-row : (dev : Dev) (heard : IsHeard dev) → row_of (map bare_row c.told.rows) dev.receiver ≡ Some (bare_row heard.row)
    receiver-row dev heard =
        ap (row_of (map bare_row c.told.rows)) heard.receiver ∙ bare_row-of c.told.rows heard.row.node ∙ ap (option_map bare_row) (row-found c.told.rows heard.row ascending heard.among)

    sends-row : (from : NodeRow) (node : ℕ) → row_of (map uncorrected c.told.rows) node ≡ Some from → (o : Option NodeRow) → row_of c.told.rows node ≡ o → Sends from o
    sends-row from node e None is = absurd (let no = sym e ∙ uncorrected-of c.told.rows node ∙ ap (option_map uncorrected) is in cc no)
    sends-row from node e (Some row) is = let same : uncorrected row ≡ from = some-same (uncorrected row) from (sym (uncorrected-of c.told.rows node ∙ ap (option_map uncorrected) is) ∙ e) in record { row = row; is = refl; same = same }

    -- where the sender is correct
    pub of-sender : (dev : Dev) (sender : NodeSpec) (row : NodeRow) (by : IsSentBy x (length g) (map uncorrected c.told.rows) row sender dev) → Sends by.from (row_of c.told.rows sender.id)
    of-sender dev sender row by = sends-row by.from sender.id by.sends (row_of c.told.rows sender.id) refl

    -- ---- law 5, and no deviation is about a node without a row

    module _ (t : TraceView) (named : (sender : NodeSpec) → Contains x.params.nodes sender → is_named t sender.id ≡ x.is_arbitrary sender.id) where
      R : Record
      R = bare_record c.told

      not-away : (dev : Dev) → IsHeard dev → sender_is_away x.params t (bare_record c.told) dev.slot ≡ false
      not-away dev heard =
          ap (λ (o : Option NodeSpec). option_map_or (is_away t (bare_record c.told)) o false) heard.sent.key.found ∙ by heard.sent.by
        where
          sender : NodeSpec
          sender = heard.sent.key.sender

          by : IsSaidBy x (length g) (uncorrected heard.row) heard.sent.key.sender dev ⊎ IsSentBy x (length g) (map uncorrected c.told.rows) (uncorrected heard.row) heard.sent.key.sender dev
              → is_away t (bare_record c.told) heard.sent.key.sender ≡ false
          by (inl said) =
              ap (λ (b : Bool). not b && not (is_some (row_of (map bare_row c.told.rows) heard.sent.key.sender.id))) (named heard.sent.key.sender heard.sent.key.there ∙ said.arbitrary)
          by (inr is) =
              let own = of-sender dev heard.sent.key.sender (uncorrected heard.row) is in
              let there : row_of (map bare_row c.told.rows) heard.sent.key.sender.id ≡ Some (bare_row own.row) = bare_row-of c.told.rows heard.sent.key.sender.id ∙ ap (option_map bare_row) own.is in
              second (not (is_named t heard.sent.key.sender.id)) (not (is_some (row_of (map bare_row c.told.rows) heard.sent.key.sender.id))) (ap (λ (o : Option NodeRow). not (is_some o)) there)
            where
              second : (a b : Bool) → b ≡ false → (a && b) ≡ false
              second true b e = e
              second false b e = refl

      not-halted : (row : NodeRow) → is_halted row.state ≡ false → halted_state (Some (bare_row row)) ≡ None
      not-halted row hears = ap (λ (b : Bool). if b then Some row.state else None) hears

      not-silent : (dev : Dev) → IsHeard dev → silent_in x.params t (bare_record c.told) dev ≡ None
      not-silent dev heard =
          ap (λ (b : Bool). if b then None else silent_state (sender_row x.params (bare_record c.told) dev.slot) (row_of (map bare_row c.told.rows) dev.receiver)) (not-away dev heard)
          ∙ ap (λ (o : Option NodeSpec). silent_state (option_and_then (λ node. row_of (map bare_row c.told.rows) node.id) o) (row_of (map bare_row c.told.rows) dev.receiver)) heard.sent.key.found
          ∙ ap (silent_state (row_of (map bare_row c.told.rows) heard.sent.key.sender.id)) (receiver-row dev heard)
          ∙ by heard.sent.by
        where
          by : IsSaidBy x (length g) (uncorrected heard.row) heard.sent.key.sender dev ⊎ IsSentBy x (length g) (map uncorrected c.told.rows) (uncorrected heard.row) heard.sent.key.sender dev
              → silent_state (row_of (map bare_row c.told.rows) heard.sent.key.sender.id) (Some (bare_row heard.row)) ≡ None
          by (inl said) =
              ap (λ (o : Option NodeRow). silent_state o (Some (bare_row heard.row))) (bare_row-of c.told.rows heard.sent.key.sender.id ∙ ap (option_map bare_row) (no-row heard.sent.key.sender.id said.arbitrary))
              ∙ not-halted heard.row heard.sent.hears
          by (inr is) =
              let own = of-sender dev heard.sent.key.sender (uncorrected heard.row) is in
              let active : is_active own.row.state ≡ true = ap (λ (row : NodeRow). is_active row.state) own.same ∙ is.active in
              ap (λ (o : Option NodeRow). silent_state o (Some (bare_row heard.row))) (bare_row-of c.told.rows heard.sent.key.sender.id ∙ ap (option_map bare_row) own.is)
              ∙ ap (λ (b : Bool). if b then halted_state (Some (bare_row heard.row)) else Some own.row.state) active
              ∙ not-halted heard.row heard.sent.hears

      -- ---- what an item may break

      abbrev MayBreak : Item → Unlawful → Type 0
      MayBreak (Clock h r row) u = (number : ℕ) × ((double : ℕ) × ((u ≡ unlawful.Apart number double) × IsApartRow x.params t h row double))
      MayBreak (Heard h r dev) u = (number : ℕ) × ((kept : ℤ) × ((low : ℤ) × ((high : ℤ) × ((u ≡ unlawful.Deviation number kept low high) × IsDeviationOutside x.params h r dev kept low high))))

      abbrev BreaksLittle : Item → Type 0
      BreaksLittle item = (u : Unlawful) → Breaks x.params t item u → MayBreak item u

      row-little : (row : NodeRow) → IsRow x.params (bare_history (told_of g)) (bare_record c.told) row → BreaksLittle (Clock (bare_history (told_of g)) (bare_record c.told) row)
      row-little row is (unlawful.Start number kept wanted) b = absurd (b.differs (b.is_kept ∙ is.start ∙ sym b.is_wanted))
      row-little row is (unlawful.Rate number kept wanted) b = absurd (b.differs (b.is_kept ∙ is.rate ∙ sym b.is_wanted))
      row-little row is (unlawful.Turn number kept wanted) b = absurd (b.differs (b.is_kept ∙ is.state ∙ sym b.is_wanted))
      row-little row is (unlawful.Offset number kept wanted) b = absurd (b.differs (b.is_kept ∙ is.offset ∙ sym b.is_wanted))
      row-little row is (unlawful.Silent number state) b = absurd b
      row-little row is (unlawful.Deviation number kept low high) b = absurd b
      row-little row is (unlawful.Apart number double) b = (number, (double, (refl, b)))
      row-little row is (unlawful.Uncovered gap) b = absurd b

      dev-little : (dev : Dev) → IsHeard dev → BreaksLittle (Heard (bare_history (told_of g)) (bare_record c.told) dev)
      dev-little dev heard (unlawful.Start number kept wanted) b = absurd b
      dev-little dev heard (unlawful.Rate number kept wanted) b = absurd b
      dev-little dev heard (unlawful.Turn number kept wanted) b = absurd b
      dev-little dev heard (unlawful.Offset number kept wanted) b = absurd b
      dev-little dev heard (unlawful.Silent number state) b = absurd (let no = sym (not-silent dev heard) ∙ b in cc no)
      dev-little dev heard (unlawful.Deviation number kept low high) b = (number, (kept, (low, (high, (refl, b)))))
      dev-little dev heard (unlawful.Apart number double) b = absurd (let no = sym (not-away dev heard) ∙ b.away in cc no)
      dev-little dev heard (unlawful.Uncovered gap) b = absurd b

      -- of the items of the cycle
      cycle-little : All BreaksLittle (items_by (bare_history (told_of g)) (bare_record c.told) (map bare_row c.told.rows))
      cycle-little =
          let H : History = bare_history (told_of g) in
          items-all BreaksLittle H (bare_record c.told) (map bare_row c.told.rows)
          (All-weaker (IsRow x.params H (bare_record c.told)) (λ row. BreaksLittle (Clock H (bare_record c.told) row)) row-little (map bare_row c.told.rows) (rows-are g c obeys))
          (All-weaker IsHeard (λ dev. BreaksLittle (Heard H (bare_record c.told) dev)) dev-little c.told.devs all-heard)

  -- ---- of all items

  module _ (sane : IsSane x.params) (t : TraceView) (named : (sender : NodeSpec) → Contains x.params.nodes sender → is_named t sender.id ≡ x.is_arbitrary sender.id) where
    abbrev May : Item → Unlawful → Type 0
    May (Clock h r row) u = (number : ℕ) × ((double : ℕ) × ((u ≡ unlawful.Apart number double) × IsApartRow x.params t h row double))
    May (Heard h r dev) u = (number : ℕ) × ((kept : ℤ) × ((low : ℤ) × ((high : ℤ) × ((u ≡ unlawful.Deviation number kept low high) × IsDeviationOutside x.params h r dev kept low high))))

    abbrev Little : Item → Type 0
    Little item = (u : Unlawful) → Breaks x.params t item u → May item u

    all-little : (h : Cycles) → IsLawful x h → All Little (items_in (bare_history (told_of h)))
    unfolding items_in
    all-little [] lawful = All-nil Little
    all-little (c ∷ g) lawful =
        All-append Little (items_in (bare_history (told_of g))) (items_by (bare_history (told_of g)) (bare_record c.told) (map bare_row c.told.rows)) (all-little g lawful.1)
        (cycle-little sane g c lawful.0.told t named)

-- a node is named where it is arbitrary
pub named-is : (x : Setting) (h : Cycles) (sender : NodeSpec) → IsSane x.params → Contains x.params.nodes sender → is_named (trace_of_run x h) sender.id ≡ x.is_arbitrary sender.id
named-is x h sender sane there =
    any-node x.is_arbitrary x.params.nodes sender.id
    ∙ ap (λ (o : Option NodeSpec). x.is_arbitrary sender.id && is_some o) (node_there x.params sender sane there)
    ∙ by (x.is_arbitrary sender.id)
  where
    by : (b : Bool) → (b && true) ≡ b
    by true = refl
    by false = refl

pub runs-break-no-other : RunsBreakNoOther
runs-break-no-other x h u sane lawful b =
    let t = trace_of_run x h in
    let named : (sender : NodeSpec) → Contains x.params.nodes sender → is_named t sender.id ≡ x.is_arbitrary sender.id = λ sender there. named-is x h sender sane there in
    by b.item b.at (item-of (Little x sane t named) (items_in (bare_history (told_of h))) b.at.place b.item b.at.found (all-little x sane t named h lawful) u b.breaks)
  where
    by : (item : Item) → IsAt (trace_of_run x h) (record_of_breach u) item → May x sane (trace_of_run x h) (λ sender there. named-is x h sender sane there) item u → IsFirstRowApart x.params (trace_of_run x h) u ⊎ IsToldOutside u
    by (Clock g r row) at m =
        inl (record {
          number = m.0;
          double = m.1.0;
          told = m.1.1.0;
          h = g;
          r = r;
          row = row;
          at = subst (λ (n : ℕ). IsAt (trace_of_run x h) n (Clock g r row)) (ap record_of_breach m.1.1.0) at;
          apart = m.1.1.1;
        })
    by (Heard g r dev) at m = inr (record { number = m.0; kept = m.1.0; low = m.1.1.0; high = m.1.1.1.0; told = m.1.1.1.1.0 })
