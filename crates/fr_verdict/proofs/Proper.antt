-- Where delays and microticks are proper no deviation of a run lies outside of what both rows allow; and where no node joins, no
-- row is the first of a node.
use Rattle.std.proofs.Common.{◌≡◌, ◌≢◌, ◌⊎◌, inl, inr, ℕ, suc, ◌*◌, ◌<◌, ◌≤◌, ◌==◌, ℤ, pos, negsuc, ◌+ℤ◌, ◌-ℤ◌, ◌*ℤ◌, ◌≤ℤ◌, ◌<ℤ◌, Bool, true, false, not, List, [], ◌∷◌, ◌++◌, length, map, Option, Some, None, refl, ap, sym, ◌∙◌, subst, arith, append_assoc, length-append}
use Rattle.std.specs.Prelude.{All, Contains, is_some, neg_ℤ, option_and_then, if◌then◌else◌}
use Rattle.std.specs.Option.{option_map}
use Rattle.std.proofs.lemmas.Int.{ints}
use Rattle.std.proofs.lemmas.List.Elements.{All-append, All-contains_itself, All-map, All-nil, All-weaker}
use Rattle.fr_base.specs.declared.dev.Dev.{Dev}
use Rattle.fr_base.specs.declared.node_row.NodeRow.{NodeRow}
use Rattle.fr_bound.specs.Bounds.{arrival_error}
use Rattle.fr_cluster.proofs.Elements.{Contains-here, Contains-none, Contains-there, filtered, kept_filtered}
use Rattle.fr_cluster.proofs.KeyNodes.{Contains-cons_cases}
use Rattle.fr_cluster.specs.Questions.{has_channel, node_of}
use Rattle.fr_cluster.specs.Sane.{IsSane}
use Rattle.fr_cluster.specs.Setting.{Setting, correct_nodes, is_correct}
use Rattle.fr_cluster.specs.Values.{Values}
use Rattle.fr_cluster.specs.declared.nodes.NodeSpec.{NodeSpec}
use Rattle.fr_midpoint.proofs.Products.{addz-mulz, mulz-lez}
use Rattle.fr_precision.proofs.DeviationLaws.{counted_is_deviation}
use Rattle.fr_precision.proofs.OffsetLaws.{micro_lasts}
use Rattle.fr_precision.specs.Deviations.{counted_of}
use Rattle.fr_precision.specs.Instants.{gap_of}
use Rattle.fr_precision.specs.Offsets.{IsDeviation}
use Rattle.fr_reception.proofs.Early.{early}
use Rattle.fr_runs.proofs.Nodes.{key_slot_there, node_there}
use Rattle.fr_runs.specs.Links.{IsLinked, Share}
use Rattle.fr_time.proofs.Lines.{rest_of}
use Rattle.fr_time.proofs.Placing.{action_point_lt}
use Rattle.fr_time.specs.Cycles.{is_odd}
use Rattle.fr_time.specs.Instant.{action_instant, instant_of}
use Rattle.fr_time.specs.Position.{floor_of, grid_for}
use Rattle.fr_time.specs.Slots.{action_point_of, slot_end_of}
use Rattle.fr_history.proofs.Unfollowed.{all_have_rows}
use Rattle.fr_history.specs.Cycles.{Cycle, Cycles, some_joins, told_of}
use Rattle.fr_history.specs.History.{AreRowsOf, History, row_of}
use Rattle.fr_history.specs.Lawful.{IsLawful, ToldObeys}
use Rattle.fr_history.specs.Rows.{uncorrected}
use Rattle.fr_history.specs.Standing.{row_nodes}
use Rattle.fr_trace.specs.Bare.{bare_history, bare_record, bare_row}
use Rattle.fr_trace.specs.Items.{Item, items_by, items_in}
use Rattle.fr_trace.specs.Items.Item.{Clock, Heard}
use Rattle.fr_verdict.proofs.Stored.{IsSaidBy, IsSentBy}
use Rattle.fr_verdict.proofs.Tracing.{IsHeard, all-heard, bare_row-of, eq-is, eq-yes, item-of, items-all, no-row, of-sender, receiver-row, runs-break-no-other, some-same}
use Rattle.fr_verdict.specs.Breach.{Breaks, IsDeviationOutside, is_first_row}
use Rattle.fr_verdict.specs.Runs.{KeepsArrivals, IsFirstRowApart, IsToldOutside, ProperRunsAreLawful, ProperRunsBreakNoOther, trace_of_run}
use Rattle.fr_verdict.specs.declared.unlawful.Unlawful.{Unlawful}
use Rattle.fr_verdict.specs.declared.unlawful.Unlawful.TheVariants as unlawful

-- ---- numbers that are rounded down

after : (a b : ℤ) → a <ℤ b → (a +ℤ pos 1) ≤ℤ b
after a b lt = omega (arith, ints)

no-less : (t : ℤ) → pos 0 <ℤ t → pos 0 ≤ℤ t
no-less t lt = omega (arith, ints)

once : (t : ℤ) → pos 1 *ℤ t ≡ t
once (pos k) = ap pos (omega arith)
once (negsuc k) = let e : 1 * suc k ≡ suc k = omega arith in ap (λ (n : ℕ). neg_ℤ (pos n)) e

pub not-below : (n t value : ℤ) → pos 0 <ℤ t → (n -ℤ t) <ℤ (value *ℤ t) → value <ℤ floor_of n t → ⊥
not-below n t value some less below =
    let rest = rest_of n t some in
    let next : ((value +ℤ pos 1) *ℤ t) ≤ℤ (floor_of n t *ℤ t) = mulz-lez (value +ℤ pos 1) (floor_of n t) t (after value (floor_of n t) below) (no-less t some) in
    step n t (value *ℤ t) (floor_of n t *ℤ t) ((value +ℤ pos 1) *ℤ t) (pos 1 *ℤ t) less next (addz-mulz value (pos 1) t) (once t) rest.from
  where
    step : (n t v f next one_t : ℤ) → (n -ℤ t) <ℤ v → next ≤ℤ f → next ≡ v +ℤ one_t → one_t ≡ t → pos 0 ≤ℤ (n -ℤ f) → ⊥
    step n t v f next one_t a b c d e = omega (arith, ints)

pub not-above : (n t value : ℤ) → pos 0 <ℤ t → (value *ℤ t) ≤ℤ n → floor_of n t <ℤ value → ⊥
not-above n t value some most above =
    let rest = rest_of n t some in
    let next : ((floor_of n t +ℤ pos 1) *ℤ t) ≤ℤ (value *ℤ t) = mulz-lez (floor_of n t +ℤ pos 1) value t (after (floor_of n t) value above) (no-less t some) in
    step n t (value *ℤ t) (floor_of n t *ℤ t) ((floor_of n t +ℤ pos 1) *ℤ t) (pos 1 *ℤ t) most next (addz-mulz (floor_of n t) (pos 1) t) (once t) rest.to
  where
    step : (n t v f next one_t : ℤ) → v ≤ℤ n → next ≤ℤ v → next ≡ f +ℤ one_t → one_t ≡ t → ((n -ℤ f) +ℤ pos 1) ≤ℤ t → ⊥
    step n t v f next one_t a b c d e = omega (arith, ints)

-- ---- the nodes of rows

-- the node of a row
pub record HasNode (nodes : List NodeSpec) (row : NodeRow) : Type 0 where
  pub node : NodeSpec
  pub there : Contains nodes node
  pub same : row.node ≡ node.id

pub node-of-row : (nodes : List NodeSpec) (rows : List NodeRow) (row : NodeRow) → AreRowsOf nodes rows → Contains rows row → HasNode nodes row
node-of-row nodes [] row are there = absurd (Contains-none row there)
node-of-row [] (r ∷ rows) row are there = absurd (cc are)
node-of-row (n ∷ nodes) (r ∷ rows) row are there =
    let head : r.node ≡ n.id = cc are in
    let tail : AreRowsOf nodes rows = cc are in
    by head (Contains-cons_cases r rows row there) (node-of-row nodes rows row tail)
  where
    by : r.node ≡ n.id → (r ≡ row) ⊎ Contains rows row → (Contains rows row → HasNode nodes row) → HasNode (n ∷ nodes) row
    by head (inl same) rest = record { node = n; there = Contains-here n nodes; same = ap (λ (q : NodeRow). q.node) (sym same) ∙ head }
    by head (inr later) rest = let w = rest later in record { node = w.node; there = Contains-there n nodes w.node w.there; same = w.same }

-- and the row of a node
row-there : (nodes : List NodeSpec) (rows : List NodeRow) (node : NodeSpec) → AreRowsOf nodes rows → Contains nodes node → is_some (row_of rows node.id) ≡ true
row-there [] rows node are there = absurd (Contains-none node there)
row-there (n ∷ nodes) [] node are there = absurd (cc are)
row-there (n ∷ nodes) (r ∷ rows) node are there =
    let head : r.node ≡ n.id = cc are in
    let tail : AreRowsOf nodes rows = cc are in
    by (r.node == node.id) refl head (Contains-cons_cases n nodes node there) (row-there nodes rows node tail)
  where
    by : (b : Bool) → (r.node == node.id) ≡ b → r.node ≡ n.id → (n ≡ node) ⊎ Contains nodes node → (Contains nodes node → is_some (row_of rows node.id) ≡ true)
        → is_some (if r.node == node.id then Some r else row_of rows node.id) ≡ true
    by true e head c rest = ap (λ (b : Bool). is_some (if b then Some r else row_of rows node.id)) e
    by false e head (inl same) rest = absurd (let yes : (r.node == node.id) ≡ true = eq-yes r.node node.id (head ∙ ap (λ (m : NodeSpec). m.id) same) in cc (yes, e))
    by false e head (inr later) rest = ap (λ (b : Bool). is_some (if b then Some r else row_of rows node.id)) e ∙ rest later

row-node : (rows : List NodeRow) (node : ℕ) (row : NodeRow) → row_of rows node ≡ Some row → row.node ≡ node
row-node [] node row e = absurd (cc e)
row-node (r ∷ rows) node row e = by (r.node == node) refl e (row-node rows node row)
  where
    by : (b : Bool) → (r.node == node) ≡ b → (if b then Some r else row_of rows node) ≡ Some row → (row_of rows node ≡ Some row → row.node ≡ node) → row.node ≡ node
    by true is f rest = let same : r ≡ row = some-same r row f in ap (λ (q : NodeRow). q.node) (sym same) ∙ eq-is r.node node is
    by false is f rest = rest f

-- ---- law 6

module _ (x : Setting) (sane : IsSane x.params) (whole : Cycles) (proper : KeepsArrivals x whole) where
  module _ (later g : Cycles) (c : Cycle) (parted : whole ≡ later ++ c ∷ g) (obeys : ToldObeys x g c) where
    -- a correct node of the cluster
    correct-of : (node : NodeSpec) → Contains (row_nodes x g) node → Contains (correct_nodes x) node
    correct-of node there = (filtered _ (correct_nodes x) node there).0

    shorter : length g < length whole
    shorter =
        let a = ap (λ (l : Cycles). length l) parted in
        let b = length-append later (c ∷ g) in
        omega (arith, a, b)

    is-deviation : (dev : Dev) (heard : IsHeard x sane g c obeys dev) (is : IsSentBy x (length g) (map uncorrected c.told.rows) (uncorrected heard.row) heard.sent.key.sender dev) (from : NodeRow)
        → row_of c.told.rows heard.sent.key.sender.id ≡ Some from → uncorrected from ≡ is.from → (odd : Bool)
        → IsDeviation x.params odd (pos (action_point_of x.params dev.slot)) heard.row from dev.value
    is-deviation dev heard is from there same odd =
        let p : Values = x.params in
        let sender : NodeSpec = heard.sent.key.sender in
        let hears = node-of-row (row_nodes x g) c.told.rows heard.row obeys.clocks.nodes heard.among in
        let key = key_slot_there p sender dev.slot sane heard.sent.key.there heard.sent.key.own in
        let other : sender.id ≢ hears.node.id = λ e. heard.sent.other (e ∙ sym hears.same) in
        let correct_sender : Contains (correct_nodes x) sender = kept_filtered (λ (n : NodeSpec). is_correct x n.id) p.nodes sender heard.sent.key.there (ap not is.correct) in
        let linked : IsLinked x sender hears.node dev.slot = record { sends = correct_sender; hears = correct-of hears.node hears.there; key = heard.sent.key.own; other = other } in
        let receiver_there : Contains p.nodes hears.node = (filtered (λ (n : NodeSpec). is_correct x n.id) p.nodes hears.node (correct-of hears.node hears.there)).0 in
        let share : Share sender hears.node dev.channel = record {
          by_sender = sym (ap (λ (o : Option NodeSpec). has_channel o dev.channel) (node_there p sender sane heard.sent.key.there)) ∙ is.on;
          by_receiver =
              sym (ap (λ (o : Option NodeSpec). has_channel o dev.channel) (node_there p hears.node sane receiver_there))
              ∙ ap (λ (n : ℕ). has_channel (node_of p n) dev.channel) (sym hears.same)
              ∙ heard.sent.on;
        }
        in
        let delay : ℤ = x.delay sender.id hears.node.id dev.channel (length g) in
        let action : ℕ = action_point_of p dev.slot in
        let within : action ≤ slot_end_of p dev.slot = let lt = action_point_lt p dev.slot sane key.from in omega (arith, lt) in
        let at : action_instant p (uncorrected from) dev.slot ≡ instant_of (grid_for p) from odd (pos action) = sym (early p from odd dev.slot action sane key.to within) in
        let from_node : is.from.node ≡ sender.id = ap (λ (q : NodeRow). q.node) (sym same) ∙ row-node c.told.rows sender.id from there in
        let counted : dev.value ≡ counted_of p heard.row dev.slot dev.channel (instant_of (grid_for p) from odd (pos action) +ℤ delay) =
        is.measured
        ∙ ap (λ (q : NodeRow). counted_of p heard.row dev.slot dev.channel (action_instant p q dev.slot +ℤ x.delay is.from.node heard.row.node dev.channel (length g))) (sym same)
        ∙ ap (λ (n : ℕ). counted_of p heard.row dev.slot dev.channel (action_instant p (uncorrected from) dev.slot +ℤ x.delay n heard.row.node dev.channel (length g))) from_node
        ∙ ap (λ (n : ℕ). counted_of p heard.row dev.slot dev.channel (action_instant p (uncorrected from) dev.slot +ℤ x.delay sender.id n dev.channel (length g))) hears.same
        ∙ ap (λ (z : ℤ). counted_of p heard.row dev.slot dev.channel (z +ℤ delay)) at
        in
        subst (λ (v : ℤ). IsDeviation p odd (pos action) heard.row from v) (sym counted)
        (counted_is_deviation p delay dev.slot dev.channel odd heard.row from sane key.to key.from (proper.micros later g c heard.row parted heard.among)
        (proper.delays (length g) dev.slot sender hears.node dev.channel shorter linked share))

    -- so none lies outside
    inside : (dev : Dev) → IsHeard x sane g c obeys dev → (kept low high : ℤ) → IsDeviationOutside x.params (bare_history (told_of g)) (bare_record c.told) dev kept low high → ⊥
    inside dev heard kept low high b = by heard.sent.by
      where
        Rows : List NodeRow
        Rows = map bare_row c.told.rows

        sends : row_of (map bare_row c.told.rows) heard.sent.key.sender.id ≡ Some b.sender
        sends = sym (ap (option_and_then (λ node. row_of (map bare_row c.told.rows) node.id)) heard.sent.key.found) ∙ b.sends

        hears : bare_row heard.row ≡ b.receiver
        hears = some-same (bare_row heard.row) b.receiver (sym (receiver-row x sane g c obeys dev heard) ∙ b.hears)

        Odd : Bool
        Odd = is_odd (length (bare_history (told_of g)))

        nowhere : (sender receiver : NodeRow) → pos 0 <ℤ receiver.length → IsDeviation x.params (is_odd (length (bare_history (told_of g)))) (pos (action_point_of x.params dev.slot)) receiver sender dev.value
            → low ≡ floor_of (gap_of x.params (is_odd (length (bare_history (told_of g)))) (pos (action_point_of x.params dev.slot)) sender receiver -ℤ pos (arrival_error x.params)) receiver.length
            → high ≡ floor_of (gap_of x.params (is_odd (length (bare_history (told_of g)))) (pos (action_point_of x.params dev.slot)) sender receiver +ℤ pos (arrival_error x.params)) receiver.length
            → ((kept <ℤ low) ⊎ (high <ℤ kept)) → ⊥
        nowhere sender receiver some is is_low is_high (inl below) =
            not-below (gap_of x.params (is_odd (length (bare_history (told_of g)))) (pos (action_point_of x.params dev.slot)) sender receiver -ℤ pos (arrival_error x.params)) receiver.length dev.value some
            (regroup (gap_of x.params (is_odd (length (bare_history (told_of g)))) (pos (action_point_of x.params dev.slot)) sender receiver) (pos (arrival_error x.params)) receiver.length (dev.value *ℤ receiver.length) is.low)
            (subst (λ (v : ℤ). v <ℤ floor_of (gap_of x.params (is_odd (length (bare_history (told_of g)))) (pos (action_point_of x.params dev.slot)) sender receiver -ℤ pos (arrival_error x.params)) receiver.length) b.is_kept
            (subst (λ (v : ℤ). kept <ℤ v) is_low below))
          where
            regroup : (gap e t v : ℤ) → (gap -ℤ (e +ℤ t)) <ℤ v → ((gap -ℤ e) -ℤ t) <ℤ v
            regroup gap e t v lt = omega (arith, ints)
        nowhere sender receiver some is is_low is_high (inr above) =
            not-above (gap_of x.params (is_odd (length (bare_history (told_of g)))) (pos (action_point_of x.params dev.slot)) sender receiver +ℤ pos (arrival_error x.params)) receiver.length dev.value some is.high
            (subst (λ (v : ℤ). floor_of (gap_of x.params (is_odd (length (bare_history (told_of g)))) (pos (action_point_of x.params dev.slot)) sender receiver +ℤ pos (arrival_error x.params)) receiver.length <ℤ v) b.is_kept
            (subst (λ (v : ℤ). v <ℤ kept) is_high above))

        by : IsSaidBy x (length g) (uncorrected heard.row) heard.sent.key.sender dev ⊎ IsSentBy x (length g) (map uncorrected c.told.rows) (uncorrected heard.row) heard.sent.key.sender dev → ⊥
        by (inl said) =
            let none = bare_row-of c.told.rows heard.sent.key.sender.id ∙ ap (option_map bare_row) (no-row x sane g c obeys heard.sent.key.sender.id said.arbitrary) in
            let no = sym sends ∙ none in
            cc no
        by (inr is) =
            let own = of-sender x sane g c obeys dev heard.sent.key.sender (uncorrected heard.row) is in
            let from : bare_row own.row ≡ b.sender = some-same (bare_row own.row) b.sender (sym (bare_row-of c.told.rows heard.sent.key.sender.id ∙ ap (option_map bare_row) own.is) ∙ sends) in
            let odd : Bool = is_odd (length (bare_history (told_of g))) in
            let deviation = is-deviation dev heard is own.row own.is own.same odd in
            let micro = proper.micros later g c heard.row parted heard.among in
            let action : ℤ = pos (action_point_of x.params dev.slot) in
            let lows : low ≡ floor_of (gap_of x.params odd action own.row heard.row -ℤ pos (arrival_error x.params)) heard.row.length =
            b.is_low ∙ sym (λ i. floor_of (gap_of x.params odd action (from i) (hears i) -ℤ pos (arrival_error x.params)) (hears i).length)
            in
            let highs : high ≡ floor_of (gap_of x.params odd action own.row heard.row +ℤ pos (arrival_error x.params)) heard.row.length =
            b.is_high ∙ sym (λ i. floor_of (gap_of x.params odd action (from i) (hears i) +ℤ pos (arrival_error x.params)) (hears i).length)
            in
            nowhere own.row heard.row (micro_lasts x.params heard.row sane micro).some deviation lows highs b.outside

  abbrev IsInside : Item → Type 0
  IsInside (Clock h r row) = Unit {0}
  IsInside (Heard h r dev) = (kept low high : ℤ) → IsDeviationOutside x.params h r dev kept low high → ⊥

  all-inside : (later h : Cycles) → whole ≡ later ++ h → IsLawful x h → All IsInside (items_in (bare_history (told_of h)))
  unfolding items_in
  all-inside later [] parted lawful = All-nil IsInside
  all-inside later (c ∷ g) parted lawful =
      let H : History = bare_history (told_of g) in
      All-append IsInside (items_in H) (items_by H (bare_record c.told) (map bare_row c.told.rows))
      (all-inside (later ++ c ∷ []) g (parted ∙ sym (append_assoc later (c ∷ []) g)) lawful.1)
      (items-all IsInside H (bare_record c.told) (map bare_row c.told.rows) (λ k d lt. tt)
      (All-weaker (IsHeard x sane g c lawful.0.told) (λ dev. IsInside (Heard H (bare_record c.told) dev)) (inside later g c parted lawful.0.told) c.told.devs (all-heard x sane g c lawful.0.told)))

pub proper-runs-break-no-other : ProperRunsBreakNoOther
proper-runs-break-no-other x h u sane lawful proper b = by (runs-break-no-other x h u sane lawful b)
  where
    there : IsInside x sane h proper b.item
    there = item-of (IsInside x sane h proper) (items_in (bare_history (told_of h))) b.at.place b.item b.at.found (all-inside x sane h proper [] h refl lawful)

    outside : (number : ℕ) (kept low high : ℤ) (item : Item) → IsInside x sane h proper item → Breaks x.params (trace_of_run x h) item (unlawful.Deviation number kept low high) → ⊥
    outside number kept low high (Clock g r row) is breaks = breaks
    outside number kept low high (Heard g r dev) is breaks = is kept low high breaks

    by : IsFirstRowApart x.params (trace_of_run x h) u ⊎ IsToldOutside u → IsFirstRowApart x.params (trace_of_run x h) u
    by (inl apart) = apart
    by (inr out) = absurd (outside out.number out.kept out.low out.high b.item there (subst (λ (v : Unlawful). Breaks x.params (trace_of_run x h) b.item v) out.told b.breaks))

-- ---- where no node joins, no row is the first of a node

module _ (x : Setting) (none : some_joins x ≡ false) where
  abbrev IsLater : Item → Type 0
  IsLater (Clock h r row) = is_first_row h row ≡ false
  IsLater (Heard h r dev) = Unit {0}

  rows-later : (g : Cycles) (c : Cycle) → ToldObeys x g c → IsLawful x g → All (λ row. is_first_row (bare_history (told_of g)) (bare_row row) ≡ false) c.told.rows
  rows-later [] c obeys lawful = λ k d lt. refl
  rows-later (e ∷ g) c obeys lawful =
      All-weaker (Contains c.told.rows) (λ row. is_first_row (bare_history (told_of (e ∷ g))) (bare_row row) ≡ false)
      (λ row among.
      let own = node-of-row (row_nodes x (e ∷ g)) c.told.rows row obeys.clocks.nodes among in
      let correct : Contains (correct_nodes x) own.node = (filtered _ (correct_nodes x) own.node own.there).0 in
      let all : AreRowsOf (correct_nodes x) e.told.rows = subst (λ (nodes : List NodeSpec). AreRowsOf nodes e.told.rows) (all_have_rows x g (correct_nodes x) none) lawful.0.told.clocks.nodes in
      let there : is_some (row_of e.told.rows row.node) ≡ true = ap (λ (n : ℕ). is_some (row_of e.told.rows n)) own.same ∙ row-there (correct_nodes x) e.told.rows own.node all correct in
      ap (λ (o : Option NodeRow). not (is_some o)) (bare_row-of e.told.rows row.node) ∙ some-bare (row_of e.told.rows row.node) there) c.told.rows (All-contains_itself c.told.rows)
    where
      some-bare : (o : Option NodeRow) → is_some o ≡ true → not (is_some (option_map bare_row o)) ≡ false
      some-bare None f = absurd (cc f)
      some-bare (Some row) f = refl

  all-later : (h : Cycles) → IsLawful x h → All IsLater (items_in (bare_history (told_of h)))
  unfolding items_in
  all-later [] lawful = All-nil IsLater
  all-later (c ∷ g) lawful =
      let H : History = bare_history (told_of g) in
      All-append IsLater (items_in H) (items_by H (bare_record c.told) (map bare_row c.told.rows)) (all-later g lawful.1)
      (items-all IsLater H (bare_record c.told) (map bare_row c.told.rows)
      (All-map (λ row. IsLater (Clock H (bare_record c.told) row)) bare_row c.told.rows (rows-later g c lawful.0.told lawful.1)) (λ k d lt. tt))

pub proper-runs-are-lawful : ProperRunsAreLawful
proper-runs-are-lawful x h sane lawful proper none u b =
    let apart = proper-runs-break-no-other x h u sane lawful proper b in
    let later : is_first_row apart.h apart.row ≡ false = item-of (IsLater x none) (items_in (bare_history (told_of h))) apart.at.place (Clock apart.h apart.r apart.row) apart.at.found (all-later x none h lawful) in
    let no = sym apart.apart.first_row ∙ later in
    cc no
