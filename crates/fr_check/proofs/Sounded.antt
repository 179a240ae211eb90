-- Each record of a trace that fits its cluster is sound.
use Rattle.std.proofs.Common.{◌≡◌, ℕ, suc, ◌+◌, ◌*◌, ◌<◌, ◌≤◌, List, [], ◌∷◌, ◌++◌, length, map, take, get_or, All, Option, Some, ap, sym, ◌∙◌, subst, inl, inr, arith}
use Rattle.std.specs.Prelude.{AllPairs, Contains, IfSome, filter, slice_index_or}
use Rattle.std.proofs.lemmas.List.{get_or-take, get_or_default, length-take}
use Rattle.std.proofs.lemmas.List.Elements.{All-contains, All-filter, All-map}
use Rattle.fr_base.specs.Rows.{AreAscendingDevs, AreAscendingRows, IsEarlierDev, channel_rank}
use Rattle.fr_base.specs.declared.channel.Channel.{Channel}
use Rattle.fr_base.specs.declared.channel.Channel.TheVariants as channel
use Rattle.fr_base.specs.declared.dev.Dev.{Dev}
use Rattle.fr_base.specs.declared.node_row.NodeRow.{NodeRow}
use Rattle.fr_cluster.specs.Sane.{IsSane, IsSaneNode}
use Rattle.fr_cluster.specs.Values.{Values, amount}
use Rattle.fr_cluster.specs.declared.names.ParamName.TheVariants as name
use Rattle.fr_cluster.specs.declared.nodes.NodeSpec.{NodeSpec}
use Rattle.fr_cluster.proofs.KeyNodes.{AllPairs-rest, key_among}
use Rattle.fr_time.proofs.Keys.{key_node_has, key_slot_within}
use Rattle.fr_history.specs.History.{History, Record}
use Rattle.fr_time.specs.Instant.{KeepsLimits}
use Rattle.fr_time.specs.Placed.{IsPlacedRow}
use Rattle.fr_time.specs.Position.{CanPlace}
use Rattle.fr_time.specs.declared.grid.Grid.{Grid}
use Rattle.fr_trace.specs.Cycles.{history_by}
use Rattle.fr_trace.specs.Fits.{FitsRecord, HistoryFits, IsAboutOther, TraceFits}
use Rattle.fr_trace.specs.Lasting.{IsTrace, IsTracedRecord}
use Rattle.fr_trace.specs.Trace.{TraceView, has_row_in}
use Rattle.fr_trace.specs.declared.trace.TracedCycle.{TracedCycle}
use Rattle.fr_verdict.specs.Sound.{AreSound, IsSound}
use Rattle.fr_verdict.proofs.Parts.{history_length}
use Rattle.fr_verdict.proofs.Parts.{all_cons, all_rest, take_one_more}
use Rattle.fr_verdict.proofs.Records.{kept_each}

-- ---- how many deviations a record has

-- a number for the place of a deviation, which ascends with them
place_of : Dev → ℕ
place_of dev = 2048 * dev.receiver + (2 * dev.slot + channel_rank dev.channel)

rank_below : (c : Channel) → channel_rank c < 2
rank_below channel.A = omega arith
rank_below channel.B = omega arith

place_below : (a b : Dev) → a.slot ≤ 1_023 → IsEarlierDev a b → place_of a < place_of b
unfolding place_of
place_below a b few earlier =
    let low = rank_below a.channel in
    elim earlier [
      | inl before ↦ omega arith
      | inr (same, rest) ↦ elim rest [
        | inl lower ↦ omega arith
        | inr (level, first) ↦ omega arith
      ]
    ]

places_few : (low high : ℕ) (devs : List Dev) → AreAscendingDevs devs → All (λ dev. dev.slot ≤ 1_023) devs → All (λ dev. (low ≤ place_of dev) × (place_of dev < high)) devs → low ≤ high → low + length devs ≤ high
places_few low high [] ascend slots within le = omega arith
places_few low high (dev ∷ devs) ascend slots within le =
    let here : (low ≤ place_of dev) × (place_of dev < high) = within 0 dev (omega arith) in
    let from : low ≤ place_of dev = here.0 in
    let to : place_of dev < high = here.1 in
    let own : dev.slot ≤ 1_023 = slots 0 dev (omega arith) in
    let rest : suc (place_of dev) + length devs ≤ high =
    places_few (suc (place_of dev)) high devs (AllPairs-rest IsEarlierDev dev devs ascend) (all_rest (λ d. d.slot ≤ 1_023) dev devs slots)
    (λ k d lt. (place_below dev (slice_index_or devs k d) own (ascend 0 (suc k) d (omega arith) (omega arith)), (within (suc k) d (omega arith)).1)) to in
    omega arith

place_high : (dev : Dev) → dev.receiver ≤ 64 → dev.slot ≤ 1_023 → place_of dev < 140_000
unfolding place_of
place_high dev node slot = let low = rank_below dev.channel in omega arith

-- the slot of a deviation is a key slot
keyed : (p : Values) (dev : Dev) → IsSane p → IsAboutOther p dev → (dev.slot ≤ 1_023) × (dev.slot ≤ amount p name.gNumberOfStaticSlots)
keyed p dev sane about =
    let has : Contains p.nodes about.sender × (about.sender.key ≡ Some dev.slot) = key_node_has p about.sender dev.slot about.key in
    let node : IsSaneNode about.sender = All-contains IsSaneNode p.nodes about.sender sane.lists.nodes_sane has.0 in
    let own : (1 ≤ dev.slot) × (dev.slot ≤ 1_023) = subst (λ (o : Option ℕ). IfSome o (λ slot. (1 ≤ slot) × (slot ≤ 1023))) has.1 node.proper.key in
    (own.1, (key_slot_within p dev.slot sane (key_among p.nodes about.sender dev.slot has.0 has.1)).1)

-- its receiver is one of the nodes
nodes_few : (p : Values) (t : TraceView) (h : History) (r : Record) → IsSane p → FitsRecord p t h r → All (λ node. node ≤ 64) (map (λ row. row.node) r.rows)
nodes_few p t h r sane fits =
    subst (All (λ (node : ℕ). node ≤ 64)) (sym fits.nodes)
    (All-map (λ (id : ℕ). id ≤ 64) (λ (node : NodeSpec). node.id) (filter (λ node. has_row_in t h r node.id) p.nodes)
    (All-filter (λ (node : NodeSpec). has_row_in t h r node.id) (λ (node : NodeSpec). node.id ≤ 64) p.nodes (λ k d lt. (sane.lists.nodes_sane k d lt).proper.to)))

devs_few : (p : Values) (t : TraceView) (h : History) (r : Record) → IsSane p → IsTracedRecord r → FitsRecord p t h r → length r.devs ≤ 140_000
devs_few p t h r sane traced fits =
    let nodes = nodes_few p t h r sane fits in
    let slots : All (λ dev. dev.slot ≤ 1_023) r.devs = λ k d lt. (keyed p (slice_index_or r.devs k d) sane (fits.devs k d lt)).0 in
    let few : 0 + length r.devs ≤ 140_000 =
    places_few 0 140_000 r.devs traced.devs_ascend slots
    (λ k d lt. (omega arith, place_high (slice_index_or r.devs k d) (All-contains (λ (node : ℕ). node ≤ 64) (map (λ row. row.node) r.rows) (slice_index_or r.devs k d).receiver nodes (traced.devs_heard k d lt)) (slots k d lt)))
    (omega arith) in
    omega arith

-- ---- records and cycles

sound_record : (p : Values) (t : TraceView) (h : History) (r : Record) → IsSane p → IsTracedRecord r → FitsRecord p t h r → IsSound p r
sound_record p t h r sane traced fits = record {
  few = traced.few;
  ascend = traced.rows_ascend;
  rows = λ k d lt. record { timed = (traced.rows_proper k d lt).0; rate = fits.rates k d lt; offset = fits.offsets k d lt };
  devs = record {
    ascend = traced.devs_ascend;
    each = λ k d lt. record { within = traced.devs_proper k d lt; static_slot = (keyed p (slice_index_or r.devs k d) sane (fits.devs k d lt)).1 };
  };
  few_devs = devs_few p t h r sane traced fits;
}

sound_history : (p : Values) (t : TraceView) (h : History) → IsSane p → All IsTracedRecord h → HistoryFits p t h → All (IsSound p) h
unfolding HistoryFits
sound_history p t [] sane traced fits = λ k d lt. absurd (omega arith)
sound_history p t (r ∷ h) sane traced fits =
    all_cons (IsSound p) r h (sound_record p t h r sane (traced 0 r (omega arith)) fits.0) (sound_history p t h sane (all_rest IsTracedRecord r h traced) fits.1)

pub sound_each : (p : Values) (t : TraceView) (cycles : List TracedCycle) → IsSane p → IsTrace t → TraceFits p t → history_by cycles ≡ t.history → AreSound p cycles
sound_each p t cycles sane trace fits same =
    kept_each (IsSound p) cycles (subst (All (IsSound p)) (sym same) (sound_history p t t.history sane trace.records fits.records))

pub cycles_few : (t : TraceView) (cycles : List TracedCycle) → IsTrace t → history_by cycles ≡ t.history → length cycles ≤ 200_000
cycles_few t cycles trace same =
    let long = history_length cycles in
    let whole = trace.whole in
    let most = trace.doubles_to in
    let lengths : length (history_by cycles) ≡ length t.history = ap length same in
    omega arith

-- ---- rows one after the other

-- the element at a place of a list that is another's
pub item_of : {X : Type 0} (xs ys : List X) (i : ℕ) (x : X) → ys ≡ xs → x ≡ get_or ys i x → get_or xs i x ≡ x
item_of xs ys i x same is = sym (subst (λ zs. x ≡ get_or zs i x) same is)

below : {X : Type 0} (R : X → X → Type 0) (xs : List X) (i : ℕ) (x : X) → AllPairs R xs → i < length xs → x ≡ get_or xs i x → All (λ y. R y x) (take i xs)
below {X = X} R xs i x pairs lt at k d short =
    let few = length-take i xs in
    let before : k < i = omega arith in
    let P : X → Type 0 = R (get_or (take i xs) k d) in
    subst P (get_or_default xs i d x lt ∙ sym at)
    (let Q : X → Type 0 = λ y. R y (get_or xs i d) in subst Q (sym (get_or-take i xs k d before)) (pairs k i d before lt))

pub room_for : (rows list : List NodeRow) (i : ℕ) → list ≡ take i rows → i < length rows → length rows ≤ 64 → length list < 64
room_for rows list i same lt few =
    let short = length-take i rows in
    let long : length list ≡ length (take i rows) = ap (λ (xs : List NodeRow). length xs) same in
    omega arith

pub above_all : (rows list : List NodeRow) (i : ℕ) (row : NodeRow) → AreAscendingRows rows → list ≡ take i rows → i < length rows → row ≡ get_or rows i row → All (λ earlier. earlier.node < row.node) list
above_all rows list i row ascend same lt at = subst (All (λ (earlier : NodeRow). earlier.node < row.node)) (sym same) (below (λ a b. a.node < b.node) rows i row ascend lt at)

pub one_more : (rows list more : List NodeRow) (i : ℕ) (row : NodeRow) → list ≡ take i rows → more ≡ list ++ row ∷ [] → i < length rows → row ≡ get_or rows i row → more ≡ take (i + 1) rows
one_more rows list more i row same pushed lt at = pushed ∙ ap (λ (xs : List NodeRow). xs ++ row ∷ []) same ∙ sym (take_one_more rows i row lt at)

-- all rows of a sound record can be placed
pub placed_all : (p : Values) (grid : Grid) (rows : List NodeRow) → CanPlace p grid → All (KeepsLimits p) rows → All (IsPlacedRow grid) rows
placed_all p grid rows can keep = λ k d lt. record {
  placeable = can.terms (slice_index_or rows k d).rate (slice_index_or rows k d).offset (keep k d lt).rate (keep k d lt).offset;
  timed = (keep k d lt).timed;
}
