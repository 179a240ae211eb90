-- A run that a node leads is in sharp sync from its first double cycle on, where its files are sharply covered to join, and all others
-- join it so.
use Rattle.std.proofs.Common.{◌≡◌, ◌⊎◌, ℕ, zero, suc, ◌+◌, ◌*◌, ◌-◌, ◌<◌, ◌≤◌, ◌==◌, Bool, true, false, ◌&&◌, ◌||◌, ℤ, pos, Option, Some, None, List, [], ◌∷◌, All, length, map, refl, ap, sym, ◌∙◌, subst, inl, inr, arith, filter, if◌then◌else◌}
use Rattle.std.specs.Prelude.{◌+ℤ◌, ◌-ℤ◌, ◌*ℤ◌, ◌≤ℤ◌, AllPairs, Contains, IsSome, count_by, is_none, is_some}
use Rattle.std.specs.List.{list_any}
use Rattle.std.proofs.lemmas.Bool.{and_parts, cases_eq}
use Rattle.std.proofs.lemmas.Int.{ints}
use Rattle.std.proofs.lemmas.List.Elements.{All-contains, All-contains_itself, All-map}
use Rattle.fr_base.specs.Within.{IsBetween, LieWithin}
use Rattle.fr_base.specs.declared.node_row.NodeRow.{NodeRow}
use Rattle.fr_base.specs.declared.state.State.TheVariants.{Active}
use Rattle.fr_bound.specs.Bounds.{longest_micro, shortest_micro}
use Rattle.fr_bound.specs.SharpBounds.{sharp_lambda, sharp_pi}
use Rattle.fr_bound.specs.SharpChecks.{sharp_holds_of}
use Rattle.fr_bound.specs.Sync.{cycle_length_of}
use Rattle.fr_cluster.specs.Sane.{IsSane}
use Rattle.fr_cluster.specs.Setting.{Setting, correct_nodes, is_correct}
use Rattle.fr_cluster.specs.Values.{Values}
use Rattle.fr_cluster.specs.declared.join.Join.{Join}
use Rattle.fr_cluster.specs.declared.names.ParamName.TheVariants as name
use Rattle.fr_cluster.specs.declared.nodes.NodeSpec.{NodeSpec}
use Rattle.fr_cluster.proofs.Elements.{Contains-here, Contains-there}
use Rattle.fr_cluster.proofs.KeyNodes.{AllPairs-first, AllPairs-rest}
use Rattle.fr_cold.specs.Cluster.{macroticks_of_cycle}
use Rattle.fr_cold.specs.Files.{PowerFits}
use Rattle.fr_cold.specs.Questions.{IsNeverOff, switches_of}
use Rattle.fr_cold.specs.StartupLaws.{StaysOn, SwitchesStarters, TheFirstLeads}
use Rattle.fr_cold.specs.View.{PowerView}
use Rattle.fr_coverage.specs.Decided.{setting_of}
use Rattle.fr_coverage.specs.Links.{is_sync}
use Rattle.fr_drift.specs.Files.{DriftFits}
use Rattle.fr_drift.specs.Questions.{doubles_of, start_of}
use Rattle.fr_drift.specs.View.{DriftView}
use Rattle.fr_history.specs.Catching.{begins_with}
use Rattle.fr_history.specs.Cycles.{Cycle, Cycles, cycle_at, told_of}
use Rattle.fr_history.specs.History.{row_for, row_of}
use Rattle.fr_history.specs.Laws.{row_laws}
use Rattle.fr_history.specs.Rows.{offset_after}
use Rattle.fr_history.specs.Standing.{following_nodes, follows, follows_by, has_row_by, row_nodes}
use Rattle.fr_history.specs.Terms.{status_in}
use Rattle.fr_midpoint.specs.Receivers.{AreFew}
use Rattle.fr_midpoint.proofs.Products.{mulz-lez_left}
use Rattle.fr_precision.specs.Round.{sync_count}
use Rattle.fr_precision.specs.Rows.{longest_cycle, shortest_cycle}
use Rattle.fr_precision.proofs.Counting.{count_no, count_yes}
use Rattle.fr_precision.proofs.Figures.{longest_is, shortest_is}
use Rattle.fr_precision.proofs.Senders.{All-along}
use Rattle.fr_promise.specs.Statement.{IsRunOf}
use Rattle.fr_runs.specs.Gathered.{CycleRuns}
use Rattle.fr_runs.specs.Rounds.{IsDoubleOf}
use Rattle.fr_runs.specs.Supplied.{stays_on}
use Rattle.fr_runs.proofs.Doubles.{even_length, status_even}
use Rattle.fr_runs.proofs.Going.{rows_ascend}
use Rattle.fr_runs.proofs.Lawful.{lawful_cycles_run}
use Rattle.fr_runs.proofs.Outcomes.{begun_active}
use Rattle.fr_runs.proofs.Receivers.{is_correct_node}
use Rattle.fr_time.specs.Cycles.{odd_cycle}
use Rattle.fr_runs.proofs.Parts.{cycle_within, double_at, each_cycle, even_is, odd_is}
use Rattle.fr_precision.proofs.RoundLemmas.{contains_map}
use Rattle.fr_runs.proofs.Rows.{all_rows, has_row, row_runs_by}
use Rattle.fr_runs.proofs.Standing.{told_has}
use Rattle.fr_runs.proofs.Whole.{double_runs, no_outcomes}
use Rattle.fr_script.specs.Files.{ScriptFits}
use Rattle.fr_script.specs.View.{ScriptView, is_arbitrary, join_of}
use Rattle.fr_sharp.specs.JoinedFiles.{CoveredFilesKeepSharplyJoined, IsSharplyCoveredToJoin, KeepsSharplyJoined}
use Rattle.fr_precision.specs.Lengths.{IsAboutCycle}
use Rattle.fr_runs.specs.SharpHistories.{IsInSharpSyncAt}
use Rattle.fr_promise.specs.SharpJoining.{sharp_reach}
use Rattle.fr_sharp.specs.SharpStatement.{has_arbitrary}
use Rattle.fr_promise.specs.SharpTested.{IsUnfollowedSharpSyncAt}
use Rattle.fr_runs.specs.SteadyRuns.{IsSteadyPart, IsSteadySetting}
use Rattle.fr_sharp.proofs.FromFiles.{files_are_steady}
use Rattle.fr_promise.proofs.JoinBounds.{sharp_join_checks_suffice_lem}
use Rattle.fr_runs.proofs.RowsSupplied.{lawful_rows}
use Rattle.fr_whole.specs.PowerOn.{joined_ticks, leads_ticks, longest_time, synced_ticks, takes_part_from, IsInSyncFromPowerOn, IsLedRun, JoinsLeader, PowerOnIsInSync}
use Rattle.fr_whole.proofs.LoneLeader.{alone_among, leader_among, six_cycles, AllActive}

-- ---- no sync node is arbitrary

count_none : (test : NodeSpec → Bool) (nodes : List NodeSpec) → ((node : NodeSpec) → Contains nodes node → test node ≡ true → ⊥) → count_by test nodes ≡ 0
count_none test [] none = refl
count_none test (node ∷ nodes) none =
    count_no test node nodes (fails (test node) refl) ∙ count_none test nodes (λ other among. none other (Contains-there node nodes other among))
  where
    fails : (b : Bool) → test node ≡ b → test node ≡ false
    fails true is = absurd (none node (Contains-here node nodes) is)
    fails false is = is

-- of nodes in order no more than one has a number
one_at_most : (test : NodeSpec → Bool) (number : ℕ) (nodes : List NodeSpec) → AllPairs (λ a b. a.id < b.id) nodes
    → ((node : NodeSpec) → Contains nodes node → test node ≡ true → node.id ≡ number) → count_by test nodes ≤ 1
one_at_most test number [] ascend sole = omega arith
one_at_most test number (node ∷ nodes) ascend sole =
    by (test node) refl
    (one_at_most test number nodes (AllPairs-rest (λ (a : NodeSpec) (b : NodeSpec). a.id < b.id) node nodes ascend) (λ other among passes. sole other (Contains-there node nodes other among) passes))
  where
    by : (b : Bool) → test node ≡ b → count_by test nodes ≤ 1 → count_by test (node ∷ nodes) ≤ 1
    by true is rest =
        let here = sole node (Contains-here node nodes) is in
        let none =
        count_none test nodes
        (λ other among passes.
        let below : node.id < other.id = AllPairs-first (λ (a : NodeSpec) (b : NodeSpec). a.id < b.id) node nodes other ascend among in
        let there = sole other (Contains-there node nodes other among) passes in
        omega (arith, below, here, there)) in
        let e = count_yes test node nodes is in
        omega (arith, e, none)
    by false is rest = let e = count_no test node nodes is in omega (arith, e, rest)

-- so where the leader alone takes part from cycle 0 on, arbitrary sync nodes are few only where there is none
none_beside : (correct arbitrary : ℕ) → AreFew correct arbitrary → correct ≤ 1 → arbitrary ≡ 0
none_beside correct arbitrary (inl few) one = few.0
none_beside correct arbitrary (inr (inl few)) one = let three = few.1 in absurd (omega (arith, three, one))
none_beside correct arbitrary (inr (inr few)) one = let six = few.1 in absurd (omega (arith, six, one))

none_is_any : (test : NodeSpec → Bool) (nodes : List NodeSpec) → count_by test nodes ≡ 0 → list_any test nodes ≡ false
none_is_any test [] none = refl
none_is_any test (node ∷ nodes) none =
    by (test node) refl (λ rest. none_is_any test nodes rest)
  where
    by : (b : Bool) → test node ≡ b → (count_by test nodes ≡ 0 → list_any test nodes ≡ false) → (test node || list_any test nodes) ≡ false
    by true is more = let e = count_yes test node nodes is in absurd (omega (arith, e, none))
    by false is more =
        let e = count_no test node nodes is in
        ap (λ b. b || list_any test nodes) is ∙ more (omega (arith, e, none))

joins_some : (o : Option Join) (leader : ℕ) → JoinsLeader o leader → is_some o ≡ true
joins_some None leader is = absurd is
joins_some (Some join) leader is = refl

module _ (x : Setting) (flutter leader : ℕ) (steady : IsSteadySetting x flutter) (l : IsLedRun x leader) where
  none_arbitrary : sync_count x.params x.is_arbitrary ≡ 0
  none_arbitrary = none_beside _ _ steady.timed.few (one_at_most _ leader x.params.nodes steady.timed.sane.lists.nodes_ascend sole)
    where
      stays_or_joins : (o : Option Join) → is_none o ≡ true → is_some o ≡ true → ⊥
      stays_or_joins None stays joins = absurd (cc)
      stays_or_joins (Some join) stays joins = absurd (cc)

      by_number : (node : NodeSpec) → Contains (correct_nodes x) node → stays_on x node.id ≡ true → (node.id ≡ leader) ⊎ (node.id ≡ leader → ⊥) → node.id ≡ leader
      by_number node there stays (inl same) = same
      by_number node there stays (inr other) = absurd (stays_or_joins (x.join node.id) stays (joins_some (x.join node.id) leader (l.others node there other)))

      sole : (node : NodeSpec) → Contains x.params.nodes node → (is_some node.key && (is_correct x node.id && stays_on x node.id)) ≡ true → node.id ≡ leader
      sole node there passes =
          let parts = and_parts (is_some node.key) (is_correct x node.id && stays_on x node.id) passes in
          let own = and_parts (is_correct x node.id) (stays_on x node.id) parts.1 in
          by_number node (is_correct_node x node there own.0) own.1 (cases_eq node.id leader)

-- ---- its first double cycle

none_kept : (test : NodeSpec → Bool) (nodes : List NodeSpec) → ((node : NodeSpec) → test node ≡ false) → filter test nodes ≡ []
none_kept test [] fails = refl
none_kept test (node ∷ nodes) fails = ap (λ b. if b then node ∷ filter test nodes else filter test nodes) (fails node) ∙ none_kept test nodes fails

no_rows : (rows : List NodeRow) → map (λ (row : NodeRow). row.node) rows ≡ [] → rows ≡ []
no_rows [] is = refl
no_rows (row ∷ rows) is = absurd (cc)

follows_none : (x : Setting) (node : ℕ) (o : Option Join) → follows_by x [] node o ≡ false
unfolding begins_with
follows_none x node None = refl
follows_none x node (Some join) = refl

module _ (x : Setting) (flutter leader : ℕ) (h : Cycles) (w : IsSteadyPart x flutter h) (l : IsLedRun x leader) (even odd : Cycle) (d : IsDoubleOf h 0 [] even odd) where
  begun : (node : ℕ) → (status_in x.params (told_of []) node).state ≡ Active
  begun node = begun_active x [] node (no_outcomes x node)

  sole_first : (node : NodeSpec) → Contains (row_nodes x []) node → node.id ≡ l.node.id
  sole_first node among = alone_among x leader l [] node tt (omega arith) among ∙ sym l.number

  module _ (beside : Bool) where
    alike : (f : NodeRow → ℤ) (bound : ℕ) → LieWithin (pos bound) (map f even.told.rows)
    alike f bound =
        let s = lawful_rows x flutter h w 0 [] even odd d in
        let rows = even.told.rows in
        let nodes = row_nodes x [] in
        let ascend = rows_ascend x [] w.covered.timed.sane in
        let own = f (row_for rows l.node.id) in
        let From : ℤ → Type 0 = λ a. All (λ b. (a -ℤ b) ≤ℤ pos bound) (map f rows) in
        let Own : NodeRow → Type 0 = λ row. f row ≡ own in
        let at = λ (node : NodeSpec) (among : Contains nodes node). ap (λ id. f (row_for rows id)) (sole_first node among) in
        All-map From f rows
        (all_rows nodes rows (λ one. From (f one)) ascend s.two.even_rows.nodes
        (λ one here.
        All-map (λ b. (f (row_for rows one.id) -ℤ b) ≤ℤ pos bound) f rows
        (all_rows nodes rows (λ other. (f (row_for rows one.id) -ℤ f other) ≤ℤ pos bound) ascend s.two.even_rows.nodes
        (λ other there. near (f (row_for rows one.id)) (f (row_for rows other.id)) own (at one here) (at other there)))))
      where
        near : (a b c : ℤ) → a ≡ c → b ≡ c → (a -ℤ b) ≤ℤ pos bound
        near a b c one other = omega (arith, ints, one, other)

    about : All (λ row. IsAboutCycle x.params (pos 0) (cycle_length_of x.params row)) even.told.rows
    about =
        let p = x.params in
        let s = lawful_rows x flutter h w 0 [] even odd d in
        let rows = even.told.rows in
        let sane = w.covered.timed.sane in
        let row = row_runs_by (row_laws x []) (offset_after p (told_of []) even.told) (row_nodes x []) rows l.node s.two.even_rows (leader_among x leader l []) in
        let within = s.within in
        let least = w.covered.timed.least l.node 0 l.there (omega arith) (omega (arith, within)) in
        let most = w.covered.timed.most l.node 0 l.there (omega arith) (omega (arith, within)) in
        let micros = sane.ranges name.pMicroPerCycle in
        let Of : ℕ → Type 0 = λ id. IsAboutCycle p (pos 0) (cycle_length_of p (row_for rows id)) in
        all_rows (row_nodes x []) rows (λ r. IsAboutCycle p (pos 0) (cycle_length_of p r)) (rows_ascend x [] sane) s.two.even_rows.nodes
        (λ node among.
        subst Of (sym (sole_first node among))
        (
        whole p.micros (row_for rows l.node.id).rate (row_for rows l.node.id).length (x.microtick l.node.id 0) (pos (shortest_micro p)) (pos (longest_micro p)) (pos (shortest_cycle p))
        (pos (longest_cycle p)) micros.0 (row.rate ∙ ap x.rate l.number ∙ l.uncorrected) row.length_is least most (shortest_is p sane) (longest_is p sane)
        ))
      where
        not_less : (n : ℤ) → pos 10 ≤ℤ n → pos 0 ≤ℤ n
        not_less n from = omega (arith, ints, from)

        plain : (n rate : ℤ) → rate ≡ pos 0 → n +ℤ rate ≡ n
        plain n rate is = omega (arith, ints, is)

        between : (short long a b c : ℤ) → short ≡ a → long ≡ c → a ≤ℤ b → b ≤ℤ c → IsBetween (short -ℤ pos 0) (long +ℤ pos 0) b
        between short long a b c one other low high = record { low = omega (arith, ints, one, low); high = omega (arith, ints, other, high) }

        whole : (n rate length tick least most short long : ℤ) → pos 10 ≤ℤ n → rate ≡ pos 0 → length ≡ tick → least ≤ℤ tick → tick ≤ℤ most
            → short ≡ n *ℤ least → long ≡ n *ℤ most → IsBetween (short -ℤ pos 0) (long +ℤ pos 0) ((n +ℤ rate) *ℤ length)
        whole n rate length tick least most short long from no_rate is low high short_is long_is =
            let down = mulz-lez_left least tick n low (not_less n from) in
            let up = mulz-lez_left tick most n high (not_less n from) in
            let At : ℤ → Type 0 = λ m. IsBetween (short -ℤ pos 0) (long +ℤ pos 0) (m *ℤ length) in
            let For : ℤ → Type 0 = λ t. IsBetween (short -ℤ pos 0) (long +ℤ pos 0) (n *ℤ t) in
            subst At (sym (plain n rate no_rate)) (subst For (sym is) (between short long (n *ℤ least) (n *ℤ tick) (n *ℤ most) short_is long_is down up))

    nobody : following_nodes x [] ≡ []
    nobody = none_kept (λ (node : NodeSpec). follows x [] node.id) (correct_nodes x) (λ node. follows_none x node.id (x.join node.id))

    unfollowed : (followers : List NodeRow) → map (λ (row : NodeRow). row.node) followers ≡ map (λ (node : NodeSpec). node.id) (following_nodes x []) → followers ≡ []
    unfollowed followers are = no_rows followers (are ∙ ap (map (λ (node : NodeSpec). node.id)) nobody)

    -- the leader alone is in sharp sync there, and nobody follows
    pub first_sync : IsUnfollowedSharpSyncAt beside x.params flutter h 0
    first_sync =
        let p = x.params in
        let s = lawful_rows x flutter h w 0 [] even odd d in
        let late : odd_cycle 0 ≡ suc (2 * 0) = omega arith in
        record {
          synced = record {
            even = even;
            odd = odd;
            has_even = even_is h 0 [] even odd d;
            has_odd = ap (cycle_at h) late ∙ odd_is h 0 [] even odd d;
            in_sync = record {
              active_even =
                  All-along (λ row. row.state ≡ (row_laws x []).state row.node) (λ row. row.state ≡ Active) even.told.rows
                  (λ row is. is ∙ begun row.node) s.two.even_rows.states;
              active_odd =
                  All-along (λ row. row.state ≡ (row_laws x (even ∷ [])).state row.node) (λ row. row.state ≡ Active) odd.told.rows
                  (λ row is. is ∙ status_even x (told_of []) even.told row.node (even_length 0 0 refl) ∙ begun row.node) s.two.odd_rows.states;
              rows = record {
                starts_lie = alike (λ row. row.start) (sharp_pi beside p flutter);
                lengths_lie = alike (cycle_length_of p) (sharp_lambda beside p flutter);
                about = about;
              };
            };
          };
          none_early = unfollowed even.followers s.two.even_followers.nodes;
          none_late = unfollowed odd.followers s.two.odd_followers.nodes;
        }

-- the first double cycle has none before it
from_none : (h earlier : Cycles) (even odd : Cycle) → IsDoubleOf h 0 earlier even odd → IsDoubleOf h 0 [] even odd
from_none h [] even odd d = d
from_none h (c ∷ earlier) even odd d = let counted : suc (length earlier) ≡ 2 * 0 = d.counted in absurd (omega (arith, counted))

-- ---- the files

module _ (p : Values) (d : DriftView) (s : ScriptView) (flutter leader : ℕ) (h : Cycles) (sane : IsSane p) (drift_fits : DriftFits p d) (script_fits : ScriptFits p s)
    (covered : IsSharplyCoveredToJoin p d s 0 flutter) (first : sharp_holds_of 1 flutter (sharp_reach false p flutter) p ≡ true) (l : IsLedRun (setting_of p d s) leader)
    (run : IsRunOf (setting_of p d s) h) (keep : CoveredFilesKeepSharplyJoined) where
  steady : IsSteadySetting (setting_of p d s) flutter
  steady = files_are_steady p d s 0 flutter sane covered.none covered.flutters

  part : IsSteadyPart (setting_of p d s) flutter h
  part = record { covered = steady; lawful = run.lawful; within = (let whole = run.whole in omega (arith, whole)) }

  none : sync_count p (is_arbitrary s) ≡ 0
  none = none_arbitrary (setting_of p d s) flutter leader steady l

  alone : has_arbitrary p s ≡ false
  alone = none_is_any (λ (node : NodeSpec). is_sync node && is_arbitrary s node.id) p.nodes none

  module _ (some : 1 ≤ doubles_of d) where
    keeps : KeepsSharplyJoined false (setting_of p d s) flutter h 0
    keeps =
        let whole = run.whole in
        let at = double_at h 0 (omega (arith, whole, some)) in
        let sync = first_sync (setting_of p d s) flutter leader h part l at.even at.odd (from_none h at.earlier at.even at.odd at.is) (has_arbitrary p s) in
        let Keeps : Bool → Type 0 = λ b. KeepsSharplyJoined b (setting_of p d s) flutter h 0 in
        subst Keeps alone (keep p d s 0 flutter h 0 sane drift_fits script_fits covered run (omega arith) sync)

    active_in : (cycle : ℕ) (c : Cycle) → cycle_at h cycle ≡ Some c → All (λ row. row.state ≡ Active) c.told.rows
    active_in cycle c is = (keeps.cycles (keeps.on first)).active cycle c (omega arith) is

    active_double : (k : ℕ) (earlier : Cycles) (even odd : Cycle) → IsDoubleOf h k earlier even odd → AllActive even × AllActive odd
    active_double k earlier even odd at =
        (active_in (2 * k) even (even_is h k earlier even odd at), active_in (suc (2 * k)) odd (odd_is h k earlier even odd at))

    synced_in : (double : ℕ) → double < doubles_of d → IsInSharpSyncAt false p flutter (pos 0) h double
    synced_in double less =
        let same : 0 + double ≡ double = omega arith in
        let At : ℕ → Type 0 = λ k. IsInSharpSyncAt false p flutter (pos 0) h k in
        subst At same (keeps.always first double (omega (arith, less))).0

    stays_in : (node : NodeSpec) → Contains (correct_nodes (setting_of p d s)) node → join_of s node.id ≡ None
        → (cycle : ℕ) (c : Cycle) → cycle_at h cycle ≡ Some c → IsSome (row_of c.told.rows node.id)
    stays_in node there at cycle c is =
        let x = setting_of p d s in
        let Has : ℕ → Cycle → Type 0 = λ n c. IsSome (row_of c.told.rows node.id) in
        let has = λ (earlier : Cycles) (c : Cycle) (runs : CycleRuns x earlier c). told_has x earlier c node runs there ∙ ap (has_row_by x earlier node.id) at in
        each_cycle h 0 (doubles_of d) Has run.whole
        (λ k earlier even odd two from within.
        let runs = double_runs x h k earlier even odd two (lawful_cycles_run x h run.lawful) in
        (has earlier even runs.1.0, has (even ∷ earlier) odd runs.0)) cycle c (omega arith) is

    everyone_in : (node : NodeSpec) (cycle : ℕ) (c : Cycle) → Contains (correct_nodes (setting_of p d s)) node → cycle_at h cycle ≡ Some c
        → (o : Option Join) → join_of s node.id ≡ o → takes_part_from o ≤ cycle → IsSome (row_of c.told.rows node.id)
    everyone_in node cycle c there is None at from = stays_in node there at cycle c is
    everyone_in node cycle c there is (Some join) at from = (keeps.joins (keeps.on first) node join there at (omega arith) cycle c is).1 from

    -- cycle 6 is that of a double cycle
    sixth : (c : Cycle) → cycle_at h 6 ≡ Some c → (earlier : Cycles) × ((odd : Cycle) × IsDoubleOf h 3 earlier c odd)
    sixth c is =
        let less = cycle_within h 6 c is in
        let whole = run.whole in
        let at = double_at h 3 (eight (length h) (doubles_of d) whole less) in
        let e : Some at.even ≡ Some c = sym (even_is h 3 at.earlier at.even at.odd at.is) ∙ is in
        let same : at.even ≡ c = cc in
        let At : Cycle → Type 0 = λ even. IsDoubleOf h 3 at.earlier even at.odd in
        (at.earlier, (at.odd, subst At same at.is))
      where
        eight : (n doubles : ℕ) → n ≡ 2 * doubles → 6 < n → suc (suc (2 * 3)) ≤ n
        eight n doubles whole less = omega (arith, whole, less)

    module _ (power_on : ℤ) (begins : start_of d leader ≤ℤ (power_on +ℤ pos (leads_ticks p))) where
      soon_of : (c : Cycle) → cycle_at h 6 ≡ Some c → (row_for c.told.rows l.node.id).start ≤ℤ (power_on +ℤ pos (joined_ticks p))
      soon_of c is =
          let x = setting_of p d s in
          let at = sixth c is in
          let suffice = sharp_join_checks_suffice_lem (has_arbitrary p s) p flutter sane covered.checks in
          let six = six_cycles x flutter h part leader l none (sharp_reach (has_arbitrary p s) p flutter) suffice.0 suffice.1 active_double at.0 c at.1.0 at.1.1 in
          within (row_for c.told.rows l.node.id).start (start_of d l.node.id) (start_of d leader) (leads_ticks p) (6 * longest_cycle p) six (ap (start_of d) l.number) begins
        where
          within : (row own start : ℤ) (leads six : ℕ) → row ≤ℤ (own +ℤ pos six) → own ≡ start → start ≤ℤ (power_on +ℤ pos leads) → row ≤ℤ (power_on +ℤ pos (leads + six))
          within row own start leads six le is from = omega (arith, ints, le, is, from)

      all_soon_of : (c : Cycle) → cycle_at h 6 ≡ Some c → All (λ row. row.start ≤ℤ (power_on +ℤ pos (synced_ticks p flutter))) c.told.rows
      all_soon_of c is =
          let x = setting_of p d s in
          let at = sixth c is in
          let rows = c.told.rows in
          let first_row = row_for rows l.node.id in
          let s6 = lawful_rows x flutter h part 3 at.0 c at.1.0 at.1.1 in
          let own = has_row (row_nodes x at.0) rows l.node s6.two.even_rows.nodes (leader_among x leader l at.0) in
          let sync = synced_in 3 s6.within in
          let e : Some sync.even ≡ Some c = sym sync.has_even ∙ is in
          let same : sync.even ≡ c = cc in
          let Lie : Cycle → Type 0 = λ even. LieWithin (pos (sharp_pi false p flutter)) (map (λ (row : NodeRow). row.start) even.told.rows) in
          let lie = subst Lie same sync.in_sync.rows.starts_lie in
          let soon = soon_of c is in
          let starts = map (λ (row : NodeRow). row.start) rows in
          All-along (Contains rows) (λ row. row.start ≤ℤ (power_on +ℤ pos (synced_ticks p flutter))) rows
          (λ row here.
          let near = All-contains (λ a. All (λ b. (a -ℤ b) ≤ℤ pos (sharp_pi false p flutter)) starts) starts row.start lie (contains_map (λ (r : NodeRow). r.start) rows row here) in
          let one = All-contains (λ b. (row.start -ℤ b) ≤ℤ pos (sharp_pi false p flutter)) starts first_row.start near (contains_map (λ (r : NodeRow). r.start) rows first_row own.there) in
          within row.start first_row.start (joined_ticks p) (sharp_pi false p flutter) one soon)
          (All-contains_itself rows)
        where
          within : (row first : ℤ) (joined pi : ℕ) → (row -ℤ first) ≤ℤ pos pi → first ≤ℤ (power_on +ℤ pos joined) → row ≤ℤ (power_on +ℤ pos (joined + pi))
          within row first joined pi near soon = omega (arith, ints, near, soon)

      in_sync_some : IsInSyncFromPowerOn (setting_of p d s) flutter h leader power_on
      in_sync_some = record {
        everyone = λ node cycle c there is from. everyone_in node cycle c there is (join_of s node.id) refl from;
        active = active_in;
        synced = synced_in;
        precise = λ cycle macrotick less below. (keeps.cycles (keeps.on first)).skew cycle macrotick (omega arith) less below;
        leader_soon = λ c is. (let At : ℕ → Type 0 = λ id. (row_for c.told.rows id).start ≤ℤ (power_on +ℤ pos (joined_ticks p)) in subst At l.number (soon_of c is));
        all_soon = all_soon_of;
      }

  -- of a run without cycles nothing is said
  in_sync_none : (power_on : ℤ) → doubles_of d ≡ 0 → IsInSyncFromPowerOn (setting_of p d s) flutter h leader power_on
  in_sync_none power_on empty = record {
    everyone = λ node cycle c there is from. absurd (never cycle (cycle_within h cycle c is));
    active = λ cycle c is. absurd (never cycle (cycle_within h cycle c is));
    synced = λ double less. absurd (omega (arith, empty, less));
    precise = λ cycle macrotick less below. absurd (never cycle less);
    leader_soon = λ c is. absurd (never 6 (cycle_within h 6 c is));
    all_soon = λ c is. absurd (never 6 (cycle_within h 6 c is));
  }
    where
      never : (cycle : ℕ) → cycle < length h → ⊥
      never cycle less = let whole = run.whole in omega (arith, whole, empty, less)

  in_sync : (power_on : ℤ) → start_of d leader ≤ℤ (power_on +ℤ pos (leads_ticks p)) → IsInSyncFromPowerOn (setting_of p d s) flutter h leader power_on
  in_sync power_on begins = by (doubles_of d) refl
    where
      by : (n : ℕ) → doubles_of d ≡ n → IsInSyncFromPowerOn (setting_of p d s) flutter h leader power_on
      by zero is = in_sync_none power_on is
      by (suc n) is = in_sync_some (omega (arith, is)) power_on begins

-- ---- from power-on

begins_then : (n node : ℕ) → ((n == n) && (node == node)) ≡ true
begins_then n node = grind arith

pub power_on_is_in_sync : CoveredFilesKeepSharplyJoined → TheFirstLeads → ((p : Values) (v : PowerView) → SwitchesStarters p (switches_of p v))
    → ((p : Values) (v : PowerView) → PowerFits p v → IsNeverOff v → StaysOn (switches_of p v)) → (p : Values) (flutter : ℕ) → PowerOnIsInSync p flutter
power_on_is_in_sync keep leads starters once p flutter v d s at leader power_on h sane connected power on first drift script covered holds led starts run =
    let switches = switches_of p v in
    let cycles = 6 * macroticks_of_cycle p in
    let alone = leads p switches at leader sane (starters p v) connected (once p v power on) first in
    let begins = alone.begins (at + cycles + 1) leader first.number ∙ begins_then (at + cycles + 1) leader in
    let passed : at + cycles + 1 - at ≡ cycles + 1 = after at cycles in
    let At : ℕ → Type 0 = λ n. start_of d leader ≤ℤ (power_on +ℤ pos (longest_time p n)) in
    (alone, in_sync p d s flutter leader h sane drift script covered holds led run keep power_on (subst At passed (starts (at + cycles + 1) begins)))
  where
    after : (a b : ℕ) → a + b + 1 - a ≡ b + 1
    after a b = omega arith
