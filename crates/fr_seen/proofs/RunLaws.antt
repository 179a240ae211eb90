-- The rows of a node in a run.
use Rattle.std.proofs.Common.{◌≡◌, ℕ, suc, ◌*◌, ◌<◌, ◌≤◌, ◌==◌, true, ℤ, pos, Option, Some, None, IsSome, List, [], ◌∷◌, length, refl, ap, sym, ◌∙◌, subst, arith}
use Rattle.std.specs.Prelude.{◌≤ℤ◌, ◌-ℤ◌, Contains, unwrap_or, is_some}
use Rattle.fr_base.specs.Within.{IsWithin}
use Rattle.fr_base.specs.declared.node_row.NodeRow.{NodeRow}
use Rattle.fr_cluster.specs.Setting.{Setting, correct_nodes}
use Rattle.fr_cluster.specs.Values.{amount}
use Rattle.fr_cluster.specs.declared.names.ParamName.TheVariants as name
use Rattle.fr_cluster.specs.declared.nodes.NodeSpec.{NodeSpec}
use Rattle.fr_cluster.proofs.Elements.{found}
use Rattle.fr_bound.specs.Bounds.{longest_micro, shortest_micro}
use Rattle.fr_precision.specs.Placement.{IsRegular}
use Rattle.fr_precision.specs.Rows.{corrected_end_of, HasProperMicro, IsSteady}
use Rattle.fr_history.specs.Cycles.{Cycle, Cycles, told_of}
use Rattle.fr_history.specs.History.{blank_row, row_for, row_of, AreRowsOf}
use Rattle.fr_history.specs.Laws.{row_laws}
use Rattle.fr_history.specs.Rows.{offset_after}
use Rattle.fr_history.specs.Standing.{row_nodes}
use Rattle.fr_runs.specs.Gathered.{CycleRuns}
use Rattle.fr_runs.specs.Numbers.{HasDouble}
use Rattle.fr_runs.specs.Rounds.{AllClocksRun, IsDoubleOf}
use Rattle.fr_runs.proofs.Courses.{is_correct_row, row_two, run_two, start_told, RunTwo}
use Rattle.fr_runs.proofs.Doubles.{even_length}
use Rattle.fr_runs.proofs.Lawful.{lawful_cycles_run}
use Rattle.fr_runs.proofs.Parts.{cycle_within, double_at, even_is, odd_is}
use Rattle.fr_runs.proofs.Rates.{rates_stay_within}
use Rattle.fr_precision.proofs.RoundLemmas.{contains_map, map_contains}
use Rattle.fr_runs.proofs.Rows.{each_row, has_row, row_runs_by}
use Rattle.fr_runs.proofs.Succeeding.{followers_stay, rows_stay}
use Rattle.fr_runs.proofs.Whole.{double_runs, prior_of}
use Rattle.fr_seen.specs.RunRows.{IsTimedRun, NodesGoOn, NodesHaveBothRows, NodesRunRegularly}

-- ---- a double cycle that a run has

-- its two cycles stand behind earlier ones
pub record IsCut (h : Cycles) (double : ℕ) (even odd : Cycle) : Type 0 where
  pub earlier : Cycles
  pub is : IsDoubleOf h double earlier even odd

some_same : (one other : Cycle) → Some one ≡ Some other → one ≡ other
some_same one other is = cc

pub cut_at : (h : Cycles) (double : ℕ) (even odd : Cycle) → HasDouble h double even odd → IsCut h double even odd
cut_at h double even odd has =
    let d = double_at h double (long (length h) double (cycle_within h (suc (2 * double)) odd has.has_odd)) in
    let Is : Cycle → Cycle → Type 0 = λ one other. IsDoubleOf h double d.earlier one other in
    record {
      earlier = d.earlier;
      is =
          subst (λ c. Is even c) (some_same d.odd odd (sym (odd_is h double d.earlier d.even d.odd d.is) ∙ has.has_odd))
          (subst (λ c. Is c d.odd) (some_same d.even even (sym (even_is h double d.earlier d.even d.odd d.is) ∙ has.has_even)) d.is);
    }
  where
    long : (n k : ℕ) → suc (2 * k) < n → suc (suc (2 * k)) ≤ n
    long n k less = omega arith

-- ---- a row and its node

pub record IsRowAt (nodes : List NodeSpec) (rows : List NodeRow) (node : ℕ) (row : NodeRow) : Type 0 where
  pub spec : NodeSpec
  pub id_is : spec.id ≡ node
  pub among : Contains nodes spec
  pub row_is : row_for rows spec.id ≡ row

pub row_at : (nodes : List NodeSpec) (rows : List NodeRow) (node : ℕ) (row : NodeRow) → AreRowsOf nodes rows → row_of rows node ≡ Some row → IsRowAt nodes rows node row
unfolding row_for
row_at nodes rows node row are is =
    let here = found (λ (r : NodeRow). r.node == node) rows row is in
    let number : row.node ≡ node = same row.node node here.0 in
    let Has : List ℕ → Type 0 = λ ids. Contains ids row.node in
    let spec = map_contains (λ (n : NodeSpec). n.id) nodes row.node (subst Has are (contains_map (λ (r : NodeRow). r.node) rows row here.1)) in
    record {
      spec = spec.0;
      id_is = spec.2 ∙ number;
      among = spec.1;
      row_is = ap (row_for rows) (spec.2 ∙ number) ∙ ap (λ o. unwrap_or o blank_row) is;
    }
  where
    same : (a b : ℕ) → (a == b) ≡ true → a ≡ b
    same a b is = grind arith

-- ---- both cycles

pub record IsTwo (x : Setting) (earlier : Cycles) (even odd : Cycle) (double : ℕ) : Type 0 where
  pub counted : length earlier ≡ 2 * double
  pub two : RunTwo x earlier even odd
  pub even_runs : AllClocksRun x (even ∷ earlier)
  pub odd_runs : CycleRuns x (even ∷ earlier) odd
  pub within : suc (2 * double) < 2 * x.doubles

pub two_at : (x : Setting) (h : Cycles) (double : ℕ) (even odd : Cycle) → IsTimedRun x h → HasDouble h double even odd → (cut : IsCut h double even odd) → IsTwo x cut.earlier even odd double
two_at x h double even odd run has cut =
    let runs = double_runs x h double cut.earlier even odd cut.is (lawful_cycles_run x h run.lawful) in
    record {
      counted = cut.is.counted;
      two =
          run_two x cut.earlier even odd runs.1.0 runs.0 (rows_stay x cut.earlier even double cut.is.counted runs.1.0)
          (followers_stay x cut.earlier even double cut.is.counted runs.1.0);
      even_runs = runs.1;
      odd_runs = runs.0;
      within = less (length h) (2 * x.doubles) (suc (2 * double)) (cycle_within h (suc (2 * double)) odd has.has_odd) run.within;
    }
  where
    less : (n m k : ℕ) → k < n → n ≤ m → k < m
    less n m k a b = omega arith

-- the microtick of a node in a cycle
micro_at : (x : Setting) (h : Cycles) (node : NodeSpec) (cycle : ℕ) (row : NodeRow) → IsTimedRun x h → Contains (correct_nodes x) node → cycle < 2 * x.doubles
    → row.length ≡ x.microtick node.id cycle → HasProperMicro x.params row
micro_at x h node cycle row run among less is =
    record {
      least = subst (λ z. pos (shortest_micro x.params) ≤ℤ z) (sym is) (run.least node cycle among less);
      most = subst (λ z. z ≤ℤ pos (longest_micro x.params)) (sym is) (run.most node cycle among less);
    }

steady_at : (x : Setting) (h : Cycles) (node : NodeSpec) (cycle : ℕ) (row next : NodeRow) → IsTimedRun x h → Contains (correct_nodes x) node → suc cycle < 2 * x.doubles
    → row.length ≡ x.microtick node.id cycle → next.length ≡ x.microtick node.id (suc cycle) → IsSteady x.params row next
steady_at x h node cycle row next run among less is next_is =
    let Change : ℤ → ℤ → Type 0 = λ a b. IsWithin (pos (amount x.params name.xChangeBound)) (b -ℤ a) in
    subst (λ a. Change a next.length) (sym is) (subst (λ b. Change (x.microtick node.id cycle) b) (sym next_is) (run.changes node cycle among less))

regular_at : (x : Setting) (h earlier : Cycles) (double : ℕ) (even odd : Cycle) (node : NodeSpec) → IsTimedRun x h → IsTwo x earlier even odd double → Contains (row_nodes x earlier) node
    → IsRegular x.params (row_for even.told.rows node.id) (row_for odd.told.rows node.id)
regular_at x h earlier double even odd node run is among =
    let correct = is_correct_row x earlier node among in
    let at = row_two x earlier even odd node is.two (even_length (length earlier) double is.counted) among in
    let later = less (length earlier) (2 * double) (2 * x.doubles) is.counted is.within in
    record {
      double = at.double;
      rate_within =
          each_row (row_nodes x earlier) even.told.rows (λ row. IsWithin x.params.rate_limit row.rate) node is.two.even_rows.nodes among
          (rates_stay_within x earlier even run.sane run.rates is.even_runs).0;
      even_micro = micro_at x h node (length earlier) (row_for even.told.rows node.id) run correct later.0 at.even_length;
      odd_micro = micro_at x h node (suc (length earlier)) (row_for odd.told.rows node.id) run correct later.1 at.odd_length;
      steady = steady_at x h node (length earlier) (row_for even.told.rows node.id) (row_for odd.told.rows node.id) run correct later.1 at.even_length at.odd_length;
    }
  where
    less : (n k m : ℕ) → n ≡ k → suc k < m → (n < m) × (suc n < m)
    less n k m is h = (omega (arith, is, h), omega (arith, is, h))

-- the row of a node is the one that it has
row_is_there : (nodes : List NodeSpec) (rows : List NodeRow) (node : NodeSpec) (row : NodeRow) → row_of rows node.id ≡ Some row → row_for rows node.id ≡ row
unfolding row_for
row_is_there nodes rows node row is = ap (λ o. unwrap_or o blank_row) is

pub nodes_run_regularly : NodesRunRegularly
nodes_run_regularly x h double even odd node row next run has is next_is =
    let cut = cut_at h double even odd has in
    let two = two_at x h double even odd run has cut in
    let at = row_at (row_nodes x cut.earlier) even.told.rows node row two.two.even_rows.nodes is in
    let odd_row : row_for odd.told.rows at.spec.id ≡ next =
    row_is_there (row_nodes x cut.earlier) odd.told.rows at.spec next (ap (row_of odd.told.rows) at.id_is ∙ next_is) in
    subst (λ r. IsRegular x.params row r) odd_row
    (subst (λ r. IsRegular x.params r (row_for odd.told.rows at.spec.id)) at.row_is (regular_at x h cut.earlier double even odd at.spec run two at.among))

some_of : {X : Type 0} (o : Option X) → IsSome o → (x : X) × (o ≡ Some x)
some_of None is = absurd (cc)
some_of (Some x) is = (x, refl)

-- a node that has a row among some nodes' rows has one wherever these nodes have rows
row_there : (nodes : List NodeSpec) (rows others : List NodeRow) (node : ℕ) → AreRowsOf nodes rows → AreRowsOf nodes others → IsSome (row_of rows node) → IsSome (row_of others node)
row_there nodes rows others node are others_are is =
    let row = some_of (row_of rows node) is in
    let at = row_at nodes rows node row.0 are row.1 in
    let there : row_of others at.spec.id ≡ Some (row_for others at.spec.id) = (has_row nodes others at.spec others_are at.among).is in
    ap is_some (sym (ap (row_of others) at.id_is) ∙ there)

pub nodes_have_both_rows : NodesHaveBothRows
nodes_have_both_rows x h double even odd node run has =
    let cut = cut_at h double even odd has in
    let two = (two_at x h double even odd run has cut).two in (
      row_there (row_nodes x cut.earlier) even.told.rows odd.told.rows node two.even_rows.nodes two.odd_rows.nodes,
      row_there (row_nodes x cut.earlier) odd.told.rows even.told.rows node two.odd_rows.nodes two.even_rows.nodes,
    )

-- ---- from one double cycle to the next

goes_on_from : (x : Setting) (h : Cycles) (double : ℕ) (even odd next_even next_odd : Cycle) (node : ℕ) (row next : NodeRow) (earlier : Cycles)
    → IsTimedRun x h → HasDouble h double even odd → HasDouble h (suc double) next_even next_odd
    → row_of odd.told.rows node ≡ Some row → row_of next_even.told.rows node ≡ Some next → IsDoubleOf h (suc double) earlier next_even next_odd
    → (next.start ≡ corrected_end_of x.params row) × IsSteady x.params row next
goes_on_from x h double even odd next_even next_odd node row next [] run has next_has is next_is d = absurd (none double d.counted)
  where
    none : (k : ℕ) → 0 ≡ 2 * suc k → ⊥
    none k e = omega arith
goes_on_from x h double even odd next_even next_odd node row next (o ∷ []) run has next_has is next_is d = absurd (one double d.counted)
  where
    one : (k : ℕ) → 1 ≡ 2 * suc k → ⊥
    one k e = omega arith
goes_on_from x h double even odd next_even next_odd node row next (o ∷ e ∷ rest) run has next_has is next_is d =
    let runs = double_runs x h (suc double) (o ∷ e ∷ rest) next_even next_odd d (lawful_cycles_run x h run.lawful) in
    let before = prior_of h double rest e o next_even next_odd d in
    let same : o ≡ odd = some_same o odd (sym (odd_is h double rest e o before) ∙ has.has_odd) in
    let had : row_of o.told.rows node ≡ Some row = ap (λ (c : Cycle). row_of c.told.rows node) same ∙ is in
    let late = row_at (row_nodes x (o ∷ e ∷ rest)) next_even.told.rows node next runs.1.0.rows.nodes next_is in
    let early = row_at (row_nodes x (e ∷ rest)) o.told.rows node row runs.1.1.0.rows.nodes had in
    let next_runs =
    row_runs_by (row_laws x (o ∷ e ∷ rest)) (offset_after x.params (told_of (o ∷ e ∷ rest)) next_even.told) (row_nodes x (o ∷ e ∷ rest)) next_even.told.rows late.spec runs.1.0.rows late.among in
    let row_runs = row_runs_by (row_laws x (e ∷ rest)) (offset_after x.params (told_of (e ∷ rest)) o.told) (row_nodes x (e ∷ rest)) o.told.rows early.spec runs.1.1.0.rows early.among in
    let starts : next.start ≡ corrected_end_of x.params row =
    ap (λ (r : NodeRow). r.start) (sym late.row_is) ∙ next_runs.start ∙ start_told x (e ∷ rest) o late.spec.id row (ap (row_of o.told.rows) late.id_is ∙ had) in
    let ids : early.spec.id ≡ late.spec.id = early.id_is ∙ sym late.id_is in
    let row_length : row.length ≡ x.microtick late.spec.id (suc (length rest)) =
    ap (λ (r : NodeRow). r.length) (sym early.row_is) ∙ row_runs.length_is ∙ ap (λ n. x.microtick n (suc (length rest))) ids in
    let next_length : next.length ≡ x.microtick late.spec.id (suc (suc (length rest))) = ap (λ (r : NodeRow). r.length) (sym late.row_is) ∙ next_runs.length_is in (
      starts,
      steady_at x h late.spec (suc (length rest)) row next run (is_correct_row x (o ∷ e ∷ rest) late.spec late.among)
          (less (length rest) (length h) double (2 * x.doubles) d.counted (cycle_within h (2 * suc double) next_even next_has.has_even) run.within)
          row_length next_length,
    )
  where
    less : (n m k t : ℕ) → suc (suc n) ≡ 2 * suc k → 2 * suc k < m → m ≤ t → suc (suc n) < t
    less n m k t a b c = omega (arith, a, b, c)

pub nodes_go_on : NodesGoOn
nodes_go_on x h double even odd next_even next_odd node row next run has next_has is next_is =
    let cut = cut_at h (suc double) next_even next_odd next_has in
    goes_on_from x h double even odd next_even next_odd node row next cut.earlier run has next_has is next_is cut.is
