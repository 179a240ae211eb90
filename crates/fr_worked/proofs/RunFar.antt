-- The runs of any cluster that reach nearly all of the sharper precision: what is stated of them, and their skew.
use Rattle.std.proofs.Common.{◌≡◌, ◌≢◌, ℕ, suc, ◌*◌, ◌≤◌, ◌==◌, Bool, true, false, not, ℤ, pos, Option, Some, List, All, [], ◌∷◌, length, map, refl, ap, sym, ◌∙◌, subst, lit≤, arith, if◌then◌else◌}
use Rattle.std.specs.Prelude.{◌-ℤ◌, ◌*ℤ◌, ◌≤ℤ◌, ◌+ℤ◌, Contains, int_lt}
use Rattle.std.specs.Option.{option_map, option_map_or}
use Rattle.std.specs.List.{list_any}
use Rattle.std.proofs.lemmas.Int.{ints}
use Rattle.std.proofs.lemmas.List.Elements.{All-contains}
use Rattle.fr_base.specs.Event.Event.{Regular}
use Rattle.fr_base.specs.States.{is_halted}
use Rattle.fr_base.specs.Within.{IsWithin}
use Rattle.fr_base.specs.declared.channel.Channel.{Channel}
use Rattle.fr_base.specs.declared.node_row.NodeRow.{NodeRow}
use Rattle.fr_base.specs.declared.state.State.{State}
use Rattle.fr_base.specs.declared.state.State.TheVariants.{Active}
use Rattle.fr_cluster.specs.Questions.{compensation_of}
use Rattle.fr_cluster.specs.Sane.{IsSane}
use Rattle.fr_cluster.specs.Setting.{IsSetting, Setting, correct_nodes}
use Rattle.fr_cluster.specs.Values.{Values, amount}
use Rattle.fr_cluster.specs.declared.names.ParamName.TheVariants as name
use Rattle.fr_cluster.specs.declared.nodes.NodeSpec.{NodeSpec}
use Rattle.fr_cluster.proofs.Elements.{kept_filtered}
use Rattle.fr_midpoint.proofs.Products.{mulz-lez_left}
use Rattle.fr_time.specs.Cycles.{is_odd}
use Rattle.fr_time.specs.Instant.{instant_of}
use Rattle.fr_time.specs.Position.{grid_for}
use Rattle.fr_time.proofs.Placing.{is_grid_lem}
use Rattle.fr_bound.specs.Bounds.{longest_micro, nominal, shortest_micro}
use Rattle.fr_precision.proofs.Figures.{natural, times_natural}
use Rattle.fr_skew.specs.Spreads.{running, spread_at, spread_of}
use Rattle.fr_skew.proofs.Differences.{within_spread}
use Rattle.fr_history.specs.Cycles.{Cycle, Cycles, told_of}
use Rattle.fr_history.specs.History.{Record, record_at, row_for}
use Rattle.fr_history.specs.Laws.{row_laws}
use Rattle.fr_history.specs.Lawful.{IsLawful}
use Rattle.fr_history.specs.Next.{cycles_of}
use Rattle.fr_history.specs.Rows.{offset_after}
use Rattle.fr_history.specs.Skew.{skew_at}
use Rattle.fr_history.specs.Standing.{row_nodes}
use Rattle.fr_runs.specs.Rounds.{IsDoubleOf}
use Rattle.fr_runs.specs.Stated.{all_cycles}
use Rattle.fr_runs.proofs.Courses.{row_two}
use Rattle.fr_runs.proofs.Nodes.{correct_node}
use Rattle.fr_runs.proofs.Parts.{odd_is, told_at}
use Rattle.fr_precision.proofs.RoundLemmas.{contains_map}
use Rattle.fr_runs.proofs.Rows.{has_row, row_runs_by}
use Rattle.fr_worked.specs.FarRun.{correction_place, far_apart_run, far_skew, Far, FarRunsReachSharply, HasTwo, IsFar}
use Rattle.fr_precision.specs.Lengths.{IsAboutCycle}
use Rattle.fr_sharp.specs.SettlingHistories.{AreStatedNear}
use Rattle.fr_bound.specs.SharpBounds.{sharp_lambda, sharp_pi}
use Rattle.fr_runs.specs.SharpHistories.{IsSteadyRun}
use Rattle.fr_runs.specs.SteadyRuns.{IsSteadySetting}
use Rattle.fr_promise.proofs.RunCycles.{stated_runs_are_steady}
use Rattle.fr_sharp.proofs.RunSettles.{histories_begin_active}
use Rattle.fr_sharp.proofs.RunStated.{stated_runs_begin_in_sharp_sync}
use Rattle.fr_promise.proofs.RunSync.{found_at, rows_at}
use Rattle.fr_worked.proofs.RunWorked.{of_bytes}
use Rattle.fr_precision.proofs.Signed.{signed_of}

-- ---- numbers of two kinds, by whether they are those of the first node

pub itself : (n : ℕ) (a : ℤ) → IsWithin (pos n) (a -ℤ a)
itself n a = record { low = omega (arith, ints); high = omega (arith, ints) }

no_less : (bound : ℤ) (a b : ℤ) (first : Bool) → bound ≤ℤ a → a ≤ℤ b → bound ≤ℤ (if first then a else b)
no_less bound a b true least order = least
no_less bound a b false least order = omega (arith, ints, least, order)

no_more : (bound : ℤ) (a b : ℤ) (first : Bool) → b ≤ℤ bound → a ≤ℤ b → (if first then a else b) ≤ℤ bound
no_more bound a b true most order = omega (arith, ints, most, order)
no_more bound a b false most order = most

apart : (bound : ℕ) (a b : ℤ) (one other : Bool) → a ≤ℤ b → (b -ℤ a) ≤ℤ pos bound → IsWithin (pos bound) ((if one then a else b) -ℤ (if other then a else b))
apart bound a b true true order near = record { low = omega (arith, ints); high = omega (arith, ints) }
apart bound a b true false order near = record { low = omega (arith, ints, order, near); high = omega (arith, ints, order, near) }
apart bound a b false true order near = record { low = omega (arith, ints, order, near); high = omega (arith, ints, order, near) }
apart bound a b false false order near = record { low = omega (arith, ints); high = omega (arith, ints) }

taken_out : (n a b : ℤ) (first : Bool) → n *ℤ (if first then a else b) ≡ (if first then n *ℤ a else n *ℤ b)
taken_out n a b true = refl
taken_out n a b false = refl

no_rate : (n : ℤ) → n +ℤ pos 0 ≡ n
no_rate n = omega (arith, ints)

-- ---- what is stated of such a run

pub none_by : (nodes : List NodeSpec) → list_any (λ (node : NodeSpec). false) nodes ≡ false
none_by [] = refl
none_by (node ∷ nodes) = none_by nodes

module _ (f : Far) (starts lengths : ℕ) (is : IsFar f starts lengths) where
  regular : (sender : NodeSpec) (cycle receiver : ℕ) (channel : Channel) → Contains (correct_nodes (far_apart_run f)) sender → (far_apart_run f).event cycle sender.id receiver channel ≡ Regular
  regular sender cycle receiver channel there = let correct = (correct_node (far_apart_run f) sender there).correct in rw correct refl

  pub covered : IsSteadySetting (far_apart_run f) 0
  covered = record {
    timed = record {
      sane = is.sane;
      few = is.few;
      least = λ some cycle there late within. no_less (pos (shortest_micro f.params)) f.short f.long (some.id == f.first) is.least is.order;
      most = λ some cycle there late within. no_more (pos (longest_micro f.params)) f.short f.long (some.id == f.first) is.most is.order;
      changes = λ some cycle there late within. itself (amount f.params name.xChangeBound) (if some.id == f.first then f.short else f.long);
      delays = λ sender receiver slot channel cycle linked share late within. itself (amount f.params name.xDelayError) (compensation_of f.params channel *ℤ pos nominal);
      flutters = λ sender receiver slot channel double linked share late within. itself 0 (compensation_of f.params channel *ℤ pos nominal);
    };
    links = λ double late within sender receiver slot linked.
        let shared = is.shares sender receiver slot linked in
        record {
          channel = shared.0;
          share = shared.1;
          even = regular sender (2 * double) receiver.id shared.0 linked.sends;
          odd = regular sender (suc (2 * double)) receiver.id shared.0 linked.sends;
        };
  }

  pub setting : IsSetting (far_apart_run f)
  setting = record {
    sane = is.sane;
    bytes = λ cycle sender receiver channel. of_bytes (f.is_arbitrary sender) (f.said cycle sender receiver channel) (is.bytes cycle sender receiver channel);
  }

  -- the length of a node's first cycle
  first_is : (first : Bool) → (f.params.micros +ℤ pos 0) *ℤ (if first then f.short else f.long) ≡ (if first then f.params.micros *ℤ f.short else f.params.micros *ℤ f.long)
  first_is first = ap (λ (n : ℤ). n *ℤ (if first then f.short else f.long)) (no_rate f.params.micros) ∙ taken_out f.params.micros f.short f.long first

  micros_from : pos 0 ≤ℤ f.params.micros
  micros_from = let s = signed_of f.params is.sane in let from = s.n_from in omega (arith, ints, from)

  in_order : (f.params.micros *ℤ f.short) ≤ℤ (f.params.micros *ℤ f.long)
  in_order = mulz-lez_left f.short f.long f.params.micros is.order micros_from

  pub stated_near : AreStatedNear (far_apart_run f) starts lengths
  stated_near =
      let Near : ℤ → ℤ → Type 0 = λ a b. IsWithin (pos lengths) (a -ℤ b) in
      let shortest : pos (amount f.params name.pMicroPerCycle * shortest_micro f.params) ≡ f.params.micros *ℤ pos (shortest_micro f.params) = times_natural f.params.micros (shortest_micro f.params) micros_from in
      let longest : pos (amount f.params name.pMicroPerCycle * longest_micro f.params) ≡ f.params.micros *ℤ pos (longest_micro f.params) = times_natural f.params.micros (longest_micro f.params) micros_from in
      let low = mulz-lez_left (pos (shortest_micro f.params)) f.short f.params.micros is.least micros_from in
      let high = mulz-lez_left f.long (pos (longest_micro f.params)) f.params.micros is.most micros_from in
      record {
        starts = λ one other here there. let most = is.starts_fit in apart starts (pos 0) (pos f.later) (one.id == f.first) (other.id == f.first) (natural_from f.later) (fits f.later starts most);
        lengths = λ one other here there.
            let a = one.id == f.first in
            let b = other.id == f.first in
            let One : ℤ → Type 0 = λ z. Near z ((f.params.micros +ℤ pos 0) *ℤ (if b then f.short else f.long)) in
            let Other : ℤ → Type 0 = λ z. Near (if a then f.params.micros *ℤ f.short else f.params.micros *ℤ f.long) z in
            subst One (sym (first_is a))
            (subst Other (sym (first_is b)) (apart lengths (f.params.micros *ℤ f.short) (f.params.micros *ℤ f.long) a b in_order is.lengths_fit));
        about = λ some there.
            let a = some.id == f.first in
            subst (IsAboutCycle f.params (pos 0)) (sym (first_is a))
            (record {
              low = above _ _ _ shortest (no_less (f.params.micros *ℤ pos (shortest_micro f.params)) (f.params.micros *ℤ f.short) (f.params.micros *ℤ f.long) a low in_order);
              high = below _ _ _ longest (no_more (f.params.micros *ℤ pos (longest_micro f.params)) (f.params.micros *ℤ f.short) (f.params.micros *ℤ f.long) a high in_order);
            });
      }
    where
      natural_from : (n : ℕ) → pos 0 ≤ℤ pos n
      natural_from n = omega (arith, ints)

      fits : (n most : ℕ) → n ≤ most → (pos n -ℤ pos 0) ≤ℤ pos most
      fits n most le = omega (arith, ints, le)

      above : (a b z : ℤ) → a ≡ b → b ≤ℤ z → (a -ℤ pos 0) ≤ℤ z
      above a b z same le = omega (arith, ints, same, le)

      below : (a b z : ℤ) → a ≡ b → z ≤ℤ b → z ≤ℤ (a +ℤ pos 0)
      below a b z same le = omega (arith, ints, same, le)

-- ---- two running rows lie no further apart than the spread

unhalted : (state : State) → state ≡ Active → not (is_halted state) ≡ true
unhalted state active = rw active refl

pub spread_takes : (p : Values) (cycle : ℕ) (odd : Bool) (rows : List NodeRow) (macrotick : ℕ) (one other : NodeRow) → is_odd cycle ≡ odd → All (λ row. row.state ≡ Active) rows
    → Contains rows one → Contains rows other
    → (instant_of (grid_for p) one odd (pos macrotick) -ℤ instant_of (grid_for p) other odd (pos macrotick)) ≤ℤ spread_at (grid_for p) cycle rows macrotick
unfolding spread_at
spread_takes p cycle odd rows macrotick one other parity active here there =
    let at : Bool → NodeRow → ℤ = λ b row. instant_of (grid_for p) row b (pos macrotick) in
    let run : (row : NodeRow) → Contains rows row → Contains (map (at (is_odd cycle)) (running rows)) (at (is_odd cycle) row) =
    λ row among. contains_map (at (is_odd cycle)) (running rows) row
    (kept_filtered (λ (r : NodeRow). not (is_halted r.state)) rows row among (unhalted row.state (All-contains (λ (r : NodeRow). r.state ≡ Active) rows row active among))) in
    let spread : ℤ = spread_of (map (at (is_odd cycle)) (running rows)) in
    let From : ℤ → Type 0 = λ a. All (λ b. (a -ℤ b) ≤ℤ spread) (map (at (is_odd cycle)) (running rows)) in
    let first : From (at (is_odd cycle) one) =
    All-contains From (map (at (is_odd cycle)) (running rows)) (at (is_odd cycle) one) (within_spread (map (at (is_odd cycle)) (running rows))) (run one here) in
    let both : (at (is_odd cycle) one -ℤ at (is_odd cycle) other) ≤ℤ spread =
    All-contains (λ (b : ℤ). (at (is_odd cycle) one -ℤ b) ≤ℤ spread) (map (at (is_odd cycle)) (running rows)) (at (is_odd cycle) other) first (run other there) in
    let Near : Bool → Type 0 = λ b. (at b one -ℤ at b other) ≤ℤ spread in
    subst Near parity both

-- ---- the rows of the second cycle

-- the instant at which the offset correction of the second cycle starts, of a node with this start and this microtick
abbrev corrects_at : Values → ℤ → ℤ → ℤ
corrects_at p start micro = start +ℤ ((p.micros *ℤ micro) +ℤ (correction_place p *ℤ micro))

not_later : (a : ℤ) → int_lt a a ≡ false
not_later a = grind (arith, ints)

sums : (n r o t s : ℤ) → r ≡ pos 0 → o ≡ pos 0 → (s +ℤ ((n +ℤ r +ℤ o) *ℤ t)) ≡ (s +ℤ (n *ℤ t))
sums n r o t s no_r no_o =
    let whole : (n +ℤ r +ℤ o) ≡ n = omega (arith, ints, no_r, no_o) in
    ap (λ (z : ℤ). s +ℤ (z *ℤ t)) whole

regroup : (a b c : ℤ) → (a +ℤ b) +ℤ c ≡ a +ℤ (b +ℤ c)
regroup a b c = omega (arith, ints)

instant_is : (p : Values) (row : NodeRow) (macrotick : ℕ) (start micro : ℤ) → pos macrotick ≡ p.correction → row.start ≡ start +ℤ (p.micros *ℤ micro) → row.rate ≡ pos 0 → row.length ≡ micro
    → instant_of (grid_for p) row true (pos macrotick) ≡ corrects_at p start micro
instant_is p row macrotick start micro at starts rate long =
    Prim.rw (at, starts, rate, long, not_later p.correction)
    (regroup start (p.micros *ℤ micro) (correction_place p *ℤ micro))

-- of the node that begins first and of another one
starts_as : (own first : ℕ) (a b : ℤ) → own ≡ first → (if own == first then a else b) ≡ a
starts_as own first a b same = let e : (own == first) ≡ true = grind arith in rw e refl

starts_other : (own first : ℕ) (a b : ℤ) → own ≢ first → (if own == first then a else b) ≡ b
starts_other own first a b differ = by (own == first) refl
  where
    by : (t : Bool) → (own == first) ≡ t → (if t then a else b) ≡ b
    by false is = refl
    by true is = absurd (differ (grind arith))

module _ (beside : Bool) (f : Far) (h : Cycles) (w : IsSteadyRun beside (far_apart_run f) 0 h) where
  -- a correct node's row of the second cycle, by its start and its microtick
  second_row : (even odd : Cycle) → IsDoubleOf h 0 [] even odd → (node : NodeSpec) → Contains (correct_nodes (far_apart_run f)) node → (start micro : ℤ)
      → (far_apart_run f).start node.id ≡ start → (far_apart_run f).microtick node.id 0 ≡ micro → (macrotick : ℕ) → pos macrotick ≡ f.params.correction
      → Contains odd.told.rows (row_for odd.told.rows node.id)
      × (instant_of (grid_for f.params) (row_for odd.told.rows node.id) true (pos macrotick) ≡ corrects_at f.params start micro)
  second_row even odd d node there start micro starts lasts macrotick at =
      let x : Setting = far_apart_run f in
      let p : Values = f.params in
      let s = rows_at beside x 0 0 h w 0 (lit≤ tt) [] even odd d in
      let among : Contains (row_nodes x []) node = kept_filtered (λ (n : NodeSpec). true) (correct_nodes x) node there refl in
      let runs = row_runs_by (row_laws x []) (offset_after p (told_of []) even.told) (row_nodes x []) even.told.rows node s.two.even_rows among in
      let two = row_two x [] even odd node s.two refl among in
      let row : NodeRow = row_for even.told.rows node.id in
      let next : NodeRow = row_for odd.told.rows node.id in
      let long : row.length ≡ micro = two.even_length ∙ lasts in
      let begins : row.start ≡ start = runs.start ∙ starts in
      let rate : row.rate ≡ pos 0 = runs.rate in
      let follows : next.start ≡ row.start +ℤ ((p.micros +ℤ row.rate +ℤ row.offset) *ℤ row.length) = two.double.follows in
      let start_is : next.start ≡ start +ℤ (p.micros *ℤ micro) =
      follows ∙ sums p.micros row.rate row.offset row.length row.start rate two.double.no_offset
      ∙ ap (λ (z : ℤ). z +ℤ (p.micros *ℤ row.length)) begins ∙ ap (λ (z : ℤ). start +ℤ (p.micros *ℤ z)) long in
      ((has_row (row_nodes x []) odd.told.rows node s.two.odd_rows.nodes among).there, instant_is p next macrotick start micro at start_is (two.double.same_rate ∙ rate) (two.odd_length ∙ lasts))

  far_reached : (earlier : Cycles) (even odd : Cycle) → IsDoubleOf h 0 earlier even odd → (one other : NodeSpec) → Contains (correct_nodes (far_apart_run f)) one
      → Contains (correct_nodes (far_apart_run f)) other → one.id ≡ f.first → other.id ≢ f.first → (macrotick : ℕ) → pos macrotick ≡ f.params.correction
      → far_skew f ≤ℤ skew_at f.params (told_of h) 1 macrotick
  far_reached [] even odd d one other here there first differ macrotick at =
      let x : Setting = far_apart_run f in
      let p : Values = f.params in
      let early = second_row even odd d one here (pos 0) f.short (starts_as one.id f.first (pos 0) (pos f.later) first) (starts_as one.id f.first f.short f.long first) macrotick at in
      let late = second_row even odd d other there (pos f.later) f.long (starts_other other.id f.first (pos 0) (pos f.later) differ) (starts_other other.id f.first f.short f.long differ) macrotick at in
      let active = (histories_begin_active beside x 0 h w [] even odd d).1 in
      let takes =
      spread_takes p 1 true odd.told.rows macrotick (row_for odd.told.rows other.id) (row_for odd.told.rows one.id) refl active late.0 early.0 in
      let told : record_at (told_of h) 1 ≡ Some odd.told = told_at h 1 ∙ ap (option_map (λ (c : Cycle). c.told)) (odd_is h 0 [] even odd d) in
      let From : Option Record → Type 0 = λ o. far_skew f ≤ℤ option_map_or (λ (r : Record). spread_at (grid_for p) 1 r.rows macrotick) o (pos 0) in
      subst From (sym told)
      (along (corrects_at p (pos f.later) f.long) (corrects_at p (pos 0) f.short) _ _ ((p.micros *ℤ f.short) +ℤ (correction_place p *ℤ f.short)) _ late.1 early.1 (from_start _) takes)
    where
      from_start : (z : ℤ) → pos 0 +ℤ z ≡ z
      from_start z = omega (arith, ints)

      along : (a b at_a at_b c spread : ℤ) → at_a ≡ a → at_b ≡ b → b ≡ c → (at_a -ℤ at_b) ≤ℤ spread → (a -ℤ c) ≤ℤ spread
      along a b at_a at_b c spread first second third takes = omega (arith, ints, first, second, third, takes)
  far_reached (c ∷ earlier) even odd d one other here there first differ macrotick at =
      let counted : suc (length earlier) ≡ 2 * 0 = d.counted in
      absurd (omega (arith, counted))

-- the skew where the offset correction starts
pub reaches : (beside : Bool) (f : Far) → (h : Cycles) → IsSteadyRun beside (far_apart_run f) 0 h → IsSane f.params → HasTwo f
    → far_skew f ≤ℤ skew_at f.params (told_of h) 1 (amount f.params name.gOffsetCorrectionStart)
reaches beside f h w sane two =
    let d = found_at beside (far_apart_run f) 0 0 h w 0 (lit≤ tt) in
    let grid = is_grid_lem f.params sane in
    let at : pos (amount f.params name.gOffsetCorrectionStart) ≡ f.params.correction = sym (natural f.params.correction (let from = grid.correction_from in omega (arith, ints, from))) in
    far_reached beside f h w d.earlier d.even d.odd d.is two.one two.other two.here two.there two.first two.differ (amount f.params name.gOffsetCorrectionStart) at

pub far_runs_reach_sharply : ((x : Setting) (n : ℕ) → IsSetting x → IsLawful x (cycles_of x n)) → ((x : Setting) (n : ℕ) → length (cycles_of x n) ≡ n) → FarRunsReachSharply
far_runs_reach_sharply lawful long beside f is arbitrary two =
    let x : Setting = far_apart_run f in
    let h : Cycles = all_cycles x in
    let pi = sharp_pi beside f.params 0 in
    let lambda = sharp_lambda beside f.params 0 in
    let w = stated_runs_are_steady lawful long beside x 0 0 (setting f pi lambda is) (covered f pi lambda is) arbitrary (none_by (correct_nodes x)) in
    (w, stated_runs_begin_in_sharp_sync beside x 0 h w (stated_near f pi lambda is) (lit≤ tt), reaches beside f h w is.sane two)
