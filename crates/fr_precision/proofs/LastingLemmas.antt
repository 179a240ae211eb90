-- Many double cycles, by the step.
use Rattle.std.proofs.Common.{◌≡◌, ℕ, zero, suc, ◌+◌, ◌*◌, ◌-◌, ◌<◌, ◌≤◌, Bool, true, ℤ, pos, Option, Some, None, IfSome, List, map, All, sym, subst, arith}
use Rattle.std.specs.Prelude.{◌+ℤ◌, ◌*ℤ◌, ◌≤ℤ◌, ◌/◌, Contains}
use Rattle.std.proofs.lemmas.Int.{ints}
use Rattle.std.proofs.lemmas.List.Elements.{All-contains_itself, All-map}
use Rattle.std.proofs.Math.Nat.{le-max_left}
use Rattle.fr_base.specs.declared.node_row.NodeRow.{NodeRow}
use Rattle.fr_base.specs.declared.state.Outcome.TheVariants.{Within}
use Rattle.fr_base.specs.declared.state.State.TheVariants.{Active}
use Rattle.fr_base.specs.Within.{IsWithin}
use Rattle.fr_cluster.specs.Values.{amount, Values}
use Rattle.fr_cluster.specs.Sane.{IsSane}
use Rattle.fr_cluster.specs.declared.names.ParamName.TheVariants as name
use Rattle.fr_time.specs.Position.{floor_of}
use Rattle.fr_bound.specs.Bounds.{longest_micro}
use Rattle.fr_bound.specs.Checks.{holds_of}
use Rattle.fr_precision.specs.Offsets.{LimitSuffices}
use Rattle.fr_precision.specs.Rows.{Sender}
use Rattle.fr_precision.specs.Instants.{gap_of, row_in}
use Rattle.fr_precision.specs.Placement.{IsRegular}
use Rattle.fr_precision.specs.Step.{IsFollowed, Member}
use Rattle.fr_precision.proofs.Senders.{All-along}
use Rattle.fr_bound.specs.SharpBounds.{last_action, near_by, odd_spread, precision_by, rate_walk, sharp_lambda, sharp_near, sharp_pi, walk_lasts}
use Rattle.fr_bound.specs.SharpChecks.{SharpChecksHold}
use Rattle.fr_precision.specs.Lengths.{walked_after}
use Rattle.fr_bound.specs.SharpSpreads.{sharply_apart_in}
use Rattle.fr_bound.specs.SharpSpreads.{IsSharplySettled}
use Rattle.fr_precision.specs.SharpSettling.{sharp_spread_after}
use Rattle.fr_precision.specs.SharpStep.{ActInReach, AreSharp, ComeSharply, ComputesSharply, DrawsTo, IsInSharpSync, IsSharpDouble, IsSharpReach, StaySharp}
use Rattle.fr_precision.specs.SharpRun.{lengths_from, starts_from, AllUncut, AreSharpDoubles, BeginSharp, BeginWithin, DrawInReach, IsNextDouble, KeepsSharp, KeepsToSpreads, SharpDoublesDraw, SharpSpreadsKeep, SharpSyncIsReached, SharpSyncLasts, StaysInSharpSync, WalkLastsAfter, WalkLastsUpTo}
use Rattle.fr_precision.specs.Among.{AreLossyDoubles, GoInReach, LossyDoublesKeep, LossyDoublesStayApart}
use Rattle.fr_precision.specs.declared.kinds.Kinds.{Kinds}
use Rattle.fr_precision.proofs.BoundLemmas.{floor_is, key_slots_act_early, sharp_checks_suffice_lem, walk_is_held, walked_none}
use Rattle.fr_precision.proofs.HeardSteps.{heard_spreads_go}
use Rattle.fr_precision.proofs.SettlingLemmas.{next_spread_draws, next_starts_fit, settled_stays}
use Rattle.fr_precision.proofs.StepLemmas.{act_in_reach, actions_lie_in_reach, limit_of, macroticks_stay_sharp, next_is_near, sharp_is_wider, sharp_sync_draws, sharp_sync_is_kept_lem, spreads_shrink_in_reach}

pub earlier : (p : Values) (flutter k : ℕ) → WalkLastsUpTo p flutter (suc k) → WalkLastsAfter p flutter k
earlier p flutter k before = by (walk_lasts p flutter) before
  where
    by : (o : Option ℕ) → IfSome o (λ lasts. suc k ≤ lasts) → IfSome o (λ lasts. k < lasts)
    by None before = tt
    by (Some lasts) before = omega (arith, before)

pub up_to : (p : Values) (flutter k : ℕ) → WalkLastsAfter p flutter k → WalkLastsUpTo p flutter k
up_to p flutter k before = by (walk_lasts p flutter) before
  where
    by : (o : Option ℕ) → IfSome o (λ lasts. k < lasts) → IfSome o (λ lasts. k ≤ lasts)
    by None before = tt
    by (Some lasts) before = omega (arith, before)

sooner : (k n : ℕ) → suc k < n → k < n
sooner k n less = omega (arith, less)

-- where any two come together, none cuts a term
uncut_of : (p : Values) (next_starts next_lengths : ℕ) (next : ℤ) (nodes : List Member) → ((one other : Member) → Contains nodes one → Contains nodes other → ComeSharply p next_starts next_lengths next one other) → AllUncut nodes
uncut_of p next_starts next_lengths next nodes come =
    All-along (Contains nodes) (λ (node : Member). (node.offset_term.outcome ≡ Within) × (node.rate_term.outcome ≡ Within)) nodes
    (λ node here. let both = come node node here here in (both.uncut, both.range.uncut)) (All-contains_itself nodes)

-- the rows of a next double cycle are of active nodes
Active_in : List NodeRow → Type 0
Active_in rows = All (λ (row : NodeRow). row.state ≡ Active) rows

next_active : (p : Values) (nodes next_nodes : List Member) → IsNextDouble p nodes next_nodes → Active_in (map (λ (node : Member). node.even) next_nodes) × Active_in (map (λ (node : Member). node.odd) next_nodes)
unfolding Active_in
next_active p nodes next_nodes next =
    let Followed : Member → Type 0 = λ node. IsFollowed p node (next.next_even node) (next.next_odd node) in
    let Are : List NodeRow → Type 0 = λ rows. All (λ (row : NodeRow). row.state ≡ Active) rows in
    let evens : Are (map next.next_even nodes) =
    All-map (λ (row : NodeRow). row.state ≡ Active) next.next_even nodes (All-along Followed (λ node. (next.next_even node).state ≡ Active) nodes (λ node is. is.active_even) next.followed) in
    let odds : Are (map next.next_odd nodes) =
    All-map (λ (row : NodeRow). row.state ≡ Active) next.next_odd nodes (All-along Followed (λ node. (next.next_odd node).state ≡ Active) nodes (λ node is. is.active_odd) next.followed) in
    (subst Are (sym next.evens) evens, subst Are (sym next.odds) odds)

-- ---- by the step, whatever says that action points lie within the reach

module _ (beside : Bool) (p : Values) (flutter doubles : ℕ) (starts lengths : ℕ → ℕ) (senders : ℕ → List Sender) (nodes : ℕ → List Member) (reach last : ℤ)
    (are : AreSharpDoubles beside p flutter doubles starts lengths senders nodes last) (draws : (k : ℕ) → DrawsTo beside p flutter (starts k) (lengths k) (starts (suc k)) (lengths (suc k)))
    (suffices : LimitSuffices p reach) (early : last ≤ℤ p.correction)
    (acting : (k : ℕ) → k < doubles → WalkLastsAfter p flutter k → BeginSharp p (walked_after p flutter) starts lengths nodes k → ActInReach p reach last (nodes k)) where
  come_of : (k : ℕ) → k < doubles → WalkLastsAfter p flutter k → BeginSharp p (walked_after p flutter) starts lengths nodes k → (one other : Member) → Contains (nodes k) one → Contains (nodes k) other
      → ComeSharply p (starts (suc k)) (lengths (suc k)) (walked_after p flutter (suc k)) one other
  come_of k short before begin one other here there =
      let held = walk_is_held p flutter k are.sane are.second before in
      spreads_shrink_in_reach beside p flutter (senders k) (nodes k) (starts k) (lengths k) (starts (suc k)) (lengths (suc k)) (walked_after p flutter k) (rate_walk p flutter) (walked_after p flutter (suc k)) reach last one other
      (record { sane = are.sane; walks = held.0; suffices = suffices; early = early }) (acting k short before begin) held.1 held.2 (draws k) begin.sharp (are.heard k short before begin) here there

  begins_after : AreSharp p (starts 0) (lengths 0) (pos 0) (map (λ (node : Member). node.even) (nodes 0)) → (k : ℕ) → k < doubles → WalkLastsUpTo p flutter k → BeginSharp p (walked_after p flutter) starts lengths nodes k
  unfolding Active_in
  begins_after first zero short before =
      let At : ℤ → Type 0 = λ beyond. AreSharp p (starts 0) (lengths 0) beyond (map (λ (node : Member). node.even) (nodes 0)) in
      record { sharp = subst At (sym (walked_none p flutter)) first; active = tt }
  begins_after first (suc k) short before =
      let now = sooner k doubles short in
      let still = earlier p flutter k before in
      let begin = begins_after first k now (up_to p flutter k still) in
      let come = come_of k now still begin in
      let next = are.follows k short still begin (uncut_of p (starts (suc k)) (lengths (suc k)) (walked_after p flutter (suc k)) (nodes k) come) in
      let At : List NodeRow → Type 0 = λ rows. AreSharp p (starts (suc k)) (lengths (suc k)) (walked_after p flutter (suc k)) rows in
      record {
        sharp =
            subst At (sym next.evens)
            (next_is_near p (nodes k) (starts (suc k)) (lengths (suc k)) (walked_after p flutter (suc k)) next.next_even next.next_odd come next.followed);
        active = next_active p (nodes k) (nodes (suc k)) next;
      }

  pub doubles_draw : AreSharp p (starts 0) (lengths 0) (pos 0) (map (λ (node : Member). node.even) (nodes 0)) → (k : ℕ) → k < doubles → KeepsSharp p flutter (walked_after p flutter) starts lengths nodes k
  doubles_draw first k short =
      let begins = begins_after first k short in
      record { begins = begins; come = λ before. come_of k short before (begins (up_to p flutter k before)) }

-- the numbers of one of them
reach_of : (beside : Bool) (p : Values) (flutter doubles : ℕ) (starts lengths : ℕ → ℕ) (reach last : ℤ) → IsSane p → holds_of 2 p ≡ true → DrawInReach beside p flutter doubles starts lengths reach last
    → (k : ℕ) → k < doubles → WalkLastsAfter p flutter k → IsSharpReach p flutter (starts k) (lengths k) (walked_after p flutter k) (rate_walk p flutter) reach last
reach_of beside p flutter doubles starts lengths reach last sane second draw k short before = record {
  sane = sane;
  walks = (walk_is_held p flutter k sane second before).0;
  suffices = draw.suffices;
  early = draw.early;
  fits = draw.fits k short;
}

pub sharp_doubles_draw : SharpDoublesDraw
sharp_doubles_draw beside p flutter doubles starts lengths senders nodes reach last are draw first k short =
    doubles_draw beside p flutter doubles starts lengths senders nodes reach last are draw.draws draw.suffices draw.early
    (λ k short before begin.
    act_in_reach beside p flutter (senders k) (nodes k) (starts k) (lengths k) (walked_after p flutter k) (rate_walk p flutter) reach last
    (reach_of beside p flutter doubles starts lengths reach last are.sane are.second draw k short before) begin.sharp (are.heard k short before begin))
    first k short

-- ---- in sharp sync

-- the reach takes in how far action points lie apart
pub near_fits : (p : Values) (starts lengths reach : ℕ) → IsSane p → near_by p starts lengths ≤ reach
    → (pos starts +ℤ pos lengths +ℤ floor_of (pos (last_action p) *ℤ pos (odd_spread p lengths)) p.macros +ℤ pos (longest_micro p)) ≤ℤ pos reach
near_fits p starts lengths reach sane le =
    let macros = sane.ranges name.gMacroPerCycle in
    step starts lengths (last_action p * odd_spread p lengths / amount p name.gMacroPerCycle) (longest_micro p) reach (floor_of (pos (last_action p) *ℤ pos (odd_spread p lengths)) p.macros)
    (floor_is (last_action p) (odd_spread p lengths) p.macros (omega (arith, ints, macros.0))) le
  where
    step : (s l f q r : ℕ) (x : ℤ) → x ≡ pos f → s + l + f + q ≤ r → (pos s +ℤ pos l +ℤ x +ℤ pos q) ≤ℤ pos r
    step s l f q r x is le = omega (arith, ints)

le_itself : (n : ℕ) → n ≤ n
le_itself n = omega arith

sync_reach : (beside : Bool) (p : Values) (flutter doubles : ℕ) → IsSane p → SharpChecksHold flutter (sharp_near beside p flutter) p
    → DrawInReach beside p flutter doubles (λ k. sharp_pi beside p flutter) (λ k. sharp_lambda beside p flutter) (pos (sharp_near beside p flutter)) (pos (last_action p))
sync_reach beside p flutter doubles sane checks = record {
  draws = λ k. sharp_sync_draws beside p flutter;
  suffices = (sharp_checks_suffice_lem p flutter (sharp_near beside p flutter) sane checks).0;
  early = (key_slots_act_early p sane).1;
  fits = λ k short. near_fits p (sharp_pi beside p flutter) (sharp_lambda beside p flutter) (sharp_near beside p flutter) sane (le_itself (sharp_near beside p flutter));
}

-- where all begin with pi and lambda, and are active in the first too, they are in sharp sync
sync_of : (beside : Bool) (p : Values) (flutter : ℕ) (nodes : ℕ → List Member) → IsInSharpSync beside p flutter (pos 0) (map (λ (node : Member). node.even) (nodes 0)) (map (λ (node : Member). node.odd) (nodes 0))
    → (k : ℕ) → BeginSharp p (walked_after p flutter) (λ k. sharp_pi beside p flutter) (λ k. sharp_lambda beside p flutter) nodes k
    → IsInSharpSync beside p flutter (walked_after p flutter k) (map (λ (node : Member). node.even) (nodes k)) (map (λ (node : Member). node.odd) (nodes k))
sync_of beside p flutter nodes first zero begin = record { active_even = first.active_even; active_odd = first.active_odd; rows = begin.sharp }
sync_of beside p flutter nodes first (suc k) begin = record { active_even = begin.active.0; active_odd = begin.active.1; rows = begin.sharp }

pub sharp_sync_lasts_lem : SharpSyncLasts
sharp_sync_lasts_lem beside p flutter doubles senders nodes are checks first k short =
    let pi : ℕ → ℕ = λ k. sharp_pi beside p flutter in
    let lambda : ℕ → ℕ = λ k. sharp_lambda beside p flutter in
    let draw = sync_reach beside p flutter doubles are.sane checks in
    let keeps = sharp_doubles_draw beside p flutter doubles pi lambda senders nodes (pos (sharp_near beside p flutter)) (pos (last_action p)) are draw first.rows k short in
    record {
      sync = λ before. sync_of beside p flutter nodes first k (keeps.begins before);
      stay =
          λ before.
          let begin = keeps.begins (up_to p flutter k before) in
          let held = walk_is_held p flutter k are.sane are.second before in
          sharp_sync_is_kept_lem beside p flutter (senders k) (nodes k) (walked_after p flutter k) (rate_walk p flutter) (walked_after p flutter (suc k)) are.sane checks held.0 held.1 held.2
          (sync_of beside p flutter nodes first k begin) (are.heard k short before begin);
    }

-- ---- from stated numbers

pub spread_draws : (beside : Bool) (p : Values) (flutter start rate k : ℕ)
    → DrawsTo beside p flutter (starts_from beside p flutter start rate k) (lengths_from beside p flutter start rate k) (starts_from beside p flutter start rate (suc k)) (lengths_from beside p flutter start rate (suc k))
unfolding sharp_spread_after
spread_draws beside p flutter start rate k = next_spread_draws beside p flutter (sharp_spread_after beside p flutter start rate k)

pub first_spread_is : (beside : Bool) (p : Values) (flutter start rate : ℕ) → (start ≤ starts_from beside p flutter start rate 0) × (rate ≤ lengths_from beside p flutter start rate 0)
unfolding sharp_spread_after
first_spread_is beside p flutter start rate = (le-max_left start (sharp_pi beside p flutter), le-max_left rate (sharp_lambda beside p flutter))

pub nothing : pos 0 ≤ℤ pos 0
nothing = omega (arith, ints)

spreads_keep : (beside : Bool) (p : Values) (flutter start rate reach doubles : ℕ) (senders : ℕ → List Sender) (nodes : ℕ → List Member) → BeginWithin beside p flutter start rate reach doubles senders nodes → (k : ℕ) → k < doubles
    → KeepsSharp p flutter (walked_after p flutter) (starts_from beside p flutter start rate) (lengths_from beside p flutter start rate) nodes k
spreads_keep beside p flutter start rate reach doubles senders nodes begin k short =
    let are = begin.doubles_are in
    let starts : ℕ → ℕ = starts_from beside p flutter start rate in
    let lengths : ℕ → ℕ = lengths_from beside p flutter start rate in
    let draw : DrawInReach beside p flutter doubles starts lengths (pos reach) (pos (last_action p)) = record {
      draws = λ m. spread_draws beside p flutter start rate m;
      suffices = (sharp_checks_suffice_lem p flutter reach are.sane begin.checks).0;
      early = (key_slots_act_early p are.sane).1;
      fits = λ m within. near_fits p (starts m) (lengths m) reach are.sane (begin.near m within);
    } in
    let wide = first_spread_is beside p flutter start rate in
    let from = sharp_is_wider p start rate (starts 0) (lengths 0) (pos 0) (pos 0) (map (λ (node : Member). node.even) (nodes 0)) wide.0 wide.1 nothing begin.first in
    sharp_doubles_draw beside p flutter doubles starts lengths senders nodes (pos reach) (pos (last_action p)) are draw from k short

pub all_regular : (beside : Bool) (p : Values) (flutter : ℕ) (senders : List Sender) (nodes : List Member) (last : ℤ) → IsSharpDouble beside p flutter senders nodes last → All (λ (node : Member). IsRegular p node.even node.odd) nodes
all_regular beside p flutter senders nodes last heard = All-along (ComputesSharply p flutter senders) (λ (node : Member). IsRegular p node.even node.odd) nodes (λ node computes. computes.regular) heard.computes

-- while the walk lasts, no macrotick of any two lies further apart than the spread says
pub keeps_to_spreads : (beside : Bool) (p : Values) (flutter start rate doubles : ℕ) (senders : ℕ → List Sender) (nodes : ℕ → List Member)
    → AreSharpDoubles beside p flutter doubles (starts_from beside p flutter start rate) (lengths_from beside p flutter start rate) senders nodes (pos (last_action p)) → (k : ℕ) → k < doubles
    → KeepsSharp p flutter (walked_after p flutter) (starts_from beside p flutter start rate) (lengths_from beside p flutter start rate) nodes k → KeepsToSpreads beside p flutter start rate nodes k
keeps_to_spreads beside p flutter start rate doubles senders nodes are k short keeps =
    let starts : ℕ → ℕ = starts_from beside p flutter start rate in
    let lengths : ℕ → ℕ = lengths_from beside p flutter start rate in
    record {
      keeps = keeps;
      precise =
          λ before one other macrotick is_odd here there from_first to_last.
          let now = keeps.begins (up_to p flutter k before) in
          macroticks_stay_sharp p (starts k) (lengths k) (starts (suc k)) (lengths (suc k)) (walked_after p flutter k) (walked_after p flutter (suc k)) (nodes k) one other
          (sharply_apart_in p (sharp_spread_after beside p flutter start rate k)) macrotick is_odd are.sane now.sharp
          (all_regular beside p flutter (senders k) (nodes k) (pos (last_action p)) (are.heard k short before now)) here there (keeps.come before one other here there)
          (le_itself (sharply_apart_in p (sharp_spread_after beside p flutter start rate k))) (next_starts_fit beside p flutter start rate k) from_first to_last;
    }

pub sharp_spreads_keep : SharpSpreadsKeep
sharp_spreads_keep beside p flutter start rate reach doubles senders nodes begin k short =
    keeps_to_spreads beside p flutter start rate doubles senders nodes begin.doubles_are k short (spreads_keep beside p flutter start rate reach doubles senders nodes begin k short)

-- ---- at rest

settled_further : (beside : Bool) (p : Values) (flutter start rate rest more : ℕ) → IsSharplySettled beside p flutter (sharp_spread_after beside p flutter start rate rest)
    → IsSharplySettled beside p flutter (sharp_spread_after beside p flutter start rate (rest + more))
unfolding sharp_spread_after
settled_further beside p flutter start rate rest zero settled =
    let same : rest ≡ rest + 0 = omega arith in
    subst (λ (n : ℕ). IsSharplySettled beside p flutter (sharp_spread_after beside p flutter start rate n)) same settled
settled_further beside p flutter start rate rest (suc more) settled =
    let next : suc (rest + more) ≡ rest + suc more = omega arith in
    subst (λ (n : ℕ). IsSharplySettled beside p flutter (sharp_spread_after beside p flutter start rate n)) next
    (settled_stays beside p flutter (sharp_spread_after beside p flutter start rate (rest + more)) (settled_further beside p flutter start rate rest more settled))

pub settled_after : (beside : Bool) (p : Values) (flutter start rate rest k : ℕ) → IsSharplySettled beside p flutter (sharp_spread_after beside p flutter start rate rest) → rest ≤ k
    → IsSharplySettled beside p flutter (sharp_spread_after beside p flutter start rate k)
settled_after beside p flutter start rate rest k settled le =
    let same : rest + (k - rest) ≡ k = omega (arith, le) in
    subst (λ (n : ℕ). IsSharplySettled beside p flutter (sharp_spread_after beside p flutter start rate n)) same (settled_further beside p flutter start rate rest (k - rest) settled)

-- all of some nodes are active in both cycles
abbrev pub AllActive : List Member → Type 0
AllActive nodes = All (λ (row : NodeRow). row.state ≡ Active) (map (λ (node : Member). node.even) nodes) × All (λ (row : NodeRow). row.state ≡ Active) (map (λ (node : Member). node.odd) nodes)

-- as they are behind the first double cycle
pub active_later : (p : Values) (flutter : ℕ) (starts lengths : ℕ → ℕ) (nodes : ℕ → List Member) (rest k : ℕ) → 1 ≤ rest → rest ≤ k → BeginSharp p (walked_after p flutter) starts lengths nodes k → AllActive (nodes k)
active_later p flutter starts lengths nodes rest zero from le begin = absurd (omega (arith, from, le))
active_later p flutter starts lengths nodes rest (suc k) from le begin = begin.active

-- a spread at rest is that of sharp sync
sync_at : (beside : Bool) (p : Values) (flutter start rate : ℕ) (nodes : ℕ → List Member) (k : ℕ) → AllActive (nodes k) → IsSharplySettled beside p flutter (sharp_spread_after beside p flutter start rate k)
    → BeginSharp p (walked_after p flutter) (starts_from beside p flutter start rate) (lengths_from beside p flutter start rate) nodes k
    → IsInSharpSync beside p flutter (walked_after p flutter k) (map (λ (node : Member). node.even) (nodes k)) (map (λ (node : Member). node.odd) (nodes k))
sync_at beside p flutter start rate nodes k active settled begin =
    let evens = map (λ (node : Member). node.even) (nodes k) in
    let Starts : ℕ → Type 0 = λ n. AreSharp p n (lengths_from beside p flutter start rate k) (walked_after p flutter k) evens in
    let Lengths : ℕ → Type 0 = λ n. AreSharp p (sharp_pi beside p flutter) n (walked_after p flutter k) evens in
    record { active_even = active.0; active_odd = active.1; rows = subst Lengths settled.0 (subst Starts settled.1 begin.sharp) }

stay_at : (beside : Bool) (p : Values) (flutter start rate k : ℕ) (next : ℤ) (one other : Member) → IsSharplySettled beside p flutter (sharp_spread_after beside p flutter start rate k)
    → IsSharplySettled beside p flutter (sharp_spread_after beside p flutter start rate (suc k))
    → ComeSharply p (starts_from beside p flutter start rate (suc k)) (lengths_from beside p flutter start rate (suc k)) next one other
    → ((macrotick : ℤ) (is_odd : Bool) → pos 0 ≤ℤ macrotick → macrotick ≤ℤ p.macros
    → IsWithin (pos (sharply_apart_in p (sharp_spread_after beside p flutter start rate k))) (gap_of p is_odd macrotick (row_in is_odd one.even one.odd) (row_in is_odd other.even other.odd)))
    → StaySharp beside p flutter next one other
stay_at beside p flutter start rate k next one other settled later come precise =
    let Starts : ℕ → Type 0 = λ n. ComeSharply p n (lengths_from beside p flutter start rate (suc k)) next one other in
    let Lengths : ℕ → Type 0 = λ n. ComeSharply p (sharp_pi beside p flutter) n next one other in
    record {
      come = subst Lengths later.0 (subst Starts later.1 come);
      precise =
          λ macrotick is_odd from to.
          let gap = gap_of p is_odd macrotick (row_in is_odd one.even one.odd) (row_in is_odd other.even other.odd) in
          let First : ℕ → Type 0 = λ n. IsWithin (pos (precision_by p n (lengths_from beside p flutter start rate k))) gap in
          let Second : ℕ → Type 0 = λ n. IsWithin (pos (precision_by p (sharp_pi beside p flutter) n)) gap in
          subst Second settled.0 (subst First settled.1 (precise macrotick is_odd from to));
    }

pub stays_at_rest : (beside : Bool) (p : Values) (flutter start rate rest : ℕ) (nodes : ℕ → List Member) (k : ℕ)
    → (BeginSharp p (walked_after p flutter) (starts_from beside p flutter start rate) (lengths_from beside p flutter start rate) nodes k → AllActive (nodes k))
    → IsSharplySettled beside p flutter (sharp_spread_after beside p flutter start rate rest) → rest ≤ k → KeepsToSpreads beside p flutter start rate nodes k → StaysInSharpSync beside p flutter nodes k
stays_at_rest beside p flutter start rate rest nodes k active settled le kept =
    let now = settled_after beside p flutter start rate rest k settled le in
    let later = settled_after beside p flutter start rate rest (suc k) settled (more rest k le) in
    record {
      sync = λ before. let begin = kept.keeps.begins before in sync_at beside p flutter start rate nodes k (active begin) now begin;
      stay =
          λ before one other here there.
          stay_at beside p flutter start rate k (walked_after p flutter (suc k)) one other now later (kept.keeps.come before one other here there)
          (λ macrotick is_odd from_first to_last. kept.precise before one other macrotick is_odd here there from_first to_last);
    }
  where
    more : (a b : ℕ) → a ≤ b → a ≤ suc b
    more a b le = omega (arith, le)

pub sharp_sync_is_reached : SharpSyncIsReached
sharp_sync_is_reached beside p flutter start rate reach doubles rest senders nodes begin from settled k le short =
    stays_at_rest beside p flutter start rate rest nodes k (active_later p flutter (starts_from beside p flutter start rate) (lengths_from beside p flutter start rate) nodes rest k from le) settled le
    (sharp_spreads_keep beside p flutter start rate reach doubles senders nodes begin k short)

-- ---- by what is heard

regular_by : (nodes : List Member) (p : Values) → ((node : Member) → Contains nodes node → IsRegular p node.even node.odd) → All (λ (node : Member). IsRegular p node.even node.odd) nodes
regular_by nodes p regular = All-along (Contains nodes) (λ (node : Member). IsRegular p node.even node.odd) nodes (λ node here. regular node here) (All-contains_itself nodes)

module _ (p : Values) (flutter doubles : ℕ) (what : ℕ → Kinds) (keeps : ℕ → Bool) (beyond : ℕ → ℤ) (starts lengths : ℕ → ℕ) (senders : ℕ → List Sender) (nodes : ℕ → List Member) (reach last : ℤ)
    (are : AreLossyDoubles p flutter doubles what keeps beyond starts lengths senders nodes last) (go : GoInReach p flutter doubles what keeps beyond starts lengths reach last) where
  lossy_come : (k : ℕ) → k < doubles → WalkLastsAfter p flutter k → BeginSharp p beyond starts lengths nodes k → (one other : Member) → Contains (nodes k) one → Contains (nodes k) other
      → ComeSharply p (starts (suc k)) (lengths (suc k)) (beyond (suc k)) one other
  lossy_come k short before begin one other here there =
      let heard = are.heard k short before begin in
      let is : IsSharpReach p flutter (starts k) (lengths k) (beyond k) (rate_walk p flutter) reach last =
      record { sane = are.sane; walks = go.walks k short before; suffices = go.suffices; early = go.early; fits = go.fits k short } in
      heard_spreads_go (what k) (keeps k) p flutter (senders k) (nodes k) (starts k) (lengths k) (starts (suc k)) (lengths (suc k)) (beyond k) (rate_walk p flutter) (beyond (suc k)) reach last one other
      (limit_of p flutter (starts k) (lengths k) (beyond k) (rate_walk p flutter) reach last is)
      (λ is_odd x y action at also from to.
      actions_lie_in_reach p flutter (starts k) (lengths k) (beyond k) (rate_walk p flutter) reach last action is_odd (nodes k) x y is begin.sharp (regular_by (nodes k) p heard.regular) at also from to)
      (go.from_range k short before) (go.takes_walk k short before) (go.takes_changes k short before) (go.goes k) begin.sharp heard here there

  lossy_begins : AreSharp p (starts 0) (lengths 0) (beyond 0) (map (λ (node : Member). node.even) (nodes 0)) → (k : ℕ) → k < doubles → WalkLastsUpTo p flutter k → BeginSharp p beyond starts lengths nodes k
  unfolding Active_in
  lossy_begins first zero short before = record { sharp = first; active = tt }
  lossy_begins first (suc k) short before =
      let now = sooner k doubles short in
      let still = earlier p flutter k before in
      let begin = lossy_begins first k now (up_to p flutter k still) in
      let come = lossy_come k now still begin in
      let next = are.follows k short still begin (uncut_of p (starts (suc k)) (lengths (suc k)) (beyond (suc k)) (nodes k) come) in
      let At : List NodeRow → Type 0 = λ rows. AreSharp p (starts (suc k)) (lengths (suc k)) (beyond (suc k)) rows in
      record {
        sharp =
            subst At (sym next.evens)
            (next_is_near p (nodes k) (starts (suc k)) (lengths (suc k)) (beyond (suc k)) next.next_even next.next_odd come next.followed);
        active = next_active p (nodes k) (nodes (suc k)) next;
      }

pub lossy_doubles_keep : LossyDoublesKeep
lossy_doubles_keep p flutter doubles what keeps beyond starts lengths senders nodes reach last are go first k short =
    let begins = lossy_begins p flutter doubles what keeps beyond starts lengths senders nodes reach last are go first k short in
    record {
      begins = begins;
      come = λ before. lossy_come p flutter doubles what keeps beyond starts lengths senders nodes reach last are go k short before (begins (up_to p flutter k before));
    }

pub lossy_doubles_stay_apart : LossyDoublesStayApart
lossy_doubles_stay_apart p flutter doubles what keeps beyond starts lengths senders nodes reach last are go first k apart one other macrotick is_odd short before fits ends_fit here there from to =
    let kept = lossy_doubles_keep p flutter doubles what keeps beyond starts lengths senders nodes reach last are go first k short in
    let begin = kept.begins (up_to p flutter k before) in
    macroticks_stay_sharp p (starts k) (lengths k) (starts (suc k)) (lengths (suc k)) (beyond k) (beyond (suc k)) (nodes k) one other apart macrotick is_odd are.sane begin.sharp
    (regular_by (nodes k) p (are.heard k short before begin).regular) here there (kept.come before one other here there) fits ends_fit from to
