-- The run that files decide where nodes join and frames are lost: it is as the law of losses asks for, so it keeps to the bounds by what
-- is heard.
use Rattle.std.proofs.Common.{◌≡◌, ℕ, zero, suc, ◌+◌, ◌-◌, ◌*◌, ◌/◌, ◌<◌, ◌≤◌, Bool, true, false, Some, refl, ap, sym, ◌∙◌, subst, arith}
use Rattle.std.specs.Prelude.{max, Contains}
use Rattle.std.proofs.Math.Nat.{le-max_left}
use Rattle.fr_cluster.specs.Questions.{node_of}
use Rattle.fr_cluster.specs.Sane.{IsSane}
use Rattle.fr_cluster.specs.Setting.{correct_nodes, Setting}
use Rattle.fr_cluster.specs.Values.{Values, amount}
use Rattle.fr_cluster.specs.declared.join.Join.{Join}
use Rattle.fr_cluster.specs.declared.nodes.NodeSpec.{NodeSpec}
use Rattle.fr_cluster.specs.declared.names.ParamName.TheVariants as name
use Rattle.fr_drift.specs.Questions.{doubles_of}
use Rattle.fr_drift.specs.View.{DriftView}
use Rattle.fr_history.specs.Cycles.{Cycles}
use Rattle.fr_runs.specs.Links.{IsCarried}
use Rattle.fr_runs.proofs.Nodes.{correct_node, node_there}
use Rattle.fr_script.specs.Files.{ScriptFits}
use Rattle.fr_script.specs.View.{join_of, ScriptView}
use Rattle.fr_bound.specs.Bounds.{arrival_error, cycle_change, longest_micro}
use Rattle.fr_bound.specs.SharpBounds.{near_by, sharp_lambda, sharp_pi, steady_error}
use Rattle.fr_bound.specs.declared.judging.Heard.{Heard}
use Rattle.fr_bound.specs.declared.judging.Heard.TheVariants.{Clean, Meeting, Poor}
use Rattle.fr_bound.specs.declared.settling.Spread.{Spread}
use Rattle.fr_coverage.specs.Decided.{setting_of}
use Rattle.fr_precision.specs.Among.{apart_through_losses, kinds_spread, spread_through_losses, IsNot, LaterSpreadsAreLess}
use Rattle.fr_precision.specs.declared.kinds.Kinds.{Kinds}
use Rattle.fr_promise.specs.JoinedHistories.{FirstRatesLast, IsJoinedUpTo}
use Rattle.fr_promise.specs.SharpJoined.{IsReferenceCarried}
use Rattle.fr_promise.specs.SharpTested.{IsUnfollowedSharpSyncAt}
use Rattle.fr_promise.specs.Statement.{IsRunOf}
use Rattle.fr_promise.specs.SharpJoining.{all_heard, first_apart_by, first_lengths_by, group_spread_through, second_apart_by, sharp_first_lengths, sharp_group_spread, GroupSpread}
use Rattle.fr_promise.proofs.Drifts.{drift_of_a_file_fits}
use Rattle.fr_promise.proofs.JoinedListeners.{listener_joins_up_to, IsListenedRun}
use Rattle.fr_promise.proofs.JoinBounds.{group_spreads_go, near_grows}
use Rattle.fr_sharp.specs.JoinedLosses.{IsLossyJoinedFrom, JoinedHistoriesKeepThroughLosses, StaysThrough, TakesInJoining}
use Rattle.fr_sharp.specs.JoinedLossStatement.{comes_in_both, group_since, CoveredFilesKeepJoinedThroughLosses, IsCoveredToJoinThroughLosses, JoinedFilesKeepThroughLosses, LossyFilesGiveJoinedRuns}
use Rattle.fr_sharp.specs.LossStatement.{apart_since, without_losses}
use Rattle.fr_sharp.specs.SharpStatement.{has_arbitrary}
use Rattle.fr_traffic.specs.Traffic.{heard_in, traffic_in}
use Rattle.fr_sharp.proofs.FromFiles.{arbitrary_is_told, files_are_steady}
use Rattle.fr_sharp.proofs.HeardKinds.{carried_in_both}
use Rattle.fr_sharp.proofs.FromLossyFiles.{later_since, none_is_clean, same_flutter, same_times}
use Rattle.fr_sharp.proofs.LossBurstLaws.{apart_later}
use Rattle.fr_sharp.proofs.JoinedFromFiles.{have_references, reference_starts, script_of_a_file_fits}

pub lossy_files_give_joined_runs : LossyFilesGiveJoinedRuns
lossy_files_give_joined_runs p d s from flutter reach h sane fits covered run =
    let Fits : ℕ → Type 0 = λ n. n ≤ flutter in
    let steady = files_are_steady p d (without_losses s) from flutter sane covered.none (subst Fits (sym (same_flutter p d s from)) covered.flutters) in
    record {
      covered = same_times p d s from flutter steady.timed;
      arbitrary = arbitrary_is_told p d s;
      referenced = have_references p d s fits;
      lawful = run.lawful;
      whole = run.whole;
      hears = covered.hears;
    }

-- ---- greater bounds go to greater ones

-- no bound of the one is above that of the other
record IsBelow (one other : GroupSpread) : Type 0 where
  starts : one.rows.starts ≤ other.rows.starts
  lengths : one.rows.lengths ≤ other.rows.lengths
  seconds : one.seconds ≤ other.seconds
  first_starts : one.firsts.starts ≤ other.firsts.starts
  first_lengths : one.firsts.lengths ≤ other.firsts.lengths

clean_step : (j e q f f' : ℕ) → f ≤ f' → (f + 2 * j) + 2 * e + 3 * q ≤ (f' + 2 * j) + 2 * e + 3 * q
clean_step j e q f f' c = omega (arith, c)

meeting_step : (j e q s l f s' l' f' : ℕ) → s ≤ s' → l ≤ l' → f ≤ f'
    → (s + l + 2 * (f + 2 * j) + 4 * e + 7 * q) / 2 ≤ (s' + l' + 2 * (f' + 2 * j) + 4 * e + 7 * q) / 2
meeting_step j e q s l f s' l' f' a b c = omega arith

poor_step : (j e q s l f s' l' f' : ℕ) → s ≤ s' → l ≤ l' → f ≤ f' → s + l + (f + 2 * j) + 2 * e + 3 * q ≤ s' + l' + (f' + 2 * j) + 2 * e + 3 * q
poor_step j e q s l f s' l' f' a b c = omega (arith, a, b, c)

clean_meets : (j e q f s' l' f' : ℕ) → f ≤ f' → (f + 2 * j) + 2 * e + 3 * q ≤ (s' + l' + 2 * (f' + 2 * j) + 4 * e + 7 * q) / 2
clean_meets j e q f s' l' f' c = omega arith

clean_is_poor : (j e q f s' l' f' : ℕ) → f ≤ f' → (f + 2 * j) + 2 * e + 3 * q ≤ s' + l' + (f' + 2 * j) + 2 * e + 3 * q
clean_is_poor j e q f s' l' f' c = omega (arith, c)

meeting_is_poor : (j e q s l f s' l' f' : ℕ) → s ≡ 3 * l + 4 * j + 4 * e + 7 * q → s ≤ s' → l ≤ l' → f ≤ f'
    → (s + l + 2 * (f + 2 * j) + 4 * e + 7 * q) / 2 ≤ s' + l' + (f' + 2 * j) + 2 * e + 3 * q
meeting_is_poor j e q s l f s' l' f' is a b c = omega arith

seconds_grow : (what : Heard) (p : Values) (s l f s' l' f' : ℕ) → s ≤ s' → l ≤ l' → f ≤ f' → second_apart_by what p s l f ≤ second_apart_by what p s' l' f'
seconds_grow Clean p s l f s' l' f' a b c = clean_step (cycle_change p) (arrival_error p) (longest_micro p) f f' c
seconds_grow Meeting p s l f s' l' f' a b c = meeting_step (cycle_change p) (arrival_error p) (longest_micro p) s l f s' l' f' a b c
seconds_grow Poor p s l f s' l' f' a b c = poor_step (cycle_change p) (arrival_error p) (longest_micro p) s l f s' l' f' a b c

-- from sharp sync whatever is heard
sharp_seconds : (beside : Bool) (what : Heard) (p : Values) (flutter s' l' f' : ℕ) → (beside ≡ true → what ≡ Clean → ⊥) → sharp_pi beside p flutter ≤ s' → sharp_lambda beside p flutter ≤ l' → sharp_first_lengths beside p flutter ≤ f'
    → second_apart_by (all_heard beside) p (sharp_pi beside p flutter) (sharp_lambda beside p flutter) (sharp_first_lengths beside p flutter) ≤ second_apart_by what p s' l' f'
sharp_seconds false Clean p flutter s' l' f' never a b c = clean_step (cycle_change p) (arrival_error p) (longest_micro p) (sharp_first_lengths false p flutter) f' c
sharp_seconds false Meeting p flutter s' l' f' never a b c = clean_meets (cycle_change p) (arrival_error p) (longest_micro p) (sharp_first_lengths false p flutter) s' l' f' c
sharp_seconds false Poor p flutter s' l' f' never a b c = clean_is_poor (cycle_change p) (arrival_error p) (longest_micro p) (sharp_first_lengths false p flutter) s' l' f' c
sharp_seconds true Clean p flutter s' l' f' never a b c = absurd (never refl refl)
sharp_seconds true Meeting p flutter s' l' f' never a b c =
    meeting_step (cycle_change p) (arrival_error p) (longest_micro p) (sharp_pi true p flutter) (sharp_lambda true p flutter) (sharp_first_lengths true p flutter) s' l' f' a b c
sharp_seconds true Poor p flutter s' l' f' never a b c =
    meeting_is_poor (cycle_change p) (arrival_error p) (longest_micro p) (sharp_pi true p flutter) (sharp_lambda true p flutter) (sharp_first_lengths true p flutter) s' l' f' refl a b c

first_starts_grow : (p : Values) (flutter s l s' l' : ℕ) → s ≤ s' → l ≤ l' → first_apart_by p flutter s l ≤ first_apart_by p flutter s' l'
first_starts_grow p flutter s l s' l' a b = step s l s' l' (4 * cycle_change p) (2 * arrival_error p) flutter (4 * longest_micro p) a b
  where
    step : (s l s' l' j e t q : ℕ) → s ≤ s' → l ≤ l' → s + 2 * l + j + e + t + q ≤ s' + 2 * l' + j + e + t + q
    step s l s' l' j e t q a b = omega (arith, a, b)

first_lengths_grow : (p : Values) (flutter l l' : ℕ) → l ≤ l' → first_lengths_by p flutter l ≤ first_lengths_by p flutter l'
first_lengths_grow p flutter l l' b = step l l' (2 * steady_error p flutter) (amount p name.pClusterDriftDamping * longest_micro p) (4 * cycle_change p) b
  where
    step : (l l' k c j : ℕ) → l ≤ l' → l + k + c + j ≤ l' + k + c + j
    step l l' k c j b = omega (arith, b)

at_most : (a b c : ℕ) → a ≤ b → b ≤ c → a ≤ c
at_most a b c h k = omega (arith, h, k)

itself : (n : ℕ) → n ≤ n
itself n = omega arith

most_grow : (a b a' b' : ℕ) → a ≤ a' → b ≤ b' → max a b ≤ max a' b'
most_grow a b a' b' h k = grind arith

-- ---- what was heard since a later double cycle says no more than what was heard since an earlier one

module _ (later : LaterSpreadsAreLess) (beside : Bool) (p : Values) (from flutter : ℕ) (what : ℕ → Kinds) (never : beside ≡ true → (m : ℕ) → IsNot Clean (what m)) where
  rows_since : (double k n : ℕ) → from ≤ double → n ≡ (double + k) - from
      → ((group_spread_through beside p flutter (λ m. what (double + m)) k).rows.starts ≤ (group_spread_through beside p flutter (λ m. what (from + m)) n).rows.starts)
      × ((group_spread_through beside p flutter (λ m. what (double + m)) k).rows.lengths ≤ (group_spread_through beside p flutter (λ m. what (from + m)) n).rows.lengths)
  rows_since double k n late is =
      let now = spread_through_losses beside p flutter (λ m. what (double + m)) k in
      let Less : Spread → Spread → Type 0 = λ one other. (one.starts ≤ other.starts) × (one.lengths ≤ other.lengths) in
      let at : Less now (spread_through_losses beside p flutter (λ m. what (from + m)) n) =
      subst (λ (j : ℕ). Less now (spread_through_losses beside p flutter (λ m. what (from + m)) j)) (sym is) (later_since later beside p from flutter what double k late never) in
      subst (λ (one : Spread). Less one (group_spread_through beside p flutter (λ m. what (from + m)) n).rows) (sym (group_spreads_go beside p flutter (λ m. what (double + m)) k).1)
      (subst (Less now) (sym (group_spreads_go beside p flutter (λ m. what (from + m)) n).1) at)

  -- none of sharp sync is above those of any later double cycle
  sharp_is_below : (n : ℕ) → IsBelow (sharp_group_spread beside p flutter) (group_spread_through beside p flutter (λ m. what (from + m)) n)
  unfolding group_spread_through
  sharp_is_below zero = record {
    starts = itself (sharp_group_spread beside p flutter).rows.starts;
    lengths = itself (sharp_group_spread beside p flutter).rows.lengths;
    seconds = itself (sharp_group_spread beside p flutter).seconds;
    first_starts = itself (sharp_group_spread beside p flutter).firsts.starts;
    first_lengths = itself (sharp_group_spread beside p flutter).firsts.lengths;
  }
  sharp_is_below (suc n) =
      let before = sharp_is_below n in
      let s = group_spread_through beside p flutter (λ m. what (from + m)) n in
      let rows = rows_since (from + suc n) 0 (suc n) (omega arith) (omega arith) in
      record {
        starts = rows.0;
        lengths = rows.1;
        seconds = sharp_seconds beside (what (from + n)).offsets p flutter s.rows.starts s.rows.lengths s.firsts.lengths (λ some. (never some (from + n)).0) before.starts before.lengths before.first_lengths;
        first_starts = first_starts_grow p flutter (sharp_pi beside p flutter) (sharp_lambda beside p flutter) s.rows.starts s.rows.lengths before.starts before.lengths;
        first_lengths =
            at_most (sharp_first_lengths beside p flutter) (first_lengths_by p flutter s.rows.lengths) (max (first_lengths_by p flutter s.rows.lengths) (kinds_spread (what (from + n)) p flutter s.rows).lengths)
            (first_lengths_grow p flutter (sharp_lambda beside p flutter) s.rows.lengths before.lengths)
            (le-max_left (first_lengths_by p flutter s.rows.lengths) (kinds_spread (what (from + n)) p flutter s.rows).lengths);
      }

  group_is_below : (double k n : ℕ) → from ≤ double → n ≡ (double + k) - from
      → IsBelow (group_spread_through beside p flutter (λ m. what (double + m)) k) (group_spread_through beside p flutter (λ m. what (from + m)) n)
  unfolding group_spread_through
  group_is_below double zero n late is = sharp_is_below n
  group_is_below double (suc k) zero late is = absurd (omega (arith, late, is))
  group_is_below double (suc k) (suc n) late is =
      let before = group_is_below double k n late (omega (arith, late, is)) in
      let rows = rows_since double (suc k) (suc n) late is in
      let s = group_spread_through beside p flutter (λ m. what (double + m)) k in
      let to = group_spread_through beside p flutter (λ m. what (from + m)) n in
      let same : double + k ≡ from + n = omega (arith, late, is) in
      let Second : ℕ → Type 0 = λ j. second_apart_by (what (double + k)).offsets p s.rows.starts s.rows.lengths s.firsts.lengths ≤ second_apart_by (what j).offsets p to.rows.starts to.rows.lengths to.firsts.lengths in
      record {
        starts = rows.0;
        lengths = rows.1;
        seconds =
            subst Second same
            (seconds_grow (what (double + k)).offsets p s.rows.starts s.rows.lengths s.firsts.lengths to.rows.starts to.rows.lengths to.firsts.lengths before.starts before.lengths before.first_lengths);
        first_starts = first_starts_grow p flutter s.rows.starts s.rows.lengths to.rows.starts to.rows.lengths before.starts before.lengths;
        first_lengths =
            most_grow (first_lengths_by p flutter s.rows.lengths) (kinds_spread (what (double + k)) p flutter s.rows).lengths (first_lengths_by p flutter to.rows.lengths)
            (kinds_spread (what (from + n)) p flutter to.rows).lengths (first_lengths_grow p flutter s.rows.lengths to.rows.lengths before.lengths) rows.1;
      }

  group_later : (double k : ℕ) → from ≤ double
      → IsBelow (group_spread_through beside p flutter (λ m. what (double + m)) k) (group_since beside p from flutter what (double + k))
  group_later double k late = group_is_below double k ((double + k) - from) late refl

-- nor does the number of a double cycle
pub joined_apart_later : LaterSpreadsAreLess → (p : Values) (s : ScriptView) (from flutter double passed : ℕ) → from ≤ double
    → apart_through_losses (has_arbitrary p s) p flutter (λ m. heard_in (traffic_in p s) (double + m)) passed
    ≤ apart_since (has_arbitrary p s) p from flutter (heard_in (traffic_in p s)) (double + passed)
joined_apart_later later p s from flutter double passed late =
    let what : ℕ → Kinds = λ m. heard_in (traffic_in p s) m in
    apart_later later (has_arbitrary p s) p from flutter what double passed late (none_is_clean p s)

-- ---- the promise

-- the frames of the reference of a node come to it, where those of the one node with its number do
carried_reference : (p : Values) (d : DriftView) (s : ScriptView) (node reference : NodeSpec) (join : Join) → IsSane p → Contains p.nodes reference → reference.id ≡ join.reference
    → comes_in_both (traffic_in p s) reference node join.double ≡ true → IsReferenceCarried (setting_of p d s) node join join.double
carried_reference p d s node reference join sane there named comes r =
    let x = setting_of p d s in
    let of_named : node_of p r.reference.id ≡ Some reference = ap (node_of p) (r.named ∙ sym named) ∙ node_there p reference sane there in
    let one : Some r.reference ≡ Some reference = sym (node_there p r.reference sane (correct_node x r.reference r.correct).there) ∙ of_named in
    let same : r.reference ≡ reference = cc in
    let At : NodeSpec → Type 0 = λ n. IsCarried x n node join.double in
    subst At (sym same) (carried_in_both x join.double reference node comes)

module _ (keep : JoinedHistoriesKeepThroughLosses) (later : LaterSpreadsAreLess) where
  stays_through : (p : Values) (d : DriftView) (s : ScriptView) (from flutter reach : ℕ) (h : Cycles) (double : ℕ)
      → IsSane p → ScriptFits p s → IsCoveredToJoinThroughLosses p d s from flutter reach
      → IsRunOf (setting_of p d s) h → from ≤ double → IsUnfollowedSharpSyncAt (has_arbitrary p s) p flutter h double
      → (passed : ℕ) → double + passed < doubles_of d → ((m : ℕ) → m < passed → FirstRatesLast p flutter m)
      → StaysThrough (has_arbitrary p s) (setting_of p d s) flutter h double passed
  stays_through p d s from flutter reach h double sane fits covered run late sync passed within lasting =
      keep (has_arbitrary p s) (setting_of p d s) from flutter h double reach (lossy_files_give_joined_runs p d s from flutter reach h sane fits covered run) late covered.checks takes sync passed within lasting
    where
      what : ℕ → Kinds
      what m = heard_in (traffic_in p s) m

      takes : (k : ℕ) → double + k < doubles_of d
          → TakesInJoining (setting_of p d s) (group_spread_through (has_arbitrary p s) p flutter (λ m. heard_in (traffic_in p s) (double + m)) k) (double + k) reach
      takes k short =
          let below = group_later later (has_arbitrary p s) p from flutter what (none_is_clean p s) double k late in
          let now = group_spread_through (has_arbitrary p s) p flutter (λ m. heard_in (traffic_in p s) (double + m)) k in
          let all = group_since (has_arbitrary p s) p from flutter what (double + k) in
          let in_reach = covered.takes (double + k) (omega (arith, late)) short in
          record {
            rows =
                at_most (near_by p now.rows.starts now.rows.lengths) (near_by p all.rows.starts all.rows.lengths) reach
                (near_grows p now.rows.starts now.rows.lengths all.rows.starts all.rows.lengths sane below.starts below.lengths) in_reach.rows;
            seconds = λ node there listened.
                at_most (near_by p now.seconds now.rows.lengths) (near_by p all.seconds all.rows.lengths) reach
                (near_grows p now.seconds now.rows.lengths all.seconds all.rows.lengths sane below.seconds below.lengths) (in_reach.seconds node there listened);
            firsts = λ node there listened.
                at_most (near_by p now.firsts.starts now.firsts.lengths) (near_by p all.firsts.starts all.firsts.lengths) reach
                (near_grows p now.firsts.starts now.firsts.lengths all.firsts.starts all.firsts.lengths sane below.first_starts below.first_lengths) (in_reach.firsts node there listened);
          }

  pub covered_files_keep_joined_through_losses : CoveredFilesKeepJoinedThroughLosses
  covered_files_keep_joined_through_losses p d s from flutter reach h double sane drift_fits fits covered run late sync =
      record { stays = stays; joins_up_to = joins }
    where
      x : Setting
      x = setting_of p d s

      spread : ℕ → GroupSpread
      spread k = group_spread_through (has_arbitrary p s) p flutter (λ m. heard_in (traffic_in p s) (double + m)) k

      lossy : IsLossyJoinedFrom (has_arbitrary p s) (setting_of p d s) from flutter h
      lossy = lossy_files_give_joined_runs p d s from flutter reach h sane fits covered run

      stays : (passed : ℕ) → double + passed < doubles_of d → ((m : ℕ) → m < passed → FirstRatesLast p flutter m)
          → StaysThrough (has_arbitrary p s) (setting_of p d s) flutter h double passed
      stays passed within lasting = stays_through p d s from flutter reach h double sane fits covered run late sync passed within lasting

      joins : (passed : ℕ) → double + passed < doubles_of d → ((m : ℕ) → m < passed → FirstRatesLast p flutter m) → (node reference : NodeSpec) (join : Join)
          → Contains (correct_nodes (setting_of p d s)) node → join_of s node.id ≡ Some join → double ≤ join.double
          → Contains p.nodes reference → reference.id ≡ join.reference → comes_in_both (traffic_in p s) reference node join.double ≡ true
          → IsJoinedUpTo h node.id join (2 * suc (double + passed))
      joins passed within lasting node reference join there at behind known named comes =
          let listened : IsListenedRun (setting_of p d s) from flutter h double (double + passed) spread = record {
            part = record { covered = lossy.covered; lawful = run.lawful; within = (let whole = run.whole in omega (arith, whole)) };
            whole = run.whole;
            referenced = lossy.referenced;
            late = late;
            inside = omega (arith, within);
            lasting = λ m less. lasting m (omega (arith, less));
            near = λ m less. (stays m (omega (arith, within, less)) (λ j few. lasting j (omega (arith, few, less)))).followed;
            joins = λ m less. (stays m (omega (arith, within, less)) (λ j few. lasting j (omega (arith, few, less)))).joins (lasting m (omega (arith, less)));
          } in
          listener_joins_up_to x from flutter h double (double + passed) spread node join listened
          (
          record {
            there = there;
            at = at;
            behind = behind;
            carried = λ short. carried_reference p d s node reference join sane known named comes;
            starts = reference_starts p d s h sane drift_fits fits run.lawful node join there at;
          }
          )
          within

  pub joined_files_keep_through_losses_lem : JoinedFilesKeepThroughLosses
  joined_files_keep_through_losses_lem p d s drift script from flutter reach h double sane drift_file script_file covered run late sync =
      covered_files_keep_joined_through_losses p d s from flutter reach h double sane (drift_of_a_file_fits p d drift drift_file) (script_of_a_file_fits p s script script_file) covered run late sync
