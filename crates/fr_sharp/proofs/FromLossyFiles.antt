-- The run that files decide where frames are lost: it is as the law of losses asks for, so it keeps to the numbers by what is heard.
use Rattle.std.proofs.Common.{◌≡◌, ℕ, zero, suc, ◌+◌, ◌-◌, ◌<◌, ◌≤◌, ℤ, pos, Option, Some, None, IfSome, Bool, true, false, not, ◌==◌, ◌&&◌, ◌||◌, refl, ap, ap₂, sym, ◌∙◌, subst, arith}
use Rattle.std.specs.Prelude.{◌+ℤ◌, ◌≤ℤ◌, nat_eq, nat_le}
use Rattle.std.proofs.lemmas.Bool.{and_parts}
use Rattle.std.proofs.lemmas.Bool.Decides.{nat_tests}
use Rattle.std.proofs.lemmas.Int.{ints}
use Rattle.fr_cluster.specs.Values.{Values}
use Rattle.fr_cluster.specs.declared.nodes.NodeSpec.{NodeSpec}
use Rattle.fr_drift.specs.Questions.{doubles_of}
use Rattle.fr_drift.specs.View.{DriftView}
use Rattle.fr_script.specs.View.{ScriptView, is_arbitrary, join_of}
use Rattle.fr_bound.specs.declared.settling.Spread.{Spread}
use Rattle.fr_bound.specs.declared.judging.Heard.{Heard}
use Rattle.fr_bound.specs.declared.judging.Heard.TheVariants as heard
use Rattle.fr_coverage.specs.Decided.{setting_of}
use Rattle.fr_coverage.specs.Flutter.{flutter_from}
use Rattle.fr_coverage.specs.Links.{is_sync}
use Rattle.fr_precision.specs.Among.{both, kinds_spread, spread_through_losses, IsNot, LaterSpreadsAreLess}
use Rattle.fr_precision.specs.declared.kinds.Kinds.{Kinds}
use Rattle.fr_bound.specs.Checks.{left_of, right_of}
use Rattle.fr_bound.specs.SharpBounds.{walk_lasts}
use Rattle.fr_bound.specs.SharpChecks.{RateSuffices}
use Rattle.fr_precision.specs.Lengths.{strayed_after, walked_after, walked_through}
use Rattle.fr_precision.specs.SharpRun.{WalkLastsAfter, WalkLastsUpTo}
use Rattle.fr_promise.proofs.StrayLemmas.{later_strays_less}
use Rattle.fr_sharp.specs.Losses.{HistoriesKeepThroughLosses}
use Rattle.fr_sharp.specs.LossStatement.{run_strayed, spread_since, without_losses, CoveredFilesAreAwake, CoveredFilesKeepThroughLosses, FilesKeepThroughLosses, LossyFilesGiveRuns}
use Rattle.fr_traffic.specs.Reaching.{whole_in}
use Rattle.fr_traffic.specs.Traffic.{all_bear, all_have, arbitrary_count, heard_in, kind_by, kind_in, lists_meet, none_lacks, some_keep, traffic_in, Traffic}
use Rattle.fr_bound.specs.SharpSpreads.{sharply_near_in}
use Rattle.fr_sharp.specs.SharpStatement.{has_arbitrary}
use Rattle.fr_runs.specs.SteadyRuns.{IsTimedFrom}
use Rattle.fr_sharp.proofs.FromFiles.{arbitrary_is_told, files_are_steady}
use Rattle.fr_promise.proofs.JoinBounds.{near_grows}
use Rattle.fr_traffic.proofs.HeardLists.{linked_have}
use Rattle.fr_traffic.proofs.TrafficCounts.{some_counted}

-- what is stated of oscillators and delays does not speak of what is lost
pub same_times : (p : Values) (d : DriftView) (s : ScriptView) (from flutter : ℕ) → IsTimedFrom (setting_of p d (without_losses s)) from flutter → IsTimedFrom (setting_of p d s) from flutter
unfolding is_arbitrary join_of
same_times p d s from flutter t = record {
  sane = t.sane;
  few = t.few;
  least = t.least;
  most = t.most;
  changes = t.changes;
  delays = λ sender receiver slot ch cycle link share behind within.
      t.delays sender receiver slot ch cycle (record { sends = link.sends; hears = link.hears; key = link.key; other = link.other }) share behind within;
  flutters = λ sender receiver slot ch double link share behind within.
      t.flutters sender receiver slot ch double (record { sends = link.sends; hears = link.hears; key = link.key; other = link.other }) share behind within;
}

pub same_flutter : (p : Values) (d : DriftView) (s : ScriptView) (from : ℕ) → flutter_from p d (without_losses s) from ≡ flutter_from p d s from
unfolding is_arbitrary flutter_from
same_flutter p d s from = refl

pub lossy_files_give_runs : LossyFilesGiveRuns
lossy_files_give_runs p d s from flutter reach h sane covered run =
    let Fits : ℕ → Type 0 = λ n. n ≤ flutter in
    let steady = files_are_steady p d (without_losses s) from flutter sane covered.none (subst Fits (sym (same_flutter p d s from)) covered.flutters) in
    record {
      run = record { covered = same_times p d s from flutter steady.timed; none_joins = covered.none_joins; lawful = run.lawful; whole = run.whole };
      arbitrary = arbitrary_is_told p d s;
      borne = λ double late less.
          let t : Traffic = traffic_in p s in
          (and_parts (all_bear p t double) (not (double == from) || none_lacks t double) (covered.borne double late less)).0;
    }

-- the walk lasts up to the double cycle behind one that it lasts after
one_later : (p : Values) (flutter k : ℕ) → WalkLastsAfter p flutter k → WalkLastsUpTo p flutter (suc k)
one_later p flutter k before = by (walk_lasts p flutter) before
  where
    by : (o : Option ℕ) → IfSome o (λ lasts. k < lasts) → IfSome o (λ lasts. suc k ≤ lasts)
    by None before = tt
    by (Some lasts) before = omega (arith, before)

-- in the first double cycle that it is asked of none lacks values
pub covered_files_are_awake : CoveredFilesAreAwake
covered_files_are_awake p d s from flutter reach covered short =
    let t : Traffic = traffic_in p s in
    right (from == from) (none_lacks t from) (itself from) (and_parts (all_bear p t from) (not (from == from) || none_lacks t from) (covered.borne from (omega arith) short)).1
  where
    itself : (n : ℕ) → (n == n) ≡ true
    itself n = grind arith

    right : (a b : Bool) → a ≡ true → (not a || b) ≡ true → b ≡ true
    right true b is either = either
    right false b is either = absurd (cc)

-- ---- beside arbitrary nodes nothing is clean

clean_only : (all none meet : Bool) → kind_by all none meet ≡ heard.Clean → none ≡ true
clean_only true true meet is = refl
clean_only true false meet is = absurd (cc)
clean_only false none true is = absurd (cc)
clean_only false none false is = absurd (cc)

some_is_not_none : (p : Values) (s : ScriptView) → has_arbitrary p s ≡ true → nat_eq (arbitrary_count (traffic_in p s)) 0 ≡ true → ⊥
some_is_not_none p s beside none =
    never (arbitrary_count (traffic_in p s)) none (some_counted (λ (a : NodeSpec). is_sync a && is_arbitrary s a.id) p.nodes ∙ beside)
  where
    never : (n : ℕ) → nat_eq n 0 ≡ true → nat_le 1 n ≡ true → ⊥
    never n none some = grind (arith, nat_tests)

pub none_is_clean : (p : Values) (s : ScriptView) → has_arbitrary p s ≡ true → (double : ℕ) → IsNot heard.Clean (heard_in (traffic_in p s) double)
none_is_clean p s beside double = (of_kind false, of_kind true)
  where
    of_kind : (rate : Bool) → kind_in rate (traffic_in p s) double ≡ heard.Clean → ⊥
    of_kind rate clean =
        let t : Traffic = traffic_in p s in
        some_is_not_none p s beside (clean_only (all_have rate t double) (nat_eq (arbitrary_count t) 0) (lists_meet rate t double) clean)

-- ---- without them all is, of both kinds, in each in which one channel carries the frames of both cycles of any two nodes

pub whole_is_clean : (p : Values) (s : ScriptView) → has_arbitrary p s ≡ false → (double : ℕ) → whole_in p s double ≡ true → heard_in (traffic_in p s) double ≡ both heard.Clean
whole_is_clean p s alone double whole = ap₂ (λ (a b : Heard). made a b) (of_kind false) (of_kind true)
  where
    made : Heard → Heard → Kinds
    made a b = record { offsets = a; rates = b }

    none : (n : ℕ) → nat_le 1 n ≡ false → nat_eq n 0 ≡ true
    none n few = grind (arith, nat_tests)

    both_clean : (all none meet : Bool) → all ≡ true → none ≡ true → kind_by all none meet ≡ heard.Clean
    both_clean all none meet one other = rw (one, other) refl

    of_kind : (rate : Bool) → kind_in rate (traffic_in p s) double ≡ heard.Clean
    of_kind rate =
        let t : Traffic = traffic_in p s in
        both_clean (all_have rate t double) (nat_eq (arbitrary_count t) 0) (lists_meet rate t double) (linked_have rate t double whole)
        (none (arbitrary_count t) (some_counted (λ (a : NodeSpec). is_sync a && is_arbitrary s a.id) p.nodes ∙ alone))

-- ---- what was heard since a later double cycle says no more than what was heard since an earlier one

-- the numbers do not look beyond what is heard
same_heard : (beside : Bool) (p : Values) (flutter : ℕ) (one other : ℕ → Kinds) → ((m : ℕ) → one m ≡ other m) → (k : ℕ)
    → spread_through_losses beside p flutter one k ≡ spread_through_losses beside p flutter other k
unfolding spread_through_losses
same_heard beside p flutter one other same zero = refl
same_heard beside p flutter one other same (suc k) =
    ap (λ (w : Kinds). kinds_spread w p flutter (spread_through_losses beside p flutter one k)) (same k)
    ∙ ap (kinds_spread (other k) p flutter) (same_heard beside p flutter one other same k)

pub later_since : LaterSpreadsAreLess → (beside : Bool) (p : Values) (from flutter : ℕ) (what : ℕ → Kinds) (double k : ℕ) → from ≤ double → (beside ≡ true → (m : ℕ) → IsNot heard.Clean (what m))
    → ((spread_through_losses beside p flutter (λ m. what (double + m)) k).starts ≤ (spread_since beside p from flutter what (double + k)).starts)
    × ((spread_through_losses beside p flutter (λ m. what (double + m)) k).lengths ≤ (spread_since beside p from flutter what (double + k)).lengths)
later_since later beside p from flutter what double k late none =
    let gap : ℕ = double - from in
    let less = later beside p flutter (λ m. what (from + m)) gap k (λ some m. none some (from + m)) in
    let same : spread_through_losses beside p flutter (λ m. what (from + (gap + m))) k ≡ spread_through_losses beside p flutter (λ m. what (double + m)) k =
    same_heard beside p flutter (λ m. what (from + (gap + m))) (λ m. what (double + m)) (λ m. let at : from + (gap + m) ≡ double + m = omega (arith, late) in ap what at) k in
    let end : gap + k ≡ (double + k) - from = omega (arith, late) in
    let Less : Spread → ℕ → Type 0 = λ now n.
    (now.starts ≤ (spread_through_losses beside p flutter (λ m. what (from + m)) n).starts) × (now.lengths ≤ (spread_through_losses beside p flutter (λ m. what (from + m)) n).lengths) in
    subst (λ (n : ℕ). Less (spread_through_losses beside p flutter (λ m. what (double + m)) k) n) end (subst (λ (now : Spread). Less now (gap + k)) same less)

-- ---- the promise

module _ (keep : HistoriesKeepThroughLosses) (later : LaterSpreadsAreLess) where
  pub covered_files_keep_through_losses : CoveredFilesKeepThroughLosses
  covered_files_keep_through_losses p d s from flutter reach h double sane covered run late sync awake passed within before =
      keep (has_arbitrary p s) (setting_of p d s) from flutter h double reach (lossy_files_give_runs p d s from flutter reach h sane covered run) late covered.checks near strays sync awake passed
      within before
    where
      what : ℕ → Kinds
      what m = heard_in (traffic_in p s) m

      near : (k : ℕ) → double + k < doubles_of d → sharply_near_in p (spread_through_losses (has_arbitrary p s) p flutter (λ m. heard_in (traffic_in p s) (double + m)) k) ≤ reach
      near k short =
          let below = later_since later (has_arbitrary p s) p from flutter what double k late (none_is_clean p s) in
          let now = spread_through_losses (has_arbitrary p s) p flutter (λ m. heard_in (traffic_in p s) (double + m)) k in
          let all = spread_since (has_arbitrary p s) p from flutter what (double + k) in
          let grows = near_grows p now.starts now.lengths all.starts all.lengths sane below.0 below.1 in
          let le = covered.near (double + k) (omega (arith, late)) short in
          omega (arith, grows, le)

      strays : (k : ℕ) → double + k < doubles_of d → WalkLastsAfter p flutter k → RateSuffices p (walked_through p flutter (λ m. some_keep (traffic_in p s) (double + m)) (suc k))
      strays k short lasts =
          let keeps : ℕ → Bool = λ m. some_keep (traffic_in p s) (from + m) in
          let gap : ℕ = double - from in
          let same = λ (m : ℕ). let at : double + m ≡ from + (gap + m) = omega (arith, late) in ap (some_keep (traffic_in p s)) at in
          let less = later_strays_less p flutter keeps (λ m. some_keep (traffic_in p s) (double + m)) gap (suc k) same in
          let end : gap + suc k ≡ suc (double + k) - from = omega (arith, late) in
          let Less : ℕ → Type 0 = λ n. strayed_after p flutter (λ m. some_keep (traffic_in p s) (double + m)) (suc k) ≤ strayed_after p flutter keeps n in
          let fits = covered.limit (double + k) (suc k) (omega (arith, late)) short (omega (arith, late)) (one_later p flutter k lasts) in
          smaller (right_of 2 p) (left_of 2 p) (walked_after p flutter (suc k)) (strayed_after p flutter (λ m. some_keep (traffic_in p s) (double + m)) (suc k)) (run_strayed p s from flutter (suc (double + k))) (subst Less end less) fits
        where
          smaller : (a b : ℕ) (x : ℤ) (m n : ℕ) → m ≤ n → (pos a +ℤ (x +ℤ pos n)) ≤ℤ pos b → (pos a +ℤ (x +ℤ pos m)) ≤ℤ pos b
          smaller a b x m n le fits = omega (arith, ints, le, fits)

  pub files_keep_through_losses_lem : FilesKeepThroughLosses
  files_keep_through_losses_lem p d s drift script from flutter reach h double sane drift_file script_file covered run late sync awake passed within before =
      covered_files_keep_through_losses p d s from flutter reach h double sane covered run late sync awake passed within before
