-- What the sharper bounds say of a trace is so, and the bytes of its files decide it.
use Rattle.std.proofs.Common.{◌≡◌, ◌≢◌, ◌⊎◌, ◌∙◌, inl, inr, ℕ, ◌+◌, ◌*◌, ◌<◌, ◌≤◌, Bool, true, false, not, ◌&&◌, ℤ, pos, List, [], ◌∷◌, Option, Some, None, length, refl, ap, ap₂, sym, subst, arith}
use Rattle.std.specs.Prelude.{◌≤ℤ◌, ◌/◌, IfSome, count_by, if◌then◌else◌, int_le, is_none, is_some, nat_abs, option_and_then}
use Rattle.std.proofs.lemmas.Bool.{and_parts}
use Rattle.std.proofs.lemmas.Int.{ints}
use Rattle.fr_bound.specs.SharpBounds.{rate_room, rate_walk, sharp_near, sharp_precision, walk_lasts}
use Rattle.fr_bound.specs.SharpChecks.{sharp_holds_of, FirstCheckStopsWalk}
use Rattle.fr_check.specs.UnlawfulText.{unlawful_text}
use Rattle.fr_cluster.specs.Sane.{IsSane}
use Rattle.fr_cluster.specs.Values.{Values, amount}
use Rattle.fr_cluster.specs.declared.names.ParamName.TheVariants as name
use Rattle.fr_cluster.specs.declared.nodes.NodeSpec.{NodeSpec}
use Rattle.fr_coverage.specs.declared.gap.Gap.{Gap}
use Rattle.fr_history.proofs.Synced.{record_at-lt}
use Rattle.fr_history.specs.History.{Record, record_at}
use Rattle.fr_midpoint.proofs.Counts.{count_by-cons_no}
use Rattle.fr_params.specs.Files.{params_file}
use Rattle.fr_params.specs.Upgrades.{AcceptedAreSane}
use Rattle.fr_precision.specs.Round.{sync_count}
use Rattle.fr_promise.proofs.TestedLemmas.{sharp_sync_from, to_sharp_sync}
use Rattle.fr_series.proofs.SharpPlaces.{above_since_is, greatest_since_is}
use Rattle.fr_series.specs.Basis.{sharp_scale_of}
use Rattle.fr_text.proofs.Commands.{decided}
use Rattle.fr_text.proofs.Defining.{one_status, some_status}
use Rattle.fr_text.specs.Defined.{DefinesOneStatus}
use Rattle.fr_text.specs.Files.{IsDecided, said_of}
use Rattle.fr_text.specs.Kind.{HasOneAnswer, HasSomeAnswer}
use Rattle.fr_time.specs.Cycles.{even_cycle, odd_cycle}
use Rattle.fr_trace.proofs.TraceSound.{sound_trace}
use Rattle.fr_trace.specs.Files.{trace_file}
use Rattle.fr_trace.specs.Fits.{TraceFits}
use Rattle.fr_trace.specs.Joins.{is_among}
use Rattle.fr_trace.specs.Lasting.{IsTrace}
use Rattle.fr_trace.specs.Sound.{IsSoundTrace}
use Rattle.fr_trace.specs.Trace.{TraceView, is_named}
use Rattle.fr_trace.specs.declared.trace.TracedJoin.{TracedJoin}
use Rattle.fr_verdict.proofs.AlikeFound.{FoundFirst, below_all, below_some}
use Rattle.fr_verdict.proofs.Syncing.{behind_early, early_not}
use Rattle.fr_verdict.specs.Alike.{first_unlike, AlikeTracesKeepPrecision, AlikeTracesKeepSharpSync, AreSaidFrom, FirstUnlikeIsFound, IsSteadyAlike}
use Rattle.fr_verdict.specs.Gaps.{IsTraceGap, IsTracedCheckGap}
use Rattle.fr_verdict.specs.OtherGaps.{IsOtherwiseCovered, IsRefusedOtherwise, OneOtherwise, SomeOtherwise}
use Rattle.fr_verdict.specs.SharpTraces.{recorded_flutter, CheckedTracesAreSteady, IsRecordedInSharpSync, IsSteadyTrace, KeepsSharpClocks, MayNameArbitrary, RecordsKeepApart, StaysRecordedInSharpSync, TracedChecksHold, TracesKeepSharpPrecision, TracesKeepSharpSync}
use Rattle.fr_verdict.specs.Sync.{first_synced_of, is_early}
use Rattle.fr_verdict.specs.declared.unlawful.Unlawful.{Unlawful}
use Rattle.fr_whole.proofs.TracedDoubles.{sharp_at-place}
use Rattle.fr_whole.specs.SharpCheckAnswer.{joined_text, sharp_check_files, IsSharpCheckSaid, IsSharpCheckText}
use Rattle.fr_whole.specs.SharpCheckText.{sharp_check_text}
use Rattle.fr_whole.specs.TracedFigures.{are_sharp_by, figures_of_kind, first_recorded_sharp, is_kind_beside, is_sharp_at, kind_among, kind_from, kind_of_trace, sharp_at, unlike_since}
use Rattle.fr_whole.specs.TracedMeaning.{AreTracedFigures, IsFirstRecordedSharp, IsRecordedSharpFound, IsSharpBehindSync, IsTracedKind, IsUnlikeFound, IsUnlikeTold, KeepsTracedSharply}
use Rattle.fr_whole.specs.declared.traced_figures.TracedKind.{TracedKind}
use Rattle.fr_whole.specs.declared.traced_figures.TracedKind.TheVariants.{Alone, Alike, Beside}

-- ---- the first double cycle in sharp sync

module _ (beside : Bool) (p : Values) (t : TraceView) where
  sharp_from : (double : ℕ) (even odd : Option Record) → record_at t.history (even_cycle double) ≡ even → record_at t.history (odd_cycle double) ≡ odd → are_sharp_by beside p even odd ≡ true
      → IsRecordedInSharpSync beside p (pos 0) t.history double
  sharp_from double None odd has_even has_odd is = absurd (cc is)
  sharp_from double (Some even) None has_even has_odd is = absurd (cc is)
  sharp_from double (Some even) (Some odd) has_even has_odd is = record {
    even = even;
    odd = odd;
    has_even = has_even;
    has_odd = has_odd;
    in_sync = sharp_sync_from beside p (recorded_flutter p) even.rows odd.rows is;
  }

  to_sharp : (double : ℕ) → IsRecordedInSharpSync beside p (pos 0) t.history double → is_sharp_at beside p t.history double ≡ true
  to_sharp double is = ap₂ (are_sharp_by beside p) is.has_even is.has_odd ∙ to_sharp_sync beside p (recorded_flutter p) is.even.rows is.odd.rows is.in_sync

  by_not : (b : Bool) → not b ≡ true → b ≡ false
  by_not true e = cc e
  by_not false e = refl

  found_sharp : (double k : ℕ) → sharp_at beside p t double ≡ Some k → IsSharpBehindSync beside p t double
  found_sharp double k is = by (not (is_early (first_synced_of p t) double) && is_sharp_at beside p t.history double) refl is
    where
      by : (b : Bool) → (not (is_early (first_synced_of p t) double) && is_sharp_at beside p t.history double) ≡ b → (if b then Some double else None) ≡ Some k → IsSharpBehindSync beside p t double
      by false e is = absurd (cc is)
      by true e is =
          let parts = and_parts (not (is_early (first_synced_of p t) double)) (is_sharp_at beside p t.history double) e in
          let behind = behind_early p t double (by_not (is_early (first_synced_of p t) double) parts.0) in
          record { synced = behind.synced; first = behind.first; from = behind.from; sharp = sharp_from double (record_at t.history (even_cycle double)) (record_at t.history (odd_cycle double)) refl refl parts.1 }

  sharp_found : (double : ℕ) → IsSharpBehindSync beside p t double → sharp_at beside p t double ≡ Some double
  sharp_found double is =
      ap₂ (λ (a b : Bool). if not a && b then Some double else None) (early_not p t double is.synced is.first is.from) (to_sharp double is.sharp)

  -- it lies in the trace
  sharp_within : IsTrace t → (double : ℕ) → IsSharpBehindSync beside p t double → double < t.doubles
  sharp_within trace double is =
      let lt = record_at-lt t.history (odd_cycle double) is.sharp.odd is.sharp.has_odd in
      let whole = trace.whole in
      omega (arith, lt, whole)

  pub first_sharp_found : IsTrace t → (o : Option ℕ) → first_recorded_sharp beside p t ≡ o → IsRecordedSharpFound beside p t o
  first_sharp_found trace None none = λ double is.
      let nothing = below_all (sharp_at beside p t) t.doubles double none (sharp_within trace double is) in
      cc (sym nothing ∙ sharp_found double is)
  first_sharp_found trace (Some k) found =
      let first : FoundFirst (sharp_at beside p t) t.doubles k = below_some (sharp_at beside p t) t.doubles k found in
      let same = sharp_at-place beside p t first.place k first.found in
      record {
        is = subst (IsSharpBehindSync beside p t) same (found_sharp first.place k first.found);
        first = λ earlier lt is. let nothing = first.earlier earlier (subst (λ (n : ℕ). earlier < n) (sym same) lt) in cc (sym nothing ∙ sharp_found earlier is);
      }

  one_first : (k l : ℕ) → IsFirstRecordedSharp beside p t k → IsFirstRecordedSharp beside p t l → k ≡ l
  one_first k l one other = by_order (grind arith)
    where
      by_order : ((k < l) ⊎ (l < k)) ⊎ (k ≡ l) → k ≡ l
      by_order (inl (inl less)) = absurd (other.first k less one.is)
      by_order (inl (inr more)) = absurd (one.first l more other.is)
      by_order (inr same) = same

-- ---- the kind

module _ (unlike_is : FirstUnlikeIsFound) (p : Values) (t : TraceView) (trace : IsTrace t) where
  first_alone : (o : Option ℕ) → first_recorded_sharp false p t ≡ o → IsRecordedSharpFound false p t o
  first_alone = first_sharp_found false p t trace

  kind_by : (named : t.arbitrary ≢ []) (o : Option ℕ) → first_recorded_sharp false p t ≡ o → IsTracedKind p t (kind_from p t o)
  kind_by named None is = record { named = named; unlike = λ double first alike. first_alone None is double first.is }
  kind_by named (Some double) is = by (first_unlike p t double) refl
    where
      by : (u : Option ℕ) → first_unlike p t double ≡ u → IsTracedKind p t (if is_none u then Alike else Beside)
      by None none = record { named = named; double = double; first = first_alone (Some double) is; alike = (unlike_is p t double).0 none }
      by (Some k) found = record {
        named = named;
        unlike = λ other first alike.
            let same = one_first false p t other double first (first_alone (Some double) is) in
            let at = (unlike_is p t double).1 k found in
            at.2 (alike k (subst (λ (n : ℕ). n ≤ k) (sym same) at.0) at.1);
      }

  kind_is : (arbitrary : List ℕ) → t.arbitrary ≡ arbitrary → IsTracedKind p t (kind_among arbitrary p t)
  kind_is [] is = is
  kind_is (node ∷ nodes) is = kind_by (λ none. cc (sym is ∙ none)) (first_recorded_sharp false p t) refl

  unlike_found : (synced : Option ℕ) → IsUnlikeFound p t synced (option_and_then (first_unlike p t) synced)
  unlike_found None = refl
  unlike_found (Some double) = by (first_unlike p t double) refl
    where
      by : (u : Option ℕ) → first_unlike p t double ≡ u → IsUnlikeFound p t (Some double) u
      by None none = (unlike_is p t double).0 none
      by (Some k) found = let at = (unlike_is p t double).1 k found in record { from = at.0; within = at.1; unlike_is = at.2; first = at.3 }

  unlike_told : (kind : TracedKind) (synced : Option ℕ) → IsUnlikeTold p t kind synced (unlike_since kind p t synced)
  unlike_told Alone synced = refl
  unlike_told Alike synced = refl
  unlike_told Beside synced = unlike_found synced

  -- ---- all figures

  figures_are : IsSane p → (kind : TracedKind) → IsTracedKind p t kind → AreTracedFigures p t (figures_of_kind kind p t)
  figures_are sane kind is =
      let beside : Bool = is_kind_beside kind in
      let first : Option ℕ = first_recorded_sharp beside p t in
      record {
        kind = is;
        synced = first_sharp_found beside p t trace first refl;
        unlike = unlike_told kind first;
        greatest = greatest_since_is p t.history first some (λ double found. within double (first_sharp_found beside p t trace (Some double) found));
        above = above_since_is p t.history (sharp_scale_of beside p (recorded_flutter p)) first refl;
      }
    where
      some : 0 < amount p name.gMacroPerCycle
      some = let from = (sane.ranges name.gMacroPerCycle).0 in some_of p.macros from
        where
          some_of : (n : ℤ) → pos 10 ≤ℤ n → 0 < nat_abs n
          some_of n from = grind (arith, ints)

      within : (double : ℕ) → IsFirstRecordedSharp (is_kind_beside kind) p t double → 2 * double < length t.history
      within double first =
          let lt = record_at-lt t.history (odd_cycle double) first.is.sharp.odd first.is.sharp.has_odd in
          omega (arith, lt)

-- ---- what is promised

never : (b : Bool) → (b && false) ≡ false
never true = refl
never false = refl

count_none : (nodes : List NodeSpec) → count_by (λ (node : NodeSpec). is_some node.key && false) nodes ≡ 0
count_none [] = refl
count_none (node ∷ nodes) = count_by-cons_no (λ (n : NodeSpec). is_some n.key && false) node nodes (never (is_some node.key)) ∙ count_none nodes

-- no node is named where none is arbitrary
none_named : (p : Values) (t : TraceView) → t.arbitrary ≡ [] → sync_count p (is_named t) ≡ 0
none_named p t none = ap (λ (named : List ℕ). sync_count p (is_among named)) none ∙ count_none p.nodes

-- from a double cycle in sharp sync on: as long as the walk lasts under two checks, and to the end under the first too
record IsKept (beside : Bool) (p : Values) (t : TraceView) (double : ℕ) : Type 0 where
  stays : TracedChecksHold beside p → (passed : ℕ) → double + passed < t.doubles → StaysRecordedInSharpSync beside p t double passed
  on : sharp_holds_of 1 (recorded_flutter p) (sharp_near beside p (recorded_flutter p)) p ≡ true → TracedChecksHold beside p → KeepsSharpClocks beside p t double

stops : (p : Values) (flutter : ℕ) → walk_lasts p flutter ≡ None → rate_walk p flutter ≤ℤ pos 0
stops p flutter none = by (int_le (rate_walk p flutter) (pos 0)) refl none
  where
    at_most : (x : ℤ) → int_le x (pos 0) ≡ true → x ≤ℤ pos 0
    at_most x is = grind (arith, ints)

    by : (b : Bool) → int_le (rate_walk p flutter) (pos 0) ≡ b → (if b then None else Some (rate_room p / nat_abs (rate_walk p flutter))) ≡ None → rate_walk p flutter ≤ℤ pos 0
    by true is none = at_most (rate_walk p flutter) is
    by false is none = absurd (cc none)

abbrev holds_at : ℕ → Bool → Values → Bool
holds_at number beside p = sharp_holds_of number (recorded_flutter p) (sharp_near beside p (recorded_flutter p)) p

kept_sharply : FirstCheckStopsWalk → (beside : Bool) (p : Values) (t : TraceView) (double : ℕ) → IsSane p → IsKept beside p t double → KeepsTracedSharply beside p t double
kept_sharply first beside p t double sane kept = record {
  keeps = λ passed lt held. by_checks (holds_at 2 beside p) (holds_at 3 beside p) refl refl passed lt held;
  stays = kept.stays;
  on = λ none. on_by (holds_at 2 beside p) (holds_at 3 beside p) refl refl none;
}
  where
    by_checks : (a b : Bool) → holds_at 2 beside p ≡ a → holds_at 3 beside p ≡ b → (passed : ℕ) → double + passed < t.doubles → IfSome (if a then (if b then walk_lasts p (recorded_flutter p) else Some 0) else Some 0) (λ lasts. passed < lasts)
        → RecordsKeepApart p t (double + passed) (sharp_precision beside p (recorded_flutter p))
    by_checks true true is also passed lt held = (kept.stays (record { second = is; third = also }) passed lt).keeps held
    by_checks true false is also passed lt held = absurd (omega (arith, held))
    by_checks false b is also passed lt held = absurd (omega (arith, held))

    on_by : (a b : Bool) → holds_at 2 beside p ≡ a → holds_at 3 beside p ≡ b → (if a then (if b then walk_lasts p (recorded_flutter p) else Some 0) else Some 0) ≡ None → KeepsSharpClocks beside p t double
    on_by true true is also none =
        kept.on ((first p (recorded_flutter p) (sharp_near beside p (recorded_flutter p)) sane).1 (stops p (recorded_flutter p) none)) (record { second = is; third = also })
    on_by true false is also none = absurd (cc none)
    on_by false b is also none = absurd (cc none)

-- what stands behind it
pub record Laws : Type 0 where
  pub steady : CheckedTracesAreSteady
  pub keep : TracesKeepSharpSync
  pub precise : TracesKeepSharpPrecision
  pub alike_keep : AlikeTracesKeepSharpSync
  pub alike_precise : AlikeTracesKeepPrecision
  pub unlike : FirstUnlikeIsFound
  pub stop : FirstCheckStopsWalk

module _ (laws : Laws) (p : Values) (t : TraceView) (sane : IsSane p) (trace : IsTrace t) (fits : TraceFits p t) (covered : IsOtherwiseCovered p t) (alone : t.joins ≡ []) where
  only_checks : (g : Gap) → IsTraceGap p t g → IsTracedCheckGap p g
  only_checks g (inl check) = check
  only_checks g (inr other) = absurd (covered.covered g other)

  steady_from : (beside : Bool) → MayNameArbitrary beside p t → (double : ℕ) → IsSharpBehindSync beside p t double → IsSteadyTrace beside p t double
  steady_from beside may double is = laws.steady beside p t is.synced double sane trace fits alone may covered.lawful only_checks is.first is.from

  kept_by_itself : (beside : Bool) → MayNameArbitrary beside p t → (double : ℕ) → IsSharpBehindSync beside p t double → IsKept beside p t double
  kept_by_itself beside may double is =
      let steady = steady_from beside may double is in record {
        stays = λ checks passed lt. laws.keep beside p t double steady checks is.sharp passed lt;
        on = λ one checks. laws.precise beside p t double steady one checks is.sharp;
      }

  kept_alike : (double : ℕ) → IsSharpBehindSync false p t double → AreSaidFrom false p t double → IsKept false p t double
  kept_alike double is said =
      let steady : IsSteadyAlike p t double = record { steady = laws.steady true p t is.synced double sane trace fits alone tt covered.lawful only_checks is.first is.from; alike = said } in record {
        stays = λ checks passed lt. laws.alike_keep p t double steady checks is.sharp passed lt;
        on = λ one checks. laws.alike_precise p t double steady one checks is.sharp;
      }

  kept_of : (kind : TracedKind) → IsTracedKind p t kind → (double : ℕ) → IsFirstRecordedSharp (is_kind_beside kind) p t double → IsKept (is_kind_beside kind) p t double
  kept_of Alone is double first = kept_by_itself false (none_named p t is) double first.is
  kept_of Alike is double first =
      let same = one_first false p t is.double double is.first first in
      kept_alike double first.is (subst (AreSaidFrom false p t) same is.alike)
  kept_of Beside is double first = kept_by_itself true tt double first.is

  text_told : (kind : TracedKind) → kind_of_trace p t ≡ kind → IsTracedKind p t kind → (double : ℕ) → first_recorded_sharp (is_kind_beside kind) p t ≡ Some double → KeepsTracedSharply (is_kind_beside kind) p t double
  text_told kind same is double found =
      kept_sharply laws.stop (is_kind_beside kind) p t double sane (kept_of kind is double (first_sharp_found (is_kind_beside kind) p t trace (Some double) found))

  pub sharp_check_told : IsSharpCheckText p t (sharp_check_text p t)
  sharp_check_told =
      let kind = kind_is laws.unlike p t trace t.arbitrary refl in
      record {
        covered = covered;
        none_joins = alone;
        shown = refl;
        figures = figures_are laws.unlike p t trace sane (kind_of_trace p t) kind;
        keeps = text_told (kind_of_trace p t) refl kind;
      }

pub told_sharply : CheckedTracesAreSteady → TracesKeepSharpSync → TracesKeepSharpPrecision → AlikeTracesKeepSharpSync → AlikeTracesKeepPrecision → FirstUnlikeIsFound → FirstCheckStopsWalk
    → (p : Values) (t : TraceView) → IsSane p → IsTrace t → TraceFits p t → IsOtherwiseCovered p t → t.joins ≡ [] → IsSharpCheckText p t (sharp_check_text p t)
told_sharply steady keep precise alike_keep alike_precise unlike stop p t sane trace fits covered alone =
    sharp_check_told (record { steady = steady; keep = keep; precise = precise; alike_keep = alike_keep; alike_precise = alike_precise; unlike = unlike; stop = stop }) p t sane trace fits covered alone

-- ---- one answer

same_first : (a b : TracedJoin) (more others : List TracedJoin) → a ∷ more ≡ b ∷ others → a ≡ b
same_first a b more others same = cc same

one_said : OneOtherwise → (p : Values) (t : TraceView) (said again : List ℕ) → IsSharpCheckSaid p t said → IsSharpCheckSaid p t again → said ≡ again
one_said one p t said again (inl a) (inl b) = a.shown ∙ ap unlawful_text ((one p t).0 a.why b.why a.is b.is) ∙ sym b.shown
one_said one p t said again (inl a) (inr b) = absurd ((one p t).1 a.why a.is b.covered)
one_said one p t said again (inr a) (inl b) = absurd ((one p t).1 b.why b.is a.covered)
one_said one p t said again (inr a) (inr b) =
    let same : a.first ≡ b.first = same_first a.first b.first a.others b.others (sym a.joins ∙ b.joins) in
    a.shown ∙ ap (λ (j : TracedJoin). joined_text j.node) same ∙ sym b.shown

not_both : OneOtherwise → (p : Values) (t : TraceView) (written said : List ℕ) → IsSharpCheckText p t written → IsSharpCheckSaid p t said → ⊥
not_both one p t written said is (inl a) = (one p t).1 a.why a.is is.covered
not_both one p t written said is (inr a) = cc (sym is.none_joins ∙ a.joins)

pub one_sharp_check : HasOneAnswer params_file → ((p : Values) → HasOneAnswer (trace_file p)) → IsDecided sharp_check_files
one_sharp_check params_one trace_one = decided sharp_check_files (params_one, λ p. (trace_one p, λ t written again is more. is.shown ∙ sym more.shown))

pub one_sharp_line : HasOneAnswer params_file → ((p : Values) → HasOneAnswer (trace_file p)) → OneOtherwise → IsDecided (said_of sharp_check_files)
one_sharp_line params_one trace_one one = decided (said_of sharp_check_files) (params_one, λ p. (trace_one p, λ t said again is more. one_said one p t said again is more))

told_or_said : SomeOtherwise → ((p : Values) (t : TraceView) → IsSane p → IsTrace t → TraceFits p t → IsOtherwiseCovered p t → t.joins ≡ [] → IsSharpCheckText p t (sharp_check_text p t))
    → (p : Values) (t : TraceView) → IsSane p → IsSoundTrace p t → ((written : List ℕ) × IsSharpCheckText p t written) ⊎ ((said : List ℕ) × IsSharpCheckSaid p t said)
told_or_said some told p t sane sound = by (some p t sane)
  where
    by_joins : (joins : List TracedJoin) → t.joins ≡ joins → IsOtherwiseCovered p t → ((written : List ℕ) × IsSharpCheckText p t written) ⊎ ((said : List ℕ) × IsSharpCheckSaid p t said)
    by_joins [] is covered = inl (sharp_check_text p t, told p t sane sound.is sound.fits covered is)
    by_joins (first ∷ others) is covered = inr (joined_text first.node, inr (record { covered = covered; first = first; others = others; joins = is; shown = refl }))

    by : ((u : Unlawful) × IsRefusedOtherwise p t u) ⊎ IsOtherwiseCovered p t → ((written : List ℕ) × IsSharpCheckText p t written) ⊎ ((said : List ℕ) × IsSharpCheckSaid p t said)
    by (inl refused) = inr (unlawful_text refused.0, inl (record { why = refused.0; is = refused.1; shown = refl }))
    by (inr covered) = by_joins t.joins refl covered

pub sharp_check_status : HasOneAnswer params_file → HasSomeAnswer params_file → ((p : Values) → HasOneAnswer (trace_file p)) → ((p : Values) → HasSomeAnswer (trace_file p)) → AcceptedAreSane
    → OneOtherwise → SomeOtherwise → ((p : Values) (t : TraceView) → IsSane p → IsTrace t → TraceFits p t → IsOtherwiseCovered p t → t.joins ≡ [] → IsSharpCheckText p t (sharp_check_text p t))
    → DefinesOneStatus sharp_check_files 2
sharp_check_status one some trace_one trace_some are_sane one_reason some_reason told = record {
  one = one_status sharp_check_files (one, λ p. (trace_one p, λ t written said is no. not_both one_reason p t written said is no));
  some = some_status sharp_check_files 2 (
    some,
    λ bytes p octets accepted.
        let sane = are_sane p bytes accepted.accepted in
        (trace_some p, λ traced t octets_too fits. (refl, told_or_said some_reason told p t sane (sound_trace p t traced sane fits.accepted))),
  );
}
