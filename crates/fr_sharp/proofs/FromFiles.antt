-- The run that files decide is a steady one where it has no gap but of the checks, and keeps the sharper precision where it is
-- sharply covered.
use Rattle.std.proofs.Common.{◌≡◌, ℕ, suc, ◌+◌, ◌*◌, ◌-◌, ◌<◌, ◌≤◌, ◌==◌, ℤ, pos, Bool, true, false, ◌&&◌, not, Option, Some, None, IfSome, if◌then◌else◌, List, [], ◌∷◌, refl, ap, sym, ◌∙◌, subst, ◌⊎◌, inl, inr, arith}
use Rattle.std.specs.Prelude.{◌-ℤ◌, nat_abs, Contains, count_by, is_some}
use Rattle.std.specs.List.{list_any}
use Rattle.std.proofs.lemmas.Bool.{and_parts, eq-eqb, ne_eqb, not-true, or_parts}
use Rattle.std.proofs.lemmas.Int.{ints}
use Rattle.fr_base.specs.Within.{IsWithin}
use Rattle.fr_base.specs.declared.channel.Channel.{Channel}
use Rattle.fr_cluster.proofs.Elements.{kept_filtered}
use Rattle.fr_cluster.specs.Questions.{has_channel}
use Rattle.fr_cluster.specs.Setting.{is_correct}
use Rattle.fr_cluster.specs.Values.{Values}
use Rattle.fr_cluster.specs.declared.nodes.NodeSpec.{NodeSpec}
use Rattle.fr_midpoint.proofs.Counts.{count_by-cons_no}
use Rattle.fr_drift.specs.Questions.{delay_of, doubles_of}
use Rattle.fr_drift.specs.View.{DriftView}
use Rattle.fr_script.specs.View.{ScriptView, is_arbitrary}
use Rattle.fr_coverage.specs.Decided.{setting_of}
use Rattle.fr_coverage.specs.Flutter.{flutter_from, FluttersBy}
use Rattle.fr_coverage.specs.Links.{is_link, is_sync, shares}
use Rattle.fr_coverage.proofs.Flutters.{flutter_is_greatest}
use Rattle.fr_history.specs.Cycles.{Cycles}
use Rattle.fr_runs.specs.Links.{IsLinked, Share}
use Rattle.fr_runs.proofs.Nodes.{correct_node}
use Rattle.fr_promise.proofs.Covering.{few_nodes, nodes_keep_within, HaveNoGapFrom}
use Rattle.fr_runs.specs.Flutter.{FluttersWithin}
use Rattle.fr_sharp.specs.HeldHistories.{HeldHistoriesKeepSharpSync, HistoriesKeepForEver, IsHeldAt}
use Rattle.fr_promise.specs.HeldWalks.{beyond_after, beyond_for_ever, walk_is_held, SyncLastsAfter, SyncLastsUpTo}
use Rattle.fr_precision.specs.Lengths.{walked_after}
use Rattle.fr_bound.specs.SharpBounds.{sharp_near, sharp_precision}
use Rattle.fr_bound.specs.SharpChecks.{SharpChecksHold}
use Rattle.fr_sharp.specs.SharpFiles.{ArbitraryIsTold, CoveredFilesKeepSharply, FilesAreSteady, FilesFlutter, FilesGiveSteadyRuns, FilesSettleSharply}
use Rattle.fr_runs.specs.SharpHistories.{IsInSharpSyncAt, IsSteadyRunFrom, KeepsApart, StaysInSharpSyncAt}
use Rattle.fr_sharp.specs.SharpStatement.{has_arbitrary, FilesKeepSharpPrecision, KeepsSharply}
use Rattle.fr_runs.specs.SteadyRuns.{MayHaveArbitrary}
use Rattle.fr_sharp.proofs.HeldRuns.{never_lasts}
use Rattle.fr_sharp.proofs.RunWay.{stated_runs_settle_sharply}
use Rattle.fr_promise.proofs.RunSync.{histories_keep_sharp_sync_lem}

-- ---- flutter

within_if : (z : ℤ) (bound : ℕ) → nat_abs z ≤ bound → IsWithin (pos bound) z
within_if z bound le = record { low = omega (arith, ints); high = omega (arith, ints) }

amount_within : (z : ℤ) (bound : ℕ) → IsWithin (pos bound) z → nat_abs z ≤ bound
amount_within z bound w = let low = w.low in let high = w.high in omega (arith, ints)

module _ (p : Values) (d : DriftView) (s : ScriptView) (from : ℕ) where
  -- a frame that counts, with the difference of its delays
  flutters_by : (sender receiver : NodeSpec) (slot : ℕ) (ch : Channel) (double : ℕ) → IsLinked (setting_of p d s) sender receiver slot → Share sender receiver ch → from ≤ double → double < doubles_of d
      → FluttersBy p d s from (nat_abs (delay_of d sender.id receiver.id ch (suc (2 * double)) -ℤ delay_of d sender.id receiver.id ch (2 * double)))
  flutters_by sender receiver slot ch double link share behind within =
      let sends = correct_node (setting_of p d s) sender link.sends in
      let hears = correct_node (setting_of p d s) receiver link.hears in
      let is : is_link s sender receiver ≡ true = rw (link.key, sends.correct, hears.correct, ne_eqb sender.id receiver.id link.other) refl in
      let both : shares sender receiver ch ≡ true = rw (share.by_sender, share.by_receiver) refl in
      record {
        sender = sender;
        receiver = receiver;
        sender_there = sends.there;
        receiver_there = hears.there;
        link = is;
        ch = ch;
        shared = both;
        double = double;
        behind = behind;
        within = within;
        differs = refl;
      }

  -- and the other way round
  keyed : (o : Option ℕ) → is_some o ≡ true → (slot : ℕ) × (o ≡ Some slot)
  keyed None is = absurd (cc)
  keyed (Some slot) is = (slot, refl)

  linked : (sender receiver : NodeSpec) → Contains p.nodes sender → Contains p.nodes receiver → is_link s sender receiver ≡ true → (slot : ℕ) × IsLinked (setting_of p d s) sender receiver slot
  linked sender receiver first second is =
      let last = and_parts (is_sync sender && not (is_arbitrary s sender.id) && not (is_arbitrary s receiver.id)) (not (sender.id == receiver.id)) is in
      let hears = and_parts (is_sync sender && not (is_arbitrary s sender.id)) (not (is_arbitrary s receiver.id)) last.0 in
      let sends = and_parts (is_sync sender) (not (is_arbitrary s sender.id)) hears.0 in
      let slot = keyed sender.key sends.0 in
      let apart : (sender.id == receiver.id) ≡ false = not-true (sender.id == receiver.id) last.1 in (
        slot.0,
        record {
          sends = kept_filtered (λ (n : NodeSpec). is_correct (setting_of p d s) n.id) p.nodes sender first sends.1;
          hears = kept_filtered (λ (n : NodeSpec). is_correct (setting_of p d s) n.id) p.nodes receiver second hears.1;
          key = slot.1;
          other = λ same. let e = sym (eq-eqb sender.id receiver.id same) ∙ apart in absurd (cc);
        },
      )

  flutter_within : (flutter : ℕ) → flutter_from p d s from ≤ flutter → FluttersWithin (setting_of p d s) from flutter
  flutter_within flutter le sender receiver slot ch double link share behind within =
      let apart = delay_of d sender.id receiver.id ch (suc (2 * double)) -ℤ delay_of d sender.id receiver.id ch (2 * double) in
      let most : nat_abs apart ≤ flutter_from p d s from = (flutter_is_greatest p d s from).most (nat_abs apart) (flutters_by sender receiver slot ch double link share behind within) in
      within_if apart flutter (omega (arith, most, le))

  within_flutter : (flutter : ℕ) → FluttersWithin (setting_of p d s) from flutter → flutter_from p d s from ≤ flutter
  within_flutter flutter w = by (flutter_is_greatest p d s from).reached
    where
      by : (flutter_from p d s from ≡ 0) ⊎ FluttersBy p d s from (flutter_from p d s from) → flutter_from p d s from ≤ flutter
      by (inl none) = omega (arith, none)
      by (inr f) =
          let on = linked f.sender f.receiver f.sender_there f.receiver_there f.link in
          let both = and_parts (has_channel (Some f.sender) f.ch) (has_channel (Some f.receiver) f.ch) f.shared in
          let apart = delay_of d f.sender.id f.receiver.id f.ch (suc (2 * f.double)) -ℤ delay_of d f.sender.id f.receiver.id f.ch (2 * f.double) in
          let near : IsWithin (pos flutter) apart = w f.sender f.receiver on.0 f.ch f.double on.1 (record { by_sender = both.0; by_receiver = both.1 }) f.behind f.within in
          subst (λ (n : ℕ). n ≤ flutter) f.differs (amount_within apart flutter near)

pub files_flutter : FilesFlutter
files_flutter p d s from flutter = (λ w. within_flutter p d s from flutter w, λ le. flutter_within p d s from flutter le)

-- ---- steady runs

pub files_are_steady : FilesAreSteady
files_are_steady p d s from flutter sane none le =
    let w : HaveNoGapFrom p d s from = record { sane = sane; none = none } in
    let within = nodes_keep_within p d s from w in
    record {
      timed = record {
        sane = sane;
        few = few_nodes p d s from w;
        least = within.least;
        most = within.most;
        changes = within.changes;
        delays = within.delays;
        flutters = flutter_within p d s from flutter le;
      };
      links = λ double behind in_run sender receiver slot linked. within.links sender receiver slot double linked behind in_run;
    }

none_counted : {X : Type 0} (test : X → Bool) (xs : List X) → list_any test xs ≡ false → count_by test xs ≡ 0
none_counted test [] is = refl
none_counted test (x ∷ xs) is =
    let parts = or_parts (test x) (list_any test xs) is in
    count_by-cons_no test x xs parts.0 ∙ none_counted test xs parts.1

pub arbitrary_is_told : ArbitraryIsTold
arbitrary_is_told p d s = by (has_arbitrary p s) refl
  where
    by : (b : Bool) → has_arbitrary p s ≡ b → MayHaveArbitrary b (setting_of p d s)
    by true is = tt
    by false is = none_counted (λ (node : NodeSpec). is_sync node && is_arbitrary s node.id) p.nodes is

pub files_give_steady_runs : FilesGiveSteadyRuns
files_give_steady_runs p d s from flutter h sane none le alone run = record {
  covered = files_are_steady p d s from flutter sane none le;
  arbitrary = arbitrary_is_told p d s;
  none_joins = alone;
  lawful = run.lawful;
  whole = run.whole;
}

-- ---- what they keep

module _ (each : HeldHistoriesKeepSharpSync) (precise : HistoriesKeepForEver) (beside : Bool) (p : Values) (d : DriftView) (s : ScriptView) (from flutter : ℕ) (h : Cycles) (double : ℕ)
    (run : IsSteadyRunFrom beside (setting_of p d s) from flutter h) (late : from ≤ double) (checks : SharpChecksHold flutter (sharp_near beside p flutter) p) (sync : IsInSharpSyncAt beside p flutter (pos 0) h double) where
  stays : (k : ℕ) → double ≤ k → k < doubles_of d → StaysInSharpSyncAt beside (setting_of p d s) flutter h double (k - double)
  stays k after within = histories_keep_sharp_sync_lem beside (setting_of p d s) from flutter h double run late checks sync (k - double) (omega (arith, after, within))

  held_at : walk_is_held p flutter ≡ true → (k : ℕ) → double ≤ k → k < doubles_of d → IsHeldAt beside (setting_of p d s) flutter h k
  held_at held k after within =
      let same : double + (k - double) ≡ k = omega (arith, after) in
      subst (IsHeldAt beside (setting_of p d s) flutter h) same (each beside (setting_of p d s) from flutter h double run late checks held sync (k - double) (omega (arith, after, within)))

  keeps_at : (k : ℕ) → double ≤ k → k < doubles_of d → SyncLastsAfter p flutter (k - double) → KeepsApart (setting_of p d s) h k (sharp_precision beside p flutter)
  keeps_at k after within lasts = by (walk_is_held p flutter) refl
    where
      by : (b : Bool) → walk_is_held p flutter ≡ b → KeepsApart (setting_of p d s) h k (sharp_precision beside p flutter)
      by true held = (held_at held k after within).keeps
      by false never =
          let same : double + (k - double) ≡ k = omega (arith, after) in
          let At : ℕ → Type 0 = λ m. KeepsApart (setting_of p d s) h m (sharp_precision beside p flutter) in
          let Lasts : Option ℕ → Type 0 = λ o. IfSome o (λ lasts. k - double < lasts) in
          subst At same ((stays k after within).keeps (subst Lasts (never_lasts p flutter never) lasts))

  synced_at : (k : ℕ) → double ≤ k → k < doubles_of d → SyncLastsUpTo p flutter (k - double) → IsInSharpSyncAt beside p flutter (beyond_after p flutter (k - double)) h k
  synced_at k after within lasts = by (walk_is_held p flutter) refl
    where
      by : (b : Bool) → walk_is_held p flutter ≡ b → IsInSharpSyncAt beside p flutter (beyond_after p flutter (k - double)) h k
      by true held =
          let Beyond : ℤ → Type 0 = λ beyond. IsInSharpSyncAt beside p flutter beyond h k in
          let beyond : beyond_after p flutter (k - double) ≡ beyond_for_ever p flutter =
          ap (λ b. if b then beyond_for_ever p flutter else walked_after p flutter (k - double)) held in
          subst Beyond (sym beyond) (held_at held k after within).synced
      by false never =
          let same : double + (k - double) ≡ k = omega (arith, after) in
          let At : ℕ → Type 0 = λ m. IsInSharpSyncAt beside p flutter (walked_after p flutter (k - double)) h m in
          let Lasts : Option ℕ → Type 0 = λ o. IfSome o (λ lasts. k - double ≤ lasts) in
          let Beyond : ℤ → Type 0 = λ beyond. IsInSharpSyncAt beside p flutter beyond h k in
          let beyond : beyond_after p flutter (k - double) ≡ walked_after p flutter (k - double) =
          ap (λ b. if b then beyond_for_ever p flutter else walked_after p flutter (k - double)) never in
          subst Beyond (sym beyond) (subst At same ((stays k after within).synced (subst Lasts (never_lasts p flutter never) lasts)))

  pub keeps_sharply : KeepsSharply beside (setting_of p d s) flutter h double
  keeps_sharply = record {
    keeps = keeps_at;
    synced = synced_at;
    always = λ lasts. precise beside (setting_of p d s) from flutter h double run late checks lasts sync;
  }

pub covered_files_keep_sharply : HeldHistoriesKeepSharpSync → HistoriesKeepForEver → CoveredFilesKeepSharply
covered_files_keep_sharply each precise p d s from flutter h double sane covered run late sync =
    keeps_sharply each precise (has_arbitrary p s) p d s from flutter h double
    (files_give_steady_runs p d s from flutter h sane covered.none covered.flutters covered.none_joins run) late covered.checks sync

pub files_keep_sharp_precision : HeldHistoriesKeepSharpSync → HistoriesKeepForEver → FilesKeepSharpPrecision
files_keep_sharp_precision each precise p d s drift script from flutter h double sane drift_file script_file covered run late sync =
    covered_files_keep_sharply each precise p d s from flutter h double sane covered run late sync

pub files_settle_sharply_lem : FilesSettleSharply
files_settle_sharply_lem p d s flutter start rate way h sane none le alone run is holds near double within =
    stated_runs_settle_sharply (has_arbitrary p s) (setting_of p d s) flutter start rate way h is holds (files_give_steady_runs p d s 0 flutter h sane (λ g gap behind. none g gap) le alone run) near double within
