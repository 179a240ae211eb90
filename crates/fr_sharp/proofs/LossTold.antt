-- What a run loses means what it is called, and where it is covered through losses it keeps to its bounds.
use Rattle.std.proofs.Common.{◌≡◌, ◌⊎◌, ◌↔◌, ℕ, ℤ, zero, suc, pos, ◌+◌, ◌-◌, ◌*◌, ◌<◌, ◌≤◌, ◌≤ℤ◌, Bool, true, false, not, ◌&&◌, ◌||◌, Option, Some, None, List, [], ◌∷◌, inl, inr, refl, ap, ap₂, sym, ◌∙◌, subst, add-one, arith}
use Rattle.std.specs.Prelude.{Contains, max, nat_lt, if◌then◌else◌}
use Rattle.std.specs.List.{list_all, list_any}
use Rattle.std.proofs.lemmas.Bool.{and_parts, cases_Bool, cases_eq, cond-false, cond-true, not-true, or_cases}
use Rattle.std.proofs.lemmas.Int.{ints}
use Rattle.std.proofs.lemmas.List.Folds.{Any-from_list_any, list_any_at}
use Rattle.fr_base.specs.declared.channel.Channel.{Channel}
use Rattle.fr_base.specs.declared.channel.Channel.TheVariants as channel
use Rattle.fr_cluster.proofs.Elements.{Contains-here, Contains-there, filtered, kept_filtered}
use Rattle.fr_cluster.specs.Setting.{correct_nodes, Setting}
use Rattle.fr_cluster.specs.Values.{Values}
use Rattle.fr_cluster.specs.declared.nodes.NodeSpec.{NodeSpec}
use Rattle.fr_drift.specs.Questions.{doubles_of}
use Rattle.fr_drift.specs.View.{DriftView}
use Rattle.fr_script.specs.Deeds.{deed_in}
use Rattle.fr_script.specs.Events.{event_of}
use Rattle.fr_script.specs.View.{ScriptView, deed_of, is_arbitrary, join_of}
use Rattle.fr_coverage.specs.Coverage.{gap_from, some_join}
use Rattle.fr_coverage.specs.Decided.{setting_of}
use Rattle.fr_coverage.specs.Flutter.{flutter_from}
use Rattle.fr_coverage.specs.Links.{is_carried, is_carried_on, is_free, is_link, is_sync, shares}
use Rattle.fr_coverage.specs.Order.{FindsGapFrom, HasNoGapFrom, IsBehind, IsChangeGap, IsCountGap, IsDelayGap, IsEarlierGap, IsFirstGapFrom, IsGapOfRun, IsLengthGap, IsLinkGap}
use Rattle.fr_coverage.specs.declared.gap.Gap.{Gap}
use Rattle.fr_coverage.specs.declared.gap.Gap.TheVariants as gap
use Rattle.fr_bound.specs.declared.settling.Spread.{Spread}
use Rattle.fr_bound.specs.SharpBounds.{near_by}
use Rattle.fr_precision.specs.Among.{apart_through_losses, spread_through_losses, LaterSpreadsAreLess}
use Rattle.fr_precision.specs.declared.kinds.Kinds.{Kinds}
use Rattle.fr_history.specs.Cycles.{Cycles}
use Rattle.fr_runs.specs.Gathered.{listened_by}
use Rattle.fr_promise.specs.JoinedHistories.{FirstRatesLast, KeepsJoined}
use Rattle.fr_promise.specs.SharpJoining.{group_spread_through, next_group_spread, GroupSpread}
use Rattle.fr_promise.proofs.JoinBounds.{group_spreads_go}
use Rattle.fr_sharp.specs.JoinedLosses.{TakesInJoining}
use Rattle.fr_sharp.specs.JoinedLossStatement.{group_since, run_group, CoveredFilesKeepJoinedThroughLosses, KeepsJoinedThroughLosses}
use Rattle.fr_sharp.specs.LossCosts.{limits_hold}
use Rattle.fr_sharp.specs.Losses.{HistoriesKeepThroughLosses}
use Rattle.fr_traffic.specs.Reaching.{all_reach, reaches, reaches_each}
use Rattle.fr_sharp.specs.LossRuns.{is_borne, is_borne_of, is_link_at_most, is_through_losses, losses_by, losses_of, lost_before, near_in_group, near_passed, next_losses, some_listened, stray_fits, through_checks, through_nodes, told_apart, told_near, AreLosses, IsLastLost, IsThroughLosses, JoinedRunsKeepTheirBounds, LossesAreTold, NearIsTakenIn, RunsKeepTheirBounds}
use Rattle.fr_sharp.specs.LossSteps.{heard_apart}
use Rattle.fr_sharp.specs.LossStatement.{run_spread, run_strayed, without_losses}
use Rattle.fr_traffic.specs.Reaching.{whole_in}
use Rattle.fr_bound.specs.SharpChecks.{sharp_holds_of, SharpChecksHold}
use Rattle.fr_bound.specs.SharpSpreads.{sharply_near_in}
use Rattle.fr_sharp.specs.SharpStatement.{has_arbitrary}
use Rattle.fr_traffic.specs.Traffic.{all_bear_from, heard_in, is_borne_to_join, traffic_in}
use Rattle.fr_sharp.specs.declared.losses_of_runs.RunLosses.{RunLosses}
use Rattle.fr_sharp.proofs.FromLossyFiles.{covered_files_keep_through_losses, none_is_clean}
use Rattle.fr_sharp.proofs.LossBurstLaws.{apart_later, keeps_wider}
use Rattle.fr_sharp.proofs.JoinedFromLossyFiles.{joined_apart_later}
use Rattle.fr_runs.proofs.KeyedCounts.{all_pass}
use Rattle.fr_sharp.proofs.StrayFits.{stray_fits_is_told}

-- ---- the figures of the first so many double cycles

below_next : (k n : ℕ) → k < suc n → (k ≡ n) ⊎ (k < n)
below_next k n less = by (cases_eq k n)
  where
    by : (k ≡ n) ⊎ (k ≡ n → ⊥) → (k ≡ n) ⊎ (k < n)
    by (inl same) = inl same
    by (inr other) = inr (omega arith)

risen : (a b : ℕ) (t : Bool) → nat_lt a b ≡ t → (a ≤ (if t then b else a)) × (b ≤ (if t then b else a))
risen a b true is = (grind arith, omega arith)
risen a b false is = (omega arith, grind arith)

wider : (a b : ℕ) → (a ≤ max a b) × (b ≤ max a b)
wider a b = (grind arith, grind arith)

pub widest : (a b r : ℕ) → a ≤ r → b ≤ r → max a b ≤ r
widest a b r one other = grind arith

no_more : (a b c : ℕ) → a ≤ b → b ≤ c → a ≤ c
no_more a b c one other = omega (arith, one, other)

both_true : (a b : Bool) → a ≡ true → b ≡ true → (a && b) ≡ true
both_true a b one other = rw (one, other) refl

-- where the greatest of numbers stands, counted from a double cycle on, and that it is 0 where there are none
abbrev IsPlaced : (ℕ → ℕ) → ℕ → ℕ → ℕ → ℕ → Type 0
IsPlaced number from zero peak place = (peak ≡ 0) × (place ≡ from)
IsPlaced number from (suc n) peak place =
    (from ≤ place) × (place < from + suc n) × (number (place - from) ≡ peak) × ((k : ℕ) → k < place - from → number k < peak)

placed_next : (number : ℕ → ℕ) (from n peak place : ℕ) (t : Bool) → nat_lt peak (number n) ≡ t → IsPlaced number from n peak place
    → ((k : ℕ) → k < n → number k ≤ peak) → IsPlaced number from (suc n) (if t then number n else peak) (if t then from + n else place)
placed_next number from zero peak place true is placed most =
    let none : (from + 0) - from ≡ 0 = omega arith in
    (omega arith, omega arith, ap number none, λ k less. absurd (omega (arith, less)))
placed_next number from zero peak place false is placed most =
    let none = placed.0 in
    let at = placed.1 in
    let small : number 0 ≤ peak = grind arith in
    let start : place - from ≡ 0 = omega (arith, at) in
    let first : number (place - from) ≡ number 0 = ap number start in
    (omega (arith, at), omega (arith, at), omega (arith, none, small, first), λ k less. absurd (omega (arith, less, at)))
placed_next number from (suc n) peak place true is placed most =
    let more : peak < number (suc n) = grind arith in
    let last : (from + suc n) - from ≡ suc n = omega arith in
    (omega arith, omega arith, ap number last, λ k less. let le = most k (omega (arith, less)) in omega (arith, le, more))
placed_next number from (suc n) peak place false is placed most =
    let within = placed.1 in
    (placed.0, omega (arith, within), placed.2, placed.3)

last_next : (whole : ℕ → Bool) (from n : ℕ) (b : Bool) → from ≤ n → whole n ≡ b → (o : Option ℕ) → IsLastLost whole from n o → IsLastLost whole from (suc n) (if b then o else Some n)
last_next whole from n true behind is None before = λ k late less. by k late (below_next k n less)
  where
    by : (k : ℕ) → from ≤ k → (k ≡ n) ⊎ (k < n) → whole k ≡ true
    by k late (inl same) = ap whole same ∙ is
    by k late (inr earlier) = before k late earlier
last_next whole from n true behind is (Some last) before =
    let within = before.1 in
    (before.0, omega (arith, within), before.2, λ k later less. by k later (below_next k n less))
  where
    by : (k : ℕ) → last < k → (k ≡ n) ⊎ (k < n) → whole k ≡ true
    by k later (inl same) = ap whole same ∙ is
    by k later (inr earlier) = before.3 k later earlier
last_next whole from n false behind is o before = (behind, omega arith, is, λ k later less. absurd (omega (arith, later, less)))

module _ (beside : Bool) (p : Values) (from flutter : ℕ) (whole : ℕ → Bool) (what : ℕ → Kinds) (trusted : ℕ → Bool) (near : ℕ → ℕ) where
  abbrev at : ℕ → RunLosses
  at n = losses_by beside p from flutter whole what trusted near n

  abbrev apart : ℕ → ℕ
  apart n = apart_through_losses beside p flutter (λ m. what (from + m)) n

  counted : (n : ℕ) → (at n).doubles ≡ lost_before (λ m. whole (from + m)) n
  unfolding losses_by lost_before
  counted zero = refl
  counted (suc n) = ap (λ (m : ℕ). if whole (from + n) then m else m + 1) (counted n)

  last_is : (n : ℕ) → IsLastLost whole from (from + n) (at n).last
  unfolding losses_by
  last_is zero = λ k late less. absurd (omega (arith, late, less))
  last_is (suc n) =
      let next : suc (from + n) ≡ from + suc n = omega arith in
      let Last : ℕ → Type 0 = λ doubles. IsLastLost whole from doubles (at (suc n)).last in
      subst Last next (last_next whole from (from + n) (whole (from + n)) (omega arith) refl (at n).last (last_is n))

  greatest : (n k : ℕ) → k < n → apart k ≤ (at n).peak
  unfolding losses_by
  greatest zero k less = absurd (omega (arith, less))
  greatest (suc n) k less =
      let up = risen (at n).peak (apart n) (nat_lt (at n).peak (apart n)) refl in
      by up (below_next k n less) (greatest n k)
    where
      by : ((at n).peak ≤ (at (suc n)).peak) × (apart n ≤ (at (suc n)).peak) → (k ≡ n) ⊎ (k < n) → (k < n → apart k ≤ (at n).peak) → apart k ≤ (at (suc n)).peak
      by up (inl same) before = no_more (apart k) (apart n) (at (suc n)).peak (let e : apart k ≡ apart n = ap apart same in omega (arith, e)) up.1
      by up (inr earlier) before = no_more (apart k) (at n).peak (at (suc n)).peak (before earlier) up.0

  placed : (n : ℕ) → IsPlaced apart from n (at n).peak (at n).place
  unfolding losses_by
  placed zero = (refl, refl)
  placed (suc n) = placed_next apart from n (at n).peak (at n).place (nat_lt (at n).peak (apart n)) refl (placed n) (greatest n)

  placed_at : (n : ℕ) → 1 ≤ n
      → (from ≤ (at n).place) × ((at n).place < from + n) × (apart ((at n).place - from) ≡ (at n).peak) × ((k : ℕ) → k < (at n).place - from → apart k < (at n).peak)
  placed_at zero some = absurd (omega (arith, some))
  placed_at (suc n) some = placed (suc n)

  nearest : (n k : ℕ) → k < n → near k ≤ (at n).reach
  unfolding losses_by
  nearest zero k less = absurd (omega (arith, less))
  nearest (suc n) k less =
      by (wider (at n).reach (near n)) (below_next k n less) (nearest n k)
    where
      by : ((at n).reach ≤ (at (suc n)).reach) × (near n ≤ (at (suc n)).reach) → (k ≡ n) ⊎ (k < n) → (k < n → near k ≤ (at n).reach) → near k ≤ (at (suc n)).reach
      by up (inl same) before = no_more (near k) (near n) (at (suc n)).reach (let e : near k ≡ near n = ap near same in omega (arith, e)) up.1
      by up (inr earlier) before = no_more (near k) (at n).reach (at (suc n)).reach (before earlier) up.0

  least : (n reach : ℕ) → ((k : ℕ) → k < n → near k ≤ reach) → (at n).reach ≤ reach
  unfolding losses_by
  least zero reach most = omega arith
  least (suc n) reach most =
      widest (at n).reach (near n) reach (least n reach (λ k less. most k (omega (arith, less)))) (most n (omega arith))

  all_trust : (n : ℕ) → (at n).trusted ≡ true → (k : ℕ) → k < n → trusted (from + k) ≡ true
  unfolding losses_by
  all_trust zero is k less = absurd (omega (arith, less))
  all_trust (suc n) is k less =
      let parts = and_parts (at n).trusted (trusted (from + n)) is in
      by parts.1 (below_next k n less) (all_trust n parts.0 k)
    where
      by : trusted (from + n) ≡ true → (k ≡ n) ⊎ (k < n) → (k < n → trusted (from + k) ≡ true) → trusted (from + k) ≡ true
      by here (inl same) before = ap (λ (m : ℕ). trusted (from + m)) same ∙ here
      by here (inr earlier) before = before earlier

  trust : (n : ℕ) → ((k : ℕ) → k < n → trusted (from + k) ≡ true) → (at n).trusted ≡ true
  unfolding losses_by
  trust zero each = refl
  trust (suc n) each = both_true (at n).trusted (trusted (from + n)) (trust n (λ k less. each k (omega (arith, less)))) (each n (omega arith))

  -- the numbers of action points by double cycle, where they are those by how many passed
  pub are_losses : (near_in : ℕ → ℕ) → ((k : ℕ) → from ≤ k → near_in k ≡ near (k - from)) → (doubles : ℕ) → from < doubles
      → AreLosses beside p from flutter whole what trusted near_in doubles (at (doubles - from))
  are_losses near_in same doubles some =
      let n : ℕ = doubles - from in
      let end : from + n ≡ doubles = omega (arith, some) in
      let Last : ℕ → Type 0 = λ m. IsLastLost whole from m (at n).last in
      let place = placed_at n (omega (arith, some)) in
      let within = place.1 in
      record {
        count = counted n;
        last = subst Last end (last_is n);
        greatest = λ k late less. greatest n (k - from) (omega (arith, late, less));
        behind = place.0;
        place = omega (arith, within, end);
        reached = place.2;
        first = λ k late less. place.3 (k - from) (omega (arith, late, less));
        near = λ k late less. subst (λ (m : ℕ). m ≤ (at n).reach) (sym (same k late)) (nearest n (k - from) (omega (arith, late, less)));
        least = λ reach most.
            least n reach
            (λ k less.
            let here : (from + k) - from ≡ k = omega arith in
            subst (λ (m : ℕ). m ≤ reach) (same (from + k) (omega arith) ∙ ap near here) (most (from + k) (omega arith) (omega (arith, less))));
        always_trusted = λ is k late less.
            let here : from + (k - from) ≡ k = omega (arith, late) in
            subst (λ (m : ℕ). trusted m ≡ true) here (all_trust n is (k - from) (omega (arith, late, less)));
        all_are_trusted = λ each. trust n (λ k less. each (from + k) (omega arith) (omega (arith, less)));
      }

-- ---- one double cycle more

pub no_more_than_one : (heard : Bool) (count n : ℕ) → count ≤ n → (if heard then count else count + 1) ≤ n + 1
no_more_than_one true count n few = omega (arith, few)
no_more_than_one false count n few = omega (arith, few)

next_group : (beside : Bool) (p : Values) (flutter : ℕ) (what : ℕ → Kinds) (n : ℕ) → next_group_spread (what n) p flutter (group_spread_through beside p flutter what n) ≡ group_spread_through beside p flutter what (suc n)
unfolding group_spread_through
next_group beside p flutter what n = refl

pub group_on : (beside : Bool) (p : Values) (flutter : ℕ) (what : ℕ → Kinds) (n : ℕ) (hears : Kinds) (now next : GroupSpread) → hears ≡ what n → now ≡ group_spread_through beside p flutter what n
    → next ≡ next_group_spread hears p flutter now → next ≡ group_spread_through beside p flutter what (n + 1)
group_on beside p flutter what n hears now next is now_is goes =
    goes ∙ ap (λ (h : Kinds). next_group_spread h p flutter now) is ∙ ap (next_group_spread (what n) p flutter) now_is ∙ next_group beside p flutter what n
    ∙ ap (group_spread_through beside p flutter what) (sym (add-one n))

here_apart : (beside : Bool) (p : Values) (flutter : ℕ) (what : ℕ → Kinds) (n : ℕ) → heard_apart (what n) p flutter (spread_through_losses beside p flutter what n) ≡ apart_through_losses beside p flutter what n
unfolding spread_through_losses
here_apart beside p flutter what n = refl

-- of the nodes with rows they are those of a run that no node joins
rows_are : (beside : Bool) (p : Values) (flutter : ℕ) (what : ℕ → Kinds) (n : ℕ) → (group_spread_through beside p flutter what n).rows ≡ spread_through_losses beside p flutter what n
rows_are beside p flutter what n = (group_spreads_go beside p flutter what n).1

apart_on : (beside : Bool) (p : Values) (flutter : ℕ) (what : ℕ → Kinds) (n : ℕ) (hears : Kinds) (now : GroupSpread) (apart : ℕ) → hears ≡ what n → now ≡ group_spread_through beside p flutter what n
    → apart ≡ heard_apart hears p flutter now.rows → apart ≡ apart_through_losses beside p flutter what n
apart_on beside p flutter what n hears now apart is now_is far =
    far ∙ ap (λ (h : Kinds). heard_apart h p flutter now.rows) is ∙ ap (λ (s : GroupSpread). heard_apart (what n) p flutter s.rows) now_is
    ∙ ap (heard_apart (what n) p flutter) (rows_are beside p flutter what n) ∙ here_apart beside p flutter what n

module _ (beside : Bool) (p : Values) (from flutter : ℕ) (whole : ℕ → Bool) (what : ℕ → Kinds) (trusted : ℕ → Bool) (near : ℕ → ℕ) where
  next_by : (k : ℕ)
      → next_losses (whole (from + k)) (trusted (from + k)) (from + k) (apart_through_losses beside p flutter (λ m. what (from + m)) k) (near k)
      (losses_by beside p from flutter whole what trusted near k)
      ≡ losses_by beside p from flutter whole what trusted near (suc k)
  unfolding losses_by
  next_by k = refl

  pub losses_on : (n : ℕ) (all trust : Bool) (hears : Kinds) (apart close : ℕ) (now : GroupSpread) (was : RunLosses) → all ≡ whole (from + n) → trust ≡ trusted (from + n) → hears ≡ what (from + n)
      → now ≡ group_spread_through beside p flutter (λ m. what (from + m)) n → apart ≡ heard_apart hears p flutter now.rows → close ≡ near n
      → was ≡ losses_by beside p from flutter whole what trusted near n → next_losses all trust (from + n) apart close was ≡ losses_by beside p from flutter whole what trusted near (n + 1)
  losses_on n all trust hears apart close now was all_is trust_is is now_is apart_is close_is was_is =
      let double : ℕ = from + n in
      let since : ℕ → Kinds = λ m. what (from + m) in
      let far : apart ≡ apart_through_losses beside p flutter since n = apart_on beside p flutter since n hears now apart is now_is apart_is in
      ap (λ (b : Bool). next_losses b trust double apart close was) all_is ∙ ap (λ (b : Bool). next_losses (whole double) b double apart close was) trust_is
      ∙ ap (λ (a : ℕ). next_losses (whole double) (trusted double) double a close was) far
      ∙ ap (λ (a : ℕ). next_losses (whole double) (trusted double) double (apart_through_losses beside p flutter since n) a was) close_is
      ∙ ap (next_losses (whole double) (trusted double) double (apart_through_losses beside p flutter since n) (near n)) was_is ∙ next_by n
      ∙ ap (losses_by beside p from flutter whole what trusted near) (sym (add-one n))

pub losses_are_told_lem : LossesAreTold
losses_are_told_lem p d s from flutter some =
    are_losses (has_arbitrary p s) p from flutter (whole_in p s) (heard_in (traffic_in p s)) (is_borne_of p s from flutter) (near_passed p s from flutter) (told_near p s from flutter) same (doubles_of d) some
  where
    same : (k : ℕ) → from ≤ k → told_near p s from flutter k ≡ near_passed p s from flutter (k - from)
    same k late =
        let here : k ≡ from + (k - from) = omega (arith, late) in
        ap (λ (n : ℕ). near_in_group p s n (group_since (has_arbitrary p s) p from flutter (heard_in (traffic_in p s)) k)) here

-- ---- the run without what it loses

each_passes : {X : Type 0} (test : X → Bool) (xs : List X) → ((x : X) → Contains xs x → test x ≡ true) → list_all test xs ≡ true
each_passes test [] all = refl
each_passes test (y ∷ xs) all = both_true (test y) (list_all test xs) (all y (Contains-here y xs)) (each_passes test xs (λ x among. all x (Contains-there y xs x among)))

neither : (a b : Bool) → (a || b) ≡ false → (a ≡ false) × (b ≡ false)
neither false false is = (refl, refl)
neither false true is = absurd (cc)
neither true b is = absurd (cc)

one_of : (a b : Bool) → (not a || b) ≡ true → a ≡ true → b ≡ true
one_of true b is one = is
one_of false b is one = absurd (cc)

unless : (a b : Bool) → (a ≡ true → b ≡ true) → (not a || b) ≡ true
unless true b then_is = then_is refl
unless false b then_is = refl

free : (s : ScriptView) (sender receiver : ℕ) (ch : Channel) (cycle : ℕ) → is_arbitrary s sender ≡ false → is_free (without_losses s) sender receiver ch cycle ≡ true
unfolding is_arbitrary event_of deed_of deed_in
free s sender receiver channel.A cycle correct = rw correct refl
free s sender receiver channel.B cycle correct = rw correct refl

carried_bare : (s : ScriptView) (a b : NodeSpec) (double : ℕ) (ch : Channel) → is_arbitrary s a.id ≡ false → shares a b ch ≡ true → is_carried_on (without_losses s) a b double ch ≡ true
carried_bare s a b double ch correct share =
    let T : Bool → Bool → Bool → Bool = λ x y z. x && y && z in
    ap (λ (x : Bool). T x (is_free (without_losses s) a.id b.id ch (2 * double)) (is_free (without_losses s) a.id b.id ch (2 * double + 1))) share
    ∙ ap₂ (T true) (free s a.id b.id ch (2 * double) correct) (free s a.id b.id ch (2 * double + 1) correct)

sender_correct : (s : ScriptView) (a b : NodeSpec) → is_link s a b ≡ true → is_arbitrary s a.id ≡ false
sender_correct s a b link =
    let last = and_parts (is_sync a && not (is_arbitrary s a.id) && not (is_arbitrary s b.id)) _ link in
    let hears = and_parts (is_sync a && not (is_arbitrary s a.id)) (not (is_arbitrary s b.id)) last.0 in
    let sends = and_parts (is_sync a) (not (is_arbitrary s a.id)) hears.0 in
    not-true (is_arbitrary s a.id) sends.1

-- gaps but links are the same
module _ (p : Values) (d : DriftView) (s : ScriptView) where
  count_of_bare : (g : Gap) → IsCountGap p (without_losses s) g → IsCountGap p s g
  unfolding is_arbitrary join_of
  count_of_bare g c = record { few = c.few; told = c.told }

  count_bare : (g : Gap) → IsCountGap p s g → IsCountGap p (without_losses s) g
  unfolding is_arbitrary join_of
  count_bare g c = record { few = c.few; told = c.told }

  length_of_bare : (g : Gap) → IsLengthGap p d (without_losses s) g → IsLengthGap p d s g
  unfolding is_arbitrary join_of
  length_of_bare g c = record { node = c.node; there = c.there; correct = c.correct; cycle = c.cycle; within = c.within; off = c.off; told = c.told }

  length_bare : (g : Gap) → IsLengthGap p d s g → IsLengthGap p d (without_losses s) g
  unfolding is_arbitrary join_of
  length_bare g c = record { node = c.node; there = c.there; correct = c.correct; cycle = c.cycle; within = c.within; off = c.off; told = c.told }

  change_of_bare : (g : Gap) → IsChangeGap p d (without_losses s) g → IsChangeGap p d s g
  unfolding is_arbitrary join_of
  change_of_bare g c = record { node = c.node; there = c.there; correct = c.correct; cycle = c.cycle; later = c.later; within = c.within; jumped = c.jumped; told = c.told }

  change_bare : (g : Gap) → IsChangeGap p d s g → IsChangeGap p d (without_losses s) g
  unfolding is_arbitrary join_of
  change_bare g c = record { node = c.node; there = c.there; correct = c.correct; cycle = c.cycle; later = c.later; within = c.within; jumped = c.jumped; told = c.told }

  delay_of_bare : (g : Gap) → IsDelayGap p d (without_losses s) g → IsDelayGap p d s g
  unfolding is_arbitrary join_of
  delay_of_bare g c = record {
    sender = c.sender;
    receiver = c.receiver;
    sender_there = c.sender_there;
    receiver_there = c.receiver_there;
    link = c.link;
    ch = c.ch;
    shared = c.shared;
    cycle = c.cycle;
    within = c.within;
    wrong = c.wrong;
    told = c.told;
  }

  delay_bare : (g : Gap) → IsDelayGap p d s g → IsDelayGap p d (without_losses s) g
  unfolding is_arbitrary join_of
  delay_bare g c = record {
    sender = c.sender;
    receiver = c.receiver;
    sender_there = c.sender_there;
    receiver_there = c.receiver_there;
    link = c.link;
    ch = c.ch;
    shared = c.shared;
    cycle = c.cycle;
    within = c.within;
    wrong = c.wrong;
    told = c.told;
  }

  same_link : (a b : NodeSpec) (t : Bool) → is_link (without_losses s) a b ≡ t → is_link s a b ≡ t
  unfolding is_arbitrary join_of
  same_link a b t is = is

  link_bare : (a b : NodeSpec) (t : Bool) → is_link s a b ≡ t → is_link (without_losses s) a b ≡ t
  unfolding is_arbitrary join_of
  link_bare a b t is = is

  -- a link that shares a channel is carried where nothing is lost
  unbroken : (a b : NodeSpec) (double : ℕ) → is_link s a b ≡ true → reaches s a b None ≡ true → is_carried (without_losses s) a b double ≡ true
  unbroken a b double link shared = by (or_cases (shares a b channel.A) (shares a b channel.B) shared)
    where
      by : (shares a b channel.A ≡ true) ⊎ (shares a b channel.B ≡ true) → is_carried (without_losses s) a b double ≡ true
      by (inl on_a) =
          ap (λ (x : Bool). x || is_carried_on (without_losses s) a b double channel.B) (carried_bare s a b double channel.A (sender_correct s a b link) on_a)
      by (inr on_b) =
          or_right (is_carried_on (without_losses s) a b double channel.A) (is_carried_on (without_losses s) a b double channel.B)
          (carried_bare s a b double channel.B (sender_correct s a b link) on_b)
        where
          or_right : (x y : Bool) → y ≡ true → (x || y) ≡ true
          or_right true y is = refl
          or_right false y is = is

  no_link : all_reach p.nodes s None ≡ true → (g : Gap) → IsLinkGap p d (without_losses s) g → ⊥
  no_link all g l =
      let row = all_pass (reaches_each p.nodes s None) p.nodes l.sender all l.sender_there in
      let one = all_pass (λ (b : NodeSpec). not (is_link s l.sender b) || reaches s l.sender b None) p.nodes l.receiver row l.receiver_there in
      let link = same_link l.sender l.receiver true l.link in
      let e : true ≡ false = sym (unbroken l.sender l.receiver l.double link (one_of (is_link s l.sender l.receiver) (reaches s l.sender l.receiver None) one link)) ∙ l.broken in
      absurd (cc)

  -- ---- which gap is found

  earlier : (g : Gap) (a b n : ℕ) → is_link_at_most (Some g) ≡ false → IsEarlierGap g (gap.Link a b n)
  earlier (gap.Check number left right) a b n other = refl
  earlier (gap.Count correct arbitrary) a b n other = refl
  earlier (gap.Length node cycle ticks) a b n other = refl
  earlier (gap.Change node cycle ticks) a b n other = refl
  earlier (gap.Delay sender receiver ch cycle ticks) a b n other = refl
  earlier (gap.Link sender receiver double) a b n other = absurd (cc)

  module _ (from : ℕ) (finds : FindsGapFrom p d s from) where
    none_before : (found : Option Gap) → gap_from p d s from ≡ found → is_link_at_most found ≡ true → (g : Gap) → IsGapOfRun p d s g → IsBehind from g → is_link_at_most (Some g) ≡ false → ⊥
    none_before None is at_most g found behind other = finds.none.0 is g found behind
    none_before (Some (gap.Link a b n)) is at_most g found behind other = (finds.first (gap.Link a b n) is).first g found behind (earlier g a b n other)
    none_before (Some (gap.Check number left right)) is at_most g found behind other = absurd (cc)
    none_before (Some (gap.Count correct arbitrary)) is at_most g found behind other = absurd (cc)
    none_before (Some (gap.Length node cycle ticks)) is at_most g found behind other = absurd (cc)
    none_before (Some (gap.Change node cycle ticks)) is at_most g found behind other = absurd (cc)
    none_before (Some (gap.Delay sender receiver ch cycle ticks)) is at_most g found behind other = absurd (cc)

    bare : is_link_at_most (gap_from p d s from) ≡ true → all_reach p.nodes s None ≡ true → HasNoGapFrom p d (without_losses s) from
    bare at_most all g found behind = by found
      where
        none : IsGapOfRun p d s g → is_link_at_most (Some g) ≡ false → ⊥
        none gap other = none_before (gap_from p d s from) refl at_most g gap behind other

        by : IsGapOfRun p d (without_losses s) g → ⊥
        by (inl c) = none (inl (count_of_bare g c)) (ap (λ (x : Gap). is_link_at_most (Some x)) c.told)
        by (inr (inl c)) = none (inr (inl (length_of_bare g c))) (ap (λ (x : Gap). is_link_at_most (Some x)) c.told)
        by (inr (inr (inl c))) = none (inr (inr (inl (change_of_bare g c)))) (ap (λ (x : Gap). is_link_at_most (Some x)) c.told)
        by (inr (inr (inr (inl c)))) = none (inr (inr (inr (inl (delay_of_bare g c))))) (ap (λ (x : Gap). is_link_at_most (Some x)) c.told)
        by (inr (inr (inr (inr c)))) = no_link all g c

    at_most_link : HasNoGapFrom p d (without_losses s) from → (found : Option Gap) → gap_from p d s from ≡ found → is_link_at_most found ≡ true
    at_most_link none None is = refl
    at_most_link none (Some g) is = by first.is_gap
      where
        first : IsFirstGapFrom p d s from g
        first = finds.first g is

        by : IsGapOfRun p d s g → is_link_at_most (Some g) ≡ true
        by (inl c) = absurd (none g (inl (count_bare g c)) first.behind)
        by (inr (inl c)) = absurd (none g (inr (inl (length_bare g c))) first.behind)
        by (inr (inr (inl c))) = absurd (none g (inr (inr (inl (change_bare g c)))) first.behind)
        by (inr (inr (inr (inl c)))) = absurd (none g (inr (inr (inr (inl (delay_bare g c))))) first.behind)
        by (inr (inr (inr (inr c)))) = ap (λ (x : Gap). is_link_at_most (Some x)) c.told

  all_share : (from : ℕ) → from < doubles_of d → HasNoGapFrom p d (without_losses s) from → all_reach p.nodes s None ≡ true
  all_share from some none =
      each_passes (reaches_each p.nodes s None) p.nodes
      (λ a first. each_passes (λ (b : NodeSpec). not (is_link s a b) || reaches s a b None) p.nodes
      (λ b second. unless (is_link s a b) (reaches s a b None) (λ link. shared a b first second link (cases_Bool (reaches s a b None)))))
    where
      shared : (a b : NodeSpec) → Contains p.nodes a → Contains p.nodes b → is_link s a b ≡ true → (reaches s a b None ≡ true) ⊎ (reaches s a b None ≡ false) → reaches s a b None ≡ true
      shared a b first second link (inl is) = is
      shared a b first second link (inr is) =
          let parts = neither (shares a b channel.A) (shares a b channel.B) is in
          let f : Channel → ℕ → Bool = λ ch n. is_free (without_losses s) a.id b.id ch n in
          let T : Bool → Bool → Bool = λ x y. (x && f channel.A (2 * from) && f channel.A (2 * from + 1)) || (y && f channel.B (2 * from) && f channel.B (2 * from + 1)) in
          let broken : is_carried (without_losses s) a b from ≡ false = ap₂ T parts.0 parts.1 in
          absurd
          (none (gap.Link a.id b.id from)
          (inr (inr (inr (inr (record {
            sender = a;
            receiver = b;
            sender_there = first;
            receiver_there = second;
            link = link_bare a b true link;
            double = from;
            within = some;
            broken = broken;
            told = refl;
          }))))) (omega arith))

-- ---- how far action points may lie apart, of the nodes that follow too

-- where some node passes, each that does is asked; else none is
asked_of : (test : NodeSpec → Bool) (nodes : List NodeSpec) (near reach : ℕ)
    → ((node : NodeSpec) → Contains nodes node → test node ≡ true → near ≤ reach) ↔ ((if list_any test nodes then near else 0) ≤ reach)
asked_of test nodes near reach = (all_in (cases_Bool (list_any test nodes)), λ small node there passes. subst (λ (n : ℕ). n ≤ reach) (cond-true (list_any test nodes) near 0 (list_any_at test nodes there.0 node there.1 (ap test there.2 ∙ passes))) small)
  where
    all_in : (list_any test nodes ≡ true) ⊎ (list_any test nodes ≡ false) → ((node : NodeSpec) → Contains nodes node → test node ≡ true → near ≤ reach) → (if list_any test nodes then near else 0) ≤ reach
    all_in (inl some) each =
        let one = Any-from_list_any test nodes some in
        subst (λ (n : ℕ). n ≤ reach) (sym (cond-true (list_any test nodes) near 0 some)) (each one.1 (one.0, one.2, one.3) one.4)
    all_in (inr none) each = subst (λ (n : ℕ). n ≤ reach) (sym (cond-false (list_any test nodes) near 0 none)) (omega arith)

pub near_is_taken_in : NearIsTakenIn
near_is_taken_in p d s double reach spread = (inside, outside)
  where
    x : Setting
    x = setting_of p d s

    correct : NodeSpec → Bool
    correct node = not (is_arbitrary s node.id)

    follower : ℕ → NodeSpec → Bool
    follower ago node = listened_by (join_of s node.id) ago double

    of_followers : ℕ → ℕ → ℕ
    of_followers ago near = if some_listened p.nodes s ago double then near else 0

    -- each correct node that listened then, and each node that is correct and did
    each : (ago near : ℕ)
        → ((node : NodeSpec) → Contains (correct_nodes x) node → follower ago node ≡ true → near ≤ reach) ↔ (of_followers ago near ≤ reach)
    each ago near =
        let asked = asked_of (λ node. correct node && follower ago node) p.nodes near reach in (
          λ one. asked.0 (λ node there passes. let both = and_parts (correct node) (follower ago node) passes in one node (kept_filtered correct p.nodes node there both.0) both.1),
          λ small node there listened. let both = filtered correct p.nodes node there in asked.1 small node both.0 (both_true (correct node) (follower ago node) both.1 listened),
        )

    inside : TakesInJoining x spread double reach → near_in_group p s double spread ≤ reach
    inside takes =
        widest (near_by p spread.rows.starts spread.rows.lengths) (max (of_followers 2 (near_by p spread.seconds spread.rows.lengths)) (of_followers 1 (near_by p spread.firsts.starts spread.firsts.lengths))) reach takes.rows
        (widest (of_followers 2 (near_by p spread.seconds spread.rows.lengths)) (of_followers 1 (near_by p spread.firsts.starts spread.firsts.lengths)) reach
        ((each 2 (near_by p spread.seconds spread.rows.lengths)).0 takes.seconds) ((each 1 (near_by p spread.firsts.starts spread.firsts.lengths)).0 takes.firsts))

    outside : near_in_group p s double spread ≤ reach → TakesInJoining x spread double reach
    outside small =
        let seconds = of_followers 2 (near_by p spread.seconds spread.rows.lengths) in
        let firsts = of_followers 1 (near_by p spread.firsts.starts spread.firsts.lengths) in
        let all = wider (near_by p spread.rows.starts spread.rows.lengths) (max seconds firsts) in
        let followers = wider seconds firsts in
        record {
          rows = no_more (near_by p spread.rows.starts spread.rows.lengths) (near_in_group p s double spread) reach all.0 small;
          seconds = (each 2 (near_by p spread.seconds spread.rows.lengths)).1 (no_more seconds (max seconds firsts) reach followers.0 (no_more (max seconds firsts) (near_in_group p s double spread) reach all.1 small));
          firsts = (each 1 (near_by p spread.firsts.starts spread.firsts.lengths)).1 (no_more firsts (max seconds firsts) reach followers.1 (no_more (max seconds firsts) (near_in_group p s double spread) reach all.1 small));
        }

-- ---- covered through losses

four_hold : (holds : ℕ → Bool) → holds 2 ≡ true → holds 3 ≡ true → holds 4 ≡ true → holds 5 ≡ true → (k : ℕ) → 2 ≤ k → k ≤ 5 → holds k ≡ true
four_hold holds two three four five zero from to = absurd (omega (arith, from))
four_hold holds two three four five (suc zero) from to = absurd (omega (arith, from))
four_hold holds two three four five (suc (suc zero)) from to = two
four_hold holds two three four five (suc (suc (suc zero))) from to = three
four_hold holds two three four five (suc (suc (suc (suc zero)))) from to = four
four_hold holds two three four five (suc (suc (suc (suc (suc zero))))) from to = five
four_hold holds two three four five (suc (suc (suc (suc (suc (suc k)))))) from to = absurd (omega (arith, to))

checks_hold : (p : Values) (flutter reach : ℕ) → through_checks p flutter reach ≡ true → SharpChecksHold flutter reach p
checks_hold p flutter reach is =
    let two = and_parts (sharp_holds_of 2 flutter reach p) (limits_hold flutter reach p) is in
    let three = and_parts (sharp_holds_of 3 flutter reach p) (sharp_holds_of 4 flutter reach p && sharp_holds_of 5 flutter reach p) two.1 in
    let four = and_parts (sharp_holds_of 4 flutter reach p) (sharp_holds_of 5 flutter reach p) three.1 in
    four_hold (λ (k : ℕ). sharp_holds_of k flutter reach p) two.0 three.0 four.0 four.1

hold_checks : (p : Values) (flutter reach : ℕ) → SharpChecksHold flutter reach p → through_checks p flutter reach ≡ true
hold_checks p flutter reach hold =
    both_true (sharp_holds_of 2 flutter reach p) (limits_hold flutter reach p) (hold 2 (omega arith) (omega arith))
    (both_true (sharp_holds_of 3 flutter reach p) (sharp_holds_of 4 flutter reach p && sharp_holds_of 5 flutter reach p) (hold 3 (omega arith) (omega arith))
    (both_true (sharp_holds_of 4 flutter reach p) (sharp_holds_of 5 flutter reach p) (hold 4 (omega arith) (omega arith)) (hold 5 (omega arith) (omega arith))))

-- whether it is borne where no correct node joins, and where one does
borne_alone : (p : Values) (s : ScriptView) (from flutter double : ℕ) → some_join p s ≡ false → is_borne_of p s from flutter double ≡ is_borne p s from flutter double
borne_alone p s from flutter double alone = cond-false (some_join p s) (is_borne_to_join (traffic_in p s) double) (is_borne p s from flutter double) alone

borne_joined : (p : Values) (s : ScriptView) (from flutter double : ℕ) → some_join p s ≡ true → is_borne_of p s from flutter double ≡ is_borne_to_join (traffic_in p s) double
borne_joined p s from flutter double joins = cond-true (some_join p s) (is_borne_to_join (traffic_in p s) double) (is_borne p s from flutter double) joins

module _ (p : Values) (d : DriftView) (s : ScriptView) (from flutter : ℕ) (finds : FindsGapFrom p d s from) (some : from < doubles_of d) where
  abbrev losses : RunLosses
  losses = losses_of p d s from flutter

  told : AreLosses (has_arbitrary p s) p from flutter (whole_in p s) (heard_in (traffic_in p s)) (is_borne_of p s from flutter) (told_near p s from flutter) (doubles_of d) losses
  told = losses_are_told_lem p d s from flutter some

  -- what it is to be borne, and the second check
  parts : (double : ℕ) → is_borne p s from flutter double ≡ true
      → (all_bear_from p (traffic_in p s) from double ≡ true) × (stray_fits p flutter (suc double - from) (run_strayed p s from flutter (suc double)) ≡ true)
  parts double is = and_parts (all_bear_from p (traffic_in p s) from double) (stray_fits p flutter (suc double - from) (run_strayed p s from flutter (suc double))) is

  -- the nodes with rows lie as near as in a run that no node joins
  near_alone : some_join p s ≡ false → (double : ℕ) → from ≤ double → double < doubles_of d → sharply_near_in p (run_spread p s from flutter double) ≤ losses.reach
  near_alone alone double late less =
      let taken = (near_is_taken_in p d s double losses.reach (group_since (has_arbitrary p s) p from flutter (heard_in (traffic_in p s)) double)).1 (told.near double late less) in
      let Near : Spread → Type 0 = λ rows. sharply_near_in p rows ≤ losses.reach in
      subst Near (rows_are (has_arbitrary p s) p flutter (λ m. heard_in (traffic_in p s) (from + m)) (double - from)) taken.rows

  -- what is heard, and each node that may follow, is taken in
  near_joined : some_join p s ≡ true → (double : ℕ) → from ≤ double → double < doubles_of d → TakesInJoining (setting_of p d s) (run_group p d s from flutter double) double losses.reach
  near_joined joins double late less =
      (near_is_taken_in p d s double losses.reach (group_since (has_arbitrary p s) p from flutter (heard_in (traffic_in p s)) double)).1 (told.near double late less)

  pub through_is_covered : flutter_from p d s from ≤ flutter → is_through_losses p s flutter (gap_from p d s from) losses ≡ true → IsThroughLosses p d s from flutter losses.reach
  through_is_covered flutters is = record {
    alone = λ alone. record {
      checks = checks;
      near = near_alone alone;
      none_joins = alone;
      none = none;
      flutters = flutters;
      borne = λ double late less. (borne alone double late less).0;
      limit = λ double passed late less few lasts.
          (stray_fits_is_told p flutter (suc double - from) (run_strayed p s from flutter (suc double)) (checks 2 (omega arith) (omega arith))).0 (borne alone double late less).1 passed few lasts;
    };
    joined = λ joins. record {
      checks = checks;
      takes = near_joined joins;
      none = none;
      flutters = flutters;
      hears = λ double late less. sym (borne_joined p s from flutter double joins) ∙ told.always_trusted first.0 double late less;
    };
  }
    where
      first : (losses.trusted ≡ true) × ((through_checks p flutter losses.reach && through_nodes p s (gap_from p d s from)) ≡ true)
      first = and_parts losses.trusted (through_checks p flutter losses.reach && through_nodes p s (gap_from p d s from)) is

      second : (through_checks p flutter losses.reach ≡ true) × (through_nodes p s (gap_from p d s from) ≡ true)
      second = and_parts (through_checks p flutter losses.reach) (through_nodes p s (gap_from p d s from)) first.1

      checks : SharpChecksHold flutter losses.reach p
      checks = checks_hold p flutter losses.reach second.0

      none : HasNoGapFrom p d (without_losses s) from
      none =
          let nodes = and_parts (is_link_at_most (gap_from p d s from)) (all_reach p.nodes s None) second.1 in
          bare p d s from finds nodes.0 nodes.1

      borne : some_join p s ≡ false → (double : ℕ) → from ≤ double → double < doubles_of d
          → (all_bear_from p (traffic_in p s) from double ≡ true) × (stray_fits p flutter (suc double - from) (run_strayed p s from flutter (suc double)) ≡ true)
      borne alone double late less = parts double (sym (borne_alone p s from flutter double alone) ∙ told.always_trusted first.0 double late less)

  -- each double cycle is borne, and the checks and the gaps are as they are said to be
  all_through : ((double : ℕ) → from ≤ double → double < doubles_of d → is_borne_of p s from flutter double ≡ true) → SharpChecksHold flutter losses.reach p → HasNoGapFrom p d (without_losses s) from
      → is_through_losses p s flutter (gap_from p d s from) losses ≡ true
  all_through borne checks none =
      both_true losses.trusted (through_checks p flutter losses.reach && through_nodes p s (gap_from p d s from)) (told.all_are_trusted borne)
      (both_true (through_checks p flutter losses.reach) (through_nodes p s (gap_from p d s from)) (hold_checks p flutter losses.reach checks)
      (both_true (is_link_at_most (gap_from p d s from)) (all_reach p.nodes s None) (at_most_link p d s from finds none (gap_from p d s from) refl) (all_share p d s from some none)))

  pub covered_is_through : IsThroughLosses p d s from flutter losses.reach → is_through_losses p s flutter (gap_from p d s from) losses ≡ true
  covered_is_through covered = by (cases_Bool (some_join p s))
    where
      borne : (alone : some_join p s ≡ false) (double : ℕ) → from ≤ double → double < doubles_of d → is_borne p s from flutter double ≡ true
      borne alone double late less =
          let c = covered.alone alone in
          both_true (all_bear_from p (traffic_in p s) from double) (stray_fits p flutter (suc double - from) (run_strayed p s from flutter (suc double))) (c.borne double late less)
          ((stray_fits_is_told p flutter (suc double - from) (run_strayed p s from flutter (suc double)) (c.checks 2 (omega arith) (omega arith))).1 (λ passed few lasts. c.limit double passed late less few lasts))

      by : (some_join p s ≡ true) ⊎ (some_join p s ≡ false) → is_through_losses p s flutter (gap_from p d s from) losses ≡ true
      by (inl joins) =
          let c = covered.joined joins in
          all_through (λ double late less. borne_joined p s from flutter double joins ∙ c.hears double late less) c.checks c.none
      by (inr alone) =
          let c = covered.alone alone in
          all_through (λ double late less. borne_alone p s from flutter double alone ∙ borne alone double late less) c.checks c.none

-- ---- what such a run keeps

pub runs_keep_their_bounds : HistoriesKeepThroughLosses → LaterSpreadsAreLess → RunsKeepTheirBounds
runs_keep_their_bounds keep later p d s from flutter h double passed sane covered run late sync awake within lasts =
    let reach = (losses_of p d s from flutter).reach in
    let what : ℕ → Kinds = λ m. heard_in (traffic_in p s) m in
    let now = apart_through_losses (has_arbitrary p s) p flutter (λ m. heard_in (traffic_in p s) (double + m)) passed in
    let all = told_apart p s from flutter (double + passed) in
    let keeps = covered_files_keep_through_losses keep later p d s from flutter reach h double sane covered run late sync awake passed within lasts in
    let le = apart_later later (has_arbitrary p s) p from flutter what double passed late (none_is_clean p s) in
    let bound = keeps_wider (setting_of p d s) h (double + passed) now all le keeps in
    let told = losses_are_told_lem p d s from flutter (omega (arith, late, within)) in
    let most = told.greatest (double + passed) (omega (arith, late)) within in
    (bound, keeps_wider (setting_of p d s) h (double + passed) all (losses_of p d s from flutter).peak most bound)

joined_wider : (x : Setting) (h : Cycles) (double apart wide : ℕ) → apart ≤ wide → KeepsJoined x h double apart → KeepsJoined x h double wide
joined_wider x h double apart wide le keeps = record { skew = λ macrotick is_odd less. further _ (keeps.skew macrotick is_odd less); ends = keeps.ends }
  where
    further : (z : ℤ) → z ≤ℤ pos apart → z ≤ℤ pos wide
    further z below = omega (arith, ints, below, le)

pub joined_runs_keep_their_bounds : CoveredFilesKeepJoinedThroughLosses → LaterSpreadsAreLess → JoinedRunsKeepTheirBounds
joined_runs_keep_their_bounds keep later p d s from flutter h double sane drift_fits fits joins covered run late sync =
    record {
      promise = promise;
      bound = bound;
      peak = λ passed within lasting.
          let told = losses_are_told_lem p d s from flutter (omega (arith, late, within)) in
          let most = told.greatest (double + passed) (omega (arith, late)) within in
          joined_wider (setting_of p d s) h (double + passed) (told_apart p s from flutter (double + passed)) (losses_of p d s from flutter).peak most (bound passed within lasting);
    }
  where
    promise : KeepsJoinedThroughLosses p d s flutter h double
    promise = keep p d s from flutter (losses_of p d s from flutter).reach h double sane drift_fits fits covered run late sync

    bound : (passed : ℕ) → double + passed < doubles_of d → ((m : ℕ) → m ≤ passed → FirstRatesLast p flutter m) → KeepsJoined (setting_of p d s) h (double + passed) (told_apart p s from flutter (double + passed))
    bound passed within lasting =
        let now = apart_through_losses (has_arbitrary p s) p flutter (λ m. heard_in (traffic_in p s) (double + m)) passed in
        let stays = promise.stays passed within (λ m less. lasting m (omega (arith, less))) in
        let le = joined_apart_later later p s from flutter double passed late in
        joined_wider (setting_of p d s) h (double + passed) now (told_apart p s from flutter (double + passed)) le (stays.keeps (lasting passed (omega arith)))
