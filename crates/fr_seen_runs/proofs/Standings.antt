-- What holds of the double cycles of a log: how they stand, by what is known of them.
use Rattle.std.proofs.Common.{◌≡◌, ℕ, suc, ◌+◌, ◌*◌, ◌/◌, ◌<◌, ◌≤◌, ◌==◌, ◌&&◌, Bool, true, false, Option, Some, None, pos, List, [], ◌∷◌, ◌++◌, length, refl, ap, sym, ◌∙◌, subst, arith}
use Rattle.std.specs.Prelude.{Contains, IfSome, cond, count_by, filter_map, is_some, if◌then◌else◌}
use Rattle.std.specs.Option.{option_map, option_to_list}
use Rattle.std.proofs.lemmas.List.Elements.{All-contains}
use Rattle.std.proofs.lemmas.List.Sums.{sum_by-cons}
use Rattle.fr_base.specs.declared.channel.Channel.{Channel}
use Rattle.fr_bound.specs.Judged.{apart_through, known_after, met_with, IsJudgedDouble}
use Rattle.fr_bound.specs.declared.judging.Heard.{Heard}
use Rattle.fr_bound.specs.declared.judging.Heard.TheVariants.{Clean, Meeting, Poor}
use Rattle.fr_bound.specs.declared.judging.Known.{Known}
use Rattle.fr_bound.proofs.JudgedNumbers.{judged_from}
use Rattle.fr_cluster.specs.Setting.{Setting, correct_nodes}
use Rattle.fr_cluster.specs.declared.nodes.NodeSpec.{NodeSpec}
use Rattle.fr_cluster.proofs.Elements.{Contains-here, Contains-none, Contains-there}
use Rattle.fr_cluster.specs.Values.{Values}
use Rattle.fr_bound.specs.Outweighing.{outweighs}
use Rattle.fr_precision.specs.Round.{sync_count}
use Rattle.fr_history.specs.Cycles.{Cycles}
use Rattle.fr_log.specs.View.{LogView}
use Rattle.fr_course.specs.Readings.{reading_scale}
use Rattle.fr_course.specs.Scales.{Scale}
use Rattle.fr_course.specs.declared.stamps.Delays.{Delays}
use Rattle.fr_sightings.specs.Senders.{sightings_in}
use Rattle.fr_sightings.specs.Sightings.{sightings_of}
use Rattle.fr_sightings.specs.Sure.{is_sync_as}
use Rattle.fr_sightings.specs.declared.sender.Sender.{Sender}
use Rattle.fr_sightings.specs.declared.sighting.Sighting.{Sighting}
use Rattle.fr_judging.specs.Knowing.{is_judged_by, is_stated_at, judged_met, judged_skews, judged_terms, known_apart, known_as_stated, known_missing, known_next, known_seen, moving_faults, standing_faults, standing_of, term_faults}
use Rattle.fr_judging.specs.Missing.{unlike_term}
use Rattle.fr_observe.specs.declared.term.Term.{Term}
use Rattle.fr_observe.specs.declared.term.Term.TheVariants.{Offset, Rate}
use Rattle.fr_observe.specs.Faults.{offset_fault, rate_fault, skew_fault, stated_flutter}
use Rattle.fr_observe.specs.Observing.{even_high, even_low, odd_high, odd_low, seen_doubles}
use Rattle.fr_observe.specs.declared.fault.Fault.{Fault}
use Rattle.fr_judging.specs.Hearing.{log_heard, synced_with}
use Rattle.fr_findings.specs.Verdict.{log_span, sightings_before}
use Rattle.fr_sharp.specs.JudgedSteps.{GoesOnJudged, IsHeardIn}
use Rattle.fr_runs.specs.SharpHistories.{IsLawfulStatedRun}
use Rattle.fr_runs.specs.SteadyRuns.{IsWhole}
use Rattle.fr_runs.proofs.Parts.{cycle_within}
use Rattle.fr_sharp.proofs.JudgedLaws.{known_is_met_lem, unfollowed_goes_on_lem}
use Rattle.fr_seen.specs.Clocks.{StraightClock}
use Rattle.fr_seen.specs.LogSeen.{log_senders, run_double}
use Rattle.fr_seen.specs.Contradictions.{IsAsLogStatesBefore, IsObservedRun, IsSyncedAsStated, MissesFew, NamesArbitrary}
use Rattle.fr_seen_runs.specs.ComputedTerms.{IsNamedLog}
use Rattle.fr_seen_runs.specs.JudgedTerms.{MissedIsSo}
use Rattle.fr_seen.specs.LogDoubles.{IsDoubleThere}
use Rattle.fr_seen_runs.specs.KnownDoubles.{HasNoSkewAbove, NoKnownFault, NoSkewFaultWithin, SeenIsKnown}
use Rattle.fr_seen_runs.specs.Standings.{IsKnownOfLog, SpreadIsSo, StandingsAreSo, StandsSo, log_standing, log_standing_faults}
use Rattle.fr_seen_runs.proofs.ComputedLists.{none_given}
use Rattle.fr_seen_runs.proofs.ComputedSenders.{IsLogSender, are_log_senders}
use Rattle.fr_seen_runs.proofs.KeyFrames.{correct_by}
use Rattle.fr_seen.proofs.SeenDoubles.{seen_double_there}
use Rattle.fr_runs.specs.SharpHistories.{EachHasRow, IsKnownAt}

-- ---- what its nodes hear

inside : {X : Type 0} (a b : X) → Some a ≡ Some b → a ≡ b
inside a b is = cc is

-- as many elements pass either test, where they agree on each of them
count_alike : (one other : NodeSpec → Bool) (nodes : List NodeSpec) → ((node : NodeSpec) → Contains nodes node → one node ≡ other node) → count_by one nodes ≡ count_by other nodes
count_alike one other [] alike = refl
count_alike one other (node ∷ nodes) alike =
    omega (
      arith,
      sum_by-cons (λ y. cond (one y) 1 0) node nodes,
      sum_by-cons (λ y. cond (other y) 1 0) node nodes,
      ap (λ b. cond {A = ℕ} b 1 0) (alike node (Contains-here node nodes)),
      count_alike one other nodes (λ n among. alike n (Contains-there node nodes n among)),
    )

-- the arbitrary sync nodes of a log are those of a run whose arbitrary nodes it names
arbitrary_alike : (x : Setting) (l : LogView) → NamesArbitrary x l → sync_count x.params x.is_arbitrary ≡ count_by (is_sync_as l true) x.params.nodes
arbitrary_alike x l named =
    count_alike (λ (node : NodeSpec). is_some node.key && x.is_arbitrary node.id) (is_sync_as l true) x.params.nodes
    (λ node among. ap (λ b. is_some node.key && b) (named node among))

module _ (x : Setting) (h : Cycles) (base : ℕ) (l : LogView) (until : ℕ) (states : IsAsLogStatesBefore x h base l until) (double : ℕ) (short : double < until) where
  -- where no sender may be missed, all of all are heard
  whole_by : (what : Heard) → log_heard x.params l ≡ Some what → (l.lost == 0) ≡ true → IsWhole x double
  whole_by what is none sender receiver slot linked =
      let few = states.missed what double receiver is short linked.hears in
      few.carried sender slot linked (no_one few.missed few.few none sender.id)
    where
      no_one : (missed : List ℕ) → length missed ≤ l.lost → (l.lost == 0) ≡ true → (node : ℕ) → Contains missed node → ⊥
      no_one [] few none node among = Contains-none node among
      no_one (other ∷ missed) few none node among = more (length missed) l.lost few none
        where
          more : (n lost : ℕ) → suc n ≤ lost → (lost == 0) ≡ true → ⊥
          more n lost few none = grind arith

  zero : (n : ℕ) → (n == 0) ≡ true → n ≡ 0
  zero n is = grind arith

  hears_by : (what : Heard) (arbitrary : ℕ) (enough whole none : Bool) → log_heard x.params l ≡ Some what → (l.lost == 0) ≡ whole → (arbitrary == 0) ≡ none
      → sync_count x.params x.is_arbitrary ≡ arbitrary
      → (if enough then (if whole then (if none then Some Clean else Some Meeting) else (if none then Some Poor else None)) else None) ≡ Some what → IsHeardIn what x double
  hears_by what arbitrary false whole none heard lost counted counts is = absurd (cc is)
  hears_by what arbitrary true true true heard lost counted counts is =
      subst (λ w. IsHeardIn w x double) (inside Clean what is) (counts ∙ zero arbitrary counted, whole_by what heard lost)
  hears_by what arbitrary true true false heard lost counted counts is = subst (λ w. IsHeardIn w x double) (inside Meeting what is) (whole_by what heard lost)
  hears_by what arbitrary true false true heard lost counted counts is =
      let poor : Poor ≡ what = inside Poor what is in
      subst (λ w. IsHeardIn w x double) poor (counts ∙ zero arbitrary counted, states.none_deaf double (heard ∙ ap Some (sym poor)) short)
  hears_by what arbitrary true false false heard lost counted counts is = absurd (cc is)

  heard_in : (what : Heard) → log_heard x.params l ≡ Some what → IsHeardIn what x double
  unfolding log_heard
  heard_in what is =
      let correct = count_by (is_sync_as l false) x.params.nodes in
      let arbitrary = count_by (is_sync_as l true) x.params.nodes in
      hears_by what arbitrary (outweighs correct arbitrary) (l.lost == 0) (arbitrary == 0) is refl refl (arbitrary_alike x l states.named) is

-- ---- the laws of judged double cycles

none_of_two : (a b : List Fault) → a ≡ [] → b ≡ [] → a ++ b ≡ []
none_of_two a b a0 b0 = ap (λ z. z ++ b) a0 ∙ b0

pub record KnownIsKept : Type 0 where
  pub seen : SeenIsKnown
  pub fault : NoKnownFault
  pub skew : NoSkewFaultWithin
  pub missed : MissedIsSo

module _
    (x : Setting) (h : Cycles) (base : ℕ) (delays : ℕ → Channel → Delays) (clock : ℕ → StraightClock) (l : LogView) (what : Heard) (double : ℕ)
    (until : ℕ) (run : IsObservedRun x h base delays clock l) (states : IsAsLogStatesBefore x h base l until) (is : log_heard x.params l ≡ Some what)
    (among : Contains (seen_doubles (sightings_of x.params l)) double) (kept : KnownIsKept)
  where
    abbrev At : ℕ
    At = run_double base double

    abbrev p : Values
    p = x.params

    abbrev Scaled : Scale
    Scaled = reading_scale l.drift x.params

    abbrev Here : List Sighting
    Here = sightings_in (sightings_of x.params l) double

    abbrev Before : List Sighting
    Before = sightings_before (sightings_of x.params l) double

    abbrev Senders : List Sender
    Senders = log_senders x l double

    there : IsDoubleThere h At
    there = seen_double_there x h base delays clock l run double among

    short : At < x.doubles
    short = less At x.doubles (length h) run.whole (cycle_within h (suc (2 * At)) there.odd there.has.has_odd)
      where
        less : (d k n : ℕ) → n ≡ 2 * k → suc (2 * d) < n → d < k
        less d k n whole below = omega (arith, whole, below)

    abbrev Flutter : ℕ
    Flutter = stated_flutter x.params l

    lawful : IsLawfulStatedRun x (stated_flutter x.params l) h
    lawful = record { covered = states.timed what is; lawful = run.timed.lawful; whole = run.whole }

    -- one before that until which the run is as the log states
    abbrev pub IsBefore : Type 0
    IsBefore = run_double base double < until

    hears : IsBefore → IsHeardIn what x At
    hears below = heard_in x h base l until states At below what is

    named : IsNamedLog x h base delays clock l
    named = record { timed = run.timed; log = run.log; seen = run.seen; named = states.named }

    abbrev pub Is : Known → Type 0
    Is known = IsKnownAt x h At known × EachHasRow x h At

    -- what is met
    met_is : (known seen : Option Known) → IfSome known Is → ((some : Known) → seen ≡ Some some → Is some) → IfSome (met_with known seen) Is
    met_is None None before here = tt
    met_is None (Some seen) before here = here seen refl
    met_is (Some known) None before here = before
    met_is (Some known) (Some seen) before here =
        let also = here seen refl in
        (known_is_met_lem x h At known seen before.0 also.0, before.1)

    -- the node of a sender
    pub record HasCorrectNode (s : Sender) : Type 0 where
      pub node : NodeSpec
      pub correct : Contains (correct_nodes x) node
      pub same : node.id ≡ s.node

    pub sender_node : (s : Sender) → Contains (log_senders x l double) s → HasCorrectNode s
    sender_node s there =
        let of = All-contains (IsLogSender x.params l) Senders s (are_log_senders x l double) there in
        record { node = of.0; correct = correct_by x h base delays clock l run of.0 states.named of.1.there of.1.named; same = sym of.1.id }

    -- what it is judged by
    pub record IsJudged (met : Known) : Type 0 where
      pub at : Is met
      pub judged : IsJudgedDouble x.params (stated_flutter x.params l) met

    judged_where : (met : Option Known) (test : Bool) → is_judged_by x.params l met ≡ test → IfSome met Is → IfSome (if test then met else None) IsJudged
    judged_where met false judged at = tt
    judged_where None true judged at = tt
    judged_where (Some met) true judged at = record { at = at; judged = judged_from x.params Flutter met judged }

    -- a node whose term is contradicted, if it missed at most so many senders, misses more, whatever is heard there
    pub none_missed_by : (by : Heard) → IsHeardIn by x (run_double base double) → (met : Known) → IsJudged met
        → (kind : Term) (s : Sender) (node : NodeSpec) (lost : ℕ) (fault : Fault) → Contains (log_senders x l double) s → Contains (correct_nodes x) node → node.id ≡ s.node
        → unlike_term kind x.params l (reading_scale l.drift x.params) double (log_senders x l double) s lost ≡ Some fault → MissesFew x (run_double base double) lost node → ⊥
    none_missed_by by heard met j kind s node lost fault there correct same told misses =
        kept.missed by kind x h base delays clock l double lost met s node fault named (record { run = lawful; hears = heard; each = j.at.1; is = j.at.0; judged = j.judged })
        there correct same told misses

    module _ (below : IsBefore) (met : Known) (j : IsJudged met) where
      goes : GoesOnJudged what x (stated_flutter x.params l) h At met × (suc At < x.doubles → EachHasRow x h (suc At))
      goes = unfollowed_goes_on_lem what x 0 Flutter h At met lawful (omega arith) short (hears below) j.at.1 j.at.0 j.judged

      no_term_fault : (kind : Term) (s : Sender) → Contains (log_senders x l double) s → unlike_term kind x.params l (reading_scale l.drift x.params) double (log_senders x l double) s l.lost ≡ None
      no_term_fault kind s there = by (unlike_term kind p l Scaled double Senders s l.lost) refl
        where
          by : (told : Option Fault) → unlike_term kind p l Scaled double Senders s l.lost ≡ told → told ≡ None
          by None told = refl
          by (Some fault) told =
              let of = sender_node s there in
              absurd (none_missed_by what (hears below) met j kind s of.node l.lost fault there of.correct of.same told (states.missed what At of.node is below of.correct))

      skews : HasNoSkewAbove x l double (apart_through what x.params (stated_flutter x.params l) met)
      skews = kept.skew x h base delays clock l double (apart_through what x.params (stated_flutter x.params l) met) met run j.at.0 goes.0.keeps

      skews_none : judged_skews x.params l (reading_scale l.drift x.params) double (log_senders x l double) what (Some met) ≡ []
      unfolding judged_skews
      skews_none =
          let apart = pos (apart_through what x.params (stated_flutter x.params l) met) in
          none_of_two (option_to_list (skew_fault apart (2 * double) (even_low Scaled Senders) (even_high Scaled Senders)))
          (option_to_list (skew_fault apart (2 * double + 1) (odd_low Scaled Senders) (odd_high Scaled Senders)))
          (ap option_to_list skews.even) (ap option_to_list skews.odd)

      terms_none : judged_terms x.params l (reading_scale l.drift x.params) double (log_senders x l double) (Some met) ≡ []
      unfolding judged_terms
      terms_none =
          none_of_two (filter_map (offset_fault p l Scaled double Senders l.lost) Senders) (filter_map (rate_fault p l Scaled double Senders l.lost) Senders)
          (none_given (offset_fault p l Scaled double Senders l.lost) Senders (no_term_fault Offset)) (none_given (rate_fault p l Scaled double Senders l.lost) Senders (no_term_fault Rate))

      next_known : IsKnownOfLog x h base (suc double) (Some (known_after what x.params (stated_flutter x.params l) met))
      next_known =
          let Next : ℕ → Type 0 = λ n. n < x.doubles → IsKnownAt x h n (known_after what x.params (stated_flutter x.params l) met) × EachHasRow x h n in
          subst Next (after double (base / 2)) (λ below. (goes.0.next below, goes.1 below))
        where
          after : (d b : ℕ) → suc (d + b) ≡ suc d + b
          after d b = omega arith

    skews_are_none : IsBefore → (judged : Option Known) → IfSome judged IsJudged → judged_skews x.params l (reading_scale l.drift x.params) double (log_senders x l double) what judged ≡ []
    unfolding judged_skews
    skews_are_none below None all = refl
    skews_are_none below (Some met) j = skews_none below met j

    terms_are_none : IsBefore → (judged : Option Known) → IfSome judged IsJudged → judged_terms x.params l (reading_scale l.drift x.params) double (log_senders x l double) judged ≡ []
    unfolding judged_terms
    terms_are_none below None all = refl
    terms_are_none below (Some met) j = terms_none below met j

    next_is : IsBefore → (judged : Option Known) → IfSome judged IsJudged → IsKnownOfLog x h base (suc double) (option_map (known_after what x.params (stated_flutter x.params l)) judged)
    next_is below None all = tt
    next_is below (Some met) j = next_known below met j

    apart_is_none : (known : Option Known) → IfSome known Is → known_apart x.params (reading_scale l.drift x.params) double (log_senders x l double) known ≡ []
    unfolding known_apart
    apart_is_none None at = refl
    apart_is_none (Some known) at = (kept.fault x h base delays clock l Before double known run states.named states.unmissed at.0 at.1).0

    missing_is_none : (known : Option Known) → IfSome known Is
        → known_missing x.params l (log_span (sightings_of x.params l)) (sightings_before (sightings_of x.params l) double) (sightings_in (sightings_of x.params l) double) double known ≡ []
    unfolding known_missing
    missing_is_none None at = refl
    missing_is_none (Some known) at = (kept.fault x h base delays clock l Before double known run states.named states.unmissed at.0 at.1).1

    -- what the log states of it
    stated_is : (some : Known) → known_as_stated x.params l what double ≡ Some some → Is some
    stated_is some stated = by l.since (states.since what is) stated
      where
        half : (c d : ℕ) → (c == 2 * d) ≡ true → c / 2 ≡ d
        half c d same = grind arith

        by : (since : Option ℕ) → IfSome since (IsSyncedAsStated x h base l what) → (if is_stated_at since double then Some (synced_with x.params l what) else None) ≡ Some some → Is some
        by None there told = absurd (cc told)
        by (Some cycle) there told = at (cycle == 2 * double) refl told
          where
            at : (test : Bool) → (cycle == 2 * double) ≡ test → (if test then Some (synced_with x.params l what) else None) ≡ Some some → Is some
            at true same told =
                subst Is (inside (synced_with x.params l what) some told)
                (
                subst (λ d. IsKnownAt x h (run_double base d) (synced_with x.params l what) × EachHasRow x h (run_double base d)) (half cycle double same) there
                )
            at false same told = absurd (cc told)

    module _ (before : Option Known) (told : Option Fault) (is_known : IsKnownOfLog x h base double before) where
      here_known : IfSome before Is
      here_known = by before is_known
        where
          by : (known : Option Known) → IsKnownOfLog x h base double known → IfSome known Is
          by None at = tt
          by (Some known) at = at short

      abbrev KnownHere : Option Known
      KnownHere = met_with before (known_as_stated x.params l what double)

      known_is : IfSome KnownHere Is
      known_is = met_is before (known_as_stated x.params l what double) here_known stated_is

      abbrev Met : Option Known
      Met = met_with KnownHere (known_seen x.params (reading_scale l.drift x.params) l (sightings_in (sightings_of x.params l) double) double (log_senders x l double) told)

      met : IfSome Met Is
      met = met_is KnownHere (known_seen p Scaled l Here double Senders told) known_is (λ some seen. kept.seen x h base delays clock l double told some run states.named among seen)

      abbrev Judged : Option Known
      Judged = if is_judged_by x.params l Met then Met else None

      judged_all : IfSome Judged IsJudged
      judged_all = judged_where Met (is_judged_by x.params l Met) refl met

      pub judged_is : IfSome (judged_met (log_standing x l what double before told)) IsJudged
      unfolding standing_of
      judged_is = judged_all

      pub faults_none : IsBefore → log_standing_faults x l double (log_standing x l what double before told) ≡ []
      unfolding standing_faults moving_faults term_faults standing_of
      faults_none below =
          none_of_two _ _ (none_of_two _ _ (skews_are_none below Judged judged_all) (apart_is_none KnownHere known_is))
          (none_of_two _ _ (terms_are_none below Judged judged_all) (missing_is_none KnownHere known_is))

      spread_is : IsBefore → (judged : Option Known) → IfSome judged IsJudged → IfSome judged (λ some. SpreadIsSo x h base l what (record { number = double; met = some }))
      spread_is below None all = tt
      spread_is below (Some some) j = record { known = j.at.0; each = j.at.1; keeps = (goes below some j).0.keeps }

      pub spread_so : IsBefore → IfSome (judged_met (log_standing x l what double before told)) (λ some. SpreadIsSo x h base l what (record { number = double; met = some }))
      unfolding standing_of
      spread_so below = spread_is below Judged judged_all

      pub next_so : IsBefore → IsKnownOfLog x h base (suc double) (known_next x.params l (log_standing x l what double before told) true)
      unfolding known_next standing_of
      next_so below = next_is below Judged judged_all

      -- how it stands
      pub stands_so : IsBefore → StandsSo x h base l what double (log_standing x l what double before told)
      stands_so below = record { faults = faults_none below; spread = spread_so below; next = next_so below }

pub standings_hold : KnownIsKept → StandingsAreSo
standings_hold kept x h base delays clock l what double known told run states is among before =
    stands_so x h base delays clock l what double x.doubles run states is among kept known told before
    (short x h base delays clock l what double x.doubles run states is among kept)
