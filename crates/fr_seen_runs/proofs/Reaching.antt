-- Where the verdict of a log is within, the skew stays within the precision in each of its cycles, in each run that the log is seen of.
use Rattle.std.proofs.Common.{◌≡◌, ◌⊎◌, ℕ, suc, ◌+◌, ◌*◌, ◌/◌, ◌%◌, ◌==◌, ◌≤◌, Bool, true, false, Option, Some, None, ℤ, pos, List, [], ◌∷◌, All, map, refl, ap, sym, ◌∙◌, subst, inl, inr, arith}
use Rattle.std.specs.Prelude.{Contains, IfSome, int_lt, if◌then◌else◌}
use Rattle.std.specs.Option.{option_map}
use Rattle.std.proofs.lemmas.List.Elements.{All-head}
use Rattle.fr_base.specs.declared.channel.Channel.{Channel}
use Rattle.fr_cluster.specs.Setting.{Setting}
use Rattle.fr_history.specs.Cycles.{Cycles}
use Rattle.fr_log.specs.View.{LogView}
use Rattle.fr_course.specs.Readings.{reading_scale}
use Rattle.fr_course.specs.Spread.{most_odd_skew}
use Rattle.fr_course.specs.declared.courses.Course.{Course}
use Rattle.fr_course.specs.Scales.{Scale}
use Rattle.fr_course.specs.declared.stamps.Delays.{Delays}
use Rattle.fr_observe.specs.Observing.{all_there, both_say, courses_of, even_high, even_low, odd_high, odd_low, says_of, seen_doubles, senders_of}
use Rattle.fr_sightings.specs.Sightings.{sightings_of}
use Rattle.fr_observe.specs.declared.says.Says.{Says}
use Rattle.fr_observe.specs.declared.says.Says.TheVariants.{Over, Within, Open}
use Rattle.fr_sightings.specs.declared.sender.Sender.{Sender}
use Rattle.fr_sightings.specs.declared.sighting.Sighting.{Sighting}
use Rattle.fr_seen.specs.Clocks.{StraightClock}
use Rattle.fr_seen.specs.LogSeen.{SaysSo, log_senders, run_double, sender_rows}
use Rattle.fr_seen.proofs.WordLaws.{even_words_hold, odd_words_hold}
use Rattle.fr_seen.specs.Contradictions.{IsObservedRun}
use Rattle.fr_seen.specs.LogDoubles.{IsDoubleThere}
use Rattle.fr_seen_runs.specs.NotContradicted.{WithinIsSo, WithinIsThere}
use Rattle.fr_findings.specs.Verdict.{Basis, DoubleCycle, double_at, even_says, further_within, judged_by, log_basis, log_progress, no_progress, odd_says, progress_behind, progress_told, reach_behind, reach_by, reach_where, standing_told, verdict_of}
use Rattle.fr_judging.specs.Hearing.{log_precision}
use Rattle.fr_findings.specs.declared.progress.Judged.{Judged}
use Rattle.fr_findings.specs.declared.progress.Progress.{Progress}
use Rattle.fr_findings.specs.declared.progress.Reach.{Reach}
use Rattle.fr_sightings.specs.Sightings.{OffendingFrames, offending_frames_of}
use Rattle.fr_seen_runs.proofs.OwnSightings.{here_there, next_there}
use Rattle.fr_seen_runs.proofs.Progressing.{behind_all, seen_in_turn}
use Rattle.fr_seen_runs.proofs.ToldVerdicts.{within_told}

-- ---- the reach of what cycles say

module _ (said : ℕ → Says) where
  -- each cycle up to the last of them says within; and behind the last one the next one comes, unless they are ended
  pub record IsReached (next : ℕ) (reach : Option Reach) (is_ended : Bool) : Type 0 where
    pub within : IfSome reach (λ r. (cycle : ℕ) → r.from ≤ cycle → cycle ≤ r.to → said cycle ≡ Within)
    pub last : is_ended ≡ false → IfSome reach (λ r. suc r.to ≡ next)

  none_reached : (next : ℕ) (is_ended : Bool) → IsReached next None is_ended
  none_reached next is_ended = record { within = tt; last = λ goes. tt }

  ended : (next later : ℕ) (reach : Option Reach) (is_ended : Bool) → IsReached next reach is_ended → IsReached later reach true
  ended next later reach is_ended is = record { within = is.within; last = λ goes. absurd (cc goes) }

  one_more : (next : ℕ) (reach : Option Reach) → said next ≡ Within → IsReached next reach false → IsReached (suc next) (Some (further_within reach next)) false
  one_more next None says is =
      record {
        within = λ cycle from to. ap said (only cycle next from to) ∙ says;
        last = λ goes. refl;
      }
    where
      only : (c n : ℕ) → n ≤ c → c ≤ n → c ≡ n
      only c n from to = omega (arith, from, to)
  one_more next (Some r) says is =
      record {
        within = λ cycle from to. by cycle from (last_or cycle r.to next to (is.last refl));
        last = λ goes. refl;
      }
    where
      last_or : (c t n : ℕ) → c ≤ n → suc t ≡ n → (c ≤ t) ⊎ (c ≡ n)
      last_or c t n le is = grind arith

      by : (cycle : ℕ) → r.from ≤ cycle → (cycle ≤ r.to) ⊎ (cycle ≡ next) → said cycle ≡ Within
      by cycle from (inl before) = is.within cycle from before
      by cycle from (inr here) = ap said here ∙ says

  reached_by : (next : ℕ) (reach : Option Reach) (says : Says) → said next ≡ says → IsReached next reach false
      → IsReached (suc next) (reach_by reach next says).0 (reach_by reach next says).1
  reached_by next reach Within says is = one_more next reach says is
  reached_by next reach Over says is = ended next (suc next) reach false is
  reached_by next reach Open says is = ended next (suc next) reach false is

  reached_behind : (next : ℕ) (reach : Option Reach) (is_ended : Bool) → IsReached next reach is_ended
      → IsReached (suc next) (reach_behind (reach, is_ended) next (said next)).0 (reach_behind (reach, is_ended) next (said next)).1
  reached_behind next reach true is = ended next (suc next) reach true is
  reached_behind next reach false is = reached_by next reach (said next) refl is

  -- behind both cycles of a double cycle: before the first that is judged nothing is reached
  reached_where : (now : Bool) (span : Option Reach) (double : ℕ) (reach : Option Reach) (is_ended : Bool) → (span ≡ None → reach ≡ None) → IsReached (2 * double) reach is_ended
      → IsReached (2 * suc double) (reach_where now span double (said (2 * double)) (said (2 * double + 1)) (reach, is_ended)).0
      (reach_where now span double (said (2 * double)) (said (2 * double + 1)) (reach, is_ended)).1
  reached_where false None double reach is_ended none is = subst (λ r. IsReached (2 * suc double) r is_ended) (sym (none refl)) (none_reached (2 * suc double) is_ended)
  reached_where false (Some s) double reach is_ended none is = none_reached (2 * suc double) true
  reached_where true span double reach is_ended none is =
      let even = reach_behind (reach, is_ended) (2 * double) (said (2 * double)) in
      let first = reached_behind (2 * double) reach is_ended is in
      let next : suc (2 * double) ≡ 2 * double + 1 = one (2 * double) in
      let after : suc (2 * double + 1) ≡ 2 * suc double = two double in
      let second = reached_behind (2 * double + 1) even.0 even.1 (subst (λ n. IsReached n even.0 even.1) next first) in
      let odd = reach_behind even (2 * double + 1) (said (2 * double + 1)) in
      subst (λ n. IsReached n odd.0 odd.1) after second
    where
      one : (n : ℕ) → suc n ≡ n + 1
      one n = omega arith

      two : (d : ℕ) → suc (2 * d + 1) ≡ 2 * suc d
      two d = omega arith

-- ---- where a row says within

-- the odd cycle says within only where each sender has a course in the next double cycle, and there is a sender
says_some : (precision low : ℤ) (high : Option ℤ) → says_of precision low high ≡ Within → (most : ℤ) × (high ≡ Some most)
says_some precision low (Some most) is = (most, refl)
says_some precision low None is = by (int_lt precision low) is
  where
    by : (over : Bool) → (if over then Over else Open) ≡ Within → (most : ℤ) × (None ≡ Some most)
    by true is = absurd (cc is)
    by false is = absurd (cc is)

module _ (x : Setting) (h : Cycles) (base : ℕ) (delays : ℕ → Channel → Delays) (clock : ℕ → StraightClock) (l : LogView) (run : IsObservedRun x h base delays clock l) where
  abbrev Seen : List Sighting
  Seen = sightings_of x.params l

  abbrev Offending : OffendingFrames
  Offending = offending_frames_of x.params l

  abbrev Log : Basis
  Log = log_basis x.params l

  abbrev At : ℕ → DoubleCycle
  At double = double_at Log Seen Offending double

  abbrev Scaled : Scale
  Scaled = reading_scale l.drift x.params

  -- what the row of a cycle says
  pub cycle_by : ℕ → Bool → Says
  cycle_by double true = even_says Log (At double)
  cycle_by double false = odd_says Log (At double)

  pub cycle_says : ℕ → Says
  cycle_says cycle = cycle_by (cycle / 2) (cycle % 2 == 0)

  even_cycle_says : (double : ℕ) → cycle_says (2 * double) ≡ even_says Log (At double)
  unfolding cycle_says cycle_by
  even_cycle_says double = ap (λ d. cycle_by d (2 * double % 2 == 0)) (half double) ∙ ap (cycle_by double) (even double)
    where
      half : (d : ℕ) → 2 * d / 2 ≡ d
      half d = omega arith

      even : (d : ℕ) → (2 * d % 2 == 0) ≡ true
      even d = grind arith

  odd_cycle_says : (double : ℕ) → cycle_says (2 * double + 1) ≡ odd_says Log (At double)
  unfolding cycle_says cycle_by
  odd_cycle_says double = ap (λ d. cycle_by d ((2 * double + 1) % 2 == 0)) (half double) ∙ ap (cycle_by double) (odd double)
    where
      half : (d : ℕ) → (2 * d + 1) / 2 ≡ d
      half d = omega arith

      odd : (d : ℕ) → ((2 * d + 1) % 2 == 0) ≡ false
      odd d = grind arith

  -- behind each double cycle; before the first that is judged nothing is reached
  pub record Reaches (double : ℕ) (progress : Progress) : Type 0 where
    pub none : progress.judged.span ≡ None → progress.reach ≡ None
    pub is : IsReached cycle_says (2 * double) progress.reach progress.is_ended

  none_where : (now : Bool) (judged : Judged) (said : List Says) (double : ℕ) (even odd : Says) (reach : Option Reach) (is_ended : Bool) → (judged.span ≡ None → reach ≡ None)
      → (judged_by now judged double said).span ≡ None → (reach_where now judged.span double even odd (reach, is_ended)).0 ≡ None
  none_where true judged said double even odd reach is_ended none gone = absurd (cc gone)
  none_where false judged said double even odd reach is_ended none gone = by judged.span gone (none gone)
    where
      by : (span : Option Reach) → span ≡ None → reach ≡ None → (reach_where false span double even odd (reach, is_ended)).0 ≡ None
      by None gone is = is
      by (Some s) gone is = absurd (cc gone)

  reaches_behind : (double : ℕ) (progress : Progress) → Contains (seen_doubles Seen) double → Reaches double progress → Reaches (suc double) (progress_behind Log Seen Offending double progress)
  unfolding progress_told double_at
  reaches_behind double progress among before =
      let d = At double in
      let now = (standing_told Log d progress.known).is_judged in
      let span = progress.judged.span in
      let both = reached_where cycle_says now span double progress.reach progress.is_ended before.none before.is in
      let Next : Says → Says → Type 0 = λ even odd. IsReached cycle_says (2 * suc double)
      (reach_where now span double even odd (progress.reach, progress.is_ended)).0 (reach_where now span double even odd (progress.reach, progress.is_ended)).1 in
      record {
        none = λ gone.
            none_where now progress.judged (both_say Log.precision Log.scale d.senders) double (even_says Log d) (odd_says Log d) progress.reach progress.is_ended before.none gone;
        is = subst (Next (even_says Log d)) (odd_cycle_says double) (subst (λ even. Next even (cycle_says (2 * double + 1))) (even_cycle_says double) both);
      }

  pub reached : (r : Reach) → (log_progress Log Seen Offending).reach ≡ Some r → (cycle : ℕ) → r.from ≤ cycle → cycle ≤ r.to → cycle_says cycle ≡ Within
  reached r is =
      let all = behind_all Log Seen Offending Reaches (seen_doubles Seen) no_progress (seen_in_turn Seen) reaches_behind (λ first. record { none = λ none. refl; is = none_reached cycle_says (2 * first) false }) in
      subst (λ o. IfSome o (λ r. (cycle : ℕ) → r.from ≤ cycle → cycle ≤ r.to → cycle_says cycle ≡ Within)) is all.holds.is.within

  -- ---- its double cycle

  some_even : (double : ℕ) (senders : List Sender) → All (λ (s : Sender). IsDoubleThere h (run_double base double)) senders → (most : ℤ) → even_high Scaled senders ≡ Some most
      → IsDoubleThere h (run_double base double)
  unfolding even_high
  some_even double [] all most is = absurd (cc is)
  some_even double (s ∷ senders) all most is = All-head (λ (s : Sender). IsDoubleThere h (run_double base double)) s senders all

  some_odd : (double : ℕ) (senders : List Sender) → All (λ (s : Sender). IsDoubleThere h (run_double base double)) senders → (most : ℤ) → odd_high Scaled senders ≡ Some most
      → IsDoubleThere h (run_double base double)
  unfolding odd_high
  some_odd double [] all most is = absurd (cc is)
  some_odd double (s ∷ senders) all most is = All-head (λ (s : Sender). IsDoubleThere h (run_double base double)) s senders all

  says_there : (double : ℕ) (even : Bool) → cycle_by double even ≡ Within → IsDoubleThere h (run_double base double)
  unfolding cycle_by double_at senders_of
  says_there double true is =
      let senders = log_senders x l double in
      let most = says_some (pos (log_precision x.params l)) (even_low Scaled senders) (even_high Scaled senders) is in
      some_even double senders (here_there x h base delays clock l run double) most.0 most.1
  says_there double false is =
      let senders = log_senders x l double in
      let most = says_some (pos (log_precision x.params l)) (odd_low Scaled senders) (odd_high Scaled senders) is in
      some_odd double senders (here_there x h base delays clock l run double) most.0 most.1

  pub cycle_there : (cycle : ℕ) → cycle_says cycle ≡ Within → IsDoubleThere h (run_double base (cycle / 2))
  unfolding cycle_says
  cycle_there cycle is = says_there (cycle / 2) (cycle % 2 == 0) is

  -- ---- the next double cycle

  next_by : (double : ℕ) (senders : List Sender) → All (λ (s : Sender). IfSome s.next (λ next. IsDoubleThere h (suc (run_double base double)))) senders
      → (most : ℤ) → odd_high Scaled senders ≡ Some most → IsDoubleThere h (suc (run_double base double))
  unfolding odd_high
  next_by double [] all most is = absurd (cc is)
  next_by double (s ∷ senders) all most is = by s.next (All-head (λ (s : Sender). IfSome s.next (λ next. IsDoubleThere h (suc (run_double base double)))) s senders all) is
    where
      by : (next : Option Course) → IfSome next (λ next. IsDoubleThere h (suc (run_double base double)))
          → option_map (most_odd_skew Scaled (courses_of (s ∷ senders))) (all_there (next ∷ map (λ (t : Sender). t.next) senders)) ≡ Some most
          → IsDoubleThere h (suc (run_double base double))
      by None there is = absurd (cc is)
      by (Some next) there is = there

pub within_is_so : WithinIsSo
unfolding verdict_of double_at senders_of
within_is_so x h base delays clock l r double even odd run is has =
    let precision = pos (log_precision x.params l) in
    let scale = reading_scale l.drift x.params in
    let senders = log_senders x l double in
    let progress = log_progress (log_basis x.params l) (sightings_of x.params l) (offending_frames_of x.params l) in
    let says = reached x h base delays clock l run r (within_told progress r is) in
    record {
      in_even = λ from to.
          let word : says_of precision (even_low scale senders) (even_high scale senders) ≡ Within = sym (even_cycle_says x h base delays clock l run double) ∙ says (2 * double) from to in
          subst (SaysSo x.params false (sender_rows even senders) precision) word (even_words_hold x h base delays clock l double even odd precision run.timed run.log run.seen has);
      in_odd = λ from to.
          let next : suc (2 * double) ≡ 2 * double + 1 = one (2 * double) in
          let word : says_of precision (odd_low scale senders) (odd_high scale senders) ≡ Within =
          sym (odd_cycle_says x h base delays clock l run double) ∙ says (2 * double + 1) (subst (λ n. r.from ≤ n) next from) (subst (λ n. n ≤ r.to) next to) in
          let most = says_some precision (odd_low scale senders) (odd_high scale senders) word in
          let later = next_by x h base delays clock l run double senders (next_there x h base delays clock l run double) most.0 most.1 in
          subst (SaysSo x.params true (sender_rows odd senders) precision) word
          (odd_words_hold x h base delays clock l double even odd later.even later.odd precision run.timed run.log run.seen has later.has);
    }
  where
    one : (n : ℕ) → suc n ≡ n + 1
    one n = omega arith

pub within_is_there : WithinIsThere
unfolding verdict_of
within_is_there x h base delays clock l r cycle run is from to =
    let progress = log_progress (log_basis x.params l) (sightings_of x.params l) (offending_frames_of x.params l) in
    cycle_there x h base delays clock l run cycle (reached x h base delays clock l run r (within_told progress r is) cycle from to)
