-- The rows of a log that say over: the verdict has the first of them and how many there are, and each is so in each run that the log
-- is seen of.
use Rattle.std.proofs.Common.{◌≡◌, ◌∙◌, ℕ, suc, ◌+◌, ◌*◌, ◌/◌, ◌<ℤ◌, ℤ, pos, Bool, true, false, Option, Some, None, List, [], ◌∷◌, ◌++◌, All, length, refl, sym, subst, arith, length-append}
use Rattle.std.specs.Prelude.{Contains, count_by, int_le, int_lt, slice_get, if◌then◌else◌}
use Rattle.std.specs.List.{flat_map}
use Rattle.std.specs.Option.{option_or, option_to_list}
use Rattle.std.proofs.lemmas.Int.{ints}
use Rattle.std.proofs.lemmas.List.Elements.{All-append, All-cons, All-nil}
use Rattle.fr_base.specs.declared.channel.Channel.{Channel}
use Rattle.fr_judging.specs.Hearing.{log_precision}
use Rattle.fr_cluster.specs.Setting.{Setting}
use Rattle.fr_cluster.proofs.Elements.{Contains-here, Contains-there}
use Rattle.fr_history.specs.Cycles.{Cycle, Cycles}
use Rattle.fr_runs.specs.Numbers.{HasDouble}
use Rattle.fr_log.specs.View.{LogView}
use Rattle.fr_course.specs.Readings.{reading_scale}
use Rattle.fr_course.specs.Scales.{Scale}
use Rattle.fr_course.specs.declared.stamps.Delays.{Delays}
use Rattle.fr_observe.specs.Observing.{both_say, even_high, even_low, odd_high, odd_low, says_of, says_up_to, seen_doubles, senders_of}
use Rattle.fr_observe.specs.declared.says.Says.{Says}
use Rattle.fr_observe.specs.declared.says.Says.TheVariants.{Over, Within, Open}
use Rattle.fr_sightings.specs.Sightings.{OffendingFrames, offending_frames_of, sightings_of}
use Rattle.fr_sightings.specs.declared.sender.Sender.{Sender}
use Rattle.fr_sightings.specs.declared.sighting.Sighting.{Sighting}
use Rattle.fr_findings.specs.Counting.{is_over}
use Rattle.fr_findings.specs.Verdict.{Basis, DoubleCycle, double_at, even_says, log_basis, log_progress, no_progress, odd_says, over_row, progress_behind, progress_of, progress_told, verdict_of}
use Rattle.fr_findings.specs.declared.progress.OverRow.{OverRow}
use Rattle.fr_findings.specs.declared.progress.Progress.{Progress}
use Rattle.fr_seen.specs.Clocks.{StraightClock}
use Rattle.fr_seen.specs.LogSeen.{log_senders, run_double, sender_rows}
use Rattle.fr_seen.specs.Skews.{HasSkew}
use Rattle.fr_seen.proofs.RowLaws.{observed_rows_hold}
use Rattle.fr_seen.specs.Contradictions.{IsObservedRun}
use Rattle.fr_seen.specs.LogDoubles.{IsDoubleThere}
use Rattle.fr_seen_runs.specs.OverRows.{RowIsOver, OverIsCounted, OverIsSo, over_at, over_in, over_rows}
use Rattle.fr_seen.proofs.SeenDoubles.{doubles_are_there}
use Rattle.fr_seen_runs.proofs.ToldVerdicts.{over_told_by}

-- ---- which they are

first_of : List OverRow → Option OverRow
first_of rows = slice_get rows 0

or_none : (o : Option OverRow) → o ≡ option_or o None
or_none None = refl
or_none (Some row) = refl

first_both : (o one other : Option OverRow) (more : List OverRow)
    → option_or (option_or o (option_or one other)) (slice_get more 0) ≡ option_or o (slice_get ((option_to_list one ++ option_to_list other) ++ more) 0)
first_both (Some row) one other more = refl
first_both None (Some row) other more = refl
first_both None None (Some row) more = refl
first_both None None None more = refl

abbrev one_says : ℕ → Says → ℕ
one_says n Over = 1
one_says n Within = 0
one_says n Open = 0

long_row : (cycle : ℕ) (low : ℤ) (says : Says) → length (option_to_list (over_row cycle low says)) ≡ one_says cycle says
long_row cycle low Over = refl
long_row cycle low Within = refl
long_row cycle low Open = refl

both_counted : (c d : ℕ) (even odd : Says) → count_by is_over (even ∷ odd ∷ []) ≡ one_says c even + one_says d odd
both_counted c d Over Over = refl
both_counted c d Over Within = refl
both_counted c d Over Open = refl
both_counted c d Within Over = refl
both_counted c d Within Within = refl
both_counted c d Within Open = refl
both_counted c d Open Over = refl
both_counted c d Open Within = refl
both_counted c d Open Open = refl

module _ (b : Basis) (seen : List Sighting) (offending : OffendingFrames) where
  abbrev At : ℕ → DoubleCycle
  At double = double_at b seen offending double

  abbrev Rows : ℕ → List OverRow
  Rows double = over_in b (At double)

  first_over : (doubles : List ℕ) (progress : Progress)
      → (progress_of b seen offending progress doubles).over ≡ option_or progress.over (slice_get (flat_map Rows doubles) 0)
  unfolding progress_of progress_told
  first_over [] progress = or_none progress.over
  first_over (double ∷ doubles) progress =
      let d = At double in
      first_over doubles (progress_behind b seen offending double progress)
      ∙ first_both progress.over (over_row (2 * d.number) (even_low b.scale d.senders) (even_says b d)) (over_row (2 * d.number + 1) (odd_low b.scale d.senders) (odd_says b d)) (flat_map Rows doubles)

  long_rows : (d : DoubleCycle) → length (over_in b d) ≡ count_by is_over (even_says b d ∷ odd_says b d ∷ [])
  long_rows d =
      let even = option_to_list (over_row (2 * d.number) (even_low b.scale d.senders) (even_says b d)) in
      let odd = option_to_list (over_row (2 * d.number + 1) (odd_low b.scale d.senders) (odd_says b d)) in
      let one = long_row (2 * d.number) (even_low b.scale d.senders) (even_says b d) in
      let two = long_row (2 * d.number + 1) (odd_low b.scale d.senders) (odd_says b d) in
      let all : length (even ++ odd) ≡ length even + length odd = length-append even odd in
      all ∙ (λ i. one i + two i) ∙ sym (both_counted (2 * d.number) (2 * d.number + 1) (even_says b d) (odd_says b d))

  counted_over : (doubles : List ℕ) (progress : Progress)
      → (progress_of b seen offending progress doubles).counts.over ≡ progress.counts.over + length (flat_map Rows doubles)
  unfolding progress_of progress_told both_say
  counted_over [] progress = none progress.counts.over
    where
      none : (n : ℕ) → n ≡ n + 0
      none n = omega arith
  counted_over (double ∷ doubles) progress =
      let d = At double in
      let rest = counted_over doubles (progress_behind b seen offending double progress) in
      let here = long_rows d in
      let all : length (over_in b d ++ flat_map Rows doubles) ≡ length (over_in b d) + length (flat_map Rows doubles) = length-append (over_in b d) (flat_map Rows doubles) in
      rest
      ∙ sums progress.counts.over (count_by is_over (even_says b d ∷ odd_says b d ∷ [])) (length (over_in b d)) (length (flat_map Rows doubles)) (length (over_in b d ++ flat_map Rows doubles)) here all
    where
      sums : (before some here rest whole : ℕ) → here ≡ some → whole ≡ here + rest → (before + some) + rest ≡ before + whole
      sums before some here rest whole is all = omega (arith, is, all)

pub over_is_counted : OverIsCounted
unfolding verdict_of over_rows
over_is_counted p l first count is =
    let seen = sightings_of p l in
    let offending = offending_frames_of p l in
    let b = log_basis p l in
    let progress = log_progress b seen offending in
    let told = over_told_by progress first count is in
    let doubles = seen_doubles seen in (
      sym (first_over b seen offending doubles no_progress) ∙ told.first,
      told.counted ∙ counted_over b seen offending doubles no_progress ∙ none (length (flat_map (over_at p l) doubles)),
    )
  where
    none : (n : ℕ) → 0 + n ≡ n
    none n = omega arith

-- ---- that they are so

all_of : (P : OverRow → Type 0) (f : ℕ → List OverRow) (doubles : List ℕ) → ((double : ℕ) → Contains doubles double → All P (f double)) → All P (flat_map f doubles)
all_of P f [] each = All-nil P
all_of P f (double ∷ doubles) each =
    All-append P (f double) (flat_map f doubles) (each double (Contains-here double doubles)) (all_of P f doubles (λ d among. each d (Contains-there double doubles d among)))

over_above : (precision low : ℤ) (high : Option ℤ) → says_of precision low high ≡ Over → precision <ℤ low
over_above precision low high is = by (int_lt precision low) refl is
  where
    less : (a b : ℤ) → int_lt a b ≡ true → a <ℤ b
    less a b is = grind (arith, ints)

    never : (high : Option ℤ) → says_up_to precision high ≡ Over → ⊥
    never None is = cc is
    never (Some high) is = by_high (int_le high precision) is
      where
        by_high : (within : Bool) → (if within then Within else Open) ≡ Over → ⊥
        by_high true is = cc is
        by_high false is = cc is

    by : (over : Bool) → int_lt precision low ≡ over → (if over then Over else says_up_to precision high) ≡ Over → precision <ℤ low
    by true is told = less precision low is
    by false is told = absurd (never high told)

all_row : (P : OverRow → Type 0) (cycle : ℕ) (low : ℤ) (says : Says) → (says ≡ Over → P (record { cycle = cycle; low = low })) → All P (option_to_list (over_row cycle low says))
all_row P cycle low Over is = All-cons P (record { cycle = cycle; low = low }) [] (is refl) (All-nil P)
all_row P cycle low Within is = All-nil P
all_row P cycle low Open is = All-nil P

module _ (x : Setting) (h : Cycles) (base : ℕ) (delays : ℕ → Channel → Delays) (clock : ℕ → StraightClock) (l : LogView) (run : IsObservedRun x h base delays clock l) where
  abbrev Scaled : Scale
  Scaled = reading_scale l.drift x.params

  abbrev Senders : ℕ → List Sender
  Senders double = log_senders x l double

  there_at : (double cycle : ℕ) → cycle / 2 ≡ double → Contains (seen_doubles (sightings_of x.params l)) double → IsDoubleThere h (run_double base (cycle / 2))
  there_at double cycle is among =
      subst (λ d. IsDoubleThere h (run_double base d)) (sym is) (doubles_are_there x h base delays clock l double run among)

  -- the skews of the same double cycle
  even_from : (double d : ℕ) (even odd : Cycle) → d ≡ double → HasDouble h (run_double base d) even odd
      → HasSkew x.params false (sender_rows even (log_senders x l d)) (even_low (reading_scale l.drift x.params) (log_senders x l double))
  even_from double d even odd same has =
      subst (λ k. HasSkew x.params false (sender_rows even (Senders d)) (even_low Scaled (Senders k))) same
      (observed_rows_hold x h base delays clock l d even odd run.timed run.log run.seen has).cycles.even_from

  odd_from : (double d : ℕ) (even odd : Cycle) → d ≡ double → HasDouble h (run_double base d) even odd
      → HasSkew x.params true (sender_rows odd (log_senders x l d)) (odd_low (reading_scale l.drift x.params) (log_senders x l double))
  odd_from double d even odd same has =
      subst (λ k. HasSkew x.params true (sender_rows odd (Senders d)) (odd_low Scaled (Senders k))) same
      (observed_rows_hold x h base delays clock l d even odd run.timed run.log run.seen has).cycles.odd_from

  even_over : (double : ℕ) → Contains (seen_doubles (sightings_of x.params l)) double
      → says_of (pos (log_precision x.params l)) (even_low (reading_scale l.drift x.params) (log_senders x l double)) (even_high (reading_scale l.drift x.params) (log_senders x l double)) ≡ Over
      → RowIsOver x h base l (record { cycle = 2 * double; low = even_low (reading_scale l.drift x.params) (log_senders x l double) })
  even_over double among says = record {
    above = over_above (pos (log_precision x.params l)) (even_low Scaled (Senders double)) (even_high Scaled (Senders double)) says;
    there = there_at double (2 * double) (half double) among;
    skew = λ d even odd has.
        record { in_even = λ same. even_from double d even odd (alike double d same) has; in_odd = λ same. absurd (unlike double d same) };
  }
    where
      half : (d : ℕ) → 2 * d / 2 ≡ d
      half d = omega arith

      alike : (a b : ℕ) → 2 * a ≡ 2 * b → b ≡ a
      alike a b is = omega (arith, is)

      unlike : (a b : ℕ) → 2 * a ≡ suc (2 * b) → ⊥
      unlike a b is = omega (arith, is)

  odd_over : (double : ℕ) → Contains (seen_doubles (sightings_of x.params l)) double
      → says_of (pos (log_precision x.params l)) (odd_low (reading_scale l.drift x.params) (log_senders x l double)) (odd_high (reading_scale l.drift x.params) (log_senders x l double)) ≡ Over
      → RowIsOver x h base l (record { cycle = 2 * double + 1; low = odd_low (reading_scale l.drift x.params) (log_senders x l double) })
  odd_over double among says = record {
    above = over_above (pos (log_precision x.params l)) (odd_low Scaled (Senders double)) (odd_high Scaled (Senders double)) says;
    there = there_at double (2 * double + 1) (half double) among;
    skew = λ d even odd has.
        record { in_even = λ same. absurd (unlike double d same); in_odd = λ same. odd_from double d even odd (alike double d same) has };
  }
    where
      half : (d : ℕ) → (2 * d + 1) / 2 ≡ d
      half d = omega arith

      alike : (a b : ℕ) → 2 * a + 1 ≡ suc (2 * b) → b ≡ a
      alike a b is = omega (arith, is)

      unlike : (a b : ℕ) → 2 * a + 1 ≡ 2 * b → ⊥
      unlike a b is = omega (arith, is)

  over_at_is_so : (double : ℕ) → Contains (seen_doubles (sightings_of x.params l)) double → All (RowIsOver x h base l) (over_at x.params l double)
  unfolding double_at senders_of
  over_at_is_so double among =
      let b = log_basis x.params l in
      let even = says_of (pos (log_precision x.params l)) (even_low Scaled (Senders double)) (even_high Scaled (Senders double)) in
      let odd = says_of (pos (log_precision x.params l)) (odd_low Scaled (Senders double)) (odd_high Scaled (Senders double)) in
      All-append (RowIsOver x h base l) (option_to_list (over_row (2 * double) (even_low Scaled (Senders double)) even))
      (option_to_list (over_row (2 * double + 1) (odd_low Scaled (Senders double)) odd))
      (all_row (RowIsOver x h base l) (2 * double) (even_low Scaled (Senders double)) even (even_over double among))
      (all_row (RowIsOver x h base l) (2 * double + 1) (odd_low Scaled (Senders double)) odd (odd_over double among))

pub over_is_so : OverIsSo
unfolding over_rows
over_is_so x h base delays clock l run =
    all_of (RowIsOver x h base l) (over_at x.params l) (seen_doubles (sightings_of x.params l)) (over_at_is_so x h base delays clock l run)
