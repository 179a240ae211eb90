-- How far rows say within, walked over the list of double cycles: from the first judged one on, as long as each says so.
use Rattle.std.proofs.Common.{◌≡◌, ◌∙◌, ℕ, zero, suc, ◌+◌, ◌-◌, ◌*◌, Bool, true, false, List, [], ◌∷◌, ◌++◌, All, length, slice_get, Option, Some, None, refl, sym, ap, subst, arith, inl, inr, length-append}
use Rattle.std.specs.Prelude.{◌==◌, ◌&&◌, ◌⊎◌, if◌then◌else◌}
use Rattle.std.specs.List.{range_with_len}
use Rattle.std.proofs.lemmas.Bool.Decides.{nat_tests}
use Rattle.std.proofs.lemmas.List.Elements.{All-cons, All-head, All-nil, All-tail}
use Rattle.fr_bound.specs.declared.judging.Known.{Known}
use Rattle.fr_cluster.specs.Values.{Values}
use Rattle.fr_log.specs.View.{LogView}
use Rattle.fr_sightings.specs.Sightings.{OffendingFrames, offending_frames_of, sightings_of}
use Rattle.fr_sightings.specs.declared.sighting.Sighting.{Sighting}
use Rattle.fr_observe.specs.Observing.{both_say, doubles_between, seen_doubles}
use Rattle.fr_observe.specs.declared.says.Says.{Says}
use Rattle.fr_observe.specs.declared.says.Says.TheVariants.{Over, Within, Open}
use Rattle.fr_findings.specs.Outcomes.{DoubleStands, judged_among, log_standings, reach_of_doubles, standings_from}
use Rattle.fr_findings.specs.Verdict.{Basis, double_at, judged_by, known_next_told, log_basis, no_progress, progress_behind, progress_of, progress_told, reach_behind, reach_where, reaches_end, span_to, verdict_of}
use Rattle.fr_findings.specs.Within.{AllSayWithin, PartlyIsElse, WithinSaysWithin}
use Rattle.fr_findings.specs.declared.progress.Judged.{Judged}
use Rattle.fr_findings.specs.declared.progress.Progress.{Progress}
use Rattle.fr_findings.specs.declared.progress.Reach.{Reach}
use Rattle.fr_findings.proofs.Gaps.{Reaches, within-reaches}
use Rattle.fr_findings.proofs.Outcomes.{IsPartly, all_stood, behind_all, partly_by, says_in, span_all, spans, spans_all, stood, stood_first}

-- ---- rows, one after the other

abbrev State : Type 0
State = Option Reach × Bool

abbrev none_yet : State
none_yet = (None, false)

abbrev over_now : State
over_now = (None, true)

abbrev rows_from : State → ℕ → List Says → State
rows_from state cycle [] = state
rows_from state cycle (says ∷ more) = rows_from (reach_behind state cycle says) (cycle + 1) more

abbrev leading : List Says → ℕ
leading [] = 0
leading (Within ∷ more) = suc (leading more)
leading (Over ∷ more) = 0
leading (Open ∷ more) = 0

rows_ended : (r : Option Reach) (cycle : ℕ) (rows : List Says) → rows_from (r, true) cycle rows ≡ (r, true)
rows_ended r cycle [] = refl
rows_ended r cycle (says ∷ more) = rows_ended r (cycle + 1) more

rows_append : (state : State) (cycle : ℕ) (xs ys : List Says) → rows_from state cycle (xs ++ ys) ≡ rows_from (rows_from state cycle xs) (cycle + length xs) ys
rows_append state cycle [] ys =
    let same : cycle ≡ cycle + 0 = omega arith in
    ap (λ (n : ℕ). rows_from state n ys) same
rows_append state cycle (x ∷ xs) ys =
    let same : cycle + 1 + length xs ≡ cycle + suc (length xs) = omega arith in
    rows_append (reach_behind state cycle x) (cycle + 1) xs ys
    ∙ ap (λ (n : ℕ). rows_from (rows_from (reach_behind state cycle x) (cycle + 1) xs) n ys) same

abbrev reach_to : ℕ → ℕ → Option Reach
reach_to from to = Some (record { from = from; to = to })

rows_on : (from to : ℕ) (rows : List Says) → (rows_from (reach_to from to, false) (to + 1) rows).0 ≡ reach_to from (to + leading rows)
rows_on from to [] =
    let same : to ≡ to + 0 = omega arith in
    ap (reach_to from) same
rows_on from to (Within ∷ more) =
    let same : to + 1 + leading more ≡ to + suc (leading more) = omega arith in
    rows_on from (to + 1) more ∙ ap (reach_to from) same
rows_on from to (Over ∷ more) =
    let same : to ≡ to + 0 = omega arith in
    ap (λ (s : State). s.0) (rows_ended (reach_to from to) (to + 1 + 1) more) ∙ ap (reach_to from) same
rows_on from to (Open ∷ more) =
    let same : to ≡ to + 0 = omega arith in
    ap (λ (s : State). s.0) (rows_ended (reach_to from to) (to + 1 + 1) more) ∙ ap (reach_to from) same

rows_some : (cycle k : ℕ) (rows : List Says) → leading rows ≡ suc k → (rows_from none_yet cycle rows).0 ≡ reach_to cycle (cycle + k)
rows_some cycle k [] is = absurd (cc is)
rows_some cycle k (Within ∷ more) is =
    let same : leading more ≡ k = cc is in
    rows_on cycle cycle more ∙ ap (λ (n : ℕ). reach_to cycle (cycle + n)) same
rows_some cycle k (Over ∷ more) is = absurd (cc is)
rows_some cycle k (Open ∷ more) is = absurd (cc is)

rows_none : (cycle : ℕ) (rows : List Says) → leading rows ≡ 0 → (rows_from none_yet cycle rows).0 ≡ None
rows_none cycle [] is = refl
rows_none cycle (Within ∷ more) is = absurd (cc is)
rows_none cycle (Over ∷ more) is = ap (λ (s : State). s.0) (rows_ended None (cycle + 1) more)
rows_none cycle (Open ∷ more) is = ap (λ (s : State). s.0) (rows_ended None (cycle + 1) more)

-- all but the last
record ButLast (rows : List Says) : Type 0 where
  front : List Says
  last : Says
  parts : rows ≡ front ++ (last ∷ [])
  within : All (λ says. says ≡ Within) front
  untold : last ≡ Within → ⊥

one_left : (rows : List Says) → 1 ≡ length rows → rows ≡ [] → ⊥
one_left rows is none = cc (is ∙ ap length none)

but_last : (rows : List Says) → leading rows + 1 ≡ length rows → ButLast rows
but_last [] is = absurd (cc is)
but_last (Within ∷ more) is =
    let rest : ButLast more = but_last more (omega (arith, is)) in
    record {
      front = Within ∷ rest.front;
      last = rest.last;
      parts = ap (λ (l : List Says). Within ∷ l) rest.parts;
      within = All-cons (λ says. says ≡ Within) Within rest.front refl rest.within;
      untold = rest.untold;
    }
but_last (Over ∷ []) is = record { front = []; last = Over; parts = refl; within = All-nil (λ says. says ≡ Within); untold = λ e. cc e }
but_last (Over ∷ other ∷ more) is = absurd (omega (arith, is))
but_last (Open ∷ []) is = record { front = []; last = Open; parts = refl; within = All-nil (λ says. says ≡ Within); untold = λ e. cc e }
but_last (Open ∷ other ∷ more) is = absurd (omega (arith, is))

leading_first : (x : Says) (more : List Says) → x ≡ Within → leading (x ∷ more) ≡ suc (leading more)
leading_first Within more is = refl
leading_first Over more is = absurd (cc is)
leading_first Open more is = absurd (cc is)

leading_last : (last : Says) → (last ≡ Within → ⊥) → leading (last ∷ []) ≡ 0
leading_last Within untold = absurd (untold refl)
leading_last Over untold = refl
leading_last Open untold = refl

leading_but : (front : List Says) (last : Says) → All (λ says. says ≡ Within) front → (last ≡ Within → ⊥) → leading (front ++ (last ∷ [])) ≡ length front
leading_but [] last within untold = leading_last last untold
leading_but (x ∷ front) last within untold =
    leading_first x (front ++ (last ∷ [])) (All-head (λ says. says ≡ Within) x front within)
    ∙ ap suc (leading_but front last (All-tail (λ says. says ≡ Within) x front within) untold)

-- ---- double cycles, one after the other

abbrev span_by : Bool → Option Reach → ℕ → Option Reach
span_by true span double = Some (span_to span double)
span_by false span double = span

abbrev state_by : Bool → Option Reach → ℕ → List Says → State → State
state_by true span double says state = rows_from state (2 * double) says
state_by false None double says state = state
state_by false (Some span) double says state = over_now

abbrev walked : Option Reach → State → List DoubleStands → State
walked span state [] = state
walked span state (d ∷ ds) =
    walked (span_by d.standing.is_judged span d.number) (state_by d.standing.is_judged span d.number d.says state) ds

-- they follow each other, with two rows each
abbrev AreOn : ℕ → List DoubleStands → Type 0
AreOn double [] = Unit {0}
AreOn double (d ∷ ds) = (d.number ≡ double) × ((length d.says ≡ 2) × AreOn (double + 1) ds)

abbrev AreJudged : List DoubleStands → Type 0
AreJudged ds = All (λ d. d.standing.is_judged ≡ true) ds

abbrev AreUnjudged : List DoubleStands → Type 0
AreUnjudged ds = All (λ d. d.standing.is_judged ≡ false) ds

gap_by : (b : Bool) (span : Option Reach) (double : ℕ) (says : List Says) → state_by b span double says over_now ≡ over_now
gap_by true span double says = rows_ended None (2 * double) says
gap_by false None double says = refl
gap_by false (Some span) double says = refl

gap_walked : (span : Option Reach) (ds : List DoubleStands) → walked span over_now ds ≡ over_now
gap_walked span [] = refl
gap_walked span (d ∷ ds) =
    let next : Option Reach = span_by d.standing.is_judged span d.number in
    ap (λ (s : State). walked next s ds) (gap_by d.standing.is_judged span d.number d.says) ∙ gap_walked next ds

first_walked : (span : Option Reach) (state : State) (d : DoubleStands) (ds : List DoubleStands) (b : Bool) → d.standing.is_judged ≡ b
    → walked span state (d ∷ ds) ≡ walked (span_by b span d.number) (state_by b span d.number d.says state) ds
first_walked span state d ds b is = λ i. walked (span_by (is i) span d.number) (state_by (is i) span d.number d.says state) ds

first_judged_of : (d : DoubleStands) (ds : List DoubleStands) (b : Bool) → d.standing.is_judged ≡ b → judged_among (d ∷ ds) ≡ (if b then d ∷ judged_among ds else judged_among ds)
first_judged_of d ds b is = λ i. if is i then d ∷ judged_among ds else judged_among ds

-- behind a judged one either all are, or none says within any more
all_or_gap : (span : Reach) (state : State) (ds : List DoubleStands) → AreJudged ds ⊎ (walked (Some span) state ds ≡ over_now)
all_or_gap span state [] = inl (All-nil (λ d. d.standing.is_judged ≡ true))
all_or_gap span state (d ∷ ds) =
    by d.standing.is_judged refl
    (all_or_gap (span_to (Some span) d.number) (rows_from state (2 * d.number) d.says) ds)
  where
    more : d.standing.is_judged ≡ true
        → AreJudged ds ⊎ (walked (Some (span_to (Some span) d.number)) (rows_from state (2 * d.number) d.says) ds ≡ over_now)
        → AreJudged (d ∷ ds) ⊎ (walked (Some span) state (d ∷ ds) ≡ over_now)
    more is (inl rest) = inl (All-cons (λ d. d.standing.is_judged ≡ true) d ds is rest)
    more is (inr rest) = inr (first_walked (Some span) state d ds true is ∙ rest)

    by : (b : Bool) → d.standing.is_judged ≡ b
        → AreJudged ds ⊎ (walked (Some (span_to (Some span) d.number)) (rows_from state (2 * d.number) d.says) ds ≡ over_now)
        → AreJudged (d ∷ ds) ⊎ (walked (Some span) state (d ∷ ds) ≡ over_now)
    by true is rest = more is rest
    by false is rest = inr (first_walked (Some span) state d ds false is ∙ gap_walked (Some span) ds)

-- where all are, the rows follow each other
rows_walked : (span : Option Reach) (state : State) (double : ℕ) (ds : List DoubleStands) → AreOn double ds → AreJudged ds
    → walked span state ds ≡ rows_from state (2 * double) (says_in ds)
rows_walked span state double [] on judged = refl
rows_walked span state double (d ∷ ds) on judged =
    let P : DoubleStands → Type 0 = λ d. d.standing.is_judged ≡ true in
    let here : State = rows_from state (2 * double) d.says in
    let number : d.number ≡ double = on.0 in
    let two : length d.says ≡ 2 = on.1.0 in
    let same : 2 * (double + 1) ≡ 2 * double + length d.says = omega (arith, two) in
    first_walked span state d ds true (All-head P d ds judged)
    ∙ (λ i. walked (Some (span_to span (number i))) (rows_from state (2 * number i) d.says) ds)
    ∙ rows_walked (Some (span_to span double)) here (double + 1) ds on.1.1 (All-tail P d ds judged)
    ∙ ap (λ (n : ℕ). rows_from here n (says_in ds)) same
    ∙ sym (rows_append state (2 * double) d.says (says_in ds))

long_rows : (double : ℕ) (ds : List DoubleStands) → AreOn double ds → length (says_in ds) ≡ 2 * length ds
long_rows double [] on = refl
long_rows double (d ∷ ds) on =
    let two : length d.says ≡ 2 = on.1.0 in
    omega (arith, length-append d.says (says_in ds), long_rows (double + 1) ds on.1.1, two)

-- the first and the last of them
spans_walked : (from double : ℕ) (ds : List DoubleStands) → AreOn (double + 1) ds
    → spans (reach_to from (2 * double + 1)) ds ≡ reach_to from (2 * (double + length ds) + 1)
spans_walked from double [] on =
    let same : 2 * double + 1 ≡ 2 * (double + 0) + 1 = omega arith in
    ap (reach_to from) same
spans_walked from double (d ∷ ds) on =
    let number : d.number ≡ double + 1 = on.0 in
    let same : 2 * (double + 1 + length ds) + 1 ≡ 2 * (double + suc (length ds)) + 1 = omega arith in
    ap (λ (n : ℕ). spans (reach_to from (2 * n + 1)) ds) number ∙ spans_walked from (double + 1) ds on.1.1 ∙ ap (reach_to from) same

span_walked : (double : ℕ) (d : DoubleStands) (ds : List DoubleStands) → AreOn double (d ∷ ds)
    → reach_of_doubles (d ∷ ds) ≡ reach_to (2 * double) (2 * (double + length ds) + 1)
span_walked double d ds on =
    let number : d.number ≡ double = on.0 in
    sym (spans_all (d ∷ ds)) ∙ ap (λ (n : ℕ). spans (reach_to (2 * n) (2 * n + 1)) ds) number ∙ spans_walked (2 * double) double ds on.1.1

all_judged : (ds : List DoubleStands) → AreJudged ds → judged_among ds ≡ ds
all_judged [] judged = refl
all_judged (d ∷ ds) judged =
    let P : DoubleStands → Type 0 = λ d. d.standing.is_judged ≡ true in
    first_judged_of d ds true (All-head P d ds judged) ∙ ap (λ (l : List DoubleStands). d ∷ l) (all_judged ds (All-tail P d ds judged))

-- ---- what all of them come to

abbrev to_or : Option Reach → ℕ
to_or None = 0
to_or (Some r) = r.to

judged_first : (d : DoubleStands) (ds : List DoubleStands) → d.standing.is_judged ≡ false → judged_among (d ∷ ds) ≡ judged_among ds
judged_first d ds is = first_judged_of d ds false is

later_within : (d : DoubleStands) (ds : List DoubleStands) → d.standing.is_judged ≡ false → AllSayWithin ds → AllSayWithin (d ∷ ds)
later_within d ds is rest =
    record {
      before = d ∷ rest.before;
      first = rest.first;
      others = rest.others;
      parts = ap (λ (l : List DoubleStands). d ∷ l) rest.parts;
      unjudged = All-cons (λ d. d.standing.is_judged ≡ false) d rest.before is rest.unjudged;
      judged = rest.judged;
      front = rest.front;
      last = rest.last;
      rows = rest.rows;
      within = rest.within;
      untold = rest.untold;
    }

module _ (double : ℕ) (d : DoubleStands) (ds : List DoubleStands) (on : AreOn double (d ∷ ds)) where
  abbrev rows_here : List Says
  rows_here = says_in (d ∷ ds)

  leading_by : (reach : Reach) (n : ℕ) → leading rows_here ≡ n → (rows_from none_yet (2 * double) rows_here).0 ≡ Some reach
      → reach.to + 1 ≡ 2 * (double + length ds) + 1 → leading rows_here + 1 ≡ length rows_here
  leading_by reach zero is reached to = absurd (cc (sym (rows_none (2 * double) rows_here is) ∙ reached))
  leading_by reach (suc k) is reached to =
      let same : 2 * double + k ≡ reach.to = ap to_or (sym (rows_some (2 * double) k rows_here is) ∙ reached) in
      omega (arith, is, same, to, long_rows double (d ∷ ds) on)

  here_within : (reach : Reach) → AreJudged (d ∷ ds) → (walked None none_yet (d ∷ ds)).0 ≡ Some reach
      → reach_of_doubles (judged_among (d ∷ ds)) ≡ Some (record { from = reach.from; to = reach.to + 1 }) → AllSayWithin (d ∷ ds)
  here_within reach judged reached named =
      let rows : walked None none_yet (d ∷ ds) ≡ rows_from none_yet (2 * double) rows_here = rows_walked None none_yet double (d ∷ ds) on judged in
      let first : (rows_from none_yet (2 * double) rows_here).0 ≡ Some reach = ap (λ (s : State). s.0) (sym rows) ∙ reached in
      let to : reach.to + 1 ≡ 2 * (double + length ds) + 1 =
      ap to_or (sym named ∙ ap reach_of_doubles (all_judged (d ∷ ds) judged) ∙ span_walked double d ds on) in
      let parts : ButLast rows_here = but_last rows_here (leading_by reach (leading rows_here) refl first to) in
      record {
        before = [];
        first = d;
        others = ds;
        parts = refl;
        unjudged = All-nil (λ d. d.standing.is_judged ≡ false);
        judged = judged;
        front = parts.front;
        last = parts.last;
        rows = parts.parts;
        within = parts.within;
        untold = parts.untold;
      }

  by_gap : (reach : Reach) → d.standing.is_judged ≡ true
      → AreJudged ds ⊎ (walked (Some (span_to None d.number)) (rows_from none_yet (2 * d.number) d.says) ds ≡ over_now)
      → (walked None none_yet (d ∷ ds)).0 ≡ Some reach
      → reach_of_doubles (judged_among (d ∷ ds)) ≡ Some (record { from = reach.from; to = reach.to + 1 }) → AllSayWithin (d ∷ ds)
  by_gap reach is (inl judged) reached named = here_within reach (All-cons (λ d. d.standing.is_judged ≡ true) d ds is judged) reached named
  by_gap reach is (inr gap) reached named =
      absurd (cc (ap (λ (s : State). s.0) (sym (first_walked None none_yet d ds true is ∙ gap)) ∙ reached))

  by_first : (reach : Reach) (b : Bool) → d.standing.is_judged ≡ b
      → ((walked None none_yet ds).0 ≡ Some reach → reach_of_doubles (judged_among ds) ≡ Some (record { from = reach.from; to = reach.to + 1 }) → AllSayWithin ds)
      → (walked None none_yet (d ∷ ds)).0 ≡ Some reach
      → reach_of_doubles (judged_among (d ∷ ds)) ≡ Some (record { from = reach.from; to = reach.to + 1 }) → AllSayWithin (d ∷ ds)
  by_first reach true is rest reached named =
      by_gap reach is (all_or_gap (span_to None d.number) (rows_from none_yet (2 * d.number) d.says) ds) reached named
  by_first reach false is rest reached named =
      later_within d ds is
      (rest (ap (λ (s : State). s.0) (sym (first_walked None none_yet d ds false is)) ∙ reached) (ap reach_of_doubles (sym (judged_first d ds is)) ∙ named))

say_within : (double : ℕ) (told : List DoubleStands) → AreOn double told → (reach : Reach) → (walked None none_yet told).0 ≡ Some reach
    → reach_of_doubles (judged_among told) ≡ Some (record { from = reach.from; to = reach.to + 1 }) → AllSayWithin told
say_within double [] on reach reached named = absurd (cc reached)
say_within double (d ∷ ds) on reach reached named =
    by_first double d ds on reach d.standing.is_judged refl (λ further span. say_within (double + 1) ds on.1.1 reach further span) reached named

-- and the other way round
record IsReached (told : List DoubleStands) : Type 0 where
  whole : Reach
  span : Reach
  reached : (walked None none_yet told).0 ≡ Some whole
  spanned : reach_of_doubles (judged_among told) ≡ Some span
  ends : reaches_end whole span ≡ true

later_reached : (d : DoubleStands) (ds : List DoubleStands) → d.standing.is_judged ≡ false → IsReached ds → IsReached (d ∷ ds)
later_reached d ds is rest =
    record {
      whole = rest.whole;
      span = rest.span;
      reached = ap (λ (s : State). s.0) (first_walked None none_yet d ds false is) ∙ rest.reached;
      spanned = ap reach_of_doubles (judged_first d ds is) ∙ rest.spanned;
      ends = rest.ends;
    }

ends_at : (double n : ℕ) → ((2 * double == 2 * double) && (2 * double + 2 * n + 1 == 2 * (double + n) + 1)) ≡ true
ends_at double n = grind (arith, nat_tests)

reached_here : (double : ℕ) (d : DoubleStands) (ds : List DoubleStands) → AreOn double (d ∷ ds) → AreJudged (d ∷ ds) → (front : List Says) (last : Says)
    → says_in (d ∷ ds) ≡ front ++ (last ∷ []) → All (λ says. says ≡ Within) front → (last ≡ Within → ⊥) → IsReached (d ∷ ds)
reached_here double d ds on judged front last parts within untold =
    let long : length (says_in (d ∷ ds)) ≡ length front + 1 = ap length parts ∙ length-append front (last ∷ []) in
    let led : leading (says_in (d ∷ ds)) ≡ length front = ap leading parts ∙ leading_but front last within untold in
    let k : leading (says_in (d ∷ ds)) ≡ suc (2 * length ds) = omega (arith, long, led, long_rows double (d ∷ ds) on) in
    record {
      whole = record { from = 2 * double; to = 2 * double + 2 * length ds };
      span = record { from = 2 * double; to = 2 * (double + length ds) + 1 };
      reached =
          ap (λ (s : State). s.0) (rows_walked None none_yet double (d ∷ ds) on judged) ∙ rows_some (2 * double) (2 * length ds) (says_in (d ∷ ds)) k;
      spanned = ap reach_of_doubles (all_judged (d ∷ ds) judged) ∙ span_walked double d ds on;
      ends = ends_at double (length ds);
    }

reached_from : (double : ℕ) (before : List DoubleStands) (d : DoubleStands) (ds : List DoubleStands) → AreOn double (before ++ (d ∷ ds)) → AreUnjudged before
    → AreJudged (d ∷ ds) → (front : List Says) (last : Says) → says_in (d ∷ ds) ≡ front ++ (last ∷ []) → All (λ says. says ≡ Within) front
    → (last ≡ Within → ⊥) → IsReached (before ++ (d ∷ ds))
reached_from double [] d ds on unjudged judged front last parts within untold = reached_here double d ds on judged front last parts within untold
reached_from double (other ∷ before) d ds on unjudged judged front last parts within untold =
    let P : DoubleStands → Type 0 = λ d. d.standing.is_judged ≡ false in
    later_reached other (before ++ (d ∷ ds)) (All-head P other before unjudged)
    (reached_from (double + 1) before d ds on.1.1 (All-tail P other before unjudged) judged front last parts within untold)

-- ---- a log

span_same : (judged : Bool) (before : Judged) (double : ℕ) (said : List Says) → (judged_by judged before double said).span ≡ span_by judged before.span double
span_same true before double said = refl
span_same false before double said = refl

state_same : (judged : Bool) (span : Option Reach) (double : ℕ) (even odd : Says) (state : State)
    → reach_where judged span double even odd state ≡ state_by judged span double (even ∷ odd ∷ []) state
state_same true span double even odd state = refl
state_same false None double even odd state = refl
state_same false (Some span) double even odd state = refl

module _ (b : Basis) (seen : List Sighting) (frames : OffendingFrames) where
  abbrev state_in : Progress → State
  state_in q = (q.reach, q.is_ended)

  abbrev one_stands : Progress → ℕ → DoubleStands
  one_stands q double = stood b seen frames q double

  span_step : (q : Progress) (double : ℕ)
      → (progress_behind b seen frames double q).judged.span ≡ span_by (one_stands q double).standing.is_judged q.judged.span double
  unfolding progress_told double_at
  span_step q double =
      span_same (one_stands q double).standing.is_judged q.judged double (one_stands q double).says

  state_step : (q : Progress) (double : ℕ)
      → state_in (progress_behind b seen frames double q)
      ≡ state_by (one_stands q double).standing.is_judged q.judged.span double (one_stands q double).says (state_in q)
  unfolding progress_told double_at both_say
  state_step q double = state_same (one_stands q double).standing.is_judged q.judged.span double _ _ (state_in q)

  walk : (q : Progress) (doubles : List ℕ)
      → state_in (progress_of b seen frames q doubles) ≡ walked q.judged.span (state_in q) (all_stood b seen frames q doubles)
  unfolding progress_of standings_from
  walk q [] = refl
  walk q (double ∷ doubles) =
      let next : Progress = progress_behind b seen frames double q in
      walk next doubles
      ∙ (λ i. walked (span_step q double i) (state_step q double i) (all_stood b seen frames next doubles))
      ∙ ap (walked q.judged.span (state_in q)) (stood_first b seen frames q double doubles)

  are_on : (known : Option Known) (first n : ℕ) → AreOn first (standings_from b seen frames known (range_with_len first n))
  unfolding standings_from both_say
  are_on known first zero = tt
  are_on known first (suc n) = (refl, (refl, are_on (known_next_told b (double_at b seen frames first) known) (first + 1) n))

  on_between : (first last : Option Sighting) → (double : ℕ) × AreOn double (standings_from b seen frames None (doubles_between first last))
  unfolding standings_from
  on_between None last = (0, tt)
  on_between (Some first) None = (0, tt)
  on_between (Some first) (Some last) = (_, are_on None _ _)

module _ (p : Values) (l : LogView) where
  log_on : (double : ℕ) × AreOn double (log_standings p l)
  unfolding log_standings seen_doubles
  log_on =
      on_between (log_basis p l) (sightings_of p l) (offending_frames_of p l) (slice_get (sightings_of p l) 0)
      (slice_get (sightings_of p l) (length (sightings_of p l) - 1))

  log_walked : (behind_all p l).reach ≡ (walked None none_yet (log_standings p l)).0
  unfolding log_standings
  log_walked =
      ap (λ (s : State). s.0)
      (walk (log_basis p l) (sightings_of p l) (offending_frames_of p l) no_progress (seen_doubles (sightings_of p l)))

pub within_says_within_lem : WithinSaysWithin
unfolding verdict_of
within_says_within_lem p l reach says =
    let within : Reaches (behind_all p l) reach = within-reaches (behind_all p l) reach says in
    let on = log_on p l in
    say_within on.0 (log_standings p l) on.1 reach (sym (log_walked p l) ∙ within.reaches)
    (sym (span_all p l) ∙ within.spans ∙ (λ i. Some (record { from = sym within.from i; to = sym within.to i })))

same_span : (a b : Reach) → Some a ≡ Some b → a ≡ b
same_span a b is = cc is

pub partly_is_else_lem : PartlyIsElse
unfolding verdict_of
partly_is_else_lem p l part says all =
    let partly : IsPartly (behind_all p l) part = partly_by (behind_all p l) part says in
    let on = log_on p l in
    let told : List DoubleStands = log_standings p l in
    let is : IsReached (all.before ++ (all.first ∷ all.others)) =
    reached_from on.0 all.before all.first all.others (subst (AreOn on.0) all.parts on.1) all.unjudged all.judged all.front all.last all.rows all.within
    all.untold in
    let back : IsReached told = subst IsReached (sym all.parts) is in
    let same : back.span ≡ partly.span = same_span back.span partly.span (sym back.spanned ∙ sym (span_all p l) ∙ partly.spans) in
    let not : reaches_end back.whole partly.span ≡ false = partly.ends back.whole (log_walked p l ∙ back.reached) in
    cc (sym (ap (reaches_end back.whole) same) ∙ back.ends, not)
