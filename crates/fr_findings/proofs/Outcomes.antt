-- What is known behind some double cycles, counted from before them: each adds its own.
use Rattle.std.proofs.Common.{◌≡◌, ◌∙◌, ℕ, suc, ◌+◌, ◌-◌, ◌*◌, ◌/◌, ◌<◌, ◌≤◌, Bool, true, false, cond, List, [], ◌∷◌, ◌++◌, All, length, map, slice_get, Option, Some, None, is_none, refl, sym, ap, subst, arith}
use Rattle.std.specs.Prelude.{count_by, nat_lt, if◌then◌else◌}
use Rattle.std.specs.List.{cons_option, flat_map}
use Rattle.std.specs.Option.{option_map}
use Rattle.std.proofs.lemmas.Bool.Decides.{nat_tests}
use Rattle.std.proofs.lemmas.List.Elements.{All-cons, All-head, All-nil, All-tail}
use Rattle.std.proofs.lemmas.List.Sums.{sum_by-append}
use Rattle.fr_bound.specs.declared.judging.Known.{Known}
use Rattle.fr_cluster.specs.Values.{Values}
use Rattle.fr_log.specs.View.{LogView}
use Rattle.fr_sightings.specs.Sightings.{OffendingFrames, offending_frames_of, sightings_of}
use Rattle.fr_sightings.specs.declared.sighting.Sighting.{Sighting}
use Rattle.fr_observe.specs.Observing.{seen_doubles}
use Rattle.fr_observe.specs.declared.fault.Fault.{Fault}
use Rattle.fr_observe.specs.declared.says.Says.{Says}
use Rattle.fr_judging.specs.Obstacles.{farther, obstacle_rank}
use Rattle.fr_judging.specs.Reasons.{IsJudgedOrTold, ReasonsAreOfUnjudged}
use Rattle.fr_judging.specs.declared.obstacle.Obstacle.{Obstacle}
use Rattle.fr_findings.specs.Counting.{is_open, is_within}
use Rattle.fr_findings.specs.Outcomes.{DoubleStands, IsFarthest, IsFarthestOf, OpenIsCounted, PartlyIsCounted, StandingsAreTold, SyncIsCounted, WithinIsCounted, judged_among, judged_say, log_standings, reasons_of, reach_between, reach_of_doubles, standings_from, stands_at}
use Rattle.fr_findings.specs.Text.{first_judged, sync_fields, why_unjudged}
use Rattle.fr_findings.specs.Verdict.{Basis, double_at, judged_by, known_next_told, log_basis, log_progress, no_progress, or_none_seen, partly_of, progress_behind, progress_of, progress_told, reaches_end, span_to, standing_told, verdict_by, verdict_of, verdict_unless_over, verdict_where, verdict_with, verdict_within}
use Rattle.fr_findings.specs.declared.progress.Judged.{Judged}
use Rattle.fr_findings.specs.declared.progress.OverRow.{OverRow}
use Rattle.fr_findings.specs.declared.progress.Progress.{Progress}
use Rattle.fr_findings.specs.declared.progress.Reach.{Reach}
use Rattle.fr_findings.specs.declared.verdict.Partly.{Partly}
use Rattle.fr_findings.specs.declared.verdict.Verdict.{Verdict}
use Rattle.fr_findings.specs.declared.verdict.Verdict.TheVariants as verdict
use Rattle.fr_findings.proofs.Gaps.{Reaches, within-reaches}

-- ---- from any numbers on

abbrev pub spans : Option Reach → List DoubleStands → Option Reach
spans span [] = span
spans span (d ∷ ds) = spans (Some (span_to span d.number)) ds

abbrev farther_all : Option Obstacle → List Obstacle → Option Obstacle
farther_all why [] = why
farther_all why (other ∷ others) = farther_all (farther why (Some other)) others

abbrev pub says_in : List DoubleStands → List Says
says_in ds = flat_map (λ d. d.says) ds

-- by the judged ones of some double cycles, by the reasons of the others, and by how many they are
record AreCounted (q after : Progress) (judged : List DoubleStands) (reasons : List Obstacle) (n : ℕ) : Type 0 where
  doubles : after.doubles ≡ q.doubles + n
  judged_doubles : after.judged.doubles ≡ q.judged.doubles + length judged
  within : after.judged.said.within ≡ q.judged.said.within + count_by is_within (says_in judged)
  neither : after.judged.said.neither ≡ q.judged.said.neither + count_by is_open (says_in judged)
  span : after.judged.span ≡ spans q.judged.span judged
  why : after.obstacle ≡ farther_all q.obstacle reasons

pub count_both : (p : Says → Bool) (xs ys : List Says) → count_by p (xs ++ ys) ≡ count_by p xs + count_by p ys
count_both p xs ys = sum_by-append (λ x. cond (p x) 1 0) xs ys

-- one more, judged or not
module _ (before : Judged) (d : DoubleStands) (ds : List DoubleStands) where
  judged_more : (b : Bool) (after : ℕ) → after ≡ (judged_by b before d.number d.says).doubles + length ds
      → after ≡ before.doubles + length (cond b (d ∷ ds) ds)
  judged_more true after is = omega (arith, is)
  judged_more false after is = is

  within_more : (b : Bool) (after : ℕ) → after ≡ (judged_by b before d.number d.says).said.within + count_by is_within (says_in ds)
      → after ≡ before.said.within + count_by is_within (says_in (cond b (d ∷ ds) ds))
  within_more true after is = omega (arith, is, count_both is_within d.says (says_in ds))
  within_more false after is = is

  neither_more : (b : Bool) (after : ℕ) → after ≡ (judged_by b before d.number d.says).said.neither + count_by is_open (says_in ds)
      → after ≡ before.said.neither + count_by is_open (says_in (cond b (d ∷ ds) ds))
  neither_more true after is = omega (arith, is, count_both is_open d.says (says_in ds))
  neither_more false after is = is

  span_more : (b : Bool) (after : Option Reach) → after ≡ spans (judged_by b before d.number d.says).span ds
      → after ≡ spans before.span (cond b (d ∷ ds) ds)
  span_more true after is = is
  span_more false after is = is

why_more : (first why : Option Obstacle) (others : List Obstacle) → farther_all (farther first why) others ≡ farther_all first (cons_option why others)
why_more None None others = refl
why_more (Some first) None others = refl
why_more first (Some why) others = refl

module _ (b : Basis) (seen : List Sighting) (frames : OffendingFrames) where
  abbrev pub stood : Progress → ℕ → DoubleStands
  stood q double = stands_at b seen frames double q.known

  abbrev pub all_stood : Progress → List ℕ → List DoubleStands
  all_stood q doubles = standings_from b seen frames q.known doubles

  abbrev Counted : Progress → Progress → List DoubleStands → Type 0
  Counted q after told = AreCounted q after (judged_among told) (reasons_of told) (length told)

  -- behind one more
  counted_step : (q after : Progress) (double : ℕ) (rest : List DoubleStands) → Counted (progress_behind b seen frames double q) after rest
      → Counted q after (stood q double ∷ rest)
  unfolding progress_told double_at
  counted_step q after double rest is =
      let d : DoubleStands = stood q double in
      let judged : Bool = d.standing.is_judged in
      let some : List DoubleStands = judged_among rest in
      record {
        doubles = omega (arith, is.doubles);
        judged_doubles = judged_more q.judged d some judged after.judged.doubles is.judged_doubles;
        within = within_more q.judged d some judged after.judged.said.within is.within;
        neither = neither_more q.judged d some judged after.judged.said.neither is.neither;
        span = span_more q.judged d some judged after.judged.span is.span;
        why = is.why ∙ why_more q.obstacle d.standing.obstacle (reasons_of rest);
      }

  known_behind : (q : Progress) (double : ℕ)
      → (progress_behind b seen frames double q).known ≡ known_next_told b (double_at b seen frames double) q.known
  unfolding progress_told
  known_behind q double = refl

  pub stood_first : (q : Progress) (double : ℕ) (doubles : List ℕ)
      → stood q double ∷ all_stood (progress_behind b seen frames double q) doubles ≡ all_stood q (double ∷ doubles)
  unfolding standings_from
  stood_first q double doubles = ap (λ (known : Option Known). stood q double ∷ standings_from b seen frames known doubles) (known_behind q double)

  counted_none : (q : Progress) → Counted q q []
  counted_none q =
      record {
        doubles = omega arith;
        judged_doubles = omega arith;
        within = omega arith;
        neither = omega arith;
        span = refl;
        why = refl;
      }

  counted_all : (q : Progress) (doubles : List ℕ) → Counted q (progress_of b seen frames q doubles) (all_stood q doubles)
  unfolding progress_of standings_from
  counted_all q [] = counted_none q
  counted_all q (double ∷ doubles) =
      let next : Progress = progress_behind b seen frames double q in
      subst (Counted q (progress_of b seen frames next doubles)) (stood_first q double doubles)
      (counted_step q (progress_of b seen frames next doubles) double (all_stood next doubles) (counted_all next doubles))

  -- ---- each is judged or has a reason

  numbers_of : (known : Option Known) (doubles : List ℕ) → map (λ d. d.number) (standings_from b seen frames known doubles) ≡ doubles
  unfolding standings_from
  numbers_of known [] = refl
  numbers_of known (double ∷ doubles) =
      ap (λ (ds : List ℕ). double ∷ ds) (numbers_of (known_next_told b (double_at b seen frames double) known) doubles)

  judged_or_told : ReasonsAreOfUnjudged → (double : ℕ) (known : Option Known) → IsJudgedOrTold (standing_told b (double_at b seen frames double) known)
  unfolding standing_told
  judged_or_told law double known = law _ _ _ _ _ _ _ _ _

  one_each : (d : DoubleStands) (judged : List DoubleStands) (reasons : List Obstacle) (b : Bool) (why : Option Obstacle) → is_none why ≡ b
      → length (cond b (d ∷ judged) judged) + length (cons_option why reasons) ≡ suc (length judged + length reasons)
  one_each d judged reasons true None is = omega arith
  one_each d judged reasons false None is = absurd (cc is)
  one_each d judged reasons true (Some why) is = absurd (cc is)
  one_each d judged reasons false (Some why) is = omega arith

  each_of : ReasonsAreOfUnjudged → (known : Option Known) (doubles : List ℕ)
      → length (judged_among (standings_from b seen frames known doubles)) + length (reasons_of (standings_from b seen frames known doubles))
      ≡ length (standings_from b seen frames known doubles)
  unfolding standings_from
  each_of law known [] = refl
  each_of law known (double ∷ doubles) =
      let d : DoubleStands = stands_at b seen frames double known in
      let rest : List DoubleStands = standings_from b seen frames (known_next_told b (double_at b seen frames double) known) doubles in
      one_each d (judged_among rest) (reasons_of rest) d.standing.is_judged d.standing.obstacle (judged_or_told law double known).reason
      ∙ ap suc (each_of law (known_next_told b (double_at b seen frames double) known) doubles)

-- ---- the first and the last

last_further : (d other : DoubleStands) (ds : List DoubleStands)
    → slice_get (d ∷ other ∷ ds) (length (d ∷ other ∷ ds) - 1) ≡ slice_get (other ∷ ds) (length (other ∷ ds) - 1)
last_further d other ds =
    let more : length (d ∷ other ∷ ds) - 1 ≡ suc (length (other ∷ ds) - 1) = omega arith in
    ap (slice_get (d ∷ other ∷ ds)) more

spans_on : (r : Reach) (d : DoubleStands) (ds : List DoubleStands) → r.to ≡ 2 * d.number + 1
    → spans (Some r) ds ≡ option_map (λ (last : DoubleStands). record { from = r.from; to = 2 * last.number + 1 }) (slice_get (d ∷ ds) (length (d ∷ ds) - 1))
spans_on r d [] to = ap (λ (n : ℕ). Some (record { from = r.from; to = n })) to
spans_on r d (other ∷ ds) to =
    let last : DoubleStands → Reach = λ last. record { from = r.from; to = 2 * last.number + 1 } in
    spans_on (record { from = r.from; to = 2 * other.number + 1 }) other ds refl ∙ ap (option_map last) (sym (last_further d other ds))

between_by : (first : DoubleStands) (last : Option DoubleStands)
    → option_map (λ (last : DoubleStands). record { from = 2 * first.number; to = 2 * last.number + 1 }) last ≡ reach_between (Some first) last
between_by first None = refl
between_by first (Some last) = refl

pub spans_all : (ds : List DoubleStands) → spans None ds ≡ reach_of_doubles ds
spans_all [] = refl
spans_all (d ∷ ds) =
    spans_on (record { from = 2 * d.number; to = 2 * d.number + 1 }) d ds refl ∙ between_by d (slice_get (d ∷ ds) (length (d ∷ ds) - 1))

-- ---- the reason that came farthest

abbrev rank : Obstacle → ℕ
rank why = obstacle_rank why.kind

-- of two and more the first is passed over by the second, or stays
module _ (first other : Obstacle) (others : List Obstacle) (why : Obstacle) where
  passed_over : rank first < rank other → IsFarthestOf (other ∷ others) why → IsFarthestOf (first ∷ other ∷ others) why
  passed_over less is =
      record {
        before = first ∷ is.before;
        behind = is.behind;
        parts = ap (λ (l : List Obstacle). first ∷ l) is.parts;
        farther = All-cons (λ o. rank o < rank why) first is.before (up is.before is.parts is.farther) is.farther;
        as_far = is.as_far;
      }
    where
      up : (before : List Obstacle) → other ∷ others ≡ before ++ (why ∷ is.behind) → All (λ o. rank o < rank why) before → rank first < rank why
      up [] parts far =
          let same : other ≡ why = head_is parts in
          subst (λ (o : Obstacle). rank first < rank o) same less
        where
          head_is : other ∷ others ≡ why ∷ is.behind → other ≡ why
          head_is is = cc is
      up (o ∷ os) parts far =
          let same : o ≡ other = sym (head_is parts) in
          let lower : rank other < rank why = subst (λ (x : Obstacle). rank x < rank why) same (All-head (λ o. rank o < rank why) o os far) in
          omega (arith, less, lower)
        where
          head_is : other ∷ others ≡ o ∷ (os ++ (why ∷ is.behind)) → other ≡ o
          head_is is = cc is

  stays_first : rank other ≤ rank first → IsFarthestOf (first ∷ others) why → IsFarthestOf (first ∷ other ∷ others) why
  stays_first le is = by is.before is.parts is.farther
    where
      by : (before : List Obstacle) → first ∷ others ≡ before ++ (why ∷ is.behind) → All (λ o. rank o < rank why) before
          → IsFarthestOf (first ∷ other ∷ others) why
      by [] parts far =
          let same : first ≡ why = cc parts in
          let rest : others ≡ is.behind = cc parts in
          let lower : rank other ≤ rank why = subst (λ (o : Obstacle). rank other ≤ rank o) same le in
          record {
            before = [];
            behind = other ∷ is.behind;
            parts = λ i. same i ∷ other ∷ rest i;
            farther = All-nil (λ o. rank o < rank why);
            as_far = All-cons (λ o. rank o ≤ rank why) other is.behind lower is.as_far;
          }
      by (o ∷ os) parts far =
          let same : o ≡ first = cc parts in
          let rest : others ≡ os ++ (why ∷ is.behind) = cc parts in
          let lower : rank first < rank why = subst (λ (x : Obstacle). rank x < rank why) same (All-head (λ o. rank o < rank why) o os far) in
          record {
            before = first ∷ other ∷ os;
            behind = is.behind;
            parts = ap (λ (l : List Obstacle). first ∷ other ∷ l) rest;
            farther =
                All-cons (λ o. rank o < rank why) first (other ∷ os) lower
                (All-cons (λ o. rank o < rank why) other os (omega (arith, le, lower)) (All-tail (λ o. rank o < rank why) o os far));
            as_far = is.as_far;
          }

alone : (why : Obstacle) → IsFarthestOf (why ∷ []) why
alone why =
    record {
      before = [];
      behind = [];
      parts = refl;
      farther = All-nil (λ other. rank other < rank why);
      as_far = All-nil (λ other. rank other ≤ rank why);
    }

module _ (first other : Obstacle) (others : List Obstacle) where
  over : (o : Option Obstacle) → rank first < rank other → IsFarthest (other ∷ others) o → IsFarthest (first ∷ other ∷ others) o
  over None less is = absurd (cc is)
  over (Some why) less is = passed_over first other others why less is

  stays : (o : Option Obstacle) → rank other ≤ rank first → IsFarthest (first ∷ others) o → IsFarthest (first ∷ other ∷ others) o
  stays None le is = absurd (cc is)
  stays (Some why) le is = stays_first first other others why le is

  farther_by : (b : Bool) → nat_lt (rank first) (rank other) ≡ b
      → IsFarthest (other ∷ others) (farther_all (Some other) others) → IsFarthest (first ∷ others) (farther_all (Some first) others)
      → IsFarthest (first ∷ other ∷ others) (farther_all (if b then Some other else Some first) others)
  farther_by true less one two = over (farther_all (Some other) others) (grind (arith, nat_tests)) one
  farther_by false more one two = stays (farther_all (Some first) others) (grind (arith, nat_tests)) two

farthest_from : (first : Obstacle) (others : List Obstacle) → IsFarthest (first ∷ others) (farther_all (Some first) others)
farthest_from first [] = alone first
farthest_from first (other ∷ others) =
    farther_by first other others (nat_lt (rank first) (rank other)) refl (farthest_from other others) (farthest_from first others)

farthest_of : (reasons : List Obstacle) → IsFarthest reasons (farther_all None reasons)
farthest_of [] = refl
farthest_of (first ∷ others) = farthest_from first others

-- ---- behind all of a log

first_on : (r : Reach) (ds : List DoubleStands) → first_judged (spans (Some r) ds) ≡ Some (r.from / 2)
first_on r [] = refl
first_on r (d ∷ ds) = first_on (record { from = r.from; to = 2 * d.number + 1 }) ds

first_all : (ds : List DoubleStands) → first_judged (spans None ds) ≡ option_map (λ d. d.number) (slice_get ds 0)
first_all [] = refl
first_all (d ∷ ds) =
    let half : 2 * d.number / 2 ≡ d.number = omega arith in
    first_on (record { from = 2 * d.number; to = 2 * d.number + 1 }) ds ∙ ap Some half

none_spanned : (ds : List DoubleStands) → spans None ds ≡ None → ds ≡ []
none_spanned [] is = refl
none_spanned (d ∷ ds) is =
    absurd (cc (sym (first_on (record { from = 2 * d.number; to = 2 * d.number + 1 }) ds) ∙ ap first_judged is))

module _ (p : Values) (l : LogView) where
  abbrev pub behind_all : Progress
  behind_all = log_progress (log_basis p l) (sightings_of p l) (offending_frames_of p l)

  abbrev pub stand : List DoubleStands
  stand = log_standings p l

  all_counted : AreCounted no_progress behind_all (judged_among stand) (reasons_of stand) (length stand)
  unfolding log_standings
  all_counted = counted_all (log_basis p l) (sightings_of p l) (offending_frames_of p l) no_progress (seen_doubles (sightings_of p l))

  farthest_all : IsFarthest (reasons_of stand) behind_all.obstacle
  farthest_all = subst (IsFarthest (reasons_of stand)) (sym all_counted.why) (farthest_of (reasons_of stand))

  pub span_all : behind_all.judged.span ≡ reach_of_doubles (judged_among stand)
  span_all = all_counted.span ∙ spans_all (judged_among stand)

-- ---- which verdict

part_or : Verdict → Partly → Partly
part_or (verdict.Partly part) other = part
part_or (verdict.No fault) other = other
part_or (verdict.Over first count) other = other
part_or (verdict.Open why) other = other
part_or (verdict.Within reach) other = other

why_or : Verdict → Obstacle → Obstacle
why_or (verdict.Open why) other = why
why_or (verdict.No fault) other = other
why_or (verdict.Over first count) other = other
why_or (verdict.Partly part) other = other
why_or (verdict.Within reach) other = other

pub record IsPartly (q : Progress) (part : Partly) : Type 0 where
  pub span : Reach
  pub spans : q.judged.span ≡ Some span
  pub is : part ≡ partly_of span q
  pub ends : (whole : Reach) → q.reach ≡ Some whole → reaches_end whole span ≡ false

record IsOpen (q : Progress) (why : Obstacle) : Type 0 where
  spans : q.judged.span ≡ None
  is : why ≡ or_none_seen q.obstacle

module _ (q : Progress) (part : Partly) where
  partly_with : (span : Reach) → q.judged.span ≡ Some span → ((whole : Reach) → q.reach ≡ Some whole → reaches_end whole span ≡ false)
      → verdict.Partly (partly_of span q) ≡ verdict.Partly part → IsPartly q part
  unfolding part_or
  partly_with span spans ends is = record { span = span; spans = spans; is = sym (ap (λ (v : Verdict). part_or v part) is); ends = ends }

  partly_end : (span whole : Reach) (ends : Bool) → reaches_end whole span ≡ ends → q.reach ≡ Some whole → q.judged.span ≡ Some span
      → (if ends then verdict.Within whole else verdict.Partly (partly_of span q)) ≡ verdict.Partly part → IsPartly q part
  partly_end span whole true ends reach spans is = absurd (cc is)
  partly_end span whole false ends reach spans is =
      partly_with span spans
      (λ other reached.
      let same : Some whole ≡ Some other = sym reach ∙ reached in
      let one : whole ≡ other = cc same in
      subst (λ (r : Reach). reaches_end r span ≡ false) one ends)
      is

  partly_reach : (span : Reach) (o : Option Reach) → q.reach ≡ o → q.judged.span ≡ Some span → verdict_within o span q ≡ verdict.Partly part → IsPartly q part
  partly_reach span None reach spans is = partly_with span spans (λ other reached. absurd (cc (sym reach ∙ reached))) is
  partly_reach span (Some whole) reach spans is = partly_end span whole (reaches_end whole span) refl reach spans is

  partly_span : (o : Option Reach) → q.judged.span ≡ o → verdict_where o q ≡ verdict.Partly part → IsPartly q part
  partly_span None spans is = absurd (cc is)
  partly_span (Some span) spans is = partly_reach span q.reach refl spans is

  partly_over : (o : Option OverRow) → verdict_unless_over o q ≡ verdict.Partly part → IsPartly q part
  partly_over None is = partly_span q.judged.span refl is
  partly_over (Some first) is = absurd (cc is)

  partly_first : (o : Option Fault) → verdict_with o q ≡ verdict.Partly part → IsPartly q part
  partly_first None is = partly_over q.over is
  partly_first (Some fault) is = absurd (cc is)

  pub partly_by : verdict_by q ≡ verdict.Partly part → IsPartly q part
  unfolding verdict_by
  partly_by is = partly_first q.first is

module _ (q : Progress) (why : Obstacle) where
  open_end : (span whole : Reach) (ends : Bool) → (if ends then verdict.Within whole else verdict.Partly (partly_of span q)) ≡ verdict.Open why → IsOpen q why
  open_end span whole true is = absurd (cc is)
  open_end span whole false is = absurd (cc is)

  open_reach : (span : Reach) (o : Option Reach) → verdict_within o span q ≡ verdict.Open why → IsOpen q why
  open_reach span None is = absurd (cc is)
  open_reach span (Some whole) is = open_end span whole (reaches_end whole span) is

  open_span : (o : Option Reach) → q.judged.span ≡ o → verdict_where o q ≡ verdict.Open why → IsOpen q why
  unfolding why_or
  open_span None spans is = record { spans = spans; is = sym (ap (λ (v : Verdict). why_or v why) is) }
  open_span (Some span) spans is = open_reach span q.reach is

  open_over : (o : Option OverRow) → verdict_unless_over o q ≡ verdict.Open why → IsOpen q why
  open_over None is = open_span q.judged.span refl is
  open_over (Some first) is = absurd (cc is)

  open_first : (o : Option Fault) → verdict_with o q ≡ verdict.Open why → IsOpen q why
  open_first None is = open_over q.over is
  open_first (Some fault) is = absurd (cc is)

  open_by : verdict_by q ≡ verdict.Open why → IsOpen q why
  unfolding verdict_by
  open_by is = open_first q.first is

-- ---- the laws

pub standings_are_told_lem : ReasonsAreOfUnjudged → StandingsAreTold
unfolding log_standings
standings_are_told_lem law p l =
    record {
      numbers = numbers_of (log_basis p l) (sightings_of p l) (offending_frames_of p l) None (seen_doubles (sightings_of p l));
      each = each_of (log_basis p l) (sightings_of p l) (offending_frames_of p l) law None (seen_doubles (sightings_of p l));
    }

pub sync_is_counted_lem : SyncIsCounted
sync_is_counted_lem p l =
    let q : Progress = behind_all p l in
    let counted = all_counted p l in
    let told : List DoubleStands = log_standings p l in
    let first : first_judged q.judged.span ≡ option_map (λ d. d.number) (slice_get (judged_among told) 0) =
    ap first_judged counted.span ∙ first_all (judged_among told) in
    let judged : q.judged.doubles ≡ length (judged_among told) = omega (arith, counted.judged_doubles) in
    let doubles : q.doubles ≡ length told = omega (arith, counted.doubles) in
    record {
      reason = q.obstacle;
      farthest = farthest_all p l;
      shown = λ i. sync_fields (first i) (judged i) (doubles i) (why_unjudged (first i) q.obstacle);
    }

pub partly_is_counted_lem : PartlyIsCounted
unfolding verdict_of
partly_is_counted_lem p l part says =
    let q : Progress = behind_all p l in
    let counted = all_counted p l in
    let told : List DoubleStands = log_standings p l in
    let partly : IsPartly q part = partly_by q part says in
    let within : q.judged.said.within ≡ count_by is_within (judged_say told) = omega (arith, counted.within) in
    let neither : q.judged.said.neither ≡ count_by is_open (judged_say told) = omega (arith, counted.neither) in
    let judged : q.judged.doubles ≡ length (judged_among told) = omega (arith, counted.judged_doubles) in
    let doubles : q.doubles ≡ length told = omega (arith, counted.doubles) in
    record {
      span = sym (span_all p l) ∙ partly.spans ∙ ap (λ (x : Partly). Some x.span) (sym partly.is);
      within = ap (λ (x : Partly). x.within) partly.is ∙ within;
      neither = ap (λ (x : Partly). x.neither) partly.is ∙ neither;
      judged = ap (λ (x : Partly). x.judged) partly.is ∙ judged;
      doubles = ap (λ (x : Partly). x.doubles) partly.is ∙ doubles;
    }

pub within_is_counted_lem : WithinIsCounted
unfolding verdict_of
within_is_counted_lem p l reach says =
    let within : Reaches (behind_all p l) reach = within-reaches (behind_all p l) reach says in
    sym (span_all p l) ∙ within.spans ∙ (λ i. Some (record { from = sym within.from i; to = sym within.to i }))

pub open_is_counted_lem : OpenIsCounted
unfolding verdict_of
open_is_counted_lem p l why says =
    let is : IsOpen (behind_all p l) why = open_by (behind_all p l) why says in
    record {
      none = none_spanned (judged_among (log_standings p l)) (sym (all_counted p l).span ∙ is.spans);
      reason = (behind_all p l).obstacle;
      farthest = farthest_all p l;
      is = is.is;
    }
