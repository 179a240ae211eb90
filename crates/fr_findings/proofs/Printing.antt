-- The rows of double cycles are put one double cycle after the other, and what is known behind them is kept.
use Rattle.std.proofs.Common.{◌≡◌, ℕ, zero, suc, ◌+◌, ◌-◌, ◌*◌, ◌<◌, ◌≤◌, ℤ, Bool, true, false, List, [], ◌∷◌, ◌++◌, length, slice_get, Option, Some, None, is_none, Result, Ok, Err, refl, sym, ap, ◌∙◌, subst, append_assoc, append-nil, arith}
use Rattle.std.specs.List.{count_by, flat_map, range_with_len}
use Rattle.std.specs.Option.{option_or}
use Rattle.std.specs.Result.{IsErr}
use Rattle.std.proofs.lemmas.Grind.{flat_map-append}
use Rattle.std.proofs.lemmas.List.Elements.{All-weaker}
use Rattle.std.proofs.lemmas.List.Sums.{count_by-le-length}
use Rattle.fr_base.specs.Device.{Puts, Sunk}
use Rattle.fr_base.specs.declared.sink.PutFault.{PutFault}
use Rattle.fr_base.proofs.Putting.{cut, then}
use Rattle.fr_bound.specs.declared.judging.Heard.{Heard}
use Rattle.fr_bound.specs.declared.judging.Known.{Known}
use Rattle.fr_cluster.specs.Values.{Values}
use Rattle.fr_log.specs.View.{LogView}
use Rattle.fr_course.specs.Scales.{Scale}
use Rattle.fr_observe.specs.Faults.{fault_row, first_of_faults, own_faults}
use Rattle.fr_judging.specs.Knowing.{moving_faults, spread_told, standing_faults, term_faults}
use Rattle.fr_judging.specs.Missing.{missed_told}
use Rattle.fr_observe.specs.Telling.{TellsFaults}
use Rattle.fr_observe.specs.declared.fault.Fault.{Fault}
use Rattle.fr_observe.specs.declared.fault.LogSpan.{LogSpan}
use Rattle.fr_judging.specs.declared.knowing.Standing.{Standing}
use Rattle.fr_observe.specs.declared.scene.Scene.{Scene}
use Rattle.fr_observe.proofs.Told.{told_cut, told_then}
use Rattle.fr_sightings.specs.Ranges.{AreSeenFrom}
use Rattle.fr_sightings.specs.Senders.{double_of, sightings_in}
use Rattle.fr_sightings.specs.Sightings.{OffendingFrames}
use Rattle.fr_sightings.specs.declared.sender.Sender.{Sender}
use Rattle.fr_sightings.specs.declared.sighting.Sighting.{Sighting}
use Rattle.fr_findings.specs.Counting.{AreFewCycles, counted, is_open, is_over, is_within, no_cycles_told}
use Rattle.fr_observe.specs.Observing.{both_say, cycle_row, cycles_text, doubles_between, seen_doubles}
use Rattle.fr_findings.specs.Ground.{CountsFew, basis_in, double_in, scene_in}
use Rattle.fr_observe.specs.Skews.{AreSkews}
use Rattle.fr_findings.specs.Verdict.{Basis, DoubleCycle, double_at, double_told, double_with, even_says, judged_by, known_told, moving_told, no_progress, odd_says, progress_of, progress_told, sightings_before, standing_told, told_of_doubles}
use Rattle.fr_findings.specs.declared.counts.Counts.{Counts}
use Rattle.fr_findings.specs.declared.ground.Double.{Double}
use Rattle.fr_findings.specs.declared.ground.Ground.{Ground}
use Rattle.fr_findings.specs.declared.progress.Judged.{Judged}
use Rattle.fr_findings.specs.declared.progress.Progress.{Progress}
use Rattle.fr_observe.specs.declared.says.Says.{Says}
use Rattle.fr_observe.specs.declared.skews.Skews.{Skews}
use Rattle.fr_sightings.proofs.Windows.{none-later}

-- ---- double cycles

-- those up to a last one
abbrev pub up_to : ℕ → ℕ → List ℕ
up_to double last = range_with_len double (last + 1 - double)

range-first : (double last : ℕ) → double ≤ last → up_to double last ≡ double ∷ up_to (double + 1) last
range-first double last le =
    let more : last + 1 - double ≡ suc (last + 1 - (double + 1)) = omega (arith, le) in
    ap (range_with_len double) more

range-none : (double last : ℕ) → last < double → up_to double last ≡ []
range-none double last less =
    let none : last + 1 - double ≡ 0 = omega (arith, less) in
    ap (range_with_len double) none

-- a text that stopped at its front, by another name
pub ended : {fault : PutFault} {a b : Sunk} {text : List ℕ} (result : Result (Unit {0}) PutFault) → Puts (Err fault) a b text → IsErr result → Puts result a b text
ended (Ok done) put is = absurd cc
ended (Err other) put is = record { whole = tt; front = put.front; never_fall = put.never_fall }

-- what was told, and then nothing more could be put
pub told_failed : {fault : PutFault} {a b : Sunk} {x y : Option Fault} {told : List Fault} (result : Result (Unit {0}) PutFault) → TellsFaults (Err fault) a b x y told
    → IsErr result → TellsFaults result a b x y told
told_failed {a = a} {b = b} {x = x} {y = y} {told = told} result one is = subst (TellsFaults result a b x y) (append-nil told) (told_cut result [] one is)

-- the first one of all: of those before, of its own, and of the others
pub first-of-all : (first : Option Fault) (own more : List Fault) → option_or (option_or first (first_of_faults own)) (first_of_faults more) ≡ option_or first (first_of_faults (own ++ more))
first-of-all (Some fault) own more = refl
first-of-all None (fault ∷ own) more = refl
first-of-all None [] more = refl

-- what contradicts any run, by what it is looked at with
pub own-is : (g : Ground) (d : Double) (scene : Scene) (late : List Sighting) → scene ≡ scene_in g d
    → own_faults scene.params.now scene.scale.now scene.log.now scene.here.now late scene.number scene.senders.now
    ≡ own_faults (basis_in g).params (basis_in g).scale (basis_in g).log (double_in d).here late (double_in d).number (double_in d).senders
own-is g d scene late scene_is = λ i.
    own_faults (scene_is i).params.now (scene_is i).scale.now (scene_is i).log.now (scene_is i).here.now late (scene_is i).number (scene_is i).senders.now

-- how many senders its nodes must have missed, and the numbers that it is judged by
pub missed-is : (g : Ground) (d : Double) (scene : Scene) (st : Standing) → scene ≡ scene_in g d
    → missed_told scene.params.now scene.log.now scene.scale.now scene.number scene.senders.now st ≡ missed_told (basis_in g).params (basis_in g).log (basis_in g).scale (double_in d).number (double_in d).senders st
missed-is g d scene st scene_is = λ i.
    missed_told (scene_is i).params.now (scene_is i).log.now (scene_is i).scale.now (scene_is i).number (scene_is i).senders.now st

pub spread-is : (g : Ground) (d : Double) (scene : Scene) (st : Standing) → scene ≡ scene_in g d
    → spread_told scene.params.now scene.log.now scene.number st ≡ spread_told (basis_in g).params (basis_in g).log (double_in d).number st
spread-is g d scene st scene_is = λ i. spread_told (scene_is i).params.now (scene_is i).log.now (scene_is i).number st

-- what contradicts its own numbers, by what it is looked at with
pub known-is : (g : Ground) (d : Double) (scene : Scene) (st : Standing) (known : Option Known) → scene ≡ scene_in g d → st ≡ standing_told (basis_in g) (double_in d) known
    → standing_faults scene.params.now scene.scale.now scene.log.now scene.span scene.before.now scene.here.now scene.number scene.senders.now st ≡ known_told (basis_in g) (double_in d) known
unfolding known_told
known-is g d scene st known scene_is st_is = λ i.
    standing_faults (scene_is i).params.now (scene_is i).scale.now (scene_is i).log.now (scene_is i).span (scene_is i).before.now (scene_is i).here.now (scene_is i).number
    (scene_is i).senders.now (st_is i)

-- and those of skews, starts and lengths among it
pub moving-is : (g : Ground) (d : Double) (scene : Scene) (st : Standing) (known : Option Known) → scene ≡ scene_in g d → st ≡ standing_told (basis_in g) (double_in d) known
    → moving_faults scene.params.now scene.log.now scene.scale.now scene.number scene.senders.now st ≡ moving_told (basis_in g) (double_in d) known
unfolding moving_told
moving-is g d scene st known scene_is st_is = λ i. moving_faults (scene_is i).params.now (scene_is i).log.now (scene_is i).scale.now (scene_is i).number (scene_is i).senders.now (st_is i)

-- they are told first, and then the others
module _ (scene : Scene) (st : Standing) where
  abbrev moving_of : List Fault
  moving_of = moving_faults scene.params.now scene.log.now scene.scale.now scene.number scene.senders.now st

  abbrev terms_of : List Fault
  terms_of = term_faults scene.params.now scene.scale.now scene.log.now scene.span scene.before.now scene.here.now scene.number scene.senders.now st

  abbrev all_of : List Fault
  all_of = standing_faults scene.params.now scene.scale.now scene.log.now scene.span scene.before.now scene.here.now scene.number scene.senders.now st

  pub moving-cut : {fault : PutFault} {a b : Sunk} {x y : Option Fault} (result : Result (Unit {0}) PutFault) → TellsFaults (Err fault) a b x y moving_of → IsErr result
      → TellsFaults result a b x y all_of
  unfolding standing_faults
  moving-cut result one is = told_cut result terms_of one is

  pub moving-then : {done : Unit {0}} {a b c : Sunk} {x y z : Option Fault} (result : Result (Unit {0}) PutFault) → TellsFaults (Ok done) a b x y moving_of
      → TellsFaults result b c y z terms_of → TellsFaults result a c x z all_of
  unfolding standing_faults
  moving-then result one next = told_then result one next

-- ---- the text of a double cycle

-- its rows, those of what contradicts any run, those of what else contradicts it, and then what its nodes missed and its own numbers
module _ (rows : List ℕ) (own more : List Fault) (numbers : List ℕ) where
  abbrev whole : List ℕ
  whole = rows ++ (flat_map fault_row (own ++ more) ++ numbers)

  parts : rows ++ (flat_map fault_row own ++ (flat_map fault_row more ++ numbers)) ≡ whole
  parts =
      ap (λ (l : List ℕ). rows ++ l)
      (sym (append_assoc (flat_map fault_row own) (flat_map fault_row more) numbers) ∙ ap (λ (l : List ℕ). l ++ numbers) (sym (flat_map-append fault_row own more)))

  pub rows-cut : {fault : PutFault} {a b : Sunk} (result : Result (Unit {0}) PutFault) → Puts (Err fault) a b rows → IsErr result → Puts result a b whole
  rows-cut result put is = cut result (flat_map fault_row (own ++ more) ++ numbers) put is

  pub own-cut : {done : Unit {0}} {fault : PutFault} {a b c : Sunk} (result : Result (Unit {0}) PutFault) → Puts (Ok done) a b rows → Puts (Err fault) b c (flat_map fault_row own) → IsErr result
      → Puts result a c whole
  own-cut {a = a} {c = c} result put next is =
      subst (Puts result a c) parts (then {text = rows} result put (cut result (flat_map fault_row more ++ numbers) next is))

  pub more-cut : {done told : Unit {0}} {fault : PutFault} {a b c d : Sunk} (result : Result (Unit {0}) PutFault) → Puts (Ok done) a b rows → Puts (Ok told) b c (flat_map fault_row own)
      → Puts (Err fault) c d (flat_map fault_row more) → IsErr result → Puts result a d whole
  more-cut {a = a} {d = d} result put next last is =
      subst (Puts result a d) parts (then {text = rows} result put (then {text = flat_map fault_row own} result next (cut result numbers last is)))

  pub whole-put : {done told all : Unit {0}} {a b c d e : Sunk} (result : Result (Unit {0}) PutFault) → Puts (Ok done) a b rows → Puts (Ok told) b c (flat_map fault_row own)
      → Puts (Ok all) c d (flat_map fault_row more) → Puts result d e numbers → Puts result a e whole
  whole-put {a = a} {e = e} result put next last end =
      subst (Puts result a e) parts (then {text = rows} result put (then {text = flat_map fault_row own} result next (then {text = flat_map fault_row more} result last end)))

-- what stays the same over a log
abbrev pub made-basis : ℤ → Scale → Values → LogView → LogSpan → Option Heard → Basis
made-basis precision scale p l span heard =
    record { precision = precision; scale = scale; params = p; log = l; span = span; heard = heard }

-- ---- what both cycles say

two-at-most : (test : Says → Bool) (a b : Says) → count_by test (a ∷ b ∷ []) ≤ 2
two-at-most test a b = count_by-le-length test (a ∷ b ∷ [])

few-more : (most : ℕ) (counts : Counts) (a b : Says) → AreFewCycles most counts → AreFewCycles (most + 2) (counted counts (a ∷ b ∷ []))
few-more most counts a b few = record {
  within = omega (arith, two-at-most is_within a b, few.within);
  over = omega (arith, two-at-most is_over a b, few.over);
  neither = omega (arith, two-at-most is_open a b, few.neither);
}

none-few : (most : ℕ) → CountsFew most no_progress
none-few most =
    let none : AreFewCycles most no_cycles_told = record { within = omega arith; over = omega arith; neither = omega arith } in
    record { all = none; judged = none; doubles = omega arith; judged_doubles = omega arith }

pub few-none : (most : ℕ) (progress : Progress) → progress ≡ no_progress → CountsFew most progress
few-none most progress is = subst (CountsFew most) (sym is) (none-few most)

weaker : (most : ℕ) (counts : Counts) → AreFewCycles most counts → AreFewCycles (most + 2) counts
weaker most counts few = record { within = omega (arith, few.within); over = omega (arith, few.over); neither = omega (arith, few.neither) }

judged-few : (most : ℕ) (is_judged : Bool) (judged : Judged) (double : ℕ) (a b : Says) → AreFewCycles most judged.said → judged.doubles ≤ most
    → AreFewCycles (most + 2) (judged_by is_judged judged double (a ∷ b ∷ [])).said × ((judged_by is_judged judged double (a ∷ b ∷ [])).doubles ≤ most + 2)
judged-few most true judged double a b few le = (few-more most judged.said a b few, omega (arith, le))
judged-few most false judged double a b few le = (weaker most judged.said few, omega (arith, le))

pub few-told : (most : ℕ) (b : Basis) (d : DoubleCycle) (progress : Progress) → CountsFew most progress → CountsFew (most + 2) (progress_told b d progress)
unfolding progress_told both_say
few-told most b d progress few =
    let judged = judged-few most (standing_told b d progress.known).is_judged progress.judged d.number (even_says b d) (odd_says b d) few.judged few.judged_doubles in
    record {
      all = few-more most progress.counts (even_says b d) (odd_says b d) few.all;
      judged = judged.0;
      doubles = omega (arith, few.doubles);
      judged_doubles = judged.1;
    }

-- ---- one double cycle, and those behind it

module _ (b : Basis) (seen : List Sighting) (frames : OffendingFrames) (d : DoubleCycle) (progress : Progress) (double last : ℕ) where
  told-first : double ≤ last → d ≡ double_at b seen frames double
      → double_told b d progress ++ told_of_doubles b seen frames (progress_told b d progress) (up_to (double + 1) last) ≡ told_of_doubles b seen frames progress (up_to double last)
  unfolding told_of_doubles
  told-first le is =
      ap (λ (e : DoubleCycle). double_told b e progress ++ told_of_doubles b seen frames (progress_told b e progress) (up_to (double + 1) last)) is
      ∙ ap (told_of_doubles b seen frames progress) (sym (range-first double last le))

  pub told-then : {done : Unit {0}} {x y z : Sunk} (result : Result (Unit {0}) PutFault) → double ≤ last → d ≡ double_at b seen frames double
      → Puts (Ok done) x y (double_told b d progress) → Puts result y z (told_of_doubles b seen frames (progress_told b d progress) (up_to (double + 1) last))
      → Puts result x z (told_of_doubles b seen frames progress (up_to double last))
  told-then {done} {x} {y} {z} result le is put rest =
      subst (Puts result x z) (told-first le is)
      (then {text = double_told b d progress} {rest = told_of_doubles b seen frames (progress_told b d progress) (up_to (double + 1) last)} result put rest)

  pub told-cut : {fault : PutFault} {x y : Sunk} (result : Result (Unit {0}) PutFault) → double ≤ last → d ≡ double_at b seen frames double
      → Puts (Err fault) x y (double_told b d progress) → IsErr result → Puts result x y (told_of_doubles b seen frames progress (up_to double last))
  told-cut {fault} {x} {y} result le is put failed =
      subst (Puts result x y) (told-first le is)
      (cut {text = double_told b d progress} result (told_of_doubles b seen frames (progress_told b d progress) (up_to (double + 1) last)) put failed)

  pub progress-then : double ≤ last → d ≡ double_at b seen frames double
      → progress_of b seen frames (progress_told b d progress) (up_to (double + 1) last) ≡ progress_of b seen frames progress (up_to double last)
  unfolding progress_of
  progress-then le is =
      ap (λ (e : DoubleCycle). progress_of b seen frames (progress_told b e progress) (up_to (double + 1) last)) is
      ∙ ap (progress_of b seen frames progress) (sym (range-first double last le))

-- none behind the last
pub told-end : (b : Basis) (seen : List Sighting) (frames : OffendingFrames) (progress : Progress) (double last : ℕ) → last < double → told_of_doubles b seen frames progress (up_to double last) ≡ []
unfolding told_of_doubles
told-end b seen frames progress double last less = ap (told_of_doubles b seen frames progress) (range-none double last less)

pub progress-end : (b : Basis) (seen : List Sighting) (frames : OffendingFrames) (progress : Progress) (double last : ℕ) → last < double → progress_of b seen frames progress (up_to double last) ≡ progress
unfolding progress_of
progress-end b seen frames progress double last less = ap (progress_of b seen frames progress) (range-none double last less)

-- the double cycle that is looked at
abbrev pub offending-of : List Sighting → List Sighting → OffendingFrames
offending-of untimely irregular = record { untimely = untimely; irregular = irregular }

pub double-is : (b : Basis) (seen : List Sighting) (frames : OffendingFrames) (before here next untimely irregular : List Sighting) (double : ℕ)
    → before ≡ sightings_before seen double → here ≡ sightings_in seen double → next ≡ sightings_in seen (double + 1)
    → untimely ≡ sightings_in frames.untimely double → irregular ≡ sightings_in frames.irregular double
    → double_with b double before here next (offending-of untimely irregular) ≡ double_at b seen frames double
unfolding double_at
double-is b seen frames before here next untimely irregular double before_is here_is next_is untimely_is irregular_is = λ i.
    double_with b double (before_is i) (here_is i) (next_is i) (offending-of (untimely_is i) (irregular_is i))

-- before the first one there are none
pub before-first : (seen : List Sighting) (first : ℕ) → AreSeenFrom first seen → [] ≡ sightings_before seen first
before-first seen zero from = refl
before-first seen (suc first) from =
    sym (none-later first seen (All-weaker (λ s. suc first ≤ double_of s) (λ s. first + 1 ≤ double_of s) (λ s le. omega (arith, le)) seen from))

pub before-next : (seen : List Sighting) (double : ℕ) → sightings_in seen double ≡ sightings_before seen (double + 1)
before-next seen double = let one : suc double ≡ double + 1 = omega arith in ap (sightings_before seen) one

-- ---- without a sighting

none-doubles : (seen : List Sighting) → slice_get seen 0 ≡ None → seen_doubles seen ≡ []
unfolding seen_doubles
none-doubles seen none = ap (λ (o : Option Sighting). doubles_between o (slice_get seen (length seen - 1))) none

pub none-told : (b : Basis) (seen : List Sighting) (frames : OffendingFrames) (progress : Progress) → slice_get seen 0 ≡ None → told_of_doubles b seen frames progress (seen_doubles seen) ≡ []
unfolding told_of_doubles
none-told b seen frames progress none = ap (told_of_doubles b seen frames progress) (none-doubles seen none)

pub none-known : (b : Basis) (seen : List Sighting) (frames : OffendingFrames) (progress : Progress) → slice_get seen 0 ≡ None → progress_of b seen frames progress (seen_doubles seen) ≡ progress
unfolding progress_of
none-known b seen frames progress none = ap (progress_of b seen frames progress) (none-doubles seen none)

-- ---- both cycles

pub cycles-are : (precision : ℤ) (scale : Scale) (double : ℕ) (senders : List Sender) (skews : Skews) → AreSkews scale senders skews
    → cycle_row precision (2 * double) (length senders) skews.even_low skews.even_high ++ cycle_row precision (2 * double + 1) (length senders) skews.odd_low skews.odd_high
    ≡ cycles_text precision scale double senders
unfolding cycles_text
cycles-are precision scale double senders skews are = λ i.
    cycle_row precision (2 * double) (length senders) (are.even_low i) (are.even_high i)
    ++ cycle_row precision (2 * double + 1) (length senders) (are.odd_low i) (are.odd_high i)
