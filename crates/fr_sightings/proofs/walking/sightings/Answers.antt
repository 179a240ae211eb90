use Rattle.std.proofs.Common.{◌≡◌, ℕ, ◌+◌, ◌<◌, ◌≤◌, Fits, w64, List, [], ◌∷◌, ◌++◌, length, take, get_or, refl, ap, sym, subst, ◌∙◌, arith, rules}
use Rattle.std.specs.Prelude.{All, IfSome}
use Rattle.std.specs.List.Sorted.{IsNonDecreasingBy}
use Rattle.std.proofs.lemmas.List.{length-take-le, take_all, take_more}
use Rattle.std.proofs.lemmas.List.Elements.{All-same, All-take}
use Rattle.fr_cluster.specs.Values.{Values}
use Rattle.fr_time.specs.Cycles.{double_cycle_of}
use Rattle.fr_log.specs.View.{LogView, IsEntry}
use Rattle.fr_log.specs.declared.entry.Entry.{Entry}
use Rattle.fr_sightings.specs.Passing.{last_sighting}
use Rattle.fr_sightings.specs.Sightings.{IsSighting, OffendingFrames, SightingsView, all_tallied, irregular_of, offending_frames_of, sightings_of, tally_of, untimely_of}
use Rattle.fr_sightings.specs.declared.sighting.Sighting.{Sighting}
use Rattle.fr_sightings.specs.Ranges.{AreLate}
use Rattle.fr_sightings.proofs.Late.{irregular_are_late, untimely_are_late}
use Rattle.fr_sightings.proofs.Passed.{IsPassed, last_holds, passed_all, passed_more, passed_none}
use Rattle.fr_sightings.proofs.Rising.{sightings_are_rising}
use Rattle.fr_sightings.proofs.walking.sightings.Goals as goal

pub loop-place-init : goal.loop-place-init
loop-place-init c =
    passed_none c.args.params.now c.args.log.now c.none-seen.result c.none-seen.ensures.list c.none-seen.ensures.untimely c.none-seen.ensures.irregular
    c.none-seen.ensures.tally

pub pass-requires-clause-room : goal.pass-requires-clause-room
pass-requires-clause-room c =
    let all = passed_all c.args.params.now c.args.log.now (take c.loop-place.place c.entries-entries.result.now) c.loop-place.seen c.loop-place.invariant in
    let few : length (take c.loop-place.place c.entries-entries.result.now) ≡ c.loop-place.place =
    length-take-le c.loop-place.place c.entries-entries.result.now c.loop-place.auto.place-end in
    let fits : length c.entries-entries.result.now < 18446744073709551616 = search rules in
    omega (arith, all, few, fits, c.loop-place-test.true)

pub pass-requires-clause-last : goal.pass-requires-clause-last
pass-requires-clause-last c =
    let p = c.args.params.now in
    let l = c.args.log.now in
    let entries = c.entries-entries.result.now in
    let rising =
    sightings_are_rising p l (take c.loop-place.place entries) c.sane.ensures (All-take (IsEntry l.unit) c.loop-place.place entries c.entries-entries.ensures.proper) in
    last_holds (IsSighting p l) c.loop-place.seen.list (All-same (IsSighting p l) c.loop-place.seen.list _ c.loop-place.invariant.list rising.proper)

pub loop-place-preserved : goal.loop-place-preserved
loop-place-preserved c =
    let entries = c.entries-entries.result.now in
    let item = c.index-entries-place.result in
    let more : take (c.loop-place.place + 1) entries ≡ take c.loop-place.place entries ++ item ∷ [] =
    take_more entries c.loop-place.place item c.loop-place-test.true
    ∙ ap (λ (e : Entry). take c.loop-place.place entries ++ e ∷ []) (sym c.index-entries-place.is) in
    let passed = passed_more c.args.params.now c.args.log.now (take c.loop-place.place entries) item c.loop-place.seen c.loop-place.invariant in
    rw (more, c.in_ok-pass.ensures) passed

-- what is gathered of all entries
whole : (p : Values) (l : LogView) (entries : List Entry) (place : ℕ) (seen : SightingsView) → length entries ≤ place → entries ≡ l.entries
    → IsPassed p l (take place entries) seen → IsPassed p l l.entries seen
whole p l entries place seen past is passed =
    subst (λ (some : List Entry). IsPassed p l some seen) (take_all place entries past ∙ is) passed

pub returns-clause-seen : goal.returns-clause-seen
unfolding sightings_of
returns-clause-seen c =
    (whole c.args.params.now c.args.log.now c.entries-entries.result.now c.loop-place.place c.loop-place.seen c.loop-place-test.false c.entries-entries.ensures.value c.loop-place.invariant).list

-- both lists of offending frames are those of a log
both : (one other : OffendingFrames) → one.untimely ≡ other.untimely → one.irregular ≡ other.irregular → one ≡ other
both one other untimely irregular = λ i. record { untimely = untimely i; irregular = irregular i }

pub returns-clause-offending : goal.returns-clause-offending
unfolding untimely_of irregular_of
returns-clause-offending c =
    let p = c.args.params.now in
    let l = c.args.log.now in
    let passed =
    whole p l c.entries-entries.result.now c.loop-place.place c.loop-place.seen c.loop-place-test.false c.entries-entries.ensures.value c.loop-place.invariant in
    both c.loop-place.seen.offending (offending_frames_of p l) passed.untimely passed.irregular

pub returns-clause-tally : goal.returns-clause-tally
unfolding tally_of
returns-clause-tally c =
    (whole c.args.params.now c.args.log.now c.entries-entries.result.now c.loop-place.place c.loop-place.seen c.loop-place-test.false c.entries-entries.ensures.value c.loop-place.invariant).tally

pub returns-clause-all : goal.returns-clause-all
returns-clause-all c =
    let p = c.args.params.now in
    let l = c.args.log.now in
    passed_all p l l.entries c.loop-place.seen
    (whole p l c.entries-entries.result.now c.loop-place.place c.loop-place.seen c.loop-place-test.false c.entries-entries.ensures.value c.loop-place.invariant)

pub returns-clause-proper : goal.returns-clause-proper
returns-clause-proper c =
    let p = c.args.params.now in
    let l = c.args.log.now in
    let entries = c.entries-entries.result.now in
    let rising =
    sightings_are_rising p l (take c.loop-place.place entries) c.sane.ensures (All-take (IsEntry l.unit) c.loop-place.place entries c.entries-entries.ensures.proper) in
    All-same (IsSighting p l) c.loop-place.seen.list _ c.loop-place.invariant.list rising.proper

pub returns-clause-ascending : goal.returns-clause-ascending
returns-clause-ascending c =
    let p = c.args.params.now in
    let l = c.args.log.now in
    let entries = c.entries-entries.result.now in
    let rising =
    sightings_are_rising p l (take c.loop-place.place entries) c.sane.ensures (All-take (IsEntry l.unit) c.loop-place.place entries c.entries-entries.ensures.proper) in
    subst (IsNonDecreasingBy (λ (sighting : Sighting). double_cycle_of sighting.number)) (sym c.loop-place.invariant.list) rising.ascending

pub returns-clause-late : goal.returns-clause-late
returns-clause-late c =
    let p = c.args.params.now in
    let l = c.args.log.now in
    let entries = c.entries-entries.result.now in
    let late =
    untimely_are_late p l (take c.loop-place.place entries) c.sane.ensures (All-take (IsEntry l.unit) c.loop-place.place entries c.entries-entries.ensures.proper) in
    subst (AreLate l) (sym c.loop-place.invariant.untimely) late

pub returns-clause-irregular : goal.returns-clause-irregular
returns-clause-irregular c =
    let p = c.args.params.now in
    let l = c.args.log.now in
    let entries = c.entries-entries.result.now in
    let late =
    irregular_are_late p l (take c.loop-place.place entries) c.sane.ensures (All-take (IsEntry l.unit) c.loop-place.place entries c.entries-entries.ensures.proper) in
    subst (AreLate l) (sym c.loop-place.invariant.irregular) late
