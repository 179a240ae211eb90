-- A seed makes a cluster, and its run has a report.
use Rattle.std.proofs.Common.{◌≡◌, ◌≢◌, ℕ, ℤ, zero, suc, pos, negsuc, ◌+◌, ◌*◌, ◌/◌, ◌%◌, ◌^◌, ◌<◌, ◌≤ℤ◌, Bool, true, false, inl, List, [], ◌∷◌, ◌++◌, Some, Result, Ok, Err, refl, ap, sym, ◌∙◌, subst, arith}
use Rattle.std.specs.Prelude.{◌==◌, nat_abs, if◌then◌else◌}
use Rattle.std.specs.List.{list_all}
use Rattle.std.proofs.lemmas.Int.{ints}
use Rattle.std.proofs.lemmas.List.Folds.{list_all-append}
use Rattle.fr_base.specs.Channels.{letter}
use Rattle.fr_base.specs.declared.channel.Channel.{Channel}
use Rattle.fr_base.specs.declared.channel.Channel.TheVariants as channel
use Rattle.fr_cluster.specs.Constraints.{AllHold, Amounts, key_slots}
use Rattle.fr_cluster.specs.Numbers.{amount_in, number_in}
use Rattle.fr_cluster.specs.Ranges.{InRange}
use Rattle.fr_cluster.specs.Sane.{IsSane}
use Rattle.fr_cluster.specs.Values.{Values, amount, figure}
use Rattle.fr_cluster.specs.declared.names.ParamName.{ParamName}
use Rattle.fr_cluster.specs.declared.names.ParamName.TheVariants as name
use Rattle.fr_drift.specs.Files.{DriftFits, DriftStandsFor, drift_file}
use Rattle.fr_drift.specs.Reasons.{doubles_at, doubles_in, drift_reason_after}
use Rattle.fr_drift.specs.Rows.{IsProperCount}
use Rattle.fr_drift.specs.View.{DriftView}
use Rattle.fr_drift.specs.Written.{delay_record, doubles_record, length_record, start_record}
use Rattle.fr_drift.specs.declared.fault.DriftFault.{DriftFault}
use Rattle.fr_drift.specs.declared.fault.DriftFault.TheVariants as drift_fault
use Rattle.fr_drift.proofs.Adding.{says-doubles}
use Rattle.fr_generator.specs.Cluster.{made_numbers, made_values, nodes_to, slots_to}
use Rattle.fr_generator.specs.Drawn.{Drawn, draw, drawn_from, first_words, in_turn, rest}
use Rattle.fr_generator.specs.Generated.{IsMadeCount, drift_of_seed, script_of_seed}
use Rattle.fr_generator.specs.Places.{beside, chance_at, link_at}
use Rattle.fr_generator.specs.Seeds.{DriftIsAccepted, ScriptIsAccepted}
use Rattle.fr_generator.specs.Steps.{after_chance, after_clock, after_delay, delay_drawn, delay_of_link, length_drawn, said_of_chance, shift_drawn, start_drawn}
use Rattle.fr_generator.proofs.Apart.{beside-to}
use Rattle.fr_generator.proofs.MadeCluster.{made-accepted}
use Rattle.fr_report.specs.MakeAnswer.{IsMadeReport, make_files}
use Rattle.fr_report.specs.RunText.{IsRunText, run_text}
use Rattle.fr_script.specs.Files.{IsSoundScript, ScriptStandsFor, script_file}
use Rattle.fr_script.specs.Reasons.{script_reason_after}
use Rattle.fr_script.specs.View.{ScriptView}
use Rattle.fr_script.specs.Written.{arbitrary_record, say_record}
use Rattle.fr_script.specs.declared.fault.ScriptFault.{ScriptFault}
use Rattle.fr_script.specs.declared.fault.ScriptFault.TheVariants as script_fault
use Rattle.fr_script.proofs.ScriptSound.{sound_script}
use Rattle.fr_text.specs.Defined.{DefinesOneStatus}
use Rattle.fr_text.specs.Fields.{looked_up, or_else}
use Rattle.fr_text.specs.Kind.{HasSomeAnswer, Reads}
use Rattle.fr_text.specs.Records.{FileRecord, records_of}
use Rattle.fr_text.specs.Refusal.{NoneRefused}
use Rattle.fr_text.specs.Texts.{first_byte, is_plain_field, is_plain_record, text_of_records}
use Rattle.fr_text.proofs.Cuts.{refused-none}
use Rattle.fr_text.proofs.Defining.{one_status, some_status}
use Rattle.fr_text.proofs.Plain.{decimal-plain, signed-plain}
use Rattle.fr_text.proofs.RecordLines.{records-read-back}
use Rattle.fr_report.proofs.RunStatus.{IsDefinedText}

-- ---- the records of a seed can be written, and are read back

-- plain records, of which this is the first
record BeginPlainly (first : FileRecord) (records : List FileRecord) : Type 0 where
  plain : list_all is_plain_record records ≡ true
  others : List FileRecord
  begins : records ≡ first ∷ others

one_more : (first : FileRecord) (records : List FileRecord) (r : FileRecord) → is_plain_record r ≡ true → BeginPlainly first records → BeginPlainly first (records ++ r ∷ [])
one_more first records r plain so_far = record {
  plain = list_all-append is_plain_record records (r ∷ []) ∙ rw (so_far.plain, plain) refl;
  others = so_far.others ++ r ∷ [];
  begins = ap (λ (l : List FileRecord). l ++ r ∷ []) so_far.begins;
}

each_turn : (first : FileRecord) (step : ℕ → Drawn → Drawn) (n : ℕ) (start : Drawn) → ((place : ℕ) (d : Drawn) → place < n → BeginPlainly first d.records → BeginPlainly first (step place d).records)
    → BeginPlainly first start.records → BeginPlainly first (in_turn step n start).records
unfolding in_turn
each_turn first step zero start keeps so_far = so_far
each_turn first step (suc n) start keeps so_far =
    keeps n (in_turn step n start) (omega arith) (each_turn first step n start (λ place d less. keeps place d (omega (arith, less))) so_far)

letter_plain : (ch : Channel) → is_plain_field (letter ch) ≡ true
letter_plain channel.A = refl
letter_plain channel.B = refl

doubles_plain : (n : ℕ) → n < 2 ^ 64 → is_plain_record (doubles_record n) ≡ true
doubles_plain n few = rw (decimal-plain n few) refl

length_plain : (node from : ℕ) (ticks : ℤ) → node < 2 ^ 64 → from < 2 ^ 64 → negsuc 999_999_999_999_999_998 ≤ℤ ticks → ticks ≤ℤ pos 999_999_999_999_999_999 → is_plain_record (length_record node from ticks) ≡ true
length_plain node from ticks a b low high = rw (decimal-plain node a, decimal-plain from b, signed-plain ticks low high) refl

start_plain : (node : ℕ) (ticks rate : ℤ) → node < 2 ^ 64 → negsuc 999_999_999_999_999_998 ≤ℤ ticks → ticks ≤ℤ pos 999_999_999_999_999_999 → negsuc 999_999_999_999_999_998 ≤ℤ rate → rate ≤ℤ pos 999_999_999_999_999_999
    → is_plain_record (start_record node ticks rate) ≡ true
start_plain node ticks rate a low high low_too high_too = rw (decimal-plain node a, signed-plain ticks low high, signed-plain rate low_too high_too) refl

delay_plain : (sender receiver : ℕ) (ch : Channel) (from : ℕ) (ticks : ℤ) → sender < 2 ^ 64 → receiver < 2 ^ 64 → from < 2 ^ 64 → negsuc 999_999_999_999_999_998 ≤ℤ ticks → ticks ≤ℤ pos 999_999_999_999_999_999
    → is_plain_record (delay_record sender receiver ch from ticks) ≡ true
delay_plain sender receiver ch from ticks a b c low high = rw (decimal-plain sender a, decimal-plain receiver b, letter_plain ch, decimal-plain from c, signed-plain ticks low high) refl

arbitrary_plain : (node : ℕ) → node < 2 ^ 64 → is_plain_record (arbitrary_record node) ≡ true
arbitrary_plain node few = rw (decimal-plain node few) refl

say_plain : (cycle sender receiver : ℕ) (ch : Channel) (shift : ℤ) → cycle < 2 ^ 64 → sender < 2 ^ 64 → receiver < 2 ^ 64 → negsuc 999_999_999_999_999_998 ≤ℤ shift → shift ≤ℤ pos 999_999_999_999_999_999
    → is_plain_record (say_record cycle sender receiver ch shift) ≡ true
say_plain cycle sender receiver ch shift a b c low high = rw (decimal-plain cycle a, decimal-plain sender b, decimal-plain receiver c, letter_plain ch, signed-plain shift low high) refl

clock_keeps : (first : FileRecord) (place : ℕ) (d : Drawn) → place < 8 → BeginPlainly first d.records → BeginPlainly first (after_clock place d).records
clock_keeps first place d less so_far =
    one_more first _ (start_record (place + 1) (start_drawn (rest d.words)) (pos 0))
    (start_plain (place + 1) (start_drawn (rest d.words)) (pos 0) (omega (arith, less)) (omega (arith, ints)) (omega (arith, ints)) (omega (arith, ints)) (omega (arith, ints)))
    (one_more first d.records (length_record (place + 1) 0 (length_drawn d.words)) (length_plain (place + 1) 0 (length_drawn d.words) (omega (arith, less)) (omega arith) (omega (arith, ints)) (omega (arith, ints))) so_far)

delay_keeps : (first : FileRecord) (place : ℕ) (d : Drawn) → place < 112 → BeginPlainly first d.records → BeginPlainly first (after_delay place d).records
delay_keeps first place d less so_far =
    let receiver = beside-to (place / 14 + 1) (place % 14 / 2 + 1) (omega arith) in
    one_more first d.records (delay_of_link (link_at place) (delay_drawn d.words))
    (delay_plain (place / 14 + 1) (beside (place / 14 + 1) (place % 14 / 2 + 1)) (link_at place).channel 0 (delay_drawn d.words) (omega (arith, less)) (omega (arith, receiver)) (omega arith) (omega (arith, ints)) (omega (arith, ints)))
    so_far

chance_keeps : (first : FileRecord) (place : ℕ) (d : Drawn) → place < 480_000 → BeginPlainly first d.records → BeginPlainly first (after_chance place d).records
chance_keeps first place d less so_far = by (draw d.words % 4 == 0)
  where
    by : (b : Bool) → BeginPlainly first (if◌then◌else◌ {A = Drawn} b (record { records = d.records; words = rest d.words }) (record { records = d.records ++ said_of_chance (chance_at place) (shift_drawn (rest d.words)) ∷ []; words = rest (rest d.words) })).records
    by true = so_far
    by false =
        one_more first d.records (said_of_chance (chance_at place) (shift_drawn (rest d.words)))
        (say_plain (place / 24) (place % 24 / 12 + 7) (place % 24 % 12 / 2 + 1) (chance_at place).link.channel (shift_drawn (rest d.words)) (omega (arith, less)) (omega arith) (omega arith) (omega (arith, ints)) (omega (arith, ints)))
        so_far

drift_plain : (seed doubles : ℕ) → IsMadeCount doubles → BeginPlainly (doubles_record doubles) (drift_of_seed seed doubles).records
drift_plain seed doubles made =
    let most = made.to in
    let first : FileRecord = doubles_record doubles in
    let clocks = in_turn after_clock 8 (drawn_from (first ∷ []) (first_words seed)) in
    each_turn first after_delay 112 clocks (delay_keeps first)
    (each_turn first after_clock 8 (drawn_from (first ∷ []) (first_words seed)) (clock_keeps first) (record { plain = rw (doubles_plain doubles (omega (arith, most))) refl; others = []; begins = refl }))

script_plain : (seed doubles : ℕ) → IsMadeCount doubles → BeginPlainly (arbitrary_record 7) (script_of_seed seed doubles).records
script_plain seed doubles made =
    let most = made.to in
    let first : FileRecord = arbitrary_record 7 in
    each_turn first after_chance (48 * doubles) (drawn_from (first ∷ arbitrary_record 8 ∷ []) (drift_of_seed seed doubles).words) (λ place d less. chance_keeps first place d (omega (arith, less, most)))
    (record { plain = rw (arbitrary_plain 7 (omega arith), arbitrary_plain 8 (omega arith)) refl; others = arbitrary_record 8 ∷ []; begins = refl })

-- what is written of them is read as them, where it does not begin as a byte order mark does
read_back : (first : FileRecord) (records : List FileRecord) → BeginPlainly first records → ((others : List FileRecord) → first_byte (text_of_records (first ∷ others)) ≢ 0xEF) → records_of (text_of_records records) ≡ records
read_back first records so_far unmarked =
    records-read-back records so_far.plain (subst (λ (l : List FileRecord). first_byte (text_of_records l) ≢ 0xEF) (sym so_far.begins) (unmarked so_far.others))

drift_unmarked : (doubles : ℕ) (others : List FileRecord) → first_byte (text_of_records (doubles_record doubles ∷ others)) ≢ 0xEF
drift_unmarked doubles others e =
    let first : first_byte (text_of_records (doubles_record doubles ∷ others)) ≡ 100 = refl in
    absurd (omega (arith, first, e))

script_unmarked : (others : List FileRecord) → first_byte (text_of_records (arbitrary_record 7 ∷ others)) ≢ 0xEF
script_unmarked others e =
    let first : first_byte (text_of_records (arbitrary_record 7 ∷ others)) ≡ 97 = refl in
    absurd (omega (arith, first, e))

-- ---- so there is a drift of them, and a script

record IsMadeDrift (seed doubles : ℕ) (d : DriftView) : Type 0 where
  stands : DriftStandsFor made_values d (drift_of_seed seed doubles).records
  fits : DriftFits made_values d

doubles_told : (doubles : ℕ) (others : List FileRecord) → IsMadeCount doubles → doubles_at (doubles_record doubles ∷ others) ≡ Some doubles
unfolding looked_up
doubles_told doubles others made =
    let most = made.to in
    let proper : IsProperCount doubles = record { from = made.from; to = omega (arith, most) } in
    ap (λ o. or_else (doubles_in o) (doubles_at others)) (says-doubles doubles proper)

some_drift : (seed doubles : ℕ) → IsMadeCount doubles → HasSomeAnswer (drift_file made_values) → DriftIsAccepted → (d : DriftView) × IsMadeDrift seed doubles d
some_drift seed doubles made some accepted = let found = some bytes in by found.0 found.1 found.2
  where
    records : List FileRecord
    records = (drift_of_seed seed doubles).records

    bytes : List ℕ
    bytes = text_of_records records

    so_far : BeginPlainly (doubles_record doubles) records
    so_far = drift_plain seed doubles made

    back : records_of bytes ≡ records
    back = read_back (doubles_record doubles) records so_far (drift_unmarked doubles)

    none : NoneRefused (drift_reason_after made_values) (records_of bytes)
    none = subst (λ (l : List FileRecord). NoneRefused (drift_reason_after made_values) l) (sym back) (accepted seed doubles made)

    by : (answer : Result DriftView DriftFault) → answer ≢ Err drift_fault.NoMemory → Reads (drift_file made_values) bytes answer → (d : DriftView) × IsMadeDrift seed doubles d
    by (Ok d) other reads =
        let stands : DriftStandsFor made_values d records = subst (λ (l : List FileRecord). DriftStandsFor made_values d l) back reads.stands in
        (d, record { stands = stands; fits = record { records = records; none_refused = accepted seed doubles made; stands = stands } })
    by (Err (drift_fault.Row number why)) other reads = absurd (refused-none (drift_reason_after made_values) (records_of bytes) number why reads none)
    by (Err drift_fault.MissingDoubles) other reads =
        absurd (let no = sym reads.missing ∙ ap doubles_at (back ∙ so_far.begins) ∙ doubles_told doubles so_far.others made in cc no)
    by (Err drift_fault.NoMemory) other reads = absurd (other refl)

record IsMadeScript (seed doubles : ℕ) (s : ScriptView) : Type 0 where
  stands : ScriptStandsFor s (script_of_seed seed doubles).records
  sound : IsSoundScript made_values s

some_script : (seed doubles : ℕ) → IsMadeCount doubles → HasSomeAnswer (script_file made_values) → ScriptIsAccepted → (s : ScriptView) × IsMadeScript seed doubles s
some_script seed doubles made some accepted = let found = some bytes in by found.0 found.1 found.2
  where
    records : List FileRecord
    records = (script_of_seed seed doubles).records

    bytes : List ℕ
    bytes = text_of_records records

    back : records_of bytes ≡ records
    back = read_back (arbitrary_record 7) records (script_plain seed doubles made) script_unmarked

    none : NoneRefused (script_reason_after made_values) (records_of bytes)
    none = subst (λ (l : List FileRecord). NoneRefused (script_reason_after made_values) l) (sym back) (accepted seed doubles made)

    by : (answer : Result ScriptView ScriptFault) → answer ≢ Err script_fault.NoMemory → Reads (script_file made_values) bytes answer → (s : ScriptView) × IsMadeScript seed doubles s
    by (Ok s) other reads = (s, record { stands = subst (λ (l : List FileRecord). ScriptStandsFor s l) back reads.stands; sound = sound_script made_values s bytes reads })
    by (Err (script_fault.Row number why)) other reads = absurd (refused-none (script_reason_after made_values) (records_of bytes) number why reads none)
    by (Err script_fault.NoMemory) other reads = absurd (other refl)

-- ---- the cluster is sane

same_number : (n : ParamName) → number_in made_numbers n ≡ figure made_values n
same_number name.gMacroPerCycle = refl
same_number name.pMicroPerCycle = refl
same_number name.gNumberOfStaticSlots = refl
same_number name.gdStaticSlot = refl
same_number name.gdActionPointOffset = refl
same_number name.gdNIT = refl
same_number name.gPayloadLengthStatic = refl
same_number name.gOffsetCorrectionStart = refl
same_number name.gMaxWithoutClockCorrectionPassive = refl
same_number name.gMaxWithoutClockCorrectionFatal = refl
same_number name.pAllowHaltDueToClock = refl
same_number name.pAllowPassiveToActive = refl
same_number name.pClusterDriftDamping = refl
same_number name.pOffsetCorrectionOut = refl
same_number name.pRateCorrectionOut = refl
same_number name.pDelayCompensation = refl
same_number name.pDelayCompensationA = refl
same_number name.pDelayCompensationB = refl
same_number name.xRateBound = refl
same_number name.xChangeBound = refl
same_number name.xDelayError = refl

sane_made : IsSane made_values
sane_made =
    let same : amount_in made_numbers ≡ amount made_values = λ i n. nat_abs (same_number n i) in
    record {
      ranges = λ n. subst (InRange n) (same_number n) (made-accepted.ranged n);
      constraints = subst (λ (f : Amounts). AllHold f (key_slots (nodes_to 8)) (slots_to 16)) same made-accepted.constraints;
      lists = made-accepted.lists;
    }

-- ---- and a report of its run

abbrev pub OneReport : Type 0
OneReport = (seed doubles : ℕ) → IsMadeCount doubles → DefinesOneStatus (make_files seed doubles) 0

pub make_status : ((p : Values) → HasSomeAnswer (drift_file p)) → ((p : Values) → HasSomeAnswer (script_file p)) → DriftIsAccepted → ScriptIsAccepted → IsDefinedText IsRunText run_text → OneReport
make_status drift_some script_some drift_accepted script_accepted defined seed doubles made = record {
  one = one_status (make_files seed doubles) (λ written said is never. never);
  some = some_status (make_files seed doubles) 0 (refl, inl report);
} where
  report : (written : List ℕ) × IsMadeReport seed doubles written
  report =
      let d = some_drift seed doubles made (drift_some made_values) drift_accepted in
      let s = some_script seed doubles made (script_some made_values) script_accepted in (
        run_text made_values d.0 s.0,
        record {
          params = made_values;
          drift = d.0;
          script = s.0;
          made = record { params = refl; drift = d.1.stands; script = s.1.stands; drift_fits = d.1.fits; script_fits = s.1.sound.fits };
          shown = defined made_values d.0 s.0 sane_made d.1.fits s.1.sound.fits s.1.sound.proper;
        },
      )
