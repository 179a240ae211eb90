-- The texts of a seed are accepted as files, and stand for its cluster.
use Rattle.std.proofs.Common.{◌≡◌, ◌≢◌, ℕ, zero, suc, ◌+◌, ◌*◌, ◌/◌, ◌%◌, ◌<◌, ◌≤◌, pos, Bool, true, false, List, [], ◌∷◌, ◌++◌, refl, ap, sym, ◌∙◌, subst, arith}
use Rattle.std.specs.Prelude.{◌==◌, ◌&&◌, ◌||◌, nat_lt, if◌then◌else◌}
use Rattle.std.specs.List.{list_all}
use Rattle.std.proofs.lemmas.Int.{ints}
use Rattle.std.proofs.lemmas.List.Elements.{All-nil, All-push}
use Rattle.std.proofs.lemmas.List.Folds.{list_all-append}
use Rattle.fr_base.specs.Channels.{letter}
use Rattle.fr_base.specs.declared.channel.Channel.{Channel}
use Rattle.fr_base.specs.declared.channel.Channel.TheVariants as channel
use Rattle.fr_cluster.specs.Ranges.{InRange}
use Rattle.fr_cluster.specs.Sane.{IsSane}
use Rattle.fr_cluster.specs.Values.{Values, figure}
use Rattle.fr_cluster.specs.declared.names.ParamName.{ParamName}
use Rattle.fr_cluster.specs.declared.names.ParamName.TheVariants as name
use Rattle.fr_drift.specs.Files.{DriftStandsFor}
use Rattle.fr_drift.specs.Reasons.{drift_reason_after}
use Rattle.fr_drift.specs.Written.{delay_record, doubles_record, length_record, start_record}
use Rattle.fr_params.proofs.UpgradedAccepted.{texts-accepted}
use Rattle.fr_params.specs.Files.{IsParamsFile}
use Rattle.fr_params.specs.Upgrades.{AreOnChannels}
use Rattle.fr_script.specs.Files.{ScriptStandsFor}
use Rattle.fr_script.specs.Reasons.{script_reason_after}
use Rattle.fr_script.specs.Written.{arbitrary_record, say_record}
use Rattle.fr_text.proofs.Plain.{decimal-plain, signed-plain}
use Rattle.fr_text.proofs.RecordLines.{records-read-back}
use Rattle.fr_text.specs.Records.{FileRecord, records_of}
use Rattle.fr_text.specs.Refusal.{NoneRefused}
use Rattle.fr_text.specs.Texts.{first_byte, is_plain_field, is_plain_record, text_of_records}
use Rattle.fr_generator.proofs.MadeCluster.{made-accepted}
use Rattle.fr_generator.proofs.Seeds.{drift_is_accepted, script_is_accepted}
use Rattle.fr_generator.specs.Cluster.{made_values, nodes_to}
use Rattle.fr_generator.specs.Drawn.{Drawn, draw, drawn_from, first_words, in_turn, rest}
use Rattle.fr_generator.specs.Generated.{IsMadeCount, drift_of_seed, script_of_seed}
use Rattle.fr_generator.specs.MadeFiles.{MadeFilesAreAccepted, made_drift_text, made_params_text, made_script_text}
use Rattle.fr_generator.specs.Places.{beside, chance_at, channel_at, link_at}
use Rattle.fr_generator.specs.Steps.{after_chance, after_clock, after_delay, delay_drawn, delay_of_link, length_drawn, said_of_chance, shift_drawn, start_drawn}
use Rattle.rand_pcg.specs.Lcg.{Lcg}

-- ---- the parameters are sane

range : (n : ParamName) → InRange n (figure made_values n)
range name.gMacroPerCycle = (grind (arith, ints), grind (arith, ints))
range other = (grind (arith, ints), grind (arith, ints))

made-sane : IsSane made_values
made-sane =
    let a = made-accepted.constraints in
    record {
      ranges = range;
      constraints = record {
        whole_cycle = a.whole_cycle;
        acts_in_slot = a.acts_in_slot;
        corrects_after = a.corrects_after;
        leaves_microticks = a.leaves_microticks;
        passive_first = a.passive_first;
        sync_nodes = a.sync_nodes;
        own_slots = a.own_slots;
        free_slots = a.free_slots;
      };
      lists = made-accepted.lists;
    }

-- each node is on a channel
nodes-on : (n : ℕ) → AreOnChannels (nodes_to n)
unfolding nodes_to
nodes-on zero = All-nil (λ node. (node.on_a || node.on_b) ≡ true)
nodes-on (suc n) = All-push (λ node. (node.on_a || node.on_b) ≡ true) (nodes_to n) _ (nodes-on n) refl

-- ---- records that are written without quotes, behind a first one

record IsPlainBehind (first : FileRecord) (records : List FileRecord) : Type 0 where
  plain : list_all is_plain_record records ≡ true
  later : List FileRecord
  begins : records ≡ first ∷ later

one-more : (first : FileRecord) (records : List FileRecord) (r : FileRecord) → is_plain_record r ≡ true → IsPlainBehind first records → IsPlainBehind first (records ++ r ∷ [])
one-more first records r own h = record {
  plain = list_all-append is_plain_record records (r ∷ []) ∙ (λ i. h.plain i && (own i && true));
  later = h.later ++ r ∷ [];
  begins = ap (λ (l : List FileRecord). l ++ r ∷ []) h.begins;
}

all-turns : (first : FileRecord) (step : ℕ → Drawn → Drawn) (most : ℕ) → ((place : ℕ) (d : Drawn) → place < most → IsPlainBehind first d.records → IsPlainBehind first (step place d).records)
    → (n : ℕ) → n ≤ most → (start : Drawn) → IsPlainBehind first start.records → IsPlainBehind first (in_turn step n start).records
unfolding in_turn
all-turns first step most each zero le start h = h
all-turns first step most each (suc n) le start h = each n (in_turn step n start) (omega (arith, le)) (all-turns first step most each n (omega (arith, le)) start h)

-- their text has these records
read-back : (first : FileRecord) (records : List FileRecord) → IsPlainBehind first records → ((later : List FileRecord) → first_byte (text_of_records (first ∷ later)) ≢ 0xEF)
    → records_of (text_of_records records) ≡ records
read-back first records h unmarked = records-read-back records h.plain (λ e. unmarked h.later (ap (λ (l : List FileRecord). first_byte (text_of_records l)) (sym h.begins) ∙ e))

letter-plain : (ch : Channel) → is_plain_field (letter ch) ≡ true
letter-plain channel.A = refl
letter-plain channel.B = refl

-- ---- the drift

length-plain : (node : ℕ) (words : Lcg) → node ≤ 8 → is_plain_record (length_record node 0 (length_drawn words)) ≡ true
length-plain node words le =
    rw (decimal-plain node (omega (arith, le)), decimal-plain 0 (omega arith), signed-plain (length_drawn words) (omega (arith, ints)) (omega (arith, ints))) refl

start-plain : (node : ℕ) (words : Lcg) → node ≤ 8 → is_plain_record (start_record node (start_drawn words) (pos 0)) ≡ true
start-plain node words le =
    rw (decimal-plain node (omega (arith, le)), signed-plain (start_drawn words) (omega (arith, ints)) (omega (arith, ints)), signed-plain (pos 0) (omega (arith, ints)) (omega (arith, ints))) refl

delay-plain : (sender receiver : ℕ) (ch : Channel) (words : Lcg) → sender ≤ 100 → receiver ≤ 101 → is_plain_record (delay_record sender receiver ch 0 (delay_drawn words)) ≡ true
delay-plain sender receiver ch words a b =
    rw (
      decimal-plain sender (omega (arith, a)),
      decimal-plain receiver (omega (arith, b)),
      letter-plain ch,
      decimal-plain 0 (omega arith),
      signed-plain (delay_drawn words) (omega (arith, ints)) (omega (arith, ints)),
    )
    refl

beside-low : (node place : ℕ) → place ≤ 100 → beside node place ≤ 101
beside-low node place le = by (nat_lt place node)
  where
    by : (b : Bool) → (if b then place else place + 1) ≤ 101
    by true = omega (arith, le)
    by false = omega (arith, le)

clocks : (first : FileRecord) (place : ℕ) (d : Drawn) → place < 8 → IsPlainBehind first d.records → IsPlainBehind first (after_clock place d).records
clocks first place d lt h =
    one-more first (d.records ++ length_record (place + 1) 0 (length_drawn d.words) ∷ []) (start_record (place + 1) (start_drawn (rest d.words)) (pos 0)) (start-plain (place + 1) (rest d.words) (omega (arith, lt)))
    (one-more first d.records (length_record (place + 1) 0 (length_drawn d.words)) (length-plain (place + 1) d.words (omega (arith, lt))) h)

delays : (first : FileRecord) (place : ℕ) (d : Drawn) → place < 112 → IsPlainBehind first d.records → IsPlainBehind first (after_delay place d).records
delays first place d lt h =
    let low : place % 14 / 2 + 1 ≤ 100 = omega arith in
    one-more first d.records (delay_of_link (link_at place) (delay_drawn d.words))
    (delay-plain (place / 14 + 1) (beside (place / 14 + 1) (place % 14 / 2 + 1)) (channel_at (place % 14)) d.words (omega (arith, lt)) (beside-low (place / 14 + 1) (place % 14 / 2 + 1) low)) h

doubles-plain : (doubles : ℕ) → IsMadeCount doubles → IsPlainBehind (doubles_record doubles) (doubles_record doubles ∷ [])
doubles-plain doubles count =
    let to = count.to in
    record { plain = rw (decimal-plain doubles (omega (arith, to))) refl; later = []; begins = refl }

drift-plain : (seed doubles : ℕ) → IsMadeCount doubles → IsPlainBehind (doubles_record doubles) (drift_of_seed seed doubles).records
drift-plain seed doubles count =
    let first : FileRecord = doubles_record doubles in
    let start : Drawn = drawn_from (first ∷ []) (first_words seed) in
    all-turns first after_delay 112 (delays first) 112 (omega arith) (in_turn after_clock 8 start)
    (all-turns first after_clock 8 (clocks first) 8 (omega arith) start (doubles-plain doubles count))

-- ---- the script

say-plain : (cycle sender receiver : ℕ) (ch : Channel) (words : Lcg) → cycle ≤ 480_000 → sender ≤ 100 → receiver ≤ 100 → is_plain_record (say_record cycle sender receiver ch (shift_drawn words)) ≡ true
say-plain cycle sender receiver ch words a b c =
    rw (
      decimal-plain cycle (omega (arith, a)),
      decimal-plain sender (omega (arith, b)),
      decimal-plain receiver (omega (arith, c)),
      letter-plain ch,
      signed-plain (shift_drawn words) (omega (arith, ints)) (omega (arith, ints)),
    )
    refl

chances : (first : FileRecord) (place : ℕ) (d : Drawn) → place < 480_000 → IsPlainBehind first d.records → IsPlainBehind first (after_chance place d).records
chances first place d lt h = by (draw d.words % 4 == 0)
  where
    by : (b : Bool)
        → let next : Drawn = if b then record { records = d.records; words = rest d.words } else record { records = d.records ++ said_of_chance (chance_at place) (shift_drawn (rest d.words)) ∷ []; words = rest (rest d.words) } in
        IsPlainBehind first next.records
    by true = h
    by false =
        one-more first d.records (said_of_chance (chance_at place) (shift_drawn (rest d.words)))
        (say-plain (place / 24) (place % 24 / 12 + 7) (place % 24 % 12 / 2 + 1) (channel_at (place % 24 % 12)) (rest d.words) (omega (arith, lt)) (omega arith) (omega arith)) h

script-plain : (seed doubles : ℕ) → IsMadeCount doubles → IsPlainBehind (arbitrary_record 7) (script_of_seed seed doubles).records
script-plain seed doubles count =
    let to = count.to in
    let first : FileRecord = arbitrary_record 7 in
    all-turns first after_chance 480_000 (chances first) (48 * doubles) (omega (arith, to)) (drawn_from (first ∷ arbitrary_record 8 ∷ []) (drift_of_seed seed doubles).words)
    (record { plain = rw (decimal-plain 7 (omega arith), decimal-plain 8 (omega arith)) refl; later = arbitrary_record 8 ∷ []; begins = refl })

-- ---- all three

pub made-files-accepted : MadeFilesAreAccepted
made-files-accepted seed doubles made count is =
    let drift_back = read-back (doubles_record doubles) (drift_of_seed seed doubles).records (drift-plain seed doubles count) (λ later e. absurd (omega (arith, e))) in
    let script_back = read-back (arbitrary_record 7) (script_of_seed seed doubles).records (script-plain seed doubles count) (λ later e. absurd (omega (arith, e))) in
    record {
      of_params = subst (λ (p : Values). IsParamsFile p made_params_text) (sym is.params) (texts-accepted made_values made-sane (nodes-on 8));
      of_drift = record {
        none_refused = subst (λ (p : Values). NoneRefused (drift_reason_after p) (records_of (made_drift_text seed doubles))) (sym is.params)
            (subst (λ (l : List FileRecord). NoneRefused (drift_reason_after made_values) l) (sym drift_back) (drift_is_accepted seed doubles count));
        stands = subst (λ (l : List FileRecord). DriftStandsFor made.params made.drift l) (sym drift_back) is.drift;
      };
      of_script = record {
        none_refused = subst (λ (p : Values). NoneRefused (script_reason_after p) (records_of (made_script_text seed doubles))) (sym is.params)
            (subst (λ (l : List FileRecord). NoneRefused (script_reason_after made_values) l) (sym script_back) (script_is_accepted seed doubles count));
        stands = subst (λ (l : List FileRecord). ScriptStandsFor made.script l) (sym script_back) is.script;
      };
    }
