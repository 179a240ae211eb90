-- The records that are drawn for a drift are accepted.
use Rattle.std.proofs.Common.{◌≡◌, ◌<◌, ◌≤◌, ◌+◌, ℕ, zero, suc, pos, Bool, false, List, [], ◌∷◌, ◌++◌, Option, Some, None, Result, Ok, ap, ◌∙◌, refl, arith, add-one, subst}
use Rattle.std.specs.Prelude.{◌==◌, ◌&&◌, ◌/◌, ◌%◌, if◌then◌else◌}
use Rattle.std.proofs.lemmas.Int.{ints}
use Rattle.fr_base.specs.declared.channel.Channel.{Channel}
use Rattle.fr_base.specs.declared.reason.Reason.{Reason}
use Rattle.fr_text.specs.Records.{FileRecord}
use Rattle.fr_text.specs.Fields.{is_channel, looked_up, or_else}
use Rattle.fr_text.specs.Refusal.{NoneRefused}
use Rattle.fr_text.proofs.Cuts.{none-more}
use Rattle.fr_text.proofs.Lookups.{looked_up-more}
use Rattle.fr_drift.specs.Rows.{IsProperCount, IsProperDelay, IsMicrotickLength, IsProperStart, drift_row_of}
use Rattle.fr_drift.specs.Reasons.{delay_at, delay_in, delay_reason, drift_reason_after, drift_row_reason, length_in, length_reason, length_said_at, start_at, start_in, start_reason}
use Rattle.fr_drift.specs.Written.{delay_record, doubles_record, length_record, start_record}
use Rattle.fr_drift.specs.declared.rows.DelayRow.{DelayRow}
use Rattle.fr_drift.specs.declared.rows.LengthRow.{LengthRow}
use Rattle.fr_drift.specs.declared.rows.StartRow.{StartRow}
use Rattle.fr_drift.specs.declared.rows.Row.{Row}
use Rattle.fr_drift.specs.declared.rows.Row.TheVariants as row
use Rattle.fr_drift.proofs.Adding.{even-accepted, says-delay, says-doubles, says-length, says-start}
use Rattle.fr_generator.specs.Cluster.{made_values}
use Rattle.fr_generator.specs.Drawn.{Drawn, drawn_from, in_turn, rest}
use Rattle.fr_generator.specs.Places.{beside, channel_at, link_at}
use Rattle.fr_generator.specs.Generated.{IsMadeCount}
use Rattle.fr_generator.specs.Steps.{after_clock, after_delay, delay_drawn, length_drawn, start_drawn}
use Rattle.fr_generator.proofs.MadeCluster.{both, known}
use Rattle.fr_generator.proofs.Apart.{beside-from, beside-other, beside-to, both-first, both-second, link-same, other, same, untrue}
use Rattle.rand_pcg.specs.Lcg.{Lcg}

-- what no record said and this one does not say
more-none : {A : Type 0} (said : Result Row Reason → Option A) (done : List FileRecord) (r : FileRecord) (x : Result Row Reason) → drift_row_of r ≡ x
    → looked_up (λ q. said (drift_row_of q)) done ≡ None → said x ≡ None → looked_up (λ q. said (drift_row_of q)) (done ++ r ∷ []) ≡ None
more-none said done r x e none quiet = looked_up-more said drift_row_of done r x e ∙ ap (λ (o : Option _). or_else o (said x)) none ∙ quiet

-- the clocks of the first nodes are drawn, and no more
pub record AreClocks (count : ℕ) (records : List FileRecord) : Type 0 where
  pub accepted : NoneRefused (drift_reason_after made_values) records
  pub lengths : (node : ℕ) → count < node → length_said_at node 0 records ≡ None
  pub starts : (node : ℕ) → count < node → start_at node records ≡ None
  pub delays : (s r : ℕ) (ch : Channel) (from : ℕ) → delay_at s r ch from records ≡ None

-- a run may have so many double cycles
runs-so-many : (doubles : ℕ) → IsMadeCount doubles → IsProperCount doubles
runs-so-many doubles made =
    let most = made.to in
    record { from = made.from; to = omega (arith, most) }

clocks-none : (doubles : ℕ) → IsMadeCount doubles → AreClocks 0 (doubles_record doubles ∷ [])
unfolding looked_up
clocks-none doubles made =
    let h : IsProperCount doubles = runs-so-many doubles made in
    record {
      accepted = even-accepted made_values doubles h;
      lengths = λ node above. rw (says-doubles doubles h) refl;
      starts = λ node above. rw (says-doubles doubles h) refl;
      delays = λ s r ch from. rw (says-doubles doubles h) refl;
    }

proper-length : (words : Lcg) → IsMicrotickLength (length_drawn words)
proper-length words = record { from = omega (arith, ints); to = omega (arith, ints) }

proper-start : (words : Lcg) → IsProperStart (record { ticks = start_drawn words; rate = pos 0 })
proper-start words = record { from = omega (arith, ints); to = omega (arith, ints); rate_from = omega (arith, ints); rate_to = omega (arith, ints) }

proper-delay : (words : Lcg) → IsProperDelay (delay_drawn words)
proper-delay words = record { from = omega (arith, ints); to = omega (arith, ints) }

pub clock-more : (place : ℕ) (records : List FileRecord) (words : Lcg) → place < 8 → AreClocks place records → AreClocks (place + 1) (after_clock place (drawn_from records words)).records
clock-more place records words room h = record {
  accepted = none-more (drift_reason_after made_values) mid second accepted (ap (λ (x : Result Row Reason). drift_row_reason made_values mid x) says_start ∙ fine_start);
  lengths = λ other_node above. more-none (length_in other_node 0) mid second _ says_start (lengths other_node above) refl;
  starts = λ other_node above. more-none (start_in other_node) mid second _ says_start (starts other_node above) (quiet_start other_node above);
  delays = λ s r ch from. more-none (delay_in s r ch from) mid second _ says_start (more-none (delay_in s r ch from) records first _ says_length (h.delays s r ch from) refl) refl;
}
  where
    node : ℕ
    node = place + 1

    l : LengthRow
    l = record { node = place + 1; from = 0; ticks = length_drawn words }

    s : StartRow
    s = record { node = place + 1; start = record { ticks = start_drawn (rest words); rate = pos 0 } }

    first : FileRecord
    first = length_record (place + 1) 0 (length_drawn words)

    second : FileRecord
    second = start_record (place + 1) (start_drawn (rest words)) (pos 0)

    mid : List FileRecord
    mid = records ++ length_record (place + 1) 0 (length_drawn words) ∷ []

    says_length : drift_row_of (length_record (place + 1) 0 (length_drawn words)) ≡ Ok (row.Length (record { node = place + 1; from = 0; ticks = length_drawn words }))
    says_length = says-length (place + 1) 0 (length_drawn words) (omega arith) (omega arith) (omega arith) (proper-length words)

    says_start : drift_row_of (start_record (place + 1) (start_drawn (rest words)) (pos 0)) ≡ Ok (row.Start (record { node = place + 1; start = record { ticks = start_drawn (rest words); rate = pos 0 } }))
    says_start = says-start (place + 1) (record { ticks = start_drawn (rest words); rate = pos 0 }) (omega arith) (omega arith) (proper-start (rest words))

    fine_length : length_reason made_values records (record { node = place + 1; from = 0; ticks = length_drawn words }) ≡ None
    fine_length = rw (known (place + 1) (omega arith) (omega arith), h.lengths (place + 1) (omega arith)) refl

    accepted : NoneRefused (drift_reason_after made_values) (records ++ length_record (place + 1) 0 (length_drawn words) ∷ [])
    accepted = none-more (drift_reason_after made_values) records first h.accepted (ap (λ (x : Result Row Reason). drift_row_reason made_values records x) says_length ∙ fine_length)

    starts : (n : ℕ) → place + 1 < n → start_at n (records ++ length_record (place + 1) 0 (length_drawn words) ∷ []) ≡ None
    starts n above = more-none (start_in n) records first _ says_length (h.starts n (omega arith)) refl

    own : start_at (place + 1) (records ++ length_record (place + 1) 0 (length_drawn words) ∷ []) ≡ None
    own = more-none (start_in (place + 1)) records first _ says_length (h.starts (place + 1) (omega arith)) refl

    fine_start : start_reason made_values (records ++ length_record (place + 1) 0 (length_drawn words) ∷ []) (record { node = place + 1; start = record { ticks = start_drawn (rest words); rate = pos 0 } }) ≡ None
    fine_start = rw (known (place + 1) (omega arith) (omega arith), own) refl

    quiet_length : (n : ℕ) → place + 1 < n → length_in n 0 (Ok (row.Length (record { node = place + 1; from = 0; ticks = length_drawn words }))) ≡ None
    quiet_length n above = rw (other (place + 1) n (λ is. absurd (omega (arith, is)))) refl

    lengths : (n : ℕ) → place + 1 < n → length_said_at n 0 (records ++ length_record (place + 1) 0 (length_drawn words) ∷ []) ≡ None
    lengths n above = more-none (length_in n 0) records first _ says_length (h.lengths n (omega arith)) (quiet_length n above)

    quiet_start : (n : ℕ) → place + 1 < n → start_in n (Ok (row.Start (record { node = place + 1; start = record { ticks = start_drawn (rest words); rate = pos 0 } }))) ≡ None
    quiet_start n above = rw (other (place + 1) n (λ is. absurd (omega (arith, is)))) refl

-- the clocks of the first nodes, in turn
pub clocks-to : (doubles : ℕ) (words : Lcg) → IsMadeCount doubles → (count : ℕ) → count ≤ 8 → AreClocks count (in_turn after_clock count (drawn_from (doubles_record doubles ∷ []) words)).records
unfolding in_turn
clocks-to doubles words h zero few = clocks-none doubles h
clocks-to doubles words h (suc count) few =
    let before = in_turn after_clock count (drawn_from (doubles_record doubles ∷ []) words) in
    let P : ℕ → Type 0 = λ k. AreClocks k (after_clock count before).records in
    subst P (add-one count) (clock-more count before.records before.words (omega arith) (clocks-to doubles words h count (omega arith)))

-- the delays of the first links are drawn, and no more
pub record AreDelays (count : ℕ) (records : List FileRecord) : Type 0 where
  pub accepted : NoneRefused (drift_reason_after made_values) records
  pub free : (place : ℕ) → count ≤ place → delay_at (link_at place).sender (link_at place).receiver (link_at place).channel 0 records ≡ None

delays-none : (records : List FileRecord) → AreClocks 8 records → AreDelays 0 records
delays-none records h = record { accepted = h.accepted; free = λ place above. h.delays (link_at place).sender (link_at place).receiver (link_at place).channel 0 }

pub delay-more : (place : ℕ) (records : List FileRecord) (words : Lcg) → place < 112 → AreDelays place records → AreDelays (place + 1) (after_delay place (drawn_from records words)).records
delay-more place records words room h = record {
  accepted = none-more (drift_reason_after made_values) records r h.accepted (ap (λ (x : Result Row Reason). drift_row_reason made_values records x) says ∙ fine);
  free = λ later above. more-none (delay_in (link_at later).sender (link_at later).receiver (link_at later).channel 0) records r _ says (h.free later (omega arith)) (quiet later above);
}
  where
    sender : ℕ
    sender = place / 14 + 1

    receiver : ℕ
    receiver = beside (place / 14 + 1) (place % 14 / 2 + 1)

    d : DelayRow
    d = record { sender = place / 14 + 1; receiver = beside (place / 14 + 1) (place % 14 / 2 + 1); channel = Some (channel_at (place % 14)); from = 0; ticks = delay_drawn words }

    r : FileRecord
    r = delay_record (place / 14 + 1) (beside (place / 14 + 1) (place % 14 / 2 + 1)) (channel_at (place % 14)) 0 (delay_drawn words)

    low : 1 ≤ place / 14 + 1
    low = omega arith

    high : place / 14 + 1 ≤ 8
    high = omega arith

    from : 1 ≤ beside (place / 14 + 1) (place % 14 / 2 + 1)
    from = beside-from (place / 14 + 1) (place % 14 / 2 + 1) (omega arith)

    to : beside (place / 14 + 1) (place % 14 / 2 + 1) ≤ 8
    to = beside-to (place / 14 + 1) (place % 14 / 2 + 1) (omega arith)

    says : drift_row_of (delay_record (place / 14 + 1) (beside (place / 14 + 1) (place % 14 / 2 + 1)) (channel_at (place % 14)) 0 (delay_drawn words))
        ≡ Ok (row.Delay (record { sender = place / 14 + 1; receiver = beside (place / 14 + 1) (place % 14 / 2 + 1); channel = Some (channel_at (place % 14)); from = 0; ticks = delay_drawn words }))
    says = says-delay (place / 14 + 1) (beside (place / 14 + 1) (place % 14 / 2 + 1)) (channel_at (place % 14)) 0 (delay_drawn words) low (omega (arith, high)) from (omega (arith, to)) (omega arith) (proper-delay words)

    apart : (place / 14 + 1 == beside (place / 14 + 1) (place % 14 / 2 + 1)) ≡ false
    apart = other (place / 14 + 1) (beside (place / 14 + 1) (place % 14 / 2 + 1)) (beside-other (place / 14 + 1) (place % 14 / 2 + 1))

    fine : delay_reason made_values records (record { sender = place / 14 + 1; receiver = beside (place / 14 + 1) (place % 14 / 2 + 1); channel = Some (channel_at (place % 14)); from = 0; ticks = delay_drawn words }) ≡ None
    fine = by (place / 14 + 1) (beside (place / 14 + 1) (place % 14 / 2 + 1)) (channel_at (place % 14)) low high from to apart (h.free place (omega arith))
      where
        by : (a b : ℕ) (ch : Channel) → 1 ≤ a → a ≤ 8 → 1 ≤ b → b ≤ 8 → (a == b) ≡ false → delay_at a b ch 0 records ≡ None
            → delay_reason made_values records (record { sender = a; receiver = b; channel = Some ch; from = 0; ticks = delay_drawn words }) ≡ None
        by a b ch la ha lb hb differ free = rw (both a b ch la ha lb hb, known a la ha, known b lb hb, differ, free) refl

    quiet : (later : ℕ) → place + 1 ≤ later
        → delay_in (link_at later).sender (link_at later).receiver (link_at later).channel 0
        (Ok (row.Delay (record { sender = place / 14 + 1; receiver = beside (place / 14 + 1) (place % 14 / 2 + 1); channel = Some (channel_at (place % 14)); from = 0; ticks = delay_drawn words })))
        ≡ None
    quiet later above =
        let test : Bool = is_channel (link_at later).channel (Some (channel_at (place % 14)))
        && ((place / 14 + 1 == later / 14 + 1) && ((beside (place / 14 + 1) (place % 14 / 2 + 1) == beside (later / 14 + 1) (later % 14 / 2 + 1)) && (0 == 0))) in
        let no : test ≡ false = untrue test (λ yes.
        let on = both-first (is_channel (link_at later).channel (Some (channel_at (place % 14)))) _ yes in
        let parts = both-second (is_channel (link_at later).channel (Some (channel_at (place % 14)))) _ yes in
        let senders = same (place / 14 + 1) (later / 14 + 1) (both-first (place / 14 + 1 == later / 14 + 1) _ parts) in
        let receivers = same (beside (place / 14 + 1) (place % 14 / 2 + 1)) (beside (later / 14 + 1) (later % 14 / 2 + 1))
        (both-first (beside (place / 14 + 1) (place % 14 / 2 + 1) == beside (later / 14 + 1) (later % 14 / 2 + 1)) _ (both-second (place / 14 + 1 == later / 14 + 1) _ parts)) in
        let is : place ≡ later = link-same place later senders receivers on in
        absurd (omega arith)) in
        ap (λ (b : Bool). if b then Some (delay_drawn words) else None) no

-- the delays of the first links, in turn
pub delays-to : (start : Drawn) → AreClocks 8 start.records → (count : ℕ) → count ≤ 112 → AreDelays count (in_turn after_delay count start).records
unfolding in_turn
delays-to start h zero few = delays-none start.records h
delays-to start h (suc count) few =
    let before = in_turn after_delay count start in
    let P : ℕ → Type 0 = λ k. AreDelays k (after_delay count before).records in
    subst P (add-one count) (delay-more count before.records before.words (omega arith) (delays-to start h count (omega arith)))
