-- The breach that is found is the first.
use Rattle.std.proofs.Common.{◌≡◌, ◌≢◌, ℕ, zero, suc, ◌+◌, ◌/◌, ◌<◌, ◌==◌, ℤ, ◌<ℤ◌, Bool, true, false, not, ◌&&◌, ◌||◌, List, [], ◌∷◌, length, Option, Some, None, refl, ap, sym, ◌∙◌, subst, ◌⊎◌, inl, inr, arith}
use Rattle.std.specs.Prelude.{int_lt, if◌then◌else◌}
use Rattle.std.specs.Option.{option_map, option_or}
use Rattle.std.proofs.lemmas.Bool.{and_parts, cases_eq, or_cases}
use Rattle.std.proofs.lemmas.Int.{ints}
use Rattle.fr_base.specs.declared.dev.Dev.{Dev}
use Rattle.fr_base.specs.declared.node_row.NodeRow.{NodeRow}
use Rattle.fr_base.specs.declared.state.State.{State}
use Rattle.fr_base.specs.declared.state.State.TheVariants.{Active, Halt, Passive}
use Rattle.fr_cluster.specs.Values.{Values}
use Rattle.fr_time.specs.Cycles.{is_odd}
use Rattle.fr_history.specs.History.{History, Record, row_of}
use Rattle.fr_history.specs.Rows.{offset_after}
use Rattle.fr_history.specs.Sync.{is_sync_at}
use Rattle.fr_history.specs.Terms.{status_in}
use Rattle.fr_coverage.specs.First.{first_below}
use Rattle.fr_trace.specs.Items.{Item, first_number, item_in, items_in}
use Rattle.fr_trace.specs.Items.Item.{Clock, Heard}
use Rattle.fr_trace.specs.Trace.{TraceView}
use Rattle.fr_verdict.specs.Breach.{Breaks, ComesBefore, IsApartDev, IsApartRow, IsBreach, IsDeviationOutside, IsWrongOffset, IsWrongRate, IsWrongStart, IsWrongTurn, OneFirstBreach, high_of, is_first_row, low_of, rank_in, record_of_breach, sender_is_away, sender_row, silent_in, traced_rate, traced_start}
use Rattle.fr_verdict.specs.Search.{FirstBreachIsFound, FoundBreachIsFirst, NoneFoundIsLawful, apart_dev, apart_row, breach_at, breach_by, first_breach_of, first_from, is_apart, is_same_number, outside_by, state_number, unless, whenever}
use Rattle.fr_verdict.specs.Sync.{first_synced_of, is_early}
use Rattle.fr_verdict.specs.declared.unlawful.Unlawful.{Unlawful}
use Rattle.fr_verdict.specs.declared.unlawful.Unlawful.TheVariants as unlawful
use Rattle.fr_verdict.proofs.Syncing.{behind_early, early_not, not_in_sync, not_sync}

-- ---- tests

not_same : (a b : ℤ) → is_same_number a b ≡ false → a ≢ b
not_same a b e same = grind (arith, ints)

differs_by : (a b : ℤ) → a ≢ b → is_same_number a b ≡ false
differs_by a b ne = grind (arith, ints)

other_states : (a b : State) → (state_number a == state_number b) ≡ false → a ≢ b
other_states Active Active e same = cc e
other_states Active Passive e same = cc same
other_states Active Halt e same = cc same
other_states Passive Active e same = cc same
other_states Passive Passive e same = cc e
other_states Passive Halt e same = cc same
other_states Halt Active e same = cc same
other_states Halt Passive e same = cc same
other_states Halt Halt e same = cc e

states_differ : (a b : State) → a ≢ b → (state_number a == state_number b) ≡ false
states_differ Active Active ne = absurd (ne refl)
states_differ Active Passive ne = refl
states_differ Active Halt ne = refl
states_differ Passive Active ne = refl
states_differ Passive Passive ne = absurd (ne refl)
states_differ Passive Halt ne = refl
states_differ Halt Active ne = refl
states_differ Halt Passive ne = refl
states_differ Halt Halt ne = absurd (ne refl)

lies_outside : (value low high : ℤ) → (int_lt value low || int_lt high value) ≡ true → (value <ℤ low) ⊎ (high <ℤ value)
lies_outside value low high e = elim (or_cases (int_lt value low) (int_lt high value) e) [
  | inl below ↦ inl (less value low below)
  | inr above ↦ inr (less high value above)
] where
  less : (a b : ℤ) → int_lt a b ≡ true → a <ℤ b
  less a b told = grind (arith, ints)

outside_lies : (value low high : ℤ) → (value <ℤ low) ⊎ (high <ℤ value) → (int_lt value low || int_lt high value) ≡ true
outside_lies value low high (inl below) = let e : int_lt value low ≡ true = grind (arith, ints) in rw e refl
outside_lies value low high (inr above) = by_low (int_lt value low) (grind (arith, ints))
  where
    by_low : (b : Bool) → int_lt high value ≡ true → (b || int_lt high value) ≡ true
    by_low true e = refl
    by_low false e = e

-- an answer where a test failed
told_unless : (test : Bool) (u v : Unlawful) → unless test u ≡ Some v → (test ≡ false) × (u ≡ v)
told_unless true u v e = cc e
told_unless false u v e = (refl, cc e)

unless_told : (test : Bool) (u : Unlawful) → test ≡ false → unless test u ≡ Some u
unless_told test u e = rw e refl

-- ---- what the relation says of one item, the function finds at the rank

start_found : (p : Values) (n : ℕ) (h : History) (row : NodeRow) (kept wanted : ℤ) → IsWrongStart p h row kept wanted
    → unless (is_same_number row.start (traced_start p h row)) (unlawful.Start n row.start (traced_start p h row)) ≡ Some (unlawful.Start n kept wanted)
start_found p n h row kept wanted w =
    let a = w.is_kept in
    let b = w.is_wanted in
    let differ : row.start ≢ traced_start p h row = λ same. w.differs (a ∙ same ∙ sym b) in
    unless_told (is_same_number row.start (traced_start p h row)) (unlawful.Start n row.start (traced_start p h row)) (differs_by row.start (traced_start p h row) differ)
    ∙ told row.start (traced_start p h row) a b
  where
    told : (x y : ℤ) → kept ≡ x → wanted ≡ y → ◌≡◌ {A = Option Unlawful} (Some (unlawful.Start n x y)) (Some (unlawful.Start n kept wanted))
    told x y a b = cc

rate_found : (p : Values) (n : ℕ) (h : History) (row : NodeRow) (kept wanted : ℤ) → IsWrongRate p h row kept wanted
    → unless (is_same_number row.rate (traced_rate p h row)) (unlawful.Rate n row.rate (traced_rate p h row)) ≡ Some (unlawful.Rate n kept wanted)
rate_found p n h row kept wanted w =
    let a = w.is_kept in
    let b = w.is_wanted in
    let differ : row.rate ≢ traced_rate p h row = λ same. w.differs (a ∙ same ∙ sym b) in
    unless_told (is_same_number row.rate (traced_rate p h row)) (unlawful.Rate n row.rate (traced_rate p h row)) (differs_by row.rate (traced_rate p h row) differ)
    ∙ told row.rate (traced_rate p h row) a b
  where
    told : (x y : ℤ) → kept ≡ x → wanted ≡ y → ◌≡◌ {A = Option Unlawful} (Some (unlawful.Rate n x y)) (Some (unlawful.Rate n kept wanted))
    told x y a b = cc

turn_found : (p : Values) (n : ℕ) (h : History) (row : NodeRow) (kept wanted : State) → IsWrongTurn p h row kept wanted
    → unless (state_number row.state == state_number (status_in p h row.node).state) (unlawful.Turn n row.state (status_in p h row.node).state) ≡ Some (unlawful.Turn n kept wanted)
turn_found p n h row kept wanted w =
    let a = w.is_kept in
    let b = w.is_wanted in
    let differ : row.state ≢ (status_in p h row.node).state = λ same. w.differs (a ∙ same ∙ sym b) in
    unless_told (state_number row.state == state_number (status_in p h row.node).state) (unlawful.Turn n row.state (status_in p h row.node).state) (states_differ row.state (status_in p h row.node).state differ)
    ∙ told row.state (status_in p h row.node).state a b
  where
    told : (x y : State) → kept ≡ x → wanted ≡ y → ◌≡◌ {A = Option Unlawful} (Some (unlawful.Turn n x y)) (Some (unlawful.Turn n kept wanted))
    told x y a b = cc

offset_found : (p : Values) (n : ℕ) (h : History) (r : Record) (row : NodeRow) (kept wanted : ℤ) → IsWrongOffset p h r row kept wanted
    → unless (is_same_number row.offset (offset_after p h r row)) (unlawful.Offset n row.offset (offset_after p h r row)) ≡ Some (unlawful.Offset n kept wanted)
offset_found p n h r row kept wanted w =
    let a = w.is_kept in
    let b = w.is_wanted in
    let differ : row.offset ≢ offset_after p h r row = λ same. w.differs (a ∙ same ∙ sym b) in
    unless_told (is_same_number row.offset (offset_after p h r row)) (unlawful.Offset n row.offset (offset_after p h r row)) (differs_by row.offset (offset_after p h r row) differ)
    ∙ told row.offset (offset_after p h r row) a b
  where
    told : (x y : ℤ) → kept ≡ x → wanted ≡ y → ◌≡◌ {A = Option Unlawful} (Some (unlawful.Offset n x y)) (Some (unlawful.Offset n kept wanted))
    told x y a b = cc

outside_found : (p : Values) (n : ℕ) (h : History) (r : Record) (dev : Dev) (kept low high : ℤ) → IsDeviationOutside p h r dev kept low high
    → outside_by p n (is_odd (length h)) dev (sender_row p r dev.slot) (row_of r.rows dev.receiver) ≡ Some (unlawful.Deviation n kept low high)
outside_found p n h r dev kept low high w =
    rw (w.sends, w.hears) (by_test kept low high w.is_kept w.is_low w.is_high w.outside)
  where
    by_test : (kept low high : ℤ) → kept ≡ dev.value → low ≡ low_of p (is_odd (length h)) dev.slot w.sender w.receiver → high ≡ high_of p (is_odd (length h)) dev.slot w.sender w.receiver → (kept <ℤ low) ⊎ (high <ℤ kept)
        → outside_by p n (is_odd (length h)) dev (Some w.sender) (Some w.receiver) ≡ Some (unlawful.Deviation n kept low high)
    by_test kept low high a b c out =
        let e : (int_lt dev.value (low_of p (is_odd (length h)) dev.slot w.sender w.receiver) || int_lt (high_of p (is_odd (length h)) dev.slot w.sender w.receiver) dev.value) ≡ true =
        outside_lies dev.value (low_of p (is_odd (length h)) dev.slot w.sender w.receiver) (high_of p (is_odd (length h)) dev.slot w.sender w.receiver)
        (subst (λ (v : ℤ). (v <ℤ low_of p (is_odd (length h)) dev.slot w.sender w.receiver) ⊎ (high_of p (is_odd (length h)) dev.slot w.sender w.receiver <ℤ v)) a
        (subst (λ (v : ℤ). (kept <ℤ v) ⊎ (high_of p (is_odd (length h)) dev.slot w.sender w.receiver <ℤ kept)) b
        (subst (λ (v : ℤ). (kept <ℤ low) ⊎ (v <ℤ kept)) c out))) in
        rw e (told dev.value (low_of p (is_odd (length h)) dev.slot w.sender w.receiver) (high_of p (is_odd (length h)) dev.slot w.sender w.receiver) a b c)
      where
        told : (x y z : ℤ) → kept ≡ x → low ≡ y → high ≡ z → ◌≡◌ {A = Option Unlawful} (Some (unlawful.Deviation n x y z)) (Some (unlawful.Deviation n kept low high))
        told x y z a b c = cc

-- an answer where a test passed
told_whenever : (test : Bool) (u v : Unlawful) → whenever test u ≡ Some v → (test ≡ true) × (u ≡ v)
told_whenever true u v e = (refl, cc e)
told_whenever false u v e = cc e

whenever_told : (test : Bool) (u : Unlawful) → test ≡ true → whenever test u ≡ Some u
whenever_told test u e = rw e refl

all_true : (a b : Bool) → a ≡ true → b ≡ true → (a && b) ≡ true
all_true a b e f = rw (e, f) refl

is_not : (b : Bool) → b ≡ false → not b ≡ true
is_not b e = rw e refl

apart_row_found : (p : Values) (t : TraceView) (n : ℕ) (h : History) (row : NodeRow) (double : ℕ) → IsApartRow p t h row double → apart_row p t n h row ≡ Some (unlawful.Apart n double)
apart_row_found p t n h row double w =
    let early : is_early (first_synced_of p t) double ≡ false = early_not p t double w.synced w.first w.from in
    let sync : is_sync_at p t.history double ≡ false = not_sync p t.history double w.apart in
    let test : (is_first_row h row && is_apart p t double) ≡ true =
    all_true (is_first_row h row) (is_apart p t double) w.first_row
    (all_true (not (is_early (first_synced_of p t) double)) (not (is_sync_at p t.history double)) (is_not (is_early (first_synced_of p t) double) early) (is_not (is_sync_at p t.history double) sync)) in
    subst (λ (k : ℕ). whenever (is_first_row h row && is_apart p t k) (unlawful.Apart n k) ≡ Some (unlawful.Apart n double)) w.told
    (whenever_told (is_first_row h row && is_apart p t double) (unlawful.Apart n double) test)

apart_dev_found : (p : Values) (t : TraceView) (n : ℕ) (h : History) (r : Record) (dev : Dev) (double : ℕ) → IsApartDev p t h r dev double → apart_dev p t n h r dev ≡ Some (unlawful.Apart n double)
apart_dev_found p t n h r dev double w =
    subst (λ (k : ℕ). whenever (sender_is_away p t r dev.slot) (unlawful.Apart n k) ≡ Some (unlawful.Apart n double)) w.told
    (whenever_told (sender_is_away p t r dev.slot) (unlawful.Apart n double) w.away)

breaks_found : (p : Values) (t : TraceView) (item : Item) (u : Unlawful) → Breaks p t item u → breach_by p t (record_of_breach u) item (rank_in u) ≡ Some u
unfolding breach_by
breaks_found p t (Clock h r row) (unlawful.Start number kept wanted) w = start_found p number h row kept wanted w
breaks_found p t (Heard h r dev) (unlawful.Start number kept wanted) w = absurd w
breaks_found p t (Clock h r row) (unlawful.Rate number kept wanted) w = rate_found p number h row kept wanted w
breaks_found p t (Heard h r dev) (unlawful.Rate number kept wanted) w = absurd w
breaks_found p t (Clock h r row) (unlawful.Turn number kept wanted) w = turn_found p number h row kept wanted w
breaks_found p t (Heard h r dev) (unlawful.Turn number kept wanted) w = absurd w
breaks_found p t (Clock h r row) (unlawful.Offset number kept wanted) w = offset_found p number h r row kept wanted w
breaks_found p t (Heard h r dev) (unlawful.Offset number kept wanted) w = absurd w
breaks_found p t (Clock h r row) (unlawful.Silent number state) w = absurd w
breaks_found p t (Heard h r dev) (unlawful.Silent number state) w = ap (option_map (unlawful.Silent number)) w
breaks_found p t (Clock h r row) (unlawful.Deviation number kept low high) w = absurd w
breaks_found p t (Heard h r dev) (unlawful.Deviation number kept low high) w = outside_found p number h r dev kept low high w
breaks_found p t (Clock h r row) (unlawful.Apart number double) w = apart_row_found p t number h row double w
breaks_found p t (Heard h r dev) (unlawful.Apart number double) w = apart_dev_found p t number h r dev double w
breaks_found p t item (unlawful.Uncovered gap) w = absurd w

-- ---- what the function finds at a rank, the relation says

abbrev IsFound : Values → TraceView → ℕ → Item → ℕ → Unlawful → Type 0
IsFound p t n item rank u = Breaks p t item u × (record_of_breach u ≡ n) × (rank_in u ≡ rank)

start_breaks : (p : Values) (t : TraceView) (n : ℕ) (h : History) (r : Record) (row : NodeRow) (u : Unlawful)
    → unless (is_same_number row.start (traced_start p h row)) (unlawful.Start n row.start (traced_start p h row)) ≡ Some u → IsFound p t n (Clock h r row) 0 u
start_breaks p t n h r row u e =
    let told : (is_same_number row.start (traced_start p h row) ≡ false) × (unlawful.Start n row.start (traced_start p h row) ≡ u) =
    told_unless (is_same_number row.start (traced_start p h row)) (unlawful.Start n row.start (traced_start p h row)) u e in
    subst (λ (v : Unlawful). IsFound p t n (Clock h r row) 0 v) told.1
    (record { is_kept = refl; is_wanted = refl; differs = not_same row.start (traced_start p h row) told.0 }, refl, refl)

rate_breaks : (p : Values) (t : TraceView) (n : ℕ) (h : History) (r : Record) (row : NodeRow) (u : Unlawful)
    → unless (is_same_number row.rate (traced_rate p h row)) (unlawful.Rate n row.rate (traced_rate p h row)) ≡ Some u → IsFound p t n (Clock h r row) 1 u
rate_breaks p t n h r row u e =
    let told : (is_same_number row.rate (traced_rate p h row) ≡ false) × (unlawful.Rate n row.rate (traced_rate p h row) ≡ u) =
    told_unless (is_same_number row.rate (traced_rate p h row)) (unlawful.Rate n row.rate (traced_rate p h row)) u e in
    subst (λ (v : Unlawful). IsFound p t n (Clock h r row) 1 v) told.1
    (record { is_kept = refl; is_wanted = refl; differs = not_same row.rate (traced_rate p h row) told.0 }, refl, refl)

turn_breaks : (p : Values) (t : TraceView) (n : ℕ) (h : History) (r : Record) (row : NodeRow) (u : Unlawful)
    → unless (state_number row.state == state_number (status_in p h row.node).state) (unlawful.Turn n row.state (status_in p h row.node).state) ≡ Some u → IsFound p t n (Clock h r row) 2 u
turn_breaks p t n h r row u e =
    let told : ((state_number row.state == state_number (status_in p h row.node).state) ≡ false) × (unlawful.Turn n row.state (status_in p h row.node).state ≡ u) =
    told_unless (state_number row.state == state_number (status_in p h row.node).state) (unlawful.Turn n row.state (status_in p h row.node).state) u e in
    subst (λ (v : Unlawful). IsFound p t n (Clock h r row) 2 v) told.1
    (record { is_kept = refl; is_wanted = refl; differs = other_states row.state (status_in p h row.node).state told.0 }, refl, refl)

offset_breaks : (p : Values) (t : TraceView) (n : ℕ) (h : History) (r : Record) (row : NodeRow) (u : Unlawful)
    → unless (is_same_number row.offset (offset_after p h r row)) (unlawful.Offset n row.offset (offset_after p h r row)) ≡ Some u → IsFound p t n (Clock h r row) 3 u
offset_breaks p t n h r row u e =
    let told : (is_same_number row.offset (offset_after p h r row) ≡ false) × (unlawful.Offset n row.offset (offset_after p h r row) ≡ u) =
    told_unless (is_same_number row.offset (offset_after p h r row)) (unlawful.Offset n row.offset (offset_after p h r row)) u e in
    subst (λ (v : Unlawful). IsFound p t n (Clock h r row) 3 v) told.1
    (record { is_kept = refl; is_wanted = refl; differs = not_same row.offset (offset_after p h r row) told.0 }, refl, refl)

silent_breaks : (p : Values) (t : TraceView) (n : ℕ) (h : History) (r : Record) (dev : Dev) (u : Unlawful)
    → option_map (unlawful.Silent n) (silent_in p t r dev) ≡ Some u → IsFound p t n (Heard h r dev) 4 u
silent_breaks p t n h r dev u e = by_state (silent_in p t r dev) refl e
  where
    by_state : (o : Option State) → silent_in p t r dev ≡ o → option_map (unlawful.Silent n) o ≡ Some u → IsFound p t n (Heard h r dev) 4 u
    by_state None is e = cc e
    by_state (Some state) is e = let same : unlawful.Silent n state ≡ u = cc e in subst (λ (v : Unlawful). IsFound p t n (Heard h r dev) 4 v) same (is, refl, refl)

outside_breaks : (p : Values) (t : TraceView) (n : ℕ) (h : History) (r : Record) (dev : Dev) (u : Unlawful)
    → outside_by p n (is_odd (length h)) dev (sender_row p r dev.slot) (row_of r.rows dev.receiver) ≡ Some u → IsFound p t n (Heard h r dev) 5 u
outside_breaks p t n h r dev u e = by_rows (sender_row p r dev.slot) (row_of r.rows dev.receiver) refl refl e
  where
    by_rows : (s o : Option NodeRow) → sender_row p r dev.slot ≡ s → row_of r.rows dev.receiver ≡ o → outside_by p n (is_odd (length h)) dev s o ≡ Some u → IsFound p t n (Heard h r dev) 5 u
    by_rows None o sends hears e = cc e
    by_rows (Some sender) None sends hears e = cc e
    by_rows (Some sender) (Some receiver) sends hears e =
        by_test (int_lt dev.value (low_of p (is_odd (length h)) dev.slot sender receiver) || int_lt (high_of p (is_odd (length h)) dev.slot sender receiver) dev.value) refl e
      where
        by_test : (b : Bool)
            → (int_lt dev.value (low_of p (is_odd (length h)) dev.slot sender receiver) || int_lt (high_of p (is_odd (length h)) dev.slot sender receiver) dev.value) ≡ b
            → (if b then Some (unlawful.Deviation n dev.value (low_of p (is_odd (length h)) dev.slot sender receiver) (high_of p (is_odd (length h)) dev.slot sender receiver)) else None) ≡ Some u
            → IsFound p t n (Heard h r dev) 5 u
        by_test false is e = cc e
        by_test true is e =
            let same : unlawful.Deviation n dev.value (low_of p (is_odd (length h)) dev.slot sender receiver) (high_of p (is_odd (length h)) dev.slot sender receiver) ≡ u = cc e in
            subst (λ (v : Unlawful). IsFound p t n (Heard h r dev) 5 v) same (
              record {
                sender = sender;
                receiver = receiver;
                sends = sends;
                hears = hears;
                is_kept = refl;
                is_low = refl;
                is_high = refl;
                outside = lies_outside dev.value (low_of p (is_odd (length h)) dev.slot sender receiver) (high_of p (is_odd (length h)) dev.slot sender receiver) is;
              },
              refl,
              refl,
            )

apart_row_breaks : (p : Values) (t : TraceView) (n : ℕ) (h : History) (r : Record) (row : NodeRow) (u : Unlawful) → apart_row p t n h row ≡ Some u → IsFound p t n (Clock h r row) 6 u
apart_row_breaks p t n h r row u e =
    let double : ℕ = length h / 2 in
    let told : ((is_first_row h row && is_apart p t (length h / 2)) ≡ true) × (unlawful.Apart n (length h / 2) ≡ u) =
    told_whenever (is_first_row h row && is_apart p t (length h / 2)) (unlawful.Apart n (length h / 2)) u e in
    let parts : (is_first_row h row ≡ true) × (is_apart p t (length h / 2) ≡ true) = and_parts (is_first_row h row) (is_apart p t (length h / 2)) told.0 in
    let both : (not (is_early (first_synced_of p t) (length h / 2)) ≡ true) × (not (is_sync_at p t.history (length h / 2)) ≡ true) =
    and_parts (not (is_early (first_synced_of p t) (length h / 2))) (not (is_sync_at p t.history (length h / 2))) parts.1 in
    let behind = behind_early p t (length h / 2) (by_not (is_early (first_synced_of p t) (length h / 2)) both.0) in
    subst (λ (v : Unlawful). IsFound p t n (Clock h r row) 6 v) told.1 (
      record {
        first_row = parts.0;
        synced = behind.synced;
        first = behind.first;
        from = behind.from;
        apart = not_in_sync p t.history (length h / 2) (by_not (is_sync_at p t.history (length h / 2)) both.1);
        told = refl;
      },
      refl,
      refl,
    )
  where
    by_not : (b : Bool) → not b ≡ true → b ≡ false
    by_not true e = cc e
    by_not false e = refl

apart_dev_breaks : (p : Values) (t : TraceView) (n : ℕ) (h : History) (r : Record) (dev : Dev) (u : Unlawful) → apart_dev p t n h r dev ≡ Some u → IsFound p t n (Heard h r dev) 6 u
apart_dev_breaks p t n h r dev u e =
    let told : (sender_is_away p t r dev.slot ≡ true) × (unlawful.Apart n (length h / 2) ≡ u) = told_whenever (sender_is_away p t r dev.slot) (unlawful.Apart n (length h / 2)) u e in
    subst (λ (v : Unlawful). IsFound p t n (Heard h r dev) 6 v) told.1 (record { away = told.0; told = refl }, refl, refl)

found_breaks : (p : Values) (t : TraceView) (n : ℕ) (item : Item) (rank : ℕ) (u : Unlawful) → breach_by p t n item rank ≡ Some u → IsFound p t n item rank u
unfolding breach_by
found_breaks p t n (Clock h r row) zero u e = start_breaks p t n h r row u e
found_breaks p t n (Clock h r row) (suc zero) u e = rate_breaks p t n h r row u e
found_breaks p t n (Clock h r row) (suc (suc zero)) u e = turn_breaks p t n h r row u e
found_breaks p t n (Clock h r row) (suc (suc (suc zero))) u e = offset_breaks p t n h r row u e
found_breaks p t n (Clock h r row) (suc (suc (suc (suc zero)))) u e = cc e
found_breaks p t n (Clock h r row) (suc (suc (suc (suc (suc zero))))) u e = cc e
found_breaks p t n (Clock h r row) (suc (suc (suc (suc (suc (suc zero)))))) u e = apart_row_breaks p t n h r row u e
found_breaks p t n (Clock h r row) (suc (suc (suc (suc (suc (suc (suc rank))))))) u e = cc e
found_breaks p t n (Heard h r dev) zero u e = cc e
found_breaks p t n (Heard h r dev) (suc zero) u e = cc e
found_breaks p t n (Heard h r dev) (suc (suc zero)) u e = cc e
found_breaks p t n (Heard h r dev) (suc (suc (suc zero))) u e = cc e
found_breaks p t n (Heard h r dev) (suc (suc (suc (suc zero)))) u e = silent_breaks p t n h r dev u e
found_breaks p t n (Heard h r dev) (suc (suc (suc (suc (suc zero))))) u e = outside_breaks p t n h r dev u e
found_breaks p t n (Heard h r dev) (suc (suc (suc (suc (suc (suc zero)))))) u e = apart_dev_breaks p t n h r dev u e
found_breaks p t n (Heard h r dev) (suc (suc (suc (suc (suc (suc (suc rank))))))) u e = cc e

-- the rank of a breach is that of a law
rank_small : (p : Values) (t : TraceView) (item : Item) (u : Unlawful) → Breaks p t item u → rank_in u < 7
rank_small p t item (unlawful.Start number kept wanted) w = omega arith
rank_small p t item (unlawful.Rate number kept wanted) w = omega arith
rank_small p t item (unlawful.Turn number kept wanted) w = omega arith
rank_small p t item (unlawful.Offset number kept wanted) w = omega arith
rank_small p t item (unlawful.Silent number state) w = omega arith
rank_small p t item (unlawful.Deviation number kept low high) w = omega arith
rank_small p t item (unlawful.Apart number double) w = omega arith
rank_small p t item (unlawful.Uncovered gap) w = absurd w

-- ---- the first along numbers, and along items

-- what is found below a limit is found at a number, and nothing before it
record FoundBelow (f : ℕ → Option Unlawful) (n : ℕ) (u : Unlawful) : Type 0 where
  pub rank : ℕ
  pub below : rank < n
  pub found : f rank ≡ Some u
  pub none : (k : ℕ) → k < rank → f k ≡ None

pub none_below : (f : ℕ → Option Unlawful) (n k : ℕ) → first_below f n ≡ None → k < n → f k ≡ None
unfolding first_below
none_below f zero k e lt = absurd (omega arith)
none_below f (suc n) k e lt = by_first (first_below f n) refl e (λ g below. none_below f n k g below)
  where
    by_first : (o : Option Unlawful) → first_below f n ≡ o → option_or o (f n) ≡ None → (first_below f n ≡ None → k < n → f k ≡ None) → f k ≡ None
    by_first (Some u) is e rest = cc e
    by_first None is e rest = at (cases_eq k n)
      where
        at : (k ≡ n) ⊎ (k ≡ n → ⊥) → f k ≡ None
        at (inl same) = ap f same ∙ e
        at (inr other) = rest is (omega arith)

found_below : (f : ℕ → Option Unlawful) (n : ℕ) (u : Unlawful) → first_below f n ≡ Some u → FoundBelow f n u
unfolding first_below
found_below f zero u e = cc e
found_below f (suc n) u e = by_first (first_below f n) refl e (λ g. found_below f n u g)
  where
    by_first : (o : Option Unlawful) → first_below f n ≡ o → option_or o (f n) ≡ Some u → (first_below f n ≡ Some u → FoundBelow f n u) → FoundBelow f (suc n) u
    by_first (Some v) is e rest =
        let w : FoundBelow f n u = rest (is ∙ e) in
        let lt = w.below in
        record { rank = w.rank; below = omega arith; found = w.found; none = w.none }
    by_first None is e rest = record { rank = n; below = omega arith; found = e; none = λ k lt. none_below f n k is lt }

-- what is found along items is found at a place, and nothing before it
record FoundAlong (p : Values) (t : TraceView) (n : ℕ) (items : List Item) (u : Unlawful) : Type 0 where
  pub place : ℕ
  pub item : Item
  pub there : item_in items place ≡ Some item
  pub found : breach_at p t (n + place) item ≡ Some u
  pub none : (k : ℕ) (other : Item) → k < place → item_in items k ≡ Some other → breach_at p t (n + k) other ≡ None

pub none_along : (p : Values) (t : TraceView) (n : ℕ) (items : List Item) (k : ℕ) (other : Item) → first_from p t n items ≡ None → item_in items k ≡ Some other → breach_at p t (n + k) other ≡ None
unfolding first_from item_in
none_along p t n [] k other e there = cc there
none_along p t n (item ∷ items) k other e there = by_first (breach_at p t n item) refl e k there (λ j g at. none_along p t (suc n) items j other g at)
  where
    by_first : (o : Option Unlawful) → breach_at p t n item ≡ o → option_or o (first_from p t (suc n) items) ≡ None → (k : ℕ) → item_in (item ∷ items) k ≡ Some other
        → ((j : ℕ) → first_from p t (suc n) items ≡ None → item_in items j ≡ Some other → breach_at p t (suc n + j) other ≡ None) → breach_at p t (n + k) other ≡ None
    by_first (Some v) is e k there rest = cc e
    by_first None is e zero there rest =
        let same : item ≡ other = cc there in
        let count : n + 0 ≡ n = omega arith in
        ap (λ (m : ℕ). breach_at p t m other) count ∙ ap (breach_at p t n) (sym same) ∙ is
    by_first None is e (suc j) there rest =
        let count : n + suc j ≡ suc n + j = omega arith in
        ap (λ (m : ℕ). breach_at p t m other) count ∙ rest j e there

found_along : (p : Values) (t : TraceView) (n : ℕ) (items : List Item) (u : Unlawful) → first_from p t n items ≡ Some u → FoundAlong p t n items u
unfolding first_from item_in
found_along p t n [] u e = cc e
found_along p t n (item ∷ items) u e = by_first (breach_at p t n item) refl e (λ g. found_along p t (suc n) items u g)
  where
    by_first : (o : Option Unlawful) → breach_at p t n item ≡ o → option_or o (first_from p t (suc n) items) ≡ Some u → (first_from p t (suc n) items ≡ Some u → FoundAlong p t (suc n) items u) → FoundAlong p t n (item ∷ items) u
    by_first (Some v) is e rest =
        let count : n + 0 ≡ n = omega arith in
        record { place = 0; item = item; there = refl; found = ap (λ (m : ℕ). breach_at p t m item) count ∙ is ∙ e; none = λ k other lt at. absurd (omega arith) }
    by_first None is e rest =
        let w : FoundAlong p t (suc n) items u = rest e in
        let count : n + suc w.place ≡ suc n + w.place = omega arith in
        record {
          place = suc w.place;
          item = w.item;
          there = w.there;
          found = ap (λ (m : ℕ). breach_at p t m w.item) count ∙ w.found;
          none = λ k other lt at. before w.place w.none k other lt at;
        }
      where
        before : (place : ℕ) → ((k : ℕ) (other : Item) → k < place → item_in items k ≡ Some other → breach_at p t (suc n + k) other ≡ None)
            → (k : ℕ) (other : Item) → k < suc place → item_in (item ∷ items) k ≡ Some other → breach_at p t (n + k) other ≡ None
        before place none zero other lt at =
            let same : item ≡ other = cc at in
            let count : n + 0 ≡ n = omega arith in
            ap (λ (m : ℕ). breach_at p t m other) count ∙ ap (breach_at p t n) (sym same) ∙ is
        before place none (suc k) other lt at =
            let count : n + suc k ≡ suc n + k = omega arith in
            ap (λ (m : ℕ). breach_at p t m other) count ∙ none k other (omega arith) at

-- ---- of a trace

-- a breach of a trace is found at its item and its rank
at_its_place : (p : Values) (t : TraceView) (u : Unlawful) (b : IsBreach p t u) → breach_by p t (first_number t + b.at.place) b.item (rank_in u) ≡ Some u
at_its_place p t u b =
    let count = b.at.counted in
    ap (λ (m : ℕ). breach_by p t m b.item (rank_in u)) (sym count) ∙ breaks_found p t b.item u b.breaks

pub none_found_is_lawful : NoneFoundIsLawful
unfolding first_breach_of
none_found_is_lawful p t e u b =
    let none : breach_at p t (first_number t + b.at.place) b.item ≡ None = none_along p t (first_number t) (items_in t.history) b.at.place b.item e b.at.found in
    cc (sym (at_its_place p t u b) ∙ none_below (breach_by p t (first_number t + b.at.place) b.item) 7 (rank_in u) none (rank_small p t b.item u b.breaks))

pub found_breach_is_first : FoundBreachIsFirst
unfolding first_breach_of
found_breach_is_first p t u e =
    let w : FoundAlong p t (first_number t) (items_in t.history) u = found_along p t (first_number t) (items_in t.history) u e in
    let at : FoundBelow (breach_by p t (first_number t + w.place) w.item) 7 u = found_below (breach_by p t (first_number t + w.place) w.item) 7 u w.found in
    let is : IsFound p t (first_number t + w.place) w.item at.rank u = found_breaks p t (first_number t + w.place) w.item at.rank u at.found in
    record {
      is_breach = record { item = w.item; at = record { place = w.place; found = w.there; counted = is.1 }; breaks = is.0 };
      first = λ v b before. earlier w at is.1 is.2 v b before;
    }
  where
    earlier : (w : FoundAlong p t (first_number t) (items_in t.history) u) (at : FoundBelow (breach_by p t (first_number t + w.place) w.item) 7 u)
        → record_of_breach u ≡ first_number t + w.place → rank_in u ≡ at.rank → (v : Unlawful) → IsBreach p t v → ComesBefore v u → ⊥
    earlier w at number rank v b (inl less) =
        let count = b.at.counted in
        let none : breach_at p t (first_number t + b.at.place) b.item ≡ None = w.none b.at.place b.item (omega arith) b.at.found in
        cc (sym (at_its_place p t v b) ∙ none_below (breach_by p t (first_number t + b.at.place) b.item) 7 (rank_in v) none (rank_small p t b.item v b.breaks))
    earlier w at number rank v b (inr same) =
        let count = b.at.counted in
        let number_same = same.0 in
        let rank_less = same.1 in
        let place : b.at.place ≡ w.place = omega arith in
        let there : ◌≡◌ {A = Option Item} (Some b.item) (Some w.item) = sym b.at.found ∙ ap (item_in (items_in t.history)) place ∙ w.there in
        let item : b.item ≡ w.item = cc there in
        let none : breach_by p t (first_number t + w.place) w.item (rank_in v) ≡ None = at.none (rank_in v) (omega arith) in
        cc (sym (at_its_place p t v b) ∙ ap (λ (k : ℕ). breach_by p t (first_number t + k) b.item (rank_in v)) place
        ∙ ap (λ (i : Item). breach_by p t (first_number t + w.place) i (rank_in v)) item ∙ none)

pub one_first_breach : OneFirstBreach
one_first_breach p t u v a b =
    let number : record_of_breach u ≡ record_of_breach v = by_number (cases_eq (record_of_breach u) (record_of_breach v)) in
    let rank : rank_in u ≡ rank_in v = by_rank number (cases_eq (rank_in u) (rank_in v)) in
    same number rank
  where
    by_number : (record_of_breach u ≡ record_of_breach v) ⊎ (record_of_breach u ≡ record_of_breach v → ⊥) → record_of_breach u ≡ record_of_breach v
    by_number (inl e) = e
    by_number (inr other) = absurd (apart (less (record_of_breach u) (record_of_breach v) other))
      where
        less : (m n : ℕ) → (m ≡ n → ⊥) → (m < n) ⊎ (n < m)
        less m n ne = grind arith

        apart : (record_of_breach u < record_of_breach v) ⊎ (record_of_breach v < record_of_breach u) → ⊥
        apart (inl lt) = b.first u a.is_breach (inl lt)
        apart (inr lt) = a.first v b.is_breach (inl lt)

    by_rank : record_of_breach u ≡ record_of_breach v → (rank_in u ≡ rank_in v) ⊎ (rank_in u ≡ rank_in v → ⊥) → rank_in u ≡ rank_in v
    by_rank number (inl e) = e
    by_rank number (inr other) = absurd (apart (less (rank_in u) (rank_in v) other))
      where
        less : (m n : ℕ) → (m ≡ n → ⊥) → (m < n) ⊎ (n < m)
        less m n ne = grind arith

        apart : (rank_in u < rank_in v) ⊎ (rank_in v < rank_in u) → ⊥
        apart (inl lt) = b.first u a.is_breach (inr (number, lt))
        apart (inr lt) = a.first v b.is_breach (inr (sym number, lt))

    same : record_of_breach u ≡ record_of_breach v → rank_in u ≡ rank_in v → u ≡ v
    same number rank =
        let c = a.is_breach.at.counted in
        let d = b.is_breach.at.counted in
        let place : a.is_breach.at.place ≡ b.is_breach.at.place = omega arith in
        let there : ◌≡◌ {A = Option Item} (Some a.is_breach.item) (Some b.is_breach.item) = sym a.is_breach.at.found ∙ ap (item_in (items_in t.history)) place ∙ b.is_breach.at.found in
        let item : a.is_breach.item ≡ b.is_breach.item = cc there in
        let both : ◌≡◌ {A = Option Unlawful} (Some u) (Some v) =
        sym (at_its_place p t u a.is_breach) ∙ ap (λ (k : ℕ). breach_by p t (first_number t + k) a.is_breach.item (rank_in u)) place
        ∙ ap (λ (i : Item). breach_by p t (first_number t + b.is_breach.at.place) i (rank_in u)) item
        ∙ ap (breach_by p t (first_number t + b.is_breach.at.place) b.is_breach.item) rank ∙ at_its_place p t v b.is_breach in
        cc both

pub first_breach_is_found : FirstBreachIsFound
first_breach_is_found p t u first = by_found (first_breach_of p t) refl
  where
    by_found : (o : Option Unlawful) → first_breach_of p t ≡ o → first_breach_of p t ≡ Some u
    by_found None e = absurd (none_found_is_lawful p t e u first.is_breach)
    by_found (Some v) e = e ∙ ap (λ (w : Unlawful). Some w) (one_first_breach p t v u (found_breach_is_first p t v e) first)
