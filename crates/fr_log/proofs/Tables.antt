-- Tables under construction, against the list of the records so far.
use Rattle.std.proofs.Common.{◌≡◌, ℕ, zero, suc, ◌<◌, ◌≤◌, Bool, true, false, List, [], ◌∷◌, ◌++◌, length, Option, Some, None, Result, Ok, ap, sym, ◌∙◌, subst, refl, arith, inl, inr, ◌⊎◌, replicate, eq-eqb}
use Rattle.std.specs.Prelude.{if◌then◌else◌, ◌==◌, ◌*◌, ◌-◌, ◌||◌, nat_lt, slice_index_or, slice_set, All, IfSome}
use Rattle.std.specs.List.{cons_option, slice_get}
use Rattle.std.specs.List.Sorted.{IsNonDecreasingBy}
use Rattle.std.specs.Option.{option_map_or}
use Rattle.std.proofs.lemmas.Bool.{cases_eq}
use Rattle.std.proofs.lemmas.Bool.Decides.{nat_tests}
use Rattle.std.proofs.lemmas.List.{append-nil, get_or-replicate, length-replicate, get_or-set_same, get_or-set_other, get_or_past, length-set}
use Rattle.std.proofs.lemmas.List.Elements.{All-nil, All-push}
use Rattle.std.proofs.lemmas.List.Sorted.{IsNonDecreasingBy-push}
use Rattle.std.proofs.lemmas.Option.{slice_get-get_or}
use Rattle.fr_base.specs.declared.channel.Channel.{Channel}
use Rattle.fr_base.specs.declared.channel.Channel.TheVariants as channel
use Rattle.fr_base.specs.declared.reason.Reason.{Reason}
use Rattle.fr_text.specs.Fields.{or_else}
use Rattle.fr_text.specs.Records.{FileRecord}
use Rattle.fr_text.proofs.Lookups.{looked_up-nil, or_else-none}
use Rattle.fr_log.specs.Numbers.{head_place}
use Rattle.fr_log.specs.Rows.{AreEntryBytes, last_stamp, log_row_of}
use Rattle.fr_log.specs.Reasons.{comes_out_of_turn, delay_limits_by, each_by, each_said, entries_by, entry_said, has_entry, is_below_last, is_beyond_last, is_some_entry, limits_said, names_arbitrary, number_by, number_said, whole_said}
use Rattle.fr_log.specs.View.{AreAllLimits, AreDelayLimits, IsEntry}
use Rattle.fr_log.specs.Draft.{AreProperTables, IsLogDraft, IsTakenNumber, number_in_table}
use Rattle.fr_log.specs.declared.draft.Draft.{Draft}
use Rattle.fr_log.specs.declared.entry.Entry.{Entry}
use Rattle.fr_log.specs.declared.rows.DelayLimits.{DelayLimits}
use Rattle.fr_log.specs.declared.rows.EntryRow.{EntryRow}
use Rattle.fr_log.specs.declared.rows.HeadNumber.{HeadNumber}
use Rattle.fr_log.specs.declared.rows.HeadNumber.TheVariants as head
use Rattle.fr_log.specs.declared.rows.Row.{Row}
use Rattle.fr_log.specs.declared.rows.Row.TheVariants as row
use Rattle.fr_log.proofs.Looked.{arbitrary-more, each-more, entries-more, limits-more, number-more, or-false, whole-more}

or-true : (b : Bool) → (b || true) ≡ true
or-true true = refl
or-true false = refl

-- what is new in tables that take one row more
pub record IsWith (old new : Draft) (x : Result Row Reason) : Type 0 where
  pub numbers_long : length new.numbers ≡ 7
  pub arbitrary_long : length new.arbitrary ≡ 65
  pub on_a_long : length new.on_a ≡ 65
  pub on_b_long : length new.on_b ≡ 65
  pub numbers : (name : HeadNumber) → number_in_table new.numbers name ≡ or_else (number_in_table old.numbers name) (number_said name x)
  pub whole : new.whole ≡ (old.whole || whole_said x)
  pub arbitrary : (node : ℕ) → node ≤ 64 → slice_index_or new.arbitrary node false ≡ (slice_index_or old.arbitrary node false || names_arbitrary node x)
  pub on_a : (node : ℕ) → node ≤ 64 → slice_index_or new.on_a node None ≡ or_else (slice_index_or old.on_a node None) (limits_said node channel.A x)
  pub on_b : (node : ℕ) → node ≤ 64 → slice_index_or new.on_b node None ≡ or_else (slice_index_or old.on_b node None) (limits_said node channel.B x)
  pub each : new.each ≡ or_else old.each (each_said x)
  pub entries : new.entries.items ≡ old.entries.items ++ cons_option (entry_said x) []
  pub proper : AreProperTables new

-- they hold the records with one more
pub draft-more : (old new : Draft) (done : List FileRecord) (r : FileRecord) (x : Result Row Reason) → IsLogDraft old done → log_row_of r ≡ x → IsWith old new x → IsLogDraft new (done ++ r ∷ [])
draft-more old new done r x h e w = record {
  numbers_long = w.numbers_long;
  arbitrary_long = w.arbitrary_long;
  on_a_long = w.on_a_long;
  on_b_long = w.on_b_long;
  numbers = λ name. w.numbers name ∙ ap (λ (o : Option ℕ). or_else o (number_said name x)) (h.numbers name) ∙ sym (number-more name done r x e);
  whole = w.whole ∙ ap (λ (b : Bool). b || whole_said x) h.whole ∙ sym (whole-more done r x e);
  arbitrary = λ node low. w.arbitrary node low ∙ ap (λ (b : Bool). b || names_arbitrary node x) (h.arbitrary node low) ∙ sym (arbitrary-more node done r x e);
  on_a = λ node low. w.on_a node low ∙ ap (λ (o : Option DelayLimits). or_else o (limits_said node channel.A x)) (h.on_a node low) ∙ sym (limits-more node channel.A done r x e);
  on_b = λ node low. w.on_b node low ∙ ap (λ (o : Option DelayLimits). or_else o (limits_said node channel.B x)) (h.on_b node low) ∙ sym (limits-more node channel.B done r x e);
  each = w.each ∙ ap (λ (o : Option DelayLimits). or_else o (each_said x)) h.each ∙ sym (each-more done r x e);
  entries = w.entries ∙ ap (λ (es : List Entry). es ++ cons_option (entry_said x) []) h.entries ∙ sym (entries-more done r x e);
  proper = w.proper;
}

-- ---- tables of nothing

abbrev none-said : {A : Type 0} → ℕ → List (Option A)
none-said count = replicate count None

nothing-said : {A : Type 0} (count k : ℕ) → slice_index_or (none-said {A = A} count) k None ≡ None
nothing-said {A} count k = by (nat_lt k count) refl
  where
    none : Option A
    none = None

    by : (b : Bool) → nat_lt k count ≡ b → slice_index_or (none-said {A = A} count) k None ≡ None
    by true e = get_or-replicate count k none none (grind (arith, nat_tests))
    by false e =
        let past : count ≤ k = grind (arith, nat_tests) in
        get_or_past (none-said {A = A} count) k none (omega (arith, length-replicate count none))

nobody-named : (k : ℕ) → k ≤ 64 → slice_index_or (replicate 65 false) k false ≡ false
nobody-named k h = get_or-replicate 65 k false false (omega arith)

if-none : {A : Type 0} (P : A → Type 0) (o : Option A) → o ≡ None → IfSome o P
if-none P o e = rw e tt

pub draft-nil : (d : Draft) → d.numbers ≡ replicate 7 None → d.whole ≡ false → d.arbitrary ≡ replicate 65 false → d.on_a ≡ replicate 65 None → d.on_b ≡ replicate 65 None → d.each ≡ None
    → d.entries.items ≡ [] → IsLogDraft d []
unfolding entries_by
draft-nil d numbers whole arbitrary on_a on_b each entries = record {
  numbers_long = ap length numbers ∙ length-replicate 7 no-number;
  arbitrary_long = ap length arbitrary ∙ length-replicate 65 false;
  on_a_long = ap length on_a ∙ length-replicate 65 no-limits;
  on_b_long = ap length on_b ∙ length-replicate 65 no-limits;
  numbers = λ name. none-number name ∙ sym (looked_up-nil (λ r. number_said name (log_row_of r)));
  whole = whole;
  arbitrary = λ node low. ap (λ (marks : List Bool). slice_index_or marks node false) arbitrary ∙ nobody-named node low;
  on_a = λ node low. none-a node ∙ sym (looked_up-nil (λ r. limits_said node channel.A (log_row_of r)));
  on_b = λ node low. none-b node ∙ sym (looked_up-nil (λ r. limits_said node channel.B (log_row_of r)));
  each = each ∙ sym (looked_up-nil (λ r. each_said (log_row_of r)));
  entries = entries;
  proper = record {
    numbers = λ name. if-none (IsTakenNumber name) (number_in_table d.numbers name) (none-number name);
    on_a = λ node. if-none AreDelayLimits (slice_index_or d.on_a node None) (none-a node);
    on_b = λ node. if-none AreDelayLimits (slice_index_or d.on_b node None) (none-b node);
    each = if-none AreDelayLimits d.each each;
    entries = λ unit is. subst (All (IsEntry unit)) (sym entries) (All-nil (IsEntry unit));
    ascending = subst (IsNonDecreasingBy (λ (e : Entry). e.stamp)) (sym entries) (λ i j e low high. absurd (omega arith));
  };
}
  where
    no-number : Option ℕ
    no-number = None

    no-limits : Option DelayLimits
    no-limits = None

    none-number : (name : HeadNumber) → number_in_table d.numbers name ≡ None
    none-number name = ap (λ (xs : List (Option ℕ)). number_in_table xs name) numbers ∙ nothing-said 7 (head_place name)

    none-a : (node : ℕ) → slice_index_or d.on_a node None ≡ None
    none-a node = ap (λ (xs : List (Option DelayLimits)). slice_index_or xs node None) on_a ∙ nothing-said 65 node

    none-b : (node : ℕ) → slice_index_or d.on_b node None ≡ None
    none-b node = ap (λ (xs : List (Option DelayLimits)). slice_index_or xs node None) on_b ∙ nothing-said 65 node

-- ---- one more entry of a table

-- the mark of a node that is named, and those of the others
marked : (marks : List Bool) (node k : ℕ) → node < length marks → slice_index_or (slice_set marks node true) k false ≡ (slice_index_or marks k false || (node == k))
marked marks node k room = by (cases_eq k node)
  where
    by : (k ≡ node) ⊎ (k ≡ node → ⊥) → slice_index_or (slice_set marks node true) k false ≡ (slice_index_or marks k false || (node == k))
    by (inl e) =
        let yes : (node == k) ≡ true = eq-eqb node k (sym e) in
        let own : slice_index_or (slice_set marks node true) k false ≡ true = rw e (get_or-set_same marks node true false room) in
        own ∙ sym (ap (λ (b : Bool). slice_index_or marks k false || b) yes ∙ or-true (slice_index_or marks k false))
    by (inr ne) =
        let no : (node == k) ≡ false = grind (arith, nat_tests) in
        get_or-set_other marks node k true false ne ∙ sym (ap (λ (b : Bool). slice_index_or marks k false || b) no ∙ or-false (slice_index_or marks k false))

-- what is noted at a place that had nothing, and at the others
noted : {A : Type 0} (xs : List (Option A)) (place k : ℕ) (x : A) → place < length xs → slice_index_or xs place None ≡ None
    → slice_index_or (slice_set xs place (Some x)) k None ≡ or_else (slice_index_or xs k None) (if place == k then Some x else None)
noted {A} xs place k x room none = by (cases_eq k place)
  where
    by : (k ≡ place) ⊎ (k ≡ place → ⊥) → slice_index_or (slice_set xs place (Some x)) k None ≡ or_else (slice_index_or xs k None) (if place == k then Some x else None)
    by (inl e) =
        let yes : (place == k) ≡ true = eq-eqb place k (sym e) in
        let empty : slice_index_or xs k None ≡ None = rw e none in
        let other : or_else (slice_index_or xs k None) (if place == k then Some x else None) ≡ Some x = rw (empty, yes) refl in
        let own : slice_index_or (slice_set xs place (Some x)) k None ≡ Some x = rw e (get_or-set_same xs place (Some x) None room) in
        own ∙ sym other
    by (inr ne) =
        let no : (place == k) ≡ false = grind (arith, nat_tests) in
        get_or-set_other xs place k (Some x) None ne ∙ sym (ap (λ (b : Bool). or_else (slice_index_or xs k None) (if b then Some x else None)) no ∙ or_else-none (slice_index_or xs k None))

-- what is proper stays so
noted-proper : {A : Type 0} (P : A → Type 0) (xs : List (Option A)) (place k : ℕ) (x : A) → place < length xs → IfSome (slice_index_or xs k None) P → (k ≡ place → P x)
    → IfSome (slice_index_or (slice_set xs place (Some x)) k None) P
noted-proper {A} P xs place k x room before own = by (cases_eq k place)
  where
    by : (k ≡ place) ⊎ (k ≡ place → ⊥) → IfSome (slice_index_or (slice_set xs place (Some x)) k None) P
    by (inl e) =
        let is : slice_index_or (slice_set xs place (Some x)) k None ≡ Some x = rw e (get_or-set_same xs place (Some x) None room) in
        subst (λ (o : Option A). IfSome o P) (sym is) (own e)
    by (inr ne) = subst (λ (o : Option A). IfSome o P) (sym (get_or-set_other xs place k (Some x) None ne)) before

-- the number of a place
name_at : ℕ → HeadNumber
name_at zero = head.Unit
name_at (suc zero) = head.Drift
name_at (suc (suc zero)) = head.Error
name_at (suc (suc (suc zero))) = head.Jitter
name_at (suc (suc (suc (suc zero)))) = head.Since
name_at (suc (suc (suc (suc (suc zero))))) = head.Flutter
name_at _ = head.Lost

name-back : (name : HeadNumber) → name_at (head_place name) ≡ name
unfolding name_at
name-back head.Unit = refl
name-back head.Drift = refl
name-back head.Error = refl
name-back head.Jitter = refl
name-back head.Since = refl
name-back head.Flutter = refl
name-back head.Lost = refl

name-one : (a b : HeadNumber) → head_place a ≡ head_place b → a ≡ b
name-one a b e = sym (name-back a) ∙ ap name_at e ∙ name-back b

place-low : (name : HeadNumber) → head_place name < 7
place-low head.Unit = omega arith
place-low head.Drift = omega arith
place-low head.Error = omega arith
place-low head.Jitter = omega arith
place-low head.Since = omega arith
place-low head.Flutter = omega arith
place-low head.Lost = omega arith

-- no entry yet
no-entry : (entries : List Entry) → is_some_entry entries ≡ false → entries ≡ []
no-entry [] h = refl
no-entry (e ∷ rest) h = cc h

pub draft-empty : (d : Draft) (done : List FileRecord) → IsLogDraft d done → has_entry done ≡ false → d.entries.items ≡ []
draft-empty d done h none = h.entries ∙ no-entry (entries_by done) none

-- ---- rows that are taken

same-entries : (entries : List Entry) → entries ≡ entries ++ []
same-entries entries = sym (append-nil entries)

-- a number
pub with-number : (d : Draft) (done : List FileRecord) (name : HeadNumber) (n : ℕ) → IsLogDraft d done → IsTakenNumber name n → has_entry done ≡ false → number_by name done ≡ None
    → IsWith d (record d { numbers = slice_set d.numbers (head_place name) (Some n) }) (Ok (row.Number name n))
with-number d done name n h taken first none = record {
  numbers_long = length-set d.numbers (head_place name) (Some n) ∙ h.numbers_long;
  arbitrary_long = h.arbitrary_long;
  on_a_long = h.on_a_long;
  on_b_long = h.on_b_long;
  numbers = λ m. noted d.numbers (head_place name) (head_place m) n room (h.numbers name ∙ none);
  whole = sym (or-false d.whole);
  arbitrary = λ node low. sym (or-false (slice_index_or d.arbitrary node false));
  on_a = λ node low. sym (or_else-none (slice_index_or d.on_a node None));
  on_b = λ node low. sym (or_else-none (slice_index_or d.on_b node None));
  each = sym (or_else-none d.each);
  entries = same-entries d.entries.items;
  proper = record {
    numbers = λ m. noted-proper (IsTakenNumber m) d.numbers (head_place name) (head_place m) n room (h.proper.numbers m) (λ e. subst (λ (x : HeadNumber). IsTakenNumber x n) (name-one name m (sym e)) taken);
    on_a = h.proper.on_a;
    on_b = h.proper.on_b;
    each = h.proper.each;
    entries = λ unit is. subst (All (IsEntry unit)) (sym (draft-empty d done h first)) (All-nil (IsEntry unit));
    ascending = h.proper.ascending;
  };
}
  where
    room : head_place name < length d.numbers
    room = let low = place-low name in omega (arith, h.numbers_long)

-- that no frame was missed
pub with-whole : (d : Draft) (done : List FileRecord) → IsLogDraft d done → IsWith d (record d { whole = true }) (Ok row.Whole)
with-whole d done h = record {
  numbers_long = h.numbers_long;
  arbitrary_long = h.arbitrary_long;
  on_a_long = h.on_a_long;
  on_b_long = h.on_b_long;
  numbers = λ name. sym (or_else-none (number_in_table d.numbers name));
  whole = sym (or-true d.whole);
  arbitrary = λ node low. sym (or-false (slice_index_or d.arbitrary node false));
  on_a = λ node low. sym (or_else-none (slice_index_or d.on_a node None));
  on_b = λ node low. sym (or_else-none (slice_index_or d.on_b node None));
  each = sym (or_else-none d.each);
  entries = same-entries d.entries.items;
  proper = record {
    numbers = h.proper.numbers;
    on_a = h.proper.on_a;
    on_b = h.proper.on_b;
    each = h.proper.each;
    entries = h.proper.entries;
    ascending = h.proper.ascending;
  };
}

-- an arbitrary node
pub with-node : (d : Draft) (done : List FileRecord) (node : ℕ) → IsLogDraft d done → node ≤ 64
    → IsWith d (record d { arbitrary = slice_set d.arbitrary node true }) (Ok (row.Arbitrary node))
with-node d done node h low = record {
  numbers_long = h.numbers_long;
  arbitrary_long = length-set d.arbitrary node true ∙ h.arbitrary_long;
  on_a_long = h.on_a_long;
  on_b_long = h.on_b_long;
  numbers = λ name. sym (or_else-none (number_in_table d.numbers name));
  whole = sym (or-false d.whole);
  arbitrary = λ k small. marked d.arbitrary node k (omega (arith, h.arbitrary_long));
  on_a = λ k small. sym (or_else-none (slice_index_or d.on_a k None));
  on_b = λ k small. sym (or_else-none (slice_index_or d.on_b k None));
  each = sym (or_else-none d.each);
  entries = same-entries d.entries.items;
  proper = record {
    numbers = h.proper.numbers;
    on_a = h.proper.on_a;
    on_b = h.proper.on_b;
    each = h.proper.each;
    entries = h.proper.entries;
    ascending = h.proper.ascending;
  };
}

-- the limits of a delay
abbrev pub delay_line : ℕ → Channel → DelayLimits → Result Row Reason
delay_line node ch limits = Ok (row.Delay (record { node = node; channel = Some ch; limits = limits }))

pub with-delay_a : (d : Draft) (done : List FileRecord) (node : ℕ) (limits : DelayLimits) → IsLogDraft d done → node ≤ 64 → AreDelayLimits limits → delay_limits_by node channel.A done ≡ None
    → IsWith d (record d { on_a = slice_set d.on_a node (Some limits) }) (delay_line node channel.A limits)
with-delay_a d done node limits h low ordered none = record {
  numbers_long = h.numbers_long;
  arbitrary_long = h.arbitrary_long;
  on_a_long = length-set d.on_a node (Some limits) ∙ h.on_a_long;
  on_b_long = h.on_b_long;
  numbers = λ name. sym (or_else-none (number_in_table d.numbers name));
  whole = sym (or-false d.whole);
  arbitrary = λ k small. sym (or-false (slice_index_or d.arbitrary k false));
  on_a = λ k small. noted d.on_a node k limits room (h.on_a node low ∙ none);
  on_b = λ k small. sym (or_else-none (slice_index_or d.on_b k None));
  each = sym (or_else-none d.each);
  entries = same-entries d.entries.items;
  proper = record {
    numbers = h.proper.numbers;
    on_a = λ k. noted-proper AreDelayLimits d.on_a node k limits room (h.proper.on_a k) (λ e. ordered);
    on_b = h.proper.on_b;
    each = h.proper.each;
    entries = h.proper.entries;
    ascending = h.proper.ascending;
  };
}
  where
    room : node < length d.on_a
    room = omega (arith, h.on_a_long)

pub with-delay_b : (d : Draft) (done : List FileRecord) (node : ℕ) (limits : DelayLimits) → IsLogDraft d done → node ≤ 64 → AreDelayLimits limits → delay_limits_by node channel.B done ≡ None
    → IsWith d (record d { on_b = slice_set d.on_b node (Some limits) }) (delay_line node channel.B limits)
with-delay_b d done node limits h low ordered none = record {
  numbers_long = h.numbers_long;
  arbitrary_long = h.arbitrary_long;
  on_a_long = h.on_a_long;
  on_b_long = length-set d.on_b node (Some limits) ∙ h.on_b_long;
  numbers = λ name. sym (or_else-none (number_in_table d.numbers name));
  whole = sym (or-false d.whole);
  arbitrary = λ k small. sym (or-false (slice_index_or d.arbitrary k false));
  on_a = λ k small. sym (or_else-none (slice_index_or d.on_a k None));
  on_b = λ k small. noted d.on_b node k limits room (h.on_b node low ∙ none);
  each = sym (or_else-none d.each);
  entries = same-entries d.entries.items;
  proper = record {
    numbers = h.proper.numbers;
    on_a = h.proper.on_a;
    on_b = λ k. noted-proper AreDelayLimits d.on_b node k limits room (h.proper.on_b k) (λ e. ordered);
    each = h.proper.each;
    entries = h.proper.entries;
    ascending = h.proper.ascending;
  };
}
  where
    room : node < length d.on_b
    room = omega (arith, h.on_b_long)

-- and those of all that have no others
pub with-each : (d : Draft) (done : List FileRecord) (limits : DelayLimits) → IsLogDraft d done → AreDelayLimits limits → each_by done ≡ None
    → IsWith d (record d { each = Some limits }) (Ok (row.EachDelay limits))
with-each d done limits h ordered none = record {
  numbers_long = h.numbers_long;
  arbitrary_long = h.arbitrary_long;
  on_a_long = h.on_a_long;
  on_b_long = h.on_b_long;
  numbers = λ name. sym (or_else-none (number_in_table d.numbers name));
  whole = sym (or-false d.whole);
  arbitrary = λ k small. sym (or-false (slice_index_or d.arbitrary k false));
  on_a = λ k small. sym (or_else-none (slice_index_or d.on_a k None));
  on_b = λ k small. sym (or_else-none (slice_index_or d.on_b k None));
  each = sym (ap (λ (o : Option DelayLimits). or_else o (Some limits)) (h.each ∙ none));
  entries = same-entries d.entries.items;
  proper = record {
    numbers = h.proper.numbers;
    on_a = h.proper.on_a;
    on_b = h.proper.on_b;
    each = ordered;
    entries = h.proper.entries;
    ascending = h.proper.ascending;
  };
}

-- a frame that came
pub record IsEntryMore (old new : Draft) (e : Entry) : Type 0 where
  pub numbers : new.numbers ≡ old.numbers
  pub whole : new.whole ≡ old.whole
  pub arbitrary : new.arbitrary ≡ old.arbitrary
  pub on_a : new.on_a ≡ old.on_a
  pub on_b : new.on_b ≡ old.on_b
  pub each : new.each ≡ old.each
  pub entries : new.entries.items ≡ old.entries.items ++ e ∷ []

or-second : (a b : Bool) → (a || b) ≡ false → b ≡ false
or-second true b h = cc h
or-second false b h = h

not-below : (m n : ℕ) → nat_lt m n ≡ false → n ≤ m
not-below m n h = grind (arith, nat_tests)

within-last : (o : Option ℕ) (unit stamp : ℕ) → option_map_or (λ u. nat_lt last_stamp (u * stamp)) o false ≡ false → o ≡ Some unit → unit * stamp ≤ last_stamp
within-last o unit stamp h e =
    let is : nat_lt last_stamp (unit * stamp) ≡ false = sym (ap (λ (q : Option ℕ). option_map_or (λ u. nat_lt last_stamp (u * stamp)) q false) e) ∙ h in
    not-below last_stamp (unit * stamp) is

after-last : (entries : List Entry) (stamp : ℕ) → is_below_last entries stamp ≡ false → (e : Entry) → 0 < length entries → (slice_index_or entries (length entries - 1) e).stamp ≤ stamp
after-last entries stamp h e some =
    let last = slice_index_or entries (length entries - 1) e in
    let there : slice_get entries (length entries - 1) ≡ Some last = slice_get-get_or entries (length entries - 1) e (omega arith) in
    let is : nat_lt stamp last.stamp ≡ false = sym (ap (λ (o : Option Entry). option_map_or (λ f. nat_lt stamp f.stamp) o false) there) ∙ h in
    not-below stamp last.stamp is

pub with-entry : (d new : Draft) (done : List FileRecord) (e : Entry) (x : EntryRow) → IsLogDraft d done → IsEntryMore d new e → entry_said (Ok (row.Came x)) ≡ Some e → AreEntryBytes e.bytes
    → is_beyond_last done e.stamp ≡ false → comes_out_of_turn done e.stamp ≡ false → IsWith d new (Ok (row.Came x))
with-entry d new done e x h m says bytes within turn = record {
  numbers_long = ap length m.numbers ∙ h.numbers_long;
  arbitrary_long = ap length m.arbitrary ∙ h.arbitrary_long;
  on_a_long = ap length m.on_a ∙ h.on_a_long;
  on_b_long = ap length m.on_b ∙ h.on_b_long;
  numbers = λ name. ap (λ (xs : List (Option ℕ)). number_in_table xs name) m.numbers ∙ sym (or_else-none (number_in_table d.numbers name));
  whole = m.whole ∙ sym (or-false d.whole);
  arbitrary = λ k small. ap (λ (xs : List Bool). slice_index_or xs k false) m.arbitrary ∙ sym (or-false (slice_index_or d.arbitrary k false));
  on_a = λ k small. ap (λ (xs : List (Option DelayLimits)). slice_index_or xs k None) m.on_a ∙ sym (or_else-none (slice_index_or d.on_a k None));
  on_b = λ k small. ap (λ (xs : List (Option DelayLimits)). slice_index_or xs k None) m.on_b ∙ sym (or_else-none (slice_index_or d.on_b k None));
  each = m.each ∙ sym (or_else-none d.each);
  entries = m.entries ∙ sym (ap (λ (o : Option Entry). d.entries.items ++ cons_option o []) says);
  proper = record {
    numbers = λ name. subst (λ (xs : List (Option ℕ)). IfSome (number_in_table xs name) (IsTakenNumber name)) (sym m.numbers) (h.proper.numbers name);
    on_a = subst AreAllLimits (sym m.on_a) h.proper.on_a;
    on_b = subst AreAllLimits (sym m.on_b) h.proper.on_b;
    each = subst (λ (o : Option DelayLimits). IfSome o AreDelayLimits) (sym m.each) h.proper.each;
    entries = λ unit is. subst (All (IsEntry unit)) (sym m.entries) (All-push (IsEntry unit) d.entries.items e (h.proper.entries unit (own unit is)) (entry unit is));
    ascending =
        subst (IsNonDecreasingBy (λ (f : Entry). f.stamp)) (sym m.entries)
        (IsNonDecreasingBy-push (λ (f : Entry). f.stamp) d.entries.items e h.proper.ascending (after-last d.entries.items e.stamp last));
  };
}
  where
    own : (unit : ℕ) → number_in_table new.numbers head.Unit ≡ Some unit → number_in_table d.numbers head.Unit ≡ Some unit
    own unit is = sym (ap (λ (xs : List (Option ℕ)). number_in_table xs head.Unit) m.numbers) ∙ is

    entry : (unit : ℕ) → number_in_table new.numbers head.Unit ≡ Some unit → IsEntry unit e
    entry unit is = record { stamp = within-last (number_by head.Unit done) unit e.stamp within (sym (h.numbers head.Unit) ∙ own unit is); bytes = bytes }

    last : is_below_last d.entries.items e.stamp ≡ false
    last = ap (λ (es : List Entry). is_below_last es e.stamp) h.entries ∙ or-second _ (is_below_last (entries_by done) e.stamp) turn
