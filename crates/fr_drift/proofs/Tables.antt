-- Tables under construction, against the list of the records so far.
use Rattle.std.proofs.Common.{◌≡◌, ℕ, ℤ, Bool, true, false, cond, List, [], ◌∷◌, ◌++◌, Option, Some, None, Result, Ok, Err, ap, sym, ◌∙◌, refl, arith}
use Rattle.std.specs.Prelude.{◌==◌, ◌&&◌, IfOk, IfSome}
use Rattle.std.specs.Ordering.{nat_cmp, ordering_then, is_eq}
use Rattle.std.specs.declared.cmp.Ordering.{Ordering}
use Rattle.std.specs.declared.cmp.Ordering.TheVariants.{Less, Equal, Greater}
use Rattle.std.specs.BTreeMap.{BTreeMap, IsOrdered, get, is_at}
use Rattle.std.proofs.lemmas.Bool.Decides.{nat_tests}
use Rattle.fr_base.specs.declared.channel.Channel.{Channel}
use Rattle.fr_base.specs.declared.channel.Channel.TheVariants as channel
use Rattle.fr_base.specs.declared.reason.Reason.{Reason}
use Rattle.fr_text.specs.Records.{FileRecord}
use Rattle.fr_text.specs.Fields.{or_else}
use Rattle.fr_text.proofs.Lookups.{looked_up-more, looked_up-nil, or_else-none}
use Rattle.fr_drift.specs.Keys.{delay_cmp, delay_key, length_cmp, length_key}
use Rattle.fr_drift.specs.Rows.{IsProperCount, IsProperDelay, IsMicrotickLength, IsProperStart, drift_row_of}
use Rattle.fr_drift.specs.Reasons.{doubles_in, start_in, length_in, delay_in, doubles_at, start_at, length_said_at, delay_at}
use Rattle.fr_drift.specs.Draft.{IsDriftDraft, IsNewEntryPut}
use Rattle.fr_drift.specs.declared.draft.Draft.{Draft}
use Rattle.fr_drift.specs.declared.keys.LengthKey.{LengthKey}
use Rattle.fr_drift.specs.declared.keys.DelayKey.{DelayKey}
use Rattle.fr_drift.specs.declared.rows.Start.{Start}
use Rattle.fr_drift.specs.declared.rows.StartRow.{StartRow}
use Rattle.fr_drift.specs.declared.rows.LengthRow.{LengthRow}
use Rattle.fr_drift.specs.declared.rows.DelayRow.{DelayRow}
use Rattle.fr_drift.specs.declared.rows.Row.{Row}
use Rattle.fr_drift.specs.declared.rows.Row.TheVariants as row

doubles_at-more : (done : List FileRecord) (r : FileRecord) (x : Result Row Reason) → drift_row_of r ≡ x → doubles_at (done ++ r ∷ []) ≡ or_else (doubles_at done) (doubles_in x)
doubles_at-more done r x e = looked_up-more doubles_in drift_row_of done r x e

start_at-more : (node : ℕ) (done : List FileRecord) (r : FileRecord) (x : Result Row Reason) → drift_row_of r ≡ x
    → start_at node (done ++ r ∷ []) ≡ or_else (start_at node done) (start_in node x)
start_at-more node done r x e = looked_up-more (start_in node) drift_row_of done r x e

length_at-more : (node from : ℕ) (done : List FileRecord) (r : FileRecord) (x : Result Row Reason) → drift_row_of r ≡ x
    → length_said_at node from (done ++ r ∷ []) ≡ or_else (length_said_at node from done) (length_in node from x)
length_at-more node from done r x e = looked_up-more (length_in node from) drift_row_of done r x e

delay_at-more : (sender receiver : ℕ) (ch : Channel) (from : ℕ) (done : List FileRecord) (r : FileRecord) (x : Result Row Reason) → drift_row_of r ≡ x
    → delay_at sender receiver ch from (done ++ r ∷ []) ≡ or_else (delay_at sender receiver ch from done) (delay_in sender receiver ch from x)
delay_at-more sender receiver ch from done r x e = looked_up-more (delay_in sender receiver ch from) drift_row_of done r x e

-- a record that says something where nothing stood
filled : {A : Type 0} (b : Bool) (x : A) (new old before after : Option A) → new ≡ cond b (Some x) old → after ≡ or_else before (cond b (Some x) None)
    → old ≡ before → (b ≡ true → before ≡ None) → new ≡ after
filled true x new old before after e f same none = e ∙ sym (f ∙ rw (none refl) refl)
filled false x new old before after e f same none = e ∙ same ∙ sym (f ∙ or_else-none before)

-- and one that says nothing there
kept : {A : Type 0} (old before after : Option A) → old ≡ before → after ≡ or_else before None → old ≡ after
kept old before after same f = same ∙ sym (f ∙ or_else-none before)

-- what holds of all values still does
still : {A : Type 0} (P : A → Type 0) (b : Bool) (x : A) (new old : Option A) → new ≡ cond b (Some x) old → P x → IfSome old P → IfSome new P
still P true x new old e here there = rw e here
still P false x new old e here there = rw e there

-- keys that tie are equal
then-ties : (a b : Ordering) → is_eq (ordering_then a b) ≡ (is_eq a && is_eq b)
then-ties Less b = refl
then-ties Equal b = refl
then-ties Greater b = refl

pub start-ties : (a b : ℕ) → is_at (nat_cmp a) b ≡ (a == b)
start-ties a b = grind (arith, nat_tests)

pub length-ties : (a f b g : ℕ) → is_at (length_cmp (length_key a f)) (length_key b g) ≡ ((a == b) && (f == g))
length-ties a f b g = then-ties (nat_cmp a b) (nat_cmp f g) ∙ rw (start-ties a b, start-ties f g) refl

pub delay-ties : (a b f c d g : ℕ) → is_at (delay_cmp (delay_key a b f)) (delay_key c d g) ≡ ((a == c) && ((b == d) && (f == g)))
delay-ties a b f c d g =
    then-ties (nat_cmp a c) (ordering_then (nat_cmp b d) (nat_cmp f g)) ∙ rw (then-ties (nat_cmp b d) (nat_cmp f g), start-ties a c, start-ties b d, start-ties f g) refl

one-same : (a b : ℕ) → (a == b) ≡ true → b ≡ a
one-same a b e = grind (arith, nat_tests)

two-same : (a b f g : ℕ) → ((a == b) && (f == g)) ≡ true → (b ≡ a) × (g ≡ f)
two-same a b f g e = (grind (arith, nat_tests), grind (arith, nat_tests))

three-same : (a c b d f g : ℕ) → ((a == c) && ((b == d) && (f == g))) ≡ true → (c ≡ a) × (d ≡ b) × (g ≡ f)
three-same a c b d f g e = (grind (arith, nat_tests), grind (arith, nat_tests), grind (arith, nat_tests))

-- the number of double cycles that was not there is taken
pub draft-doubles : (d : Draft) (done : List FileRecord) (r : FileRecord) (n : ℕ) → IsDriftDraft d done → drift_row_of r ≡ Ok (row.Doubles n)
    → IsProperCount n → d.doubles ≡ None → IsDriftDraft (record d { doubles = Some n }) (done ++ r ∷ [])
draft-doubles d done r n h e proper empty = record {
  doubles = sym (doubles_at-more done r _ e ∙ rw (sym h.doubles ∙ empty) refl);
  starts = λ node. kept (get nat_cmp d.starts node) (start_at node done) _ (h.starts node) (start_at-more node done r _ e);
  lengths = λ node from. kept (get length_cmp d.lengths (length_key node from)) (length_said_at node from done) _ (h.lengths node from) (length_at-more node from done r _ e);
  delays_a = λ s t from. kept (get delay_cmp d.delays_a (delay_key s t from)) (delay_at s t channel.A from done) _ (h.delays_a s t from) (delay_at-more s t channel.A from done r _ e);
  delays_b = λ s t from. kept (get delay_cmp d.delays_b (delay_key s t from)) (delay_at s t channel.B from done) _ (h.delays_b s t from) (delay_at-more s t channel.B from done r _ e);
  proper = record {
    count = proper;
    starts = h.proper.starts;
    lengths = h.proper.lengths;
    delays_a = h.proper.delays_a;
    delays_b = h.proper.delays_b;
    starts_ordered = h.proper.starts_ordered;
    lengths_ordered = h.proper.lengths_ordered;
    delays_a_ordered = h.proper.delays_a_ordered;
    delays_b_ordered = h.proper.delays_b_ordered;
  };
}

-- a start that was not there is taken
pub draft-start : (d : Draft) (new : BTreeMap ℕ Start) (done : List FileRecord) (r : FileRecord) (s : StartRow) → IsDriftDraft d done
    → drift_row_of r ≡ Ok (row.Start s) → IsProperStart s.start → IsNewEntryPut nat_cmp d.starts new s.node s.start
    → IsDriftDraft (record d { starts = new }) (done ++ r ∷ [])
draft-start d new done r s h e proper put = record {
  doubles = kept d.doubles (doubles_at done) _ h.doubles (doubles_at-more done r _ e);
  starts = λ node.
      filled (s.node == node) s.start (get nat_cmp new node) (get nat_cmp d.starts node) (start_at node done) _ (value node) (start_at-more node done r _ e) (h.starts node)
      (λ yes. sym (h.starts node) ∙ rw (one-same s.node node yes) put.empty);
  lengths = λ node from. kept (get length_cmp d.lengths (length_key node from)) (length_said_at node from done) _ (h.lengths node from) (length_at-more node from done r _ e);
  delays_a = λ a b from. kept (get delay_cmp d.delays_a (delay_key a b from)) (delay_at a b channel.A from done) _ (h.delays_a a b from) (delay_at-more a b channel.A from done r _ e);
  delays_b = λ a b from. kept (get delay_cmp d.delays_b (delay_key a b from)) (delay_at a b channel.B from done) _ (h.delays_b a b from) (delay_at-more a b channel.B from done r _ e);
  proper = record {
    count = h.proper.count;
    starts = λ node. still IsProperStart (s.node == node) s.start (get nat_cmp new node) (get nat_cmp d.starts node) (value node) proper (h.proper.starts node);
    lengths = h.proper.lengths;
    delays_a = h.proper.delays_a;
    delays_b = h.proper.delays_b;
    starts_ordered = put.ordered;
    lengths_ordered = h.proper.lengths_ordered;
    delays_a_ordered = h.proper.delays_a_ordered;
    delays_b_ordered = h.proper.delays_b_ordered;
  };
}
  where
    value : (node : ℕ) → get nat_cmp new node ≡ cond (s.node == node) (Some s.start) (get nat_cmp d.starts node)
    value node = put.filled node ∙ ap (λ (b : Bool). cond b (Some s.start) (get nat_cmp d.starts node)) (start-ties s.node node)

-- a length that was not there is taken
pub draft-length : (d : Draft) (new : BTreeMap LengthKey ℤ) (done : List FileRecord) (r : FileRecord) (l : LengthRow) → IsDriftDraft d done
    → drift_row_of r ≡ Ok (row.Length l) → IsMicrotickLength l.ticks → IsNewEntryPut length_cmp d.lengths new (length_key l.node l.from) l.ticks
    → IsDriftDraft (record d { lengths = new }) (done ++ r ∷ [])
draft-length d new done r l h e proper put = record {
  doubles = kept d.doubles (doubles_at done) _ h.doubles (doubles_at-more done r _ e);
  starts = λ node. kept (get nat_cmp d.starts node) (start_at node done) _ (h.starts node) (start_at-more node done r _ e);
  lengths = λ node from.
      filled ((l.node == node) && (l.from == from)) l.ticks (get length_cmp new (length_key node from)) (get length_cmp d.lengths (length_key node from)) (length_said_at node from done) _
      (value node from) (length_at-more node from done r _ e) (h.lengths node from)
      (λ yes. let same = two-same l.node node l.from from yes in sym (h.lengths node from) ∙ rw (same.0, same.1) put.empty);
  delays_a = λ a b from. kept (get delay_cmp d.delays_a (delay_key a b from)) (delay_at a b channel.A from done) _ (h.delays_a a b from) (delay_at-more a b channel.A from done r _ e);
  delays_b = λ a b from. kept (get delay_cmp d.delays_b (delay_key a b from)) (delay_at a b channel.B from done) _ (h.delays_b a b from) (delay_at-more a b channel.B from done r _ e);
  proper = record {
    count = h.proper.count;
    starts = h.proper.starts;
    lengths = λ key.
        still IsMicrotickLength ((l.node == key.node) && (l.from == key.from)) l.ticks (get length_cmp new key) (get length_cmp d.lengths key) (value key.node key.from) proper (h.proper.lengths key);
    delays_a = h.proper.delays_a;
    delays_b = h.proper.delays_b;
    starts_ordered = h.proper.starts_ordered;
    lengths_ordered = put.ordered;
    delays_a_ordered = h.proper.delays_a_ordered;
    delays_b_ordered = h.proper.delays_b_ordered;
  };
}
  where
    value : (node from : ℕ) → get length_cmp new (length_key node from) ≡ cond ((l.node == node) && (l.from == from)) (Some l.ticks) (get length_cmp d.lengths (length_key node from))
    value node from =
        put.filled (length_key node from)
        ∙ ap (λ (b : Bool). cond b (Some l.ticks) (get length_cmp d.lengths (length_key node from))) (length-ties l.node l.from node from)

-- the row of a delay on a channel, in a table of that channel that was empty there
module _ (ch : Channel) (old new : BTreeMap DelayKey ℤ) (done : List FileRecord) (r : FileRecord) (d : DelayRow)
    (same : (a b from : ℕ) → get delay_cmp old (delay_key a b from) ≡ delay_at a b ch from done)
    (put : IsNewEntryPut delay_cmp old new (delay_key d.sender d.receiver d.from) d.ticks) where
  hits : ℕ → ℕ → ℕ → Bool
  hits a b from = (d.sender == a) && ((d.receiver == b) && (d.from == from))

  value : (a b from : ℕ) → get delay_cmp new (delay_key a b from) ≡ cond (hits a b from) (Some d.ticks) (get delay_cmp old (delay_key a b from))
  unfolding hits
  value a b from =
      put.filled (delay_key a b from)
      ∙ ap (λ (t : Bool). cond t (Some d.ticks) (get delay_cmp old (delay_key a b from))) (delay-ties d.sender d.receiver d.from a b from)

  put-delay : (a b from : ℕ) (after : Option ℤ) → after ≡ or_else (delay_at a b ch from done) (cond (hits a b from) (Some d.ticks) None)
      → get delay_cmp new (delay_key a b from) ≡ after
  unfolding hits
  put-delay a b from after more =
      filled (hits a b from) d.ticks (get delay_cmp new (delay_key a b from)) (get delay_cmp old (delay_key a b from)) (delay_at a b ch from done) after
      (value a b from) more (same a b from)
      (λ yes. let one = three-same d.sender a d.receiver b d.from from yes in sym (same a b from) ∙ rw (one.0, one.1, one.2) put.empty)

  put-proper : IsProperDelay d.ticks → (key : DelayKey) → IfSome (get delay_cmp old key) IsProperDelay → IfSome (get delay_cmp new key) IsProperDelay
  put-proper proper key there =
      still IsProperDelay (hits key.sender key.receiver key.from) d.ticks (get delay_cmp new key) (get delay_cmp old key) (value key.sender key.receiver key.from) proper there

-- what a row of a delay says of its own channel, and of the other
on_own : (ch : Channel) (d : DelayRow) (a b from : ℕ) → d.channel ≡ Some ch
    → delay_in a b ch from (Ok (row.Delay d)) ≡ cond ((d.sender == a) && ((d.receiver == b) && (d.from == from))) (Some d.ticks) None
on_own channel.A d a b from e = rw e refl
on_own channel.B d a b from e = rw e refl

a_not_b : (d : DelayRow) (a b from : ℕ) → d.channel ≡ Some channel.A → delay_in a b channel.B from (Ok (row.Delay d)) ≡ None
a_not_b d a b from e = rw e refl

b_not_a : (d : DelayRow) (a b from : ℕ) → d.channel ≡ Some channel.B → delay_in a b channel.A from (Ok (row.Delay d)) ≡ None
b_not_a d a b from e = rw e refl

-- a delay that was not there is taken
pub draft-delay_a : (t : Draft) (new : BTreeMap DelayKey ℤ) (done : List FileRecord) (r : FileRecord) (d : DelayRow) → IsDriftDraft t done
    → drift_row_of r ≡ Ok (row.Delay d) → d.channel ≡ Some channel.A → IsProperDelay d.ticks
    → IsNewEntryPut delay_cmp t.delays_a new (delay_key d.sender d.receiver d.from) d.ticks
    → IsDriftDraft (record t { delays_a = new }) (done ++ r ∷ [])
unfolding hits
draft-delay_a t new done r d h e on proper put = record {
  doubles = kept t.doubles (doubles_at done) _ h.doubles (doubles_at-more done r _ e);
  starts = λ node. kept (get nat_cmp t.starts node) (start_at node done) _ (h.starts node) (start_at-more node done r _ e);
  lengths = λ node from. kept (get length_cmp t.lengths (length_key node from)) (length_said_at node from done) _ (h.lengths node from) (length_at-more node from done r _ e);
  delays_a = λ a b from.
      put-delay channel.A t.delays_a new done r d h.delays_a put a b from _
      (delay_at-more a b channel.A from done r _ e ∙ ap (λ (o : Option ℤ). or_else (delay_at a b channel.A from done) o) (on_own channel.A d a b from on));
  delays_b = λ a b from.
      kept (get delay_cmp t.delays_b (delay_key a b from)) (delay_at a b channel.B from done) _ (h.delays_b a b from)
      (delay_at-more a b channel.B from done r _ e ∙ ap (λ (o : Option ℤ). or_else (delay_at a b channel.B from done) o) (a_not_b d a b from on));
  proper = record {
    count = h.proper.count;
    starts = h.proper.starts;
    lengths = h.proper.lengths;
    delays_a = λ key. put-proper channel.A t.delays_a new done r d h.delays_a put proper key (h.proper.delays_a key);
    delays_b = h.proper.delays_b;
    starts_ordered = h.proper.starts_ordered;
    lengths_ordered = h.proper.lengths_ordered;
    delays_a_ordered = put.ordered;
    delays_b_ordered = h.proper.delays_b_ordered;
  };
}

pub draft-delay_b : (t : Draft) (new : BTreeMap DelayKey ℤ) (done : List FileRecord) (r : FileRecord) (d : DelayRow) → IsDriftDraft t done
    → drift_row_of r ≡ Ok (row.Delay d) → d.channel ≡ Some channel.B → IsProperDelay d.ticks
    → IsNewEntryPut delay_cmp t.delays_b new (delay_key d.sender d.receiver d.from) d.ticks
    → IsDriftDraft (record t { delays_b = new }) (done ++ r ∷ [])
unfolding hits
draft-delay_b t new done r d h e on proper put = record {
  doubles = kept t.doubles (doubles_at done) _ h.doubles (doubles_at-more done r _ e);
  starts = λ node. kept (get nat_cmp t.starts node) (start_at node done) _ (h.starts node) (start_at-more node done r _ e);
  lengths = λ node from. kept (get length_cmp t.lengths (length_key node from)) (length_said_at node from done) _ (h.lengths node from) (length_at-more node from done r _ e);
  delays_a = λ a b from.
      kept (get delay_cmp t.delays_a (delay_key a b from)) (delay_at a b channel.A from done) _ (h.delays_a a b from)
      (delay_at-more a b channel.A from done r _ e ∙ ap (λ (o : Option ℤ). or_else (delay_at a b channel.A from done) o) (b_not_a d a b from on));
  delays_b = λ a b from.
      put-delay channel.B t.delays_b new done r d h.delays_b put a b from _
      (delay_at-more a b channel.B from done r _ e ∙ ap (λ (o : Option ℤ). or_else (delay_at a b channel.B from done) o) (on_own channel.B d a b from on));
  proper = record {
    count = h.proper.count;
    starts = h.proper.starts;
    lengths = h.proper.lengths;
    delays_a = h.proper.delays_a;
    delays_b = λ key. put-proper channel.B t.delays_b new done r d h.delays_b put proper key (h.proper.delays_b key);
    starts_ordered = h.proper.starts_ordered;
    lengths_ordered = h.proper.lengths_ordered;
    delays_a_ordered = h.proper.delays_a_ordered;
    delays_b_ordered = put.ordered;
  };
}

-- tables of nothing
pub draft-nil : (d : Draft) → d.doubles ≡ None → d.starts.entries ≡ [] → d.lengths.entries ≡ [] → d.delays_a.entries ≡ [] → d.delays_b.entries ≡ []
    → IsOrdered nat_cmp d.starts → IsOrdered length_cmp d.lengths → IsOrdered delay_cmp d.delays_a → IsOrdered delay_cmp d.delays_b → IsDriftDraft d []
draft-nil d n s l a b so lo ao bo = record {
  doubles = n ∙ sym (looked_up-nil (λ q. doubles_in (drift_row_of q)));
  starts = λ node. rw s (sym (looked_up-nil (λ q. start_in node (drift_row_of q))));
  lengths = λ node from. rw l (sym (looked_up-nil (λ q. length_in node from (drift_row_of q))));
  delays_a = λ i j from. rw a (sym (looked_up-nil (λ q. delay_in i j channel.A from (drift_row_of q))));
  delays_b = λ i j from. rw b (sym (looked_up-nil (λ q. delay_in i j channel.B from (drift_row_of q))));
  proper = record {
    count = rw n tt;
    starts = λ node. rw s tt;
    lengths = λ key. rw l tt;
    delays_a = λ key. rw a tt;
    delays_b = λ key. rw b tt;
    starts_ordered = so;
    lengths_ordered = lo;
    delays_a_ordered = ao;
    delays_b_ordered = bo;
  };
}

-- what holds of a value that is there, by what holds of it
pub if_ok-map : {A E : Type 0} (r : Result A E) (P Q : A → Type 0) → ((x : A) → P x → Q x) → IfOk r P → IfOk r Q
if_ok-map (Ok x) P Q f h = f x h
if_ok-map (Err e) P Q f h = h
