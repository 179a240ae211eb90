-- A script with one record more stands for the records with that one more.
use Rattle.std.proofs.Common.{◌≡◌, ◌≤◌, ℕ, ℤ, Bool, true, false, List, [], ◌∷◌, ◌++◌, Option, Some, None, Result, Ok, Err, ap, sym, ◌∙◌, refl, arith, replicate}
use Rattle.std.specs.Prelude.{not, is_some, neg_ℤ, slice_set, if◌then◌else◌}
use Rattle.std.proofs.lemmas.Int.{ints}
use Rattle.std.proofs.lemmas.List.{length-replicate, length-set}
use Rattle.fr_base.specs.Channels.{channel_of, letter}
use Rattle.fr_base.specs.declared.channel.Channel.{Channel}
use Rattle.fr_base.specs.declared.channel.Channel.TheVariants as channel
use Rattle.fr_base.specs.declared.reason.Reason.{Reason}
use Rattle.fr_base.specs.declared.reason.Reason.TheVariants as reason
use Rattle.fr_text.specs.Records.{FileRecord}
use Rattle.fr_text.proofs.Cuts.{none-empty}
use Rattle.fr_text.proofs.Lookups.{looked_up-nil, or_else-none}
use Rattle.fr_text.proofs.Written.{natural-decimal, within-signed}
use Rattle.fr_cluster.specs.Values.{Values}
use Rattle.fr_cluster.specs.Questions.{is_common}
use Rattle.fr_script.specs.Deeds.{deed_in, passage_of, DeedsAscend}
use Rattle.fr_script.specs.Deed.{farthest, IsProperDeed, IsProperSay}
use Rattle.fr_script.specs.Rows.{script_row_of}
use Rattle.fr_script.specs.Reasons.{deed_by, deed_reason, is_misplaced, is_named_in, join_said, knows_both, script_reason_after, script_row_reason}
use Rattle.fr_script.specs.View.{AreDeeds, IsScript, ScriptView, deeds_on, is_arbitrary, join_of}
use Rattle.fr_script.specs.Files.{ScriptFits, ScriptStandsFor}
use Rattle.fr_script.specs.Written.{arbitrary_record, say_record}
use Rattle.fr_script.specs.Adding.{AddsScriptRecord, EntersDeed, HasScriptRecord, IsDeedEntered, TakesScriptRecord}
use Rattle.fr_script.specs.declared.deed.Deed.{Deed}
use Rattle.fr_script.specs.declared.deed.Deed.TheVariants as deed
use Rattle.fr_script.specs.declared.deeds.Passage.{Passage}
use Rattle.fr_script.specs.declared.fault.ScriptFault.{ScriptFault}
use Rattle.fr_script.specs.declared.rows.DeedRow.{DeedRow}
use Rattle.fr_script.specs.declared.rows.Row.{Row}
use Rattle.fr_script.specs.declared.rows.Row.TheVariants as row
use Rattle.fr_script.proofs.Tables.{deed_by-more, deed_by-nil, deed_in-nil, deed_line, deeds-nil, deeds-put, is_named-more, join_by-more, kept, marked, no-joins, nothing-named, or-false, taken}

-- what is written is read
pub says-arbitrary : (node : ℕ) → 1 ≤ node → node ≤ 64 → script_row_of (arbitrary_record node) ≡ Ok (row.Arbitrary node)
unfolding script_row_of
says-arbitrary node low high = rw (natural-decimal 1 64 node low high (omega arith)) refl

spelt : (ch : Channel) → channel_of (letter ch) ≡ Some ch
spelt channel.A = refl
spelt channel.B = refl

-- the row by which a frame is said
abbrev pub said_row : ℕ → ℕ → ℕ → Channel → ℤ → DeedRow
said_row cycle sender receiver ch shift = record { passage = passage_of sender receiver cycle; channel = Some ch; deed = Some (deed.Say shift None) }

pub says-say : (cycle sender receiver : ℕ) (ch : Channel) (shift : ℤ) → cycle ≤ 199_999 → 1 ≤ sender → sender ≤ 64 → 1 ≤ receiver → receiver ≤ 64 → IsProperSay shift None
    → script_row_of (say_record cycle sender receiver ch shift) ≡ Ok (row.Deed (said_row cycle sender receiver ch shift))
unfolding script_row_of
says-say cycle sender receiver ch shift late a b c d h =
    rw (
      natural-decimal 0 199_999 cycle (omega arith) late (omega arith),
      natural-decimal 1 64 sender a b (omega arith),
      natural-decimal 1 64 receiver c d (omega arith),
      within-signed (neg_ℤ farthest) farthest shift (omega (arith, ints)) (omega (arith, ints)) h.from h.to,
      spelt ch,
    )
    refl

-- the script of no records
pub none-stands : (s : ScriptView) → s.arbitrary ≡ replicate 65 false → s.joins ≡ replicate 65 None → s.on_a ≡ [] → s.on_b ≡ [] → ScriptStandsFor s []
unfolding is_arbitrary join_of
none-stands s marks joins a b = record {
  long = rw marks (length-replicate 65 false);
  joins_long = rw joins no-joins.0;
  nodes = λ k h. rw marks (nothing-named k h);
  joins = λ k h. rw joins (no-joins.1 k h ∙ sym (looked_up-nil (λ r. join_said k (script_row_of r))));
  deeds = λ ch q. deeds ch q;
  ascending = λ ch. ascending ch;
}
  where
    deeds : (ch : Channel) (q : Passage) → deed_in (deeds_on s ch) q ≡ deed_by ch q []
    deeds channel.A q = rw a (deed_in-nil q ∙ deed_by-nil channel.A q)
    deeds channel.B q = rw b (deed_in-nil q ∙ deed_by-nil channel.B q)

    ascending : (ch : Channel) → DeedsAscend (deeds_on s ch)
    ascending channel.A = rw a deeds-nil.ascending
    ascending channel.B = rw b deeds-nil.ascending

pub none-sane : (s : ScriptView) → s.arbitrary ≡ replicate 65 false → s.joins ≡ replicate 65 None → s.on_a ≡ [] → s.on_b ≡ [] → IsScript s
none-sane s marks joins a b = record { long = rw marks (length-replicate 65 false); joins_long = rw joins no-joins.0; deeds_a = rw a deeds-nil; deeds_b = rw b deeds-nil }

pub none-fits : (p : Values) (s : ScriptView) → ScriptStandsFor s [] → ScriptFits p s
none-fits p s h = record { records = []; none_refused = none-empty (script_reason_after p); stands = h }

-- where a script stands for all records with one more, it fits
has : (p : Values) (before after : ScriptView) (r : FileRecord) → ((records : List FileRecord) → ScriptStandsFor before records → ScriptStandsFor after (records ++ r ∷ []))
    → TakesScriptRecord p before r → HasScriptRecord p before after r
has p before after r more t = record {
  stands = more;
  fits = record { records = t.records ++ r ∷ []; none_refused = t.accepted; stands = more t.records t.stands };
}

-- a node more is named
more-named : (s : ScriptView) (node : ℕ) (records : List FileRecord) (r : FileRecord) → node ≤ 64 → script_row_of r ≡ Ok (row.Arbitrary node) → ScriptStandsFor s records
    → ScriptStandsFor (record s { arbitrary = slice_set s.arbitrary node true }) (records ++ r ∷ [])
unfolding is_arbitrary join_of
more-named s node records r low e h = record {
  long = length-set s.arbitrary node true ∙ h.long;
  joins_long = h.joins_long;
  nodes = λ k below. marked s.arbitrary node k _ h.long low (h.nodes k below) ∙ sym (is_named-more k records r _ e);
  joins = λ k below. h.joins k below ∙ sym (join_by-more k records r _ e ∙ or_else-none _);
  deeds = λ ch q. deeds ch q;
  ascending = λ ch. ascending ch;
}
  where
    deeds : (ch : Channel) (q : Passage) → deed_in (deeds_on (record s { arbitrary = slice_set s.arbitrary node true }) ch) q ≡ deed_by ch q (records ++ r ∷ [])
    deeds channel.A q = h.deeds channel.A q ∙ sym (deed_by-more channel.A q records r _ e ∙ or_else-none _)
    deeds channel.B q = h.deeds channel.B q ∙ sym (deed_by-more channel.B q records r _ e ∙ or_else-none _)

    ascending : (ch : Channel) → DeedsAscend (deeds_on (record s { arbitrary = slice_set s.arbitrary node true }) ch)
    ascending channel.A = h.ascending channel.A
    ascending channel.B = h.ascending channel.B

pub adds-arbitrary : (p : Values) (s : ScriptView) (node : ℕ) (marks : List Bool) → node ≤ 64 → 1 ≤ node → marks ≡ slice_set s.arbitrary node true → TakesScriptRecord p s (arbitrary_record node)
    → HasScriptRecord p s (record s { arbitrary = marks }) (arbitrary_record node)
adds-arbitrary p s node marks low high e t =
    rw e (has p s (record s { arbitrary = slice_set s.arbitrary node true }) (arbitrary_record node)
    (λ records h. more-named s node records (arbitrary_record node) low (says-arbitrary node high low) h) t)

pub sane-arbitrary : (s : ScriptView) (node : ℕ) (marks : List Bool) → marks ≡ slice_set s.arbitrary node true → IsScript s → IsScript (record s { arbitrary = marks })
sane-arbitrary s node marks e h = rw e (record { long = length-set s.arbitrary node true ∙ h.long; joins_long = h.joins_long; deeds_a = h.deeds_a; deeds_b = h.deeds_b })

-- a deed more of channel A, and of channel B
more-deeds_a : (s : ScriptView) (new : List (Passage × Deed)) (passage : Passage) (what : Deed) (records : List FileRecord) (r : FileRecord) → script_row_of r ≡ deed_line channel.A passage what
    → deed_in s.on_a passage ≡ None → IsDeedEntered s.on_a new passage what → ScriptStandsFor s records → ScriptStandsFor (record s { on_a = new }) (records ++ r ∷ [])
unfolding is_arbitrary join_of
more-deeds_a s new passage what records r e empty put h = record {
  long = h.long;
  joins_long = h.joins_long;
  nodes = λ k below. h.nodes k below ∙ sym (is_named-more k records r _ e ∙ or-false (is_named_in k records));
  joins = λ k below. h.joins k below ∙ sym (join_by-more k records r _ e ∙ or_else-none _);
  deeds = λ ch q. deeds ch q;
  ascending = λ ch. ascending ch;
}
  where
    deeds : (ch : Channel) (q : Passage) → deed_in (deeds_on (record s { on_a = new }) ch) q ≡ deed_by ch q (records ++ r ∷ [])
    deeds channel.A q = taken channel.A records r s.on_a new passage what e refl (h.deeds channel.A) (sym (h.deeds channel.A passage) ∙ empty) put.there q
    deeds channel.B q = kept channel.B channel.A records r s.on_b passage what e refl (h.deeds channel.B) q

    ascending : (ch : Channel) → DeedsAscend (deeds_on (record s { on_a = new }) ch)
    ascending channel.A = put.ordered (h.ascending channel.A)
    ascending channel.B = h.ascending channel.B

more-deeds_b : (s : ScriptView) (new : List (Passage × Deed)) (passage : Passage) (what : Deed) (records : List FileRecord) (r : FileRecord) → script_row_of r ≡ deed_line channel.B passage what
    → deed_in s.on_b passage ≡ None → IsDeedEntered s.on_b new passage what → ScriptStandsFor s records → ScriptStandsFor (record s { on_b = new }) (records ++ r ∷ [])
unfolding is_arbitrary join_of
more-deeds_b s new passage what records r e empty put h = record {
  long = h.long;
  joins_long = h.joins_long;
  nodes = λ k below. h.nodes k below ∙ sym (is_named-more k records r _ e ∙ or-false (is_named_in k records));
  joins = λ k below. h.joins k below ∙ sym (join_by-more k records r _ e ∙ or_else-none _);
  deeds = λ ch q. deeds ch q;
  ascending = λ ch. ascending ch;
}
  where
    deeds : (ch : Channel) (q : Passage) → deed_in (deeds_on (record s { on_b = new }) ch) q ≡ deed_by ch q (records ++ r ∷ [])
    deeds channel.A q = kept channel.A channel.B records r s.on_a passage what e refl (h.deeds channel.A) q
    deeds channel.B q = taken channel.B records r s.on_b new passage what e refl (h.deeds channel.B) (sym (h.deeds channel.B passage) ∙ empty) put.there q

    ascending : (ch : Channel) → DeedsAscend (deeds_on (record s { on_b = new }) ch)
    ascending channel.A = h.ascending channel.A
    ascending channel.B = put.ordered (h.ascending channel.B)

repeated : {A : Type 0} (o : Option A) → (if is_some o then Some reason.Repeated else None) ≡ None → o ≡ None
repeated None h = refl
repeated (Some x) h = cc h

unless : (b : Bool) (why : Reason) (rest : Option Reason) → (if not b then Some why else rest) ≡ None → rest ≡ None
unless true why rest h = h
unless false why rest h = cc h

where_not : (b : Bool) (why : Reason) (rest : Option Reason) → (if b then Some why else rest) ≡ None → rest ≡ None
where_not true why rest h = cc h
where_not false why rest h = h

-- a record that is accepted is of a passage on a channel of which no record before it was
deed-free : (p : Values) (s : ScriptView) (r : FileRecord) (cycle sender receiver : ℕ) (ch : Channel) (shift : ℤ) → script_row_of r ≡ Ok (row.Deed (said_row cycle sender receiver ch shift))
    → TakesScriptRecord p s r → deed_in (deeds_on s ch) (passage_of sender receiver cycle) ≡ None
deed-free p s r cycle sender receiver ch shift says t =
    let passage : Passage = passage_of sender receiver cycle in
    let fine : deed_reason p t.records (said_row cycle sender receiver ch shift) ≡ None =
    ap (λ (x : Result Row Reason). script_row_reason p t.records x) (sym says) ∙ t.accepted t.records r [] refl
    in
    t.stands.deeds ch passage
    ∙ repeated (deed_by ch passage t.records)
    (unless (is_common p sender receiver ch) _ _ (where_not (is_misplaced t.records passage true) _ _ (unless (knows_both p passage) _ _ fine)))

-- the deeds of a channel stay deeds with one more
sane-deeds : (old new : List (Passage × Deed)) (passage : Passage) (what : Deed) (result : Result (Unit {0}) ScriptFault) → AreDeeds old → IsProperDeed what → EntersDeed old new passage what result → AreDeeds new
sane-deeds old new passage what (Ok done) h proper put = deeds-put old new passage what h proper put.there put.ordered
sane-deeds old new passage what (Err why) h proper put = rw put.1 h

pub sane-say_a : (s : ScriptView) (new : List (Passage × Deed)) (passage : Passage) (what : Deed) (result : Result (Unit {0}) ScriptFault) → IsScript s → IsProperDeed what
    → EntersDeed s.on_a new passage what result → IsScript (record s { on_a = new })
sane-say_a s new passage what result h proper put = record { long = h.long; joins_long = h.joins_long; deeds_a = sane-deeds s.on_a new passage what result h.deeds_a proper put; deeds_b = h.deeds_b }

pub sane-say_b : (s : ScriptView) (new : List (Passage × Deed)) (passage : Passage) (what : Deed) (result : Result (Unit {0}) ScriptFault) → IsScript s → IsProperDeed what
    → EntersDeed s.on_b new passage what result → IsScript (record s { on_b = new })
sane-say_b s new passage what result h proper put = record { long = h.long; joins_long = h.joins_long; deeds_a = h.deeds_a; deeds_b = sane-deeds s.on_b new passage what result h.deeds_b proper put }

pub adds-say_a : (p : Values) (s : ScriptView) (new : List (Passage × Deed)) (r : FileRecord) (cycle sender receiver : ℕ) (shift : ℤ) (result : Result (Unit {0}) ScriptFault)
    → script_row_of r ≡ Ok (row.Deed (said_row cycle sender receiver channel.A shift)) → TakesScriptRecord p s r
    → EntersDeed s.on_a new (passage_of sender receiver cycle) (deed.Say shift None) result → AddsScriptRecord p s (record s { on_a = new }) r result
adds-say_a p s new r cycle sender receiver shift (Ok done) says t put =
    has p s (record s { on_a = new }) r
    (λ records h.
    more-deeds_a s new (passage_of sender receiver cycle) (deed.Say shift None) records r says (deed-free p s r cycle sender receiver channel.A shift says t) put h)
    t
adds-say_a p s new r cycle sender receiver shift (Err why) says t put = (put.0, λ i. record s { on_a = put.1 i })

pub adds-say_b : (p : Values) (s : ScriptView) (new : List (Passage × Deed)) (r : FileRecord) (cycle sender receiver : ℕ) (shift : ℤ) (result : Result (Unit {0}) ScriptFault)
    → script_row_of r ≡ Ok (row.Deed (said_row cycle sender receiver channel.B shift)) → TakesScriptRecord p s r
    → EntersDeed s.on_b new (passage_of sender receiver cycle) (deed.Say shift None) result → AddsScriptRecord p s (record s { on_b = new }) r result
adds-say_b p s new r cycle sender receiver shift (Ok done) says t put =
    has p s (record s { on_b = new }) r
    (λ records h.
    more-deeds_b s new (passage_of sender receiver cycle) (deed.Say shift None) records r says (deed-free p s r cycle sender receiver channel.B shift says t) put h)
    t
adds-say_b p s new r cycle sender receiver shift (Err why) says t put = (put.0, λ i. record s { on_b = put.1 i })
