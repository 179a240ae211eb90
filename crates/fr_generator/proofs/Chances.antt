-- The records that are drawn for a script are accepted.
use Rattle.std.proofs.Common.{◌≡◌, ◌<◌, ◌≤◌, ◌+◌, ℕ, zero, suc, ℤ, Bool, true, false, List, [], ◌∷◌, ◌++◌, Option, Some, None, Result, Ok, ap, subst, ◌∙◌, refl, arith, add-one}
use Rattle.std.specs.Prelude.{◌==◌, ◌&&◌, ◌||◌, ◌/◌, ◌%◌, if◌then◌else◌}
use Rattle.std.proofs.lemmas.Bool.Decides.{nat_tests}
use Rattle.std.proofs.lemmas.Int.{ints}
use Rattle.fr_base.specs.declared.channel.Channel.{Channel}
use Rattle.fr_base.specs.declared.reason.Reason.{Reason}
use Rattle.fr_text.specs.Records.{FileRecord}
use Rattle.fr_text.specs.Fields.{is_channel, looked_up, or_else}
use Rattle.fr_text.specs.Refusal.{NoneRefused}
use Rattle.fr_text.proofs.Cuts.{none-empty, none-more}
use Rattle.fr_script.specs.Deeds.{passage_of}
use Rattle.fr_script.specs.Deed.{IsProperSay}
use Rattle.fr_script.specs.Rows.{script_row_of}
use Rattle.fr_script.specs.Reasons.{deed_by, deed_reason, deed_said, is_misplaced, is_named_in, script_reason_after, script_row_reason}
use Rattle.fr_script.specs.Written.{arbitrary_record, say_record}
use Rattle.fr_script.specs.declared.deed.Deed.{Deed}
use Rattle.fr_script.specs.declared.deed.Deed.TheVariants as deed
use Rattle.fr_script.specs.declared.rows.Row.{Row}
use Rattle.fr_script.specs.declared.rows.Row.TheVariants as row
use Rattle.fr_script.proofs.Adding.{said_row, says-arbitrary, says-say}
use Rattle.fr_script.proofs.Tables.{deed_by-more, is_named-more, or-false}
use Rattle.fr_generator.specs.Cluster.{made_values, nodes_to}
use Rattle.fr_generator.specs.Drawn.{draw, drawn_from, in_turn, rest}
use Rattle.fr_generator.specs.Places.{chance_at, channel_at}
use Rattle.fr_generator.specs.Steps.{after_chance, said_of_chance, shift_drawn}
use Rattle.fr_generator.proofs.MadeCluster.{both, known}
use Rattle.fr_generator.proofs.Apart.{both-first, both-second, chance-same, other, same, untrue}
use Rattle.rand_pcg.specs.Lcg.{Lcg}

-- the first chances are taken, and no more
pub record AreChances (count : ℕ) (records : List FileRecord) : Type 0 where
  pub accepted : NoneRefused (script_reason_after made_values) records
  pub named : (node : ℕ) → is_named_in node records ≡ ((7 == node) || (8 == node))
  pub free : (place : ℕ) → count ≤ place
      → deed_by (chance_at place).link.channel (passage_of (chance_at place).link.sender (chance_at place).link.receiver (chance_at place).cycle) records ≡ None

seven : script_row_of (arbitrary_record 7) ≡ Ok (row.Arbitrary 7)
seven = says-arbitrary 7 (omega arith) (omega arith)

eight : script_row_of (arbitrary_record 8) ≡ Ok (row.Arbitrary 8)
eight = says-arbitrary 8 (omega arith) (omega arith)

-- the first arbitrary node is accepted, and the second behind it
pub first-accepted : NoneRefused (script_reason_after made_values) (arbitrary_record 7 ∷ [])
unfolding nodes_to
first-accepted =
    none-more (script_reason_after made_values) [] (arbitrary_record 7) (none-empty (script_reason_after made_values))
    (ap (λ (x : Result Row Reason). script_row_reason made_values [] x) seven)

pub second-accepted : NoneRefused (script_reason_after made_values) (arbitrary_record 7 ∷ arbitrary_record 8 ∷ [])
unfolding nodes_to
second-accepted =
    none-more (script_reason_after made_values) (arbitrary_record 7 ∷ []) (arbitrary_record 8) first-accepted
    (ap (λ (x : Result Row Reason). script_row_reason made_values (arbitrary_record 7 ∷ []) x) eight ∙ rw seven refl)

chances-none : AreChances 0 (arbitrary_record 7 ∷ arbitrary_record 8 ∷ [])
unfolding looked_up
chances-none = record {
  accepted = second-accepted;
  named = λ node. rw (seven, eight) (ap (λ (b : Bool). (7 == node) || b) (or-false (8 == node)));
  free = λ place above. rw (seven, eight) refl;
}

proper-say : (words : Lcg) → IsProperSay (shift_drawn words) None
proper-say words = record { from = omega (arith, ints); to = omega (arith, ints); said = tt }

seven-or-eight : (n : ℕ) → 7 ≤ n → n ≤ 8 → ((7 == n) || (8 == n)) ≡ true
seven-or-eight n low high = grind (arith, nat_tests)

below-seven : (n : ℕ) → n ≤ 6 → ((7 == n) || (8 == n)) ≡ false
below-seven n high = grind (arith, nat_tests)

-- what is said by a node from 7 on to one below it is placed
placed : (records : List FileRecord) (a b cycle : ℕ) → ((node : ℕ) → is_named_in node records ≡ ((7 == node) || (8 == node))) → 7 ≤ a → a ≤ 8 → b ≤ 6
    → is_misplaced records (passage_of a b cycle) true ≡ false
placed records a b cycle h la ha hb = rw (h a, h b, seven-or-eight a la ha, below-seven b hb, other a b (λ is. absurd (omega (arith, is)))) refl

said-fine : (records : List FileRecord) (a b cycle : ℕ) (ch : Channel) (shift : ℤ) → ((node : ℕ) → is_named_in node records ≡ ((7 == node) || (8 == node))) → 7 ≤ a → a ≤ 8 → 1 ≤ b → b ≤ 6
    → deed_by ch (passage_of a b cycle) records ≡ None → deed_reason made_values records (said_row cycle a b ch shift) ≡ None
said-fine records a b cycle ch shift h la ha lb hb free =
    rw (both a b ch (omega arith) ha lb (omega arith), known a (omega arith) ha, known b lb (omega arith), placed records a b cycle h la ha hb, free) refl

-- the frame of one chance is no frame of a later one
module _ (place later : ℕ) (above : place + 1 ≤ later) (shift : ℤ) where
  quiet : deed_said (chance_at later).link.channel (passage_of (chance_at later).link.sender (chance_at later).link.receiver (chance_at later).cycle)
      (Ok (row.Deed (said_row (place / 24) (place % 24 / 12 + 7) (place % 24 % 12 / 2 + 1) (channel_at (place % 24 % 12)) shift)))
      ≡ None
  quiet =
      let on : Bool = is_channel (channel_at (later % 24 % 12)) (Some (channel_at (place % 24 % 12))) in
      let senders : Bool = place % 24 / 12 + 7 == later % 24 / 12 + 7 in
      let receivers : Bool = place % 24 % 12 / 2 + 1 == later % 24 % 12 / 2 + 1 in
      let cycles : Bool = place / 24 == later / 24 in
      let no : (on && ((senders && receivers) && cycles)) ≡ false = untrue (on && ((senders && receivers) && cycles)) (λ yes.
      let parts = both-second on ((senders && receivers) && cycles) yes in
      let ends = both-first (senders && receivers) cycles parts in
      let is : place ≡ later = chance-same place later (same (place / 24) (later / 24) (both-second (senders && receivers) cycles parts))
      (same (place % 24 / 12 + 7) (later % 24 / 12 + 7) (both-first senders receivers ends))
      (same (place % 24 % 12 / 2 + 1) (later % 24 % 12 / 2 + 1) (both-second senders receivers ends)) (both-first on ((senders && receivers) && cycles) yes) in
      absurd (omega arith)) in
      ap (λ (b : Bool). if b then Some (deed.Say shift None) else None) no

-- a chance that is taken by a frame
chance-said : (place : ℕ) (records : List FileRecord) (shift : ℤ) → place < 480_000 → IsProperSay shift None → AreChances place records → AreChances (place + 1) (records ++ said_of_chance (chance_at place) shift ∷ [])
unfolding quiet
chance-said place records shift room proper h = record {
  accepted = none-more (script_reason_after made_values) records r h.accepted (ap (λ (x : Result Row Reason). script_row_reason made_values records x) says ∙ fine);
  named = λ node. is_named-more node records r _ says ∙ or-false (is_named_in node records) ∙ h.named node;
  free = λ later above.
      deed_by-more (chance_at later).link.channel (passage_of (chance_at later).link.sender (chance_at later).link.receiver (chance_at later).cycle) records r _ says
      ∙ ap (λ (o : Option Deed). or_else o (deed_said (chance_at later).link.channel (passage_of (chance_at later).link.sender (chance_at later).link.receiver (chance_at later).cycle)
      (Ok (row.Deed (said_row (place / 24) (place % 24 / 12 + 7) (place % 24 % 12 / 2 + 1) (channel_at (place % 24 % 12)) shift))))) (h.free later (omega arith))
      ∙ quiet place later above shift;
}
  where
    r : FileRecord
    r = say_record (place / 24) (place % 24 / 12 + 7) (place % 24 % 12 / 2 + 1) (channel_at (place % 24 % 12)) shift

    says : script_row_of (say_record (place / 24) (place % 24 / 12 + 7) (place % 24 % 12 / 2 + 1) (channel_at (place % 24 % 12)) shift)
        ≡ Ok (row.Deed (said_row (place / 24) (place % 24 / 12 + 7) (place % 24 % 12 / 2 + 1) (channel_at (place % 24 % 12)) shift))
    says =
        says-say (place / 24) (place % 24 / 12 + 7) (place % 24 % 12 / 2 + 1) (channel_at (place % 24 % 12)) shift (omega arith) (omega arith) (omega arith) (omega arith) (omega arith) proper

    fine : deed_reason made_values records (said_row (place / 24) (place % 24 / 12 + 7) (place % 24 % 12 / 2 + 1) (channel_at (place % 24 % 12)) shift) ≡ None
    fine =
        said-fine records (place % 24 / 12 + 7) (place % 24 % 12 / 2 + 1) (place / 24) (channel_at (place % 24 % 12)) shift h.named (omega arith) (omega arith) (omega arith) (omega arith)
        (h.free place (omega arith))

-- or is not taken
chance-left : (place : ℕ) (records : List FileRecord) → AreChances place records → AreChances (place + 1) records
chance-left place records h = record { accepted = h.accepted; named = h.named; free = λ later above. h.free later (omega arith) }

pub chance-more : (place : ℕ) (records : List FileRecord) (words : Lcg) → place < 480_000 → AreChances place records → AreChances (place + 1) (after_chance place (drawn_from records words)).records
chance-more place records words room h = by (draw words % 4 == 0)
  where
    by : (b : Bool)
        → AreChances (place + 1)
        (if b then drawn_from records (rest words)
        else drawn_from (records ++ said_of_chance (chance_at place) (shift_drawn (rest words)) ∷ []) (rest (rest words))).records
    by true = chance-left place records h
    by false = chance-said place records (shift_drawn (rest words)) room (proper-say (rest words)) h

-- the chances in turn
pub chances-to : (words : Lcg) (count : ℕ) → count ≤ 480_000 → AreChances count (in_turn after_chance count (drawn_from (arbitrary_record 7 ∷ arbitrary_record 8 ∷ []) words)).records
unfolding in_turn
chances-to words zero few = chances-none
chances-to words (suc count) few =
    let before = in_turn after_chance count (drawn_from (arbitrary_record 7 ∷ arbitrary_record 8 ∷ []) words) in
    let P : ℕ → Type 0 = λ k. AreChances k (after_chance count before).records in
    subst P (add-one count) (chance-more count before.records before.words (omega arith) (chances-to words count (omega arith)))
