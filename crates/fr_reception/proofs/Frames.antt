-- The regular frame of a slot with a sender is a frame.
use Rattle.std.proofs.Common.{◌≡◌, ℕ, ℤ, pos, ◌+◌, ◌^◌, ◌<◌, ◌≤◌, Bool, true, false, List, [], ◌∷◌, length, Option, Some, None, inl, inr, refl, sym, ◌∙◌, subst, lit<, arith}
use Rattle.std.specs.Prelude.{All, IfSome, find, nat_abs, ◌≤ℤ◌, ◌==◌}
use Rattle.std.specs.List.{range_with_len}
use Rattle.std.specs.Option.{option_map, option_or}
use Rattle.std.proofs.lemmas.Bool.{cases_Bool, and_parts, eqb-true}
use Rattle.std.proofs.lemmas.Int.{ints}
use Rattle.std.proofs.lemmas.Nat.{mod_below}
use Rattle.std.proofs.lemmas.List.{length-replicate}
use Rattle.std.proofs.lemmas.List.FromFn.{length-map-range_with_len}
use Rattle.std.proofs.lemmas.List.Elements.{All-head, All-tail, All-replicate, All-map}
use Rattle.fr_base.specs.declared.channel.Channel.{Channel}
use Rattle.fr_frame.proofs.Exact.{lengths_fit}
use Rattle.fr_frame.specs.Frame.{IsFrame}
use Rattle.fr_frame.specs.Refusal.{IsAccepted}
use Rattle.fr_frame.proofs.Exact.{accepted_frame}
use Rattle.fr_frame.proofs.Found.{frame_small}
use Rattle.fr_cluster.specs.Values.{Values, amount}
use Rattle.fr_cluster.specs.Sane.{IsSane, IsSaneNode, IsSaneSlot}
use Rattle.fr_cluster.specs.declared.names.ParamName.TheVariants as name
use Rattle.fr_cluster.specs.declared.nodes.NodeSpec.{NodeSpec}
use Rattle.fr_cluster.specs.declared.nodes.SlotSpec.{SlotSpec}
use Rattle.fr_cluster.specs.Searches.{is_key}
use Rattle.fr_time.specs.Senders.{key_node_of, further_slot_of, sync_sending, further_sending, sender_of}
use Rattle.fr_time.specs.declared.senders.Sending.{Sending}
use Rattle.fr_cluster.specs.Questions.{is_coldstart}
use Rattle.fr_reception.specs.Regular.{has_payload, is_sync_frame, payload_byte, payload_bytes, payload_of, regular_header, regular_payload, regular_frame}

-- what is found passes the test, and is what all elements are
find_holds : {X : Type 0} (P : X → Type 0) (test : X → Bool) (xs : List X) (x : X) → All P xs → find test xs ≡ Some x → P x × (test x ≡ true)
find_holds P test [] x all found = cc
find_holds P test (y ∷ ys) x all found = elim (cases_Bool (test y)) [
  | inl passes ↦
      let here : find test (y ∷ ys) ≡ Some y = rw passes refl in
      let same : y ≡ x = cc in
      (subst P same (All-head P y ys all), subst (λ z. test z ≡ true) same passes)
  | inr fails ↦
      let rest : find test (y ∷ ys) ≡ find test ys = rw fails refl in
      find_holds P test ys x (All-tail P y ys all) (sym rest ∙ found)
]

-- ---- a slot with a sender has a slot's number
key_number : (key : Option ℕ) (slot : ℕ) → IfSome key (λ number. (1 ≤ number) × (number ≤ 1023)) → is_key key slot ≡ true → (1 ≤ slot) × (slot ≤ 1023)
key_number None slot proper is = cc
key_number (Some key) slot proper is = let same : key ≡ slot = eqb-true key slot is in (omega (arith, same, proper.0), omega (arith, same, proper.1))

sender_number : (p : Values) (slot cycle : ℕ) (sending : Sending) (key : Option NodeSpec) (further : Option SlotSpec) → IsSane p → key_node_of p slot ≡ key → further_slot_of p slot ≡ further →
    option_or (option_map sync_sending key) (option_map (further_sending cycle) further) ≡ Some sending → (1 ≤ slot) × (slot ≤ 1023)
sender_number p slot cycle sending (Some node) further sane found other sends =
    let holds : IsSaneNode node × (is_key node.key slot ≡ true) = find_holds IsSaneNode (λ n. is_key n.key slot) p.nodes node sane.lists.nodes_sane found in
    key_number node.key slot holds.0.proper.key holds.1
sender_number p slot cycle sending None (Some spec) sane none found sends =
    let holds : IsSaneSlot p.nodes spec × ((spec.slot == slot) ≡ true) = find_holds (IsSaneSlot p.nodes) (λ s. s.slot == slot) p.slots spec sane.lists.slots_sane found in
    let same : spec.slot ≡ slot = eqb-true spec.slot slot holds.1 in
    (omega (arith, same, holds.0.proper.from), omega (arith, same, holds.0.proper.to))
sender_number p slot cycle sending None None sane none neither sends = cc

pub slot_number : (p : Values) (slot cycle : ℕ) (sending : Sending) → IsSane p → sender_of p slot cycle ≡ Some sending → (1 ≤ slot) × (slot ≤ 1023)
slot_number p slot cycle sending sane sends = sender_number p slot cycle sending (key_node_of p slot) (further_slot_of p slot) sane refl refl sends

-- ---- the payload
magnitude_le : (z : ℤ) (greatest : ℕ) → pos 0 ≤ℤ z → z ≤ℤ pos greatest → nat_abs z ≤ greatest
magnitude_le z greatest from to = omega (arith, ints)

pub words_fit : (p : Values) → IsSane p → amount p name.gPayloadLengthStatic ≤ 127
words_fit p sane = let range = sane.ranges name.gPayloadLengthStatic in magnitude_le p.words 127 range.0 range.1

pub length-payload_of : (valid : Bool) (count slot cycle : ℕ) → length (payload_of valid count slot cycle) ≡ count
length-payload_of true count slot cycle = length-map-range_with_len (payload_byte slot cycle) 0 count
length-payload_of false count slot cycle = length-replicate count 0

pub payload_of-small : (valid : Bool) (count slot cycle : ℕ) → All (λ byte. byte < 2 ^ 8) (payload_of valid count slot cycle)
payload_of-small true count slot cycle =
    All-map (λ byte. byte < 2 ^ 8) (payload_byte slot cycle) (range_with_len 0 count) (λ k d within. mod_below _ 256 (lit< tt))
payload_of-small false count slot cycle = All-replicate (λ byte. byte < 2 ^ 8) count 0 (lit< tt)

-- ---- the frame
pub regular_is_accepted : (p : Values) (sending : Sending) (slot cycle : ℕ) → IsSane p → sender_of p slot cycle ≡ Some sending →
    IsAccepted (regular_header p sending slot cycle) (length (regular_payload p sending slot cycle)) (8 + payload_bytes p)
regular_is_accepted p sending slot cycle sane sends =
    let number : (1 ≤ slot) × (slot ≤ 1023) = slot_number p slot cycle sending sane sends in
    let long : length (regular_payload p sending slot cycle) ≡ payload_bytes p = length-payload_of (has_payload sending.kind) (payload_bytes p) slot cycle in
    record {
      good_flags = record {
        good_payload = record {
          good_cycle = record { good_id = record { id_some = number.0; id_fits = omega (arith, number.1) }; cycle_fits = omega arith };
          words_fit = words_fit p sane;
          payload_length = long;
        };
        startup_in_sync = λ startup. (and_parts (is_sync_frame sending.kind) (is_coldstart p sending.node) startup).0;
      };
      enough = omega (arith, long);
    }

pub regular_is_frame : (p : Values) (sending : Sending) (slot cycle : ℕ) (channel : Channel) → IsSane p → sender_of p slot cycle ≡ Some sending →
    IsFrame channel (regular_header p sending slot cycle) (regular_payload p sending slot cycle) (regular_frame p sending slot cycle channel)
unfolding regular_frame
regular_is_frame p sending slot cycle channel sane sends =
    accepted_frame channel (regular_header p sending slot cycle) (regular_payload p sending slot cycle) (8 + payload_bytes p) (regular_is_accepted p sending slot cycle sane sends)

pub regular_is_of_bytes : (p : Values) (sending : Sending) (slot cycle : ℕ) (channel : Channel) → IsSane p → sender_of p slot cycle ≡ Some sending →
    All (λ byte. byte < 2 ^ 8) (regular_frame p sending slot cycle channel)
regular_is_of_bytes p sending slot cycle channel sane sends =
    frame_small channel (regular_header p sending slot cycle) (regular_payload p sending slot cycle) (regular_frame p sending slot cycle channel)
    (regular_is_frame p sending slot cycle channel sane sends) (payload_of-small (has_payload sending.kind) (payload_bytes p) slot cycle)

pub length-regular_frame : (p : Values) (sending : Sending) (slot cycle : ℕ) (channel : Channel) → IsSane p → sender_of p slot cycle ≡ Some sending →
    length (regular_frame p sending slot cycle channel) ≡ 8 + payload_bytes p
length-regular_frame p sending slot cycle channel sane sends =
    (lengths_fit channel (regular_header p sending slot cycle) (regular_payload p sending slot cycle) (regular_frame p sending slot cycle channel) (regular_is_frame p sending slot cycle channel sane sends)).0
