-- Where the deviations of a run's cycle come from: each is of a sender that sends and a receiver that hears.
use Rattle.std.proofs.Common.{◌≡◌, ◌≢◌, ◌⊎◌, inl, inr, ℕ, ◌==◌, ℤ, ◌+ℤ◌, ◌*ℤ◌, Bool, true, false, not, ◌&&◌, ◌||◌, List, [], ◌∷◌, map, Option, Some, None, IfSome, refl, ap, sym, ◌∙◌, subst, arith}
use Rattle.std.specs.Prelude.{All, Contains, count_by, is_none, nat_lt, option_and_then, if◌then◌else◌}
use Rattle.std.specs.List.{filter_map, flat_map, list_any}
use Rattle.std.specs.Option.{option_map, option_or, option_to_list}
use Rattle.std.proofs.lemmas.Bool.Decides.{nat_tests}
use Rattle.std.proofs.lemmas.List.Elements.{All-append, All-cons, All-nil}
use Rattle.std.proofs.lemmas.List.Folds.{flat_map-map}
use Rattle.fr_base.specs.Event.{Event}
use Rattle.fr_base.specs.Event.Event.{Flip, Regular, Say, Silent}
use Rattle.fr_base.specs.Rows.{dev_with}
use Rattle.fr_base.specs.States.{is_active, is_halted}
use Rattle.fr_base.specs.declared.channel.Channel.{Channel}
use Rattle.fr_base.specs.declared.dev.Dev.{Dev}
use Rattle.fr_base.specs.declared.node_row.NodeRow.{NodeRow}
use Rattle.fr_cluster.proofs.Elements.{Contains-here, Contains-there}
use Rattle.fr_cluster.specs.Constraints.{key_slots}
use Rattle.fr_cluster.specs.Questions.{compensation_of, key_index_of}
use Rattle.fr_cluster.specs.Searches.{is_key, key_index_in, key_node_in}
use Rattle.fr_cluster.specs.Setting.{Setting}
use Rattle.fr_cluster.specs.declared.names.ParamName.TheVariants as name
use Rattle.fr_cluster.specs.declared.nodes.NodeSpec.{NodeSpec}
use Rattle.fr_reception.proofs.Answers.{answer_found}
use Rattle.fr_reception.specs.Answers.{answer_of}
use Rattle.fr_reception.specs.Offers.{Offer, deviation_of}
use Rattle.fr_reception.specs.Regular.{is_sync_frame, regular_frame}
use Rattle.fr_reception.specs.declared.heard.Ignored.TheVariants as reason
use Rattle.fr_time.specs.Instant.{action_instant}
use Rattle.fr_time.specs.Senders.{sender_of, sync_sending, further_sending, further_slot_of}
use Rattle.fr_time.specs.declared.senders.Sending.{Sending}
use Rattle.fr_history.proofs.Devs.{devs_are_stored, stored_at, stored_of}
use Rattle.fr_history.proofs.Found.{receptions_found}
use Rattle.fr_history.proofs.Lists.{All-flat_map}
use Rattle.fr_history.proofs.Marks.{HasMarks, offer_in-marked}
use Rattle.fr_history.specs.History.{row_of}
use Rattle.fr_history.specs.Offers.{AreReceptions, Reception, active_offer, arrived_of, channels, devs_among, is_on, offer_in, said_in_event, said_offer, sender_offer, sent_offer, static_slots_of, stored_in, value_of}
use Rattle.fr_history.specs.Rows.{uncorrected}
use Rattle.fr_runs.proofs.Known.{offer_with, stored_parts, stored_value}

-- ---- a deviation is what some row stores

-- a deviation that a row stores in a cycle in which such rows send
pub record IsStoredBy (x : Setting) (cycle : ℕ) (sending : List NodeRow) (rows : List NodeRow) (dev : Dev) : Type 0 where
  pub row : NodeRow
  pub among : Contains rows row
  pub receiver : dev.receiver ≡ row.node
  pub stored : stored_in x cycle sending (uncorrected row) dev.slot dev.channel ≡ Some dev.value

all-flat : {A B : Type 0} (P : B → Type 0) (f : A → List B) (xs : List A) → ((x : A) → Contains xs x → All P (f x)) → All P (flat_map f xs)
all-flat P f [] each = All-nil P
all-flat {A} P f (x ∷ xs) each = All-append P (f x) (flat_map f xs) (each x (Contains-here x xs)) (all-flat P f xs (λ y there. each y (Contains-there x xs y there)))

slot-stored : (x : Setting) (cycle : ℕ) (sending rows : List NodeRow) (row : NodeRow) → Contains rows row → (slot : ℕ) (channel : Channel)
    → All (IsStoredBy x cycle sending rows) (stored_at x cycle sending (uncorrected row) slot channel)
slot-stored x cycle sending rows row among slot channel = by (stored_in x cycle sending (uncorrected row) slot channel) refl
  where
    by : (o : Option ℤ) → stored_in x cycle sending (uncorrected row) slot channel ≡ o → All (IsStoredBy x cycle sending rows) (option_to_list (option_map (dev_with row.node slot channel) o))
    by None e = All-nil (IsStoredBy x cycle sending rows)
    by (Some value) e =
        All-cons (IsStoredBy x cycle sending rows) (dev_with row.node slot channel value) [] (record { row = row; among = among; receiver = refl; stored = e }) (All-nil (IsStoredBy x cycle sending rows))

-- each deviation of a cycle is
pub all-stored : (x : Setting) (cycle : ℕ) (rows : List NodeRow) (receptions : List Reception) (devs : List Dev) → AreReceptions x cycle (map uncorrected rows) receptions → devs ≡ devs_among receptions
    → All (IsStoredBy x cycle (map uncorrected rows) rows) devs
all-stored x cycle rows receptions devs received listed =
    let sending : List NodeRow = map uncorrected rows in
    let same : devs ≡ flat_map (λ row. stored_of x cycle sending (uncorrected row)) rows =
    listed
    ∙ ap devs_among (receptions_found answer_found x cycle sending sending receptions received)
    ∙ devs_are_stored x cycle sending sending
    ∙ flat_map-map (stored_of x cycle sending) uncorrected rows
    in
    subst (λ (l : List Dev). All (IsStoredBy x cycle sending rows) l) (sym same)
    (all-flat (IsStoredBy x cycle sending rows) (λ (row : NodeRow). stored_of x cycle sending (uncorrected row)) rows
    (λ row among.
    All-flat_map (IsStoredBy x cycle sending rows) (λ (slot : ℕ). flat_map (stored_at x cycle sending (uncorrected row) slot) channels)
    (λ slot. All-flat_map (IsStoredBy x cycle sending rows) (stored_at x cycle sending (uncorrected row) slot) (λ channel. slot-stored x cycle sending rows row among slot channel) channels) (static_slots_of x)))

-- ---- it is about a key slot

-- the node of a key slot
pub record HasKeyNode (nodes : List NodeSpec) (slot : ℕ) : Type 0 where
  pub sender : NodeSpec
  pub there : Contains nodes sender
  pub own : sender.key ≡ Some slot
  pub found : key_node_in nodes slot ≡ Some sender

key-is : (o : Option ℕ) (slot : ℕ) → is_key o slot ≡ true → o ≡ Some slot
key-is None slot e = absurd (cc e)
key-is (Some k) slot e = let same : k ≡ slot = grind (arith, nat_tests) in ap Some same

key-node : (nodes : List NodeSpec) (slot : ℕ) → list_any (λ key. key == slot) (key_slots nodes) ≡ true → HasKeyNode nodes slot
key-node [] slot e = absurd (cc e)
key-node (x ∷ xs) slot e = by (is_key x.key slot) refl (more x.key refl) (key-node xs slot)
  where
    more : (o : Option ℕ) → x.key ≡ o → is_key x.key slot ≡ false → list_any (λ key. key == slot) (key_slots xs) ≡ true
    more None is fails = sym (ap (λ (o : Option ℕ). list_any (λ key. key == slot) (filter_map (λ (n : NodeSpec). n.key) (record x { key = o } ∷ xs))) is) ∙ e
    more (Some k) is fails =
        let other : (k == slot) ≡ false = sym (ap (λ (o : Option ℕ). is_key o slot) is) ∙ fails in
        sym (ap (λ (b : Bool). b || list_any (λ key. key == slot) (key_slots xs)) other)
        ∙ sym (ap (λ (o : Option ℕ). list_any (λ key. key == slot) (filter_map (λ (n : NodeSpec). n.key) (record x { key = o } ∷ xs))) is)
        ∙ e

    by : (b : Bool) → is_key x.key slot ≡ b → (is_key x.key slot ≡ false → list_any (λ key. key == slot) (key_slots xs) ≡ true) → (list_any (λ key. key == slot) (key_slots xs) ≡ true → HasKeyNode xs slot)
        → HasKeyNode (x ∷ xs) slot
    by true is later rest = record { sender = x; there = Contains-here x xs; own = key-is x.key slot is; found = ap (λ (b : Bool). if b then Some x else key_node_in xs slot) is }
    by false is later rest =
        let w = rest (later is) in
        record { sender = w.sender; there = Contains-there x xs w.sender w.there; own = w.own; found = ap (λ (b : Bool). if b then Some x else key_node_in xs slot) is ∙ w.found }

indexed : (nodes : List NodeSpec) (slot : ℕ) → is_none (key_index_in nodes slot) ≡ false → HasKeyNode nodes slot
indexed nodes slot e = key-node nodes slot (by (list_any (λ key. key == slot) (key_slots nodes)) refl)
  where
    by : (b : Bool) → list_any (λ key. key == slot) (key_slots nodes) ≡ b → list_any (λ key. key == slot) (key_slots nodes) ≡ true
    by true is = is
    by false is =
        absurd (let no : is_none (key_index_in nodes slot) ≡ true = ap (λ (c : Bool). is_none (if c then Some (count_by (λ key. nat_lt key slot) (key_slots nodes)) else None)) is in cc (no, e))

-- ---- who sends it, and who hears it

-- a correct sender has a row, is active, and has the channel; and this was measured of its frame
pub record IsSentBy (x : Setting) (cycle : ℕ) (sending : List NodeRow) (row : NodeRow) (sender : NodeSpec) (dev : Dev) : Type 0 where
  pub correct : x.is_arbitrary sender.id ≡ false
  pub from : NodeRow
  pub sends : row_of sending sender.id ≡ Some from
  pub active : is_active from.state ≡ true
  pub on : is_on x sender.id dev.channel ≡ true
  pub bytes : List ℕ
  pub measured : dev.value ≡ deviation_of x.params row (offer_with x cycle from row dev.slot dev.channel bytes)

-- an arbitrary one says something
pub record IsSaidBy (x : Setting) (cycle : ℕ) (row : NodeRow) (sender : NodeSpec) (dev : Dev) : Type 0 where
  pub arbitrary : x.is_arbitrary sender.id ≡ true
  pub shift : ℤ
  pub bytes : Option (List ℕ)
  pub says : x.event cycle sender.id row.node dev.channel ≡ Say shift bytes

-- the receiver hears, and the sender is another node
pub record IsSent (x : Setting) (cycle : ℕ) (sending : List NodeRow) (row : NodeRow) (dev : Dev) : Type 0 where
  pub key : HasKeyNode x.params.nodes dev.slot
  pub hears : is_halted row.state ≡ false
  pub on : is_on x row.node dev.channel ≡ true
  pub other : key.sender.id ≢ row.node
  pub by : IsSaidBy x cycle row key.sender dev ⊎ IsSentBy x cycle sending row key.sender dev
  pub offer : Offer
  pub slot_is : offer.slot ≡ dev.slot
  pub answered : value_of (answer_of x.params cycle row offer) ≡ Some dev.value

eq-not : (a b : ℕ) → (a == b) ≡ false → a ≢ b
eq-not a b e = λ same. absurd (grind (arith, nat_tests, same))

sent-by : (x : Setting) (cycle : ℕ) (sending : List NodeRow) (row : NodeRow) (sender : NodeSpec) (dev : Dev) (offer : Offer) → x.is_arbitrary sender.id ≡ false
    → active_offer x cycle (sync_sending sender) (row_of sending sender.id) row dev.slot dev.channel ≡ Some offer
    → value_of (answer_of x.params cycle row offer) ≡ Some dev.value → IsSentBy x cycle sending row sender dev
sent-by x cycle sending row sender dev offer correct offers stored = by (row_of sending sender.id) refl offers
  where
    measured : (from : NodeRow) → row_of sending sender.id ≡ Some from → is_active from.state ≡ true → is_on x sender.id dev.channel ≡ true
        → (o : Option (List ℕ)) → option_map (offer_with x cycle from row dev.slot dev.channel) o ≡ Some offer → IsSentBy x cycle sending row sender dev
    measured from there active on None e = absurd (cc e)
    measured from there active on (Some bytes) e =
        let same : offer_with x cycle from row dev.slot dev.channel bytes ≡ offer = cc e in
        record {
          correct = correct;
          from = from;
          sends = there;
          active = active;
          on = on;
          bytes = bytes;
          measured = stored_value x.params cycle row offer dev.value stored ∙ ap (λ (q : Offer). deviation_of x.params row q) (sym same);
        }

    both : (from : NodeRow) → row_of sending sender.id ≡ Some from → (a b : Bool) → is_active from.state ≡ a → is_on x sender.id dev.channel ≡ b
        → (if a && b then sent_offer x cycle (sync_sending sender) from row dev.slot dev.channel else None) ≡ Some offer → IsSentBy x cycle sending row sender dev
    both from there true true active on e =
        measured from there active on (arrived_of (x.event cycle from.node row.node dev.channel) (regular_frame x.params (sync_sending sender) dev.slot cycle dev.channel)) e
    both from there true false active on e = absurd (cc e)
    both from there false b active on e = absurd (cc e)

    by : (o : Option NodeRow) → row_of sending sender.id ≡ o → active_offer x cycle (sync_sending sender) o row dev.slot dev.channel ≡ Some offer → IsSentBy x cycle sending row sender dev
    by None there e = absurd (cc e)
    by (Some from) there e = both from there (is_active from.state) (is_on x sender.id dev.channel) refl refl e

said-by : (x : Setting) (cycle : ℕ) (row : NodeRow) (sender : NodeSpec) (dev : Dev) (offer : Offer) → x.is_arbitrary sender.id ≡ true
    → (if is_sync_frame (sync_sending sender).kind then said_offer x cycle (sync_sending sender) row dev.slot dev.channel else None) ≡ Some offer → IsSaidBy x cycle row sender dev
said-by x cycle row sender dev offer arbitrary offers = by (x.event cycle sender.id row.node dev.channel) refl offers
  where
    Offered : Event → Option Offer
    Offered event =
        option_map
        (λ said. record {
          slot = dev.slot;
          channel = dev.channel;
          arrival = action_instant x.params row dev.slot +ℤ (compensation_of x.params dev.channel *ℤ row.length) +ℤ said.0;
          bytes = said.1;
        })
        (said_in_event event (regular_frame x.params (sync_sending sender) dev.slot cycle dev.channel))

    by : (event : Event) → x.event cycle sender.id row.node dev.channel ≡ event → Offered event ≡ Some offer → IsSaidBy x cycle row sender dev
    by Regular is e = absurd (cc e)
    by Silent is e = absurd (cc e)
    by (Flip bit) is e = absurd (cc e)
    by (Say shift bytes) is e = record { arbitrary = arbitrary; shift = shift; bytes = bytes; says = is }

sent : (x : Setting) (cycle : ℕ) (sending : List NodeRow) (row : NodeRow) (dev : Dev) (offer : Offer) (key : HasKeyNode x.params.nodes dev.slot)
    → offer_in x cycle sending row dev.slot dev.channel ≡ Some offer → offer.slot ≡ dev.slot → value_of (answer_of x.params cycle row offer) ≡ Some dev.value → IsSent x cycle sending row dev
unfolding offer_in
sent x cycle sending row dev offer key offers slot stored =
    deaf (is_halted row.state) (is_on x row.node dev.channel) refl refl
    (sym (ap (λ (o : Option Sending). if is_halted row.state || not (is_on x row.node dev.channel) then None else option_and_then (sender_offer x cycle sending row dev.slot dev.channel) o) sends) ∙ offers)
  where
    sender : NodeSpec
    sender = key.sender

    sends : sender_of x.params dev.slot cycle ≡ Some (sync_sending key.sender)
    sends = ap (λ (o : Option NodeSpec). option_or (option_map sync_sending o) (option_map (further_sending cycle) (further_slot_of x.params dev.slot))) key.found

    Offered : Bool → Bool → Option Offer
    Offered same arbitrary =
        if same then None
        else if arbitrary then (if is_sync_frame (sync_sending key.sender).kind then said_offer x cycle (sync_sending key.sender) row dev.slot dev.channel else None)
        else active_offer x cycle (sync_sending key.sender) (row_of sending key.sender.id) row dev.slot dev.channel

    choose : is_halted row.state ≡ false → is_on x row.node dev.channel ≡ true → (same arbitrary : Bool) → (key.sender.id == row.node) ≡ same → x.is_arbitrary key.sender.id ≡ arbitrary
        → Offered same arbitrary ≡ Some offer → IsSent x cycle sending row dev
    choose hears on true arbitrary is kind e = absurd (cc e)
    choose hears on false true is kind e = record { key = key; hears = hears; on = on; other = eq-not key.sender.id row.node is; by = inl (said-by x cycle row key.sender dev offer kind e); offer = offer; slot_is = slot; answered = stored }
    choose hears on false false is kind e = record {
      key = key;
      hears = hears;
      on = on;
      other = eq-not key.sender.id row.node is;
      by = inr (sent-by x cycle sending row key.sender dev offer kind e stored);
      offer = offer;
      slot_is = slot;
      answered = stored;
    }

    deaf : (a b : Bool) → is_halted row.state ≡ a → is_on x row.node dev.channel ≡ b
        → (if a || not b then None else sender_offer x cycle sending row dev.slot dev.channel (sync_sending key.sender)) ≡ Some offer → IsSent x cycle sending row dev
    deaf true b hears on e = absurd (cc e)
    deaf false false hears on e = absurd (cc e)
    deaf false true hears on e = choose hears on (key.sender.id == row.node) (x.is_arbitrary key.sender.id) refl refl e

-- so it is of each that is stored
pub sent-of : (x : Setting) (cycle : ℕ) (sending : List NodeRow) (row : NodeRow) (dev : Dev) → stored_in x cycle sending row dev.slot dev.channel ≡ Some dev.value → IsSent x cycle sending row dev
unfolding stored_in
sent-of x cycle sending row dev stored = by (offer_in x cycle sending row dev.slot dev.channel) refl (offer_in-marked x cycle sending row dev.slot dev.channel) stored
  where
    by : (o : Option Offer) → offer_in x cycle sending row dev.slot dev.channel ≡ o → IfSome o (HasMarks dev.slot dev.channel)
        → option_and_then (λ offer. value_of (answer_of x.params cycle row offer)) o ≡ Some dev.value → IsSent x cycle sending row dev
    by None is marks e = absurd (cc e)
    by (Some offer) is marks e =
        let key = indexed x.params.nodes dev.slot (ap (λ (s : ℕ). is_none (key_index_of x.params s)) (sym marks.slot_is) ∙ (stored_parts x.params cycle row offer dev.value e).0) in
        sent x cycle sending row dev offer key is marks.slot_is e
