-- What was sent last in a slot on a channel, by the cells behind some cycles.
use Rattle.std.proofs.Common.{◌≡◌, ◌≢◌, ◌⊎◌, ℕ, zero, suc, ◌<◌, ◌≤◌, ◌==◌, Bool, false, cond, List, [], ◌∷◌, length, map, Option, Some, None, inl, inr, refl, ap, sym, subst, ◌∙◌, arith}
use Rattle.std.specs.Prelude.{find, option_and_then, option_map}
use Rattle.std.specs.Option.{option_or}
use Rattle.std.proofs.lemmas.Bool.{cond_both, eqb-true, eq-eqb, ne_eqb}
use Rattle.fr_base.specs.declared.channel.Channel.{Channel}
use Rattle.fr_base.specs.declared.channel.Channel.TheVariants.{A, B}
use Rattle.fr_base.specs.declared.node_row.NodeRow.{NodeRow}
use Rattle.fr_cluster.specs.Setting.{Setting}
use Rattle.fr_cluster.specs.Values.{amount}
use Rattle.fr_cluster.specs.declared.names.ParamName.TheVariants as name
use Rattle.fr_time.specs.Senders.{sender_of}
use Rattle.fr_time.specs.declared.senders.Sending.{Sending}
use Rattle.fr_history.specs.History.{History, Record, record_at, row_of}
use Rattle.fr_history.specs.Records.{ended_row}
use Rattle.fr_history.specs.Offers.{active_frame, frame_in, sender_frame}
use Rattle.fr_history.proofs.Greatest.{record_after, record_here}
use Rattle.fr_history.proofs.Synced.{record_at-lt}
use Rattle.fr_history.specs.Cycles.{Cycles, told_of}
use Rattle.fr_history.specs.Next.{cycles_of, early_rows, early_told, next_cycle, next_told}
use Rattle.fr_history.proofs.Told.{told_length}
use Rattle.fr_air.specs.Memory.{Held, frame_in_cell, held_after, held_on, held_slots, is_of_place, place_of_slot, sent_at, with_sent}
use Rattle.fr_air.specs.Walk.{over_slots}
use Rattle.fr_world.specs.Last.{sent_in, IsLastSent}

-- ---- one frame

abbrev pub made : ℕ → List ℕ → Held
made place frame = record { place = place; frame = frame }

-- what is sent at a place stands there
find-sent : (place : ℕ) (frame : List ℕ) (held : List Held) → find (is_of_place place) (sent_at place frame held) ≡ Some (made place frame)
find-sent place frame [] = ap (λ (b : Bool). cond b (Some (made place frame)) None) (eq-eqb place place refl)
find-sent place frame (h ∷ hs) =
    cond_both (h.place == place) (made place frame ∷ hs) (h ∷ sent_at place frame hs) (λ now. find (is_of_place place) now ≡ Some (made place frame))
    (λ same. ap (λ (b : Bool). cond b (Some (made place frame)) (find (is_of_place place) hs)) (eq-eqb place place refl))
    (λ other. ap (λ (b : Bool). cond b (Some h) (find (is_of_place place) (sent_at place frame hs))) other ∙ find-sent place frame hs)

-- what stands at another place stays
find-other : (place other : ℕ) (frame : List ℕ) (held : List Held) → place ≢ other → find (is_of_place other) (sent_at place frame held) ≡ find (is_of_place other) held
find-other place other frame [] apart = ap (λ (b : Bool). cond b (Some (made place frame)) None) (ne_eqb place other apart)
find-other place other frame (h ∷ hs) apart =
    cond_both (h.place == place) (made place frame ∷ hs) (h ∷ sent_at place frame hs) (λ now. find (is_of_place other) now ≡ find (is_of_place other) (h ∷ hs))
    (λ same.
    let e : h.place ≡ place = eqb-true h.place place same in
    let away : (h.place == other) ≡ false = ne_eqb h.place other (λ equal. apart (sym e ∙ equal)) in
    ap (λ (b : Bool). cond b (Some (made place frame)) (find (is_of_place other) hs)) (ne_eqb place other apart)
    ∙ sym (ap (λ (b : Bool). cond b (Some h) (find (is_of_place other) hs)) away))
    (λ differs. ap (λ (o : Option Held). cond (h.place == other) (Some h) o) (find-other place other frame hs apart))

-- with a frame that is sent at a place, if one is
frame-here : (place : ℕ) (o : Option (List ℕ)) (held : List Held) → frame_in_cell (with_sent place o held) place ≡ option_or o (frame_in_cell held place)
frame-here place None held = refl
frame-here place (Some frame) held = ap (option_map (λ (h : Held). h.frame)) (find-sent place frame held)

frame-there : (place other : ℕ) (o : Option (List ℕ)) (held : List Held) → place ≢ other → frame_in_cell (with_sent place o held) other ≡ frame_in_cell held other
frame-there place other None held apart = refl
frame-there place other (Some frame) held apart = ap (option_map (λ (h : Held). h.frame)) (find-other place other frame held apart)

-- ---- the slots of a cycle

-- slots and channels that differ have different places
pub apart-places : (slot other : ℕ) (channel on : Channel) → 1 ≤ slot → 1 ≤ other → slot ≢ other → place_of_slot slot channel ≢ place_of_slot other on
apart-places slot other A A from low apart same = absurd (omega (arith, apart, same))
apart-places slot other A B from low apart same = absurd (omega (arith, apart, same))
apart-places slot other B A from low apart same = absurd (omega (arith, apart, same))
apart-places slot other B B from low apart same = absurd (omega (arith, apart, same))

apart-channels : (slot : ℕ) → place_of_slot slot A ≢ place_of_slot slot B
apart-channels slot same = absurd (omega (arith, same))

-- both channels of a slot at the place of one of them
slot-here : (x : Setting) (cycle : ℕ) (rows : List NodeRow) (slot : ℕ) (channel : Channel) (held : List Held) →
    frame_in_cell (held_on x cycle rows slot B (held_on x cycle rows slot A held)) (place_of_slot slot channel) ≡ option_or (frame_in x cycle rows slot channel) (frame_in_cell held (place_of_slot slot channel))
slot-here x cycle rows slot A held =
    frame-there (place_of_slot slot B) (place_of_slot slot A) (frame_in x cycle rows slot B) (held_on x cycle rows slot A held) (λ same. apart-channels slot (sym same))
    ∙ frame-here (place_of_slot slot A) (frame_in x cycle rows slot A) held
slot-here x cycle rows slot B held =
    frame-here (place_of_slot slot B) (frame_in x cycle rows slot B) (held_on x cycle rows slot A held)
    ∙ ap (option_or (frame_in x cycle rows slot B)) (frame-there (place_of_slot slot A) (place_of_slot slot B) (frame_in x cycle rows slot A) held (apart-channels slot))

-- at the place of another slot
slot-there : (x : Setting) (cycle : ℕ) (rows : List NodeRow) (slot other : ℕ) (channel : Channel) (held : List Held) → 1 ≤ slot → 1 ≤ other → slot ≢ other →
    frame_in_cell (held_on x cycle rows slot B (held_on x cycle rows slot A held)) (place_of_slot other channel) ≡ frame_in_cell held (place_of_slot other channel)
slot-there x cycle rows slot other channel held from low apart =
    frame-there (place_of_slot slot B) (place_of_slot other channel) (frame_in x cycle rows slot B) (held_on x cycle rows slot A held) (apart-places slot other B channel from low apart)
    ∙ frame-there (place_of_slot slot A) (place_of_slot other channel) (frame_in x cycle rows slot A) held (apart-places slot other A channel from low apart)

-- slots that were not yet walked
slots-there : (x : Setting) (cycle : ℕ) (rows : List NodeRow) (slot : ℕ) (channel : Channel) (held : List Held) (count : ℕ) → count < slot →
    frame_in_cell (held_slots x cycle rows count held) (place_of_slot slot channel) ≡ frame_in_cell held (place_of_slot slot channel)
unfolding over_slots
slots-there x cycle rows slot channel held zero later = refl
slots-there x cycle rows slot channel held (suc earlier) later =
    slot-there x cycle rows (suc earlier) slot channel (held_slots x cycle rows earlier held) (omega arith) (omega arith) (λ same. absurd (omega arith))
    ∙ slots-there x cycle rows slot channel held earlier (omega arith)

-- a slot that was
slots-here : (x : Setting) (cycle : ℕ) (rows : List NodeRow) (slot : ℕ) (channel : Channel) (held : List Held) (count : ℕ) → 1 ≤ slot → slot ≤ count →
    frame_in_cell (held_slots x cycle rows count held) (place_of_slot slot channel) ≡ option_or (frame_in x cycle rows slot channel) (frame_in_cell held (place_of_slot slot channel))
unfolding over_slots
slots-here x cycle rows slot channel held zero from to = absurd (omega arith)
slots-here x cycle rows slot channel held (suc earlier) from to = by_place (slots-here x cycle rows slot channel held earlier from) (grind arith)
  where
    by_place : (slot ≤ earlier → frame_in_cell (held_slots x cycle rows earlier held) (place_of_slot slot channel) ≡ option_or (frame_in x cycle rows slot channel) (frame_in_cell held (place_of_slot slot channel))) →
        (slot ≤ earlier) ⊎ (slot ≡ suc earlier) →
        frame_in_cell (held_on x cycle rows (suc earlier) B (held_on x cycle rows (suc earlier) A (held_slots x cycle rows earlier held))) (place_of_slot slot channel) ≡ option_or (frame_in x cycle rows slot channel) (frame_in_cell held (place_of_slot slot channel))
    by_place before (inl less) =
        slot-there x cycle rows (suc earlier) slot channel (held_slots x cycle rows earlier held) (omega arith) from (λ same. absurd (omega arith))
        ∙ before less
    by_place before (inr here) =
        let P : ℕ → Type 0 = λ s. frame_in_cell (held_on x cycle rows s B (held_on x cycle rows s A (held_slots x cycle rows earlier held))) (place_of_slot slot channel) ≡ option_or (frame_in x cycle rows slot channel) (frame_in_cell held (place_of_slot slot channel)) in
        subst P here
        (slot-here x cycle rows slot channel (held_slots x cycle rows earlier held)
        ∙ ap (option_or (frame_in x cycle rows slot channel)) (slots-there x cycle rows slot channel held earlier (omega arith)))

-- ---- the rows of a record send what the rows before its corrections send

found-after : (f : NodeRow → NodeRow) → ((row : NodeRow) → (f row).node ≡ row.node) → (rows : List NodeRow) (node : ℕ) → row_of (map f rows) node ≡ option_map f (row_of rows node)
found-after f keeps [] node = refl
found-after f keeps (row ∷ rows) node =
    ap (λ (n : ℕ). cond (n == node) (Some (f row)) (row_of (map f rows) node)) (keeps row)
    ∙ cond_both (row.node == node) (Some row) (row_of rows node) (λ o. cond (row.node == node) (Some (f row)) (row_of (map f rows) node) ≡ option_map f o)
    (λ same. ap (λ (b : Bool). cond b (Some (f row)) (row_of (map f rows) node)) same)
    (λ other. ap (λ (b : Bool). cond b (Some (f row)) (row_of (map f rows) node)) other ∙ found-after f keeps rows node)

same-frame : (x : Setting) (h : History) (early : Record) (cycle : ℕ) (sending : Sending) (o : Option NodeRow) (slot : ℕ) (channel : Channel) →
    active_frame x cycle sending (option_map (ended_row x h early) o) slot channel ≡ active_frame x cycle sending o slot channel
same-frame x h early cycle sending None slot channel = refl
same-frame x h early cycle sending (Some row) slot channel = refl

record-frame : (x : Setting) (h : Cycles) (slot : ℕ) (channel : Channel) →
    frame_in x (length h) (early_rows x h) slot channel ≡ frame_in x (length h) (next_cycle x h).told.rows slot channel
unfolding frame_in next_cycle early_told
record-frame x h slot channel = by (sender_of x.params slot (length h))
  where
    by : (s : Option Sending) → option_and_then (sender_frame x (length h) (early_rows x h) slot channel) s ≡ option_and_then (sender_frame x (length h) (next_told x h).rows slot channel) s
    by None = refl
    by (Some sending) =
        sym (same-frame x (told_of h) (early_told x h) (length h) sending (row_of (early_rows x h) sending.node) slot channel)
        ∙ ap (λ (o : Option NodeRow). active_frame x (length h) sending o slot channel) (sym (found-after (ended_row x (told_of h) (early_told x h)) (λ row. refl) (early_rows x h) sending.node))

-- ---- one more cycle

-- no cycle that a history has not sends
past-sent : (x : Setting) (h : History) (cycle slot : ℕ) (channel : Channel) → length h ≤ cycle → sent_in x h cycle slot channel ≡ None
past-sent x h cycle slot channel past = by (record_at h cycle) (λ r is. record_at-lt h cycle r is)
  where
    by : (o : Option Record) → ((r : Record) → o ≡ Some r → cycle < length h) → option_and_then (λ r. frame_in x cycle r.rows slot channel) o ≡ None
    by None within = refl
    by (Some r) within = let less : cycle < length h = within r refl in absurd (omega arith)

sent-here : (x : Setting) (h : Cycles) (slot : ℕ) (channel : Channel) →
    sent_in x ((next_cycle x h).told ∷ told_of h) (length (told_of h)) slot channel ≡ frame_in x (length h) (early_rows x h) slot channel
sent-here x h slot channel =
    ap (option_and_then (λ (r : Record). frame_in x (length (told_of h)) r.rows slot channel)) (record_here (next_cycle x h).told (told_of h))
    ∙ ap (λ (n : ℕ). frame_in x n (next_cycle x h).told.rows slot channel) (told_length h)
    ∙ sym (record-frame x h slot channel)

sent-before : (x : Setting) (r : Record) (h : History) (cycle slot : ℕ) (channel : Channel) → cycle < length h → sent_in x (r ∷ h) cycle slot channel ≡ sent_in x h cycle slot channel
sent-before x r h cycle slot channel less = ap (option_and_then (λ (s : Record). frame_in x cycle s.rows slot channel)) (record_after r h cycle less)

last-more : (x : Setting) (r : Record) (h : History) (slot : ℕ) (channel : Channel) (now before : Option (List ℕ)) → sent_in x (r ∷ h) (length h) slot channel ≡ now → IsLastSent x h slot channel before →
    IsLastSent x (r ∷ h) slot channel (option_or now before)
last-more x r h slot channel (Some frame) before is last = record {
  cycle = length h;
  within = omega arith;
  sent = is;
  none_later = λ later less. past-sent x (r ∷ h) later slot channel (omega arith);
}
last-more x r h slot channel None None is never = λ cycle. by_place cycle (grind arith)
  where
    by_place : (cycle : ℕ) → (cycle < length h) ⊎ ((cycle ≡ length h) ⊎ (length h < cycle)) → sent_in x (r ∷ h) cycle slot channel ≡ None
    by_place cycle (inl less) = sent-before x r h cycle slot channel less ∙ never cycle
    by_place cycle (inr (inl same)) = let P : ℕ → Type 0 = λ c. sent_in x (r ∷ h) c slot channel ≡ None in subst P (sym same) is
    by_place cycle (inr (inr past)) = past-sent x (r ∷ h) cycle slot channel (omega arith)
last-more x r h slot channel None (Some frame) is last = record {
  cycle = last.cycle;
  within = omega (arith, last.within);
  sent = sent-before x r h last.cycle slot channel last.within ∙ last.sent;
  none_later = λ later less. by_place later less (grind arith);
} where
  by_place : (later : ℕ) → last.cycle < later → (later < length h) ⊎ ((later ≡ length h) ⊎ (length h < later)) → sent_in x (r ∷ h) later slot channel ≡ None
  by_place later less (inl within) = sent-before x r h later slot channel within ∙ last.none_later later less
  by_place later less (inr (inl same)) = let P : ℕ → Type 0 = λ c. sent_in x (r ∷ h) c slot channel ≡ None in subst P (sym same) is
  by_place later less (inr (inr past)) = past-sent x (r ∷ h) later slot channel (omega arith)

-- ---- the whole run

pub last-sent : (x : Setting) (n slot : ℕ) (channel : Channel) → 1 ≤ slot → slot ≤ amount x.params name.gNumberOfStaticSlots →
    IsLastSent x (told_of (cycles_of x n)) slot channel (frame_in_cell (held_after x (cycles_of x n)) (place_of_slot slot channel))
unfolding cycles_of held_after
last-sent x zero slot channel from to = λ cycle. past-sent x [] cycle slot channel (omega arith)
last-sent x (suc n) slot channel from to =
    let h : Cycles = cycles_of x n in
    let slots : ℕ = amount x.params name.gNumberOfStaticSlots in
    let P : Option (List ℕ) → Type 0 = IsLastSent x ((next_cycle x h).told ∷ told_of h) slot channel in
    subst P (sym (slots-here x (length h) (early_rows x h) slot channel (held_after x h) slots from to))
    (last-more x (next_cycle x h).told (told_of h) slot channel (frame_in x (length h) (early_rows x h) slot channel) (frame_in_cell (held_after x h) (place_of_slot slot channel)) (sent-here x h slot channel) (last-sent x n slot channel from to))

pub never-sent : (x : Setting) (n slot : ℕ) (channel : Channel) → amount x.params name.gNumberOfStaticSlots < slot → frame_in_cell (held_after x (cycles_of x n)) (place_of_slot slot channel) ≡ None
unfolding cycles_of held_after
never-sent x zero slot channel past = refl
never-sent x (suc n) slot channel past =
    let h : Cycles = cycles_of x n in
    slots-there x (length h) (early_rows x h) slot channel (held_after x h) (amount x.params name.gNumberOfStaticSlots) past ∙ never-sent x n slot channel past
