-- The cells of a world: each is free, or has the last frame of one slot on one channel.
use Rattle.std.proofs.Common.{◌≡◌, ◌≢◌, ◌⊎◌, ℕ, zero, suc, ◌+◌, ◌*◌, ◌/◌, ◌%◌, ◌<◌, ◌≤◌, ◌==◌, true, false, List, [], ◌∷◌, length, Option, Some, None, inl, inr, refl, ap, sym, subst, ◌∙◌, arith}
use Rattle.std.specs.Prelude.{⊤, All, option_map}
use Rattle.std.proofs.lemmas.Bool.{cond_both, eqb-true, eq-eqb}
use Rattle.std.proofs.lemmas.List.Elements.{All-cons, All-head, All-nil, All-tail}
use Rattle.std.proofs.lemmas.List.Quantifiers.{position-Some}
use Rattle.fr_base.specs.declared.channel.Channel.{Channel}
use Rattle.fr_base.specs.declared.channel.Channel.TheVariants.{A, B}
use Rattle.fr_base.specs.declared.node_row.NodeRow.{NodeRow}
use Rattle.fr_cluster.specs.Setting.{Setting}
use Rattle.fr_cluster.specs.Values.{amount}
use Rattle.fr_cluster.specs.declared.names.ParamName.TheVariants as name
use Rattle.fr_pool.specs.Pool.{PoolView, IsFree}
use Rattle.fr_history.specs.Cycles.{Cycles, told_of}
use Rattle.fr_history.specs.Next.{cycles_of, early_rows}
use Rattle.fr_history.specs.Offers.{frame_in}
use Rattle.fr_air.specs.Memory.{Held, cell_of, frame_in_cell, held_after, held_at, held_on, held_slots, is_of_place, place_of_slot, sent_at, with_sent, IsPoolOf}
use Rattle.fr_air.specs.Walk.{over_slots}
use Rattle.fr_world.specs.World.{memory_of, setting_after, WorldView}
use Rattle.fr_air.proofs.Messages.{find-at, position-at}
use Rattle.fr_world.specs.Last.{IsLastSent, IsOfOne, WasSentLast}
use Rattle.fr_world.proofs.Sent.{last-sent, made}

-- cells of so many places, no two of which are of one place
unfoldable AreApart : ℕ → List Held → Type 0
AreApart most [] = ⊤
AreApart most (h ∷ hs) = (h.place < most) × (All (λ other. other.place ≢ h.place) hs × AreApart most hs)

-- a fact of places holds of a list after a frame is sent
sent-all : (P : ℕ → Type 0) (place : ℕ) (frame : List ℕ) (held : List Held) → P place → All (λ h. P h.place) held → All (λ h. P h.place) (sent_at place frame held)
sent-all P place frame [] here all = All-cons (λ (h : Held). P h.place) (made place frame) [] here (All-nil (λ (h : Held). P h.place))
sent-all P place frame (h ∷ hs) here all =
    cond_both (h.place == place) (made place frame ∷ hs) (h ∷ sent_at place frame hs) (λ now. All (λ (h : Held). P h.place) now)
    (λ same. All-cons (λ (h : Held). P h.place) (made place frame) hs here (All-tail (λ (h : Held). P h.place) h hs all))
    (λ other. All-cons (λ (h : Held). P h.place) h (sent_at place frame hs) (All-head (λ (h : Held). P h.place) h hs all)
    (sent-all P place frame hs here (All-tail (λ (h : Held). P h.place) h hs all)))

sent-apart : (most place : ℕ) (frame : List ℕ) (held : List Held) → place < most → AreApart most held → AreApart most (sent_at place frame held)
unfolding AreApart
sent-apart most place frame [] less apart = (less, (All-nil (λ (other : Held). other.place ≢ place), tt))
sent-apart most place frame (h ∷ hs) less apart =
    cond_both (h.place == place) (made place frame ∷ hs) (h ∷ sent_at place frame hs) (AreApart most)
    (λ same. let P : ℕ → Type 0 = λ p. (p < most) × (All (λ (other : Held). other.place ≢ p) hs × AreApart most hs) in subst P (eqb-true h.place place same) apart)
    (λ differs.
    let away : place ≢ h.place = λ equal.
    let both : true ≡ false = sym (eq-eqb h.place place (sym equal)) ∙ differs in
    cc in
    (apart.0, (sent-all (λ p. p ≢ h.place) place frame hs away apart.1.0, sent-apart most place frame hs less apart.1.1)))

with-apart : (most place : ℕ) (o : Option (List ℕ)) (held : List Held) → place < most → AreApart most held → AreApart most (with_sent place o held)
with-apart most place None held less apart = apart
with-apart most place (Some frame) held less apart = sent-apart most place frame held less apart

slots-apart : (x : Setting) (cycle : ℕ) (rows : List NodeRow) (most count : ℕ) (held : List Held) → 2 * count ≤ most → AreApart most held → AreApart most (held_slots x cycle rows count held)
unfolding over_slots
slots-apart x cycle rows most zero held fits apart = apart
slots-apart x cycle rows most (suc earlier) held fits apart =
    let before : List Held = held_slots x cycle rows earlier held in
    with-apart most (place_of_slot (suc earlier) B) (frame_in x cycle rows (suc earlier) B) (held_on x cycle rows (suc earlier) A before) (omega arith)
    (with-apart most (place_of_slot (suc earlier) A) (frame_in x cycle rows (suc earlier) A) before (omega arith)
    (slots-apart x cycle rows most earlier held (omega arith) apart))

after-apart : (x : Setting) (n : ℕ) → AreApart (2 * amount x.params name.gNumberOfStaticSlots) (held_after x (cycles_of x n))
unfolding cycles_of held_after AreApart
after-apart x zero = tt
after-apart x (suc n) =
    let h : Cycles = cycles_of x n in
    slots-apart x (length h) (early_rows x h) (2 * amount x.params name.gNumberOfStaticSlots) (amount x.params name.gNumberOfStaticSlots) (held_after x h) (omega arith) (after-apart x n)

-- ---- by number

-- the place of a cell
apart-below : (most : ℕ) (held : List Held) (k : ℕ) → AreApart most held → k < length held → (held_at held k).place < most
unfolding AreApart
apart-below most [] k apart lt = absurd (omega arith)
apart-below most (h ∷ hs) zero apart lt = apart.0
apart-below most (h ∷ hs) (suc k) apart lt = apart-below most hs k apart.1.1 (omega arith)

-- the cells before it are of other places
apart-before : (most : ℕ) (held : List Held) (k j : ℕ) → AreApart most held → k < length held → j < k → (held_at held j).place ≢ (held_at held k).place
unfolding AreApart
apart-before most [] k j apart lt less = absurd (omega arith)
apart-before most (h ∷ hs) zero j apart lt less = absurd (omega arith)
apart-before most (h ∷ hs) (suc k) zero apart lt less = λ same. apart.1.0 k (made 0 []) (omega arith) (sym same)
apart-before most (h ∷ hs) (suc k) (suc j) apart lt less = apart-before most hs k j apart.1.1 (omega arith) (omega arith)

-- ---- the slot and the channel of a place

pair-of : (place most : ℕ) → place < 2 * most → (slot : ℕ) × ((channel : Channel) × ((1 ≤ slot) × ((slot ≤ most) × (place_of_slot slot channel ≡ place))))
pair-of place most less = by (place % 2) refl (omega arith)
  where
    by : (rest : ℕ) → place % 2 ≡ rest → rest < 2 → (slot : ℕ) × ((channel : Channel) × ((1 ≤ slot) × ((slot ≤ most) × (place_of_slot slot channel ≡ place))))
    by zero is below = (place / 2 + 1, (A, (omega arith, (omega arith, omega arith))))
    by (suc zero) is below = (place / 2 + 1, (B, (omega arith, (omega arith, omega arith))))
    by (suc (suc n)) is below = absurd (omega arith)

-- no other slot and channel has the place
one-pair : (slot other : ℕ) (channel on : Channel) → 1 ≤ slot → 1 ≤ other → place_of_slot other on ≡ place_of_slot slot channel → (other ≡ slot) × (on ≡ channel)
one-pair slot other A A from low same = (omega arith, refl)
one-pair slot other B B from low same = (omega arith, refl)
one-pair slot other A B from low same = absurd (omega arith)
one-pair slot other B A from low same = absurd (omega arith)

-- ---- the law

of-one : (w : WorldView) (pool : PoolView) (cell : ℕ) → IsPoolOf (memory_of w) pool → cell < length (memory_of w).held → IsOfOne w pool cell
of-one w pool cell is lt = record {
  out = is.kept cell lt;
  slot = slot;
  channel = channel;
  from = from;
  to = to;
  is_its = ap (cell_of held) at ∙ position-at place held cell lt refl before;
  only = λ other on low found.
      let there = position-Some (is_of_place (place_of_slot other on)) held cell (made 0 []) found in
      one-pair slot other channel on from low (sym (eqb-true place (place_of_slot other on) there.1) ∙ sym at);
  last = subst (WasSentLast x (told_of (cycles_of x w.cycles)) slot channel) (is.frames cell lt) last;
} where
  x : Setting
  x = setting_after w

  held : List Held
  held = (memory_of w).held

  most : ℕ
  most = amount w.params name.gNumberOfStaticSlots

  place : ℕ
  place = (held_at held cell).place

  apart : AreApart (2 * most) held
  apart = after-apart x w.cycles

  before : (j : ℕ) → j < cell → (held_at held j).place ≢ place
  before = λ j less. apart-before (2 * most) held cell j apart lt less

  pair : (slot : ℕ) × ((channel : Channel) × ((1 ≤ slot) × ((slot ≤ most) × (place_of_slot slot channel ≡ place))))
  pair = pair-of place most (apart-below (2 * most) held cell apart lt)

  slot : ℕ
  slot = pair.0

  channel : Channel
  channel = pair.1.0

  from : 1 ≤ slot
  from = pair.1.1.0

  to : slot ≤ most
  to = pair.1.1.1.0

  at : place_of_slot slot channel ≡ place
  at = pair.1.1.1.1

  stands : frame_in_cell held (place_of_slot slot channel) ≡ Some (held_at held cell).frame
  stands = ap (frame_in_cell held) at ∙ ap (option_map (λ (h : Held). h.frame)) (find-at place held cell lt refl before)

  last : WasSentLast x (told_of (cycles_of x w.cycles)) slot channel (held_at held cell).frame
  last = subst (IsLastSent x (told_of (cycles_of x w.cycles)) slot channel) stands (last-sent x w.cycles slot channel from to)

pub free-or-one : (w : WorldView) (pool : PoolView) (cell : ℕ) → IsPoolOf (memory_of w) pool → cell < length pool.out → IsFree pool cell ⊎ IsOfOne w pool cell
free-or-one w pool cell is inside = by (grind arith)
  where
    by : (cell < length (memory_of w).held) ⊎ (length (memory_of w).held ≤ cell) → IsFree pool cell ⊎ IsOfOne w pool cell
    by (inl kept) = inr (of-one w pool cell is kept)
    by (inr past) = inl (is.others cell past inside)
