-- The message memory: what is sent goes into the cell of its place, and nothing else changes.
use Rattle.std.proofs.Common.{◌≡◌, ◌≢◌, ℕ, zero, suc, ◌<◌, ◌≤◌, ◌==◌, Bool, true, false, cond, List, [], ◌∷◌, ◌++◌, length, map, take, get_or, set, Option, Some, None, inl, inr, refl, ap, ap₂, sym, subst, ◌∙◌, arith}
use Rattle.std.specs.Prelude.{find, nat_lt, option_map, position}
use Rattle.std.specs.List.{position_or_len}
use Rattle.std.proofs.lemmas.List.Sums.{position_or_len_is}
use Rattle.std.proofs.lemmas.Bool.{cond_both, eqb-true, eq-eqb, cases_eq}
use Rattle.std.proofs.lemmas.List.{get_or_default, get_or_push, get_or_read, get_or-map, get_or-set_other, get_or-set_same, length-map, length-set, length_push, map_push, same_lists, set_at}
use Rattle.std.proofs.lemmas.Option.{none-some, slice_get_within}
use Rattle.fr_pool.specs.Pool.{PoolView, IsOut, written_in}
use Rattle.fr_air.specs.Cells.{held_of, number_at, bytes_said, HaveCells, HavePlaces, IsClaimed, IsMemory, IsThere, Stays}
use Rattle.fr_air.specs.Memory.{Held, cell_of, frame_at, frame_in_cell, frame_on, held_at, is_of_place, sent_at, with_frame, HasFrame, IsPoolOf, MemoryView}
use Rattle.fr_air.specs.declared.memory.Message.{Message}

abbrev pub blank : Held
blank = record { place = 0; frame = [] }

-- what stands in a cell, by its parts
abbrev pub made : ℕ → List ℕ → Held
made place frame = record { place = place; frame = frame }

abbrev pub none : Message
none = record { place = 0; cell = 0 }

-- what is sent at a place that is first at a cell goes there
pub sent_at-found : (place : ℕ) (frame : List ℕ) (held : List Held) (k : ℕ) → k < length held → (get_or held k blank).place ≡ place →
    ((j : ℕ) → j < k → (get_or held j blank).place ≢ place) → sent_at place frame held ≡ set held k (record { place = place; frame = frame })
sent_at-found place frame [] k lt is other = absurd (omega arith)
sent_at-found place frame (h ∷ hs) zero lt is other =
    ap (λ (b : Bool). cond b (record { place = place; frame = frame } ∷ hs) (h ∷ sent_at place frame hs)) (eq-eqb h.place place is)
sent_at-found place frame (h ∷ hs) (suc k) lt is other =
    cond_both (h.place == place) (record { place = place; frame = frame } ∷ hs) (h ∷ sent_at place frame hs) (λ r. r ≡ h ∷ set hs k (record { place = place; frame = frame }))
    (λ same. absurd (other 0 (omega arith) (eqb-true h.place place same)))
    (λ fails. ap (λ (rest : List Held). h ∷ rest) (sent_at-found place frame hs k (omega arith) is (λ j less. other (suc j) (omega arith))))

-- what is sent at a place that none has goes behind
pub sent_at-new : (place : ℕ) (frame : List ℕ) (held : List Held) → ((j : ℕ) → j < length held → (get_or held j blank).place ≢ place) →
    sent_at place frame held ≡ held ++ record { place = place; frame = frame } ∷ []
sent_at-new place frame [] other = refl
sent_at-new place frame (h ∷ hs) other =
    cond_both (h.place == place) (record { place = place; frame = frame } ∷ hs) (h ∷ sent_at place frame hs) (λ r. r ≡ h ∷ (hs ++ record { place = place; frame = frame } ∷ []))
    (λ same. absurd (other 0 (omega arith) (eqb-true h.place place same)))
    (λ fails. ap (λ (rest : List Held). h ∷ rest) (sent_at-new place frame hs (λ j less. other (suc j) (omega arith))))

-- the first that is of a place
pub find-at : (place : ℕ) (held : List Held) (k : ℕ) → k < length held → (get_or held k blank).place ≡ place → ((j : ℕ) → j < k → (get_or held j blank).place ≢ place) →
    find (is_of_place place) held ≡ Some (get_or held k blank)
find-at place [] k lt is other = absurd (omega arith)
find-at place (h ∷ hs) zero lt is other = ap (λ (b : Bool). cond b (Some h) (find (is_of_place place) hs)) (eq-eqb h.place place is)
find-at place (h ∷ hs) (suc k) lt is other =
    cond_both (h.place == place) (Some h) (find (is_of_place place) hs) (λ r. r ≡ Some (get_or hs k blank))
    (λ same. absurd (other 0 (omega arith) (eqb-true h.place place same)))
    (λ fails. find-at place hs k (omega arith) is (λ j less. other (suc j) (omega arith)))

pub find-none : (place : ℕ) (held : List Held) → ((j : ℕ) → j < length held → (get_or held j blank).place ≢ place) → find (is_of_place place) held ≡ None
find-none place [] other = refl
find-none place (h ∷ hs) other =
    cond_both (h.place == place) (Some h) (find (is_of_place place) hs) (λ r. r ≡ None)
    (λ same. absurd (other 0 (omega arith) (eqb-true h.place place same)))
    (λ fails. find-none place hs (λ j less. other (suc j) (omega arith)))

other-eqb : (a b : ℕ) → a ≢ b → (a == b) ≡ false
other-eqb a b apart = grind (arith, apart)

-- the position of the first that passes
found-at : (p : Held → Bool) (held : List Held) (k : ℕ) → position_or_len p held ≡ k → k < length held → position p held ≡ Some k
found-at p held k first lt =
    ap (λ (i : ℕ). cond (nat_lt i (length held)) (Some i) None) first
    ∙ ap (λ (b : Bool). cond b (Some k) None) (below-lt k (length held) lt)
  where
    below-lt : (a b : ℕ) → a < b → nat_lt a b ≡ true
    below-lt a b less = grind arith

found-none : (p : Held → Bool) (held : List Held) → position_or_len p held ≡ length held → position p held ≡ None
found-none p held first =
    ap (λ (i : ℕ). cond (nat_lt i (length held)) (Some i) None) first
    ∙ ap (λ (b : Bool). cond b (Some (length held)) None) (not-below (length held))
  where
    not-below : (a : ℕ) → nat_lt a a ≡ false
    not-below a = grind arith

-- the number of the first that is of a place
pub position-at : (place : ℕ) (held : List Held) (k : ℕ) → k < length held → (get_or held k blank).place ≡ place → ((j : ℕ) → j < k → (get_or held j blank).place ≢ place) → position (is_of_place place) held ≡ Some k
position-at place held k lt is other =
    found-at (is_of_place place) held k (position_or_len_is (is_of_place place) held k blank (omega arith) (λ j less. other-eqb (get_or held j blank).place place (other j less)) (λ within. eq-eqb (get_or held k blank).place place is)) lt

-- what stands in the cells, by number
pub place-held : (bytes : ℕ) (pool : PoolView) (messages : List Message) (k : ℕ) (d : Message) → k < length messages →
    (get_or (map (held_of bytes pool) messages) k blank).place ≡ (get_or messages k d).place
place-held bytes pool messages k d lt = ap (λ (h : Held). h.place) (get_or-map (held_of bytes pool) messages k d blank lt)

-- no two messages are of one place
pub other-places : (messages : List Message) (places : List (Option ℕ)) (room : ℕ) → HavePlaces messages places room → (j k : ℕ) (d : Message) → j < length messages → k < length messages → j ≢ k →
    (get_or messages j d).place ≢ (get_or messages k d).place
other-places messages places room have j k d first second apart same =
    let a : get_or places (get_or messages j d).place None ≡ Some j = have.placed j d first in
    let b : get_or places (get_or messages k d).place None ≡ Some k = have.placed k d second in
    let c : Some j ≡ Some k = sym a ∙ ap (λ (i : ℕ). get_or places i None) same ∙ b in
    let e : j ≡ k = cc in
    apart e

-- where other cells change, what stands in these stays
pub held-stays : (bytes : ℕ) (old new : PoolView) (messages : List Message) (said : Option ℕ) → HaveCells old messages said → Stays old new →
    map (held_of bytes new) messages ≡ map (held_of bytes old) messages
held-stays bytes old new messages said have stays =
    same_lists (map (held_of bytes new) messages) (map (held_of bytes old) messages)
    (length-map messages (held_of bytes new) ∙ sym (length-map messages (held_of bytes old)))
    (λ k d short. let lt : k < length messages = rw length-map at short in
    let cell = (get_or messages k (record { place = 0; cell = 0 })).cell in
    let out : IsOut old cell = subst (IsOut old) (sym (have.order k (record { place = 0; cell = 0 }) lt)) (have.out k lt) in
    get_or-map (held_of bytes new) messages k (record { place = 0; cell = 0 }) d lt
    ∙ ap (λ (stored : List ℕ). let made : Held = record { place = (get_or messages k (record { place = 0; cell = 0 })).place; frame = take bytes stored } in made) (stays.same cell out)
    ∙ sym (get_or-map (held_of bytes old) messages k (record { place = 0; cell = 0 }) d lt))

pub cells-stay : (old new : PoolView) (messages : List Message) (said : Option ℕ) → HaveCells old messages said → Stays old new → HaveCells new messages said
cells-stay old new messages said have stays = record {
  order = have.order;
  out = λ k lt. rw stays.out (have.out k lt);
  said_out = λ k is. ((have.said_out k is).0, rw stays.out ((have.said_out k is).1));
  free = λ k ge lt unsaid. rw stays.out (have.free k ge (rw stays.out at lt) unsaid);
}

-- and what is said
pub said-stays : (bytes : ℕ) (old new : PoolView) (messages : List Message) (said : Option ℕ) → HaveCells old messages said → Stays old new → bytes_said bytes new said ≡ bytes_said bytes old said
said-stays bytes old new messages None have stays = refl
said-stays bytes old new messages (Some cell) have stays = ap (λ (stored : List ℕ). Some (take bytes stored)) (stays.same cell ((have.said_out cell refl).1))

pub memory-stays : (old new : PoolView) (messages : List Message) (places : List (Option ℕ)) (room : ℕ) (said : Option ℕ) → IsMemory old messages places room said → Stays old new → IsMemory new messages places room said
memory-stays old new messages places room said is stays = record {
  sizes = ap length stays.out ∙ is.sizes;
  whole = stays.whole ∙ is.whole ∙ sym (ap length stays.out);
  cells = cells-stay old new messages said is.cells stays;
  at_places = is.at_places;
}

written-here : (bytes : ℕ) (pool : PoolView) (messages : List Message) (k : ℕ) (written : List ℕ) (d : Held) → k < length messages → k < length pool.bytes →
    made (get_or messages k none).place (take bytes (get_or (set pool.bytes k written) k [])) ≡ get_or (with_frame k (take bytes written) (map (held_of bytes pool) messages)) k d
written-here bytes pool messages k written d lt within =
    let old : List Held = map (held_of bytes pool) messages in
    let long : k < length old = rw length-map lt in
    ap (λ (stored : List ℕ). made (get_or messages k none).place (take bytes stored)) (get_or-set_same pool.bytes k written [] within)
    ∙ ap (λ (place : ℕ). made place (take bytes written)) (sym (place-held bytes pool messages k none lt))
    ∙ sym (get_or-set_same old k (made (held_at old k).place (take bytes written)) d long)

written-there : (bytes : ℕ) (pool : PoolView) (messages : List Message) (k j : ℕ) (written : List ℕ) (d : Held) (said : Option ℕ) → HaveCells pool messages said → j < length messages → j ≢ k →
    made (get_or messages j none).place (take bytes (get_or (set pool.bytes k written) j [])) ≡ get_or (with_frame k (take bytes written) (map (held_of bytes pool) messages)) j d
written-there bytes pool messages k j written d said have less apart =
    let old : List Held = map (held_of bytes pool) messages in
    ap (λ (stored : List ℕ). made (get_or messages j none).place (take bytes stored)) (get_or-set_other pool.bytes k j written [] apart)
    ∙ ap (λ (cell : ℕ). made (get_or messages j none).place (take bytes (get_or pool.bytes cell []))) (sym (have.order j none less))
    ∙ sym (get_or-map (held_of bytes pool) messages j none d less)
    ∙ sym (get_or-set_other old k j (made (held_at old k).place (take bytes written)) d apart)

-- with a frame written into the cell of a message
pub held-written : (bytes : ℕ) (pool : PoolView) (messages : List Message) (k : ℕ) (written : List ℕ) (said : Option ℕ) → HaveCells pool messages said → k < length messages → length pool.bytes ≡ length pool.out →
    map (held_of bytes (written_in k written pool)) messages ≡ with_frame k (take bytes written) (map (held_of bytes pool) messages)
held-written bytes pool messages k written said have lt whole =
    let old : List Held = map (held_of bytes pool) messages in
    let within : k < length pool.bytes = omega (arith, whole, slice_get_within pool.out k true (have.out k lt)) in
    same_lists (map (held_of bytes (written_in k written pool)) messages) (with_frame k (take bytes written) old)
    (length-map messages (held_of bytes (written_in k written pool)) ∙ sym (length-map messages (held_of bytes pool)) ∙ sym (length-set old k (made (held_at old k).place (take bytes written))))
    (λ j d short. let less : j < length messages = rw length-map at short in
    get_or-map (held_of bytes (written_in k written pool)) messages j none d less
    ∙ ap (λ (cell : ℕ). made (get_or messages j none).place (take bytes (get_or (set pool.bytes k written) cell []))) (have.order j none less)
    ∙ elim (cases_eq j k) [
      | inl same ↦
          let P : ℕ → Type 0 = λ i. made (get_or messages i none).place (take bytes (get_or (set pool.bytes k written) i [])) ≡ get_or (with_frame k (take bytes written) old) i d in
          subst P (sym same) (written-here bytes pool messages k written d lt within)
      | inr apart ↦ written-there bytes pool messages k j written d said have less apart
    ])

-- bytes written into another cell change none of them
pub held-beside : (bytes : ℕ) (pool new : PoolView) (messages : List Message) (cell : ℕ) (written : List ℕ) → HaveCells pool messages None → length messages ≤ cell → new.bytes ≡ pool.bytes →
    map (held_of bytes (written_in cell written new)) messages ≡ map (held_of bytes pool) messages
held-beside bytes pool new messages cell written have past same =
    same_lists (map (held_of bytes (written_in cell written new)) messages) (map (held_of bytes pool) messages)
    (length-map messages (held_of bytes (written_in cell written new)) ∙ sym (length-map messages (held_of bytes pool)))
    (λ k d short. let lt : k < length messages = rw length-map at short in
    let number : (get_or messages k none).cell ≡ k = have.order k none lt in
    get_or-map (held_of bytes (written_in cell written new)) messages k none d lt
    ∙ ap (λ (stored : List ℕ). made (get_or messages k none).place (take bytes stored))
    (get_or-set_other new.bytes cell (get_or messages k none).cell written [] (λ equal. absurd (omega (arith, equal, number)))
    ∙ ap (λ (stored : List (List ℕ)). get_or stored (get_or messages k none).cell []) same)
    ∙ sym (get_or-map (held_of bytes pool) messages k none d lt))

pub said-beside : (bytes : ℕ) (pool : PoolView) (messages : List Message) (k : ℕ) (written : List ℕ) (said : Option ℕ) → HaveCells pool messages said → k < length messages →
    bytes_said bytes (written_in k written pool) said ≡ bytes_said bytes pool said
said-beside bytes pool messages k written None have lt = refl
said-beside bytes pool messages k written (Some cell) have lt =
    ap (λ (stored : List ℕ). Some (take bytes stored)) (get_or-set_other pool.bytes k cell written [] (λ same. absurd (omega (arith, same, (have.said_out cell refl).0))))

-- where other cells change, a memory is seen as it was
pub memory-same : (places bytes : ℕ) (old new : PoolView) (messages : List Message) (said : Option ℕ) → HaveCells old messages said → Stays old new →
    (let now : MemoryView = record { places = places; bytes = bytes; held = map (held_of bytes new) messages; said = bytes_said bytes new said } in now) ≡ record { places = places; bytes = bytes; held = map (held_of bytes old) messages; said = bytes_said bytes old said }
memory-same places bytes old new messages said have stays =
    ap₂ (λ (held : List Held) (frame : Option (List ℕ)). let now : MemoryView = record { places = places; bytes = bytes; held = held; said = frame } in now)
    (held-stays bytes old new messages said have stays) (said-stays bytes old new messages said have stays)

-- what is read of the places
pub at-place : (places : List (Option ℕ)) (place : ℕ) (read wanted : Option ℕ) → place < length places → read ≡ get_or places place read → read ≡ wanted → get_or places place None ≡ wanted
at-place places place read wanted lt reads is = sym (get_or_read places place read lt reads None) ∙ is

-- a place that has a cell takes what is sent there in that cell
pub claimed-found : (bytes : ℕ) (pool : PoolView) (messages : List Message) (places : List (Option ℕ)) (room place k : ℕ) → HavePlaces messages places room → get_or places place None ≡ Some k →
    IsClaimed (map (held_of bytes pool) messages) (map (held_of bytes pool) messages) place k
claimed-found bytes pool messages places room place k have at =
    let held : List Held = map (held_of bytes pool) messages in
    let lt : k < length messages = have.found place k at in
    let long : k < length held = rw length-map lt in
    let here : (get_or held k blank).place ≡ place = place-held bytes pool messages k none lt ∙ have.owned place k none at in record {
      within = long;
      place_is = λ d. ap (λ (h : Held). h.place) (get_or_default held k d blank long) ∙ here;
      takes = λ frame. sym (sent_at-found place frame held k long here
          (λ j less same. other-places messages places room have j k none (omega arith) lt (omega arith)
          (sym (place-held bytes pool messages j none (omega arith)) ∙ same ∙ sym (have.owned place k none at))));
    }

-- one that has none takes it in the next
pub claimed-new : (bytes : ℕ) (old new : PoolView) (messages more : List Message) (places : List (Option ℕ)) (room place : ℕ) → HavePlaces messages places room → get_or places place None ≡ None →
    new.bytes ≡ old.bytes → more ≡ messages ++ record { place = place; cell = length messages } ∷ [] →
    IsClaimed (map (held_of bytes old) messages) (map (held_of bytes new) more) place (length messages)
claimed-new bytes old new messages more places room place have at same_bytes pushed =
    let held : List Held = map (held_of bytes old) messages in
    let k : ℕ = length messages in
    let last : Held = made place (take bytes (get_or old.bytes k [])) in
    let long : length held ≡ k = length-map messages (held_of bytes old) in
    let whole : map (held_of bytes new) more ≡ held ++ last ∷ [] =
    ap (map (held_of bytes new)) pushed
    ∙ ap (λ (stored : List (List ℕ)). map (λ (m : Message). made m.place (take bytes (get_or stored m.cell []))) (messages ++ record { place = place; cell = k } ∷ [])) same_bytes
    ∙ map_push (held_of bytes old) messages (record { place = place; cell = k }) in
    let P : List Held → Type 0 = λ now. IsClaimed held now place k in
    subst P (sym whole) (record {
      within = omega (arith, long, length_push held last);
      place_is = λ d. ap (λ (h : Held). h.place) (get_or_push held last d k long);
      takes = λ frame. set_at held last [] (made place frame) k long
          ∙ sym (sent_at-new place frame held
          (λ j less same. none-some j
          (sym at
          ∙ ap (λ (i : ℕ). get_or places i None) (sym same ∙ place-held bytes old messages j none (omega (arith, long)))
          ∙ have.placed j none (omega (arith, long)))));
    })

-- nothing is being said
pub unsaid : (bytes : ℕ) (pool : PoolView) (said : Option ℕ) → bytes_said bytes pool said ≡ None → said ≡ None
unsaid bytes pool None is = refl
unsaid bytes pool (Some cell) is = absurd (cc)

-- where a frame stands
pub there : (bytes : ℕ) (pool : PoolView) (messages : List Message) (said cell : Option ℕ) (places : ℕ) →
    HasFrame (record { places = places; bytes = bytes; held = map (held_of bytes pool) messages; said = bytes_said bytes pool said }) cell → IsThere messages said cell
there bytes pool messages None None places has = absurd (cc)
there bytes pool messages (Some k) None places has = refl
there bytes pool messages said (Some k) places has = rw length-map at has

pub frame-there : (bytes : ℕ) (pool : PoolView) (messages : List Message) (said cell : Option ℕ) (places : ℕ) → IsThere messages said cell →
    frame_on (record { places = places; bytes = bytes; held = map (held_of bytes pool) messages; said = bytes_said bytes pool said }) cell ≡ frame_at pool (number_at messages said cell) bytes
frame-there bytes pool messages None None places is = absurd (cc)
frame-there bytes pool messages (Some k) None places is = refl
frame-there bytes pool messages said (Some k) places is = ap (λ (h : Held). h.frame) (get_or-map (held_of bytes pool) messages k none blank is)

-- the pool of a memory
pub pool-of : (bytes : ℕ) (pool : PoolView) (messages : List Message) (places : List (Option ℕ)) (room : ℕ) (said : Option ℕ) → IsMemory pool messages places room said → bytes_said bytes pool said ≡ None →
    IsPoolOf (record { places = length places; bytes = bytes; held = map (held_of bytes pool) messages; said = bytes_said bytes pool said }) pool
pool-of bytes pool messages places room said is quiet =
    let long : length (map (held_of bytes pool) messages) ≡ length messages = length-map messages (held_of bytes pool) in record {
      cells = is.sizes;
      kept = λ cell lt. is.cells.out cell (omega (arith, long));
      others = λ cell ge lt. is.cells.free cell (omega (arith, long)) lt (λ some. none-some cell (sym (unsaid bytes pool said quiet) ∙ some));
      frames = λ cell lt.
          let less : cell < length messages = omega (arith, long) in
          ap (λ (h : Held). h.frame) (get_or-map (held_of bytes pool) messages cell none blank less)
          ∙ ap (λ (k : ℕ). frame_at pool k bytes) (is.cells.order cell none less);
    }

-- the number of the cell of a place, and what was sent there last, where it has one
pub cell-found : (bytes : ℕ) (pool : PoolView) (messages : List Message) (places : List (Option ℕ)) (room place k : ℕ) (said : Option ℕ) → IsMemory pool messages places room said → get_or places place None ≡ Some k →
    Some (get_or messages k none).cell ≡ cell_of (map (held_of bytes pool) messages) place
cell-found bytes pool messages places room place k said is at =
    let held : List Held = map (held_of bytes pool) messages in
    let have = is.at_places in
    let lt : k < length messages = have.found place k at in
    let long : length held ≡ length messages = length-map messages (held_of bytes pool) in
    let here : (get_or held k blank).place ≡ place = place-held bytes pool messages k none lt ∙ have.owned place k none at in
    let first : position_or_len (is_of_place place) held ≡ k = position_or_len_is (is_of_place place) held k blank (omega (arith, long))
    (λ j less. other-eqb (get_or held j blank).place place (λ same. other-places messages places room have j k none (omega arith) lt (omega arith)
    (sym (place-held bytes pool messages j none (omega arith)) ∙ same ∙ sym (have.owned place k none at))))
    (λ within. eq-eqb (get_or held k blank).place place here) in
    ap (λ (i : ℕ). Some i) (is.cells.order k none lt) ∙ sym (found-at (is_of_place place) held k first (omega (arith, long)))

pub frame-found : (bytes : ℕ) (pool : PoolView) (messages : List Message) (places : List (Option ℕ)) (room place k : ℕ) (said : Option ℕ) → IsMemory pool messages places room said → get_or places place None ≡ Some k →
    Some (frame_at pool (get_or messages k none).cell bytes) ≡ frame_in_cell (map (held_of bytes pool) messages) place
frame-found bytes pool messages places room place k said is at =
    let held : List Held = map (held_of bytes pool) messages in
    let have = is.at_places in
    let lt : k < length messages = have.found place k at in
    let long : length held ≡ length messages = length-map messages (held_of bytes pool) in
    let here : (get_or held k blank).place ≡ place = place-held bytes pool messages k none lt ∙ have.owned place k none at in
    let found : find (is_of_place place) held ≡ Some (get_or held k blank) = find-at place held k (omega (arith, long)) here
    (λ j less same. other-places messages places room have j k none (omega arith) lt (omega arith)
    (sym (place-held bytes pool messages j none (omega arith)) ∙ same ∙ sym (have.owned place k none at))) in
    ap (λ (h : Held). Some h.frame) (sym (get_or-map (held_of bytes pool) messages k none blank lt)) ∙ sym (ap (option_map (λ (h : Held). h.frame)) found)

-- and where it has none
none-there : (bytes : ℕ) (pool : PoolView) (messages : List Message) (places : List (Option ℕ)) (room place : ℕ) → HavePlaces messages places room → get_or places place None ≡ None →
    (j : ℕ) → j < length (map (held_of bytes pool) messages) → (get_or (map (held_of bytes pool) messages) j blank).place ≢ place
none-there bytes pool messages places room place have at j less same =
    let lt : j < length messages = rw length-map at less in
    none-some j (sym at ∙ ap (λ (i : ℕ). get_or places i None) (sym same ∙ place-held bytes pool messages j none lt) ∙ have.placed j none lt)

pub cell-none : (bytes : ℕ) (pool : PoolView) (messages : List Message) (places : List (Option ℕ)) (room place : ℕ) (said : Option ℕ) → IsMemory pool messages places room said → get_or places place None ≡ None →
    None ≡ cell_of (map (held_of bytes pool) messages) place
cell-none bytes pool messages places room place said is at =
    let held : List Held = map (held_of bytes pool) messages in
    sym (found-none (is_of_place place) held (position_or_len_is (is_of_place place) held (length held) blank (omega arith)
    (λ j less. other-eqb (get_or held j blank).place place (none-there bytes pool messages places room place is.at_places at j less)) (λ less. absurd (omega arith))))

pub frame-none : (bytes : ℕ) (pool : PoolView) (messages : List Message) (places : List (Option ℕ)) (room place : ℕ) (said : Option ℕ) → IsMemory pool messages places room said → get_or places place None ≡ None →
    None ≡ frame_in_cell (map (held_of bytes pool) messages) place
frame-none bytes pool messages places room place said is at =
    sym (ap (option_map (λ (h : Held). h.frame)) (find-none place (map (held_of bytes pool) messages) (none-there bytes pool messages places room place is.at_places at)))

-- the frame that was put into a cell
pub frame-put : (held : List Held) (cell : ℕ) (frame : List ℕ) → cell < length held → (held_at (with_frame cell frame held) cell).frame ≡ frame
frame-put held cell frame lt = ap (λ (h : Held). h.frame) (get_or-set_same held cell (made (held_at held cell).place frame) blank lt)
