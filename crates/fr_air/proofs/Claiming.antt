-- A cell is taken for a place that has none: the memory holds one more message.
use Rattle.std.proofs.Common.{◌≡◌, ◌≢◌, ◌⊎◌, ℕ, zero, suc, ◌+◌, ◌<◌, ◌≤◌, Bool, true, false, List, [], ◌∷◌, ◌++◌, length, get_or, replicate, set, take, Option, Some, None, inl, inr, refl, ap, sym, subst, ◌∙◌, arith}
use Rattle.std.specs.Prelude.{slice_get}
use Rattle.std.proofs.lemmas.Bool.{cases_eq}
use Rattle.std.proofs.lemmas.List.{get_or-set_other, get_or-set_same, get_or_append_left, get_or_past, get_or_push, get_or-take, length-set, length-replicate, length-take, length-take-le, length_push, get_or-replicate}
use Rattle.std.proofs.lemmas.Option.{get_or_from_slice_get, none-some, slice_get-get_or, slice_get_within}
use Rattle.fr_pool.specs.Pool.{PoolView, HasFree, IsOut, Takes, fresh_pool, given_back, taken_out, written_in}
use Rattle.fr_air.specs.Cells.{number_at, how_many_numbered, HaveCells, HavePlaces, IsMemory, IsThere, StandsInCell}
use Rattle.fr_air.specs.declared.memory.Message.{Message}
use Rattle.fr_air.proofs.Staying.{out-set-other, out-set-same}

-- ---- what is out

-- the cell that is taken is the next: all below are out, and it was not
pub taken-next : (pool new : PoolView) (messages : List Message) (cell : ℕ) → HaveCells pool messages None → Takes pool cell new → cell ≡ length messages
taken-next pool new messages cell have takes =
    let m : ℕ = length messages in
    let within : cell < length pool.out = slice_get_within pool.out cell false takes.free in
    let least : (cell < m) → ⊥ = λ less.
    let both : Some false ≡ Some true = sym takes.free ∙ have.out cell less in
    cc in
    let most : (m < cell) → ⊥ = λ less.
    let few = length-take cell pool.out in
    let out_before : get_or pool.out m true ≡ true = sym (get_or-take cell pool.out m true less) ∙ takes.first m true (omega arith) in
    let not_out : get_or pool.out m true ≡ false = get_or_from_slice_get pool.out m false true (have.free m (omega arith) (omega arith) (none-some m)) in
    let both : true ≡ false = sym out_before ∙ not_out in
    cc in
    elim (cases_eq cell m) [
      | inl same ↦ same
      | inr apart ↦ absurd (grind (arith, least, most, apart))
    ]

-- with one message more
pub cells-more : (pool new : PoolView) (messages more : List Message) (place : ℕ) → HaveCells pool messages None → length messages < length pool.out → new ≡ taken_out (length messages) pool →
    more ≡ messages ++ record { place = place; cell = length messages } ∷ [] → HaveCells new more None
cells-more pool new messages more place have room taken pushed =
    let m : ℕ = length messages in
    let last : Message = record { place = place; cell = m } in
    let long : length (messages ++ last ∷ []) ≡ m + 1 = length_push messages last in
    let P : List Message → Type 0 = λ ms. HaveCells (taken_out m pool) ms None in
    let Q : PoolView → Type 0 = λ p. HaveCells p more None in
    subst Q (sym taken) (subst P (sym pushed) (record {
      order = λ k d lt. elim (cases_eq k m) [
        | inl same ↦ ap (λ (message : Message). message.cell) (get_or_push messages last d k (sym same)) ∙ sym same
        | inr apart ↦ ap (λ (message : Message). message.cell) (get_or_append_left messages (last ∷ []) d k (omega (arith, long, apart))) ∙ have.order k d (omega (arith, long, apart))
      ];
      out = λ k lt. elim (cases_eq k m) [
        | inl same ↦ subst (λ j. slice_get (set pool.out m true) j ≡ Some true) (sym same) (out-set-same pool.out m true room)
        | inr apart ↦ out-set-other pool.out m k true true apart (have.out k (omega (arith, long, apart)))
      ];
      said_out = λ k is. absurd (none-some k is);
      free = λ k ge lt unsaid.
          let inside : k < length pool.out = rw length-set at lt in
          out-set-other pool.out m k true false (omega (arith, long)) (have.free k (omega (arith, long)) inside unsaid);
    }))

-- ---- places

-- one place more has a number
numbered-set : (places : List (Option ℕ)) (place k : ℕ) → place < length places → get_or places place None ≡ None → how_many_numbered (set places place (Some k)) ≡ how_many_numbered places + 1
numbered-set [] place k lt none = absurd (omega arith)
numbered-set (None ∷ ps) zero k lt none = refl
numbered-set (Some p ∷ ps) zero k lt none = absurd (cc)
numbered-set (None ∷ ps) (suc place) k lt none = numbered-set ps place k (omega arith) none
numbered-set (Some p ∷ ps) (suc place) k lt none = ap (λ (n : ℕ). n + 1) (numbered-set ps place k (omega arith) none)

numbered-le-length : (places : List (Option ℕ)) → how_many_numbered places ≤ length places
numbered-le-length [] = omega arith
numbered-le-length (None ∷ ps) = omega (arith, numbered-le-length ps)
numbered-le-length (Some k ∷ ps) = omega (arith, numbered-le-length ps)

none-numbered : (n : ℕ) → how_many_numbered (replicate n None) ≡ 0
none-numbered zero = refl
none-numbered (suc n) = none-numbered n

le_or_lt : (n m : ℕ) → (n ≤ m) ⊎ (m < n)
le_or_lt n m = grind arith

-- there is room for as many messages as places
pub room-left : (messages : List Message) (places : List (Option ℕ)) (room place : ℕ) → HavePlaces messages places room → place < length places → get_or places place None ≡ None → length messages < length places
room-left messages places room place have lt none =
    let more : how_many_numbered (set places place (Some 0)) ≡ how_many_numbered places + 1 = numbered-set places place 0 lt none in
    let most = numbered-le-length (set places place (Some 0)) in
    omega (arith, more, most, have.counted, length-set places place (Some 0))

pub places-more : (messages more : List Message) (places : List (Option ℕ)) (room place : ℕ) → HavePlaces messages places room → place < length places → get_or places place None ≡ None →
    more ≡ messages ++ record { place = place; cell = length messages } ∷ [] → HavePlaces more (set places place (Some (length messages))) room
places-more messages more places room place have lt none pushed =
    let m : ℕ = length messages in
    let last : Message = record { place = place; cell = m } in
    let now : List (Option ℕ) = set places place (Some m) in
    let long : length (messages ++ last ∷ []) ≡ m + 1 = length_push messages last in
    let here : get_or now place None ≡ Some m = get_or-set_same places place (Some m) None lt in
    let there : (i : ℕ) → i ≢ place → get_or now i None ≡ get_or places i None = λ i apart. get_or-set_other places place i (Some m) None apart in
    let P : List Message → Type 0 = λ ms. HavePlaces ms now room in
    subst P (sym pushed) (record {
      room_is = rw length-set have.room_is;
      counted = omega (arith, numbered-set places place m lt none, have.counted, long);
      found = λ i k at. elim (cases_eq i place) [
        | inl same ↦
            let both : Some k ≡ Some m = sym at ∙ ap (λ (j : ℕ). get_or now j None) same ∙ here in
            let e : k ≡ m = cc in
            omega (arith, long, e)
        | inr apart ↦ omega (arith, long, have.found i k (sym (there i apart) ∙ at))
      ];
      owned = λ i k d at. elim (cases_eq i place) [
        | inl same ↦
            let both : Some k ≡ Some m = sym at ∙ ap (λ (j : ℕ). get_or now j None) same ∙ here in
            let e : m ≡ k = cc in
            ap (λ (message : Message). message.place) (get_or_push messages last d k e) ∙ sym same
        | inr apart ↦
            let was : get_or places i None ≡ Some k = sym (there i apart) ∙ at in
            ap (λ (message : Message). message.place) (get_or_append_left messages (last ∷ []) d k (have.found i k was)) ∙ have.owned i k d was
      ];
      placed = λ k d less. elim (cases_eq k m) [
        | inl same ↦ ap (λ (message : Message). get_or now message.place None) (get_or_push messages last d k (sym same)) ∙ here ∙ ap (λ (j : ℕ). Some j) (sym same)
        | inr apart ↦
            let lower : k < m = omega (arith, long, apart) in
            let was : get_or places (get_or messages k d).place None ≡ Some k = have.placed k d lower in
            let other : (get_or messages k d).place ≢ place = λ same. none-some k (sym none ∙ ap (λ (j : ℕ). get_or places j None) (sym same) ∙ was) in
            ap (λ (message : Message). get_or now message.place None) (get_or_append_left messages (last ∷ []) d k lower) ∙ there (get_or messages k d).place other ∙ was
      ];
    })

-- the whole memory
pub memory-more : (pool new : PoolView) (messages more : List Message) (places : List (Option ℕ)) (room place cell : ℕ) → IsMemory pool messages places room None → place < length places → get_or places place None ≡ None →
    Takes pool cell new → more ≡ messages ++ record { place = place; cell = length messages } ∷ [] → IsMemory new more (set places place (Some (length messages))) room None
memory-more pool new messages more places room place cell is lt none takes pushed =
    let left : length messages < length places = room-left messages places room place is.at_places lt none in
    let next : cell ≡ length messages = taken-next pool new messages cell is.cells takes in
    let taken : new ≡ taken_out (length messages) pool = takes.taken ∙ ap (λ (k : ℕ). taken_out k pool) next in
    let outs : length new.out ≡ length pool.out = ap (λ (p : PoolView). length p.out) taken ∙ length-set pool.out (length messages) true in
    let bytes : length new.bytes ≡ length pool.bytes = ap (λ (p : PoolView). length p.bytes) taken in
    record {
      sizes = outs ∙ is.sizes ∙ ap (λ (n : ℕ). n + 2) (sym (length-set places place (Some (length messages))));
      whole = bytes ∙ is.whole ∙ sym outs;
      cells = cells-more pool new messages more place is.cells (omega (arith, is.sizes, left)) taken pushed;
      at_places = places-more messages more places room place is.at_places lt none pushed;
    }

-- there are no more messages than places, so that two cells are free
pub messages-le : (messages : List Message) (places : List (Option ℕ)) (room : ℕ) → HavePlaces messages places room → length messages ≤ length places
messages-le messages places room have = omega (arith, have.counted, numbered-le-length places)

pub spare : (pool : PoolView) (messages : List Message) (places : List (Option ℕ)) (room : ℕ) (said : Option ℕ) → IsMemory pool messages places room said → HasFree pool
spare pool messages places room None is =
    let le : length messages ≤ length places = messages-le messages places room is.at_places in
    (length messages, is.cells.free (length messages) (omega arith) (omega (arith, is.sizes, le)) (none-some (length messages)))
spare pool messages places room (Some cell) is =
    let le : length messages ≤ length places = messages-le messages places room is.at_places in
    let m : ℕ = length messages in
    let other : (k : ℕ) → cell ≢ k → Some cell ≢ Some k = λ k apart same. apart (cc) in
    elim (cases_eq cell m) [
      | inl same ↦ (m + 1, is.cells.free (m + 1) (omega arith) (omega (arith, is.sizes, le)) (other (m + 1) (λ equal. absurd (omega (arith, same, equal)))))
      | inr apart ↦ (m, is.cells.free m (omega arith) (omega (arith, is.sizes, le)) (other m apart))
    ]

-- the cell of a message, or of what is said, is out
pub number-out : (pool : PoolView) (messages : List Message) (said cell : Option ℕ) → HaveCells pool messages said → IsThere messages said cell → IsOut pool (number_at messages said cell)
number-out pool messages None None have there = absurd (cc)
number-out pool messages (Some k) None have there = (have.said_out k refl).1
number-out pool messages said (Some k) have there = subst (IsOut pool) (sym (have.order k (record { place = 0; cell = 0 }) there)) (have.out k there)

-- a frame stands in it
pub stands-on : (pool : PoolView) (messages : List Message) (places : List (Option ℕ)) (room bytes : ℕ) (said cell : Option ℕ) (read : List ℕ) → IsMemory pool messages places room said → bytes ≤ 262 → IsThere messages said cell →
    slice_get pool.bytes (number_at messages said cell) ≡ Some read → length read ≡ 264 → StandsInCell pool (number_at messages said cell) bytes
stands-on pool messages places room bytes said cell read is short there got long =
    record {
      out = number-out pool messages said cell is.cells there;
      whole = is.whole;
      within = ap (λ (stored : List ℕ). length (take bytes stored)) (get_or_from_slice_get pool.bytes (number_at messages said cell) read [] got) ∙ length-take-le bytes read (omega (arith, long));
      short = short;
      spare = spare pool messages places room said is;
    }

-- a memory with no message
pub memory-fresh : (pool : PoolView) (messages : List Message) (places : List (Option ℕ)) (n room : ℕ) → pool ≡ fresh_pool (n + 2) → messages ≡ [] → places ≡ replicate n None → n ≤ room → IsMemory pool messages places room None
memory-fresh pool messages places n room fresh empty blank le =
    let P : PoolView → Type 0 = λ p. IsMemory p messages places room None in
    let Q : List Message → Type 0 = λ ms. IsMemory (fresh_pool (n + 2)) ms places room None in
    let R : List (Option ℕ) → Type 0 = λ ps. IsMemory (fresh_pool (n + 2)) [] ps room None in
    let unset : (place : ℕ) → get_or (replicate n None) place None ≡ None = λ place. elim (le_or_lt n place) [
      | inl past ↦ get_or_past (replicate n None) place None (rw length-replicate past)
      | inr within ↦ get_or-replicate n place None None within
    ] in
    subst P (sym fresh) (subst Q (sym empty) (subst R (sym blank) (record {
      sizes = length-replicate (n + 2) false ∙ ap (λ (k : ℕ). k + 2) (sym (length-replicate n None));
      whole = length-replicate (n + 2) (replicate 264 0) ∙ sym (length-replicate (n + 2) false);
      cells = record {
        order = λ k d lt. absurd (omega arith);
        out = λ k lt. absurd (omega arith);
        said_out = λ k is. absurd (none-some k is);
        free = λ k ge lt unsaid. slice_get-get_or (replicate (n + 2) false) k false lt ∙ ap (λ (b : Bool). Some b) (get_or-replicate (n + 2) k false false (rw length-replicate at lt));
      };
      at_places = record {
        room_is = rw length-replicate le;
        counted = none-numbered n;
        found = λ place k at. absurd (none-some k (sym (unset place) ∙ at));
        owned = λ place k d at. absurd (none-some k (sym (unset place) ∙ at));
        placed = λ k d lt. absurd (omega arith);
      };
    })))

-- ---- cells that are given back

-- with one message fewer, whose cell was given back
pub cells-fewer : (pool new : PoolView) (messages rest : List Message) (message : Message) → HaveCells pool messages None → messages ≡ rest ++ message ∷ [] → new ≡ given_back message.cell pool → HaveCells new rest None
cells-fewer pool new messages rest message have popped gave =
    let m : ℕ = length rest in
    let P : List Message → Type 0 = λ ms. HaveCells pool ms None in
    let all : HaveCells pool (rest ++ message ∷ []) None = subst P popped have in
    let long : length (rest ++ message ∷ []) ≡ m + 1 = length_push rest message in
    let number : message.cell ≡ m = ap (λ (last : Message). last.cell) (sym (get_or_push rest message message m refl)) ∙ all.order m message (omega (arith, long)) in
    let inside : m < length pool.out = slice_get_within pool.out m true (all.out m (omega (arith, long))) in
    let is : new ≡ given_back m pool = gave ∙ ap (λ (k : ℕ). given_back k pool) number in
    let Q : PoolView → Type 0 = λ p. HaveCells p rest None in
    subst Q (sym is) (record {
      order = λ k d lt. ap (λ (one : Message). one.cell) (sym (get_or_append_left rest (message ∷ []) d k lt)) ∙ all.order k d (omega (arith, long));
      out = λ k lt. out-set-other pool.out m k false true (λ same. absurd (omega arith)) (all.out k (omega (arith, long)));
      said_out = λ k none. absurd (none-some k none);
      free = λ k ge lt unsaid.
          let less : k < length pool.out = rw length-set at lt in
          elim (cases_eq k m) [
            | inl same ↦ subst (λ j. slice_get (set pool.out m false) j ≡ Some false) (sym same) (out-set-same pool.out m false inside)
            | inr apart ↦ out-set-other pool.out m k false false apart (all.free k (omega (arith, long, apart)) less unsaid)
          ];
    })

-- ---- what is said

-- a further cell is taken, and written
pub memory-said : (pool new : PoolView) (messages : List Message) (places : List (Option ℕ)) (room cell : ℕ) (written : List ℕ) → IsMemory pool messages places room None → Takes pool cell new →
    IsMemory (written_in cell written new) messages places room (Some cell)
memory-said pool new messages places room cell written is takes =
    let m : ℕ = length messages in
    let next : cell ≡ m = taken-next pool new messages cell is.cells takes in
    let inside : cell < length pool.out = slice_get_within pool.out cell false takes.free in
    let P : PoolView → Type 0 = λ p. IsMemory (written_in cell written p) messages places room (Some cell) in
    subst P (sym takes.taken) (record {
      sizes = length-set pool.out cell true ∙ is.sizes;
      whole = length-set pool.bytes cell written ∙ is.whole ∙ sym (length-set pool.out cell true);
      cells = record {
        order = is.cells.order;
        out = λ k lt. out-set-other pool.out cell k true true (λ same. absurd (omega (arith, same, next))) (is.cells.out k lt);
        said_out = λ k same.
            let e : cell ≡ k = cc in
            (omega (arith, e, next), subst (λ j. slice_get (set pool.out cell true) j ≡ Some true) e (out-set-same pool.out cell true inside));
        free = λ k ge lt unsaid.
            let less : k < length pool.out = rw length-set at lt in
            out-set-other pool.out cell k true false (λ same. unsaid (ap (λ (i : ℕ). Some i) (sym same))) (is.cells.free k ge less (none-some k));
      };
      at_places = is.at_places;
    })

-- it is given back
cells-unsaid : (pool : PoolView) (messages : List Message) (cell : ℕ) → HaveCells pool messages (Some cell) → HaveCells (given_back cell pool) messages None
cells-unsaid pool messages cell have =
    let said = have.said_out cell refl in
    let inside : cell < length pool.out = slice_get_within pool.out cell true said.1 in
    record {
      order = have.order;
      out = λ k lt. out-set-other pool.out cell k false true (λ same. absurd (omega (arith, same, said.0))) (have.out k lt);
      said_out = λ k none. absurd (none-some k none);
      free = λ k ge lt unsaid.
          let less : k < length pool.out = rw length-set at lt in
          elim (cases_eq k cell) [
            | inl same ↦ subst (λ j. slice_get (set pool.out cell false) j ≡ Some false) (sym same) (out-set-same pool.out cell false inside)
            | inr apart ↦ out-set-other pool.out cell k false false apart (have.free k ge less (λ equal. apart (sym (cc))))
          ];
    }

pub gave-said : (pool new : PoolView) (messages : List Message) (cell : ℕ) → HaveCells pool messages (Some cell) → new ≡ given_back cell pool → HaveCells new messages None
gave-said pool new messages cell have gave =
    let P : PoolView → Type 0 = λ p. HaveCells p messages None in
    subst P (sym gave) (cells-unsaid pool messages cell have)

pub memory-unsaid : (pool new : PoolView) (messages : List Message) (places : List (Option ℕ)) (room cell : ℕ) → IsMemory pool messages places room (Some cell) → new ≡ given_back cell pool → IsMemory new messages places room None
memory-unsaid pool new messages places room cell is gave =
    let P : PoolView → Type 0 = λ p. IsMemory p messages places room None in
    subst P (sym gave) (record {
      sizes = length-set pool.out cell false ∙ is.sizes;
      whole = is.whole ∙ sym (length-set pool.out cell false);
      cells = cells-unsaid pool messages cell is.cells;
      at_places = is.at_places;
    })
