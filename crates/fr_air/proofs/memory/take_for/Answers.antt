use Rattle.std.proofs.Common.{◌≡◌, ◌++◌, [], ◌∷◌, ◌∙◌, ℕ, Some, None, length, set, ap, sym, subst, arith}
use Rattle.std.specs.Prelude.{vec_capacity}
use Rattle.fr_air.specs.Cells.{IsMemory}
use Rattle.fr_air.specs.declared.memory.Message.{Message}
use Rattle.fr_air.proofs.Claiming.{memory-more, room-left, spare, taken-next}
use Rattle.fr_air.proofs.memory.take_for.Goals as goal

pub take_spare-cell-requires : goal.take_spare-cell-requires
take_spare-cell-requires c =
    let a = c.args in
    let is = c.requires.memory in
    spare a.pool.now a.messages.now.items a.places.now.items (vec_capacity a.messages.now) None is

pub push_reserved-requires : goal.push_reserved-requires
push_reserved-requires c =
    let a = c.args in
    let is = c.requires.memory in
    let left = room-left a.messages.now.items a.places.now.items (vec_capacity a.messages.now) a.place is.at_places c.requires.within c.requires.none in
    omega (arith, left, is.at_places.room_is)

pub returns-clause-message : goal.returns-clause-message
returns-clause-message c =
    let a = c.args in
    let next : c.take_spare-cell.result ≡ length a.messages.now.items = taken-next a.pool.now c.take_spare-cell.new.pool a.messages.now.items c.take_spare-cell.result c.requires.memory.cells c.take_spare-cell.ensures in
    let number : c.take_spare-cell.result ≡ c.len-number.result = omega (arith, next, c.len-number.ensures) in
    c.push_reserved.ensures.items ∙ ap (λ (k : ℕ). let last : Message = record { place = a.place; cell = k } in a.messages.now.items ++ last ∷ []) number

pub returns-clause-memory : goal.returns-clause-memory
returns-clause-memory c =
    let a = c.args in
    let next : c.take_spare-cell.result ≡ length a.messages.now.items = taken-next a.pool.now c.take_spare-cell.new.pool a.messages.now.items c.take_spare-cell.result c.requires.memory.cells c.take_spare-cell.ensures in
    let number : length a.messages.now.items ≡ c.len-number.result = omega (arith, c.len-number.ensures) in
    let pushed : c.push_reserved.new.self.items ≡ a.messages.now.items ++ (let last : Message = record { place = a.place; cell = length a.messages.now.items } in last ∷ []) =
    c.push_reserved.ensures.items ∙ ap (λ (k : ℕ). let last : Message = record { place = a.place; cell = k } in a.messages.now.items ++ last ∷ []) next in
    let P : ℕ → Type 0 = λ k. IsMemory c.take_spare-cell.new.pool c.push_reserved.new.self.items (set a.places.now.items a.place (Some k)) (vec_capacity c.push_reserved.new.self) None in
    let Q : ℕ → Type 0 = λ room. IsMemory c.take_spare-cell.new.pool c.push_reserved.new.self.items (set a.places.now.items a.place (Some (length a.messages.now.items))) room None in
    subst P number (subst Q (sym c.push_reserved.ensures.capacity)
    (memory-more a.pool.now c.take_spare-cell.new.pool a.messages.now.items c.push_reserved.new.self.items a.places.now.items (vec_capacity a.messages.now) a.place c.take_spare-cell.result c.requires.memory c.requires.within c.requires.none c.take_spare-cell.ensures pushed))
