use Rattle.std.proofs.Common.{◌≡◌, ℤ, pos, false, ◌⊎◌, inl, inr, to_z, of_z, w64, ap, subst, ◌∙◌, arith}
use Rattle.std.specs.Prelude.{◌≤ℤ◌, ◌<ℤ◌, ◌+ℤ◌}
use Rattle.std.proofs.lemmas.Int.{ints}
use Rattle.fr_time.specs.Counted.{IsCounted}
use Rattle.fr_time.specs.Walk.{IsNextPosition, IsWalk, Walk}
use Rattle.fr_time.proofs.Walking.{early_at, early_moved, early_more, is_before, is_from, late_at, late_more, late_moved, late_to, not_over, one_more, one_more_fits, weaker}
use Rattle.fr_time.proofs.macroticks.Macro.next.Goals.{else-self-2-via-then-self-2+else-self-3, else-self-2-via-else-self-2}
use Rattle.fr_time.proofs.macroticks.Macro.next.Goals as goal

pub more-self-inside-requires : goal.more-self-inside-requires
more-self-inside-requires c =
    let s = c.self.inside in
    let walk : Walk = record { grid = s.grid; rate = s.rate; offset = s.offset; odd = s.odd; next = s.next } in
    let walks : IsWalk walk = c.self.invariant.0 in
    let counted : IsCounted walk s.start s.early s.late = c.self.invariant.1 in
    let more : s.next <ℤ s.grid.macros = not_over walk walks c.if-self.false in
    let from : s.grid.correction ≤ℤ s.next = is_from walk walks c.if-self-3.true in
    late_more walk s.start s.early s.late counted more c.if-self-2.true from

pub invariant_of-self : goal.invariant_of-self
invariant_of-self c =
    let s = c.self.inside in
    let walk : Walk = record { grid = s.grid; rate = s.rate; offset = s.offset; odd = s.odd; next = s.next } in
    let walks : IsWalk walk = c.self.invariant.0 in
    let counted : IsCounted walk s.start s.early s.late = c.self.invariant.1 in
    let more : s.next <ℤ s.grid.macros = not_over walk walks c.if-self.false in
    let from : s.grid.correction ≤ℤ s.next = is_from walk walks c.if-self-3.true in
    rw (one_more walk walks) (late_moved walk s.start s.early s.late c.more-self-inside.result walks counted more c.if-self-2.true from
    c.more-self-inside.ensures.length c.more-self-inside.ensures.parts c.more-self-inside.ensures.count)

pub more-self-inside-requires-else-self-2 : goal.more-self-inside-requires-else-self-2
more-self-inside-requires-else-self-2 c =
    let s = c.self.inside in
    let walk : Walk = record { grid = s.grid; rate = s.rate; offset = s.offset; odd = s.odd; next = s.next } in
    let walks : IsWalk walk = c.self.invariant.0 in
    let counted : IsCounted walk s.start s.early s.late = c.self.invariant.1 in
    let more : s.next <ℤ s.grid.macros = not_over walk walks c.if-self.false in
    let which : (s.odd ≡ false) ⊎ (s.next <ℤ s.grid.correction) = elim c.else-self-2.branch [
      | else-self-2-via-then-self-2+else-self-3 w ↦ inr (is_before walk walks w.if-self-3.false)
      | else-self-2-via-else-self-2 w ↦ inl w.if-self-2.false
    ] in
    early_more walk s.start s.early s.late counted more which

pub invariant_of-self-else-self-2 : goal.invariant_of-self-else-self-2
invariant_of-self-else-self-2 c =
    let s = c.self.inside in
    let walk : Walk = record { grid = s.grid; rate = s.rate; offset = s.offset; odd = s.odd; next = s.next } in
    let walks : IsWalk walk = c.self.invariant.0 in
    let counted : IsCounted walk s.start s.early s.late = c.self.invariant.1 in
    let more : s.next <ℤ s.grid.macros = not_over walk walks c.if-self.false in
    let which : (s.odd ≡ false) ⊎ (s.next <ℤ s.grid.correction) = elim c.else-self-2.branch [
      | else-self-2-via-then-self-2+else-self-3 w ↦ inr (is_before walk walks w.if-self-3.false)
      | else-self-2-via-else-self-2 w ↦ inl w.if-self-2.false
    ] in
    rw (one_more walk walks) (early_moved walk s.start s.early s.late c.more-self-inside-else-self-2.result walks counted more which
    c.more-self-inside-else-self-2.ensures.length c.more-self-inside-else-self-2.ensures.parts c.more-self-inside-else-self-2.ensures.count)

pub returns-then-self-3-clause-position : goal.returns-then-self-3-clause-position
returns-then-self-3-clause-position c =
    let s = c.self.inside in
    let walk : Walk = record { grid = s.grid; rate = s.rate; offset = s.offset; odd = s.odd; next = s.next } in
    let walks : IsWalk walk = c.self.invariant.0 in
    let counted : IsCounted walk s.start s.early s.late = c.self.invariant.1 in
    let more : s.next <ℤ s.grid.macros = not_over walk walks c.if-self.false in
    let from : s.grid.correction ≤ℤ s.next = is_from walk walks c.if-self-3.true in
    let to : (s.start +ℤ pos s.late.at) ≤ℤ pos 658_000 = late_to walk s.start s.early s.late walks.is_placeable counted in
    let at : ℤ = to_z w64 (of_z w64 (to_z w64 (of_z w64 s.start) +ℤ to_z w64 (of_z w64 c.from.result))) in
    let at_is : at ≡ s.start +ℤ pos s.late.at = omega (arith, ints, c.from.ensures, counted.start_within.low, counted.start_within.high, to) in
    let P : Walk → Type 0 = λ w. IsNextPosition w at in
    subst P c.self.view_is (more, at_is ∙ late_at walk s.start s.early s.late walks.is_placeable counted c.if-self-2.true from)

pub returns-then-self-3-clause-within : goal.returns-then-self-3-clause-within
returns-then-self-3-clause-within c =
    let s = c.self.inside in
    let walk : Walk = record { grid = s.grid; rate = s.rate; offset = s.offset; odd = s.odd; next = s.next } in
    let walks : IsWalk walk = c.self.invariant.0 in
    let counted : IsCounted walk s.start s.early s.late = c.self.invariant.1 in
    let to : (s.start +ℤ pos s.late.at) ≤ℤ pos 658_000 = late_to walk s.start s.early s.late walks.is_placeable counted in
    record {
      low = omega (arith, ints, c.from.ensures, counted.start_within.low, counted.start_within.high, to);
      high = omega (arith, ints, c.from.ensures, counted.start_within.low, counted.start_within.high, to);
    }

pub returns-else-self-2-clause-position : goal.returns-else-self-2-clause-position
returns-else-self-2-clause-position c =
    let s = c.self.inside in
    let walk : Walk = record { grid = s.grid; rate = s.rate; offset = s.offset; odd = s.odd; next = s.next } in
    let walks : IsWalk walk = c.self.invariant.0 in
    let counted : IsCounted walk s.start s.early s.late = c.self.invariant.1 in
    let more : s.next <ℤ s.grid.macros = not_over walk walks c.if-self.false in
    let which : (s.odd ≡ false) ⊎ (s.next <ℤ s.grid.correction) = elim c.else-self-2.branch [
      | else-self-2-via-then-self-2+else-self-3 w ↦ inr (is_before walk walks w.if-self-3.false)
      | else-self-2-via-else-self-2 w ↦ inl w.if-self-2.false
    ] in
    let at : ℤ = to_z w64 (of_z w64 c.from-at.result) in
    let at_is : at ≡ pos s.early.at = omega (arith, ints, c.from-at.ensures, s.early.at_to, s.early.short) in
    let P : Walk → Type 0 = λ w. IsNextPosition w at in
    subst P c.self.view_is (more, at_is ∙ early_at walk s.start s.early s.late counted (weaker walk which))

pub overflow_add-self : goal.overflow_add-self
overflow_add-self c =
    let s = c.self.inside in
    let walk : Walk = record { grid = s.grid; rate = s.rate; offset = s.offset; odd = s.odd; next = s.next } in
    let walks : IsWalk walk = c.self.invariant.0 in
    one_more_fits walk walks

pub overflow_add-self-else-self-2 : goal.overflow_add-self-else-self-2
overflow_add-self-else-self-2 c =
    let s = c.self.inside in
    let walk : Walk = record { grid = s.grid; rate = s.rate; offset = s.offset; odd = s.odd; next = s.next } in
    let walks : IsWalk walk = c.self.invariant.0 in
    one_more_fits walk walks

pub returns-then-self-3-clause-after : goal.returns-then-self-3-clause-after
returns-then-self-3-clause-after c =
    let s = c.self.inside in
    let walk : Walk = record { grid = s.grid; rate = s.rate; offset = s.offset; odd = s.odd; next = s.next } in
    let walks : IsWalk walk = c.self.invariant.0 in
    let moved : ℤ → Walk = λ at. record { grid = s.grid; rate = s.rate; offset = s.offset; odd = s.odd; next = at } in
    rw (← c.self.view_is) (ap moved (one_more walk walks))

pub returns-else-self-2-clause-after : goal.returns-else-self-2-clause-after
returns-else-self-2-clause-after c =
    let s = c.self.inside in
    let walk : Walk = record { grid = s.grid; rate = s.rate; offset = s.offset; odd = s.odd; next = s.next } in
    let walks : IsWalk walk = c.self.invariant.0 in
    let moved : ℤ → Walk = λ at. record { grid = s.grid; rate = s.rate; offset = s.offset; odd = s.odd; next = at } in
    rw (← c.self.view_is) (ap moved (one_more walk walks))
