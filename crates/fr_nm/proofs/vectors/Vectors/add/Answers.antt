use Rattle.std.proofs.Common.{◌≡◌, ◌∙◌, ℕ, ◌<◌, ◌^◌, Option, Some, None, ap, sym, subst, arith, refl}
use Rattle.std.proofs.lemmas.List.Elements.{All-from_get_or}
use Rattle.fr_nm.specs.Vectors.{merged, one_frame, vector_in, vector_record}
use Rattle.fr_nm.specs.View.{VectorsStandFor, VectorsView}
use Rattle.fr_nm.specs.declared.vector.Folded.{Folded}
use Rattle.fr_nm.proofs.Found.{counts-none, counts-some}
use Rattle.fr_nm.proofs.Standing.{stands-ignored, stands-more}
use Rattle.fr_nm.proofs.vectors.Vectors.add.Goals as goal

pub returns-in-None-clause-counts : goal.returns-in-None-clause-counts
returns-in-None-clause-counts c =
    let r = vector_record c.args.cycle c.args.channel c.args.bytes.now in
    let width : c.self.inside.width ≡ c.args.self.now.width = ap (λ (v : VectorsView). v.width) c.self.view_is in
    let none : vector_in c.args.self.now.width r ≡ None = ap (λ (w : ℕ). vector_in w r) (sym width) ∙ sym c.vector_of.ensures ∙ c.in-None.is in
    counts-none c.args.self.now.width r none

pub returns-in-None-clause-stands : goal.returns-in-None-clause-stands
returns-in-None-clause-stands c = λ records h.
    let r = vector_record c.args.cycle c.args.channel c.args.bytes.now in
    let i : VectorsView = record { width = c.self.inside.width; rows = c.self.inside.rows.entries; frames = c.self.inside.frames; ignored = c.self.inside.ignored } in
    let none : vector_in c.self.inside.width r ≡ None = sym c.vector_of.ensures ∙ c.in-None.is in
    stands-ignored i records r (subst (λ (v : VectorsView). VectorsStandFor v records) (sym c.self.view_is) h) none

pub returns-in_ok-put-in-Some-clause-counts : goal.returns-in_ok-put-in-Some-clause-counts
returns-in_ok-put-in-Some-clause-counts c =
    let r = vector_record c.args.cycle c.args.channel c.args.bytes.now in
    let width : c.self.inside.width ≡ c.args.self.now.width = ap (λ (v : VectorsView). v.width) c.self.view_is in
    let some : vector_in c.args.self.now.width r ≡ Some c.in-Some.vector = ap (λ (w : ℕ). vector_in w r) (sym width) ∙ sym c.vector_of.ensures ∙ c.in-Some.is in
    counts-some c.args.self.now.width r c.in-Some.vector (All-from_get_or (λ b. b < 2 ^ 8) c.args.bytes.now 0 (λ i below. omega (arith, c.type_inv.bytes i))) some

pub returns-in_ok-put-in-Some-clause-stands : goal.returns-in_ok-put-in-Some-clause-stands
returns-in_ok-put-in-Some-clause-stands c = λ records h.
    let r = vector_record c.args.cycle c.args.channel c.args.bytes.now in
    let i : VectorsView = record { width = c.self.inside.width; rows = c.self.inside.rows.entries; frames = c.self.inside.frames; ignored = c.self.inside.ignored } in
    let some : vector_in c.self.inside.width r ≡ Some c.in-Some.vector = sym c.vector_of.ensures ∙ c.in-Some.is in
    stands-more i c.self.inside.rows c.put.new.rows records r c.in-Some.vector c.more-row.result (subst (λ (v : VectorsView). VectorsStandFor v records) (sym c.self.view_is) h) refl some c.in_ok-put-in-Some.ensures.put
    (c.more-row.ensures ∙ ap (λ (o : Option Folded). merged o (one_frame (Some c.in-Some.vector))) c.get.ensures.value)
