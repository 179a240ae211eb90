use Rattle.std.proofs.Common.{◌≡◌, ◌∙◌, refl, inl, sym, ap, List, ◌∷◌, [], false, ℕ}
use Rattle.std.specs.Prelude.{is_some}
use Rattle.fr_text.specs.Plain.{IsCut}
use Rattle.fr_text.specs.Records.{FileRecord}
use Rattle.fr_text.proofs.LineCuts.{cut-read, left-plain, over-read, over-text}
use Rattle.fr_text.proofs.stream.Stream.next.Goals as goal

-- nothing is left
over : (c : goal.Then-is_empty) → c.args.self.now ≡ []
over c =
    let none : is_some c.self.inside.other ≡ false = sym c.is_some.ensures ∙ c.if-is_some.false in
    let empty : c.behind_feed-text.result.now ≡ [] = over-text c.behind_feed-text.result.now (sym c.is_empty.ensures ∙ c.if-is_empty.true) in
    sym c.self.view_is ∙ left-plain c.self.inside.other c.self.inside.rest.now none ∙ over-read c.self.inside.rest.now c.behind_feed-text.result.now c.behind_feed-text.ensures empty

pub returns-then-is_empty-clause-reads : goal.returns-then-is_empty-clause-reads
returns-then-is_empty-clause-reads c = over c

pub returns-then-is_empty-clause-ends : goal.returns-then-is_empty-clause-ends
returns-then-is_empty-clause-ends c = λ _. over c

pub returns-in-Ok-Some-clause-reads : goal.returns-in-Ok-Some-clause-reads
returns-in-Ok-Some-clause-reads c =
    let none : is_some c.self.inside.other ≡ false = sym c.is_some.ensures ∙ c.if-is_some.false in
    let rest : List ℕ = c.in-Ok-Some.rest.now in
    let cut : IsCut c.behind_feed-text.result.now c.cut.new.self rest = rw c.in-Ok-Some.field-0-is at c.in-Ok-Some.ensures in
    let may = c.may_be_cut.ensures c.if-not-may_be_cut.false in
    sym c.self.view_is
    ∙ left-plain c.self.inside.other c.self.inside.rest.now none
    ∙ cut-read c.self.inside.rest.now c.behind_feed-text.result.now rest c.cut.new.self c.behind_feed-text.ensures cut may.0 may.1
    ∙ ap (λ (rs : List FileRecord). c.cut.new.self ∷ rs) (sym (left-plain c.self.inside.other rest none))

-- nothing of the file is left
pub returns-in-Err-clause-stops : goal.returns-in-Err-clause-stops
returns-in-Err-clause-stops c =
    let none : is_some c.self.inside.other ≡ false = sym c.is_some.ensures ∙ c.if-is_some.false in
    left-plain c.self.inside.other [] none ∙ over-read [] [] (inl refl) refl
