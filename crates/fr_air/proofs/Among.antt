-- A row that is found among rows by its node.
use Rattle.std.proofs.Common.{◌≡◌, ◌∙◌, ℕ, ◌==◌, List, [], ◌∷◌, Some, ap, sym, subst}
use Rattle.std.specs.Prelude.{All}
use Rattle.std.proofs.lemmas.Bool.{cond_both, eqb-true}
use Rattle.std.proofs.lemmas.List.Elements.{All-head, All-tail}
use Rattle.fr_base.specs.declared.node_row.NodeRow.{NodeRow}
use Rattle.fr_history.specs.History.{row_of as row_in}

-- what holds of all rows holds of one that is found by its number
pub found-among : (P : NodeRow → Type 0) (rows : List NodeRow) (id : ℕ) (row : NodeRow) → All P rows → row_in rows id ≡ Some row → P row × (row.node ≡ id)
found-among P [] id row all is = absurd (cc)
found-among P (r ∷ rs) id row all is =
    cond_both (r.node == id) (Some r) (row_in rs id) (λ o. o ≡ Some row → P row × (row.node ≡ id))
    (λ here same. let e : r ≡ row = cc in (subst P e (All-head P r rs all), ap (λ (n : NodeRow). n.node) (sym e) ∙ eqb-true r.node id here))
    (λ there later. found-among P rs id row (All-tail P r rs all) later)
    is
