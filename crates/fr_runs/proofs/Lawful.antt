-- The clocks of lawful cycles run by their laws: no follower has a row.
use Rattle.std.proofs.Common.{◌≡◌, ◌==◌, true, false, Option, None, Some, List, [], ◌∷◌, All, refl, sym, ◌∙◌}
use Rattle.std.specs.Prelude.{Contains, find, is_some}
use Rattle.std.proofs.lemmas.List.Elements.{All-contains_itself}
use Rattle.fr_base.specs.declared.node_row.NodeRow.{NodeRow}
use Rattle.fr_precision.proofs.Senders.{All-along}
use Rattle.fr_history.specs.History.{row_of}
use Rattle.fr_cluster.specs.Setting.{Setting}
use Rattle.fr_history.specs.Cycles.{Cycle, Cycles}
use Rattle.fr_history.specs.Lawful.{IsLawful}
use Rattle.fr_history.proofs.Standing.{did_follow, equal, followers_have_no_row, had_row}
use Rattle.fr_cluster.proofs.Elements.{not_found}
use Rattle.fr_runs.specs.Rounds.{LawfulCyclesRun}
use Rattle.fr_runs.proofs.Standing.{is_none, not_so}

-- a row that is there is found by its number
row_found : (rows : List NodeRow) (row : NodeRow) → Contains rows row → is_some (row_of rows row.node) ≡ true
row_found rows row among = by_found (row_of rows row.node) refl
  where
    by_found : (o : Option NodeRow) → find (λ (r : NodeRow). r.node == row.node) rows ≡ o → is_some o ≡ true
    by_found (Some r) is = refl
    by_found None is =
        let fails : (row.node == row.node) ≡ false = not_found (λ (r : NodeRow). r.node == row.node) rows row is among in
        let e : true ≡ false = sym (equal row.node row.node refl) ∙ fails in
        absurd (cc)

apart_in : (x : Setting) (h : Cycles) (c : Cycle) → IsLawful x (c ∷ h) → All (λ row. row_of c.told.rows row.node ≡ None) c.followers
apart_in x h c lawful =
    let each = λ (row : NodeRow) (among : Contains c.followers row).
    (
    let does = did_follow x h c row.node lawful.0 (row_found c.followers row among) in
    is_none (row_of c.told.rows row.node) (not_so (is_some (row_of c.told.rows row.node)) (λ is. followers_have_no_row x h row.node lawful.1 (had_row x h c row.node lawful.0 is) does))
    ) in
    All-along (Contains c.followers) (λ row. row_of c.told.rows row.node ≡ None) c.followers each (All-contains_itself c.followers)

pub lawful_cycles_run : LawfulCyclesRun
lawful_cycles_run x [] lawful = tt
lawful_cycles_run x (c ∷ h) lawful = (
  record { rows = lawful.0.told.clocks; followers = lawful.0.followers.clocks; apart = apart_in x h c lawful },
  lawful_cycles_run x h lawful.1,
)
