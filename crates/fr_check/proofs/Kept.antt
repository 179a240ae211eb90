-- The terms of one more row, and of the next cycle.
use Rattle.std.proofs.Common.{◌≡◌, ◌≢◌, ℕ, ◌<◌, true, false, List, [], ◌∷◌, ◌++◌, length, sym, ◌∙◌, subst, arith}
use Rattle.std.specs.Prelude.{All, slice_index_or}
use Rattle.std.proofs.lemmas.List.Elements.{All-push}
use Rattle.fr_base.specs.declared.dev.Dev.{Dev}
use Rattle.fr_base.specs.declared.node_row.NodeRow.{NodeRow}
use Rattle.fr_cluster.specs.Values.{Values}
use Rattle.fr_history.specs.History.{History}
use Rattle.fr_history.proofs.Gauged.{is_odd-suc}
use Rattle.fr_time.specs.Cycles.{is_odd}
use Rattle.fr_check.specs.Corrections.{AreLatest, IsCorrection, correction_at, correction_of}
use Rattle.fr_check.specs.declared.corrections.Correction.{Correction}

-- one more row, of a node with a greater number
pub one_kept : (p : Values) (h : History) (odds : List Dev) (rows more : List NodeRow) (row : NodeRow) (old new : List Correction)
    → more ≡ rows ++ row ∷ [] → All (λ earlier. earlier.node < row.node) rows → correction_at new row.node ≡ correction_of p h odds row
    → ((other : ℕ) → other ≢ row.node → correction_at new other ≡ correction_at old other)
    → All (IsCorrection p h odds old) rows → All (IsCorrection p h odds new) more
one_kept p h odds rows more row old new parted below here others kept =
    subst (All (IsCorrection p h odds new)) (sym parted)
    (All-push (IsCorrection p h odds new) rows row (λ k d lt. others (slice_index_or rows k d).node (differs (below k d lt)) ∙ kept k d lt) here)
  where
    differs : {a b : ℕ} → a < b → a ≢ b
    differs less same = absurd (omega arith)

-- the latest record is that of an even cycle where the next one is odd
pub none_latest : (p : Values) (h : History) (corrections : List Correction) → is_odd (length h) ≡ true → AreLatest p h corrections
none_latest p [] corrections odd = tt
none_latest p (r ∷ h) corrections odd = λ before. let e : true ≡ false = sym before ∙ is_odd-suc (length h) odd in absurd (cc e)
