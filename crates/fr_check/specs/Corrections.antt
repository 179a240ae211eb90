-- The correction terms of each node, kept from the end of the last odd cycle.
use Rattle.std.specs.Prelude.{◌≡◌, ℕ, pos, true, ⊤, List, [], ◌∷◌, length, All, slice_index_or}
use Rattle.fr_base.specs.declared.dev.Dev.{Dev}
use Rattle.fr_base.specs.declared.node_row.NodeRow.{NodeRow}
use Rattle.fr_cluster.specs.Values.{Values}
use Rattle.fr_correct.specs.Terms.{missing_term}
use Rattle.fr_history.specs.History.{History, Record}
use Rattle.fr_history.specs.Terms.{offset_term_in, rate_term_in}
use Rattle.fr_time.specs.Cycles.{is_odd}
use Rattle.fr_check.specs.declared.corrections.Correction.{Correction}

-- the terms of a node's number
abbrev pub correction_at : List Correction → ℕ → Correction
correction_at corrections node = slice_index_or corrections node (record { offset = missing_term (pos 0); rate = missing_term (pos 0) })

-- both terms of a row's node at the end of an odd cycle with these deviations, after a history
abbrev pub correction_of : Values → History → List Dev → NodeRow → Correction
correction_of p h odds row = record { offset = offset_term_in p h odds row.node; rate = rate_term_in p h odds row }

-- they are kept
abbrev pub IsCorrection : Values → History → List Dev → List Correction → NodeRow → Type 0
IsCorrection p h odds corrections row = correction_at corrections row.node ≡ correction_of p h odds row

-- they are, where a record is that of an odd cycle
abbrev pub IsNoted : Values → History → Record → List Correction → NodeRow → Type 0
IsNoted p h r corrections row = is_odd (length h) ≡ true → IsCorrection p h r.devs corrections row

-- where a record is that of an odd cycle, those of all its rows are kept
abbrev pub AreCorrections : Values → History → Record → List Correction → Type 0
AreCorrections p h r corrections = is_odd (length h) ≡ true → All (IsCorrection p h r.devs corrections) r.rows

-- so are those of the latest record
abbrev pub AreLatest : Values → History → List Correction → Type 0
AreLatest p [] corrections = ⊤
AreLatest p (r ∷ h) corrections = AreCorrections p h r corrections
