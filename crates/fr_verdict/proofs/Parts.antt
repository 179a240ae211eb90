-- Cycles one after another, and the history that they are.
use Rattle.std.proofs.Common.{◌≡◌, ℕ, zero, suc, ◌+◌, ◌<◌, ◌==◌, List, [], ◌∷◌, ◌++◌, length, take, get_or, add-one, All, Some, refl, ap, sym, ◌∙◌, subst, arith}
use Rattle.std.specs.Prelude.{fold}
use Rattle.std.proofs.lemmas.List.Elements.{All-contains}
use Rattle.std.proofs.Math.Seq.{take-suc}
use Rattle.std.proofs.lemmas.List.Sums.{fold-append}
use Rattle.fr_base.specs.declared.node_row.NodeRow.{NodeRow}
use Rattle.fr_cluster.specs.Values.{Values}
use Rattle.fr_cluster.proofs.Elements.{found}
use Rattle.fr_history.specs.History.{History, row_of}
use Rattle.fr_trace.specs.Cycles.{and_then, history_by, kept_of}
use Rattle.fr_trace.specs.declared.trace.TracedCycle.{TracedCycle}
use Rattle.fr_verdict.specs.Sound.{AreSound, IsSound}

-- one more cycle
pub history_more : (cycles : List TracedCycle) (cycle : TracedCycle) → history_by (cycles ++ cycle ∷ []) ≡ kept_of cycle ∷ history_by cycles
unfolding history_by
history_more cycles cycle = fold-append and_then [] cycles (cycle ∷ [])

pub history_last : (cycles earlier : List TracedCycle) (last : TracedCycle) → cycles ≡ earlier ++ last ∷ [] → history_by cycles ≡ kept_of last ∷ history_by earlier
history_last cycles earlier last parted = ap history_by parted ∙ history_more earlier last

pub history_none : (cycles : List TracedCycle) → length cycles ≡ 0 → history_by cycles ≡ []
unfolding history_by
history_none [] e = refl
history_none (cycle ∷ cycles) e = absurd (omega arith)

pub all_cons : {X : Type 0} (P : X → Type 0) (y : X) (xs : List X) → P y → All P xs → All P (y ∷ xs)
all_cons P y xs first rest zero d lt = first
all_cons P y xs first rest (suc k) d lt = rest k d (omega arith)

pub all_rest : {X : Type 0} (P : X → Type 0) (y : X) (xs : List X) → All P (y ∷ xs) → All P xs
all_rest P y xs all = λ k d lt. all (suc k) d (omega arith)

pub all_last : {X : Type 0} (P : X → Type 0) (xs : List X) (x : X) → All P (xs ++ x ∷ []) → All P xs × P x
all_last P [] x all = (λ k d lt. absurd (omega arith), all 0 x (omega arith))
all_last P (y ∷ xs) x all =
    let rest : All P xs × P x = all_last P xs x (all_rest P y (xs ++ x ∷ []) all) in
    (all_cons P y xs (all 0 y (omega arith)) rest.0, rest.1)

pub sound_parts : (p : Values) (cycles earlier : List TracedCycle) (last : TracedCycle) → cycles ≡ earlier ++ last ∷ [] → AreSound p cycles → AreSound p earlier × IsSound p (kept_of last)
sound_parts p cycles earlier last parted sound = all_last (λ cycle. IsSound p (kept_of cycle)) earlier last (subst (AreSound p) parted sound)

-- what holds of all rows holds of the one that is found
pub of_found : (P : NodeRow → Type 0) (rows : List NodeRow) (node : ℕ) (row : NodeRow) → row_of rows node ≡ Some row → All P rows → P row
of_found P rows node row is all = All-contains P rows row all (found (λ (r : NodeRow). r.node == node) rows row is).1

-- ---- the first elements of a list, and one more

pub take_one_more : {X : Type 0} (xs : List X) (i : ℕ) (x : X) → i < length xs → x ≡ get_or xs i x → take (i + 1) xs ≡ take i xs ++ x ∷ []
take_one_more xs i x lt is = ap (λ (n : ℕ). take n xs) (add-one i) ∙ take-suc xs i x lt ∙ ap (λ y. take i xs ++ y ∷ []) (sym is)

-- the same of a list that is another's
pub take_one_of : {X : Type 0} (xs ys : List X) (i : ℕ) (x : X) → ys ≡ xs → i < length ys → x ≡ get_or ys i x → take (i + 1) xs ≡ take i xs ++ x ∷ []
take_one_of xs ys i x same lt is = subst (λ zs. take (i + 1) zs ≡ take i zs ++ x ∷ []) same (take_one_more ys i x lt is)

-- ---- the number of cycles

pub history_length : (cycles : List TracedCycle) → length (history_by cycles) ≡ length cycles
unfolding history_by
history_length cycles = let e : length (fold and_then [] cycles) ≡ 0 + length cycles = along [] cycles in omega arith
  where
    along : (h : History) (cycles : List TracedCycle) → length (fold and_then h cycles) ≡ length h + length cycles
    along h [] = omega arith
    along h (cycle ∷ cycles) = let rest : length (fold and_then (kept_of cycle ∷ h) cycles) ≡ suc (length h) + length cycles = along (kept_of cycle ∷ h) cycles in omega arith
