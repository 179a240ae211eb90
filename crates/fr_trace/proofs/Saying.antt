-- What the records say of each cycle, with one record more.
use Rattle.std.proofs.Common.{inl, inr, ◌⊎◌, ◌≡◌, ◌≢◌, ℕ, zero, suc, ◌<◌, Bool, true, false, List, [], ◌∷◌, ◌++◌, length, Option, Some, None, Result, Ok, refl, ap, sym, ◌∙◌, subst, arith}
use Rattle.std.specs.Prelude.{◌==◌, if◌then◌else◌}
use Rattle.std.specs.List.{flat_map}
use Rattle.std.proofs.lemmas.Bool.Decides.{nat_tests}
use Rattle.std.proofs.lemmas.List.{append-nil}
use Rattle.std.proofs.lemmas.List.Concat.{flat_map-append}
use Rattle.fr_base.specs.Counts.{no_counts}
use Rattle.fr_base.specs.declared.reason.Reason.{Reason}
use Rattle.fr_history.specs.History.{History, Record}
use Rattle.fr_text.specs.Fields.{or_else}
use Rattle.fr_text.specs.Records.{FileRecord}
use Rattle.fr_text.proofs.Lookups.{looked_up-more}
use Rattle.fr_base.specs.declared.node_row.NodeRow.{NodeRow}
use Rattle.fr_trace.specs.Draft.{AreSaid, over_with, part_with}
use Rattle.fr_trace.specs.Said.{clocks_in, dev_on, devs_in, history_said, joins_at, last_row_at, named_at, named_in, no_record, record_said, said_trace_row, traced_doubles_at, traced_doubles_in, traced_joins_in}
use Rattle.fr_trace.specs.Rows.{trace_row_of}
use Rattle.fr_trace.specs.declared.rows.HeardRow.{HeardRow}
use Rattle.fr_trace.specs.declared.rows.Row.{Row}
use Rattle.fr_trace.specs.declared.rows.Row.TheVariants as row

-- what is gathered along the records
flat-last : {A B : Type 0} (f : A → List B) (xs : List A) (x : A) → flat_map f (xs ++ x ∷ []) ≡ flat_map f xs ++ f x
flat-last f xs x = flat_map-append f xs (x ∷ []) ∙ ap (λ (l : List _). flat_map f xs ++ l) (append-nil (f x))

-- ---- the head

pub doubles-more : (done : List FileRecord) (r : FileRecord) (x : Result Row Reason) → trace_row_of r ≡ x → traced_doubles_at (done ++ r ∷ []) ≡ or_else (traced_doubles_at done) (traced_doubles_in x)
doubles-more done r x e = looked_up-more traced_doubles_in trace_row_of done r x e

pub named-more : (done : List FileRecord) (r : FileRecord) (x : Result Row Reason) → trace_row_of r ≡ x → named_at (done ++ r ∷ []) ≡ named_at done ++ named_in x
unfolding named_at
named-more done r x e = flat-last (λ q. named_in (trace_row_of q)) done r ∙ ap (λ (y : Result Row Reason). flat_map (λ q. named_in (trace_row_of q)) done ++ named_in y) e

pub joins-more : (done : List FileRecord) (r : FileRecord) (x : Result Row Reason) → trace_row_of r ≡ x → joins_at (done ++ r ∷ []) ≡ joins_at done ++ traced_joins_in x
unfolding joins_at
joins-more done r x e = flat-last (λ q. traced_joins_in (trace_row_of q)) done r ∙ ap (λ (y : Result Row Reason). flat_map (λ q. traced_joins_in (trace_row_of q)) done ++ traced_joins_in y) e

or_else-some : {A : Type 0} (a : A) (o : Option A) → or_else (or_else (Some a) None) o ≡ Some a
or_else-some a o = refl

pub last-more : (done : List FileRecord) (r : FileRecord) (said : Row) → trace_row_of r ≡ Ok said → last_row_at (done ++ r ∷ []) ≡ Some said
unfolding last_row_at
last-more [] r said e = ap (λ (y : Result Row Reason). or_else None (said_trace_row y)) e
last-more (q ∷ qs) r said e = ap (λ (o : Option Row). or_else o (said_trace_row (trace_row_of q))) (last-more qs r said e)

-- ---- the cycles

-- what is said of a cycle, and what one record more says of it
and_said : Record → ℕ → Result Row Reason → Record
and_said r cycle x = record { rows = r.rows ++ clocks_in cycle x; devs = r.devs ++ devs_in cycle x; counts = no_counts }

said-more : (done : List FileRecord) (r : FileRecord) (x : Result Row Reason) (cycle : ℕ) → trace_row_of r ≡ x → record_said (done ++ r ∷ []) cycle ≡ and_said (record_said done cycle) cycle x
unfolding record_said and_said
said-more done r x cycle e =
    let rows = flat-last (λ q. clocks_in cycle (trace_row_of q)) done r ∙ ap (λ (y : Result Row Reason). flat_map (λ q. clocks_in cycle (trace_row_of q)) done ++ clocks_in cycle y) e in
    let devs = flat-last (λ q. devs_in cycle (trace_row_of q)) done r ∙ ap (λ (y : Result Row Reason). flat_map (λ q. devs_in cycle (trace_row_of q)) done ++ devs_in cycle y) e in
    λ i. record { rows = rows i; devs = devs i; counts = no_counts }

-- of a cycle that it does not speak of nothing changes
said-same : (done : List FileRecord) (r : FileRecord) (x : Result Row Reason) (cycle : ℕ) → trace_row_of r ≡ x → clocks_in cycle x ≡ [] → devs_in cycle x ≡ []
    → record_said (done ++ r ∷ []) cycle ≡ record_said done cycle
unfolding record_said and_said
said-same done r x cycle e no_clocks no_devs =
    said-more done r x cycle e
    ∙ (λ i. record {
      rows = (ap (λ (l : List _). (record_said done cycle).rows ++ l) no_clocks ∙ append-nil (record_said done cycle).rows) i;
      devs = (ap (λ (l : List _). (record_said done cycle).devs ++ l) no_devs ∙ append-nil (record_said done cycle).devs) i;
      counts = no_counts;
    })

history-same : (done : List FileRecord) (r : FileRecord) (x : Result Row Reason) (n : ℕ) → trace_row_of r ≡ x
    → ((cycle : ℕ) → cycle < n → (clocks_in cycle x ≡ []) × (devs_in cycle x ≡ [])) → history_said (done ++ r ∷ []) n ≡ history_said done n
unfolding history_said
history-same done r x zero e quiet = refl
history-same done r x (suc n) e quiet =
    let here = quiet n (omega arith) in
    let first = said-same done r x n e here.0 here.1 in
    let rest = history-same done r x n e (λ cycle lt. quiet cycle (omega arith)) in
    λ i. first i ∷ rest i

eq-no : (a b : ℕ) → a ≢ b → (a == b) ≡ false
eq-no a b ne = grind (arith, nat_tests, ne)

eq-yes : (a b : ℕ) → a ≡ b → (a == b) ≡ true
eq-yes a b e = grind (arith, nat_tests, e)

-- a row that speaks of no cycle
silent-put : (h : History) (part : Record) (done : List FileRecord) (r : FileRecord) (x : Result Row Reason) → trace_row_of r ≡ x
    → ((cycle : ℕ) → (clocks_in cycle x ≡ []) × (devs_in cycle x ≡ [])) → AreSaid h part done → AreSaid h part (done ++ r ∷ [])
silent-put h part done r x e quiet said = record {
  over = said.over ∙ sym (history-same done r x (length h) e (λ cycle lt. quiet cycle));
  part = said.part ∙ sym (said-same done r x (length h) e (quiet (length h)).0 (quiet (length h)).1);
  none_later = λ cycle lt. said-same done r x cycle e (quiet cycle).0 (quiet cycle).1 ∙ said.none_later cycle lt;
}

-- a row of another cycle says nothing
clock-elsewhere : (other cycle : ℕ) (clock : NodeRow) → other ≢ cycle → clocks_in cycle (Ok (row.Clock other clock)) ≡ []
clock-elsewhere other cycle clock ne = rw (eq-no other cycle ne) refl

heard-elsewhere : (heard : HeardRow) (cycle : ℕ) → heard.cycle ≢ cycle → devs_in cycle (Ok (row.Heard heard)) ≡ []
heard-elsewhere heard cycle ne = rw (eq-no heard.cycle cycle ne) refl

clock-here : (other cycle : ℕ) (clock : NodeRow) → other ≡ cycle → clocks_in cycle (Ok (row.Clock other clock)) ≡ clock ∷ []
clock-here other cycle clock e = rw (eq-yes other cycle e) refl

heard-here : (heard : HeardRow) (cycle : ℕ) → heard.cycle ≡ cycle → devs_in cycle (Ok (row.Heard heard)) ≡ dev_on heard heard.channel
heard-here heard cycle e = rw (eq-yes heard.cycle cycle e) refl

-- where a row stands: in the cycle under way, or in the next one
abbrev pub IsPlaced : History → Row → Type 0
IsPlaced h (row.Run n) = Unit {0}
IsPlaced h (row.Arbitrary node) = Unit {0}
IsPlaced h (row.Join j) = Unit {0}
IsPlaced h (row.Clock cycle clock) = (cycle ≡ length h) ⊎ (cycle ≡ suc (length h))
IsPlaced h (row.Heard heard) = heard.cycle ≡ length h

blank : (records : List FileRecord) (n : ℕ) → (record_said records n).counts ≡ no_counts
unfolding record_said
blank records n = refl

heard-put : (h : History) (part : Record) (done : List FileRecord) (r : FileRecord) (heard : HeardRow) → trace_row_of r ≡ Ok (row.Heard heard) → heard.cycle ≡ length h
    → AreSaid h part done → AreSaid h (record part { devs = part.devs ++ dev_on heard heard.channel }) (done ++ r ∷ [])
unfolding and_said
heard-put h part done r heard e at said =
    let here = heard-here heard (length h) at in
    let more = said-more done r (Ok (row.Heard heard)) (length h) e in
    let there : record part { devs = part.devs ++ dev_on heard heard.channel } ≡ and_said (record_said done (length h)) (length h) (Ok (row.Heard heard)) =
    λ i. record {
      rows = (ap (λ (q : Record). q.rows) said.part ∙ sym (append-nil (record_said done (length h)).rows)) i;
      devs = (said.part i).devs ++ (sym here) i;
      counts = (kept i);
    }
    in
    record {
      over = said.over ∙ sym (history-same done r _ (length h) e (λ cycle lt. (refl, heard-elsewhere heard cycle (λ same. absurd (omega (arith, at, same))))));
      part = there ∙ sym more;
      none_later = λ cycle lt. said-same done r _ cycle e refl (heard-elsewhere heard cycle (λ same. absurd (omega (arith, at, same)))) ∙ said.none_later cycle lt;
    }
  where
    kept : part.counts ≡ no_counts
    kept = ap (λ (q : Record). q.counts) said.part ∙ blank done (length h)

clock-put : (h : History) (part : Record) (done : List FileRecord) (r : FileRecord) (cycle : ℕ) (clock : NodeRow) → trace_row_of r ≡ Ok (row.Clock cycle clock) → cycle ≡ length h
    → AreSaid h part done → AreSaid h (record part { rows = part.rows ++ clock ∷ [] }) (done ++ r ∷ [])
unfolding and_said
clock-put h part done r cycle clock e at said =
    let here = clock-here cycle (length h) clock at in
    let more = said-more done r (Ok (row.Clock cycle clock)) (length h) e in
    let there : record part { rows = part.rows ++ clock ∷ [] } ≡ and_said (record_said done (length h)) (length h) (Ok (row.Clock cycle clock)) =
    λ i. record {
      rows = (said.part i).rows ++ (sym here) i;
      devs = (ap (λ (q : Record). q.devs) said.part ∙ sym (append-nil (record_said done (length h)).devs)) i;
      counts = (kept i);
    }
    in
    record {
      over = said.over ∙ sym (history-same done r _ (length h) e (λ c lt. (clock-elsewhere cycle c clock (λ same. absurd (omega (arith, at, same))), refl)));
      part = there ∙ sym more;
      none_later = λ c lt. said-same done r _ c e (clock-elsewhere cycle c clock (λ same. absurd (omega (arith, at, same)))) refl ∙ said.none_later c lt;
    }
  where
    kept : part.counts ≡ no_counts
    kept = ap (λ (q : Record). q.counts) said.part ∙ blank done (length h)

next-put : (h : History) (part : Record) (done : List FileRecord) (r : FileRecord) (cycle : ℕ) (clock : NodeRow) → trace_row_of r ≡ Ok (row.Clock cycle clock) → cycle ≡ suc (length h)
    → AreSaid h part done → AreSaid (part ∷ h) (record no_record { rows = clock ∷ [] }) (done ++ r ∷ [])
unfolding and_said history_said
next-put h part done r cycle clock e at said =
    let x : Result Row Reason = Ok (row.Clock cycle clock) in
    let here = clock-here cycle (suc (length h)) clock at in
    let none = said.none_later (suc (length h)) (omega arith) in
    let more = said-more done r x (suc (length h)) e in
    let old = said-same done r x (length h) e (clock-elsewhere cycle (length h) clock (λ same. absurd (omega (arith, at, same)))) refl in
    let before = history-same done r x (length h) e (λ c lt. (clock-elsewhere cycle c clock (λ same. absurd (omega (arith, at, same))), refl)) in
    let there : record no_record { rows = clock ∷ [] } ≡ and_said (record_said done (suc (length h))) (suc (length h)) x =
    λ i. record {
      rows = (sym none i).rows ++ (sym here) i;
      devs = (sym none i).devs ++ [];
      counts = no_counts;
    }
    in
    record {
      over = λ i. (said.part ∙ sym old) i ∷ (said.over ∙ sym before) i;
      part = there ∙ sym more;
      none_later = λ c lt. said-same done r x c e (clock-elsewhere cycle c clock (λ same. absurd (omega (arith, at, same, lt)))) refl ∙ said.none_later c (omega (arith, lt));
    }

-- a row in its place
pub put-said : (h : History) (part : Record) (done : List FileRecord) (r : FileRecord) (said : Row) → trace_row_of r ≡ Ok said → IsPlaced h said
    → AreSaid h part done → AreSaid (over_with h part said) (part_with h part said) (done ++ r ∷ [])
put-said h part done r (row.Run n) e at are = silent-put h part done r _ e (λ cycle. (refl, refl)) are
put-said h part done r (row.Arbitrary node) e at are = silent-put h part done r _ e (λ cycle. (refl, refl)) are
put-said h part done r (row.Join j) e at are = silent-put h part done r _ e (λ cycle. (refl, refl)) are
put-said h part done r (row.Heard heard) e at are = heard-put h part done r heard e at are
put-said h part done r (row.Clock cycle clock) e at are =
    by at
  where
    by : (cycle ≡ length h) ⊎ (cycle ≡ suc (length h))
        → AreSaid (if cycle == length h then h else part ∷ h) (if cycle == length h then record part { rows = part.rows ++ clock ∷ [] } else record no_record { rows = clock ∷ [] }) (done ++ r ∷ [])
    by (inl same) =
        let Put : Bool → Type 0 = λ b. AreSaid (if b then h else part ∷ h) (if b then record part { rows = part.rows ++ clock ∷ [] } else record no_record { rows = clock ∷ [] }) (done ++ r ∷ []) in
        subst Put (sym (eq-yes cycle (length h) same)) (clock-put h part done r cycle clock e same are)
    by (inr next) =
        let Put : Bool → Type 0 = λ b. AreSaid (if b then h else part ∷ h) (if b then record part { rows = part.rows ++ clock ∷ [] } else record no_record { rows = clock ∷ [] }) (done ++ r ∷ []) in
        subst Put (sym (eq-no cycle (length h) (λ same. absurd (omega (arith, next, same))))) (next-put h part done r cycle clock e next are)
