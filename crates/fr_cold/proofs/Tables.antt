-- Tables under construction, against the list of the records so far.
use Rattle.std.proofs.Common.{◌≡◌, ℕ, Bool, true, false, cond, List, [], ◌∷◌, ◌++◌, Option, Some, None, Result, Ok, Err, ap, sym, ◌∙◌, refl, arith}
use Rattle.std.specs.Prelude.{◌==◌, ◌&&◌, IfOk}
use Rattle.std.specs.Ordering.{nat_cmp, ordering_then, is_eq}
use Rattle.std.specs.declared.cmp.Ordering.{Ordering}
use Rattle.std.specs.declared.cmp.Ordering.TheVariants.{Less, Equal, Greater}
use Rattle.std.specs.BTreeMap.{BTreeMap, IsOrdered, get, is_at}
use Rattle.std.proofs.lemmas.Bool.Decides.{nat_tests}
use Rattle.fr_base.specs.declared.reason.Reason.{Reason}
use Rattle.fr_text.specs.Records.{FileRecord}
use Rattle.fr_text.specs.Fields.{or_else}
use Rattle.fr_text.proofs.Lookups.{looked_up-more, looked_up-nil, or_else-none}
use Rattle.fr_cold.specs.declared.state.Switch.{Switch}
use Rattle.fr_cold.specs.Keys.{power_cmp, power_key}
use Rattle.fr_cold.specs.Rows.{IsProperCycles, power_row_of}
use Rattle.fr_cold.specs.Reasons.{cycles_at, cycles_in, last_at, last_given, last_in, switch_at, switch_in}
use Rattle.fr_cold.specs.Draft.{IsEntryPut, IsPowerDraft}
use Rattle.fr_cold.specs.declared.draft.Draft.{Draft}
use Rattle.fr_cold.specs.declared.draft.Last.{Last}
use Rattle.fr_cold.specs.declared.keys.PowerKey.{PowerKey}
use Rattle.fr_cold.specs.declared.rows.SwitchRow.{SwitchRow}
use Rattle.fr_cold.specs.declared.rows.Row.{Row}
use Rattle.fr_cold.specs.declared.rows.Row.TheVariants as row

or_else-assoc : {A : Type 0} (a b c : Option A) → or_else (or_else a b) c ≡ or_else a (or_else b c)
or_else-assoc None b c = refl
or_else-assoc (Some x) b c = refl

pub given-nil : {A : Type 0} (what : FileRecord → Option A) → last_given what [] ≡ None
unfolding last_given
given-nil what = refl

-- one record more to look in, which goes first
pub given-more : {A : Type 0} (what : FileRecord → Option A) (done : List FileRecord) (r : FileRecord) → last_given what (done ++ r ∷ []) ≡ or_else (what r) (last_given what done)
unfolding last_given
given-more what [] r = sym (or_else-none (what r))
given-more {A} what (x ∷ xs) r = ap (λ (o : Option A). or_else o (what x)) (given-more what xs r) ∙ or_else-assoc (what r) (last_given what xs) (what x)

pub cycles_at-more : (done : List FileRecord) (r : FileRecord) (x : Result Row Reason) → power_row_of r ≡ x → cycles_at (done ++ r ∷ []) ≡ or_else (cycles_at done) (cycles_in x)
cycles_at-more done r x e = looked_up-more cycles_in power_row_of done r x e

pub switch_at-more : (at node : ℕ) (done : List FileRecord) (r : FileRecord) (x : Result Row Reason) → power_row_of r ≡ x
    → switch_at at node (done ++ r ∷ []) ≡ or_else (switch_in at node x) (switch_at at node done)
switch_at-more at node done r x e =
    given-more (λ q. switch_in at node (power_row_of q)) done r ∙ ap (λ (y : Result Row Reason). or_else (switch_in at node y) (switch_at at node done)) e

pub last_at-more : (node : ℕ) (done : List FileRecord) (r : FileRecord) (x : Result Row Reason) → power_row_of r ≡ x
    → last_at node (done ++ r ∷ []) ≡ or_else (last_in node x) (last_at node done)
last_at-more node done r x e = given-more (λ q. last_in node (power_row_of q)) done r ∙ ap (λ (y : Result Row Reason). or_else (last_in node y) (last_at node done)) e

-- what a record says stands in place of what was said before
put : {A : Type 0} (b : Bool) (x : A) (new old before after : Option A) → new ≡ cond b (Some x) old → after ≡ or_else (cond b (Some x) None) before → old ≡ before → new ≡ after
put true x new old before after e f same = e ∙ sym f
put false x new old before after e f same = e ∙ same ∙ sym f

-- keys that tie are equal
then-ties : (a b : Ordering) → is_eq (ordering_then a b) ≡ (is_eq a && is_eq b)
then-ties Less b = refl
then-ties Equal b = refl
then-ties Greater b = refl

pub node-ties : (a b : ℕ) → is_at (nat_cmp a) b ≡ (a == b)
node-ties a b = grind (arith, nat_tests)

pub key-ties : (a i b j : ℕ) → is_at (power_cmp (power_key a i)) (power_key b j) ≡ ((a == b) && (i == j))
key-ties a i b j = then-ties (nat_cmp a b) (nat_cmp i j) ∙ rw (node-ties a b, node-ties i j) refl

-- the number of cycles that was not there is taken
pub draft-cycles : (d : Draft) (done : List FileRecord) (r : FileRecord) (n : ℕ) → IsPowerDraft d done → power_row_of r ≡ Ok (row.Cycles n)
    → IsProperCycles n → d.cycles ≡ None → IsPowerDraft (record d { cycles = Some n }) (done ++ r ∷ [])
draft-cycles d done r n h e proper empty = record {
  cycles = sym (cycles_at-more done r _ e ∙ rw (sym h.cycles ∙ empty) refl);
  proper = proper;
  switches = λ at node. h.switches at node ∙ sym (switch_at-more at node done r _ e);
  lasts = λ node. h.lasts node ∙ sym (last_at-more node done r _ e);
  ordered = h.ordered;
  lasts_ordered = h.lasts_ordered;
}

-- a switch is taken
pub draft-switch : (d : Draft) (switches : BTreeMap PowerKey Switch) (lasts : BTreeMap ℕ Last) (done : List FileRecord) (r : FileRecord) (s : SwitchRow) → IsPowerDraft d done
    → power_row_of r ≡ Ok (row.Switched s) → IsEntryPut power_cmp d.switches switches (power_key s.at s.node) s.switch
    → IsEntryPut nat_cmp d.lasts lasts s.node (record { at = s.at; switch = s.switch })
    → IsPowerDraft (record d { switches = switches; lasts = lasts }) (done ++ r ∷ [])
draft-switch d switches lasts done r s h e one other = record {
  cycles = h.cycles ∙ sym (cycles_at-more done r _ e ∙ or_else-none (cycles_at done));
  proper = h.proper;
  switches = λ at node.
      put ((s.at == at) && (s.node == node)) s.switch (get power_cmp switches (power_key at node)) (get power_cmp d.switches (power_key at node)) (switch_at at node done) _
      (one.filled (power_key at node) ∙ ap (λ (b : Bool). cond b (Some s.switch) (get power_cmp d.switches (power_key at node))) (key-ties s.at s.node at node))
      (switch_at-more at node done r _ e) (h.switches at node);
  lasts = λ node.
      put (s.node == node) (record { at = s.at; switch = s.switch }) (get nat_cmp lasts node) (get nat_cmp d.lasts node) (last_at node done) _
      (other.filled node ∙ ap (λ (b : Bool). cond b (Some (record { at = s.at; switch = s.switch })) (get nat_cmp d.lasts node)) (node-ties s.node node))
      (last_at-more node done r _ e) (h.lasts node);
  ordered = one.ordered;
  lasts_ordered = other.ordered;
}

-- tables of nothing
pub draft-nil : (d : Draft) → d.cycles ≡ None → d.switches.entries ≡ [] → d.lasts.entries ≡ [] → IsOrdered power_cmp d.switches → IsOrdered nat_cmp d.lasts → IsPowerDraft d []
draft-nil d n s l so lo = record {
  cycles = n ∙ sym (looked_up-nil (λ q. cycles_in (power_row_of q)));
  proper = rw n tt;
  switches = λ at node. rw s (sym (given-nil (λ q. switch_in at node (power_row_of q))));
  lasts = λ node. rw l (sym (given-nil (λ q. last_in node (power_row_of q))));
  ordered = so;
  lasts_ordered = lo;
}

-- what holds of a value that is there, by what holds of it
pub if_ok-map : {A E : Type 0} (r : Result A E) (P Q : A → Type 0) → ((x : A) → P x → Q x) → IfOk r P → IfOk r Q
if_ok-map (Ok x) P Q f h = f x h
if_ok-map (Err e) P Q f h = h
