-- The records of a node in an accepted file: they ascend in time, and between two that switch it on one switches it off.
use Rattle.std.proofs.Common.{◌≡◌, ◌≢◌, ℕ, ◌<◌, ◌≤◌, ◌⊎◌, Bool, true, false, List, [], ◌∷◌, ◌++◌, Option, Some, None, Result, Ok, Err, inl, inr, refl, ap, sym, subst, ◌∙◌, append_assoc, arith}
use Rattle.std.specs.Prelude.{not, nat_lt, ◌==◌, ◌&&◌, ◌||◌, is_some, if◌then◌else◌}
use Rattle.std.proofs.lemmas.Bool.{cases_eq}
use Rattle.std.proofs.lemmas.Bool.Decides.{nat_tests}
use Rattle.std.proofs.lemmas.List.{append-nil}
use Rattle.fr_base.specs.declared.reason.Reason.{Reason}
use Rattle.fr_base.specs.declared.reason.Reason.TheVariants as reason
use Rattle.fr_text.specs.Records.{FileRecord}
use Rattle.fr_text.specs.Fields.{or_else}
use Rattle.fr_text.specs.Refusal.{NoneRefused}
use Rattle.fr_cluster.specs.Values.{Values}
use Rattle.fr_cold.specs.StartupLaws.{StaysOn, SwitchesStarters}
use Rattle.fr_cold.specs.declared.state.Switch.{Switch}
use Rattle.fr_cold.specs.declared.state.Switch.TheVariants as switch
use Rattle.fr_cold.specs.Rows.{power_row_of}
use Rattle.fr_cold.specs.Reasons.{is_out_of_turn, last_at, last_in, power_reason_after, power_row_reason, switch_alike, switch_at, switch_in, switch_reason}
use Rattle.fr_cluster.specs.Questions.{is_known, is_coldstart}
use Rattle.fr_cold.specs.View.{PowerView, switch_rows}
use Rattle.fr_cold.specs.Files.{PowerFits}
use Rattle.fr_cold.specs.Questions.{IsNeverOff, switches_of}
use Rattle.fr_cold.specs.declared.draft.Last.{Last}
use Rattle.fr_cold.specs.declared.rows.SwitchRow.{SwitchRow}
use Rattle.fr_cold.specs.declared.rows.Row.{Row}
use Rattle.fr_cold.specs.declared.rows.Row.TheVariants as row
use Rattle.fr_cold.proofs.Tables.{given-nil, last_at-more, switch_at-more}

-- some record switches the node off
IsOff : List FileRecord → ℕ → Type 0
IsOff done node = (at : ℕ) × (switch_at at node done ≡ Some switch.Off)

-- a record of the node: none of its records comes later than its last one; and it is that one, or some record switches the
-- node off
record IsSaid (done : List FileRecord) (node at : ℕ) (how : Switch) : Type 0 where
  last : Last
  is : last_at node done ≡ Some last
  before : at ≤ last.at
  or_off : (last ≡ record { at = at; switch = how }) ⊎ IsOff done node

record InTurn (done : List FileRecord) : Type 0 where
  said : (node at : ℕ) (how : Switch) → switch_at at node done ≡ Some how → IsSaid done node at how
  last : (node : ℕ) (last : Last) → last_at node done ≡ Some last → switch_at last.at node done ≡ Some last.switch

turn-nil : InTurn []
turn-nil = record {
  said = λ node at how e. let none = given-nil (λ r. switch_in at node (power_row_of r)) in absurd (cc (none, e));
  last = λ node last e. let none = given-nil (λ r. last_in node (power_row_of r)) in absurd (cc (none, e));
}

-- a record that switches no node changes nothing
same-turn : (done more : List FileRecord) → ((at node : ℕ) → switch_at at node more ≡ switch_at at node done) → ((node : ℕ) → last_at node more ≡ last_at node done) → InTurn done → InTurn more
unfolding IsOff
same-turn done more switches lasts h = record {
  said = λ node at how e.
      let old = h.said node at how (sym (switches at node) ∙ e) in record {
        last = old.last;
        is = lasts node ∙ old.is;
        before = old.before;
        or_off = elim old.or_off [ inl one ↦ inl one | inr off ↦ inr (off.0, switches off.0 node ∙ off.1) ];
      };
  last = λ node last e. switches last.at node ∙ h.last node last (sym (lasts node) ∙ e);
}

test-same : (a b : ℕ) → a ≡ b → (a == b) ≡ true
test-same a b e = grind arith

test-other : (a b : ℕ) → (a ≡ b → ⊥) → (a == b) ≡ false
test-other a b e = grind arith

and-no : (b : Bool) → (b && false) ≡ false
and-no true = refl
and-no false = refl

some-one : {A : Type 0} (x y : A) → Some x ≡ Some y → x ≡ y
some-one x y e = cc e

module _ (done : List FileRecord) (r : FileRecord) (s : SwitchRow) (says : power_row_of r ≡ Ok (row.Switched s)) (turn : is_out_of_turn (last_at s.node done) s ≡ false) (h : InTurn done) where
  other-switch : (at node : ℕ) → (s.node ≡ node → ⊥) → switch_at at node (done ++ r ∷ []) ≡ switch_at at node done
  other-switch at node apart = switch_at-more at node done r _ says ∙ rw (test-other s.node node apart, and-no (s.at == at)) refl

  other-time : (at : ℕ) → (s.at ≡ at → ⊥) → switch_at at s.node (done ++ r ∷ []) ≡ switch_at at s.node done
  other-time at apart = switch_at-more at s.node done r _ says ∙ rw (test-other s.at at apart) refl

  other-last : (node : ℕ) → (s.node ≡ node → ⊥) → last_at node (done ++ r ∷ []) ≡ last_at node done
  other-last node apart = last_at-more node done r _ says ∙ rw (test-other s.node node apart) refl

  own-switch : switch_at s.at s.node (done ++ r ∷ []) ≡ Some s.switch
  own-switch = switch_at-more s.at s.node done r _ says ∙ rw (test-same s.at s.at refl, test-same s.node s.node refl) refl

  own-last : last_at s.node (done ++ r ∷ []) ≡ Some (record { at = s.at; switch = s.switch })
  own-last = last_at-more s.node done r _ says ∙ rw (test-same s.node s.node refl) refl

  in-turn : (last : Last) → last_at s.node done ≡ Some last → (switch_alike last.switch s.switch ≡ false) × (last.at < s.at)
  in-turn last e = parts (switch_alike last.switch s.switch) (nat_lt last.at s.at) refl refl (rw e at turn)
    where
      parts : (a b : Bool) → switch_alike last.switch s.switch ≡ a → nat_lt last.at s.at ≡ b → (switch_alike last.switch s.switch || not (nat_lt last.at s.at)) ≡ false
          → (switch_alike last.switch s.switch ≡ false) × (last.at < s.at)
      parts true b ea eb all = let never : true ≡ false = rw ea at all in absurd (cc never)
      parts false true ea eb all = (ea, grind (arith, nat_tests))
      parts false false ea eb all = let never : true ≡ false = rw (ea, eb) at all in absurd (cc never)

  -- what was said of the node before still is, since the record comes later
  still : (at : ℕ) (how : Switch) → switch_at at s.node done ≡ Some how → switch_at at s.node (done ++ r ∷ []) ≡ Some how
  still at how e =
      let old = h.said s.node at how e in
      let later = (in-turn old.last old.is).1 in
      let before = old.before in
      other-time at (λ same. absurd (omega arith)) ∙ e

  not-same : (how : Switch) → switch_alike switch.On how ≡ false → how ≡ switch.Off
  not-same switch.On e = cc e
  not-same switch.Off e = refl

  turn-more : InTurn (done ++ r ∷ [])
  unfolding IsOff
  turn-more = record {
    said = λ node at how e. said node at how e (cases_eq s.node node);
    last = λ node last e. lasts node last e (cases_eq s.node node);
  }
    where
      offs : (at : ℕ) (how : Switch) (last : Last) → last_at s.node done ≡ Some last → (last ≡ record { at = at; switch = how }) ⊎ IsOff done s.node → switch_at at s.node done ≡ Some how
          → IsOff (done ++ r ∷ []) s.node
      offs at switch.Off last is or e = (at, still at switch.Off e)
      offs at switch.On last is (inr off) e = (off.0, still off.0 switch.Off off.1)
      offs at switch.On last is (inl one) e =
          let differ : switch_alike switch.On s.switch ≡ false = (λ i. switch_alike (sym (ap (λ (l : Last). l.switch) one) i) s.switch) ∙ (in-turn last is).0 in
          (s.at, own-switch ∙ ap (λ (x : Switch). Some x) (not-same s.switch differ))

      own-said : (at : ℕ) (how : Switch) → switch_at at s.node (done ++ r ∷ []) ≡ Some how → (s.at ≡ at) ⊎ (s.at ≡ at → ⊥) → IsSaid (done ++ r ∷ []) s.node at how
      own-said at how e (inl same) =
          let now : s.switch ≡ how = some-one s.switch how (sym own-switch ∙ ap (λ (t : ℕ). switch_at t s.node (done ++ r ∷ [])) same ∙ e) in record {
            last = record { at = s.at; switch = s.switch };
            is = own-last;
            before = omega arith;
            or_off = inl (λ i. record { at = same i; switch = now i });
          }
      own-said at how e (inr apart) =
          let old = h.said s.node at how (sym (other-time at apart) ∙ e) in
          let later = (in-turn old.last old.is).1 in
          let before = old.before in record {
            last = record { at = s.at; switch = s.switch };
            is = own-last;
            before = omega arith;
            or_off = inr (offs at how old.last old.is old.or_off (sym (other-time at apart) ∙ e));
          }

      other-said : (node at : ℕ) (how : Switch) → (s.node ≡ node → ⊥) → switch_at at node (done ++ r ∷ []) ≡ Some how → IsSaid (done ++ r ∷ []) node at how
      other-said node at how apart e =
          let old = h.said node at how (sym (other-switch at node apart) ∙ e) in record {
            last = old.last;
            is = other-last node apart ∙ old.is;
            before = old.before;
            or_off = elim old.or_off [ inl one ↦ inl one | inr off ↦ inr (off.0, other-switch off.0 node apart ∙ off.1) ];
          }

      said : (node at : ℕ) (how : Switch) → switch_at at node (done ++ r ∷ []) ≡ Some how → (s.node ≡ node) ⊎ (s.node ≡ node → ⊥) → IsSaid (done ++ r ∷ []) node at how
      said node at how e (inl same) =
          subst (λ (n : ℕ). IsSaid (done ++ r ∷ []) n at how) same (own-said at how (ap (λ (n : ℕ). switch_at at n (done ++ r ∷ [])) same ∙ e) (cases_eq s.at at))
      said node at how e (inr apart) = other-said node at how apart e

      lasts : (node : ℕ) (last : Last) → last_at node (done ++ r ∷ []) ≡ Some last → (s.node ≡ node) ⊎ (s.node ≡ node → ⊥) → switch_at last.at node (done ++ r ∷ []) ≡ Some last.switch
      lasts node last e (inl same) =
          let is : record { at = s.at; switch = s.switch } ≡ last = some-one (record { at = s.at; switch = s.switch }) last (sym own-last ∙ ap (λ (n : ℕ). last_at n (done ++ r ∷ [])) same ∙ e) in
          (λ i. switch_at (sym (ap (λ (l : Last). l.at) is) i) (sym same i) (done ++ r ∷ [])) ∙ own-switch ∙ ap (λ (l : Last). Some l.switch) is
      lasts node last e (inr apart) = other-switch last.at node apart ∙ h.last node last (sym (other-last node apart) ∙ e)

-- a record that is not refused keeps the turns
one-more : (p : Values) (done : List FileRecord) (r : FileRecord) (x : Result Row Reason) → power_row_of r ≡ x → power_row_reason p done x ≡ None → InTurn done → InTurn (done ++ r ∷ [])
one-more p done r (Err why) says fine h = absurd (cc fine)
one-more p done r (Ok (row.Cycles n)) says fine h = same-turn done (done ++ r ∷ []) (λ at node. switch_at-more at node done r _ says) (λ node. last_at-more node done r _ says) h
one-more p done r (Ok (row.Switched s)) says fine h = by (is_known p s.node) (is_coldstart p s.node) (is_out_of_turn (last_at s.node done) s) refl refl refl
  where
    by : (a b c : Bool) → is_known p s.node ≡ a → is_coldstart p s.node ≡ b → is_out_of_turn (last_at s.node done) s ≡ c → InTurn (done ++ r ∷ [])
    by false b c ea eb ec = let never : Some reason.UnknownNode ≡ None = rw ea at fine in absurd (cc never)
    by true false c ea eb ec = let never : Some reason.Role ≡ None = rw (ea, eb) at fine in absurd (cc never)
    by true true true ea eb ec = let never : Some reason.Role ≡ None = rw (ea, eb, ec) at fine in absurd (cc never)
    by true true false ea eb ec = turn-more done r s says ec h

walk : (p : Values) (done rest : List FileRecord) → NoneRefused (power_reason_after p) (done ++ rest) → InTurn done → InTurn (done ++ rest)
walk p done [] none h = subst InTurn (sym (append-nil done)) h
walk p done (r ∷ rest) none h =
    let joined : (done ++ r ∷ []) ++ rest ≡ done ++ r ∷ rest = append_assoc done (r ∷ []) rest in
    subst InTurn joined
    (walk p (done ++ r ∷ []) rest (subst (NoneRefused (power_reason_after p)) (sym joined) none) (one-more p done r (power_row_of r) refl (none done r rest refl) h))

-- where no node is switched off, none is switched on a second time
pub stays-on : (p : Values) (v : PowerView) → PowerFits p v → IsNeverOff v → StaysOn (switches_of p v)
unfolding switches_of IsOff
stays-on p v fits never = record {
  never_off = λ t node e. off t node (is_coldstart p node) e;
  on_once = λ t u node one other. once t u node (is_coldstart p node) one other;
}
  where
    turns : InTurn fits.records
    turns = walk p [] fits.records fits.none_refused turn-nil

    off : (t node : ℕ) (b : Bool) → (if b then switch_rows v t node else None) ≡ Some switch.Off → ⊥
    off t node true e = never t node e
    off t node false e = cc e

    no-off : (node : ℕ) → IsOff fits.records node → ⊥
    no-off node off = never off.0 node (fits.stands.switches off.0 node ∙ off.1)

    last-on : (t node : ℕ) → switch_rows v t node ≡ Some switch.On → last_at node fits.records ≡ Some (record { at = t; switch = switch.On })
    last-on t node e =
        let said = turns.said node t switch.On (sym (fits.stands.switches t node) ∙ e) in
        elim said.or_off [
          | inl one ↦ said.is ∙ ap (λ (l : Last). Some l) one
          | inr off ↦ absurd (no-off node off)
        ]

    once : (t u node : ℕ) (b : Bool) → (if b then switch_rows v t node else None) ≡ Some switch.On → (if b then switch_rows v u node else None) ≡ Some switch.On → t ≡ u
    once t u node true one other =
        ap (λ (l : Last). l.at) (some-one (record { at = t; switch = switch.On }) (record { at = u; switch = switch.On }) (sym (last-on t node one) ∙ last-on u node other))
    once t u node false one other = absurd (cc one)

-- only coldstart nodes are switched
pub starters-only : (p : Values) (v : PowerView) → SwitchesStarters p (switches_of p v)
unfolding switches_of
starters-only p v t node idle = rw idle refl
