-- Cuts of a list of records at one of them, and what they say of refusals.
use Rattle.std.proofs.Common.{◌≡◌, ℕ, ◌+◌, List, [], ◌∷◌, ◌++◌, length, Option, Some, None, ◌⊎◌, inl, inr, ap, sym, ◌∙◌, refl, append_assoc, subst}
use Rattle.std.proofs.lemmas.List.{append-nil}
use Rattle.fr_base.specs.declared.reason.Reason.{Reason}
use Rattle.fr_text.specs.Records.{FileRecord}
use Rattle.fr_text.specs.Refusal.{Refusing, NoneRefused, FirstRefused, RefusesOrAccepts}

-- no cut of an empty list
empty-cut : {P : Type 0} (before : List FileRecord) (r : FileRecord) (after : List FileRecord) → [] ≡ before ++ r ∷ after → P
empty-cut [] r after e = cc e
empty-cut (b ∷ bs) r after e = cc e

-- a cut of a list with one more record is at that record or inside the list
pub last-or-inside : (done : List FileRecord) (x : FileRecord) (before : List FileRecord) (r : FileRecord) (after : List FileRecord) → done ++ x ∷ [] ≡ before ++ r ∷ after
    → ((done ≡ before) × (x ≡ r)) ⊎ ((tail : List FileRecord) × (done ≡ before ++ r ∷ tail))
last-or-inside [] x [] r after e = inl (refl, cc e)
last-or-inside [] x (b ∷ bs) r after e = let tail : [] ≡ bs ++ r ∷ after = cc e in empty-cut bs r after tail
last-or-inside (d ∷ ds) x [] r after e = let same : d ≡ r = cc e in inr (ds, ap (λ (y : FileRecord). y ∷ ds) same)
last-or-inside (d ∷ ds) x (b ∷ bs) r after e =
    let head : d ≡ b = cc e in
    let tail : ds ++ x ∷ [] ≡ bs ++ r ∷ after = cc e in
    elim (last-or-inside ds x bs r after tail) [
      | inl h ↦ inl (let same : ds ≡ bs = h.0 in cc, h.1)
      | inr h ↦ inr (h.0, let same : ds ≡ bs ++ r ∷ h.0 = h.1 in cc)
    ]

-- two cuts of one list are the same, or one lies inside the front of the other
pub two-cuts : (b1 : List FileRecord) (r1 : FileRecord) (a1 b2 : List FileRecord) (r2 : FileRecord) (a2 : List FileRecord) → b1 ++ r1 ∷ a1 ≡ b2 ++ r2 ∷ a2
    → ((b1 ≡ b2) × (r1 ≡ r2)) ⊎ (((t : List FileRecord) × (b1 ≡ b2 ++ r2 ∷ t)) ⊎ ((t : List FileRecord) × (b2 ≡ b1 ++ r1 ∷ t)))
two-cuts [] r1 a1 [] r2 a2 e = inl (refl, cc e)
two-cuts [] r1 a1 (c ∷ cs) r2 a2 e = let same : c ≡ r1 = cc e in inr (inr (cs, ap (λ (y : FileRecord). y ∷ cs) same))
two-cuts (b ∷ bs) r1 a1 [] r2 a2 e = let same : b ≡ r2 = cc e in inr (inl (bs, ap (λ (y : FileRecord). y ∷ bs) same))
two-cuts (b ∷ bs) r1 a1 (c ∷ cs) r2 a2 e =
    let head : b ≡ c = cc e in
    let tail : bs ++ r1 ∷ a1 ≡ cs ++ r2 ∷ a2 = cc e in
    elim (two-cuts bs r1 a1 cs r2 a2 tail) [
      | inl h ↦ inl (let same : bs ≡ cs = h.0 in cc, h.1)
      | inr h ↦ inr (elim h [
        | inl g ↦ inl (g.0, let same : bs ≡ cs ++ r2 ∷ g.0 = g.1 in cc)
        | inr g ↦ inr (g.0, let same : cs ≡ bs ++ r1 ∷ g.0 = g.1 in cc)
      ])
    ]

-- no record of an empty list is refused
pub none-empty : (reason : Refusing) → NoneRefused reason []
none-empty reason before r after e = empty-cut before r after e

-- one more record that is not refused
pub none-more : (reason : Refusing) (done : List FileRecord) (x : FileRecord) → NoneRefused reason done → reason done x ≡ None → NoneRefused reason (done ++ x ∷ [])
none-more reason done x none fine before r after e =
    elim (last-or-inside done x before r after e) [
      | inl h ↦ let front : done ≡ before = h.0 in let last : x ≡ r = h.1 in cc
      | inr h ↦ none before r h.0 h.1
    ]

-- two first refusals of one list are the same
pub first-same : (reason : Refusing) (records : List FileRecord) (n m : ℕ) (why other : Reason) → FirstRefused reason records n why → FirstRefused reason records m other
    → (n ≡ m) × (why ≡ other)
first-same reason records n m why other f g =
    elim (two-cuts f.before f.record_at f.after g.before g.record_at g.after (sym f.cut ∙ g.cut)) [
      | inl h ↦ (
        f.place ∙ ap (λ (xs : List FileRecord). length xs + 1) h.0 ∙ sym g.place,
        let front : f.before ≡ g.before = h.0 in
            let here : f.record_at ≡ g.record_at = h.1 in
            let a : reason f.before f.record_at ≡ Some why = f.refused in
            let b : reason g.before g.record_at ≡ Some other = g.refused in
            cc,
      )
      | inr h ↦ elim h [
        | inl t ↦ let a = f.none_before g.before g.record_at t.0 t.1 in let b = g.refused in cc
        | inr t ↦ let a = g.none_before f.before f.record_at t.0 t.1 in let b = f.refused in cc
      ]
    ]

-- after records of which none is refused, none is or there is a first
none-or-first : (reason : Refusing) (done rest : List FileRecord) → NoneRefused reason done
    → NoneRefused reason (done ++ rest) ⊎ ((n : ℕ) × ((why : Reason) × FirstRefused reason (done ++ rest) n why))
none-or-first reason done [] none = inl (rw (append-nil done) none)
none-or-first reason done (r ∷ rest) none = by (reason done r) refl (λ fine. none-or-first reason (done ++ r ∷ []) rest fine)
  where
    by : (o : Option Reason) → reason done r ≡ o
        → (NoneRefused reason (done ++ r ∷ []) → NoneRefused reason ((done ++ r ∷ []) ++ rest) ⊎ ((n : ℕ) × ((why : Reason) × FirstRefused reason ((done ++ r ∷ []) ++ rest) n why)))
        → NoneRefused reason (done ++ r ∷ rest) ⊎ ((n : ℕ) × ((why : Reason) × FirstRefused reason (done ++ r ∷ rest) n why))
    by None e more =
        let P : List FileRecord → Type 0 = λ xs. NoneRefused reason xs ⊎ ((n : ℕ) × ((why : Reason) × FirstRefused reason xs n why)) in
        subst P (append_assoc done (r ∷ []) rest) (more (none-more reason done r none e))
    by (Some why) e more = inr (length done + 1, (why, record { before = done; record_at = r; after = rest; cut = refl; place = refl; none_before = none; refused = e }))

-- of each list none is refused or there is a first
pub none-or-first-refused : (reason : Refusing) (records : List FileRecord) → NoneRefused reason records ⊎ ((n : ℕ) × ((why : Reason) × FirstRefused reason records n why))
none-or-first-refused reason records = none-or-first reason [] records (none-empty reason)

-- where a record is refused it is not so that none is
pub refused-none : (reason : Refusing) → RefusesOrAccepts reason
refused-none reason records n why f none = let a = none f.before f.record_at f.after f.cut in let b = f.refused in cc
