-- The correction terms of a double cycle (sections 8.6.2 to 8.6.4), in microticks.
use Rattle.std.specs.Prelude.{◌≡◌, ◌⊎◌, ◌↔◌, ℤ, pos, neg_ℤ, ◌+ℤ◌, ◌-ℤ◌, ◌≤ℤ◌, ◌<ℤ◌, int_lt, ◌||◌, ◌&&◌, Bool, true, false, if◌then◌else◌, Option, Some, None, List, []}
use Rattle.fr_base.specs.declared.Outcome.{Outcome}
use Rattle.fr_base.specs.declared.Outcome.TheVariants.{Within, Missing, Exceeded}
use Rattle.fr_base.specs.Within.{IsWithin}
use Rattle.fr_midpoint.specs.Midpoint.{IsMidpoint, midpoint_of}
use Rattle.fr_correct.specs.declared.term.Term.{Term}

-- damping (section 8.6.3) takes a number toward 0 by so much, and to 0 one that is no further from it
abbrev pub damped : ℤ → ℤ → ℤ
damped damping x =
    if int_lt damping x then x -ℤ damping else (if int_lt x (neg_ℤ damping) then x +ℤ damping else pos 0)

-- a number lies outside a limit, on either side of 0
abbrev pub IsOutside : ℤ → ℤ → Type 0
IsOutside limit x = (limit <ℤ x) ⊎ (x <ℤ neg_ℤ limit)

-- a number cut to a limit on either side of 0 (section 8.6.4)
abbrev pub limited : ℤ → ℤ → ℤ
limited limit x = if int_lt limit x then limit else (if int_lt x (neg_ℤ limit) then neg_ℤ limit else x)

-- the term of a value before cutting (section 8.6.4)
abbrev pub term_of : ℤ → ℤ → Term
term_of limit before = record {
  value = limited limit before;
  before = before;
  outcome = if int_lt limit before || int_lt before (neg_ℤ limit) then Exceeded else Within;
}

-- the term where there are no values: the one that is kept
abbrev pub missing_term : ℤ → Term
missing_term kept = record { value = kept; before = kept; outcome = Missing }

-- whether a term lay within its limit
abbrev pub is_uncut : Outcome → Bool
is_uncut Within = true
is_uncut Missing = false
is_uncut Exceeded = false

-- whether both terms did, where there are two
abbrev pub are_uncut : Option (Outcome × Outcome) → Bool
are_uncut None = false
are_uncut (Some pair) = is_uncut pair.0 && is_uncut pair.1

-- the offset term of some values (section 8.6.2): 0 without any, else their midpoint, cut to the limit
abbrev pub IsOffsetTerm : ℤ → List ℤ → Term → Type 0
IsOffsetTerm limit values term =
    ((values ≡ []) × (term ≡ missing_term (pos 0)))
    ⊎ ((mid : ℤ) × IsMidpoint values mid × (term ≡ term_of limit mid))

-- the rate term of some values (section 8.6.3): the old one without any, else the sum of the old one and their midpoint,
-- damped, and then cut to the limit; that the old one is kept, and this order, are this profile's
abbrev pub IsRateTerm : ℤ → ℤ → ℤ → List ℤ → Term → Type 0
IsRateTerm old damping limit values term =
    ((values ≡ []) × (term ≡ missing_term old))
    ⊎ ((mid : ℤ) × IsMidpoint values mid × (term ≡ term_of limit (damped damping (old +ℤ mid))))

-- the outcome of a term of some values: missing exactly without any, exceeded exactly where the value before cutting lay
-- outside the limit; and the term lies within it
pub record TellsItsOutcome (limit : ℤ) (values : List ℤ) (term : Term) : Type 0 where
  pub missing : (term.outcome ≡ Missing) ↔ (values ≡ [])
  pub exceeded : (term.outcome ≡ Exceeded) ↔ IsOutside limit term.before
  pub within : IsWithin limit term.value

-- the offset term where the values have this midpoint, or none
abbrev pub offset_term_at : ℤ → Option ℤ → Term
offset_term_at limit None = missing_term (pos 0)
offset_term_at limit (Some mid) = term_of limit mid

-- the rate term where the values have this midpoint, or none
abbrev pub rate_term_at : ℤ → ℤ → ℤ → Option ℤ → Term
rate_term_at old damping limit None = missing_term old
rate_term_at old damping limit (Some mid) = term_of limit (damped damping (old +ℤ mid))

-- the offset term of some values, as a function of them (section 8.6.2)
abbrev pub offset_term_of : ℤ → List ℤ → Term
offset_term_of limit values = offset_term_at limit (midpoint_of values)

-- the rate term of some values, as a function of them (section 8.6.3)
abbrev pub rate_term_of : ℤ → ℤ → ℤ → List ℤ → Term
rate_term_of old damping limit values = rate_term_at old damping limit (midpoint_of values)

-- the offset term of some values is the one that the function gives
abbrev pub OffsetTermIsFound : Type 0
OffsetTermIsFound =
    (limit : ℤ) (values : List ℤ) (term : Term) → IsOffsetTerm limit values term → term ≡ offset_term_of limit values

-- the rate term of some values is the one that the function gives
abbrev pub RateTermIsFound : Type 0
RateTermIsFound =
    (old damping limit : ℤ) (values : List ℤ) (term : Term)
    → IsRateTerm old damping limit values term → term ≡ rate_term_of old damping limit values

-- and the function gives a term of them
abbrev pub OffsetTermIsThere : Type 0
OffsetTermIsThere = (limit : ℤ) (values : List ℤ) → IsOffsetTerm limit values (offset_term_of limit values)

abbrev pub RateTermIsThere : Type 0
RateTermIsThere =
    (old damping limit : ℤ) (values : List ℤ) → IsRateTerm old damping limit values (rate_term_of old damping limit values)

-- a term that was cut lies within its limit
abbrev pub TermLiesWithin : Type 0
TermLiesWithin = (limit before : ℤ) → pos 0 ≤ℤ limit → IsWithin limit (term_of limit before).value
