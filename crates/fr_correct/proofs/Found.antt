-- The terms of some values are functions of them.
use Rattle.std.proofs.Common.{inl, inr, ap, sym, ◌∙◌}
use Rattle.fr_midpoint.proofs.Found.{midpoint_of-is}
use Rattle.fr_correct.specs.Terms.{offset_term_at, rate_term_at, offset_term_of, rate_term_of, OffsetTermIsFound, RateTermIsFound}

pub offset_term_is_found : OffsetTermIsFound
offset_term_is_found limit values term (inl (none, is)) = is ∙ sym (ap (offset_term_of limit) none)
offset_term_is_found limit values term (inr (mid, middle, is)) =
    is ∙ sym (ap (offset_term_at limit) (midpoint_of-is values mid middle))

pub rate_term_is_found : RateTermIsFound
rate_term_is_found old damping limit values term (inl (none, is)) = is ∙ sym (ap (rate_term_of old damping limit) none)
rate_term_is_found old damping limit values term (inr (mid, middle, is)) =
    is ∙ sym (ap (rate_term_at old damping limit) (midpoint_of-is values mid middle))
