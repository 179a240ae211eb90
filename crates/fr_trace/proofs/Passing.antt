-- What a row passes that is taken.
use Rattle.std.proofs.Common.{◌≡◌, ◌≢◌, ◌⊎◌, inl, inr, ℕ, ℤ, ◌<◌, Bool, true, false, Option, Some, None, refl, arith}
use Rattle.std.specs.Prelude.{nat_lt, not, ◌==◌, ◌||◌, ◌&&◌, if◌then◌else◌}
use Rattle.std.specs.Option.{option_map, option_map_or}
use Rattle.std.proofs.lemmas.Bool.Decides.{nat_tests}
use Rattle.std.proofs.lemmas.Int.{ints}
use Rattle.fr_base.specs.Rows.{dev_with}
use Rattle.fr_base.specs.Within.{IsWithin, lies_within}
use Rattle.fr_base.specs.declared.channel.Channel.{Channel}
use Rattle.fr_base.specs.declared.node_row.NodeRow.{NodeRow}
use Rattle.fr_base.specs.declared.reason.Reason.TheVariants as reason
use Rattle.fr_cluster.specs.Questions.{is_common}
use Rattle.fr_cluster.specs.Searches.{key_node_in}
use Rattle.fr_cluster.specs.Values.{Values}
use Rattle.fr_cluster.specs.declared.nodes.NodeSpec.{NodeSpec}
use Rattle.fr_trace.specs.Fits.{IsAboutOther}
use Rattle.fr_trace.specs.Reasons.{heard_reason, is_beyond, is_linked, is_of_other}
use Rattle.fr_trace.specs.declared.rows.HeardRow.{HeardRow}

-- ---- tests

pub both-true : (a b : Bool) → (a && b) ≡ true → (a ≡ true) × (b ≡ true)
both-true true b e = (refl, e)
both-true false b e = absurd (cc e)

pub both-false : (a b : Bool) → (a || b) ≡ false → (a ≡ false) × (b ≡ false)
both-false false b e = (refl, e)
both-false true b e = absurd (cc e)

pub one-true : (a b : Bool) → (a || b) ≡ true → (a ≡ true) ⊎ (b ≡ true)
one-true true b e = inl refl
one-true false b e = inr e

pub not-true : (a : Bool) → not a ≡ false → a ≡ true
not-true true e = refl
not-true false e = absurd (cc e)

pub not-false : (a : Bool) → not a ≡ true → a ≡ false
not-false true e = absurd (cc e)
not-false false e = refl

pub eq-is : (a b : ℕ) → (a == b) ≡ true → a ≡ b
eq-is a b e = grind (arith, nat_tests)

pub eq-not : (a b : ℕ) → (a == b) ≡ false → a ≢ b
eq-not a b e = λ same. absurd (grind (arith, nat_tests, same))

pub lt-is : (a b : ℕ) → nat_lt a b ≡ true → a < b
lt-is a b e = grind (arith, nat_tests)

pub within-is : (limit term : ℤ) → lies_within limit term ≡ true → IsWithin limit term
within-is limit term e = record { low = grind (arith, ints, e); high = grind (arith, ints, e) }

-- ---- what a row passes that is taken

pub run-taken : (c : Bool) → (if not c then Some reason.Role else None) ≡ None → c ≡ true
run-taken true e = refl
run-taken false e = absurd (cc e)

pub arbitrary-taken : (a b c : Bool) → (if not a then Some reason.UnknownNode else if b || not c then Some reason.Role else None) ≡ None → (b ≡ false) × (c ≡ true)
arbitrary-taken true false true e = (refl, refl)
arbitrary-taken true false false e = absurd (cc e)
arbitrary-taken true true c e = absurd (cc e)
arbitrary-taken false b c e = absurd (cc e)

pub clock-taken : (a b c : Bool) → (if a then Some reason.OutOfRange else if not b then Some reason.UnknownNode else if not c then Some reason.Role else None) ≡ None
    → (a ≡ false) × (b ≡ true) × (c ≡ true)
clock-taken false true true e = (refl, refl, refl)
clock-taken false true false e = absurd (cc e)
clock-taken false false c e = absurd (cc e)
clock-taken true b c e = absurd (cc e)

four-taken : (a b c d : Bool) → (if not a then Some reason.UnknownNode else if not b || not c then Some reason.Role else if not d then Some reason.Link else None) ≡ None
    → (b ≡ true) × (c ≡ true) × (d ≡ true)
four-taken true true true true e = (refl, refl, refl)
four-taken true true true false e = absurd (cc e)
four-taken true true false d e = absurd (cc e)
four-taken true false c d e = absurd (cc e)
four-taken false b c d e = absurd (cc e)

pub join-taken : (a b c d : Bool) → (if not a then Some reason.UnknownNode else if b || not c then Some reason.Role else if not d then Some reason.Link else None) ≡ None
    → (a ≡ true) × (b ≡ false) × (c ≡ true) × (d ≡ true)
join-taken true false true true e = (refl, refl, refl, refl)
join-taken true false true false e = absurd (cc e)
join-taken true false false d e = absurd (cc e)
join-taken true true c d e = absurd (cc e)
join-taken false b c d e = absurd (cc e)

two-taken : (a : Bool) → (if not a then Some reason.UnknownNode else Some reason.BadChannel) ≡ None → ⊥
two-taken true e = cc e
two-taken false e = cc e

-- a deviation that is taken: its channel is one, it is about the key slot of another node, comes next, and has the channel in common
pub record IsTaken (p : Values) (heard : HeardRow) (comes : Bool) : Type 0 where
  pub channel : Channel
  pub named : heard.channel ≡ Some channel
  pub other : is_of_other p heard ≡ true
  pub follows : comes ≡ true
  pub linked : is_linked p heard channel ≡ true

pub heard-taken : (p : Values) (cycle receiver slot : ℕ) (value : ℤ) (o : Option Channel) (comes : Bool)
    → heard_reason p (record { cycle = cycle; receiver = receiver; slot = slot; channel = o; value = value }) comes ≡ None
    → IsTaken p (record { cycle = cycle; receiver = receiver; slot = slot; channel = o; value = value }) comes
heard-taken p cycle receiver slot value None comes e = absurd (two-taken _ e)
heard-taken p cycle receiver slot value (Some ch) comes e =
    let all = four-taken _ _ comes _ e in
    record { channel = ch; named = refl; other = all.0; follows = all.1; linked = all.2 }

-- the sender of such a deviation
pub about-other : (p : Values) (heard : HeardRow) (ch : Channel) (o : Option NodeSpec) → key_node_in p.nodes heard.slot ≡ o
    → option_map_or (λ sender. not (sender == heard.receiver)) (option_map (λ spec. spec.id) o) false ≡ true
    → option_map_or (λ sender. is_common p sender heard.receiver ch) (option_map (λ spec. spec.id) o) false ≡ true
    → IsAboutOther p (dev_with heard.receiver heard.slot ch heard.value)
about-other p heard ch None e other linked = absurd (cc other)
about-other p heard ch (Some sender) e other linked = record {
  sender = sender;
  key = e;
  other = eq-not sender.id heard.receiver (not-false _ other);
  common = linked;
}

-- the terms of a row within their limits
pub terms-within : (p : Values) (clock : NodeRow) → is_beyond p clock ≡ false → IsWithin p.rate_limit clock.rate × IsWithin p.offset_limit clock.offset
terms-within p clock e =
    let both = both-false (not (lies_within p.rate_limit clock.rate)) (not (lies_within p.offset_limit clock.offset)) e in
    (within-is p.rate_limit clock.rate (not-true _ both.0), within-is p.offset_limit clock.offset (not-true _ both.1))
