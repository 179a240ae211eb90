-- What is not written has one first refusal, and what is written has none.
use Rattle.std.proofs.Common.{◌≡◌, ℕ, ◌<◌, refl, sym, ◌∙◌, ◌⊎◌, inl, inr, arith}
use Rattle.std.proofs.lemmas.Bool.{both_ways}
use Rattle.fr_frame.specs.declared.header.Header.{Header}
use Rattle.fr_frame.specs.declared.fault.EncodeFault.{EncodeFault}
use Rattle.fr_frame.specs.declared.fault.EncodeFault.TheVariants.{BadId, BadCycle, BadPayload, StartupNotSync, Room}
use Rattle.fr_frame.specs.Refusal.{HasGoodId, HasGoodCycle, HasGoodPayload, HasGoodFlags, IsAccepted, IsBadCycle, IsBadPayload, IsStartupAlone, IsFirstRefusal}

bad_id_or_good : (header : Header) → (header.id ≡ 0) ⊎ (2047 < header.id) → HasGoodId header → ⊥
bad_id_or_good header (inl zero_id) good = omega (arith, good.id_some)
bad_id_or_good header (inr great) good = omega (arith, good.id_fits)

bad_cycle_or_good : (header : Header) → IsBadCycle header → HasGoodCycle header → ⊥
bad_cycle_or_good header bad good = omega (arith, bad.great, good.cycle_fits)

bad_payload_or_good : (header : Header) (payload given words : ℕ) → IsBadPayload header payload given words → HasGoodPayload header payload → ⊥
bad_payload_or_good header payload given words bad good =
    elim bad.bad [ inl great ↦ omega (arith, good.words_fit) | inr other ↦ other good.payload_length ]

startup_or_good : (header : Header) (payload : ℕ) → IsStartupAlone header payload → HasGoodFlags header payload → ⊥
startup_or_good header payload alone good = both_ways header.sync alone.no_sync (good.startup_in_sync alone.startup)

pub refusal_or_accepted : (header : Header) (payload room : ℕ) (fault : EncodeFault) → IsFirstRefusal header payload room fault → IsAccepted header payload room → ⊥
refusal_or_accepted header payload room BadId bad good = bad_id_or_good header bad good.good_flags.good_payload.good_cycle.good_id
refusal_or_accepted header payload room BadCycle bad good = bad_cycle_or_good header bad good.good_flags.good_payload.good_cycle
refusal_or_accepted header payload room (BadPayload n m) bad good = bad_payload_or_good header payload n m bad good.good_flags.good_payload
refusal_or_accepted header payload room StartupNotSync bad good = startup_or_good header payload bad good.good_flags
refusal_or_accepted header payload room (Room n m) bad good = omega (arith, bad.needs, bad.counted, bad.few, good.enough)

-- two first refusals of the same frame are one
pub refusal_is_one : (header : Header) (payload room : ℕ) (first second : EncodeFault) → IsFirstRefusal header payload room first → IsFirstRefusal header payload room second → first ≡ second
refusal_is_one header payload room BadId BadId a b = refl
refusal_is_one header payload room BadId BadCycle a b = absurd (bad_id_or_good header a b.good_id)
refusal_is_one header payload room BadId (BadPayload k l) a b = absurd (bad_id_or_good header a b.good_cycle.good_id)
refusal_is_one header payload room BadId StartupNotSync a b = absurd (bad_id_or_good header a b.good_payload.good_cycle.good_id)
refusal_is_one header payload room BadId (Room k l) a b = absurd (bad_id_or_good header a b.good_flags.good_payload.good_cycle.good_id)
refusal_is_one header payload room BadCycle BadId a b = absurd (bad_id_or_good header b a.good_id)
refusal_is_one header payload room BadCycle BadCycle a b = refl
refusal_is_one header payload room BadCycle (BadPayload k l) a b = absurd (bad_cycle_or_good header a b.good_cycle)
refusal_is_one header payload room BadCycle StartupNotSync a b = absurd (bad_cycle_or_good header a b.good_payload.good_cycle)
refusal_is_one header payload room BadCycle (Room k l) a b = absurd (bad_cycle_or_good header a b.good_flags.good_payload.good_cycle)
refusal_is_one header payload room (BadPayload n m) BadId a b = absurd (bad_id_or_good header b a.good_cycle.good_id)
refusal_is_one header payload room (BadPayload n m) BadCycle a b = absurd (bad_cycle_or_good header b a.good_cycle)
refusal_is_one header payload room (BadPayload n m) (BadPayload k l) a b =
    let given : n ≡ k = a.counted ∙ sym b.counted in
    let words : m ≡ l = a.stated ∙ sym b.stated in
    cc
refusal_is_one header payload room (BadPayload n m) StartupNotSync a b = absurd (bad_payload_or_good header payload n m a b.good_payload)
refusal_is_one header payload room (BadPayload n m) (Room k l) a b = absurd (bad_payload_or_good header payload n m a b.good_flags.good_payload)
refusal_is_one header payload room StartupNotSync BadId a b = absurd (bad_id_or_good header b a.good_payload.good_cycle.good_id)
refusal_is_one header payload room StartupNotSync BadCycle a b = absurd (bad_cycle_or_good header b a.good_payload.good_cycle)
refusal_is_one header payload room StartupNotSync (BadPayload k l) a b = absurd (bad_payload_or_good header payload k l b a.good_payload)
refusal_is_one header payload room StartupNotSync StartupNotSync a b = refl
refusal_is_one header payload room StartupNotSync (Room k l) a b = absurd (startup_or_good header payload a b.good_flags)
refusal_is_one header payload room (Room n m) BadId a b = absurd (bad_id_or_good header b a.good_flags.good_payload.good_cycle.good_id)
refusal_is_one header payload room (Room n m) BadCycle a b = absurd (bad_cycle_or_good header b a.good_flags.good_payload.good_cycle)
refusal_is_one header payload room (Room n m) (BadPayload k l) a b = absurd (bad_payload_or_good header payload k l b a.good_flags.good_payload)
refusal_is_one header payload room (Room n m) StartupNotSync a b = absurd (startup_or_good header payload b a.good_flags)
refusal_is_one header payload room (Room n m) (Room k l) a b =
    let needed : n ≡ k = a.needs ∙ sym b.needs in
    let given : m ≡ l = a.counted ∙ sym b.counted in
    cc
