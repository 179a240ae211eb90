-- The cycles of a log without a frame of a node, double cycle by double cycle.
use Rattle.std.proofs.Common.{◌≡◌, ℕ, suc, ◌+◌, ◌-◌, ◌<◌, ◌≤◌, List, [], ◌∷◌, sym, ap, ◌∙◌, arith}
use Rattle.std.specs.List.{range_with_len}
use Rattle.std.proofs.lemmas.List.Sums.{sum_by-cons}
use Rattle.fr_base.specs.declared.channel.Channel.{Channel}
use Rattle.fr_sightings.specs.Senders.{sightings_in}
use Rattle.fr_sightings.specs.declared.sighting.Sighting.{Sighting}
use Rattle.fr_findings.specs.Census.{lacks_at, lacks_both, missed_among}

-- double cycles up to a last one
abbrev pub up_to : ℕ → ℕ → List ℕ
up_to double last = range_with_len double (last + 1 - double)

first-one : (double last : ℕ) → double ≤ last → up_to double last ≡ double ∷ up_to (double + 1) last
first-one double last le =
    let more : last + 1 - double ≡ suc (last + 1 - (double + 1)) = omega (arith, le) in
    ap (range_with_len double) more

none-left : (double last : ℕ) → last < double → up_to double last ≡ []
none-left double last less =
    let none : last + 1 - double ≡ 0 = omega (arith, less) in
    ap (range_with_len double) none

pub missed-first : (begin end : ℕ) (seen : List Sighting) (node : ℕ) (ch : Channel) (here : List Sighting) (double last : ℕ) → double ≤ last → here ≡ sightings_in seen double
    → lacks_both begin end here node ch double + missed_among begin end seen node ch (up_to (double + 1) last) ≡ missed_among begin end seen node ch (up_to double last)
unfolding missed_among
missed-first begin end seen node ch here double last le here_is =
    ap (λ (l : List Sighting). lacks_both begin end l node ch double + missed_among begin end seen node ch (up_to (double + 1) last)) here_is
    ∙ sym (sum_by-cons (lacks_at begin end seen node ch) double (up_to (double + 1) last))
    ∙ ap (missed_among begin end seen node ch) (sym (first-one double last le))

pub missed-end : (begin end : ℕ) (seen : List Sighting) (node : ℕ) (ch : Channel) (double last : ℕ) → last < double → missed_among begin end seen node ch (up_to double last) ≡ 0
unfolding missed_among
missed-end begin end seen node ch double last less = ap (missed_among begin end seen node ch) (none-left double last less)
