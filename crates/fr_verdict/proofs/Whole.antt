-- Where no double cycle has a broken link, no pair of nodes has one in any.
use Rattle.std.proofs.Common.{◌≡◌, ℕ, ◌<◌, Bool, true, false, List, [], ◌∷◌, Option, None, Some, refl, ap₂, arith}
use Rattle.std.specs.Prelude.{if◌then◌else◌}
use Rattle.std.specs.Option.{option_or}
use Rattle.fr_cluster.specs.Values.{Values}
use Rattle.fr_cluster.specs.declared.nodes.NodeSpec.{NodeSpec}
use Rattle.fr_coverage.specs.First.{first_below, first_in}
use Rattle.fr_coverage.specs.declared.gap.Gap.{Gap}
use Rattle.fr_coverage.proofs.First.{below-skip, below-zero}
use Rattle.fr_trace.specs.Trace.{TraceView}
use Rattle.fr_verdict.specs.FirstGap.{traced_link_gap, traced_pairs_gap}
use Rattle.fr_verdict.specs.Gaps.{is_pair}
use Rattle.fr_verdict.specs.Doubles.{double_gap}

both_none : (a b : Option Gap) → option_or a b ≡ None → (a ≡ None) × (b ≡ None)
both_none None b e = (refl, e)
both_none (Some gap) b e = absurd (cc e)

of_pair : (pair : Bool) (gap : ℕ → Option Gap) (n : ℕ) → ((d : ℕ) → d < n → (if pair then gap d else None) ≡ None) → (if pair then first_below gap n else None) ≡ None
of_pair true gap n none = below-skip gap 0 n (below-zero gap) (omega arith) (λ d low high. none d high)
of_pair false gap n none = refl

receivers_none : (pair : NodeSpec → Bool) (gap : NodeSpec → ℕ → Option Gap) (receivers : List NodeSpec) (n : ℕ)
    → ((d : ℕ) → d < n → first_in (λ receiver. if pair receiver then gap receiver d else None) receivers ≡ None)
    → first_in (λ receiver. if pair receiver then first_below (gap receiver) n else None) receivers ≡ None
unfolding first_in
receivers_none pair gap [] n none = refl
receivers_none pair gap (receiver ∷ receivers) n none =
    let parts : (d : ℕ) → d < n → ((if pair receiver then gap receiver d else None) ≡ None) × (first_in (λ other. if pair other then gap other d else None) receivers ≡ None) =
    λ d lt. both_none (if pair receiver then gap receiver d else None) (first_in (λ other. if pair other then gap other d else None) receivers) (none d lt) in
    ap₂ (λ (a b : Option Gap). option_or a b)
    (of_pair (pair receiver) (gap receiver) n (λ d lt. (parts d lt).0))
    (receivers_none pair gap receivers n (λ d lt. (parts d lt).1))

senders_none : (pair : NodeSpec → NodeSpec → Bool) (gap : NodeSpec → NodeSpec → ℕ → Option Gap) (senders receivers : List NodeSpec) (n : ℕ)
    → ((d : ℕ) → d < n → first_in (λ sender. first_in (λ receiver. if pair sender receiver then gap sender receiver d else None) receivers) senders ≡ None)
    → first_in (λ sender. first_in (λ receiver. if pair sender receiver then first_below (gap sender receiver) n else None) receivers) senders ≡ None
unfolding first_in
senders_none pair gap [] receivers n none = refl
senders_none pair gap (sender ∷ senders) receivers n none =
    let parts : (d : ℕ) → d < n
    → (first_in (λ receiver. if pair sender receiver then gap sender receiver d else None) receivers ≡ None)
    × (first_in (λ other. first_in (λ receiver. if pair other receiver then gap other receiver d else None) receivers) senders ≡ None) =
    λ d lt.
    both_none (first_in (λ receiver. if pair sender receiver then gap sender receiver d else None) receivers)
    (first_in (λ other. first_in (λ receiver. if pair other receiver then gap other receiver d else None) receivers) senders) (none d lt) in
    ap₂ (λ (a b : Option Gap). option_or a b)
    (receivers_none (pair sender) (gap sender) receivers n (λ d lt. (parts d lt).0))
    (senders_none pair gap senders receivers n (λ d lt. (parts d lt).1))

pub pairs_none : (p : Values) (t : TraceView) (synced : Option ℕ) → ((d : ℕ) → d < t.doubles → double_gap p t synced d ≡ None) → traced_pairs_gap p t synced ≡ None
pairs_none p t synced none = senders_none (is_pair t) (traced_link_gap t synced) p.nodes p.nodes t.doubles none
