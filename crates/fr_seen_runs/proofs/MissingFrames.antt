-- No frame is told as missing where each is there that is asked for.
use Rattle.std.proofs.Common.{◌≡◌, ℕ, ◌+◌, ◌-◌, ◌*◌, ◌<◌, ℤ, Bool, true, false, if◌then◌else◌, Option, Some, None, IsSome, List, [], ◌∷◌, ◌++◌, length, refl, ap, sym, ◌∙◌, inl, inr, arith}
use Rattle.std.specs.Prelude.{◌≤ℤ◌, ◌&&◌, int_lt, nat_lt, is_some, get_or, Contains}
use Rattle.std.specs.List.{flat_map, slice_get}
use Rattle.std.specs.Option.{option_to_list}
use Rattle.std.proofs.lemmas.Int.{ints}
use Rattle.std.proofs.lemmas.Option.{slice_get-get_or, slice_get_within}
use Rattle.fr_base.specs.declared.channel.Channel.{Channel}
use Rattle.fr_base.specs.declared.channel.Channel.TheVariants.{A, B}
use Rattle.fr_cluster.specs.Questions.{has_channel}
use Rattle.fr_cluster.specs.Values.{Values}
use Rattle.fr_cluster.specs.declared.nodes.NodeSpec.{NodeSpec}
use Rattle.fr_cluster.proofs.Elements.{Contains-here, Contains-there}
use Rattle.fr_log.specs.View.{LogView}
use Rattle.fr_sightings.specs.Senders.{first_stamp, own_slot, sightings_in}
use Rattle.fr_sightings.specs.declared.sighting.Sighting.{Sighting}
use Rattle.fr_observe.specs.Faults.{is_inside, missing_by, missing_frames, missing_in, missing_of, missing_on, node_missing, was_seen}
use Rattle.fr_findings.specs.Verdict.{log_span, number_or_none}
use Rattle.fr_observe.specs.declared.fault.Fault.{Fault}
use Rattle.fr_observe.specs.declared.fault.LogSpan.{LogSpan}
use Rattle.fr_sightings.proofs.Proper.{both}
use Rattle.fr_seen.specs.Contradictions.{IsInside}
use Rattle.fr_seen_runs.proofs.KeyFrames.{IsCycleOf}

pub not_less : (a b : ℤ) → b ≤ℤ a → int_lt a b ≡ false
not_less a b le = grind (arith, ints)

from_less : (a b : ℕ) → nat_lt a b ≡ true → a < b
from_less a b is = grind arith

-- ---- lists

none_mapped : {X Y : Type 0} (f : X → List Y) (xs : List X) → ((x : X) → Contains xs x → f x ≡ []) → flat_map f xs ≡ []
none_mapped f [] none = refl
none_mapped f (x ∷ xs) none =
    ap (λ ys. ys ++ flat_map f xs) (none x (Contains-here x xs)) ∙ none_mapped f xs (λ y there. none y (Contains-there x xs y there))

-- ---- missing

-- inside the numbers of the first and the last sighting
inside_by : (seen : List Sighting) (number : ℕ) → is_inside (log_span seen) number ≡ true → IsInside seen number
inside_by seen number is = by (slice_get seen 0) refl (slice_get seen (length seen - 1)) refl is
  where
    by : (first : Option Sighting) → slice_get seen 0 ≡ first → (last : Option Sighting) → slice_get seen (length seen - 1) ≡ last
        → (nat_lt (number_or_none first) number && nat_lt number (number_or_none last)) ≡ true → IsInside seen number
    by first first_is None last_is passes = absurd (none number (both (nat_lt (number_or_none first) number) (nat_lt number 0) passes).1)
      where
        none : (n : ℕ) → nat_lt n 0 ≡ true → ⊥
        none n is = grind arith
    by None first_is (Some last) last_is passes =
        let within = slice_get_within seen (length seen - 1) last last_is in
        let e : None ≡ Some (get_or seen 0 last) = sym first_is ∙ slice_get-get_or seen 0 last (omega (arith, within)) in
        absurd (cc)
    by (Some first) first_is (Some last) last_is passes =
        let parts = both (nat_lt first.number number) (nat_lt number last.number) passes in
        record {
          first = first;
          last = last;
          is_first = first_is;
          is_last = last_is;
          behind = from_less first.number number parts.0;
          before = from_less number last.number parts.1;
        }

-- of a node of which each frame is there that is asked for
module _ (seen : List Sighting) (double : ℕ) (node : NodeSpec)
    (sent : (number : ℕ) (channel : Channel) → IsCycleOf double number → IsInside seen number → has_channel (Some node) channel ≡ true
    → IsSome (first_stamp (sightings_in seen double) node.id channel number)) where
  abbrev Here : List Sighting
  Here = sightings_in seen double

  none_on : (number : ℕ) (channel : Channel) → IsCycleOf double number → has_channel (Some node) channel ≡ true → missing_on (log_span seen) Here number node.id channel ≡ None
  none_on number channel of has = by (is_inside (log_span seen) number) refl
    where
      by : (b : Bool) → is_inside (log_span seen) number ≡ b → missing_on (log_span seen) Here number node.id channel ≡ None
      by false is = rw is refl
      by true is =
          let there : is_some (first_stamp Here node.id channel number) ≡ true = sent number channel of (inside_by seen number is) has in
          rw (is, there) refl

  none_by : (number : ℕ) (channel : Channel) → IsCycleOf double number → missing_by (log_span seen) Here number node channel ≡ None
  none_by number channel of = by (has_channel (Some node) channel) refl
    where
      by : (b : Bool) → has_channel (Some node) channel ≡ b → (if b then missing_on (log_span seen) Here number node.id channel else None) ≡ None
      by true has = none_on number channel of has
      by false has = refl

  none_in : (number : ℕ) → IsCycleOf double number → missing_in (log_span seen) Here number node ≡ []
  none_in number of =
      ap (λ (o : Option Fault). option_to_list o ++ option_to_list (missing_by (log_span seen) Here number node B)) (none_by number A of)
      ∙ ap (λ (o : Option Fault). option_to_list o) (none_by number B of)

  pub none_of : missing_of (log_span seen) (sightings_in seen double) double node ≡ []
  none_of =
      ap (λ (faults : List Fault). faults ++ missing_in (log_span seen) Here (2 * double + 1) node) (none_in (2 * double) (inl refl)) ∙ none_in (2 * double + 1) (inr refl)

-- none is missing where none is of any node, whichever were seen in the double cycle before
pub none_missing : (p : Values) (l : LogView) (span : LogSpan) (before here : List Sighting) (double : ℕ)
    → ((node : NodeSpec) → l.whole ≡ true → Contains p.nodes node → is_some (own_slot l node) ≡ true → missing_of span here double node ≡ [])
    → missing_frames p l span before here double ≡ []
none_missing p l span before here double none = by l.whole refl
  where
    node_none : (node : NodeSpec) → l.whole ≡ true → Contains p.nodes node → node_missing l span before here double node ≡ []
    node_none node whole among = by (is_some (own_slot l node) && was_seen before node.id) refl
      where
        by : (b : Bool) → (is_some (own_slot l node) && was_seen before node.id) ≡ b → (if b then missing_of span here double node else []) ≡ []
        by false fails = refl
        by true passes = none node whole among (both (is_some (own_slot l node)) (was_seen before node.id) passes).0

    by : (b : Bool) → l.whole ≡ b → (if b then flat_map (node_missing l span before here double) p.nodes else []) ≡ []
    by false is = refl
    by true is = none_mapped (node_missing l span before here double) p.nodes (λ node among. node_none node is among)
