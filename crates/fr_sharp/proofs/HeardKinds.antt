-- What it says of a double cycle that all is heard in it, and that no sync node is arbitrary.
use Rattle.std.proofs.Common.{◌≡◌, ℕ, suc, ◌+◌, ◌*◌, ◌&&◌, ◌||◌, Bool, true, false, not, refl, ap, ◌∙◌, inl, inr, arith}
use Rattle.std.specs.Prelude.{nat_eq}
use Rattle.std.specs.List.{list_all}
use Rattle.std.proofs.lemmas.Bool.{and_parts, ne_eqb, or_cases}
use Rattle.std.proofs.lemmas.Bool.Decides.{nat_tests}
use Rattle.fr_base.specs.declared.channel.Channel.{Channel}
use Rattle.fr_base.specs.declared.channel.Channel.TheVariants.{A, B}
use Rattle.fr_cluster.specs.Setting.{Setting}
use Rattle.fr_cluster.specs.declared.nodes.NodeSpec.{NodeSpec}
use Rattle.fr_coverage.specs.Links.{is_regular, shares}
use Rattle.fr_runs.specs.Links.{IsCarried}
use Rattle.fr_runs.proofs.Nodes.{correct_node}
use Rattle.fr_runs.specs.SteadyRuns.{IsWhole, MayHaveArbitrary}
use Rattle.fr_traffic.specs.Traffic.{all_linked, arbitrary_count, bears_on, rate_on, traffic_of}
use Rattle.fr_runs.proofs.KeyedCounts.{all_pass}
use Rattle.fr_traffic.proofs.HeardEvents.{regular_of}
use Rattle.fr_sharp.specs.JoinedLossStatement.{comes_in_both}
use Rattle.fr_traffic.proofs.HeardSurely.{share_of}

-- where all is heard one channel carries the frames of both cycles of any two nodes, and no sync node is arbitrary
module _ (x : Setting) (double : ℕ) where
  carried_on : (sender receiver : NodeSpec) (channel : Channel) → rate_on true (traffic_of x) sender receiver double channel ≡ true → IsCarried x sender receiver double
  carried_on sender receiver channel is =
      let even = is_regular (x.event (2 * double) sender.id receiver.id channel) in
      let odd = is_regular (x.event (2 * double + 1) sender.id receiver.id channel) in
      let both = and_parts (shares sender receiver channel && even) odd is in
      let two = and_parts (shares sender receiver channel) even both.0 in
      let number : suc (2 * double) ≡ 2 * double + 1 = omega arith in
      record {
        channel = channel;
        share = share_of sender receiver channel two.0;
        even = regular_of (x.event (2 * double) sender.id receiver.id channel) two.1;
        odd = ap (λ (c : ℕ). x.event c sender.id receiver.id channel) number ∙ regular_of (x.event (2 * double + 1) sender.id receiver.id channel) both.1;
      }

  pub carried_in_both : (sender receiver : NodeSpec) → comes_in_both (traffic_of x) sender receiver double ≡ true → IsCarried x sender receiver double
  carried_in_both sender receiver comes =
      elim (or_cases (rate_on true (traffic_of x) sender receiver double A) (rate_on true (traffic_of x) sender receiver double B) comes) [
        | inl a ↦ carried_on sender receiver A a
        | inr b ↦ carried_on sender receiver B b
      ]

  pub all_carried : all_linked (traffic_of x) double ≡ true → IsWhole x double
  all_carried all sender receiver slot link =
      let t = traffic_of x in
      let from = correct_node x sender link.sends in
      let to = correct_node x receiver link.hears in
      let of_sender = all_pass (λ (a : NodeSpec). list_all (λ (b : NodeSpec). not (bears_on t a b) || comes_in_both t a b double) t.nodes) t.nodes sender all from.there in
      let either = all_pass (λ (b : NodeSpec). not (bears_on t sender b) || comes_in_both t sender b double) t.nodes receiver of_sender to.there in
      let linked : bears_on t sender receiver ≡ true = rw (link.key, from.correct, to.correct, ne_eqb sender.id receiver.id link.other) refl in
      carried_in_both sender receiver (right (bears_on t sender receiver) (comes_in_both t sender receiver double) linked either)
    where
      right : (a b : Bool) → a ≡ true → (not a || b) ≡ true → b ≡ true
      right true b is either = either
      right false b is either = absurd (cc)

  -- no sync node is arbitrary where none is counted
  pub none_arbitrary : nat_eq (arbitrary_count (traffic_of x)) 0 ≡ true → MayHaveArbitrary false x
  none_arbitrary is = zero_of (arbitrary_count (traffic_of x)) is
    where
      zero_of : (n : ℕ) → nat_eq n 0 ≡ true → n ≡ 0
      zero_of n is = grind (arith, nat_tests)
