-- The worked run that a node joins is covered: its links carry all frames, and the node that joins has a reference.
use Rattle.std.proofs.Common.{◌≡◌, ℕ, pos, true, None, Some, [], ◌∷◌, refl, sym, ◌∙◌, subst, inl, lit≤, arith}
use Rattle.std.specs.Prelude.{◌<◌, Contains}
use Rattle.fr_base.specs.declared.channel.Channel.{Channel}
use Rattle.fr_base.specs.declared.channel.Channel.TheVariants.{A, B}
use Rattle.fr_cluster.specs.declared.nodes.NodeSpec.{NodeSpec}
use Rattle.fr_bound.specs.Checks.{holds_of, AllChecksHold, AllJoinChecksHold}
use Rattle.fr_precision.specs.Reception.{IsDelay}
use Rattle.fr_cluster.specs.declared.join.Join.{Join}
use Rattle.fr_history.specs.Worked.{joined_run, on_a, roomy_cluster}
use Rattle.fr_cluster.proofs.Elements.{Contains-here}
use Rattle.fr_runs.specs.Links.{IsCarried, IsLinked}
use Rattle.fr_runs.specs.References.{AreReferenced, IsReference}
use Rattle.fr_runs.specs.Supplied.{IsCovered, IsCoveredByFiles}
use Rattle.fr_runs.proofs.Covers.{coverage_suffices}
use Rattle.fr_worked.proofs.Begun.{each_node, is_sane}
use Rattle.fr_promise.proofs.CheckNumbers.{one_to_five, six_to_nine}

-- ---- the reference of node 3 is node 1

abbrev joining : Join
joining = record { double = 1; reference = 1 }

reference_of_3 : IsReference joined_run (on_a 3) joining
reference_of_3 = record {
  reference = on_a 1;
  slot = 1;
  correct = Contains-here (on_a 1) (on_a 2 ∷ on_a 3 ∷ []);
  named = refl;
  key = refl;
  stays = refl;
  other = λ same. omega (arith, same);
}

HasReference : NodeSpec → Type 0
HasReference node = (join : Join) → joined_run.join node.id ≡ Some join → IsReference joined_run node join

never_joins : (node : NodeSpec) → joined_run.join node.id ≡ None → HasReference node
unfolding HasReference
never_joins node none join is = absurd (let e : None ≡ Some join = sym none ∙ is in cc)

joins : HasReference (on_a 3)
unfolding HasReference
joins join is =
    let same : joining ≡ join = cc in
    subst (IsReference joined_run (on_a 3)) same reference_of_3

pub no_delay : (channel : Channel) → IsDelay roomy_cluster channel (pos 0)
no_delay A = record { low = record { le = tt }; high = record { le = tt } }
no_delay B = record { low = record { le = tt }; high = record { le = tt } }

are_referenced : AreReferenced joined_run
unfolding HasReference
are_referenced = record {
  references = λ node join among is. each_node HasReference (never_joins (on_a 1) refl) (never_joins (on_a 2) refl) joins node among join is;
  delays = λ sender receiver slot channel cycle sends hears key other by_sender by_receiver less. no_delay channel;
}

-- ---- each link carries all frames on channel A

OnA : NodeSpec → Type 0
OnA node = node.on_a ≡ true

pub on_channel : (node : NodeSpec) → Contains roomy_cluster.nodes node → node.on_a ≡ true
unfolding OnA
on_channel node among = each_node OnA refl refl refl node among

is_carried : (sender receiver : NodeSpec) (slot double : ℕ) → IsLinked joined_run sender receiver slot → double < joined_run.doubles → IsCarried joined_run sender receiver double
is_carried sender receiver slot double link less = record {
  channel = A;
  share = record { by_sender = on_channel sender link.sends; by_receiver = on_channel receiver link.hears };
  even = refl;
  odd = refl;
}

-- ---- its checks hold

pub checks_hold : AllChecksHold roomy_cluster
checks_hold = one_to_five (λ k. holds_of k roomy_cluster) refl refl refl refl refl

pub join_checks_hold : AllJoinChecksHold roomy_cluster
join_checks_hold = six_to_nine (λ k. holds_of k roomy_cluster) refl refl refl refl

-- ---- so it is covered

pub is_covered : IsCoveredByFiles joined_run
is_covered = record {
  sane = is_sane;
  checks = checks_hold;
  join_checks = λ joins. join_checks_hold;
  few = inl (refl, lit≤ tt);
  least = λ node cycle among less. record { le = tt };
  most = λ node cycle among less. record { le = tt };
  changes = λ node cycle among less. record { low = record { le = tt }; high = record { le = tt } };
  referenced = are_referenced;
  links = is_carried;
}

pub is_join_covered : IsCovered joined_run
is_join_covered = coverage_suffices joined_run is_covered
