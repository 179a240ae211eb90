-- The uneven runs meet what the laws of runs ask, wherever their nodes begin.
use Rattle.std.proofs.Common.{◌≡◌, ◌≢◌, ◌≤◌, ◌*◌, ℕ, suc, Bool, true, false, ℤ, pos, None, Some, [], ◌∷◌, All, refl, sym, ◌∙◌, subst, inl, inr, lit≤, lit<, arith}
use Rattle.std.specs.Prelude.{◌<◌, ◌≤ℤ◌, ◌-ℤ◌, AllPairs, Contains}
use Rattle.std.proofs.lemmas.List.Elements.{All-cons, All-nil}
use Rattle.std.proofs.lemmas.List.Kept.{AllPairs-cons}
use Rattle.fr_base.specs.Within.{IsWithin}
use Rattle.fr_base.specs.Event.Event.{Regular}
use Rattle.fr_base.specs.declared.channel.Channel.{Channel}
use Rattle.fr_base.specs.declared.channel.Channel.TheVariants.{A, B}
use Rattle.fr_cluster.specs.Ranges.{InRange}
use Rattle.fr_cluster.specs.Sane.{IsSane, IsSaneNode, IsSaneSlot}
use Rattle.fr_cluster.proofs.KeyNodes.{Contains-cons_cases}
use Rattle.fr_cluster.specs.Setting.{IsSetting, SaysBytes, correct_nodes}
use Rattle.fr_cluster.specs.Values.{figure}
use Rattle.fr_cluster.specs.declared.join.Join.{Join}
use Rattle.fr_cluster.specs.declared.names.ParamName.{ParamName}
use Rattle.fr_cluster.specs.declared.names.ParamName.TheVariants as name
use Rattle.fr_cluster.specs.declared.nodes.NodeSpec.{NodeSpec}
use Rattle.fr_cluster.specs.declared.nodes.SlotSpec.{SlotSpec}
use Rattle.fr_bound.specs.Bounds.{longest_micro, shortest_micro}
use Rattle.fr_bound.specs.Checks.{holds_of, AllChecksHold, AllJoinChecksHold}
use Rattle.fr_precision.specs.Reception.{IsDelay}
use Rattle.fr_history.specs.Standing.{has_row}
use Rattle.fr_cluster.proofs.Elements.{Contains-here, Contains-none, Contains-there, filtered}
use Rattle.fr_runs.specs.Links.{IsCarried}
use Rattle.fr_runs.specs.References.{AreReferenced, IsReference}
use Rattle.fr_runs.specs.Supplied.{IsCoveredByFiles}
use Rattle.fr_runs.specs.Stated.{IsCoveredRun}
use Rattle.fr_worked.specs.Uneven.{far_run, micro_in, node_on_both, on_b, small_cluster, uneven_event, uneven_from, uneven_run}
use Rattle.fr_precision.proofs.Worked.{none}
use Rattle.fr_promise.proofs.CheckNumbers.{one_to_five, six_to_nine}

-- ---- its parameters are those of a cluster

in_range : (n : ParamName) → InRange n (figure small_cluster n)
in_range name.gMacroPerCycle = (record { le = tt }, record { le = tt })
in_range other = (record { le = tt }, record { le = tt })

-- any two of five numbers that ascend from 1
keys_differ : AllPairs (λ (a b : ℕ). a ≢ b) (1 ∷ 2 ∷ 3 ∷ 4 ∷ 5 ∷ [])
keys_differ =
    let Not : ℕ → ℕ → Type 0 = λ a b. a ≢ b in
    AllPairs-cons Not 1 (2 ∷ 3 ∷ 4 ∷ 5 ∷ [])
    (All-cons (Not 1) 2 (3 ∷ 4 ∷ 5 ∷ []) (λ same. omega arith) (All-cons (Not 1) 3 (4 ∷ 5 ∷ []) (λ same. omega arith) (All-cons (Not 1) 4 (5 ∷ []) (λ same. omega arith) (All-cons (Not 1) 5 [] (λ same. omega arith) (All-nil (Not 1))))))
    (AllPairs-cons Not 2 (3 ∷ 4 ∷ 5 ∷ [])
    (All-cons (Not 2) 3 (4 ∷ 5 ∷ []) (λ same. omega arith) (All-cons (Not 2) 4 (5 ∷ []) (λ same. omega arith) (All-cons (Not 2) 5 [] (λ same. omega arith) (All-nil (Not 2)))))
    (AllPairs-cons Not 3 (4 ∷ 5 ∷ []) (All-cons (Not 3) 4 (5 ∷ []) (λ same. omega arith) (All-cons (Not 3) 5 [] (λ same. omega arith) (All-nil (Not 3))))
    (AllPairs-cons Not 4 (5 ∷ []) (All-cons (Not 4) 5 [] (λ same. omega arith) (All-nil (Not 4))) (AllPairs-cons Not 5 [] (All-nil (Not 5)) (none Not)))))

-- what holds of each node of the cluster
all_nodes : (P : NodeSpec → Type 0) → P (node_on_both 1) → P (node_on_both 2) → P (node_on_both 3) → P (node_on_both 4) → P (node_on_both 5) → P (on_b 6) → All P small_cluster.nodes
all_nodes P one two three four five six =
    All-cons P (node_on_both 1) (node_on_both 2 ∷ node_on_both 3 ∷ node_on_both 4 ∷ node_on_both 5 ∷ on_b 6 ∷ []) one
    (All-cons P (node_on_both 2) (node_on_both 3 ∷ node_on_both 4 ∷ node_on_both 5 ∷ on_b 6 ∷ []) two
    (All-cons P (node_on_both 3) (node_on_both 4 ∷ node_on_both 5 ∷ on_b 6 ∷ []) three
    (All-cons P (node_on_both 4) (node_on_both 5 ∷ on_b 6 ∷ []) four (All-cons P (node_on_both 5) (on_b 6 ∷ []) five (All-cons P (on_b 6) [] six (All-nil P))))))

nodes_ascend : AllPairs (λ (a b : NodeSpec). a.id < b.id) small_cluster.nodes
nodes_ascend =
    let Below : NodeSpec → NodeSpec → Type 0 = λ a b. a.id < b.id in
    AllPairs-cons Below (node_on_both 1) (node_on_both 2 ∷ node_on_both 3 ∷ node_on_both 4 ∷ node_on_both 5 ∷ on_b 6 ∷ [])
    (All-cons (Below (node_on_both 1)) (node_on_both 2) (node_on_both 3 ∷ node_on_both 4 ∷ node_on_both 5 ∷ on_b 6 ∷ []) (lit< tt) (All-cons (Below (node_on_both 1)) (node_on_both 3) (node_on_both 4 ∷ node_on_both 5 ∷ on_b 6 ∷ []) (lit< tt)
    (All-cons (Below (node_on_both 1)) (node_on_both 4) (node_on_both 5 ∷ on_b 6 ∷ []) (lit< tt) (All-cons (Below (node_on_both 1)) (node_on_both 5) (on_b 6 ∷ []) (lit< tt) (All-cons (Below (node_on_both 1)) (on_b 6) [] (lit< tt) (All-nil (Below (node_on_both 1))))))))
    (AllPairs-cons Below (node_on_both 2) (node_on_both 3 ∷ node_on_both 4 ∷ node_on_both 5 ∷ on_b 6 ∷ [])
    (All-cons (Below (node_on_both 2)) (node_on_both 3) (node_on_both 4 ∷ node_on_both 5 ∷ on_b 6 ∷ []) (lit< tt) (All-cons (Below (node_on_both 2)) (node_on_both 4) (node_on_both 5 ∷ on_b 6 ∷ []) (lit< tt)
    (All-cons (Below (node_on_both 2)) (node_on_both 5) (on_b 6 ∷ []) (lit< tt) (All-cons (Below (node_on_both 2)) (on_b 6) [] (lit< tt) (All-nil (Below (node_on_both 2)))))))
    (AllPairs-cons Below (node_on_both 3) (node_on_both 4 ∷ node_on_both 5 ∷ on_b 6 ∷ [])
    (All-cons (Below (node_on_both 3)) (node_on_both 4) (node_on_both 5 ∷ on_b 6 ∷ []) (lit< tt) (All-cons (Below (node_on_both 3)) (node_on_both 5) (on_b 6 ∷ []) (lit< tt)
    (All-cons (Below (node_on_both 3)) (on_b 6) [] (lit< tt) (All-nil (Below (node_on_both 3))))))
    (AllPairs-cons Below (node_on_both 4) (node_on_both 5 ∷ on_b 6 ∷ [])
    (All-cons (Below (node_on_both 4)) (node_on_both 5) (on_b 6 ∷ []) (lit< tt) (All-cons (Below (node_on_both 4)) (on_b 6) [] (lit< tt) (All-nil (Below (node_on_both 4)))))
    (AllPairs-cons Below (node_on_both 5) (on_b 6 ∷ []) (All-cons (Below (node_on_both 5)) (on_b 6) [] (lit< tt) (All-nil (Below (node_on_both 5))))
    (AllPairs-cons Below (on_b 6) [] (All-nil (Below (on_b 6))) (none Below))))))

sane_node : (id : ℕ) → 1 ≤ id → id ≤ 64 → IsSaneNode (node_on_both id)
sane_node id from to = record { proper = record { from = from; to = to; key = (from, omega arith) }; starts = refl }

sane_listener : IsSaneNode (on_b 6)
sane_listener = record { proper = record { from = lit≤ tt; to = lit≤ tt; key = tt }; starts = refl }

five_keys : (P : ℕ → Type 0) → P 1 → P 2 → P 3 → P 4 → P 5 → All P (1 ∷ 2 ∷ 3 ∷ 4 ∷ 5 ∷ [])
five_keys P one two three four five =
    All-cons P 1 (2 ∷ 3 ∷ 4 ∷ 5 ∷ []) one (All-cons P 2 (3 ∷ 4 ∷ 5 ∷ []) two (All-cons P 3 (4 ∷ 5 ∷ []) three (All-cons P 4 (5 ∷ []) four (All-cons P 5 [] five (All-nil P)))))

pub is_sane : IsSane small_cluster
is_sane = record {
  ranges = in_range;
  constraints = record {
    whole_cycle = refl;
    acts_in_slot = lit< tt;
    corrects_after = (lit< tt, lit< tt);
    leaves_microticks = lit≤ tt;
    passive_first = lit≤ tt;
    sync_nodes = (lit≤ tt, lit≤ tt);
    own_slots = (five_keys (λ key. key ≤ 6) (lit≤ tt) (lit≤ tt) (lit≤ tt) (lit≤ tt) (lit≤ tt), keys_differ);
    free_slots = All-nil (λ (slot : SlotSpec). (slot.slot ≤ 6) × (Contains (1 ∷ 2 ∷ 3 ∷ 4 ∷ 5 ∷ []) slot.slot → ⊥));
  };
  lists = record {
    nodes_sane =
        all_nodes IsSaneNode (sane_node 1 (lit≤ tt) (lit≤ tt)) (sane_node 2 (lit≤ tt) (lit≤ tt)) (sane_node 3 (lit≤ tt) (lit≤ tt)) (sane_node 4 (lit≤ tt) (lit≤ tt))
        (sane_node 5 (lit≤ tt) (lit≤ tt)) sane_listener;
    slots_sane = All-nil (IsSaneSlot small_cluster.nodes);
    nodes_ascend = nodes_ascend;
    slots_ascend = none (λ (a b : SlotSpec). a.slot < b.slot);
    few_nodes = lit≤ tt;
    few_slots = lit≤ tt;
  };
}

pub three_bytes : All (λ (byte : ℕ). byte < 256) (1 ∷ 2 ∷ 3 ∷ [])
three_bytes =
    let Byte : ℕ → Type 0 = λ byte. byte < 256 in
    All-cons Byte 1 (2 ∷ 3 ∷ []) (lit< tt) (All-cons Byte 2 (3 ∷ []) (lit< tt) (All-cons Byte 3 [] (lit< tt) (All-nil Byte)))

says_bytes : (said first second lost bad : Bool) → SaysBytes (uneven_event said first second lost bad)
says_bytes true true second lost bad = tt
says_bytes true false true lost bad = tt
says_bytes true false false lost bad = three_bytes
says_bytes false first second true bad = tt
says_bytes false first second false true = tt
says_bytes false first second false false = tt

is_setting : (start : ℕ → ℤ) (doubles : ℕ) → IsSetting (uneven_from start doubles)
is_setting start doubles = record { sane = is_sane; bytes = λ cycle sender receiver channel. says_bytes _ _ _ _ _ }

-- ---- its nodes

-- what holds of each correct node
each_node : (P : NodeSpec → Type 0) → P (node_on_both 1) → P (node_on_both 2) → P (node_on_both 3) → P (node_on_both 5) → P (on_b 6) → (node : NodeSpec) → Contains (correct_nodes uneven_run) node → P node
each_node P one two three five six node among = elim (Contains-cons_cases (node_on_both 1) (node_on_both 2 ∷ node_on_both 3 ∷ node_on_both 5 ∷ on_b 6 ∷ []) node among) [
  | inl is ↦ subst P is one
  | inr others ↦ elim (Contains-cons_cases (node_on_both 2) (node_on_both 3 ∷ node_on_both 5 ∷ on_b 6 ∷ []) node others) [
    | inl is ↦ subst P is two
    | inr rest ↦ elim (Contains-cons_cases (node_on_both 3) (node_on_both 5 ∷ on_b 6 ∷ []) node rest) [
      | inl is ↦ subst P is three
      | inr joining ↦ elim (Contains-cons_cases (node_on_both 5) (on_b 6 ∷ []) node joining) [
        | inl is ↦ subst P is five
        | inr last ↦ elim (Contains-cons_cases (on_b 6) [] node last) [ inl is ↦ subst P is six | inr nobody ↦ absurd (Contains-none node nobody) ]
      ]
    ]
  ]
]

-- ---- microticks

Proper : ℤ → Type 0
Proper micro = (pos (shortest_micro small_cluster) ≤ℤ micro) × (micro ≤ℤ pos (longest_micro small_cluster))

micro_proper : (first second third odd : Bool) → Proper (micro_in first second third odd)
unfolding Proper
micro_proper true second third odd = (record { le = tt }, record { le = tt })
micro_proper false true third odd = (record { le = tt }, record { le = tt })
micro_proper false false true true = (record { le = tt }, record { le = tt })
micro_proper false false true false = (record { le = tt }, record { le = tt })
micro_proper false false false odd = (record { le = tt }, record { le = tt })

micro_steady : (first second third odd next : Bool) → IsWithin (pos 10) (micro_in first second third next -ℤ micro_in first second third odd)
micro_steady true second third odd next = record { low = record { le = tt }; high = record { le = tt } }
micro_steady false true third odd next = record { low = record { le = tt }; high = record { le = tt } }
micro_steady false false true true true = record { low = record { le = tt }; high = record { le = tt } }
micro_steady false false true true false = record { low = record { le = tt }; high = record { le = tt } }
micro_steady false false true false true = record { low = record { le = tt }; high = record { le = tt } }
micro_steady false false true false false = record { low = record { le = tt }; high = record { le = tt } }
micro_steady false false false odd next = record { low = record { le = tt }; high = record { le = tt } }

-- ---- references and delays

HasReference : (start : ℕ → ℤ) (doubles : ℕ) → NodeSpec → Type 0
HasReference start doubles node = (join : Join) → uneven_run.join node.id ≡ Some join → IsReference (uneven_from start doubles) node join

never_joins : (start : ℕ → ℤ) (doubles : ℕ) (node : NodeSpec) → uneven_run.join node.id ≡ None → HasReference start doubles node
unfolding HasReference
never_joins start doubles node none join is = absurd (let e : None ≡ Some join = sym none ∙ is in cc)

joins_1 : (start : ℕ → ℤ) (doubles : ℕ) → HasReference start doubles (node_on_both 5)
unfolding HasReference
joins_1 start doubles join is =
    let it : Join = record { double = 0; reference = 1 } in
    let same : it ≡ join = cc in
    let own : IsReference (uneven_from start doubles) (node_on_both 5) it = record {
      reference = node_on_both 1;
      slot = 1;
      correct = Contains-here (node_on_both 1) (node_on_both 2 ∷ node_on_both 3 ∷ node_on_both 5 ∷ on_b 6 ∷ []);
      named = refl;
      key = refl;
      stays = refl;
      other = λ same. omega (arith, same);
    } in
    subst (IsReference (uneven_from start doubles) (node_on_both 5)) same own

joins_2 : (start : ℕ → ℤ) (doubles : ℕ) → HasReference start doubles (on_b 6)
unfolding HasReference
joins_2 start doubles join is =
    let it : Join = record { double = 1; reference = 2 } in
    let same : it ≡ join = cc in
    let own : IsReference (uneven_from start doubles) (on_b 6) it = record {
      reference = node_on_both 2;
      slot = 2;
      correct = Contains-there (node_on_both 1) (node_on_both 2 ∷ node_on_both 3 ∷ node_on_both 5 ∷ on_b 6 ∷ []) (node_on_both 2) (Contains-here (node_on_both 2) (node_on_both 3 ∷ node_on_both 5 ∷ on_b 6 ∷ []));
      named = refl;
      key = refl;
      stays = refl;
      other = λ same. omega (arith, same);
    } in
    subst (IsReference (uneven_from start doubles) (on_b 6)) same own

DelaysOf : NodeSpec → Type 0
DelaysOf sender = (receiver cycle : ℕ) (channel : Channel) → IsDelay small_cluster channel (uneven_run.delay sender.id receiver channel cycle)

delays_of : (sender : NodeSpec) → Contains (correct_nodes uneven_run) sender → DelaysOf sender
unfolding DelaysOf
delays_of = each_node DelaysOf others early others others others
  where
    others : (receiver cycle : ℕ) (channel : Channel) → IsDelay small_cluster channel (uneven_run.delay 1 receiver channel cycle)
    others receiver cycle A = record { low = record { le = tt }; high = record { le = tt } }
    others receiver cycle B = record { low = record { le = tt }; high = record { le = tt } }

    early : (receiver cycle : ℕ) (channel : Channel) → IsDelay small_cluster channel (uneven_run.delay 2 receiver channel cycle)
    early receiver cycle A = record { low = record { le = tt }; high = record { le = tt } }
    early receiver cycle B = record { low = record { le = tt }; high = record { le = tt } }

are_referenced : (start : ℕ → ℤ) (doubles : ℕ) → AreReferenced (uneven_from start doubles)
unfolding HasReference DelaysOf
are_referenced start doubles = record {
  references =
      λ node join among is.
      each_node (HasReference start doubles) (never_joins start doubles (node_on_both 1) refl) (never_joins start doubles (node_on_both 2) refl) (never_joins start doubles (node_on_both 3) refl)
      (joins_1 start doubles) (joins_2 start doubles) node among join is;
  delays = λ sender receiver slot channel cycle sends hears key other by_sender by_receiver less. delays_of sender sends receiver.id cycle channel;
}

-- ---- each link carries all frames on channel B

OnB : NodeSpec → Type 0
OnB node = node.on_b ≡ true

on_channel : (node : NodeSpec) → Contains (correct_nodes uneven_run) node → node.on_b ≡ true
unfolding OnB
on_channel node among = each_node OnB refl refl refl refl refl node among

SaysNothing : NodeSpec → Type 0
SaysNothing node = uneven_run.is_arbitrary node.id ≡ false

regular_on_b : (cycle sender receiver : ℕ) → uneven_run.is_arbitrary sender ≡ false → uneven_run.event cycle sender receiver B ≡ Regular
regular_on_b cycle sender receiver correct = rw correct refl

correct_sender : (node : NodeSpec) → Contains (correct_nodes uneven_run) node → uneven_run.is_arbitrary node.id ≡ false
unfolding SaysNothing
correct_sender node among = each_node SaysNothing refl refl refl refl refl node among

is_carried : (start : ℕ → ℤ) (doubles : ℕ) (sender receiver : NodeSpec) (double : ℕ) → Contains (correct_nodes uneven_run) sender → Contains (correct_nodes uneven_run) receiver
    → IsCarried (uneven_from start doubles) sender receiver double
is_carried start doubles sender receiver double sends hears = record {
  channel = B;
  share = record { by_sender = on_channel sender sends; by_receiver = on_channel receiver hears };
  even = regular_on_b (2 * double) sender.id receiver.id (correct_sender sender sends);
  odd = regular_on_b (suc (2 * double)) sender.id receiver.id (correct_sender sender sends);
}

-- ---- its checks hold

checks_hold : AllChecksHold small_cluster
checks_hold = one_to_five (λ k. holds_of k small_cluster) refl refl refl refl refl

join_checks_hold : AllJoinChecksHold small_cluster
join_checks_hold = six_to_nine (λ k. holds_of k small_cluster) refl refl refl refl

-- ---- so it is stated

is_covered : (start : ℕ → ℤ) (doubles : ℕ) → IsCoveredByFiles (uneven_from start doubles)
unfolding Proper
is_covered start doubles = record {
  sane = is_sane;
  checks = checks_hold;
  join_checks = λ joins. join_checks_hold;
  few = inr (inl (refl, lit≤ tt));
  least = λ node cycle among less. (micro_proper _ _ _ _).0;
  most = λ node cycle among less. (micro_proper _ _ _ _).1;
  changes = λ node cycle among less. micro_steady _ _ _ _ _;
  referenced = are_referenced start doubles;
  links = λ sender receiver slot double link less. is_carried start doubles sender receiver double link.sends link.hears;
}

RateLimit : NodeSpec → Type 0
RateLimit node = IsWithin small_cluster.rate_limit (uneven_run.rate node.id)

rate_begins : (node : NodeSpec) → Contains (correct_nodes uneven_run) node → IsWithin small_cluster.rate_limit (uneven_run.rate node.id)
unfolding RateLimit
rate_begins =
    each_node RateLimit (record { low = record { le = tt }; high = record { le = tt } }) (record { low = record { le = tt }; high = record { le = tt } })
    (record { low = record { le = tt }; high = record { le = tt } }) (record { low = record { le = tt }; high = record { le = tt } }) (record { low = record { le = tt }; high = record { le = tt } })

stated_from : (start : ℕ → ℤ) (doubles : ℕ) → ((node : NodeSpec) → Contains (correct_nodes uneven_run) node → pos 0 ≤ℤ start node.id) → IsCoveredRun (uneven_from start doubles)
stated_from start doubles natural = record {
  setting = is_setting start doubles;
  covered = is_covered start doubles;
  rates = λ node among. rate_begins node (filtered (λ (n : NodeSpec). has_row (uneven_from start doubles) [] n.id) (correct_nodes uneven_run) node among).0;
  starts = λ joins node among. natural node among;
}

-- ---- both runs

StartsOf : (ℕ → ℤ) → NodeSpec → Type 0
StartsOf start node = pos 0 ≤ℤ start node.id

pub is_stated : IsCoveredRun uneven_run
unfolding StartsOf
is_stated =
    stated_from uneven_run.start 5
    (each_node (StartsOf uneven_run.start) (record { le = tt }) (record { le = tt }) (record { le = tt }) (record { le = tt }) (record { le = tt }))

pub far_is_stated : IsCoveredRun far_run
unfolding StartsOf
far_is_stated =
    stated_from far_run.start 3
    (each_node (StartsOf far_run.start) (record { le = tt }) (record { le = tt }) (record { le = tt }) (record { le = tt }) (record { le = tt }))
