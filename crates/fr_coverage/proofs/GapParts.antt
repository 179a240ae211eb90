-- The gaps of each kind, and all of them.
use Rattle.std.proofs.Common.{◌≡◌, ℕ, zero, suc, subst, ◌*◌, ◌-◌, ◌<◌, ◌≤◌, true, false, List, [], ◌∷◌, Option, Some, None, ap, sym, refl, arith, ◌⊎◌, inl, inr}
use Rattle.std.specs.Prelude.{pos, ◌-ℤ◌, AllPairs, Contains}
use Rattle.std.specs.Option.{option_or}
use Rattle.fr_base.specs.Rows.{channel_rank}
use Rattle.fr_base.specs.declared.channel.Channel.{Channel}
use Rattle.fr_base.specs.declared.channel.Channel.TheVariants as channel
use Rattle.fr_cluster.specs.Values.{Values}
use Rattle.fr_cluster.specs.Sane.{IsSane}
use Rattle.fr_cluster.specs.declared.nodes.NodeSpec.{NodeSpec}
use Rattle.fr_bound.specs.Checks.{left_of, right_of, holds_of}
use Rattle.fr_bound.specs.Outweighing.{outweighs}
use Rattle.fr_drift.specs.View.{DriftView}
use Rattle.fr_drift.specs.Questions.{doubles_of, length_of, delay_of}
use Rattle.fr_script.specs.View.{ScriptView, is_arbitrary}
use Rattle.fr_coverage.specs.First.{first_below, first_in}
use Rattle.fr_coverage.specs.Links.{is_link, shares, is_carried, link_gap}
use Rattle.fr_coverage.specs.Coverage.{asked_checks, how_many_cycles, check_gap, count_of, count_gap, is_off, length_gap, lengths_gap, has_jumped, change_gap, changes_gap, is_wrong, delay_gap, channel_gap, delays_gap, links_gap, first_of_nodes, first_of_pairs, gap_from, gap_of_run, first_gap}
use Rattle.fr_coverage.specs.Kinds.{gaps_by_kind, AreFirstGaps, IsFirstOf}
use Rattle.fr_coverage.specs.Order.{place_of_gap, HasNoGapFrom, IsBehind, IsEarlierGap, FindsGapFrom, IsFailingCheck, IsRunCheckGap, IsCountGap, IsLengthGap, IsChangeGap, IsDelayGap, IsLinkGap, IsGap, IsGapOfRun, IsFirstGap, FindsGapOfRun}
use Rattle.fr_coverage.specs.declared.gap.Gap.{Gap}
use Rattle.fr_coverage.specs.declared.gap.Gap.TheVariants as gap
use Rattle.fr_coverage.proofs.Least.{IsLeast, AreApart, Below, Between, Among, least-same, least-or, least-if, least-unless, least-where, least-where-not, least-below, least-between, least-in, in-order, later, under, at-places}

-- 1
abbrev AtCheck : Values → ℕ → Gap → Type 0
AtCheck p k g = (holds_of (suc k) p ≡ false) × (g ≡ gap.Check (suc k) (pos (left_of (suc k) p)) (pos (right_of (suc k) p)))

checks-apart : (p : Values) (j k : ℕ) → j < k → AreApart (AtCheck p j) (AtCheck p k)
checks-apart p j k lt g h w x before =
    at-places g h (1 ∷ suc j ∷ []) (1 ∷ suc k ∷ []) (ap place_of_gap w.1) (ap place_of_gap x.1)
    (under 1 (suc k ∷ []) (suc j ∷ []) (later (suc j) (suc k) [] [] (omega arith))) before

check-back : (p : Values) (g : Gap) (asked number : ℕ) → 1 ≤ number → number ≤ asked → holds_of number p ≡ false → g ≡ gap.Check number (pos (left_of number p)) (pos (right_of number p))
    → Below (AtCheck p) asked g
check-back p g asked zero from to fails told = absurd (omega arith)
check-back p g asked (suc k) from to fails told = (k, omega arith, (fails, told))

checks-least : (p : Values) (asked : ℕ) → IsLeast (IsFailingCheck asked p) (first_below (check_gap p) asked)
checks-least p asked =
    least-same (Below (AtCheck p) asked) (IsFailingCheck asked p) (first_below (check_gap p) asked)
    (least-below (AtCheck p) (check_gap p) asked (λ k. least-unless (holds_of (suc k) p) (gap.Check (suc k) (pos (left_of (suc k) p)) (pos (right_of (suc k) p)))) (checks-apart p))
    (λ g w. record { number = suc w.0; from = omega arith; to = (let lt = w.1 in omega arith); fails = w.2.0; told = w.2.1 })
    (λ g r. check-back p g asked r.number r.from r.to r.fails r.told)

-- gaps of a kind from a double cycle on
abbrev Behind : ℕ → (Gap → Type 0) → Gap → Type 0
Behind from G g = G g × IsBehind from g

-- 2
count-least : (p : Values) (s : ScriptView) → IsLeast (IsCountGap p s) (count_gap p s)
count-least p s =
    least-same _ (IsCountGap p s) (count_gap p s)
    (least-unless (outweighs (count_of s false p.nodes) (count_of s true p.nodes)) (gap.Count (count_of s false p.nodes) (count_of s true p.nodes)))
    (λ g w. record { few = w.0; told = w.1 }) (λ g r. (r.few, r.told))

-- 3
abbrev AtLength : Values → DriftView → ℕ → ℕ → Gap → Type 0
AtLength p d node cycle g = (is_off p (length_of d node cycle) ≡ true) × (g ≡ gap.Length node cycle (length_of d node cycle))

abbrev OfLengths : Values → DriftView → ScriptView → ℕ → NodeSpec → Gap → Type 0
OfLengths p d s from node g = (is_arbitrary s node.id ≡ false) × Between (AtLength p d node.id) (2 * from) (how_many_cycles d) g

lengths-least : (p : Values) (d : DriftView) (s : ScriptView) (from : ℕ) → AllPairs (λ a b. a.id < b.id) p.nodes
    → IsLeast (Behind from (IsLengthGap p d s)) (first_of_nodes p (lengths_gap p d s from))
lengths-least p d s from ascend =
    least-same (Among (OfLengths p d s from) p.nodes) (Behind from (IsLengthGap p d s)) _
    (least-in (OfLengths p d s from) (lengths_gap p d s from) p.nodes (λ n. of n) (in-order (OfLengths p d s from) p.nodes ascend (λ a b lt g h w x before. apart a b lt g h w x before)))
    (λ g w. (
      record { node = w.0; there = w.1; correct = w.2.0; cycle = w.2.1.0; within = w.2.1.1; off = w.2.1.2.1.0; told = w.2.1.2.1.1 },
      subst (IsBehind from) (sym w.2.1.2.1.1) w.2.1.2.0,
    ))
    (λ g r. (r.0.node, r.0.there, (r.0.correct, (r.0.cycle, r.0.within, (subst (IsBehind from) r.0.told r.1, (r.0.off, r.0.told))))))
  where
    along : (n j k : ℕ) → j < k → AreApart (AtLength p d n j) (AtLength p d n k)
    along n j k lt g h w x before =
        at-places g h (3 ∷ n ∷ j ∷ []) (3 ∷ n ∷ k ∷ []) (ap place_of_gap w.1) (ap place_of_gap x.1)
        (under 3 (n ∷ k ∷ []) (n ∷ j ∷ []) (under n (k ∷ []) (j ∷ []) (later j k [] [] lt))) before

    of : (n : NodeSpec) → IsLeast (OfLengths p d s from n) (lengths_gap p d s from n)
    of n =
        least-where-not (Between (AtLength p d n.id) (2 * from) (how_many_cycles d)) (is_arbitrary s n.id) _
        (least-between (AtLength p d n.id) (length_gap p d n.id) (2 * from) (how_many_cycles d)
        (λ c. least-if (is_off p (length_of d n.id c)) (gap.Length n.id c (length_of d n.id c))) (along n.id))

    apart : (a b : NodeSpec) → a.id < b.id → AreApart (OfLengths p d s from a) (OfLengths p d s from b)
    apart a b lt g h w x before =
        at-places g h (3 ∷ a.id ∷ w.1.0 ∷ []) (3 ∷ b.id ∷ x.1.0 ∷ []) (ap place_of_gap w.1.2.1.1) (ap place_of_gap x.1.2.1.1)
        (under 3 (b.id ∷ x.1.0 ∷ []) (a.id ∷ w.1.0 ∷ []) (later a.id b.id (x.1.0 ∷ []) (w.1.0 ∷ []) lt)) before

-- 4
abbrev AtChange : Values → DriftView → ℕ → ℕ → Gap → Type 0
AtChange p d node cycle g =
    (has_jumped p (length_of d node (cycle - 1)) (length_of d node cycle) ≡ true) × (g ≡ gap.Change node cycle (length_of d node cycle -ℤ length_of d node (cycle - 1)))

abbrev OfChanges : Values → DriftView → ScriptView → ℕ → NodeSpec → Gap → Type 0
OfChanges p d s from node g = (is_arbitrary s node.id ≡ false) × Between (AtChange p d node.id) (suc (2 * from)) (how_many_cycles d) g

changes-least : (p : Values) (d : DriftView) (s : ScriptView) (from : ℕ) → AllPairs (λ a b. a.id < b.id) p.nodes
    → IsLeast (Behind from (IsChangeGap p d s)) (first_of_nodes p (changes_gap p d s from))
changes-least p d s from ascend =
    least-same (Among (OfChanges p d s from) p.nodes) (Behind from (IsChangeGap p d s)) _
    (least-in (OfChanges p d s from) (changes_gap p d s from) p.nodes (λ n. of n) (in-order (OfChanges p d s from) p.nodes ascend (λ a b lt g h w x before. apart a b lt g h w x before)))
    (λ g w. (
      record {
        node = w.0;
        there = w.1;
        correct = w.2.0;
        cycle = w.2.1.0;
        later = (let low = w.2.1.2.0 in omega arith);
        within = w.2.1.1;
        jumped = w.2.1.2.1.0;
        told = w.2.1.2.1.1;
      },
      subst (IsBehind from) (sym w.2.1.2.1.1) w.2.1.2.0,
    ))
    (λ g r. (r.0.node, r.0.there, (r.0.correct, (r.0.cycle, r.0.within, (subst (IsBehind from) r.0.told r.1, (r.0.jumped, r.0.told))))))
  where
    along : (n j k : ℕ) → j < k → AreApart (AtChange p d n j) (AtChange p d n k)
    along n j k lt g h w x before =
        at-places g h (4 ∷ n ∷ j ∷ []) (4 ∷ n ∷ k ∷ []) (ap place_of_gap w.1) (ap place_of_gap x.1)
        (under 4 (n ∷ k ∷ []) (n ∷ j ∷ []) (under n (k ∷ []) (j ∷ []) (later j k [] [] lt))) before

    of : (n : NodeSpec) → IsLeast (OfChanges p d s from n) (changes_gap p d s from n)
    of n =
        least-where-not (Between (AtChange p d n.id) (suc (2 * from)) (how_many_cycles d)) (is_arbitrary s n.id) _
        (least-between (AtChange p d n.id) (change_gap p d n.id) (suc (2 * from)) (how_many_cycles d)
        (λ c. least-if (has_jumped p (length_of d n.id (c - 1)) (length_of d n.id c)) (gap.Change n.id c (length_of d n.id c -ℤ length_of d n.id (c - 1)))) (along n.id))

    apart : (a b : NodeSpec) → a.id < b.id → AreApart (OfChanges p d s from a) (OfChanges p d s from b)
    apart a b lt g h w x before =
        at-places g h (4 ∷ a.id ∷ w.1.0 ∷ []) (4 ∷ b.id ∷ x.1.0 ∷ []) (ap place_of_gap w.1.2.1.1) (ap place_of_gap x.1.2.1.1)
        (under 4 (b.id ∷ x.1.0 ∷ []) (a.id ∷ w.1.0 ∷ []) (later a.id b.id (x.1.0 ∷ []) (w.1.0 ∷ []) lt)) before

-- 5
abbrev AtDelay : Values → DriftView → ℕ → ℕ → Channel → ℕ → Gap → Type 0
AtDelay p d i j ch cycle g = (is_wrong p ch (delay_of d i j ch cycle) ≡ true) × (g ≡ gap.Delay i j ch cycle (delay_of d i j ch cycle))

abbrev OnChannel : Values → DriftView → ℕ → NodeSpec → NodeSpec → Channel → Gap → Type 0
OnChannel p d from a b ch g = (shares a b ch ≡ true) × Between (AtDelay p d a.id b.id ch) (2 * from) (how_many_cycles d) g

abbrev OfDelays : Values → DriftView → ScriptView → ℕ → NodeSpec → NodeSpec → Gap → Type 0
OfDelays p d s from a b g = (is_link s a b ≡ true) × (OnChannel p d from a b channel.A g ⊎ OnChannel p d from a b channel.B g)

delays-along : (p : Values) (d : DriftView) (i j : ℕ) (ch : Channel) (m k : ℕ) → m < k → AreApart (AtDelay p d i j ch m) (AtDelay p d i j ch k)
delays-along p d i j ch m k lt g h w x before =
    at-places g h (5 ∷ i ∷ j ∷ channel_rank ch ∷ m ∷ []) (5 ∷ i ∷ j ∷ channel_rank ch ∷ k ∷ []) (ap place_of_gap w.1) (ap place_of_gap x.1)
    (under 5 (i ∷ j ∷ channel_rank ch ∷ k ∷ []) (i ∷ j ∷ channel_rank ch ∷ m ∷ [])
    (under i (j ∷ channel_rank ch ∷ k ∷ []) (j ∷ channel_rank ch ∷ m ∷ [])
    (under j (channel_rank ch ∷ k ∷ []) (channel_rank ch ∷ m ∷ []) (under (channel_rank ch) (k ∷ []) (m ∷ []) (later m k [] [] lt))))) before

channels-apart : (p : Values) (d : DriftView) (from : ℕ) (a b : NodeSpec) → AreApart (OnChannel p d from a b channel.A) (OnChannel p d from a b channel.B)
channels-apart p d from a b g h w x before =
    at-places g h (5 ∷ a.id ∷ b.id ∷ 0 ∷ w.1.0 ∷ []) (5 ∷ a.id ∷ b.id ∷ 1 ∷ x.1.0 ∷ []) (ap place_of_gap w.1.2.1.1) (ap place_of_gap x.1.2.1.1)
    (under 5 (a.id ∷ b.id ∷ 1 ∷ x.1.0 ∷ []) (a.id ∷ b.id ∷ 0 ∷ w.1.0 ∷ [])
    (under a.id (b.id ∷ 1 ∷ x.1.0 ∷ []) (b.id ∷ 0 ∷ w.1.0 ∷ [])
    (under b.id (1 ∷ x.1.0 ∷ []) (0 ∷ w.1.0 ∷ []) (later 0 1 (x.1.0 ∷ []) (w.1.0 ∷ []) (omega arith))))) before

-- where a delay gap of a pair stands
delay-rest : (p : Values) (d : DriftView) (s : ScriptView) (from : ℕ) (a b : NodeSpec) (g : Gap) → OfDelays p d s from a b g → (rest : List ℕ) × (place_of_gap g ≡ 5 ∷ a.id ∷ b.id ∷ rest)
delay-rest p d s from a b g w = by w.1
  where
    by : OnChannel p d from a b channel.A g ⊎ OnChannel p d from a b channel.B g → (rest : List ℕ) × (place_of_gap g ≡ 5 ∷ a.id ∷ b.id ∷ rest)
    by (inl x) = (0 ∷ x.1.0 ∷ [], ap place_of_gap x.1.2.1.1)
    by (inr x) = (1 ∷ x.1.0 ∷ [], ap place_of_gap x.1.2.1.1)

delays-apart : (p : Values) (d : DriftView) (s : ScriptView) (from : ℕ) (a b c : NodeSpec) → b.id < c.id → AreApart (OfDelays p d s from a b) (OfDelays p d s from a c)
delays-apart p d s from a b c lt g h w x before =
    let here = delay-rest p d s from a b g w in
    let there = delay-rest p d s from a c h x in
    at-places g h (5 ∷ a.id ∷ b.id ∷ here.0) (5 ∷ a.id ∷ c.id ∷ there.0) here.1 there.1
    (under 5 (a.id ∷ c.id ∷ there.0) (a.id ∷ b.id ∷ here.0) (under a.id (c.id ∷ there.0) (b.id ∷ here.0) (later b.id c.id there.0 here.0 lt))) before

senders-apart : (p : Values) (d : DriftView) (s : ScriptView) (from : ℕ) (a b : NodeSpec) → a.id < b.id → AreApart (Among (OfDelays p d s from a) p.nodes) (Among (OfDelays p d s from b) p.nodes)
senders-apart p d s from a b lt g h w x before =
    let here = delay-rest p d s from a w.0 g w.2 in
    let there = delay-rest p d s from b x.0 h x.2 in
    at-places g h (5 ∷ a.id ∷ w.0.id ∷ here.0) (5 ∷ b.id ∷ x.0.id ∷ there.0) here.1 there.1
    (under 5 (b.id ∷ x.0.id ∷ there.0) (a.id ∷ w.0.id ∷ here.0) (later a.id b.id (x.0.id ∷ there.0) (w.0.id ∷ here.0) lt)) before

delays-least : (p : Values) (d : DriftView) (s : ScriptView) (from : ℕ) → AllPairs (λ a b. a.id < b.id) p.nodes → IsLeast (Behind from (IsDelayGap p d s)) (first_of_pairs p (delays_gap p d s from))
delays-least p d s from ascend =
    least-same (Among (λ a. Among (OfDelays p d s from a) p.nodes) p.nodes) (Behind from (IsDelayGap p d s)) _
    (least-in (λ a. Among (OfDelays p d s from a) p.nodes) (λ a. first_in (delays_gap p d s from a) p.nodes) p.nodes (λ a. from_sender a)
    (in-order (λ a. Among (OfDelays p d s from a) p.nodes) p.nodes ascend (λ a b lt g h w x before. senders-apart p d s from a b lt g h w x before)))
    (λ g w. to w.0 w.2.0 w.1 w.2.1 g w.2.2.0 w.2.2.1) (λ g r. back g r.0 r.0.ch r.0.shared (subst (IsBehind from) r.0.told r.1) r.0.wrong r.0.told)
  where
    on : (a b : NodeSpec) (ch : Channel) → IsLeast (OnChannel p d from a b ch) (channel_gap p d from a b ch)
    on a b ch =
        least-where (Between (AtDelay p d a.id b.id ch) (2 * from) (how_many_cycles d)) (shares a b ch) _
        (least-between (AtDelay p d a.id b.id ch) (delay_gap p d a.id b.id ch) (2 * from) (how_many_cycles d)
        (λ c. least-if (is_wrong p ch (delay_of d a.id b.id ch c)) (gap.Delay a.id b.id ch c (delay_of d a.id b.id ch c))) (delays-along p d a.id b.id ch))

    of : (a b : NodeSpec) → IsLeast (OfDelays p d s from a b) (delays_gap p d s from a b)
    of a b =
        least-where (λ g. OnChannel p d from a b channel.A g ⊎ OnChannel p d from a b channel.B g) (is_link s a b) _
        (least-or (OnChannel p d from a b channel.A) (OnChannel p d from a b channel.B) _ _ (on a b channel.A) (on a b channel.B) (channels-apart p d from a b))

    from_sender : (a : NodeSpec) → IsLeast (Among (OfDelays p d s from a) p.nodes) (first_in (delays_gap p d s from a) p.nodes)
    from_sender a =
        least-in (OfDelays p d s from a) (delays_gap p d s from a) p.nodes (λ b. of a b)
        (in-order (OfDelays p d s from a) p.nodes ascend (λ b c lt g h w x before. delays-apart p d s from a b c lt g h w x before))

    to : (a b : NodeSpec) → Contains p.nodes a → Contains p.nodes b → (g : Gap) → is_link s a b ≡ true → OnChannel p d from a b channel.A g ⊎ OnChannel p d from a b channel.B g → Behind from (IsDelayGap p d s) g
    to a b at bt g link (inl x) = (
      record {
        sender = a;
        receiver = b;
        sender_there = at;
        receiver_there = bt;
        link = link;
        ch = channel.A;
        shared = x.0;
        cycle = x.1.0;
        within = x.1.1;
        wrong = x.1.2.1.0;
        told = x.1.2.1.1;
      },
      subst (IsBehind from) (sym x.1.2.1.1) x.1.2.0,
    )
    to a b at bt g link (inr x) = (
      record {
        sender = a;
        receiver = b;
        sender_there = at;
        receiver_there = bt;
        link = link;
        ch = channel.B;
        shared = x.0;
        cycle = x.1.0;
        within = x.1.1;
        wrong = x.1.2.1.0;
        told = x.1.2.1.1;
      },
      subst (IsBehind from) (sym x.1.2.1.1) x.1.2.0,
    )

    back : (g : Gap) (r : IsDelayGap p d s g) (ch : Channel) → shares r.sender r.receiver ch ≡ true → 2 * from ≤ r.cycle → is_wrong p ch (delay_of d r.sender.id r.receiver.id ch r.cycle) ≡ true
        → g ≡ gap.Delay r.sender.id r.receiver.id ch r.cycle (delay_of d r.sender.id r.receiver.id ch r.cycle) → Among (λ a. Among (OfDelays p d s from a) p.nodes) p.nodes g
    back g r channel.A shared low wrong told = (r.sender, r.sender_there, (r.receiver, r.receiver_there, (r.link, inl (shared, (r.cycle, r.within, (low, (wrong, told)))))))
    back g r channel.B shared low wrong told = (r.sender, r.sender_there, (r.receiver, r.receiver_there, (r.link, inr (shared, (r.cycle, r.within, (low, (wrong, told)))))))

-- 6
abbrev AtDouble : ScriptView → NodeSpec → NodeSpec → ℕ → Gap → Type 0
AtDouble s a b double g = (is_carried s a b double ≡ false) × (g ≡ gap.Link a.id b.id double)

abbrev OfLinks : DriftView → ScriptView → ℕ → NodeSpec → NodeSpec → Gap → Type 0
OfLinks d s from a b g = (is_link s a b ≡ true) × Between (AtDouble s a b) from (doubles_of d) g

doubles-apart : (s : ScriptView) (a b : NodeSpec) (j k : ℕ) → j < k → AreApart (AtDouble s a b j) (AtDouble s a b k)
doubles-apart s a b j k lt g h w x before =
    at-places g h (6 ∷ a.id ∷ b.id ∷ j ∷ []) (6 ∷ a.id ∷ b.id ∷ k ∷ []) (ap place_of_gap w.1) (ap place_of_gap x.1)
    (under 6 (a.id ∷ b.id ∷ k ∷ []) (a.id ∷ b.id ∷ j ∷ [])
    (under a.id (b.id ∷ k ∷ []) (b.id ∷ j ∷ []) (under b.id (k ∷ []) (j ∷ []) (later j k [] [] lt)))) before

receivers-apart : (d : DriftView) (s : ScriptView) (from : ℕ) (a b c : NodeSpec) → b.id < c.id → AreApart (OfLinks d s from a b) (OfLinks d s from a c)
receivers-apart d s from a b c lt g h w x before =
    at-places g h (6 ∷ a.id ∷ b.id ∷ w.1.0 ∷ []) (6 ∷ a.id ∷ c.id ∷ x.1.0 ∷ []) (ap place_of_gap w.1.2.1.1) (ap place_of_gap x.1.2.1.1)
    (under 6 (a.id ∷ c.id ∷ x.1.0 ∷ []) (a.id ∷ b.id ∷ w.1.0 ∷ [])
    (under a.id (c.id ∷ x.1.0 ∷ []) (b.id ∷ w.1.0 ∷ []) (later b.id c.id (x.1.0 ∷ []) (w.1.0 ∷ []) lt))) before

links-apart : (p : Values) (d : DriftView) (s : ScriptView) (from : ℕ) (a b : NodeSpec) → a.id < b.id → AreApart (Among (OfLinks d s from a) p.nodes) (Among (OfLinks d s from b) p.nodes)
links-apart p d s from a b lt g h w x before =
    at-places g h (6 ∷ a.id ∷ w.0.id ∷ w.2.1.0 ∷ []) (6 ∷ b.id ∷ x.0.id ∷ x.2.1.0 ∷ []) (ap place_of_gap w.2.1.2.1.1) (ap place_of_gap x.2.1.2.1.1)
    (under 6 (b.id ∷ x.0.id ∷ x.2.1.0 ∷ []) (a.id ∷ w.0.id ∷ w.2.1.0 ∷ []) (later a.id b.id (x.0.id ∷ x.2.1.0 ∷ []) (w.0.id ∷ w.2.1.0 ∷ []) lt)) before

links-least : (p : Values) (d : DriftView) (s : ScriptView) (from : ℕ) → AllPairs (λ a b. a.id < b.id) p.nodes → IsLeast (Behind from (IsLinkGap p d s)) (first_of_pairs p (links_gap d s from))
links-least p d s from ascend =
    least-same (Among (λ a. Among (OfLinks d s from a) p.nodes) p.nodes) (Behind from (IsLinkGap p d s)) _
    (least-in (λ a. Among (OfLinks d s from a) p.nodes) (λ a. first_in (links_gap d s from a) p.nodes) p.nodes (λ a. from_sender a)
    (in-order (λ a. Among (OfLinks d s from a) p.nodes) p.nodes ascend (λ a b lt g h w x before. links-apart p d s from a b lt g h w x before)))
    (λ g w. (
      record {
        sender = w.0;
        receiver = w.2.0;
        sender_there = w.1;
        receiver_there = w.2.1;
        link = w.2.2.0;
        double = w.2.2.1.0;
        within = w.2.2.1.1;
        broken = w.2.2.1.2.1.0;
        told = w.2.2.1.2.1.1;
      },
      subst (IsBehind from) (sym w.2.2.1.2.1.1) w.2.2.1.2.0,
    ))
    (λ g r. (
      r.0.sender,
      r.0.sender_there,
      (r.0.receiver, r.0.receiver_there, (r.0.link, (r.0.double, r.0.within, (subst (IsBehind from) r.0.told r.1, (r.0.broken, r.0.told))))),
    ))
  where
    of : (a b : NodeSpec) → IsLeast (OfLinks d s from a b) (links_gap d s from a b)
    of a b =
        least-where (Between (AtDouble s a b) from (doubles_of d)) (is_link s a b) _
        (least-between (AtDouble s a b) (link_gap s a b) from (doubles_of d) (λ k. least-unless (is_carried s a b k) (gap.Link a.id b.id k)) (doubles-apart s a b))

    from_sender : (a : NodeSpec) → IsLeast (Among (OfLinks d s from a) p.nodes) (first_in (links_gap d s from a) p.nodes)
    from_sender a =
        least-in (OfLinks d s from a) (links_gap d s from a) p.nodes (λ b. of a b)
        (in-order (OfLinks d s from a) p.nodes ascend (λ b c lt g h w x before. receivers-apart d s from a b c lt g h w x before))

-- the kind of a gap, and its numbers
abbrev pub kind_of : Gap → ℕ
kind_of (gap.Check number left right) = 1
kind_of (gap.Count correct arbitrary) = 2
kind_of (gap.Length node cycle ticks) = 3
kind_of (gap.Change node cycle ticks) = 4
kind_of (gap.Delay sender receiver ch cycle ticks) = 5
kind_of (gap.Link sender receiver double) = 6

abbrev pub numbers_of : Gap → List ℕ
numbers_of (gap.Check number left right) = number ∷ []
numbers_of (gap.Count correct arbitrary) = []
numbers_of (gap.Length node cycle ticks) = node ∷ cycle ∷ []
numbers_of (gap.Change node cycle ticks) = node ∷ cycle ∷ []
numbers_of (gap.Delay sender receiver ch cycle ticks) = sender ∷ receiver ∷ channel_rank ch ∷ cycle ∷ []
numbers_of (gap.Link sender receiver double) = sender ∷ receiver ∷ double ∷ []

pub place-split : (g : Gap) → place_of_gap g ≡ kind_of g ∷ numbers_of g
place-split (gap.Check number left right) = refl
place-split (gap.Count correct arbitrary) = refl
place-split (gap.Length node cycle ticks) = refl
place-split (gap.Change node cycle ticks) = refl
place-split (gap.Delay sender receiver ch cycle ticks) = refl
place-split (gap.Link sender receiver double) = refl

kinds-apart : (g h : Gap) → kind_of g < kind_of h → IsEarlierGap h g → ⊥
kinds-apart g h lt before =
    at-places g h (kind_of g ∷ numbers_of g) (kind_of h ∷ numbers_of h) (place-split g) (place-split h)
    (later (kind_of g) (kind_of h) (numbers_of h) (numbers_of g) lt) before

-- the kinds from each on
abbrev pub FromDelay : Values → DriftView → ScriptView → Gap → Type 0
FromDelay p d s g = IsDelayGap p d s g ⊎ IsLinkGap p d s g

abbrev pub FromChange : Values → DriftView → ScriptView → Gap → Type 0
FromChange p d s g = IsChangeGap p d s g ⊎ FromDelay p d s g

abbrev pub FromLength : Values → DriftView → ScriptView → Gap → Type 0
FromLength p d s g = IsLengthGap p d s g ⊎ FromChange p d s g

abbrev pub FromCount : Values → DriftView → ScriptView → Gap → Type 0
FromCount p d s g = IsGapOfRun p d s g

pub from_delay : (p : Values) (d : DriftView) (s : ScriptView) (g : Gap) → FromDelay p d s g → 4 < kind_of g
from_delay p d s g (inl r) = let kind = ap kind_of r.told in omega arith
from_delay p d s g (inr r) = let kind = ap kind_of r.told in omega arith

pub from_change : (p : Values) (d : DriftView) (s : ScriptView) (g : Gap) → FromChange p d s g → 3 < kind_of g
from_change p d s g (inl r) = let kind = ap kind_of r.told in omega arith
from_change p d s g (inr r) = let kind = from_delay p d s g r in omega arith

pub from_length : (p : Values) (d : DriftView) (s : ScriptView) (g : Gap) → FromLength p d s g → 2 < kind_of g
from_length p d s g (inl r) = let kind = ap kind_of r.told in omega arith
from_length p d s g (inr r) = let kind = from_change p d s g r in omega arith

pub from_count : (p : Values) (d : DriftView) (s : ScriptView) (g : Gap) → FromCount p d s g → 1 < kind_of g
from_count p d s g (inl r) = let kind = ap kind_of r.told in omega arith
from_count p d s g (inr r) = let kind = from_length p d s g r in omega arith

-- from the first double cycle on all gaps lie
pub all-behind : (p : Values) (d : DriftView) (s : ScriptView) (g : Gap) → IsGapOfRun p d s g → IsBehind 0 g
all-behind p d s g (inl r) = subst (IsBehind 0) (sym r.told) tt
all-behind p d s g (inr (inl r)) = subst (IsBehind 0) (sym r.told) (omega arith)
all-behind p d s g (inr (inr (inl r))) = let later = r.later in subst (IsBehind 0) (sym r.told) (omega arith)
all-behind p d s g (inr (inr (inr (inl r)))) = subst (IsBehind 0) (sym r.told) (omega arith)
all-behind p d s g (inr (inr (inr (inr r)))) = subst (IsBehind 0) (sym r.told) (omega arith)

-- those of two kinds, one after the other
either-least : (G H : Gap → Type 0) (from : ℕ) (a b : Option Gap) → IsLeast (Behind from G) a → IsLeast (Behind from H) b → AreApart G H
    → IsLeast (Behind from (λ g. G g ⊎ H g)) (option_or a b)
either-least G H from a b l m apart =
    least-same (λ g. Behind from G g ⊎ Behind from H g) (Behind from (λ g. G g ⊎ H g)) _
    (least-or (Behind from G) (Behind from H) a b l m (λ g h w x before. apart g h w.0 x.0 before))
    (λ g w. to g w) (λ g w. back g w.0 w.1)
  where
    to : (g : Gap) → Behind from G g ⊎ Behind from H g → Behind from (λ h. G h ⊎ H h) g
    to g (inl x) = (inl x.0, x.1)
    to g (inr y) = (inr y.0, y.1)

    back : (g : Gap) → G g ⊎ H g → IsBehind from g → Behind from G g ⊎ Behind from H g
    back g (inl x) low = inl (x, low)
    back g (inr y) low = inr (y, low)

-- what is found is the first gap, and nothing is only where there is none
gaps-from-least : (p : Values) (d : DriftView) (s : ScriptView) (from : ℕ) → AllPairs (λ a b. a.id < b.id) p.nodes → IsLeast (Behind from (IsGapOfRun p d s)) (gap_from p d s from)
gaps-from-least p d s from ascend =
    either-least (IsCountGap p s) (FromLength p d s) from _ _ count
    (either-least (IsLengthGap p d s) (FromChange p d s) from _ _ (lengths-least p d s from ascend)
    (either-least (IsChangeGap p d s) (FromDelay p d s) from _ _ (changes-least p d s from ascend)
    (either-least (IsDelayGap p d s) (IsLinkGap p d s) from _ _ (delays-least p d s from ascend) (links-least p d s from ascend)
    (λ g h w x before. kinds-apart g h (let a = ap kind_of w.told in let b = ap kind_of x.told in omega arith) before))
    (λ g h w x before. kinds-apart g h (let a = ap kind_of w.told in let b = from_delay p d s h x in omega arith) before))
    (λ g h w x before. kinds-apart g h (let a = ap kind_of w.told in let b = from_change p d s h x in omega arith) before))
    (λ g h w x before. kinds-apart g h (let a = ap kind_of w.told in let b = from_length p d s h x in omega arith) before)
  where
    count : IsLeast (Behind from (IsCountGap p s)) (count_gap p s)
    count =
        least-same (IsCountGap p s) (Behind from (IsCountGap p s)) _ (count-least p s) (λ g w. (w, subst (IsBehind from) (sym w.told) tt)) (λ g w. w.0)

gaps-of-run-least : (p : Values) (d : DriftView) (s : ScriptView) → AllPairs (λ a b. a.id < b.id) p.nodes → IsLeast (IsGapOfRun p d s) (gap_of_run p d s)
gaps-of-run-least p d s ascend =
    least-same (Behind 0 (IsGapOfRun p d s)) (IsGapOfRun p d s) _ (gaps-from-least p d s 0 ascend) (λ g w. w.0) (λ g w. (w, all-behind p d s g w))

pub gaps-least : (p : Values) (d : DriftView) (s : ScriptView) → AllPairs (λ a b. a.id < b.id) p.nodes → IsLeast (IsGap p d s) (first_gap p d s)
unfolding first_gap
gaps-least p d s ascend =
    least-or (IsRunCheckGap p s) (FromCount p d s) _ _ (checks-least p (asked_checks p s)) (gaps-of-run-least p d s ascend)
    (λ g h w x before. kinds-apart g h (let a = ap kind_of w.told in let b = from_count p d s h x in omega arith) before)

pub found-first : (p : Values) (d : DriftView) (s : ScriptView) (g : Gap) → IsSane p → first_gap p d s ≡ Some g → IsFirstGap p d s g
found-first p d s g sane e =
    let l = gaps-least p d s sane.lists.nodes_ascend in
    record { is_gap = l.some g e; first = λ h w before. l.least g h e w before }

pub found-none : (p : Values) (d : DriftView) (s : ScriptView) (g : Gap) → IsSane p → first_gap p d s ≡ None → IsGap p d s g → ⊥
found-none p d s g sane e w = let l = gaps-least p d s sane.lists.nodes_ascend in l.none e g w

pub found-of-run : (p : Values) (d : DriftView) (s : ScriptView) → IsSane p → FindsGapOfRun p d s
found-of-run p d s sane =
    let l = gaps-of-run-least p d s sane.lists.nodes_ascend in
    (λ e g w. l.none e g w, λ g e. record { is_gap = l.some g e; first = λ h w before. l.least g h e w before })

-- of each kind the first is found
first-of : (G : Gap → Type 0) (o : Option Gap) → IsLeast G o → IsFirstOf G o
first-of G o l = record { some = l.some; first = l.least; none = l.none }

pub found-by-kind : (p : Values) (d : DriftView) (s : ScriptView) (from : ℕ) → IsSane p → AreFirstGaps p d s from (gaps_by_kind p d s from)
found-by-kind p d s from sane =
    let ascend = sane.lists.nodes_ascend in
    record {
      count = first-of (IsCountGap p s) _ (count-least p s);
      lengths = first-of (Behind from (IsLengthGap p d s)) _ (lengths-least p d s from ascend);
      changes = first-of (Behind from (IsChangeGap p d s)) _ (changes-least p d s from ascend);
      delays = first-of (Behind from (IsDelayGap p d s)) _ (delays-least p d s from ascend);
      links = first-of (Behind from (IsLinkGap p d s)) _ (links-least p d s from ascend);
    }

-- and of those from a double cycle on
pub found-from : (p : Values) (d : DriftView) (s : ScriptView) (from : ℕ) → IsSane p → FindsGapFrom p d s from
found-from p d s from sane =
    let l = gaps-from-least p d s from sane.lists.nodes_ascend in
    record {
      none = (λ e g w low. l.none e g (w, low), λ none. never l (gap_from p d s from) refl none);
      first = λ g e. record { is_gap = (l.some g e).0; behind = (l.some g e).1; first = λ h w low before. l.least g h e (w, low) before };
    }
  where
    never : IsLeast (Behind from (IsGapOfRun p d s)) (gap_from p d s from) → (o : Option Gap) → gap_from p d s from ≡ o → HasNoGapFrom p d s from → gap_from p d s from ≡ None
    never l None e none = e
    never l (Some g) e none = let w = l.some g e in absurd (none g w.0 w.1)
