-- Where each node misses the frames of few other sync nodes lists meet, so clocks keep as near as beside arbitrary nodes; and with one
-- more there are some that do not.
use Rattle.std.proofs.Common.{◌≡◌, ◌⊎◌, ◌∙◌, ℕ, zero, suc, ◌+◌, ◌*◌, ◌-◌, ◌<◌, ◌≤◌, ◌==◌, ◌&&◌, ◌||◌, Bool, true, false, not, pos, Option, Some, None, List, [], ◌∷◌, count_by, inl, inr, refl, ap, ap₂, sym, subst, arith, eq-eqb, if◌then◌else◌}
use Rattle.std.specs.Prelude.{is_none, max, min, nat_eq, nat_le, nat_lt, AllPairs, Contains}
use Rattle.std.specs.List.{list_all}
use Rattle.std.proofs.lemmas.Bool.{and_parts, not-true}
use Rattle.std.proofs.lemmas.Bool.Decides.{nat_tests}
use Rattle.fr_base.specs.Event as event
use Rattle.fr_base.specs.declared.channel.Channel.{Channel}
use Rattle.fr_base.specs.declared.channel.Channel.TheVariants as channel
use Rattle.fr_cluster.specs.Setting.{Setting, is_correct}
use Rattle.fr_cluster.specs.declared.join.Join.{Join}
use Rattle.fr_cluster.specs.declared.nodes.NodeSpec.{NodeSpec}
use Rattle.fr_cluster.proofs.Elements.{kept_filtered, Contains-here, Contains-there}
use Rattle.fr_cluster.proofs.KeyNodes.{AllPairs-first, AllPairs-rest}
use Rattle.fr_midpoint.specs.Midpoint.{discarded}
use Rattle.fr_bound.specs.declared.judging.Heard.TheVariants as heard
use Rattle.fr_coverage.specs.Coverage.{some_join}
use Rattle.fr_coverage.specs.Decided.{setting_of}
use Rattle.fr_coverage.specs.Links.{is_sync, shares}
use Rattle.fr_bound.specs.Bounds.{longest_micro}
use Rattle.fr_bound.specs.SharpBounds.{sharp_near, sharp_precision}
use Rattle.fr_bound.specs.SharpSpreads.{sharp_spread, sharply_near_in}
use Rattle.fr_bound.specs.declared.settling.Spread.{Spread}
use Rattle.fr_cluster.specs.Values.{Values}
use Rattle.fr_drift.specs.View.{DriftView}
use Rattle.fr_precision.specs.Among.{apart_through_losses, spread_through_losses, IsNot, LaterSpreadsAreLess}
use Rattle.fr_precision.specs.declared.kinds.Kinds.{Kinds}
use Rattle.fr_promise.proofs.HeardNumbers.{meeting_below_beside}
use Rattle.fr_promise.proofs.JoinBounds.{near_grows}
use Rattle.fr_promise.proofs.LossOrder.{IsBelow}
use Rattle.fr_sharp.proofs.LossLemmas.{far_grows, starts_fit, Far}
use Rattle.fr_precision.proofs.Counting.{count_cons, count_le, count_less, count_no, count_yes, one_if}
use Rattle.fr_runs.proofs.KeyedCounts.{all_pass}
use Rattle.fr_runs.proofs.Reach.{some_joins_by}
use Rattle.fr_runs.specs.SharpHistories.{IsInSharpSyncAt}
use Rattle.fr_script.specs.View.{is_arbitrary, join_of, ScriptView}
use Rattle.fr_sharp.specs.Losses.{HistoriesKeepThroughLosses}
use Rattle.fr_sharp.specs.MeetingCosts.{may_miss, sync_nodes}
use Rattle.fr_sharp.specs.SharpStatement.{has_arbitrary}
use Rattle.fr_traffic.specs.Traffic.{all_have, arbitrary_count, comes, common_count, further_count, has_and_meets, has_begun, has_value, heard_in, is_correct_sender, kind_by, kind_in, lists_meet, may_be_said, may_receive, meets_each, most_count, none_lacks, sender_count, staying_count, stays, sure_count, traffic_in, two_meet, value_on, Traffic}
use Rattle.fr_sharp.proofs.BearingKinds.{meeting_is_awake, through_is_apart}
use Rattle.fr_sharp.proofs.FromLossyFiles.{covered_files_keep_through_losses}
use Rattle.fr_sharp.proofs.LossBurstLaws.{keeps_wider}
use Rattle.fr_sharp.proofs.MeetingNumbers.{keys_counted, missed_more}
use Rattle.fr_traffic.proofs.TrafficCounts.{and_true, no_more, parted, parted_among, some_counted}
use Rattle.fr_whole.specs.FewMissed.{traffic_losing, AllShare, FewMissedKeepThePeak, FewMissedMeet, LosesFew, MeetingCostsNoMore, OneMoreMayPart}

count_same : {X : Type 0} (p q : X → Bool) (xs : List X) → ((x : X) → Contains xs x → p x ≡ q x) → count_by p xs ≡ count_by q xs
count_same p q [] same = refl
count_same p q (x ∷ xs) same =
    count_cons p x xs ∙ ap (λ (b : Bool). one_if b + count_by p xs) (same x (Contains-here x xs))
    ∙ ap (λ (n : ℕ). one_if (q x) + n) (count_same p q xs (λ y among. same y (Contains-there x xs y among))) ∙ sym (count_cons q x xs)

-- ---- what one node has and discards

-- without arbitrary sync nodes the senders are all that have a key slot
all_send : (t : Traffic) → arbitrary_count t ≡ 0 → sender_count t (λ a. true) ≡ count_by is_sync t.nodes
all_send t none =
    let parts = parted is_sync (λ (a : NodeSpec). t.is_arbitrary a.id) t.nodes in
    and_true (is_correct_sender t) t.nodes ∙ rest (count_by (is_correct_sender t) t.nodes) (arbitrary_count t) (count_by is_sync t.nodes) parts none
  where
    rest : (a b c : ℕ) → a + b ≡ c → b ≡ 0 → a ≡ c
    rest a b c is zero_is = omega (arith, is, zero_is)

-- of those of one kind no more fail one test or the other than fail the one and the other
two_lacked : {X : Type 0} (k p q : X → Bool) (xs : List X) → count_by k xs ≤ count_by (λ x. k x && (p x && q x)) xs + (count_by (λ x. k x && not (p x)) xs + count_by (λ x. k x && not (q x)) xs)
two_lacked k p q xs =
    let parts = parted k p xs in
    let more = parted_among k p q xs in
    let less = count_le (λ x. k x && (p x && not (q x))) (λ x. k x && not (q x)) xs (λ x. fewer (k x) (p x) (q x)) in
    step (count_by k xs) (count_by (λ x. k x && p x) xs) (count_by (λ x. k x && (p x && q x)) xs) (count_by (λ x. k x && (p x && not (q x))) xs) (count_by (λ x. k x && not (p x)) xs) (count_by (λ x. k x && not (q x)) xs) parts more less
  where
    fewer : (k p q : Bool) → (k && (p && not q)) ≡ true → (k && not q) ≡ true
    fewer true true q is = is
    fewer true false q is = absurd (cc)
    fewer false p q is = absurd (cc)

    step : (all one two part less more : ℕ) → less + one ≡ all → part + two ≡ one → part ≤ more → all ≤ two + (less + more)
    step all one two part less more parts halves le = omega (arith, parts, halves, le)

both_pass : (a b : Bool) → a ≡ true → b ≡ true → (a && b) ≡ true
both_pass a b one other = rw (one, other) refl

each_passes : {X : Type 0} (test : X → Bool) (xs : List X) → ((x : X) → Contains xs x → test x ≡ true) → list_all test xs ≡ true
each_passes test [] all = refl
each_passes test (y ∷ xs) all = both_pass (test y) (list_all test xs) (all y (Contains-here y xs)) (each_passes test xs (λ x among. all x (Contains-there y xs x among)))

unless : (a b : Bool) → (a ≡ true → b ≡ true) → (not a || b) ≡ true
unless true b then_is = then_is refl
unless false b then_is = refl

-- of how many senders it surely has no value
abbrev lacked : Bool → Traffic → ℕ → NodeSpec → ℕ
lacked rate t double b = sender_count t (λ a. not (has_value rate true t double b a))

abbrev all_of : Traffic → ℕ
all_of t = sender_count t (λ a. true)

module _ (t : Traffic) (missed double : ℕ) (none : arbitrary_count t ≡ 0) (misses : LosesFew t missed double) where
  -- where none is damaged there are no more values in its list than it surely has
  most_is : (rate : Bool) (b : NodeSpec) → Contains t.nodes b → t.is_arbitrary b.id ≡ false → most_count rate t double b ≡ all_of t - lacked rate t double b
  most_is rate b among correct =
      let sure : ℕ = sender_count t (has_value rate true t double b) in
      let parts = parted (is_correct_sender t) (has_value rate true t double b) t.nodes in
      let all = and_true (is_correct_sender t) t.nodes in
      let same = count_same (λ (a : NodeSpec). is_correct_sender t a && has_value rate false t double b a) (λ (a : NodeSpec). is_correct_sender t a && has_value rate true t double b a) t.nodes
      (λ a there. both (is_correct_sender t a) (has_value rate false t double b a) (has_value rate true t double b a) (misses.clear rate a b there among correct)) in
      let further = no_more (λ (a : NodeSpec). is_sync a && t.is_arbitrary a.id) (may_be_said rate t double b) t.nodes in
      left (lacked rate t double b) sure (sender_count t (has_value rate false t double b)) (further_count rate t double b) (arbitrary_count t) (count_by (is_correct_sender t) t.nodes) (all_of t) parts same further none all
    where
      both : (c a b : Bool) → (c ≡ true → a ≡ b) → (c && a) ≡ (c && b)
      both true a b same = same refl
      both false a b same = refl

      left : (m s h f n c all : ℕ) → m + s ≡ c → h ≡ s → f ≤ n → n ≡ 0 → all ≡ c → h + f ≡ all - m
      left m s h f n c all parts same le none is = omega (arith, parts, same, le, none, is)

  module _ (alone : (a : NodeSpec) → Contains t.nodes a → is_correct_sender t a ≡ true → t.join a.id ≡ None) where
    -- all senders stay on
    staying : (test : NodeSpec → Bool) → staying_count t test ≡ sender_count t test
    staying test =
        count_same (λ (a : NodeSpec). is_correct_sender t a && (stays t a && test a)) (λ (a : NodeSpec). is_correct_sender t a && test a) t.nodes
        (λ a there. by (is_correct_sender t a) (stays t a) (test a) (λ sends. ap is_none (alone a there sends)))
      where
        by : (c s v : Bool) → (c ≡ true → s ≡ true) → (c && (s && v)) ≡ (c && v)
        by true s v on = rw (on refl) refl
        by false s v on = refl

    sure_is : (rate : Bool) (b : NodeSpec) → sure_count rate t double b + lacked rate t double b ≡ all_of t
    sure_is rate b =
        let parts = parted (is_correct_sender t) (has_value rate true t double b) t.nodes in
        let all = and_true (is_correct_sender t) t.nodes in
        let same = staying (has_value rate true t double b) in
        step (sure_count rate t double b) (lacked rate t double b) (sender_count t (has_value rate true t double b)) (count_by (is_correct_sender t) t.nodes) (all_of t) parts all same
      where
        step : (s m h c all : ℕ) → m + h ≡ c → all ≡ c → s ≡ h → s + m ≡ all
        step s m h c all parts is same = omega (arith, parts, is, same)

    common_is : (rate : Bool) (b c : NodeSpec) → all_of t ≤ common_count rate t double b c + (lacked rate t double b + lacked rate t double c)
    common_is rate b c =
        let here : NodeSpec → Bool = has_value rate true t double b in
        let there : NodeSpec → Bool = has_value rate true t double c in
        let all = and_true (is_correct_sender t) t.nodes in
        let le = two_lacked (is_correct_sender t) here there t.nodes in
        let same = staying (λ a. here a && there a) in
        step (common_count rate t double b c) (sender_count t (λ a. here a && there a)) (lacked rate t double b + lacked rate t double c) (count_by (is_correct_sender t) t.nodes) (all_of t) le all same
      where
        step : (s h m c all : ℕ) → c ≤ h + m → all ≡ c → s ≡ h → all ≤ s + m
        step s h m c all le is same = omega (arith, le, is, same)

    module _ (meets : may_miss (all_of t) missed ≡ true) where
      discards : (rate : Bool) (b : NodeSpec) → Contains t.nodes b → t.is_arbitrary b.id ≡ false
          → lacked rate t double b + discarded (all_of t - lacked rate t double b) ≤ missed + discarded (all_of t - missed)
      discards rate b among correct = missed_more (all_of t) (lacked rate t double b) missed (misses.few rate b among correct)

      has_some : (rate : Bool) (b : NodeSpec) → Contains t.nodes b → t.is_arbitrary b.id ≡ false → nat_le 1 (sure_count rate t double b) ≡ true
      has_some rate b among correct =
          let is = sure_is rate b in
          let le = misses.few rate b among correct in
          step (sure_count rate t double b) (lacked rate t double b) missed (discarded (all_of t - missed)) (all_of t) is le meets
        where
          step : (s l m d all : ℕ) → s + l ≡ all → l ≤ m → nat_lt (2 * (m + d)) all ≡ true → nat_le 1 s ≡ true
          step s l m d all is le less = grind (arith, nat_tests)

      have_enough : (rate : Bool) (b c : NodeSpec) → Contains t.nodes b → t.is_arbitrary b.id ≡ false → Contains t.nodes c → t.is_arbitrary c.id ≡ false → two_meet rate t double b c ≡ true
      have_enough rate b c among correct there also =
          let n : ℕ = all_of t in
          ap₂ (λ (k m : ℕ). nat_lt (discarded k + discarded m) (common_count rate t double b c)) (most_is rate b among correct) (most_is rate c there also)
          ∙ step n (lacked rate t double b) (lacked rate t double c) (discarded (n - lacked rate t double b)) (discarded (n - lacked rate t double c)) (missed + discarded (n - missed)) (common_count rate t double b c)
          (discards rate b among correct) (discards rate c there also) (common_is rate b c) meets
        where
          step : (all b c x y z common : ℕ) → b + x ≤ z → c + y ≤ z → all ≤ common + (b + c) → nat_lt (2 * z) all ≡ true → nat_lt (x + y) common ≡ true
          step all b c x y z common one other le less = grind (arith, nat_tests)

      -- ---- then lists meet

      all_meet : (rate : Bool) → lists_meet rate t double ≡ true
      all_meet rate =
          each_passes (λ (b : NodeSpec). not (may_receive t double b) || has_and_meets rate t double b) t.nodes
          (λ b there. unless (may_receive t double b) (has_and_meets rate t double b) (λ receives.
          let correct = correct_of b receives in
          both_pass (nat_le 1 (sure_count rate t double b)) (meets_each rate t double b) (has_some rate b there correct)
          (each_passes (λ (c : NodeSpec). not (may_receive t double c) || (b.id == c.id || two_meet rate t double b c)) t.nodes
          (λ c here. unless (may_receive t double c) (b.id == c.id || two_meet rate t double b c)
          (λ other. or_last (b.id == c.id) (two_meet rate t double b c) (have_enough rate b c there correct here (correct_of c other)))))))
        where
          correct_of : (b : NodeSpec) → may_receive t double b ≡ true → t.is_arbitrary b.id ≡ false
          correct_of b receives = not-true (t.is_arbitrary b.id) (and_parts (not (t.is_arbitrary b.id)) (has_begun (t.join b.id) double) receives).0

          or_last : (a b : Bool) → b ≡ true → (a || b) ≡ true
          or_last true b is = refl
          or_last false b is = is

pub few_missed_meet : FewMissedMeet
few_missed_meet t missed double none alone misses meets = (all_meet t missed double none misses alone meets false, all_meet t missed double none misses alone meets true)

-- ---- how far clocks lie apart

-- no further than beside arbitrary nodes, where this and the next spread are no greater than those
apart_within : (p : Values) (flutter : ℕ) (s next : Spread) → IsBelow s (sharp_spread true p flutter) → IsBelow next (sharp_spread true p flutter)
    → max (Far p s) (next.starts + longest_micro p) ≤ sharp_precision true p flutter
apart_within p flutter s next here there = both (Far p s) (next.starts + longest_micro p) (sharp_precision true p flutter) (far_grows p s (sharp_spread true p flutter) here) (starts_fit p next (sharp_spread true p flutter) there)
  where
    both : (a b c : ℕ) → a ≤ c → b ≤ c → max a b ≤ c
    both a b c le less = grind arith

pub meeting_costs_no_more : MeetingCostsNoMore
meeting_costs_no_more p flutter what cost k sane is never =
    let top : Spread = sharp_spread true p flutter in
    let now = meeting_below_beside false p flutter what never k in
    let next = meeting_below_beside false p flutter what never (suc k) in
    let s : Spread = spread_through_losses false p flutter what k in (
      up (apart_through_losses false p flutter what k) (sharp_precision true p flutter) cost.peak (apart_within p flutter s (spread_through_losses false p flutter what (suc k)) now next) is.peak,
      up (sharply_near_in p s) (sharp_near true p flutter) cost.reach (near_grows p s.starts s.lengths top.starts top.lengths sane now.start now.long) is.reach,
    )
  where
    up : (a b c : ℕ) → a ≤ b → c ≡ b → a ≤ c
    up a b c le is = omega (arith, le, is)

-- ---- so does a run of files

never_poor : (all none meet : Bool) → meet ≡ true → kind_by all none meet ≡ heard.Poor → ⊥
never_poor true true meet meets poor = cc
never_poor true false meet meets poor = cc
never_poor false none true meets poor = cc
never_poor false none false meets poor = cc

-- no correct node joins
none_is_joining : (p : Values) (d : DriftView) (s : ScriptView) (a : NodeSpec) → some_join p s ≡ false → Contains p.nodes a → is_arbitrary s a.id ≡ false → join_of s a.id ≡ None
none_is_joining p d s a none there correct = by (join_of s a.id) refl
  where
    by : (join : Option Join) → join_of s a.id ≡ join → join ≡ None
    by None at = refl
    by (Some join) at =
        let x : Setting = setting_of p d s in
        let among = kept_filtered (λ (n : NodeSpec). is_correct x n.id) p.nodes a there (ap not correct) in
        let e : true ≡ false = sym (some_joins_by x a join among at) ∙ none in
        absurd (cc)

pub few_missed_keep_the_peak : HistoriesKeepThroughLosses → LaterSpreadsAreLess → FewMissedKeepThePeak
few_missed_keep_the_peak keep later p d s from flutter cost h double passed sane is misses covered alone run late sync within lasts =
    let t : Traffic = traffic_in p s in
    let what : ℕ → Kinds = λ m. heard_in t (double + m) in
    let alone_is : (a : NodeSpec) → Contains p.nodes a → is_arbitrary s a.id ≡ false → join_of s a.id ≡ None = λ a there correct. none_is_joining p d s a covered.none_joins there correct in
    let sole : (a : NodeSpec) → Contains t.nodes a → is_correct_sender t a ≡ true → t.join a.id ≡ None = λ a there sends.
    alone_is a there (not-true (t.is_arbitrary a.id) (and_parts (is_sync a) (not (t.is_arbitrary a.id)) sends).1) in
    let none : arbitrary_count t ≡ 0 = no_count (arbitrary_count t) (some_counted (λ (a : NodeSpec). is_sync a && is_arbitrary s a.id) p.nodes ∙ alone) in
    let senders : sync_nodes p ≡ sender_count t (λ a. true) = keys_counted p.nodes ∙ sym (all_send t none) in
    let meets : may_miss (sender_count t (λ a. true)) cost.missed ≡ true = subst (λ (n : ℕ). may_miss n cost.missed ≡ true) senders is.missed.meets in
    let both : (k : ℕ) → from ≤ k → (lists_meet false t k ≡ true) × (lists_meet true t k ≡ true) = λ k later_on. few_missed_meet t cost.missed k none sole (misses k later_on) meets in
    let awake : (k : ℕ) → from ≤ k → none_lacks t k ≡ true = λ k later_on. let lists = both k later_on in meeting_is_awake t k (λ b there correct. ap (λ (join : Option Join). has_begun join k) (alone_is b there correct)) lists.0 lists.1 in
    let never : (m : ℕ) → IsNot heard.Poor (what m) = λ m.
    let lists = both (double + m) (omega (arith, late)) in
    let rich : (rate : Bool) → lists_meet rate t (double + m) ≡ true → kind_in rate t (double + m) ≡ heard.Poor → ⊥ = λ rate meet poor.
    never_poor (all_have rate t (double + m)) (nat_eq (arbitrary_count t) 0) (lists_meet rate t (double + m)) meet poor in
    (rich false lists.0, rich true lists.1) in
    let synced : IsInSharpSyncAt (has_arbitrary p s) p flutter (pos 0) h double = subst (λ (b : Bool). IsInSharpSyncAt b p flutter (pos 0) h double) (sym alone) sync in
    let keeps = covered_files_keep_through_losses keep later p d s from flutter cost.reach h double sane covered run late synced (awake double late) passed within lasts in
    let same : apart_through_losses (has_arbitrary p s) p flutter what passed ≡ apart_through_losses false p flutter what passed = ap (λ (b : Bool). apart_through_losses b p flutter what passed) alone in
    let le = (meeting_costs_no_more p flutter what cost passed sane is never).0 in
    through_is_apart (setting_of p d s) h (double + passed) cost.peak
    (
    keeps_wider (setting_of p d s) h (double + passed) (apart_through_losses (has_arbitrary p s) p flutter what passed) cost.peak (up (apart_through_losses (has_arbitrary p s) p flutter what passed) (apart_through_losses false p flutter what passed) cost.peak same le) keeps
    )
    (awake (double + passed) (omega (arith, late)))
  where
    no_count : (n : ℕ) → nat_le 1 n ≡ false → n ≡ 0
    no_count n few = grind (arith, nat_tests)

    up : (a b c : ℕ) → a ≡ b → b ≤ c → a ≤ c
    up a b c is le = omega (arith, is, le)

-- ---- why no more may be missed

-- so many of the nodes that pass a test, by identifiers
chosen : (NodeSpec → Bool) → List NodeSpec → ℕ → ℕ → Bool
chosen test [] k id = false
chosen test (x ∷ xs) zero id = false
chosen test (x ∷ xs) (suc k) id = if test x then (id == x.id) || chosen test xs k id else chosen test xs (suc k) id

abbrev Ascend : List NodeSpec → Type 0
Ascend nodes = AllPairs (λ a b. a.id < b.id) nodes

other_id : (a b : ℕ) → a < b → (b == a) ≡ false
other_id a b less = grind (arith, nat_tests)

count_nothing : {X : Type 0} (p : X → Bool) (xs : List X) → ((x : X) → p x ≡ false) → count_by p xs ≡ 0
count_nothing p [] fails = refl
count_nothing p (x ∷ xs) fails = count_no p x xs (fails x) ∙ count_nothing p xs fails

and_false : (b : Bool) → (b && false) ≡ false
and_false true = refl
and_false false = refl

abbrev pick : (NodeSpec → Bool) → NodeSpec → List NodeSpec → ℕ → Bool → ℕ → Bool
pick test x xs k b id = if b then (id == x.id) || chosen test xs k id else chosen test xs (suc k) id

-- as far as there are so many
chosen_counted : (test : NodeSpec → Bool) (nodes : List NodeSpec) (k : ℕ) → Ascend nodes → count_by (λ a. test a && chosen test nodes k a.id) nodes ≡ min k (count_by test nodes)
unfolding chosen
chosen_counted test [] k apart = grind arith
chosen_counted test (x ∷ xs) zero apart = count_nothing (λ (a : NodeSpec). test a && false) (x ∷ xs) (λ a. and_false (test a)) ∙ least (count_by test (x ∷ xs))
  where
    least : (n : ℕ) → 0 ≡ min 0 n
    least n = grind arith
chosen_counted test (x ∷ xs) (suc k) apart =
    let rest : Ascend xs = AllPairs-rest (λ a b. a.id < b.id) x xs apart in
    by (test x) refl (chosen_counted test xs k rest) (chosen_counted test xs (suc k) rest)
  where
    one_more : (k n m : ℕ) → m ≡ suc n → suc (min k n) ≡ min (suc k) m
    one_more k n m is = grind arith

    by : (b : Bool) → test x ≡ b → count_by (λ a. test a && chosen test xs k a.id) xs ≡ min k (count_by test xs)
        → count_by (λ a. test a && chosen test xs (suc k) a.id) xs ≡ min (suc k) (count_by test xs)
        → count_by (λ a. test a && pick test x xs k (test x) a.id) (x ∷ xs) ≡ min (suc k) (count_by test (x ∷ xs))
    by true is one other =
        let here : (test x && pick test x xs k (test x) x.id) ≡ true = rw (is, eq-eqb x.id x.id refl) refl in
        let same = count_same (λ (a : NodeSpec). test a && pick test x xs k (test x) a.id) (λ (a : NodeSpec). test a && chosen test xs k a.id) xs
        (λ a among. let apart_is = other_id x.id a.id (AllPairs-first (λ a b. a.id < b.id) x xs a apart among) in rw (is, apart_is) refl) in
        count_yes (λ (a : NodeSpec). test a && pick test x xs k (test x) a.id) x xs here ∙ ap suc (same ∙ one) ∙ one_more k (count_by test xs) (count_by test (x ∷ xs)) (count_yes test x xs is)
    by false is one other =
        let here : (test x && pick test x xs k (test x) x.id) ≡ false = rw is refl in
        let same = count_same (λ (a : NodeSpec). test a && pick test x xs k (test x) a.id) (λ (a : NodeSpec). test a && chosen test xs (suc k) a.id) xs (λ a among. rw is refl) in
        count_no (λ (a : NodeSpec). test a && pick test x xs k (test x) a.id) x xs here ∙ same ∙ other ∙ ap (λ (n : ℕ). min (suc k) n) (sym (count_no test x xs is))

-- the sync nodes with another identifier
abbrev others : ℕ → NodeSpec → Bool
others id a = is_sync a && not (a.id == id)

-- those that pass a test; no more than one of these has this one
abbrev without : (NodeSpec → Bool) → ℕ → NodeSpec → Bool
without test id a = test a && not (a.id == id)

all_but_one : (test : NodeSpec → Bool) (id : ℕ) (nodes : List NodeSpec) → Ascend nodes → count_by test nodes ≤ suc (count_by (without test id) nodes)
all_but_one test id [] apart = omega arith
all_but_one test id (x ∷ xs) apart = by (x.id == id) refl (all_but_one test id xs (AllPairs-rest (λ a b. a.id < b.id) x xs apart))
  where
    and_yes : (b : Bool) → b ≡ (b && not false)
    and_yes true = refl
    and_yes false = refl

    one_more : (b : Bool) (n : ℕ) → one_if b + n ≤ suc n
    one_more true n = omega arith
    one_more false n = omega arith

    by : (b : Bool) → (x.id == id) ≡ b → count_by test xs ≤ suc (count_by (without test id) xs) → count_by test (x ∷ xs) ≤ suc (count_by (without test id) (x ∷ xs))
    by true is rest =
        let same = count_same test (without test id) xs (λ a among.
        let apart_is = differs x.id a.id id (AllPairs-first (λ a b. a.id < b.id) x xs a apart among) is in
        and_yes (test a) ∙ ap (λ (b : Bool). test a && not b) (sym apart_is)) in
        let e = count_cons test x xs in
        let f = count_cons (without test id) x xs in
        let le = one_more (test x) (count_by test xs) in
        omega (arith, same, e, f, le)
      where
        differs : (a b c : ℕ) → a < b → (a == c) ≡ true → (b == c) ≡ false
        differs a b c less same = grind (arith, nat_tests)
    by false is rest =
        let e = count_cons test x xs in
        let f = count_cons (without test id) x xs in
        let here : test x ≡ without test id x = and_yes (test x) ∙ ap (λ (b : Bool). test x && not b) (sym is) in
        let one : one_if (test x) ≡ one_if (without test id x) = ap one_if here in
        omega (arith, e, f, one, rest)

-- what is heard where some frames are lost
module _ (nodes : List NodeSpec) (lost : ℕ → ℕ → Bool) (share : AllShare nodes) (double : ℕ) where
  abbrev t : Traffic
  t = traffic_losing nodes lost

  comes_is : (surely gone : Bool) → comes surely (if gone then event.Silent else event.Regular) ≡ not gone
  comes_is true true = refl
  comes_is true false = refl
  comes_is false true = refl
  comes_is false false = refl

  twice : (a b : Bool) → (a && b && b) ≡ (a && b)
  twice true true = refl
  twice true false = refl
  twice false b = refl

  value_is : (rate surely : Bool) (a b : NodeSpec) (ch : Channel) → value_on rate surely t a b double ch ≡ (shares a b ch && not (lost a.id b.id))
  value_is false surely a b ch = ap (λ (c : Bool). shares a b ch && c) (comes_is surely (lost a.id b.id))
  value_is true surely a b ch = ap (λ (c : Bool). shares a b ch && c && c) (comes_is surely (lost a.id b.id)) ∙ twice (shares a b ch) (not (lost a.id b.id))

  either : (x y n : Bool) → (x ≡ true) ⊎ (y ≡ true) → ((x && n) || (y && n)) ≡ n
  either true y true some = refl
  either true true false some = refl
  either true false false some = refl
  either false true n some = refl
  either false false n (inl is) = absurd (cc)
  either false false n (inr is) = absurd (cc)

  pub heard_is : (rate surely : Bool) (a b : NodeSpec) → Contains nodes a → Contains nodes b → has_value rate surely t double b a ≡ ((a.id == b.id) || not (lost a.id b.id))
  heard_is rate surely a b here there =
      ap (λ (c : Bool). a.id == b.id || (c || value_on rate surely t a b double channel.B)) (value_is rate surely a b channel.A)
      ∙ ap (λ (c : Bool). a.id == b.id || ((shares a b channel.A && not (lost a.id b.id)) || c)) (value_is rate surely a b channel.B)
      ∙ ap (λ (c : Bool). a.id == b.id || c) (either (shares a b channel.A) (shares a b channel.B) (not (lost a.id b.id)) (share a b here there))

  -- each misses those whose frames are lost
  pub missed_is : (rate : Bool) (b : NodeSpec) → Contains nodes b → sender_count t (λ a. not (has_value rate true t double b a)) ≡ count_by (λ a. others b.id a && lost a.id b.id) nodes
  missed_is rate b there =
      count_same (λ (a : NodeSpec). is_correct_sender t a && not (has_value rate true t double b a)) (λ (a : NodeSpec). others b.id a && lost a.id b.id) nodes
      (λ a here. ap (λ (c : Bool). is_correct_sender t a && not c) (heard_is rate true a b here there) ∙ by (is_sync a) (a.id == b.id) (lost a.id b.id))
    where
      by : (s e l : Bool) → ((s && not false) && not (e || not l)) ≡ ((s && not e) && l)
      by true true l = refl
      by true false true = refl
      by true false false = refl
      by false e l = refl

  pub none_is_arbitrary : arbitrary_count t ≡ 0
  none_is_arbitrary = count_nothing (λ (a : NodeSpec). is_sync a && false) nodes (λ a. and_false (is_sync a))

one_sender : (nodes : List NodeSpec) → 1 ≤ count_by is_sync nodes → (x : NodeSpec) × Contains nodes x × (is_sync x ≡ true)
one_sender [] some = absurd (omega (arith, some))
one_sender (x ∷ nodes) some = by (is_sync x) refl (λ more. one_sender nodes more)
  where
    by : (b : Bool) → is_sync x ≡ b → (1 ≤ count_by is_sync nodes → (y : NodeSpec) × Contains nodes y × (is_sync y ≡ true))
        → (y : NodeSpec) × Contains (x ∷ nodes) y × (is_sync y ≡ true)
    by true is rest = (x, Contains-here x nodes, is)
    by false is rest =
        let none = count_no is_sync x nodes is in
        let one = rest (omega (arith, some, none)) in
        (one.0, Contains-there x nodes one.0 one.1, one.2)

two_senders : (nodes : List NodeSpec) → Ascend nodes → 2 ≤ count_by is_sync nodes
    → (x : NodeSpec) × (y : NodeSpec) × Contains nodes x × Contains nodes y × (is_sync x ≡ true) × (is_sync y ≡ true) × (x.id < y.id)
two_senders [] apart some = absurd (omega (arith, some))
two_senders (x ∷ nodes) apart some = by (is_sync x) refl (λ more. two_senders nodes (AllPairs-rest (λ a b. a.id < b.id) x nodes apart) more)
  where
    by : (b : Bool) → is_sync x ≡ b
        → (2 ≤ count_by is_sync nodes → (y : NodeSpec) × (z : NodeSpec) × Contains nodes y × Contains nodes z × (is_sync y ≡ true) × (is_sync z ≡ true) × (y.id < z.id))
        → (y : NodeSpec) × (z : NodeSpec) × Contains (x ∷ nodes) y × Contains (x ∷ nodes) z × (is_sync y ≡ true) × (is_sync z ≡ true) × (y.id < z.id)
    by true is rest =
        let more = count_yes is_sync x nodes is in
        let one = one_sender nodes (omega (arith, some, more)) in
        (x, one.0, Contains-here x nodes, Contains-there x nodes one.0 one.1, is, one.2, AllPairs-first (λ a b. a.id < b.id) x nodes one.0 apart one.1)
    by false is rest =
        let none = count_no is_sync x nodes is in
        let two = rest (omega (arith, some, none)) in
        (two.0, two.1, Contains-there x nodes two.0 two.2, Contains-there x nodes two.1 two.3, two.4, two.5, two.6)

-- two sync nodes lose the frames of each other and of so many others, as far as there are any: the one the first, the other the next
module _ (nodes : List NodeSpec) (k double : ℕ) (apart : Ascend nodes) (share : AllShare nodes) (x y : NodeSpec) (here : Contains nodes x) (there : Contains nodes y) where
  abbrev beyond : NodeSpec → Bool
  beyond a = others x.id a && not (a.id == y.id)

  abbrev first : ℕ → Bool
  first id = chosen beyond nodes k id

  abbrev left : NodeSpec → Bool
  left a = beyond a && not (first a.id)

  abbrev next : ℕ → Bool
  next id = chosen left nodes k id

  abbrev losing : ℕ → ℕ → Bool
  losing sender receiver = if receiver == x.id then sender == y.id || first sender else receiver == y.id && (sender == x.id || (not (first sender) && next sender))

  abbrev parting : Traffic
  parting = traffic_losing nodes losing

  module _ (key : is_sync x ≡ true) (other_key : is_sync y ≡ true) (less : x.id < y.id) where
    at_itself : (n : ℕ) → (n == n) ≡ true
    at_itself n = eq-eqb n n refl

    x_loses : (rate : Bool) → lacked rate parting double x ≤ suc (min k (count_by beyond nodes))
    x_loses rate =
        let test : NodeSpec → Bool = λ a. others x.id a && losing a.id x.id in
        let is = missed_is nodes losing share double rate x here in
        let le = all_but_one test y.id nodes apart in
        let same = count_same (λ (a : NodeSpec). test a && not (a.id == y.id)) (λ (a : NodeSpec). beyond a && first a.id) nodes
        (λ a among. ap (λ (b : Bool). (others x.id a && (if b then a.id == y.id || first a.id else x.id == y.id && (a.id == x.id || (not (first a.id) && next a.id)))) && not (a.id == y.id)) (at_itself x.id) ∙ by (others x.id a) (a.id == y.id) (first a.id)) in
        let counted = chosen_counted beyond nodes k apart in
        omega (arith, is, le, same, counted)
      where
        by : (o e f : Bool) → ((o && (e || f)) && not e) ≡ ((o && not e) && f)
        by true true f = refl
        by true false true = refl
        by true false false = refl
        by false e f = refl

    y_loses : (rate : Bool) → lacked rate parting double y ≤ suc (min k (count_by left nodes))
    y_loses rate =
        let test : NodeSpec → Bool = λ a. others y.id a && losing a.id y.id in
        let is = missed_is nodes losing share double rate y there in
        let le = all_but_one test x.id nodes apart in
        let same = count_same (λ (a : NodeSpec). test a && not (a.id == x.id)) (λ (a : NodeSpec). left a && next a.id) nodes
        (λ a among.
        ap₂ (λ (b c : Bool). (others y.id a && (if b then a.id == y.id || first a.id else c && (a.id == x.id || (not (first a.id) && next a.id)))) && not (a.id == x.id)) (other_id x.id y.id less) (at_itself y.id)
        ∙ by (is_sync a) (a.id == x.id) (a.id == y.id) (first a.id) (next a.id)) in
        let counted = chosen_counted left nodes k apart in
        omega (arith, is, le, same, counted)
      where
        by : (s e o f g : Bool) → (((s && not o) && (e || (not f && g))) && not e) ≡ ((((s && not e) && not o) && not f) && g)
        by false e o f g = refl
        by true true true f g = refl
        by true true false f g = refl
        by true false true f g = refl
        by true false false true g = refl
        by true false false false true = refl
        by true false false false false = refl

    -- so each loses the frames of no more than one and so many
    no_more_lost : (rate : Bool) (b : NodeSpec) → Contains nodes b → lacked rate parting double b ≤ k + 1
    no_more_lost rate b among = by (b.id == x.id) (b.id == y.id) refl refl
      where
        within : (n k m : ℕ) → n ≤ suc (min k m) → n ≤ k + 1
        within n k m le = grind arith

        same_id : (a b : ℕ) → (a == b) ≡ true → a ≡ b
        same_id a b is = grind (arith, nat_tests)

        as_of : (z : NodeSpec) → Contains nodes z → (b.id == z.id) ≡ true → lacked rate parting double z ≤ k + 1 → lacked rate parting double b ≤ k + 1
        as_of z at same le =
            let id : b.id ≡ z.id = same_id b.id z.id same in
            let is = missed_is nodes losing share double rate b among in
            let other = missed_is nodes losing share double rate z at in
            let e : count_by (λ a. others b.id a && losing a.id b.id) nodes ≡ count_by (λ a. others z.id a && losing a.id z.id) nodes = ap (λ (n : ℕ). count_by (λ a. others n a && losing a.id n) nodes) id in
            omega (arith, is, other, e, le)

        by : (one other : Bool) → (b.id == x.id) ≡ one → (b.id == y.id) ≡ other → lacked rate parting double b ≤ k + 1
        by true other is at = as_of x here is (within (lacked rate parting double x) k (count_by beyond nodes) (x_loses rate))
        by false true is at = as_of y there at (within (lacked rate parting double y) k (count_by left nodes) (y_loses rate))
        by false false is at =
            let lost = missed_is nodes losing share double rate b among in
            let none = count_nothing (λ (a : NodeSpec). others b.id a && losing a.id b.id) nodes
            (λ a. ap₂ (λ (c d : Bool). others b.id a && (if c then a.id == y.id || first a.id else d && (a.id == x.id || (not (first a.id) && next a.id)))) is at ∙ and_false (others b.id a)) in
            omega (arith, lost, none)

    so_few : LosesFew parting (k + 1) double
    so_few = record {
      few = λ rate b among correct. no_more_lost rate b among;
      clear = λ rate a b one other correct sends. heard_is nodes losing share double rate false a b one other ∙ sym (heard_is nodes losing share double rate true a b one other);
    }

    -- in common they have only those whose frames neither loses
    in_common : (rate : Bool) → common_count rate parting double x y ≡ count_by (λ a. left a && not (next a.id)) nodes
    in_common rate =
        staying parting (k + 1) double (none_is_arbitrary nodes losing share double) so_few (λ a among sends. refl) (λ a. has_value rate true parting double x a && has_value rate true parting double y a)
        ∙ count_same (λ (a : NodeSpec). is_correct_sender parting a && (has_value rate true parting double x a && has_value rate true parting double y a)) (λ (a : NodeSpec). left a && not (next a.id)) nodes
        (λ a among.
        ap₂ (λ (b c : Bool). is_correct_sender parting a && (b && c)) (heard_is nodes losing share double rate true a x among here ∙ ap (λ (b : Bool). a.id == x.id || not (if b then a.id == y.id || first a.id else x.id == y.id && (a.id == x.id || (not (first a.id) && next a.id)))) (at_itself x.id))
        (heard_is nodes losing share double rate true a y among there ∙ ap₂ (λ (b c : Bool). a.id == y.id || not (if b then a.id == y.id || first a.id else c && (a.id == x.id || (not (first a.id) && next a.id)))) (other_id x.id y.id less) (at_itself y.id))
        ∙ by (is_sync a) (a.id == x.id) (a.id == y.id) (first a.id) (next a.id) (λ one other. not_both a.id x.id y.id less one other))
      where
        not_both : (a b c : ℕ) → b < c → (a == b) ≡ true → (a == c) ≡ true → ⊥
        not_both a b c less one other = grind (arith, nat_tests)

        by : (s e o f g : Bool) → (e ≡ true → o ≡ true → ⊥)
            → ((s && not false) && ((e || not (o || f)) && (o || not (e || (not f && g))))) ≡ ((((s && not e) && not o) && not f) && not g)
        by false e o f g never = refl
        by true true true f g never = absurd (never refl refl)
        by true true false f g never = refl
        by true false true f g never = refl
        by true false false true g never = refl
        by true false false false true never = refl
        by true false false false false never = refl

    -- two more than these have a key slot
    two_more : count_by beyond nodes + 2 ≤ count_by is_sync nodes
    two_more =
        let one = count_less beyond (others y.id) nodes x (λ a. some_pass (is_sync a) (a.id == x.id) (a.id == y.id)) here
        (rw (key, at_itself x.id) refl) (rw (key, before x.id y.id less) refl) in
        let other = count_less (others y.id) is_sync nodes y (λ a. first_passes (is_sync a) (not (a.id == y.id))) there (rw (other_key, at_itself y.id) refl) other_key in
        omega (arith, one, other)
      where
        before : (a b : ℕ) → a < b → (a == b) ≡ false
        before a b less = grind (arith, nat_tests)

        some_pass : (s e o : Bool) → ((s && not e) && not o) ≡ true → (s && not o) ≡ true
        some_pass true true o is = absurd (cc)
        some_pass true false o is = is
        some_pass false e o is = absurd (cc)

        first_passes : (a b : Bool) → (a && b) ≡ true → a ≡ true
        first_passes true b is = refl
        first_passes false b is = absurd (cc)

    too_few : (rate : Bool) → may_miss (count_by is_sync nodes) (k + 1) ≡ false → two_meet rate parting double x y ≡ false
    too_few rate fails =
        let n : ℕ = count_by is_sync nodes in
        let all = all_send parting (none_is_arbitrary nodes losing share double) in
        let none = none_is_arbitrary nodes losing share double in
        let most = most_is parting (k + 1) double none so_few rate x here refl ∙ ap (λ (m : ℕ). m - lacked rate parting double x) all in
        let other = most_is parting (k + 1) double none so_few rate y there refl ∙ ap (λ (m : ℕ). m - lacked rate parting double y) all in
        let parts = parted beyond (λ (a : NodeSpec). first a.id) nodes in
        let halves = parted left (λ (a : NodeSpec). next a.id) nodes in
        ap₂ (λ (a b : ℕ). nat_lt (discarded a + discarded b) (common_count rate parting double x y)) most other
        ∙ step n k (lacked rate parting double x) (lacked rate parting double y) (count_by beyond nodes) (count_by left nodes) (count_by (λ a. left a && not (next a.id)) nodes)
        (count_by (λ a. beyond a && first a.id) nodes) (count_by (λ a. left a && next a.id) nodes) (common_count rate parting double x y)
        (x_loses rate) (y_loses rate) two_more parts halves (chosen_counted beyond nodes k apart) (chosen_counted left nodes k apart) (in_common rate) fails
      where
        more_discarded : (a b : ℕ) → a ≤ b → discarded a ≤ discarded b
        more_discarded a b le = grind (arith, nat_tests)

        fewer_left : (n a k m : ℕ) → a ≤ suc (min k m) → n - (k + 1) ≤ n - a
        fewer_left n a k m le = grind arith

        small : (n k d e f two one rest left p q common : ℕ) → d ≤ e → d ≤ f → two + 2 ≤ n → one + p ≡ two → rest + q ≡ one → p ≡ min k two → q ≡ min k one → common ≡ rest
            → nat_lt (2 * ((k + 1) + d)) n ≡ false → nat_lt (e + f) common ≡ false
        small n k d e f two one rest left p q common le less more parts halves first next is fails = grind (arith, nat_tests)

        step : (n k a b two one rest p q common : ℕ) → a ≤ suc (min k two) → b ≤ suc (min k one) → two + 2 ≤ n → one + p ≡ two → rest + q ≡ one → p ≡ min k two → q ≡ min k one
            → common ≡ rest → may_miss n (k + 1) ≡ false → nat_lt (discarded (n - a) + discarded (n - b)) common ≡ false
        step n k a b two one rest p q common le less more parts halves first next is fails =
            small n k (discarded (n - (k + 1))) (discarded (n - a)) (discarded (n - b)) two one rest 0 p q common (more_discarded (n - (k + 1)) (n - a) (fewer_left n a k two le))
            (more_discarded (n - (k + 1)) (n - b) (fewer_left n b k one less)) more parts halves first next is fails

    parts_lists : (rate : Bool) → may_miss (count_by is_sync nodes) (k + 1) ≡ false → lists_meet rate parting double ≡ false
    parts_lists rate fails = by (lists_meet rate parting double) refl
      where
        never : (a b : Bool) → a ≡ false → b ≡ false → (a || b) ≡ true → ⊥
        never a b one other either = cc

        by : (b : Bool) → lists_meet rate parting double ≡ b → b ≡ false
        by false is = refl
        by true is =
            let has : has_and_meets rate parting double x ≡ true = all_pass (λ (b : NodeSpec). not (may_receive parting double b) || has_and_meets rate parting double b) nodes x is here in
            let meets = (and_parts (nat_le 1 (sure_count rate parting double x)) (meets_each rate parting double x) has).1 in
            let either : (x.id == y.id || two_meet rate parting double x y) ≡ true = all_pass (λ (c : NodeSpec). not (may_receive parting double c) || (x.id == c.id || two_meet rate parting double x c)) nodes y meets there in
            absurd (never (x.id == y.id) (two_meet rate parting double x y) (before x.id y.id less) (too_few rate fails) either)
          where
            before : (a b : ℕ) → a < b → (a == b) ≡ false
            before a b less = grind (arith, nat_tests)

pub one_more_may_part : OneMoreMayPart
one_more_may_part p missed double sane share some most =
    let nodes : List NodeSpec = p.nodes in
    let apart = sane.lists.nodes_ascend in
    let senders : sync_nodes p ≡ count_by is_sync nodes = keys_counted nodes in
    let two = two_senders nodes apart (subst (λ (n : ℕ). 2 ≤ n) senders some) in
    let fails : may_miss (count_by is_sync nodes) (missed + 1) ≡ false = subst (λ (n : ℕ). may_miss n (missed + 1) ≡ false) senders (most.no_more (missed + 1) (omega arith)) in (
      losing nodes missed double apart share two.0 two.1 two.2 two.3,
      so_few nodes missed double apart share two.0 two.1 two.2 two.3 two.4 two.5 two.6,
      parts_lists nodes missed double apart share two.0 two.1 two.2 two.3 two.4 two.5 two.6 false fails,
      parts_lists nodes missed double apart share two.0 two.1 two.2 two.3 two.4 two.5 two.6 true fails,
    )
