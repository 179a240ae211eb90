-- A node that surely has a value is not deaf; so none is where the lists of any two correct nodes meet.
use Rattle.std.proofs.Common.{◌≡◌, ℕ, ◌+◌, ◌*◌, ◌==◌, ◌&&◌, ◌||◌, Bool, true, false, not, List, [], ◌∷◌, refl, ◌∙◌, arith, if◌then◌else◌}
use Rattle.std.specs.Prelude.{Contains, count_by, nat_le}
use Rattle.std.specs.List.{list_all, list_any}
use Rattle.std.proofs.lemmas.Bool.{and_parts, not-true}
use Rattle.std.proofs.lemmas.Bool.Decides.{nat_tests}
use Rattle.fr_base.specs.Event.{Event}
use Rattle.fr_base.specs.declared.channel.Channel.{Channel}
use Rattle.fr_base.specs.declared.channel.Channel.TheVariants.{A, B}
use Rattle.fr_cluster.specs.Setting.{Setting, correct_nodes}
use Rattle.fr_runs.proofs.Nodes.{correct_node}
use Rattle.fr_sharp.specs.Bearing.{ThroughIsApart}
use Rattle.fr_cluster.specs.declared.nodes.NodeSpec.{NodeSpec}
use Rattle.fr_cluster.proofs.Elements.{Contains-here, Contains-there}
use Rattle.fr_coverage.specs.Links.{is_sync, shares}
use Rattle.fr_precision.proofs.Counting.{count_no}
use Rattle.fr_traffic.specs.Traffic.{comes, has_and_meets, has_begun, has_value, is_correct_sender, is_deaf, lacks_values, lists_meet, may_reach, may_receive, may_say, meets_each, none_lacks, stays, sure_count, traffic_of, value_on, Traffic}
use Rattle.fr_runs.proofs.KeyedCounts.{all_pass}

-- ---- what may not come surely does not

surely_less : (e : Event) → comes false e ≡ false → comes true e ≡ false
surely_less e fails = grind arith

both_fail : (a b c d : Bool) → (b ≡ false → d ≡ false) → (a && b) ≡ false → (a && d) ≡ false
both_fail true b c d less fails = less fails
both_fail false b c d less fails = refl

three_fail : (a b c d e : Bool) → (b ≡ false → d ≡ false) → (c ≡ false → e ≡ false) → ((a && b) && c) ≡ false → ((a && d) && e) ≡ false
three_fail false b c d e one two fails = refl
three_fail true false c d e one two fails = rw (one refl) refl
three_fail true true c true e one two fails = two fails
three_fail true true c false e one two fails = refl

none_on : (rate : Bool) (t : Traffic) (a b : NodeSpec) (double : ℕ) (channel : Channel) → value_on rate false t a b double channel ≡ false → value_on rate true t a b double channel ≡ false
none_on false t a b double channel fails =
    let late = t.event (2 * double + 1) a.id b.id channel in
    both_fail (shares a b channel) (comes false late) true (comes true late) (surely_less late) fails
none_on true t a b double channel fails =
    let early = t.event (2 * double) a.id b.id channel in
    let late = t.event (2 * double + 1) a.id b.id channel in
    three_fail (shares a b channel) (comes false early) (comes false late) (comes true early) (comes true late) (surely_less early) (surely_less late) fails

none_of : (a b c : Bool) → (a || (b || c)) ≡ false → (a ≡ false) × (b ≡ false) × (c ≡ false)
none_of false false false fails = (refl, refl, refl)
none_of false false true fails = absurd (cc)
none_of false true c fails = absurd (cc)
none_of true b c fails = absurd (cc)

surely_none : (rate : Bool) (t : Traffic) (double : ℕ) (b a : NodeSpec) → has_value rate false t double b a ≡ false → has_value rate true t double b a ≡ false
surely_none rate t double b a fails =
    let three = none_of (a.id == b.id) (value_on rate false t a b double A) (value_on rate false t a b double B) fails in
    rw (three.0, none_on rate t a b double A three.1, none_on rate t a b double B three.2) refl

-- ---- a deaf node has no value of any sender

both_none : (a b : Bool) → (a || b) ≡ false → (a ≡ false) × (b ≡ false)
both_none false b fails = (refl, fails)
both_none true b fails = absurd (cc)

misses : (rate : Bool) (t : Traffic) (double : ℕ) (b : NodeSpec) (nodes : List NodeSpec) → list_any (λ (a : NodeSpec). is_sync a && may_reach rate t double b a) nodes ≡ false
    → count_by (λ (a : NodeSpec). is_correct_sender t a && (stays t a && has_value rate true t double b a)) nodes ≡ 0
misses rate t double b [] none = refl
misses rate t double b (a ∷ nodes) none =
    let both = both_none (is_sync a && may_reach rate t double b a) (list_any (λ (c : NodeSpec). is_sync c && may_reach rate t double b c) nodes) none in
    let rest = misses rate t double b nodes both.1 in
    let said = may_say rate t a b double A || may_say rate t a b double B in
    let one = each (is_sync a) (t.is_arbitrary a.id) said (has_value rate false t double b a) (stays t a) (has_value rate true t double b a) (surely_none rate t double b a) both.0 in
    count_no (λ (c : NodeSpec). is_correct_sender t c && (stays t c && has_value rate true t double b c)) a nodes one ∙ rest
  where
    each : (a c said m e v : Bool) → (m ≡ false → v ≡ false) → (a && (if c then said else m)) ≡ false → ((a && not c) && (e && v)) ≡ false
    each false c said m e v less fails = refl
    each true true said m e v less fails = refl
    each true false said m false v less fails = refl
    each true false said m true v less fails = less fails

-- so a node that surely has a value is none
pub sure_is_awake : (rate : Bool) (t : Traffic) (double : ℕ) (b : NodeSpec) → nat_le 1 (sure_count rate t double b) ≡ true → is_deaf rate t double b ≡ false
sure_is_awake rate t double b some = by (is_deaf rate t double b) refl
  where
    never : (n : ℕ) → n ≡ 0 → nat_le 1 n ≡ true → ⊥
    never n none some = grind (arith, nat_tests)

    by : (deaf : Bool) → is_deaf rate t double b ≡ deaf → deaf ≡ false
    by false is = refl
    by true is =
        let test : NodeSpec → Bool = λ a. is_sync a && may_reach rate t double b a in
        let none = not-true (list_any test t.nodes) (and_parts (not (is_sync b)) (not (list_any test t.nodes)) is).1 in
        absurd (never (sure_count rate t double b) (misses rate t double b t.nodes none) some)

all_of : {X : Type 0} (test : X → Bool) (xs : List X) → ((x : X) → Contains xs x → test x ≡ true) → list_all test xs ≡ true
all_of test [] each = refl
all_of test (x ∷ xs) each =
    let here = each x (Contains-here x xs) in
    let rest = all_of test xs (λ y among. each y (Contains-there x xs y among)) in
    rw (here, rest) refl

-- where the lists of both kinds of any two meet that have begun, and all have, none lacks values
pub meeting_is_awake : (t : Traffic) (double : ℕ) → ((b : NodeSpec) → Contains t.nodes b → t.is_arbitrary b.id ≡ false → has_begun (t.join b.id) double ≡ true)
    → lists_meet false t double ≡ true → lists_meet true t double ≡ true → none_lacks t double ≡ true
meeting_is_awake t double begun offsets rates = all_of (λ (b : NodeSpec). t.is_arbitrary b.id || not (lacks_values t double b)) t.nodes (λ b here. by b here (t.is_arbitrary b.id) refl)
  where
    right : (a b : Bool) → a ≡ true → (not a || b) ≡ true → b ≡ true
    right true b is either = either
    right false b is either = absurd (cc)

    awake : (rate : Bool) (b : NodeSpec) → Contains t.nodes b → t.is_arbitrary b.id ≡ false → lists_meet rate t double ≡ true → is_deaf rate t double b ≡ false
    awake rate b here correct meet =
        let receives : may_receive t double b ≡ true = rw (correct, begun b here correct) refl in
        let either = all_pass (λ (c : NodeSpec). not (may_receive t double c) || has_and_meets rate t double c) t.nodes b meet here in
        let has = right (may_receive t double b) (has_and_meets rate t double b) receives either in
        sure_is_awake rate t double b (and_parts (nat_le 1 (sure_count rate t double b)) (meets_each rate t double b) has).0

    by : (b : NodeSpec) → Contains t.nodes b → (arbitrary : Bool) → t.is_arbitrary b.id ≡ arbitrary → (arbitrary || not (lacks_values t double b)) ≡ true
    by b here true is = refl
    by b here false is =
        let one = awake false b here is offsets in
        let other = awake true b here is rates in
        rw (one, other) refl

-- where none lacks values each has values of both kinds
pub none_is_deaf_of : (x : Setting) (double : ℕ) (node : NodeSpec) → none_lacks (traffic_of x) double ≡ true → Contains (correct_nodes x) node
    → (is_deaf false (traffic_of x) double node ≡ false) × (is_deaf true (traffic_of x) double node ≡ false)
none_is_deaf_of x double node none there =
    let correct = correct_node x node there in
    let is = all_pass (λ (b : NodeSpec). x.is_arbitrary b.id || not (lacks_values (traffic_of x) double b)) x.params.nodes node none correct.there in
    both (x.is_arbitrary node.id) (is_deaf false (traffic_of x) double node) (is_deaf true (traffic_of x) double node) correct.correct is
  where
    both : (a b c : Bool) → a ≡ false → (a || not (b || c)) ≡ true → (b ≡ false) × (c ≡ false)
    both false false false fails is = (refl, refl)
    both false false true fails is = absurd (cc)
    both false true c fails is = absurd (cc)
    both true b c fails is = absurd (cc)

pub through_is_apart : ThroughIsApart
through_is_apart x h double apart keeps none = record {
  skew = keeps.skew;
  ends = λ earlier even odd d.
      let ends = keeps.ends earlier even odd d in
      record {
        offset_within = λ node there. ends.offset_within node there (none_is_deaf_of x double node none there).0;
        rate_within = λ node there. ends.rate_within node there (none_is_deaf_of x double node none there).1;
        uncut_even = ends.uncut_even;
        uncut_odd = ends.uncut_odd;
        active = ends.active;
      };
}
