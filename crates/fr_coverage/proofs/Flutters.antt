-- The flutter of a run is the greatest, and how it goes along the cycles of a link.
use Rattle.std.proofs.Common.{◌≡◌, ℕ, ℤ, suc, ◌*◌, ◌-◌, ◌/◌, ◌%◌, ◌<◌, ◌≤◌, true, Option, Some, None, ap, sym, ◌∙◌, refl, arith, ◌⊎◌, inl, inr}
use Rattle.std.specs.Prelude.{Contains, max, nat_abs, nat_le, ◌-ℤ◌, ◌==◌, if◌then◌else◌}
use Rattle.fr_base.specs.declared.channel.Channel.{Channel}
use Rattle.fr_base.specs.declared.channel.Channel.TheVariants as channel
use Rattle.fr_cluster.specs.Values.{Values}
use Rattle.fr_cluster.specs.declared.nodes.NodeSpec.{NodeSpec}
use Rattle.fr_drift.specs.Questions.{delay_of, doubles_of}
use Rattle.fr_drift.specs.View.{DriftView}
use Rattle.fr_script.specs.View.{ScriptView}
use Rattle.fr_coverage.specs.Links.{is_link, shares}
use Rattle.fr_coverage.specs.Flutter.{fluttering_in, greatest_between, greatest_in, flutter_between, flutter_from, flutter_in, flutter_on, told_below, told_of_two, FlutterFalls, FlutterGapsAreFound, FlutterIsGreatest, FluttersBy, HasOneFlutter, IsFlutterGap, IsFlutterOf}
use Rattle.fr_coverage.specs.First.{from_on}
use Rattle.fr_coverage.specs.declared.gap.Fluttering.{Fluttering}
use Rattle.fr_coverage.proofs.First.{from-behind, from-none}
use Rattle.fr_coverage.proofs.Greatest.{most-below, most-either, most-from, most-in, most-one, most-same, most-where, IsMost, OfOne, Under}
use Rattle.fr_coverage.proofs.Told.{told-alone, told-next, told-skip}

-- ---- along the cycles of a link

nothing-apart : (t : ℤ) → nat_abs (t -ℤ t) ≡ 0
nothing-apart t = grind arith

-- a double cycle both of whose cycles lie where the delay stays does not flutter
stays-still : (d : DriftView) (i j : ℕ) (ch : Channel) (double : ℕ) (ticks : ℤ) → delay_of d i j ch (suc (2 * double)) ≡ ticks → delay_of d i j ch (2 * double) ≡ ticks
    → flutter_in d i j ch double ≡ 0
stays-still d i j ch double ticks odd even =
    ap (λ (t : ℤ). nat_abs (t -ℤ delay_of d i j ch (2 * double))) odd ∙ ap (λ (t : ℤ). nat_abs (ticks -ℤ t)) even ∙ nothing-apart ticks

-- where the two agree nothing is told
still : (n : ℕ) (place : Fluttering) → n ≡ 0 → (if n == 0 then None else Some place) ≡ None
still n place e = rw e refl

-- from a cycle to the next one at which a row may begin: an odd cycle counts its double cycle, and all others up to there stay
pub turns-on : (d : DriftView) (i j : ℕ) (ch : Channel) (from cycle next : ℕ) (told turn : Option Fluttering) → cycle < next → 2 * from ≤ cycle
    → told ≡ told_below (from_on from (fluttering_in d i j ch)) (cycle / 2)
    → (cycle % 2 ≡ 1 → turn ≡ fluttering_in d i j ch (cycle / 2)) → (cycle % 2 ≡ 0 → turn ≡ None)
    → ((c : ℕ) → cycle ≤ c → c < next → delay_of d i j ch c ≡ delay_of d i j ch cycle)
    → told_of_two told turn ≡ told_below (from_on from (fluttering_in d i j ch)) (next / 2)
turns-on d i j ch from cycle next told turn after behind so_far odd even stays = by (parity cycle)
  where
    f : ℕ → Option Fluttering
    f = from_on from (fluttering_in d i j ch)

    parity : (n : ℕ) → (n % 2 ≡ 1) ⊎ (n % 2 ≡ 0)
    parity n = grind arith

    quiet : (k : ℕ) → cycle ≤ 2 * k → k < next / 2 → f k ≡ None
    quiet k low to =
        from-none (fluttering_in d i j ch) from k
        (still (flutter_in d i j ch k) _
        (stays-still d i j ch k (delay_of d i j ch cycle) (stays (suc (2 * k)) (omega arith) (omega arith)) (stays (2 * k) low (omega arith))))

    by : (cycle % 2 ≡ 1) ⊎ (cycle % 2 ≡ 0) → told_of_two told turn ≡ told_below f (next / 2)
    by (inl one) =
        ap (told_of_two told) (odd one ∙ sym (from-behind (fluttering_in d i j ch) from (cycle / 2) (omega arith)))
        ∙ ap (λ (o : Option Fluttering). told_of_two o (f (cycle / 2))) so_far ∙ sym (told-next f (cycle / 2))
        ∙ sym (told-skip f (suc (cycle / 2)) (next / 2) (omega arith) (λ k low to. quiet k (omega arith) to))
    by (inr none) =
        ap (told_of_two told) (even none) ∙ told-alone told ∙ so_far
        ∙ sym (told-skip f (cycle / 2) (next / 2) (omega arith) (λ k low to. quiet k (omega arith) to))

-- the two cycles of the double cycle of an odd one
pub turn-is : (d : DriftView) (i j : ℕ) (ch : Channel) (cycle : ℕ) → cycle % 2 ≡ 1
    → nat_abs (delay_of d i j ch cycle -ℤ delay_of d i j ch (cycle - 1)) ≡ flutter_in d i j ch (cycle / 2)
turn-is d i j ch cycle one =
    let late : cycle ≡ suc (2 * (cycle / 2)) = omega arith in
    let early : cycle - 1 ≡ 2 * (cycle / 2) = omega arith in
    ap (λ (n : ℕ). nat_abs (delay_of d i j ch n -ℤ delay_of d i j ch (cycle - 1))) late
    ∙ ap (λ (n : ℕ). nat_abs (delay_of d i j ch (suc (2 * (cycle / 2))) -ℤ delay_of d i j ch n)) early

-- ---- what it is

module _ (p : Values) (d : DriftView) (s : ScriptView) (from : ℕ) where
  abbrev OnChannel : NodeSpec → NodeSpec → Channel → ℕ → Type 0
  OnChannel a b ch t = (shares a b ch ≡ true) × Under (λ k u. (from ≤ k) × (flutter_in d a.id b.id ch k ≡ u)) (doubles_of d) t

  abbrev OnLink : NodeSpec → NodeSpec → ℕ → Type 0
  OnLink a b t = (is_link s a b ≡ true) × (OnChannel a b channel.A t ⊎ OnChannel a b channel.B t)

  abbrev OfPair : ℕ → Type 0
  OfPair = OfOne (λ a. OfOne (λ b. OnLink a b) p.nodes) p.nodes

  on_channel : (a b : NodeSpec) (ch : Channel) → IsMost (OnChannel a b ch) (flutter_on d from a b ch)
  on_channel a b ch =
      most-where (Under (λ k u. (from ≤ k) × (flutter_in d a.id b.id ch k ≡ u)) (doubles_of d)) (shares a b ch)
      (greatest_between (flutter_in d a.id b.id ch) from (doubles_of d))
      (most-below (λ k u. (from ≤ k) × (flutter_in d a.id b.id ch k ≡ u)) (λ n. if nat_le from n then flutter_in d a.id b.id ch n else 0) (doubles_of d)
      (most-from (λ k u. flutter_in d a.id b.id ch k ≡ u) (flutter_in d a.id b.id ch) from (λ k. most-one (flutter_in d a.id b.id ch k))))

  on_link : (a b : NodeSpec) → IsMost (OnLink a b) (flutter_between d s from a b)
  on_link a b =
      most-where (λ t. OnChannel a b channel.A t ⊎ OnChannel a b channel.B t) (is_link s a b) (max (flutter_on d from a b channel.A) (flutter_on d from a b channel.B))
      (most-either (OnChannel a b channel.A) (OnChannel a b channel.B) (flutter_on d from a b channel.A) (flutter_on d from a b channel.B) (on_channel a b channel.A) (on_channel a b channel.B))

  of_pairs : IsMost OfPair (greatest_in (λ a. greatest_in (flutter_between d s from a) p.nodes) p.nodes)
  of_pairs =
      most-in (λ a. OfOne (λ b. OnLink a b) p.nodes) (λ a. greatest_in (flutter_between d s from a) p.nodes) p.nodes
      (λ a. most-in (λ b. OnLink a b) (flutter_between d s from a) p.nodes (λ b. on_link a b))

  flutters_on : (a b : NodeSpec) (ch : Channel) (t : ℕ) → Contains p.nodes a → Contains p.nodes b → is_link s a b ≡ true → OnChannel a b ch t → FluttersBy p d s from t
  flutters_on a b ch t first second link w = record {
    sender = a;
    receiver = b;
    sender_there = first;
    receiver_there = second;
    link = link;
    ch = ch;
    shared = w.0;
    double = w.1.0;
    behind = w.1.2.0;
    within = w.1.1;
    differs = w.1.2.1;
  }

  flutters_of : (a b : NodeSpec) (t : ℕ) → Contains p.nodes a → Contains p.nodes b → is_link s a b ≡ true → OnChannel a b channel.A t ⊎ OnChannel a b channel.B t → FluttersBy p d s from t
  flutters_of a b t first second link (inl w) = flutters_on a b channel.A t first second link w
  flutters_of a b t first second link (inr w) = flutters_on a b channel.B t first second link w

  either_channel : (a b : NodeSpec) (ch : Channel) (t : ℕ) → OnChannel a b ch t → OnChannel a b channel.A t ⊎ OnChannel a b channel.B t
  either_channel a b channel.A t w = inl w
  either_channel a b channel.B t w = inr w

  pub flutter_most : IsMost (FluttersBy p d s from) (flutter_from p d s from)
  unfolding flutter_from
  flutter_most =
      most-same OfPair (FluttersBy p d s from) _ of_pairs
      (λ t w. flutters_of w.0 w.2.0 t w.1 w.2.1 w.2.2.0 w.2.2.1)
      (λ t w. (w.sender, w.sender_there, (w.receiver, w.receiver_there, (w.link, either_channel w.sender w.receiver w.ch t (w.shared, (w.double, w.within, (w.behind, w.differs)))))))

pub flutter_is_greatest : FlutterIsGreatest
flutter_is_greatest p d s from = let most = flutter_most p d s from in record { most = most.above; reached = most.reached }

pub has_one_flutter : HasOneFlutter
has_one_flutter p d s from one other a b =
    let low : one ≤ other = no_more p d s from one other a.reached b in
    let high : other ≤ one = no_more p d s from other one b.reached a in
    omega (arith, low, high)
  where
    no_more : (p : Values) (d : DriftView) (s : ScriptView) (from m n : ℕ) → (m ≡ 0) ⊎ FluttersBy p d s from m → IsFlutterOf p d s from n → m ≤ n
    no_more p d s from m n (inl e) is = omega (arith, e)
    no_more p d s from m n (inr w) is = is.most m w

pub flutter_gaps_are_found : FlutterGapsAreFound
flutter_gaps_are_found p d s from stated = (λ none. no_more none (flutter_most p d s from).reached, λ most gap. above most gap)
  where
    no_more : (IsFlutterGap p d s from stated → ⊥) → (flutter_from p d s from ≡ 0) ⊎ FluttersBy p d s from (flutter_from p d s from) → flutter_from p d s from ≤ stated
    no_more none (inl e) = omega (arith, e)
    no_more none (inr w) = by (less stated (flutter_from p d s from))
      where
        less : (m n : ℕ) → (n ≤ m) ⊎ (m < n)
        less m n = grind arith

        by : (flutter_from p d s from ≤ stated) ⊎ (stated < flutter_from p d s from) → flutter_from p d s from ≤ stated
        by (inl le) = le
        by (inr more) = absurd (none (record { ticks = flutter_from p d s from; flutters = w; more = more }))

    above : flutter_from p d s from ≤ stated → IsFlutterGap p d s from stated → ⊥
    above most gap = let le = (flutter_most p d s from).above gap.ticks gap.flutters in let more = gap.more in omega (arith, le, more, most)

-- the flutter falls, since what flutters from a later double cycle on does from an earlier one on
earlier-on : (p : Values) (d : DriftView) (s : ScriptView) (from later ticks : ℕ) → from ≤ later → FluttersBy p d s later ticks → FluttersBy p d s from ticks
earlier-on p d s from later ticks le w = record {
  sender = w.sender;
  receiver = w.receiver;
  sender_there = w.sender_there;
  receiver_there = w.receiver_there;
  link = w.link;
  ch = w.ch;
  shared = w.shared;
  double = w.double;
  behind = (let low = w.behind in omega arith);
  within = w.within;
  differs = w.differs;
}

pub flutter_falls : FlutterFalls
flutter_falls p d s from later le = by (flutter_most p d s later).reached
  where
    by : (flutter_from p d s later ≡ 0) ⊎ FluttersBy p d s later (flutter_from p d s later) → flutter_from p d s later ≤ flutter_from p d s from
    by (inl e) = omega (arith, e)
    by (inr w) = (flutter_most p d s from).above (flutter_from p d s later) (earlier-on p d s from later (flutter_from p d s later) le w)
