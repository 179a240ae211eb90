-- The numbers by what is heard: how they go on, and which lie below which.
use Rattle.std.proofs.Common.{◌≡◌, ℕ, zero, suc, ◌+◌, ◌*◌, ◌-◌, ◌≤◌, Bool, true, false, refl, ap, sym, ◌∙◌, subst, arith}
use Rattle.std.specs.Prelude.{◌/◌}
use Rattle.fr_cluster.specs.Values.{Values, amount}
use Rattle.fr_cluster.specs.declared.names.ParamName.TheVariants as name
use Rattle.fr_bound.specs.Bounds.{arrival_error, cycle_change, longest_micro}
use Rattle.fr_bound.specs.Judged.{heard_spread}
use Rattle.fr_bound.specs.SharpBounds.{odd_spread, sharp_lambda, sharp_pi, steady_error, wide_change}
use Rattle.fr_bound.specs.SharpSpreads.{lost_lengths, lost_starts, next_lost_spread, next_sharp_spread, sharp_spread}
use Rattle.fr_bound.specs.declared.judging.Heard.{Heard}
use Rattle.fr_bound.specs.declared.judging.Heard.TheVariants.{Clean, Meeting, Poor}
use Rattle.fr_bound.specs.declared.settling.Spread.{Spread}
use Rattle.fr_precision.specs.Among.{all_or_any, both, kinds_spread, lost_spread, spread_through_losses, CleanAgain, GoesTo, IsNot, LaterSpreadsAreLess, LengthsGoTo, LostIsBy, MeetingStays, SpreadsAreBelowLost, SpreadsGo, StartsGoTo}
use Rattle.fr_precision.specs.declared.kinds.Kinds.{Kinds}
use Rattle.fr_promise.proofs.LossOrder.{always_wide, below_itself, lost_rises, next_below, next_calm, through, IsBelow, IsWide}
use Rattle.fr_precision.proofs.SettlingLemmas.{next_spread_draws}

le_itself : (n : ℕ) → n ≤ n
le_itself n = omega arith

-- ---- as the step asks for

starts_by : (what : Heard) (p : Values) (flutter : ℕ) (s : Spread) → StartsGoTo what p s.starts s.lengths (heard_spread what p flutter s).starts
starts_by Clean p flutter s = (next_spread_draws false p flutter s).0
starts_by Meeting p flutter s = (next_spread_draws true p flutter s).0
starts_by Poor p flutter s = le_itself (lost_starts p s.starts s.lengths)

lengths_by : (what : Heard) (p : Values) (flutter : ℕ) (s : Spread) → LengthsGoTo what p flutter s.lengths (heard_spread what p flutter s).lengths
lengths_by Clean p flutter s = (next_spread_draws false p flutter s).1
lengths_by Meeting p flutter s = (next_spread_draws true p flutter s).1
lengths_by Poor p flutter s = le_itself (lost_lengths p flutter s.lengths)

pub goes_by : (what : Kinds) (p : Values) (flutter : ℕ) (s : Spread) → GoesTo what p flutter s.starts s.lengths (kinds_spread what p flutter s).starts (kinds_spread what p flutter s).lengths
goes_by what p flutter s = (starts_by what.offsets p flutter s, lengths_by what.rates p flutter s)

pub spreads_go : SpreadsGo
unfolding spread_through_losses
spreads_go beside p flutter what k = goes_by (what k) p flutter (spread_through_losses beside p flutter what k)

-- the next lengths, where it is known what is heard of rates, and the next numbers, where it is known of both
next_long : (beside : Bool) (p : Values) (flutter : ℕ) (what : ℕ → Kinds) (k : ℕ) (heard : Heard) → (what k).rates ≡ heard
    → (spread_through_losses beside p flutter what (suc k)).lengths ≡ (heard_spread heard p flutter (spread_through_losses beside p flutter what k)).lengths
unfolding spread_through_losses
next_long beside p flutter what k heard is = ap (λ (h : Heard). (heard_spread h p flutter (spread_through_losses beside p flutter what k)).lengths) is

next_by : (beside : Bool) (p : Values) (flutter : ℕ) (what : ℕ → Kinds) (k : ℕ) (heard : Kinds) → what k ≡ heard
    → spread_through_losses beside p flutter what (suc k) ≡ kinds_spread heard p flutter (spread_through_losses beside p flutter what k)
unfolding spread_through_losses
next_by beside p flutter what k heard is = ap (λ (h : Kinds). kinds_spread h p flutter (spread_through_losses beside p flutter what k)) is

pub clean_again : CleanAgain
clean_again p flutter what k first second =
    let long : (spread_through_losses false p flutter what (suc k)).lengths ≡ sharp_lambda false p flutter = next_long false p flutter what k Clean first in
    let two = next_by false p flutter what (suc k) (both Clean) second in
    let start : (spread_through_losses false p flutter what (suc (suc k))).starts ≡ odd_spread p (spread_through_losses false p flutter what (suc k)).lengths + 2 * arrival_error p + 3 * longest_micro p =
    ap (λ (s : Spread). s.starts) two in
    (ap (λ (s : Spread). s.lengths) two, omega (arith, start, long))

-- ---- greater numbers give greater ones

meeting_below : (p : Values) (flutter : ℕ) (s t : Spread) → IsBelow s t → IsBelow (next_sharp_spread true p flutter s) (next_sharp_spread true p flutter t)
meeting_below p flutter s t below = record {
  start = starts s.starts s.lengths t.starts t.lengths (cycle_change p) (arrival_error p) (longest_micro p) below.start below.long;
  long = lengths s.lengths t.lengths (sharp_lambda true p flutter) below.long;
}
  where
    starts : (s k t m j e q : ℕ) → s ≤ t → k ≤ m → (s + k + 2 * (k + 2 * j) + 4 * e + 7 * q) / 2 ≤ (t + m + 2 * (m + 2 * j) + 4 * e + 7 * q) / 2
    starts s k t m j e q a b = omega (arith, a, b)

    lengths : (k m l : ℕ) → k ≤ m → (k + l) / 2 ≤ (m + l) / 2
    lengths k m l le = omega (arith, le)

heard_below : (what : Heard) (p : Values) (flutter : ℕ) (s t : Spread) → IsBelow s t → IsBelow (heard_spread what p flutter s) (heard_spread what p flutter t)
heard_below Clean p flutter s t below = next_below p flutter true s t below
heard_below Meeting p flutter s t below = meeting_below p flutter s t below
heard_below Poor p flutter s t below = next_below p flutter false s t below

kinds_below : (what : Kinds) (p : Values) (flutter : ℕ) (s t : Spread) → IsBelow s t → IsBelow (kinds_spread what p flutter s) (kinds_spread what p flutter t)
kinds_below what p flutter s t below = record { start = (heard_below what.offsets p flutter s t below).start; long = (heard_below what.rates p flutter s t below).long }

pub lambda_alone : (p : Values) (flutter : ℕ)
    → sharp_lambda false p flutter ≡ 2 * steady_error p flutter + longest_micro p + 2 * (amount p name.pClusterDriftDamping * longest_micro p) + 2 * cycle_change p
lambda_alone p flutter = refl

lambda_beside : (p : Values) (flutter : ℕ) → sharp_lambda true p flutter ≡ 2 * sharp_lambda false p flutter
lambda_beside p flutter = twice (steady_error p flutter) (longest_micro p) (amount p name.pClusterDriftDamping * longest_micro p) (cycle_change p)
  where
    twice : (e q c j : ℕ) → 4 * e + 2 * q + 4 * c + 4 * j ≡ 2 * (2 * e + q + 2 * c + 2 * j)
    twice e q c j = omega arith

-- ---- none is less than in sharp sync

sync_below : (beside : Bool) (what : Heard) (p : Values) (flutter : ℕ) → (beside ≡ true → what ≡ Clean → ⊥) → IsBelow (sharp_spread beside p flutter) (heard_spread what p flutter (sharp_spread beside p flutter))
sync_below false Clean p flutter never = next_calm p flutter true
sync_below true Clean p flutter never = absurd (never refl refl)
sync_below beside Poor p flutter never = lost_rises p flutter (sharp_spread beside p flutter)
sync_below false Meeting p flutter never = record {
  start = starts (sharp_pi false p flutter) (sharp_lambda false p flutter) (cycle_change p) (arrival_error p) (longest_micro p) refl;
  long = lengths (sharp_lambda false p flutter) (sharp_lambda true p flutter) (lambda_beside p flutter);
}
  where
    starts : (pi l j e q : ℕ) → pi ≡ (l + 2 * j) + 2 * e + 3 * q → pi ≤ (pi + l + 2 * (l + 2 * j) + 4 * e + 7 * q) / 2
    starts pi l j e q is = omega (arith, is)

    lengths : (l b : ℕ) → b ≡ 2 * l → l ≤ (l + b) / 2
    lengths l b is = omega (arith, is)
sync_below true Meeting p flutter never = record {
  start = starts (sharp_pi true p flutter) (sharp_lambda true p flutter) (cycle_change p) (arrival_error p) (longest_micro p) refl;
  long = lengths (sharp_lambda true p flutter);
}
  where
    starts : (pi l j e q : ℕ) → pi ≡ 3 * l + 4 * j + 4 * e + 7 * q → pi ≤ (pi + l + 2 * (l + 2 * j) + 4 * e + 7 * q) / 2
    starts pi l j e q is = omega (arith, is)

    lengths : (l : ℕ) → l ≤ (l + l) / 2
    lengths l = omega arith

module _ (beside : Bool) (p : Values) (flutter : ℕ) (what : ℕ → Kinds) (never : beside ≡ true → (m : ℕ) → IsNot Clean (what m)) where
  none_less : (k : ℕ) → IsBelow (sharp_spread beside p flutter) (spread_through_losses beside p flutter what k)
  unfolding spread_through_losses
  none_less zero = below_itself (sharp_spread beside p flutter)
  none_less (suc k) =
      through (sharp_spread beside p flutter) (kinds_spread (what k) p flutter (sharp_spread beside p flutter)) (kinds_spread (what k) p flutter (spread_through_losses beside p flutter what k))
      (
      record {
        start = (sync_below beside (what k).offsets p flutter (λ arbitrary clean. (never arbitrary k).0 clean)).start;
        long = (sync_below beside (what k).rates p flutter (λ arbitrary clean. (never arbitrary k).1 clean)).long;
      }
      )
      (kinds_below (what k) p flutter (sharp_spread beside p flutter) (spread_through_losses beside p flutter what k) (none_less k))

  pub later_by : (double k : ℕ) → IsBelow (spread_through_losses beside p flutter (λ m. what (double + m)) k) (spread_through_losses beside p flutter what (double + k))
  unfolding spread_through_losses
  later_by double zero =
      let same : double ≡ double + 0 = omega arith in
      let At : ℕ → Type 0 = λ n. IsBelow (sharp_spread beside p flutter) (spread_through_losses beside p flutter what n) in
      subst At same (none_less double)
  later_by double (suc k) =
      let same : suc (double + k) ≡ double + suc k = omega arith in
      let At : ℕ → Type 0 = λ n. IsBelow (kinds_spread (what (double + k)) p flutter (spread_through_losses beside p flutter (λ m. what (double + m)) k)) (spread_through_losses beside p flutter what n) in
      subst At same
      (kinds_below (what (double + k)) p flutter (spread_through_losses beside p flutter (λ m. what (double + m)) k) (spread_through_losses beside p flutter what (double + k)) (later_by double k))

pub later_spreads_are_less : LaterSpreadsAreLess
later_spreads_are_less beside p flutter what double k never = let below = later_by beside p flutter what never double k in (below.start, below.long)

-- ---- where lists meet they never grow further than beside arbitrary nodes

at_most : (beside : Bool) (p : Values) (flutter : ℕ) → IsBelow (sharp_spread beside p flutter) (sharp_spread true p flutter)
at_most true p flutter = below_itself (sharp_spread true p flutter)
at_most false p flutter = record {
  start = starts (sharp_lambda false p flutter) (sharp_lambda true p flutter) (cycle_change p) (arrival_error p) (longest_micro p) (lambda_beside p flutter);
  long = lengths (sharp_lambda false p flutter) (sharp_lambda true p flutter) (lambda_beside p flutter);
}
  where
    starts : (l b j e q : ℕ) → b ≡ 2 * l → (l + 2 * j) + 2 * e + 3 * q ≤ 3 * b + 4 * j + 4 * e + 7 * q
    starts l b j e q is = omega (arith, is)

    lengths : (l b : ℕ) → b ≡ 2 * l → l ≤ b
    lengths l b is = omega (arith, is)

stays_at_most : (what : Heard) (p : Values) (flutter : ℕ) (s : Spread) → (what ≡ Poor → ⊥) → IsBelow s (sharp_spread true p flutter) → IsBelow (heard_spread what p flutter s) (sharp_spread true p flutter)
stays_at_most Clean p flutter s never below = record {
  start = starts s.lengths (sharp_lambda true p flutter) (cycle_change p) (arrival_error p) (longest_micro p) below.long;
  long = (at_most false p flutter).long;
}
  where
    starts : (k l j e q : ℕ) → k ≤ l → (k + 2 * j) + 2 * e + 3 * q ≤ 3 * l + 4 * j + 4 * e + 7 * q
    starts k l j e q le = omega (arith, le)
stays_at_most Meeting p flutter s never below = record {
  start = starts s.starts s.lengths (sharp_pi true p flutter) (sharp_lambda true p flutter) (cycle_change p) (arrival_error p) (longest_micro p) refl below.start below.long;
  long = lengths s.lengths (sharp_lambda true p flutter) below.long;
}
  where
    starts : (s k pi l j e q : ℕ) → pi ≡ 3 * l + 4 * j + 4 * e + 7 * q → s ≤ pi → k ≤ l → (s + k + 2 * (k + 2 * j) + 4 * e + 7 * q) / 2 ≤ pi
    starts s k pi l j e q is a b = omega (arith, is, a, b)

    lengths : (k l : ℕ) → k ≤ l → (k + l) / 2 ≤ l
    lengths k l le = omega (arith, le)
stays_at_most Poor p flutter s never below = absurd (never refl)

pub meeting_below_beside : (beside : Bool) (p : Values) (flutter : ℕ) (what : ℕ → Kinds) → ((k : ℕ) → IsNot Poor (what k)) → (k : ℕ) → IsBelow (spread_through_losses beside p flutter what k) (sharp_spread true p flutter)
unfolding spread_through_losses
meeting_below_beside beside p flutter what never zero = at_most beside p flutter
meeting_below_beside beside p flutter what never (suc k) =
    let now = spread_through_losses beside p flutter what k in
    let below = meeting_below_beside beside p flutter what never k in
    record {
      start = (stays_at_most (what k).offsets p flutter now (never k).0 below).start;
      long = (stays_at_most (what k).rates p flutter now (never k).1 below).long;
    }

pub meeting_stays : MeetingStays
meeting_stays beside p flutter what never k = let below = meeting_below_beside beside p flutter what never k in (below.start, below.long)

-- ---- where all is heard or nothing is asked

step_is : (b : Bool) (p : Values) (flutter : ℕ) (s : Spread) → next_lost_spread b p flutter s ≡ kinds_spread (both (all_or_any b)) p flutter s
step_is true p flutter s = refl
step_is false p flutter s = refl

pub lost_is_by : LostIsBy
unfolding lost_spread spread_through_losses
lost_is_by p flutter whole zero = refl
lost_is_by p flutter whole (suc k) =
    step_is (whole k) p flutter (lost_spread p flutter whole k) ∙ ap (λ s. kinds_spread (both (all_or_any (whole k))) p flutter s) (lost_is_by p flutter whole k)

-- none is greater than where anything may be lost
below_lost : (what : Heard) (p : Values) (flutter : ℕ) (s : Spread) → IsWide p flutter s → IsBelow (heard_spread what p flutter s) (next_lost_spread false p flutter s)
below_lost Clean p flutter s wide = record {
  start = starts s.starts s.lengths (cycle_change p) (arrival_error p) (longest_micro p);
  long = lengths (sharp_lambda false p flutter) s.lengths (2 * steady_error p flutter + 2 * (amount p name.pClusterDriftDamping * longest_micro p) + 2 * cycle_change p) wide.long;
}
  where
    starts : (s l j e q : ℕ) → (l + 2 * j) + 2 * e + 3 * q ≤ s + l + (l + 2 * j) + 2 * e + 3 * q
    starts s l j e q = omega arith

    lengths : (l k n : ℕ) → l ≤ k → l ≤ k + n
    lengths l k n le = omega (arith, le)
below_lost Meeting p flutter s wide = record {
  start = starts s.starts s.lengths (sharp_lambda false p flutter) (steady_error p flutter) (longest_micro p) (amount p name.pClusterDriftDamping * longest_micro p) (cycle_change p) (arrival_error p)
      (lambda_alone p flutter) wide.long;
  long = lengths s.lengths (sharp_lambda false p flutter) (sharp_lambda true p flutter) flutter (amount p name.xRateBound) (wide_change p) (amount p name.pClusterDriftDamping * longest_micro p) (cycle_change p)
      (lambda_beside p flutter) (lambda_alone p flutter) wide.long;
}
  where
    starts : (s k l m q c j e : ℕ) → l ≡ 2 * m + q + 2 * c + 2 * j → l ≤ k → (s + k + 2 * (k + 2 * j) + 4 * e + 7 * q) / 2 ≤ s + k + (k + 2 * j) + 2 * e + 3 * q
    starts s k l m q c j e is le = omega (arith, is, le)

    lengths : (k l b f x w c j : ℕ) → b ≡ 2 * l → l ≡ 2 * (f + (1_000_000 + x - 1) + w) + (1_000_000 + x) + 2 * c + 2 * j → l ≤ k
        → (k + b) / 2 ≤ k + (2 * (f + (1_000_000 + x - 1) + w) + 2 * c + 2 * j)
    lengths k l b f x w c j also is le = omega (arith, also, is, le)
below_lost Poor p flutter s wide = below_itself (next_lost_spread false p flutter s)

kinds_below_lost : (what : Kinds) (p : Values) (flutter : ℕ) (s : Spread) → IsWide p flutter s → IsBelow (kinds_spread what p flutter s) (next_lost_spread false p flutter s)
kinds_below_lost what p flutter s wide = record { start = (below_lost what.offsets p flutter s wide).start; long = (below_lost what.rates p flutter s wide).long }

pub by_below_lost : (p : Values) (flutter : ℕ) (what : ℕ → Kinds) (whole : ℕ → Bool) → ((m : ℕ) → whole m ≡ true → what m ≡ both Clean) → (k : ℕ)
    → IsBelow (spread_through_losses false p flutter what k) (lost_spread p flutter whole k)
unfolding spread_through_losses lost_spread
by_below_lost p flutter what whole clean zero = below_itself (sharp_spread false p flutter)
by_below_lost p flutter what whole clean (suc k) =
    through (kinds_spread (what k) p flutter (spread_through_losses false p flutter what k)) (kinds_spread (what k) p flutter (lost_spread p flutter whole k)) (next_lost_spread (whole k) p flutter (lost_spread p flutter whole k))
    (kinds_below (what k) p flutter (spread_through_losses false p flutter what k) (lost_spread p flutter whole k) (by_below_lost p flutter what whole clean k)) (by (whole k) refl)
  where
    by : (b : Bool) → whole k ≡ b → IsBelow (kinds_spread (what k) p flutter (lost_spread p flutter whole k)) (next_lost_spread b p flutter (lost_spread p flutter whole k))
    by true is =
        let At : Kinds → Type 0 = λ h. IsBelow (kinds_spread h p flutter (lost_spread p flutter whole k)) (next_lost_spread true p flutter (lost_spread p flutter whole k)) in
        subst At (sym (clean k is)) (below_itself (next_lost_spread true p flutter (lost_spread p flutter whole k)))
    by false is = kinds_below_lost (what k) p flutter (lost_spread p flutter whole k) (always_wide p flutter whole k)

pub spreads_are_below_lost : SpreadsAreBelowLost
spreads_are_below_lost p flutter what whole k clean = let below = by_below_lost p flutter what whole clean k in (below.start, below.long)
