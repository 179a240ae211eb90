-- How near a node that follows lies to the others.
use Rattle.std.proofs.Common.{◌≡◌, ℕ, ◌+◌, ◌*◌, ◌≤◌, ℤ, pos, List, [], ◌∷◌, length, All, arith}
use Rattle.std.specs.Prelude.{neg_ℤ, ◌+ℤ◌, ◌-ℤ◌, ◌*ℤ◌, ◌≤ℤ◌, ◌<ℤ◌, Contains}
use Rattle.std.proofs.lemmas.Int.{ints, by_lt_z}
use Rattle.std.proofs.lemmas.List.Elements.{All-cons, All-contains, All-contains_itself, All-head, All-nil, All-tail}
use Rattle.fr_base.specs.Within.{IsWithin}
use Rattle.fr_base.specs.declared.node_row.NodeRow.{NodeRow}
use Rattle.fr_cluster.specs.Values.{Values}
use Rattle.fr_cluster.specs.Sane.{IsSane}
use Rattle.fr_reception.specs.Listening.{first_start_of}
use Rattle.fr_correct.specs.declared.term.Term.{Term}
use Rattle.fr_bound.specs.Bounds.{arrival_error, follower_error, lambda_of, longest_micro, pi_of, reach_of}
use Rattle.fr_bound.specs.Sync.{cycle_length_of}
use Rattle.fr_precision.specs.Rows.{corrected_end_of, end_of, Sender}
use Rattle.fr_precision.specs.Rates.{near_length}
use Rattle.fr_precision.specs.Receivers.{HearsNear, SendNear}
use Rattle.fr_precision.proofs.InstantLaws.{actions_stay_near}
use Rattle.fr_precision.proofs.OffsetLaws.{corrected_end_lies_among, ends_near}
use Rattle.fr_precision.proofs.RateLaws.{lengths_stay_near, near_length_is_below_lambda}
use Rattle.fr_precision.proofs.Senders.{All-along}
use Rattle.fr_runs.specs.Following.{EndsLieNear, FirstDoubleIsInReach, FirstDoubleIsNear, FirstLengthsAreNearNext, FirstStartIsNearEnds, SecondDoubleIsInReach, SecondStartIsNear, first_apart, first_lengths, second_apart}
use Rattle.fr_runs.proofs.FirstStart.{first_start_is_near}
use Rattle.fr_runs.proofs.Listened.{followers_lengths_are_near}

-- ---- the least of some numbers

record Least (f : Sender → ℤ) (xs : List Sender) : Type 0 where
  least : Sender
  among : Contains xs least
  from : All (λ sender. f least ≤ℤ f sender) xs

itself : (x : ℤ) → x ≤ℤ x
itself x = omega (arith, ints)

least_of : (f : Sender → ℤ) (x : Sender) (xs : List Sender) → Least f (x ∷ xs)
least_of f x [] = record {
  least = x;
  among = All-head (Contains (x ∷ [])) x [] (All-contains_itself (x ∷ []));
  from = All-cons (λ sender. f x ≤ℤ f sender) x [] (itself (f x)) (All-nil (λ sender. f x ≤ℤ f sender));
}
least_of f x (y ∷ xs) =
    let after = least_of f y xs in
    let inside = All-contains_itself (x ∷ y ∷ xs) in
    by_lt_z (f x) (f after.least)
    (λ less. record {
      least = x;
      among = All-head (Contains (x ∷ y ∷ xs)) x (y ∷ xs) inside;
      from =
          All-cons (λ sender. f x ≤ℤ f sender) x (y ∷ xs) (itself (f x))
          (All-along (λ sender. f after.least ≤ℤ f sender) (λ sender. f x ≤ℤ f sender) (y ∷ xs) (λ sender le. below (f x) (f after.least) (f sender) less le) after.from);
    })
    (λ le. record {
      least = after.least;
      among = All-contains (Contains (x ∷ y ∷ xs)) (y ∷ xs) after.least (All-tail (Contains (x ∷ y ∷ xs)) x (y ∷ xs) inside) after.among;
      from = All-cons (λ sender. f after.least ≤ℤ f sender) x (y ∷ xs) le after.from;
    })
  where
    below : (a b c : ℤ) → a <ℤ b → b ≤ℤ c → a ≤ℤ c
    below a b c less le = omega (arith, ints)

-- ---- corrected ends

-- how far a corrected end may lie before and after the ends of the senders
ends_among : (p : Values) (senders : List Sender) (starts lengths reach row_lengths least greatest : ℤ) (row : NodeRow) (values : List ℤ) (term : Term)
    → IsSane p → 1 ≤ length senders → SendNear p starts lengths senders → HearsNear p senders reach row_lengths row values term
    → All (λ sender. least ≤ℤ end_of p sender.odd) senders → All (λ sender. end_of p sender.odd ≤ℤ greatest) senders
    → ((least -ℤ (row_lengths +ℤ pos (arrival_error p + 2 * longest_micro p))) ≤ℤ corrected_end_of p row)
    × (corrected_end_of p row ≤ℤ (greatest +ℤ (row_lengths +ℤ pos (arrival_error p + longest_micro p))))
ends_among p senders starts lengths reach row_lengths least greatest row values term sane some send hears from to =
    corrected_end_lies_among p senders row_lengths reach least greatest row values term sane hears.suffices some send.sending hears.reached hears.near from to hears.round

no_later : (spread x y : ℤ) → IsWithin spread (x -ℤ y) → y ≤ℤ (x +ℤ spread)
no_later spread x y within = omega (arith, ints, within.low)

no_earlier : (spread x y : ℤ) → IsWithin spread (x -ℤ y) → (x -ℤ spread) ≤ℤ y
no_earlier spread x y within = omega (arith, ints, within.high)

pub ends_lie_near_lem : EndsLieNear
ends_lie_near_lem p [] starts lengths reach other_reach row_lengths other_lengths row other values other_values term other_term sane some send hears other_hears = absurd (omega (arith, some))
ends_lie_near_lem p (first ∷ rest) starts lengths reach other_reach row_lengths other_lengths row other values other_values term other_term sane some send hears other_hears =
    let senders = first ∷ rest in
    let f : Sender → ℤ = λ sender. end_of p sender.odd in
    let spread = starts +ℤ (pos 2 *ℤ lengths) in
    let least = least_of f first rest in
    let low = f least.least in
    let near = All-contains (λ one. All (λ other. IsWithin spread (f one -ℤ f other)) senders) senders least.least (ends_near p starts lengths senders send.sending send.near) least.among in
    let to : All (λ sender. end_of p sender.odd ≤ℤ (low +ℤ spread)) senders =
    All-along (λ (sender : Sender). IsWithin spread (low -ℤ f sender)) (λ sender. end_of p sender.odd ≤ℤ (low +ℤ spread)) senders (λ sender within. no_later spread low (f sender) within) near in
    let one = ends_among p senders starts lengths reach row_lengths low (low +ℤ spread) row values term sane some send hears least.from to in
    let two = ends_among p senders starts lengths other_reach other_lengths low (low +ℤ spread) other other_values other_term sane some send other_hears least.from to in
    apart starts lengths row_lengths other_lengths low (corrected_end_of p row) (corrected_end_of p other) (arrival_error p) (longest_micro p) one.0 one.1 two.0 two.1
  where
    apart : (s l a b low x y : ℤ) (e q : ℕ) → (low -ℤ (a +ℤ pos (e + 2 * q))) ≤ℤ x → x ≤ℤ ((low +ℤ (s +ℤ (pos 2 *ℤ l))) +ℤ (a +ℤ pos (e + q)))
        → (low -ℤ (b +ℤ pos (e + 2 * q))) ≤ℤ y → y ≤ℤ ((low +ℤ (s +ℤ (pos 2 *ℤ l))) +ℤ (b +ℤ pos (e + q)))
        → IsWithin (s +ℤ (pos 2 *ℤ l) +ℤ a +ℤ b +ℤ pos (2 * e + 3 * q)) (x -ℤ y)
    apart s l a b low x y e q h i j k = record { low = omega (arith, ints); high = omega (arith, ints) }

-- whoever has an element is not empty
some_of : (xs : List Sender) (x : Sender) → Contains xs x → 1 ≤ length xs
some_of xs x (k, less, is) = omega (arith, less)

pub first_start_is_near_ends : FirstStartIsNearEnds
first_start_is_near_ends p senders starts lengths reach row_lengths c reference row values term sane suffices send hears there caught =
    let f : Sender → ℤ = λ sender. end_of p sender.odd in
    let spread = starts +ℤ (pos 2 *ℤ lengths) in
    let at = f reference in
    let near = All-contains (λ one. All (λ other. IsWithin spread (f one -ℤ f other)) senders) senders reference (ends_near p starts lengths senders send.sending send.near) there in
    let from : All (λ sender. (at -ℤ spread) ≤ℤ end_of p sender.odd) senders =
    All-along (λ (sender : Sender). IsWithin spread (at -ℤ f sender)) (λ sender. (at -ℤ spread) ≤ℤ end_of p sender.odd) senders (λ sender within. no_earlier spread at (f sender) within) near in
    let to : All (λ sender. end_of p sender.odd ≤ℤ (at +ℤ spread)) senders =
    All-along (λ (sender : Sender). IsWithin spread (at -ℤ f sender)) (λ sender. end_of p sender.odd ≤ℤ (at +ℤ spread)) senders (λ sender within. no_later spread at (f sender) within) near in
    let among = ends_among p senders starts lengths reach row_lengths (at -ℤ spread) (at +ℤ spread) row values term sane (some_of senders reference there) send hears from to in
    let first = first_start_is_near p c reference.even reference.odd sane suffices caught in
    apart starts lengths row_lengths at (corrected_end_of p row) (first_start_of p c) (arrival_error p) (longest_micro p) (follower_error p) among.0 among.1 first.low first.high
  where
    apart : (s l a at x y : ℤ) (e q more : ℕ) → ((at -ℤ (s +ℤ (pos 2 *ℤ l))) -ℤ (a +ℤ pos (e + 2 * q))) ≤ℤ x → x ≤ℤ ((at +ℤ (s +ℤ (pos 2 *ℤ l))) +ℤ (a +ℤ pos (e + q)))
        → neg_ℤ (pos (e + q + more)) ≤ℤ (y -ℤ at) → (y -ℤ at) ≤ℤ pos (e + q + more)
        → IsWithin (s +ℤ (pos 2 *ℤ l) +ℤ a +ℤ pos (2 * e + 3 * q + more)) (x -ℤ y)
    apart s l a at x y e q more h i j k = record { low = omega (arith, ints); high = omega (arith, ints) }

-- ---- lengths

pub first_lengths_are_near_next : FirstLengthsAreNearNext
first_lengths_are_near_next p senders spread c reference row values term even odd first_even first_odd sane first second suffices proper within is next there caught begins =
    let long = cycle_length_of p reference.odd in
    let Near : Sender → Type 0 = λ (sender : Sender). IsWithin (spread +ℤ pos (near_length p)) (cycle_length_of p even -ℤ cycle_length_of p sender.odd)
    × IsWithin (spread +ℤ pos (near_length p)) (cycle_length_of p odd -ℤ cycle_length_of p sender.odd) in
    let near = All-contains Near senders reference
    (lengths_stay_near p senders spread row values term even odd sane first second (some_of senders reference there) proper within is next) there in
    let follows = followers_lengths_are_near p c reference.even reference.odd first_even first_odd sane suffices caught begins in
    let below = near_length_is_below_lambda p in (
      sum spread (cycle_length_of p even) (cycle_length_of p first_even) long (near_length p) (lambda_of p) (follower_error p) below near.0 follows.0,
      sum spread (cycle_length_of p odd) (cycle_length_of p first_odd) long (near_length p) (lambda_of p) (follower_error p) below near.1 follows.1,
    )
  where
    sum : (s x y long : ℤ) (near lambda more : ℕ) → near ≤ lambda → IsWithin (s +ℤ pos near) (x -ℤ long) → IsWithin (pos more) (y -ℤ long) → IsWithin (s +ℤ pos (lambda + more)) (x -ℤ y)
    sum s x y long near lambda more le one other = record { low = omega (arith, ints, one.low, other.high); high = omega (arith, ints, one.high, other.low) }

-- ---- in sync

pub first_double_is_in_reach : FirstDoubleIsInReach
first_double_is_in_reach p even odd other_even other_odd sane runs other_runs near macrotick is_odd from to =
    actions_stay_near p (pos (first_apart p)) (pos (first_lengths p)) (pos (reach_of p)) macrotick is_odd even odd other_even other_odd sane runs other_runs near
    (fits (pi_of p) (lambda_of p) (follower_error p) (arrival_error p) (longest_micro p)) from to
  where
    fits : (pi l y e q : ℕ) → (pos (pi + 3 * l + y + 2 * e + 3 * q) +ℤ (pos 2 *ℤ pos (2 * l + y)) +ℤ pos q) ≤ℤ pos (pi + 8 * l + 4 * y + 4 * e + 8 * q)
    fits pi l y e q = omega (arith, ints)

pub second_double_is_in_reach : SecondDoubleIsInReach
second_double_is_in_reach p even odd other_even other_odd sane runs other_runs near macrotick is_odd from to =
    actions_stay_near p (pos (second_apart p)) (pos (lambda_of p)) (pos (reach_of p)) macrotick is_odd even odd other_even other_odd sane runs other_runs near
    (fits (pi_of p) (lambda_of p) (follower_error p) (arrival_error p) (longest_micro p)) from to
  where
    fits : (pi l y e q : ℕ) → (pos (pi + 5 * l + y + 2 * e + 3 * q) +ℤ (pos 2 *ℤ pos l) +ℤ pos q) ≤ℤ pos (pi + 8 * l + 4 * y + 4 * e + 8 * q)
    fits pi l y e q = omega (arith, ints)

pub first_double_is_near : FirstDoubleIsNear
first_double_is_near p senders reach c reference row values rates term rate even odd first_even first_odd sane first second suffices send proper hears by_rate next start there caught begins =
    let ends = first_start_is_near_ends p senders (pos (pi_of p)) (pos (lambda_of p)) reach (pos (lambda_of p)) c reference row values term sane suffices send hears there caught in
    let lengths =
    first_lengths_are_near_next p senders (pos (lambda_of p)) c reference row rates rate even odd first_even first_odd sane first second suffices proper send.near.by_odd by_rate next there caught begins in
    record {
      by_start =
          starts (pi_of p) (lambda_of p) (follower_error p) (arrival_error p) (longest_micro p) even.start first_even.start (corrected_end_of p row) (first_start_of p c) start begins.start ends;
      by_even = twice (lambda_of p) (follower_error p) (cycle_length_of p even -ℤ cycle_length_of p first_even) lengths.0;
      by_odd = twice (lambda_of p) (follower_error p) (cycle_length_of p odd -ℤ cycle_length_of p first_odd) lengths.1;
    }
  where
    starts : (pi l y e q : ℕ) (a b x z : ℤ) → a ≡ x → b ≡ z → IsWithin (pos pi +ℤ (pos 2 *ℤ pos l) +ℤ pos l +ℤ pos (2 * e + 3 * q + y)) (x -ℤ z)
        → IsWithin (pos (pi + 3 * l + y + 2 * e + 3 * q)) (a -ℤ b)
    starts pi l y e q a b x z g h within = record { low = omega (arith, ints, within.low); high = omega (arith, ints, within.high) }

    twice : (l y : ℕ) (x : ℤ) → IsWithin (pos l +ℤ pos (l + y)) x → IsWithin (pos (2 * l + y)) x
    twice l y x within = record { low = omega (arith, ints, within.low); high = omega (arith, ints, within.high) }

pub second_start_is_near : SecondStartIsNear
second_start_is_near p senders reach other_reach row other values other_values term other_term sane some send hears other_hears =
    same (pi_of p) (lambda_of p) (follower_error p) (arrival_error p) (longest_micro p) (corrected_end_of p row -ℤ corrected_end_of p other)
    (
    ends_lie_near_lem p senders (pos (pi_of p)) (pos (lambda_of p)) reach other_reach (pos (lambda_of p)) (pos (first_lengths p)) row other values other_values term other_term
    sane some send hears other_hears
    )
  where
    same : (pi l y e q : ℕ) (x : ℤ) → IsWithin (pos pi +ℤ (pos 2 *ℤ pos l) +ℤ pos l +ℤ pos (2 * l + y) +ℤ pos (2 * e + 3 * q)) x → IsWithin (pos (pi + 5 * l + y + 2 * e + 3 * q)) x
    same pi l y e q x within = record { low = omega (arith, ints, within.low); high = omega (arith, ints, within.high) }
