-- What two receivers make of the values of senders of whom each has heard its own: whatever was lost on the way.
use Rattle.std.specs.Prelude.{◌≡◌, ◌⊎◌, ◌+◌, ◌*◌, ◌≤◌, ◌<◌, ℕ, zero, suc, max, nat_lt, if◌then◌else◌, Bool, ℤ, pos, ◌+ℤ◌, ◌-ℤ◌, ◌*ℤ◌, ◌≤ℤ◌, true, false, List, ◌++◌, length, map, All, Contains}
use Rattle.fr_base.specs.declared.node_row.NodeRow.{NodeRow}
use Rattle.fr_base.specs.Within.{IsBetween, IsWithin}
use Rattle.fr_cluster.specs.Values.{Values, amount}
use Rattle.fr_cluster.specs.Sane.{IsSane}
use Rattle.fr_cluster.specs.declared.names.ParamName.TheVariants as name
use Rattle.fr_base.specs.declared.Outcome.TheVariants.{Within}
use Rattle.fr_correct.specs.declared.term.Term.{Term}
use Rattle.fr_bound.specs.Bounds.{arrival_error, cycle_change, longest_micro}
use Rattle.fr_bound.specs.Sync.{cycle_length_of}
use Rattle.fr_precision.specs.Rows.{corrected_end_of, Sender}
use Rattle.fr_time.specs.Position.{floor_of}
use Rattle.fr_precision.specs.Instants.{gap_of, row_in}
use Rattle.fr_precision.specs.Offsets.{IsOffsetRound, IsSending, LimitSuffices, NearAll}
use Rattle.fr_precision.specs.Placement.{IsRegular}
use Rattle.fr_precision.specs.Step.{IsAmong, Member}
use Rattle.fr_precision.specs.declared.kinds.Kinds.{Kinds}
use Rattle.fr_bound.specs.SharpBounds.{odd_spread, precision_by, rate_walk, sharp_lambda, sharp_pi, sharp_precision, steady_error}
use Rattle.fr_bound.specs.SharpSpreads.{lost_lengths, lost_starts, next_lost_spread, sharp_spread}
use Rattle.fr_bound.specs.Judged.{heard_spread}
use Rattle.fr_bound.specs.declared.judging.Heard.{Heard}
use Rattle.fr_bound.specs.declared.judging.Heard.TheVariants as heard
use Rattle.fr_midpoint.specs.Midpoint.{discarded}
use Rattle.fr_bound.specs.declared.settling.Spread.{Spread}
use Rattle.fr_bound.specs.SharpSpreads.{IsSharplySettled}
use Rattle.fr_precision.specs.Lengths.{CanWalk, EvensAreAbout, IsNextEven, IsSteadyRound, KeepSenders}
use Rattle.fr_precision.specs.Ends.{TakesOffsets}
use Rattle.fr_precision.specs.SharpRun.{AllUncut, BeginSharp, IsNextDouble, KeepsSharp, WalkLastsAfter}
use Rattle.fr_precision.specs.SharpStep.{ActInReach, AreSharp, ComeSharply, IsSharpLimit}

-- some number of each of some senders lies at most so far from that of each of others
abbrev pub LieAcross : (Sender → ℤ) → ℤ → List Sender → List Sender → Type 0
LieAcross number bound senders other_senders = All (λ one. All (λ other. IsWithin bound (number one -ℤ number other)) other_senders) senders

-- two receivers of whom each has values of some senders: their next even lengths lie no further apart than those of the senders, and
-- twice the error, the damping and the change
abbrev pub LengthsComeAmong : Type 0
LengthsComeAmong =
    (p : Values) (flutter : ℕ) (senders other_senders : List Sender) (spread beyond walk : ℤ) (row other_row : NodeRow)
    (values other_values : List ℤ) (term other_term : Term) (even other_even : NodeRow)
    → IsSane p → CanWalk p flutter beyond walk → 1 ≤ length senders → 1 ≤ length other_senders
    → EvensAreAbout p beyond senders → EvensAreAbout p beyond other_senders
    → LieAcross (λ sender. cycle_length_of p sender.even) spread senders other_senders
    → IsSteadyRound p flutter senders row values term → IsSteadyRound p flutter other_senders other_row other_values other_term
    → IsNextEven p row term even → IsNextEven p other_row other_term other_even
    → IsWithin
    (spread +ℤ pos (2 * steady_error p flutter + 2 * (amount p name.pClusterDriftDamping * longest_micro p) + 2 * cycle_change p))
    (cycle_length_of p even -ℤ cycle_length_of p other_even)

-- and their corrected ends no further than the starts of the senders and the lengths of both cycles, and some
abbrev pub EndsComeAmong : Type 0
EndsComeAmong =
    (p : Values) (senders other_senders : List Sender) (starts evens odds reach other_reach : ℤ) (row other_row : NodeRow)
    (values other_values : List ℤ) (term other_term : Term)
    → IsSane p → 1 ≤ length senders → 1 ≤ length other_senders
    → All (IsSending p) senders → All (IsSending p) other_senders
    → LieAcross (λ sender. sender.even.start) starts senders other_senders
    → LieAcross (λ sender. cycle_length_of p sender.even) evens senders other_senders
    → LieAcross (λ sender. cycle_length_of p sender.odd) odds senders other_senders
    → TakesOffsets p senders reach odds row values term → TakesOffsets p other_senders other_reach odds other_row other_values other_term
    → NearAll p odds other_senders row → NearAll p odds senders other_row
    → IsWithin odds (cycle_length_of p row -ℤ cycle_length_of p other_row)
    → IsWithin
    (starts +ℤ evens +ℤ odds +ℤ pos (2 * arrival_error p + 3 * longest_micro p))
    (corrected_end_of p row -ℤ corrected_end_of p other_row)

-- ---- what a node has, of offsets and of rates

-- a node has offset values of some of the nodes that send, and of nobody else more than it discards; it computes its offset term from them
pub record OwnOffsets (p : Values) (nodes : List Member) (last : ℤ) (node : Member) : Type 0 where
  pub senders : List Sender
  pub some : 1 ≤ length senders
  pub among : All (IsAmong nodes) senders
  pub acts : All (λ sender. IsBetween (pos 0) last sender.action) senders
  pub round : IsOffsetRound p senders node.odd node.offsets node.offset_term

-- so it does of rates
pub record OwnRates (p : Values) (flutter : ℕ) (nodes : List Member) (node : Member) : Type 0 where
  pub senders : List Sender
  pub some : 1 ≤ length senders
  pub among : All (IsAmong nodes) senders
  pub round : IsSteadyRound p flutter senders node.odd node.rates node.rate_term

-- or, in a double cycle in which some may, it has no rate value and keeps the rate that it has, as by a term within its limit
pub record KeptRate (some_keep : Bool) (node : Member) : Type 0 where
  pub may : some_keep ≡ true
  pub kept : node.rate_term.value ≡ node.odd.rate
  pub within : node.rate_term.outcome ≡ Within

abbrev pub OwnOrKept : Bool → Values → ℕ → List Member → Member → Type 0
OwnOrKept some_keep p flutter nodes node = OwnRates p flutter nodes node ⊎ KeptRate some_keep node

-- a node with regular rows has both of senders of its own. Where it has no offset value its end is not moved, as its own value 0 says: it is
-- then the one that sends
pub record ComputesOwn (p : Values) (flutter : ℕ) (nodes : List Member) (last : ℤ) (node : Member) : Type 0 where
  pub regular : IsRegular p node.even node.odd
  pub offsets : OwnOffsets p nodes last node
  pub rates : OwnRates p flutter nodes node

-- two nodes have offset values of senders in common, more of them than both discard together, and each of some others besides; and of
-- nobody else more than it discards
pub record CommonOffsets (p : Values) (nodes : List Member) (last : ℤ) (one other : Member) : Type 0 where
  pub common : List Sender
  pub own : List Sender
  pub other_own : List Sender
  pub among : All (IsAmong nodes) (common ++ (own ++ other_own))
  pub acts : All (λ sender. IsBetween (pos 0) last sender.action) (common ++ (own ++ other_own))
  pub enough : discarded (length one.offsets) + discarded (length other.offsets) + 1 ≤ length common
  pub round : IsOffsetRound p (common ++ own) one.odd one.offsets one.offset_term
  pub other_round : IsOffsetRound p (common ++ other_own) other.odd other.offsets other.offset_term

-- so they have rate values
pub record CommonRates (p : Values) (flutter : ℕ) (nodes : List Member) (one other : Member) : Type 0 where
  pub common : List Sender
  pub own : List Sender
  pub other_own : List Sender
  pub among : All (IsAmong nodes) (common ++ (own ++ other_own))
  pub enough : discarded (length one.rates) + discarded (length other.rates) + 1 ≤ length common
  pub round : IsSteadyRound p flutter (common ++ own) one.odd one.rates one.rate_term
  pub other_round : IsSteadyRound p flutter (common ++ other_own) other.odd other.rates other.rate_term

-- ---- what all nodes have, of offsets and of rates

-- of some nodes, which are with rows or follow, each has offset values of all senders, who are some of those with rows; beside arbitrary
-- nodes or without
pub record AllOffsets (beside : Bool) (p : Values) (senders : List Sender) (rows : List Member) (last : ℤ) (is : Member → Type 0) : Type 0 where
  pub among : All (IsAmong rows) senders
  pub acts : All (λ sender. IsBetween (pos 0) last sender.action) senders
  pub rounds : (node : Member) → is node → IsOffsetRound p senders node.odd node.offsets node.offset_term
  pub keep : (one other : Member) → is one → is other → KeepSenders beside senders one.offsets other.offsets

pub record AllRates (beside : Bool) (p : Values) (flutter : ℕ) (senders : List Sender) (rows : List Member) (is : Member → Type 0) : Type 0 where
  pub among : All (IsAmong rows) senders
  pub rounds : (node : Member) → is node → IsSteadyRound p flutter senders node.odd node.rates node.rate_term
  pub keep : (one other : Member) → is one → is other → KeepSenders beside senders one.rates other.rates

-- each has some of its own, and any two enough in common
pub record MeetingOffsets (p : Values) (rows : List Member) (last : ℤ) (is : Member → Type 0) : Type 0 where
  pub each : (node : Member) → is node → OwnOffsets p rows last node
  pub two : (one other : Member) → is one → is other → (one ≡ other) ⊎ CommonOffsets p rows last one other

pub record MeetingRates (p : Values) (flutter : ℕ) (rows : List Member) (is : Member → Type 0) : Type 0 where
  pub each : (node : Member) → is node → OwnRates p flutter rows node
  pub two : (one other : Member) → is one → is other → (one ≡ other) ⊎ CommonRates p flutter rows one other

-- by what is heard of offsets: all of all, without arbitrary nodes; all of all beside them, or of any two nodes enough in common; or what
-- there is
abbrev pub OffsetsSo : Heard → Values → List Sender → List Member → ℤ → (Member → Type 0) → Type 0
OffsetsSo heard.Clean p senders rows last is = AllOffsets false p senders rows last is
OffsetsSo heard.Meeting p senders rows last is = AllOffsets true p senders rows last is ⊎ MeetingOffsets p rows last is
OffsetsSo heard.Poor p senders rows last is = (node : Member) → is node → OwnOffsets p rows last node

-- and of rates, where some may keep theirs
abbrev pub RatesSo : Heard → Bool → Values → ℕ → List Sender → List Member → (Member → Type 0) → Type 0
RatesSo heard.Clean some_keep p flutter senders rows is = AllRates false p flutter senders rows is
RatesSo heard.Meeting some_keep p flutter senders rows is = AllRates true p flutter senders rows is ⊎ MeetingRates p flutter rows is
RatesSo heard.Poor some_keep p flutter senders rows is = (node : Member) → is node → OwnOrKept some_keep p flutter rows node

-- what is heard in a double cycle of some nodes with regular rows
pub record HeardSo (what : Kinds) (some_keep : Bool) (p : Values) (flutter : ℕ) (senders : List Sender) (nodes : List Member) (last : ℤ) : Type 0 where
  pub regular : (node : Member) → Contains nodes node → IsRegular p node.even node.odd
  pub offsets : OffsetsSo what.offsets p senders nodes last (λ node. Contains nodes node)
  pub rates : RatesSo what.rates some_keep p flutter senders nodes (λ node. Contains nodes node)

-- ---- how near two nodes come, by what is heard

-- the next starts by what is heard of offsets, and the next lengths by what is heard of rates
abbrev pub StartsGoTo : Heard → Values → ℕ → ℕ → ℕ → Type 0
StartsGoTo heard.Clean p starts lengths next = odd_spread p lengths + 2 * arrival_error p + 3 * longest_micro p ≤ next
StartsGoTo heard.Meeting p starts lengths next =
    starts + lengths + 2 * odd_spread p lengths + 4 * arrival_error p + 7 * longest_micro p ≤ 2 * next + 1
StartsGoTo heard.Poor p starts lengths next = lost_starts p starts lengths ≤ next

abbrev pub LengthsGoTo : Heard → Values → ℕ → ℕ → ℕ → Type 0
LengthsGoTo heard.Clean p flutter lengths next = sharp_lambda false p flutter ≤ next
LengthsGoTo heard.Meeting p flutter lengths next = lengths + sharp_lambda true p flutter ≤ 2 * next + 1
LengthsGoTo heard.Poor p flutter lengths next = lost_lengths p flutter lengths ≤ next

-- how the numbers go on
abbrev pub GoesTo : Kinds → Values → ℕ → ℕ → ℕ → ℕ → ℕ → Type 0
GoesTo what p flutter starts lengths next_starts next_lengths =
    StartsGoTo what.offsets p starts lengths next_starts × LengthsGoTo what.rates p flutter lengths next_lengths

-- any two nodes come so near by what is heard, and those that keep their rates lie further beyond their range by two changes of a cycle
abbrev pub HeardSpreadsGo : Type 0
HeardSpreadsGo =
    (what : Kinds) (some_keep : Bool) (p : Values) (flutter : ℕ) (senders : List Sender) (nodes : List Member)
    (starts lengths next_starts next_lengths : ℕ) (beyond walk next reach last : ℤ) (one other : Member)
    → IsSharpLimit p flutter beyond walk reach last → ActInReach p reach last nodes → pos 0 ≤ℤ next → (beyond +ℤ walk) ≤ℤ next
    → (some_keep ≡ true → (beyond +ℤ pos (2 * cycle_change p)) ≤ℤ next)
    → GoesTo what p flutter starts lengths next_starts next_lengths
    → AreSharp p starts lengths beyond (map (λ node. node.even) nodes)
    → HeardSo what some_keep p flutter senders nodes last
    → Contains nodes one → Contains nodes other → ComeSharply p next_starts next_lengths next one other

-- what one such double cycle costs from sharp sync without arbitrary nodes: behind it macroticks lie no further apart than the sharper
-- precision and four lambda, two errors of an arrival, two changes and a microtick; one double cycle later, where all is heard again,
-- than it and lambda but for a microtick; and two later than the sharper precision
abbrev pub OneLossCosts : Type 0
OneLossCosts =
    (p : Values) (flutter : ℕ)
    → (precision_by p (lost_starts p (sharp_pi false p flutter) (sharp_lambda false p flutter)) (lost_lengths p flutter (sharp_lambda false p flutter))
    ≡ sharp_precision false p flutter + 4 * sharp_lambda false p flutter + 2 * arrival_error p + 2 * cycle_change p + longest_micro p)
    × (precision_by p (odd_spread p (lost_lengths p flutter (sharp_lambda false p flutter)) + 2 * arrival_error p + 3 * longest_micro p) (sharp_lambda false p flutter) + longest_micro p
    ≡ sharp_precision false p flutter + sharp_lambda false p flutter)

-- ---- many double cycles, by what is heard in each

-- so many double cycles of some nodes, of each of which is said what is heard in it, and whether some keep their rates
pub record AreLossyDoubles (p : Values) (flutter doubles : ℕ) (what : ℕ → Kinds) (keeps : ℕ → Bool) (beyond : ℕ → ℤ) (starts lengths : ℕ → ℕ) (senders : ℕ → List Sender) (nodes : ℕ → List Member) (last : ℤ) : Type 0 where
  pub sane : IsSane p
  pub heard :
      (k : ℕ) → k < doubles → WalkLastsAfter p flutter k → BeginSharp p beyond starts lengths nodes k
      → HeardSo (what k) (keeps k) p flutter (senders k) (nodes k) last
  pub follows :
      (k : ℕ) → suc k < doubles → WalkLastsAfter p flutter k → BeginSharp p beyond starts lengths nodes k → AllUncut (nodes k)
      → IsNextDouble p (nodes k) (nodes (suc k))

-- the numbers of them, and a reach that takes them in; what lies beyond the range takes in the walk, as long as that lasts, and two changes
-- of a cycle where some keep their rates
pub record GoInReach (p : Values) (flutter doubles : ℕ) (what : ℕ → Kinds) (keeps : ℕ → Bool) (beyond : ℕ → ℤ) (starts lengths : ℕ → ℕ) (reach last : ℤ) : Type 0 where
  pub walks : (k : ℕ) → k < doubles → WalkLastsAfter p flutter k → CanWalk p flutter (beyond k) (rate_walk p flutter)
  pub from_range : (k : ℕ) → k < doubles → WalkLastsAfter p flutter k → pos 0 ≤ℤ beyond (suc k)
  pub takes_walk : (k : ℕ) → k < doubles → WalkLastsAfter p flutter k → (beyond k +ℤ rate_walk p flutter) ≤ℤ beyond (suc k)
  pub takes_changes :
      (k : ℕ) → k < doubles → WalkLastsAfter p flutter k → keeps k ≡ true → (beyond k +ℤ pos (2 * cycle_change p)) ≤ℤ beyond (suc k)
  pub goes : (k : ℕ) → GoesTo (what k) p flutter (starts k) (lengths k) (starts (suc k)) (lengths (suc k))
  pub suffices : LimitSuffices p reach
  pub early : last ≤ℤ p.correction
  pub fits :
      (k : ℕ) → k < doubles
      → (pos (starts k) +ℤ pos (lengths k) +ℤ floor_of (last *ℤ pos (odd_spread p (lengths k))) p.macros +ℤ pos (longest_micro p)) ≤ℤ reach

-- nodes that begin so near keep to these numbers, whatever is lost where
abbrev pub LossyDoublesKeep : Type 0
LossyDoublesKeep =
    (p : Values) (flutter doubles : ℕ) (what : ℕ → Kinds) (keeps : ℕ → Bool) (beyond : ℕ → ℤ) (starts lengths : ℕ → ℕ)
    (senders : ℕ → List Sender) (nodes : ℕ → List Member) (reach last : ℤ)
    → AreLossyDoubles p flutter doubles what keeps beyond starts lengths senders nodes last
    → GoInReach p flutter doubles what keeps beyond starts lengths reach last
    → AreSharp p (starts 0) (lengths 0) (beyond 0) (map (λ node. node.even) (nodes 0))
    → (k : ℕ) → k < doubles → KeepsSharp p flutter beyond starts lengths nodes k

-- and no macroticks lie further apart than the numbers of both ends say
abbrev pub LossyDoublesStayApart : Type 0
LossyDoublesStayApart =
    (p : Values) (flutter doubles : ℕ) (what : ℕ → Kinds) (keeps : ℕ → Bool) (beyond : ℕ → ℤ) (starts lengths : ℕ → ℕ)
    (senders : ℕ → List Sender) (nodes : ℕ → List Member) (reach last : ℤ)
    → AreLossyDoubles p flutter doubles what keeps beyond starts lengths senders nodes last
    → GoInReach p flutter doubles what keeps beyond starts lengths reach last
    → AreSharp p (starts 0) (lengths 0) (beyond 0) (map (λ node. node.even) (nodes 0))
    → (k apart : ℕ) (one other : Member) (macrotick : ℤ) (is_odd : Bool) → k < doubles → WalkLastsAfter p flutter k
    → precision_by p (starts k) (lengths k) ≤ apart → starts (suc k) + longest_micro p ≤ apart
    → Contains (nodes k) one → Contains (nodes k) other → pos 0 ≤ℤ macrotick → macrotick ≤ℤ p.macros
    → IsWithin (pos apart) (gap_of p is_odd macrotick (row_in is_odd one.even one.odd) (row_in is_odd other.even other.odd))

-- ---- the numbers by what is heard, from sharp sync on, without arbitrary nodes or beside them

abbrev pub kinds_spread : Kinds → Values → ℕ → Spread → Spread
kinds_spread what p flutter s = record {
  starts = (heard_spread what.offsets p flutter s).starts;
  lengths = (heard_spread what.rates p flutter s).lengths;
}

unfoldable pub spread_through_losses : Bool → Values → ℕ → (ℕ → Kinds) → ℕ → Spread
spread_through_losses beside p flutter what zero = sharp_spread beside p flutter
spread_through_losses beside p flutter what (suc k) = kinds_spread (what k) p flutter (spread_through_losses beside p flutter what k)

-- how far macroticks may lie apart so many double cycles after one in sharp sync: as far as starts and lengths say, or as the next
-- starts do
abbrev pub apart_through_losses : Bool → Values → ℕ → (ℕ → Kinds) → ℕ → ℕ
apart_through_losses beside p flutter what passed =
    max (precision_by p (spread_through_losses beside p flutter what passed).starts (spread_through_losses beside p flutter what passed).lengths)
    ((spread_through_losses beside p flutter what (suc passed)).starts + longest_micro p)

-- they go on as the laws above ask for
abbrev pub SpreadsGo : Type 0
SpreadsGo =
    (beside : Bool) (p : Values) (flutter : ℕ) (what : ℕ → Kinds) (k : ℕ)
    → GoesTo (what k) p flutter (spread_through_losses beside p flutter what k).starts (spread_through_losses beside p flutter what k).lengths
    (spread_through_losses beside p flutter what (suc k)).starts (spread_through_losses beside p flutter what (suc k)).lengths

-- of neither kind; of both kinds, so
abbrev pub IsNot : Heard → Kinds → Type 0
IsNot kind what = (what.offsets ≡ kind → ⊥) × (what.rates ≡ kind → ⊥)

abbrev pub both : Heard → Kinds
both kind = record { offsets = kind; rates = kind }

-- those from a later double cycle on are no greater than those from the first one on; nothing is clean beside arbitrary nodes
abbrev pub LaterSpreadsAreLess : Type 0
LaterSpreadsAreLess =
    (beside : Bool) (p : Values) (flutter : ℕ) (what : ℕ → Kinds) (double k : ℕ)
    → (beside ≡ true → (m : ℕ) → IsNot heard.Clean (what m))
    → ((spread_through_losses beside p flutter (λ m. what (double + m)) k).starts ≤ (spread_through_losses beside p flutter what (double + k)).starts)
    × ((spread_through_losses beside p flutter (λ m. what (double + m)) k).lengths ≤ (spread_through_losses beside p flutter what (double + k)).lengths)

-- where two double cycles were clean, they are those of sharp sync without arbitrary nodes again, whatever came before; and where lists
-- meet in each, they are no greater than those beside arbitrary nodes, for ever
abbrev pub CleanAgain : Type 0
CleanAgain =
    (p : Values) (flutter : ℕ) (what : ℕ → Kinds) (k : ℕ)
    → (what k).rates ≡ heard.Clean → what (suc k) ≡ both heard.Clean → IsSharplySettled false p flutter (spread_through_losses false p flutter what (suc (suc k)))

abbrev pub MeetingStays : Type 0
MeetingStays =
    (beside : Bool) (p : Values) (flutter : ℕ) (what : ℕ → Kinds)
    → ((k : ℕ) → IsNot heard.Poor (what k))
    → (k : ℕ) → ((spread_through_losses beside p flutter what k).starts ≤ sharp_pi true p flutter) × ((spread_through_losses beside p flutter what k).lengths ≤ sharp_lambda true p flutter)

-- ---- a burst that does not begin with a double cycle

-- one that takes frames of so many odd cycles and of the even ones behind them: of offsets so many double cycles are poor, of rates one more
abbrev pub poor_up_to : ℕ → ℕ → Heard
poor_up_to count double = if nat_lt double count then heard.Poor else heard.Clean

abbrev pub crossing : ℕ → ℕ → Kinds
crossing count double = record { offsets = poor_up_to count double; rates = poor_up_to (count + 1) double }

-- what it costs from sharp sync without arbitrary nodes, where it takes one odd cycle and the next even one: behind the first double cycle as
-- much as one that loses anything; then the sharper precision and five lambda, less five microticks; then it and two lambda, less two; and
-- then it is back
abbrev pub CrossingCosts : Type 0
CrossingCosts =
    (p : Values) (flutter : ℕ)
    → (apart_through_losses false p flutter (crossing 1) 1
    ≡ sharp_precision false p flutter + 4 * sharp_lambda false p flutter + 2 * arrival_error p + 2 * cycle_change p + longest_micro p)
    × (apart_through_losses false p flutter (crossing 1) 2 + 5 * longest_micro p ≡ sharp_precision false p flutter + 5 * sharp_lambda false p flutter)
    × (apart_through_losses false p flutter (crossing 1) 3 + 2 * longest_micro p ≡ sharp_precision false p flutter + 2 * sharp_lambda false p flutter)
    × ((k : ℕ) → IsSharplySettled false p flutter (spread_through_losses false p flutter (crossing 1) (4 + k)))

-- ---- the same where all is heard or nothing is asked, without arbitrary nodes

abbrev pub all_or_any : Bool → Heard
all_or_any true = heard.Clean
all_or_any false = heard.Poor

unfoldable pub lost_spread : Values → ℕ → (ℕ → Bool) → ℕ → Spread
lost_spread p flutter whole zero = record { starts = sharp_pi false p flutter; lengths = sharp_lambda false p flutter }
lost_spread p flutter whole (suc k) = next_lost_spread (whole k) p flutter (lost_spread p flutter whole k)

-- they are no greater than these, where all is heard in each double cycle of which these say so
abbrev pub SpreadsAreBelowLost : Type 0
SpreadsAreBelowLost =
    (p : Values) (flutter : ℕ) (what : ℕ → Kinds) (whole : ℕ → Bool) (k : ℕ)
    → ((m : ℕ) → whole m ≡ true → what m ≡ both heard.Clean)
    → ((spread_through_losses false p flutter what k).starts ≤ (lost_spread p flutter whole k).starts)
    × ((spread_through_losses false p flutter what k).lengths ≤ (lost_spread p flutter whole k).lengths)

abbrev pub LostIsBy : Type 0
LostIsBy =
    (p : Values) (flutter : ℕ) (whole : ℕ → Bool) (k : ℕ)
    → lost_spread p flutter whole k ≡ spread_through_losses false p flutter (λ m. both (all_or_any (whole m))) k

-- they go on as the laws above ask for
abbrev pub LostSpreadGoes : Type 0
LostSpreadGoes =
    (p : Values) (flutter : ℕ) (whole : ℕ → Bool) (k : ℕ)
    → GoesTo (both (all_or_any (whole k))) p flutter (lost_spread p flutter whole k).starts (lost_spread p flutter whole k).lengths
    (lost_spread p flutter whole (suc k)).starts (lost_spread p flutter whole (suc k)).lengths

-- after two double cycles in which all is heard they are those of sharp sync again, whatever came before
abbrev pub HeardAgain : Type 0
HeardAgain =
    (p : Values) (flutter : ℕ) (whole : ℕ → Bool) (k : ℕ)
    → whole k ≡ true → whole (suc k) ≡ true → IsSharplySettled false p flutter (lost_spread p flutter whole (suc (suc k)))

-- where of any two adjacent ones all is heard in one, macroticks never lie further apart than this
abbrev pub every_second : Values → ℕ → ℕ
every_second p flutter = sharp_precision false p flutter + 5 * sharp_lambda false p flutter + 2 * arrival_error p + 2 * cycle_change p

abbrev pub EverySecondCosts : Type 0
EverySecondCosts =
    (p : Values) (flutter : ℕ) (whole : ℕ → Bool)
    → ((k : ℕ) → (whole k ≡ true) ⊎ (whole (suc k) ≡ true))
    → (k : ℕ)
    → (precision_by p (lost_spread p flutter whole k).starts (lost_spread p flutter whole k).lengths ≤ every_second p flutter)
    × ((lost_spread p flutter whole (suc k)).starts + longest_micro p ≤ every_second p flutter)
