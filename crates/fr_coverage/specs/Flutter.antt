-- How much the delays of a run flutter from a double cycle on: the greatest difference, in ticks, of the delay of a correct node's
-- sync frames at another correct node, on a channel that both have, between the two cycles of a double cycle; what that is, beside the
-- search for it; and where it is so.
use Rattle.std.specs.Prelude.{ℕ, zero, suc, max, nat_abs, nat_le, nat_lt, ◌*◌, ◌==◌, ◌&&◌, ◌||◌, ◌<◌, ◌≤◌, ◌≡◌, ◌-ℤ◌, ◌⊎◌, ◌↔◌, Bool, true, List, [], ◌∷◌, Contains, Option, Some, None, if◌then◌else◌}
use Rattle.std.specs.declared.cmp.Ordering.TheVariants.{Less}
use Rattle.std.specs.Ordering.{nat_cmp}
use Rattle.std.specs.Cmp.Lexicographic.{slice_cmp}
use Rattle.fr_base.specs.Rows.{channel_rank}
use Rattle.fr_base.specs.declared.channel.Channel.{Channel}
use Rattle.fr_base.specs.declared.channel.Channel.TheVariants as channel
use Rattle.fr_cluster.specs.Values.{Values}
use Rattle.fr_cluster.specs.declared.nodes.NodeSpec.{NodeSpec}
use Rattle.fr_drift.specs.Questions.{delay_of, doubles_of}
use Rattle.fr_drift.specs.View.{DriftView}
use Rattle.fr_script.specs.View.{ScriptView}
use Rattle.fr_coverage.specs.First.{from_on}
use Rattle.fr_coverage.specs.Links.{is_link, shares}
use Rattle.fr_coverage.specs.declared.gap.Fluttering.{Fluttering}

-- the greatest of what the numbers below a limit give, and 0 without any
unfoldable pub greatest_below : (ℕ → ℕ) → ℕ → ℕ
greatest_below what zero = 0
greatest_below what (suc n) = max (greatest_below what n) (what n)

-- the same from a number on
abbrev pub greatest_between : (ℕ → ℕ) → ℕ → ℕ → ℕ
greatest_between what from limit = greatest_below (λ n. if nat_le from n then what n else 0) limit

-- the greatest of what the elements of a list give, and 0 without any
unfoldable pub greatest_in : {A : Type 0} → (A → ℕ) → List A → ℕ
greatest_in what [] = 0
greatest_in what (x ∷ xs) = max (what x) (greatest_in what xs)

-- by how many ticks the delay of a link on a channel differs between the two cycles of a double cycle
abbrev pub flutter_in : DriftView → ℕ → ℕ → Channel → ℕ → ℕ
flutter_in d sender receiver ch double =
    nat_abs (delay_of d sender receiver ch (suc (2 * double)) -ℤ delay_of d sender receiver ch (2 * double))

-- where it differs most from a double cycle on: on a channel, where both nodes have it, and on either channel, where frames of the
-- one count for the other
abbrev pub flutter_on : DriftView → ℕ → NodeSpec → NodeSpec → Channel → ℕ
flutter_on d from a b ch = if shares a b ch then greatest_between (flutter_in d a.id b.id ch) from (doubles_of d) else 0

abbrev pub flutter_between : DriftView → ScriptView → ℕ → NodeSpec → NodeSpec → ℕ
flutter_between d s from a b = if is_link s a b then max (flutter_on d from a b channel.A) (flutter_on d from a b channel.B) else 0

-- the flutter from a double cycle on, and that of the run
unfoldable pub flutter_from : Values → DriftView → ScriptView → ℕ → ℕ
flutter_from p d s from = greatest_in (λ a. greatest_in (flutter_between d s from a) p.nodes) p.nodes

abbrev pub flutter_of : Values → DriftView → ScriptView → ℕ
flutter_of p d s = flutter_from p d s 0

-- ---- where it is so

-- where the delay of a link on a channel flutters in a double cycle
abbrev pub fluttering_in : DriftView → ℕ → ℕ → Channel → ℕ → Option Fluttering
fluttering_in d sender receiver ch double =
    if flutter_in d sender receiver ch double == 0
    then None
    else Some
    (record {
      ticks = flutter_in d sender receiver ch double;
      sender = sender;
      receiver = receiver;
      channel = ch;
      double = double;
    })

-- which of two is told: that of more ticks, of two alike that of the later double cycle, and of two of one double cycle the former
abbrev pub outdoes : Fluttering → Fluttering → Bool
outdoes one other = nat_lt other.ticks one.ticks || ((one.ticks == other.ticks) && nat_lt other.double one.double)

abbrev pub told_of_two : Option Fluttering → Option Fluttering → Option Fluttering
told_of_two None other = other
told_of_two (Some one) None = Some one
told_of_two (Some one) (Some other) = if outdoes other one then Some other else Some one

-- of those of the numbers below a limit, and of those of the elements of a list
unfoldable pub told_below : (ℕ → Option Fluttering) → ℕ → Option Fluttering
told_below what zero = None
told_below what (suc n) = told_of_two (told_below what n) (what n)

unfoldable pub told_in : {A : Type 0} → (A → Option Fluttering) → List A → Option Fluttering
told_in what [] = None
told_in what (x ∷ xs) = told_of_two (what x) (told_in what xs)

-- so of a link on a channel, of a link, and of the run, from a double cycle on
abbrev pub fluttering_on : DriftView → ℕ → NodeSpec → NodeSpec → Channel → Option Fluttering
fluttering_on d from a b ch = if shares a b ch then told_below (from_on from (fluttering_in d a.id b.id ch)) (doubles_of d) else None

abbrev pub fluttering_between : DriftView → ScriptView → ℕ → NodeSpec → NodeSpec → Option Fluttering
fluttering_between d s from a b =
    if is_link s a b then told_of_two (fluttering_on d from a b channel.A) (fluttering_on d from a b channel.B) else None

unfoldable pub fluttering_from : Values → DriftView → ScriptView → ℕ → Option Fluttering
fluttering_from p d s from = told_in (λ a. told_in (fluttering_between d s from a) p.nodes) p.nodes

-- by how many ticks: 0 where none flutters
abbrev pub ticks_of : Option Fluttering → ℕ
ticks_of None = 0
ticks_of (Some place) = place.ticks

-- ---- what it is

-- the delay of the frames of a correct node with a key slot at another correct node, on a channel that both have, differs by so many
-- ticks between the two cycles of a double cycle of the run, from one on
pub record FluttersBy (p : Values) (d : DriftView) (s : ScriptView) (from ticks : ℕ) : Type 0 where
  pub sender : NodeSpec
  pub receiver : NodeSpec
  pub sender_there : Contains p.nodes sender
  pub receiver_there : Contains p.nodes receiver
  pub link : is_link s sender receiver ≡ true
  pub ch : Channel
  pub shared : shares sender receiver ch ≡ true
  pub double : ℕ
  pub behind : from ≤ double
  pub within : double < doubles_of d
  pub differs :
      nat_abs (delay_of d sender.id receiver.id ch (suc (2 * double)) -ℤ delay_of d sender.id receiver.id ch (2 * double)) ≡ ticks

-- none differs by more, and some differs by as much, or it is 0
pub record IsFlutterOf (p : Values) (d : DriftView) (s : ScriptView) (from flutter : ℕ) : Type 0 where
  pub most : (ticks : ℕ) → FluttersBy p d s from ticks → ticks ≤ flutter
  pub reached : (flutter ≡ 0) ⊎ FluttersBy p d s from flutter

-- so it is of what is found, and of no other number
abbrev pub FlutterIsGreatest : Type 0
FlutterIsGreatest = (p : Values) (d : DriftView) (s : ScriptView) (from : ℕ) → IsFlutterOf p d s from (flutter_from p d s from)

abbrev pub HasOneFlutter : Type 0
HasOneFlutter =
    (p : Values) (d : DriftView) (s : ScriptView) (from one other : ℕ) → IsFlutterOf p d s from one → IsFlutterOf p d s from other
    → one ≡ other

-- a gap, where delays are stated to flutter by no more than so many ticks: some flutters by more
pub record IsFlutterGap (p : Values) (d : DriftView) (s : ScriptView) (from stated : ℕ) : Type 0 where
  pub ticks : ℕ
  pub flutters : FluttersBy p d s from ticks
  pub more : stated < ticks

-- there is none exactly where the flutter is no more
abbrev pub FlutterGapsAreFound : Type 0
FlutterGapsAreFound =
    (p : Values) (d : DriftView) (s : ScriptView) (from stated : ℕ)
    → (IsFlutterGap p d s from stated → ⊥) ↔ (flutter_from p d s from ≤ stated)

-- a delay flutters by so many ticks there
abbrev pub FluttersThere : (p : Values) (d : DriftView) (s : ScriptView) (from : ℕ) → Fluttering → Type 0
FluttersThere p d s from place =
    (flutters : FluttersBy p d s from place.ticks)
    × ((flutters.sender.id ≡ place.sender) × ((flutters.receiver.id ≡ place.receiver) × ((flutters.ch ≡ place.channel)
    × (flutters.double ≡ place.double))))

-- its sender, receiver and channel, in the order in which they are looked at
abbrev pub place_of_flutter : Fluttering → List ℕ
place_of_flutter place = place.sender ∷ place.receiver ∷ channel_rank place.channel ∷ []

-- it is the place of the greatest flutter: of all that flutter so much the last double cycle, and in it the first sender, receiver
-- and channel
pub record IsFluttering (p : Values) (d : DriftView) (s : ScriptView) (from : ℕ) (place : Fluttering) : Type 0 where
  pub there : FluttersThere p d s from place
  pub some : 0 < place.ticks
  pub most : (other : Fluttering) → FluttersThere p d s from other → other.ticks ≤ place.ticks
  pub last : (other : Fluttering) → FluttersThere p d s from other → other.ticks ≡ place.ticks → other.double ≤ place.double
  pub first :
      (other : Fluttering) → FluttersThere p d s from other → other.ticks ≡ place.ticks → other.double ≡ place.double
      → slice_cmp nat_cmp (place_of_flutter other) (place_of_flutter place) ≡ Less → ⊥

-- what is found is the place of the flutter, which stays what it is up to there; where none is found it is 0, and stays so
pub record TellsFluttering (p : Values) (d : DriftView) (s : ScriptView) (from : ℕ) (found : Option Fluttering) : Type 0 where
  pub ticks : ticks_of found ≡ flutter_from p d s from
  pub place : (place : Fluttering) → found ≡ Some place → IsFluttering p d s from place
  pub stays :
      (place : Fluttering) → found ≡ Some place → (later : ℕ) → from ≤ later → later ≤ place.double
      → flutter_from p d s later ≡ flutter_from p d s from
  pub none : found ≡ None → (later : ℕ) → from ≤ later → flutter_from p d s later ≡ 0

-- and the flutter falls from one double cycle to the next
abbrev pub FlutterFalls : Type 0
FlutterFalls =
    (p : Values) (d : DriftView) (s : ScriptView) (from later : ℕ) → from ≤ later → flutter_from p d s later ≤ flutter_from p d s from
