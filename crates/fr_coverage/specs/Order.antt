-- What a gap is, and the order in which gaps are looked for: facts about the files, beside the function that finds the first.
use Rattle.std.specs.Prelude.{ℕ, pos, ◌-ℤ◌, ◌*◌, ◌↔◌, ◌≡◌, ◌<◌, ◌≤◌, ◌-◌, ◌⊎◌, true, false, List, [], ◌∷◌, Some, None, Contains}
use Rattle.std.specs.declared.cmp.Ordering.TheVariants.{Less}
use Rattle.std.specs.Ordering.{nat_cmp}
use Rattle.std.specs.Cmp.Lexicographic.{slice_cmp}
use Rattle.fr_base.specs.Rows.{channel_rank}
use Rattle.fr_base.specs.declared.channel.Channel.{Channel}
use Rattle.fr_cluster.specs.Values.{Values}
use Rattle.fr_cluster.specs.declared.nodes.NodeSpec.{NodeSpec}
use Rattle.fr_bound.specs.Checks.{left_of, right_of, holds_of}
use Rattle.fr_bound.specs.Outweighing.{outweighs}
use Rattle.fr_drift.specs.View.{DriftView}
use Rattle.fr_drift.specs.Questions.{doubles_of, length_of, delay_of}
use Rattle.fr_script.specs.View.{ScriptView, is_arbitrary}
use Rattle.fr_coverage.specs.Links.{is_link, shares, is_carried}
use Rattle.fr_coverage.specs.Coverage.{asked_checks, how_many_cycles, count_of, is_off, has_jumped, is_wrong, first_gap, gap_from, gap_of_run}
use Rattle.fr_coverage.specs.declared.gap.Gap.{Gap}
use Rattle.fr_coverage.specs.declared.gap.Gap.TheVariants as gap

-- the place of a gap: its kind, and then its numbers
abbrev pub place_of_gap : Gap → List ℕ
place_of_gap (gap.Check number left right) = 1 ∷ number ∷ []
place_of_gap (gap.Count correct arbitrary) = 2 ∷ []
place_of_gap (gap.Length node cycle ticks) = 3 ∷ node ∷ cycle ∷ []
place_of_gap (gap.Change node cycle ticks) = 4 ∷ node ∷ cycle ∷ []
place_of_gap (gap.Delay sender receiver ch cycle ticks) = 5 ∷ sender ∷ receiver ∷ channel_rank ch ∷ cycle ∷ []
place_of_gap (gap.Link sender receiver double) = 6 ∷ sender ∷ receiver ∷ double ∷ []

-- a gap is looked for before another: by kind, and then by each number in turn
abbrev pub IsEarlierGap : Gap → Gap → Type 0
IsEarlierGap a b = slice_cmp nat_cmp (place_of_gap a) (place_of_gap b) ≡ Less

-- a check fails, of so many that are asked
pub record IsFailingCheck (asked : ℕ) (p : Values) (g : Gap) : Type 0 where
  pub number : ℕ
  pub from : 1 ≤ number
  pub to : number ≤ asked
  pub fails : holds_of number p ≡ false
  pub told : g ≡ gap.Check number (pos (left_of number p)) (pos (right_of number p))

-- of those of each cluster, and of those that are asked of a run
abbrev pub IsCheckGap : Values → Gap → Type 0
IsCheckGap p = IsFailingCheck 5 p

abbrev pub IsRunCheckGap : Values → ScriptView → Gap → Type 0
IsRunCheckGap p s = IsFailingCheck (asked_checks p s) p

-- the correct nodes with a key slot that take part from cycle 0 on do not outweigh the arbitrary ones
pub record IsCountGap (p : Values) (s : ScriptView) (g : Gap) : Type 0 where
  pub few : outweighs (count_of s false p.nodes) (count_of s true p.nodes) ≡ false
  pub told : g ≡ gap.Count (count_of s false p.nodes) (count_of s true p.nodes)

-- the microtick of a correct node is too short or too long in a cycle of the run
pub record IsLengthGap (p : Values) (d : DriftView) (s : ScriptView) (g : Gap) : Type 0 where
  pub node : NodeSpec
  pub there : Contains p.nodes node
  pub correct : is_arbitrary s node.id ≡ false
  pub cycle : ℕ
  pub within : cycle < how_many_cycles d
  pub off : is_off p (length_of d node.id cycle) ≡ true
  pub told : g ≡ gap.Length node.id cycle (length_of d node.id cycle)

-- it has changed by too much since the cycle before, which is of the run too
pub record IsChangeGap (p : Values) (d : DriftView) (s : ScriptView) (g : Gap) : Type 0 where
  pub node : NodeSpec
  pub there : Contains p.nodes node
  pub correct : is_arbitrary s node.id ≡ false
  pub cycle : ℕ
  pub later : 1 ≤ cycle
  pub within : cycle < how_many_cycles d
  pub jumped : has_jumped p (length_of d node.id (cycle - 1)) (length_of d node.id cycle) ≡ true
  pub told : g ≡ gap.Change node.id cycle (length_of d node.id cycle -ℤ length_of d node.id (cycle - 1))

-- the frames of a correct node with a key slot travel too short or too long to another correct node, in a cycle of the run on a
-- channel that both have
pub record IsDelayGap (p : Values) (d : DriftView) (s : ScriptView) (g : Gap) : Type 0 where
  pub sender : NodeSpec
  pub receiver : NodeSpec
  pub sender_there : Contains p.nodes sender
  pub receiver_there : Contains p.nodes receiver
  pub link : is_link s sender receiver ≡ true
  pub ch : Channel
  pub shared : shares sender receiver ch ≡ true
  pub cycle : ℕ
  pub within : cycle < how_many_cycles d
  pub wrong : is_wrong p ch (delay_of d sender.id receiver.id ch cycle) ≡ true
  pub told : g ≡ gap.Delay sender.id receiver.id ch cycle (delay_of d sender.id receiver.id ch cycle)

-- in a double cycle of the run no channel that both have carries its frames of both cycles
pub record IsLinkGap (p : Values) (d : DriftView) (s : ScriptView) (g : Gap) : Type 0 where
  pub sender : NodeSpec
  pub receiver : NodeSpec
  pub sender_there : Contains p.nodes sender
  pub receiver_there : Contains p.nodes receiver
  pub link : is_link s sender receiver ≡ true
  pub double : ℕ
  pub within : double < doubles_of d
  pub broken : is_carried s sender receiver double ≡ false
  pub told : g ≡ gap.Link sender.id receiver.id double

-- a gap of the run itself, whatever the checks of its parameters say
abbrev pub IsGapOfRun : Values → DriftView → ScriptView → Gap → Type 0
IsGapOfRun p d s g = IsCountGap p s g ⊎ (IsLengthGap p d s g ⊎ (IsChangeGap p d s g ⊎ (IsDelayGap p d s g ⊎ IsLinkGap p d s g)))

-- a gap
abbrev pub IsGap : Values → DriftView → ScriptView → Gap → Type 0
IsGap p d s g = IsRunCheckGap p s g ⊎ IsGapOfRun p d s g

-- it is one, and none is looked for before it
pub record IsFirstGap (p : Values) (d : DriftView) (s : ScriptView) (g : Gap) : Type 0 where
  pub is_gap : IsGap p d s g
  pub first : (h : Gap) → IsGap p d s h → IsEarlierGap h g → ⊥

-- of a run of these files: what is found is its first gap, its first gap is found, and where none is found it has none
abbrev pub FindsFirst : Values → DriftView → ScriptView → Type 0
FindsFirst p d s = (g : Gap) → first_gap p d s ≡ Some g → IsFirstGap p d s g

abbrev pub FirstIsFound : Values → DriftView → ScriptView → Type 0
FirstIsFound p d s = (g : Gap) → IsFirstGap p d s g → first_gap p d s ≡ Some g

abbrev pub HasNoGap : Values → DriftView → ScriptView → Type 0
HasNoGap p d s = (g : Gap) → IsGap p d s g → ⊥

-- and so of those of the run itself
pub record IsFirstGapOfRun (p : Values) (d : DriftView) (s : ScriptView) (g : Gap) : Type 0 where
  pub is_gap : IsGapOfRun p d s g
  pub first : (h : Gap) → IsGapOfRun p d s h → IsEarlierGap h g → ⊥

abbrev pub HasNoGapOfRun : Values → DriftView → ScriptView → Type 0
HasNoGapOfRun p d s = (g : Gap) → IsGapOfRun p d s g → ⊥

abbrev pub FindsGapOfRun : Values → DriftView → ScriptView → Type 0
FindsGapOfRun p d s =
    (gap_of_run p d s ≡ None → HasNoGapOfRun p d s) × ((g : Gap) → gap_of_run p d s ≡ Some g → IsFirstGapOfRun p d s g)

-- ---- from a double cycle on

-- what a gap speaks of lies from a double cycle on: a check and a count speak of none, and a change of two cycles
abbrev pub IsBehind : ℕ → Gap → Type 0
IsBehind from (gap.Check number left right) = Unit {0}
IsBehind from (gap.Count correct arbitrary) = Unit {0}
IsBehind from (gap.Length node cycle ticks) = 2 * from ≤ cycle
IsBehind from (gap.Change node cycle ticks) = 2 * from < cycle
IsBehind from (gap.Delay sender receiver ch cycle ticks) = 2 * from ≤ cycle
IsBehind from (gap.Link sender receiver double) = from ≤ double

-- the run has none from there on
abbrev pub HasNoGapFrom : Values → DriftView → ScriptView → ℕ → Type 0
HasNoGapFrom p d s from = (g : Gap) → IsGapOfRun p d s g → IsBehind from g → ⊥

-- it is one from there on, and none of these is looked for before it
pub record IsFirstGapFrom (p : Values) (d : DriftView) (s : ScriptView) (from : ℕ) (g : Gap) : Type 0 where
  pub is_gap : IsGapOfRun p d s g
  pub behind : IsBehind from g
  pub first : (h : Gap) → IsGapOfRun p d s h → IsBehind from h → IsEarlierGap h g → ⊥

-- what is found from there on is the first of these, and none is found exactly where there is none
pub record FindsGapFrom (p : Values) (d : DriftView) (s : ScriptView) (from : ℕ) : Type 0 where
  pub none : (gap_from p d s from ≡ None) ↔ HasNoGapFrom p d s from
  pub first : (g : Gap) → gap_from p d s from ≡ Some g → IsFirstGapFrom p d s from g

-- from the first double cycle on these are the gaps of the run
abbrev pub AllGapsAreBehind : Values → DriftView → ScriptView → Type 0
AllGapsAreBehind p d s = (g : Gap) → IsGapOfRun p d s g → IsBehind 0 g
