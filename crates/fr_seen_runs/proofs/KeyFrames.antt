-- Which frames of key slots must be in a log where the observer missed none.
use Rattle.std.proofs.Common.{◌≡◌, ◌⊎◌, ℕ, suc, ◌+◌, ◌*◌, ◌/◌, ◌%◌, ◌==◌, Bool, true, false, if◌then◌else◌, Option, Some, None, IsSome, List, [], ◌∷◌, All, refl, ap, sym, ◌∙◌, subst, inl, inr, arith}
use Rattle.std.specs.Prelude.{◌&&◌, not, is_some, Contains, filter, find}
use Rattle.std.specs.Option.{option_map}
use Rattle.std.proofs.lemmas.List.Elements.{All-contains}
use Rattle.fr_base.specs.Rows.{channel_rank}
use Rattle.fr_base.specs.declared.channel.Channel.{Channel}
use Rattle.fr_base.specs.declared.node_row.NodeRow.{NodeRow}
use Rattle.fr_base.specs.declared.state.State.TheVariants.{Active}
use Rattle.fr_cluster.specs.Questions.{has_channel}
use Rattle.fr_cluster.specs.Setting.{Setting, correct_nodes, is_correct}
use Rattle.fr_cluster.specs.declared.nodes.NodeSpec.{NodeSpec}
use Rattle.fr_cluster.specs.declared.join.Join.{Join}
use Rattle.fr_cluster.proofs.Elements.{found, kept_filtered}
use Rattle.fr_history.specs.Cycles.{Cycle, Cycles, cycle_at}
use Rattle.fr_history.specs.History.{row_for, row_of}
use Rattle.fr_history.specs.Offers.{is_on}
use Rattle.fr_history.specs.Standing.{has_row, has_row_by}
use Rattle.fr_runs.specs.Gathered.{CycleRuns}
use Rattle.fr_runs.specs.Numbers.{HasDouble}
use Rattle.fr_runs.specs.Rounds.{IsDoubleOf}
use Rattle.fr_runs.proofs.Lawful.{lawful_cycles_run}
use Rattle.fr_runs.proofs.Nodes.{node_there}
use Rattle.fr_runs.proofs.Parts.{odd_is}
use Rattle.fr_runs.proofs.Standing.{had_none, told_has}
use Rattle.fr_runs.proofs.Whole.{double_runs, prior_of}
use Rattle.fr_log.specs.View.{LogView, is_arbitrary_in}
use Rattle.fr_course.specs.declared.stamps.Delays.{Delays}
use Rattle.fr_sightings.specs.Senders.{first_stamp, is_in, is_sent_in, own_slot, sightings_in}
use Rattle.fr_sightings.specs.Sightings.{sightings_of}
use Rattle.fr_sightings.specs.declared.sighting.Sighting.{Sighting}
use Rattle.fr_sightings.proofs.Proper.{both}
use Rattle.fr_seen.specs.Clocks.{StraightClock}
use Rattle.fr_seen.specs.LogSeen.{HasBoth, run_double}
use Rattle.fr_seen.specs.RunRows.{IsTimedRun}
use Rattle.fr_seen.proofs.SenderLaws.{some_row}
use Rattle.fr_seen.specs.Contradictions.{IsInside, IsObservedRun, MissesNone, NamesArbitrary}

-- ---- lists

-- what is found among those kept by another test is found among all, where each that passes is kept
find_kept : {X : Type 0} (p q : X → Bool) (xs : List X) → ((x : X) → p x ≡ true → q x ≡ true) → find p (filter q xs) ≡ find p xs
find_kept p q [] kept = refl
find_kept {X = X} p q (x ∷ xs) kept = by (q x) refl (find_kept p q xs kept)
  where
    by : (b : Bool) → q x ≡ b → find p (filter q xs) ≡ find p xs → find p (filter q (x ∷ xs)) ≡ find p (x ∷ xs)
    by true is rest =
        let here : filter q (x ∷ xs) ≡ x ∷ filter q xs = rw is refl in
        ap (find p) here ∙ ap (λ (o : Option X). if p x then Some x else o) rest
    by false is rest =
        let gone : filter q (x ∷ xs) ≡ filter q xs = rw is refl in
        ap (find p) gone ∙ rest ∙ sym (passed (p x) refl)
      where
        passed : (b : Bool) → p x ≡ b → find p (x ∷ xs) ≡ find p xs
        passed true passes = let e : true ≡ false = sym (kept x passes) ∙ is in absurd (cc)
        passed false fails = rw fails refl

same_number : (a b : ℕ) → (a == b) ≡ true → a ≡ b
same_number a b is = grind arith

-- the first stamp of a cycle is one of the sightings of its double cycle
pub stamp_in : (seen : List Sighting) (double node cycle : ℕ) (ch : Channel) → cycle / 2 ≡ double
    → first_stamp (sightings_in seen double) node ch cycle ≡ first_stamp seen node ch cycle
unfolding first_stamp
stamp_in seen double node cycle ch is =
    ap (option_map (λ (s : Sighting). s.stamp))
    (find_kept (is_sent_in node ch cycle) (is_in double) seen
    (λ s passes. half s.number cycle double (same_number s.number cycle (both ((s.node == node) && (channel_rank s.channel == channel_rank ch)) (s.number == cycle) passes).1) is))
  where
    half : (a b c : ℕ) → a ≡ b → b / 2 ≡ c → (a / 2 == c) ≡ true
    half a b c h k = let e : a / 2 ≡ c = omega (arith, h, k) in equal (a / 2) c e
      where
        equal : (a b : ℕ) → a ≡ b → (a == b) ≡ true
        equal a b is = grind arith

-- ---- rows stay

-- a correct node that has a row in a cycle has one in the next
row_next : (x : Setting) (h : Cycles) (c d : Cycle) (node : NodeSpec) → CycleRuns x (c ∷ h) d → Contains (correct_nodes x) node → is_some (row_of c.told.rows node.id) ≡ true
    → is_some (row_of d.told.rows node.id) ≡ true
row_next x h c d node runs correct had = told_has x (c ∷ h) d node runs correct ∙ by_join (x.join node.id) refl
  where
    by_join : (join : Option Join) → x.join node.id ≡ join → has_row x (c ∷ h) node.id ≡ true
    by_join None at = ap (has_row_by x (c ∷ h) node.id) at
    by_join (Some join) at = by (has_row x (c ∷ h) node.id) refl
      where
        by : (b : Bool) → has_row x (c ∷ h) node.id ≡ b → has_row x (c ∷ h) node.id ≡ true
        by true is = is
        by false is = let e : true ≡ false = sym had ∙ had_none x h c node.id join at is in absurd (cc)

pub row_goes_on : (x : Setting) (h : Cycles) (double : ℕ) (even odd next_even next_odd : Cycle) (node : NodeSpec) (earlier : Cycles) → IsTimedRun x h → HasDouble h double even odd
    → Contains (correct_nodes x) node → is_some (row_of odd.told.rows node.id) ≡ true → IsDoubleOf h (suc double) earlier next_even next_odd → is_some (row_of next_even.told.rows node.id) ≡ true
row_goes_on x h double even odd next_even next_odd node [] run has correct had d = absurd (none double d.counted)
  where
    none : (k : ℕ) → 0 ≡ 2 * suc k → ⊥
    none k e = omega arith
row_goes_on x h double even odd next_even next_odd node (o ∷ []) run has correct had d = absurd (one double d.counted)
  where
    one : (k : ℕ) → 1 ≡ 2 * suc k → ⊥
    one k e = omega arith
row_goes_on x h double even odd next_even next_odd node (o ∷ e ∷ rest) run has correct had d =
    let runs = double_runs x h (suc double) (o ∷ e ∷ rest) next_even next_odd d (lawful_cycles_run x h run.lawful) in
    let before = prior_of h double rest e o next_even next_odd d in
    let same : odd ≡ o = some_same odd o (sym has.has_odd ∙ odd_is h double rest e o before) in
    row_next x (e ∷ rest) o next_even node runs.1.0 correct (subst (λ (c : Cycle). is_some (row_of c.told.rows node.id) ≡ true) same had)
  where
    some_same : (one other : Cycle) → Some one ≡ Some other → one ≡ other
    some_same one other is = cc is

-- ---- a node that sends

-- a number is that of one of the cycles of a double cycle
abbrev pub IsCycleOf : ℕ → ℕ → Type 0
IsCycleOf double number = (number ≡ 2 * double) ⊎ (number ≡ 2 * double + 1)

half_of : (n k : ℕ) → IsCycleOf k n → n / 2 ≡ k
half_of n k (inl is) = omega (arith, is)
half_of n k (inr is) = omega (arith, is)

pub record IsSync (l : LogView) (node : NodeSpec) : Type 0 where
  pub correct : is_arbitrary_in l node.id ≡ false
  pub keyed : IsSome node.key

pub is_sync : (l : LogView) (node : NodeSpec) → IsSome (own_slot l node) → IsSync l node
is_sync l node is = by (is_arbitrary_in l node.id) refl is
  where
    by : (b : Bool) → is_arbitrary_in l node.id ≡ b → IsSome (if b then None else node.key) → IsSync l node
    by true at some = absurd (cc)
    by false at some = record { correct = at; keyed = some }

module _
    (x : Setting) (h : Cycles) (base : ℕ) (delays : ℕ → Channel → Delays) (clock : ℕ → StraightClock) (l : LogView)
    (o : IsObservedRun x h base delays clock l)
  where
    twice : (double : ℕ) → 2 * run_double base double ≡ 2 * double + base
    twice double = by base double o.seen.seen.whole_base
      where
        by : (b k : ℕ) → b % 64 ≡ 0 → 2 * (k + b / 2) ≡ 2 * k + b
        by b k whole = omega (arith, whole)

    pub correct_by : (node : NodeSpec) → NamesArbitrary x l → Contains x.params.nodes node → is_arbitrary_in l node.id ≡ false → Contains (correct_nodes x) node
    correct_by node named there is =
        kept_filtered (λ (n : NodeSpec). is_correct x n.id) x.params.nodes node there (ap not (named node there ∙ is))

    -- the row of a node in a cycle, active
    record HasActive (c : Cycle) (node : ℕ) : Type 0 where
      row : NodeRow
      is : row_of c.told.rows node ≡ Some row
      active : row.state ≡ Active

    active_in : (c : Cycle) (node : ℕ) → All (λ (r : NodeRow). r.state ≡ Active) c.told.rows → is_some (row_of c.told.rows node) ≡ true → HasActive c node
    active_in c node all some =
        let is = some_row c.told.rows node some in
        record {
          row = row_for c.told.rows node;
          is = is;
          active =
              All-contains (λ (r : NodeRow). r.state ≡ Active) c.told.rows (row_for c.told.rows node) all
              (found (λ (r : NodeRow). r.node == node) c.told.rows (row_for c.told.rows node) is).1;
        }

    there_by : (number : ℕ) (node : NodeSpec) (channel : Channel) (even odd : Cycle) (double : ℕ) → MissesNone x h base l → IsInside (sightings_of x.params l) number
        → Contains (correct_nodes x) node → IsSome node.key → is_on x node.id channel ≡ true → HasDouble h (run_double base double) even odd → IsCycleOf double number
        → HasBoth even odd node.id → All (λ (r : NodeRow). r.state ≡ Active) even.told.rows → All (λ (r : NodeRow). r.state ≡ Active) odd.told.rows
        → IsSome (first_stamp (sightings_of x.params l) node.id channel number)
    there_by number node channel even odd double unmissed inside correct keyed on has (inl is) rows even_active odd_active =
        let a = active_in even node.id even_active rows.in_even in
        unmissed number node channel even a.row inside correct keyed on (ap (cycle_at h) (ap (λ n. n + base) is ∙ sym (twice double)) ∙ has.has_even) a.is a.active
    there_by number node channel even odd double unmissed inside correct keyed on has (inr is) rows even_active odd_active =
        let a = active_in odd node.id odd_active rows.in_odd in
        unmissed number node channel odd a.row inside correct keyed on (ap (cycle_at h) (more number double base is (twice double)) ∙ has.has_odd) a.is a.active
      where
        more : (n k b : ℕ) → n ≡ 2 * k + 1 → 2 * run_double b k ≡ 2 * k + b → n + b ≡ suc (2 * run_double b k)
        more n k b is two = omega (arith, is, two)

    -- so the frames of a node with active rows in both cycles of a double cycle are among the sightings of that
    pub frames_by : (double number : ℕ) (node : NodeSpec) (channel : Channel) (even odd : Cycle) → NamesArbitrary x l → MissesNone x h base l
        → Contains x.params.nodes node → IsSome (own_slot l node) → HasDouble h (run_double base double) even odd
        → HasBoth even odd node.id → All (λ (r : NodeRow). r.state ≡ Active) even.told.rows → All (λ (r : NodeRow). r.state ≡ Active) odd.told.rows
        → IsCycleOf double number → IsInside (sightings_of x.params l) number → has_channel (Some node) channel ≡ true
        → IsSome (first_stamp (sightings_in (sightings_of x.params l) double) node.id channel number)
    frames_by double number node channel even odd named unmissed among own has rows even_active odd_active of inside channel_is =
        let sync = is_sync l node own in
        let on : is_on x node.id channel ≡ true = ap (λ n. has_channel n channel) (node_there x.params node o.timed.sane among) ∙ channel_is in
        subst IsSome (sym (stamp_in (sightings_of x.params l) double node.id number channel (half_of number double of)))
        (
        there_by number node channel even odd double unmissed inside (correct_by node named among sync.correct) sync.keyed on has of rows even_active
        odd_active
        )
