-- A cycle of a world, step by step, by what each step makes of its stage.
use Rattle.std.proofs.Common.{◌≡◌, ℕ, ◌+◌, Bool, true, false, List, ◌∷◌, map, refl, ap, sym, ◌∙◌, subst}
use Rattle.std.specs.Prelude.{All}
use Rattle.fr_base.specs.Rows.{Roomy}
use Rattle.fr_base.specs.declared.node_row.NodeRow.{NodeRow}
use Rattle.fr_cluster.specs.Sane.{IsSane}
use Rattle.fr_cluster.specs.Setting.{Setting}
use Rattle.fr_cluster.specs.Values.{amount}
use Rattle.fr_cluster.specs.declared.names.ParamName.TheVariants as name
use Rattle.fr_time.specs.Cycles.{is_odd}
use Rattle.fr_node.specs.View.{node_row_of}
use Rattle.fr_history.specs.Lawful.{IsLawful}
use Rattle.fr_history.specs.Next.{cycles_of, early_rows, next_cycle}
use Rattle.fr_air.specs.Files.{setting_in}
use Rattle.fr_air.specs.Memory.{MemoryView, memory_with}
use Rattle.fr_world.specs.Stage.{StageView, begun_stage, ended_stage, heard_after}
use Rattle.fr_world.specs.Standing.{followers_kept, listeners_kept, nodes_kept}
use Rattle.fr_air.specs.Listening.{StartsEarly, after_listening}
use Rattle.fr_world.specs.Succeeding.{HasFew, succeeded}
use Rattle.fr_world.specs.World.{StandAfter, memory_after}
use Rattle.fr_air.specs.declared.files.RunInputs.{RunInputs}
use Rattle.fr_world.proofs.Asked.{has-few}
use Rattle.fr_world.proofs.Early.{IsEarly, early-begun, early-behind, early-heard}
use Rattle.fr_world.proofs.Listened.{listeners-caught}
use Rattle.fr_air.proofs.Members.{IsRun}
use Rattle.fr_air.proofs.OneCycle.{all-begun, all-heard, all_behind, all_begun, all_heard, cycles-more, nodes-ended, rows-begun, run-of}
use Rattle.fr_world.proofs.CycleHeld.{cycle-held}
use Rattle.fr_world.proofs.Stages.{followers-walked, listeners-walked, memory-walked, nodes-walked, rows-walked}
use Rattle.fr_world.proofs.Succeeded.{Keeps, Succeeds, stage-succeeds}

-- the stage before a cycle, in a run
pub record IsBefore (f : RunInputs) (cycle : ℕ) (before : StageView) : Type 0 where
  pub run : IsRun (setting_in f) (cycles_of (setting_in f) cycle)
  pub keeps : Keeps (setting_in f) (cycles_of (setting_in f) cycle) before
  pub early : All (IsEarly f cycle) before.nodes
  pub remembers : before.memory ≡ memory_after f cycle

pub before-is : (f : RunInputs) (cycle : ℕ) (keys : List ℕ) (stage : StageView) (devs : Roomy) → IsSane f.params → ((n : ℕ) → IsLawful (setting_in f) (cycles_of (setting_in f) n)) → StandAfter f cycle keys stage devs
    → IsBefore f cycle stage
before-is f cycle keys stage devs sane lawful stand = record {
  run = run-of (setting_in f) sane lawful cycle;
  keeps = record { nodes = stand.nodes_are; followers = stand.followers_are; listeners = stand.listeners_are };
  early = stand.early;
  remembers = stand.remembers;
}

-- ---- as it begins

pub first-succeeds : (f : RunInputs) (cycle : ℕ) (before first : StageView) → IsBefore f cycle before → first ≡ succeeded f cycle before → Succeeds (setting_in f) (cycles_of (setting_in f) cycle) first
first-succeeds f cycle before first is now = stage-succeeds f cycle before first is.run.sane is.run.lawful.1 is.keeps now

pub first-few : (f : RunInputs) (cycle : ℕ) (before : StageView) → IsBefore f cycle before → HasFew (succeeded f cycle before)
first-few f cycle before is =
    has-few (setting_in f) is.run.sane (cycles_of (setting_in f) cycle) (succeeded f cycle before) (first-succeeds f cycle before (succeeded f cycle before) is refl)

memory_by : (f : RunInputs) (cycle : ℕ) (before : StageView) (b : Bool) → is_odd cycle ≡ b → (succeeded f cycle before).memory ≡ before.memory
memory_by f cycle before true is = rw is refl
memory_by f cycle before false is = rw is refl

memory-stays : (f : RunInputs) (cycle : ℕ) (before first : StageView) → IsBefore f cycle before → first ≡ succeeded f cycle before → first.memory ≡ memory_after f cycle
memory-stays f cycle before first is now = ap (λ (s : StageView). s.memory) now ∙ memory_by f cycle before (is_odd cycle) refl ∙ is.remembers

pub first-memory : (f : RunInputs) (cycle : ℕ) (before first : StageView) → IsBefore f cycle before → first ≡ succeeded f cycle before → first.memory ≡ memory_with f.params first.memory.held
first-memory f cycle before first is now =
    let same = memory-stays f cycle before first is now in
    same ∙ ap (λ (m : MemoryView). memory_with f.params m.held) (sym same)

-- ---- the stages of a cycle: before it, as it begins, with it begun, and after its slots

pub record AreHeard (f : RunInputs) (cycle : ℕ) (before first begun heard : StageView) : Type 0 where
  pub is_before : IsBefore f cycle before
  pub first_is : first ≡ succeeded f cycle before
  pub begun_is : begun ≡ begun_stage f cycle first
  pub heard_is : heard ≡ heard_after (setting_in f) cycle (amount f.params name.gNumberOfStaticSlots) begun

module _ (f : RunInputs) (cycle : ℕ) (before first begun heard : StageView) (are : AreHeard f cycle before first begun heard) where
  pub succeeds : Succeeds (setting_in f) (cycles_of (setting_in f) cycle) first
  succeeds = first-succeeds f cycle before first are.is_before are.first_is

  -- ---- with it begun

  nodes-begun : begun.nodes ≡ all_begun (setting_in f) (cycles_of (setting_in f) cycle) false
  nodes-begun = all-begun f cycle false first.nodes begun.nodes succeeds.nodes (ap (λ (s : StageView). s.nodes) are.begun_is)

  followers-begun : begun.followers ≡ all_begun (setting_in f) (cycles_of (setting_in f) cycle) true
  followers-begun = all-begun f cycle true first.followers begun.followers succeeds.followers (ap (λ (s : StageView). s.followers) are.begun_is)

  pub rows-early : map node_row_of begun.nodes ≡ early_rows (setting_in f) (cycles_of (setting_in f) cycle)
  rows-early = rows-begun (setting_in f) (cycles_of (setting_in f) cycle) begun.nodes nodes-begun

  all-early : All (IsEarly f cycle) (all_behind (setting_in f) (cycles_of (setting_in f) cycle) false)
  all-early = early-behind f (cycles_of (setting_in f) cycle) cycle before.nodes are.is_before.keeps.nodes are.is_before.early

  -- ---- after its slots

  nodes-heard : heard.nodes ≡ all_heard (setting_in f) (cycles_of (setting_in f) cycle) false
  nodes-heard =
      all-heard (setting_in f) cycle are.is_before.run false (map node_row_of begun.nodes) begun.nodes heard.nodes nodes-begun rows-early
      (nodes-walked f cycle first begun heard are.begun_is are.heard_is)

  followers-heard : heard.followers ≡ all_heard (setting_in f) (cycles_of (setting_in f) cycle) true
  followers-heard =
      all-heard (setting_in f) cycle are.is_before.run true (map node_row_of begun.nodes) begun.followers heard.followers followers-begun rows-early
      (followers-walked f cycle first begun heard are.begun_is are.heard_is)

  rows-heard : heard.rows ≡ early_rows (setting_in f) (cycles_of (setting_in f) cycle)
  rows-heard = rows-walked f cycle first begun heard are.begun_is are.heard_is ∙ rows-early

  pub rows-start : All (StartsEarly f cycle) heard.rows
  rows-start =
      let P : List NodeRow → Type 0 = λ rows. All (StartsEarly f cycle) rows in
      subst P (sym (rows-walked f cycle first begun heard are.begun_is are.heard_is))
      (early-begun f (cycles_of (setting_in f) cycle) cycle begun.nodes nodes-begun all-early)

  pub listeners-heard : heard.listeners ≡ first.listeners
  listeners-heard = listeners-walked f cycle first begun heard are.begun_is are.heard_is

  -- ---- behind what listeners catch

  module _ (caught : StageView) (caught_is : caught ≡ record heard { listeners = map (after_listening (setting_in f) cycle heard.rows) heard.listeners }) where
    pub nodes-caught : caught.nodes ≡ all_heard (setting_in f) (cycles_of (setting_in f) cycle) false
    nodes-caught = ap (λ (s : StageView). s.nodes) caught_is ∙ nodes-heard

    followers-caught : caught.followers ≡ all_heard (setting_in f) (cycles_of (setting_in f) cycle) true
    followers-caught = ap (λ (s : StageView). s.followers) caught_is ∙ followers-heard

    pub early-caught : All (IsEarly f cycle) caught.nodes
    early-caught = early-heard f (cycles_of (setting_in f) cycle) cycle caught.nodes nodes-caught all-early

    caught-listeners : caught.listeners ≡ listeners_kept (setting_in f) (next_cycle (setting_in f) (cycles_of (setting_in f) cycle) ∷ cycles_of (setting_in f) cycle)
    caught-listeners =
        listeners-caught (setting_in f) cycle heard.rows heard.listeners caught.listeners rows-heard
        (listeners-heard ∙ succeeds.listeners) (ap (λ (s : StageView). s.listeners) caught_is)

    -- ---- with it ended

    pub keeps-on : (last : StageView) → last ≡ ended_stage f caught → Keeps (setting_in f) (cycles_of (setting_in f) (cycle + 1)) last
    keeps-on last is =
        let x : Setting = setting_in f in
        let more = cycles-more x cycle in
        record {
          nodes = nodes-ended x cycle are.is_before.run false caught.nodes last.nodes nodes-caught (ap (λ (s : StageView). s.nodes) is) ∙ ap (nodes_kept x) more;
          followers = nodes-ended x cycle are.is_before.run true caught.followers last.followers followers-caught (ap (λ (s : StageView). s.followers) is) ∙ ap (followers_kept x) more;
          listeners = ap (λ (s : StageView). s.listeners) is ∙ caught-listeners ∙ ap (listeners_kept x) more;
        }

    pub remembers-on : (last : StageView) → last ≡ ended_stage f caught → last.memory ≡ memory_after f (cycle + 1)
    remembers-on last is =
        ap (λ (s : StageView). s.memory) is
        ∙ ap (λ (s : StageView). s.memory) caught_is
        ∙ cycle-held f cycle (map node_row_of begun.nodes) first.memory heard.memory rows-early (memory-stays f cycle before first are.is_before are.first_is)
        (memory-walked f cycle first begun heard are.begun_is are.heard_is)
