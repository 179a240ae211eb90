-- What a stage becomes as a cycle begins: its nodes, followers and listeners are those of the cycle.
use Rattle.std.proofs.Common.{◌≡◌, ℕ, suc, ◌/◌, Bool, true, false, Option, Some, None, List, [], ◌∷◌, filter, map, length, refl, ap, ap₂, sym, ◌∙◌, subst, arith}
use Rattle.std.specs.List.{filter_map}
use Rattle.fr_cluster.specs.Sane.{IsSane}
use Rattle.fr_cluster.specs.Setting.{Setting, correct_nodes}
use Rattle.fr_cluster.specs.declared.join.Join.{Join}
use Rattle.fr_cluster.specs.declared.nodes.NodeSpec.{NodeSpec}
use Rattle.fr_time.specs.Cycles.{is_odd}
use Rattle.fr_node.specs.Cycle.{as_joined}
use Rattle.fr_node.specs.Listening.{ListenerView}
use Rattle.fr_node.specs.View.{NodeView}
use Rattle.fr_history.specs.Cycles.{Cycle, Cycles}
use Rattle.fr_history.specs.Lawful.{IsLawful}
use Rattle.fr_history.specs.Next.{cycles_of}
use Rattle.fr_history.specs.Catching.{begins_with}
use Rattle.fr_history.specs.Standing.{following_nodes, follows, follows_by}
use Rattle.fr_history.proofs.RunsExist.{length-cycles_of}
use Rattle.fr_air.specs.Placing.{put_all}
use Rattle.fr_air.specs.Views.{followers_of_next, listeners_of_next, node_of_next, nodes_of_next}
use Rattle.fr_air.specs.Listeners.{listening_nodes}
use Rattle.fr_air.proofs.NextStanding.{even_cycles_stay}
use Rattle.fr_air.specs.Files.{setting_in}
use Rattle.fr_world.specs.Stage.{StageView}
use Rattle.fr_world.specs.Standing.{followers_kept, listener_kept, listeners_kept, nodes_kept}
use Rattle.fr_world.specs.Succeeding.{first_now, goes_now, joins_now, listeners_now, succeeded}
use Rattle.fr_air.specs.declared.files.RunInputs.{RunInputs}
use Rattle.fr_world.proofs.Succeeding.{followers_succeed_in, listeners_come, nodes_succeed, none_pass}

-- a stage has the nodes, followers and listeners of the last cycle, and those of the next one
pub record Keeps (x : Setting) (h : Cycles) (stage : StageView) : Type 0 where
  pub nodes : stage.nodes ≡ nodes_kept x h
  pub followers : stage.followers ≡ followers_kept x h
  pub listeners : stage.listeners ≡ listeners_kept x h

pub record Succeeds (x : Setting) (h : Cycles) (stage : StageView) : Type 0 where
  pub nodes : stage.nodes ≡ nodes_of_next x h
  pub followers : stage.followers ≡ followers_of_next x h
  pub listeners : stage.listeners ≡ listeners_of_next x h

-- ---- behind an even cycle

odd_less : (n : ℕ) → is_odd (suc n) ≡ true → is_odd n ≡ false
odd_less n odd = grind arith

even_less : (n : ℕ) → is_odd (suc n) ≡ false → is_odd n ≡ true
even_less n even = grind arith

-- the listeners are those of the even cycle
pub listeners-kept : (x : Setting) (h : Cycles) (c : Cycle) → is_odd (length h) ≡ false → listeners_kept x (c ∷ h) ≡ listeners_of_next x (c ∷ h)
listeners-kept x [] c even = refl
listeners-kept x (e ∷ h) c even = let odd : is_odd (length h) ≡ true = even_less (length h) even in rw odd refl

stay : (x : Setting) (h : Cycles) (stage : StageView) → IsLawful x h → is_odd (length h) ≡ true → Keeps x h stage → Succeeds x h stage
stay x [] stage lawful odd keeps = absurd (cc)
stay x (c ∷ h) stage lawful odd keeps =
    let even : is_odd (length h) ≡ false = odd_less (length h) odd in
    let same = even_cycles_stay x h c lawful even in
    record {
      nodes = keeps.nodes ∙ sym (ap (map (λ (node : NodeSpec). node_of_next x (c ∷ h) false node.id)) same.0);
      followers = keeps.followers ∙ sym (ap (map (λ (node : NodeSpec). node_of_next x (c ∷ h) true node.id)) same.1);
      listeners = keeps.listeners ∙ listeners-kept x h c even;
    }

-- ---- behind an odd cycle, or before the first

none_by : (x : Setting) (node : ℕ) (join : Option Join) → follows_by x [] node join ≡ false
unfolding begins_with
none_by x node None = refl
none_by x node (Some join) = refl

nobody_follows : (x : Setting) → following_nodes x [] ≡ []
nobody_follows x = none_pass (λ (node : NodeSpec). follows x [] node.id) (correct_nodes x) (λ node there. none_by x node.id (x.join node.id))

-- what a stage becomes as an even cycle begins, by its parts
abbrev nodes_then : RunInputs → ℕ → List NodeView → List NodeView → List NodeView
nodes_then f double followers nodes = put_all (λ n. n.id) (map as_joined (filter (joins_now f double) followers)) nodes

abbrev followers_then : RunInputs → ℕ → List NodeView → List ListenerView → List NodeView
followers_then f cycle followers listeners = put_all (λ n. n.id) (filter_map (first_now f cycle) listeners) (filter (goes_now f (cycle / 2)) followers)

nodes_as : (f : RunInputs) (h : Cycles) → IsSane f.params → IsLawful (setting_in f) h → is_odd (length h) ≡ false
    → nodes_then f (length h / 2) (followers_kept (setting_in f) h) (nodes_kept (setting_in f) h) ≡ nodes_of_next (setting_in f) h
nodes_as f [] sane lawful even = refl
nodes_as f (c ∷ h) sane lawful even = nodes_succeed (setting_in f) h c sane lawful even

followers_as : (f : RunInputs) (h : Cycles) → IsSane f.params → IsLawful (setting_in f) h → is_odd (length h) ≡ false
    → followers_then f (length h) (followers_kept (setting_in f) h) (listeners_kept (setting_in f) h) ≡ followers_of_next (setting_in f) h
followers_as f [] sane lawful even = sym (ap (map (λ (node : NodeSpec). node_of_next (setting_in f) [] true node.id)) (nobody_follows (setting_in f)))
followers_as f (c ∷ []) sane lawful even = absurd (cc)
followers_as f (odd ∷ early ∷ h) sane lawful even =
    let x : Setting = setting_in f in
    let twice : is_odd (length h) ≡ false = odd_less (length h) (even_less (suc (length h)) even) in
    let kept : listeners_kept x (odd ∷ early ∷ h) ≡ filter_map (listener_kept x h early odd) (listening_nodes x h) = rw twice refl in
    ap (followers_then f (suc (suc (length h))) (followers_kept x (odd ∷ early ∷ h))) kept
    ∙ followers_succeed_in x h early odd sane lawful twice

change : (f : RunInputs) (h : Cycles) (stage : StageView) → IsSane f.params → IsLawful (setting_in f) h → is_odd (length h) ≡ false → Keeps (setting_in f) h stage
    → Succeeds (setting_in f) h (succeeded f (length h) stage)
change f h stage sane lawful even keeps =
    let x : Setting = setting_in f in
    let P : StageView → Type 0 = λ s. Succeeds x h s in
    let now : succeeded f (length h) stage ≡ record stage {
      nodes = nodes_then f (length h / 2) stage.followers stage.nodes;
      followers = followers_then f (length h) stage.followers stage.listeners;
      listeners = listeners_now f (length h / 2);
    } = rw even refl in
    subst P (sym now) (record {
      nodes = ap₂ (nodes_then f (length h / 2)) keeps.followers keeps.nodes ∙ nodes_as f h sane lawful even;
      followers = ap₂ (followers_then f (length h)) keeps.followers keeps.listeners ∙ followers_as f h sane lawful even;
      listeners = listeners_come x h even;
    })

by_length : (f : RunInputs) (h : Cycles) (stage : StageView) (b : Bool) → is_odd (length h) ≡ b → IsSane f.params → IsLawful (setting_in f) h → Keeps (setting_in f) h stage
    → Succeeds (setting_in f) h (succeeded f (length h) stage)
by_length f h stage false is sane lawful keeps = change f h stage sane lawful is keeps
by_length f h stage true is sane lawful keeps =
    let P : StageView → Type 0 = λ s. Succeeds (setting_in f) h s in
    let now : succeeded f (length h) stage ≡ stage = rw is refl in
    subst P (sym now) (stay (setting_in f) h stage lawful is keeps)

pub stage-succeeds : (f : RunInputs) (cycle : ℕ) (stage after : StageView) → IsSane f.params → IsLawful (setting_in f) (cycles_of (setting_in f) cycle)
    → Keeps (setting_in f) (cycles_of (setting_in f) cycle) stage → after ≡ succeeded f cycle stage → Succeeds (setting_in f) (cycles_of (setting_in f) cycle) after
stage-succeeds f cycle stage after sane lawful keeps now =
    let x : Setting = setting_in f in
    let h : Cycles = cycles_of x cycle in
    let P : StageView → Type 0 = λ s. Succeeds x h s in
    let Q : ℕ → Type 0 = λ c. Succeeds x h (succeeded f c stage) in
    subst P (sym now) (subst Q (length-cycles_of x cycle) (by_length f h stage (is_odd (length h)) refl sane lawful keeps))
