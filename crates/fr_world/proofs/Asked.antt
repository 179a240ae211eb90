-- What is asked of the stage of a world before a cycle: it holds, since its lists are those of the run.
use Rattle.std.proofs.Common.{◌≡◌, ℕ, zero, suc, Bool, true, false, Option, Some, None, List, [], ◌∷◌, length, refl, ap, sym, ◌∙◌, subst, arith, if◌then◌else◌}
use Rattle.std.specs.Prelude.{All, Contains, IfSome, is_some}
use Rattle.std.specs.List.{cons_option, filter_map}
use Rattle.std.specs.Option.{option_map}
use Rattle.std.proofs.lemmas.List.{length-map}
use Rattle.std.proofs.lemmas.List.Elements.{All-cons, All-nil, All-weaker}
use Rattle.fr_base.specs.declared.node_row.NodeRow.{NodeRow}
use Rattle.fr_base.specs.declared.state.Outcome.{Outcome}
use Rattle.fr_cluster.specs.Questions.{own_key}
use Rattle.fr_cluster.specs.Sane.{IsSane}
use Rattle.fr_cluster.specs.Setting.{Setting, correct_nodes}
use Rattle.fr_cluster.specs.Values.{Values}
use Rattle.fr_cluster.specs.declared.join.Join.{Join}
use Rattle.fr_cluster.specs.declared.nodes.NodeSpec.{NodeSpec}
use Rattle.fr_cluster.proofs.Elements.{Contains-here, Contains-there}
use Rattle.fr_script.specs.Promises.{NodesJoinProperly}
use Rattle.fr_time.specs.Cycles.{is_odd}
use Rattle.fr_node.specs.Listening.{ListenerView}
use Rattle.fr_history.specs.History.{row_of}
use Rattle.fr_history.specs.Cycles.{Cycle, Cycles}
use Rattle.fr_history.specs.Lawful.{IsLawful}
use Rattle.fr_history.specs.Next.{cycles_of}
use Rattle.fr_history.specs.Standing.{following_nodes, follows, has_row, row_nodes}
use Rattle.fr_air.specs.Listeners.{Caughts, catches_after, catches_of, listening_nodes}
use Rattle.fr_air.specs.Nodes.{outcomes_after, pair_in}
use Rattle.fr_air.specs.Views.{listener_of_next, listener_with, listeners_of_next, node_of_next, reference_slot}
use Rattle.fr_air.proofs.NextStanding.{told_follows}
use Rattle.fr_air.specs.Files.{setting_in}
use Rattle.fr_air.specs.Listening.{IsListener}
use Rattle.fr_world.specs.Stage.{StageView}
use Rattle.fr_world.specs.Standing.{followers_kept, listener_kept, listeners_kept}
use Rattle.fr_world.specs.Succeeding.{HasFew, HasFollowed, HasHeardBoth, HasPassed}
use Rattle.fr_air.specs.declared.files.RunInputs.{RunInputs}
use Rattle.fr_air.proofs.Members.{follows_it}
use Rattle.fr_air.proofs.OneCycle.{All-map, few-correct}
use Rattle.fr_world.proofs.Succeeded.{Keeps, Succeeds}

-- ---- followers behind an odd cycle

some_pair : (p : Values) (h : Cycles) (c : Cycle) (told follower : Option NodeRow) (before : Option (Outcome × Outcome)) → is_some follower ≡ true → is_some (pair_in p h c told follower before) ≡ true
some_pair p h c (Some row) follower before is = refl
some_pair p h c None (Some row) before is = refl
some_pair p h c None None before is = absurd (cc)

have_outcomes : (x : Setting) (h : Cycles) (c : Cycle) (node : NodeSpec) → IsLawful x (c ∷ h) → is_odd (length h) ≡ true → Contains (correct_nodes x) node → follows x h node.id ≡ true
    → is_some (outcomes_after x (c ∷ h) node.id) ≡ true
unfolding outcomes_after
have_outcomes x h c node lawful odd there does =
    let before : Option (Outcome × Outcome) = outcomes_after x h node.id in
    let pair : Option (Outcome × Outcome) = pair_in x.params h c (row_of c.told.rows node.id) (row_of c.followers node.id) before in
    ap (λ (b : Bool). is_some (if b then pair else before)) odd
    ∙ some_pair x.params h c (row_of c.told.rows node.id) (row_of c.followers node.id) before (told_follows x h c node lawful.0 there ∙ does)

odd_less : (n : ℕ) → is_odd (suc n) ≡ false → is_odd n ≡ true
odd_less n even = grind arith

all_followed : (x : Setting) (h : Cycles) → IsLawful x h → is_odd (length h) ≡ false → All HasFollowed (followers_kept x h)
all_followed x [] lawful even = All-nil HasFollowed
all_followed x (c ∷ h) lawful even =
    All-map HasFollowed (λ (node : NodeSpec). node_of_next x (c ∷ h) true node.id) (following_nodes x h)
    (λ node is.
    let it = follows_it x h node is in
    record { follows = refl; between = refl; ended = have_outcomes x h c node lawful (odd_less (length h) even) it.0 it.1 })

-- ---- listeners

All-filter_map : {X Y : Type 0} (P : Y → Type 0) (g : X → Option Y) (xs : List X) → ((x : X) → Contains xs x → IfSome (g x) P) → All P (filter_map g xs)
All-filter_map P g [] each = All-nil P
All-filter_map P g (x ∷ xs) each = by (g x) (each x (Contains-here x xs)) (All-filter_map P g xs (λ y there. each y (Contains-there x xs y there)))
  where
    by : (o : Option _) → IfSome o P → All P (filter_map g xs) → All P (cons_option o (filter_map g xs))
    by None here rest = rest
    by (Some y) here rest = All-cons P y (filter_map g xs) here rest

one_listener : (f : RunInputs) → NodesJoinProperly f.params f.script → (node : ℕ) (caught : ℕ → Caughts)
    → IfSome (option_map (λ slot. listener_with node slot (caught slot)) (reference_slot (setting_in f) ((setting_in f).join node))) (IsListener f)
one_listener f proper node caught = by ((setting_in f).join node) refl
  where
    by_slot : (join : Join) → (setting_in f).join node ≡ Some join → (o : Option ℕ) → own_key f.params join.reference ≡ o → IfSome (option_map (λ slot. listener_with node slot (caught slot)) o) (IsListener f)
    by_slot join at None key = tt
    by_slot join at (Some slot) key =
        let joins = proper node join at in
        record {
          known = joins.known;
          correct = joins.correct;
          node = join.reference;
          key = key;
          correct_reference = joins.correct_reference;
          other = joins.other;
          stays = joins.stays;
        }

    by : (join : Option Join) → (setting_in f).join node ≡ join → IfSome (option_map (λ slot. listener_with node slot (caught slot)) (reference_slot (setting_in f) join)) (IsListener f)
    by None at = tt
    by (Some join) at = by_slot join at (own_key f.params join.reference) refl

behind_listen : (f : RunInputs) → NodesJoinProperly f.params f.script → (h : Cycles) → All (IsListener f) (listeners_of_next (setting_in f) h)
behind_listen f proper h =
    let x : Setting = setting_in f in
    All-filter_map (IsListener f) (listener_of_next x h) (listening_nodes x h) (λ node there. one_listener f proper node.id (catches_after x h node.id))

kept_listen : (f : RunInputs) → NodesJoinProperly f.params f.script → (h : Cycles) → All (IsListener f) (listeners_kept (setting_in f) h)
kept_listen f proper [] = All-nil (IsListener f)
kept_listen f proper (c ∷ []) = behind_listen f proper (c ∷ [])
kept_listen f proper (odd ∷ even ∷ h) = by (is_odd (length h))
  where
    x : Setting
    x = setting_in f

    by : (b : Bool) → All (IsListener f) (if b then listeners_of_next x (odd ∷ even ∷ h) else filter_map (listener_kept x h even odd) (listening_nodes x h))
    by true = behind_listen f proper (odd ∷ even ∷ h)
    by false = All-filter_map (IsListener f) (listener_kept x h even odd) (listening_nodes x h) (λ node there. one_listener f proper node.id (catches_of x h even odd node.id))

pub all-listen : (f : RunInputs) → NodesJoinProperly f.params f.script → (cycle : ℕ) (listeners : List ListenerView) → listeners ≡ listeners_kept (setting_in f) (cycles_of (setting_in f) cycle) → All (IsListener f) listeners
all-listen f proper cycle listeners are = subst (All (IsListener f)) (sym are) (kept_listen f proper (cycles_of (setting_in f) cycle))

-- ---- a stage that is passed on

heard_both : (f : RunInputs) (cycle : ℕ) (listeners : List ListenerView) → is_odd cycle ≡ false → (cycle ≡ 0 → listeners ≡ []) → All (IsListener f) listeners → All (HasHeardBoth f cycle) listeners
heard_both f zero listeners even none all =
    let P : List ListenerView → Type 0 = λ ls. All (HasHeardBoth f zero) ls in
    subst P (sym (none refl)) (All-nil (HasHeardBoth f zero))
heard_both f (suc zero) listeners even none all = absurd (cc)
heard_both f (suc (suc n)) listeners even none all =
    All-weaker (IsListener f) (HasHeardBoth f (suc (suc n))) (λ l listens. record { listens = listens; behind = omega arith }) listeners all

none_before : (x : Setting) (cycle : ℕ) → cycle ≡ 0 → listeners_kept x (cycles_of x cycle) ≡ []
unfolding cycles_of
none_before x zero is = refl
none_before x (suc n) is = absurd (omega (arith, is))

pub has-passed : (f : RunInputs) → NodesJoinProperly f.params f.script → (cycle : ℕ) (stage : StageView) → IsLawful (setting_in f) (cycles_of (setting_in f) cycle) → length (cycles_of (setting_in f) cycle) ≡ cycle
    → Keeps (setting_in f) (cycles_of (setting_in f) cycle) stage → is_odd cycle ≡ false → HasPassed f cycle stage
has-passed f proper cycle stage lawful long keeps even =
    let x : Setting = setting_in f in
    record {
      followers = subst (All HasFollowed) (sym keeps.followers) (all_followed x (cycles_of x cycle) lawful (ap is_odd long ∙ even));
      listeners = heard_both f cycle stage.listeners even (λ zero. keeps.listeners ∙ none_before x cycle zero) (all-listen f proper cycle stage.listeners keeps.listeners);
    }

pub has-few : (x : Setting) → IsSane x.params → (h : Cycles) (stage : StageView) → Succeeds x h stage → HasFew stage
has-few x sane h stage is = record {
  nodes = omega (arith, ap length is.nodes, length-map (row_nodes x h) (λ (node : NodeSpec). node_of_next x h false node.id), few-correct x sane (λ (node : NodeSpec). has_row x h node.id));
  followers = omega (arith, ap length is.followers, length-map (following_nodes x h) (λ (node : NodeSpec). node_of_next x h true node.id), few-correct x sane (λ (node : NodeSpec). follows x h node.id));
}
