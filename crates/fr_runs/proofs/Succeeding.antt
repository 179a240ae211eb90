-- Who has a row, and who follows, from one double cycle to the next.
use Rattle.std.proofs.Common.{◌≡◌, ◌⊎◌, ℕ, suc, ◌+◌, ◌*◌, ◌==◌, Bool, true, false, ◌&&◌, Option, Some, None, ◌∷◌, length, refl, ap, sym, ◌∙◌, inl, inr, arith}
use Rattle.std.specs.Prelude.{Contains, is_some}
use Rattle.std.proofs.lemmas.Bool.{and_parts}
use Rattle.fr_cluster.specs.Setting.{Setting, correct_nodes}
use Rattle.fr_cluster.specs.declared.nodes.NodeSpec.{NodeSpec}
use Rattle.fr_history.specs.History.{row_of}
use Rattle.fr_history.specs.Catching.{begins_with}
use Rattle.fr_cluster.specs.declared.join.Join.{Join}
use Rattle.fr_history.specs.Cycles.{Cycle, Cycles}
use Rattle.fr_history.specs.Standing.{followed_well, following_nodes, follows, follows_by, has_row, has_row_by, row_nodes}
use Rattle.fr_history.proofs.Standing.{either, same}
use Rattle.fr_cluster.proofs.Elements.{filtered, kept_filtered}
use Rattle.fr_runs.specs.Gathered.{CycleRuns, followers_since}
use Rattle.fr_runs.specs.Succession.{Begins, GatheredNodesSucceed, IsSucceeded}
use Rattle.fr_runs.proofs.Standing.{apart_at, filter_same, follower_of, follows_stays, goes_from, had_none, has_stays, how_follows, is_follower, is_none, is_there, not_so, told_follows, told_has, well_follows}

-- a double cycle whose clocks run by their laws, and the even cycle behind it
record Standing (x : Setting) (h : Cycles) (even odd even2 : Cycle) (double : ℕ) : Type 0 where
  counted : length h ≡ 2 * double
  early : CycleRuns x h even
  late : CycleRuns x (even ∷ h) odd
  after : CycleRuns x (odd ∷ even ∷ h) even2

rows_from : (x : Setting) (h : Cycles) (even odd even2 : Cycle) (double : ℕ) → Standing x h even odd even2 double
    → (node : NodeSpec) → Contains (row_nodes x (odd ∷ even ∷ h)) node → Contains (row_nodes x h) node ⊎ Contains (followers_since x h 2 double) node
rows_from x h even odd even2 double s node among =
    let parts = filtered (λ (n : NodeSpec). has_row x (odd ∷ even ∷ h) n.id) (correct_nodes x) node among in
    by_join parts.0 parts.1 (x.join node.id) refl
  where
    by_join : Contains (correct_nodes x) node → has_row x (odd ∷ even ∷ h) node.id ≡ true → (join : Option Join) → x.join node.id ≡ join
        → Contains (row_nodes x h) node ⊎ Contains (followers_since x h 2 double) node
    by_join there has None at = inl (kept_filtered (λ (n : NodeSpec). has_row x h n.id) (correct_nodes x) node there (ap (has_row_by x h node.id) at))
    by_join there has (Some join) at =
        let now : Bool = suc (suc (length h)) == 2 * join.double + 6 in
        let well : Bool = followed_well x.params odd (even ∷ h) (row_of odd.followers node.id) in
        elim (either (is_some (row_of odd.told.rows node.id)) (now && well) (sym (ap (has_row_by x (odd ∷ even ∷ h) node.id) at) ∙ has)) [
          | inl had ↦
              let own : has_row x h node.id ≡ true = sym (has_stays x h even double node s.counted s.early there) ∙ sym (told_has x (even ∷ h) odd node s.late there) ∙ had in
              inl (kept_filtered (λ (n : NodeSpec). has_row x h n.id) (correct_nodes x) node there own)
          | inr second ↦
              let both = and_parts now well second in
              let here : suc (suc (length h)) ≡ 2 * join.double + 6 = same (suc (suc (length h))) (2 * join.double + 6) both.0 in
              let counted : length h ≡ 2 * double = s.counted in
              let followed = well_follows x.params odd (even ∷ h) (row_of odd.followers node.id) both.1 in
              let own : follows x h node.id ≡ true =
              sym (follows_stays x h even double node s.counted s.early there) ∙ sym (told_follows x (even ∷ h) odd node s.late there) ∙ followed in
              inr (is_follower x h 2 double node join at there own (omega (arith, here, counted)))
        ]

seconds_from : (x : Setting) (h : Cycles) (even odd even2 : Cycle) (double : ℕ) → Standing x h even odd even2 double
    → (node : NodeSpec) → Contains (followers_since x (odd ∷ even ∷ h) 2 (suc double)) node → Contains (followers_since x h 1 double) node
seconds_from x h even odd even2 double s node among =
    let f = follower_of x (odd ∷ even ∷ h) 2 (suc double) node among in
    let since : f.join.double + 2 ≡ suc double = f.since in
    let counted : length h ≡ 2 * double = s.counted in
    elim (how_follows x (odd ∷ even ∷ h) node.id f.join (suc double) (omega (arith, counted)) f.does) [
      | inl begins ↦ let at : suc double ≡ f.join.double + 1 = begins.1 in absurd (omega (arith, at, since))
      | inr goes ↦
          let there = f.correct in
          let followed = goes_from x odd (even ∷ h) node.id f.join goes.0 in
          let own : follows x h node.id ≡ true =
          sym (follows_stays x h even double node s.counted s.early there) ∙ sym (told_follows x (even ∷ h) odd node s.late there) ∙ followed in
          is_follower x h 1 double node f.join f.joins there own (omega (arith, since))
    ]

firsts_from : (x : Setting) (h : Cycles) (even odd even2 : Cycle) (double : ℕ) → Standing x h even odd even2 double
    → (node : NodeSpec) → Contains (followers_since x (odd ∷ even ∷ h) 1 (suc double)) node → Begins x h even odd node
firsts_from x h even odd even2 double s node among =
    let f = follower_of x (odd ∷ even ∷ h) 1 (suc double) node among in
    let since : f.join.double + 1 ≡ suc double = f.since in
    let counted : length h ≡ 2 * double = s.counted in
    elim (how_follows x (odd ∷ even ∷ h) node.id f.join (suc double) (omega (arith, counted)) f.does) [
      | inl begins ↦
          let begun = is_there (begins_with x (odd ∷ even ∷ h) node.id f.join) begins.0 in
          let there = f.correct in
          let does : follows x (odd ∷ even ∷ h) node.id ≡ true = ap (follows_by x (odd ∷ even ∷ h) node.id) f.joins ∙ f.does in
          let none = apart_at x (odd ∷ even ∷ h) even2 node s.after there does in
          let rowless : is_some (row_of odd.told.rows node.id) ≡ false = had_none x (even ∷ h) odd node.id f.join f.joins none in
          let never : follows x h node.id ≡ true → ⊥ = λ is.
          elim (how_follows x h node.id f.join double s.counted (sym (ap (follows_by x h node.id) f.joins) ∙ is)) [
            | inl early ↦ let at : double ≡ f.join.double + 1 = early.1 in omega (arith, at, since)
            | inr second ↦ let at : double ≡ f.join.double + 2 = second.1 in omega (arith, at, since)
          ] in
          let idle : is_some (row_of odd.followers node.id) ≡ false =
          told_follows x (even ∷ h) odd node s.late there ∙ follows_stays x h even double node s.counted s.early there ∙ not_so (follows x h node.id) never in
          record {
            join = f.join;
            caught = begun.0;
            joins = f.joins;
            begins = begun.1;
            no_row = is_none (row_of odd.told.rows node.id) rowless;
            no_follower = is_none (row_of odd.followers node.id) idle;
          }
      | inr goes ↦ let at : suc double ≡ f.join.double + 2 = goes.1 in absurd (omega (arith, at, since))
    ]

followers_from : (x : Setting) (h : Cycles) (even odd even2 : Cycle) (double : ℕ) → Standing x h even odd even2 double
    → (node : NodeSpec) → Contains (following_nodes x (odd ∷ even ∷ h)) node
    → Contains (followers_since x (odd ∷ even ∷ h) 2 (suc double)) node ⊎ Contains (followers_since x (odd ∷ even ∷ h) 1 (suc double)) node
followers_from x h even odd even2 double s node among =
    let parts = filtered (λ (n : NodeSpec). follows x (odd ∷ even ∷ h) n.id) (correct_nodes x) node among in
    by_join parts.0 parts.1 (x.join node.id) refl
  where
    by_join : Contains (correct_nodes x) node → follows x (odd ∷ even ∷ h) node.id ≡ true → (join : Option Join) → x.join node.id ≡ join
        → Contains (followers_since x (odd ∷ even ∷ h) 2 (suc double)) node ⊎ Contains (followers_since x (odd ∷ even ∷ h) 1 (suc double)) node
    by_join there does None at =
        let e : false ≡ true = sym (ap (follows_by x (odd ∷ even ∷ h) node.id) at) ∙ does in
        absurd (cc)
    by_join there does (Some join) at =
        let counted : length h ≡ 2 * double = s.counted in
        elim (how_follows x (odd ∷ even ∷ h) node.id join (suc double) (omega (arith, counted)) (sym (ap (follows_by x (odd ∷ even ∷ h) node.id) at) ∙ does)) [
          | inl begins ↦ inr (is_follower x (odd ∷ even ∷ h) 1 (suc double) node join at there does (sym begins.1))
          | inr goes ↦ inl (is_follower x (odd ∷ even ∷ h) 2 (suc double) node join at there does (sym goes.1))
        ]

fresh_from : (x : Setting) (h : Cycles) (even odd even2 : Cycle) (double : ℕ) → Standing x h even odd even2 double
    → (node : NodeSpec) → Contains (correct_nodes x) node → has_row x (odd ∷ even ∷ h) node.id ≡ false
    → (has_row x h node.id ≡ false) × (row_of odd.told.rows node.id ≡ None)
fresh_from x h even odd even2 double s node there fresh = by_join (x.join node.id) refl
  where
    by_join : (join : Option Join) → x.join node.id ≡ join → (has_row x h node.id ≡ false) × (row_of odd.told.rows node.id ≡ None)
    by_join None at =
        let e : true ≡ false = sym (ap (has_row_by x (odd ∷ even ∷ h) node.id) at) ∙ fresh in
        absurd (cc)
    by_join (Some join) at =
        let none = had_none x (even ∷ h) odd node.id join at fresh in
        (sym (has_stays x h even double node s.counted s.early there) ∙ sym (told_has x (even ∷ h) odd node s.late there) ∙ none, is_none (row_of odd.told.rows node.id) none)

-- ---- within a double cycle all stays

pub rows_stay : (x : Setting) (h : Cycles) (c : Cycle) (double : ℕ) → length h ≡ 2 * double → CycleRuns x h c → row_nodes x (c ∷ h) ≡ row_nodes x h
rows_stay x h c double counted runs =
    filter_same (λ (n : NodeSpec). has_row x (c ∷ h) n.id) (λ (n : NodeSpec). has_row x h n.id) (correct_nodes x) (λ node there. has_stays x h c double node counted runs there)

pub followers_stay : (x : Setting) (h : Cycles) (c : Cycle) (double : ℕ) → length h ≡ 2 * double → CycleRuns x h c → following_nodes x (c ∷ h) ≡ following_nodes x h
followers_stay x h c double counted runs =
    filter_same (λ (n : NodeSpec). follows x (c ∷ h) n.id) (λ (n : NodeSpec). follows x h n.id) (correct_nodes x) (λ node there. follows_stays x h c double node counted runs there)

pub nodes_succeed : (x : Setting) (h : Cycles) (even odd even2 : Cycle) (double : ℕ) → length h ≡ 2 * double → CycleRuns x h even → CycleRuns x (even ∷ h) odd → CycleRuns x (odd ∷ even ∷ h) even2
    → IsSucceeded x h even odd double
nodes_succeed x h even odd even2 double counted early late after =
    let s : Standing x h even odd even2 double = record { counted = counted; early = early; late = late; after = after } in
    record {
      rows_stay = rows_stay x h even double counted early;
      followers_stay = followers_stay x h even double counted early;
      rows_from = rows_from x h even odd even2 double s;
      seconds_from = seconds_from x h even odd even2 double s;
      firsts_from = firsts_from x h even odd even2 double s;
      followers_from = followers_from x h even odd even2 double s;
      fresh_from = fresh_from x h even odd even2 double s;
    }

pub gathered_nodes_succeed : GatheredNodesSucceed
gathered_nodes_succeed x h even odd even2 double g after = nodes_succeed x h even odd even2 double g.counted g.even_runs g.odd_runs after
