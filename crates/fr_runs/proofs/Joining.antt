-- Whoever listens in a double cycle in sync in which none follows, or in a later one, joins.
use Rattle.std.proofs.Common.{◌≡◌, ℕ, zero, suc, ◌+◌, ◌-◌, ◌*◌, ◌<◌, ◌≤◌, true, ◌⊎◌, inl, inr, pos, Some, [], ◌∷◌, ◌++◌, length, refl, ap, sym, ◌∙◌, subst, arith}
use Rattle.std.specs.Prelude.{◌≤ℤ◌, Contains, IsSome, is_some}
use Rattle.std.proofs.lemmas.Bool.{or_left}
use Rattle.fr_cluster.specs.Setting.{Setting, correct_nodes}
use Rattle.fr_cluster.specs.declared.nodes.NodeSpec.{NodeSpec}
use Rattle.fr_history.specs.History.{row_for, row_of}
use Rattle.fr_history.specs.Catching.{begins_with}
use Rattle.fr_cluster.specs.declared.join.Join.{Join}
use Rattle.fr_history.specs.Cycles.{Cycle, Cycles}
use Rattle.fr_history.specs.Lawful.{IsLawful}
use Rattle.fr_history.specs.Standing.{follows, follows_by, goes_on, has_row, has_row_by, row_nodes}
use Rattle.fr_history.proofs.Standing.{rows_stay as row_stays}
use Rattle.fr_cluster.proofs.Elements.{filtered, kept_filtered}
use Rattle.fr_runs.proofs.Rows.{each_row}
use Rattle.fr_runs.specs.Gathered.{CycleRuns, IsHeardByAll, followers_since}
use Rattle.fr_runs.specs.Rounds.{IsDoubleOf, IsFedFrom, IsRun, KeepsUp}
use Rattle.fr_runs.proofs.Joined.{followers_join}
use Rattle.fr_runs.proofs.Lawful.{lawful_cycles_run}
use Rattle.fr_runs.proofs.Parts.{each_cycle}
use Rattle.fr_runs.proofs.Reach.{some_joins_by}
use Rattle.fr_runs.proofs.UnfollowedSync.{unfollowed_runs_keep_up}
use Rattle.fr_runs.proofs.Standing.{follower_of, follows_stays, has_stays, is_follower, told_follows, told_has}
use Rattle.fr_runs.proofs.Whole.{double_runs, prior_of}
use Rattle.fr_runs.proofs.Beginning.{covered_listeners_begin}
use Rattle.fr_runs.proofs.Fed.{lawful_cycles_are_fed}
use Rattle.fr_runs.proofs.Starts.{starts_stay_natural}
use Rattle.fr_runs.specs.Whole.{IsUnfollowedRun, ListenersJoin}

-- ---- from there on a run keeps up

pub is_run : (x : Setting) (h : Cycles) (double : ℕ) → IsUnfollowedRun x h double → IsRun x h
is_run x h double s = record { covered = s.covered.clocks; run = lawful_cycles_run x h s.lawful; whole = s.whole }

pub is_fed : (x : Setting) (h : Cycles) (double : ℕ) → IsUnfollowedRun x h double → IsFedFrom x h double
is_fed x h double s = lawful_cycles_are_fed x h double s.covered s.lawful

-- a double cycle from there on
pub record Later (x : Setting) (h : Cycles) (double k : ℕ) (earlier : Cycles) (even odd : Cycle) : Type 0 where
  pub up : KeepsUp x earlier even odd k
  pub fed : IsHeardByAll x earlier even odd k

pub later_at : (x : Setting) (h : Cycles) (double k : ℕ) (earlier : Cycles) (even odd : Cycle) → IsUnfollowedRun x h double → double ≤ k → k < x.doubles → IsDoubleOf h k earlier even odd
    → Later x h double k earlier even odd
later_at x h double k earlier even odd s from within d =
    let up = unfollowed_runs_keep_up x h double (is_run x h double s) s.rates (is_fed x h double s) s.unfollowed k earlier even odd from within d in
    record { up = up; fed = is_fed x h double s k earlier even odd from d up.gathered }

lawful_of : (x : Setting) (later t : Cycles) → IsLawful x (later ++ t) → IsLawful x t
lawful_of x [] t lawful = lawful
lawful_of x (c ∷ later) t lawful = lawful_of x later t lawful.1

-- ---- whoever listens begins to follow

-- the reference's start is not below 0
reference_starts : (x : Setting) (h : Cycles) (double k : ℕ) (earlier : Cycles) (even odd : Cycle) (node : NodeSpec) (join : Join) → IsUnfollowedRun x h double → k < x.doubles
    → IsDoubleOf h k earlier even odd → Contains (correct_nodes x) node → x.join node.id ≡ Some join → pos 0 ≤ℤ (row_for even.told.rows join.reference).start
reference_starts x h double k earlier even odd node join s within d there at =
    let r = s.covered.referenced.references node join there at in
    let runs = double_runs x h k earlier even odd d (lawful_cycles_run x h s.lawful) in
    let counted : length earlier ≡ 2 * k = d.counted in
    let all = (starts_stay_natural x earlier even s.covered.clocks s.rates (s.starts (some_joins_by x node join there at)) runs.1 (omega (arith, counted, within))).0 in
    let has : has_row x earlier r.reference.id ≡ true = ap (has_row_by x earlier r.reference.id) r.stays in
    let among = kept_filtered (λ (n : NodeSpec). has_row x earlier n.id) (correct_nodes x) r.reference r.correct has in
    let Natural : ℕ → Type 0 = λ id. pos 0 ≤ℤ (row_for even.told.rows id).start in
    subst Natural r.named (each_row (row_nodes x earlier) even.told.rows (λ row. pos 0 ≤ℤ row.start) r.reference runs.1.0.rows.nodes among all)

-- what a run gives a node that listens in it, up to one of its double cycles: the node begins to follow behind the double cycle in
-- which it listened, and followers of each double cycle from there on go on
pub record CarriesOn (x : Setting) (h : Cycles) (upto : ℕ) (node : NodeSpec) (join : Join) : Type 0 where
  pub lawful : IsLawful x h
  pub there : Contains (correct_nodes x) node
  pub at : x.join node.id ≡ Some join
  pub begins : (earlier : Cycles) (even odd : Cycle) → join.double < upto → IsDoubleOf h join.double earlier even odd → IsSome (begins_with x (odd ∷ even ∷ earlier) node.id join)
  pub onward :
      (k : ℕ) (earlier : Cycles) (even odd : Cycle) → join.double ≤ k → k < upto → IsDoubleOf h k earlier even odd
      → ((other : NodeSpec) → Contains (followers_since x earlier 2 k) other → Contains (row_nodes x (odd ∷ even ∷ earlier)) other)
      × ((other : NodeSpec) → Contains (followers_since x earlier 1 k) other → Contains (followers_since x (odd ∷ even ∷ earlier) 2 (suc k)) other)

first_follows : (x : Setting) (h : Cycles) (upto : ℕ) (node : NodeSpec) (join : Join) (earlier : Cycles) (even odd : Cycle) → CarriesOn x h upto node join → join.double < upto
    → IsDoubleOf h join.double earlier even odd → Contains (followers_since x (odd ∷ even ∷ earlier) 1 (suc join.double)) node
first_follows x h upto node join earlier even odd l within d =
    let does : follows x (odd ∷ even ∷ earlier) node.id ≡ true =
    ap (follows_by x (odd ∷ even ∷ earlier) node.id) l.at
    ∙ or_left (is_some (begins_with x (odd ∷ even ∷ earlier) node.id join)) (goes_on x (odd ∷ even ∷ earlier) node.id join) (l.begins earlier even odd within d) in
    is_follower x (odd ∷ even ∷ earlier) 1 (suc join.double) node join l.at l.there does (omega arith)

-- ---- from one double cycle to the next

-- how a node stands behind some cycles, by the double cycles since it listened
abbrev Stands : Setting → Cycles → ℕ → NodeSpec → Join → Type 0
Stands x h k node join =
    ((k ≡ suc join.double) × Contains (followers_since x h 1 k) node) ⊎ ((k ≡ suc (suc join.double)) × Contains (followers_since x h 2 k) node)
    ⊎ ((join.double + 3 ≤ k) × (has_row x h node.id ≡ true))

stands_on : (x : Setting) (h : Cycles) (upto k : ℕ) (node : NodeSpec) (join : Join) (earlier : Cycles) (even odd : Cycle) → CarriesOn x h upto node join → k < upto
    → IsDoubleOf h k earlier even odd → Stands x earlier k node join → join.double ≤ k → Stands x (odd ∷ even ∷ earlier) (suc k) node join
stands_on x h upto k node join earlier even odd l within d (inl first) from = inr (inl (ap suc first.0, (l.onward k earlier even odd from within d).1 node first.1))
stands_on x h upto k node join earlier even odd l within d (inr (inl second)) from =
    let among = (l.onward k earlier even odd from within d).0 node second.1 in
    let is : k ≡ suc (suc join.double) = second.0 in
    inr (inr (omega (arith, is), (filtered (λ (n : NodeSpec). has_row x (odd ∷ even ∷ earlier) n.id) (correct_nodes x) node among).1))
stands_on x h upto k node join earlier even odd l within d (inr (inr has)) from =
    let own = lawful_of x d.later (odd ∷ even ∷ earlier) (subst (IsLawful x) d.parted l.lawful) in
    let more : join.double + 3 ≤ k = has.0 in
    inr (inr (omega (arith, more), row_stays x (even ∷ earlier) odd node own.0 l.there (row_stays x earlier even node own.1.0 l.there has.1)))

stands_at : (x : Setting) (h : Cycles) (upto : ℕ) (node : NodeSpec) (join : Join) → CarriesOn x h upto node join
    → (n k : ℕ) (earlier : Cycles) (even odd : Cycle) → k ≡ n + suc join.double → k ≤ upto → IsDoubleOf h k earlier even odd → Stands x earlier k node join
stands_at x h upto node join l n k [] even odd is within d =
    let counted : 0 ≡ 2 * k = d.counted in
    absurd (omega (arith, counted, is))
stands_at x h upto node join l n k (o ∷ []) even odd is within d =
    let counted : 1 ≡ 2 * k = d.counted in
    absurd (omega (arith, counted))
stands_at x h upto node join l zero k (o ∷ e ∷ earlier) even odd is within d =
    let next : k ≡ suc join.double = omega (arith, is) in
    let At : ℕ → Type 0 = λ j. IsDoubleOf h j (o ∷ e ∷ earlier) even odd in
    let Standing : ℕ → Type 0 = λ j. Stands x (o ∷ e ∷ earlier) j node join in
    let prior = prior_of h join.double earlier e o even odd (subst At next d) in
    subst Standing (sym next) (inl (refl, first_follows x h upto node join earlier e o l (omega (arith, next, within)) prior))
stands_at x h upto node join l (suc n) k (o ∷ e ∷ earlier) even odd is within d =
    let m : ℕ = n + suc join.double in
    let next : k ≡ suc m = omega (arith, is) in
    let At : ℕ → Type 0 = λ j. IsDoubleOf h j (o ∷ e ∷ earlier) even odd in
    let Standing : ℕ → Type 0 = λ j. Stands x (o ∷ e ∷ earlier) j node join in
    let prior = prior_of h m earlier e o even odd (subst At next d) in
    let less : m < upto = omega (arith, is, within) in
    subst Standing (sym next) (stands_on x h upto m node join earlier e o l less prior (stands_at x h upto node join l n m earlier e o refl (omega (arith, less)) prior) (omega arith))

-- ---- cycle by cycle

-- what is told of a node in a cycle
abbrev pub Told : NodeSpec → Join → ℕ → Cycle → Type 0
Told node join cycle c =
    (2 * join.double + 2 ≤ cycle → cycle < 2 * join.double + 6 → IsSome (row_of c.followers node.id))
    × (2 * join.double + 6 ≤ cycle → IsSome (row_of c.told.rows node.id))

since_follows : (x : Setting) (h : Cycles) (ago k : ℕ) (node : NodeSpec) → Contains (followers_since x h ago k) node → follows x h node.id ≡ true
since_follows x h ago k node among =
    let f = follower_of x h ago k node among in
    ap (follows_by x h node.id) f.joins ∙ f.does

told_by : (x : Setting) (earlier : Cycles) (even odd : Cycle) (k : ℕ) (node : NodeSpec) (join : Join) → length earlier ≡ 2 * k → CycleRuns x earlier even → CycleRuns x (even ∷ earlier) odd
    → Contains (correct_nodes x) node → Stands x earlier k node join → Told node join (2 * k) even × Told node join (suc (2 * k)) odd
told_by x earlier even odd k node join counted early late there (inl first) =
    let is : k ≡ suc join.double = first.0 in
    let does = since_follows x earlier 1 k node first.1 in
    let one : IsSome (row_of even.followers node.id) = told_follows x earlier even node early there ∙ does in
    let other : IsSome (row_of odd.followers node.id) = told_follows x (even ∷ earlier) odd node late there ∙ follows_stays x earlier even k node counted early there ∙ does in
    ((λ from to. one, λ from. absurd (omega (arith, from, is))), (λ from to. other, λ from. absurd (omega (arith, from, is))))
told_by x earlier even odd k node join counted early late there (inr (inl second)) =
    let is : k ≡ suc (suc join.double) = second.0 in
    let does = since_follows x earlier 2 k node second.1 in
    let one : IsSome (row_of even.followers node.id) = told_follows x earlier even node early there ∙ does in
    let other : IsSome (row_of odd.followers node.id) = told_follows x (even ∷ earlier) odd node late there ∙ follows_stays x earlier even k node counted early there ∙ does in
    ((λ from to. one, λ from. absurd (omega (arith, from, is))), (λ from to. other, λ from. absurd (omega (arith, from, is))))
told_by x earlier even odd k node join counted early late there (inr (inr has)) =
    let is : join.double + 3 ≤ k = has.0 in
    let one : IsSome (row_of even.told.rows node.id) = told_has x earlier even node early there ∙ has.1 in
    let other : IsSome (row_of odd.told.rows node.id) = told_has x (even ∷ earlier) odd node late there ∙ has_stays x earlier even k node counted early there ∙ has.1 in
    ((λ from to. absurd (omega (arith, to, is)), λ from. one), (λ from to. absurd (omega (arith, to, is)), λ from. other))

-- so it follows in the next four cycles, and has a row in those behind them
pub told_in : (x : Setting) (h : Cycles) (upto : ℕ) (node : NodeSpec) (join : Join) → CarriesOn x h upto node join → (k : ℕ) (earlier : Cycles) (even odd : Cycle)
    → IsDoubleOf h k earlier even odd → suc join.double ≤ k → k ≤ upto → Told node join (2 * k) even × Told node join (suc (2 * k)) odd
told_in x h upto node join l k earlier even odd d from within =
    let runs = double_runs x h k earlier even odd d (lawful_cycles_run x h l.lawful) in
    let is : k ≡ (k - suc join.double) + suc join.double = omega (arith, from) in
    told_by x earlier even odd k node join d.counted runs.1.0 runs.0 l.there (stands_at x h upto node join l (k - suc join.double) k earlier even odd is within d)

pub listeners_join : ListenersJoin
listeners_join x h double node join unfollowed there at from cycle c is =
    let l : CarriesOn x h x.doubles node join = record {
      lawful = unfollowed.lawful;
      there = there;
      at = at;
      begins = λ earlier even odd within d.
          let later = later_at x h double join.double earlier even odd unfollowed from within d in
          covered_listeners_begin x earlier even odd join.double node join unfollowed.covered later.up.gathered there at refl
          (reference_starts x h double join.double earlier even odd node join unfollowed within d there at);
      onward = λ k earlier even odd listened within d.
          let later = later_at x h double k earlier even odd unfollowed (omega (arith, from, listened)) within d in
          followers_join x earlier even odd k later.up.gathered later.fed;
    } in
    let near : (k : ℕ) (earlier : Cycles) (even odd : Cycle) → IsDoubleOf h k earlier even odd → suc join.double ≤ k → k < x.doubles → Told node join (2 * k) even × Told node join (suc (2 * k)) odd =
    λ k earlier even odd d low high. told_in x h x.doubles node join l k earlier even odd d low (omega (arith, high)) in
    let told = λ (later : 2 * suc join.double ≤ cycle). each_cycle h (suc join.double) x.doubles (Told node join) unfollowed.whole near cycle c later is in
    (λ low high. (told (omega (arith, low))).0 low high, λ low. (told (omega (arith, low))).1 low)
