-- A round with nodes that follow is kept: its receivers are a group.
use Rattle.std.proofs.Common.{◌≡◌, ℕ, false, ℤ, pos, List, map, sym, subst, inl, inr}
use Rattle.std.specs.Prelude.{◌≤ℤ◌, Contains}
use Rattle.fr_base.specs.Within.{IsWithin}
use Rattle.fr_base.specs.declared.node_row.NodeRow.{NodeRow}
use Rattle.fr_cluster.specs.Values.{Values}
use Rattle.fr_time.specs.Slots.{action_point_of}
use Rattle.fr_bound.specs.Bounds.{lambda_of, pi_of, reach_of}
use Rattle.fr_bound.specs.Sync.{IsInSync}
use Rattle.fr_precision.specs.Rows.{KeepOne}
use Rattle.fr_precision.specs.Instants.{gap_of, LieNear, Runs}
use Rattle.fr_precision.specs.Step.{ComputesTerms, Member}
use Rattle.fr_precision.proofs.StepLaws.{nodes_near, sync_is_spread}
use Rattle.fr_history.proofs.Lists.{map-map}
use Rattle.fr_runs.specs.Following.{IsInReach, first_apart, first_lengths, second_apart}
use Rattle.fr_runs.specs.Group.{IsFollower, IsNearRows, IsOf}
use Rattle.fr_runs.proofs.Grouped.{groups_are_kept_lem}
use Rattle.fr_precision.specs.Round.{Hearer, IsHearer, Round, senders_of}
use Rattle.fr_precision.proofs.Values.{acts_before, hearers_keep_one}
use Rattle.fr_runs.proofs.Receivers.{no_less}
use Rattle.fr_precision.proofs.RoundLemmas.{contains_map, map_contains}
use Rattle.fr_runs.proofs.Drawing.{all_among, computes_terms, runs_of, sending}
use Rattle.fr_runs.specs.Hearers.{FollowsIn, Hearers, IsOneOf, IsRoundSynced, LiesNear, RoundsAreKept, group_of, member_from}
use Rattle.fr_runs.proofs.Reach.{first_reached, second_reached, synced_reached}

-- ---- how near the receivers lie to the nodes with rows

members_in_sync : (r : Round) (g : Hearers) (reach : ℤ) → IsRoundSynced r g reach
    → IsInSync r.params (map (λ (node : Member). node.even) (map (member_from r.params) g.rows)) (map (λ (node : Member). node.odd) (map (member_from r.params) g.rows))
members_in_sync r g reach s =
    let p = r.params in
    let evens = map-map (λ (node : Member). node.even) (member_from p) g.rows in
    let odds = map-map (λ (node : Member). node.odd) (member_from p) g.rows in
    let Even : List NodeRow → Type 0 = λ rows. IsInSync p rows (map (λ (n : Hearer). n.odd) g.rows) in
    let Odd : List NodeRow → Type 0 = λ rows. IsInSync p (map (λ (node : Member). node.even) (map (member_from p) g.rows)) rows in
    subst Odd (sym odds) (subst Even (sym evens) s.in_sync)

-- two nodes with rows are in sync
row_near : (r : Round) (g : Hearers) (reach : ℤ) (n row : Hearer) → IsRoundSynced r g reach → Contains g.rows n → Contains g.rows row
    → LieNear r.params (pos (pi_of r.params)) (pos (lambda_of r.params)) (pos (lambda_of r.params)) row.even row.odd n.even n.odd
row_near r g reach n row s here there =
    let p = r.params in
    let nodes = map (member_from p) g.rows in
    let at = member_from p in
    let spread = sync_is_spread p (map (λ (node : Member). node.even) nodes) (map (λ (node : Member). node.odd) nodes) (members_in_sync r g reach s) in
    nodes_near p (pos (pi_of p)) (pos (lambda_of p)) nodes (at row) (at n) spread (contains_map at g.rows row there) (contains_map at g.rows n here)

runs_at : (r : Round) (g : Hearers) (reach : ℤ) (n : Hearer) → IsRoundSynced r g reach → IsOneOf g n → Runs r.params n.even n.odd
runs_at r g reach n s is = runs_of r.params n.even n.odd s.round.sane (s.supplied n is).regular

reached : (r : Round) (g : Hearers) (reach : ℤ) (n row : Hearer) → IsRoundSynced r g reach → IsOneOf g n → Contains g.rows row
    → IsInReach r.params reach row.even row.odd n.even n.odd
reached r g reach n row s (inl (inl here)) there =
    synced_reached r.params reach row.even row.odd n.even n.odd s.round.sane (runs_at r g reach row s (inl (inl there))) (runs_at r g reach n s (inl (inl here))) s.fits
    (row_near r g reach n row s here there)
reached r g reach n row s (inl (inr here)) there =
    second_reached r.params reach row.even row.odd n.even n.odd s.round.sane (runs_at r g reach row s (inl (inl there))) (runs_at r g reach n s (inl (inr here))) (s.fits_followers n (inl here))
    (s.seconds_near n here row there)
reached r g reach n row s (inr here) there =
    first_reached r.params reach row.even row.odd n.even n.odd s.round.sane (runs_at r g reach row s (inl (inl there))) (runs_at r g reach n s (inr here)) (s.fits_followers n (inr here))
    (s.firsts_near n here row there)

-- ---- each receiver hears the round

pub hearer_is : (r : Round) (g : Hearers) (reach : ℤ) (n : Hearer) → IsRoundSynced r g reach → IsOneOf g n → IsHearer r reach n
hearer_is r g reach n s is =
    let p = r.params in
    let supplied = s.supplied n is in
    record {
      regular = supplied.regular;
      suffices = s.limit;
      near =
          λ index slot node other.
          let row = s.among node slot other.sender in
          let action = pos (action_point_of p slot) in
          let Near : NodeRow → Type 0 = λ even. IsWithin reach (gap_of p false action even n.even) in
          subst Near row.2 (reached r g reach n row.0 s is row.1 action false (no_less (action_point_of p slot)) (acts_before r slot node s.round.sane other.sender));
      supply = supplied.hears;
    }

computes : (r : Round) (g : Hearers) (reach : ℤ) (n : Hearer) → IsRoundSynced r g reach → IsOneOf g n → ComputesTerms r.params (senders_of r) (member_from r.params n)
computes r g reach n s is = computes_terms r reach n s.round (s.supplied n is) (hearer_is r g reach n s is)

-- ---- the members of the group

-- a member of the group is that of a receiver
record IsMemberFrom (p : Values) (g : Hearers) (node : Member) : Type 0 where
  n : Hearer
  one : IsOneOf g n
  is : member_from p n ≡ node

member_is : (p : Values) (g : Hearers) (node : Member) → IsOf (group_of p g) node → IsMemberFrom p g node
member_is p g node (inl (inl here)) = let found = map_contains (member_from p) g.rows node here in record { n = found.0; one = inl (inl found.1); is = found.2 }
member_is p g node (inl (inr here)) = let found = map_contains (member_from p) g.seconds node here in record { n = found.0; one = inl (inr found.1); is = found.2 }
member_is p g node (inr here) = let found = map_contains (member_from p) g.firsts node here in record { n = found.0; one = inr found.1; is = found.2 }

keep : (r : Round) (g : Hearers) (reach : ℤ) (one other : Member) → IsRoundSynced r g reach → IsOf (group_of r.params g) one → IsOf (group_of r.params g) other
    → KeepOne one.offsets other.offsets (senders_of r) × KeepOne one.rates other.rates (senders_of r)
keep r g reach one other s here there =
    let p = r.params in
    let senders = senders_of r in
    let first = member_is p g one here in
    let second = member_is p g other there in
    let kept = hearers_keep_one r reach reach first.n second.n s.round (hearer_is r g reach first.n s first.one) (hearer_is r g reach second.n s second.one) in
    let Keep : Member → Member → Type 0 = λ a b. KeepOne a.offsets b.offsets senders × KeepOne a.rates b.rates senders in
    let First : Member → Type 0 = λ a. Keep a other in
    subst First first.is (subst (Keep (member_from p first.n)) second.is kept)

-- who lies near the nodes with rows as a receiver does so as a member
near_rows : (p : Values) (rows some : List Hearer) (starts lengths : ℕ) (node : Member) → ((n : Hearer) → Contains some n → LiesNear p starts lengths rows n)
    → Contains (map (member_from p) some) node → IsNearRows p starts lengths (map (member_from p) rows) node
near_rows p rows some starts lengths node near here row there =
    let at = member_from p in
    let n = map_contains at some node here in
    let m = map_contains at rows row there in
    let Near : Member → Member → Type 0 = λ a b. LieNear p (pos starts) (pos lengths) (pos lengths) a.even a.odd b.even b.odd in
    let First : Member → Type 0 = λ a. Near a node in
    subst First m.2 (subst (Near (at m.0)) n.2 (near n.0 n.1 m.0 m.1))

-- a member that follows is that of a receiver that does
follower_fits : (p : Values) (g : Hearers) (reach : ℤ) (node : Member) → IsFollower (group_of p g) node
    → ((n : Hearer) → FollowsIn g n → pos (reach_of p) ≤ℤ reach) → pos (reach_of p) ≤ℤ reach
follower_fits p g reach node (inl here) fits = let n = map_contains (member_from p) g.seconds node here in fits n.0 (inl n.1)
follower_fits p g reach node (inr here) fits = let n = map_contains (member_from p) g.firsts node here in fits n.0 (inr n.1)

pub rounds_are_kept_lem : RoundsAreKept
rounds_are_kept_lem r g reach s =
    let p = r.params in
    let Computes : Member → Type 0 = ComputesTerms p (senders_of r) in
    groups_are_kept_lem p (senders_of r) (group_of p g) reach
    (record {
      sane = s.round.sane;
      first = s.first;
      second = s.second;
      limit = s.limit;
      fits = s.fits;
      fits_followers = λ node follows. follower_fits p g reach node follows s.fits_followers;
      sending = sending r s.round;
      among = all_among r g.rows s.among;
      in_sync = members_in_sync r g reach s;
      computes = λ node is. let from = member_is p g node is in subst Computes from.is (computes r g reach from.n s from.one);
      keep = λ one other here there. keep r g reach one other s here there;
      seconds_near = λ node here. near_rows p g.rows g.seconds (second_apart p) (lambda_of p) node s.seconds_near here;
      firsts_near = λ node here. near_rows p g.rows g.firsts (first_apart p) (first_lengths p) node s.firsts_near here;
    })
