-- The rows of the senders of a log among those of the cycles that it is seen of.
use Rattle.std.proofs.Common.{◌≡◌, ℕ, ◌==◌, ◌<◌, ℤ, pos, negsuc, Bool, IsSome, List, All, map, ap, subst, arith}
use Rattle.std.specs.Prelude.{◌≤ℤ◌, ◌<ℤ◌, nat_abs, not, Contains}
use Rattle.std.proofs.lemmas.Int.{ints}
use Rattle.std.proofs.lemmas.List.Elements.{All-contains, All-map, All-weaker}
use Rattle.fr_base.specs.States.{is_halted}
use Rattle.fr_base.specs.Within.{LieWithin}
use Rattle.fr_base.specs.declared.node_row.NodeRow.{NodeRow}
use Rattle.fr_base.specs.declared.state.State.TheVariants.{Active}
use Rattle.fr_cluster.specs.Values.{Values, amount}
use Rattle.fr_cluster.specs.declared.names.ParamName.TheVariants as name
use Rattle.fr_cluster.proofs.Elements.{found, kept_filtered}
use Rattle.fr_time.specs.Cycles.{is_odd}
use Rattle.fr_time.specs.Instant.{instant_of}
use Rattle.fr_time.specs.Position.{grid_for}
use Rattle.fr_skew.specs.Spreads.{running, spread_at, spread_of}
use Rattle.fr_skew.proofs.Differences.{within_by_spread}
use Rattle.fr_history.specs.Cycles.{Cycle}
use Rattle.fr_history.specs.History.{row_for, row_of}
use Rattle.fr_sightings.specs.declared.sender.Sender.{Sender}
use Rattle.fr_seen.specs.LogSeen.{HasBoth, sender_rows}
use Rattle.fr_seen.specs.Skews.{HasSkew, spread_among}
use Rattle.fr_seen.proofs.Pairs.{spread_of_all}
use Rattle.fr_seen.proofs.SenderLaws.{some_row}
use Rattle.fr_seen.proofs.SendersApart.{all_within, two_within}

pub trans : (a b c : ℤ) → a ≤ℤ b → b ≤ℤ c → a ≤ℤ c
trans a b c h k = omega (arith, ints)

pub natural : (n : ℕ) → pos 0 ≤ℤ pos n
natural n = omega (arith, ints)

-- ---- some of the rows of a cycle

-- what any two of the rows keep, any two of some of them do
pub some_within : (bound : ℤ) (f : NodeRow → ℤ) (rows some : List NodeRow) → LieWithin bound (map f rows) → All (Contains rows) some → LieWithin bound (map f some)
some_within bound f rows some near all =
    all_within bound f some (λ a b here there. two_within bound f rows a b near (All-contains (Contains rows) some a all here) (All-contains (Contains rows) some b all there))

spread_kept : (f : NodeRow → ℤ) (bound : ℤ) (rows some : List NodeRow) → pos 0 ≤ℤ bound → spread_of (map f rows) ≤ℤ bound → All (Contains rows) some → spread_of (map f some) ≤ℤ bound
spread_kept f bound rows some from most all =
    spread_of_all f bound some from
    (λ a b here there.
    two_within bound f rows a b (within_by_spread bound (map f rows) most) (All-contains (Contains rows) some a all here) (All-contains (Contains rows) some b all there))

below : (n : ℕ) (z : ℤ) → pos n <ℤ z → n < nat_abs z
below n (pos m) less = omega (arith, ints, less)
below n (negsuc m) less = absurd (omega (arith, ints, less))

-- so a skew that some of them reach at a macrotick is no greater than that of the cycle
pub skew_by : (p : Values) (cycle : ℕ) (odd : Bool) (rows some : List NodeRow) (bound low : ℤ) → is_odd cycle ≡ odd → pos 0 ≤ℤ bound
    → ((macrotick : ℕ) → macrotick < amount p name.gMacroPerCycle → spread_at (grid_for p) cycle rows macrotick ≤ℤ bound)
    → All (Contains (running rows)) some → HasSkew p odd some low → low ≤ℤ bound
unfolding spread_at
skew_by p cycle odd rows some bound low parity from kept all skew = by skew.macrotick skew.from skew.to skew.reached
  where
    by : (m : ℤ) → pos 0 ≤ℤ m → m <ℤ p.macros → low ≤ℤ spread_among p odd m some → low ≤ℤ bound
    by (pos n) m_from m_to reached =
        let most : spread_of (map (λ (row : NodeRow). instant_of (grid_for p) row (is_odd cycle) (pos n)) (running rows)) ≤ℤ bound = kept n (below n p.macros m_to) in
        let here : spread_of (map (λ (row : NodeRow). instant_of (grid_for p) row odd (pos n)) (running rows)) ≤ℤ bound =
        subst (λ b. spread_of (map (λ (row : NodeRow). instant_of (grid_for p) row b (pos n)) (running rows)) ≤ℤ bound) parity most in
        trans low (spread_among p odd (pos n) some) bound reached (spread_kept (λ (row : NodeRow). instant_of (grid_for p) row odd (pos n)) bound (running rows) some from here all)
    by (negsuc n) m_from m_to reached = absurd (omega (arith, ints, m_from))

-- ---- the rows of senders

pub sender_row : (cycle : Cycle) (node : ℕ) → IsSome (row_of cycle.told.rows node) → Contains cycle.told.rows (row_for cycle.told.rows node)
sender_row cycle node is = (found (λ (row : NodeRow). row.node == node) cycle.told.rows (row_for cycle.told.rows node) (some_row cycle.told.rows node is)).1

runs_there : (rows : List NodeRow) (row : NodeRow) → All (λ (r : NodeRow). r.state ≡ Active) rows → Contains rows row → Contains (running rows) row
runs_there rows row active there =
    kept_filtered (λ (r : NodeRow). not (is_halted r.state)) rows row there (ap (λ s. not (is_halted s)) (All-contains (λ (r : NodeRow). r.state ≡ Active) rows row active there))

pub senders_among : (even odd : Cycle) (senders : List Sender) → All (λ (s : Sender). HasBoth even odd s.node) senders
    → All (Contains even.told.rows) (sender_rows even senders) × All (Contains odd.told.rows) (sender_rows odd senders)
senders_among even odd senders all = (
  All-map (Contains even.told.rows) (λ (s : Sender). row_for even.told.rows s.node) senders
      (All-weaker (λ (s : Sender). HasBoth even odd s.node) (λ (s : Sender). Contains even.told.rows (row_for even.told.rows s.node)) (λ s both. sender_row even s.node both.in_even) senders all),
  All-map (Contains odd.told.rows) (λ (s : Sender). row_for odd.told.rows s.node) senders
      (All-weaker (λ (s : Sender). HasBoth even odd s.node) (λ (s : Sender). Contains odd.told.rows (row_for odd.told.rows s.node)) (λ s both. sender_row odd s.node both.in_odd) senders all),
)

pub run_among : (rows some : List NodeRow) → All (λ (r : NodeRow). r.state ≡ Active) rows → All (Contains rows) some → All (Contains (running rows)) some
run_among rows some active all = All-weaker (Contains rows) (Contains (running rows)) (λ row there. runs_there rows row active there) some all
