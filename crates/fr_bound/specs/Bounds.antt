-- The bounds that the theory computes from the parameters of a cluster, in ticks.
use Rattle.std.specs.Prelude.{ℕ, ◌+◌, ◌-◌, ◌*◌, nat_abs}
use Rattle.fr_cluster.specs.Values.{Values, amount}
use Rattle.fr_cluster.specs.Questions.{widest_compensation_of}
use Rattle.fr_cluster.specs.declared.names.ParamName.TheVariants as name

-- the ticks of a nominal microtick
abbrev pub nominal : ℕ
nominal = 1_000_000

-- the longest and the shortest microtick
abbrev pub longest_micro : Values → ℕ
longest_micro p = nominal + amount p name.xRateBound

abbrev pub shortest_micro : Values → ℕ
shortest_micro p = nominal - amount p name.xRateBound

-- the delay compensation in microticks, the wider of both channels
abbrev pub widest : Values → ℕ
widest p = nat_abs (widest_compensation_of p)

-- the error of an arrival: that of its delay, and that of the compensation in microticks of another length
abbrev pub arrival_error : Values → ℕ
arrival_error p = amount p name.xDelayError + widest p * amount p name.xRateBound

-- by how much a cycle changes from one to the next, since the microtick changes
abbrev pub cycle_change : Values → ℕ
cycle_change p = (amount p name.pMicroPerCycle + amount p name.pRateCorrectionOut) * amount p name.xChangeBound

-- how far a rate value may place the length of a sender's cycle from the true one
abbrev pub y1_of : Values → ℕ
y1_of p = 2 * arrival_error p + 2 * longest_micro p + 3 * cycle_change p

-- how far the lengths of two cycles may lie apart
abbrev pub lambda_of : Values → ℕ
lambda_of p = 4 * y1_of p + 2 * longest_micro p + 4 * (amount p name.pClusterDriftDamping * longest_micro p) + 8 * cycle_change p

-- how far two starts of an even cycle may lie apart
abbrev pub pi_of : Values → ℕ
pi_of p = 6 * lambda_of p + 4 * arrival_error p + 8 * longest_micro p

-- the precision: how far two corresponding macroticks may lie apart
abbrev pub precision_of : Values → ℕ
precision_of p = pi_of p + 2 * lambda_of p + 2 * longest_micro p

-- ---- nodes that join

-- the error of a follower: how far the lengths of a node that begins to follow may lie from its reference's odd one
abbrev pub follower_error : Values → ℕ
follower_error p = y1_of p + 4 * cycle_change p

-- the reach: how far instants of a node that follows may lie from those of the others
abbrev pub reach_of : Values → ℕ
reach_of p = pi_of p + 8 * lambda_of p + 4 * follower_error p + 4 * arrival_error p + 8 * longest_micro p
