-- Which cycles are lawful: each record obeys the laws, given the records before it.
use Rattle.std.specs.Prelude.{◌≡◌, List, [], ◌∷◌, length, map, All}
use Rattle.fr_history.specs.Rows.{AreCounts, CutsRun, RowsRun, offset_after, uncorrected}
use Rattle.fr_history.specs.Offers.{AreReceptions, AreReceptionsBetween, Reception, devs_among}
use Rattle.fr_cluster.specs.Setting.{Setting}
use Rattle.fr_history.specs.Cycles.{Cycle, Cycles, told_of}
use Rattle.fr_history.specs.Laws.{follower_cut, follower_laws, follower_offset, row_laws}
use Rattle.fr_history.specs.Standing.{following_nodes, row_nodes}

-- what is told obeys the laws: each node that has a row sends and receives
pub record ToldObeys (x : Setting) (h : Cycles) (c : Cycle) : Type 0 where
  pub clocks : RowsRun (row_laws x h) (offset_after x.params (told_of h) c.told) (row_nodes x h) c.told.rows
  pub cuts : CutsRun x (told_of h) c.told
  pub receptions : List Reception
  pub received : AreReceptions x (length h) (map uncorrected c.told.rows) receptions
  pub devs : c.told.devs ≡ devs_among receptions
  pub counts : AreCounts x (length h) (map uncorrected c.told.rows) receptions c.told.counts

-- and so do the followers, which receive what the nodes with rows send; their answers are counted nowhere
pub record FollowersObey (x : Setting) (h : Cycles) (c : Cycle) : Type 0 where
  pub clocks : RowsRun (follower_laws x h) (follower_offset x.params h c.follower_devs) (following_nodes x h) c.followers
  pub cuts : All (λ row. row.cut ≡ follower_cut x.params h c.follower_devs row) c.followers
  pub receptions : List Reception
  pub received : AreReceptionsBetween x (length h) (map uncorrected c.told.rows) (map uncorrected c.followers) receptions
  pub devs : c.follower_devs ≡ devs_among receptions

-- a record obeys the laws after the records before it
pub record Obeys (x : Setting) (h : Cycles) (c : Cycle) : Type 0 where
  pub told : ToldObeys x h c
  pub followers : FollowersObey x h c

-- cycles are lawful where each of their records obeys the laws
abbrev pub IsLawful : Setting → Cycles → Type 0
IsLawful x [] = Unit {0}
IsLawful x (c ∷ h) = Obeys x h c × IsLawful x h
