-- A run whose clocks begin as far apart as sync takes them, and with lengths as far apart too: it reaches nearly all of the
-- precision.
use Rattle.std.specs.Prelude.{◌==◌, neg_ℤ, pos, [], ◌∷◌, None, false, if◌then◌else◌}
use Rattle.fr_base.specs.Event.Event.{Regular}
use Rattle.fr_cluster.specs.Setting.{Setting}
use Rattle.fr_history.specs.Worked.{on_a}
use Rattle.fr_worked.specs.Clusters.{cluster_of}

-- one double cycle of two nodes with nominal microticks and delays: node 2 begins last, and its cycle is longer
abbrev pub edge_run : Setting
edge_run = record {
  params = cluster_of (on_a 1 ∷ on_a 2 ∷ []);
  doubles = 1;
  start = λ node. if node == 2 then pos 190_032_800 else pos 0;
  rate = λ node. if node == 2 then pos 15 else neg_ℤ (pos 15);
  microtick = λ _ _. pos 1_000_000;
  delay = λ _ _ _ _. pos 0;
  is_arbitrary = λ _. false;
  event = λ _ _ _ _. Regular;
  join = λ _. None;
}
