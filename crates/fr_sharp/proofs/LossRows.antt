-- What losses cost in a worked cluster, computed.
use Rattle.std.proofs.Common.{◌≡◌, false, [], ◌∷◌, refl}
use Rattle.fr_cluster.specs.Values.{Values}
use Rattle.fr_precision.proofs.Worked.{node}
use Rattle.fr_precision.specs.Among.{every_second, lost_spread}
use Rattle.fr_sharp.specs.LossCosts.{apart_in_a_row}
use Rattle.fr_bound.specs.SharpBounds.{sharp_precision}
use Rattle.fr_promise.proofs.SharpRows.{set_of}

-- oscillators of 100 ppm, damping 2
abbrev cluster : Values
cluster = set_of (node 1 ∷ node 2 ∷ node 3 ∷ node 8 ∷ []) 2 7 100 0 5_000_000

precision_is : sharp_precision false cluster 0 ≡ 36_003_994
precision_is = refl

-- frames are lost in one double cycle, and macroticks lie furthest apart in the next one
one_lost : (apart_in_a_row cluster 0 1 0 ≡ 48_005_594) × (apart_in_a_row cluster 0 1 1 ≡ 75_008_286) × (apart_in_a_row cluster 0 1 2 ≡ 42_004_592) × (apart_in_a_row cluster 0 1 3 ≡ 36_003_994)
unfolding lost_spread
one_lost = (refl, refl, refl, refl)

every_second_is : every_second cluster 0 ≡ 81_008_884
every_second_is = refl
