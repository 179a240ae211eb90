-- The way to sync of a worked cluster, computed.
use Rattle.std.proofs.Common.{◌≡◌, true, false, refl}
use Rattle.fr_bound.specs.declared.settling.Spread.{Spread}
use Rattle.fr_bound.specs.Bounds.{lambda_of, pi_of}
use Rattle.fr_bound.specs.Checks.{left_of}
use Rattle.fr_bound.specs.Settling.{apart_in, settle_holds_of, settle_right_of, spread_after}
use Rattle.fr_bound.proofs.Rows.{cluster, reference}

abbrev rest : Spread
rest = record { starts = 190032800; lengths = 30005200 }

rest_is : (pi_of reference ≡ 190032800) × (lambda_of reference ≡ 30005200)
rest_is = (refl, refl)

-- clocks that begin no further apart than in sync are so at once
at_once : (spread_after reference 190032800 30005200 0 ≡ rest) × (apart_in reference rest ≡ 252043600)
unfolding spread_after
at_once = (refl, refl)

nearer : spread_after reference 0 0 0 ≡ rest
unfolding spread_after
nearer = refl

-- 405,400 ticks more take 19 double cycles, and the peak is at the beginning
later : (spread_after reference 190438200 30005200 18 ≡ record rest { starts = 190032801 }) × (spread_after reference 190438200 30005200 19 ≡ rest) × (apart_in reference (spread_after reference 190438200 30005200 0) ≡ 252449000)
unfolding spread_after
later = (refl, refl, refl)

-- lengths that lie further apart draw the starts apart first
drawn_apart :
    (spread_after reference 190032800 30006200 1 ≡ record { starts = 190035800; lengths = 30005700 })
    × (spread_after reference 190032800 30006200 2 ≡ record { starts = 190035800; lengths = 30005450 })
unfolding spread_after
drawn_apart = (refl, refl)

-- with one tick more the third check fails
held : (left_of 3 reference ≡ 253949200) × (settle_right_of 3 252449000 reference ≡ 253949200) × (settle_holds_of 3 252449000 reference ≡ true)
held = (refl, refl, refl)

one_more : (settle_right_of 3 252449001 reference ≡ 253949201) × (settle_holds_of 3 252449001 reference ≡ false)
one_more = (refl, refl)

-- the fourth and the fifth with the peak in place of the precision
others : (settle_right_of 4 252449000 reference ≡ 1264745000000) × (settle_right_of 5 252449000 reference ≡ 1264745000000)
others = (refl, refl)

-- at the precision the checks for the way are the checks
at_precision : (settle_right_of 3 252043600 reference ≡ 253543800) × (settle_right_of 4 252043600 reference ≡ 1262718000000) × (settle_right_of 5 252043600 reference ≡ 1262718000000)
at_precision = (refl, refl, refl)

-- the first two are the same in any case
same_first : (settle_holds_of 1 252449000 (cluster 4 254 81 7 1) ≡ false) × (settle_holds_of 2 252449000 (cluster 4 254 80 7 0) ≡ false)
same_first = (refl, refl)
