-- Macroticks of two nodes that are switched on together, computed: cycles of 5,000 macroticks, slots of 30, and an action
-- point 7 macroticks into each.
use Rattle.std.proofs.Common.{◌≡◌, true, false, Some, refl}
use Rattle.fr_cold.specs.Node.{heard, is_resolved, is_turn, resolved, sends, sent, switched}
use Rattle.fr_cold.specs.declared.state.ColdState.TheVariants as state
use Rattle.fr_cold.specs.declared.state.Switch.TheVariants as switch

listens : switched (Some switch.On) 4 state.Off ≡ state.Listening 4
listens = refl

-- both send the symbol two cycles later, and hear nothing
symbol : sends 5000 7 10_004 (state.Listening 4) ≡ true
symbol = refl

begins : heard false 10_004 (sent 5000 10_004 (state.Listening 4)) ≡ state.Resolving 10_004
begins = refl

-- the node of slot 1 sends its first frame, and the one of slot 2 listens anew
first_frame : sends 5000 7 10_012 (state.Resolving 10_004) ≡ true
first_frame = refl

other_waits : sends 5000 37 10_012 (state.Resolving 10_004) ≡ false
other_waits = refl

turned_back : heard true 10_012 (sent 5000 10_012 (state.Resolving 10_004)) ≡ state.Listening 10_012
turned_back = refl

next_frame : is_turn 10_012 5000 15_012 ≡ true
next_frame = refl

-- four cycles after the macrotick that follows the symbol the first one leads, and no frame turns it back
leads : resolved 5000 30_005 (state.Resolving 10_004) ≡ state.Leading 10_004
leads = refl

not_before : is_resolved 5000 30_004 (state.Resolving 10_004) ≡ false
not_before = refl

goes_on : heard true 40_000 (state.Leading 10_004) ≡ state.Leading 10_004
goes_on = refl

goes_off : switched (Some switch.Off) 40_000 (state.Leading 10_004) ≡ state.Off
goes_off = refl
