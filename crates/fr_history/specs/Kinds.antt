-- The kinds of answers, as tests.
use Rattle.std.specs.Prelude.{Bool, true, false}
use Rattle.fr_reception.specs.declared.heard.Heard.{Heard}
use Rattle.fr_reception.specs.declared.heard.Heard.TheVariants.{Stored, Ignored}
use Rattle.fr_reception.specs.declared.heard.Ignored.TheVariants as reason

abbrev pub is_stored : Heard → Bool
is_stored (Stored value) = true
is_stored (Ignored why) = false

abbrev pub is_outside : Heard → Bool
is_outside (Ignored (reason.Outside arrival from to)) = true
is_outside _ = false

abbrev pub is_damaged : Heard → Bool
is_damaged (Ignored (reason.Damaged fault)) = true
is_damaged _ = false

abbrev pub is_wrong_id : Heard → Bool
is_wrong_id (Ignored (reason.WrongId slot id)) = true
is_wrong_id _ = false

abbrev pub is_wrong_cycle : Heard → Bool
is_wrong_cycle (Ignored (reason.WrongCycle own got)) = true
is_wrong_cycle _ = false

abbrev pub is_wrong_length : Heard → Bool
is_wrong_length (Ignored (reason.WrongLength own got)) = true
is_wrong_length _ = false

abbrev pub is_plain : Heard → Bool
is_plain (Ignored reason.Plain) = true
is_plain _ = false
