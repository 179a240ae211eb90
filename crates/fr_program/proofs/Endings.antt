-- What an ending of a command says: how it comes about, and which status it has.
use Rattle.std.proofs.Common.{◌≡◌, ℕ, List, [], length, Ok, Err, ap, sym, subst, arith}
use Rattle.std.proofs.lemmas.List.{take_all}
use Rattle.fr_base.specs.Device.{Asks, AsksFront, Puts, Shelved, Sunk}
use Rattle.fr_base.specs.declared.sink.PutFault.{PutFault}
use Rattle.fr_text.proofs.Commands.{never_usage, stop_asks_front, stopped, written}
use Rattle.fr_text.specs.Status.{code_of}
use Rattle.fr_text.specs.declared.status.Status.TheVariants as status
use Rattle.fr_text.specs.declared.told.Told.{Told}
use Rattle.fr_program.specs.declared.failure.Failure.TheVariants.{Usage, Stopped, WriteFault}
use Rattle.fr_program.specs.Around.{Around, Ending, IsCutShort, IsWritten, TextEnds}
use Rattle.fr_program.specs.Command.{AreLoads, Command, CommandEnds, IsComplete}
use Rattle.fr_program.specs.Failure.{ending_status}

-- a stop
pub ends_stopped : (IsText : List ℕ → Type 0) (Stops : Told → Type 0) (before after : Sunk) (ending : Ending) (why : Told) → ending ≡ Err (Stopped why) → Stops why
    → TextEnds IsText Stops before after ending
ends_stopped IsText Stops before after ending why is stops =
    let P : Ending → Type 0 = λ e. TextEnds IsText Stops before after e in
    subst P (sym is) stops

-- a text that was written whole, or a front of it
pub whole : {done : Unit {0}} (IsText : List ℕ → Type 0) (text : List ℕ) (before after : Sunk) → IsText text → Puts (Ok done) before after text → IsWritten IsText before after
whole IsText text before after defined put = record { text = text; defined = defined; put = put.whole }

pub cut_short : {fault : PutFault} (IsText : List ℕ → Type 0) (text : List ℕ) (before after : Sunk) → IsText text → Puts (Err fault) before after text → IsCutShort IsText before after
cut_short IsText text before after defined put = record { text = text; defined = defined; put = put.front }

pub ends_cut_short : {fault : PutFault} (IsText : List ℕ → Type 0) (Stops : Told → Type 0) (text : List ℕ) (before after : Sunk) (ending : Ending) → ending ≡ Err WriteFault → IsText text
    → Puts (Err fault) before after text → TextEnds IsText Stops before after ending
ends_cut_short IsText Stops text before after ending is defined put =
    let P : Ending → Type 0 = λ e. TextEnds IsText Stops before after e in
    subst P (sym is) (cut_short IsText text before after defined put)

-- the status is one that the bytes of the files define
pub complete : (command : Command) (around : Around) (ending : Ending) → CommandEnds command around ending → IsComplete command around (ending_status ending)
complete command around (Ok done) ends bytes told faultless unwritten = written command.files command.names bytes around.shelf_before ends.text told ends.defined.is_text
complete command around (Err Usage) ends bytes told faultless unwritten = absurd ends
complete command around (Err (Stopped why)) ends bytes told faultless unwritten =
    stopped command.files [] command.names bytes around.shelf_before around.shelf_after why told faultless ends
complete command around (Err WriteFault) ends bytes told faultless unwritten = absurd (unwritten ends.put.counted)

-- and no ending of a command is called that of words that are no request
pub apart : (command : Command) (around : Around) (ending : Ending) → CommandEnds command around ending → ending_status ending ≡ status.Usage → ⊥
apart command around (Ok done) ends e = let zero : 0 ≡ 2 = ap code_of e in absurd (omega (arith, zero))
apart command around (Err Usage) ends e = absurd ends
apart command around (Err (Stopped why)) ends e = never_usage command.files [] command.names around.shelf_before around.shelf_after why ends e
apart command around (Err WriteFault) ends e = let four : 4 ≡ 2 = ap code_of e in absurd (omega (arith, four))

-- all names are a front of them
all_asked : (before after : Shelved) (names : List (List ℕ)) → Asks before.asked after.asked names → AsksFront before.asked after.asked names
all_asked before after names asked = (length names, subst (Asks before.asked after.asked) (sym (take_all (length names) names (omega arith))) asked)

-- however a command ends, what was asked for are its names, up to one of them
front_of_names : (command : Command) (around : Around) (ending : Ending) → CommandEnds command around ending
    → AsksFront around.shelf_before.asked around.shelf_after.asked command.names
front_of_names command around (Ok done) ends = all_asked around.shelf_before around.shelf_after command.names ends.defined.asked
front_of_names command around (Err Usage) ends = absurd ends
front_of_names command around (Err (Stopped why)) ends = stop_asks_front command.files [] command.names around.shelf_before around.shelf_after why ends
front_of_names command around (Err WriteFault) ends = all_asked around.shelf_before around.shelf_after command.names ends.defined.asked

pub loads : (command : Command) (around : Around) (ending : Ending) → CommandEnds command around ending → (command.names ≡ [] → around.shelf_after ≡ around.shelf_before)
    → AreLoads command.names around.shelf_before around.shelf_after
loads command around ending ends stays = record { asked = front_of_names command around ending ends; stays = stays }
