-- What was found on a shelf, and on one that tells its bytes.
use Rattle.std.proofs.Common.{◌≡◌, ℕ, ◌<◌, List, length, Option, Some, Result, Ok, Err, IfSome, ap, sym, ◌∙◌, subst, arith}
use Rattle.fr_base.specs.Device.{IsFaulty, IsHeld, IsLong, IsOneLoadLater, Shelved}
use Rattle.fr_base.specs.declared.shelf.TheConstants.{MAX_FILE}
use Rattle.fr_text.specs.Files.{IsStopStatus}
use Rattle.fr_text.specs.Loading.{any_file}
use Rattle.fr_text.specs.Kind.{AreBytes, Has, HasOneAnswer, Kind, StopsAt}
use Rattle.fr_text.specs.Told.{stop_status}
use Rattle.fr_text.specs.declared.kind.Stop.{Stop}
use Rattle.fr_text.specs.declared.kind.Stop.TheVariants as stop
use Rattle.fr_text.specs.declared.status.Status.TheVariants as status

-- a file that a shelf has after a load it had before
pub has_earlier : {Value Fault : Type 0} {name : List ℕ} (kind : Kind Value Fault) (before after : Shelved) (file : List ℕ) (value : Value)
    → IsOneLoadLater before after name → Has kind after file value → Has kind before file value
has_earlier kind before after file value later has = record {
  bytes = has.bytes;
  loaded = record { told = subst (λ (o : Option (List ℕ)). IsHeld o has.bytes) (later.held_stays file) has.loaded.told; fits = has.loaded.fits };
  accepted = has.accepted;
  sound = has.sound;
}

-- and a stop at it
pub stops_earlier_at : {Value Fault : Type 0} {name : List ℕ} (kind : Kind Value Fault) (before middle after : Shelved) (file : List ℕ) (why : Stop Fault)
    → IsOneLoadLater before middle name → StopsAt kind middle after file why → StopsAt kind before after file why
stops_earlier_at kind before middle after file stop.ReadFault later stops = omega (arith, later.never_fall file, stops)
stops_earlier_at kind before middle after file stop.TooLong later stops =
    subst (λ (o : Option (List ℕ)). IfSome o (λ all. MAX_FILE < length all)) (later.held_stays file) stops
stops_earlier_at kind before middle after file stop.NoMemory later stops = tt
stops_earlier_at kind before middle after file (stop.Refused fault) later stops = record {
  bytes = stops.bytes;
  loaded = record { told = subst (λ (o : Option (List ℕ)). IsHeld o stops.bytes) (later.held_stays file) stops.loaded.told; fits = stops.loaded.fits };
  refusal = stops.refusal;
}

-- told bytes are the loaded ones
pub same_bytes : (told : Option (List ℕ)) (bytes loaded : List ℕ) → told ≡ Some bytes → IsHeld told loaded → loaded ≡ bytes
same_bytes told bytes loaded is held = let P : Option (List ℕ) → Type 0 = λ content. IsHeld content loaded in subst P is held

pub too_long : (shelf : Shelved) (file bytes : List ℕ) → shelf.held file ≡ Some bytes → IsLong shelf file → MAX_FILE < length bytes
too_long shelf file bytes is long = let P : Option (List ℕ) → Type 0 = λ content. IfSome content (λ all. MAX_FILE < length all) in subst P is long

pub are_bytes : {Value Fault : Type 0} (kind : Kind Value Fault) (shelf : Shelved) (file bytes : List ℕ) (value : Value) → shelf.held file ≡ Some bytes → Has kind shelf file value → AreBytes kind bytes value
are_bytes kind shelf file bytes value told found =
    let same : found.bytes ≡ bytes = same_bytes (shelf.held file) bytes found.bytes told found.loaded.told in
    subst (λ (all : List ℕ). AreBytes kind all value) same (record { fits = found.loaded.fits; accepted = found.accepted })

-- where a command stops at a file, its bytes define the status
pub stop_defined : {Value Fault : Type 0} (kind : Kind Value Fault) (before after : Shelved) (file bytes : List ℕ) (why : Stop Fault) → before.held file ≡ Some bytes → (IsFaulty before after file → ⊥) → StopsAt kind before after file why
    → IsStopStatus kind bytes (stop_status why)
stop_defined kind before after file bytes stop.ReadFault told unread stops = absurd (unread stops)
stop_defined kind before after file bytes stop.TooLong told unread stops = too_long before file bytes told stops
stop_defined kind before after file bytes stop.NoMemory told unread stops = tt
stop_defined kind before after file bytes (stop.Refused fault) told unread stops =
    let same : stops.bytes ≡ bytes = same_bytes (before.held file) bytes stops.bytes told stops.loaded.told in
    subst (λ (all : List ℕ). IsStopStatus kind all status.Refused) same (stops.loaded.fits, (fault, stops.refusal))

value_or : {Value Fault : Type 0} → Value → Result Value Fault → Value
value_or other (Ok value) = value
value_or other (Err fault) = other

-- files of the same bytes are of one value
pub one_value : {Value Fault : Type 0} (kind : Kind Value Fault) → HasOneAnswer kind → (file name bytes : List ℕ) (shelf other : Shelved) (value again : Value) → shelf.held file ≡ Some bytes → other.held name ≡ Some bytes
    → Has kind shelf file value → Has kind other name again → value ≡ again
unfolding value_or
one_value kind one file name bytes shelf other value again told there found more =
    ap (value_or value) (one bytes (Ok value) (Ok again) (λ is. absurd cc) (λ is. absurd cc) (are_bytes kind shelf file bytes value told found).accepted (are_bytes kind other name bytes again there more).accepted)

-- a file of which all bytes are accepted stands for them
pub any_one : HasOneAnswer any_file
any_one bytes (Ok a) (Ok b) left right first second = let same : a ≡ b = first ∙ sym second in cc
any_one bytes (Ok a) (Err tt) left right first second = absurd second
any_one bytes (Err tt) b left right first second = absurd first
