-- Lines that wait to be put, and how a text goes by way of them.
use Rattle.std.specs.Prelude.{◌≡◌, ◌⊎◌, ℕ, List, [], ◌++◌, Result, Ok, Some, None, OnOk, OnErr}
use Rattle.fr_base.specs.Device.{IsEnded, Puts, Sunk}
use Rattle.fr_base.specs.declared.sink.PutFault.{PutFault}

-- whole lines, or nothing
abbrev pub AreLines : List ℕ → Type 0
AreLines text = (text ≡ []) ⊎ IsEnded text

-- the bytes that wait, and how many puts into them failed
pub record GatheredView : Type 0 where
  pub bytes : List ℕ
  pub faults : ℕ

-- as a sink, it tells what waits, and no puts
abbrev pub gathered_state : GatheredView → Sunk
gathered_state g = record { written = Some g.bytes; faults = g.faults; puts = None }

-- what waited and a text behind it: a front of both was put, and the rest waits
pub record PutsOn (waited waits : List ℕ) (before now : Sunk) (text : List ℕ) : Type 0 where
  pub front : List ℕ
  pub put : Puts (Ok tt) before now front
  pub parts : waited ++ text ≡ front ++ waits

-- it was so; or a put failed, and a front of both was put
pub record Gathers (result : Result (Unit {0}) PutFault) (waited waits : List ℕ) (before now : Sunk) (text : List ℕ) : Type 0 where
  pub whole : OnOk result (PutsOn waited waits before now text)
  pub failed : OnErr result (Puts result before now (waited ++ text))
