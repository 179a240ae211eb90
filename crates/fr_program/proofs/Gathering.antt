-- Texts that go one after the other by way of lines that wait.
use Rattle.std.specs.Prelude.{OnOk, OnErr, codes, is_ok}
use Rattle.std.proofs.Common.{◌≡◌, ℕ, List, [], ◌++◌, length, take, inr, false, Result, Ok, Err, refl, ap, sym, ◌∙◌, subst, append_assoc, append-nil}
use Rattle.std.specs.Result.{IsErr}
use Rattle.std.proofs.Math.Seq.{take-append_seam}
use Rattle.fr_base.specs.Device.{IsEnded, Puts, Sunk}
use Rattle.fr_base.specs.declared.sink.PutFault.{PutFault}
use Rattle.fr_base.proofs.Putting.{cut, puts_none, then}
use Rattle.fr_program.specs.Gathered.{AreLines, GatheredView, Gathers, PutsOn, gathered_state}

-- ---- how texts follow each other

-- nothing
pub gathers_none : (waits : List ℕ) (a : Sunk) → PutsOn waits waits a a []
gathers_none waits a = record { front = []; put = puts_none a; parts = append-nil waits }

-- a text that waits
gathers_more : {waited waits text : List ℕ} (a : Sunk) → waits ≡ waited ++ text → PutsOn waited waits a a text
gathers_more a is = record { front = []; put = puts_none a; parts = sym is }

-- a text, and then another
pub gathers_then : {u v w : List ℕ} {a b c : Sunk} {text rest : List ℕ} (result : Result (Unit {0}) PutFault) →
    PutsOn u v a b text → Gathers result v w b c rest → Gathers result u w a c (text ++ rest)
gathers_then {u} {v} {w} {a} {b} {c} {text} {rest} (Ok done) put next = record {
  whole = record {
    front = put.front ++ next.whole.front;
    put = then (Ok tt) put.put next.whole.put;
    parts =
        sym (append_assoc u text rest)
        ∙ ap (λ (l : List ℕ). l ++ rest) put.parts
        ∙ append_assoc put.front v rest
        ∙ ap (λ (l : List ℕ). put.front ++ l) next.whole.parts
        ∙ sym (append_assoc put.front next.whole.front w);
  };
  failed = tt;
}
gathers_then {u} {v} {w} {a} {b} {c} {text} {rest} (Err why) put next =
    let parts : put.front ++ (v ++ rest) ≡ u ++ (text ++ rest) =
    sym (append_assoc put.front v rest) ∙ ap (λ (l : List ℕ). l ++ rest) (sym put.parts) ∙ append_assoc u text rest in
    record { whole = tt; failed = subst (Puts (Err why) a c) parts (then (Err why) put.put next.failed) }

-- a text that stopped at its front
pub gathers_cut : {fault : PutFault} {u v w : List ℕ} {a b : Sunk} {text : List ℕ} (result : Result (Unit {0}) PutFault) (rest : List ℕ) →
    Gathers (Err fault) u v a b text → IsErr result → Gathers result u w a b (text ++ rest)
gathers_cut (Ok done) rest put is = absurd cc
gathers_cut {u = u} {a = a} {b = b} {text = text} (Err other) rest put is =
    record { whole = tt; failed = subst (Puts (Err other) a b) (append_assoc u text rest) (cut (Err other) rest put.failed refl) }

-- and what waits at the end
pub gathers_end : {v : List ℕ} {a b c : Sunk} {text : List ℕ} (result : Result (Unit {0}) PutFault) →
    PutsOn [] v a b text → Puts result b c v → Puts result a c text
gathers_end {a = a} {c = c} (Ok done) put last = subst (Puts (Ok done) a c) (sym put.parts) (then (Ok done) put.put last)
gathers_end {a = a} {c = c} (Err why) put last = subst (Puts (Err why) a c) (sym put.parts) (then (Err why) put.put last)

pub gathers_failed : {fault : PutFault} {v : List ℕ} {a b : Sunk} {text : List ℕ} (result : Result (Unit {0}) PutFault) → Gathers (Err fault) [] v a b text → IsErr result → Puts result a b text
gathers_failed {a = a} {b = b} {text = text} result put is = subst (Puts result a b) (append-nil text) (cut result [] put.failed is)

-- ---- a text that was put into what waits

-- all of it
pub gathers_waits : {waited waits w : List ℕ} {a b : Sunk} {text : List ℕ} (result : Result (Unit {0}) PutFault) →
    waits ≡ waited ++ text → Gathers result waits w a b [] → Gathers result waited w a b text
gathers_waits {waited} {waits} {w} {a} {b} {text} result is next =
    subst (λ (l : List ℕ). Gathers result waited w a b l) (append-nil text) (gathers_then result (gathers_more a is) next)

pub gathers_held : {done : Unit {0}} {w : List ℕ} {a b : Sunk} {text : List ℕ} {before after : GatheredView} (result : Result (Unit {0}) PutFault) →
    Puts (Ok done) (gathered_state before) (gathered_state after) text → Gathers result after.bytes w a b [] → Gathers result before.bytes w a b text
gathers_held result held next = gathers_waits result held.whole.written next

-- a front of it, and what waited before stands in front
pub waited_before : {fault : PutFault} {text : List ℕ} (before after : GatheredView) → Puts (Err fault) (gathered_state before) (gathered_state after) text → take (length before.bytes) after.bytes ≡ before.bytes
waited_before before after held = ap (take (length before.bytes)) held.front.written ∙ take-append_seam before.bytes _

-- then what waited was put, and behind it the text
pub gathers_straight : {done : Unit {0}} {u waits : List ℕ} {a b c : Sunk} {text : List ℕ} (result : Result (Unit {0}) PutFault) → waits ≡ [] → Puts (Ok done) a b u → Puts result b c text → Gathers result u waits a c text
gathers_straight {u = u} {waits = waits} {text = text} (Ok done) none put next =
    record { whole = record { front = u ++ text; put = then (Ok tt) put next; parts = sym (append-nil (u ++ text)) ∙ ap (λ (l : List ℕ). (u ++ text) ++ l) (sym none) }; failed = tt }
gathers_straight (Err why) none put next = record { whole = tt; failed = then (Err why) put next }

-- or it was not
pub gathers_stopped : {fault : PutFault} {u w : List ℕ} {a b : Sunk} (text : List ℕ) (result : Result (Unit {0}) PutFault) → Puts (Err fault) a b u → IsErr result → Gathers result u w a b text
gathers_stopped text (Ok done) put is = absurd cc
gathers_stopped text (Err other) put is = record { whole = tt; failed = cut (Err other) text put refl }

-- ---- whole lines behind others
pub lines_behind : (result : Result (Unit {0}) PutFault) {before after lines : List ℕ} → OnOk result (after ≡ before ++ lines) → OnErr result (after ≡ before) → IsEnded lines → AreLines before → AreLines after
lines_behind (Ok done) {before = before} {lines = lines} taken untaken ended are =
    let behind : IsEnded (before ++ lines) = record { front = before ++ ended.front; ended = ap (λ (l : List ℕ). before ++ l) ended.ended ∙ sym (append_assoc before ended.front (codes "\n")) } in
    subst AreLines (sym taken) (inr behind)
lines_behind (Err fault) taken untaken ended are = subst AreLines (sym untaken) are

pub untaken : (result : Result (Unit {0}) PutFault) {P : Type 0} → is_ok result ≡ false → OnErr result P → P
untaken (Ok done) is p = absurd cc
untaken (Err fault) is p = p
