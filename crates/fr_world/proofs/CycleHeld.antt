-- What stands in a message memory after a cycle.
use Rattle.std.proofs.Common.{◌≡◌, ℕ, ◌+◌, List, ap, sym, subst, ◌∙◌, add-one}
use Rattle.fr_base.specs.declared.node_row.NodeRow.{NodeRow}
use Rattle.fr_cluster.specs.Setting.{Setting}
use Rattle.fr_cluster.specs.Values.{amount}
use Rattle.fr_cluster.specs.declared.names.ParamName.TheVariants as name
use Rattle.fr_history.specs.Cycles.{Cycles}
use Rattle.fr_history.specs.Next.{cycles_of, early_rows}
use Rattle.fr_history.proofs.RunsExist.{length-cycles_of}
use Rattle.fr_air.specs.Files.{setting_in}
use Rattle.fr_air.specs.Memory.{MemoryView, held_after, held_slots, memory_with}
use Rattle.fr_world.specs.World.{memory_after}
use Rattle.fr_air.specs.declared.files.RunInputs.{RunInputs}
use Rattle.fr_air.proofs.Remembered.{holding}

-- the whole cycle
pub cycle-held : (f : RunInputs) (cycle : ℕ) (rows : List NodeRow) (memory after : MemoryView) → rows ≡ early_rows (setting_in f) (cycles_of (setting_in f) cycle) → memory ≡ memory_after f cycle
    → after ≡ record memory { held = held_slots (setting_in f) cycle rows (amount f.params name.gNumberOfStaticSlots) memory.held } → after ≡ memory_after f (cycle + 1)
unfolding held_after cycles_of
cycle-held f cycle rows memory after listed was now =
    let x : Setting = setting_in f in
    let h : Cycles = cycles_of x cycle in
    let s : ℕ = amount f.params name.gNumberOfStaticSlots in
    let P : ℕ → Type 0 = λ k. after ≡ memory_after f k in
    subst P (sym (add-one cycle))
    (now
    ∙ ap (λ (m : MemoryView). holding m (held_slots x cycle rows s m.held)) was
    ∙ ap (λ (rs : List NodeRow). memory_with f.params (held_slots x cycle rs s (held_after x h))) listed
    ∙ ap (λ (c : ℕ). memory_with f.params (held_slots x c (early_rows x h) s (held_after x h))) (sym (length-cycles_of x cycle)))
