-- What the tables under construction hold of the records so far.
use Rattle.std.specs.Prelude.{ℕ, ◌≡◌, ◌≤◌, ◌++◌, ◌∷◌, [], Bool, false, List, length, Option, Some, None, is_none, is_some, IfOk, OnOk, Result, Ok, slice_index_or, if◌then◌else◌}
use Rattle.fr_base.specs.declared.channel.Channel.TheVariants as channel
use Rattle.fr_base.specs.declared.reason.Reason.{Reason}
use Rattle.fr_base.specs.declared.reason.Reason.TheVariants as reason
use Rattle.fr_text.specs.Records.{FileRecord}
use Rattle.fr_text.specs.Takes.{TakesRow}
use Rattle.fr_script.specs.Deeds.{deed_in}
use Rattle.fr_script.specs.Reasons.{is_named_in, is_reference, has_acted, deed_by, deed_reason, join_by, script_row_reason}
use Rattle.fr_script.specs.Rows.{script_row_of}
use Rattle.fr_script.specs.View.{AreDeeds}
use Rattle.fr_script.specs.declared.deed.Deed.{Deed}
use Rattle.fr_script.specs.declared.deeds.Passage.{Passage}
use Rattle.fr_script.specs.declared.draft.Act.{Act}
use Rattle.fr_script.specs.declared.draft.Draft.{Draft}
use Rattle.fr_script.specs.declared.rows.DeedRow.{DeedRow}
use Rattle.fr_script.specs.declared.rows.Row.{Row}
use Rattle.fr_script.specs.declared.rows.Row.TheVariants as row

-- the tables hold what the records say
pub record IsScriptDraft (draft : Draft) (records : List FileRecord) : Type 0 where
  pub long : length draft.arbitrary ≡ 65
  pub joins_long : length draft.joins ≡ 65
  pub references_long : length draft.references ≡ 65
  pub nodes : (node : ℕ) → node ≤ 64 → slice_index_or draft.arbitrary node false ≡ is_named_in node records
  pub joins : (node : ℕ) → node ≤ 64 → slice_index_or draft.joins node None ≡ join_by node records
  pub references : (node : ℕ) → node ≤ 64 → slice_index_or draft.references node false ≡ is_reference node records
  pub acted : draft.acted ≡ has_acted records
  pub said_a : (passage : Passage) → deed_in draft.on_a passage ≡ deed_by channel.A passage records
  pub said_b : (passage : Passage) → deed_in draft.on_b passage ≡ deed_by channel.B passage records
  pub deeds_a : AreDeeds draft.on_a
  pub deeds_b : AreDeeds draft.on_b

-- why a deed is refused whose passage has this one
abbrev pub repeated : Option Deed → Option Reason
repeated there = if is_some there then Some reason.Repeated else None

-- a row is refused for its reason, or held after the records so far; the parameters stay
pub record TakesScriptRow {Error : Type 0} (before after : Draft) (row : Row) (result : Result (Option Reason) Error) : Type 0 where
  pub params : after.params ≡ before.params
  pub takes : TakesRow IsScriptDraft script_row_of (script_row_reason before.params.now) before after row result

-- the same where it takes no memory
abbrev pub TakesScriptRowAtOnce : Draft → Draft → Row → Option Reason → Type 0
TakesScriptRowAtOnce before after row why = let answer : Result (Option Reason) (Unit {0}) = Ok why in TakesScriptRow before after row answer

-- the row of a deed that is taken
abbrev pub row_of_act : Act → DeedRow
row_of_act act = record { passage = act.passage; channel = Some act.channel; deed = Some act.deed }

-- what a row does is refused only where its passage has a deed
pub record IsActOf (draft : Draft) (row : DeedRow) (act : Act) : Type 0 where
  pub same : row ≡ row_of_act act
  pub why : (done : List FileRecord) → IsScriptDraft draft done → deed_reason draft.params.now done row ≡ repeated (deed_by act.channel act.passage done)

-- a row that is refused, for its reason
abbrev pub IsRefusedRow : Draft → DeedRow → Reason → Type 0
IsRefusedRow draft row why = (done : List FileRecord) → IsScriptDraft draft done → deed_reason draft.params.now done row ≡ Some why

-- whether the passage of a deed is free; there it is held after the records so far. The parameters stay
pub record PutsAct {Error : Type 0} (before after : Draft) (act : Act) (result : Result Bool Error) : Type 0 where
  pub params : after.params ≡ before.params
  pub free : (done : List FileRecord) → IsScriptDraft before done → IfOk result (λ free. free ≡ is_none (deed_by act.channel act.passage done))
  pub adds : (done : List FileRecord) (r : FileRecord) → IsScriptDraft before done → script_row_of r ≡ Ok (row.Deed (row_of_act act))
      → deed_by act.channel act.passage done ≡ None → OnOk result (IsScriptDraft after (done ++ r ∷ []))
