-- What a script file stands for, and why it is refused.
use Rattle.std.specs.Prelude.{ℕ, ◌≡◌, ◌≤◌, List, length, ⊤}
use Rattle.fr_base.specs.declared.channel.Channel.{Channel}
use Rattle.fr_text.specs.Kind.{Kind}
use Rattle.fr_text.specs.Records.{FileRecord, records_of}
use Rattle.fr_text.specs.Refusal.{NoneRefused, FirstRefused}
use Rattle.fr_cluster.specs.Values.{Values}
use Rattle.fr_script.specs.Deeds.{deed_in, DeedsAscend}
use Rattle.fr_script.specs.Reasons.{is_named_in, deed_by, join_by, script_reason_after}
use Rattle.fr_script.specs.View.{IsScript, ScriptView, is_arbitrary, join_of, deeds_on}
use Rattle.fr_script.specs.declared.deeds.Passage.{Passage}
use Rattle.fr_script.specs.declared.fault.ScriptFault.{ScriptFault}
use Rattle.fr_script.specs.declared.fault.ScriptFault.TheVariants as fault

-- the script is what the records say: a node is arbitrary where a record names it, joins as its record says, and each deed is
-- that of its record
pub record ScriptStandsFor (s : ScriptView) (records : List FileRecord) : Type 0 where
  pub long : length s.arbitrary ≡ 65
  pub joins_long : length s.joins ≡ 65
  pub nodes : (node : ℕ) → node ≤ 64 → is_arbitrary s node ≡ is_named_in node records
  pub joins : (node : ℕ) → node ≤ 64 → join_of s node ≡ join_by node records
  pub deeds : (ch : Channel) (passage : Passage) → deed_in (deeds_on s ch) passage ≡ deed_by ch passage records
  pub ascending : (ch : Channel) → DeedsAscend (deeds_on s ch)

-- the file is accepted, and this is the script that it stands for
pub record IsScriptFile (p : Values) (s : ScriptView) (bytes : List ℕ) : Type 0 where
  pub none_refused : NoneRefused (script_reason_after p) (records_of bytes)
  pub stands : ScriptStandsFor s (records_of bytes)

-- a script fits parameters where there are records that are accepted with them and that stand for it
pub record ScriptFits (p : Values) (s : ScriptView) : Type 0 where
  pub records : List FileRecord
  pub none_refused : NoneRefused (script_reason_after p) records
  pub stands : ScriptStandsFor s records

-- a fault tells the first refused record and its reason; want of memory may come at any file
abbrev pub RefusesScript : Values → List ℕ → ScriptFault → Type 0
RefusesScript p bytes (fault.Row number why) = FirstRefused (script_reason_after p) (records_of bytes) number why
RefusesScript p bytes fault.NoMemory = ⊤

-- what holds of each script that is read
pub record IsSoundScript (p : Values) (s : ScriptView) : Type 0 where
  pub fits : ScriptFits p s
  pub proper : IsScript s

-- the kind of a script of a cluster with these parameters
abbrev pub script_file : Values → Kind ScriptView ScriptFault
script_file p = record { is_file_of = IsScriptFile p; refuses = RefusesScript p; is_sound = IsSoundScript p; no_memory = fault.NoMemory }
