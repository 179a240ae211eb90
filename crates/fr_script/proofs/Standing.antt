-- What the tables make of the records of a file.
use Rattle.std.proofs.Common.{◌≡◌, List}
use Rattle.fr_base.specs.declared.channel.Channel.{Channel}
use Rattle.fr_base.specs.declared.channel.Channel.TheVariants as channel
use Rattle.fr_text.specs.Records.{FileRecord}
use Rattle.fr_script.specs.Deeds.{deed_in, DeedsAscend}
use Rattle.fr_script.specs.Reasons.{deed_by}
use Rattle.fr_script.specs.View.{ScriptView, is_arbitrary, join_of, deeds_on}
use Rattle.fr_script.specs.Draft.{IsScriptDraft}
use Rattle.fr_script.specs.Files.{ScriptStandsFor}
use Rattle.fr_script.specs.declared.deeds.Passage.{Passage}
use Rattle.fr_script.specs.declared.draft.Draft.{Draft}

-- the script of the tables
abbrev pub view_of : Draft → ScriptView
view_of d = record { arbitrary = d.arbitrary; joins = d.joins; on_a = d.on_a; on_b = d.on_b }

pub stands-of : (d : Draft) (records : List FileRecord) → IsScriptDraft d records → ScriptStandsFor (view_of d) records
unfolding is_arbitrary join_of
stands-of d records h = record {
  long = h.long;
  joins_long = h.joins_long;
  nodes = h.nodes;
  joins = h.joins;
  deeds = deeds;
  ascending = ascending;
}
  where
    deeds : (ch : Channel) (passage : Passage) → deed_in (deeds_on (view_of d) ch) passage ≡ deed_by ch passage records
    deeds channel.A passage = h.said_a passage
    deeds channel.B passage = h.said_b passage

    ascending : (ch : Channel) → DeedsAscend (deeds_on (view_of d) ch)
    ascending channel.A = h.deeds_a.ascending
    ascending channel.B = h.deeds_b.ascending
