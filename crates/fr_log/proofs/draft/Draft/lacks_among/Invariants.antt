use Rattle.std.proofs.Common.{◌≡◌, List, false, take}
use Rattle.std.specs.List.{list_any}
use Rattle.fr_text.specs.Records.{FileRecord}
use Rattle.fr_log.specs.Draft.{IsLogDraft}
use Rattle.fr_log.specs.Files.{lacks_limits}
use Rattle.fr_log.proofs.draft.Draft.lacks_among.Given as goal

abbrev pub invariant-loop-place : goal.invariant-loop-place
invariant-loop-place l = (done : List FileRecord) → IsLogDraft l.self done → list_any (lacks_limits done) (take l.place l.nodes) ≡ false
