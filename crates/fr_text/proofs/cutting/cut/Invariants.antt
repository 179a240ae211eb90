use Rattle.std.proofs.Common.{◌≡◌, ◌≤◌, ◌-◌, ◌++◌, drop, length, take, true}
use Rattle.std.specs.List.{list_all}
use Rattle.fr_text.specs.Plain.{bytes_of}
use Rattle.fr_text.specs.Texts.{is_plain_field}
use Rattle.fr_text.proofs.LineCuts.{ended}
use Rattle.fr_text.proofs.cutting.cut.Given as goal

-- the fields so far stand before the one that begins at the start, each with its comma
abbrev pub invariant-bytes : goal.invariant-bytes
invariant-bytes l = record {
  begun : l.start ≤ l.place;
  within : l.place ≤ length l.fn.text;
  front : l.fn.text ≡ ended (bytes_of l.fields.items) ++ drop l.start l.fn.text;
  plain : list_all is_plain_field (bytes_of l.fields.items) ≡ true;
  field : is_plain_field (take (l.place - l.start) (drop l.start l.fn.text)) ≡ true;
}

abbrev pub decreases-bytes : goal.decreases-bytes
decreases-bytes l = length l.fn.text - l.place
