-- Which reasons hold of a record of a script, as the description of the file names them.
use Rattle.std.specs.Prelude.{neg_ℤ, ◌-◌, Bool, true, false, not, ◌||◌, nat_le, List, [], ◌∷◌, ◌++◌, length, Option, Some, None, is_some, is_none, codes, if◌then◌else◌}
use Rattle.std.specs.Option.{option_map_or}
use Rattle.std.specs.Str.{bytes_eq}
use Rattle.fr_base.specs.Channels.{channel_of}
use Rattle.fr_base.specs.declared.reason.Reason.{Reason}
use Rattle.fr_base.specs.declared.reason.Reason.TheVariants as reason
use Rattle.fr_text.specs.Records.{FileRecord}
use Rattle.fr_text.specs.Fields.{field_of}
use Rattle.fr_text.specs.Forms.{Form, NumberField, number_field, misses_form, has_unknown_name, has_no_number, is_out_of_range, has_bad_channels}
use Rattle.fr_text.specs.Least.{row_passes}
use Rattle.fr_cluster.specs.Values.{Values}
use Rattle.fr_cluster.specs.Questions.{is_common, node_of, own_key}
use Rattle.fr_script.specs.Deed.{bits_of, farthest, is_say}
use Rattle.fr_script.specs.Rows.{script_row_of}
use Rattle.fr_script.specs.Reasons.{deed_by, has_acted, is_misplaced, is_named_in, join_by, knows_both, knows_joining, may_not_join, share_channel}
use Rattle.fr_script.specs.declared.rows.Row.{Row}
use Rattle.fr_script.specs.declared.rows.Row.TheVariants as row

-- `arbitrary,NODE,,,,,`
abbrev pub arbitrary_form : FileRecord → Form
arbitrary_form r = record {
  empty = field_of r 2 ∷ field_of r 3 ∷ field_of r 4 ∷ field_of r 5 ∷ field_of r 6 ∷ [];
  known = true;
  numbers = number_field (field_of r 1) 1 64 ∷ [];
  short = true;
  spelt = true;
}

-- CYCLE, SENDER and RECEIVER of the other forms, and their CHANNEL
abbrev pub passage_fields : FileRecord → List NumberField
passage_fields r = number_field (field_of r 1) 0 199_999 ∷ number_field (field_of r 2) 1 64 ∷ number_field (field_of r 3) 1 64 ∷ []

abbrev pub is_spelt : FileRecord → Bool
is_spelt r = is_some (channel_of (field_of r 4))

-- `say,CYCLE,SENDER,RECEIVER,CHANNEL,SHIFT,BYTES`: the digits of a frame at most, whatever they are
abbrev pub say_form : FileRecord → Form
say_form r = record {
  empty = [];
  known = true;
  numbers = passage_fields r ++ record { text = field_of r 5; low = neg_ℤ farthest; high = farthest } ∷ [];
  short = nat_le (length (field_of r 6)) 524;
  spelt = is_spelt r;
}

-- `lose,CYCLE,SENDER,RECEIVER,CHANNEL,,`
abbrev pub lose_form : FileRecord → Form
lose_form r = record {
  empty = field_of r 5 ∷ field_of r 6 ∷ [];
  known = true;
  numbers = passage_fields r;
  short = true;
  spelt = is_spelt r;
}

-- `flip,CYCLE,SENDER,RECEIVER,CHANNEL,BIT,`: a bit of a frame of the cluster
abbrev pub flip_form : Values → FileRecord → Form
flip_form p r = record {
  empty = field_of r 6 ∷ [];
  known = true;
  numbers = passage_fields r ++ number_field (field_of r 5) 0 (bits_of p - 1) ∷ [];
  short = true;
  spelt = is_spelt r;
}

-- `join,DOUBLE,NODE,REFERENCE,,,`
abbrev pub join_form : FileRecord → Form
join_form r = record {
  empty = field_of r 4 ∷ field_of r 5 ∷ field_of r 6 ∷ [];
  known = true;
  numbers = number_field (field_of r 1) 0 99_999 ∷ number_field (field_of r 2) 1 64 ∷ number_field (field_of r 3) 1 64 ∷ [];
  short = true;
  spelt = true;
}

abbrev pub script_form : Values → FileRecord → Option Form
script_form p r =
    if bytes_eq (field_of r 0) (codes "arbitrary") then Some (arbitrary_form r)
    else if bytes_eq (field_of r 0) (codes "say") then Some (say_form r)
    else if bytes_eq (field_of r 0) (codes "lose") then Some (lose_form r)
    else if bytes_eq (field_of r 0) (codes "flip") then Some (flip_form p r)
    else if bytes_eq (field_of r 0) (codes "join") then Some (join_form r)
    else None

-- a node that is none of the parameters
abbrev pub is_of_stranger : Values → Row → Bool
is_of_stranger p (row.Arbitrary node) = is_none (node_of p node)
is_of_stranger p (row.Deed d) = not (knows_both p d.passage)
is_of_stranger p (row.Join j) = not (knows_joining p j)

-- a node without a key slot, or one that is named after other records; a deed where sender and receiver are the same, where
-- the receiver is arbitrary, or where a sender says and is not arbitrary, or is arbitrary and does not say; a node that joins
-- itself or an arbitrary one, or is arbitrary, one that is a reference, and a reference without a key slot or that joins
abbrev pub may_not_stand : Values → List FileRecord → Row → Bool
may_not_stand p before (row.Arbitrary node) = is_none (own_key p node) || has_acted before
may_not_stand p before (row.Deed d) = is_misplaced before d.passage (is_say d.deed)
may_not_stand p before (row.Join j) = may_not_join p before j

-- a deed on a channel that is not common to both nodes; a node and its reference without a common channel
abbrev pub is_off_channel : Values → Row → Bool
is_off_channel p (row.Arbitrary node) = false
is_off_channel p (row.Deed d) = option_map_or (λ ch. not (is_common p d.passage.sender d.passage.receiver ch)) d.channel false
is_off_channel p (row.Join j) = not (share_channel p j)

-- a frame that is said in no hexadecimal digits
abbrev pub is_not_hex : Row → Bool
is_not_hex (row.Arbitrary node) = false
is_not_hex (row.Deed d) = is_none d.deed
is_not_hex (row.Join j) = false

-- a node that is named twice; a second deed of a passage; a node that joins twice
abbrev pub is_second : List FileRecord → Row → Bool
is_second before (row.Arbitrary node) = is_named_in node before
is_second before (row.Deed d) = option_map_or (λ ch. is_some (deed_by ch d.passage before)) d.channel false
is_second before (row.Join j) = is_some (join_by j.node before)

-- whether a reason holds of a record after the records before it
abbrev pub script_holds : Values → List FileRecord → FileRecord → Reason → Bool
script_holds p before r reason.Shape = misses_form 7 r (script_form p r)
script_holds p before r reason.UnknownName = has_unknown_name (script_form p r)
script_holds p before r reason.NotNumber = has_no_number (script_form p r)
script_holds p before r reason.OutOfRange = is_out_of_range (script_form p r)
script_holds p before r reason.UnknownNode = row_passes (is_of_stranger p) (script_row_of r)
script_holds p before r reason.BadChannel = has_bad_channels (script_form p r)
script_holds p before r reason.Role = row_passes (may_not_stand p before) (script_row_of r)
script_holds p before r reason.Link = row_passes (is_off_channel p) (script_row_of r)
script_holds p before r reason.NotHex = row_passes is_not_hex (script_row_of r)
script_holds p before r reason.Repeated = row_passes (is_second before) (script_row_of r)
