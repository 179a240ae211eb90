use Rattle.std.proofs.Common.{◌∙◌, ap}
use Rattle.std.specs.Prelude.{map}
use Rattle.std.specs.List.{range_with_len}
use Rattle.fr_cluster.specs.Searches.{slot_in}
use Rattle.fr_params.proofs.searches.slot_list.Goals as goal

pub new-requires : goal.new-requires
new-requires c = c.in_ok-by_number.ensures ∙ ap (λ slots. map (slot_in slots) (range_with_len 0 1024)) c.deref.ensures.value
