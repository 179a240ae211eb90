use Rattle.std.proofs.Common.{◌∙◌, ap}
use Rattle.std.specs.Prelude.{map}
use Rattle.std.specs.List.{range_with_len}
use Rattle.fr_cluster.specs.Searches.{key_index_in, key_node_in, node_in}
use Rattle.fr_params.proofs.searches.node_list.Goals as goal

pub new-requires : goal.new-requires
new-requires c = record {
  ids = c.in_ok-by_id.ensures ∙ ap (λ nodes. map (node_in nodes) (range_with_len 0 65)) c.deref.ensures.value;
  keys = c.in_ok-by_key.ensures ∙ ap (λ nodes. map (key_node_in nodes) (range_with_len 0 1024)) c.deref-2.ensures.value;
  places = c.in_ok-indices.ensures ∙ ap (λ nodes. map (key_index_in nodes) (range_with_len 0 1024)) c.deref-3.ensures.value;
}
