-- The items of a receiver's deviations.
use Rattle.std.specs.Prelude.{ℕ, ◌==◌, List, map, filter}
use Rattle.fr_base.specs.declared.dev.Dev.{Dev}
use Rattle.fr_history.specs.History.{History, Record}
use Rattle.fr_trace.specs.Items.{Item}

abbrev pub devs_told_of : History → Record → ℕ → List Dev → List Item
devs_told_of h r node devs = map (Item.Heard h r) (filter (λ dev. dev.receiver == node) devs)
