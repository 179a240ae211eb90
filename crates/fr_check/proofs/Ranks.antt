-- The first law that an item breaks, as what its laws say one after the other.
use Rattle.std.proofs.Common.{◌≡◌, ◌∙◌, ℕ, ◌/◌, Bool, true, false, not, ◌&&◌, Option, Some, None, length, refl, ap}
use Rattle.std.specs.Prelude.{is_some, option_and_then}
use Rattle.std.specs.Option.{option_map, option_map_or, option_or}
use Rattle.fr_base.specs.declared.dev.Dev.{Dev}
use Rattle.fr_base.specs.declared.node_row.NodeRow.{NodeRow}
use Rattle.fr_cluster.specs.Searches.{key_node_in}
use Rattle.fr_cluster.specs.Values.{Values}
use Rattle.fr_cluster.specs.declared.nodes.NodeSpec.{NodeSpec}
use Rattle.fr_history.specs.History.{History, Record, row_of}
use Rattle.fr_time.specs.Cycles.{is_odd}
use Rattle.fr_coverage.specs.First.{first_below}
use Rattle.fr_trace.specs.Items.Item.{Clock, Heard}
use Rattle.fr_trace.specs.Trace.{TraceView, is_named}
use Rattle.fr_verdict.specs.Breach.{is_away, sender_is_away, sender_row}
use Rattle.fr_verdict.specs.Search.{apart_dev, apart_row, breach_at, breach_by, outside, outside_by, silent, whenever, wrong_offset, wrong_rate, wrong_start, wrong_turn}
use Rattle.fr_verdict.specs.declared.unlawful.Unlawful.{Unlawful}
use Rattle.fr_verdict.specs.declared.unlawful.Unlawful.TheVariants as unlawful
use Rattle.fr_check.specs.Allowed.{allowed_by, limits_by, outside_of}
use Rattle.fr_check.specs.declared.deviations.Allowed.{Allowed}

-- where nothing is said between, and behind, what is said last is found
ends : (a b : Option Unlawful) → option_or a b ≡ option_or (option_or (option_or a None) None) b
ends None b = refl
ends (Some u) b = refl

pub clock_breach : (p : Values) (t : TraceView) (n : ℕ) (h : History) (r : Record) (row : NodeRow)
    → option_or (option_or (option_or (option_or (wrong_start p n h row) (wrong_rate p n h row)) (wrong_turn p n h row)) (wrong_offset p n h r row)) (apart_row p t n h row) ≡ breach_at p t n (Clock h r row)
unfolding first_below breach_by
clock_breach p t n h r row = ends (option_or (option_or (option_or (wrong_start p n h row) (wrong_rate p n h row)) (wrong_turn p n h row)) (wrong_offset p n h r row)) (apart_row p t n h row)

-- a sender with a row is not away
pub not_away : (p : Values) (t : TraceView) (r : Record) (slot : ℕ) (row : NodeRow) → sender_row p r slot ≡ Some row → sender_is_away p t r slot ≡ false
not_away p t r slot row is = by_node (key_node_in p.nodes slot) is
  where
    by_row : (a : Bool) (o : Option NodeRow) → o ≡ Some row → (a && not (is_some o)) ≡ false
    by_row a None e = cc e
    by_row true (Some other) e = refl
    by_row false (Some other) e = refl

    by_node : (o : Option NodeSpec) → option_and_then (λ node. row_of r.rows node.id) o ≡ Some row → option_map_or (is_away t r) o false ≡ false
    by_node None e = cc e
    by_node (Some node) e = by_row (not (is_named t node.id)) (row_of r.rows node.id) e

outside_same : (p : Values) (n : ℕ) (odd : Bool) (dev : Dev) (sender receiver : Option NodeRow) → outside_of n dev (limits_by p odd dev.slot sender receiver) ≡ outside_by p n odd dev sender receiver
outside_same p n odd dev None receiver = refl
outside_same p n odd dev (Some sender) None = refl
outside_same p n odd dev (Some sender) (Some receiver) = refl

heard_breach : (p : Values) (t : TraceView) (n : ℕ) (h : History) (r : Record) (dev : Dev) → option_or (option_or (silent p t n r dev) (outside p n h r dev)) (apart_dev p t n h r dev) ≡ breach_at p t n (Heard h r dev)
unfolding first_below breach_by
heard_breach p t n h r dev = refl

pub breach_of_allowed : (p : Values) (t : TraceView) (n double : ℕ) (h : History) (r : Record) (dev : Dev) (allowed : Allowed) → double ≡ length h / 2
    → allowed ≡ allowed_by p t (is_odd (length h)) r (row_of r.rows dev.receiver) dev.slot
    → option_or (option_or (option_map (unlawful.Silent n) allowed.silent) (outside_of n dev allowed.limits)) (whenever allowed.away (unlawful.Apart n double)) ≡ breach_at p t n (Heard h r dev)
breach_of_allowed p t n double h r dev allowed half is =
    ap (λ (a : Allowed). option_or (option_or (option_map (unlawful.Silent n) a.silent) (outside_of n dev a.limits)) (whenever a.away (unlawful.Apart n double))) is
    ∙ ap (λ (o : Option Unlawful). option_or (option_or (silent p t n r dev) o) (whenever (sender_is_away p t r dev.slot) (unlawful.Apart n double))) (outside_same p n (is_odd (length h)) dev (sender_row p r dev.slot) (row_of r.rows dev.receiver))
    ∙ ap (λ (m : ℕ). option_or (option_or (silent p t n r dev) (outside p n h r dev)) (whenever (sender_is_away p t r dev.slot) (unlawful.Apart n m))) half
    ∙ heard_breach p t n h r dev
