use Rattle.fr_nm.proofs.Orders.{stands-order, text-order}
use Rattle.fr_nm.proofs.laws.order_changes_nothing.Goals as goal

pub returns-clause-stands : goal.returns-clause-stands
returns-clause-stands c = stands-order

pub returns-clause-text : goal.returns-clause-text
returns-clause-text c = text-order
