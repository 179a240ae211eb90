-- The report of a run that a node joins: the worked run of three nodes of which the third listens to the first in double
-- cycle 1.
use Rattle.std.specs.Prelude.{ℕ, List, ◌++◌, codes}
use Rattle.fr_worked.specs.Wording.{says_covered, says_cut, says_heard, says_node, says_nodes, says_precision, says_sent, says_skew, says_sync}

-- it has a row from cycle 8 on, and so a line of its own
abbrev pub joined_report : List ℕ
joined_report =
    says_nodes (codes "3") (codes "3") (codes "0") (codes "6")
    ++ says_precision (codes "252043600")
    ++ says_covered (codes "yes")
    ++ says_sync (codes "0")
    ++ says_skew (codes "0") (codes "0") (codes "0")
    ++ says_sent (codes "A") (codes "28") (codes "000000")
    ++ says_sent (codes "B") (codes "0") (codes "000000")
    ++ says_heard (codes "40") (codes "0")
    ++ says_cut (codes "0")
    ++ says_node (codes "1") (codes "2400000000000") (codes "0") (codes "0")
    ++ says_node (codes "2") (codes "2400000000000") (codes "0") (codes "0")
    ++ says_node (codes "3") (codes "2400000000000") (codes "0") (codes "0")
