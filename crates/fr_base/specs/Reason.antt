-- The numbers and names of the reasons.
use Rattle.std.specs.Prelude.{ℕ, List, codes}
use Rattle.fr_base.specs.declared.reason.Reason.{Reason}
use Rattle.fr_base.specs.declared.reason.Reason.TheVariants.{Shape, UnknownName, NotNumber, OutOfRange, UnknownNode, BadChannel, Role, Link, NotHex, Repeated}

-- a record is refused for the reason with the least number that holds
abbrev pub reason_rank : Reason → ℕ
reason_rank Shape = 1
reason_rank UnknownName = 2
reason_rank NotNumber = 3
reason_rank OutOfRange = 4
reason_rank UnknownNode = 5
reason_rank BadChannel = 6
reason_rank Role = 7
reason_rank Link = 8
reason_rank NotHex = 9
reason_rank Repeated = 10

-- a reason as it is spelt
abbrev pub reason_text : Reason → List ℕ
reason_text Shape = codes "Shape"
reason_text UnknownName = codes "UnknownName"
reason_text NotNumber = codes "NotNumber"
reason_text OutOfRange = codes "OutOfRange"
reason_text UnknownNode = codes "UnknownNode"
reason_text BadChannel = codes "BadChannel"
reason_text Role = codes "Role"
reason_text Link = codes "Link"
reason_text NotHex = codes "NotHex"
reason_text Repeated = codes "Repeated"
