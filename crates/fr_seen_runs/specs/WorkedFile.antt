-- The file of the worked log that states nothing of sync: that of examples/observe.
use Rattle.std.specs.Prelude.{ℕ, List, ◌++◌, codes}

-- its bytes
abbrev pub seen_file : List ℕ
seen_file =
    codes "unit,40000,,,\n"
    ++ codes "drift,0,,,\n"
    ++ codes "delay,,,0,0\n"
    ++ codes "head,7000,A,3801006F00,\n"
    ++ codes "head,37062,A,380200E8C0,\n"
    ++ codes "head,5007000,A,3801006F01,\n"
    ++ codes "head,5037062,A,380200E8C1,\n"
    ++ codes "head,10007025,A,3801006F02,\n"
    ++ codes "head,10037037,A,380200E8C2,\n"
    ++ codes "head,15007025,A,3801006F03,\n"
    ++ codes "head,15037037,A,380200E8C3,\n"
