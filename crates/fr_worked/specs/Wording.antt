-- The lines of a report, word for word, around the numbers in which worked runs differ, as they are printed. They are written here
-- once more, and cite none of the definitions of the report itself: so these are held to what stands here.
use Rattle.std.specs.Prelude.{ℕ, List, ◌++◌, codes}

-- how many nodes, sync nodes, arbitrary nodes and double cycles there are
abbrev pub says_nodes : List ℕ → List ℕ → List ℕ → List ℕ → List ℕ
says_nodes nodes sync arbitrary doubles =
    codes "nodes " ++ nodes ++ codes " sync " ++ sync ++ codes " arbitrary " ++ arbitrary ++ codes " doubles " ++ doubles ++ codes "\n"

-- the precision in ticks
abbrev pub says_precision : List ℕ → List ℕ
says_precision ticks = codes "precision " ++ ticks ++ codes "\n"

-- whether the run is covered, or what keeps it from that
abbrev pub says_covered : List ℕ → List ℕ
says_covered answer = codes "covered " ++ answer ++ codes "\n"

-- the first double cycle in sync
abbrev pub says_sync : List ℕ → List ℕ
says_sync double = codes "in sync " ++ double ++ codes "\n"

-- the greatest skew in ticks, and its first place
abbrev pub says_skew : List ℕ → List ℕ → List ℕ → List ℕ
says_skew ticks cycle macrotick = codes "greatest skew " ++ ticks ++ codes " cycle " ++ cycle ++ codes " macrotick " ++ macrotick ++ codes "\n"

-- the frames that are sent on a channel, and the sum without carry of their frame CRCs
abbrev pub says_sent : List ℕ → List ℕ → List ℕ → List ℕ
says_sent letter frames crcs = codes "sent " ++ letter ++ codes " " ++ frames ++ codes " xor " ++ crcs ++ codes "\n"

-- how many frames are stored and how many are damaged; no worked run has any that is ignored for another reason
abbrev pub says_heard : List ℕ → List ℕ → List ℕ
says_heard stored damaged =
    codes "heard stored " ++ stored ++ codes " outside 0 damaged " ++ damaged ++ codes " id 0 cycle 0 length 0 plain 0\n"

-- how many correction terms are cut
abbrev pub says_cut : List ℕ → List ℕ
says_cut terms = codes "cut " ++ terms ++ codes "\n"

-- an active node: its next start in ticks, its rate term and its last offset term in microticks
abbrev pub says_node : List ℕ → List ℕ → List ℕ → List ℕ → List ℕ
says_node node start rate offset =
    codes "node " ++ node ++ codes " active next " ++ start ++ codes " rate " ++ rate ++ codes " offset " ++ offset ++ codes "\n"
