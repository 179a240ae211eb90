-- What the words of `flexray` ask for.
use Rattle.std.specs.Prelude.{◌≡◌, ℕ, ◌≤◌, List, [], ◌∷◌, codes, Option, Some, None, Ok}
use Rattle.fr_base.specs.Channels.{letter}
use Rattle.fr_base.specs.declared.channel.Channel.{Channel}
use Rattle.fr_bound.specs.Settling.{most_stated}
use Rattle.fr_generator.specs.Generated.{IsMadeCount}
use Rattle.fr_text.specs.Fields.{natural_of}
use Rattle.fr_answer.specs.declared.request.Request.{Request}
use Rattle.fr_report.specs.Names.{RunNames, run_names_of}
use Rattle.fr_answer.specs.declared.request.Request.TheVariants.{Frame, Bound, BoundJoin, BoundSharp, BoundSharpJoin, BoundLost, Upgrade, Settle, SettleSharp, Run, Capture, Nm, Cold, Make, Trace, Check}

-- decode the bytes of the file as a frame on the channel; print the bounds and checks of the parameters in the file;
-- print these and those of a cluster that nodes join; print the sharper ones where delays flutter by no more than so many
-- ticks, of each cluster, or these and those of one that nodes join; print what it costs where any frames may be lost in so many
-- double cycles in a row and delays flutter so; print the parameters as a file of version 2; print how long
-- clocks that begin so far apart take until they are in sync, or in sharp sync where delays flutter by no more than so many ticks;
-- run the cluster that the files decide, or the cluster of a seed over so many double cycles, and print the report; list the frames
-- of the recording in the file; print the network management vectors of the recording in the file, of so many bytes; print who
-- leads the startup that the files decide; print the trace of the run that the files decide; say whether a recorded trace is that
-- of a lawful and covered run
pub data Asked : Type 0 where
  frame : (channel : Channel) (file : List ℕ) → Asked
  bound : (file : List ℕ) → Asked
  bound_join : (file : List ℕ) → Asked
  bound_sharp : (file : List ℕ) (flutter : ℕ) → Asked
  bound_sharp_join : (file : List ℕ) (flutter : ℕ) → Asked
  bound_lost : (file : List ℕ) (flutter count : ℕ) → Asked
  upgrade : (file : List ℕ) → Asked
  settle : (file : List ℕ) (start rate : ℕ) → Asked
  settle_sharp : (file : List ℕ) (start rate flutter : ℕ) → Asked
  run : (names : RunNames) → Asked
  make : (seed doubles : ℕ) → Asked
  capture : (channel : Channel) (file : List ℕ) → Asked
  nm : (width : ℕ) (file : List ℕ) → Asked
  cold : (params power : List ℕ) → Asked
  trace : (names : RunNames) → Asked
  check : (params recorded : List ℕ) → Asked

-- the greatest flutter of delays that may be stated, in ticks: twice the greatest delay error
abbrev pub most_stated_flutter : ℕ
most_stated_flutter = 20_000_000

-- `bound PARAMS sharp FLUTTER`, with a number of ticks
pub record AsksBoundSharp (words : List (List ℕ)) (file : List ℕ) (flutter : ℕ) : Type 0 where
  pub flutter_text : List ℕ
  pub spelt : words ≡ codes "bound" ∷ file ∷ codes "sharp" ∷ flutter_text ∷ []
  pub flutter_is : natural_of 0 most_stated_flutter flutter_text ≡ Ok flutter

-- `bound PARAMS sharp FLUTTER join`, with a number of ticks
pub record AsksBoundSharpJoin (words : List (List ℕ)) (file : List ℕ) (flutter : ℕ) : Type 0 where
  pub flutter_text : List ℕ
  pub spelt : words ≡ codes "bound" ∷ file ∷ codes "sharp" ∷ flutter_text ∷ codes "join" ∷ []
  pub flutter_is : natural_of 0 most_stated_flutter flutter_text ≡ Ok flutter

-- the greatest number of double cycles in a row that may be stated
abbrev pub most_stated_lost : ℕ
most_stated_lost = 1_000

-- `bound PARAMS sharp FLUTTER lost COUNT`, with a number of ticks and one of double cycles
pub record AsksBoundLost (words : List (List ℕ)) (file : List ℕ) (flutter count : ℕ) : Type 0 where
  pub flutter_text : List ℕ
  pub count_text : List ℕ
  pub spelt : words ≡ codes "bound" ∷ file ∷ codes "sharp" ∷ flutter_text ∷ codes "lost" ∷ count_text ∷ []
  pub flutter_is : natural_of 0 most_stated_flutter flutter_text ≡ Ok flutter
  pub count_is : natural_of 1 most_stated_lost count_text ≡ Ok count

-- `settle PARAMS START RATE`, with two numbers of ticks
pub record AsksSettle (words : List (List ℕ)) (file : List ℕ) (start rate : ℕ) : Type 0 where
  pub start_text : List ℕ
  pub rate_text : List ℕ
  pub spelt : words ≡ codes "settle" ∷ file ∷ start_text ∷ rate_text ∷ []
  pub start_is : natural_of 0 most_stated start_text ≡ Ok start
  pub rate_is : natural_of 0 most_stated rate_text ≡ Ok rate

-- `settle PARAMS START RATE sharp FLUTTER`, with three numbers of ticks
pub record AsksSettleSharp (words : List (List ℕ)) (file : List ℕ) (start rate flutter : ℕ) : Type 0 where
  pub start_text : List ℕ
  pub rate_text : List ℕ
  pub flutter_text : List ℕ
  pub spelt : words ≡ codes "settle" ∷ file ∷ start_text ∷ rate_text ∷ codes "sharp" ∷ flutter_text ∷ []
  pub start_is : natural_of 0 most_stated start_text ≡ Ok start
  pub rate_is : natural_of 0 most_stated rate_text ≡ Ok rate
  pub flutter_is : natural_of 0 most_stated_flutter flutter_text ≡ Ok flutter

-- `make SEED DOUBLES`, with two numbers
pub record AsksMake (words : List (List ℕ)) (seed doubles : ℕ) : Type 0 where
  pub seed_text : List ℕ
  pub doubles_text : List ℕ
  pub spelt : words ≡ codes "make" ∷ seed_text ∷ doubles_text ∷ []
  pub seed_is : natural_of 0 4_294_967_295 seed_text ≡ Ok seed
  pub doubles_is : natural_of 1 10_000 doubles_text ≡ Ok doubles

-- `nm WIDTH FILE`, with a number of bytes
pub record AsksNm (words : List (List ℕ)) (width : ℕ) (file : List ℕ) : Type 0 where
  pub width_text : List ℕ
  pub spelt : words ≡ codes "nm" ∷ width_text ∷ file ∷ []
  pub width_is : natural_of 1 12 width_text ≡ Ok width

-- the words ask for this: `frame A FILE` or `frame B FILE`; `bound PARAMS`; `bound PARAMS join`; `bound
-- PARAMS sharp FLUTTER`; `bound PARAMS sharp FLUTTER join`; `bound PARAMS sharp FLUTTER lost COUNT`; `upgrade PARAMS`; `settle PARAMS START RATE`; `settle PARAMS START RATE
-- sharp FLUTTER`; `run PARAMS DRIFT SCRIPT`; `make SEED DOUBLES`; `trace PARAMS DRIFT SCRIPT`; `capture A FILE` or `capture B FILE`;
-- `nm WIDTH FILE`; `cold PARAMS POWER`; `check PARAMS TRACE`
abbrev pub AsksFor : List (List ℕ) → Asked → Type 0
AsksFor words (frame channel file) = words ≡ codes "frame" ∷ letter channel ∷ file ∷ []
AsksFor words (bound file) = words ≡ codes "bound" ∷ file ∷ []
AsksFor words (bound_join file) = words ≡ codes "bound" ∷ file ∷ codes "join" ∷ []
AsksFor words (bound_sharp file flutter) = AsksBoundSharp words file flutter
AsksFor words (bound_sharp_join file flutter) = AsksBoundSharpJoin words file flutter
AsksFor words (bound_lost file flutter count) = AsksBoundLost words file flutter count
AsksFor words (upgrade file) = words ≡ codes "upgrade" ∷ file ∷ []
AsksFor words (settle file start rate) = AsksSettle words file start rate
AsksFor words (settle_sharp file start rate flutter) = AsksSettleSharp words file start rate flutter
AsksFor words (run names) = words ≡ codes "run" ∷ names.params ∷ names.drift ∷ names.script ∷ []
AsksFor words (make seed doubles) = AsksMake words seed doubles
AsksFor words (capture channel file) = words ≡ codes "capture" ∷ letter channel ∷ file ∷ []
AsksFor words (nm width file) = AsksNm words width file
AsksFor words (cold params power) = words ≡ codes "cold" ∷ params ∷ power ∷ []
AsksFor words (trace names) = words ≡ codes "trace" ∷ names.params ∷ names.drift ∷ names.script ∷ []
AsksFor words (check params recorded) = words ≡ codes "check" ∷ params ∷ recorded ∷ []

-- what a request asks for
abbrev pub asked_of : Request → Asked
asked_of (Frame channel file) = frame channel file.now
asked_of (Bound file) = bound file.now
asked_of (BoundJoin file) = bound_join file.now
asked_of (BoundSharp file flutter) = bound_sharp file.now flutter
asked_of (BoundSharpJoin file flutter) = bound_sharp_join file.now flutter
asked_of (BoundLost file flutter count) = bound_lost file.now flutter count
asked_of (Upgrade file) = upgrade file.now
asked_of (Settle file start rate) = settle file.now start rate
asked_of (SettleSharp file start rate flutter) = settle_sharp file.now start rate flutter
asked_of (Run files) = run (run_names_of files)
asked_of (Make seed doubles) = make seed doubles
asked_of (Capture channel file) = capture channel file.now
asked_of (Nm width file) = nm width file.now
asked_of (Cold files) = cold files.params.now files.power.now
asked_of (Trace files) = trace (run_names_of files)
asked_of (Check files) = check files.params.now files.trace.now

-- what words are read as: a request that asks for what they ask for, or none
abbrev pub IsRequestOf : List (List ℕ) → Option Request → Type 0
IsRequestOf words None = (asked : Asked) → AsksFor words asked → ⊥
IsRequestOf words (Some request) = AsksFor words (asked_of request)

-- its numbers lie in their ranges
abbrev pub IsInRange : Request → Type 0
IsInRange (BoundSharp file flutter) = flutter ≤ most_stated_flutter
IsInRange (BoundSharpJoin file flutter) = flutter ≤ most_stated_flutter
IsInRange (BoundLost file flutter count) = (flutter ≤ most_stated_flutter) × (1 ≤ count) × (count ≤ most_stated_lost)
IsInRange (Settle file start rate) = (start ≤ most_stated) × (rate ≤ most_stated)
IsInRange (SettleSharp file start rate flutter) = (start ≤ most_stated) × (rate ≤ most_stated) × (flutter ≤ most_stated_flutter)
IsInRange (Make seed doubles) = IsMadeCount doubles
IsInRange (Nm width file) = (1 ≤ width) × (width ≤ 12)
IsInRange other = Unit {0}
