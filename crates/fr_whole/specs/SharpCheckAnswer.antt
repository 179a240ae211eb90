-- What a request for what the sharper theorem promises of a trace reads, and writes or says.
use Rattle.std.specs.Prelude.{◌≡◌, ◌⊎◌, ℕ, List, [], ◌∷◌, ◌++◌, codes, Option, Some, None}
use Rattle.std.specs.Fmt.{decimal}
use Rattle.fr_check.specs.UnlawfulText.{unlawful_text}
use Rattle.fr_cluster.specs.Values.{Values}
use Rattle.fr_params.specs.Files.{params_file}
use Rattle.fr_params.specs.Told.{params_says}
use Rattle.fr_program.specs.Command.{Command}
use Rattle.fr_text.specs.Files.{Files, file, text}
use Rattle.fr_trace.specs.Files.{trace_file}
use Rattle.fr_trace.specs.Told.{trace_says}
use Rattle.fr_trace.specs.Trace.{TraceView}
use Rattle.fr_trace.specs.declared.trace.TracedJoin.{TracedJoin}
use Rattle.fr_verdict.specs.OtherGaps.{IsOtherwiseCovered, IsRefusedOtherwise}
use Rattle.fr_verdict.specs.declared.unlawful.Unlawful.{Unlawful}
use Rattle.fr_whole.specs.SharpCheckText.{sharp_check_text}
use Rattle.fr_whole.specs.TracedFigures.{first_recorded_sharp, is_kind_beside, kind_of_trace, traced_figures_of}
use Rattle.fr_whole.specs.TracedMeaning.{AreTracedFigures, KeepsTracedSharply}

-- a trace that no node joins is lawful and has no gap but of the older checks, and this is the text of its figures, which mean what they
-- are called; and from its first double cycle in sharp sync on, if there is one, it keeps what is promised of its kind
pub record IsSharpCheckText (p : Values) (t : TraceView) (text : List ℕ) : Type 0 where
  pub covered : IsOtherwiseCovered p t
  pub none_joins : t.joins ≡ []
  pub shown : text ≡ sharp_check_text p t
  pub figures : AreTracedFigures p t (traced_figures_of p t)
  pub keeps :
      (double : ℕ) → first_recorded_sharp (is_kind_beside (kind_of_trace p t)) p t ≡ Some double
      → KeepsTracedSharply (is_kind_beside (kind_of_trace p t)) p t double

-- the first record that breaks a law, or else the first gap but of the older checks
pub record IsRefusalSaid (p : Values) (t : TraceView) (said : List ℕ) : Type 0 where
  pub why : Unlawful
  pub is : IsRefusedOtherwise p t why
  pub shown : said ≡ unlawful_text why

-- or else, of the nodes that join, the first
abbrev pub joined_text : ℕ → List ℕ
joined_text node = codes "trace: not covered join " ++ decimal node

-- what is found of these: none, or the first
abbrev pub IsJoinFound : List TracedJoin → Option ℕ → Type 0
IsJoinFound joins None = joins ≡ []
IsJoinFound joins (Some node) = (first : TracedJoin) × (others : List TracedJoin) × (joins ≡ first ∷ others) × (node ≡ first.node)

pub record IsJoinSaid (p : Values) (t : TraceView) (said : List ℕ) : Type 0 where
  pub covered : IsOtherwiseCovered p t
  pub first : TracedJoin
  pub others : List TracedJoin
  pub joins : t.joins ≡ first ∷ others
  pub shown : said ≡ joined_text first.node

abbrev pub IsSharpCheckSaid : Values → TraceView → List ℕ → Type 0
IsSharpCheckSaid p t said = IsRefusalSaid p t said ⊎ IsJoinSaid p t said

-- parameters, and a trace that is accepted against them
abbrev pub sharp_check_files : Files
sharp_check_files =
    file params_file params_says
    (λ (p : Values). file (trace_file p) trace_says (λ (t : TraceView). text (IsSharpCheckText p t) (IsSharpCheckSaid p t)))

abbrev pub sharp_check_command : List ℕ → List ℕ → Command
sharp_check_command params trace = record { names = params ∷ trace ∷ []; files = sharp_check_files }
