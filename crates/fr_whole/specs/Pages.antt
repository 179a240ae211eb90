-- What the program says of itself: the words of its requests, and its version. No file is asked for.
use Rattle.std.specs.Prelude.{◌≡◌, ℕ, List, [], ◌∷◌, ◌++◌, codes, Option, Some, None}
use Rattle.fr_program.specs.Command.{Command}
use Rattle.fr_text.specs.Files.{IsNeverSaid, text}
use Rattle.fr_whole.specs.declared.pages.Page.{Page}
use Rattle.fr_whole.specs.declared.pages.Page.TheVariants.{Help, Version}

-- ---- the texts

-- the words of all requests but these pages, with what a caller gives in capitals, and what each is for; but for the last line feed
unfoldable pub help_lines : List ℕ
help_lines =
    codes "usage: flexray COMMAND WORDS\n\n"
    ++ codes "  flexray bound PARAMS               the classical precision, three more bounds, and the five checks of a cluster\n"
    ++ codes "  flexray bound PARAMS join          the classical bounds, and the reach and four checks of a cluster that nodes join\n"
    ++ codes "  flexray bound PARAMS sharp FLUTTER\n"
    ++ codes "                                     the sharper bounds and checks, where delays flutter by at most so many ticks\n"
    ++ codes "  flexray bound PARAMS sharp FLUTTER join\n"
    ++ codes "                                     the sharper bounds, and the reach and checks of a cluster that nodes join\n"
    ++ codes "  flexray bound PARAMS sharp FLUTTER lost COUNT\n"
    ++ codes "                                     how far clocks come apart if any frames are lost in COUNT double cycles in a row\n"
    ++ codes "  flexray upgrade PARAMS             the parameters as a file of version 2: one compensation per channel\n"
    ++ codes "  flexray settle PARAMS START RATE   how many double cycles until in sync at most, from START and RATE in ticks\n"
    ++ codes "  flexray settle PARAMS START RATE sharp FLUTTER\n"
    ++ codes "                                     how many double cycles it takes at most to be in sharp sync\n"
    ++ codes "  flexray settle PARAMS power FLUTTER\n"
    ++ codes "                                     how long from the first power-on to sharp sync, if all others join the leader\n"
    ++ codes "  flexray run PARAMS DRIFT SCRIPT    the report of a run\n"
    ++ codes "  flexray run PARAMS DRIFT SCRIPT sharp\n"
    ++ codes "                                     what the sharper bounds say of a run, and behind it the report\n"
    ++ codes "  flexray trace PARAMS DRIFT SCRIPT  what each node did and measured, cycle by cycle\n"
    ++ codes "  flexray check PARAMS TRACE         whether a recorded trace is lawful and covered, or why not\n"
    ++ codes "  flexray check PARAMS TRACE sharp   what the sharper bounds promise of a recorded trace\n"
    ++ codes "  flexray observe PARAMS LOG         what the stamps of a bus analyzer tell for certain of a cluster's clocks\n"
    ++ codes "  flexray make SEED DOUBLES          the report of a cluster of eight nodes that is made from a seed\n"
    ++ codes "  flexray cold PARAMS POWER          who leads the startup of a cluster, and from when on\n"
    ++ codes "  flexray frame A|B FILE             the frame that the bytes of the file are, or its first fault\n"
    ++ codes "  flexray capture A|B FILE           the frames of a recording, up to the first fault\n"
    ++ codes "  flexray nm WIDTH FILE              the network management vectors of a recording, cycle by cycle\n\n"
    ++ codes "A microtick has 1000000 ticks. The manual page flexray(1) has the words, docs/FORMATS.md the files, the texts and the exit\n"
    ++ codes "statuses; flexlab does it in nanoseconds and ppm, and flexlab explain WORDS says why a file is refused."

unfoldable pub help_text : List ℕ
help_text = help_lines ++ codes "\n"

unfoldable pub version_text : List ℕ
version_text = codes "flexray 0.2.0" ++ codes "\n"

abbrev pub page_text : Page → List ℕ
page_text Help = help_text
page_text Version = version_text

-- ---- the words

-- the words ask for this page: one word alone
abbrev pub AsksPage : List (List ℕ) → Page → Type 0
AsksPage words Help = words ≡ codes "help" ∷ []
AsksPage words Version = words ≡ codes "version" ∷ []

abbrev pub IsNoPage : List (List ℕ) → Type 0
IsNoPage words = (page : Page) → AsksPage words page → ⊥

-- what words are read as: the page that they ask for, or none
abbrev pub IsPageRequest : List (List ℕ) → Option Page → Type 0
IsPageRequest words None = IsNoPage words
IsPageRequest words (Some page) = AsksPage words page

-- a request for one reads no file
abbrev pub page_command : Page → Command
page_command page = record { names = []; files = text (λ (written : List ℕ). written ≡ page_text page) IsNeverSaid }
