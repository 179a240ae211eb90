-- The report ends with a line feed.
use Rattle.std.proofs.Common.{ℕ, List, Option, [], ◌∷◌, ◌++◌, refl, append_assoc, append-nil}
use Rattle.std.specs.List.{flat_map}
use Rattle.std.specs.Option.{option_map}
use Rattle.fr_base.specs.declared.channel.Channel.TheVariants.{A, B}
use Rattle.fr_coverage.specs.declared.gap.Gap.{Gap}
use Rattle.fr_cluster.specs.Setting.{Setting}
use Rattle.fr_history.specs.Cycles.{Cycles}
use Rattle.fr_coverage.specs.Phrases.{precision_text, sync_text}
use Rattle.fr_lines.specs.Text.{node_text, covered_text, cut_text, heard_text, nodes_text, greatest_line, report_of, sent_text, told_text, told_lines}
use Rattle.fr_lines.specs.Told.{run_told}
use Rattle.fr_lines.specs.declared.told.Told.{Told}
use Rattle.fr_base.specs.Device.{IsEnded}
use Rattle.fr_text.specs.Lines.{shown}
use Rattle.fr_text.specs.Pieces.{line}

-- a line after a text ends it
ended_by : (front text : List ℕ) → IsEnded (front ++ line text)
ended_by front text = record { front = front ++ text; ended = Prim.rw append_assoc refl }

-- with lines after it, a text still ends with a line feed
ended_before : {X : Type 0} (text_of : X → List ℕ) (text : List ℕ) (xs : List X) → IsEnded text → IsEnded (text ++ flat_map (λ x. line (text_of x)) xs)
ended_before text_of text [] ended = Prim.rw append-nil ended
ended_before text_of text (x ∷ xs) ended =
    Prim.rw (← append_assoc) (ended_before text_of (text ++ line (text_of x)) xs (ended_by text (text_of x)))

run_ended : (told : Told) → IsEnded (told_lines told)
unfolding told_lines
run_ended told =
    ended_by
    (line (nodes_text told)
    ++ line (precision_text told.precision)
    ++ line (covered_text told.gap)
    ++ line (sync_text told.synced)
    ++ shown (option_map greatest_line told.greatest)
    ++ line (sent_text A told.sums.sent_a told.sums.xor_a)
    ++ line (sent_text B told.sums.sent_b told.sums.xor_b)
    ++ line (heard_text told.sums))
    (cut_text told.cut)

pub report_ended : (x : Setting) (gap : Option Gap) (h : Cycles) → IsEnded (report_of x gap h)
unfolding report_of told_text
report_ended x gap h = ended_before node_text (told_lines (run_told x gap h)) (run_told x gap h).clocks (run_ended (run_told x gap h))
