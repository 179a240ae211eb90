use Rattle.std.proofs.Common.{◌≡◌, ◌++◌, ℕ, List, ap, ap₂, rules}
use Rattle.fr_text.specs.Lines.{shown}
use Rattle.fr_text.specs.Pieces.{line}
use Rattle.fr_whole.specs.SharpReport.{precision_told, sharp_lines_of}
use Rattle.fr_whole.proofs.report_lines.sharp_report_lines.Goals as goal

-- a text and one behind it, by what both are
behind : {a x b y : List ℕ} → a ≡ x → b ≡ y → a ++ b ≡ x ++ y
behind one other = ap₂ (λ (l m : List ℕ). l ++ m) one other

pub returns : goal.returns
unfolding sharp_lines_of
returns c =
    let b = c.args.basis.now in
    let precision : c.precision_line.result ≡ line (precision_told b.precision b.beside) = search rules in
    let one = behind c.flutter_line.ensures precision in
    let covered = behind one (ap shown c.covered_line.ensures) in
    let second = behind covered (ap shown c.gap_shown.ensures) in
    let third = behind second (ap shown c.gap_shown-2.ensures) in
    let fourth = behind third (ap shown c.gap_shown-3.ensures) in
    let fifth = behind fourth (ap shown c.gap_shown-4.ensures) in
    let sixth = behind fifth (ap shown c.gap_shown-5.ensures) in
    let seventh = behind sixth (ap shown c.gap_shown-6.ensures) in
    let eighth = behind seventh (ap shown c.gap_shown-7.ensures) in
    let ninth = behind eighth (ap shown c.gap_shown-8.ensures) in
    let count = behind ninth (ap shown c.gap_shown-9.ensures) in
    let lengths = behind count (ap shown c.gap_shown-10.ensures) in
    let changes = behind lengths (ap shown c.gap_shown-11.ensures) in
    let delays = behind changes (ap shown c.gap_shown-12.ensures) in
    let links = behind delays (ap shown c.gap_shown-13.ensures) in
    let synced = behind links c.synced_line.ensures in
    let greatest = behind synced (ap shown c.greatest_line.ensures) in
    let within = behind greatest c.within_line.ensures in
    behind within c.lost_line.ensures
