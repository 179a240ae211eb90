use Rattle.std.proofs.Common.{◌≡◌, ◌∙◌, ℕ, ◌+◌, ◌*◌, List, ◌++◌, None, Ok, ap, subst, sym}
use Rattle.std.specs.List.{flat_map}
use Rattle.std.specs.Option.{option_or}
use Rattle.fr_base.specs.Device.{Puts}
use Rattle.fr_observe.specs.Faults.{fault_row, first_of_faults}
use Rattle.fr_judging.specs.Knowing.{spread_told, standing_faults}
use Rattle.fr_judging.specs.Missing.{missed_told}
use Rattle.fr_judging.specs.declared.knowing.Standing.{Standing}
use Rattle.fr_observe.specs.Observing.{both_say, double_rows}
use Rattle.fr_observe.specs.declared.fault.Fault.{Fault}
use Rattle.fr_findings.specs.Ground.{basis_in, double_in, reach_passed, with_both, with_faults, with_own}
use Rattle.fr_findings.specs.declared.progress.Progress.{Progress}
use Rattle.fr_findings.specs.Verdict.{Basis, DoubleCycle, double_told, faults_told, known_told, over_row, over_told, own_told, progress_told, reach_told, standing_told}
use Rattle.fr_findings.proofs.Printing.{ended, first-of-all, more-cut, own-cut, rows-cut, whole-put}
use Rattle.fr_findings.proofs.writing.put_double.Goals as goal

-- what its nodes missed, and its own numbers
abbrev numbers_of : Basis → DoubleCycle → Standing → List ℕ
numbers_of b d st = missed_told b.params b.log b.scale d.number d.senders st ++ spread_told b.params b.log d.number st

pub returns-in_err-put_rows-clause-puts : goal.returns-in_err-put_rows-clause-puts
unfolding double_told faults_told
returns-in_err-put_rows-clause-puts g c =
    let b = basis_in c.args.ground.now in
    let d = double_in c.args.double.now in
    let p = c.args.progress.now in
    let k = c.args.ground.now.precision in
    let result = c.from_residual.result in
    let own : List Fault = own_told b d in
    let more : List Fault = known_told b d p.known in
    let numbers : List ℕ = numbers_of b d (standing_told b d p.known) in
    rows-cut (double_rows k b.scale d.number d.senders) own more numbers result c.in_err-put_rows.ensures c.from_residual.ensures.0

pub returns-in_err-put_own-clause-puts : goal.returns-in_err-put_own-clause-puts
unfolding double_told faults_told
returns-in_err-put_own-clause-puts g c =
    let b = basis_in c.args.ground.now in
    let d = double_in c.args.double.now in
    let p = c.args.progress.now in
    let k = c.args.ground.now.precision in
    let result = c.from_residual-in_err-put_own.result in
    let own : List Fault = own_told b d in
    let more : List Fault = known_told b d p.known in
    let numbers : List ℕ = numbers_of b d (standing_told b d p.known) in
    own-cut (double_rows k b.scale d.number d.senders) own more numbers result c.in_ok-put_rows.ensures c.in_err-put_own.ensures.puts
    c.from_residual-in_err-put_own.ensures.0

pub returns-in_err-put_faults-clause-puts : goal.returns-in_err-put_faults-clause-puts
unfolding double_told faults_told
returns-in_err-put_faults-clause-puts g c =
    let b = basis_in c.args.ground.now in
    let d = double_in c.args.double.now in
    let p = c.args.progress.now in
    let k = c.args.ground.now.precision in
    let result = c.from_residual-in_err-put_faults.result in
    let own : List Fault = own_told b d in
    let more : List Fault = known_told b d p.known in
    let numbers : List ℕ = numbers_of b d (standing_told b d p.known) in
    more-cut (double_rows k b.scale d.number d.senders) own more numbers result c.in_ok-put_rows.ensures c.in_ok-put_own.ensures.puts c.in_err-put_faults.ensures.puts
    c.from_residual-in_err-put_faults.ensures.0

pub returns-in_err-put_numbers-clause-puts : goal.returns-in_err-put_numbers-clause-puts
unfolding double_told faults_told
returns-in_err-put_numbers-clause-puts g c =
    let b = basis_in c.args.ground.now in
    let d = double_in c.args.double.now in
    let p = c.args.progress.now in
    let k = c.args.ground.now.precision in
    let result = c.from_residual-in_err-put_numbers.result in
    let own : List Fault = own_told b d in
    let more : List Fault = known_told b d p.known in
    let numbers : List ℕ = numbers_of b d c.standing_of-standing.result in
    subst (Puts result (g.O.Sink.state c.args.out.now) (g.O.Sink.state c.put_numbers.new.out))
    (λ i. double_rows k b.scale d.number d.senders ++ (flat_map fault_row (own ++ more) ++ numbers_of b d (c.standing_of-standing.ensures.value i)))
    (whole-put (double_rows k b.scale d.number d.senders) own more numbers result c.in_ok-put_rows.ensures c.in_ok-put_own.ensures.puts c.in_ok-put_faults.ensures.puts
    (ended {text = numbers} result c.in_err-put_numbers.ensures c.from_residual-in_err-put_numbers.ensures.0))

pub returns-clause-puts : goal.returns-clause-puts
unfolding double_told faults_told
returns-clause-puts g c =
    let b = basis_in c.args.ground.now in
    let d = double_in c.args.double.now in
    let p = c.args.progress.now in
    let k = c.args.ground.now.precision in
    let own : List Fault = own_told b d in
    let more : List Fault = known_told b d p.known in
    let numbers : List ℕ = numbers_of b d c.standing_of-standing.result in
    subst (Puts (Ok tt) (g.O.Sink.state c.args.out.now) (g.O.Sink.state c.put_numbers.new.out))
    (λ i. double_rows k b.scale d.number d.senders ++ (flat_map fault_row (own ++ more) ++ numbers_of b d (c.standing_of-standing.ensures.value i)))
    (whole-put (double_rows k b.scale d.number d.senders) own more numbers (Ok tt) c.in_ok-put_rows.ensures c.in_ok-put_own.ensures.puts c.in_ok-put_faults.ensures.puts
    c.in_ok-put_numbers.ensures)

-- the first fault that contradicts its numbers is the first of those that it stands for
pub put_numbers-requires-clause-against : goal.put_numbers-requires-clause-against
unfolding known_told
put_numbers-requires-clause-against g c =
    let b = basis_in c.args.ground.now in
    let d = double_in c.args.double.now in
    ap (λ (p : Progress). p.first) c.in_ok-put_faults.ensures.progress
    ∙ (
    λ i. first_of_faults
    (standing_faults b.params b.scale b.log b.span d.before d.here d.number d.senders (sym c.standing_of-standing.ensures.value i))
    )

pub returns-clause-progress : goal.returns-clause-progress
unfolding progress_told faults_told both_say
returns-clause-progress g c =
    let b = basis_in c.args.ground.now in
    let d = double_in c.args.double.now in
    let p = c.args.progress.now in
    let own : c.put_own.new.first ≡ first_of_faults (own_told b d) = c.in_ok-put_own.ensures.first in
    let earlier : c.earlier-first.result ≡ option_or p.first (first_of_faults (own_told b d)) = c.earlier-first.ensures ∙ ap (option_or p.first) own in
    let faults_are : c.put_faults.new.progress ≡ with_faults b d (record p { first = None }) = c.in_ok-put_faults.ensures.progress in
    let all : c.earlier-progress.result ≡ option_or (option_or p.first (first_of_faults (own_told b d))) (first_of_faults (known_told b d p.known)) =
    c.earlier-progress.ensures ∙ (λ i. option_or (earlier i) (faults_are i).first) in
    let passed : record c.put_faults.new.progress { first = c.earlier-progress.result } ≡ with_faults b d (with_own b d p) =
    (λ i. record (faults_are i) { first = all i }) in
    let standing : c.standing_of-standing.result ≡ standing_told b d p.known = c.standing_of-standing.ensures.value in
    let reach : c.reach_passed-reach.result ≡ reach_told b d p =
    c.reach_passed-reach.ensures
    ∙ (λ i. reach_passed (passed i) d.number (standing i).is_judged (c.both_say-said.ensures.even i) (c.both_say-said.ensures.odd i)) in
    let over : c.first_over-over.result ≡ over_told b d =
    c.first_over-over.ensures
    ∙ (
    λ i. option_or (over_row (2 * d.number) (c.requires.double.skews.even_low i) (c.both_say-said.ensures.even i))
    (over_row (2 * d.number + 1) (c.requires.double.skews.odd_low i) (c.both_say-said.ensures.odd i))
    ) in
    let first : option_or (option_or p.first (first_of_faults (own_told b d))) (first_of_faults (known_told b d p.known)) ≡ option_or p.first (first_of_faults (faults_told b d p.known)) =
    first-of-all p.first (own_told b d) (known_told b d p.known) in
    c.pass.ensures
    ∙ (λ i. with_both (passed i) d.number (standing i).is_judged (c.both_say-said.ensures.even i) (c.both_say-said.ensures.odd i) (reach i) (over i))
    ∙ (λ i. record (progress_told b d p) { first = first i })
