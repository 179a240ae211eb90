use Rattle.std.proofs.Common.{◌≡◌, ◌∙◌, ℕ, ◌-◌, Bool, true, false, is_none, length, ap, sym, arith, rules}
use Rattle.std.specs.List.{find, range_with_len}
use Rattle.fr_judging.specs.Missing.{unlike_term}
use Rattle.fr_judging.proofs.Least.{least-here, least-later, least-none}
use Rattle.fr_judging.proofs.missed.least_missed.Goals as goal

pub loop-lost-init : goal.loop-lost-init
loop-lost-init c =
    let s = c.args.scene.now in
    let senders = s.senders.now in
    let all : length senders - 0 ≡ length senders = omega arith in
    ap (λ (n : ℕ). find (λ lost. is_none (unlike_term c.args.term s.params.now s.log.now s.scale.now s.number senders c.args.sender.now lost)) (range_with_len 0 n)) all

pub loop-lost-preserved : goal.loop-lost-preserved
loop-lost-preserved c =
    let s = c.args.scene.now in
    let senders = s.senders.now in
    let test : ℕ → Bool = λ lost. is_none (unlike_term c.args.term s.params.now s.log.now s.scale.now s.number senders c.args.sender.now lost) in
    let none : c.is_none.result ≡ is_none c.unlike_term.result = search rules in
    let no : test c.loop-lost.lost ≡ false = sym (none ∙ ap is_none c.unlike_term.ensures) ∙ c.if-is_none.false in
    least-later test c.loop-lost.lost (length senders) (omega arith) no ∙ c.loop-lost.invariant

pub returns-then-is_none : goal.returns-then-is_none
returns-then-is_none c =
    let s = c.args.scene.now in
    let senders = s.senders.now in
    let test : ℕ → Bool = λ lost. is_none (unlike_term c.args.term s.params.now s.log.now s.scale.now s.number senders c.args.sender.now lost) in
    let none : c.is_none.result ≡ is_none c.unlike_term.result = search rules in
    let yes : test c.loop-lost.lost ≡ true = sym (none ∙ ap is_none c.unlike_term.ensures) ∙ c.if-is_none.true in
    least-here test c.loop-lost.lost (length senders) (omega arith) yes ∙ c.loop-lost.invariant

pub returns : goal.returns
returns c =
    let s = c.args.scene.now in
    let senders = s.senders.now in
    let test : ℕ → Bool = λ lost. is_none (unlike_term c.args.term s.params.now s.log.now s.scale.now s.number senders c.args.sender.now lost) in
    least-none test c.loop-lost.lost (length senders) (omega arith) ∙ c.loop-lost.invariant
