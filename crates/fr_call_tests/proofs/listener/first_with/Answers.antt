use Rattle.std.proofs.Common.{◌≡◌, true, refl, rules}
use mir.Val.{to_z, of_z}
use mir.Syntax.{w64}
use Rattle.std.proofs.lemmas.Int.{to_z-of_z}
use Rattle.std.specs.Prelude.{IsNone, option_and_then}
use Rattle.fr_node.specs.View.{NodeView}
use Rattle.fr_node.specs.Listening.{caught_of_listener, follower_by}
use Rattle.fr_reception.specs.Listening.{kept_if}
use Rattle.fr_call_tests.proofs.Following.{of_each}
use Rattle.fr_call_tests.proofs.listener.first_with.Goals as goal

pub returns-clause-between : goal.returns-clause-between
returns-clause-between c =
    let p = c.args.params.now in
    let l = c.args.listener.now in
    let even : to_z w64 (of_z w64 c.args.even) ≡ c.args.even = to_z-of_z w64 c.args.even (search rules) in
    let odd : to_z w64 (of_z w64 c.args.odd) ≡ c.args.odd = to_z-of_z w64 c.args.odd (search rules) in
    of_each (λ (node : NodeView). IsNone node.length) (follower_by p l.id 4) (option_and_then (kept_if p) (caught_of_listener l c.args.even c.args.odd)) c.first.result (rw (even, odd) at c.first.ensures.value) (λ caught. refl)

pub returns-clause-follows : goal.returns-clause-follows
returns-clause-follows c =
    let p = c.args.params.now in
    let l = c.args.listener.now in
    let even : to_z w64 (of_z w64 c.args.even) ≡ c.args.even = to_z-of_z w64 c.args.even (search rules) in
    let odd : to_z w64 (of_z w64 c.args.odd) ≡ c.args.odd = to_z-of_z w64 c.args.odd (search rules) in
    of_each (λ (node : NodeView). node.follows ≡ true) (follower_by p l.id 4) (option_and_then (kept_if p) (caught_of_listener l c.args.even c.args.odd)) c.first.result (rw (even, odd) at c.first.ensures.value) (λ caught. refl)

pub returns-clause-next : goal.returns-clause-next
returns-clause-next c =
    let p = c.args.params.now in
    let l = c.args.listener.now in
    let even : to_z w64 (of_z w64 c.args.even) ≡ c.args.even = to_z-of_z w64 c.args.even (search rules) in
    let odd : to_z w64 (of_z w64 c.args.odd) ≡ c.args.odd = to_z-of_z w64 c.args.odd (search rules) in
    of_each (λ (node : NodeView). node.cycle ≡ 4) (follower_by p l.id 4) (option_and_then (kept_if p) (caught_of_listener l c.args.even c.args.odd)) c.first.result (rw (even, odd) at c.first.ensures.value) (λ caught. refl)
