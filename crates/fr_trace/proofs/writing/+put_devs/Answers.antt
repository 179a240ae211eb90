use Rattle.std.proofs.Common.{◌≡◌, ◌<◌, ℕ, List, [], ◌∷◌, ◌++◌, Ok, ap, sym, ◌∙◌, subst, rules}
use Rattle.fr_base.specs.Device.{Puts}
use Rattle.fr_base.specs.Rows.{AreAscendingDevs, IsEarlierDev}
use Rattle.fr_base.proofs.Putting.{cut, puts_none, then}
use Rattle.fr_trace.specs.Text.{devs_text}
use Rattle.fr_trace.proofs.Lines.{all-later, dev-own, devs-first, devs-later}
use Rattle.fr_trace.proofs.Nodes.{pairs-rest}
use Rattle.fr_trace.proofs.writing.+put_devs.Goals as goal

pub returns-then-node-dev : goal.returns-then-node-dev
returns-then-node-dev g t c = λ cycle front ascend.
    let dev = c.in-Some.dev.now in
    let rest = c.in-Some.rest.now in
    let parts : dev ∷ rest ≡ c.args.devs.now = search rules in
    let less : c.args.node < dev.receiver = search rules in
    let none : devs_text cycle c.args.node c.args.devs.now ≡ [] =
    ap (devs_text cycle c.args.node) (sym parts)
    ∙ devs-later cycle c.args.node (dev ∷ rest) (all-later c.args.node dev rest (subst AreAscendingDevs (sym parts) ascend) less) in
    let a = g.O.Sink.state c.args.out.now in
    let P : List ℕ → Type 0 = λ l. Puts (Ok tt) a a l in
    subst P (sym none) (puts_none a)

pub returns-in_err-put_dev-in-Some : goal.returns-in_err-put_dev-in-Some
returns-in_err-put_dev-in-Some g t c = λ cycle front ascend.
    let parts : c.in-Some.dev.now ∷ c.in-Some.rest.now ≡ c.args.devs.now = search rules in
    let text =
    ap (λ (l : List ℕ). l ++ devs_text cycle c.args.node c.in-Some.rest.now) (dev-own cycle c.args.node c.args.front.now c.in-Some.dev.now front)
    ∙ devs-first cycle c.args.node c.in-Some.dev.now c.in-Some.rest.now ∙ ap (devs_text cycle c.args.node) parts in
    rw (← text) (cut _ _ c.in_err-put_dev-in-Some.ensures c.from_residual.ensures.0)

pub returns-in_ok-put_dev-in-Some : goal.returns-in_ok-put_dev-in-Some
returns-in_ok-put_dev-in-Some g t c = λ cycle front ascend.
    let parts : c.in-Some.dev.now ∷ c.in-Some.rest.now ≡ c.args.devs.now = search rules in
    let text =
    ap (λ (l : List ℕ). l ++ devs_text cycle c.args.node c.in-Some.rest.now) (dev-own cycle c.args.node c.args.front.now c.in-Some.dev.now front)
    ∙ devs-first cycle c.args.node c.in-Some.dev.now c.in-Some.rest.now ∙ ap (devs_text cycle c.args.node) parts in
    let rest : AreAscendingDevs c.in-Some.rest.now = pairs-rest IsEarlierDev c.in-Some.dev.now c.in-Some.rest.now (subst AreAscendingDevs (sym parts) ascend) in
    rw (← text) (then _ c.in_ok-put_dev-in-Some.ensures (c.put_devs.ensures cycle front rest))
