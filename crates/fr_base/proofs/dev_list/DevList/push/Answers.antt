-- A deviation after all others leaves the list in order.
use Rattle.std.proofs.Common.{All, subst, sym}
use Rattle.std.proofs.lemmas.List.Quantifiers.{all_pairs_push}
use Rattle.std.proofs.lemmas.List.Elements.{All-get_or}
use Rattle.fr_base.specs.declared.dev.Dev.{Dev}
use Rattle.fr_base.specs.Rows.{IsEarlierDev, Roomy}
use Rattle.fr_base.proofs.dev_list.DevList.push.Goals as goal

pub invariant_of-self : goal.invariant_of-self
invariant_of-self c =
    let P : Dev → Type 0 = λ earlier. IsEarlierDev earlier c.args.dev in
    let Q : Roomy → Type 0 = λ list. All P list.entries in
    let later : All P c.self.inside.devs.items = subst Q (sym c.self.view_is) c.requires.later in
    rw c.push_reserved.ensures.items (all_pairs_push IsEarlierDev c.self.inside.devs.items c.args.dev c.self.invariant (λ k d below. All-get_or P c.self.inside.devs.items k d below later))
