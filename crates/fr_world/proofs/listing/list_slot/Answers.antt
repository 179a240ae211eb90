use Rattle.std.proofs.Common.{arith, ◌++◌, List, ◌∙◌, pos, ap, sym, subst}
use Rattle.std.specs.Prelude.{All}
use Rattle.fr_base.specs.Rows.{IsEarlierDev}
use Rattle.fr_base.specs.declared.channel.Channel.TheVariants.{B}
use Rattle.fr_base.specs.declared.dev.Dev.{Dev}
use Rattle.fr_world.proofs.Sweeps.{both-channels, later-b}
use Rattle.fr_base.specs.Rows.{dev_with}
use Rattle.fr_air.specs.Listing.{listed_at}
use Rattle.fr_world.proofs.listing.list_slot.Goals as goal

pub list_at-requires-2 : goal.list_at-requires-2
list_at-requires-2 c =
    let a = c.args in
    let P : List Dev → Type 0 = All (λ earlier. IsEarlierDev earlier (dev_with a.node.now.id a.slot B (pos 0))) in record {
      room = omega (arith, c.list_at.ensures.room, c.requires.room);
      later = subst P (sym c.list_at.ensures.entries_are) (later-b a.params.now a.odd a.node.now a.slot a.devs.now.entries c.requires.later);
    }

pub returns : goal.returns
returns c =
    let a = c.args in record {
      entries_are = c.list_at-2.ensures.entries_are
          ∙ ap (λ (entries : List Dev). entries ++ listed_at a.params.now a.odd a.node.now a.slot B) c.list_at.ensures.entries_are
          ∙ both-channels (listed_at a.params.now a.odd a.node.now a.slot) a.devs.now.entries;
      room = omega (arith, c.list_at.ensures.room, c.list_at-2.ensures.room);
      kept = omega (arith, c.list_at.ensures.kept, c.list_at-2.ensures.kept);
    }
