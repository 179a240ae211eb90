use Rattle.std.proofs.Common.{◌∙◌, ap, ap₂}
use Rattle.fr_skew.specs.Sync.{are_in_sync, sync_bounds_of}
use Rattle.fr_skew.specs.declared.sync.SyncBounds.{SyncBounds}
use Rattle.fr_skew.proofs.Closeness.{in_sync_is}
use Rattle.fr_check.proofs.apart.are_in_sync.Goals as goal

pub returns : goal.returns
returns c =
    let p = c.args.params.now in
    c.in_sync_within.ensures
    ∙ ap (λ (bounds : SyncBounds). are_in_sync bounds c.deref.result.now c.deref-2.result.now) c.sync_bounds.ensures.value
    ∙ ap₂ (are_in_sync (sync_bounds_of p)) c.deref.ensures.value c.deref-2.ensures.value
    ∙ in_sync_is p c.args.even.now.rows.items c.args.odd.now.rows.items
