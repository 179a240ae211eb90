use Rattle.std.proofs.Common.{◌≡◌, ◌∙◌, ◌+◌, ap, ℕ}
use Rattle.std.specs.List.{prefix_len}
use Rattle.fr_sightings.proofs.Windows.{IsLooked, looked}
use Rattle.fr_sightings.specs.Senders.{is_in}
use Rattle.fr_sightings.proofs.looking.look_at.Goals as goal

pub returns : goal.returns
returns c =
    let seen = c.args.seen.now in
    let here : c.count_in.result ≡ prefix_len (is_in c.args.double) seen =
    c.count_in.ensures.value ∙ ap (λ (double : ℕ). prefix_len (is_in double) seen) c.double.view_is in
    let next : c.count_in-2.result ≡ prefix_len (is_in (c.args.double + 1)) c.split_at.result.1.now =
    c.count_in-2.ensures.value ∙ ap (λ (double : ℕ). prefix_len (is_in (double + 1)) c.split_at.result.1.now) c.double.view_is in
    let all : IsLooked c.args.double seen c.split_at.result.0.now c.split_at.result.1.now c.split_at-2.result.0.now =
    looked c.args.double seen c.count_in.result c.count_in-2.result c.split_at.result.0.now c.split_at.result.1.now c.split_at-2.result.0.now
    c.requires.ascend c.requires.from here next c.split_at.ensures.front c.split_at.ensures.back c.split_at-2.ensures.front in
    record { here = all.here_is; next = all.next_is; later = all.later; ascend = all.ascend; from = all.from; timed = all.timed }
