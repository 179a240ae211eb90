-- The first stamp of a node in a cycle is one of the log.
use Rattle.std.proofs.Common.{ℕ, ◌*◌, ◌≤◌, Bool, true, false, List, [], ◌∷◌, cond, IfSome, Some}
use Rattle.std.specs.List.{find}
use Rattle.std.specs.Option.{option_map}
use Rattle.std.proofs.lemmas.List.Elements.{All-head, All-tail}
use Rattle.fr_base.specs.declared.channel.Channel.{Channel}
use Rattle.fr_log.specs.Rows.{last_stamp}
use Rattle.fr_log.specs.View.{LogView}
use Rattle.fr_sightings.specs.Ranges.{AreLogStamps}
use Rattle.fr_sightings.specs.Senders.{first_stamp, is_sent_in}
use Rattle.fr_sightings.specs.declared.sighting.Sighting.{Sighting}

found-timed : (l : LogView) (test : Sighting → Bool) (seen : List Sighting) → AreLogStamps l seen → IfSome (option_map (λ s. s.stamp) (find test seen)) (λ stamp. l.unit * stamp ≤ last_stamp)
found-timed l test [] timed = tt
found-timed l test (s ∷ seen) timed = by (test s) (found-timed l test seen (All-tail (λ t. l.unit * t.stamp ≤ last_stamp) s seen timed))
  where
    by : (b : Bool) → IfSome (option_map (λ t. t.stamp) (find test seen)) (λ stamp. l.unit * stamp ≤ last_stamp)
        → IfSome (option_map (λ t. t.stamp) (cond b (Some s) (find test seen))) (λ stamp. l.unit * stamp ≤ last_stamp)
    by true rest = All-head (λ t. l.unit * t.stamp ≤ last_stamp) s seen timed
    by false rest = rest

pub first-timed : (l : LogView) (seen : List Sighting) (node : ℕ) (ch : Channel) (cycle : ℕ) → AreLogStamps l seen → IfSome (first_stamp seen node ch cycle) (λ stamp. l.unit * stamp ≤ last_stamp)
unfolding first_stamp
first-timed l seen node ch cycle timed = found-timed l (is_sent_in node ch cycle) seen timed
