-- The sightings of a log, as they are gathered entry by entry.
use Rattle.std.specs.Prelude.{◌≡◌, ◌-◌, List, length, ◌++◌, Option, slice_get}
use Rattle.std.specs.List.{filter_map, fold}
use Rattle.std.specs.Option.{option_to_list}
use Rattle.fr_cluster.specs.Values.{Values}
use Rattle.fr_log.specs.View.{LogView}
use Rattle.fr_log.specs.declared.entry.Entry.{Entry}
use Rattle.fr_sightings.specs.Sightings.{OffendingFrames, SightingsView, fates_from, irregular_in, no_tally, sighting_in, untimely_in, fate_counted}
use Rattle.fr_sightings.specs.declared.sighting.Fate.{Fate}
use Rattle.fr_sightings.specs.declared.sighting.Sighting.{Sighting}

-- the last of some
abbrev pub last_sighting : List Sighting → Option Sighting
last_sighting sightings = slice_get sightings (length sightings - 1)

abbrev pub with_offending : OffendingFrames → Fate → OffendingFrames
with_offending offending fate =
    record {
      untimely = offending.untimely ++ option_to_list (untimely_in fate);
      irregular = offending.irregular ++ option_to_list (irregular_in fate);
    }

-- with what became of one entry more
abbrev pub with_fate : SightingsView → Fate → SightingsView
with_fate seen fate =
    record {
      list = seen.list ++ option_to_list (sighting_in fate);
      offending = with_offending seen.offending fate;
      tally = fate_counted seen.tally fate;
    }
