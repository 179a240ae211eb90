-- The law of what was missed: where a term contradicts a node that missed at most so many senders, it contradicts one that missed at most
-- fewer; so the number that is told is the least that nothing contradicts, and from it on nothing does.
use Rattle.std.specs.Prelude.{◌≡◌, ◌≤◌, ◌<◌, ◌↔◌, ℕ, true, List, length, Contains, Some, None, is_none, is_some}
use Rattle.fr_cluster.specs.Values.{Values}
use Rattle.fr_log.specs.View.{LogView}
use Rattle.fr_course.specs.Scales.{Scale}
use Rattle.fr_sightings.specs.declared.sender.Sender.{Sender}
use Rattle.fr_observe.specs.declared.term.Term.{Term}
use Rattle.fr_judging.specs.Missing.{least_missed, unlike_term}

-- what contradicts a node that may have missed so many contradicts one that may have missed fewer
abbrev pub FewerMissedContradict : Type 0
FewerMissedContradict =
    (what : Term) (p : Values) (l : LogView) (scale : Scale) (double : ℕ) (senders : List Sender) (s : Sender) (fewer lost : ℕ)
    → fewer ≤ lost → is_some (unlike_term what p l scale double senders s lost) ≡ true
    → is_some (unlike_term what p l scale double senders s fewer) ≡ true

-- the number that is told: nothing contradicts a node that may have missed so many, exactly where these are as many or more
abbrev pub MissedIsLeast : Type 0
MissedIsLeast =
    (what : Term) (p : Values) (l : LogView) (scale : Scale) (double : ℕ) (senders : List Sender) (s : Sender) (least lost : ℕ)
    → least_missed what p l scale double senders s ≡ Some least
    → (is_none (unlike_term what p l scale double senders s lost) ≡ true) ↔ (least ≤ lost)

-- and where none is told, each number below that of the senders is contradicted
abbrev pub NoneMissedSuffices : Type 0
NoneMissedSuffices =
    (what : Term) (p : Values) (l : LogView) (scale : Scale) (double : ℕ) (senders : List Sender) (s : Sender)
    → (least_missed what p l scale double senders s ≡ None)
    ↔ ((lost : ℕ) → lost < length senders → is_some (unlike_term what p l scale double senders s lost) ≡ true)

-- so is each number at all for one of the senders: it can't have missed more than all others
abbrev pub WhateverMissedContradicts : Type 0
WhateverMissedContradicts =
    (what : Term) (p : Values) (l : LogView) (scale : Scale) (double : ℕ) (senders : List Sender) (s : Sender) (lost : ℕ)
    → Contains senders s → least_missed what p l scale double senders s ≡ None
    → is_some (unlike_term what p l scale double senders s lost) ≡ true
