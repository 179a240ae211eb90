-- Deeds in the order of cycle, sender and receiver, behind one another.
use Rattle.std.specs.Prelude.{ℕ, ◌≡◌, ◌<◌, ◌≤◌, ◌==◌, ◌&&◌, ◌||◌, nat_le, nat_lt, Bool, true, List, length, slice_index_or}
use Rattle.fr_script.specs.declared.deeds.Passage.{Passage}
use Rattle.fr_script.specs.declared.deed.Deed.{Deed}

-- whether a passage comes before another by cycle, then by sender, then by receiver: neither the order of the map, by
-- sender, cycle and receiver, nor that in which contracts see deeds
abbrev pub is_before : Passage → Passage → Bool
is_before a b = nat_lt a.cycle b.cycle || ((a.cycle == b.cycle) && (nat_lt a.sender b.sender || ((a.sender == b.sender) && nat_lt a.receiver b.receiver)))

-- whether a passage is of the pair of another, and not before its cycle
abbrev pub is_later : Passage → Passage → Bool
is_later first passage = (first.sender == passage.sender) && ((first.receiver == passage.receiver) && nat_le first.cycle passage.cycle)

-- each of the deeds before a place is of a passage that comes before another
abbrev pub AreBefore : List (Passage × Deed) → ℕ → Passage → Type 0
AreBefore deeds place passage = (k : ℕ) (d : Passage × Deed) → k < place → k < length deeds → is_before (slice_index_or deeds k d).0 passage ≡ true

-- and each from a place on of one that comes after it
abbrev pub AreAfter : List (Passage × Deed) → ℕ → Passage → Type 0
AreAfter deeds place passage = (k : ℕ) (d : Passage × Deed) → place ≤ k → k < length deeds → is_before passage (slice_index_or deeds k d).0 ≡ true

-- each deed comes before those behind it
abbrev pub AreInTurn : List (Passage × Deed) → Type 0
AreInTurn deeds = (i j : ℕ) (d : Passage × Deed) → i < j → j < length deeds → is_before (slice_index_or deeds i d).0 (slice_index_or deeds j d).0 ≡ true
