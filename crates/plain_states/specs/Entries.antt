-- The entries of steps, and the versions after them.
use Rattle.std.specs.Prelude.{ℕ, ◌+◌, Bool, if◌then◌else◌, List, [], ◌∷◌, slice_index, slice_set}
use Rattle.base_types.specs.declared.histories.Answer.{Answer}
use Rattle.base_types.specs.declared.histories.Entry.{Entry}
use Rattle.base_types.specs.declared.histories.Event.TheVariants.{Step}
use Rattle.base_types.specs.declared.histories.Touch.{Touch}
use Rattle.plain_states.specs.declared.entries.Mark.{Mark}

-- the version of an entity after it is touched
abbrev pub touched_version : List ℕ → ℕ → Bool → ℕ
touched_version us x wrote = if wrote then slice_index us x + 1 else slice_index us x

abbrev pub touch_by : List ℕ → Mark → Touch
touch_by us m = record { version = touched_version us m.entity m.wrote; entity = m.entity; wrote = m.wrote }

abbrev pub touches_by : List ℕ → List Mark → List Touch
touches_by us [] = []
touches_by us (m ∷ marks) = touch_by us m ∷ touches_by us marks

-- a step that touches these entities
abbrev pub step_entry : List ℕ → ℕ → List Mark → Answer → Entry
step_entry us l marks answer = record { event = Step; actor = l; touched = touches_by us marks; version = 0; answer = answer }

-- the version of one entity rises, where it is written
abbrev pub raised : List ℕ → Mark → List ℕ
raised us m = if m.wrote then slice_set us m.entity (slice_index us m.entity + 1) else us

-- the versions of those that are written rise
abbrev pub versions_after : List ℕ → List Mark → List ℕ
versions_after us [] = us
versions_after us (m ∷ marks) = versions_after (raised us m) marks
