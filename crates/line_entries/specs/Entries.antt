-- The line of an entry of a history.
use Rattle.std.specs.Prelude.{if◌then◌else◌, List, [], ◌∷◌, ◌++◌, take, codes, decimal}
use Rattle.std.specs.List.{flat_map}
use Rattle.base_types.specs.Replies.{reply_number}
use Rattle.base_types.specs.declared.histories.Answer.{Answer}
use Rattle.base_types.specs.declared.histories.Answer.TheVariants.{Quiet, Hop, Reply, Read, Print}
use Rattle.base_types.specs.declared.histories.Entry.{Entry}
use Rattle.base_types.specs.declared.histories.Event.{Event}
use Rattle.base_types.specs.declared.histories.Event.TheVariants.{Birth, Step, Snap, Stable, Tried}
use Rattle.base_types.specs.declared.histories.Touch.{Touch}
use Rattle.line_text.specs.model_kernel.State.{Text, AtlasState}
use Rattle.line_text.specs.Lines.{line_end, name_in, word}

-- a colon before the version of a written entity, and an equals sign before that of a read one
unfoldable pub touch_text : AtlasState → Touch → Text
touch_text a t = name_in a t.entity ++ (if t.wrote then 58 else 61) ∷ decimal t.version

-- with commas between them
unfoldable pub touches_text : AtlasState → List Touch → Text
touches_text a [] = []
touches_text a (t ∷ ts) = touch_text a t ++ flat_map (λ u. 44 ∷ touch_text a u) ts

-- a load that was answered Ok is `read` and its word, and every other reply its number
unfoldable pub answer_text : Answer → Text
answer_text Quiet = codes "quiet"
answer_text Hop = codes "hop"
answer_text (Reply r) = codes "reply" ++ word (decimal (reply_number r))
answer_text (Read value) = codes "read" ++ word (decimal value)
answer_text (Print value) = codes "print" ++ word (decimal value)

abbrev pub event_word : Event → Text
event_word Birth = codes "birth"
event_word Step = codes "step"
event_word Snap = codes "snap"
event_word Stable = codes "stable"
event_word Tried = codes "tried"

-- what stands behind the event and the actor; an entry touches three entities at most
abbrev pub details : AtlasState → Entry → Event → Text
details a e Birth = word (touches_text a (take 3 e.touched))
details a e Step = word (touches_text a (take 3 e.touched)) ++ word (answer_text e.answer)
details a e Snap = word (decimal e.version)
details a e Stable = []
details a e Tried = word (decimal e.version)

-- THE LINE of an entry, without its end
unfoldable pub entry_text : AtlasState → Entry → Text
entry_text a e = event_word e.event ++ word (name_in a e.actor) ++ details a e e.event

unfoldable pub entry_line : AtlasState → Entry → Text
entry_line a e = entry_text a e ++ line_end

-- THE TRACE of a history: a line for each entry, in order
abbrev pub trace_of : AtlasState → List Entry → Text
trace_of a es = flat_map (entry_line a) es
