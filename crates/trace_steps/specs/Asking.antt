-- What a step asks for, and which wishes are due.
use Rattle.std.specs.Prelude.{ℕ, ◌-◌, ◌&&◌, ◌||◌, Bool, not, List, Option, None, slice_index}
use Rattle.base_types.specs.declared.histories.Answer.{Answer}
use Rattle.base_types.specs.declared.histories.Answer.TheVariants.{Quiet, Hop, Reply as Replied, Read, Print}
use Rattle.base_types.specs.declared.instructions.Reply.TheVariants.{Ok}
use Rattle.plain_states.specs.model_kernel.Histories.{Policy}
use Rattle.trace_step_facts.specs.data_cut_facts.Searches.{mark_at}
use Rattle.trace_state.specs.declared.wishes.Wishes.{Wishes}

-- this, where the answer is Ok
abbrev pub if_ok : Answer → Option ℕ → Option ℕ
if_ok (Replied Ok) o = o
if_ok (Replied r) o = None
if_ok Quiet o = None
if_ok Hop o = None
if_ok (Read v) o = None
if_ok (Print v) o = None

-- the entity has an open wish, at these intervals and versions, and was not full since the last step that writes it
abbrev pub due_at : Policy → Wishes → List ℕ → List ℕ → ℕ → Bool
due_at policy w everies versions x =
    (mark_at w.by_step x && policy (slice_index everies x) (slice_index versions x - slice_index w.newest x) || mark_at w.asked x) && not (mark_at w.was_full x)
