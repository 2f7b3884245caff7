use Rattle.std.proofs.Common.{map, string_bytes, sym, subst}
use Rattle.script_types.specs.model_kernel.Soundness.{IsSound}
use Rattle.script_types.specs.model_kernel.State.{no_atlas}
use Rattle.plain_states.specs.Plains.{cells_by, edges_of}
use Rattle.plain_states.proofs.EmptyLemmas.{sound_empty}
use Rattle.test_replays.proofs.replays.empty_state.Goals as goal

pub returns-clause-sound : goal.returns-clause-sound
returns-clause-sound c s =
    subst IsSound
    (λ i x. cells_by s (record { containers = map string_bytes (sym c.new.ensures.items i); loci = map string_bytes (sym c.new-2.ensures.items i); edges = edges_of (sym c.new-3.ensures.items i) }) (sym c.new-4.ensures.items i) (sym c.new-5.ensures.items i) x)
    (no_atlas, sound_empty s)
