-- A sound locus is ready.
use Rattle.std.proofs.Common.{List, All}
use Rattle.base_types.specs.declared.capabilities.Private.{Private}
use Rattle.model_kernel.specs.State.{AtlasState, LocusState}
use Rattle.model_kernel.specs.Soundness.{IsSoundLocus, IsSoundPrivate}
use Rattle.model_acts.specs.Views.{IsInside, IsReadyLocus}

privates_inside : (a : AtlasState) (ps : List Private) → All (IsSoundPrivate a) ps → All (λ (p : Private). IsInside p.region) ps
privates_inside a ps all k d lt = let sound : IsSoundPrivate a _ = all k d lt in (sound.region.at, sound.region.from)

pub ready : (a : AtlasState) (l : LocusState) → IsSoundLocus a l → IsReadyLocus l
ready a l h = record { place = h.place; code = h.code; privates = privates_inside a l.privates h.privates; hops = λ w is. (h.walk w is).hops }
