-- What a sound locus looks through was born.
use Rattle.std.proofs.Common.{◌≡◌, ℕ, ◌/◌, ◌&&◌, ◌==◌, IsTrue, Option, Some, None, refl, sym, subst}
use Rattle.std.specs.Option.{ForSome}
use Rattle.model_acts.specs.base_types.declared.capabilities.Private.{Private}
use Rattle.model_acts.specs.base_types.declared.instructions.Walk.{Walk}
use Rattle.model_sound_steps.specs.model_kernel.State.{AtlasState, LocusState}
use Rattle.model_sound_steps.specs.model_kernel.Acts.{first_place, place_of_look, look_at}
use Rattle.model_sound_steps.specs.model_kernel.Refusals.{private_at}
use Rattle.model_sound_steps.specs.model_kernel.Soundness.{IsSoundLocus, IsSoundPrivate, is_born_container}
use Rattle.model_sound_steps.specs.model_kernel.Words.{covers}
use Rattle.model_sound_steps.proofs.Lists.{find_all}

-- the container of the next look is born
place_born : (a : AtlasState) (l : LocusState) (address : ℕ) (w : Option Walk) (p : Option Private) → IsTrue (is_born_container a l.host)
    → ForSome w (λ (w : Walk). IsTrue (is_born_container a w.at)) → ForSome p (λ (p : Private). IsTrue (is_born_container a p.region.target)) → private_at l (address / 128) ≡ p
    → IsTrue (is_born_container a (place_of_look l address w))
place_born a l address (Some w) p host walk private is = walk w refl
place_born a l address None (Some q) host walk private is = subst (λ o. IsTrue (is_born_container a (first_place l o))) (sym is) (private q refl)
place_born a l address None None host walk private is = subst (λ o. IsTrue (is_born_container a (first_place l o))) (sym is) host

pub look_born : (a : AtlasState) (l : LocusState) (address : ℕ) → IsSoundLocus a l → IsTrue (is_born_container a (look_at l address))
look_born a l address h =
    place_born a l address l.walk (private_at l (address / 128)) h.host (λ w is. (h.walk w is).at)
    (λ q is. (find_all (IsSoundPrivate a) (λ p. p.made == l.host && covers p.region (address / 128)) l.privates h.privates q is).region.target) refl
