-- The atlas with a copy: its names and its edges.
use Rattle.std.proofs.Common.{◌≡◌, ℕ, ◌+◌, true, false, if◌then◌else◌, ◌==◌, List, [], ◌∷◌, refl, arith}
use Rattle.base_types.specs.declared.capabilities.Region.{Region}
use Rattle.model_sound_states.specs.model_kernel.Births.{with_edge}
use Rattle.model_sound_states.specs.model_kernel.State.{AtlasState}
use Rattle.model_sound_states.proofs.model_sound_steps_lemmas.RegionLists.{shown, shown_more}
use Rattle.model_sound_states.proofs.model_sound_runs_lemmas.TableEdges.{one_more, put_one}
use Rattle.model_copies.specs.Copies.{with_edges}

pub edges_with : (n : ℕ) (rs : List Region) (a : AtlasState) (x y : ℕ) → (with_edges n rs a).edges x y ≡ a.edges x y + (if x == n then shown rs y else 0)
edges_with n [] a x y = elim (x == n) as (λ b. a.edges x y ≡ a.edges x y + (if b then 0 else 0)) [ true ↦ omega arith | false ↦ omega arith ]
edges_with n (r ∷ rs) a x y =
    one_more n r.target x y ((with_edges n rs a).edges x y) ((with_edge (with_edges n rs a) n r.target).edges x y) (shown (r ∷ rs) y) (shown rs y) (a.edges x y)
    (edges_with n rs a x y) (put_one (with_edges n rs a) n r.target x y) (shown_more r rs y)

pub containers_with : (n : ℕ) (rs : List Region) (a : AtlasState) → (with_edges n rs a).containers ≡ a.containers
containers_with n [] a = refl
containers_with n (r ∷ rs) a = containers_with n rs a

pub loci_with : (n : ℕ) (rs : List Region) (a : AtlasState) → (with_edges n rs a).loci ≡ a.loci
loci_with n [] a = refl
loci_with n (r ∷ rs) a = loci_with n rs a
