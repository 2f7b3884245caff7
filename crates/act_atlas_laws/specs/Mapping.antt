-- What the calls on regions of a container ask of the state in which they are made.
use Rattle.std.specs.Prelude.{◌≡◌, ℕ, ◌==◌, count_by}
use Rattle.act_calls.specs.model_kernel.State.{ContainerState, LocusState, Cell, ContainerCell, LocusCell}
use Rattle.act_calls.specs.data_atlas_facts.Directory.{Directory, edges_of, IsBornContainer}
use Rattle.act_calls.specs.Calls.{NamesBorn}

-- the containers that a locus's capabilities name are born, each container is, and the directory counts its regions
pub record MeetsMapping (a : Directory) (cells : ℕ → Cell) : Type 0 where
  pub caps : (x : ℕ) (l : LocusState) → cells x ≡ LocusCell l → NamesBorn a l.caps
  pub number : (x : ℕ) (c : ContainerState) → cells x ≡ ContainerCell c → IsBornContainer a x
  pub counted : (x : ℕ) (c : ContainerState) → cells x ≡ ContainerCell c → (y : ℕ) → edges_of a x y ≡ count_by (λ r. r.target == y) c.regions
