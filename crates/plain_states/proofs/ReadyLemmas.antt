-- What a mapping rests on follows from a sound state and edges in order.
use Rattle.std.proofs.Common.{ℕ, ◌<◌, ◌≤◌, ◌==◌, arith}
use Rattle.std.proofs.lemmas.List.Sums.{count_by-le-length}
use Rattle.base_types.specs.declared.capabilities.Region.{Region}
use Rattle.model_kernel.specs.Soundness.{AreSound, regions_onto}
use Rattle.model_kernel.specs.State.{AtlasState, Cell, NotBorn, AtlasCell, ContainerCell, LocusCell}
use Rattle.model_sound_runs.proofs.model_sound_steps_lemmas.Cells.{Fits, edges_among, fits_in}
use Rattle.plain_states.specs.EdgeLists.{AreReadyEdges}
use Rattle.plain_states.specs.Born.{AreEdges}
use Rattle.plain_states.specs.Plains.{atlas_of, edges_of}
use Rattle.plain_states.specs.declared.plain.PlainAtlas.{PlainAtlas}

few_shown : (a : AtlasState) (x y : ℕ) (k : Cell) → Fits a x k → regions_onto k y ≤ 16
few_shown a x y NotBorn f = omega arith
few_shown a x y (AtlasCell b) f = omega arith
few_shown a x y (ContainerCell c) f = let le = count_by-le-length (λ (r : Region). r.target == y) c.regions in let few = f.1.few in omega arith
few_shown a x y (LocusCell l) f = omega arith

module _ (p : PlainAtlas) (cells : ℕ → Cell) (h : AreSound (atlas_of p) cells) where
  pub ready_edges : AreEdges p.edges.items → AreReadyEdges p.edges.items
  ready_edges edges = record {
    edges = edges;
    among = edges_among (atlas_of p) cells h;
  }

  -- a container shows at most 16 regions of another
  pub few_edges : (x y : ℕ) → edges_of p.edges.items x y < 255
  few_edges x y = let e = h.edges x y in let le = few_shown (atlas_of p) x y (cells x) (fits_in (atlas_of p) cells h x) in omega arith
