-- A state that is sound with one supplier is sound with each.
use Rattle.std.proofs.Common.{◌≡◌, ℕ, ◌-◌, true, false, ◌==◌, nat_lt, if◌then◌else◌, Option, Some, None, slice_get, refl, sym, ap, subst, ◌∙◌}
use Rattle.model_kernel.specs.Soundness.{AreSound, IsSound, IsSoundContainer, IsSoundLocus, regions_onto}
use Rattle.model_kernel.specs.State.{Supply, AtlasState, ContainerState, LocusState, Cell, NotBorn, AtlasCell, ContainerCell, LocusCell}
use Rattle.plain_states.specs.Plains.{atlas_of, cells_of, container_cell, container_of, locus_cell}
use Rattle.plain_states.specs.declared.plain.Plain.{Plain}
use Rattle.plain_states.specs.declared.plain.PlainContainer.{PlainContainer}

-- what may become of a cell: a container keeps its regions, and what was sound stays sound
abbrev Follows : AtlasState → Cell → Cell → Type 0
Follows a NotBorn new = new ≡ NotBorn
Follows a (AtlasCell b) new = new ≡ AtlasCell b
Follows a (ContainerCell c) (ContainerCell d) = (IsSoundContainer a c → IsSoundContainer a d) × (d.regions ≡ c.regions)
Follows a (ContainerCell c) new = ⊥
Follows a (LocusCell l) (LocusCell m) = IsSoundLocus a l → IsSoundLocus a m
Follows a (LocusCell l) new = ⊥

follows_itself : (a : AtlasState) (k : Cell) → Follows a k k
follows_itself a NotBorn = refl
follows_itself a (AtlasCell b) = refl
follows_itself a (ContainerCell c) = (λ h. h, refl)
follows_itself a (LocusCell l) = λ h. h

container_after : (a : AtlasState) (c : ContainerState) (new : Cell) → Follows a (ContainerCell c) new → IsSoundContainer a c → (d : ContainerState) × (new ≡ ContainerCell d) × IsSoundContainer a d
container_after a c (ContainerCell d) f h = (d, refl, f.0 h)
container_after a c NotBorn f h = absurd f
container_after a c (AtlasCell b) f h = absurd f
container_after a c (LocusCell l) f h = absurd f

locus_after : (a : AtlasState) (l : LocusState) (new : Cell) → Follows a (LocusCell l) new → IsSoundLocus a l → (m : LocusState) × (new ≡ LocusCell m) × IsSoundLocus a m
locus_after a l (LocusCell m) f h = (m, refl, f h)
locus_after a l NotBorn f h = absurd f
locus_after a l (AtlasCell b) f h = absurd f
locus_after a l (ContainerCell c) f h = absurd f

regions_after : (a : AtlasState) (old new : Cell) (y : ℕ) → Follows a old new → regions_onto old y ≡ regions_onto new y
regions_after a NotBorn new y f = sym (ap (λ k. regions_onto k y) f)
regions_after a (AtlasCell b) new y f = sym (ap (λ k. regions_onto k y) f)
regions_after a (ContainerCell c) (ContainerCell d) y f = rw f.1 refl
regions_after a (ContainerCell c) NotBorn y f = absurd f
regions_after a (ContainerCell c) (AtlasCell b) y f = absurd f
regions_after a (ContainerCell c) (LocusCell l) y f = absurd f
regions_after a (LocusCell l) (LocusCell m) y f = refl
regions_after a (LocusCell l) NotBorn y f = absurd f
regions_after a (LocusCell l) (AtlasCell b) y f = absurd f
regions_after a (LocusCell l) (ContainerCell c) y f = absurd f

-- where each cell follows, the state stays sound
sound_after : (a : AtlasState) (old new : ℕ → Cell) → AreSound a old → ((x : ℕ) → Follows a (old x) (new x)) → AreSound a new
sound_after a old new h f = record {
  atlas = subst (λ k. Follows a k (new 0)) h.atlas (f 0);
  names = h.names;
  containers = λ x born.
      let c = h.containers x born in
      container_after a c.0 (new x) (subst (λ k. Follows a k (new x)) c.1 (f x)) c.2;
  loci = λ x born.
      let l = h.loci x born in
      locus_after a l.0 (new x) (subst (λ k. Follows a k (new x)) l.1 (f x)) l.2;
  others = λ x no. subst (λ k. Follows a k (new x)) (h.others x no) (f x);
  edges = λ x y. h.edges x y ∙ regions_after a (old x) (new x) y (f x);
}

container_any : (s t : Supply) (a : AtlasState) (c : PlainContainer) → IsSoundContainer a (container_of s c) → IsSoundContainer a (container_of t c)
container_any s t a c h = record { some = h.some; size = h.size; entry = h.entry; code = h.code; few = h.few; regions = h.regions; inside = h.inside; apart = h.apart; caps = h.caps }

cell_any : (s t : Supply) (a : AtlasState) (o : Option PlainContainer) → Follows a (container_cell s o) (container_cell t o)
cell_any s t a None = refl
cell_any s t a (Some c) = (container_any s t a c, refl)

follows_any : (s t : Supply) (a : AtlasState) (p : Plain) (x : ℕ) → Follows a (cells_of s p x) (cells_of t p x)
follows_any s t a p x =
    elim (x == 0) as (λ b. Follows a
    (if b then AtlasCell (atlas_of p.atlas) else if nat_lt x 41 then container_cell s (slice_get p.containers.items (x - 1)) else locus_cell (slice_get p.loci.items (x - 41)))
    (if b then AtlasCell (atlas_of p.atlas) else if nat_lt x 41 then container_cell t (slice_get p.containers.items (x - 1)) else locus_cell (slice_get p.loci.items (x - 41)))) [
      | true ↦ refl
      | false ↦ elim (nat_lt x 41) as (λ b. Follows a
          (if b then container_cell s (slice_get p.containers.items (x - 1)) else locus_cell (slice_get p.loci.items (x - 41)))
          (if b then container_cell t (slice_get p.containers.items (x - 1)) else locus_cell (slice_get p.loci.items (x - 41)))) [
            | true ↦ cell_any s t a (slice_get p.containers.items (x - 1))
            | false ↦ follows_itself a (locus_cell (slice_get p.loci.items (x - 41)))
          ]
    ]

pub sound_any : (s t : Supply) (p : Plain) → IsSound (cells_of s p) → IsSound (cells_of t p)
sound_any s t p h = (h.0, sound_after h.0 (cells_of s p) (cells_of t p) h.1 (follows_any s t h.0 p))
