-- What stands at the places of a sound plain state's lists.
use Rattle.std.proofs.Common.{◌≡◌, ℕ, ◌+◌, ◌-◌, ◌<◌, ◌≤◌, IsTrue, List, length, Option, Some, None, Result, slice_get, string_bytes, refl, sym, ap, subst, ◌∙◌, arith}
use Rattle.std.proofs.lemmas.Bool.Decides.{nat_tests}
use Rattle.std.proofs.lemmas.List.{length-map}
use Rattle.plain_states.specs.model_kernel.Soundness.{IsSound, is_born_container, is_born_locus}
use Rattle.plain_states.specs.model_kernel.State.{Supply, AtlasState, ContainerState, LocusState, Cell, NotBorn, ContainerCell, LocusCell}
use Rattle.edge_streams.specs.Streams.{Puts}
use Rattle.plain_states.specs.Plains.{atlas_of, cells_of, locus_cell}
use Rattle.plain_states.specs.declared.plain.Plain.{Plain}
use Rattle.plain_states.specs.declared.plain.PlainContainer.{PlainContainer}
use Rattle.plain_states.specs.declared.plain.PlainLocus.{PlainLocus}
use Rattle.plain_states.proofs.CellLemmas.{high_cell}
use Rattle.plain_states.proofs.SoundLemmas.{sound_container, sound_here}
use Rattle.plain_show.specs.Show.{cell_lines, container_lines, entity_lines, locus_lines}
use Rattle.line_text.proofs.Puts.{Puts-as}

-- a container is there
pub record HasContainer (s : Supply) (p : Plain) (i : ℕ) : Type 0 where
  pub container : PlainContainer
  pub at : slice_get p.containers.items i ≡ Some container
  pub size : container.pages ≤ 256
  pub low : i < 40

pub container_there : (s : Supply) (p : Plain) (i : ℕ) → IsSound (cells_of s p) → i < length p.atlas.containers.items → HasContainer s p i
container_there s p i sound named =
    let a = atlas_of p.atlas in
    let cs = p.containers.items in
    let h = sound_here s a cs p.loci.items sound in
    let count : length a.containers ≡ length p.atlas.containers.items = length-map p.atlas.containers.items string_bytes in
    let born : IsTrue (is_born_container a (i + 1)) = grind (arith, nat_tests) in
    let found = sound_container s a cs p.loci.items (i + 1) h born in
    let place : i + 1 - 1 ≡ i = omega arith in
    let high : i + 1 ≤ 40 = found.4 in
    record { container = found.0; at = subst (λ n. slice_get cs n ≡ Some found.0) place found.1; size = found.2.size; low = omega arith }

-- a locus is there
pub record HasLocus (p : Plain) (j : ℕ) : Type 0 where
  pub locus : PlainLocus
  pub at : slice_get p.loci.items j ≡ Some locus

locus_by : (p : Plain) (j : ℕ) (o : Option PlainLocus) (l : LocusState) → slice_get p.loci.items j ≡ o → locus_cell o ≡ LocusCell l → HasLocus p j
locus_by p j (Some m) l at is = record { locus = m; at = at }
locus_by p j None l at is = absurd (apart is)
  where
    apart : NotBorn ≡ LocusCell l → ⊥
    apart e = cc

pub locus_there : (s : Supply) (p : Plain) (j : ℕ) → IsSound (cells_of s p) → j < length p.atlas.loci.items → HasLocus p j
locus_there s p j sound named =
    let a = atlas_of p.atlas in
    let ls = p.loci.items in
    let h = sound_here s a p.containers.items ls sound in
    let count : length a.loci ≡ length p.atlas.loci.items = length-map p.atlas.loci.items string_bytes in
    let born : IsTrue (is_born_locus a (j + 41)) = grind (arith, nat_tests) in
    let found = h.loci (j + 41) born in
    let place : j + 41 - 41 ≡ j = omega arith in
    let cell : locus_cell (slice_get ls (j + 41 - 41)) ≡ LocusCell found.0 = sym (high_cell s a p.containers.items ls (j + 41) (omega arith)) ∙ found.1 in
    locus_by p j (slice_get ls j) found.0 refl (subst (λ n. locus_cell (slice_get ls n) ≡ LocusCell found.0) place cell)

-- the lines of a container are those of the entity
pub container_shown : {T E : Type 0} (before after : Option (List ℕ)) (r : Result T E) (s : Supply) (a : AtlasState) (cells : ℕ → Cell) (x e : ℕ) (c : ContainerState)
    → cells x ≡ ContainerCell c → e ≡ x → Puts before after r (container_lines s a e c) → Puts before after r (entity_lines s a cells x)
container_shown before after r s a cells x e c is same put = Puts-as before after r _ _ (ap (λ (n : ℕ). container_lines s a n c) same ∙ sym (ap (cell_lines s a x) is)) put

-- and those of a locus
pub locus_shown : {T E : Type 0} (before after : Option (List ℕ)) (r : Result T E) (s : Supply) (a : AtlasState) (cells : ℕ → Cell) (x e : ℕ) (l : LocusState)
    → cells x ≡ LocusCell l → e ≡ x → Puts before after r (locus_lines a e l) → Puts before after r (entity_lines s a cells x)
locus_shown before after r s a cells x e l is same put = Puts-as before after r _ _ (ap (λ (n : ℕ). locus_lines a n l) same ∙ sym (ap (cell_lines s a x) is)) put
