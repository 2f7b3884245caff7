-- Heads that keep their tag and pages.
use Rattle.std.proofs.Common.{◌≡◌, ℕ, Bool, true, false, find, ◌==◌, Option, Some, None, refl, sym, ap, ◌∙◌}
use Rattle.base_types.specs.declared.capabilities.Cap.{Cap}
use Rattle.base_types.specs.declared.capabilities.Region.{Region}
use Rattle.base_types.specs.declared.instructions.Instr.{Instr}
use Rattle.base_types.specs.declared.instructions.Instr.TheVariants.{Map, Unmap, Give}
use Rattle.base_types.specs.declared.instructions.Reply.{Reply}
use Rattle.cell_states.specs.model_kernel.Acts.{wanted}
use Rattle.cell_states.specs.model_kernel.Outcomes.{Outcome, give, give_at, given_cap, map_by, map_refusal, map_region, on_cell, outcome, unmap, unmap_at}
use Rattle.cell_states.specs.model_kernel.Refusals.{new_region, reg}
use Rattle.cell_states.specs.model_kernel.State.{Supply, AtlasState, ContainerState, LocusState, Cell, ContainerCell}
use Rattle.cell_states.specs.model_kernel.Words.{free_slot}
use Rattle.cell_states.proofs.model_acts_lemmas.Beside.{made_beside}
use Rattle.cell_states.specs.act_alone.Loci.{container_with}
use Rattle.cell_states.specs.act_alone.declared.loci.Head.{Head}

-- THE MODEL

-- acts that change what a container shows or holds, and none of its words
abbrev pub edits : Instr → Bool
edits (Map d a c b n rights) = true
edits (Unmap d a) = true
edits (Give d c r rights) = true
edits i = false

-- the tag and the count of pages
abbrev pub extent_of : ContainerState → ℕ × ℕ
extent_of c = (c.tag, c.pages)

abbrev pub extent : Option Cell → ℕ × ℕ
extent (Some (ContainerCell c)) = extent_of c
extent o = (0, 0)

given_extent : (l : LocusState) (c : ContainerState) (d : ℕ) (o : Option ℕ) (cap : Cap) → extent (give_at l c d cap o).other ≡ extent_of c
given_extent l c d None cap = refl
given_extent l c d (Some slot) cap = refl

mapped_extent : (l : LocusState) (a : AtlasState) (x : ℕ) (c : ContainerState) (r : Region) (o : Option Reply) → extent (map_by l a x c r o).other ≡ extent_of c
mapped_extent l a x c r (Some why) = refl
mapped_extent l a x c r None = refl

unmapped_extent : (l : LocusState) (a : AtlasState) (x : ℕ) (c : ContainerState) (at : ℕ) (o : Option Region) → extent (unmap_at l a x c at o).other ≡ extent_of c
unmapped_extent l a x c at None = refl
unmapped_extent l a x c at (Some r) = refl

cell_extent : (s : Supply) (l : LocusState) (a : AtlasState) (x : ℕ) (i : Instr) (c : ContainerState) → edits i ≡ true → extent (on_cell s l a x i (ContainerCell c)).other ≡ extent_of c
unfolding on_cell give map_region unmap
cell_extent s l a x (Map d k b from n rights) c h = mapped_extent l a x c (new_region l k b from n rights) (map_refusal a x c (new_region l k b from n rights))
cell_extent s l a x (Unmap d k) c h = unmapped_extent l a x c (reg l k) (find (λ r. r.at == reg l k) c.regions)
cell_extent s l a x (Give d k r rights) c h = given_extent l c d (free_slot c.caps) (given_cap l r rights.0)
cell_extent s l a x i c h = cc

-- THE HEAD

-- a head that such an act leaves has the tag and the pages that it had
pub head_extent : (s : Supply) (l : LocusState) (a : AtlasState) (x : ℕ) (i : Instr) (words : ℕ → ℕ) (h k : Head) → (wanted 64 l).instr ≡ i → (wanted 64 l).refused ≡ None → (wanted 64 l).other ≡ Some x
    → edits i ≡ true → (outcome s l (wanted 64 l) a (ContainerCell (container_with words h))).other ≡ Some (ContainerCell (container_with words k)) → (k.tag ≡ h.tag) × (k.pages ≡ h.pages)
head_extent s l a x i words h k instr allowed other changes made =
    let c : ContainerState = container_with words h in
    let on : outcome s l (wanted 64 l) a (ContainerCell c) ≡ on_cell s l a x i (ContainerCell c) = made_beside s l (wanted 64 l) a x i (ContainerCell c) allowed other instr in
    let same : (k.tag, k.pages) ≡ (h.tag, h.pages) = sym (ap extent made) ∙ ap (λ (o : Outcome). extent o.other) on ∙ cell_extent s l a x i c changes in
    (ap (λ (e : ℕ × ℕ). e.0) same, ap (λ (e : ℕ × ℕ). e.1) same)
