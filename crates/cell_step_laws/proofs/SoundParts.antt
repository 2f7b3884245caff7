-- What a sound state says of the parts of cells.
use Rattle.std.proofs.Common.{◌≡◌, ℕ, ◌+◌, ◌<◌, true, false, ◌&&◌, ◌||◌, ◌==◌, nat_lt, nat_le, IsSome, List, length, Option, Some, None, refl, sym, ap, ◌∙◌, arith}
use Rattle.std.proofs.lemmas.Bool.Decides.{nat_tests}
use Rattle.plain_states.specs.model_kernel.Soundness.{AreSound}
use Rattle.plain_states.specs.model_kernel.State.{Supply, AtlasState, ContainerState, LocusState, Cell, NotBorn, AtlasCell, ContainerCell, LocusCell}
use Rattle.cell_newborns.specs.data_atlas_facts.Directory.{Directory}
use Rattle.act_atlas_laws.specs.act_alone.Loci.{container_with}
use Rattle.act_atlas_laws.specs.act_alone.declared.loci.Head.{Head}
use Rattle.cell_newborns.specs.page_memory.declared.paged.PagedMemory.{PagedMemory}
use Rattle.cell_newborns.specs.page_memory.Words.{words_of}
use Rattle.act_atlas_laws.specs.act_invoke.Entries.{WantsBeside}
use Rattle.cell_plans.specs.act_look.Looks.{is_look}
use Rattle.act_atlas_laws.specs.act_calls.Calls.{atlas_state}
use Rattle.cell_newborns.specs.cell_states.declared.cells.Part.{Part}
use Rattle.cell_newborns.specs.cell_states.declared.cells.Part.TheVariants as part
use Rattle.cell_newborns.specs.cell_states.Cells.{container_cell, part_of}
use Rattle.cell_plans.specs.cell_calls.Besides.{memory_of}
use Rattle.cell_newborns.specs.Bearing.{IsUnbornContainer}
use Rattle.cell_plans.specs.cell_calls.Mapping.{IsHeadPart}
use Rattle.cell_step_laws.proofs.SoundPlans.{look_here}

-- the part of a container that is born
pub record IsBornPart (s : Supply) (words : ℕ → List ℕ) (p : Part) (c : ContainerState) : Type 0 where
  pub head : Head
  pub memory : PagedMemory
  pub is : p ≡ part.Container (record { head = Some head; memory = memory })
  pub state : container_with (words_of s words memory) head ≡ c

pub born_part : (s : Supply) (words : ℕ → List ℕ) (p : Part) (c : ContainerState) → part_of s words p ≡ ContainerCell c → IsBornPart s words p c
born_part s words (part.Container b) c e = by b.head refl e
  where
    same : (d : ContainerState) → ContainerCell d ≡ ContainerCell c → d ≡ c
    same d f = cc

    by : (o : Option Head) → b.head ≡ o → container_cell s words b.memory b.head ≡ ContainerCell c → IsBornPart s words (part.Container b) c
    by (Some k) at f = record { head = k; memory = b.memory; is = ap (λ o. part.Container (record { head = o; memory = b.memory })) at; state = same (container_with (words_of s words b.memory) k) (sym (ap (container_cell s words b.memory) at) ∙ f) }
    by None at f = absurd (clash (sym (ap (container_cell s words b.memory) at) ∙ f))
      where
        clash : container_cell s words b.memory None ≡ ContainerCell c → ⊥
        clash g = cc
born_part s words (part.Atlas d) c e = cc
born_part s words (part.Locus (Some m)) c e = cc
born_part s words (part.Locus None) c e = cc

-- a look is at a container that is born, also by its part
pub look_part : (s : Supply) (words : ℕ → List ℕ) (a : AtlasState) (cells : ℕ → Cell) (me x : ℕ) (l : LocusState) (p : Part) → AreSound a cells → cells me ≡ LocusCell l → WantsBeside is_look l x → part_of s words p ≡ cells x
    → (h : Head) × IsHeadPart p h
look_part s words a cells me x l p sound is wants there =
    let f = look_here a cells me l sound is x wants in
    let b = born_part s words p f.0 (there ∙ f.1) in
    (b.head, record { memory = b.memory; is = b.is })

-- the part of the atlas is a directory
pub directory_part : (s : Supply) (words : ℕ → List ℕ) (a : AtlasState) (cells : ℕ → Cell) (p : Part) → AreSound a cells → part_of s words p ≡ cells 0 → (d : Directory) × (p ≡ part.Atlas d) × (atlas_state d ≡ a)
directory_part s words a cells p sound there = by p (there ∙ sound.atlas)
  where
    same : (b : AtlasState) → AtlasCell b ≡ AtlasCell a → b ≡ a
    same b e = cc

    by : (p : Part) → part_of s words p ≡ AtlasCell a → (d : Directory) × (p ≡ part.Atlas d) × (atlas_state d ≡ a)
    by (part.Atlas d) e = (d, refl, same (atlas_state d) e)
    by (part.Locus (Some m)) e = cc
    by (part.Locus None) e = cc
    by (part.Container b) e = absurd (clash b.head e)
      where
        clash : (o : Option Head) → container_cell s words b.memory o ≡ AtlasCell a → ⊥
        clash (Some k) f = cc
        clash None f = cc

-- the lowest free number of a container isn't born
next_unborn : (a : AtlasState) (cells : ℕ → Cell) → AreSound a cells → length a.containers < 40 → cells (length a.containers + 1) ≡ NotBorn
next_unborn a cells sound few = sound.others (length a.containers + 1) (unborn (length a.containers) (length a.loci) few)
  where
    unborn : (n m : ℕ) → n < 40 → (n + 1 == 0 || nat_lt 0 (n + 1) && nat_le (n + 1) n || nat_lt 40 (n + 1) && nat_le (n + 1) (40 + m)) ≡ false
    unborn n m lt =
        let zero_not : (n + 1 == 0) ≡ false = grind (arith, nat_tests) in
        let some : nat_lt 0 (n + 1) ≡ true = grind (arith, nat_tests) in
        let past : nat_le (n + 1) n ≡ false = grind (arith, nat_tests) in
        let low : nat_lt 40 (n + 1) ≡ false = grind (arith, nat_tests) in
        rw (zero_not, some, past, low) refl

pub unborn_part : (s : Supply) (words : ℕ → List ℕ) (a : AtlasState) (cells : ℕ → Cell) (p : Part) → AreSound a cells → length a.containers < 40 → IsSome (memory_of p) → part_of s words p ≡ cells (length a.containers + 1)
    → IsUnbornContainer p
unborn_part s words a cells p sound few has there = by p has (there ∙ next_unborn a cells sound few)
  where
    by : (p : Part) → IsSome (memory_of p) → part_of s words p ≡ NotBorn → IsUnbornContainer p
    by (part.Atlas d) has e = cc
    by (part.Locus l) has e = cc
    by (part.Container b) has e = record { memory = b.memory; is = ap (λ o. part.Container (record { head = o; memory = b.memory })) (none b.head e) }
      where
        none : (o : Option Head) → container_cell s words b.memory o ≡ NotBorn → o ≡ None
        none (Some k) f = cc
        none None f = refl
