-- Counts of printed values.
use Rattle.std.specs.Prelude.{◌≡◌, ℕ, ◌+◌, ◌<◌, ◌≤◌, ◌^◌, Bool, true, false, ◌&&◌, ◌==◌, length}
use Rattle.base_types.specs.declared.histories.Answer.{Answer}
use Rattle.base_types.specs.declared.histories.Answer.TheVariants.{Quiet, Hop, Reply as Replied, Read, Print as Printed}
use Rattle.base_types.specs.declared.histories.Entry.{Entry}
use Rattle.model_kernel.specs.State.{AtlasState, LocusState, Cell, NotBorn, AtlasCell, ContainerCell, LocusCell, KernelState}

-- how many values a locus counts as printed
abbrev pub printed_in : Cell → ℕ
printed_in (LocusCell l) = l.printed
printed_in NotBorn = 0
printed_in (AtlasCell a) = 0
printed_in (ContainerCell c) = 0

abbrev pub is_print : Answer → Bool
is_print (Printed v) = true
is_print Quiet = false
is_print Hop = false
is_print (Replied r) = false
is_print (Read v) = false

-- a value that x prints
abbrev pub prints : ℕ → Entry → Bool
prints x e = e.actor == x && is_print e.answer

-- the atlas names each locus, and no count is past 2^62
pub record NamesLoci (w : KernelState) : Type 0 where
  pub atlas : AtlasState
  pub there : (w 0).cell ≡ AtlasCell atlas
  pub named : (x : ℕ) (l : LocusState) → (w x).cell ≡ LocusCell l → (40 < x) × (x ≤ 40 + length atlas.loci)
  pub small : (x : ℕ) → printed_in (w x).cell ≤ 2 ^ 62
