-- The loci so far are there.
use Rattle.std.proofs.Common.{◌≡◌, ◌<◌, ◌+◌, ℕ, length, slice_get}
use Rattle.plain_states.specs.Plains.{locus_cell}
use Rattle.image_shown_facts.specs.image_fits.Chosen.{parts_of}
use Rattle.image_shown_facts.specs.States.{cell_with}
use Rattle.image_reading.proofs.loci.loci_of.Given as goal

abbrev pub invariant-loop-place : goal.invariant-loop-place
invariant-loop-place l = record {
  many : length l.loci.items ≡ l.place;
  cells : (words : ℕ → ℕ) (i : ℕ) → i < l.place → locus_cell (slice_get l.loci.items i) ≡ cell_with words (i + 41) (parts_of l.entities (i + 41));
}
