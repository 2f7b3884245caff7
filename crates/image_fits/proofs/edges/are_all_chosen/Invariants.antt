use Rattle.std.proofs.Common.{◌≡◌, ◌<◌, ℕ, Some}
use Rattle.std.specs.Prelude.{IsTrue}
use Rattle.act_alone.specs.model_kernel.Soundness.{is_born}
use Rattle.image_fit_facts.specs.image_meaning.Parts.{Part}
use Rattle.blob_atlas.specs.act_calls.Calls.{atlas_state}
use Rattle.image_fits.specs.Chosen.{parts_of}
use Rattle.image_fits.proofs.edges.are_all_chosen.Given as goal

abbrev pub invariant-loop-number : goal.invariant-loop-number
invariant-loop-number l = record {
  all : (x : ℕ) → x < l.number → IsTrue (is_born (atlas_state l.atlas) x) → (part : Part) × (parts_of l.entities x ≡ Some part);
  numbers : 0 < l.number → (x : ℕ) → IsTrue (is_born (atlas_state l.atlas) x) → x < 64;
}
