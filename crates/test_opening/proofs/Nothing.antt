-- No number of an image without records is too large, and some moment stands behind a sync.
use Rattle.std.proofs.Common.{◌≡◌, ℕ, ◌+◌, ◌-◌, ◌<◌, ◌≤◌, ◌^◌, Bool, true, Some, List, refl, sym, ap, ◌∙◌, ⊎_elim, arith}
use Rattle.std.proofs.lemmas.Bool.{cases_lt}
use Rattle.edge_disk.specs.Disk.{Ticks}
use Rattle.edge_disk.specs.Image.{Image, block_at}
use Rattle.table_opened.specs.model_kernel.State.{empty_state}
use Rattle.image_blocks.specs.Checks.{active_area, active_by}
use Rattle.image_blocks.specs.Layout.{epoch_in}
use Rattle.image_blocks.specs.image_facts.Layout.{first_number, header_block, is_open}
use Rattle.image_blocks.specs.declared.areas.Area.{Area}
use Rattle.image_blocks.specs.declared.areas.Area.TheVariants.{A, B}
use Rattle.image_format.specs.image_meaning.Empty.{IsFormatted}
use Rattle.open_kernel.specs.Starts.{HasLowNumbers}

first_epoch : (block : List ℕ) → block ≡ header_block 1 → first_number block ≡ 1
unfolding header_block
first_epoch block is = ap first_number is

module _ (count : ℕ) (image : Image) (f : IsFormatted count image) where
  alone : active_area image ≡ Some A
  alone = ap (λ (b : Bool). active_by b (is_open image 4) (epoch_in image A) (epoch_in image B)) f.active ∙ ap (λ (b : Bool). active_by true b (epoch_in image A) (epoch_in image B)) f.other

  low_epoch : (area : Area) → Some area ≡ Some A → epoch_in image area ≤ 2 ^ 61
  low_epoch A is = (let one = first_epoch (block_at image 1) f.epoch in omega (arith, one))
  low_epoch B is = absurd (cc is)

  pub low_numbers : HasLowNumbers image empty_state
  low_numbers = record {
    epoch = λ area at. low_epoch area (sym at ∙ alone);
    versions = λ x. omega arith;
  }

-- the moment behind the next one
pub next_moment : (now : ℕ) → (next : ℕ) × Ticks now next
next_moment now = ⊎_elim
    (λ (short : now < 2 ^ 64 - 1). (now + 1, record { one_more = λ _. refl; at_end = λ end. absurd (omega (arith, short, end)) }))
    (λ (end : 2 ^ 64 - 1 ≤ now). (now, record { one_more = λ short. absurd (omega (arith, short, end)); at_end = λ _. refl }))
    (cases_lt now (2 ^ 64 - 1))
