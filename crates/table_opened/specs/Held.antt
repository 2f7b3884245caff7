-- Which blocks are held of an image that was opened.
use Rattle.std.specs.Prelude.{◌≡◌, ◌≢◌, ℕ, Bool, true, Option, slice_index}
use Rattle.image_state_laws.specs.image_meaning.Parts.{Part}
use Rattle.image_chosen.specs.image_chosen_facts.Tables.{blocks_in}

-- THE HELD BLOCKS are exactly those that the pages of these parts have
pub record HoldsNamed (held : ℕ → Bool) (parts : ℕ → Option Part) : Type 0 where
  pub all_held : (x page : ℕ) → slice_index (blocks_in (parts x)) page ≢ 0 → held (slice_index (blocks_in (parts x)) page) ≡ true
  pub no_others : (n : ℕ) → held n ≡ true → (x : ℕ) × (page : ℕ) × (n ≢ 0) × (slice_index (blocks_in (parts x)) page ≡ n)
