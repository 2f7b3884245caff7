-- What is written is touched.
use Rattle.std.specs.Prelude.{◌≡◌, ℕ, true}
use Rattle.base_types.specs.declared.histories.Entry.{Entry}
use Rattle.model_kernel.specs.Histories.{touches, writes}
use Rattle.model_kernel.proofs.Lists.{written_touched}

-- who writes an entity touches it
pub touches_written : (e : Entry) (x : ℕ) → writes e x ≡ true → touches e x ≡ true
touches_written e x is = written_touched e.touched x is
