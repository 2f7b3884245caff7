use Rattle.std.proofs.Common.{◌≡◌, ℕ, ◌+◌, ◌-◌, ◌/◌, ap, ◌∙◌, arith, take}
use Rattle.image_fits.proofs.names.blob_of.Goals as goal

needed : (n : ℕ) → (n + 1024 - 1) / 1024 ≡ (n + 1023) / 1024
needed n = let e : n + 1024 - 1 ≡ n + 1023 = omega arith in ap (λ m. m / 1024) e

pub returns : goal.returns
returns c = c.front_of.ensures ∙ ap (λ n. take n c.args.rec.now.blocks) (needed c.args.rec.now.length)
