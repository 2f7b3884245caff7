use Rattle.std.proofs.Common.{ℕ, ◌+◌, take}
use Rattle.image_fit_facts.specs.Naming.{AreUses, count_of}
use Rattle.image_fits.proofs.names.add_uses.Given as goal

abbrev pub invariant-loop-block : goal.invariant-loop-block
invariant-loop-block l = (f : ℕ → ℕ) → AreUses l.fn.uses f → AreUses l.uses (λ b. f b + count_of (take l.block-index l.blocks) b)
