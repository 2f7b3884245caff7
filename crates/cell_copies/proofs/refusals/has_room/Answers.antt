use Rattle.std.proofs.Common.{◌∙◌, ◌+◌, ℕ, not, nat_lt, length, sym, ap}
use Rattle.cell_copies.proofs.Refusing.{no_free}
use Rattle.cell_copies.proofs.refusals.has_room.Goals as goal

pub returns : goal.returns
returns c = no_free (nat_lt (length c.args.atlas.now.containers) 40) (length c.args.atlas.now.containers + 1) ∙ ap (λ (n : ℕ). not (nat_lt n 40)) (sym c.named.ensures.number)
