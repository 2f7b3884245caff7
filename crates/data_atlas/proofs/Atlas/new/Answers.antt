use Rattle.std.proofs.Common.{arith}
use Rattle.data_atlas_facts.proofs.Naming.{no_edges, nothing_born}
use Rattle.data_atlas.proofs.Atlas.new.Goals as goal

pub invariant_of-result : goal.invariant_of-result
invariant_of-result c = ((λ x y some. absurd (omega (arith, no_edges 41 41 x y, some))), nothing_born _ _ _ c.new.ensures c.new-2.ensures)
