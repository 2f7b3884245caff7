use Rattle.std.proofs.Common.{ℕ, ap}
use Rattle.model_kernel.specs.State.{AtlasState}
use Rattle.plain_states.specs.Plains.{atlas_of}
use Rattle.plain_states.proofs.CountLemmas.{counted_down}
use Rattle.plain_steps.proofs.atlas_acts.remove_mapping.Goals as goal

pub returns-clause-atlas : goal.returns-clause-atlas
returns-clause-atlas c =
    let es = c.args.atlas.now.edges.items in
    let with_edges = λ (e : ℕ → ℕ → ℕ). let a : AtlasState = record (atlas_of c.args.atlas.now) { edges = e } in a in
    ap with_edges (counted_down es c.count_down.new.edges.items c.number.result c.number-2.result c.args.number c.args.region.target c.count_down.ensures.less c.number.ensures.number c.number-2.ensures.number c.requires)
