use Rattle.std.proofs.Common.{ℕ, ap, ◌∙◌}
use Rattle.model_kernel.specs.State.{AtlasState}
use Rattle.plain_states.specs.EdgeLists.{edge_more}
use Rattle.plain_states.specs.Plains.{atlas_of}
use Rattle.plain_states.proofs.CountLemmas.{counted_up}
use Rattle.plain_steps.proofs.atlas_acts.add_mapping.Goals as goal

pub returns-clause-atlas : goal.returns-clause-atlas
returns-clause-atlas c =
    let es = c.args.atlas.now.edges.items in
    let from = c.number-from.result in
    let to = c.number-to.result in
    let with_edges = λ (e : ℕ → ℕ → ℕ). let a : AtlasState = record (atlas_of c.args.atlas.now) { edges = e } in a in
    ap with_edges (counted_up es c.count_up.new.edges.items from to c.args.number c.args.region.target (c.count_up.ensures.more ∙ ap (edge_more from to) c.in_ok-reserve.ensures.items) c.number-from.ensures.number c.number-to.ensures.number c.requires.edges.ascending)
