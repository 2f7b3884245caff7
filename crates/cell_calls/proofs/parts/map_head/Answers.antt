use Rattle.std.proofs.Common.{ap}
use Rattle.cell_states.specs.act_alone.Loci.{locus_of}
use Rattle.cell_states.specs.act_calls.Calls.{atlas_state}
use Rattle.cell_calls.proofs.Extents.{edits, head_extent}
use Rattle.cell_calls.proofs.Wants.{next_mapping}
use Rattle.cell_calls.proofs.parts.map_head.Goals as goal

pub returns-in-Map-clause-extent : goal.returns-in-Map-clause-extent
returns-in-Map-clause-extent c =
    let wants = c.requires.wants in
    head_extent (λ _ _ _. 0) (locus_of c.args.locus.now) (atlas_state c.args.atlas.now) c.args.number c.args.instr (λ _. 0) c.args.head.now c.map.new.into wants.instr wants.allowed wants.other (ap edits c.in-Map.is)
    (c.map.ensures 64 (λ _ _ _. 0) (λ _. 0)).other

pub returns-in-Unmap-clause-extent : goal.returns-in-Unmap-clause-extent
returns-in-Unmap-clause-extent c =
    let wants = c.requires.wants in
    head_extent (λ _ _ _. 0) (locus_of c.args.locus.now) (atlas_state c.args.atlas.now) c.args.number c.args.instr (λ _. 0) c.args.head.now c.unmap.new.from wants.instr wants.allowed wants.other (ap edits c.in-Unmap.is)
    (c.unmap.ensures 64 (λ _ _ _. 0) (λ _. 0)).other

pub map-requires-clause-instr : goal.map-requires-clause-instr
map-requires-clause-instr c = next_mapping (locus_of c.args.locus.now) c.args.instr c.args.number c.requires.wants

pub unmap-requires-clause-instr : goal.unmap-requires-clause-instr
unmap-requires-clause-instr c = next_mapping (locus_of c.args.locus.now) c.args.instr c.args.number c.requires.wants
