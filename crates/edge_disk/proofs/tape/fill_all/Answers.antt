use Rattle.std.proofs.Common.{length, subst, sym}
use Rattle.std.proofs.lemmas.List.Elements.{All-take}
use Rattle.edge_disk.specs.Image.{IsImage}
use Rattle.edge_disk.specs.Kept.{IsSound}
use Rattle.edge_disk.specs.declared.calls.Call.{Call}
use Rattle.edge_disk.proofs.TornImages.{IsImage-filled_fold}
use Rattle.edge_disk.proofs.tape.fill_all.Goals as goal

pub returns-clause-whole : goal.returns-clause-whole
returns-clause-whole c whole =
    let count = length c.args.blocks.now.items in
    let sound = All-take (λ (call : Call). IsSound count call) c.loop-call.call-index c.args.calls.now c.requires in
    subst (IsImage count) (sym c.loop-call.invariant.1) (IsImage-filled_fold count c.args.byte c.args.blocks.now.items _ c.ranges.byte.fits sound whole)
