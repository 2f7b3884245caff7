use Rattle.std.proofs.Common.{◌≡◌, List, refl, subst, ap, ◌∙◌}
use Rattle.edge_disk.specs.Kept.{MayLeave, Standing, settled, standing}
use Rattle.edge_disk.specs.declared.calls.Call.{Call}
use Rattle.edge_disk.proofs.KeptCalls.{Only-settled}
use Rattle.edge_disk.proofs.memory.MemoryDisk.with_blocks.Goals as goal

pub returns : goal.returns
returns c =
    let tape = c.in_ok-new.field-0 in
    let stands : standing tape.first.items tape.calls.items ≡ settled c.args.blocks.items =
    ap (λ (calls : List Call). standing tape.first.items calls) c.in_ok-new.ensures.calls ∙ ap settled c.in_ok-new.ensures.first in
    record {
      reading = c.in_ok-new.ensures.blocks;
      settled = λ image left. Only-settled c.args.blocks.items image (subst (λ (s : Standing). MayLeave s image) stands left);
      moments = c.in_ok-new.ensures.clock;
      calls = refl;
      faults = refl;
      room_is = c.in_ok-new.ensures.room;
      fails_are = refl;
    }
