use Rattle.std.proofs.Common.{ℕ, length, replicate, arith, subst, sym}
use Rattle.std.proofs.lemmas.List.{length-replicate}
use Rattle.edge_disk.specs.Image.{Image, IsImage}
use Rattle.edge_disk.proofs.TornImages.{IsImage-replicate}
use Rattle.edge_disk.proofs.memory.MemoryDisk.new.Goals as goal

pub with_blocks-requires-clause-whole : goal.with_blocks-requires-clause-whole
with_blocks-requires-clause-whole c =
    let zeros : Image = replicate c.args.blocks (replicate 1024 0) in
    let whole : IsImage (length zeros) zeros =
    subst (λ (n : ℕ). IsImage n zeros) (sym (length-replicate c.args.blocks (replicate 1024 0))) (IsImage-replicate c.args.blocks 0 (omega arith)) in
    subst (λ (image : Image). IsImage (length image) image) (sym c.in_ok-zero_blocks.ensures) whole
