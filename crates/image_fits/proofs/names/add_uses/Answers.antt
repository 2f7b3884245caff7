use Rattle.std.proofs.Common.{◌+◌, take}
use Rattle.image_fit_facts.specs.Naming.{count_of, one_at}
use Rattle.image_fit_facts.proofs.Uses.{read_again, summed_end, summed_more, summed_none}
use Rattle.image_fits.proofs.names.add_uses.Goals as goal

pub loop-block-init : goal.loop-block-init
loop-block-init c = λ f before. summed_none c.args.uses.now f before

pub loop-block-preserved : goal.loop-block-preserved
loop-block-preserved c = λ f before.
    summed_more c.add_use.new.uses f (λ b n. one_at n b) c.args.blocks.now c.loop-block.block-index _ c.loop-block-test.true (read_again c.args.blocks.now c.loop-block.block-index c.loop-block-test.true)
    (c.add_use.ensures (λ b. f b + count_of (take c.loop-block.block-index c.args.blocks.now) b) (c.loop-block.invariant f before))

pub returns : goal.returns
returns c = λ f before. summed_end c.loop-block.uses f (λ b n. one_at n b) c.args.blocks.now c.loop-block.block-index c.loop-block-test.false (c.loop-block.invariant f before)
