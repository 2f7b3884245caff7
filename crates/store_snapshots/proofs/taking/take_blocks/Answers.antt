use Rattle.std.proofs.Common.{◌≡◌, ◌∙◌, ◌<◌, ◌≤◌, ◌+◌, ◌||◌, ℕ, sym, subst, set, true, false, arith}
use Rattle.std.proofs.lemmas.List.{length-set}
use Rattle.data_blocks.specs.Ledger.{Ledger, is_held, is_named}
use Rattle.store_facts.specs.Taking.{HasTaken}
use Rattle.store_facts.proofs.Marks.{ok_if, ok_on, taken_more}
use Rattle.store_snapshots.proofs.taking.take_blocks.Goals as goal

pub loop-i-preserved : goal.loop-i-preserved
loop-i-preserved c =
    let so_far = c.loop-i.invariant in
    let mid : Ledger = c.loop-i.ledger in
    let block : ℕ = c.unwrap.result in
    let size = so_far.size in
    let few = c.requires.few in
    let lt = c.loop-i-test.true in
    let is = ok_if c.take_block.result block (λ n. c.take_block.new.self ≡ record mid { held = set mid.held n true }) c.unwrap.ensures c.take_block.ensures.value in
    let range = ok_if c.take_block.result block (λ n. (mid.first ≤ n) × (n < mid.end)) c.unwrap.ensures c.take_block.ensures.range in
    let unused = ok_if c.take_block.result block (λ n. (is_held mid n || is_named mid n) ≡ false) c.unwrap.ensures c.take_block.ensures.unused in
    let fewer = ok_on c.take_block.result block _ c.unwrap.ensures c.take_block.ensures.fewer in
    record {
      size = length-set c.loop-i.blocks c.loop-i.i block ∙ size;
      taken = subst (λ (l : Ledger). HasTaken (c.loop-i.i + 1) c.args.ledger.now l (set c.loop-i.blocks c.loop-i.i block)) (sym is)
          (taken_more c.loop-i.i c.args.ledger.now mid c.loop-i.blocks so_far.taken block (omega (arith, lt, few, size)) c.requires.marked range.0 range.1 unused);
      left = (let left = so_far.left in omega (arith, left, fewer));
    }
