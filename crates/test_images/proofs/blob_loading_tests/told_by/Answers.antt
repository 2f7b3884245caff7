use Rattle.std.proofs.Common.{◌≡◌, ℕ, ◌<◌, ◌≤◌, get_or, sym, ap, subst, ◌∙◌, arith}
use Rattle.std.specs.Prelude.{All}
use Rattle.std.proofs.lemmas.List.{get_or-take, length-take}
use Rattle.std.proofs.lemmas.List.Elements.{All-from_get_or}
use Rattle.base_types.specs.declared.records.Rec.{Rec}
use Rattle.image_blocks.specs.image_facts.Bodies.{blob_blocks, blocks_for}
use Rattle.test_images.proofs.blob_loading_tests.told_by.Goals as goal

-- a blob of one block
one_block : (r : Rec) (count : ℕ) → r.length ≤ 1024 → get_or r.blocks 0 0 < count → All (λ b. b < count) (blob_blocks r)
one_block r count few low =
    All-from_get_or (λ b. b < count) (blob_blocks r) 0
    (λ k lt.
    let long = length-take (blocks_for r.length) r.blocks in
    let at : k < blocks_for r.length = omega (arith, lt, long) in
    let e : k ≡ 0 = omega (arith, at, few) in
    let same = get_or-take (blocks_for r.length) r.blocks k 0 at in
    subst (λ (n : ℕ). n < count) (sym (same ∙ ap (λ (i : ℕ). get_or r.blocks i 0) e)) low)

pub load-requires-clause-there : goal.load-requires-clause-there
load-requires-clause-there c =
    let few : c.args.rec.now.length ≤ 1024 = omega arith in
    let low : get_or c.args.rec.now.blocks 0 0 < c.blocks-blocks.result = omega arith in
    subst (λ (n : ℕ). All (λ b. b < n) (blob_blocks c.args.rec.now)) c.blocks-blocks.ensures (one_block c.args.rec.now c.blocks-blocks.result few low)
