use Rattle.std.proofs.Common.{◌≡◌, ℕ, List, [], ◌∷◌, ◌++◌, replicate, rules, ap, ◌∙◌}
use Rattle.std.proofs.lemmas.List.{replicate_more}
use Rattle.edge_disk.proofs.memory.zero_blocks.Goals as goal

pub loop-made-preserved : goal.loop-made-preserved
loop-made-preserved c =
    let zero : List ℕ = replicate 1024 0 in
    let pushed : c.push.new.self.items ≡ c.loop-made.blocks.items ++ zero ∷ [] = search rules in
    pushed ∙ ap (λ (blocks : List (List ℕ)). blocks ++ zero ∷ []) c.loop-made.invariant ∙ replicate_more c.loop-made._made zero
