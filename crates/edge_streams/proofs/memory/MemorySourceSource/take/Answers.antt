-- What is copied is what was left first.
use Rattle.std.proofs.Common.{◌≡◌, drop, arith, ap, ◌∙◌}
use Rattle.std.proofs.lemmas.List.{take_rest}
use Rattle.edge_streams.proofs.Streams.{Takes-behind}
use Rattle.edge_streams.proofs.memory.MemorySourceSource.take.Goals as goal

pub returns-clause-bytes : goal.returns-clause-bytes
returns-clause-bytes c =
    let at = c.self.inside.at in
    let behind : drop at c.self.inside.bytes.items ≡ c.args.self.now.left = ap (λ s. s.left) c.self.view_is in
    let shown = take_rest c.deref-2.result.now at ∙ ap (drop at) c.deref-2.ensures.value ∙ behind in
    Takes-behind _ at c.self.inside.bytes.items _ _ c.copy_front-n.new.to behind shown (omega arith) (omega arith) c.copy_front-n.ensures.copied
