use Rattle.std.proofs.Common.{sym, ◌∙◌}
use Rattle.node_shipments.proofs.Spelling.{head_spelt}
use Rattle.node_shipments.proofs.reading.read_part.Goals as goal

pub returns-in-Ok-read_container : goal.returns-in-Ok-read_container
returns-in-Ok-read_container c =
    let s = head_spelt c.in-Ok-read_container.read.head c.in-Ok-read_container.read.blocks c.args.bytes.now (c.in-Ok-read_container.ensures.read (λ _. 0)) in
    (sym c.in-Container.is ∙ c.kind.ensures, s.0, s.1)
