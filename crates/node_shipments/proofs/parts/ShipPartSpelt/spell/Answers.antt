use Rattle.std.proofs.Common.{length, sym, ap, ◌∙◌}
use Rattle.node_shipments.specs.Parts.{bytes_over}
use Rattle.node_shipments.specs.declared.parts.ShipPart.{ShipPart}
use Rattle.node_shipments.proofs.Spelling.{same_length, some_bytes}
use Rattle.node_shipments.proofs.parts.ShipPartSpelt.spell.Goals as goal

pub returns-in-Atlas-clause-some : goal.returns-in-Atlas-clause-some
returns-in-Atlas-clause-some c = some_bytes c.args.self.now c.requires

pub returns-in-Container-clause-length : goal.returns-in-Container-clause-length
returns-in-Container-clause-length c =
    ap length (c.write_container.ensures (λ _. 0) ∙ sym (ap (λ (x : ShipPart). bytes_over x c.args.table.now) c.in-Container.is))
    ∙ same_length c.args.self.now c.args.table.now c.requires c.told-table

pub returns-in-Container-clause-some : goal.returns-in-Container-clause-some
returns-in-Container-clause-some c = some_bytes c.args.self.now c.requires

pub returns-in-Locus-clause-some : goal.returns-in-Locus-clause-some
returns-in-Locus-clause-some c = some_bytes c.args.self.now c.requires
