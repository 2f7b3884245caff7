use Rattle.node_shipments.proofs.Spelling.{same_length, some_bytes, spelt_over}
use Rattle.node_shipments.proofs.shipments.shipment_law.Goals as goal

pub returns-clause-spells : goal.returns-clause-spells
returns-clause-spells c = spelt_over

pub returns-clause-length : goal.returns-clause-length
returns-clause-length c = same_length

pub returns-clause-some : goal.returns-clause-some
returns-clause-some c = some_bytes
