use Rattle.std.proofs.Common.{subst}
use Rattle.node_shipments.specs.Parts.{IsSoundShipment}
use Rattle.node_shipments.proofs.Spelling.{sound_few}
use Rattle.node_shipments.proofs.shipments.Shipped.sound_law.Goals as goal

pub returns-clause-sound : goal.returns-clause-sound
returns-clause-sound c = subst IsSoundShipment c.self.view_is c.self.invariant

pub returns-clause-few : goal.returns-clause-few
returns-clause-few c = sound_few c.args.self.now (subst IsSoundShipment c.self.view_is c.self.invariant)
