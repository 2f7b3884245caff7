use Rattle.std.proofs.Common.{length}
use Rattle.node_mirror.proofs.Shipping.{new_offered}
use Rattle.node_mirror.proofs.offering.offer.Goals as goal

pub returns-clause-ships : goal.returns-clause-ships
returns-clause-ships g c = λ told b before lives found ship all.
    new_offered b c.args.kernel.now.parts.noted.entries (length before) c.offer_new.new.known c.args.sender.now c.offer_new.new.sender c.offer_new.result (c.offer_new.ensures.offers told b before lives found) ship all
