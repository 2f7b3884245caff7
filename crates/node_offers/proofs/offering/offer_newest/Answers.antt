use Rattle.node_offers.proofs.Offers.{offers_any}
use Rattle.node_offers.proofs.offering.offer_newest.Goals as goal

pub returns-in-Ok-offer_found-clause-told : goal.returns-in-Ok-offer_found-clause-told
returns-in-Ok-offer_found-clause-told g c = λ told b lives.
    offers_any b c.args.kernel.now.parts.noted.entries c.args.entity c.args.sender.now c.offer_found.new.sender c.in-Ok.found (c.in-Ok.ensures.told told b lives c.requires.going) c.offer_found.ensures.sound c.in-Ok-offer_found.ensures.ok
