use Rattle.std.proofs.Common.{length, sym, subst}
use Rattle.std.specs.Prelude.{Ok}
use Rattle.node_exchange.proofs.Playing.{count_low}
use Rattle.node_exchange.proofs.Taking.{plays_comes, plays_heard, plays_offer, plays_send, plays_tell}
use Rattle.node_exchange.specs.Playing.{PlaysOn}
use Rattle.node_exchange.proofs.exchanging.play.Goals as goal

pub hear-requires : goal.hear-requires
hear-requires g c count is = count_low c.args.lines.now c.args.standby.now.count (length c.args.made.now) c.requires c.in-Heard.which count is

pub returns-in-Offer : goal.returns-in-Offer
returns-in-Offer g c =
    let w = c.args.lines.now in
    let w' = c.offer_next.new.lines in
    let st = c.args.standby.now in
    let made = c.args.made.now in
    let r = c.offer_next.result in
    subst (λ h. PlaysOn g.D.Disk made h w w' st st r) (sym c.in-Offer.is)
    (plays_offer g.D.Disk made w w' st (λ image t left. g.met.D.Disk.only_now st.store.disk image t left) r
    c.offer_next.ensures.world c.offer_next.ensures.err)

pub returns-in-Send : goal.returns-in-Send
returns-in-Send g c =
    let st = c.args.standby.now in
    subst (λ h. PlaysOn g.D.Disk c.args.made.now h c.args.lines.now c.send.new.self st st c.send.result) (sym c.in-Send.is)
    (plays_send g.D.Disk c.args.made.now c.args.lines.now c.send.new.self st (λ image t left. g.met.D.Disk.only_now st.store.disk image t left) c.in-Send.number c.send.result c.send.ensures.sent c.send.ensures.err)

pub returns-in-Comes : goal.returns-in-Comes
returns-in-Comes g c =
    subst (λ h. PlaysOn g.D.Disk c.args.made.now h c.args.lines.now c.args.lines.now c.args.standby.now c.come.new.standby (Ok tt)) (sym c.in-Comes.is)
    (plays_comes g.D.Disk c.args.made.now c.args.lines.now c.args.standby.now c.come.new.standby c.in-Comes.which c.come.result c.come.ensures)

pub returns-in-Tell : goal.returns-in-Tell
returns-in-Tell g c =
    let st = c.args.standby.now in
    subst (λ h. PlaysOn g.D.Disk c.args.made.now h c.args.lines.now c.tell.new.self st st c.tell.result) (sym c.in-Tell.is)
    (plays_tell g.D.Disk c.args.made.now c.args.lines.now c.tell.new.self st (λ image t left. g.met.D.Disk.only_now st.store.disk image t left) c.count.result c.tell.result c.count.ensures c.tell.ensures.told c.tell.ensures.err)

pub returns-in-Heard : goal.returns-in-Heard
returns-in-Heard g c =
    let st = c.args.standby.now in
    subst (λ h. PlaysOn g.D.Disk c.args.made.now h c.args.lines.now c.hear.new.self st st (Ok tt)) (sym c.in-Heard.is)
    (plays_heard g.D.Disk c.args.made.now c.args.lines.now c.hear.new.self st (λ image t left. g.met.D.Disk.only_now st.store.disk image t left) c.in-Heard.which c.hear.ensures)
