use Rattle.std.proofs.Common.{length, sym, subst, ◌∙◌}
use Rattle.std.proofs.lemmas.List.{take_more}
use Rattle.node_exchange.proofs.Playing.{in_order}
use Rattle.node_exchange.proofs.Taking.{err_then, ok_then, played_more, played_none, step_more, takes_more, takes_none}
use Rattle.node_exchange.specs.Playing.{HasPlayed}
use Rattle.node_exchange.specs.Wires.{AreInOrder}
use Rattle.node_exchange.specs.declared.exchanging.Happening.TheVariants as happening
use Rattle.node_exchange.proofs.exchanging.exchange.Goals as goal

pub loop-event-init : goal.loop-event-init
loop-event-init g c = record {
  step = c.requires.step;
  takes = takes_none g.D.Disk c.args.made.now c.args.standby.now (λ image t left. g.met.D.Disk.only_now c.args.standby.now.store.disk image t left);
  played = played_none c.args.made.now c.args.lines.now c.args.standby.now;
}

pub loop-event-preserved : goal.loop-event-preserved
loop-event-preserved g c =
    let made = c.args.made.now in
    let events = c.args.events.now in
    let index = c.loop-event.event-index in
    let inv = c.loop-event.invariant in
    let p = c.play.ensures in
    let one = ok_then c.play.result (sym c.is_err.ensures.value ∙ c.if-is_err.false) p.played in
    record {
      step = step_more made _ c.loop-event.lines c.play.new.lines c.loop-event.standby c.play.new.standby inv.step one;
      takes = takes_more g.D.Disk made c.args.standby.now c.loop-event.standby c.play.new.standby inv.takes p.takes;
      played = subst (λ hs. HasPlayed made hs c.args.lines.now c.play.new.lines c.args.standby.now c.play.new.standby) (sym (take_more events index happening.Offer c.loop-event-test.true))
          (played_more made _ _ c.args.lines.now c.loop-event.lines c.play.new.lines c.args.standby.now c.loop-event.standby c.play.new.standby p.takes.stuck inv.played one);
    }

pub returns-then-is_err-clause-order : goal.returns-then-is_err-clause-order
returns-then-is_err-clause-order g c =
    let made = length c.args.made.now in
    let same = err_then c.play.result (sym c.is_err.ensures.value ∙ c.if-is_err.true) c.play.ensures.err in
    subst (λ w. AreInOrder w c.play.new.standby.count made) (sym same.0)
    (subst (λ st. AreInOrder c.loop-event.lines st.count made) (sym same.1) (in_order c.loop-event.lines c.loop-event.standby.count made c.loop-event.invariant.step))

pub returns-clause-order : goal.returns-clause-order
returns-clause-order g c = in_order c.loop-event.lines c.loop-event.standby.count (length c.args.made.now) c.loop-event.invariant.step
