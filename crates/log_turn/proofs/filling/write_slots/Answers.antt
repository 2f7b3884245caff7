use Rattle.std.proofs.Common.{◌<◌, ◌∙◌, arith}
use Rattle.edge_disk.proofs.Images.{SameOutside-trans, SameOutside-weaker}
use Rattle.edge_disk.proofs.Phases.{Quiet-then, Quiet-weaker, told}
use Rattle.edge_tally.proofs.Counting.{CountsOn-then}
use Rattle.log_append.specs.image_blocks.Layout.{header_at}
use Rattle.log_append.specs.log_facts.Stages.{IsBehindGate}
use Rattle.log_append.proofs.log_facts_lemmas.Slots.{first_all, first_more, header_not_slot, slot_behind}
use Rattle.log_turn.proofs.filling.write_slots.Goals as goal

pub returns-in_err-write_slot-clause-counts : goal.returns-in_err-write_slot-clause-counts
returns-in_err-write_slot-clause-counts g c = CountsOn-then _ _ _ _ _ _ c.loop-i.invariant.counts c.write_slot.ensures.counts

pub returns-in_err-write_slot-clause-any_moment : goal.returns-in_err-write_slot-clause-any_moment
returns-in_err-write_slot-clause-any_moment g c t =
    let disk = g.met.D.Disk in
    let laws = told g.D.Disk t disk.counts_now disk.only_now in
    let low : c.loop-i.i < 640 = (let a = c.loop-i-test.true in let b = c.requires.few in omega (arith, a, b)) in
    Quiet-then laws (c.loop-i.invariant.quiet t)
    (Quiet-weaker laws (IsBehindGate c.args.area) (λ n. slot_behind c.args.area c.loop-i.i n low) (c.write_slot.ensures.any_moment t))

pub loop-i-preserved : goal.loop-i-preserved
loop-i-preserved g c =
    let so_far = c.loop-i.invariant in
    let disk = g.met.D.Disk in
    let low : c.loop-i.i < 640 = (let a = c.loop-i-test.true in let b = c.requires.few in omega (arith, a, b)) in
    record {
      count = c.write_slot.ensures.count ∙ so_far.count;
      few = (let a = so_far.few in let b = c.write_slot.ensures.few in omega (arith, a, b));
      counts = CountsOn-then _ _ _ _ _ _ so_far.counts c.write_slot.ensures.counts;
      later = (let a = so_far.later in let b = c.write_slot.ensures.cause.later in omega (arith, a, b));
      first = λ t. first_more c.args.area c.args.kept.now c.loop-i.i _ _ _ c.index-kept-i.is (so_far.first t) (c.write_slot.ensures.reading t) (c.in_ok-write_slot.ensures.body t) (c.in_ok-write_slot.ensures.gate t);
      header = λ t. (c.write_slot.ensures.reading t).same (header_at c.args.area) (header_not_slot c.args.area c.loop-i.i) ∙ so_far.header t;
      same = λ t. SameOutside-trans _ _ _ _ (so_far.same t) (SameOutside-weaker _ _ _ _ (λ n. slot_behind c.args.area c.loop-i.i n low) (c.write_slot.ensures.reading t));
      quiet = λ t. Quiet-then (told g.D.Disk t disk.counts_now disk.only_now) (so_far.quiet t)
          (Quiet-weaker (told g.D.Disk t disk.counts_now disk.only_now) (IsBehindGate c.args.area) (λ n. slot_behind c.args.area c.loop-i.i n low) (c.write_slot.ensures.any_moment t));
    }

pub returns-clause-filled : goal.returns-clause-filled
returns-clause-filled g c t = first_all c.args.area c.args.kept.now c.loop-i.i _ (let a = c.loop-i-test.false in omega (arith, a)) (c.loop-i.invariant.first t)
