use Rattle.std.proofs.Common.{◌≡◌, ◌+◌, Err, Ok, [], ◌∷◌, true, refl, sym, ap, subst, arith, ◌∙◌}
use Rattle.kernel_commit_facts.specs.Parts.{parts_of}
use Rattle.kernel_commit_facts.specs.model_serial.Serial.{written_in}
use Rattle.thread_cells.specs.Locked.{Keeping}
use Rattle.thread_history.specs.Rules.{is_among}
use Rattle.thread_commits.specs.Lent.{OthersStay}
use Rattle.thread_commits.specs.Snapping.{SnapsWritten}
use Rattle.thread_commits.proofs.Along.{GoesAlong, begins, ends, fails_on, passes_on, snaps_on}
use Rattle.thread_commits.proofs.Lent.{among_written, others_begin, others_then, same_two}
use Rattle.thread_commits.proofs.Over.{same_parts}
use Rattle.thread_commits.proofs.touching.snap_touched_two.Goals.{then-touch+in_default, else-touch}
use Rattle.thread_commits.proofs.touching.snap_touched_two.Goals as goal

pub loop-i-init : goal.loop-i-init
loop-i-init g c = record {
  along = begins g.D.Disk (g.P.Policy.wish c.args.gate.now.policy) c.as_slice-touches.result.now (parts_of c.args.store.now c.args.all.now c.args.notes.now) c.requires.steady;
  others = others_begin (c.args.one.now.number ∷ c.args.two.now.number ∷ []) c.args.all.now;
  one = (refl, refl);
  two = (refl, refl);
}

pub snap_of_two-requires-clause-among : goal.snap_of_two-requires-clause-among
snap_of_two-requires-clause-among g c =
    let same = same_two c.loop-i.one.number c.loop-i.two.number c.args.one.now.number c.args.two.now.number c.loop-i.invariant.one.0 c.loop-i.invariant.two.0 in
    subst (λ ns. is_among c.index-touches-i.result.entity ns ≡ true) (sym same)
    (among_written c.args.entry.now (c.args.one.now.number ∷ c.args.two.now.number ∷ []) c.as_slice-touches.result.now c.loop-i.i c.index-touches-i.result c.requires.among c.as_slice-touches.ensures.touches (omega arith) c.index-touches-i.is c.if-touch.true)

pub loop-i-preserved : goal.loop-i-preserved
loop-i-preserved g c =
    let d = g.D.Disk in
    let wish = g.P.Policy.wish c.args.gate.now.policy in
    let ts = c.as_slice-touches.result.now in
    let t = c.index-touches-i.result in
    let first = parts_of c.args.store.now c.args.all.now c.args.notes.now in
    let now = parts_of c.loop-i.store c.loop-i.all c.loop-i.notes in
    let same = same_two c.loop-i.one.number c.loop-i.two.number c.args.one.now.number c.args.two.now.number c.loop-i.invariant.one.0 c.loop-i.invariant.two.0 in
    elim c.if-touch.branch [
      | then-touch+in_default w ↦
          let new = parts_of w.snap_of_two.new.store w.snap_of_two.new.all w.snap_of_two.new.notes in
          let back = sym (same_parts c.if-touch.store w.snap_of_two.new.store c.if-touch.all w.snap_of_two.new.all c.if-touch.notes w.snap_of_two.new.notes w.store-is w.all-is w.notes-is) in
          record {
            along = subst (GoesAlong d wish ts first (c.loop-i.i + 1)) back
                (snaps_on d wish ts first c.loop-i.i t (omega arith) c.index-touches-i.is now c.loop-i.invariant.along c.as_slice-touches.ensures.rising w.if-touch.true new w.in_default.field-0 w.in_default.ensures.snaps);
            others = subst (OthersStay (c.args.one.now.number ∷ c.args.two.now.number ∷ []) c.args.all.now) (sym w.all-is)
                (others_then (c.args.one.now.number ∷ c.args.two.now.number ∷ []) c.args.all.now c.loop-i.all w.snap_of_two.new.all c.loop-i.invariant.others
                (subst (λ ns. OthersStay ns c.loop-i.all w.snap_of_two.new.all) same w.snap_of_two.ensures.others));
            one = (ap (λ (k : Keeping). k.number) w.one-is ∙ (w.snap_of_two.ensures.one.0 ∙ c.loop-i.invariant.one.0), ap (λ (k : Keeping). k.known) w.one-is ∙ (w.snap_of_two.ensures.one.1 ∙ c.loop-i.invariant.one.1));
            two = (ap (λ (k : Keeping). k.number) w.two-is ∙ (w.snap_of_two.ensures.two.0 ∙ c.loop-i.invariant.two.0), ap (λ (k : Keeping). k.known) w.two-is ∙ (w.snap_of_two.ensures.two.1 ∙ c.loop-i.invariant.two.1));
          }
      | else-touch w ↦
          let back = sym (same_parts c.if-touch.store c.loop-i.store c.if-touch.all c.loop-i.all c.if-touch.notes c.loop-i.notes w.store-is w.all-is w.notes-is) in
          record {
            along = subst (GoesAlong d wish ts first (c.loop-i.i + 1)) back (passes_on d wish ts first c.loop-i.i t (omega arith) c.index-touches-i.is now c.loop-i.invariant.along w.if-touch.false);
            others = subst (OthersStay (c.args.one.now.number ∷ c.args.two.now.number ∷ []) c.args.all.now) (sym w.all-is) c.loop-i.invariant.others;
            one = (ap (λ (k : Keeping). k.number) w.one-is ∙ c.loop-i.invariant.one.0, ap (λ (k : Keeping). k.known) w.one-is ∙ c.loop-i.invariant.one.1);
            two = (ap (λ (k : Keeping). k.number) w.two-is ∙ c.loop-i.invariant.two.0, ap (λ (k : Keeping). k.known) w.two-is ∙ c.loop-i.invariant.two.1);
          }
    ]

pub returns-clause-snaps : goal.returns-clause-snaps
returns-clause-snaps g c =
    let d = g.D.Disk in
    let wish = g.P.Policy.wish c.args.gate.now.policy in
    let first = parts_of c.args.store.now c.args.all.now c.args.notes.now in
    let now = parts_of c.loop-i.store c.loop-i.all c.loop-i.notes in
    subst (λ ts. SnapsWritten d wish (written_in ts) (Ok tt) first now) c.as_slice-touches.ensures.touches
    (ends d wish c.as_slice-touches.result.now first c.loop-i.i now (let done = c.loop-i-test.false in omega (arith, done)) c.loop-i.invariant.along)

pub returns-in-Err-clause-snaps : goal.returns-in-Err-clause-snaps
returns-in-Err-clause-snaps g c =
    let d = g.D.Disk in
    let wish = g.P.Policy.wish c.args.gate.now.policy in
    let ts = c.as_slice-touches.result.now in
    let t = c.index-touches-i.result in
    let first = parts_of c.args.store.now c.args.all.now c.args.notes.now in
    let now = parts_of c.loop-i.store c.loop-i.all c.loop-i.notes in
    let new = parts_of c.snap_of_two.new.store c.snap_of_two.new.all c.snap_of_two.new.notes in
    subst (λ us. SnapsWritten d wish (written_in us) (Err c.in-Err.why) first new) c.as_slice-touches.ensures.touches
    (fails_on d wish ts first c.loop-i.i t (omega arith) c.index-touches-i.is now c.loop-i.invariant.along c.as_slice-touches.ensures.rising c.if-touch.true new c.in-Err.why c.in-Err.ensures.snaps)

pub returns-in-Err-clause-others : goal.returns-in-Err-clause-others
returns-in-Err-clause-others g c =
    let same = same_two c.loop-i.one.number c.loop-i.two.number c.args.one.now.number c.args.two.now.number c.loop-i.invariant.one.0 c.loop-i.invariant.two.0 in
    others_then (c.args.one.now.number ∷ c.args.two.now.number ∷ []) c.args.all.now c.loop-i.all c.snap_of_two.new.all c.loop-i.invariant.others
    (subst (λ ns. OthersStay ns c.loop-i.all c.snap_of_two.new.all) same c.snap_of_two.ensures.others)
