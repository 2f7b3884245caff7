use Rattle.std.specs.Prelude.{⊤}
use Rattle.kernel_commit_facts.specs.kernel_invariant.declared.stopping.Stopped.TheVariants as reason
use Rattle.std.proofs.Common.{Bool, true, false, Ok, Err, sym, ap, ◌∙◌, subst, refl}
use Rattle.std.proofs.lemmas.Bool.{false≢true}
use Rattle.kernel_commit_facts.specs.Snapping.{Snaps}
use Rattle.kernel_commit_facts.proofs.Committing.{clean_again}
use Rattle.kernel_commit_facts.proofs.Steadying.{steady_again}
use Rattle.kernel_commits.proofs.Telling.{adds_none, adds_one, fails_noting}
use Rattle.kernel_commits.proofs.Wishing.{err_over, may_record, none_made, one_answer, one_failed, one_lacks, one_made, one_part}
use Rattle.kernel_commit_facts.proofs.kernel_block_laws_lemmas.Enough.{calm_whole}
use Rattle.kernel_commit_facts.proofs.Enough.{short_lacks}
use Rattle.kernel_commits.proofs.snapping.snap_one.Goals as goal

pub returns-then-not-wants_snap-clause-made : goal.returns-then-not-wants_snap-clause-made
returns-then-not-wants_snap-clause-made g c = λ is.
    absurd (false≢true (one_answer (g.P.Policy.wish c.args.gate.now.policy) c.args.entity c.args.core.now c.wants_snap.ensures.there.0 c.wants_snap.ensures.there.1 false true (subst (Snaps (g.P.Policy.wish c.args.gate.now.policy) c.args.entity c.args.core.now) c.if-not-wants_snap.true c.wants_snap.ensures.snaps) is))

pub returns-then-not-wants_snap-clause-no_blocks : goal.returns-then-not-wants_snap-clause-no_blocks
returns-then-not-wants_snap-clause-no_blocks g c = λ n.
    ((λ is. absurd (cc is)), (λ both. absurd (false≢true (one_answer (g.P.Policy.wish c.args.gate.now.policy) c.args.entity c.args.core.now c.wants_snap.ensures.there.0 c.wants_snap.ensures.there.1 false true (subst (Snaps (g.P.Policy.wish c.args.gate.now.policy) c.args.entity c.args.core.now) c.if-not-wants_snap.true c.wants_snap.ensures.snaps) both.0))))

pub returns-then-not-wants_snap-clause-run : goal.returns-then-not-wants_snap-clause-run
returns-then-not-wants_snap-clause-run g c = λ told b free.
    none_made g.D.Disk b (g.P.Policy.wish c.args.gate.now.policy) c.args.entity c.args.core.now told free c.wants_snap.ensures.there.0 c.wants_snap.ensures.there.1 (c.wants_snap.ensures.run told b free ∙ c.if-not-wants_snap.true) (Ok false) false refl

pub returns-in-Err-clause-none : goal.returns-in-Err-clause-none
returns-in-Err-clause-none g c = λ is.
    absurd (false≢true (one_answer (g.P.Policy.wish c.args.gate.now.policy) c.args.entity c.args.core.now c.wants_snap.ensures.there.0 c.wants_snap.ensures.there.1 false true is (subst (Snaps (g.P.Policy.wish c.args.gate.now.policy) c.args.entity c.args.core.now) c.if-not-wants_snap.false c.wants_snap.ensures.snaps)))

pub returns-in-Err-clause-no_blocks : goal.returns-in-Err-clause-no_blocks
returns-in-Err-clause-no_blocks g c = λ n.
    let h = c.in-Err.ensures.no_blocks n in
    ((λ is. ((subst (Snaps (g.P.Policy.wish c.args.gate.now.policy) c.args.entity c.args.core.now) c.if-not-wants_snap.false c.wants_snap.ensures.snaps), h.0 (err_over Bool ⊤ c.in-Err.why (reason.NoBlocks n) is))), (λ both. err_over ⊤ Bool c.in-Err.why (reason.NoBlocks n) (h.1 both.1)))

pub returns-in-Err-clause-run : goal.returns-in-Err-clause-run
returns-in-Err-clause-run g c = λ told b free.
    let test = c.wants_snap.ensures.run told b free ∙ c.if-not-wants_snap.false in
    one_failed g.D.Disk b (g.P.Policy.wish c.args.gate.now.policy) c.args.entity c.args.core.now told free c.wants_snap.ensures.there.0 c.wants_snap.ensures.there.1 c.record_one.new.core (Err c.in-Err.why) c.in-Err.why refl
    (c.in-Err.ensures.run told b (may_record g.D.Disk b (g.P.Policy.wish c.args.gate.now.policy) c.args.entity c.args.core.now told free c.wants_snap.ensures.there.0 c.wants_snap.ensures.there.1 test)).lives

pub returns-in-Ok-clause-steady : goal.returns-in-Ok-clause-steady
returns-in-Ok-clause-steady g c =
    let can = c.wants_snap.ensures.can c.if-not-wants_snap.false in
    let r = c.in-Ok.ensures.recorded in
    steady_again g.D.Disk c.args.entity c.args.core.now c.record_one.new.core c.requires.steady r can.few
    (can.noted r.made.before (ap (Rattle.std.proofs.Common.slice_get c.args.core.now.cells) (sym r.made.commits.number) ∙ r.made.commits.lends.stood.0)) r.made.true_books

pub returns-in-Ok-clause-none : goal.returns-in-Ok-clause-none
returns-in-Ok-clause-none g c = λ is.
    absurd (false≢true (one_answer (g.P.Policy.wish c.args.gate.now.policy) c.args.entity c.args.core.now c.wants_snap.ensures.there.0 c.wants_snap.ensures.there.1 false true is (subst (Snaps (g.P.Policy.wish c.args.gate.now.policy) c.args.entity c.args.core.now) c.if-not-wants_snap.false c.wants_snap.ensures.snaps)))

pub returns-in-Ok-clause-no_blocks : goal.returns-in-Ok-clause-no_blocks
returns-in-Ok-clause-no_blocks g c = λ n.
    ((λ is. absurd (cc is)), (λ both. absurd (let e = (c.in-Ok.ensures.no_blocks n).1 both.1 in cc e)))

pub returns-in-Ok-clause-run : goal.returns-in-Ok-clause-run
returns-in-Ok-clause-run g c = λ told b free.
    let test = c.wants_snap.ensures.run told b free ∙ c.if-not-wants_snap.false in
    one_made g.D.Disk b (g.P.Policy.wish c.args.gate.now.policy) c.args.entity c.args.core.now told free c.wants_snap.ensures.there.0 c.wants_snap.ensures.there.1 c.record_one.new.core test c.in-Ok.ensures.recorded
    (c.in-Ok.ensures.run told b (may_record g.D.Disk b (g.P.Policy.wish c.args.gate.now.policy) c.args.entity c.args.core.now told free c.wants_snap.ensures.there.0 c.wants_snap.ensures.there.1 test)).stands (Ok true) true refl

pub returns-in-Ok-clause-clean : goal.returns-in-Ok-clause-clean
returns-in-Ok-clause-clean g c = λ told s clean.
    clean_again g.D.Disk c.args.entity c.args.core.now c.record_one.new.core c.requires.steady.sound.matches.orderly c.in-Ok.ensures.recorded.made told s clean

pub returns-in-Err-clause-part : goal.returns-in-Err-clause-part
returns-in-Err-clause-part g c = λ told b free.
    let test = c.wants_snap.ensures.run told b free ∙ c.if-not-wants_snap.false in
    let s = c.record_one.ensures in
    one_part g.D.Disk b (g.P.Policy.wish c.args.gate.now.policy) c.args.entity c.args.core.now told free c.wants_snap.ensures.there.0 c.wants_snap.ensures.there.1 test
    c.record_one.new.core c.record_one.result s.fails c.in-Err.why c.in-Err.is

pub returns-in-Err-clause-enough : goal.returns-in-Err-clause-enough
returns-in-Err-clause-enough g c = λ told b free n is.
    let d = g.D.Disk in
    let runs = free.stands.runs in
    let test = c.wants_snap.ensures.run told b free ∙ c.if-not-wants_snap.false in
    let failed = err_over Bool ⊤ c.in-Err.why (reason.NoBlocks n) is in
    let short = (c.in-Err.ensures.no_blocks n).0 failed in
    one_lacks d b (g.P.Policy.wish c.args.gate.now.policy) c.args.entity c.args.core.now told free c.wants_snap.ensures.there.0 c.wants_snap.ensures.there.1 test
    c.record_one.new.core (c.in-Err.ensures.fails.untouched n failed)
    (short_lacks d b c.args.core.now told free.stands (calm_whole b c.args.core.now.noted.entries runs.begins runs.legal free.owes_nothing)
    c.args.entity n short) c.requires.steady.sound.matches.few n short

pub returns-then-not-wants_snap-clause-fails : goal.returns-then-not-wants_snap-clause-fails
returns-then-not-wants_snap-clause-fails g c = record { untouched = λ n is. absurd (cc is); tried = λ is. absurd (cc is); no_read = λ is. cc is }

pub returns-then-not-wants_snap-clause-notes : goal.returns-then-not-wants_snap-clause-notes
returns-then-not-wants_snap-clause-notes g c = adds_none c.args.core.now.noted.entries c.args.core.now.noted.entries refl

pub returns-in-Ok-clause-fails : goal.returns-in-Ok-clause-fails
returns-in-Ok-clause-fails g c = record { untouched = λ n is. absurd (cc is); tried = λ is. absurd (cc is); no_read = λ is. cc is }

pub returns-in-Ok-clause-notes : goal.returns-in-Ok-clause-notes
returns-in-Ok-clause-notes g c =
    adds_one c.args.core.now.noted.entries c.record_one.new.core.noted.entries _ c.in-Ok.ensures.recorded.entries (λ is. cc is)

pub returns-in-Err-clause-fails : goal.returns-in-Err-clause-fails
returns-in-Err-clause-fails g c =
    let f = c.record_one.ensures.fails in
    let err = err_over Bool ⊤ c.in-Err.why in
    record {
      untouched = λ n is. f.untouched n (c.in-Err.is ∙ err (reason.NoBlocks n) is);
      tried = λ is. f.tried (c.in-Err.is ∙ err reason.WriteFault is);
      no_read = λ is. f.no_read (c.in-Err.is ∙ err reason.ReadFault is);
    }

pub returns-in-Err-clause-notes : goal.returns-in-Err-clause-notes
returns-in-Err-clause-notes g c =
    fails_noting g.D.Disk c.args.entity c.args.core.now c.record_one.new.core {T = Bool} c.in-Err.why (returns-in-Err-clause-fails g c)
