use Rattle.std.proofs.Common.{◌≡◌, ◌↔◌, Bool, true, Ok, Err, sym, ap, subst, ◌∙◌}
use Rattle.std.specs.Prelude.{IfErr, IsErrOf, OnOk}
use Rattle.script_types.specs.model_kernel.Histories.{Policy}
use Rattle.kernel_core_facts.specs.kernel_invariant.Beginnings.{run_of}
use Rattle.kernel_core_facts.specs.model_serial.Serial.{wished_snap}
use Rattle.kernel_core_facts.specs.Kernels.{Held, Lives, NotesAlong, StaysClean}
use Rattle.kernel_core_facts.specs.kernel_commit_facts.Parts.{Parts}
use Rattle.kernel_core_facts.specs.kernel_commit_facts.Recording.{HasRecorded, HasTried, IsShort}
use Rattle.kernel_core_facts.specs.kernel_commit_facts.Snapping.{Snaps}
use Rattle.kernel_core_facts.specs.kernel_commits.Telling.{CommitsNote, FailsByWrite, Tells, TriesByAnswer}
use Rattle.kernel_core_facts.specs.kernel_commits.declared.stopping.Stop.{Stop}
use Rattle.kernel_core_facts.specs.kernel_invariant.declared.stopping.Stopped.TheVariants as reason
use Rattle.kernel_core_facts.proofs.kernel_commits_lemmas.Telling.{err_of_kept, fails_by, ok_told, tells_by, told_no_blocks, tries_again, tries_by, when_stopped}
use Rattle.kernel_core_facts.proofs.Kept.{kept_after, lives_after, runs_free, while_going}
use Rattle.kernel_core.proofs.kernels.Kernel.snap.Goals as goal

pub invariant_of-self : goal.invariant_of-self
invariant_of-self g c =
    let s = c.snap_one-made.ensures in
    kept_after g.D.Disk c.args.entity c.self.inside.core c.snap_one-made.new.core (c.self.invariant.steady c.in_default.is) c.snap_one-made.result s.steady s.fails c.err-self-inside.result c.err-self-inside.ensures.value

pub returns-clause-ends : goal.returns-clause-ends
returns-clause-ends g c = λ _. subst (λ r. Tells r c.err-self-inside.result) (sym c.told_of.ensures) (tells_by c.snap_one-made.result c.err-self-inside.result c.err-self-inside.ensures.value)

pub returns-clause-made : goal.returns-clause-made
returns-clause-made g c = λ _ is.
    subst (λ r. OnOk r ((r ≡ Ok true) × HasRecorded g.D.Disk c.args.entity c.args.self.now.parts c.snap_one-made.new.core)) (sym c.told_of.ensures)
    (ok_told Bool (HasRecorded g.D.Disk c.args.entity c.args.self.now.parts c.snap_one-made.new.core) c.snap_one-made.result true
    (subst (λ (p : Parts g.row.D.Denot). Snaps (g.P.Policy.wish c.args.gate.now.policy) c.args.entity p true → OnOk c.snap_one-made.result ((c.snap_one-made.result ≡ Ok true) × HasRecorded g.D.Disk c.args.entity p c.snap_one-made.new.core))
    (ap (λ (k : Held g.row.D.Denot). k.parts) c.self.view_is) c.snap_one-made.ensures.made is))

pub returns-clause-fails : goal.returns-clause-fails
returns-clause-fails g c = λ _.
    let s = c.snap_one-made.ensures in
    subst (λ r. IfErr r (FailsByWrite (HasTried g.D.Disk c.args.entity c.args.self.now.parts c.snap_one-made.new.core))) (sym c.told_of.ensures)
    (fails_by c.snap_one-made.result (HasTried g.D.Disk c.args.entity c.args.self.now.parts c.snap_one-made.new.core) s.fails.no_read
    (λ is. subst (λ (p : Parts g.row.D.Denot). HasTried g.D.Disk c.args.entity p c.snap_one-made.new.core) (ap (λ (k : Held g.row.D.Denot). k.parts) c.self.view_is) (s.fails.tried is)))

pub returns-clause-no_blocks : goal.returns-clause-no_blocks
returns-clause-no_blocks g c = λ n _.
    let told = told_no_blocks c.snap_one-made.result n in
    let h = subst (λ (p : Parts g.row.D.Denot). IsErrOf c.snap_one-made.result (reason.NoBlocks n) ↔ (Snaps (g.P.Policy.wish c.args.gate.now.policy) c.args.entity p true × IsShort g.D.Disk c.args.entity p n))
    (ap (λ (k : Held g.row.D.Denot). k.parts) c.self.view_is) (c.snap_one-made.ensures.no_blocks n) in
    ((λ is. h.0 (told.1 (sym c.told_of.ensures ∙ is))), (λ short. c.told_of.ensures ∙ told.0 (h.1 short)))

pub returns-clause-untouched : goal.returns-clause-untouched
returns-clause-untouched g c = λ n is.
    c.snap_one-made.ensures.fails.untouched n ((told_no_blocks c.snap_one-made.result n).1 (sym c.told_of.ensures ∙ is)) ∙ ap (λ (k : Held g.row.D.Denot). k.parts) c.self.view_is

pub returns-clause-tries : goal.returns-clause-tries
returns-clause-tries g c =
    subst (λ r. TriesByAnswer r c.args.self.now.parts.noted.entries c.snap_one-made.new.core.noted.entries) (sym c.told_of.ensures)
    (tries_by c.snap_one-made.result c.args.self.now.parts.noted.entries c.snap_one-made.new.core.noted.entries
    (subst (λ (k : Held g.row.D.Denot). CommitsNote c.snap_one-made.result k.parts.noted.entries c.snap_one-made.new.core.noted.entries) c.self.view_is c.snap_one-made.ensures.notes))

pub returns-in-Some-clause-tries : goal.returns-in-Some-clause-tries
returns-in-Some-clause-tries g c =
    subst (λ (answer : Stop). TriesByAnswer {T = Bool} (Err answer) c.args.self.now.parts.noted.entries c.args.self.now.parts.noted.entries) (sym c.told_again.ensures)
    (tries_again Bool c.in-Some.why c.args.self.now.parts.noted.entries)

pub returns-clause-run : goal.returns-clause-run
returns-clause-run g c = λ told b same lives.
    let steady = c.self.invariant.steady c.in_default.is in
    let was = subst (λ o. Lives g.D.Disk b (record { parts = c.self.inside.core; stop = o })) c.in_default.is (subst (Lives g.D.Disk b) (sym c.self.view_is) lives) in
    lives_after g.D.Disk c.args.entity c.self.inside.core c.snap_one-made.new.core steady b (g.P.Policy.wish c.args.gate.now.policy) same was c.snap_one-made.result
    (c.snap_one-made.ensures.run told b (runs_free g.D.Disk c.args.entity c.self.inside.core c.snap_one-made.new.core steady b (g.P.Policy.wish c.args.gate.now.policy) same was)) c.err-self-inside.result c.err-self-inside.ensures.value

pub returns-clause-notes : goal.returns-clause-notes
returns-clause-notes g c = λ told b same lives _.
    let d = g.D.Disk in
    let s = c.snap_one-made.ensures in
    let r = c.snap_one-made.result in
    let kept = c.err-self-inside.ensures.value in
    let steady = c.self.invariant.steady c.in_default.is in
    let was = subst (λ o. Lives d b (record { parts = c.self.inside.core; stop = o })) c.in_default.is (subst (Lives d b) (sym c.self.view_is) lives) in
    let free = runs_free d c.args.entity c.self.inside.core c.snap_one-made.new.core steady b (g.P.Policy.wish c.args.gate.now.policy) same was in
    subst (λ (k : Held g.row.D.Denot). NotesAlong d b (wished_snap b.policy (run_of b k.parts.noted.entries) c.args.entity) k (record { parts = c.snap_one-made.new.core; stop = c.err-self-inside.result })) c.self.view_is
    (subst (λ (q : Policy). NotesAlong d b (wished_snap q (run_of b c.self.inside.core.noted.entries) c.args.entity) (record { parts = c.self.inside.core; stop = c.self.inside.stopped }) (record { parts = c.snap_one-made.new.core; stop = c.err-self-inside.result })) (sym same)
    (record {
      whole = λ going. while_going r (s.run told b free).entries c.err-self-inside.result kept going;
      part = λ why is. when_stopped r (s.part told b free) c.err-self-inside.result kept why is;
      enough = λ n is. s.enough told b free n (err_of_kept r c.err-self-inside.result kept (reason.NoBlocks n) is);
    }))

pub returns-clause-clean : goal.returns-clause-clean
returns-clause-clean g c = λ s stays told none.
    let d = g.D.Disk in
    let was = subst (λ (k : Held g.row.D.Denot). StaysClean d s k) (sym c.self.view_is) stays in
    while_going c.snap_one-made.result (c.snap_one-made.ensures.clean told s (was told c.in_default.is)) c.err-self-inside.result c.err-self-inside.ensures.value none
