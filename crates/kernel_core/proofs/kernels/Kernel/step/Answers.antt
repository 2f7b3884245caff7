use Rattle.std.proofs.Common.{◌≡◌, ◌⊎◌, Option, Some, Ok, Err, sym, ap, ap₂, subst, ◌∙◌}
use Rattle.std.specs.Prelude.{◌↔◌, IfErr, IfOk, IsErrOf}
use Rattle.std.specs.Result.{result_err}
use Rattle.edge_disk.specs.Counts.{Rose}
use Rattle.base_types.specs.declared.histories.Entry.{Entry}
use Rattle.kernel_core_facts.specs.table_laws.Tables.{AreClean}
use Rattle.kernel_core_facts.specs.kernel_record_facts.Cells.{words_on}
use Rattle.kernel_core_facts.specs.kernel_invariant.Beginnings.{run_of}
use Rattle.kernel_core_facts.specs.model_serial.Serial.{look}
use Rattle.kernel_core_facts.specs.Kernels.{Held, Lives, NotesAlong}
use Rattle.kernel_core_facts.specs.Looking.{LooksOnce, StopsWhere}
use Rattle.kernel_core_facts.specs.Stepping.{idle_at}
use Rattle.kernel_core_facts.specs.Looked.{IfMade}
use Rattle.kernel_core_facts.specs.declared.looked.Looked.TheVariants.{Idle}
use Rattle.kernel_core_facts.specs.kernel_commit_facts.Parts.{Parts}
use Rattle.kernel_core_facts.specs.kernel_commits.Telling.{FailsByDisk, Tells, TriesAtWrite, TriesByAnswer}
use Rattle.kernel_core_facts.specs.kernel_commits.declared.stopping.Stop.{Stop}
use Rattle.kernel_core_facts.specs.kernel_invariant.declared.stopping.Stopped.{Stopped}
use Rattle.kernel_core_facts.specs.kernel_invariant.declared.stopping.Stopped.TheVariants as reason
use Rattle.kernel_core_facts.proofs.kernel_commits_lemmas.Telling.{err_of_kept, tries_again, when_stopped}
use Rattle.kernel_core_facts.proofs.Kept.{runs_free, while_going}
use Rattle.kernel_core.proofs.LookKept.{fails_look, idle_look, look_entries, look_kept, look_lives, made_look, tells_look, tries_answer}
use Rattle.kernel_core.proofs.kernels.Kernel.step.Goals as goal

pub invariant_of-self : goal.invariant_of-self
invariant_of-self g c =
    let d = g.D.Disk in
    let s = c.look_core-looked.ensures in
    look_kept d c.args.me c.self.inside.core c.look_core-looked.new.core (g.P.Policy.wish c.args.gate.now.policy) c.look_core-looked.result s.steady s.stopped.stopped c.why_stopped-self-inside.result c.why_stopped-self-inside.ensures

pub look_core-looked-requires-clause-clean : goal.look_core-looked-requires-clause-clean
look_core-looked-requires-clause-clean g c = λ told.
    subst (λ (k : Held g.row.D.Denot). AreClean (g.S.Supplier.word c.args.gate.now.supply) (words_on (g.D.Disk.reading k.parts.store.disk)) k.parts.cells) (sym c.self.view_is)
    (c.requires.clean told (sym (ap (λ (k : Held g.row.D.Denot). k.stop) c.self.view_is) ∙ c.in_default.is))

pub returns-clause-ends : goal.returns-clause-ends
returns-clause-ends g c = λ _. subst (λ r. Tells r c.why_stopped-self-inside.result) (sym c.answered.ensures) (tells_look c.look_core-looked.result c.why_stopped-self-inside.result c.why_stopped-self-inside.ensures)

pub returns-clause-stopped : goal.returns-clause-stopped
returns-clause-stopped g c = λ _.
    let new = c.look_core-looked.new.core in
    let wish = g.P.Policy.wish c.args.gate.now.policy in
    subst (λ o. StopsWhere g.D.Disk wish c.args.me c.args.self.now.parts new o) (sym c.why_stopped-self-inside.ensures)
    (subst (λ (p : Parts g.row.D.Denot). StopsWhere g.D.Disk wish c.args.me p new (result_err c.look_core-looked.result)) (ap (λ (k : Held g.row.D.Denot). k.parts) c.self.view_is) c.look_core-looked.ensures.stopped)

pub returns-clause-made : goal.returns-clause-made
returns-clause-made g c =
    subst (λ r. IfOk r (LooksOnce g.D.Disk c.args.me c.args.self.now.parts c.look_core-looked.new.core)) (sym c.answered.ensures)
    (made_look c.look_core-looked.result (LooksOnce g.D.Disk c.args.me c.args.self.now.parts c.look_core-looked.new.core)
    (subst (λ (p : Parts g.row.D.Denot). IfOk c.look_core-looked.result (λ o. IfMade o (λ m. LooksOnce g.D.Disk c.args.me p c.look_core-looked.new.core m.entry))) (ap (λ (k : Held g.row.D.Denot). k.parts) c.self.view_is) c.look_core-looked.ensures.made))

pub returns-clause-fails : goal.returns-clause-fails
returns-clause-fails g c = λ _.
    let d = g.D.Disk in
    let rose = Rose (d.faults c.args.self.now.parts.store.disk) (d.faults c.look_core-looked.new.core.store.disk) in
    subst (λ r. IfErr r (FailsByDisk rose)) (sym c.answered.ensures)
    (fails_look c.look_core-looked.result rose
    (subst (λ (p : Parts g.row.D.Denot). IsErrOf c.look_core-looked.result reason.ReadFault ⊎ IsErrOf c.look_core-looked.result reason.WriteFault → Rose (d.faults p.store.disk) (d.faults c.look_core-looked.new.core.store.disk))
    (ap (λ (k : Held g.row.D.Denot). k.parts) c.self.view_is) c.look_core-looked.ensures.faults))

pub returns-clause-tries : goal.returns-clause-tries
returns-clause-tries g c =
    subst (λ r. TriesByAnswer r c.args.self.now.parts.noted.entries c.look_core-looked.new.core.noted.entries) (sym c.answered.ensures)
    (tries_answer c.look_core-looked.result c.args.self.now.parts.noted.entries c.look_core-looked.new.core.noted.entries
    (subst (λ (k : Held g.row.D.Denot). TriesAtWrite c.look_core-looked.result k.parts.noted.entries c.look_core-looked.new.core.noted.entries) c.self.view_is c.look_core-looked.ensures.tries))

pub returns-in-Some-clause-tries : goal.returns-in-Some-clause-tries
returns-in-Some-clause-tries g c =
    subst (λ (answer : Stop). TriesByAnswer {T = Entry} (Err answer) c.args.self.now.parts.noted.entries c.args.self.now.parts.noted.entries) (sym c.told_again.ensures)
    (tries_again Entry c.in-Some.stop c.args.self.now.parts.noted.entries)

pub returns-clause-run : goal.returns-clause-run
returns-clause-run g c = λ told b supply policy lives.
    let d = g.D.Disk in
    let steady = c.self.invariant.steady c.in_default.is in
    let was = subst (λ o. Lives d b (record { parts = c.self.inside.core; stop = o })) c.in_default.is (subst (Lives d b) (sym c.self.view_is) lives) in
    let free = runs_free d c.args.me c.self.inside.core c.look_core-looked.new.core steady b (g.P.Policy.wish c.args.gate.now.policy) policy was in
    look_lives d c.args.me c.self.inside.core c.look_core-looked.new.core b (g.P.Policy.wish c.args.gate.now.policy) c.look_core-looked.result
    (c.look_core-looked.ensures.run told b supply policy free.stands (was.live.calm Rattle.std.proofs.Common.refl)) c.why_stopped-self-inside.result c.why_stopped-self-inside.ensures

pub returns-clause-notes : goal.returns-clause-notes
returns-clause-notes g c = λ told b supply policy lives _.
    let d = g.D.Disk in
    let s = c.look_core-looked.ensures in
    let r = c.look_core-looked.result in
    let kept = c.why_stopped-self-inside.ensures in
    let steady = c.self.invariant.steady c.in_default.is in
    let was = subst (λ o. Lives d b (record { parts = c.self.inside.core; stop = o })) c.in_default.is (subst (Lives d b) (sym c.self.view_is) lives) in
    let free = runs_free d c.args.me c.self.inside.core c.look_core-looked.new.core steady b (g.P.Policy.wish c.args.gate.now.policy) policy was in
    let calm = was.live.calm Rattle.std.proofs.Common.refl in
    subst (λ (k : Held g.row.D.Denot). NotesAlong d b (look b.supply b.policy b.script (run_of b k.parts.noted.entries) c.args.me) k (record { parts = c.look_core-looked.new.core; stop = c.why_stopped-self-inside.result })) c.self.view_is
    (record {
      whole = λ going. while_going r (look_entries d c.args.me c.self.inside.core c.look_core-looked.new.core b (g.P.Policy.wish c.args.gate.now.policy) policy r (s.run told b supply policy free.stands calm)) c.why_stopped-self-inside.result kept going;
      part = λ why is. when_stopped r (s.part told b supply policy free.stands calm) c.why_stopped-self-inside.result kept why is;
      enough = λ n is. s.enough told b supply policy free.stands calm n (err_of_kept r c.why_stopped-self-inside.result kept (reason.NoBlocks n) is);
    })

pub returns-clause-clean : goal.returns-clause-clean
returns-clause-clean g c = λ told none.
    while_going c.look_core-looked.result (c.look_core-looked.ensures.clean told) c.why_stopped-self-inside.result c.why_stopped-self-inside.ensures none

pub returns-clause-idle : goal.returns-clause-idle
returns-clause-idle g c = λ s words why going.
    let told = idle_look c.look_core-looked.result why in
    let h = subst (λ (k : Held g.row.D.Denot). (idle_at s words c.args.me k.parts.cells ≡ Some why) ↔ (c.look_core-looked.result ≡ Ok (Idle why))) c.self.view_is (c.look_core-looked.ensures.idle s words why) in
    ((λ is. c.answered.ensures ∙ told.0 (h.0 is)), (λ is. h.1 (told.1 (sym c.answered.ensures ∙ is))))

pub returns-clause-still : goal.returns-clause-still
returns-clause-still g c = λ why is.
    let idle = (idle_look c.look_core-looked.result why).1 (sym c.answered.ensures ∙ is) in
    let same = c.look_core-looked.ensures.still why idle in
    let none = c.why_stopped-self-inside.ensures ∙ ap result_err idle in
    ap₂ (λ (p : Parts g.row.D.Denot) (o : Option Stopped). record { parts = p; stop = o }) same (none ∙ sym c.in_default.is) ∙ c.self.view_is
