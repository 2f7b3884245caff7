use Rattle.std.proofs.Common.{◌≡◌, ◌*◌, None, Some, Err, sym, ap, subst, ◌∙◌}
use Rattle.std.specs.Prelude.{IfErr, IsErrOf, OnOk, ⊤}
use Rattle.kernel_core_facts.specs.model_births.Fitting.{Fits}
use Rattle.edge_disk.specs.Counts.{Rose}
use Rattle.script_types.specs.Scripts.{tables_of}
use Rattle.kernel_core_facts.specs.table_laws.Tables.{AreClean}
use Rattle.kernel_core_facts.specs.kernel_record_facts.Cells.{words_on}
use Rattle.kernel_core_facts.specs.table_births.Births.{atlas_state_in}
use Rattle.kernel_core_facts.specs.kernel_commit_facts.Parts.{Parts}
use Rattle.kernel_core_facts.specs.kernel_commit_facts.Pieces.{CountsWithin}
use Rattle.kernel_core_facts.specs.kernel_commit_facts.Stabilising.{AreShort}
use Rattle.kernel_core_facts.specs.Bearing.{HasOpened, IsShortBehind}
use Rattle.kernel_core_facts.specs.Kernels.{Held}
use Rattle.kernel_core_facts.proofs.Begun.{in_births_first}
use Rattle.kernel_core_facts.proofs.BirthsKept.{births_along, births_kept, failed_rose, first_births, opened_lives, stopped_lives}
use Rattle.kernel_core_facts.proofs.Kept.{while_going}
use Rattle.kernel_core_facts.specs.kernel_commits.Telling.{CommitsNote, FailsByWrite, Tells, TriesByAnswer}
use Rattle.kernel_core_facts.specs.kernel_commits.declared.stopping.Stop.{Stop}
use Rattle.kernel_core_facts.specs.kernel_commits.declared.stopping.Stop.TheVariants as stop
use Rattle.kernel_core_facts.specs.kernel_invariant.declared.stopping.Stopped.TheVariants as reason
use Rattle.kernel_core_facts.proofs.Opened.{short_told}
use Rattle.kernel_core_facts.proofs.kernel_commits_lemmas.Telling.{fails_by, no_reading, on_ok_told, tells_by, tries_again, tries_by}
use Rattle.kernel_core.proofs.kernels.Kernel.births.Goals as goal

pub invariant_of-self : goal.invariant_of-self
invariant_of-self g c =
    let d = g.D.Disk in
    let s = c.open_core-opened.ensures in
    births_kept d (AreShort c.open_core-opened.new.core) c.self.inside.core c.open_core-opened.new.core c.open_core-opened.result s.steady s.stopped c.err-self-inside.result c.err-self-inside.ensures.value

pub open_core-opened-requires-clause-in_births : goal.open_core-opened-requires-clause-in_births
open_core-opened-requires-clause-in_births g c =
    let d = g.D.Disk in
    in_births_first d c.self.inside.core (ap (λ (k : Held g.row.D.Denot). k.parts.noted.entries) c.self.view_is ∙ c.requires.first) (c.self.invariant.steady c.in_default.is)

pub open_core-opened-requires-clause-fits : goal.open_core-opened-requires-clause-fits
open_core-opened-requires-clause-fits g c = subst (λ (k : Held g.row.D.Denot). Fits (atlas_state_in k.parts.cells) (tables_of c.args.script.now)) (sym c.self.view_is) c.requires.fits

pub returns-clause-ends : goal.returns-clause-ends
returns-clause-ends g c = λ _. subst (λ r. Tells r c.err-self-inside.result) (sym c.told_of.ensures) (tells_by c.open_core-opened.result c.err-self-inside.result c.err-self-inside.ensures.value)

pub returns-clause-made : goal.returns-clause-made
returns-clause-made g c = λ _.
    subst (λ r. OnOk r (HasOpened (tables_of c.args.script.now) c.args.self.now.parts c.open_core-opened.new.core)) (sym c.told_of.ensures)
    (on_ok_told ⊤ (HasOpened (tables_of c.args.script.now) c.args.self.now.parts c.open_core-opened.new.core) c.open_core-opened.result (subst (λ (p : Parts g.row.D.Denot). OnOk c.open_core-opened.result (HasOpened (tables_of c.args.script.now) p c.open_core-opened.new.core))
    (ap (λ (k : Held g.row.D.Denot). k.parts) c.self.view_is) c.open_core-opened.ensures.made))

pub returns-clause-no_blocks : goal.returns-clause-no_blocks
returns-clause-no_blocks g c = λ _.
    let r = c.open_core-opened.result in
    subst (λ q. IsShortBehind (tables_of c.args.script.now) (λ n. IsErrOf q (stop.NoBlocks n)) c.args.self.now.parts c.open_core-opened.new.core) (sym c.told_of.ensures)
    (short_told (tables_of c.args.script.now) r c.args.self.now.parts c.open_core-opened.new.core
    (subst (λ (p : Parts g.row.D.Denot). IsShortBehind (tables_of c.args.script.now) (λ n. IsErrOf r (reason.NoBlocks n)) p c.open_core-opened.new.core)
    (ap (λ (k : Held g.row.D.Denot). k.parts) c.self.view_is) c.open_core-opened.ensures.no_blocks))

pub returns-clause-fails : goal.returns-clause-fails
returns-clause-fails g c = λ _.
    let o = c.open_core-opened.ensures in
    let rose = Rose (g.D.Disk.faults c.args.self.now.parts.store.disk) (g.D.Disk.faults c.open_core-opened.new.core.store.disk) in
    subst (λ r. IfErr r (FailsByWrite rose)) (sym c.told_of.ensures)
    (fails_by c.open_core-opened.result rose (no_reading c.open_core-opened.result c.self.inside.core.noted.entries c.open_core-opened.new.core.noted.entries o.notes)
    (λ is. subst (λ (p : Parts g.row.D.Denot). Rose (g.D.Disk.faults p.store.disk) (g.D.Disk.faults c.open_core-opened.new.core.store.disk)) (ap (λ (k : Held g.row.D.Denot). k.parts) c.self.view_is)
    (failed_rose g.D.Disk.faults (AreShort c.open_core-opened.new.core) c.self.inside.core c.open_core-opened.new.core c.open_core-opened.result o.stopped is)))

pub returns-clause-tries : goal.returns-clause-tries
returns-clause-tries g c =
    subst (λ r. TriesByAnswer r c.args.self.now.parts.noted.entries c.open_core-opened.new.core.noted.entries) (sym c.told_of.ensures)
    (tries_by c.open_core-opened.result c.args.self.now.parts.noted.entries c.open_core-opened.new.core.noted.entries
    (subst (λ (k : Held g.row.D.Denot). CommitsNote c.open_core-opened.result k.parts.noted.entries c.open_core-opened.new.core.noted.entries) c.self.view_is c.open_core-opened.ensures.notes))

pub returns-in-Some-clause-tries : goal.returns-in-Some-clause-tries
returns-in-Some-clause-tries g c =
    subst (λ (answer : Stop). TriesByAnswer {T = ⊤} (Err answer) c.args.self.now.parts.noted.entries c.args.self.now.parts.noted.entries) (sym c.told_again.ensures)
    (tries_again ⊤ c.in-Some.cause c.args.self.now.parts.noted.entries)

pub returns-clause-run : goal.returns-clause-run
returns-clause-run g c = λ told b same lives.
    let d = g.D.Disk in
    let before = first_births d b (tables_of c.args.script.now) same c.requires.allowed c.self.inside.core c.self.inside.stopped c.args.self.now c.self.view_is c.requires.first c.requires.fits lives
    (c.self.invariant.steady c.in_default.is) c.in_default.is in
    opened_lives d b c.open_core-opened.new.core c.open_core-opened.result (c.open_core-opened.ensures.run told b same before) c.err-self-inside.result c.err-self-inside.ensures.value

pub returns-clause-notes : goal.returns-clause-notes
returns-clause-notes g c = λ told b same lives _.
    let d = g.D.Disk in
    let before = first_births d b (tables_of c.args.script.now) same c.requires.allowed c.self.inside.core c.self.inside.stopped c.args.self.now c.self.view_is c.requires.first c.requires.fits lives
    (c.self.invariant.steady c.in_default.is) c.in_default.is in
    births_along d b c.args.self.now c.open_core-opened.new.core c.requires.first c.open_core-opened.result (c.open_core-opened.ensures.run told b same before) c.err-self-inside.result c.err-self-inside.ensures.value

pub returns-clause-clean : goal.returns-clause-clean
returns-clause-clean g c = λ s clean told none.
    let d = g.D.Disk in
    let was = subst (λ (k : Held g.row.D.Denot). AreClean s (words_on (d.reading k.parts.store.disk)) k.parts.cells) (sym c.self.view_is) (clean told (sym (ap (λ (k : Held g.row.D.Denot). k.stop) c.self.view_is) ∙ c.in_default.is)) in
    while_going c.open_core-opened.result (c.open_core-opened.ensures.clean told s was) c.err-self-inside.result c.err-self-inside.ensures.value none

pub returns-clause-counts : goal.returns-clause-counts
returns-clause-counts g c = subst (λ (k : Held g.row.D.Denot). CountsWithin g.D.Disk (64 * 1556) k.parts.store c.open_core-opened.new.core.store) c.self.view_is c.open_core-opened.ensures.counts

-- a kernel that has stopped

pub returns-in-Some-clause-run : goal.returns-in-Some-clause-run
returns-in-Some-clause-run g c = λ told b same lives.
    let d = g.D.Disk in
    stopped_lives d b (tables_of c.args.script.now) same c.requires.allowed c.self.inside.core c.self.inside.stopped c.args.self.now c.self.view_is c.requires.first c.requires.fits lives
    c.in-Some.cause c.in-Some.is

pub returns-in-Some-clause-notes : goal.returns-in-Some-clause-notes
returns-in-Some-clause-notes g c = λ told b same lives none.
    let clash : Some c.in-Some.cause ≡ None = sym c.in-Some.is ∙ ap (λ (k : Held g.row.D.Denot). k.stop) c.self.view_is ∙ none in
    absurd (cc clash)
