use Rattle.std.proofs.Common.{◌≡◌, true, ◌||◌, nat_lt, sym, ap, ◌∙◌, subst, slice_get, Some}
use Rattle.kernel_commit_facts.specs.store_books.Books.{kept_in}
use Rattle.kernel_commit_facts.specs.store_facts.Shelves.{records_of}
use Rattle.kernel_commit_facts.specs.store_facts.State.{books}
use Rattle.kernel_commit_facts.specs.kernel_record_facts.Cells.{words_on}
use Rattle.kernel_commit_facts.specs.kernel_invariant.Beginnings.{run_of}
use Rattle.kernel_commit_facts.specs.Parts.{Parts}
use Rattle.kernel_commit_facts.proofs.Steadying.{can_record}
use Rattle.kernel_commits.proofs.Wishing.{few_is, has, noted_open, snapped_by, test_is, test_unwished, wish}
use Rattle.kernel_commit_facts.proofs.table_laws_lemmas.Having.{no_supply, no_words}
use Rattle.kernel_commits.proofs.snapping.wants_snap.Goals as goal
use Rattle.std.proofs.lemmas.Option.{same_Some}

pub returns-then-not-wishes_among-clause-there : goal.returns-then-not-wishes_among-clause-there
returns-then-not-wishes_among-clause-there g c =
    let old = c.args.core.now in
    let a = c.wishes_among.ensures.there.0 in
    let same : c.deref.result.now ≡ c.args.core.now.cells = c.deref.ensures.value ∙ ap (λ (p : Parts g.row.D.Denot). p.cells) c.core.view_is in
    let at : slice_get c.args.core.now.cells c.args.entity ≡ Some c.wishes_among.ensures.there.0 = ap (λ cs. slice_get cs c.args.entity) (sym same) ∙ c.wishes_among.ensures.there.1 in
    (a, at)

pub returns-clause-there : goal.returns-clause-there
returns-clause-there g c =
    let old = c.args.core.now in
    let a = c.wishes_among.ensures.there.0 in
    let same : c.deref.result.now ≡ c.args.core.now.cells = c.deref.ensures.value ∙ ap (λ (p : Parts g.row.D.Denot). p.cells) c.core.view_is in
    let at : slice_get c.args.core.now.cells c.args.entity ≡ Some c.wishes_among.ensures.there.0 = ap (λ cs. slice_get cs c.args.entity) (sym same) ∙ c.wishes_among.ensures.there.1 in
    (a, at)

pub returns-then-not-wishes_among-clause-run : goal.returns-then-not-wishes_among-clause-run
returns-then-not-wishes_among-clause-run g c = λ told b free.
    let old = c.args.core.now in
    let a = c.wishes_among.ensures.there.0 in
    let same : c.deref.result.now ≡ c.args.core.now.cells = c.deref.ensures.value ∙ ap (λ (p : Parts g.row.D.Denot). p.cells) c.core.view_is in
    let at : slice_get c.args.core.now.cells c.args.entity ≡ Some c.wishes_among.ensures.there.0 = ap (λ cs. slice_get cs c.args.entity) (sym same) ∙ c.wishes_among.ensures.there.1 in
    test_unwished g.D.Disk b (g.P.Policy.wish c.args.gate.now.policy) c.args.entity old told free a at
    (sym (c.wishes_among.ensures.run b.supply (words_on (g.D.Disk.reading old.store.disk)) b.script.steps (run_of b old.noted.entries) a c.wishes_among.ensures.there.1
    (has g.D.Disk b (g.P.Policy.wish c.args.gate.now.policy) c.args.entity old told free a at) (wish g.D.Disk b (g.P.Policy.wish c.args.gate.now.policy) c.args.entity old told free a at)) ∙ c.if-not-wishes_among.true)

pub returns-clause-snaps : goal.returns-clause-snaps
returns-clause-snaps g c = λ s words k at_k.
    let old = c.args.core.now in
    let a = c.wishes_among.ensures.there.0 in
    let same : c.deref.result.now ≡ c.args.core.now.cells = c.deref.ensures.value ∙ ap (λ (p : Parts g.row.D.Denot). p.cells) c.core.view_is in
    let at : slice_get c.args.core.now.cells c.args.entity ≡ Some c.wishes_among.ensures.there.0 = ap (λ cs. slice_get cs c.args.entity) (sym same) ∙ c.wishes_among.ensures.there.1 in
    let count : c.kept_count.result ≡ records_of c.args.entity (kept_in (books c.args.core.now.store)) = c.kept_count.ensures ∙ ap (λ (p : Parts g.row.D.Denot). records_of c.args.entity (kept_in (books p.store))) c.core.view_is in
    let number = c.requires.steady.sound.matches.orderly.numbers.each c.args.entity k at_k in
    snapped_by (g.P.Policy.wish c.args.gate.now.policy) c.args.entity old k s words number
    (sym (c.wishes_among.ensures.open s words k (ap (λ cs. slice_get cs c.args.entity) same ∙ at_k)) ∙ c.if-not-wishes_among.false)
    ∙ ap (λ n. nat_lt n 4) (sym count)

pub returns-clause-can : goal.returns-clause-can
returns-clause-can g c = λ is.
    let old = c.args.core.now in
    let a = c.wishes_among.ensures.there.0 in
    let same : c.deref.result.now ≡ c.args.core.now.cells = c.deref.ensures.value ∙ ap (λ (p : Parts g.row.D.Denot). p.cells) c.core.view_is in
    let at : slice_get c.args.core.now.cells c.args.entity ≡ Some c.wishes_among.ensures.there.0 = ap (λ cs. slice_get cs c.args.entity) (sym same) ∙ c.wishes_among.ensures.there.1 in
    let count : c.kept_count.result ≡ records_of c.args.entity (kept_in (books c.args.core.now.store)) = c.kept_count.ensures ∙ ap (λ (p : Parts g.row.D.Denot). records_of c.args.entity (kept_in (books p.store))) c.core.view_is in
    let open_is = sym (c.wishes_among.ensures.open no_supply no_words a c.wishes_among.ensures.there.1) ∙ c.if-not-wishes_among.false in
    let by = noted_open a.wish.by_step _ a.wish.asked open_is in
    record {
      record_may = can_record g.D.Disk old c.requires.steady c.args.entity a at by;
      few = few_is c.kept_count.result (records_of c.args.entity (kept_in (books c.args.core.now.store))) is count;
      noted = λ k at_k. subst (λ z. (z.wish.by_step || z.wish.asked) ≡ true) (same_Some a k (sym at ∙ at_k)) by;
    }

pub returns-clause-run : goal.returns-clause-run
returns-clause-run g c = λ told b free.
    let old = c.args.core.now in
    let a = c.wishes_among.ensures.there.0 in
    let same : c.deref.result.now ≡ c.args.core.now.cells = c.deref.ensures.value ∙ ap (λ (p : Parts g.row.D.Denot). p.cells) c.core.view_is in
    let at : slice_get c.args.core.now.cells c.args.entity ≡ Some c.wishes_among.ensures.there.0 = ap (λ cs. slice_get cs c.args.entity) (sym same) ∙ c.wishes_among.ensures.there.1 in
    let count : c.kept_count.result ≡ records_of c.args.entity (kept_in (books c.args.core.now.store)) = c.kept_count.ensures ∙ ap (λ (p : Parts g.row.D.Denot). records_of c.args.entity (kept_in (books p.store))) c.core.view_is in
    test_is g.D.Disk b (g.P.Policy.wish c.args.gate.now.policy) c.args.entity old told free a at
    (sym (c.wishes_among.ensures.run b.supply (words_on (g.D.Disk.reading old.store.disk)) b.script.steps (run_of b old.noted.entries) a c.wishes_among.ensures.there.1
    (has g.D.Disk b (g.P.Policy.wish c.args.gate.now.policy) c.args.entity old told free a at) (wish g.D.Disk b (g.P.Policy.wish c.args.gate.now.policy) c.args.entity old told free a at)) ∙ c.if-not-wishes_among.false)
    ∙ ap (λ n. nat_lt n 4) (sym count)
