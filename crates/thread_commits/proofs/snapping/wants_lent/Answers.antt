use Rattle.std.proofs.Common.{◌≡◌, true, ◌||◌, nat_lt, sym, ap, ◌∙◌, subst}
use Rattle.std.proofs.lemmas.Option.{same_Some}
use Rattle.kernel_commit_facts.specs.kernel_record_facts.Cells.{words_on}
use Rattle.kernel_commit_facts.specs.kernel_invariant.Beginnings.{run_of}
use Rattle.kernel_commit_facts.specs.store_facts.Shelves.{records_of}
use Rattle.kernel_commit_facts.specs.store_facts.State.{books}
use Rattle.kernel_commit_facts.specs.store_books.Books.{kept_in}
use Rattle.kernel_commit_facts.specs.Parts.{parts_of}
use Rattle.kernel_commit_facts.proofs.Steadying.{can_record}
use Rattle.kernel_commits.proofs.Wishing.{few_is, has, noted_open, test_is, test_unwished, wish}
use Rattle.kernel_commit_facts.proofs.table_laws_lemmas.Having.{no_supply, no_words}
use Rattle.thread_commits.proofs.snapping.wants_lent.Goals as goal

pub returns-then-not-wishes_lent-clause-run : goal.returns-then-not-wishes_lent-clause-run
returns-then-not-wishes_lent-clause-run g c = λ told b free.
    let old = parts_of c.args.store.now c.args.all.now c.args.notes.now in
    let a = c.args.cell.now.cell in
    let at = c.wishes_lent.ensures.there in
    test_unwished g.D.Disk b (g.P.Policy.wish c.args.gate.now.policy) c.args.cell.now.number old told free a at
    (sym (c.wishes_lent.ensures.run b.supply (words_on (g.D.Disk.reading c.args.store.now.disk)) b.script.steps (run_of b c.args.notes.now.entries)
    (has g.D.Disk b (g.P.Policy.wish c.args.gate.now.policy) c.args.cell.now.number old told free a at) (wish g.D.Disk b (g.P.Policy.wish c.args.gate.now.policy) c.args.cell.now.number old told free a at)) ∙ c.if-not-wishes_lent.true)

pub returns-clause-can : goal.returns-clause-can
returns-clause-can g c = λ is.
    let old = parts_of c.args.store.now c.args.all.now c.args.notes.now in
    let a = c.args.cell.now.cell in
    let at = c.wishes_lent.ensures.there in
    let count : c.kept_of.result ≡ records_of c.args.cell.now.number (kept_in (books c.args.store.now)) = c.kept_of.ensures ∙ ap (λ k. records_of k (kept_in (books c.args.store.now))) (ap (λ k. k.number) c.wishes_lent.ensures.same.1) in
    let open_is = sym (c.wishes_lent.ensures.open no_supply no_words) ∙ c.if-not-wishes_lent.false in
    let by = noted_open a.wish.by_step _ a.wish.asked open_is in
    record {
      record_may = can_record g.D.Disk old c.requires.steady c.args.cell.now.number a at by;
      few = few_is c.kept_of.result (records_of c.args.cell.now.number (kept_in (books c.args.store.now))) is count;
      noted = λ k at_k. subst (λ z. (z.wish.by_step || z.wish.asked) ≡ true) (same_Some a k (sym at ∙ at_k)) by;
    }

pub returns-clause-run : goal.returns-clause-run
returns-clause-run g c = λ told b free.
    let old = parts_of c.args.store.now c.args.all.now c.args.notes.now in
    let a = c.args.cell.now.cell in
    let at = c.wishes_lent.ensures.there in
    let count : c.kept_of.result ≡ records_of c.args.cell.now.number (kept_in (books c.args.store.now)) = c.kept_of.ensures ∙ ap (λ k. records_of k (kept_in (books c.args.store.now))) (ap (λ k. k.number) c.wishes_lent.ensures.same.1) in
    test_is g.D.Disk b (g.P.Policy.wish c.args.gate.now.policy) c.args.cell.now.number old told free a at
    (sym (c.wishes_lent.ensures.run b.supply (words_on (g.D.Disk.reading c.args.store.now.disk)) b.script.steps (run_of b c.args.notes.now.entries)
    (has g.D.Disk b (g.P.Policy.wish c.args.gate.now.policy) c.args.cell.now.number old told free a at) (wish g.D.Disk b (g.P.Policy.wish c.args.gate.now.policy) c.args.cell.now.number old told free a at)) ∙ c.if-not-wishes_lent.false)
    ∙ ap (λ n. nat_lt n 4) (sym count)
