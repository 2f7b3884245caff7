use Rattle.std.proofs.Common.{◌≡◌, ℕ, true, false, List, [], Ok, Err, Some, sym, ap, ◌∙◌, arith}
use Rattle.std.proofs.lemmas.Bool.{false≢true}
use Rattle.std.proofs.lemmas.Result.{err_from_is_err_and}
use Rattle.base_types.specs.declared.histories.Entry.{Entry}
use Rattle.page_store.specs.model_kernel.State.{Supply}
use Rattle.store_snapshots.specs.store_facts.State.{books}
use Rattle.kernel_record_facts.specs.cell_blobs.Blobs.{is_recorded}
use Rattle.kernel_records.specs.Snapping.{is_snapped}
use Rattle.kernel_records.proofs.Faulting.{handed_on, is_changed, is_few, is_wished, snapped}
use Rattle.kernel_records.proofs.snaps.snap_cell.Goals as goal
use Rattle.kernel_records.proofs.snaps.snap_cell.Goals.{then-not-is_wished-via-then-not-is_wished, then-not-is_wished-via-else-not-is_wished+then-kept_count-ge-FULL}

-- what the supplier says and what blocks hold is beside the point
no_supply : Supply
no_supply tag page place = 0

no_words : ℕ → List ℕ
no_words n = []

pub returns-then-not-is_wished-clause-made : goal.returns-then-not-is_wished-clause-made
returns-then-not-is_wished-clause-made g c = λ s words is.
    elim c.then-not-is_wished.branch [
      | then-not-is_wished-via-then-not-is_wished w ↦
          absurd (false≢true (sym w.if-not-is_wished.true ∙ (c.is_wished.ensures.open s words ∙ is_wished (g.P.Policy.wish c.args.gate.now.policy) s words c.args.cell.now (books c.args.store.now) is)))
      | then-not-is_wished-via-else-not-is_wished+then-kept_count-ge-FULL w ↦
          let few = is_few (g.P.Policy.wish c.args.gate.now.policy) s words c.args.cell.now (books c.args.store.now) is in
          let many = w.if-kept_count-ge-FULL.true in
          let count = w.kept_count.ensures in
          absurd (omega (arith, few, many, count))
    ]

pub commit_cell-requires-clause-may : goal.commit_cell-requires-clause-may
commit_cell-requires-clause-may g c = λ changed.
    c.requires.may no_supply no_words (snapped (g.P.Policy.wish c.args.gate.now.policy) no_supply no_words c.args.cell.now (books c.args.store.now) (sym (c.is_wished.ensures.open no_supply no_words) ∙ c.if-not-is_wished.false)
    (let few = c.if-kept_count-ge-FULL.false in let count = c.kept_count.ensures in omega (arith, few, count)))

pub returns-in_err-commit_cell-clause-faults : goal.returns-in_err-commit_cell-clause-faults
returns-in_err-commit_cell-clause-faults g c = λ s words.
    let policy = g.P.Policy.wish c.args.gate.now.policy in
    let cell = c.args.cell.now in
    let st = c.args.store.now in
    let p = err_from_is_err_and c.from_residual.result c.from_residual.ensures.1 in
    let gives : c.from_residual.result ≡ Err p.0 = p.1 in
    let handed : p.0 ≡ c.in_err-commit_cell.field-0.0 = p.2 in
    let was : c.commit_cell.result ≡ Err c.in_err-commit_cell.field-0.0 = c.in_err-commit_cell.was in
    let wished = sym (c.is_wished.ensures.open s words) ∙ c.if-not-is_wished.false in
    let is = snapped policy s words cell (books st) wished (let few = c.if-kept_count-ge-FULL.false in let count = c.kept_count.ensures in omega (arith, few, count)) in
    handed_on g.D.Disk.faults (is_recorded cell ≡ false) (is_snapped policy s words cell (books st) ≡ true) c.commit_cell.result c.from_residual.result cell c.commit_cell.new.cell st c.commit_cell.new.store
    (λ changed. is) (λ one. is_changed policy s words cell (books st) c.requires.founded wished)
    (λ f same. (let e : c.in_err-commit_cell.field-0.0 ≡ f = cc (was, same) in gives ∙ ap Err (handed ∙ e)))
    (λ f same. (let e : p.0 ≡ f = cc (gives, same) in was ∙ ap Err (sym handed ∙ e)))
    c.commit_cell.ensures.faults

pub returns-clause-made : goal.returns-clause-made
returns-clause-made g c = λ s words is.
    let changed = is_changed (g.P.Policy.wish c.args.gate.now.policy) s words c.args.cell.now (books c.args.store.now) c.requires.founded (is_wished (g.P.Policy.wish c.args.gate.now.policy) s words c.args.cell.now (books c.args.store.now) is) in
    (ap (λ (e : Entry). Ok (Some e)) c.mark_entry.ensures, (c.in_ok-commit_cell.ensures.made changed).1)

pub returns-clause-faults : goal.returns-clause-faults
returns-clause-faults g c = λ s words.
    let policy = g.P.Policy.wish c.args.gate.now.policy in
    let cell = c.args.cell.now in
    let st = c.args.store.now in
    let was : c.commit_cell.result ≡ Ok c.in_ok-commit_cell.field-0 = c.in_ok-commit_cell.was in
    let wished = sym (c.is_wished.ensures.open s words) ∙ c.if-not-is_wished.false in
    let is = snapped policy s words cell (books st) wished (let few = c.if-kept_count-ge-FULL.false in let count = c.kept_count.ensures in omega (arith, few, count)) in
    handed_on g.D.Disk.faults (is_recorded cell ≡ false) (is_snapped policy s words cell (books st) ≡ true) c.commit_cell.result (Ok (Some c.mark_entry.result)) cell c.commit_cell.new.cell st c.commit_cell.new.store
    (λ changed. is) (λ one. is_changed policy s words cell (books st) c.requires.founded wished)
    (λ f same. absurd (cc (was, same)))
    (λ f same. absurd (cc same))
    c.commit_cell.ensures.faults
