use Rattle.std.proofs.Common.{◌≡◌, ◌<◌, true, false, length, refl, sym, subst, ◌∙◌, arith}
use Rattle.edge_disk.proofs.Phases.{IsImage-reading, told}
use Rattle.edge_disk.proofs.Ticks.{Ticks-one}
use Rattle.data_blocks.specs.Ledger.{is_held}
use Rattle.store_facts.specs.store_books.Books.{kept_names}
use Rattle.store_facts.specs.State.{State, books, state_of}
use Rattle.store_facts.proofs.PageCalls.{words_same, words_written, worked, write_between}
use Rattle.store_snapshots.proofs.paged_store.StorePageStore.write_page.Goals as goal

pub write-written-requires : goal.write-written-requires
write-written-requires g c =
    let i = c.self.inside in
    let held : is_held i.blocks c.args.block ≡ true = subst (λ (s : State g.row.D.Denot). is_held s.blocks c.args.block ≡ true) (sym c.self.view_is) c.requires.held in
    let high = (c.self.invariant.held c.args.block held).1 in
    let within = c.self.invariant.within in
    omega (arith, high, within)

pub returns-then-is_err-clause-same_words : goal.returns-then-is_err-clause-same_words
returns-then-is_err-clause-same_words g c = rw (← c.self.view_is) (λ t n named out. words_same (λ k. k ≡ c.args.block) (g.D.Disk.reading c.self.inside.disk) (g.D.Disk.reading c.write-written.new.disk) n (c.write-written.ensures.reading t) out)

pub returns-clause-same_words : goal.returns-clause-same_words
returns-clause-same_words g c = rw (← c.self.view_is) (λ t n named out. words_same (λ k. k ≡ c.args.block) (g.D.Disk.reading c.self.inside.disk) (g.D.Disk.reading c.write-written.new.disk) n (c.write-written.ensures.reading t) out)

pub returns-then-is_err-clause-same_blocks : goal.returns-then-is_err-clause-same_blocks
returns-then-is_err-clause-same_blocks g c = rw (← c.self.view_is) (record { same_held = refl; same_free = refl })

pub returns-clause-same_blocks : goal.returns-clause-same_blocks
returns-clause-same_blocks g c = rw (← c.self.view_is) (record { same_held = refl; same_free = refl })

pub returns-then-is_err-clause-kept : goal.returns-then-is_err-clause-kept
returns-then-is_err-clause-kept g c = rw (← c.self.view_is) refl

pub returns-clause-kept : goal.returns-clause-kept
returns-clause-kept g c = rw (← c.self.view_is) refl

pub returns-then-is_err-clause-one_write : goal.returns-then-is_err-clause-one_write
returns-then-is_err-clause-one_write g c = rw (← c.self.view_is) (let one = Ticks-one _ _ c.write-written.ensures.begun in omega (arith, one))

pub returns-clause-one_write : goal.returns-clause-one_write
returns-clause-one_write g c = rw (← c.self.view_is) (let one = Ticks-one _ _ c.write-written.ensures.begun in omega (arith, one))

pub returns-then-is_err-clause-between : goal.returns-then-is_err-clause-between
returns-then-is_err-clause-between g c =
    let i = c.self.inside in
    let disk = g.met.D.Disk in
    let st : State g.row.D.Denot = state_of i.disk i.areas i.log i.kept i.cut i.blocks i.small i.shut i.read_calls in
    let held : is_held i.blocks c.args.block ≡ true = subst (λ (s : State g.row.D.Denot). is_held s.blocks c.args.block ≡ true) (sym c.self.view_is) c.requires.held in
    let not_kept : kept_names (books st) c.args.block ≡ false = subst (λ (s : State g.row.D.Denot). kept_names (books s) c.args.block ≡ false) (sym c.self.view_is) c.requires.not_kept in
    rw (← c.self.view_is)
    (record {
      only = write_between g.D.Disk (λ t. told g.D.Disk t disk.counts_now disk.only_now) st c.write-written.new.self c.args.block _ c.write-written.new.disk c.if-self.false c.write-written.ensures.areas
          (c.self.invariant.held c.args.block held).0 not_kept c.write-written.ensures.reading c.write-written.ensures.stop c.write-written.ensures.time c.write-written.ensures.counts;
      later = c.write-written.ensures.cause.later;
    })

pub returns-clause-between : goal.returns-clause-between
returns-clause-between g c =
    let i = c.self.inside in
    let disk = g.met.D.Disk in
    let st : State g.row.D.Denot = state_of i.disk i.areas i.log i.kept i.cut i.blocks i.small i.shut i.read_calls in
    let held : is_held i.blocks c.args.block ≡ true = subst (λ (s : State g.row.D.Denot). is_held s.blocks c.args.block ≡ true) (sym c.self.view_is) c.requires.held in
    let not_kept : kept_names (books st) c.args.block ≡ false = subst (λ (s : State g.row.D.Denot). kept_names (books s) c.args.block ≡ false) (sym c.self.view_is) c.requires.not_kept in
    rw (← c.self.view_is)
    (record {
      only = write_between g.D.Disk (λ t. told g.D.Disk t disk.counts_now disk.only_now) st c.write-written.new.self c.args.block _ c.write-written.new.disk c.if-self.false c.write-written.ensures.areas
          (c.self.invariant.held c.args.block held).0 not_kept c.write-written.ensures.reading c.write-written.ensures.stop c.write-written.ensures.time c.write-written.ensures.counts;
      later = c.write-written.ensures.cause.later;
    })

pub returns-clause-words : goal.returns-clause-words
returns-clause-words g c =
    let i = c.self.inside in
    let disk = g.met.D.Disk in
    let held : is_held i.blocks c.args.block ≡ true = subst (λ (s : State g.row.D.Denot). is_held s.blocks c.args.block ≡ true) (sym c.self.view_is) c.requires.held in
    (λ t.
    let whole = IsImage-reading g.D.Disk t disk.reads_now disk.counts_now disk.whole i.disk in
    let within : c.args.block < length (g.D.Disk.reading i.disk) = (let len = whole.len in let high = (c.self.invariant.held c.args.block held).1 in let all = c.self.invariant.within in omega (arith, len, high, all)) in
    words_written (g.D.Disk.reading i.disk) (g.D.Disk.reading c.write-written.new.disk) c.args.block c.block_with.result c.args.page.now (worked c.write-written.result (sym c.is_err.ensures.value ∙ c.if-is_err.false) (c.write-written.ensures.block t)) within c.block_with.ensures)
