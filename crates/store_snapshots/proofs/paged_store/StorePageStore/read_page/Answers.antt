use Rattle.std.proofs.Common.{refl, sym, ◌∙◌}
use Rattle.edge_disk.proofs.Phases.{told}
use Rattle.store_facts.specs.State.{State, books, state_of}
use Rattle.store_facts.proofs.PageCalls.{read_between, words_read, worked}
use Rattle.store_snapshots.proofs.paged_store.StorePageStore.read_page.Goals as goal

pub returns-then-self-clause-same_words : goal.returns-then-self-clause-same_words
returns-then-self-clause-same_words g c = rw (← c.self.view_is) (λ t n named out. refl)

pub returns-then-is_err-clause-same_words : goal.returns-then-is_err-clause-same_words
returns-then-is_err-clause-same_words g c = rw (← c.self.view_is) (λ t n named out. words_read (g.D.Disk.reading c.self.inside.disk) (g.D.Disk.reading c.read_words.new.disk) n (c.read_words.ensures.same.same_reading t))

pub returns-clause-same_words : goal.returns-clause-same_words
returns-clause-same_words g c = rw (← c.self.view_is) (λ t n named out. words_read (g.D.Disk.reading c.self.inside.disk) (g.D.Disk.reading c.read_words.new.disk) n (c.read_words.ensures.same.same_reading t))

pub returns-then-is_err-clause-same_blocks : goal.returns-then-is_err-clause-same_blocks
returns-then-is_err-clause-same_blocks g c = rw (← c.self.view_is) (record { same_held = refl; same_free = refl })

pub returns-then-is_err-clause-kept : goal.returns-then-is_err-clause-kept
returns-then-is_err-clause-kept g c = rw (← c.self.view_is) refl

pub returns-then-is_err-clause-between : goal.returns-then-is_err-clause-between
returns-then-is_err-clause-between g c =
    let i = c.self.inside in
    let disk = g.met.D.Disk in
    let st : State g.row.D.Denot = state_of i.disk i.areas i.log i.kept i.cut i.blocks i.small i.shut i.read_calls in
    rw (← c.self.view_is)
    (record {
      only = read_between g.D.Disk (λ t. told g.D.Disk t disk.counts_now disk.only_now) (books st) _ i.disk c.read_words.new.disk c.if-self.false c.read_words.ensures.same;
      later = c.read_words.ensures.same.later;
    })

pub returns-clause-between : goal.returns-clause-between
returns-clause-between g c =
    let i = c.self.inside in
    let disk = g.met.D.Disk in
    let st : State g.row.D.Denot = state_of i.disk i.areas i.log i.kept i.cut i.blocks i.small i.shut i.read_calls in
    rw (← c.self.view_is)
    (record {
      only = read_between g.D.Disk (λ t. told g.D.Disk t disk.counts_now disk.only_now) (books st) _ i.disk c.read_words.new.disk c.if-self.false c.read_words.ensures.same;
      later = c.read_words.ensures.same.later;
    })

pub returns-clause-words : goal.returns-clause-words
returns-clause-words g c = rw (← c.self.view_is) (λ t. worked c.read_words.result (sym c.is_err.ensures.value ∙ c.if-is_err.false) (c.read_words.ensures.words t))
