use Rattle.std.proofs.Common.{◌≡◌, ◌≢◌, true, false, sym, ap, ◌∙◌, rules, arith}
use Rattle.data_frames.specs.FrameTable.{FrameTable, changed_at}
use Rattle.page_memory.specs.Words.{block_at}
use Rattle.page_memory.proofs.Blocks.{own_stands, own_table, fresh_stands, fresh_keeps, fresh_table}
use Rattle.page_memory.proofs.paged.PagedMemory.save.Goals as goal

pub returns-then-not-kept-clause-stands : goal.returns-then-not-kept-clause-stands
returns-then-not-kept-clause-stands g c =
    let changed : changed_at c.args.self.now.frames c.args.page ≡ true = first_of (cc, search rules) in
    let free : g.B.PageStore.kept_names c.args.store.now (block_at c.args.self.now c.args.page) ≡ false = first_of (cc, search rules) in
    let some : block_at c.args.self.now c.args.page ≢ 0 = omega arith in
    let done = c.in_ok-write_page.ensures in
    own_stands g.B.PageStore.tells g.B.PageStore.held g.B.PageStore.kept_names g.B.PageStore.words c.args.self.now c.args.store.now c.write_page.new.self c.args.page c.requires.table changed done.kept
    (λ t n held e. done.same_words t n held (λ is. let clash : true ≡ false = sym (e some is) ∙ ap (g.B.PageStore.kept_names c.args.store.now) is ∙ free in cc clash))
    done.same_blocks.same_held c.clean.new.self (ap (λ (x : FrameTable). x.pages) c.clean.ensures) some
    (λ t. done.words t ∙ ap (λ x. x.0) c.copy_out-changed.ensures)

pub returns-clause-stands : goal.returns-clause-stands
returns-clause-stands g c =
    let changed : changed_at c.args.self.now.frames c.args.page ≡ true = first_of (cc, search rules) in
    let done = c.in_ok-fresh.ensures in
    fresh_stands g.B.PageStore.tells g.B.PageStore.held g.B.PageStore.kept_names g.B.PageStore.words c.args.self.now c.args.store.now c.write_anew.new.store c.args.page c.requires.table changed done.kept done.same_words c.clean-2.new.self (ap (λ (x : FrameTable). x.pages) c.clean-2.ensures) c.in_ok-fresh.fresh done.moves (omega arith)
    (λ t. done.words t ∙ ap (λ x. x.0) c.copy_out-changed.ensures)

pub returns-clause-others : goal.returns-clause-others
returns-clause-others g c =
    let changed : changed_at c.args.self.now.frames c.args.page ≡ true = first_of (cc, search rules) in
    let done = c.in_ok-fresh.ensures in
    fresh_keeps g.B.PageStore.tells g.B.PageStore.held g.B.PageStore.kept_names g.B.PageStore.words c.args.self.now c.args.store.now c.write_anew.new.store c.args.page c.requires.table changed done.kept done.same_words c.clean-2.new.self (ap (λ (x : FrameTable). x.pages) c.clean-2.ensures) c.in_ok-fresh.fresh done.moves (omega arith)

pub returns-then-not-kept-clause-table : goal.returns-then-not-kept-clause-table
returns-then-not-kept-clause-table g c =
    let changed : changed_at c.args.self.now.frames c.args.page ≡ true = first_of (cc, search rules) in
    let free : g.B.PageStore.kept_names c.args.store.now (block_at c.args.self.now c.args.page) ≡ false = first_of (cc, search rules) in
    let some : block_at c.args.self.now c.args.page ≢ 0 = omega arith in
    let done = c.in_ok-write_page.ensures in
    own_table g.B.PageStore.tells g.B.PageStore.held g.B.PageStore.kept_names g.B.PageStore.words c.args.self.now c.args.store.now c.write_page.new.self c.args.page c.requires.table changed done.kept
    (λ t n held e. done.same_words t n held (λ is. let clash : true ≡ false = sym (e some is) ∙ ap (g.B.PageStore.kept_names c.args.store.now) is ∙ free in cc clash))
    done.same_blocks.same_held c.clean.new.self (ap (λ (x : FrameTable). x.pages) c.clean.ensures) (ap (λ (x : FrameTable). x.frames) c.clean.ensures)

pub returns-clause-table : goal.returns-clause-table
returns-clause-table g c =
    let changed : changed_at c.args.self.now.frames c.args.page ≡ true = first_of (cc, search rules) in
    let done = c.in_ok-fresh.ensures in
    fresh_table g.B.PageStore.tells g.B.PageStore.held g.B.PageStore.kept_names g.B.PageStore.words c.args.self.now c.args.store.now c.write_anew.new.store c.args.page c.requires.table changed done.kept done.same_words c.clean-2.new.self (ap (λ (x : FrameTable). x.pages) c.clean-2.ensures) c.in_ok-fresh.fresh done.moves (omega arith) (ap (λ (x : FrameTable). x.frames) c.clean-2.ensures)
