use Rattle.std.proofs.Common.{ap, ◌∙◌, is_some}
use Rattle.std.proofs.lemmas.Result.{err_from_is_err_and}
use Rattle.data_frames.specs.FrameTable.{page_at}
use Rattle.page_memory.specs.declared.paged.PagedMemory.{PagedMemory}
use Rattle.page_memory.proofs.Evictions.{chooses_from, keeps_from, left_absent, left_blocks, left_gone, left_here, left_others, left_pages, left_room, left_stands, left_table, marked_none, marked_some, marked_table, on_taken, pages_saved, stands_saved}
use Rattle.page_memory.proofs.paged.PagedMemory.evict.Goals as goal

pub returns-in_err-save-clause-stands : goal.returns-in_err-save-clause-stands
returns-in_err-save-clause-stands g c =
    stands_saved g.B.PageStore.tells g.B.PageStore.held g.B.PageStore.kept_names g.B.PageStore.words c.args.self.now c.victim.new.self c.in-Some.page c.in-Some.ensures.victim c.in-Some.ensures.resident c.args.store.now c.save.new.store c.save.new.self c.in_err-save.ensures.stands

pub returns-in_err-save-clause-others : goal.returns-in_err-save-clause-others
returns-in_err-save-clause-others g c =
    keeps_from g.B.PageStore.tells g.B.PageStore.held g.B.PageStore.kept_names g.B.PageStore.words c.args.self.now c.save.new.self c.victim.new.self c.save.new.self.frames c.args.store.now c.save.new.store c.in_err-save.ensures.others

pub returns-in_err-save-clause-pages : goal.returns-in_err-save-clause-pages
returns-in_err-save-clause-pages g c =
    pages_saved g.B.PageStore.tells g.B.PageStore.held g.B.PageStore.kept_names g.B.PageStore.words c.args.self.now c.victim.new.self c.in-Some.page c.in-Some.ensures.victim c.in-Some.ensures.resident c.args.store.now c.save.new.store c.save.new.self c.in_err-save.ensures.pages

pub returns-in_err-save-clause-chooses : goal.returns-in_err-save-clause-chooses
returns-in_err-save-clause-chooses g c =
    let p = err_from_is_err_and c.from_residual.result c.from_residual.ensures.1 in
    rw (p.1, p.2) (λ _. chooses_from c.args.self.now c.save.new.self c.victim.new.self _ _ _ c.in-Some.page _ c.in-Some.ensures.victim c.in-Some.ensures.resident tt (λ q _ was. ap (λ (x : PagedMemory). is_some (page_at x.frames q)) c.in_err-save.ensures.failed ∙ marked_some c.args.self.now c.victim.new.self c.in-Some.ensures.victim.same_pages q was) c.in_err-save.ensures.exact (λ _. c.in_err-save.ensures.failed) c.in_err-save.ensures.shut)

pub save-requires : goal.save-requires
save-requires g c =
    record { table = marked_table c.args.self.now c.victim.new.self c.in-Some.ensures.victim.same_pages _ c.in-Some.ensures.victim.same_frames c.requires.table }

pub returns-in_err-save-clause-stay : goal.returns-in_err-save-clause-stay
returns-in_err-save-clause-stay g c =
    let q = err_from_is_err_and c.from_residual.result c.from_residual.ensures.1 in
    rw q.1 (λ p there. ap (λ (x : PagedMemory). is_some (page_at x.frames p)) c.in_err-save.ensures.failed ∙ marked_some c.args.self.now c.victim.new.self c.in-Some.ensures.victim.same_pages p there)

pub returns-in_err-save-clause-absent : goal.returns-in_err-save-clause-absent
returns-in_err-save-clause-absent g c =
    λ p none. ap (λ (x : PagedMemory). page_at x.frames p) c.in_err-save.ensures.failed ∙ marked_none c.args.self.now c.victim.new.self c.in-Some.ensures.victim.same_pages p none

pub returns-clause-stands : goal.returns-clause-stands
returns-clause-stands g c =
    left_stands g.B.PageStore.tells g.B.PageStore.held g.B.PageStore.kept_names g.B.PageStore.words c.args.self.now c.victim.new.self c.in-Some.page c.in-Some.ensures.victim c.in-Some.ensures.resident c.args.store.now c.save.new.store c.save.new.self c.in_ok-save.ensures.saves c.remove.new.self (on_taken _ c.remove.result c.remove.ensures.value (c.in_ok-save.ensures.saves.residents c.in-Some.page ∙ marked_some c.args.self.now c.victim.new.self c.in-Some.ensures.victim.same_pages c.in-Some.page c.in-Some.ensures.resident) c.remove.ensures.gone) c.in_ok-save.ensures.stands

pub returns-clause-table : goal.returns-clause-table
returns-clause-table g c =
    left_table g.B.PageStore.tells g.B.PageStore.held g.B.PageStore.kept_names g.B.PageStore.words c.args.self.now c.victim.new.self c.in-Some.page c.in-Some.ensures.victim c.in-Some.ensures.resident c.args.store.now c.save.new.store c.save.new.self c.in_ok-save.ensures.saves c.remove.new.self (on_taken _ c.remove.result c.remove.ensures.value (c.in_ok-save.ensures.saves.residents c.in-Some.page ∙ marked_some c.args.self.now c.victim.new.self c.in-Some.ensures.victim.same_pages c.in-Some.page c.in-Some.ensures.resident) c.remove.ensures.gone) c.in_ok-save.ensures.table

pub returns-clause-others : goal.returns-clause-others
returns-clause-others g c =
    keeps_from g.B.PageStore.tells g.B.PageStore.held g.B.PageStore.kept_names g.B.PageStore.words c.args.self.now c.save.new.self c.victim.new.self c.remove.new.self c.args.store.now c.save.new.store c.in_ok-save.ensures.others

pub returns-clause-pages : goal.returns-clause-pages
returns-clause-pages g c =
    left_pages g.B.PageStore.tells g.B.PageStore.held g.B.PageStore.kept_names g.B.PageStore.words c.args.self.now c.victim.new.self c.in-Some.page c.in-Some.ensures.victim c.in-Some.ensures.resident c.args.store.now c.save.new.store c.save.new.self c.in_ok-save.ensures.saves c.remove.new.self (on_taken _ c.remove.result c.remove.ensures.value (c.in_ok-save.ensures.saves.residents c.in-Some.page ∙ marked_some c.args.self.now c.victim.new.self c.in-Some.ensures.victim.same_pages c.in-Some.page c.in-Some.ensures.resident) c.remove.ensures.gone) c.in_ok-save.ensures.pages

pub returns-clause-room : goal.returns-clause-room
returns-clause-room g c =
    left_room g.B.PageStore.tells g.B.PageStore.held g.B.PageStore.kept_names g.B.PageStore.words c.args.self.now c.victim.new.self c.in-Some.page c.in-Some.ensures.victim c.in-Some.ensures.resident c.args.store.now c.save.new.store c.save.new.self c.in_ok-save.ensures.saves c.remove.new.self (on_taken _ c.remove.result c.remove.ensures.value (c.in_ok-save.ensures.saves.residents c.in-Some.page ∙ marked_some c.args.self.now c.victim.new.self c.in-Some.ensures.victim.same_pages c.in-Some.page c.in-Some.ensures.resident) c.remove.ensures.gone) c.in_ok-save.ensures.table

pub returns-clause-chooses : goal.returns-clause-chooses
returns-clause-chooses g c =
    let here = left_here g.B.PageStore.tells g.B.PageStore.held g.B.PageStore.kept_names g.B.PageStore.words c.args.self.now c.victim.new.self c.in-Some.page c.in-Some.ensures.victim c.in-Some.ensures.resident c.args.store.now c.save.new.store c.save.new.self c.in_ok-save.ensures.saves c.remove.new.self (on_taken _ c.remove.result c.remove.ensures.value (c.in_ok-save.ensures.saves.residents c.in-Some.page ∙ marked_some c.args.self.now c.victim.new.self c.in-Some.ensures.victim.same_pages c.in-Some.page c.in-Some.ensures.resident) c.remove.ensures.gone) in
    let others = left_others g.B.PageStore.tells g.B.PageStore.held g.B.PageStore.kept_names g.B.PageStore.words c.args.self.now c.victim.new.self c.in-Some.page c.in-Some.ensures.victim c.in-Some.ensures.resident c.args.store.now c.save.new.store c.save.new.self c.in_ok-save.ensures.saves c.remove.new.self (on_taken _ c.remove.result c.remove.ensures.value (c.in_ok-save.ensures.saves.residents c.in-Some.page ∙ marked_some c.args.self.now c.victim.new.self c.in-Some.ensures.victim.same_pages c.in-Some.page c.in-Some.ensures.resident) c.remove.ensures.gone) in
    λ _. chooses_from c.args.self.now (record c.save.new.self { frames = c.remove.new.self }) c.victim.new.self _ _ _ c.in-Some.page _ c.in-Some.ensures.victim c.in-Some.ensures.resident here others c.in_ok-save.ensures.exact (λ none. absurd (cc none)) c.in_ok-save.ensures.shut

pub returns-clause-gone : goal.returns-clause-gone
returns-clause-gone g c =
    λ _. left_gone g.B.PageStore.tells g.B.PageStore.held g.B.PageStore.kept_names g.B.PageStore.words c.args.self.now c.victim.new.self c.in-Some.page c.in-Some.ensures.victim c.in-Some.ensures.resident c.args.store.now c.save.new.store c.save.new.self c.in_ok-save.ensures.saves c.remove.new.self (on_taken _ c.remove.result c.remove.ensures.value (c.in_ok-save.ensures.saves.residents c.in-Some.page ∙ marked_some c.args.self.now c.victim.new.self c.in-Some.ensures.victim.same_pages c.in-Some.page c.in-Some.ensures.resident) c.remove.ensures.gone)

pub returns-clause-absent : goal.returns-clause-absent
returns-clause-absent g c =
    left_absent g.B.PageStore.tells g.B.PageStore.held g.B.PageStore.kept_names g.B.PageStore.words c.args.self.now c.victim.new.self c.in-Some.page c.in-Some.ensures.victim c.in-Some.ensures.resident c.args.store.now c.save.new.store c.save.new.self c.in_ok-save.ensures.saves c.remove.new.self (on_taken _ c.remove.result c.remove.ensures.value (c.in_ok-save.ensures.saves.residents c.in-Some.page ∙ marked_some c.args.self.now c.victim.new.self c.in-Some.ensures.victim.same_pages c.in-Some.page c.in-Some.ensures.resident) c.remove.ensures.gone)

pub returns-clause-absent_blocks : goal.returns-clause-absent_blocks
returns-clause-absent_blocks g c =
    left_blocks g.B.PageStore.tells g.B.PageStore.held g.B.PageStore.kept_names g.B.PageStore.words c.args.self.now c.victim.new.self c.in-Some.page c.in-Some.ensures.victim c.in-Some.ensures.resident c.args.store.now c.save.new.store c.save.new.self c.in_ok-save.ensures.saves c.remove.new.self (on_taken _ c.remove.result c.remove.ensures.value (c.in_ok-save.ensures.saves.residents c.in-Some.page ∙ marked_some c.args.self.now c.victim.new.self c.in-Some.ensures.victim.same_pages c.in-Some.page c.in-Some.ensures.resident) c.remove.ensures.gone)
