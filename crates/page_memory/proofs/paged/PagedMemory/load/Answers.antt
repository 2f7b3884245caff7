use Rattle.std.proofs.Common.{ℕ, ◌/◌, ◌%◌, refl, ap, ◌∙◌}
use Rattle.std.proofs.lemmas.Result.{err_from_is_err_and}
use Rattle.data_frames.specs.FrameTable.{FrameTable}
use Rattle.page_memory.proofs.Bringing.{room_err, room_ok}
use Rattle.page_memory.proofs.Evictions.{keeps_from, marked_stands, marked_table}
use Rattle.page_memory.proofs.Pages.{stands_trans}
use Rattle.page_memory.proofs.Resident.{read_marked, read_pages, reads_same, same_residents, word_is}
use Rattle.page_memory.proofs.paged.PagedMemory.load.Goals as goal

pub returns-clause-word : goal.returns-clause-word
returns-clause-word g c =
    λ t. c.word.ensures.value ∙ word_is (g.S.Supplier.word c.args.gate.now.supply) (g.B.PageStore.words c.bring.new.store) c.bring.new.self (c.args.address / 128) (c.args.address % 128) c.in_ok-bring.ensures.resident ∙ ap (λ (f : ℕ → ℕ). f c.args.address) (c.in_ok-bring.ensures.stands t (c.requires.clean t)).same

pub returns-clause-stands : goal.returns-clause-stands
returns-clause-stands g c =
    λ t. let first = c.in_ok-bring.ensures.stands t (c.requires.clean t) in stands_trans (g.S.Supplier.word c.args.gate.now.supply) (g.B.PageStore.words c.args.store.now) (g.B.PageStore.words c.bring.new.store) (g.B.PageStore.words c.bring.new.store) c.args.self.now c.bring.new.self (record c.bring.new.self { frames = c.word.new.self }) first (marked_stands c.bring.new.self c.word.new.self (read_marked c.bring.new.self (c.args.address / 128) c.in_ok-bring.ensures.resident c.word.new.self _ _ c.word.ensures.marked refl refl) (g.S.Supplier.word c.args.gate.now.supply) (g.B.PageStore.words c.bring.new.store) first.clean)

pub returns-clause-table : goal.returns-clause-table
returns-clause-table g c =
    marked_table c.bring.new.self c.word.new.self (read_marked c.bring.new.self (c.args.address / 128) c.in_ok-bring.ensures.resident c.word.new.self _ _ c.word.ensures.marked refl refl) _ (ap (λ (t : FrameTable). t.frames) c.word.ensures.marked) c.in_ok-bring.ensures.table

pub returns-clause-others : goal.returns-clause-others
returns-clause-others g c =
    keeps_from g.B.PageStore.tells g.B.PageStore.held g.B.PageStore.kept_names g.B.PageStore.words c.args.self.now c.bring.new.self c.args.self.now.frames c.word.new.self c.args.store.now c.bring.new.store c.in_ok-bring.ensures.others

pub returns-clause-pages : goal.returns-clause-pages
returns-clause-pages g c =
    read_pages c.bring.new.self (c.args.address / 128) c.in_ok-bring.ensures.resident c.word.new.self _ _ c.word.ensures.marked refl refl _ c.args.self.now c.in_ok-bring.ensures.pages

pub returns-clause-room : goal.returns-clause-room
returns-clause-room g c =
    room_ok _ _ _ c.args.self.now c.bring.new.self (record c.bring.new.self { frames = c.word.new.self }) (same_residents c.bring.new.self (c.args.address / 128) c.in_ok-bring.ensures.resident c.word.new.self _ _ c.word.ensures.marked) (c.args.address / 128) _ _ c.in_ok-bring.ensures.stay c.in_ok-bring.ensures.chooses c.in_ok-bring.ensures.shut

pub returns-clause-counts : goal.returns-clause-counts
returns-clause-counts g c = record {
  later = c.in_ok-bring.ensures.later;
  one_write = c.in_ok-bring.ensures.calls.one_write;
  reads = reads_same c.args.self.now c.bring.new.self (record c.bring.new.self { frames = c.word.new.self }) (c.args.address / 128) _ _ (same_residents c.bring.new.self (c.args.address / 128) c.in_ok-bring.ensures.resident c.word.new.self _ _ c.word.ensures.marked) c.in_ok-bring.ensures.reads;
  untouched = λ there. (c.in_ok-bring.ensures.had there).1;
}

pub returns-in_err-bring-clause-room : goal.returns-in_err-bring-clause-room
returns-in_err-bring-clause-room g c =
    let p = err_from_is_err_and c.from_residual.result c.from_residual.ensures.1 in
    rw (p.1, p.2) (room_err _ _ _ c.args.self.now c.bring.new.self _ _ (λ there. (c.in_err-bring.ensures.had there).0) c.in_err-bring.ensures.stay c.in_err-bring.ensures.chooses c.in_err-bring.ensures.no_blocks c.in_err-bring.ensures.shut)

pub returns-in_err-bring-clause-counts : goal.returns-in_err-bring-clause-counts
returns-in_err-bring-clause-counts g c = record {
  later = c.in_err-bring.ensures.later;
  one_write = c.in_err-bring.ensures.calls.one_write;
  reads = c.in_err-bring.ensures.reads;
  untouched = λ there. (c.in_err-bring.ensures.had there).1;
}

pub returns-clause-resident : goal.returns-clause-resident
returns-clause-resident g c =
    same_residents c.bring.new.self (c.args.address / 128) c.in_ok-bring.ensures.resident c.word.new.self _ _ c.word.ensures.marked (c.args.address / 128) ∙ c.in_ok-bring.ensures.resident
