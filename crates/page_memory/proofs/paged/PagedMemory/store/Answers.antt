use Rattle.std.proofs.Common.{ℕ, ◌/◌, true, ap, ◌∙◌}
use Rattle.std.proofs.lemmas.Result.{err_from_is_err_and}
use Rattle.page_store.specs.model_kernel.Words.{put}
use Rattle.data_frames.specs.FrameTable.{resident_changed}
use Rattle.page_memory.proofs.Bringing.{room_err, room_ok}
use Rattle.page_memory.proofs.Evictions.{keeps_from}
use Rattle.page_memory.proofs.Resident.{clean_written, container_of, here, marks_err, others_unchanged, reads_same, same_container, same_residents, same_table, words_written}
use Rattle.page_memory.proofs.paged.PagedMemory.store.Goals as goal

pub returns-clause-written : goal.returns-clause-written
returns-clause-written g c =
    λ t. let first = c.in_ok-bring.ensures.stands t (c.requires.clean t) in words_written (g.S.Supplier.word c.args.gate.now.supply) (g.B.PageStore.words c.bring.new.store) c.bring.new.self c.args.address c.args.word c.in_ok-bring.ensures.resident c.set.new.self (c.set.ensures.bounded.whole_pages (c.args.address / 128) c.in_ok-bring.ensures.resident) c.set.ensures.written ∙ ap (λ (f : ℕ → ℕ). put f c.args.address c.args.word) first.same

pub returns-clause-clean : goal.returns-clause-clean
returns-clause-clean g c =
    λ t. let first = c.in_ok-bring.ensures.stands t (c.requires.clean t) in clean_written (g.S.Supplier.word c.args.gate.now.supply) (g.B.PageStore.words c.bring.new.store) c.bring.new.self c.args.address c.args.word c.in_ok-bring.ensures.resident c.set.new.self (c.set.ensures.bounded.whole_pages (c.args.address / 128) c.in_ok-bring.ensures.resident) c.set.ensures.written first.clean

pub returns-clause-table : goal.returns-clause-table
returns-clause-table g c =
    same_table c.bring.new.self (c.args.address / 128) c.in_ok-bring.ensures.resident c.set.new.self _ true c.set.ensures.written _ c.in_ok-bring.ensures.table

pub returns-clause-others : goal.returns-clause-others
returns-clause-others g c =
    keeps_from g.B.PageStore.tells g.B.PageStore.held g.B.PageStore.kept_names g.B.PageStore.words c.args.self.now c.bring.new.self c.args.self.now.frames c.set.new.self c.args.store.now c.bring.new.store c.in_ok-bring.ensures.others

pub returns-clause-blocks : goal.returns-clause-blocks
returns-clause-blocks g c =
    same_container c.bring.new.self (c.args.address / 128) c.in_ok-bring.ensures.resident c.set.new.self _ true c.set.ensures.written _ c.args.self.now c.in_ok-bring.ensures.pages

pub returns-clause-marks : goal.returns-clause-marks
returns-clause-marks g c = record {
  resident = same_residents c.bring.new.self (c.args.address / 128) c.in_ok-bring.ensures.resident c.set.new.self _ true c.set.ensures.written (c.args.address / 128) ∙ c.in_ok-bring.ensures.resident;
  changed = λ _. ap resident_changed (here c.bring.new.self (c.args.address / 128) c.in_ok-bring.ensures.resident c.set.new.self _ true c.set.ensures.written);
  others = λ p differs e. c.in_ok-bring.ensures.pages.none_changed p (others_unchanged c.bring.new.self (c.args.address / 128) c.in_ok-bring.ensures.resident c.set.new.self _ true c.set.ensures.written p differs e);
  by_load = λ load. absurd (cc load);
  failed = tt;
}

pub returns-clause-room : goal.returns-clause-room
returns-clause-room g c =
    room_ok _ _ _ c.args.self.now c.bring.new.self (record c.bring.new.self { frames = c.set.new.self }) (same_residents c.bring.new.self (c.args.address / 128) c.in_ok-bring.ensures.resident c.set.new.self _ true c.set.ensures.written) (c.args.address / 128) _ _ c.in_ok-bring.ensures.stay c.in_ok-bring.ensures.chooses c.in_ok-bring.ensures.shut

pub returns-clause-counts : goal.returns-clause-counts
returns-clause-counts g c = record {
  later = c.in_ok-bring.ensures.later;
  one_write = c.in_ok-bring.ensures.calls.one_write;
  reads = reads_same c.args.self.now c.bring.new.self (record c.bring.new.self { frames = c.set.new.self }) (c.args.address / 128) _ _ (same_residents c.bring.new.self (c.args.address / 128) c.in_ok-bring.ensures.resident c.set.new.self _ true c.set.ensures.written) c.in_ok-bring.ensures.reads;
  untouched = λ there. (c.in_ok-bring.ensures.had there).1;
}

pub returns-in_err-bring-clause-failed : goal.returns-in_err-bring-clause-failed
returns-in_err-bring-clause-failed g c =
    let p = err_from_is_err_and c.from_residual.result c.from_residual.ensures.1 in
    rw p.1 (λ t. (c.in_err-bring.ensures.stands t (c.requires.clean t)).same)

pub returns-in_err-bring-clause-clean : goal.returns-in_err-bring-clause-clean
returns-in_err-bring-clause-clean g c =
    λ t. (c.in_err-bring.ensures.stands t (c.requires.clean t)).clean

pub returns-in_err-bring-clause-blocks : goal.returns-in_err-bring-clause-blocks
returns-in_err-bring-clause-blocks g c =
    container_of _ c.args.self.now c.bring.new.self c.in_err-bring.ensures.pages

pub returns-in_err-bring-clause-marks : goal.returns-in_err-bring-clause-marks
returns-in_err-bring-clause-marks g c =
    let p = err_from_is_err_and c.from_residual.result c.from_residual.ensures.1 in
    rw p.1 (marks_err true c.args.self.now c.bring.new.self (c.args.address / 128) _ c.in_err-bring.ensures.pages.none_changed)

pub returns-in_err-bring-clause-room : goal.returns-in_err-bring-clause-room
returns-in_err-bring-clause-room g c =
    let p = err_from_is_err_and c.from_residual.result c.from_residual.ensures.1 in
    rw (p.1, p.2) (room_err _ _ _ c.args.self.now c.bring.new.self _ _ (λ there. (c.in_err-bring.ensures.had there).0) c.in_err-bring.ensures.stay c.in_err-bring.ensures.chooses c.in_err-bring.ensures.no_blocks c.in_err-bring.ensures.shut)

pub returns-in_err-bring-clause-counts : goal.returns-in_err-bring-clause-counts
returns-in_err-bring-clause-counts g c = record {
  later = c.in_err-bring.ensures.later;
  one_write = c.in_err-bring.ensures.calls.one_write;
  reads = c.in_err-bring.ensures.reads;
  untouched = λ there. (c.in_err-bring.ensures.had there).1;
}
