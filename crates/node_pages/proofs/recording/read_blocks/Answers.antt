use Rattle.std.proofs.Common.{sym, ap, subst, ◌∙◌}
use Rattle.edge_disk.proofs.Ticks.{Rose-before}
use Rattle.edge_disk.specs.Image.{Image}
use Rattle.kernel_record_facts.specs.Cells.{words_on}
use Rattle.kernel_record_facts.specs.image_meaning.Parts.{Spells, table_in}
use Rattle.node_pages.proofs.Pages.{pages_same}
use Rattle.node_pages.proofs.Stored.{answers_done, answers_err, answers_failed, blob_failed, blob_read, goes_to_blob, goes_to_pages, memory_done, ok_done, went_well}
use Rattle.node_pages.specs.Reading.{pages_to}
use Rattle.node_pages.proofs.recording.read_blocks.Goals as goal

pub returns-then-is_err-clause-answers : goal.returns-then-is_err-clause-answers
returns-then-is_err-clause-answers g c =
    let e = c.read_blob.ensures in
    answers_failed g.D.Disk c.args.store.now c.read_blob.new.self (goes_to_blob g.D.Disk c.args.store.now c.read_blob.new.self e.same e.disk e.between)
    (blob_failed c.args.store.now.shut c.read_blob.new.self.shut _ c.read_blob.result e.answers c.requires (sym c.is_err.ensures.value ∙ c.if-is_err.true))

pub returns-in-None-clause-answers : goal.returns-in-None-clause-answers
returns-in-None-clause-answers g c =
    let e = c.read_blob.ensures in
    answers_done g.D.Disk c.args.store.now c.read_blob.new.self (goes_to_blob g.D.Disk c.args.store.now c.read_blob.new.self e.same e.disk e.between) _ memory_done
    (blob_read c.args.store.now.shut c.read_blob.new.self.shut _ c.read_blob.result e.answers (sym c.is_err.ensures.value ∙ c.if-is_err.false) ∙ c.requires)

pub returns-in-Ok-clause-blob : goal.returns-in-Ok-clause-blob
returns-in-Ok-clause-blob g c t = went_well c.read_blob.result (sym c.is_err.ensures.value ∙ c.if-is_err.false) (c.read_blob.ensures.blob t)

pub returns-in-Ok-clause-pages : goal.returns-in-Ok-clause-pages
returns-in-Ok-clause-pages g c t p of spells =
    let blob = went_well c.read_blob.result (sym c.is_err.ensures.value ∙ c.if-is_err.false) (c.read_blob.ensures.blob t) in
    c.in-Ok.ensures.pages t
    ∙ pages_same (words_on (g.D.Disk.reading c.read_blob.new.self.disk)) c.in-Some.table (table_in p) (c.in-Some.ensures p of (subst (Spells p) (sym (c.as_slice.ensures.bytes ∙ blob)) spells)) 256
    ∙ ap (λ (image : Image). pages_to (words_on image) (table_in p) 256) (c.read_blob.ensures.disk.same_reading t)

pub returns-in-Ok-clause-answers : goal.returns-in-Ok-clause-answers
returns-in-Ok-clause-answers g c =
    let e = c.read_blob.ensures in
    let r = c.in-Ok.ensures.reads in
    answers_done g.D.Disk c.args.store.now c.read_pages.new.store
    (goes_to_pages g.D.Disk c.args.store.now c.read_blob.new.self e.same e.disk e.between c.read_pages.new.store r.between r.same_blocks.same_held r.same_written r.same_words) _ (ok_done _) r.ok

pub returns-in-Err-clause-answers : goal.returns-in-Err-clause-answers
returns-in-Err-clause-answers g c =
    let e = c.read_blob.ensures in
    let r = c.in-Err.ensures.reads in
    answers_err g.D.Disk c.args.store.now c.read_pages.new.store
    (goes_to_pages g.D.Disk c.args.store.now c.read_blob.new.self e.same e.disk e.between c.read_pages.new.store r.between r.same_blocks.same_held r.same_written r.same_words) c.in-Err.fault
    (λ is. (let f = r.failed is in (Rose-before (g.D.Disk.faults c.args.store.now.disk) (g.D.Disk.faults c.read_blob.new.self.disk) (g.D.Disk.faults c.read_pages.new.store.disk) e.disk.later r.later f.0, f.1)))
    r.memory r.not_shut
