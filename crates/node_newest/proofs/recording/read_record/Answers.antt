use Rattle.std.proofs.Common.{subst, ◌∙◌}
use Rattle.kernel_record_facts.specs.image_meaning.Parts.{IsOf}
use Rattle.node_pages.proofs.Stored.{answers_done, answers_err, memory_done, ok_done}
use Rattle.node_shipments.specs.Parts.{IsReadFrom}
use Rattle.node_newest.proofs.recording.read_record.Goals as goal

pub returns-in-Err-clause-answers : goal.returns-in-Err-clause-answers
returns-in-Err-clause-answers g c =
    let a = c.in-Err.ensures.answers in
    answers_err g.D.Disk c.args.store.now c.read_blocks.new.store a.goes c.in-Err.fault a.failed a.memory a.not_shut

pub returns-in-Some-clause-read : goal.returns-in-Some-clause-read
returns-in-Some-clause-read g c t =
    let bytes = c.as_slice.ensures.bytes ∙ c.in-Ok.ensures.blob t in
    record {
      part = subst (IsReadFrom c.in-Some.shipped.part) bytes c.in-Some.ensures.part;
      pages = λ p of spells. c.in-Some.ensures.pages ∙ c.in-Ok.ensures.pages t p (subst (λ x. IsOf x p) c.in-Some.ensures.entity of) spells;
    }

pub returns-in-Some-clause-answers : goal.returns-in-Some-clause-answers
returns-in-Some-clause-answers g c = (let a = c.in-Ok.ensures.answers in answers_done g.D.Disk c.args.store.now c.read_blocks.new.store a.goes _ (ok_done _) a.ok)

pub returns-in-None-clause-answers : goal.returns-in-None-clause-answers
returns-in-None-clause-answers g c = (let a = c.in-Ok.ensures.answers in answers_done g.D.Disk c.args.store.now c.read_blocks.new.store a.goes _ memory_done a.ok)
