use Rattle.std.proofs.Common.{None, Some, sym, ap, subst, ◌∙◌}
use Rattle.std.proofs.lemmas.Bool.{false≢true}
use Rattle.std.proofs.lemmas.Option.{same_Some}
use Rattle.node_newest.proofs.Answering.{err_as, reads_none}
use Rattle.node_newest.specs.Newest.{IsOfRecord}
use Rattle.node_newest.specs.Reading.{IsReadOf}
use Rattle.node_pages.proofs.Stored.{answers_done, answers_err, ok_done}
use Rattle.node_pages.specs.Reading.{last_rec}
use Rattle.node_pages.specs.declared.faults.ShipFault.TheVariants as ship
use Rattle.node_newest.proofs.recording.read_last.Goals as goal

-- none is found

pub returns-in-None-clause-found : goal.returns-in-None-clause-found
returns-in-None-clause-found g c = subst (λ o. IsOfRecord o None) (c.in-None.ensures ∙ ap (λ rs. last_rec rs c.args.entity) c.recs.ensures) tt

pub returns-in-None-clause-answers : goal.returns-in-None-clause-answers
returns-in-None-clause-answers g c working = answers_done g.D.Disk c.args.store.now c.args.store.now (reads_none g.D.Disk g.met.D.Disk.only_now c.args.store.now) _ (ok_done _) working

-- one is read

pub returns-in-Ok-clause-none : goal.returns-in-Ok-clause-none
returns-in-Ok-clause-none g c working is = absurd (let no = c.in-Some.ensures ∙ ap (λ rs. last_rec rs c.args.entity) c.recs.ensures ∙ is in cc no)

pub returns-in-Ok-clause-found : goal.returns-in-Ok-clause-found
returns-in-Ok-clause-found g c = subst (λ o. IsOfRecord o (Some c.in-Ok.shipped)) (c.in-Some.ensures ∙ ap (λ rs. last_rec rs c.args.entity) c.recs.ensures) c.in-Ok.ensures.same

pub returns-in-Ok-clause-read : goal.returns-in-Ok-clause-read
returns-in-Ok-clause-read g c t r is =
    subst (λ q. IsReadOf (g.D.Disk.reading c.args.store.now.disk) q c.in-Ok.shipped) (same_Some _ _ (c.in-Some.ensures ∙ ap (λ rs. last_rec rs c.args.entity) c.recs.ensures ∙ is)) (c.in-Ok.ensures.read t)

pub returns-in-Ok-clause-answers : goal.returns-in-Ok-clause-answers
returns-in-Ok-clause-answers g c working = (let a = c.in-Ok.ensures.answers in answers_done g.D.Disk c.args.store.now c.read_record.new.store a.goes _ (ok_done _) a.ok)

-- its reads fail

pub returns-in-Err-clause-shut : goal.returns-in-Err-clause-shut
returns-in-Err-clause-shut g c =
    ((λ shut. absurd (false≢true (sym c.if-is_shut.false ∙ c.is_shut.ensures ∙ shut))), λ is. absurd (c.in-Err.ensures.answers.not_shut (err_as c.in-Err.fault ship.Shut is)))

pub returns-in-Err-clause-untouched : goal.returns-in-Err-clause-untouched
returns-in-Err-clause-untouched g c is = absurd (c.in-Err.ensures.answers.not_shut (err_as c.in-Err.fault ship.Shut is))

pub returns-in-Err-clause-none : goal.returns-in-Err-clause-none
returns-in-Err-clause-none g c working is = absurd (let no = c.in-Some.ensures ∙ ap (λ rs. last_rec rs c.args.entity) c.recs.ensures ∙ is in cc no)

pub returns-in-Err-clause-answers : goal.returns-in-Err-clause-answers
returns-in-Err-clause-answers g c working =
    let a = c.in-Err.ensures.answers in
    answers_err g.D.Disk c.args.store.now c.read_record.new.store a.goes c.in-Err.fault a.failed a.memory a.not_shut
