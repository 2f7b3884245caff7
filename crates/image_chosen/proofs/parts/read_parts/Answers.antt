use Rattle.std.proofs.Common.{List, Option, sym, subst}
use Rattle.edge_disk.specs.Image.{Image}
use Rattle.base_types.specs.declared.records.Rec.{Rec}
use Rattle.image_blocks.specs.Checks.{Bad}
use Rattle.image_chosen_facts.specs.image_meaning.Foreign.{IsUnfit}
use Rattle.image_chosen_facts.specs.image_meaning.Parts.{AreSpelt}
use Rattle.image_chosen_facts.specs.log_facts.Logs.{AreInRange}
use Rattle.image_chosen_facts.specs.log_reading.declared.log.ImageLog.{ImageLog}
use Rattle.image_chosen_facts.specs.image_fits.Chosen.{parts_of}
use Rattle.image_chosen_facts.specs.image_fits.Fits.{AreFit}
use Rattle.image_chosen_facts.specs.image_fits.declared.chosen.ChosenEntity.{ChosenEntity}
use Rattle.image_chosen_facts.proofs.Unfit.{accepted_with, blob_meaning, unfit_meaning}
use Rattle.image_chosen.proofs.Verdicts.{handed_on, if_none, if_some, memory_not_told, not_told, told_bad}
use Rattle.image_chosen.proofs.parts.read_parts.Goals as goal

pub choice_of-cut-requires-clause-range : goal.choice_of-cut-requires-clause-range
choice_of-cut-requires-clause-range g c =
    let log : ImageLog = c.args.log.now in
    subst (λ (rs : List Rec). AreInRange log.blocks rs) (sym c.deref.ensures.value) c.requires.in_range

pub returns-in_err-entities-clause-foreign : goal.returns-in_err-entities-clause-foreign
returns-in_err-entities-clause-foreign g c t log bad is =
    blob_meaning (g.D.Disk.reading c.args.disk.now) c.args.log.now log bad (c.in_err-entities.ensures.foreign t bad (handed_on c.from_residual.result c.in_err-entities.field-0.0 bad c.from_residual.ensures.1 is))

pub returns-in-Ok-None-clause-accepted : goal.returns-in-Ok-None-clause-accepted
returns-in-Ok-None-clause-accepted g c t log =
    let known : ImageLog = c.args.log.now in
    let es : List (Option ChosenEntity) = c.in_ok-entities.entities.items in
    let fit : AreFit known.blocks known.recs.items (parts_of es) = subst (λ (l : List (Option ChosenEntity)). AreFit known.blocks known.recs.items (parts_of l)) c.deref-2.ensures.value
    (if_none c.in-Ok-None.field-0 (AreFit known.blocks known.recs.items (parts_of c.deref-2.result.now)) c.in-Ok-None.field-0-is c.in-Ok-None.ensures.none) in
    accepted_with (g.D.Disk.reading c.args.disk.now) c.args.log.now log (parts_of es) (c.in_ok-entities.ensures.spelt t) fit

pub returns-in-Ok-None-clause-foreign : goal.returns-in-Ok-None-clause-foreign
returns-in-Ok-None-clause-foreign g c t log bad is = not_told _ bad is

pub returns-in-Ok-Some-clause-foreign : goal.returns-in-Ok-Some-clause-foreign
returns-in-Ok-Some-clause-foreign g c t log bad is =
    let image : Image = g.D.Disk.reading c.args.disk.now in
    let recs : List Rec = c.args.log.now.recs.items in
    let es : List (Option ChosenEntity) = c.in_ok-entities.entities.items in
    let spelt : AreSpelt image recs (parts_of c.deref-2.result.now) = subst (λ (l : List (Option ChosenEntity)). AreSpelt image recs (parts_of l)) (sym c.deref-2.ensures.value) (c.in_ok-entities.ensures.spelt t) in
    let unfit : IsUnfit image recs c.args.log.now.area c.in-Ok-Some.bad = if_some c.in-Ok-Some.field-0 c.in-Ok-Some.bad _ c.in-Ok-Some.field-0-is (c.in-Ok-Some.ensures.some image spelt log.blocks) in
    unfit_meaning image c.args.log.now log bad (subst (λ (b : Bad). IsUnfit image recs c.args.log.now.area b) (told_bad c.in-Ok-Some.bad bad is) unfit)

pub returns-in-Err-clause-foreign : goal.returns-in-Err-clause-foreign
returns-in-Err-clause-foreign g c t log bad is = memory_not_told bad is
