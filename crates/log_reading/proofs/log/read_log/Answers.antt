use Rattle.std.proofs.Common.{◌≡◌, ℕ, Some, None, refl, sym, ap, ◌∙◌}
use Rattle.edge_disk.specs.Image.{Image}
use Rattle.image_blocks.specs.Checks.{active_area, check_1, check_2, check_3, log_fault, log_in}
use Rattle.image_blocks.specs.image_facts.Checks.{count_in}
use Rattle.image_blocks.specs.Layout.{epoch_in}
use Rattle.log_facts.proofs.ReadSoFar.{ReadsOnly-trans}
use Rattle.log_reading.proofs.Verdicts.{err_other, first_bad, match_err, match_ok, second_bad, third_is, told_bad}
use Rattle.log_reading.proofs.log.read_log.Goals as goal

pub returns-in-Err-clause-foreign : goal.returns-in-Err-clause-foreign
returns-in-Err-clause-foreign g c t bad is =
    first_bad (g.D.Disk.reading c.args.disk.now) bad (match_err c.in_ok-blocks.field-0 c.in-Err.bad _ _ c.in-Err.is (c.in_ok-blocks.ensures.front t) ∙ ap Some (told_bad c.in-Err.bad bad is))

pub returns-in-Err-2-clause-foreign : goal.returns-in-Err-2-clause-foreign
returns-in-Err-2-clause-foreign g c t bad is =
    let front = match_ok c.in_ok-blocks.field-0 c.in-Ok.blocks _ _ c.in-Ok.is (c.in_ok-blocks.ensures.front t) in
    let still = c.front_of.ensures.same.same_reading t in
    second_bad (g.D.Disk.reading c.args.disk.now) bad front.0
    (ap check_2 (sym still) ∙ (match_err c.in_ok-place.field-0 c.in-Err-2.bad _ _ c.in-Err-2.is (c.in_ok-place.ensures.place t) ∙ ap Some (told_bad c.in-Err-2.bad bad is)))

pub returns-in-Err-records_of-clause-foreign : goal.returns-in-Err-records_of-clause-foreign
returns-in-Err-records_of-clause-foreign g c t bad is =
    let image : Image = g.D.Disk.reading c.args.disk.now in
    let front = match_ok c.in_ok-blocks.field-0 c.in-Ok.blocks _ _ c.in-Ok.is (c.in_ok-blocks.ensures.front t) in
    let still = c.front_of.ensures.same.same_reading t in
    let so = c.place_of.ensures.same.same_reading t ∙ still in
    let place = match_ok c.in_ok-place.field-0 c.in-Ok-2.place _ _ c.in-Ok-2.is (c.in_ok-place.ensures.place t) in
    let active : active_area image ≡ Some c.in-Ok-2.place.0 = ap active_area (sym still) ∙ place.0 in
    let second : check_2 image ≡ None = ap check_2 (sym still) ∙ place.1 in
    let counted : c.in-Ok.blocks ≡ count_in (g.D.Disk.reading c.place_of.new.disk) = front.1 ∙ ap count_in (sym so) in
    let third : check_3 image ≡ Some bad = ap (log_fault image) active ∙ (ap (λ (i : Image). log_fault i (Some c.in-Ok-2.place.0)) (sym so) ∙ c.in-Err-records_of.ensures.foreign t counted bad (err_other c.in-Err-records_of.fault bad is)) in
    third_is image (Some bad) front.0 second third

pub returns-in-Err-records_of-clause-same : goal.returns-in-Err-records_of-clause-same
returns-in-Err-records_of-clause-same g c =
    let disk = g.met.D.Disk in
    ReadsOnly-trans _ _ _ (λ t d s b. disk.counts_now d s b t) (ReadsOnly-trans _ _ _ (λ t d s b. disk.counts_now d s b t) c.front_of.ensures.same c.place_of.ensures.same) c.records_of.ensures.same

pub returns-clause-same : goal.returns-clause-same
returns-clause-same g c =
    let disk = g.met.D.Disk in
    ReadsOnly-trans _ _ _ (λ t d s b. disk.counts_now d s b t) (ReadsOnly-trans _ _ _ (λ t d s b. disk.counts_now d s b t) c.front_of.ensures.same c.place_of.ensures.same) c.records_of.ensures.same

pub returns-clause-log : goal.returns-clause-log
returns-clause-log g c t =
    let image : Image = g.D.Disk.reading c.args.disk.now in
    let front = match_ok c.in_ok-blocks.field-0 c.in-Ok.blocks _ _ c.in-Ok.is (c.in_ok-blocks.ensures.front t) in
    let still = c.front_of.ensures.same.same_reading t in
    let so = c.place_of.ensures.same.same_reading t ∙ still in
    let place = match_ok c.in_ok-place.field-0 c.in-Ok-2.place _ _ c.in-Ok-2.is (c.in_ok-place.ensures.place t) in
    let active : active_area image ≡ Some c.in-Ok-2.place.0 = ap active_area (sym still) ∙ place.0 in
    let second : check_2 image ≡ None = ap check_2 (sym still) ∙ place.1 in
    let counted : c.in-Ok.blocks ≡ count_in (g.D.Disk.reading c.place_of.new.disk) = front.1 ∙ ap count_in (sym so) in
    let log = c.in-Ok-records_of.ensures.recs t counted in
    let third : check_3 image ≡ None = ap (log_fault image) active ∙ (ap (λ (i : Image). log_fault i (Some c.in-Ok-2.place.0)) (sym so) ∙ log.0) in
    record {
      has = record {
        good = third_is image None front.0 second third;
        area = c.in-Ok-2.place.0;
        active = active;
        log = ap (λ (i : Image). log_in i c.in-Ok-2.place.0) (sym so) ∙ sym log.1;
      };
      area = refl;
      epoch = place.2 ∙ ap (λ (i : Image). epoch_in i c.in-Ok-2.place.0) still;
      blocks = front.1;
    }
