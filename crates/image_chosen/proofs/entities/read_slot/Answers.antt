use Rattle.std.proofs.Common.{◌≡◌, ◌∙◌, Some, ap, subst, sym}
use Rattle.std.specs.Prelude.{slice_get}
use Rattle.std.proofs.lemmas.Option.{slice_get-get_or}
use Rattle.edge_disk.specs.Image.{Image}
use Rattle.image_chosen_facts.specs.image_blobs.Loading.{IsBadRecord}
use Rattle.base_types.specs.declared.records.Rec.{Rec}
use Rattle.image_blocks.specs.Checks.{Bad}
use Rattle.image_chosen_facts.proofs.Reading.{blocks_there}
use Rattle.image_chosen.proofs.Verdicts.{if_err, told_bad}
use Rattle.image_chosen.proofs.entities.read_slot.Goals as goal

pub load-requires-clause-some : goal.load-requires-clause-some
load-requires-clause-some g c =
    let rec : Rec = c.index.result.now in
    let there : slice_get c.args.log.now.recs.items c.args.slot ≡ Some rec = slice_get-get_or c.args.log.now.recs.items c.args.slot rec c.requires.there ∙ ap Some (sym c.index.ensures) in
    (c.requires.known.in_range c.args.slot rec there).lengths.0

pub load-requires-clause-few : goal.load-requires-clause-few
load-requires-clause-few g c =
    let rec : Rec = c.index.result.now in
    let there : slice_get c.args.log.now.recs.items c.args.slot ≡ Some rec = slice_get-get_or c.args.log.now.recs.items c.args.slot rec c.requires.there ∙ ap Some (sym c.index.ensures) in
    (c.requires.known.in_range c.args.slot rec there).lengths.1

pub load-requires-clause-there : goal.load-requires-clause-there
load-requires-clause-there g c =
    let rec : Rec = c.index.result.now in
    let there : slice_get c.args.log.now.recs.items c.args.slot ≡ Some rec = slice_get-get_or c.args.log.now.recs.items c.args.slot rec c.requires.there ∙ ap Some (sym c.index.ensures) in
    blocks_there c.args.log.now.blocks (g.D.Disk.block_count c.args.disk.now) _ rec (c.requires.known.in_range c.args.slot rec there) c.requires.known.within

pub returns-in-Ok-clause-record : goal.returns-in-Ok-clause-record
returns-in-Ok-clause-record g c = slice_get-get_or c.args.log.now.recs.items c.args.slot c.index.result.now c.requires.there ∙ ap Some (sym c.index.ensures)

pub returns-in-Err-clause-foreign : goal.returns-in-Err-clause-foreign
returns-in-Err-clause-foreign g c t bad is =
    let rec : Rec = c.index.result.now in
    let image : Image = g.D.Disk.reading c.args.disk.now in
    let told : IsBadRecord image rec c.body_of.result c.in-Err.bad = if_err c.in_ok-part.field-0 c.in-Err.bad _ c.in-Err.is (c.in_ok-part.ensures.foreign t) in
    record {
      rec = rec;
      there = slice_get-get_or c.args.log.now.recs.items c.args.slot rec c.requires.there ∙ ap Some (sym c.index.ensures);
      fault = subst (λ n. IsBadRecord image rec n bad) c.body_of.ensures.at (subst (λ (b : Bad). IsBadRecord image rec c.body_of.result b) (told_bad c.in-Err.bad bad is) told);
    }
