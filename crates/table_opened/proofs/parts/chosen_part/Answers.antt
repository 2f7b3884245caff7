use Rattle.std.proofs.Common.{◌≡◌, Some, subst, sym}
use Rattle.image_state_laws.specs.image_meaning.Parts.{IsFormed, table_in}
use Rattle.image_chosen.specs.image_chosen_facts.Tables.{IsTableOf}
use Rattle.kernel_record_facts.specs.cell_states.declared.cells.Part.TheVariants as kernel
use Rattle.kernel_record_facts.specs.cell_states.declared.cells.Storage.{Storage}
use Rattle.image_chosen.specs.image_fits.Chosen.{part_of}
use Rattle.image_chosen.specs.image_fits.declared.chosen.ChosenPart.{ChosenPart}
use Rattle.image_chosen.specs.image_fits.declared.chosen.ChosenPart.TheVariants as chosen
use Rattle.image_chosen.specs.blob_reading.declared.containers.ContainerBlob.{ContainerBlob}
use Rattle.table_opened.specs.Opened.{IsChosenPart, memory_with}
use Rattle.table_opened.proofs.OnePart.{container_part}
use Rattle.table_opened.proofs.parts.chosen_part.Goals as goal

pub returns-in_ok-storage-in-Container : goal.returns-in_ok-storage-in-Container
returns-in_ok-storage-in-Container c =
    let blob : ContainerBlob = c.in-Container.container in
    let formed : IsFormed c.args.x (part_of (chosen.Container blob)) = subst (λ (p : ChosenPart). IsFormed c.args.x (part_of p)) c.in-Container.is c.requires.formed in
    let table : IsTableOf (table_in (part_of (chosen.Container blob))) c.args.table.now.0 =
    subst (λ (p : ChosenPart). IsTableOf (table_in (part_of p)) c.args.table.now.0) c.in-Container.is c.requires.table in
    let made : Storage = c.in_ok-storage-in-Container.storage in
    let is : made ≡ record { head = Some blob.head; memory = memory_with blob.head.tag blob.head.pages c.args.table.now.0 c.args.frames } =
    subst (λ (d : ContainerBlob). made ≡ record { head = Some d.head; memory = memory_with d.head.tag d.head.pages c.args.table.now.0 c.args.frames }) c.in-Container.container-is
    (λ i. record { head = c.in_ok-storage-in-Container.ensures.head i; memory = c.in_ok-storage-in-Container.ensures.memory i }) in
    subst (λ (p : ChosenPart). IsChosenPart c.args.frames c.args.x (Some (record { rec = c.args.entity.rec; part = p })) (kernel.Container made)) (sym c.in-Container.is)
    (subst (λ (b : Storage). IsChosenPart c.args.frames c.args.x (Some (record { rec = c.args.entity.rec; part = chosen.Container blob })) (kernel.Container b)) (sym is)
    (container_part c.args.x blob c.args.table.now.0 formed table c.args.frames c.args.entity.rec))
