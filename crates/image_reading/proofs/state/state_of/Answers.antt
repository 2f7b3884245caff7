use Rattle.std.proofs.Common.{◌≡◌, ◌+◌, ◌<◌, ℕ, List, Option, length, slice_get, ap, sym, subst, ◌∙◌, arith}
use Rattle.edge_disk.specs.Image.{block_at}
use Rattle.plain_states.specs.Plains.{atlas_of, container_cell, locus_cell}
use Rattle.plain_states.specs.declared.plain.PlainAtlas.{PlainAtlas}
use Rattle.base_types.specs.declared.records.Rec.{Rec}
use Rattle.image_shown_facts.specs.image_meaning.Parts.{Part}
use Rattle.image_shown_facts.specs.image_chosen_facts.Tables.{blocks_in}
use Rattle.image_shown_facts.specs.image_chosen.Parts.{ArePartsOf}
use Rattle.log_reading.specs.declared.log.ImageLog.{ImageLog}
use Rattle.image_shown_facts.specs.image_fits.Chosen.{parts_of}
use Rattle.image_shown_facts.specs.image_fits.declared.chosen.ChosenEntity.{ChosenEntity}
use Rattle.image_shown_facts.specs.States.{AreOnDisk, IsCellOf, IsContainerPart, IsLocusPart, atlas_by, cell_with}
use Rattle.image_shown_facts.proofs.Listing.{read_part}
use Rattle.image_shown_facts.proofs.Making.{all_cells, container_kinds, few_containers, few_loci, locus_kinds, many_containers, many_loci, on_disk}
use Rattle.image_reading.proofs.state.state_of.Goals as goal

pub containers_of-requires : goal.containers_of-requires
containers_of-requires g c κs within =
    let log : ImageLog = c.requires.1.1.1.1.0 in
    let known = c.requires.1.1.1.1.1 in
    let are : ArePartsOf log c.args.parts.now = c.requires.1.1.1.1.2 in
    let recs : List Rec = log.recs.items in
    let es : List (Option ChosenEntity) = c.args.parts.now.entities.items in
    let parts : ℕ → Option Part = parts_of es in
    let plain : PlainAtlas = c.in_ok-atlas.atlas in
    let some : 0 < length es = (let long = are.places in omega (arith, long)) in
    let same : atlas_of plain ≡ atlas_by (parts 0) = c.in_ok-atlas.ensures.atlas ∙ ap atlas_by (read_part es 0 c.index.result.now some c.index.ensures) in
    let named : length plain.containers.items ≡ length (atlas_by (parts 0)).containers = many_containers log.blocks recs parts are.formed are.fit plain same in
    let many : c.len.result ≡ length (atlas_by (parts 0)).containers = c.len.ensures ∙ (plain.containers.ok.0 ∙ named) in
    let few = few_containers log.blocks recs parts are.formed are.fit in (
      λ a mem. within.0 a mem,
      (
        λ a mem. within.1 a mem,
        (
          c.requires.1.1.0,
          (
            c.requires.1.1.1.0,
            (
              ap length c.deref.ensures.value ∙ are.places,
              (
                omega (arith, many, few),
                (
                  λ i lt. subst (λ (l : List (Option ChosenEntity)). IsContainerPart (parts_of l (i + 1))) (sym c.deref.ensures.value) (container_kinds log.blocks recs parts are.formed are.fit i (omega (arith, lt, many))),
                  λ x. subst (λ (l : List (Option ChosenEntity)). AreOnDisk (g.D.Disk.block_count c.args.disk.now) (blocks_in (parts_of l x))) (sym c.deref.ensures.value)
                      (on_disk log.blocks recs parts are.formed are.fit (g.D.Disk.block_count c.args.disk.now) known.within x),
                ),
              ),
            ),
          ),
        ),
      ),
    )

pub loci_of-requires-clause-few : goal.loci_of-requires-clause-few
loci_of-requires-clause-few g c =
    let log : ImageLog = c.requires.1.1.1.1.0 in
    let are : ArePartsOf log c.args.parts.now = c.requires.1.1.1.1.2 in
    let recs : List Rec = log.recs.items in
    let es : List (Option ChosenEntity) = c.args.parts.now.entities.items in
    let plain : PlainAtlas = c.in_ok-atlas.atlas in
    let some : 0 < length es = (let long = are.places in omega (arith, long)) in
    let same : atlas_of plain ≡ atlas_by (parts_of es 0) = c.in_ok-atlas.ensures.atlas ∙ ap atlas_by (read_part es 0 c.index.result.now some c.index.ensures) in
    let many : c.len-2.result ≡ length (atlas_by (parts_of es 0)).loci = c.len-2.ensures ∙ (plain.loci.ok.0 ∙ many_loci log.blocks recs (parts_of es) are.formed are.fit plain same) in
    let few = few_loci log.blocks recs (parts_of es) are.formed are.fit in
    omega (arith, many, few)

pub loci_of-requires-clause-kinds : goal.loci_of-requires-clause-kinds
loci_of-requires-clause-kinds g c i lt =
    let log : ImageLog = c.requires.1.1.1.1.0 in
    let are : ArePartsOf log c.args.parts.now = c.requires.1.1.1.1.2 in
    let recs : List Rec = log.recs.items in
    let es : List (Option ChosenEntity) = c.args.parts.now.entities.items in
    let plain : PlainAtlas = c.in_ok-atlas.atlas in
    let some : 0 < length es = (let long = are.places in omega (arith, long)) in
    let same : atlas_of plain ≡ atlas_by (parts_of es 0) = c.in_ok-atlas.ensures.atlas ∙ ap atlas_by (read_part es 0 c.index.result.now some c.index.ensures) in
    let many : c.len-2.result ≡ length (atlas_by (parts_of es 0)).loci = c.len-2.ensures ∙ (plain.loci.ok.0 ∙ many_loci log.blocks recs (parts_of es) are.formed are.fit plain same) in
    subst (λ (l : List (Option ChosenEntity)). IsLocusPart (parts_of l (i + 41))) (sym c.deref-2.ensures.value) (locus_kinds log.blocks recs (parts_of es) are.formed are.fit i (omega (arith, lt, many)))

pub returns-clause-cells : goal.returns-clause-cells
returns-clause-cells g c x =
    let log : ImageLog = c.requires.1.1.1.1.0 in
    let are : ArePartsOf log c.args.parts.now = c.requires.1.1.1.1.2 in
    let recs : List Rec = log.recs.items in
    let es : List (Option ChosenEntity) = c.args.parts.now.entities.items in
    let parts : ℕ → Option Part = parts_of es in
    let plain : PlainAtlas = c.in_ok-atlas.atlas in
    let some : 0 < length es = (let long = are.places in omega (arith, long)) in
    let same : atlas_of plain ≡ atlas_by (parts 0) = c.in_ok-atlas.ensures.atlas ∙ ap atlas_by (read_part es 0 c.index.result.now some c.index.ensures) in
    let many : c.len.result ≡ length (atlas_by (parts 0)).containers = c.len.ensures ∙ (plain.containers.ok.0 ∙ many_containers log.blocks recs parts are.formed are.fit plain same) in
    let more : c.len-2.result ≡ length (atlas_by (parts 0)).loci = c.len-2.ensures ∙ (plain.loci.ok.0 ∙ many_loci log.blocks recs parts are.formed are.fit plain same) in
    let bytes : ℕ → List ℕ = block_at (g.D.Disk.reading c.args.disk.now) in
    let cs = c.in_ok-containers.containers.items in
    let ls = c.in_ok-loci.loci.items in
    let containers = subst (λ (l : List (Option ChosenEntity)). (i : ℕ) → i < c.len.result → IsCellOf g.D.Disk.tells g.s bytes (i + 1) (parts_of l (i + 1)) (container_cell g.s (slice_get cs i))) c.deref.ensures.value c.in_ok-containers.ensures.cells in
    let loci = λ (words : ℕ → ℕ). subst (λ (l : List (Option ChosenEntity)). (i : ℕ) → i < c.len-2.result → locus_cell (slice_get ls i) ≡ cell_with words (i + 41) (parts_of l (i + 41))) c.deref-2.ensures.value (c.in_ok-loci.ensures.cells words) in
    all_cells log.blocks recs parts are.formed are.fit g.D.Disk.tells g.s bytes cs ls (c.in_ok-containers.ensures.many ∙ many) (λ i lt. containers i (omega (arith, lt, many)))
    (c.in_ok-loci.ensures.many ∙ more) (λ words i lt. loci words i (omega (arith, lt, more))) (atlas_of plain) same x
