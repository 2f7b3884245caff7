-- Values that keep their shape, whose numbers are those of their types, have a spelling.
use Rattle.std.proofs.Common.{◌≡◌, ℕ, ◌<◌, ◌^◌, ◌∙◌, List, length, take, Option, Some, None, sym, arith}
use Rattle.std.specs.List.{All}
use Rattle.std.specs.Option.{ForSome}
use Rattle.std.proofs.lemmas.List.Elements.{All-take}
use Rattle.std.proofs.lemmas.List.{length-take-le}
use Rattle.std.proofs.lemmas.Option.{same_Some, slice_get-get_or, slice_get_within}
use Rattle.base_types.specs.declared.capabilities.Cap.{Cap}
use Rattle.base_types.specs.declared.instructions.Walk.{Walk}
use Rattle.act_look.specs.act_alone.declared.loci.Head.{Head}
use Rattle.act_look.specs.act_alone.declared.loci.Locus.{Locus}
use Rattle.act_look.specs.act_alone.Loci.{container_with, locus_of}
use Rattle.image_meaning.specs.blob_grammar.Forms.{HaveByteRights, IsContainerForm, IsLocusForm, IsNumber}
use Rattle.image_meaning.specs.blob_grammar.Shapes.{IsContainerOver, IsLocusOver}
use Rattle.cell_blobs.specs.Ranges.{HasByteRights}

byte_rights : (caps : List (Option Cap)) → All HasByteRights caps → HaveByteRights caps
byte_rights caps each slot held at =
    let within : slot < length caps = slice_get_within caps slot (Some held) at in
    each slot None within held (same_Some _ _ (sym (slice_get-get_or caps slot None within) ∙ at))

-- a container with the blocks of its pages
pub container_form : (h : Head) (table : List ℕ) → IsContainerOver IsNumber IsNumber (container_with (λ _. 0) h) → h.tag < 2 ^ 64 → h.every < 2 ^ 32
    → All HasByteRights h.caps → All (λ block. block < 2 ^ 32) table → length table ≡ 256 → IsContainerForm (container_with (λ _. 0) h) (take h.pages table)
container_form h table shape tag every rights blocks sized = record {
  shape = shape;
  tag = tag;
  every = every;
  rights = byte_rights h.caps rights;
  blocks = record {
    each_page = length-take-le h.pages table (let size = shape.size in omega (arith, size, sized));
    numbers = All-take (λ block. block < 2 ^ 32) h.pages table blocks;
  };
}

-- a locus
pub locus_form : (l : Locus) → IsLocusOver IsNumber IsNumber (locus_of l) → All (λ v. v < 2 ^ 64) l.registers → l.every < 2 ^ 32
    → All HasByteRights l.caps → ForSome l.walk (λ (walk : Walk). walk.address < 2 ^ 64) → IsLocusForm (locus_of l)
locus_form l shape values every rights address = record { shape = shape; values = values; every = every; rights = byte_rights l.caps rights; address = address }
