-- How many blocks the blob of a part takes at most, whatever its numbers are.
use Rattle.std.proofs.Common.{◌≡◌, ◌≤◌, ℕ, Bool, true, false, if◌then◌else◌, List, ◌∷◌, ◌++◌, length, take, Option, Some, None, refl, arith, length-append}
use Rattle.std.specs.List.{flat_map}
use Rattle.std.proofs.lemmas.List.{length-take}
use Rattle.byteorder.specs.Endian.{little_bytes}
use Rattle.base_types.specs.declared.entities.Kind.TheVariants.{Atlas as AtlasKind}
use Rattle.base_types.specs.declared.instructions.Walk.{Walk}
use Rattle.cell_states.specs.model_kernel.State.{AtlasState, ContainerState, LocusState}
use Rattle.image_meaning.specs.blob_grammar.Forms.{IsAtlasForm, IsNumber}
use Rattle.image_meaning.specs.blob_grammar.Shapes.{IsContainerOver, IsLocusOver}
use Rattle.image_meaning.specs.blob_grammar.Spelling.{atlas_blob, call_bytes, caps_bytes, container_blob, instr_bytes, is_short, listed, locus_blob, locus_front, locus_rest, private_bytes, region_bytes, walk_bytes}
use Rattle.image_meaning.proofs.blob_grammar_lemmas.KindSizes.{most}
use Rattle.image_meaning.proofs.blob_grammar_lemmas.Sizes.{caps_len, code_len, numbers_len, same_items}
use Rattle.image_meaning.specs.image_facts.Bodies.{blocks_for}
use Rattle.act_look.specs.act_alone.declared.loci.Head.{Head}
use Rattle.act_look.specs.act_alone.declared.loci.Locus.{Locus}
use Rattle.act_look.specs.act_alone.Loci.{container_with, locus_of}
use Rattle.cell_states.specs.act_calls.Calls.{atlas_state}
use Rattle.act_look.specs.page_memory.declared.paged.PagedMemory.{PagedMemory}
use Rattle.cell_states.specs.declared.cells.Part.{Part}
use Rattle.cell_states.specs.declared.cells.Part.TheVariants as part
use Rattle.cell_blobs.specs.Blobs.{HasFormedHead, IsFormed, IsFormedLocus, blob_need, bytes_of, spelt_locus, spelt_storage}

atlas_few : (a : AtlasState) → IsAtlasForm a → length (atlas_blob a) ≤ 8192
atlas_few a f = let few = most AtlasKind (atlas_blob a) (a, record { form = f; is = refl }) in omega (arith, few)

container_few : (c : ContainerState) (table : List ℕ) → IsContainerOver IsNumber IsNumber c → length table ≤ 256 → length (container_blob c table) ≤ 8192
unfolding container_blob
container_few c table shape short =
    let code = code_len c.code shape.code.few in
    let regions = same_items region_bytes 6 (λ r. refl) c.regions in
    let few = shape.few in
    let caps = caps_len c.caps shape.caps.slots in
    let blocks = numbers_len 4 table in
    let one = length-append (listed instr_bytes c.code) (listed region_bytes c.regions ++ (caps_bytes c.caps ++ flat_map (little_bytes 4) table)) in
    let two = length-append (listed region_bytes c.regions) (caps_bytes c.caps ++ flat_map (little_bytes 4) table) in
    let three = length-append (caps_bytes c.caps) (flat_map (little_bytes 4) table) in
    omega (arith, code, regions, few, caps, blocks, short, one, two, three)

walk_few : (walk : Option Walk) → length (walk_bytes walk) ≤ 11
walk_few None = omega arith
walk_few (Some walk) = omega arith

module _ (l : LocusState) (shape : IsLocusOver IsNumber IsNumber l) where
  rest_few : length (locus_rest l) ≤ 2399
  rest_few =
      let code = code_len l.code shape.code.few in
      let calls = same_items call_bytes 2 (λ c. refl) l.chain in
      let deep = shape.deep in
      let privates = same_items private_bytes 7 (λ p. refl) l.privates in
      let few = shape.few in
      let caps = caps_len l.caps shape.caps.slots in
      let walk = walk_few l.walk in
      let one = length-append (listed instr_bytes l.code) (listed call_bytes l.chain ++ (listed private_bytes l.privates ++ (caps_bytes l.caps ++ walk_bytes l.walk))) in
      let two = length-append (listed call_bytes l.chain) (listed private_bytes l.privates ++ (caps_bytes l.caps ++ walk_bytes l.walk)) in
      let three = length-append (listed private_bytes l.privates) (caps_bytes l.caps ++ walk_bytes l.walk) in
      let four = length-append (caps_bytes l.caps) (walk_bytes l.walk) in
      omega (arith, code, calls, deep, privates, few, caps, walk, one, two, three, four)

  front_few : length (locus_front l) ≡ 71
  front_few = let registers = numbers_len 8 l.registers in let eight = shape.registers in omega (arith, registers, eight)

  by_short : (b : Bool) → length (if b then 2 ∷ locus_front l ++ locus_rest l else 3 ∷ locus_front l ++ (little_bytes 8 l.printed ++ locus_rest l)) ≤ 8192
  by_short true =
      let front = front_few in let rest = rest_few in
      let joined = length-append (locus_front l) (locus_rest l) in omega (arith, front, rest, joined)
  by_short false =
      let front = front_few in let rest = rest_few in
      let joined = length-append (locus_front l) (little_bytes 8 l.printed ++ locus_rest l) in omega (arith, front, rest, joined)

  locus_few : length (locus_blob l) ≤ 8192
  unfolding locus_blob
  locus_few = by_short (is_short l)

eight : (len : ℕ) → len ≤ 8192 → blocks_for len ≤ 8
eight len few = omega (arith, few)

storage_few : (m : PagedMemory) (o : Option Head) → HasFormedHead m o → length (bytes_of (spelt_storage m o)) ≤ 8192
storage_few m None formed = omega arith
storage_few m (Some h) formed =
    container_few (container_with (λ _. 0) h) (take h.pages m.table) formed.0 (let short = length-take h.pages m.table in let len = formed.2 in omega (arith, short, len))

born_few : (o : Option Locus) → IsFormedLocus o → length (bytes_of (spelt_locus o)) ≤ 8192
born_few None formed = omega arith
born_few (Some l) formed = locus_few (locus_of l) formed

-- eight blocks
pub blob_few : (p : Part) → IsFormed p → blob_need p ≤ 8
blob_few (part.Atlas a) formed = eight (length (atlas_blob (atlas_state a))) (atlas_few (atlas_state a) formed)
blob_few (part.Container b) formed = eight (length (bytes_of (spelt_storage b.memory b.head))) (storage_few b.memory b.head formed)
blob_few (part.Locus o) formed = eight (length (bytes_of (spelt_locus o))) (born_few o formed)
