use Rattle.std.proofs.Common.{◌≡◌, ◌++◌, ℕ, List, [], length, take, ap, ◌∙◌, arith}
use Rattle.std.proofs.lemmas.List.{length-take}
use Rattle.byteorder.specs.Endian.{little_bytes}
use Rattle.std.specs.List.{flat_map}
use Rattle.blob_grammar.specs.Spelling.{caps_bytes, container_blob, instr_bytes, listed, region_bytes}
use Rattle.blob_facts.specs.act_alone.Loci.{container_with}
use Rattle.blob_facts.specs.act_alone.declared.loci.Head.{Head}
use Rattle.blob_facts.specs.Pieces.{head_front}
use Rattle.blob_grammar.proofs.Lengths.{blocks_most}
use Rattle.blob_writing.proofs.Room.{five_joined}
use Rattle.blob_writing.proofs.containers.write_container.Goals as goal

-- the pieces make the blob
whole : (h : Head) (words : ℕ → ℕ) (table none front code regions caps all : List ℕ) → none ≡ [] → front ≡ none ++ head_front h
    → code ≡ front ++ listed instr_bytes h.code → regions ≡ code ++ listed region_bytes h.regions → caps ≡ regions ++ caps_bytes h.caps
    → all ≡ caps ++ flat_map (little_bytes 4) table → all ≡ container_blob (container_with words h) table
unfolding container_blob
whole h words table none front code regions caps all p q r s t u =
    let together : all ≡ ((((([] ++ head_front h) ++ listed instr_bytes h.code) ++ listed region_bytes h.regions) ++ caps_bytes h.caps) ++ flat_map (little_bytes 4) table) = cc in
    together ∙ five_joined (head_front h) (listed instr_bytes h.code) (listed region_bytes h.regions) (caps_bytes h.caps) (flat_map (little_bytes 4) table)

pub returns : goal.returns
returns c words =
    whole c.args.head.now words (take c.args.head.now.pages c.args.pages.now) c.clear.new.self c.put_front.new.blob c.put_code.new.blob c.put_regions.new.blob
    c.put_caps.new.blob c.put_blocks.new.blob c.clear.ensures c.put_front.ensures.front c.put_code.ensures.code
    c.put_regions.ensures.regions c.put_caps.ensures.caps c.put_blocks.ensures

pub put_blocks-requires : goal.put_blocks-requires
put_blocks-requires c =
    let pages = length-take c.args.head.now.pages c.args.pages.now in
    let blocks = blocks_most (take c.args.head.now.pages c.args.pages.now) (omega (arith, pages, c.requires)) in
    let none : length c.clear.new.self ≡ 0 = ap (λ (l : List ℕ). length l) c.clear.ensures in
    omega (arith, none, blocks, c.put_front.ensures.most, c.put_code.ensures.most, c.put_regions.ensures.most, c.put_caps.ensures.most)
