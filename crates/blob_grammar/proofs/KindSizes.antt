-- How long the spellings of each kind are.
use Rattle.std.proofs.Common.{◌≡◌, ◌≤◌, ℕ, List, length, ap, arith}
use Rattle.model_kernel.specs.base_types.declared.entities.Kind.{Kind}
use Rattle.model_kernel.specs.base_types.declared.entities.Kind.TheVariants.{Atlas, Container, Locus}
use Rattle.model_kernel.specs.Soundness.{AreSound}
use Rattle.model_kernel.specs.State.{AtlasState, Cell, ContainerState, LocusState}
use Rattle.blob_grammar.specs.Forms.{IsSpelling, SpellsAtlas, SpellsContainer, SpellsLocus}
use Rattle.blob_grammar.specs.Laws.{bytes_of_blocks, most_bytes}
use Rattle.blob_grammar.specs.Spelling.{atlas_blob, container_blob, locus_blob}
use Rattle.blob_grammar.proofs.AtlasSizes.{atlas_len, sound_atlas_len}
use Rattle.blob_grammar.proofs.Sizes.{container_len, locus_len, locus_some}

len_is : (bytes blob : List ℕ) → bytes ≡ blob → length bytes ≡ length blob
len_is bytes blob is = ap (λ (l : List ℕ). length l) is

atlas_some : (a : AtlasState) → 1 ≤ length (atlas_blob a)
unfolding atlas_blob
atlas_some a = omega arith

container_some : (c : ContainerState) (table : List ℕ) → 1 ≤ length (container_blob c table)
unfolding container_blob
container_some c table = omega arith

pub some : (kind : Kind) (bytes : List ℕ) → IsSpelling kind bytes → 1 ≤ length bytes
some Atlas bytes (a, p) = let e = len_is bytes (atlas_blob a) p.is in let h = atlas_some a in omega (arith, e, h)
some Container bytes (c, t, p) = let e = len_is bytes (container_blob c t) p.is in let h = container_some c t in omega (arith, e, h)
some Locus bytes (l, p) = let e = len_is bytes (locus_blob l) p.is in let h = locus_some l in omega (arith, e, h)

pub most : (kind : Kind) (bytes : List ℕ) → IsSpelling kind bytes → length bytes ≤ most_bytes kind
most Atlas bytes (a, p) = let e = len_is bytes (atlas_blob a) p.is in let h = atlas_len a p.form in omega (arith, e, h)
most Container bytes (c, t, p) = let e = len_is bytes (container_blob c t) p.is in let h = container_len c t p.form in omega (arith, e, h)
most Locus bytes (l, p) = let e = len_is bytes (locus_blob l) p.is in let h = locus_len l p.form in omega (arith, e, h)

pub eight_blocks : (kind : Kind) → most_bytes kind ≤ bytes_of_blocks 8
eight_blocks Atlas = omega arith
eight_blocks Container = omega arith
eight_blocks Locus = omega arith

pub container_four : (c : ContainerState) (t bytes : List ℕ) → SpellsContainer c t bytes → length bytes ≤ bytes_of_blocks 4
container_four c t bytes p = let h = most Container bytes (c, t, p) in omega (arith, h)

pub locus_four : (l : LocusState) (bytes : List ℕ) → SpellsLocus l bytes → length bytes ≤ bytes_of_blocks 4
locus_four l bytes p = let h = most Locus bytes (l, p) in omega (arith, h)

pub atlas_four : (a : AtlasState) (cells : ℕ → Cell) (bytes : List ℕ) → AreSound a cells → SpellsAtlas a bytes → length bytes ≤ bytes_of_blocks 4
atlas_four a cells bytes sound p =
    let e = len_is bytes (atlas_blob a) p.is in let h = sound_atlas_len a cells sound p.form in omega (arith, e, h)
