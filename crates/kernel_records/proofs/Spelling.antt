-- What the blob of a part is once its pages are written: it may name other blocks, and is as long as it was.
use Rattle.std.proofs.Common.{◌≡◌, ℕ, ◌+◌, ◌*◌, ◌≤◌, Bool, List, ◌∷◌, ◌++◌, length, take, Option, Some, None, IfSome, refl, sym, ap, subst, ◌∙◌, arith, length-append}
use Rattle.std.specs.List.{flat_map}
use Rattle.std.proofs.lemmas.List.{length-take-le}
use Rattle.base_types.specs.declared.entities.Kind.TheVariants.{Atlas as AtlasKind, Container as ContainerKind, Locus as LocusKind}
use Rattle.page_store.specs.model_kernel.State.{ContainerState}
use Rattle.kernel_record_facts.specs.blob_grammar.Spelling.{caps_bytes, container_blob, entry_byte, instr_bytes, listed, region_bytes}
use Rattle.byteorder.specs.Endian.{little_bytes}
use Rattle.kernel_record_facts.proofs.blob_grammar_lemmas.KindSizes.{some}
use Rattle.kernel_record_facts.proofs.blob_grammar_lemmas.Sizes.{numbers_len}
use Rattle.kernel_block_laws.specs.image_facts.Bodies.{blocks_for}
use Rattle.kernel_record_facts.specs.image_meaning.Parts.{Part as Spelt, AtlasPart, ContainerPart, LocusPart, IsOf, Spells}
use Rattle.cell_wish_laws.specs.act_alone.declared.loci.Head.{Head}
use Rattle.cell_wish_laws.specs.act_alone.Loci.{container_with}
use Rattle.cell_wish_laws.specs.page_memory.declared.paged.PagedMemory.{PagedMemory}
use Rattle.cell_wish_laws.specs.page_memory.Words.{IsSoundTable}
use Rattle.cell_wish_laws.specs.cell_states.declared.cells.Cell.{Cell}
use Rattle.cell_wish_laws.specs.cell_states.declared.cells.Part.{Part}
use Rattle.cell_wish_laws.specs.cell_states.declared.cells.Part.TheVariants as part
use Rattle.kernel_record_facts.specs.cell_blobs.Blobs.{HasFormedHead, IsFormed, blob_need, bytes_of, spelt_in, spelt_storage}
use Rattle.kernel_record_facts.specs.Cells.{IsSoundIn, IsSpellable}
use Rattle.kernel_records.specs.Flushing.{Flushes}

-- LENGTHS

longer : (xs ys zs : List ℕ) → length ys ≡ length zs → length (xs ++ ys) ≡ length (xs ++ zs)
longer xs ys zs e = length-append xs ys ∙ (ap (λ n. length xs + n) e ∙ sym (length-append xs zs))

numbers_same : (t u : List ℕ) → length t ≡ length u → length t * 4 ≡ length u * 4
numbers_same t u e = ap (λ n. n * 4) e

pub container_same : (c : ContainerState) (t u : List ℕ) → length t ≡ length u → length (container_blob c t) ≡ length (container_blob c u)
unfolding container_blob
container_same c t u e =
    let caps : List ℕ → List ℕ = λ v. caps_bytes c.caps ++ flat_map (little_bytes 4) v in
    let regions : List ℕ → List ℕ = λ v. listed region_bytes c.regions ++ caps v in
    let code : List ℕ → List ℕ = λ v. entry_byte c.entry ∷ listed instr_bytes c.code ++ regions v in
    let every : List ℕ → List ℕ = λ v. little_bytes 4 c.every ++ code v in
    let tag : List ℕ → List ℕ = λ v. little_bytes 8 c.tag ++ every v in
    let last : length (flat_map (little_bytes 4) t) ≡ length (flat_map (little_bytes 4) u) = numbers_len 4 t ∙ (numbers_same t u e ∙ sym (numbers_len 4 u)) in
    longer (1 ∷ little_bytes 2 c.pages) (tag t) (tag u)
    (longer (little_bytes 8 c.tag) (every t) (every u)
    (longer (little_bytes 4 c.every) (code t) (code u)
    (longer (entry_byte c.entry ∷ listed instr_bytes c.code) (regions t) (regions u)
    (longer (listed region_bytes c.regions) (caps t) (caps u)
    (longer (caps_bytes c.caps) (flat_map (little_bytes 4) t) (flat_map (little_bytes 4) u) last)))))

-- A spelling has a byte at least.
spelt_some : (p : Spelt) (bytes : List ℕ) → Spells p bytes → 1 ≤ length bytes
spelt_some (AtlasPart a) bytes h = some AtlasKind bytes (a, h)
spelt_some (ContainerPart c t) bytes h = some ContainerKind bytes (c, t, h)
spelt_some (LocusPart l) bytes h = some LocusKind bytes (l, h)

pub bytes_some : (o : Option Spelt) (p : Spelt) (bytes : List ℕ) → o ≡ Some p → IfSome o (λ q. Spells q bytes) → 1 ≤ length bytes
bytes_some None p bytes e h = absurd (cc e)
bytes_some (Some q) p bytes e h = spelt_some q bytes h

-- A STORAGE with the same head, tag and size

module _ (m m' : PagedMemory) (tag : m'.tag ≡ m.tag) (pages : m'.pages ≡ m.pages) (len : length m'.table ≡ 256) where
  formed_by : (o : Option Head) → HasFormedHead m o → HasFormedHead m' o
  formed_by None formed = tt
  formed_by (Some h) formed = (formed.0, record { tag = tag ∙ formed.1.tag; pages = pages ∙ formed.1.pages }, len)

  born_by : (e : ℕ) (o : Option Head) (p : Spelt) → spelt_storage m o ≡ Some p → IsOf e p → (q : Spelt) × (spelt_storage m' o ≡ Some q) × IsOf e q
  born_by e None p is kind = absurd (cc is)
  born_by e (Some h) p is kind =
      let same : ContainerPart (container_with (λ _. 0) h) (take h.pages m.table) ≡ p = cc is in
      (ContainerPart (container_with (λ _. 0) h) (take h.pages m'.table), refl, subst (λ (x : Spelt). IsOf e x) (sym same) kind)

  fronts_same : (n : ℕ) → n ≤ 256 → length m.table ≡ 256 → length (take n m'.table) ≡ length (take n m.table)
  fronts_same n few was =
      let one = length-take-le n m'.table (omega (arith, few, len)) in
      let two = length-take-le n m.table (omega (arith, few, was)) in
      omega (arith, one, two)

  length_by : (o : Option Head) → HasFormedHead m o → length (bytes_of (spelt_storage m' o)) ≡ length (bytes_of (spelt_storage m o))
  length_by None formed = refl
  length_by (Some h) formed = container_same (container_with (λ _. 0) h) (take h.pages m'.table) (take h.pages m.table) (fronts_same h.pages formed.0.size formed.2)

-- A PART

module _ {B : Type 0} (tells : Type 0) (held kept : B → ℕ → Bool) (words : B → ℕ → List ℕ) (now : ℕ → Bool) where
  formed_again : (p q : Part) (old new : B) → Flushes tells held kept words p q old new → IsSoundIn now q → IsFormed p → IsFormed q
  formed_again (part.Atlas a) q old new f sound formed = subst IsFormed (sym f.part) formed
  formed_again (part.Locus l) q old new f sound formed = subst IsFormed (sym f.part) formed
  formed_again (part.Container a) q old new f sound formed =
      let b = f.0 in
      let same = f.2 in
      let s : IsSoundTable now b.memory = subst (IsSoundIn now) f.1 sound in
      subst IsFormed (sym f.1) (subst (HasFormedHead b.memory) (sym same.same_head) (formed_by a.memory b.memory same.pages.same_tag same.pages.same_pages s.len a.head formed))

  born_again : (p q : Part) (old new : B) → Flushes tells held kept words p q old new → IsSoundIn now q → (e : ℕ) (x : Spelt) → spelt_in p ≡ Some x → IsOf e x
      → (y : Spelt) × (spelt_in q ≡ Some y) × IsOf e y
  born_again (part.Atlas a) q old new f sound e x is kind = (x, ap spelt_in f.part ∙ is, kind)
  born_again (part.Locus l) q old new f sound e x is kind = (x, ap spelt_in f.part ∙ is, kind)
  born_again (part.Container a) q old new f sound e x is kind =
      let b = f.0 in
      let same = f.2 in
      let s : IsSoundTable now b.memory = subst (IsSoundIn now) f.1 sound in
      let found = born_by a.memory b.memory same.pages.same_tag same.pages.same_pages s.len e a.head x is kind in
      (found.0, ap spelt_in f.1 ∙ (ap (spelt_storage b.memory) same.same_head ∙ found.1), found.2)

  pub spellable_again : (c d : Cell) (old new : B) → d.clock ≡ c.clock → Flushes tells held kept words c.part d.part old new → IsSoundIn now d.part → IsSpellable c → IsSpellable d
  spellable_again c d old new clock f sound may =
      let found = born_again c.part d.part old new f sound c.clock.entity may.spelt may.born may.kind in
      record { spelt = found.0; born = found.1; kind = subst (λ (x : ℕ). IsOf x found.0) (sym (ap (λ k. k.entity) clock)) found.2; formed = formed_again c.part d.part old new f sound may.formed }

  pub same_need : (p q : Part) (old new : B) → Flushes tells held kept words p q old new → IsSoundIn now q → IsFormed p → blob_need q ≡ blob_need p
  same_need (part.Atlas a) q old new f sound formed = ap blob_need f.part
  same_need (part.Locus l) q old new f sound formed = ap blob_need f.part
  same_need (part.Container a) q old new f sound formed =
      let b = f.0 in
      let same = f.2 in
      let s : IsSoundTable now b.memory = subst (IsSoundIn now) f.1 sound in
      ap blob_need f.1 ∙ ap blocks_for (ap (λ (o : Option Head). length (bytes_of (spelt_storage b.memory o))) same.same_head ∙ length_by a.memory b.memory same.pages.same_tag same.pages.same_pages s.len a.head formed)
