-- The copy with its pages' blocks: what a record of it asks, and how long its blob is.
use Rattle.std.proofs.Common.{◌≡◌, ℕ, ◌+◌, ◌^◌, ◌<◌, ◌≤◌, Bool, List, length, take, Some, refl, sym, ap, subst, ◌∙◌, arith}
use Rattle.std.specs.Prelude.{All}
use Rattle.std.proofs.lemmas.List.{length-take-le}
use Rattle.std.proofs.lemmas.Option.{same_Some}
use Rattle.base_types.specs.declared.records.Rec.{Rec}
use Rattle.data_stamps.specs.Stamps.{component}
use Rattle.data_atlas.specs.data_atlas_facts.Directory.{Directory}
use Rattle.cell_copies.specs.Copying.{HasPlaced, MayPlace}
use Rattle.cell_copies.proofs.Words.{same_head as one_head}
use Rattle.kernel_records.specs.act_alone.declared.loci.Head.{Head}
use Rattle.kernel_records.specs.act_alone.Loci.{container_with}
use Rattle.kernel_records.specs.cell_clocks.declared.Clock.{Clock}
use Rattle.kernel_records.specs.cell_states.declared.cells.Cell.{Cell}
use Rattle.kernel_records.specs.cell_states.declared.cells.Part.TheVariants as part
use Rattle.kernel_records.specs.page_memory.declared.paged.PagedMemory.{PagedMemory}
use Rattle.kernel_records.specs.page_memory.Words.{AreHeldBlocks, IsSoundTable}
use Rattle.kernel_record_facts.specs.cell_blobs.Blobs.{HasFormedHead, IsFormed, blob_need, spelt_in}
use Rattle.kernel_record_facts.specs.image_meaning.Parts.{ContainerPart, IsOf, Part as Spelt, kind_in}
use Rattle.kernel_record_facts.specs.Cells.{IsSoundIn, IsSpellable}
use Rattle.kernel_records.specs.kernel_block_laws.image_blocks.Logs.{Place}
use Rattle.kernel_records.specs.kernel_block_laws.image_facts.Bodies.{blocks_for}
use Rattle.kernel_records.specs.kernel_block_laws.image_facts.Layout.{slot_count}
use Rattle.kernel_records.specs.store_books.Books.{Books, Logged, kept_in, logged_recs, recs_in}
use Rattle.kernel_records.specs.Committing.{MayCommit}
use Rattle.kernel_records.proofs.Spelling.{container_same}
use Rattle.copy_commits.specs.Committing.{MayCommitPair}

module _ (c d : Cell) (table from : List ℕ) (may : MayPlace c.part from) (is : HasPlaced c table d) (now : ℕ → Bool) (blocks : AreHeldBlocks now table) where
  sound_now : IsSoundTable now is.begun.memory
  sound_now = is.begun.sound now blocks

  -- the memory of before has as many pages, with the same tag
  abbrev was : PagedMemory
  was = may.begun.memory

  same_head : may.begun.head ≡ is.begun.head
  same_head = one_head may.begun.head is.begun.head may.begun.memory is.was (sym may.begun.is ∙ is.same_head)

  tag : is.begun.memory.tag ≡ was.tag
  tag = is.begun.tag ∙ (ap (λ (h : Head). h.tag) (sym same_head) ∙ sym may.begun.tag)

  pages : is.begun.memory.pages ≡ was.pages
  pages = is.begun.pages ∙ (ap (λ (h : Head). h.pages) (sym same_head) ∙ sym may.begun.pages)

  formed_was : IsFormed c.part → HasFormedHead was (Some may.begun.head)
  formed_was formed = subst IsFormed may.begun.is formed

  formed_now : IsFormed c.part → HasFormedHead is.begun.memory (Some may.begun.head)
  formed_now formed = (let f = formed_was formed in (f.0, record { tag = tag ∙ f.1.tag; pages = pages ∙ f.1.pages }, sound_now.len))

  part_now : d.part ≡ part.Container (record { head = Some may.begun.head; memory = is.begun.memory })
  part_now = is.begun.is ∙ ap (λ (h : Head). part.Container (record { head = Some h; memory = is.begun.memory })) (sym same_head)

  clock : d.clock ≡ c.clock
  clock = ap (λ (x : Cell). x.clock) is.only_part

  pub sound_in : IsSoundIn now d.part
  sound_in = subst (IsSoundIn now) (sym is.begun.is) sound_now

  abbrev spelt_now : Spelt
  spelt_now = ContainerPart (container_with (λ _. 0) may.begun.head) (take may.begun.head.pages is.begun.memory.table)

  pub spellable_placed : IsSpellable c → IsSpellable d
  spellable_placed may_c =
      let same : ContainerPart (container_with (λ _. 0) may.begun.head) (take may.begun.head.pages was.table) ≡ may_c.spelt = same_Some _ may_c.spelt (ap spelt_in (sym may.begun.is) ∙ may_c.born) in
      record {
        spelt = spelt_now;
        born = ap spelt_in part_now;
        kind = subst (λ (x : ℕ). IsOf x spelt_now) (sym (ap (λ (k : Clock). k.entity) clock)) (sym (ap kind_in (sym same)) ∙ may_c.kind);
        formed = subst IsFormed (sym part_now) (formed_now may_c.formed);
      }

  -- the first so many places of both tables
  fronts_same : may.begun.head.pages ≤ 256 → length was.table ≡ 256 → length (take may.begun.head.pages is.begun.memory.table) ≡ length (take may.begun.head.pages was.table)
  fronts_same few long =
      let len = sound_now.len in
      let one = length-take-le may.begun.head.pages is.begun.memory.table (omega (arith, few, len)) in
      let two = length-take-le may.begun.head.pages was.table (omega (arith, few, long)) in
      omega (arith, one, two)

  pub same_blob : IsFormed c.part → blob_need d.part ≡ blob_need c.part
  same_blob formed =
      let f = formed_was formed in
      ap blob_need part_now
      ∙ (ap blocks_for (container_same (container_with (λ _. 0) may.begun.head) (take may.begun.head.pages is.begun.memory.table) (take may.begun.head.pages was.table) (fronts_same f.0.size f.2))
      ∙ ap blob_need (sym may.begun.is))

-- the same books but for the blocks that are held
module _ (b now : Books) (logged : now.logged ≡ b.logged) (place : now.place ≡ b.place) (found : now.found ≡ b.found) where
  kept_same : kept_in now ≡ kept_in b
  kept_same = ap (λ (ls : List Logged). kept_in (record b { logged = ls })) logged

  pub commit_again : (c d : Cell) → d.clock ≡ c.clock → IsSpellable d → IsSoundIn now.held d.part → MayCommit b c → MayCommit now d
  commit_again c d clock spellable sound may = record {
    spellable = spellable;
    own = subst (λ (k : Clock). component k.stamp k.entity ≡ k.version) (sym clock) may.own;
    some = subst (λ (k : Clock). 1 ≤ k.version) (sym clock) may.some;
    newer = subst (λ (k : Clock). All (λ (r : Rec). r.entity ≡ k.entity → r.version < k.version) (recs_in now)) (sym clock)
        (subst (λ (ls : List Logged). All (λ (r : Rec). r.entity ≡ c.clock.entity → r.version < c.clock.version) (logged_recs ls)) (sym logged) may.newer);
    table = sound;
    read = found ∙ may.read;
    room = subst (λ (ls : List Logged). length ls < slot_count) (sym kept_same) may.room;
    epoch = subst (λ (p : Place). p.epoch < 2 ^ 63) (sym place) may.epoch;
  }

  pub pair_again : (a n m : Cell) (d : Directory) → a.part ≡ part.Atlas d → m.clock ≡ n.clock → IsSpellable m → IsSoundIn now.held m.part → MayCommitPair b a n → MayCommitPair now a m
  pair_again a n m d is_a clock spellable sound may = record {
    first = commit_again a a refl may.first.spellable (subst (IsSoundIn now.held) (sym is_a) tt) may.first;
    second = commit_again n m clock spellable sound may.second;
    apart = λ e. may.apart (e ∙ ap (λ (k : Clock). k.entity) clock);
    all_kept = kept_same ∙ (may.all_kept ∙ sym logged);
    room = subst (λ (ls : List Logged). length ls + 1 < slot_count) (sym kept_same) may.room;
    epoch = subst (λ (p : Place). p.epoch + 1 < 2 ^ 63) (sym place) may.epoch;
  }
