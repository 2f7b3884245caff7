-- What a table keeps where the cells that were lent leave all blocks as they are.
use Rattle.std.proofs.Common.{◌≡◌, ◌≢◌, inl, inr, ℕ, zero, suc, Bool, true, false, List, slice_get, slice_index, Option, Some, None, option_map, refl, sym, ap, ◌∙◌, subst, arith}
use Rattle.cell_steps.specs.model_kernel.State.{Supply}
use Rattle.cell_steps.specs.act_alone.declared.loci.Head.{Head}
use Rattle.cell_steps.specs.page_memory.declared.paged.PagedMemory.{PagedMemory}
use Rattle.cell_steps.specs.page_memory.Words.{AreCleanTrue, IsSoundTable}
use Rattle.cell_steps.specs.cell_states.declared.cells.Cell.{Cell}
use Rattle.cell_steps.specs.cell_states.declared.cells.Part.{Part}
use Rattle.cell_steps.specs.cell_states.declared.cells.Part.TheVariants as part
use Rattle.cell_steps.specs.cell_calls.Besides.{KeepsMemory, memory_of}
use Rattle.cell_steps.specs.cell_newborns.Bearing.{IsNewContainer}
use Rattle.cell_blob_laws.specs.Memories.{HasOwnMemory, IsOwn}
use Rattle.cell_step_laws.specs.cell_wish_laws.Founded.{IsFoundedCell}
use Rattle.model_sound_states.specs.States.{IsSoundState}
use Rattle.table_laws.specs.Lending.{ForPairs, IsSameNumber, Lends}
use Rattle.table_laws.specs.Quiet.{GoesQuietly}
use Rattle.table_laws.specs.Tables.{AreClean, AreNumbered, HasKind, IsOrderly, blocks_by, memory_at, state_in, tables_in}
use Rattle.table_laws.proofs.Lent.{spot}
use Rattle.std.proofs.lemmas.Option.{same_Some}

tags : Option Head → Option ℕ
tags o = option_map (λ (h : Head). h.tag) o

counts : Option Head → Option ℕ
counts o = option_map (λ (h : Head). h.pages) o

-- a memory that is kept is the part's own as before
own_by : (held : ℕ → Bool) (m k : PagedMemory) (g h : Option Head) → k ≡ m → tags h ≡ tags g → counts h ≡ counts g → IsOwn m g × IsSoundTable held m → IsOwn k h × IsSoundTable held k
unfolding tags counts
own_by held m k (Some g) (Some h) same tag pages own = (
  record { tag = ap (λ (m : PagedMemory). m.tag) same ∙ own.0.tag ∙ sym (same_Some h.tag g.tag tag); pages = ap (λ (m : PagedMemory). m.pages) same ∙ own.0.pages ∙ sym (same_Some h.pages g.pages pages) },
  subst (IsSoundTable held) (sym same) own.1,
)
own_by held m k None None same tag pages own = (ap (λ (m : PagedMemory). m.pages) same ∙ own.0, subst (IsSoundTable held) (sym same) own.1)
own_by held m k (Some g) None same tag pages own = cc
own_by held m k None (Some h) same tag pages own = cc

pub keeps_own : (held : ℕ → Bool) (p q : Part) → KeepsMemory p q → HasOwnMemory held p → HasOwnMemory held q
unfolding tags counts
keeps_own held (part.Container b) (part.Container d) keeps own = own_by held b.memory d.memory b.head d.head (same_Some d.memory b.memory keeps.memory) keeps.tag keeps.pages own
keeps_own held (part.Atlas a) (part.Container d) keeps own = (let e = keeps.memory in cc)
keeps_own held (part.Locus l) (part.Container d) keeps own = (let e = keeps.memory in cc)
keeps_own held p (part.Atlas a) keeps own = tt
keeps_own held p (part.Locus l) keeps own = tt

pub new_own : (held : ℕ → Bool) (q : Part) → IsNewContainer q → HasOwnMemory held q
new_own held q new = subst (HasOwnMemory held) (sym new.is) (record { tag = new.tag; pages = new.pages }, new.table held)

no_block : ℕ → Bool
no_block n = false

-- a memory of which no store holds a block has none
none_held : (m : PagedMemory) (p : ℕ) → ((held : ℕ → Bool) → IsSoundTable held m) → slice_index m.table p ≡ 0
unfolding no_block
none_held m p sound = zero_of (slice_index m.table p) (λ some. none (sound no_block).held_blocks p some)
  where
    none : ((page : ℕ) → slice_index m.table page ≢ 0 → no_block (slice_index m.table page) ≡ true) → (p : ℕ) → slice_index m.table p ≢ 0 → ⊥
    none h p some = (let e : false ≡ true = h p some in cc)

    zero_of : (n : ℕ) → (n ≢ 0 → ⊥) → n ≡ 0
    zero_of zero h = refl
    zero_of (suc n) h = absurd (h (λ e. absurd (omega (arith, e))))

-- one that isn't born has none either
unborn_none : (held : ℕ → Bool) (m : PagedMemory) (p : ℕ) → m.pages ≡ 0 → IsSoundTable held m → slice_index m.table p ≡ 0
unborn_none held m p none sound = (sound.none_past p (let e = none in omega arith)).0

module _ (held : ℕ → Bool) (c d : Cell) (own : HasOwnMemory held c.part) (goes : GoesQuietly c d) where
  pub same_blocks : (p : ℕ) → slice_index (blocks_by (memory_of d.part)) p ≡ slice_index (blocks_by (memory_of c.part)) p
  same_blocks p = elim goes.memory as (λ _. slice_index (blocks_by (memory_of d.part)) p ≡ slice_index (blocks_by (memory_of c.part)) p) [
    | inl keeps ↦ ap (λ m. slice_index (blocks_by m) p) keeps.memory
    | inr born ↦ (
        let unborn = born.0 in
        let new = born.1 in
        let was = subst (HasOwnMemory held) unborn.is own in
        ap (λ q. slice_index (blocks_by (memory_of q)) p) new.is ∙ none_held new.memory p new.table
        ∙ sym (ap (λ q. slice_index (blocks_by (memory_of q)) p) unborn.is ∙ unborn_none held unborn.memory p was.0 was.1))
  ]

  pub goes_own : HasOwnMemory held d.part
  goes_own = elim goes.memory as (λ _. HasOwnMemory held d.part) [
    | inl keeps ↦ keeps_own held c.part d.part keeps own
    | inr born ↦ new_own held d.part born.1
  ]

-- pages stay clean
pub goes_clean : (s : Supply) (words : ℕ → List ℕ) (c d : Cell) (m : PagedMemory) → GoesQuietly c d → ((k : PagedMemory) → memory_of c.part ≡ Some k → AreCleanTrue s words k) → memory_of d.part ≡ Some m → AreCleanTrue s words m
goes_clean s words c d m goes clean is = elim goes.memory as (λ _. AreCleanTrue s words m) [
  | inl keeps ↦ clean m (sym keeps.memory ∙ is)
  | inr born ↦ (
      let new = born.1 in
      subst (AreCleanTrue s words) (same_Some new.memory m (sym (ap memory_of new.is) ∙ is)) (new.clean s words))
]

-- THE TABLE BEHIND AN EVENT over lent cells
module _ (cs cs' old new : List Cell) (lends : Lends cs cs' old new) where
  pub numbered_after : AreNumbered cs → AreNumbered cs'
  numbered_after numbers = record {
    len = lends.len ∙ numbers.len;
    each = λ x d is. elim (spot IsSameNumber cs cs' x old new lends lends.numbers) as (λ _. d.clock.entity ≡ x) [
      | inl k ↦ ap (λ (c : Cell). c.clock.entity) (same_Some d k.after (sym is ∙ k.is)) ∙ k.at_after
      | inr k ↦ numbers.each x d (sym k.same ∙ is)
    ];
  }

  module _ (pairs : ForPairs GoesQuietly old new) where
    pub clean_after : (s : Supply) (words : ℕ → List ℕ) → AreClean s words cs → AreClean s words cs'
    clean_after s words clean x m is = elim (spot GoesQuietly cs cs' x old new lends pairs) as (λ _. AreCleanTrue s words m) [
      | inl k ↦ goes_clean s words k.before k.after m k.holds (λ n was. clean x n (ap memory_at k.was ∙ was)) (sym (ap memory_at k.is) ∙ is)
      | inr k ↦ clean x m (ap memory_at (sym k.same) ∙ is)
    ]

    module _ (held : ℕ → Bool) (orderly : IsOrderly held cs) where
      pub tables_same : (x p : ℕ) → slice_index (tables_in cs' x) p ≡ slice_index (tables_in cs x) p
      tables_same x p = elim (spot GoesQuietly cs cs' x old new lends pairs) as (λ _. slice_index (tables_in cs' x) p ≡ slice_index (tables_in cs x) p) [
        | inl k ↦ ap (λ o. slice_index (blocks_by (memory_at o)) p) k.is ∙ same_blocks held k.before k.after (orderly.own x k.before k.was) k.holds p ∙ ap (λ o. slice_index (blocks_by (memory_at o)) p) (sym k.was)
        | inr k ↦ ap (λ o. slice_index (blocks_by (memory_at o)) p) k.same
      ]

      own_after : (x : ℕ) (d : Cell) → slice_get cs' x ≡ Some d → HasOwnMemory held d.part
      own_after x d is = elim (spot GoesQuietly cs cs' x old new lends pairs) as (λ _. HasOwnMemory held d.part) [
        | inl k ↦ subst (λ (c : Cell). HasOwnMemory held c.part) (same_Some k.after d (sym k.is ∙ is)) (goes_own held k.before k.after (orderly.own x k.before k.was) k.holds)
        | inr k ↦ orderly.own x d (sym k.same ∙ is)
      ]

      kinds_after : (x : ℕ) (d : Cell) → slice_get cs' x ≡ Some d → HasKind x d.part
      kinds_after x d is = elim (spot GoesQuietly cs cs' x old new lends pairs) as (λ _. HasKind x d.part) [
        | inl k ↦ subst (λ (c : Cell). HasKind x c.part) (same_Some k.after d (sym k.is ∙ is)) (subst (λ y. HasKind y k.after.part) k.at_after k.holds.kind)
        | inr k ↦ orderly.kinds x d (sym k.same ∙ is)
      ]

      pub orderly_with : ((s : Supply) (words : ℕ → List ℕ) → IsSoundState s (state_in s words cs')) → ((x : ℕ) (d : Cell) → slice_get cs' x ≡ Some d → IsFoundedCell d) → IsOrderly held cs'
      orderly_with sound founded = record {
        numbers = numbered_after orderly.numbers;
        sound = sound;
        founded = founded;
        kinds = kinds_after;
        own = own_after;
        once = λ x y p q some same. orderly.once x y p q (λ z. some (tables_same x p ∙ z)) (sym (tables_same x p) ∙ same ∙ tables_same y q);
        named = λ n is. (let k = orderly.named n is in (k.0, k.1, k.2, tables_same k.0 k.1 ∙ k.3));
      }
