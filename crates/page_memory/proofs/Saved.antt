-- All pages are saved, one after the other, and the blocks suffice.
use Rattle.std.proofs.Common.{◌≡◌, ◌≢◌, ℕ, zero, suc, ◌+◌, ◌-◌, ◌^◌, ◌<◌, ◌≤◌, Bool, true, false, ◌&&◌, ◌||◌, ◌==◌, if◌then◌else◌, List, Err, IsErrOf, subst, refl, sym, ap, ◌∙◌, inl, inr, add-one, arith}
use Rattle.std.proofs.lemmas.Bool.{cases_eq, cases_lt}
use Rattle.data_blocks.specs.edge_disk.declared.disk.NoBlocks.{NoBlocks}
use Rattle.page_store.specs.declared.faults.PageFault.{PageFault}
use Rattle.page_store.specs.declared.faults.PageFault.TheVariants as fault
use Rattle.page_store.specs.Pages.{IsWriteFault}
use Rattle.data_frames.specs.FrameTable.{changed_at, resident_changed}
use Rattle.page_memory.specs.declared.paged.PagedMemory.{PagedMemory}
use Rattle.page_memory.specs.Words.{block_at, need_at, need_below, needs_block, IsSoundTable}
use Rattle.page_memory.specs.Calls.{IsCausedBy, IsNoRead, IsWritten, Keeps, KeepsPages, Saves}

pub need_none : (kept : ℕ → Bool) (m : PagedMemory) → need_below kept m 0 ≡ 0
unfolding need_below
need_none kept m = refl

pub need_suc : (kept : ℕ → Bool) (m : PagedMemory) (n : ℕ) → need_below kept m (suc n) ≡ need_below kept m n + need_at kept m n
unfolding need_below
need_suc kept m n = refl

pub need_more : (kept : ℕ → Bool) (m : PagedMemory) (n : ℕ) → need_below kept m (n + 1) ≡ need_below kept m n + need_at kept m n
need_more kept m n = rw add-one (need_suc kept m n)

pub need_mono : (kept : ℕ → Bool) (m : PagedMemory) (n more : ℕ) → need_below kept m n ≤ need_below kept m (n + more)
need_mono kept m n zero = let same : need_below kept m (n + 0) ≡ need_below kept m n = ap (need_below kept m) (omega arith) in omega (arith, same)
need_mono kept m n (suc more) =
    let step : need_below kept m (n + more) ≤ need_below kept m (n + suc more) = (let is : n + suc more ≡ suc (n + more) = omega arith in rw is (omega (arith, need_suc kept m (n + more)))) in
    omega (arith, need_mono kept m n more, step)

-- a page that is as it was needs what it needed
pub same_needs : (kept kept' : ℕ → Bool) (m m' : PagedMemory) (page : ℕ) → kept' ≡ kept → changed_at m'.frames page ≡ changed_at m.frames page → block_at m' page ≡ block_at m page → needs_block kept' m' page ≡ needs_block kept m page
same_needs kept kept' m m' page names changed block =
    ap (λ c. c && (block_at m' page == 0 || kept' (block_at m' page))) changed
    ∙ ap (λ n. changed_at m.frames page && (n == 0 || kept' n)) block
    ∙ ap (λ (k : ℕ → Bool). changed_at m.frames page && (block_at m page == 0 || k (block_at m page))) names

pub same_need_at : (kept kept' : ℕ → Bool) (m m' : PagedMemory) (page : ℕ) → needs_block kept' m' page ≡ needs_block kept m page → need_at kept' m' page ≡ need_at kept m page
same_need_at kept kept' m m' page same = ap (λ b. if b then 1 else 0) same

-- where a block is left for each page that needs one, none is wanting
pub none_wanting : (kept kept' : ℕ → Bool) (m m' : PagedMemory) (page free : ℕ) → page < 256 → needs_block kept' m' page ≡ needs_block kept m page → need_below kept m 256 ≤ free + need_below kept m page → (needs_block kept' m' page ≡ true) × (free ≡ 0) → ⊥
none_wanting kept kept' m m' page free within same room both =
    let one : need_at kept m page ≡ 1 = ap (λ b. if b then 1 else 0) (sym same ∙ both.0) in
    let rest = need_mono kept m (page + 1) (255 - page) in
    let all : page + 1 + (255 - page) ≡ 256 = omega arith in
    let upto : need_below kept m (page + 1) ≤ need_below kept m 256 = rw (← all) rest in
    absurd (omega (arith, one, upto, need_more kept m page, both.1))

-- a fault that no read gives and that isn't want of blocks is a write's
pub write_fault : (e : PageFault) → IsNoRead e → ((n : NoBlocks) → e ≡ fault.NoBlocks n → ⊥) → IsWriteFault e
write_fault (fault.NoBlocks n) fault never = absurd (never n refl)
write_fault fault.ReadFault fault never = absurd fault
write_fault fault.WriteFault fault never = inl refl
write_fault fault.Shut fault never = inr refl

-- past the end no page is changed
pub none_past_end : (held : ℕ → Bool) (m : PagedMemory) → IsSoundTable held m → ((p : ℕ) → p < 256 → changed_at m.frames p ≡ false) → (p : ℕ) → changed_at m.frames p ≡ false
none_past_end held m table below p = elim (cases_lt p 256) [
  | inl within ↦ below p within
  | inr past ↦ ap resident_changed (table.none_past p (omega (arith, table.few))).1
]

pub keeps_trans : {B : Type 0} (tells : Type 0) (held kept : B → ℕ → Bool) (words : B → ℕ → List ℕ) (m m' m'' : PagedMemory) (b b' b'' : B) → Keeps tells held kept words m m' b b' → Keeps tells held kept words m' m'' b' b'' → Keeps tells held kept words m m'' b b''
keeps_trans tells held kept words m m' m'' b b' b'' first second = record {
  same_kept = second.same_kept ∙ first.same_kept;
  held_stay = λ n h out. let a = first.held_stay n h out in second.held_stay n a.0 a.1;
  no_others = λ n h out. let a = second.no_others n h out in first.no_others n a.0 a.1;
  held_words = λ t n h out. let a = first.held_stay n h out in second.held_words t n a.0 a.1 ∙ first.held_words t n h out;
  kept_words = λ t n names. second.kept_words t n (ap (λ f. f n) first.same_kept ∙ names) ∙ first.kept_words t n names;
  news = λ p. elim (second.news p) [
    | inl same ↦ elim (first.news p) [
      | inl before ↦ inl (same ∙ before)
      | inr fresh ↦ inr (ap (kept b) same ∙ fresh)
    ]
    | inr fresh ↦ inr (sym (ap (λ f. f (block_at m'' p)) first.same_kept) ∙ fresh)
  ];
}

-- a page is saved, and the pages so far are unchanged
pub one_more_clean : (m m' : PagedMemory) (page : ℕ) → changed_at m'.frames page ≡ false → ((p : ℕ) → p ≢ page → changed_at m'.frames p ≡ changed_at m.frames p) → ((p : ℕ) → p < page → changed_at m.frames p ≡ false) → (p : ℕ) → p < page + 1 → changed_at m'.frames p ≡ false
one_more_clean m m' page clean others before p below = elim (cases_eq p page) [
  | inl same ↦ ap (changed_at m'.frames) same ∙ clean
  | inr differs ↦ others p differs ∙ before p (omega arith)
]

-- a fault isn't want of blocks where it isn't the one that a call gives
pub never_wanting : (free before now : ℕ) (was is : Bool) (e : PageFault) → IsCausedBy free before now was is e → (IsErrOf {T = Unit {0}} (Err e) (fault.NoBlocks (record { need = 1; free = 0 })) → ⊥) → (n : NoBlocks) → e ≡ fault.NoBlocks n → ⊥
never_wanting free before now was is e cause never n same =
    let known : (free ≡ 0) × (n ≡ record { need = 1; free = 0 }) = subst (λ x. IsCausedBy free before now was is x) same cause in
    never (ap Err (same ∙ ap fault.NoBlocks known.1))

-- a write's fault after other calls that didn't fail
pub write_cause : (free free' before between now : ℕ) (was mid is : Bool) (e : PageFault) → IsWriteFault e → before ≤ between → between ≤ now → mid ≡ was → IsCausedBy free' between now mid is e → IsCausedBy free before now was is e
write_cause free free' before between now was mid is (fault.NoBlocks n) (inl e) rise later same cause = absurd (cc e)
write_cause free free' before between now was mid is (fault.NoBlocks n) (inr e) rise later same cause = absurd (cc e)
write_cause free free' before between now was mid is fault.ReadFault (inl e) rise later same cause = absurd (cc e)
write_cause free free' before between now was mid is fault.ReadFault (inr e) rise later same cause = absurd (cc e)
write_cause free free' before between now was mid is fault.WriteFault write rise later same cause =
    (λ below. rose below cause.0, sym same ∙ cause.1, cause.2)
  where
    rose : before < 2 ^ 64 - 1 → (between < 2 ^ 64 - 1 → between < now) → before < now
    rose below up = elim (cases_lt between (2 ^ 64 - 1)) [
      | inl lower ↦ (let more = up lower in omega arith)
      | inr end ↦ omega arith
    ]
write_cause free free' before between now was mid is fault.Shut write rise later same cause = sym same ∙ cause

-- a page more is saved: none is newly marked, and blocks changed only where one was needed at first
pub pages_more : (kept kept' : ℕ → Bool) (m m' m'' : PagedMemory) (page : ℕ) → KeepsPages kept m m' → KeepsPages kept' m' m'' → Saves page m' m'' → needs_block kept' m' page ≡ needs_block kept m page → KeepsPages kept m m''
pages_more kept kept' m m' m'' page first pages saves same = record {
  same_tag = pages.same_tag ∙ first.same_tag;
  same_pages = pages.same_pages ∙ first.same_pages;
  same_frames = pages.same_frames ∙ first.same_frames;
  same_blocks = λ p none. elim (cases_eq p page) [
    | inl is ↦ pages.same_blocks p (ap (needs_block kept' m') is ∙ same ∙ ap (needs_block kept m) (sym is) ∙ none) ∙ first.same_blocks p none
    | inr differs ↦ (saves.others p differs).1 ∙ first.same_blocks p none
  ];
  none_changed = λ p e. first.none_changed p (pages.none_changed p e);
}

-- a page that doesn't come to a write though a block is left for it isn't changed
pub not_written : (kept : ℕ → Bool) (free : ℕ) (m : PagedMemory) (page : ℕ) → (needs_block kept m page ≡ true → free ≢ 0) → (IsWritten kept free m page → ⊥) → changed_at m.frames page ≡ false
not_written kept free m page block never =
    elim (changed_at m.frames page) as (λ b. changed_at m.frames page ≡ b → b ≡ false) [
      | true ↦ λ yes. absurd (never (record { changed = yes; block = block }))
      | false ↦ λ _. refl
    ] refl

-- a write's fault of a store that was shut
pub shut_fault : (free before now : ℕ) (was is : Bool) (e : PageFault) → IsWriteFault e → IsCausedBy free before now was is e → was ≡ true → e ≡ fault.Shut
shut_fault free before now was is e (inr same) cause shut = same
shut_fault free before now was is e (inl same) cause shut =
    let known : IsCausedBy free before now was is fault.WriteFault = subst (λ x. IsCausedBy free before now was is x) same cause in
    let clash : true ≡ false = sym shut ∙ known.1 in
    absurd (cc clash)
