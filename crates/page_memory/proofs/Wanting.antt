-- When a block is wanting for a page, and what a call hands on of one that it made.
use Rattle.std.proofs.Common.{◌≡◌, ◌≢◌, ◌↔◌, ℕ, Bool, true, refl, sym, ap, ◌∙◌, subst}
use Rattle.std.specs.Prelude.{Result, Ok, Err, IfErr, IsErrOf}
use Rattle.page_store.specs.declared.store.PageStore.{Ghosts}
use Rattle.data_blocks.specs.edge_disk.declared.disk.NoBlocks.{NoBlocks}
use Rattle.page_store.specs.declared.faults.PageFault.{PageFault}
use Rattle.page_store.specs.declared.faults.PageFault.TheVariants as fault
use Rattle.data_frames.specs.FrameTable.{FrameTable, IsVictim}
use Rattle.data_frames.proofs.Choices.{victim_once}
use Rattle.page_memory.specs.declared.paged.PagedMemory.{PagedMemory}
use Rattle.page_memory.specs.Words.{needs_block}
use Rattle.page_memory.specs.Calls.{IsCausedBy, IsPageShort, MakesRoom, PagesOnce, TurnsClock}

-- EXACTLY

module _ {T : Type 0} (kept : ℕ → Bool) (free before now : ℕ) (was is : Bool) (m m' : PagedMemory) (page : ℕ) (n : NoBlocks) where
  numbers_are : (result : Result T PageFault) → IfErr result (IsCausedBy free before now was is) → IsErrOf result (fault.NoBlocks n) → (free ≡ 0) × (n ≡ record { need = 1; free = 0 })
  numbers_are (Ok y) cause none = absurd (cc none)
  numbers_are (Err e) cause none = subst (IsCausedBy free before now was is) (let same : e ≡ fault.NoBlocks n = cc in same) cause

  -- THE CALL ANSWERS SO exactly where the page is short of a block
  pub short_exact : (result : Result T PageFault) → MakesRoom kept free was m m' page result → IfErr result (IsCausedBy free before now was is) → IsErrOf result (fault.NoBlocks n) ↔ IsPageShort kept free m page n
  short_exact result room cause = (
    λ none.
        let numbers = numbers_are result cause none in
        let chosen = room.chooses (room.no_blocks n none) in
        let here = subst (λ k. IsErrOf result (fault.NoBlocks k)) numbers.1 none in
        record { evicts = room.no_blocks n none; victim = chosen.victim; after = chosen.after; is = chosen.is; needs = (chosen.exact.0 here).0; none_free = numbers.0; numbers = numbers.1 },
    λ short.
        let chosen = room.chooses short.evicts in
        let same = victim_once m.frames short.victim chosen.victim short.after chosen.after short.is chosen.is in
        subst (λ k. IsErrOf result (fault.NoBlocks k)) (sym short.numbers) (chosen.exact.1 (subst (λ v. needs_block kept m v ≡ true) same short.needs, short.none_free)),
  )

  -- and then nothing but the clock has moved
  pub short_turns : (result : Result T PageFault) → MakesRoom kept free was m m' page result → IfErr result (IsCausedBy free before now was is) → IsErrOf result (fault.NoBlocks n) → TurnsClock m m'
  short_turns result room cause none =
      let numbers = numbers_are result cause none in
      let chosen = room.chooses (room.no_blocks n none) in
      let turned = chosen.turned (subst (λ k. IsErrOf result (fault.NoBlocks k)) numbers.1 none) in
      let frames : chosen.after ≡ m'.frames = sym (ap (λ (x : PagedMemory). x.frames) turned) in
      record {
        victim = chosen.victim;
        is = subst (λ t. IsVictim chosen.victim m.frames t) frames chosen.is;
        same = turned ∙ ap (λ t. record m { frames = t }) frames;
      }

-- A CALL THAT ENDS AS ANOTHER

module _ {B T U : Type 0} (stores : Ghosts B) (b b' : B) where
  pub pages_err : (e : PageFault) → PagesOnce {T = T} stores b b' (Err e) → PagesOnce {T = U} stores b b' (Err e)
  pages_err e calls = record {
    cause = calls.cause;
    wanting = λ n none. calls.wanting n (let same : e ≡ fault.NoBlocks n = cc in ap Err same);
    same_shut = tt;
    one_write = calls.one_write;
    between = calls.between;
  }

  pub pages_ok : (x : T) (y : U) → PagesOnce {T = T} stores b b' (Ok x) → PagesOnce {T = U} stores b b' (Ok y)
  pages_ok x y calls = record {
    cause = tt;
    wanting = λ n none. absurd (cc none);
    same_shut = calls.same_shut;
    one_write = calls.one_write;
    between = calls.between;
  }
