-- Reads of pages, one after another.
use Rattle.std.proofs.Common.{◌≡◌, ℕ, ◌≤◌, Bool, false, ◌||◌, refl, sym, subst, ◌∙◌, arith}
use Rattle.std.specs.Prelude.{Err, IsErrOf, IsTrue, Ok, OnOk, Result, ⊤}
use Rattle.edge_disk.proofs.Ticks.{Rose-before}
use Rattle.node_pages.specs.Reading.{HasReadPages}
use Rattle.node_pages.specs.declared.faults.ShipFault.{ShipFault}
use Rattle.node_pages.specs.declared.faults.ShipFault.TheVariants as ship
use Rattle.page_store.specs.Pages.{SameBlocks, SameWords}
use Rattle.page_store.specs.declared.store.PageStore.{Ghosts}

-- an answer that is no fault of the disk
pub record IsNoFault {T : Type 0} (r : Result T ShipFault) : Type 0 where
  pub no_read : IsErrOf r ship.ReadFault → ⊥
  pub no_shut : IsErrOf r ship.Shut → ⊥

pub ok_no_fault : {T : Type 0} (x : T) → IsNoFault {T = T} (Ok x)
ok_no_fault x = record { no_read = λ h. cc h; no_shut = λ h. cc h }

on_ok : {T P : Type 0} (r : Result T ShipFault) → P → OnOk r P
on_ok (Ok x) p = p
on_ok (Err e) p = tt

module _ {B : Type 0} (stores : Ghosts B) where
  -- a read of a page that was named: of the store that it left
  pub record HasReadOne (old new : B) : Type 0 where
    pub between : stores.Pages old new
    pub same_blocks : SameBlocks stores.held stores.free old new
    pub same_kept : stores.kept_names new ≡ stores.kept_names old
    pub same_written : stores.written new ≡ stores.written old
    pub same_words : stores.tells → SameWords stores.held stores.kept_names stores.words (λ n. ⊥) old new
    pub later : stores.faults old ≤ stores.faults new

  pub read_none : ((b : B) → stores.Pages b b) → (b : B) → HasReadOne b b
  read_none stays b = record {
    between = stays b;
    same_blocks = record { same_held = refl; same_free = refl };
    same_kept = refl;
    same_written = refl;
    same_words = λ t n named other. refl;
    later = omega arith;
  }

  pub well : {T : Type 0} (old new : B) (r : Result T ShipFault) → HasReadOne old new → stores.is_shut new ≡ false → IsNoFault r → HasReadPages stores old new r
  well old new r h working none = record {
    between = h.between;
    same_blocks = h.same_blocks;
    same_kept = h.same_kept;
    same_written = h.same_written;
    same_words = h.same_words;
    later = h.later;
    ok = on_ok r working;
    failed = λ is. absurd (none.no_read is);
    memory = λ is. working;
    not_shut = none.no_shut;
  }

  pub read_start : ((b : B) → stores.Pages b b) → (b : B) → stores.is_shut b ≡ false → HasReadPages {T = ⊤} stores b b (Ok tt)
  read_start stays b working = well b b (Ok tt) (read_none stays b) working (ok_no_fault tt)

  pub one_of : {T : Type 0} (old new : B) (r : Result T ShipFault) → HasReadPages stores old new r → HasReadOne old new
  one_of old new r h = record { between = h.between; same_blocks = h.same_blocks; same_kept = h.same_kept; same_written = h.same_written; same_words = h.same_words; later = h.later }

  -- one after another
  module _ (goes_on : (a b c : B) → stores.Pages a b → stores.Pages b c → stores.Pages a c) (a b c : B) (first : HasReadOne a b) where
    named_then : (n : ℕ) → IsTrue (stores.held a n || stores.kept_names a n) → IsTrue (stores.held b n || stores.kept_names b n)
    named_then n named =
        subst (λ (f : ℕ → Bool). IsTrue (f n || stores.kept_names b n)) (sym first.same_blocks.same_held)
        (subst (λ (f : ℕ → Bool). IsTrue (stores.held a n || f n)) (sym first.same_kept) named)

    pub words_then : stores.tells → (n : ℕ) → IsTrue (stores.held a n || stores.kept_names a n) → stores.words b n ≡ stores.words a n
    words_then t n named = first.same_words t n named (λ no. no)

    pub read_then : HasReadOne b c → HasReadOne a c
    read_then second = record {
      between = goes_on a b c first.between second.between;
      same_blocks = record { same_held = second.same_blocks.same_held ∙ first.same_blocks.same_held; same_free = second.same_blocks.same_free ∙ first.same_blocks.same_free };
      same_kept = second.same_kept ∙ first.same_kept;
      same_written = second.same_written ∙ first.same_written;
      same_words = λ t n named other. second.same_words t n (named_then n named) other ∙ first.same_words t n named other;
      later = (let x = first.later in let y = second.later in omega (arith, x, y));
    }

    pub pages_then : {T : Type 0} (r : Result T ShipFault) → HasReadPages stores b c r → HasReadPages stores a c r
    pages_then r second =
        let all = read_then (one_of b c r second) in
        record {
          between = all.between;
          same_blocks = all.same_blocks;
          same_kept = all.same_kept;
          same_written = all.same_written;
          same_words = all.same_words;
          later = all.later;
          ok = second.ok;
          failed = λ is. (let f = second.failed is in (Rose-before (stores.faults a) (stores.faults b) (stores.faults c) first.later second.later f.0, f.1));
          memory = second.memory;
          not_shut = second.not_shut;
        }

    -- and where it went well
    pub well_then : {T : Type 0} (r : Result T ShipFault) (x : T) → HasReadPages stores b c r → stores.is_shut c ≡ false → HasReadPages {T = T} stores a c (Ok x)
    well_then r x second working = well a c (Ok x) (read_then (one_of b c r second)) working (ok_no_fault x)

    -- a block that is named from here has the words that it had
    pub words_back : stores.tells → (n : ℕ) → IsTrue (stores.held b n || stores.kept_names b n) → stores.words b n ≡ stores.words a n
    words_back t n named = words_then t n
        (subst (λ (f : ℕ → Bool). IsTrue (f n || stores.kept_names a n)) first.same_blocks.same_held
        (subst (λ (f : ℕ → Bool). IsTrue (stores.held b n || f n)) first.same_kept named))
