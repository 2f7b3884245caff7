-- What a record that is put behind the log changes in a store.
use Rattle.std.specs.Prelude.{◌≡◌, ℕ, Bool, true, false, ◌&&◌, if◌then◌else◌, nat_le, nat_lt, List, [], ◌∷◌, ◌++◌}
use Rattle.std.specs.List.{list_all}
use Rattle.log_reading.specs.image_facts.Layout.{last_number, slot_count}
use Rattle.page_words.specs.log_turn.Standing.{used_of}
use Rattle.page_words.specs.store_books.Books.{Logged, is_small}
use Rattle.store_facts.specs.Keeping.{HasRecounted}
use Rattle.store_facts.specs.State.{State}

-- no number of a record of this version and stamp is too large
abbrev pub are_small : ℕ → List ℕ → Bool
are_small version stamp = nat_le version last_number && list_all (λ n. nat_le n last_number) stamp

-- the log that a record is put behind: the kept records where all slots are used
abbrev pub roomy_log : ℕ → List Logged → List Logged → List Logged
roomy_log used log kept = if nat_lt used slot_count then log else kept

-- the record stands behind the log, its blocks are counted, and the store works
pub record HasPut {D : Type 0} (l : Logged) (old new : State D) : Type 0 where
  pub log : new.log ≡ roomy_log (used_of old.areas) old.log old.kept ++ l ∷ []
  pub ledger : HasRecounted old.blocks new.blocks
  pub small : new.small ≡ (old.small && is_small l.rec)
  pub shut : new.shut ≡ false

-- of memory nothing is another, and the store is shut
pub record HasFailed {D : Type 0} (old new : State D) : Type 0 where
  pub log : new.log ≡ old.log
  pub blocks : new.blocks ≡ old.blocks
  pub small : new.small ≡ old.small
  pub shut : new.shut ≡ true
