-- What beginning a call does to the blocks of a disk in memory and to the calls that it keeps.
use Rattle.std.specs.Prelude.{◌≡◌, ◌≤◌, ◌<◌, [], ◌∷◌, ◌++◌, length}
use Rattle.edge_disk.specs.Disk.{Ticks}
use Rattle.edge_disk.specs.Kept.{shown}
use Rattle.edge_disk.specs.declared.calls.Call.{Call}
use Rattle.edge_disk.specs.declared.tape.Tape.{Tape}

-- the clock ticks, and where there is room the call is kept and shows in what is read; else nothing more changes
pub record Begins (call : Call) (old new : Tape) : Type 0 where
  pub first : new.first.items ≡ old.first.items
  pub room : new.room ≡ old.room
  pub clock : Ticks old.clock new.clock
  pub kept : length old.calls.items < old.room → new.calls.items ≡ old.calls.items ++ call ∷ []
  pub shows : length old.calls.items < old.room → new.blocks.items ≡ shown old.blocks.items call
  pub full : old.room ≤ length old.calls.items → new.calls.items ≡ old.calls.items
  pub same : old.room ≤ length old.calls.items → new.blocks.items ≡ old.blocks.items
