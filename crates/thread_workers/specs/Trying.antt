-- What a try to make a look leaves of a pass.
use Rattle.std.specs.Prelude.{◌≡◌, ◌++◌, ◌∷◌, [], ℕ}
use Rattle.thread_board.specs.Sides.{PassSeen}
use Rattle.thread_locks.specs.thread_items.declared.answers.Answer.{Answer}
use Rattle.thread_locks.specs.thread_items.declared.answers.Answer.TheVariants as answer
use Rattle.thread_locks.specs.thread_items.declared.items.LookItem.{LookItem}
use Rattle.thread_workers.specs.declared.trying.Tried.{Tried}
use Rattle.thread_workers.specs.declared.trying.Tried.TheVariants as tried

-- this item is the last of the pass, and all others are those from before
abbrev pub NotesThis : LookItem → PassSeen LookItem → PassSeen LookItem → Type 0
NotesThis i old new = new.items ≡ old.items ++ record { pass = old.number; item = i } ∷ []

-- ONE ITEM IS NOTED, of the locus, in the pass, which keeps its number
abbrev pub NotesOne : ℕ → PassSeen LookItem → PassSeen LookItem → Type 0
NotesOne me old new = (i : LookItem) × (i.locus ≡ me) × (new.number ≡ old.number) × NotesThis i old new

abbrev pub HasAnswered : ℕ → Answer → PassSeen LookItem → PassSeen LookItem → Type 0
HasAnswered me (answer.Came r) old new = NotesOne me old new
HasAnswered me answer.Unfit old new = new ≡ old
HasAnswered me answer.Full old new = new ≡ old

abbrev pub HasTried : ℕ → Tried → PassSeen LookItem → PassSeen LookItem → Type 0
HasTried me tried.Noted old new = NotesOne me old new
HasTried me tried.Again old new = new ≡ old
HasTried me tried.Refused old new = new ≡ old
