-- What an answer leaves of a pass.
use Rattle.std.proofs.Common.{◌≡◌, ◌⊎◌, ◌++◌, ◌∷◌, ℕ, List, [], inl, inr, refl, sym, ap, ◌∙◌, subst}
use Rattle.base_types.specs.declared.histories.Entry.{Entry}
use Rattle.thread_board.specs.declared.views.PassItem.{PassItem}
use Rattle.thread_board.specs.Sides.{PassSeen}
use Rattle.thread_locks.specs.thread_items.declared.answers.Answer.{Answer}
use Rattle.thread_locks.specs.thread_items.declared.answers.Answer.TheVariants as answer
use Rattle.thread_locks.specs.thread_items.declared.items.LookItem.{LookItem}
use Rattle.thread_locks.specs.thread_items.Answers.{IfCame}
use Rattle.thread_locks.specs.thread_items.Items.{item_of}
use Rattle.thread_workers.specs.Trying.{HasAnswered, HasTried, NotesOne, NotesThis}
use Rattle.thread_workers.specs.declared.trying.Tried.{Tried}
use Rattle.thread_workers.specs.declared.trying.Tried.TheVariants as tried

pub answered : (me place : ℕ) (es : List Entry) (a : Answer) (old new : PassSeen LookItem)
    → IfCame a (λ r. new.items ≡ old.items ++ record { pass = old.number; item = item_of me place r es } ∷ [])
    → new.number ≡ old.number → ((a ≡ answer.Unfit) ⊎ (a ≡ answer.Full) → new ≡ old) → HasAnswered me a old new
answered me place es (answer.Came r) old new item number undone = (item_of me place r es, refl, number, item)
answered me place es answer.Unfit old new item number undone = undone (inl refl)
answered me place es answer.Full old new item number undone = undone (inr refl)

-- the same of a pass that had these items and this number before
pub noted_since : (me : ℕ) (first old new : PassSeen LookItem) → old.items ≡ first.items → old.number ≡ first.number → NotesOne me old new → NotesOne me first new
noted_since me first old new items number one = (
  one.0,
  one.1,
  one.2 ∙ number,
  one.3 ∙ (ap (λ (l : List (PassItem LookItem)). l ++ record { pass = old.number; item = one.0 } ∷ []) items
      ∙ ap (λ (n : ℕ). first.items ++ record { pass = n; item = one.0 } ∷ []) number),
)
