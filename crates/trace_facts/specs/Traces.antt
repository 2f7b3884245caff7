-- What a trace spells, and the first line that goes wrong.
use Rattle.std.specs.Prelude.{◌≡◌, ◌⊎◌, ◌≢◌, ◌==◌, ◌≤◌, ℕ, ◌+◌, List, [], ◌∷◌, ◌++◌, length, Option, MatchOption, codes, slice_index}
use Rattle.std.specs.List.{before_first}
use Rattle.base_types.specs.declared.histories.Entry.{Entry}
use Rattle.base_types.specs.declared.histories.Event.{Event}
use Rattle.base_types.specs.declared.histories.Event.TheVariants.{Birth, Step, Snap, Stable, Tried}
use Rattle.line_text.specs.model_kernel.Histories.{IsLegalRun, May, Policy, Run, goes_on, run_after, start_run}
use Rattle.line_text.specs.model_kernel.Scripts.{Script}
use Rattle.line_text.specs.model_kernel.State.{Supply, Text, AtlasState, Cell, KernelState}
use Rattle.line_text.specs.model_kernel.Steps.{atlas_in}
use Rattle.line_entry_laws.specs.line_entries.Entries.{entry_line, entry_text, event_word}
use Rattle.line_text.specs.Lines.{name_in, word}

-- THE START: these cells and versions, and clocks in which no component is above the version of the entity that it counts
pub record Begins (w : KernelState) (born : ℕ → Cell) (counts : List ℕ) : Type 0 where
  pub cells : (x : ℕ) → (w x).cell ≡ born x
  pub versions : (x : ℕ) → (w x).version ≡ slice_index counts x
  pub clocks : (x y : ℕ) → (w x).stamp y ≤ (w y).version

-- SPELLING

-- the names after an entry, which are those with which its line is written
abbrev pub names_after : Supply → Script → Run → Entry → AtlasState
names_after s script r e = atlas_in ((goes_on s script r e).state 0).cell

abbrev pub line_in : Supply → Script → Run → Entry → Text
line_in s script r e = entry_line (names_after s script r e) e

-- the lines of a history
abbrev pub spelled : Supply → Script → Run → List Entry → Text
spelled s script r [] = []
spelled s script r (e ∷ es) = line_in s script r e ++ spelled s script (goes_on s script r e) es

-- the trace spells a legal history of so many entries
pub record Spells (s : Supply) (policy : Policy) (w : KernelState) (script : Script) (trace : Text) (lines : ℕ) : Type 0 where
  pub history : List Entry
  pub legal : IsLegalRun s policy w script history
  pub spells : trace ≡ spelled s script (start_run w) history
  pub count : length history ≡ lines

-- THE FIRST LINE THAT GOES WRONG

-- the text goes on with the line of an entry that may be next
pub record GoesOnWith (s : Supply) (policy : Policy) (script : Script) (r : Run) (text : Text) (e : Entry) : Type 0 where
  pub may : May s policy script r e
  pub behind : Text
  pub line : text ≡ line_in s script r e ++ behind

-- the bytes before the end of the first line, or all where no line ends
abbrev pub first_line : Text → Text
first_line text = before_first (λ b. b == 10) text

-- births and steps
abbrev pub IsPlayed : Event → Type 0
IsPlayed Birth = Unit {0}
IsPlayed Step = Unit {0}
IsPlayed Snap = ⊥
IsPlayed Stable = ⊥
IsPlayed Tried = ⊥

-- the line begins with these words, whatever follows behind a blank
abbrev pub BeginsWith : Text → Text → Type 0
BeginsWith line words = (line ≡ words) ⊎ ((rest : Text) × (line ≡ words ++ 32 ∷ rest))

-- the birth or step that may be next and whose event and name are the first two words of the line
pub record IsWanted (s : Supply) (policy : Policy) (script : Script) (r : Run) (line : Text) (e : Entry) : Type 0 where
  pub played : IsPlayed e.event
  pub may : May s policy script r e
  pub named : BeginsWith line (event_word e.event ++ word (name_in (names_after s script r e) e.actor))

-- the line of the entry that is wanted, or a word for none
abbrev pub WantText : Supply → Script → Run → Option Entry → Text → Type 0
WantText s script r want text = MatchOption want (text ≡ codes "none") (λ e. text ≡ entry_text (names_after s script r e) e)

-- behind a legal history, the line of this number is that of no entry that may be next; it wants this one, or none
pub record GoesWrong (s : Supply) (policy : Policy) (w : KernelState) (script : Script) (trace : Text) (line : ℕ) (want : Option Entry) (shown : Text) : Type 0 where
  pub before : List Entry
  pub legal : IsLegalRun s policy w script before
  pub rest : Text
  pub split : trace ≡ spelled s script (start_run w) before ++ rest
  pub some : rest ≢ []
  pub number : line ≡ length before + 1
  pub wrong : (e : Entry) → GoesOnWith s policy script (run_after s script (start_run w) before) rest e → ⊥
  pub wanted : MatchOption want
      ((e : Entry) → IsWanted s policy script (run_after s script (start_run w) before) (first_line rest) e → ⊥)
      (IsWanted s policy script (run_after s script (start_run w) before) (first_line rest))
  pub text : WantText s script (run_after s script (start_run w) before) want shown
