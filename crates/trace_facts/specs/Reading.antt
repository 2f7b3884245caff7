-- What a checker of a trace has read, and how it reads on.
use Rattle.std.specs.Prelude.{◌≡◌, ℕ, List, [], ◌∷◌, ◌++◌, MatchOption, Option}
use Rattle.base_types.specs.declared.histories.Entry.{Entry}
use Rattle.trace_actor_laws.specs.model_sound_runs.Names.{IsFront}
use Rattle.line_text.specs.model_kernel.Histories.{IsLegalRun, May, Policy, Run, start_run}
use Rattle.line_text.specs.model_kernel.Scripts.{Script}
use Rattle.line_text.specs.model_kernel.State.{KernelState, Supply, Text}
use Rattle.line_entry_laws.specs.line_entries.Entries.{event_word}
use Rattle.line_text.specs.Lines.{name_in, word}
use Rattle.base_types.specs.declared.histories.Event.TheVariants.{Birth}
use Rattle.trace_actor_laws.specs.plain_states.Plains.{atlas_of}
use Rattle.trace_steps.specs.Standing.{Follows, Stands}
use Rattle.trace_steps.specs.trace_step_facts.Standing.{run_of}
use Rattle.trace_steps.specs.declared.checker.Checker.{Checker}
use Rattle.trace_facts.specs.Traces.{BeginsWith, GoesOnWith, IsWanted, Spells, WantText, first_line, line_in, names_after, spelled}

-- the event and the actor's name, with which the entry's line begins
abbrev pub named_words : Supply → Script → Run → Entry → Text
named_words s script r e = event_word e.event ++ word (name_in (names_after s script r e) e.actor)

-- THE LINE WANTS THE ENTRY: it may be next, it alone of those whose event and name the line begins with, and the checker stands behind it
pub record Wants (s : Supply) (policy : Policy) (script : Script) (w : KernelState) (es : List Entry) (line : Text) (e : Entry) (new : Checker) : Type 0 where
  pub may : May s policy script (run_of s script w es) e
  pub named : BeginsWith line (named_words s script (run_of s script w es) e)
  pub stands : Stands s policy script w new (es ++ e ∷ [])

-- wherever the checker stood
abbrev pub WantsFrom : Supply → Policy → Script → Checker → Text → Entry → Checker → Type 0
WantsFrom s policy script old line e new = (w : KernelState) (es : List Entry) → Stands s policy script w old es → Wants s policy script w es line e new

-- no other entry that may be next is named by the line
abbrev pub NamesAlone : Supply → Policy → Script → Checker → Text → Entry → Type 0
NamesAlone s policy script old line e =
    (w : KernelState) (es : List Entry) → Stands s policy script w old es → (f : Entry) → May s policy script (run_of s script w es) f → BeginsWith line (named_words s script (run_of s script w es) f) → f ≡ e

-- the line names no entry that may be next
abbrev pub NamesNone : Supply → Policy → Script → Checker → Text → Type 0
NamesNone s policy script old line =
    (w : KernelState) (es : List Entry) → Stands s policy script w old es → (f : Entry) → May s policy script (run_of s script w es) f → BeginsWith line (named_words s script (run_of s script w es) f) → ⊥

-- the next birth, of an entity with this name, may follow, and the checker stands behind it
pub record NamesBirthAt (s : Supply) (policy : Policy) (script : Script) (w : KernelState) (es : List Entry) (name : Text) (e : Entry) (new : Checker) : Type 0 where
  pub follows : Follows s policy script w es Birth e.actor e new
  pub named : name_in (atlas_of new.state.atlas) e.actor ≡ name

abbrev pub NamesBirth : Supply → Policy → Script → Checker → Text → Entry → Checker → Type 0
NamesBirth s policy script old name e new = (w : KernelState) (es : List Entry) → Stands s policy script w old es → NamesBirthAt s policy script w es name e new

-- no birth that may be next is of an entity with this name
abbrev pub NamesNoBirth : Supply → Policy → Script → Checker → Text → Type 0
NamesNoBirth s policy script old name =
    (w : KernelState) (es : List Entry) → Stands s policy script w old es → (f : Entry) → f.event ≡ Birth → May s policy script (run_of s script w es) f → name_in (names_after s script (run_of s script w es) f) f.actor ≡ name → ⊥

-- THE CHECKER HAS READ THE TRACE up to the rest: the lines of this legal history, with which each history goes on whose lines the trace is
pub record HasRead (s : Supply) (policy : Policy) (script : Script) (w : KernelState) (trace : Text) (c : Checker) (es : List Entry) (rest : Text) : Type 0 where
  pub stands : Stands s policy script w c es
  pub split : trace ≡ spelled s script (start_run w) es ++ rest
  pub only : (fs : List Entry) → IsLegalRun s policy w script fs → trace ≡ spelled s script (start_run w) fs → IsFront es fs

-- THE TEXT GOES ON with the line of an entry that may be next, and of no other, and the checker stands behind it
pub record ReadsOnAt (s : Supply) (policy : Policy) (script : Script) (w : KernelState) (es : List Entry) (text behind : Text) (new : Checker) : Type 0 where
  pub entry : Entry
  pub may : May s policy script (run_of s script w es) entry
  pub line : text ≡ line_in s script (run_of s script w es) entry ++ behind
  pub only : (f : Entry) → GoesOnWith s policy script (run_of s script w es) text f → f ≡ entry
  pub stands : Stands s policy script w new (es ++ entry ∷ [])

abbrev pub ReadsOn : Supply → Policy → Script → Checker → Text → Text → Checker → Type 0
ReadsOn s policy script old text behind new = (w : KernelState) (es : List Entry) → Stands s policy script w old es → ReadsOnAt s policy script w es text behind new

-- the text goes on with the line of no entry that may be next; it wants this one, or none
pub record StopsAt (s : Supply) (policy : Policy) (script : Script) (r : Run) (rest : Text) (want : Option Entry) (shown : Text) : Type 0 where
  pub wrong : (e : Entry) → GoesOnWith s policy script r rest e → ⊥
  pub wanted : MatchOption want ((e : Entry) → IsWanted s policy script r (first_line rest) e → ⊥) (IsWanted s policy script r (first_line rest))
  pub words : WantText s script r want shown

-- THE TRACE IS THAT OF NO LEGAL HISTORY
abbrev pub SpellsNone : Supply → Policy → KernelState → Script → Text → Type 0
SpellsNone s policy w script trace = (lines : ℕ) → Spells s policy w script trace lines → ⊥
