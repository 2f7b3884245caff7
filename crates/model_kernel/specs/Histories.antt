-- Histories of the kernel: which entries may follow, and what they commit.
use Rattle.std.specs.Prelude.{◌≡◌, ℕ, ◌+◌, ◌-◌, ◌<◌, ◌≤◌, Bool, true, false, not, ◌&&◌, ◌||◌, ◌==◌, nat_le, nat_lt, if◌then◌else◌, IsTrue, ◌⊎◌, List, [], ◌∷◌, ◌++◌, filter, count_by, find, Option, Some, None, is_some, option_map}
use Rattle.std.specs.List.{list_any}
use Rattle.base_types.specs.Edges.{upto}
use Rattle.base_types.specs.declared.histories.Answer.{Answer}
use Rattle.base_types.specs.declared.histories.Answer.TheVariants.{Quiet, Reply as Replied}
use Rattle.base_types.specs.declared.histories.Entry.{Entry}
use Rattle.base_types.specs.declared.histories.Event.{Event}
use Rattle.base_types.specs.declared.histories.Event.TheVariants.{Birth, Step, Snap as SnapEvent, Stable, Tried}
use Rattle.base_types.specs.declared.instructions.Instr.{Instr}
use Rattle.base_types.specs.declared.instructions.Instr.TheVariants.{Snap, Stabilise}
use Rattle.base_types.specs.declared.instructions.Reply.TheVariants.{Ok}
use Rattle.model_kernel.specs.State.{Supply, LocusState, Cell, NotBorn, AtlasCell, ContainerCell, LocusCell, KernelState}
use Rattle.model_kernel.specs.Words.{put}
use Rattle.model_kernel.specs.Refusals.{instr_at, entity_of}
use Rattle.model_kernel.specs.Steps.{atlas_in, step}
use Rattle.model_kernel.specs.Scripts.{Script, next_name}
use Rattle.model_kernel.specs.Births.{next_birth}
use Rattle.model_kernel.specs.LocalEvents.{touch_at}
use Rattle.model_kernel.specs.Parts.{after_entry}
use Rattle.model_kernel.specs.Choices.{Commit, greatest}

-- the manager's answer for `every` and the versions since the newest commit: whether a snapshot is due
abbrev pub Policy : Type 0
Policy = ℕ → ℕ → Bool

-- no snapshot is ever due by itself
abbrev pub never : Policy
never every since = false

-- the event that an entry records
abbrev pub by_event : Supply → Script → Event → ℕ → KernelState → Option (Entry × KernelState)
by_event s script Birth actor = next_birth s script
by_event s script Step actor = step s actor
by_event s script SnapEvent actor = λ _. None
by_event s script Stable actor = λ _. None
by_event s script Tried actor = λ _. None

abbrev pub event_of : Supply → Script → Entry → KernelState → Option (Entry × KernelState)
event_of s script e = by_event s script e.event e.actor

abbrev pub writes : Entry → ℕ → Bool
writes e x = list_any (λ t. t.entity == x && t.wrote) e.touched

-- it reads or writes the entity
abbrev pub touches : Entry → ℕ → Bool
touches e x = list_any (λ t. t.entity == x) e.touched

-- the version after a history: the version before, and the entries that write
abbrev pub version_after : (ℕ → ℕ) → List Entry → ℕ → ℕ
version_after start es x = start x + count_by (λ e. writes e x) es

-- the atlas's `every` is 1
abbrev pub every_of : Cell → ℕ
every_of NotBorn = 0
every_of (AtlasCell a) = 1
every_of (ContainerCell c) = c.every
every_of (LocusCell l) = l.every

-- WHAT THE RULES OF A LEGAL RUN LOOK AT
pub record Run : Type 0 where
  -- the versions in the opened image
  pub start : ℕ → ℕ
  pub state : KernelState
  -- all entries so far are births
  pub began : Bool
  -- the actor of an owed Stable, and whether it was cut short
  pub owed : Option ℕ
  pub short : Bool
  -- how many steps each locus made
  pub steps : ℕ → ℕ
  -- the version of the newest commit, 0 for none
  pub newest : ℕ → ℕ
  -- the last entry that writes the entity is a step, and it has no commit since
  pub by_step : ℕ → Bool
  -- a snap named the entity after its newest commit
  pub asked : ℕ → Bool
  -- the entity was full at some place since the last step that writes it
  pub was_full : ℕ → Bool
  -- the completed records, in order, and the greatest closed choice over them
  pub commits : List Commit
  pub cut : ℕ → ℕ
  -- a record that was tried, with which the history ends
  pub tried : Option Commit

abbrev pub version_of : Run → ℕ → ℕ
version_of r x = (r.state x).version

-- an open wish for a record of the entity
abbrev pub has_wish : Policy → Run → ℕ → Bool
has_wish policy r x = r.by_step x && policy (every_of (r.state x).cell) (version_of r x - r.newest x) || r.asked x

abbrev pub commits_above : List Commit → (ℕ → ℕ) → ℕ → ℕ
commits_above cs cut x = count_by (λ c. c.entity == x && nat_le (cut x) c.version) cs

-- four or more commits at or above the cut
abbrev pub is_full : Run → ℕ → Bool
is_full r x = nat_le 4 (commits_above r.commits r.cut x)

-- an open wish that has to be met before the entity is touched again
abbrev pub is_due : Policy → Run → ℕ → Bool
is_due policy r x = has_wish policy r x && not (r.was_full x)

-- the entity was written since its newest commit
abbrev pub has_changed : Run → ℕ → Bool
has_changed r x = nat_lt (r.newest x) (version_of r x)

-- the first in ascending number that was
abbrev pub next_changed : Run → Option ℕ
next_changed r = find (has_changed r) (upto 64)

-- the script has a name that is not in the atlas
abbrev pub births_owed : Script → Run → Bool
births_owed script r = is_some (next_name (atlas_in (r.state 0).cell) script)

abbrev pub commit_of : Run → ℕ → Commit
commit_of r x = record { entity = x; version = version_of r x; stamp = (r.state x).stamp }

abbrev pub commits_of : Run → List ℕ → List Commit
commits_of r [] = []
commits_of r (x ∷ xs) = commit_of r x ∷ commits_of r xs

-- WHICH ENTRY MAY FOLLOW

-- the event gives this entry
abbrev pub IsMade : Option (Entry × KernelState) → Entry → Type 0
IsMade made e = option_map (λ r. r.0) made ≡ Some e

-- the entry of an event that touches nothing
abbrev pub mark : Event → ℕ → ℕ → Entry
mark event actor version = record { event = event; actor = actor; touched = []; version = version; answer = Quiet }

-- a commit of the entity may be next: by its wish, or for an owed Stable
abbrev pub MayCommit : Policy → Run → ℕ → Type 0
MayCommit policy r x = (IsTrue (has_wish policy r x) × IsTrue (not (is_full r x)) × (r.owed ≡ None)) ⊎ (IsTrue (is_some r.owed) × (next_changed r ≡ Some x))

abbrev pub may : Supply → Policy → Script → Run → Entry → Event → Type 0
may s policy script r e Birth = (r.began ≡ true) × IsMade (next_birth s script r.state) e
may s policy script r e Step =
    (births_owed script r ≡ false) × (r.owed ≡ None) × (r.steps e.actor < script.steps)
    × (list_any (λ t. is_due policy r t.entity) e.touched ≡ false) × IsMade (step s e.actor r.state) e
may s policy script r e SnapEvent = (e ≡ mark SnapEvent e.actor (version_of r e.actor)) × MayCommit policy r e.actor
may s policy script r e Stable = (r.owed ≡ Some e.actor) × (r.short ≡ false) × (e ≡ mark Stable e.actor 0)
may s policy script r e Tried = (e ≡ mark Tried e.actor (version_of r e.actor)) × MayCommit policy r e.actor

-- nothing follows a Tried
abbrev pub May : Supply → Policy → Script → Run → Entry → Type 0
May s policy script r e = (r.tried ≡ None) × may s policy script r e e.event

-- WHAT THE RULES LOOK AT NEXT

-- whether each entity is full is looked at after each entry
abbrev pub noting : Run → Run
noting r = record r { was_full = λ x. r.was_full x || is_full r x }

-- the entity that a snap names, if it was answered Ok
abbrev pub asks : Answer → Instr → LocusState → Option ℕ
asks (Replied Ok) (Snap c) l = Some (entity_of l c)
asks answer i l = None

-- a stabilise that was answered Ok
abbrev pub stabilises : Answer → Instr → Bool
stabilises (Replied Ok) (Stabilise c) = true
stabilises answer i = false

abbrev pub locus_in : Cell → Option LocusState
locus_in (LocusCell l) = Some l
locus_in NotBorn = None
locus_in (AtlasCell a) = None
locus_in (ContainerCell c) = None

abbrev pub asked_by : Answer → Option LocusState → Option ℕ
asked_by answer None = None
asked_by answer (Some l) = asks answer (instr_at l) l

abbrev pub owed_by : ℕ → Answer → Option LocusState → Option ℕ
owed_by actor answer None = None
owed_by actor answer (Some l) = if stabilises answer (instr_at l) then Some actor else None

abbrev pub with_asked : Option ℕ → (ℕ → Bool) → ℕ → Bool
with_asked None f = f
with_asked (Some x) f = put f x true

-- a birth, in the state after it
abbrev pub after_birth : Run → Entry → KernelState → Run
after_birth r e state = record r { state = state; by_step = λ x. not (writes e x) && r.by_step x }

-- after the last birth a Stable of the atlas is owed
abbrev pub owing_births : Script → Run → Run
owing_births script r = record r { owed = if births_owed script r then None else Some 0 }

-- a step of a locus, in the state after it
abbrev pub after_step : Run → Entry → Option LocusState → KernelState → Run
after_step r e l state = record r {
  state = state;
  began = false;
  owed = owed_by e.actor e.answer l;
  steps = put r.steps e.actor (r.steps e.actor + 1);
  by_step = λ x. writes e x || r.by_step x;
  asked = with_asked (asked_by e.answer l) r.asked;
  was_full = λ x. not (writes e x) && r.was_full x;
}

-- these records are completed
abbrev pub committing : Run → List Commit → Run
committing r cs = record r { began = false; commits = r.commits ++ cs; cut = greatest r.start (r.commits ++ cs) }

-- a record of one entity; one that an owed Stable needs cuts the Stable short
abbrev pub after_snap : Run → ℕ → Run
after_snap r x = record (committing r (commit_of r x ∷ [])) {
  short = is_some r.owed;
  newest = put r.newest x (version_of r x);
  by_step = put r.by_step x false;
  asked = put r.asked x false;
}

-- a record of each changed entity
abbrev pub after_stable : Run → Run
after_stable r = record (committing r (commits_of r (filter (has_changed r) (upto 64)))) {
  owed = None;
  newest = version_of r;
  by_step = λ _. false;
  asked = λ _. false;
}

abbrev pub went_on : Supply → Script → Run → Entry → Event → Run
went_on s script r e Birth = noting (owing_births script (after_birth r e (after_entry (event_of s script) r.state e)))
went_on s script r e Step = noting (after_step r e (locus_in (r.state e.actor).cell) (after_entry (event_of s script) r.state e))
went_on s script r e SnapEvent = noting (after_snap r e.actor)
went_on s script r e Stable = noting (after_stable r)
went_on s script r e Tried = record r { tried = Some (commit_of r e.actor) }

abbrev pub goes_on : Supply → Script → Run → Entry → Run
goes_on s script r e = went_on s script r e e.event

-- LEGAL RUNS

-- the entries may follow, one after another
abbrev pub IsLegalFrom : Supply → Policy → Script → Run → List Entry → Type 0
IsLegalFrom s policy script r [] = Unit {0}
IsLegalFrom s policy script r (e ∷ es) = May s policy script r e × IsLegalFrom s policy script (goes_on s script r e) es

abbrev pub chosen_commits : KernelState → List ℕ → List Commit
chosen_commits w [] = []
chosen_commits w (x ∷ xs) = record { entity = x; version = (w x).version; stamp = (w x).stamp } ∷ chosen_commits w xs

-- a run begins with the chosen records of the opened image
abbrev pub start_run : KernelState → Run
start_run w = record {
  start = λ x. (w x).version;
  state = w;
  began = true;
  owed = None;
  short = false;
  steps = λ _. 0;
  newest = λ x. (w x).version;
  by_step = λ _. false;
  asked = λ _. false;
  was_full = λ _. false;
  commits = chosen_commits w (filter (λ x. nat_lt 0 (w x).version) (upto 64));
  cut = λ x. (w x).version;
  tried = None;
}

-- the history is a legal run from the state, of the script
abbrev pub IsLegalRun : Supply → Policy → KernelState → Script → List Entry → Type 0
IsLegalRun s policy w script es = IsLegalFrom s policy script (start_run w) es

-- what the rules look at after these entries
abbrev pub run_after : Supply → Script → Run → List Entry → Run
run_after s script r [] = r
run_after s script r (e ∷ es) = run_after s script (goes_on s script r e) es

-- the completed records of a history, in order
abbrev pub commits_in : Supply → Script → KernelState → List Entry → List Commit
commits_in s script w es = (run_after s script (start_run w) es).commits

-- entities have numbers below 64
abbrev pub AllBelow64 : List Entry → Type 0
AllBelow64 [] = Unit {0}
AllBelow64 (e ∷ es) = ((x : ℕ) → 64 ≤ x → touch_at e.touched x ≡ None) × AllBelow64 es
