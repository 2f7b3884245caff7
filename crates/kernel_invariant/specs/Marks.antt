-- Marks: when the entries of a history that complete records were made, by the writes and syncs begun on the disk by then.
use Rattle.std.specs.Prelude.{◌≡◌, ◌≤◌, ◌+◌, ◌*◌, ℕ, Bool, true, false, List, [], ◌∷◌, ◌++◌, count_by, length, slice_get, Some}
use Rattle.store_books.specs.base_types.declared.histories.Entry.{Entry}
use Rattle.store_books.specs.base_types.declared.histories.Event.{Event}
use Rattle.store_books.specs.base_types.declared.histories.Event.TheVariants.{Birth, Step, Snap, Stable, Tried}
use Rattle.model_sound_states.specs.model_kernel.Histories.{commits_in}
use Rattle.model_sound_states.specs.model_kernel.Scripts.{Script}
use Rattle.model_sound_states.specs.model_kernel.State.{KernelState, Supply}
use Rattle.model_sound_states.specs.model_run_laws.StepEntries.{is_step as is_step_event}

abbrev pub is_completing : Event → Bool
is_completing Snap = true
is_completing Stable = true
is_completing Birth = false
is_completing Step = false
is_completing Tried = false

-- the entry completes records for certain
abbrev pub completes : Entry → Bool
completes e = is_completing e.event

abbrev pub is_step : Entry → Bool
is_step e = is_step_event e.event

-- There is a mark for each entry that completes records. Marks don't fall, and each is within a bound of the records completed
-- in this run up to its entry and of the steps before it.
pub record AreMarks (s : Supply) (script : Script) (w : KernelState) (es : List Entry) (marks : List ℕ) : Type 0 where
  pub each : length marks ≡ count_by completes es
  pub rising : (i j a b : ℕ) → i ≤ j → slice_get marks i ≡ Some a → slice_get marks j ≡ Some b → a ≤ b
  pub bound : (fs gs : List Entry) (e : Entry) (m : ℕ) → es ≡ fs ++ e ∷ gs → completes e ≡ true → slice_get marks (count_by completes fs) ≡ Some m
      → m + 1600 * length (commits_in s script w []) ≤ 1600 * (length (commits_in s script w (fs ++ e ∷ [])) + 1) + count_by is_step fs
