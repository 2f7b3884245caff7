-- When a record of an entity is wanted, told by the places of a history. A place is given by the entries before it and those
-- behind it.
use Rattle.std.specs.Prelude.{◌≡◌, ◌-◌, ◌++◌, ◌⊎◌, ◌&&◌, [], ◌∷◌, ℕ, Bool, IsTrue, List, Some, false, nat_le, true}
use Rattle.std.specs.List.{list_any}
use Rattle.base_types.specs.declared.histories.Entry.{Entry}
use Rattle.base_types.specs.declared.histories.Event.TheVariants.{Step}
use Rattle.model_run_laws.specs.model_kernel.Choices.{greatest}
use Rattle.model_run_laws.specs.model_kernel.Histories.{Policy, asked_by, commits_above, commits_in, event_of, every_of, locus_in, writes}
use Rattle.model_run_laws.specs.model_kernel.Parts.{after}
use Rattle.model_run_laws.specs.model_kernel.Scripts.{Script}
use Rattle.model_run_laws.specs.model_kernel.State.{KernelState, Supply}
use Rattle.model_run_laws.specs.StepEntries.{is_step}
use Rattle.model_run_rules.specs.Newest.{commit_count, newest_in}

module _ (s : Supply) (script : Script) (w : KernelState) (es : List Entry) (x : ℕ) where
  -- the entity has no commit since these first entries
  abbrev pub HasNoCommitSince : List Entry → Type 0
  HasNoCommitSince front = commit_count (commits_in s script w es) x ≡ commit_count (commits_in s script w front) x

  -- the last entry that writes the entity is a Step, and the entity has no commit since
  pub record IsWrittenByStep : Type 0 where
    pub before : List Entry
    pub step : Entry
    pub later : List Entry
    pub split : es ≡ before ++ step ∷ later
    pub made : step.event ≡ Step
    pub wrote : writes step x ≡ true
    pub last : list_any (λ e. writes e x) later ≡ false
    pub since : HasNoCommitSince (before ++ step ∷ [])

  -- a snap that was answered Ok named the entity, and the entity has no commit since
  pub record IsNamedBySnap : Type 0 where
    pub before : List Entry
    pub step : Entry
    pub later : List Entry
    pub split : es ≡ before ++ step ∷ later
    pub made : step.event ≡ Step
    pub named : asked_by step.answer (locus_in (after (event_of s script) w before step.actor).cell) ≡ Some x
    pub since : HasNoCommitSince (before ++ step ∷ [])

  -- the entity has an open wish: a step wrote it last and the policy says so, or a snap asked for it
  abbrev pub HasOpenWish : Policy → Type 0
  HasOpenWish policy =
      (IsWrittenByStep
      × IsTrue (policy (every_of (after (event_of s script) w es x).cell) ((after (event_of s script) w es x).version - newest_in (commits_in s script w es) x)))
      ⊎ IsNamedBySnap

  -- four or more of its commits are at or above the cut
  abbrev pub is_full_after : Bool
  is_full_after = nat_le 4 (commits_above (commits_in s script w es) (greatest (λ y. (w y).version) (commits_in s script w es)) x)

-- the entry is a Step that writes the entity
abbrev pub steps_on : ℕ → Entry → Bool
steps_on x e = is_step e.event && writes e x

-- the entity was full at no place from the last Step that writes it to the end
abbrev pub WasNeverFull : Supply → Script → KernelState → List Entry → ℕ → Type 0
WasNeverFull s script w es x =
    (front rest : List Entry) → es ≡ front ++ rest → list_any (steps_on x) front ≡ true → list_any (steps_on x) rest ≡ false
    → is_full_after s script w front x ≡ false
