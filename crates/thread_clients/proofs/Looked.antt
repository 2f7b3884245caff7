-- What a look of the serial kernel leaves of a kernel in a run.
use Rattle.std.proofs.Common.{◌≡◌, ℕ, Bool, false, true, not, List, [], ◌∷◌, ◌++◌, Option, None, Some, append_assoc, refl, sym, ap, subst, ◌∙◌}
use Rattle.std.specs.Prelude.{IfSome, Result, is_some}
use Rattle.std.specs.Result.{result_err}
use Rattle.edge_disk.specs.declared.disk.Disk.{Ghosts}
use Rattle.base_types.specs.declared.histories.Entry.{Entry}
use Rattle.thread_desk.specs.kernel_core.kernel_commit_facts.Parts.{Parts}
use Rattle.thread_desk.specs.kernel_core.kernel_commit_facts.Steady.{IsSteady}
use Rattle.thread_stables.specs.kernel_core_facts.Kernels.{Held, IsKept, Lives, NotesAlong, StaysClean}
use Rattle.thread_desk.specs.kernel_core.kernel_invariant.Beginnings.{Beginning, run_of}
use Rattle.thread_desk.specs.kernel_core.kernel_invariant.declared.stopping.Stopped.{Stopped}
use Rattle.thread_desk.specs.kernel_core.kernel_invariant.declared.stopping.Stopped.TheVariants as reason
use Rattle.thread_desk.specs.kernel_core.model_kernel.Histories.{Policy}
use Rattle.thread_desk.specs.kernel_core.model_kernel.State.{Supply}
use Rattle.thread_desk.specs.kernel_core.model_serial.Serial.{look}
use Rattle.thread_desk.specs.kernel_core.model_serial_turns.Turns.{HasLooked}
use Rattle.thread_desk.proofs.kernel_core_lemmas.LookKept.{look_entries, look_kept, look_lives}
use Rattle.thread_desk.proofs.kernel_core_lemmas.kernel_commits_lemmas.Telling.{err_of_kept, when_stopped}
use Rattle.thread_desk.proofs.kernel_core_lemmas.model_serial_turns_lemmas.Whereabouts.{looked_more}
use Rattle.thread_stables.proofs.kernel_core_facts_lemmas.Kept.{runs_free, while_going}
use Rattle.thread_stables.specs.kernel_core_facts.declared.looked.Looked.{Looked}
use Rattle.thread_desk.specs.Alongs.{ComesNext}
use Rattle.thread_stables.specs.thread_looks.Looking.{LooksAsSerial}
use Rattle.thread_clients.specs.Running.{IsBehindLooks, IsOneOf, stop_in}

abbrev pub held : {D : Type 0} → Parts D → Option Stopped → Held D
held p o = record { parts = p; stop = o }

module _ {D : Type 0} (disks : Ghosts D) (supply : Supply) (policy : Policy) (me : ℕ) (old new : Parts D) (r : Result Looked Stopped)
    (l : LooksAsSerial disks supply policy me old new r) (o : Option Stopped) (is : o ≡ result_err r) where
  pub kept : IsKept disks (held new o)
  kept = look_kept disks me old new policy r l.steady l.stopped.stopped o is

  module _ (steady : IsSteady disks old) (told : disks.tells) (b : Beginning) (same_supply : b.supply ≡ supply) (same_policy : b.policy ≡ policy) (lives : Lives disks b (held old None)) where
    pub lives_on : Lives disks b (held new o)
    lives_on =
        let free = runs_free disks me old new steady b policy same_policy lives in
        look_lives disks me old new b policy r (l.run told b same_supply same_policy free.stands (lives.live.calm refl)) o is

    pub notes_on : NotesAlong disks b (look b.supply b.policy b.script (run_of b old.noted.entries) me) (held old None) (held new o)
    notes_on =
        let free = runs_free disks me old new steady b policy same_policy lives in
        let calm = lives.live.calm refl in
        record {
          whole = λ going. while_going r (look_entries disks me old new b policy same_policy r (l.run told b same_supply same_policy free.stands calm)) o is going;
          part = λ why at. when_stopped r (l.part told b same_supply same_policy free.stands calm) o is why at;
          enough = λ n at. l.enough told b same_supply same_policy free.stands calm n (err_of_kept r o is (reason.NoBlocks n) at);
        }

-- WHATEVER CAME of it: where none was made all stays
module _ {D : Type 0} (disks : Ghosts D) (supply : Supply) (policy : Policy) (me : ℕ) (old new : Parts D) (o : Option Stopped) (k : IsKept disks (held old None)) where
  abbrev Looks : Option (Result Looked Stopped) → Type 0
  Looks came = IfSome came (LooksAsSerial disks supply policy me old new)

  same_held : new ≡ old → o ≡ None → held old None ≡ held new o
  same_held same is = λ i. held (sym same i) (sym is i)

  pub kept_after : (came : Option (Result Looked Stopped)) → (came ≡ None → new ≡ old) → Looks came → o ≡ stop_in came → IsKept disks (held new o)
  kept_after None none looks is = subst (IsKept disks) (same_held (none refl) is) k
  kept_after (Some r) none looks is = kept disks supply policy me old new r looks o is

  pub clean_after : (came : Option (Result Looked Stopped)) → (came ≡ None → new ≡ old) → Looks came → o ≡ stop_in came → StaysClean disks supply (held old None) → StaysClean disks supply (held new o)
  clean_after None none looks is clean = subst (StaysClean disks supply) (same_held (none refl) is) clean
  clean_after (Some r) none looks is clean = λ told going. while_going r (looks.clean told) o is going

  module _ (told : disks.tells) (b : Beginning) (same_supply : b.supply ≡ supply) (same_policy : b.policy ≡ policy) (lives : Lives disks b (held old None)) where
    pub lives_after : (came : Option (Result Looked Stopped)) → (came ≡ None → new ≡ old) → Looks came → o ≡ stop_in came → Lives disks b (held new o)
    lives_after None none looks is = subst (Lives disks b) (same_held (none refl) is) lives
    lives_after (Some r) none looks is = lives_on disks supply policy me old new r looks o is (k.steady refl) told b same_supply same_policy lives

    pub notes_after : (came : Option (Result Looked Stopped)) → Looks came → o ≡ stop_in came
        → IfSome came (λ _. NotesAlong disks b (look b.supply b.policy b.script (run_of b old.noted.entries) me) (held old None) (held new o))
    notes_after None looks is = tt
    notes_after (Some r) looks is = notes_on disks supply policy me old new r looks o is (k.steady refl) told b same_supply same_policy lives

-- BEHIND ONE LOOK MORE
module _ {D : Type 0} (disks : Ghosts D) (b : Beginning) (looked : List ℕ) (me : ℕ) (old new : Held D) (s : IsBehindLooks disks b looked old) where
  pub behind_more : old.stop ≡ None → Lives disks b new → NotesAlong disks b (look b.supply b.policy b.script (run_of b old.parts.noted.entries) me) old new → IsBehindLooks disks b (looked ++ me ∷ []) new
  behind_more before lives notes =
      let es : List Entry = old.parts.noted.entries in
      record {
        lives = lives;
        looks = λ going. subst (HasLooked b.supply b.policy b.script b.state (looked ++ me ∷ [])) (sym (notes.whole going)) (looked_more b.supply b.policy b.script b.state looked es me (s.looks before));
        stopped = λ why is. (
          record {
            front = es;
            all = look b.supply b.policy b.script (run_of b es) me;
            next = ComesNext.Look looked me (s.looks before) refl;
            part = notes.part why is;
            enough = λ n at. notes.enough n (is ∙ ap (λ (w : Stopped). Some w) at);
          },
          ([], refl),
        );
      }

  -- what is one of some pieces is one of these and another
  one_more : {front all : List Entry} → (next : ComesNext b front all) → IsOneOf looked next → IsOneOf (looked ++ me ∷ []) next
  one_more (ComesNext.Births empty is) one = tt
  one_more (ComesNext.Look before locus at is) one = (one.0 ++ me ∷ [], ap (λ (ls : List ℕ). ls ++ me ∷ []) one.1 ∙ append_assoc before (locus ∷ one.0) (me ∷ []))

  -- a kernel that has stopped stays as it is
  pub behind_still : (why : Stopped) → old.stop ≡ Some why → new ≡ old → IsBehindLooks disks b (looked ++ me ∷ []) new
  behind_still why is same = subst (IsBehindLooks disks b (looked ++ me ∷ [])) (sym same) (record {
    lives = s.lives;
    looks = λ going. absurd (let clash : None ≡ Some why = sym going ∙ is in cc clash);
    stopped = λ v at. let was = s.stopped v at in (was.0, one_more was.0.next was.1);
  })

-- BEHIND A LOOK, whatever came of it
module _ {D : Type 0} (disks : Ghosts D) (R : Stopped → Type 0) (b : Beginning) (looked : List ℕ) (me : ℕ) (old new : Held D) where
  pub behind_next : (o : Option Stopped) → old.stop ≡ o → IfSome o (λ why. R why × (new ≡ old)) → IsBehindLooks disks b looked old → Lives disks b new
      → (old.stop ≡ None → NotesAlong disks b (look b.supply b.policy b.script (run_of b old.parts.noted.entries) me) old new) → IsBehindLooks disks b (looked ++ me ∷ []) new
  behind_next None is _ s lives notes = behind_more disks b looked me old new s is lives (notes is)
  behind_next (Some why) is stays s lives notes = behind_still disks b looked me old new s why is stays.1

-- whether a look was made
pub if_made : {T : Type 0} (r : Option T) (none : Bool) (P : Type 0) → is_some r ≡ not none → none ≡ false → IfSome r (λ _. P) → P
if_made (Some t) none P test made p = p
if_made None none P test made p = absurd (let clash : false ≡ true = test ∙ ap not made in cc clash)

pub not_made : {T : Type 0} (r : Option T) (none : Bool) → is_some r ≡ not none → none ≡ true → r ≡ None
not_made None none test is = refl
not_made (Some t) none test is = absurd (let clash : true ≡ false = test ∙ ap not is in cc clash)
