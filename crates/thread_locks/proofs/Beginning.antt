-- The desk of a kernel that is put under locks.
use Rattle.std.proofs.Common.{◌≡◌, ◌++◌, ◌∷◌, List, [], Option, Some, None, slice_get, refl, sym, ap, ◌∙◌, subst}
use Rattle.std.proofs.lemmas.List.{append-nil}
use Rattle.std.proofs.lemmas.Option.{same_Some}
use Rattle.edge_disk.specs.declared.disk.Disk.{Ghosts}
use Rattle.base_types.specs.declared.histories.Entry.{Entry}
use Rattle.thread_items.specs.kernel_core.Parts.{held_of}
use Rattle.thread_items.specs.kernel_core.model_serial.Serial.{opening}
use Rattle.thread_items.proofs.kernel_core_lemmas.model_serial_turns_lemmas.Whereabouts.{looked_opening}
use Rattle.kernel_run_facts.specs.kernel_core_facts.Kernels.{Held, IsKept, Lives, NotesAlong, StaysClean}
use Rattle.kernel_run_facts.specs.kernel_core_facts.cell_states.declared.cells.Cell.{Cell}
use Rattle.kernel_run_facts.specs.kernel_core_facts.kernel_commit_facts.Lacking.{LacksIn}
use Rattle.kernel_run_facts.specs.kernel_core_facts.kernel_commit_facts.Parts.{Noted}
use Rattle.kernel_run_facts.specs.kernel_core_facts.kernel_commit_facts.Pieces.{StopsIn}
use Rattle.kernel_run_facts.specs.kernel_core_facts.kernel_invariant.Beginnings.{Beginning}
use Rattle.kernel_run_facts.specs.kernel_core_facts.kernel_invariant.declared.stopping.Stopped.{Stopped}
use Rattle.kernel_run_facts.specs.kernel_core_facts.store_facts.State.{State}
use Rattle.kernel_run_facts.specs.Alongs.{ComesNext, IsAlong, LooksAt}
use Rattle.thread_items.specs.thread_desk.Desks.{Terms, IsCountedFrom, IsDesk, IsKernel, knowing}

-- the only item of a list
pub only_one : {A : Type 0} (xs : List A) (x y : A) → y ∷ [] ≡ xs ++ x ∷ [] → Some x ≡ Some y
only_one [] x y is = sym (ap (λ l. slice_get l 0) is)
only_one (z ∷ []) x y is = absurd (let clash : None ≡ Some x = ap (λ l. slice_get l 1) is in cc clash)
only_one (z ∷ w ∷ zs) x y is = absurd (let clash : None ≡ Some w = ap (λ l. slice_get l 1) is in cc clash)

-- the sides that know these cells, this store and nothing of the history beyond the kept entries know the kernel of these parts
pub opened : {D : Type 0} (disks : Ghosts D) (b : Beginning) (terms : Terms) (kept : List Entry) (ss : List (State D)) (cs : List Cell) (n : Noted) (told : List Entry) (stop : Option Stopped) (st : State D) (k : Held D)
    → held_of st cs n stop ≡ k → ss ≡ st ∷ [] → kept ≡ n.entries → told ≡ [] → IsKept disks k → IsCountedFrom disks terms.counts k → StaysClean disks b.supply k → (terms.told → disks.tells) → (terms.told → Lives disks b k) → (terms.told → IsAlong disks b k)
    → IsDesk disks b terms kept (knowing ss cs n told stop)
opened {D} disks b terms kept ss cs n told stop st k same stores first none is_kept counted clean tells lives along = λ (z : State D) at.
    let here : z ≡ st = same_Some z st (sym at ∙ ap (λ (l : List (State D)). slice_get l 0) stores) in
    subst (λ (w : State D). IsKernel disks b terms kept (knowing ss cs n told stop) w) (sym here) (record {
      is_kept = subst (IsKept disks) (sym same) is_kept;
      counted = subst (IsCountedFrom disks terms.counts) (sym same) counted;
      clean = subst (StaysClean disks b.supply) (sym same) clean;
      tells = tells;
      lives = λ t. subst (Lives disks b) (sym same) (lives t);
      along = λ t. subst (IsAlong disks b) (sym same) (along t);
      entries = sym first ∙ sym (ap (λ (es : List Entry). kept ++ es) none ∙ append-nil kept);
    })

-- behind the births
pub born_along : {D : Type 0} (disks : Ghosts D) (b : Beginning) (old new : Held D) → old.parts.noted.entries ≡ [] → NotesAlong disks b (opening b.supply b.script b.state) old new → IsAlong disks b new
born_along {D} disks b old new none notes =
    let all : List Entry = opening b.supply b.script b.state in
    record {
      looks = λ going.
          let same : new.parts.noted.entries ≡ all = notes.whole going ∙ ap (λ (es : List Entry). es ++ all) none in
          ([], subst (LooksAt b []) (sym same) (looked_opening b.supply b.policy b.script b.state));
      stopped = λ why is. record {
        front = [];
        all = all;
        next = ComesNext.Births refl refl;
        part = subst (λ (es : List Entry). StopsIn b all es new.parts.noted.entries) none (notes.part why is);
        enough = λ n at. subst (λ (es : List Entry). LacksIn disks b n all es new.parts) none (notes.enough n (is ∙ ap (λ (w : Stopped). Some w) at));
      };
    }
