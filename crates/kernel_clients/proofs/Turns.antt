-- A serving kernel goes on serving.
use Rattle.std.proofs.Common.{◌≡◌, ℕ, List, [], ◌∷◌, ◌++◌, Option, Some, None, refl, sym, ap, subst, ◌∙◌}
use Rattle.std.specs.Prelude.{IfSome}
use Rattle.edge_disk.specs.declared.disk.Disk.{Ghosts}
use Rattle.base_types.specs.declared.histories.Entry.{Entry}
use Rattle.kernel_core.specs.kernel_core_facts.Kernels.{Held, Lives}
use Rattle.kernel_core.specs.kernel_invariant.Beginnings.{Beginning, run_of}
use Rattle.kernel_core.specs.kernel_invariant.declared.stopping.Stopped.{Stopped}
use Rattle.kernel_core.specs.model_serial.Serial.{look, opening}
use Rattle.kernel_core.specs.model_serial_turns.Turns.{HasLooked}
use Rattle.kernel_core.proofs.model_serial_turns_lemmas.Whereabouts.{looked_more, looked_opening}
use Rattle.kernel_runs.specs.kernel_run_facts.Running.{EndsBehind, RunsAlong}
use Rattle.kernel_clients.specs.Serving.{Serves, ServesToEnd}

module _ {D : Type 0} (disks : Ghosts D) where
  -- a kernel that goes on went on before
  going_before : (R : Stopped → Type 0) (old new : Held D) (o : Option Stopped) → old.stop ≡ o → IfSome o (λ why. R why × (new ≡ old)) → new.stop ≡ None → old.stop ≡ None
  going_before R old new None is _ going = is
  going_before R old new (Some why) is stays going = let same : new.stop ≡ Some why = ap (λ (k : Held D). k.stop) stays.1 ∙ is in absurd (let clash : None ≡ Some why = sym going ∙ same in cc clash)

  -- behind a look at one locus more
  pub serves_more : (R : Stopped → Type 0) (b : Beginning) (looked : List ℕ) (l : ℕ) (old new : Held D) → Serves disks b looked old → IfSome old.stop (λ why. R why × (new ≡ old)) → Lives disks b new
      → (old.stop ≡ None → new.stop ≡ None → new.parts.noted.entries ≡ old.parts.noted.entries ++ look b.supply b.policy b.script (run_of b old.parts.noted.entries) l) → Serves disks b (looked ++ l ∷ []) new
  serves_more R b looked l old new s stays lives notes = record {
    lives = lives;
    looks = λ going.
        let before = going_before R old new old.stop (λ i. old.stop) stays going in
        let es : List Entry = old.parts.noted.entries in
        subst (HasLooked b.supply b.policy b.script b.state (looked ++ l ∷ [])) (sym (notes before going))
        (looked_more b.supply b.policy b.script b.state looked es l (s.looks before));
  }

  -- behind its births
  pub serves_born : (b : Beginning) (old new : Held D) → old.parts.noted.entries ≡ [] → Lives disks b new
      → (new.stop ≡ None → new.parts.noted.entries ≡ old.parts.noted.entries ++ opening b.supply b.script b.state) → Serves disks b [] new
  serves_born b old new nothing lives notes = record {
    lives = lives;
    looks = λ going.
        subst (HasLooked b.supply b.policy b.script b.state []) (sym (notes going ∙ ap (λ (es : List Entry). es ++ opening b.supply b.script b.state) nothing))
        (looked_opening b.supply b.policy b.script b.state);
  }

  -- and to its end
  lives_behind : (b : Beginning) (looked : List ℕ) (k : Held D) (o : Option Stopped) → k.stop ≡ o → EndsBehind disks b looked k → Lives disks b k
  lives_behind b looked k None is ends = (ends.over is).lives
  lives_behind b looked k (Some why) is ends = (ends.stopped why is).lives

  pub serves_to_end : (R : Stopped → Type 0) (b : Beginning) (looked : List ℕ) (old new : Held D) → Serves disks b looked old → IfSome old.stop (λ why. R why × (new ≡ old))
      → (old.stop ≡ None → RunsAlong disks b looked old → EndsBehind disks b looked new) → ServesToEnd disks b looked new
  serves_to_end R b looked old new s stays ends = by old.stop refl stays
    where
      by : (o : Option Stopped) → old.stop ≡ o → IfSome o (λ why. R why × (new ≡ old)) → ServesToEnd disks b looked new
      by None is _ = (let e = ends is (record { lives = s.lives; looks = s.looks is }) in record { lives = lives_behind b looked new new.stop refl e; over = e.over })
      by (Some why) is same = record {
        lives = subst (Lives disks b) (sym same.1) s.lives;
        over = λ going. (let was : new.stop ≡ Some why = ap (λ (k : Held D). k.stop) same.1 ∙ is in absurd (let clash : None ≡ Some why = sym going ∙ was in cc clash));
      }
