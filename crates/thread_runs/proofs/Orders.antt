-- A kernel behind looks in some order: where it has stopped, where it goes on, and behind the last rounds.
use Rattle.std.proofs.Common.{◌≡◌, ℕ, List, [], ◌∷◌, ◌++◌, Bool, true, false, Option, None, Some, refl, sym, ap, subst, ◌∙◌}
use Rattle.std.proofs.lemmas.List.{append-nil}
use Rattle.std.specs.Prelude.{IfSome}
use Rattle.edge_disk.specs.declared.disk.Disk.{Ghosts}
use Rattle.base_types.specs.declared.histories.Entry.{Entry}
use Rattle.script_types.specs.model_kernel.Serial.{rounds}
use Rattle.kernel_runs.specs.model_serial.Serial.{opening}
use Rattle.kernel_runs.specs.kernel_invariant.Beginnings.{Beginning}
use Rattle.kernel_runs.specs.kernel_invariant.declared.stopping.Stopped.{Stopped}
use Rattle.kernel_runs.specs.kernel_core_facts.Kernels.{Held, Lives}
use Rattle.kernel_runs.specs.kernel_run_facts.Alongs.{ComesNext, IsAlong, LooksAt, WasStoppedIn}
use Rattle.kernel_runs.specs.kernel_run_facts.Running.{EndsBehind, HasStoppedBehind, IsFrontOf, RunsAlong}
use Rattle.kernel_runs.proofs.kernel_run_facts_lemmas.model_serial_turns_lemmas.Whereabouts.{looked_more, looked_opening}
use Rattle.thread_runs.specs.Ran.{EndsInSomeOrder}

-- what holds of each
pub if_any : {X : Type 0} {P : X → Type 0} (o : Option X) → ((x : X) → P x) → IfSome o P
if_any None each = tt
if_any (Some x) each = each x

-- the looks behind a piece
behind_piece : (b : Beginning) (front all : List Entry) → ComesNext b front all → (looked : List ℕ) × LooksAt b looked (front ++ all)
behind_piece b front all (ComesNext.Births none is) =
    let same : opening b.supply b.script b.state ≡ front ++ all = sym (ap (λ (es : List Entry). es ++ all) none ∙ is) in
    ([], subst (LooksAt b []) same (looked_opening b.supply b.policy b.script b.state))
behind_piece b front all (ComesNext.Look looked locus at is) =
    (looked ++ locus ∷ [], subst (λ (es : List Entry). LooksAt b (looked ++ locus ∷ []) (front ++ es)) (sym is) (looked_more b.supply b.policy b.script b.state looked front locus at))

-- looks begin the course behind themselves
all_first : (looked : List ℕ) → IsFrontOf looked looked
all_first looked = record { rounds_made = 0; rest = []; front = refl }

module _ {D : Type 0} (disks : Ghosts D) (b : Beginning) where
  stopped_along : (k : Held D) (why : Stopped) → Lives disks b k → WasStoppedIn disks b why k.parts → (first : List ℕ) × HasStoppedBehind disks b first why k
  stopped_along k why lives piece =
      let behind = behind_piece b piece.front piece.all piece.next in
      (behind.0, record { lives = lives; piece = piece; looked = behind.0; looks = behind.1; begins = all_first behind.0 })

  runs_along : (k : Held D) → Lives disks b k → IsAlong disks b k → k.stop ≡ None → (looked : List ℕ) × RunsAlong disks b looked k
  runs_along k lives along going = (let behind = along.looks going in (behind.0, record { lives = lives; looks = behind.1 }))

  -- WANT OF MEMORY: no rounds are made behind the workers
  pub ends_lacking : (k : Held D) (lacked : Bool) → lacked ≡ true → Lives disks b k → IsAlong disks b k → EndsInSomeOrder disks b lacked k
  ends_lacking k lacked is lives along = record {
    over = λ none going. absurd (let clash : true ≡ false = sym is ∙ none in cc clash);
    stopped = λ why is. stopped_along k why lives (along.stopped why is);
    along = runs_along k lives along;
  }

  -- STOPPED before the last rounds
  pub ends_stopped : (k : Held D) (lacked : Bool) (why : Stopped) → k.stop ≡ Some why → Lives disks b k → IsAlong disks b k → EndsInSomeOrder disks b lacked k
  ends_stopped k lacked why is lives along = record {
    over = λ none going. absurd (let clash : None ≡ Some why = sym going ∙ is in cc clash);
    stopped = λ w at. stopped_along k w lives (along.stopped w at);
    along = runs_along k lives along;
  }

  -- behind the last rounds
  pub ends_behind : (k : Held D) (lacked : Bool) (first : List ℕ) → EndsBehind disks b first k → EndsInSomeOrder disks b lacked k
  ends_behind k lacked first ends = record {
    over = λ none going. (first, ends.over going);
    stopped = λ why is. (first, ends.stopped why is);
    along = λ going. (let over = ends.over going in (first ++ rounds over.rounds_made, record { lives = over.lives; looks = over.looks }));
  }

  -- THE LAST ROUNDS, which a kernel that has stopped doesn't make
  pub ends_finished : (old new : Held D) (lacked : Bool) (P : Stopped → Type 0) → Lives disks b old → IsAlong disks b old → IfSome old.stop (λ why. P why × (new ≡ old))
      → (old.stop ≡ None → (first : List ℕ) (made : ℕ) → RunsAlong disks b (first ++ rounds made) old → EndsBehind disks b first new) → EndsInSomeOrder disks b lacked new
  ends_finished old new lacked P lives along was rounds_behind = by old.stop refl was
    where
      by : (o : Option Stopped) → old.stop ≡ o → IfSome o (λ why. P why × (new ≡ old)) → EndsInSomeOrder disks b lacked new
      by None going stays =
          let front = runs_along old lives along going in
          ends_behind new lacked front.0 (rounds_behind going front.0 0 (subst (λ (ls : List ℕ). RunsAlong disks b ls old) (sym (append-nil front.0)) front.1))
      by (Some why) is stays = subst (EndsInSomeOrder disks b lacked) (sym stays.1) (ends_stopped old lacked why is lives along)
