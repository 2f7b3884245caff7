-- What a public Snap leaves of a kernel, whatever came of it.
use Rattle.std.proofs.Common.{◌≡◌, inl, ℕ, Bool, true, false, not, ◌&&◌, if◌then◌else◌, List, [], ◌∷◌, ◌++◌, Option, None, Some, Ok, Err, refl, sym, ap, subst, ◌∙◌}
use Rattle.std.specs.Prelude.{OnOk, Result}
use Rattle.std.specs.Result.{result_err}
use Rattle.std.proofs.lemmas.List.{append-nil}
use Rattle.edge_disk.specs.declared.disk.Disk.{Ghosts}
use Rattle.base_types.specs.declared.histories.Entry.{Entry}
use Rattle.base_types.specs.declared.histories.Event.TheVariants.{Snap}
use Rattle.table_births.specs.model_kernel.Histories.{Policy, Run, births_owed, goes_on, has_wish, is_due, is_full, mark, version_of}
use Rattle.table_births.proofs.model_run_laws_lemmas.Wishes.{due_stays}
use Rattle.table_births.specs.table_laws.Tables.{IsOrderly}
use Rattle.kernel_commits.specs.store_facts.State.{books}
use Rattle.kernel_commits.specs.kernel_invariant.Beginnings.{Beginning, run_of}
use Rattle.kernel_commits.specs.kernel_invariant.Live.{IsCalm}
use Rattle.kernel_commits.proofs.kernel_views_lemmas.Legal.{run_next}
use Rattle.kernel_core_facts.specs.Kernels.{IsKept, Lives}
use Rattle.kernel_commits.specs.kernel_commit_facts.Parts.{Parts}
use Rattle.kernel_commits.specs.kernel_commit_facts.Snapping.{RunsFree, wants_in}
use Rattle.kernel_commits.specs.Recording.{Fails}
use Rattle.kernel_commits.specs.Snapping.{SnapsOne}
use Rattle.kernel_commits.specs.kernel_commit_facts.Steady.{IsSteady}
use Rattle.kernel_commits.specs.kernel_invariant.declared.stopping.Stopped.{Stopped}
use Rattle.kernel_commits.specs.kernel_invariant.declared.stopping.Stopped.TheVariants as reason
use Rattle.kernel_commits.proofs.Stops.{tried_orderly}

-- what holds where a call ended well holds while the kernel goes on
pub while_going : {T P : Type 0} (r : Result T Stopped) → OnOk r P → (o : Option Stopped) → o ≡ result_err r → o ≡ None → P
while_going (Ok t) p o is none = p
while_going (Err why) p o is none = absurd (let clash : Some why ≡ None = sym is ∙ none in cc clash)

module _ {D : Type 0} (disks : Ghosts D)
    (x : ℕ) (old new : Parts D) (k : IsSteady disks old) where
  orderly_after : (r : Result Bool Stopped) → OnOk r (IsSteady disks new) → Fails disks x r old new → IsOrderly (books new.store).held new.cells
  orderly_after (Ok b) steady fails = steady.sound.matches.orderly
  orderly_after (Err (reason.NoBlocks n)) steady fails = subst (λ (p : Parts D). IsOrderly (books p.store).held p.cells) (sym (fails.untouched n refl)) k.sound.matches.orderly
  orderly_after (Err reason.ReadFault) steady fails = absurd (fails.no_read refl)
  orderly_after (Err reason.WriteFault) steady fails = tried_orderly disks x old new k.sound.matches.orderly (fails.tried refl)

  pub kept_after : (r : Result Bool Stopped) → OnOk r (IsSteady disks new) → Fails disks x r old new → (o : Option Stopped) → o ≡ result_err r → IsKept disks (record { parts = new; stop = o })
  kept_after r steady fails o is = record { orderly = orderly_after r steady fails; steady = while_going r steady o is }

  -- IN A RUN

  abbrev IsLiving : Beginning → Parts D → Option Stopped → Type 0
  IsLiving b p o = Lives disks b (record { parts = p; stop = o })

  pub runs_free : (b : Beginning) (policy : Policy) → b.policy ≡ policy → IsLiving b old None → RunsFree disks b policy old
  runs_free b policy same lives =
      let calm = lives.live.calm refl in
      record {
        same_policy = same;
        stands = record { runs = lives.live.running; orderly = k.sound.matches.orderly; clean = lives.clean refl };
        owes_nothing = calm.nothing_owed;
        untried = calm.not_tried;
      }

  first : (a b : Bool) → (a && b) ≡ true → a ≡ true
  first true b is = refl
  first false b is = is

  second : (a b : Bool) → (a && b) ≡ true → b ≡ true
  second true b is = is
  second false b is = absurd (cc is)

  module _ (b : Beginning) (calm : IsCalm b old.noted.entries) where
    abbrev r0 : Run
    r0 = run_of b old.noted.entries

    abbrev e : Entry
    e = mark Snap x (version_of r0 x)

    calm_next : wants_in b.policy r0 x ≡ true → IsCalm b (old.noted.entries ++ e ∷ [])
    calm_next is = record {
      births_made = ap (births_owed b.script) next ∙ calm.births_made;
      nothing_owed = ap (λ (q : Run). q.owed) next ∙ calm.nothing_owed;
      not_tried = ap (λ (q : Run). q.tried) next ∙ calm.not_tried;
      nothing_due = λ y. ap (λ (q : Run). is_due b.policy q y) next
          ∙ due_stays b.supply b.policy b.script r0 e y
          (calm.not_tried, (refl, inl (first (has_wish b.policy r0 x) (not (is_full r0 x)) is, second (has_wish b.policy r0 x) (not (is_full r0 x)) is, calm.nothing_owed)))
          refl (calm.nothing_due y);
    }
      where
        next : run_of b (old.noted.entries ++ e ∷ []) ≡ goes_on b.supply b.script r0 e
        next = run_next b old.noted.entries e

    abbrev pub snap_by : Bool → List Entry
    snap_by t = if t then e ∷ [] else []

    pub calm_after : (t : Bool) → wants_in b.policy r0 x ≡ t → (es : List Entry) → es ≡ old.noted.entries ++ snap_by t → IsCalm b es
    calm_after true is es entries = subst (IsCalm b) (sym entries) (calm_next is)
    calm_after false is es entries = subst (IsCalm b) (sym (entries ∙ append-nil old.noted.entries)) calm

  pub lives_after : (b : Beginning) (policy : Policy) → b.policy ≡ policy → IsLiving b old None → (r : Result Bool Stopped) → SnapsOne disks b policy x r old new
      → (o : Option Stopped) → o ≡ result_err r → IsLiving b new o
  lives_after b policy same lives (Err why) s o is = subst (IsLiving b new) (sym is) (record { live = s.lives; clean = λ none. absurd (cc none) })
  lives_after b policy same lives (Ok t) s o is = subst (IsLiving b new) (sym is) (record {
    live = record { running = s.runs.stands.runs; calm = λ _. calm_after b (lives.live.calm refl) (wants_in b.policy (run_of b old.noted.entries) x) refl new.noted.entries entries };
    clean = λ _. s.runs.stands.clean;
  })
    where
      entries : new.noted.entries ≡ old.noted.entries ++ snap_by b (lives.live.calm refl) (wants_in b.policy (run_of b old.noted.entries) x)
      entries = s.entries ∙ ap (λ (q : Policy). old.noted.entries ++ Rattle.kernel_commits.specs.model_serial.Serial.wished_snap q (run_of b old.noted.entries) x) (sym same)
