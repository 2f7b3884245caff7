-- The desk behind a look.
use Rattle.std.proofs.Common.{◌≡◌, ℕ, ◌+◌, ◌-◌, List, [], ◌∷◌, ◌++◌, length, take, Option, Some, None, Ok, Err, slice_get, slice_set, refl, sym, ap, subst, ◌∙◌, arith}
use Rattle.std.specs.Prelude.{Result, IfSome}
use Rattle.std.specs.Result.{result_err}
use Rattle.std.proofs.lemmas.List.{append-nil, append_assoc}
use Rattle.std.proofs.Math.Seq.{take-append_seam}
use Rattle.edge_disk.specs.declared.disk.Disk.{Ghosts}
use Rattle.base_types.specs.declared.histories.Entry.{Entry}
use Rattle.thread_looks.specs.kernel_core_facts.cell_plans.Plans.{idle_of}
use Rattle.thread_looks.specs.kernel_core_facts.cell_plans.declared.idle.Idle.{Idle as AnIdle}
use Rattle.thread_looks.specs.kernel_core_facts.cell_states.declared.cells.Cell.{Cell}
use Rattle.thread_looks.specs.kernel_core_facts.kernel_commit_facts.Parts.{Noted, Parts, StandsAs, parts_of}
use Rattle.thread_looks.specs.kernel_core_facts.kernel_commit_facts.Steady.{IsSteady}
use Rattle.thread_looks.specs.kernel_core_facts.kernel_invariant.Beginnings.{Beginning, run_of, state_after}
use Rattle.thread_looks.specs.kernel_core_facts.kernel_invariant.Live.{IsCalm}
use Rattle.thread_looks.specs.kernel_core_facts.kernel_invariant.declared.stopping.Stopped.{Stopped}
use Rattle.thread_looks.specs.kernel_core_facts.kernel_record_facts.Cells.{words_on}
use Rattle.thread_looks.specs.kernel_core_facts.kernel_views.Views.{left_at}
use Rattle.thread_looks.specs.kernel_core_facts.model_serial.Serial.{look}
use Rattle.thread_looks.specs.kernel_core_facts.store_facts.State.{State}
use Rattle.thread_looks.specs.kernel_core_facts.table_births.model_kernel.Histories.{Policy}
use Rattle.thread_looks.specs.kernel_core_facts.table_births.model_kernel.State.{KernelState, Supply}
use Rattle.thread_looks.specs.kernel_core_facts.table_laws.Tables.{AreClean, left_of}
use Rattle.thread_looks.specs.kernel_core_facts.declared.looked.Looked.{Looked}
use Rattle.thread_looks.specs.kernel_core_facts.declared.looked.Looked.TheVariants.{Idle, Made}
use Rattle.thread_looks.specs.kernel_core_facts.Kernels.{IsKept, Lives, StaysClean}
use Rattle.thread_looks.proofs.kernel_core_facts_lemmas.Kept.{runs_free}
use Rattle.thread_looks.proofs.kernel_core_facts_lemmas.model_serial_turns_lemmas.Whereabouts.{looked_more}
use Rattle.thread_desk.specs.kernel_core.Parts.{held_of}
use Rattle.thread_desk.proofs.kernel_core_lemmas.LookKept.{look_entries, look_kept, look_lives}
use Rattle.thread_looks.specs.Looking.{LooksAsSerial, stop_in}
use Rattle.thread_desk.specs.Alongs.{IsAlong, LooksAt}
use Rattle.thread_desk.specs.Alongs.ComesNext.{Look}
use Rattle.thread_desk.specs.Desks.{Terms, IsCountedFrom, IsDesk, IsKernel, knowing}
use Rattle.thread_desk.specs.Sights.{AreKnown}
use Rattle.thread_desk.proofs.Hearing.{known_cells, put_store, same_desk, with_store}
use Rattle.thread_desk_looks.specs.Items.{IsTrueOf}
use Rattle.thread_desk_looks.proofs.Counted.{counted_after, err_look}
use Rattle.thread_desk_looks.proofs.Items.{at_seam, put_there}

-- while nothing has stopped it, over the store that a till has
pub going : {D : Type 0} (disks : Ghosts D) (b : Beginning) (terms : Terms) (kept : List Entry) (ss : List (State D)) (cs : List Cell) (n : Noted) (es : List Entry) (stop : Option Stopped) (number : ℕ) (value : Option (State D)) (st : State D)
    → number ≡ 0 → value ≡ Some st → slice_get ss number ≡ value → stop ≡ None → IsDesk disks b terms kept (knowing ss cs n es stop) → IsKernel disks b terms kept (knowing ss cs n es None) st
going disks b terms kept ss cs n es stop number value st zero is agreed none k =
    subst (λ o. IsKernel disks b terms kept (knowing ss cs n es o) st) none (with_store disks b terms kept ss cs n es stop number value st zero is agreed k)

module _ {D : Type 0} (disks : Ghosts D) (b : Beginning) (terms : Terms) (kept : List Entry) (supply : Supply) (policy : Policy) (same_supply : b.supply ≡ supply) (same_policy : b.policy ≡ policy)
    (me : ℕ) (ss : List (State D)) (cs : List Cell) (n : Noted) (es : List Entry) (st : State D) (k : IsKernel disks b terms kept (knowing ss cs n es None) st) where
  abbrev old : Parts D
  old = parts_of st cs n

  -- WHAT A LOOK ASKS OF THE DESK
  pub goes_steady : IsSteady disks old
  goes_steady = k.is_kept.steady refl

  pub goes_clean : disks.tells → AreClean supply (words_on (disks.reading st.disk)) cs
  goes_clean told = subst (λ s. AreClean s (words_on (disks.reading st.disk)) cs) same_supply (k.clean told refl)

  stands : terms.told → StandsAs disks b old
  stands told = (runs_free disks me old old goes_steady b policy same_policy (k.lives told)).stands

  calm : terms.told → IsCalm b n.entries
  calm told = (k.lives told).live.calm refl

  -- WHAT IT LEAVES
  module _ (st' : State D) (cs' : List Cell) (n' : Noted) where
    abbrev new : Parts D
    new = parts_of st' cs' n'

    abbrev Came : Result Looked Stopped → Type 0
    Came r = LooksAsSerial disks supply policy me old new r

    clean_after : (r : Result Looked Stopped) → Came r → StaysClean disks b.supply (held_of st' cs' n' (result_err r))
    clean_after (Ok o) s told none = subst (λ z. AreClean z (words_on (disks.reading st'.disk)) cs') (sym same_supply) (s.clean told)
    clean_after (Err why) s told none = absurd (cc none)

    along_after : (r : Result Looked Stopped) → Came r → terms.told → IsAlong disks b (held_of st' cs' n' (result_err r))
    along_after (Ok o) s told =
        let before = (k.along told).looks refl in
        let run = s.run (k.tells told) b same_supply same_policy (stands told) (calm told) in
        record {
          looks = λ none. (
            before.0 ++ me ∷ [],
            subst (LooksAt b (before.0 ++ me ∷ [])) (sym (look_entries disks me old new b policy same_policy (Ok o) run))
                (looked_more b.supply b.policy b.script b.state before.0 n.entries me before.1),
          );
          stopped = λ why is. absurd (cc is);
        }
    along_after (Err why) s told =
        let before = (k.along told).looks refl in
        record {
          looks = λ none. absurd (cc none);
          stopped = λ w is. record {
            front = n.entries;
            all = look b.supply b.policy b.script (run_of b n.entries) me;
            next = Look before.0 me before.1 refl;
            part = s.part (k.tells told) b same_supply same_policy (stands told) (calm told);
            enough = λ m same. s.enough (k.tells told) b same_supply same_policy (stands told) (calm told) m (let e : why ≡ w = cc is in ap err_look (e ∙ same));
          };
        }

    module _ (xs : List (State D)) (es' : List Entry) (entries : n'.entries ≡ kept ++ es') where
      kernel_after : (r : Result Looked Stopped) → Came r → IsKernel disks b terms kept (knowing xs cs' n' es' (result_err r)) st'
      kernel_after r s = record {
        is_kept = look_kept disks me old new policy r s.steady s.stopped.stopped (result_err r) refl;
        counted = counted_after disks terms.counts supply policy me old new k.counted r s;
        clean = clean_after r s;
        tells = k.tells;
        lives = λ told. look_lives disks me old new b policy r (s.run (k.tells told) b same_supply same_policy (stands told) (calm told)) (result_err r) refl;
        along = along_after r s;
        entries = entries;
      }

      -- the kernel that the desk knows is one again
      pub desk_after : (came : Option (Result Looked Stopped)) → IfSome came Came → (came ≡ None → (new ≡ old) × (es' ≡ es)) → IsKernel disks b terms kept (knowing xs cs' n' es' (stop_in came)) st'
      desk_after (Some (Ok o)) s undone = kernel_after (Ok o) s
      desk_after (Some (Err why)) s undone = kernel_after (Err why) s
      desk_after None s undone =
          let same = sym (undone refl).0 in
          record {
            is_kept = subst (λ (p : Parts D). IsKept disks (record { parts = p; stop = None })) same k.is_kept;
            counted = subst (λ (p : Parts D). IsCountedFrom disks terms.counts (record { parts = p; stop = None })) same k.counted;
            clean = subst (λ (p : Parts D). StaysClean disks b.supply (record { parts = p; stop = None })) same k.clean;
            tells = k.tells;
            lives = λ told. subst (λ (p : Parts D). Lives disks b (record { parts = p; stop = None })) same (k.lives told);
            along = λ told. subst (λ (p : Parts D). IsAlong disks b (record { parts = p; stop = None })) same (k.along told);
            entries = entries;
          }

      -- and its cells are what the whole history makes
      pub known_after : (came : Option (Result Looked Stopped)) → IfSome came Came → (came ≡ None → (new ≡ old) × (es' ≡ es)) → AreKnown disks terms.told b kept st' cs' es'
      known_after came s undone = known_cells disks b terms kept xs cs' n' es' (stop_in came) st' (desk_after came s undone)

    -- WHAT IS TOLD IS TRUE
    left_is : (c : Cell) → slice_get cs me ≡ Some c → terms.told → left_of (slice_get cs me) ≡ b.script.steps - (run_of b n.entries).steps me
    left_is c at told =
        let left = (k.lives told).live.running.follows.left me in
        let here : left_at b.script.steps (slice_get cs me) ≡ c.left = ap (left_at b.script.steps) at in
        let sum : c.left + (run_of b n.entries).steps me ≡ b.script.steps = ap (λ l. l + (run_of b n.entries).steps me) (sym here) ∙ left in
        ap left_of at ∙ omega (arith, sum)

    idle_is : (c : Cell) → slice_get cs me ≡ Some c → (why : AnIdle) → Came (Ok (Idle why)) → terms.told
        → idle_of (b.script.steps - (run_of b n.entries).steps me) (state_after b n.entries me).cell ≡ Some why
    idle_is c at why s told =
        let words = words_on (disks.reading st.disk) in
        ap (λ l. idle_of l (state_after b n.entries me).cell) (sym (left_is c at told))
        ∙ ap (λ (w : KernelState). idle_of (left_of (slice_get cs me)) (w me).cell) (sym (k.lives told).live.running.follows.state)
        ∙ (s.idle b.supply words why).1 refl

    true_after : (c : Cell) → slice_get cs' me ≡ Some c → (r : Result Looked Stopped) → Came r → IsTrueOf terms.told b me (length n.entries) n'.entries r
    true_after c at (Ok (Made m)) s = record {
      at = ap (λ fs. slice_get fs (length n.entries)) (s.made.behind.entries ∙ (ap (λ fs. fs ++ s.made.behind.part) s.made.stepped.entries ∙ append_assoc n.entries (m.entry ∷ []) s.made.behind.part))
          ∙ at_seam n.entries m.entry s.made.behind.part;
      event = s.made.stepped.enters.event;
      actor = s.made.stepped.enters.actor;
    }
    true_after c at (Ok (Idle why)) s =
        let same : n'.entries ≡ n.entries = ap (λ (p : Parts D). p.noted.entries) (s.still why refl) in
        let here : slice_get cs me ≡ Some c = ap (λ (p : Parts D). slice_get p.cells me) (sym (s.still why refl)) ∙ at in
        let all : take (length n.entries) n'.entries ≡ n.entries = ap (take (length n.entries)) (same ∙ sym (append-nil n.entries)) ∙ take-append_seam n.entries [] in (
          let len : length n'.entries ≡ length n.entries = ap length same in omega (arith, len),
          λ told. subst (λ fs. idle_of (b.script.steps - (run_of b fs).steps me) (state_after b fs me).cell ≡ Some why) (sym all) (idle_is c here why s told),
        )
    true_after c at (Err why) s = tt

    pub item_after : (c : Cell) → slice_get cs' me ≡ Some c → (came : Option (Result Looked Stopped)) → IfSome came Came → IfSome came (IsTrueOf terms.told b me (length n.entries) n'.entries)
    item_after c at (Some r) s = true_after c at r s
    item_after c at None s = tt

-- where nothing was done the desk knows what it knew
pub desk_still : {D : Type 0} (ss ts xs : List (State D)) (number : ℕ) (was now : State D) (cs mid ys : List Cell) (n m : Noted) (es told fs : List Entry) (stop o : Option Stopped)
    → xs ≡ slice_set ts number now → ts ≡ ss → number ≡ 0 → slice_get ss 0 ≡ Some was → ys ≡ mid → fs ≡ told → o ≡ stop → parts_of now mid m ≡ parts_of was cs n → told ≡ es
    → (knowing xs ys m fs o ≡ knowing ss cs n es stop) × (now ≡ was)
desk_still {D} ss ts xs number was now cs mid ys n m es told fs stop o put same zero at cells history stops parts still =
    let store : now ≡ was = ap (λ (p : Parts D). p.store) parts in
    let stores : xs ≡ ss = put ∙ (ap (λ l. slice_set l number now) same ∙ (ap (λ i. slice_set ss i now) zero ∙ (ap (slice_set ss 0) store ∙ put_there ss 0 was at))) in (
      ap (λ l. knowing l ys m fs o) stores
          ∙ (ap (λ l. knowing ss l m fs o) (cells ∙ ap (λ (p : Parts D). p.cells) parts)
          ∙ (ap (λ l. knowing ss cs l fs o) (ap (λ (p : Parts D). p.noted) parts)
          ∙ (ap (λ l. knowing ss cs n l o) (history ∙ still)
          ∙ ap (knowing ss cs n es) stops))),
      store,
    )

-- THE DESK behind a look: the lists that it has are those that the look left, and the store is put back
pub desk_behind : {D : Type 0} (disks : Ghosts D) (b : Beginning) (terms : Terms) (kept : List Entry) (ss ts xs : List (State D)) (number : ℕ) (was now : State D) (cs ys : List Cell) (n : Noted) (es fs : List Entry) (stop o : Option Stopped)
    → xs ≡ slice_set ts number now → ts ≡ ss → number ≡ 0 → slice_get ss 0 ≡ Some was → ys ≡ cs → fs ≡ es → o ≡ stop
    → IsKernel disks b terms kept (knowing xs cs n es stop) now → IsDesk disks b terms kept (knowing xs ys n fs o)
desk_behind disks b terms kept ss ts xs number was now cs ys n es fs stop o put same zero at cells told stops k =
    subst (λ p. IsDesk disks b terms kept (knowing xs ys n fs p)) (sym stops)
    (same_desk disks b terms kept xs xs cs ys n es fs stop refl cells told
    (λ z found. subst (λ y. IsKernel disks b terms kept (knowing xs cs n es stop) y) (sym (put_store ss ts xs number was now z put same zero at found)) k))
