-- One look at a locus takes a run on: nothing where it can't step; its step with the Snaps that are wished behind it, or with the Stable that it owes.
use Rattle.std.proofs.Common.{◌≡◌, ℕ, Bool, true, false, ◌&&◌, if◌then◌else◌, List, [], ◌∷◌, ◌++◌, Option, Some, None, Ok, Err, refl, sym, ap, subst, ◌∙◌}
use Rattle.std.specs.Prelude.{OnOk, Result, ⊤}
use Rattle.std.proofs.lemmas.List.{append-nil, append_assoc}
use Rattle.edge_disk.specs.declared.disk.Disk.{Ghosts}
use Rattle.edge_disk.specs.declared.disk.NoBlocks.{NoBlocks}
use Rattle.base_types.specs.declared.histories.Answer.TheVariants.{Reply as Replied}
use Rattle.base_types.specs.declared.histories.Entry.{Entry}
use Rattle.base_types.specs.declared.instructions.Instr.{Instr}
use Rattle.base_types.specs.declared.instructions.Reply.TheVariants.{Ok as AnsweredOk}
use Rattle.table_births.specs.table_steps.Wanting.{HasNext}
use Rattle.base_types.specs.declared.histories.Event.TheVariants.{Stable}
use Rattle.table_births.specs.model_kernel.Histories.{Policy, Run, births_owed, goes_on, is_due, locus_in, mark, owed_by, stabilises, start_run}
use Rattle.table_births.specs.model_kernel.Serial.{can_step}
use Rattle.table_births.specs.model_kernel.State.{KernelState}
use Rattle.table_births.proofs.model_sound_runs_lemmas.Naming.{births_over}
use Rattle.table_births.specs.table_laws.Tables.{state_in}
use Rattle.kernel_commits.specs.kernel_record_facts.Cells.{words_on}
use Rattle.kernel_commits.specs.store_facts.State.{books}
use Rattle.kernel_commits.specs.kernel_views.Views.{FollowsRun}
use Rattle.kernel_commits.proofs.kernel_views_lemmas.Following.{cells_follow}
use Rattle.kernel_commits.proofs.kernel_views_lemmas.Legal.{run_next}
use Rattle.kernel_commits.specs.kernel_invariant.Beginnings.{Beginning, IsLegal, run_of}
use Rattle.kernel_commits.specs.kernel_invariant.Live.{IsCalm}
use Rattle.kernel_commits.specs.model_serial.Serial.{IsBehind, IsCalm as IsQuiet, kept_behind, look, wished_snaps, written_in}
use Rattle.kernel_commits.specs.model_serial_turns.Turns.{IsStoppedIn}
use Rattle.kernel_commits.proofs.model_serial_turns_lemmas.Looks.{look_behind, look_idle, look_made}
use Rattle.kernel_commits.proofs.model_serial_turns_lemmas.Stops.{stopped_behind}
use Rattle.kernel_commits.proofs.kernel_commit_facts_lemmas.Dues.{lacks_behind}
use Rattle.kernel_commits.proofs.Parting.{none_came}
use Rattle.kernel_commits.specs.kernel_commit_facts.Lacking.{LacksIn}
use Rattle.kernel_commits.specs.kernel_commit_facts.Parts.{LivesAs, Noted, Parts, StandsAs}
use Rattle.kernel_commits.specs.kernel_commit_facts.Pieces.{StopsIn}
use Rattle.kernel_core_facts.specs.Looking.{LooksInRun}
use Rattle.kernel_commits.specs.kernel_commit_facts.Snapping.{RunsFree}
use Rattle.kernel_commits.specs.Snapping.{SnapsAll}
use Rattle.kernel_commits.specs.kernel_commit_facts.Stabilising.{HasStabilised, OwesStable}
use Rattle.kernel_commits.specs.Stabilising.{Stabilises}
use Rattle.kernel_core_facts.specs.Stepping.{HasStepped, StepsInRun, is_ok}
use Rattle.kernel_commits.specs.kernel_invariant.declared.stopping.Stopped.{Stopped}
use Rattle.kernel_core_facts.proofs.StableOwed.{owed_next, owes_by}

module _ {D : Type 0} (disks : Ghosts D)
    (b : Beginning) (policy : Policy) (same : b.policy ≡ policy) (me : ℕ) (old : Parts D)
    (stands : StandsAs disks b old) (calm : IsCalm b old.noted.entries) where
  abbrev looked : List Entry
  looked = look b.supply policy b.script (run_of b old.noted.entries) me

  -- the look by the run's own policy, which is this one
  abbrev StopsInLook : List Entry → Type 0
  StopsInLook new = StopsIn b (look b.supply b.policy b.script (run_of b old.noted.entries) me) old.noted.entries new

  own_look : (new : List Entry) → StopsIn b looked old.noted.entries new → StopsInLook new
  own_look new stop = subst (λ (q : Policy). StopsIn b (look b.supply q b.script (run_of b old.noted.entries) me) old.noted.entries new) (sym same) stop

  -- births stay made
  born : (new : Parts D) → StandsAs disks b new → new.noted.entries ≡ old.noted.entries ++ looked → births_owed b.script (run_of b new.noted.entries) ≡ false
  born new on is = subst (λ (es : List Entry). births_owed b.script (run_of b es) ≡ false) (sym is)
      (births_over b.supply b.policy b.script stands.runs.begins.script b.state old.noted.entries looked stands.runs.begins.names stands.runs.begins.sound.sound
      (subst (IsLegal b) is on.runs.legal) calm.births_made)

  -- WHERE IT IS IDLE
  pub look_still : can_step b.script (run_of b old.noted.entries) me ≡ false → {T : Type 0} → (r : Result T Stopped) → (y : T) → r ≡ Ok y → LooksInRun disks b policy me r old old
  look_still idle r y ok = subst (λ q. LooksInRun disks b policy me q old old) (sym ok) (record {
    stands = stands;
    calm = calm;
    entries = sym (ap (λ es. old.noted.entries ++ es) (look_idle b.supply policy b.script (run_of b old.noted.entries) me idle) ∙ append-nil old.noted.entries);
    lives = tt;
  })

  -- BEHIND ITS STEP
  module _ (mid : Parts D) (e : Entry) (h : HasStepped disks me old mid e) (k : StepsInRun disks b me e old mid) where
    owed_of : (o : Option ℕ) → (run_of b mid.noted.entries).owed ≡ o → (run_of b (old.noted.entries ++ e ∷ [])).owed ≡ o
    owed_of o is = ap (λ (es : List Entry). (run_of b es).owed) (sym h.entries) ∙ is

    -- what it owes, by the instruction that was carried out
    abbrev words : ℕ → List ℕ
    words = words_on (disks.reading old.store.disk)

    follow : FollowsRun b words old.cells old.noted.entries
    follow = cells_follow b old.noted.entries (disks.reading old.store.disk) old.cells stands.orderly.numbers (books old.store) old.noted.marks None stands.runs.follows

    pub owes_is : (i : Instr) → HasNext me old.cells i
        → (run_of b mid.noted.entries).owed ≡ (if stabilises (Replied AnsweredOk) i && is_ok e.answer then Some me else None)
    owes_is i next =
        ap (λ (es : List Entry). (run_of b es).owed) h.entries
        ∙ (ap (λ (q : Run). q.owed) (run_next b old.noted.entries e)
        ∙ (owed_next b.supply b.script (run_of b old.noted.entries) e h.enters.event
        ∙ (ap (λ x. owed_by x e.answer (locus_in ((run_of b old.noted.entries).state x).cell)) h.enters.actor
        ∙ (ap (λ (w : KernelState). owed_by me e.answer (locus_in (w me).cell)) (sym follow.state)
        ∙ owes_by me e.answer (locus_in (state_in b.supply words old.cells me).cell) (stabilises (Replied AnsweredOk) i)
        (ap (owed_by me (Replied AnsweredOk)) (next.is b.supply words) ∙ ap (λ (j : Instr). if stabilises (Replied AnsweredOk) j then Some me else None) (sym next.instr))))))

    -- the Snaps are to be made from there
    pub free_behind : (run_of b mid.noted.entries).owed ≡ None → RunsFree disks b policy mid
    free_behind owes = record { same_policy = same; stands = k.stands; owes_nothing = owes; untried = k.behind.tried }

    behind : IsBehind policy (run_of b mid.noted.entries) (written_in e.touched)
    behind = subst (λ (q : Policy). IsBehind q (run_of b mid.noted.entries) (written_in e.touched)) same k.behind

    pub look_snaps : (run_of b mid.noted.entries).owed ≡ None → {T : Type 0} → (r : Result T Stopped) → (new : Parts D)
        → SnapsAll disks b policy (written_in e.touched) r mid new → LooksInRun disks b policy me r old new
    look_snaps owes (Err why) new snaps = record { stands = tt; calm = tt; entries = tt; lives = snaps.lives }
    look_snaps owes (Ok y) new snaps =
        let is : new.noted.entries ≡ old.noted.entries ++ looked =
        snaps.entries
        ∙ (ap (λ (es : List Entry). es ++ wished_snaps b.supply policy b.script (run_of b es) (written_in e.touched)) h.entries
        ∙ look_behind b.supply policy b.script (start_run b.state) old.noted.entries me e k.state None k.can k.is (owed_of None owes)) in
        let over = snaps.calm behind in
        record {
          stands = snaps.runs.stands;
          calm = record {
            births_made = born new snaps.runs.stands is;
            nothing_owed = snaps.runs.owes_nothing;
            not_tried = snaps.runs.untried;
            nothing_due = λ x. subst (λ (q : Policy). is_due q (run_of b new.noted.entries) x ≡ false) (sym same) (over.due x refl);
          };
          entries = is;
          lives = tt;
        }

    -- or its Stable, with which the run is at rest
    pub look_stable : (actor : ℕ) → (run_of b mid.noted.entries).owed ≡ Some actor → (r : Result ⊤ Stopped) → (new : Parts D)
        → OnOk r (new.noted.entries ≡ mid.noted.entries ++ mark Stable actor 0 ∷ []) → OnOk r (StandsAs disks b new) → OnOk r (IsQuiet b.policy (run_of b new.noted.entries))
        → Rattle.std.specs.Prelude.IfErr r (λ why. LivesAs disks b new (Some why))
        → LooksInRun disks b policy me r old new
    look_stable actor owes (Err why) new entries on quiet lives = record { stands = tt; calm = tt; entries = tt; lives = lives }
    look_stable actor owes (Ok y) new entries on quiet lives =
        let is : new.noted.entries ≡ old.noted.entries ++ looked =
        entries
        ∙ (ap (λ (es : List Entry). es ++ mark Stable actor 0 ∷ []) h.entries
        ∙ look_behind b.supply policy b.script (start_run b.state) old.noted.entries me e k.state (Some actor) k.can k.is (owed_of (Some actor) owes)) in
        record {
          stands = on;
          calm = record { births_made = born new on is; nothing_owed = quiet.owed; not_tried = quiet.tried; nothing_due = quiet.due };
          entries = is;
          lives = tt;
        }

    -- the Stable is owed from there
    owes_behind : (run_of b mid.noted.entries).owed ≡ Some e.actor → OwesStable disks b e.actor mid
    owes_behind owed = record { stands = k.stands; owed = owed; whole = k.behind.short; untried = k.behind.tried }

    -- the one or the other, as the step's answer has it
    pub owes_then : (owes : Bool) → (run_of b mid.noted.entries).owed ≡ (if owes then Some me else None) → owes ≡ true → OwesStable disks b e.actor mid
    owes_then true is _ = owes_behind (is ∙ ap (λ x. Some x) (sym h.enters.actor))
    owes_then false is owes = absurd (cc owes)

    pub free_then : (owes : Bool) → (run_of b mid.noted.entries).owed ≡ (if owes then Some me else None) → owes ≡ false → RunsFree disks b policy mid
    free_then true is free = absurd (cc free)
    free_then false is _ = free_behind is

    stable_entries : (r : Result ⊤ Stopped) (new : Parts D) → OnOk r (HasStabilised e.actor mid new) → OnOk r (new.noted.entries ≡ mid.noted.entries ++ mark Stable e.actor 0 ∷ [])
    stable_entries (Ok y) new made = made.entries
    stable_entries (Err why) new made = tt

    -- whichever it owes
    pub look_behind_step : (owes : Bool) → (run_of b mid.noted.entries).owed ≡ (if owes then Some me else None) → (r : Result ⊤ Stopped) (new : Parts D)
        → (owes ≡ true → OnOk r (HasStabilised e.actor mid new))
        → (owes ≡ true → OwesStable disks b e.actor mid → Stabilises disks b r new)
        → (owes ≡ false → RunsFree disks b policy mid → SnapsAll disks b policy (written_in e.touched) r mid new)
        → LooksInRun disks b policy me r old new
    look_behind_step true is r new made stable snaps =
        let owed : (run_of b mid.noted.entries).owed ≡ Some e.actor = is ∙ ap (λ x. Some x) (sym h.enters.actor) in
        let st = stable refl (owes_behind owed) in
        look_stable e.actor owed r new (stable_entries r new (made refl)) st.stands st.calm st.lives
    look_behind_step false is r new made stable snaps = look_snaps is r new (snaps refl (free_behind is))

    -- WHERE IT STOPPED BEHIND ITS STEP: the step came, and a part of what comes behind it
    mid_next : run_of b mid.noted.entries ≡ goes_on b.supply b.script (run_of b old.noted.entries) e
    mid_next = ap (run_of b) h.entries ∙ run_next b old.noted.entries e

    abbrev kept : Run → Option ℕ → List Entry
    kept r o = kept_behind b.supply policy b.script r (written_in e.touched) o

    part_from : (o : Option ℕ) → (run_of b mid.noted.entries).owed ≡ o → (new : List Entry) → StopsIn b (kept (run_of b mid.noted.entries) o) mid.noted.entries new → StopsIn b looked old.noted.entries new
    part_from o owed new stop =
        let r0 : Run = run_of b old.noted.entries in
        let r1 : Run = goes_on b.supply b.script r0 e in
        record {
          part = e ∷ stop.part;
          entries = stop.entries ∙ ap (λ es. es ++ stop.part) h.entries ∙ append_assoc old.noted.entries (e ∷ []) stop.part;
          is = stopped_behind b.supply b.script r0 looked (e ∷ []) (kept r1 o) stop.part
              (sym (look_made b.supply policy b.script r0 me e k.state o k.can k.is (sym (ap (λ (q : Run). q.owed) mid_next) ∙ owed)))
              (subst (λ (q : Run). IsStoppedIn b.supply b.script q (kept q o) stop.part) mid_next stop.is);
        }

    pub part_behind_step : (owes : Bool) → (run_of b mid.noted.entries).owed ≡ (if owes then Some me else None) → (new : List Entry)
        → (owes ≡ true → OwesStable disks b e.actor mid → StopsIn b (mark Stable e.actor 0 ∷ []) mid.noted.entries new)
        → (owes ≡ false → RunsFree disks b policy mid
        → StopsIn b (wished_snaps b.supply policy b.script (run_of b mid.noted.entries) (written_in e.touched)) mid.noted.entries new)
        → StopsInLook new
    part_behind_step true is new stable snaps =
        let owed : (run_of b mid.noted.entries).owed ≡ Some e.actor = is ∙ ap (λ x. Some x) (sym h.enters.actor) in
        own_look new (part_from (Some e.actor) owed new (stable refl (owes_behind owed)))
    part_behind_step false is new stable snaps = own_look new (part_from None is new (snaps refl (free_behind is)))

    -- where blocks were wanting behind the step, the next of what comes behind it was due
    pub lacks_behind_step : (owes : Bool) → (run_of b mid.noted.entries).owed ≡ (if owes then Some me else None) → (new : Parts D)
        → (n : NoBlocks) → LacksIn disks b n (kept (run_of b mid.noted.entries) (if owes then Some e.actor else None)) mid.noted.entries new
        → LacksIn disks b n (look b.supply b.policy b.script (run_of b old.noted.entries) me) old.noted.entries new
    lacks_behind_step owes is new n lacks =
        let r0 : Run = run_of b old.noted.entries in
        let r1 : Run = goes_on b.supply b.script r0 e in
        let o : Option ℕ = if owes then Some e.actor else None in
        let owed : (run_of b mid.noted.entries).owed ≡ o = is ∙ ap (λ x. if owes then Some x else None) (sym h.enters.actor) in
        let whole : e ∷ (kept (run_of b mid.noted.entries) o ++ []) ≡ looked =
        ap (λ es. e ∷ es) (append-nil (kept (run_of b mid.noted.entries) o))
        ∙ (ap (λ (q : Run). e ∷ kept q o) mid_next ∙ sym (look_made b.supply policy b.script r0 me e k.state o k.can k.is (sym (ap (λ (q : Run). q.owed) mid_next) ∙ owed))) in
        subst (λ (q : Policy). LacksIn disks b n (look b.supply q b.script r0 me) old.noted.entries new) (sym same)
        (lacks_behind disks b n looked (e ∷ []) (kept (run_of b mid.noted.entries) o) [] old.noted.entries mid.noted.entries new whole h.entries lacks)

  -- where it stopped at its step, nothing came
  pub part_at_step : (new : Parts D) → new.noted ≡ old.noted → StopsInLook new.noted.entries
  part_at_step new as_before = own_look new.noted.entries (none_came b looked old.noted.entries new.noted.entries (ap (λ (n : Noted). n.entries) as_before))
