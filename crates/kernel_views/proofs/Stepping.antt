-- A step over the cells takes a kernel on.
use Rattle.std.proofs.Common.{◌≡◌, ℕ, ◌+◌, ◌<◌, cond, List, [], ◌∷◌, ◌++◌, count_by, Some, None, refl, sym, ap, subst, ◌∙◌, arith}
use Rattle.edge_disk.specs.declared.disk.Disk.{Ghosts}
use Rattle.base_types.specs.declared.histories.Entry.{Entry}
use Rattle.base_types.specs.declared.histories.Event.{Event}
use Rattle.base_types.specs.declared.histories.Event.TheVariants.{Step}
use Rattle.kernel_records.specs.model_kernel.Histories.{May, Run, goes_on, start_run}
use Rattle.kernel_records.specs.model_kernel.Steps.{step}
use Rattle.kernel_laws.specs.kernel_invariant.Marks.{is_completing, is_step}
use Rattle.model_serial.specs.Serial.{IsCalm as IsQuiet}
use Rattle.model_serial.proofs.Calm.{step_entry, step_may}
use Rattle.kernel_records.specs.store_facts.State.{State, books}
use Rattle.kernel_records.specs.cell_states.declared.cells.Cell.{Cell}
use Rattle.kernel_records.specs.cell_states.Wishes.{HasWish}
use Rattle.table_laws.specs.Tables.{AreClean, state_in, tables_in}
use Rattle.kernel_records.specs.kernel_record_facts.Cells.{words_on}
use Rattle.kernel_laws.specs.store_books.Owning.{AreOwned}
use Rattle.kernel_laws.specs.kernel_invariant.Beginnings.{Beginning, IsLegal, run_of}
use Rattle.kernel_laws.specs.kernel_invariant.Live.{HoldsCommits, IsCalm}
use Rattle.kernel_laws.specs.Going.{MadeEvent}
use Rattle.kernel_records.proofs.kernel_block_laws_lemmas.Enough.{calm_whole}
use Rattle.kernel_records.proofs.cell_wish_laws_lemmas.Going.{state_left}
use Rattle.kernel_views.specs.Events.{StepsOver}
use Rattle.kernel_views.specs.Snaps.{Stands}
use Rattle.kernel_views.specs.Views.{FollowsRun, view_in}
use Rattle.kernel_views.proofs.Flushing.{owned_again}
use Rattle.kernel_views.proofs.Following.{cells_follow, follows}
use Rattle.kernel_records.proofs.kernel_block_laws_lemmas.Unchanged.{blob_high}
use Rattle.kernel_views.proofs.Legal.{legal_then, run_next}
use Rattle.kernel_records.specs.model_run_laws.StepEntries.{is_step as is_step_event}

module _ {D : Type 0} (disks : Ghosts D)
    (b : Beginning) (me : ℕ) (cs cs' : List Cell) (old new : State D) (es : List Entry) (marks : List ℕ) (e : Entry) (told : disks.tells)
    (st : Stands disks b cs old es marks) (calm : IsCalm b es)
    (k : StepsOver disks b me cs cs' old new e) where
  abbrev words0 : ℕ → List ℕ
  words0 = words_on (disks.reading old.disk)

  abbrev words2 : ℕ → List ℕ
  words2 = words_on (disks.reading new.disk)

  abbrev r : Run
  r = run_of b es

  f : FollowsRun b words0 cs es
  f = cells_follow b es (disks.reading old.disk) cs st.orderly.numbers (books old) marks None st.runs.follows

  made : step b.supply me r.state ≡ Some (e, state_in b.supply words2 cs')
  made = ap (step b.supply me) (sym f.state) ∙ k.goes.step

  is : (e.event ≡ Step) × (e.actor ≡ me)
  is = step_entry b.supply b.policy b.script r me (e, state_in b.supply words2 cs') made

  quiet : IsQuiet b.policy r
  quiet = record { owed = calm.nothing_owed; short = calm_whole b es st.runs.begins st.runs.legal calm.nothing_owed; tried = calm.not_tried; due = calm.nothing_due }

  few_steps : r.steps me < b.script.steps
  few_steps = (
      let h = (f.wishes me k.locus k.at).left in
      let same = ap r.steps (st.orderly.numbers.each me k.locus k.at) in
      let some = k.left in
      omega (arith, h, same, some))

  may : May b.supply b.policy b.script r e
  may = step_may b.supply b.policy b.script r me (e, state_in b.supply words2 cs') quiet calm.births_made few_steps made

  legal' : IsLegal b (es ++ e ∷ [])
  legal' = legal_then b (start_run b.state) es e st.runs.legal may

  next : run_of b (es ++ e ∷ []) ≡ goes_on b.supply b.script r e
  next = run_next b es e

  follow' : FollowsRun b words2 cs' (es ++ e ∷ [])
  follow' = record {
    state = sym (ap (λ (q : Run). q.state) next ∙ state_left b.supply b.script r me e (state_in b.supply words2 cs') made);
    wishes = λ y a at. subst (λ (q : Run). HasWish b.script.steps q a) (sym next) (k.goes.wishes b.script.steps b.script r (sym f.state) f.wishes y a at);
  }

  hold : HoldsCommits b disks (view_in b.supply b.script.steps (disks.reading old.disk) cs (books old) es marks None) old.disk
  hold = st.runs.stored told refl

  owned' : AreOwned (books new) (tables_in cs')
  owned' = owned_again cs cs' (books old) (books new) k.news k.pages.same_logged k.pages.same_count hold.owned k.orderly
      (blob_high (books old) (disks.reading old.disk) (hold.books.stored hold.small hold.working).pool)

  pub made_event : MadeEvent b disks (view_in b.supply b.script.steps (disks.reading old.disk) cs (books old) es marks None)
      (view_in b.supply b.script.steps (disks.reading new.disk) cs' (books new) (es ++ e ∷ []) marks None) old.disk new.disk e
  made_event = record {
    was_going = refl;
    going = refl;
    history = refl;
    marks = refl;
    event = ap is_completing is.0;
    right = record { legal = legal'; follows = follows b (es ++ e ∷ []) (disks.reading new.disk) cs' k.orderly.numbers legal' follow' (books new) marks None };
    pages = (k.before, k.after, k.pages);
    working = k.working;
    owned = owned';
    few = (
        let few = k.pages.few in
        let one = k.one_write in
        let step_is : count_by is_step (e ∷ []) ≡ 1 = ap (λ (ev : Event). 0 + cond {A = ℕ} (is_step_event ev) 1 0) is.0 in
        omega (arith, few, one, step_is));
  }

  pub clean_on : AreClean b.supply words2 cs'
  clean_on = k.goes.clean st.clean
