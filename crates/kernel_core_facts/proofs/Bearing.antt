-- A birth over the cells takes a kernel on.
use Rattle.std.proofs.Common.{◌≡◌, ℕ, List, [], ◌∷◌, ◌++◌, Some, None, inl, refl, sym, ap, subst, ◌∙◌, arith}
use Rattle.edge_disk.specs.declared.disk.Disk.{Ghosts}
use Rattle.edge_disk.specs.Image.{Image}
use Rattle.base_types.specs.declared.histories.Entry.{Entry}
use Rattle.base_types.specs.declared.histories.Event.TheVariants.{Birth}
use Rattle.table_births.specs.model_kernel.Births.{next_birth}
use Rattle.table_births.specs.model_kernel.Histories.{May, Run, goes_on, start_run}
use Rattle.table_births.proofs.model_kernel_lemmas.LegalRuns.{state_goes_on}
use Rattle.table_births.proofs.model_births_lemmas.Ends.{born_state}
use Rattle.kernel_commits.specs.kernel_invariant.Marks.{is_completing}
use Rattle.kernel_commits.specs.model_serial.Serial.{IsNew}
use Rattle.kernel_commits.proofs.model_serial_lemmas.Openings.{birth_event, birth_may}
use Rattle.kernel_commits.specs.store_facts.State.{State, books}
use Rattle.table_births.specs.cell_states.declared.cells.Cell.{Cell}
use Rattle.table_births.specs.cell_states.Wishes.{HasWish}
use Rattle.table_births.specs.table_laws.Tables.{AreClean, state_in, tables_in}
use Rattle.kernel_commits.specs.kernel_record_facts.Cells.{words_on}
use Rattle.kernel_commits.specs.store_books.Between.{Between-stay}
use Rattle.kernel_commits.specs.store_books.Owning.{AreOwned}
use Rattle.kernel_commits.specs.kernel_invariant.Beginnings.{Beginning, IsLegal, run_of}
use Rattle.kernel_commits.specs.kernel_invariant.Live.{HoldsCommits}
use Rattle.kernel_commits.specs.kernel_laws.Going.{MadeEvent}
use Rattle.kernel_commits.specs.kernel_views.Snaps.{Stands}
use Rattle.kernel_commits.specs.kernel_views.Views.{FollowsRun, view_in}
use Rattle.kernel_commits.proofs.kernel_views_lemmas.Flushing.{owned_again}
use Rattle.kernel_commits.proofs.kernel_views_lemmas.Following.{cells_follow, follows}
use Rattle.kernel_commits.proofs.kernel_block_laws_lemmas.Unchanged.{blob_high}
use Rattle.kernel_commits.proofs.kernel_views_lemmas.Legal.{legal_then, run_next}
use Rattle.kernel_core_facts.specs.Births.{BearsOver}

module _ {D : Type 0} (disks : Ghosts D)
    (only_now : (a : D) (c : Image) → disks.tells → disks.left_since a (disks.clock a) c → disks.may_leave a c)
    (b : Beginning) (cs cs' : List Cell) (st : State D) (es : List Entry) (marks : List ℕ) (e : Entry) (told : disks.tells)
    (stands : Stands disks b cs st es marks) (new : IsNew (run_of b es))
    (k : BearsOver disks b cs cs' st e) where
  abbrev words : ℕ → List ℕ
  words = words_on (disks.reading st.disk)

  abbrev r : Run
  r = run_of b es

  f : FollowsRun b words cs es
  f = cells_follow b es (disks.reading st.disk) cs stands.orderly.numbers (books st) marks None stands.runs.follows

  made : next_birth b.supply b.script r.state ≡ Some (e, state_in b.supply words cs')
  made = ap (next_birth b.supply b.script) (sym f.state) ∙ k.bears.birth

  is : e.event ≡ Birth
  is = birth_event b.supply b.policy b.script r (e, state_in b.supply words cs') made

  may : May b.supply b.policy b.script r e
  may = birth_may b.supply b.policy b.script r (e, state_in b.supply words cs') new made

  legal' : IsLegal b (es ++ e ∷ [])
  legal' = legal_then b (start_run b.state) es e stands.runs.legal may

  next : run_of b (es ++ e ∷ []) ≡ goes_on b.supply b.script r e
  next = run_next b es e

  follow' : FollowsRun b words cs' (es ++ e ∷ [])
  follow' = record {
    state = sym (ap (λ (q : Run). q.state) next ∙ state_goes_on b.supply b.policy b.script r e ∙ born_state b.supply b.script r.state (e, state_in b.supply words cs') made);
    wishes = λ y a at. subst (λ (q : Run). HasWish b.script.steps q a) (sym next) (k.bears.wishes b.script.steps r (sym f.state) f.wishes y a at);
  }

  hold : HoldsCommits b disks (view_in b.supply b.script.steps (disks.reading st.disk) cs (books st) es marks None) st.disk
  hold = stands.runs.stored told refl

  owned' : AreOwned (books st) (tables_in cs')
  owned' = owned_again cs cs' (books st) (books st) (λ x page. inl (k.blocks x page)) refl refl hold.owned k.orderly
      (blob_high (books st) (disks.reading st.disk) (hold.books.stored hold.small hold.working).pool)

  pub made_birth : MadeEvent b disks (view_in b.supply b.script.steps (disks.reading st.disk) cs (books st) es marks None)
      (view_in b.supply b.script.steps (disks.reading st.disk) cs' (books st) (es ++ e ∷ []) marks None) st.disk st.disk e
  made_birth = record {
    was_going = refl;
    going = refl;
    history = refl;
    marks = refl;
    event = ap is_completing is;
    right = record { legal = legal'; follows = follows b (es ++ e ∷ []) (disks.reading st.disk) cs' k.orderly.numbers legal' follow' (books st) marks None };
    pages = (0, 0, Between-stay disks st.disk (books st) 0 (λ c told left. only_now st.disk c told left));
    working = hold.working;
    owned = owned';
    few = omega arith;
  }

  pub clean_on : AreClean b.supply words cs'
  clean_on = k.bears.clean stands.clean
