-- A commit of one cell that failed stops a kernel with its Tried.
use Rattle.std.proofs.Common.{◌≡◌, inl, inr, ℕ, List, [], ◌∷◌, ◌++◌, slice_get, Some, None, option_to_list, refl, sym, ap, subst, ◌∙◌}
use Rattle.edge_disk.specs.Image.{Image}
use Rattle.base_types.specs.declared.histories.Entry.{Entry}
use Rattle.base_types.specs.declared.histories.Event.TheVariants.{Tried}
use Rattle.kernel_records.specs.model_kernel.Histories.{MayCommit, Run, commit_of as run_commit, mark, start_run}
use Rattle.kernel_records.proofs.model_kernel_lemmas.LegalRuns.{state_after as state_run}
use Rattle.kernel_records.specs.store_facts.State.{State, books}
use Rattle.kernel_records.specs.cell_states.declared.cells.Cell.{Cell}
use Rattle.kernel_records.specs.cell_states.Wishes.{HasWish}
use Rattle.table_laws.specs.Tables.{IsOrderly}
use Rattle.kernel_records.specs.kernel_record_facts.Cells.{words_on}
use Rattle.kernel_records.specs.Committing.{HasNotCommitted, HasPages, StoresKeptOrCell}
use Rattle.kernel_laws.specs.kernel_invariant.Beginnings.{Beginning, IsLegal, run_of}
use Rattle.kernel_laws.specs.kernel_invariant.Left.{StoresNext}
use Rattle.kernel_laws.specs.kernel_invariant.declared.stopping.Stopped.TheVariants.{WriteFault}
use Rattle.kernel_laws.proofs.kernel_invariant_lemmas.Stretches.{leaves_map}
use Rattle.kernel_laws.specs.Going.{StoppedAtCommit}
use Rattle.kernel_views.specs.Views.{FollowsRun, view_in}
use Rattle.kernel_views.specs.Snaps.{LeavesOne}
use Rattle.kernel_views.proofs.Following.{follows}
use Rattle.kernel_views.proofs.Legal.{legal_then, run_next}
use Rattle.kernel_views.proofs.Leaving.{LeftCell, follows_before, numbered_after, place_of, state_same, stood, version_is}
use Rattle.kernel_views.proofs.Storing.{IsNextEntry, stores_next, stores_still}
use Rattle.std.proofs.lemmas.Option.{same_Some}
use Rattle.edge_disk.specs.declared.disk.Disk.{Ghosts}

module _ {D : Type 0} {disks : Ghosts D}
    {b : Beginning} {cs cs' : List Cell} {c d : Cell} {old new : State D} {es : List Entry} {marks : List ℕ}
    (q : LeftCell disks b cs cs' c d old new es marks)
    (sure : (run_of b es).tried ≡ None) (may : MayCommit b.policy (run_of b es) c.clock.entity)
    (k : LeavesOne disks cs cs' c d old new) (h : HasNotCommitted disks c d old new)
    (ord_at : (fl : State D) → HasPages disks c.part d.part old fl → IsOrderly (books fl).held cs') where
  abbrev x : ℕ
  x = c.clock.entity

  abbrev e : Entry
  e = mark Tried c.clock.entity c.clock.version

  abbrev words2 : ℕ → List ℕ
  words2 = words_on (disks.reading new.disk)

  abbrev r : Run
  r = run_of b es

  next : run_of b (es ++ e ∷ []) ≡ record r { tried = Some (run_commit r x) }
  next = run_next b es e

  run_state : (run_of b (es ++ e ∷ [])).state ≡ r.state
  run_state = ap (λ (z : Run). z.state) next

  legal' : IsLegal b (es ++ e ∷ [])
  legal' = legal_then b (start_run b.state) es e q.stands.runs.legal (sure, (ap (mark Tried x) (version_is q), may))

  entry : IsNextEntry b es e x
  entry = record {
    legal = legal';
    state_is = sym run_state ∙ state_run b.supply b.policy b.script (start_run b.state) (es ++ e ∷ []);
    next = ap (λ (z : Run). z.commits ++ option_to_list z.tried) next;
  }

  -- the wishes are as they were
  same_wish : (a : Cell) → HasWish b.script.steps r a → HasWish b.script.steps (record r { tried = Some (run_commit r x) }) a
  same_wish a w = record { newest = w.newest; by_step = w.by_step; asked = w.asked; left = w.left }

  wish_d : HasWish b.script.steps r d
  wish_d =
      let w = (follows_before q).wishes x c (stood q) in
      subst (HasWish b.script.steps r) (sym h.only_part) (record { newest = w.newest; by_step = w.by_step; asked = w.asked; left = w.left })

  wish_at : (y : ℕ) (a : Cell) → slice_get cs' y ≡ Some a → HasWish b.script.steps (run_of b (es ++ e ∷ [])) a
  wish_at y a is = subst (λ (z : Run). HasWish b.script.steps z a) (sym next) (same_wish a (elim (place_of q y) as (λ _. HasWish b.script.steps r a) [
    | inl p ↦ subst (HasWish b.script.steps r) (same_Some d a (sym p.1 ∙ is)) wish_d
    | inr p ↦ (follows_before q).wishes y a (sym p.1 ∙ is)
  ]))

  follow' : FollowsRun b words2 cs' (es ++ e ∷ [])
  follow' = record { state = state_same q ∙ sym run_state; wishes = wish_at }

  left_next : (image : Image) → StoresKeptOrCell disks c d old image → StoresNext b es e (books old).count image
  left_next image (inl s) = inl (stores_still q e entry image s)
  left_next image (inr s) = inr (stores_next q e entry s.flushed s.pages s.settled s.spelt (ord_at s.flushed s.pages) image s.more)

  -- THE KERNEL STOPS
  pub stopped : StoppedAtCommit b disks (view_in b.supply b.script.steps (disks.reading old.disk) cs (books old) es marks None)
      (view_in b.supply b.script.steps (disks.reading new.disk) cs' (books new) (es ++ e ∷ []) marks (Some WriteFault)) old.disk new.disk e
  stopped = record {
    was_going = refl;
    why = WriteFault;
    stop = refl;
    history = refl;
    marks = refl;
    event = refl;
    right = record { legal = legal'; follows = follows b (es ++ e ∷ []) (disks.reading new.disk) cs' (numbered_after q) legal' follow' (books new) marks (Some WriteFault) };
    left = λ _. leaves_map disks old.disk new.disk (StoresKeptOrCell disks c d old) (StoresNext b es e (books old).count) left_next k.moments;
    counts = k.counts.counts;
  }
