-- What a step over the table leaves of a kernel's parts, and what it comes to in a run.
use Rattle.std.proofs.Common.{◌≡◌, ◌≤◌, ℕ, List, Ok, Err, refl, ap, ◌∙◌}
use Rattle.std.specs.Prelude.{IsErrOf, Result}
use Rattle.edge_disk.specs.declared.disk.Disk.{Ghosts}
use Rattle.edge_disk.specs.Image.{Image}
use Rattle.page_store.specs.declared.faults.PageFault.TheVariants as page
use Rattle.kernel_core_facts.specs.table_births.model_kernel.State.{Supply}
use Rattle.kernel_core_facts.specs.store_facts.State.{State}
use Rattle.kernel_core_facts.specs.cell_states.declared.cells.Cell.{Cell}
use Rattle.kernel_core_facts.specs.cell_plans.declared.idle.Idle.{Idle as AnIdle}
use Rattle.kernel_core_facts.specs.cell_plans.declared.idle.Idle.TheVariants.{Absent}
use Rattle.kernel_core_facts.specs.table_laws.Tables.{AreClean}
use Rattle.kernel_core_facts.specs.kernel_record_facts.Cells.{words_on}
use Rattle.kernel_core_facts.specs.table_steps.declared.stepping.Made.{Made as Step}
use Rattle.kernel_core_facts.specs.table_steps.declared.stepping.StepFault.{StepFault}
use Rattle.kernel_core_facts.specs.table_steps.declared.stepping.StepFault.TheVariants.{Idle, Paging}
use Rattle.kernel_core_facts.specs.kernel_commit_facts.Parts.{Noted, parts_of}
use Rattle.kernel_core_facts.specs.kernel_commit_facts.Steady.{IsSteady}
use Rattle.kernel_core_facts.specs.kernel_invariant.declared.stopping.Stopped.{Stopped}
use Rattle.kernel_core_facts.specs.kernel_invariant.declared.stopping.Stopped.TheVariants as reason
use Rattle.kernel_core_facts.specs.Leaving.{LeavesInOrder}
use Rattle.kernel_core_facts.specs.Stepping.{stop_by}
use Rattle.kernel_core_facts.proofs.Stepping.{leaves, stays_clean, steps_over, stops_over}
use Rattle.kernel_core_facts.proofs.kernel_commits_lemmas.Wishing.{err_over}
use Rattle.kernel_core.proofs.Answered.{no_fault, no_idle, no_paging}
use Rattle.kernel_core.proofs.Stepped.{once_failed, once_idle, once_made, open_fault}
use Rattle.thread_cell_steps.specs.Advancing.{HasAdvanced}
use Rattle.kernel_core_facts.specs.Looked.{StepsOnce}
use Rattle.thread_looks.specs.Making.{IsOpenly, looked_by, noted_by}
use Rattle.thread_looks.specs.Stores.{pages_of}
use Rattle.kernel_core_facts.specs.declared.looked.Looked.{Looked}
use Rattle.kernel_core_facts.specs.declared.looked.Looked.TheVariants.{Idle as IdleFor}

abbrev ok_looked : Looked → Result Looked Stopped
ok_looked o = Ok o

idle_to : (why w : AnIdle) → IsErrOf {T = Step} {E = StepFault} (Err (Idle why)) (Idle w) → ok_looked (IdleFor why) ≡ ok_looked (IdleFor w)
idle_to why w is = let e : why ≡ w = cc in ap (λ (k : AnIdle). ok_looked (IdleFor k)) e

abbrev err_of : StepFault → Result Step StepFault
err_of f = Err f

idle_from : (why w : AnIdle) → ok_looked (IdleFor why) ≡ ok_looked (IdleFor w) → IsErrOf {T = Step} {E = StepFault} (Err (Idle why)) (Idle w)
idle_from why w is = let e : why ≡ w = cc in ap (λ (k : AnIdle). err_of (Idle k)) e

module _ {D : Type 0} (disks : Ghosts D)
    (counts_later : (disk : D) (s t : ℕ) (c : Image) → disks.tells → s ≤ t → disks.left_since disk t c → disks.left_since disk s c)
    (only_now : (disk : D) (c : Image) → disks.tells → disks.left_since disk (disks.clock disk) c → disks.may_leave disk c)
    (s : Supply) (me : ℕ) (cs cs' : List Cell) (st st' : State D) (noted : Noted)
    (k : IsSteady disks (parts_of st cs noted))
    (clean : disks.tells → AreClean s (words_on (disks.reading st.disk)) cs) where
  left : (came : Result Step StepFault) → HasAdvanced (pages_of disks) s me cs cs' st st' came → LeavesInOrder disks cs cs' st st'
  left came a = leaves disks s me cs cs' st st' k.sound.matches.orderly a.orderly a.between a.one_write came a.enters a.still a.faulted

  clean_after : (came : Result Step StepFault) → HasAdvanced (pages_of disks) s me cs cs' st st' came → disks.tells → AreClean s (words_on (disks.reading st'.disk)) cs'
  clean_after came a told = stays_clean disks s me cs cs' st st' k.sound.matches.orderly a.orderly a.between a.one_write came told (clean told) (a.step told) a.still a.faulted

  pub openly : (came : Result Step StepFault) → HasAdvanced (pages_of disks) s me cs cs' st st' came → IsOpenly came
  openly (Ok m) a = tt
  openly (Err (Idle why)) a = tt
  openly (Err (Paging f)) a = open_fault disks counts_later only_now s me cs cs' st st' noted k (left (Err (Paging f)) a) (clean_after (Err (Paging f)) a) (Paging f) f refl a.cause

  pub makes : (came : Result Step StepFault) → HasAdvanced (pages_of disks) s me cs cs' st st' came → StepsOnce disks s me (parts_of st cs noted) (parts_of st' cs' (noted_by came noted)) (looked_by came)
  makes (Ok m) a =
      let once = once_made disks counts_later only_now s me cs cs' st st' noted k (left (Ok m) a) (clean_after (Ok m) a) m a.idle a.no_blocks a.enters a.instr a.same_shut
      (λ b told same working. steps_over disks s me cs cs' st st' k.sound.matches.orderly a.orderly a.between a.one_write a.news b same working (Ok m) (a.idle s (words_on (disks.reading st.disk)) Absent) (a.step told) a.enters a.same_shut) in
      record {
        idle = λ z words why. ((λ is. absurd (no_fault m (Idle why) ((a.idle z words why).1 is))), (λ is. absurd (cc is)));
        still = λ why is. absurd (cc is);
        made = once.made;
        next = once.next;
        failed = tt;
        short = λ n. ((λ is. absurd (cc is)), (λ short. absurd (no_fault m (Paging (page.NoBlocks n)) ((a.no_blocks n).1 short))));
        steady = once.steady;
        clean = once.clean;
        counts = once.counts;
        run = once.run;
        enough = λ told b same stands calm n is. absurd (cc is);
      }
  makes (Err (Idle why)) a =
      let once = once_idle disks counts_later only_now s me cs cs' st st' noted k (left (Err (Idle why)) a) (clean_after (Err (Idle why)) a) (Idle why) why refl a.idle a.still a.no_blocks in
      record {
        idle = λ z words w. ((λ is. idle_to why w ((a.idle z words w).1 is)), (λ is. (a.idle z words w).0 (idle_from why w is)));
        still = λ w is. ap (λ st. parts_of st cs' noted) (a.still why refl).1 ∙ ap (λ (ks : List Cell). parts_of st ks noted) (a.still why refl).0;
        made = tt;
        next = tt;
        failed = tt;
        short = λ n. ((λ is. absurd (cc is)), (λ short. absurd (no_paging why (page.NoBlocks n) ((a.no_blocks n).1 short))));
        steady = once.steady;
        clean = once.clean;
        counts = once.counts;
        run = once.run;
        enough = λ told b same stands calm n is. absurd (cc is);
      }
  makes (Err (Paging f)) a =
      let once = once_failed disks counts_later only_now s me cs cs' st st' noted k (left (Err (Paging f)) a) (clean_after (Err (Paging f)) a) (Paging f) f refl a.idle a.cause
      (λ b q told same is. stops_over disks s me cs cs' st st' k.sound.matches.orderly a.orderly a.between a.one_write b told same (a.faulted q is)) a.at_word a.no_blocks a.turned in
      record {
        idle = λ z words w. ((λ is. absurd (no_idle f w ((a.idle z words w).1 is))), (λ is. absurd (cc is)));
        still = λ w is. absurd (cc is);
        made = tt;
        next = tt;
        failed = once.failed;
        short = λ n. ((λ is. (once.short n).0 (err_over Looked _ (stop_by f) (reason.NoBlocks n) is)), (λ short. err_over _ Looked (stop_by f) (reason.NoBlocks n) ((once.short n).1 short)));
        steady = tt;
        clean = once.clean;
        counts = once.counts;
        run = once.run;
        enough = λ told b same stands calm n is. once.enough told b same stands calm n (err_over Looked _ (stop_by f) (reason.NoBlocks n) is);
      }
