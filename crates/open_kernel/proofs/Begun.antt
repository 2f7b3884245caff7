-- What comes of a beginning over the cells and the store of an image that was opened.
use Rattle.std.proofs.Common.{◌≡◌, ℕ, ◌-◌, ◌<◌, ◌≤◌, false, List, [], Option, None, refl, sym, ap, subst}
use Rattle.std.specs.Prelude.{Err, IfErr, IfOk, MatchResult, Ok, Result}
use Rattle.edge_disk.specs.declared.disk.Disk.{Ghosts}
use Rattle.edge_disk.specs.Disk.{Ticks}
use Rattle.edge_disk.specs.Image.{Image}
use Rattle.base_types.specs.declared.histories.Entry.{Entry}
use Rattle.kernel_core.specs.model_kernel.Histories.{births_owed, start_run}
use Rattle.kernel_core.specs.model_kernel.Scripts.{Script}
use Rattle.kernel_core.specs.model_kernel.State.{Supply}
use Rattle.open_image.specs.image_meaning.Meaning.{Means}
use Rattle.kernel_core.specs.cell_states.declared.cells.Cell.{Cell}
use Rattle.open_image.specs.table_laws.Tables.{AreClean}
use Rattle.open_image.specs.open_facts.Images.{AreOfImage, IsOpenedTable, StartsFrom}
use Rattle.kernel_core.specs.kernel_core_facts.Kernels.{Held, StaysClean}
use Rattle.kernel_core.specs.kernel_invariant.declared.stopping.Stopped.{Stopped}
use Rattle.open_image.specs.kernel_laws.Opening.{HasNoBirths, empty_script}
use Rattle.open_image.proofs.kernel_laws_lemmas.Opening.{meant_unwritten}
use Rattle.open_image.proofs.kernel_laws_lemmas.Starting.{empty_names, empty_rules, start_lives}
use Rattle.open_image.specs.kernel_invariant.Beginnings.{Beginning, BeginsRight}
use Rattle.open_image.specs.kernel_invariant.Live.{IsLive}
use Rattle.open_kernel.specs.Starts.{HasLowNumbers, LivesFrom, Opens}
use Rattle.open_image.specs.kernel_views.Views.{view_of}
use Rattle.open_image.proofs.image_state_laws_lemmas.Meant.{meant_state}
use Rattle.open_image.specs.kernel_record_facts.Cells.{words_on}
use Rattle.kernel_core.specs.script_types.Rules.{IsScript}
use Rattle.open_image.specs.model_sound_runs.Kinds.{NamesNoLocus}
use Rattle.open_image.specs.store_facts.State.{State}
use Rattle.open_image.specs.store_snapshots.declared.opening.OpenWhy.{OpenWhy}
use Rattle.open_image.specs.store_snapshots.declared.opening.OpenWhy.TheVariants.{Memory}

-- a run of nobody may begin with what an image means
module _ (b : Beginning) (steps : ℕ) (is : b.script ≡ empty_script steps) where
  nobody_right : (image : Image) → 0 < steps → steps ≤ 40000 → Means b.supply image b.state → HasLowNumbers image b.state → BeginsRight b
  nobody_right image some few means low = record {
    script = subst IsScript (sym is) (empty_rules steps some few);
    names = subst (λ (p : Script). NamesNoLocus p b.state) (sym is) (empty_names steps b.state);
    sound = meant_state b.supply image b.state means;
    unwritten = meant_unwritten b.supply image b.state means;
    small = low.versions;
  }

  nobody_born : HasNoBirths b
  nobody_born = subst (λ (p : Script). births_owed p (start_run b.state) ≡ false) (sym is) refl

-- a kernel over these, of which nothing was run
pub record IsNew {D : Type 0} (st : State D) (cs : List Cell) (k : Held D) : Type 0 where
  pub parts : (k.parts.store ≡ st) × (k.parts.cells ≡ cs)
  pub nothing : (k.parts.noted.entries ≡ []) × (k.parts.noted.marks ≡ []) × (k.stop ≡ None)

module _ {D : Type 0} (st : State D) (cs : List Cell) where
  -- what is so of its parts
  of_new : (k : Held D) → IsNew st cs k → (P : State D → List Cell → List Entry → List ℕ → Option Stopped → Type 0) → P st cs [] [] None
      → P k.parts.store k.parts.cells k.parts.noted.entries k.parts.noted.marks k.stop
  of_new k new P holds =
      subst (λ s. P s k.parts.cells k.parts.noted.entries k.parts.noted.marks k.stop) (sym new.parts.0)
      (subst (λ c. P st c k.parts.noted.entries k.parts.noted.marks k.stop) (sym new.parts.1)
      (subst (λ es. P st cs es k.parts.noted.marks k.stop) (sym new.nothing.0)
      (subst (λ ms. P st cs [] ms k.stop) (sym new.nothing.1)
      (subst (λ o. P st cs [] [] o) (sym new.nothing.2) holds))))

  -- it is live where they stand at the start
  lives_new : (disks : Ghosts D) (frames steps : ℕ) (old : D) (k : Held D)
      → IsNew st cs k → IsOpenedTable frames steps st cs → StartsFrom disks steps old st cs → LivesFrom disks steps old k
  lives_new disks frames steps old k new t starts b first right births same_steps m low at ticks after later =
      let before : b.first ≤ disks.clock st.disk = subst (λ (s : State D). b.first ≤ disks.clock s.disk) new.parts.0 later in
      record {
        live = of_new k new (λ s c es ms o. IsLive b disks (view_of disks.reading b c s es ms o) s.disk)
            (start_lives b disks (view_of disks.reading b cs st [] [] None) st.disk right births (starts b first right same_steps m low at ticks after before));
        clean = λ _. of_new k new (λ s c es ms o. AreClean b.supply (words_on (disks.reading s.disk)) c) (t.clean b.supply (words_on (disks.reading st.disk)));
      }

  -- and it is the image's
  opens_new : (disks : Ghosts D) (frames steps : ℕ) (old : D) (k : Held D)
      → IsNew st cs k → IsOpenedTable frames steps st cs → steps ≤ 40000 → AreOfImage (disks.reading old) st cs → StartsFrom disks steps old st cs
      → ((first : ℕ) → Ticks (disks.clock old) first → first ≤ disks.clock st.disk) → Opens disks steps old k
  opens_new disks frames steps old k new t few image starts ended = record {
    image = of_new k new (λ s c es ms o. AreOfImage (disks.reading old) s c) image;
    synced = of_new k new (λ s c es ms o. (first : ℕ) → Ticks (disks.clock old) first → first ≤ disks.clock s.disk) ended;
    run = λ b first some is means low at ticks after later.
        lives_new disks frames steps old k new t starts b first (nobody_right b steps is (disks.reading old) some few means low) (nobody_born b steps is)
        (ap (λ (p : Script). p.steps) is) means low.epoch at ticks after later;
  }

  -- WHAT CAME of it
  module _ {E : Type 0} (why_in : E → OpenWhy) (disk_in : E → D) where
    pub failed : (r : Result (Held D) E) (Q : OpenWhy → D → Type 0) → IfErr r (λ f. (why_in f ≡ Memory) × (disk_in f ≡ st.disk)) → Q Memory st.disk → IfErr r (λ f. Q (why_in f) (disk_in f))
    failed (Ok k) Q memory holds = tt
    failed (Err e) Q memory holds = subst (λ w. Q w (disk_in e)) (sym memory.0) (subst (λ d. Q Memory d) (sym memory.1) holds)

    pub came : (r : Result (Held D) E) (P : State D → List Cell → Type 0) (Q : OpenWhy → D → Type 0) → IfOk r (λ k. (k.parts.store ≡ st) × (k.parts.cells ≡ cs)) → IfErr r (λ f. (why_in f ≡ Memory) × (disk_in f ≡ st.disk))
        → P st cs → Q Memory st.disk → MatchResult r (λ k. P k.parts.store k.parts.cells) (λ f. Q (why_in f) (disk_in f))
    came (Ok k) P Q parts memory holds fails = subst (λ s. P s k.parts.cells) (sym parts.0) (subst (λ c. P st c) (sym parts.1) holds)
    came (Err e) P Q parts memory holds fails = subst (λ w. Q w (disk_in e)) (sym memory.0) (subst (λ d. Q Memory d) (sym memory.1) fails)

  pub lives_begun : {E : Type 0} (r : Result (Held D) E) (disks : Ghosts D) (frames steps : ℕ) (old : D)
      → IfOk r (λ k. (k.parts.store ≡ st) × (k.parts.cells ≡ cs)) → IfOk r (λ k. (k.parts.noted.entries ≡ []) × (k.parts.noted.marks ≡ []) × (k.stop ≡ None))
      → IsOpenedTable frames steps st cs → StartsFrom disks steps old st cs → IfOk r (λ k. LivesFrom disks steps old k)
  lives_begun (Ok k) disks frames steps old parts nothing t starts =
      lives_new disks frames steps old k (record { parts = parts; nothing = nothing }) t starts
  lives_begun (Err e) disks frames steps old parts nothing t starts = tt

  pub opens_begun : {E : Type 0} (r : Result (Held D) E) (disks : Ghosts D) (frames steps : ℕ) (old : D)
      → IfOk r (λ k. (k.parts.store ≡ st) × (k.parts.cells ≡ cs)) → IfOk r (λ k. (k.parts.noted.entries ≡ []) × (k.parts.noted.marks ≡ []) × (k.stop ≡ None))
      → IsOpenedTable frames steps st cs → steps ≤ 40000 → AreOfImage (disks.reading old) st cs → StartsFrom disks steps old st cs
      → ((first : ℕ) → Ticks (disks.clock old) first → first ≤ disks.clock st.disk) → IfOk r (λ k. Opens disks steps old k)
  opens_begun (Ok k) disks frames steps old parts nothing t few image starts ended =
      opens_new disks frames steps old k (record { parts = parts; nothing = nothing }) t few image starts ended
  opens_begun (Err e) disks frames steps old parts nothing t few image starts ended = tt

  pub clean_begun : {E : Type 0} (r : Result (Held D) E) (disks : Ghosts D) (supply : Supply)
      → IfOk r (λ k. (k.parts.store ≡ st) × (k.parts.cells ≡ cs)) → ((words : ℕ → List ℕ) → AreClean supply words cs) → IfOk r (StaysClean disks supply)
  clean_begun (Ok k) disks supply parts clean = λ t on. subst (AreClean supply (words_on (disks.reading k.parts.store.disk))) (sym parts.1) (clean (words_on (disks.reading k.parts.store.disk)))
  clean_begun (Err e) disks supply parts clean = tt
