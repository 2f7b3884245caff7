-- How a copy ends, by what comes of the copy over the table.
use Rattle.std.proofs.Common.{◌≡◌, ◌⊎◌, inl, inr, ℕ, ◌+◌, ◌≤◌, Bool, false, List, [], ◌∷◌, length, Some, refl, sym, ap, subst, ◌∙◌, arith}
use Rattle.std.specs.Prelude.{Err, IsErrOf}
use Rattle.std.proofs.lemmas.Bool.{cases_lt, lt-ltb}
use Rattle.std.proofs.lemmas.Option.{same_Some}
use Rattle.edge_disk.specs.declared.disk.Disk.{Ghosts}
use Rattle.edge_disk.specs.Counts.{Rose}
use Rattle.edge_disk.proofs.Ticks.{Rose-before}
use Rattle.edge_disk.specs.Image.{Image}
use Rattle.edge_disk.specs.declared.disk.NoBlocks.{NoBlocks}
use Rattle.edge_disk.specs.Moments.{LeavesOnly}
use Rattle.edge_tally.specs.Counts.{Begins, shown}
use Rattle.data_atlas.specs.data_atlas_facts.Directory.{Directory}
use Rattle.cell_copies.specs.cell_births.act_calls.Calls.{atlas_state}
use Rattle.cell_copies.specs.cell_births.cell_states.declared.cells.Cell.{Cell}
use Rattle.cell_copies.specs.model_copies.Needing.{LeavesCopy}
use Rattle.cell_copies.specs.model_copies.model_kernel.Outcomes.{free_container}
use Rattle.cell_copies.specs.model_copies.model_kernel.Scripts.{container_named}
use Rattle.cell_copies.specs.model_copies.model_kernel.State.{AtlasState, KernelState, Supply, Text}
use Rattle.cell_copies.specs.model_copies.model_kernel.Steps.{atlas_in}
use Rattle.open_image.specs.image_meaning.Meaning.{Means}
use Rattle.open_image.specs.open_facts.Images.{AreOfImage, HasBegun, HasImageCauseIn, HasTurnLeft, IsOpenedTable, MeansSince, StopsShort}
use Rattle.open_image.specs.image_blocks.Checks.{Bad}
use Rattle.open_image.specs.store_books.Books.{AreTrue, Books, free_in, kept_of}
use Rattle.open_image.specs.store_facts.State.{State, books}
use Rattle.open_image.specs.table_laws.Steps.{HasDirectory}
use Rattle.open_image.specs.table_laws.Tables.{IsOrderly, state_in, tables_in}
use Rattle.table_laws.proofs.FacingAtlas.{directory_at}
use Rattle.kernel_invariant.specs.image_meaning.Stores.{Stores}
use Rattle.kernel_invariant.proofs.Stretches.{leaves_map}
use Rattle.kernel_record_facts.specs.Cells.{words_on}
use Rattle.kernel_copies.proofs.Pairing.{kept_means}
use Rattle.store_snapshots.specs.Paging.{GoesByPages-stay}
use Rattle.store_snapshots.specs.declared.faults.StoreFault.{StoreFault}
use Rattle.store_snapshots.specs.declared.faults.StoreFault.TheVariants as fault
use Rattle.store_snapshots.specs.declared.opening.OpenWhy.{OpenWhy}
use Rattle.store_snapshots.specs.declared.opening.OpenWhy.TheVariants as opening
use Rattle.table_births.proofs.AtlasStates.{has_atlas, same_atlas}
use Rattle.copy_commits.specs.Putting.{MeansBeforeOr}
use Rattle.container_copy.specs.Copying.{AreLowNumbers, IsChosenPair, IsCopyRefusal, StandsTable}
use Rattle.container_copy.specs.Needs.{CountsBlocks, IsShort, StandsFor, TableNeeds}
use Rattle.container_copy.specs.Leaving.{CopiesSince, FindsBlocks, HasCopyCause, HasTableCause, IsDiskWhy, IsOnlyOpened, IsOpenCause, IsStoreCause, StopsShortCopy}
use Rattle.container_copy.specs.declared.copying.CopyWhy.{CopyWhy}
use Rattle.container_copy.specs.declared.copying.CopyWhy.TheVariants as why
use Rattle.container_copy.proofs.Opened.{few_of}

-- THE MOMENTS of an opening, and of the copy behind it
pub since_both : {D : Type 0} (disks : Ghosts D) (counts_later : (d : D) (s t : ℕ) (c : Image) → disks.tells → s ≤ t → disks.left_since d t c → disks.left_since d s c)
    (name fresh : Text) (old mid new : D) → disks.tells → MeansSince disks old mid
    → ((s : Supply) (v : KernelState) → Means s (disks.reading old) v → AreLowNumbers (disks.reading old) v → LeavesOnly disks mid new (MeansBeforeOr s name fresh v)) → CopiesSince disks name fresh old new
since_both disks counts_later name fresh old mid new t since copies first m c ticks after left s v means low =
    let l = copies s v means low in
    elim (cases_lt (disks.clock mid) m) as (λ _. MeansBeforeOr s name fresh v c) [
      | inl lt ↦ l.each c (counts_later new (disks.clock mid) m c t (omega (arith, lt)) left)
      | inr ge ↦ elim (l.before m c ge left) as (λ _. MeansBeforeOr s name fresh v c) [
        | inl was ↦ inl (since first m c ticks after was s v means)
        | inr is ↦ is
      ]
    ]

-- WHERE THE STORE STAYS as it is, each image that a stop leaves means the state
pub stays : {D : Type 0} (disks : Ghosts D) (only_now : (d : D) (c : Image) → disks.tells → disks.left_since d (disks.clock d) c → disks.may_leave d c)
    (s : Supply) (name fresh : Text) (v : KernelState) (st : State D) (cs : List Cell) → disks.tells → AreTrue disks (books st) st.disk → (books st).shut ≡ false → StandsTable s v (disks.reading st.disk) (books st) cs
    → LeavesOnly disks st.disk st.disk (MeansBeforeOr s name fresh v)
stays disks only_now s name fresh v st cs t right working k = leaves_map disks st.disk st.disk (Stores (books st).count (kept_of (disks.reading st.disk) (books st))) (MeansBeforeOr s name fresh v)
    (λ c stored. inl (kept_means s v (disks.reading st.disk) c (books st) (tables_in cs) k.meant k.records k.owned stored))
    ((GoesByPages-stay disks st (λ c told left. only_now st.disk c told left)).only.moments t right k.small working)

-- NAMES AND NUMBERS of the atlas that the cells have
module _ (s : Supply) (v : KernelState) (image : Image) (b : Books) (cs : List Cell) (k : StandsTable s v image b cs) (d : Directory) (has : HasDirectory cs d) where
  atlas_is : atlas_in (v 0).cell ≡ atlas_state d
  atlas_is = subst (λ (w : KernelState). atlas_in (w 0).cell ≡ atlas_state d) k.state (same_atlas s (words_on image) cs ∙ has_atlas cs d has)

  pub named_in : (name : Text) (source : ℕ) → container_named (atlas_state d) name ≡ Some source → container_named (atlas_in (v 0).cell) name ≡ Some source
  named_in name source named = ap (λ (a : AtlasState). container_named a name) atlas_is ∙ named

  pub number_in : (name fresh : Text) (source newborn : ℕ) → IsChosenPair d name fresh source newborn → (w : KernelState) (l : LeavesCopy name fresh v w) → newborn ≡ l.number
  number_in name fresh source newborn chosen w l =
      let same : l.atlas ≡ atlas_state d = sym (ap atlas_in l.was_atlas) ∙ atlas_is in
      let few = few_of d name fresh chosen.none in
      let free : free_container (atlas_state d) ≡ Some (length d.containers + 1) = rw (lt-ltb (length d.containers) 40 few) refl in
      let one : Some (length d.containers + 1) ≡ Some l.number = sym free ∙ (ap free_container (sym same) ∙ l.free) in
      chosen.number ∙ same_Some (length d.containers + 1) l.number one

-- WHY NOT, by the fault of the store
pub cause_of : (a : AtlasState) (cs : List Cell) (name fresh : Text) (b : Books) (before now : ℕ) (f : StoreFault) (w : CopyWhy) → IsStoreCause f w
    → ((m : NoBlocks) → IsErrOf {T = Unit {0}} (Err f) (fault.NoBlocks m) → IsShort b m × TableNeeds cs name fresh m.need) → (IsErrOf {T = Unit {0}} (Err f) fault.Shut → ⊥)
    → ((e : StoreFault) → IsErrOf {T = Unit {0}} (Err f) e → (e ≡ fault.ReadFault) ⊎ (e ≡ fault.WriteFault) → Rose before now) → HasTableCause a cs name fresh b before now w
cause_of a cs name fresh b before now (fault.NoBlocks m) w is short shut rose = subst (HasTableCause a cs name fresh b before now) (sym is) (short m refl)
cause_of a cs name fresh b before now fault.ReadFault w is short shut rose = subst (HasTableCause a cs name fresh b before now) (sym is) (rose fault.ReadFault refl (inl refl))
cause_of a cs name fresh b before now fault.WriteFault w is short shut rose = subst (HasTableCause a cs name fresh b before now) (sym is) (rose fault.WriteFault refl (inr refl))
cause_of a cs name fresh b before now fault.Shut w is short shut rose = absurd (shut refl)

-- only a read or a write that failed leaves another store
pub kept_by : {D : Type 0} (old new : State D) (f : StoreFault) (w : CopyWhy) → IsStoreCause f w → ((m : NoBlocks) → IsErrOf {T = Unit {0}} (Err f) (fault.NoBlocks m) → new ≡ old)
    → (IsErrOf {T = Unit {0}} (Err f) fault.Shut → ⊥) → IsDiskWhy w ⊎ (new ≡ old)
kept_by old new (fault.NoBlocks m) w is short shut = inr (short m refl)
kept_by old new fault.ReadFault w is short shut = inl (subst IsDiskWhy (sym is) tt)
kept_by old new fault.WriteFault w is short shut = inl (subst IsDiskWhy (sym is) tt)
kept_by old new fault.Shut w is short shut = absurd (shut refl)

-- and of the opening
pub open_cause : {D : Type 0} (disks : Ghosts D) (name fresh : Text) (old new : D) (o : OpenWhy) (w : CopyWhy) → IsOpenCause o w → HasImageCauseIn disks old new o → HasCopyCause disks name fresh old new w
open_cause disks name fresh old new (opening.Foreign bad) w is cause = subst (HasCopyCause disks name fresh old new) (sym is) cause
open_cause disks name fresh old new opening.ReadFault w is cause = subst (HasCopyCause disks name fresh old new) (sym is) cause
open_cause disks name fresh old new opening.WriteFault w is cause = subst (HasCopyCause disks name fresh old new) (sym is) cause
open_cause disks name fresh old new opening.Memory w is cause = subst (HasCopyCause disks name fresh old new) (sym is) tt

-- THE IMAGE COULD NOT BE OPENED
pub foreign_only : (o : OpenWhy) (w : CopyWhy) (bad : Bad) → IsOpenCause o w → w ≡ why.Foreign bad → o ≡ opening.Foreign bad
foreign_only (opening.Foreign other) w bad is e = same_foreign other bad (sym is ∙ e)
  where
    same_foreign : (a b : Bad) → why.Foreign a ≡ why.Foreign b → opening.Foreign a ≡ opening.Foreign b
    same_foreign a b e = cc e
foreign_only opening.ReadFault w bad is e = absurd (let clash : why.ReadFault ≡ why.Foreign bad = sym is ∙ e in cc clash)
foreign_only opening.WriteFault w bad is e = absurd (let clash : why.WriteFault ≡ why.Foreign bad = sym is ∙ e in cc clash)
foreign_only opening.Memory w bad is e = absurd (let clash : why.Memory ≡ why.Foreign bad = sym is ∙ e in cc clash)

pub write_only : (o : OpenWhy) (w : CopyWhy) → IsOpenCause o w → o ≡ opening.WriteFault → w ≡ why.WriteFault
write_only (opening.Foreign bad) w is e = absurd (cc e)
write_only opening.ReadFault w is e = absurd (cc e)
write_only opening.WriteFault w is e = is
write_only opening.Memory w is e = absurd (cc e)

pub short_of : {D : Type 0} (disks : Ghosts D) (name fresh : Text) (old new : D) (o : OpenWhy) (w : CopyWhy) → IsOpenCause o w → StopsShort disks o old new ⊎ MeansSince disks old new
    → StopsShortCopy disks w old new ⊎ CopiesSince disks name fresh old new
short_of disks name fresh old new o w is (inl s) = inl (record { why_is = write_only o w is s.fault; short = subst (λ (p : OpenWhy). StopsShort disks p old new) s.fault s })
short_of disks name fresh old new o w is (inr since) = inr (λ first m c ticks after left s v means low. inl (since first m c ticks after left s v means))

-- but for a call that failed only an opening was begun
pub fault_opened : {D : Type 0} (disks : Ghosts D) (old new : D) (o : OpenWhy) (w : CopyWhy) → IsOpenCause o w → HasBegun disks 138 0 old new
    → (disks.tells → HasTurnLeft (disks.reading old) → StopsShort disks o old new ⊎ MeansSince disks old new) → IsDiskWhy w ⊎ IsOnlyOpened disks old new
fault_opened disks old new (opening.Foreign bad) w is begun since = inr (record { begun = begun; since = λ t room. means_since (since t room) })
  where
    means_since : StopsShort disks (opening.Foreign bad) old new ⊎ MeansSince disks old new → MeansSince disks old new
    means_since (inl s) = absurd (let clash = s.fault in cc clash)
    means_since (inr m) = m
fault_opened disks old new opening.Memory w is begun since = inr (record { begun = begun; since = λ t room. means_since (since t room) })
  where
    means_since : StopsShort disks opening.Memory old new ⊎ MeansSince disks old new → MeansSince disks old new
    means_since (inl s) = absurd (let clash = s.fault in cc clash)
    means_since (inr m) = m
fault_opened disks old new opening.ReadFault w is begun since = inl (subst IsDiskWhy (sym is) tt)
fault_opened disks old new opening.WriteFault w is begun since = inl (subst IsDiskWhy (sym is) tt)

-- THE ATLAS of cells in order
pub directory_in : (held : ℕ → Bool) (cs : List Cell) → IsOrderly held cs → (d : Directory) × HasDirectory cs d
directory_in held [] ord = absurd (let long = ord.numbers.len in omega (arith, long))
directory_in held (c ∷ cs) ord = (let f = directory_at held (c ∷ cs) ord c refl in (f.0, record { cell = c; is = refl; part = f.1 }))

-- THE IMAGE AS IT WAS OPENED
pub stands_for : {D : Type 0} (image : Image) (st : State D) (cs : List Cell) → IsOpenedTable 1 1 st cs → AreOfImage image st cs → StandsFor image (books st) cs
stands_for image st cs opened i = record { accepted = i.accepted; count = i.count; recs = i.recs; means = i.means; orderly = opened.orderly }

pub counts : {D : Type 0} (image : Image) (st : State D) (cs : List Cell) → IsOpenedTable 1 1 st cs → AreOfImage image st cs → (name fresh : Text) (need free : ℕ)
    → TableNeeds cs name fresh need → free ≡ free_in (books st) → CountsBlocks image name fresh need free
counts image st cs opened i name fresh need free needs is = record { books = books st; cells = cs; stands = stands_for image st cs opened i; needs = λ s. needs s (words_on image); free_is = is }

pub finds : {D : Type 0} (image : Image) (st : State D) (cs : List Cell) → IsOpenedTable 1 1 st cs → AreOfImage image st cs → (name fresh : Text)
    → (need : ℕ) × (need ≤ free_in (books st)) × TableNeeds cs name fresh need → FindsBlocks image name fresh
finds image st cs opened i name fresh (need, enough, needs) = record {
  need = need;
  free = free_in (books st);
  enough = enough;
  counted = counts image st cs opened i name fresh need (free_in (books st)) needs refl;
}

-- WHY NOT, by the image that was opened
module _ {D : Type 0} (disks : Ghosts D) (name fresh : Text) (old new : D) (st : State D) (cs : List Cell) (opened : IsOpenedTable 1 1 st cs) (of_image : disks.tells → AreOfImage (disks.reading old) st cs)
    (d : Directory) (has : HasDirectory cs d) (first : disks.faults old ≤ disks.faults st.disk) (second : disks.faults st.disk ≤ disks.faults new) where
  pub image_cause : (w : CopyWhy) → HasTableCause (atlas_state d) cs name fresh (books st) (disks.faults st.disk) (disks.faults new) w → HasCopyCause disks name fresh old new w
  image_cause (why.Foreign bad) cause = absurd cause
  image_cause (why.Refused r) cause = λ t s.
      let v = state_in s (words_on (disks.reading old)) cs in
      let atlas : atlas_in (v 0).cell ≡ atlas_state d = same_atlas s (words_on (disks.reading old)) cs ∙ has_atlas cs d has in
      (v, (of_image t).means s, subst (λ (a : AtlasState). IsCopyRefusal a name fresh r) (sym atlas) cause)
  image_cause (why.NoBlocks m) cause = record {
    fewer = cause.0.fewer;
    most = cause.0.most;
    counted = λ t. counts (disks.reading old) st cs opened (of_image t) name fresh m.need m.free cause.1 cause.0.free_is;
  }
  image_cause why.ReadFault cause = Rose-before (disks.faults old) (disks.faults st.disk) (disks.faults new) first second cause
  image_cause why.WriteFault cause = Rose-before (disks.faults old) (disks.faults st.disk) (disks.faults new) first second cause
  image_cause why.Memory cause = tt

-- where the store stayed only the opening was begun
pub stays_opened : {D : Type 0} (disks : Ghosts D) (old disk : D) (st new : State D) (w : CopyWhy) → Begins 138 (shown disks old 0) (shown disks st.disk (books st).begun)
    → (disks.tells → HasTurnLeft (disks.reading old) → MeansSince disks old st.disk) → disk ≡ new.disk → IsDiskWhy w ⊎ (new ≡ st) → IsDiskWhy w ⊎ IsOnlyOpened disks old disk
stays_opened {D = D} disks old disk st new w begins since is (inl failed) = inl failed
stays_opened {D = D} disks old disk st new w begins since is (inr same) = inr (subst (IsOnlyOpened disks old) (sym (is ∙ ap (λ (x : State D). x.disk) same)) (record { begun = ((books st).begun, begins); since = since }))
