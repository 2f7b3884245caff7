-- What a record of one cell answers: the pieces of its contract, over the parts as the call found them.
use Rattle.std.proofs.Common.{◌≡◌, ◌↔◌, inl, inr, ℕ, zero, suc, ◌≤◌, Bool, false, List, [], ◌∷◌, ◌++◌, length, slice_get, take, drop, Some, Ok, Err, refl, sym, ap, subst, ◌∙◌}
use Rattle.std.specs.Prelude.{Result, ⊤}
use Rattle.std.proofs.Math.Seq.{take-append_seam}
use Rattle.std.proofs.lemmas.Bool.{cases_eq}
use Rattle.edge_disk.specs.Image.{Image}
use Rattle.edge_disk.specs.Counts.{Rose}
use Rattle.edge_disk.specs.declared.disk.NoBlocks.{NoBlocks}
use Rattle.base_types.specs.declared.histories.Entry.{Entry}
use Rattle.base_types.specs.declared.histories.Event.TheVariants.{Snap, Tried}
use Rattle.kernel_commit_facts.specs.model_kernel.Histories.{mark}
use Rattle.kernel_commit_facts.specs.cell_states.declared.cells.Cell.{Cell}
use Rattle.kernel_commit_facts.specs.cell_blobs.Blobs.{is_recorded}
use Rattle.kernel_commit_facts.specs.table_laws.Lending.{Lends}
use Rattle.kernel_commit_facts.specs.store_facts.State.{State, books}
use Rattle.kernel_commit_facts.specs.store_snapshots.declared.faults.StoreFault.{StoreFault}
use Rattle.kernel_commit_facts.specs.store_snapshots.declared.faults.StoreFault.TheVariants as fault
use Rattle.kernel_commit_facts.specs.kernel_records.Committing.{CellFaults, CommitCounts, IsCellShort}
use Rattle.kernel_commit_facts.specs.kernel_invariant.Beginnings.{Beginning}
use Rattle.kernel_commit_facts.specs.kernel_book_laws.Matching.{version_of}
use Rattle.kernel_commit_facts.specs.Parts.{LivesAs, Noted, Parts, parts_of}
use Rattle.kernel_commit_facts.specs.Recording.{CanRecord, CommitsAmong, HasMade, HasNotMade, HasRecorded, HasTried, IsShort, MayRecord, with_fault}
use Rattle.kernel_commits.specs.Recording.{Fails, GoesOnBy, IsOfCommit, why_of}
use Rattle.kernel_commit_facts.specs.kernel_invariant.declared.stopping.Stopped.{Stopped}
use Rattle.kernel_commit_facts.specs.kernel_invariant.declared.stopping.Stopped.TheVariants as reason
use Rattle.kernel_commit_facts.proofs.Committing.{not_recorded, recorded}
use Rattle.kernel_commit_facts.proofs.Running.{snap_stands, still_lives}
use Rattle.kernel_commit_facts.proofs.Trying.{tried_stops}
use Rattle.std.proofs.lemmas.Option.{same_Some}
use Rattle.edge_disk.specs.declared.disk.Disk.{Ghosts}

abbrev pub stop_result : Stopped → Result ⊤ Stopped
stop_result why = Err why

abbrev made_result : Result ⊤ Stopped
made_result = Ok tt

abbrev fault_result : StoreFault → Result Bool StoreFault
fault_result f = Err f

-- a vector whose elements were written over
pub refilled : {A : Type 0} (n : ℕ) (items ws : List A) → length ws ≡ n → take n (ws ++ drop (length ws) items) ≡ ws
refilled n items ws len = subst (λ m. take m (ws ++ drop (length ws) items) ≡ ws) len (take-append_seam ws (drop (length ws) items))

-- lists with the same elements
lists_same : {A : Type 0} (xs ys : List A) → ((y : ℕ) → slice_get xs y ≡ slice_get ys y) → xs ≡ ys
lists_same [] [] same = refl
lists_same [] (y ∷ ys) same = absurd (let h = same zero in cc h)
lists_same (x ∷ xs) [] same = absurd (let h = same zero in cc h)
lists_same {A} (x ∷ xs) (y ∷ ys) same = ap (λ (z : A). z ∷ xs) (same_Some x y (same zero)) ∙ ap (λ (zs : List A). y ∷ zs) (lists_same xs ys (λ k. same (suc k)))

-- a cell that came back as it was leaves the table as it was
lent_same : (cs cs' : List Cell) (c d : Cell) → Lends cs cs' (c ∷ []) (d ∷ []) → d ≡ c → cs' ≡ cs
lent_same cs cs' c d lends same = lists_same cs' cs (λ y. elim (cases_eq y c.clock.entity) as (λ _. slice_get cs' y ≡ slice_get cs y) [
  | inl at ↦ ap (slice_get cs') (at ∙ sym lends.numbers.0) ∙ (lends.stand.0 ∙ (ap (λ (k : Cell). Some k) same ∙ sym (ap (slice_get cs) at ∙ lends.stood.0)))
  | inr apart ↦ lends.others y (apart, tt)
])

module _ {D : Type 0} (disks : Ghosts D)
    (x : ℕ) (old : Parts D) (st0 : State D) (cs0 cs1 : List Cell) (n0 : Noted) (view : parts_of st0 cs0 n0 ≡ old) (deref : cs1 ≡ cs0)
    (st' : State D) (cs' : List Cell) (v : ℕ) (version0 : v ≡ version_of cs0 x) (can : CanRecord disks x old.cells old.store) where
  abbrev inside : Parts D
  inside = parts_of st0 cs0 n0

  can0 : CanRecord disks x cs0 st0
  can0 = subst (λ (p : Parts D). CanRecord disks x p.cells p.store) (sym view) can

  -- THE RECORD WAS MADE
  module _ (e : Entry) (entry : e ≡ mark Snap x v) (n1 : Noted) (pushed : n1 ≡ record n0 { entries = n0.entries ++ e ∷ [] }) (m : ℕ) (begun : m ≡ (books st').begun)
      (n2 : Noted) (marked : n2 ≡ record n1 { marks = n1.marks ++ m ∷ [] }) (made : HasMade disks x cs1 cs' st0 st') where
    pub ok_recorded : HasRecorded disks x old (parts_of st' cs' n2)
    ok_recorded =
        subst (λ (p : Parts D). HasRecorded disks x p (parts_of st' cs' n2)) view
        (recorded disks x inside (parts_of st' cs' n2) can0
        (subst (λ cs. HasMade disks x cs cs' st0 st') deref made)
        (ap (λ (n : Noted). n.entries) marked ∙ (ap (λ (n : Noted). n.entries) pushed ∙ (ap (λ k. n0.entries ++ k ∷ []) entry ∙ ap (λ w. n0.entries ++ mark Snap x w ∷ []) version0)))
        (ap (λ (n : Noted). n.marks) marked ∙ (ap (λ (n : Noted). n.marks ++ m ∷ []) pushed ∙ ap (λ k. n0.marks ++ k ∷ []) begun))
        (ap (λ (n : Noted). n.room) marked ∙ ap (λ (n : Noted). n.room) pushed))

    module _ (counts_later : (disk : D) (s t : ℕ) (c : Image) → disks.tells → s ≤ t → disks.left_since disk t c → disks.left_since disk s c)
        (only_now : (disk : D) (c : Image) → disks.tells → disks.left_since disk (disks.clock disk) c → disks.may_leave disk c) (counts : CommitCounts disks st0 st') where
      pub ok_run : disks.tells → (b : Beginning) → MayRecord disks b x old → GoesOnBy disks b (Ok tt) (parts_of st' cs' n2)
      ok_run told b may = record {
        stands = snap_stands disks counts_later only_now b x old (parts_of st' cs' n2) told may can ok_recorded
            (subst (λ (p : Parts D). CommitCounts disks p.store st') view counts);
        lives = tt;
      }

  -- WHICH FAULT
  module _ (r : Result Bool StoreFault) (faults_at : (c d : Cell) → slice_get cs1 x ≡ Some c → slice_get cs' x ≡ Some d → CellFaults disks.faults (is_recorded c ≡ false) r c d st0 st')
      (c d : Cell) (q : CommitsAmong disks x c d cs1 cs' st0 st') where
    at_c : slice_get cs1 x ≡ Some c
    at_c = ap (slice_get cs1) (sym q.number) ∙ q.lends.stood.0

    at_c0 : slice_get cs0 x ≡ Some c
    at_c0 = ap (λ cs. slice_get cs x) (sym deref) ∙ at_c

    at_d : slice_get cs' x ≡ Some d
    at_d = ap (slice_get cs') (sym (q.lends.numbers.0 ∙ q.number)) ∙ q.lends.stand.0

    fault_is : CellFaults disks.faults (is_recorded c ≡ false) r c d st0 st'
    fault_is = faults_at c d at_c at_d

    unrecorded : is_recorded c ≡ false
    unrecorded = not_recorded disks x cs0 st0 can0 c at_c0

    pub short_from : (n : NoBlocks) → r ≡ Err (fault.NoBlocks n) → IsShort disks x old n
    short_from n is = subst (λ (p : Parts D). IsShort disks x p n) view (record { cell = c; at = at_c0; short = ((fault_is.no_blocks n).0 is).1 })

    pub short_to : (n : NoBlocks) → IsShort disks x old n → r ≡ Err (fault.NoBlocks n)
    short_to n short =
        let s : IsShort disks x inside n = subst (λ (p : Parts D). IsShort disks x p n) (sym view) short in
        let same : s.cell ≡ c = same_Some s.cell c (sym s.at ∙ at_c0) in
        (fault_is.no_blocks n).1 (unrecorded, subst (λ k. IsCellShort k (books st0) n) same s.short)

    pub still : (n : NoBlocks) → r ≡ Err (fault.NoBlocks n) → parts_of st' cs' n0 ≡ old
    still n is =
        let both = fault_is.untouched (inr (n, is)) in
        ap (λ st. parts_of st cs' n0) both.1 ∙ (ap (λ cs. parts_of st0 cs n0) (lent_same cs1 cs' c d q.lends both.0 ∙ deref) ∙ view)

  -- where a record was made it isn't short of blocks
  pub ok_short : (r : Result Bool StoreFault) → ((c d : Cell) → slice_get cs1 x ≡ Some c → slice_get cs' x ≡ Some d → CellFaults disks.faults (is_recorded c ≡ false) r c d st0 st')
      → (b : Bool) → r ≡ Ok b → HasMade disks x cs1 cs' st0 st' → (n : NoBlocks) → (made_result ≡ Err (reason.NoBlocks n)) ↔ IsShort disks x old n
  ok_short r faults_at b is made n = (λ same. absurd (cc same), λ short. absurd (let h = short_to r faults_at made.before made.after made.commits n short in cc (is, h)))

  -- IT FAILED

  module _ (e : Entry) (entry : e ≡ mark Tried x v) where
    tried_by : (n1 : Noted) → n1 ≡ record n0 { entries = n0.entries ++ e ∷ [] } → HasNotMade disks x cs1 cs' st0 st' → Rose (disks.faults st0.disk) (disks.faults st'.disk)
        → HasTried disks x old (parts_of st' cs' n1)
    tried_by n1 pushed failed rose =
        subst (λ (p : Parts D). HasTried disks x p (parts_of st' cs' n1)) view
        (record {
          entries = ap (λ (n : Noted). n.entries) pushed ∙ (ap (λ k. n0.entries ++ k ∷ []) entry ∙ ap (λ w. n0.entries ++ mark Tried x w ∷ []) version0);
          marks = ap (λ (n : Noted). n.marks) pushed;
          room = ap (λ (n : Noted). n.room) pushed;
          failed = subst (λ cs. HasNotMade disks x cs cs' st0 st') deref failed;
          rose = rose;
        })

    module _ (r : Result Bool StoreFault) (faults_at : (c d : Cell) → slice_get cs1 x ≡ Some c → slice_get cs' x ≡ Some d → CellFaults disks.faults (is_recorded c ≡ false) r c d st0 st')
        (failed : HasNotMade disks x cs1 cs' st0 st') where
      -- the store works, so that it is want of blocks or a write that failed
      pub of_commit : (f : StoreFault) → r ≡ Err f → IsOfCommit f
      of_commit (fault.NoBlocks n) is = tt
      of_commit fault.WriteFault is = tt
      of_commit fault.ReadFault is = absurd ((fault_is r faults_at failed.before failed.after failed.commits).no_read is)
      of_commit fault.Shut is =
          let shut = ((fault_is r faults_at failed.before failed.after failed.commits).shut.0 is).1 in
          absurd (let works = can0.working in cc (shut, works))

      err_tried : (f : StoreFault) → r ≡ Err f → (n1 : Noted) → n1 ≡ with_fault f e n0 → stop_result (why_of f) ≡ Err reason.WriteFault → HasTried disks x old (parts_of st' cs' n1)
      err_tried (fault.NoBlocks n) is n1 pushed failed_is = absurd (cc failed_is)
      err_tried fault.WriteFault is n1 pushed failed_is = tried_by n1 pushed failed ((fault_is r faults_at failed.before failed.after failed.commits).write_fault is).1
      err_tried fault.ReadFault is n1 pushed failed_is = absurd (of_commit fault.ReadFault is)
      err_tried fault.Shut is n1 pushed failed_is = absurd (of_commit fault.Shut is)

      pub err_short : (f : StoreFault) → r ≡ Err f → (n : NoBlocks) → (stop_result (why_of f) ≡ Err (reason.NoBlocks n)) ↔ IsShort disks x old n
      err_short f is n = (to f is, λ short. back f (sym is ∙ short_to r faults_at failed.before failed.after failed.commits n short))
        where
          to : (f : StoreFault) → r ≡ Err f → stop_result (why_of f) ≡ Err (reason.NoBlocks n) → IsShort disks x old n
          to (fault.NoBlocks k) is same = short_from r faults_at failed.before failed.after failed.commits n (is ∙ (let e : k ≡ n = cc same in ap (λ z. Err (fault.NoBlocks z)) e))
          to fault.WriteFault is same = absurd (cc same)
          to fault.ReadFault is same = absurd (of_commit fault.ReadFault is)
          to fault.Shut is same = absurd (of_commit fault.Shut is)

          back : (f : StoreFault) → fault_result f ≡ Err (fault.NoBlocks n) → stop_result (why_of f) ≡ Err (reason.NoBlocks n)
          back f same = ap (λ z. Err (why_of z)) (let e : f ≡ fault.NoBlocks n = cc same in e)

      err_still : (f : StoreFault) → r ≡ Err f → (n1 : Noted) → n1 ≡ with_fault f e n0 → (n : NoBlocks) → stop_result (why_of f) ≡ Err (reason.NoBlocks n) → parts_of st' cs' n1 ≡ old
      err_still (fault.NoBlocks k) is n1 pushed n same = ap (λ z. parts_of st' cs' z) pushed ∙ still r faults_at failed.before failed.after failed.commits k is
      err_still fault.WriteFault is n1 pushed n same = absurd (cc same)
      err_still fault.ReadFault is n1 pushed n same = absurd (of_commit fault.ReadFault is)
      err_still fault.Shut is n1 pushed n same = absurd (of_commit fault.Shut is)

      no_reading : (f : StoreFault) → r ≡ Err f → stop_result (why_of f) ≡ Err reason.ReadFault → ⊥
      no_reading (fault.NoBlocks k) is same = cc same
      no_reading fault.WriteFault is same = cc same
      no_reading fault.ReadFault is same = of_commit fault.ReadFault is
      no_reading fault.Shut is same = of_commit fault.Shut is

      pub err_fails : (f : StoreFault) → r ≡ Err f → (n1 : Noted) → n1 ≡ with_fault f e n0 → (why : Stopped) → why ≡ why_of f → Fails disks x (stop_result why) old (parts_of st' cs' n1)
      err_fails f is n1 pushed why why_is = subst (λ w. Fails disks x (stop_result w) old (parts_of st' cs' n1)) (sym why_is) (record {
        untouched = err_still f is n1 pushed;
        tried = err_tried f is n1 pushed;
        no_read = no_reading f is;
      })

      module _ (counts_later : (disk : D) (s t : ℕ) (c : Image) → disks.tells → s ≤ t → disks.left_since disk t c → disks.left_since disk s c)
          (only_now : (disk : D) (c : Image) → disks.tells → disks.left_since disk (disks.clock disk) c → disks.may_leave disk c) (counts : CommitCounts disks st0 st') where
        counts0 : CommitCounts disks old.store st'
        counts0 = subst (λ (p : Parts D). CommitCounts disks p.store st') view counts

        pub err_run : (f : StoreFault) → r ≡ Err f → (n1 : Noted) → n1 ≡ with_fault f e n0 → disks.tells → (b : Beginning) → MayRecord disks b x old
            → GoesOnBy disks b (Err (why_of f)) (parts_of st' cs' n1)
        err_run (fault.NoBlocks k) is n1 pushed told b may = record {
          stands = tt;
          lives = subst (λ p. LivesAs disks b p (Some (reason.NoBlocks k))) (sym (ap (λ z. parts_of st' cs' z) pushed ∙ still r faults_at failed.before failed.after failed.commits k is))
              (still_lives disks counts_later only_now b old (reason.NoBlocks k) may.stands);
        }
        err_run fault.WriteFault is n1 pushed told b may = record { stands = tt; lives = tried_stops disks counts_later only_now b x old (parts_of st' cs' n1) told may can (err_tried fault.WriteFault is n1 pushed refl) counts0 }
        err_run fault.ReadFault is n1 pushed told b may = absurd (of_commit fault.ReadFault is)
        err_run fault.Shut is n1 pushed told b may = absurd (of_commit fault.Shut is)
