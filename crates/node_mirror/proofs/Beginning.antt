-- A mirrored run begins, or doesn't.
use Rattle.std.proofs.Common.{◌≡◌, inl, ℕ, ◌+◌, ◌-◌, Bool, true, false, nat_lt, if◌then◌else◌, List, [], Option, None, Some, Ok, Err, refl, sym, ap, subst, ◌∙◌, arith}
use Rattle.std.specs.Prelude.{IfErr, Result, slice_get, ⊤}
use Rattle.std.proofs.lemmas.Bool.{false≢true}
use Rattle.edge_disk.specs.declared.disk.Disk.{Ghosts}
use Rattle.base_types.specs.declared.histories.Entry.{Entry}
use Rattle.drawn_words.specs.Words.{words_of}
use Rattle.script_types.specs.model_kernel.Histories.{Policy}
use Rattle.script_types.specs.model_kernel.Scripts.{Script}
use Rattle.script_types.specs.model_kernel.State.{Supply}
use Rattle.kernel_run_facts.proofs.Watched.{cause_behind}
use Rattle.kernel_run_facts.proofs.kernel_commit_facts_lemmas.Counting.{CountsWithin-fewer, CountsWithin-then}
use Rattle.kernel_run_facts.proofs.kernel_commits_lemmas.Telling.{adds_none}
use Rattle.kernel_run_facts.specs.Running.{IsCauseOf}
use Rattle.kernel_run_facts.specs.Watching.{IsAsLent}
use Rattle.kernel_run_facts.specs.kernel_commit_facts.Parts.{Noted}
use Rattle.kernel_run_facts.specs.kernel_commit_facts.Pieces.{CountsWithin}
use Rattle.kernel_run_facts.specs.kernel_commits.Telling.{Tells, TriesByAnswer}
use Rattle.kernel_run_facts.specs.kernel_commits.declared.stopping.Stop.{Stop}
use Rattle.kernel_run_facts.specs.kernel_core_facts.Kernels.{Held, Lives, StaysClean}
use Rattle.kernel_run_facts.specs.kernel_invariant.declared.stopping.Stopped.{Stopped}
use Rattle.kernel_run_facts.specs.kernel_invariant.declared.stopping.Stopped.TheVariants as reason
use Rattle.kernel_run_facts.specs.kernel_laws.Opening.{empty_script, with_script}
use Rattle.node_mirror.proofs.Causes.{caused_none}
use Rattle.node_mirror.specs.Leaving.{BeginsBy, HasNotBegun, IsHaltCause, LeavesKernel, LeavesStandby, MirrorLeaves}
use Rattle.node_mirror.specs.Mirrors.{IsMirroring, Mirrors}
use Rattle.node_mirror.specs.Shipping.{ShipsNew}
use Rattle.node_mirror.specs.Stops.{kernel_part}
use Rattle.node_mirror.specs.declared.lines.Line.{Line}
use Rattle.node_mirror.specs.declared.stops.MirrorHalt.{MirrorHalt}
use Rattle.node_mirror.specs.declared.stops.MirrorHalt.TheVariants as halt
use Rattle.node_offers.specs.Offering.{OffersMore}
use Rattle.node_rounds.specs.Going.{AllShip, AreInStep}
use Rattle.node_rounds.specs.node_standby.Standing.{Standing}
use Rattle.node_rounds.specs.node_standby.node_shipments.Parts.{Shipment, part_in}
use Rattle.node_rounds.specs.node_standby.node_shipments.Runs.{IsShipmentAt}
use Rattle.node_rounds.specs.node_standby.node_shipments.kernel_invariant.Beginnings.{Beginning}
use Rattle.node_rounds.specs.node_standby.node_shipments.node_records.Shipments.{IsShippedOf}
use Rattle.node_rounds.specs.node_standby.store_snapshots.store_facts.State.{books}
use Rattle.node_world.specs.Worlds.{Sending, packet_in}

-- NOTHING WAS OFFERED

abbrev nothing_sent : Sending Shipment
nothing_sent = record { acked = 0; waiting = [] }

pub none_ship : (b : Beginning) (es : List Entry) (s : Sending Shipment) → s ≡ nothing_sent → AllShip b es s
none_ship b es s none place x at = by (nat_lt 0 (place + 1)) (sym (ap (λ (t : Sending Shipment). packet_in t (place + 1)) none) ∙ at)
  where
    by : (t : Bool) → (if t then slice_get nothing_sent.waiting (place + 1 - 0 - 1) else None) ≡ Some x → IsShipmentAt b es place x
    by true is = absurd (cc is)
    by false is = absurd (cc is)

-- THE RECORDS OF THE OPENED IMAGE are the same, whatever the script

module _ (b : Beginning) (script : Script) where
  told_for : (s : Shipment) → IsShippedOf (with_script b script) [] s.entity s.version s.stamp (part_in s.part) s.pages → IsShippedOf b [] s.entity s.version s.stamp (part_in s.part) s.pages
  told_for s is = record {
    from = is.from;
    reached = is.reached;
    components = is.components;
    kind = is.kind;
    cell = is.cell;
    version_is = is.version_is;
    stamp_is = is.stamp_is;
    within = is.within;
    few = is.few;
  }

  ships_for : (s : Sending Shipment) → AllShip (with_script b script) [] s → AllShip b [] s
  ships_for s ship place x at = (let is = ship place x at in record { commit = is.commit; told = told_for x is.told })

  -- ALL OF THEM ARE OFFERED
  pub mirrors_first : {E F : Type 0} (es : List Entry) (known : List ℕ) (old new : Line E) → es ≡ [] → ShipsNew {E = F} (with_script b script) es known new.sender (Ok tt) → OffersMore old.sender new.sender
      → old.sender ≡ nothing_sent → new.standby ≡ old.standby → old.standby.count ≡ 0 → Mirrors (words_of new.words) b [] known 0 new
  mirrors_first {E = E} {F = F} es known old new none ships more empty same count =
      let here : ShipsNew {E = F} (with_script b script) [] known new.sender (Ok tt) = subst (λ (fs : List Entry). ShipsNew {E = F} (with_script b script) fs known new.sender (Ok tt)) none ships in
      let acked : new.sender.acked ≡ 0 = ap (λ (t : Sending Shipment). t.acked) more.are ∙ ap (λ (t : Sending Shipment). t.acked) empty in
      let kept : new.standby.count ≡ 0 = ap (λ (st : Standing E). st.count) same ∙ count in
      record {
        entries = refl;
        knows = here.knows;
        ships = ships_for new.sender here.ships;
        all = here.all;
        course = λ i. record { tally = record { acked = acked i; kept = kept i }; words = words_of new.words };
      }

-- THE KERNEL BEFORE THE RUN

module _ {D : Type 0} (disks : Ghosts D) (old mid : Held D) (lent : IsAsLent disks old mid) where
  same_entries : mid.parts.noted.entries ≡ old.parts.noted.entries
  same_entries = ap (λ (n : Noted). n.entries) lent.notes

  -- where the run never began
  pub begin_leaves : (supply : Supply) (policy : Policy) (most : ℕ) (h : MirrorHalt) → StaysClean disks supply old → BeginsBy mid.stop (Err h) → LeavesKernel disks supply policy most old mid (kernel_part (Err h))
  begin_leaves supply policy most h clean how = record {
    ends = ends_by h how;
    caused = caused_by h how;
    tries = tries_by h how;
    clean = lent.clean supply clean;
    counts = CountsWithin-fewer disks 0 most old.parts.store mid.parts.store (omega arith) lent.counts;
  }
    where
      ends_by : (x : MirrorHalt) → BeginsBy mid.stop (Err x) → Tells (kernel_part (Err x)) mid.stop
      ends_by (halt.Kernel why) q = subst (λ (s : Stop). Tells {T = ⊤} (Err s) mid.stop) (sym q.0) q.1
      ends_by halt.Memory q = q
      ends_by (halt.Round why) q = absurd q

      caused_by : (x : MirrorHalt) → BeginsBy mid.stop (Err x) → IfErr (kernel_part (Err x)) (IsCauseOf disks policy old.parts mid.parts)
      caused_by (halt.Kernel why) q = subst (IsCauseOf disks policy old.parts mid.parts) (sym q.0) (lent.stop reason.ReadFault q.1).1
      caused_by halt.Memory q = tt
      caused_by (halt.Round why) q = absurd q

      tries_by : (x : MirrorHalt) → BeginsBy mid.stop (Err x) → TriesByAnswer (kernel_part (Err x)) old.parts.noted.entries mid.parts.noted.entries
      tries_by (halt.Kernel why) q = subst (λ (s : Stop). TriesByAnswer {T = ⊤} (Err s) old.parts.noted.entries mid.parts.noted.entries) (sym q.0) (adds_none old.parts.noted.entries mid.parts.noted.entries same_entries)
      tries_by halt.Memory q = adds_none old.parts.noted.entries mid.parts.noted.entries same_entries
      tries_by (halt.Round why) q = absurd q

  not_begun : (b : Beginning) → disks.tells → old.parts.noted.entries ≡ [] → Lives disks (with_script b (empty_script b.script.steps)) old → HasNotBegun disks b mid
  not_begun b told none lives = record {
    lives = lent.lives told (with_script b (empty_script b.script.steps)) lives;
    none = same_entries ∙ none;
    stop = λ n is. (let read = (lent.stop (reason.NoBlocks n) is).0 in absurd (cc read));
  }

  pub begin_run : (b : Beginning) (h : MirrorHalt) → disks.tells → old.parts.noted.entries ≡ [] → Lives disks (with_script b (empty_script b.script.steps)) old → BeginsBy mid.stop (Err h) → MirrorLeaves disks b (Err h) mid
  begin_run b (halt.Kernel why) told none lives how = inl (not_begun b told none lives)
  begin_run b halt.Memory told none lives how = inl (not_begun b told none lives)
  begin_run b (halt.Round why) told none lives how = absurd how

  -- and where it began
  pub leaves_then : (supply : Supply) (policy : Policy) (most : ℕ) (new : Held D) (r : Result ⊤ Stop) → LeavesKernel disks supply policy most mid new r → LeavesKernel disks supply policy most old new r
  leaves_then supply policy most new r left = record {
    ends = left.ends;
    caused = cause_behind disks policy old.parts mid.parts new.parts r lent.counts.later left.counts.later left.caused;
    tries = subst (λ (es : List Entry). TriesByAnswer r es new.parts.noted.entries) same_entries left.tries;
    clean = left.clean;
    counts = (let sum : 0 + most ≡ most = omega arith in subst (λ (n : ℕ). CountsWithin disks n old.parts.store new.parts.store) sum (CountsWithin-then disks 0 most old.parts.store mid.parts.store new.parts.store lent.counts left.counts));
  }

-- THE SECOND NODE is as it was, where the run never began
pub begin_second : {E : Type 0} (disks : Ghosts E) (st : Standing E) (o : Option Stopped) (h : MirrorHalt) → (books st.store).shut ≡ false → BeginsBy o (Err h) → LeavesStandby disks (disks.faults st.store.disk) st (Err h)
begin_second disks st o h working how = record {
  later = omega arith;
  shut = λ shut. absurd (false≢true (sym working ∙ shut));
  caused = cause h how;
}
  where
    cause : (x : MirrorHalt) → BeginsBy o (Err x) → IsHaltCause disks (disks.faults st.store.disk) st (Err x)
    cause (halt.Kernel why) q = tt
    cause halt.Memory q = tt
    cause (halt.Round why) q = absurd q

-- A WATCHED LINE AT FIRST
pub mirroring_first : {E : Type 0} (disks : Ghosts E) (faults loss : ℕ) (st : Standing E) (line : Line E) → AreInStep line.sender line.standby → line.loss ≡ loss → line.standby ≡ st → faults ≡ disks.faults st.store.disk
    → (books st.store).shut ≡ false → IsMirroring disks faults loss line None
mirroring_first {E = E} disks faults loss st line step same is at working = record {
  step = step;
  same_loss = same;
  later = (let e : disks.faults line.standby.store.disk ≡ disks.faults st.store.disk = ap (λ (s : Standing E). disks.faults s.store.disk) is in omega (arith, e, at));
  shut = λ shut. absurd (false≢true (sym (ap (λ (s : Standing E). (books s.store).shut) is ∙ working) ∙ shut));
  caused = caused_none disks faults line.standby;
}
