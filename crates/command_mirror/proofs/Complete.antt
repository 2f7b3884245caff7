-- A mirrored run that can be made is made, unless the source, a disk or the sink fails, memory runs out, or blocks are too few.
use Rattle.std.proofs.Common.{◌≡◌, ◌⊎◌, inl, inr, ℕ, ◌<◌, [], length, None, Some, Ok, Err, refl, sym, ap, subst, ◌∙◌, arith}
use Rattle.base_managers.specs.Managing.{ManagerTables}
use Rattle.edge_disk.specs.Image.{Image}
use Rattle.edge_disk.specs.declared.disk.NoBlocks.{NoBlocks}
use Rattle.kernel_invariant.proofs.image_meaning_lemmas.Firsts.{not_both}
use Rattle.kernel_invariant.proofs.image_meaning_lemmas.Ones.{one_log}
use Rattle.command_open.proofs.command_promises_lemmas.Complete.{not_misfit, of_known}
use Rattle.command_open.specs.command_promises.Booked.{none_brought}
use Rattle.command_open.specs.command_promises.Manners.{serial}
use Rattle.command_open.specs.command_promises.Openings.{Managers}
use Rattle.command_open.specs.command_promises.store_facts.image_blocks.Checks.{Bad, records_fault}
use Rattle.command_outcomes.specs.Seen.{Call, Gave, SeenDisk}
use Rattle.command_outcomes.specs.declared.faults.Fault.TheVariants as fault
use Rattle.command_source.specs.Sources.{IsAccepted}
use Rattle.command_open.specs.command_promises.script_meaning.Meaning.{Source}
use Rattle.command_open.specs.command_promises.script_meaning.Reading.{Reading}
use Rattle.node_mirror.specs.declared.lines.Losing.{Losing}
use Rattle.node_standby.specs.Causes.{HasUsed, IsEmptyImage}
use Rattle.script_types.specs.declared.refusals.Refusal.{Refusal}
use Rattle.script_types.specs.model_kernel.Output.{output_of}
use Rattle.script_types.specs.model_kernel.Scripts.{Script as Tables}
use Rattle.script_types.specs.model_kernel.State.{Text}
use Rattle.command_mirror.specs.Leaving.{CanMirror, IsManaged, IsManagedFault, IsMirrorComplete, IsUnread, MirrorLeaves}
use Rattle.command_mirror.specs.Statuses.{mirror_status}
use Rattle.command_mirror.specs.declared.faults.MirrorFault.{MirrorFault}
use Rattle.command_mirror.specs.declared.faults.MirrorFault.TheVariants as mirror
use Rattle.command_mirror.specs.declared.faults.SecondFault.TheVariants as second_fault
use Rattle.command_mirror.specs.declared.statuses.MirrorStatus.{MirrorStatus}
use Rattle.command_mirror.specs.declared.statuses.MirrorStatus.TheVariants.{First, Second}
use Rattle.command_mirror.specs.declared.statuses.MirrorWhy.TheVariants.{BlocksFull}
use Rattle.command_mirror.proofs.Leaving.{Stops, Unopened}

-- an empty image has no bad place, and no record
not_bad : (image : Image) (bad : Bad) → IsEmptyImage image → records_fault image ≡ Some bad → ⊥
not_bad image bad empty is = (let clash : None ≡ Some bad = sym empty.good ∙ is in absurd (cc clash))

not_used : (image : Image) (used : ℕ) → IsEmptyImage image → HasUsed used image → ⊥
not_used image used empty h =
    let none : [] ≡ h.recs = one_log image [] h.recs empty h.has in
    let many : length h.recs ≡ used = h.many in
    let some : 0 < used = h.some in
    let zero_used : 0 ≡ used = ap length none ∙ many in
    omega (arith, zero_used, some)

abbrev brought_in : ManagerTables → Reading Source → ManagerTables
brought_in other (Ok source) = source.managers
brought_in other (Err blame) = other

-- a source brings the same managers, whichever script it stands for
one_brought : (bytes : Text) (script other : Tables) (brought others : ManagerTables) → IsAccepted bytes script brought → IsAccepted bytes other others → brought ≡ others
one_brought bytes script other brought others a b = ap (brought_in brought) (sym a.1 ∙ b.1)

-- and those that bring none are not refused for them
none_managed : (refusal : Refusal) → IsManagedFault none_brought (fault.Script refusal) → ⊥
none_managed refusal (why, inl h) = h.0 refl
none_managed refusal (why, inr h) = h.1 refl

module _ (m : Managers) (call : Call) (second : SeenDisk) (losing : Losing) (gave : Gave) (kept made : ℕ) (can : CanMirror m call second) where
  not_managed : (refusal : Refusal) → IsManaged call (fault.Script refusal) → ⊥
  not_managed refusal h =
      let accepted : IsAccepted can.run.bytes h.script h.brought = of_known call.source.before can.run.bytes (λ b. IsAccepted b h.script h.brought) can.run.known h.read.accepted in
      let brought : h.brought ≡ none_brought = one_brought can.run.bytes h.script can.run.script h.brought can.run.brought accepted can.run.accepted ∙ can.plain in
      none_managed refusal (subst (λ (ms : ManagerTables). IsManagedFault ms (fault.Script refusal)) brought h.refused)

  -- the script is not refused
  not_script : (refusal : Refusal) → Unopened m call second losing gave kept made (fault.Script refusal) → ⊥
  not_script refusal (inr plain) = not_misfit (serial output_of) m call gave can.run refusal (inr (plain.script, none_brought, plain.read, plain.holds.first))
  not_script refusal (inl h) = by h.why
    where
      by : IsUnread call (fault.Script refusal) ⊎ IsManaged call (fault.Script refusal) → ⊥
      by (inl unread) = not_misfit (serial output_of) m call gave can.run refusal (inl (unread.stops, h.same, unread.time))
      by (inr managed) = not_managed refusal managed

  -- nor the image
  not_foreign : (block place : ℕ) → Unopened m call second losing gave kept made (fault.Foreign block place) → ⊥
  not_foreign block place (inr plain) = not_both call.disk.before.reading _ can.run.means.accepted (plain.holds.first can.run.told).0
  not_foreign block place (inl h) = by h.why
    where
      by : IsUnread call (fault.Foreign block place) ⊎ IsManaged call (fault.Foreign block place) → ⊥
      by (inl unread) = unread.stops
      by (inr managed) = managed.refused

  not_source : (call.source.rose → ⊥) → Unopened m call second losing gave kept made fault.Source → ⊥
  not_source calm (inr plain) = plain.holds.first
  not_source calm (inl h) = by h.why
    where
      by : IsUnread call fault.Source ⊎ IsManaged call fault.Source → ⊥
      by (inl unread) = calm unread.stops
      by (inr managed) = managed.refused

  module _ (source : call.source.rose → ⊥) (disk : call.disk.rose → ⊥) (beside : second.rose → ⊥) (sink : call.sink.rose → ⊥) (status : MirrorStatus)
      (few : (n : NoBlocks) → status ≡ First (BlocksFull n) → ⊥) (few_beside : (n : NoBlocks) → status ≡ Second (BlocksFull n) → ⊥) where
    stopped : (f : MirrorFault) → status ≡ mirror_status f → Stops m call second losing gave kept made f → IsMirrorComplete status
    stopped (mirror.First fault.Usage) is h = absurd h
    stopped (mirror.First (fault.Script refusal)) is h = absurd (not_script refusal h)
    stopped (mirror.First (fault.Foreign block place)) is h = absurd (not_foreign block place h)
    stopped (mirror.First fault.DiskFault) is h = absurd (disk h.0)
    stopped (mirror.First fault.Source) is h = absurd (not_source source h)
    stopped (mirror.First fault.Memory) is h = inr (inl is)
    stopped (mirror.First (fault.NoBlocks n)) is h = absurd (few n is)
    stopped (mirror.Second (second_fault.Foreign block place)) is h = absurd (not_bad second.before.reading _ can.empty (h.0 can.told))
    stopped (mirror.Second second_fault.DiskFault) is h = absurd (beside h.0)
    stopped (mirror.Second second_fault.Memory) is h = inr (inr is)
    stopped (mirror.Second (second_fault.NoBlocks n)) is h = absurd (few_beside n is)
    stopped (mirror.NotEmpty used) is h = absurd (not_used second.before.reading used can.empty (h.0 can.told))

    pub complete : MirrorLeaves m call second losing gave kept made status → IsMirrorComplete status
    complete (inl (is, h)) = inl is
    complete (inr (inl (is, h, rose))) = absurd (sink rose)
    complete (inr (inr (f, is, h))) = stopped f is h
