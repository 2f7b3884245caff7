-- What a formatting leaves, from the clauses of the call below.
use Rattle.std.proofs.Common.{◌≡◌, ◌≤◌, ◌<◌, ℕ, inl, inr, refl, sym, subst}
use Rattle.std.proofs.lemmas.Bool.{cases_lt}
use Rattle.edge_disk.specs.declared.disk.Disk.{Ghosts}
use Rattle.edge_disk.specs.Image.{Image}
use Rattle.edge_disk.specs.Moments.{LeavesOnly}
use Rattle.image_format.specs.Faults.{IsSmall, IsWriteFault}
use Rattle.image_format.specs.Formats.{IsFormatting}
use Rattle.image_format.specs.declared.formatting.FormatFault.{FormatFault}
use Rattle.command_outcomes.specs.Ends.{IsUnrun}
use Rattle.command_outcomes.specs.Seen.{Gave, SeenSink, seen_disk}
use Rattle.command_outcomes.specs.Statuses.{status_by}
use Rattle.command_outcomes.specs.Statuses.{ending}
use Rattle.command_outcomes.proofs.Endings.{by_fault}
use Rattle.command_outcomes.proofs.SeenDisks.{leaves_images}
use Rattle.command_format.specs.Formats.{FormatLeaves, IsHalfMade, StopsFormat, fault_of_format}

module _ {D : Type 0} (disks : Ghosts D) (blocks : ℕ) (disk : D) where
  half_made : (new : D) (c : Image) → IsFormatting disks.may_leave blocks disk c → IsHalfMade blocks (seen_disk disks disk new) c
  half_made new c (inl was) = inl (was.from, was.could, was.same)
  half_made new c (inr rest) = inr rest

  module _ (sink : SeenSink) (gave : Gave) (fault : FormatFault D) (unrun : IsUnrun sink gave (fault_of_format fault.why)) where
    abbrev Stops : Type 0
    Stops = StopsFormat blocks (seen_disk disks disk fault.disk) sink gave (fault_of_format fault.why)

    -- the disk is too small
    too_small : disks.block_count disk < blocks → IsSmall blocks (disks.block_count disk) disk fault → Stops
    too_small fewer few =
        subst (λ why. StopsFormat blocks (seen_disk disks disk fault.disk) sink gave (fault_of_format why)) (sym few.why)
        (subst (λ why. IsUnrun sink gave (fault_of_format why)) few.why unrun, record { fewer = fewer; numbers = refl; same = few.untouched })

    -- a call of the disk failed
    broken : blocks ≤ disks.block_count disk → IsWriteFault disks.faults disk fault → (disks.tells → LeavesOnly disks disk fault.disk (IsFormatting disks.may_leave blocks disk)) → Stops
    broken enough failed moments =
        subst (λ why. StopsFormat blocks (seen_disk disks disk fault.disk) sink gave (fault_of_format why)) (sym failed.why) (
          subst (λ why. IsUnrun sink gave (fault_of_format why)) failed.why unrun,
          record {
            enough = enough;
            rose = failed.cause;
            moments = λ told. leaves_images disks disk fault.disk (IsFormatting disks.may_leave blocks disk) _ (half_made fault.disk) (moments told);
          },
        )

    -- one of the two
    pub stopped : (new : D) → new ≡ fault.disk → gave.status ≡ status_by (fault_of_format fault.why)
        → (disks.block_count disk < blocks → IsSmall blocks (disks.block_count disk) disk fault) → (blocks ≤ disks.block_count disk → IsWriteFault disks.faults disk fault)
        → (disks.tells → LeavesOnly disks disk fault.disk (IsFormatting disks.may_leave blocks disk))
        → FormatLeaves blocks (seen_disk disks disk new) sink gave (ending gave.status)
    stopped new same status small large moments =
        subst (λ d. FormatLeaves blocks (seen_disk disks disk d) sink gave (ending gave.status)) (sym same)
        (by_fault (FormatLeaves blocks (seen_disk disks disk fault.disk) sink gave) gave.status (fault_of_format fault.why) status
        (elim (cases_lt (disks.block_count disk) blocks) [ inl fewer ↦ too_small fewer (small fewer) | inr enough ↦ broken enough (large enough) moments ]))
