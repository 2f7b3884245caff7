-- Why a store is not opened.
use Rattle.std.proofs.Common.{◌≡◌, ℕ, ◌≤◌, Some, refl, sym, subst}
use Rattle.std.specs.Prelude.{Err, IfErr, IsErrAnd, IsErrOf, Ok, Result}
use Rattle.edge_disk.specs.Counts.{Rose}
use Rattle.edge_disk.specs.Image.{Image}
use Rattle.store_facts.specs.image_blocks.Checks.{Bad as BadPlace, records_fault}
use Rattle.store_facts.specs.log_reading.declared.faults.ReadingFault.{ReadingFault}
use Rattle.store_facts.specs.log_reading.declared.faults.ReadingFault.TheVariants as reading
use Rattle.store_facts.specs.log_reading.declared.log.ImageLog.{ImageLog}
use Rattle.store_snapshots.specs.OpenFaults.{HasOpenCause, why}
use Rattle.store_snapshots.specs.declared.opening.OpenWhy.{OpenWhy}
use Rattle.edge_disk.proofs.Ticks.{Rose-before}

pub why_not : {T : Type 0} (r : Result T OpenWhy) (P : OpenWhy → Type 0) (w : OpenWhy) → IsErrAnd r (λ e. e ≡ w) → P w → IfErr r P
why_not (Ok x) P w is h = absurd is
why_not (Err e) P w is h = subst P (sym is) h

-- why the log could not be read, behind the sync
pub read_cause : (tells : Type 0) (a b : Image) (before mid now : ℕ) (fault : ReadingFault) → (tells → b ≡ a) → before ≤ mid → mid ≤ now
    → (tells → (bad : BadPlace) → IsErrOf {T = ImageLog} {E = ReadingFault} (Err fault) (reading.Foreign bad) → records_fault b ≡ Some bad) → (IsErrOf {T = ImageLog} {E = ReadingFault} (Err fault) reading.ReadFault → Rose mid now)
    → HasOpenCause tells a before now (why fault)
read_cause tells a b before mid now (reading.Foreign bad) same one two foreign read = λ t. subst (λ (i : Image). records_fault i ≡ Some bad) (same t) (foreign t bad refl)
read_cause tells a b before mid now reading.ReadFault same one two foreign read = Rose-before before mid now one two (read refl)
read_cause tells a b before mid now reading.Memory same one two foreign read = tt
