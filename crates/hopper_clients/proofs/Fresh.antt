-- The image that `format` made: it means the state in which nothing is born, and its numbers are low.
use Rattle.std.proofs.Common.{◌≡◌, ℕ, List, [], ◌∷◌, Some, Result, Ok, Err, IfOk, codes, sym, ap, subst, ◌∙◌, arith}
use Rattle.std.proofs.lemmas.Option.{same_Some}
use Rattle.command_outcomes.specs.Seen.{gave}
use Rattle.command_outcomes.specs.Statuses.{ending}
use Rattle.command_outcomes.specs.declared.statuses.Status.{Status}
use Rattle.command_outcomes.specs.declared.statuses.Status.TheVariants.{Done}
use Rattle.command_words.specs.Commands.{IsCommand}
use Rattle.command_words.specs.declared.Command.{Command}
use Rattle.command_words.specs.declared.Command.TheVariants.{Format}
use Rattle.edge_disk.specs.Image.{Image, block_at}
use Rattle.edge_disk.specs.MemoryDisk.{moments_of, reading_of}
use Rattle.edge_disk.specs.declared.memory.MemoryDisk.{MemoryDisk}
use Rattle.hopper_top.specs.command_format.Formats.{FormatLeaves, HasFormatted}
use Rattle.hopper_top.proofs.image_meaning_lemmas.Ones.{one_meaning}
use Rattle.hopper_top.specs.command_promises.Booked.{over}
use Rattle.hopper_top.specs.command_promises.Openings.{run_from}
use Rattle.hopper_top.specs.command_promises.Leaving.{OfRun}
use Rattle.command_outcomes.specs.model_kernel.State.{KernelState, Supply, Text, empty_state}
use Rattle.command_outcomes.specs.model_kernel.Steps.{atlas_in}
use Rattle.hopper_top.specs.kernel_invariant.Beginnings.{Beginning}
use Rattle.hopper_top.specs.model_births.Fitting.{Fits}
use Rattle.command_outcomes.specs.image_blocks.Checks.{active_area, active_by}
use Rattle.command_outcomes.specs.image_blocks.Layout.{epoch_in}
use Rattle.hopper_top.specs.image_facts.Layout.{first_number, header_block}
use Rattle.command_outcomes.specs.image_blocks.declared.areas.Area.{Area}
use Rattle.command_outcomes.specs.image_blocks.declared.areas.Area.TheVariants.{A, B}
use Rattle.hopper_top.specs.image_meaning.Empty.{IsFormatted}
use Rattle.hopper_top.specs.open_facts.Images.{HasLowEpoch, HasTurnLeft}
use Rattle.hopper_top.specs.image_meaning.Meaning.{Means}
use Rattle.hopper_top.specs.open_kernel.Starts.{HasLowNumbers}
use Rattle.hopper_clients.specs.Images.{HasNewImage}
use Rattle.hopper_clients.specs.Calls.{IsCalled, managers, new_sink, seen_by, seen_lines, seen_memory}
use Rattle.hopper_clients.specs.declared.calling.Called.{Called}
use Rattle.hopper_clients.proofs.Carried.{HadMemory, command_leaves, format_words}

-- AN IMAGE AS IT IS FORMATTED HAS LOW NUMBERS

first_epoch : (block : List ℕ) → block ≡ header_block 1 → first_number block ≡ 1
unfolding header_block
first_epoch block is = ap first_number is

active_is : (count : ℕ) (image : Image) → IsFormatted count image → active_area image ≡ Some A
active_is count image f = λ i. active_by (f.active i) (f.other i) (epoch_in image A) (epoch_in image B)

one_epoch : (count : ℕ) (image : Image) → IsFormatted count image → (area : Area) → active_area image ≡ Some area → epoch_in image area ≡ 1
one_epoch count image f area is =
    let same : A ≡ area = same_Some A area (sym (active_is count image f) ∙ is) in
    subst (λ (a : Area). epoch_in image a ≡ 1) same (first_epoch (block_at image 1) f.epoch)

pub turn_left : (count : ℕ) (image : Image) → IsFormatted count image → HasTurnLeft image
turn_left count image f area is = let one : epoch_in image area ≡ 1 = one_epoch count image f area is in omega (arith, one)

low_epoch : (count : ℕ) (image : Image) → IsFormatted count image → HasLowEpoch image
low_epoch count image f area is = let one : epoch_in image area ≡ 1 = one_epoch count image f area is in omega (arith, one)

pub low_numbers : (count : ℕ) (image : Image) → IsFormatted count image → HasLowNumbers image empty_state
low_numbers count image f = record { epoch = low_epoch count image f; versions = λ x. omega arith }

-- THE DISK BEHIND `format`

-- it has a new image
pub fresh : (text : Text) (old : MemoryDisk) (called : Called) → IsCalled (Format 4096) text old called → called.outcome.status ≡ Done → HasNewImage called.outcome.disk
fresh text old called is done =
    let whole : HasFormatted 4096 (seen_memory old called.outcome.disk) (seen_lines new_sink called.sink) (gave called.outcome) =
    subst (λ (status : Status). FormatLeaves 4096 (seen_memory old called.outcome.disk) (seen_lines new_sink called.sink) (gave called.outcome) (ending status)) done
    (command_leaves (Format 4096) text old called is (subst (λ (status : Status). HadMemory status) (sym done) tt)).1 in
    record { formatted = (whole.made tt).formatted; means = λ supply. whole.means tt supply }

-- and so it is where the call was answered at all
pub fresh_called : {E : Type 0} (words : List Text) (text : Text) (old : MemoryDisk) (r : Result Called E) → words ≡ codes "format" ∷ codes "4096" ∷ [] → IfOk r (λ called. (c : Command) → IsCommand words c → IsCalled c text old called)
    → IfOk r (λ called. called.outcome.status ≡ Done → HasNewImage called.outcome.disk)
fresh_called words text old (Ok called) is all = λ done. fresh text old called (all (Format 4096) (format_words words is)) done
fresh_called words text old (Err e) is all = tt

-- A RUN ON SUCH A DISK

-- whatever the supplier
pub means_nothing : (d : MemoryDisk) → HasNewImage d → (supply : Supply) → Means supply (reading_of d) empty_state
means_nothing d new supply = new.means supply (reading_of d) d.tape.readable

-- what holds of the run while the image's numbers are low holds of it, from the state in which nothing is born
pub run_holds : (text : Text) (old : MemoryDisk) (ran : Called) → HasNewImage old → (P : Beginning → Type 0) → (o : OfRun managers (seen_by text old ran) P)
    → P (run_from (over o.brought managers) o.script empty_state (moments_of old))
run_holds text old ran new P o =
    let opened = o.opened tt in
    let supply = (over o.brought managers).supply in
    let same : opened.state ≡ empty_state = one_meaning supply (reading_of old) opened.state empty_state opened.means (means_nothing old new supply) in
    let low : HasLowNumbers (reading_of old) opened.state = subst (λ (v : KernelState). HasLowNumbers (reading_of old) v) (sym same) (low_numbers 4096 (reading_of old) new.formatted) in
    subst (λ (v : KernelState). P (run_from (over o.brought managers) o.script v (moments_of old))) same (opened.run low)

-- and the script fits that state
pub run_fits : (text : Text) (old : MemoryDisk) (ran : Called) → HasNewImage old → (P : Beginning → Type 0) → (o : OfRun managers (seen_by text old ran) P) → Fits (atlas_in (empty_state 0).cell) o.script
run_fits text old ran new P o =
    let opened = o.opened tt in
    let supply = (over o.brought managers).supply in
    subst (λ (v : KernelState). Fits (atlas_in (v 0).cell) o.script) (one_meaning supply (reading_of old) opened.state empty_state opened.means (means_nothing old new supply)) opened.fits
