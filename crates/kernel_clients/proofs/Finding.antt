-- What a stop leaves of a kernel that lives, and what is read of it.
use Rattle.std.proofs.Common.{◌≡◌, ◌≤◌, ℕ, List, Ok, Err, sym, ap, subst, ◌∙◌, arith}
use Rattle.edge_disk.specs.Image.{Image}
use Rattle.edge_disk.specs.Kept.{MayLeave}
use Rattle.edge_disk.specs.MemoryDisk.{left_since_of, memory_disks, moments_of, reading_of, stood_at}
use Rattle.edge_disk.specs.declared.memory.MemoryDisk.{MemoryDisk}
use Rattle.edge_managers.specs.Managers.{counted_word}
use Rattle.base_types.specs.declared.histories.Entry.{Entry}
use Rattle.kernel_core.specs.kernel_core_facts.Kernels.{Held, Lives}
use Rattle.kernel_core.specs.kernel_invariant.Beginnings.{Beginning, IsLegal}
use Rattle.kernel_core.specs.kernel_invariant.Left.{IsCutImage}
use Rattle.image_reading.proofs.image_meaning_lemmas.Firsts.{not_both}
use Rattle.image_reading.proofs.image_meaning_lemmas.Ones.{one_meaning}
use Rattle.image_reading.specs.image_meaning.Foreign.{IsForeign}
use Rattle.image_reading.specs.image_meaning.Meaning.{Means}
use Rattle.image_reading.specs.image_blocks.Checks.{Bad}
use Rattle.image_reading.specs.image_shown_facts.Facts.{MeansState}
use Rattle.image_reading.specs.plain_states.Plains.{cells_of}
use Rattle.image_reading.specs.declared.image.ImageFacts.{ImageFacts}
use Rattle.log_reading.specs.declared.faults.ReadingFault.TheVariants.{Foreign}
use Rattle.kernel_core.specs.model_kernel.State.{KernelState, Supply}
use Rattle.kernel_clients.specs.Keeping.{FindsCut}
use Rattle.kernel_clients.specs.declared.stopping.Found.{Found}

-- what a stop leaves at a moment might have been left since
left_then : (d : MemoryDisk) (t : ℕ) (c : Image) → t ≤ moments_of d → MayLeave (stood_at d t) c → left_since_of d t c
left_then d t c within may = (t, omega arith, within, may)

-- what was read is the state that the image means
module _ (c : Image) (v : KernelState) (means : Means counted_word c v) where
  same_objects : (read : ImageFacts) → MeansState counted_word c read.state read.cut.0 → (x : ℕ) → cells_of counted_word read.state x ≡ (v x).cell
  same_objects read meant x =
      let same : meant.state ≡ v = one_meaning counted_word c meant.state v meant.means means in
      sym (meant.has.cells x) ∙ ap (λ (w : KernelState). (w x).cell) same

-- THE CUT IS FOUND
pub finds : (b : Beginning) (k : Held MemoryDisk) (f : Found) (c : Image) → b.supply ≡ counted_word → Lives memory_disks b k
    → f.history.items ≡ k.parts.noted.entries → f.marks.items ≡ k.parts.noted.marks → f.disk ≡ k.parts.store.disk
    → f.stopped ≤ moments_of k.parts.store.disk → MayLeave (stood_at k.parts.store.disk f.stopped) c → reading_of f.left ≡ c
    → ((read : ImageFacts) → f.facts ≡ Ok read → MeansState counted_word c read.state read.cut.0)
    → ((bad : Bad) → f.facts ≡ Err (Foreign bad) → IsForeign c bad)
    → b.first ≤ f.stopped → FindsCut b f
finds b k f c supply lives history marks disk within may reads meaning foreign first = record {
  legal = subst (IsLegal b) (sym history) lives.live.running.legal;
  image = image;
  objects = λ read is x. same_objects c image.state means read (meaning read is) x;
  accepted = λ bad is. not_both c bad means.accepted (foreign bad is);
}
  where
    there : IsCutImage b k.parts.noted.entries k.parts.noted.marks (moments_of k.parts.store.disk) f.stopped c
    there = lives.live.running.moments tt f.stopped c first (left_then k.parts.store.disk f.stopped c within may)

    image : IsCutImage b f.history.items f.marks.items (moments_of f.disk) f.stopped (reading_of f.left)
    image =
        subst (λ (es : List Entry). IsCutImage b es f.marks.items (moments_of f.disk) f.stopped (reading_of f.left)) (sym history)
        (subst (λ (ms : List ℕ). IsCutImage b k.parts.noted.entries ms (moments_of f.disk) f.stopped (reading_of f.left)) (sym marks)
        (subst (λ (d : MemoryDisk). IsCutImage b k.parts.noted.entries k.parts.noted.marks (moments_of d) f.stopped (reading_of f.left)) (sym disk)
        (subst (λ (i : Image). IsCutImage b k.parts.noted.entries k.parts.noted.marks (moments_of k.parts.store.disk) f.stopped i) (sym reads) there)))

    means : Means counted_word c image.state
    means = subst (λ (i : Image). Means counted_word i image.state) reads (subst (λ (s : Supply). Means s (reading_of f.left) image.state) supply image.means)
