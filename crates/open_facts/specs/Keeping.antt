-- What keeping the chosen records of an image leaves of it.
use Rattle.std.specs.Prelude.{◌≡◌, AllPairs}
use Rattle.edge_disk.specs.Image.{Image}
use Rattle.base_types.specs.Edges.{upto}
use Rattle.image_facts.specs.model_kernel.State.{Supply, KernelState}
use Rattle.image_facts.specs.Checks.{count_in}
use Rattle.table_opened.specs.image_meaning.Meaning.{Means}
use Rattle.table_opened.specs.image_meaning.Parts.{cut_of}
use Rattle.table_opened.specs.log_facts.Logs.{AreInRange, IsOlder}
use Rattle.kernel_views.specs.store_facts.Choosing.{IsKeeping, chosen_list}
use Rattle.table_opened.specs.store_books.Books.{Books, recs_in}

-- THE LAW: what stands on the disk at any moment, the log as it was found or the chosen records alone, and all else in the pool as it
-- was, means what the image meant
abbrev pub KeepingLaw : Type 0
KeepingLaw = (s : Supply) (image c : Image) (v : KernelState) (m : Means s image v) (b : Books) → m.accepted.recs ≡ recs_in b → b.count ≡ count_in image
    → AreInRange b.count (recs_in b) → AllPairs IsOlder (recs_in b) → IsKeeping image b (chosen_list (cut_of (recs_in b)) (recs_in b) (upto 64)) c → Means s c v
