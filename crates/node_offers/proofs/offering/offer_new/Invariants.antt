use Rattle.std.proofs.Common.{◌≡◌, ◌^◌, ◌<◌, ◌≤◌, ℕ, None, length, slice_index}
use Rattle.node_newest.specs.kernel_core.kernel_book_laws.Matching.{newest_of}
use Rattle.node_newest.specs.kernel_core.kernel_core_facts.Kernels.{Lives}
use Rattle.node_newest.specs.kernel_run_facts.Watching.{IsAsLent}
use Rattle.node_offers.proofs.Offers.{newer_below}
use Rattle.node_offers.proofs.offering.offer_new.Given as goal
use Rattle.node_offers.specs.Offering.{OffersMore, OffersNewest}
use Rattle.node_world.specs.Worlds.{offered}
use Rattle.node_newest.specs.node_shipments.kernel_invariant.Beginnings.{Beginning}

abbrev pub invariant-loop-number : goal.invariant-loop-number
invariant-loop-number g l = record {
  going : l.kernel.stop ≡ None;
  long : length l.known ≡ 64;
  lent : IsAsLent g.D.Disk l.fn.kernel l.kernel;
  more : OffersMore l.fn.sender l.sender;
  few : offered l.fn.sender < 2 ^ 64 → offered l.sender < 2 ^ 64;
  told : g.D.Disk.tells → (b : Beginning) → Lives g.D.Disk b l.fn.kernel
      → OffersNewest b l.fn.kernel.parts.noted.entries (newer_below b l.fn.kernel.parts.noted.entries (slice_index l.fn.known) l.number) l.fn.sender l.sender;
  known : (x : ℕ) → x < l.number → slice_index l.known x ≡ newest_of l.fn.kernel.parts.cells x;
  unknown : (x : ℕ) → l.number ≤ x → slice_index l.known x ≡ slice_index l.fn.known x;
}
