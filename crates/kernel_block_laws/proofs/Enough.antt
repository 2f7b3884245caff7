-- A kernel that is at rest has the blocks that its records may need.
use Rattle.std.proofs.Common.{◌≡◌, ℕ, ◌+◌, ◌*◌, ◌≤◌, ◌==◌, false, count_by, List, length, None, is_some, inl, inr, sym, ap, ◌∙◌, arith}
use Rattle.std.proofs.lemmas.Bool.{false≢true}
use Rattle.edge_disk.specs.declared.disk.Disk.{Ghosts}
use Rattle.base_types.specs.declared.histories.Entry.{Entry}
use Rattle.base_types.specs.Edges.{upto}
use Rattle.kernel_invariant.specs.model_kernel.Histories.{commits_above}
use Rattle.kernel_invariant.specs.image_facts.Layout.{pool_at}
use Rattle.kernel_invariant.specs.image_facts.Logs.{AreFitting}
use Rattle.kernel_invariant.proofs.model_run_laws_lemmas.Few.{Few, few_after}
use Rattle.kernel_invariant.proofs.model_sound_runs_lemmas.Standing.{legal_below}
use Rattle.kernel_invariant.proofs.model_sound_states_lemmas.Empty.{none_beyond}
use Rattle.kernel_invariant.specs.store_books.Books.{Logged, free_in, kept_in, recs_in}
use Rattle.kernel_invariant.specs.Beginnings.{Beginning, BeginsRight, IsLegal, completed, run_of, state_after}
use Rattle.kernel_invariant.specs.Live.{HoldsCommits, KernelView}
use Rattle.kernel_block_laws.specs.Room.{AreTablesWithin, all_born, all_pages, enough_blocks, kept_blocks, named_in, pages_in, working_blocks}
use Rattle.kernel_block_laws.proofs.Counting.{sum_le}
use Rattle.kernel_block_laws.proofs.Kept.{all_rooms, kept_as_many, kept_count, kept_room}
use Rattle.kernel_block_laws.proofs.Used.{free_bound}

few_run : (b : Beginning) (es : List Entry) → BeginsRight b → IsLegal b es → Few (run_of b es)
few_run b es right legal =
    few_after b.supply b.policy b.script b.state es right.sound.below (none_beyond b.supply b.state right.sound) (legal_below b.supply b.policy b.script right.script b.state es right.names right.sound.sound legal) legal

-- no Stable is cut short where none is owed
pub calm_whole : (b : Beginning) (es : List Entry) → BeginsRight b → IsLegal b es → (run_of b es).owed ≡ None → (run_of b es).short ≡ false
calm_whole b es right legal calm = elim (few_run b es right legal).short_owed as (λ _. (run_of b es).short ≡ false) [
  | inl is ↦ is
  | inr owed ↦ absurd (false≢true (sym (ap is_some calm) ∙ owed.0))
]

module _ {D : Type 0} (b : Beginning) (disks : Ghosts D) (k : KernelView) (disk : D) (right : BeginsRight b) (legal : IsLegal b k.history) (h : HoldsCommits b disks k disk) where
  fit : AreFitting k.books.count (recs_in k.books)
  fit = (h.books.stored h.small h.working).fit

  pub few_kept : length (kept_in k.books) ≤ 320
  few_kept = kept_count b k.history right legal k.books.count (disks.reading disk) k.books fit h.records

  pub each_kept : (x : ℕ) → count_by (λ (l : Logged). l.rec.entity == x) (kept_in k.books) ≡ commits_above (completed b k.history) (run_of b k.history).cut x
  each_kept x = kept_as_many b k.history right legal k.books.count (disks.reading disk) k.books fit h.records x

  pub kept_bound : (n : ℕ) → ((x : ℕ) → commits_above (completed b k.history) (run_of b k.history).cut x ≤ n) → kept_blocks k.books ≤ n * (all_pages (state_after b k.history) + 8 * all_born (state_after b k.history))
  kept_bound n few =
      let most = kept_room b k.history right legal k.books.count (disks.reading disk) k.books fit h.records n few in
      let rooms = ap (λ m. n * m) (all_rooms (state_after b k.history)) in
      omega (arith, most, rooms)

  module _ (tabled : AreTablesWithin (state_after b k.history) k.tables) where
    working_bound : working_blocks k.tables ≤ all_pages (state_after b k.history)
    working_bound = sum_le (λ x. named_in (k.tables x)) (λ x. pages_in (state_after b k.history x).cell) (λ x. (tabled x).0) (upto 64)

    pub room_bound : (n : ℕ) → ((x : ℕ) → commits_above (completed b k.history) (run_of b k.history).cut x ≤ n)
        → k.books.count ≤ pool_at + free_in k.books + n * (all_pages (state_after b k.history) + 8 * all_born (state_after b k.history)) + all_pages (state_after b k.history)
    room_bound n few =
        let free = free_bound k.books k.tables h.owned h.looked (λ x. (tabled x).1) in
        let kept = kept_bound n few in
        let working = working_bound in
        omega (arith, free, kept, working)

    pub room_enough : (run_of b k.history).short ≡ false → enough_blocks (state_after b k.history) ≤ k.books.count → all_pages (state_after b k.history) + 8 * all_born (state_after b k.history) ≤ free_in k.books
    room_enough whole enough =
        let room = room_bound 4 (λ x. (few_run b k.history right legal).four whole x) in
        omega (arith, room, enough)
