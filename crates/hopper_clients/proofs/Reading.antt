-- What `show` tells of an image whose meaning is known.
use Rattle.std.proofs.Common.{◌≡◌, ℕ, sym, ap, subst, ◌∙◌}
use Rattle.command_outcomes.specs.Seen.{gave}
use Rattle.command_outcomes.specs.Statuses.{ending}
use Rattle.command_outcomes.specs.declared.statuses.Status.{Status}
use Rattle.command_outcomes.specs.declared.statuses.Status.TheVariants.{Done, Foreign}
use Rattle.command_words.specs.declared.Command.TheVariants.{Show}
use Rattle.edge_disk.specs.MemoryDisk.{reading_of}
use Rattle.edge_disk.specs.declared.memory.MemoryDisk.{MemoryDisk}
use Rattle.command_outcomes.specs.model_kernel.State.{KernelState, Text}
use Rattle.hopper_top.proofs.image_meaning_lemmas.Firsts.{not_both}
use Rattle.hopper_top.proofs.image_meaning_lemmas.Ones.{one_meaning}
use Rattle.hopper_top.specs.image_meaning.Meaning.{Means}
use Rattle.edge_managers.specs.Managers.{counted_word}
use Rattle.hopper_top.specs.plain_show.Show.{shown}
use Rattle.hopper_top.specs.command_show.Shows.{ShowLeaves}
use Rattle.hopper_clients.specs.Calls.{IsCalled, new_sink, seen_lines, seen_memory}
use Rattle.hopper_clients.specs.declared.calling.Called.{Called}
use Rattle.hopper_clients.proofs.Carried.{HadMemory, command_leaves}

module _ (text : Text) (old : MemoryDisk) (called : Called) (w : KernelState) (is : IsCalled Show text old called) (means : Means counted_word (reading_of old) w) where
  -- what it leaves, by its status
  leaves_by : (status : Status) → HadMemory status → called.outcome.status ≡ status
      → ShowLeaves counted_word (seen_memory old called.outcome.disk) (seen_lines new_sink called.sink) (gave called.outcome) (ending status)
  leaves_by status had e =
      subst (λ (s : Status). ShowLeaves counted_word (seen_memory old called.outcome.disk) (seen_lines new_sink called.sink) (gave called.outcome) (ending s)) e
      (command_leaves Show text old called is (subst (λ (s : Status). HadMemory s) (sym e) had)).1

  pub shown_text : called.outcome.status ≡ Done → called.text.items ≡ shown counted_word (λ x. (w x).cell)
  shown_text done =
      let ends = (leaves_by Done tt done).ends in
      let meant = ends.meant tt in
      let same : meant.state ≡ w = one_meaning counted_word (reading_of old) meant.state w meant.means means in
      is.put ∙ ends.output ∙ ap (shown counted_word) (λ i x. (sym (meant.same x) ∙ ap (λ (v : KernelState). (v x).cell) same) i)

  pub no_bad_place : (block place : ℕ) → called.outcome.status ≡ Foreign block place → ⊥
  no_bad_place block place bad = not_both (reading_of old) (record { block = block; place = place }) means.accepted ((leaves_by (Foreign block place) tt bad).ends.why tt)
