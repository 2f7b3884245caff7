-- A mirrored run, as the watched one ends.
use Rattle.std.proofs.Common.{◌≡◌, ◌⊎◌, inl, inr, ℕ, ◌+◌, ◌*◌, List, ◌++◌, replicate, Ok, Err, refl, sym, ap, subst, ◌∙◌}
use Rattle.std.specs.Prelude.{OnOk, Result, ⊤}
use Rattle.edge_disk.specs.declared.disk.Disk.{Ghosts}
use Rattle.base_types.specs.declared.histories.Entry.{Entry}
use Rattle.drawn_words.specs.Words.{Words}
use Rattle.kernel_run_facts.specs.declared.halts.Halt.{Halt}
use Rattle.kernel_run_facts.specs.declared.halts.Halt.TheVariants as run
use Rattle.kernel_run_facts.specs.Watching.{IsKnownBefore, RunLeaves, answer_of}
use Rattle.kernel_run_facts.specs.kernel_core_facts.Kernels.{Held}
use Rattle.node_draws.proofs.Courses.{rounds_append}
use Rattle.node_draws.specs.Courses.{Course, rounds_of}
use Rattle.node_looks.specs.Looks.{commits_behind}
use Rattle.node_mirror.specs.Leaving.{EndsAs, EndsBy, HasMirrored, MirrorLeaves}
use Rattle.node_mirror.specs.Mirrors.{Mirrors, Watches, at_start}
use Rattle.node_mirror.specs.Stops.{kernel_part}
use Rattle.node_mirror.specs.declared.lines.Line.{Line}
use Rattle.node_mirror.specs.declared.stops.MirrorHalt.{MirrorHalt}
use Rattle.node_mirror.specs.declared.stops.MirrorHalt.TheVariants as halt
use Rattle.node_rounds.specs.Going.{AllShip}
use Rattle.node_rounds.proofs.node_standby_lemmas.Following.{follows_more}
use Rattle.node_rounds.specs.node_standby.Following.{Follows}
use Rattle.node_rounds.specs.node_standby.node_shipments.kernel_invariant.Beginnings.{Beginning, IsLegal}

-- what the calls of the kernel answered is the same
pub part_same : (ran : Result ⊤ Halt) (went : Result ⊤ MirrorHalt) → EndsAs ran went → kernel_part went ≡ answer_of ran
part_same (Ok y) (Ok z) how = refl
part_same (Ok y) (Err (halt.Kernel why)) how = absurd how
part_same (Ok y) (Err halt.Memory) how = absurd how
part_same (Ok y) (Err (halt.Round why)) how = refl
part_same (Err (run.Kernel why)) went how = ap kernel_part how
part_same (Err run.Watcher) (Ok z) how = absurd how
part_same (Err run.Watcher) (Err (halt.Kernel why)) how = absurd how
part_same (Err run.Watcher) (Err halt.Memory) how = refl
part_same (Err run.Watcher) (Err (halt.Round why)) how = refl

module _ {D : Type 0} (disks : Ghosts D) (watches leaves : Beginning → List Entry → Type 0) (b : Beginning) (k : Held D) where
  -- and so is the history
  pub run_leaves : (ran : Result ⊤ Halt) (went : Result ⊤ MirrorHalt) → EndsAs ran went → RunLeaves disks watches leaves b ran k → MirrorLeaves disks b went k
  run_leaves (Ok y) (Ok z) how left = left.over
  run_leaves (Ok y) (Err (halt.Kernel why)) how left = absurd how
  run_leaves (Ok y) (Err halt.Memory) how left = absurd how
  run_leaves (Ok y) (Err (halt.Round why)) how left = inr left.over
  run_leaves (Err (run.Kernel why)) went how left = subst (λ (r : Result ⊤ MirrorHalt). MirrorLeaves disks b r k) (sym how) (inr left.stopped)
  run_leaves (Err run.Watcher) (Ok z) how left = absurd how
  run_leaves (Err run.Watcher) (Err (halt.Kernel why)) how left = absurd how
  run_leaves (Err run.Watcher) (Err halt.Memory) how left = inr (record { looked = left.looked; first = left.first; along = left.along })
  run_leaves (Err run.Watcher) (Err (halt.Round why)) how left = inl (record { looked = left.looked; first = left.first; along = left.along })

-- THE COURSE, to its end
pub mirrored_end : {E : Type 0} (words : Words) (loss : ℕ) (b : Beginning) (es : List Entry) (known : List ℕ) (noted : ℕ) (line : Line E) (many kept : ℕ) → line.loss ≡ loss
    → Mirrors words b es known noted line → EndsBy line many kept → HasMirrored b es loss words many kept
mirrored_end words loss b es known noted line many kept same m e = record {
  offered_is = e.offered_is ∙ m.all;
  kept_is =
      e.kept_is ∙ ap (λ (c : Course). c.tally.kept) (
      ap (rounds_of line.loss (replicate (4 * many + 1000) many)) m.course
      ∙ (sym (rounds_append line.loss (commits_behind b es) (replicate (4 * many + 1000) many) (at_start words))
      ∙ ap (λ (n : ℕ). rounds_of n (commits_behind b es ++ replicate (4 * many + 1000) many) (at_start words)) same));
}

-- THE STANDBY, where the watched run left it
module _ {D E : Type 0} (disks : Ghosts D) (seconds : Ghosts E) (began : Beginning → Type 0) (words : Words) (known : List ℕ) (noted : ℕ) (line : Line E) (b : Beginning) (k : Held D) where
  abbrev Knows : Beginning → List Entry → Type 0
  Knows c es = Watches seconds began words c es known noted line

  abbrev Leaves : Beginning → List Entry → Type 0
  Leaves c es = began c → Follows c es seconds line.standby

  known_before : (es : List Entry) → began b → IsLegal b es → IsKnownBefore (Knows b) es ⊎ Leaves b es → Follows b es seconds line.standby
  known_before es starts legal (inr left) = left starts
  known_before es starts legal (inl was) =
      subst (λ (fs : List Entry). Follows b fs seconds line.standby) (sym was.same)
      (follows_more seconds b was.seen was.rest line.standby (subst (IsLegal b) was.same legal) (was.knows.follows starts))

  pub follows_run : (ran : Result ⊤ Halt) → began b → RunLeaves disks Knows Leaves b ran k → Follows b k.parts.noted.entries seconds line.standby
  follows_run (Ok y) starts left = left.knows.follows starts
  follows_run (Err (run.Kernel why)) starts left = known_before k.parts.noted.entries starts left.stopped.lives.live.running.legal left.knows
  follows_run (Err run.Watcher) starts left = left.knows starts

  pub ships_run : (ran : Result ⊤ Halt) → RunLeaves disks Knows Leaves b ran k → OnOk ran (AllShip b k.parts.noted.entries line.sender)
  ships_run (Ok y) left = left.knows.mirrors.ships
  ships_run (Err why) left = tt

  -- and its course, where the last rounds were made
  pub course_run : (loss : ℕ) (ran : Result ⊤ Halt) (went : Result ⊤ MirrorHalt) (many kept : ℕ) → line.loss ≡ loss → EndsAs ran went → RunLeaves disks Knows Leaves b ran k → OnOk went (EndsBy line many kept)
      → OnOk went (HasMirrored b k.parts.noted.entries loss words many kept)
  course_run loss (Ok y) (Ok z) many kept same how left last = mirrored_end words loss b k.parts.noted.entries known noted line many kept same left.knows.mirrors last
  course_run loss (Err (run.Kernel why)) (Ok z) many kept same how left last = absurd (cc how)
  course_run loss (Err run.Watcher) (Ok z) many kept same how left last = absurd how
  course_run loss ran (Err h) many kept same how left last = tt
