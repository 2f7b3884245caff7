-- What a mirrored run leaves, from what its parts leave.
use Rattle.std.proofs.Common.{◌≡◌, ◌⊎◌, inl, inr, ℕ, ◌<◌, false, List, ◌++◌, length, None, Some, Ok, Err, refl, sym, ap, subst, ◌∙◌}
use Rattle.std.specs.Prelude.{IfErr, OnOk, Result, ⊤}
use Rattle.std.specs.Io.KnownBytes.{Appends}
use Rattle.base_types.specs.declared.histories.Entry.{Entry}
use Rattle.drawn_words.specs.Words.{words_numbered}
use Rattle.edge_disk.specs.Counts.{Rose}
use Rattle.edge_disk.specs.declared.disk.Disk.{Ghosts}
use Rattle.edge_disk.specs.declared.disk.NoBlocks.{NoBlocks}
use Rattle.edge_streams.specs.Streams.{AppendsPart}
use Rattle.command_open.specs.command_promises.kernel_commits.Telling.{Tells}
use Rattle.command_open.specs.command_promises.kernel_commits.declared.stopping.Stop.TheVariants as stop
use Rattle.command_open.specs.kernel_core_facts.Kernels.{Held}
use Rattle.command_open.specs.kernel_invariant.Beginnings.{Beginning, BeginsRight, completed}
use Rattle.command_open.specs.kernel_invariant.declared.stopping.Stopped.TheVariants as reason
use Rattle.command_open.specs.store_facts.State.{books}
use Rattle.command_open.specs.table_births.Births.{atlas_state_in}
use Rattle.command_open.proofs.command_promises_lemmas.Played.{by_answer, cut_for, ends_serial, served}
use Rattle.command_open.specs.command_promises.Manners.{serial}
use Rattle.command_outcomes.specs.Ends.{Gains}
use Rattle.command_outcomes.specs.Seen.{Gave, SeenSink}
use Rattle.command_outcomes.specs.declared.faults.Fault.TheVariants as fault
use Rattle.kernel_run_facts.specs.Running.{HasStopped, IsCauseOf}
use Rattle.node_mirror.specs.Leaving.{HasMirrored, HasNotBegun, IsHaltCause, MirrorLeaves}
use Rattle.node_mirror.specs.Stops.{kernel_part}
use Rattle.node_mirror.specs.declared.lines.Losing.{Losing}
use Rattle.node_mirror.specs.declared.stops.MirrorHalt.{MirrorHalt}
use Rattle.node_mirror.specs.declared.stops.MirrorHalt.TheVariants as halt
use Rattle.node_rounds.specs.declared.rounds.RoundStop.TheVariants as round
use Rattle.node_standby.specs.Standing.{Standing}
use Rattle.node_standby.specs.store_snapshots.declared.faults.StoreFault.TheVariants as store
use Rattle.script_types.specs.model_kernel.Histories.{Policy}
use Rattle.script_types.specs.model_kernel.Output.{output_of}
use Rattle.script_types.specs.model_kernel.State.{Text}
use Rattle.command_mirror.proofs.Halting.{Stands, ends_over, ends_stopped, halted_stands, was_halted}
use Rattle.command_mirror.specs.Halts.{fault_by, halted_by}
use Rattle.command_mirror.specs.Lines.{counts_line, mirror_fault_line, with_counts}
use Rattle.command_mirror.specs.Playing.{ComesSoFar, IsPutMirrored, IsRunCause, MirrorPlays, StopsMirror, WasHaltedBehind, WasHaltedSo, WasShort, WasWhole}
use Rattle.command_mirror.specs.declared.faults.MirrorFault.{MirrorFault}
use Rattle.command_mirror.specs.declared.faults.MirrorFault.TheVariants as mirror
use Rattle.command_mirror.specs.declared.faults.SecondFault.{SecondFault}
use Rattle.command_mirror.specs.declared.faults.SecondFault.TheVariants as second
use Rattle.command_mirror.specs.declared.statuses.MirrorStatus.{MirrorStatus}

-- OF A RUN THAT WAS MADE
module _ {D E : Type 0} (disks : Ghosts D) (seconds : Ghosts E) (policy : Policy) (old new : Held D) (sink : SeenSink) (gave : Gave) (disk : D)
    (history : gave.history ≡ new.parts.noted.entries) (marks : gave.marks ≡ new.parts.noted.marks) (same : disk ≡ new.parts.store.disk)
    (losing : Losing) (left : Standing E) (faults offered kept made : ℕ) (count : ℕ) (same_count : (books new.parts.store).count ≡ count) (kept_is : kept ≡ left.count)
    (starts followed : Beginning → Type 0) (made_is : (b : Beginning) → followed b → made ≡ length (completed b gave.history))
    (begins : disks.tells → (b : Beginning) → starts b → BeginsRight b) (follows : disks.tells → (b : Beginning) → starts b → followed b) where
  abbrev rose : Type 0
  rose = Rose (disks.faults old.parts.store.disk) (disks.faults disk)

  abbrev cause : SecondFault → Type 0
  cause = IsRunCause (Rose faults (seconds.faults left.store.disk))

  abbrev Each : (Beginning → Type 0) → Type 0
  Each P = disks.tells → (b : Beginning) → starts b → P b

  abbrev own : Text
  own = output_of (atlas_state_in new.parts.cells) new.parts.noted.entries

  abbrev Stops : MirrorFault → Type 0
  Stops f = StopsMirror disks starts followed cause (λ many. ⊥) ⊥ rose count losing sink gave kept made disk f

  module _ (going : new.stop ≡ None) (ran : Each (λ b. MirrorLeaves disks b (Ok tt) new)) (course : Each (λ b. HasMirrored b new.parts.noted.entries losing.loss (words_numbered losing.seed 55) offered left.count))
      (lossless : losing.loss ≡ 0 → left.count ≡ offered) where
    whole : (Puts : Text → Type 0) → Puts (own ++ counts_line kept made) → Each (λ b. WasWhole disks starts followed cause (λ many. ⊥) ⊥ rose count losing sink gave kept made disk b Puts)
    whole Puts put told b start =
        let c = course told b start in
        let all : offered ≡ made = c.offered_is ∙ (ap (λ (es : List Entry). length (completed b es)) (sym history) ∙ sym (made_is b (follows told b start))) in
        record {
          served = served disks (serial (with_counts kept made)) false new sink gave disk history marks same b (ends_serial disks (with_counts kept made) b new (ends_over disks b new going (ran told b start))) going refl Puts put;
          follows = follows told b start;
          course =
              subst (λ (n : ℕ). HasMirrored b gave.history losing.loss (words_numbered losing.seed 55) n kept) all
              (subst (λ (n : ℕ). HasMirrored b gave.history losing.loss (words_numbered losing.seed 55) offered n) (sym kept_is)
              (subst (λ (es : List Entry). HasMirrored b es losing.loss (words_numbered losing.seed 55) offered left.count) (sym history) c));
          lossless = λ none. kept_is ∙ (lossless none ∙ all);
        }

  -- a fault that halted it
  module _ (why : MirrorHalt) (ran : Each (λ b. MirrorLeaves disks b (Err why) new)) (put : Gains sink (own ++ mirror_fault_line (fault_by why))) where
    stands : Each (Stands disks new sink gave disk history marks same)
    stands told b start = halted_stands disks new sink gave disk history marks same b why (begins told b start) (ran told b start)

    halted_so : Each (λ b. WasHaltedSo disks starts followed cause (λ many. ⊥) ⊥ rose count losing sink gave kept made disk b (fault_by why))
    halted_so told b start = record { halted = was_halted disks new sink gave disk history marks same b (mirror_fault_line (fault_by why)) (stands told b start) put; follows = follows told b start }

    halted_behind : (far : Beginning → Type 0) → ((b : Beginning) → followed b → far b) → Each (λ b. WasHaltedBehind disks starts followed cause (λ many. ⊥) ⊥ rose count losing sink gave kept made disk b (fault_by why) (far b))
    halted_behind far so told b start =
        record { halted = was_halted disks new sink gave disk history marks same b (mirror_fault_line (fault_by why)) (stands told b start) put; follows = so b (follows told b start) }

  abbrev either : Beginning → Type 0
  either b = followed b ⊎ ⊥

  -- for want of blocks
  short : (n : NoBlocks) → new.stop ≡ Some (reason.NoBlocks n) → n.free < n.need → Each (λ b. MirrorLeaves disks b (Err (halt.Kernel (stop.NoBlocks n))) new) → Gains sink (own ++ mirror_fault_line (mirror.First (fault.NoBlocks n)))
      → Each (λ b. WasShort disks starts followed cause (λ many. ⊥) ⊥ rose count losing sink gave kept made disk b n)
  short n at fewer ran put told b start = by (ran told b start)
    where
      by : HasNotBegun disks b new ⊎ HasStopped disks b new → WasShort disks starts followed cause (λ many. ⊥) ⊥ rose count losing sink gave kept made disk b n
      by (inl none) = absurd (none.stop n at)
      by (inr stopped) = record {
        short = cut_for disks (serial output_of) false new sink gave disk history marks same b (ends_serial disks output_of b new (ends_stopped disks b new (reason.NoBlocks n) at stopped)) count n at fewer same_count put;
        follows = follows told b start;
      }

  stops : (why : MirrorHalt) → Each (λ b. MirrorLeaves disks b (Err why) new) → Gains sink (own ++ mirror_fault_line (fault_by why)) → Tells (kernel_part (Err why)) new.stop
      → IfErr (kernel_part (Err why)) (IsCauseOf disks policy old.parts new.parts) → IsHaltCause seconds faults left (Err why) → Stops (fault_by why)
  stops (halt.Kernel (stop.NoBlocks n)) ran put ends caused left_by = short n ends (by_answer disks policy old.parts new.parts disk same (Err (stop.NoBlocks n)) new.stop ends caused (reason.NoBlocks n) ends) ran put
  stops (halt.Kernel (stop.Idle why)) ran put ends caused left_by = absurd caused
  stops (halt.Kernel stop.ReadFault) ran put ends caused left_by =
      (by_answer disks policy old.parts new.parts disk same (Err stop.ReadFault) new.stop ends caused reason.ReadFault ends, halted_so (halt.Kernel stop.ReadFault) ran put)
  stops (halt.Kernel stop.WriteFault) ran put ends caused left_by =
      (by_answer disks policy old.parts new.parts disk same (Err stop.WriteFault) new.stop ends caused reason.WriteFault ends, halted_so (halt.Kernel stop.WriteFault) ran put)
  stops (halt.Kernel stop.Shut) ran put ends caused left_by = absurd caused
  stops halt.Memory ran put ends caused left_by = halted_so halt.Memory ran put
  stops (halt.Round (round.Store (store.NoBlocks n))) ran put ends caused left_by = (left_by.fewer, halted_behind (halt.Round (round.Store (store.NoBlocks n))) ran put followed (λ b h. h))
  stops (halt.Round (round.Store store.ReadFault)) ran put ends caused left_by = absurd left_by
  stops (halt.Round (round.Store store.WriteFault)) ran put ends caused left_by = (left_by, halted_behind (halt.Round (round.Store store.WriteFault)) ran put either (λ b h. inl h))
  stops (halt.Round (round.Store store.Shut)) ran put ends caused left_by = (left_by, halted_behind (halt.Round (round.Store store.Shut)) ran put either (λ b h. inl h))
  stops (halt.Round round.Refused) ran put ends caused left_by = (tt, halted_behind (halt.Round round.Refused) ran put either (λ b h. inl h))

  -- WHAT IT LEAVES
  pub mirror_plays : (went : Result ⊤ MirrorHalt) (status : MirrorStatus) → Each (λ b. MirrorLeaves disks b went new)
      → Each (λ b. OnOk went (HasMirrored b new.parts.noted.entries losing.loss (words_numbered losing.seed 55) offered left.count)) → (losing.loss ≡ 0 → OnOk went (left.count ≡ offered))
      → Tells (kernel_part went) new.stop → IfErr (kernel_part went) (IsCauseOf disks policy old.parts new.parts) → IsHaltCause seconds faults left went
      → IsPutMirrored (halted_by went) sink own (counts_line kept made) status → MirrorPlays disks starts followed cause (λ many. ⊥) ⊥ rose count losing sink gave kept made disk status
  mirror_plays (Ok y) status ran course lossless ends caused left_by (inl (is, put)) = inl (is, whole ends ran course lossless (Appends sink.before sink.after) put)
  mirror_plays (Ok y) status ran course lossless ends caused left_by (inr (is, put, rose)) = inr (inl (is, whole ends ran course lossless (AppendsPart sink.before sink.after) put, rose))
  mirror_plays (Err why) status ran course lossless ends caused left_by put = inr (inr (fault_by why, put.0, stops why ran put.1 ends caused left_by))

-- WHAT IS KNOWN OF THE SECOND NODE in other words
module _ {D : Type 0} (disks : Ghosts D) (starts followed followed' : Beginning → Type 0) (cause cause' : SecondFault → Type 0) (used used' : ℕ → Type 0) (unopened unopened' : Type 0)
    (rose : Type 0) (count : ℕ) (losing : Losing) (sink : SeenSink) (gave : Gave) (kept made : ℕ) (disk : D)
    (turn : (b : Beginning) → BeginsRight b → followed b → followed' b) (causes : (f : SecondFault) → cause f → cause' f) (many : (n : ℕ) → used n → used' n) (none : unopened → unopened') where
  abbrev Old : MirrorStatus → Type 0
  Old = MirrorPlays disks starts followed cause used unopened rose count losing sink gave kept made disk

  abbrev New : MirrorStatus → Type 0
  New = MirrorPlays disks starts followed' cause' used' unopened' rose count losing sink gave kept made disk

  whole_turns : (b : Beginning) (Puts : Text → Type 0) → WasWhole disks starts followed cause used unopened rose count losing sink gave kept made disk b Puts → WasWhole disks starts followed' cause' used' unopened' rose count losing sink gave kept made disk b Puts
  whole_turns b Puts h = record { served = h.served; follows = turn b h.served.run.running.begins h.follows; course = h.course; lossless = h.lossless }

  so_turns : (b : Beginning) (f : MirrorFault) → WasHaltedSo disks starts followed cause used unopened rose count losing sink gave kept made disk b f → WasHaltedSo disks starts followed' cause' used' unopened' rose count losing sink gave kept made disk b f
  so_turns b f h = record { halted = h.halted; follows = turn b h.halted.run.running.begins h.follows }

  short_turns : (b : Beginning) (n : NoBlocks) → WasShort disks starts followed cause used unopened rose count losing sink gave kept made disk b n → WasShort disks starts followed' cause' used' unopened' rose count losing sink gave kept made disk b n
  short_turns b n h = record { short = h.short; follows = turn b h.short.cut.run.running.begins h.follows }

  either_turns : (b : Beginning) → BeginsRight b → followed b ⊎ unopened → followed' b ⊎ unopened'
  either_turns b right (inl so) = inl (turn b right so)
  either_turns b right (inr was) = inr (none was)

  far_turns : (b : Beginning) → BeginsRight b → (f : SecondFault) → ComesSoFar (followed b) unopened f → ComesSoFar (followed' b) unopened' f
  far_turns b right (second.Foreign block place) far = none far
  far_turns b right second.DiskFault far = either_turns b right far
  far_turns b right second.Memory far = either_turns b right far
  far_turns b right (second.NoBlocks n) far = turn b right far

  behind_turns : (b : Beginning) (f : MirrorFault) (far far' : Type 0) → (BeginsRight b → far → far') → WasHaltedBehind disks starts followed cause used unopened rose count losing sink gave kept made disk b f far
      → WasHaltedBehind disks starts followed' cause' used' unopened' rose count losing sink gave kept made disk b f far'
  behind_turns b f far far' goes h = record { halted = h.halted; follows = goes h.halted.run.running.begins h.follows }

  stops_turn : (f : MirrorFault) → StopsMirror disks starts followed cause used unopened rose count losing sink gave kept made disk f → StopsMirror disks starts followed' cause' used' unopened' rose count losing sink gave kept made disk f
  stops_turn (mirror.First (fault.NoBlocks n)) h = λ told b start. short_turns b n (h told b start)
  stops_turn (mirror.First fault.DiskFault) h = (h.0, λ told b start. so_turns b (mirror.First fault.DiskFault) (h.1 told b start))
  stops_turn (mirror.First fault.Memory) h = λ told b start. so_turns b (mirror.First fault.Memory) (h told b start)
  stops_turn (mirror.First fault.Usage) h = absurd h
  stops_turn (mirror.First (fault.Script refusal)) h = absurd h
  stops_turn (mirror.First (fault.Foreign block place)) h = absurd h
  stops_turn (mirror.First fault.Source) h = absurd h
  stops_turn (mirror.Second f) h = (causes f h.0, λ told b start. behind_turns b (mirror.Second f) (ComesSoFar (followed b) unopened f) (ComesSoFar (followed' b) unopened' f) (λ right far. far_turns b right f far) (h.1 told b start))
  stops_turn (mirror.NotEmpty n) h = (many n h.0, λ told b start. behind_turns b (mirror.NotEmpty n) unopened unopened' (λ right far. none far) (h.1 told b start))

  pub plays_turn : (status : MirrorStatus) → Old status → New status
  plays_turn status (inl (is, h)) = inl (is, λ told b start. whole_turns b (Appends sink.before sink.after) (h told b start))
  plays_turn status (inr (inl (is, h, part))) = inr (inl (is, (λ told b start. whole_turns b (AppendsPart sink.before sink.after) (h told b start)), part))
  plays_turn status (inr (inr (f, is, h))) = inr (inr (f, is, stops_turn f h))
