-- A run's own trace is accepted.
use Rattle.std.proofs.Common.{◌≡◌, ◌≤◌, ℕ, Some, [], length, take, true, inl, inr, refl, sym, ap, subst, ◌∙◌, arith, Result, Ok, Err, IfOk}
use Rattle.std.specs.Io.KnownBytes.{Appends}
use Rattle.command_words.specs.declared.Command.{Command}
use Rattle.command_words.specs.declared.Command.TheVariants.{CheckTrace}
use Rattle.edge_disk.specs.MemoryDisk.{moments_of}
use Rattle.edge_disk.specs.declared.memory.MemoryDisk.{MemoryDisk}
use Rattle.hopper_clients.proofs.Carried.{HadMemory, command_leaves}
use Rattle.hopper_clients.proofs.Fresh.{means_nothing, run_fits, run_holds}
use Rattle.hopper_top.proofs.command_promises_lemmas.Traced.{legal_here, may_end}
use Rattle.hopper_clients.specs.Calls.{IsCalled, managers, seen_by, seen_memory}
use Rattle.hopper_clients.specs.Images.{HasNewImage}
use Rattle.hopper_clients.specs.declared.calling.Called.{Called}
use Rattle.hopper_top.specs.command_promises.Booked.{over}
use Rattle.hopper_top.specs.Leaving.{CommandLeaves, answers_of}
use Rattle.hopper_top.specs.command_promises.Manners.{Manner, Telling, told}
use Rattle.hopper_top.specs.command_promises.Openings.{run_from}
use Rattle.hopper_top.specs.command_promises.Leaving.{OfRun, RunLeaves}
use Rattle.command_outcomes.specs.Seen.{Call, gave}
use Rattle.command_outcomes.specs.Statuses.{ending}
use Rattle.command_outcomes.specs.declared.statuses.Status.{Status}
use Rattle.command_outcomes.specs.declared.statuses.Status.TheVariants.{Done, Memory}
use Rattle.command_outcomes.specs.declared.statuses.Status.TheVariants as status
use Rattle.hopper_top.specs.line_entries.Entries.{trace_of}
use Rattle.command_outcomes.specs.model_kernel.State.{Text, empty_state}
use Rattle.hopper_top.specs.kernel_invariant.Beginnings.{Beginning}
use Rattle.hopper_top.specs.command_promises.Runs.{IsServed}
use Rattle.hopper_top.specs.command_promises.TraceLeaving.{CanCheck, TraceLeaves, ok_line}
use Rattle.hopper_top.specs.command_promises.Sources.{from_source}
use Rattle.trace_own_laws.proofs.Feeds.{count_feeds, feeds}
use Rattle.trace_own_laws.proofs.Lasting.{own_spells}
use Rattle.trace_own_laws.specs.trace_facts.Traces.{Spells}
use Rattle.command_outcomes.specs.script_types.Rules.{IsScript}
use Rattle.script_reading.proofs.Whole.{allowed}
use Rattle.model_sound_states.proofs.Empty.{empty_is_sound, empty_names}
use Rattle.hopper_clients.specs.TracePromise.{AcceptsBy, AcceptsOwn, IsCheckOf, IsTraceable, IsTraced, checked_from, most_bytes, traced_source}
use Rattle.hopper_clients.specs.declared.tracing.Checked.{Checked}
use Rattle.hopper_clients.proofs.Parting.{means_both}

-- WHAT A RUN LEFT THAT CAME TO ITS END, by its command, which is a traced run of this manner
pub run_left : (way : Telling → Manner) (command : Command) (source : Text) (old : MemoryDisk) (ran : Called) → IsCalled command source old ran → ran.outcome.status ≡ Done
    → (CommandLeaves managers command (seen_by source old ran) (gave ran.outcome) → RunLeaves (way trace_of) managers (seen_by source old ran) (gave ran.outcome) (ending ran.outcome.status))
    → RunLeaves (way trace_of) managers (seen_by source old ran) (gave ran.outcome) (ending Done)
run_left way command source old ran runs done so =
    subst (λ (s : Status). RunLeaves (way trace_of) managers (seen_by source old ran) (gave ran.outcome) (ending s)) done
    (so (command_leaves command source old ran runs (subst (λ (s : Status). HadMemory s) (sym done) tt)))

module _ (way : Telling → Manner) (tells : (t : Telling) → (way t).telling ≡ t) (source : Text) (formatted : Status) (old : MemoryDisk) (ran again checked : Called) (fresh : HasNewImage old)
    (left : RunLeaves (way trace_of) managers (seen_by source old ran) (gave ran.outcome) (ending Done)) (put : ran.text.items ≡ ran.sink.held) where
  abbrev given : Checked
  given = checked_from formatted ran again checked

  abbrev IsWholeRun : Beginning → Type 0
  IsWholeRun b = IsServed (way trace_of) b (seen_memory old ran.outcome.disk) (gave ran.outcome) (Appends (Some []) (Some ran.sink.held))

  of_run : OfRun managers (seen_by source old ran) IsWholeRun
  of_run = left

  served : IsWholeRun (run_from (over of_run.brought managers) of_run.script empty_state (moments_of old))
  served = run_holds source old ran fresh IsWholeRun of_run

  -- the trace
  trace : ran.text.items ≡ told trace_of (run_from (over of_run.brought managers) of_run.script empty_state (moments_of old)) ran.outcome.history.items
  trace = put ∙ served.output ∙ ap (λ (t : Telling). told t (run_from (over of_run.brought managers) of_run.script empty_state (moments_of old)) ran.outcome.history.items) (tells trace_of)

  pub traced : IsTraced way source given
  traced = record {
    script = of_run.script;
    brought = of_run.brought;
    clock = moments_of old;
    accepted = of_run.read.accepted;
    legal = served.run.legal;
    whole = served.whole;
    trace = trace;
  }

  rules : IsScript of_run.script
  rules = (allowed source _ of_run.read.accepted.1).0.0

  -- the trace spells a legal history
  spells : Spells (over of_run.brought managers).supply (over of_run.brought managers).policy empty_state of_run.script ran.text.items (length ran.outcome.history.items)
  spells =
      let supply = (over of_run.brought managers).supply in
      let policy = (over of_run.brought managers).policy in
      let es = ran.outcome.history.items in
      subst (λ (trace : Text). Spells supply policy empty_state of_run.script trace (length es)) (sym trace)
      (own_spells supply policy of_run.script empty_state es rules (empty_names of_run.script.containers) (empty_is_sound supply).sound served.run.legal)

  module _ (can : IsTraceable source) (short : length (traced_source source ran.text.items) ≤ most_bytes) (new_image : HasNewImage again.outcome.disk)
      (checks : IsCalled CheckTrace (traced_source source ran.text.items) again.outcome.disk checked) where
    abbrev new : MemoryDisk
    new = again.outcome.disk

    abbrev seen : Call
    seen = seen_by (traced_source source ran.text.items) new checked

    can_check : CanCheck (answers_of managers) seen
    can_check =
        let fits = run_fits source old ran fresh IsWholeRun of_run in
        record {
          told = tt;
          bytes = traced_source source ran.text.items;
          known = refl;
          traced = record { script = of_run.script; brought = of_run.brought; trace = ran.text.items };
          read = means_both source ran.text.items can of_run.script of_run.brought of_run.read.accepted short;
          state = empty_state;
          means = means_nothing new new_image (over of_run.brought managers).supply;
          fits = record { kinds = record { containers = fits.kinds.containers; loci = fits.kinds.loci }; containers = fits.containers; loci = fits.loci };
          lines = length ran.outcome.history.items;
          legal = spells;
        }

    -- a legal history that the trace spells has as many entries as the run
    same_count : (lines : ℕ) → Spells (over of_run.brought managers).supply (over of_run.brought managers).policy empty_state of_run.script ran.text.items lines → lines ≡ length ran.outcome.history.items
    same_count lines k = sym (counted lines k) ∙ counted (length ran.outcome.history.items) spells
      where
        counted : (n : ℕ) → Spells (over of_run.brought managers).supply (over of_run.brought managers).policy empty_state of_run.script ran.text.items n → feeds ran.text.items ≡ n
        counted n k = count_feeds (over of_run.brought managers).supply (over of_run.brought managers).policy of_run.script empty_state ran.text.items n rules (empty_names of_run.script.containers) (empty_is_sound (over of_run.brought managers).supply).sound k

    abbrev Left : Status → Type 0
    Left s = TraceLeaves (answers_of managers) (from_source seen.source) seen.sink seen.disk (gave checked.outcome) (ending s)

    accepts_by : (s : Status) → Left s → AcceptsBy new given (ending s)
    unfolding of_run can_check
    accepts_by status.Done leaves =
        checks.put ∙ leaves.ends.output ∙ ap ok_line (same_count leaves.ends.lines (legal_here (answers_of managers) seen can_check leaves.ends.lines leaves.ends.legal))
    accepts_by status.SinkFault leaves =
        let whole = leaves.ends.0 in
        let same = same_count whole.lines (legal_here (answers_of managers) seen can_check whole.lines whole.legal) in
        ((whole.output.count, checks.put ∙ whole.output.grew ∙ ap (λ n. take whole.output.count (ok_line n)) same), leaves.ends.1 (omega arith))
    accepts_by status.DiskFault leaves = may_end (answers_of managers) seen can_check (gave checked.outcome) status.DiskFault leaves
    accepts_by status.SourceFault leaves = may_end (answers_of managers) seen can_check (gave checked.outcome) status.SourceFault leaves (omega arith)
    accepts_by status.Memory leaves = tt
    accepts_by (status.Script refusal) leaves = may_end (answers_of managers) seen can_check (gave checked.outcome) (status.Script refusal) leaves
    accepts_by (status.Foreign block place) leaves = may_end (answers_of managers) seen can_check (gave checked.outcome) (status.Foreign block place) leaves
    accepts_by (status.TraceWrong line want) leaves = may_end (answers_of managers) seen can_check (gave checked.outcome) (status.TraceWrong line want) leaves
    accepts_by status.Usage leaves = may_end (answers_of managers) seen can_check (gave checked.outcome) status.Usage leaves
    accepts_by (status.BlocksFull n) leaves = may_end (answers_of managers) seen can_check (gave checked.outcome) (status.BlocksFull n) leaves

    pub accepts : AcceptsOwn given
    accepts = record {
      before = new;
      fresh = new_image;
      accepts = elim checks.leaves as (λ _. AcceptsBy new given (ending checked.outcome.status)) [
        | inl untouched ↦ subst (λ (s : Status). AcceptsBy new given (ending s)) (sym untouched.status) tt
        | inr leaves ↦ accepts_by checked.outcome.status leaves
      ];
    }

-- BOTH, of whatever the client was given
module _ (way : Telling → Manner) (tells : (t : Telling) → (way t).telling ≡ t) (source : Text) (formatted : Status) (old : MemoryDisk) (ran : Called) (put : ran.text.items ≡ ran.sink.held)
    (left : ran.outcome.status ≡ Done → RunLeaves (way trace_of) managers (seen_by source old ran) (gave ran.outcome) (ending Done)) (fresh : formatted ≡ Done → HasNewImage old) where
  pub traced_then : {E : Type 0} (r : Result Checked E) → IfOk r (IsCheckOf source formatted ran) → IfOk r (λ c. c.formatted ≡ Done → c.ran ≡ Done → IsTraced way source c)
  traced_then (Err e) is = tt
  traced_then (Ok c) is =
      subst (λ (c : Checked). c.formatted ≡ Done → c.ran ≡ Done → IsTraced way source c) (sym is.is)
      (λ done ran_done. traced way tells source formatted old ran is.again is.checked (fresh done) (left ran_done) put)

  pub accepted_then : {E : Type 0} (r : Result Checked E) → IfOk r (IsCheckOf source formatted ran)
      → IfOk r (λ c. c.formatted ≡ Done → c.ran ≡ Done → c.formatted_again ≡ Done → IsTraceable source → length (traced_source source c.trace.items) ≤ most_bytes → AcceptsOwn c)
  accepted_then (Err e) is = tt
  accepted_then (Ok c) is =
      subst (λ (c : Checked). c.formatted ≡ Done → c.ran ≡ Done → c.formatted_again ≡ Done → IsTraceable source → length (traced_source source c.trace.items) ≤ most_bytes → AcceptsOwn c) (sym is.is)
      (λ done ran_done again_done can short. accepts way tells source formatted old ran is.again is.checked (fresh done) (left ran_done) put can short (is.fresh again_done) is.checks)
