-- The promise, from what the three calls leave and what a stop may leave.
use Rattle.std.proofs.Common.{◌≡◌, ◌⊎◌, ◌≤◌, ◌<◌, ◌+◌, ◌-◌, ◌^◌, ℕ, [], inl, inr, min, sym, ap, subst, ◌∙◌, arith, false, Result, Ok, Err, IfOk}
use Rattle.std.proofs.lemmas.Bool.{cases_lt}
use Rattle.command_outcomes.specs.Ends.{IsEmpty}
use Rattle.command_outcomes.specs.Seen.{Call, SeenDisk, gave}
use Rattle.command_outcomes.specs.Statuses.{Ending, Stopped, Unput, Whole, Wrong, ending}
use Rattle.command_outcomes.specs.declared.statuses.Status.{Status}
use Rattle.command_outcomes.specs.declared.statuses.Status.TheVariants.{Done}
use Rattle.command_outcomes.specs.declared.faults.Fault.TheVariants.{NoBlocks, DiskFault, Foreign as BadImage, Memory, Script, Source, Usage}
use Rattle.command_words.specs.declared.Command.TheVariants.{Show}
use Rattle.edge_disk.specs.Image.{Image}
use Rattle.edge_disk.specs.Kept.{IsTorn, MayLeave}
use Rattle.edge_disk.specs.KeptLaws.{MayLeave-since_now}
use Rattle.edge_disk.specs.MemoryDisk.{left_since_of, may_leave_of, moments_of, reading_of, stood_at}
use Rattle.edge_disk.specs.declared.calls.Torn.{Torn}
use Rattle.edge_disk.specs.declared.memory.MemoryDisk.{MemoryDisk}
use Rattle.command_outcomes.specs.model_kernel.Output.{output_of}
use Rattle.command_outcomes.specs.model_kernel.State.{KernelState, Text, empty_state}
use Rattle.hopper_top.proofs.image_meaning_lemmas.Firsts.{not_both}
use Rattle.hopper_top.specs.image_meaning.Meaning.{Means}
use Rattle.hopper_top.specs.kernel_invariant.Beginnings.{Beginning}
use Rattle.hopper_top.specs.Leaving.{IsUntouched}
use Rattle.edge_managers.specs.Managers.{counted_word}
use Rattle.hopper_top.specs.command_promises.Leaving.{OfRun, RunLeaves}
use Rattle.hopper_top.specs.command_promises.Manners.{Manner, Telling, told}
use Rattle.hopper_top.specs.command_promises.Openings.{HasFailedSync, IsKeptImage, KeepsMeaning, run_from}
use Rattle.hopper_top.specs.command_promises.Runs.{IsRun, IsServed}
use Rattle.edge_watched.specs.Handing.{next_moment}
use Rattle.hopper_clients.specs.Calls.{IsCalled, managers, seen_by, seen_memory}
use Rattle.hopper_clients.specs.StopPromise.{IsShownAs, IsStopOf, KeepsBy, KeepsCut, KeepsNothing, KeepsPromise, answering, shown_from}
use Rattle.hopper_clients.specs.declared.calling.Called.{Called}
use Rattle.hopper_clients.specs.declared.stopping.Shown.{Shown}
use Rattle.hopper_clients.specs.Images.{HasNewImage}
use Rattle.hopper_clients.proofs.Fresh.{means_nothing, run_holds, turn_left}
use Rattle.hopper_clients.proofs.Reading.{no_bad_place, shown_text}

-- MOMENTS

-- what a disk in memory may leave at its present moment it may leave now
leaves_at_now : (d : MemoryDisk) (c : Image) → left_since_of d (moments_of d) c → may_leave_of d c
leaves_at_now d c left = MayLeave-since_now d.tape.first.items d.tape.calls.items d.tape.clock d.tape.counted c left

-- the next moment is at most one more
next_most : (before : ℕ) → next_moment before ≤ before + 1
next_most before = elim (cases_lt before (2 ^ 64 - 1)) [
  | inl short ↦ (let is : next_moment before ≡ before + 1 = grind arith in omega (arith, is))
  | inr end ↦ (let is : next_moment before ≡ before = grind arith in omega (arith, is))
]

next_reached : (before t : ℕ) → before < t → next_moment before ≤ t
next_reached before t lt = let most : next_moment before ≤ before + 1 = next_most before in omega (arith, lt, most)

-- a stop that comes after a call's first write or sync, at the latest at its return
stop_reaches : (since after now t : ℕ) → t ≡ min (since + after) now → 0 < after → next_moment since ≤ now → next_moment since ≤ t
stop_reaches since after now t is some reached = let most : next_moment since ≤ since + 1 = next_most since in omega (arith, is, some, reached, most)

-- WHAT IS SHOWN

-- what a run left, of this manner, or memory ran out for its words
abbrev pub LeftBy : (Telling → Manner) → Text → MemoryDisk → Called → Type 0
LeftBy way source old ran = IsUntouched (seen_by source old ran) (gave ran.outcome) Memory ⊎ RunLeaves (way output_of) managers (seen_by source old ran) (gave ran.outcome) (ending ran.outcome.status)

module _ (way : Telling → Manner) (tells : (t : Telling) → (way t).telling ≡ t) (source : Text) (torn : Torn) (after : ℕ) (formatted : Status) (ran showed : Called) (old left : MemoryDisk) (t : ℕ)
    (fresh : HasNewImage old) (runs : LeftBy way source old ran) (put : ran.text.items ≡ ran.sink.held) (shows : IsCalled Show [] left showed)
    (stops : t ≡ min (moments_of old + after) (moments_of ran.outcome.disk)) (some : 0 < after)
    (tears : IsTorn torn (stood_at ran.outcome.disk t) (reading_of left)) (may : MayLeave (stood_at ran.outcome.disk t) (reading_of left)) where
  abbrev s : Shown
  s = shown_from formatted ran showed (moments_of old) t

  abbrev disk : SeenDisk
  disk = seen_memory old ran.outcome.disk

  abbrev seen : Call
  seen = seen_by source old ran

  -- the image that the stop left is one of those at its moment
  left_then : left_since_of ran.outcome.disk t (reading_of left)
  left_then = (t, omega arith, omega (arith, stops), may)

  shown_as : (w : KernelState) → Means counted_word (reading_of left) w → IsShownAs s w
  shown_as w means = record { text = shown_text [] left showed w shows means; accepted = no_bad_place [] left showed w shows means }

  -- A RUN

  keeps_cut : (P : Beginning → Type 0) (o : OfRun managers seen P) → ((b : Beginning) → P b → IsRun b disk (gave ran.outcome)) → KeepsCut source torn s
  keeps_cut P o runs_so =
      let run = runs_so (run_from (answering o.brought) o.script empty_state (moments_of old)) (run_holds source old ran fresh P o) in
      let cut = run.kept.moments t (reading_of left) (stop_reaches (moments_of old) after (moments_of ran.outcome.disk) t stops some run.kept.begun) left_then in
      record {
        script = o.script;
        brought = o.brought;
        accepted = o.read.accepted;
        legal = run.legal;
        image = reading_of left;
        left = tears;
        cut = cut;
        shows = shown_as;
      }

  -- NO RUN

  keeps_nothing : IsEmpty (gave ran.outcome) → Means counted_word (reading_of left) empty_state → KeepsNothing torn s
  keeps_nothing none means = record {
    empty = none.history;
    image = reading_of left;
    left = tears;
    means = means;
    shows = shown_as empty_state means;
  }

  -- where the stop is at the return, and leaves nothing that it couldn't leave before
  means_by : t ≡ moments_of ran.outcome.disk → (may_leave_of ran.outcome.disk (reading_of left) → may_leave_of old (reading_of left)) → Means counted_word (reading_of left) empty_state
  means_by now no_more =
      fresh.means counted_word (reading_of left) (no_more (leaves_at_now ran.outcome.disk (reading_of left) (subst (λ (n : ℕ). left_since_of ran.outcome.disk n (reading_of left)) now left_then)))

  -- the disk is as it was
  means_same : ran.outcome.disk ≡ old → Means counted_word (reading_of left) empty_state
  means_same same =
      let still : moments_of ran.outcome.disk ≡ moments_of old = ap moments_of same in
      means_by (omega (arith, stops, still)) (λ leaves. subst (λ (d : MemoryDisk). may_leave_of d (reading_of left)) same leaves)

  -- the opening's sync failed
  means_failed : HasFailedSync disk → Means counted_word (reading_of left) empty_state
  means_failed failed =
      means_by (elim (cases_lt (moments_of old) (2 ^ 64 - 1)) [
        | inl short ↦ (let more = failed.one.one_more short in omega (arith, stops, more, some))
        | inr end ↦ (let same = failed.one.at_end end in omega (arith, stops, same))
      ]) (failed.may (reading_of left))

  -- the image means what it meant
  means_kept : KeepsMeaning disk → Means counted_word (reading_of left) empty_state
  means_kept keeps = elim (cases_lt (moments_of old) t) [
    | inl behind ↦ keeps.since t (reading_of left) (next_reached (moments_of old) t behind) left_then counted_word empty_state (means_nothing old fresh counted_word)
    | inr before ↦ (let later = keeps.later in let here : t ≡ moments_of old = omega (arith, stops, before, later) in elim (keeps.earlier t (reading_of left) before left_then) [
      | inl was ↦ fresh.means counted_word (reading_of left) (leaves_at_now old (reading_of left) (subst (λ (n : ℕ). left_since_of old n (reading_of left)) here was))
      | inr same ↦ same counted_word empty_state (means_nothing old fresh counted_word)
    ])
  ]

  means_kept_image : IsKeptImage disk → Means counted_word (reading_of left) empty_state
  means_kept_image kept = means_kept (kept tt (turn_left 4096 (reading_of old) fresh.formatted))

  -- BY HOW THE RUN ENDED
  keeps_by : (ending : Ending) → RunLeaves (way output_of) managers seen (gave ran.outcome) ending → KeepsBy way source torn s ending
  unfolding keeps_cut
  keeps_by Whole o =
      let served = run_holds source old ran fresh (λ b. IsServed (way output_of) b disk (gave ran.outcome) _) o in
      record {
        keeps = keeps_cut _ o (λ b served. served.run);
        whole = served.whole;
        lines = put ∙ served.output ∙ ap (λ (telling : Telling). told telling (run_from (answering o.brought) o.script empty_state (moments_of old)) ran.outcome.history.items) (tells output_of);
      }
  keeps_by Unput o = keeps_cut _ o.0 (λ b served. served.run)
  keeps_by (Stopped (NoBlocks n)) o = keeps_cut _ o (λ b short. short.cut.run)
  keeps_by (Stopped DiskFault) (rose, inl unrun) = inr (keeps_nothing unrun.0.empty (elim (unrun.2 tt (turn_left 4096 (reading_of old) fresh.formatted)) [
    | inl fails ↦ means_failed fails.failed
    | inr kept ↦ means_kept kept
  ]))
  keeps_by (Stopped DiskFault) (rose, inr o) = inl (keeps_cut _ o (λ b cut. cut.run))
  keeps_by (Stopped (Script refusal)) (unrun, inl refused) = keeps_nothing unrun.empty (means_same refused.1)
  keeps_by (Stopped (Script refusal)) (unrun, inr misfit) = keeps_nothing unrun.empty (means_kept_image misfit.3.kept)
  keeps_by (Stopped Source) stopped = keeps_nothing stopped.1.empty (means_same stopped.2)
  keeps_by (Stopped Memory) (inl (unrun, inl same)) = inl (keeps_nothing unrun.empty (means_same same.0))
  keeps_by (Stopped Memory) (inl (unrun, inr behind)) = inl (keeps_nothing unrun.empty (means_kept_image behind.1))
  keeps_by (Stopped Memory) (inr (may, o)) = inr (may, keeps_cut _ o (λ b lacked. lacked.run))
  keeps_by (Stopped (BadImage block place)) stopped = not_both (reading_of old) (record { block = block; place = place }) (means_nothing old fresh counted_word).accepted (stopped.2 tt).0
  keeps_by (Stopped Usage) stopped = stopped
  keeps_by (Wrong line want) stopped = stopped

  pub keeps : KeepsPromise way source torn s
  keeps = elim runs [
    | inl untouched ↦ subst (λ (status : Status). KeepsBy way source torn s (ending status)) (sym untouched.status)
        (inl (keeps_nothing untouched.unrun.empty (means_same untouched.disk)))
    | inr leaves ↦ keeps_by (ending ran.outcome.status) leaves
  ]

-- of whatever the client was given
pub kept_then : (way : Telling → Manner) (tells : (t : Telling) → (way t).telling ≡ t) (source : Text) (torn : Torn) (after : ℕ) (formatted : Status) (old : MemoryDisk) (ran : Called)
    → LeftBy way source old ran → ran.text.items ≡ ran.sink.held → (formatted ≡ Done → HasNewImage old)
    → {E : Type 0} (r : Result Shown E) → IfOk r (IsStopOf formatted (moments_of old) ran after torn) → IfOk r (λ s. s.formatted ≡ Done → 0 < after → KeepsPromise way source torn s)
kept_then way tells source torn after formatted old ran runs put fresh (Err e) is = tt
kept_then way tells source torn after formatted old ran runs put fresh (Ok s) is =
    subst (λ (s : Shown). s.formatted ≡ Done → 0 < after → KeepsPromise way source torn s) (sym is.is)
    (λ done some. keeps way tells source torn after formatted ran is.showed old is.image is.stopped (fresh done) runs put is.shows is.stops some is.tears is.may)

pub stopped_then : (formatted : Status) (since after : ℕ) (torn : Torn) (ran : Called) {E : Type 0} (r : Result Shown E) → IfOk r (IsStopOf formatted since ran after torn)
    → IfOk r (λ s. s.stopped ≡ min (s.since + after) (moments_of s.disk))
stopped_then formatted since after torn ran (Err e) is = tt
stopped_then formatted since after torn ran (Ok s) is = subst (λ (s : Shown). s.stopped ≡ min (s.since + after) (moments_of s.disk)) (sym is.is) is.stops
