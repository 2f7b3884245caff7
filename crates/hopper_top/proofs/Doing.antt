-- What can be done, by the command that it is.
use Rattle.std.proofs.Common.{◌≡◌, ℕ, Bool, List, subst, sym}
use Rattle.command_words.specs.Commands.{IsCommand, IsCopyOf}
use Rattle.command_words.specs.declared.Command.{Command}
use Rattle.command_words.specs.declared.Command.TheVariants.{CheckTrace, Copy, Drill, Report, Run, RunOnThreads, Show}
use Rattle.command_copy.specs.Copies.{CopyLeaves}
use Rattle.command_outcomes.specs.Seen.{Call, Gave}
use Rattle.command_outcomes.specs.Statuses.{ending}
use Rattle.command_outcomes.specs.declared.statuses.Status.{Status}
use Rattle.command_run.specs.model_kernel.State.{Text}
use Rattle.command_run.specs.Tellings.{lines_of}
use Rattle.command_run.specs.declared.putting.Lines.{Lines}
use Rattle.command_format.specs.image_meaning.Meaning.{Accepted}
use Rattle.command_check_trace.specs.command_promises.Drilling.{CanDrill}
use Rattle.command_check_trace.specs.command_promises.Leaving.{CanRun, RunLeaves}
use Rattle.command_check_trace.specs.command_promises.Manners.{on_threads}
use Rattle.command_check_trace.specs.command_promises.Openings.{Managers}
use Rattle.command_check_trace.specs.command_promises.TraceLeaving.{CanCheck}
use Rattle.command_words.proofs.Worded.{one_command, one_copy}
use Rattle.hopper_top.specs.Leaving.{CanDo, CommandLeaves, CompletesBy, CompletesCopy, CopiesBy, answers_of, asked_lines}

module _ (m : Managers) (command : Command) (call : Call) where
  pub can_run : (trace : Bool) → command ≡ Run trace → CanDo m command call → CanRun m call
  can_run trace is can = subst (λ (c : Command). CanDo m c call) is can

  -- a run on threads
  pub can_run_on : (workers : ℕ) (trace : Bool) → command ≡ RunOnThreads workers trace → CanDo m command call → CanRun m call
  can_run_on workers trace is can = subst (λ (c : Command). CanDo m c call) is can

  pub leaves_on : (workers : ℕ) (trace : Bool) (lines : Lines) (gave : Gave) → command ≡ RunOnThreads workers trace → lines ≡ asked_lines trace
      → RunLeaves (on_threads (lines_of lines)) m call gave (ending gave.status) → CommandLeaves m command call gave
  leaves_on workers trace lines gave is asked leaves =
      subst (λ (c : Command). CommandLeaves m c call gave) (sym is) (subst (λ (l : Lines). RunLeaves (on_threads (lines_of l)) m call gave (ending gave.status)) asked leaves)

  pub copies_none : (words : List Text) (workers : ℕ) (trace : Bool) (gave : Gave) → command ≡ RunOnThreads workers trace → CopiesBy words command call gave
  copies_none words workers trace gave is = subst (λ (c : Command). CopiesBy words c call gave) (sym is) tt

  pub completes_none : (words : List Text) (workers : ℕ) (trace : Bool) (status : Status) → command ≡ RunOnThreads workers trace → CompletesBy words command call status
  completes_none words workers trace status is = subst (λ (c : Command). CompletesBy words c call status) (sym is) tt

  pub can_show : command ≡ Show → CanDo m command call → call.disk.tells × Accepted call.disk.before.reading
  can_show is can = subst (λ (c : Command). CanDo m c call) is can

  pub can_report : command ≡ Report → CanDo m command call → call.disk.tells × Accepted call.disk.before.reading
  can_report is can = subst (λ (c : Command). CanDo m c call) is can

  pub can_drill : (number : ℕ) → command ≡ Drill number → CanDo m command call → CanDrill m number call.disk
  can_drill number is can = subst (λ (c : Command). CanDo m c call) is can

  pub can_check : command ≡ CheckTrace → CanDo m command call → CanCheck (answers_of m) call
  can_check is can = subst (λ (c : Command). CanDo m c call) is can

  pub cannot_copy : command ≡ Copy → CanDo m command call → ⊥
  cannot_copy is can = subst (λ (c : Command). CanDo m c call) is can

  -- the words are one command alone
  pub can_do : (words : List Text) (told : Command) → IsCommand words command → IsCommand words told → CanDo m command call → CanDo m told call
  can_do words told is also can = subst (λ (c : Command). CanDo m c call) (one_command words command told is also) can

-- A COPY, by the two names that its words have
pub copies_by : (words : List Text) (command : Command) (call : Call) (gave : Gave) (name fresh : Text) → command ≡ Copy → IsCopyOf words name fresh
    → CopyLeaves name fresh call.disk call.sink gave (ending gave.status) → CopiesBy words command call gave
copies_by words command call gave name fresh is copy leaves = subst (λ (c : Command). CopiesBy words c call gave) (sym is) (λ n f other.
    let same = one_copy words name fresh n f copy other in
    subst (λ (b : Text). CopyLeaves n b call.disk call.sink gave (ending gave.status)) same.1 (subst (λ (a : Text). CopyLeaves a fresh call.disk call.sink gave (ending gave.status)) same.0 leaves))

pub completes_by : (words : List Text) (command : Command) (call : Call) (status : Status) (name fresh : Text) → command ≡ Copy → IsCopyOf words name fresh
    → CompletesCopy name fresh call status → CompletesBy words command call status
completes_by words command call status name fresh is copy done = subst (λ (c : Command). CompletesBy words c call status) (sym is) (λ n f other.
    let same = one_copy words name fresh n f copy other in
    subst (λ (b : Text). CompletesCopy n b call status) same.1 (subst (λ (a : Text). CompletesCopy a fresh call status) same.0 done))

-- words that are a command and a copy's are that of a copy
module _ (words : List Text) (command : Command) (told : IsCommand words command) (name fresh : Text) (copy : IsCopyOf words name fresh) where
  is_copy : command ≡ Copy
  is_copy = one_command words command Copy told (name, fresh, copy)

  pub copies_then : (call : Call) (gave : Gave) → CopiesBy words command call gave → CopyLeaves name fresh call.disk call.sink gave (ending gave.status)
  copies_then call gave copies = (subst (λ (c : Command). CopiesBy words c call gave) is_copy copies) name fresh copy

  pub completes_then : (call : Call) (status : Status) → CompletesBy words command call status → CompletesCopy name fresh call status
  completes_then call status done = (subst (λ (c : Command). CompletesBy words c call status) is_copy done) name fresh copy
