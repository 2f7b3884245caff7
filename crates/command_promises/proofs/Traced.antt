-- A trace that can be accepted is, unless the source, the disk or the sink fails or memory runs out.
use Rattle.std.proofs.Common.{◌≡◌, inl, inr, ℕ, Option, Some, Ok, Err, refl, sym, ap, subst, ◌∙◌}
use Rattle.std.specs.Prelude.{IfSome, string_bytes}
use Rattle.base_types.specs.declared.histories.Entry.{Entry}
use Rattle.image_facts.specs.model_kernel.State.{KernelState, Text}
use Rattle.image_facts.specs.model_kernel.Steps.{atlas_in}
use Rattle.image_format.proofs.image_meaning_lemmas.Firsts.{not_both}
use Rattle.image_format.proofs.image_meaning_lemmas.Ones.{one_meaning}
use Rattle.script_drill.specs.script_types.declared.refusals.Refusal.{Refusal}
use Rattle.script_drill.specs.script_types.declared.refusals.ScriptFault.TheVariants.{Refused}
use Rattle.script_meaning.specs.Reading.{Reading, refused}
use Rattle.trace_checker.specs.trace_facts.Reading.{SpellsNone}
use Rattle.trace_checker.specs.trace_step_facts.Standing.{Managers}
use Rattle.trace_checker.specs.trace_facts.Traces.{GoesWrong, Spells}
use Rattle.command_source.specs.command_outcomes.Seen.{Call, Gave}
use Rattle.command_source.specs.command_outcomes.Statuses.{IsComplete, ending}
use Rattle.command_source.specs.command_outcomes.declared.statuses.Status.{Status}
use Rattle.command_source.specs.command_outcomes.declared.statuses.Status.TheVariants as status
use Rattle.command_promises.specs.TraceBooked.{over}
use Rattle.command_promises.specs.TraceLeaving.{CanCheck, IsRefused, TraceLeaves}
use Rattle.command_promises.specs.Sources.{MeansTraced, OfSource, Traced, from_source, traced_meaning}
use Rattle.command_promises.specs.Traces.{HasMisfit, IsLegal, IsWrong, OfState}
use Rattle.model_serial.specs.model_births.Fitting.{Fits}
use Rattle.model_serial.specs.model_births.Misfits.{IsMisfit}

-- what holds of bytes that may be known holds of the known ones
of_known : (left : Option Text) (bytes : Text) (P : Text → Type 0) → left ≡ Some bytes → IfSome left P → P bytes
of_known left bytes P is h = subst (λ (o : Option Text). IfSome o P) is h

abbrev read_or : Traced → Reading Traced → Traced
read_or other (Ok traced) = traced
read_or other (Err blame) = other

-- a source means one script and one trace
one_traced : (bytes : Text) (a b : Traced) → MeansTraced bytes a → MeansTraced bytes b → a ≡ b
one_traced bytes a b is also = ap (read_or a) (sym is ∙ also)

-- and none if it is refused
not_refused : (bytes : Text) (t : Traced) (refusal : Refusal) → MeansTraced bytes t → traced_meaning bytes ≡ refused refusal.why (string_bytes refusal.key) → ⊥
not_refused bytes t refusal means refuses = (let same = sym means ∙ refuses in absurd (cc))

module _ (m : Managers) (call : Call) (can : CanCheck m call) where
  -- this is said of the state that the image means by the managers of a script
  abbrev SaysOf : (Traced → KernelState → Type 0) → Traced → Type 0
  SaysOf P t = call.disk.tells → OfState (over t.brought m) t.script call.disk (P t)

  -- what is said of it, and of what the source means, is said of these
  of_these : (P : Traced → KernelState → Type 0) → OfSource call.source (SaysOf P) → P can.traced can.state
  of_these P said =
      let traced : said.traced ≡ can.traced = one_traced can.bytes said.traced can.traced (of_known call.source.before can.bytes (λ bytes. MeansTraced bytes said.traced) can.known said.means) can.read in
      let of = subst (SaysOf P) traced said.holds can.told in
      let one : of.state ≡ can.state = one_meaning (over can.traced.brought m).word call.disk.before.reading of.state can.state of.means can.means in
      subst (P can.traced) one of.holds

  not_misfit : (refusal : Refusal) → OfSource call.source (λ t. HasMisfit (over t.brought m) t.script call.disk refusal) → ⊥
  not_misfit refusal said = (of_these (λ t w. IsMisfit (atlas_in (w 0).cell) t.script (Refused refusal)) said).1 can.fits

  not_wrong : (number : ℕ) (want : Option Entry) (text : Text) → OfSource call.source (λ t. IsWrong (over t.brought m) t.script call.disk t.trace number want text) → ⊥
  not_wrong number want text said =
      (of_these (λ t w. Fits (atlas_in (w 0).cell) t.script × GoesWrong (over t.brought m).word (over t.brought m).wish w t.script t.trace number want text
      × SpellsNone (over t.brought m).word (over t.brought m).wish w t.script t.trace) said).2
      can.lines can.legal

  -- how it may end: whole, for want of memory, or with a fault whose count rose
  abbrev pub MayEnd : Status → Type 0
  MayEnd status.Done = Unit {0}
  MayEnd status.Memory = Unit {0}
  MayEnd status.SinkFault = call.sink.rose
  MayEnd status.DiskFault = call.disk.rose
  MayEnd status.SourceFault = call.source.rose
  MayEnd (status.Script refusal) = ⊥
  MayEnd (status.Foreign block place) = ⊥
  MayEnd (status.TraceWrong number want) = ⊥
  MayEnd status.Usage = ⊥
  MayEnd (status.BlocksFull n) = ⊥

  pub may_end : (gave : Gave) (s : Status) → TraceLeaves m (from_source call.source) call.sink call.disk gave (ending s) → MayEnd s
  may_end gave status.Done leaves = tt
  may_end gave status.Memory leaves = tt
  may_end gave status.SinkFault leaves = leaves.ends.1
  may_end gave status.DiskFault leaves = leaves.ends.1.holds
  may_end gave status.SourceFault leaves = leaves.ends.1
  may_end gave (status.Script refusal) leaves = by_why leaves.ends.1
    where
      by_why : IsRefused m (from_source call.source) call.sink call.disk gave refusal → ⊥
      by_why (inl (refuses, same, time)) =
          not_refused can.bytes can.traced refusal can.read (of_known call.source.before can.bytes (λ bytes. traced_meaning bytes ≡ refused refusal.why (string_bytes refusal.key)) can.known refuses)
      by_why (inr misfit) = not_misfit refusal misfit
  may_end gave (status.Foreign block place) leaves = not_both call.disk.before.reading _ can.means.accepted (leaves.ends.1.holds can.told)
  may_end gave (status.TraceWrong number want) leaves = not_wrong number want leaves.ends.text leaves.ends.wrong
  may_end gave status.Usage leaves = leaves.ends
  may_end gave (status.BlocksFull n) leaves = leaves.ends

  -- and what it tells then of the trace holds of this state
  pub legal_here : (lines : ℕ) → OfSource call.source (λ t. IsLegal (over t.brought m) t.script call.disk t.trace lines) → Spells (over can.traced.brought m).word (over can.traced.brought m).wish can.state can.traced.script can.traced.trace lines
  legal_here lines said = (of_these (λ t w. Fits (atlas_in (w 0).cell) t.script × Spells (over t.brought m).word (over t.brought m).wish w t.script t.trace lines) said).1

  pub complete : (gave : Gave) (s : Status) → TraceLeaves m (from_source call.source) call.sink call.disk gave (ending s) → (call.source.rose → ⊥) → (call.disk.rose → ⊥) → (call.sink.rose → ⊥) → IsComplete s
  complete gave s leaves source disk sink = by_end s (may_end gave s leaves)
    where
      by_end : (s : Status) → MayEnd s → IsComplete s
      by_end status.Done h = inl refl
      by_end status.Memory h = inr refl
      by_end status.SinkFault h = absurd (sink h)
      by_end status.DiskFault h = absurd (disk h)
      by_end status.SourceFault h = absurd (source h)
      by_end (status.Script refusal) h = absurd h
      by_end (status.Foreign block place) h = absurd h
      by_end (status.TraceWrong number want) h = absurd h
      by_end status.Usage h = absurd h
      by_end (status.BlocksFull n) h = absurd h
