-- Whether a step owes a Stable, by its locus's cell before it and its answer.
use Rattle.std.proofs.Common.{◌≡◌, ℕ, Bool, true, false, ◌&&◌, if◌then◌else◌, Option, Some, None, refl, ap}
use Rattle.base_types.specs.declared.histories.Answer.{Answer}
use Rattle.base_types.specs.declared.histories.Answer.TheVariants.{Hop, Print, Quiet, Read, Reply as Replied}
use Rattle.base_types.specs.declared.histories.Entry.{Entry}
use Rattle.base_types.specs.declared.histories.Event.{Event}
use Rattle.base_types.specs.declared.histories.Event.TheVariants.{Step}
use Rattle.base_types.specs.declared.instructions.Reply.TheVariants.{Ok}
use Rattle.table_births.specs.model_kernel.Histories.{Run, goes_on, locus_in, owed_by, went_on}
use Rattle.table_births.specs.model_kernel.Scripts.{Script}
use Rattle.table_births.specs.model_kernel.State.{LocusState, Supply}
use Rattle.kernel_core_facts.specs.Stepping.{is_ok}

abbrev owing : ℕ → Bool → Option ℕ
owing me t = if t then Some me else None

never_ok : (me : ℕ) (a : Answer) (t : Bool) → None ≡ owing me t → None ≡ owing me (t && is_ok a)
never_ok me a false is = refl
never_ok me a true is = absurd (cc is)

not_asked : (me : ℕ) (t : Bool) → None ≡ owing me (t && false)
not_asked me true = refl
not_asked me false = refl

asked : (me : ℕ) (t : Bool) (o : Option ℕ) → o ≡ owing me t → o ≡ owing me (t && true)
asked me true o is = is
asked me false o is = is

-- what a step that is answered so owes
pub owes_by : (me : ℕ) (a : Answer) (l : Option LocusState) (t : Bool) → owed_by me (Replied Ok) l ≡ owing me t → owed_by me a l ≡ owing me (t && is_ok a)
owes_by me a None t is = never_ok me a t is
owes_by me Quiet (Some l) t is = not_asked me t
owes_by me Hop (Some l) t is = not_asked me t
owes_by me (Read v) (Some l) t is = not_asked me t
owes_by me (Print v) (Some l) t is = not_asked me t
owes_by me (Replied Ok) (Some l) t is = asked me t (owed_by me (Replied Ok) (Some l)) is
owes_by me (Replied r) (Some l) t is = not_asked me t

-- in a run
pub owed_next : (s : Supply) (script : Script) (r : Run) (e : Entry) → e.event ≡ Step → (goes_on s script r e).owed ≡ owed_by e.actor e.answer (locus_in (r.state e.actor).cell)
owed_next s script r e is = ap (λ (v : Event). (went_on s script r e v).owed) is
