-- How a run goes: one locus behind the other as the script says, or on threads, in some order of looks.
use Rattle.std.specs.Prelude.{ℕ, List, ◌++◌}
use Rattle.base_types.specs.declared.histories.Entry.{Entry}
use Rattle.image_facts.specs.model_kernel.Serial.{IsAllIdle, rounds}
use Rattle.image_facts.specs.model_kernel.State.{AtlasState, Text}
use Rattle.image_facts.specs.model_kernel.Steps.{atlas_in}
use Rattle.kernel_runs.specs.kernel_commit_facts.Lacking.{IsDue, IsDueIn}
use Rattle.kernel_runs.specs.kernel_commit_facts.Pieces.{StopsIn}
use Rattle.kernel_runs.specs.kernel_run_facts.Alongs.{ComesNext, LooksAt}
use Rattle.open_kernel.specs.kernel_invariant.Beginnings.{Beginning, run_of, state_after}
use Rattle.model_serial.specs.Serial.{IsStopped, IsWhole}

-- what a run puts of a history, by the names of an atlas: its printed lines, for one
abbrev pub Telling : Type 0
Telling = AtlasState → List Entry → Text

-- what is put of these entries, by the names that they leave
abbrev pub told : Telling → Beginning → List Entry → Text
told telling b es = telling (atlas_in (state_after b es 0).cell) es

-- THE MANNER OF A RUN: what is put of it, and what its history is, where it came to its end, where it was stopped, and where memory ran out in its midst
pub record Manner : Type 1 where
  pub telling : Telling
  pub whole : Beginning → List Entry → Type 0
  pub part : Beginning → List Entry → Type 0
  -- what was due where blocks were too few
  pub due : Beginning → List Entry → Type 0
  -- whether memory may run out in its midst, and the history then
  pub may_lack : Type 0
  pub lacking : Beginning → List Entry → Type 0

-- ONE LOCUS BEHIND THE OTHER, as the script's order says, and then round after round: the serial run, which takes no memory
abbrev pub serial : Telling → Manner
serial telling = record {
  telling = telling;
  whole = λ b es. IsWhole b.supply b.policy b.script b.state es;
  part = λ b es. IsStopped b.supply b.policy b.script b.state es;
  due = IsDue;
  may_lack = ⊥;
  lacking = λ b es. ⊥;
}

-- IN SOME ORDER OF LOOKS: the births, a look at each of these loci, one behind the other, and then whole rounds, behind which all loci are idle
pub record IsWholeInOrder (b : Beginning) (es : List Entry) : Type 0 where
  pub first : List ℕ
  pub rounds_made : ℕ
  pub looks : LooksAt b (first ++ rounds rounds_made) es
  pub over : IsAllIdle b.script (run_of b es)

-- the births, and a look at each of these loci
pub record IsBehindLooks (b : Beginning) (es : List Entry) : Type 0 where
  pub looked : List ℕ
  pub looks : LooksAt b looked es

-- stopped in the births, or in a look behind such: a part of it came
pub record IsStoppedInOrder (b : Beginning) (es : List Entry) : Type 0 where
  pub front : List Entry
  pub all : List Entry
  pub next : ComesNext b front all
  pub part : StopsIn b all front es

-- what was due in it: the next entry, which may want blocks
pub record IsDueInOrder (b : Beginning) (es : List Entry) : Type 0 where
  pub front : List Entry
  pub all : List Entry
  pub next : ComesNext b front all
  pub due : IsDueIn b all front es

-- ON THREADS: the looks come in some order, of which nothing is said
abbrev pub on_threads : Telling → Manner
on_threads telling = record {
  telling = telling;
  whole = IsWholeInOrder;
  part = IsStoppedInOrder;
  due = IsDueInOrder;
  may_lack = Unit {0};
  lacking = IsBehindLooks;
}
