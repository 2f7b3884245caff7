-- The part of a worker: which loci it looks at, in which order, and when it ends.
use Rattle.std.specs.Prelude.{◌≡◌, ℕ, zero, suc, ◌+◌, ◌%◌, ◌==◌, if◌then◌else◌, Bool, true, false, List, [], ◌∷◌, ◌++◌, map, Some, slice_get, length}
use Rattle.thread_board.specs.Items.{Each, IsRising}
use Rattle.thread_board.specs.Sides.{PassSeen}
use Rattle.thread_board.specs.declared.views.PassItem.{PassItem}
use Rattle.thread_returns.specs.Passes.{AreAllApart}
use Rattle.kernel_runs.specs.kernel_core_facts.Kernels.{Held}
use Rattle.kernel_runs.specs.kernel_invariant.Beginnings.{Beginning}
use Rattle.thread_items.specs.Items.{AreTrueItems}
use Rattle.thread_items.specs.Places.{steps_in}
use Rattle.thread_items.specs.declared.items.Came.{Came}
use Rattle.thread_items.specs.declared.items.Came.TheVariants as came
use Rattle.thread_items.specs.declared.items.LookItem.{LookItem}
use Rattle.thread_runs.specs.declared.workers.Went.{Went}
use Rattle.thread_runs.specs.declared.workers.Went.TheVariants as went

-- a worker's loci among the first so many: those whose number leaves the worker's by the number of workers
abbrev pub loci_among : ℕ → ℕ → ℕ → List ℕ
loci_among number workers zero = []
loci_among number workers (suc n) = loci_among number workers n ++ (if (41 + n) % workers == number then (41 + n) ∷ [] else [])

-- all of them
abbrev pub loci_of : ℕ → ℕ → List ℕ
loci_of number workers = loci_among number workers 23

-- so many rounds over these
abbrev pub round_and_round : ℕ → List ℕ → List ℕ
round_and_round zero ls = []
round_and_round (suc n) ls = round_and_round n ls ++ ls

-- how a look went, by what came of it
abbrev pub went_by : Came → Went
went_by (came.Made e) = went.Made
went_by (came.Idle why) = went.Idle
went_by (came.Stopped why) = went.Stopped
went_by (came.StoppedBehind e why) = went.Stopped

abbrev pub locus_in : PassItem LookItem → ℕ
locus_in x = x.item.locus

abbrev pub went_in : PassItem LookItem → Went
went_in x = went_by x.item.came

-- LOOKS AT THESE LOCI, one behind the other, by what they noted in the pass: none was answered that the kernel has stopped; and where no step is
-- told of, each went idle
pub record AreLooks (ls : List ℕ) (made : Bool) (old new : List (PassItem LookItem)) : Type 0 where
  pub noted : List (PassItem LookItem)
  pub same : new ≡ old ++ noted
  pub loci : map locus_in noted ≡ ls
  pub going : Each (λ x. went_in x ≡ went.Stopped → ⊥) noted
  pub idle : made ≡ false → Each (λ x. went_in x ≡ went.Idle) noted

-- A LOOK at the locus that was answered so, which the pass notes; or want of memory, and nothing is noted
abbrev pub IsLook : ℕ → Went → List (PassItem LookItem) → List (PassItem LookItem) → Type 0
IsLook locus went.Lacked old new = new ≡ old
IsLook locus how old new = (x : PassItem LookItem) × (new ≡ old ++ x ∷ []) × (x.item.locus ≡ locus) × (went_in x ≡ how)

-- A ROUND of a worker: a look at each of its loci, none of which could step where it is told idle; or looks up to the one where the kernel had
-- stopped, or there was no memory
abbrev pub IsRound : ℕ → ℕ → Went → List (PassItem LookItem) → List (PassItem LookItem) → Type 0
IsRound number workers went.Idle old new = AreLooks (loci_of number workers) false old new
IsRound number workers went.Made old new = AreLooks (loci_of number workers) true old new
IsRound number workers how old new = (n : ℕ) × (mid : List (PassItem LookItem)) × AreLooks (loci_among number workers n) true old mid × IsLook (41 + n) how mid new

-- whole rounds of a worker, one behind the other
abbrev pub AreRounds : ℕ → ℕ → List (PassItem LookItem) → Type 0
AreRounds number workers items = (rounds : ℕ) × AreLooks (round_and_round rounds (loci_of number workers)) true [] items

-- HOW ROUNDS WENT ON: whole rounds, where a step was made in the last one, and else these and a last one that went so
abbrev pub WentOn : ℕ → ℕ → Went → List (PassItem LookItem) → Type 0
WentOn number workers went.Made items = AreRounds number workers items
WentOn number workers how items = (before : List (PassItem LookItem)) × AreRounds number workers before × IsRound number workers how before items

-- how a part ends, and whether it lacked memory
abbrev pub EndsPart : Went → Bool → Type 0
EndsPart went.Made lacked = ⊥
EndsPart went.Idle lacked = lacked ≡ false
EndsPart went.Stopped lacked = lacked ≡ false
EndsPart went.Lacked lacked = lacked ≡ true

-- THE PART OF A WORKER, by the items of its pass: whole rounds over its loci, and a last one, in which none could step, or which was cut short
pub record IsPart (number workers : ℕ) (lacked : Bool) (items : List (PassItem LookItem)) : Type 0 where
  pub rounds_made : ℕ
  pub before : List (PassItem LookItem)
  pub rounds : AreLooks (round_and_round rounds_made (loci_of number workers)) true [] before
  pub how : Went
  pub last : IsRound number workers how before items
  pub ends : EndsPart how lacked

-- THE PARTS OF ALL WORKERS, none of which lacked memory
pub record ArePartsOf (workers : ℕ) (passes : List (PassSeen LookItem)) : Type 0 where
  pub many : length passes ≡ workers
  pub each : (w : ℕ) (p : PassSeen LookItem) → slice_get passes w ≡ Some p → IsPart w workers false p.items

-- WHAT ALL WORKERS DID, none of whom lacked memory: their parts, each item of which is true of the history and of why the kernel has stopped. The items of
-- each ascend, and those of two cover no place twice
pub record HaveWorked {D : Type 0} (told : Type 0) (b : Beginning) (workers : ℕ) (k : Held D) : Type 0 where
  pub passes : List (PassSeen LookItem)
  pub parts : ArePartsOf workers passes
  pub items : Each (λ p. AreTrueItems told b k.parts.noted.entries k.stop p.items) passes
  pub rising : Each (λ p. IsRising (λ i. i.place) (λ i. i.place + steps_in i.came) p.items) passes
  pub apart : AreAllApart (λ i. i.place) (λ i. i.place + steps_in i.came) passes
