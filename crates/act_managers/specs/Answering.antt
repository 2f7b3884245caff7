-- What a manager answers: its program runs as a locus would, over the acts that touch the locus alone.
use Rattle.std.specs.Prelude.{ℕ, zero, suc, Bool, true, false, ◌==◌, not, if◌then◌else◌, List, [], ◌∷◌, replicate, Option, Some, None, All, find}
use Rattle.base_types.specs.declared.instructions.Condition.{Condition}
use Rattle.base_types.specs.declared.instructions.Condition.TheVariants.{Running}
use Rattle.base_types.specs.declared.instructions.Instr.{Instr}
use Rattle.act_alone.specs.model_kernel.State.{LocusState, Supply}
use Rattle.act_alone.specs.model_kernel.Refusals.{instr_at, reg}
use Rattle.act_alone.specs.model_kernel.Outcomes.{local_act}
use Rattle.base_managers.specs.Managing.{IsManagerCode, ManagerTable}

abbrev pub goes : Condition → Bool
goes Running = true
goes c = false

-- the next act, of those that touch the locus alone
abbrev pub act : LocusState → LocusState
act l = (local_act l (instr_at l)).locus

-- after at most n acts; what has halted makes none
unfoldable pub after_acts : ℕ → LocusState → LocusState
after_acts zero l = l
after_acts (suc n) l = if goes l.condition then after_acts n (act l) else l

-- before the first act: the code from place 0, with these registers, in no container
abbrev pub beginning : List Instr → List ℕ → LocusState
beginning code registers = record {
  registers = registers;
  place = 0;
  code = code;
  host = 0;
  chain = [];
  privates = [];
  caps = replicate 32 None;
  walk = None;
  condition = Running;
  every = 0;
  printed = 0;
}

-- register 3 after the program has run from place 0 until it halts, or for 1,000 acts
unfoldable pub manager_answer : List Instr → List ℕ → ℕ
manager_answer code registers = reg (after_acts 1000 (beginning code registers)) 3

-- the first manager of this number
abbrev pub manager_named : List ManagerTable → ℕ → Option ManagerTable
manager_named managers number = find (λ (m : ManagerTable). m.number == number) managers

abbrev pub word_by : Option ManagerTable → Supply → Supply
word_by (Some m) outer tag page place = manager_answer m.code (tag ∷ page ∷ place ∷ 0 ∷ 0 ∷ 0 ∷ 0 ∷ 0 ∷ [])
word_by None outer tag page place = outer tag page place

-- a word by the script's suppliers: the one of this tag answers; for any other tag the outer supplier does
abbrev pub book_word : List ManagerTable → Supply → Supply
book_word suppliers outer tag page place = word_by (manager_named suppliers tag) outer tag page place

abbrev pub wish_by : Option ManagerTable → (ℕ → ℕ → Bool) → ℕ → ℕ → Bool
wish_by (Some m) outer every since = not (manager_answer m.code (every ∷ since ∷ 0 ∷ 0 ∷ 0 ∷ 0 ∷ 0 ∷ 0 ∷ []) == 0)
wish_by None outer every since = outer every since

-- a wish by the script's policies: the one of this `every` answers; for any other the outer policy does
abbrev pub book_wish : List ManagerTable → (ℕ → ℕ → Bool) → ℕ → ℕ → Bool
book_wish policies outer every since = wish_by (manager_named policies every) outer every since

-- each has a manager's program
abbrev pub CanAnswer : List ManagerTable → Type 0
CanAnswer managers = All (λ (m : ManagerTable). IsManagerCode m.code) managers
