-- What is told of a step by what its look came to.
use Rattle.std.proofs.Common.{◌≡◌, ◌⊎◌, inl, inr, Option, Some, None, Ok, Err, subst}
use Rattle.std.specs.Prelude.{◌↔◌, IfOk, Result}
use Rattle.kernel_core_facts.specs.table_steps.declared.stepping.Made.{Made as Step}
use Rattle.kernel_core_facts.specs.table_steps.declared.stepping.StepFault.{StepFault}
use Rattle.kernel_core_facts.specs.table_steps.declared.stepping.StepFault.TheVariants.{Idle as IdleStep, Paging}
use Rattle.kernel_core_facts.specs.kernel_invariant.declared.stopping.Stopped.{Stopped}
use Rattle.kernel_core_facts.specs.Looked.{IfMade}
use Rattle.thread_looks.specs.Making.{looked_by}
use Rattle.kernel_core_facts.specs.declared.looked.Looked.{Looked}
use Rattle.kernel_core_facts.specs.declared.looked.Looked.TheVariants.{Idle, Made}

abbrev pub ok_look : Looked → Result Looked Stopped
ok_look o = Ok o

pub if_looked : (P : Step → Type 0) (came : Result Step StepFault) → IfOk came P → IfOk (looked_by came) (λ o. IfMade o P)
if_looked P (Ok m) says = says
if_looked P (Err (IdleStep why)) says = tt
if_looked P (Err (Paging f)) says = tt

pub if_made : (P Q : Step → Type 0) → ((m : Step) → P m → Q m) → (came : Result Looked Stopped) → IfOk came (λ o. IfMade o P) → IfOk came (λ o. IfMade o Q)
if_made P Q weaker (Ok (Made m)) says = weaker m says
if_made P Q weaker (Ok (Idle why)) says = tt
if_made P Q weaker (Err why) says = tt

-- what came isn't none
pub some_not : {A B P : Type 0} (x : A) (y : B) → ((Some x ≡ None) ↔ P) → (Some y ≡ None) ↔ P
some_not x y says = ((λ is. absurd (cc is)), (λ p. absurd (let is = says.1 p in cc is)))

pub none_still : {A B P : Type 0} (o : Option A) → o ≡ None → ((o ≡ None) ↔ P) → (q : Option B) → q ≡ None → (q ≡ None) ↔ P
none_still o none says q is = ((λ _. says.0 none), (λ p. is))

-- a step that is told is the one that came
pub if_same : (P : Step → Type 0) (came result : Result Looked Stopped) → IfOk result (λ o. IfMade o (λ m. came ≡ ok_look (Made m))) → IfOk came (λ o. IfMade o P) → IfOk result (λ o. IfMade o P)
if_same P came (Ok (Made m)) same says = subst (λ (q : Result Looked Stopped). IfOk q (λ o. IfMade o P)) same says
if_same P came (Ok (Idle why)) same says = tt
if_same P came (Err why) same says = tt

-- neither of two
pub either_not : {B P Q : Type 0} (y : B) → (P → ⊥) → (Q → ⊥) → P ⊎ Q → Some y ≡ None
either_not y left right (inl p) = absurd (left p)
either_not y left right (inr q) = absurd (right q)
