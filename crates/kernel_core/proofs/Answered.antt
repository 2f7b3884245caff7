-- What a step over the table answers, and what a kernel's step answers then.
use Rattle.std.proofs.Common.{◌≡◌, Bool, true, false, not, Option, Some, None, Ok, Err, refl, ap}
use Rattle.std.specs.Prelude.{IsErrOf, Result}
use Rattle.edge_disk.specs.declared.disk.NoBlocks.{NoBlocks}
use Rattle.page_store.specs.declared.faults.PageFault.{PageFault}
use Rattle.page_store.specs.declared.faults.PageFault.TheVariants as page
use Rattle.kernel_core_facts.specs.cell_plans.declared.idle.Idle.{Idle as AnIdle}
use Rattle.kernel_core_facts.specs.cell_plans.declared.idle.Idle.TheVariants.{Absent}
use Rattle.kernel_core_facts.specs.table_steps.declared.stepping.Made.{Made as Step}
use Rattle.kernel_core_facts.specs.table_steps.declared.stepping.StepFault.{StepFault}
use Rattle.kernel_core_facts.specs.table_steps.declared.stepping.StepFault.TheVariants.{Idle, Paging}
use Rattle.kernel_core_facts.specs.Stepping.{stop_by}
use Rattle.kernel_core_facts.specs.declared.looked.Looked.{Looked}
use Rattle.kernel_core_facts.specs.declared.looked.Looked.TheVariants.{Idle as IdleFor, Made}
use Rattle.kernel_core_facts.specs.kernel_invariant.declared.stopping.Stopped.{Stopped}
use Rattle.kernel_core_facts.specs.kernel_invariant.declared.stopping.Stopped.TheVariants as reason

pub none_by : (o : Option AnIdle) → ((why : AnIdle) → o ≡ Some why → ⊥) → o ≡ None
none_by None h = refl
none_by (Some why) h = absurd (h why refl)

pub absent_none : Some Absent ≡ None → ⊥
absent_none e = cc

abbrev pub err_of : StepFault → Result Step StepFault
err_of f = Err f

pub no_fault : (m : Step) (f : StepFault) → IsErrOf {T = Step} {E = StepFault} (Ok m) f → ⊥
no_fault m f is = cc

pub fault_is : (f g : StepFault) → f ≡ g → IsErrOf {T = Step} {E = StepFault} (Err f) g
fault_is f g is = ap (λ (h : StepFault). err_of h) is

pub no_paging : (why : AnIdle) (f : PageFault) → IsErrOf {T = Step} {E = StepFault} (Err (Idle why)) (Paging f) → ⊥
no_paging why f is = cc

pub no_idle : (f : PageFault) (why : AnIdle) → IsErrOf {T = Step} {E = StepFault} (Err (Paging f)) (Idle why) → ⊥
no_idle f why is = cc

pub not_true : (t : Bool) → true ≡ not t → t ≡ false
not_true true is = absurd (cc is)
not_true false is = refl

pub not_false : (t : Bool) → false ≡ not t → t ≡ true
not_false true is = refl
not_false false is = absurd (cc is)

abbrev pub ok_made : Step → Result Looked Stopped
ok_made m = Ok (Made m)

abbrev pub ok_idle : AnIdle → Result Looked Stopped
ok_idle why = Ok (IdleFor why)

abbrev pub err_why : Stopped → Result Looked Stopped
err_why why = Err why

pub made_not : (m : Step) (why : AnIdle) → ok_made m ≡ ok_idle why → ⊥
made_not m why is = cc is

pub err_not : (stop : Stopped) (why : AnIdle) → err_why stop ≡ ok_idle why → ⊥
err_not stop why is = cc is

pub idle_for : (why w : AnIdle) → IsErrOf {T = Step} {E = StepFault} (Err (Idle why)) (Idle w) → ok_idle why ≡ ok_idle w
idle_for why w is = let e : why ≡ w = cc in ap ok_idle e

pub idle_by : (why w : AnIdle) → ok_idle why ≡ ok_idle w → IsErrOf {T = Step} {E = StepFault} (Err (Idle why)) (Idle w)
idle_by why w is = let e : why ≡ w = cc in ap (λ (v : AnIdle). err_of (Idle v)) e

pub stop_is : (f : PageFault) (n : NoBlocks) → err_why (stop_by f) ≡ err_why (reason.NoBlocks n) → f ≡ page.NoBlocks n
stop_is (page.NoBlocks m) n is = (let same : m ≡ n = cc in ap page.NoBlocks same)
stop_is page.ReadFault n is = absurd (cc is)
stop_is page.WriteFault n is = absurd (cc is)
stop_is page.Shut n is = absurd (cc is)

pub page_is : (f g : PageFault) → IsErrOf {T = Step} {E = StepFault} (Err (Paging f)) (Paging g) → f ≡ g
page_is f g is = cc
