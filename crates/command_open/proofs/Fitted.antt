-- What came of fitting a kernel: the same kernel, or a fault with its disk.
use Rattle.std.proofs.Common.{◌≡◌, sym, subst}
use Rattle.std.specs.Prelude.{Err, IfErr, IfOk, Ok, Result}
use Rattle.command_outcomes.specs.declared.faults.Fault.{Fault}

pub on_kernel : {K E : Type 0} (r : Result K E) (k : K) (A P : K → Type 0) → IfOk r (λ j. j ≡ k) → IfOk r A → (A k → P k) → IfOk r P
on_kernel (Ok j) k A P same is turn = subst P (sym same) (turn (subst A same is))
on_kernel (Err e) k A P same is turn = tt

module _ {K E D : Type 0} (fault_in : E → Fault) (disk_in : E → D) where
  pub on_fault : (r : Result K E) (disk : D) (A : Fault → Type 0) (Q : Fault → D → Type 0) → IfErr r (λ e. A (fault_in e)) → IfErr r (λ e. disk_in e ≡ disk) → ((f : Fault) → A f → Q f disk) → IfErr r (λ e. Q (fault_in e) (disk_in e))
  on_fault (Ok k) disk A Q why at turn = tt
  on_fault (Err e) disk A Q why at turn = subst (Q (fault_in e)) (sym at) (turn (fault_in e) why)
