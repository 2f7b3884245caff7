use Rattle.std.proofs.Common.{◌≡◌, ◌++◌, ◌∷◌, ◌+◌, ℕ, List, [], Err, Some, length, take, append_assoc, refl, sym, ap, subst, ◌∙◌, arith}
use Rattle.std.proofs.lemmas.List.{append-nil, take_all, take_more}
use Rattle.thread_stables.specs.kernel_core_facts.Kernels.{NotesAlong}
use Rattle.thread_stables.specs.kernel_core_facts.kernel_invariant.Beginnings.{run_of}
use Rattle.thread_stables.specs.kernel_core_facts.model_serial.Serial.{look}
use Rattle.thread_clients.specs.Running.{IsBehindLooks}
use Rattle.thread_clients.proofs.Looked.{behind_next, if_made, not_made}
use Rattle.thread_clients.proofs.kernels.LentKernel.look_at_each.Goals as goal

pub loop-i-init : goal.loop-i-init
loop-i-init g c = record {
  behind = λ told b looked supply policy s. subst (λ (ls : List ℕ). IsBehindLooks g.D.Disk b ls c.args.self.now) (sym (append-nil looked)) s;
  clean = c.requires.clean;
}

pub loop-i-preserved : goal.loop-i-preserved
loop-i-preserved g c =
    let d = g.D.Disk in
    let xs = c.args.loci.now in
    let i = c.loop-i.i in
    let x = c.index-loci-i.result in
    let more : take (i + 1) xs ≡ take i xs ++ x ∷ [] = take_more xs i x c.loop-i-test.true ∙ ap (λ (y : ℕ). take i xs ++ y ∷ []) (sym c.index-loci-i.is) in
    record {
      behind = λ told b looked supply policy s.
          let before = c.loop-i.invariant.behind told b looked supply policy s in
          let n = c.look.ensures in
          let old = c.loop-i.self in
          subst (λ (ls : List ℕ). IsBehindLooks d b ls c.look.new.self) (append_assoc looked (take i xs) (x ∷ []) ∙ ap (λ (ls : List ℕ). looked ++ ls) (sym more))
          (behind_next d (λ why. c.look.result ≡ Some (Err why)) b (looked ++ take i xs) x old c.look.new.self old.stop refl n.was_stopped before (n.run told b supply policy before.lives)
          (λ going. if_made c.look.result c.is_none.result (NotesAlong d b (look b.supply b.policy b.script (run_of b old.parts.noted.entries) x) old c.look.new.self) c.is_none.ensures c.if-is_none.false (n.notes told b supply policy before.lives going)));
      clean = c.look.ensures.clean;
    }

-- a look that was not made leaves the kernel behind those before it
pub returns-then-is_none-clause-behind : goal.returns-then-is_none-clause-behind
returns-then-is_none-clause-behind g c = λ told b looked supply policy s.
    let none = not_made c.look.result c.is_none.result c.is_none.ensures c.if-is_none.true in
    subst (IsBehindLooks g.D.Disk b (looked ++ take c.loop-i.i c.args.loci.now)) (sym (c.look.ensures.none none)) (c.loop-i.invariant.behind told b looked supply policy s)

pub returns-clause-behind : goal.returns-clause-behind
returns-clause-behind g c = λ told b looked supply policy s.
    let xs = c.args.loci.now in
    let all : take c.loop-i.i xs ≡ take (length xs) xs = (let over = c.loop-i-test.false in take_all c.loop-i.i xs (omega (arith, over)) ∙ sym (take_all (length xs) xs (omega arith))) in
    subst (λ (ls : List ℕ). IsBehindLooks g.D.Disk b (looked ++ ls) c.loop-i.self) all (c.loop-i.invariant.behind told b looked supply policy s)
