use Rattle.std.proofs.Common.{◌≡◌, ℕ, ◌+◌, ◌++◌, ◌∷◌, [], List, Option, Some, None, IfSome, true, false, not, is_some, length, refl, sym, ap, subst, ◌∙◌, arith, append-nil, append_assoc}
use Rattle.std.proofs.lemmas.List.{length-append}
use Rattle.std.proofs.lemmas.Result.{err_from_is_err_and}
use Rattle.base_types.specs.declared.histories.Entry.{Entry}
use Rattle.plain_steps.specs.model_kernel.Scripts.{Script}
use Rattle.plain_steps.specs.model_kernel.State.{Supply, KernelState}
use Rattle.script_types.specs.Scripts.{tables_of}
use Rattle.plain_runs.specs.Standing.{GoesOn, Stands}
use Rattle.plain_runs.specs.declared.serial.SerialRun.{SerialRun}
use Rattle.plain_runs.proofs.Answering.{where_none}
use Rattle.plain_runs.proofs.plays.replay.Goals as goal

-- one entry more
more_made : (s : Supply) (script : Script) (w : KernelState) (mid new : SerialRun) (o : Option Entry) (es fs : List Entry) (n : ℕ) → is_some o ≡ true → IfSome o (λ e. GoesOn s script mid e new) → length fs ≡ n → Stands s script w mid (es ++ fs)
    → (gs : List Entry) × (length gs ≡ n + 1) × Stands s script w new (es ++ gs)
more_made s script w mid new None es fs n some further long at = absurd (bad some)
  where
    bad : false ≡ true → ⊥
    bad e = cc
more_made s script w mid new (Some e) es fs n some further long at =
    (fs ++ e ∷ [], (let k = length-append fs (e ∷ []) in omega (arith, k, long)), subst (λ (gs : List Entry). Stands s script w new gs) (append_assoc es fs (e ∷ [])) (further w (es ++ fs) at))

pub loop-made-init : goal.loop-made-init
loop-made-init g c = record { few = omega arith; stands = λ w es h. ([], refl, subst (λ (gs : List Entry). Stands g.s (tables_of c.args.script.now) w c.args.run.now gs) (sym (append-nil es)) h) }

pub next-requires : goal.next-requires
next-requires g c κs lives =
    let at = c.requires.1.1.1 in
    let h = c.loop-made.invariant.stands at.0 at.1 at.2 in
    (λ a mem. lives a mem, (c.requires.1.0, (c.requires.1.1.0, (at.0, at.1 ++ h.0, h.2))))

pub loop-made-preserved : goal.loop-made-preserved
loop-made-preserved g c =
    let entry = c.in_ok-entry.entry in
    let some : is_some entry ≡ true = c.is_none.ensures ∙ ap not c.if-is_none.false in
    record {
      few = omega (arith, c.loop-made-test.true);
      stands = λ w es h. (let k = c.loop-made.invariant.stands w es h in
          more_made g.s (tables_of c.args.script.now) w c.loop-made.run c.next.new.self entry es k.0 c.loop-made.made some c.in_ok-entry.ensures.further k.1 k.2);
    }

pub returns-in_err-entry-clause-err : goal.returns-in_err-entry-clause-err
returns-in_err-entry-clause-err g c =
    let e = err_from_is_err_and c.from_residual.result c.from_residual.ensures.1 in
    rw e.1 (λ w es h. let k = c.loop-made.invariant.stands w es h in (k.0, c.in_err-entry.ensures.err w (es ++ k.0) k.2))

pub returns-then-is_none-clause-replayed : goal.returns-then-is_none-clause-replayed
returns-then-is_none-clause-replayed g c w es h =
    let entry = c.in_ok-entry.entry in
    let none : is_some entry ≡ false = c.is_none.ensures ∙ ap not c.if-is_none.true in
    let k = c.loop-made.invariant.stands w es h in
    (k.0, ((let n = k.1 in omega (arith, n, c.loop-made-test.true)), where_none entry none c.in_ok-entry.ensures.over w (es ++ k.0) k.2), where_none entry none c.in_ok-entry.ensures.none w (es ++ k.0) k.2)

pub returns-clause-replayed : goal.returns-clause-replayed
returns-clause-replayed g c w es h =
    let k = c.loop-made.invariant.stands w es h in
    (k.0, (let n = k.1 in omega (arith, n, c.loop-made.invariant.few, c.loop-made-test.false)), k.2)
