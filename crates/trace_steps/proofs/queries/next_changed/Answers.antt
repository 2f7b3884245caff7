-- None below passes, so the one that does is the first.
use Rattle.std.proofs.Common.{◌≡◌, ℕ, ◌<◌, ◌≤◌, Some, ap, sym, ◌∙◌, arith, nat_lt, true, false, subst, None}
use Rattle.std.proofs.lemmas.Bool.Decides.{nat_tests}
use Rattle.std.specs.Prelude.{find}
use Rattle.base_types.specs.Edges.{upto}
use Rattle.trace_step_facts.specs.Recording.{first_changed, is_changed}
use Rattle.trace_state.proofs.Finding.{first_here, none_more}
use Rattle.trace_steps.proofs.queries.next_changed.Goals as goal

less : (a b : ℕ) → a < b → nat_lt a b ≡ true
less a b h = grind (arith, nat_tests)

not_less : (a b : ℕ) → b ≤ a → nat_lt a b ≡ false
not_less a b h = grind (arith, nat_tests)

pub returns-then-newest-x : goal.returns-then-newest-x
unfolding first_changed
returns-then-newest-x c =
    ap (λ n. Some n) c.of.ensures
    ∙ sym (first_here (is_changed c.args.newest.now c.args.versions.now) c.loop-x.x 64 c.loop-x.invariant (less _ _ c.if-newest-x.true) c.loop-x-test.true)

pub loop-x-preserved : goal.loop-x-preserved
loop-x-preserved c = none_more (is_changed c.args.newest.now c.args.versions.now) c.loop-x.x c.loop-x.invariant (not_less _ _ c.if-newest-x.false)

pub returns : goal.returns
unfolding first_changed
returns c =
    let at : c.loop-x.x ≡ 64 = (let a = c.loop-x.auto.x-end in let b = c.loop-x-test.false in omega (arith, a, b)) in
    sym (subst (λ n. find (is_changed c.args.newest.now c.args.versions.now) (upto n) ≡ None) at c.loop-x.invariant)
