use Rattle.std.proofs.Common.{◌≡◌, ◌+◌, ◌*◌, ◌/◌, ◌%◌, ◌<◌, ◌≤◌, ℕ, List, Vec, Global, sym, ap, subst, ◌∙◌, arith}
use Rattle.data_atlas.specs.data_atlas_facts.Directory.{edges_of}
use Rattle.plain_states.specs.declared.plain.Edge.{Edge}
use Rattle.base_types.specs.Edges.{Edges}
use Rattle.image_plain.proofs.Counting.{AreCountedTo, all_counted, counted_more, counted_none}
use Rattle.image_plain.proofs.atlases.counted.Goals as goal
use Rattle.image_plain.proofs.atlases.counted.Goals.{then-count-gt0+in_ok-push, else-count-gt0}

pub loop-pair-preserved : goal.loop-pair-preserved
loop-pair-preserved c =
    let f : Edges = edges_of c.args.atlas.now in
    let es : List Edge = c.loop-pair.edges.items in
    let n : ℕ = c.loop-pair.pair in
    let pair : 41 * (n / 41) + n % 41 ≡ n = omega arith in
    let to : n % 41 < 41 = omega arith in
    let told : c.count-count.result ≡ f (n / 41) (n % 41) = c.count-count.ensures.count ∙ (ap (λ x. f x c.of-in-loop-pair.result) c.of.ensures ∙ ap (f (n / 41)) c.of-in-loop-pair.ensures) in
    elim c.if-count-gt0.branch [
      | then-count-gt0+in_ok-push w ↦ subst (λ (l : List Edge). AreCountedTo f l (n + 1)) (sym (ap (λ (v : Vec Edge Global). v.items) w.edges-is ∙ w.in_ok-push.ensures.items))
          (counted_more f es n (n / 41) (n % 41) c.loop-pair.invariant c.count-count.ensures.inside pair to c.count-count.result (let some = w.if-count-gt0.true in omega (arith, some)) told)
      | else-count-gt0 w ↦ subst (λ (l : List Edge). AreCountedTo f l (n + 1)) (sym (ap (λ (v : Vec Edge Global). v.items) w.edges-is))
          (counted_none f es n (n / 41) (n % 41) c.loop-pair.invariant c.count-count.ensures.inside pair to (sym told ∙ (let none : c.count-count.result ≤ 0 = w.if-count-gt0.false in omega (arith, none))))
    ]

pub returns-clause-counts : goal.returns-clause-counts
returns-clause-counts c = all_counted (edges_of c.args.atlas.now) c.loop-pair.edges.items c.loop-pair.pair (let a = c.loop-pair-test.false in let b = c.loop-pair.auto.pair-end in omega (arith, a, b)) c.loop-pair.invariant

pub returns-clause-listed : goal.returns-clause-listed
returns-clause-listed c = c.loop-pair.invariant.listed
