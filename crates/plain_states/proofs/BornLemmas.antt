-- Who is born in a sound state, by the plain list of edges.
use Rattle.std.proofs.Common.{◌≡◌, ℕ, ◌+◌, ◌≤◌, true, ◌&&◌, ◌||◌, ◌==◌, nat_lt, IsTrue, List, length, refl, sym, subst, ◌∙◌, arith}
use Rattle.std.proofs.lemmas.Bool.Decides.{nat_tests}
use Rattle.std.proofs.lemmas.List.Elements.{All-weaker}
use Rattle.model_kernel.specs.Soundness.{AreSound, is_born_container, regions_onto}
use Rattle.model_kernel.specs.State.{AtlasState, Cell}
use Rattle.model_sound_runs.proofs.Tables.{shows_born}
use Rattle.plain_states.specs.Born.{AreEdges, is_before}
use Rattle.plain_states.specs.Plains.{edges_of}
use Rattle.plain_states.specs.declared.plain.Edge.{Edge}
use Rattle.plain_states.proofs.EdgeLemmas.{AllBefore, counted, edge}

-- all edges are from containers below the next number
pub all_before : (a : AtlasState) (cells : ℕ → Cell) (es : List Edge) (n : ℕ) → AreSound a cells → ((x y : ℕ) → a.edges x y ≡ edges_of es x y) → AreEdges es → n ≡ length a.containers + 1 → AllBefore n 0 es
all_before a cells es n h same edges at =
    All-weaker (λ (e : Edge). 1 ≤ edges_of es e.from e.to) (λ e. IsTrue (is_before e (edge n 0 0))) (λ e some.
    let shows : 1 ≤ regions_onto (cells e.from) e.to = subst (λ k. 1 ≤ k) (sym (same e.from e.to) ∙ h.edges e.from e.to) some in
    below e.from e.to (shows_born a cells e.from e.to h shows)) es (counted es edges.counts)
  where
    below : (x y : ℕ) → IsTrue (is_born_container a x) → (nat_lt x n || x == n && nat_lt y 0) ≡ true
    below x y born =
        let lt : nat_lt x n ≡ true = grind (arith, nat_tests) in
        rw lt refl
