-- What a step by lent cells leaves of the cells that aren't lent.
use Rattle.std.proofs.Common.{◌≡◌, ℕ, List, [], ◌∷◌, slice_set, refl}
use Rattle.kernel_core_facts.specs.cell_states.declared.cells.Cell.{Cell}
use Rattle.thread_cell_steps.proofs.Writing.{among_first, among_later}
use Rattle.thread_commits.specs.Lent.{OthersStay}
use Rattle.thread_commits.proofs.Lent.{others_set, others_then}

pub stay_one : (cs new : List Cell) (a : ℕ) (c : Cell) → new ≡ slice_set cs a c → OthersStay (a ∷ []) cs new
stay_one cs new a c is = others_set (a ∷ []) a a cs new c is refl (among_first a a [] refl)

pub stay_two : (cs new : List Cell) (a b : ℕ) (c d : Cell) → new ≡ slice_set (slice_set cs a c) b d → OthersStay (a ∷ b ∷ []) cs new
stay_two cs new a b c d is =
    let mid = slice_set cs a c in
    others_then (a ∷ b ∷ []) cs mid new (others_set (a ∷ b ∷ []) a a cs mid c refl refl (among_first a a (b ∷ []) refl))
    (others_set (a ∷ b ∷ []) b b mid new d is refl (among_later b a (b ∷ []) (among_first b b [] refl)))

pub stay_three : (cs new : List Cell) (a b k : ℕ) (c d e : Cell) → new ≡ slice_set (slice_set (slice_set cs a c) b d) k e → OthersStay (a ∷ b ∷ k ∷ []) cs new
stay_three cs new a b k c d e is =
    let mid = slice_set cs a c in
    let last = slice_set (slice_set cs a c) b d in
    others_then (a ∷ b ∷ k ∷ []) cs last new
    (others_then (a ∷ b ∷ k ∷ []) cs mid last (others_set (a ∷ b ∷ k ∷ []) a a cs mid c refl refl (among_first a a (b ∷ k ∷ []) refl))
    (others_set (a ∷ b ∷ k ∷ []) b b mid last d refl refl (among_later b a (b ∷ k ∷ []) (among_first b b (k ∷ []) refl))))
    (others_set (a ∷ b ∷ k ∷ []) k k last new e is refl (among_later k a (b ∷ k ∷ []) (among_later k b (k ∷ []) (among_first k k [] refl))))
