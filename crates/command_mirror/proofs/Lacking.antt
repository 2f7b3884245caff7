-- Where the standby lacks some commits behind a whole run, all the last rounds were made.
use Rattle.std.proofs.Common.{◌≡◌, ℕ, ◌+◌, ◌*◌, ◌<◌, ◌≤◌, nat_lt, if◌then◌else◌, Bool, true, false, List, [], ◌∷◌, ◌++◌, length, drop, refl, sym, ap, subst, ◌∙◌, arith, append_assoc}
use Rattle.std.specs.Prelude.{replicate, ⊤}
use Rattle.std.proofs.lemmas.Bool.{lt-ltb, ltb-true}
use Rattle.base_types.specs.declared.histories.Entry.{Entry}
use Rattle.kernel_invariant.specs.Marks.{is_step}
use Rattle.command_open.specs.kernel_invariant.Beginnings.{Beginning, completed}
use Rattle.drawn_words.specs.Words.{Words}
use Rattle.kernel_invariant.proofs.Staying.{longer}
use Rattle.node_draws.proofs.Courses.{all_made, order_round, rounds_append}
use Rattle.node_draws.specs.Courses.{Course, IsInOrder, round_of, rounds_of, tally_behind}
use Rattle.node_draws.specs.Drawing.{drawn, left}
use Rattle.node_looks.specs.Looks.{commits_around, commits_behind}
use Rattle.node_mirror.specs.Leaving.{HasMirrored}
use Rattle.node_mirror.specs.Mirrors.{at_start}

-- no more than so many are offered before any round
abbrev AtMost : ℕ → List ℕ → Type 0
AtMost most [] = ⊤
AtMost most (n ∷ ns) = (n ≤ most) × AtMost most ns

-- a round of fewer is one of so many, or none
round_most : (loss offered most : ℕ) (c : Course) → offered ≤ most → IsInOrder most c.tally → IsInOrder most (round_of loss offered c).tally
round_most loss offered most c le order = go (nat_lt c.tally.acked offered) refl
  where
    now : Bool → Course
    now b = if b then record { tally = tally_behind (drawn loss c.words) c.tally; words = left loss c.words } else c

    go : (b : Bool) → nat_lt c.tally.acked offered ≡ b → IsInOrder most (now b).tally
    go false e = order
    go true e =
        let few : c.tally.acked < offered = ltb-true c.tally.acked offered e in
        let some : c.tally.acked < most = omega (arith, few, le) in
        subst (λ (b : Bool). IsInOrder most (now b).tally) (lt-ltb c.tally.acked most some) (order_round loss most c order).0

rounds_most : (loss most : ℕ) (offers : List ℕ) (c : Course) → AtMost most offers → IsInOrder most c.tally → IsInOrder most (rounds_of loss offers c).tally
rounds_most loss most [] c few order = order
rounds_most loss most (n ∷ ns) c few order = rounds_most loss most ns (round_of loss n c) few.1 (round_most loss n most c few.0 order)

drop_most : (most : ℕ) (ns : List ℕ) → AtMost most ns → AtMost most (drop 1 ns)
drop_most most [] few = tt
drop_most most (n ∷ ns) few = few.1

-- so many are completed in the end
module _ (b : Beginning) (es : List Entry) where
  abbrev most : ℕ
  most = length (completed b es)

  front_most : (front rest : List Entry) → front ++ rest ≡ es → length (completed b front) ≤ most
  front_most front rest is = subst (λ (fs : List Entry). length (completed b front) ≤ length (completed b fs)) is (longer b front rest)

  around_most : (front rest : List Entry) → front ++ rest ≡ es → AtMost most (commits_around b front rest)
  around_most front [] is = (front_most front [] is, tt)
  around_most front (e ∷ rest) is = by (is_step e) (around_most (front ++ e ∷ []) rest (append_assoc front (e ∷ []) rest ∙ is))
    where
      by : (t : Bool) → AtMost most (commits_around b (front ++ e ∷ []) rest)
          → AtMost most (if t then length (completed b front) ∷ commits_around b (front ++ e ∷ []) rest else commits_around b (front ++ e ∷ []) rest)
      by true few = (front_most front (e ∷ rest) is, few)
      by false few = few

  behind_most : AtMost most (commits_behind b es)
  behind_most = drop_most most (commits_around b [] es) (around_most [] es refl)

-- SOMETHING WAS NOT ACKNOWLEDGED before each of the last rounds
pub lacking : (b : Beginning) (es : List Entry) (loss : ℕ) (words : Words) (made kept : ℕ) → HasMirrored b es loss words made kept → kept < made → (before : ℕ) → before < 4 * made + 1000
    → (rounds_of loss (commits_behind b es ++ replicate before made) (at_start words)).tally.acked < made
lacking b es loss words made kept h short before lt =
    let start : IsInOrder made (at_start words).tally = record { acked = omega arith; kept = omega arith } in
    let order : IsInOrder made (rounds_of loss (commits_behind b es) (at_start words)).tally =
    rounds_most loss made (commits_behind b es) (at_start words) (subst (λ (n : ℕ). AtMost n (commits_behind b es)) (sym h.offered_is) (behind_most b es)) start in
    let last : kept ≡ (rounds_of loss (replicate (4 * made + 1000) made) (rounds_of loss (commits_behind b es) (at_start words))).tally.kept =
    h.kept_is ∙ ap (λ (c : Course). c.tally.kept) (rounds_append loss (commits_behind b es) (replicate (4 * made + 1000) made) (at_start words)) in
    subst (λ (c : Course). c.tally.acked < made) (sym (rounds_append loss (commits_behind b es) (replicate before made) (at_start words)))
    (all_made loss made (4 * made + 1000) before (rounds_of loss (commits_behind b es) (at_start words)) order lt (subst (λ (n : ℕ). n < made) last short))
