-- Facts about one of a list of commits.
use Rattle.std.proofs.Common.{List, [], ◌∷◌, ◌++◌, ◌⊎◌, inl, inr}
use Rattle.model_kernel.specs.Choices.{Commit, Among}

-- a weaker fact
pub among_map : (cs : List Commit) (P Q : Commit → Type 0) → ((c : Commit) → P c → Q c) → Among cs P → Among cs Q
among_map [] P Q f a = a
among_map (c ∷ cs) P Q f a = elim a as (λ _. Q c ⊎ Among cs Q) [ inl h ↦ inl (f c h) | inr h ↦ inr (among_map cs P Q f h) ]

-- what follows from each follows from one
pub among_some : (P : Commit → Type 0) (A : Type 0) (cs : List Commit) → ((c : Commit) → P c → A) → Among cs P → A
among_some P A [] f a = absurd a
among_some P A (c ∷ cs) f a = elim a as (λ _. A) [ inl k ↦ f c k | inr k ↦ among_some P A cs f k ]

-- one of the first commits
pub among_more : (cs ds : List Commit) (P : Commit → Type 0) → Among cs P → Among (cs ++ ds) P
among_more [] ds P a = absurd a
among_more (c ∷ cs) ds P a = elim a as (λ _. P c ⊎ Among (cs ++ ds) P) [ inl h ↦ inl h | inr h ↦ inr (among_more cs ds P h) ]

-- one of the last
pub among_right : (cs ds : List Commit) (P : Commit → Type 0) → Among ds P → Among (cs ++ ds) P
among_right [] ds P a = a
among_right (c ∷ cs) ds P a = inr (among_right cs ds P a)
