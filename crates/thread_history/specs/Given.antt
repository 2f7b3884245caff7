-- Shares that a call is lent, one by one, in `Option<&mut Share>`.
use Rattle.std.specs.Prelude.{◌≡◌, ℕ, Bool, true, ◌⊎◌, List, [], ◌∷◌, ◌++◌, map, if◌then◌else◌, Option, Some, None}
use Rattle.std.proofs.Common.{inl, inr}
use Rattle.std.specs.Borrow.{MutBor}
use Rattle.thread_history.specs.Rules.{concerning, is_among, AllDiffer}
use mathlib.Core.List.{IsPrefix}
use Rattle.thread_history.specs.Sides.{Side}

-- what an `Option<&mut T>` refers to as it came, and as it is left
abbrev pub came : {A : Type 0} → Option (MutBor A) → List A
came None = []
came (Some r) = r.now ∷ []

abbrev pub left : {A : Type 0} → Unit {0} ⊎ ((MutBor A × Unit {0}) ⊎ ⊥) → List A
left (inl x) = []
left (inr (inl r)) = r.0.now ∷ []
left (inr (inr x)) = []

abbrev pub numbers : {A : Type 0} → List (Side A) → List ℕ
numbers ss = map (λ s. s.number) ss

-- each knows this history
abbrev pub AllKnow : {A : Type 0} → List A → List (Side A) → Type 0
AllKnow es [] = Unit {0}
AllKnow es (s ∷ ss) = (s.since ≡ es) × AllKnow es ss

-- the shares of the numbers that the item touches are given, each once, and no others
abbrev pub AreThoseOf : {A : Type 0} → (A → ℕ → Bool) → A → List (Side A) → Type 0
AreThoseOf touches e ss = AllDiffer (numbers ss) × ((x : ℕ) → touches e x ≡ is_among x (numbers ss))

-- the shares of all numbers that the item concerns are among these, each once
abbrev pub AreAmong : {A : Type 0} → (A → ℕ → Bool) → A → List (Side A) → Type 0
AreAmong concerns e ss = AllDiffer (numbers ss) × ((x : ℕ) → concerns e x ≡ true → is_among x (numbers ss) ≡ true)

-- the share, where it knows this history
abbrev pub knowing : {A : Type 0} → List A → Side A → Side A
knowing es s = record { number = s.number; since = es }

-- each knows a beginning of this history, after which nothing concerns it
abbrev pub AllHave : {A : Type 0} → (A → ℕ → Bool) → List A → List (Side A) → Type 0
AllHave concerns es [] = Unit {0}
AllHave concerns es (s ∷ ss) = IsPrefix s.since es × (concerning concerns s.number s.since ≡ concerning concerns s.number es) × AllHave concerns es ss

-- the list of a share: the items that it knows and that concern it
abbrev pub list_of : {A : Type 0} → (A → ℕ → Bool) → Side A → List A
list_of concerns s = concerning concerns s.number s.since

-- where each knows this history, its list is the one before, with the item where that concerns it
abbrev pub AllGrew : {A : Type 0} → (A → ℕ → Bool) → A → List A → List (Side A) → Type 0
AllGrew concerns e es [] = Unit {0}
AllGrew concerns e es (s ∷ ss) = (list_of concerns (knowing es s) ≡ list_of concerns s ++ (if concerns e s.number then e ∷ [] else [])) × AllGrew concerns e es ss
