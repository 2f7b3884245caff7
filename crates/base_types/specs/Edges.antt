-- Which containers show regions of which: counted edges, and the paths along them.
use Rattle.std.specs.Prelude.{◌≡◌, ℕ, zero, suc, ◌+◌, ◌<◌, Bool, ◌&&◌, ◌||◌, ◌==◌, nat_lt, List, [], ◌∷◌, ◌++◌}
use Rattle.std.specs.List.{list_any}

-- how many regions of d the container c shows
abbrev pub Edges : Type 0
Edges = ℕ → ℕ → ℕ

-- the edges lead from c over these numbers to d, which is the last of them; over none where c is d
abbrev pub IsPath : Edges → ℕ → List ℕ → ℕ → Type 0
IsPath edges c [] d = c ≡ d
IsPath edges c (x ∷ xs) d = (0 < edges c x) × IsPath edges x xs d

-- an edge from c to d would close a circle, since d reaches c already
abbrev pub ClosesCircle : Edges → ℕ → ℕ → Type 0
ClosesCircle edges c d = (path : List ℕ) × IsPath edges d path c

-- the numbers below n, ascending
abbrev pub upto : ℕ → List ℕ
upto zero = []
upto (suc n) = upto n ++ n ∷ []

-- the edges lead from c to d over at most n others, all of them containers or the atlas
abbrev pub leads : ℕ → Edges → ℕ → ℕ → Bool
leads zero edges c d = c == d
leads (suc n) edges c d = c == d || list_any (λ x. nat_lt 0 (edges c x) && leads n edges x d) (upto 41)
