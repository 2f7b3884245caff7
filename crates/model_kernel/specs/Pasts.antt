-- The past of an entity (Lamport), and its vector (Mattern, Fidge).
use Rattle.std.specs.Prelude.{ℕ, Bool, ◌&&◌, ◌==◌, if◌then◌else◌, List, [], ◌∷◌, ◌++◌, max}
use Rattle.std.specs.List.{list_any}
use Rattle.base_types.specs.declared.histories.Touch.{Touch}
use Rattle.base_types.specs.declared.histories.Entry.{Entry}
use Rattle.model_kernel.specs.State.{KernelState}

abbrev pub entities : List Touch → List ℕ
entities [] = []
entities (t ∷ ts) = t.entity ∷ entities ts

abbrev pub has : List ℕ → ℕ → Bool
has zs x = list_any (λ z. z == x) zs

-- the entry writes one of these entities
abbrev pub writes_one : List ℕ → Entry → Bool
writes_one zs e = list_any (λ t. t.wrote && has zs t.entity) e.touched

-- an entry that writes one of these rests on all that it touches
abbrev pub rests_on : Entry → List ℕ → List ℕ
rests_on e zs = if writes_one zs e then entities e.touched ++ zs else zs

-- the entities before these entries on which zs rest after them
abbrev pub sources : List Entry → List ℕ → List ℕ
sources [] zs = zs
sources (e ∷ es) zs = rests_on e (sources es zs)

-- the last entries that write zs, and all entries before those
abbrev pub past : List Entry → List ℕ → List Entry
past [] zs = []
past (e ∷ es) zs = if writes_one (sources es zs) e then e ∷ past es zs else past es zs

-- the greatest version of y that the entries carry
abbrev pub version_in : List Touch → ℕ → ℕ
version_in [] y = 0
version_in (t ∷ ts) y = max (if t.entity == y then t.version else 0) (version_in ts y)

abbrev pub versions_in : List Entry → ℕ → ℕ
versions_in [] y = 0
versions_in (e ∷ es) y = max (version_in e.touched y) (versions_in es y)

-- the greatest component y of these entities' stamps
abbrev pub stamps_of : KernelState → List ℕ → ℕ → ℕ
stamps_of w [] y = 0
stamps_of w (z ∷ zs) y = max ((w z).stamp y) (stamps_of w zs y)

-- the vector of x after the history, by its past
abbrev pub past_vector : KernelState → List Entry → ℕ → ℕ → ℕ
past_vector w es x y = max (versions_in (past es (x ∷ [])) y) (stamps_of w (sources es (x ∷ [])) y)
