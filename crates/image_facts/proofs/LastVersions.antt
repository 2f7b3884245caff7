-- The last version of an entity, one record after the other.
use Rattle.std.proofs.Common.{◌≡◌, ℕ, Bool, true, false, ◌||◌, ◌==◌, if◌then◌else◌, List, [], ◌∷◌, ◌++◌, refl, ap, ◌∙◌}
use Rattle.std.specs.List.{list_any}
use Rattle.std.proofs.lemmas.List.Folds.{list_any-append}
use Rattle.model_kernel.specs.base_types.declared.records.Rec.{Rec}
use Rattle.image_facts.specs.Checks.{last_version}

more_by : (h q : Bool) (m v w : ℕ) → (if h || (q || false) then (if q then v else m) else w) ≡ (if q then v else (if h then m else w))
more_by true true m v w = refl
more_by true false m v w = refl
more_by false true m v w = refl
more_by false false m v w = refl

pub last_version-more : (xs : List Rec) (r : Rec) (x : ℕ) → last_version (xs ++ r ∷ []) x ≡ (if r.entity == x then r.version else last_version xs x)
last_version-more [] r x = refl
last_version-more (s ∷ xs) r x =
    let w : ℕ = if s.entity == x then s.version else 0 in
    let has : Bool = list_any (λ (q : Rec). q.entity == x) xs in
    ap (λ (b : Bool). if b then last_version (xs ++ r ∷ []) x else w) (list_any-append (λ (q : Rec). q.entity == x) xs (r ∷ []))
    ∙ (ap (λ (m : ℕ). if has || ((r.entity == x) || false) then m else w) (last_version-more xs r x) ∙ more_by has (r.entity == x) (last_version xs x) r.version w)
