-- A log's cut doesn't fall as records come, however many components their stamps have.
use Rattle.std.proofs.Common.{◌≡◌, ℕ, zero, suc, ◌<◌, ◌≤◌, Bool, ◌&&◌, ◌==◌, nat_le, nat_lt, if◌then◌else◌, List, [], ◌∷◌, ◌++◌, length, map, max, refl, sym, ap, subst, ◌∙◌, arith}
use Rattle.std.proofs.lemmas.Bool.Decides.{nat_tests}
use Rattle.std.proofs.lemmas.List.{length-map, map-append}
use Rattle.base_types.specs.declared.records.Rec.{Rec}
use Rattle.cell_wish_laws.specs.model_cut_laws.Agreeing.{nothing}
use Rattle.cell_wish_laws.specs.model_cut_laws.Records.{commit_of, commits_of}
use Rattle.page_store.specs.model_kernel.Choices.{Commit, IsBelow, IsClosedChoice, IsGreatest, IsNarrow, all_below, covered, greatest, lower, lowered, top}
use Rattle.page_store.proofs.model_kernel_lemmas.Lowering.{greatest_is, rising_cut}
use Rattle.kernel_record_facts.specs.image_meaning.Parts.{cut_of}

-- THE SAME COMMITS with nothing past the last entity in their stamps

pub narrowed : (ℕ → ℕ) → ℕ → ℕ
narrowed stamp y = if nat_lt y 64 then stamp y else 0

abbrev pub narrow : Commit → Commit
narrow c = record c { stamp = narrowed c.stamp }

abbrev pub narrows : List Commit → List Commit
narrows cs = map narrow cs

pub narrowed_low : (stamp : ℕ → ℕ) (y : ℕ) → y < 64 → narrowed stamp y ≡ stamp y
unfolding narrowed
narrowed_low stamp y low = grind (arith, nat_tests)

pub narrowed_high : (stamp : ℕ → ℕ) (y : ℕ) → 64 ≤ y → narrowed stamp y ≡ 0
unfolding narrowed
narrowed_high stamp y high = grind (arith, nat_tests)

pub are_narrow : (cs : List Commit) → IsNarrow (narrows cs)
are_narrow [] = tt
are_narrow (c ∷ cs) = (narrowed_high c.stamp, are_narrow cs)

below_same : (f g : ℕ → Bool) (n : ℕ) → ((y : ℕ) → y < n → f y ≡ g y) → all_below f n ≡ all_below g n
below_same f g zero same = refl
below_same f g (suc n) same = ap (λ (b : Bool). b && f n) (below_same f g n (λ y low. same y (omega (arith, low)))) ∙ ap (λ (b : Bool). all_below g n && b) (same n (omega arith))

covered_same : (stamp p : ℕ → ℕ) → covered (narrowed stamp) p ≡ covered stamp p
unfolding covered
covered_same stamp p = below_same (λ y. nat_le (narrowed stamp y) (p y)) (λ y. nat_le (stamp y) (p y)) 64 (λ y low. ap (λ (k : ℕ). nat_le k (p y)) (narrowed_low stamp y low))

module _ (start : ℕ → ℕ) where
  lowered_same : (cs : List Commit) (p : ℕ → ℕ) (x : ℕ) → lowered start (narrows cs) p x ≡ lowered start cs p x
  lowered_same [] p x = refl
  lowered_same (c ∷ cs) p x =
      ap (λ (b : Bool). if c.entity == x && nat_le c.version (p x) && b then max c.version (lowered start (narrows cs) p x) else lowered start (narrows cs) p x) (covered_same c.stamp p)
      ∙ ap (λ (k : ℕ). if c.entity == x && nat_le c.version (p x) && covered c.stamp p then max c.version k else k) (lowered_same cs p x)

  top_same : (cs : List Commit) (x : ℕ) → top start (narrows cs) x ≡ top start cs x
  top_same [] x = refl
  top_same (c ∷ cs) x = ap (λ (k : ℕ). if c.entity == x then max c.version k else k) (top_same cs x)

  lower_same : (n : ℕ) (cs : List Commit) (p : ℕ → ℕ) → lower n start (narrows cs) p ≡ lower n start cs p
  lower_same zero cs p = refl
  lower_same (suc n) cs p = ap (lower n start (narrows cs)) (λ i x. lowered_same cs p x i) ∙ lower_same n cs (lowered start cs p)

  greatest_same : (cs : List Commit) → greatest start (narrows cs) ≡ greatest start cs
  unfolding greatest
  greatest_same cs =
      ap (λ (n : ℕ). lower n start (narrows cs) (top start (narrows cs))) (length-map cs narrow)
      ∙ (ap (lower (length cs) start (narrows cs)) (λ i x. top_same cs x i) ∙ lower_same (length cs) cs (top start cs))

  -- the cut is at least each closed choice
  pub greatest_above : (cs : List Commit) (q : ℕ → ℕ) → IsClosedChoice start (narrows cs) q → IsBelow q (greatest start cs)
  greatest_above cs q closed = subst (λ (p : ℕ → ℕ). IsBelow q p) (greatest_same cs) ((greatest_is start (narrows cs) (are_narrow cs)).greatest q closed)

  pub greatest_closed : (cs : List Commit) → IsClosedChoice start (narrows cs) (greatest start cs)
  greatest_closed cs = subst (IsClosedChoice start (narrows cs)) (greatest_same cs) (greatest_is start (narrows cs) (are_narrow cs)).closed

  pub greatest_rises : (cs ds : List Commit) → IsBelow (greatest start cs) (greatest start (cs ++ ds))
  greatest_rises cs ds = subst (λ (p : ℕ → ℕ). IsBelow p (greatest start (cs ++ ds))) (greatest_same cs)
      (subst (λ (p : ℕ → ℕ). IsBelow (greatest start (narrows cs)) p) (greatest_same (cs ++ ds))
      (rising_cut start (narrows cs) (narrows ds) (greatest start (narrows cs)) (greatest start (narrows (cs ++ ds))) (greatest_is start (narrows cs) (are_narrow cs))
      (subst (λ (es : List Commit). IsGreatest start es (greatest start (narrows (cs ++ ds)))) (map-append narrow cs ds) (greatest_is start (narrows (cs ++ ds)) (are_narrow (cs ++ ds))))))

pub cut_rises : (recs more : List Rec) (x : ℕ) → cut_of recs x ≤ cut_of (recs ++ more) x
cut_rises recs more x = subst (λ (cs : List Commit). greatest nothing (commits_of recs) x ≤ greatest nothing cs x) (sym (map-append commit_of recs more)) (greatest_rises nothing (commits_of recs) (commits_of more) x)
