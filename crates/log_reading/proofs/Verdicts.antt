-- What the checks say together.
use Rattle.std.proofs.Common.{◌≡◌, ◌==◌, ℕ, Bool, if◌then◌else◌, List, [], ◌∷◌, length, Option, Some, None, sym, ap, subst, ◌∙◌}
use Rattle.std.specs.Prelude.{Result, Ok, Err, IsErrOf, MatchOption, MatchResult}
use Rattle.edge_disk.specs.Image.{Image, block_at}
use Rattle.image_blocks.specs.model_kernel.Words.{first}
use Rattle.image_blocks.specs.Checks.{Bad, check_1, check_2, check_3, in_block, records_fault}
use Rattle.image_blocks.specs.image_facts.Checks.{superblock_fault}
use Rattle.log_reading.specs.declared.faults.ReadingFault.{ReadingFault}
use Rattle.log_reading.specs.declared.faults.ReadingFault.TheVariants.{Foreign}
use Rattle.image_blocks.proofs.image_facts_lemmas.Firsts.{ne_test}

pub first_bad : (image : Image) (bad : Bad) → check_1 image ≡ Some bad → records_fault image ≡ Some bad
unfolding records_fault
first_bad image bad one = ap (λ (o : Option Bad). first (o ∷ check_2 image ∷ check_3 image ∷ [])) one

pub second_bad : (image : Image) (bad : Bad) → check_1 image ≡ None → check_2 image ≡ Some bad → records_fault image ≡ Some bad
unfolding records_fault
second_bad image bad one two =
    ap (λ (o : Option Bad). first (o ∷ check_2 image ∷ check_3 image ∷ [])) one ∙ ap (λ (o : Option Bad). first (None ∷ o ∷ check_3 image ∷ [])) two

pub third_is : (image : Image) (o : Option Bad) → check_1 image ≡ None → check_2 image ≡ None → check_3 image ≡ o → records_fault image ≡ first (o ∷ [])
unfolding records_fault
third_is image p one two three =
    ap (λ (o : Option Bad). first (o ∷ check_2 image ∷ check_3 image ∷ [])) one
    ∙ (ap (λ (o : Option Bad). first (None ∷ o ∷ check_3 image ∷ [])) two ∙ ap (λ (o : Option Bad). first (None ∷ None ∷ o ∷ [])) three)

-- what the superblock's block says
pub check_1-is : (image : Image) (blocks : ℕ) (block : List ℕ) (o : Option ℕ) → length image ≡ blocks → (blocks ≡ 0 → ⊥) → block ≡ block_at image 0 → superblock_fault blocks block ≡ o → check_1 image ≡ in_block 0 o
check_1-is image blocks block o len some here is =
    ap (λ (t : Bool). if t then Some (record { block = 0; place = 0 }) else in_block 0 (superblock_fault (length image) (block_at image 0))) (ne_test (length image) 0 (λ e. some (sym len ∙ e)))
    ∙ ap (in_block 0) (ap (λ (n : ℕ). superblock_fault n (block_at image 0)) len ∙ (ap (λ (b : List ℕ). superblock_fault blocks b) (sym here) ∙ is))

-- ANSWERS

abbrev pub bad_at : ℕ → ℕ → Bad
bad_at block place = record { block = block; place = place }

-- the place that is told
pub told_bad : {T : Type 0} (x y : Bad) → IsErrOf {T = T} {E = ReadingFault} (Err (Foreign x)) (Foreign y) → x ≡ y
told_bad x y is = cc

pub match_none : {T : Type 0} (o : Option T) (P : Type 0) (Q : T → Type 0) → o ≡ None → MatchOption o P Q → P
match_none o P Q is holds = subst (λ (q : Option _). MatchOption q P Q) is holds

pub match_some : {T : Type 0} (o : Option T) (x : T) (P : Type 0) (Q : T → Type 0) → o ≡ Some x → MatchOption o P Q → Q x
match_some o x P Q is holds = subst (λ (q : Option _). MatchOption q P Q) is holds

pub match_ok : {T E : Type 0} (r : Result T E) (x : T) (P : T → Type 0) (Q : E → Type 0) → r ≡ Ok x → MatchResult r P Q → P x
match_ok r x P Q is holds = subst (λ (q : Result _ _). MatchResult q P Q) is holds

pub match_err : {T E : Type 0} (r : Result T E) (e : E) (P : T → Type 0) (Q : E → Type 0) → r ≡ Err e → MatchResult r P Q → Q e
match_err r e P Q is holds = subst (λ (q : Result _ _). MatchResult q P Q) is holds

-- the same fault of another call
pub err_other : {T S : Type 0} (x : ReadingFault) (y : Bad) → IsErrOf {T = T} {E = ReadingFault} (Err x) (Foreign y) → IsErrOf {T = S} {E = ReadingFault} (Err x) (Foreign y)
err_other {S = S} x y is =
    let e : x ≡ Foreign y = cc in
    let wrap : ReadingFault → Result S ReadingFault = λ f. Err f in
    ap wrap e
