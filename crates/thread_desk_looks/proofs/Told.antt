-- What is noted behind a history, told one entry after another.
use Rattle.std.proofs.Common.{◌≡◌, ℕ, ◌+◌, ◌-◌, ◌<◌, ◌≤◌, ◌^◌, true, List, ◌∷◌, [], ◌++◌, length, take, get_or, refl, sym, ap, subst, ◌∙◌, arith, append_assoc}
use Rattle.std.proofs.lemmas.List.{append_cancel_left, get_or-append_right, length-append, length-take-le, take_all, take_more}
use Rattle.std.proofs.lemmas.List.Elements.{All-get_or}
use Rattle.std.proofs.Math.Seq.{take-append_seam}
use Rattle.base_types.specs.declared.histories.Entry.{Entry}
use Rattle.thread_looks.specs.kernel_core_facts.kernel_commit_facts.Parts.{Parts}
use Rattle.thread_looks.specs.kernel_core_facts.table_births.model_kernel.Histories.{writes}
use Rattle.thread_looks.specs.thread_commits.Snapping.{AddsAmong, WritesAmong}
use Rattle.thread_looks.specs.Looking.{NotesLook}
use Rattle.thread_looks.proofs.Adding.{look_among}
use Rattle.thread_history.specs.Given.{AreAmong, numbers}
use Rattle.thread_history.specs.Rules.{AllDiffer, is_among}
use Rattle.thread_history.specs.Sides.{Side}

-- what came behind stands behind
pub begins : (xs : List ℕ) (old new : List Entry) (i : ℕ) → i ≡ length old → AddsAmong xs old new → take i new ≡ old
begins xs old new i is a = ap (λ n. take n new) is ∙ (ap (take (length old)) a.entries ∙ take-append_seam old a.part)

-- one entry more is told
pub goes_on : (kept told es : List Entry) (i : ℕ) (e : Entry) → i < length es → e ≡ get_or es i e → take i es ≡ kept ++ told → take (i + 1) es ≡ kept ++ (told ++ e ∷ [])
goes_on kept told es i e lt is was =
    take_more es i e lt ∙ (ap (λ l. l ++ get_or es i e ∷ []) was ∙ (append_assoc kept told (get_or es i e ∷ []) ∙ ap (λ f. kept ++ (told ++ f ∷ [])) (sym is)))

-- all are
pub ends : (kept told es : List Entry) (i : ℕ) → length es ≤ i → take i es ≡ kept ++ told → es ≡ kept ++ told
ends kept told es i done was = sym (take_all i es done) ∙ was

-- there is room for one entry more
pub room : (kept told es : List Entry) (i : ℕ) → i < length es → length es < 2 ^ 62 → take i es ≡ kept ++ told → length kept + length told < 2 ^ 62
room kept told es i lt few was =
    let len : i ≡ length kept + length told = sym (length-take-le i es (omega (arith, lt))) ∙ (ap length was ∙ length-append kept told) in
    omega (arith, lt, few, len)

-- and it writes none but those whose shares are given
pub given : (xs : List ℕ) (old new : List Entry) (i : ℕ) (e : Entry) (ss : List (Side Entry)) → AddsAmong xs old new → length old ≤ i → i < length new → e ≡ get_or new i e → AllDiffer xs → numbers ss ≡ xs
    → AreAmong writes e ss
given xs old new i e ss a low lt is differ same =
    let len : length new ≡ length old + length a.part = ap length a.entries ∙ length-append old a.part in
    let here : e ≡ get_or a.part (i - length old) e = is ∙ (ap (λ es. get_or es i e) a.entries ∙ get_or-append_right old a.part (length old) i e refl low) in
    let among : WritesAmong e xs = subst (λ f. WritesAmong f xs) (sym here) (All-get_or (λ (f : Entry). WritesAmong f xs) a.part (i - length old) e (omega (arith, low, lt, len)) a.among) in
    (subst AllDiffer (sym same) differ, λ y wrote. subst (λ ns. is_among y ns ≡ true) (sym same) (among y wrote))

-- what a look notes is told by the shares of those that its step may write
pub told_among : (me : ℕ) (xs ys : List ℕ) (old new es : List Entry) → NotesLook me xs old new → old ≡ es → ys ≡ xs → AddsAmong ys es new
told_among me xs ys old new es notes is same = subst (λ ns. AddsAmong ns es new) (sym same) (subst (λ fs. AddsAmong xs fs new) is (look_among me xs old new notes))

-- where nothing was noted nothing was told
pub told_still : {D : Type 0} (kept told told' : List Entry) (old new : Parts D) → old.noted.entries ≡ kept ++ told → new.noted.entries ≡ kept ++ told' → new ≡ old → told' ≡ told
told_still {D = D} kept told told' old new was is same = append_cancel_left kept told' told (sym is ∙ (ap (λ (p : Parts D). p.noted.entries) same ∙ was))
