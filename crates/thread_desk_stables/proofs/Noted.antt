-- What is noted behind a history, told one entry after another.
use Rattle.std.proofs.Common.{◌≡◌, ℕ, zero, ◌+◌, ◌-◌, ◌<◌, ◌≤◌, ◌^◌, List, ◌∷◌, [], ◌++◌, length, take, get_or, refl, sym, ap, subst, ◌∙◌, arith, append_assoc}
use Rattle.std.proofs.lemmas.List.{get_or-append_right, length-append}
use Rattle.base_types.specs.declared.histories.Entry.{Entry}
use Rattle.thread_stables.specs.kernel_core_facts.table_births.model_kernel.Histories.{writes}
use Rattle.thread_stables.specs.thread_commits.Snapping.{AddsAmong, WritesAmong}
use Rattle.thread_history.specs.Given.{AreAmong, numbers}
use Rattle.thread_history.specs.Rules.{AllDiffer}
use Rattle.thread_history.specs.Sides.{Side}
use Rattle.thread_stables.specs.thread_looks.Looking.{NotesLook}
use Rattle.thread_stables.specs.thread_looks.Looking.NotesLook.{Nothing, StepFirst}
use Rattle.thread_desk_looks.proofs.Told as told

pub begins : (old new : List Entry) (i : ℕ) → i ≡ length old → AddsAmong [] old new → take i new ≡ old
begins old new i = told.begins [] old new i

pub goes_on : (kept told es : List Entry) (i : ℕ) (e : Entry) → i < length es → e ≡ get_or es i e → take i es ≡ kept ++ told → take (i + 1) es ≡ kept ++ (told ++ e ∷ [])
goes_on = told.goes_on

pub ends : (kept told es : List Entry) (i : ℕ) → length es ≤ i → take i es ≡ kept ++ told → es ≡ kept ++ told
ends = told.ends

pub given : (old new : List Entry) (i : ℕ) (e : Entry) → AddsAmong [] old new → length old ≤ i → i < length new → e ≡ get_or new i e → AreAmong writes e []
given old new i e a low lt is = told.given [] old new i e [] a low lt is tt refl

-- the step is first, and what comes behind it writes none
pub first_is : (me : ℕ) (xs : List ℕ) (old new : List Entry) (i : ℕ) (f : Entry) → NotesLook me xs old new → i ≡ length old → i < length new → f ≡ get_or new i f
    → WritesAmong f xs × AddsAmong [] (old ++ f ∷ []) new
first_is me xs old new i f (Nothing same) at lt is = absurd (let len = ap length same in omega (arith, len, at, lt))
first_is me xs old new i f (StepFirst e event actor among behind) at lt is =
    let there : i - length old ≡ 0 = omega (arith, at) in
    let here : f ≡ e = is ∙ (ap (λ es. get_or es i f) (behind.entries ∙ append_assoc old (e ∷ []) behind.part)
    ∙ (get_or-append_right old (e ∷ behind.part) (length old) i f refl (omega (arith, at)) ∙ ap (λ n. get_or (e ∷ behind.part) n f) there)) in
    (subst (λ z. WritesAmong z xs) (sym here) among, subst (λ z. AddsAmong [] (old ++ z ∷ []) new) (sym here) behind)

-- where none was noted all is told
pub none_told : (me : ℕ) (xs : List ℕ) (old new : List Entry) (i : ℕ) → NotesLook me xs old new → i ≡ length old → length new ≤ i → new ≡ old
none_told me xs old new i (Nothing same) at low = same
none_told me xs old new i (StepFirst e event actor among behind) at low =
    absurd (let len = ap length behind.entries ∙ length-append (old ++ e ∷ []) behind.part in let one = length-append old (e ∷ []) in omega (arith, len, one, at, low))
