-- What an answer of a kind tells.
use Rattle.std.proofs.Common.{◌≡◌, Option, Some, None, ap, subst, sym}
use Rattle.std.specs.Prelude.{Result, Ok, Err, IfErr, IfNone, IfSome, IsErrAnd, IsErrOf}
use Rattle.image_blocks.specs.Checks.{Bad}
use Rattle.image_chosen_facts.specs.log_reading.declared.faults.ReadingFault.{ReadingFault}
use Rattle.image_chosen_facts.specs.log_reading.declared.faults.ReadingFault.TheVariants.{Foreign, Memory}

pub if_err : {T E : Type 0} (r : Result T E) (e : E) (P : E → Type 0) → r ≡ Err e → IfErr r P → P e
if_err r e P is holds = subst (λ (q : Result _ _). IfErr q P) is holds

pub if_some : {T : Type 0} (o : Option T) (x : T) (P : T → Type 0) → o ≡ Some x → IfSome o P → P x
if_some o x P is holds = subst (λ (q : Option _). IfSome q P) is holds

pub if_none : {T : Type 0} (o : Option T) (P : Type 0) → o ≡ None → IfNone o P → P
if_none o P is holds = subst (λ (q : Option _). IfNone q P) is holds

-- the place that is told
pub told_bad : {T : Type 0} (x y : Bad) → IsErrOf {T = T} {E = ReadingFault} (Err (Foreign x)) (Foreign y) → x ≡ y
told_bad x y is = cc

pub not_told : {T X : Type 0} (x : T) (y : Bad) → IsErrOf {T = T} {E = ReadingFault} (Ok x) (Foreign y) → X
not_told x y is = absurd (let e : Ok x ≡ Err (Foreign y) = is in cc)

pub memory_not_told : {T X : Type 0} (y : Bad) → IsErrOf {T = T} {E = ReadingFault} (Err Memory) (Foreign y) → X
memory_not_told {T = T} y is = absurd (let e : IsErrOf {T = T} {E = ReadingFault} (Err Memory) (Foreign y) = is in cc)

-- the fault of a call that is handed on
pub handed_on : {T S : Type 0} (r : Result T ReadingFault) (f : ReadingFault) (y : Bad) → IsErrAnd r (λ e. e ≡ f) → IsErrOf r (Foreign y) → IsErrOf {T = S} {E = ReadingFault} (Err f) (Foreign y)
handed_on {S = S} r f y same is =
    let e : Foreign y ≡ f = subst (λ (q : Result _ ReadingFault). IsErrAnd q (λ e. e ≡ f)) is same in
    let wrap : ReadingFault → Result S ReadingFault = λ g. Err g in
    ap wrap (sym e)
