-- What is read of a source: a value, or the first refusal.
use Rattle.std.specs.Prelude.{◌≡◌, ⊤, [], ◌∷◌, ◌++◌, Result, Ok, Err, Option, Some, None, MatchResult, codes, string_bytes}
use Rattle.script_types.specs.model_kernel.State.{Text}
use Rattle.script_types.specs.declared.refusals.Why.{Why}
use Rattle.script_types.specs.declared.refusals.ScriptFault.{ScriptFault}
use Rattle.script_types.specs.declared.refusals.ScriptFault.TheVariants.{Refused, Memory}

-- what is wrong, and at which key
pub record Blame : Type 0 where
  pub why : Why
  pub key : Text

abbrev pub Reading : Type 0 → Type 0
Reading A = Result A Blame

abbrev pub refused : {A : Type 0} → Why → Text → Reading A
refused why key = Err (record { why = why; key = key })

-- first the one and then the other, which may depend on it: the refusal is the first of both
infixl 10 ◌>>=◌
abbrev pub ◌>>=◌ : {A B : Type 0} → Reading A → (A → Reading B) → Reading B
Ok x >>= next = next x
Err blame >>= next = Err blame

-- the value, where there is one
abbrev pub or_refused : {A : Type 0} → Why → Text → Option A → Reading A
or_refused why key None = refused why key
or_refused why key (Some x) = Ok x

-- `read` on the value, where there is one
abbrev pub optional : {A B : Type 0} → B → (A → Reading B) → Option A → Reading B
optional default read None = Ok default
optional default read (Some x) = read x

-- the key of a name in a table, whose own key is empty at the top
abbrev pub dotted : Text → Text → Text
dotted [] name = name
dotted (b ∷ key) name = b ∷ key ++ codes "." ++ name

-- WHAT A CALL ANSWERS

-- memory ran out, which says nothing, or it is the refusal that the reading gives
abbrev pub IsFaultOf : {A : Type 0} → Reading A → ScriptFault → Type 0
IsFaultOf reading (Refused refusal) = reading ≡ refused refusal.why (string_bytes refusal.key)
IsFaultOf reading Memory = ⊤

-- what is read, seen by `model`, or its refusal
abbrev pub Reads : {A T : Type 0} → (T → A) → Reading A → Result T ScriptFault → Type 0
Reads model reading result = MatchResult result (λ x. reading ≡ Ok (model x)) (IsFaultOf reading)

-- memory ran out, or it is the refusal for this reason at this key
abbrev pub IsBlamed : Why → Text → ScriptFault → Type 0
IsBlamed why key (Refused refusal) = (refusal.why ≡ why) × (string_bytes refusal.key ≡ key)
IsBlamed why key Memory = ⊤
