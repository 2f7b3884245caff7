-- Readings in sequence: of two, and of the items of a list.
use Rattle.std.proofs.Common.{◌≡◌, ℕ, ◌+◌, ◌<◌, List, [], ◌∷◌, ◌++◌, length, drop, map, get_or, Result, Ok, Err, IsErr, sym, ap, ◌∙◌, subst}
use Rattle.std.proofs.lemmas.List.{map_push, at_drop_more, get_or-map, length-map}
use Rattle.std.specs.Result.{IsErrAnd}
use Rattle.toml.specs.Data.{Data}
use Rattle.toml.specs.View.{view}
use Rattle.toml.specs.declared.value.Value.{Value}
use Rattle.script_meaning.specs.Fields.{each}
use Rattle.script_meaning.specs.Reading.{Reading, ◌>>=◌, IsFaultOf, Reads}
use Rattle.script_types.specs.declared.refusals.ScriptFault.{ScriptFault}
use Rattle.script_types.specs.declared.refusals.ScriptFault.TheVariants.{Refused, Memory}

-- a fault of the first is one of both
pub passes_on : {A B : Type 0} (r : Reading A) (next : A → Reading B) (e : ScriptFault) → IsFaultOf r e → IsFaultOf (r >>= next) e
passes_on r next (Refused refusal) h = ap (λ s. s >>= next) h
passes_on r next Memory h = tt

-- a fault of an equal reading
pub fault_by : {A : Type 0} (r s : Reading A) (e : ScriptFault) → r ≡ s → IsFaultOf s e → IsFaultOf r e
fault_by r s (Refused refusal) is h = is ∙ h
fault_by r s Memory is h = tt

-- the first of the items that are left
pub each_at : {A : Type 0} (read : List A → Data → Reading A) (vs : List Value) (i : ℕ) (v : Value) (done : List A) → i < length vs → v ≡ get_or vs i v
    → each read done (drop i (map view vs)) ≡ (read done (view v) >>= (λ x. each read (done ++ x ∷ []) (drop (i + 1) (map view vs))))
each_at read vs i v done lt is =
    at_drop_more (each read done) (map view vs) i (view v) (rw length-map lt)
    ∙ ap (λ d. each read done (d ∷ drop (i + 1) (map view vs))) (get_or-map view vs i v (view v) lt ∙ ap view (sym is))

-- an item that is read is done
pub each_step : {A : Type 0} (read : List A → Data → Reading A) (vs : List Value) (i : ℕ) (v : Value) (done : List A) (x : A) → i < length vs → v ≡ get_or vs i v → read done (view v) ≡ Ok x
    → each read done (drop i (map view vs)) ≡ each read (done ++ x ∷ []) (drop (i + 1) (map view vs))
each_step read vs i v done x lt is ok =
    each_at read vs i v done lt is ∙ ap (λ r. r >>= (λ y. each read (done ++ y ∷ []) (drop (i + 1) (map view vs)))) ok

-- the fault of an item is that of the list
pub each_fault : {A : Type 0} (read : List A → Data → Reading A) (vs : List Value) (i : ℕ) (v : Value) (done : List A) (e : ScriptFault) → i < length vs → v ≡ get_or vs i v → IsFaultOf (read done (view v)) e
    → IsFaultOf (each read done (drop i (map view vs))) e
each_fault read vs i v done e lt is h =
    fault_by _ _ e (each_at read vs i v done lt is) (passes_on (read done (view v)) (λ x. each read (done ++ x ∷ []) (drop (i + 1) (map view vs))) e h)

-- a fault that is handed on by `?`
pub handed_on : {A T : Type 0} (model : T → A) (reading : Reading A) (result : Result T ScriptFault) (e : ScriptFault) → IsErr result × IsErrAnd result (λ f. f ≡ e) → IsFaultOf reading e → Reads model reading result
handed_on model reading (Ok x) e h fault = absurd h.1
handed_on model reading (Err f) e h fault = let P : ScriptFault → Type 0 = λ g. IsFaultOf reading g in subst P (sym h.1) fault

-- the same of items that are kept as they are in the code
pub each_done : {A T : Type 0} (read : List A → Data → Reading A) (f : T → A) (vs : List Value) (i : ℕ) (v : Value) (ts us : List T) (t : T) → i < length vs → v ≡ get_or vs i v
    → read (map f ts) (view v) ≡ Ok (f t) → us ≡ ts ++ t ∷ []
    → each read (map f us) (drop (i + 1) (map view vs)) ≡ each read (map f ts) (drop i (map view vs))
each_done read f vs i v ts us t lt is ok grown =
    ap (λ xs. each read (map f xs) (drop (i + 1) (map view vs))) grown
    ∙ ap (λ xs. each read xs (drop (i + 1) (map view vs))) (map_push f ts t)
    ∙ sym (each_step read vs i v (map f ts) (f t) lt is ok)

pub each_handed_on : {A T U : Type 0} (model : U → List A) (reading : Reading (List A)) (result : Result U ScriptFault) (read : List A → Data → Reading A) (f : T → A) (vs : List Value) (i : ℕ) (v : Value) (ts : List T) (e : ScriptFault)
    → i < length vs → v ≡ get_or vs i v → IsFaultOf (read (map f ts) (view v)) e → reading ≡ each read (map f ts) (drop i (map view vs))
    → IsErr result × IsErrAnd result (λ g. g ≡ e) → Reads model reading result
each_handed_on model reading result read f vs i v ts e lt is item whole handed =
    handed_on model reading result e handed (fault_by _ _ e whole (each_fault read vs i v (map f ts) e lt is item))
