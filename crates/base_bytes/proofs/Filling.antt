-- A block that is filled from its front on.
use Rattle.std.proofs.Common.{◌≡◌, ◌≤◌, ◌<◌, ℕ, ◌+◌, ◌-◌, List, [], ◌∷◌, ◌++◌, length, take, drop, get_or, replicate, sym, ap, subst, ◌∙◌, arith, length-append}
use Rattle.std.proofs.lemmas.List.{drop-drop, drop-replicate, drop_at, flat_map_more, length-replicate, take_at, take_more}
use Rattle.std.specs.List.{flat_map}
use Rattle.std.specs.Prelude.{IfSome, Option, Some, Result, Ok, OnOk}
use Rattle.byteorder.specs.Endian.{little_bytes}
use Rattle.byteorder.specs.Numbers.{length-bytes_low_first}
use Rattle.base_bytes.specs.Fields.{PutsNumber}

-- these bytes, and zeros behind them
pub record IsFilled (front block : List ℕ) : Type 0 where
  pub few : length front ≤ 1024
  pub is : block ≡ front ++ replicate (1024 - length front) 0

pub filled_len : (front block : List ℕ) → IsFilled front block → length block ≡ 1024
filled_len front block f =
    let a = ap length f.is in
    let b = length-append front (replicate (1024 - length front) 0) in
    let c = length-replicate {A = ℕ} (1024 - length front) 0 in
    let d = f.few in
    omega (arith, a, b, c, d)

-- a number put behind them
pub filled_more : (front old new : List ℕ) (at width value : ℕ) → length front ≡ at → IsFilled front old → PutsNumber at width value old new → IsFilled (front ++ little_bytes width value) new
filled_more front old new at width value len f p =
    let field : List ℕ = little_bytes width value in
    let added : length (front ++ field) ≡ at + width = length-append front field ∙ (let a = length-bytes_low_first 0 width value in omega (arith, a, len)) in
    let zeros : List ℕ = replicate (1024 - length front) 0 in
    let first : take at old ≡ front = ap (take at) f.is ∙ take_at front zeros at len in
    let last : drop (at + width) old ≡ replicate (1024 - length front - width) 0 =
    sym (drop-drop width at old) ∙ ap (λ (l : List ℕ). drop width (drop at l)) f.is ∙ ap (λ (l : List ℕ). drop width l) (drop_at front zeros at len) ∙ drop-replicate width (1024 - length front) 0 in
    let left : 1024 - length front - width ≡ 1024 - length (front ++ field) = omega (arith, added, len) in
    let rest : drop (at + width) old ≡ replicate (1024 - length (front ++ field)) 0 = last ∙ ap (λ (n : ℕ). replicate n 0) left in
    let one : (take at old ++ field) ++ drop (at + width) old ≡ (front ++ field) ++ drop (at + width) old = ap (λ (l : List ℕ). (l ++ field) ++ drop (at + width) old) first in
    let two : (front ++ field) ++ drop (at + width) old ≡ (front ++ field) ++ replicate (1024 - length (front ++ field)) 0 = ap (λ (l : List ℕ). (front ++ field) ++ l) rest in
    record {
      few = (let a = p.within in let b = filled_len front old f in omega (arith, a, b, added));
      is = p.put ∙ (one ∙ two);
    }

-- the front grows by a number
pub more_numbers : (front : List ℕ) (width : ℕ) (xs : List ℕ) (i x : ℕ) → i < length xs → x ≡ get_or xs i 0
    → (front ++ flat_map (little_bytes width) (take i xs)) ++ little_bytes width x ≡ front ++ flat_map (little_bytes width) (take (i + 1) xs)
more_numbers front width xs i x lt is =
    flat_map_more (little_bytes width) front (take i xs) x
    ∙ ap (λ (l : List ℕ). front ++ flat_map (little_bytes width) l) (ap (λ (y : ℕ). take i xs ++ y ∷ []) is ∙ sym (take_more xs i 0 lt))

pub more_len : (front : List ℕ) (at width value : ℕ) → length front ≡ at → length (front ++ little_bytes width value) ≡ at + width
more_len front at width value len = length-append front (little_bytes width value) ∙ (let a = length-bytes_low_first 0 width value in omega (arith, a, len))

-- one number of a row more
pub filled_next : (front : List ℕ) (width : ℕ) (xs : List ℕ) (i x at : ℕ) (old new : List ℕ) → i < length xs → x ≡ get_or xs i 0
    → length (front ++ flat_map (little_bytes width) (take i xs)) ≡ at → IsFilled (front ++ flat_map (little_bytes width) (take i xs)) old → PutsNumber at width x old new
    → (length (front ++ flat_map (little_bytes width) (take (i + 1) xs)) ≡ at + width) × IsFilled (front ++ flat_map (little_bytes width) (take (i + 1) xs)) new
filled_next front width xs i x at old new lt is len f p =
    let so_far : List ℕ = front ++ flat_map (little_bytes width) (take i xs) in
    let more = more_numbers front width xs i x lt is in
    (ap length (sym more) ∙ more_len so_far at width x len, subst (λ (l : List ℕ). IsFilled l new) more (filled_more so_far old new at width x len f p))

pub ok_gives : {T E : Type 0} (r : Result T E) (x : T) (P : Type 0) → r ≡ Ok x → OnOk r P → P
ok_gives r x P is on = subst (λ (s : Result _ _). OnOk s P) is on

pub some_gives : {T : Type 0} (o : Option T) (x : T) (P : T → Type 0) → o ≡ Some x → IfSome o P → P x
some_gives o x P is holds = subst (λ (s : Option _). IfSome s P) is holds
