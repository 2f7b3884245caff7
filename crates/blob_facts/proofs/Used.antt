-- The slots that are used, as they are gone through.
use Rattle.std.proofs.Common.{◌≡◌, ◌<◌, ◌≤◌, ℕ, zero, suc, ◌+◌, List, [], ◌∷◌, ◌++◌, length, get_or, take, Option, Some, None, refl, sym, ap, ◌∙◌, add-one, arith, append_assoc, length-append}
use Rattle.std.proofs.lemmas.List.{append-nil, flat_map_more}
use Rattle.std.specs.List.{flat_map}
use Rattle.act_atlas_laws.specs.base_types.declared.capabilities.Cap.{Cap}
use Rattle.base_bytes.specs.Blobs.{HasRoom}
use Rattle.blob_grammar.specs.Spelling.{Slot, caps_bytes, slot_bytes, used_slots}
use Rattle.blob_grammar.proofs.Sizes.{same_items}
use Rattle.blob_facts.proofs.Room.{grown}

-- the slot at a place adds itself where it is used
used_more : (n i : ℕ) (caps : List (Option Cap)) (d : Option Cap) → i < length caps
    → used_slots n (take (suc i) caps) ≡ used_slots n (take i caps) ++ used_slots (n + i) (get_or caps i d ∷ [])
used_more n i [] d within = absurd (omega (arith, within))
used_more n zero (None ∷ caps) d within = refl
used_more n zero (Some c ∷ caps) d within = ap (λ k. record { slot = k; cap = c } ∷ []) (omega arith)
used_more n (suc i) (None ∷ caps) d within =
    used_more (n + 1) i caps d (omega (arith, within))
    ∙ ap (λ k. used_slots (n + 1) (take i caps) ++ used_slots k (get_or caps i d ∷ [])) (omega arith)
used_more n (suc i) (Some c ∷ caps) d within =
    ap (λ l. record { slot = n; cap = c } ∷ l) (
    used_more (n + 1) i caps d (omega (arith, within))
    ∙ ap (λ k. used_slots (n + 1) (take i caps) ++ used_slots k (get_or caps i d ∷ [])) (omega arith)
    )

-- there are not more among the first
used_front : (n i : ℕ) (caps : List (Option Cap)) → length (used_slots n (take i caps)) ≤ length (used_slots n caps)
used_front n zero [] = omega arith
used_front n (suc i) [] = omega arith
used_front n zero (c ∷ caps) = omega arith
used_front n (suc i) (None ∷ caps) = used_front (n + 1) i caps
used_front n (suc i) (Some c ∷ caps) = let few = used_front (n + 1) i caps in omega (arith, few)

-- a slot that is used is one more
pub used_some : (i : ℕ) (caps : List (Option Cap)) (d : Option Cap) (cap : Cap) → i < length caps → get_or caps i d ≡ Some cap
    → used_slots 0 (take (i + 1) caps) ≡ used_slots 0 (take i caps) ++ record { slot = i; cap = cap } ∷ []
used_some i caps d cap within is =
    let same : 0 + i ≡ i = omega arith in
    ap (λ k. used_slots 0 (take k caps)) (add-one i) ∙ used_more 0 i caps d within
    ∙ ap (λ (held : Option Cap). used_slots 0 (take i caps) ++ used_slots (0 + i) (held ∷ [])) is
    ∙ ap (λ k. used_slots 0 (take i caps) ++ record { slot = k; cap = cap } ∷ []) same

-- an empty slot is none
pub used_none : (i : ℕ) (caps : List (Option Cap)) (d : Option Cap) → i < length caps → get_or caps i d ≡ None
    → used_slots 0 (take (i + 1) caps) ≡ used_slots 0 (take i caps)
used_none i caps d within is =
    ap (λ k. used_slots 0 (take k caps)) (add-one i) ∙ used_more 0 i caps d within
    ∙ ap (λ (held : Option Cap). used_slots 0 (take i caps) ++ used_slots (0 + i) (held ∷ [])) is ∙ append-nil _

-- where the slots before it are written, a used one has room
pub slot_fits : (i : ℕ) (caps : List (Option Cap)) (d : Option Cap) (cap : Cap) (old blob : List ℕ) → i < length caps → get_or caps i d ≡ Some cap
    → HasRoom old (length (caps_bytes caps)) → blob ≡ old ++ length (used_slots 0 caps) ∷ flat_map slot_bytes (used_slots 0 (take i caps)) → HasRoom blob 3
slot_fits i caps d cap old blob within is room so_far =
    let far = grown old (length (used_slots 0 caps) ∷ flat_map slot_bytes (used_slots 0 (take i caps))) blob so_far in
    let whole = same_items slot_bytes 3 (λ s. refl) (used_slots 0 caps) in
    let front = same_items slot_bytes 3 (λ s. refl) (used_slots 0 (take i caps)) in
    let more : length (used_slots 0 (take (i + 1) caps)) ≡ length (used_slots 0 (take i caps)) + 1 =
    ap (λ l. length l) (used_some i caps d cap within is) ∙ length-append (used_slots 0 (take i caps)) (record { slot = i; cap = cap } ∷ []) in
    let few = used_front 0 (i + 1) caps in
    omega (arith, far, whole, front, more, few)

-- and once it is written, the slots up to it are
pub slot_written : (i : ℕ) (caps : List (Option Cap)) (d : Option Cap) (cap : Cap) (old blob new : List ℕ) → i < length caps → get_or caps i d ≡ Some cap
    → blob ≡ old ++ length (used_slots 0 caps) ∷ flat_map slot_bytes (used_slots 0 (take i caps)) → new ≡ blob ++ slot_bytes (record { slot = i; cap = cap })
    → new ≡ old ++ length (used_slots 0 caps) ∷ flat_map slot_bytes (used_slots 0 (take (i + 1) caps))
slot_written i caps d cap old blob new within is so_far put =
    let front = used_slots 0 (take i caps) in
    put
    ∙ ap (λ (l : List ℕ). l ++ slot_bytes (record { slot = i; cap = cap })) so_far
    ∙ append_assoc old (length (used_slots 0 caps) ∷ flat_map slot_bytes front) (slot_bytes (record { slot = i; cap = cap }))
    ∙ ap (λ (l : List ℕ). old ++ l) (flat_map_more slot_bytes (length (used_slots 0 caps) ∷ []) front (record { slot = i; cap = cap }))
    ∙ ap (λ (l : List Slot). old ++ length (used_slots 0 caps) ∷ flat_map slot_bytes l) (sym (used_some i caps d cap within is))

-- so that no more is written than the slots take
pub caps_written : (i : ℕ) (caps : List (Option Cap)) (old blob : List ℕ)
    → blob ≡ old ++ length (used_slots 0 caps) ∷ flat_map slot_bytes (used_slots 0 (take i caps)) → length (caps_bytes caps) ≤ 97 → length blob ≤ length old + 97
caps_written i caps old blob is most =
    let far = grown old (length (used_slots 0 caps) ∷ flat_map slot_bytes (used_slots 0 (take i caps))) blob is in
    let whole = same_items slot_bytes 3 (λ s. refl) (used_slots 0 caps) in
    let front = same_items slot_bytes 3 (λ s. refl) (used_slots 0 (take i caps)) in
    let few = used_front 0 i caps in
    omega (arith, far, whole, front, few, most)
