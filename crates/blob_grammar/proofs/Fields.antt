-- Texts, capabilities, regions, callers and walks are told by their bytes.
use Rattle.std.proofs.Common.{◌≡◌, ◌<◌, ◌≤◌, ℕ, ◌+◌, ◌^◌, ◌==◌, if◌then◌else◌, List, [], ◌∷◌, ◌++◌, length, Option, Some, None, refl, sym, ap, ◌∙◌, arith}
use Rattle.std.specs.Prelude.{slice_index}
use Rattle.std.specs.List.{AllByRecursion}
use Rattle.std.specs.Option.{ForSome}
use Rattle.model_kernel.specs.base_types.Instructions.{IsPlace}
use Rattle.model_kernel.specs.base_types.declared.capabilities.Cap.{Cap}
use Rattle.model_kernel.specs.base_types.declared.capabilities.Private.{Private}
use Rattle.model_kernel.specs.base_types.declared.capabilities.Region.{Region}
use Rattle.model_kernel.specs.base_types.declared.instructions.Call.{Call}
use Rattle.model_kernel.specs.base_types.declared.instructions.Condition.{Condition}
use Rattle.model_kernel.specs.base_types.declared.instructions.Condition.TheVariants.{Running, Stopped, Halted}
use Rattle.model_kernel.specs.base_types.declared.instructions.Walk.{Walk}
use Rattle.model_kernel.specs.State.{Text}
use Rattle.byteorder.specs.Endian.{little_bytes}
use Rattle.blob_grammar.specs.Spelling.{Slot, call_bytes, caps_bytes, condition_number, entry_byte, private_bytes, region_bytes, slot_bytes, text_bytes, used_slots, walk_bytes}
use Rattle.blob_grammar.proofs.Telling.{Tells, and_then, byte, byte_then, list, number, same_length, when}

-- TEXTS
abbrev pub Any : {A : Type 0} → A → Type 0
Any x = Unit {0}

pub all_any : {A : Type 0} (xs : List A) → AllByRecursion Any xs
all_any [] = tt
all_any (x ∷ xs) = (tt, all_any xs)

pub text : (s t : Text) → Any s → Any t → Tells (text_bytes s) (text_bytes t) (s ≡ t)
text s t f g = when (byte_then (length s) (length t) (λ len. same_length s t len)) (λ (len, same). same)

-- REGIONS
pub region : (r s : Region) → (r.count < 256 ^ 2) → (s.count < 256 ^ 2) → Tells (region_bytes r) (region_bytes s) (r ≡ s)
region r s f g =
    when (byte_then r.at s.at (λ _. and_then (number 2 r.count s.count f g) (λ _. byte_then r.target s.target (λ _. byte_then r.from s.from (λ _. byte r.rights.0 s.rights.0)))))
    (λ t. λ i. record { at = t.0 i; count = t.1.0 i; target = t.1.1.0 i; from = t.1.1.1.0 i; rights = record { 0 = t.1.1.1.1 i } })

pub private_region : (p q : Private) → (p.region.count < 256 ^ 2) → (q.region.count < 256 ^ 2) → Tells (private_bytes p) (private_bytes q) (p ≡ q)
private_region p q f g =
    when (byte_then p.made q.made (λ _. region p.region q.region f g)) (λ t. λ i. record { made = t.0 i; region = t.1 i })

-- CALLERS
pub call : (c d : Call) → Any c → Any d → Tells (call_bytes c) (call_bytes d) (c ≡ d)
call c d f g = when (byte_then c.container d.container (λ _. byte c.place d.place)) (λ t. λ i. record { container = t.0 i; place = t.1 i })

-- CAPABILITIES
slot : (s t : Slot) → Any s → Any t → Tells (slot_bytes s) (slot_bytes t) (s ≡ t)
slot s t f g =
    when (byte_then s.slot t.slot (λ _. byte_then s.cap.entity t.cap.entity (λ _. byte s.cap.rights.0 t.cap.rights.0)))
    (λ u. λ i. record { slot = u.0 i; cap = record { entity = u.1.0 i; rights = record { 0 = u.1.1 i } } })

abbrev pub first_slot : ℕ → List Slot → ℕ
first_slot none [] = none
first_slot none (s ∷ ss) = s.slot

abbrev first_cap : Cap → List Slot → Cap
first_cap none [] = none
first_cap none (s ∷ ss) = s.cap

abbrev rest_of : List Slot → List Slot
rest_of [] = []
rest_of (s ∷ ss) = ss

-- the first used slot is not below the first one
later : (n m none : ℕ) (caps : List (Option Cap)) → n ≤ m → n ≤ none → n ≤ first_slot none (used_slots m caps)
later n m none [] low least = least
later n m none (Some cap ∷ caps) low least = low
later n m none (None ∷ caps) low least = later n (m + 1) none caps (omega (arith, low)) least

clash : (n : ℕ) (cap : Cap) (caps : List (Option Cap)) (ss : List Slot) → used_slots (n + 1) caps ≡ record { slot = n; cap = cap } ∷ ss → ⊥
clash n cap caps ss same =
    let low : n + 1 ≤ first_slot (n + 1) (used_slots (n + 1) caps) = later (n + 1) (n + 1) (n + 1) caps (omega arith) (omega arith) in
    let is : first_slot (n + 1) (used_slots (n + 1) caps) ≡ n = ap (first_slot (n + 1)) same in
    omega (arith, low, is)

slots_same : (n : ℕ) (caps ds : List (Option Cap)) → length caps ≡ length ds → used_slots n caps ≡ used_slots n ds → caps ≡ ds
slots_same n [] [] len same = refl
slots_same n [] (d ∷ ds) len same = absurd (omega (arith, len))
slots_same n (c ∷ caps) [] len same = absurd (omega (arith, len))
slots_same n (None ∷ caps) (None ∷ ds) len same = ap (λ (es : List (Option Cap)). None ∷ es) (slots_same (n + 1) caps ds (omega (arith, len)) same)
slots_same n (Some c ∷ caps) (Some d ∷ ds) len same =
    let cap : c ≡ d = ap (first_cap c) same in
    let others : caps ≡ ds = slots_same (n + 1) caps ds (omega (arith, len)) (ap rest_of same) in
    λ i. Some (cap i) ∷ others i
slots_same n (None ∷ caps) (Some d ∷ ds) len same = absurd (clash n d caps (used_slots (n + 1) ds) same)
slots_same n (Some c ∷ caps) (None ∷ ds) len same = absurd (clash n c ds (used_slots (n + 1) caps) (sym same))

pub caps : (cs ds : List (Option Cap)) → length cs ≡ length ds → Tells (caps_bytes cs) (caps_bytes ds) (cs ≡ ds)
caps cs ds len =
    when (list slot_bytes Any slot (used_slots 0 cs) (used_slots 0 ds) (all_any (used_slots 0 cs)) (all_any (used_slots 0 ds))) (slots_same 0 cs ds len)

-- WALKS
walk_of : (v w : Walk) → v.address < 256 ^ 8 → w.address < 256 ^ 8 → Tells (1 ∷ v.at ∷ little_bytes 8 v.address ++ v.hops ∷ []) (1 ∷ w.at ∷ little_bytes 8 w.address ++ w.hops ∷ []) (v ≡ w)
walk_of v w f g =
    when (byte_then 1 1 (λ _. byte_then v.at w.at (λ _. and_then (number 8 v.address w.address f g) (λ _. byte v.hops w.hops))))
    (λ t. λ i. record { at = t.1.0 i; address = t.1.1.0 i; hops = t.1.1.1 i })

pub apart : {R : Type 0} (m n : ℕ) (p q : List ℕ) → (m ≡ n → ⊥) → Tells (m ∷ p) (n ∷ q) R
apart m n p q other = record { told = λ a b same. absurd (other (ap (λ (l : List ℕ). slice_index l 0) same)) }

pub walk : (v w : Option Walk) → ForSome v (λ (x : Walk). x.address < 2 ^ 64) → ForSome w (λ (x : Walk). x.address < 2 ^ 64) → Tells (walk_bytes v) (walk_bytes w) (v ≡ w)
walk None None f g = when (byte 0 0) (λ _. refl)
walk None (Some w) f g = apart 0 1 [] (w.at ∷ little_bytes 8 w.address ++ w.hops ∷ []) (λ e. omega (arith, e))
walk (Some v) None f g = apart 1 0 (v.at ∷ little_bytes 8 v.address ++ v.hops ∷ []) [] (λ e. omega (arith, e))
walk (Some v) (Some w) f g = when (walk_of v w (f v refl) (g w refl)) (λ e. ap Some e)

-- CONDITIONS AND ENTRIES
abbrev condition_of : ℕ → Condition
condition_of n = if n == 0 then Running else if n == 1 then Stopped else Halted

condition_back : (c : Condition) → condition_of (condition_number c) ≡ c
condition_back Running = refl
condition_back Stopped = refl
condition_back Halted = refl

pub condition_same : (c d : Condition) → condition_number c ≡ condition_number d → c ≡ d
condition_same c d e = sym (condition_back c) ∙ ap condition_of e ∙ condition_back d

pub entry_same : (e f : Option ℕ) → ForSome e IsPlace → ForSome f IsPlace → entry_byte e ≡ entry_byte f → e ≡ f
entry_same None None p q same = refl
entry_same None (Some n) p q same = absurd (let small : n < 128 = q n refl in omega (arith, same, small))
entry_same (Some m) None p q same = absurd (let small : m < 128 = p m refl in omega (arith, same, small))
entry_same (Some m) (Some n) p q same = ap Some same
