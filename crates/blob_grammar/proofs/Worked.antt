-- Spellings and places worked out by hand.
use Rattle.std.proofs.Common.{◌≡◌, ◌<◌, ◌≤◌, ℕ, zero, suc, ◌+◌, ◌^◌, Bool, true, List, [], ◌∷◌, ◌++◌, length, take, drop, replicate, Option, Some, None, refl, sym, ap, subst, ◌∙◌, arith, append_assoc, ◌||◌, ◌&&◌}
use Rattle.std.proofs.lemmas.Bool.{false≢true}
use Rattle.std.proofs.lemmas.Fmt.{decimal-digits_of}
use Rattle.std.proofs.lemmas.List.{take-append-drop}
use Rattle.std.proofs.lemmas.List.Elements.{All-cons}
use Rattle.std.specs.Prelude.{All, IsTrue, codes, decimal, slice_get, slice_index}
use Rattle.std.specs.List.{flat_map}
use Rattle.model_kernel.specs.base_types.declared.capabilities.Cap.{Cap}
use Rattle.model_kernel.specs.base_types.declared.capabilities.Region.{Region}
use Rattle.model_kernel.specs.base_types.declared.entities.Kind.TheVariants.{Atlas, Container}
use Rattle.model_kernel.specs.base_types.declared.instructions.Instr.{Instr}
use Rattle.model_kernel.specs.Scripts.{text_eq}
use Rattle.model_kernel.specs.Soundness.{AreApart, are_names_from, is_given_name}
use Rattle.model_kernel.specs.State.{AtlasState, ContainerState, Text, no_atlas}
use Rattle.blob_grammar.specs.Examples.{WorkedPlaces, WorkedSpellings, container_front}
use Rattle.blob_grammar.specs.Forms.{IsAtlasForm, IsContainerForm, IsNumber, IsSpelling}
use Rattle.blob_grammar.specs.Places.{Begins, IsBadPlace}
use Rattle.blob_grammar.specs.Shapes.{IsRegionOver}
use Rattle.blob_grammar.specs.Spelling.{Slot, atlas_blob, caps_bytes, container_blob, instr_bytes, listed, locus_blob, region_bytes, slot_bytes, text_bytes, used_slots}
use Rattle.blob_grammar.proofs.Fields.{first_slot}
use Rattle.blob_grammar.proofs.Sizes.{used_few}
use Rattle.blob_grammar.proofs.Smallest.{clash, empty_container, no_cap, none_all, small_atlas, small_container, zeros_small}

pub spellings : WorkedSpellings
unfolding atlas_blob container_blob locus_blob
spellings = record {
  set_r0_5 = refl;
  store_r1_r0 = refl;
  two_names = refl;
  longest_locus = refl;
  longest_container = refl;
  longest_atlas = refl;
}

-- ATLASES

many_ends : Begins (IsSpelling Atlas) (0 ∷ 41 ∷ []) → ⊥
unfolding atlas_blob
many_ends (rest, (a, p)) =
    let is : 41 ≡ length a.containers = ap (λ (l : List ℕ). slice_index l 1) p.is in
    let few = p.form.few_containers in
    omega (arith, is, few)

none_begins : Begins (IsSpelling Atlas) (0 ∷ [])
unfolding atlas_blob
none_begins = (drop 1 (atlas_blob no_atlas), (no_atlas, record { form = small_atlas; is = refl }))

none_whole : IsSpelling Atlas (0 ∷ []) → ⊥
unfolding atlas_blob
none_whole (a, p) =
    let is = ap (λ (l : List ℕ). length l) p.is in
    omega (arith, is)

-- atlases of one and of two containers with these names
abbrev named : List Text → AtlasState
named names = record { containers = names; loci = []; edges = λ _ _. 0 }

one_form : (name : Text) → are_names_from 1 (name ∷ []) ≡ true → IsAtlasForm (named (name ∷ []))
one_form name good = record {
  few_containers = omega arith;
  few_loci = omega arith;
  containers = good;
  loci = refl;
  different = record { containers = same; loci = λ i j n e f. clash n e; both = λ i j n e f. clash n f };
  edges = record { most = λ x y. omega arith; from = λ x y some. absurd (omega (arith, some)); to = λ x y some. absurd (omega (arith, some)) };
}
  where
    same : (i j : ℕ) (n : Text) → slice_get (name ∷ []) i ≡ Some n → slice_get (name ∷ []) j ≡ Some n → i ≡ j
    same zero zero n e f = refl
    same zero (suc j) n e f = clash n f
    same (suc i) j n e f = clash n e

abbrev text_or : Option Text → Text
text_or None = []
text_or (Some t) = t

two_form : (s t : Text) → (s ≡ t → ⊥) → are_names_from 1 (s ∷ t ∷ []) ≡ true → IsAtlasForm (named (s ∷ t ∷ []))
two_form s t other good = record {
  few_containers = omega arith;
  few_loci = omega arith;
  containers = good;
  loci = refl;
  different = record { containers = same; loci = λ i j n e f. clash n e; both = λ i j n e f. clash n f };
  edges = record { most = λ x y. omega arith; from = λ x y some. absurd (omega (arith, some)); to = λ x y some. absurd (omega (arith, some)) };
}
  where
    same : (i j : ℕ) (n : Text) → slice_get (s ∷ t ∷ []) i ≡ Some n → slice_get (s ∷ t ∷ []) j ≡ Some n → i ≡ j
    same zero zero n e f = refl
    same zero (suc zero) n e f = absurd (other (ap text_or (e ∙ sym f)))
    same zero (suc (suc j)) n e f = clash n f
    same (suc zero) zero n e f = absurd (other (ap text_or (f ∙ sym e)))
    same (suc zero) (suc zero) n e f = refl
    same (suc zero) (suc (suc j)) n e f = clash n f
    same (suc (suc i)) j n e f = clash n e

decimal_one : decimal 1 ≡ 49 ∷ []
decimal_one = decimal-digits_of 1 (omega arith) (omega arith)

abbrev names_by : Text → List ℕ → Bool
names_by name digits = (is_given_name name || text_eq name (35 ∷ digits)) && true

made_begins : Begins (IsSpelling Atlas) (0 ∷ 1 ∷ 2 ∷ 35 ∷ [])
unfolding atlas_blob
made_begins = (49 ∷ 0 ∷ 0 ∷ 0 ∷ [], (named (codes "#1" ∷ []), record { form = one_form (codes "#1") (ap (names_by (codes "#1")) decimal_one); is = refl }))

name_of_two : are_names_from 1 ((35 ∷ 50 ∷ []) ∷ []) ≡ true → ⊥
name_of_two good = false≢true (sym (ap (names_by (35 ∷ 50 ∷ [])) decimal_one) ∙ good)

-- one name of these two bytes
one_name : (names : List Text) (rest tail : List ℕ) → IsTrue (are_names_from 1 names) → 1 ≡ length names → 2 ∷ 35 ∷ 50 ∷ rest ≡ flat_map text_bytes names ++ tail → ⊥
one_name [] rest tail good len is = omega (arith, len)
one_name (s ∷ t ∷ names) rest tail good len is = omega (arith, len)
one_name ([] ∷ []) rest tail good len is = (let e = ap (λ (l : List ℕ). slice_index l 0) is in omega (arith, e))
one_name ((a ∷ []) ∷ []) rest tail good len is = (let e = ap (λ (l : List ℕ). slice_index l 0) is in omega (arith, e))
one_name ((a ∷ b ∷ c ∷ s) ∷ []) rest tail good len is = (let e = ap (λ (l : List ℕ). slice_index l 0) is in omega (arith, e))
one_name ((a ∷ b ∷ []) ∷ []) rest tail good len is =
    let first : 35 ≡ a = ap (λ (l : List ℕ). slice_index l 1) is in
    let second : 50 ≡ b = ap (λ (l : List ℕ). slice_index l 2) is in
    name_of_two (subst (λ n. are_names_from 1 ((n ∷ 50 ∷ []) ∷ []) ≡ true) (sym first) (subst (λ n. are_names_from 1 ((a ∷ n ∷ []) ∷ []) ≡ true) (sym second) good))

made_ends : Begins (IsSpelling Atlas) (0 ∷ 1 ∷ 2 ∷ 35 ∷ 50 ∷ []) → ⊥
unfolding atlas_blob
made_ends (rest, (a, p)) =
    one_name a.containers rest _ p.form.containers (ap (λ (l : List ℕ). slice_index l 1) p.is) (ap (λ (l : List ℕ). drop 2 l) p.is)

again_begins : Begins (IsSpelling Atlas) (0 ∷ 2 ∷ 1 ∷ 97 ∷ 1 ∷ [])
unfolding atlas_blob
again_begins =
    (98 ∷ 0 ∷ 0 ∷ 0 ∷ [], (named (codes "a" ∷ codes "b" ∷ []), record { form = two_form (codes "a") (codes "b") (λ e. other (ap (λ (l : List ℕ). slice_index l 0) e)) refl; is = refl }))
  where
    other : ◌≡◌ {A = ℕ} 97 98 → ⊥
    other e = omega (arith, e)

-- a name of one byte in front
one_byte : (s : Text) (tail rest : List ℕ) (x : ℕ) → 1 ∷ x ∷ rest ≡ text_bytes s ++ tail → (s ≡ x ∷ []) × (rest ≡ tail)
one_byte [] tail rest x is = absurd (let e = ap (λ (l : List ℕ). slice_index l 0) is in omega (arith, e))
one_byte (a ∷ []) tail rest x is = (ap (λ n. n ∷ []) (sym (ap (λ (l : List ℕ). slice_index l 1) is)), ap (λ (l : List ℕ). drop 2 l) is)
one_byte (a ∷ b ∷ s) tail rest x is = absurd (let e = ap (λ (l : List ℕ). slice_index l 0) is in omega (arith, e))

two_names : (names : List Text) (rest tail : List ℕ) → ((s : Text) → slice_get names 0 ≡ Some s → slice_get names 1 ≡ Some s → ⊥) → 2 ≡ length names
    → 1 ∷ 97 ∷ 1 ∷ 97 ∷ rest ≡ flat_map text_bytes names ++ tail → ⊥
two_names [] rest tail apart len is = omega (arith, len)
two_names (s ∷ []) rest tail apart len is = omega (arith, len)
two_names (s ∷ t ∷ u ∷ names) rest tail apart len is = omega (arith, len)
two_names (s ∷ t ∷ []) rest tail apart len is =
    let whole : flat_map text_bytes (s ∷ t ∷ []) ++ tail ≡ text_bytes s ++ (text_bytes t ++ tail) =
    append_assoc (text_bytes s) (text_bytes t ++ []) tail ∙ ap (λ (l : List ℕ). text_bytes s ++ l) (append_assoc (text_bytes t) [] tail) in
    let first = one_byte s (text_bytes t ++ tail) (1 ∷ 97 ∷ rest) 97 (is ∙ whole) in
    let second = one_byte t tail rest 97 first.1 in
    apart (97 ∷ []) (ap Some first.0) (ap Some second.0)

again_ends : Begins (IsSpelling Atlas) (0 ∷ 2 ∷ 1 ∷ 97 ∷ 1 ∷ 97 ∷ []) → ⊥
unfolding atlas_blob
again_ends (rest, (a, p)) =
    two_names a.containers rest _ (λ s e f. (let same = p.form.different.containers 0 1 s e f in omega (arith, same))) (ap (λ (l : List ℕ). slice_index l 1) p.is) (ap (λ (l : List ℕ). drop 2 l) p.is)

-- CONTAINERS

container_begins : (n : ℕ) → Begins (IsSpelling Container) (take n (container_blob empty_container (0 ∷ [])))
container_begins n =
    (drop n (container_blob empty_container (0 ∷ [])), (empty_container, 0 ∷ [], record { form = small_container; is = take-append-drop n (container_blob empty_container (0 ∷ [])) }))

pages_begin : Begins (IsSpelling Container) (1 ∷ 1 ∷ [])
unfolding container_blob
pages_begin = container_begins 2

pages_end : Begins (IsSpelling Container) (1 ∷ 1 ∷ 1 ∷ []) → ⊥
unfolding container_blob
pages_end (rest, (c, t, p)) =
    let low = ap (λ (l : List ℕ). slice_index l 1) p.is in
    let high = ap (λ (l : List ℕ). slice_index l 2) p.is in
    let size = p.form.shape.size in
    omega (arith, low, high, size)

regions_begin : Begins (IsSpelling Container) (container_front 1)
unfolding container_blob
regions_begin = container_begins 17

no_code : (code : List Instr) (regions : List Region) (rest tail : List ℕ) → 0 ∷ 2 ∷ rest ≡ listed instr_bytes code ++ (listed region_bytes regions ++ tail) → 2 ≡ length regions
no_code [] regions rest tail is = ap (λ (l : List ℕ). slice_index l 1) is
no_code (i ∷ code) regions rest tail is = absurd (let e = ap (λ (l : List ℕ). slice_index l 0) is in omega (arith, e))

no_room : (pages : ℕ) (regions : List Region) → 2 ≡ length regions → pages ≤ 1 → All (IsRegionOver IsNumber) regions → All (λ (r : Region). r.at + r.count ≤ pages) regions → AreApart regions → ⊥
no_room pages [] two one good inside apart = omega (arith, two)
no_room pages (r ∷ []) two one good inside apart = omega (arith, two)
no_room pages (r ∷ s ∷ t ∷ rs) two one good inside apart = omega (arith, two)
no_room pages (r ∷ s ∷ []) two one good inside apart =
    let first = (good 0 r (omega arith)).some in
    let second = (good 1 s (omega arith)).some in
    let last = inside 1 s (omega arith) in
    let behind = apart.0 0 s (omega arith) in
    omega (arith, one, first, second, last, behind)

regions_end : Begins (IsSpelling Container) (container_front 1 ++ 2 ∷ []) → ⊥
unfolding container_blob
regions_end (rest, (c, t, p)) =
    let low = ap (λ (l : List ℕ). slice_index l 1) p.is in
    let high = ap (λ (l : List ℕ). slice_index l 2) p.is in
    let size = p.form.shape.size in
    let two : 2 ≡ length c.regions = no_code c.code c.regions rest _ (ap (λ (l : List ℕ). drop 16 l) p.is) in
    no_room c.pages c.regions two (omega (arith, low, high, size)) p.form.shape.regions p.form.shape.inside p.form.shape.apart

-- two pages with a region each
abbrev page_region : ℕ → Region
page_region at = record { at = at; count = 1; target = 1; from = 0; rights = record { 0 = 1 } }

abbrev two_regions : ContainerState
two_regions = record empty_container { pages = 2; regions = page_region 0 ∷ page_region 1 ∷ [] }

region_good : (at : ℕ) → at ≤ 1 → IsRegionOver IsNumber (page_region at)
region_good at low = record { some = omega arith; at = omega (arith, low); from = omega arith; access = (omega arith, omega arith); target = omega arith }

two_regions_form : IsContainerForm two_regions (0 ∷ 0 ∷ [])
two_regions_form = record {
  shape = record {
    some = omega arith;
    size = omega arith;
    entry = λ x e. clash x e;
    code = small_container.shape.code;
    few = omega arith;
    regions = All-cons (IsRegionOver IsNumber) (page_region 0) (page_region 1 ∷ []) (region_good 0 (omega arith)) (All-cons (IsRegionOver IsNumber) (page_region 1) [] (region_good 1 (omega arith)) (none_all _));
    inside = All-cons (λ (r : Region). r.at + r.count ≤ 2) (page_region 0) (page_region 1 ∷ []) (omega arith) (All-cons (λ (r : Region). r.at + r.count ≤ 2) (page_region 1) [] (omega arith) (none_all _));
    apart = (All-cons (λ (s : Region). 0 + 1 ≤ s.at) (page_region 1) [] (omega arith) (none_all _), (none_all _, tt));
    caps = small_container.shape.caps;
  };
  tag = omega arith;
  every = omega arith;
  rights = small_container.rights;
  blocks = record { each_page = refl; numbers = zeros_small 2 (2 ^ 32) (omega arith) };
}

late_begins : Begins (IsSpelling Container) (container_front 2 ++ 2 ∷ [])
unfolding container_blob
late_begins = (drop 18 (container_blob two_regions (0 ∷ 0 ∷ [])), (two_regions, 0 ∷ 0 ∷ [], record { form = two_regions_form; is = take-append-drop 18 (container_blob two_regions (0 ∷ 0 ∷ [])) }))

late_room : (pages : ℕ) (code : List Instr) (regions : List Region) (rest tail : List ℕ) → pages ≤ 2 → All (IsRegionOver IsNumber) regions → All (λ (r : Region). r.at + r.count ≤ pages) regions → AreApart regions
    → 0 ∷ 2 ∷ 1 ∷ rest ≡ listed instr_bytes code ++ (listed region_bytes regions ++ tail) → ⊥
late_room pages (i ∷ code) regions rest tail two good inside apart is = (let e = ap (λ (l : List ℕ). slice_index l 0) is in omega (arith, e))
late_room pages [] [] rest tail two good inside apart is = (let e = ap (λ (l : List ℕ). slice_index l 1) is in omega (arith, e))
late_room pages [] (r ∷ []) rest tail two good inside apart is = (let e = ap (λ (l : List ℕ). slice_index l 1) is in omega (arith, e))
late_room pages [] (r ∷ s ∷ t ∷ rs) rest tail two good inside apart is = (let e = ap (λ (l : List ℕ). slice_index l 1) is in omega (arith, e))
late_room pages [] (r ∷ s ∷ []) rest tail two good inside apart is =
    let at = ap (λ (l : List ℕ). slice_index l 2) is in
    let first = (good 0 r (omega arith)).some in
    let second = (good 1 s (omega arith)).some in
    let last = inside 1 s (omega arith) in
    let behind = apart.0 0 s (omega arith) in
    omega (arith, at, two, first, second, last, behind)

late_ends : Begins (IsSpelling Container) (container_front 2 ++ 2 ∷ 1 ∷ []) → ⊥
unfolding container_blob
late_ends (rest, (c, t, p)) =
    let low = ap (λ (l : List ℕ). slice_index l 1) p.is in
    let high = ap (λ (l : List ℕ). slice_index l 2) p.is in
    let size = p.form.shape.size in
    late_room c.pages c.code c.regions rest _ (omega (arith, low, high, size)) p.form.shape.regions p.form.shape.inside p.form.shape.apart (ap (λ (l : List ℕ). drop 16 l) p.is)

-- two capabilities
abbrev two_caps : ContainerState
two_caps = record empty_container { caps = Some (record { entity = 1; rights = record { 0 = 1 } }) ∷ Some (record { entity = 1; rights = record { 0 = 1 } }) ∷ replicate 30 None }

abbrev cap_or : Cap → Option (Option Cap) → Cap
cap_or d (Some (Some c)) = c
cap_or d (Some None) = d
cap_or d None = d

good_cap : (slot : ℕ) (cap : Cap) → slice_get two_caps.caps slot ≡ Some (Some cap) → IsNumber cap.entity × (cap.rights.0 < 256)
good_cap zero cap e = let is = ap (cap_or cap) e in subst (λ (c : Cap). IsNumber c.entity × (c.rights.0 < 256)) is (omega arith, omega arith)
good_cap (suc zero) cap e = let is = ap (cap_or cap) e in subst (λ (c : Cap). IsNumber c.entity × (c.rights.0 < 256)) is (omega arith, omega arith)
good_cap (suc (suc slot)) cap e = no_cap 30 slot cap e

two_caps_form : IsContainerForm two_caps (0 ∷ [])
two_caps_form = record {
  shape = record {
    some = omega arith;
    size = omega arith;
    entry = λ x e. clash x e;
    code = small_container.shape.code;
    few = omega arith;
    regions = none_all _;
    inside = none_all _;
    apart = tt;
    caps = record { slots = refl; each = λ slot cap e. (good_cap slot cap e).0 };
  };
  tag = omega arith;
  every = omega arith;
  rights = λ slot cap e. (good_cap slot cap e).1;
  blocks = small_container.blocks;
}

slot_begins : Begins (IsSpelling Container) (container_front 1 ++ 0 ∷ 2 ∷ [])
unfolding container_blob
slot_begins = (drop 19 (container_blob two_caps (0 ∷ [])), (two_caps, 0 ∷ [], record { form = two_caps_form; is = take-append-drop 19 (container_blob two_caps (0 ∷ [])) }))

-- so many used slots from the first one on are within the list
slots_room : (none n k : ℕ) (caps : List (Option Cap)) → length (used_slots n caps) ≡ suc k → first_slot none (used_slots n caps) + k < n + length caps
slots_room none n k [] len = absurd (omega (arith, len))
slots_room none n k (None ∷ caps) len = let rest = slots_room none (n + 1) k caps len in omega (arith, rest)
slots_room none n k (Some cap ∷ caps) len = let few = used_few (n + 1) caps in omega (arith, few, len)

slot_at : (ss : List Slot) (rest tail : List ℕ) → 2 ∷ 31 ∷ rest ≡ listed slot_bytes ss ++ tail → (length ss ≡ 2) × (first_slot 0 ss ≡ 31)
slot_at [] rest tail is = absurd (let e = ap (λ (l : List ℕ). slice_index l 0) is in omega (arith, e))
slot_at (s ∷ ss) rest tail is = (sym (ap (λ (l : List ℕ). slice_index l 0) is), sym (ap (λ (l : List ℕ). slice_index l 1) is))

slot_room : (code : List Instr) (regions : List Region) (caps : List (Option Cap)) (rest tail : List ℕ) → length caps ≡ 32
    → 0 ∷ 0 ∷ 2 ∷ 31 ∷ rest ≡ listed instr_bytes code ++ (listed region_bytes regions ++ (caps_bytes caps ++ tail)) → ⊥
slot_room (i ∷ code) regions caps rest tail len is = (let e = ap (λ (l : List ℕ). slice_index l 0) is in omega (arith, e))
slot_room [] (r ∷ rs) caps rest tail len is = (let e = ap (λ (l : List ℕ). slice_index l 1) is in omega (arith, e))
slot_room [] [] caps rest tail len is =
    let here = slot_at (used_slots 0 caps) rest tail (ap (λ (l : List ℕ). drop 2 l) is) in
    let room = slots_room 0 0 1 caps here.0 in
    let at = here.1 in
    omega (arith, room, at, len)

slot_ends : Begins (IsSpelling Container) (container_front 1 ++ 0 ∷ 2 ∷ 31 ∷ []) → ⊥
unfolding container_blob
slot_ends (rest, (c, t, p)) = slot_room c.code c.regions c.caps rest _ p.form.shape.caps.slots (ap (λ (l : List ℕ). drop 16 l) p.is)

-- a bad place within the bytes
within : (Spelled : List ℕ → Type 0) (bytes : List ℕ) (place : ℕ) → place < length bytes → Begins Spelled (take place bytes) → (Begins Spelled (take (place + 1) bytes) → ⊥) → IsBadPlace Spelled bytes place
within Spelled bytes place lt begins ends = record {
  within = omega (arith, lt);
  begins = begins;
  ends = λ _. ends;
  cut_off = λ end. absurd (omega (arith, end, lt));
}

pub places : WorkedPlaces
places = record {
  many_containers = within (IsSpelling Atlas) (0 ∷ 41 ∷ []) 1 (omega arith) none_begins many_ends;
  cut_off = record { within = omega arith; begins = none_begins; ends = λ lt. absurd (omega (arith, lt)); cut_off = λ _. none_whole };
  other_made_name = within (IsSpelling Atlas) (0 ∷ 1 ∷ 2 ∷ 35 ∷ 50 ∷ []) 4 (omega arith) made_begins made_ends;
  name_again = within (IsSpelling Atlas) (0 ∷ 2 ∷ 1 ∷ 97 ∷ 1 ∷ 97 ∷ []) 5 (omega arith) again_begins again_ends;
  past_pages = within (IsSpelling Container) (1 ∷ 1 ∷ 1 ∷ []) 2 (omega arith) pages_begin pages_end;
  many_regions = within (IsSpelling Container) (container_front 1 ++ 2 ∷ []) 17 (omega arith) regions_begin regions_end;
  late_region = within (IsSpelling Container) (container_front 2 ++ 2 ∷ 1 ∷ []) 18 (omega arith) late_begins late_ends;
  late_slot = within (IsSpelling Container) (container_front 1 ++ 0 ∷ 2 ∷ 31 ∷ []) 19 (omega arith) slot_begins slot_ends;
}
