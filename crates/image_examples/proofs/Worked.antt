-- What fits, and first bad places of blobs, worked out by hand.
use Rattle.std.proofs.Common.{◌≡◌, ℕ, zero, suc, ◌-◌, ◌<◌, Bool, true, false, List, [], ◌∷◌, ◌++◌, take, replicate, Option, Some, None, refl, sym, ap, subst, ◌∙◌, arith, lit<, ◌+◌, ◌≤◌, ◌==◌, ◌&&◌, if◌then◌else◌, eqb-true, lit≤, inl, inr, ◌^◌, length}
use Rattle.std.proofs.lemmas.Bool.{false≢true}
use Rattle.std.proofs.lemmas.Bool.Decides.{nat_tests}
use Rattle.std.specs.Prelude.{IsTrue, slice_get, slice_index, codes}
use Rattle.edge_disk.specs.Image.{Image}
use Rattle.base_types.specs.declared.entities.Kind.TheVariants.{Atlas, Container}
use Rattle.base_types.specs.declared.instructions.Walk.{Walk}
use Rattle.base_types.specs.declared.records.Rec.{Rec}
use Rattle.image_meaning.specs.model_kernel.Soundness.{HasNoCircle, is_born, is_born_container}
use Rattle.image_meaning.specs.model_kernel.State.{AtlasState, ContainerState, Text, no_atlas}
use Rattle.image_meaning.specs.blob_grammar.Examples.{small_atlas}
use Rattle.image_meaning.specs.blob_grammar.Forms.{IsAtlasForm, IsContainerForm, IsSpelling}
use Rattle.image_meaning.specs.blob_grammar.Places.{GoesPast, IsBadPlace}
use Rattle.image_meaning.specs.blob_grammar.Spelling.{atlas_blob, container_blob}
use Rattle.image_meaning.proofs.blob_grammar_lemmas.Placing.{past_bad}
use Rattle.image_meaning.proofs.blob_grammar_lemmas.Smallest.{clash, empty_container, no_cap, none_all, small_container, zeros_small}
use Rattle.image_meaning.proofs.blob_grammar_lemmas.Values.{prefix_free}
use Rattle.image_meaning.specs.image_facts.Bodies.{blob_in, blob_room}
use Rattle.image_meaning.specs.Fits.{IsFit, shown_by}
use Rattle.image_meaning.specs.Foreign.{IsBadRest, IsBadSpelling, IsFirstRest}
use Rattle.image_meaning.specs.Parts.{AtlasPart, ContainerPart, LocusPart, Part, chosen}
use Rattle.image_meaning.specs.model_kernel.Choices.{covered, greatest}
use Rattle.image_examples.specs.Examples.{two_names, showing, WorkedBlobs, WorkedBlocks, WorkedFits, atlas_alone, atlas_record, bad_at, both, box, box_alone, box_record, dirty_block, long_front, one_name, region_onto, plain_box}

-- WHAT FITS

abbrev atlas_or : AtlasState → Option Part → AtlasState
atlas_or d (Some (AtlasPart a)) = a
atlas_or d (Some (ContainerPart c table)) = d
atlas_or d (Some (LocusPart l)) = d
atlas_or d None = d

abbrev pub is_there : Option Part → Bool
is_there None = false
is_there (Some p) = true

named : (count : ℕ) (recs : List Rec) → IsFit count recs (both one_name plain_box) 1 plain_box
named count recs = record {
  atlas = one_name;
  chosen_atlas = refl;
  named = refl;
  tied = record { regions = none_all _; caps = λ slot cap e. absurd (no_cap 32 slot cap e) };
  blocks = λ page block is some. absurd (some (no_block page block is));
}
  where
    no_block : (page block : ℕ) → slice_get (0 ∷ []) page ≡ Some block → block ≡ 0
    no_block zero block e = sym (ap (λ o. number_or o) e)
      where
        number_or : Option ℕ → ℕ
        number_or None = 0
        number_or (Some n) = n
    no_block (suc page) block e = clash block e

not_named : (count : ℕ) (recs : List Rec) → IsFit count recs (both no_atlas plain_box) 1 plain_box → ⊥
not_named count recs fit = false≢true (ap (λ o. is_born (atlas_or no_atlas o) 1) fit.chosen_atlas ∙ fit.named)

without_atlas : (count : ℕ) (recs : List Rec) → IsFit count recs (box_alone plain_box) 1 plain_box → ⊥
without_atlas count recs fit = false≢true (ap is_there fit.chosen_atlas)

not_chosen : (count : ℕ) (recs : List Rec) → IsFit count recs (atlas_alone one_name) 0 (AtlasPart one_name) → ⊥
not_chosen count recs fit = false≢true (ap is_there (fit.tied.all_chosen 1 refl).1)

abbrev walk_or : Walk → Option Walk → Walk
walk_or d None = d
walk_or d (Some w) = w

-- the one edge leads from 1 to 2
edge_ends : (x y : ℕ) → 0 < (two_names 1).edges x y → (x ≡ 1) × (y ≡ 2)
edge_ends x y = elim (x == 1) as (λ b. (x == 1) ≡ b → 0 < (if b && y == 2 then 1 else 0) → (x ≡ 1) × (y ≡ 2)) [
  | false ↦ λ _ some. absurd (omega (arith, some))
  | true ↦ λ one. elim (y == 2) as (λ b. (y == 2) ≡ b → 0 < (if b then 1 else 0) → (x ≡ 1) × (y ≡ 2)) [
    | false ↦ λ _ some. absurd (omega (arith, some))
    | true ↦ λ two some. (eqb-true x 1 one, eqb-true y 2 two)
  ] refl
] refl

no_circle : HasNoCircle (two_names 1).edges
no_circle c x [] (first, last) = (let from = (edge_ends c x first).0 in let to = (edge_ends c x first).1 in omega (arith, from, to, last))
no_circle c x (y ∷ path) (first, (second, rest)) = (let to = (edge_ends c x first).1 in let from = (edge_ends x y second).0 in omega (arith, from, to))

abbrev one_if : Bool → ℕ
one_if b = if b then 1 else 0

counted : (x y : ℕ) → (two_names 1).edges x y ≡ shown_by (showing (two_names 1) x) y
counted zero y = refl
counted (suc zero) zero = refl
counted (suc zero) (suc zero) = refl
counted (suc zero) (suc (suc zero)) = refl
counted (suc zero) (suc (suc (suc y))) = ap one_if (none (suc (suc (suc y))) (omega arith)).0 ∙ sym (ap (λ b. 0 + one_if b) (none (suc (suc (suc y))) (omega arith)).1)
  where
    none : (z : ℕ) → 3 ≤ z → ((z == 2) ≡ false) × ((2 == z) ≡ false)
    none z le = (grind (arith, nat_tests), grind (arith, nat_tests))
counted (suc (suc zero)) y = refl
counted (suc (suc (suc x))) y = neither (suc (suc (suc x))) (omega arith)
  where
    other : (z : ℕ) → (z == 0) ≡ false → (z == 1) ≡ false → (z == 2) ≡ false → (two_names 1).edges z y ≡ shown_by (showing (two_names 1) z) y
    other z a b c = rw (a, b, c) refl

    neither : (z : ℕ) → 3 ≤ z → (two_names 1).edges z y ≡ shown_by (showing (two_names 1) z) y
    neither z le = other z (grind (arith, nat_tests)) (grind (arith, nat_tests)) (grind (arith, nat_tests))

all_there : (x : ℕ) → IsTrue (is_born (two_names 1) x) → (part : Part) × (showing (two_names 1) x ≡ Some part)
all_there zero born = (AtlasPart (two_names 1), refl)
all_there (suc zero) born = (ContainerPart (box (region_onto 2 ∷ [])) (0 ∷ []), refl)
all_there (suc (suc zero)) born = (plain_box, refl)
all_there (suc (suc (suc x))) born = absurd (late (suc (suc (suc x))) (omega arith) born)
  where
    late : (x : ℕ) → 3 ≤ x → is_born (two_names 1) x ≡ true → ⊥
    late x le born = grind (arith, nat_tests)

pub fits : WorkedFits
fits = record {
  named = named;
  not_named = not_named;
  without_atlas = without_atlas;
  not_chosen = not_chosen;
  host_born = λ parts. record {
    host = refl;
    chain = none_all _;
    privates = none_all _;
    caps = λ slot cap e. absurd (no_cap 32 slot cap e);
    walk = λ x e. clash x e;
    looking = λ x e. clash x e;
  };
  host_not_born = λ parts tied. false≢true tied.host;
  host_no_container = λ parts tied. false≢true tied.host;
  walk_of_load = λ parts. record {
    host = refl;
    chain = none_all _;
    privates = none_all _;
    caps = λ slot cap e. absurd (no_cap 32 slot cap e);
    walk = λ w e. subst (λ v. IsTrue (is_born_container one_name v.at)) (ap (walk_or w) e) refl;
    looking = λ w e. refl;
  };
  walk_of_set = λ parts tied. false≢true (tied.looking (record { at = 1; address = 0; hops = 1 }) refl);
  caller_not_born = λ parts tied. false≢true (tied.chain 0 (record { container = 2; place = 0 }) (omega arith));
  private_not_born = λ parts tied. false≢true (tied.privates 0 (record { made = 1; region = region_onto 2 }) (omega arith)).1;
  walk_not_born = λ parts tied. false≢true (tied.walk (record { at = 2; address = 0; hops = 1 }) refl);
  cap_not_born = λ parts tied. false≢true (tied.caps 0 (record { entity = 41; rights = record { 0 = 1 } }) refl);
  target_not_born = λ parts tied. false≢true (tied.regions 0 (region_onto 2) (omega arith));
  circle = λ parts tied. tied.no_circle 1 2 (1 ∷ []) (omega arith, (omega arith, refl));
  one_edge = record { all_chosen = all_there; edges = counted; no_circle = no_circle };
  edge_count = λ tied. (let e : ◌≡◌ {A = ℕ} 2 1 = tied.edges 1 2 in omega (arith, e));
}

-- BLOCKS OF PAGES

atlas_chosen : chosen (atlas_record 9 ∷ []) 0 ≡ Some (atlas_record 9)
unfolding greatest covered
atlas_chosen = refl

pub blocks : WorkedBlocks
blocks = record {
  in_blob = λ parts once. ((once 0 3000 refl (λ e. omega (arith, e))).others 0 (λ e. omega (arith, e))).by_blob (atlas_record 9) atlas_chosen (0, omega arith, refl);
  in_other_table = λ recs once. ((once 0 3000 refl (λ e. omega (arith, e))).others 2 (λ e. omega (arith, e))).by_table (ContainerPart (box []) (3000 ∷ [])) refl (0, omega arith, refl);
  twice = λ recs parts once. (let e = (once 0 2565 refl (λ e. omega (arith, e))).once 1 refl in omega (arith, e));
  below_pool = λ recs parts once. (let low = (once 0 2564 refl (λ e. omega (arith, e))).pool.0 in omega (arith, low));
  past_end = λ recs parts once. (let high = (once 0 2600 refl (λ e. omega (arith, e))).pool.1 in omega (arith, high));
}

-- BLOBS

small_form : IsAtlasForm small_atlas
small_form = record {
  few_containers = omega arith;
  few_loci = omega arith;
  containers = refl;
  loci = refl;
  different = record { containers = one (codes "a"); loci = one (codes "l"); both = apart };
  edges = record { most = λ x y. omega arith; from = λ x y some. absurd (omega (arith, some)); to = λ x y some. absurd (omega (arith, some)) };
}
  where
    one : (name : Text) (i j : ℕ) (n : Text) → slice_get (name ∷ []) i ≡ Some n → slice_get (name ∷ []) j ≡ Some n → i ≡ j
    one name zero zero n e f = refl
    one name zero (suc j) n e f = clash n f
    one name (suc i) j n e f = clash n e

    text_or : Option Text → Text
    text_or None = []
    text_or (Some t) = t

    other : ◌≡◌ {A = ℕ} 97 108 → ⊥
    other e = omega (arith, e)

    apart : (i j : ℕ) (n : Text) → slice_get (codes "a" ∷ []) i ≡ Some n → slice_get (codes "l" ∷ []) j ≡ Some n → ⊥
    apart zero zero n e f = other (ap (λ o. slice_index (text_or o) 0) (e ∙ sym f))
    apart zero (suc j) n e f = clash n f
    apart (suc i) j n e f = clash n e

small_spelling : IsSpelling Atlas (take 9 dirty_block)
unfolding atlas_blob
small_spelling = (small_atlas, record { form = small_form; is = refl })

pub zeros_in : (n q : ℕ) (rest : List ℕ) → q < n → slice_index (replicate n 0 ++ rest) q ≡ 0
zeros_in zero q rest lt = absurd (omega (arith, lt))
zeros_in (suc n) zero rest lt = refl
zeros_in (suc n) (suc q) rest lt = zeros_in n q rest (omega (arith, lt))

behind : (q : ℕ) → q < 91 → slice_index dirty_block (suc (suc (suc (suc (suc (suc (suc (suc (suc q))))))))) ≡ 0
behind q lt = zeros_in 91 q (5 ∷ replicate 923 0) lt

first_dirty : IsFirstRest dirty_block 9 100
first_dirty = record {
  from = omega arith;
  within = lit< tt;
  not_zero = five;
  first = λ q low high. (let at : suc (suc (suc (suc (suc (suc (suc (suc (suc (q - 9))))))))) ≡ q = omega (arith, low) in subst (λ n. slice_index dirty_block n ≡ 0) at (behind (q - 9) (omega (arith, low, high))));
}
  where
    five : ◌≡◌ {A = ℕ} 5 0 → ⊥
    five e = omega (arith, e)

rest : (image : Image) → blob_room image (atlas_record 9) ≡ dirty_block → IsBadRest 0 image (atlas_record 9) (bad_at 3000 100)
rest image is = (
  subst (λ room. IsSpelling Atlas (take 9 room)) (sym is) small_spelling,
  100,
  subst (λ room. IsFirstRest room 9 100) (sym is) first_dirty,
  refl,
)

goes_past : GoesPast (IsSpelling Atlas) (take 10 dirty_block) 9
goes_past = record { past = lit< tt; whole = small_spelling }

past : (image : Image) (body : ℕ) → blob_room image (atlas_record 10) ≡ dirty_block → IsBadSpelling 0 image (atlas_record 10) body (bad_at body 4)
past image body is =
    let over = subst (λ room. GoesPast (IsSpelling Atlas) (take 10 room) 9) (sym is) goes_past in
    (9, past_bad (IsSpelling Atlas) (prefix_free Atlas) (blob_in image (atlas_record 10)) 9 over, inl (over, refl))

-- an empty container of 256 pages

abbrev long_box : ContainerState
long_box = record empty_container { pages = 256 }

long_form : IsContainerForm long_box (replicate 256 0)
long_form = record {
  shape = record {
    some = omega arith;
    size = omega arith;
    entry = λ x e. clash x e;
    code = small_container.shape.code;
    few = omega arith;
    regions = none_all _;
    inside = none_all _;
    apart = tt;
    caps = small_container.shape.caps;
  };
  tag = omega arith;
  every = omega arith;
  rights = small_container.rights;
  blocks = record { each_page = refl; numbers = zeros_small 256 (2 ^ 32) (omega arith) };
}

long_whole : IsSpelling Container (long_front ++ replicate 19 0)
unfolding container_blob
long_whole = (long_box, replicate 256 0, record { form = long_form; is = refl })

-- the bytes of its first block are none, since no spelling is in front of another
long_cut : IsSpelling Container long_front → ⊥
long_cut spelled =
    let e : 19 ≡ 0 = ap (λ (l : List ℕ). length l) (prefix_free Container long_front (replicate 19 0) spelled long_whole) in
    omega (arith, e)

long_bad : IsBadPlace (IsSpelling Container) (take 1024 long_front) 1024
long_bad = record {
  within = lit≤ tt;
  begins = (replicate 19 0, long_whole);
  ends = λ lt. absurd (long_over lt);
  cut_off = λ _. long_cut;
}
  where
    long_over : 1024 < length (take 1024 long_front) → ⊥
    long_over lt = let e : length (take 1024 long_front) ≡ 1024 = refl in omega (arith, e, lt)

cut_off : (image : Image) (body : ℕ) → blob_room image (box_record 1024 0) ≡ long_front → IsBadSpelling 1 image (box_record 1024 0) body (bad_at 3000 1024)
cut_off image body is =
    let long : length (blob_in image (box_record 1024 0)) ≡ 1024 = ap (λ (room : List ℕ). length (take 1024 room)) is in
    (1024, subst (λ room. IsBadPlace (IsSpelling Container) (take 1024 room) 1024) (sym is) long_bad, inr (λ over. (let past = over.past in omega (arith, long, past)), refl))

pub blobs : WorkedBlobs
blobs = record { rest = rest; past = past; cut_off = cut_off; cut_off_two = refl; second_block = refl }
