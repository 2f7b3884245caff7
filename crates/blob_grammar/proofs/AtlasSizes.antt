-- How long the spelling of an atlas is, and that of an atlas of a sound state.
use Rattle.std.proofs.Common.{◌≡◌, ◌≤◌, ℕ, zero, suc, ◌+◌, ◌*◌, ◌==◌, ◌||◌, Bool, true, false, cond, if◌then◌else◌, List, [], ◌∷◌, ◌++◌, length, nat_lt, refl, sym, ap, ◌∙◌, arith, eqb-true, length-append}
use Rattle.std.proofs.lemmas.Bool.{false≢true}
use Rattle.std.proofs.lemmas.Bool.Decides.{nat_tests}
use Rattle.std.proofs.lemmas.List.Sums.{count_by-le-length, sum_by-cons}
use Rattle.std.specs.Prelude.{count_by}
use Rattle.std.specs.List.{flat_map}
use Rattle.model_kernel.specs.base_types.Edges.{Edges, upto}
use Rattle.model_kernel.specs.base_types.declared.capabilities.Region.{Region}
use Rattle.model_kernel.proofs.Basics.{and_left, and_right}
use Rattle.model_kernel.proofs.Names.{name_short}
use Rattle.model_kernel.specs.Soundness.{AreSound, are_names_from, is_born, is_born_container, is_born_locus, is_name_of, regions_onto}
use Rattle.model_kernel.specs.State.{AtlasState, Cell, Text}
use Rattle.blob_grammar.specs.Forms.{IsAtlasForm}
use Rattle.blob_grammar.specs.Spelling.{Counted, atlas_blob, counted, counted_edges, edge_bytes, edges_bytes, listed, text_bytes}
use Rattle.blob_grammar.proofs.Edges.{few_edges, few_over, length_next, row_none}
use Rattle.blob_grammar.proofs.Sizes.{same_items}

-- NAMES

names_len : (n : ℕ) (names : List Text) → n + length names ≤ 100 → are_names_from n names ≡ true → length (flat_map text_bytes names) ≤ length names * 25
names_len n [] small h = omega arith
names_len n (name ∷ names) small h =
    let here = name_short n name (omega (arith, small)) (and_left (is_name_of n name) (are_names_from (n + 1) names) h) in
    let rest = names_len (n + 1) names (omega (arith, small)) (and_right (is_name_of n name) (are_names_from (n + 1) names) h) in
    let joined = length-append (text_bytes name) (flat_map text_bytes names) in
    let grown : (length names + 1) * 25 ≡ length names * 25 + 25 = omega arith in
    omega (arith, here, rest, joined, grown)

-- THE ATLAS, by the number of its edges
atlas_by : (a : AtlasState) (most : ℕ) → IsAtlasForm a → length (counted_edges a.edges) ≤ most → length (atlas_blob a) ≤ 1580 + most * 3
unfolding atlas_blob
atlas_by a most f few =
    let containers = names_len 1 a.containers (let c = f.few_containers in omega (arith, c)) f.containers in
    let loci = names_len 41 a.loci (let c = f.few_loci in omega (arith, c)) f.loci in
    let edges = same_items edge_bytes 3 (λ e. refl) (counted_edges a.edges) in
    let forty = f.few_containers in
    let others = f.few_loci in
    let one = length-append (listed text_bytes a.containers) (listed text_bytes a.loci ++ edges_bytes (counted_edges a.edges)) in
    let two = length-append (listed text_bytes a.loci) (edges_bytes (counted_edges a.edges)) in
    omega (arith, containers, loci, edges, forty, others, one, two, few)

pub atlas_len : (a : AtlasState) → IsAtlasForm a → length (atlas_blob a) ≤ 6380
atlas_len a f = let len = atlas_by a 1600 f (few_edges a.edges f.edges) in omega (arith, len)

-- A SOUND STATE has at most 16 regions for each container

abbrev onto : ℕ → Region → Bool
onto y r = r.target == y

abbrev below : ℕ → Region → Bool
below n r = nat_lt r.target n

below_next : (n t : ℕ) → cond (nat_lt t n) 1 0 + cond (t == n) 1 0 ≤ cond (nat_lt t (n + 1)) 1 0
below_next n t = grind (arith, nat_tests)

regions_next : (n : ℕ) (rs : List Region) → count_by (below n) rs + count_by (onto n) rs ≤ count_by (below (n + 1)) rs
regions_next n [] = omega arith
regions_next n (r ∷ rs) =
    let here = below_next n r.target in
    let rest = regions_next n rs in
    let one = sum_by-cons (λ x. cond (below n x) 1 0) r rs in
    let two = sum_by-cons (λ x. cond (onto n x) 1 0) r rs in
    let three = sum_by-cons (λ x. cond (below (n + 1) x) 1 0) r rs in
    omega (arith, here, rest, one, two, three)

counted_by : (edges : Edges) (from to : ℕ) (b : Bool) → (edges from to == 0) ≡ b → length {A = Counted} (if b then [] else record { from = from; to = to; count = edges from to } ∷ []) ≤ edges from to
counted_by edges from to true e = omega arith
counted_by edges from to false e = go (edges from to) e
  where
    go : (n : ℕ) → (n == 0) ≡ false → 1 ≤ n
    go zero h = absurd (false≢true (sym h))
    go (suc n) h = omega arith

-- the edges from a container whose regions are these
row_by : (edges : Edges) (x : ℕ) (rs : List Region) → ((y : ℕ) → edges x y ≡ count_by (onto y) rs) → (n : ℕ)
    → length (flat_map (counted edges x) (upto n)) ≤ count_by (below n) rs
row_by edges x rs shown zero = omega arith
row_by edges x rs shown (suc n) =
    let so_far = row_by edges x rs shown n in
    let next = length_next (counted edges x) n in
    let here = counted_by edges x n (edges x n == 0) refl in
    let is = shown n in
    let more = regions_next n rs in
    let number : count_by (below (suc n)) rs ≡ count_by (below (n + 1)) rs = ap (λ m. count_by (below m) rs) (let e : suc n ≡ n + 1 = omega arith in e) in
    omega (arith, so_far, next, here, is, more, number)

row_few : (edges : Edges) (x : ℕ) (rs : List Region) → length rs ≤ 16 → ((y : ℕ) → edges x y ≡ count_by (onto y) rs) → (n : ℕ)
    → length (flat_map (counted edges x) (upto n)) ≤ 16
row_few edges x rs few shown n =
    let row = row_by edges x rs shown n in
    let all = count_by-le-length (below n) rs in
    omega (arith, row, all, few)

module _ (a : AtlasState) (cells : ℕ → Cell) (sound : AreSound a cells) where
  -- what isn't a container shows none
  pub none_shown : (x : ℕ) (b : Bool) → is_born_locus a x ≡ b → is_born_container a x ≡ false → (y : ℕ) → regions_onto (cells x) y ≡ 0
  none_shown x true born other y = ap (λ (c : Cell). regions_onto c y) (sound.loci x born).1
  none_shown x false born other y = by_zero (x == 0) refl
    where
      by_zero : (b : Bool) → (x == 0) ≡ b → regions_onto (cells x) y ≡ 0
      by_zero true e = ap (λ (c : Cell). regions_onto c y) (ap cells (eqb-true x 0 e) ∙ sound.atlas)
      by_zero false e = ap (λ (c : Cell). regions_onto c y) (sound.others x (none_born e))
        where
          none_born : (x == 0) ≡ false → is_born a x ≡ false
          none_born zero_not = ap (λ (b : Bool). b || is_born_container a x || is_born_locus a x) zero_not ∙ (ap (λ (b : Bool). b || is_born_locus a x) other ∙ born)

  row_sound : (x : ℕ) (b : Bool) → is_born_container a x ≡ b → (n : ℕ) → length (flat_map (counted a.edges x) (upto n)) ≤ 16
  row_sound x true born n =
      let c = sound.containers x born in
      row_few a.edges x c.0.regions c.2.few (λ y. sound.edges x y ∙ ap (λ (d : Cell). regions_onto d y) c.1) n
  row_sound x false other n =
      row_few a.edges x [] (omega arith) (λ y. sound.edges x y ∙ none_shown x (is_born_locus a x) refl other y) n

  few_sound : (form : IsAtlasForm a) (m n : ℕ) → length (flat_map (λ from. flat_map (counted a.edges from) (upto n)) (upto (suc m))) ≤ m * 16
  few_sound form m n =
      few_over (λ from. flat_map (counted a.edges from) (upto n)) 16 (row_none a.edges form.edges n) (λ from. row_sound from (is_born_container a from) refl n) m

  pub sound_atlas_len : IsAtlasForm a → length (atlas_blob a) ≤ 3500
  sound_atlas_len form = let few = few_sound form 40 41 in let len = atlas_by a 640 form few in omega (arith, len)
