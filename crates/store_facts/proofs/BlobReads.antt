-- A blob, block by block.
use Rattle.std.proofs.Common.{◌≡◌, ℕ, ◌+◌, ◌-◌, ◌<◌, ◌≤◌, inl, inr, min, List, [], ◌∷◌, ◌++◌, length, length-append, length-drop, map, take, drop, get_or, Option, refl, sym, ap, subst, ◌∙◌, arith, append-nil}
use Rattle.std.specs.Prelude.{All}
use Rattle.std.specs.List.{concat}
use Rattle.std.proofs.Math.Seq.{take-append-add}
use Rattle.std.proofs.lemmas.Bool.{cases_lt}
use Rattle.std.proofs.lemmas.List.{get_or-append_right, get_or-drop, length-take, map-append, take-append-le, take_all, take_more}
use Rattle.std.proofs.lemmas.List.Folds.{concat-append}
use Rattle.edge_disk.specs.Image.{Image, block_at}
use Rattle.page_words.specs.image_meaning.Foreign.{IsFirstRest}
use Rattle.store_facts.specs.Rests.{IsRest}

-- as many bytes of a block as there is room for
take_fitting : (room many : ℕ) (block : List ℕ) → length block ≡ 1024 → many ≡ min room 1024 → take many block ≡ take room block
take_fitting room many block len is = elim (cases_lt room 1024) as (λ _. take many block ≡ take room block) [
  | inl low ↦ ap (λ n. take n block) (let e : many ≡ room = omega (arith, is, low) in e)
  | inr high ↦ take_all many block (omega (arith, len, is, high)) ∙ sym (take_all room block (omega (arith, len, high)))
]

pub pushed : (most many : ℕ) (out block : List ℕ) → length out ≤ most → length block ≡ 1024 → many ≡ min (most - length out) 1024 → out ++ take many block ≡ take most (out ++ block)
pushed most many out block few len is =
    let room : length out + (most - length out) ≡ most = omega (arith, few) in
    ap (λ (l : List ℕ). out ++ l) (take_fitting (most - length out) many block len is)
    ∙ (sym (take-append-add out block (most - length out)) ∙ ap (λ n. take n (out ++ block)) room)

pub nothing_pushed : (most : ℕ) (out : List ℕ) → length out ≤ most → out ≡ take most (out ++ [])
nothing_pushed most out few = sym (ap (take most) (append-nil out) ∙ take_all most out few)

-- cut off, and cut off again
take_twice : (most : ℕ) (xs ys : List ℕ) → take most (take most xs ++ ys) ≡ take most (xs ++ ys)
take_twice most xs ys = elim (cases_lt (length xs) most) as (λ _. take most (take most xs ++ ys) ≡ take most (xs ++ ys)) [
  | inl low ↦ ap (λ (l : List ℕ). take most (l ++ ys)) (take_all most xs (omega (arith, low)))
  | inr high ↦
      (let len = length-take most xs in
      take-append-le most (take most xs) ys (omega (arith, len, high))
      ∙ (take_all most (take most xs) (omega (arith, len)) ∙ sym (take-append-le most xs ys high)))
]

-- one block more
room_more : (image : Image) (i : ℕ) (blocks : List ℕ) → i < length blocks → concat (map (block_at image) (take i blocks)) ++ block_at image (get_or blocks i 0) ≡ concat (map (block_at image) (take (i + 1) blocks))
room_more image i blocks lt =
    let here : List ℕ = block_at image (get_or blocks i 0) in
    let one : concat (here ∷ []) ≡ here = append-nil here in
    ap (λ (l : List ℕ). concat (map (block_at image) (take i blocks)) ++ l) (sym one)
    ∙ (sym (concat-append (map (block_at image) (take i blocks)) (here ∷ []))
    ∙ (ap concat (sym (map-append (block_at image) (take i blocks) (get_or blocks i 0 ∷ []))) ∙ ap (λ (l : List ℕ). concat (map (block_at image) l)) (sym (take_more blocks i 0 lt))))

pub blob_more : (image : Image) (most i : ℕ) (blocks out new : List ℕ) → i < length blocks → out ≡ take most (concat (map (block_at image) (take i blocks))) → new ≡ take most (out ++ block_at image (get_or blocks i 0))
    → new ≡ take most (concat (map (block_at image) (take (i + 1) blocks)))
blob_more image most i blocks out new lt so_far is =
    let room : List ℕ = concat (map (block_at image) (take i blocks)) in
    let here : List ℕ = block_at image (get_or blocks i 0) in
    is ∙ (ap (λ (l : List ℕ). take most (l ++ here)) so_far ∙ (take_twice most room here ∙ ap (take most) (room_more image i blocks lt)))

-- all of a record's blocks
all_taken : (i need : ℕ) (blocks : List ℕ) → length blocks ≡ 8 → i ≡ min need 8 → take i blocks ≡ take need blocks
all_taken i need blocks len is = elim (cases_lt need 8) as (λ _. take i blocks ≡ take need blocks) [
  | inl low ↦ ap (λ n. take n blocks) (let e : i ≡ need = omega (arith, is, low) in e)
  | inr high ↦ take_all i blocks (omega (arith, len, is, high)) ∙ sym (take_all need blocks (omega (arith, len, high)))
]

pub blob_whole : (image : Image) (most i need : ℕ) (blocks out : List ℕ) → length blocks ≡ 8 → i ≡ min need 8 → out ≡ take most (concat (map (block_at image) (take i blocks))) → out ≡ take most (concat (map (block_at image) (take need blocks)))
blob_whole image most i need blocks out len is so_far = so_far ∙ ap (λ (l : List ℕ). take most (concat (map (block_at image) l))) (all_taken i need blocks len is)

-- WHAT STANDS BEHIND

-- a place behind the bytes that are taken of the last block
behind_at : (most many : ℕ) (out block : List ℕ) (i d : ℕ) → length out ≤ most → many ≡ most - length out → get_or (out ++ block) (most + i) d ≡ get_or (drop many block) i d
behind_at most many out block i d few is =
    get_or-append_right out block (length out) (most + i) d refl (omega (arith, few))
    ∙ (ap (λ k. get_or block k d) (let e : most + i - length out ≡ many + i = omega (arith, few, is) in e) ∙ sym (get_or-drop many block i d))

module _ (most many : ℕ) (out block : List ℕ) (few : length out ≤ most) (len : length block ≡ 1024) (is : many ≡ min (most - length out) 1024) where
  all_behind : take (1024 - many) (drop many block) ≡ drop many block
  all_behind = take_all (1024 - many) (drop many block) (let a = length-drop many block in omega (arith, a, len))

  pub rest_none : All (λ b. b ≡ 0) (take (1024 - many) (drop many block)) → All (λ b. b ≡ 0) (drop most (out ++ block))
  rest_none behind i d lt =
      let none = subst (λ (bs : List ℕ). All (λ b. b ≡ 0) bs) all_behind behind in
      let all : length (drop most (out ++ block)) ≡ length out + 1024 - most = (let a = length-drop most (out ++ block) in let b = length-append out block in omega (arith, a, b, len)) in
      let part : length (drop many block) ≡ 1024 - many = (let a = length-drop many block in omega (arith, a, len)) in
      let here : many ≡ most - length out = omega (arith, is, all, lt) in
      get_or-drop most (out ++ block) i d ∙ (behind_at most many out block i d few here ∙ none i d (omega (arith, lt, all, part, here, few)))

  pub rest_some : (place : ℕ) → IsFirstRest (take (1024 - many) (drop many block)) 0 place → IsFirstRest (out ++ block) most (most + place)
  rest_some place behind =
      let f = subst (λ (bs : List ℕ). IsFirstRest bs 0 place) all_behind behind in
      let within = f.within in
      let part : length (drop many block) ≡ 1024 - many = (let a = length-drop many block in omega (arith, a, len)) in
      let here : many ≡ most - length out = omega (arith, is, part, within) in
      record {
        from = omega arith;
        within = (let b = length-append out block in omega (arith, b, len, within, part, here, few));
        not_zero = λ zero_is. f.not_zero (sym (behind_at most many out block place 0 few here) ∙ zero_is);
        first = λ q low high.
            let e : most + (q - most) ≡ q = omega (arith, low) in
            ap (λ k. get_or (out ++ block) k 0) (sym e) ∙ (behind_at most many out block (q - most) 0 few here ∙ f.first (q - most) (omega arith) (omega (arith, low, high)));
      }

-- of no bytes, and of those that are all of them
pub rest_of_none : (most : ℕ) (xs : List ℕ) → length xs ≤ most → All (λ b. b ≡ 0) (drop most xs)
rest_of_none most xs few i d lt = (let len = length-drop most xs in absurd (omega (arith, len, lt, few)))

-- where no byte was cut off
not_cut : (most : ℕ) (room out : List ℕ) → out ≡ take most room → length out < most → out ≡ room
not_cut most room out is low = is ∙ take_all most room (let len = length-take most room in let same = ap length is in omega (arith, len, same, low))

pub rest_more : (image : Image) (most i : ℕ) (blocks out : List ℕ) (r : Option ℕ) → i < length blocks → out ≡ take most (concat (map (block_at image) (take i blocks))) → length out < most → IsRest (out ++ block_at image (get_or blocks i 0)) most r
    → IsRest (concat (map (block_at image) (take (i + 1) blocks))) most r
rest_more image most i blocks out r lt so_far low rest =
    subst (λ (room : List ℕ). IsRest room most r) (ap (λ (l : List ℕ). l ++ block_at image (get_or blocks i 0)) (not_cut most (concat (map (block_at image) (take i blocks))) out so_far low) ∙ room_more image i blocks lt) rest

pub rest_whole : (image : Image) (most i need : ℕ) (blocks : List ℕ) (r : Option ℕ) → length blocks ≡ 8 → i ≡ min need 8 → IsRest (concat (map (block_at image) (take i blocks))) most r → IsRest (concat (map (block_at image) (take need blocks))) most r
rest_whole image most i need blocks r len is rest = subst (λ (l : List ℕ). IsRest (concat (map (block_at image) l)) most r) (all_taken i need blocks len is) rest
