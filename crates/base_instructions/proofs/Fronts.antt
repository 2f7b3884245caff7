-- How far a text goes on: one token after another, and a byte before a token.
use Rattle.std.proofs.Common.{◌≡◌, ◌≢◌, ℕ, ◌+◌, ◌-◌, ◌<◌, ◌≤◌, List, [], ◌∷◌, ◌++◌, length, take, drop, get_or, refl, sym, ap, subst, ◌∙◌, ⊎_elim, arith, append_assoc, add-one, length-append, length-take, length-drop, take-append-drop, get_or-take}
use Rattle.std.proofs.lemmas.List.{take_at, drop_at, take-append-le, drop-append-le, length-take-le, take-take, get_or_append_left, get_or_at, drop-take}
use Rattle.std.proofs.lemmas.Bool.{cases_lt}
use Rattle.base_instructions.specs.Fronts.{Begins, IsLongestFront, IsBadPlace}

-- no byte is a blank
abbrev pub NoBlank : List ℕ → Type 0
NoBlank bytes = (k : ℕ) → get_or bytes k 0 ≢ 32

-- nothing, or a blank and more
abbrev pub IsEndOrBlank : List ℕ → Type 0
IsEndOrBlank [] = Unit {0}
IsEndOrBlank (b ∷ bytes) = b ≡ 32

-- a member of the first set, and then one of the second, which may depend on the first
abbrev pub Then : (List ℕ → Type 0) → (List ℕ → List ℕ → Type 0) → List ℕ → Type 0
Then First Second bytes = (x : List ℕ) × (y : List ℕ) × First x × Second x y × (x ++ y ≡ bytes)

-- a byte, and then a member of the set
abbrev pub After : ℕ → (List ℕ → Type 0) → List ℕ → Type 0
After c Set bytes = (y : List ℕ) × Set y × (c ∷ y ≡ bytes)

-- sets with the same members have the same longest fronts and bad places

pub front_same : {P Q : List ℕ → Type 0} (to : (bs : List ℕ) → P bs → Q bs) (from : (bs : List ℕ) → Q bs → P bs) (bytes : List ℕ) (n : ℕ) → IsLongestFront P bytes n → IsLongestFront Q bytes n
front_same to from bytes n h = record {
  within = h.within;
  goes_on = (h.goes_on.0, to _ h.goes_on.1);
  no_more = λ l b. h.no_more l (b.0, from _ b.1);
}

pub bad_same : {P Q : List ℕ → Type 0} (to : (bs : List ℕ) → P bs → Q bs) (from : (bs : List ℕ) → Q bs → P bs) (bytes : List ℕ) (n : ℕ) → IsBadPlace P bytes n → IsBadPlace Q bytes n
bad_same to from bytes n h = record {
  front = front_same to from bytes n h.front;
  incomplete = λ e q. h.incomplete e (from bytes q);
}

joined : (n m : ℕ) (bytes : List ℕ) → take n bytes ++ take m (drop n bytes) ≡ take (n + m) bytes
joined n m bytes =
    ap (λ z. take n bytes ++ z) (sym (drop-take n m bytes)) ∙ ap (λ z. z ++ drop n (take (n + m) bytes)) (sym (take-take n (n + m) bytes (omega arith))) ∙ take-append-drop n (take (n + m) bytes)

-- a longer front of the bytes, whatever follows it, agrees with them in a shorter one
agrees : (k l : ℕ) (bytes rest : List ℕ) → k ≤ l → l ≤ length bytes → take k (take l bytes ++ rest) ≡ take k bytes
agrees k l bytes rest le fits = take-append-le k (take l bytes) rest (omega (arith, length-take l bytes)) ∙ take-take k l bytes le

dropped : (n l m : ℕ) (bytes rest : List ℕ) → l ≡ n + m → l ≤ length bytes → drop n (take l bytes ++ rest) ≡ take m (drop n bytes) ++ rest
dropped n l m bytes rest e fits =
    drop-append-le n (take l bytes) rest (omega (arith, length-take l bytes)) ∙ ap (λ k. drop n (take k bytes) ++ rest) e ∙ ap (λ z. z ++ rest) (drop-take n m bytes)

moved : (Second : List ℕ → List ℕ → Type 0) {x x' y y' : List ℕ} → x ≡ x' → y ≡ y' → Second x y → Second x' y'
moved Second {x' = x'} {y = y} e f h = subst (Second x') f (subst (λ z. Second z y) e h)

module _ (First : List ℕ → Type 0) (bytes t x y : List ℕ) (n : ℕ) (front : IsLongestFront First bytes n) (e : x ++ y ≡ t) (more : n < length bytes → take (n + 1) t ≡ take (n + 1) bytes) (whole : n ≡ length bytes → t ≡ bytes) where
  same_front : take n t ≡ take n bytes
  same_front = ⊎_elim
      (λ (l : n < length bytes). sym (take-take n (n + 1) t (omega arith)) ∙ ap (take n) (more l) ∙ take-take n (n + 1) bytes (omega arith))
      (λ (g : length bytes ≤ n). ap (take n) (whole (omega (arith, front.within))))
      (cases_lt n (length bytes))

  not_longer : First x → n < length x → ⊥
  not_longer first long = ⊎_elim
      (λ (l : n < length bytes).
      let begin : take (n + 1) x ≡ take (n + 1) bytes = sym (take-append-le (n + 1) x y (omega arith)) ∙ ap (take (n + 1)) e ∙ more l in
      let split : x ≡ take (n + 1) bytes ++ drop (n + 1) x = sym (take-append-drop (n + 1) x) ∙ ap (λ z. z ++ drop (n + 1) x) begin in
      front.no_more l (drop (n + 1) x, subst First split first))
      (λ (g : length bytes ≤ n). omega (arith, front.within, length-append x y, ap length (e ∙ whole (omega (arith, front.within)))))
      (cases_lt n (length bytes))

  exact : length x ≡ n → (x ≡ take n bytes) × (y ≡ drop n t)
  exact same = (sym (take_at x y n same) ∙ ap (take n) e ∙ same_front, sym (drop_at x y n same) ∙ ap (drop n) e)

not_shorter : (First : List ℕ → Type 0) (bytes t x y : List ℕ) (n : ℕ)
    → ((z : List ℕ) → First z → NoBlank z) → IsLongestFront First bytes n → x ++ y ≡ t → take n t ≡ take n bytes
    → IsEndOrBlank y → length x < n → ⊥
not_shorter First bytes t x [] n plain front e same end short =
    omega (arith, front.within, length-take n bytes, length-take n t, ap length same, length-append x [], ap length e)
not_shorter First bytes t x (b ∷ y) n plain front e same end short =
    let k = length x in
    let at : get_or (take n bytes) k 0 ≡ b = ap (λ z. get_or z k 0) (sym same) ∙ get_or-take n t k 0 short ∙ ap (λ z. get_or z k 0) (sym e) ∙ get_or_at x b y 0 k refl in
    let inside : get_or (take n bytes ++ front.goes_on.0) k 0 ≡ get_or (take n bytes) k 0 = get_or_append_left (take n bytes) front.goes_on.0 0 k (omega (arith, front.within, length-take n bytes)) in
    plain _ front.goes_on.1 k (inside ∙ at ∙ end)

-- the token of a text that agrees with the bytes one byte further than a token goes on there
pub cut : (First : List ℕ → Type 0) (bytes t x y : List ℕ) (n : ℕ)
    → ((z : List ℕ) → First z → NoBlank z) → IsLongestFront First bytes n → First x → IsEndOrBlank y → x ++ y ≡ t
    → (n < length bytes → take (n + 1) t ≡ take (n + 1) bytes) → (n ≡ length bytes → t ≡ bytes)
    → (x ≡ take n bytes) × (y ≡ drop n t)
cut First bytes t x y n plain front first end e more whole =
    let long = not_longer First bytes t x y n front e more whole first in
    let short = not_shorter First bytes t x y n plain front e (same_front First bytes t x y n front e more whole) end in
    let same : length x ≡ n = ⊎_elim (λ (l : length x < n). absurd (short l)) (λ (g : n ≤ length x). ⊎_elim (λ (l : n < length x). absurd (long l)) (λ (g' : length x ≤ n). omega arith) (cases_lt n (length x))) (cases_lt (length x) n) in
    exact First bytes t x y n front e more whole same

take_front : (n : ℕ) (bytes rest : List ℕ) → n ≤ length bytes → take n (take n bytes ++ rest) ≡ take n bytes
take_front n bytes rest l = take_at (take n bytes) rest n (length-take-le n bytes l)

-- where no token ends at the longest front of one, that is the bad place of the whole
pub bad_token : (First : List ℕ → Type 0) (Second : List ℕ → List ℕ → Type 0) (bytes : List ℕ) (n : ℕ)
    → ((z : List ℕ) → First z → NoBlank z) → ((x y : List ℕ) → Second x y → IsEndOrBlank y) → ((x : List ℕ) → First x → (y : List ℕ) × Second x y)
    → IsLongestFront First bytes n → (First (take n bytes) → ⊥) → IsBadPlace (Then First Second) bytes n
bad_token First Second bytes n plain ends second front none = record {
  front = record {
    within = front.within;
    goes_on = let more = second _ front.goes_on.1 in (front.goes_on.0 ++ more.0, (take n bytes ++ front.goes_on.0, more.0, front.goes_on.1, more.1, append_assoc (take n bytes) front.goes_on.0 more.0));
    no_more = λ l (rest, (x, y, first, after, e)).
        none (subst First (cut First bytes (take (n + 1) bytes ++ rest) x y n plain front first (ends x y after) e (λ _. take_front (n + 1) bytes rest (omega arith)) (λ same. absurd (omega arith))).0 first);
  };
  incomplete = λ same (x, y, first, after, e). none (subst First (cut First bytes bytes x y n plain front first (ends x y after) e (λ _. refl) (λ _. refl)).0 first);
}

-- after a whole token the bad place is that of what follows
pub bad_rest : (First : List ℕ → Type 0) (Second : List ℕ → List ℕ → Type 0) (bytes : List ℕ) (n m : ℕ)
    → ((z : List ℕ) → First z → NoBlank z) → ((x y : List ℕ) → Second x y → IsEndOrBlank y)
    → IsLongestFront First bytes n → First (take n bytes) → IsBadPlace (Second (take n bytes)) (drop n bytes) m
    → IsBadPlace (Then First Second) bytes (n + m)
bad_rest First Second bytes n m plain ends front first bad =
    let rest_len : length (drop n bytes) ≡ length bytes - n = length-drop n bytes in
    let within : n + m ≤ length bytes = omega (arith, bad.front.within, front.within) in
    record {
      front = record {
        within = within;
        goes_on = (
          bad.front.goes_on.0,
          (
            take n bytes,
            take m (drop n bytes) ++ bad.front.goes_on.0,
            first,
            bad.front.goes_on.1,
            sym (append_assoc (take n bytes) (take m (drop n bytes)) bad.front.goes_on.0) ∙ ap (λ z. z ++ bad.front.goes_on.0) (joined n m bytes),
          ),
        );
        no_more = λ l (rest, (x, y, first', after, e)).
            let t = take (n + m + 1) bytes ++ rest in
            let c = cut First bytes t x y n plain front first' (ends x y after) e
            (λ _. agrees (n + 1) (n + m + 1) bytes rest (omega arith) (omega arith)) (λ same. absurd (omega arith)) in
            let follows : y ≡ take (m + 1) (drop n bytes) ++ rest = c.1 ∙ dropped n (n + m + 1) (m + 1) bytes rest (omega arith) (omega arith) in
            bad.front.no_more (omega (arith, bad.front.within)) (rest, moved Second c.0 follows after);
      };
      incomplete = λ same (x, y, first', after, e).
          let c = cut First bytes bytes x y n plain front first' (ends x y after) e (λ _. refl) (λ _. refl) in
          bad.incomplete (omega (arith, bad.front.within)) (moved Second c.0 c.1 after);
    }

-- a byte before a member of a set

-- where the bytes don't begin with it, nothing goes on
pub after_missing : (c : ℕ) (Set : List ℕ → Type 0) (bytes : List ℕ) → (y : List ℕ) → Set y → (0 < length bytes → get_or bytes 0 0 ≢ c) → IsLongestFront (After c Set) bytes 0
after_missing c Set [] y member other = record {
  within = omega arith;
  goes_on = (c ∷ y, (y, member, refl));
  no_more = λ l. absurd (omega arith);
}
after_missing c Set (b ∷ bytes) y member other = record {
  within = omega arith;
  goes_on = (c ∷ y, (y, member, refl));
  no_more = λ l (rest, (z, m, e)). other (omega arith) (let same : b ≡ c = cc in same);
}

-- behind it the set goes on as far as it does by itself
pub after_front : (c : ℕ) (Set : List ℕ → Type 0) (bytes : List ℕ) (n : ℕ) → IsLongestFront Set bytes n → IsLongestFront (After c Set) (c ∷ bytes) (n + 1)
after_front c Set bytes n h = record {
  within = omega (arith, h.within);
  goes_on = rw add-one (h.goes_on.0, (take n bytes ++ h.goes_on.0, h.goes_on.1, refl));
  no_more = λ l b. h.no_more (omega arith) (inner (n + 1) bytes b);
}
  where
    inner : (k : ℕ) (bytes : List ℕ) → Begins (After c Set) (take (k + 1) (c ∷ bytes)) → Begins Set (take k bytes)
    inner k bytes (rest, (y, member, e)) = (rest, subst Set (tail_same k bytes rest y e) member)
      where
        tail_same : (k : ℕ) (bytes rest y : List ℕ) → c ∷ y ≡ take (k + 1) (c ∷ bytes) ++ rest → y ≡ take k bytes ++ rest
        tail_same k bytes rest y e = let f : c ∷ y ≡ c ∷ (take k bytes ++ rest) = e ∙ rw add-one refl in cc
