-- The items of two passes.
use Rattle.std.proofs.Common.{true≢false, eq-eqb, ◌||◌, ◌≡◌, ◌≢◌, ◌⊎◌, ℕ, List, [], ◌∷◌, ◌++◌, refl, sym, ap, ◌∙◌, subst, ⊎_elim, inl, inr}
use mathlib.Core.List.{IsPrefix}
use Rattle.thread_board.specs.declared.views.PassItem.{PassItem}
use Rattle.thread_board.specs.Items.{Each, IsWithin, IsBefore, IsRising, AllOf, AreApart, ArePasses, AreRising}
use Rattle.thread_history.specs.Rules.{AllDiffer, is_among}

module _ {A : Type 0} where
  pub each_push : (P : A → Type 0) (xs : List A) (x : A) → Each P xs → P x → Each P (xs ++ x ∷ [])
  each_push P [] i a p = (p, tt)
  each_push P (x ∷ xs) i a p = (a.0, each_push P xs i a.1 p)

  pub each_map : (P Q : A → Type 0) → ((x : A) → P x → Q x) → (xs : List A) → Each P xs → Each Q xs
  each_map P Q f [] a = tt
  each_map P Q f (x ∷ xs) a = (f x a.0, each_map P Q f xs a.1)

  -- items more at the end of the second, and an item more at the end of both
  pub within_more : (xs ys zs : List A) → IsWithin xs ys → IsWithin xs (ys ++ zs)
  within_more [] ys zs h = tt
  within_more (x ∷ xs) [] zs h = absurd h
  within_more (x ∷ xs) (y ∷ ys) zs h = ⊎_elim (λ (k : (x ≡ y) × IsWithin xs ys). inl (k.0, within_more xs ys zs k.1)) (λ k. inr (within_more (x ∷ xs) ys zs k)) h

  pub within_begun : (xs ys zs : List A) → IsWithin xs ys → IsPrefix ys zs → IsWithin xs zs
  within_begun xs ys zs h p = subst (IsWithin xs) p.1 (within_more xs ys p.0 h)

  -- the same of lists that are told otherwise
  pub within_told : (xs known all ys zs : List A) → IsWithin xs known → IsPrefix known all → xs ≡ ys → all ≡ zs → IsWithin ys zs
  within_told xs known all ys zs h p e f = subst (λ l. IsWithin l zs) e (subst (IsWithin xs) f (within_begun xs known all h p))

  within_last : (i : A) (ys : List A) → IsWithin (i ∷ []) (ys ++ i ∷ [])
  within_last i [] = inl (refl, tt)
  within_last i (y ∷ ys) = inr (within_last i ys)

  pub within_push : (xs ys : List A) (i : A) → IsWithin xs ys → IsWithin (xs ++ i ∷ []) (ys ++ i ∷ [])
  within_push [] ys i h = within_last i ys
  within_push (x ∷ xs) [] i h = absurd h
  within_push (x ∷ xs) (y ∷ ys) i h = ⊎_elim (λ (k : (x ≡ y) × IsWithin xs ys). inl (k.0, within_push xs ys i k.1)) (λ k. inr (within_push (x ∷ xs) ys i k)) h

  each_within : (P : A → Type 0) (xs ys : List A) → IsWithin xs ys → Each P ys → Each P xs
  each_within P [] ys h a = tt
  each_within P (x ∷ xs) [] h a = absurd h
  each_within P (x ∷ xs) (y ∷ ys) h a = ⊎_elim (λ (k : (x ≡ y) × IsWithin xs ys). (subst P (sym k.0) a.0, each_within P xs ys k.1 a.1)) (λ k. each_within P (x ∷ xs) ys k a.1) h

module _ {T : Type 0} (starts ends : T → ℕ) where
  abbrev Before : PassItem T → PassItem T → Type 0
  Before = IsBefore starts ends

  pub rising_push : (xs : List (PassItem T)) (i : PassItem T) → IsRising starts ends xs → Each (λ x. Before x i) xs → IsRising starts ends (xs ++ i ∷ [])
  rising_push [] i r a = (tt, tt)
  rising_push (x ∷ xs) i r a = (each_push (Before x) xs i r.0 a.0, rising_push xs i r.1 a.1)

  pub rising_within : (xs ys : List (PassItem T)) → IsWithin xs ys → IsRising starts ends ys → IsRising starts ends xs
  rising_within [] ys h r = tt
  rising_within (x ∷ xs) [] h r = absurd h
  rising_within (x ∷ xs) (y ∷ ys) h r =
      ⊎_elim
      (λ (k : (x ≡ y) × IsWithin xs ys). (subst (λ z. Each (Before z) xs) (sym k.0) (each_within (Before y) xs ys k.1 r.0), rising_within xs ys k.1 r.1))
      (λ k. rising_within (x ∷ xs) ys k r.1)
      h

  -- two of these are one, or one ends before the other starts
  abbrev IsOneOrApart : PassItem T → PassItem T → Type 0
  IsOneOrApart x y = (x ≡ y) ⊎ (Before x y ⊎ Before y x)

  one_or_apart : (all : List (PassItem T)) → IsRising starts ends all → Each (λ x. Each (IsOneOrApart x) all) all
  one_or_apart [] r = tt
  one_or_apart (z ∷ all) r = (
    (inl refl, each_map (Before z) (IsOneOrApart z) (λ y b. inr (inl b)) all r.0),
    both all all r.0 (one_or_apart all r.1),
  )
    where
      both : (xs ys : List (PassItem T)) → Each (Before z) xs → Each (λ x. Each (IsOneOrApart x) ys) xs → Each (λ x. Each (IsOneOrApart x) (z ∷ ys)) xs
      both [] ys a b = tt
      both (x ∷ xs) ys a b = ((inr (inr a.0), b.0), both xs ys a.1 b.1)

  apart_items : (n m : ℕ) (xs ys : List (PassItem T)) → n ≢ m → AllOf n xs → AllOf m ys → Each (λ x. Each (IsOneOrApart x) ys) xs → AreApart starts ends xs ys
  apart_items n m [] ys ne a b h = tt
  apart_items n m (x ∷ xs) ys ne a b h = (one ys b h.0, apart_items n m xs ys ne a.1 b h.1)
    where
      one : (ys : List (PassItem T)) → AllOf m ys → Each (IsOneOrApart x) ys → Each (λ y. Before x y ⊎ Before y x) ys
      one [] c k = tt
      one (y ∷ ys) c k = (⊎_elim (λ (e : x ≡ y). absurd (ne (sym a.0 ∙ ap (λ (i : PassItem T). i.pass) e ∙ c.0))) (λ d. d) k.0, one ys c.1 k.1)

  pub passes_apart : ArePasses starts ends
  passes_apart all xs ys n m rising in_x in_y of_x of_y ne =
      let places = one_or_apart all rising in
      let left = each_within (λ x. Each (IsOneOrApart x) all) xs all in_x places in
      apart_items n m xs ys ne of_x of_y (each_map (λ x. Each (IsOneOrApart x) all) (λ x. Each (IsOneOrApart x) ys) (λ x a. each_within (IsOneOrApart x) ys all in_y a) xs left)

  pub all_rising : AreRising starts ends
  all_rising all xs rising within = rising_within xs all within rising

-- the first two of different numbers differ
pub first_differ : (n m : ℕ) (ns : List ℕ) → AllDiffer (n ∷ m ∷ ns) → n ≢ m
first_differ n m ns all e = absurd (true≢false (sym (ap (λ b. b || is_among n ns) (eq-eqb m n (sym e))) ∙ all.0))
