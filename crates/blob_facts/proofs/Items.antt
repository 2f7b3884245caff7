-- Lists of items, where what an item may be rests on those before it and on how many follow.
use Rattle.std.proofs.Common.{◌≡◌, ℕ, zero, suc, List, [], ◌∷◌, ◌++◌, refl, sym, ap, subst, ◌∙◌, append_assoc}
use Rattle.std.proofs.lemmas.List.{append-nil}
use Rattle.blob_facts.specs.Fields.{IsFound, IsRefused, Items, Spells, Then}
use Rattle.blob_facts.proofs.Sequences.{TellsApart, refused_as, refused_here, refused_later}

module _ {S A : Type 0} (Item : S → ℕ → A → List ℕ → Type 0) (next : S → A → S) where
  -- the first of them, and those behind it
  apart_by : (n : ℕ) (s : S) (vs : List A) (y : List ℕ) → Items Item next (suc n) s vs y → Then (Item s n) (λ v. Spells (Items Item next n (next s v))) y
  apart_by n s [] y h = absurd h
  apart_by n s (v ∷ vs) y h = record { value = v; front = h.0; behind = h.1; spelled = h.2; followed = record { value = vs; spelled = h.3 }; is = h.4 }

  pub first_apart : (n : ℕ) (s : S) (y : List ℕ) → Spells (Items Item next (suc n) s) y → Then (Item s n) (λ v. Spells (Items Item next n (next s v))) y
  first_apart n s y h = apart_by n s h.value y h.spelled

  pub together : (n : ℕ) (s : S) (y : List ℕ) → Then (Item s n) (λ v. Spells (Items Item next n (next s v))) y → Spells (Items Item next (suc n) s) y
  together n s y t = record { value = t.value ∷ t.followed.value; spelled = (t.front, t.behind, t.spelled, t.followed.spelled, t.is) }

  -- A READER OF ITEMS that has read these, with so many left, from this state on
  pub record HasRead (count : ℕ) (start : S) (bytes : List ℕ) (vs : List A) (left : ℕ) (s : S) (rest : List ℕ) : Type 0 where
    pub refused : (behind : List ℕ) → IsRefused (Spells (Items Item next left s)) rest behind → IsRefused (Spells (Items Item next count start)) bytes behind
    pub found : (ws : List A) (behind : List ℕ) → IsFound (Items Item next left s) rest ws behind → IsFound (Items Item next count start) bytes (vs ++ ws) behind

  pub none_yet : (count : ℕ) (start : S) (bytes : List ℕ) → HasRead count start bytes [] count start bytes
  none_yet count start bytes = record { refused = λ behind r. r; found = λ ws behind f. f }

  found_first : (n : ℕ) (s : S) (v : A) (ws : List A) (bytes rest behind : List ℕ) → IsFound (Item s n) bytes v rest → IsFound (Items Item next n (next s v)) rest ws behind
      → IsFound (Items Item next (suc n) s) bytes (v ∷ ws) behind
  found_first n s v ws bytes rest behind f g = record {
    front = f.front ++ g.front;
    spelled = (f.front, g.front, f.spelled, g.spelled, refl);
    is = f.is ∙ ap (λ (l : List ℕ). f.front ++ l) g.is ∙ sym (append_assoc f.front g.front behind);
  }

  -- one more is read
  pub one_more : (count : ℕ) (start : S) (bytes : List ℕ) (vs : List A) (n : ℕ) (s : S) (rest : List ℕ) (v : A) (behind : List ℕ)
      → TellsApart (Item s n) → HasRead count start bytes vs (suc n) s rest → IsFound (Item s n) rest v behind
      → HasRead count start bytes (vs ++ v ∷ []) n (next s v) behind
  one_more count start bytes vs n s rest v behind tells so_far f = record {
    refused = λ end r. so_far.refused end (refused_as (together n s) (first_apart n s) (refused_later tells f r));
    found = λ ws end g.
        subst (λ (l : List A). IsFound (Items Item next count start) bytes l end) (sym (append_assoc vs (v ∷ []) ws))
        (so_far.found (v ∷ ws) end (found_first n s v ws rest behind end f g));
  }

  -- the next one is refused
  pub one_refused : (count : ℕ) (start : S) (bytes : List ℕ) (vs : List A) (n : ℕ) (s : S) (rest behind : List ℕ)
      → ((v : A) (a : List ℕ) → Item s n v a → (b : List ℕ) × Spells (Items Item next n (next s v)) b) → HasRead count start bytes vs (suc n) s rest
      → IsRefused (Spells (Item s n)) rest behind → IsRefused (Spells (Items Item next count start)) bytes behind
  one_refused count start bytes vs n s rest behind followed so_far r =
      so_far.refused behind (refused_as (together n s) (first_apart n s) (refused_here followed r))

  -- all are read
  pub all_read : (count : ℕ) (start : S) (bytes : List ℕ) (vs : List A) (s : S) (rest : List ℕ) → HasRead count start bytes vs zero s rest → IsFound (Items Item next count start) bytes vs rest
  all_read count start bytes vs s rest so_far =
      subst (λ (l : List A). IsFound (Items Item next count start) bytes l rest) (append-nil vs) (so_far.found [] rest (record { front = []; spelled = (refl, refl); is = refl }))

-- LISTS TELL what they are, where each item does
pub items_tell : {S A : Type 0} (Item : S → ℕ → A → List ℕ → Type 0) (next : S → A → S) → ((s : S) (n : ℕ) → TellsApart (Item s n)) → (n : ℕ) (s : S) → TellsApart (Items Item next n s)
items_tell {S = S} {A = A} Item next tells n s = record { told = λ vs ws a b x y f g same. both n s vs ws a b x y f g same }
  where
    both : (n : ℕ) (s : S) (vs ws : List A) (a b x y : List ℕ) → Items Item next n s vs a → Items Item next n s ws b → a ++ x ≡ b ++ y → (vs ≡ ws) × (x ≡ y)
    both zero s vs ws a b x y f g same = (f.0 ∙ sym g.0, sym (ap (λ (l : List ℕ). l ++ x) f.1) ∙ same ∙ ap (λ (l : List ℕ). l ++ y) g.1)
    both (suc n) s [] ws a b x y f g same = absurd f
    both (suc n) s (v ∷ vs) [] a b x y f g same = absurd g
    both (suc n) s (v ∷ vs) (w ∷ ws) a b x y f g same =
        let first = (tells s n).told v w f.0 g.0 (f.1 ++ x) (g.1 ++ y) f.2 g.2
        (sym (append_assoc f.0 f.1 x) ∙ ap (λ (l : List ℕ). l ++ x) (sym f.4) ∙ same ∙ ap (λ (l : List ℕ). l ++ y) g.4 ∙ append_assoc g.0 g.1 y) in
        let more = both n (next s w) vs ws f.1 g.1 x y (subst (λ u. Items Item next n (next s u) vs f.1) first.0 f.3) g.3 first.1 in
        (λ i. first.0 i ∷ more.0 i, more.1)
