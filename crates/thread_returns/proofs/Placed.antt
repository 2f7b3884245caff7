-- Passes that came back.
use Rattle.std.proofs.Common.{◌≡◌, ◌||◌, ℕ, Bool, false, true, true≢false, eq-eqb, eqb, List, [], ◌∷◌, length, arith, refl, sym, ap, ◌∙◌}
use Rattle.thread_board.specs.declared.views.PassItem.{PassItem}
use Rattle.thread_board.specs.Items.{AllOf, AreApart, Each, IsRising, IsWithin}
use Rattle.thread_board.specs.Sides.{PassSeen}
use Rattle.thread_board.proofs.Within.{each_map, passes_apart, rising_within}
use Rattle.thread_history.specs.Rules.{AllDiffer, is_among}
use Rattle.thread_returns.specs.Passes.{AreAllApart}

pub none_left : {A : Type 0} (xs : List A) → length xs ≡ 0 → xs ≡ []
none_left [] is = refl
none_left (x ∷ xs) is = absurd (omega (arith, is))

or_right : (a : Bool) → (a || true) ≡ true
or_right true = refl
or_right false = refl

module _ {T : Type 0} (starts ends : T → ℕ) (all : List (PassItem T)) where
  -- its items stand among all, and are of its number, which came back
  pub record IsBack (back : List ℕ) (p : PassSeen T) : Type 0 where
    pub within : IsWithin p.items all
    pub rising : IsRising starts ends p.items
    pub number : AllOf p.number p.items
    pub came : is_among p.number back ≡ true

  pub record AreBack (back : List ℕ) (ps : List (PassSeen T)) : Type 0 where
    pub each : Each (IsBack back) ps
    pub apart : AreAllApart starts ends ps

  pub none_back : (back : List ℕ) → AreBack back []
  none_back back = record { each = tt; apart = tt }

  still_back : (back : List ℕ) (n : ℕ) (q : PassSeen T) → IsBack back q → IsBack (n ∷ back) q
  still_back back n q is = record {
    within = is.within;
    rising = is.rising;
    number = is.number;
    came = ap (λ b. eqb n q.number || b) is.came ∙ or_right (eqb n q.number);
  }

  pub one_back : (back : List ℕ) (ps : List (PassSeen T)) (p : PassSeen T) → IsRising starts ends all → IsWithin p.items all → AllOf p.number p.items → AllDiffer (p.number ∷ back)
      → AreBack back ps → AreBack (p.number ∷ back) (p ∷ ps)
  one_back back ps p rising within number differ are = record {
    each = (
      record {
        within = within;
        rising = rising_within starts ends p.items all within rising;
        number = number;
        came = ap (λ b. b || is_among p.number back) (eq-eqb p.number p.number refl);
      },
      each_map (IsBack back) (IsBack (p.number ∷ back)) (still_back back p.number) ps are.each,
    );
    apart = (each_map (IsBack back) (λ (q : PassSeen T). AreApart starts ends p.items q.items) apart_from ps are.each, are.apart);
  }
    where
      apart_from : (q : PassSeen T) → IsBack back q → AreApart starts ends p.items q.items
      apart_from q is = passes_apart starts ends all p.items q.items p.number q.number rising within is.within number is.number
          (λ same. true≢false (sym is.came ∙ (sym (ap (λ m. is_among m back) same) ∙ differ.0)))

  pub each_back : (back : List ℕ) (ps : List (PassSeen T)) → AreBack back ps → Each (λ (p : PassSeen T). IsWithin p.items all × IsRising starts ends p.items) ps
  each_back back ps are = each_map (IsBack back) (λ (p : PassSeen T). IsWithin p.items all × IsRising starts ends p.items) (λ p is. (is.within, is.rising)) ps are.each
