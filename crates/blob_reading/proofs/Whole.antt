-- The first bad place of a whole blob, from where its reader stopped.
use Rattle.std.proofs.Common.{◌≡◌, ◌<◌, ℕ, zero, suc, ◌+◌, ◌-◌, ◌^◌, ◌==◌, true, false, List, [], ◌∷◌, ◌++◌, length, replicate, take, drop, refl, sym, ap, subst, ◌∙◌, arith, append_assoc, eqb-true}
use Rattle.std.proofs.lemmas.Bool.{false≢true}
use Rattle.std.proofs.lemmas.List.{append-nil, drop-replicate, length-append, take_at}
use Rattle.base_types.specs.declared.entities.Kind.{Kind}
use Rattle.base_types.specs.declared.entities.Kind.TheVariants.{Atlas, Container, Locus}
use Rattle.blob_grammar.specs.Forms.{IsSpelling}
use Rattle.blob_grammar.specs.Laws.{most_bytes}
use Rattle.blob_grammar.specs.Places.{Begins, GoesPast, IsBadPlace}
use Rattle.blob_grammar.proofs.KindSizes.{most}
use Rattle.blob_grammar.proofs.Placing.{past_bad}
use Rattle.blob_grammar.proofs.Values.{prefix_free}
use Rattle.blob_facts.specs.Fields.{IsRefused, IsStuck}
use Rattle.blob_reading.specs.Places.{IsBadBlob}
use Rattle.blob_reading.specs.declared.places.BadBlob.TheVariants.{Malformed, TooLong}

module _ (Spelled : List ℕ → Type 0) where
  place_of : (front behind : List ℕ) → IsStuck Spelled front behind → IsBadPlace Spelled (front ++ behind) (length front)
  place_of front [] stuck =
      let e = append-nil front in
      record {
        within = (let l = length-append front [] in omega (arith, l));
        begins = subst (Begins Spelled) (sym (take_at front [] (length front) refl)) stuck.begins;
        ends = λ lt. absurd (let l = length-append front [] in omega (arith, l, lt));
        cut_off = λ end whole. stuck.stops (front ++ []) [] [] whole (append-nil (front ++ [])) refl;
      }
  place_of front (b ∷ behind) stuck = record {
    within = (let l = length-append front (b ∷ behind) in omega (arith, l));
    begins = subst (Begins Spelled) (sym (take_at front (b ∷ behind) (length front) refl)) stuck.begins;
    ends = λ lt (rest, whole).
        let one : take (length front + 1) (front ++ b ∷ behind) ≡ front ++ b ∷ [] =
        ap (take (length front + 1)) (sym (append_assoc front (b ∷ []) behind)) ∙ take_at (front ++ b ∷ []) behind (length front + 1) (let l = length-append front (b ∷ []) in omega (arith, l)) in
        stuck.stops (take (length front + 1) (front ++ b ∷ behind) ++ rest) [] (b ∷ rest) whole
        (append-nil (take (length front + 1) (front ++ b ∷ behind) ++ rest) ∙ ap (λ (l : List ℕ). l ++ rest) one ∙ append_assoc front (b ∷ []) rest) (rest, refl);
    cut_off = λ end. absurd (let l = length-append front (b ∷ behind) in omega (arith, l, end));
  }

  -- what stands before the place is no whole spelling, if bytes follow it
  not_whole : (front behind : List ℕ) → IsStuck Spelled front behind → GoesPast Spelled (front ++ behind) (length front) → ⊥
  not_whole front [] stuck past = let l = length-append front [] in omega (arith, l, past.past)
  not_whole front (b ∷ behind) stuck past =
      stuck.stops front (b ∷ behind) (b ∷ behind) (subst Spelled (take_at front (b ∷ behind) (length front) refl) past.whole) refl (behind, refl)

  bad_place : (bytes behind : List ℕ) (place : ℕ) → IsRefused Spelled bytes behind → place ≡ length bytes - length behind → IsBadPlace Spelled bytes place
  bad_place bytes behind place r is =
      let l = length-append r.front behind in
      let e = ap length r.is in
      let at : length r.front ≡ place = omega (arith, l, e, is) in
      subst (λ n. IsBadPlace Spelled bytes n) at (subst (λ (l : List ℕ). IsBadPlace Spelled l (length r.front)) (sym r.is) (place_of r.front behind r.stuck))

  no_past : (bytes behind : List ℕ) (place : ℕ) → IsRefused Spelled bytes behind → place ≡ length bytes - length behind → GoesPast Spelled bytes place → ⊥
  no_past bytes behind place r is past =
      let l = length-append r.front behind in
      let e = ap length r.is in
      let at : length r.front ≡ place = omega (arith, l, e, is) in
      not_whole r.front behind r.stuck (subst (λ n. GoesPast Spelled (r.front ++ behind) n) (sym at) (subst (λ (l : List ℕ). GoesPast Spelled l place) r.is past))

-- what is told where a reader is stuck
pub malformed : (kind : Kind) (bytes behind : List ℕ) (place : ℕ) → IsRefused (IsSpelling kind) bytes behind → place ≡ length bytes - length behind → IsBadBlob kind bytes (Malformed place)
malformed kind bytes behind place r is = (bad_place (IsSpelling kind) bytes behind place r is, no_past (IsSpelling kind) bytes behind place r is)

small : (kind : Kind) → most_bytes kind < 2 ^ 32
small Atlas = omega arith
small Container = omega arith
small Locus = omega arith

pub near : (kind : Kind) (bytes behind : List ℕ) → IsRefused (IsSpelling kind) bytes behind → length bytes - length behind < 2 ^ 32
near kind bytes behind r =
    let on = r.stuck.begins in
    let most_is = most kind (r.front ++ on.0) on.1 in
    let few = small kind in
    let l = length-append r.front on.0 in
    let m = length-append r.front behind in
    let e = ap length r.is in
    omega (arith, most_is, few, l, m, e)

-- A WHOLE BLOB, and what is behind it
module _ (kind : Kind) (bytes front rest : List ℕ) (spelled : IsSpelling kind front) (is : bytes ≡ front ++ rest) where
  pub near_past : length bytes - length rest < 2 ^ 32
  near_past =
      let most_is = most kind front spelled in
      let few = small kind in
      let m = length-append front rest in
      let e = ap length is in
      omega (arith, most_is, few, m, e)

  goes_past : (place : ℕ) → (length rest ≡ 0 → ⊥) → place ≡ length bytes - length rest → GoesPast (IsSpelling kind) bytes place
  goes_past place some at_end =
      let m = length-append front rest in
      let e = ap length is in
      let at : length front ≡ place = omega (arith, m, e, at_end) in
      record {
        past = omega (arith, m, e, at, some);
        whole = subst (IsSpelling kind) (sym (take_at front rest place at) ∙ ap (take place) (sym is)) spelled;
      }

  pub too_long : (place : ℕ) → (length rest ≡ 0 → ⊥) → place ≡ length bytes - length rest → IsBadBlob kind bytes (TooLong place)
  too_long place some at_end =
      let past = goes_past place some at_end in
      (past_bad (IsSpelling kind) (prefix_free kind) bytes place past, past)

pub all : (Spelled : List ℕ → Type 0) (bytes front rest : List ℕ) → Spelled front → bytes ≡ front ++ rest → rest ≡ [] → Spelled bytes
all Spelled bytes front rest spelled is none =
    subst Spelled (sym (is ∙ ap (λ (l : List ℕ). front ++ l) none ∙ append-nil front)) spelled

-- TESTS for an empty rest
pub not_none : (n : ℕ) → false ≡ (n == 0) → n ≡ 0 → ⊥
not_none zero h e = false≢true h
not_none (suc n) h e = omega (arith, e)

pub none_left : (l : List ℕ) → true ≡ (length l == 0) → l ≡ []
none_left [] h = refl
none_left (x ∷ l) h = absurd (let e = eqb-true (length (x ∷ l)) 0 (sym h) in omega (arith, e))

abbrev zeros_of : ℕ → List ℕ
zeros_of n = replicate n 0

-- what was 0 and isn't written stays 0
pub still_zero : (pages : ℕ) (old new : List ℕ) → old ≡ replicate 256 0 → length new ≡ 256 → drop pages new ≡ drop pages old → drop pages new ≡ replicate (length new - pages) 0
still_zero pages old new zeros len same = same ∙ ap (λ (l : List ℕ). drop pages l) zeros ∙ drop-replicate pages 256 0 ∙ ap (λ n. zeros_of (n - pages)) (sym len)
