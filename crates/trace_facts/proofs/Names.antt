-- The names of a sound atlas: each is clean, short and one entity's.
use Rattle.std.proofs.Common.{◌≡◌, ℕ, zero, suc, ◌+◌, ◌-◌, ◌<◌, ◌≤◌, ◌==◌, Bool, true, false, ◌&&◌, ◌||◌, nat_lt, nat_le, if◌then◌else◌, IsTrue, List, [], ◌∷◌, length, Option, Some, None, slice_get, unwrap_or, decimal, refl, sym, ap, subst, ◌∙◌, arith}
use Rattle.std.specs.List.{list_all}
use Rattle.std.proofs.lemmas.Bool.{false≢true, leb-true}
use Rattle.std.proofs.lemmas.Fmt.{length-decimal-le}
use Rattle.std.proofs.lemmas.Option.{slice_get_within}
use Rattle.line_entry_laws.proofs.Splits.{Lacks, Lacks-decimal, Lacks-name}
use Rattle.trace_actor_laws.proofs.Spots.{InContainers, InLoci, Spot, Top, name_of_atlas, spot_of}
use Rattle.line_text.proofs.model_kernel_lemmas.Basics.{and_left, and_right}
use Rattle.line_text.specs.model_kernel.Outcomes.{made_name}
use Rattle.line_text.specs.model_kernel.Scripts.{atlas_name, text_eq}
use Rattle.line_text.specs.model_kernel.Soundness.{IsSoundAtlas, are_names_from, begins_with_letter, is_born, is_given_name, is_name_byte, is_name_of}
use Rattle.line_text.specs.model_kernel.State.{AtlasState, Text}
use Rattle.line_text.specs.Lines.{HasShortNames, name_in}
use Rattle.trace_actor_laws.proofs.model_sound_steps_lemmas.MadeNames.{same_text, text_same}
use Rattle.trace_actor_laws.proofs.model_sound_runs_lemmas.Found.{not_atlas}

-- A CLEAN NAME

pub record IsCleanName (t : Text) : Type 0 where
  pub blank : Lacks 32 t
  pub feed : Lacks 10 t
  pub some : t ≡ [] → ⊥
  pub other : t ≡ atlas_name → ⊥
  pub short : length t ≤ 24

abbrev first_of : Text → ℕ
first_of [] = 0
first_of (c ∷ cs) = c

given_clean : (t : Text) → is_given_name t ≡ true → IsCleanName t
given_clean t h =
    let front = begins_with_letter t && list_all is_name_byte t in
    let more = and_left (front && nat_le (length t) 24) _ h in
    let bytes : list_all is_name_byte t ≡ true = and_right (begins_with_letter t) (list_all is_name_byte t) (and_left front (nat_le (length t) 24) more) in
    let letter : begins_with_letter t ≡ true = and_left (begins_with_letter t) (list_all is_name_byte t) (and_left front (nat_le (length t) 24) more) in
    record {
      blank = Lacks-name 32 t refl bytes;
      feed = Lacks-name 10 t refl bytes;
      some = λ e. false≢true (ap begins_with_letter (sym e) ∙ letter);
      other = λ e. false≢true (sym (not_atlas t h) ∙ ap (λ (u : Text). text_eq u atlas_name) e ∙ same_text atlas_name);
      short = leb-true _ _ (and_right front (nat_le (length t) 24) more);
    }

made_clean : (n : ℕ) (t : Text) → n < 64 → t ≡ made_name n → IsCleanName t
made_clean n t few is = subst IsCleanName (sym is) (record {
  blank = ((λ (e : 35 ≡ 32). omega (arith, e)), Lacks-decimal 32 n (λ c digit e. omega (arith, digit.0, e)) (omega (arith, few)));
  feed = ((λ (e : 35 ≡ 10). omega (arith, e)), Lacks-decimal 10 n (λ c digit e. omega (arith, digit.0, e)) (omega (arith, few)));
  some = λ e. (let f : 35 ≡ 0 = ap first_of e in omega (arith, f));
  other = λ e. (let f : 35 ≡ 97 = ap first_of e in omega (arith, f));
  short = (let digits : length (decimal n) ≤ 2 = length-decimal-le 2 n (omega arith) (omega arith) (omega (arith, few)) in let more : length (made_name n) ≡ 1 + length (decimal n) = omega arith in omega (arith, digits, more));
})

name_clean : (n : ℕ) (t : Text) → n < 64 → is_name_of n t ≡ true → IsCleanName t
name_clean n t few h =
    elim (is_given_name t) as (λ b. is_given_name t ≡ b → (b || text_eq t (made_name n)) ≡ true → IsCleanName t) [
      | true ↦ λ is e. given_clean t is
      | false ↦ λ is e. made_clean n t few (text_same t (made_name n) e)
    ] refl h

listed_name : (n : ℕ) (names : List Text) (i k : ℕ) (t : Text) → k ≡ n + i → are_names_from n names ≡ true → slice_get names i ≡ Some t → is_name_of k t ≡ true
listed_name n [] i k t e h is = cc
listed_name n (x ∷ names) zero k t e h is =
    let same : x ≡ t = cc in
    let at : n ≡ k = omega (arith, e) in
    subst (λ (u : Text). is_name_of k u ≡ true) same (subst (λ m. is_name_of m x ≡ true) at (and_left (is_name_of n x) (are_names_from (n + 1) names) h))
listed_name n (x ∷ names) (suc i) k t e h is = listed_name (n + 1) names i k t (omega (arith, e)) (and_right (is_name_of n x) (are_names_from (n + 1) names) h) is

-- THE NAMES OF AN ATLAS

-- a name has no blank and no line feed, and some bytes
pub record IsWord (t : Text) : Type 0 where
  pub blank : Lacks 32 t
  pub feed : Lacks 10 t
  pub some : t ≡ [] → ⊥

module _ (a : AtlasState) (sound : IsSoundAtlas a) where
  container_clean : (i : ℕ) (t : Text) → i < 40 → slice_get a.containers i ≡ Some t → IsCleanName t
  container_clean i t low is = name_clean (i + 1) t (omega (arith, low)) (listed_name 1 a.containers i (i + 1) t (omega arith) sound.containers is)

  locus_clean : (i : ℕ) (t : Text) → i < 23 → slice_get a.loci i ≡ Some t → IsCleanName t
  locus_clean i t low is = name_clean (i + 41) t (omega (arith, low)) (listed_name 41 a.loci i (i + 41) t (omega arith) sound.loci is)

  pub word_of : (x : ℕ) → IsTrue (is_born a x) → IsWord (name_in a x)
  word_of x born = by_spot (spot_of a sound x born)
    where
      of_clean : IsCleanName (name_in a x) → IsWord (name_in a x)
      of_clean k = record { blank = k.blank; feed = k.feed; some = k.some }

      by_spot : Spot a x → IsWord (name_in a x)
      by_spot (Top e) = subst IsWord (sym (name_of_atlas a x e)) (record { blank = Lacks-name 32 atlas_name refl refl; feed = Lacks-name 10 atlas_name refl refl; some = λ e. (let f : 97 ≡ 0 = ap first_of e in omega (arith, f)) })
      by_spot (InContainers i at low is) = of_clean (container_clean i (name_in a x) low is)
      by_spot (InLoci i at low is) = of_clean (locus_clean i (name_in a x) low is)

  -- one entity for each name
  pub one_named : (x y : ℕ) → IsTrue (is_born a x) → IsTrue (is_born a y) → name_in a x ≡ name_in a y → x ≡ y
  one_named x y bx by same = by_spots (spot_of a sound x bx) (spot_of a sound y by)
    where
      by_spots : Spot a x → Spot a y → x ≡ y
      by_spots (Top e) (Top f) = e ∙ sym f
      by_spots (Top e) (InContainers j at low is) = absurd ((container_clean j (name_in a y) low is).other (sym same ∙ name_of_atlas a x e))
      by_spots (Top e) (InLoci j at low is) = absurd ((locus_clean j (name_in a y) low is).other (sym same ∙ name_of_atlas a x e))
      by_spots (InContainers i at low is) (Top f) = absurd ((container_clean i (name_in a x) low is).other (same ∙ name_of_atlas a y f))
      by_spots (InLoci i at low is) (Top f) = absurd ((locus_clean i (name_in a x) low is).other (same ∙ name_of_atlas a y f))
      by_spots (InContainers i at low is) (InContainers j at' low' is') = (let e = sound.different.containers i j (name_in a y) (is ∙ ap (λ (t : Text). Some t) same) is' in at ∙ ap (λ n. n + 1) e ∙ sym at')
      by_spots (InLoci i at low is) (InLoci j at' low' is') = (let e = sound.different.loci i j (name_in a y) (is ∙ ap (λ (t : Text). Some t) same) is' in at ∙ ap (λ n. n + 41) e ∙ sym at')
      by_spots (InContainers i at low is) (InLoci j at' low' is') = absurd (sound.different.both i j (name_in a y) (is ∙ ap (λ (t : Text). Some t) same) is')
      by_spots (InLoci i at low is) (InContainers j at' low' is') = absurd (sound.different.both j i (name_in a x) (is' ∙ ap (λ (t : Text). Some t) (sym same)) is)

  pub short_names : HasShortNames a
  unfolding name_in
  short_names x = by_tests (x == 0) (nat_lt x 41) refl refl
    where
      short_in : (o : Option Text) → ((t : Text) → o ≡ Some t → length t ≤ 24) → length (unwrap_or o []) ≤ 24
      short_in None h = omega arith
      short_in (Some t) h = h t refl

      by_tests : (z b : Bool) → (x == 0) ≡ z → nat_lt x 41 ≡ b → length (if z then atlas_name else if b then unwrap_or (slice_get a.containers (x - 1)) [] else unwrap_or (slice_get a.loci (x - 41)) []) ≤ 24
      by_tests true b ez eb = omega arith
      by_tests false true ez eb = short_in (slice_get a.containers (x - 1)) (λ t is. (container_clean (x - 1) t (let n = slice_get_within a.containers (x - 1) t is in let few = sound.few_containers in omega (arith, n, few)) is).short)
      by_tests false false ez eb = short_in (slice_get a.loci (x - 41)) (λ t is. (locus_clean (x - 41) t (let n = slice_get_within a.loci (x - 41) t is in let few = sound.few_loci in omega (arith, n, few)) is).short)
