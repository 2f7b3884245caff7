-- The pages of a table, and the table of a container that was read.
use Rattle.std.proofs.Common.{◌≡◌, ◌≢◌, ℕ, zero, suc, Bool, true, false, ◌==◌, if◌then◌else◌, List, [], ◌∷◌, ◌++◌, drop, replicate, take, refl, sym, ap, ◌∙◌, eq-eqb}
use Rattle.std.specs.Prelude.{slice_index}
use Rattle.base_types.specs.declared.entities.Kind.TheVariants.{Container}
use Rattle.image_meaning.proofs.Ones.{plain, plain_one}
use Rattle.kernel_record_facts.specs.blob_grammar.Forms.{SpellsContainer}
use Rattle.kernel_record_facts.specs.image_meaning.Parts.{AtlasPart, ContainerPart, LocusPart, Part, Spells, kind_in, table_in}
use Rattle.kernel_record_facts.specs.kernel_invariant.model_kernel.State.{ContainerState}
use Rattle.node_pages.specs.Reading.{page_in, pages_to}
use Rattle.page_placing.specs.declared.writing.PageWords.{PageWords}

abbrev one_page : ℕ → List ℕ → List PageWords
one_page page ws = record { page = page; words = ws } ∷ []

module _ (words : ℕ → List ℕ) where
  -- tables with the same places have the same pages
  pub pages_same : (one two : List ℕ) → ((p : ℕ) → slice_index one p ≡ slice_index two p) → (n : ℕ) → pages_to words one n ≡ pages_to words two n
  unfolding pages_to
  pages_same one two same zero = refl
  pages_same one two same (suc n) = ap (λ (ps : List PageWords). ps ++ page_in words n (slice_index one n)) (pages_same one two same n) ∙ ap (λ (b : ℕ). pages_to words two n ++ page_in words n b) (same n)

  pub pages_next : (table : List ℕ) (n : ℕ) → pages_to words table n ++ page_in words n (slice_index table n) ≡ pages_to words table (suc n)
  unfolding pages_to
  pages_next table n = refl

  -- a page is the same where its block has the same words
  pub page_same : (others : ℕ → List ℕ) (page block : ℕ) → (block ≢ 0 → others block ≡ words block) → page_in others page block ≡ page_in words page block
  page_same others page block same = by_test (block == 0) refl
    where
      by_test : (t : Bool) → (block == 0) ≡ t → (if t then [] else one_page page (others block)) ≡ (if t then [] else one_page page (words block))
      by_test true e = refl
      by_test false e = ap (one_page page) (same (λ none. absurd (let clash : false ≡ true = sym e ∙ eq-eqb block 0 none in cc clash)))

  pub pages_none : (table : List ℕ) → [] ≡ pages_to words table 0
  unfolding pages_to
  pages_none table = refl

-- THE TABLE of a container that was read, whatever stands past its size

none_named : (n k : ℕ) → slice_index (replicate n 0) k ≡ 0
none_named zero k = refl
none_named (suc n) zero = refl
none_named (suc n) (suc k) = none_named n k

pub front_same : (xs : List ℕ) (n m p : ℕ) → drop n xs ≡ replicate m 0 → slice_index (take n xs) p ≡ slice_index xs p
front_same xs zero m p past = sym (ap (λ (ys : List ℕ). slice_index ys p) past ∙ none_named m p)
front_same [] (suc n) m p past = refl
front_same (x ∷ xs) (suc n) m zero past = refl
front_same (x ∷ xs) (suc n) m (suc p) past = front_same xs n m p past

plain_table : (p : Part) → table_in (plain p) ≡ table_in p
plain_table (AtlasPart a) = refl
plain_table (ContainerPart c table) = refl
plain_table (LocusPart l) = refl

pub container_table : (c : ContainerState) (table bytes : List ℕ) (p : Part) → Container ≡ kind_in p → SpellsContainer c table bytes → Spells p bytes → table ≡ table_in p
container_table c table bytes p kind one other = ap table_in (plain_one 0 (ContainerPart c table) p bytes kind one other) ∙ plain_table p

pub no_table : (p : Part) → (kind_in p ≡ Container → ⊥) → (n page : ℕ) → slice_index (replicate n 0) page ≡ slice_index (table_in p) page
no_table (AtlasPart a) other n page = none_named n page
no_table (ContainerPart c table) other n page = absurd (other refl)
no_table (LocusPart l) other n page = none_named n page
