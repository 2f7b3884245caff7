-- One event counts the value that it prints, and keeps the atlas's names of the loci.
use Rattle.std.proofs.Common.{◌≡◌, ℕ, suc, ◌+◌, ◌≤◌, ◌<◌, ◌^◌, true, false, ◌&&◌, if◌then◌else◌, ◌==◌, nat_lt, List, length, Option, Some, None, option_map, refl, sym, ap, subst, ◌∙◌, arith, eqb-true, ◌⊎◌, inl, inr}
use Rattle.std.proofs.lemmas.Bool.Decides.{nat_tests}
use Rattle.base_types.specs.declared.histories.Answer.{Answer}
use Rattle.base_types.specs.declared.histories.Answer.TheVariants.{Quiet, Hop, Reply as Replied, Read, Print as Printed}
use Rattle.model_kernel.specs.State.{AtlasState, LocusState, Cell, NotBorn, AtlasCell, ContainerCell, LocusCell, KernelState}
use Rattle.model_kernel.specs.Changes.{Access, ordered, changed}
use Rattle.model_kernel.specs.Printing.{printed_in, is_print, NamesLoci}
use Rattle.model_kernel.proofs.Faithful.{tally, atlas_of, counted}
use Rattle.model_kernel.proofs.Writes.{cell_with, changed_cell}

-- the count of x after an event of `me`
abbrev pub counted_at : ℕ → Answer → ℕ → ℕ → ℕ
counted_at me answer x n = if me == x then counted answer n else n

-- x keeps its count but for what it prints, or is a locus that is born
abbrev pub IsTallied : AtlasState → AtlasState → ℕ → Answer → ℕ → Cell → Cell → Type 0
IsTallied a a' me answer x old new =
    (tally new ≡ option_map (counted_at me answer x) (tally old))
    ⊎ ((x ≡ length a.loci + 41) × (tally new ≡ Some 0) × (length a'.loci ≡ suc (length a.loci)) × (me ≡ x → is_print answer ≡ false))

-- what an event does to counts
pub record Counts (w : KernelState) (a : AtlasState) (me : ℕ) (answer : Answer) (accesses : List Access) : Type 0 where
  -- the atlas afterwards
  pub atlas : AtlasState
  pub there : cell_with accesses 0 (w 0).cell ≡ AtlasCell atlas
  pub grows : length a.loci ≤ length atlas.loci
  pub actor : is_print answer ≡ true → (n : ℕ) × (tally (w me).cell ≡ Some n)
  pub tallied : (x : ℕ) → IsTallied a atlas me answer x (w x).cell (cell_with accesses x (w x).cell)

-- CELLS

count_in : Option ℕ → ℕ
count_in None = 0
count_in (Some n) = n

printed_is : (c : Cell) → printed_in c ≡ count_in (tally c)
unfolding count_in
printed_is NotBorn = refl
printed_is (AtlasCell a) = refl
printed_is (ContainerCell c) = refl
printed_is (LocusCell l) = refl

-- a cell with a count is a locus
locus_of_tally : (c : Cell) (n : ℕ) → tally c ≡ Some n → (l : LocusState) × (c ≡ LocusCell l)
locus_of_tally NotBorn n e = cc
locus_of_tally (AtlasCell a) n e = cc
locus_of_tally (ContainerCell c) n e = cc
locus_of_tally (LocusCell l) n e = (l, refl)

-- a cell with an atlas is the atlas's
pub atlas_of_is : (c : Cell) (a : AtlasState) → atlas_of c ≡ Some a → c ≡ AtlasCell a
atlas_of_is NotBorn a e = cc
atlas_of_is (AtlasCell b) a e = cc
atlas_of_is (ContainerCell c) a e = cc
atlas_of_is (LocusCell l) a e = cc

-- a number that no locus has
pub not_named : (w : KernelState) (n : NamesLoci w) (x : ℕ) → ((40 < x) × (x ≤ 40 + length n.atlas.loci) → ⊥) → tally (w x).cell ≡ None
not_named w n x out = by_tally (tally (w x).cell) refl
  where
    by_tally : (o : Option ℕ) → tally (w x).cell ≡ o → o ≡ None
    by_tally None e = refl
    by_tally (Some k) e = (let l = locus_of_tally (w x).cell k e in absurd (out (n.named x l.0 l.1)))

-- AFTER AN EVENT

-- one more, up to 2^62
abbrev pub one_more : ℕ → ℕ
one_more n = if nat_lt n (2 ^ 62) then n + 1 else n

counted_is : (answer : Answer) (n : ℕ) → counted answer n ≡ (if is_print answer then one_more n else n)
counted_is Quiet n = refl
counted_is Hop n = refl
counted_is (Replied r) n = refl
counted_is (Read v) n = refl
counted_is (Printed v) n = refl

one_more_small : (m n : ℕ) → n ≤ m → (if nat_lt n m then n + 1 else n) ≤ m
one_more_small m n h = grind (arith, nat_tests)

module _ (w : KernelState) (names : NamesLoci w) (me : ℕ) (answer : Answer) (accesses : List Access) (c : Counts w names.atlas me answer accesses) where
  -- the count after the event
  printed_after : (x : ℕ) → printed_in (cell_with accesses x (w x).cell) ≡ (if me == x && is_print answer then one_more (printed_in (w x).cell) else printed_in (w x).cell)
  unfolding count_in
  printed_after x = printed_is (cell_with accesses x (w x).cell) ∙ by_case (c.tallied x)
    where
      old : ℕ
      old = printed_in (w x).cell

      -- by what it counted before
      by_old : (o : Option ℕ) → tally (w x).cell ≡ o → count_in (option_map (counted_at me answer x) o) ≡ (if me == x && is_print answer then one_more (count_in o) else count_in o)
      by_old (Some n) is = elim (me == x) as (λ b. (if b then counted answer n else n) ≡ (if b && is_print answer then one_more n else n)) [ true ↦ counted_is answer n | false ↦ refl ]
      by_old None is = elim (me == x) as (λ b. (me == x) ≡ b → 0 ≡ (if b && is_print answer then one_more 0 else 0)) [
        | true ↦ λ at. elim (is_print answer) as (λ p. is_print answer ≡ p → 0 ≡ (if p then one_more 0 else 0)) [
          | true ↦ λ print. (
              let k = c.actor print in
              let e : tally (w x).cell ≡ Some k.0 = ap (λ y. tally (w y).cell) (sym (eqb-true me x at)) ∙ k.1 in
              cc)
          | false ↦ λ print. refl
        ] refl
        | false ↦ λ at. refl
      ] refl

      by_case : IsTallied names.atlas c.atlas me answer x (w x).cell (cell_with accesses x (w x).cell) → count_in (tally (cell_with accesses x (w x).cell)) ≡ (if me == x && is_print answer then one_more (printed_in (w x).cell) else printed_in (w x).cell)
      by_case t = elim t as (λ _. count_in (tally (cell_with accesses x (w x).cell)) ≡ (if me == x && is_print answer then one_more (printed_in (w x).cell) else printed_in (w x).cell)) [
        | inl e ↦ ap count_in e ∙ by_old (tally (w x).cell) refl ∙ (λ i. if me == x && is_print answer then one_more (sym (printed_is (w x).cell) i) else sym (printed_is (w x).cell) i)
        | inr k ↦ (
            let none : tally (w x).cell ≡ None = not_named w names x (λ r. let at = k.0 in let high = r.1 in omega arith) in
            let zero_before : printed_in (w x).cell ≡ 0 = printed_is (w x).cell ∙ ap count_in none in
            let quiet : (me == x && is_print answer) ≡ false = elim (me == x) as (λ b. (me == x) ≡ b → (b && is_print answer) ≡ false) [ true ↦ λ at. k.3 (eqb-true _ _ at) | false ↦ λ at. refl ] refl in
            ap count_in k.1 ∙ sym zero_before ∙ (λ i. if sym quiet i then one_more (printed_in (w x).cell) else printed_in (w x).cell))
      ]

  named_after : (x : ℕ) (l : LocusState) → cell_with accesses x (w x).cell ≡ LocusCell l → (40 < x) × (x ≤ 40 + length c.atlas.loci)
  named_after x l is = elim (c.tallied x) as (λ _. (40 < x) × (x ≤ 40 + length c.atlas.loci)) [
    | inl e ↦ (
        let some : option_map (counted_at me answer x) (tally (w x).cell) ≡ Some l.printed = sym e ∙ ap tally is in
        let before = by_old (tally (w x).cell) refl some in
        let more = c.grows in
        let range = names.named x before.0 before.1 in
        let low = range.0 in
        let high = range.1 in
        (omega arith, omega arith))
    | inr k ↦ (let at = k.0 in let more = k.2 in (omega arith, omega arith))
  ]
    where
      by_old : (o : Option ℕ) → tally (w x).cell ≡ o → option_map (counted_at me answer x) o ≡ Some l.printed → (m : LocusState) × ((w x).cell ≡ LocusCell m)
      by_old None is e = cc
      by_old (Some n) is e = locus_of_tally (w x).cell n is

  -- the next state names its loci too
  pub names_after : NamesLoci (changed w (ordered accesses))
  names_after = record {
    atlas = c.atlas;
    there = changed_cell w accesses 0 ∙ c.there;
    named = λ x l is. named_after x l (sym (changed_cell w accesses x) ∙ is);
    small = λ x. (
        let now : printed_in (changed w (ordered accesses) x).cell ≡ (if me == x && is_print answer then one_more (printed_in (w x).cell) else printed_in (w x).cell) = ap printed_in (changed_cell w accesses x) ∙ printed_after x in
        let low = names.small x in
        let most : (if me == x && is_print answer then one_more (printed_in (w x).cell) else printed_in (w x).cell) ≤ 2 ^ 62 =
        (elim (me == x && is_print answer) as (λ b. (if b then one_more (printed_in (w x).cell) else printed_in (w x).cell) ≤ 2 ^ 62) [ true ↦ one_more_small (2 ^ 62) (printed_in (w x).cell) low | false ↦ low ]) in
        subst (λ n. n ≤ 2 ^ 62) (sym now) most);
  }

  -- the count in the next state
  pub printed_next : (x : ℕ) → printed_in (changed w (ordered accesses) x).cell ≡ (if me == x && is_print answer then one_more (printed_in (w x).cell) else printed_in (w x).cell)
  printed_next x = ap printed_in (changed_cell w accesses x) ∙ printed_after x
