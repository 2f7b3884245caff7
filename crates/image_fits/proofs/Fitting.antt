-- Blocks that are named once by the counts of all names are so page by page, and the other way round.
use Rattle.std.proofs.Common.{◌≡◌, ◌≢◌, ℕ, ◌+◌, ◌<◌, ◌≤◌, true, ◌&&◌, ◌||◌, ◌==◌, nat_le, nat_lt, List, Option, Some, None, length, get_or, refl, sym, ap, ◌∙◌, subst, ⊎_elim, arith}
use Rattle.std.specs.Prelude.{Contains, IfNone, IfSome, slice_get, slice_index}
use Rattle.std.specs.List.{list_all}
use Rattle.std.specs.Option.{ForSome}
use Rattle.std.proofs.lemmas.Bool.{cases_eq}
use Rattle.std.proofs.lemmas.Bool.Decides.{nat_tests}
use Rattle.std.proofs.lemmas.List.Sums.{AllPass-from_list_all, list_all-from_AllPass}
use Rattle.std.proofs.lemmas.Option.{get_or_from_slice_get, same_Some, slice_get-get_or, slice_get_within}
use Rattle.base_types.specs.declared.records.Rec.{Rec}
use Rattle.image_blocks.specs.image_facts.Bodies.{blob_blocks}
use Rattle.image_blocks.specs.image_facts.Layout.{pool_at}
use Rattle.image_fit_facts.specs.image_meaning.Fits.{AreNamedOnce, IsFit}
use Rattle.image_fit_facts.specs.image_meaning.Parts.{Part, chosen, table_in}
use Rattle.image_fits.specs.Chosen.{entity_at, part_in, part_of, parts_of, record_in, records_of}
use Rattle.image_fits.specs.Fits.{AreFit, AreFitBy, IsFirstUnfit, IsFirstUnfitBy, IsFitBy}
use Rattle.image_fit_facts.specs.Naming.{AreUses, block_passes, count_of}
use Rattle.image_fits.specs.Naming.{names_in, names_of}
use Rattle.image_fits.specs.declared.chosen.ChosenEntity.{ChosenEntity}
use Rattle.image_fits.proofs.Choices.{part_there}
use Rattle.image_fit_facts.proofs.Counting.{contained, counted, counted_once, twice, uncounted}
use Rattle.image_fits.proofs.Counting.{one_of, only_of, two_of}

-- TESTS

tested : (u n b : ℕ) → (b == 0 || nat_le pool_at b && nat_lt b n && nat_lt u 2) ≡ true → b ≢ 0 → (pool_at ≤ b) × (b < n) × (u < 2)
tested u n b e some = (grind (arith, nat_tests), grind (arith, nat_tests), grind (arith, nat_tests))

passes_by : (u n b : ℕ) → (b ≢ 0 → (pool_at ≤ b) × (b < n) × (u < 2)) → (b == 0 || nat_le pool_at b && nat_lt b n && nat_lt u 2) ≡ true
passes_by u n b good = ⊎_elim
    (λ (none : b ≡ 0). grind (arith, nat_tests))
    (λ (some : b ≡ 0 → ⊥). let g = good some in let low = g.0 in let high = g.1 in let few = g.2 in grind (arith, nat_tests))
    (cases_eq b 0)

-- WHO NAMES A BLOCK

abbrev NoBlob : ℕ → Option Rec → Type 0
NoBlob b o = ForSome o (λ r. Contains (blob_blocks r) b → ⊥)

abbrev NoTable : ℕ → Option Part → Type 0
NoTable b o = ForSome o (λ part. Contains (table_in part) b → ⊥)

no_record : (r : Rec) (o : Option Rec) → o ≡ None → o ≡ Some r → ⊥
no_record r o e f = cc

no_part : (p : Part) (o : Option Part) → o ≡ None → o ≡ Some p → ⊥
no_part p o e f = cc

no_blob : (b : ℕ) (e : ChosenEntity) → count_of (blob_blocks e.rec) b ≡ 0 → NoBlob b (Some e.rec)
no_blob b e none r is has =
    let some = contained (blob_blocks e.rec) b (subst (λ (q : Rec). Contains (blob_blocks q) b) (sym (same_Some e.rec r is)) has) in
    omega (arith, none, some)

no_table : (b : ℕ) (e : ChosenEntity) → count_of (table_in (part_of e.part)) b ≡ 0 → NoTable b (Some (part_of e.part))
no_table b e none p is has =
    let some = contained (table_in (part_of e.part)) b (subst (λ (q : Part). Contains (table_in q) b) (sym (same_Some (part_of e.part) p is)) has) in
    omega (arith, none, some)

unnamed : (b : ℕ) (o : Option ChosenEntity) → names_in b o ≡ 0 → NoBlob b (record_in o) × NoTable b (part_in o)
unnamed b None none = (λ r is has. no_record r None refl is, λ p is has. no_part p None refl is)
unnamed b (Some e) none = (no_blob b e (omega (arith, none)), no_table b e (omega (arith, none)))

named_by : (b : ℕ) (o : Option ChosenEntity) → NoBlob b (record_in o) → NoTable b (part_in o) → names_in b o ≡ 0
named_by b None blob table = refl
named_by b (Some e) blob table =
    let x = uncounted (blob_blocks e.rec) b (blob e.rec refl) in
    let y = uncounted (table_in (part_of e.part)) b (table (part_of e.part) refl) in
    omega (arith, x, y)

-- BY COUNTS AND PAGE BY PAGE

module _ (count : ℕ) (recs : List Rec) (es : List (Option ChosenEntity)) (uses : List ℕ) (long : length uses ≡ count) (all : AreUses uses (names_of es))
    (same : (x : ℕ) → chosen recs x ≡ records_of es x) where
  module _ (x : ℕ) (e : ChosenEntity) (at : entity_at es x ≡ Some e) where
    abbrev table : List ℕ
    table = table_in (part_of e.part)

    mine : (b : ℕ) → names_in b (entity_at es x) ≡ count_of table b + count_of (blob_blocks e.rec) b + count_of (blob_blocks e.rec) b
    mine b = ap (names_in b) at

    named_once : list_all (block_passes uses) table ≡ true → AreNamedOnce count recs (parts_of es) x table
    named_once passes page b here some =
        let lt = slice_get_within table page b here in
        let read = get_or_from_slice_get table page b 0 here in
        let pass : block_passes uses b ≡ true = subst (λ n. block_passes uses n ≡ true) read (AllPass-from_list_all (block_passes uses) table passes page 0 lt) in
        let good = tested (slice_index uses b) (length uses) b pass some in
        let low = good.0 in
        let within = good.1 in
        let few = good.2 in
        let is = all b within in
        let most : names_of es b ≤ 1 = omega (arith, few, is) in
        let own = mine b in
        let one = counted table page b here in
        let part = one_of (names_in b) refl es x in
        let blob : count_of (blob_blocks e.rec) b ≡ 0 = omega (arith, most, own, one, part) in
        record {
          pool = (low, omega (arith, within, long));
          once = λ q there. ⊎_elim
              (λ (equal : q ≡ page). equal)
              (λ (other : q ≡ page → ⊥). absurd (let two = twice table q page b there here other in omega (arith, most, own, two, part)))
              (cases_eq q page);
          blob = subst (NoBlob b) (sym (same x ∙ ap record_in at)) (no_blob b e blob);
          others = λ y apart.
              let both = two_of (names_in b) refl es x y (λ s. apart (sym s)) in
              let none : names_in b (entity_at es y) ≡ 0 = omega (arith, most, own, one, both) in
              let free = unnamed b (entity_at es y) none in
              record { by_blob = subst (NoBlob b) (sym (same y)) free.0; by_table = free.1 };
        }

    counts_once : AreNamedOnce count recs (parts_of es) x table → list_all (block_passes uses) table ≡ true
    counts_once named = list_all-from_AllPass (block_passes uses) table (λ k d lt. passes_by (slice_index uses (get_or table k d)) (length uses) (get_or table k d)
        (λ some. good k (get_or table k d) (slice_get-get_or table k d lt) some))
      where
        good : (k b : ℕ) → slice_get table k ≡ Some b → b ≢ 0 → (pool_at ≤ b) × (b < length uses) × (slice_index uses b < 2)
        good k b here some =
            let n = named k b here some in
            let low = n.pool.0 in
            let high = n.pool.1 in
            let within : b < length uses = omega (arith, high, long) in
            let is = all b within in
            let own = mine b in
            let page = counted_once table b (λ p q e f. n.once p e ∙ sym (n.once q f)) in
            let blob = uncounted (blob_blocks e.rec) b (subst (NoBlob b) (same x ∙ ap record_in at) n.blob e.rec refl) in
            let rest = only_of (names_in b) refl es x (λ y apart. named_by b (entity_at es y) (subst (NoBlob b) (same y) (n.others y apart).by_blob) (n.others y apart).by_table) in
            (low, within, omega (arith, is, own, page, blob, rest))

  to_fit : (x : ℕ) (part : Part) → parts_of es x ≡ Some part → IsFitBy uses es x part → IsFit count recs (parts_of es) x part
  to_fit x part is fit =
      let there = part_there (entity_at es x) part is in
      record {
        atlas = fit.atlas;
        chosen_atlas = fit.chosen_atlas;
        named = fit.named;
        tied = fit.tied;
        blocks = subst (λ (p : Part). AreNamedOnce count recs (parts_of es) x (table_in p)) there.2
            (named_once x there.0 there.1 (subst (λ (p : Part). list_all (block_passes uses) (table_in p) ≡ true) (sym there.2) fit.blocks));
      }

  from_fit : (x : ℕ) (part : Part) → parts_of es x ≡ Some part → IsFit count recs (parts_of es) x part → IsFitBy uses es x part
  from_fit x part is fit =
      let there = part_there (entity_at es x) part is in
      record {
        atlas = fit.atlas;
        chosen_atlas = fit.chosen_atlas;
        named = fit.named;
        tied = fit.tied;
        blocks = subst (λ (p : Part). list_all (block_passes uses) (table_in p) ≡ true) there.2
            (counts_once x there.0 there.1 (subst (λ (p : Part). AreNamedOnce count recs (parts_of es) x (table_in p)) (sym there.2) fit.blocks));
      }

  pub first_unfit_is : (o : Option ℕ) → IfSome o (IsFirstUnfitBy uses es) → IfSome o (IsFirstUnfit count recs (parts_of es))
  first_unfit_is None h = h
  first_unfit_is (Some x) h = record {
    part = h.part;
    is = h.is;
    before = λ y p less at. to_fit y p at (h.before y p less at);
    unfit = λ fit. h.unfit (from_fit x h.part h.is fit);
  }

  pub all_fit : (o : Option ℕ) → IfNone o (AreFitBy uses es) → IfNone o (AreFit count recs (parts_of es))
  all_fit None h = λ x part is. to_fit x part is (h x part is)
  all_fit (Some x) h = h
