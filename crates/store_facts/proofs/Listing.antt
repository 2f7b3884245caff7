-- The ledger as records come and go.
use Rattle.std.proofs.Common.{ℕ, ◌+◌, ◌<◌, ◌≤◌, Bool, List, [], ◌∷◌, ◌++◌, length, filter, refl, sym, ap, subst, ◌∙◌, arith}
use Rattle.std.specs.Prelude.{All}
use Rattle.std.proofs.lemmas.List.{length-take}
use Rattle.std.proofs.lemmas.List.Elements.{All-filter, All-push}
use Rattle.std.proofs.lemmas.List.Filters.{sum_by-filter_both}
use Rattle.std.proofs.lemmas.List.Sums.{count_by-le-length, sum_by-le, sum_by_push}
use Rattle.log_reading.specs.image_facts.Bodies.{blob_blocks, blocks_for}
use Rattle.log_reading.specs.image_facts.Layout.{slot_count}
use Rattle.data_blocks.specs.Ledger.{Ledger}
use Rattle.page_words.specs.store_books.Books.{Logged}
use Rattle.store_facts.specs.Keeping.{AreListed, HasRecounted}
use Rattle.store_facts.specs.Naming.{IsPlaced, IsRaised, is_below, is_use, uses, uses_in}
use Rattle.store_facts.specs.Shelves.{is_from}

pub recounted : (more : ℕ → ℕ) (old new : Ledger) → IsRaised more old new → HasRecounted old new
recounted more old new r = record {
  only = ap (λ (n : ℕ). record new { first = n }) r.same_first ∙ (ap (λ (n : ℕ). record new { first = old.first; end = n }) r.same_end ∙ (ap (λ (h : List Bool). record new { first = old.first; end = old.end; held = h }) r.same_held ∙ ap (λ (b : Bool). record new { first = old.first; end = old.end; held = old.held; all_named = b }) r.same_all));
  same_size = r.same_size;
}

pub recounted_back : (more : ℕ → ℕ) (old new : Ledger) → IsRaised more new old → HasRecounted old new
recounted_back more old new r = record {
  only = ap (λ (n : ℕ). record new { first = n }) (sym r.same_first) ∙ (ap (λ (n : ℕ). record new { first = old.first; end = n }) (sym r.same_end) ∙ (ap (λ (h : List Bool). record new { first = old.first; end = old.end; held = h }) (sym r.same_held) ∙ ap (λ (b : Bool). record new { first = old.first; end = old.end; held = old.held; all_named = b }) (sym r.same_all)));
  same_size = sym r.same_size;
}

-- a record names at most 264 blocks
pub few_blocks : (len : ℕ) → len ≤ 8192 → blocks_for len ≤ 8
few_blocks len le = grind (arith, le)

pub few_in : (first end n : ℕ) (l : Logged) → IsPlaced first end l → uses_in n l ≤ 264
few_in first end n l p =
    let blob = count_by-le-length (is_use n) (blob_blocks l.rec) in
    let table = count_by-le-length (is_use n) l.table in
    let len = length-take (blocks_for l.rec.length) l.rec.blocks in
    let few = few_blocks l.rec.length p.length_is in
    let pages = p.pages in
    omega (arith, blob, table, len, few, pages)

pub few_uses : (first end n : ℕ) (ls : List Logged) → All (IsPlaced first end) ls → length ls < slot_count → uses n ls + 264 ≤ 170000
few_uses first end n ls placed few =
    let all = sum_by-le (uses_in n) 264 ls (λ i d lt. few_in first end n _ (placed i d lt)) in
    omega (arith, all, few)

pub listed_more : (ledger new : Ledger) (kept : List Logged) (l : Logged) → AreListed ledger kept → IsPlaced ledger.first ledger.end l → IsRaised (λ n. uses_in n l) ledger new → AreListed new (kept ++ l ∷ [])
listed_more ledger new kept l a placed r = record {
  placed = subst (λ (n : ℕ). All (IsPlaced n new.end) (kept ++ l ∷ [])) (sym r.same_first) (subst (λ (n : ℕ). All (IsPlaced ledger.first n) (kept ++ l ∷ [])) (sym r.same_end) (All-push (IsPlaced ledger.first ledger.end) kept l a.placed placed));
  counted = λ n. (let now = r.counts n in let was = a.counted n in let more = sum_by_push (uses_in n) kept l in omega (arith, now, was, more));
}

pub listed_fewer : (ledger new : Ledger) (kept : List Logged) (cut : ℕ → ℕ) → AreListed ledger kept → IsRaised (λ n. uses n (filter (is_below cut) kept)) new ledger → AreListed new (filter (is_from cut) kept)
listed_fewer ledger new kept cut a r = record {
  placed = subst (λ (n : ℕ). All (IsPlaced n new.end) (filter (is_from cut) kept)) r.same_first (subst (λ (n : ℕ). All (IsPlaced ledger.first n) (filter (is_from cut) kept)) r.same_end (All-filter (is_from cut) (IsPlaced ledger.first ledger.end) kept a.placed));
  counted = λ n. (let now = r.counts n in let was = a.counted n in let both = sum_by-filter_both (is_from cut) (is_below cut) (λ l. refl) (uses_in n) kept in omega (arith, now, was, both));
}

pub recounted_then : (a b c : Ledger) → HasRecounted a b → HasRecounted b c → HasRecounted a c
recounted_then a b c p q = record { only = q.only ∙ ap (λ (l : Ledger). record l { names = c.names }) p.only; same_size = q.same_size ∙ p.same_size }
