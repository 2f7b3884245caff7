-- How often blocks are named, block by block.
use Rattle.std.proofs.Common.{◌≡◌, ◌≢◌, ℕ, ◌+◌, ◌-◌, ◌<◌, ◌≤◌, Bool, true, false, not, ◌&&◌, ◌==◌, if◌then◌else◌, inl, inr, List, [], ◌∷◌, ◌++◌, length, take, filter, set, get_or, refl, sym, ap, subst, ◌∙◌, arith, eq-eqb}
use Rattle.std.specs.Prelude.{All, slice_index}
use Rattle.std.proofs.lemmas.Bool.{cases_eq, le-leb}
use Rattle.std.proofs.lemmas.List.{append-nil, get_or-set_other, get_or-set_same, length-set, length-take-le}
use Rattle.std.proofs.lemmas.List.Sums.{count_by-le-length, count_by_more_no, count_by_more_yes, sum_by-take-le, sum_by_push}
use Rattle.std.proofs.lemmas.List.Elements.{filter_more}
use Rattle.std.proofs.lemmas.List.Filters.{sum_by-filter_both}
use Rattle.base_types.specs.declared.records.Rec.{Rec}
use Rattle.log_reading.proofs.image_facts_lemmas.Firsts.{ne_test}
use Rattle.data_blocks.specs.Ledger.{Ledger}
use Rattle.data_blocks.specs.declared.ShadowTable.{ShadowTable}
use Rattle.page_words.specs.store_books.Books.{Logged}
use Rattle.store_facts.specs.Naming.{HasNamed, IsPlace, IsRaised, is_below, is_use, times, uses, uses_in}
use Rattle.store_facts.specs.Shelves.{nothing_logged}
use Rattle.store_facts.proofs.Shelving.{lt-not-leb}

-- a block other than 0 is itself alone
pub use_same : (n m : ℕ) → m ≢ 0 → m ≡ n → is_use n m ≡ true
use_same n m some is = ap (λ (b : Bool). not b && (m == n)) (ne_test m 0 some) ∙ eq-eqb m n is

pub use_other : (n m : ℕ) → n ≢ m → is_use n m ≡ false
use_other n m apart = ap (λ (b : Bool). not (m == 0) && b) (ne_test m n (λ is. apart (sym is))) ∙ none (not (m == 0))
  where
    none : (b : Bool) → (b && false) ≡ false
    none true = refl
    none false = refl

pub use_zero : (n m : ℕ) → m ≡ 0 → is_use n m ≡ false
use_zero n m is = ap (λ (b : Bool). not b && (m == n)) (eq-eqb m 0 is)

-- 0 adds nothing
pub zero_more : (blocks : List ℕ) (i : ℕ) (old new : Ledger) → i < length blocks → slice_index blocks i ≡ 0 → HasNamed (take i blocks) old new → HasNamed (take (i + 1) blocks) old new
zero_more blocks i old new lt is h = record {
  same_first = h.same_first;
  same_end = h.same_end;
  same_held = h.same_held;
  same_all = h.same_all;
  same_size = h.same_size;
  counts = λ n. h.counts n ∙ ap (λ (k : ℕ). slice_index old.names n + k) (sym (count_by_more_no (is_use n) blocks i 0 lt (use_zero n (get_or blocks i 0) is)));
}

-- one block more is named
pub named_more : (blocks : List ℕ) (i : ℕ) (old mid new : Ledger) → i < length blocks → slice_index blocks i ≢ 0 → slice_index blocks i < length mid.names → HasNamed (take i blocks) old mid
    → new ≡ record mid { names = set mid.names (slice_index blocks i) (slice_index mid.names (slice_index blocks i) + 1) } → HasNamed (take (i + 1) blocks) old new
named_more blocks i old mid new lt some within h is = subst (λ (l : Ledger). HasNamed (take (i + 1) blocks) old l) (sym is) (record {
  same_first = h.same_first;
  same_end = h.same_end;
  same_held = h.same_held;
  same_all = h.same_all;
  same_size = length-set mid.names (slice_index blocks i) (slice_index mid.names (slice_index blocks i) + 1) ∙ h.same_size;
  counts = λ n. elim (cases_eq n (slice_index blocks i)) as (λ _. slice_index (set mid.names (slice_index blocks i) (slice_index mid.names (slice_index blocks i) + 1)) n ≡ slice_index old.names n + times n (take (i + 1) blocks)) [
    | inl same ↦
        let now : slice_index (set mid.names (slice_index blocks i) (slice_index mid.names (slice_index blocks i) + 1)) n ≡ slice_index mid.names n + 1 =
        ap (λ (k : ℕ). slice_index (set mid.names (slice_index blocks i) (slice_index mid.names (slice_index blocks i) + 1)) k) same
        ∙ (get_or-set_same mid.names (slice_index blocks i) (slice_index mid.names (slice_index blocks i) + 1) 0 within ∙ ap (λ (k : ℕ). slice_index mid.names k + 1) (sym same)) in
        let more = count_by_more_yes (is_use n) blocks i 0 lt (use_same n (get_or blocks i 0) some (sym same)) in
        let before = h.counts n in
        omega (arith, now, more, before)
    | inr apart ↦
        let now = get_or-set_other mid.names (slice_index blocks i) n (slice_index mid.names (slice_index blocks i) + 1) 0 apart in
        let more = count_by_more_no (is_use n) blocks i 0 lt (use_other n (get_or blocks i 0) apart) in
        let before = h.counts n in
        omega (arith, now, more, before)
  ];
})

-- one block more isn't named any more: the ledger that was has named these
pub unnamed_more : (blocks : List ℕ) (i : ℕ) (first mid new : Ledger) → i < length blocks → slice_index blocks i ≢ 0 → slice_index blocks i < length mid.names → 0 < slice_index mid.names (slice_index blocks i) → HasNamed (take i blocks) mid first
    → new ≡ record mid { names = set mid.names (slice_index blocks i) (slice_index mid.names (slice_index blocks i) - 1) } → HasNamed (take (i + 1) blocks) new first
unnamed_more blocks i first mid new lt some within above h is = subst (λ (l : Ledger). HasNamed (take (i + 1) blocks) l first) (sym is) (record {
  same_first = h.same_first;
  same_end = h.same_end;
  same_held = h.same_held;
  same_all = h.same_all;
  same_size = h.same_size ∙ sym (length-set mid.names (slice_index blocks i) (slice_index mid.names (slice_index blocks i) - 1));
  counts = λ n. elim (cases_eq n (slice_index blocks i)) as (λ _. slice_index first.names n ≡ slice_index (set mid.names (slice_index blocks i) (slice_index mid.names (slice_index blocks i) - 1)) n + times n (take (i + 1) blocks)) [
    | inl same ↦
        let now : slice_index (set mid.names (slice_index blocks i) (slice_index mid.names (slice_index blocks i) - 1)) n ≡ slice_index mid.names n - 1 =
        ap (λ (k : ℕ). slice_index (set mid.names (slice_index blocks i) (slice_index mid.names (slice_index blocks i) - 1)) k) same
        ∙ (get_or-set_same mid.names (slice_index blocks i) (slice_index mid.names (slice_index blocks i) - 1) 0 within ∙ ap (λ (k : ℕ). slice_index mid.names k - 1) (sym same)) in
        let some_there : 0 < slice_index mid.names n = subst (λ (k : ℕ). 0 < slice_index mid.names k) (sym same) above in
        let more = count_by_more_yes (is_use n) blocks i 0 lt (use_same n (get_or blocks i 0) some (sym same)) in
        let before = h.counts n in
        omega (arith, now, more, before, some_there)
    | inr apart ↦
        let now = get_or-set_other mid.names (slice_index blocks i) n (slice_index mid.names (slice_index blocks i) - 1) 0 apart in
        let more = count_by_more_no (is_use n) blocks i 0 lt (use_other n (get_or blocks i 0) apart) in
        let before = h.counts n in
        omega (arith, now, more, before)
  ];
})

-- the block is in the range
pub place_of : (blocks : List ℕ) (i : ℕ) (old new : Ledger) → All (IsPlace old.first old.end) blocks → HasNamed (take i blocks) old new → i < length blocks → slice_index blocks i ≢ 0 → (new.first ≤ slice_index blocks i) × (slice_index blocks i < new.end)
place_of blocks i old new places h lt some =
    let there = places i 0 lt some in
    let first = h.same_first in
    let end = h.same_end in
    (let low = there.0 in omega (arith, low, first), let high = there.1 in omega (arith, high, end))

pub unplace_of : (blocks : List ℕ) (i : ℕ) (old new : Ledger) → All (IsPlace old.first old.end) blocks → HasNamed (take i blocks) new old → i < length blocks → slice_index blocks i ≢ 0 → (new.first ≤ slice_index blocks i) × (slice_index blocks i < new.end)
unplace_of blocks i old new places h lt some =
    let there = places i 0 lt some in
    let first = h.same_first in
    let end = h.same_end in
    (let low = there.0 in omega (arith, low, first), let high = there.1 in omega (arith, high, end))

-- its count may grow
pub few_named : (blocks : List ℕ) (i : ℕ) (old new : Ledger) (most : ℕ) → ((n : ℕ) → slice_index old.names n + length blocks ≤ most) → HasNamed (take i blocks) old new → i < length blocks → slice_index blocks i ≢ 0 → slice_index new.names (slice_index blocks i) < most
few_named blocks i old new most few h lt some =
    let n : ℕ = slice_index blocks i in
    let now = h.counts n in
    let a = few n in
    let b = count_by-le-length (is_use n) (take i blocks) in
    let e = length-take-le i blocks (omega (arith, lt)) in
    omega (arith, now, a, b, e, lt)

-- it is still named
pub still_named : (blocks : List ℕ) (i : ℕ) (old new : Ledger) → ((n : ℕ) → times n blocks ≤ slice_index old.names n) → HasNamed (take i blocks) new old → i < length blocks → slice_index blocks i ≢ 0 → 0 < slice_index new.names (slice_index blocks i)
still_named blocks i old new named h lt some =
    let n : ℕ = slice_index blocks i in
    let now = h.counts n in
    let a = named n in
    let more = count_by_more_yes (is_use n) blocks i 0 lt (use_same n (get_or blocks i 0) some refl) in
    let all = sum_by-take-le (λ (m : ℕ). if is_use n m then 1 else 0) blocks (i + 1) in
    omega (arith, now, a, more, all)

-- RECORDS

pub raised_then : (f g h : ℕ → ℕ) (a b c : Ledger) → IsRaised f a b → IsRaised g b c → ((n : ℕ) → h n ≡ f n + g n) → IsRaised h a c
raised_then f g h a b c p q sum_is = record {
  same_first = q.same_first ∙ p.same_first;
  same_end = q.same_end ∙ p.same_end;
  same_held = q.same_held ∙ p.same_held;
  same_all = q.same_all ∙ p.same_all;
  same_size = q.same_size ∙ p.same_size;
  counts = λ n. (let one = p.counts n in let two = q.counts n in let all = sum_is n in omega (arith, one, two, all));
}

-- those of the first records that pass, with one more that passes or that doesn't
passed_more : (n : ℕ) (p : Logged → Bool) (ls : List Logged) (i : ℕ) → i < length ls → p (get_or ls i nothing_logged) ≡ true → uses n (filter p (take (i + 1) ls)) ≡ uses n (filter p (take i ls)) + uses_in n (get_or ls i nothing_logged)
passed_more n p ls i lt passes =
    ap (uses n) (filter_more p ls i nothing_logged lt ∙ ap (λ (b : Bool). filter p (take i ls) ++ (if b then get_or ls i nothing_logged ∷ [] else [])) passes)
    ∙ sum_by_push (uses_in n) (filter p (take i ls)) (get_or ls i nothing_logged)

failed_more : (n : ℕ) (p : Logged → Bool) (ls : List Logged) (i : ℕ) → i < length ls → p (get_or ls i nothing_logged) ≡ false → uses n (filter p (take (i + 1) ls)) ≡ uses n (filter p (take i ls))
failed_more n p ls i lt fails =
    ap (uses n) (filter_more p ls i nothing_logged lt ∙ ap (λ (b : Bool). filter p (take i ls) ++ (if b then get_or ls i nothing_logged ∷ [] else [])) fails ∙ append-nil (filter p (take i ls)))

-- those that pass name no more than all
uses_fewer : (n : ℕ) (p : Logged → Bool) (ls : List Logged) (i : ℕ) → uses n (filter p (take i ls)) ≤ uses n ls
uses_fewer n p ls i =
    let split = sum_by-filter_both p (λ l. not (p l)) (λ l. refl) (uses_in n) (take i ls) in
    let first = sum_by-take-le (uses_in n) ls i in
    omega (arith, split, first)

module _ (cut : ℕ → ℕ) (ls : List Logged) (i : ℕ) (lt : i < length ls) (r : Rec) (t : ShadowTable) (rec_is : r ≡ (get_or ls i nothing_logged).rec) (table_is : t.0 ≡ (get_or ls i nothing_logged).table) where
  same_logged : record { rec = r; table = t.0 } ≡ get_or ls i nothing_logged
  same_logged = ap (λ (q : Rec). record { rec = q; table = t.0 }) rec_is ∙ ap (λ (u : List ℕ). record { rec = (get_or ls i nothing_logged).rec; table = u }) table_is

  fallen : r.version < cut r.entity → is_below cut (get_or ls i nothing_logged) ≡ true
  fallen below = subst (λ (l : Logged). is_below cut l ≡ true) same_logged (ap not (lt-not-leb (cut r.entity) r.version below))

  pub below_named : (first now : Ledger) → ((n : ℕ) → uses n ls ≤ slice_index first.names n) → IsRaised (λ n. uses n (filter (is_below cut) (take i ls))) now first → r.version < cut r.entity → (n : ℕ) → uses_in n (record { rec = r; table = t.0 }) ≤ slice_index now.names n
  below_named first now named so_far below n =
      subst (λ (l : Logged). uses_in n l ≤ slice_index now.names n) (sym same_logged)
      (let a = named n in
      let b = so_far.counts n in
      let more = passed_more n (is_below cut) ls i lt (fallen below) in
      let all = uses_fewer n (is_below cut) ls (i + 1) in
      omega (arith, a, b, more, all))

  pub below_more : (first now new : Ledger) → IsRaised (λ n. uses n (filter (is_below cut) (take i ls))) now first → IsRaised (λ n. uses_in n (record { rec = r; table = t.0 })) new now → r.version < cut r.entity → IsRaised (λ n. uses n (filter (is_below cut) (take (i + 1) ls))) new first
  below_more first now new so_far one below =
      raised_then (λ n. uses_in n (record { rec = r; table = t.0 })) (λ n. uses n (filter (is_below cut) (take i ls))) (λ n. uses n (filter (is_below cut) (take (i + 1) ls))) new now first one so_far
      (λ n. let more = passed_more n (is_below cut) ls i lt (fallen below) in let same = ap (λ (l : Logged). uses_in n l) same_logged in omega (arith, more, same))

  pub above_more : (first now : Ledger) → IsRaised (λ n. uses n (filter (is_below cut) (take i ls))) now first → cut r.entity ≤ r.version → IsRaised (λ n. uses n (filter (is_below cut) (take (i + 1) ls))) now first
  above_more first now so_far above =
      let stays : is_below cut (get_or ls i nothing_logged) ≡ false = subst (λ (l : Logged). is_below cut l ≡ false) same_logged (ap not (le-leb (cut r.entity) r.version above)) in
      record {
        same_first = so_far.same_first;
        same_end = so_far.same_end;
        same_held = so_far.same_held;
        same_all = so_far.same_all;
        same_size = so_far.same_size;
        counts = λ n. so_far.counts n ∙ ap (λ (k : ℕ). slice_index now.names n + k) (sym (failed_more n (is_below cut) ls i lt stays));
      }
