-- Marks of blocks that are taken one by one, and given back.
use Rattle.std.proofs.Common.{◌≡◌, ◌≢◌, ℕ, ◌+◌, ◌<◌, ◌≤◌, ◌⊎◌, inl, inr, Bool, true, false, ◌||◌, List, length, set, get_or, refl, sym, ap, subst, ◌∙◌, arith}
use Rattle.std.specs.Prelude.{slice_index, IfOk, OnOk, Result, Ok}
use Rattle.std.proofs.lemmas.Bool.{cases_lt}
use Rattle.std.proofs.lemmas.List.{get_or-set_other, get_or-set_same, length-set}
use Rattle.data_blocks.specs.Ledger.{Ledger, is_held, is_named}
use Rattle.store_facts.specs.Taking.{HasReleased, HasTaken}

-- the last one of the first i, or one before it
last_or : (i k : ℕ) → k < i + 1 → (k ≡ i) ⊎ (k < i)
last_or i k lt = elim (cases_lt k i) as (λ _. (k ≡ i) ⊎ (k < i)) [
  | inl below ↦ inr below
  | inr past ↦ inl (omega (arith, lt, past))
]

unheld : (held named : Bool) → (held || named) ≡ false → held ≡ false
unheld true named e = absurd (let clash : true ≡ false = e in cc clash)
unheld false named e = refl

module _ (i : ℕ) (old mid : Ledger) (blocks : List ℕ) (t : HasTaken i old mid blocks) (block : ℕ) (within : i < length blocks) (marked : length old.held ≡ old.end) (low : mid.first ≤ block) (high : block < mid.end)
    (unused : (is_held mid block || is_named mid block) ≡ false) where
  abbrev new : Ledger
  new = record mid { held = set mid.held block true }

  abbrev more : List ℕ
  more = set blocks i block

  -- it is none of those that were taken
  apart : (k : ℕ) → k < i → block ≢ slice_index blocks k
  apart k lt same = let clash : true ≡ false = sym (t.held k lt) ∙ (ap (is_held mid) (sym same) ∙ unheld (is_held mid block) (is_named mid block) unused) in cc clash

  here : slice_index more i ≡ block
  here = get_or-set_same blocks i block 0 within

  before : (k : ℕ) → k < i → slice_index more k ≡ slice_index blocks k
  before k lt = get_or-set_other blocks i k block 0 (λ same. omega (arith, same, lt))

  -- what holds of each that was taken before and of this one
  each : (P : ℕ → Type 0) → P block → ((k : ℕ) → k < i → P (slice_index blocks k)) → (k : ℕ) → k < i + 1 → P (slice_index more k)
  each P one rest k lt = elim (last_or i k lt) as (λ _. P (slice_index more k)) [
    | inl last ↦ subst (λ (j : ℕ). P (slice_index more j)) (sym last) (subst P (sym here) one)
    | inr below ↦ subst P (sym (before k below)) (rest k below)
  ]

  unused_before : (is_held old block || is_named old block) ≡ false
  unused_before =
      let same : is_held mid block ≡ is_held old block = t.others block apart in
      let named : is_named mid block ≡ is_named old block = ap (λ (l : Ledger). is_named l block) t.only in
      sym (ap (λ (b : Bool). b || is_named mid block) same ∙ ap (λ (b : Bool). is_held old block || b) named) ∙ unused

  pub taken_more : HasTaken (i + 1) old new more
  taken_more =
      let first : mid.first ≡ old.first = ap (λ (l : Ledger). l.first) t.only in
      let end : mid.end ≡ old.end = ap (λ (l : Ledger). l.end) t.only in
      let size = t.same_size in
      let inside : block < length mid.held = omega (arith, high, end, size, marked) in
      record {
        only = ap (λ (l : Ledger). record l { held = set mid.held block true }) t.only;
        same_size = length-set mid.held block true ∙ t.same_size;
        unused = each (λ n. (is_held old n || is_named old n) ≡ false) unused_before t.unused;
        range = each (λ n. (old.first ≤ n) × (n < old.end)) (omega (arith, low, first), omega (arith, high, end)) t.range;
        different = λ k j lt less. elim (last_or i k lt) as (λ _. slice_index more j ≢ slice_index more k) [
          | inl last ↦ (λ same. apart j (omega (arith, less, last)) (sym here ∙ (ap (slice_index more) (sym last) ∙ (sym same ∙ before j (omega (arith, less, last))))))
          | inr below ↦ (λ same. t.different k j below less (sym (before j (omega (arith, less, below))) ∙ (same ∙ before k below)))
        ];
        behind = λ k past. get_or-set_other blocks i k block 0 (λ same. omega (arith, same, past)) ∙ t.behind k (omega (arith, past));
        held = each (λ n. is_held new n ≡ true) (get_or-set_same mid.held block true false inside) (λ k lt. get_or-set_other mid.held block (slice_index blocks k) true false (λ same. apart k lt (sym same)) ∙ t.held k lt);
        others = λ n out.
            get_or-set_other mid.held block n true false (λ same. out i (omega arith) (same ∙ sym here))
            ∙ t.others n (λ k lt same. out k (omega (arith, lt)) (same ∙ sym (before k lt)));
      }

-- one that is given back
module _ (i : ℕ) (old mid : Ledger) (blocks : List ℕ) (r : HasReleased i old mid blocks) (marked : length old.held ≡ old.end) (low : old.first ≤ slice_index blocks i) (high : slice_index blocks i < old.end)
    (different : (k : ℕ) → k < i → slice_index blocks k ≢ slice_index blocks i) (held : is_held old (slice_index blocks i) ≡ true) where
  pub still_held : is_held mid (slice_index blocks i) ≡ true
  still_held = r.others (slice_index blocks i) (λ k lt same. different k lt (sym same)) ∙ held

  pub still_range : (mid.first ≤ slice_index blocks i) × (slice_index blocks i < mid.end)
  still_range =
      let first : mid.first ≡ old.first = ap (λ (l : Ledger). l.first) r.only in
      let end : mid.end ≡ old.end = ap (λ (l : Ledger). l.end) r.only in
      (omega (arith, low, first), omega (arith, high, end))

  pub released_more : (new : Ledger) → new ≡ record mid { held = set mid.held (slice_index blocks i) false } → HasReleased (i + 1) old new blocks
  released_more new is = subst (λ (l : Ledger). HasReleased (i + 1) old l blocks) (sym is) (record {
    only = ap (λ (l : Ledger). record l { held = set mid.held (slice_index blocks i) false }) r.only;
    same_size = length-set mid.held (slice_index blocks i) false ∙ r.same_size;
    gone = λ k lt. elim (last_or i k lt) as (λ _. get_or (set mid.held (slice_index blocks i) false) (slice_index blocks k) false ≡ false) [
      | inl last ↦ subst (λ (j : ℕ). get_or (set mid.held (slice_index blocks i) false) (slice_index blocks j) false ≡ false) (sym last) (get_or-set_same mid.held (slice_index blocks i) false false (let size = r.same_size in omega (arith, high, size, marked)))
      | inr below ↦ get_or-set_other mid.held (slice_index blocks i) (slice_index blocks k) false false (different k below) ∙ r.gone k below
    ];
    others = λ n out. get_or-set_other mid.held (slice_index blocks i) n false false (out i (omega arith)) ∙ r.others n (λ k lt. out k (omega (arith, lt)));
  })

pub ok_if : {T E : Type 0} (r : Result T E) (x : T) (P : T → Type 0) → r ≡ Ok x → IfOk r P → P x
ok_if r x P is holds = subst (λ (s : Result _ _). IfOk s P) is holds

pub ok_on : {T E : Type 0} (r : Result T E) (x : T) (P : Type 0) → r ≡ Ok x → OnOk r P → P
ok_on r x P is holds = subst (λ (s : Result _ _). OnOk s P) is holds
