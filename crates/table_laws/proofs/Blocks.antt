-- The blocks of all containers after a look at one of them.
use Rattle.std.proofs.Common.{◌≡◌, ◌≢◌, ◌⊎◌, inl, inr, ℕ, zero, suc, ◌<◌, ◌≤◌, Bool, true, false, ◌==◌, List, [], ◌∷◌, length, slice_get, slice_index, Option, Some, None, refl, sym, ap, ◌∙◌, subst, arith, eqb-true, eq-eqb}
use Rattle.cell_steps.specs.act_alone.declared.loci.Head.{Head}
use Rattle.cell_steps.specs.act_alone.declared.loci.Locus.{Locus}
use Rattle.cell_steps.specs.page_memory.declared.paged.PagedMemory.{PagedMemory}
use Rattle.cell_steps.specs.page_memory.Calls.{IsOfTable}
use Rattle.cell_steps.specs.page_memory.Words.{IsSoundTable}
use Rattle.cell_steps.specs.act_look.Looks.{IsMemoryOf}
use Rattle.cell_steps.specs.cell_states.declared.cells.Cell.{Cell}
use Rattle.cell_steps.specs.cell_states.declared.cells.Part.{Part}
use Rattle.cell_steps.specs.cell_states.declared.cells.Part.TheVariants as part
use Rattle.cell_steps.specs.cell_calls.Besides.{memory_of}
use Rattle.cell_blob_laws.specs.Memories.{HasOwnMemory}
use Rattle.table_laws.specs.Tables.{AreNumbered, HasKind, HasNews, IsOrderly, blocks_by, memory_at, tables_in}
use Rattle.std.proofs.lemmas.Option.{same_Some}

-- the part is the container that it was, whose blocks may be others
pub record LooksAt (held held' : ℕ → Bool) (b b' : Cell) : Type 0 where
  pub head : Head
  pub before : PagedMemory
  pub after : PagedMemory
  pub was : b.part ≡ part.Container (record { head = Some head; memory = before })
  pub is : b'.part ≡ part.Container (record { head = Some head; memory = after })
  pub of : IsMemoryOf head after
  pub table : IsSoundTable held' after
  pub stay : (n : ℕ) → held n ≡ true → (IsOfTable before n → ⊥) → (held' n ≡ true) × (IsOfTable after n → ⊥)
  pub no_others : (n : ℕ) → held' n ≡ true → (IsOfTable after n → ⊥) → (held n ≡ true) × (IsOfTable before n → ⊥)

-- two cells of the table are others, the locus's and the container's
pub record ChangesTwo (cs cs' : List Cell) (me y : ℕ) (a b a' b' : Cell) : Type 0 where
  pub len : length cs' ≡ length cs
  pub high : 40 < me
  pub low : y < me
  pub locus : Locus
  pub is_locus : a.part ≡ part.Locus (Some locus)
  pub was_a : slice_get cs me ≡ Some a
  pub was_b : slice_get cs y ≡ Some b
  pub is_a : slice_get cs' me ≡ Some a'
  pub is_b : slice_get cs' y ≡ Some b'
  pub same_a : a'.clock.entity ≡ a.clock.entity
  pub same_b : b'.clock.entity ≡ b.clock.entity
  pub others : (n : ℕ) → n ≢ me → n ≢ y → slice_get cs' n ≡ slice_get cs n

pub kind_none : (x : ℕ) (p : Part) → 40 < x → HasKind x p → memory_of p ≡ None
kind_none x (part.Atlas d) high kind = refl
kind_none x (part.Locus l) high kind = refl
kind_none x (part.Container b) high kind = absurd (omega (arith, kind.1))

own_held : (held : ℕ → Bool) (p : Part) (q : ℕ) → HasOwnMemory held p → slice_index (blocks_by (memory_of p)) q ≢ 0 → held (slice_index (blocks_by (memory_of p)) q) ≡ true
own_held held (part.Container b) q own some = own.1.held_blocks q some
own_held held (part.Atlas d) q own some = absurd (some refl)
own_held held (part.Locus l) q own some = absurd (some refl)

-- a block is in a list or isn't
pub seek : (t : List ℕ) (n : ℕ) → n ≢ 0 → ((p : ℕ) × (slice_index t p ≡ n)) ⊎ ((p : ℕ) → slice_index t p ≡ n → ⊥)
seek [] n some = inr (λ p e. some (sym e))
seek (m ∷ t) n some = elim (m == n) as (λ b. (m == n) ≡ b → ((p : ℕ) × (slice_index (m ∷ t) p ≡ n)) ⊎ ((p : ℕ) → slice_index (m ∷ t) p ≡ n → ⊥)) [
  | true ↦ λ is. inl (0, eqb-true m n is)
  | false ↦ λ is. elim (seek t n some) as (λ _. ((p : ℕ) × (slice_index (m ∷ t) p ≡ n)) ⊎ ((p : ℕ) → slice_index (m ∷ t) p ≡ n → ⊥)) [
    | inl f ↦ inl (suc f.0, f.1)
    | inr none ↦ inr (past m n t is none)
  ]
] refl
  where
    past : (m n : ℕ) (t : List ℕ) → (m == n) ≡ false → ((p : ℕ) → slice_index t p ≡ n → ⊥) → (p : ℕ) → slice_index (m ∷ t) p ≡ n → ⊥
    past m n t is none zero e = (let f = eq-eqb m n e in differs (sym is ∙ f))
      where
        differs : false ≡ true → ⊥
        differs e = cc
    past m n t is none (suc p) e = none p e

zero_or : (n : ℕ) → (n ≡ 0) ⊎ (n ≢ 0)
zero_or zero = inl refl
zero_or (suc n) = inr (λ e. absurd (omega (arith, e)))

pub same_or : (x y : ℕ) → (x ≡ y) ⊎ (x ≢ y)
same_or x y = elim (x == y) as (λ b. (x == y) ≡ b → (x ≡ y) ⊎ (x ≢ y)) [ true ↦ λ is. inl (eqb-true x y is) | false ↦ λ is. inr (λ e. (let f = eq-eqb x y e in differs (sym is ∙ f))) ] refl
  where
    differs : false ≡ true → ⊥
    differs e = cc

module _ (held held' : ℕ → Bool) (cs cs' : List Cell) (me y : ℕ) (a b a' b' : Cell) (orderly : IsOrderly held cs) (two : ChangesTwo cs cs' me y a b a' b') (looks : LooksAt held held' b b') (kind : HasKind me a'.part) where
  table_before : tables_in cs y ≡ looks.before.table
  table_before = ap (λ o. blocks_by (memory_at o)) two.was_b ∙ ap (λ p. blocks_by (memory_of p)) looks.was

  table_after : tables_in cs' y ≡ looks.after.table
  table_after = ap (λ o. blocks_by (memory_at o)) two.is_b ∙ ap (λ p. blocks_by (memory_of p)) looks.is

  table_same : (x : ℕ) → x ≢ y → tables_in cs' x ≡ tables_in cs x
  table_same x apart = elim (same_or x me) as (λ _. tables_in cs' x ≡ tables_in cs x) [
    | inl here ↦ (
        let after : tables_in cs' me ≡ [] = ap (λ o. blocks_by (memory_at o)) two.is_a ∙ ap blocks_by (kind_none me a'.part two.high kind) in
        let before : tables_in cs me ≡ [] = ap (λ o. blocks_by (memory_at o)) two.was_a ∙ ap blocks_by (kind_none me a.part two.high (orderly.kinds me a two.was_a)) in
        ap (tables_in cs') here ∙ after ∙ sym before ∙ ap (tables_in cs) (sym here))
    | inr other ↦ ap (λ o. blocks_by (memory_at o)) (two.others x other apart)
  ]

  -- the pages of the one container may have new blocks
  pub news_after : (kept : ℕ → Bool) → ((page : ℕ) → (slice_index looks.after.table page ≡ slice_index looks.before.table page) ⊎ (kept (slice_index looks.after.table page) ≡ false))
      → HasNews kept (tables_in cs) (tables_in cs')
  news_after kept news x page = elim (same_or x y) as (λ _. IsNews (tables_in cs' x) (tables_in cs x)) [
    | inl here ↦ subst (λ z. IsNews (tables_in cs' z) (tables_in cs z)) (sym here)
        (subst (λ t. IsNews t (tables_in cs y)) (sym table_after) (subst (λ t. IsNews looks.after.table t) (sym table_before) (news page)))
    | inr apart ↦ inl (ap (λ t. slice_index t page) (table_same x apart))
  ]
    where
      IsNews : List ℕ → List ℕ → Type 0
      IsNews t' t = (slice_index t' page ≡ slice_index t page) ⊎ (kept (slice_index t' page) ≡ false)

  pub held_at : (x p : ℕ) → slice_index (tables_in cs x) p ≢ 0 → held (slice_index (tables_in cs x) p) ≡ true
  held_at x p = by (slice_get cs x) refl
    where
      by : (o : Option Cell) → slice_get cs x ≡ o → slice_index (blocks_by (memory_at o)) p ≢ 0 → held (slice_index (blocks_by (memory_at o)) p) ≡ true
      by (Some c) is some = own_held held c.part p (orderly.own x c is) some
      by None is some = absurd (some refl)

  pub outside : (x p : ℕ) → x ≢ y → slice_index (tables_in cs x) p ≢ 0 → IsOfTable looks.before (slice_index (tables_in cs x) p) → ⊥
  outside x p apart some of =
      apart (orderly.once x y p of.1.0 some (sym of.1.1 ∙ ap (λ t. slice_index t of.1.0) (sym table_before))).0

  numbers_after : AreNumbered cs'
  numbers_after = record { len = two.len ∙ orderly.numbers.len; each = each }
    where
      each : (x : ℕ) (d : Cell) → slice_get cs' x ≡ Some d → d.clock.entity ≡ x
      each x d is = elim (same_or x me) as (λ _. d.clock.entity ≡ x) [
        | inl here ↦ ap (λ (c : Cell). c.clock.entity) (same_Some d a' (sym is ∙ ap (slice_get cs') here ∙ two.is_a)) ∙ two.same_a ∙ orderly.numbers.each me a two.was_a ∙ sym here
        | inr other ↦ elim (same_or x y) as (λ _. d.clock.entity ≡ x) [
          | inl here ↦ ap (λ (c : Cell). c.clock.entity) (same_Some d b' (sym is ∙ ap (slice_get cs') here ∙ two.is_b)) ∙ two.same_b ∙ orderly.numbers.each y b two.was_b ∙ sym here
          | inr apart ↦ orderly.numbers.each x d (sym (two.others x other apart) ∙ is)
        ]
      ]

  kinds_after : (x : ℕ) (d : Cell) → slice_get cs' x ≡ Some d → HasKind x d.part
  kinds_after x d is = elim (same_or x me) as (λ _. HasKind x d.part) [
    | inl here ↦ subst (λ (c : Cell). HasKind x c.part) (same_Some a' d (sym (ap (slice_get cs') here ∙ two.is_a) ∙ is)) (subst (λ n. HasKind n a'.part) (sym here) kind)
    | inr other ↦ elim (same_or x y) as (λ _. HasKind x d.part) [
      | inl here ↦ subst (λ (c : Cell). HasKind x c.part) (same_Some b' d (sym (ap (slice_get cs') here ∙ two.is_b) ∙ is))
          (subst (λ n. HasKind n b'.part) (sym here) (subst (HasKind y) (sym looks.is) (container_kind (subst (HasKind y) looks.was (orderly.kinds y b two.was_b)))))
      | inr apart ↦ orderly.kinds x d (sym (two.others x other apart) ∙ is)
    ]
  ]
    where
      container_kind : (0 < y) × (y ≤ 40) → (0 < y) × (y ≤ 40)
      container_kind k = k

  own_apart : (x : ℕ) (p : Part) → x ≢ y → ((q : ℕ) → slice_index (blocks_by (memory_of p)) q ≡ slice_index (tables_in cs x) q) → HasOwnMemory held p → HasOwnMemory held' p
  own_apart x (part.Atlas d) apart same own = tt
  own_apart x (part.Locus l) apart same own = tt
  own_apart x (part.Container c) apart same own = (
    own.0,
    record {
      few = own.1.few;
      len = own.1.len;
      fits = own.1.fits;
      none_past = own.1.none_past;
      held_blocks = λ q some. subst (λ n. held' n ≡ true) (sym (same q)) (looks.stay (slice_index (tables_in cs x) q) (held_at x q (λ z. some (same q ∙ z))) (outside x q apart (λ z. some (same q ∙ z)))).0;
      differ = own.1.differ;
    },
  )

  own_after : (x : ℕ) (d : Cell) → slice_get cs' x ≡ Some d → HasOwnMemory held' d.part
  own_after x d is = elim (same_or x y) as (λ _. HasOwnMemory held' d.part) [
    | inl here ↦ subst (λ (c : Cell). HasOwnMemory held' c.part) (same_Some b' d (sym (ap (slice_get cs') here ∙ two.is_b) ∙ is)) (subst (HasOwnMemory held') (sym looks.is) (looks.of, looks.table))
    | inr apart ↦ elim (same_or x me) as (λ _. HasOwnMemory held' d.part) [
      | inl here ↦ subst (λ (c : Cell). HasOwnMemory held' c.part) (same_Some a' d (sym (ap (slice_get cs') here ∙ two.is_a) ∙ is)) (none_own a'.part kind)
      | inr other ↦ own_apart x d.part apart (λ q. ap (λ o. slice_index (blocks_by (memory_at o)) q) (sym is) ∙ ap (λ t. slice_index t q) (table_same x apart)) (orderly.own x d (sym (two.others x other apart) ∙ is))
    ]
  ]
    where
      none_own : (p : Part) → HasKind me p → HasOwnMemory held' p
      none_own (part.Atlas d) kind = tt
      none_own (part.Locus l) kind = tt
      none_own (part.Container c) kind = absurd (let high = two.high in omega (arith, kind.1, high))

  -- each block once
  crossing : (x p q : ℕ) → x ≢ y → slice_index (tables_in cs' x) p ≢ 0 → slice_index (tables_in cs' x) p ≡ slice_index (tables_in cs' y) q → ⊥
  crossing x p q apart some same =
      let here = ap (λ t. slice_index t p) (table_same x apart) in
      let kept = looks.stay (slice_index (tables_in cs x) p) (held_at x p (λ z. some (here ∙ z))) (outside x p apart (λ z. some (here ∙ z))) in
      kept.1 ((λ z. some (here ∙ z)), (q, sym (ap (λ t. slice_index t q) table_after) ∙ sym same ∙ here))

  once_after : (x z p q : ℕ) → slice_index (tables_in cs' x) p ≢ 0 → slice_index (tables_in cs' x) p ≡ slice_index (tables_in cs' z) q → (x ≡ z) × (p ≡ q)
  once_after x z p q some same = elim (same_or x y) as (λ _. (x ≡ z) × (p ≡ q)) [
    | inl here ↦ elim (same_or z y) as (λ _. (x ≡ z) × (p ≡ q)) [
      | inl there ↦ (
          let at = ap (λ n. slice_index (tables_in cs' n) p) here ∙ ap (λ t. slice_index t p) table_after in
          let to = ap (λ n. slice_index (tables_in cs' n) q) there ∙ ap (λ t. slice_index t q) table_after in
          (here ∙ sym there, looks.table.differ p q (λ e. some (at ∙ e)) (sym at ∙ same ∙ to)))
      | inr apart ↦ absurd (crossing z q p apart (λ e. some (same ∙ e)) (sym same ∙ ap (λ n. slice_index (tables_in cs' n) p) here))
    ]
    | inr apart ↦ elim (same_or z y) as (λ _. (x ≡ z) × (p ≡ q)) [
      | inl there ↦ absurd (crossing x p q apart some (same ∙ ap (λ n. slice_index (tables_in cs' n) q) there))
      | inr far ↦ (
          let at = ap (λ t. slice_index t p) (table_same x apart) in
          orderly.once x z p q (λ e. some (at ∙ e)) (sym at ∙ same ∙ ap (λ t. slice_index t q) (table_same z far)))
    ]
  ]

  -- each held block is named
  named_before : (n : ℕ) → held n ≡ true → (IsOfTable looks.before n → ⊥) → (x : ℕ) × (p : ℕ) × (n ≢ 0) × (slice_index (tables_in cs' x) p ≡ n)
  named_before n is none =
      let k = orderly.named n is in
      elim (same_or k.0 y) as (λ _. (x : ℕ) × (p : ℕ) × (n ≢ 0) × (slice_index (tables_in cs' x) p ≡ n)) [
        | inl here ↦ absurd (none (k.2, (k.1, ap (λ t. slice_index t k.1) (sym table_before) ∙ ap (λ z. slice_index (tables_in cs z) k.1) (sym here) ∙ k.3)))
        | inr apart ↦ (k.0, k.1, k.2, ap (λ t. slice_index t k.1) (table_same k.0 apart) ∙ k.3)
      ]

  named_after : (n : ℕ) → held' n ≡ true → (x : ℕ) × (p : ℕ) × (n ≢ 0) × (slice_index (tables_in cs' x) p ≡ n)
  named_after n is = elim (zero_or n) as (λ _. (x : ℕ) × (p : ℕ) × (n ≢ 0) × (slice_index (tables_in cs' x) p ≡ n)) [
    | inl none ↦ (let was = looks.no_others n is (λ of. of.0 none) in named_before n was.0 was.1)
    | inr some ↦ elim (seek looks.after.table n some) as (λ _. (x : ℕ) × (p : ℕ) × (n ≢ 0) × (slice_index (tables_in cs' x) p ≡ n)) [
      | inl f ↦ (y, f.0, some, ap (λ t. slice_index t f.0) table_after ∙ f.1)
      | inr none ↦ (let was = looks.no_others n is (λ of. none of.1.0 of.1.1) in named_before n was.0 was.1)
    ]
  ]

  -- all that a look says of blocks and numbers
  pub record KeepsOrder : Type 0 where
    pub numbers : AreNumbered cs'
    pub kinds : (x : ℕ) (d : Cell) → slice_get cs' x ≡ Some d → HasKind x d.part
    pub own : (x : ℕ) (d : Cell) → slice_get cs' x ≡ Some d → HasOwnMemory held' d.part
    pub once : (x z p q : ℕ) → slice_index (tables_in cs' x) p ≢ 0 → slice_index (tables_in cs' x) p ≡ slice_index (tables_in cs' z) q → (x ≡ z) × (p ≡ q)
    pub named : (n : ℕ) → held' n ≡ true → (x : ℕ) × (p : ℕ) × (n ≢ 0) × (slice_index (tables_in cs' x) p ≡ n)

  pub keeps_order : KeepsOrder
  keeps_order = record { numbers = numbers_after; kinds = kinds_after; own = own_after; once = once_after; named = named_after }
