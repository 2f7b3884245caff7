-- The past of an entity, place by place.
use Rattle.std.proofs.Common.{◌≡◌, ℕ, zero, suc, ◌≤◌, ◌<◌, Bool, true, false, ◌==◌, if◌then◌else◌, ◌⊎◌, inl, inr, ◌↔◌, List, [], ◌∷◌, ◌++◌, map, refl, sym, ap, subst, ◌∙◌, arith, eq-eqb, eqb-true}
use Rattle.std.specs.List.{list_any}
use Rattle.std.proofs.lemmas.Bool.{cases_lt, false≢true, or_cases}
use Rattle.base_types.specs.declared.histories.Entry.{Entry}
use Rattle.model_kernel.specs.Histories.{touches, writes}
use Rattle.model_kernel.specs.Pasts.{entities, has, past, sources, writes_one}
use Rattle.model_kernel.proofs.Basics.{or_left, or_right}
use Rattle.model_before.specs.Before.{IsAt, IsBefore, IsChain, IsDirectlyBefore, IsInPast, picked}
use Rattle.model_kernel.proofs.Lists.{written_touched}
use Rattle.model_before.proofs.Touching.{has_append, has_entities, one_written, written_one}

-- whether the entry at the place is in the past of these entities
abbrev pub in_past : List Entry → List ℕ → ℕ → Bool
in_past [] zs i = false
in_past (e ∷ es) zs zero = writes_one (sources es zs) e
in_past (e ∷ es) zs (suc i) = in_past es zs i

past_picked : (es : List Entry) (zs : List ℕ) → past es zs ≡ picked (in_past es zs) es
past_picked [] zs = refl
past_picked (e ∷ es) zs = ap (λ fs. if writes_one (sources es zs) e then e ∷ fs else fs) (past_picked es zs)

-- AMONG THE SOURCES

-- an entity, or one that an entry of the past touches
pub record IsTouchedInPast (es : List Entry) (zs : List ℕ) (y : ℕ) : Type 0 where
  pub place : ℕ
  pub entry : Entry
  pub at : IsAt es place entry
  pub inside : in_past es zs place ≡ true
  pub touched : touches entry y ≡ true

touched_later : (e : Entry) (es : List Entry) (zs : List ℕ) (y : ℕ) → IsTouchedInPast es zs y → IsTouchedInPast (e ∷ es) zs y
touched_later e es zs y k = record { place = suc k.place; entry = k.entry; at = k.at; inside = k.inside; touched = k.touched }

source_of : (es : List Entry) (zs : List ℕ) (y : ℕ) → has (sources es zs) y ≡ true → (has zs y ≡ true) ⊎ IsTouchedInPast es zs y
source_of [] zs y h = inl h
source_of (e ∷ es) zs y h =
    elim (writes_one (sources es zs) e) as (λ b. writes_one (sources es zs) e ≡ b → has (if b then entities e.touched ++ sources es zs else sources es zs) y ≡ true → (has zs y ≡ true) ⊎ IsTouchedInPast (e ∷ es) zs y) [
      | true ↦ λ is h. elim (or_cases (has (entities e.touched) y) (has (sources es zs) y) (sym (has_append (entities e.touched) (sources es zs) y) ∙ h)) as (λ _. (has zs y ≡ true) ⊎ IsTouchedInPast (e ∷ es) zs y) [
        | inl own ↦ inr (record { place = zero; entry = e; at = refl; inside = is; touched = sym (has_entities e.touched y) ∙ own })
        | inr later ↦ further (source_of es zs y later)
      ]
      | false ↦ λ is h. further (source_of es zs y h)
    ] refl h
  where
    further : (has zs y ≡ true) ⊎ IsTouchedInPast es zs y → (has zs y ≡ true) ⊎ IsTouchedInPast (e ∷ es) zs y
    further (inl k) = inl k
    further (inr k) = inr (touched_later e es zs y k)

source_kept : (e : Entry) (es : List Entry) (zs : List ℕ) (y : ℕ) → has (sources es zs) y ≡ true → has (sources (e ∷ es) zs) y ≡ true
source_kept e es zs y h =
    elim (writes_one (sources es zs) e) as (λ b. has (if b then entities e.touched ++ sources es zs else sources es zs) y ≡ true) [
      | true ↦ has_append (entities e.touched) (sources es zs) y ∙ or_right (has (entities e.touched) y) _ h
      | false ↦ h
    ]

own_source : (es : List Entry) (zs : List ℕ) (y : ℕ) → has zs y ≡ true → has (sources es zs) y ≡ true
own_source [] zs y h = h
own_source (e ∷ es) zs y h = source_kept e es zs y (own_source es zs y h)

touched_source : (es : List Entry) (zs : List ℕ) (y k : ℕ) (e : Entry) → IsAt es k e → in_past es zs k ≡ true → touches e y ≡ true → has (sources es zs) y ≡ true
touched_source [] zs y k e at inside touched = absurd at
touched_source (d ∷ es) zs y zero e at inside touched =
    ap (λ b. has (if b then entities d.touched ++ sources es zs else sources es zs) y) inside
    ∙ has_append (entities d.touched) (sources es zs) y
    ∙ or_left (has (entities d.touched) y) _ (has_entities d.touched y ∙ ap (λ c. touches c y) at ∙ touched)
touched_source (d ∷ es) zs y (suc k) e at inside touched = source_kept d es zs y (touched_source es zs y k e at inside touched)

-- CHAINS

direct_later : (d : Entry) (es : List Entry) (i j : ℕ) → IsDirectlyBefore es i j → IsDirectlyBefore (d ∷ es) (suc i) (suc j)
direct_later d es i j k = (let less = k.earlier in record { earlier = omega (arith, less); cause = k.cause; effect = k.effect; at = k.at; there = k.there; entity = k.entity; wrote = k.wrote; touched = k.touched })

chain_later : (d : Entry) (es : List Entry) (ks : List ℕ) (i j : ℕ) → IsChain es i ks j → IsChain (d ∷ es) (suc i) (map suc ks) (suc j)
chain_later d es [] i j c = direct_later d es i j c
chain_later d es (k ∷ ks) i j c = (direct_later d es i k c.0, chain_later d es ks k j c.1)

chain_append : (es : List Entry) (ks : List ℕ) (i k m : ℕ) → IsChain es i ks k → IsDirectlyBefore es k m → IsChain es i (ks ++ k ∷ []) m
chain_append es [] i k m c d = (c, d)
chain_append es (l ∷ ks) i k m c d = (c.0, chain_append es ks l k m c.1 d)

-- a place is at a writer of one of these, or before it
pub record LeadsTo (es : List Entry) (zs : List ℕ) (i : ℕ) : Type 0 where
  pub place : ℕ
  pub writer : Entry
  pub at : IsAt es place writer
  pub entity : ℕ
  pub own : has zs entity ≡ true
  pub wrote : writes writer entity ≡ true
  pub up_to : (i ≡ place) ⊎ IsBefore es i place

leads_later : (d : Entry) (es : List Entry) (zs : List ℕ) (i : ℕ) → LeadsTo es zs i → LeadsTo (d ∷ es) zs (suc i)
leads_later d es zs i k = record {
  place = suc k.place;
  writer = k.writer;
  at = k.at;
  entity = k.entity;
  own = k.own;
  wrote = k.wrote;
  up_to = elim k.up_to as (λ _. (suc i ≡ suc k.place) ⊎ IsBefore (d ∷ es) (suc i) (suc k.place)) [ inl same ↦ inl (ap suc same) | inr b ↦ inr (map suc b.0, chain_later d es b.0 i k.place b.1) ];
}

in_past_leads : (es : List Entry) (zs : List ℕ) (i : ℕ) → in_past es zs i ≡ true → LeadsTo es zs i
in_past_leads [] zs i h = absurd (false≢true h)
in_past_leads (e ∷ es) zs (suc i) h = leads_later e es zs i (in_past_leads es zs i h)
in_past_leads (e ∷ es) zs zero h =
    let some = written_one e.touched (sources es zs) h in
    elim (source_of es zs some.0 some.2) as (λ _. LeadsTo (e ∷ es) zs zero) [
      | inl own ↦ record { place = zero; writer = e; at = refl; entity = some.0; own = own; wrote = some.1; up_to = inl refl }
      | inr k ↦ (
          let next = in_past_leads es zs k.place k.inside in
          let first : IsDirectlyBefore (e ∷ es) zero (suc k.place) = record { earlier = omega arith; cause = e; effect = k.entry; at = refl; there = k.at; entity = some.0; wrote = some.1; touched = k.touched } in
          record {
            place = suc next.place;
            writer = next.writer;
            at = next.at;
            entity = next.entity;
            own = next.own;
            wrote = next.wrote;
            up_to = inr (elim next.up_to as (λ _. IsBefore (e ∷ es) zero (suc next.place)) [
              | inl same ↦ ([], subst (λ m. IsDirectlyBefore (e ∷ es) zero (suc m)) same first)
              | inr b ↦ (suc k.place ∷ map suc b.0, (first, chain_later e es b.0 k.place next.place b.1))
            ]);
          })
    ]

writer_in_past : (es : List Entry) (zs : List ℕ) (k y : ℕ) (e : Entry) → IsAt es k e → has zs y ≡ true → writes e y ≡ true → in_past es zs k ≡ true
writer_in_past [] zs k y e at own wrote = absurd at
writer_in_past (d ∷ es) zs zero y e at own wrote = one_written d.touched (sources es zs) y (ap (λ c. writes c y) at ∙ wrote) (own_source es zs y own)
writer_in_past (d ∷ es) zs (suc k) y e at own wrote = writer_in_past es zs k y e at own wrote

direct_in_past : (es : List Entry) (zs : List ℕ) (i j y : ℕ) (cause effect : Entry) → i < j → IsAt es i cause → IsAt es j effect → writes cause y ≡ true → touches effect y ≡ true → in_past es zs j ≡ true → in_past es zs i ≡ true
direct_in_past [] zs i j y cause effect less at there wrote touched inside = absurd at
direct_in_past (d ∷ es) zs i zero y cause effect less at there wrote touched inside = absurd (omega (arith, less))
direct_in_past (d ∷ es) zs zero (suc j) y cause effect less at there wrote touched inside =
    one_written d.touched (sources es zs) y (ap (λ c. writes c y) at ∙ wrote) (touched_source es zs y j effect there inside touched)
direct_in_past (d ∷ es) zs (suc i) (suc j) y cause effect less at there wrote touched inside = direct_in_past es zs i j y cause effect (omega (arith, less)) at there wrote touched inside

chain_in_past : (es : List Entry) (zs : List ℕ) (ks : List ℕ) (i j : ℕ) → IsChain es i ks j → in_past es zs j ≡ true → in_past es zs i ≡ true
chain_in_past es zs [] i j c inside = direct_in_past es zs i j c.entity c.cause c.effect c.earlier c.at c.there c.wrote c.touched inside
chain_in_past es zs (k ∷ ks) i j c inside =
    let d = c.0 in
    direct_in_past es zs i k d.entity d.cause d.effect d.earlier d.at d.there d.wrote d.touched (chain_in_past es zs ks k j c.1 inside)

-- THE LAST WRITER

pub record IsLastWriter (es : List Entry) (x : ℕ) : Type 0 where
  pub last : ℕ
  pub writer : Entry
  pub at : IsAt es last writer
  pub wrote : writes writer x ≡ true
  pub newest : (k : ℕ) (e : Entry) → IsAt es k e → writes e x ≡ true → k ≤ last

none_writes : (es : List Entry) (x k : ℕ) (e : Entry) → list_any (λ e. writes e x) es ≡ false → IsAt es k e → writes e x ≡ true → ⊥
none_writes [] x k e none at wrote = at
none_writes (d ∷ es) x zero e none at wrote = false≢true (sym none ∙ or_left (writes d x) _ (ap (λ c. writes c x) at ∙ wrote))
none_writes (d ∷ es) x (suc k) e none at wrote =
    elim (list_any (λ e. writes e x) es) as (λ b. list_any (λ e. writes e x) es ≡ b → ⊥) [
      | true ↦ λ some. false≢true (sym none ∙ or_right (writes d x) _ some)
      | false ↦ λ none. none_writes es x k e none at wrote
    ] refl

later : (d : Entry) (es : List Entry) (x : ℕ) → IsLastWriter es x → IsLastWriter (d ∷ es) x
later d es x f = record { last = suc f.last; writer = f.writer; at = f.at; wrote = f.wrote; newest = below }
  where
    below : (k : ℕ) (e : Entry) → IsAt (d ∷ es) k e → writes e x ≡ true → k ≤ suc f.last
    below zero e at wrote = omega arith
    below (suc k) e at wrote = (let le = f.newest k e at wrote in omega (arith, le))

last_writer : (es : List Entry) (x k : ℕ) (e : Entry) → IsAt es k e → writes e x ≡ true → IsLastWriter es x
last_writer [] x k e at wrote = absurd at
last_writer (d ∷ es) x zero e at wrote =
    elim (list_any (λ e. writes e x) es) as (λ b. list_any (λ e. writes e x) es ≡ b → IsLastWriter (d ∷ es) x) [
      | true ↦ λ some. (let f = some_writes es x some in later d es x (last_writer es x f.0 f.1 f.2 f.3))
      | false ↦ λ none. record { last = zero; writer = d; at = refl; wrote = ap (λ c. writes c x) at ∙ wrote; newest = first_alone d es x none }
    ] refl
  where
    some_writes : (es : List Entry) (x : ℕ) → list_any (λ e. writes e x) es ≡ true → (k : ℕ) × (e : Entry) × IsAt es k e × (writes e x ≡ true)
    some_writes [] x some = absurd (false≢true some)
    some_writes (d ∷ es) x some = elim (or_cases (writes d x) _ some) as (λ _. (k : ℕ) × (e : Entry) × IsAt (d ∷ es) k e × (writes e x ≡ true)) [
      | inl here ↦ (zero, d, refl, here)
      | inr later ↦ (let f = some_writes es x later in (suc f.0, f.1, f.2, f.3))
    ]

    first_alone : (d : Entry) (es : List Entry) (x : ℕ) → list_any (λ e. writes e x) es ≡ false → (k : ℕ) (e : Entry) → IsAt (d ∷ es) k e → writes e x ≡ true → k ≤ 0
    first_alone d es x none zero e at wrote = omega arith
    first_alone d es x none (suc k) e at wrote = absurd (none_writes es x k e none at wrote)
last_writer (d ∷ es) x (suc k) e at wrote = later d es x (last_writer es x k e at wrote)

-- THE PAST OF ONE ENTITY

module _ (es : List Entry) (x : ℕ) where
  own : has (x ∷ []) x ≡ true
  own = or_left (x == x) false (eq-eqb x x refl)

  only : (y : ℕ) → has (x ∷ []) y ≡ true → x ≡ y
  only y h = elim (or_cases (x == y) false h) as (λ _. x ≡ y) [ inl e ↦ eqb-true _ _ e | inr e ↦ absurd (false≢true e) ]

  of_leads : (i : ℕ) → LeadsTo es (x ∷ []) i → IsInPast es x i
  of_leads i k =
      let wrote : writes k.writer x ≡ true = ap (writes k.writer) (only k.entity k.own) ∙ k.wrote in
      let l = last_writer es x k.place k.writer k.at wrote in
      let le = l.newest k.place k.writer k.at wrote in
      record {
        last = l.last;
        writer = l.writer;
        at = l.at;
        wrote = l.wrote;
        newest = l.newest;
        up_to = elim (cases_lt k.place l.last) as (λ _. (i ≡ l.last) ⊎ IsBefore es i l.last) [
          | inl less ↦ (
              let link : IsDirectlyBefore es k.place l.last = record { earlier = less; cause = k.writer; effect = l.writer; at = k.at; there = l.at; entity = x; wrote = wrote; touched = written_touched l.writer.touched x l.wrote } in
              inr (elim k.up_to as (λ _. IsBefore es i l.last) [
                | inl same ↦ ([], subst (λ m. IsDirectlyBefore es m l.last) (sym same) link)
                | inr b ↦ (b.0 ++ k.place ∷ [], chain_append es b.0 i k.place l.last b.1 link)
              ]))
          | inr more ↦ (
              let equal : k.place ≡ l.last = omega (arith, le, more) in
              elim k.up_to as (λ _. (i ≡ l.last) ⊎ IsBefore es i l.last) [ inl same ↦ inl (same ∙ equal) | inr b ↦ inr (subst (IsBefore es i) equal b) ])
        ];
      }

  to_in_past : (i : ℕ) → IsInPast es x i → in_past es (x ∷ []) i ≡ true
  to_in_past i k =
      let last = writer_in_past es (x ∷ []) k.last x k.writer k.at own k.wrote in
      elim k.up_to as (λ _. in_past es (x ∷ []) i ≡ true) [
        | inl same ↦ ap (in_past es (x ∷ [])) same ∙ last
        | inr b ↦ chain_in_past es (x ∷ []) b.0 i k.last b.1 last
      ]

  pub past_is : (f : ℕ → Bool) × ((i : ℕ) → (f i ≡ true) ↔ IsInPast es x i) × (past es (x ∷ []) ≡ picked f es)
  past_is = (in_past es (x ∷ []), λ i. (λ h. of_leads i (in_past_leads es (x ∷ []) i h), to_in_past i), past_picked es (x ∷ []))
