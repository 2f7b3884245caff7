-- Reading a list of records whose versions ascend.
use Rattle.std.proofs.Common.{◌≡◌, ◌≢◌, ℕ, ◌+◌, ◌≤◌, ◌<◌, true, false, ◌==◌, List, length, get_or, ◌⊎◌, inl, inr, refl, sym, ap, subst, ◌∙◌, arith, eqb-true, eq-eqb, get_or-set_same, get_or-set_other}
use Rattle.std.proofs.Math.ListN.{set, length-set}
use Rattle.std.proofs.lemmas.Bool.{cases_lt, false≢true}
use Rattle.std.proofs.lemmas.List.{get_or_default}
use Rattle.data_stamps.proofs.Blanks.{get_or-replicate_all}
use Rattle.std.proofs.Math.ListN.{replicate}
use Rattle.base_types.specs.declared.records.Rec.{Rec}
use Rattle.data_cut_facts.specs.Records.{IsAscending}
use Rattle.data_cut_facts.specs.Searches.{no_record, record_at, entity_at}

-- the first n records ascend, and `newest` has the greatest version of each entity among them
pub record IsAscendingTo (recs : List Rec) (n : ℕ) (newest : List ℕ) : Type 0 where
  pub size : length newest ≡ 64
  pub ordered : (i j : ℕ) → i < j → j < n → entity_at recs i ≡ entity_at recs j → (record_at recs i).version ≤ (record_at recs j).version
  pub greatest : (k : ℕ) → k < n → (record_at recs k).version ≤ get_or newest (entity_at recs k) 0
  pub reached : (x : ℕ) → (get_or newest x 0 ≡ 0) ⊎ ((k : ℕ) × (k < n) × (entity_at recs k ≡ x) × ((record_at recs k).version ≡ get_or newest x 0))

pub none_read : (recs : List Rec) → IsAscendingTo recs 0 (replicate 64 0)
none_read recs = record {
  size = refl;
  ordered = λ i j lt low. absurd (omega arith);
  greatest = λ k low. absurd (omega arith);
  reached = λ x. inl (get_or-replicate_all 64 x 0);
}

-- one more record, whose version is no lower than the newest
pub one_more_read : (recs : List Rec) (n x v : ℕ) (newest : List ℕ) → IsAscendingTo recs n newest → x < 64 → entity_at recs n ≡ x → (record_at recs n).version ≡ v → get_or newest x 0 ≤ v
    → IsAscendingTo recs (n + 1) (set newest x v)
one_more_read recs n x v newest s low is_x is_v up = record {
  size = length-set newest x v ∙ s.size;
  ordered = λ i j lt few same. elim (cases_lt j n) as (λ _. (record_at recs i).version ≤ (record_at recs j).version) [
    | inl less ↦ s.ordered i j lt less same
    | inr more ↦ (
        let e : n ≡ j = omega arith in
        let one = s.greatest i (omega arith) in
        let at : entity_at recs i ≡ x = same ∙ sym (ap (entity_at recs) e) ∙ is_x in
        let two : (record_at recs i).version ≤ get_or newest x 0 = subst (λ y. (record_at recs i).version ≤ get_or newest y 0) at one in
        subst (λ k. (record_at recs i).version ≤ (record_at recs k).version) e (omega arith))
  ];
  greatest = λ k few. elim (cases_lt k n) as (λ _. (record_at recs k).version ≤ get_or (set newest x v) (entity_at recs k) 0) [
    | inl less ↦ elim (entity_at recs k == x) as (λ b. (entity_at recs k == x) ≡ b → (record_at recs k).version ≤ get_or (set newest x v) (entity_at recs k) 0) [
      | true ↦ λ is. (
          let at : entity_at recs k ≡ x = eqb-true _ _ is in
          let one = s.greatest k less in
          let two : (record_at recs k).version ≤ get_or newest x 0 = subst (λ y. (record_at recs k).version ≤ get_or newest y 0) at one in
          subst (λ y. (record_at recs k).version ≤ get_or (set newest x v) y 0) (sym at) (let same = here in omega arith))
      | false ↦ λ is. (
          let n' : entity_at recs k ≢ x = (λ e. false≢true (sym is ∙ eq-eqb _ _ e)) in
          let one = s.greatest k less in
          let same = get_or-set_other newest x (entity_at recs k) v 0 n' in
          omega arith)
    ] refl
    | inr more ↦ (
        let e : n ≡ k = omega arith in
        subst (λ j. (record_at recs j).version ≤ get_or (set newest x v) (entity_at recs j) 0) e
        (subst (λ y. (record_at recs n).version ≤ get_or (set newest x v) y 0) (sym is_x) (let same = here in omega arith)))
  ];
  reached = λ y. elim (y == x) as (λ b. (y == x) ≡ b → (get_or (set newest x v) y 0 ≡ 0) ⊎ ((k : ℕ) × (k < n + 1) × (entity_at recs k ≡ y) × ((record_at recs k).version ≡ get_or (set newest x v) y 0))) [
    | true ↦ λ is. (let e : y ≡ x = eqb-true _ _ is in inr (n, omega arith, is_x ∙ sym e, is_v ∙ sym here ∙ ap (λ z. get_or (set newest x v) z 0) (sym e)))
    | false ↦ λ is. (
        let same = get_or-set_other newest x y v 0 (λ e. false≢true (sym is ∙ eq-eqb _ _ e)) in
        elim (s.reached y) as (λ _. (get_or (set newest x v) y 0 ≡ 0) ⊎ ((k : ℕ) × (k < n + 1) × (entity_at recs k ≡ y) × ((record_at recs k).version ≡ get_or (set newest x v) y 0))) [
          | inl none ↦ inl (same ∙ none)
          | inr w ↦ inr (w.0, (let lt = w.1 in omega arith), w.2, w.3 ∙ sym same)
        ])
  ] refl;
}
  where
    here : get_or (set newest x v) x 0 ≡ v
    here = get_or-set_same newest x v 0 (let size = s.size in omega arith)

-- a version below the newest
pub falls_below : (recs : List Rec) (n x : ℕ) (newest : List ℕ) → IsAscendingTo recs n newest → n < length recs → entity_at recs n ≡ x → (record_at recs n).version < get_or newest x 0 → IsAscending recs → ⊥
falls_below recs n x newest s lt is_x less up = elim (s.reached x) as (λ _. ⊥) [
  | inl none ↦ absurd (omega arith)
  | inr w ↦ (let le = up w.0 n no_record w.1 lt (w.2 ∙ sym is_x) in let e = w.3 in absurd (omega arith))
]

pub all_read : (recs : List Rec) (newest : List ℕ) → IsAscendingTo recs (length recs) newest → IsAscending recs
all_read recs newest s i j d less lt same =
    let a = get_or_default recs i no_record d (omega arith) in
    let b = get_or_default recs j no_record d lt in
    let le = s.ordered i j less lt (ap (λ (r : Rec). r.entity) a ∙ same ∙ ap (λ (r : Rec). r.entity) (sym b)) in
    let va = ap (λ (r : Rec). r.version) a in
    let vb = ap (λ (r : Rec). r.version) b in
    omega arith
