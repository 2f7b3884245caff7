-- One block more is taken.
use Rattle.std.proofs.Common.{◌≡◌, ◌≢◌, ◌⊎◌, inl, inr, ℕ, ◌+◌, ◌||◌, ◌==◌, if◌then◌else◌, Bool, true, false, IsTrue, List, refl, sym, ap, subst, ◌∙◌, arith, eqb-true, eq-eqb}
use Rattle.std.specs.Prelude.{Err, IfErr, IsErr, Ok, OnOk, Result, slice_index}
use Rattle.std.proofs.lemmas.Bool.{false≢true}
use Rattle.std.proofs.lemmas.List.{get_or-set_same, get_or-set_other}
use Rattle.edge_disk.specs.Counts.{Rose}
use Rattle.edge_disk.proofs.Ticks.{Rose-before}
use Rattle.page_store.specs.declared.faults.PageFault.{PageFault}
use Rattle.page_store.specs.declared.store.PageStore.{Ghosts}
use Rattle.page_store.specs.Pages.{HasPageCause, IsReadFault}
use Rattle.page_store.specs.model_kernel.Words.{put}
use Rattle.page_placing.specs.Placing.{GoesOn, PlacesOne, TakesBlocks}

-- a place is this one or another
pub by_eq : {A : Type 0} (m n : ℕ) → (m ≡ n → A) → (m ≢ n → A) → A
by_eq {A = A} m n same other = by_test (m == n) refl
  where
    by_test : (t : Bool) → (m == n) ≡ t → A
    by_test true e = same (eqb-true m n e)
    by_test false e = other (λ is. false≢true (sym e ∙ eq-eqb m n is))

put_same : (f : ℕ → Bool) (k : ℕ) (b : Bool) (n : ℕ) → n ≡ k → put f k b n ≡ b
put_same f k b n is = (let t = eq-eqb n k is in rw t refl)

put_other : (f : ℕ → Bool) (k : ℕ) (b : Bool) (n : ℕ) → n ≢ k → put f k b n ≡ f n
put_other f k b n other = by_test (n == k) refl
  where
    by_test : (t : Bool) → (n == k) ≡ t → (if t then b else f n) ≡ f n
    by_test true e = absurd (other (eqb-true n k e))
    by_test false e = refl

pub ok_map : {T E : Type 0} (P Q : Type 0) → (P → Q) → (r : Result T E) → OnOk r P → OnOk r Q
ok_map P Q f (Ok x) p = f p
ok_map P Q f (Err e) p = tt

module _ {B : Type 0} (stores : Ghosts B) where
  -- what is held or named stays so where what is held stays held
  pub used_then : (old new : B) → ((n : ℕ) → stores.held old n ≡ true → stores.held new n ≡ true) → stores.kept_names new ≡ stores.kept_names old
      → (n : ℕ) → IsTrue (stores.held old n || stores.kept_names old n) → IsTrue (stores.held new n || stores.kept_names new n)
  used_then old new stays same n used = or_true (stores.held old n) (stores.kept_names old n) (stores.held new n) (stores.kept_names new n) (stays n) (λ is. ap (λ (f : ℕ → Bool). f n) same ∙ is) used
    where
      or_true : (a b c d : Bool) → (a ≡ true → c ≡ true) → (b ≡ true → d ≡ true) → (a || b) ≡ true → (c || d) ≡ true
      or_true true b c d f g h = (let t = f refl in rw t refl)
      or_true false b c d f g h = elim c as (λ x. (x || d) ≡ true) [ true ↦ refl | false ↦ g h ]

  -- no block is taken yet
  pub none_taken : (table : List ℕ) (b : B) → ((p : ℕ) → slice_index table p ≡ 0) → TakesBlocks stores 0 table b b
  none_taken table b empty = record {
    fresh = λ p some. absurd (some (empty p));
    now_held = λ p some. absurd (some (empty p));
    apart = λ p q some same. absurd (some (empty p));
    others = λ n held. inl held;
    stays = λ n held. held;
    same_kept = refl;
    same_words = λ t n used not. refl;
    free_is = omega arith;
  }

  module _ (many page : ℕ) (words table then_table : List ℕ) (old mid new : B) (w : TakesBlocks stores many table old mid) (one : PlacesOne stores page words table then_table mid new)
      (was_none : slice_index table page ≡ 0) where
    pub here : slice_index then_table page ≡ one.block
    here = ap (λ (t : List ℕ). slice_index t page) one.is_set ∙ get_or-set_same table page one.block 0 one.within

    pub there : (p : ℕ) → p ≢ page → slice_index then_table p ≡ slice_index table p
    there p other = ap (λ (t : List ℕ). slice_index t p) one.is_set ∙ get_or-set_other table page p one.block 0 other

    held_then : (n : ℕ) → stores.held new n ≡ put (stores.held mid) one.block true n
    held_then n = ap (λ (f : ℕ → Bool). f n) one.is_held

    still : (n : ℕ) → stores.held mid n ≡ true → stores.held new n ≡ true
    still n h = by_eq n one.block (λ is. held_then n ∙ put_same (stores.held mid) one.block true n is) (λ other. held_then n ∙ (put_other (stores.held mid) one.block true n other ∙ h))

    not_block : (n : ℕ) → stores.held mid n ≡ true → n ≡ one.block → ⊥
    not_block n h is = false≢true (sym (ap (stores.held mid) is ∙ one.was_free) ∙ h)

    at_page : (p : ℕ) → p ≡ page → slice_index then_table p ≡ one.block
    at_page p same = ap (slice_index then_table) same ∙ here

    not_before : (n : ℕ) → stores.held mid n ≡ false → stores.held old n ≡ false
    not_before n h = by_test (stores.held old n) refl
      where
        by_test : (t : Bool) → stores.held old n ≡ t → stores.held old n ≡ false
        by_test true e = absurd (false≢true (sym h ∙ w.stays n e))
        by_test false e = e

    -- the words of another page's block are as they were
    pub stay_words : stores.tells → (p : ℕ) → slice_index table p ≢ 0 → stores.words new (slice_index table p) ≡ stores.words mid (slice_index table p)
    stay_words t p some = one.same_words t (slice_index table p) (let held = w.now_held p some in rw held refl) (λ no. no)

    pub taken_more : TakesBlocks stores (many + 1) then_table old new
    taken_more = record {
      fresh = λ p has. by_eq p page
          (λ same. (
            subst (λ n. stores.held old n ≡ false) (sym (at_page p same)) (not_before one.block one.was_free),
            subst (λ n. stores.kept_names old n ≡ false) (sym (at_page p same)) (ap (λ (f : ℕ → Bool). f one.block) (sym w.same_kept) ∙ one.not_kept),
          ))
          (λ other. (let e = there p other in let f = w.fresh p (λ none. has (e ∙ none)) in (subst (λ n. stores.held old n ≡ false) (sym e) f.0, subst (λ n. stores.kept_names old n ≡ false) (sym e) f.1)));
      now_held = λ p has. by_eq p page
          (λ same. held_then (slice_index then_table p) ∙ put_same (stores.held mid) one.block true (slice_index then_table p) (at_page p same))
          (λ other. (let e = there p other in subst (λ n. stores.held new n ≡ true) (sym e) (still (slice_index table p) (w.now_held p (λ none. has (e ∙ none))))));
      apart = λ p r has same. by_eq p page
          (λ first. by_eq r page
          (λ second. first ∙ sym second)
          (λ second. (let at_r : slice_index table r ≡ one.block = sym (there r second) ∙ (sym same ∙ at_page p first) in
          absurd (not_block (slice_index table r) (w.now_held r (λ none. one.some (sym at_r ∙ none))) at_r))))
          (λ first. by_eq r page
          (λ second. (let at_p : slice_index table p ≡ one.block = sym (there p first) ∙ (same ∙ at_page r second) in
          absurd (not_block (slice_index table p) (w.now_held p (λ none. one.some (sym at_p ∙ none))) at_p)))
          (λ second. w.apart p r (λ none. has (there p first ∙ none)) (sym (there p first) ∙ (same ∙ there r second))));
      others = λ n h. by_eq n one.block
          (λ is. inr (page, (λ none. one.some (sym is ∙ none)), here ∙ sym is))
          (λ other. elim (w.others n (sym (put_other (stores.held mid) one.block true n other) ∙ (sym (held_then n) ∙ h))) as (λ _. (stores.held old n ≡ true) ⊎ ((p : ℕ) × (n ≢ 0) × (slice_index then_table p ≡ n))) [
            | inl was ↦ inl was
            | inr m ↦ inr (m.0, m.1, there m.0 (λ e. m.1 (sym m.2 ∙ (ap (slice_index table) e ∙ was_none))) ∙ m.2)
          ]);
      stays = λ n h. still n (w.stays n h);
      same_kept = one.same_kept ∙ w.same_kept;
      same_words = λ t n used not. one.same_words t n (used_then old mid w.stays w.same_kept n used) not ∙ w.same_words t n used not;
      free_is = (let a = w.free_is in let b = one.free_is in omega (arith, a, b));
    }

  -- CALLS GO ON

  pub goes_nowhere : (b : B) → stores.Pages b b → GoesOn stores b b (Ok (tt {0}))
  goes_nowhere b stays = record { between = stays; later = omega arith; kept = refl; same_shut = refl; failed = tt }

  pub goes_failed : {T S : Type 0} (a b : B) (e : PageFault) (result : Result S PageFault) → IsErr result → GoesOn {T = T} stores a b (Err e) → GoesOn stores a b result
  goes_failed a b e (Ok y) is went = absurd (false≢true is)
  goes_failed a b e (Err d) is went = record { between = went.between; later = went.later; kept = went.kept; same_shut = tt; failed = went.failed }

  module _ (goes : (a b c : B) → stores.Pages a b → stores.Pages b c → stores.Pages a c) (a b c : B) where
    pub goes_further : {T S : Type 0} (x : T) (result : Result S PageFault) → GoesOn stores a b (Ok x) → GoesOn stores b c result → GoesOn stores a c result
    goes_further x (Ok y) first second = record {
      between = goes a b c first.between second.between;
      later = (let one = first.later in let two = second.later in omega (arith, one, two));
      kept = second.kept ∙ first.kept;
      same_shut = second.same_shut ∙ first.same_shut;
      failed = tt;
    }
    goes_further x (Err e) first second = record {
      between = goes a b c first.between second.between;
      later = (let one = first.later in let two = second.later in omega (arith, one, two));
      kept = second.kept ∙ first.kept;
      same_shut = tt;
      failed = λ unshut. (let f = second.failed (first.same_shut ∙ unshut) in (Rose-before (stores.faults a) (stores.faults b) (stores.faults c) first.later second.later f.0, f.1));
    }

  -- a read that failed is a failed call
  pub read_goes : {T : Type 0} (a b : B) (result : Result T PageFault) → stores.Pages a b → stores.kept_names b ≡ stores.kept_names a
      → HasPageCause (stores.faults a) (stores.faults b) (stores.is_shut a) (stores.is_shut b) result → IfErr result IsReadFault → GoesOn stores a b result
  read_goes a b (Ok x) between kept cause fault = record { between = between; later = cause.later; kept = kept; same_shut = cause.same_on_ok; failed = tt }
  read_goes a b (Err e) between kept cause fault = record {
    between = between;
    later = cause.later;
    kept = kept;
    same_shut = tt;
    failed = λ unshut. elim fault as (λ _. Rose (stores.faults a) (stores.faults b) × (stores.is_shut b ≡ true)) [
      | inl read ↦ cause.read (ap (λ d. Err d) read)
      | inr shut ↦ absurd (false≢true (sym unshut ∙ cause.was (ap (λ d. Err d) shut)))
    ];
  }
