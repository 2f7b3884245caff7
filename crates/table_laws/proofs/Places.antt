-- Elements of a list that is split for lending.
use Rattle.std.proofs.Common.{◌≡◌, ◌≢◌, ℕ, ◌-◌, ◌<◌, List, ◌++◌, length, get_or, slice_get, slice_set, Some, refl, sym, ap, ◌∙◌, arith, length-append}
use Rattle.cell_step_laws.proofs.plain_states_lemmas.CellLemmas.{slice_get-set_other, slice_get-set_same}
use Rattle.std.proofs.lemmas.Option.{slice_get-get_or}
use Rattle.std.proofs.lemmas.List.{get_or_append_left, get_or-append_right, length-set, set-append_left, set-append_right}

module _ {A : Type 0} where
  -- what is read of a part of the list is the list's
  pub read_front : (xs front back : List A) (n i : ℕ) (d : A) → xs ≡ front ++ back → length front ≡ n → i < n → slice_get xs i ≡ Some (get_or front i d)
  read_front xs front back n i d is len lt =
      let within : i < length (front ++ back) = simp length-append (omega arith) in
      ap (λ l. slice_get l i) is ∙ slice_get-get_or (front ++ back) i d within ∙ ap Some (get_or_append_left front back d i (omega arith))

  pub read_back : (xs front back : List A) (n : ℕ) (d : A) → xs ≡ front ++ back → length front ≡ n → n < length xs → slice_get xs n ≡ Some (get_or back 0 d)
  read_back xs front back n d is len within =
      let zero : n - n ≡ 0 = omega arith in
      slice_get-get_or xs n d within ∙ ap (λ l. Some (get_or l n d)) is ∙ ap Some (get_or-append_right front back n n d len (omega arith) ∙ ap (λ k. get_or back k d) zero)

  write_back : (front back : List A) (n : ℕ) (z : A) → length front ≡ n → front ++ slice_set back 0 z ≡ slice_set (front ++ back) n z
  write_back front back n z len =
      let zero : n - n ≡ 0 = omega arith in
      ap (λ k. front ++ slice_set back k z) (sym zero) ∙ sym (set-append_right front back n n z len (omega arith))

  -- both parts are written
  pub write_two : (xs front back : List A) (n i : ℕ) (y z : A) → xs ≡ front ++ back → length front ≡ n → i < n → slice_set front i y ++ slice_set back 0 z ≡ slice_set (slice_set xs i y) n z
  write_two xs front back n i y z is len lt =
      write_back (slice_set front i y) back n z (length-set front i y ∙ len)
      ∙ ap (λ l. slice_set l n z) (sym (set-append_left front back i y (omega arith)) ∙ ap (λ l. slice_set l i y) (sym is))

  -- the first part is split once more
  pub write_three : (xs front back first rest : List A) (n m i : ℕ) (x y z : A) → xs ≡ front ++ back → length front ≡ n → front ≡ first ++ rest → length first ≡ m → i < m → m < n
      → (slice_set first i x ++ slice_set rest 0 y) ++ slice_set back 0 z ≡ slice_set (slice_set (slice_set xs i x) m y) n z
  write_three xs front back first rest n m i x y z is len splits low lt apart =
      ap (λ l. l ++ slice_set back 0 z) (write_two front first rest m i x y splits low lt)
      ∙ write_back (slice_set (slice_set front i x) m y) back n z (length-set (slice_set front i x) m y ∙ length-set front i x ∙ len)
      ∙ ap (λ l. slice_set l n z)
      (sym (set-append_left (slice_set front i x) back m y (let same = length-set front i x in omega arith))
      ∙ ap (λ l. slice_set l m y) (sym (set-append_left front back i x (omega arith)) ∙ ap (λ l. slice_set l i x) (sym is)))

  -- WHAT STANDS IN THE LIST AFTER TWO OR THREE WRITES
  pub record HasSetTwo (xs ys : List A) (i j : ℕ) (x y : A) : Type 0 where
    pub len : length ys ≡ length xs
    pub first : slice_get ys i ≡ Some x
    pub second : slice_get ys j ≡ Some y
    pub others : (n : ℕ) → n ≢ i → n ≢ j → slice_get ys n ≡ slice_get xs n

  pub set_two : (xs ys : List A) (i j : ℕ) (x y : A) → ys ≡ slice_set (slice_set xs i x) j y → i < j → j < length xs → HasSetTwo xs ys i j x y
  set_two xs ys i j x y is lt within =
      let len = length-set xs i x in
      let more = length-set (slice_set xs i x) j y in
      record {
        len = ap length is ∙ more ∙ len;
        first = ap (λ l. slice_get l i) is ∙ slice_get-set_other (slice_set xs i x) j i y (λ e. absurd (omega (arith, e))) ∙ slice_get-set_same xs i x (omega arith);
        second = ap (λ l. slice_get l j) is ∙ slice_get-set_same (slice_set xs i x) j y (omega arith);
        others = λ n first second. ap (λ l. slice_get l n) is ∙ slice_get-set_other (slice_set xs i x) j n y (λ e. second (sym e)) ∙ slice_get-set_other xs i n x (λ e. first (sym e));
      }

  pub record HasSetThree (xs ys : List A) (i j k : ℕ) (x y z : A) : Type 0 where
    pub len : length ys ≡ length xs
    pub first : slice_get ys i ≡ Some x
    pub second : slice_get ys j ≡ Some y
    pub third : slice_get ys k ≡ Some z
    pub others : (n : ℕ) → n ≢ i → n ≢ j → n ≢ k → slice_get ys n ≡ slice_get xs n

  pub set_three : (xs ys : List A) (i j k : ℕ) (x y z : A) → ys ≡ slice_set (slice_set (slice_set xs i x) j y) k z → i < j → j < k → k < length xs → HasSetThree xs ys i j k x y z
  set_three xs ys i j k x y z is lt apart within =
      let two = set_two xs (slice_set (slice_set xs i x) j y) i j x y refl lt (omega arith) in
      let len = two.len in
      let other : (n : ℕ) → n ≢ k → slice_get ys n ≡ slice_get (slice_set (slice_set xs i x) j y) n =
      λ n differs. ap (λ l. slice_get l n) is ∙ slice_get-set_other (slice_set (slice_set xs i x) j y) k n z (λ e. differs (sym e)) in
      record {
        len = ap length is ∙ length-set (slice_set (slice_set xs i x) j y) k z ∙ two.len;
        first = other i (λ e. absurd (omega (arith, e))) ∙ two.first;
        second = other j (λ e. absurd (omega (arith, e))) ∙ two.second;
        third = ap (λ l. slice_get l k) is ∙ slice_get-set_same (slice_set (slice_set xs i x) j y) k z (omega arith);
        others = λ n first second third. other n third ∙ two.others n first second;
      }

  -- what is read of three parts
  pub read_first : (xs front back first rest : List A) (n m i : ℕ) (d : A) → xs ≡ front ++ back → length front ≡ n → front ≡ first ++ rest → length first ≡ m → i < m → m < n → slice_get xs i ≡ Some (get_or first i d)
  read_first xs front back first rest n m i d is len splits low lt apart =
      read_front xs front back n i d is len (omega arith) ∙ ap (λ l. Some (get_or l i d)) splits ∙ ap Some (get_or_append_left first rest d i (omega arith))

  pub read_middle : (xs front back first rest : List A) (n m : ℕ) (d : A) → xs ≡ front ++ back → length front ≡ n → front ≡ first ++ rest → length first ≡ m → m < n → slice_get xs m ≡ Some (get_or rest 0 d)
  read_middle xs front back first rest n m d is len splits low apart =
      let zero : m - m ≡ 0 = omega arith in
      read_front xs front back n m d is len apart ∙ ap (λ l. Some (get_or l m d)) splits
      ∙ ap Some (get_or-append_right first rest m m d low (omega arith) ∙ ap (λ k. get_or rest k d) zero)
