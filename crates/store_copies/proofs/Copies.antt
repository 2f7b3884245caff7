-- The images of a copy.
use Rattle.std.proofs.Common.{◌≡◌, ◌≢◌, ℕ, ◌+◌, Bool, true, false, ◌==◌, if◌then◌else◌, List, [], ◌∷◌, ◌++◌, refl, sym, ap, subst, ◌∙◌, arith, eqb-true, eq-eqb}
use Rattle.std.specs.Prelude.{Contains}
use Rattle.std.specs.List.{AllByRecursion}
use Rattle.std.proofs.lemmas.Bool.{false≢true}
use Rattle.std.proofs.lemmas.List.Elements.{Contains-append_left}
use Rattle.store_told.specs.model_kernel.Choices.{Commit, IsGreatest}
use Rattle.store_told.specs.model_kernel.State.{EntityState, KernelState, Supply, Text}
use Rattle.store_told.specs.model_cut_laws.Agreeing.{nothing}
use Rattle.store_told.specs.model_cut_laws.Records.{commit_of, commits_of}
use Rattle.store_told.specs.image_meaning.Stores.{Kept, recs_of}
use Rattle.store_told.specs.Told.{ArePagesApart, IsChosenState, IsToldRecord}
use Rattle.store_told.proofs.Telling.{told_meant}
use Rattle.model_copies.specs.Copies.{IsCopied}
use Rattle.model_copies.specs.Needing.{AreAtMost, LeavesCopy, NeedEachOther, commit_in}
use Rattle.model_copies.proofs.Copying.{leaves, need, sound}
use Rattle.model_copies.proofs.Needs.{both_taken, first_alone}
use Rattle.store_copies.specs.Images.{AreRecordsOf, IsAtlasRecord, IsCopyRecord, IsMeantState, MeansBefore, MeansCopy, TellsIn}

-- LISTS

commits_more : (ks ms : List Kept) → commits_of (recs_of (ks ++ ms)) ≡ commits_of (recs_of ks) ++ commits_of (recs_of ms)
commits_more [] ms = refl
commits_more (k ∷ ks) ms = ap (λ (cs : List Commit). commit_of k.rec ∷ cs) (commits_more ks ms)

each_more : {A : Type 0} (P : A → Type 0) (xs ys : List A) → AllByRecursion P xs → AllByRecursion P ys → AllByRecursion P (xs ++ ys)
each_more P [] ys a b = b
each_more P (x ∷ xs) ys (one, a) b = (one, each_more P xs ys a b)

each_so : {A : Type 0} (P Q : A → Type 0) (xs : List A) → ((x : A) → P x → Q x) → AllByRecursion P xs → AllByRecursion Q xs
each_so P Q [] f all = tt
each_so P Q (x ∷ xs) f all = (f x all.0, each_so P Q xs f all.1)

contained : {A : Type 0} (xs ys : List A) (x : A) → Contains xs x → Contains (xs ++ ys) x
contained xs ys x within = Contains-append_left xs ys x within

-- a part of the records stands apart too
fewer_apart : (count : ℕ) (ks ms : List Kept) → ArePagesApart count (ks ++ ms) → ArePagesApart count ks
fewer_apart count ks ms p = record {
  pool = λ k n within has. p.pool k n (contained ks ms k within) has;
  not_blob = λ k m n one two has named. p.not_blob k m n (contained ks ms k one) (contained ks ms m two) has named;
  own = λ k m n one two has also. p.own k m n (contained ks ms k one) (contained ks ms m two) has also;
}

-- RECORDS OF TWO STATES

-- what x is at a version: as in the one state at its version there, and else as in the other
thing : KernelState → KernelState → ℕ → ℕ → EntityState
thing v w x n = if (v x).version == n then v x else w x

thing_first : (v w : KernelState) (x n : ℕ) → (v x).version ≡ n → thing v w x n ≡ v x
unfolding thing
thing_first v w x n is = (let t = eq-eqb (v x).version n is in ap (λ (b : Bool). if b then v x else w x) t)

thing_second : (v w : KernelState) (x n : ℕ) → ((v x).version ≡ n → ⊥) → thing v w x n ≡ w x
unfolding thing
thing_second v w x n differs = by_test ((v x).version == n) refl
  where
    by_test : (b : Bool) → ((v x).version == n) ≡ b → (if b then v x else w x) ≡ w x
    by_test true e = absurd (differs (eqb-true (v x).version n e))
    by_test false e = refl

-- a record tells what its entity is at its version
tells_thing : (s : Supply) (u : KernelState) (at : ℕ → ℕ → EntityState) (k : Kept) → at k.rec.entity k.rec.version ≡ u k.rec.entity → TellsIn s u k → IsToldRecord s at k
tells_thing s u at k here t = record {
  components = t.components;
  part = t.part;
  describes = record {
    spells = t.describes.spells;
    cell = ap (λ (e : EntityState). e.cell) here ∙ t.describes.cell;
    version = ap (λ (e : EntityState). e.version) here ∙ t.describes.version;
    stamp = ap (λ (e : EntityState). e.stamp) here ∙ t.describes.stamp;
  };
  once = t.once;
}

commit_is : (s : Supply) (u : KernelState) (k : Kept) (x : ℕ) → k.rec.entity ≡ x → TellsIn s u k → commit_of k.rec ≡ commit_in u x
commit_is s u k x is t =
    let version : k.rec.version ≡ (u k.rec.entity).version = sym t.describes.version in
    let stamp = sym t.describes.stamp in
    let own : commit_of k.rec ≡ commit_in u k.rec.entity = λ i. record { entity = k.rec.entity; version = version i; stamp = stamp i } in
    own ∙ ap (commit_in u) is

low : (s : Supply) (v : KernelState) (js : List Kept) → AllByRecursion (TellsIn s v) js → AreAtMost (λ x. (v x).version) (commits_of (recs_of js))
low s v [] all = tt
low s v (k ∷ js) all = ((let e = all.0.describes.version in omega (arith, e)), low s v js all.1)

module _ (s : Supply) (name fresh : Text) (v w : KernelState) (count : ℕ) (ks : List Kept) (a : Kept) (m : IsMeantState s v) (h : IsCopied name fresh v w)
    (r : AreRecordsOf s v ks) (n : IsAtlasRecord s w a) where
  at : ℕ → ℕ → EntityState
  at = thing v w

  p : ℕ → ℕ
  p x = (v x).version

  q : ℕ → ℕ
  q x = (w x).version

  l : LeavesCopy name fresh v w
  l = leaves s name fresh v w m.sound h

  each_old : AllByRecursion (IsToldRecord s at) ks
  unfolding at
  each_old = each_so (TellsIn s v) (IsToldRecord s at) ks (λ k t. tells_thing s v (thing v w) k (thing_first v w k.rec.entity k.rec.version t.describes.version) t) r.each

  atlas_told : IsToldRecord s at a
  unfolding at l
  atlas_told = tells_thing s w (thing v w) a (thing_second v w a.rec.entity a.rec.version (λ e.
      let one = subst (λ x. (v x).version ≡ a.rec.version) n.is_atlas e in
      let two = subst (λ x. (w x).version ≡ a.rec.version) n.is_atlas n.tells.describes.version in
      let more = l.atlas_version in
      let no : ⊥ = omega (arith, one, two, more) in no)) n.tells

  needing : NeedEachOther p q (commit_in w 0) (commit_in w l.number)
  unfolding p q l
  needing = need s name fresh v w m.sound h (leaves s name fresh v w m.sound h)

  one_greatest : IsGreatest nothing (commits_of (recs_of (ks ++ a ∷ []))) p
  unfolding p
  one_greatest =
      let is : commits_of (recs_of (ks ++ a ∷ [])) ≡ commits_of (recs_of ks) ++ commit_in w 0 ∷ [] = commits_more ks (a ∷ []) ∙ ap (λ (c : Commit). commits_of (recs_of ks) ++ c ∷ []) (commit_is s w a 0 n.is_atlas n.tells) in
      subst (λ (cs : List Commit). IsGreatest nothing cs p) (sym is) (first_alone p q (commits_of (recs_of ks)) (commit_in w 0) (commit_in w l.number) r.greatest (low s v ks r.each) needing)

  first_state : IsChosenState at p v
  unfolding at p
  first_state = record {
    same = λ x. sym (thing_first v w x (v x).version refl);
    unwritten = m.unwritten;
    sound = m.sound.sound;
  }

  pub before : ArePagesApart count (ks ++ a ∷ []) → MeansBefore s v count ks a
  unfolding p
  before apart = record {
    greatest = one_greatest;
    none = λ c st. told_meant s at count ks p v c st each_old (fewer_apart count ks (a ∷ []) apart) r.greatest first_state;
    one = λ c st. told_meant s at count (ks ++ a ∷ []) p v c st (each_more (IsToldRecord s at) ks (a ∷ []) each_old (atlas_told, tt)) apart one_greatest first_state;
  }

  module _ (b : Kept) (o : IsCopyRecord s name fresh v w b) where
    copy_told : IsToldRecord s at b
    unfolding at
    copy_told = tells_thing s w (thing v w) b (thing_second v w b.rec.entity b.rec.version (λ e.
        let one = subst (λ x. (v x).version ≡ b.rec.version) o.is_copy e in
        let two = subst (λ x. (w x).version ≡ b.rec.version) o.is_copy o.tells.describes.version in
        let was = o.leaves.unborn in
        let now = o.leaves.copy_version in
        let no : ⊥ = omega (arith, one, two, was, now) in no)) o.tells

    need_there : NeedEachOther p q (commit_in w 0) (commit_in w o.leaves.number)
    unfolding p q
    need_there = need s name fresh v w m.sound h o.leaves

    both_greatest : IsGreatest nothing (commits_of (recs_of (ks ++ a ∷ b ∷ []))) q
    unfolding p
    both_greatest =
        let pair : commits_of (recs_of (a ∷ b ∷ [])) ≡ commit_in w 0 ∷ commit_in w o.leaves.number ∷ [] =
        (λ i. commit_is s w a 0 n.is_atlas n.tells i ∷ commit_is s w b o.leaves.number o.is_copy o.tells i ∷ []) in
        let is : commits_of (recs_of (ks ++ a ∷ b ∷ [])) ≡ commits_of (recs_of ks) ++ commit_in w 0 ∷ commit_in w o.leaves.number ∷ [] = commits_more ks (a ∷ b ∷ []) ∙ ap (λ (cs : List Commit). commits_of (recs_of ks) ++ cs) pair in
        subst (λ (cs : List Commit). IsGreatest nothing cs q) (sym is) (both_taken p q (commits_of (recs_of ks)) (commit_in w 0) (commit_in w o.leaves.number) r.greatest (low s v ks r.each) need_there)

    by_place : {A : Type 0} (x : ℕ) → (0 ≡ x → A) → (o.leaves.number ≡ x → A) → (0 ≢ x → o.leaves.number ≢ x → A) → A
    by_place {A = A} x zero_is is other = by_first (0 == x) refl
      where
        by_second : (t : Bool) → (o.leaves.number == x) ≡ t → (0 == x) ≡ false → A
        by_second true e f = is (eqb-true o.leaves.number x e)
        by_second false e f = other (λ z. false≢true (sym f ∙ eq-eqb 0 x z)) (λ z. false≢true (sym e ∙ eq-eqb o.leaves.number x z))

        by_first : (t : Bool) → (0 == x) ≡ t → A
        by_first true e = zero_is (eqb-true 0 x e)
        by_first false e = by_second (o.leaves.number == x) refl e

    second_state : IsChosenState at q w
    unfolding at q
    second_state = record {
      same = λ x. by_place x
          (λ is. sym (thing_second v w x (w x).version (λ e. (let more = subst (λ y. (w y).version ≡ (v y).version + 1) is o.leaves.atlas_version in let no : ⊥ = omega (arith, e, more) in no))))
          (λ is. sym (thing_second v w x (w x).version (λ e. (let was = subst (λ y. (v y).version ≡ 0) is o.leaves.unborn in let now = subst (λ y. (w y).version ≡ 1) is o.leaves.copy_version in let no : ⊥ = omega (arith, e, was, now) in no))))
          (λ one two. (let same = o.leaves.others x one two in same ∙ sym (thing_first v w x (w x).version (ap (λ (e : EntityState). e.version) (sym same)))));
      unwritten = λ x zero_is. by_place x
          (λ is. (let more = subst (λ y. (w y).version ≡ (v y).version + 1) is o.leaves.atlas_version in let no : ⊥ = omega (arith, zero_is, more) in absurd no))
          (λ is. (let now = subst (λ y. (w y).version ≡ 1) is o.leaves.copy_version in let no : ⊥ = omega (arith, zero_is, now) in absurd no))
          (λ one two. (let same = o.leaves.others x one two in same ∙ m.unwritten x (ap (λ (e : EntityState). e.version) (sym same) ∙ zero_is)));
      sound = (sound s name fresh v w m.sound h).sound;
    }

    pub after : ArePagesApart count (ks ++ a ∷ b ∷ []) → MeansCopy s w count ks a b
    unfolding q
    after apart = record {
      greatest = both_greatest;
      both = λ c st. told_meant s at count (ks ++ a ∷ b ∷ []) q w c st (each_more (IsToldRecord s at) ks (a ∷ b ∷ []) each_old (atlas_told, (copy_told, tt))) apart both_greatest second_state;
    }
