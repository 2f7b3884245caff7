-- What the chronicle and a share know after they told each other.
use Rattle.std.proofs.Common.{Bool, true, cond, ◌≡◌, ◌≢◌, ℕ, ◌+◌, List, [], ◌∷◌, ◌++◌, refl, ap, sym, ◌∙◌, subst, arith}
use mathlib.Core.List.{IsPrefix}
use mathlib.Core.Logic.{dite}
use native.Mathlib.Decide.{ℕ_discrete}
use Rattle.thread_history.specs.declared.views.View.{View}
use Rattle.thread_history.specs.declared.views.Role.TheVariants.{Chronicler, Share}
use Rattle.thread_history.specs.Rules.{concerning, told_of, tell, told_with, since_with, back_with, note_left, note_right, note_role, note_list, with_note, longer, Shows, announced_view, share_view}
use Rattle.thread_history.specs.Seats.{IsChronicle, IsShareOf, IsShare, Heard, Announced}
use Rattle.thread_history.proofs.Lists.{prefix_both, concerning_prefix, longer_begun, longer_first, tell_here, tell_else}

module _ {A : Type 0} where
  -- the chronicle after it took in a note of the share x, whose list is l
  module _ (c s : View A) (x : ℕ) (is_c : c.role ≡ Chronicler) (is_s : s.role ≡ Share x) where
    pub taken_since : (with_note c (note_right s)).since ≡ c.since
    taken_since = ap (λ r. since_with r c.since s.since) is_c

    pub taken_back : (with_note c (note_right s)).back ≡ c.back
    taken_back = ap (λ r. back_with r (note_role s.role) c.back) is_c ∙ ap (λ r. back_with Chronicler (note_role r) c.back) is_s

    pub taken_told : (with_note c (note_right s)).told ≡ tell c.told x (longer (told_of c.told x) s.list)
    taken_told = ap (λ r. told_with r (note_role s.role) c.told (note_list s.role s.list)) is_c ∙ ap (λ r. told_with Chronicler (note_role r) c.told (note_list r s.list)) is_s

  -- told of x alone
  pub told_at : (ls : List (List A)) (x : ℕ) (m : List A) (f : ℕ → List A) → m ≡ f x → ((y : ℕ) → y ≢ x → told_of ls y ≡ f y) → (y : ℕ) → told_of (tell ls x m) y ≡ f y
  told_at ls x m f here elsewhere y = dite (ℕ_discrete y x) (λ e. ap (told_of (tell ls x m)) e ∙ tell_here ls x m ∙ here ∙ ap f (sym e)) (λ ne. tell_else ls x y m ne ∙ elsewhere y ne)

module _ {A : Type 0} (concerns : A → ℕ → Bool) where
  module _ (c s : View A) (x : ℕ) (chronicle : IsChronicle concerns c) (share : IsShareOf concerns x s) where
    abbrev c1 : View A
    c1 = with_note c (note_right s)

    abbrev s1 : View A
    s1 = with_note (note_left s) (note_right c1)

    knows_it : Shows concerns c1 c1.role → IsPrefix s.since c.since
    knows_it h = subst (λ es. IsPrefix s.since es) (taken_since c s x chronicle.role share.role) (subst (Shows concerns c1) chronicle.role h).0

    share_since : IsPrefix s.since c.since → s1.since ≡ c.since
    share_since p = ap (λ r. since_with r s.since c1.since) share.role ∙ ap (longer s.since) (taken_since c s x chronicle.role share.role) ∙ longer_begun s.since c.since p

    -- the list is all that there is of x
    share_list : IsPrefix s.since c.since → Shows concerns s1 s1.role → s.list ≡ concerning concerns x c.since
    share_list p h =
        let q : IsPrefix (concerning concerns x c.since) s.list = subst (λ es. IsPrefix (concerning concerns x es) s.list) (share_since p) (subst (Shows concerns s1) share.role h) in
        prefix_both s.list (concerning concerns x c.since) (subst (λ l. IsPrefix l (concerning concerns x c.since)) (sym share.list) (concerning_prefix concerns x s.since c.since p)) q

    share_whole : Shows concerns c1 c1.role → Shows concerns s1 s1.role → IsShareOf concerns x s1
    share_whole h k = let p = knows_it h in record { role = share.role; list = share_list p k ∙ ap (concerning concerns x) (sym (share_since p)) }

    -- what the chronicle was told stays
    chronicle_told : Shows concerns c1 c1.role → Shows concerns s1 s1.role → (y : ℕ) → told_of c1.told y ≡ concerning concerns y c.since
    chronicle_told h k y =
        let list = share_list (knows_it h) k in
        let same : longer (told_of c.told x) s.list ≡ concerning concerns x c.since = ap (λ l. longer l s.list) (chronicle.told x) ∙ ap (longer (concerning concerns x c.since)) list ∙ longer_first (concerning concerns x c.since) (concerning concerns x c.since) (omega arith) in
        ap (λ ls. told_of ls y) (taken_told c s x chronicle.role share.role) ∙ told_at c.told x (longer (told_of c.told x) s.list) (λ z. concerning concerns z c.since) same (λ z ne. chronicle.told z) y

    chronicle_heard : Shows concerns c1 c1.role → Shows concerns s1 s1.role → IsChronicle concerns (note_left c1) × ((note_left c1).since ≡ c.since)
    chronicle_heard h k =
        let since = taken_since c s x chronicle.role share.role in
        (record { role = chronicle.role; told = λ y. chronicle_told h k y ∙ ap (concerning concerns y) (sym since); back = taken_back c s x chronicle.role share.role ∙ chronicle.back }, since)

  -- the two after the share heard of the chronicle's history
  pub both_heard : (c s cut_s n d0 d1 c2 m t1 s2 : View A) → IsChronicle concerns c → IsShare concerns s
      → cut_s ≡ note_left s → n ≡ note_right s → d0 ≡ with_note c n → d1 ≡ d0 → Shows concerns d0 d0.role → c2 ≡ note_left d1 → m ≡ note_right d1 → t1 ≡ with_note cut_s m → s2 ≡ t1 → Shows concerns t1 t1.role
      → Heard concerns c.since s s2 × IsChronicle concerns c2 × (c2.since ≡ c.since)
  both_heard c s cut_s n d0 d1 c2 m t1 s2 chronicle share e_cut e_n e_d0 e_d1 h e_c2 e_m e_s1 e_s2 k =
      let C1 = with_note c (note_right s) in
      let is_d0 : d0 ≡ C1 = e_d0 ∙ ap (with_note c) e_n in
      let is_d1 : d1 ≡ C1 = e_d1 ∙ is_d0 in
      let is_m : m ≡ note_right C1 = e_m ∙ ap note_right is_d1 in
      let S1 = with_note (note_left s) (note_right C1) in
      let is_s1 : t1 ≡ S1 = e_s1 ∙ ap (λ v. with_note v m) e_cut ∙ ap (with_note (note_left s)) is_m in
      let H : Shows concerns C1 C1.role = subst (λ v. Shows concerns v v.role) is_d0 h in
      let K : Shows concerns S1 S1.role = subst (λ v. Shows concerns v v.role) is_s1 k in
      let x = share.0 in
      let p = knows_it c s x chronicle share.1 H in
      let heard : Heard concerns c.since s S1 = record { role = refl; since = share_since c s x chronicle share.1 p; list = refl; longer = p; whole = λ y is. share_whole c s y chronicle is H K } in
      let after = chronicle_heard c s x chronicle share.1 H K in
      let is_c2 : c2 ≡ note_left C1 = e_c2 ∙ ap note_left is_d1 in
      (subst (Heard concerns c.since s) (sym (e_s2 ∙ is_s1)) heard, subst (IsChronicle concerns) (sym is_c2) after.0, ap (λ v. v.since) is_c2 ∙ after.1)

  -- the share announced e, and the chronicle took in its note
  pub both_announced : (x : ℕ) (e : A) (c s s' t n d : View A) → c.role ≡ Chronicler → IsShareOf concerns x s → told_of c.told x ≡ concerning concerns x c.since → s.since ≡ c.since
      → s' ≡ announced_view e s → t ≡ note_left s' → n ≡ note_right s' → d ≡ with_note c n → Announced concerns x e c s d t
  both_announced x e c s s' t n d is_c share was same e_s' e_t e_n e_d =
      let S = announced_view e s in
      let is_n : n ≡ note_right S = e_n ∙ ap note_right e_s' in
      let is_d : d ≡ with_note c (note_right S) = e_d ∙ ap (with_note c) is_n in
      let is_t : t ≡ note_left S = e_t ∙ ap note_left e_s' in
      let list : s.list ++ e ∷ [] ≡ concerning concerns x c.since ++ e ∷ [] = ap (λ l. l ++ e ∷ []) (share.list ∙ ap (concerning concerns x) same) in
      let told = ap (λ v. v.told) is_d ∙ taken_told c S x is_c share.role in
      let next : longer (told_of c.told x) (s.list ++ e ∷ []) ≡ concerning concerns x c.since ++ e ∷ [] =
      ap (λ l. longer l (s.list ++ e ∷ [])) was ∙ ap (longer (concerning concerns x c.since)) list ∙ longer_begun (concerning concerns x c.since) (concerning concerns x c.since ++ e ∷ []) (e ∷ [], refl) in
      record {
        chronicle_role = ap (λ v. v.role) is_d;
        chronicle_since = ap (λ v. v.since) is_d ∙ taken_since c S x is_c share.role;
        chronicle_back = ap (λ v. v.back) is_d ∙ taken_back c S x is_c share.role;
        told = λ y ne. ap (λ ls. told_of ls y) told ∙ tell_else c.told x y (longer (told_of c.told x) (s.list ++ e ∷ [])) ne;
        told_next = ap (λ ls. told_of ls x) told ∙ tell_here c.told x (longer (told_of c.told x) (s.list ++ e ∷ [])) ∙ next;
        role = ap (λ v. v.role) is_t;
        since = ap (λ v. v.since) is_t;
        list = ap (λ v. v.list) is_t;
      }

  -- the share took in a note of the chronicle
  pub both_caught_up : (x : ℕ) (c s d n t : View A) → IsChronicle concerns c → s.role ≡ Share x → IsPrefix s.since c.since
      → d ≡ note_left c → n ≡ note_right c → t ≡ with_note s n → IsChronicle concerns d × (d.since ≡ c.since) × (t.role ≡ s.role) × (t.since ≡ c.since) × (t.list ≡ s.list)
  both_caught_up x c s d n t chronicle share p e_d e_n e_t =
      let is_t : t ≡ with_note s (note_right c) = e_t ∙ ap (with_note s) e_n in (
        subst (IsChronicle concerns) (sym e_d) record { role = chronicle.role; told = chronicle.told; back = chronicle.back },
        ap (λ v. v.since) e_d,
        ap (λ v. v.role) is_t,
        ap (λ v. v.since) is_t ∙ ap (λ r. since_with r s.since c.since) share ∙ longer_begun s.since c.since p,
        ap (λ v. v.list) is_t,
      )

  -- a note of the chronicle became the share of the next number, and gave back the right to enrol
  pub both_enrolled : (c c1 n s t r d : View A) (k : ℕ) → IsChronicle concerns c → c.since ≡ [] → c.enrols ≡ true
      → c1 ≡ note_left c → n ≡ note_right c → s ≡ share_view k n → k ≡ n.shares → t ≡ note_left s → r ≡ note_right s → d ≡ with_note c1 r
      → IsChronicle concerns d × (d.since ≡ []) × (d.enrols ≡ true) × (d.shares ≡ c.shares + 1) × IsShareOf concerns c.shares t × (t.since ≡ [])
  both_enrolled c c1 n s t r d k chronicle empty right e_c1 e_n e_s e_k e_t e_r e_d =
      let is_k : k ≡ c.shares = e_k ∙ ap (λ v. v.shares) e_n in
      let S : View A = share_view k (note_right c) in
      let is_s : s ≡ S = e_s ∙ ap (share_view k) e_n in
      let is_r : r ≡ note_right S = e_r ∙ ap note_right is_s in
      let C : View A = note_left c in
      let is_d : d ≡ with_note C (note_right S) = e_d ∙ ap (λ v. with_note v r) e_c1 ∙ ap (with_note C) is_r in
      let since : d.since ≡ [] = ap (λ v. v.since) is_d ∙ taken_since C S k chronicle.role refl ∙ empty in
      let told : (y : ℕ) → told_of d.told y ≡ concerning concerns y d.since = λ y.
      ap (λ v. told_of v.told y) is_d ∙ ap (λ ls. told_of ls y) (taken_told C S k chronicle.role refl)
      ∙ told_at c.told k (longer (told_of c.told k) []) (λ z. concerning concerns z c.since) (longer_first (told_of c.told k) [] (omega arith) ∙ chronicle.told k) (λ z ne. chronicle.told z) y
      ∙ ap (concerning concerns y) (empty ∙ sym since) in
      let is_t : t ≡ note_left S = e_t ∙ ap note_left is_s in (
        record { role = ap (λ v. v.role) is_d ∙ chronicle.role; told = told; back = ap (λ v. v.back) is_d ∙ taken_back C S k chronicle.role refl ∙ chronicle.back },
        since,
        ap (λ v. v.enrols) is_d ∙ right,
        ap (λ v. v.shares) is_d ∙ ap (λ b. cond b (k + 1) c.shares) right ∙ ap (λ (m : ℕ). m + 1) is_k,
        record { role = ap (λ v. v.role) is_t ∙ ap Share is_k; list = ap (λ v. v.list) is_t ∙ ap (concerning concerns c.shares) (sym empty) ∙ ap (λ v. concerning concerns c.shares v.since) (sym is_t) },
        ap (λ v. v.since) is_t ∙ empty,
      )
