-- Marks as entries are added to a history.
use Rattle.std.proofs.Common.{◌≡◌, ℕ, zero, suc, ◌+◌, ◌*◌, ◌≤◌, ◌<◌, true, false, cond, List, [], ◌∷◌, ◌++◌, count_by, length, slice_get, Some, refl, sym, ap, subst, ◌∙◌, arith, ◌⊎◌, inl, inr, length-append, append_assoc}
use Rattle.std.proofs.lemmas.Bool.{false≢true}
use Rattle.base_types.specs.declared.histories.Entry.{Entry}
use Rattle.kernel_invariant.specs.Marks.{AreMarks, completes, is_step}
use Rattle.kernel_invariant.specs.Beginnings.{Beginning, completed}
use Rattle.kernel_invariant.proofs.Leaving.{get_front}
use Rattle.kernel_invariant.proofs.Marking.{count_append, count_cons}

-- a mark of a longer list is one of the front, or the last
pub get_more : (xs : List ℕ) (m i a : ℕ) → slice_get (xs ++ m ∷ []) i ≡ Some a → ((i < length xs) × (slice_get xs i ≡ Some a)) ⊎ ((i ≡ length xs) × (a ≡ m))
get_more [] m zero a e = inr (refl, cc)
get_more [] m (suc i) a e = cc
get_more (x ∷ xs) m zero a e = inl (omega arith, e)
get_more (x ∷ xs) m (suc i) a e = elim (get_more xs m i a e) as (λ _. ((suc i < suc (length xs)) × (slice_get (x ∷ xs) (suc i) ≡ Some a)) ⊎ ((suc i ≡ suc (length xs)) × (a ≡ m))) [
  | inl h ↦ inl ((let lt = h.0 in omega (arith, lt)), h.1)
  | inr h ↦ inr (ap suc h.0, h.1)
]

tail_clash : (fs gs : List Entry) (e : Entry) → [] ≡ fs ++ e ∷ gs → ⊥
tail_clash [] gs e h = cc
tail_clash (f ∷ fs) gs e h = cc

-- an entry of a longer history is its last, or one of before
last_split : (es : List Entry) (d : Entry) (fs : List Entry) (e : Entry) (gs : List Entry) → es ++ d ∷ [] ≡ fs ++ e ∷ gs → ((es ≡ fs) × (d ≡ e)) ⊎ ((hs : List Entry) × (es ≡ fs ++ e ∷ hs))
last_split [] d [] e gs h = inl (refl, cc)
last_split [] d (f ∷ fs) e gs h = absurd (tail_clash fs gs e (let t : [] ≡ fs ++ e ∷ gs = cc in t))
last_split (x ∷ es) d [] e gs h = (let same : x ≡ e = cc in inr (es, ap (λ y. y ∷ es) same))
last_split (x ∷ es) d (f ∷ fs) e gs h =
    let same : x ≡ f = cc in
    let rest : es ++ d ∷ [] ≡ fs ++ e ∷ gs = cc in
    elim (last_split es d fs e gs rest) as (λ _. ((x ∷ es ≡ f ∷ fs) × (d ≡ e)) ⊎ ((hs : List Entry) × (x ∷ es ≡ f ∷ fs ++ e ∷ hs))) [
      | inl k ↦ inl ((let t : es ≡ fs = k.0 in cc), k.1)
      | inr k ↦ inr (k.0, (let t : es ≡ fs ++ e ∷ k.0 = k.1 in cc))
    ]

module _ (b : Beginning) where
  abbrev pub Marked : List Entry → List ℕ → Type 0
  Marked es marks = AreMarks b.supply b.script b.state es marks

  -- an entry that completes no commit
  pub marks_stay : (es : List Entry) (e : Entry) (marks : List ℕ) → completes e ≡ false → Marked es marks → Marked (es ++ e ∷ []) marks
  marks_stay es e marks out k = record {
    each = (
        let sum = count_append es (e ∷ []) in
        let one : count_by completes (e ∷ []) ≡ 0 = count_cons e [] ∙ ap (λ d. cond d 1 0 + 0) out in
        let each = k.each in
        omega (arith, sum, one, each));
    rising = k.rising;
    bound = λ fs gs f m split done at. elim (last_split es e fs f gs split) as (λ _. m + 1600 * length (completed b []) ≤ 1600 * (length (completed b (fs ++ f ∷ [])) + 1) + count_by is_step fs) [
      | inl last ↦ absurd (false≢true (sym (ap completes (sym last.1) ∙ out) ∙ done))
      | inr before ↦ k.bound fs before.0 f m before.1 done at
    ];
  }

  -- one that does, with its mark behind the others
  pub marks_grow : (es : List Entry) (e : Entry) (marks : List ℕ) (m : ℕ) → completes e ≡ true → Marked es marks → ((i a : ℕ) → slice_get marks i ≡ Some a → a ≤ m)
      → m + 1600 * length (completed b []) ≤ 1600 * (length (completed b (es ++ e ∷ [])) + 1) + count_by is_step es → Marked (es ++ e ∷ []) (marks ++ m ∷ [])
  marks_grow es e marks m done k top few = record {
    each = (
        let sum = count_append es (e ∷ []) in
        let one : count_by completes (e ∷ []) ≡ 1 = count_cons e [] ∙ ap (λ d. cond d 1 0 + 0) done in
        let each = k.each in
        let len = length-append marks (m ∷ []) in
        omega (arith, sum, one, each, len));
    rising = λ i j a c le at there. elim (get_more marks m j c there) as (λ _. a ≤ c) [
      | inl before ↦ elim (get_more marks m i a at) as (λ _. a ≤ c) [
        | inl early ↦ k.rising i j a c le early.1 before.1
        | inr last ↦ (let is = last.0 in let lt = before.0 in absurd (omega (arith, is, lt, le)))
      ]
      | inr end ↦ elim (get_more marks m i a at) as (λ _. a ≤ c) [
        | inl early ↦ (let low = top i a early.1 in let is = end.1 in omega (arith, low, is))
        | inr last ↦ (let is = last.1 in let also = end.1 in omega (arith, is, also))
      ]
    ];
    bound = λ fs gs f a split is at. elim (last_split es e fs f gs split) as (λ _. a + 1600 * length (completed b []) ≤ 1600 * (length (completed b (fs ++ f ∷ [])) + 1) + count_by is_step fs) [
      | inl last ↦ (
          let place : count_by completes fs ≡ length marks = ap (count_by completes) (sym last.0) ∙ sym k.each in
          let same : a ≡ m = elim (get_more marks m (count_by completes fs) a at) as (λ _. a ≡ m) [
            | inl early ↦ (let lt = early.0 in absurd (omega (arith, lt, place)))
            | inr end ↦ end.1
          ] in
          let here = subst (λ (hs : List Entry). m + 1600 * length (completed b []) ≤ 1600 * (length (completed b (hs ++ e ∷ [])) + 1) + count_by is_step hs) last.0 few in
          let there = subst (λ (h : Entry). m + 1600 * length (completed b []) ≤ 1600 * (length (completed b (fs ++ h ∷ [])) + 1) + count_by is_step fs) last.1 here in
          omega (arith, there, same))
      | inr before ↦ (
          let sum : count_by completes es ≡ count_by completes fs + count_by completes (f ∷ before.0) = ap (count_by completes) before.1 ∙ count_append fs (f ∷ before.0) in
          let one : count_by completes (f ∷ before.0) ≡ 1 + count_by completes before.0 = count_cons f before.0 ∙ ap (λ d. cond d 1 0 + count_by completes before.0) is in
          let each = k.each in
          let within : count_by completes fs < length marks = omega (arith, sum, one, each) in
          elim (get_more marks m (count_by completes fs) a at) as (λ _. a + 1600 * length (completed b []) ≤ 1600 * (length (completed b (fs ++ f ∷ [])) + 1) + count_by is_step fs) [
            | inl early ↦ k.bound fs before.0 f a before.1 is early.1
            | inr end ↦ (let is = end.0 in absurd (omega (arith, is, within)))
          ])
    ];
  }

  -- those of a front of the history
  pub marks_front : (es ds : List Entry) (marks ms : List ℕ) → length marks ≡ count_by completes es → Marked (es ++ ds) (marks ++ ms) → Marked es marks
  marks_front es ds marks ms each k = record {
    each = each;
    rising = λ i j a c le at there. k.rising i j a c le (get_front marks ms i a at) (get_front marks ms j c there);
    bound = λ fs gs f m split done at. k.bound fs (gs ++ ds) f m (ap (λ hs. hs ++ ds) split ∙ append_assoc fs (f ∷ gs) ds) done (get_front marks ms (count_by completes fs) m at);
  }
