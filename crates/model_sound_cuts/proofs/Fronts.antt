-- Few commits of each front are at or above its cut.
use Rattle.std.proofs.Common.{◌≡◌, ◌⊎◌, inl, inr, ℕ, ◌+◌, ◌≤◌, ◌<◌, true, false, nat_lt, arith, List, [], ◌∷◌, ◌++◌, length, filter, count_by, option_to_list, refl, sym, ap, subst, ◌∙◌}
use Rattle.std.proofs.lemmas.Bool.{cases_lt}
use Rattle.std.proofs.lemmas.List.{append-nil, append_assoc}
use Rattle.base_types.specs.Edges.{upto}
use Rattle.base_types.specs.declared.histories.Entry.{Entry}
use Rattle.base_types.specs.declared.histories.Event.{Event}
use Rattle.base_types.specs.declared.histories.Event.TheVariants.{Birth, Step, Snap as SnapEvent, Stable, Tried}
use Rattle.model_sound_states.specs.model_kernel.Choices.{Commit, IsBelow, IsGreatest, greatest}
use Rattle.model_sound_states.specs.model_kernel.Fronts.{tried_commits}
use Rattle.model_sound_states.specs.model_kernel.Histories.{Policy, Run, commit_of, commits_above, commits_in, commits_of, has_changed, run_after, start_run, went_on}
use Rattle.model_sound_states.specs.model_kernel.Scripts.{Script}
use Rattle.model_sound_states.specs.model_kernel.State.{KernelState, Supply}
use Rattle.model_sound_states.proofs.model_kernel_lemmas.Lowering.{greatest_one, rising_cut}
use Rattle.model_sound_states.proofs.model_kernel_lemmas.StableCuts.{commits_grow, run_append}
use Rattle.model_run_rules.specs.model_cut_laws.Agreeing.{nothing}
use Rattle.model_run_rules.proofs.model_cut_laws_lemmas.Joins.{from_nothing}
use Rattle.model_run_rules.proofs.model_run_laws_lemmas.Starts.{starts_held}
use Rattle.model_run_rules.proofs.model_run_laws_lemmas.Cuts.{chosen_same, cut_kept}
use Rattle.model_run_rules.proofs.model_run_laws_lemmas.Few.{above_append, above_fewer, at_most_five, four_if_changed, one_each}
use Rattle.model_sound_states.proofs.model_sound_runs_lemmas.Kept.{AreSmall, few_by_five, is_kept, small_after}
use Rattle.model_sound_states.proofs.model_sound_runs_lemmas.Standing.{legal_below}
use Rattle.model_sound_states.proofs.Empty.{none_beyond}
use Rattle.model_sound_cuts.proofs.Cuts.{front_greatest, front_run}
use Rattle.model_sound_cuts.specs.Runs.{IsSoundRun}

-- FRONTS OF LISTS

split : {A : Type 0} (xs ys us vs : List A) → xs ++ ys ≡ us ++ vs → length xs ≤ length us → (mids : List A) × (us ≡ xs ++ mids) × (ys ≡ mids ++ vs)
split [] ys us vs is le = (us, refl, is)
split (x ∷ xs) ys [] vs is le = absurd (omega (arith, le))
split {A = A} (x ∷ xs) ys (u ∷ us) vs is le =
    let head : x ≡ u = cc is in
    let tail : xs ++ ys ≡ us ++ vs = cc is in
    let r = split xs ys us vs tail (omega (arith, le)) in
    (r.0, (λ i. sym head i ∷ r.1 i), r.2)

nothing_left : {A : Type 0} (xs ys : List A) → [] ≡ xs ++ ys → xs ≡ []
nothing_left [] ys is = refl
nothing_left (x ∷ xs) ys is = cc is

nothing_more : {A : Type 0} (xs mids : List A) → length (xs ++ mids) ≤ length xs → mids ≡ []
nothing_more [] [] le = refl
nothing_more [] (m ∷ mids) le = absurd (omega (arith, le))
nothing_more (x ∷ xs) mids le = nothing_more xs mids (omega (arith, le))

-- COUNTS

front_above : (cs ds : List Commit) (cut : ℕ → ℕ) (x : ℕ) → commits_above cs cut x ≤ commits_above (cs ++ ds) cut x
front_above cs ds cut x = (let a = above_append cs ds cut x in omega (arith, a))

-- what an entry adds
adds : (s : Supply) (script : Script) (r : Run) (e : Entry) (ev : Event)
    → ((went_on s script r e ev).commits ≡ r.commits) ⊎ ((c : Commit) × ((went_on s script r e ev).commits ≡ r.commits ++ c ∷ [])) ⊎ ((went_on s script r e ev).commits ≡ r.commits ++ commits_of r (filter (has_changed r) (upto 64)))
adds s script r e Birth = inl refl
adds s script r e Step = inl refl
adds s script r e SnapEvent = inr (inl (commit_of r e.actor, refl))
adds s script r e Stable = inr (inr refl)
adds s script r e Tried = inl refl

module _ (s : Supply) (policy : Policy) (script : Script) (w : KernelState) where
  abbrev start : ℕ → ℕ
  start x = (w x).version

  abbrev Five : List Commit → Type 0
  Five cs = (x : ℕ) → commits_above cs (greatest start cs) x ≤ 5

  five_here : (es : List Entry) → IsSoundRun s policy script w es → Five (commits_in s script w es)
  five_here es k x = subst (λ (p : ℕ → ℕ). commits_above (commits_in s script w es) p x ≤ 5) (cut_kept s policy script w es)
      (at_most_five s policy script w es x k.sound.below (none_beyond s w k.sound) (legal_below s policy script k.rules w es k.names k.sound.sound k.legal) k.legal)

  four_here : (es : List Entry) → IsSoundRun s policy script w es → (x : ℕ) → has_changed (run_after s script (start_run w) es) x ≡ true → commits_above (commits_in s script w es) (greatest start (commits_in s script w es)) x ≤ 4
  four_here es k x is = subst (λ (p : ℕ → ℕ). commits_above (commits_in s script w es) p x ≤ 4) (cut_kept s policy script w es)
      (four_if_changed s policy script w es x k.sound.below (none_beyond s w k.sound) (legal_below s policy script k.rules w es k.names k.sound.sound k.legal) k.legal is)

  five_same : (cs ds : List Commit) → cs ≡ ds → Five ds → Five cs
  five_same cs ds is f = subst (λ (ks : List Commit). Five ks) (sym is) f

  -- IN THE MIDDLE OF A STABLE
  module _ (front : List Entry) (e : Entry) (k : IsSoundRun s policy script w (front ++ e ∷ [])) (k' : IsSoundRun s policy script w front) where
    r : Run
    r = run_after s script (start_run w) front

    next : commits_in s script w (front ++ e ∷ []) ≡ (went_on s script (run_after s script (start_run w) front) e e.event).commits
    next = ap (λ (u : Run). u.commits) (run_append s policy script (start_run w) front (e ∷ []))

    in_stable : (mids rest : List Commit) → commits_in s script w (front ++ e ∷ []) ≡ (commits_in s script w front ++ mids) ++ rest
        → commits_of (run_after s script (start_run w) front) (filter (has_changed (run_after s script (start_run w) front)) (upto 64)) ≡ mids ++ rest → Five (commits_in s script w front ++ mids)
    in_stable mids rest is new x =
        let cs : List Commit = commits_in s script w front ++ mids in
        let tried : List Commit = option_to_list (run_after s script (start_run w) (front ++ e ∷ [])).tried in
        let whole : tried_commits s script w (front ++ e ∷ []) ≡ cs ++ (rest ++ tried) = ap (λ (ks : List Commit). ks ++ tried) is ∙ append_assoc cs rest tried in
        let up : IsBelow (greatest start (commits_in s script w front)) (greatest start cs) =
        rising_cut start (commits_in s script w front) mids (greatest start (commits_in s script w front)) (greatest start cs)
        (front_greatest s policy script w (front ++ e ∷ []) k (commits_in s script w front) (mids ++ (rest ++ tried)) (whole ∙ append_assoc (commits_in s script w front) mids (rest ++ tried)))
        (front_greatest s policy script w (front ++ e ∷ []) k cs (rest ++ tried) whole) in
        let sum = above_append (commits_in s script w front) mids (greatest start cs) x in
        let less = above_fewer (commits_in s script w front) (greatest start (commits_in s script w front)) (greatest start cs) x up in
        let part = subst (λ (ks : List Commit). commits_above mids (greatest start cs) x ≤ commits_above ks (greatest start cs) x) (sym new) (front_above mids rest (greatest start cs) x) in
        let one = one_each (run_after s script (start_run w) front) (has_changed (run_after s script (start_run w) front)) (greatest start cs) x 64 in
        let most = one.one in
        elim (has_changed (run_after s script (start_run w) front) x) as (λ b. has_changed (run_after s script (start_run w) front) x ≡ b → commits_above cs (greatest start cs) x ≤ 5) [
          | true ↦ λ is. (let four = four_here front k' x is in omega (arith, sum, less, part, most, four))
          | false ↦ λ is. (let none = one.none is in let five = five_here front k' x in omega (arith, sum, less, part, none, five))
        ] refl

    -- a front that ends between two entries
    within : (cs rest : List Commit) → commits_in s script w (front ++ e ∷ []) ≡ cs ++ rest → length (commits_in s script w front) ≤ length cs → length cs < length (commits_in s script w (front ++ e ∷ [])) → Five cs
    within cs rest is le lt = elim (adds s script (run_after s script (start_run w) front) e e.event) as (λ _. Five cs) [
      | inl same ↦ absurd (let n = ap length (next ∙ same) in omega (arith, n, le, lt))
      | inr (inl one) ↦ (
          let m = split (commits_in s script w front) (one.0 ∷ []) cs rest (sym one.1 ∙ (sym next ∙ is)) le in
          let long : length (commits_in s script w (front ++ e ∷ [])) ≡ length (commits_in s script w front) + 1 = ap length (next ∙ one.1) ∙ one_more (commits_in s script w front) one.0 in
          let short : length (commits_in s script w front ++ m.0) ≤ length (commits_in s script w front) = (let c = ap length m.1 in omega (arith, c, lt, long)) in
          let none : m.0 ≡ [] = nothing_more (commits_in s script w front) m.0 short in
          five_same cs (commits_in s script w front) (m.1 ∙ (ap (λ (ks : List Commit). commits_in s script w front ++ ks) none ∙ append-nil (commits_in s script w front))) (five_here front k'))
      | inr (inr all) ↦ (
          let m = split (commits_in s script w front) (commits_of (run_after s script (start_run w) front) (filter (has_changed (run_after s script (start_run w) front)) (upto 64))) cs rest (sym all ∙ (sym next ∙ is)) le in
          five_same cs (commits_in s script w front ++ m.0) m.1 (in_stable m.0 rest (is ∙ ap (λ (ks : List Commit). ks ++ rest) m.1) m.2))
    ]
      where
        one_more : (cs : List Commit) (c : Commit) → length (cs ++ c ∷ []) ≡ length cs + 1
        one_more [] c = refl
        one_more (d ∷ ds) c = (let h = one_more ds c in omega (arith, h))

  grows : (front es : List Entry) → (more : List Commit) × (commits_in s script w (front ++ es) ≡ commits_in s script w front ++ more)
  grows front es =
      let m = commits_grow s policy script (run_after s script (start_run w) front) es in
      (m.0, ap (λ (u : Run). u.commits) (run_append s policy script (start_run w) front es) ∙ m.1)

  walk : (front es : List Entry) (cs later : List Commit) → IsSoundRun s policy script w (front ++ es) → commits_in s script w (front ++ es) ≡ cs ++ later → length (commits_in s script w front) ≤ length cs → Five cs
  walk front [] cs later k is le =
      let same : front ++ [] ≡ front = append-nil front in
      let here : commits_in s script w front ++ [] ≡ cs ++ later = append-nil (commits_in s script w front) ∙ (ap (commits_in s script w) (sym same) ∙ is) in
      let m = split (commits_in s script w front) [] cs later here le in
      let none : m.0 ≡ [] = nothing_left m.0 later m.2 in
      five_same cs (commits_in s script w front) (m.1 ∙ (ap (λ (ks : List Commit). commits_in s script w front ++ ks) none ∙ append-nil (commits_in s script w front))) (five_here front (subst (λ (es : List Entry). IsSoundRun s policy script w es) same k))
  walk front (e ∷ es) cs later k is le =
      let same : front ++ e ∷ es ≡ (front ++ e ∷ []) ++ es = sym (append_assoc front (e ∷ []) es) in
      let sound : IsSoundRun s policy script w ((front ++ e ∷ []) ++ es) = subst (λ (fs : List Entry). IsSoundRun s policy script w fs) same k in
      let at : commits_in s script w ((front ++ e ∷ []) ++ es) ≡ cs ++ later = ap (commits_in s script w) (sym same) ∙ is in
      elim (cases_lt (length cs) (length (commits_in s script w (front ++ e ∷ [])))) as (λ _. Five cs) [
        | inr past ↦ walk (front ++ e ∷ []) es cs later sound at past
        | inl short ↦ (
            let g = grows (front ++ e ∷ []) es in
            let m = split cs later (commits_in s script w (front ++ e ∷ [])) g.0 (sym at ∙ g.1) (omega (arith, short)) in
            within front e (front_run s policy script w (front ++ e ∷ []) es sound) (front_run s policy script w front (e ∷ es) k) cs m.0 m.1 le short)
      ]

  module _ (es : List Entry) (cs later : List Commit) (k : IsSoundRun s policy script w es) (is : commits_in s script w es ≡ cs ++ later) where
    in_start : (cut : ℕ → ℕ) → length cs ≤ length (commits_in s script w []) → (x : ℕ) → commits_above cs cut x ≤ 5
    in_start cut le x =
        let g = grows [] es in
        let m = split cs later (commits_in s script w []) g.0 (sym is ∙ g.1) le in
        let all : commits_in s script w [] ≡ commits_of (start_run w) (filter (λ x. nat_lt 0 (w x).version) (upto 64)) = chosen_same w (filter (λ x. nat_lt 0 (w x).version) (upto 64)) in
        let part = subst (λ (ks : List Commit). commits_above cs cut x ≤ commits_above ks cut x) (sym (sym all ∙ m.1)) (front_above cs m.0 cut x) in
        let one = (one_each (start_run w) (λ x. nat_lt 0 (w x).version) cut x 64).one in
        omega (arith, part, one)

    pub five : Five cs
    five = elim (cases_lt (length cs) (length (commits_in s script w []))) as (λ _. Five cs) [
      | inl lt ↦ in_start (greatest start cs) (omega (arith, lt))
      | inr le ↦ walk [] es cs later k is le
    ]

    -- THE SUM

    front_small : (cs ds : List Commit) → AreSmall (cs ++ ds) → AreSmall cs
    front_small [] ds all = tt
    front_small (c ∷ cs) ds all = (all.0, front_small cs ds all.1)

    few_by : (q : ℕ → ℕ) → ((x : ℕ) → commits_above cs q x ≤ 5) → count_by (is_kept q) cs ≤ 320
    few_by q most_five =
        let all : AreSmall (cs ++ later) = subst AreSmall is (small_after s policy script k.rules w es k.names k.sound.sound k.legal) in
        few_by_five q cs (front_small cs later all) most_five

    pub few : count_by (is_kept (greatest start cs)) cs ≤ 320
    few = few_by (greatest start cs) five

    -- OVER NOTHING, as an image's choices begin
    pub few_of_image : (q : ℕ → ℕ) → IsGreatest nothing cs q → count_by (is_kept q) cs ≤ 320
    few_of_image q g = elim (cases_lt (length cs) (length (commits_in s script w []))) as (λ _. count_by (is_kept q) cs ≤ 320) [
      | inl lt ↦ few_by q (in_start q (omega (arith, lt)))
      | inr le ↦ (
          let more = grows [] es in
          let m = split (commits_in s script w []) more.0 cs later (sym more.1 ∙ is) le in
          let over : IsGreatest nothing (commits_in s script w [] ++ m.0) q = subst (λ (ks : List Commit). IsGreatest nothing ks q) m.1 g in
          let from : IsGreatest start (commits_in s script w [] ++ m.0) q = from_nothing start (commits_in s script w [] ++ m.0) q (starts_held s script w m.0 k.sound.below (none_beyond s w k.sound)) over in
          let here : IsGreatest start cs q = subst (λ (ks : List Commit). IsGreatest start ks q) (sym m.1) from in
          let tried : List Commit = option_to_list (run_after s script (start_run w) es).tried in
          let best = front_greatest s policy script w es k cs (later ++ tried) (ap (λ (ks : List Commit). ks ++ tried) is ∙ append_assoc cs later tried) in
          let same : greatest start cs ≡ q = greatest_one start cs (greatest start cs) q best here in
          subst (λ (p : ℕ → ℕ). count_by (is_kept p) cs ≤ 320) same few)
    ]
