-- The stable law: all that stood at a Stable entry is within each later cut.
use Rattle.std.proofs.Common.{◌≡◌, ℕ, zero, suc, ◌+◌, ◌≤◌, ◌<◌, Bool, true, false, ◌&&◌, ◌==◌, if◌then◌else◌, cond, List, [], ◌∷◌, ◌++◌, filter, Option, Some, None, refl, sym, ap, subst, ◌∙◌, arith, eqb-true, eq-eqb, ◌⊎◌, inl, inr, append_assoc}
use Rattle.std.proofs.lemmas.List.{append-nil}
use Rattle.std.proofs.lemmas.Bool.{le-leb, lt-ltb, cases_lt, false≢true}
use Rattle.base_types.specs.declared.histories.Touch.{Touch}
use Rattle.base_types.specs.declared.histories.Entry.{Entry}
use Rattle.base_types.specs.declared.histories.Event.TheVariants.{Birth, Step, Snap as SnapEvent, Stable, Tried}
use Rattle.model_kernel.specs.State.{Supply, EntityState, KernelState}
use Rattle.base_types.specs.Edges.{upto}
use Rattle.model_kernel.specs.Words.{put}
use Rattle.model_kernel.specs.Scripts.{Script}
use Rattle.model_kernel.specs.LocalEvents.{touch_at, IsLocal}
use Rattle.model_kernel.specs.Parts.{is_event, all_within, writes_within, within, part_of, after_entry, after, IsNext, IsPlayed}
use Rattle.base_types.specs.Touches.{AllTouches, IsRising}
use Rattle.model_kernel.specs.Vectors.{IsStamped, StampsBelow}
use Rattle.model_kernel.specs.Choices.{Commit, IsBelow, Among, IsClosedChoice, IsGreatest}
use Rattle.model_kernel.specs.Histories.{Policy, Run, event_of, has_changed, May, goes_on, went_on, commit_of, commits_of, version_of, IsLegalFrom, IsLegalRun, start_run, run_after, AllBelow64}
use Rattle.model_kernel.proofs.Basics.{both}
use Rattle.model_kernel.proofs.Replay.{at_entity, weaker}
use Rattle.model_kernel.proofs.Covering.{Is_next, is_next, kept_inside, all_touch_at}
use Rattle.model_kernel.proofs.Among.{among_map, among_more, among_right}
use Rattle.model_kernel.proofs.LegalRuns.{event_of_local, event_of_stamped, next_legal, legal_played, state_after}

-- what holds of each touch that is looked up holds of all
all_looked_up : (P : Touch → Type 0) (ts : List Touch) → IsRising ts → ((x : ℕ) (t : Touch) → touch_at ts x ≡ Some t → P t) → AllTouches P ts
all_looked_up P [] rising h = tt
all_looked_up P (u ∷ ts) rising h = (
  h u.entity u (rw (eq-eqb u.entity u.entity refl) refl),
  all_looked_up P ts rising.1 (λ x t e. h x t (elim (u.entity == x) as (λ b. (u.entity == x) ≡ b → (if b then Some u else touch_at ts x) ≡ Some t) [
    | true ↦ λ is. let at = at_entity ts x t e in let above = all_touch_at (λ v. u.entity < v.entity) ts x t rising.0 e in let eq = eqb-true _ _ is in absurd (omega arith)
    | false ↦ λ is. e
  ] refl)),
)

within_of_all : (p : ℕ → ℕ) (ts : List Touch) → AllTouches (λ t. t.version ≤ p t.entity) ts → all_within p ts ≡ true
within_of_all p [] h = refl
within_of_all p (t ∷ ts) h = both _ _ (le-leb _ _ h.0) (within_of_all p ts h.1)

module _ (act : KernelState → Option (Entry × KernelState)) (local : IsLocal (λ (b : EntityState). b.version) act) (stamped : IsStamped act) (w : KernelState) (r : Entry × KernelState) (is : act w ≡ Some r) where
  -- an entity stays or rises by one
  stays_or_rises : (x : ℕ) → (r.1 x ≡ w x) ⊎ ((r.1 x).version ≡ (w x).version + 1)
  stays_or_rises x =
      elim (touch_at r.0.touched x) as (λ o. touch_at r.0.touched x ≡ o → (r.1 x ≡ w x) ⊎ ((r.1 x).version ≡ (w x).version + 1)) [
        | None ↦ λ e. inl (local.stays w r is x e)
        | Some t ↦ λ e. elim t.wrote as (λ b. t.wrote ≡ b → (r.1 x ≡ w x) ⊎ ((r.1 x).version ≡ (w x).version + 1)) [
          | true ↦ λ wrote. let q = local.writes w r is x t e wrote in inr (q.0 ∙ sym q.1)
          | false ↦ λ read. inl (local.reads w r is x t e read).0
        ] refl
      ] refl

  no_fall : (x : ℕ) → (w x).version ≤ (r.1 x).version
  no_fall x = elim (stays_or_rises x) as (λ _. (w x).version ≤ (r.1 x).version) [ inl e ↦ (let f = ap (λ (b : EntityState). b.version) e in omega arith) | inr e ↦ omega arith ]

  touch_version : (x : ℕ) (t : Touch) → touch_at r.0.touched x ≡ Some t → t.version ≤ (r.1 t.entity).version
  touch_version x t e =
      let at = at_entity r.0.touched x t e in
      subst (λ y. t.version ≤ (r.1 y).version) (sym at) (elim t.wrote as (λ b. t.wrote ≡ b → t.version ≤ (r.1 x).version) [
        | true ↦ λ wrote. let q = (local.writes w r is x t e wrote).0 in omega arith
        | false ↦ λ read. let q = local.reads w r is x t e read in let f = ap (λ (b : EntityState). b.version) q.0 in let g = q.1 in omega arith
      ] refl)

  stamps_stay_below : StampsBelow w → StampsBelow r.1
  stamps_stay_below below x y =
      let p : ℕ → ℕ = λ z. (r.1 z).version in
      let all = within_of_all p r.0.touched (all_looked_up (λ t. t.version ≤ p t.entity) r.0.touched (stamped.rising w r is) touch_version) in
      kept_inside p act local stamped w r is all (λ a b _. let m = below a b in let n = no_fall b in omega arith) x y (omega arith)

-- where no version is above q at the end, each event is within q
module _ (act : Entry → KernelState → Option (Entry × KernelState)) (local : (e : Entry) → IsLocal (λ (b : EntityState). b.version) (act e)) (stamped : (e : Entry) → IsStamped (act e)) where
  -- no version falls
  pub versions_rise : (w : KernelState) (e : Entry) → IsNext act w e → (x : ℕ) → (w x).version ≤ (after_entry act w e x).version
  unfolding Is_next
  versions_rise w e next x = elim (is_next (λ _. 0) act local stamped w e next) as (λ _. (w x).version ≤ (after_entry act w e x).version) [
    | inl r ↦ subst (λ (v : KernelState). (w x).version ≤ (v x).version) (sym r.3) (no_fall (act e) (local e) (stamped e) w r.0 r.1 x)
    | inr r ↦ subst (λ (v : KernelState). (w x).version ≤ (v x).version) (sym r.1) (omega arith)
  ]

  -- over a whole history
  pub versions_rise_over : (es : List Entry) (w : KernelState) → IsPlayed act w es → (x : ℕ) → (w x).version ≤ (after act w es x).version
  versions_rise_over [] w played x = omega arith
  versions_rise_over (e ∷ es) w played x = (let a = versions_rise w e played.0 x in let b = versions_rise_over es (after_entry act w e) played.1 x in omega arith)

  one_in : (w : KernelState) (e : Entry) (q : ℕ → ℕ) → IsNext act w e → ((x : ℕ) → (after_entry act w e x).version ≤ q x) → writes_within q e.touched ≡ true
  unfolding Is_next
  one_in w e q next low = elim (is_next (λ _. 0) act local stamped w e next) as (λ _. writes_within q e.touched ≡ true) [
    | inl r ↦ (
        let low' : (x : ℕ) → (r.0.1 x).version ≤ q x = subst (λ (v : KernelState). (x : ℕ) → (v x).version ≤ q x) r.3 low in
        let all = within_of_all q r.0.0.touched (all_looked_up (λ t. t.version ≤ q t.entity) r.0.0.touched ((stamped e).rising w r.0 r.1)
        (λ x t is. let a = touch_version (act e) (local e) (stamped e) w r.0 r.1 x t is in let b = low' t.entity in omega arith)) in
        subst (λ (k : Entry). writes_within q k.touched ≡ true) r.2 (weaker q r.0.0.touched all))
    | inr r ↦ subst (λ (ts : List Touch). writes_within q ts ≡ true) (sym r.0) refl
  ]

  -- so is each of a history
  pub all_in : (es : List Entry) (w : KernelState) (q : ℕ → ℕ) → IsPlayed act w es → ((x : ℕ) → (after act w es x).version ≤ q x) → part_of q es ≡ filter (λ f. is_event f.event) es
  all_in [] w q played low = refl
  all_in (e ∷ es) w q played low =
      let here = one_in w e q played.0 (λ x. let a = low x in let b = versions_rise_over es (after_entry act w e) played.1 x in omega arith) in
      let rest = all_in es (after_entry act w e) q played.1 low in
      let same : within q e ≡ is_event e.event = elim (is_event e.event) as (λ b. (b && writes_within q e.touched) ≡ b) [ true ↦ here | false ↦ refl ] in
      (λ i. cond (same i) (e ∷ rest i) (rest i))

-- a version stands on record: it is the first, or that of a commit with the stamp that stands now
abbrev pub OnRecord : (ℕ → ℕ) → List Commit → ℕ → EntityState → Type 0
OnRecord start cs x b = (b.version ≡ start x) ⊎ Among cs (λ c. (c.entity ≡ x) × (c.version ≡ b.version) × (c.stamp ≡ b.stamp))

-- what each legal run keeps: versions that are not on record are above the newest commit
pub record KeptBy (start newest : ℕ → ℕ) (cs : List Commit) (w : KernelState) : Type 0 where
  pub stamps : StampsBelow w
  pub newest_low : (x : ℕ) → newest x ≤ (w x).version
  pub record_of : (x : ℕ) → (newest x < (w x).version) ⊎ OnRecord start cs x (w x)
  pub beyond : (x : ℕ) → 64 ≤ x → (w x).version ≡ start x

-- of what the rules look at
abbrev pub IsKept : Run → Type 0
IsKept r = KeptBy r.start r.newest r.commits r.state

-- the versions are a closed choice where each is on record
pub closed_now : (start : ℕ → ℕ) (cs : List Commit) (w : KernelState) → StampsBelow w
    → ((x : ℕ) → ((w x).version ≡ start x) ⊎ Among cs (λ c. (c.entity ≡ x) × (c.version ≡ (w x).version) × (c.stamp ≡ (w x).stamp)))
    → IsClosedChoice start cs (λ x. (w x).version)
closed_now start cs w below h x =
    elim (h x) as (λ _. ((w x).version ≡ start x) ⊎ Among cs (λ c. (c.entity ≡ x) × (c.version ≡ (w x).version) × IsBelow c.stamp (λ y. (w y).version))) [
      | inl e ↦ inl e
      | inr a ↦ inr (among_map cs _ _ (λ c k. (k.0, k.1, λ y. let f = ap (λ (s : ℕ → ℕ). s y) k.2 in let g = below x y in omega arith)) a)
    ]

pub commits_append : (r : Run) (f : ℕ → Bool) (xs ys : List ℕ) → commits_of r (filter f (xs ++ ys)) ≡ commits_of r (filter f xs) ++ commits_of r (filter f ys)
commits_append r f [] ys = refl
commits_append r f (x ∷ xs) ys =
    elim (f x) as (λ b. commits_of r (cond b (x ∷ filter f (xs ++ ys)) (filter f (xs ++ ys))) ≡ commits_of r (cond b (x ∷ filter f xs) (filter f xs)) ++ commits_of r (filter f ys)) [
      | true ↦ (λ i. commit_of r x ∷ commits_append r f xs ys i)
      | false ↦ commits_append r f xs ys
    ]

-- a commit of x as it stands
abbrev pub Stands : Run → ℕ → Commit → Type 0
Stands r x c = (c.entity ≡ x) × (c.version ≡ (r.state x).version) × (c.stamp ≡ (r.state x).stamp)

pub in_upto : (x n : ℕ) → x < n → (f : ℕ → Bool) → f x ≡ true → (r : Run) → Among (commits_of r (filter f (upto n))) (Stands r x)
in_upto x zero lt f h r = absurd (omega arith)
in_upto x (suc n) lt f h r =
    subst (λ (cs : List Commit). Among cs (Stands r x)) (sym (commits_append r f (upto n) (n ∷ [])))
    (elim (cases_lt x n) as (λ _. Among (commits_of r (filter f (upto n)) ++ commits_of r (filter f (n ∷ []))) (Stands r x)) [
      | inl low ↦ among_more _ _ _ (in_upto x n low f h r)
      | inr high ↦
          let e : n ≡ x = omega arith in
          among_right (commits_of r (filter f (upto n))) (commits_of r (filter f (n ∷ []))) (Stands r x)
          (elim (f n) as (λ b. f n ≡ b → Among (commits_of r (cond b (n ∷ []) [])) (Stands r x)) [
            | true ↦ λ _. inl (e, ap (λ y. (r.state y).version) e, ap (λ y. (r.state y).stamp) e)
            | false ↦ λ is. absurd (false≢true (sym is ∙ ap f e ∙ h))
          ] refl)
    ])

record_more : (start : ℕ → ℕ) (cs ds : List Commit) (x : ℕ) (b : EntityState) → OnRecord start cs x b → OnRecord start (cs ++ ds) x b
record_more start cs ds x b h = elim h as (λ _. OnRecord start (cs ++ ds) x b) [ inl e ↦ inl e | inr a ↦ inr (among_more cs ds _ a) ]

module _ (s : Supply) (policy : Policy) (script : Script) where
  -- an event, or no change
  kept_event : (start newest : ℕ → ℕ) (cs : List Commit) (w : KernelState) (e : Entry) → KeptBy start newest cs w → IsNext (event_of s script) w e → ((x : ℕ) → 64 ≤ x → touch_at e.touched x ≡ None)
      → KeptBy start newest cs (after_entry (event_of s script) w e)
  unfolding Is_next
  kept_event start newest cs w e k next low =
      elim (is_next (λ _. 0) (event_of s script) (event_of_local s policy script) (event_of_stamped s policy script) w e next) as (λ _. KeptBy start newest cs (after_entry (event_of s script) w e)) [
        | inr same ↦ subst (λ (v : KernelState). KeptBy start newest cs v) (sym same.1) k
        | inl r ↦
            let a = event_of s script e in
            let local = event_of_local s policy script e in
            let stamped = event_of_stamped s policy script e in
            let w' = r.0.1 in
            subst (λ (v : KernelState). KeptBy start newest cs v) (sym r.3) (record {
              stamps = stamps_stay_below a local stamped w r.0 r.1 k.stamps;
              newest_low = λ x. let m = k.newest_low x in let n = no_fall a local stamped w r.0 r.1 x in omega arith;
              record_of = λ x. elim (stays_or_rises a local stamped w r.0 r.1 x) as (λ _. (newest x < (r.0.1 x).version) ⊎ OnRecord start cs x (r.0.1 x)) [
                | inl same ↦ subst (λ (b : EntityState). (newest x < b.version) ⊎ OnRecord start cs x b) (sym same) (k.record_of x)
                | inr rises ↦ inl (let m = k.newest_low x in omega arith)
              ];
              beyond = λ x h.
                  let none : touch_at r.0.0.touched x ≡ None = ap (λ (k : Entry). touch_at k.touched x) r.2 ∙ low x h in
                  ap (λ (b : EntityState). b.version) (local.stays w r.0 r.1 x none) ∙ k.beyond x h;
            })
      ]

  kept_snap : (r : Run) (x : ℕ) → IsKept r → KeptBy r.start (put r.newest x (version_of r x)) (r.commits ++ commit_of r x ∷ []) r.state
  kept_snap r x k = record {
    stamps = k.stamps;
    newest_low = λ y. elim (y == x) as (λ b. (y == x) ≡ b → (if b then version_of r x else r.newest y) ≤ (r.state y).version) [
      | true ↦ λ is. let e = ap (λ z. (r.state z).version) (eqb-true y x is) in omega arith
      | false ↦ λ is. k.newest_low y
    ] refl;
    record_of = λ y. elim (y == x) as (λ b. (y == x) ≡ b → ((if b then version_of r x else r.newest y) < (r.state y).version) ⊎ OnRecord r.start (r.commits ++ commit_of r x ∷ []) y (r.state y)) [
      | true ↦ λ is. let e = sym (eqb-true y x is) in inr (inr (among_right r.commits (commit_of r x ∷ []) (Stands r y) (inl (e, ap (λ z. (r.state z).version) e, ap (λ z. (r.state z).stamp) e))))
      | false ↦ λ is. elim (k.record_of y) as (λ _. (r.newest y < (r.state y).version) ⊎ OnRecord r.start (r.commits ++ commit_of r x ∷ []) y (r.state y)) [
        | inl l ↦ inl l
        | inr h ↦ inr (record_more r.start r.commits (commit_of r x ∷ []) y (r.state y) h)
      ]
    ] refl;
    beyond = k.beyond;
  }

  -- the commits of a Stable
  abbrev pub stable_commits : Run → List Commit
  stable_commits r = commits_of r (filter (has_changed r) (upto 64))

  -- after a Stable each version is on record
  all_recorded : (r : Run) → IsKept r → (x : ℕ) → OnRecord r.start (r.commits ++ stable_commits r) x (r.state x)
  all_recorded r k x =
      elim (k.record_of x) as (λ _. OnRecord r.start (r.commits ++ stable_commits r) x (r.state x)) [
        | inr h ↦ record_more r.start r.commits (stable_commits r) x (r.state x) h
        | inl lt ↦ elim (cases_lt x 64) as (λ _. OnRecord r.start (r.commits ++ stable_commits r) x (r.state x)) [
          | inl low ↦ inr (among_right r.commits (stable_commits r) (Stands r x) (in_upto x 64 low (has_changed r) (lt-ltb _ _ lt) r))
          | inr high ↦ inl (k.beyond x high)
        ]
      ]

  kept_stable : (r : Run) → IsKept r → KeptBy r.start (version_of r) (r.commits ++ stable_commits r) r.state
  kept_stable r k = record { stamps = k.stamps; newest_low = λ x. omega arith; record_of = λ x. inr (all_recorded r k x); beyond = k.beyond }

  -- each entry that may follow keeps it
  pub kept_goes_on : (r : Run) (e : Entry) → IsKept r → May s policy script r e → ((x : ℕ) → 64 ≤ x → touch_at e.touched x ≡ None) → IsKept (goes_on s script r e)
  kept_goes_on r e k m low =
      let event = kept_event r.start r.newest r.commits r.state e k (next_legal s policy script r e m) low in
      elim e.event as (λ ev. IsKept (went_on s script r e ev)) [
        | Birth ↦ event
        | Step ↦ event
        | SnapEvent ↦ kept_snap r e.actor k
        | Stable ↦ kept_stable r k
        | Tried ↦ k
      ]

  -- commits are only added, and the start stays
  grows : (r : Run) (e : Entry) → (ds : List Commit) × ((goes_on s script r e).commits ≡ r.commits ++ ds) × ((goes_on s script r e).start ≡ r.start)
  grows r e =
      elim e.event as (λ ev. (ds : List Commit) × ((went_on s script r e ev).commits ≡ r.commits ++ ds) × ((went_on s script r e ev).start ≡ r.start)) [
        | Birth ↦ ([], sym (append-nil r.commits), refl)
        | Step ↦ ([], sym (append-nil r.commits), refl)
        | SnapEvent ↦ (commit_of r e.actor ∷ [], refl, refl)
        | Stable ↦ (stable_commits r, refl, refl)
        | Tried ↦ ([], sym (append-nil r.commits), refl)
      ]

  closed_more : (start : ℕ → ℕ) (cs ds : List Commit) (p : ℕ → ℕ) → IsClosedChoice start cs p → IsClosedChoice start (cs ++ ds) p
  closed_more start cs ds p h x = elim (h x) as (λ _. (p x ≡ start x) ⊎ Among (cs ++ ds) (λ c. (c.entity ≡ x) × (c.version ≡ p x) × IsBelow c.stamp p)) [ inl e ↦ inl e | inr a ↦ inr (among_more cs ds _ a) ]

  -- what holds of the start holds after each legal history
  kept_after : (r : Run) (es : List Entry) → IsKept r → IsLegalFrom s policy script r es → AllBelow64 es → IsKept (run_after s script r es)
  kept_after r [] k legal low = k
  kept_after r (e ∷ es) k legal low = kept_after (goes_on s script r e) es (kept_goes_on r e k legal.0 low.0) legal.1 low.1

  pub start_kept : (w : KernelState) → StampsBelow w → IsKept (start_run w)
  start_kept w below = record { stamps = below; newest_low = λ x. omega arith; record_of = λ x. inr (inl refl); beyond = λ x h. refl }

  start_stays : (r : Run) (es : List Entry) → (run_after s script r es).start ≡ r.start
  start_stays r [] = refl
  start_stays r (e ∷ es) = start_stays (goes_on s script r e) es ∙ (grows r e).2

  -- a run over two histories
  pub run_append : (r : Run) (es fs : List Entry) → run_after s script r (es ++ fs) ≡ run_after s script (run_after s script r es) fs
  run_append r [] fs = refl
  run_append r (e ∷ es) fs = run_append (goes_on s script r e) es fs

  pub legal_front : (r : Run) (es fs : List Entry) → IsLegalFrom s policy script r (es ++ fs) → IsLegalFrom s policy script r es
  legal_front r [] fs legal = tt
  legal_front r (e ∷ es) fs legal = (legal.0, legal_front (goes_on s script r e) es fs legal.1)

  low_front : (es fs : List Entry) → AllBelow64 (es ++ fs) → AllBelow64 es
  low_front [] fs low = tt
  low_front (e ∷ es) fs low = (low.0, low_front es fs low.1)

  -- the versions at a Stable are a closed choice of the commits that it makes and those before it
  pub stable_closed : (w : KernelState) (es : List Entry) (e : Entry) (ds : List Commit) → StampsBelow w → AllBelow64 (es ++ e ∷ []) → IsLegalRun s policy w script (es ++ e ∷ []) → e.event ≡ Stable
      → IsClosedChoice (λ x. (w x).version) ((run_after s script (start_run w) (es ++ e ∷ [])).commits ++ ds) (λ x. (after (event_of s script) w es x).version)
  stable_closed w es e ds below low legal is =
      let r = run_after s script (start_run w) es in
      let k = kept_after (start_run w) es (start_kept w below) (legal_front (start_run w) es (e ∷ []) legal) (low_front es (e ∷ []) low) in
      let closed : IsClosedChoice r.start (went_on s script r e Stable).commits (λ x. (r.state x).version) = closed_now r.start (r.commits ++ stable_commits r) r.state k.stamps (all_recorded r k) in
      let here : IsClosedChoice r.start (goes_on s script r e).commits (λ x. (r.state x).version) = subst (λ (u : Run). IsClosedChoice r.start u.commits (λ x. (r.state x).version)) (sym (ap (went_on s script r e) is)) closed in
      let last : IsClosedChoice r.start (run_after s script (start_run w) (es ++ e ∷ [])).commits (λ x. (r.state x).version) = subst (λ (u : Run). IsClosedChoice r.start u.commits (λ x. (r.state x).version)) (sym (run_append (start_run w) es (e ∷ []))) here in
      let at_start : IsClosedChoice (λ x. (w x).version) (run_after s script (start_run w) (es ++ e ∷ [])).commits (λ x. (r.state x).version) = subst (λ (st : ℕ → ℕ). IsClosedChoice st (run_after s script (start_run w) (es ++ e ∷ [])).commits (λ x. (r.state x).version)) (start_stays (start_run w) es) last in
      closed_more (λ x. (w x).version) (run_after s script (start_run w) (es ++ e ∷ [])).commits ds (λ x. (after (event_of s script) w es x).version)
      (subst (λ (u : KernelState). IsClosedChoice (λ x. (w x).version) (run_after s script (start_run w) (es ++ e ∷ [])).commits (λ x. (u x).version)) (state_after s policy script (start_run w) es) at_start)

  -- so no later cut falls below them
  pub stable_versions : (w : KernelState) (es : List Entry) (e : Entry) (ds : List Commit) (q : ℕ → ℕ) → StampsBelow w → AllBelow64 (es ++ e ∷ []) → IsLegalRun s policy w script (es ++ e ∷ []) → e.event ≡ Stable
      → IsGreatest (λ x. (w x).version) ((run_after s script (start_run w) (es ++ e ∷ [])).commits ++ ds) q → (x : ℕ) → (after (event_of s script) w es x).version ≤ q x
  stable_versions w es e ds q below low legal is g = g.greatest (λ x. (after (event_of s script) w es x).version) (stable_closed w es e ds below low legal is)

  -- and each event before the Stable is within its part
  pub stable_part : (w : KernelState) (es : List Entry) (e : Entry) (ds : List Commit) (q : ℕ → ℕ) → StampsBelow w → AllBelow64 (es ++ e ∷ []) → IsLegalRun s policy w script (es ++ e ∷ []) → e.event ≡ Stable
      → IsGreatest (λ x. (w x).version) ((run_after s script (start_run w) (es ++ e ∷ [])).commits ++ ds) q → part_of q es ≡ filter (λ f. is_event f.event) es
  stable_part w es e ds q below low legal is g =
      all_in (event_of s script) (event_of_local s policy script) (event_of_stamped s policy script) es w q (legal_played s policy script (start_run w) es (legal_front (start_run w) es (e ∷ []) legal))
      (stable_versions w es e ds q below low legal is g)

  -- the commits of a longer history are those of a front of it, and later ones
  pub commits_grow : (r : Run) (fs : List Entry) → (ds : List Commit) × ((run_after s script r fs).commits ≡ r.commits ++ ds)
  commits_grow r [] = ([], sym (append-nil r.commits))
  commits_grow r (e ∷ fs) =
      let g = grows r e in
      let later = commits_grow (goes_on s script r e) fs in
      (g.0 ++ later.0, later.1 ∙ ap (λ cs. cs ++ later.0) g.1 ∙ append_assoc r.commits g.0 later.0)
