-- The stamp of a commit is that of its version in the history, so a choice over commits is a part.
use Rattle.std.proofs.Common.{◌≡◌, ℕ, ◌≤◌, true, false, ◌==◌, if◌then◌else◌, List, [], ◌∷◌, ◌++◌, filter, Option, option_to_list, refl, sym, ap, subst, ◌∙◌, arith, eqb-true, ◌⊎◌, ◌↔◌, inl, inr, append_assoc}
use Rattle.std.proofs.lemmas.List.{append-nil}
use Rattle.base_types.specs.declared.histories.Entry.{Entry}
use Rattle.base_types.specs.declared.histories.Event.TheVariants.{Birth, Step, Snap as SnapEvent, Stable, Tried}
use Rattle.base_types.specs.Edges.{upto}
use Rattle.model_kernel.specs.State.{Supply, EntityState, KernelState}
use Rattle.model_kernel.specs.Scripts.{Script}
use Rattle.model_kernel.specs.LocalEvents.{IsLocal}
use Rattle.model_kernel.specs.Parts.{IsClosed, after_entry, after, IsPlayed}
use Rattle.model_kernel.specs.Vectors.{IsStamped, StampsBelow, vector_at, CoversChosen}
use Rattle.model_kernel.specs.Choices.{Commit, IsBelow, Among, IsClosedChoice, IsGreatest}
use Rattle.model_kernel.specs.Histories.{Policy, Run, IsLegalRun, event_of, commit_of, commits_of, chosen_commits, has_changed, goes_on, went_on, run_after, start_run}
use Rattle.model_kernel.specs.Fronts.{IsChoice, tried_commits}
use Rattle.model_kernel.proofs.Among.{among_map, among_some}
use Rattle.model_kernel.proofs.LegalRuns.{event_of_local, event_of_stamped, legal_played, legal_chosen, state_goes_on}
use Rattle.model_kernel.proofs.ChosenVectors.{Moves, moves, same_vector}
use Rattle.model_kernel.proofs.StableCuts.{versions_rise_over}

-- each of the commits
abbrev pub AllCommits : (Commit → Type 0) → List Commit → Type 0
AllCommits P [] = Unit {0}
AllCommits P (c ∷ cs) = P c × AllCommits P cs

pub all_append : (P : Commit → Type 0) (cs ds : List Commit) → AllCommits P cs → AllCommits P ds → AllCommits P (cs ++ ds)
all_append P [] ds a b = b
all_append P (c ∷ cs) ds a b = (a.0, all_append P cs ds a.1 b)

pub all_map : (P Q : Commit → Type 0) → ((c : Commit) → P c → Q c) → (cs : List Commit) → AllCommits P cs → AllCommits Q cs
all_map P Q f [] a = tt
all_map P Q f (c ∷ cs) a = (f c a.0, all_map P Q f cs a.1)

pub all_front : (P : Commit → Type 0) (cs ds : List Commit) → AllCommits P (cs ++ ds) → AllCommits P cs
all_front P [] ds a = tt
all_front P (c ∷ cs) ds a = (a.0, all_front P cs ds a.1)

-- what holds of all holds of those that pass
pub among_both : (P Q : Commit → Type 0) (cs : List Commit) → AllCommits P cs → Among cs Q → Among cs (λ c. P c × Q c)
among_both P Q [] a h = h
among_both P Q (c ∷ cs) a h = elim h as (λ _. Among (c ∷ cs) (λ c. P c × Q c)) [ inl k ↦ inl (a.0, k) | inr k ↦ inr (among_both P Q cs a.1 k) ]

-- a commit of an entity as it stands after a front of the history
pub record IsMadeIn (act : Entry → KernelState → Option (Entry × KernelState)) (w : KernelState) (es : List Entry) (c : Commit) : Type 0 where
  pub front : List Entry
  pub rest : List Entry
  pub split : es ≡ front ++ rest
  pub version : c.version ≡ (after act w front c.entity).version
  pub stamp : c.stamp ≡ (after act w front c.entity).stamp

made_before : (act : Entry → KernelState → Option (Entry × KernelState)) (w : KernelState) (es fs : List Entry) (c : Commit) → IsMadeIn act w es c → IsMadeIn act w (es ++ fs) c
made_before act w es fs c m = record {
  front = m.front;
  rest = m.rest ++ fs;
  split = ap (λ gs. gs ++ fs) m.split ∙ append_assoc m.front m.rest fs;
  version = m.version;
  stamp = m.stamp;
}

-- STAMPS AND VERSIONS

module _ (act : Entry → KernelState → Option (Entry × KernelState)) (local : (e : Entry) → IsLocal (λ (b : EntityState). b.version) (act e)) (stamped : (e : Entry) → IsStamped (act e)) where
  -- the front of a played history is played
  front_played : (front rest : List Entry) (w : KernelState) → IsPlayed act w (front ++ rest) → IsPlayed act w front
  front_played [] rest w played = tt
  front_played (d ∷ front) rest w played = (played.0, front_played front rest (after_entry act w d) played.1)

  -- what has the same version is the same
  pub same_between : (es : List Entry) (w : KernelState) (x : ℕ) → IsPlayed act w es → (w x).version ≡ (after act w es x).version → after act w es x ≡ w x
  unfolding Moves
  same_between [] w x played e = refl
  same_between (d ∷ es) w x played e =
      let low = versions_rise_over act local stamped es (after_entry act w d) played.1 x in
      elim (moves act local stamped w d played.0 x) as (λ _. after act (after_entry act w d) es x ≡ w x) [
        | inl k ↦ (
            let f = ap (λ (b : EntityState). b.version) k in
            same_between es (after_entry act w d) x played.1 (f ∙ e) ∙ k)
        | inr k ↦ (let f = k.0 in absurd (omega arith))
      ]

  -- the stamp of a version on the way is the one that it has there
  pub vector_at_front : (front rest : List Entry) (w : KernelState) (x : ℕ) → IsPlayed act w (front ++ rest) → vector_at act w (front ++ rest) x (after act w front x).version ≡ (after act w front x).stamp
  vector_at_front [] rest w x played = same_vector act local stamped rest w x (w x).version refl
  vector_at_front (d ∷ front) rest w x played =
      let n = (after act (after_entry act w d) front x).version in
      elim ((w x).version == n) as (λ b. ((w x).version == n) ≡ b → (if◌then◌else◌ {A = ℕ → ℕ} b (w x).stamp (vector_at act (after_entry act w d) (front ++ rest) x n)) ≡ (after act (after_entry act w d) front x).stamp) [
        | true ↦ λ is. ap (λ (b : EntityState). b.stamp) (sym (same_between (d ∷ front) w x (front_played (d ∷ front) rest w played) (eqb-true _ _ is)))
        | false ↦ λ is. vector_at_front front rest (after_entry act w d) x played.1
      ] refl

  pub vector_of_made : (w : KernelState) (es : List Entry) (c : Commit) → IsPlayed act w es → IsMadeIn act w es c → vector_at act w es c.entity c.version ≡ c.stamp
  vector_of_made w es c played m =
      subst (λ gs. vector_at act w gs c.entity c.version ≡ c.stamp) (sym m.split)
      (ap (vector_at act w (m.front ++ m.rest) c.entity) m.version ∙ vector_at_front m.front m.rest w c.entity (subst (IsPlayed act w) m.split played) ∙ sym m.stamp)

  -- it is not below the start
  version_of_made : (w : KernelState) (es : List Entry) (c : Commit) → IsPlayed act w es → IsMadeIn act w es c → (w c.entity).version ≤ c.version
  version_of_made w es c played m =
      let front : IsPlayed act w m.front = front_played m.front m.rest w (subst (IsPlayed act w) m.split played) in
      let low = versions_rise_over act local stamped m.front w front c.entity in
      let e = m.version in
      omega arith

  -- CHOICES

  module _ (w : KernelState) (es : List Entry) (played : IsPlayed act w es) (below : StampsBelow w) (cs : List Commit) (made : AllCommits (IsMadeIn act w es) cs) (p : ℕ → ℕ) (choice : IsChoice (λ x. (w x).version) cs p) where
    pub choice_low : (x : ℕ) → (w x).version ≤ p x
    choice_low x = elim (choice x) as (λ _. (w x).version ≤ p x) [
      | inl e ↦ omega arith
      | inr a ↦ among_some _ ((w x).version ≤ p x) cs (λ c k.
          let e = k.1.1 in
          let low : (w x).version ≤ c.version = subst (λ z. (w z).version ≤ c.version) k.1.0 (version_of_made w es c played k.0) in
          omega arith) (among_both _ _ cs made a)
    ]

    pub covers_of_choice : IsClosedChoice (λ x. (w x).version) cs p → CoversChosen act p w es
    covers_of_choice closed x y = elim (closed x) as (λ _. vector_at act w es x (p x) y ≤ p y) [
      | inl e ↦ (
          let same = ap (λ (f : ℕ → ℕ). f y) (same_vector act local stamped es w x (p x) (sym e)) in
          let one = below x y in
          let two = choice_low y in
          omega arith)
      | inr a ↦ among_some _ (vector_at act w es x (p x) y ≤ p y) cs (λ c k.
          let v : vector_at act w es x (p x) ≡ c.stamp = subst (λ z. vector_at act w es z (p x) ≡ c.stamp) k.1.0 (ap (vector_at act w es c.entity) (sym k.1.1) ∙ vector_of_made w es c played k.0) in
          let at = ap (λ (f : ℕ → ℕ). f y) v in
          let low = k.1.2 y in
          omega arith) (among_both _ _ cs made a)
    ]

    pub choice_of_covers : CoversChosen act p w es → IsClosedChoice (λ x. (w x).version) cs p
    choice_of_covers covers x = elim (choice x) as (λ _. (p x ≡ (w x).version) ⊎ Among cs (λ c. (c.entity ≡ x) × (c.version ≡ p x) × IsBelow c.stamp p)) [
      | inl e ↦ inl e
      | inr a ↦ inr (among_map cs _ _ (λ c k. (
        k.1.0,
        k.1.1,
        λ y.
            let v : vector_at act w es x (p x) ≡ c.stamp = subst (λ z. vector_at act w es z (p x) ≡ c.stamp) k.1.0 (ap (vector_at act w es c.entity) (sym k.1.1) ∙ vector_of_made w es c played k.0) in
            let at = ap (λ (f : ℕ → ℕ). f y) v in
            let low = covers x y in
            omega arith,
      )) (among_both _ _ cs made a))
    ]

-- THE COMMITS OF A RUN

module _ (s : Supply) (policy : Policy) (script : Script) (w : KernelState) where
  -- made in this history of the run
  abbrev pub Made : List Entry → Commit → Type 0
  Made es c = IsMadeIn (event_of s script) w es c

  -- a commit of what stands now
  made_now : (r : Run) (es : List Entry) (x : ℕ) → r.state ≡ after (event_of s script) w es → Made es (commit_of r x)
  made_now r es x now = record {
    front = es;
    rest = [];
    split = sym (append-nil es);
    version = ap (λ (v : KernelState). (v x).version) now;
    stamp = ap (λ (v : KernelState). (v x).stamp) now;
  }

  all_made_now : (r : Run) (es : List Entry) (xs : List ℕ) → r.state ≡ after (event_of s script) w es → AllCommits (Made es) (commits_of r xs)
  all_made_now r es [] now = tt
  all_made_now r es (x ∷ xs) now = (made_now r es x now, all_made_now r es xs now)

  made_at_start : (xs : List ℕ) → AllCommits (Made []) (chosen_commits w xs)
  made_at_start [] = tt
  made_at_start (x ∷ xs) = (record { front = []; rest = []; split = refl; version = refl; stamp = refl }, made_at_start xs)

  -- the commit that was tried, if any
  abbrev pub tried_of : Run → List Commit
  tried_of r = option_to_list r.tried

  one_made : (r : Run) (es : List Entry) (e : Entry) → r.state ≡ after (event_of s script) w es → AllCommits (Made es) r.commits → AllCommits (Made es) (tried_of r)
      → AllCommits (Made es) (goes_on s script r e).commits × AllCommits (Made es) (tried_of (goes_on s script r e))
  one_made r es e now commits tried =
      elim e.event as (λ ev. AllCommits (Made es) (went_on s script r e ev).commits × AllCommits (Made es) (tried_of (went_on s script r e ev))) [
        | Birth ↦ (commits, tried)
        | Step ↦ (commits, tried)
        | SnapEvent ↦ (all_append (Made es) r.commits _ commits (made_now r es e.actor now, tt), tried)
        | Stable ↦ (all_append (Made es) r.commits _ commits (all_made_now r es (filter (has_changed r) (upto 64)) now), tried)
        | Tried ↦ (commits, (made_now r es e.actor now, tt))
      ]

  after_append : (es : List Entry) (v : KernelState) (e : Entry) → after (event_of s script) v (es ++ e ∷ []) ≡ after_entry (event_of s script) (after (event_of s script) v es) e
  after_append [] v e = refl
  after_append (d ∷ es) v e = after_append es (after_entry (event_of s script) v d) e

  all_made_from : (fs es : List Entry) (r : Run) → r.state ≡ after (event_of s script) w es → AllCommits (Made es) r.commits → AllCommits (Made es) (tried_of r)
      → AllCommits (Made (es ++ fs)) ((run_after s script r fs).commits ++ tried_of (run_after s script r fs))
  all_made_from [] es r now commits tried = subst (λ gs. AllCommits (Made gs) (r.commits ++ tried_of r)) (sym (append-nil es)) (all_append (Made es) r.commits (tried_of r) commits tried)
  all_made_from (e ∷ fs) es r now commits tried =
      let r' = goes_on s script r e in
      let more = λ (c : Commit) (m : Made es c). made_before (event_of s script) w es (e ∷ []) c m in
      let one = one_made r es e now commits tried in
      let now' : r'.state ≡ after (event_of s script) w (es ++ e ∷ []) = state_goes_on s policy script r e ∙ ap (λ (v : KernelState). after_entry (event_of s script) v e) now ∙ sym (after_append es w e) in
      subst (λ gs. AllCommits (Made gs) ((run_after s script r' fs).commits ++ tried_of (run_after s script r' fs))) (append_assoc es (e ∷ []) fs)
      (all_made_from fs (es ++ e ∷ []) r' now' (all_map (Made es) (Made (es ++ e ∷ [])) more r'.commits one.0) (all_map (Made es) (Made (es ++ e ∷ [])) more (tried_of r') one.1))

  -- each commit of a run was made in its history
  pub all_made : (es : List Entry) → AllCommits (Made es) (tried_commits s script w es)
  all_made es = all_made_from es [] (start_run w) refl (made_at_start _) tt

  -- a choice over the first commits is closed by their stamps exactly where it is closed as a part
  pub legal_choice_from : (es : List Entry) (cs later : List Commit) (p : ℕ → ℕ) → IsLegalRun s policy w script es → StampsBelow w → tried_commits s script w es ≡ cs ++ later → IsChoice (λ x. (w x).version) cs p
      → IsClosedChoice (λ x. (w x).version) cs p ↔ IsClosed p es
  legal_choice_from es cs later p legal below first choice =
      let played = legal_played s policy script (start_run w) es legal in
      let made = all_front (Made es) cs later (subst (AllCommits (Made es)) first (all_made es)) in
      let a = event_of_local s policy script in
      let b = event_of_stamped s policy script in
      let part = legal_chosen s policy script w es p legal below (choice_low (event_of s script) a b w es played below cs made p choice) in (
        λ closed. part.1 (covers_of_choice (event_of s script) a b w es played below cs made p choice closed),
        λ closed. choice_of_covers (event_of s script) a b w es played below cs made p choice (part.0 closed),
      )

-- the same for any run
pub legal_choice : (s : Supply) (policy : Policy) (script : Script) (w : KernelState) (es : List Entry) (cs later : List Commit) (p : ℕ → ℕ) → IsLegalRun s policy w script es → StampsBelow w → tried_commits s script w es ≡ cs ++ later
    → IsChoice (λ x. (w x).version) cs p → IsClosedChoice (λ x. (w x).version) cs p ↔ IsClosed p es
legal_choice s policy script w = legal_choice_from s policy script w

-- a closed choice is a choice
choice_of_closed : (start : ℕ → ℕ) (cs : List Commit) (p : ℕ → ℕ) → IsClosedChoice start cs p → IsChoice start cs p
choice_of_closed start cs p closed x = elim (closed x) as (λ _. (p x ≡ start x) ⊎ Among cs (λ c. (c.entity ≡ x) × (c.version ≡ p x))) [ inl e ↦ inl e | inr a ↦ inr (among_map cs _ _ (λ c k. (k.0, k.1)) a) ]

-- the greatest closed choice is the greatest closed part
pub legal_greatest : (s : Supply) (policy : Policy) (script : Script) (w : KernelState) (es : List Entry) (cs later : List Commit) (q : ℕ → ℕ) → IsLegalRun s policy w script es → StampsBelow w → tried_commits s script w es ≡ cs ++ later
    → IsGreatest (λ x. (w x).version) cs q → IsClosed q es × ((p : ℕ → ℕ) → IsChoice (λ x. (w x).version) cs p → IsClosed p es → IsBelow p q)
legal_greatest s policy script w es cs later q legal below first g = (
  (legal_choice s policy script w es cs later q legal below first (choice_of_closed (λ x. (w x).version) cs q g.closed)).0 g.closed,
  λ p choice closed. g.greatest p ((legal_choice s policy script w es cs later p legal below first choice).1 closed),
)
