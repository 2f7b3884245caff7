-- Entries that follow change neither what an entity was at a version that it has reached, nor the part that commits so far make.
use Rattle.std.proofs.Common.{◌≡◌, ℕ, ◌≤◌, ◌<◌, Bool, true, false, not, ◌&&◌, ◌||◌, ◌==◌, nat_le, cond, if◌then◌else◌, List, [], ◌∷◌, ◌++◌, length, take, option_to_list, Option, Some, option_map, refl, sym, ap, subst, ◌∙◌, arith, eq-eqb, inl, inr, append_assoc}
use Rattle.std.proofs.lemmas.Bool.{leb-true}
use Rattle.std.proofs.lemmas.List.{append-nil, take-append-le}
use Rattle.model_cut_laws.specs.base_types.declared.histories.Touch.{Touch}
use Rattle.model_cut_laws.specs.base_types.declared.histories.Entry.{Entry}
use Rattle.model_cut_laws.specs.model_kernel.State.{Supply, EntityState, KernelState}
use Rattle.model_cut_laws.specs.model_kernel.Scripts.{Script}
use Rattle.model_cut_laws.specs.model_kernel.LocalEvents.{touch_at, IsLocal}
use Rattle.model_cut_laws.specs.model_kernel.Parts.{is_event, writes_within, within, part_of, after_entry, after, IsNext, IsPlayed, thing_at}
use Rattle.model_cut_laws.specs.model_kernel.Vectors.{IsStamped}
use Rattle.model_cut_laws.specs.model_kernel.Choices.{Commit}
use Rattle.model_cut_laws.specs.model_kernel.Histories.{Policy, event_of, IsLegalRun, start_run, run_after, commits_in}
use Rattle.model_cut_laws.specs.model_kernel.Fronts.{IsChoice, tried_commits}
use Rattle.model_cut_laws.proofs.model_kernel_lemmas.Basics.{not_false, some_of_map, lt_of_ne}
use Rattle.model_cut_laws.proofs.model_kernel_lemmas.Replay.{all_at, at_entity}
use Rattle.model_cut_laws.proofs.model_kernel_lemmas.Covering.{found}
use Rattle.model_cut_laws.proofs.model_kernel_lemmas.Among.{among_some}
use Rattle.model_cut_laws.proofs.model_kernel_lemmas.ChosenVectors.{Moves, moves}
use Rattle.model_cut_laws.proofs.model_kernel_lemmas.CommitStamps.{AllCommits, IsMadeIn, all_front, all_made, among_both}
use Rattle.model_cut_laws.proofs.model_kernel_lemmas.LegalRuns.{event_of_local, event_of_stamped, legal_played}
use Rattle.model_cut_laws.proofs.model_kernel_lemmas.StableCuts.{commits_grow, run_append, versions_rise, versions_rise_over}

-- PARTS OF LONGER HISTORIES

module _ (act : Entry → KernelState → Option (Entry × KernelState)) where
  pub after_append : (fs gs : List Entry) (w : KernelState) → after act w (fs ++ gs) ≡ after act (after act w fs) gs
  after_append [] gs w = refl
  after_append (e ∷ fs) gs w = after_append fs gs (after_entry act w e)

  pub played_rest : (fs gs : List Entry) (w : KernelState) → IsPlayed act w (fs ++ gs) → IsPlayed act (after act w fs) gs
  played_rest [] gs w played = played
  played_rest (e ∷ fs) gs w played = played_rest fs gs (after_entry act w e) played.1

  pub played_front : (fs gs : List Entry) (w : KernelState) → IsPlayed act w (fs ++ gs) → IsPlayed act w fs
  played_front [] gs w played = tt
  played_front (e ∷ fs) gs w played = (played.0, played_front fs gs (after_entry act w e) played.1)

-- THINGS STAY

module _ (act : Entry → KernelState → Option (Entry × KernelState)) (local : (e : Entry) → IsLocal (λ (b : EntityState). b.version) (act e)) (stamped : (e : Entry) → IsStamped (act e)) where
  abbrev pub thing : KernelState → List Entry → ℕ → ℕ → EntityState
  thing w es x n = thing_at act (λ (b : EntityState). b.version) w es x n

  at_once : (w : KernelState) (es : List Entry) (x n : ℕ) → (w x).version ≡ n → thing w es x n ≡ w x
  at_once w [] x n e = refl
  at_once w (d ∷ es) x n e = let t : ((w x).version == n) ≡ true = eq-eqb _ _ e in rw t refl

  thing_stays : (es fs : List Entry) (w : KernelState) (x n : ℕ) → IsPlayed act w es → (w x).version ≤ n → n ≤ (after act w es x).version → thing w (es ++ fs) x n ≡ thing w es x n
  unfolding Moves
  thing_stays [] fs w x n played low high = at_once w fs x n (omega arith)
  thing_stays (e ∷ es) fs w x n played low high =
      elim ((w x).version == n) as (λ b. ((w x).version == n) ≡ b → (if b then w x else thing (after_entry act w e) (es ++ fs) x n) ≡ (if b then w x else thing (after_entry act w e) es x n)) [
        | true ↦ λ is. refl
        | false ↦ λ is. (
            let lt : (w x).version < n = lt_of_ne _ _ low is in
            thing_stays es fs (after_entry act w e) x n played.1
            (elim (moves act local stamped w e played.0 x) as (λ _. (after_entry act w e x).version ≤ n) [
              | inl k ↦ (let f = ap (λ (b : EntityState). b.version) k in omega arith)
              | inr k ↦ (let f = k.0 in omega arith)
            ])
            high)
      ] refl

  -- EVENTS PAST A CHOICE

  module _ (q : ℕ → ℕ) where
    -- an event writes something, to a version past the one that it finds
    writes_past : (w : KernelState) (e : Entry) (r : Entry × KernelState) → act e w ≡ Some r → ((x : ℕ) → q x ≤ (w x).version) → writes_within q r.0.touched ≡ true → ⊥
    writes_past w e r is low all =
        let f = found (λ (t : Touch). t.wrote) r.0.touched ((stamped e).rising w r is) ((local e).moves w r is) in
        let x = f.0 in
        let t = f.1 in
        let there : touch_at r.0.touched x ≡ Some t = f.2 in
        let wrote : t.wrote ≡ true = f.3 in
        let at : t.entity ≡ x = at_entity r.0.touched x t there in
        let b = (all_at (λ t. not t.wrote || nat_le t.version (q t.entity)) r.0.touched x t all there).0 in
        let le : nat_le t.version (q t.entity) ≡ true = subst (λ (c : Bool). (not c || nat_le t.version (q t.entity)) ≡ true) wrote b in
        let small : t.version ≤ q x = subst (λ y. t.version ≤ q y) at (leb-true _ _ le) in
        let rises = ((local e).writes w r is x t there wrote).1 in
        let l = low x in
        omega arith

    none_one : (w : KernelState) (e : Entry) → IsNext act w e → ((x : ℕ) → q x ≤ (w x).version) → within q e ≡ false
    none_one w e next low =
        elim (is_event e.event) as (λ b. is_event e.event ≡ b → (b && writes_within q e.touched) ≡ false) [
          | true ↦ λ ev.
              let made : option_map (λ (r : Entry × KernelState). r.0) (act e w) ≡ Some e = rw ev at next in
              let r = some_of_map (λ (r : Entry × KernelState). r.0) (act e w) e made in
              not_false (writes_within q e.touched) (λ all. writes_past w e r.0 r.1 low (ap (λ (k : Entry). writes_within q k.touched) r.2 ∙ all))
          | false ↦ λ ev. refl
        ] refl

    pub none_in : (gs : List Entry) (w : KernelState) → IsPlayed act w gs → ((x : ℕ) → q x ≤ (w x).version) → part_of q gs ≡ []
    none_in [] w played low = refl
    none_in (e ∷ gs) w played low =
        let out = none_one w e played.0 low in
        let rest = none_in gs (after_entry act w e) played.1 (λ x. let a = low x in let b = versions_rise act local stamped w e played.0 x in omega arith) in
        (λ i. cond (out i) (e ∷ part_of q gs) (part_of q gs)) ∙ rest

pub part_append : (q : ℕ → ℕ) (fs gs : List Entry) → part_of q (fs ++ gs) ≡ part_of q fs ++ part_of q gs
part_append q [] gs = refl
part_append q (e ∷ fs) gs =
    elim (within q e) as (λ b. cond b (e ∷ part_of q (fs ++ gs)) (part_of q (fs ++ gs)) ≡ cond b (e ∷ part_of q fs) (part_of q fs) ++ part_of q gs) [
      | true ↦ ap (λ es. e ∷ es) (part_append q fs gs)
      | false ↦ part_append q fs gs
    ]

module _ (s : Supply) (policy : Policy) (script : Script) where
  pub things_stay : (w : KernelState) (es fs : List Entry) (x n : ℕ) → IsLegalRun s policy w script (es ++ fs) → (w x).version ≤ n → n ≤ (after (event_of s script) w es x).version
      → thing (event_of s script) (event_of_local s policy script) (event_of_stamped s policy script) w (es ++ fs) x n ≡ thing (event_of s script) (event_of_local s policy script) (event_of_stamped s policy script) w es x n
  things_stay w es fs x n legal low high =
      let played = legal_played s policy script (start_run w) (es ++ fs) legal in
      let act = event_of s script in
      let local = event_of_local s policy script in
      let stamped = event_of_stamped s policy script in
      thing_stays act local stamped es fs w x n (played_front act es fs w played) low high

  -- no choice over commits so far is above the versions so far
  choice_reached : (w : KernelState) (es : List Entry) (cs later : List Commit) (q : ℕ → ℕ) → IsPlayed (event_of s script) w es → tried_commits s script w es ≡ cs ++ later → IsChoice (λ x. (w x).version) cs q
      → (x : ℕ) → q x ≤ (after (event_of s script) w es x).version
  choice_reached w es cs later q played first choice x =
      let act = event_of s script in
      let local = event_of_local s policy script in
      let stamped = event_of_stamped s policy script in
      elim (choice x) as (λ _. q x ≤ (after act w es x).version) [
        | inl e ↦ (let rise = versions_rise_over act local stamped es w played x in omega arith)
        | inr a ↦ among_some _ (q x ≤ (after act w es x).version) cs (λ c k.
            let m = k.0 in
            let e = k.1.1 in
            let split = subst (IsPlayed act w) m.split played in
            let rise = versions_rise_over act local stamped m.rest (after act w m.front) (played_rest act m.front m.rest w split) c.entity in
            let same : (after act (after act w m.front) m.rest c.entity).version ≡ (after act w es c.entity).version = ap (λ (v : KernelState). (v c.entity).version) (sym (after_append act m.front m.rest w) ∙ ap (after act w) (sym m.split)) in
            let v = m.version in
            let low : c.version ≤ (after act w es c.entity).version = omega arith in
            let at : c.version ≤ (after act w es x).version = subst (λ z. c.version ≤ (after act w es z).version) k.1.0 low in
            omega arith) (among_both _ _ cs (all_front (IsMadeIn act w es) cs later (subst (AllCommits (IsMadeIn act w es)) first (all_made s policy script w es))) a)
      ]

  pub cuts_stay : (w : KernelState) (es fs : List Entry) (cs later : List Commit) (q : ℕ → ℕ) → IsLegalRun s policy w script (es ++ fs) → tried_commits s script w es ≡ cs ++ later → IsChoice (λ x. (w x).version) cs q → part_of q (es ++ fs) ≡ part_of q es
  cuts_stay w es fs cs later q legal first choice =
      let act = event_of s script in
      let local = event_of_local s policy script in
      let stamped = event_of_stamped s policy script in
      let played = legal_played s policy script (start_run w) (es ++ fs) legal in
      let reached = choice_reached w es cs later q (played_front act es fs w played) first choice in
      part_append q es fs ∙ ap (λ gs. part_of q es ++ gs) (none_in act local stamped q fs (after act w es) (played_rest act es fs w played) reached) ∙ append-nil (part_of q es)

  -- the first commits stay the first
  pub first_stay : (w : KernelState) (es fs : List Entry) (k : ℕ) → k ≤ length (commits_in s script w es) → take k (tried_commits s script w (es ++ fs)) ≡ take k (tried_commits s script w es)
  first_stay w es fs k le =
      let r = run_after s script (start_run w) es in
      let g = commits_grow s policy script r fs in
      let tried = option_to_list (run_after s script (start_run w) (es ++ fs)).tried in
      let now : commits_in s script w (es ++ fs) ≡ r.commits ++ g.0 = ap (λ (u : Rattle.model_cut_laws.specs.model_kernel.Histories.Run). u.commits) (run_append s policy script (start_run w) es fs) ∙ g.1 in
      ap (λ cs. take k (cs ++ tried)) now ∙ ap (take k) (append_assoc r.commits g.0 tried) ∙ take-append-le k r.commits (g.0 ++ tried) le ∙ sym (take-append-le k r.commits (option_to_list r.tried) le)
