-- Runs from states that differ in clocks alone may go on alike.
use Rattle.std.proofs.Common.{◌≡◌, ℕ, ◌+◌, ◌-◌, ◌<◌, false, not, ◌&&◌, ◌||◌, nat_le, nat_lt, if◌then◌else◌, inl, inr, List, [], ◌∷◌, ◌++◌, filter, find, Option, Some, None, is_some, option_map, refl, sym, ap, subst, ◌∙◌, arith}
use Rattle.std.specs.List.{list_any}
use Rattle.base_types.specs.Edges.{upto}
use Rattle.base_types.specs.declared.histories.Entry.{Entry}
use Rattle.base_types.specs.declared.histories.Event.{Event}
use Rattle.base_types.specs.declared.histories.Event.TheVariants.{Birth, Step, Snap as SnapEvent, Stable, Tried}
use Rattle.model_kernel.specs.Births.{next_birth_change}
use Rattle.model_kernel.specs.Changes.{Change, acts}
use Rattle.model_kernel.specs.Choices.{Commit, greatest}
use Rattle.model_kernel.specs.Histories.{Policy, Run, IsLegalFrom, IsLegalRun, IsMade, May, MayCommit, after_birth, after_snap, after_stable, after_step, asked_by, births_owed, by_event, chosen_commits, commit_of, commits_above, commits_of, event_of, every_of, goes_on, has_changed, has_wish, is_due, is_full, locus_in, mark, may, next_changed, noting, owed_by, owing_births, run_after, start_run, version_of, went_on, with_asked, writes}
use Rattle.model_kernel.specs.Parts.{after_entry, is_event, next_of}
use Rattle.model_kernel.specs.Scripts.{Script, next_name}
use Rattle.model_kernel.specs.State.{KernelState, Supply}
use Rattle.model_kernel.specs.Steps.{atlas_in, step_change}
use Rattle.model_kernel.specs.Vectors.{StampsBelow}
use Rattle.model_kernel.specs.Words.{put}
use Rattle.model_kernel.proofs.Basics.{some_of_map}
use Rattle.model_clocks.specs.Alike.{AreAlike}
use Rattle.model_clocks.proofs.Cuts.{AreLikeCommits, IsLikeCommit, above_like, greatest_like, like_append}
use Rattle.model_clocks.proofs.Events.{AreLikeStamps, acts_alike, birth_change_same, step_change_same}

-- what two such runs have in common
pub record AreLikeRuns (start : ℕ → ℕ) (r q : Run) : Type 0 where
  pub from : r.start ≡ start
  pub from_too : q.start ≡ start
  pub alike : AreAlike r.state q.state
  pub stamps : AreLikeStamps start r.state q.state
  pub began : r.began ≡ q.began
  pub owed : r.owed ≡ q.owed
  pub short : r.short ≡ q.short
  pub steps : r.steps ≡ q.steps
  pub newest : r.newest ≡ q.newest
  pub by_step : r.by_step ≡ q.by_step
  pub asked : r.asked ≡ q.asked
  pub was_full : r.was_full ≡ q.was_full
  pub commits : AreLikeCommits start r.commits q.commits
  pub cut : r.cut ≡ q.cut
  pub tried : r.tried ≡ None → q.tried ≡ None

module _ (start : ℕ → ℕ) (r q : Run) (k : AreLikeRuns start r q) where
  version_same : (x : ℕ) → version_of r x ≡ version_of q x
  version_same x = (k.alike x).version

  wish_same : (policy : Policy) (x : ℕ) → has_wish policy r x ≡ has_wish policy q x
  wish_same policy x = λ i. k.by_step i x && policy (every_of ((k.alike x).cell i)) ((k.alike x).version i - k.newest i x) || k.asked i x

  full_same : (x : ℕ) → is_full r x ≡ is_full q x
  full_same x = ap (nat_le 4) (above_like start r.commits q.commits k.commits r.cut x ∙ ap (λ (cut : ℕ → ℕ). commits_above q.commits cut x) k.cut)

  due_same : (policy : Policy) (x : ℕ) → is_due policy r x ≡ is_due policy q x
  due_same policy x = λ i. wish_same policy x i && not (k.was_full i x)

  changed_same : (x : ℕ) → has_changed r x ≡ has_changed q x
  changed_same x = λ i. nat_lt (k.newest i x) ((k.alike x).version i)

  next_same : next_changed r ≡ next_changed q
  next_same = λ i. find (λ x. changed_same x i) (upto 64)

  births_same : (script : Script) → births_owed script r ≡ births_owed script q
  births_same script = λ i. is_some (next_name (atlas_in ((k.alike 0).cell i)) script)

  -- WHAT MAY FOLLOW

  made_same : (event : Event) (f : KernelState → Option (ℕ × Change)) → ((w v : KernelState) → AreAlike w v → f w ≡ f v) → (e : Entry) → IsMade (acts event f r.state) e → IsMade (acts event f q.state) e
  made_same event f same e made =
      let m = some_of_map (λ (p : Entry × KernelState). p.0) (acts event f r.state) e made in
      let there = acts_alike event f r.state q.state k.alike (same r.state q.state k.alike) m.0 m.1 in
      ap (option_map (λ (p : Entry × KernelState). p.0)) there.1 ∙ ap Some m.2

  commit_same : (policy : Policy) (x : ℕ) → MayCommit policy r x → MayCommit policy q x
  commit_same policy x m = elim m as (λ _. MayCommit policy q x) [
    | inl c ↦ inl (sym (wish_same policy x) ∙ c.0, ap not (sym (full_same x)) ∙ c.1, sym k.owed ∙ c.2)
    | inr c ↦ inr (ap is_some (sym k.owed) ∙ c.0, sym next_same ∙ c.1)
  ]

  pub may_same : (s : Supply) (policy : Policy) (script : Script) (e : Entry) → May s policy script r e → May s policy script q e
  may_same s policy script e m = (
    k.tried m.0,
    elim e.event as (λ ev. may s policy script r e ev → may s policy script q e ev) [
      | Birth ↦ λ m. (sym k.began ∙ m.0, made_same Birth (next_birth_change s script) (birth_change_same s script) e m.1)
      | Step ↦ λ m. (
        sym (births_same script) ∙ m.0,
        sym k.owed ∙ m.1,
        subst (λ (f : ℕ → ℕ). f e.actor < script.steps) k.steps m.2,
        (λ i. list_any (λ t. sym (due_same policy t.entity) i) e.touched) ∙ m.3,
        made_same Step (step_change s e.actor) (step_change_same s e.actor) e m.4,
      )
      | SnapEvent ↦ λ m. (m.0 ∙ ap (mark SnapEvent e.actor) (version_same e.actor), commit_same policy e.actor m.1)
      | Stable ↦ λ m. (sym k.owed ∙ m.0, sym k.short ∙ m.1, m.2)
      | Tried ↦ λ m. (m.0 ∙ ap (mark Tried e.actor) (version_same e.actor), commit_same policy e.actor m.1)
    ] m.1,
  )

  -- WHAT FOLLOWS

  noting_same : AreLikeRuns start (noting r) (noting q)
  noting_same = record {
    from = k.from;
    from_too = k.from_too;
    alike = k.alike;
    stamps = k.stamps;
    began = k.began;
    owed = k.owed;
    short = k.short;
    steps = k.steps;
    newest = k.newest;
    by_step = k.by_step;
    asked = k.asked;
    was_full = λ i x. k.was_full i x || full_same x i;
    commits = k.commits;
    cut = k.cut;
    tried = k.tried;
  }

  birth_same : (e : Entry) (w v : KernelState) → AreAlike w v → AreLikeStamps start w v → AreLikeRuns start (after_birth r e w) (after_birth q e v)
  birth_same e w v alike stamps = record {
    from = k.from;
    from_too = k.from_too;
    alike = alike;
    stamps = stamps;
    began = k.began;
    owed = k.owed;
    short = k.short;
    steps = k.steps;
    newest = k.newest;
    by_step = λ i x. not (writes e x) && k.by_step i x;
    asked = k.asked;
    was_full = k.was_full;
    commits = k.commits;
    cut = k.cut;
    tried = k.tried;
  }

  owing_same : (script : Script) → AreLikeRuns start (owing_births script r) (owing_births script q)
  owing_same script = record {
    from = k.from;
    from_too = k.from_too;
    alike = k.alike;
    stamps = k.stamps;
    began = k.began;
    owed = λ i. if births_same script i then None else Some 0;
    short = k.short;
    steps = k.steps;
    newest = k.newest;
    by_step = k.by_step;
    asked = k.asked;
    was_full = k.was_full;
    commits = k.commits;
    cut = k.cut;
    tried = k.tried;
  }

  step_same : (e : Entry) (w v : KernelState) → AreAlike w v → AreLikeStamps start w v
      → AreLikeRuns start (after_step r e (locus_in (r.state e.actor).cell) w) (after_step q e (locus_in (q.state e.actor).cell) v)
  step_same e w v alike stamps = record {
    from = k.from;
    from_too = k.from_too;
    alike = alike;
    stamps = stamps;
    began = refl;
    owed = λ i. owed_by e.actor e.answer (locus_in ((k.alike e.actor).cell i));
    short = k.short;
    steps = λ i. put (k.steps i) e.actor (k.steps i e.actor + 1);
    newest = k.newest;
    by_step = λ i x. writes e x || k.by_step i x;
    asked = λ i. with_asked (asked_by e.answer (locus_in ((k.alike e.actor).cell i))) (k.asked i);
    was_full = λ i x. not (writes e x) && k.was_full i x;
    commits = k.commits;
    cut = k.cut;
    tried = k.tried;
  }

  commit_like : (x : ℕ) → IsLikeCommit start (commit_of r x) (commit_of q x)
  commit_like x = record { entity = refl; version = version_same x; stamp = k.stamps x }

  commits_like : (xs : List ℕ) → AreLikeCommits start (commits_of r xs) (commits_of q xs)
  commits_like [] = tt
  commits_like (x ∷ xs) = (commit_like x, commits_like xs)

  cut_same : (cs ds : List Commit) → AreLikeCommits start cs ds → greatest r.start (r.commits ++ cs) ≡ greatest q.start (q.commits ++ ds)
  cut_same cs ds like =
      ap (λ (p : ℕ → ℕ). greatest p (r.commits ++ cs)) k.from
      ∙ greatest_like start (r.commits ++ cs) (q.commits ++ ds) (like_append start r.commits q.commits cs ds k.commits like)
      ∙ ap (λ (p : ℕ → ℕ). greatest p (q.commits ++ ds)) (sym k.from_too)

  snap_same : (x : ℕ) → AreLikeRuns start (after_snap r x) (after_snap q x)
  snap_same x =
      let one : AreLikeCommits start (commit_of r x ∷ []) (commit_of q x ∷ []) = (commit_like x, tt) in
      record {
        from = k.from;
        from_too = k.from_too;
        alike = k.alike;
        stamps = k.stamps;
        began = refl;
        owed = k.owed;
        short = ap is_some k.owed;
        steps = k.steps;
        newest = λ i. put (k.newest i) x (version_same x i);
        by_step = λ i. put (k.by_step i) x false;
        asked = λ i. put (k.asked i) x false;
        was_full = k.was_full;
        commits = like_append start r.commits q.commits _ _ k.commits one;
        cut = cut_same _ _ one;
        tried = k.tried;
      }

  stable_same : AreLikeRuns start (after_stable r) (after_stable q)
  stable_same =
      let same : filter (has_changed r) (upto 64) ≡ filter (has_changed q) (upto 64) = λ i. filter (λ x. changed_same x i) (upto 64) in
      let all : AreLikeCommits start (commits_of r (filter (has_changed r) (upto 64))) (commits_of q (filter (has_changed q) (upto 64))) =
      subst (λ xs. AreLikeCommits start (commits_of r (filter (has_changed r) (upto 64))) (commits_of q xs)) same (commits_like (filter (has_changed r) (upto 64))) in
      record {
        from = k.from;
        from_too = k.from_too;
        alike = k.alike;
        stamps = k.stamps;
        began = refl;
        owed = refl;
        short = k.short;
        steps = k.steps;
        newest = λ i x. version_same x i;
        by_step = refl;
        asked = refl;
        was_full = k.was_full;
        commits = like_append start r.commits q.commits _ _ k.commits all;
        cut = cut_same _ _ all;
        tried = k.tried;
      }

  tried_same : (x : ℕ) → AreLikeRuns start (record r { tried = Some (commit_of r x) }) (record q { tried = Some (commit_of q x) })
  tried_same x = record {
    from = k.from;
    from_too = k.from_too;
    alike = k.alike;
    stamps = k.stamps;
    began = k.began;
    owed = k.owed;
    short = k.short;
    steps = k.steps;
    newest = k.newest;
    by_step = k.by_step;
    asked = k.asked;
    was_full = k.was_full;
    commits = k.commits;
    cut = k.cut;
    tried = λ e. absurd (some_none (commit_of r x) e);
  }
    where
      some_none : (c : Commit) → Some c ≡ None → ⊥
      some_none c e = cc

  -- the states after a made event
  abbrev pub AreLikeAfter : KernelState → KernelState → Type 0
  AreLikeAfter w v = AreAlike w v × AreLikeStamps start w v

  after_made : (act : Entry → KernelState → Option (Entry × KernelState)) (event : Event) (f : KernelState → Option (ℕ × Change)) → ((w v : KernelState) → AreAlike w v → f w ≡ f v) → (e : Entry) → IsMade (acts event f r.state) e
      → AreLikeAfter (next_of act r.state (acts event f r.state)) (next_of act q.state (acts event f q.state))
  after_made act event f same e made =
      let m = some_of_map (λ (p : Entry × KernelState). p.0) (acts event f r.state) e made in
      let there = acts_alike event f r.state q.state k.alike (same r.state q.state k.alike) m.0 m.1 in
      subst (λ o. AreLikeAfter (next_of act r.state o) (next_of act q.state (acts event f q.state))) (sym m.1)
      (subst (λ o. AreLikeAfter m.0.1 (next_of act q.state o)) (sym there.1) (there.2, there.3 start k.stamps))

module _ (s : Supply) (policy : Policy) (script : Script) (start : ℕ → ℕ) where
  pub next_same_run : (r q : Run) (e : Entry) → AreLikeRuns start r q → May s policy script r e → AreLikeRuns start (goes_on s script r e) (goes_on s script q e)
  next_same_run r q e k m =
      elim e.event as (λ ev. e.event ≡ ev → may s policy script r e ev → AreLikeRuns start (went_on s script r e ev) (went_on s script q e ev)) [
        | Birth ↦ λ is m. (
            let after = at_event Birth is (after_made start r q k (event_of s script) Birth (next_birth_change s script) (birth_change_same s script) e m.1) in
            let a = birth_same start r q k e (after_entry (event_of s script) r.state e) (after_entry (event_of s script) q.state e) after.0 after.1 in
            let b = owing_same start _ _ a script in
            noting_same start _ _ b)
        | Step ↦ λ is m. (
            let after = at_event Step is (after_made start r q k (event_of s script) Step (step_change s e.actor) (step_change_same s e.actor) e m.4) in
            noting_same start _ _ (step_same start r q k e (after_entry (event_of s script) r.state e) (after_entry (event_of s script) q.state e) after.0 after.1))
        | SnapEvent ↦ λ is m. noting_same start _ _ (snap_same start r q k e.actor)
        | Stable ↦ λ is m. noting_same start _ _ (stable_same start r q k)
        | Tried ↦ λ is m. tried_same start r q k e.actor
      ] refl m.1
    where
      at_event : (ev : Event) → e.event ≡ ev → AreLikeAfter start r q k (if is_event ev then next_of (event_of s script) r.state (by_event s script ev e.actor r.state) else r.state) (if is_event ev then next_of (event_of s script) q.state (by_event s script ev e.actor q.state) else q.state)
          → AreLikeAfter start r q k (after_entry (event_of s script) r.state e) (after_entry (event_of s script) q.state e)
      at_event ev is h =
          subst (λ ev. AreLikeAfter start r q k (if is_event ev then next_of (event_of s script) r.state (by_event s script ev e.actor r.state) else r.state) (if is_event ev then next_of (event_of s script) q.state (by_event s script ev e.actor q.state) else q.state)) (sym is) h

  legal_over : (es : List Entry) (r q : Run) → AreLikeRuns start r q → IsLegalFrom s policy script r es → IsLegalFrom s policy script q es
  legal_over [] r q k legal = tt
  legal_over (e ∷ es) r q k legal =
      (may_same start r q k s policy script e legal.0, legal_over es (goes_on s script r e) (goes_on s script q e) (next_same_run r q e k legal.0) legal.1)

  -- behind a legal history the two are alike still
  pub runs_over : (es : List Entry) (r q : Run) → AreLikeRuns start r q → IsLegalFrom s policy script r es → AreLikeRuns start (run_after s script r es) (run_after s script q es)
  runs_over [] r q k legal = k
  runs_over (e ∷ es) r q k legal = runs_over es (goes_on s script r e) (goes_on s script q e) (next_same_run r q e k legal.0) legal.1

chosen_like : (start : ℕ → ℕ) (w v : KernelState) → AreAlike w v → AreLikeStamps start w v → (xs : List ℕ) → AreLikeCommits start (chosen_commits w xs) (chosen_commits v xs)
chosen_like start w v alike stamps [] = tt
chosen_like start w v alike stamps (x ∷ xs) = (record { entity = refl; version = (alike x).version; stamp = stamps x }, chosen_like start w v alike stamps xs)

-- runs begin alike
pub start_like : (w v : KernelState) → AreAlike w v → StampsBelow w → StampsBelow v → AreLikeRuns (λ x. (w x).version) (start_run w) (start_run v)
start_like w v alike low low_too =
    let start : ℕ → ℕ = λ x. (w x).version in
    let stamps : AreLikeStamps start w v = λ x y. (let a = low x y in let b = low_too x y in let e = (alike y).version in omega (arith, a, b, e)) in
    let same : filter (λ x. nat_lt 0 (w x).version) (upto 64) ≡ filter (λ x. nat_lt 0 (v x).version) (upto 64) = λ i. filter (λ x. nat_lt 0 ((alike x).version i)) (upto 64) in
    let chosen : AreLikeCommits start (start_run w).commits (start_run v).commits =
    subst (λ xs. AreLikeCommits start (start_run w).commits (chosen_commits v xs)) same (chosen_like start w v alike stamps (filter (λ x. nat_lt 0 (w x).version) (upto 64))) in
    record {
      from = refl;
      from_too = λ i x. sym (alike x).version i;
      alike = alike;
      stamps = stamps;
      began = refl;
      owed = refl;
      short = refl;
      steps = refl;
      newest = λ i x. (alike x).version i;
      by_step = refl;
      asked = refl;
      was_full = refl;
      commits = chosen;
      cut = λ i x. (alike x).version i;
      tried = λ e. e;
    }

pub legal_alike : (s : Supply) (policy : Policy) (script : Script) (w v : KernelState) (es : List Entry) → AreAlike w v → StampsBelow w → StampsBelow v → IsLegalRun s policy w script es → IsLegalRun s policy v script es
legal_alike s policy script w v es alike low low_too legal = legal_over s policy script (λ x. (w x).version) es (start_run w) (start_run v) (start_like w v alike low low_too) legal
