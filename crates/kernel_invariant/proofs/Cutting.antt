-- From the records that an image stores to the state that it means.
use Rattle.std.proofs.Common.{◌≡◌, ℕ, ◌≤◌, true, ◌==◌, inl, List, [], ◌∷◌, ◌++◌, length, take, drop, refl, sym, ap, subst, ◌∙◌, arith, eq-eqb, ◌+◌, ◌-◌}
use Rattle.std.proofs.Math.Seq.{take-append-add}
use Rattle.std.specs.List.{AllByRecursion}
use Rattle.std.proofs.lemmas.List.{take-append-drop}
use Rattle.edge_disk.specs.Image.{Image}
use Rattle.store_books.specs.base_types.declared.histories.Entry.{Entry}
use Rattle.model_sound_states.specs.model_kernel.Choices.{IsGreatest, IsNarrow}
use Rattle.model_sound_states.specs.model_kernel.Histories.{event_of, start_run}
use Rattle.model_sound_states.specs.model_kernel.Parts.{IsClosed, after, part_of}
use Rattle.model_sound_states.specs.model_kernel.State.{EntityState, KernelState, empty_state}
use Rattle.model_sound_states.proofs.model_kernel_lemmas.CommitStamps.{legal_greatest}
use Rattle.model_sound_states.proofs.model_kernel_lemmas.LegalRuns.{event_of_local, legal_played}
use Rattle.model_sound_states.proofs.model_kernel_lemmas.PartStates.{part_state}
use Rattle.store_books.specs.model_cut_laws.Agreeing.{HoldsStart, nothing}
use Rattle.store_books.specs.model_cut_laws.Records.{commits_of}
use Rattle.store_books.proofs.model_cut_laws_lemmas.Joins.{from_nothing, same_greatest}
use Rattle.model_sound_states.proofs.model_run_laws_lemmas.Starts.{starts_first, starts_held}
use Rattle.model_sound_states.proofs.model_sound_runs_lemmas.Runs.{part_sound}
use Rattle.model_sound_states.proofs.Empty.{none_beyond}
use Rattle.store_books.specs.image_meaning.Meaning.{Means}
use Rattle.store_books.specs.image_meaning.Stores.{Kept, recs_of}
use Rattle.store_told.specs.Told.{IsChosenState, IsToldRecord}
use Rattle.store_told.proofs.Telling.{narrow_told, told_meant}
use Rattle.kernel_invariant.specs.Beginnings.{Beginning, BeginsRight, IsLegal, completed, entity_at, first_commits, with_tried}
use Rattle.kernel_invariant.specs.Left.{IsCutState}
use Rattle.kernel_invariant.specs.Records.{IsKeptRecord, StoresCommits}

-- what x is at its version at the start
pub first_thing : (b : Beginning) (es : List Entry) (x : ℕ) → entity_at b es x ((b.state x).version) ≡ b.state x
first_thing b [] x = refl
first_thing b (e ∷ es) x =
    let t : ((b.state x).version == (b.state x).version) ≡ true = eq-eqb (b.state x).version (b.state x).version refl in
    rw t refl

-- kept records of a run tell what its entities are
pub each_told : (b : Beginning) (es : List Entry) (ks : List Kept) → AllByRecursion (IsKeptRecord b es) ks → AllByRecursion (IsToldRecord b.supply (entity_at b es)) ks
each_told b es [] each = tt
each_told b es (k ∷ ks) (one, each) = (one.told, each_told b es ks each)

pub narrow_kept : (b : Beginning) (es : List Entry) (ks : List Kept) → AllByRecursion (IsKeptRecord b es) ks → IsNarrow (commits_of (recs_of ks))
narrow_kept b es ks each = narrow_told b.supply (entity_at b es) ks (each_told b es ks each)

-- COMMITS FROM THE START

front_of : {A : Type 0} (k : ℕ) (xs ys : List A) → length xs ≤ k → take k (xs ++ ys) ≡ xs ++ take (k - length xs) ys
front_of k xs ys le =
    let at : k ≡ length xs + (k - length xs) = omega (arith, le) in
    ap (λ n. take n (xs ++ ys)) at ∙ take-append-add xs ys (k - length xs)

module _ (b : Beginning) (es : List Entry) (k : ℕ) (right : BeginsRight b) (enough : length (completed b []) ≤ k) where
  -- the first commits hold the start
  pub hold_start : HoldsStart (λ x. (b.state x).version) (first_commits b es k)
  hold_start =
      let first = starts_first b.supply b.policy b.script b.state es in
      let cs = completed b [] in
      let is : first_commits b es k ≡ cs ++ take (k - length cs) first.0 = ap (take k) first.1 ∙ front_of k cs first.0 enough in
      subst (HoldsStart (λ x. (b.state x).version)) (sym is) (starts_held b.supply b.script b.state (take (k - length cs) first.0) right.sound.below (none_beyond b.supply b.state right.sound))

  pub from_start : (q : ℕ → ℕ) → IsGreatest nothing (first_commits b es k) q → IsGreatest (λ x. (b.state x).version) (first_commits b es k) q
  from_start q g = from_nothing (λ x. (b.state x).version) (first_commits b es k) q hold_start g

-- THE LAW

module _ (b : Beginning) (es : List Entry) (count k : ℕ) (c : Image) (right : BeginsRight b) (legal : IsLegal b es) (enough : length (completed b []) ≤ k) (st : StoresCommits b es count (first_commits b es k) c) where
  q : ℕ → ℕ
  q = st.records.agree.cut

  v : KernelState
  v = after (event_of b.supply b.script) b.state (part_of q es)

  up : IsGreatest (λ x. (b.state x).version) (first_commits b es k) q
  unfolding q
  up = from_start b es k right enough st.records.agree.cut st.records.agree.greatest

  closed : IsClosed q es
  unfolding q
  closed =
      (legal_greatest b.supply b.policy b.script b.state es (first_commits b es k) (drop k (with_tried b es)) q legal right.sound.below (sym (take-append-drop k (with_tried b es))) up).0

  above : (x : ℕ) → (b.state x).version ≤ q x
  unfolding q
  above = up.greatest (λ x. (b.state x).version) (λ x. inl refl)

  same : (x : ℕ) → v x ≡ entity_at b es x (q x)
  unfolding q v
  same = part_state (λ (e : EntityState). e.version) q (event_of b.supply b.script) (event_of_local b.supply b.policy b.script) es b.state (legal_played b.supply b.policy b.script (start_run b.state) es legal) closed above

  kept_greatest : IsGreatest nothing (commits_of (recs_of st.ks)) q
  unfolding q
  kept_greatest = same_greatest nothing q (first_commits b es k) (commits_of (recs_of st.ks)) st.records.agree.same st.records.agree.greatest

  -- where the choice takes nothing of x, x is as in the state of nothing
  unwritten : (x : ℕ) → q x ≡ 0 → v x ≡ empty_state x
  unwritten x none =
      let low : (b.state x).version ≤ q x = above x in
      let start : (b.state x).version ≡ 0 = omega (arith, low, none) in
      let at : q x ≡ (b.state x).version = none ∙ sym start in
      same x ∙ (subst (λ n. entity_at b es x n ≡ b.state x) (sym at) (first_thing b es x) ∙ right.unwritten x start)

  chosen : IsChosenState (entity_at b es) q v
  unfolding v
  chosen = record {
    same = same;
    unwritten = unwritten;
    sound = part_sound b.supply b.policy b.script b.state es q right.script (right.sound.sound, right.names) legal;
  }

  pub cut_meant : (u : KernelState) × Means b.supply c u × IsCutState b.supply b.script b.state es (first_commits b es k) u
  unfolding v
  cut_meant = (
    v,
    told_meant b.supply (entity_at b es) count st.ks q v c st.stores (each_told b es st.ks st.records.each) st.apart kept_greatest chosen,
    record { cut = q; greatest = up; state = refl },
  )
