-- A legal history has room in a bound of its steps: each entry pays from a budget.
use Rattle.std.proofs.Common.{◌≡◌, ℕ, suc, ◌+◌, ◌*◌, ◌-◌, ◌≤◌, ◌<◌, Bool, true, false, not, ◌&&◌, ◌||◌, ◌==◌, cond, nat_lt, if◌then◌else◌, List, [], ◌∷◌, length, Option, Some, None, is_some, IsTrue, MatchOption, refl, sym, ap, subst, ◌∙◌, arith, eqb-true, eq-eqb, ◌⊎◌, inl, inr}
use Rattle.std.specs.List.{All, list_any}
use Rattle.std.proofs.lemmas.Bool.{cases_lt, false≢true}
use Rattle.script_types.specs.base_types.Edges.{upto}
use Rattle.script_types.specs.base_types.declared.histories.Answer.{Answer}
use Rattle.script_types.specs.base_types.declared.histories.Answer.TheVariants.{Reply as Replied}
use Rattle.script_types.specs.base_types.declared.histories.Entry.{Entry}
use Rattle.script_types.specs.base_types.declared.histories.Touch.{Touch}
use Rattle.script_types.specs.base_types.declared.histories.Event.TheVariants.{Birth, Step, Snap as SnapEvent, Stable, Tried}
use Rattle.script_types.specs.base_types.declared.instructions.Instr.{Instr}
use Rattle.script_types.specs.base_types.declared.instructions.Instr.TheVariants.{Stabilise}
use Rattle.script_types.specs.base_types.declared.instructions.Reply.{Reply}
use Rattle.script_types.specs.base_types.declared.instructions.Reply.TheVariants.{Ok}
use Rattle.script_types.specs.model_kernel.State.{Supply, AtlasState, LocusState, Cell, LocusCell, KernelState}
use Rattle.script_types.specs.model_kernel.Words.{put}
use Rattle.script_types.specs.model_kernel.Refusals.{instr_at, refusal}
use Rattle.script_types.specs.model_kernel.Acts.{act_by, allowed, wanted}
use Rattle.script_types.specs.model_kernel.Changes.{Access, merged, insert_access, ordered, touches_of}
use Rattle.script_types.specs.model_kernel.LocalEvents.{touch_at}
use Rattle.script_types.specs.model_kernel.Parts.{is_event, next_of, after_entry}
use Rattle.script_types.specs.model_kernel.Scripts.{Script}
use Rattle.script_types.specs.model_kernel.Soundness.{IsSound}
use Rattle.script_types.specs.model_kernel.Births.{next_birth}
use Rattle.script_types.specs.model_kernel.Steps.{atlas_in, seen_atlas, seen_other, outcome_in, with_atlas_access, with_other_access, with_newborn_access, accesses_of, change_of}
use Rattle.script_types.specs.model_kernel.Histories.{Policy, Run, may, May, event_of, by_event, writes, has_wish, has_changed, next_changed, every_of, version_of, owed_by, stabilises, asked_by, with_asked, locus_in, goes_on, went_on, noting, after_snap, after_stable, IsLegalFrom, IsLegalRun, start_run, run_after}
use Rattle.script_types.proofs.model_kernel_lemmas.Faithful.{IsNewborn, wanted_is}
use Rattle.script_types.specs.Rules.{IsScript}
use Rattle.model_run_laws.proofs.Few.{found_true, never_less}
use Rattle.model_run_laws.proofs.Wishes.{with_asked_at}
use Rattle.model_run_laws.proofs.Writing.{IsStep, step_is, step_writes_asked}
use Rattle.model_sound_runs.proofs.Births.{NotLocus, names_in}
use Rattle.model_sound_runs.proofs.Counting.{cond_one, found_below, how_many, many_less, many_mono, many_none, many_or, many_top, many_written, one_if, total, total_const, total_less, total_mono, zero_if}
use Rattle.model_sound_runs.proofs.Standing.{IsStanding, made_birth, under_next, actor_range, standing_next}

-- TOUCHES OF A STEP

length_touches : (w : KernelState) (ms : List Access) → length (touches_of w ms) ≡ length ms
length_touches w [] = refl
length_touches w (m ∷ ms) = ap suc (length_touches w ms)

length_inserted : (m : Access) (ms : List Access) → length (insert_access m ms) ≤ suc (length ms)
length_inserted m [] = omega arith
length_inserted m (n ∷ ms) =
    elim (nat_lt m.entity n.entity) as (λ b. length (if b then m ∷ n ∷ ms else if m.entity == n.entity then merged m n ∷ ms else n ∷ insert_access m ms) ≤ suc (suc (length ms))) [
      | true ↦ omega arith
      | false ↦ elim (m.entity == n.entity) as (λ b. length (if b then merged m n ∷ ms else n ∷ insert_access m ms) ≤ suc (suc (length ms))) [
        | true ↦ omega arith
        | false ↦ (let rest = length_inserted m ms in omega (arith, rest))
      ]
    ]

length_ordered : (ms : List Access) → length (ordered ms) ≤ length ms
length_ordered [] = omega arith
length_ordered (m ∷ ms) = (let one = length_inserted m (ordered ms) in let rest = length_ordered ms in omega (arith, one, rest))

length_accesses : (me : ℕ) (b : Bool) (a : AtlasState) (other : Option ℕ) (new : Option Cell) (newborn : Option (ℕ × Cell)) (m : Access)
    → length (with_atlas_access b a (with_other_access other new (with_newborn_access newborn (m ∷ [])))) ≡ one_if b + one_if (is_some other) + one_if (is_some newborn) + 1
length_accesses me true a (Some y) new (Some b) m = refl
length_accesses me true a (Some y) new None m = refl
length_accesses me true a None new (Some b) m = refl
length_accesses me true a None new None m = refl
length_accesses me false a (Some y) new (Some b) m = refl
length_accesses me false a (Some y) new None m = refl
length_accesses me false a None new (Some b) m = refl
length_accesses me false a None new None m = refl

stabilises_only : (answer : Answer) (i : Instr) → stabilises answer i ≡ true → (c : ℕ) × (i ≡ Stabilise c)
stabilises_only (Replied Ok) (Stabilise c) e = (c, refl)
stabilises_only answer i e = absurd (false≢true e)

module _ (me : ℕ) (l : LocusState) where
  -- a stabilise touches the locus alone
  alone_by : (c : ℕ) (o : Option Reply) → ((act_by me l (Stabilise c) o).atlas ≡ false) × ((act_by me l (Stabilise c) o).other ≡ None)
  unfolding allowed
  alone_by c (Some why) = (refl, refl)
  alone_by c None = (refl, refl)

  stabilise_alone : (c : ℕ) → instr_at l ≡ Stabilise c → ((wanted me l).atlas ≡ false) × ((wanted me l).other ≡ None)
  unfolding wanted
  stabilise_alone c is = subst (λ i. ((act_by me l i (refusal l i)).atlas ≡ false) × ((act_by me l i (refusal l i)).other ≡ None)) (sym is) (alone_by c (refusal l (Stabilise c)))

few_by : (atlas other newborn owed : Bool) → (newborn ≡ true → (atlas ≡ true) × (other ≡ false)) → (owed ≡ true → (atlas ≡ false) × (other ≡ false)) → one_if atlas + one_if other + one_if newborn + 1 + one_if owed ≤ 3
few_by true true true owed h k = absurd (false≢true (sym (h refl).1))
few_by true true false true h k = absurd (false≢true (sym (k refl).0))
few_by true true false false h k = omega arith
few_by true false true true h k = absurd (false≢true (sym (k refl).0))
few_by true false true false h k = omega arith
few_by true false false true h k = absurd (false≢true (sym (k refl).0))
few_by true false false false h k = omega arith
few_by false other true owed h k = absurd (false≢true (h refl).0)
few_by false true false true h k = absurd (false≢true (sym (k refl).1))
few_by false true false false h k = omega arith
few_by false false false true h k = omega arith
few_by false false false false h k = omega arith

module _ (s : Supply) (me : ℕ) (w : KernelState) (l : LocusState) where
  bears_alone : is_some (outcome_in s l (wanted me l) w).newborn ≡ true → ((wanted me l).atlas ≡ true) × (is_some (wanted me l).other ≡ false)
  bears_alone some = by_newborn (outcome_in s l (wanted me l) w).newborn some (wanted_is s me l (seen_atlas w (wanted me l).atlas) (seen_other w (wanted me l).other)).bears
    where
      by_newborn : (n : Option (ℕ × Cell)) → is_some n ≡ true
          → MatchOption n ((wanted me l).atlas ≡ true → length (outcome_in s l (wanted me l) w).atlas.loci ≡ length (seen_atlas w (wanted me l).atlas).loci) (λ b. IsNewborn (wanted me l).atlas (wanted me l).other (seen_atlas w (wanted me l).atlas) (outcome_in s l (wanted me l) w).atlas b)
          → ((wanted me l).atlas ≡ true) × (is_some (wanted me l).other ≡ false)
      by_newborn None some f = absurd (false≢true some)
      by_newborn (Some b) some f = (f.0, ap is_some f.1)

  owes_alone : (answer : Answer) → is_some (owed_by me answer (Some l)) ≡ true → ((wanted me l).atlas ≡ false) × (is_some (wanted me l).other ≡ false)
  owes_alone answer owed = elim (stabilises answer (instr_at l)) as (λ b. stabilises answer (instr_at l) ≡ b → is_some (if b then Some me else None) ≡ true → ((wanted me l).atlas ≡ false) × (is_some (wanted me l).other ≡ false)) [
    | true ↦ λ is _. (let k = stabilises_only answer (instr_at l) is in let h = stabilise_alone me l k.0 k.1 in (h.0, ap is_some h.1))
    | false ↦ λ _ e. absurd (false≢true e)
  ] refl owed

-- a step touches three entities at most, and one where it owes a Stable
touched_few : (s : Supply) (me : ℕ) (w : KernelState) (e : Entry) → IsStep s me w e → length e.touched + one_if (is_some (owed_by me e.answer (locus_in (w me).cell))) ≤ 3
unfolding change_of
touched_few s me w e k =
    let l = k.locus in
    let act = wanted me l in
    let o = outcome_in s l act w in
    let ms = accesses_of me act o in
    let here : length e.touched ≡ length (touches_of w (ordered ms)) = ap (λ (e : Entry). length e.touched) k.entry in
    let same = length_touches w (ordered ms) in
    let less = length_ordered ms in
    let whole = length_accesses me act.atlas o.atlas act.other o.other o.newborn (record { entity = me; new = Some (LocusCell o.locus) }) in
    let owes : one_if (is_some (owed_by me e.answer (locus_in (w me).cell))) ≡ one_if (is_some (owed_by me e.answer (Some l))) = ap (λ c. one_if (is_some (owed_by me e.answer (locus_in c)))) k.there in
    let few = few_by act.atlas (is_some act.other) (is_some o.newborn) (is_some (owed_by me e.answer (Some l))) (bears_alone s me w l) (owes_alone s me w l e.answer) in
    omega (arith, here, same, less, whole, owes, few)

-- THE BUDGET

abbrev pub left : ℕ → Run → ℕ
left n r = total (λ i. n - r.steps (41 + i)) 23

abbrev pub wishes : Run → ℕ
wishes r = how_many (λ x. r.by_step x || r.asked x) 64

abbrev pub unborn : Run → ℕ
unborn r = cond r.began (2 * (63 - names_in (atlas_in (r.state 0).cell))) 0

abbrev pub ending : Run → ℕ
ending r = cond r.short (how_many (has_changed r) 64) 64

abbrev pub budget : ℕ → Run → ℕ
budget n r = 4 * left n r + wishes r + one_if (is_some r.owed) + unborn r + ending r + zero_if (is_some r.tried)

pub record IsBudgeted (r : Run) : Type 0 where
  pub calm : (r.short ≡ false) ⊎ ((is_some r.owed ≡ true) × (r.began ≡ false))
  pub high : (x : ℕ) → 64 ≤ x → (r.by_step x ≡ false) × (r.asked x ≡ false)

calm_of : (r : Run) → IsBudgeted r → r.owed ≡ None → r.short ≡ false
calm_of r f none = elim f.calm as (λ _. r.short ≡ false) [ inl e ↦ e | inr k ↦ absurd (false≢true (sym (ap is_some none) ∙ k.0)) ]

calm_births : (r : Run) → IsBudgeted r → r.began ≡ true → r.short ≡ false
calm_births r f began = elim f.calm as (λ _. r.short ≡ false) [ inl e ↦ e | inr k ↦ absurd (false≢true (sym k.1 ∙ began)) ]

ending_calm : (r : Run) → r.short ≡ false → ending r ≡ 64
ending_calm r calm = ap (λ b. cond b (how_many (has_changed r) 64) 64) calm

ending_most : (r : Run) → how_many (has_changed r) 64 ≤ ending r
ending_most r = (let top = many_top (has_changed r) 64 in elim r.short as (λ b. how_many (has_changed r) 64 ≤ cond b (how_many (has_changed r) 64) 64) [ true ↦ omega arith | false ↦ top ])

names_few : (w : KernelState) → IsSound (λ x. (w x).cell) → names_in (atlas_in (w 0).cell) ≤ 63
names_few w sound = subst (λ c. names_in (atlas_in c) ≤ 63) (sym sound.1.atlas) (let p = sound.1.names.few_containers in let q = sound.1.names.few_loci in omega (arith, p, q))

-- what isn't touched isn't written
pub not_written : (ts : List Touch) (x : ℕ) → touch_at ts x ≡ None → list_any (λ t. t.entity == x && t.wrote) ts ≡ false
not_written [] x none = refl
not_written (t ∷ ts) x none = elim (t.entity == x) as (λ b. (if b then Some t else touch_at ts x) ≡ None → (b && t.wrote || list_any (λ t. t.entity == x && t.wrote) ts) ≡ false) [
  | true ↦ λ e. cc
  | false ↦ λ e. not_written ts x e
] none

weaker_wish : (p q t : Bool) → (not p && q || t) ≡ true → (q || t) ≡ true
weaker_wish p true t h = refl
weaker_wish true false t h = h
weaker_wish false false t h = h

split_wish : (w b a a' : Bool) → (a' ≡ true → (a ≡ true) ⊎ (w ≡ true)) → (w || b || a') ≡ true → (b || a || w) ≡ true
split_wish true true a a' h e = refl
split_wish true false true a' h e = refl
split_wish true false false a' h e = refl
split_wish false true a a' h e = refl
split_wish false false true a' h e = refl
split_wish false false false true h e = elim (h refl) as (λ _. false ≡ true) [ inl k ↦ k | inr k ↦ k ]
split_wish false false false false h e = e

pub open_wish : (b p a : Bool) → (b && p || a) ≡ true → (b || a) ≡ true
open_wish true p a e = refl
open_wish false p a e = e

pub some_wish : (b a : Bool) → (b || a) ≡ true → b ≡ false → a ≡ false → ⊥
some_wish true a e p q = false≢true (sym p)
some_wish false true e p q = false≢true (sym q)
some_wish false false e p q = false≢true e

module _ (s : Supply) (policy : Policy) (script : Script) (rules : IsScript script) where
  abbrev pub Pays : Run → Run → Type 0
  Pays r r' = (budget script.steps r' + 1 ≤ budget script.steps r) × IsBudgeted r'

  made_state : (w : KernelState) (e : Entry) (q : Entry × KernelState) → e.event ≡ Birth → next_birth s script w ≡ Some q → after_entry (event_of s script) w e ≡ q.1
  made_state w e q is made = ap (λ ev. if is_event ev then next_of (event_of s script) w (by_event s script ev e.actor w) else w) is ∙ ap (next_of (event_of s script) w) made

  birth_pays : (r : Run) (e : Entry) → e.event ≡ Birth → may s policy script r e Birth → IsStanding script r → IsBudgeted r → Pays r (went_on s script r e Birth)
  birth_pays r e is m k f =
      let r' = went_on s script r e Birth in
      let calm = calm_births r f m.0 in
      let q = made_birth s policy script rules r e m.0 m.1 k in
      let old = names_in (atlas_in (r.state 0).cell) in
      let now : names_in (atlas_in (r'.state 0).cell) ≡ old + 1 = ap (λ (w : KernelState). names_in (atlas_in (w 0).cell)) (made_state r.state e q.0 is q.1) ∙ q.3.more in
      let few : names_in (atlas_in (r'.state 0).cell) ≤ 63 = subst (λ (w : KernelState). names_in (atlas_in (w 0).cell) ≤ 63) (sym (made_state r.state e q.0 is q.1)) (names_few q.0.1 q.3.sound) in
      let before : unborn r ≡ 2 * (63 - old) = ap (λ b. cond b (2 * (63 - old)) 0) m.0 in
      let then' : unborn r' ≡ 2 * (63 - names_in (atlas_in (r'.state 0).cell)) = ap (λ b. cond b (2 * (63 - names_in (atlas_in (r'.state 0).cell))) 0) m.0 in
      let e1 = ending_calm r calm in
      let e2 = ending_calm r' calm in
      let owes = cond_one (is_some r'.owed) in
      let fewer : wishes r' ≤ wishes r = many_mono (λ x. r'.by_step x || r'.asked x) (λ x. r.by_step x || r.asked x) (λ x. weaker_wish (writes e x) (r.by_step x) (r.asked x)) 64 in (
        omega (arith, now, few, before, then', e1, e2, owes, fewer),
        record { calm = inl calm; high = λ x h. (let g = f.high x h in (ap (λ b. not (writes e x) && b) g.0 ∙ and_false (not (writes e x)), g.1)) },
      )
    where
      and_false : (b : Bool) → (b && false) ≡ false
      and_false true = refl
      and_false false = refl

  step_pays : (r : Run) (e : Entry) → e.event ≡ Step → may s policy script r e Step → ((x : ℕ) → 64 ≤ x → touch_at e.touched x ≡ None) → IsStanding script r → IsBudgeted r → Pays r (went_on s script r e Step)
  step_pays r e is m low k f =
      let r' = went_on s script r e Step in
      let n = script.steps in
      let me = e.actor in
      let step = step_is s me r.state e m.4 in
      let calm = calm_of r f m.1 in
      let range = actor_range s me r.state e k.sound step in
      let at : 41 + (me - 41) ≡ me = (let a = range.0 in omega (arith, a)) in
      let room : r.steps me < n = m.2 in
      let falls : (i : ℕ) → n - r'.steps (41 + i) ≤ n - r.steps (41 + i) = λ i.
      elim (41 + i == me) as (λ b. (41 + i == me) ≡ b → n - (if b then r.steps me + 1 else r.steps (41 + i)) ≤ n - r.steps (41 + i)) [
        | true ↦ λ is. (let same : r.steps (41 + i) ≡ r.steps me = ap r.steps (eqb-true _ _ is) in omega (arith, same))
        | false ↦ λ _. omega arith
      ] refl in
      let here : n - r'.steps (41 + (me - 41)) + 1 ≤ n - r.steps (41 + (me - 41)) =
      (let t : (41 + (me - 41) == me) ≡ true = eq-eqb _ _ at in
      let new : r'.steps (41 + (me - 41)) ≡ r.steps me + 1 = ap (λ b. if b then r.steps me + 1 else r.steps (41 + (me - 41))) t in
      let old : r.steps (41 + (me - 41)) ≡ r.steps me = ap r.steps at in
      omega (arith, new, old, room)) in
      let less : left n r' + 1 ≤ left n r = total_less (λ i. n - r'.steps (41 + i)) (λ i. n - r.steps (41 + i)) falls (me - 41) 23 (let a = range.1 in let b = range.0 in omega (arith, a, b)) here in
      let asked : (x : ℕ) → r'.asked x ≡ true → (r.asked x ≡ true) ⊎ (writes e x ≡ true) = λ x h. by_asked x step h in
      let more : wishes r' ≤ how_many (λ x. r.by_step x || r.asked x || writes e x) 64 =
      many_mono (λ x. r'.by_step x || r'.asked x) (λ x. r.by_step x || r.asked x || writes e x) (λ x. split_wish (writes e x) (r.by_step x) (r.asked x) (r'.asked x) (asked x)) 64 in
      let both = many_or (λ x. r.by_step x || r.asked x) (writes e) 64 in
      let written : how_many (writes e) 64 ≤ length e.touched = many_written e.touched 64 in
      let few : length e.touched + one_if (is_some r'.owed) ≤ 3 = touched_few s me r.state e step in
      let e1 = ending_calm r calm in
      let e2 = ending_calm r' calm in (
        omega (arith, less, more, both, written, few, e1, e2),
        record {
          calm = inl calm;
          high = λ x h.
              let g = f.high x h in
              let none = not_written e.touched x (low x h) in
              (ap (λ b. b || r.by_step x) none ∙ g.0, with_asked_at (asked_by e.answer (locus_in (r.state me).cell)) r.asked x (λ a. false≢true (sym none ∙ step_writes_asked s me r.state e x step a)) ∙ g.1);
        },
      )
    where
      by_asked : (x : ℕ) → IsStep s e.actor r.state e → with_asked (asked_by e.answer (locus_in (r.state e.actor).cell)) r.asked x ≡ true → (r.asked x ≡ true) ⊎ (writes e x ≡ true)
      by_asked x step h = by_option (asked_by e.answer (locus_in (r.state e.actor).cell)) refl h
        where
          by_option : (o : Option ℕ) → asked_by e.answer (locus_in (r.state e.actor).cell) ≡ o → with_asked o r.asked x ≡ true → (r.asked x ≡ true) ⊎ (writes e x ≡ true)
          by_option None is h = inl h
          by_option (Some y) is h = elim (x == y) as (λ b. (x == y) ≡ b → (if b then true else r.asked x) ≡ true → (r.asked x ≡ true) ⊎ (writes e x ≡ true)) [
            | true ↦ λ at _. inr (step_writes_asked s e.actor r.state e x step (is ∙ ap Some (sym (eqb-true _ _ at))))
            | false ↦ λ _ h. inl h
          ] refl h

  snap_wishes : (r : Run) (y x : ℕ) → (put r.by_step y false x || put r.asked y false x) ≡ true → (r.by_step x || r.asked x) ≡ true
  snap_wishes r y x h = elim (x == y) as (λ b. ((if b then false else r.by_step x) || (if b then false else r.asked x)) ≡ true → (r.by_step x || r.asked x) ≡ true) [ true ↦ λ e. absurd (false≢true e) | false ↦ λ e. e ] h

  snap_high : (r : Run) (y : ℕ) → IsBudgeted r → (x : ℕ) → 64 ≤ x → (put r.by_step y false x ≡ false) × (put r.asked y false x ≡ false)
  snap_high r y f x h = elim (x == y) as (λ b. ((if b then false else r.by_step x) ≡ false) × ((if b then false else r.asked x) ≡ false)) [ true ↦ (refl, refl) | false ↦ f.high x h ]

  wish_pays : (r : Run) (y : ℕ) → IsTrue (has_wish policy r y) → r.owed ≡ None → IsBudgeted r → Pays r (noting (after_snap r y))
  wish_pays r y wish none f =
      let r' = noting (after_snap r y) in
      let calm = calm_of r f none in
      let wished : (r.by_step y || r.asked y) ≡ true = open_wish (r.by_step y) (policy (every_of (r.state y).cell) (version_of r y - r.newest y)) (r.asked y) wish in
      let small : y < 64 = elim (cases_lt y 64) as (λ _. y < 64) [ inl h ↦ h | inr h ↦ absurd (some_wish (r.by_step y) (r.asked y) wished (f.high y h).0 (f.high y h).1) ] in
      let t : (y == y) ≡ true = eq-eqb y y refl in
      let gone : (put r.by_step y false y || put r.asked y false y) ≡ false = ap (λ b. (if b then false else r.by_step y) || (if b then false else r.asked y)) t in
      let fewer : wishes r' + 1 ≤ wishes r = many_less (λ x. r'.by_step x || r'.asked x) (λ x. r.by_step x || r.asked x) (snap_wishes r y) y 64 small gone wished in
      let e1 = ending_calm r calm in
      let e2 = ending_calm r' (ap is_some none) in
      (omega (arith, fewer, e1, e2), record { calm = inl (ap is_some none); high = snap_high r y f })

  short_pays : (r : Run) (y : ℕ) → IsTrue (is_some r.owed) → next_changed r ≡ Some y → IsBudgeted r → Pays r (noting (after_snap r y))
  short_pays r y owed next f =
      let r' = noting (after_snap r y) in
      let was : has_changed r y ≡ true = found_true (has_changed r) (upto 64) y next in
      let small : y < 64 = found_below (has_changed r) 64 y next in
      let fewer : wishes r' ≤ wishes r = many_mono (λ x. r'.by_step x || r'.asked x) (λ x. r.by_step x || r.asked x) (snap_wishes r y) 64 in
      let t : (y == y) ≡ true = eq-eqb y y refl in
      let gone : has_changed r' y ≡ false = ap (λ b. nat_lt (if b then version_of r y else r.newest y) (version_of r y)) t ∙ never_less (version_of r y) in
      let still : (x : ℕ) → has_changed r' x ≡ true → has_changed r x ≡ true = λ x.
      elim (x == y) as (λ b. (x == y) ≡ b → nat_lt (if b then version_of r y else r.newest x) (version_of r x) ≡ true → has_changed r x ≡ true) [
        | true ↦ λ is _. ap (has_changed r) (eqb-true _ _ is) ∙ was
        | false ↦ λ _ h. h
      ] refl in
      let less : how_many (has_changed r') 64 + 1 ≤ how_many (has_changed r) 64 = many_less (has_changed r') (has_changed r) still y 64 small gone was in
      let most = ending_most r in
      let here : ending r' ≡ how_many (has_changed r') 64 = ap (λ b. cond b (how_many (has_changed r') 64) 64) owed in
      (omega (arith, fewer, less, most, here), record { calm = inr (owed, refl); high = snap_high r y f })

  stable_pays : (r : Run) (actor : ℕ) → r.owed ≡ Some actor → r.short ≡ false → IsBudgeted r → Pays r (noting (after_stable r))
  stable_pays r actor owed calm f =
      let r' = noting (after_stable r) in
      let one : one_if (is_some r.owed) ≡ 1 = ap (λ o. one_if (is_some o)) owed in
      let none : wishes r' ≡ 0 = many_none (λ x. r'.by_step x || r'.asked x) (λ x. refl) 64 in
      let e1 = ending_calm r calm in
      let e2 = ending_calm r' calm in
      (omega (arith, one, none, e1, e2), record { calm = inl calm; high = λ x h. (refl, refl) })

  pub entry_pays : (r : Run) (e : Entry) → May s policy script r e → IsStanding script r → IsBudgeted r → Pays r (goes_on s script r e)
  entry_pays r e m k f =
      elim e.event as (λ ev. e.event ≡ ev → may s policy script r e ev → Pays r (went_on s script r e ev)) [
        | Birth ↦ λ is m. birth_pays r e is m k f
        | Step ↦ λ is n. step_pays r e is n (under_next s policy script rules r e m k) k f
        | SnapEvent ↦ λ is m. elim m.1 as (λ _. Pays r (noting (after_snap r e.actor))) [ inl c ↦ wish_pays r e.actor c.0 c.2 f | inr c ↦ short_pays r e.actor c.0 c.1 f ]
        | Stable ↦ λ is m. stable_pays r e.actor m.0 m.1 f
        | Tried ↦ λ is n. (
            let one : zero_if (is_some r.tried) ≡ 1 = ap (λ o. zero_if (is_some o)) m.0 in
            (omega (arith, one), record { calm = f.calm; high = f.high }))
      ] refl m.1

  pays_over : (es : List Entry) (r : Run) → IsLegalFrom s policy script r es → IsStanding script r → IsBudgeted r → length es + budget script.steps (run_after s script r es) ≤ budget script.steps r
  pays_over [] r legal k f = omega arith
  pays_over (e ∷ es) r legal k f =
      let paid = entry_pays r e legal.0 k f in
      let rest = pays_over es (goes_on s script r e) legal.1 (standing_next s policy script rules r e legal.0 k) paid.1 in
      let one = paid.0 in
      omega (arith, rest, one)

  pub length_bound : (w : KernelState) (es : List Entry) → All (NotLocus (atlas_in (w 0).cell)) script.containers → IsSound (λ x. (w x).cell) → IsLegalRun s policy w script es → length es ≤ 4 * 23 * script.steps + 200
  length_bound w es kinds sound legal =
      let n = script.steps in
      let r = start_run w in
      let whole = pays_over es r legal (record { sound = sound; kinds = λ _. kinds }) (record { calm = inl refl; high = λ x h. (refl, refl) }) in
      let none : wishes r ≡ 0 = many_none (λ x. r.by_step x || r.asked x) (λ x. refl) 64 in
      let most : left n r ≤ total (λ _. n) 23 = total_mono (λ i. n - r.steps (41 + i)) (λ _. n) (λ i. omega arith) 23 in
      let all : total (λ _. n) 23 ≡ 23 * n = total_const n 23 in
      omega (arith, whole, none, most, all)
