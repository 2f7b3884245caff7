-- How a run goes on: each entry may follow, and what the rules look at stays calm.
use Rattle.std.proofs.Common.{◌≡◌, ℕ, ◌+◌, ◌<◌, ◌≤◌, Bool, true, false, not, ◌&&◌, ◌||◌, nat_lt, if◌then◌else◌, List, [], ◌∷◌, ◌++◌, Option, Some, None, is_some, option_map, refl, sym, ap, subst, ◌∙◌, arith, append_assoc}
use Rattle.std.specs.List.{list_any}
use Rattle.std.proofs.lemmas.Bool.Decides.{nat_tests}
use Rattle.base_types.specs.declared.histories.Answer.{Answer}
use Rattle.base_types.specs.declared.histories.Answer.TheVariants.{Quiet, Hop, Reply as Replied, Read, Print as Printed}
use Rattle.base_types.specs.declared.histories.Entry.{Entry}
use Rattle.base_types.specs.declared.histories.Event.{Event}
use Rattle.base_types.specs.declared.histories.Event.TheVariants.{Step, Stable}
use Rattle.base_types.specs.declared.histories.Touch.{Touch}
use Rattle.base_types.specs.declared.instructions.Instr.{Instr}
use Rattle.base_types.specs.declared.instructions.Instr.TheVariants.{Snap, Stabilise}
use Rattle.base_types.specs.declared.instructions.Reply.TheVariants.{Ok}
use Rattle.model_kernel.specs.State.{Supply, LocusState, Cell, LocusCell, EntityState, KernelState}
use Rattle.model_kernel.specs.Changes.{Access, Change, accessed, acts, carried, changed, written}
use Rattle.model_kernel.specs.Histories.{AllBelow64, IsLegalFrom, IsMade, May, may, Run, after_step, asks, births_owed, event_of, by_event, goes_on, is_due, locus_in, mark, never, noting, owed_by, run_after, stabilises, went_on, with_asked, writes}
use Rattle.model_kernel.specs.Parts.{after_entry, is_event, next_of}
use Rattle.model_kernel.specs.Refusals.{instr_at}
use Rattle.model_kernel.specs.Scripts.{Script}
use Rattle.model_kernel.specs.Serial.{can_step, made_and_owed, owed_stable, turn, turns}
use Rattle.model_kernel.specs.Steps.{numbered_change, running, step, step_change}
use Rattle.model_kernel.specs.Words.{put}
use Rattle.plain_states.specs.Events.{Has, state_with}
use Rattle.plain_facts.specs.Looking.{is_stabilise, owed_after}
use Rattle.plain_facts.specs.Snaps.{is_no_snap}
use Rattle.plain_facts.specs.Standing.{IsLow, IsQuiet}
use Rattle.std.proofs.lemmas.Bool.{false≢true}

-- LISTS OF ENTRIES

pub run_after-append : (s : Supply) (script : Script) (r : Run) (es fs : List Entry) → run_after s script r (es ++ fs) ≡ run_after s script (run_after s script r es) fs
run_after-append s script r [] fs = refl
run_after-append s script r (e ∷ es) fs = run_after-append s script (goes_on s script r e) es fs

-- an entry that may follow goes on a legal run
pub legal-push : (s : Supply) (script : Script) (r : Run) (es : List Entry) (e : Entry) → IsLegalFrom s never script r es → May s never script (run_after s script r es) e → IsLegalFrom s never script r (es ++ e ∷ [])
legal-push s script r [] e legal may = (may, tt)
legal-push s script r (f ∷ es) e legal may = (legal.0, legal-push s script (goes_on s script r f) es e legal.1 may)

-- and one that touches low numbers alone goes on such entries
pub below-push : (es : List Entry) (e : Entry) → AllBelow64 es → IsLow e → AllBelow64 (es ++ e ∷ [])
below-push [] e all low = (low, tt)
below-push (f ∷ es) e all low = (all.0, below-push es e all.1 low)

pub turns-append : (s : Supply) (script : Script) (r : Run) (xs ys : List ℕ) → turns s script r (xs ++ ys) ≡ turns s script r xs ++ turns s script (run_after s script r (turns s script r xs)) ys
turns-append s script r [] ys = refl
turns-append s script r (x ∷ xs) ys =
    let es = turn s script r x in
    let q = run_after s script r es in
    ap (λ fs. es ++ fs) (turns-append s script q xs ys)
    ∙ sym (append_assoc es (turns s script q xs) (turns s script (run_after s script q (turns s script q xs)) ys))
    ∙ ap (λ k. (es ++ turns s script q xs) ++ turns s script k ys) (sym (run_after-append s script r es (turns s script q xs)))

-- WHAT A STEP GIVES

pub acts_made : (ev : Event) (f : KernelState → Option (ℕ × Change)) (w : KernelState) (r : Entry × KernelState) → acts ev f w ≡ Some r → (c : ℕ × Change) × (f w ≡ Some c) × (carried w ev c.0 c.1 ≡ r)
acts_made ev f w r h = by_change (f w) refl h
  where
    by_change : (o : Option (ℕ × Change)) → f w ≡ o → option_map (λ c. carried w ev c.0 c.1) o ≡ Some r → (c : ℕ × Change) × (f w ≡ Some c) × (carried w ev c.0 c.1 ≡ r)
    by_change (Some c) is e = (c, is, some_is (carried w ev c.0 c.1) r e)
      where
        some_is : (a b : Entry × KernelState) → Some a ≡ Some b → a ≡ b
        some_is a b e = cc
    by_change None is e = absurd (apart e)
      where
        apart : None ≡ Some r → ⊥
        apart e = cc

step_actor : (s : Supply) (l : ℕ) (w : KernelState) (c : ℕ × Change) → step_change s l w ≡ Some c → c.0 ≡ l
unfolding step_change
step_actor s l w c h = by_running (running (w l).cell) h
  where
    by_running : (o : Option LocusState) → option_map (numbered_change s l w) o ≡ Some c → c.0 ≡ l
    by_running (Some st) e = ap (λ (c : ℕ × Change). c.0) (some_is c (numbered_change s l w st) (sym e))
      where
        some_is : (a b : ℕ × Change) → Some a ≡ Some b → a ≡ b
        some_is a b e = cc
    by_running None e = absurd (apart e)
      where
        apart : None ≡ Some c → ⊥
        apart e = cc

-- a step's entry is a Step of its locus
pub step_entry : (s : Supply) (l : ℕ) (w v : KernelState) (e : Entry) → step s l w ≡ Some (e, v) → (e.event ≡ Step) × (e.actor ≡ l)
step_entry s l w v e h =
    let m = acts_made Step (step_change s l) w (e, v) h in
    (ap (λ (r : Entry × KernelState). r.0.event) (sym m.2), ap (λ (r : Entry × KernelState). r.0.actor) (sym m.2) ∙ step_actor s l w m.0 m.1)

accessed_rise : (e : EntityState) (stamp : ℕ → ℕ) (o : Option Access) → (accessed e stamp o).version ≤ e.version + 1
accessed_rise e stamp None = omega arith
accessed_rise e stamp (Some a) = by_new a.new
  where
    by_new : (o : Option Cell) → (written e stamp o).version ≤ e.version + 1
    by_new None = omega arith
    by_new (Some k) = omega arith

pub changed_rise : (w : KernelState) (accesses : List Access) (x : ℕ) → (changed w accesses x).version ≤ (w x).version + 1
unfolding changed
changed_rise w accesses x = accessed_rise (w x) _ _

-- a version rises by one at most
pub step_rise : (s : Supply) (l : ℕ) (w v : KernelState) (e : Entry) (x : ℕ) → step s l w ≡ Some (e, v) → (v x).version ≤ (w x).version + 1
step_rise s l w v e x h =
    let m = acts_made Step (step_change s l) w (e, v) h in
    subst (λ (r : Entry × KernelState). (r.1 x).version ≤ (w x).version + 1) m.2 (changed_rise w _ x)

-- a state is made of its cells, versions and clocks
pub state_is : (w : KernelState) (cells : ℕ → Cell) (versions : List ℕ) → Has w cells versions → w ≡ state_with cells versions (λ x. (w x).stamp)
state_is w cells versions h = λ i x. record { cell = h.cells x i; version = h.numbers x i; stamp = (w x).stamp }

-- NO SNAP, NO WISH

pub asks_nothing : (answer : Answer) (i : Instr) (l : LocusState) → is_no_snap i ≡ true → asks answer i l ≡ None
asks_nothing Quiet i l calm = refl
asks_nothing Hop i l calm = refl
asks_nothing (Read v) i l calm = refl
asks_nothing (Printed v) i l calm = refl
asks_nothing (Replied Ok) (Snap c) l calm = absurd (false≢true calm)
asks_nothing (Replied Ok) i l calm = refl
asks_nothing (Replied r) i l calm = refl

-- THE STABLE THAT A STEP OWES

stabilises_is : (answer : Answer) (i : Instr) (l : ℕ) → (if stabilises answer i then Some l else None) ≡ owed_after l answer (is_stabilise i)
stabilises_is Quiet i l = refl
stabilises_is Hop i l = refl
stabilises_is (Read v) i l = refl
stabilises_is (Printed v) i l = refl
stabilises_is (Replied Ok) (Stabilise c) l = refl
stabilises_is (Replied Ok) i l = refl
stabilises_is (Replied r) i l = refl

-- what a step owes, by the locus before it
pub owed_is : (l : ℕ) (answer : Answer) (st : LocusState) → owed_by l answer (Some st) ≡ owed_after l answer (is_stabilise (instr_at st))
owed_is l answer st = stabilises_is answer (instr_at st) l

-- A STEP

-- what the rules look at after a step that asks for nothing
abbrev pub stepped : Run → Entry → ℕ → KernelState → Option ℕ → Run
stepped r e l v owed = noting (record r {
  state = v;
  began = false;
  owed = owed;
  steps = put r.steps l (r.steps l + 1);
  by_step = λ x. writes e x || r.by_step x;
  was_full = λ x. not (writes e x) && r.was_full x;
})

after_made : (s : Supply) (script : Script) (w v : KernelState) (e : Entry) (l : ℕ) → e.event ≡ Step → e.actor ≡ l → step s l w ≡ Some (e, v) → after_entry (event_of s script) w e ≡ v
after_made s script w v e l ev actor made =
    ap (λ (k : Event). if is_event k then next_of (event_of s script) w (by_event s script k e.actor w) else w) ev
    ∙ ap (λ k. next_of (event_of s script) w (step s k w)) actor
    ∙ ap (next_of (event_of s script) w) made

pub goes_on_step : (s : Supply) (script : Script) (r : Run) (e : Entry) (v : KernelState) (l : ℕ) (st : LocusState) → (r.state l).cell ≡ LocusCell st → asks e.answer (instr_at st) st ≡ None → step s l r.state ≡ Some (e, v)
    → goes_on s script r e ≡ stepped r e l v (owed_after l e.answer (is_stabilise (instr_at st)))
goes_on_step s script r e v l st cell blind made =
    let k = step_entry s l r.state v e made in
    let here : locus_in (r.state e.actor).cell ≡ Some st = ap (λ n. locus_in (r.state n).cell) k.1 ∙ ap locus_in cell in
    ap (went_on s script r e) k.0
    ∙ ap (λ o. noting (after_step r e o (after_entry (event_of s script) r.state e))) here
    ∙ ap (λ w. noting (after_step r e (Some st) w)) (after_made s script r.state v e l k.0 k.1 made)
    ∙ (λ i. noting (record r {
      state = v;
      began = false;
      owed = (ap (λ n. owed_by n e.answer (Some st)) k.1 ∙ owed_is l e.answer st) i;
      steps = put r.steps (k.1 i) (r.steps (k.1 i) + 1);
      by_step = λ x. writes e x || r.by_step x;
      asked = with_asked (blind i) r.asked;
      was_full = λ x. not (writes e x) && r.was_full x;
    }))

-- nothing is due where the policy never says yes and nothing asked
none_due : (r : Run) (ts : List Touch) → ((x : ℕ) → r.asked x ≡ false) → list_any (λ (t : Touch). is_due never r t.entity) ts ≡ false
none_due r [] calm = refl
none_due r (t ∷ ts) calm = both (is_due never r t.entity) (not_due (r.by_step t.entity) (r.asked t.entity) (calm t.entity)) (none_due r ts calm)
  where
    not_due : (b c : Bool) → c ≡ false → ((b && false || c) && not (r.was_full t.entity)) ≡ false
    not_due true c e = rw e refl
    not_due false c e = rw e refl

    both : (b : Bool) → b ≡ false → list_any (λ (t : Touch). is_due never r t.entity) ts ≡ false → (b || list_any (λ (t : Touch). is_due never r t.entity) ts) ≡ false
    both b e f = rw e f

pub may_step : (s : Supply) (script : Script) (r : Run) (e : Entry) (v : KernelState) (l : ℕ) → IsQuiet r None → births_owed script r ≡ false → r.steps l < script.steps → step s l r.state ≡ Some (e, v) → May s never script r e
may_step s script r e v l calm born few made =
    let k = step_entry s l r.state v e made in (
      calm.tried,
      subst (λ (ev : Event). may_by ev) (sym k.0) (
        born,
        calm.owes,
        subst (λ n. r.steps n < script.steps) (sym k.1) few,
        none_due r e.touched calm.asked,
        subst (λ n. IsMade (step s n r.state) e) (sym k.1) (ap (option_map (λ (r : Entry × KernelState). r.0)) made),
      ),
    )
  where
    may_by : Event → Type 0
    may_by ev = may s never script r e ev

-- a look at a locus that may step gives its step, and the Stable that is owed after it
pub turn_step : (s : Supply) (script : Script) (r : Run) (e : Entry) (v : KernelState) (l : ℕ) (st : LocusState) → (r.state l).cell ≡ LocusCell st → running (r.state l).cell ≡ Some st → asks e.answer (instr_at st) st ≡ None
    → r.steps l < script.steps → step s l r.state ≡ Some (e, v) → turn s script r l ≡ e ∷ owed_stable (owed_after l e.answer (is_stabilise (instr_at st)))
turn_step s script r e v l st cell runs blind few made =
    let can : can_step script r l ≡ true = can_true (running (r.state l).cell) (r.steps l) runs few in
    ap (λ (b : Bool). if b then made_and_owed s script r (step s l r.state) else []) can
    ∙ ap (made_and_owed s script r) made
    ∙ ap (λ (q : Run). e ∷ owed_stable q.owed) (goes_on_step s script r e v l st cell blind made)
  where
    can_true : (o : Option LocusState) (n : ℕ) → o ≡ Some st → n < script.steps → (is_some o && nat_lt n script.steps) ≡ true
    can_true o n is lt = rw is (let t : nat_lt n script.steps ≡ true = grind (arith, nat_tests) in t)

-- a look at a locus that may not step gives nothing
pub turn_idle : (s : Supply) (script : Script) (r : Run) (l : ℕ) → can_step script r l ≡ false → turn s script r l ≡ []
turn_idle s script r l idle = ap (λ (b : Bool). if b then made_and_owed s script r (step s l r.state) else []) idle

-- A STABLE

pub may_stable : (s : Supply) (script : Script) (r : Run) (actor : ℕ) → IsQuiet r (Some actor) → May s never script r (mark Stable actor 0)
may_stable s script r actor quiet = (quiet.tried, (quiet.owes, quiet.short, refl))

pub quiet_stable : (s : Supply) (script : Script) (r : Run) (actor : ℕ) → IsQuiet r (Some actor) → IsQuiet (goes_on s script r (mark Stable actor 0)) None
quiet_stable s script r actor quiet = record { owes = refl; short = quiet.short; tried = quiet.tried; asked = λ x. refl }
