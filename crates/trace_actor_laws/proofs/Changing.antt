-- What an event changes is born then.
use Rattle.std.proofs.Common.{◌≡◌, ℕ, ◌+◌, ◌<◌, Bool, true, false, ◌&&◌, ◌||◌, if◌then◌else◌, ◌==◌, nat_lt, nat_le, IsTrue, List, [], ◌∷◌, length, Option, Some, None, is_none, is_some, MatchOption, option_and_then, refl, sym, ap, subst, ◌∙◌, arith, eq-eqb, eqb-true, ◌⊎◌, inl, inr}
use Rattle.std.specs.List.{All}
use Rattle.std.proofs.lemmas.List.Elements.{All-cons, All-nil}
use Rattle.std.proofs.lemmas.Bool.Decides.{nat_tests}
use Rattle.std.proofs.lemmas.List.{append-nil, length-append}
use Rattle.base_types.specs.declared.histories.Entry.{Entry}
use Rattle.base_types.specs.declared.histories.Event.TheVariants.{Birth, Step}
use Rattle.base_types.specs.declared.histories.Touch.{Touch}
use Rattle.plain_states.specs.model_kernel.Acts.{wanted}
use Rattle.plain_states.specs.model_kernel.Births.{birth_from, birth_named, container_birth, locus_birth, next_birth, next_birth_change}
use Rattle.plain_states.specs.model_kernel.Changes.{Access, Change, carried, changed, insert_access, merged, ordered, touch_of, touches_of}
use Rattle.plain_states.specs.model_kernel.LocalEvents.{touch_at}
use Rattle.plain_states.specs.model_kernel.Outcomes.{free_container}
use Rattle.plain_states.specs.model_kernel.Scripts.{ContainerTable, LocusTable, Script, container_named, container_table, locus_table, next_name, number_of}
use Rattle.plain_states.specs.model_kernel.Soundness.{AreSound, IsSound, is_born, is_born_container, is_born_locus}
use Rattle.plain_states.specs.model_kernel.State.{AtlasState, AtlasCell, Cell, EntityState, KernelState, Supply, Text}
use Rattle.plain_states.specs.model_kernel.Steps.{accesses_of, atlas_in, change_of, numbered_change, outcome_in, running, seen_atlas, seen_other, step, step_change, with_atlas_access, with_newborn_access, with_other_access}
use Rattle.plain_states.proofs.model_kernel_lemmas.Basics.{some_of_map}
use Rattle.plain_states.proofs.model_kernel_lemmas.Faithful.{IsNewborn, free_locus_is, wanted_is}
use Rattle.plain_states.proofs.model_kernel_lemmas.Locality.{next_birth_local, step_local}
use Rattle.model_sound_states.specs.model_sound_runs.Names.{IsFront, KeepsNames}
use Rattle.model_births.proofs.Growing.{ByContainer, ByLocus, Grew, born_atlas, container_change, locus_change}
use Rattle.model_births.proofs.KnownNames.{NextName, OfContainer, OfLocus, next_name_is}
use Rattle.plain_states.specs.script_types.Rules.{IsScript}
use Rattle.model_sound_states.proofs.model_sound_runs_lemmas.Ranges.{NamesBorn, wanted_born}
use Rattle.model_sound_states.proofs.model_sound_runs_lemmas.Tables.{container_named_born}
use Rattle.model_sound_states.proofs.Cells.{AreGood, IsGoodCell, changed_good}
use Rattle.model_sound_states.proofs.Steps.{step_good}
use Rattle.model_sound_states.proofs.model_sound_steps_lemmas.Cells.{locus_in}
use Rattle.model_sound_states.proofs.model_sound_steps_lemmas.Growth.{Wider, born_container, born_locus, wider_born}
use Rattle.model_sound_states.proofs.model_sound_steps_lemmas.Steps.{step_sound}
use Rattle.model_sound_states.proofs.model_sound_runs_lemmas.Naming.{step_keeps}
use Rattle.plain_states.proofs.model_kernel_lemmas.StepTallies.{running_is}
use Rattle.std.proofs.lemmas.Option.{same_Some}
use Rattle.model_sound_states.proofs.States.{not_unborn}

-- ACCESSES

one_is : {A : Type 0} (x y : A) → Some x ≡ Some y → x ≡ y
one_is x y e = cc

-- each of the accesses
abbrev pub AllOf : (Access → Type 0) → List Access → Type 0
AllOf P [] = Unit {0}
AllOf P (m ∷ ms) = P m × AllOf P ms

-- a touch is that of an access of the entity
record IsTouchBy (P : Access → Type 0) (x : ℕ) (t : Touch) : Type 0 where
  access : Access
  holds : P access
  at : access.entity ≡ x
  wrote : t.wrote ≡ is_some access.new

module _ (P : Access → Type 0) where
  insert_of : (m : Access) (ms : List Access) → P m → AllOf P ms → AllOf P (insert_access m ms)
  insert_of m [] h all = (h, tt)
  insert_of m (n ∷ ms) h all =
      elim (nat_lt m.entity n.entity) as (λ b. AllOf P (if b then m ∷ n ∷ ms else if m.entity == n.entity then merged m n ∷ ms else n ∷ insert_access m ms)) [
        | true ↦ (h, (all.0, all.1))
        | false ↦ elim (m.entity == n.entity) as (λ b. AllOf P (if b then merged m n ∷ ms else n ∷ insert_access m ms)) [
          | true ↦ (elim (is_some n.new) as (λ b. P (if◌then◌else◌ {A = Access} b n m)) [ true ↦ all.0 | false ↦ h ], all.1)
          | false ↦ (all.0, insert_of m ms h all.1)
        ]
      ]

  ordered_of : (ms : List Access) → AllOf P ms → AllOf P (ordered ms)
  ordered_of [] all = tt
  ordered_of (m ∷ ms) all = insert_of m (ordered ms) all.0 (ordered_of ms all.1)

  touched_by : (w : KernelState) (ms : List Access) (x : ℕ) (t : Touch) → AllOf P ms → touch_at (touches_of w ms) x ≡ Some t → IsTouchBy P x t
  touched_by w [] x t all e = cc
  touched_by w (m ∷ ms) x t all e =
      elim (m.entity == x) as (λ b. (m.entity == x) ≡ b → (if b then Some (touch_of w m) else touch_at (touches_of w ms) x) ≡ Some t → IsTouchBy P x t) [
        | true ↦ λ is e. record { access = m; holds = all.0; at = eqb-true m.entity x is; wrote = ap (λ (u : Touch). u.wrote) (sym (one_is (touch_of w m) t e)) }
        | false ↦ λ is e. touched_by w ms x t all.1 e
      ] refl e

  atlas_of_all : (b : Bool) (a : AtlasState) (rest : List Access) → P (record { entity = 0; new = Some (AtlasCell a) }) → AllOf P rest → AllOf P (with_atlas_access b a rest)
  atlas_of_all true a rest h all = (h, all)
  atlas_of_all false a rest h all = all

  other_of_all : (other : Option ℕ) (new : Option Cell) (rest : List Access) → ((x : ℕ) → other ≡ Some x → P (record { entity = x; new = new })) → AllOf P rest → AllOf P (with_other_access other new rest)
  other_of_all None new rest h all = all
  other_of_all (Some x) new rest h all = (h x refl, all)

  newborn_of_all : (newborn : Option (ℕ × Cell)) (rest : List Access) → ((n : ℕ × Cell) → newborn ≡ Some n → P (record { entity = n.0; new = Some n.1 })) → AllOf P rest → AllOf P (with_newborn_access newborn rest)
  newborn_of_all None rest h all = all
  newborn_of_all (Some n) rest h all = (h n refl, all)

-- an access of an entity that is born
abbrev pub IsOfBorn : AtlasState → Access → Type 0
IsOfBorn b m = IsTrue (is_born b m.entity)

-- an access that writes
abbrev Writes : Access → Type 0
Writes m = is_some m.new ≡ true

-- what is touched is born, each by its number
abbrev pub TouchesBorn : AtlasState → List Touch → Type 0
TouchesBorn b ts = (x : ℕ) (t : Touch) → touch_at ts x ≡ Some t → IsTrue (is_born b x)

of_born : (b : AtlasState) (w : KernelState) (ms : List Access) → AllOf (IsOfBorn b) ms → TouchesBorn b (touches_of w (ordered ms))
of_born b w ms all x t e = (let k = touched_by (IsOfBorn b) w (ordered ms) x t (ordered_of (IsOfBorn b) ms all) e in subst (λ n. IsTrue (is_born b n)) k.at k.holds)

-- and so each in the list
pub each_born : (b : AtlasState) (ts : List Touch) → TouchesBorn b ts → All (λ (t : Touch). IsTrue (is_born b t.entity)) ts
each_born b [] h = All-nil (λ (t : Touch). IsTrue (is_born b t.entity))
each_born b (t ∷ ts) h =
    All-cons (λ (t : Touch). IsTrue (is_born b t.entity)) t ts (h t.entity t (let e = eq-eqb t.entity t.entity refl in rw e refl))
    (each_born b ts (λ x u e. by_test x u e (t.entity == x) refl))
  where
    by_test : (x : ℕ) (u : Touch) → touch_at ts x ≡ Some u → (q : Bool) → (t.entity == x) ≡ q → IsTrue (is_born b x)
    by_test x u e true is = h x t (rw is refl)
    by_test x u e false is = h x u (rw is e)

-- BORN AND NOT

wider : (a b : AtlasState) → KeepsNames a b → Wider a b
wider a b k = record {
  containers = (let e = ap length k.containers.1 in let n = length-append a.containers k.containers.0 in omega (arith, e, n));
  loci = (let e = ap length k.loci.1 in let n = length-append a.loci k.loci.0 in omega (arith, e, n));
}

-- what is born stays born as names follow
pub stays_born : (a b : AtlasState) (x : ℕ) → KeepsNames a b → IsTrue (is_born a x) → IsTrue (is_born b x)
stays_born a b x keeps born = wider_born a b x (wider a b keeps) born

good_born : (s : Supply) (b : AtlasState) (cells : ℕ → Cell) (x : ℕ) → AreSound b cells → IsGoodCell s (cells x) → IsTrue (is_born b x)
good_born s b cells x sound good =
    elim (is_born b x) as (λ t. is_born b x ≡ t → IsTrue t) [
      | true ↦ λ is. refl
      | false ↦ λ is. absurd (not_unborn s (cells x) good (sound.others x is))
    ] refl

some_none : {X A : Type 0} {x : X} → Some x ≡ None → A
some_none {X} {A} {x} e = absurd (apart x e)
  where
    apart : (x : X) → Some x ≡ None → ⊥
    apart x e = cc

-- what a step touches is born behind it
pub step_touched : (s : Supply) (me : ℕ) (w : KernelState) (r : Entry × KernelState) → IsSound (λ x. (w x).cell) → step s me w ≡ Some r → TouchesBorn (atlas_in (r.1 0).cell) r.0.touched
unfolding step_change change_of
step_touched s me w r sound is x t touch =
    let change = some_of_map (λ (c : ℕ × Change). carried w Step c.0 c.1) (step_change s me w) r is in
    let locus = some_of_map (numbered_change s me w) (running (w me).cell) change.0 change.1 in
    let l = locus.0 in
    let at = locus_in sound.0 (λ x. (w x).cell) me l sound.1 (running_is (w me).cell l locus.1) in
    let act = wanted me l in
    let o = outcome_in s l act w in
    let ms = accesses_of me act o in
    let whole : carried w Step me (change_of s w me l) ≡ r = ap (λ (c : ℕ × Change). carried w Step c.0 c.1) locus.2 ∙ change.2 in
    let state : changed w (ordered ms) ≡ r.1 = ap (λ (q : Entry × KernelState). q.1) whole in
    let here : touch_at (touches_of w (ordered ms)) x ≡ Some t = ap (λ (q : Entry × KernelState). touch_at q.0.touched x) whole ∙ touch in
    let b = atlas_in (r.1 0).cell in
    let after = step_sound s me w r sound is in
    let after_b : AreSound b (λ x. (r.1 x).cell) = subst (λ (k : AtlasState). AreSound k (λ x. (r.1 x).cell)) (sym (ap atlas_in after.1.atlas)) after.1 in
    let wide : Wider sound.0 b = subst (λ (k : AtlasState). Wider k b) (ap atlas_in sound.1.atlas) (wider (atlas_in (w 0).cell) b (step_keeps s me w r sound is)) in
    let with_newborn : (n : ℕ × Cell) → o.newborn ≡ Some n → IsTrue (is_born b x) = λ n e.
    let f : IsNewborn act.atlas act.other (seen_atlas w act.atlas) o.atlas n =
    subst (λ k. MatchOption k (act.atlas ≡ true → length o.atlas.loci ≡ length (seen_atlas w act.atlas).loci) (λ n. IsNewborn act.atlas act.other (seen_atlas w act.atlas) o.atlas n)) e (wanted_is s me l (seen_atlas w act.atlas) (seen_other w act.other)).bears in
    let all : AllOf Writes ms = atlas_of_all Writes act.atlas o.atlas _ refl (other_of_all Writes act.other o.other _ (λ y other. some_none (sym other ∙ f.1)) (newborn_of_all Writes o.newborn _ (λ k e. refl) (refl, tt))) in
    let k = touched_by Writes w (ordered ms) x t (ordered_of Writes ms all) here in
    let rises = (step_local s me).writes w r is x t touch (k.wrote ∙ k.holds) in
    let good : AreGood s ms = step_good s me l w (λ y other. some_none (sym other ∙ f.1)) in
    let cases = subst (λ (v : KernelState). (v x ≡ w x) ⊎ (IsGoodCell s (v x).cell × ((v x).version ≡ (w x).version + 1))) state (changed_good s w ms x good) in
    elim cases as (λ _. IsTrue (is_born b x)) [
      | inl same ↦ (let v = ap (λ (k : EntityState). k.version) same in absurd (omega (arith, v, rises.0, rises.1)))
      | inr new ↦ good_born s b (λ x. (r.1 x).cell) x after_b new.0
    ] in
    let without : o.newborn ≡ None → IsTrue (is_born b x) = λ none.
    of_born b w ms (atlas_of_all (IsOfBorn b) act.atlas o.atlas _ refl
    (other_of_all (IsOfBorn b) act.other o.other _ (λ y e. wider_born sound.0 b y wide (subst (NamesBorn sound.0) e (wanted_born sound.0 l at.1 me)))
    (newborn_of_all (IsOfBorn b) o.newborn _ (λ k e. some_none (sym e ∙ none)) (wider_born sound.0 b me wide (born_locus sound.0 me at.0), tt)))) x t here in
    elim o.newborn as (λ k. o.newborn ≡ k → IsTrue (is_born b x)) [ None ↦ λ e. without e | Some n ↦ λ e. with_newborn n e ] refl

-- what an event that makes an entry leaves of the state: names stay, what it touched is born, and all others are as they were
pub record IsWidened (w : KernelState) (e : Entry) (v : KernelState) : Type 0 where
  pub names : KeepsNames (atlas_in (w 0).cell) (atlas_in (v 0).cell)
  pub touched : TouchesBorn (atlas_in (v 0).cell) e.touched
  pub stays : (x : ℕ) → touch_at e.touched x ≡ None → v x ≡ w x

-- an entity is as it was, or is born
abbrev pub StaysOrBorn : KernelState → KernelState → ℕ → Type 0
StaysOrBorn w v x = (v x ≡ w x) ⊎ IsTrue (is_born (atlas_in (v 0).cell) x)

pub stays_or_born : (w : KernelState) (e : Entry) (v : KernelState) (x : ℕ) → IsWidened w e v → StaysOrBorn w v x
stays_or_born w e v x wide = elim (touch_at e.touched x) as (λ k. touch_at e.touched x ≡ k → StaysOrBorn w v x) [ None ↦ λ is. inl (wide.stays x is) | Some t ↦ λ is. inr (wide.touched x t is) ] refl

pub step_widens : (s : Supply) (me : ℕ) (w : KernelState) (r : Entry × KernelState) → IsSound (λ x. (w x).cell) → step s me w ≡ Some r → IsWidened w r.0 r.1
step_widens s me w r sound is = record { names = step_keeps s me w r sound is; touched = step_touched s me w r sound is; stays = (step_local s me).stays w r is }

-- A BIRTH

container_number : (a : AtlasState) (n : ℕ) → free_container a ≡ Some n → n ≡ length a.containers + 1
container_number a n free =
    elim (nat_lt (length a.containers) 40) as (λ b. (if b then Some (length a.containers + 1) else None) ≡ Some n → n ≡ length a.containers + 1) [
      | true ↦ λ e. sym (same_Some (length a.containers + 1) n e)
      | false ↦ λ e. cc
    ] free

born_last_container : (b : AtlasState) (n : ℕ) → n ≡ length b.containers → 0 < n → IsTrue (is_born b n)
born_last_container b n e high =
    let in_list : is_born_container b n ≡ true = by_length (length b.containers) e high in
    ap (λ (t : Bool). (n == 0) || t || is_born_locus b n) in_list ∙ either (n == 0) (is_born_locus b n)
  where
    by_length : (m : ℕ) → n ≡ m → 0 < n → (nat_lt 0 n && nat_le n m) ≡ true
    by_length m e high = grind (arith, nat_tests)

    either : (p q : Bool) → (p || true || q) ≡ true
    either true q = refl
    either false q = refl

born_last_locus : (b : AtlasState) (n : ℕ) → n ≡ 40 + length b.loci → 0 < length b.loci → IsTrue (is_born b n)
born_last_locus b n e some =
    let in_list : is_born_locus b n ≡ true = by_length (length b.loci) e some in
    ap (λ (t : Bool). (n == 0) || is_born_container b n || t) in_list ∙ either (n == 0) (is_born_container b n)
  where
    by_length : (m : ℕ) → n ≡ 40 + m → 0 < m → (nat_lt 40 n && nat_le n (40 + m)) ≡ true
    by_length m e some = grind (arith, nat_tests)

    either : (p q : Bool) → (p || q || true) ≡ true
    either true q = refl
    either false true = refl
    either false false = refl

same_list : {A : Type 0} (xs ys : List A) → ys ≡ xs → IsFront xs ys
same_list xs ys e = ([], e ∙ sym (append-nil xs))

pub grew_keeps : (a b : AtlasState) (script : Script) (name : Text) → Grew a b script name → KeepsNames a b
grew_keeps a b script name (ByContainer next containers loci) = record { containers = (name ∷ [], containers); loci = same_list a.loci b.loci loci }
grew_keeps a b script name (ByLocus next containers loci) = record { containers = same_list a.containers b.containers containers; loci = (name ∷ [], loci) }

module _ (s : Supply) (script : Script) (w : KernelState) (a b : AtlasState) (name : Text) (c : ℕ × Change) (grew : Grew a b script name) (is : birth_named s script name w a ≡ Some c) where
  abbrev pub HasBorn : ℕ → Type 0
  HasBorn y = IsTrue (is_born b y)

  wide_here : Wider a b
  wide_here = wider a b (grew_keeps a b script name grew)

  -- all that a birth touches, and the newborn
  abbrev pub AllBorn : ℕ × Change → Type 0
  AllBorn d = AllOf (IsOfBorn b) d.1.accesses × HasBorn d.0

  of_container : (t : ContainerTable) → number_of a name ≡ None → container_table script.containers name ≡ Some t → locus_table script.loci name ≡ None → AllBorn c
  of_container t none found other =
      let same : birth_named s script name w a ≡ container_birth s a t (free_container a) = λ i. if is_none (none i) then birth_from s w a (found i) (locus_table script.loci name) else None in
      let k = container_change s a t (free_container a) c (sym same ∙ is) in
      let here = newest k.0 (container_number a k.0 k.1) grew in
      subst AllBorn k.2 ((refl, (here, tt)), here)
    where
      newest : (n : ℕ) → n ≡ length a.containers + 1 → Grew a b script name → HasBorn n
      newest n e (ByContainer next containers loci) = born_last_container b n (let l = ap length containers in let m = length-append a.containers (name ∷ []) in omega (arith, e, l, m)) (omega (arith, e))
      newest n e (ByLocus next containers loci) = some_none (sym next.found ∙ other)

  of_locus : (t : LocusTable) → number_of a name ≡ None → container_table script.containers name ≡ None → locus_table script.loci name ≡ Some t → AllBorn c
  of_locus t none other found =
      let same : birth_named s script name w a ≡ locus_birth w a t (container_named a t.host) = λ i. if is_none (none i) then birth_from s w a (other i) (found i) else None in
      let k = locus_change w a t (container_named a t.host) c (sym same ∙ is) in
      let host : HasBorn k.0 = wider_born a b k.0 wide_here (born_container a k.0 (container_named_born a t.host k.0 k.2)) in
      let here = newest k.1 (free_locus_is a k.1 k.3) grew in
      subst AllBorn k.4 ((refl, (host, (here, tt))), here)
    where
      newest : (n : ℕ) → length a.loci + 41 ≡ n → Grew a b script name → HasBorn n
      newest n e (ByContainer next containers loci) = some_none (sym next.found ∙ other)
      newest n e (ByLocus next containers loci) = (let l = ap length loci in let m = length-append a.loci (name ∷ []) in born_last_locus b n (omega (arith, e, l, m)) (omega (arith, l, m)))

  all_born : NextName a script name → AllBorn c
  all_born (OfContainer next none) = of_container next.table next.none next.found none
  all_born (OfLocus next none known) = of_locus next.table next.none none next.found

-- what a birth leaves, and the newborn is born
abbrev pub Bears : KernelState → Entry × KernelState → Type 0
Bears w r = IsWidened w r.0 r.1 × IsTrue (is_born (atlas_in (r.1 0).cell) r.0.actor)

pub birth_widens : (s : Supply) (script : Script) (w : KernelState) (r : Entry × KernelState) → IsScript script → next_birth s script w ≡ Some r → Bears w r
unfolding next_birth_change
birth_widens s script w r rules is =
    let change = some_of_map (λ (c : ℕ × Change). carried w Birth c.0 c.1) (next_birth_change s script w) r is in
    by_name change.0 (next_name (atlas_in (w 0).cell) script) refl change.1 change.2
  where
    by_name : (c : ℕ × Change) (o : Option Text) → next_name (atlas_in (w 0).cell) script ≡ o → option_and_then (λ name. birth_named s script name w (atlas_in (w 0).cell)) o ≡ Some c → carried w Birth c.0 c.1 ≡ r → Bears w r
    by_name c None at e whole = cc
    by_name c (Some name) at e whole =
        let a = atlas_in (w 0).cell in
        let next = next_name_is a script name rules at in
        let grown = born_atlas s script name w a c next e in
        let ms = c.1.accesses in
        let state : changed w (ordered ms) ≡ r.1 = ap (λ (q : Entry × KernelState). q.1) whole in
        let entry : touches_of w (ordered ms) ≡ r.0.touched = ap (λ (q : Entry × KernelState). q.0.touched) whole in
        let atlas : grown.0 ≡ atlas_in (r.1 0).cell = ap atlas_in (sym grown.1) ∙ ap (λ (v : KernelState). atlas_in (v 0).cell) state in
        let all = all_born s script w a grown.0 name c grown.2 e next in
        let widened : IsWidened w r.0 r.1 = record {
          names = subst (λ (b : AtlasState). KeepsNames a b) atlas (grew_keeps a grown.0 script name grown.2);
          touched = subst (λ (b : AtlasState). TouchesBorn b r.0.touched) atlas (subst (TouchesBorn grown.0) entry (of_born grown.0 w ms all.0));
          stays = (next_birth_local s script).stays w r is;
        } in
        let actor : c.0 ≡ r.0.actor = ap (λ (q : Entry × KernelState). q.0.actor) whole in
        (widened, subst (λ n. IsTrue (is_born (atlas_in (r.1 0).cell) n)) actor (subst (λ (b : AtlasState). IsTrue (is_born b c.0)) atlas all.1))
