-- What mapping and unmapping make.
use Rattle.std.proofs.Common.{◌≡◌, ℕ, ◌+◌, ◌-◌, ◌<◌, ◌≤◌, nat_lt, nat_le, ◌&&◌, ◌==◌, not, Bool, true, false, cond, if◌then◌else◌, List, [], ◌∷◌, length, Option, Some, None, is_some, unwrap_or, Result, Ok, Err, IfErr, OnOk, slice_get, find, filter, count_by, refl, sym, ap, ◌∙◌, subst, arith, eq-eqb}
use Rattle.std.specs.Option.{ok_or}
use Rattle.std.specs.Bool.{OnTrue, OnFalse}
use Rattle.std.specs.List.{list_any}
use Rattle.std.proofs.lemmas.Bool.{lt-ltb}
use Rattle.std.proofs.lemmas.Bool.Decides.{nat_tests}
use Rattle.std.proofs.lemmas.List.Sums.{sum_by-cons}
use borrow.Author.Tests.{eqb-true}
use Rattle.base_types.specs.Edges.{Edges, ClosesCircle, leads}
use Rattle.base_types.specs.declared.capabilities.Cap.{Cap}
use Rattle.base_types.specs.declared.capabilities.Region.{Region}
use Rattle.base_types.specs.declared.capabilities.Rights.{Rights}
use Rattle.base_types.specs.declared.instructions.Instr.{Instr}
use Rattle.base_types.specs.declared.instructions.Instr.TheVariants.{Map, Unmap}
use Rattle.base_types.specs.declared.instructions.Reply.{Reply}
use Rattle.base_types.specs.declared.instructions.Reply.TheVariants.{NoSlot, WrongKind, NoPage, Overlap, Circle, ListFull, NoRegion}
use Rattle.base_types.specs.declared.instructions.Reply.TheVariants.{Ok as Fine}
use Rattle.act_invoke.specs.model_kernel.State.{Supply, AtlasState, ContainerState, LocusState, Cell, ContainerCell}
use Rattle.act_invoke.specs.model_kernel.Acts.{wanted}
use Rattle.act_invoke.specs.model_kernel.Outcomes.{Outcome, outcome, on_cell, with_atlas, map_region, map_by, edge_put, unmap, unmap_at, finish}
use Rattle.act_invoke.specs.model_kernel.Refusals.{instr_at, refusal, reg, named, entity_of, no_cap, no_slot, no_container, lacks, no_page, new_region}
use Rattle.act_invoke.specs.model_kernel.Words.{unless, first, flat, overlaps, insert_region, put, is_container}
use Rattle.act_invoke.specs.data_regions.Regions.{begins_at, add_answer}
use Rattle.data_atlas.specs.data_atlas_facts.Directory.{Directory, edges_of, with_count, IsBornContainer}
use Rattle.data_atlas.specs.model_circles.Containers.{IsAmongContainers}
use Rattle.data_atlas.proofs.model_circles_lemmas.Circles.{circle_found}
use Rattle.data_atlas.specs.data_atlas_facts.Reached.{with_edge}
use Rattle.act_invoke.specs.model_acts.Views.{may_name_itself}
use Rattle.act_invoke.proofs.model_acts_lemmas.Allowed.{unless_none, first_none}
use Rattle.act_invoke.proofs.model_act_facts_lemmas.Alone.{wanted_says}
use Rattle.act_invoke.specs.Entries.{WantsBeside}
use Rattle.act_invoke.proofs.Entered.{made_by}
use Rattle.act_calls.specs.Calls.{is_map, is_unmap, atlas_state, NamesBorn, AtlasCallMade}
use Rattle.act_calls.proofs.BirthLemmas.{atlas_refused}

-- EDGES

put_edges : (e : Edges) (c d n : ℕ) → with_edge e c d n ≡ put e c (put (e c) d n)
put_edges e c d n = λ i x y. at x y i
  where
    by : (x y : ℕ) (b : Bool) → (x == c) ≡ b → (if b && y == d then n else e x y) ≡ (if b then put (e c) d n else e x) y
    by x y true is = ap (λ k. if y == d then n else e k y) (eqb-true x c is)
    by x y false is = refl

    at : (x y : ℕ) → with_edge e c d n x y ≡ put e c (put (e c) d n) x y
    at x y = by x y (x == c) refl

pub edge_state : (old new : Directory) (x y n : ℕ) → new ≡ with_count old x y n → edges_of new ≡ with_edge (edges_of old) x y n → atlas_state new ≡ edge_put (atlas_state old) x y n
edge_state old new x y n names edges = λ i. record {
  containers = ap (λ (d : Directory). d.containers) names i;
  loci = ap (λ (d : Directory). d.loci) names i;
  edges = (edges ∙ put_edges (edges_of old) x y n) i;
}

pub closes : (d : Directory) (x y : ℕ) (b : Bool) → IsAmongContainers (edges_of d) → b ≡ true → OnTrue b (ClosesCircle (edges_of d) x y) → leads 40 (edges_of d) y x ≡ true
closes d x y b among is h = let path = subst (λ t. OnTrue t (ClosesCircle (edges_of d) x y)) is h in (circle_found (edges_of d) x y 40 among (omega arith)).1 path

pub stays_open : (d : Directory) (x y : ℕ) (b : Bool) → b ≡ false → OnFalse b (ClosesCircle (edges_of d) x y → ⊥) → ClosesCircle (edges_of d) x y → ⊥
stays_open d x y b is h = subst (λ t. OnFalse t (ClosesCircle (edges_of d) x y → ⊥)) is h

pub no_path : (d : Directory) (x y : ℕ) → IsAmongContainers (edges_of d) → (ClosesCircle (edges_of d) x y → ⊥) → leads 40 (edges_of d) y x ≡ false
no_path d x y among free = by (leads 40 (edges_of d) y x) refl
  where
    by : (b : Bool) → leads 40 (edges_of d) y x ≡ b → leads 40 (edges_of d) y x ≡ false
    by true e = absurd (free ((circle_found (edges_of d) x y 40 among (omega arith)).0 e))
    by false e = e

-- RESULTS

pub never_err : {A P Q : Type 0} (r : Result A Reply) → IfErr r (λ why. (why ≡ Circle) × P) → (P → ⊥) → OnOk r Q → Q
never_err (Ok x) h free done = done
never_err (Err e) h free done = absurd (free h.1)

pub ok_some : {A E : Type 0} (o : Option A) (e : E) (r : Result A E) (x : A) → r ≡ ok_or o e → r ≡ Ok x → o ≡ Some x
ok_some None e r x h found = absurd (clash (sym found ∙ h))
  where
    clash : {A E : Type 0} {x : A} {y : E} → Ok x ≡ Err y → ⊥
    clash e = cc
ok_some (Some y) e r x h found = let same : y ≡ x = cc in ap Some same

pub ok_none : {A E : Type 0} (o : Option A) (e : E) (r : Result A E) → r ≡ ok_or o e → ((x : A) → r ≡ Ok x → ⊥) → o ≡ None
ok_none None e r h other = refl
ok_none (Some y) e r h other = absurd (other y h)

pub done_at : {A E P : Type 0} (r : Result A E) (x : A) → r ≡ Ok x → OnOk r P → P
done_at (Ok y) x is h = h
done_at (Err e) x is h = cc

-- REGIONS

pub has_room : (n : ℕ) (full : Bool) → full ≡ false → full ≡ (n == 16) → n ≤ 16 → n < 16
has_room n full less is few = let differs : (n == 16) ≡ false = sym is ∙ less in grind (arith, nat_tests)

pub is_filled : (n : ℕ) (full : Bool) → full ≡ true → full ≡ (n == 16) → nat_lt n 16 ≡ false
is_filled n full filled is = let same : n ≡ 16 = eqb-true n 16 (sym is ∙ filled) in grind (arith, nat_tests)

pub added : (r : Region) (rs new : List Region) (result : Result (Unit {0}) Reply) → list_any (overlaps r) rs ≡ false → length rs < 16 → result ≡ add_answer 16 r rs → OnOk result (new ≡ insert_region r rs) → new ≡ insert_region r rs
added r rs new result apart few is done =
    let room = lt-ltb (length rs) 16 few in
    let ok : result ≡ Ok tt = is ∙ ap (λ (b : Bool). if b then Err Overlap else (if nat_lt (length rs) 16 then Ok tt else Err ListFull)) apart ∙ ap (λ (b : Bool). if b then Ok tt else Err ListFull) room in
    done_at result tt ok done

-- a region that is found is counted
abbrev one_if : Bool → ℕ
one_if b = cond b 1 0

counted_first : (q : Region → Bool) (s : Region) (rest : List Region) → q s ≡ true → 0 < count_by q (s ∷ rest)
counted_first q s rest here =
    let parts : count_by q (s ∷ rest) ≡ one_if (q s) + count_by q rest = sum_by-cons (λ x. one_if (q x)) s rest in
    let one : one_if (q s) ≡ 1 = ap one_if here in
    omega (arith, parts, one)

counted_later : (q : Region → Bool) (s : Region) (rest : List Region) → 0 < count_by q rest → 0 < count_by q (s ∷ rest)
counted_later q s rest more =
    let parts : count_by q (s ∷ rest) ≡ one_if (q s) + count_by q rest = sum_by-cons (λ x. one_if (q x)) s rest in
    omega (arith, parts)

pub found_counted : (page : ℕ) (rs : List Region) (r : Region) → find (begins_at page) rs ≡ Some r → 0 < count_by (λ s. s.target == r.target) rs
found_counted page [] r e = cc
found_counted page (s ∷ rest) r e = by (λ f. found_counted page rest r f) (begins_at page s) refl e
  where
    by : (find (begins_at page) rest ≡ Some r → 0 < count_by (λ s. s.target == r.target) rest) → (b : Bool) → begins_at page s ≡ b → (if b then Some s else find (begins_at page) rest) ≡ Some r → 0 < count_by (λ s. s.target == r.target) (s ∷ rest)
    by later true is e = let same : s ≡ r = cc in counted_first (λ s. s.target == r.target) s rest (eq-eqb s.target r.target (ap (λ (q : Region). q.target) same))
    by later false is e = counted_later (λ s. s.target == r.target) s rest (later e)

-- MAPPING, BY ITS CHECKS

abbrev four : Bool → Bool → Bool → Bool → Option Reply
four fits meets circle room = first (unless fits NoPage ∷ unless (not meets) Overlap ∷ unless (not circle) Circle ∷ unless room ListFull ∷ [])

module _ (l : LocusState) (a : AtlasState) (x : ℕ) (c : ContainerState) (r : Region) where
  map_as : (fits meets circle room : Bool) → nat_le (r.at + r.count) c.pages ≡ fits → list_any (overlaps r) c.regions ≡ meets → leads 40 a.edges r.target x ≡ circle → nat_lt (length c.regions) 16 ≡ room
      → map_region l a x c r ≡ map_by l a x c r (four fits meets circle room)
  unfolding map_region
  map_as fits meets circle room e f g h = λ i. map_by l a x c r (four (e i) (f i) (g i) (h i))

  pub map_past : c.pages < r.at + r.count → map_region l a x c r ≡ with_atlas l NoPage a (Some (ContainerCell c))
  map_past past = let e : nat_le (r.at + r.count) c.pages ≡ false = grind (arith, nat_tests) in map_as false _ _ _ e refl refl refl

  fits_in : r.at + r.count ≤ c.pages → nat_le (r.at + r.count) c.pages ≡ true
  fits_in fits = grind (arith, nat_tests)

  pub map_meets : r.at + r.count ≤ c.pages → list_any (overlaps r) c.regions ≡ true → map_region l a x c r ≡ with_atlas l Overlap a (Some (ContainerCell c))
  map_meets fits meets = map_as true true _ _ (fits_in fits) meets refl refl

  pub map_circle : r.at + r.count ≤ c.pages → list_any (overlaps r) c.regions ≡ false → leads 40 a.edges r.target x ≡ true → map_region l a x c r ≡ with_atlas l Circle a (Some (ContainerCell c))
  map_circle fits apart circle = map_as true false true _ (fits_in fits) apart circle refl

  pub map_full : r.at + r.count ≤ c.pages → list_any (overlaps r) c.regions ≡ false → leads 40 a.edges r.target x ≡ false → nat_lt (length c.regions) 16 ≡ false → map_region l a x c r ≡ with_atlas l ListFull a (Some (ContainerCell c))
  map_full fits apart free full = map_as true false false false (fits_in fits) apart free full

  pub map_done : r.at + r.count ≤ c.pages → list_any (overlaps r) c.regions ≡ false → leads 40 a.edges r.target x ≡ false → length c.regions < 16
      → map_region l a x c r ≡ with_atlas l Fine (edge_put a x r.target (a.edges x r.target + 1)) (Some (ContainerCell (record c { regions = insert_region r c.regions })))
  map_done fits apart free few = map_as true false false true (fits_in fits) apart free (lt-ltb (length c.regions) 16 few)

pub unmap_none : (l : LocusState) (a : AtlasState) (x : ℕ) (c : ContainerState) (at : ℕ) → find (begins_at at) c.regions ≡ None → unmap l a x c at ≡ with_atlas l NoRegion a (Some (ContainerCell c))
unfolding unmap
unmap_none l a x c at none = ap (unmap_at l a x c at) none

pub unmap_some : (l : LocusState) (a : AtlasState) (x : ℕ) (c : ContainerState) (at : ℕ) (r : Region) → find (begins_at at) c.regions ≡ Some r
    → unmap l a x c at ≡ with_atlas l Fine (edge_put a x r.target (a.edges x r.target - 1)) (Some (ContainerCell (record c { regions = filter (λ s. not (begins_at at s)) c.regions })))
unfolding unmap
unmap_some l a x c at r some = ap (unmap_at l a x c at) some

-- THE WANTED ACT

map_apart : (i : Instr) → is_map i ≡ true → may_name_itself i ≡ false
map_apart (Map d a c b n rights) h = refl
map_apart i h = cc

unmap_apart : (i : Instr) → is_unmap i ≡ true → may_name_itself i ≡ false
unmap_apart (Unmap d a) h = refl
unmap_apart i h = cc

pub map_shape : (i : Instr) → is_map i ≡ true → ((d a c b n : ℕ) (rights : Rights) → i ≡ Map d a c b n rights → ⊥) → ⊥
map_shape (Map d a c b n rights) h other = other d a c b n rights refl
map_shape i h other = cc

pub unmap_shape : (i : Instr) → is_unmap i ≡ true → ((d a : ℕ) → i ≡ Unmap d a → ⊥) → ⊥
unmap_shape (Unmap d a) h other = other d a refl
unmap_shape i h other = cc

on_map : (s : Supply) (l : LocusState) (a : AtlasState) (x d r k b n : ℕ) (rights : Rights) (c : ContainerState) → on_cell s l a x (Map d r k b n rights) (ContainerCell c) ≡ map_region l a x c (new_region l r k b n rights)
unfolding on_cell
on_map s l a x d r k b n rights c = refl

on_unmap : (s : Supply) (l : LocusState) (a : AtlasState) (x d r : ℕ) (c : ContainerState) → on_cell s l a x (Unmap d r) (ContainerCell c) ≡ unmap l a x c (reg l r)
unfolding on_cell
on_unmap s l a x d r c = refl

pub map_made : (l : LocusState) (x d r k b n : ℕ) (rights : Rights) → WantsBeside is_map l x → instr_at l ≡ Map d r k b n rights → (me : ℕ) (s : Supply) (a : AtlasState) (c : ContainerState)
    → outcome s l (wanted me l) a (ContainerCell c) ≡ map_region l a x c (new_region l r k b n rights)
map_made l x d r k b n rights h is me s a c = made_by is_map l x h (map_apart (instr_at l)) me s a (ContainerCell c) ∙ ap (λ i. on_cell s l a x i (ContainerCell c)) is ∙ on_map s l a x d r k b n rights c

pub unmap_made : (l : LocusState) (x d r : ℕ) → WantsBeside is_unmap l x → instr_at l ≡ Unmap d r → (me : ℕ) (s : Supply) (a : AtlasState) (c : ContainerState) → outcome s l (wanted me l) a (ContainerCell c) ≡ unmap l a x c (reg l r)
unmap_made l x d r h is me s a c = made_by is_unmap l x h (unmap_apart (instr_at l)) me s a (ContainerCell c) ∙ ap (λ i. on_cell s l a x i (ContainerCell c)) is ∙ on_unmap s l a x d r c

pub beside_allowed : (is : Instr → Bool) (l : LocusState) (x : ℕ) → WantsBeside is l x → refusal l (instr_at l) ≡ None
beside_allowed is l x h = sym (wanted_says 64 l).refused ∙ h.allowed

pub record MayMap (l : LocusState) (a c b n : ℕ) : Type 0 where
  pub slot : is_some (named l c) ≡ true
  pub kind : is_container (entity_of l c) ≡ true
  pub pages : no_page l a b n ≡ None

three_of_seven : (s t u v w x y : Option Reply) → first (s ∷ t ∷ u ∷ v ∷ w ∷ x ∷ y ∷ []) ≡ None → (t ≡ None) × (v ≡ None) × (y ≡ None)
three_of_seven s t u v w x y none =
    let second = first_none t (u ∷ v ∷ w ∷ x ∷ y ∷ []) (first_none s (t ∷ u ∷ v ∷ w ∷ x ∷ y ∷ []) none).1 in
    let fourth = first_none v (w ∷ x ∷ y ∷ []) (first_none u (v ∷ w ∷ x ∷ y ∷ []) second.1).1 in
    (second.0, fourth.0, (first_none y [] (first_none x (y ∷ []) (first_none w (x ∷ y ∷ []) fourth.1).1).1).0)

pub map_allowed : (l : LocusState) (d a c b n : ℕ) (rights : Rights) → refusal l (Map d a c b n rights) ≡ None → MayMap l a c b n
unfolding refusal
map_allowed l d a c b n rights none =
    let passed = three_of_seven (no_slot l d) (no_slot l c) (no_container l d) (no_container l c) (lacks l d 8) (lacks l c rights.0) (no_page l a b n) none in
    record { slot = unless_none (is_some (named l c)) NoSlot passed.0; kind = unless_none (is_container (entity_of l c)) WrongKind passed.1; pages = passed.2 }

-- the container that the capability names is born
pub target_born : (d : Directory) (l : LocusState) (c : ℕ) → NamesBorn d l.caps → is_some (named l c) ≡ true → is_container (entity_of l c) ≡ true → IsBornContainer d (entity_of l c)
target_born d l c born some kind = by (slice_get l.caps (reg l c)) refl some kind
  where
    by : (o : Option (Option Cap)) → slice_get l.caps (reg l c) ≡ o → is_some (flat o) ≡ true → is_container (unwrap_or (flat o) no_cap).entity ≡ true → IsBornContainer d (entity_of l c)
    by None e s k = cc
    by (Some None) e s k = cc
    by (Some (Some cap)) e s k = subst (IsBornContainer d) (ap (λ o. (unwrap_or (flat o) no_cap).entity) (sym e)) (born (reg l c) cap e k)

-- ONE CALL

pub atlas_done : (o : Outcome) (l m : LocusState) (result : Reply) (a b : AtlasState) (cell cell' : Cell) → o ≡ with_atlas l Fine a (Some cell) → m ≡ finish l Fine → result ≡ Fine → b ≡ a → cell' ≡ cell → AtlasCallMade o m result b (Some cell') None
atlas_done o l m result a b cell cell' same locus is atlas cells =
    subst (λ (k : Cell). AtlasCallMade o m result b (Some k) None) (sym cells) (atlas_refused o l m Fine result a b (Some cell) same locus is atlas)
