-- Births in a state that has the touched cells.
use Rattle.std.proofs.Common.{◌≡◌, ℕ, ◌+◌, ◌<◌, Bool, true, false, ◌&&◌, ◌||◌, ◌==◌, if◌then◌else◌, List, [], ◌∷◌, Some, None, is_none, length, option_map, refl, sym, ap, subst, ◌∙◌, arith, eq-eqb}
use Rattle.std.specs.List.{list_any}
use Rattle.std.proofs.lemmas.Bool.{lt-ltb, or_parts}
use Rattle.std.proofs.lemmas.Bool.Decides.{nat_tests}
use Rattle.base_types.specs.declared.histories.Answer.TheVariants.{Quiet}
use Rattle.base_types.specs.declared.histories.Entry.{Entry}
use Rattle.base_types.specs.declared.histories.Event.TheVariants.{Birth}
use Rattle.script_types.specs.model_kernel.Births.{birth, birth_change, birth_from, birth_named, code_in, container_birth, container_born, container_from, edges_from, locus_birth, locus_born, locus_from, locus_in_host, with_container_name, with_locus_name}
use Rattle.script_types.specs.model_kernel.Changes.{Access, Change, access_at, accessed, carried, carried_by, changed, entry_of, joined, ordered, touches_of}
use Rattle.script_types.specs.model_kernel.Histories.{writes}
use Rattle.script_types.specs.model_kernel.Outcomes.{free_container, free_locus}
use Rattle.script_types.specs.model_kernel.Scripts.{ContainerTable, LocusTable, Script, container_table, locus_table, number_in}
use Rattle.script_types.specs.model_kernel.State.{Cell as ModelCell, NotBorn, AtlasCell, ContainerCell, LocusCell, KernelState, Supply}
use Rattle.script_types.specs.model_kernel.Steps.{atlas_in}
use Rattle.data_stamps.specs.Stamps.{component}
use Rattle.cell_clocks.specs.declared.Clock.{Clock}
use Rattle.cell_clocks.specs.Clocks.{HasClock, writing, CarriesThree, CarriesTwo}
use Rattle.cell_clocks.proofs.Changing.{access_first, access_second, access_third}
use Rattle.cell_wish_laws.specs.cell_states.declared.cells.Cell.{Cell}
use Rattle.cell_wish_laws.specs.cell_states.Cells.{HasCell, part_of}
use Rattle.cell_wish_laws.proofs.cell_states_lemmas.Stepping.{written_cell}
use Rattle.data_atlas.specs.data_atlas_facts.Directory.{Directory}
use Rattle.script_fits.specs.act_calls.Calls.{atlas_state}
use Rattle.cell_births.specs.Bearing.{Bears, IsBirthEntry, MayBearContainer, MayBearLocus}
use Rattle.std.proofs.Math.Bool.{or-true}

-- WHAT IS WRITTEN

and_true : (b : Bool) → (b && true) ≡ b
and_true true = refl
and_true false = refl

pub last_two : (n : ℕ) → list_any (λ y. y == n) (0 ∷ n ∷ []) ≡ true
last_two n = ap (λ b. (0 == n) || (b || false)) (eq-eqb n n refl) ∙ or-true (0 == n)

pub middle_three : (h n : ℕ) → list_any (λ y. y == h) (0 ∷ h ∷ n ∷ []) ≡ true
middle_three h n = ap (λ b. (0 == h) || (b || ((n == h) || false))) (eq-eqb h h refl) ∙ or-true (0 == h)

pub last_three : (h n : ℕ) → list_any (λ y. y == n) (0 ∷ h ∷ n ∷ []) ≡ true
last_three h n = ap (λ b. (0 == n) || ((h == n) || (b || false))) (eq-eqb n n refl) ∙ ap (λ b. (0 == n) || b) (or-true (h == n)) ∙ or-true (0 == n)

abbrev pub two : ModelCell → ℕ → ModelCell → List Access
two i n k = writing 0 i ∷ writing n k ∷ []

abbrev pub three : ModelCell → ℕ → ModelCell → ℕ → ModelCell → List Access
three i h j n k = writing 0 i ∷ writing h j ∷ writing n k ∷ []

writes_two : (w : KernelState) (i : ModelCell) (n : ℕ) (k : ModelCell) (x : ℕ) → writes (entry_of w Birth n (two i n k) Quiet) x ≡ list_any (λ y. y == x) (0 ∷ n ∷ [])
writes_two w i n k x = λ p. and_true (0 == x) p || (and_true (n == x) p || false)

writes_three : (w : KernelState) (i : ModelCell) (h : ℕ) (j : ModelCell) (n : ℕ) (k : ModelCell) (x : ℕ) → writes (entry_of w Birth n (three i h j n k) Quiet) x ≡ list_any (λ y. y == x) (0 ∷ h ∷ n ∷ [])
writes_three w i h j n k x = λ p. and_true (0 == x) p || (and_true (h == x) p || (and_true (n == x) p || false))

stays : (w : KernelState) (accesses : List Access) (x : ℕ) → access_at accesses x ≡ None → changed w accesses x ≡ w x
unfolding changed
stays w accesses x none = ap (accessed (w x) (joined w (touches_of w accesses))) none

stays_two : (w : KernelState) (i : ModelCell) (n : ℕ) (k : ModelCell) (x : ℕ) → list_any (λ y. y == x) (0 ∷ n ∷ []) ≡ false → changed w (two i n k) x ≡ w x
stays_two w i n k x none =
    let h = or_parts (0 == x) ((n == x) || false) none in
    let g = or_parts (n == x) false h.1 in
    stays w (two i n k) x ((λ p. if h.0 p then Some (writing 0 i) else if n == x then Some (writing n k) else None) ∙ (λ p. if g.0 p then Some (writing n k) else None))

stays_three : (w : KernelState) (i : ModelCell) (h : ℕ) (j : ModelCell) (n : ℕ) (k : ModelCell) (x : ℕ) → list_any (λ y. y == x) (0 ∷ h ∷ n ∷ []) ≡ false → changed w (three i h j n k) x ≡ w x
stays_three w i h j n k x none =
    let a = or_parts (0 == x) ((h == x) || ((n == x) || false)) none in
    let b = or_parts (h == x) ((n == x) || false) a.1 in
    let c = or_parts (n == x) false b.1 in
    stays w (three i h j n k) x
    ((λ p. if a.0 p then Some (writing 0 i) else if h == x then Some (writing h j) else if n == x then Some (writing n k) else None)
    ∙ (λ p. if b.0 p then Some (writing h j) else if n == x then Some (writing n k) else None)
    ∙ (λ p. if c.0 p then Some (writing n k) else None))

two_ordered : (i : ModelCell) (n : ℕ) (k : ModelCell) → 0 < n → ordered (two i n k) ≡ two i n k
two_ordered i n k lt = rw (lt-ltb 0 n lt) refl

three_ordered : (i : ModelCell) (h : ℕ) (j : ModelCell) (n : ℕ) (k : ModelCell) → 0 < h → h < n → ordered (three i h j n k) ≡ three i h j n k
three_ordered i h j n k pos lt = rw (lt-ltb h n lt) (rw (lt-ltb 0 h pos) refl)

-- A STATE THAT HAS GIVEN CLOCKS

abbrev with_clock : Clock → KernelState → KernelState
with_clock c w = λ x. if c.entity == x then record { cell = NotBorn; version = c.version; stamp = λ y. component c.stamp y } else w x

has_first : (c : Clock) (w : KernelState) → HasClock (with_clock c w) c
has_first c w =
    let here : (c.entity == c.entity) ≡ true = eq-eqb c.entity c.entity refl in
    record { version = rw here refl; stamp = λ y. rw here refl }

has_other : (c d : Clock) (w : KernelState) → c.entity < d.entity → HasClock w d → HasClock (with_clock c w) d
has_other c d w lt has =
    let off : (c.entity == d.entity) ≡ false = grind (arith, nat_tests) in
    record { version = rw off has.version; stamp = λ y. rw off (has.stamp y) }

nothing : KernelState
nothing x = record { cell = NotBorn; version = 0; stamp = λ y. 0 }

-- THE ENTRY

pub entry_two : (n : ℕ) (a b a' b' : Clock) (e : Entry) → a.entity ≡ 0 → b.entity ≡ n → a.entity < b.entity
    → ((w : KernelState) → HasClock w a → HasClock w b → (i k : ModelCell) → CarriesTwo Birth n Quiet w (writing a.entity i ∷ writing b.entity k ∷ []) e a' b')
    → IsBirthEntry e n (0 ∷ n ∷ [])
entry_two n a b a' b' e zero_at at lt carries =
    let w = with_clock a (with_clock b nothing) in
    let is : e ≡ entry_of w Birth n (two NotBorn n NotBorn) Quiet =
    (carries w (has_first a (with_clock b nothing)) (has_other a b (with_clock b nothing) lt (has_first b nothing)) NotBorn NotBorn).entry
    ∙ (λ p. entry_of w Birth n (writing (zero_at p) NotBorn ∷ writing (at p) NotBorn ∷ []) Quiet) in
    record {
      event = ap (λ (e : Entry). e.event) is;
      actor = ap (λ (e : Entry). e.actor) is;
      writes = λ x. ap (λ (e : Entry). writes e x) is ∙ writes_two w NotBorn n NotBorn x;
    }

pub entry_three : (h n : ℕ) (a b c a' b' c' : Clock) (e : Entry) → a.entity ≡ 0 → b.entity ≡ h → c.entity ≡ n → a.entity < b.entity → b.entity < c.entity
    → ((w : KernelState) → HasClock w a → HasClock w b → HasClock w c → (i j k : ModelCell) → CarriesThree Birth n Quiet w (writing a.entity i ∷ writing b.entity j ∷ writing c.entity k ∷ []) e a' b' c')
    → IsBirthEntry e n (0 ∷ h ∷ n ∷ [])
entry_three h n a b c a' b' c' e zero_at mid at lt more carries =
    let u = with_clock c nothing in
    let v = with_clock b u in
    let w = with_clock a v in
    let far : a.entity < c.entity = omega arith in
    let hasc = has_other b c u more (has_first c nothing) in
    let is : e ≡ entry_of w Birth n (three NotBorn h NotBorn n NotBorn) Quiet =
    (carries w (has_first a v) (has_other a b v lt (has_first b u)) (has_other a c v far hasc) NotBorn NotBorn NotBorn).entry
    ∙ (λ p. entry_of w Birth n (writing (zero_at p) NotBorn ∷ writing (mid p) NotBorn ∷ writing (at p) NotBorn ∷ []) Quiet) in
    record {
      event = ap (λ (e : Entry). e.event) is;
      actor = ap (λ (e : Entry). e.actor) is;
      writes = λ x. ap (λ (e : Entry). writes e x) is ∙ writes_three w NotBorn h NotBorn n NotBorn x;
    }

-- THE MODEL'S BIRTH

free_first : (d : Directory) → length d.containers < 40 → free_container (atlas_state d) ≡ Some (length d.containers + 1)
free_first d few = rw (lt-ltb (length d.containers) 40 few) refl

free_next : (d : Directory) → length d.loci < 23 → free_locus (atlas_state d) ≡ Some (length d.loci + 41)
free_next d few = rw (lt-ltb (length d.loci) 23 few) refl

container_change : (s : Supply) (script : Script) (w : KernelState) (d : Directory) (t : ContainerTable) (n : ℕ) → MayBearContainer d t n → (w 0).cell ≡ AtlasCell (atlas_state d)
    → container_table script.containers t.name ≡ Some t → birth_change s script t.name w ≡ Some (n, container_born s (atlas_state d) t n)
unfolding birth_change
container_change s script w d t n may there found =
    let a = atlas_state d in
    ap (λ k. birth_named s script t.name w (atlas_in k)) there
    ∙ ap (λ o. if is_none o then birth_from s w a (container_table script.containers t.name) (locus_table script.loci t.name) else None) may.fresh
    ∙ ap (λ o. birth_from s w a o (locus_table script.loci t.name)) found
    ∙ ap (container_birth s a t) (free_first d may.free ∙ ap Some (sym may.number))
    ∙ ap (λ (b : Bool). if b then Some (n, container_born s a t n) else None) may.knows

locus_change : (s : Supply) (script : Script) (w : KernelState) (d : Directory) (t : LocusTable) (h n : ℕ) → MayBearLocus d t h n → (w 0).cell ≡ AtlasCell (atlas_state d)
    → container_table script.containers t.name ≡ None → locus_table script.loci t.name ≡ Some t → birth_change s script t.name w ≡ Some (n, locus_born (atlas_state d) t n h (w h).cell)
unfolding birth_change
locus_change s script w d t h n may there none found =
    let a = atlas_state d in
    ap (λ k. birth_named s script t.name w (atlas_in k)) there
    ∙ ap (λ o. if is_none o then birth_from s w a (container_table script.containers t.name) (locus_table script.loci t.name) else None) may.fresh
    ∙ ap (λ o. birth_from s w a o (locus_table script.loci t.name)) none
    ∙ ap (birth_from s w a None) found
    ∙ ap (locus_birth w a t) may.hosted
    ∙ ap (locus_in_host a t h (w h).cell) (free_next d may.free ∙ ap Some (sym may.number))
    ∙ ap (λ (b : Bool). if b then Some (n, locus_born a t n h (w h).cell) else None) may.knows

-- OVER CELLS

pub born_container : (s : Supply) (words : ℕ → List ℕ) (script : Script) (w : KernelState) (d : Directory) (t : ContainerTable) (a b a' b' : Cell) (e : Entry)
    → MayBearContainer d t b.clock.entity → container_table script.containers t.name ≡ Some t → HasCell s words w a → HasCell s words w b
    → part_of s words a.part ≡ AtlasCell (atlas_state d) → a.clock.entity ≡ 0
    → part_of s words a'.part ≡ AtlasCell (edges_from (number_in (atlas_state d) t.name b.clock.entity) b.clock.entity t.regions (with_container_name (atlas_state d) t.name))
    → part_of s words b'.part ≡ ContainerCell (container_from s (number_in (atlas_state d) t.name b.clock.entity) t)
    → a'.clock.entity ≡ a.clock.entity → b'.clock.entity ≡ b.clock.entity
    → ((i k : ModelCell) → CarriesTwo Birth b.clock.entity Quiet w (writing a.clock.entity i ∷ writing b.clock.entity k ∷ []) e a'.clock b'.clock)
    → Bears s script t.name w e (λ v. HasCell s words v a' × HasCell s words v b')
born_container s words script w d t a b a' b' e may found hasa hasb isa zero_at makesa makesb samea sameb carries =
    let n = b.clock.entity in
    let i = AtlasCell (edges_from (number_in (atlas_state d) t.name n) n t.regions (with_container_name (atlas_state d) t.name)) in
    let k = ContainerCell (container_from s (number_in (atlas_state d) t.name n) t) in
    let pos : 0 < n = omega (arith, may.number) in
    let there : (w 0).cell ≡ AtlasCell (atlas_state d) = ap (λ x. (w x).cell) (sym zero_at) ∙ hasa.part ∙ isa in
    let made : CarriesTwo Birth n Quiet w (two i n k) e a'.clock b'.clock = subst (λ z. CarriesTwo Birth n Quiet w (writing z i ∷ writing n k ∷ []) e a'.clock b'.clock) zero_at (carries i k) in
    let bears : birth s script t.name w ≡ Some (e, changed w (two i n k)) =
    ap (option_map (λ (c : ℕ × Change). carried w Birth c.0 c.1)) (container_change s script w d t n may there found)
    ∙ (λ p. Some (carried_by w Birth n (two_ordered i n k pos p) Quiet)) ∙ (λ p. Some (sym made.entry p, changed w (two i n k))) in (
      changed w (two i n k),
      bears,
      λ x none. stays_two w i n k x (sym (writes_two w i n k x) ∙ ap (λ (e : Entry). writes e x) (sym made.entry) ∙ none),
      (
        written_cell s words w (two i n k) 0 (writing 0 i) i a' (access_first (writing 0 i) (writing n k ∷ [])) refl (samea ∙ zero_at) makesa made.first,
        written_cell s words w (two i n k) n (writing n k) k b' (access_second (writing 0 i) (writing n k) [] pos) refl sameb makesb made.second,
      ),
    )

pub born_locus : (s : Supply) (words : ℕ → List ℕ) (script : Script) (w : KernelState) (d : Directory) (t : LocusTable) (a h b a' h' b' : Cell) (e : Entry)
    → MayBearLocus d t h.clock.entity b.clock.entity → container_table script.containers t.name ≡ None → locus_table script.loci t.name ≡ Some t
    → HasCell s words w a → HasCell s words w h → HasCell s words w b
    → part_of s words a.part ≡ AtlasCell (atlas_state d) → a.clock.entity ≡ 0
    → part_of s words a'.part ≡ AtlasCell (with_locus_name (atlas_state d) t.name) → h'.part ≡ h.part
    → part_of s words b'.part ≡ LocusCell (locus_from (number_in (atlas_state d) t.name b.clock.entity) t h.clock.entity (code_in (part_of s words h.part)))
    → a'.clock.entity ≡ a.clock.entity → h'.clock.entity ≡ h.clock.entity → b'.clock.entity ≡ b.clock.entity
    → ((i j k : ModelCell) → CarriesThree Birth b.clock.entity Quiet w (writing a.clock.entity i ∷ writing h.clock.entity j ∷ writing b.clock.entity k ∷ []) e a'.clock h'.clock b'.clock)
    → Bears s script t.name w e (λ v. HasCell s words v a' × HasCell s words v h' × HasCell s words v b')
born_locus s words script w d t a h b a' h' b' e may none found hasa hash hasb isa zero_at makesa keeps makesb samea sameh sameb carries =
    let m = h.clock.entity in
    let n = b.clock.entity in
    let i = AtlasCell (with_locus_name (atlas_state d) t.name) in
    let j = (w m).cell in
    let k = LocusCell (locus_from (number_in (atlas_state d) t.name n) t m (code_in j)) in
    let there : (w 0).cell ≡ AtlasCell (atlas_state d) = ap (λ x. (w x).cell) (sym zero_at) ∙ hasa.part ∙ isa in
    let made : CarriesThree Birth n Quiet w (three i m j n k) e a'.clock h'.clock b'.clock =
    subst (λ z. CarriesThree Birth n Quiet w (writing z i ∷ writing m j ∷ writing n k ∷ []) e a'.clock h'.clock b'.clock) zero_at (carries i j k) in
    let bears : birth s script t.name w ≡ Some (e, changed w (three i m j n k)) =
    ap (option_map (λ (c : ℕ × Change). carried w Birth c.0 c.1)) (locus_change s script w d t m n may there none found)
    ∙ (λ p. Some (carried_by w Birth n (three_ordered i m j n k may.above may.below p) Quiet)) ∙ (λ p. Some (sym made.entry p, changed w (three i m j n k))) in
    let newborn : part_of s words b'.part ≡ k = makesb ∙ ap (λ c. LocusCell (locus_from (number_in (atlas_state d) t.name n) t m (code_in c))) (sym hash.part) in (
      changed w (three i m j n k),
      bears,
      λ x off. stays_three w i m j n k x (sym (writes_three w i m j n k x) ∙ ap (λ (e : Entry). writes e x) (sym made.entry) ∙ off),
      (
        written_cell s words w (three i m j n k) 0 (writing 0 i) i a' (access_first (writing 0 i) (writing m j ∷ writing n k ∷ [])) refl (samea ∙ zero_at) makesa made.first,
        written_cell s words w (three i m j n k) m (writing m j) j h' (access_second (writing 0 i) (writing m j) (writing n k ∷ []) may.above) refl sameh (ap (part_of s words) keeps ∙ sym hash.part) made.second,
        written_cell s words w (three i m j n k) n (writing n k) k b' (access_third (writing 0 i) (writing m j) (writing n k) [] may.above may.below) refl sameb newborn made.third,
      ),
    )
