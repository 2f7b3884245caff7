-- Cells that have taken in a step.
use Rattle.std.proofs.Common.{◌≡◌, ◌≢◌, ℕ, ◌+◌, ◌==◌, if◌then◌else◌, List, [], ◌∷◌, Option, Some, None, option_map, refl, sym, ap, subst, ◌∙◌, eq-eqb, ne_eqb}
use Rattle.base_types.specs.declared.histories.Answer.TheVariants.{Reply as Replied}
use Rattle.base_types.specs.declared.histories.Entry.{Entry}
use Rattle.base_types.specs.declared.histories.Event.TheVariants.{Step}
use Rattle.base_types.specs.declared.instructions.Reply.TheVariants.{Ok}
use Rattle.page_store.specs.model_kernel.Changes.{carried}
use Rattle.page_store.specs.model_kernel.Histories.{Run, after_step, asked_by, locus_in}
use Rattle.page_store.specs.model_kernel.State.{Supply, LocusState, EntityState, KernelState}
use Rattle.page_store.specs.model_kernel.Steps.{numbered_change, running, step, step_change}
use Rattle.cell_looks.specs.cell_clocks.Clocks.{HasClock}
use Rattle.cell_looks.specs.data_stamps.Stamps.{component}
use Rattle.cell_looks.specs.cell_states.declared.cells.Cell.{Cell}
use Rattle.cell_looks.specs.cell_states.declared.cells.Part.{Part}
use Rattle.cell_looks.specs.cell_states.declared.cells.Wish.{Wish}
use Rattle.cell_looks.specs.cell_clocks.declared.Clock.{Clock}
use Rattle.cell_looks.specs.cell_states.Cells.{HasCell, part_of}
use Rattle.cell_looks.specs.cell_states.Steps.{Steps}
use Rattle.cell_looks.specs.cell_states.Wishes.{HasWish}
use Rattle.cell_looks.specs.Looking.{HasCellWith, StepsSomehow, part_with}
use Rattle.cell_steps.specs.Advances.{AdvancesSomehow, StepsCells, TakesIn}
use Rattle.std.proofs.lemmas.Option.{same_Some}

-- WHO STEPS

-- the entry of a step names the locus
pub stepped_by : (s : Supply) (me : ℕ) (w : KernelState) (e : Entry) (v : KernelState) → step s me w ≡ Some (e, v) → e.actor ≡ me
unfolding step_change
stepped_by s me w e v = by (running (w me).cell)
  where
    by : (o : Option LocusState) → option_map (λ c. carried w Step c.0 c.1) (option_map (numbered_change s me w) o) ≡ Some (e, v) → e.actor ≡ me
    by (Some l) is = sym (same_Some me e.actor (ap (λ (o : Option (Entry × KernelState)). option_map (λ (r : Entry × KernelState). r.0.actor) o) is))
    by None is = cc

-- A STATE THAT HAS CELLS

entity_in : Supply → (ℕ → List ℕ) → Cell → EntityState
entity_in s words c = record { cell = part_of s words c.part; version = c.clock.version; stamp = component c.clock.stamp }

-- a state that has up to three cells
pub state_with : Supply → (ℕ → List ℕ) → Cell → Cell → Cell → KernelState
state_with s words a b c x = if x == a.clock.entity then entity_in s words a else if x == b.clock.entity then entity_in s words b else entity_in s words c

has_here : (s : Supply) (words : ℕ → List ℕ) (w : KernelState) (c : Cell) → w c.clock.entity ≡ entity_in s words c → HasCell s words w c
unfolding entity_in
has_here s words w c is = record {
  part = ap (λ (e : EntityState). e.cell) is;
  clock = record { version = ap (λ (e : EntityState). e.version) is; stamp = λ y. ap (λ (e : EntityState). e.stamp y) is };
}

pub has_first : (s : Supply) (words : ℕ → List ℕ) (a b c : Cell) → HasCell s words (state_with s words a b c) a
unfolding state_with
has_first s words a b c =
    has_here s words (state_with s words a b c) a
    (ap (λ t. if t then entity_in s words a else if a.clock.entity == b.clock.entity then entity_in s words b else entity_in s words c) (eq-eqb a.clock.entity a.clock.entity refl))

pub has_second : (s : Supply) (words : ℕ → List ℕ) (a b c : Cell) → b.clock.entity ≢ a.clock.entity → HasCell s words (state_with s words a b c) b
unfolding state_with
has_second s words a b c apart =
    has_here s words (state_with s words a b c) b
    (ap (λ t. if t then entity_in s words a else if b.clock.entity == b.clock.entity then entity_in s words b else entity_in s words c) (ne_eqb b.clock.entity a.clock.entity apart)
    ∙ ap (λ t. if t then entity_in s words b else entity_in s words c) (eq-eqb b.clock.entity b.clock.entity refl))

pub has_third : (s : Supply) (words : ℕ → List ℕ) (a b c : Cell) → c.clock.entity ≢ a.clock.entity → c.clock.entity ≢ b.clock.entity → HasCell s words (state_with s words a b c) c
unfolding state_with
has_third s words a b c first second =
    has_here s words (state_with s words a b c) c
    (ap (λ t. if t then entity_in s words a else if c.clock.entity == b.clock.entity then entity_in s words b else entity_in s words c) (ne_eqb c.clock.entity a.clock.entity first)
    ∙ ap (λ t. if t then entity_in s words b else entity_in s words c) (ne_eqb c.clock.entity b.clock.entity second))

-- THE CELL AFTER IT

-- the state that has the cell has it when it has taken in the step
pub cell_kept : (s : Supply) (words : ℕ → List ℕ) (w : KernelState) (e : Entry) (named : Option ℕ) (c d : Cell) → TakesIn e named c d → HasCell s words w c → HasCell s words w d
cell_kept s words w e named c d h has = record {
  part = ap (λ (k : Clock). (w k.entity).cell) h.clock ∙ has.part ∙ ap (part_of s words) (sym h.part);
  clock = subst (HasClock w) (sym h.clock) has.clock;
}

-- the step leaves the number, the wish and the steps left of the cell
pub record IsLeftAs (old mid : Cell) : Type 0 where
  pub entity : mid.clock.entity ≡ old.clock.entity
  pub wish : mid.wish ≡ old.wish
  pub left : mid.left ≡ old.left

-- such a cell has the wish of the run after it
pub wish_kept : (s : Supply) (words : ℕ → List ℕ) (steps : ℕ) (r : Run) (v : KernelState) (e : Entry) (named : Option ℕ) (me : ℕ) (p : Part) (old c d : Cell) → TakesIn e named c d → IsLeftAs old c
    → (r.state me).cell ≡ part_of s words p → named ≡ asked_by (Replied Ok) (locus_in (part_of s words p)) → HasWish steps r old
    → HasWish steps (after_step r e (locus_in (r.state me).cell) v) d
wish_kept s words steps r v e named me p old c d h same here names has =
    h.wish steps r (locus_in (r.state me).cell) v (names ∙ ap (λ k. asked_by (Replied Ok) (locus_in k)) (sym here)) (record {
      newest = ap r.newest same.entity ∙ has.newest ∙ ap (λ (k : Wish). k.newest) (sym same.wish);
      by_step = ap r.by_step same.entity ∙ has.by_step ∙ ap (λ (k : Wish). k.by_step) (sym same.wish);
      asked = ap r.asked same.entity ∙ has.asked ∙ ap (λ (k : Wish). k.asked) (sym same.wish);
      left = ap (λ x. r.steps x + c.left) same.entity ∙ ap (λ n. r.steps old.clock.entity + n) same.left ∙ has.left;
    })

pub no_supply : Supply
no_supply page at word = 0

pub no_words : ℕ → List ℕ
no_words n = []

-- TWO CELLS

-- the step over both cells gives this entry
abbrev pub StepsTwo : Cell → Cell → Cell → Cell → Entry → Type 0
StepsTwo a b c d e = (s : Supply) (words : ℕ → List ℕ) (w : KernelState) → HasCell s words w a → HasCell s words w b → Steps s a.clock.entity w e (λ v. HasCell s words v c × HasCell s words v d)

-- and names the locus, so that the other cell's isn't the number that steps
pub other_rests : (a b c d : Cell) (e : Entry) → StepsTwo a b c d e → b.clock.entity ≢ a.clock.entity → d.clock.entity ≡ b.clock.entity → d.clock.entity ≡ e.actor → ⊥
other_rests a b c d e steps apart same acts =
    let w = state_with no_supply no_words a b b in
    let r = steps no_supply no_words w (has_first no_supply no_words a b b) (has_second no_supply no_words a b b apart) in
    apart (sym same ∙ acts ∙ stepped_by no_supply a.clock.entity w e r.0 r.1)

-- both cells have taken in the step, after which the blocks may hold other words
pub takes_two : (s : Supply) (words words' : ℕ → List ℕ) (a b c d c' d' : Cell) (e : Entry) (named : Option ℕ)
    → ((w : KernelState) → HasCell s words w a → HasCell s words w b → Steps s a.clock.entity w e (λ v. HasCell s words' v c × HasCell s words' v d))
    → TakesIn e named c c' → TakesIn e named d d' → IsLeftAs a c → IsLeftAs b d
    → named ≡ asked_by (Replied Ok) (locus_in (part_of s words a.part)) → StepsCells s words words' a.clock.entity (a ∷ b ∷ []) (c' ∷ d' ∷ []) e
takes_two s words words' a b c d c' d' e named steps first second as_first as_second names = record {
  step = λ w has. let r = steps w has.0 has.1.0 in (r.0, r.1, (cell_kept s words' r.0 e named c c' first r.2.0, (cell_kept s words' r.0 e named d d' second r.2.1, tt)));
  wishes = λ count r v has wish. (
    wish_kept s words count r v e named a.clock.entity a.part a c c' first as_first has.0.part names wish.0,
    (wish_kept s words count r v e named a.clock.entity a.part b d d' second as_second has.0.part names wish.1.0, tt),
  );
}

-- the same where a step of some words of the container is known
cell_kept_with : (words : ℕ → ℕ) (w : KernelState) (e : Entry) (named : Option ℕ) (c d : Cell) → TakesIn e named c d → HasCellWith words w c → HasCellWith words w d
cell_kept_with words w e named c d h has = record {
  part = ap (λ (k : Clock). (w k.entity).cell) h.clock ∙ has.part ∙ ap (part_with words) (sym h.part);
  clock = subst (HasClock w) (sym h.clock) has.clock;
}

pub takes_somehow : (a b c d c' d' : Cell) (e : Entry) (named : Option ℕ) → StepsSomehow a c b d e → TakesIn e named c c' → TakesIn e named d d' → IsLeftAs a c → IsLeftAs b d
    → ((s : Supply) (words : ℕ → List ℕ) → named ≡ asked_by (Replied Ok) (locus_in (part_of s words a.part))) → AdvancesSomehow a c' b d' e
takes_somehow a b c d c' d' e named steps first second as_first as_second names = record {
  steps = record {
    before = steps.before;
    after = steps.after;
    past = steps.past;
    step = λ own s words w hasa hasb. let r = steps.step own s words w hasa hasb in (r.0, r.1, (cell_kept s words r.0 e named c c' first r.2.0, cell_kept_with (steps.after own) r.0 e named d d' second r.2.1));
  };
  wishes = λ s words count r v hasa wisha wishb. (
    wish_kept s words count r v e named a.clock.entity a.part a c c' first as_first hasa.part (names s words) wisha,
    wish_kept s words count r v e named a.clock.entity a.part b d d' second as_second hasa.part (names s words) wishb,
  );
}

-- THREE CELLS

abbrev pub StepsThree : Cell → Cell → Cell → Cell → Cell → Cell → Entry → Type 0
StepsThree a b k c d m e =
    (s : Supply) (words : ℕ → List ℕ) (w : KernelState) → HasCell s words w a → HasCell s words w b → HasCell s words w k
    → Steps s a.clock.entity w e (λ v. HasCell s words v c × HasCell s words v d × HasCell s words v m)

-- the three numbers differ
pub record AreThree (a b k : Cell) : Type 0 where
  pub second : b.clock.entity ≢ a.clock.entity
  pub third : k.clock.entity ≢ a.clock.entity
  pub apart : k.clock.entity ≢ b.clock.entity

pub acts_first : (a b k c d m : Cell) (e : Entry) → StepsThree a b k c d m e → AreThree a b k → e.actor ≡ a.clock.entity
acts_first a b k c d m e steps three =
    let w = state_with no_supply no_words a b k in
    let r = steps no_supply no_words w (has_first no_supply no_words a b k) (has_second no_supply no_words a b k three.second) (has_third no_supply no_words a b k three.third three.apart) in
    stepped_by no_supply a.clock.entity w e r.0 r.1

pub takes_three : (s : Supply) (words : ℕ → List ℕ) (a b k c d m c' d' m' : Cell) (e : Entry) (named : Option ℕ) → StepsThree a b k c d m e → TakesIn e named c c' → TakesIn e named d d' → TakesIn e named m m'
    → IsLeftAs a c → IsLeftAs b d → IsLeftAs k m → named ≡ asked_by (Replied Ok) (locus_in (part_of s words a.part))
    → StepsCells s words words a.clock.entity (a ∷ b ∷ k ∷ []) (c' ∷ d' ∷ m' ∷ []) e
takes_three s words a b k c d m c' d' m' e named steps first second third as_first as_second as_third names = record {
  step = λ w has. let r = steps s words w has.0 has.1.0 has.1.1.0 in (
    r.0,
    r.1,
    (cell_kept s words r.0 e named c c' first r.2.0, (cell_kept s words r.0 e named d d' second r.2.1, (cell_kept s words r.0 e named m m' third r.2.2, tt))),
  );
  wishes = λ count r v has wish. (
    wish_kept s words count r v e named a.clock.entity a.part a c c' first as_first has.0.part names wish.0,
    (
      wish_kept s words count r v e named a.clock.entity a.part b d d' second as_second has.0.part names wish.1.0,
      (wish_kept s words count r v e named a.clock.entity a.part k m m' third as_third has.0.part names wish.1.1.0, tt),
    ),
  );
}
