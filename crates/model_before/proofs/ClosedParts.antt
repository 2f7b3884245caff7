-- A closed part contains what is before its entries.
use Rattle.std.proofs.Common.{◌≡◌, ℕ, zero, suc, ◌≤◌, ◌<◌, true, false, ◌&&◌, ◌==◌, nat_le, List, [], ◌∷◌, Option, inl, inr, refl, sym, ap, subst, ◌∙◌, arith, eqb-true}
use Rattle.std.specs.List.{list_any}
use Rattle.std.proofs.lemmas.Bool.{false≢true, le-leb, leb-true}
use Rattle.base_types.specs.declared.histories.Entry.{Entry}
use Rattle.base_types.specs.declared.histories.Touch.{Touch}
use Rattle.model_kernel.specs.State.{Supply, EntityState, KernelState}
use Rattle.model_kernel.specs.Scripts.{Script}
use Rattle.model_kernel.specs.LocalEvents.{IsLocal}
use Rattle.model_kernel.specs.Vectors.{IsStamped}
use Rattle.model_kernel.specs.Parts.{IsClosed, IsNext, IsPlayed, after_entry, all_within, is_event, some_within, within, writes_within}
use Rattle.model_kernel.specs.Histories.{IsLegalRun, Policy, event_of, start_run, touches, writes}
use Rattle.model_kernel.proofs.Basics.{and_left, and_right, both}
use Rattle.model_kernel.proofs.Covering.{Is_next, found, is_next}
use Rattle.model_kernel.proofs.LegalRuns.{event_of_local, event_of_stamped, legal_played}
use Rattle.model_kernel.proofs.Replay.{all_at, any_at, at_entity, no_write_within, weaker}
use Rattle.model_kernel.proofs.StableCuts.{versions_rise}
use Rattle.model_before.specs.Before.{IsAt, IsBefore, IsChain}

-- one entry stands at a place
pub one_at : (es : List Entry) (i : ℕ) (d e : Entry) → IsAt es i d → IsAt es i e → d ≡ e
one_at [] i d e a b = absurd a
one_at (f ∷ fs) zero d e a b = sym a ∙ b
one_at (f ∷ fs) (suc i) d e a b = one_at fs i d e a b

module _ (p : ℕ → ℕ) (act : Entry → KernelState → Option (Entry × KernelState)) (local : (e : Entry) → IsLocal (λ (b : EntityState). b.version) (act e)) (stamped : (e : Entry) → IsStamped (act e)) where
  abbrev pub Closes : Entry → Type 0
  Closes e = some_within p e.touched ≡ true → all_within p e.touched ≡ true

  -- what an entry within the part touches had a version within it
  touched_low : (w : KernelState) (e : Entry) (x : ℕ) → IsNext act w e → Closes e → within p e ≡ true → touches e x ≡ true → (w x).version ≤ p x
  unfolding Is_next
  touched_low w e x next closes inside touched =
      elim (is_next p act local stamped w e next) as (λ _. (w x).version ≤ p x) [
        | inr none ↦ absurd (false≢true (ap (λ ts. list_any (λ (t : Touch). t.entity == x) ts) (sym none.0) ∙ touched))
        | inl r ↦ (
            let same : r.0.0.touched ≡ e.touched = ap (λ (e : Entry). e.touched) r.2 in
            let moved : list_any (λ (t : Touch). t.wrote) e.touched ≡ true = ap (list_any (λ (t : Touch). t.wrote)) (sym same) ∙ (local e).moves w r.0 r.1 in
            let all : all_within p e.touched ≡ true = closes (no_write_within p e.touched moved (and_right (is_event e.event) _ inside)) in
            let f = found (λ (t : Touch). t.entity == x) r.0.0.touched ((stamped e).rising w r.0 r.1) (ap (list_any (λ (t : Touch). t.entity == x)) same ∙ touched) in
            let at : f.0 ≡ x = sym (at_entity r.0.0.touched f.0 f.1 f.2) ∙ eqb-true _ _ f.3 in
            let a = all_at (λ t. nat_le t.version (p t.entity)) r.0.0.touched f.0 f.1 (ap (all_within p) same ∙ all) f.2 in
            let below : f.1.version ≤ p f.0 = subst (λ y. f.1.version ≤ p y) a.1 (leb-true _ _ a.0) in
            let low : (w f.0).version ≤ p f.0 = elim f.1.wrote as (λ b. f.1.wrote ≡ b → (w f.0).version ≤ p f.0) [
              | true ↦ λ wrote. (let q = ((local e).writes w r.0 r.1 f.0 f.1 f.2 wrote).1 in omega (arith, q, below))
              | false ↦ λ read. (let q = ((local e).reads w r.0 r.1 f.0 f.1 f.2 read).1 in omega (arith, q, below))
            ] refl in
            subst (λ y. (w y).version ≤ p y) at low)
      ]

  -- an entry that leaves a version within the part is within it
  written_within : (w : KernelState) (e : Entry) (x : ℕ) → IsNext act w e → Closes e → writes e x ≡ true → (after_entry act w e x).version ≤ p x → within p e ≡ true
  unfolding Is_next
  written_within w e x next closes wrote low =
      elim (is_next p act local stamped w e next) as (λ _. within p e ≡ true) [
        | inr none ↦ absurd (false≢true (ap (λ ts. list_any (λ (t : Touch). t.entity == x && t.wrote) ts) (sym none.0) ∙ wrote))
        | inl r ↦ (
            let same : r.0.0.touched ≡ e.touched = ap (λ (e : Entry). e.touched) r.2 in
            let f = found (λ (t : Touch). t.entity == x && t.wrote) r.0.0.touched ((stamped e).rising w r.0 r.1) (ap (list_any (λ (t : Touch). t.entity == x && t.wrote)) same ∙ wrote) in
            let own : f.1.entity ≡ x = eqb-true _ _ (and_left _ _ f.3) in
            let at : f.0 ≡ x = sym (at_entity r.0.0.touched f.0 f.1 f.2) ∙ own in
            let v : (r.0.1 f.0).version ≡ f.1.version = ((local e).writes w r.0 r.1 f.0 f.1 f.2 (and_right _ _ f.3)).0 in
            let here : (r.0.1 x).version ≤ p x = subst (λ (u : KernelState). (u x).version ≤ p x) r.3 low in
            let there : (r.0.1 f.0).version ≤ p f.1.entity = subst (λ y. (r.0.1 f.0).version ≤ p y) (sym own) (subst (λ y. (r.0.1 y).version ≤ p x) (sym at) here) in
            let below : f.1.version ≤ p f.1.entity = omega (arith, v, there) in
            let some : some_within p e.touched ≡ true = ap (some_within p) (sym same) ∙ any_at (λ t. t.wrote && nat_le t.version (p t.entity)) r.0.0.touched f.0 f.1 f.2 (both _ _ (and_right _ _ f.3) (le-leb _ _ below)) in
            both (is_event e.event) (writes_within p e.touched) (event_if some) (weaker p e.touched (closes some)))
      ]
    where
      untouched : is_event e.event ≡ false → e.touched ≡ []
      untouched is = rw is at next

      event_if : some_within p e.touched ≡ true → is_event e.event ≡ true
      event_if some =
          elim (is_event e.event) as (λ b. is_event e.event ≡ b → b ≡ true) [
            | true ↦ λ _. refl
            | false ↦ λ is. absurd (false≢true (sym (ap (some_within p) (untouched is)) ∙ some))
          ] refl

  -- so what a later entry within it touches
  later_low : (es : List Entry) (w : KernelState) (j x : ℕ) (effect : Entry) → IsPlayed act w es → IsClosed p es → IsAt es j effect → within p effect ≡ true → touches effect x ≡ true → (w x).version ≤ p x
  later_low [] w j x effect played closed at inside touched = absurd at
  later_low (e ∷ es) w zero x effect played closed at inside touched =
      touched_low w e x played.0 closed.0 (ap (within p) at ∙ inside) (ap (λ d. touches d x) at ∙ touched)
  later_low (e ∷ es) w (suc j) x effect played closed at inside touched =
      let rest = later_low es (after_entry act w e) j x effect played.1 closed.1 at inside touched in
      let rise = versions_rise act local stamped w e played.0 x in
      omega (arith, rest, rise)

  direct : (es : List Entry) (w : KernelState) (i j x : ℕ) (cause effect : Entry) → IsPlayed act w es → IsClosed p es → i < j → IsAt es i cause → IsAt es j effect → writes cause x ≡ true → touches effect x ≡ true → within p effect ≡ true → within p cause ≡ true
  direct [] w i j x cause effect played closed less at there wrote touched inside = absurd at
  direct (e ∷ es) w i zero x cause effect played closed less at there wrote touched inside = absurd (omega (arith, less))
  direct (e ∷ es) w zero (suc j) x cause effect played closed less at there wrote touched inside =
      let low = later_low es (after_entry act w e) j x effect played.1 closed.1 there inside touched in
      ap (within p) (sym at) ∙ written_within w e x played.0 closed.0 (ap (λ d. writes d x) at ∙ wrote) low
  direct (e ∷ es) w (suc i) (suc j) x cause effect played closed less at there wrote touched inside =
      direct es (after_entry act w e) i j x cause effect played.1 closed.1 (omega (arith, less)) at there wrote touched inside

  pub chain_within : (es : List Entry) (w : KernelState) (between : List ℕ) (i j : ℕ) (cause effect : Entry) → IsPlayed act w es → IsClosed p es → IsAt es i cause → IsAt es j effect → IsChain es i between j → within p effect ≡ true → within p cause ≡ true
  chain_within es w [] i j cause effect played closed at there k inside =
      ap (within p) (one_at es i cause k.cause at k.at)
      ∙ direct es w i j k.entity k.cause k.effect played closed k.earlier k.at k.there k.wrote k.touched (ap (within p) (one_at es j k.effect effect k.there there) ∙ inside)
  chain_within es w (m ∷ ks) i j cause effect played closed at there k inside =
      let d = k.0 in
      let middle = chain_within es w ks m j d.effect effect played closed d.there there k.1 inside in
      ap (within p) (one_at es i cause d.cause at d.at)
      ∙ direct es w i m d.entity d.cause d.effect played closed d.earlier d.at d.there d.wrote d.touched middle

pub before_within : (s : Supply) (policy : Policy) (script : Script) (w : KernelState) (es : List Entry) (p : ℕ → ℕ) (i j : ℕ) (cause effect : Entry)
    → IsLegalRun s policy w script es → IsClosed p es → IsAt es i cause → IsAt es j effect → IsBefore es i j → within p effect ≡ true → within p cause ≡ true
before_within s policy script w es p i j cause effect legal closed at there before inside =
    chain_within p (event_of s script) (event_of_local s policy script) (event_of_stamped s policy script) es w before.0 i j cause effect
    (legal_played s policy script (start_run w) es legal) closed at there before.1 inside
