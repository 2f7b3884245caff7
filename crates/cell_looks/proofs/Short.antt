-- Looks that are short of a block.
use Rattle.std.proofs.Common.{◌≡◌, ◌↔◌, ℕ, ◌/◌, Bool, true, false, Some, refl, sym, ap, subst, ◌∙◌}
use Rattle.std.specs.Prelude.{Result, Ok, Err, IfErr, IsErrOf, IsOk}
use Rattle.std.proofs.lemmas.Option.{same_Some}
use Rattle.std.proofs.lemmas.Bool.{true_from_ne_false}
use Rattle.act_look.specs.edge_disk.declared.disk.NoBlocks.{NoBlocks}
use Rattle.act_look.specs.page_store.declared.faults.PageFault.{PageFault}
use Rattle.act_look.specs.page_store.declared.faults.PageFault.TheVariants as fault
use Rattle.act_look.specs.act_alone.Loci.{locus_of}
use Rattle.act_look.specs.act_alone.declared.loci.Head.{Head}
use Rattle.act_look.specs.act_alone.declared.loci.Locus.{Locus}
use Rattle.act_look.specs.page_memory.declared.paged.PagedMemory.{PagedMemory}
use Rattle.act_look.specs.page_memory.Calls.{IsCausedBy, IsPageShort, MakesRoom}
use Rattle.act_look.proofs.page_memory_lemmas.Wanting.{short_exact, short_turns}
use Rattle.act_look.specs.Looks.{address_of, comes_to_word}
use Rattle.cell_states.specs.declared.cells.Part.{Part}
use Rattle.cell_states.specs.declared.cells.Part.TheVariants as part
use Rattle.cell_states.specs.declared.cells.Storage.{Storage}
use Rattle.cell_looks.specs.Looking.{IsLookShort, TurnsPart}

same_locus : (k l : Locus) → part.Locus (Some k) ≡ part.Locus (Some l) → k ≡ l
same_locus k l e = cc

same_storage : (a b : Storage) → part.Container a ≡ part.Container b → a ≡ b
same_storage a b e = cc

module _ {T : Type 0} (kept : ℕ → Bool) (free before now : ℕ) (was is : Bool) (l : Locus) (h : Head) (b : Storage) (m' : PagedMemory) (r : Result T PageFault) (head : b.head ≡ Some h)
    (goes : comes_to_word h (address_of (locus_of l)) ≡ false → IsOk r) (room : comes_to_word h (address_of (locus_of l)) ≡ true → MakesRoom kept free was b.memory m' (address_of (locus_of l) / 128) r)
    (cause : IfErr r (IsCausedBy free before now was is)) where
  -- want of blocks comes only of a look that comes to a word
  comes : (n : NoBlocks) → IsErrOf r (fault.NoBlocks n) → comes_to_word h (address_of (locus_of l)) ≡ true
  comes n none = true_from_ne_false (comes_to_word h (address_of (locus_of l))) (λ past. let ok = goes past in by_result r ok none)
    where
      by_result : (r : Result T PageFault) → IsOk r → IsErrOf r (fault.NoBlocks n) → ⊥
      by_result (Ok y) ok none = cc
      by_result (Err e) ok none = let clash : false ≡ true = ok in cc clash

  pub look_short : (n : NoBlocks) → IsErrOf r (fault.NoBlocks n) ↔ IsLookShort kept free (part.Locus (Some l)) (part.Container b) n
  look_short n = (
    λ none. record {
      locus = l;
      looks = refl;
      head = h;
      memory = b.memory;
      is = ap (λ o. part.Container (record b { head = o })) head;
      comes = comes n none;
      short = (short_exact kept free before now was is b.memory m' (address_of (locus_of l) / 128) n r (room (comes n none)) cause).0 none;
    },
    λ short.
        let same_l = same_locus l short.locus short.looks in
        let same_b = same_storage b (record { head = Some short.head; memory = short.memory }) short.is in
        let same_h : h ≡ short.head = same_Some h short.head (sym head ∙ ap (λ (x : Storage). x.head) same_b) in
        let same_m : b.memory ≡ short.memory = ap (λ (x : Storage). x.memory) same_b in
        let came : comes_to_word h (address_of (locus_of l)) ≡ true =
        ap (λ k. comes_to_word k (address_of (locus_of l))) same_h ∙ ap (λ k. comes_to_word short.head (address_of (locus_of k))) same_l ∙ short.comes in
        let page : IsPageShort kept free b.memory (address_of (locus_of l) / 128) n =
        subst (λ m. IsPageShort kept free m (address_of (locus_of l) / 128) n) (sym same_m) (subst (λ k. IsPageShort kept free short.memory (address_of (locus_of k) / 128) n) (sym same_l) short.short) in
        (short_exact kept free before now was is b.memory m' (address_of (locus_of l) / 128) n r (room came) cause).1 page,
  )

  pub look_turns : (n : NoBlocks) → IsErrOf r (fault.NoBlocks n) → TurnsPart (part.Container b) (part.Container (record b { memory = m' }))
  look_turns n none = record {
    head = h;
    before = b.memory;
    after = m';
    was = ap (λ o. part.Container (record b { head = o })) head;
    is = ap (λ o. part.Container (record { head = o; memory = m' })) head;
    turns = short_turns kept free before now was is b.memory m' (address_of (locus_of l) / 128) n r (room (comes n none)) cause none;
  }

-- AN ERROR THAT IS HANDED ON says what the call said

module _ {T U : Type 0} (e : PageFault) where
  other_err : (f : PageFault) → IsErrOf {T = T} (Err e) f → IsErrOf {T = U} (Err e) f
  other_err f none = let same : e ≡ f = cc in ap Err same

  pub short_err : {P : NoBlocks → Type 0} → ((n : NoBlocks) → IsErrOf {T = T} (Err e) (fault.NoBlocks n) ↔ P n) → (n : NoBlocks) → IsErrOf {T = U} (Err e) (fault.NoBlocks n) ↔ P n
  short_err says n = (λ none. (says n).0 (back (fault.NoBlocks n) none), λ short. other_err (fault.NoBlocks n) ((says n).1 short))
    where
      back : (f : PageFault) → IsErrOf {T = U} (Err e) f → IsErrOf {T = T} (Err e) f
      back f none = let same : e ≡ f = cc in ap Err same

  pub turned_err : {P : Type 0} → ((n : NoBlocks) → IsErrOf {T = T} (Err e) (fault.NoBlocks n) → P) → (n : NoBlocks) → IsErrOf {T = U} (Err e) (fault.NoBlocks n) → P
  turned_err says n none = says n (let same : e ≡ fault.NoBlocks n = cc in ap Err same)

-- and one that ended well was short of nothing
pub short_ok : {T U : Type 0} (x : T) (y : U) {P : NoBlocks → Type 0} → ((n : NoBlocks) → IsErrOf {T = T} (Ok x) (fault.NoBlocks n) ↔ P n) → (n : NoBlocks) → IsErrOf {T = U} (Ok y) (fault.NoBlocks n) ↔ P n
short_ok x y says n = (λ none. absurd (cc none), λ short. absurd (let none = (says n).1 short in cc none))
