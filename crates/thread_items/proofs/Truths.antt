-- Items that are true.
use Rattle.std.proofs.Common.{◌≡◌, ◌⊎◌, ⊎_elim, inl, inr, ℕ, zero, suc, ◌+◌, ◌≤◌, List, [], ◌∷◌, ◌++◌, length, Option, Some, None, Ok, Err, slice_get, refl, sym, ap, subst, ◌∙◌, arith}
use Rattle.std.specs.Prelude.{IfSome, Result}
use Rattle.std.proofs.lemmas.List.{append-nil, append_assoc, length-append}
use Rattle.std.proofs.lemmas.Option.{same_Some, slice_get_past, slice_get_within}
use Rattle.base_types.specs.declared.histories.Entry.{Entry}
use Rattle.thread_desk_stables.specs.kernel_core_facts.kernel_invariant.Beginnings.{Beginning}
use Rattle.thread_desk_stables.specs.kernel_core_facts.kernel_invariant.declared.stopping.Stopped.{Stopped}
use Rattle.thread_desk_stables.specs.kernel_core_facts.declared.looked.Looked.{Looked}
use Rattle.thread_desk_stables.specs.kernel_core_facts.declared.looked.Looked.TheVariants as looked
use Rattle.thread_board.specs.declared.views.PassItem.{PassItem}
use Rattle.thread_board.specs.Items.{Each, IsWithin}
use Rattle.thread_board.proofs.Within.{each_map, each_push}
use Rattle.thread_desk_stables.specs.thread_looks.Looking.{NotesLook, stop_in}
use Rattle.thread_desk_stables.specs.thread_looks.Looking.NotesLook.{Nothing, StepFirst}
use Rattle.thread_desk_stables.specs.thread_desk_looks.Items.{IsTrueOf}
use Rattle.thread_desk_stables.proofs.thread_desk_looks_lemmas.Items.{at_seam, idle_stays, step_stays}
use Rattle.thread_items.specs.declared.items.Came.{Came}
use Rattle.thread_items.specs.declared.items.Came.TheVariants.{Made, Idle, Stopped as StoppedFor, StoppedBehind}
use Rattle.thread_items.specs.declared.items.LookItem.{LookItem}
use Rattle.thread_items.specs.Items.{AreTrueItems, IsTrueCame, IsTrueItem, item_of}
use Rattle.thread_items.specs.Places.{came_by, steps_in}

abbrev pub err_look : Stopped → Result Looked Stopped
err_look why = Err why

-- what is true of each is true of each that stands among them
each_of : {A : Type 0} (P : A → Type 0) (xs ys : List A) → IsWithin xs ys → Each P ys → Each P xs
each_of P [] ys h a = tt
each_of P (x ∷ xs) [] h a = absurd h
each_of P (x ∷ xs) (y ∷ ys) h a = ⊎_elim (λ (k : (x ≡ y) × IsWithin xs ys). (subst P (sym k.0) a.0, each_of P xs ys k.1 a.1)) (λ k. each_of P (x ∷ xs) ys k a.1) h

-- and of the one at a place
pub each_at : {A : Type 0} (P : A → Type 0) (xs : List A) (i : ℕ) (x : A) → Each P xs → slice_get xs i ≡ Some x → P x
each_at P [] i x all at = absurd (cc at)
each_at P (y ∷ ys) zero x all at = subst P (same_Some y x at) all.0
each_at P (y ∷ ys) (suc i) x all at = each_at P ys i x all.1 at

-- WHAT IS TRUE STAYS SO

came_goes_on : (tells : Type 0) (b : Beginning) (es fs : List Entry) (stop : Option Stopped) (me place : ℕ) (c : Came) → IsTrueCame tells b es stop me place c → IsTrueCame tells b (es ++ fs) stop me place c
came_goes_on tells b es fs stop me place (Made e) h = step_stays me place e.value es fs h
came_goes_on tells b es fs stop me place (Idle why) h = idle_stays tells b me place why es fs h
came_goes_on tells b es fs stop me place (StoppedFor why) h = (let low = h.0 in let len = length-append es fs in omega (arith, low, len), h.1)
came_goes_on tells b es fs stop me place (StoppedBehind e why) h = (step_stays me place e.value es fs h.0, h.1)

came_behind : (tells : Type 0) (b : Beginning) (es : List Entry) (stop : Option Stopped) (me place : ℕ) (c : Came) → IsTrueCame tells b es None me place c → IsTrueCame tells b es stop me place c
came_behind tells b es stop me place (Made e) h = h
came_behind tells b es stop me place (Idle why) h = h
came_behind tells b es stop me place (StoppedFor why) h = absurd (let none = h.1 in cc none)
came_behind tells b es stop me place (StoppedBehind e why) h = absurd (let none = h.1 in cc none)

-- as entries follow
pub item_goes_on : (tells : Type 0) (b : Beginning) (es fs : List Entry) (stop : Option Stopped) (i : LookItem) → IsTrueItem tells b es stop i → IsTrueItem tells b (es ++ fs) stop i
item_goes_on tells b es fs stop i h = came_goes_on tells b es fs stop i.locus i.place i.came h

-- and where a kernel stops that went on
pub item_behind : (tells : Type 0) (b : Beginning) (es : List Entry) (stop : Option Stopped) (i : LookItem) → IsTrueItem tells b es None i → IsTrueItem tells b es stop i
item_behind tells b es stop i h = came_behind tells b es stop i.locus i.place i.came h

-- WHAT A LOOK NOTES goes on from the history
notes_more : (me : ℕ) (xs : List ℕ) (old new : List Entry) → NotesLook me xs old new → (fs : List Entry) × (new ≡ old ++ fs)
notes_more me xs old new (Nothing same) = ([], same ∙ sym (append-nil old))
notes_more me xs old new (StepFirst e event actor among behind) = (e ∷ behind.part, behind.entries ∙ append_assoc old (e ∷ []) behind.part)

-- the items of before are true of the desk behind a look
pub items_behind : (tells : Type 0) (b : Beginning) (me : ℕ) (xs : List ℕ) (old new : List Entry) (was stop : Option Stopped) (is : List (PassItem LookItem)) → NotesLook me xs old new → (was ≡ stop ⊎ was ≡ None)
    → AreTrueItems tells b old was is → AreTrueItems tells b new stop is
items_behind tells b me xs old new was stop is notes stays all =
    let more = notes_more me xs old new notes in
    each_map (λ (x : PassItem LookItem). IsTrueItem tells b old was x.item) (λ (x : PassItem LookItem). IsTrueItem tells b new stop x.item)
    (λ x h. subst (λ es. IsTrueItem tells b es stop x.item) (sym more.1) (item_goes_on tells b old more.0 stop x.item (kept stays x.item h))) is all
  where
    kept : (was ≡ stop) ⊎ (was ≡ None) → (i : LookItem) → IsTrueItem tells b old was i → IsTrueItem tells b old stop i
    kept (inl same) i h = subst (λ o. IsTrueItem tells b old o i) same h
    kept (inr none) i h = item_behind tells b old stop i (subst (λ o. IsTrueItem tells b old o i) none h)

-- THE ITEM OF A LOOK is true
stopped_is : (tells : Type 0) (b : Beginning) (me : ℕ) (xs : List ℕ) (old new : List Entry) (why : Stopped) → NotesLook me xs old new → IsTrueCame tells b new (Some why) me (length old) (came_by (Err why) (slice_get new (length old)))
stopped_is tells b me xs old new why (Nothing same) =
    subst (λ o. IsTrueCame tells b new (Some why) me (length old) (came_by (Err why) o)) (sym (ap (λ es. slice_get es (length old)) same ∙ slice_get_past old (length old) (omega arith)))
    ((let len : length new ≡ length old = ap length same in omega (arith, len)), refl)
stopped_is tells b me xs old new why (StepFirst e event actor among behind) =
    let at : slice_get new (length old) ≡ Some e = ap (λ es. slice_get es (length old)) (behind.entries ∙ append_assoc old (e ∷ []) behind.part) ∙ at_seam old e behind.part in
    subst (λ o. IsTrueCame tells b new (Some why) me (length old) (came_by (Err why) o)) (sym at) (record { at = at; event = event; actor = actor }, refl)

pub item_is : (tells : Type 0) (b : Beginning) (me : ℕ) (xs : List ℕ) (old new : List Entry) (stop : Option Stopped) (r : Result Looked Stopped) → NotesLook me xs old new → IsTrueOf tells b me (length old) new r
    → ((why : Stopped) → r ≡ Err why → stop ≡ Some why) → IsTrueItem tells b new stop (item_of me (length old) r new)
item_is tells b me xs old new stop (Ok (looked.Made m)) notes true_of stops = true_of
item_is tells b me xs old new stop (Ok (looked.Idle why)) notes true_of stops = true_of
item_is tells b me xs old new stop (Err why) notes true_of stops =
    subst (λ o. IsTrueCame tells b new o me (length old) (came_by (Err why) (slice_get new (length old)))) (sym (stops why refl)) (stopped_is tells b me xs old new why notes)

-- EACH ENDS at or before the history's end
came_ends : (tells : Type 0) (b : Beginning) (es : List Entry) (stop : Option Stopped) (me place : ℕ) (c : Came) → IsTrueCame tells b es stop me place c → place + steps_in c ≤ length es
came_ends tells b es stop me place (Made e) h = let within = slice_get_within es place e.value h.at in omega (arith, within)
came_ends tells b es stop me place (Idle why) h = let within = h.0 in omega (arith, within)
came_ends tells b es stop me place (StoppedFor why) h = let within = h.0 in omega (arith, within)
came_ends tells b es stop me place (StoppedBehind e why) h = let within = slice_get_within es place e.value h.0.at in omega (arith, within)

pub items_end : (tells : Type 0) (b : Beginning) (es : List Entry) (stop : Option Stopped) (is : List (PassItem LookItem)) → AreTrueItems tells b es stop is → Each (λ (x : PassItem LookItem). x.item.place + steps_in x.item.came ≤ length es) is
items_end tells b es stop is all =
    each_map (λ (x : PassItem LookItem). IsTrueItem tells b es stop x.item) (λ (x : PassItem LookItem). x.item.place + steps_in x.item.came ≤ length es)
    (λ x h. came_ends tells b es stop x.item.locus x.item.place x.item.came h) is all

-- one item more
pub items_then : (tells : Type 0) (b : Beginning) (es : List Entry) (stop : Option Stopped) (is js : List (PassItem LookItem)) (x : PassItem LookItem) → js ≡ is ++ x ∷ [] → AreTrueItems tells b es stop is → IsTrueItem tells b es stop x.item
    → AreTrueItems tells b es stop js
items_then tells b es stop is js x more all last =
    subst (AreTrueItems tells b es stop) (sym more) (each_push (λ (y : PassItem LookItem). IsTrueItem tells b es stop y.item) is x all last)

-- those of a pass, which stand among all
pub items_within : (tells : Type 0) (b : Beginning) (es : List Entry) (stop : Option Stopped) (xs ys : List (PassItem LookItem)) → IsWithin xs ys → AreTrueItems tells b es stop ys → AreTrueItems tells b es stop xs
items_within tells b es stop xs ys within all = each_of (λ (y : PassItem LookItem). IsTrueItem tells b es stop y.item) xs ys within all

-- ONE LOOK MORE
-- a kernel that had stopped tells why, and stays so
abbrev pub Stood : Option Stopped → Option Stopped → Result Looked Stopped → Type 0
Stood was now came = IfSome was (λ (why : Stopped). (Some came ≡ Some (err_look why)) × (now ≡ was))

stays_or : (was now : Option Stopped) (came : Result Looked Stopped) → Stood was now came → (was ≡ now) ⊎ (was ≡ None)
stays_or None now came h = inr refl
stays_or (Some w) now came h = inl (sym h.1)

stops_so : (was now : Option Stopped) (came : Result Looked Stopped) → Stood was now came → (was ≡ None → now ≡ stop_in (Some came)) → (why : Stopped) → came ≡ err_look why → now ≡ Some why
stops_so None now came h goes why is = goes refl ∙ ap (λ (r : Result Looked Stopped). stop_in (Some r)) is
stops_so (Some w) now came h goes why is = let told = h.0 in let same : w ≡ why = cc (told, is) in h.1 ∙ ap (λ (z : Stopped). Some z) same

-- where its item was noted, each item is true of the desk
pub items_after : (tells : Type 0) (b : Beginning) (me : ℕ) (xs : List ℕ) (old new : List Entry) (was now : Option Stopped) (came : Result Looked Stopped) (is js : List (PassItem LookItem)) (x : PassItem LookItem)
    → NotesLook me xs old new → IsTrueOf tells b me (length old) new came → Stood was now came → (was ≡ None → now ≡ stop_in (Some came))
    → js ≡ is ++ x ∷ [] → x.item ≡ item_of me (length old) came new → AreTrueItems tells b old was is → AreTrueItems tells b new now js
items_after tells b me xs old new was now came is js x notes true_of stood goes more last all =
    items_then tells b new now is js x more (items_behind tells b me xs old new was now is notes (stays_or was now came stood) all)
    (subst (IsTrueItem tells b new now) (sym last) (item_is tells b me xs old new now came notes true_of (stops_so was now came stood goes)))

-- and the next one comes behind all
pub items_later : (tells : Type 0) (b : Beginning) (es : List Entry) (stop : Option Stopped) (is js : List (PassItem LookItem)) (place : ℕ) → AreTrueItems tells b es stop is → js ≡ is → place ≡ length es
    → Each (λ (x : PassItem LookItem). x.item.place + steps_in x.item.came ≤ place) js
items_later tells b es stop is js place all same at =
    subst (λ p. Each (λ (x : PassItem LookItem). x.item.place + steps_in x.item.came ≤ p) js) (sym at)
    (subst (Each (λ (x : PassItem LookItem). x.item.place + steps_in x.item.came ≤ length es)) (sym same) (items_end tells b es stop is all))

-- the item of the same look
pub item_same : (i : LookItem) (me n place p : ℕ) (came : Result Looked Stopped) (es : List Entry) → i ≡ item_of n p came es → n ≡ me → p ≡ place → i ≡ item_of me place came es
item_same i me n place p came es is number at = is ∙ (ap (λ m. item_of m p came es) number ∙ ap (λ q. item_of me q came es) at)

pub if_some : {A : Type 0} (P Q : A → Type 0) → ((a : A) → P a → Q a) → (o : Option A) → IfSome o P → IfSome o Q
if_some P Q f None h = tt
if_some P Q f (Some a) h = f a h
