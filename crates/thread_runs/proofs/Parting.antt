-- Looks that a worker makes, one behind the other.
use Rattle.std.proofs.Common.{◌≡◌, ℕ, zero, suc, ◌+◌, ◌-◌, ◌%◌, ◌≤◌, ◌==◌, if◌then◌else◌, Bool, true, false, List, [], ◌∷◌, ◌++◌, Some, length, map, slice_get, refl, sym, ap, subst, ◌∙◌, arith}
use Rattle.std.proofs.lemmas.List.{append-nil, append_assoc, length-map, map-append}
use Rattle.std.proofs.lemmas.Option.{same_Some}
use Rattle.thread_board.specs.Items.{Each}
use Rattle.thread_board.specs.Sides.{PassSeen}
use Rattle.thread_board.specs.declared.views.PassItem.{PassItem}
use Rattle.thread_board.proofs.Within.{each_push}
use Rattle.thread_items.specs.declared.items.Came.{Came}
use Rattle.thread_items.specs.declared.items.Came.TheVariants as came
use Rattle.thread_items.specs.declared.items.LookItem.{LookItem}
use Rattle.thread_runs.specs.Parts.{AreLooks, ArePartsOf, EndsPart, IsLook, IsPart, IsRound, WentOn, loci_among, loci_of, locus_in, round_and_round, went_by, went_in}
use Rattle.thread_runs.specs.declared.workers.Went.{Went}
use Rattle.thread_runs.specs.declared.workers.Went.TheVariants as went

abbrev Items : Type 0
Items = List (PassItem LookItem)

each_both : {A : Type 0} (P : A → Type 0) (xs ys : List A) → Each P xs → Each P ys → Each P (xs ++ ys)
each_both P [] ys of_xs of_ys = of_ys
each_both P (x ∷ xs) ys of_xs of_ys = (of_xs.0, each_both P xs ys of_xs.1 of_ys)

-- an item that was noted is a look
pub look_noted : (locus number : ℕ) (how : Went) (i : LookItem) (old new : Items) → new ≡ old ++ record { pass = number; item = i } ∷ [] → i.locus ≡ locus → how ≡ went_by i.came → IsLook locus how old new
look_noted locus number how i old new same at is = by i.came refl
  where
    x : PassItem LookItem
    x = record { pass = number; item = i }

    went_so : (how' : Went) → (how' ≡ went.Lacked → ⊥) → how ≡ how' → went_in x ≡ how' → IsLook locus how old new
    went_so went.Made not is' in_x = subst (λ (h : Went). IsLook locus h old new) (sym is') (x, same, at, in_x)
    went_so went.Idle not is' in_x = subst (λ (h : Went). IsLook locus h old new) (sym is') (x, same, at, in_x)
    went_so went.Stopped not is' in_x = subst (λ (h : Went). IsLook locus h old new) (sym is') (x, same, at, in_x)
    went_so went.Lacked not is' in_x = absurd (not refl)

    by : (c : Came) → i.came ≡ c → IsLook locus how old new
    by (came.Made e) c = went_so went.Made (λ e. cc e) (is ∙ ap went_by c) (ap went_by c)
    by (came.Idle why) c = went_so went.Idle (λ e. cc e) (is ∙ ap went_by c) (ap went_by c)
    by (came.Stopped why) c = went_so went.Stopped (λ e. cc e) (is ∙ ap went_by c) (ap went_by c)
    by (came.StoppedBehind e why) c = went_so went.Stopped (λ e. cc e) (is ∙ ap went_by c) (ap went_by c)

-- the same look, by equal names
pub look_as : (locus number : ℕ) (how is : Went) (old new : Items) → locus ≡ number → how ≡ is → IsLook locus how old new → IsLook number is old new
look_as locus number how is old new at so look = subst (λ (l : ℕ). IsLook l is old new) at (subst (λ (h : Went). IsLook locus h old new) so look)

-- and looks
pub looks_as : (ls : List ℕ) (made is : Bool) (old : Items) (p q : PassSeen LookItem) → made ≡ is → p ≡ q → AreLooks ls is old q.items → AreLooks ls made old p.items
looks_as ls made is old p q so same looks = subst (λ (m : Bool). AreLooks ls m old p.items) (sym so) (subst (λ (r : PassSeen LookItem). AreLooks ls is old r.items) (sym same) looks)

-- none yet
pub no_looks : (made : Bool) (items : Items) → AreLooks [] made items items
no_looks made items = record { noted = []; same = sym (append-nil items); loci = refl; going = tt; idle = λ none. tt }

pub none_before : (made : Bool) (items : Items) → items ≡ [] → AreLooks [] made [] items
none_before made items none = record { noted = []; same = none; loci = refl; going = tt; idle = λ no. tt }

-- where a step is told of nothing is said of idle loci
pub looks_made : (ls : List ℕ) (made : Bool) (old new : Items) → AreLooks ls made old new → AreLooks ls true old new
looks_made ls made old new looks = record { noted = looks.noted; same = looks.same; loci = looks.loci; going = looks.going; idle = λ no. absurd (cc no) }

one_more : (ls : List ℕ) (locus : ℕ) (was made : Bool) (old mid new : Items) → AreLooks ls was old mid → (x : PassItem LookItem) → new ≡ mid ++ x ∷ [] → x.item.locus ≡ locus
    → (went_in x ≡ went.Stopped → ⊥) → (made ≡ false → (was ≡ false) × (went_in x ≡ went.Idle)) → AreLooks (ls ++ locus ∷ []) made old new
one_more ls locus was made old mid new looks x same at going idle = record {
  noted = looks.noted ++ x ∷ [];
  same = same ∙ ap (λ (is : Items). is ++ x ∷ []) looks.same ∙ append_assoc old looks.noted (x ∷ []);
  loci = map-append locus_in looks.noted (x ∷ []) ∙ ap (λ (ls' : List ℕ). ls' ++ locus_in x ∷ []) looks.loci ∙ ap (λ (l : ℕ). ls ++ l ∷ []) at;
  going = each_push _ looks.noted x looks.going going;
  idle = λ none. (let both = idle none in each_push _ looks.noted x (looks.idle both.0) both.1);
}

-- one look more
pub idle_more : (ls : List ℕ) (locus : ℕ) (made : Bool) (old mid new : Items) → AreLooks ls made old mid → IsLook locus went.Idle mid new → AreLooks (ls ++ locus ∷ []) made old new
idle_more ls locus made old mid new looks look =
    one_more ls locus made made old mid new looks look.0 look.1 look.2 (λ stopped. (let clash : went.Idle ≡ went.Stopped = sym look.3 ∙ stopped in cc clash)) (λ none. (none, look.3))

pub made_more : (ls : List ℕ) (locus : ℕ) (made : Bool) (old mid new : Items) → AreLooks ls made old mid → IsLook locus went.Made mid new → AreLooks (ls ++ locus ∷ []) true old new
made_more ls locus made old mid new looks look =
    one_more ls locus made true old mid new looks look.0 look.1 look.2 (λ stopped. (let clash : went.Made ≡ went.Stopped = sym look.3 ∙ stopped in cc clash)) (λ none. absurd (cc none))

-- a round more
pub round_more : (ls ms : List ℕ) (was made : Bool) (old mid new : Items) → AreLooks ls was old mid → AreLooks ms made mid new → AreLooks (ls ++ ms) true old new
round_more ls ms was made old mid new first next = record {
  noted = first.noted ++ next.noted;
  same = next.same ∙ ap (λ (is : Items). is ++ next.noted) first.same ∙ append_assoc old first.noted next.noted;
  loci = map-append locus_in first.noted next.noted ∙ ap (λ (ls' : List ℕ). ls' ++ map locus_in next.noted) first.loci ∙ ap (λ (ms' : List ℕ). ls ++ ms') next.loci;
  going = each_both _ first.noted next.noted first.going next.going;
  idle = λ no. absurd (cc no);
}

-- THE NEXT LOCUS of a round
module _ (me workers number : ℕ) (low : 41 ≤ number) where
  at_place : 41 + (number - 41) ≡ number
  at_place = omega (arith, low)

  next_place : (number + 1) - 41 ≡ suc (number - 41)
  next_place = omega (arith, low)

  own_more : (number % workers == me) ≡ true → loci_among me workers ((number + 1) - 41) ≡ loci_among me workers (number - 41) ++ number ∷ []
  own_more own =
      ap (loci_among me workers) next_place
      ∙ (ap (λ (k : ℕ). loci_among me workers (number - 41) ++ (if k % workers == me then k ∷ [] else [])) at_place
      ∙ ap (λ (b : Bool). loci_among me workers (number - 41) ++ (if b then number ∷ [] else [])) own)

  other_same : (number % workers == me) ≡ false → loci_among me workers ((number + 1) - 41) ≡ loci_among me workers (number - 41)
  other_same other =
      ap (loci_among me workers) next_place
      ∙ (ap (λ (k : ℕ). loci_among me workers (number - 41) ++ (if k % workers == me then k ∷ [] else [])) at_place
      ∙ (ap (λ (b : Bool). loci_among me workers (number - 41) ++ (if b then number ∷ [] else [])) other ∙ append-nil (loci_among me workers (number - 41))))

  -- one of another worker
  pub turn_other : (has : Bool) → has ≡ (number % workers == me) → has ≡ false → (made : Bool) (old items : Items) → AreLooks (loci_among me workers (number - 41)) made old items
      → AreLooks (loci_among me workers ((number + 1) - 41)) made old items
  turn_other has is not made old items looks = subst (λ (ls : List ℕ). AreLooks ls made old items) (sym (other_same (sym is ∙ not))) looks

  -- one of the worker's own
  module _ (has : Bool) (is : has ≡ (number % workers == me)) (own : has ≡ true) (made : Bool) (old mid new : Items) (looks : AreLooks (loci_among me workers (number - 41)) made old mid) where
    pub turn_idle : IsLook number went.Idle mid new → AreLooks (loci_among me workers ((number + 1) - 41)) made old new
    turn_idle look = subst (λ (ls : List ℕ). AreLooks ls made old new) (sym (own_more (sym is ∙ own))) (idle_more (loci_among me workers (number - 41)) number made old mid new looks look)

    pub turn_made : IsLook number went.Made mid new → AreLooks (loci_among me workers ((number + 1) - 41)) true old new
    turn_made look = subst (λ (ls : List ℕ). AreLooks ls true old new) (sym (own_more (sym is ∙ own))) (made_more (loci_among me workers (number - 41)) number made old mid new looks look)

    pub turn_stopped : IsLook number went.Stopped mid new → IsRound me workers went.Stopped old new
    turn_stopped look = (number - 41, mid, looks_made (loci_among me workers (number - 41)) made old mid looks, subst (λ (k : ℕ). IsLook k went.Stopped mid new) (sym at_place) look)

    pub turn_lacked : IsLook number went.Lacked mid new → IsRound me workers went.Lacked old new
    turn_lacked look = (number - 41, mid, looks_made (loci_among me workers (number - 41)) made old mid looks, look)

-- the end of a round, where a step was made or none
pub round_ends : (me workers number : ℕ) → number ≡ 64 → (made : Bool) (old new : Items) (is : Bool) → made ≡ is → AreLooks (loci_among me workers (number - 41)) made old new
    → IsRound me workers (if is then went.Made else went.Idle) old new
round_ends me workers number end made old new is so looks = by is all
  where
    all : AreLooks (loci_of me workers) is old new
    all = subst (λ (m : Bool). AreLooks (loci_of me workers) m old new) so (subst (λ (k : ℕ). AreLooks (loci_among me workers (k - 41)) made old new) end looks)

    by : (m : Bool) → AreLooks (loci_of me workers) m old new → IsRound me workers (if m then went.Made else went.Idle) old new
    by true looks' = looks'
    by false looks' = looks'

-- A PART of a worker, behind so many rounds
module _ (number workers rounds : ℕ) (before items : Items) (looks : AreLooks (round_and_round rounds (loci_of number workers)) true [] before) where
  pub next_round : IsRound number workers went.Made before items → AreLooks (round_and_round (suc rounds) (loci_of number workers)) true [] items
  next_round last = round_more (round_and_round rounds (loci_of number workers)) (loci_of number workers) true true [] before items looks last

  pub ends_part : (how : Went) (lacked : Bool) → IsRound number workers how before items → EndsPart how lacked → IsPart number workers lacked items
  ends_part how lacked last ends = record { rounds_made = rounds; before = before; rounds = looks; how = how; last = last; ends = ends }

-- THE PARTS of all workers, by what each left
module _ {W : Type 0} (ws : List W) (pass : W → PassSeen LookItem) (lacked : W → Bool) where
  at_each : (vs : List W) (i : ℕ) (p : PassSeen LookItem) → slice_get (map pass vs) i ≡ Some p → Each (λ w. lacked w ≡ false) vs → (w : W) × (slice_get vs i ≡ Some w) × (p ≡ pass w) × (lacked w ≡ false)
  at_each [] i p at fed = absurd (cc at)
  at_each (v ∷ vs) zero p at fed = (v, refl, same_Some p (pass v) (sym at), fed.0)
  at_each (v ∷ vs) (suc i) p at fed = at_each vs i p at fed.1

  pub parts_of : (workers : ℕ) (ps : List (PassSeen LookItem)) → ps ≡ map pass ws → Each (λ w. lacked w ≡ false) ws → length ws ≡ workers
      → ((i : ℕ) (w : W) → slice_get ws i ≡ Some w → IsPart i workers (lacked w) (pass w).items) → ArePartsOf workers ps
  parts_of workers ps is fed many each = record {
    many = ap length is ∙ length-map ws pass ∙ many;
    each = λ i p at.
        let w = at_each ws i p (subst (λ (qs : List (PassSeen LookItem)). slice_get qs i ≡ Some p) is at) fed in
        subst (λ (q : PassSeen LookItem). IsPart i workers false q.items) (sym w.2) (subst (λ (b : Bool). IsPart i workers b (pass w.0).items) w.3 (each i w.0 w.1));
  }

-- A PART, by how its rounds went on to their end
pub part_by : (number workers : ℕ) (how : Went) (lacked : Bool) (items : Items) → WentOn number workers how items → EndsPart how lacked → IsPart number workers lacked items
part_by number workers went.Made lacked items on ends = absurd ends
part_by number workers went.Idle lacked items on ends = record { rounds_made = on.1.0; before = on.0; rounds = on.1.1; how = went.Idle; last = on.2; ends = ends }
part_by number workers went.Stopped lacked items on ends = record { rounds_made = on.1.0; before = on.0; rounds = on.1.1; how = went.Stopped; last = on.2; ends = ends }
part_by number workers went.Lacked lacked items on ends = record { rounds_made = on.1.0; before = on.0; rounds = on.1.1; how = went.Lacked; last = on.2; ends = ends }
