-- Each step keeps the rule.
use Rattle.std.proofs.Common.{◌≡◌, ◌≢◌, ℕ, zero, suc, ◌<◌, true, false, true≢false, ne_eqb, List, [], ◌∷◌, ◌++◌, length, set, Option, Some, None, refl, ap, sym, ◌∙◌, subst, ⊎_elim, arith, append_assoc, length-append}
use Rattle.std.specs.Prelude.{slice_get}
use mathlib.Core.Option.{some, some-ne-none, some-injective, none}
use lib.ListN.{get_elem?}
use Rattle.thread_ties.specs.declared.views.Piece.{Piece}
use Rattle.thread_ties.specs.declared.views.View.{View}
use Rattle.atomic_table.specs.Table.{step, keeps, opening, Allows, Splits, Joins}
use Rattle.atomic_table.proofs.Lists.{set_again, set_else}
use Rattle.thread_ties.specs.Rules.{Story, AllOwned, AllHeld, Fits, AllFit, IsLed, IsTied, Told, Begun, numbers, numbered, first_of, rest_of, opening_view, no_view, fragment_view, rest_view, first_view, with_pieces, told_view, begun_view}
use Rattle.thread_ties.specs.Seats.{MayGet, holding}
use Rattle.thread_history.proofs.Fitting.{all_set, all_set_two, at_end, there_set, there_more}
use Rattle.thread_history.proofs.Lists.{at_number, at_number_of}
use Rattle.thread_history.proofs.Numbers.{or_first, or_second, or_none, not_same}
use Rattle.thread_history.specs.Rules.{is_among}
use Rattle.thread_ties.proofs.Lists.{none_here, get_here, get_else}

module _ {V : Type 0} where
  -- FRAGMENTS IN HAND
  -- a number that another seat owns is not among those in hand
  pub apart : (owner : ℕ → ℕ) (seat x : ℕ) (ps : List (Piece V)) → owner x ≢ seat → AllOwned owner seat ps → is_among x (numbers ps) ≡ false
  apart owner seat x [] n h = refl
  apart owner seat x (p ∷ ps) n h = or_none _ _ (ne_eqb p.number x (λ e. n (ap owner (sym e) ∙ h.0))) (apart owner seat x ps n h.1)

  -- the others stay where one changes hands
  owned_still : (owner : ℕ → ℕ) (seat x j : ℕ) (ps : List (Piece V)) → is_among x (numbers ps) ≡ false → AllOwned owner seat ps → AllOwned (at_number owner x j) seat ps
  owned_still owner seat x j [] n h = tt
  owned_still owner seat x j (p ∷ ps) n h = (
    at_number_of (λ o. o ≡ seat) owner x j p.number (λ e. absurd (not_same p.number x (or_first _ _ n) e)) (λ ne. h.0),
    owned_still owner seat x j ps (or_second _ _ n) h.1,
  )

  -- the others keep their values where one changes
  held_still : (vs : List V) (x : ℕ) (a : V) (ps : List (Piece V)) → is_among x (numbers ps) ≡ false → AllHeld vs ps → AllHeld (set vs x a) ps
  held_still vs x a [] n h = tt
  held_still vs x a (p ∷ ps) n h = (get_else vs x p.number a (not_same p.number x (or_first _ _ n)) ∙ h.0, h.1, held_still vs x a ps (or_second _ _ n) h.2)

  -- MAKING
  abbrev first_story : Story V
  first_story = record { lead = 0; values = []; owner = λ x. 0 }

  pub begins : IsTied {V = V} (opening (0 ∷ []) [] opening_view)
  begins = (first_story, one, (opening_view, refl, refl))
    where
      one : (j : ℕ) (v : View V) → get_elem? (opening_view ∷ []) j ≡ some v → Fits first_story j v
      one zero v e = subst (Fits first_story 0) (some-injective _ _ e) ((λ l. (refl, refl)), tt, tt)
      one (suc j) v e = absurd (some-ne-none v (sym e))

  -- GIVING OUT
  abbrev owner_after : List (Piece V) → ℕ → (ℕ → ℕ) → ℕ → ℕ
  owner_after [] next owner = owner
  owner_after (p ∷ ps) next owner = at_number owner p.number next

  abbrev given : Story V → List (Piece V) → ℕ → Story V
  given t ps next = record { lead = t.lead; values = t.values; owner = owner_after ps next t.owner }

  give_others : (t : Story V) (id next j : ℕ) (u : View V) (ps : List (Piece V)) → AllOwned t.owner id ps → j ≢ id → Fits t j u → Fits (given t ps next) j u
  give_others t id next j u [] own n fit = fit
  give_others t id next j u (p ∷ ps) own n fit =
      (fit.0, owned_still t.owner j p.number next u.pieces (apart t.owner j p.number u.pieces (λ e. n (sym e ∙ own.0)) fit.1) fit.1, fit.2)

  give_left : (t : Story V) (id next : ℕ) (ps : List (Piece V)) → AllOwned t.owner id ps → AllHeld t.values ps → AllOwned (owner_after ps next t.owner) id (rest_of ps) × AllHeld t.values (rest_of ps)
  give_left t id next [] own held = (tt, tt)
  give_left t id next (p ∷ ps) own held = (owned_still t.owner id p.number next ps held.1 own.1, held.2)

  give_right : (t : Story V) (next : ℕ) (ps : List (Piece V)) → AllHeld t.values ps → AllOwned (owner_after ps next t.owner) next (first_of ps) × AllHeld t.values (first_of ps)
  give_right t next [] held = (tt, tt)
  give_right t next (p ∷ ps) held = ((at_number_of (λ o. o ≡ next) t.owner p.number next p.number (λ e. refl) (λ ne. absurd (ne refl)), tt), (held.0, refl, tt))

  pub splits : (id : ℕ) (v : View V) → Splits IsTied id v (rest_view v) (first_view v)
  splits id v s h at =
      let t = h.0 in
      let mine = h.1 id v at in
      let lefts = set s.views id (rest_view v) in
      let next = length lefts in
      let now = given t v.pieces next in
      let left = give_left t id next v.pieces mine.1 mine.2 in
      let right = give_right t next v.pieces mine.2 in
      let all : AllFit now lefts = all_set (Fits t) (Fits now) s.views id (rest_view v) h.1 (λ j u n fit. give_others t id next j u v.pieces mine.1 n fit) (mine.0, left.0, left.1) in (
        now,
        λ j u e. ⊎_elim
            (λ was. all j u was)
            (λ (new : (j ≡ next) × (first_view v ≡ u)). subst (λ (y : ℕ × View V). Fits now y.0 y.1) (λ i. (sym new.0 i, new.1 i)) ((λ l. absurd (true≢false (sym l))), right.0, right.1))
            (at_end lefts (first_view v) u j e),
        there_more (λ (u : View V). u.leads ≡ true) lefts t.lead (first_view v) (there_set (λ (u : View V). u.leads ≡ true) s.views t.lead id v (rest_view v) at (λ r. r) h.2),
      )

  -- TAKING IN
  join_piece : (id other : ℕ) (v : View V) (p : Piece V) → Joins IsTied id v other (fragment_view p) (with_pieces v (fragment_view p)) no_view
  join_piece id other v p s h at ne there =
      let t = h.0 in
      let both = with_pieces v (fragment_view p) in
      let was : get_elem? s.views other ≡ some (fragment_view p) = sym (set_else s.views id other both ne) ∙ there in
      let mine = h.1 id v at in
      let theirs = h.1 other (fragment_view p) was in
      let owned : t.owner p.number ≡ other = theirs.1.0 in
      let now : Story V = record { lead = t.lead; values = t.values; owner = at_number t.owner p.number id } in
      let alone = apart t.owner id p.number v.pieces (λ e. ne (sym owned ∙ e)) mine.1 in (
        now,
        all_set_two (Fits t) (Fits now) s.views id other both no_view h.1
            (λ j u n m fit. (fit.0, owned_still t.owner j p.number id u.pieces (apart t.owner j p.number u.pieces (λ e. m (sym e ∙ owned)) fit.1) fit.1, fit.2))
            (mine.0, (at_number_of (λ o. o ≡ id) t.owner p.number id p.number (λ e. refl) (λ no. absurd (no refl)), owned_still t.owner id p.number id v.pieces alone mine.1), (theirs.2.0, alone, mine.2))
            ((λ l. absurd (true≢false (sym l))), tt, tt),
        there_set (λ (u : View V). u.leads ≡ true) (set s.views id both) t.lead other (fragment_view p) no_view there (λ l. l)
            (there_set (λ (u : View V). u.leads ≡ true) s.views t.lead id v both at (λ r. r) h.2),
      )

  pub joins : (id other : ℕ) (v w : View V) (p : Piece V) → w ≡ fragment_view p → Joins IsTied id v other w (with_pieces v w) no_view
  joins id other v w p is = subst (λ (u : View V). Joins IsTied id v other u (with_pieces v u) no_view) (sym is) (join_piece id other v p)

  -- TELLING
  looks : (slots id i : ℕ) (v : View V) (c : List (ℕ × Unit {0})) → v.leads ≡ true → Allows IsTied slots id (v, c) i (λ n. n) (Told None (step slots i 0 0 none) (v, c))
  looks slots id i v c leads s h homes at fits =
      let same = sym (set_again s.views id v at) in
      let mine = h.1 id v at in
      (v, keeps, tt, (h.0, subst (λ l. AllFit h.0 l) same h.1, subst (λ l. IsLed h.0.lead l) same h.2), (refl, subst (λ vs. AllHeld vs v.pieces) (sym (mine.0 leads).1) mine.2))

  tell_one : (slots id i : ℕ) (vs : List V) (p : Piece V) (c : List (ℕ × Unit {0})) (x : V) → Allows IsTied slots id (holding vs p, c) i (λ n. n) (Told (Some x) (step slots i 0 0 none) (holding vs p, c))
  tell_one slots id i vs p c x s h homes at fits =
      let t = h.0 in
      let v = holding vs p in
      let w = told_view (Some x) v in
      let mine = h.1 id v at in
      let led = mine.0 refl in
      let now : Story V = record { lead = t.lead; values = set t.values p.number x; owner = t.owner } in (
        w,
        keeps,
        tt,
        (
          now,
          all_set (Fits t) (Fits now) s.views id w h.1
              (λ j u n fit. ((λ l. absurd (n ((fit.0 l).0 ∙ sym led.0))), fit.1, held_still t.values p.number x u.pieces (apart t.owner j p.number u.pieces (λ e. n (sym e ∙ mine.1.0)) fit.1) fit.2))
              ((λ l. (led.0, ap (λ l. set l p.number x) led.1)), (mine.1.0, tt), (get_here t.values p.number x p.value mine.2.0, refl, tt)),
          there_set (λ (u : View V). u.leads ≡ true) s.views t.lead id v w at (λ r. r) h.2,
        ),
        (refl, subst (λ l. AllHeld l (p ∷ [])) (sym led.1) mine.2),
      )

  pub tells : (slots id i : ℕ) (v : View V) (c : List (ℕ × Unit {0})) (value : Option V) → v.leads ≡ true → MayGet value v → Allows IsTied slots id (v, c) i (λ n. n) (Told value (step slots i 0 0 none) (v, c))
  tells slots id i v c None leads may = looks slots id i v c leads
  tells slots id i v c (Some x) leads may = subst (λ (u : View V). Allows IsTied slots id (u, c) i (λ n. n) (Told (Some x) (step slots i 0 0 none) (u, c))) (sym may.2) (tell_one slots id i may.0 may.1 c x)

  -- BEGINNING
  numbers_above : (n x : ℕ) (vs : List V) → x < n → is_among x (numbers (numbered n vs)) ≡ false
  numbers_above n x [] lt = refl
  numbers_above n x (v ∷ vs) lt = or_none _ _ (ne_eqb n x (λ e. omega (arith, lt, e))) (numbers_above (suc n) x vs (omega (arith, lt)))

  get_after : (us : List V) (v : V) (vs : List V) → slice_get (us ++ v ∷ vs) (length us) ≡ Some v
  get_after [] v vs = refl
  get_after (u ∷ us) v vs = get_after us v vs

  all_numbered : (us vs : List V) (n : ℕ) → n ≡ length us → AllHeld (us ++ vs) (numbered n vs)
  all_numbered us [] n is = tt
  all_numbered us (v ∷ vs) n is = (
    ap (slice_get (us ++ v ∷ vs)) is ∙ get_after us v vs,
    numbers_above (suc n) n vs (omega arith),
    subst (λ l. AllHeld l (numbered (suc n) vs)) (append_assoc us (v ∷ []) vs) (all_numbered (us ++ v ∷ []) vs (suc n) (omega (arith, is, length-append us (v ∷ [])))),
  )

  all_mine : (id : ℕ) (ps : List (Piece V)) → AllOwned (λ x. id) id ps
  all_mine id [] = tt
  all_mine id (p ∷ ps) = (refl, all_mine id ps)

  -- where there are no values nobody has a fragment
  nothing_held : (owner : ℕ → ℕ) (j : ℕ) (vs : List V) (ps : List (Piece V)) → vs ≡ [] → AllHeld vs ps → ps ≡ []
  nothing_held owner j vs [] is held = refl
  nothing_held owner j vs (p ∷ ps) is held = absurd (none_here p.value (ap (λ l. slice_get l p.number) (sym is) ∙ held.0))

  start : (slots id i : ℕ) (c : List (ℕ × Unit {0})) (vs : List V) → Allows IsTied slots id (opening_view, c) i (λ n. n) (Begun vs (step slots i 0 0 none) (opening_view, c))
  start slots id i c vs s h homes at fits =
      let t = h.0 in
      let w = begun_view vs in
      let mine = h.1 id opening_view at in
      let led = mine.0 refl in
      let now : Story V = record { lead = t.lead; values = vs; owner = λ x. id } in (
        w,
        keeps,
        tt,
        (
          now,
          all_set (Fits t) (Fits now) s.views id w h.1
              (λ j u n fit. let none_left = sym (nothing_held t.owner j t.values u.pieces (sym led.1) fit.2) in ((λ l. absurd (n ((fit.0 l).0 ∙ sym led.0))), subst (AllOwned (λ x. id) j) none_left tt, subst (AllHeld vs) none_left tt))
              ((λ l. (led.0, refl)), all_mine id (numbered 0 vs), all_numbered [] vs 0 refl),
          there_set (λ (u : View V). u.leads ≡ true) s.views t.lead id opening_view w at (λ r. r) h.2,
        ),
        refl,
      )

  pub starts : (slots id i : ℕ) (v : View V) (c : List (ℕ × Unit {0})) (vs : List V) → v ≡ opening_view → Allows IsTied slots id (v, c) i (λ n. n) (Begun vs (step slots i 0 0 none) (v, c))
  starts slots id i v c vs is = subst (λ (u : View V). Allows IsTied slots id (u, c) i (λ n. n) (Begun vs (step slots i 0 0 none) (u, c))) (sym is) (start slots id i c vs)
