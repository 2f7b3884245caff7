-- Drawing a number keeps the rule.
use Rattle.std.proofs.Common.{◌≡◌, ℕ, zero, suc, ◌+◌, ◌<◌, ◌^◌, ◌==◌, Bool, true, false, eq-eqb, ne_eqb, List, [], ◌∷◌, length, set, refl, ap, sym, ◌∙◌, subst, arith}
use Rattle.std.specs.Prelude.{slice_index, MatchBool}
use mathlib.Core.Option.{some, none}
use mathlib.Core.List.{IsPrefix}
use mathlib.Core.Logic.{dite}
use native.Mathlib.Decide.{ℕ_discrete}
use lib.ListN.{get_elem?}
use prog.Atomic.{either}
use Rattle.thread_board.specs.declared.views.View.{View}
use Rattle.thread_board.specs.declared.views.Role.{Role}
use Rattle.thread_board.specs.declared.views.Role.TheVariants.{Note, Commits, Items, Pass}
use Rattle.atomic_table.specs.Table.{State, Me, Act, Valid, stepped, carried_after, step, keeps, Allows}
use Rattle.atomic_table.proofs.Lists.{set_again}
use Rattle.thread_board.specs.Rules.{Story, Knows, Fits, AllFit, AreWriters, IsRole, IsTale, IsTaken, IsBegun, IsNoted, Drawn, commits_drawn, drew, role_of}
use Rattle.thread_board.proofs.Beginnings.{prefix_of_nil}
use Rattle.thread_history.proofs.Lists.{prefix_nil, set_same, at_number, at_number_of}
use Rattle.thread_history.proofs.Fitting.{all_set, set_at, there_set}

module _ {C T : Type 0} (stops : C → Bool) where
  abbrev one_more : Story C T → ℕ → Story C T
  one_more t id = record { commits = t.commits; items = t.items; passes = t.passes + 1; owner = at_number t.owner t.passes id; back = t.back }

  -- the numbers that were drawn have the owners that they had
  owned : (t : Story C T) (id j n : ℕ) → n < t.passes → t.owner n ≡ j → at_number t.owner t.passes id n ≡ j
  owned t id j n lt own = at_number_of (λ o. o ≡ j) t.owner t.passes id n (λ e. absurd (omega (arith, lt, e))) (λ ne. own)

  owned_here : (t : Story C T) (id n : ℕ) → n ≡ t.passes → at_number t.owner t.passes id n ≡ id
  owned_here t id n e = at_number_of (λ o. o ≡ id) t.owner t.passes id n (λ is. refl) (λ ne. absurd (ne e))

  draw_others : (t : Story C T) (id j : ℕ) (u : View C T) (q : Role) → Knows t j u q → Knows (one_more t id) j u q
  draw_others t id j u Note h = h
  draw_others t id j u Commits h = (omega (arith, h.0), owned t id j 0 h.0 h.1, h.2)
  draw_others t id j u Items h = (omega (arith, h.0), owned t id j 1 h.0 h.1, h.2, h.3)
  draw_others t id j u (Pass n) h = (h.0, omega (arith, h.1), owned t id j n h.1 h.2, h.3)

  begun_still : (t : Story C T) (id : ℕ) (v : View C T) → IsBegun t v → IsBegun (one_more t id) v
  begun_still t id v b = record { commits = b.commits; items = b.items; shown_commits = b.shown_commits; shown_items = b.shown_items }

  begun_drawn : (t : Story C T) (n : ℕ) (cs : List C) → IsPrefix cs t.commits → IsPrefix (commits_drawn n cs) t.commits
  begun_drawn t zero cs p = p
  begun_drawn t (suc zero) cs p = p
  begun_drawn t (suc (suc n)) cs p = prefix_nil t.commits

  -- who draws the number n: where it writes a list, that is the first one
  draw_mine : (t : Story C T) (id : ℕ) (v w : View C T) → IsTale stops t → IsBegun t v → v.back ≡ [] → (n : ℕ) → w.commits ≡ commits_drawn n v.commits → w.items ≡ v.items → w.back ≡ v.back → n ≡ t.passes → Knows (one_more t id) id w (role_of n)
  draw_mine t id v w tale begun empty zero commits items back is =
      (omega arith, owned_here t id 0 is, commits ∙ prefix_of_nil v.commits t.commits begun.commits (tale.no_commits (sym is)))
  draw_mine t id v w tale begun empty (suc zero) commits items back is =
      let first = tale.no_items (omega (arith, is)) in
      (omega (arith, is), owned_here t id 1 is, items ∙ prefix_of_nil v.items t.items begun.items first.0, back ∙ empty ∙ sym first.1)
  draw_mine t id v w tale begun empty (suc (suc m)) commits items back is =
      (omega arith, omega (arith, is), owned_here t id (suc (suc m)) is, tale.back_drawn (suc (suc m)) (omega (arith, is)))

  draw_tale : (t : Story C T) (id : ℕ) → t.passes < 2 ^ 62 → IsTale stops t → IsTale stops (one_more t id)
  draw_tale t id few tale = record {
    no_commits = λ e. absurd (omega (arith, e));
    no_items = λ le. tale.no_items (omega (arith, le));
    stops_last = tale.stops_last;
    few_passes = omega (arith, few);
    few_items = tale.few_items;
    back_differ = tale.back_differ;
    back_drawn = λ n le. tale.back_drawn n (omega (arith, le));
  }

  -- the seat that writes a list is there, also where it drew its number just now
  draw_writer : (t : Story C T) (id : ℕ) (views : List (View C T)) (v w : View C T) → get_elem? views id ≡ some v → v.role ≡ Note → (n : ℕ) → w.role ≡ role_of t.passes → (IsTaken (role_of n) → ⊥) → (n < t.passes → IsRole (role_of n) (t.owner n) views)
      → n < t.passes + 1 → IsRole (role_of n) (at_number t.owner t.passes id n) (set views id w)
  draw_writer t id views v w at note n role not was lt =
      at_number_of (λ o. IsRole (role_of n) o (set views id w)) t.owner t.passes id n
      (λ is. (w, set_at views id w v at, role ∙ ap role_of (sym is)))
      (λ ne. there_set (λ (u : View C T). u.role ≡ role_of n) views (t.owner n) id v w at (λ (e : v.role ≡ role_of n). absurd (not (subst IsTaken (sym note ∙ e) tt))) (was (omega (arith, lt, ne))))

  abbrev Is : Me (Unit {0}) (View C T) → Me (Unit {0}) (View C T) → Type 0
  Is x y = x ≡ y

  -- what the exchange may end with, where it found the number or not
  abbrev Ends : State (Unit {0}) (View C T) → ℕ → ℕ → View C T → List (ℕ × Unit {0}) → Bool → Type 0
  Ends s id old v c b = (w : View C T) × (a : Act (Unit {0})) × Valid s.homes c a × IsNoted stops (stepped s 1 (either b (old + 1) (slice_index s.words 1)) id c w a)
      × MatchBool b (Is (w, carried_after c a) (drew (slice_index s.words 1) v, c)) (Is (w, carried_after c a) (v, c))

  draws_hit : (s : State (Unit {0}) (View C T)) (id old : ℕ) (v : View C T) (c : List (ℕ × Unit {0})) → IsNoted stops s → get_elem? s.views id ≡ some v → v.role ≡ Note → old < 2 ^ 62 → slice_index s.words 1 ≡ old → Ends s id old v c true
  draws_hit s id old v c h at note few is =
      let t = h.0 in
      let found : ℕ = slice_index s.words 1 in
      let next : found ≡ t.passes = ap (λ ws. slice_index ws 1) h.1 in
      let n : old ≡ t.passes = sym is ∙ next in
      let now = one_more t id in
      let w = drew found v in
      let fit = h.3 id v at in
      let empty : v.back ≡ [] = subst (Knows t id v) note fit.0 in (
        w,
        keeps,
        tt,
        (
          now,
          ap (λ ws. set ws 1 (old + 1)) h.1 ∙ ap (λ (k : ℕ). length t.commits ∷ (k + 1) ∷ length t.items ∷ []) n,
          draw_tale t id (omega (arith, few, n)) h.2,
          all_set (Fits t) (Fits now) s.views id w h.3
              (λ j u apart f. (draw_others t id j u u.role f.0, begun_still t id u f.1))
              (draw_mine t id v w h.2 fit.1 empty found refl refl refl next, record { commits = begun_drawn t found v.commits fit.1.commits; items = fit.1.items; shown_commits = fit.1.shown_commits; shown_items = fit.1.shown_items }),
          record {
            commits = draw_writer t id s.views v w at note 0 (ap role_of next) (λ k. k) h.4.commits;
            items = draw_writer t id s.views v w at note 1 (ap role_of next) (λ k. k) h.4.items;
          },
        ),
        refl,
      )

  draws_miss : (s : State (Unit {0}) (View C T)) (id old : ℕ) (v : View C T) (c : List (ℕ × Unit {0})) → IsNoted stops s → get_elem? s.views id ≡ some v → Ends s id old v c false
  draws_miss s id old v c h at =
      let same = sym (set_again s.views id v at) in
      (v, keeps, tt, (h.0, set_same s.words 1 ∙ h.1, h.2, subst (λ l. AllFit h.0 l) same h.3, subst (λ l. AreWriters h.0 l) same h.4), refl)

  pub draws : (slots id old : ℕ) (v : View C T) (c : List (ℕ × Unit {0})) → v.role ≡ Note → old < 2 ^ 62 → Allows (IsNoted stops) slots id (v, c) 1 (λ n. either (n == old) (old + 1) n) (Drawn (step slots 1 old (old + 1) none) (v, c))
  draws slots id old v c note few s h homes at fits =
      let found : ℕ = slice_index s.words 1 in
      dite (ℕ_discrete found old)
      (λ e. subst (λ b. Ends s id old v c b) (sym (eq-eqb found old e)) (draws_hit s id old v c h at note few e))
      (λ ne. subst (λ b. Ends s id old v c b) (sym (ne_eqb found old ne)) (draws_miss s id old v c h at))
