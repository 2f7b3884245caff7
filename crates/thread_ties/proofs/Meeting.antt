-- What the authority and a fragment know after the fragment was taken in, looked at and given back.
use Rattle.std.proofs.Common.{◌≡◌, ◌<◌, length, true, List, [], ◌++◌, Option, Some, None, refl, ap, sym, ◌∙◌, subst}
use Rattle.std.specs.Prelude.{slice_get}
use Rattle.std.proofs.lemmas.Option.{slice_get_within}
use Rattle.thread_ties.specs.declared.views.Piece.{Piece}
use Rattle.thread_ties.specs.declared.views.View.{View}
use Rattle.thread_ties.specs.Rules.{AllHeld, changed, shown_of, with_shown, fragment_view, rest_view, first_view, with_pieces, told_view}
use Rattle.thread_ties.specs.Seats.{IsAuthority, IsFragment, MayGet, holding}

module _ {V : Type 0} where
  abbrev authority_view : List V → View V
  authority_view vs = record { leads = true; values = vs; pieces = [] }

  -- the piece that a fragment gives out
  pub piece_of : (f g : View V) → IsFragment f → g ≡ first_view f → IsFragment g
  piece_of f g is e = (is.0, e ∙ ap first_view is.1)

  pub taken : (a f g b : View V) → IsAuthority a → (is : IsFragment f) → g ≡ first_view f → b ≡ with_pieces a g → b ≡ holding a.values is.0
  taken a f g b leads is e h =
      h ∙ (λ i. record { leads = leads.leads i; values = a.values; pieces = ((e ∙ ap first_view is.1) i).pieces ++ leads.pieces i })

  pub may : (value : Option V) (a f g b : View V) → IsAuthority a → IsFragment f → g ≡ first_view f → b ≡ with_pieces a g → MayGet value b
  may None a f g b leads is e h = tt
  may (Some x) a f g b leads is e h = (a.values, is.0, taken a f g b leads is e h)

  abbrev pub Agreed : Option V → View V → View V → View V → View V → Type 0
  Agreed value a f c k = IsAuthority c × (c.values ≡ changed value (shown_of f.pieces).number a.values) × IsFragment k × (shown_of k.pieces ≡ with_shown value (shown_of f.pieces))

  after : (value : Option V) (vs : List V) (p : Piece V) → Agreed value (authority_view vs) (fragment_view p) (rest_view (told_view value (holding vs p))) (first_view (told_view value (holding vs p)))
  after None vs p = (record { leads = refl; pieces = refl }, refl, (p, refl), refl)
  after (Some x) vs p = (record { leads = refl; pieces = refl }, refl, (record { number = p.number; value = x }, refl), refl)

  -- the authority a, the fragment f, the piece g, the authority with it, b, and told, d, and both afterwards, c and k
  pub agreed : (value : Option V) (a f g b d c k : View V) → IsAuthority a → IsFragment f → g ≡ first_view f → b ≡ with_pieces a g → d ≡ told_view value b → c ≡ rest_view d → k ≡ first_view d → Agreed value a f c k
  agreed value a f g b d c k leads is e h t r q =
      let same : authority_view a.values ≡ a = λ i. record { leads = sym leads.leads i; values = a.values; pieces = sym leads.pieces i } in
      let told : d ≡ told_view value (holding a.values is.0) = t ∙ ap (told_view value) (taken a f g b leads is e h) in
      let left = sym (r ∙ ap rest_view told) in
      let given = sym (q ∙ ap first_view told) in
      subst (λ (y : View V × View V × View V × View V). Agreed value y.0 y.1 y.2 y.3) (λ i. (same i, sym is.1 i, left i, given i)) (after value a.values is.0)

  pub same_value : (a f g b : View V) → IsAuthority a → IsFragment f → g ≡ first_view f → b ≡ with_pieces a g → AllHeld b.values b.pieces → slice_get a.values (shown_of f.pieces).number ≡ (shown_of f.pieces).value
  same_value a f g b leads is e h held =
      let one = subst (λ (v : View V). AllHeld v.values v.pieces) (taken a f g b leads is e h) held in
      subst (λ (v : View V). slice_get a.values (shown_of v.pieces).number ≡ (shown_of v.pieces).value) (sym is.1) one.0

  pub within : (a f g b : View V) → IsAuthority a → IsFragment f → g ≡ first_view f → b ≡ with_pieces a g → AllHeld b.values b.pieces → (shown_of f.pieces).number < length a.values
  within a f g b leads is e h held =
      let one = subst (λ (v : View V). AllHeld v.values v.pieces) (taken a f g b leads is e h) held in
      subst (λ (v : View V). (shown_of v.pieces).number < length a.values) (sym is.1) (slice_get_within a.values is.0.number is.0.value one.0)
