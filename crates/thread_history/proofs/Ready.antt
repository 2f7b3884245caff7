-- The chronicle is told of an item, share by share.
use Rattle.std.proofs.Common.{◌≡◌, ℕ, Bool, true, false, not, ◌&&◌, cond, List, [], ◌∷◌, ◌++◌, refl, ap, sym, ◌∙◌, subst}
use Rattle.std.proofs.lemmas.List.{append-nil}
use Rattle.thread_history.specs.declared.views.View.{View}
use Rattle.thread_history.specs.Rules.{concerning, is_among}
use Rattle.thread_history.specs.Seats.{IsReady, IsChronicle, next_of}
use Rattle.thread_history.specs.Given.{AreAmong, AreThoseOf, numbers}
use Rattle.thread_history.specs.Sides.{Side}

module _ {A : Type 0} (concerns : A → ℕ → Bool) where
  -- at first each of the given shares has to tell, where it is concerned
  pub ready_among : (e : A) (ss : List (Side A)) (c : View A) → IsChronicle concerns c → AreAmong concerns e ss → IsReady concerns e (numbers ss) c
  ready_among e ss c chronicle among = record { role = chronicle.role; back = chronicle.back; told = λ x. chronicle.told x ∙ sym (ap (λ l. concerning concerns x c.since ++ l) (none x (concerns e x) refl) ∙ append-nil (concerning concerns x c.since)) }
    where
      none : (x : ℕ) (b : Bool) → concerns e x ≡ b → next_of concerns e (numbers ss) x ≡ []
      none x true is = ap (λ b. cond (concerns e x && not b) (e ∷ []) []) (among.1 x is) ∙ ap (λ b. cond (b && false) (e ∷ []) []) is
      none x false is = ap (λ b. cond (b && not (is_among x (numbers ss))) (e ∷ []) []) is

  -- the same where their numbers stand as other sides have them
  pub ready_noted : (e : A) (ss us : List (Side A)) (c : View A) → IsChronicle concerns c → AreAmong concerns e ss → numbers ss ≡ numbers us → IsReady concerns e (numbers us) c
  ready_noted e ss us c chronicle among same = subst (λ ns. IsReady concerns e ns c) same (ready_among e ss c chronicle among)

  -- the shares of all that is touched are enough, where what is concerned is touched
  pub among_those : (touches : A → ℕ → Bool) (law : (e : A) (x : ℕ) → concerns e x ≡ true → touches e x ≡ true) (e : A) (ss : List (Side A)) → AreThoseOf touches e ss → AreAmong concerns e ss
  among_those touches law e ss those = (those.0, λ x is. sym (those.1 x) ∙ law e x is)
