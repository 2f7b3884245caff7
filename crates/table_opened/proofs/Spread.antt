-- Any words are those that some bytes hold.
use Rattle.std.proofs.Common.{◌≡◌, ℕ, zero, suc, ◌*◌, List, [], ◌∷◌, refl, sym, ap, ◌∙◌, arith}
use Rattle.std.specs.Prelude.{slice_index}
use Rattle.image_chosen.specs.image_facts.Bodies.{number_at}
use Rattle.table_opened.specs.Opened.{HoldWords}

-- a word stands whole in the first of its eight places
pub spread : List ℕ → List ℕ
spread [] = []
spread (w ∷ ws) = w ∷ 0 ∷ 0 ∷ 0 ∷ 0 ∷ 0 ∷ 0 ∷ 0 ∷ spread ws

drop_nil : (n : ℕ) → number_at n 8 [] ≡ 0
drop_nil zero = refl
drop_nil (suc n) = refl

spread_at : (ws : List ℕ) (place : ℕ) → slice_index ws place ≡ number_at (8 * place) 8 (spread ws)
unfolding spread
spread_at [] place = sym (drop_nil (8 * place))
spread_at (w ∷ ws) zero = omega arith
spread_at (w ∷ ws) (suc p) =
    let next : suc (suc (suc (suc (suc (suc (suc (suc (8 * p)))))))) ≡ 8 * suc p = omega arith in
    spread_at ws p ∙ ap (λ (n : ℕ). number_at n 8 (spread (w ∷ ws))) next

pub spread_holds : (words : ℕ → List ℕ) → HoldWords (λ n. spread (words n)) words
spread_holds words n place lt = spread_at (words n) place
