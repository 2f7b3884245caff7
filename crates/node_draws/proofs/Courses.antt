-- Rounds in numbers alone.
use Rattle.std.proofs.Common.{◌≡◌, ℕ, zero, suc, ◌+◌, ◌%◌, ◌<◌, ◌≤◌, Bool, true, false, ◌==◌, nat_lt, if◌then◌else◌, List, [], ◌∷◌, ◌++◌, refl, sym, ap, subst, ◌∙◌, arith, inl, inr}
use Rattle.std.specs.Prelude.{replicate}
use Rattle.std.proofs.lemmas.Bool.{cases_lt, eqb-true, eqb-false, lt-ltb, ltb-true}
use Rattle.std.proofs.lemmas.Bool.Decides.{nat_tests}
use Rattle.drawn_words.specs.Words.{Words}
use Rattle.node_world.specs.Rounds.{Draws}
use Rattle.node_draws.specs.Drawing.{drawn, left}
use Rattle.node_draws.specs.Courses.{Course, IsInOrder, IsNoLess, Tally, round_of, rounds_of, tally_behind, with_next}

-- rounds behind rounds
pub rounds_append : (loss : ℕ) (ms ns : List ℕ) (c : Course) → rounds_of loss (ms ++ ns) c ≡ rounds_of loss ns (rounds_of loss ms c)
rounds_append loss [] ns c = refl
rounds_append loss (m ∷ ms) ns c = rounds_append loss ms ns (round_of loss m c)

-- THE NEXT PACKET

-- what is had behind it: no fewer, no more than are offered, and more than are acknowledged
pub record Gains (acked offered kept now : ℕ) : Type 0 where
  pub least : kept ≤ now
  pub most : now ≤ offered
  pub more : acked < now

next_gains : (acked offered kept : ℕ) → acked ≤ kept → kept ≤ offered → acked < offered → Gains acked offered kept (if kept == acked then kept + 1 else kept)
next_gains acked offered kept le few some = go (kept == acked) refl
  where
    go : (t : Bool) → (kept == acked) ≡ t → Gains acked offered kept (if t then kept + 1 else kept)
    go true e = (let same = eqb-true kept acked e in record { least = omega arith; most = omega (arith, same, some); more = omega (arith, le) })
    go false e = record { least = omega arith; most = few; more = by_less (eqb-false kept acked e) }
      where
        by_less : (kept ≡ acked → ⊥) → acked < kept
        by_less other = omega (arith, le, other)

-- A ROUND

module _ (offered : ℕ) (t : Tally) (order : IsInOrder offered t) (some : t.acked < offered) where
  gains : Gains t.acked offered t.kept (with_next t)
  gains = next_gains t.acked offered t.kept order.acked order.kept some

  behind : (d : Draws) → IsInOrder offered (tally_behind d t) × IsNoLess t (tally_behind d t)
  behind d = go d.packet_lost d.count_lost
    where
      now : Bool → ℕ
      now lost = if lost then t.kept else with_next t

      go : (lost told : Bool) → IsInOrder offered (record { acked = if told then t.acked else now lost; kept = now lost }) × IsNoLess t (record { acked = if told then t.acked else now lost; kept = now lost })
      go true true = (order, record { acked = omega arith; kept = omega arith })
      go true false = (record { acked = omega arith; kept = order.kept }, record { acked = order.acked; kept = omega arith })
      go false true = (let g = gains in let more = g.more in (record { acked = omega (arith, more); kept = g.most }, record { acked = omega arith; kept = g.least }))
      go false false = (let g = gains in let more = g.more in (record { acked = omega arith; kept = g.most }, record { acked = omega (arith, more); kept = g.least }))

pub order_round : (loss offered : ℕ) (c : Course) → IsInOrder offered c.tally → IsInOrder offered (round_of loss offered c).tally × IsNoLess c.tally (round_of loss offered c).tally
order_round loss offered c order = go (nat_lt c.tally.acked offered) refl
  where
    now : Bool → Course
    now b = if b then record { tally = tally_behind (drawn loss c.words) c.tally; words = left loss c.words } else c

    go : (b : Bool) → nat_lt c.tally.acked offered ≡ b → IsInOrder offered (now b).tally × IsNoLess c.tally (now b).tally
    go true e = behind offered c.tally order (ltb-true c.tally.acked offered e) (drawn loss c.words)
    go false e = (order, record { acked = omega arith; kept = omega arith })

-- so many rounds, where nothing more is offered
pub order_rounds : (loss offered many : ℕ) (c : Course) → IsInOrder offered c.tally
    → IsInOrder offered (rounds_of loss (replicate many offered) c).tally × IsNoLess c.tally (rounds_of loss (replicate many offered) c).tally
order_rounds loss offered zero c order = (order, record { acked = omega arith; kept = omega arith })
order_rounds loss offered (suc many) c order =
    let one = order_round loss offered c order in
    let all = order_rounds loss offered many (round_of loss offered c) one.0 in
    let acked = one.1.acked in
    let acked' = all.1.acked in
    let kept = one.1.kept in
    let kept' = all.1.kept in
    (all.0, record { acked = omega (arith, acked, acked'); kept = omega (arith, kept, kept') })

-- WHERE NOTHING IS LOST

no_loss : (word : ℕ) → nat_lt (word % 100) 0 ≡ false
no_loss word = grind (arith, nat_tests)

lossless_tally : (ws : Words) (t : Tally) → tally_behind (drawn 0 ws) t ≡ record { acked = with_next t; kept = with_next t }
lossless_tally ws t = go (nat_lt (ws 0 % 100) 0) (no_loss (ws 0)) (nat_lt (ws 2 % 100) 0) (no_loss (ws 2))
  where
    go : (b : Bool) → b ≡ false → (q : Bool) → q ≡ false
        → tally_behind (if b then record { packet_lost = true; comes_twice = false; count_lost = nat_lt (ws 1 % 100) 0 } else record { packet_lost = false; comes_twice = ws 1 % 8 == 0; count_lost = q }) t
        ≡ record { acked = with_next t; kept = with_next t }
    go false e false f = refl
    go true e q f = cc e
    go false e true f = cc f

lossless_round : (offered : ℕ) (c : Course) → IsInOrder offered c.tally → c.tally.acked < offered → c.tally.acked < (round_of 0 offered c).tally.acked
lossless_round offered c order some =
    let now : (round_of 0 offered c).tally ≡ record { acked = with_next c.tally; kept = with_next c.tally } =
    ap (λ (b : Bool). (if b then record { tally = tally_behind (drawn 0 c.words) c.tally; words = left 0 c.words } else c).tally) (lt-ltb c.tally.acked offered some) ∙ lossless_tally c.words c.tally in
    subst (λ (t : Tally). c.tally.acked < t.acked) (sym now) (gains offered c.tally order some).more

-- as many as are lacking
lacking : (offered many : ℕ) (c : Course) → IsInOrder offered c.tally → offered ≤ c.tally.acked + many → offered ≤ (rounds_of 0 (replicate many offered) c).tally.acked
lacking offered zero c order enough = omega (arith, enough)
lacking offered (suc many) c order enough =
    let one = order_round 0 offered c order in
    lacking offered many (round_of 0 offered c) one.0 (elim (cases_lt c.tally.acked offered) as (λ _. offered ≤ (round_of 0 offered c).tally.acked + many) [
      | inl some ↦ (let up = lossless_round offered c order some in omega (arith, enough, up))
      | inr all ↦ (let up = one.1.acked in omega (arith, all, up))
    ])

same_tally : (n : ℕ) (t : Tally) → IsInOrder n t → n ≤ t.acked → t ≡ record { acked = n; kept = n }
same_tally n t order all =
    let low = order.acked in
    let high = order.kept in
    let a : t.acked ≡ n = omega (arith, low, high, all) in
    let k : t.kept ≡ n = omega (arith, low, high, all) in
    λ i. record { acked = a i; kept = k i }

pub lossless : (offered many : ℕ) (c : Course) → IsInOrder offered c.tally → offered ≤ c.tally.acked + many
    → (rounds_of 0 (replicate many offered) c).tally ≡ record { acked = offered; kept = offered }
lossless offered many c order enough = same_tally offered (rounds_of 0 (replicate many offered) c).tally (order_rounds 0 offered many c order).0 (lacking offered many c order enough)

-- WHERE SOME ARE LACKING IN THE END
pub all_made : (loss offered many before : ℕ) (c : Course) → IsInOrder offered c.tally → before < many
    → (rounds_of loss (replicate many offered) c).tally.kept < offered → (rounds_of loss (replicate before offered) c).tally.acked < offered
all_made loss offered many zero c order lt short =
    let low = order.acked in
    let up = (order_rounds loss offered many c order).1.kept in
    omega (arith, low, up, short)
all_made loss offered zero (suc before) c order lt short = absurd (omega (arith, lt))
all_made loss offered (suc many) (suc before) c order lt short = all_made loss offered many before (round_of loss offered c) (order_round loss offered c order).0 (omega (arith, lt)) short
