use Rattle.std.proofs.Common.{◌≡◌, ◌≤◌, ◌<◌, ◌+◌, ◌-◌, ℕ, List, drop, get_or, length, OnOk, sym, ap, subst, ◌∙◌, arith}
use Rattle.base_types.specs.declared.capabilities.Region.{Region}
use Rattle.data_regions.specs.Regions.{AreRegions, IsRegion, add_answer, insert_region}
use Rattle.cell_copies.proofs.Regions.{one_is, one_more}
use Rattle.cell_copies.proofs.heads.copy_regions.Goals as goal

pub add-requires : goal.add-requires
add-requires c =
    let rs : List Region = c.as_slice-items.result.now in
    let d : Region = c.index-items-i.result in
    let all : AreRegions rs = subst AreRegions (sym c.as_slice-items.ensures.all) c.as_slice-items.ensures.regions in
    let few : length rs ≤ 16 = subst (λ (xs : List Region). length xs ≤ 16) (sym c.as_slice-items.ensures.all) c.as_slice-items.ensures.few in
    let lt : c.loop-i.i - 1 < length rs = omega arith in
    (omega arith, subst IsRegion (sym c.index-items-i.is) (one_is rs all few (c.loop-i.i - 1) d lt))

pub loop-i-preserved : goal.loop-i-preserved
loop-i-preserved c =
    let rs : List Region = c.as_slice-items.result.now in
    let d : Region = c.index-items-i.result in
    let k : ℕ = c.loop-i.i - 1 in
    let all : AreRegions rs = subst AreRegions (sym c.as_slice-items.ensures.all) c.as_slice-items.ensures.regions in
    let few : length rs ≤ 16 = subst (λ (xs : List Region). length xs ≤ 16) (sym c.as_slice-items.ensures.all) c.as_slice-items.ensures.few in
    let lt : c.loop-i.i - 1 < length rs = omega arith in
    let next : c.loop-i.i ≡ (c.loop-i.i - 1) + 1 = omega arith in
    let so_far : c.loop-i.copy ≡ drop ((c.loop-i.i - 1) + 1) rs = c.loop-i.invariant ∙ ap (λ n. drop n rs) next in
    let answer : c.add.result ≡ add_answer 16 (get_or rs k d) (drop (k + 1) rs) =
    c.add.ensures.answer ∙ (ap (λ (xs : List Region). add_answer 16 d xs) so_far ∙ ap (λ (r : Region). add_answer 16 r (drop (k + 1) rs)) c.index-items-i.is) in
    let done : OnOk c.add.result (c.add.new.self ≡ insert_region (get_or rs k d) (drop (k + 1) rs)) =
    subst (λ (r : Region). OnOk c.add.result (c.add.new.self ≡ insert_region r (drop (k + 1) rs))) c.index-items-i.is
    (subst (λ (xs : List Region). OnOk c.add.result (c.add.new.self ≡ insert_region d xs)) so_far c.add.ensures.ok) in
    one_more rs all few k d lt c.add.result c.add.new.self answer done
