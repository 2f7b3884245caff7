use Rattle.std.proofs.Common.{◌≡◌, ℕ, List, Vec, Global, length, take, drop, fold, sym, subst, ap, ◌∙◌}
use Rattle.edge_disk.specs.Image.{Image, IsImage}
use Rattle.edge_disk.specs.Kept.{IsTorn, shown, standing}
use Rattle.edge_disk.specs.declared.calls.Call.{Call}
use Rattle.edge_disk.proofs.TornImages.{left-old, left-new, left-filled, sound-since}
use Rattle.edge_disk.proofs.tape.torn_blocks.Goals as goal
use Rattle.edge_disk.proofs.tape.torn_blocks.Goals.{After-show_all, Joined-torn, in-Old, in-New, in-Fill}

-- the blocks as the last sync left them
stable_is : (c : After-show_all) → c.show_all.new.blocks.items ≡ fold shown c.args.first.now (take c.end_of_last_sync.result c.args.calls.now)
stable_is c =
    c.show_all.ensures
    ∙ ap (λ (image : Image). fold shown image c.split_at.result.0.now) c.in_ok-image.ensures.items
    ∙ ap (λ (calls : List Call). fold shown c.args.first.now calls) c.split_at.ensures.front

pub show_all-requires-in-New : goal.show_all-requires-in-New
show_all-requires-in-New c =
    let k = (goal.at.show_all-requires-in-New c).After-show_all in
    sound-since _ _ _ c.end_of_last_sync.ensures c.requires.whole c.requires.sound _ _ (stable_is k) c.split_at.ensures.back

pub fill_all-requires : goal.fill_all-requires
fill_all-requires c =
    let k = (goal.at.fill_all-requires c).After-show_all in
    sound-since _ _ _ c.end_of_last_sync.ensures c.requires.whole c.requires.sound _ _ (stable_is k) c.split_at.ensures.back

left : (c : Joined-torn) → IsTorn c.args.torn (standing c.args.first.now c.args.calls.now) c.match-torn.image.items × IsImage (length c.args.first.now) c.match-torn.image.items
left c =
    let made : c.show_all.new.blocks.items ≡ fold shown c.args.first.now (take c.end_of_last_sync.result c.args.calls.now) = stable_is (goal.at.returns-clause-torn c).After-show_all in
    let since : c.split_at.result.1.now ≡ drop c.end_of_last_sync.result c.args.calls.now = c.split_at.ensures.back in
    let ends = c.end_of_last_sync.ensures in
    let count = length c.show_all.new.blocks.items in
    let whole = c.requires.whole in
    let sound = c.requires.sound in
    elim c.match-torn.branch [
      | in-Old w ↦ left-old _ _ _ ends whole sound _ _ w.in-Old.is (cc (made, w.image-is))
      | in-New w ↦
          let shows = w.show_all-in-New.ensures in
          left-new _ _ _ ends whole sound _ _ w.in-New.is (cc (made, since, shows, w.image-is))
      | in-Fill w ↦
          let fills = w.fill_all.ensures.filled in
          left-filled _ _ _ ends whole sound _ w.in-Fill.byte c.show_all.new.blocks.items _ w.in-Fill.is made (cc (since, fills, w.image-is)) (subst (λ (v : Vec (List ℕ) Global). IsImage count c.show_all.new.blocks.items → IsImage count v.items) (sym w.image-is) w.fill_all.ensures.whole)
    ]

pub returns-clause-torn : goal.returns-clause-torn
returns-clause-torn c = (left c).0

pub returns-clause-whole : goal.returns-clause-whole
returns-clause-whole c = (left c).1
