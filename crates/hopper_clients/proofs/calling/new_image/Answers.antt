use Rattle.std.proofs.Common.{◌≡◌, [], ◌∷◌, map, rules}
use Rattle.std.specs.Prelude.{codes, string_bytes}
use Rattle.hopper_clients.proofs.Fresh.{fresh_called}
use Rattle.hopper_clients.proofs.calling.new_image.Goals as goal

pub returns : goal.returns
returns c =
    let words : map string_bytes c.deref.result.now ≡ codes "format" ∷ codes "4096" ∷ [] = search rules in
    fresh_called _ _ c.in_ok-new.new c.call.result words c.call.ensures
