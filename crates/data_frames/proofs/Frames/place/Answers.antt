use Rattle.std.proofs.Common.{refl, arith}
use Rattle.data_frames.proofs.Kept.{residents, absent_key, bounded, sound_placed, placed}
use Rattle.data_frames.proofs.Frames.place.Goals as goal

pub insert_reserved-key-requires : goal.insert_reserved-key-requires
insert_reserved-key-requires c =
    let room = rw (← c.self.view_is) at c.requires.room in
    omega (arith, residents _ _ _ c.self.invariant)

pub invariant_of-self : goal.invariant_of-self
invariant_of-self c =
    let room = rw (← c.self.view_is) at c.requires.room in
    let absent = absent_key _ _ _ c.self.invariant c.args.page (omega arith) (rw (← c.self.view_is) at c.requires.absent) in
    let done = c.insert_reserved-key.ensures in
    sound_placed _ _ _ c.self.invariant _ c.args.page _ _ (omega arith) absent done.was_vacant refl c.told-words done.updates done.len done.capacity (omega (arith, residents _ _ _ c.self.invariant))

pub returns-clause-bounded : goal.returns-clause-bounded
returns-clause-bounded c = rw (← c.self.view_is) (bounded _ _ _ c.self.invariant c.self.inside.hand)

pub returns-clause-places : goal.returns-clause-places
returns-clause-places c =
    let absent = absent_key _ _ _ c.self.invariant c.args.page (omega arith) (rw (← c.self.view_is) at c.requires.absent) in
    let done = c.insert_reserved-key.ensures in
    rw (← c.self.view_is)
    (placed _ _ _ c.self.invariant _ c.args.page _ _ (omega arith) absent done.was_vacant refl c.told-words done.updates c.self.inside.hand refl refl)
