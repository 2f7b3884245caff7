use Rattle.std.proofs.Common.{◌≡◌, [], ◌∷◌, ◌++◌, rules}
use Rattle.edge_disk.proofs.TapeMoments.{readable-kept, shows-kept, sound-kept}
use Rattle.edge_disk.proofs.tape.Tape.begin.Goals as goal
use Rattle.edge_disk.proofs.tape.Tape.begin.Goals.{After-push}

-- the call stands behind the others
pushed : (c : After-push) → c.push.new.self.items ≡ c.args.self.now.calls.items ++ c.args.call ∷ []
pushed c = search rules

pub invariant_of-self-2-clause-shows : goal.invariant_of-self-2-clause-shows
invariant_of-self-2-clause-shows c = shows-kept c.args.self.now c.args.call _ _ (pushed c) c.show.ensures

pub invariant_of-self-2-clause-readable : goal.invariant_of-self-2-clause-readable
invariant_of-self-2-clause-readable c = readable-kept c.args.self.now c.args.call _ _ (pushed c) c.show.ensures c.requires

pub invariant_of-self-2-clause-sound : goal.invariant_of-self-2-clause-sound
invariant_of-self-2-clause-sound c = sound-kept c.args.self.now c.args.call _ (pushed c) c.requires
