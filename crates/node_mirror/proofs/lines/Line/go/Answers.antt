use Rattle.std.proofs.Common.{Bool, [], ◌∷◌, if◌then◌else◌, sym, subst}
use Rattle.drawn_words.specs.Words.{words_of}
use Rattle.node_mirror.proofs.lines.Line.go.Goals as goal
use Rattle.node_mirror.specs.Lines.{Runs}
use Rattle.node_rounds.proofs.Going.{goes_nowhere}
use Rattle.node_rounds.proofs.node_standby_lemmas.Standing.{counts_stay}
use Rattle.node_world.specs.Worlds.{offered}

pub returns-then-not-due-clause-goes : goal.returns-then-not-due-clause-goes
returns-then-not-due-clause-goes g c =
    let l = c.args.self.now in
    subst (λ (t : Bool). Runs (if t then offered l.sender ∷ [] else []) l l) (sym c.if-not-due.true) (goes_nowhere l.loss (words_of l.words) l.sender l.standby)

pub returns-then-not-due-clause-counts : goal.returns-then-not-due-clause-counts
returns-then-not-due-clause-counts g c = counts_stay g.E.Disk c.args.self.now.standby
