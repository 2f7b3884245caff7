use Rattle.std.proofs.Common.{refl, sym, subst}
use Rattle.std.proofs.lemmas.Result.{err_from_is_err_and}
use Rattle.page_memory.proofs.Bringing.{room_err, room_ok}
use Rattle.page_memory.proofs.Wanting.{pages_err, pages_ok}
use Rattle.base_types.specs.declared.histories.Answer.TheVariants.{Read}
use Rattle.act_invoke.specs.act_alone.Loci.{locus_of}
use Rattle.act_look.specs.Looks.{ReachesSomehow}
use Rattle.act_look.proofs.Somehow.{load_reaches, store_reaches}
use Rattle.act_look.proofs.word.at_word.Goals as goal

pub returns-in_err-word-in-Load-clause-room : goal.returns-in_err-word-in-Load-clause-room
returns-in_err-word-in-Load-clause-room g c =
    let p = err_from_is_err_and c.from_residual.result c.from_residual.ensures.1 in
    let room = c.in_err-word-in-Load.ensures.room in
    rw (p.1, p.2) (room_err _ _ _ c.args.memory.now c.load.new.self _ _ room.had room.stay room.chooses room.no_blocks room.shut)

pub returns-in_err-store-in-Store-clause-room : goal.returns-in_err-store-in-Store-clause-room
returns-in_err-store-in-Store-clause-room g c =
    let p = err_from_is_err_and c.from_residual-in_err-store-in-Store.result c.from_residual-in_err-store-in-Store.ensures.1 in
    let room = c.in_err-store-in-Store.ensures.room in
    rw (p.1, p.2) (room_err _ _ _ c.args.memory.now c.store.new.self _ _ room.had room.stay room.chooses room.no_blocks room.shut)

pub returns-in_err-word-in-Load-clause-pages : goal.returns-in_err-word-in-Load-clause-pages
returns-in_err-word-in-Load-clause-pages g c =
    let p = err_from_is_err_and c.from_residual.result c.from_residual.ensures.1 in
    rw (p.1, p.2) (pages_err g.B.PageStore c.args.store.now c.load.new.store _ c.in_err-word-in-Load.ensures.calls)

pub returns-in_err-store-in-Store-clause-pages : goal.returns-in_err-store-in-Store-clause-pages
returns-in_err-store-in-Store-clause-pages g c =
    let p = err_from_is_err_and c.from_residual-in_err-store-in-Store.result c.from_residual-in_err-store-in-Store.ensures.1 in
    rw (p.1, p.2) (pages_err g.B.PageStore c.args.store.now c.store.new.store _ c.in_err-store-in-Store.ensures.calls)

pub returns-in_ok-word-in-Load-clause-pages : goal.returns-in_ok-word-in-Load-clause-pages
returns-in_ok-word-in-Load-clause-pages g c = pages_ok g.B.PageStore c.args.store.now c.load.new.store _ _ c.in_ok-word-in-Load.ensures.calls

pub returns-in_ok-store-in-Store-clause-pages : goal.returns-in_ok-store-in-Store-clause-pages
returns-in_ok-store-in-Store-clause-pages g c = pages_ok g.B.PageStore c.args.store.now c.store.new.store _ _ c.in_ok-store-in-Store.ensures.calls

pub returns-in_ok-word-in-Load-clause-room : goal.returns-in_ok-word-in-Load-clause-room
returns-in_ok-word-in-Load-clause-room g c =
    let room = c.in_ok-word-in-Load.ensures.room in
    room_ok _ _ _ c.args.memory.now c.load.new.self c.load.new.self (λ p. refl) _ _ _ room.stay room.chooses room.shut

pub returns-in_ok-store-in-Store-clause-room : goal.returns-in_ok-store-in-Store-clause-room
returns-in_ok-store-in-Store-clause-room g c =
    let room = c.in_ok-store-in-Store.ensures.room in
    room_ok _ _ _ c.args.memory.now c.store.new.self c.store.new.self (λ p. refl) _ _ _ room.stay room.chooses room.shut

pub returns-in_ok-word-in-Load-clause-somehow : goal.returns-in_ok-word-in-Load-clause-somehow
returns-in_ok-word-in-Load-clause-somehow g c =
    let l = locus_of c.args.locus.now in
    let m = locus_of c.finish.new.self in
    let address = c.args.aim.address in
    let word = c.in_ok-word-in-Load.word in
    subst (λ access. ReachesSomehow l m address access (Read word)) (sym c.in-Load.is) (load_reaches l m address c.in-Load.d word (Read word) c.finish.ensures.locus refl)

pub returns-in_ok-store-in-Store-clause-somehow : goal.returns-in_ok-store-in-Store-clause-somehow
returns-in_ok-store-in-Store-clause-somehow g c =
    let l = locus_of c.args.locus.now in
    let m = locus_of c.finish-in-Store.new.self in
    let address = c.args.aim.address in
    let answer = c.finish-in-Store.result in
    subst (λ access. ReachesSomehow l m address access answer) (sym c.in-Store.is) (store_reaches l m address c.in-Store.word answer c.finish-in-Store.ensures.locus c.finish-in-Store.ensures.answer)
