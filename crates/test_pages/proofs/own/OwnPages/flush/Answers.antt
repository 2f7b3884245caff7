use Rattle.std.proofs.Common.{◌∙◌}
use Rattle.edge_managers.specs.Managers.{counted_word}
use Rattle.test_pages.proofs.own.OwnPages.flush.Goals as goal

pub invariant_of-self-2 : goal.invariant_of-self-2
invariant_of-self-2 c =
    let was = c.args.self.now.own in
    let done = c.flush.ensures in
    record {
      own = record {
        tag_is = done.pages.same_tag ∙ was.tag_is;
        size = done.pages.same_pages ∙ was.size;
        table = done.table;
        clean = (done.stands tt counted_word was.clean).clean;
      };
    }

pub returns : goal.returns
returns c = (c.flush.ensures.stands tt counted_word c.args.self.now.own.clean).same
