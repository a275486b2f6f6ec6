use Rattle.arrival.specs.Post.{as_posted}
use mathlib.Core.Path.{ap, ◌∙◌}
use Rattle.arrival.proofs.EnterLaws.{rest-room, rest-done}
use Rattle.arrival.proofs.arrive.post_rest.Goals as goal

pub tell-requires : goal.tell-requires
tell-requires c =
    rest-room c.requires _ _ (c.rest_of-rests.ensures ∙ ap (as_posted c.args.e c.args.left) c.prices_of.ensures)
    c.tell_rested.ensures

pub returns-clause-told : goal.returns-clause-told
returns-clause-told c =
    rest-done c.requires _ _ (c.rest_of-rests.ensures ∙ ap (as_posted c.args.e c.args.left) c.prices_of.ensures)
    c.tell_rested.ensures c.tell.ensures.put c.posted.ensures
