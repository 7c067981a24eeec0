use Rattle.std.proofs.Common.{◌≡◌, ◌+◌, ap, ◌∙◌}
use Rattle.cocoon_num.specs.PacketForms.{FieldsFit}
use Rattle.cocoon_resolve.specs.Readers.{field_widths, HasRole}
use Rattle.role_meaning.specs.Located.{loc_of, sent_of}
use Rattle.cocoon_syntax.specs.TreeOf.{design_of}
use Rattle.role_meaning.specs.Onward.{chain, if_whole}
use Rattle.role_meaning.proofs.Chains.{ends_so, follows}
use Rattle.role_meaning.proofs.following.follow.Goals as goal

pub returns-clause-follows : goal.returns-clause-follows
returns-clause-follows c = λ block at defined stands.
    let d = design_of c.args.checked.now in
    follows c.runs_are_taken.ensures c.args.above d block defined c.args.from.now c.args.packet.now c.args.choices.now c.end_of.result
    (c.levels_keep_roles.ensures.bounds d c.args.above block c.design.ensures.resolves.rules at) (c.requires.refined block at)
    (c.end_of.ensures.leads d ∙ ap if_whole (c.in_ok-reached.ensures.runs defined stands ∙ ap (λ n. chain c.args.above d defined n (loc_of d c.args.from.now) (sent_of d c.args.packet.now) c.args.choices.now) (c.most_bodies-most.ensures block at))) c.end_of.ensures.new

pub returns-clause-at : goal.returns-clause-at
returns-clause-at c =
    ends_so (λ to packet. HasRole (design_of c.args.checked.now) to.role (c.args.above + 1)) c.end_of.result c.in_ok-reached.reached c.end_of.ensures.same c.in_ok-reached.ensures.at

pub returns-clause-fits : goal.returns-clause-fits
returns-clause-fits c =
    ends_so (λ to packet. FieldsFit (field_widths (design_of c.args.checked.now)) packet.fields) c.end_of.result c.in_ok-reached.reached c.end_of.ensures.same c.in_ok-reached.ensures.fits
