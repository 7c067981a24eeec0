use Rattle.std.proofs.Common.{rules, ◌≡◌, Some, None, slice_get, refl}
use Rattle.cocoon_num.specs.Tokens.{plain}
use Rattle.p4_texts.specs.Machine.{any_plain}
use Rattle.p4_parse.specs.Phrases.{plain_in}
use Rattle.p4_parse.proofs.Tokens.{plain_is, plain_left, one_read, one_refused}
use Rattle.p4_parse.proofs.source.Source.number.Goals as goal

pub returns-in-Some : goal.returns-in-Some
returns-in-Some c =
    let ts = c.args.self.now in
    let e : plain_in (slice_get ts c.args.pos) ≡ Some c.in-Some.number = search rules in
    one_read any_plain _ ts c.args.pos (plain c.in-Some.number) c.in-Some.number (plain_is (slice_get ts c.args.pos) c.in-Some.number e) refl (λ ks. refl)

pub returns-in-None : goal.returns-in-None
returns-in-None c =
    let ts = c.args.self.now in
    let e : plain_in (slice_get ts c.args.pos) ≡ None = search rules in
    one_refused any_plain ts c.args.pos c.requires (plain_left (slice_get ts c.args.pos) e)
