use Rattle.std.proofs.Common.{rules, ◌≡◌, Some, None, slice_get, refl}
use Rattle.cocoon_num.specs.Tokens.{a_name}
use Rattle.p4_texts.specs.Machine.{any_name}
use Rattle.p4_parse.specs.Phrases.{name_in}
use Rattle.p4_parse.proofs.Tokens.{name_is, name_left, one_read, one_refused}
use Rattle.p4_parse.proofs.source.Source.name.Goals as goal

pub returns-in_ok-from-in-Some-clause-phrase : goal.returns-in_ok-from-in-Some-clause-phrase
returns-in_ok-from-in-Some-clause-phrase c =
    let ts = c.args.self.now in
    let x = c.in_ok-from-in-Some.field-0 in
    let e : name_in (slice_get ts c.args.pos) ≡ Some x = search rules in
    one_read any_name _ ts c.args.pos (a_name x) x (name_is (slice_get ts c.args.pos) x e) refl (λ ks. refl)

pub returns-in-None-clause-phrase : goal.returns-in-None-clause-phrase
returns-in-None-clause-phrase c =
    let ts = c.args.self.now in
    let e : name_in (slice_get ts c.args.pos) ≡ None = search rules in
    one_refused any_name ts c.args.pos c.requires (name_left (slice_get ts c.args.pos) e)
