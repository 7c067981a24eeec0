use Rattle.std.proofs.Common.{rules, ◌≡◌, Some, None, slice_get, refl}
use Rattle.cocoon_num.specs.Tokens.{literal}
use Rattle.p4_texts.specs.Machine.{any_literal}
use Rattle.p4_parse.specs.Phrases.{literal_in, literal_of}
use Rattle.p4_parse.proofs.Tokens.{literal_is, literal_left, one_read, one_refused}
use Rattle.p4_parse.proofs.source.Source.bits.Goals as goal

pub returns-in-Some : goal.returns-in-Some
returns-in-Some c =
    let ts = c.args.self.now in
    let b = c.in-Some.bits in
    let e : literal_in (slice_get ts c.args.pos) ≡ Some (literal_of b) = search rules in
    one_read any_literal _ ts c.args.pos (literal b.width b.value) b (literal_is (slice_get ts c.args.pos) (literal_of b) e) refl (λ ks. refl)

pub returns-in-None : goal.returns-in-None
returns-in-None c =
    let ts = c.args.self.now in
    let e : literal_in (slice_get ts c.args.pos) ≡ None = search rules in
    one_refused any_literal ts c.args.pos c.requires (literal_left (slice_get ts c.args.pos) e)
