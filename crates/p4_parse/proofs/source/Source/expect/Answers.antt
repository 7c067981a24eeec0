use Rattle.std.proofs.Common.{rules, ◌≡◌, true, false, slice_get, refl}
use Rattle.cocoon_num.specs.Tokens.{mark}
use Rattle.p4_parse.specs.Kinds.{mark_text}
use Rattle.p4_texts.specs.Machine.{the_mark}
use Rattle.p4_parse.specs.Phrases.{is_mark}
use Rattle.p4_parse.proofs.Tokens.{mark_is, mark_left, mark_takes, one_read, one_refused}
use Rattle.p4_parse.proofs.source.Source.expect.Goals as goal

pub returns-then-is_mark : goal.returns-then-is_mark
returns-then-is_mark c =
    let ts = c.args.self.now in
    let m = mark_text c.args.mark in
    let e : is_mark m (slice_get ts c.args.pos) ≡ true = search rules in
    one_read (the_mark m) _ ts c.args.pos (mark m) tt (mark_is m (slice_get ts c.args.pos) e) (mark_takes m) (λ ks. refl)

pub returns-else-is_mark : goal.returns-else-is_mark
returns-else-is_mark c =
    let ts = c.args.self.now in
    let m = mark_text c.args.mark in
    let e : is_mark m (slice_get ts c.args.pos) ≡ false = search rules in
    one_refused (the_mark m) ts c.args.pos c.requires (mark_left m (slice_get ts c.args.pos) e)
