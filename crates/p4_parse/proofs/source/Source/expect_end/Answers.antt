use Rattle.std.proofs.Common.{rules, ◌≡◌, true, false, slice_get, refl}
use Rattle.cocoon_num.specs.Tokens.{finish}
use Rattle.p4_texts.specs.Machine.{exactly}
use Rattle.p4_parse.specs.Pieces.{has_end}
use Rattle.p4_parse.proofs.Tokens.{one_read, one_refused}
use Rattle.p4_parse.proofs.PiecePhrases.{end_is, no_end}
use Rattle.p4_parse.proofs.source.Source.expect_end.Goals as goal

pub returns-then-has_end : goal.returns-then-has_end
returns-then-has_end c =
    let ts = c.args.self.now in
    let e : has_end (slice_get ts c.args.pos) ≡ true = search rules in
    one_read (exactly finish) _ ts c.args.pos finish tt (end_is (slice_get ts c.args.pos) e) refl (λ ks. refl)

pub returns-else-has_end : goal.returns-else-has_end
returns-else-has_end c =
    let ts = c.args.self.now in
    let e : has_end (slice_get ts c.args.pos) ≡ false = search rules in
    one_refused (exactly finish) ts c.args.pos c.requires (no_end (slice_get ts c.args.pos) e)
