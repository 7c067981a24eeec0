use Rattle.std.proofs.Common.{rules, ◌≡◌, true, false, slice_get, refl}
use Rattle.cocoon_num.specs.Tokens.{a_name}
use Rattle.p4_texts.specs.Machine.{the_word}
use Rattle.p4_parse.specs.Phrases.{is_word}
use Rattle.p4_parse.proofs.Tokens.{one_read, one_refused, word_is, word_left, word_takes}
use Rattle.p4_parse.proofs.source.Source.expect_word.Goals as goal

pub returns-then-is_word : goal.returns-then-is_word
returns-then-is_word c =
    let ts = c.args.self.now in
    let m = c.args.word.now in
    let e : is_word m (slice_get ts c.args.pos) ≡ true = search rules in
    one_read (the_word m) _ ts c.args.pos (a_name m) tt (word_is m (slice_get ts c.args.pos) e) (word_takes m) (λ ks. refl)

pub returns-else-is_word : goal.returns-else-is_word
returns-else-is_word c =
    let ts = c.args.self.now in
    let m = c.args.word.now in
    let e : is_word m (slice_get ts c.args.pos) ≡ false = search rules in
    one_refused (the_word m) ts c.args.pos c.requires (word_left m (slice_get ts c.args.pos) e)
