use Rattle.std.proofs.Common.{rules, ◌≡◌, ◌+◌, ◌&&◌, ◌∷◌, [], true, false, codes, slice_get, refl}
use Rattle.std.proofs.lemmas.Bool.{and_parts}
use Rattle.cocoon_num.specs.Names.{same_name}
use Rattle.p4_texts.specs.Machine as machine
use Rattle.p4_texts.specs.Written as written
use Rattle.p4_parse.specs.Phrases.{is_mark}
use Rattle.p4_parse.specs.Tails.{after_dot, after_name}
use Rattle.p4_parse.proofs.TreeForms as forms
use Rattle.p4_parse.proofs.StmtPhrases as phrases
use Rattle.std.proofs.Common.{arith}
use Rattle.p4_parse.proofs.stmts.simple.Goals as goal

pub returns-then-is_mark : goal.returns-then-is_mark
returns-then-is_mark c =
    let ts = c.args.source.now in
    let p = c.args.pos in
    let x = c.args.name in
    let m : is_mark (codes ".") (slice_get ts p) ≡ true = search rules in
    phrases.tail_moved ts p (p + 1) (machine.after_first x ∷ []) (machine.dotted x ∷ []) (after_name x) (after_dot x) _ (omega arith) (phrases.dot_before ts p x m) (phrases.dot_goes ts p x m) c.after_dot.ensures

pub returns-then-stands_after : goal.returns-then-stands_after
returns-then-stands_after c =
    let ts = c.args.source.now in
    let p = c.args.pos in
    let x = c.args.name in
    let m : (is_mark (codes ";") (slice_get ts p) && same_name (codes "return") x) ≡ true = search rules in
    let b = and_parts (is_mark (codes ";") (slice_get ts p)) (same_name (codes "return") x) m in
    phrases.return_read ts p x written.w_return _ b.0 b.1 forms.return_is (λ ks. refl)

pub returns : goal.returns
returns c =
    let ts = c.args.source.now in
    let p = c.args.pos in
    let x = c.args.name in
    let d : is_mark (codes ".") (slice_get ts p) ≡ false = search rules in
    let a : is_mark (codes "=") (slice_get ts p) ≡ false = search rules in
    let r : (is_mark (codes ";") (slice_get ts p) && same_name (codes "return") x) ≡ false = search rules in
    phrases.first_refused ts p x c.requires.within d a c.requires.no_if r
