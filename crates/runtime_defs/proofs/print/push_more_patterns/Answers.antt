use Rattle.std.proofs.Common.{◌≡◌, ◌++◌, ◌<◌, refl, rules, length, get_or, arith, sym, append_assoc}
use Rattle.std.specs.Prelude.{codes}
use Rattle.text_lines.specs.Printing.{Prints}
use Rattle.text_lines.proofs.Printing.{followed, walk_end, walk_step}
use Rattle.runtime_defs.specs.EntryTexts.{more_patterns_text, pattern_text}
use Rattle.runtime_defs.specs.EntryPlaces.{key_pattern, key_patterns}
use Rattle.runtime_defs.proofs.Printing.{key_there, keys_long}
use Rattle.runtime_defs.proofs.print.push_more_patterns.Goals as goal

pub loop-at-preserved : goal.loop-at-preserved
loop-at-preserved c =
    let ws = c.args.widths.now in
    let vs = c.args.row.now.values in
    let ms = c.args.row.now.masks in
    let at = c.loop-at.at in
    let many : length vs ≡ length ws = search rules in
    let masks : length ms ≡ length ws = search rules in
    let within : at < length ws = search rules in
    let x = key_pattern (get_or ws at 0) (get_or vs at 0) (get_or ms at 0) in
    let prints : Prints c.push.new.self (pattern_text x) c.push_pattern.new.out = search rules in
    walk_step more_patterns_text (λ p. codes ", " ++ pattern_text p) (λ p ps. sym (append_assoc (codes ", ") (pattern_text p) (more_patterns_text ps)))
    (key_patterns ws vs ms) at x x (omega (arith, keys_long ws vs ms many masks, within)) (sym (key_there ws vs ms at x 0 0 0 many masks within)) c.loop-at.invariant
    (followed c.push.ensures prints)

pub returns : goal.returns
returns c =
    let ws = c.args.widths.now in
    let vs = c.args.row.now.values in
    let ms = c.args.row.now.masks in
    let many : length vs ≡ length ws = search rules in
    let masks : length ms ≡ length ws = search rules in
    walk_end more_patterns_text refl (key_patterns ws vs ms) c.loop-at.at (omega (arith, keys_long ws vs ms many masks, c.loop-at-test.false)) c.loop-at.invariant
