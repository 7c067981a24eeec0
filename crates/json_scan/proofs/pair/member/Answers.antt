use Rattle.std.proofs.Common.{option_map, sym}
use Rattle.json_scan.proofs.Pairs.{member_first, member_second, other_more}
use Rattle.json_scan.proofs.pair.member.Goals as goal

pub returns-then-eq-clause-ok : goal.returns-then-eq-clause-ok
returns-then-eq-clause-ok g c =
    let read = c.in_ok-first.ensures.ok in
    (read.found, read.reads, λ ms h. member_first c.args.first_key.now c.args.second_key.now c.requires.ascending g.A.ScanJson.form g.B.ScanJson.form ms read.found c.args.key.now _ _ _ _ (sym c.if-eq.ensures) read.is h)

pub returns-then-eq-2-clause-ok : goal.returns-then-eq-2-clause-ok
returns-then-eq-2-clause-ok g c =
    let read = c.in_ok-second.ensures.ok in
    (read.found, read.reads, λ ms h. member_second c.args.first_key.now c.args.second_key.now c.requires.ascending g.A.ScanJson.form g.B.ScanJson.form ms read.found c.args.key.now _ _ _ _ (sym c.if-eq-2.ensures) read.is h)

pub returns-clause-ok : goal.returns-clause-ok
returns-clause-ok g c =
    let passed = c.in_ok-pass.ensures.ok in (
      passed.0,
      passed.1,
      λ ms h. other_more c.args.first_key.now c.args.second_key.now c.requires.ascending g.A.ScanJson.form g.B.ScanJson.form ms passed.0 c.args.key.now c.args.pair.now.has_others
          (option_map (option_map g.A.ScanJson.meaning) c.args.pair.now.first) (option_map (option_map g.B.ScanJson.meaning) c.args.pair.now.second) (sym c.if-eq.ensures) (sym c.if-eq-2.ensures),
    )
