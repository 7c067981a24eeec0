use Rattle.std.proofs.Common.{◌≡◌, Some, None, option_map, refl, sym, ap, ◌∙◌, arith}
use Rattle.json.specs.Json.{read_key}
use Rattle.json.proofs.Grammar.{read_key-shorter}
use Rattle.serde_json.specs.Data.{no_members, put}
use Rattle.json_scan.proofs.Parts.{taken_shorter, no_more_members, one_more_member, member_refused, key_refused}
use Rattle.json_scan.proofs.Pairs.{ends, paired}
use Rattle.json_scan.proofs.pair.two_members.Goals as goal

pub members-init : goal.members-init
members-init g c = (no_members, refl, record { under_first = None; under_second = None; are = refl; first_is = refl; second_is = refl })

pub returns-in_err-key-clause-err : goal.returns-in_err-key-clause-err
returns-in_err-key-clause-err g c never = c.members.invariant.1 ∙ key_refused c.args.depth c.members.invariant.0 c.members.reader c.in_err-key.ensures.value

pub members-smaller : goal.members-smaller
members-smaller g c =
    let k = c.in-Some.key.now in
    let s = c.next_key.new.self in
    let named : read_key c.members.reader ≡ Some (Some k, s) = grind arith in
    let done = c.in_ok-member.ensures.ok in
    omega (arith, read_key-shorter c.members.reader (Some k) s named, taken_shorter c.args.depth s c.member.new.reader done.0 done.1)

pub members-preserved : goal.members-preserved
members-preserved g c =
    let l = c.members in
    let k = c.in-Some.key.now in
    let s = c.next_key.new.self in
    let named : read_key l.reader ≡ Some (Some k, s) = grind arith in
    let done = c.in_ok-member.ensures.ok in (
      put k done.0 l.invariant.0,
      l.invariant.1 ∙ one_more_member c.args.depth l.invariant.0 k l.reader s c.member.new.reader done.0 (read_key-shorter l.reader (Some k) s named) named done.1,
      done.2 l.invariant.0 l.invariant.2,
    )

pub returns-in_err-member-clause-err : goal.returns-in_err-member-clause-err
returns-in_err-member-clause-err g c never =
    let l = c.members in
    let k = c.in-Some.key.now in
    let s = c.next_key.new.self in
    let named : read_key l.reader ≡ Some (Some k, s) = grind arith in
    l.invariant.1 ∙ member_refused c.args.depth l.invariant.0 k l.reader s named (c.member.ensures.err (grind arith))

pub returns-clause-ok : goal.returns-clause-ok
returns-clause-ok g c =
    let l = c.members in
    record {
      members = l.invariant.0;
      reads = l.invariant.1 ∙ no_more_members c.args.depth l.invariant.0 l.reader c.next_key.new.self (grind arith);
      is = ends c.args.first_key.now c.args.second_key.now c.requires.ascending g.A.ScanJson.form g.B.ScanJson.form l.invariant.0 l.pair.has_others _ _ l.invariant.2
          ∙ paired g.A.ScanJson.meaning g.B.ScanJson.meaning l.pair.has_others l.pair.first l.pair.second ∙ ap (option_map _) (sym c.values.ensures);
    }
