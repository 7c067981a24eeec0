use Rattle.std.proofs.Common.{◌≡◌, length, Some, None, refl, ap, ◌∙◌, arith}
use Rattle.std.proofs.lemmas.Result.{on_ok_weaker}
use Rattle.json.specs.Json.{parse_map, after_end_array, read_key}
use Rattle.json.proofs.Grammar.{read_key-shorter}
use Rattle.serde_json.specs.Data.{no_items, item, no_members, put}
use Rattle.json_scan.proofs.Parts.{twice, itself, taken_shorter, no_more_items, one_more_item, item_refused, no_more_members, one_more_member, member_refused, key_refused, passes_array, passes_object, array_refused, object_refused}
use Rattle.json_scan.proofs.pass.+pass.Goals as goal

pub pass-returns-in-Array-clause-ok : goal.pass-returns-in-Array-clause-ok
pass-returns-in-Array-clause-ok t c =
    on_ok_weaker c.pass_items.result
    (passes_array c.args.depth c.in-Array.within c.args.reader.now c.begin.new.reader c.in_ok-within.field-0 c.in_ok-within.ensures.ok c.pass_items.new.reader c.in-Array.is) c.pass_items.ensures.ok

pub pass-returns-in-Array-clause-err : goal.pass-returns-in-Array-clause-err
pass-returns-in-Array-clause-err t c e =
    array_refused c.args.depth c.in-Array.within c.args.reader.now c.begin.new.reader c.in_ok-within.field-0 c.in_ok-within.ensures.ok c.in-Array.is (c.pass_items.ensures.err e)

pub pass-returns-in-Object-clause-ok : goal.pass-returns-in-Object-clause-ok
pass-returns-in-Object-clause-ok t c =
    on_ok_weaker c.pass_members.result
    (passes_object c.args.depth c.in-Object.within c.args.reader.now c.begin.new.reader c.in_ok-within.field-0 c.in_ok-within.ensures.ok c.pass_members.new.reader c.in-Object.is) c.pass_members.ensures.ok

pub pass-returns-in-Object-clause-err : goal.pass-returns-in-Object-clause-err
pass-returns-in-Object-clause-err t c e =
    object_refused c.args.depth c.in-Object.within c.args.reader.now c.begin.new.reader c.in_ok-within.field-0 c.in_ok-within.ensures.ok c.in-Object.is (c.pass_members.ensures.err e)

pub pass_items-items-init : goal.pass_items-items-init
pass_items-items-init t c = (λ ds. ds, itself _)

pub pass_items-items-smaller : goal.pass_items-items-smaller
pass_items-items-smaller t c =
    let going : (after_end_array c.items.reader ≡ None) × (c.take_end_array.new.self ≡ c.items.reader) = grind arith in
    let done = c.in_ok-pass.ensures.ok in
    let less = taken_shorter c.args.depth c.take_end_array.new.self c.pass.new.reader done.0 done.1 in
    omega (arith, less, ap length going.1)

pub pass_items-items-preserved : goal.pass_items-items-preserved
pass_items-items-preserved t c =
    let l = c.items in
    let going : (after_end_array l.reader ≡ None) × (c.take_end_array.new.self ≡ l.reader) = grind arith in
    let done = c.in_ok-pass.ensures.ok in
    let before = l.invariant.0 in
    let turn = one_more_item c.args.depth l.reader c.pass.new.reader done.0 going.0 (rw (← going.1) done.1) in
    (λ rest. before (item done.0 rest), l.invariant.1 ∙ ap (parse_map before) turn ∙ twice before (item done.0) _)

pub pass_items-returns-in_err-pass-clause-err : goal.pass_items-returns-in_err-pass-clause-err
pass_items-returns-in_err-pass-clause-err t c never =
    let l = c.items in
    let going : (after_end_array l.reader ≡ None) × (c.take_end_array.new.self ≡ l.reader) = grind arith in
    l.invariant.1 ∙ ap (parse_map l.invariant.0) (item_refused c.args.depth l.reader going.0 (rw (← going.1) (c.pass.ensures.err (grind arith))))

pub pass_items-returns-clause-ok : goal.pass_items-returns-clause-ok
pass_items-returns-clause-ok t c =
    let l = c.items in
    (l.invariant.0 no_items, l.invariant.1 ∙ ap (parse_map l.invariant.0) (no_more_items c.args.depth l.reader c.take_end_array.new.self (grind arith)))

pub pass_members-members-init : goal.pass_members-members-init
pass_members-members-init t c = (no_members, refl)

pub pass_members-returns-in_err-next_key-clause-err : goal.pass_members-returns-in_err-next_key-clause-err
pass_members-returns-in_err-next_key-clause-err t c never = c.members.invariant.1 ∙ key_refused c.args.depth c.members.invariant.0 c.members.reader c.in_err-next_key.ensures.value

pub pass_members-members-smaller : goal.pass_members-members-smaller
pass_members-members-smaller t c =
    let k = c.in-Some.field-0.now in
    let s = c.next_key.new.self in
    let named : read_key c.members.reader ≡ Some (Some k, s) = grind arith in
    let done = c.in_ok-pass.ensures.ok in
    omega (arith, read_key-shorter c.members.reader (Some k) s named, taken_shorter c.args.depth s c.pass.new.reader done.0 done.1)

pub pass_members-members-preserved : goal.pass_members-members-preserved
pass_members-members-preserved t c =
    let l = c.members in
    let k = c.in-Some.field-0.now in
    let s = c.next_key.new.self in
    let named : read_key l.reader ≡ Some (Some k, s) = grind arith in
    let done = c.in_ok-pass.ensures.ok in
    (put k done.0 l.invariant.0, l.invariant.1 ∙ one_more_member c.args.depth l.invariant.0 k l.reader s c.pass.new.reader done.0 (read_key-shorter l.reader (Some k) s named) named done.1)

pub pass_members-returns-in_err-pass-clause-err : goal.pass_members-returns-in_err-pass-clause-err
pass_members-returns-in_err-pass-clause-err t c never =
    let l = c.members in
    let k = c.in-Some.field-0.now in
    let s = c.next_key.new.self in
    let named : read_key l.reader ≡ Some (Some k, s) = grind arith in
    l.invariant.1 ∙ member_refused c.args.depth l.invariant.0 k l.reader s named (c.pass.ensures.err (grind arith))

pub pass_members-returns-clause-ok : goal.pass_members-returns-clause-ok
pass_members-returns-clause-ok t c =
    let l = c.members in
    (l.invariant.0, l.invariant.1 ∙ no_more_members c.args.depth l.invariant.0 l.reader c.next_key.new.self (grind arith))
