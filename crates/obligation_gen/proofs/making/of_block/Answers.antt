use Rattle.std.proofs.Common.{◌≡◌, ◌-◌, ◌+◌, ◌<◌, ◌≤◌, ◌++◌, ℕ, suc, List, length, map, Some, rules, sym, ap, subst, ◌∙◌, arith}
use Rattle.std.specs.Prelude.{slice_get}
use Rattle.cocoon_num.specs.Tree.{Name, Refine}
use Rattle.cocoon_syntax.specs.TreeOf.{design_of, name_of, refine_of}
use Rattle.bv_terms.specs.Arenas.{inputs_in}
use Rattle.bv_terms.proofs.ReplaceFacts.{keeps-both, keeps-none}
use Rattle.obligation_gen.specs.Bodies.{IsDeclared}
use Rattle.obligation_gen.proofs.Tables.{read_there, same_length}
use Rattle.obligation_laws.specs.Obligations.{Owed, of_block, of_role, of_roles, obligations_behind}
use Rattle.sound_types.proofs.Members.{In, at_place}
use Rattle.obligation_gen.specs.Shown.{ShowsObligations}
use Rattle.obligation_gen.proofs.Refinable.{declared_above, declared_behind, few_bodies, some_bodies}
use Rattle.obligation_gen.proofs.Roles.{Owing, all_shown, block_is, left_of, no_role, none_owing, one_role}
use Rattle.obligation_gen.proofs.making.of_block.Goals as goal

pub loop-name-init : goal.loop-name-init
loop-name-init c =
    let d = design_of c.args.checked.now in
    let start = c.args.terms.now in
    let whole = left_of d (c.args.level - 1) (refine_of c.index-block.result.now) name_of c.deref-name-items.result.now 0 (inputs_in start) in
    subst (λ xs. Owing d start start xs whole whole) (sym c.new-all.ensures.items) (none_owing d start whole (keeps-none start))

pub of_role-requires-clause-block : goal.of_role-requires-clause-block
of_role-requires-clause-block c =
    let d = design_of c.args.checked.now in
    let above = c.args.level - 1 in
    let all = c.design.result.now.refines.items in
    let code = c.index-block.result.now in
    let block = refine_of code in
    let lens : length all ≡ length d.refines = same_length refine_of all ∙ ap (λ x. length (design_of x).refines) c.design.ensures.is in
    let level = c.requires in
    let at : slice_get d.refines above ≡ Some block =
    ap (λ x. slice_get (design_of x).refines above) (sym c.design.ensures.is) ∙ read_there refine_of all above code c.index-block.ensures (let a = level.0 in let b = level.1 in omega (arith, a, b, lens)) in
    at

pub of_role-requires-clause-bodies : goal.of_role-requires-clause-bodies
of_role-requires-clause-bodies c =
    let d = design_of c.args.checked.now in
    let above = c.args.level - 1 in
    let all = c.design.result.now.refines.items in
    let code = c.index-block.result.now in
    let block = refine_of code in
    let lens : length all ≡ length d.refines = same_length refine_of all ∙ ap (λ x. length (design_of x).refines) c.design.ensures.is in
    let level = c.requires in
    let at : slice_get d.refines above ≡ Some block =
    ap (λ x. slice_get (design_of x).refines above) (sym c.design.ensures.is) ∙ read_there refine_of all above code c.index-block.ensures (let a = level.0 in let b = level.1 in omega (arith, a, b, lens)) in
    (some_bodies d c.design.ensures.resolves.rules above block at, few_bodies d c.design.ensures.resolves above block at)

pub of_role-requires-clause-above : goal.of_role-requires-clause-above
of_role-requires-clause-above c =
    let d = design_of c.args.checked.now in
    let above = c.args.level - 1 in
    let all = c.design.result.now.refines.items in
    let code = c.index-block.result.now in
    let block = refine_of code in
    let lens : length all ≡ length d.refines = same_length refine_of all ∙ ap (λ x. length (design_of x).refines) c.design.ensures.is in
    let level = c.requires in
    let at : slice_get d.refines above ≡ Some block =
    ap (λ x. slice_get (design_of x).refines above) (sym c.design.ensures.is) ∙ read_there refine_of all above code c.index-block.ensures (let a = level.0 in let b = level.1 in omega (arith, a, b, lens)) in
    let items = c.deref-name-items.result.now in
    let k = c.loop-name.name-index in
    let x = c.name-item.result in
    let listed : In (name_of x) block.roles =
    subst (λ xs. In (name_of x) (map name_of xs)) c.deref-name-items.ensures.value (at_place (map name_of items) k (name_of x) (read_there name_of items k x c.name-item.is c.loop-name-test.true)) in
    subst (IsDeclared d above) (sym c.bytes.ensures) (declared_above d c.design.ensures.resolves.rules above block at (name_of x) listed)

pub of_role-requires-clause-declared : goal.of_role-requires-clause-declared
of_role-requires-clause-declared c =
    let d = design_of c.args.checked.now in
    let above = c.args.level - 1 in
    let all = c.design.result.now.refines.items in
    let code = c.index-block.result.now in
    let block = refine_of code in
    let lens : length all ≡ length d.refines = same_length refine_of all ∙ ap (λ x. length (design_of x).refines) c.design.ensures.is in
    let level = c.requires in
    let at : slice_get d.refines above ≡ Some block =
    ap (λ x. slice_get (design_of x).refines above) (sym c.design.ensures.is) ∙ read_there refine_of all above code c.index-block.ensures (let a = level.0 in let b = level.1 in omega (arith, a, b, lens)) in
    let items = c.deref-name-items.result.now in
    let k = c.loop-name.name-index in
    let x = c.name-item.result in
    let listed : In (name_of x) block.roles =
    subst (λ xs. In (name_of x) (map name_of xs)) c.deref-name-items.ensures.value (at_place (map name_of items) k (name_of x) (read_there name_of items k x c.name-item.is c.loop-name-test.true)) in
    let up : suc above ≡ c.args.level = (let a = level.0 in omega (arith, a)) in
    subst (λ (p : ℕ × List ℕ). IsDeclared d p.0 p.1) (λ j. (up j, sym c.bytes.ensures j)) (declared_behind d c.design.ensures.resolves.rules above block at (name_of x) listed)

pub returns-in_err-more-clause-kept : goal.returns-in_err-more-clause-kept
returns-in_err-more-clause-kept c = keeps-both c.args.terms.now c.loop-name.terms c.of_role.new.terms c.loop-name.invariant.kept c.of_role.ensures.kept

pub returns-in_err-append-clause-kept : goal.returns-in_err-append-clause-kept
returns-in_err-append-clause-kept c = keeps-both c.args.terms.now c.loop-name.terms c.of_role.new.terms c.loop-name.invariant.kept c.of_role.ensures.kept

pub loop-name-preserved : goal.loop-name-preserved
loop-name-preserved c =
    let d = design_of c.args.checked.now in
    let above = c.args.level - 1 in
    let block = refine_of c.index-block.result.now in
    let start = c.args.terms.now in
    let now = c.loop-name.terms in
    let new = c.of_role.new.terms in
    let names = c.deref-name-items.result.now in
    let k = c.loop-name.name-index in
    let x = c.name-item.result in
    let done = c.loop-name.all.items in
    let more = c.in_ok-more.more.items in
    let items : c.append.new.self.items ≡ done ++ more = search rules in
    subst (λ xs. Owing d start new xs (left_of d above block name_of names (k + 1) (inputs_in new)) (left_of d above block name_of names 0 (inputs_in start))) (sym items)
    (one_role d above block name_of start now new names done more k x c.loop-name-test.true c.name-item.is c.loop-name.invariant c.of_role.ensures.kept
    (subst (λ n. ShowsObligations d new more (of_role above d block n (inputs_in now)).0) c.bytes.ensures c.in_ok-more.ensures.owed)
    (c.in_ok-more.ensures.next ∙ ap (λ n. (of_role above d block n (inputs_in now)).1) c.bytes.ensures))

pub returns-clause-owed : goal.returns-clause-owed
returns-clause-owed c =
    let d = design_of c.args.checked.now in
    let above = c.args.level - 1 in
    let all = c.design.result.now.refines.items in
    let code = c.index-block.result.now in
    let block = refine_of code in
    let lens : length all ≡ length d.refines = same_length refine_of all ∙ ap (λ x. length (design_of x).refines) c.design.ensures.is in
    let level = c.requires in
    let at : slice_get d.refines above ≡ Some block =
    ap (λ x. slice_get (design_of x).refines above) (sym c.design.ensures.is) ∙ read_there refine_of all above code c.index-block.ensures (let a = level.0 in let b = level.1 in omega (arith, a, b, lens)) in
    let start = c.args.terms.now in
    let now = c.loop-name.terms in
    let names = c.deref-name-items.result.now in
    let k = c.loop-name.name-index in
    let whole = left_of d above block name_of names 0 (inputs_in start) in
    let none = no_role d above block name_of names k (inputs_in now) c.loop-name-test.false in
    let same : whole ≡ obligations_behind above d (inputs_in start) =
    ap (λ xs. of_roles above d block (map name_of xs) (inputs_in start)) c.deref-name-items.ensures.value ∙ sym (block_is d above (inputs_in start) block at) in
    subst (λ (z : Owed). ShowsObligations d now c.loop-name.all.items z.0) same
    (all_shown d start now c.loop-name.all.items (left_of d above block name_of names k (inputs_in now)) whole c.loop-name.invariant (ap (λ (z : Owed). z.0) none))

pub returns-clause-next : goal.returns-clause-next
returns-clause-next c =
    let d = design_of c.args.checked.now in
    let above = c.args.level - 1 in
    let all = c.design.result.now.refines.items in
    let code = c.index-block.result.now in
    let block = refine_of code in
    let lens : length all ≡ length d.refines = same_length refine_of all ∙ ap (λ x. length (design_of x).refines) c.design.ensures.is in
    let level = c.requires in
    let at : slice_get d.refines above ≡ Some block =
    ap (λ x. slice_get (design_of x).refines above) (sym c.design.ensures.is) ∙ read_there refine_of all above code c.index-block.ensures (let a = level.0 in let b = level.1 in omega (arith, a, b, lens)) in
    let start = c.args.terms.now in
    let now = c.loop-name.terms in
    let names = c.deref-name-items.result.now in
    let none = no_role d above block name_of names c.loop-name.name-index (inputs_in now) c.loop-name-test.false in
    sym (ap (λ (z : Owed). z.1) none) ∙ c.loop-name.invariant.next
    ∙ ap (λ xs. (of_roles above d block (map name_of xs) (inputs_in start)).1) c.deref-name-items.ensures.value ∙ sym (ap (λ (z : Owed). z.1) (block_is d above (inputs_in start) block at))

pub returns-clause-kept : goal.returns-clause-kept
returns-clause-kept c = c.loop-name.invariant.kept
