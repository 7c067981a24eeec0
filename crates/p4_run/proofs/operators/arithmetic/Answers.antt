use Rattle.std.proofs.Common.{◌+◌, ◌-◌, ◌%◌, ◌^◌, bit_or, bit_xor, refl, subst, sym}
use Rattle.std.proofs.lemmas.Nat.{or_lt, xor_lt}
use Rattle.cocoon_num.specs.Values.{work}
use Rattle.p4_ir.specs.Program.{binary_of}
use Rattle.p4_run.specs.Meaning.{number_by}
use Rattle.p4_run.specs.Operating.{Computes}
use Rattle.p4_run.specs.declared.expr_codes.NumberCode.TheVariants.{Add, Sub, Or, Xor}
use Rattle.p4_run.proofs.CodeFacts.{by_add, by_or, by_sub, by_xor}
use Rattle.p4_run.proofs.Widths.{added, Made, subtracted}
use Rattle.p4_run.proofs.operators.arithmetic.Goals as goal

pub returns-in-Add : goal.returns-in-Add
returns-in-Add c =
    subst (λ op. Computes (work (binary_of op)) c.args.width c.args.a.value c.args.b.value (Add c.args.a c.args.b c.mask.result)) (sym c.in-Add.is)
    (λ r p q.
    let x = number_by c.args.a.value r in
    let y = number_by c.args.b.value r in
    subst (Made c.args.width ((x + y) % 2 ^ c.args.width)) (sym (by_add c.args.a c.args.b c.mask.result r)) (added x y c.args.width c.mask.result c.requires.narrow c.mask.ensures))

pub returns-in-Sub : goal.returns-in-Sub
returns-in-Sub c =
    subst (λ op. Computes (work (binary_of op)) c.args.width c.args.a.value c.args.b.value (Sub c.args.a c.args.b c.mask-in-Sub.result)) (sym c.in-Sub.is)
    (λ r p q.
    let x = number_by c.args.a.value r in
    let y = number_by c.args.b.value r in
    subst (Made c.args.width ((x + 2 ^ c.args.width - y) % 2 ^ c.args.width)) (sym (by_sub c.args.a c.args.b c.mask-in-Sub.result r))
    (subtracted x y c.args.width c.mask-in-Sub.result c.requires.narrow q c.mask-in-Sub.ensures))

pub returns-in-BitOr : goal.returns-in-BitOr
returns-in-BitOr c =
    subst (λ op. Computes (work (binary_of op)) c.args.width c.args.a.value c.args.b.value (Or c.args.a c.args.b)) (sym c.in-BitOr.is)
    (λ r p q.
    let n = bit_or (number_by c.args.a.value r) (number_by c.args.b.value r) in
    subst (Made c.args.width n) (sym (by_or c.args.a c.args.b r)) (refl, or_lt c.args.width (number_by c.args.a.value r) (number_by c.args.b.value r) p q))

pub returns-in-BitXor : goal.returns-in-BitXor
returns-in-BitXor c =
    subst (λ op. Computes (work (binary_of op)) c.args.width c.args.a.value c.args.b.value (Xor c.args.a c.args.b)) (sym c.in-BitXor.is)
    (λ r p q.
    let n = bit_xor (number_by c.args.a.value r) (number_by c.args.b.value r) in
    subst (Made c.args.width n) (sym (by_xor c.args.a c.args.b r)) (refl, xor_lt c.args.width (number_by c.args.a.value r) (number_by c.args.b.value r) p q))
