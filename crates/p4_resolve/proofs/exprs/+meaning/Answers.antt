use Rattle.std.proofs.Common.{◌∙◌, ap, sym, subst, IfOk}
use Rattle.p4_texts.specs.Meant.{expr_meant}
use Rattle.p4_texts.specs.TreeOf.{expr_of}
use Rattle.p4_resolve.specs.Typed.{Means}
use Rattle.p4_resolve.proofs.TreeFacts.{binary_is, lit_is, pick_is, port_is, rid_is, slice_is, truth_is, unary_is}
use Rattle.p4_resolve.proofs.exprs.+meaning.Goals as goal

pub returns-in-Lit : goal.returns-in-Lit
returns-in-Lit t c = λ p d k.
    subst (λ e. Means d (expr_meant p e) c.literal.result) (sym (ap expr_of c.in-Lit.is ∙ lit_is c.in-Lit.bits)) (c.literal.ensures d)

pub returns-in-Truth : goal.returns-in-Truth
returns-in-Truth t c = λ p d k.
    subst (λ e. Means d (expr_meant p e) c.truth.result) (sym (ap expr_of c.in-Truth.is ∙ truth_is c.in-Truth.is_true)) (c.truth.ensures d)

pub returns-in-Port : goal.returns-in-Port
returns-in-Port t c = λ p d k.
    subst (λ e. Means d (expr_meant p e) c.port.result) (sym (ap expr_of c.in-Port.is ∙ port_is)) (c.port.ensures d k.in_ingress)

pub returns-in-Rid : goal.returns-in-Rid
returns-in-Rid t c = λ p d k.
    subst (λ e. Means d (expr_meant p e) c.rid.result) (sym (ap expr_of c.in-Rid.is ∙ rid_is)) (c.rid.ensures d k.in_ingress)

pub returns-in_ok-meaning-in-Unary : goal.returns-in_ok-meaning-in-Unary
returns-in_ok-meaning-in-Unary t c = λ p d k.
    let a = subst (λ x. Means d (expr_meant p (expr_of x)) c.in_ok-meaning-in-Unary.field-0) c.deref.ensures (c.in_ok-meaning-in-Unary.ensures p d k) in
    subst (λ e. IfOk c.unary.result (Means d (expr_meant p e))) (sym (ap expr_of c.in-Unary.is ∙ unary_is c.in-Unary.op c.in-Unary.a)) (c.unary.ensures d (expr_meant p (expr_of c.in-Unary.a.value)) a)

pub returns-in_ok-second-in-Binary : goal.returns-in_ok-second-in-Binary
returns-in_ok-second-in-Binary t c = λ p d k.
    let a = subst (λ x. Means d (expr_meant p (expr_of x)) c.in_ok-first-in-Binary.first) c.deref-in-Binary.ensures (c.in_ok-first-in-Binary.ensures p d k) in
    let b = subst (λ x. Means d (expr_meant p (expr_of x)) c.in_ok-second-in-Binary.second) c.deref-in-Binary-2.ensures (c.in_ok-second-in-Binary.ensures p d k) in
    subst (λ e. IfOk c.binary.result (Means d (expr_meant p e))) (sym (ap expr_of c.in-Binary.is ∙ binary_is c.in-Binary.op c.in-Binary.a c.in-Binary.b)) (c.binary.ensures d (expr_meant p (expr_of c.in-Binary.a.value)) (expr_meant p (expr_of c.in-Binary.b.value)) a b)

pub returns-in_ok-meaning-in-Slice : goal.returns-in_ok-meaning-in-Slice
returns-in_ok-meaning-in-Slice t c = λ p d k.
    let a = subst (λ x. Means d (expr_meant p (expr_of x)) c.in_ok-meaning-in-Slice.field-0) c.deref-in-Slice.ensures (c.in_ok-meaning-in-Slice.ensures p d k) in
    subst (λ e. IfOk c.slice.result (Means d (expr_meant p e))) (sym (ap expr_of c.in-Slice.is ∙ slice_is c.in-Slice.a c.in-Slice.high c.in-Slice.low)) (c.slice.ensures d (expr_meant p (expr_of c.in-Slice.a.value)) a)

pub returns-in_ok-second-in-Pick : goal.returns-in_ok-second-in-Pick
returns-in_ok-second-in-Pick t c = λ p d k.
    let i = subst (λ x. Means d (expr_meant p (expr_of x)) c.in_ok-condition-in-Pick.condition) c.deref-in-Pick.ensures (c.in_ok-condition-in-Pick.ensures p d k) in
    let a = subst (λ x. Means d (expr_meant p (expr_of x)) c.in_ok-first-in-Pick.first) c.deref-in-Pick-2.ensures (c.in_ok-first-in-Pick.ensures p d k) in
    let b = subst (λ x. Means d (expr_meant p (expr_of x)) c.in_ok-second-in-Pick.second) c.deref-in-Pick-3.ensures (c.in_ok-second-in-Pick.ensures p d k) in
    subst (λ e. IfOk c.pick.result (Means d (expr_meant p e))) (sym (ap expr_of c.in-Pick.is ∙ pick_is c.in-Pick.condition c.in-Pick.a c.in-Pick.b)) (c.pick.ensures d (expr_meant p (expr_of c.in-Pick.condition.value)) (expr_meant p (expr_of c.in-Pick.a.value)) (expr_meant p (expr_of c.in-Pick.b.value)) i a b)
