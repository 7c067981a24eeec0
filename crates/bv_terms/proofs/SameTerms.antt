-- Terms are equal if and only if they are built alike.
use Rattle.std.proofs.Common.{◌≡◌, true, ◌&&◌, ◌==◌, refl}
use Rattle.std.proofs.lemmas.Bool.{eqb-true, eq-eqb, and_parts, and_from}
use Rattle.bv_terms.specs.TermTrees.{Term, Args, constant, input, apply, not_, binary, slice, pick, no_args, arg, op_number}
use Rattle.bv_terms.specs.Walks.{same_term, same_args}
use Rattle.bv_terms.proofs.KeyFacts.{same-op}

mutual
  pub same-only : (t u : Term) → same_term t u ≡ true → t ≡ u
  same-only (constant v m) (constant w n) h = let r = and_parts (v == w) (m == n) h in let e = eqb-true v w r.0 in let e2 = eqb-true m n r.1 in cc
  same-only (constant v m) (input j w) h = absurd cc
  same-only (constant v m) (apply g us w) h = absurd cc
  same-only (constant v m) (not_ x) h = absurd cc
  same-only (constant v m) (binary p x y) h = absurd cc
  same-only (constant v m) (slice x high2 low2) h = absurd cc
  same-only (constant v m) (pick z x y) h = absurd cc
  same-only (input i v) (constant w n) h = absurd cc
  same-only (input i v) (input j w) h = let r = and_parts (i == j) (v == w) h in let e = eqb-true i j r.0 in let e2 = eqb-true v w r.1 in cc
  same-only (input i v) (apply g us w) h = absurd cc
  same-only (input i v) (not_ x) h = absurd cc
  same-only (input i v) (binary p x y) h = absurd cc
  same-only (input i v) (slice x high2 low2) h = absurd cc
  same-only (input i v) (pick z x y) h = absurd cc
  same-only (apply f ts v) (constant w n) h = absurd cc
  same-only (apply f ts v) (input j w) h = absurd cc
  same-only (apply f ts v) (apply g us w) h = let r = and_parts (f == g && same_args ts us) (v == w) h in let q = and_parts (f == g) (same_args ts us) r.0 in let e = eqb-true f g q.0 in let e2 = same-args-only ts us q.1 in let e3 = eqb-true v w r.1 in cc
  same-only (apply f ts v) (not_ x) h = absurd cc
  same-only (apply f ts v) (binary p x y) h = absurd cc
  same-only (apply f ts v) (slice x high2 low2) h = absurd cc
  same-only (apply f ts v) (pick z x y) h = absurd cc
  same-only (not_ a) (constant w n) h = absurd cc
  same-only (not_ a) (input j w) h = absurd cc
  same-only (not_ a) (apply g us w) h = absurd cc
  same-only (not_ a) (not_ x) h = let e = same-only a x h in cc
  same-only (not_ a) (binary p x y) h = absurd cc
  same-only (not_ a) (slice x high2 low2) h = absurd cc
  same-only (not_ a) (pick z x y) h = absurd cc
  same-only (binary o a b) (constant w n) h = absurd cc
  same-only (binary o a b) (input j w) h = absurd cc
  same-only (binary o a b) (apply g us w) h = absurd cc
  same-only (binary o a b) (not_ x) h = absurd cc
  same-only (binary o a b) (binary p x y) h = let r = and_parts (op_number o == op_number p && same_term a x) (same_term b y) h in let q = and_parts (op_number o == op_number p) (same_term a x) r.0 in let e = same-op o p (eqb-true (op_number o) (op_number p) q.0) in let e2 = same-only a x q.1 in let e3 = same-only b y r.1 in cc
  same-only (binary o a b) (slice x high2 low2) h = absurd cc
  same-only (binary o a b) (pick z x y) h = absurd cc
  same-only (slice a high low) (constant w n) h = absurd cc
  same-only (slice a high low) (input j w) h = absurd cc
  same-only (slice a high low) (apply g us w) h = absurd cc
  same-only (slice a high low) (not_ x) h = absurd cc
  same-only (slice a high low) (binary p x y) h = absurd cc
  same-only (slice a high low) (slice x high2 low2) h = let r = and_parts (same_term a x && high == high2) (low == low2) h in let q = and_parts (same_term a x) (high == high2) r.0 in let e = same-only a x q.0 in let e2 = eqb-true high high2 q.1 in let e3 = eqb-true low low2 r.1 in cc
  same-only (slice a high low) (pick z x y) h = absurd cc
  same-only (pick c a b) (constant w n) h = absurd cc
  same-only (pick c a b) (input j w) h = absurd cc
  same-only (pick c a b) (apply g us w) h = absurd cc
  same-only (pick c a b) (not_ x) h = absurd cc
  same-only (pick c a b) (binary p x y) h = absurd cc
  same-only (pick c a b) (slice x high2 low2) h = absurd cc
  same-only (pick c a b) (pick z x y) h = let r = and_parts (same_term c z && same_term a x) (same_term b y) h in let q = and_parts (same_term c z) (same_term a x) r.0 in let e = same-only c z q.0 in let e2 = same-only a x q.1 in let e3 = same-only b y r.1 in cc

  pub same-args-only : (ts us : Args) → same_args ts us ≡ true → ts ≡ us
  same-args-only no_args no_args h = refl
  same-args-only no_args (arg u us) h = absurd cc
  same-args-only (arg t ts) no_args h = absurd cc
  same-args-only (arg t ts) (arg u us) h =
      let r = and_parts (same_term t u) (same_args ts us) h in let e = same-only t u r.0 in let e2 = same-args-only ts us r.1 in cc

mutual
  pub same-itself : (t : Term) → same_term t t ≡ true
  same-itself (constant w n) = and_from (w == w) (n == n) (eq-eqb w w refl) (eq-eqb n n refl)
  same-itself (input i w) = and_from (i == i) (w == w) (eq-eqb i i refl) (eq-eqb w w refl)
  same-itself (apply f ts w) = and_from (f == f && same_args ts ts) (w == w) (and_from (f == f) (same_args ts ts) (eq-eqb f f refl) (same-args-itself ts)) (eq-eqb w w refl)
  same-itself (not_ a) = same-itself a
  same-itself (binary o a b) =
      and_from (op_number o == op_number o && same_term a a) (same_term b b) (and_from (op_number o == op_number o) (same_term a a) (eq-eqb (op_number o) (op_number o) refl) (same-itself a)) (same-itself b)
  same-itself (slice a high low) = and_from (same_term a a && high == high) (low == low) (and_from (same_term a a) (high == high) (same-itself a) (eq-eqb high high refl)) (eq-eqb low low refl)
  same-itself (pick c a b) = and_from (same_term c c && same_term a a) (same_term b b) (and_from (same_term c c) (same_term a a) (same-itself c) (same-itself a)) (same-itself b)

  pub same-args-itself : (ts : Args) → same_args ts ts ≡ true
  same-args-itself no_args = refl
  same-args-itself (arg t ts) = and_from (same_term t t) (same_args ts ts) (same-itself t) (same-args-itself ts)
