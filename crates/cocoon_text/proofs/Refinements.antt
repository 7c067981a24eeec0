-- Refinements and headers, part by part.
use Rattle.std.specs.Prelude.{◌≡◌, ℕ, suc, ◌+◌, true, List, map, slice_get, Result, Ok, Err, Some, codes, refl}
use Rattle.std.proofs.Common.{Vec, Global, sym, ◌∙◌, subst, add-one}
use Rattle.cocoon_num.specs.Tokens.{Kind}
use Rattle.cocoon_num.specs.Tree.{Name, Refine}
use Rattle.cocoon_syntax.specs.TreeOf.{decl_of, header_of, name_of, param_of, refine_of}
use Rattle.cocoon_syntax.specs.declared.decl.Decl.{Decl as CodeDecl}
use Rattle.cocoon_syntax.specs.declared.decl.HeaderDecl.{HeaderDecl as CodeHeader}
use Rattle.cocoon_syntax.specs.declared.decl.Param.{Param as CodeParam}
use Rattle.cocoon_syntax.specs.declared.decl.Refine.{Refine as CodeRefine}
use Rattle.cocoon_syntax.specs.declared.name.Name.{Name as CodeName}
use Rattle.parsing.specs.PlainParser.{Outcome, good, after, marked, reserved, named, name_at, is_mark, is_keyword, closes, commas_from, many_from, some_from, name_from, decl_from, header_field_from, header_from, refine_from}
use Rattle.cocoon_text.specs.ExprPhrases.{then_mark}
use Rattle.cocoon_text.specs.Phrases.{limited, LimitAt, refinement, headed}
use Rattle.cocoon_text.specs.Agrees.{AgreesDeep, with_mark}
use Rattle.parsing.specs.Joins.{Makes}
use Rattle.parsing.specs.declared.stop.Stop.{Stop}
use Rattle.parsing.specs.declared.stop.Stop.TheVariants.{Unexpected, NoMemory}
use Rattle.cocoon_text.proofs.Eventually.{Eventually, eventual_read, agrees_as, agrees_made, agrees_marked, after_read, then_same}

-- what follows the names of a refinement
abbrev limit_on : List Kind → ℕ → ℕ → List Name → ℕ → Outcome Refine
limit_on ts n i rs j = limited ts j (λ w. after (many_from (decl_from ts) (closes ts) n (j + 3)) (λ ds k. marked ts (codes "}") k (good (refinement i rs w ds) (suc k))))

roles_read : (ts : List Kind) (i : ℕ) {rs : Vec CodeName Global} {j : ℕ} (result : Result (CodeRefine × ℕ) Stop) → is_keyword (codes "refine") (slice_get ts i) ≡ true → AgreesDeep (λ n. commas_from ts (λ m. name_from ts) n (i + 1)) (λ v. map name_of v.items) (Ok (rs, j)) →
    AgreesDeep (λ n. limit_on ts n i (map name_of rs.items) j) refine_of result → AgreesDeep (λ n. refine_from ts n i) refine_of result
unfolding refine_from reserved
roles_read ts i {rs = rs} {j = j} result t p q = agrees_as (λ n. rw t refl)
    (after_read (λ n rs j. limit_on ts n i rs j) refine_of (subst (λ z. Eventually (λ n. commas_from ts (λ m. name_from ts) n z) (good (map name_of rs.items) j)) (add-one i) (eventual_read (λ v. map name_of v.items) p)) q)

pub limit_fails : (ts : List Kind) (i : ℕ) {rs : Vec CodeName Global} {j : ℕ} (s : Stop) (result : Result (CodeRefine × ℕ) Stop) → is_keyword (codes "refine") (slice_get ts i) ≡ true → AgreesDeep (λ n. commas_from ts (λ m. name_from ts) n (i + 1)) (λ v. map name_of v.items) (Ok (rs, j)) → LimitAt ts j (Err s) → result ≡ Err s → AgreesDeep (λ n. refine_from ts n i) refine_of result
limit_fails ts i {rs = rs} {j = j} s result t p l e = roles_read ts i result t p (subst (AgreesDeep (λ n. limit_on ts n i (map name_of rs.items) j) refine_of) (sym e) (by s l))
  where
    by : (s : Stop) → LimitAt ts j (Err s) → AgreesDeep {A = CodeRefine} (λ n. limit_on ts n i (map name_of rs.items) j) refine_of (Err s)
    by (Unexpected k) l = record { depth = 0; agrees = λ n h. l _ }
    by NoMemory l = record { depth = 0; agrees = λ n h. tt }

pub refine_agrees : (ts : List Kind) (i at : ℕ) {rs : Vec CodeName Global} {j limit : ℕ} (read one : Result (Vec CodeDecl Global × ℕ) Stop) (result : Result (CodeRefine × ℕ) Stop) → at ≡ i → is_keyword (codes "refine") (slice_get ts i) ≡ true → AgreesDeep (λ n. commas_from ts (λ m. name_from ts) n (i + 1)) (λ v. map name_of v.items) (Ok (rs, j)) → LimitAt ts j (Ok limit) →
    AgreesDeep (λ n. many_from (decl_from ts) (closes ts) n (j + 3)) (λ v. map decl_of v.items) read → one ≡ with_mark ts (codes "}") read → Makes (λ v. map decl_of v.items) refine_of (refinement at (map name_of rs.items) limit) one result → AgreesDeep (λ n. refine_from ts n i) refine_of result
refine_agrees ts i at {rs = rs} {j = j} {limit = limit} read one result s t p l q r e = roles_read ts i result t p
    (agrees_as (λ n. l _ ∙ then_same ts (codes "}") (many_from (decl_from ts) (closes ts) n (j + 3)) (λ ds k. good (refinement i (map name_of rs.items) limit ds) k))
    (agrees_made (λ n. then_mark ts (codes "}") (many_from (decl_from ts) (closes ts) n (j + 3))) (λ v. map decl_of v.items) refine_of (refinement i (map name_of rs.items) limit) one result
    (agrees_marked ts (codes "}") (λ n. many_from (decl_from ts) (closes ts) n (j + 3)) (λ v. map decl_of v.items) read one q r)
    (subst (λ z. Makes (λ v. map decl_of v.items) refine_of (refinement z (map name_of rs.items) limit) one result) s e)))

pub header_agrees : (ts : List Kind) (i : ℕ) (x : Name) (read one : Result (Vec CodeParam Global × ℕ) Stop) (result : Result (CodeHeader × ℕ) Stop) → is_keyword (codes "header") (slice_get ts i) ≡ true → name_at (i + 1) (slice_get ts (i + 1)) ≡ Some x → is_mark (codes "{") (slice_get ts (i + 2)) ≡ true →
    AgreesDeep (λ n. some_from (λ m. header_field_from ts) (closes ts) n (i + 3)) (λ v. map param_of v.items) read → one ≡ with_mark ts (codes "}") read → Makes (λ v. map param_of v.items) header_of (headed x) one result → AgreesDeep (λ n. header_from ts n i) header_of result
unfolding header_from reserved named marked
header_agrees ts i x read one result k w t p q e = agrees_as (λ n. rw (k, w, t) (then_same ts (codes "}") (some_from (λ m. header_field_from ts) (closes ts) n (i + 3)) (λ fs j. good (headed x fs) j)))
    (agrees_made (λ n. then_mark ts (codes "}") (some_from (λ m. header_field_from ts) (closes ts) n (i + 3))) (λ v. map param_of v.items) header_of (headed x) one result
    (agrees_marked ts (codes "}") (λ n. some_from (λ m. header_field_from ts) (closes ts) n (i + 3)) (λ v. map param_of v.items) read one p q) e)
