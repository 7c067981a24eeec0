-- Rows that can match where one key has a given number: the others do not decide.
use Rattle.std.proofs.Common.{All, ◌≡◌, ℕ, zero, suc, ◌<◌, ◌==◌, Bool, true, false, if◌then◌else◌, List, [], ◌∷◌, length, map, get_or, refl, sym, ◌∙◌, ap, subst, arith}
use Rattle.std.proofs.lemmas.Bool.{and_parts, eqb-true}
use Rattle.std.proofs.lemmas.List.Elements.{All-cons}
use Rattle.cocoon_num.specs.Rows.{has_bits, values_match}
use Rattle.p4_ir.specs.NetOf.{key_row_of}
use Rattle.p4_ir.specs.P4Tree.{KeyRow}
use Rattle.p4_ir.specs.Switch.{table_result}
use Rattle.p4_ir.specs.declared.rows.KeyRow.{KeyRow as CodeRow}
use Rattle.row_search.specs.Keyed.{HasKeys}
use Rattle.row_search.specs.Matching.{can_match, matching}
use Rattle.row_search.proofs.PartFacts.{IsKeyed, keyed_back, keyed_first, keyed_rest}

-- a row that matches has the bits of each number
bits_there : (p : ℕ) (vs ms xs : List ℕ) → values_match vs ms xs ≡ true → p < length xs → has_bits (get_or vs p 0) (get_or ms p 0) (get_or xs p 0) ≡ true
bits_there p [] [] [] h l = absurd (omega (arith, l))
bits_there p [] [] (x ∷ xs) h l = absurd (let bad : false ≡ true = h in cc)
bits_there p [] (m ∷ ms) xs h l = absurd (let bad : false ≡ true = h in cc)
bits_there p (v ∷ vs) [] xs h l = absurd (let bad : false ≡ true = h in cc)
bits_there p (v ∷ vs) (m ∷ ms) [] h l = absurd (let bad : false ≡ true = h in cc)
bits_there zero (v ∷ vs) (m ∷ ms) (x ∷ xs) h l = (and_parts (has_bits v m x) (values_match vs ms xs) h).0
bits_there (suc p) (v ∷ vs) (m ∷ ms) (x ∷ xs) h l = bits_there p vs ms xs (and_parts (has_bits v m x) (values_match vs ms xs) h).1 (omega (arith, l))

not_matched : (m : Bool) → (m ≡ true → false ≡ true) → m ≡ false
not_matched true g = sym (g refl)
not_matched false g = refl

one_kept : (r : KeyRow) (rest rows : List KeyRow) (otherwise : ℕ) (xs : List ℕ) (b : Bool) → (values_match r.values r.masks xs ≡ true → b ≡ true)
    → table_result rest otherwise xs ≡ table_result rows otherwise xs → table_result (if b then r ∷ rest else rest) otherwise xs ≡ table_result (r ∷ rows) otherwise xs
one_kept r rest rows otherwise xs true f e = ap (λ k. if values_match r.values r.masks xs then r.result else k) e
one_kept r rest rows otherwise xs false f e =
    e ∙ sym (ap (λ m. if m then r.result else table_result rows otherwise xs) (not_matched (values_match r.values r.masks xs) f))

-- those that cannot match do not decide
matching_same : (p n otherwise : ℕ) (rows : List KeyRow) (xs : List ℕ) → get_or xs p 0 ≡ n → p < length xs → table_result (matching p n rows) otherwise xs ≡ table_result rows otherwise xs
matching_same p n otherwise [] xs e l = refl
matching_same p n otherwise (r ∷ rows) xs e l =
    one_kept r (matching p n rows) rows otherwise xs (can_match p n r)
    (λ h. subst (λ k. has_bits (get_or r.values p 0) (get_or r.masks p 0) k ≡ true) e (bits_there p r.values r.masks xs h l))
    (matching_same p n otherwise rows xs e l)

chosen : (b : Bool) (x y z : ℕ) → (b ≡ true → x ≡ z) → y ≡ z → (if b then x else y) ≡ z
chosen true x y z f e = f refl
chosen false x y z f e = e

-- what they answer where the key has the number, and all else, is what all answer
pub known_is : (p n otherwise : ℕ) (rows : List KeyRow) (xs : List ℕ) (x y : ℕ) → p < length xs → x ≡ table_result (matching p n rows) otherwise xs → y ≡ table_result rows otherwise xs
    → (if get_or xs p 0 == n then x else y) ≡ table_result rows otherwise xs
known_is p n otherwise rows xs x y l e f =
    chosen (get_or xs p 0 == n) x y (table_result rows otherwise xs) (λ b. e ∙ matching_same p n otherwise rows xs (eqb-true (get_or xs p 0) n b) l) f

-- ---- their keys

one_keyed : (count : ℕ) (r : KeyRow) (rest : List KeyRow) (b : Bool) → IsKeyed count r → All (IsKeyed count) rest → All (IsKeyed count) (if b then r ∷ rest else rest)
one_keyed count r rest true own h = All-cons (IsKeyed count) r rest own h
one_keyed count r rest false own h = h

all_keyed : (count p n : ℕ) (rows : List CodeRow) → All (HasKeys count) rows → All (IsKeyed count) (matching p n (map key_row_of rows))
all_keyed count p n [] h = λ k d l. absurd (omega arith)
all_keyed count p n (r ∷ rows) h =
    one_keyed count (key_row_of r) (matching p n (map key_row_of rows)) (can_match p n (key_row_of r)) (keyed_first count r rows h) (all_keyed count p n rows (keyed_rest count r rows h))

pub matching_keyed : (count p n : ℕ) (rows made : List CodeRow) → map key_row_of made ≡ matching p n (map key_row_of rows) → All (HasKeys count) rows → All (HasKeys count) made
matching_keyed count p n rows made e h = keyed_back count made (matching p n (map key_row_of rows)) e (all_keyed count p n rows h)
