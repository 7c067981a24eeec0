-- Beginnings of tokens: they begin a text, and are not deep, where longer ones are so.
use Rattle.std.specs.Prelude.{◌≡◌, ℕ, ◌≤◌, ◌&&◌, true, List, [], ◌∷◌, ◌++◌, take, drop, nat_le, refl}
use Rattle.std.proofs.Common.{sym, ◌∙◌, ap, subst, append_assoc, append-nil}
use Rattle.std.proofs.lemmas.Bool.{and_parts}
use Rattle.std.proofs.lemmas.List.{take-append-drop, take-take}
use Rattle.cocoon_num.specs.Tokens.{Kind, Bounds, brackets_after, operators_after, is_shallow, none_deep}
use Rattle.p4_ir.specs.P4Text.{p4_bounds}
use Rattle.p4_texts.specs.Written.{BeginsP4, P4TextAt, ProgramText}

-- ---- texts that go on

pub begins_before : (ks ls : List Kind) → BeginsP4 (ks ++ ls) → BeginsP4 ks
begins_before ks ls b = (ls ++ b.0, b.1, subst (λ z. P4TextAt z b.1) (append_assoc ks ls b.0) b.2)

pub take_begins : (ks : List Kind) (i j : ℕ) → i ≤ j → BeginsP4 (take j ks) → BeginsP4 (take i ks)
take_begins ks i j le b =
    let whole : take j ks ≡ take i ks ++ drop i (take j ks) = sym (take-append-drop i (take j ks)) ∙ ap (λ z. z ++ drop i (take j ks)) (take-take i j ks le) in
    begins_before (take i ks) (drop i (take j ks)) (subst BeginsP4 whole b)

pub text_begins : (ks : List Kind) (t : ProgramText) (i : ℕ) → P4TextAt ks t → BeginsP4 (take i ks)
text_begins ks t i p = begins_before (take i ks) (drop i ks) ([], t, subst (λ z. P4TextAt z t) (sym (append-nil (take i ks ++ drop i ks) ∙ take-append-drop i ks)) p)

-- ---- tokens that are not deep

none_before : (bounds : Bounds) (b o : ℕ) (ks ls : List Kind) → none_deep bounds b o (ks ++ ls) ≡ true → none_deep bounds b o ks ≡ true
none_before bounds b o [] ls h = refl
none_before bounds b o (k ∷ ks) ls h =
    let b' = brackets_after b k in
    let o' = operators_after bounds.operators o k in
    let p = and_parts (nat_le b' bounds.open_most && nat_le o' bounds.operators_most) (none_deep bounds b' o' (ks ++ ls)) h in
    rw p.0 (none_before bounds b' o' ks ls p.1)

pub take_shallow : (ks : List Kind) (i j : ℕ) → i ≤ j → is_shallow p4_bounds (take j ks) ≡ true → is_shallow p4_bounds (take i ks) ≡ true
take_shallow ks i j le h =
    let whole : take j ks ≡ take i ks ++ drop i (take j ks) = sym (take-append-drop i (take j ks)) ∙ ap (λ z. z ++ drop i (take j ks)) (take-take i j ks le) in
    none_before p4_bounds 0 0 (take i ks) (drop i (take j ks)) (ap (is_shallow p4_bounds) (sym whole) ∙ h)

pub shallow_before : (ks : List Kind) (i : ℕ) → is_shallow p4_bounds ks ≡ true → is_shallow p4_bounds (take i ks) ≡ true
shallow_before ks i h = none_before p4_bounds 0 0 (take i ks) (drop i ks) (ap (is_shallow p4_bounds) (take-append-drop i ks) ∙ h)
