-- What is printed of rows and of places, step by step.
use Rattle.std.proofs.Common.{◌≡◌, ℕ, zero, suc, ◌+◌, ◌-◌, ◌^◌, ◌<◌, ◌≤◌, List, [], ◌∷◌, ◌++◌, length, drop, get_or, false, Option, Some, refl, ap, ap₂, sym, subst, ◌∙◌, arith, append_assoc}
use Rattle.std.specs.Prelude.{◌==◌, slice_get}
use Rattle.std.proofs.lemmas.Bool.Decides.{nat_tests}
use Rattle.std.proofs.lemmas.List.{at_drop_all}
use Rattle.std.proofs.Math.Nat.{pow-le-pow_right}
use Rattle.std.proofs.Math.Numerals.{add-one}
use Rattle.cocoon_num.specs.Tree.{FunctionDecl, Pattern}
use Rattle.cocoon_num.specs.declared.fun_table.FunTable.{FunTable}
use Rattle.text_lines.specs.Printing.{each_text, Prints}
use Rattle.text_lines.proofs.Printing.{arrives, Leads, step}
use Rattle.runtime_defs.specs.EntryTexts.{entry_text}
use Rattle.runtime_defs.specs.EntryPlaces.{all_entries, key_pattern, key_patterns, place_entries}

-- a mask of 64 bits is not full for a greater width
pub never_full : (w m : ℕ) → 64 < w → m < 2 ^ 64 → (m == 2 ^ w - 1) ≡ false
never_full w m h l = let p : 2 ^ 65 ≤ 2 ^ w = pow-le-pow_right {n = 2} (omega arith) {i = 65} {j = w} (omega arith) in grind (arith, nat_tests, p, l)

-- ---- patterns

pub keys_long : (ws vs ms : List ℕ) → length vs ≡ length ws → length ms ≡ length ws → length (key_patterns ws vs ms) ≡ length ws
keys_long [] vs ms h k = refl
keys_long (w ∷ ws) [] ms h k = omega arith
keys_long (w ∷ ws) (v ∷ vs) [] h k = omega arith
keys_long (w ∷ ws) (v ∷ vs) (m ∷ ms) h k = let ih = keys_long ws vs ms (omega arith) (omega arith) in omega (arith, ih)

pub key_there : (ws vs ms : List ℕ) (i : ℕ) (d : Pattern) (a b c : ℕ) → length vs ≡ length ws → length ms ≡ length ws → i < length ws
    → get_or (key_patterns ws vs ms) i d ≡ key_pattern (get_or ws i a) (get_or vs i b) (get_or ms i c)
key_there [] vs ms i d a b c h k l = absurd (omega arith)
key_there (w ∷ ws) [] ms i d a b c h k l = absurd (omega arith)
key_there (w ∷ ws) (v ∷ vs) [] i d a b c h k l = absurd (omega arith)
key_there (w ∷ ws) (v ∷ vs) (m ∷ ms) zero d a b c h k l = refl
key_there (w ∷ ws) (v ∷ vs) (m ∷ ms) (suc i) d a b c h k l = key_there ws vs ms i d a b c (omega arith) (omega arith) (omega arith)

-- ---- places

pub each_append : {A : Type 0} (f : A → List ℕ) (xs ys : List A) → each_text f (xs ++ ys) ≡ each_text f xs ++ each_text f ys
each_append f [] ys = refl
each_append f (x ∷ xs) ys = ap (λ t. f x ++ t) (each_append f xs ys) ∙ sym (append_assoc (f x) (each_text f xs) (each_text f ys))

place_next : (fs : List FunctionDecl) (ps : List (Option FunTable)) (i : ℕ) (f : FunctionDecl) (p d : Option FunTable) → slice_get fs i ≡ Some f → i < length ps → p ≡ get_or ps i d
    → all_entries (drop i fs) (drop i ps) ≡ place_entries f p ++ all_entries (drop (suc i) fs) (drop (suc i) ps)
place_next [] ps i f p d h l e = absurd cc
place_next (g ∷ fs) [] i f p d h l e = absurd (omega arith)
place_next (g ∷ fs) (q ∷ ps) zero f p d h l e = let same : g ≡ f = cc in ap₂ (λ a b. place_entries a b ++ all_entries fs ps) same (sym e)
place_next (g ∷ fs) (q ∷ ps) (suc i) f p d h l e = place_next fs ps i f p d h (omega arith) e

place_step : (fs : List FunctionDecl) (ps : List (Option FunTable)) (i : ℕ) (f : FunctionDecl) (p d : Option FunTable) → slice_get fs i ≡ Some f → i < length ps → p ≡ get_or ps i d
    → all_entries (drop i fs) (drop i ps) ≡ place_entries f p ++ all_entries (drop (i + 1) fs) (drop (i + 1) ps)
place_step fs ps i f p d h l e = place_next fs ps i f p d h l e ∙ ap (λ n. place_entries f p ++ all_entries (drop n fs) (drop n ps)) (sym (add-one i))

pub entries_step : (fs : List FunctionDecl) (ps : List (Option FunTable)) (i : ℕ) (f : FunctionDecl) (p d : Option FunTable) {a b c : Option (List ℕ)} {all : List ℕ} → slice_get fs i ≡ Some f → i < length ps → p ≡ get_or ps i d
    → Leads a b (each_text entry_text (all_entries (drop i fs) (drop i ps))) all → Prints b (each_text entry_text (place_entries f p)) c
    → Leads a c (each_text entry_text (all_entries (drop (i + 1) fs) (drop (i + 1) ps))) all
entries_step fs ps i f p d {a} {b} {c} {all} h l e leads prints =
    let next : each_text entry_text (all_entries (drop i fs) (drop i ps)) ≡ each_text entry_text (place_entries f p) ++ each_text entry_text (all_entries (drop (i + 1) fs) (drop (i + 1) ps)) =
    ap (each_text entry_text) (place_step fs ps i f p d h l e) ∙ each_append entry_text (place_entries f p) (all_entries (drop (i + 1) fs) (drop (i + 1) ps)) in
    step (subst (λ t. Leads a b t all) next leads) prints

none_left : (fs : List FunctionDecl) → all_entries fs [] ≡ []
none_left [] = refl
none_left (f ∷ fs) = refl

pub entries_end : (fs : List FunctionDecl) (ps : List (Option FunTable)) (i : ℕ) {a b : Option (List ℕ)} {all : List ℕ} → length ps ≤ i
    → Leads a b (each_text entry_text (all_entries (drop i fs) (drop i ps))) all → Prints a all b
entries_end fs ps i {a} {b} {all} h leads =
    let done : each_text entry_text (all_entries (drop i fs) (drop i ps)) ≡ [] =
    at_drop_all (λ qs. each_text entry_text (all_entries (drop i fs) qs)) ps i h ∙ ap (each_text entry_text) (none_left (drop i fs)) in
    arrives (subst (λ t. Leads a b t all) done leads)
