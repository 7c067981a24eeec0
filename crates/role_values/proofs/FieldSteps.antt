-- Fields, one by one.
use Rattle.std.proofs.Common.{◌≡◌, ℕ, zero, suc, ◌+◌, ◌<◌, ◌≤◌, ◌^◌, List, [], ◌∷◌, ◌++◌, map, take, drop, length, get_or, true, false, Some, if◌then◌else◌, refl, sym, ap, subst, ◌∙◌, arith}
use Rattle.std.proofs.lemmas.List.{drop_more}
use Rattle.cocoon_num.specs.Names.{same_name}
use Rattle.cocoon_num.specs.PacketForms.{FieldsFit}
use Rattle.cocoon_num.specs.Tree.{HeaderDecl, Param}
use Rattle.cocoon_num.specs.Values.{number}
use Rattle.cocoon_resolve.specs.Readers.{all_widths}
use Rattle.cocoon_types.specs.Design.{read_field, read_in, widths_of}
use Rattle.role_values.specs.DeclaredWidths.{AllDeclared}
use Rattle.role_values.specs.Flat.{packet_of}

pub fit_count : (ws ns : List ℕ) → FieldsFit ws ns → length ws ≡ length ns
fit_count [] [] h = refl
fit_count [] (n ∷ ns) h = absurd h
fit_count (w ∷ ws) [] h = absurd h
fit_count (w ∷ ws) (n ∷ ns) h = ap suc (fit_count ws ns h.1)

pub count_of_fit : {A : Type 0} (f : A → Param) (xs : List A) (ns : List ℕ) → FieldsFit (widths_of (map f xs)) ns → length xs ≡ length ns
count_of_fit f [] [] h = refl
count_of_fit f [] (n ∷ ns) h = absurd h
count_of_fit f (x ∷ xs) [] h = absurd h
count_of_fit f (x ∷ xs) (n ∷ ns) h = ap suc (count_of_fit f xs ns h.1)

pub fit_at : {A : Type 0} (f : A → Param) (xs : List A) (ns : List ℕ) (i : ℕ) (x : A) (d : ℕ) → FieldsFit (widths_of (map f xs)) ns → i < length xs → x ≡ get_or xs i x
    → get_or ns i d < 2 ^ (f x).width
fit_at f [] ns i x d h l e = absurd (omega arith)
fit_at f (y ∷ ys) [] i x d h l e = absurd h
fit_at f (y ∷ ys) (n ∷ ns) zero x d h l e = subst (λ z. n < 2 ^ (f z).width) (sym e) h.0
fit_at f (y ∷ ys) (n ∷ ns) (suc i) x d h l e = fit_at f ys ns i x d h.1 (omega arith) e

pub read_step : {A : Type 0} (f : A → Param) (xs : List A) (ns : List ℕ) (i : ℕ) (x : A) (d : ℕ) (y : List ℕ) → i < length xs → i < length ns → x ≡ get_or xs i x
    → read_in (map f (drop i xs)) (drop i ns) y
    ≡ (if same_name y (f x).name.text then Some (number (f x).width (get_or ns i d)) else read_in (map f (drop (i + 1) xs)) (drop (i + 1) ns) y)
read_step f xs ns i x d y l m e =
    let a : drop i xs ≡ x ∷ drop (i + 1) xs = drop_more xs i x l ∙ ap (λ z. z ∷ drop (i + 1) xs) (sym e) in
    let b : drop i ns ≡ get_or ns i d ∷ drop (i + 1) ns = drop_more ns i d m in
    (λ k. read_in (map f (a k)) (b k) y)

pub read_here : {A : Type 0} (f : A → Param) (xs : List A) (ns : List ℕ) (i : ℕ) (x : A) (y : List ℕ) → i < length xs → i < length ns → x ≡ get_or xs i x
    → same_name y (f x).name.text ≡ true → read_in (map f (drop i xs)) (drop i ns) y ≡ Some (number (f x).width (get_or ns i 0))
read_here f xs ns i x y l m e h =
    read_step f xs ns i x 0 y l m e ∙ ap (λ b. if b then Some (number (f x).width (get_or ns i 0)) else read_in (map f (drop (i + 1) xs)) (drop (i + 1) ns) y) h

pub read_past : {A : Type 0} (f : A → Param) (xs : List A) (ns : List ℕ) (i : ℕ) (x : A) (y : List ℕ) → i < length xs → i < length ns → x ≡ get_or xs i x
    → same_name y (f x).name.text ≡ false → read_in (map f (drop i xs)) (drop i ns) y ≡ read_in (map f (drop (i + 1) xs)) (drop (i + 1) ns) y
read_past f xs ns i x y l m e h =
    read_step f xs ns i x 0 y l m e ∙ ap (λ b. if b then Some (number (f x).width (get_or ns i 0)) else read_in (map f (drop (i + 1) xs)) (drop (i + 1) ns) y) h

-- ---- headers

pub header_at : {A : Type 0} (f : A → HeaderDecl) (xs : List A) (i : ℕ) (x : A) → i < length xs → x ≡ get_or xs i x → map f (drop i xs) ≡ f x ∷ map f (drop (i + 1) xs)
header_at f xs i x l e = ap (map f) (drop_more xs i x l ∙ ap (λ z. z ∷ drop (i + 1) xs) (sym e))

pub fit_first : (ws vs ns : List ℕ) → FieldsFit (ws ++ vs) ns → FieldsFit ws (take (length ws) ns)
fit_first [] vs ns h = tt
fit_first (w ∷ ws) vs [] h = absurd h
fit_first (w ∷ ws) vs (n ∷ ns) h = (h.0, fit_first ws vs ns h.1)

pub fit_rest : (ws vs ns : List ℕ) → FieldsFit (ws ++ vs) ns → FieldsFit vs (drop (length ws) ns)
fit_rest [] vs ns h = h
fit_rest (w ∷ ws) vs [] h = absurd h
fit_rest (w ∷ ws) vs (n ∷ ns) h = fit_rest ws vs ns h.1

pub fit_long : (ws vs ns : List ℕ) → FieldsFit (ws ++ vs) ns → length ws ≤ length ns
fit_long [] vs ns h = omega arith
fit_long (w ∷ ws) vs [] h = absurd h
fit_long (w ∷ ws) vs (n ∷ ns) h = let r = fit_long ws vs ns h.1 in omega arith

pub declared_first : (ws vs : List ℕ) → AllDeclared (ws ++ vs) → AllDeclared ws
declared_first [] vs h = tt
declared_first (w ∷ ws) vs h = (h.0, h.1, declared_first ws vs h.2)

pub declared_rest : (ws vs : List ℕ) → AllDeclared (ws ++ vs) → AllDeclared vs
declared_rest [] vs h = h
declared_rest (w ∷ ws) vs h = declared_rest ws vs h.2

pub counted : (ps : List Param) → length (widths_of ps) ≡ length ps
counted [] = refl
counted (p ∷ ps) = ap suc (counted ps)

pub header_fits : {A : Type 0} (f : A → HeaderDecl) (xs : List A) (i : ℕ) (x : A) (k : ℕ) (rest : List ℕ) → i < length xs → x ≡ get_or xs i x → k ≡ length (f x).fields
    → FieldsFit (all_widths (map f (drop i xs))) rest
    → (k ≤ length rest) × FieldsFit (widths_of (f x).fields) (take k rest) × FieldsFit (all_widths (map f (drop (i + 1) xs))) (drop k rest)
header_fits f xs i x k rest l e m h =
    let ws = widths_of (f x).fields in
    let vs = all_widths (map f (drop (i + 1) xs)) in
    let here : FieldsFit (ws ++ vs) rest = subst (λ hs. FieldsFit (all_widths hs) rest) (header_at f xs i x l e) h in
    let many : length ws ≡ k = counted (f x).fields ∙ sym m in (
      subst (λ n. n ≤ length rest) many (fit_long ws vs rest here),
      subst (λ n. FieldsFit ws (take n rest)) many (fit_first ws vs rest here),
      subst (λ n. FieldsFit vs (drop n rest)) many (fit_rest ws vs rest here),
    )

pub header_declared : {A : Type 0} (f : A → HeaderDecl) (xs : List A) (i : ℕ) (x : A) → i < length xs → x ≡ get_or xs i x → AllDeclared (all_widths (map f (drop i xs)))
    → AllDeclared (widths_of (f x).fields) × AllDeclared (all_widths (map f (drop (i + 1) xs)))
header_declared f xs i x l e h =
    let ws = widths_of (f x).fields in
    let vs = all_widths (map f (drop (i + 1) xs)) in
    let here : AllDeclared (ws ++ vs) = subst (λ hs. AllDeclared (all_widths hs)) (header_at f xs i x l e) h in
    (declared_first ws vs here, declared_rest ws vs here)

header_step : {A : Type 0} (f : A → HeaderDecl) (xs : List A) (i : ℕ) (x : A) (rest y z : List ℕ) → i < length xs → x ≡ get_or xs i x
    → read_field (map f (drop i xs)) (packet_of (map f (drop i xs)) rest) y z
    ≡ (if same_name y (f x).name.text then read_in (f x).fields (take (length (f x).fields) rest) z
    else read_field (map f (drop (i + 1) xs)) (packet_of (map f (drop (i + 1) xs)) (drop (length (f x).fields) rest)) y z)
header_step f xs i x rest y z l e = ap (λ hs. read_field hs (packet_of hs rest) y z) (header_at f xs i x l e)

pub header_past : {A : Type 0} (f : A → HeaderDecl) (xs : List A) (i : ℕ) (x : A) (rest y z : List ℕ) → i < length xs → x ≡ get_or xs i x → same_name y (f x).name.text ≡ false
    → read_field (map f (drop i xs)) (packet_of (map f (drop i xs)) rest) y z
    ≡ read_field (map f (drop (i + 1) xs)) (packet_of (map f (drop (i + 1) xs)) (drop (length (f x).fields) rest)) y z
header_past f xs i x rest y z l e h =
    header_step f xs i x rest y z l e
    ∙ ap (λ b. if b then read_in (f x).fields (take (length (f x).fields) rest) z else read_field (map f (drop (i + 1) xs)) (packet_of (map f (drop (i + 1) xs)) (drop (length (f x).fields) rest)) y z) h

pub header_here : {A : Type 0} (f : A → HeaderDecl) (xs : List A) (i : ℕ) (x : A) (rest y z : List ℕ) → i < length xs → x ≡ get_or xs i x → same_name y (f x).name.text ≡ true
    → read_field (map f (drop i xs)) (packet_of (map f (drop i xs)) rest) y z ≡ read_in (f x).fields (take (length (f x).fields) rest) z
header_here f xs i x rest y z l e h =
    header_step f xs i x rest y z l e
    ∙ ap (λ b. if b then read_in (f x).fields (take (length (f x).fields) rest) z else read_field (map f (drop (i + 1) xs)) (packet_of (map f (drop (i + 1) xs)) (drop (length (f x).fields) rest)) y z) h
