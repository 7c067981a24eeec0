-- The numbers of some expressions, one by one.
use Rattle.std.proofs.Common.{◌≡◌, ℕ, ◌+◌, ◌<◌, List, [], ◌∷◌, ◌++◌, map, drop, length, get_or, Option, Some, None, option_map, option_and_then, refl, sym, ap, ◌∙◌, append_assoc}
use Rattle.std.proofs.lemmas.List.{drop_more}
use Rattle.cocoon_num.specs.Packets.{Packet}
use Rattle.cocoon_num.specs.Tree.{Expr}
use Rattle.cocoon_num.specs.Values.{as_number, with_both}
use Rattle.cocoon_syntax.specs.TreeOf.{exprs_of}
use Rattle.cocoon_types.specs.Val.{Context, Env, numbers, value}

pub numbers_step : {A : Type 0} (f : A → Expr) (xs : List A) (i : ℕ) (x : A) (s : Context) (env : Env) (packet : Packet) → i < length xs → x ≡ get_or xs i x
    → numbers s env packet (exprs_of (map f (drop i xs)))
    ≡ with_both (λ n ns. Some (n ∷ ns)) (option_and_then as_number (value s env packet (f x))) (numbers s env packet (exprs_of (map f (drop (i + 1) xs))))
numbers_step f xs i x s env packet l e = ap (λ ys. numbers s env packet (exprs_of (map f ys))) (drop_more xs i x l ∙ ap (λ z. z ∷ drop (i + 1) xs) (sym e))

pub stops : (all rest more : Option (List ℕ)) (v : Option ℕ) (found : List ℕ) → all ≡ option_map (λ ns. found ++ ns) rest → rest ≡ with_both (λ n ns. Some (n ∷ ns)) v more → v ≡ None
    → None ≡ all
stops all rest more v found h e none =
    sym (h ∙ ap (option_map (λ ns. found ++ ns)) (e ∙ ap (λ w. with_both (λ n ns. Some (n ∷ ns)) w more) none))

one_more : (n : ℕ) (more : Option (List ℕ)) (found : List ℕ)
    → option_map (λ ns. found ++ ns) (with_both (λ (m : ℕ) (ms : List ℕ). Some (m ∷ ms)) (Some n) more) ≡ option_map (λ ns. (found ++ n ∷ []) ++ ns) more
one_more n None found = refl
one_more n (Some ns) found = ap Some (sym (append_assoc found (n ∷ []) ns))

pub goes_on : (all rest more : Option (List ℕ)) (v : Option ℕ) (n : ℕ) (found next : List ℕ) → all ≡ option_map (λ ns. found ++ ns) rest → rest ≡ with_both (λ n ns. Some (n ∷ ns)) v more
    → v ≡ Some n → next ≡ found ++ n ∷ [] → all ≡ option_map (λ ns. next ++ ns) more
goes_on all rest more v n found next h e some pushed =
    h ∙ ap (option_map (λ ns. found ++ ns)) (e ∙ ap (λ w. with_both (λ n ns. Some (n ∷ ns)) w more) some)
    ∙ one_more n more found ∙ ap (λ xs. option_map (λ ns. xs ++ ns) more) (sym pushed)
