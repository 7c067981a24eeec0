-- The functions among some declarations, one after the other.
use Rattle.std.specs.Prelude.{◌≡◌, ℕ, ◌+◌, ◌<◌, List, [], ◌∷◌, ◌++◌, length, map, take, get_or, reverse, filter_map, Option, Some, None, refl}
use Rattle.std.proofs.Common.{sym, ◌∙◌, ap, subst, Bor}
use Rattle.std.proofs.lemmas.List.{append-nil, reverse-append}
use Rattle.cocoon_num.specs.Tree.{FunctionDecl}
use Rattle.cocoon_syntax.specs.declared.decl.Decl.{Decl as CodeDecl}
use Rattle.cocoon_syntax.specs.TreeOf.{decl_of}
use Rattle.cocoon_types.specs.Design.{as_function}
use Rattle.cocoon_resolve.specs.declared.forms.Known.{Known}
use Rattle.cocoon_resolve.specs.Forms.{Adds, Knows}
use Rattle.cocoon_resolve.proofs.Knowing.{knows_more}
use Rattle.cocoon_resolve.proofs.Steps.{chosen_more}

-- the functions among declarations, as the code holds them
abbrev pub functions_in : List (Bor CodeDecl) → List FunctionDecl
functions_in ds = filter_map as_function (map (λ d. decl_of d.now) ds)

pub known_step : (ds : List (Bor CodeDecl)) (i : ℕ) (d : Bor CodeDecl) (old new : List Known) → i < length ds → d ≡ get_or ds i d
    → Knows (reverse (functions_in (take i ds))) (reverse old) → Adds (as_function (decl_of d.now)) old new
    → Knows (reverse (functions_in (take (i + 1) ds))) (reverse new)
known_step ds i d old new lt e k a = by_function (as_function (decl_of d.now)) refl a
  where
    all_functions : functions_in (take (i + 1) ds) ≡ functions_in (take i ds) ++ filter_map as_function (decl_of d.now ∷ [])
    all_functions = chosen_more as_function (λ (d : Bor CodeDecl). decl_of d.now) ds i d lt e

    by_function : (o : Option FunctionDecl) → as_function (decl_of d.now) ≡ o → Adds o old new → Knows (reverse (functions_in (take (i + 1) ds))) (reverse new)
    by_function None f v =
        let same : functions_in (take (i + 1) ds) ≡ functions_in (take i ds) = all_functions ∙ rw f (append-nil (functions_in (take i ds))) in
        subst (λ fs. Knows (reverse fs) (reverse new)) (sym same) (subst (λ ks. Knows (reverse (functions_in (take i ds))) (reverse ks)) (sym v) k)
    by_function (Some x) f v =
        let more : functions_in (take (i + 1) ds) ≡ functions_in (take i ds) ++ (x ∷ []) = all_functions ∙ rw f refl in
        let turned : reverse (functions_in (take (i + 1) ds)) ≡ x ∷ reverse (functions_in (take i ds)) = ap reverse more ∙ reverse-append (functions_in (take i ds)) (x ∷ []) in
        let known : reverse new ≡ v.0 ∷ reverse old = ap reverse v.1 ∙ reverse-append old (v.0 ∷ []) in
        subst (λ fs. Knows fs (reverse new)) (sym turned)
        (subst (λ ks. Knows (x ∷ reverse (functions_in (take i ds))) ks) (sym known) (knows_more (reverse (functions_in (take i ds))) (reverse old) x v.0 k v.2 v.3))
