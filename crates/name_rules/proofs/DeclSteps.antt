-- The declarations and blocks of a design, one by one, with the functions before each.
use Rattle.std.proofs.Common.{◌≡◌, ℕ, suc, ◌+◌, ◌-◌, ◌<◌, ◌≤◌, false, List, [], ◌∷◌, ◌++◌, map, take, drop, length, length-append, get_or, Option, Some, None, refl, sym, ap, subst, ◌∙◌, arith}
use Rattle.std.specs.Prelude.{filter_map, flat_map, option_to_list}
use Rattle.std.specs.List.{cons_option}
use Rattle.std.proofs.lemmas.List.{append_assoc, drop_more, take_all}
use Rattle.std.proofs.lemmas.List.Elements.{filter_map-append}
use Rattle.std.proofs.Math.Seq.{take-append_seam}
use Rattle.cocoon_num.specs.Tree.{Param, FunctionDecl, Decl, Refine, Design}
use Rattle.cocoon_types.specs.Design.{as_function, functions}
use Rattle.cocoon_types.specs.Sites.{sites_of, sites_from}
use Rattle.cocoon_types.specs.FirstFault.{Fault}
use Rattle.cocoon_types.specs.Noting.{Notes, NotingLaws}
use Rattle.cocoon_syntax.specs.TreeOf.{decl_of, param_of, refine_of}
use Rattle.cocoon_syntax.specs.declared.decl.Param.{Param as Parameter}
use Rattle.cocoon_syntax.specs.declared.decl.Decl.{Decl as Declaration}
use Rattle.cocoon_syntax.specs.declared.decl.Refine.{Refine as Refinement}
use Rattle.name_rules.specs.declared.point.Point.{Point}
use Rattle.name_rules.specs.Tests.{in_decl, in_decls}
use Rattle.name_rules.proofs.Membership.{any-append}
use Rattle.name_rules.proofs.DeclParts.{decl_site}

-- the next of a list, and the rest
next : {A B : Type 0} (g : A → B) (xs : List A) (i : ℕ) (x : A) → i < length xs → x ≡ get_or xs i x → map g (drop i xs) ≡ g x ∷ map g (drop (i + 1) xs)
next {A} {B} g xs i x l h = ap (map g) (drop_more xs i x l ∙ ap (λ (y : A). y ∷ drop (i + 1) xs) (sym h))

-- ---- parameters, the last first

pub params_step : (ps : List Parameter) (n : ℕ) (x : Parameter) (vars new : List Param) → 0 < n → n ≤ length ps → x ≡ get_or ps (n - 1) x
    → vars ≡ map param_of (drop n ps) ++ [] → new ≡ param_of x ∷ vars → new ≡ map param_of (drop (n - 1) ps) ++ []
params_step ps n x vars new some within h hv hnew =
    let back : n - 1 + 1 ≡ n = omega (arith, some) in
    let there : n - 1 < length ps = omega (arith, some, within) in
    hnew ∙ ap (λ (l : List Param). param_of x ∷ l) hv
    ∙ ap (λ (l : List Param). l ++ []) (sym (next param_of ps (n - 1) x there h ∙ ap (λ (k : ℕ). param_of x ∷ map param_of (drop k ps)) back))

-- ---- functions before

abbrev pub functions_in : List Decl → List FunctionDecl
functions_in ds = filter_map as_function ds

abbrev pub decls_in : List Refine → List Decl
decls_in bs = flat_map (λ (b : Refine). b.decls) bs

cons_front : {A : Type 0} (o : Option A) (xs : List A) → cons_option o xs ≡ option_to_list o ++ xs
cons_front None xs = refl
cons_front (Some a) xs = refl

-- the functions among some declarations: the first, if it is one, and the rest
first_and_rest : (ds : List Declaration) (i : ℕ) (x : Declaration) → i < length ds → x ≡ get_or ds i x
    → functions_in (map decl_of (drop i ds)) ≡ option_to_list (as_function (decl_of x)) ++ functions_in (map decl_of (drop (i + 1) ds))
first_and_rest ds i x l h = ap functions_in (next decl_of ds i x l h) ∙ cons_front (as_function (decl_of x)) (functions_in (map decl_of (drop (i + 1) ds)))

-- the count, after one declaration more
pub count_more : (ds : List Declaration) (i : ℕ) (x : Declaration) (old new whole : ℕ) → i < length ds → x ≡ get_or ds i x
    → new ≡ old + length (option_to_list (as_function (decl_of x)))
    → old + length (functions_in (map decl_of (drop i ds))) ≡ whole → new + length (functions_in (map decl_of (drop (i + 1) ds))) ≡ whole
count_more ds i x old new whole l h more e =
    let rest : length (functions_in (map decl_of (drop i ds))) ≡ length (option_to_list (as_function (decl_of x))) + length (functions_in (map decl_of (drop (i + 1) ds))) =
    ap length (first_and_rest ds i x l h) ∙ length-append (option_to_list (as_function (decl_of x))) (functions_in (map decl_of (drop (i + 1) ds))) in
    omega (arith, more, e, rest)

-- the functions before, after some more
pub longer : (n m : ℕ) (now more : List FunctionDecl) → n ≡ length now → m ≡ n + length more → m ≡ length (now ++ more)
longer n m now more hn hm = hm ∙ ap (λ k. k + length more) hn ∙ sym (length-append now more)

-- and those that are counted from the start
pub counted : (m : ℕ) (now : List FunctionDecl) → m ≡ 0 + length now → m ≡ length now
counted m now hm = omega (arith, hm)

pub moved : (ds : List Declaration) (i : ℕ) (x : Declaration) (all now after : List FunctionDecl) → i < length ds → x ≡ get_or ds i x
    → all ≡ now ++ functions_in (map decl_of (drop i ds)) ++ after
    → all ≡ now ++ option_to_list (as_function (decl_of x)) ++ functions_in (map decl_of (drop (i + 1) ds)) ++ after
moved ds i x all now after l h e =
    e ∙ ap (λ (xs : List FunctionDecl). now ++ xs ++ after) (first_and_rest ds i x l h)
    ∙ ap (λ (xs : List FunctionDecl). xs ++ after) (sym (append_assoc now (option_to_list (as_function (decl_of x))) (functions_in (map decl_of (drop (i + 1) ds)))))

-- a design's functions up to a point are those before it
up_to : (all now rest : List FunctionDecl) (n : ℕ) → n ≡ length now → all ≡ now ++ rest → take n all ≡ now
up_to all now rest n hn e = (λ i. take (hn i) (e i)) ∙ take-append_seam now rest

-- ---- declarations

pub decls_step : NotingLaws → (d : Design) (at : Point) (level : ℕ) (now after : List FunctionDecl) (ds : List Declaration) (i : ℕ) (x : Declaration) {o p q : Option Fault} → i < length ds → x ≡ get_or ds i x
    → at.level ≡ level → at.functions ≡ length now → functions d ≡ now ++ functions_in (map decl_of (drop i ds)) ++ after
    → Notes (in_decl (decl_site d at (decl_of x))) o p
    → Notes (in_decls (sites_of d level (now ++ option_to_list (as_function (decl_of x))) (map decl_of (drop (i + 1) ds)))) p q
    → Notes (in_decls (sites_of d level now (map decl_of (drop i ds)))) o q
decls_step laws d at level now after ds i x {o} {p} {q} l h hl hn e m n =
    let before = up_to (functions d) now (functions_in (map decl_of (drop i ds)) ++ after) at.functions hn (e ∙ append_assoc now (functions_in (map decl_of (drop i ds))) after) in
    subst (λ (ys : List Decl). Notes (in_decls (sites_of d level now ys)) o q) (sym (next decl_of ds i x l h))
    (laws.in_turn _ _ o p q
    (subst (λ (b : List FunctionDecl). Notes (in_decl (record { scope = record { design = d; vars = []; before = b; level = level; packet = false }; decl = decl_of x })) o p) before
    (subst (λ (k : ℕ). Notes (in_decl (record { scope = record { design = d; vars = []; before = take at.functions (functions d); level = k; packet = false }; decl = decl_of x })) o p) hl m))
    n)

-- ---- blocks

pub blocks_moved : (bs : List Refinement) (i : ℕ) (x : Refinement) (all now : List FunctionDecl) → i < length bs → x ≡ get_or bs i x
    → all ≡ now ++ functions_in (decls_in (map refine_of (drop i bs)))
    → all ≡ now ++ functions_in (map decl_of x.decls.items) ++ functions_in (decls_in (map refine_of (drop (i + 1) bs)))
blocks_moved bs i x all now l h e =
    e ∙ ap (λ (ys : List Refine). now ++ functions_in (decls_in ys)) (next refine_of bs i x l h)
    ∙ ap (λ (ys : List FunctionDecl). now ++ ys) (filter_map-append as_function (map decl_of x.decls.items) (decls_in (map refine_of (drop (i + 1) bs))))
    ∙ sym (append_assoc now (functions_in (map decl_of x.decls.items)) (functions_in (decls_in (map refine_of (drop (i + 1) bs)))))

pub blocks_step : NotingLaws → (d : Design) (level up : ℕ) (now : List FunctionDecl) (bs : List Refinement) (i : ℕ) (x : Refinement) {o p q : Option Fault} → i < length bs → x ≡ get_or bs i x
    → up ≡ level + 1
    → Notes (in_decls (sites_of d level now (map decl_of x.decls.items))) o p
    → Notes (in_decls (sites_from d up (now ++ functions_in (map decl_of x.decls.items)) (map refine_of (drop (i + 1) bs)))) p q
    → Notes (in_decls (sites_from d level now (map refine_of (drop i bs)))) o q
blocks_step laws d level up now bs i x {o} {p} {q} l h hu m n =
    let next_level : up ≡ suc level = omega (arith, hu) in
    subst (λ (ys : List Refine). Notes (in_decls (sites_from d level now ys)) o q) (sym (next refine_of bs i x l h))
    (laws.alike _ (in_decls (sites_from d level now (refine_of x ∷ map refine_of (drop (i + 1) bs)))) o q
    (λ f. sym (any-append (λ s. in_decl s f) (sites_of d level now (map decl_of x.decls.items)) (sites_from d (suc level) (now ++ functions_in (map decl_of x.decls.items)) (map refine_of (drop (i + 1) bs)))))
    (laws.in_turn _ _ o p q m
    (subst (λ (k : ℕ). Notes (in_decls (sites_from d k (now ++ functions_in (map decl_of x.decls.items)) (map refine_of (drop (i + 1) bs)))) p q) next_level n)))

-- ---- a design

-- its functions: those outside the blocks, and those in them
pub outside_and_in : (d : Design) → functions d ≡ functions_in d.decls ++ functions_in (decls_in d.refines)
outside_and_in d =
    filter_map-append as_function d.decls (decls_in (take (length d.refines) d.refines))
    ∙ ap (λ (bs : List Refine). functions_in d.decls ++ functions_in (decls_in bs)) (take_all (length d.refines) d.refines (omega arith))
