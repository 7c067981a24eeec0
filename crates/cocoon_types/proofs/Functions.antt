-- The functions of a design that was read have names of the language, and parameters.
use Rattle.std.proofs.Common.{◌≡◌, ℕ, ◌+◌, ◌≤◌, List, [], ◌∷◌, ◌++◌, length, take, All, sym, subst, arith}
use Rattle.std.specs.Prelude.{filter_map, flat_map}
use Rattle.std.proofs.lemmas.List.{take_all}
use Rattle.std.proofs.lemmas.List.Elements.{All-cons, All-head, All-tail}
use Rattle.cocoon_num.specs.Reads.{Reads, DeclAt, the_function, the_assumption, the_role, the_host, the_switch, RefineAt, the_block, Many, no_more, one_more, Commas, last, then_comma, ParamAt}
use Rattle.cocoon_num.specs.Tokens.{Kind, kinds}
use Rattle.cocoon_num.specs.Tree.{Param, FunctionDecl, Decl, a_function, an_assumption, a_role, a_host, a_switch, Refine, Design}
use Rattle.cocoon_types.specs.Design.{as_function, all_decls, functions}
use Rattle.cocoon_types.specs.Names.{IsNamed}
use Rattle.cocoon_types.proofs.NamedTokens.{AllNamed, name_there, tokens_named}

abbrev DeclNamed : Decl → Type 0
DeclNamed (a_function f) = IsNamed f
DeclNamed _ = Unit {0}

abbrev DeclsNamed : List Decl → Type 0
DeclsNamed [] = Unit {0}
DeclsNamed (d ∷ ds) = DeclNamed d × DeclsNamed ds

some_params : {ts : List Kind} {i j : ℕ} {ps : List Param} → Commas ts (ParamAt ts) i ps j → 1 ≤ length ps
some_params (last h) = omega arith
some_params (then_comma h m rest) = omega arith

decl_named : (ks : List Kind) → AllNamed ks → {i j : ℕ} {d : Decl} → DeclAt ks i d j → DeclNamed d
decl_named ks w (the_function {i = i} {d = f} key name opens given closes colon kind body) = record { name = name_there ks w (i + 1) f.name.text name.0; params = some_params given }
decl_named ks w (the_assumption key at opens params closes body end) = tt
decl_named ks w (the_role key name opens params closes bar guard body) = tt
decl_named ks w (the_host key at opens entry comma sink closes end) = tt
decl_named ks w (the_switch key at opens into comma out closes ports number end) = tt

decls_named : (ks : List Kind) → AllNamed ks → {i j : ℕ} {ds : List Decl} → Many (DeclAt ks) i ds j → DeclsNamed ds
decls_named ks w no_more = tt
decls_named ks w (one_more h more) = (decl_named ks w h, decls_named ks w more)

both_named : (ds es : List Decl) → DeclsNamed ds → DeclsNamed es → DeclsNamed (ds ++ es)
both_named [] es h k = k
both_named (d ∷ ds) es h k = (h.0, both_named ds es h.1 k)

block_named : (ks : List Kind) → AllNamed ks → {i j : ℕ} {b : Refine} → RefineAt ks i b j → DeclsNamed b.decls
block_named ks w (the_block key at roles within number opens decls closes) = decls_named ks w decls

blocks_named : (ks : List Kind) → AllNamed ks → {i j : ℕ} {bs : List Refine} → Many (RefineAt ks) i bs j → DeclsNamed (flat_map (λ (b : Refine). b.decls) bs)
blocks_named ks w no_more = tt
blocks_named ks w (one_more {x = b} {xs = bs} h more) = both_named b.decls (flat_map (λ (c : Refine). c.decls) bs) (block_named ks w h) (blocks_named ks w more)

pub functions_of_decls : (P : FunctionDecl → Type 0) (Q : Decl → Type 0) → ((f : FunctionDecl) → Q (a_function f) → P f) → (ds : List Decl) → All Q ds → All P (filter_map as_function ds)
functions_of_decls P Q from [] h = λ k d l. absurd (omega (arith, l))
functions_of_decls P Q from (a_function f ∷ ds) h = All-cons P f (filter_map as_function ds) (from f (All-head Q (a_function f) ds h)) (functions_of_decls P Q from ds (All-tail Q (a_function f) ds h))
functions_of_decls P Q from (an_assumption a ∷ ds) h = functions_of_decls P Q from ds (All-tail Q (an_assumption a) ds h)
functions_of_decls P Q from (a_role r ∷ ds) h = functions_of_decls P Q from ds (All-tail Q (a_role r) ds h)
functions_of_decls P Q from (a_host x ∷ ds) h = functions_of_decls P Q from ds (All-tail Q (a_host x) ds h)
functions_of_decls P Q from (a_switch s ∷ ds) h = functions_of_decls P Q from ds (All-tail Q (a_switch s) ds h)

as_all : (ds : List Decl) → DeclsNamed ds → All DeclNamed ds
as_all [] h = λ k d l. absurd (omega (arith, l))
as_all (d ∷ ds) h = All-cons DeclNamed d ds h.0 (as_all ds h.1)

pub functions_named : (text : List ℕ) (d : Design) → Reads text d → All IsNamed (functions d)
functions_named text d r =
    let ks = kinds r.tokens in
    let w : AllNamed ks = tokens_named text r.tokens r.tokens_are in
    let all : take (length d.refines) d.refines ≡ d.refines = take_all (length d.refines) d.refines (omega arith) in
    let blocks : DeclsNamed (flat_map (λ (b : Refine). b.decls) (take (length d.refines) d.refines)) =
    subst (λ bs. DeclsNamed (flat_map (λ (b : Refine). b.decls) bs)) (sym all) (blocks_named ks w r.reads.refines) in
    functions_of_decls IsNamed DeclNamed (λ f h. h) (all_decls d) (as_all (all_decls d) (both_named d.decls (flat_map (λ (b : Refine). b.decls) (take (length d.refines) d.refines)) (decls_named ks w r.reads.decls) blocks))
