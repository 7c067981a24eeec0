-- The declarations, blocks and headers of a design, one by one.
use Rattle.std.proofs.Common.{◌≡◌, ℕ, suc, ◌+◌, ◌-◌, ◌%◌, ◌==◌, ◌<◌, ◌≤◌, ◌&&◌, ◌||◌, Bool, not, List, [], ◌∷◌, ◌++◌, map, drop, length, get_or, Option, sym, ap, subst, ◌∙◌, arith}
use Rattle.std.specs.Prelude.{filter_map, option_to_list}
use Rattle.std.specs.List.{list_any}
use Rattle.std.proofs.lemmas.List.{drop_more}
use Rattle.cocoon_num.specs.Tree.{Param, FunctionDecl, Decl, Refine, HeaderDecl, Design}
use Rattle.cocoon_num.specs.Packets.{total}
use Rattle.cocoon_num.specs.Sorts.{is_declared_width}
use Rattle.cocoon_types.specs.RuleParts.{unless}
use Rattle.cocoon_types.specs.Rules.{zero_count, too_wide, header_width}
use Rattle.cocoon_types.specs.Design.{as_function, widths_of}
use Rattle.cocoon_types.specs.TypeRules.{wide_params}
use Rattle.cocoon_types.specs.Sites.{sites_of, sites_from}
use Rattle.cocoon_types.specs.FirstFault.{Fault, rank, is_fault_of}
use Rattle.cocoon_types.specs.Noting.{Notes, NotingLaws}
use Rattle.cocoon_syntax.specs.TreeOf.{decl_of, header_of, param_of, refine_of}
use Rattle.cocoon_syntax.specs.declared.decl.Param.{Param as Parameter}
use Rattle.cocoon_syntax.specs.declared.decl.Decl.{Decl as Declaration}
use Rattle.cocoon_syntax.specs.declared.decl.Refine.{Refine as Refinement}
use Rattle.cocoon_syntax.specs.declared.decl.HeaderDecl.{HeaderDecl as Header}
use Rattle.type_rules.specs.Tests.{fails_if, fails_among, in_decl, in_decls, at_block, in_blocks, in_headers}
use Rattle.type_rules.proofs.Membership.{number-unless, number-unless_not, any-append}
use Rattle.type_rules.proofs.CallTests.{among-append}
use Rattle.type_rules.proofs.DeclParts.{decl_site}
use Rattle.type_rules.proofs.Phase.{swap_middle, of_phase}

-- the next of a list, and the rest
next : {A B : Type 0} (g : A → B) (xs : List A) (i : ℕ) (x : A) → i < length xs → x ≡ get_or xs i x → map g (drop i xs) ≡ g x ∷ map g (drop (i + 1) xs)
next {A} {B} g xs i x l h = ap (map g) (drop_more xs i x l ∙ ap (λ (y : A). y ∷ drop (i + 1) xs) (sym h))

-- ---- widths of fields and parameters

pub widths_step : NotingLaws → (ps : List Parameter) (i : ℕ) (x : Parameter) {o p q : Option Fault} → i < length ps → x ≡ get_or ps i x
    → Notes (fails_if too_wide (not (is_declared_width x.width)) x.name.at) o p → Notes (fails_among too_wide (wide_params (map param_of (drop (i + 1) ps)))) p q
    → Notes (fails_among too_wide (wide_params (map param_of (drop i ps)))) o q
widths_step laws ps i x {o} {p} {q} l h m n =
    subst (λ (ys : List Param). Notes (fails_among too_wide (wide_params ys)) o q) (sym (next param_of ps i x l h))
    (laws.alike _ (fails_among too_wide (wide_params (param_of x ∷ map param_of (drop (i + 1) ps)))) o q
    (λ f. ap (λ (b : Bool). ((rank f.rule == rank too_wide) && b) || fails_among too_wide (wide_params (map param_of (drop (i + 1) ps))) f) (sym (number-unless_not f.at (is_declared_width x.width) x.name.at))
    ∙ sym (among-append too_wide (unless (is_declared_width x.width) x.name.at) (wide_params (map param_of (drop (i + 1) ps))) f))
    (laws.in_turn _ _ o p q m n))

-- the bits over whole bytes, one field more
add_bits : (b w t : ℕ) → ((b + w % 8) % 8 + t) % 8 ≡ (b + (w + t)) % 8
add_bits b w t = omega arith

pub bits_step : (ps : List Parameter) (i b whole : ℕ) (x : Parameter) → i < length ps → x ≡ get_or ps i x
    → (b + total (widths_of (map param_of (drop i ps)))) % 8 ≡ whole
    → ((b + x.width % 8) % 8 + total (widths_of (map param_of (drop (i + 1) ps)))) % 8 ≡ whole
bits_step ps i b whole x l h e =
    add_bits b x.width (total (widths_of (map param_of (drop (i + 1) ps))))
    ∙ ap (λ (qs : List Param). (b + total (widths_of qs)) % 8) (sym (next param_of ps i x l h)) ∙ e

-- ---- headers

pub headers_step : NotingLaws → (hs : List Header) (i : ℕ) (x : Header) {o p q r : Option Fault} → i < length hs → x ≡ get_or hs i x
    → Notes (fails_among too_wide (wide_params (map param_of x.fields.items))) o p
    → Notes (fails_if header_width (not (total (widths_of (map param_of x.fields.items)) % 8 == 0)) x.name.at) p q
    → Notes (in_headers (map header_of (drop (i + 1) hs))) q r → Notes (in_headers (map header_of (drop i hs))) o r
headers_step laws hs i x {o} {p} {q} {r} l h m n k =
    subst (λ (ys : List HeaderDecl). Notes (in_headers ys) o r) (sym (next header_of hs i x l h))
    (laws.alike _ (in_headers (header_of x ∷ map header_of (drop (i + 1) hs))) o r
    (λ f. ap (λ (b : Bool). (fails_among too_wide (wide_params (map param_of x.fields.items)) f || ((rank f.rule == rank header_width) && b)) || in_headers (map header_of (drop (i + 1) hs)) f)
    (sym (number-unless_not f.at (total (widths_of (map param_of x.fields.items)) % 8 == 0) x.name.at)))
    (laws.in_turn _ _ o q r (laws.in_turn _ _ o p q m n) k))

-- ---- declarations

pub decls_step : NotingLaws → (d : Design) (level : ℕ) (before : List FunctionDecl) (ds : List Declaration) (i : ℕ) (x : Declaration) {o p q : Option Fault} → i < length ds → x ≡ get_or ds i x
    → Notes (in_decl (decl_site (before, level) d (decl_of x))) o p
    → Notes (in_decls (sites_of d level (before ++ option_to_list (as_function (decl_of x))) (map decl_of (drop (i + 1) ds)))) p q
    → Notes (in_decls (sites_of d level before (map decl_of (drop i ds)))) o q
decls_step laws d level before ds i x {o} {p} {q} l h m n =
    subst (λ (ys : List Decl). Notes (in_decls (sites_of d level before ys)) o q) (sym (next decl_of ds i x l h)) (laws.in_turn _ _ o p q m n)

-- ---- blocks

pub blocks_step : NotingLaws → (d : Design) (level : ℕ) (before : List FunctionDecl) (bs : List Refinement) (i : ℕ) (x : Refinement) {o p q r : Option Fault} → i < length bs → x ≡ get_or bs i x
    → Notes (fails_if zero_count (x.within == 0) x.at) o p
    → Notes (in_decls (sites_of d level before (map decl_of x.decls.items))) p q
    → Notes (in_blocks d (suc level) (before ++ filter_map as_function (map decl_of x.decls.items)) (map refine_of (drop (i + 1) bs))) q r
    → Notes (in_blocks d level before (map refine_of (drop i bs))) o r
blocks_step laws d level before bs i x {o} {p} {q} {r} l h m n k =
    subst (λ (ys : List Refine). Notes (in_blocks d level before ys) o r) (sym (next refine_of bs i x l h))
    (laws.alike _ (in_blocks d level before (refine_of x ∷ map refine_of (drop (i + 1) bs))) o r
    (λ f. swap_middle (fails_if zero_count (x.within == 0) x.at f) (in_decls (sites_of d level before (map decl_of x.decls.items)) f)
    (list_any (λ b. at_block b f) (map refine_of (drop (i + 1) bs))) (in_decls (sites_from d (suc level) (before ++ filter_map as_function (map decl_of x.decls.items)) (map refine_of (drop (i + 1) bs))) f)
    ∙ (λ j. (((rank f.rule == rank zero_count) && sym (number-unless f.at (x.within == 0) x.at) j) || list_any (λ b. at_block b f) (map refine_of (drop (i + 1) bs)))
    || sym (any-append (λ s. in_decl s f) (sites_of d level before (map decl_of x.decls.items)) (sites_from d (suc level) (before ++ filter_map as_function (map decl_of x.decls.items)) (map refine_of (drop (i + 1) bs)))) j))
    (laws.in_turn _ _ o q r (laws.in_turn _ _ o p q m n) k))

-- ---- a design

pub design_notes : NotingLaws → (d : Design) {o p q r : Option Fault} → Notes (in_headers d.headers) o p
    → Notes (in_decls (sites_of d 0 [] d.decls)) p q → Notes (in_blocks d 1 (filter_map as_function d.decls) d.refines) q r
    → Notes (is_fault_of 2 d) o r
design_notes laws d {o} {p} {q} {r} m n k =
    laws.alike _ (is_fault_of 2 d) o r
    (λ f. swap_middle (in_headers d.headers f) (in_decls (sites_of d 0 [] d.decls) f) (list_any (λ b. at_block b f) d.refines) (in_decls (sites_from d 1 (filter_map as_function d.decls) d.refines) f)
    ∙ ap (λ (x : Bool). (in_headers d.headers f || list_any (λ b. at_block b f) d.refines) || x) (sym (any-append (λ s. in_decl s f) (sites_of d 0 [] d.decls) (sites_from d 1 (filter_map as_function d.decls) d.refines)))
    ∙ sym (of_phase d f.rule f.at))
    (laws.in_turn _ _ o q r (laws.in_turn _ _ o p q m n) k)

-- bits below whole bytes stay as they are
pub few_bits : (b : ℕ) → b < 8 → b ≡ (b + 0) % 8
few_bits b l = omega (arith, l)

-- ---- parameters, the last first

pub params_step : (ps : List Parameter) (n : ℕ) (x : Parameter) (vars new : List Param) → 0 < n → n ≤ length ps → x ≡ get_or ps (n - 1) x
    → vars ≡ map param_of (drop n ps) ++ [] → new ≡ param_of x ∷ vars → new ≡ map param_of (drop (n - 1) ps) ++ []
params_step ps n x vars new some within h hv hnew =
    let back : n - 1 + 1 ≡ n = omega (arith, some) in
    let there : n - 1 < length ps = omega (arith, some, within) in
    hnew ∙ ap (λ (l : List Param). param_of x ∷ l) hv
    ∙ ap (λ (l : List Param). l ++ []) (sym (next param_of ps (n - 1) x there h ∙ ap (λ (k : ℕ). param_of x ∷ map param_of (drop k ps)) back))
