-- The program of a switch keeps the kind rules.
use Rattle.std.proofs.Common.{◌≡◌, inl, inr, ℕ, zero, suc, ◌+◌, ◌<◌, ◌≤◌, ◌^◌, ◌==◌, ◌&&◌, List, [], ◌∷◌, ◌++◌, length, map, reverse, Bool, true, false, cond, Some, None, if◌then◌else◌, option_map, option_and_then, refl, sym, ap, subst, ◌∙◌, arith}
use Rattle.std.specs.Prelude.{filter_map, slice_get}
use Rattle.std.proofs.lemmas.List.{length-map, map-append}
use Rattle.cocoon_num.specs.Lists.{all_distinct, ascend, each, has_number}
use Rattle.cocoon_num.specs.Names.{same_name, named}
use Rattle.cocoon_num.specs.Sorts.{bits_sort, is_declared_width}
use Rattle.cocoon_num.specs.Spelled.{is_spelled}
use Rattle.cocoon_num.specs.Tokens.{kept_if}
use Rattle.cocoon_num.specs.Tree.{Name, Param, ResultKind, of_width, of_truth, Block, FunctionDecl, HeaderDecl, Role, Decl, a_function, an_assumption, a_role, a_host, a_switch, Design}
use Rattle.cocoon_types.specs.Design.{all_decls, as_function, as_role, functions, last_level, widths_of}
use Rattle.cocoon_types.specs.LastLevel.{into_stmts}
use Rattle.cocoon_types.specs.RuleParts.{unless_named}
use Rattle.cocoon_types.specs.Rules.{WellFormed, too_wide}
use Rattle.cocoon_types.specs.Sites.{DeclSite, decl_sites, params_of, stmts_in}
use Rattle.cocoon_types.specs.TypeRules.{wide_params, wide_result}
use Rattle.cocoon_types.specs.Typing.{result_sort}
use Rattle.p4_ir.specs.P4Kinds.{Within, is_meta_name, kinds_fit, meta_sort, names_fit, numbers_of, p4_sort, table_fits, tables_fit, widths_fit}
use Rattle.p4_ir.specs.P4Tree.{P4Field, P4Header, P4Table, field_widths, p_lit, p_port, p_truth}
use Rattle.lowering.specs.Log.{FieldsAt, NumberedTo, tables_in, widths_in}
use Rattle.lowering.specs.Lower.{Counts, Made, a_field, a_table, a_group, callees, field_place, header_place, kind_width, lower_call}
use Rattle.lowering.specs.LowerBlock.{Site}
use Rattle.lowering.specs.LowerSites.{PortOnly}
use Rattle.lowering.specs.Whole.{SwitchRole, role_lowered, role_vars}
use Rattle.lowering.proofs.Numbers.{block_grows, calls_grow, fields_at}
use Rattle.lowering.specs.Roles.{NetParts, net_parts}
use Rattle.lowering.specs.SwitchProgram.{egress_lowered, fields_in, p4_header, switch_made, switch_program}
use Rattle.lowering_correct.specs.Logs.{IsLogOf}
use Rattle.lowering_fits.specs.WideLiterals.{has_params, has_wide_literals, if_some, wide_block, wide_decl}
use Rattle.sound_types.specs.Literals.{DesignLiteralsFit}
use Rattle.sound_types.specs.WellTyped.{IsTyped, scope_at}
use Rattle.sound_types.proofs.Declared.{names_differ, typed_bodies}
use Rattle.sound_types.proofs.Levels.{is_role, role_in, site_at, stands}
use Rattle.sound_types.proofs.Members.{In, all_at, in_filter, in_map, in_reverse, named_there, none_at}
use Rattle.sound_types.proofs.Options.{both_true, true_both, nil_left, nil_right, passes, same_self}
use Rattle.sound_types.proofs.Expressions.{Any}
use Rattle.lowering_correct.proofs.Formed.{Formed, any_in}
use Rattle.lowering_correct.proofs.NetParts.{HasIngress, body_formed, exit_widths, into_are, parts_ingress, role_with}
use Rattle.lowering_fits.proofs.BlockKinds.{SmallSites, Stage, block_kinds}
use Rattle.lowering_fits.proofs.CallKinds.{FunctionsOk, all_calls, group_piece}
use Rattle.lowering_fits.proofs.ExprKinds.{CallPiece, MadeOk, VarsOk, code_fits, field_is, lit_sort}
use Rattle.lowering_fits.proofs.Headers.{headers_fit, names_of, widths_ok}
use Rattle.lowering_fits.proofs.Logged.{AllDeclared, ParamsDeclared, logged_both}
use Rattle.lowering_fits.proofs.MetaNames.{meta_names_fit}
use Rattle.lowering_fits.proofs.SiteKinds.{sites_kinds}
use Rattle.lowering_fits.proofs.Tables.{forked_before_last, numbers_ascend, tables_both, tables_ok}

-- ---- functions of the design

pub is_function : (x : Decl) (g : FunctionDecl) → as_function x ≡ Some g → x ≡ a_function g
is_function (a_function f) g h = let e : f ≡ g = cc in ap a_function e
is_function (an_assumption a) g h = absurd (cc)
is_function (a_role r) g h = absurd (cc)
is_function (a_host x) g h = absurd (cc)
is_function (a_switch x) g h = absurd (cc)

function_in : (d : Design) (g : FunctionDecl) → In g (functions d) → In (a_function g) (all_decls d)
function_in d g i = let t = in_filter as_function (all_decls d) g i in subst (λ x. In x (all_decls d)) (is_function t.0 g t.2) t.1

params_declared : (ps : List Param) → wide_params ps ≡ [] → ParamsDeclared ps
params_declared [] h = tt
params_declared (p ∷ ps) h = (
  passes (is_declared_width p.width) p.name.at (nil_left (unless_named (is_declared_width p.width) p.name) (wide_params ps) h),
  params_declared ps (nil_right (unless_named (is_declared_width p.width) p.name) (wide_params ps) h),
)

result_declared : (x : Name) (k : ResultKind) → (elim k as (λ y. List ℕ) [ of_width w ↦ unless_named (is_declared_width w) x | of_truth ↦ [] ]) ≡ [] → is_declared_width (kind_width k) ≡ true
result_declared x (of_width w) h = passes (is_declared_width w) x.at h
result_declared x of_truth h = refl

functions_ok : (d : Design) → WellFormed d → has_wide_literals d ≡ true → FunctionsOk d
functions_ok d w wide = record {
  differ = names_differ d w;
  declared = λ g i.
      let at = stands d (last_level d) (a_function g) (function_in d g i) in
      let site = site_at d at.level at.before (a_function g) in record {
        params = params_declared g.params (none_at (λ (x : DeclSite). wide_params (params_of x.decl)) (decl_sites d) (nil_right _ _ (nil_left _ _ (nil_left _ _ (nil_left _ _ (w too_wide))))) site at.at);
        result = result_declared g.name g.result (none_at wide_result (decl_sites d) (nil_right _ _ (nil_left _ _ (nil_left _ _ (w too_wide)))) site at.at);
      };
  wide = λ g i. all_at wide_decl (all_decls d) wide (a_function g) (function_in d g i);
}

role_wide : (d : Design) → has_wide_literals d ≡ true → (r : Role) (b : Block) → In r (filter_map as_role (all_decls d)) → r.body ≡ Some b → wide_block b ≡ true
role_wide d wide r b i is =
    let t = in_filter as_role (all_decls d) r i in
    let at : In (a_role r) (all_decls d) = subst (λ x. In x (all_decls d)) (is_role t.0 r t.2) t.1 in
    ap (if_some wide_block) (sym is) ∙ all_at wide_decl (all_decls d) wide (a_role r) at

-- ---- what was made is in the program

widths_are : (ms : List Made) → field_widths (fields_in ms) ≡ widths_in ms
widths_are [] = refl
widths_are (a_field x i w ∷ ms) = ap (λ ws. w ∷ ws) (widths_are ms)
widths_are (a_table t f ps ∷ ms) = widths_are ms
widths_are (a_group t f ps ∷ ms) = widths_are ms

sort_of_field : (fs : List P4Field) (i w : ℕ) → slice_get (field_widths fs) i ≡ Some w → option_map (λ (f : P4Field). bits_sort f.width) (slice_get fs i) ≡ Some (bits_sort w)
sort_of_field [] i w h = absurd (cc)
sort_of_field (f ∷ fs) zero w h = let e : f.width ≡ w = cc in ap (λ v. Some (bits_sort v)) e
sort_of_field (f ∷ fs) (suc i) w h = sort_of_field fs i w h

fields_left : (ws : List ℕ) (xs ys : List Made) → FieldsAt ws (xs ++ ys) → FieldsAt ws xs
fields_left ws [] ys h = tt
fields_left ws (a_field x i w ∷ xs) ys h = (h.0, fields_left ws xs ys h.1)
fields_left ws (a_table t f ps ∷ xs) ys h = fields_left ws xs ys h
fields_left ws (a_group t f ps ∷ xs) ys h = fields_left ws xs ys h

fields_right : (ws : List ℕ) (xs ys : List Made) → FieldsAt ws (xs ++ ys) → FieldsAt ws ys
fields_right ws [] ys h = h
fields_right ws (a_field x i w ∷ xs) ys h = fields_right ws xs ys h.1
fields_right ws (a_table t f ps ∷ xs) ys h = fields_right ws xs ys h
fields_right ws (a_group t f ps ∷ xs) ys h = fields_right ws xs ys h

made_ok : (c : Within) (ws : List ℕ) (ms : List Made) → FieldsAt ws ms → ((i w : ℕ) → slice_get ws i ≡ Some w → meta_sort c.program i ≡ Some (bits_sort w)) → ((t : P4Table) → In t (tables_in ms) → has_number t.number c.tables ≡ true) → MadeOk c ms
made_ok c ws [] h fields tables = tt
made_ok c ws (a_field x i w ∷ ms) h fields tables = (fields i w h.0, made_ok c ws ms h.1 fields tables)
made_ok c ws (a_table t f ps ∷ ms) h fields tables = (tables t (inl refl), made_ok c ws ms h fields (λ u j. tables u (inr j)))
made_ok c ws (a_group t f ps ∷ ms) h fields tables = (tables t (inl refl), made_ok c ws ms h fields (λ u j. tables u (inr j)))

number_in : (ts : List P4Table) (t : P4Table) → In t ts → has_number t.number (numbers_of ts) ≡ true
number_in ts t i = any_in (λ m. t.number == m) (numbers_of ts) t.number (in_map (λ (x : P4Table). x.number) t ts i) (same_self t.number)

small_sites : (k j : ℕ) (xs : List Site) → NumberedTo k xs j → k + length xs ≤ 256 → SmallSites xs
small_sites k j [] h few = tt
small_sites k j (x ∷ xs) h few = (omega (arith, h.0, few), small_sites (suc k) j xs h.1 (omega (arith, few)))

declared_widths : (ms : List Made) → AllDeclared ms → each is_declared_width (field_widths (fields_in ms)) ≡ true
declared_widths [] h = refl
declared_widths (a_field x i w ∷ ms) h = true_both (is_declared_width w) (each is_declared_width (field_widths (fields_in ms))) h.0 (declared_widths ms h.1)
declared_widths (a_table t f ps ∷ ms) h = declared_widths ms h
declared_widths (a_group t f ps ∷ ms) h = declared_widths ms h

each_left : {A : Type 0} (f : A → Bool) (xs ys : List A) → each f (xs ++ ys) ≡ true → each f xs ≡ true
each_left f [] ys h = refl
each_left f (x ∷ xs) ys h = let both = both_true (f x) (each f (xs ++ ys)) h in true_both (f x) (each f xs) both.0 (each_left f xs ys both.1)

each_right : {A : Type 0} (f : A → Bool) (xs ys : List A) → each f (xs ++ ys) ≡ true → each f ys ≡ true
each_right f [] ys h = h
each_right f (x ∷ xs) ys h = each_right f xs ys (both_true (f x) (each f (xs ++ ys)) h).1

-- ---- the role

abbrev inner_within : SwitchRole → ℕ → Within
inner_within r s = record { program = switch_program r s; in_ingress = true; tables = numbers_of (tables_in (role_lowered r s).made) }

abbrev outer_within : SwitchRole → ℕ → Within
outer_within r s = record { program = switch_program r s; in_ingress = false; tables = numbers_of (tables_in (egress_lowered r s).made) }

found_one : (d : Design) → FunctionsOk d → (f : List ℕ) (g h : FunctionDecl) → named (λ (x : FunctionDecl). x.name) f (functions d) ≡ Some g → named (λ (x : FunctionDecl). x.name) f (reverse (functions d)) ≡ Some h → g ≡ h
found_one d ok f g h p q =
    let x = named_there (λ (y : FunctionDecl). y.name) f (functions d) g p in
    let y = named_there (λ (z : FunctionDecl). z.name) f (reverse (functions d)) h q in
    ok.differ g h x.0 (in_reverse h (functions d) y.0) (sym x.1 ∙ y.1)

-- for any control of a program with the design's headers and the field `site`
stage : (d : Design) → WellFormed d → DesignLiteralsFit d → FunctionsOk d → (parts : NetParts) (g : HasIngress d parts) (c out : Within) → c.program.headers ≡ map p4_header d.headers → meta_sort c.program 0 ≡ Some (bits_sort 8) → out.program ≡ c.program
    → Stage d (last_level d) g.switch.name.text parts.switches.out.text c out (callees d.headers (reverse (functions d)) g.port.name.text)
stage d w l ok parts g c out headers first same =
    let calls = all_calls d ok c (typed_bodies d w l) in record {
      ready = λ ps. record {
        headers_are = refl;
        fields = λ h f v there e.
            ap (λ hs. option_and_then (λ (x : P4Header). option_map (λ (y : P4Field). bits_sort y.width) (slice_get x.fields (field_place d.headers h f))) (slice_get hs (header_place d.headers h))) headers
            ∙ field_is d.headers h f v e;
        calls = λ f u any found es n.
            let t = named_there (λ (x : FunctionDecl). x.name) f (functions d) u found in
            subst (λ y. CallPiece c (widths_of u.params) (result_sort u.result) es n (lower_call d.headers (reverse (functions d)) y es n)) (sym t.1) (calls u t.0 es n);
      };
      groups = λ f u is es n. group_piece c (reverse (functions d)) f u (λ h i. ok.declared h (in_reverse h (functions d) i)) is es n;
      exits = exit_widths d w parts.switches g.switches_are;
      found_same = found_one d ok;
      site_field = first;
      same = same;
    }

-- both parameters are read as their numbers
params_read : (c : Within) (a b : Param) (s : ℕ) (headers : List HeaderDecl) (fs : List FunctionDecl) (body : Block) → c.in_ingress ≡ true → a.width ≡ 16 → b.width ≡ 16 → s < 2 ^ 16
    → VarsOk c (a ∷ b ∷ []) (role_vars (record { headers = headers; functions = fs; switch = a.name.text; port = b.name.text; body = body }) s) Any
params_read c a b s headers fs body ingress p q fits x w v is = by_first (same_name x a.name.text) is
  where
    by_second : (t : Bool) → option_map (λ (y : Param). y.width) (cond t (Some b) None) ≡ Some w → p4_sort c (if t then p_port else p_truth false) ≡ Some (bits_sort w)
    by_second true k =
        let e : b.width ≡ w = cc in ap (λ z. kept_if z (bits_sort 16)) ingress ∙ ap (λ z. Some (bits_sort z)) (sym q ∙ e)
    by_second false k = absurd (cc)

    by_first : (t : Bool) → option_map (λ (y : Param). y.width) (cond t (Some a) (named (λ (y : Param). y.name) x (b ∷ []))) ≡ Some w
        → p4_sort c (if t then p_lit 16 s else (if same_name x b.name.text then p_port else p_truth false)) ≡ Some (bits_sort w)
    by_first true k = let e : a.width ≡ w = cc in lit_sort c 16 s refl fits ∙ ap (λ z. Some (bits_sort z)) (sym p ∙ e)
    by_first false k = by_second (same_name x b.name.text) k

-- ---- the program

-- with the parameters and the body of the ingress role
program_kinds : (d : Design) → WellFormed d → DesignLiteralsFit d → has_wide_literals d ≡ true → has_params d ≡ true → is_spelled d ≡ true → (parts : NetParts) (g : HasIngress d parts) → (s : ℕ) → s < 2 ^ 16
    → IsLogOf d (switch_made (role_with d g.switch g.port g.body) s) → length (tables_in (switch_made (role_with d g.switch g.port g.body) s)) ≤ 256 → length (role_lowered (role_with d g.switch g.port g.body) s).sites ≤ 255
    → length (switch_made (role_with d g.switch g.port g.body) s) ≤ 2 ^ 64 → kinds_fit (switch_program (role_with d g.switch g.port g.body) s) ≡ true
program_kinds d w l wide params spelled parts g s fits log few_tables few_sites few_made =
    let q = role_with d g.switch g.port g.body in
    let p = switch_program q s in
    let i = last_level d in
    let own = g.switch.name.text in
    let exit = parts.switches.out.text in
    let k = callees d.headers (reverse (functions d)) g.port.name.text in
    let c = inner_within q s in
    let out = outer_within q s in
    let a = role_lowered q s in
    let b = egress_lowered q s in
    let ms = switch_made q s in
    let ok = functions_ok d w wide in
    let role_there = role_in i d parts.switches.into.text g.role g.role_is in
    let body_wide = role_wide d wide g.role g.body role_there.0 g.body_is in
    let f = body_formed d w l parts g in
    let here = stage d w l ok parts g c out refl refl refl in
    let there = stage d w l ok parts g out out refl refl refl in
    let two : List Param = g.switch ∷ g.port ∷ [] in
    let vars = role_vars q s in
    let start : Counts = record { app = 0; var = 0; field = 1; site = 1 } in
    let only : PortOnly g.port.name.text vars = (inl tt, (inr (refl, refl), tt)) in
    let formed = subst (λ ps. Formed (reverse (functions d)) own exit false ps g.body) g.params_are f.1 in
    let piece = block_kinds d i own exit c out k Any here false g.body two (subst (λ ps. IsTyped (scope_at d i ps true) g.body) g.params_are f.0) formed body_wide vars (λ e. (refl, only)) (λ y j. tt) start in
    let read = params_read c g.switch g.port s d.headers (reverse (functions d)) g.body refl g.switch_width g.port_width fits in
    let ws : List ℕ = 8 ∷ widths_in ms in
    let at = fields_at 0 log.past_fields log.past_tables ms log.placed in
    let meta : (n v : ℕ) → slice_get ws n ≡ Some v → meta_sort p n ≡ Some (bits_sort v) = λ n v e. sort_of_field p.meta n v (ap (λ xs. slice_get (8 ∷ xs) n) (widths_are ms) ∙ e) in
    let in_ok = made_ok c ws a.made (fields_left ws a.made b.made at) meta (number_in (tables_in a.made)) in
    let out_ok = made_ok out ws b.made (fields_right ws a.made b.made at) meta (number_in (tables_in b.made)) in
    let small = small_sites 1 a.next.site a.sites (block_grows k (calls_grow d.headers (reverse (functions d)) g.port.name.text) g.body vars start).1 (omega (arith, few_sites)) in
    let first = piece.kinds in_ok read small in
    let sites = sites_kinds d i own exit out k there refl a.sites first.2 a.next in
    let code = sites.kinds out_ok small in
    let logged = logged_both start a.next b.next a.made b.made piece.logged sites.logged in
    let names = meta_names_fit ms b.next.app b.next.var logged.names few_made in
    let headers = headers_fit d w spelled in
    let size : length p.meta ≡ length ws = sym (length-map p.meta (λ (x : P4Field). x.width)) ∙ ap (λ xs. length (8 ∷ xs)) (widths_are ms) in
    let all_before_last = forked_before_last d own exit g.body two formed (subst (λ ps. into_stmts d ≡ stmts_in (scope_at d i ps true) false g.body) g.params_are (into_are d parts g)) in
    let tables = tables_ok d ok.differ params all_before_last p ws size 1 0 log.past_fields log.past_tables ms log.placed log.tables (omega (arith, few_tables)) in
    let both : each (table_fits p) (tables_in a.made ++ tables_in b.made) ≡ true = ap (each (table_fits p)) (sym (tables_both a.made b.made)) ∙ tables in
    let rising : ascend (numbers_of (tables_in a.made) ++ numbers_of (tables_in b.made)) ≡ true =
    ap ascend (sym (map-append (λ (x : P4Table). x.number) (tables_in a.made) (tables_in b.made)) ∙ ap numbers_of (sym (tables_both a.made b.made))) ∙ numbers_ascend 1 log.past_fields log.past_tables ms log.placed in
    let names_ok : names_fit p ≡ true =
    true_both ((each names_of p.headers && all_distinct (map (λ (h : P4Header). h.name) p.headers)) && each (λ (x : P4Field). is_meta_name x.name) p.meta) (all_distinct (map (λ (x : P4Field). x.name) p.meta))
    (true_both (each names_of p.headers && all_distinct (map (λ (h : P4Header). h.name) p.headers)) (each (λ (x : P4Field). is_meta_name x.name) p.meta)
    (true_both (each names_of p.headers) (all_distinct (map (λ (h : P4Header). h.name) p.headers)) headers.names headers.distinct) names.forms) names.distinct in
    let widths_ok' : widths_fit p ≡ true =
    true_both (each widths_ok p.headers) (each is_declared_width (field_widths p.meta)) headers.widths (declared_widths ms logged.declared) in
    let tables_ok' : tables_fit p ≡ true =
    true_both (each (table_fits p) (tables_in a.made) && each (table_fits p) (tables_in b.made)) (ascend (numbers_of (tables_in a.made) ++ numbers_of (tables_in b.made)))
    (true_both (each (table_fits p) (tables_in a.made)) (each (table_fits p) (tables_in b.made)) (each_left (table_fits p) (tables_in a.made) (tables_in b.made) both) (each_right (table_fits p) (tables_in a.made) (tables_in b.made) both)) rising in
    true_both (((names_fit p && widths_fit p) && tables_fit p) && code_fits c a.code) (code_fits out b.code)
    (true_both ((names_fit p && widths_fit p) && tables_fit p) (code_fits c a.code)
    (true_both (names_fit p && widths_fit p) (tables_fit p) (true_both (names_fit p) (widths_fit p) names_ok widths_ok') tables_ok') first.0) code

pub programs_are_kinded : (d : Design) → WellFormed d → DesignLiteralsFit d → has_wide_literals d ≡ true → has_params d ≡ true → is_spelled d ≡ true → (parts : NetParts) → net_parts d ≡ Some parts → (s : ℕ) → s < 2 ^ 16
    → IsLogOf d (switch_made parts.role s) → length (tables_in (switch_made parts.role s)) ≤ 256 → length (role_lowered parts.role s).sites ≤ 255 → length (switch_made parts.role s) ≤ 2 ^ 64
    → kinds_fit (switch_program parts.role s) ≡ true
programs_are_kinded d w l wide params spelled parts is s fits =
    let g = parts_ingress d w parts is in
    subst (λ r. IsLogOf d (switch_made r s) → length (tables_in (switch_made r s)) ≤ 256 → length (role_lowered r s).sites ≤ 255 → length (switch_made r s) ≤ 2 ^ 64 → kinds_fit (switch_program r s) ≡ true) (sym g.role_with_is)
    (program_kinds d w l wide params spelled parts g s fits)
