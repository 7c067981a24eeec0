-- The widths of parameters and fields of designs that keep the rules.
use Rattle.std.proofs.Common.{◌≡◌, ℕ, zero, suc, ◌%◌, ◌==◌, map, eqb-true, List, [], ◌∷◌, ◌++◌, take, reverse, Bool, true, false, Option, Some, if◌then◌else◌, refl, sym, subst}
use Rattle.std.specs.Prelude.{flat_map, filter_map}
use Rattle.std.proofs.lemmas.List.{reverse-append}
use Rattle.cocoon_num.specs.Names.{named, same_name}
use Rattle.cocoon_num.specs.PacketForms.{AllWhole}
use Rattle.cocoon_num.specs.Packets.{total}
use Rattle.cocoon_num.specs.Tree.{Name, HeaderDecl, Role, Decl, a_function, an_assumption, a_role, a_host, a_switch, Refine, Design}
use Rattle.cocoon_types.specs.Design.{as_role, decls_to, layout, role_at, widths_of}
use Rattle.cocoon_types.specs.RuleParts.{unless_named}
use Rattle.cocoon_types.specs.Rules.{header_width, too_wide}
use Rattle.cocoon_types.specs.TypeRules.{wide_params}
use Rattle.cocoon_resolve.specs.Readers.{all_widths}
use Rattle.cocoon_resolve.specs.Resolved.{Resolves}
use Rattle.runtime_defs.proofs.ParamWidths.{Clean, clean, clean_append, declared_params, nil_left, nil_right}
use Rattle.role_values.specs.DeclaredWidths.{AllDeclared}

-- ---- headers

declared_append : (ws vs : List ℕ) → AllDeclared ws → AllDeclared vs → AllDeclared (ws ++ vs)
declared_append [] vs h k = k
declared_append (w ∷ ws) vs h k = (h.0, h.1, declared_append ws vs h.2 k)

declared_headers : (hs : List HeaderDecl) → flat_map (λ (h : HeaderDecl). wide_params h.fields) hs ≡ [] → AllDeclared (all_widths hs)
declared_headers [] h = tt
declared_headers (d ∷ ds) h =
    let rest = flat_map (λ (h : HeaderDecl). wide_params h.fields) ds in
    declared_append (widths_of d.fields) (all_widths ds) (declared_params d.fields (nil_left (wide_params d.fields) rest h)) (declared_headers ds (nil_right (wide_params d.fields) rest h))

pub headers_declared : (design : Design) → Resolves design → AllDeclared (all_widths design.headers)
headers_declared design r = declared_headers design.headers (nil_left _ _ (nil_left _ _ (nil_left _ _ (nil_left _ _ (r.rules too_wide)))))

one_whole : (n : ℕ) (x : Name) (b : Bool) → (n % 8 == 0) ≡ b → unless_named b x ≡ [] → n % 8 ≡ 0
one_whole n x true e h = eqb-true (n % 8) 0 e
one_whole n x false e h = absurd (cc)

whole_headers : (hs : List HeaderDecl) → flat_map (λ (h : HeaderDecl). unless_named (total (widths_of h.fields) % 8 == 0) h.name) hs ≡ [] → AllWhole (map (λ (h : HeaderDecl). widths_of h.fields) hs)
whole_headers [] h = tt
whole_headers (d ∷ ds) h =
    let own = unless_named (total (widths_of d.fields) % 8 == 0) d.name in
    let rest = flat_map (λ (h : HeaderDecl). unless_named (total (widths_of h.fields) % 8 == 0) h.name) ds in
    (one_whole (total (widths_of d.fields)) d.name (total (widths_of d.fields) % 8 == 0) refl (nil_left own rest h), whole_headers ds (nil_right own rest h))

pub headers_whole : (design : Design) → Resolves design → AllWhole (layout design)
headers_whole design r = whole_headers design.headers (r.rules header_width)

-- ---- roles

abbrev RolesDeclared : List Role → Type 0
RolesDeclared [] = Unit {0}
RolesDeclared (r ∷ rs) = AllDeclared (widths_of r.params) × RolesDeclared rs

roles_append : (rs ss : List Role) → RolesDeclared rs → RolesDeclared ss → RolesDeclared (rs ++ ss)
roles_append [] ss h k = k
roles_append (r ∷ rs) ss h k = (h.0, roles_append rs ss h.1 k)

roles_reverse : (rs : List Role) → RolesDeclared rs → RolesDeclared (reverse rs)
roles_reverse [] h = tt
roles_reverse (r ∷ rs) h = subst RolesDeclared (sym (reverse-append (r ∷ []) rs)) (roles_append (reverse rs) (r ∷ []) (roles_reverse rs h.1) (h.0, tt))

roles_clean : (ds : List Decl) → Clean ds → RolesDeclared (filter_map as_role ds)
roles_clean [] h = tt
roles_clean (a_function f ∷ ds) h = roles_clean ds h.1
roles_clean (an_assumption a ∷ ds) h = roles_clean ds h.1
roles_clean (a_role r ∷ ds) h = (declared_params r.params h.0, roles_clean ds h.1)
roles_clean (a_host x ∷ ds) h = roles_clean ds h.1
roles_clean (a_switch s ∷ ds) h = roles_clean ds h.1

clean_first : (ds es : List Decl) → Clean (ds ++ es) → Clean ds
clean_first [] es h = tt
clean_first (d ∷ ds) es h = (h.0, clean_first ds es h.1)

clean_rest : (ds es : List Decl) → Clean (ds ++ es) → Clean es
clean_rest [] es h = h
clean_rest (d ∷ ds) es h = clean_rest ds es h.1

clean_take : (n : ℕ) (bs : List Refine) → Clean (flat_map (λ (b : Refine). b.decls) bs) → Clean (flat_map (λ (b : Refine). b.decls) (take n bs))
clean_take zero bs h = tt
clean_take (suc n) [] h = tt
clean_take (suc n) (b ∷ bs) h =
    let rest = flat_map (λ (c : Refine). c.decls) bs in
    clean_append b.decls (flat_map (λ (c : Refine). c.decls) (take n bs)) (clean_first b.decls rest h) (clean_take n bs (clean_rest b.decls rest h))

found_step : (b : Bool) (x : Role) (y : Option Role) (r : Role) (P : Role → Type 0) → P x → ((z : Role) → y ≡ Some z → P z) → (if b then Some x else y) ≡ Some r → P r
found_step true x y r P f g h = let e : x ≡ r = cc in subst P e f
found_step false x y r P f g h = g r h

found_declared : (x : List ℕ) (rs : List Role) (r : Role) → RolesDeclared rs → named (λ (r : Role). r.name) x rs ≡ Some r → AllDeclared (widths_of r.params)
found_declared x [] r h e = absurd (cc)
found_declared x (q ∷ rs) r h e =
    found_step (same_name x q.name.text) q (named (λ (r : Role). r.name) x rs) r (λ z. AllDeclared (widths_of z.params)) h.0 (λ z k. found_declared x rs z h.1 k) e

pub roles_declared : (design : Design) → Resolves design → (level : ℕ) (x : List ℕ) (r : Role) → role_at level design x ≡ Some r → AllDeclared (widths_of r.params)
roles_declared design k level x r e =
    let all = clean design k in
    let blocks = flat_map (λ (b : Refine). b.decls) design.refines in
    let some : Clean (decls_to level design) = clean_append design.decls (flat_map (λ (b : Refine). b.decls) (take level design.refines))
    (clean_first design.decls blocks all) (clean_take level design.refines (clean_rest design.decls blocks all)) in
    found_declared x (reverse (filter_map as_role (decls_to level design))) r (roles_reverse (filter_map as_role (decls_to level design)) (roles_clean (decls_to level design) some)) e
