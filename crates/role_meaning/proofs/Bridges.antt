-- Tables as definitions of a design have them, and as values by tables see them; and packets of a design's layout.
use Rattle.std.proofs.Common.{◌≡◌, ℕ, suc, ◌<◌, ◌^◌, List, [], ◌∷◌, ◌++◌, All, map, take, drop, length, get_or, Bool, true, false, ◌&&◌, Option, Some, None, option_map, if◌then◌else◌, refl, sym, ap, ◌∙◌}
use Rattle.std.specs.List.{AllZip}
use Rattle.std.proofs.lemmas.Bool.{ltb-true}
use Rattle.cocoon_num.specs.PacketForms.{FieldsFit, PacketFits}
use Rattle.cocoon_num.specs.Tree.{HeaderDecl, Param, ResultKind, of_width, of_truth, Design}
use Rattle.cocoon_num.specs.Values.{fits_width, number}
use Rattle.cocoon_num.specs.FunTables.{looked}
use Rattle.cocoon_num.specs.declared.bits.Bits.{Bits}
use Rattle.cocoon_num.specs.declared.fun_table.FunTable.{FunTable}
use Rattle.cocoon_resolve.specs.Readers.{all_widths}
use Rattle.cocoon_types.specs.Design.{widths_of}
use Rattle.cocoon_types.specs.Tables.{Defs}
use Rattle.cocoon_types.specs.Val.{bind, bound, Env}
use Rattle.role_values.specs.ByTables as by
use Rattle.role_values.specs.DeclaredWidths as declared
use Rattle.role_values.specs.Flat.{packet_of}
use Rattle.role_values.specs.Stands as values
use Rattle.runtime_defs.specs.Places as places
use Rattle.runtime_defs.specs.Stands as defs

declared_same : (ws : List ℕ) → places.AllDeclared ws → declared.AllDeclared ws
declared_same [] h = tt
declared_same (w ∷ ws) h = (h.0, h.1, declared_same ws h.2)

shape_same : (t : Option FunTable) → places.MayHaveShape t → by.MayHaveShape t
shape_same None h = tt
shape_same (Some t) h = record { keys = h.keys; widths = declared_same t.widths h.widths }

pub shapes_same : (tables : List (Option FunTable)) → All places.MayHaveShape tables → All by.MayHaveShape tables
shapes_same tables h = λ k d l. shape_same (get_or tables k d) (h k d l)

fit_same : (ws ns : List ℕ) → by.all_fit_widths ws ns ≡ places.all_fit_widths ws ns
fit_same [] [] = refl
fit_same [] (n ∷ ns) = refl
fit_same (w ∷ ws) [] = refl
fit_same (w ∷ ws) (n ∷ ns) = ap (λ b. fits_width w n && b) (fit_same ws ns)

value_same : (k : ResultKind) (b : Bits) → places.result_value k b ≡ by.result_value k b
value_same (of_width w) b = refl
value_same of_truth b = refl

pub stands_same : (d : Design) (tables : List (Option FunTable)) (F : Defs) → defs.Stands d tables F → values.Stands d tables F
stands_same d tables F h = λ n g there none.
    let s = h n g there none in
    record {
      table = s.table;
      is_there = s.is_there;
      gives = λ ns fit. s.gives ns (sym (fit_same s.table.widths ns) ∙ fit) ∙ ap Some (value_same g.result (looked s.table ns));
    }

pub zip_count : {A B : Type 0} (R : A → B → Type 0) (xs : List A) (ys : List B) → AllZip R xs ys → length ys ≡ length xs
zip_count R [] [] h = refl
zip_count R [] (y ∷ ys) h = absurd h
zip_count R (x ∷ xs) [] h = absurd h
zip_count R (x ∷ xs) (y ∷ ys) h = ap suc (zip_count R xs ys h.1)

-- ---- packets and locations that fit

fits_apart : (ps : List Param) (vs ns : List ℕ) → FieldsFit (widths_of ps ++ vs) ns → FieldsFit (widths_of ps) (take (length ps) ns) × FieldsFit vs (drop (length ps) ns)
fits_apart [] vs ns h = (tt, h)
fits_apart (p ∷ ps) vs [] h = absurd h
fits_apart (p ∷ ps) vs (n ∷ ns) h = let r = fits_apart ps vs ns h.1 in ((h.0, r.0), r.1)

pub packet_fits : (hs : List HeaderDecl) (ns : List ℕ) → FieldsFit (all_widths hs) ns → PacketFits (map (λ (h : HeaderDecl). widths_of h.fields) hs) (packet_of hs ns)
packet_fits [] ns h = tt
packet_fits (d ∷ ds) ns h = let r = fits_apart d.fields (all_widths ds) ns h in (r.0, packet_fits ds (drop (length d.fields) ns) r.1)

fit_step : (b : Bool) (r : Option Env) (k : Env → Env) (env : Env) (P Q : Type 0) → (b ≡ true → P) → ((e : Env) → r ≡ Some e → Q)
    → (if b then option_map k r else None) ≡ Some env → P × Q
fit_step true None k env P Q f g h = absurd (cc)
fit_step true (Some e) k env P Q f g h = (f refl, g e refl)
fit_step false r k env P Q f g h = absurd (cc)

pub bound_fit : (ps : List Param) (ns : List ℕ) (env : Env) → bind ps ns ≡ Some env → FieldsFit (widths_of ps) ns
bound_fit [] [] env h = tt
bound_fit [] (n ∷ ns) env h = absurd (cc)
bound_fit (p ∷ ps) [] env h = absurd (cc)
bound_fit (p ∷ ps) (n ∷ ns) env h =
    fit_step (fits_width p.width n) (bind ps ns) (bound p.name.text (number p.width n)) env (n < 2 ^ p.width) (FieldsFit (widths_of ps) ns)
    (λ e. ltb-true n (2 ^ p.width) e) (λ e k. bound_fit ps ns e k) h
