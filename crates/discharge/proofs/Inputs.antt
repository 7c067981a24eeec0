-- Inputs of an arena, one by one.
use Rattle.std.proofs.Common.{◌≡◌, ℕ, ℤ, Bool, zero, suc, ◌+◌, ◌<◌, ◌≤◌, ◌^◌, true, List, [], ◌∷◌, ◌++◌, length, map, take, get_or, Some, None, All, refl, sym, ap, subst, ◌∙◌, arith}
use Rattle.std.specs.Prelude.{slice_get}
use Rattle.std.specs.List.{AllZip}
use Rattle.std.proofs.lemmas.List.{length-append, map-append, map_more}
use Rattle.std.proofs.lemmas.List.Elements.{All-cons, All-head, All-nil, All-tail}
use Rattle.std.proofs.Math.Pow.{pow_mono}
use Rattle.cocoon_num.specs.BitsOf.{value_of}
use Rattle.cocoon_num.specs.Sorts.{is_declared_width}
use Rattle.cocoon_num.specs.Tree.{AssumeDecl, Decl, a_function, an_assumption, a_role, a_host, a_switch, Design, Param}
use Rattle.cocoon_num.specs.Values.{number}
use Rattle.cocoon_num.specs.declared.bits.Bits.{Bits}
use Rattle.cocoon_resolve.specs.Readers.{all_assumptions}
use Rattle.cocoon_syntax.specs.TreeOf.{param_of}
use Rattle.cocoon_syntax.specs.declared.decl.Param.{Param as Declared}
use Rattle.cocoon_types.specs.Design.{all_decls, last_level, widths_of}
use Rattle.cocoon_types.specs.Limits.{as_assumption}
use Rattle.cocoon_types.specs.RuleParts.{unless_named}
use Rattle.cocoon_types.specs.Rules.{WellFormed, too_wide}
use Rattle.cocoon_types.specs.Sites.{DeclSite, decl_sites, params_of}
use Rattle.cocoon_types.specs.TypeRules.{wide_params}
use Rattle.bit_blast.specs.Blasting.{InputRow, MapsInputs}
use Rattle.bit_blast.specs.Readings.{input_bits, number_read}
use Rattle.bv_terms.specs.Arenas.{KeepsTerms, inputs_in, term_at}
use Rattle.bv_terms.specs.TermTrees.{IsWidth, Term, input}
use Rattle.bv_terms.specs.declared.node.Node.{Node}
use Rattle.bv_terms.specs.declared.node.Node.TheVariants.{Input}
use Rattle.expr_terms.specs.Variables.{AreThere, terms_at}
use Rattle.runtime_defs.specs.Places.{AllDeclared}
use Rattle.sound_types.proofs.Levels.{site_at, stands}
use Rattle.sound_types.proofs.Members.{In, at_place, in_filter, none_at}
use Rattle.sound_types.proofs.Options.{nil_left, nil_right, passes}
use Rattle.fun_instances.specs.OwnInputs.{HasInputs, InputsAre}
use Rattle.discharge.specs.Queries.{inputs_from, inputs_read}
use Rattle.discharge.proofs.Lists.{at_there, take_next}
use Rattle.discharge.proofs.Ranges.{from_zero}

-- ---- widths of parameters

is_assumption : (x : Decl) (a : AssumeDecl) → as_assumption x ≡ Some a → x ≡ an_assumption a
is_assumption (a_function f) a h = absurd (cc)
is_assumption (an_assumption b) a h = let e : b ≡ a = cc in ap an_assumption e
is_assumption (a_role r) a h = absurd (cc)
is_assumption (a_host x) a h = absurd (cc)
is_assumption (a_switch x) a h = absurd (cc)

declared : (w : ℕ) → is_declared_width w ≡ true → (1 ≤ w) × (w ≤ 64)
declared w h = grind (arith, h)

all_declared : (ps : List Param) → wide_params ps ≡ [] → AllDeclared (widths_of ps)
all_declared [] h = tt
all_declared (p ∷ ps) h =
    let one = declared p.width (passes (is_declared_width p.width) p.name.at (nil_left (unless_named (is_declared_width p.width) p.name) (wide_params ps) h)) in
    (one.0, one.1, all_declared ps (nil_right (unless_named (is_declared_width p.width) p.name) (wide_params ps) h))

-- the parameters of an assumption have widths of declarations
pub params_declared : (d : Design) → WellFormed d → (i : ℕ) (a : AssumeDecl) → slice_get (all_assumptions d) i ≡ Some a → AllDeclared (widths_of a.params)
params_declared d w i a is =
    let t = in_filter as_assumption (all_decls d) a (at_place (all_assumptions d) i a is) in
    let declared : In (an_assumption a) (all_decls d) = subst (λ x. In x (all_decls d)) (is_assumption t.0 a t.2) t.1 in
    let at = stands d (last_level d) (an_assumption a) declared in
    all_declared a.params
    (none_at (λ (x : DeclSite). wide_params (params_of x.decl)) (decl_sites d) (nil_right _ _ (nil_left _ _ (nil_left _ _ (nil_left _ _ (w too_wide))))) (site_at d at.level at.before (an_assumption a)) at.at)

-- ---- the rows of their bits

abbrev pub row_at : Term → (i w : ℕ) → InputRow
row_at goal i w = record { width = w; bits = input_bits goal i w }

abbrev pub rows_from : Term → ℕ → List ℕ → List InputRow
rows_from goal i [] = []
rows_from goal i (w ∷ ws) = row_at goal i w ∷ rows_from goal (suc i) ws

rows_are : (goal : Term) (rows : List InputRow) (i : ℕ) (ws : List ℕ) → length rows ≡ length ws → ((k w : ℕ) → slice_get ws k ≡ Some w → slice_get rows k ≡ Some (row_at goal (i + k) w)) → rows ≡ rows_from goal i ws
rows_are goal [] i [] e h = refl
rows_are goal [] i (w ∷ ws) e h = absurd (omega (arith, e))
rows_are goal (r ∷ rows) i [] e h = absurd (omega (arith, e))
rows_are goal (r ∷ rows) i (w ∷ ws) e h =
    let zero_on : i + 0 ≡ i = omega arith in
    let one : r ≡ row_at goal (i + 0) w = (let s = h 0 w refl in cc) in
    let first : r ≡ row_at goal i w = one ∙ ap (λ n. row_at goal n w) zero_on in
    let rest = rows_are goal rows (suc i) ws (omega (arith, e))
    (λ k v is. h (suc k) v is ∙ ap (λ n. Some (row_at goal n v)) (let s : i + suc k ≡ suc i + k = omega arith in s)) in
    λ j. first j ∷ rest j

input_node : (nodes : List Node) (i : ℕ) (ids ws : List ℕ) → InputsAre nodes i ids ws → (k w : ℕ) → slice_get ws k ≡ Some w → (id : ℕ) × (slice_get nodes id ≡ Some (Input (i + k) w))
input_node nodes i [] [] h k w is = absurd (cc)
input_node nodes i [] (v ∷ ws) h k w is = absurd h
input_node nodes i (id ∷ ids) [] h k w is = absurd h
input_node nodes i (id ∷ ids) (v ∷ ws) h zero w is =
    let same : v ≡ w = cc in
    let n : i ≡ i + 0 = omega arith in
    (id, h.0.node_ ∙ (λ j. Some (Input (n j) (same j))))
input_node nodes i (id ∷ ids) (v ∷ ws) h (suc k) w is =
    let r = input_node nodes (suc i) ids ws h.1 k w is in
    (r.0, r.1 ∙ ap (λ n. Some (Input n w)) (let s : suc i + k ≡ i + suc k = omega arith in s))

pub rows_of_inputs : (nodes : List Node) (goal : Term) (rows : List InputRow) (ids ws : List ℕ) → MapsInputs nodes goal rows → HasInputs nodes ids ws → rows ≡ rows_from goal 0 ws
rows_of_inputs nodes goal rows ids ws m h =
    rows_are goal rows 0 ws (m.count ∙ h.count)
    (λ k w is. let n = input_node nodes 0 ids ws h.are k w is in m.each_ k n.0 w (n.1 ∙ ap (λ j. Some (Input j w)) (from_zero k)) ∙ ap (λ j. Some (row_at goal j w)) (sym (from_zero k)))

pub rows_narrow : (goal : Term) (i : ℕ) (ws : List ℕ) → AllDeclared ws → All (λ (row : InputRow). row.width ≤ 64) (rows_from goal i ws)
rows_narrow goal i [] h = All-nil (λ (row : InputRow). row.width ≤ 64)
rows_narrow goal i (w ∷ ws) h = All-cons (λ (row : InputRow). row.width ≤ 64) (row_at goal i w) (rows_from goal (suc i) ws) h.1 (rows_narrow goal (suc i) ws h.2)

pub rows_read : (v : _) (goal : Term) (i : ℕ) (ws : List ℕ) → map (λ (row : InputRow). number_read v row.bits) (rows_from goal i ws) ≡ inputs_read v goal i ws
rows_read v goal i [] = refl
rows_read v goal i (w ∷ ws) = ap (λ ns. number_read v (input_bits goal i w) ∷ ns) (rows_read v goal (suc i) ws)

-- ---- what is read of them

at_some : {X : Type 0} (P : X → Type 0) (xs : List X) (k : ℕ) (x : X) → All P xs → slice_get xs k ≡ Some x → P x
at_some P [] k x h e = absurd (cc)
at_some P (y ∷ xs) zero x h e = let is : y ≡ x = cc in subst P is (All-head P y xs h)
at_some P (y ∷ xs) (suc k) x h e = at_some P xs k x (All-tail P y xs h) e

-- a value of a narrow row has at most 64 bits
pub narrow_value : (v : ℤ → Bool) (rows : List InputRow) → All (λ (row : InputRow). row.width ≤ 64) rows → (i : ℕ) → i < length rows → (b : Bits)
    → ((row : InputRow) → slice_get rows i ≡ Some row → value_of b ≡ number row.width (number_read v row.bits)) → b.value < 2 ^ 64
narrow_value v rows narrow i l b h =
    let at = at_there rows i l in
    let width : b.width ≡ at.0.width = (let e = h at.0 at.1 in cc) in
    let few : b.width ≤ 64 = subst (λ w. w ≤ 64) (sym width) (at_some (λ (row : InputRow). row.width ≤ 64) rows i at.0 narrow at.1) in
    let most : 2 ^ b.width ≤ 2 ^ 64 = pow_mono {i = b.width} {j = 64} few in
    let fits = b.fits in
    omega (arith, fits, most)

pub value_read : (w n : ℕ) (b : Bits) → value_of b ≡ number w n → b.value ≡ n
value_read w n b h = cc

-- one value more
pub value_more : (f : InputRow → ℕ) (rows : List InputRow) (i : ℕ) → i < length rows → (values more : List ℕ) (n : ℕ) → values ≡ map f (take i rows) → more ≡ values ++ n ∷ []
    → ((row : InputRow) → slice_get rows i ≡ Some row → n ≡ f row) → more ≡ map f (take (i + 1) rows)
value_more f rows i l values more n so_far pushed h =
    let at = at_there rows i l in
    pushed ∙ (λ j. so_far j ++ h at.0 at.1 j ∷ []) ∙ sym (map-append f (take i rows) (at.0 ∷ [])) ∙ ap (map f) (sym (take_next rows i at.0 at.1))
