-- Names that stand twice in a list that grows.
use Rattle.std.proofs.Common.{◌≡◌, ℕ, suc, ◌||◌, ◌&&◌, ◌==◌, Bool, true, false, not, List, [], ◌∷◌, ◌++◌, map, Option, Some, None, if◌then◌else◌, is_some, refl, sym, ap, ap₂, subst, ◌∙◌, append_assoc, append-nil, ◌+◌, ◌<◌, length, take, get_or, take_all, le_refl}
use Rattle.std.specs.Prelude.{option_map, filter_map, flat_map, bytes_eq}
use Rattle.std.specs.List.{cons_option}
use Rattle.std.proofs.lemmas.List.Concat.{flat_map-append}
use Rattle.cocoon_num.specs.Tree.{Name, Decl, FunctionDecl, HostDecl, Refine, Design}
use Rattle.cocoon_types.specs.Design.{as_function, host_decl, all_decls}
use Rattle.cocoon_types.specs.NameRules.{sink_refined_at}
use Rattle.cocoon_num.specs.Names.{same_name}
use Rattle.cocoon_types.specs.Rules.{Rule, twice}
use Rattle.cocoon_types.specs.RuleParts.{unless_named, has_name, repeated}
use Rattle.cocoon_types.specs.FirstFault.{Fault}
use Rattle.cocoon_types.specs.Noting.{Notes}
use Rattle.declarations.specs.NameNumbers.{index_of, number_of}
use Rattle.numbering.specs.declared.name_table.NameTable.{NameTable}
use Rattle.cocoon_types.specs.Among.{among, AmongLaws}
use Rattle.name_rules.specs.Among.{Seen, again, function_names, unless_other, sink_in}
use Rattle.name_rules.proofs.AmongFacts.{taken}

abbrev pub text : Name → List ℕ
text n = n.text

-- a table finds the names that it has
found : (x : List ℕ) (ns : List Name) → is_some (index_of x (map text ns)) ≡ has_name x ns
found x [] = refl
found x (n ∷ ns) = by (same_name x n.text) (index_of x (map text ns)) (found x ns)
  where
    by : (b : Bool) (o : Option ℕ) → is_some o ≡ has_name x ns → is_some (if b then Some 0 else option_map suc o) ≡ b || has_name x ns
    by true o e = refl
    by false None e = e
    by false (Some i) e = e

pub seen-found : (t : NameTable) (ns : List Name) (x : List ℕ) → Seen t ns → is_some (number_of t x) ≡ has_name x ns
seen-found t ns x h = ap is_some (h.numbers x) ∙ found x ns

pub has-append : (x : List ℕ) (ns ms : List Name) → has_name x (ns ++ ms) ≡ has_name x ns || has_name x ms
has-append x [] ms = refl
has-append x (n ∷ ns) ms = by (same_name x n.text) (has_name x ns) (has_name x ms) (has_name x (ns ++ ms)) (has-append x ns ms)
  where
    by : (a b c r : Bool) → r ≡ b || c → a || r ≡ (a || b) || c
    by true b c r e = refl
    by false b c r e = e

repeated-alike : (s t : List Name) → ((x : List ℕ) → has_name x s ≡ has_name x t) → (ns : List Name) → repeated s ns ≡ repeated t ns
repeated-alike s t e [] = refl
repeated-alike s t e (n ∷ ns) = ap₂ (λ b l. unless_named (not b) n ++ l) (e n.text) (repeated-alike (n ∷ s) (n ∷ t) (λ x. ap (λ b. same_name x n.text || b) (e x)) ns)

moved : (n : Name) (s ns : List Name) (x : List ℕ) → has_name x (n ∷ s ++ ns) ≡ has_name x (s ++ n ∷ ns)
moved n s ns x = ap (λ b. same_name x n.text || b) (has-append x s ns) ∙ by (same_name x n.text) (has_name x s) (has_name x ns) ∙ sym (has-append x s (n ∷ ns))
  where
    by : (a b c : Bool) → a || (b || c) ≡ b || (a || c)
    by true true c = refl
    by true false c = refl
    by false b c = refl

-- those of more names, after these
pub repeated-append : (seen ns ms : List Name) → repeated seen (ns ++ ms) ≡ repeated seen ns ++ repeated (seen ++ ns) ms
repeated-append seen [] ms = ap (λ s. repeated s ms) (sym (append-nil seen))
repeated-append seen (n ∷ ns) ms =
    ap (λ l. unless_named (not (has_name n.text seen)) n ++ l) (repeated-append (n ∷ seen) ns ms ∙ ap (λ l. repeated (n ∷ seen) ns ++ l) (repeated-alike (n ∷ seen ++ ns) (seen ++ n ∷ ns) (moved n seen ns) ms))
    ∙ sym (append_assoc (unless_named (not (has_name n.text seen)) n) (repeated (n ∷ seen) ns) (repeated (seen ++ n ∷ ns) ms))

pub repeated-push : (seen ns : List Name) (n : Name) → repeated seen (ns ++ n ∷ []) ≡ repeated seen ns ++ again (seen ++ ns) n
repeated-push seen ns n = repeated-append seen ns (n ∷ []) ∙ ap (λ l. repeated seen ns ++ l) (append-nil (again (seen ++ ns) n))

-- one name more
pub notes-again : AmongLaws → (rule : Rule) (seen ns ms : List Name) (n : Name) (a b c : Option Fault) → ms ≡ ns ++ n ∷ []
    → Notes (among rule (repeated seen ns)) a b → Notes (among rule (again (seen ++ ns) n)) b c → Notes (among rule (repeated seen ms)) a c
notes-again laws rule seen ns ms n a b c e h k = subst (λ l. Notes (among rule l) a c) (sym (ap (repeated seen) e ∙ repeated-push seen ns n)) (laws.append rule (repeated seen ns) (again (seen ++ ns) n) a b c h k)

pub seen-again : (t : NameTable) (ns ms : List Name) (n : Name) → ms ≡ ns ++ n ∷ [] → Seen t (ns ++ n ∷ []) → Seen t ms
seen-again t ns ms n e h = subst (Seen t) (sym e) h

-- ---- tests on names

pub bytes_same : (x y : List ℕ) → bytes_eq x y ≡ same_name x y
bytes_same [] [] = refl
bytes_same [] (b ∷ y) = refl
bytes_same (a ∷ x) [] = refl
bytes_same (a ∷ x) (b ∷ y) = ap (λ t. (a == b) && t) (bytes_same x y)

pub none-found : (t : NameTable) (ns : List Name) (x y : List ℕ) (o : Option ℕ) (b : Bool) → Seen t ns → is_some o ≡ not b → o ≡ number_of t y → y ≡ x → b ≡ not (has_name x ns)
none-found t ns x y o b h e f g = by b ∙ ap not (sym e ∙ ap is_some (f ∙ ap (number_of t) g) ∙ seen-found t ns x h)
  where
    by : (b : Bool) → b ≡ not (not b)
    by true = refl
    by false = refl

-- ---- functions by name

abbrev pub called : FunctionDecl → Name
called f = f.name

picked-append : {X Y : Type 0} (h : X → Option Y) (xs ys : List X) → filter_map h (xs ++ ys) ≡ filter_map h xs ++ filter_map h ys
picked-append h [] ys = refl
picked-append {Y = Y} h (x ∷ xs) ys = by (h x) (picked-append h xs ys)
  where
    by : (o : Option Y) → filter_map h (xs ++ ys) ≡ filter_map h xs ++ filter_map h ys → cons_option o (filter_map h (xs ++ ys)) ≡ cons_option o (filter_map h xs) ++ filter_map h ys
    by None ih = ih
    by (Some y) ih = ap (λ r. y ∷ r) ih

map-append : {A B : Type 0} (f : A → B) (xs ys : List A) → map f (xs ++ ys) ≡ map f xs ++ map f ys
map-append f [] ys = refl
map-append f (x ∷ xs) ys = ap (λ l. f x ∷ l) (map-append f xs ys)

pub names-append : (ds es : List Decl) → function_names (ds ++ es) ≡ function_names ds ++ function_names es
names-append ds es = ap (map called) (picked-append as_function ds es) ∙ map-append called (filter_map as_function ds) (filter_map as_function es)

pub one-function : (d : Decl) (f : FunctionDecl) → as_function d ≡ Some f → function_names (d ∷ []) ≡ f.name ∷ []
one-function d f e = ap (λ o. map called (cons_option o [])) e

pub no-function : (d : Decl) → as_function d ≡ None → function_names (d ∷ []) ≡ []
no-function d e = ap (λ o. map called (cons_option o [])) e

-- more declarations
pub notes-level : AmongLaws → (names : List Name) (ds es gs : List Decl) (a b c : Option Fault) → gs ≡ ds ++ es
    → Notes (among twice (repeated names (function_names ds))) a b → Notes (among twice (repeated (names ++ function_names ds) (function_names es))) b c → Notes (among twice (repeated names (function_names gs))) a c
notes-level laws names ds es gs a b c e h k =
    subst (λ l. Notes (among twice l) a c) (sym (ap (λ l. repeated names (function_names l)) e ∙ ap (repeated names) (names-append ds es) ∙ repeated-append names (function_names ds) (function_names es)))
    (laws.append twice (repeated names (function_names ds)) (repeated (names ++ function_names ds) (function_names es)) a b c h k)

pub seen-level : (t : NameTable) (names : List Name) (ds es gs : List Decl) → gs ≡ ds ++ es → Seen t ((names ++ function_names ds) ++ function_names es) → Seen t (names ++ function_names gs)
seen-level t names ds es gs e h = subst (Seen t) (append_assoc names (function_names ds) (function_names es) ∙ ap (λ l. names ++ l) (sym (ap function_names e ∙ names-append ds es))) h

-- ---- the sink

flat-flat : (sink : Name) (bs : List Refine) → flat_map (unless_other sink) (flat_map (λ (b : Refine). b.roles) bs) ≡ flat_map (sink_in sink) bs
flat-flat sink [] = refl
flat-flat sink (b ∷ bs) = flat_map-append (unless_other sink) b.roles (flat_map (λ (c : Refine). c.roles) bs) ∙ ap (λ l. sink_in sink b ++ l) (flat-flat sink bs)

pub sink-all : (d : Design) (h : HostDecl) → host_decl d ≡ Some h → flat_map (sink_in h.sink) d.refines ≡ sink_refined_at d
sink-all d h e = sym (flat-flat h.sink d.refines) ∙ sym (ap (λ (o : Option HostDecl). elim o [ None ↦ [] | Some g ↦ flat_map (unless_other g.sink) (flat_map (λ (b : Refine). b.roles) d.refines) ]) e)

pub sink-none : (d : Design) → host_decl d ≡ None → [] ≡ sink_refined_at d
sink-none d e = sym (ap (λ (o : Option HostDecl). elim o [ None ↦ [] | Some g ↦ flat_map (unless_other g.sink) (flat_map (λ (b : Refine). b.roles) d.refines) ]) e)

-- ---- blocks

abbrev pub block_decls : Refine → List Decl
block_decls b = b.decls

pub taken-decls : {A : Type 0} (f : A → Refine) (xs : List A) (i : ℕ) (x : A) → i < length xs → x ≡ get_or xs i x → flat_map block_decls (map f (take (i + 1) xs)) ≡ flat_map block_decls (map f (take i xs)) ++ (f x).decls
taken-decls f xs i x h e = ap (flat_map block_decls) (taken f xs i x h e) ∙ flat_map-append block_decls (map f (take i xs)) (f x ∷ []) ∙ ap (λ l. flat_map block_decls (map f (take i xs)) ++ l) (append-nil (f x).decls)

pub whole : (d : Design) → all_decls d ≡ d.decls ++ flat_map block_decls d.refines
whole d = ap (λ bs. d.decls ++ flat_map block_decls bs) (take_all (length d.refines) d.refines (le_refl (length d.refines)))
