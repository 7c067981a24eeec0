-- What is noted once the bodies of some roles were walked, with one role more.
use Rattle.std.proofs.Common.{◌≡◌, ℕ, suc, ◌+◌, ◌<◌, ◌||◌, Bool, true, false, List, [], ◌∷◌, ◌++◌, map, take, length, get_or, take_all, le_refl, append-nil, append_assoc, Option, Some, None, if◌then◌else◌, is_none, refl, sym, ap, subst, ◌∙◌}
use Rattle.std.specs.Prelude.{filter_map, option_map}
use Rattle.std.specs.List.{list_any}
use Rattle.std.proofs.lemmas.List.{map-append, take_more}
use Rattle.std.proofs.lemmas.List.Concat.{flat_map-append}
use Rattle.std.proofs.lemmas.List.Elements.{filter_map-append}
use Rattle.cocoon_num.specs.Tree.{Stmt, Block, Role, Decl, Refine, Design}
use Rattle.cocoon_num.specs.Names.{same_name}
use Rattle.cocoon_types.specs.Design.{as_role, all_decls}
use Rattle.cocoon_types.specs.FirstFault.{Fault}
use Rattle.cocoon_types.specs.Noting.{Notes, NotingLaws}
use Rattle.cocoon_types.specs.Rules.{not_switch_form, not_wire, last_choice, fork_form}
use Rattle.declarations.specs.NameNumbers.{index_of, number_of}
use Rattle.numbering.specs.declared.name_table.NameTable.{NameTable}
use Rattle.cocoon_types.specs.Among.{among}
use Rattle.form_rules.specs.declared.stmts.Asked.{Asked}
use Rattle.form_rules.specs.Stmts.{stmts_in}
use Rattle.form_rules.specs.Tested.{choice_fails, wire_fails, send_fails, fork_fails, at_stmt, in_block}
use Rattle.form_rules.specs.Walked.{Walked, wire_at, send_at, fork_at, last_body, at_last, in_role, in_roles, role_names_in, block_decls}
use Rattle.form_rules.proofs.Membership.{or_false, any-same, any-append}
use Rattle.form_rules.proofs.RoleFacts.{same-true}

-- ---- one role

module _ (laws : NotingLaws) (d : Design) (x : List ℕ) where
  pub no-body : (o : Option Fault) → last_body d x ≡ [] → Notes (in_role d x) o o
  no-body o e = laws.nothing (in_role d x) o (λ f. ap (list_any (λ a. at_last d x a f)) e)

  pub of-block : (asked : Asked) (b : Block) {o p : Option Fault} → last_body d x ≡ stmts_in b
      → ((a : Stmt) → wire_fails asked.wire a ≡ wire_at d (record { at = 0; text = x }) a)
      → ((a : Stmt) → send_fails asked.sender a ≡ send_at d x a)
      → ((a : Stmt) → fork_fails d asked.sender a ≡ fork_at d x a)
      → Notes (in_block d asked b) o p → Notes (in_role d x) o p
  of-block asked b {o} {p} e hw hs hk m =
      laws.alike (in_block d asked b) (in_role d x) o p
      (λ f. any-same (λ a. at_stmt d asked a f) (λ a. at_last d x a f)
      (λ a. λ i. ((among last_choice (choice_fails a) f || among not_wire (hw a i) f) || among not_switch_form (hs a i) f) || among fork_form (hk a i) f)
      (stmts_in b) ∙ ap (list_any (λ a. at_last d x a f)) (sym e)) m

-- ---- one role more

-- a test of the names holds already, where it holds of a name that is there
there : (p : List ℕ → Bool) (x : List ℕ) (xs : List (List ℕ)) → is_none (index_of x xs) ≡ false → (list_any p xs || p x) ≡ list_any p xs
there p x [] h = absurd (apart h)
  where
    apart : true ≡ false → ⊥
    apart e = cc
there p x (y ∷ ys) h = by (same_name x y) refl (there p x ys)
  where
    first : (a b : Bool) → ((a || b) || a) ≡ (a || b)
    first true b = refl
    first false true = refl
    first false false = refl

    later : (a b c : Bool) → (b || c) ≡ b → ((a || b) || c) ≡ (a || b)
    later true b c e = refl
    later false b c e = e

    mapped : (o : Option ℕ) → is_none (option_map suc o) ≡ is_none o
    mapped None = refl
    mapped (Some n) = refl

    by : (b : Bool) → same_name x y ≡ b → (is_none (index_of x ys) ≡ false → (list_any p ys || p x) ≡ list_any p ys) → ((p y || list_any p ys) || p x) ≡ (p y || list_any p ys)
    by true e ih = ap (λ z. (p y || list_any p ys) || p z) (same-true x y e) ∙ first (p y) (list_any p ys)
    by false e ih = later (p y) (list_any p ys) (p x)
        (ih (sym (mapped (index_of x ys)) ∙ ap (λ b. is_none (if b then Some 0 else option_map suc (index_of x ys))) (sym e) ∙ h))

one-more : (d : Design) (x : List ℕ) (xs : List (List ℕ)) (f : Fault) → in_roles d (xs ++ x ∷ []) f ≡ (in_roles d xs f || in_role d x f)
one-more d x xs f = any-append (λ y. in_role d y f) xs (x ∷ []) ∙ ap (λ b. in_roles d xs f || b) (or_false (in_role d x f))

module _ (laws : NotingLaws) (d : Design) (t : NameTable) (xs : List (List ℕ)) (x : List ℕ) where
  pub new-role : {start o p : Option Fault} → Walked d t xs start o → Notes (in_role d x) o p → Notes (in_roles d (xs ++ x ∷ [])) start p
  new-role {start} {o} {p} h m = laws.alike _ (in_roles d (xs ++ x ∷ [])) start p (λ f. sym (one-more d x xs f)) (laws.in_turn _ _ start o p h.noted m)

  pub old-role : {start o : Option Fault} → Walked d t xs start o → is_none (number_of t x) ≡ false → Notes (in_roles d (xs ++ x ∷ [])) start o
  old-role {start} {o} h e =
      laws.alike (in_roles d xs) (in_roles d (xs ++ x ∷ [])) start o
      (λ f. sym (one-more d x xs f ∙ there (λ y. in_role d y f) x xs (ap is_none (sym (h.names.numbers x)) ∙ e))) h.noted

-- ---- declarations

names-append : (ds es : List Decl) → role_names_in (ds ++ es) ≡ role_names_in ds ++ role_names_in es
names-append ds es = ap (map (λ (r : Role). r.name.text)) (filter_map-append as_role ds es) ∙ map-append (λ (r : Role). r.name.text) (filter_map as_role ds) (filter_map as_role es)

-- more declarations
pub level-more : (d : Design) (t : NameTable) (xs : List (List ℕ)) (ds es all : List Decl) {start o : Option Fault} → all ≡ ds ++ es
    → Walked d t ((xs ++ role_names_in ds) ++ role_names_in es) start o → Walked d t (xs ++ role_names_in all) start o
level-more d t xs ds es all {start} {o} e h =
    subst (λ l. Walked d t l start o)
    (append_assoc xs (role_names_in ds) (role_names_in es) ∙ ap (λ l. xs ++ l) (sym (ap role_names_in e ∙ names-append ds es))) h

pub taken : {A B : Type 0} (g : A → B) (xs : List A) (i : ℕ) (x : A) → i < length xs → x ≡ get_or xs i x → map g (take (i + 1) xs) ≡ map g (take i xs) ++ g x ∷ []
taken g xs i x h e = ap (map g) (take_more xs i x h ∙ ap (λ y. take i xs ++ y ∷ []) (sym e)) ∙ map-append g (take i xs) (x ∷ [])

pub taken-decls : {A : Type 0} (g : A → Refine) (xs : List A) (i : ℕ) (x : A) → i < length xs → x ≡ get_or xs i x
    → block_decls (map g (take (i + 1) xs)) ≡ block_decls (map g (take i xs)) ++ (g x).decls
taken-decls g xs i x h e =
    ap block_decls (taken g xs i x h e) ∙ flat_map-append (λ (b : Refine). b.decls) (map g (take i xs)) (g x ∷ [])
    ∙ ap (λ l. block_decls (map g (take i xs)) ++ l) (append-nil (g x).decls)

pub whole : (d : Design) → all_decls d ≡ d.decls ++ block_decls d.refines
whole d = ap (λ bs. d.decls ++ block_decls bs) (take_all (length d.refines) d.refines (le_refl (length d.refines)))
