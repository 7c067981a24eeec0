-- Two runs beside each other: their variables and fields, by what a path holds of each.
use Rattle.std.proofs.Common.{◌≡◌, inl, inr, ℕ, List, [], ◌∷◌, ◌++◌, ◌&&◌, cond, Bool, true, false, Option, Some, None, if◌then◌else◌, option_map, option_and_then, refl, sym, ap, subst, ◌∙◌}
use Rattle.cocoon_num.specs.Names.{named, same_name}
use Rattle.cocoon_num.specs.Packets.{Packet}
use Rattle.cocoon_num.specs.Tree.{Expr, HeaderDecl, Name, name, Param}
use Rattle.cocoon_num.specs.Values.{number, Value}
use Rattle.cocoon_types.specs.Design.{field_width, read_field, read_in, write_field, write_in}
use Rattle.cocoon_types.specs.ReadBack.{field_value, FieldValue, Var, var_value, with_field}
use Rattle.cocoon_types.specs.Val.{Binding, Env, variable}

-- what is said of two values of what an expression stands for
abbrev pub Pairs : Type 1
Pairs = Expr → Value → Value → Type 0

-- both are there, and it holds of them, or neither is
abbrev pub Both : (Value → Value → Type 0) → Option Value → Option Value → Type 0
Both P None None = Unit {0}
Both P (Some v) (Some u) = P v u
Both P _ _ = ⊥

-- the variables of a path come first, and those behind them are read alike
abbrev pub VarsBy : Pairs → List Var → Env → Env → Type 0
VarsBy R [] env fs = (at : ℕ) (x : List ℕ) → Both (R (name at x)) (variable env x) (variable fs x)
VarsBy R (v ∷ vs) (b ∷ env) (c ∷ fs) = (b.name ≡ v.name) × (c.name ≡ v.name) × R v.value b.value c.value × VarsBy R vs env fs
VarsBy R _ _ _ = ⊥

-- the fields of a header
abbrev pub HeaderBy : Pairs → (header : List ℕ) → List Param → List FieldValue → (ns ms : List ℕ) → Type 0
HeaderBy R h [] [] [] [] = Unit {0}
HeaderBy R h (p ∷ ps) (v ∷ vs) (n ∷ ns) (m ∷ ms) = (v.header ≡ h) × (v.field ≡ p.name.text) × R v.value (number p.width n) (number p.width m) × HeaderBy R h ps vs ns ms
HeaderBy R _ _ _ _ _ = ⊥

-- those of each header
abbrev pub PacketBy : Pairs → List HeaderDecl → List FieldValue → Packet → Packet → Type 0
PacketBy R [] [] [] [] = Unit {0}
PacketBy R (d ∷ ds) vs (ns ∷ packet) (ms ∷ other) =
    (here rest : List FieldValue) × (vs ≡ here ++ rest) × HeaderBy R d.name.text d.fields here ns ms × PacketBy R ds rest packet other
PacketBy R _ _ _ _ = ⊥

-- ---- reading

pick_by : (R : Pairs) (e f : Expr) (v u : Value) (x y : Option Value) (s t r : Bool) → s ≡ r → t ≡ r → R e v u → Both (R f) x y
    → Both (R (if r then e else f)) (if s then Some v else x) (if t then Some u else y)
pick_by R e f v u x y true true true p q h k = h
pick_by R e f v u x y false false false p q h k = k
pick_by R e f v u x y true t false p q h k = absurd (cc)
pick_by R e f v u x y false t true p q h k = absurd (cc)
pick_by R e f v u x y true false true p q h k = absurd (cc)
pick_by R e f v u x y false true false p q h k = absurd (cc)

pub var_by : (R : Pairs) (vs : List Var) (env fs : Env) (at : ℕ) (x : List ℕ) → VarsBy R vs env fs → Both (R (var_value vs at x)) (variable env x) (variable fs x)
var_by R [] env fs at x h = h at x
var_by R (v ∷ vs) [] fs at x h = absurd h
var_by R (v ∷ vs) (b ∷ env) [] at x h = absurd h
var_by R (v ∷ vs) (b ∷ env) (c ∷ fs) at x h =
    pick_by R v.value (var_value vs at x) b.value c.value (variable env x) (variable fs x) (same_name x b.name) (same_name x c.name) (same_name x v.name)
    (ap (same_name x) h.0) (ap (same_name x) h.1) h.2 (var_by R vs env fs at x h.3)

and_true : (a b : Bool) → a ≡ true → (a && b) ≡ b
and_true true b h = refl
and_true false b h = absurd (cc)

and_false : (a b : Bool) → a ≡ false → (a && b) ≡ false
and_false true b h = absurd (cc)
and_false false b h = refl

in_header : (R : Pairs) (h f : Name) (d : List ℕ) (ps : List Param) (here rest : List FieldValue) (ns ms : List ℕ) → same_name h.text d ≡ true → HeaderBy R d ps here ns ms
    → Both (R (field_value (here ++ rest) h f)) (read_in ps ns f.text) (read_in ps ms f.text)
in_header R h f d [] [] rest [] [] s k = tt
in_header R h f d [] (v ∷ here) rest ns ms s k = absurd k
in_header R h f d [] [] rest (n ∷ ns) ms s k = absurd k
in_header R h f d [] [] rest [] (m ∷ ms) s k = absurd k
in_header R h f d (p ∷ ps) [] rest ns ms s k = absurd k
in_header R h f d (p ∷ ps) (v ∷ here) rest [] ms s k = absurd k
in_header R h f d (p ∷ ps) (v ∷ here) rest (n ∷ ns) [] s k = absurd k
in_header R h f d (p ∷ ps) (v ∷ here) rest (n ∷ ns) (m ∷ ms) s k =
    let same : (same_name h.text v.header && same_name f.text v.field) ≡ same_name f.text p.name.text =
    and_true (same_name h.text v.header) (same_name f.text v.field) (ap (same_name h.text) k.0 ∙ s) ∙ ap (same_name f.text) k.1 in
    pick_by R v.value (field_value (here ++ rest) h f) (number p.width n) (number p.width m) (read_in ps ns f.text) (read_in ps ms f.text)
    (same_name f.text p.name.text) (same_name f.text p.name.text) (same_name h.text v.header && same_name f.text v.field) (sym same) (sym same) k.2
    (in_header R h f d ps here rest ns ms s k.3)

else_of : (b : Bool) (x y : Expr) → b ≡ false → (if b then x else y) ≡ y
else_of true x y h = absurd (cc)
else_of false x y h = refl

past_header : (R : Pairs) (h f : Name) (d : List ℕ) (ps : List Param) (here rest : List FieldValue) (ns ms : List ℕ) → same_name h.text d ≡ false → HeaderBy R d ps here ns ms
    → field_value (here ++ rest) h f ≡ field_value rest h f
past_header R h f d [] [] rest ns ms s k = refl
past_header R h f d [] (v ∷ here) rest ns ms s k = absurd k
past_header R h f d (p ∷ ps) [] rest ns ms s k = absurd k
past_header R h f d (p ∷ ps) (v ∷ here) rest [] ms s k = absurd k
past_header R h f d (p ∷ ps) (v ∷ here) rest (n ∷ ns) [] s k = absurd k
past_header R h f d (p ∷ ps) (v ∷ here) rest (n ∷ ns) (m ∷ ms) s k =
    else_of (same_name h.text v.header && same_name f.text v.field) v.value (field_value (here ++ rest) h f)
    (and_false (same_name h.text v.header) (same_name f.text v.field) (ap (same_name h.text) k.0 ∙ s))
    ∙ past_header R h f d ps here rest ns ms s k.3

by_header : (R : Pairs) (e f : Expr) (x y u w : Option Value) (b : Bool) → (b ≡ true → Both (R e) x y) → (b ≡ false → (e ≡ f) × Both (R f) u w) → Both (R e) (if b then x else u) (if b then y else w)
by_header R e f x y u w true h k = h refl
by_header R e f x y u w false h k = let t = k refl in subst (λ z. Both (R z) u w) (sym t.0) t.1

pub field_by : (R : Pairs) (hs : List HeaderDecl) (vs : List FieldValue) (packet other : Packet) (h f : Name) → PacketBy R hs vs packet other
    → Both (R (field_value vs h f)) (read_field hs packet h.text f.text) (read_field hs other h.text f.text)
field_by R [] [] [] [] h f k = tt
field_by R [] (v ∷ vs) packet other h f k = absurd k
field_by R [] [] (ns ∷ packet) other h f k = absurd k
field_by R [] [] [] (ms ∷ other) h f k = absurd k
field_by R (d ∷ ds) vs [] other h f k = absurd k
field_by R (d ∷ ds) vs (ns ∷ packet) [] h f k = absurd k
field_by R (d ∷ ds) vs (ns ∷ packet) (ms ∷ other) h f k =
    let here = k.0 in
    let rest = k.1 in
    subst (λ z. Both (R (field_value z h f)) (read_field (d ∷ ds) (ns ∷ packet) h.text f.text) (read_field (d ∷ ds) (ms ∷ other) h.text f.text)) (sym k.2)
    (by_header R (field_value (here ++ rest) h f) (field_value rest h f) (read_in d.fields ns f.text) (read_in d.fields ms f.text) (read_field ds packet h.text f.text) (read_field ds other h.text f.text)
    (same_name h.text d.name.text)
    (λ s. in_header R h f d.name.text d.fields here rest ns ms s k.3)
    (λ s. (past_header R h f d.name.text d.fields here rest ns ms s k.3, field_by R ds rest packet other h f k.4)))

-- ---- setting

-- a header with a field set, and the fields of the path behind it
abbrev HeaderSet : Pairs → (d : List ℕ) → List Param → (set rest : List FieldValue) → (ns ms : List ℕ) → Type 0
HeaderSet R d ps set rest ns ms = (here : List FieldValue) × (set ≡ here ++ rest) × HeaderBy R d ps here ns ms

set_by : (R : Pairs) (d : List ℕ) (p : Param) (ps : List Param) (v : FieldValue) (here rest : List FieldValue) (n m : ℕ) (ns ms : List ℕ) (h f : Name) (e : Expr) (w k l : ℕ) (b t : Bool)
    → b ≡ t → HeaderBy R d (p ∷ ps) (v ∷ here) (n ∷ ns) (m ∷ ms) → R e (number w k) (number w l)
    → (option_map (λ (q : Param). q.width) (named (λ (q : Param). q.name) f.text ps) ≡ Some w → HeaderSet R d ps (with_field (here ++ rest) h f e) rest (write_in ps ns f.text k) (write_in ps ms f.text l))
    → option_map (λ (q : Param). q.width) (cond t (Some p) (named (λ (q : Param). q.name) f.text ps)) ≡ Some w
    → HeaderSet R d (p ∷ ps) (if b then record v { value = e } ∷ (here ++ rest) else v ∷ with_field (here ++ rest) h f e) rest (if t then k ∷ ns else n ∷ write_in ps ns f.text k) (if t then l ∷ ms else m ∷ write_in ps ms f.text l)
set_by R d p ps v here rest n m ns ms h f e w k l true true q by r later s =
    let is : p.width ≡ w = cc in
    (record v { value = e } ∷ here, refl, (by.0, by.1, subst (λ z. R e (number z k) (number z l)) (sym is) r, by.3))
set_by R d p ps v here rest n m ns ms h f e w k l false false q by r later s =
    let t = later s in
    (v ∷ t.0, ap (λ xs. v ∷ xs) t.1, (by.0, by.1, by.2, t.2))
set_by R d p ps v here rest n m ns ms h f e w k l true false q by r later s = absurd (cc)
set_by R d p ps v here rest n m ns ms h f e w k l false true q by r later s = absurd (cc)

set_in : (R : Pairs) (h f : Name) (e : Expr) (w k l : ℕ) → R e (number w k) (number w l) → (d : List ℕ) (ps : List Param) (here rest : List FieldValue) (ns ms : List ℕ) → same_name h.text d ≡ true
    → HeaderBy R d ps here ns ms → option_map (λ (q : Param). q.width) (named (λ (q : Param). q.name) f.text ps) ≡ Some w
    → HeaderSet R d ps (with_field (here ++ rest) h f e) rest (write_in ps ns f.text k) (write_in ps ms f.text l)
set_in R h f e w k l r d [] here rest ns ms s by q = absurd (cc)
set_in R h f e w k l r d (p ∷ ps) [] rest ns ms s by q = absurd by
set_in R h f e w k l r d (p ∷ ps) (v ∷ here) rest [] ms s by q = absurd by
set_in R h f e w k l r d (p ∷ ps) (v ∷ here) rest (n ∷ ns) [] s by q = absurd by
set_in R h f e w k l r d (p ∷ ps) (v ∷ here) rest (n ∷ ns) (m ∷ ms) s by q =
    set_by R d p ps v here rest n m ns ms h f e w k l (same_name h.text v.header && same_name f.text v.field) (same_name f.text p.name.text)
    (and_true (same_name h.text v.header) (same_name f.text v.field) (ap (same_name h.text) by.0 ∙ s) ∙ ap (same_name f.text) by.1) by r
    (set_in R h f e w k l r d ps here rest ns ms s by.3) q

else_fields : (b : Bool) (x y : List FieldValue) → b ≡ false → (if b then x else y) ≡ y
else_fields true x y h = absurd (cc)
else_fields false x y h = refl

set_past : (R : Pairs) (h f : Name) (e : Expr) (d : List ℕ) (ps : List Param) (here rest : List FieldValue) (ns ms : List ℕ) → same_name h.text d ≡ false → HeaderBy R d ps here ns ms
    → with_field (here ++ rest) h f e ≡ here ++ with_field rest h f e
set_past R h f e d [] [] rest ns ms s k = refl
set_past R h f e d [] (v ∷ here) rest ns ms s k = absurd k
set_past R h f e d (p ∷ ps) [] rest ns ms s k = absurd k
set_past R h f e d (p ∷ ps) (v ∷ here) rest [] ms s k = absurd k
set_past R h f e d (p ∷ ps) (v ∷ here) rest (n ∷ ns) [] s k = absurd k
set_past R h f e d (p ∷ ps) (v ∷ here) rest (n ∷ ns) (m ∷ ms) s k =
    else_fields (same_name h.text v.header && same_name f.text v.field) (record v { value = e } ∷ (here ++ rest)) (v ∷ with_field (here ++ rest) h f e)
    (and_false (same_name h.text v.header) (same_name f.text v.field) (ap (same_name h.text) k.0 ∙ s))
    ∙ ap (λ xs. v ∷ xs) (set_past R h f e d ps here rest ns ms s k.3)

by_place : (R : Pairs) (h f : Name) (e : Expr) (w k l : ℕ) (d : HeaderDecl) (ds : List HeaderDecl) (here rest : List FieldValue) (ns ms : List ℕ) (packet other : Packet) (b : Bool)
    → HeaderBy R d.name.text d.fields here ns ms → PacketBy R ds rest packet other
    → (b ≡ true → option_map (λ (q : Param). q.width) (named (λ (q : Param). q.name) f.text d.fields) ≡ Some w → HeaderSet R d.name.text d.fields (with_field (here ++ rest) h f e) rest (write_in d.fields ns f.text k) (write_in d.fields ms f.text l))
    → (b ≡ false → with_field (here ++ rest) h f e ≡ here ++ with_field rest h f e)
    → (field_width ds h.text f.text ≡ Some w → PacketBy R ds (with_field rest h f e) (write_field ds packet h.text f.text k) (write_field ds other h.text f.text l))
    → option_and_then (λ (c : HeaderDecl). option_map (λ (q : Param). q.width) (named (λ (q : Param). q.name) f.text c.fields)) (cond b (Some d) (named (λ (c : HeaderDecl). c.name) h.text ds)) ≡ Some w
    → PacketBy R (d ∷ ds) (with_field (here ++ rest) h f e) (if b then write_in d.fields ns f.text k ∷ packet else ns ∷ write_field ds packet h.text f.text k)
    (if b then write_in d.fields ms f.text l ∷ other else ms ∷ write_field ds other h.text f.text l)
by_place R h f e w k l d ds here rest ns ms packet other true by more first past later q =
    let t = first refl q in (t.0, rest, t.1, t.2, more)
by_place R h f e w k l d ds here rest ns ms packet other false by more first past later q =
    (here, with_field rest h f e, past refl, by, later q)

pub set_by_width : (R : Pairs) (hs : List HeaderDecl) (vs : List FieldValue) (packet other : Packet) (h f : Name) (e : Expr) (w k l : ℕ) → field_width hs h.text f.text ≡ Some w → R e (number w k) (number w l)
    → PacketBy R hs vs packet other → PacketBy R hs (with_field vs h f e) (write_field hs packet h.text f.text k) (write_field hs other h.text f.text l)
set_by_width R [] vs packet other h f e w k l q r by = absurd (cc)
set_by_width R (d ∷ ds) vs [] other h f e w k l q r by = absurd by
set_by_width R (d ∷ ds) vs (ns ∷ packet) [] h f e w k l q r by = absurd by
set_by_width R (d ∷ ds) vs (ns ∷ packet) (ms ∷ other) h f e w k l q r by =
    let here = by.0 in
    let rest = by.1 in
    subst (λ z. PacketBy R (d ∷ ds) (with_field z h f e) (write_field (d ∷ ds) (ns ∷ packet) h.text f.text k) (write_field (d ∷ ds) (ms ∷ other) h.text f.text l)) (sym by.2)
    (by_place R h f e w k l d ds here rest ns ms packet other (same_name h.text d.name.text) by.3 by.4
    (λ s. set_in R h f e w k l r d.name.text d.fields here rest ns ms s by.3)
    (λ s. set_past R h f e d.name.text d.fields here rest ns ms s by.3)
    (λ s. set_by_width R ds rest packet other h f e w k l s r by.4) q)
